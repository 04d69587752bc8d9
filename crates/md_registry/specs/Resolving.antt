-- What resolvers make of the events of a text: before content heads of tables are read again, and after it each
-- resolver of a construct that is built sets what is its own.
use Rattle.std.specs.Prelude.{◌≡◌, Bool, ℕ, ◌||◌, if◌then◌else◌, List, Option, None}
use Rattle.md_engine.specs.declared.configuration.ParseOptions.{ParseOptions}
use Rattle.md_engine.specs.declared.event.Event.{Event}
use Rattle.md_engine.specs.declared.resolve.name.Name.{Name as ResolveName}
use Rattle.md_engine.specs.declared.resolve.name.Name.TheVariants as r
use Rattle.md_engine.specs.Found.{Found}
use Rattle.md_engine.specs.World.{World}
use Rattle.md_containers.specs.Listed.{listed}
use Rattle.md_content.specs.Resolves.{Resolves}
use Rattle.md_leaves.specs.HeadingText.{headings_resolved}
use Rattle.md_leaves.specs.Spanned.{spanned}
use Rattle.md_leaves.specs.Turned.{turned}
use Rattle.md_tables.specs.Tabled.{tabled}
use Rattle.proof_leaf_laws.specs.Headed.{heads_read}

-- Whether a leaf of several lines may be on, so that a resolver joins its lines.
unfoldable pub joins_lines : ParseOptions → Bool
joins_lines options =
    options.constructs.code_fenced || options.constructs.math_flow || options.constructs.code_indented
    || options.constructs.html_flow || options.constructs.gfm_table

-- the lines of each leaf of several are joined, where one may be on
abbrev pub lines_joined : ParseOptions → List Event → List Event
lines_joined options es = if joins_lines options then spanned es else es

-- what the resolver of leaves on one line makes of them; it changes nothing where nothing is its own
abbrev pub resolved : List Event → List Event
resolved events = headings_resolved events

-- what each makes of the events of a text: that of no construct that is built changes nothing
abbrev pub resolved_by : List ℕ → ResolveName → List Event → List Event
resolved_by bytes r.HeadingAtx events = resolved events
resolved_by bytes r.HeadingSetext events = turned events
resolved_by bytes r.GfmTable events = tabled events
resolved_by bytes r.ListItem events = listed bytes events
resolved_by bytes _ events = events

-- heads are read again and then content, and the resolvers of constructs that are built set what is their own; the
-- names of the inline layer change nothing
abbrev pub resolved_as : ResolveName → World → Option Found → World → Type 0
resolved_as r.Content old found new =
    Resolves (record old { events = heads_read old.setting.options old.setting.bytes old.events }) found new
resolved_as name old found new =
    (found ≡ None) × (new ≡ record old { events = resolved_by old.setting.bytes name old.events })
