-- What a row has in front and after it without lists: the containers that open and those that end.
use Rattle.std.proofs.Common.{◌≡◌, List, ◌++◌, drop, ap₂, ◌∙◌, length}
use Rattle.std.specs.Prelude.{◌==◌}
use Rattle.md_engine.specs.declared.configuration.ParseOptions.{ParseOptions}
use Rattle.md_engine.specs.declared.event.Event.{Event}
use Rattle.md_meaning.specs.Containers.{Taken}
use Rattle.md_meaning.specs.Rest.{Rest}
use Rattle.md_meaning.specs.State.{Path}
use Rattle.md_meaning.specs.Step.{step}
use Rattle.md_events.specs.Exact.Places.{TextLine, line_end, place, whole}
use Rattle.md_events.specs.Exact.Prefixes.{begins, following_all, containers, further_prefixes, taken_prefixes, new_containers}
use Rattle.md_events.specs.Exact.Rows.{Row, next_stays, row_of}
use Rattle.proof_exact_lines.specs.Unlisted.{plain_begins, plain_ends, without_lists}
use Rattle.proof_exact_lines.proofs.GroupEvents.{begins-without, ends-without, without-append, without-none}
use Rattle.proof_exact_lines.proofs.ListWalk.{further-none}

-- the prefixes of those that continue, and those that open
pub front-plain : (options : ParseOptions) (p : Path) (line : TextLine) (below : List Row) →
    let on = taken_prefixes options p (whole line) in
    let inner = following_all (whole line) on in
    let new = new_containers options p (length on == length (containers p)) inner in
    without_lists (row_of options p line below).front
    ≡ further_prefixes line (whole line) on ++ plain_begins line inner new
front-plain options p line below =
    let on : List Taken = taken_prefixes options p (whole line) in
    let inner : Rest = following_all (whole line) on in
    let new : List Taken = new_containers options p (length on == length (containers p)) inner in
    let after : Path = step options p (whole line) in
    without-append (further_prefixes line (whole line) on) (begins line after (length on) inner new)
    ∙ ap₂ (λ (a b : List Event). a ++ b)
    (without-none (further_prefixes line (whole line) on) (further-none line (whole line) on))
    (begins-without line after (length on) inner new)

-- those that end
pub ends-plain : (options : ParseOptions) (p : Path) (line : TextLine) (below : List Row) →
    without_lists (row_of options p line below).ends
    ≡ plain_ends (drop (next_stays below) (containers (step options p (whole line)))) (place line (line_end line))
ends-plain options p line below =
    ends-without (next_stays below) (drop (next_stays below) (containers (step options p (whole line))))
    (place line (line_end line)) below
