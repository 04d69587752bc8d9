-- The exact list of lines without the lists around its items, and what its rows owe so that these lists can be
-- determined.
use Rattle.std.specs.Prelude.{◌≡◌, ℕ, Bool, true, false, ◌==◌, if◌then◌else◌, List, [], ◌∷◌, ◌++◌, length, get_or, map}
use Rattle.std.specs.Prelude.{take, drop, Option, Some, None}
use Rattle.md_engine.specs.declared.configuration.ParseOptions.{ParseOptions}
use Rattle.md_engine.specs.declared.event.Event.{Event}
use Rattle.md_engine.specs.declared.event.Name.{Name}
use Rattle.md_engine.specs.declared.event.Name.TheVariants as n
use Rattle.md_engine.specs.declared.event.Point.{Point}
use Rattle.md_meaning.specs.Containers.{Taken}
use Rattle.md_meaning.specs.Preamble.{without_mark}
use Rattle.md_meaning.specs.Rest.{Rest, after_indent}
use Rattle.md_meaning.specs.State.{At, Container, InFootnote, InItem, InQuote, Path}
use Rattle.md_meaning.specs.Step.{spot_of, step}
use Rattle.md_meaning.specs.Texts.{first_byte}
use Rattle.md_meaning.specs.Tree.{End}
use Rattle.md_events.specs.Events.Nested.{enter, exit}
use Rattle.md_events.specs.Events.Spelled.{Role, role}
use Rattle.md_containers.specs.Listed.{is_item, next_item}
use Rattle.md_events.specs.Exact.Blocks.{events_by, front_line, front_row, front_size, grouped, mark_events, tail, text_lines}
use Rattle.md_events.specs.Exact.Leaves.{leaf}
use Rattle.md_events.specs.Exact.Places.{TextLine, is_same, past, place, whole}
use Rattle.md_events.specs.Exact.Prefixes.{following_all, containers, footnote_prefix, taken_prefixes, item_prefix}
use Rattle.md_events.specs.Exact.Prefixes.{new_containers, quote_prefix}
use Rattle.md_events.specs.Exact.Rows.{Row, container_name, is_blank_role, rows_of}

-- Without lists.

abbrev pub is_list : Name → Bool
is_list n.ListOrdered = true
is_list n.ListUnordered = true
is_list name = false

abbrev pub without_lists : List Event → List Event
without_lists [] = []
without_lists (e ∷ es) = if is_list e.name then without_lists es else e ∷ without_lists es

-- of the lines of a leaf: what is before it, the leaf, and what follows it
abbrev pub unlisted_group : ParseOptions → List Row → List Event
unlisted_group options [] = []
unlisted_group options (row ∷ rows) =
    without_lists row.front ++ events_by options row.role (row ∷ rows) ++ without_lists (tail (row ∷ rows))

abbrev pub unlisted_groups : ParseOptions → List (List Row) → List Event
unlisted_groups options [] = []
unlisted_groups options (group ∷ groups) = unlisted_group options group ++ unlisted_groups options groups

-- The events of a text without its lists: its mark, its frontmatter, and the lines of its body.
abbrev pub unlisted : ParseOptions → List ℕ → List Event
unlisted options source =
    let size = front_size options source in
    let front = map front_row (take size (text_lines source)) in
    mark_events source
    ++ leaf n.Frontmatter (front_line (first_byte (without_mark source))) front ++ tail front
    ++ unlisted_groups options (grouped (rows_of options (At (spot_of End)) (drop size (text_lines source))))

-- Containers, without lists.

abbrev pub opening_prefix : TextLine → Container → Rest → Rest → List Event
opening_prefix line (InQuote kind) r s = quote_prefix line kind r s
opening_prefix line (InItem digits marker width starts_blank) r s = item_prefix line digits r s
opening_prefix line (InFootnote label) r s = footnote_prefix line label r s

-- one that opens, and all that open on a line
abbrev pub plain_begin : TextLine → Container → Rest → Rest → List Event
plain_begin line c r s = enter (container_name c) (place line r) ∷ opening_prefix line c r s

abbrev pub plain_begins : TextLine → Rest → List Taken → List Event
plain_begins line r [] = []
plain_begins line r (t ∷ ts) = plain_begin line t.container r t.rest ++ plain_begins line t.rest ts

-- those that end, the innermost first
abbrev pub plain_ends : List Container → Point → List Event
plain_ends [] p = []
plain_ends (c ∷ cs) p = plain_ends cs p ++ exit (container_name c) p ∷ []

-- What rows owe.

-- no event has such a role
abbrev pub NoneIs : (Role → Bool) → List Event → Type 0
NoneIs f [] = Unit {0}
NoneIs f (e ∷ es) = (f (role e.name) ≡ false) × NoneIs f es

-- a leaf holds no item, and is the next block for what is before it
pub record IsLeaf (bytes : List ℕ) (events : List Event) : Type 0 where
  pub items : NoneIs is_item events
  pub next : (rest : List Event) → next_item bytes (events ++ rest) ≡ None

abbrev pub LeafAllowed : ParseOptions → List ℕ → List Row → Type 0
LeafAllowed options bytes [] = Unit {0}
LeafAllowed options bytes (row ∷ rows) =
    is_blank_role row.role ≡ false → IsLeaf bytes (events_by options row.role (row ∷ rows))

abbrev pub LeavesAllowed : ParseOptions → List ℕ → List (List Row) → Type 0
LeavesAllowed options bytes [] = Unit {0}
LeavesAllowed options bytes (group ∷ groups) = LeafAllowed options bytes group × LeavesAllowed options bytes groups

-- the marker of an item that opens is in the text, a byte after its digits
pub record MarkerAt (bytes : List ℕ) (line : TextLine) (digits : List ℕ) (marker : ℕ) (r : Rest) : Type 0 where
  pub byte : get_or bytes (place line (past (length digits) (after_indent r))).index 0 ≡ marker
  pub one : is_same (past (length digits) (after_indent r)) (past 1 (past (length digits) (after_indent r))) ≡ false

abbrev pub MarkerAllowed : List ℕ → TextLine → Container → Rest → Type 0
MarkerAllowed bytes line (InItem digits marker width starts_blank) r = MarkerAt bytes line digits marker r
MarkerAllowed bytes line c r = Unit {0}

abbrev pub MarkersAllowed : List ℕ → TextLine → Rest → List Taken → Type 0
MarkersAllowed bytes line r [] = Unit {0}
MarkersAllowed bytes line r (t ∷ ts) = MarkerAllowed bytes line t.container r × MarkersAllowed bytes line t.rest ts

abbrev pub LinesAllowed : ParseOptions → List ℕ → Path → List TextLine → Type 0
LinesAllowed options bytes p [] = Unit {0}
LinesAllowed options bytes p (line ∷ lines) =
    let on = taken_prefixes options p (whole line) in
    let inner = following_all (whole line) on in
    MarkersAllowed bytes line inner (new_containers options p (length on == length (containers p)) inner)
    × LinesAllowed options bytes (step options p (whole line)) lines

-- The markers of the items among these containers, the innermost first, before those that were there.

abbrev pub pushed : List ℕ → Option ℕ → List ℕ
pushed markers None = markers
pushed markers (Some marker) = marker ∷ markers
