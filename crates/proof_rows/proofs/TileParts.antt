-- The text parts of a text, before they are read, are as its tiling asks: one chunk a line, and no chunk elsewhere.
use Rattle.md_engine.specs.declared.tokenizer.held_leaf.HeldLeaf.TheVariants as held_leaf
use Rattle.md_engine.specs.declared.tokenizer.held_leaf.HeldLeaf.{HeldLeaf}
use Rattle.std.proofs.Common.{◌≡◌, ℕ, Bool, true, false, List, [], ◌∷◌, ◌++◌, refl, ap, sym, ◌∙◌, append-nil}
use Rattle.std.specs.Prelude.{Option, Some, None}
use Rattle.md_engine.specs.declared.configuration.ParseOptions.{ParseOptions}
use Rattle.md_engine.specs.declared.event.Event.{Event}
use Rattle.md_engine.specs.declared.event.Name.{Name}
use Rattle.md_engine.specs.declared.event.Point.{Point}
use Rattle.md_events.specs.Events.Nested.{Nested, pair}
use Rattle.md_events.specs.Events.Places.{first_point}
use Rattle.md_meaning.specs.State.{Container}
use Rattle.md_events.specs.Events.Tiles.{chunks_in_parts, part_kind, are_whole_parts}
use Rattle.proof_frame.specs.EndingName.{ending_name}
use Rattle.proof_frame.specs.Change.{ends_of}
use Rattle.proof_frame.specs.Row.{Row, ending_events}
use Rattle.proof_rows.specs.Rows.{final_row, first_row, front_done, Group, groups, tail_events, group_ending}
use Rattle.proof_rows.specs.Rows.{is_blank_group}
use Rattle.proof_rows.specs.BlockList.{group_unread, tabled_group, tabled_groups}
use Rattle.proof_rows.proofs.GroupLines.{AreGroups}
use Rattle.proof_rows.proofs.GroupsAre.{groups-are}
use Rattle.proof_frame.proofs.FrontNames.{HasFront, ends-no_parts, ends-unlinked}
use Rattle.proof_rows.proofs.JoinedLemmas.{EachNoContent}
use Rattle.proof_frame.proofs.NestedEvents.{Onward, under-none}
use Rattle.md_order.proofs.Nests.Leads.{Under}
use Rattle.proof_rows.proofs.NestedRows.{ByGroups, rows-hold, under-group}
use Rattle.proof_rows.proofs.GroupFacts.{group-front, group-leaf, more-groups}
use Rattle.proof_frame.proofs.ReadAs.{read_as-valid}
use Rattle.proof_rows.proofs.RowFacts.{AreRows}
use Rattle.proof_frame.proofs.PartsValid.{PartsWhole, valid-append, valid-outside}
use Rattle.proof_rows.proofs.TextProgress.{IsShut}
use Rattle.proof_rows.proofs.Begun.{front-nested}
use Rattle.proof_frame.proofs.SpanLemmas.{Nested_in}

-- Events before others.

valid-ending : (bytes : List ℕ) (name : Name) (row : Row) → part_kind name ≡ None →
    PartsWhole bytes (ending_events name row)
valid-ending bytes name row other = go row.after
  where
    go : (after : Option Point) → PartsWhole bytes (elim after [ None ↦ [] | Some q ↦ pair name row.end q ])
    go None = valid-outside bytes [] tt tt
    go (Some q) = valid-outside bytes (pair name row.end q) (other, (other, tt)) (refl, (refl, tt))

-- what is in a line, with what is before it, and after it or a further line
valid-line : (bytes : List ℕ) (name : Name) (row last : Row) (es : List Event) → part_kind name ≡ None →
    HasFront bytes row → PartsWhole bytes es → PartsWhole bytes (row.front ++ es ++ tail_events name last)
valid-line bytes name row last es other front h =
    valid-append bytes (row.front ++ es) (tail_events name last)
    (valid-append bytes row.front es
    (read_as-valid bytes row.front (front_done bytes row) front.2.reads) h)
    (valid-append bytes (ends_of last.closed_after last.end) (ending_events name last)
    (valid-outside bytes (ends_of last.closed_after last.end) (ends-no_parts last.closed_after last.end)
    (ends-unlinked last.closed_after last.end))
    (valid-ending bytes name last other))

-- Groups.

-- a line ending is no text part
pub ending-no_part : (blank : Bool) → part_kind (ending_name blank) ≡ None
ending-no_part true = refl
ending-no_part false = refl

valid-groups : (options : ParseOptions) (bytes : List ℕ) (gs : List Group) → AreGroups options bytes gs →
    PartsWhole bytes (tabled_groups options bytes gs)
valid-groups options bytes [] are = valid-outside bytes [] tt tt
valid-groups options bytes (group ∷ gs) are =
    valid-append bytes (tabled_group options bytes group) (tabled_groups options bytes gs)
    (valid-line bytes (group_ending group) (first_row group) (final_row group) (group_unread options bytes group)
    (ending-no_part (is_blank_group group)) (group-front options bytes group gs are)
    (group-leaf options bytes group gs are).1.stretch.parts)
    (valid-groups options bytes gs (more-groups options bytes group gs are))

rows-are_valid : (options : ParseOptions) (bytes : List ℕ) (cs : List Container) (still : HeldLeaf) (p : Point)
    (lines : List (List ℕ)) (rows : List Row) →
    IsShut still → AreRows options bytes cs still p lines rows → EachNoContent rows →
    PartsWhole bytes (tabled_groups options bytes (groups rows))
rows-are_valid options bytes cs still p lines rows shut are quiet =
    valid-groups options bytes (groups rows) (groups-are options bytes cs still p lines rows shut are quiet)

-- The text parts of a text.
all-are_valid : (bytes : List ℕ) (xs : List Event) → PartsWhole bytes xs → are_whole_parts bytes xs ≡ true
all-are_valid bytes xs h = ap (are_whole_parts bytes) (sym (append-nil xs)) ∙ h.parts []

all-chunks : (bytes : List ℕ) (xs : List Event) → PartsWhole bytes xs → chunks_in_parts 0 xs ≡ true
all-chunks bytes xs h = ap (chunks_in_parts 0) (sym (append-nil xs)) ∙ h.chunks []

-- With the front of a text before them.
blocks-both : (options : ParseOptions) (bytes : List ℕ) (cs : List Container) (still : HeldLeaf) (p : Point)
    (front : List Event) (lines : List (List ℕ)) (rows : List Row) →
    PartsWhole bytes front → IsShut still → AreRows options bytes cs still p lines rows → EachNoContent rows →
    PartsWhole bytes (front ++ tabled_groups options bytes (groups rows))
blocks-both options bytes cs still p front lines rows valid shut are quiet =
    valid-append bytes front (tabled_groups options bytes (groups rows)) valid
    (rows-are_valid options bytes cs still p lines rows shut are quiet)

pub blocks-are_valid : (options : ParseOptions) (bytes : List ℕ) (cs : List Container) (still : HeldLeaf) (p : Point)
    (front : List Event) (lines : List (List ℕ)) (rows : List Row) →
    PartsWhole bytes front → IsShut still → AreRows options bytes cs still p lines rows → EachNoContent rows →
    are_whole_parts bytes (front ++ tabled_groups options bytes (groups rows)) ≡ true
blocks-are_valid options bytes cs still p front lines rows valid shut are quiet =
    all-are_valid bytes (front ++ tabled_groups options bytes (groups rows))
    (blocks-both options bytes cs still p front lines rows valid shut are quiet)

pub blocks-chunks : (options : ParseOptions) (bytes : List ℕ) (cs : List Container) (still : HeldLeaf) (p : Point)
    (front : List Event) (lines : List (List ℕ)) (rows : List Row) →
    PartsWhole bytes front → IsShut still → AreRows options bytes cs still p lines rows → EachNoContent rows →
    chunks_in_parts 0 (front ++ tabled_groups options bytes (groups rows)) ≡ true
blocks-chunks options bytes cs still p front lines rows valid shut are quiet =
    all-chunks bytes (front ++ tabled_groups options bytes (groups rows))
    (blocks-both options bytes cs still p front lines rows valid shut are quiet)

-- Their events nest.

-- these names are open before groups
abbrev Listed : ParseOptions → List ℕ → List Name → Point → List Group → Type 0
Listed options bytes names p gs = Under names p (tabled_groups options bytes gs)

listed-by_groups : (options : ParseOptions) (bytes : List ℕ) → ByGroups options bytes (Listed options bytes)
listed-by_groups options bytes = record {
  none = λ p. record { matches = tt; closed = refl; forward = tt };
  group =
      λ names kept p group gs o keeps on. under-group options bytes names kept p group
      (first_row group).front (group_unread options bytes group)
      (tabled_groups options bytes gs) o.front o.ends keeps o.leaf.1.stretch.unread_nested on;
}

listed-nest : (options : ParseOptions) (bytes : List ℕ) (p : Point) (lines : List (List ℕ)) (rows : List Row) →
    AreRows options bytes [] held_leaf.None p lines rows → Onward p (tabled_groups options bytes (groups rows))
listed-nest options bytes p lines rows are =
    under-none p (tabled_groups options bytes (groups rows))
    (rows-hold options bytes (Listed options bytes) (listed-by_groups options bytes) p lines rows are)

pub blocks-nested : (options : ParseOptions) (bytes : List ℕ) (p : Point) (front : List Event)
    (lines : List (List ℕ)) (rows : List Row) →
    Nested_in first_point p front → AreRows options bytes [] held_leaf.None p lines rows →
    Nested (front ++ tabled_groups options bytes (groups rows))
blocks-nested options bytes p front lines rows front_nests are =
    let nests : Onward p (tabled_groups options bytes (groups rows)) = listed-nest options bytes p lines rows are in
    front-nested p front (tabled_groups options bytes (groups rows)) front_nests nests.balanced nests.forward
