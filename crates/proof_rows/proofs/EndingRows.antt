-- The endings of blank lines are distinguished from others, before the text of a document is read and once it is.
use Rattle.md_engine.specs.declared.tokenizer.held_leaf.HeldLeaf.TheVariants as held_leaf
use Rattle.std.proofs.Common.{◌≡◌, ℕ, Bool, true, false, List, [], ◌∷◌, ◌++◌, refl, ap, sym, ◌∙◌, append_assoc}
use Rattle.std.proofs.Common.{subst, ◌≤◌, length, append-nil}
use Rattle.proof_rows.proofs.GroupLines.{AreSpan, AreGroups, EndsBeforeGroups, IsSingle}
use Rattle.md_registry.specs.Registry.{leaf}
use Rattle.proof_frame.specs.Row.{is_blank_by, last_row, Row, RowKind, ending_events}
use Rattle.proof_rows.specs.Rows.{Headed, LeafLines, Turned, final_row, first_row, front_done, group_done, Group, Lines}
use Rattle.proof_rows.specs.Rows.{Single, group_events, groups, groups_events, tail_events, group_ending}
use Rattle.proof_rows.specs.Rows.{is_blank_group}
use Rattle.std.specs.Prelude.{Option, Some, None, not}
use Rattle.md_engine.specs.declared.configuration.ParseOptions.{ParseOptions}
use Rattle.md_engine.specs.declared.event.Event.{Event}
use Rattle.md_engine.specs.declared.event.Name.{Name}
use Rattle.md_engine.specs.declared.event.Point.{Point}
use Rattle.md_events.specs.Events.Endings.{EndingPlace, endings_are_right, endings_are_right_from, is_filled}
use Rattle.md_events.specs.Events.Endings.{line_start}
use Rattle.md_events.specs.Events.Nested.{exit, pair}
use Rattle.md_meaning.specs.State.{Container}
use Rattle.md_events.proofs.EndingsLemmas.{AreOthers, Leads, leads-append, others-append, others-lead}
use Rattle.proof_frame.specs.ContainerNames.{container_name}
use Rattle.proof_frame.specs.Change.{ends_of}
use Rattle.proof_rows.specs.BlockList.{group_unread, tabled_group, tabled_groups}
use Rattle.proof_frame.proofs.EndingFacts.{ending-leads}
use Rattle.proof_rows.proofs.EachRow.{AsSingle, AsSpan, AsText, Onto, onto}
use Rattle.proof_rows.proofs.GroupsAre.{groups-are}
use Rattle.proof_frame.proofs.FrontNames.{HasFront}
use Rattle.proof_rows.proofs.GroupLemmas.{rows-end}
use Rattle.proof_rows.proofs.JoinedLemmas.{EachEnds, EachNoContent}
use Rattle.proof_frame.proofs.LeafLines.Cuts.{ending-is}
use Rattle.proof_rows.proofs.RowFacts.{AreRows}
use Rattle.proof_frame.proofs.FrontFacts.{LinePrefix}
use Rattle.proof_frame.proofs.FrontValid.{container-others, fronts-others}
use Rattle.proof_rows.proofs.GroupFacts.{group-front, headed-valid, more-groups, single-valid, span-valid}
use Rattle.proof_rows.proofs.GroupFacts.{turned-valid}
use Rattle.proof_rows.proofs.HeadedTable.{headed-is}
use Rattle.proof_frame.proofs.LeafFacts.{EventFacts, spot_after}
use Rattle.proof_rows.proofs.Text.Valid.{text-valid}
use Rattle.proof_rows.proofs.Underlines.{under-filled}
use Rattle.proof_leaf_laws.proofs.Frontmatter.Whole.{Leaves, ToEnd, ToLine}

-- Events that are no ending, and no begin or end of a leaf.

-- the ends of containers
ends-others : (cs : List Container) (p : Point) → AreOthers (ends_of cs p)
ends-others [] p = refl
ends-others (c ∷ cs) p =
    others-append (ends_of cs p) (exit (container_name c) p ∷ []) (ends-others cs p)
    (container-others c (exit (container_name c) p) refl)

-- Groups.

-- after each group but the last is an ending
abbrev pub EachEnded : List Group → Type 0
EachEnded [] = Unit {0}
EachEnded (group ∷ gs) = EndsBeforeGroups (final_row group) gs × EachEnded gs

-- a line goes before groups
onto-ended : (row : Row) (gs all : List Group) → Onto row gs all → EndsBeforeGroups row gs → EachEnded gs → EachEnded
    all
onto-ended row _ _ (AsSingle gs) h k = (h, k)
onto-ended row _ _ (AsText gs) h k = (h, k)
onto-ended row _ _ (AsSpan gs) h k = (h, k)
onto-ended row _ _ _ h k = k

-- so it is with the groups of lines
pub groups-ended : (rows : List Row) → EachEnds rows → EachEnded (groups rows)
groups-ended [] h = tt
groups-ended (row ∷ []) h = onto-ended row [] _ (onto row row.kind []) tt tt
groups-ended (row ∷ below ∷ rows) h =
    onto-ended row (groups (below ∷ rows)) _ (onto row row.kind (groups (below ∷ rows))) (ends (groups (below ∷ rows)))
    (groups-ended (below ∷ rows) h.2)
  where
    ends : (gs : List Group) → EndsBeforeGroups row gs
    ends [] = tt
    ends (group ∷ gs) = (h.0, h.1)

-- the events of groups, by what is in the place of each, with what is before it
abbrev group_with : (Group → List Event) → Group → List Event
group_with leaf group = leaf group ++ tail_events (group_ending group) (final_row group)

abbrev groups_with : (Group → List Event) → List Group → List Event
groups_with leaf [] = []
groups_with leaf (group ∷ gs) = group_with leaf group ++ groups_with leaf gs

-- before text parts are read, and once they are
abbrev unread_leaf : ParseOptions → List ℕ → Group → List Event
unread_leaf options bytes group = (first_row group).front ++ group_unread options bytes group

abbrev read_leaf : ParseOptions → List ℕ → Group → List Event
read_leaf options bytes group = front_done bytes (first_row group) ++ group_done options bytes group

unread-with : (options : ParseOptions) (bytes : List ℕ) (gs : List Group) →
    groups_with (unread_leaf options bytes) gs ≡ tabled_groups options bytes gs
unread-with options bytes [] = refl
unread-with options bytes (group ∷ gs) =
    ap (λ (l : List Event). tabled_group options bytes group ++ l) (unread-with options bytes gs)

read-with : (options : ParseOptions) (bytes : List ℕ) (gs : List Group) →
    groups_with (read_leaf options bytes) gs ≡ groups_events options bytes gs
read-with options bytes [] = refl
read-with options bytes (group ∷ gs) =
    ap (λ (l : List Event). group_events options bytes group ++ l) (read-with options bytes gs)

-- What is known of the leaf of a group: where it is, and whether something is on its last line.
abbrev LeafEnds : ParseOptions → List ℕ → Group → Type 0
LeafEnds options bytes group =
    EventFacts bytes (not (is_blank_group group)) (first_row group).first (final_row group).end
    (group_unread options bytes group) (group_done options bytes group)

-- where the line is after it
abbrev after_group : Group → EndingPlace
after_group group = spot_after (not (is_blank_group group))

-- What is in the place of a group.
abbrev Within : ParseOptions → List ℕ → (Group → List Event) → Type 0
Within options bytes leaf =
    (group : Group) → HasFront bytes (first_row group) → LeafEnds options bytes group →
    Leads line_start (after_group group) (leaf group)

-- with what is before it
front-leads : (bytes : List ℕ) (opens : List Container) (p q : Point) (front leaf : List Event) (s : EndingPlace) →
    LinePrefix bytes opens p q front → Leads line_start s leaf → Leads line_start s (front ++ leaf)
front-leads bytes opens p q front leaf s is h =
    leads-append line_start line_start s front leaf
    (others-lead line_start front refl (fronts-others bytes opens p q front is)) h

-- groups whose endings are
abbrev AreValid : (Group → List Event) → List Group → Type 0
AreValid leaf gs = endings_are_right_from line_start (groups_with leaf gs) ≡ true

-- what follows a line: the ends of containers, its ending, and further groups
tail-valid : (leaf : Group → List Event) (s : EndingPlace) (name : Name) (last : Row) (gs : List Group) →
    is_filled s ≡ s.after_leaf → ((p q : Point) → Leads s line_start (pair name p q)) → EndsBeforeGroups last gs →
    AreValid leaf gs → endings_are_right_from s (tail_events name last ++ groups_with leaf gs) ≡ true
tail-valid leaf s name last gs same ends before on =
    let following : List Event = ending_events name last ++ groups_with leaf gs in
    ap (endings_are_right_from s)
    (append_assoc (ends_of last.closed_after last.end) (ending_events name last) (groups_with leaf gs))
    ∙ others-lead s (ends_of last.closed_after last.end) same (ends-others last.closed_after last.end) following
    ∙ go gs before on
  where
    alone : (after : Option Point) →
        endings_are_right_from s (elim after [ None ↦ [] | Some q ↦ pair name last.end q ] ++ []) ≡ true
    alone None = refl
    alone (Some q) = ends last.end q []

    go : (gs : List Group) → EndsBeforeGroups last gs → AreValid leaf gs →
        endings_are_right_from s (ending_events name last ++ groups_with leaf gs) ≡ true
    go [] h k = alone last.after
    go (group ∷ gs) h k =
        ap (λ (l : List Event). endings_are_right_from s (l ++ groups_with leaf (group ∷ gs)))
        (ending-is name last h.0 h.1)
        ∙ ends last.end h.0 (groups_with leaf (group ∷ gs)) ∙ k

-- a group before further ones
line-valid : (leaf : Group → List Event) (s : EndingPlace) (name : Name) (last : Row) (es : List Event)
    (gs : List Group) → Leads line_start s es → is_filled s ≡ s.after_leaf →
    ((p q : Point) → Leads s line_start (pair name p q)) → EndsBeforeGroups last gs → AreValid leaf gs →
    endings_are_right_from line_start ((es ++ tail_events name last) ++ groups_with leaf gs) ≡ true
line-valid leaf s name last es gs h same ends before on =
    let following : List Event = tail_events name last ++ groups_with leaf gs in
    ap (endings_are_right_from line_start) (append_assoc es (tail_events name last) (groups_with leaf gs))
    ∙ h following
    ∙ tail-valid leaf s name last gs same ends before on

-- where a line is after its leaf, it is filled or not
spot-filled : (filled : Bool) → is_filled (spot_after filled) ≡ (spot_after filled).after_leaf
spot-filled true = refl
spot-filled false = refl

-- the lines of a leaf of several end as the last of them does
span-blank : (options : ParseOptions) (bytes : List ℕ) (row : Row) (rows : List Row) → AreSpan options bytes row rows →
    is_blank_group (LeafLines row rows) ≡ (last_row row rows).empty
span-blank options bytes row [] are = ap (λ (kind : RowKind). is_blank_by kind row) are.kind
span-blank options bytes row (next ∷ rows) are = span-blank options bytes next rows are.8

-- the leaf of each group is such
group-ends : (options : ParseOptions) (bytes : List ℕ) (group : Group) (gs : List Group) →
    AreGroups options bytes (group ∷ gs) → LeafEnds options bytes group
group-ends options bytes (Single row) gs are =
    let is : IsSingle options bytes row = are.0 in
    single-valid options bytes is.line row is.is is.other is.ends
group-ends options bytes (Turned row rows under) gs are =
    subst
    (λ (blank : Bool).
    EventFacts bytes (not blank) row.first under.end (group_unread options bytes (Turned row rows under))
    (group_done options bytes (Turned row rows under)))
    (sym (under-filled options bytes row rows under are.0 are.1))
    (turned-valid options bytes row rows under are.0 are.1 are.5)
group-ends options bytes (Headed row next rows) gs are =
    subst
    (λ (blank : Bool).
    EventFacts bytes (not blank) row.first (last_row next rows).end (group_unread options bytes (Headed row next rows))
    (group_done options bytes (Headed row next rows)))
    (sym (headed-is options bytes row next rows are.0 are.1).ends)
    (headed-valid options bytes row next rows are.0 are.1)
group-ends options bytes (LeafLines row rows) gs are =
    subst
    (λ (blank : Bool).
    EventFacts bytes (not blank) row.first (last_row row rows).end (group_unread options bytes (LeafLines row rows))
    (group_done options bytes (LeafLines row rows)))
    (sym (span-blank options bytes row rows are.0)) (span-valid options bytes row rows are.0 are.4)
group-ends options bytes (Lines row rows) gs are = text-valid options bytes row rows are.0

groups-are_valid : (options : ParseOptions) (bytes : List ℕ) (leaf : Group → List Event) (gs : List Group) →
    Within options bytes leaf → AreGroups options bytes gs → EachEnded gs → AreValid leaf gs
groups-are_valid options bytes leaf [] within are ended = refl
groups-are_valid options bytes leaf (group ∷ gs) within are ended =
    let is : LeafEnds options bytes group = group-ends options bytes group gs are in
    line-valid leaf (after_group group) (group_ending group) (final_row group) (leaf group) gs
    (within group (group-front options bytes group gs are) is)
    (spot-filled (not (is_blank_group group))) (ending-leads (is_blank_group group)) ended.0
    (groups-are_valid options bytes leaf gs within (more-groups options bytes group gs are) ended.1)

-- The events of a text.

-- with those of its front before them
endings-with : (options : ParseOptions) (bytes : List ℕ) (p : Point) (front : List Event) (lines : List (List ℕ))
    (rows : List Row) (leaf : Group → List Event) (events : List Event) →
    Within options bytes leaf →
    groups_with leaf (groups rows) ≡ events → Leaves bytes p front → (length bytes ≤ p.index → events ≡ []) →
    AreRows options bytes [] held_leaf.None p lines rows → EachNoContent rows →
    endings_are_right (front ++ events) ≡ true
endings-with options bytes p front lines rows leaf events within same (ToLine leads whole) none are quiet =
    leads events
    ∙ ap (endings_are_right_from line_start) (sym same)
    ∙ groups-are_valid options bytes leaf (groups rows) within
    (groups-are options bytes [] held_leaf.None p lines rows (refl, refl) are quiet)
    (groups-ended rows (rows-end options bytes [] held_leaf.None p lines rows are))
endings-with options bytes p front lines rows leaf events within same (ToEnd over are_valid whole) none are quiet =
    ap (λ (es : List Event). endings_are_right (front ++ es)) (none over)
    ∙ ap endings_are_right (append-nil front) ∙ are_valid

-- The endings of a text are before its text parts are read,
pub blocks-endings : (options : ParseOptions) (bytes : List ℕ) (p : Point) (front : List Event)
    (lines : List (List ℕ)) (rows : List Row) →
    Leaves bytes p front → (length bytes ≤ p.index → tabled_groups options bytes (groups rows) ≡ []) →
    AreRows options bytes [] held_leaf.None p lines rows → EachNoContent rows →
    endings_are_right (front ++ tabled_groups options bytes (groups rows)) ≡ true
blocks-endings options bytes p front lines rows leaves none are quiet =
    endings-with options bytes p front lines rows (unread_leaf options bytes)
    (tabled_groups options bytes (groups rows))
    (λ group before is.
    let row : Row = first_row group in
    front-leads bytes row.change.opens before.0 row.first row.front (group_unread options bytes group)
    (after_group group) before.1 is.unread_ending) (unread-with options bytes (groups rows)) leaves none are quiet

-- and once they are.
pub events-endings : (options : ParseOptions) (bytes : List ℕ) (p : Point) (front : List Event)
    (lines : List (List ℕ)) (rows : List Row) →
    Leaves bytes p front → (length bytes ≤ p.index → groups_events options bytes (groups rows) ≡ []) →
    AreRows options bytes [] held_leaf.None p lines rows → EachNoContent rows →
    endings_are_right (front ++ groups_events options bytes (groups rows)) ≡ true
events-endings options bytes p front lines rows leaves none are quiet =
    endings-with options bytes p front lines rows (read_leaf options bytes) (groups_events options bytes (groups rows))
    (λ group before is.
    let row : Row = first_row group in
    front-leads bytes row.change.opens before.0 row.first (front_done bytes row) (group_done options bytes group)
    (after_group group) before.2.is is.ending) (read-with options bytes (groups rows)) leaves none are quiet
