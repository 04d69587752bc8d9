-- The events of a text are those that an outline can be made of.
use Rattle.md_engine.specs.declared.tokenizer.held_leaf.HeldLeaf.TheVariants as held_leaf
use Rattle.md_engine.specs.declared.tokenizer.held_leaf.HeldLeaf.{HeldLeaf}
use Rattle.md_outline.specs.Roles.{is_plain}
use Rattle.std.proofs.Common.{◌≡◌, ℕ, Bool, true, false, List, [], ◌∷◌, ◌++◌, map, refl, sym, subst}
use Rattle.proof_frame.specs.EndingName.{ending_name}
use Rattle.proof_rows.specs.Rows.{final_row, first_row, front_done, group_done, Group, group_events, groups}
use Rattle.proof_rows.specs.Rows.{groups_events, tail_events, group_ending, is_blank_group}
use Rattle.std.specs.Prelude.{Option, Some, None}
use Rattle.std.specs.List.{list_all}
use Rattle.std.specs.Str.{IsUtf8}
use Rattle.md_engine.specs.declared.configuration.ParseOptions.{ParseOptions}
use Rattle.md_engine.specs.declared.event.Event.{Event}
use Rattle.md_engine.specs.declared.event.Name.{Name}
use Rattle.md_engine.specs.declared.event.Point.{Point}
use Rattle.md_events.specs.Events.Nested.{exit, pair}
use Rattle.md_events.specs.Events.Spelled.{ContainerRole, Shape, role}
use Rattle.md_meaning.specs.State.{Container}
use Rattle.md_events.proofs.SpelledLemmas.{Roles, roles-append}
use Rattle.md_outline.specs.Between.{is_between}
use Rattle.md_outline.specs.Outlined.{IsUnlisted}
use Rattle.md_outline.proofs.LinesPass.{passes-all}
use Rattle.proof_frame.specs.Change.{Change, ends_of}
use Rattle.proof_rows.specs.Fronted.{contained, rest_from}
use Rattle.proof_frame.specs.RestLine.{rest_line}
use Rattle.proof_frame.specs.Row.{Row, ending_events}
use Rattle.proof_frame.specs.ContainerNames.{container_name, shape_of}
use Rattle.proof_rows.proofs.ContainedLemmas.{contained-shapes}
use Rattle.proof_rows.proofs.EachRow.{EachGroup, EachRow, final-each, first-each, groups-each}
use Rattle.proof_frame.proofs.FrontFacts.{Begins, Following, LinePrefix, Proceeds}
use Rattle.proof_rows.proofs.PartedRows.{rows-parted}
use Rattle.proof_rows.proofs.Text.Parted.{rest-clear}
use Rattle.proof_frame.proofs.FrontValid.{plain-front}
use Rattle.proof_rows.proofs.LineAfter.{first-line}
use Rattle.proof_rows.proofs.RowFacts.{AreRows, IsLine, following_line}
use Rattle.proof_frame.proofs.PlainFacts.{ArePlain, Untold, plain-append, plain-nil, plain-untold}
use Rattle.proof_frame.proofs.PartedFacts.{clear}
use Rattle.proof_rows.proofs.NestedRows.{ByGroups, rows-hold}
use Rattle.proof_frame.proofs.ContainerNames.{container-facts}
use Rattle.proof_frame.proofs.PlainRecords.{all-write_message}

-- Containers.

-- containers of the kinds that an outline shows
abbrev AllShown : List Shape → Type 0
AllShown [] = Unit {0}
AllShown (shape ∷ shapes) = (is_plain (ContainerRole shape) ≡ true) × AllShown shapes

abbrev AreShown : List Container → Type 0
AreShown cs = AllShown (map shape_of cs)

shown-append : (cs ds : List Container) → AreShown cs → AreShown ds → AreShown (cs ++ ds)
shown-append [] ds h k = k
shown-append (c ∷ cs) ds h k = (h.0, shown-append cs ds h.1 k)

shown-parts : (cs ds : List Container) → AreShown (cs ++ ds) → AreShown cs × AreShown ds
shown-parts [] ds h = (tt, h)
shown-parts (c ∷ cs) ds h = let parts = shown-parts cs ds h.1 in ((h.0, parts.0), parts.1)

ends-untold : (cs : List Container) (p : Point) → AreShown cs → Roles Untold (ends_of cs p)
ends-untold [] p h = tt
ends-untold (c ∷ cs) p h =
    roles-append Untold (ends_of cs p) (exit (container_name c) p ∷ []) (ends-untold cs p h.1)
    ((container-facts c).untold h.0, tt)

-- the ends of containers, and an ending
plain-tail : (bytes : List ℕ) (name : Name) (row : Row) → Untold (role name) → AreShown row.closed_after →
    ArePlain bytes (tail_events name row)
plain-tail bytes name row h shown =
    plain-untold bytes (tail_events name row)
    (roles-append Untold (ends_of row.closed_after row.end) (ending_events name row)
    (ends-untold row.closed_after row.end shown)
    (go row.after))
  where
    go : (o : Option Point) → Roles Untold (elim o [ None ↦ [] | Some q ↦ pair name row.end q ])
    go None = tt
    go (Some q) = (h, (h, tt))

-- where a container opens, an outline shows it
fronts-shown : (bytes : List ℕ) (opens : List Container) (p q : Point) (front : List Event) →
    LinePrefix bytes opens p q front → AreShown opens
fronts-shown bytes _ p _ _ (Following _) = tt
fronts-shown bytes opens p r _ (Proceeds _ _ q _ es fs is more) = fronts-shown bytes opens q r fs more
fronts-shown bytes _ p r _ (Begins c opens _ q _ es fs is more) = (is.shown, fronts-shown bytes opens q r fs more)

-- Rows.

-- a row after which containers end that an outline shows, and that begins clear
record IsPlainRow (bytes : List ℕ) (row : Row) : Type 0 where
  closed_after : AreShown row.closed_after
  first : clear bytes row.first ≡ true

-- what is before a line, a block, and what follows it
plain-line : (bytes : List ℕ) (name : Name) (front inside : List Event) (row : Row) → Untold (role name) →
    AreShown row.closed_after → ArePlain bytes front → ArePlain bytes inside →
    ArePlain bytes (front ++ inside ++ tail_events name row)
plain-line bytes name front inside row u leaves h k =
    plain-append bytes (front ++ inside) (tail_events name row) (plain-append bytes front inside h k)
    (plain-tail bytes name row u leaves)

-- whatever ends a line
ending-untold : (blank : Bool) → Untold (role (ending_name blank))
ending-untold true = (refl, refl)
ending-untold false = (refl, refl)

-- groups of such rows
abbrev PlainGroups : ParseOptions → List ℕ → List Name → Point → List Group → Type 0
PlainGroups options bytes names p gs = EachGroup (IsPlainRow bytes) gs → ArePlain bytes (groups_events options bytes gs)

plain-by_groups : (options : ParseOptions) (bytes : List ℕ) → ByGroups options bytes (PlainGroups options bytes)
plain-by_groups options bytes = record {
  none = λ p h. plain-nil bytes;
  group = λ names kept p group gs o keeps on h.
      let row : Row = first_row group in
      plain-append bytes (group_events options bytes group) (groups_events options bytes gs)
      (plain-line bytes (group_ending group) (front_done bytes row) (group_done options bytes group) (final_row group)
      (ending-untold (is_blank_group group))
      (final-each (IsPlainRow bytes) group h.0).closed_after
      (plain-front bytes row.change.opens p row.first (front_done bytes row) o.front_read.is)
      (o.leaf.1.plain (first-each (IsPlainRow bytes) group h.0).first))
      (on h.1);
}

-- The rows of a text are such rows.

-- of the containers that a line finds open, an outline shows those that end before it, and those that are open after it
line-shown : (options : ParseOptions) (bytes : List ℕ) (open_before : List Container) (still : HeldLeaf) (p : Point)
    (line : List ℕ) (row : Row) →
    IsLine options bytes open_before still p line row → AreShown open_before →
    AreShown row.change.closes × AreShown (following_line options open_before still p line)
line-shown options bytes open_before still p line row at h =
    let c : Change = (contained options open_before still (rest_from p line)).change in
    let parts : AreShown c.stays ×
    AreShown c.closes = shown-parts c.stays c.closes
    (subst AllShown (sym (contained-shapes options open_before still (rest_from p line))) h) in
    let opens : AreShown c.opens = subst (λ (x : Change). AreShown x.opens) at.change
    (fronts-shown bytes row.change.opens p row.first row.front at.front) in
    (subst (λ (x : Change). AreShown x.closes) (sym at.change) parts.1, shown-append c.stays c.opens parts.0 opens)

line-plain : (options : ParseOptions) (bytes : List ℕ) (open_before : List Container) (still : HeldLeaf) (p : Point)
    (line : List ℕ) (row : Row) →
    IsLine options bytes open_before still p line row → AreShown row.closed_after → IsPlainRow bytes row
line-plain options bytes open_before still p line row at leaves =
    let rest : List ℕ = rest_line (contained options open_before still (rest_from p line)).rest in
    record { closed_after = leaves; first = rest-clear options bytes rest row at.is }

plain-rows : (options : ParseOptions) (bytes : List ℕ) (open_before : List Container) (still : HeldLeaf) (p : Point)
    (lines : List (List ℕ)) (rows : List Row) →
    AreRows options bytes open_before still p lines rows → AreShown open_before → EachRow (IsPlainRow bytes) rows
plain-rows options bytes open_before still p (line ∷ []) (row ∷ []) h shown =
    let here = line-shown options bytes open_before still p line row h.0 shown in
    (line-plain options bytes open_before still p line row h.0 (subst AreShown (sym h.1) here.1), tt)
plain-rows options bytes open_before still p (line ∷ next ∷ lines) (row ∷ below ∷ rows) h shown =
    let following : List Container = following_line options open_before still p line in
    let here = line-shown options bytes open_before still p line row h.0 shown in
    let there = line-shown options bytes following row.following h.2 next below
    (first-line options bytes following row.following h.2 (next ∷ lines) below rows h.5) here.1 in (
      line-plain options bytes open_before still p line row h.0 (subst AreShown (sym h.1) there.0),
      plain-rows options bytes following row.following h.2 (next ∷ lines) (below ∷ rows) h.5 here.1,
    )
plain-rows options bytes open_before still p lines rows h shown = absurd h

-- an outline can show the events of a text, if they are between its characters
pub groups-unlisted : (options : ParseOptions) (bytes : List ℕ) (p : Point) (lines : List (List ℕ)) (rows : List Row) →
    AreRows options bytes [] held_leaf.None p lines rows → IsUtf8 bytes →
    list_all (λ (e : Event). is_between bytes e.point.index) (groups_events options bytes (groups rows)) ≡ true →
    IsUnlisted (groups_events options bytes (groups rows)) bytes
groups-unlisted options bytes p lines rows are utf8 between =
    let plain : ArePlain bytes (groups_events options bytes (groups rows)) = rows-hold options bytes
    (PlainGroups options bytes) (plain-by_groups options bytes) p lines rows are
    (groups-each (IsPlainRow bytes) rows (plain-rows options bytes [] held_leaf.None p lines rows are tt)) in
    record {
      names = plain.known.names;
      text = utf8;
      between = between;
      texts = all-write_message bytes (groups_events options bytes (groups rows)) plain.known.texts between;
      parted = rows-parted options bytes p lines rows are;
      lines = passes-all bytes (groups_events options bytes (groups rows)) plain.lines;
    }
