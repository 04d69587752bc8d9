-- The events of a text are between its characters, where only quotes, headings and breaks are on.
use Rattle.md_engine.specs.declared.tokenizer.held_leaf.HeldLeaf.TheVariants as held_leaf
use Rattle.md_engine.specs.declared.tokenizer.held_leaf.HeldLeaf.{HeldLeaf}
use Rattle.std.proofs.Common.{◌≡◌, ℕ, true, List, [], ◌∷◌, ◌++◌, refl, sym, subst}
use Rattle.proof_rows.specs.Rows.{final_row, first_row, front_done, group_done, group_events, Group, groups}
use Rattle.proof_rows.specs.Rows.{groups_events, tail_events, group_ending}
use Rattle.std.specs.Prelude.{Option, Some, None}
use Rattle.md_engine.specs.declared.configuration.ParseOptions.{ParseOptions}
use Rattle.md_engine.specs.declared.event.Event.{Event}
use Rattle.md_engine.specs.declared.event.Name.{Name}
use Rattle.md_engine.specs.declared.event.Point.{Point}
use Rattle.md_events.specs.Events.Nested.{exit}
use Rattle.md_meaning.specs.State.{Container}
use Rattle.md_outline.specs.Between.{is_between}
use Rattle.proof_frame.specs.Change.{ends_of}
use Rattle.proof_rows.specs.Fronted.{contained, rest_from}
use Rattle.proof_frame.specs.RestLine.{rest_line}
use Rattle.proof_frame.specs.Row.{Row, after_row, ending_events}
use Rattle.proof_rows.proofs.EachRow.{EachGroup, EachRow, final-each, first-each, groups-each}
use Rattle.proof_frame.proofs.FrontValid.{fronts-between}
use Rattle.proof_rows.proofs.JoinedLemmas.{following-is, following-none}
use Rattle.proof_rows.proofs.NestedRows.{ByGroups, rows-hold}
use Rattle.proof_rows.proofs.RowFacts.{AreRows, IsLine, IsRow, following_line}
use Rattle.proof_frame.proofs.BetweenFacts.{AreBetween, between-append, between-end, between-more, between-pair}
use Rattle.proof_frame.proofs.BetweenFacts.{ending-before, ending-following}
use Rattle.proof_frame.specs.ContainerNames.{container_name}

-- Lines.

-- Where a line is: its ends and the end of its ending are between characters.
pub record RowBetween (bytes : List ℕ) (row : Row) : Type 0 where
  pub first : is_between bytes row.first.index ≡ true
  pub end : is_between bytes row.end.index ≡ true
  pub following : is_between bytes (after_row row).index ≡ true

ending-between : (bytes : List ℕ) (name : Name) (row : Row) → is_between bytes row.end.index ≡ true →
    is_between bytes (after_row row).index ≡ true → AreBetween bytes (ending_events name row)
ending-between bytes name row end = go row.after
  where
    go : (after : Option Point) → is_between bytes (after_row (record row { after = after })).index ≡ true →
        AreBetween bytes (ending_events name (record row { after = after }))
    go None h = refl
    go (Some q) h = between-pair bytes name row.end q end h

-- the ends of containers, and an ending
tail-between : (bytes : List ℕ) (name : Name) (row : Row) → is_between bytes row.end.index ≡ true →
    is_between bytes (after_row row).index ≡ true → AreBetween bytes (tail_events name row)
tail-between bytes name row end following =
    between-append bytes (ends_of row.closed_after row.end) (ending_events name row) (go row.closed_after)
    (ending-between bytes name row end following)
  where
    go : (cs : List Container) → AreBetween bytes (ends_of cs row.end)
    go [] = refl
    go (c ∷ cs) =
        between-append bytes (ends_of cs row.end) (exit (container_name c) row.end ∷ []) (go cs)
        (between-more bytes (exit (container_name c) row.end) [] end refl)

-- Groups.

-- what is before a line, a block, and what follows it
line-between : (bytes : List ℕ) (name : Name) (front inside : List Event) (row : Row) → RowBetween bytes row →
    AreBetween bytes front → AreBetween bytes inside → AreBetween bytes (front ++ inside ++ tail_events name row)
line-between bytes name front inside row b h k =
    between-append bytes (front ++ inside) (tail_events name row) (between-append bytes front inside h k)
    (tail-between bytes name row b.end b.following)

-- groups of such lines, the first of which begins between characters
abbrev BetweenGroups : ParseOptions → List ℕ → List Name → Point → List Group → Type 0
BetweenGroups options bytes names p gs =
    is_between bytes p.index ≡ true → EachGroup (RowBetween bytes) gs →
    AreBetween bytes (groups_events options bytes gs)

between-by_groups : (options : ParseOptions) (bytes : List ℕ) → ByGroups options bytes (BetweenGroups options bytes)
between-by_groups options bytes = record {
  none = λ p from h. refl;
  group = λ names kept p group gs o keeps on from h.
      let row : Row = first_row group in
      let first : RowBetween bytes row = first-each (RowBetween bytes) group h.0 in
      let last : RowBetween bytes (final_row group) = final-each (RowBetween bytes) group h.0 in
      between-append bytes (group_events options bytes group) (groups_events options bytes gs)
      (line-between bytes (group_ending group) (front_done bytes row) (group_done options bytes group)
      (final_row group) last
      (fronts-between bytes row.change.opens p row.first (front_done bytes row) from o.front_read.is).0
      (o.leaf.1.stretch.between first.first last.end))
      (on last.following h.1);
}

-- Each line of a text is so.
pub rows-are_valid : (options : ParseOptions) (bytes : List ℕ) (open_before : List Container)
    (still : HeldLeaf) (p : Point)
    (lines : List (List ℕ)) (rows : List Row) →
    is_between bytes p.index ≡ true → AreRows options bytes open_before still p lines rows →
    EachRow (RowBetween bytes) rows
rows-are_valid options bytes open_before still p (line ∷ []) (row ∷ []) from are =
    let at : IsLine options bytes open_before still p line row = are.0 in
    let rest : List ℕ = rest_line (contained options open_before still (rest_from p line)).rest in
    let is : IsRow options bytes rest row = at.is in
    let end : is_between bytes row.end.index ≡ true = between-end bytes row.end.index are.3 in
    let following : after_row row ≡ row.end = following-none row are.2 in
    let front = fronts-between bytes row.change.opens p row.first row.front from at.front in (
      record {
        first = front.1;
        end = end;
        following = subst (λ (q : Point). is_between bytes q.index ≡ true) (sym following) end;
      },
      tt,
    )
rows-are_valid options bytes open_before still p (line ∷ next ∷ lines) (row ∷ below ∷ rows) from are =
    let at : IsLine options bytes open_before still p line row = are.0 in
    let rest : List ℕ = rest_line (contained options open_before still (rest_from p line)).rest in
    let is : IsRow options bytes rest row = at.is in
    let end : is_between bytes row.end.index ≡ true = ending-before bytes row.end are.2 are.4 in
    let after : is_between bytes are.2.index ≡ true = ending-following bytes row.end are.2 are.4 in
    let following : after_row row ≡ are.2 = following-is row are.2 are.3 in
    let front = fronts-between bytes row.change.opens p row.first row.front from at.front in (
      record {
        first = front.1;
        end = end;
        following = subst (λ (q : Point). is_between bytes q.index ≡ true) (sym following) after;
      },
      rows-are_valid options bytes (following_line options open_before still p line) row.following are.2
          (next ∷ lines) (below ∷ rows) after are.5,
    )
rows-are_valid options bytes open_before still p lines rows from are = absurd are

-- The groups of the lines of a text are between its characters.
pub rows-between : (options : ParseOptions) (bytes : List ℕ) (p : Point) (lines : List (List ℕ)) (rows : List Row) →
    is_between bytes p.index ≡ true → AreRows options bytes [] held_leaf.None p lines rows →
    AreBetween bytes (groups_events options bytes (groups rows))
rows-between options bytes p lines rows from are =
    rows-hold options bytes (BetweenGroups options bytes) (between-by_groups options bytes) p lines rows are from
    (groups-each (RowBetween bytes) rows (rows-are_valid options bytes [] held_leaf.None p lines rows from are))
