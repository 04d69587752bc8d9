-- The innermost pairs of the events of a text lie side by side, from its first byte to its last, before its texts are
-- read.
use Rattle.md_engine.specs.declared.tokenizer.held_leaf.HeldLeaf.TheVariants as held_leaf
use Rattle.md_engine.specs.declared.tokenizer.held_leaf.HeldLeaf.{HeldLeaf}
use Rattle.std.proofs.Common.{◌≡◌, ℕ, true, List, [], ◌∷◌, ◌++◌, length, refl, subst, append-nil, ap, ◌∙◌}
use Rattle.proof_rows.proofs.EachRow.{AsSingle, Onto, onto}
use Rattle.proof_rows.proofs.NestedRows.{ByGroups, rows-hold}
use Rattle.std.specs.Prelude.{Option, Some, None}
use Rattle.std.proofs.lemmas.Bool.{and_from, eq-eqb}
use Rattle.md_engine.specs.declared.configuration.ParseOptions.{ParseOptions}
use Rattle.md_engine.specs.declared.event.Event.{Event}
use Rattle.md_engine.specs.declared.event.Name.{Name}
use Rattle.md_engine.specs.declared.event.Point.{Point}
use Rattle.md_events.specs.Events.Inline.{Covers, pieces}
use Rattle.md_events.specs.Events.Nested.{exit}
use Rattle.md_events.specs.Events.Places.{first_point, same_place}
use Rattle.md_meaning.specs.State.{Container}
use Rattle.md_events.specs.Events.Tiles.{end_point}
use Rattle.md_events.proofs.InlineLemmas.{same-refl}
use Rattle.proof_frame.specs.ContainerNames.{container_name}
use Rattle.proof_frame.specs.Change.{ends_of}
use Rattle.proof_rows.specs.Rows.{final_row, first_row, group_ending, Group, groups, tail_events}
use Rattle.proof_frame.specs.Row.{Row, after_row, ending_events}
use Rattle.proof_rows.specs.BlockList.{group_unread, tabled_group, tabled_groups}
use Rattle.proof_rows.proofs.JoinedLemmas.{following-is, following-none}
use Rattle.proof_frame.proofs.PiecesLemmas.{Follows, Covered, follows-append, follows-tiled, tiled-append, tiled-none}
use Rattle.proof_frame.proofs.PiecesLemmas.{tiled-pair}
use Rattle.proof_frame.proofs.FrontValid.{fronts-tiled}
use Rattle.proof_rows.proofs.RowFacts.{AreRows, IsLine, following_line}

-- Lines.

ending-tiled : (name : Name) (row : Row) → Covered row.end (after_row row) (ending_events name row)
ending-tiled name row = go row.after
  where
    go : (after : Option Point) →
        Covered row.end (after_row (record row { after = after })) (ending_events name (record row { after = after }))
    go None = tiled-none row.end row.end (same-refl row.end)
    go (Some q) = tiled-pair name row.end q

-- Containers.

-- the end of a container covers nothing, nor do the ends of more
end-covers : (name : Name) (p : Point) → Follows p p (exit name p ∷ [])
end-covers name p = record { ends = refl; covers = same-refl p }

ends-cover : (cs : List Container) (p : Point) → Follows p p (ends_of cs p)
ends-cover [] p = record { ends = refl; covers = same-refl p }
ends-cover (c ∷ cs) p =
    follows-append p p p (ends_of cs p) (exit (container_name c) p ∷ []) (ends-cover cs p)
    (end-covers (container_name c) p)

tail-covers : (name : Name) (row : Row) → Follows row.end (after_row row) (tail_events name row)
tail-covers name row =
    follows-append row.end row.end (after_row row) (ends_of row.closed_after row.end) (ending_events name row)
    (ends-cover row.closed_after row.end)
    (follows-tiled row.end (after_row row) (ending_events name row) (ending-tiled name row))

-- Groups.

-- what is before a line, in it, and after its last part or that of a further line
line-covers : (name : Name) (row last : Row) (p : Point) (es : List Event) → Covered p row.first row.front →
    Covered row.first last.end es → Follows p (after_row last) (row.front ++ es ++ tail_events name last)
line-covers name row last p es front h =
    follows-append p last.end (after_row last) (row.front ++ es) (tail_events name last)
    (follows-tiled p last.end (row.front ++ es) (tiled-append p row.first last.end row.front es front h))
    (tail-covers name last)

-- where groups that begin at a point have ended
abbrev pub after_groups : Point → List Group → Point
after_groups p [] = p
after_groups p (group ∷ gs) = after_groups (after_row (final_row group)) gs

-- their events cover what is there
abbrev Laid : ParseOptions → List ℕ → List Name → Point → List Group → Type 0
Laid options bytes names p gs = Follows p (after_groups p gs) (tabled_groups options bytes gs)

laid-by_groups : (options : ParseOptions) (bytes : List ℕ) → ByGroups options bytes (Laid options bytes)
laid-by_groups options bytes = record {
  none = λ p. record { ends = refl; covers = same-refl p };
  group =
      λ names kept p group gs o keeps more.
      let row : Row = first_row group in
      let last : Row = final_row group in
      follows-append p (after_row last) (after_groups (after_row last) gs) (tabled_group options bytes group)
      (tabled_groups options bytes gs)
      (line-covers (group_ending group) row last p (group_unread options bytes group)
      (fronts-tiled bytes row.change.opens p row.first row.front o.front) o.leaf.1.stretch.tiled) more;
}

-- a line before groups ends where they begin
onto-following : (p : Point) (row : Row) (gs all : List Group) → Onto row gs all →
    after_groups p all ≡ after_groups (after_row row) gs
onto-following p row _ _ (AsSingle gs) = refl
onto-following p row _ _ _ = refl

-- the groups of a text end where it does
groups-reach : (options : ParseOptions) (bytes : List ℕ) (open_before : List Container) (still : HeldLeaf) (p : Point)
    (lines : List (List ℕ)) (rows : List Row) →
    AreRows options bytes open_before still p lines rows →
    same_place (after_groups p (groups rows)) (end_point bytes) ≡ true
groups-reach options bytes open_before still p (line ∷ []) (row ∷ []) are =
    let is : IsLine options bytes open_before still p line row = are.0 in
    let at_end : same_place row.end (end_point bytes) ≡
    true = and_from _ _ (eq-eqb row.end.index (length bytes) are.3) (eq-eqb row.end.vs 0 is.is.end_whole) in
    ap (λ (q : Point). same_place q (end_point bytes))
    (onto-following p row [] _ (onto row row.kind []) ∙ following-none row are.2) ∙ at_end
groups-reach options bytes open_before still p (line ∷ next ∷ lines) (row ∷ below ∷ rows) are =
    ap (λ (q : Point). same_place q (end_point bytes))
    (onto-following p row (groups (below ∷ rows)) _ (onto row row.kind (groups (below ∷ rows)))
    ∙ ap (λ (q : Point). after_groups q (groups (below ∷ rows))) (following-is row are.2 are.3))
    ∙ groups-reach options bytes (following_line options open_before still p line) row.following are.2 (next ∷ lines)
    (below ∷ rows) are.5
groups-reach options bytes open_before still p lines rows are = absurd are

-- So they cover it.
groups-cover : (options : ParseOptions) (bytes : List ℕ) (p : Point) (lines : List (List ℕ)) (rows : List Row) →
    AreRows options bytes [] held_leaf.None p lines rows →
    Follows p (end_point bytes) (tabled_groups options bytes (groups rows))
groups-cover options bytes p lines rows are =
    subst (Follows p (end_point bytes)) (append-nil (tabled_groups options bytes (groups rows)))
    (follows-append p (after_groups p (groups rows)) (end_point bytes) (tabled_groups options bytes (groups rows)) []
    (rows-hold options bytes (Laid options bytes) (laid-by_groups options bytes) p lines rows are)
    (record { ends = refl; covers = groups-reach options bytes [] held_leaf.None p lines rows are }))

-- So do the events of a text with its front.
pub blocks-cover : (options : ParseOptions) (bytes : List ℕ) (p : Point) (front : List Event) (lines : List (List ℕ))
    (rows : List Row) →
    Covered first_point p front → AreRows options bytes [] held_leaf.None p lines rows →
    Covers first_point (pieces (front ++ tabled_groups options bytes (groups rows))) (end_point bytes)
blocks-cover options bytes p front lines rows tiled are =
    (follows-append first_point p (end_point bytes) front (tabled_groups options bytes (groups rows))
    (follows-tiled first_point p front tiled) (groups-cover options bytes p lines rows are)).covers
