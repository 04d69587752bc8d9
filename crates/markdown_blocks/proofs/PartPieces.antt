-- The pieces of the lines of a text from a point on are over their bytes, before its text is read.
use Rattle.md_engine.specs.declared.tokenizer.held_leaf.HeldLeaf.TheVariants as held_leaf
use Rattle.md_engine.specs.declared.tokenizer.held_leaf.HeldLeaf.{HeldLeaf}
use Rattle.std.proofs.Common.{◌≡◌, ℕ, true, List, [], ◌∷◌, ◌++◌, sym, subst}
use Rattle.proof_rows.specs.Rows.{final_row, first_row, Group, groups}
use Rattle.proof_rows.specs.Rows.{tail_events, group_ending, is_blank_group}
use Rattle.std.specs.Prelude.{Option, Some, None}
use Rattle.md_engine.specs.declared.configuration.ParseOptions.{ParseOptions}
use Rattle.md_engine.specs.declared.event.Event.{Event}
use Rattle.md_engine.specs.declared.event.Name.{Name}
use Rattle.md_engine.specs.declared.event.Point.{Point}
use Rattle.md_events.specs.Events.Inline.{pieces}
use Rattle.md_events.specs.Events.Nested.{exit, pair}
use Rattle.md_events.specs.Events.Pieces.{are_valid_pieces, may_cover}
use Rattle.md_meaning.specs.State.{Container}
use Rattle.md_meaning.proofs.TextsLemmas.{Ending, ending_bytes}
use Rattle.proof_frame.specs.ContainerNames.{container_name}
use Rattle.proof_frame.specs.Change.{ends_of}
use Rattle.proof_rows.specs.Fronted.{contained, rest_from}
use Rattle.proof_frame.specs.RestLine.{rest_line}
use Rattle.proof_frame.specs.Row.{Row, ending_events}
use Rattle.proof_rows.specs.BlockList.{group_unread, tabled_group, tabled_groups}
use Rattle.proof_rows.proofs.EachRow.{EachGroup, EachRow, OfGroup, final-each, groups-each}
use Rattle.proof_frame.proofs.FrontFacts.{LinePrefix}
use Rattle.proof_frame.proofs.FrontValid.{fronts-is_valid}
use Rattle.proof_frame.proofs.PieceFacts.{PiecesValid, is_valid-append, is_valid-exit, is_valid-none, is_valid-pair}
use Rattle.proof_frame.proofs.ChunkFacts.{ending-valid}
use Rattle.proof_frame.proofs.EndingFacts.{ending-named}
use Rattle.proof_rows.proofs.RowFacts.{AreRows, IsLine, IsRow, following_line}
use Rattle.md_events.proofs.FeedLines.{IsEnding}
use Rattle.proof_rows.proofs.NestedRows.{ByGroups, rows-hold}

-- Containers.

-- the ends of containers have no pieces
ends-is_valid : (bytes : List ℕ) (cs : List Container) (p : Point) → PiecesValid bytes (ends_of cs p)
ends-is_valid bytes [] p = is_valid-none bytes
ends-is_valid bytes (c ∷ cs) p =
    is_valid-append bytes (ends_of cs p) (exit (container_name c) p ∷ []) (ends-is_valid bytes cs p)
    (is_valid-exit bytes (container_name c) p)

-- Lines.

-- What is known of a line: the pieces after it are.
record LineValid (bytes : List ℕ) (row : Row) : Type 0 where
  tail : (name : Name) → ((ending : Ending) → may_cover name (ending_bytes ending) ≡ true) →
      PiecesValid bytes (tail_events name row)

-- the ending of a line, if it has one
abbrev Ended : List ℕ → Point → Option Point → Type 0
Ended bytes end None = Unit {0}
Ended bytes end (Some q) = IsEnding bytes end q

-- what follows a line
tail-is_valid : (bytes : List ℕ) (row : Row) (after : Option Point) → row.after ≡ after → row.end.vs ≡ 0 →
    Ended bytes row.end after → (name : Name) → ((ending : Ending) → may_cover name (ending_bytes ending) ≡ true) →
    PiecesValid bytes (tail_events name row)
tail-is_valid bytes row after same whole ended name named =
    is_valid-append bytes (ends_of row.closed_after row.end) (ending_events name row)
    (ends-is_valid bytes row.closed_after row.end)
    (subst (λ (x : Option Point). PiecesValid bytes (elim x [ None ↦ [] | Some q ↦ pair name row.end q ])) (sym same)
    (go after ended))
  where
    go : (after : Option Point) → Ended bytes row.end after →
        PiecesValid bytes (elim after [ None ↦ [] | Some q ↦ pair name row.end q ])
    go None ended = is_valid-none bytes
    go (Some q) ended = is_valid-pair bytes name row.end q (ending-valid bytes name row.end q named whole ended)

-- a line with its ending, if it has one
line-valid : (options : ParseOptions) (bytes line : List ℕ) (row : Row) (after : Option Point) →
    IsRow options bytes line row → row.after ≡ after → Ended bytes row.end after → LineValid bytes row
line-valid options bytes line row after is same ended = record {
  tail = tail-is_valid bytes row after same is.end_whole
      ended;
}

-- each line of a text is such
rows-are_valid : (options : ParseOptions) (bytes : List ℕ) (open_before : List Container) (still : HeldLeaf) (p : Point)
    (lines : List (List ℕ)) (rows : List Row) →
    AreRows options bytes open_before still p lines rows → EachRow (LineValid bytes) rows
rows-are_valid options bytes open_before still p (line ∷ []) (row ∷ []) are =
    let is : IsLine options bytes open_before still p line row = are.0 in (
      line-valid options bytes
          (rest_line (contained options open_before still (rest_from p line)).rest) row None is.is are.2 tt,
      tt,
    )
rows-are_valid options bytes open_before still p (line ∷ next ∷ lines) (row ∷ below ∷ rows) are =
    let is : IsLine options bytes open_before still p line row = are.0 in (
      line-valid options bytes (rest_line (contained options open_before still (rest_from p line)).rest) row
          (Some are.2) is.is are.3 are.4,
      rows-are_valid options bytes (following_line options open_before still p line) row.following are.2
          (next ∷ lines) (below ∷ rows) are.5,
    )
rows-are_valid options bytes open_before still p lines rows are = absurd are

-- Groups.

-- what is before the first line of a group, in its place, and after it
group-is_valid : (bytes : List ℕ) (p : Point) (group : Group) (front es : List Event) →
    LinePrefix bytes (first_row group).change.opens p (first_row group).first front →
    OfGroup (LineValid bytes) group → PiecesValid bytes es →
    PiecesValid bytes (front ++ es ++ tail_events (group_ending group) (final_row group))
group-is_valid bytes p group front es is h is_valid =
    let row : Row = first_row group in
    is_valid-append bytes (front ++ es) (tail_events (group_ending group) (final_row group))
    (is_valid-append bytes front es (fronts-is_valid bytes row.change.opens p row.first front is) is_valid)
    ((final-each (LineValid bytes) group h).tail (group_ending group) (ending-named (is_blank_group group)))

-- groups of such lines, before texts are read
abbrev UnreadValid : ParseOptions → List ℕ → List Name → Point → List Group → Type 0
UnreadValid options bytes names p gs =
    EachGroup (LineValid bytes) gs → PiecesValid bytes (tabled_groups options bytes gs)

unread-by_groups : (options : ParseOptions) (bytes : List ℕ) → ByGroups options bytes (UnreadValid options bytes)
unread-by_groups options bytes = record {
  none = λ p h. is_valid-none bytes;
  group = λ names kept p group gs o keeps on h.
      is_valid-append bytes (tabled_group options bytes group) (tabled_groups options bytes gs)
      (group-is_valid bytes p group (first_row group).front (group_unread options bytes group) o.front h.0
      o.leaf.1.stretch.unread_valid) (on h.1);
}

pub part-pieces : (options : ParseOptions) (bytes : List ℕ) (p : Point) (lines : List (List ℕ)) (rows : List Row) →
    AreRows options bytes [] held_leaf.None p lines rows →
    are_valid_pieces bytes (pieces (tabled_groups options bytes (groups rows))) ≡ true
part-pieces options bytes p lines rows are =
    (rows-hold options bytes (UnreadValid options bytes) (unread-by_groups options bytes) p lines rows are
    (groups-each (LineValid bytes) rows (rows-are_valid options bytes [] held_leaf.None p lines rows are))).are_valid
