-- What the lines of a text are, as flow reads them: facts that the lemmas on the tree rest on.
use Rattle.md_engine.specs.declared.tokenizer.held_leaf.HeldLeaf.{HeldLeaf}
use Rattle.std.proofs.Common.{◌≡◌, ℕ, ◌+◌, ◌^◌, ◌<◌, ◌≤◌, List, [], ◌∷◌, ◌++◌, length, slice_range, ap, ◌∙◌, arith}
use Rattle.std.specs.Prelude.{◌&&◌, ◌||◌, ◌==◌, Some, None}
use Rattle.md_engine.specs.declared.configuration.ParseOptions.{ParseOptions}
use Rattle.md_engine.specs.declared.event.Point.{Point}
use Rattle.md_events.specs.Events.Places.{past_text}
pub use Rattle.md_events.proofs.FeedLines.{IsEnding, slice-split}
use Rattle.md_events.proofs.RestCells.{Cut}
use Rattle.md_meaning.proofs.TextsLemmas.{NoEnding, ending_bytes}
use Rattle.md_meaning.specs.State.{Container}
use Rattle.proof_frame.specs.LeafName.{LeafName}
use Rattle.md_registry.specs.Registry.{leaf}
use Rattle.proof_frame.specs.Change.{open_following}
use Rattle.proof_frame.proofs.LeafFacts.{LineAt}
use Rattle.md_meaning.specs.Rest.{Rest, is_blank}
use Rattle.proof_rows.specs.Fronted.{contained, rest_from}
use Rattle.proof_frame.specs.RestLine.{rest_line}
use Rattle.proof_frame.specs.Row.{BlankRow, LeafRow, Row, blank_line, is_empty_row}
use Rattle.proof_rows.specs.Rows.{line_following, line_kind, stays_blank}
use Rattle.proof_frame.proofs.FrontFacts.{LinePrefix, ReadFront}
use Rattle.proof_frame.proofs.PieceFacts.{CutsFirst}

-- the rest of a line without its ending, after the prefixes of its containers, as a row
pub record IsRow (options : ParseOptions) (bytes line : List ℕ) (row : Row) : Type 0 where
  pub rest : Rest
  -- the text is small enough for points to have room
  pub small : length bytes < 2 ^ 61
  pub line_is : line ≡ rest_line rest
  pub kind : row.kind ≡ line_kind options row.on rest
  pub following : row.following ≡ line_following options row.on rest row.kind
  pub no_ending : NoEnding line
  -- it is between the first point and the end; a tab that a prefix has cut is its first byte
  pub text : slice_range bytes row.first.index row.end.index ≡ line
  pub size : row.end.index ≡ row.first.index + length line
  pub end : row.end ≡ past_text line row.first
  pub first_column : 1 ≤ row.first.column
  pub column : row.first.column ≡ rest.column + 1
  pub end_whole : row.end.vs ≡ 0
  pub cut_first : CutsFirst row.first line
  pub cut : Cut rest.spaces row.first
  -- where a leaf takes it, its ending is that of a blank line if it is blank and stays so, or if nothing at all is on
  -- it: it ends where it begins, in the column where lines begin
  pub empty : row.empty ≡
      ((stays_blank row.kind && is_blank rest.bytes) || (is_empty_row row && (row.first.column == 1)))
  -- what flow adds for it
  pub blank : row.kind ≡ BlankRow → row.inside ≡ blank_line line row.first
  pub leaf_is : (l : LeafName) → row.kind ≡ LeafRow l → row.inside ≡ (leaf l).added options row.on line row.first

-- where it is
pub line-at : (options : ParseOptions) (bytes line : List ℕ) (row : Row) → (is : IsRow options bytes line row) →
    LineAt bytes is.rest line row.first row.end
line-at options bytes line row is = record {
  line_is = is.line_is;
  no_ending = is.no_ending;
  text = is.text;
  size = is.size;
  end = is.end;
  first_column = is.first_column;
  end_whole = is.end_whole;
  cut_first = is.cut_first;
  cut = is.cut;
}

-- a line from a point on, where these containers are open, and a text or none: what it does to the containers, and its
-- rest as a row
pub record IsLine (options : ParseOptions) (bytes : List ℕ) (open_before : List Container) (still : HeldLeaf)
    (p : Point) (line : List ℕ) (row : Row) : Type 0 where
  pub is : IsRow options bytes (rest_line (contained options open_before still (rest_from p line)).rest) row
  pub rest_is : is.rest ≡ (contained options open_before still (rest_from p line)).rest
  pub front : LinePrefix bytes row.change.opens p row.first row.front
  pub front_read : ReadFront bytes row.change.opens p row.first row.front
  pub change : row.change ≡ (contained options open_before still (rest_from p line)).change
  pub on : row.on ≡ (contained options open_before still (rest_from p line)).on
  -- where the line begins no tab is cut
  pub whole : p.vs ≡ 0
  pub column : 1 ≤ p.column
  -- and it ends after its bytes
  pub extent : row.end.index ≡ p.index + length line

-- which containers are open after a line
abbrev pub following_line : ParseOptions → List Container → HeldLeaf → Point → List ℕ → List Container
following_line options open_before still p line =
    open_following (contained options open_before still (rest_from p line)).change

-- These lines, from this point to the end of the text, where these containers and this leaf are open.
abbrev pub AreRows : ParseOptions → List ℕ → List Container → HeldLeaf → Point → List (List ℕ) → List Row → Type 0
AreRows options bytes open_before still p (line ∷ []) (row ∷ []) =
    (is : IsLine options bytes open_before still p line row) ×
    (leaves : row.closed_after ≡ following_line options open_before still p line) × (last : row.after ≡ None) ×
    (row.end.index ≡ length bytes)
AreRows options bytes open_before still p (line ∷ next ∷ lines) (row ∷ below ∷ rows) =
    (is : IsLine options bytes open_before still p line row) × (leaves : row.closed_after ≡ below.change.closes) ×
    (q : Point) × (after : row.after ≡ Some q) × (ending : IsEnding bytes row.end q)
    × AreRows options bytes (following_line options open_before still p line) row.following q (next ∷ lines)
    (below ∷ rows)
AreRows options bytes open_before still p _ _ = ⊥

-- the text of a line with its ending
pub line-text : (options : ParseOptions) (bytes line : List ℕ) (row : Row) (q : Point) → IsRow options bytes line row →
    (ending : IsEnding bytes row.end q) → slice_range bytes row.first.index q.index ≡ line ++ ending_bytes ending.ending
line-text options bytes line row q is ending =
    slice-split bytes row.first.index row.end.index q.index (omega (arith, is.size)) (omega (arith, ending.size))
    ∙ ap (λ (l : List ℕ). l ++ slice_range bytes row.end.index q.index) is.text
    ∙ ap (λ (l : List ℕ). line ++ l) ending.text
