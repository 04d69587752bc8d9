-- The laws of a leaf of several lines: what the frame asks of its lines, once they are joined.
--
-- One value of `LineLeaf` takes its first line, and one its further lines; both may be the same.
use Rattle.std.proofs.Common.{◌≡◌, ◌⊎◌, ℕ, ◌+◌, true, false, List, [], ◌∷◌, ◌++◌, length, map}
use Rattle.std.specs.Prelude.{◌&&◌, ◌||◌, ◌==◌, nat_lt, not, if◌then◌else◌, Some}
use Rattle.md_engine.specs.declared.configuration.ParseOptions.{ParseOptions}
use Rattle.md_engine.specs.declared.event.Event.{Event}
use Rattle.md_engine.specs.declared.event.Point.{Point}
use Rattle.md_meaning.specs.Leaves.{LeafResult}
use Rattle.md_meaning.specs.Rest.{Rest, is_blank}
use Rattle.md_meaning.specs.State.{NoLeaf, shut, then_block}
use Rattle.md_meaning.specs.Step.{became}
use Rattle.md_meaning.specs.Tree.{Block, Blocks}
use Rattle.md_leaves.specs.Spanned.{renamed}
use Rattle.md_leaves.specs.declared.spans.Place.TheVariants.{Between}
use Rattle.md_leaves.proofs.SpannedLines.{IsBegin, IsEnd, IsFurther, NoBlocks, NoLines}
use Rattle.proof_frame.specs.RestLine.{rest_line}
use Rattle.proof_frame.specs.HeldLeaf.{left_by}
use Rattle.proof_frame.specs.LineLeaf.{LineLeaf}
use Rattle.proof_frame.specs.Row.{Row, is_blank_row, is_empty_row, last_row, span_by, span_done}
use Rattle.proof_frame.proofs.FrontFacts.{LinePrefix}
use Rattle.proof_frame.proofs.LeafFacts.{LeafFacts, LineAt}
use Rattle.md_events.proofs.FeedLines.{IsEnding}
use Rattle.proof_frame.proofs.SpannedFacts.{AreUnspanned}

-- Lines.

-- A line of it, where it is: its rest, what is added for it, and what is held after it.
pub record IsLineOf (options : ParseOptions) (bytes : List ℕ) (l : LineLeaf) (row : Row) : Type 0 where
  pub rest : Rest
  pub at : LineAt bytes rest (rest_line rest) row.first row.end
  pub column : row.first.column ≡ rest.column + 1
  pub starts : l.starts options row.on rest ≡ true
  pub inside : row.inside ≡ l.added options row.on (rest_line rest) row.first
  pub following : row.following ≡ l.holds options row.on rest
  -- whether its ending is that of a blank line
  pub empty : row.empty ≡
      ((l.stays_blank && is_blank rest.bytes) || (is_empty_row row && (row.first.column == 1)))
  pub ending : is_blank_row row ≡ row.empty

-- further lines after one: each meets the leaf that the one before has left, after prefixes of the containers alone
abbrev pub AreAfter : ParseOptions → List ℕ → LineLeaf → Row → List Row → Type 0
AreAfter options bytes l row [] = Unit {0}
AreAfter options bytes l row (next ∷ rows) =
    (q : Point) × (after : row.after ≡ Some q) × (ending : IsEnding bytes row.end q)
    × (front : LinePrefix bytes [] q next.first next.front)
    × (on : next.on ≡ row.following) × (further : l.further next.on ≡ true)
    × (is : IsLineOf options bytes l next) × AreAfter options bytes l next rows

-- What the line definition becomes with them, after what it became before. An empty line after the ending that the text
-- ends with is none of its lines.
abbrev pub becomes_after : (options : ParseOptions) (bytes : List ℕ) (l : LineLeaf) (row : Row) (rows : List Row) →
    AreAfter options bytes l row rows → LeafResult → LeafResult
becomes_after options bytes l row [] are c = c
becomes_after options bytes l row (next ∷ rows) are c =
    becomes_after options bytes l next rows are.7
    (if nat_lt are.0.index (length bytes) then l.becomes options (left_by c) are.6.rest else c)

-- Events, as the resolver that joins them meets them: a line is a begin, what is inside, and an end, or it is bare.

-- none are there
abbrev pub IsNone : List Event → Type 0
IsNone es = es ≡ []

-- with so much before the begin: what it passes, before a first line; before a further one nothing
pub record IsSpanned (Lead : List Event → Type 0) (Begins : Event → Type 0) (es : List Event) : Type 0 where
  pub lead : List Event
  pub begin : Event
  pub inside : List Event
  pub end : Event
  pub is : es ≡ lead ++ begin ∷ inside ++ end ∷ []
  pub lead_plain : Lead lead
  pub begins : Begins begin
  pub inside_plain : NoLines inside
  pub ends : IsEnd end

-- no block begins or ends on a bare line, and between two others it stays as it is
pub record IsBare (es : List Event) : Type 0 where
  pub no_blocks : NoBlocks es
  pub between : map (renamed Between) es ≡ es

-- The laws.

pub record SpanLaws (first further : LineLeaf) : Type 1 where
  -- Each line is a block by itself at first; a further one says by the link of its begin that it continues the one
  -- before, or it is bare.
  pub first_spanned : (options : ParseOptions) (bytes : List ℕ) (row : Row) → IsLineOf options bytes first row →
      first.further row.on ≡ false → IsSpanned AreUnspanned IsBegin row.inside
  pub further_spanned : (options : ParseOptions) (bytes : List ℕ) (row : Row) → IsLineOf options bytes further row →
      further.further row.on ≡ true → IsSpanned IsNone IsFurther row.inside ⊎ IsBare row.inside
  -- Joined, the lines are known, and show the block to which the line definition comes with them.
  pub block : (options : ParseOptions) (bytes : List ℕ) (row : Row) (rows : List Row) →
      IsLineOf options bytes first row → AreAfter options bytes further row rows → Block
  pub facts : (options : ParseOptions) (bytes : List ℕ) (row : Row) (rows : List Row) →
      (is : IsLineOf options bytes first row) → first.further row.on ≡ false →
      (are : AreAfter options bytes further row rows) →
      LeafFacts bytes (Some (block options bytes row rows is are)) (not (last_row row rows).empty) row.first
      (last_row row rows).end (span_by (λ (r : Row). r.inside) row rows) (span_done bytes row rows)
  pub shuts : (options : ParseOptions) (bytes : List ℕ) (row : Row) (rows : List Row) →
      (is : IsLineOf options bytes first row) → first.further row.on ≡ false →
      (are : AreAfter options bytes further row rows) → (bs : Blocks) →
      shut options (became bs (becomes_after options bytes further row rows are (first.becomes options NoLeaf is.rest)))
      ≡
      then_block bs (block options bytes row rows is are)
