-- Fenced code and math while they are open: their name, what they are as they are read, and their block.
use Rattle.std.proofs.Common.{◌≡◌, ℕ, Bool, true, false, cond, List, length, refl, ap}
use Rattle.std.specs.Prelude.{◌==◌, Option, None}
use Rattle.md_engine.specs.declared.event.Name.TheVariants as n
use Rattle.md_meaning.specs.State.{Opening, fence_block}
use Rattle.md_meaning.specs.Texts.{first_byte}
use Rattle.md_meaning.specs.Tree as t
use Rattle.md_meaning.specs.Tree.{Line}
use Rattle.md_literal.specs.Fence.{block_name}
use Rattle.md_outline.specs.LinesAllowed.{HasLines}
use Rattle.md_events.specs.Events.Endings.{IsLeaf, on_line}
use Rattle.md_events.specs.Events.Grammar.{Expression, following, after_block, blocks, inside, plain_text}
use Rattle.md_events.specs.Events.Spelled.{FenceLeaf, Fenced, LeafKind, MathLeaf, OfFence}
use Rattle.md_events.specs.Events.Spelled.{OfMath, OpenLeaf, LeafRole, block_of, next_line, role}
use Rattle.md_events.specs.Events.Tiles.{part_kind}
use Rattle.proof_literal_laws.proofs.FenceFurther.Grammar.{following_line, by-marker, in_line}
use Rattle.proof_literal_laws.proofs.FenceFurther.Reads.{IsOpen, with_closing, with_lines}
use Rattle.proof_frame.proofs.LeafLines.Leaf.{IsLeafName}

-- The name.

abbrev pub kind_of : ℕ → LeafKind
kind_of m = cond (m == 36) OfMath OfFence

-- what may be in it, which is the same before text parts are read
abbrev pub begin_of : ℕ → Expression
begin_of m = inside plain_text (block_name m)

pub fence-name : (m : ℕ) → IsLeafName (block_name m) (kind_of m)
fence-name m = record {
  named = record {
    is = by-marker (λ x. role (cond x n.MathFlow n.CodeFenced) ≡ LeafRole (cond x OfMath OfFence)) m refl refl;
    leaf = by-marker (λ x. on_line (cond x n.MathFlow n.CodeFenced) ≡ IsLeaf) m refl refl;
    no_part = by-marker (λ x. part_kind (cond x n.MathFlow n.CodeFenced) ≡ None) m refl refl;
    block = by-marker (λ x. following (cond x n.MathFlow n.CodeFenced) blocks ≡ after_block) m refl refl;
  };
  begin = begin_of m;
  begins = λ text. begin-same text m;
}
  where
    begin-same : (text : Expression) (m : ℕ) → inside text (block_name m) ≡ begin_of m
    begin-same text m =
        by-marker
        (λ x. inside text (cond x n.MathFlow n.CodeFenced) ≡ inside plain_text (cond x n.MathFlow n.CodeFenced)) m refl
        refl

-- an outline shows it by its lines
pub fence-lined : (m : ℕ) → HasLines (kind_of m)
fence-lined m = by-marker (λ x. HasLines (cond x OfMath OfFence)) m tt tt

pub fence-begin : (m : ℕ) → (fence-name m).begin ≡ begin_of m
unfolding fence-name
fence-begin m = refl

-- The same after its opening fence, and in a further line.
pub following-same : (text : Expression) (m : ℕ) → following_line text m ≡ following_line plain_text m
following-same text m =
    by-marker
    (λ x.
    following (cond x n.MathFlowFence n.CodeFencedFence) (inside text (cond x n.MathFlow n.CodeFenced)) ≡
    following (cond x n.MathFlowFence n.CodeFencedFence) (inside plain_text (cond x n.MathFlow n.CodeFenced))) m refl
    refl

pub line-same : (text : Expression) (m : ℕ) → in_line text m ≡ in_line plain_text m
line-same text m = ap (λ (x : Expression). following n.LineEnding x) (following-same text m)

-- The leaf.

-- by whether it is math
abbrev pub leaf_by : Bool → Fenced → Option (List ℕ) → Option (List ℕ) → OpenLeaf
leaf_by true fences info meta = MathLeaf fences meta
leaf_by false fences info meta = FenceLeaf fences info meta

-- with these markers and these lines, and whether it is closed
abbrev pub leaf_of : Opening → List ℕ → List Line → Bool → OpenLeaf
leaf_of o marks lines closed =
    leaf_by (o.marker == 36) (record { markers = marks; lines = lines; closed = closed }) o.info o.meta

-- its opening fence has these markers
pub record AreMarks (o : Opening) (marks : List ℕ) : Type 0 where
  pub some : (length marks == 0) ≡ false
  pub first : first_byte marks ≡ o.marker

-- after an ending it has one line more, which is empty
pub opened-line : (o : Opening) (marks : List ℕ) (lines : List Line) → AreMarks o marks →
    IsOpen lines (next_line (leaf_of o marks lines false))
opened-line o marks lines is = go (o.marker == 36)
  where
    go : (x : Bool) →
        IsOpen lines
        (next_line (leaf_by x (record { markers = marks; lines = lines; closed = false }) o.info o.meta))
    go true = record { lines = refl; some = is.some; unclosed = refl }
    go false = record { lines = refl; some = is.some; unclosed = refl }

pub lines-recorded : (o : Opening) (marks : List ℕ) (lines more : List Line) →
    with_lines more (next_line (leaf_of o marks lines false)) ≡ leaf_of o marks more false
lines-recorded o marks lines more = go (o.marker == 36)
  where
    go : (x : Bool) →
        with_lines more
        (next_line (leaf_by x (record { markers = marks; lines = lines; closed = false }) o.info o.meta)) ≡
        leaf_by x (record { markers = marks; lines = more; closed = false }) o.info o.meta
    go true = refl
    go false = refl

pub closing-recorded : (o : Opening) (marks : List ℕ) (lines : List Line) →
    with_closing lines (next_line (leaf_of o marks lines false)) ≡ leaf_of o marks lines true
closing-recorded o marks lines = go (o.marker == 36)
  where
    go : (x : Bool) →
        with_closing lines
        (next_line (leaf_by x (record { markers = marks; lines = lines; closed = false }) o.info o.meta)) ≡
        leaf_by x (record { markers = marks; lines = lines; closed = true }) o.info o.meta
    go true = refl
    go false = refl

-- its block is that of the line definition
pub block-is : (o : Opening) (marks : List ℕ) (lines : List Line) (closed : Bool) → AreMarks o marks →
    block_of (leaf_of o marks lines closed) ≡ fence_block o lines closed
block-is o marks lines closed is = go (o.marker == 36)
  where
    go : (x : Bool) →
        block_of (leaf_by x (record { markers = marks; lines = lines; closed = closed }) o.info o.meta) ≡
        cond x (t.Math o.meta lines closed) (t.Fence o.marker o.info o.meta lines closed)
    go true = refl
    go false = ap (λ (m : ℕ). t.Fence m o.info o.meta lines closed) is.first
