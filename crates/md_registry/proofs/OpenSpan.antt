-- What the frame asks of a leaf of several lines that is open between two lines, of what a line begins, and of a line
-- that continues text.
use Rattle.std.proofs.Common.{◌≡◌, ℕ, true, false, cond, List}
use Rattle.std.specs.Prelude.{Some, None}
use Rattle.md_engine.specs.declared.configuration.ParseOptions.{ParseOptions}
use Rattle.md_engine.specs.declared.tokenizer.held_leaf.HeldLeaf.{HeldLeaf}
use Rattle.md_meaning.specs.Leaves.{LeafResult, Finished, is_continued}
use Rattle.md_meaning.specs.Rest.{Rest, is_blank}
use Rattle.md_meaning.specs.State.{ParagraphLine, Leaf, NoLeaf, cut, texts, then_leaf}
use Rattle.md_meaning.specs.Step.{became, is_concrete}
use Rattle.md_meaning.specs.Tree.{Blocks}
use Rattle.md_outline.specs.HeadingDepths.{are_shallow, is_shallow}
use Rattle.proof_frame.specs.HeldLeaf.{has_lines, kind_of_leaf, left_by}
use Rattle.md_registry.specs.OpenSpan.{IsBuiltLeaf}
use Rattle.proof_frame.specs.LeafName.{LeafName}
use Rattle.proof_frame.specs.TextLines.{text_leaf}
use Rattle.md_registry.specs.Registry.{turn_leaf, further_of, asked_first, leaf, bars_containers}

-- an outline can show the block that this has become, if it has
abbrev pub BecomesShallow : LeafResult → Type 0
BecomesShallow c = (bs : Blocks) → are_shallow bs ≡ true → are_shallow (became bs c).here ≡ true

-- A leaf of several lines: one is asked first whether a line continues it, and takes that line as the line definition
-- does.
pub record OpenSpan (open_leaf : Leaf) : Type 0 where
  pub name : LeafName
  pub asked : asked_first (kind_of_leaf open_leaf) ≡ Some name
  pub same : further_of name ≡ name
  pub further : (leaf name).further (kind_of_leaf open_leaf) ≡ true
  pub lines : has_lines (kind_of_leaf open_leaf) ≡ true
  -- containers open in it where the line definition lets them
  pub concrete : is_concrete open_leaf ≡ bars_containers (kind_of_leaf open_leaf)
  pub proceeds : (options : ParseOptions) (r : Rest) →
      is_continued options open_leaf r ≡
      cond ((leaf name).starts options (kind_of_leaf open_leaf) r) (Some ((leaf name).becomes options open_leaf r)) None
  -- what it becomes may be open, and an outline can show it
  pub built : (options : ParseOptions) (r : Rest) → (leaf name).starts options (kind_of_leaf open_leaf) r ≡ true →
      IsBuiltLeaf (left_by ((leaf name).becomes options open_leaf r))
  pub shallow : (options : ParseOptions) (r : Rest) → BecomesShallow ((leaf name).becomes options open_leaf r)
  -- so can it where it is closed
  pub closed : (options : ParseOptions) (bs : Blocks) → are_shallow bs ≡ true →
      are_shallow (then_leaf options bs open_leaf) ≡ true

-- What a line becomes that begins a leaf: what is held after it is what the line definition has there, it may be open,
-- and an outline can show it.
pub record Begun (l : LeafName) (options : ParseOptions) (on : HeldLeaf) (r : Rest) : Type 0 where
  pub holds : kind_of_leaf (left_by ((leaf l).becomes options NoLeaf r)) ≡ (leaf l).holds options on r
  pub built : IsBuiltLeaf (left_by ((leaf l).becomes options NoLeaf r))
  pub shallow : BecomesShallow ((leaf l).becomes options NoLeaf r)

-- A line that continues text: it turns the lines that remain after the definitions at the front of the text into one
-- block.
pub record TurnsText (l : LeafName) : Type 0 where
  pub ends : (leaf l).ends ≡ false
  pub same : further_of l ≡ l
  pub becomes : (options : ParseOptions) (lines : List ParagraphLine) (r : Rest) →
      (leaf l).becomes options (text_leaf.held lines) r ≡ Finished (turn_leaf.block (cut options (texts lines)).1 r)
  -- something is on it, and an outline can show the block
  pub filled : (options : ParseOptions) (on : HeldLeaf) (r : Rest) → (leaf l).starts options on r ≡ true →
      is_blank r.bytes ≡ false
  pub shallow : (lines : List (List ℕ)) (r : Rest) → is_shallow (turn_leaf.block lines r) ≡ true
