-- Nothing is in a fence that a resolver rewrites, and no content; its links are to strings.
use Rattle.std.proofs.Common.{◌≡◌, ℕ, Bool, true, false, cond, List, refl, ap}
use Rattle.std.specs.Prelude.{◌-◌, ◌==◌, Option, Some, None}
use Rattle.md_engine.specs.declared.configuration.ParseOptions.{ParseOptions}
use Rattle.md_engine.specs.declared.event.Content.{Content}
use Rattle.md_engine.specs.declared.event.Content.TheVariants as content
use Rattle.md_engine.specs.declared.event.Name.{Name}
use Rattle.md_engine.specs.declared.event.Name.TheVariants as n
use Rattle.md_engine.specs.declared.event.Point.{Point}
use Rattle.md_engine.specs.declared.tokenizer.held_leaf.HeldLeaf.{HeldLeaf}
use Rattle.md_engine.specs.declared.tokenizer.held_leaf.HeldLeaf.TheVariants as held_leaf
use Rattle.md_engine.specs.Meaning.{Cell}
use Rattle.md_literal.specs.FenceLine.{fence_adds, fence_opened, is_opening, marker_at}
use Rattle.md_leaves.specs.CellRuns.{run_size}
use Rattle.md_literal.specs.Fence.{is_on}
use Rattle.md_events.specs.Ahead.{white_end, white_rest}
use Rattle.md_events.specs.Spaces.{small_indent}
use Rattle.proof_frame.specs.HeldLeaf.{takes_lazy}
use Rattle.proof_literal_laws.specs.Leaf.Fence.{fence_keeps, fence_line, linked, or_none}
use Rattle.proof_frame.proofs.ContentFacts.{NoContent}
use Rattle.proof_frame.proofs.EventNames.{is_recorded, is_lined}
use Rattle.proof_frame.proofs.MarkRuns.Each.{IsNoContent, each-no_content}
use Rattle.proof_literal_laws.proofs.Fence.Each.{adds-each, is_block_name, is_fence_name, line-each}
use Rattle.proof_frame.proofs.LinedFacts.{AreLined, IsLined}

-- Its names.

block-content : (name : Name) → is_block_name name ≡ true → is_recorded name ≡ false
block-content n.Content e = cc
block-content n.DefinitionLabelString e = cc
block-content _ e = refl

name-content : (name : Name) → is_fence_name name ≡ true → is_recorded name ≡ false
name-content n.Content e = cc
name-content n.DefinitionLabelString e = cc
name-content _ e = refl

-- No part of it is rewritten.

-- Its names may be in a leaf of several lines.

name-lined : (name : Name) → is_fence_name name ≡ true → is_lined name ≡ true
name-lined n.SpaceOrTab e = refl
name-lined _ e = cc

block-lined : (name : Name) → is_block_name name ≡ true → is_lined name ≡ true
block-lined n.CodeFenced e = refl
block-lined _ e = cc

pub fence-lined : (line : List ℕ) (p : Point) → AreLined (fence_line linked line p)
fence-lined line p =
    line-each IsLined (λ name is q. (name-lined name is, name-lined name is))
    (λ name is q. (block-lined name is, block-lined name is)) linked (λ p q. (refl, (refl, tt))) line p

-- No content is in it.

pub fence-no_content : (wants : Content → Bool) → wants content.String ≡ false →
    (options : ParseOptions) (leaf : HeldLeaf) (cells : List Cell) (p : Point) →
    NoContent wants (fence_adds options leaf cells p)
fence-no_content wants w options leaf cells p =
    each-no_content wants (fence_adds options leaf cells p)
    (adds-each (IsNoContent wants)
    (λ name is q. ((refl, name-content name is), (refl, name-content name is)))
    (λ name is q. ((refl, block-content name is), (refl, block-content name is)))
    (λ q. ((ap (λ (x : Bool). cond x (Some content.String) None) w, refl), (refl, refl))) options leaf cells p)

-- No line continues it lazily.

pub fence-lazy : (options : ParseOptions) (cells : List Cell) (p : Point) →
    takes_lazy (fence_keeps options cells p) ≡ false
fence-lazy options cells p = go (is_on options)
  where
    rest : List Cell
    rest = white_rest (small_indent options) cells

    leaf : ℕ → HeldLeaf
    leaf m =
        held_leaf.Fence m (run_size (λ b. b == m) rest) ((white_end (small_indent options) cells p).column - p.column)

    held : (m : ℕ) (x : Bool) → takes_lazy (or_none (cond x (Some (leaf m)) None)) ≡ false
    held m true = refl
    held m false = refl

    opened : (o : Option ℕ) → takes_lazy (or_none (fence_opened options cells p o)) ≡ false
    opened None = refl
    opened (Some m) = held m (is_opening m rest)

    go : (x : Bool) → takes_lazy (or_none (cond x (fence_opened options cells p (marker_at options rest)) None)) ≡ false
    go true = opened (marker_at options rest)
    go false = refl
