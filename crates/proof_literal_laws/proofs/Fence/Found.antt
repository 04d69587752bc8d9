-- Where the line definition has fenced code or math, and what it opens.
use Rattle.std.proofs.Common.{◌≡◌, ℕ, Bool, true, false, cond, ◌==◌, ◌&&◌, ◌||◌, Option, Some, None, refl, sym, ◌∙◌, ap}
use Rattle.std.proofs.Common.{List, [], ◌∷◌}
use Rattle.std.specs.Option.{is_some}
use Rattle.md_engine.specs.declared.configuration.ParseOptions.{ParseOptions}
use Rattle.md_meaning.specs.Leaves.{LeafResult, Opened, fence_at, fence_from, is_fence_marker}
use Rattle.md_meaning.specs.Rest.{Rest, has_small_indent, indent, trim_start}
use Rattle.md_meaning.specs.State.{OpenFence, Opening, fence_block}
use Rattle.md_meaning.specs.Tree.{Fence, Line, Math}
use Rattle.md_outline.specs.HeadingDepths.{is_shallow}
use Rattle.proof_literal_laws.specs.Leaf.Fence.{opening_at}
use Rattle.proof_literal_laws.proofs.Fence.Opened.{fence-starts}

-- a block opens where its leaf says, and without lines
pub fence-found : (options : ParseOptions) (r : Rest) →
    fence_at options r ≡ cond (is_some (fence_at options r)) (Some (Opened (OpenFence (opening_at r) []))) None
fence-found options r = go (fence_at options r) refl
  where
    go : (o : Option LeafResult) → fence_at options r ≡ o →
        o ≡ cond (is_some o) (Some (Opened (OpenFence (opening_at r) []))) None
    go None e = refl
    go (Some c) e = sym e ∙ (fence-starts options r (ap is_some e)).opens

-- An outline can show it.
pub fence-shallow : (o : Opening) (lines : List Line) (closed : Bool) → is_shallow (fence_block o lines closed) ≡ true
fence-shallow o lines closed = go (o.marker == 36)
  where
    go : (x : Bool) → is_shallow (cond x (Math o.meta lines closed) (Fence o.marker o.info o.meta lines closed)) ≡ true
    go true = refl
    go false = refl

-- Where fenced code and math are off, none is.

no_fence : (options : ParseOptions) (m : ℕ) → options.constructs.code_fenced ≡ false →
    options.constructs.math_flow ≡ false →
    is_fence_marker options m ≡ false
no_fence options m off none = go (m == 36)
  where
    go : (x : Bool) →
        cond x options.constructs.math_flow (options.constructs.code_fenced && ((m == 96) || (m == 126))) ≡ false
    go true = none
    go false = rw off refl

no_fence-from : (options : ParseOptions) (columns : ℕ) (bytes : List ℕ) → options.constructs.code_fenced ≡ false →
    options.constructs.math_flow ≡ false →
    fence_from options columns bytes ≡ None
no_fence-from options columns [] off none = refl
no_fence-from options columns (m ∷ bytes) off none = rw (no_fence options m off none) refl

pub fence-off : (options : ParseOptions) (r : Rest) → options.constructs.code_fenced ≡ false →
    options.constructs.math_flow ≡ false → fence_at options r ≡ None
unfolding fence_at
fence-off options r off none = go (has_small_indent options r)
  where
    go : (x : Bool) → cond x (fence_from options (indent r) (trim_start r.bytes)) None ≡ None
    go true = no_fence-from options (indent r) (trim_start r.bytes) off none
    go false = refl
