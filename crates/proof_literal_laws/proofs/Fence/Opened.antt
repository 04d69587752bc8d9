-- What the line definition opens where a fence is on the rest of a line.
use Rattle.std.proofs.Common.{◌≡◌, ℕ, ◌≤◌, Bool, true, false, cond, ◌&&◌, List, [], ◌∷◌, drop, Option, Some, None, refl}
use Rattle.std.proofs.Common.{ap, ◌∙◌, arith}
use Rattle.std.specs.Prelude.{nat_le, ◌==◌}
use Rattle.std.proofs.lemmas.Bool.Decides.{nat_tests}
use Rattle.std.specs.Option.{is_some}
use Rattle.md_engine.specs.declared.configuration.ParseOptions.{ParseOptions}
use Rattle.md_meaning.specs.Ascii.{dollar}
use Rattle.md_meaning.specs.Leaves.{LeafResult, Opened, allows, fence_at, fence_from}
use Rattle.md_meaning.specs.Leaves.{is_fence_marker, least_size, opening}
use Rattle.md_meaning.specs.Rest.{Rest, has_small_indent, indent, run_len, trim_start}
use Rattle.md_meaning.specs.State.{OpenFence, Opening}
use Rattle.md_meaning.specs.Texts.{first_byte}
use Rattle.proof_literal_laws.specs.Leaf.Fence.{opening_at}

-- the bytes after an indent begin with the marker of a fence, and with enough of it
pub record IsFence (options : ParseOptions) (bytes : List ℕ) : Type 0 where
  pub marker : is_fence_marker options (first_byte bytes) ≡ true
  pub size : nat_le (least_size (first_byte bytes)) (run_len (first_byte bytes) bytes) ≡ true

abbrev opening_of : ℕ → List ℕ → Opening
opening_of columns bytes =
    let m = first_byte bytes in
    let size = run_len m bytes in
    opening m size columns (trim_start (drop size bytes))

from-starts : (options : ParseOptions) (columns : ℕ) (bytes : List ℕ) →
    is_some (fence_from options columns bytes) ≡ true →
    IsFence options bytes ×
    (fence_from options columns bytes ≡ Some (Opened (OpenFence (opening_of columns bytes) [])))
from-starts options columns [] e = absurd (cc)
from-starts options columns (m ∷ bs) e = go (is_fence_marker options m) refl (nat_le (least_size m) size) refl
    (allows m (drop size (m ∷ bs))) refl e
  where
    size : ℕ
    size = run_len m (m ∷ bs)

    became : LeafResult
    became = Opened (OpenFence (opening_of columns (m ∷ bs)) [])

    go : (x : Bool) → is_fence_marker options m ≡ x → (y : Bool) → nat_le (least_size m) size ≡ y → (z : Bool) →
        allows m (drop size (m ∷ bs)) ≡ z → is_some (cond (x && y && z) (Some became) None) ≡ true →
        IsFence options (m ∷ bs) × (cond (x && y && z) (Some became) None ≡ Some became)
    go true f true g true h e = (record { marker = f; size = g }, refl)
    go true f true g false h e = absurd (cc)
    go true f false g z h e = absurd (cc)
    go false f y g z h e = absurd (cc)

-- and so it is on the rest of a line
pub record FenceStarts (options : ParseOptions) (r : Rest) : Type 0 where
  pub small : has_small_indent options r ≡ true
  pub fence : IsFence options (trim_start r.bytes)
  pub opens : fence_at options r ≡ Some (Opened (OpenFence (opening_at r) []))

pub fence-starts : (options : ParseOptions) (r : Rest) → is_some (fence_at options r) ≡ true → FenceStarts options r
unfolding fence_at
fence-starts options r e = go (has_small_indent options r) refl e
  where
    from : Option LeafResult
    from = fence_from options (indent r) (trim_start r.bytes)

    go : (x : Bool) → has_small_indent options r ≡ x → is_some (cond x from None) ≡ true → FenceStarts options r
    go true f e =
        let is = from-starts options (indent r) (trim_start r.bytes) e in
        record { small = f; fence = is.0; opens = ap (λ (x : Bool). cond x from None) f ∙ is.1 }
    go false f e = absurd (cc)

-- an opening fence has a marker
pub some-least : (m size : ℕ) → nat_le (least_size m) size ≡ true → 1 ≤ size
some-least m size h = go (m == dollar) h
  where
    go : (x : Bool) → nat_le (cond x 2 3) size ≡ true → 1 ≤ size
    go true h = grind (arith, nat_tests)
    go false h = grind (arith, nat_tests)

pub opening-some : (options : ParseOptions) (r : Rest) → is_some (fence_at options r) ≡ true →
    1 ≤ run_len (first_byte (trim_start r.bytes)) (trim_start r.bytes)
opening-some options r h =
    let text : List ℕ = trim_start r.bytes in
    some-least (first_byte text) (run_len (first_byte text) text) (fence-starts options r h).fence.size
