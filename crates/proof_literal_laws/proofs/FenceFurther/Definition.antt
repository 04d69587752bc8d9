-- Further lines of fenced code and math by the line definition: where a fence has opened a block, what is held of it is
-- a fence, and the line definition continues the block as the line does.
use Rattle.std.proofs.Common.{◌≡◌, ℕ, Bool, true, false, cond, ◌&&◌, List, [], ◌∷◌, ◌++◌, Option, Some, None, refl}
use Rattle.std.proofs.Common.{ap, subst}
use Rattle.std.specs.Prelude.{nat_le, drop}
use Rattle.std.proofs.lemmas.Bool.{and_from, and_parts}
use Rattle.md_engine.specs.declared.configuration.ParseOptions.{ParseOptions}
use Rattle.md_engine.specs.declared.tokenizer.held_leaf.HeldLeaf.{HeldLeaf}
use Rattle.md_engine.specs.declared.tokenizer.held_leaf.HeldLeaf.TheVariants as held_leaf
use Rattle.md_meaning.specs.Leaves.{LeafResult, Finished, Opened, allows, closes, fence_at, fence_from, fence_continued}
use Rattle.md_meaning.specs.Leaves.{is_fence_marker, least_size, opening}
use Rattle.md_meaning.specs.Rest.{Rest, has_small_indent, indent, line_of, lose, run_len, trim_start}
use Rattle.md_meaning.specs.State.{Leaf, OpenFence, Opening, fence_block}
use Rattle.md_meaning.specs.Tree.{Line}
use Rattle.md_literal.specs.Fence.{held_indent, may_begin, is_open as is_fence}
use Rattle.md_literal.proofs.FenceOpened.{marker-may}
use Rattle.proof_frame.specs.HeldLeaf.{kind_of_leaf, left_by}
use Rattle.proof_literal_laws.specs.Leaf.FenceFurther.{fence_becomes, further_holds, opening_of}

-- what is held of a block after its opening
abbrev pub held_of : Opening → HeldLeaf
held_of o = held_leaf.Fence o.marker o.size o.indent

-- what is held of what a line has opened
abbrev held_by : Option LeafResult → HeldLeaf
held_by (Some (Opened (OpenFence o lines))) = held_of o
held_by _ = held_leaf.None

from-fence : (options : ParseOptions) (columns : ℕ) (bytes : List ℕ) (o : Opening) (lines : List Line) →
    fence_from options columns bytes ≡ Some (Opened (OpenFence o lines)) → is_fence (held_of o) ≡ true
from-fence options columns [] o lines e = cc
from-fence options columns (m ∷ bytes) o lines e =
    go (is_fence_marker options m && nat_le (least_size m) size && allows m after) refl e
  where
    size : ℕ
    size = run_len m (m ∷ bytes)

    after : List ℕ
    after = drop (run_len m (m ∷ bytes)) (m ∷ bytes)

    became : Option LeafResult
    became = Some (Opened (OpenFence (opening m size columns (trim_start after)) []))

    go : (x : Bool) → (is_fence_marker options m && nat_le (least_size m) size && allows m after) ≡ x →
        cond x became None ≡ Some (Opened (OpenFence o lines)) → is_fence (held_of o) ≡ true
    go false f e = cc
    go true f e =
        let both = (and_parts (is_fence_marker options m && nat_le (least_size m) size) (allows m after) f).0 in
        let parts = and_parts (is_fence_marker options m) (nat_le (least_size m) size) both in
        subst (λ (leaf : HeldLeaf). is_fence leaf ≡ true) (ap held_by e)
        (and_from (may_begin m) (nat_le (least_size m) size) (marker-may options m parts.0) parts.1)

-- A block that a fence has opened is held as one.
pub opening-fence : (options : ParseOptions) (r : Rest) (o : Opening) (lines : List Line) →
    fence_at options r ≡ Some (Opened (OpenFence o lines)) → is_fence (held_of o) ≡ true
unfolding fence_at
opening-fence options r o lines e = go (has_small_indent options r) e
  where
    go : (x : Bool) →
        cond x (fence_from options (indent r) (trim_start r.bytes)) None ≡ Some (Opened (OpenFence o lines)) →
        is_fence (held_of o) ≡ true
    go true e = from-fence options (indent r) (trim_start r.bytes) o lines e
    go false e = cc

-- The line definition closes it where a closing fence is, and else it has one line more.
pub further-proceeds : (options : ParseOptions) (o : Opening) (lines : List Line) (r : Rest) →
    fence_continued options o lines r ≡
    cond (closes options (opening_of (held_of o)) r) (Finished (fence_block o lines true))
    (Opened (OpenFence o (lines ++ line_of (lose (held_indent (held_of o)) r) ∷ [])))
unfolding fence_continued
further-proceeds options o lines r = refl

-- So what is held after the line is the leaf that the open one reaches with it.
pub further-held : (options : ParseOptions) (leaf : Leaf) (r : Rest) → is_fence (kind_of_leaf leaf) ≡ true →
    kind_of_leaf (left_by (fence_becomes options leaf r)) ≡ further_holds options (kind_of_leaf leaf) r
unfolding fence_continued
further-held options (OpenFence o lines) r e = rw e (go (closes options (opening_of (held_of o)) r))
  where
    more : List Line
    more = lines ++ line_of (lose o.indent r) ∷ []

    go : (x : Bool) →
        kind_of_leaf (left_by (cond x (Finished (fence_block o lines true)) (Opened (OpenFence o more)))) ≡
        cond x held_leaf.None (held_of o)
    go true = refl
    go false = refl
further-held options leaf r e = absurd (cc)
