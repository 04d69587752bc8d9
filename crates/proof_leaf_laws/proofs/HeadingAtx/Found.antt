-- Where the line definition has an ATX heading, and that an outline can show its block.
use Rattle.md_engine.specs.declared.tokenizer.held_leaf.HeldLeaf.TheVariants as held_leaf
use Rattle.std.proofs.Common.{◌≡◌, ℕ, ◌+◌, Bool, true, false, cond, ◌&&◌, drop, refl, ap, ◌∙◌, arith}
use Rattle.std.specs.Prelude.{nat_le, Option, Some, None}
use Rattle.std.proofs.lemmas.Bool.{and_parts}
use Rattle.md_engine.specs.declared.configuration.ParseOptions.{ParseOptions}
use Rattle.md_leaves.specs.HeadingRule.{is_heading}
use Rattle.md_meaning.specs.Leaves.{LeafResult, Finished, heading_at}
use Rattle.md_meaning.specs.Rest.{Rest, has_small_indent, is_parted, run_len, trim_start}
use Rattle.proof_leaf_laws.specs.Leaf.HeadingAtx.{heading_block, heading_leaf}
use Rattle.md_outline.specs.HeadingDepths.{is_shallow}

-- a heading starts where its leaf says, and becomes its block
pub heading-found : (options : ParseOptions) (r : Rest) →
    heading_at options r ≡ cond (heading_leaf.starts options held_leaf.None r) (Some (Finished (heading_block r))) None
unfolding heading_at
heading-found options r =
    let text = trim_start r.bytes in
    let depth = run_len 35 text in
    let on : Bool = options.constructs.heading_atx && has_small_indent options r in
    let same : depth ≡ 0 + depth = omega arith in
    ap by
    (go on (nat_le 1 depth) (nat_le depth 6) (nat_le (0 + depth) 6) (is_parted (drop depth text))
    (ap (λ (k : ℕ). nat_le k 6) same))
  where
    by : Bool → Option LeafResult
    by x = cond x (Some (Finished (heading_block r))) None

    go : (on a b c d : Bool) → b ≡ c → (on && a && b && d) ≡ (on && (a && (c && d)))
    go false a b c d e = refl
    go true false b c d e = refl
    go true true b c d e = ap (λ (z : Bool). z && d) e

-- it is not deeper than 6
pub heading-shallow : (options : ParseOptions) (r : Rest) → heading_leaf.starts options held_leaf.None r ≡ true →
    is_shallow (heading_block r) ≡ true
heading-shallow options r h =
    let text = trim_start r.bytes in
    let depth = run_len 35 text in
    let same : depth ≡ 0 + depth = omega arith in
    let heading : is_heading text ≡
    true = (and_parts (options.constructs.heading_atx && has_small_indent options r) (is_heading text) h).1 in
    let opening = (and_parts (nat_le 1 depth) (nat_le (0 + depth) 6 && is_parted (drop depth text)) heading).1 in
    ap (λ (k : ℕ). nat_le k 6) same ∙ (and_parts (nat_le (0 + depth) 6) (is_parted (drop depth text)) opening).0
