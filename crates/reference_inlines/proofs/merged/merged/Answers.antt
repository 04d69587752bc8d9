use Rattle.std.proofs.Common.{ap, sym, ◌∙◌}
use Rattle.std.specs.Prelude.{reverse}
use Rattle.reference_inlines.specs.Merged.{merged_onto}
use Rattle.reference_inlines.proofs.MergedLemmas.{merged_snoc}
use Rattle.reference_inlines.proofs.merged.merged.Goals as goal

pub loop-node-preserved : goal.loop-node-preserved
loop-node-preserved c =
    ap (merged_onto c.in-Some.before.now) c.in_ok-push_joined.ensures
    ∙ sym (merged_snoc c.in-Some.before.now c.in-Some.node.now (reverse c.loop-node.made.items))
    ∙ ap (λ l. merged_onto l (reverse c.loop-node.made.items)) (sym c.in-Some.ensures.cases.0)
    ∙ c.loop-node.invariant
