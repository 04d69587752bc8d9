use Rattle.std.proofs.Common.{◌≡◌, ◌<◌, ◌⊎◌}
use Rattle.md_engine.specs.declared.state.document.State.TheVariants as document
use Rattle.md_engine.specs.declared.state.Name.TheVariants as n
use Rattle.md_engine.specs.Scheme.{cells_left}
use Rattle.md_engine.specs.World.{looks, world}
use Rattle.md_engine.proofs.Loops.{ArrivedHere}
use Rattle.md_registry.specs.States.{FlowStep}
use Rattle.md_at_once.proofs.at_once.containers_existing.Given as goal

abbrev pub invariant-loop-tokenizer : goal.invariant-loop-tokenizer
invariant-loop-tokenizer l = record {
  current : (world l.tokenizer).current ≡ looks (world l.tokenizer);
  arrived : ArrivedHere FlowStep (n.Document document.ContainerExistingBefore)
      (world l.initial.tokenizer) (n.Document document.ContainerExistingBefore) (world l.tokenizer);
  may : ((world l.tokenizer).point ≡ (world l.initial.tokenizer).point) ⊎
      ((world l.tokenizer).point.index < (world l.tokenizer).setting.limit);
}

abbrev pub decreases-loop-tokenizer : goal.decreases-loop-tokenizer
decreases-loop-tokenizer l = cells_left (world l.tokenizer).setting.limit (world l.tokenizer).point
