use Rattle.std.proofs.Common.{rules}
use Rattle.md_engine.specs.declared.state.bom.State.TheVariants as its
use Rattle.md_leaves.proofs.BomMeaning.{bom_rule}
use Rattle.md_leaves.proofs.partial_bom.inside.Goals as goal
use Rattle.md_events.proofs.StatesLemmas.{state-is}

pub returns-2 : goal.returns-2
returns-2 c =
    state-is _ _ _ _ _ (bom_rule its.Inside _ _ _) (search rules)
    (search rules) (search rules)

pub returns-then-size-lt3 : goal.returns-then-size-lt3
returns-then-size-lt3 c =
    state-is _ _ _ _ _ (bom_rule its.Inside _ _ _) (search rules)
    (search rules) (search rules)
