use Rattle.md_engine.specs.declared.state.raw_flow.State.TheVariants as its
use Rattle.std.proofs.Common.{arith, rules}
use Rattle.std.proofs.lemmas.Grind.{common_steps}
use Rattle.md_engine.specs.World.{world}
use Rattle.md_events.proofs.StatesLemmas.{state-is}
use Rattle.md_literal.proofs.FenceMeaning.{fence_rule}
use Rattle.md_literal.proofs.raw_flow.content_start.Goals as goal

pub returns-then-is_space_or_tab : goal.returns-then-is_space_or_tab
returns-then-is_space_or_tab c =
    state-is _ _ _ _ _ (fence_rule its.ContentStart (world c.args.tokenizer.now) _ _)
    (first_of (search rules, grind (arith, common_steps)))
    (first_of (search rules, grind (arith, common_steps)))
    (search rules)
