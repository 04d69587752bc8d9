use Rattle.std.proofs.Common.{arith, rules}
use Rattle.std.proofs.lemmas.Grind.{common_steps}
use Rattle.md_engine.specs.declared.state.raw_flow.State.TheVariants as its
use Rattle.md_literal.proofs.FenceMeaning.{fence_rule}
use Rattle.md_engine.specs.World.{world}
use Rattle.md_events.proofs.StatesLemmas.{state-is}
use Rattle.md_literal.proofs.raw_flow.sequence_close.Goals as goal

pub returns-then-size-held_size : goal.returns-then-size-held_size
returns-then-size-held_size c = record {
  to = first_of (search rules, grind (arith, common_steps));
  world = first_of (search rules, grind (arith, common_steps));
  rule = λ fine. fence_rule its.SequenceClose _ _ _ (search rules) (search rules);
  full = search rules;
}

pub returns-2 : goal.returns-2
returns-2 c =
    state-is _ _ _ _ _ (fence_rule its.SequenceClose (world c.args.tokenizer.now) _ _)
    (first_of (search rules, grind (arith, common_steps)))
    (first_of (search rules, grind (arith, common_steps)))
    (search rules)
