use Rattle.md_engine.specs.declared.state.raw_flow.State.TheVariants as its
use Rattle.std.proofs.Common.{arith, rules}
use Rattle.std.proofs.lemmas.Grind.{common_steps}
use Rattle.md_engine.specs.World.{world}
use Rattle.md_events.proofs.StatesLemmas.{state-is}
use Rattle.md_literal.proofs.FenceMeaning.{fence_rule}
use Rattle.md_literal.proofs.raw_flow.before_content_chunk.Goals as goal

pub returns-in-Some-2 : goal.returns-in-Some-2
returns-in-Some-2 c =
    state-is _ _ _ _ _ (fence_rule its.BeforeContentChunk (world c.args.tokenizer.now) _ _)
    (first_of (search rules, grind (arith, common_steps)))
    (first_of (search rules, grind (arith, common_steps)))
    (search rules)
