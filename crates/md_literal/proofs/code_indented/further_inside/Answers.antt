use Rattle.md_engine.specs.declared.state.code_indented.State.TheVariants as its
use Rattle.std.proofs.Common.{arith, rules}
use Rattle.std.proofs.lemmas.Grind.{common_steps}
use Rattle.md_engine.specs.World.{world}
use Rattle.md_events.proofs.StatesLemmas.{state-is}
use Rattle.md_literal.proofs.CodeMeaning.{code_rule}
use Rattle.md_literal.proofs.code_indented.further_inside.Goals as goal

pub returns-in-Some : goal.returns-in-Some
returns-in-Some c =
    state-is _ _ _ _ _ (code_rule its.FurtherInside (world c.args.tokenizer.now) _ _)
    (first_of (search rules, grind (arith, common_steps)))
    (first_of (search rules, grind (arith, common_steps)))
    (search rules)
