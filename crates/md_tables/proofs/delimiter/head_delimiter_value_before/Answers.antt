use Rattle.md_engine.specs.declared.state.gfm_table.State.TheVariants as its
use Rattle.std.proofs.Common.{arith, rules}
use Rattle.std.proofs.lemmas.Grind.{common_steps}
use Rattle.md_engine.specs.World.{world}
use Rattle.md_events.proofs.StatesLemmas.{state-is}
use Rattle.md_tables.proofs.GfmTableMeaning.{table_rule}
use Rattle.md_tables.proofs.delimiter.head_delimiter_value_before.Goals as goal

pub returns-in_default : goal.returns-in_default
returns-in_default c =
    state-is _ _ _ _ _ (table_rule its.HeadDelimiterValueBefore (world c.args.tokenizer.now) _ _)
    (first_of (search rules, grind (arith, common_steps)))
    (first_of (search rules, grind (arith, common_steps)))
    (search rules)
