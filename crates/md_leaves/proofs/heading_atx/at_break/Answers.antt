use Rattle.std.proofs.Common.{rules}
use Rattle.md_engine.specs.declared.state.heading_atx.State.TheVariants as its
use Rattle.md_engine.specs.World.{world}
use Rattle.md_events.proofs.StatesLemmas.{state-is}
use Rattle.md_leaves.proofs.HeadingMeaning.{heading_rule}
use Rattle.md_leaves.proofs.heading_atx.at_break.Goals as goal

pub returns-in-Some : goal.returns-in-Some
returns-in-Some c =
    state-is _ _ _ _ _ (heading_rule its.AtBreak (world c.args.tokenizer.now) _ _ c.requires.current) (search rules)
    (search rules) tt
