use Rattle.std.proofs.Common.{rules}
use Rattle.md_engine.specs.World.{world}
use Rattle.md_engine.specs.declared.state.space_or_tab.State.TheVariants as its
use Rattle.md_events.proofs.StatesLemmas.{sure-state-is}
use Rattle.md_events.proofs.WhiteMeaning.{white_rule}
use Rattle.md_events.proofs.space_or_tab.after.Goals as goal

pub returns-else-size-min : goal.returns-else-size-min
returns-else-size-min c =
    sure-state-is _ _ _ _ (white_rule its.After (world c.args.tokenizer.now) _ _) (search rules) (search rules)
