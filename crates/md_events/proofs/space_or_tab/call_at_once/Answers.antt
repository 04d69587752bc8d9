use Rattle.md_engine.specs.declared.state.Name.TheVariants as n
use Rattle.md_engine.specs.World.{world}
use Rattle.md_engine.proofs.Loops.{arrived-first}
use Rattle.md_engine.proofs.StayLemmas.{within-world}
use Rattle.md_events.specs.Spaces.{WhiteStep}
use Rattle.md_events.proofs.WhiteAtOnce.{white-called, white-sees}
use Rattle.md_events.proofs.space_or_tab.call_at_once.Goals as goal
use Rattle.std.proofs.Common.{rules}

pub returns-in_default : goal.returns-in_default
returns-in_default c = record {
  runs = λ fine.
      let w = world c.args.tokenizer.now in
      white-called (n.SpaceOrTab c.args.state) c.args.state w w c.call.result (world c.call.new.tokenizer)
      (arrived-first WhiteStep (n.SpaceOrTab c.args.state) w) (c.call.ensures.to fine) (c.call.ensures.world fine) fine
      (within-world c.args.tokenizer.now);
  sees = λ fine.
      white-sees c.args.state (world c.args.tokenizer.now) c.call.result (world c.call.new.tokenizer)
      (c.call.ensures.to fine) (c.call.ensures.world fine) c.requires.current;
  full = search rules;
}
