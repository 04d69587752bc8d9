use Rattle.std.proofs.Common.{◌≡◌, ◌≢◌, ◌∙◌, ap, subst, sym}
use Rattle.md_engine.specs.declared.state.Name.{Name as StateName}
use Rattle.md_engine.specs.declared.state.Name.TheVariants as n
use Rattle.md_engine.specs.declared.state.State.TheVariants.{Error}
use Rattle.md_engine.specs.Run.{RunsHere}
use Rattle.md_engine.specs.World.{world}
use Rattle.md_engine.proofs.StayLemmas.{within-world}
use Rattle.md_events.specs.Transition.{Transition}
use Rattle.md_registry.specs.Registry.{construct_transition}
use Rattle.md_registry.specs.States.{FlowStep, flow_transition}
use Rattle.md_registry.proofs.FlowCalls.{called-once, flow-constructs}
use Rattle.md_at_once.specs.AtOnce.{FlowFull}
use Rattle.md_at_once.proofs.WantOfMemory.{state-wants, weaker}
use Rattle.md_at_once.proofs.at_once.call_construct.Goals as goal

pub returns-in-HeadingAtx : goal.returns-in-HeadingAtx
returns-in-HeadingAtx c =
    let w = world c.args.tokenizer.now in
    let w' = world c.call_heading.new.tokenizer in
    record {
      runs = λ fine.
          subst (λ (x : StateName). RunsHere FlowStep x w c.call_heading.result w') (sym c.in-HeadingAtx.is)
          (c.call_heading.ensures.runs fine);
      sees = c.call_heading.ensures.sees;
      full =
          state-wants c.args.name w c.call_heading.result c.call_heading.new.tokenizer c.call_heading.ensures.full;
    }

pub returns-in-GfmTable : goal.returns-in-GfmTable
returns-in-GfmTable c =
    let w = world c.args.tokenizer.now in
    let w' = world c.call_table.new.tokenizer in
    record {
      runs = λ fine.
          subst (λ (x : StateName). RunsHere FlowStep x w c.call_table.result w') (sym c.in-GfmTable.is)
          (c.call_table.ensures.runs fine);
      sees = c.call_table.ensures.sees;
      full = state-wants c.args.name w c.call_table.result c.call_table.new.tokenizer c.call_table.ensures.full;
    }

pub returns-in-HtmlFlow : goal.returns-in-HtmlFlow
returns-in-HtmlFlow c =
    let w = world c.args.tokenizer.now in
    let w' = world c.call.new.tokenizer in
    record {
      runs = λ fine.
          subst (λ (x : StateName). RunsHere FlowStep x w c.call.result w') (sym c.in-HtmlFlow.is)
          (c.call.ensures.runs fine);
      sees = c.call.ensures.sees;
      full =
          weaker c.call.result (FlowFull (n.HtmlFlow c.in-HtmlFlow.state) w c.call.new.tokenizer)
          (FlowFull c.args.name w c.call.new.tokenizer)
          (subst (λ (x : StateName). FlowFull x w c.call.new.tokenizer) (sym c.in-HtmlFlow.is))
          c.call.ensures.full;
    }

pub returns-in_default : goal.returns-in_default
returns-in_default c =
    let w = world c.args.tokenizer.now in
    let is : construct_transition c.args.name w ≡ flow_transition c.args.name w =
    flow-constructs c.args.name w c.requires.construct in
    let once = λ (fine : c.call-in_default.result ≢ Error).
    called-once c.args.name w c.call-in_default.result (world c.call-in_default.new.tokenizer) c.requires.current
    c.requires.valid
    (within-world c.args.tokenizer.now) fine (c.call-in_default.ensures.to fine ∙ ap (λ (x : Transition). x.to) is)
    (c.call-in_default.ensures.world fine ∙ ap (λ (x : Transition). x.world) is) in
    record {
      runs = λ fine. (once fine).0;
      sees = λ fine. (once fine).1;
      full =
          state-wants c.args.name w c.call-in_default.result c.call-in_default.new.tokenizer
          c.call-in_default.ensures.full;
    }
