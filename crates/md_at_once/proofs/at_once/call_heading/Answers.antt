use Rattle.std.proofs.Common.{◌≢◌, subst, sym}
use Rattle.md_engine.specs.declared.state.heading_atx.State.{State as HeadingState}
use Rattle.md_engine.specs.declared.state.Name.TheVariants as n
use Rattle.md_engine.specs.declared.state.State.TheVariants.{Error}
use Rattle.md_engine.specs.Run.{RunsHere}
use Rattle.md_engine.specs.World.{world}
use Rattle.md_engine.proofs.StayLemmas.{within-world}
use Rattle.md_engine.proofs.Walks.{runs-in}
use Rattle.md_leaves.specs.HeadingCalls.{HeadingStep}
use Rattle.md_registry.specs.States.{FlowStep}
use Rattle.md_registry.proofs.FlowCalls.{called-once}
use Rattle.md_registry.proofs.HeadingAtx.Calls.{heading-flows}
use Rattle.md_at_once.proofs.at_once.call_heading.Goals as goal

pub returns-in-AtBreak : goal.returns-in-AtBreak
returns-in-AtBreak c =
    let w = world c.args.tokenizer.now in
    let w' = world c.text.new.tokenizer in
    record {
      runs = λ fine.
          subst (λ (x : HeadingState). RunsHere FlowStep (n.HeadingAtx x) w c.text.result w')
          (sym c.in-AtBreak.is)
          (λ is_end s v named sees may.
          runs-in HeadingStep FlowStep is_end s v c.text.result w'
          (heading-flows) (c.text.ensures.runs fine is_end s v named sees may));
      sees = c.text.ensures.sees;
      full = c.text.ensures.full;
    }

pub returns-in-SequenceOpen : goal.returns-in-SequenceOpen
returns-in-SequenceOpen c =
    let w = world c.args.tokenizer.now in
    let w' = world c.opens.new.tokenizer in
    record {
      runs = λ fine.
          subst (λ (x : HeadingState). RunsHere FlowStep (n.HeadingAtx x) w c.opens.result w')
          (sym c.in-SequenceOpen.is)
          (λ is_end s v named sees may.
          runs-in HeadingStep FlowStep is_end s v c.opens.result w'
          (heading-flows) (c.opens.ensures.runs fine is_end s v named sees may));
      sees = c.opens.ensures.sees;
      full = c.opens.ensures.full;
    }

pub returns-in_default : goal.returns-in_default
returns-in_default c =
    let once = λ (fine : c.call.result ≢ Error).
    called-once (n.HeadingAtx c.args.state) (world c.args.tokenizer.now) c.call.result
    (world c.call.new.tokenizer) c.requires.current c.requires.valid (within-world c.args.tokenizer.now) fine
    (c.call.ensures.to fine) (c.call.ensures.world fine) in
    record { runs = λ fine. (once fine).0; sees = λ fine. (once fine).1; full = c.call.ensures.full }
