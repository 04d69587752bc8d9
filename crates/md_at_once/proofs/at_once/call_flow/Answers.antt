use Rattle.std.proofs.Common.{◌≢◌, subst, sym}
use Rattle.md_engine.specs.declared.state.flow.State.{State as FlowState}
use Rattle.md_engine.specs.declared.state.flow.State.TheVariants as flow
use Rattle.md_engine.specs.declared.state.Name.TheVariants as n
use Rattle.md_engine.specs.declared.state.State.TheVariants.{Error}
use Rattle.md_engine.specs.World.{world}
use Rattle.md_engine.proofs.StayLemmas.{within-world}
use Rattle.md_registry.proofs.FlowCalls.{called-once}
use Rattle.md_at_once.specs.AtOnce.{IsFlowRun}
use Rattle.md_at_once.proofs.FlowRuns.{line-run}
use Rattle.md_at_once.proofs.WantOfMemory.{state-wants}
use Rattle.md_at_once.proofs.at_once.call_flow.Goals as goal

pub returns-in-LeafAfter : goal.returns-in-LeafAfter
returns-in-LeafAfter c =
    subst
    (λ (x : FlowState).
    IsFlowRun (n.Flow x) (world c.args.tokenizer.now) c.leaf_end.result c.leaf_end.new.tokenizer)
    (sym c.in-LeafAfter.is)
    (line-run (n.Flow flow.LeafAfter) (world c.args.tokenizer.now) c.leaf_end.result c.leaf_end.new.tokenizer
    c.leaf_end.ensures)

pub returns-in-After : goal.returns-in-After
returns-in-After c =
    subst
    (λ (x : FlowState).
    IsFlowRun (n.Flow x) (world c.args.tokenizer.now) c.line_end.result c.line_end.new.tokenizer)
    (sym c.in-After.is)
    (line-run (n.Flow flow.After) (world c.args.tokenizer.now) c.line_end.result c.line_end.new.tokenizer
    c.line_end.ensures)

pub returns-in-BeforeContent : goal.returns-in-BeforeContent
returns-in-BeforeContent c =
    subst
    (λ (x : FlowState).
    IsFlowRun (n.Flow x) (world c.args.tokenizer.now) c.content_begins.result c.content_begins.new.tokenizer)
    (sym c.in-BeforeContent.is) c.content_begins.ensures

pub returns-in-Start : goal.returns-in-Start
returns-in-Start c =
    subst
    (λ (x : FlowState).
    IsFlowRun (n.Flow x) (world c.args.tokenizer.now) c.rest_begins.result c.rest_begins.new.tokenizer)
    (sym c.in-Start.is) c.rest_begins.ensures

pub returns-in_default : goal.returns-in_default
returns-in_default c =
    let name = n.Flow c.args.state in
    let w = world c.args.tokenizer.now in
    let once = λ (fine : c.call.result ≢ Error).
    called-once name w c.call.result (world c.call.new.tokenizer) c.requires.current c.requires.valid
    (within-world c.args.tokenizer.now) fine (c.call.ensures.to fine) (c.call.ensures.world fine) in
    record {
      runs = λ fine. (once fine).0;
      sees = λ fine. (once fine).1;
      full = state-wants name w c.call.result c.call.new.tokenizer c.call.ensures.full;
    }
