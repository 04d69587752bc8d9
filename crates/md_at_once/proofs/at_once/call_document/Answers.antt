use Rattle.std.proofs.Common.{◌≢◌, subst, sym}
use Rattle.md_engine.specs.declared.state.document.State.{State as DocumentState}
use Rattle.md_engine.specs.declared.state.Name.TheVariants as n
use Rattle.md_engine.specs.declared.state.State.TheVariants.{Error}
use Rattle.md_engine.specs.World.{world}
use Rattle.md_engine.proofs.StayLemmas.{within-world}
use Rattle.md_registry.proofs.FlowCalls.{called-once}
use Rattle.md_at_once.specs.AtOnce.{IsFlowRun}
use Rattle.md_at_once.proofs.WantOfMemory.{containers-want}
use Rattle.md_at_once.proofs.at_once.call_document.Goals as goal

pub returns-in-ContainerExistingBefore : goal.returns-in-ContainerExistingBefore
returns-in-ContainerExistingBefore c =
    subst
    (λ (x : DocumentState).
    IsFlowRun (n.Document x) (world c.args.tokenizer.now) c.lines.result c.lines.new.tokenizer)
    (sym c.in-ContainerExistingBefore.is) c.lines.ensures

pub returns-in-ContainerNewBefore : goal.returns-in-ContainerNewBefore
returns-in-ContainerNewBefore c =
    subst
    (λ (x : DocumentState).
    IsFlowRun (n.Document x) (world c.args.tokenizer.now) c.containers_new.result c.containers_new.new.tokenizer)
    (sym c.in-ContainerNewBefore.is) c.containers_new.ensures

pub returns-in_default : goal.returns-in_default
returns-in_default c =
    let name = n.Document c.args.state in
    let w = world c.args.tokenizer.now in
    let once = λ (fine : c.call.result ≢ Error).
    called-once name w c.call.result (world c.call.new.tokenizer) c.requires.current c.requires.valid
    (within-world c.args.tokenizer.now) fine (c.call.ensures.to fine) (c.call.ensures.world fine) in
    record {
      runs = λ fine. (once fine).0;
      sees = λ fine. (once fine).1;
      full = containers-want name w c.call.result c.call.new.tokenizer c.call.ensures.full;
    }
