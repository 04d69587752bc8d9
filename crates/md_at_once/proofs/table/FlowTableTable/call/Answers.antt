use Rattle.std.proofs.Common.{◌≢◌, subst, sym}
use Rattle.md_engine.specs.declared.state.Name.{Name as StateName}
use Rattle.md_engine.specs.declared.state.State.TheVariants.{Error}
use Rattle.md_engine.specs.Run.{RunsHere}
use Rattle.md_engine.specs.World.{world}
use Rattle.md_engine.proofs.StayLemmas.{within-world}
use Rattle.md_engine.proofs.Walks.{here-keeps}
use Rattle.md_registry.specs.States.{FlowStep, flow_table_scheme}
use Rattle.md_registry.proofs.FlowCalls.{called-once, flow-keeps}
use Rattle.md_at_once.proofs.table.FlowTableTable.call.Goals as goal

pub returns-in-BlankLine : goal.returns-in-BlankLine
returns-in-BlankLine c =
    let w = world c.args.tokenizer.now in
    let w' = world c.call.new.tokenizer in
    let once = λ (fine : c.call.result ≢ Error).
    called-once c.args.name w c.call.result w' c.requires.current c.requires.valid
    (within-world c.args.tokenizer.now) fine (rw c.in-BlankLine.is (c.call.ensures.to fine))
    (rw c.in-BlankLine.is (c.call.ensures.world fine)) in
    let kept = λ (fine : c.call.result ≢ Error).
    here-keeps FlowStep flow_table_scheme c.args.name w c.call.result w' flow-keeps
    c.requires.current c.requires.valid (once fine).0 in
    record {
      runs = λ fine. (once fine).0;
      valid = λ fine. (kept fine).0;
      falls = λ fine. (kept fine).1;
      setting = λ fine. (kept fine).2;
      sees = λ fine. (once fine).1;
    }

pub returns-in-Content : goal.returns-in-Content
returns-in-Content c =
    let w = world c.args.tokenizer.now in
    let w' = world c.call-in-Content.new.tokenizer in
    let once = λ (fine : c.call-in-Content.result ≢ Error).
    called-once c.args.name w c.call-in-Content.result w' c.requires.current c.requires.valid
    (within-world c.args.tokenizer.now) fine (rw c.in-Content.is (c.call-in-Content.ensures.to fine))
    (rw c.in-Content.is (c.call-in-Content.ensures.world fine)) in
    let kept = λ (fine : c.call-in-Content.result ≢ Error).
    here-keeps FlowStep flow_table_scheme c.args.name w c.call-in-Content.result w' flow-keeps
    c.requires.current c.requires.valid (once fine).0 in
    record {
      runs = λ fine. (once fine).0;
      valid = λ fine. (kept fine).0;
      falls = λ fine. (kept fine).1;
      setting = λ fine. (kept fine).2;
      sees = λ fine. (once fine).1;
    }

pub returns-in-SpaceOrTab : goal.returns-in-SpaceOrTab
returns-in-SpaceOrTab c =
    let w = world c.args.tokenizer.now in
    let w' = world c.call_white.new.tokenizer in
    let runs : c.call_white.result ≢ Error → RunsHere FlowStep c.args.name w c.call_white.result w' =
    λ fine. subst (λ (x : StateName). RunsHere FlowStep x w c.call_white.result w') (sym c.in-SpaceOrTab.is)
    (c.call_white.ensures.runs fine) in
    let kept = λ (fine : c.call_white.result ≢ Error).
    here-keeps FlowStep flow_table_scheme c.args.name w c.call_white.result w' flow-keeps
    c.requires.current c.requires.valid (runs fine) in
    record {
      runs = runs;
      valid = λ fine. (kept fine).0;
      falls = λ fine. (kept fine).1;
      setting = λ fine. (kept fine).2;
      sees = c.call_white.ensures.sees;
    }

pub returns-in-Document : goal.returns-in-Document
returns-in-Document c =
    let w = world c.args.tokenizer.now in
    let w' = world c.call_document.new.tokenizer in
    let runs : c.call_document.result ≢ Error → RunsHere FlowStep c.args.name w c.call_document.result w' =
    λ fine. subst (λ (x : StateName). RunsHere FlowStep x w c.call_document.result w') (sym c.in-Document.is)
    (c.call_document.ensures.runs fine) in
    let kept = λ (fine : c.call_document.result ≢ Error).
    here-keeps FlowStep flow_table_scheme c.args.name w c.call_document.result w' flow-keeps
    c.requires.current c.requires.valid (runs fine) in
    record {
      runs = runs;
      valid = λ fine. (kept fine).0;
      falls = λ fine. (kept fine).1;
      setting = λ fine. (kept fine).2;
      sees = c.call_document.ensures.sees;
    }

pub returns-in-Flow : goal.returns-in-Flow
returns-in-Flow c =
    let w = world c.args.tokenizer.now in
    let w' = world c.call_flow.new.tokenizer in
    let runs : c.call_flow.result ≢ Error → RunsHere FlowStep c.args.name w c.call_flow.result w' =
    λ fine. subst (λ (x : StateName). RunsHere FlowStep x w c.call_flow.result w') (sym c.in-Flow.is)
    (c.call_flow.ensures.runs fine) in
    let kept = λ (fine : c.call_flow.result ≢ Error).
    here-keeps FlowStep flow_table_scheme c.args.name w c.call_flow.result w' flow-keeps
    c.requires.current c.requires.valid (runs fine) in
    record {
      runs = runs;
      valid = λ fine. (kept fine).0;
      falls = λ fine. (kept fine).1;
      setting = λ fine. (kept fine).2;
      sees = c.call_flow.ensures.sees;
    }

pub returns-in_default : goal.returns-in_default
returns-in_default c =
    let w = world c.args.tokenizer.now in
    let w' = world c.call_at_once.new.tokenizer in
    let kept = λ (fine : c.call_at_once.result ≢ Error).
    here-keeps FlowStep flow_table_scheme c.args.name w c.call_at_once.result w' flow-keeps
    c.requires.current c.requires.valid (c.call_at_once.ensures.runs fine) in
    record {
      runs = c.call_at_once.ensures.runs;
      valid = λ fine. (kept fine).0;
      falls = λ fine. (kept fine).1;
      setting = λ fine. (kept fine).2;
      sees = c.call_at_once.ensures.sees;
    }
