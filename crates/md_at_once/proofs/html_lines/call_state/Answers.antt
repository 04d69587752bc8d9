use Rattle.std.proofs.Common.{◌≢◌, subst, sym}
use Rattle.md_engine.specs.declared.state.html_flow.State.{State as HtmlState}
use Rattle.md_engine.specs.declared.state.Name.TheVariants as n
use Rattle.md_engine.specs.declared.state.State.TheVariants.{Error}
use Rattle.md_engine.specs.World.{world}
use Rattle.md_engine.proofs.StayLemmas.{within-world}
use Rattle.md_registry.proofs.FlowCalls.{called-once}
use Rattle.md_at_once.specs.AtOnce.{IsRunInLine}
use Rattle.md_at_once.proofs.html_lines.call_state.Goals as goal

pub returns-in-ContinuationClose : goal.returns-in-ContinuationClose
returns-in-ContinuationClose c =
    subst
    (λ (x : HtmlState).
    IsRunInLine (n.HtmlFlow x) (world c.args.tokenizer.now) c.rest_done.result c.rest_done.new.tokenizer)
    (sym c.in-ContinuationClose.is) c.rest_done.ensures

pub returns-in-ContinuationStart : goal.returns-in-ContinuationStart
returns-in-ContinuationStart c =
    subst
    (λ (x : HtmlState).
    IsRunInLine (n.HtmlFlow x) (world c.args.tokenizer.now) c.further.result c.further.new.tokenizer)
    (sym c.in-ContinuationStart.is) c.further.ensures

pub returns-in_default : goal.returns-in_default
returns-in_default c =
    let once = λ (fine : c.call.result ≢ Error).
    called-once (n.HtmlFlow c.args.state) (world c.args.tokenizer.now) c.call.result (world c.call.new.tokenizer)
    c.requires.current c.requires.valid (within-world c.args.tokenizer.now) fine (c.call.ensures.to fine)
    (c.call.ensures.world fine) in
    record { runs = λ fine. (once fine).0; sees = λ fine. (once fine).1; full = c.call.ensures.full }
