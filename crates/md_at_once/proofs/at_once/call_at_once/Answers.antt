use Rattle.md_engine.specs.World.{world}
use Rattle.md_at_once.proofs.FlowRuns.{run-ends}
use Rattle.md_at_once.proofs.at_once.call_at_once.Goals as goal

pub returns : goal.returns
returns c =
    let to = c.call_construct-to.result in
    let mid = c.call_construct-to.new.tokenizer in
    let run = c.call_construct-to.ensures in
    run-ends c.args.name (world c.args.tokenizer.now) to mid c.end.result c.end.new.tokenizer c.requires.current
    (λ fine. (run.runs fine, run.sees fine)) run.full c.end.ensures
