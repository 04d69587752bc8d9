use Rattle.md_engine.specs.World.{world}
use Rattle.md_engine.specs.declared.state.raw_flow.State.TheVariants as its
use Rattle.md_engine.specs.declared.state.Name.TheVariants as n
use Rattle.md_at_once.proofs.FlowRuns.{run-ends}
use Rattle.md_at_once.proofs.WantOfMemory.{state-wants}
use Rattle.md_at_once.proofs.fences.line.Goals as goal

pub returns : goal.returns
returns c =
    let first = n.RawFlow its.ContentStart in
    let w = world c.args.tokenizer.now in
    run-ends first w c.taken-to.result c.taken-to.new.tokenizer c.end.result c.end.new.tokenizer c.requires.current
    (λ fine. (c.taken-to.ensures.runs fine, c.taken-to.ensures.sees fine))
    (state-wants first w c.taken-to.result c.taken-to.new.tokenizer c.taken-to.ensures.full) c.end.ensures
