use Rattle.md_program.proofs.Texts.{repeat_more}
use Rattle.md_program.proofs.print.push_repeated.Goals as goal

pub loop-done-preserved : goal.loop-done-preserved
loop-done-preserved g c =
    let more = repeat_more (g.W.Output.bytes c.args.text.now) c.loop-done._done c.args.piece.now in
    cc (more, c.in_ok-put.ensures, c.loop-done.invariant)
