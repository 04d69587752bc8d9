use Rattle.std.specs.Prelude.{codes}
use Rattle.md_program.proofs.Texts.{repeat_more}
use Rattle.plain_inlines.proofs.printed.push_indent.Goals as goal

pub loop-done-preserved : goal.loop-done-preserved
loop-done-preserved c =
    let more = repeat_more c.args.made.now.items c.loop-done._done (codes "  ") in
    cc (more, c.in_ok-push_bytes.ensures, c.loop-done.invariant)
