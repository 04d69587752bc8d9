use Rattle.std.proofs.Common.{arith}
use Rattle.md_outline.proofs.LinedLines.{end-dropped}
use Rattle.md_outline.proofs.outline.lined.drop_end.Goals as goal

pub returns : goal.returns
returns c =
    end-dropped c.args.lines.now.items c.truncate.new.self.items c.saturating_sub.result c.len.result
    c.truncate.ensures.items c.saturating_sub.ensures (omega (arith, c.len.ensures))
