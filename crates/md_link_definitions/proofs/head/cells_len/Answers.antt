use Rattle.std.proofs.Common.{sym}
use Rattle.md_link_definitions.proofs.HeadLemmas.{cells-counted}
use Rattle.md_link_definitions.proofs.head.cells_len.Goals as goal

pub returns : goal.returns
returns c = rw (c.pieces_len.ensures, c.after_optional.ensures, c.trim.ensures) (sym (cells-counted c.args.line.now))
