use Rattle.std.proofs.Common.{◌∙◌}
use Rattle.md_scan.proofs.FoldLemmas.{ascii-fold}
use Rattle.md_scan.proofs.label.fold.Goals as goal

pub returns-in-Ok : goal.returns-in-Ok
returns-in-Ok c = c.in-Ok.ensures.ok ∙ ascii-fold c.args.text.now c.if-is_ascii.ensures.cases
