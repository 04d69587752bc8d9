use Rattle.std.proofs.Common.{◌∙◌}
use Rattle.md_outline.proofs.KindLemmas.{kind-in}
use Rattle.md_outline.proofs.outline.alert.kind_at.Goals as goal

pub returns : goal.returns
returns c = c.kind_of.ensures ∙ kind-in c.args.bytes.now c.part.result.now c.args.index c.part.ensures
