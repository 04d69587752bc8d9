use Rattle.std.proofs.Common.{◌∙◌}
use Rattle.md_inlines.proofs.LiteralLemmas.{two-segments}
use Rattle.md_inlines.proofs.address.has_two_segments.Goals as goal

pub returns : goal.returns
returns c = c.contains.ensures.value ∙ two-segments c.args.text.now
