use Rattle.std.proofs.Common.{◌==◌, ◌∙◌, ap, sym}
use Rattle.md_outline.proofs.KindLemmas.{kind-not_in}
use Rattle.md_outline.proofs.outline.alert.may_begin.Goals as goal

pub returns : goal.returns
returns c = λ other.
    kind-not_in c.args.bytes.now c.part.result.now c.args.index c.part.ensures
    (ap (λ n. n == 91) (sym c.first_of.ensures) ∙ other)
