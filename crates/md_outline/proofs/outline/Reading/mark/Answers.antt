use Rattle.std.proofs.Common.{◌∙◌, ap, List, sym, arith}
use Rattle.std.specs.Prelude.{None}
use Rattle.md_meaning.specs.Outline.{Entry}
use Rattle.md_outline.specs.OutlineSteps.{marked_at, state_of}
use Rattle.md_outline.proofs.ListLemmas.{line-marked}
use Rattle.md_outline.proofs.outline.Reading.mark.Goals as goal

pub returns-then-place-len-clause-read : goal.returns-then-place-len-clause-read
returns-then-place-len-clause-read c =
    ap (λ (es : List Entry). record (state_of c.args.self.now) { untold = None; lines = es })
    (line-marked c.args.self.now.lines.items c.in-Some.place c.args.text.now c.index_mut.result.now c.first_of.result
    (omega (arith, c.if-place-len.true, c.len.ensures)) c.first_of.ensures c.index_mut.ensures.value)
    ∙ sym (ap (λ u. marked_at u c.args.text.now (state_of c.args.self.now)) c.in-Some.is)
