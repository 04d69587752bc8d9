use Rattle.md_outline.specs.OutlineSteps.{state_of}
use Rattle.md_outline.proofs.OutlineLemmas.{piece-none}
use Rattle.md_outline.proofs.outline.Reading.part_text.Goals as goal

pub returns-then-end-span-clause-read : goal.returns-then-end-span-clause-read
returns-then-end-span-clause-read c = λ cut.
    piece-none c.args.self.now.bytes.now c.in-Some.span c.args.end (state_of c.args.self.now)
    c.in-Some.is c.if-span.true c.if-end-span.true
