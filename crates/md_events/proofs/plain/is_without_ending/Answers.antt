use Rattle.std.proofs.Common.{◌∙◌, sym}
use Rattle.std.proofs.lemmas.Bool.{not-true}
use Rattle.md_events.proofs.PlainWhole.{whole-chunk}
use Rattle.md_events.proofs.plain.is_without_ending.Goals as goal

pub returns-then-chunk-end : goal.returns-then-chunk-end
returns-then-chunk-end c = λ other.
    whole-chunk c.args.bytes.now c.args.chunk.now c.requires.chunk c.if-chunk-end.true
    (sym c.ends_line.ensures ∙ not-true c.ends_line.result other) c.requires.line c.requires.whole
