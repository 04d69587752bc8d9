use Rattle.std.proofs.Common.{◌∙◌, ap, arith, length}
use Rattle.std.specs.Prelude.{slice_range}
use Rattle.md_events.proofs.LineTaken.{slice-bound, taken-slice}
use Rattle.md_content.proofs.content.line_taken.Goals as goal

pub returns-clause-value : goal.returns-clause-value
returns-clause-value c =
    let t = c.args.tokenizer.now in
    c.between.ensures ∙ ap (slice_range t.bytes.now t.scratch.start) c.whole_from.ensures
    ∙ taken-slice t.bytes.now t.scratch t.point t.sound.placed

pub returns-clause-bound : goal.returns-clause-bound
returns-clause-bound c =
    let t = c.args.tokenizer.now in
    omega (
      arith,
      ap length c.between.ensures,
      slice-bound t.bytes.now t.scratch.start c.whole_from.result,
      t.sound.placed.sized,
    )
