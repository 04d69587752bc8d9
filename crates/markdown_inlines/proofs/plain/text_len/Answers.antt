use Rattle.std.proofs.Common.{ℕ, ◌+◌, List, arith, ap, sym, ◌∙◌, drop, length, length-drop}
use Rattle.markdown_inlines.specs.Plain.{begins_text}
use Rattle.markdown_inlines.proofs.InnerLemmas.{texts-further}
use Rattle.markdown_inlines.proofs.plain.text_len.Goals as goal

pub loop-len-preserved : goal.loop-len-preserved
loop-len-preserved c = record {
  within =
      omega (
        arith,
        c.loop-len.invariant.within,
        c.line_len-len-in-loop-len.ensures.bound,
        ap length c.after.ensures,
        length-drop (c.loop-len.at + c.loop-len.len) c.args.text.now,
      );
  passed =
      texts-further c.args.literals c.args.text.now (c.loop-len.at + c.loop-len.len) c.line_len-len-in-loop-len.result
      c.loop-len.invariant.passed
      (λ k few.
      ap (λ (l : List ℕ). begins_text c.args.literals (drop k l)) (sym c.after.ensures)
      ∙ c.line_len-len-in-loop-len.ensures.text k few);
}
