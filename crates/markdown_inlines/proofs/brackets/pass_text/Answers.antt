use Rattle.std.proofs.Common.{ap, sym, ◌∙◌, arith, drop, subst, ℕ, List}
use Rattle.markdown_inlines.specs.Plain.{begins_text}
use Rattle.markdown_inlines.specs.Reads.{Reads}
use Rattle.markdown_inlines.proofs.PassLemmas.{texts-pass, with_at}
use Rattle.markdown_inlines.proofs.brackets.pass_text.Goals as goal

pub returns : goal.returns
returns c = record {
  further = omega (arith, c.in_ok-reading.ensures);
  reads =
      subst (λ (n : ℕ). Reads c.args.source (with_at c.args.reading.now n)) (sym c.in_ok-reading.ensures)
      (texts-pass c.args.source c.args.reading.now c.text_len-len.result c.requires
      (λ k few.
      ap
      (λ (l : List ℕ). begins_text c.args.source.options.now.constructs.gfm_autolink_literal (drop k l))
      (sym c.after.ensures)
      ∙ c.text_len-len.ensures.text k few));
}
