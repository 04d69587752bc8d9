use Rattle.std.proofs.Common.{◌≡◌, ℕ, List, ap, ◌∙◌, drop, arith}
use Rattle.md_meaning.specs.Lines.{without_ending}
use Rattle.md_inline_events.specs.Woven.{indent_len, text_len}
use Rattle.md_inline_events.proofs.LineLemmas.{line-taken}
use Rattle.md_inline_events.proofs.SpanSteps.{even-text}
use Rattle.md_inline_events.proofs.sides.divided.Goals as goal

pub invariant_of-result : goal.invariant_of-result
invariant_of-result c = record {
  even = λ within.
      even-text c.args.text.now c.split_at.result.0.now c.split_at-2.result.1.now c.split_at-3.result.0.now
      c.above_cr_len-even.result c.line_len.result c.indent_len.result c.text_len.result
      c.above_cr_len-even.ensures.value c.split_at.ensures.front (grind (arith, within)) c.split_at-2.ensures.back
      c.split_at-3.ensures.front;
}

pub returns-clause-trail : goal.returns-clause-trail
returns-clause-trail c =
    let line : c.split_at.result.0.now ≡ without_ending c.args.text.now =
    line-taken c.args.text.now c.split_at.result.0.now c.line_len.result c.line_len.ensures.value
    c.split_at.ensures.front in
    let rest : c.split_at-2.result.1.now ≡
    drop (indent_len c.args.starts (without_ending c.args.text.now)) (without_ending c.args.text.now) =
    c.split_at-2.ensures.back
    ∙ ap (λ (n : ℕ). drop n c.split_at.result.0.now) c.indent_len.ensures.value
    ∙ ap (λ (l : List ℕ). drop (indent_len c.args.starts l) l) line in
    c.split_at-3.ensures.back
    ∙ ap (λ (n : ℕ). drop n c.split_at-2.result.1.now) c.text_len.ensures.value
    ∙ ap (λ (l : List ℕ). drop (text_len c.args.ends l) l) rest
