use Rattle.std.proofs.Common.{List, ap, ◌++◌, ◌∙◌}
use Rattle.std.proofs.lemmas.Result.{on_ok_weaker}
use Rattle.markdown_inlines.specs.declared.span.Span.{Span}
use Rattle.markdown_inlines.specs.Leading.{inner}
use Rattle.markdown_inlines.proofs.LeadingLemmas.{titled-shows}
use Rattle.markdown_inlines.proofs.SpanLemmas.{two-spans}
use Rattle.markdown_inlines.proofs.target.push_ending.Goals as goal

pub returns : goal.returns
returns c =
    on_ok_weaker c.push_spans-2.result
    (λ added.
    titled-shows c.args.options.now c.args.found c.args.text.now c.args.at c.in_ok-close.close c.in_ok-mark.mark
    c.in_ok-end-2.end c.args.spans.now.items c.push_quoted.new.spans.items c.push_spans-2.new.spans.items
    c.inner.result.now c.if-found-eq0.false (c.inner.ensures ∙ ap inner c.front.ensures) c.in_ok-close.ensures.end
    c.in_ok-mark.ensures c.in_ok-end-2.ensures c.in_ok-close.ensures.spans
    (added
    ∙ ap (λ (l : List Span). c.push_quoted.new.spans.items ++ l)
    (two-spans c.new-2.result c.new-3.result _ _ c.new-2.ensures c.new-3.ensures)))
    c.push_spans-2.ensures
