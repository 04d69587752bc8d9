use Rattle.std.proofs.Common.{List, ap, ◌++◌, ◌∙◌}
use Rattle.markdown_inlines.specs.declared.span.Span.{Span}
use Rattle.markdown_inlines.proofs.LeadingLemmas.{raw-shows}
use Rattle.markdown_inlines.proofs.SpanLemmas.{two-spans}
use Rattle.markdown_inlines.proofs.target.push_raw_destination.Goals as goal

pub returns-clause-spans : goal.returns-clause-spans
returns-clause-spans c =
    raw-shows c.args.options.now c.args.text.now c.args.at c.in_ok-end.end c.args.spans.now.items
    c.push_spans.new.spans.items c.push_string.new.spans.items c.in_ok-end.ensures
    (c.in_ok-push_spans.ensures
    ∙ ap (λ (l : List Span). c.args.spans.now.items ++ l)
    (two-spans c.new.result c.new-2.result _ _ c.new.ensures c.new-2.ensures)) c.in_ok-push_string.ensures
