use Rattle.std.proofs.Common.{List, ap, ◌++◌, ◌∙◌}
use Rattle.std.proofs.Common.{[], ◌∷◌}
use Rattle.markdown_inlines.specs.declared.span.Span.{Span}
use Rattle.markdown_inlines.proofs.LeadingLemmas.{quoted-shows}
use Rattle.markdown_inlines.proofs.SpanLemmas.{three-spans}
use Rattle.markdown_inlines.proofs.target.push_quoted.Goals as goal

pub returns-clause-spans : goal.returns-clause-spans
returns-clause-spans c =
    quoted-shows c.args.options.now c.args.names c.args.inside.now c.args.at c.in_ok-start.start c.in_ok-close.close
    c.in_ok-end.end c.args.spans.now.items c.push_spans.new.spans.items c.push_string.new.spans.items
    c.push_spans-2.new.spans.items c.requires c.in_ok-start.ensures c.in_ok-close.ensures c.in_ok-end.ensures
    (c.in_ok-push_spans.ensures
    ∙ ap (λ (l : List Span). c.args.spans.now.items ++ l)
    (three-spans c.new.result c.new-2.result c.new-3.result _ _ _ c.new.ensures c.new-2.ensures c.new-3.ensures))
    c.in_ok-push_string.ensures
    (c.in_ok-push_spans-2.ensures
    ∙ ap (λ (s : Span). c.push_string.new.spans.items ++ s ∷ []) c.new-4.ensures)
