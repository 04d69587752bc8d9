use Rattle.std.proofs.Common.{List, ap, ◌++◌, ◌-◌, ◌∙◌}
use Rattle.markdown_inlines.specs.declared.span.Span.{Span}
use Rattle.markdown_inlines.specs.Spans.{holes}
use Rattle.markdown_inlines.proofs.SpanLemmas.{three-more}
use Rattle.markdown_inlines.proofs.span.push_places.Goals as goal

pub loop-left-preserved : goal.loop-left-preserved
loop-left-preserved c =
    ap (λ (l : List Span). l ++ holes (c.loop-left.left - 3)) c.in_ok-push_spans.ensures
    ∙ three-more c.loop-left.spans.items c.loop-left.left c.loop-left-test.true
    ∙ c.loop-left.invariant
