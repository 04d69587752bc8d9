use Rattle.std.proofs.Common.{List, ap, ◌++◌, ◌∙◌, rules}
use Rattle.std.proofs.lemmas.Result.{on_ok_weaker}
use Rattle.markdown_inlines.specs.declared.span.Span.{Span}
use Rattle.markdown_inlines.specs.Spans.{holes}
use Rattle.markdown_inlines.proofs.SpanLemmas.{run-place, run-places}
use Rattle.markdown_inlines.proofs.attention.push_room.Goals as goal

pub returns-then-not-run : goal.returns-then-not-run
returns-then-not-run c =
    c.in_ok-push_places.ensures
    ∙ run-place c.args.run.left c.args.spans.now.items c.args.run.opens (search rules)

pub returns : goal.returns
returns c =
    on_ok_weaker c.push_places-3.result
    (λ last.
    last
    ∙ ap (λ (l : List Span). l ++ holes c.args.run.left)
    (c.in_ok-push_places-2.ensures
    ∙ ap (λ (l : List Span). l ++ holes c.args.run.left) c.in_ok-push_places.ensures)
    ∙ run-places c.args.run.left c.args.spans.now.items c.args.run.opens (search rules))
    c.push_places-3.ensures
