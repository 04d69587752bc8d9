use Rattle.std.proofs.Common.{Bool, List, ◌++◌, length, take, drop, refl, ap, sym, subst, ◌∙◌, arith}
use Rattle.std.specs.Prelude.{◌||◌}
use Rattle.std.proofs.lemmas.List.{with_items_is}
use Rattle.markdown_inlines.specs.declared.attention.PlacedRun.{PlacedRun}
use Rattle.markdown_inlines.specs.declared.brackets.Extent.{Extent}
use Rattle.markdown_inlines.specs.declared.brackets.Labels.{Labels}
use Rattle.markdown_inlines.specs.declared.span.Span.{Span}
use Rattle.markdown_inlines.specs.Closed.{end_spans, label_spans, names_of}
use Rattle.markdown_inlines.specs.Filled.{Filled, Placed}
use Rattle.markdown_inlines.specs.Spans.{write}
use Rattle.markdown_inlines.proofs.ClosedLemmas.{leading-closed, room-for}
use Rattle.markdown_inlines.proofs.brackets.end_leading.Goals as goal

pub match_from-requires-clause-placed : goal.match_from-requires-clause-placed
match_from-requires-clause-placed c =
    subst (λ (l : List PlacedRun). Placed (length c.deref_mut-2.result.now) (drop c.args.bracket.runs l))
    (sym c.deref_mut.ensures.value)
    (subst (λ (l : List Span). Placed (length l) (drop c.args.bracket.runs c.args.reading.now.runs.items))
    (sym c.deref_mut-2.ensures.value)
    (room-for c.args.source.start c.args.bracket c.args.reading.now c.requires.closing (omega arith)).1)

pub returns : goal.returns
returns c k =
    leading-closed c.args.source.start c.args.bracket c.args.reading.now _ k c.args.source.options.now
    c.args.following.now c.args.is_link c.args.target extent c.match_from.new.spans
    c.push_label_end.new.spans.items c.push_target.new.spans.items c.requires.len
    (λ at others own items e f.
    c.match_from.ensures.shows at others own items (c.deref_mut-2.ensures.value ∙ e)
    (subst (λ (l : List PlacedRun). Filled at (length others) items own (drop c.args.bracket.runs l))
    (sym c.deref_mut.ensures.value) f))
    (c.in_ok-label.ensures.spans
    ∙ ap (λ (l : List Span). l ++ end_spans c.args.reading.now.at)
    (with_items_is c.args.reading.now.spans c.match_from.new.spans
    (c.match_from.auto.spans ∙ c.deref_mut-2.ensures.len)))
    c.in_ok-end.ensures.spans refl c.in_ok-marker.ensures c.in_ok-text.ensures refl
    c.in_ok-label.ensures.end c.in_ok-end.ensures.end
    (with_items_is c.push_target.new.spans c.fill_places.new.spans
    (c.fill_places.auto.spans ∙ c.deref_mut-3.ensures.len)
    ∙ c.fill_places.ensures
    ∙ ap (λ (names : Labels). write c.args.bracket.place (label_spans names extent) c.deref_mut-3.result.now)
    c.names_of-names.ensures
    ∙ ap (write c.args.bracket.place (label_spans (names_of c.args.is_link) extent)) c.deref_mut-3.ensures.value)
    (c.truncate.ensures.items
    ∙ ap (take c.args.bracket.runs)
    (with_items_is c.args.reading.now.runs c.match_from.new.runs (c.match_from.auto.runs ∙ c.deref_mut.ensures.len))
    ∙ c.match_from.ensures.before ∙ ap (take c.args.bracket.runs) c.deref_mut.ensures.value)
    refl refl
    (c.either-reading.ensures ∙ ap (λ (x : Bool). c.args.bracket.links || x) c.either.ensures)
  where
    extent : Extent
    extent = record {
      at = c.args.bracket.at;
      marker = c.in_ok-marker.marker;
      text = c.in_ok-text.text;
      close = c.args.reading.now.at;
      label = c.in_ok-label.label;
      end = c.in_ok-end.end;
    }
