use Rattle.std.proofs.Common.{refl, ap, ◌∙◌}
use Rattle.std.proofs.lemmas.List.{with_items_is}
use Rattle.markdown_inlines.specs.Closed.{call_names, label_spans}
use Rattle.markdown_inlines.specs.Spans.{write}
use Rattle.markdown_inlines.specs.declared.brackets.Extent.{Extent}
use Rattle.markdown_inlines.proofs.ClosedLemmas.{call-closed}
use Rattle.markdown_inlines.proofs.brackets.end_call.Goals as goal

pub returns : goal.returns
returns c k len here =
    call-closed c.args.start c.args.bracket c.args.reading.now _ k len extent c.in_ok-kept.kept
    c.truncate.new.self.items c.push_label_end.new.spans.items here c.in_ok-kept.ensures c.truncate.ensures.items
    c.in_ok-end.ensures.spans refl c.in_ok-marker.ensures c.in_ok-text.ensures refl c.in_ok-end.ensures.end refl
    (with_items_is c.push_label_end.new.spans c.fill_places.new.spans
    (c.fill_places.auto.spans ∙ c.deref_mut.ensures.len)
    ∙ c.fill_places.ensures
    ∙ ap (write c.args.bracket.place (label_spans call_names extent)) c.deref_mut.ensures.value)
    c.truncate-2.ensures.items refl refl c.either-reading.ensures
  where
    extent : Extent
    extent = record {
      at = c.args.bracket.at;
      marker = c.in_ok-marker.marker;
      text = c.in_ok-text.text;
      close = c.args.reading.now.at;
      label = c.in_ok-end.end;
      end = c.in_ok-end.end;
    }
