use Rattle.std.proofs.lemmas.Result.{on_ok_weaker}
use Rattle.md_events.specs.TextPart.{document_of}
use Rattle.markdown_inlines.proofs.LayerLemmas.{events-of}
use Rattle.markdown_inlines.proofs.layer.InlinesInline.read_into.Goals as goal

pub returns : goal.returns
returns c = record {
  reads =
      on_ok_weaker c.read_as_at.result
      (λ is.
      events-of c.args.self.now.options (document_of c.args.state.now)
      (record { kind = c.args.kind; chunks = c.args.chunks.now }) c.in_ok-place.place c.read_as_at.new.events.items
      c.in_ok-place.ensures is)
      c.read_as_at.ensures;
}
