use Rattle.std.proofs.lemmas.Result.{on_ok_weaker}
use Rattle.md_events.specs.TextPart.{document_of}
use Rattle.md_events.proofs.PartPlaces.{placed-part}
use Rattle.markdown_inlines.proofs.LayerLemmas.{events-at}
use Rattle.markdown_inlines.proofs.layer.InlinesInline.read_part.Goals as goal

pub read_as_at-requires-clause-part : goal.read_as_at-requires-clause-part
read_as_at-requires-clause-part c =
    placed-part (document_of c.args.state.now)
    (record { kind = c.args.part.kind; chunks = c.args.part.chunks.now }) c.args.part.place c.requires.part

pub returns-clause-reads : goal.returns-clause-reads
returns-clause-reads c =
    on_ok_weaker c.read_as_at.result
    (λ is.
    events-at c.args.self.now.options (document_of c.args.state.now)
    (record { kind = c.args.part.kind; chunks = c.args.part.chunks.now }) c.args.part.place
    c.read_as_at.new.events.items c.requires.part is)
    c.read_as_at.ensures
