use Rattle.md_events.specs.TextPart.{document_of}
use Rattle.md_events.proofs.PartPlaces.{placed-part}
use Rattle.examples_layer.proofs.ReferencesInline.read_part.Goals as goal

pub read_with-requires-clause-part : goal.read_with-requires-clause-part
read_with-requires-clause-part c =
    placed-part (document_of c.args.state.now)
    (record { kind = c.args.part.kind; chunks = c.args.part.chunks.now }) c.args.part.place c.requires.part
