use Rattle.md_events.specs.TextPart.{document_of}
use Rattle.md_events.proofs.PartPlaces.{placed-part}
use Rattle.md_events.proofs.inline.Inline.read_part.Goals as goal

pub read_into-requires : goal.read_into-requires
read_into-requires g c =
    placed-part (document_of c.args.state.now)
    (record { kind = c.args.part.kind; chunks = c.args.part.chunks.now }) c.args.part.place c.requires.part
