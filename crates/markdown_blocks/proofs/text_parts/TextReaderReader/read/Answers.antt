use Rattle.std.proofs.Common.{List, subst, sym}
use Rattle.std.proofs.lemmas.Result.{on_ok_weaker}
use Rattle.md_engine.specs.declared.event.Event.{Event}
use Rattle.md_events.specs.declared.inline.PartKind.{PartKind}
use Rattle.md_events.specs.Events.Inline.{Part}
use Rattle.md_events.specs.TextPart.{Document, IsTextPart, document_of}
use Rattle.md_events.proofs.TextParts.{placed-events, text-part}
use Rattle.markdown_blocks.proofs.text_parts.TextReaderReader.read.Goals as goal

pub read_into-requires : goal.read_into-requires
read_into-requires g c =
    let document : Document = document_of c.args.self.now.state.now in
    subst (λ (k : PartKind). IsTextPart document (record { kind = k; chunks = c.args.chunks.now }))
    (sym c.kind_of.ensures) c.requires.asked

pub returns-clause-placed : goal.returns-clause-placed
returns-clause-placed g c =
    let document : Document = document_of c.args.self.now.state.now in
    let part : Part = record { kind = c.kind_of.result; chunks = c.args.chunks.now } in
    let is : IsTextPart document part =
    subst (λ (k : PartKind). IsTextPart document (record { kind = k; chunks = c.args.chunks.now }))
    (sym c.kind_of.ensures) c.requires.asked in
    let events : List Event = c.read_into.new.events.items in
    on_ok_weaker c.read_into.result
    (λ reads.
    placed-events document.bytes is.are.sized events
    (g.met.I.Inline.keeps_frame c.args.self.now.inline.now document part events (text-part document part is)
    reads).placed)
    c.read_into.ensures
