use Rattle.md_events.specs.Events.Inline.{Part}
use Rattle.md_events.specs.TextPart.{Document, document_of, text_kind}
use Rattle.md_events.proofs.TextParts.{text-lines}
use Rattle.markdown_blocks.proofs.text_parts.TextReaderReader.plain_text.Goals as goal

pub returns-then-is_plain-clause-lines : goal.returns-then-is_plain-clause-lines
returns-then-is_plain-clause-lines g c = λ content chunks is.
    let document : Document = document_of c.args.self.now.state.now in
    let part : Part = record { kind = text_kind content; chunks = chunks } in (
      text-lines document part is,
      c.is_plain.ensures c.if-is_plain.true document part is,
    )
