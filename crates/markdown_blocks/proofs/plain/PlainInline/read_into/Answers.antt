use Rattle.md_events.specs.Events.Inline.{Part}
use Rattle.md_events.specs.TextPart.{document_of}
use Rattle.md_events.proofs.PlainSteps.{lines-each}
use Rattle.md_events.proofs.TextParts.{text-part, text-part-chunks}
use Rattle.markdown_blocks.proofs.plain.PlainInline.read_into.Goals as goal

pub read_into-requires-clause-chunks : goal.read_into-requires-clause-chunks
read_into-requires-clause-chunks c =
    text-part-chunks (document_of c.args.state.now) (record { kind = c.args._kind; chunks = c.args.chunks.now })
    c.requires

pub read_into-requires-clause-lines : goal.read_into-requires-clause-lines
read_into-requires-clause-lines c =
    let part : Part = record { kind = c.args._kind; chunks = c.args.chunks.now } in
    let may = text-part (document_of c.args.state.now) part c.requires in
    lines-each c.args.state.now.bytes.now may.end c.args.chunks.now may.lines

pub read_into-requires-clause-whole : goal.read_into-requires-clause-whole
read_into-requires-clause-whole c =
    let part : Part = record { kind = c.args._kind; chunks = c.args.chunks.now } in
    (text-part (document_of c.args.state.now) part c.requires).whole
