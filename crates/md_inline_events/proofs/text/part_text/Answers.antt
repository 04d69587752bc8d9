use Rattle.std.proofs.Common.{arith}
use Rattle.std.proofs.lemmas.List.Elements.{All-get_or}
use Rattle.md_events.specs.TextPart.{document_of}
use Rattle.md_inline_events.specs.Room.{IsStretch}
use Rattle.md_inline_events.proofs.StretchLemmas.{part-stretches}
use Rattle.md_inline_events.proofs.text.part_text.Goals as goal

pub next_side-side-requires : goal.next_side-side-requires
next_side-side-requires c =
    All-get_or (IsStretch c.args.state.now.bytes.now) c.args.chunks.now 0 _ (grind arith)
    (part-stretches (document_of c.args.state.now) (record { kind = c.args.kind; chunks = c.args.chunks.now })
    c.requires)

pub copied-requires : goal.copied-requires
copied-requires c =
    part-stretches (document_of c.args.state.now) (record { kind = c.args.kind; chunks = c.args.chunks.now }) c.requires
