use Rattle.std.proofs.Common.{ap, ◌∙◌}
use Rattle.std.proofs.lemmas.Result.{on_ok_weaker}
use Rattle.md_events.specs.TextPart.{document_of}
use Rattle.md_inline_events.specs.Tokens.{live}
use Rattle.md_inline_events.specs.Woven.{read_text}
use Rattle.markdown_inlines.specs.Layer.{labels_in, part_forest}
use Rattle.markdown_inlines.proofs.LayerLemmas.{part-events, part-tokens}
use Rattle.markdown_inlines.proofs.layer.read_as_at.Goals as goal

pub returns : goal.returns
returns c =
    on_ok_weaker c.push_part.result
    (λ same.
    part-events c.args.options.now (document_of c.args.state.now)
    (record { kind = c.args.part.kind; chunks = c.args.part.chunks.now }) c.args.part.place c.clear.new.self.items
    c.push_part.new.events.items c.clear.ensures.items same)
    (c.push_part.ensures
    (part_forest c.args.options.now (labels_in (document_of c.args.state.now)) c.args.part.place c.args.part.kind
    (read_text c.args.state.now.bytes.now (record { kind = c.args.part.kind; chunks = c.args.part.chunks.now })))
    (ap live c.deref.ensures.value
    ∙ part-tokens c.args.options.now (document_of c.args.state.now)
    (record { kind = c.args.part.kind; chunks = c.args.part.chunks.now }) c.args.part.place c.args.labels.now
    c.bytes.result.now c.in_ok-tokens.tokens.items c.requires.labels (c.bytes.ensures ∙ c.in_ok-text.ensures.bytes)
    c.in_ok-tokens.ensures))
