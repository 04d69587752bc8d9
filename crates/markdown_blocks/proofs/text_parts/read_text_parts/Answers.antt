use Rattle.std.proofs.Common.{List, [], ◌++◌, ap, subst, sym, ◌∙◌}
use Rattle.md_engine.specs.declared.event.Event.{Event}
use Rattle.md_events.specs.Events.Inline.{together}
use Rattle.md_events.specs.Substituted.{Substituted}
use Rattle.md_events.proofs.AskedBlocks.{asked-blocks}
use Rattle.md_events.specs.TextPart.{document_of, text_readings, wants_text}
use Rattle.markdown_blocks.specs.declared.sink.All.{All}
use Rattle.markdown_blocks.proofs.Handed.{all-events}
use Rattle.markdown_blocks.proofs.text_parts.read_text_parts.Goals as goal

pub subtokenize-requires-clause-asked : goal.subtokenize-requires-clause-asked
subtokenize-requires-clause-asked g c =
    asked-blocks (document_of c.args.state.now) c.args.events.items c.requires.are

pub returns : goal.returns
returns g c =
    let handed = c.in_ok-hand_over.ensures in
    let all = all-events (λ (a : All). a.events.items) _ c.hand_over.new.sink handed.0 handed.1 in
    subst
    (Substituted wants_text
    (text_readings (g.I.Inline.reads c.args.inline.now (document_of c.args.state.now))) [] 0 c.args.events.items)
    (sym (all ∙ ap (λ (l : List Event). l ++ together handed.0) c.in_ok-with_room.ensures))
    (rw c.deref.ensures.value at handed.2)
