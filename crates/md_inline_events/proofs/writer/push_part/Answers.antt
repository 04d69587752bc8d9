use Rattle.std.proofs.Common.{◌≡◌, Bool, List, [], ◌++◌, subst, sym}
use Rattle.std.specs.Prelude.{OnOk}
use Rattle.md_engine.specs.declared.event.Name.TheVariants as n
use Rattle.md_events.specs.Events.Inline.{together}
use Rattle.md_events.specs.TextPart.{document_of}
use Rattle.md_inline_events.specs.Marks.{Mark}
use Rattle.md_inline_events.specs.Cursor.{token_marks}
use Rattle.md_inline_events.specs.SidesOf.{IsReadOf}
use Rattle.md_inline_events.specs.Woven.{chunks_events, is_text}
use Rattle.md_inline_events.proofs.StretchLemmas.{part-stretches}
use Rattle.md_inline_events.proofs.TokenLemmas.{forest_marks}
use Rattle.md_inline_events.proofs.writer.push_part.Goals as goal

pub push_chunks-requires-clause-stretches : goal.push_chunks-requires-clause-stretches
push_chunks-requires-clause-stretches c =
    part-stretches (document_of c.args.state.now) (record { kind = c.args.kind; chunks = c.args.chunks.now })
    c.requires.part

pub push_chunks-requires-clause-text : goal.push_chunks-requires-clause-text
push_chunks-requires-clause-text c =
    subst (λ (b : Bool). IsReadOf c.args.state.now.bytes.now b c.args.chunks.now c.args.text.now)
    (sym c.is_text.ensures) c.requires.text

pub returns : goal.returns
returns c forest h =
    subst
    (λ (ms : List Mark). OnOk c.push_chunks.result (c.push_chunks.new.events.items ≡
    c.args.events.now.items
    ++ together
    (chunks_events c.args.state.now.bytes.now (is_text c.args.kind) (is_text c.args.kind) c.args.chunks.now ms n.Data)))
    (forest_marks c.args.tokens.now forest h)
    (subst
    (λ (b : Bool). OnOk c.push_chunks.result (c.push_chunks.new.events.items ≡
    c.args.events.now.items
    ++ together
    (chunks_events c.args.state.now.bytes.now b b c.args.chunks.now (token_marks [] c.args.tokens.now)
    n.Data)))
    c.is_text.ensures c.push_chunks.ensures)
