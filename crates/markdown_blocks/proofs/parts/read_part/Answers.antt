use Rattle.std.proofs.Common.{◌≡◌, ℕ, List, [], arith, refl, subst, sym}
use Rattle.md_events.specs.Events.Inline.{plain_chunks, together}
use Rattle.md_events.specs.Lined.{AreLines}
use Rattle.md_events.specs.Parts.{ArePlaced}
use Rattle.md_events.specs.Substituted.{EachAsked, Substituted}
use Rattle.md_events.specs.TextPart.{wants_text}
use Rattle.markdown_blocks.proofs.PartWhole.{is-asked, is-placed, lines-read}
use Rattle.markdown_blocks.proofs.parts.read_part.Goals as goal

pub subtokenize-requires-clause-placed : goal.subtokenize-requires-clause-placed
subtokenize-requires-clause-placed c =
    subst (λ (l : List ℕ). ArePlaced l c.in_ok-part.part.events.items) (sym c.before_next.ensures)
    (is-placed c.args.options.now c.args.text.now c.args.start c.in_ok-part.part c.in_ok-part.next
    (omega (arith, c.requires.small)) c.in_ok-part.ensures.part)

pub subtokenize-requires-clause-asked : goal.subtokenize-requires-clause-asked
subtokenize-requires-clause-asked c =
    subst
    (λ (l : List ℕ). EachAsked wants_text (λ content chunks. AreLines l chunks) 0 c.in_ok-part.part.events.items)
    (sym c.before_next.ensures)
    (is-asked c.args.options.now c.args.text.now c.args.start c.in_ok-part.part c.in_ok-part.next
    (omega (arith, c.requires.small)) c.in_ok-part.ensures.part)

pub returns-clause-part : goal.returns-clause-part
returns-clause-part c =
    lines-read c.args.options.now c.args.text.now c.args.start c.in_ok-part.part
    (record {
      events = c.in_ok-events.events;
      definitions = c.in_ok-part.part.definitions;
      gfm_footnote_definitions = c.in_ok-part.part.gfm_footnote_definitions;
    }) c.in_ok-part.next (omega (arith, c.requires.small)) c.in_ok-part.ensures.part
    (subst
    (λ (l : List ℕ).
    Substituted wants_text (λ content chunks answer. answer ≡ together (plain_chunks l chunks)) [] 0
    c.in_ok-part.part.events.items c.in_ok-events.events.items) c.before_next.ensures
    c.in_ok-events.ensures.substituted)
    refl
