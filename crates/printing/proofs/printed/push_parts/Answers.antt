use Rattle.std.proofs.Common.{◌∙◌, ◌≡◌, ◌+◌, ◌<◌, [], ap, arith, length, length-append, subst, sym}
use Rattle.std.specs.Prelude.{IfNone, IfSome, Option}
use Rattle.md_outline.specs.Outlined.{IsOutlined}
use Rattle.md_meaning.specs.Label.{Labels, no_labels}
use Rattle.markdown_blocks.specs.PartsLeft.{Left, left_in}
use Rattle.markdown_blocks.specs.declared.parts.Part.{Part}
use Rattle.md_program.specs.Page.{written_on}
use Rattle.printing.proofs.PartsPrinted.{IsNext, all-found, all-printed, first-printed, is-next, next-printed}
use Rattle.printing.proofs.PartsPrinted.{part-divided}
use Rattle.printing.proofs.printed.push_parts.Goals as goal

pub new-parts-requires-clause-size : goal.new-parts-requires-clause-size
new-parts-requires-clause-size c = c.requires.small

pub new-parts-requires-clause-built : goal.new-parts-requires-clause-built
new-parts-requires-clause-built c = c.requires.built

pub loop-parts-init : goal.loop-parts-init
loop-parts-init c =
    first-printed c.args.options.now c.args.text.now (left_in c.new-parts.result) (written_on c.args.output.now)
    c.new.result.items c.new-2.result.items c.new-parts.ensures.outlined c.new-parts.ensures.tree
    c.new-parts.ensures.labels c.new.ensures.items c.new-2.ensures.items

pub push_part-requires : goal.push_part-requires
push_part-requires c =
    let next : IsNext (left_in c.loop-parts.parts) (left_in c.next_blocks.new.self) c.in-Some.next =
    is-next (left_in c.loop-parts.parts) (left_in c.next_blocks.new.self) c.in_ok-next.field-0 c.in-Some.next
    c.in-Some.is c.in_ok-next.ensures.blocks c.in_ok-next.ensures.labels c.in_ok-next.ensures.laid in
    subst (IsOutlined c.in-Some.next.events.items) (sym c.text_state-state.ensures)
    (part-divided (left_in c.loop-parts.parts) (left_in c.next_blocks.new.self) c.in-Some.next c.args.text.now next
    c.loop-parts.invariant.outlined).first

pub loop-parts-smaller : goal.loop-parts-smaller
loop-parts-smaller c =
    let next : IsNext (left_in c.loop-parts.parts) (left_in c.next_blocks.new.self) c.in-Some.next =
    is-next (left_in c.loop-parts.parts) (left_in c.next_blocks.new.self) c.in_ok-next.field-0 c.in-Some.next
    c.in-Some.is c.in_ok-next.ensures.blocks c.in_ok-next.ensures.labels c.in_ok-next.ensures.laid in
    let some : 0 < length c.in-Some.next.events.items =
    subst (λ (o : Option Part). IfSome o (λ (p : Part). 0 < length p.events.items)) c.in-Some.is
    c.in_ok-next.ensures.some in
    let long : length (left_in c.loop-parts.parts).blocks ≡
    length c.in-Some.next.events.items + length (left_in c.next_blocks.new.self).blocks =
    ap length next.blocks ∙ length-append c.in-Some.next.events.items (left_in c.next_blocks.new.self).blocks in
    let same : length (left_in c.reuse.new.self).blocks ≡ length (left_in c.next_blocks.new.self).blocks =
    ap (λ (l : Left). length l.blocks) c.reuse.ensures in
    omega (arith, some, long, same)

pub loop-parts-preserved : goal.loop-parts-preserved
loop-parts-preserved c =
    next-printed c.args.options.now c.args.text.now c.text_state-state.result.bytes.now (left_in c.loop-parts.parts)
    (left_in c.next_blocks.new.self) (left_in c.reuse.new.self) c.in-Some.next (written_on c.args.output.now)
    (written_on c.loop-parts.output) (written_on c.push_part.new.output) c.loop-parts.found.definitions.items
    c.loop-parts.found.footnotes.items c.push_part.new.found.definitions.items c.push_part.new.found.footnotes.items
    (is-next (left_in c.loop-parts.parts) (left_in c.next_blocks.new.self) c.in_ok-next.field-0 c.in-Some.next
    c.in-Some.is c.in_ok-next.ensures.blocks c.in_ok-next.ensures.labels c.in_ok-next.ensures.laid)
    c.reuse.ensures c.text_state-state.ensures c.in_ok-push_part.ensures.lines c.in_ok-push_part.ensures.definitions
    c.in_ok-push_part.ensures.footnotes c.loop-parts.invariant

pub returns-clause-lines : goal.returns-clause-lines
returns-clause-lines c =
    all-printed (written_on c.loop-parts.output) _ c.args.text.now (left_in c.loop-parts.parts).blocks
    (subst (λ (o : Option Part). IfNone o ((left_in c.loop-parts.parts).blocks ≡ [])) c.in_default.is
    c.in_ok-next.ensures.none)
    c.loop-parts.invariant.lines

pub returns-clause-definitions : goal.returns-clause-definitions
returns-clause-definitions c =
    all-found c.loop-parts.found.definitions.items (left_in c.loop-parts.parts).labels.definitions _
    (ap (λ (l : Labels). l.definitions)
    (subst (λ (o : Option Part). IfNone o ((left_in c.loop-parts.parts).labels ≡ no_labels)) c.in_default.is
    c.in_ok-next.ensures.defined))
    c.loop-parts.invariant.definitions_are

pub returns-clause-footnotes : goal.returns-clause-footnotes
returns-clause-footnotes c =
    all-found c.loop-parts.found.footnotes.items (left_in c.loop-parts.parts).labels.footnotes _
    (ap (λ (l : Labels). l.footnotes)
    (subst (λ (o : Option Part). IfNone o ((left_in c.loop-parts.parts).labels ≡ no_labels)) c.in_default.is
    c.in_ok-next.ensures.defined))
    c.loop-parts.invariant.footnotes_are
