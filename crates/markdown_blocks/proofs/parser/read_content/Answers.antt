use Rattle.std.proofs.Common.{◌≡◌, ◌≤◌, List, ap, arith, length, subst, sym, ◌∙◌}
use Rattle.std.specs.List.{prefix_len}
use Rattle.std.proofs.lemmas.List.Sums.{prefix_len-le-length}
use Rattle.md_engine.specs.World.{World, world}
use Rattle.md_engine.specs.declared.event.Event.{Event}
use Rattle.markdown_blocks.specs.Alone.{passes_alone}
use Rattle.markdown_blocks.proofs.StaysAlone.{alone-passes}
use Rattle.markdown_blocks.proofs.parser.read_content.Goals as goal

pub until_read-many-requires-clause-within : goal.until_read-many-requires-clause-within
until_read-many-requires-clause-within c =
    let w : World = world c.args.tokenizer.now in
    subst (λ (es : List Event). c.args.known ≤ length es) (sym c.deref.ensures.value)
    (omega (arith, c.requires.known, prefix_len-le-length passes_alone w.events))

pub returns-then-not-is_unread-clause-many : goal.returns-then-not-is_unread-clause-many
returns-then-not-is_unread-clause-many c =
    let w : World = world c.args.tokenizer.now in
    let is : c.until_read-many.result ≡ prefix_len passes_alone w.events =
    c.until_read-many.ensures ∙ ap (λ (es : List Event). prefix_len passes_alone es) c.deref.ensures.value in
    omega (arith, is, alone-passes w.events)
