use Rattle.std.proofs.Common.{◌≡◌, List, ap, arith, length, subst, sym, ◌∙◌}
use Rattle.std.specs.List.{prefix_len}
use Rattle.md_engine.specs.declared.event.Event.{Event}
use Rattle.md_engine.specs.World.{World, world}
use Rattle.md_leaves.specs.Turned.{HoldNoUnderline}
use Rattle.md_order.specs.Alone.{MayPass}
use Rattle.md_order.specs.InOrder.{every, in_order}
use Rattle.markdown_blocks.specs.Alone.{stays_by_name}
use Rattle.markdown_blocks.proofs.StaysAlone.{alone-same, stay-pass}
use Rattle.markdown_blocks.proofs.parser.resolve_blocks.Goals as goal

pub returns-then-same-len : goal.returns-then-same-len
returns-then-same-len c =
    let w : World = world c.args.tokenizer.now in
    let all : prefix_len stays_by_name w.events ≡ length w.events =
    sym
    (c.until_changed-same.ensures.value
    ∙ ap (λ (es : List Event). prefix_len stays_by_name es) c.deref.ensures.value)
    ∙ c.if-same-len.true ∙ c.len.ensures ∙ sym c.deref.ensures.len
    ∙ ap (λ (es : List Event). length es) c.deref.ensures.value in
    ap (λ (es : List Event). record w { events = es })
    (sym (alone-same c.args.options.now w.setting.bytes w.events all))

pub join_lines-requires-clause-many : goal.join_lines-requires-clause-many
join_lines-requires-clause-many c =
    let w : World = world c.args.tokenizer.now in
    let is : c.until_changed-same.result ≡ prefix_len stays_by_name w.events =
    c.until_changed-same.ensures.value ∙ ap (λ (es : List Event). prefix_len stays_by_name es) c.deref.ensures.value in
    omega (arith, is, stay-pass w.events)

pub pass_all-requires-clause-frames : goal.pass_all-requires-clause-frames
pass_all-requires-clause-frames c = ap (λ (x : World). x.frames) c.in_ok-underlines.ensures.world ∙ c.requires.frames

pub pass_all-requires-clause-may : goal.pass_all-requires-clause-may
pass_all-requires-clause-may c =
    subst (MayPass every) (sym (ap (λ (x : World). x.events) c.in_ok-underlines.ensures.world)) c.requires.may

pub pass_all-requires-clause-underlines : goal.pass_all-requires-clause-underlines
pass_all-requires-clause-underlines c = λ none.
    subst HoldNoUnderline (sym (ap (λ (x : World). x.events) c.in_ok-underlines.ensures.world))
    (c.in_ok-underlines.ensures.underlines none)

pub returns : goal.returns
returns c =
    c.in_ok-pass_all.ensures.world
    ∙ ap (λ (x : World). record x { events = in_order every x.setting.bytes x.events }) c.in_ok-underlines.ensures.world
