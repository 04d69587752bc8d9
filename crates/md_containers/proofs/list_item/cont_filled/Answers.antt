use Rattle.std.proofs.Common.{◌≡◌, ℕ, zero, suc, ◌<◌, ◌∙◌, ap, refl, arith, rules}
use Rattle.md_engine.specs.World.{World, world}
use Rattle.md_engine.specs.declared.state.list_item.State.TheVariants as its
use Rattle.md_containers.specs.Item.{cont_filled_code, indent_code, inside_transition, least_width}
use Rattle.md_events.specs.Spaces.{sees_white}
use Rattle.md_events.specs.Transition.{Transition}
use Rattle.md_containers.proofs.ItemMeaning.{item_rule}
use Rattle.md_containers.proofs.list_item.cont_filled.Goals as goal
use Rattle.md_events.proofs.StatesLemmas.{state-is}

-- an indent that was begun continues
gone-on : (w : World) (max : ℕ) → 0 < max → inside_transition its.ContFilled w ≡ cont_filled_code w max
gone-on w zero lt = absurd (omega (arith, lt))
gone-on w (suc more) lt = refl

-- one that was not begun begins
begun : (w : World) (max min : ℕ) → max ≡ 0 → min ≡ least_width w.flags.asked →
    indent_code its.ContFilled min w (sees_white w.current) ≡ cont_filled_code w max
begun w zero min e same = ap (λ (min : ℕ). indent_code its.ContFilled min w (sees_white w.current)) same
begun w (suc more) min e same = absurd (omega (arith, e))

pub returns-then-tokenizer-gt0 : goal.returns-then-tokenizer-gt0
returns-then-tokenizer-gt0 c =
    state-is _ _ _ _ _ (item_rule its.ContFilled (world c.args.tokenizer.now) _ _)
    (λ fine. (c.proceed_in_indent.ensures.to fine
    ∙ ap (λ (t : Transition). t.to)
    (gone-on (world c.args.tokenizer.now) c.args.tokenizer.now.scratch.whitespace.max c.if-tokenizer-gt0.true)))
    (λ fine.
    c.proceed_in_indent.ensures.world fine
    ∙ ap (λ (t : Transition). t.world)
    (gone-on (world c.args.tokenizer.now) c.args.tokenizer.now.scratch.whitespace.max c.if-tokenizer-gt0.true))
    (search rules)

pub returns-else-tokenizer-gt0 : goal.returns-else-tokenizer-gt0
returns-else-tokenizer-gt0 c =
    let begins = begun (world c.args.tokenizer.now) c.args.tokenizer.now.scratch.whitespace.max _
    (omega (arith, c.if-tokenizer-gt0.false)) c.least_width-min.ensures in
    state-is _ _ _ _ _ (item_rule its.ContFilled (world c.args.tokenizer.now) _ _)
    (λ fine. c.begin_indent.ensures.to fine ∙ ap (λ (t : Transition). t.to) begins)
    (λ fine. c.begin_indent.ensures.world fine ∙ ap (λ (t : Transition). t.world) begins)
    (search rules)
