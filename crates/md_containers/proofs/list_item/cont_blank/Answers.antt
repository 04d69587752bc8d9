use Rattle.std.proofs.Common.{◌≡◌, ℕ, zero, suc, ◌<◌, Bool, true, cond, refl, sym, ◌∙◌, ap, arith, rules}
use Rattle.md_engine.specs.World.{World, world}
use Rattle.md_engine.specs.declared.state.list_item.State.TheVariants as its
use Rattle.md_containers.specs.Item.{cont_blank_code, indent_code, inside_transition, refused}
use Rattle.md_events.specs.Spaces.{sees_white}
use Rattle.md_events.specs.Transition.{Transition}
use Rattle.md_containers.proofs.ItemMeaning.{item_rule}
use Rattle.md_containers.proofs.list_item.cont_blank.Goals as goal
use Rattle.md_events.proofs.StatesLemmas.{state-is}

-- an item that started blank is refused before its indent
started-blank : (w : World) (max : ℕ) → max ≡ 0 → w.flags.asked.starts_blank ≡ true → refused w ≡ cont_blank_code w max
started-blank w zero e b =
    ap (λ (x : Bool). cond x (refused w) (indent_code its.ContBlank 1 w (sees_white w.current))) (sym b)
started-blank w (suc more) e b = absurd (omega (arith, e))

-- one that was begun continues
gone-on : (w : World) (max : ℕ) → 0 < max → inside_transition its.ContBlank w ≡ cont_blank_code w max
gone-on w zero lt = absurd (omega (arith, lt))
gone-on w (suc more) lt = refl

pub returns-then-tokenizer-gt0 : goal.returns-then-tokenizer-gt0
returns-then-tokenizer-gt0 c =
    state-is _ _ _ _ _ (item_rule its.ContBlank (world c.args.tokenizer.now) _ _)
    (λ fine. (c.proceed_in_indent.ensures.to fine
    ∙ ap (λ (t : Transition). t.to)
    (gone-on (world c.args.tokenizer.now) c.args.tokenizer.now.scratch.whitespace.max c.if-tokenizer-gt0.true)))
    (λ fine.
    c.proceed_in_indent.ensures.world fine
    ∙ ap (λ (t : Transition). t.world)
    (gone-on (world c.args.tokenizer.now) c.args.tokenizer.now.scratch.whitespace.max c.if-tokenizer-gt0.true))
    (search rules)

pub returns-then-tokenizer : goal.returns-then-tokenizer
returns-then-tokenizer c =
    state-is _ _ _ _ _ (item_rule its.ContBlank (world c.args.tokenizer.now) _ _)
    (λ fine. (ap (λ (t : Transition). t.to)
    (started-blank (world c.args.tokenizer.now) c.args.tokenizer.now.scratch.whitespace.max
    (omega (arith, c.if-tokenizer-gt0.false)) c.if-tokenizer.true)))
    (λ fine.
    ap (λ (t : Transition). t.world)
    (started-blank (world c.args.tokenizer.now) c.args.tokenizer.now.scratch.whitespace.max
    (omega (arith, c.if-tokenizer-gt0.false)) c.if-tokenizer.true)) (search rules)
