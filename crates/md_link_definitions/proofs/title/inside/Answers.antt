use Rattle.std.proofs.Common.{◌≡◌, ◌∙◌, ap, arith, false, is_ok, nat_eq, refl, rules, sym, true, ℕ, Some}
use Rattle.std.proofs.lemmas.Bool.Decides.{nat_tests}
use Rattle.md_engine.specs.declared.event.Name.TheVariants.{Data, DefinitionTitleString}
use Rattle.md_engine.specs.declared.state.title.State.TheVariants as its
use Rattle.md_engine.specs.World.{World, world}
use Rattle.md_link_definitions.specs.Title.{closed, inside_transition, refused}
use Rattle.md_link_definitions.proofs.TitleMeaning.{title_rule}
use Rattle.md_link_definitions.proofs.title.inside.Goals as goal
use Rattle.std.proofs.lemmas.Grind.{common_steps}
use Rattle.md_events.proofs.StatesLemmas.{state-is}
use Rattle.md_events.specs.Transition.{Transition, exited}

-- at the closing mark,
inside-closes : (w : World) (b : ℕ) → w.current ≡ Some b → b ≡ w.scratch.marker →
    inside_transition w ≡ closed (exited (exited w Data) DefinitionTitleString)
inside-closes w b e k = let closer : nat_eq b w.scratch.marker ≡ true = grind (arith, nat_tests) in rw (e, closer) refl

-- and at the opening one, where that is another
inside-refuses : (w : World) (b : ℕ) → w.current ≡ Some b → (b ≡ w.scratch.marker → ⊥) → b ≡ w.scratch.marker_b →
    inside_transition w ≡ refused w
inside-refuses w b e k l =
    let closer : nat_eq b w.scratch.marker ≡ false = grind (arith, nat_tests) in
    let opener : nat_eq b w.scratch.marker_b ≡ true = grind (arith, nat_tests) in
    rw (e, closer, opener) refl

pub returns-then-byte-tokenizer-3 : goal.returns-then-byte-tokenizer-3
returns-then-byte-tokenizer-3 c =
    let w : World = world c.args.tokenizer.now in
    let same = inside-closes w c.in-Some.byte c.in-Some.is c.if-byte-tokenizer.true in
    let has_text : is_ok c.exit.result ≡ true = c.if-or_error.ensures.negation in
    let has_string : is_ok c.exit-then-byte-tokenizer.result ≡ true = c.if-or_error-2.ensures.negation in
    let text : world c.exit.new.self ≡ exited w Data = rw has_text at c.exit.ensures.world in
    let string : world c.exit-then-byte-tokenizer.new.self ≡ exited (exited w Data) DefinitionTitleString =
    (rw has_string at c.exit-then-byte-tokenizer.ensures.world)
    ∙ ap (λ (v : World). exited v DefinitionTitleString) text in
    state-is _ _ _ _ _ (title_rule its.Inside w _ _)
    (λ fine. c.close.ensures.to fine ∙ ap (λ (t : Transition). t.to) (sym same))
    (λ fine.
    c.close.ensures.world fine
    ∙ ap (λ (v : World). (closed v).world) string
    ∙ ap (λ (t : Transition). t.world) (sym same))
    (search rules)

pub returns-then-byte-tokenizer-2-2 : goal.returns-then-byte-tokenizer-2-2
returns-then-byte-tokenizer-2-2 c = record {
  to = λ fine.
      c.refuse-then-byte-tokenizer-2.ensures.to
      ∙ ap (λ (t : Transition). t.to)
      (sym
      (inside-refuses (world c.args.tokenizer.now) c.in-Some.byte c.in-Some.is c.if-byte-tokenizer.false
      c.if-byte-tokenizer-2.true));
  world = λ fine.
      c.refuse-then-byte-tokenizer-2.ensures.world
      ∙ ap (λ (t : Transition). t.world)
      (sym
      (inside-refuses (world c.args.tokenizer.now) c.in-Some.byte c.in-Some.is c.if-byte-tokenizer.false
      c.if-byte-tokenizer-2.true));
  rule = λ fine.
      let same = inside-refuses (world c.args.tokenizer.now) c.in-Some.byte c.in-Some.is c.if-byte-tokenizer.false
      c.if-byte-tokenizer-2.true in
      title_rule its.Inside _ _ _ (c.refuse-then-byte-tokenizer-2.ensures.to ∙ ap (λ (t : Transition). t.to) (sym same))
      (c.refuse-then-byte-tokenizer-2.ensures.world ∙ ap (λ (t : Transition). t.world) (sym same));
  full = search rules;
}

pub returns-in_default-byte : goal.returns-in_default-byte
returns-in_default-byte c = record {
  to = search rules;
  world = search rules;
  rule = λ fine. title_rule its.Inside _ _ _ (search rules) (search rules);
  full = search rules;
}

pub returns-in-10 : goal.returns-in-10
returns-in-10 c =
    state-is _ _ _ _ _ (title_rule its.Inside (world c.args.tokenizer.now) _ _)
    (first_of (search rules, grind (arith, common_steps)))
    (first_of (search rules, grind (arith, common_steps)))
    (search rules)

pub returns-in-92 : goal.returns-in-92
returns-in-92 c =
    state-is _ _ _ _ _ (title_rule its.Inside (world c.args.tokenizer.now) _ _)
    (first_of (search rules, grind (arith, common_steps)))
    (first_of (search rules, grind (arith, common_steps)))
    (search rules)
