use Rattle.std.proofs.Common.{arith, rules, ◌≡◌, ℕ, Some, false, refl, ap, sym, ◌∙◌, nat_eq}
use Rattle.std.proofs.lemmas.Grind.{common_steps}
use Rattle.std.proofs.lemmas.Bool.{eq-eqb}
use Rattle.md_engine.specs.declared.state.State.{State}
use Rattle.md_engine.specs.declared.state.html_flow.State.TheVariants as its
use Rattle.md_engine.specs.World.{World, world}
use Rattle.md_literal.specs.Html.{continuation_transition, moved, stop_move}
use Rattle.md_literal.specs.HtmlRule.{HtmlMeans}
use Rattle.md_literal.proofs.HtmlMeaning.{html_rule}
use Rattle.md_literal.proofs.html_flow.continuation.Goals as goal
use Rattle.md_events.specs.Transition.{Transition}

-- at the byte with which an end may begin
at-stop : (w : World) (b : ℕ) → w.current ≡ Some b → nat_eq b 10 ≡ false → b ≡ w.scratch.marker →
    continuation_transition w ≡ moved w (stop_move w.scratch)
at-stop w b e k m = rw (e, k, eq-eqb b w.scratch.marker m) refl

-- and what is done there is a step of the rule
stop-rule : (w new : World) (to : State) (b : ℕ) → w.current ≡ Some b → nat_eq b 10 ≡ false → b ≡ w.scratch.marker →
    to ≡ (moved w (stop_move w.scratch)).to → new ≡ (moved w (stop_move w.scratch)).world →
    HtmlMeans its.Continuation w to new
stop-rule w new to b e k m is done =
    let same = at-stop w b e k m in
    html_rule its.Continuation w new to (is ∙ sym (ap (λ (t : Transition). t.to) same))
    (done ∙ sym (ap (λ (t : Transition). t.world) same))

pub returns-then-byte-tokenizer : goal.returns-then-byte-tokenizer
returns-then-byte-tokenizer c = record {
  to = λ fine.
      let line : nat_eq c.in-Some.byte 10 ≡ false = search rules in
      c.at_stop.ensures.to
      ∙ sym
      (ap (λ (t : Transition). t.to)
      (at-stop (world c.args.tokenizer.now) c.in-Some.byte c.in-Some.is line c.if-byte-tokenizer.true));
  world = λ fine.
      let line : nat_eq c.in-Some.byte 10 ≡ false = search rules in
      c.at_stop.ensures.world
      ∙ sym
      (ap (λ (t : Transition). t.world)
      (at-stop (world c.args.tokenizer.now) c.in-Some.byte c.in-Some.is line c.if-byte-tokenizer.true));
  rule = λ fine.
      let line : nat_eq c.in-Some.byte 10 ≡ false = search rules in
      stop-rule (world c.args.tokenizer.now) _ _ c.in-Some.byte c.in-Some.is line c.if-byte-tokenizer.true
      c.at_stop.ensures.to c.at_stop.ensures.world;
  full = search rules;
}

pub returns-else-byte-tokenizer : goal.returns-else-byte-tokenizer
returns-else-byte-tokenizer c = record {
  to = first_of (search rules, grind (arith, common_steps));
  world = first_of (search rules, grind (arith, common_steps));
  rule = λ fine. html_rule its.Continuation _ _ _ (search rules) (search rules);
  full = search rules;
}
