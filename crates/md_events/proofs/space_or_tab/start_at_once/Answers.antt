use Rattle.std.proofs.Common.{◌≡◌, ◌⊎◌, ◌∙◌, true, false, refl, sym, inl, inr, is_ok, rules}
use Rattle.md_engine.specs.declared.event.Name.TheVariants.{SpaceOrTab}
use Rattle.md_engine.specs.declared.state.Name.TheVariants as n
use Rattle.md_engine.specs.declared.state.space_or_tab.State.TheVariants as its
use Rattle.md_engine.specs.World.{world}
use Rattle.md_engine.proofs.Loops.{ArrivedHere}
use Rattle.md_engine.proofs.StayLemmas.{within-world}
use Rattle.md_events.specs.Spaces.{WhiteStep}
use Rattle.md_events.specs.Transition.{exited}
use Rattle.md_events.proofs.WhiteAtOnce.{white-called, white-ends, white-none, white-waits}
use Rattle.md_events.proofs.space_or_tab.start_at_once.Goals as goal

ahead : {P : Type 0} → (false ≡ true) ⊎ P → P
ahead (inl e) = cc
ahead (inr h) = h

pub returns-then-see_or_wait : goal.returns-then-see_or_wait
returns-then-see_or_wait c = record {
  runs = λ fine.
      let has_entered : is_ok c.enter.result ≡ true = c.if-or_error.ensures.negation in
      rw (c.if-see_or_wait.ensures.same refl)
      (white-waits (world c.args.tokenizer.now) (world c.enter.new.self) (world c.see_white.new.self)
      (sym c.begins.ensures ∙ c.if-begins.true) c.requires.current (within-world c.args.tokenizer.now)
      (rw has_entered at c.enter.ensures.world) (within-world c.enter.new.self) c.see_white.ensures.some
      (c.if-see_or_wait.ensures.waits refl).1);
  sees = search rules;
  full = search rules;
}

pub returns-then-begins-3 : goal.returns-then-begins-3
returns-then-begins-3 c = record {
  runs = λ fine.
      let w = world c.args.tokenizer.now in
      let x = world c.exit.new.self in
      let start = n.SpaceOrTab its.Start in
      let has_entered : is_ok c.enter.result ≡ true = c.if-or_error.ensures.negation in
      let has_exited : is_ok c.exit.result ≡ true = c.if-or_error-2.ensures.negation in
      let ended : x ≡ exited (world c.see_or_wait.new.self) SpaceOrTab = rw has_exited at c.exit.ensures.world in
      let arrived : ArrivedHere WhiteStep start w (n.SpaceOrTab its.After) x =
      rw ended
      (white-ends w (world c.enter.new.self) (world c.see_white.new.self) (world c.see_or_wait.new.self)
      (sym c.begins.ensures ∙ c.if-begins.true) c.requires.current (within-world c.args.tokenizer.now)
      (rw has_entered at c.enter.ensures.world) (within-world c.enter.new.self) c.see_white.ensures
      (ahead (c.if-see_or_wait.ensures.is_continued refl)) (c.if-see_or_wait.ensures.sees refl)
      (within-world c.see_or_wait.new.self)) in
      white-called start its.After w x c.after.result (world c.after.new.tokenizer) arrived c.after.ensures.to
      c.after.ensures.world fine (within-world c.exit.new.self);
  sees = search rules;
  full = search rules;
}

pub returns : goal.returns
returns c = record {
  runs = λ fine.
      let w = world c.args.tokenizer.now in
      white-called (n.SpaceOrTab its.Start) its.After w w c.after-2.result (world c.after-2.new.tokenizer)
      (white-none w (sym c.begins.ensures ∙ c.if-begins.false) c.requires.current (within-world c.args.tokenizer.now))
      c.after-2.ensures.to c.after-2.ensures.world fine (within-world c.args.tokenizer.now);
  sees = search rules;
  full = search rules;
}
