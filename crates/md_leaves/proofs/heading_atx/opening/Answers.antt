use Rattle.std.proofs.Common.{◌≡◌, ◌<◌, ◌∙◌, true, ap, inl, inr, is_ok, refl, subst, sym, rules}
use Rattle.md_engine.specs.declared.event.Name.TheVariants.{HeadingAtxSequence}
use Rattle.md_engine.specs.declared.state.heading_atx.State.TheVariants as its
use Rattle.md_engine.specs.declared.state.Name.TheVariants as n
use Rattle.md_engine.specs.declared.state.State.TheVariants.{Next}
use Rattle.md_engine.specs.Run.{Runs, reading}
use Rattle.md_engine.specs.World.{World, looks, world}
use Rattle.md_engine.proofs.Keeps.{runs-setting}
use Rattle.md_engine.proofs.Loops.{Arrived, ArrivedAt, call-runs, call-sees, arrived-first, arrived-runs, reading-same}
use Rattle.md_engine.proofs.StayLemmas.{within-world}
use Rattle.md_leaves.specs.Heading.{before_transition}
use Rattle.md_leaves.specs.HeadingCalls.{HeadingStep}
use Rattle.md_leaves.proofs.HeadingCalls.{ahead, before-remains, remains-of, sees-from, sequence-begins}
use Rattle.md_leaves.proofs.HeadingCalls.{sequence-inside, sequence-taken, sequence-waits}
use Rattle.md_events.specs.Spaces.{is_current}
use Rattle.md_events.specs.Transition.{entered}
use Rattle.md_leaves.proofs.heading_atx.opening.Goals as goal

pub returns-then-not-begins_sequence : goal.returns-then-not-begins_sequence
returns-then-not-begins_sequence c = record {
  runs = λ fine.
      let w = world c.args.tokenizer.now in
      let called = c.before-then-not-begins_sequence in
      call-runs HeadingStep (n.HeadingAtx its.Before) w called.result (world called.new.tokenizer)
      (called.ensures.to fine, called.ensures.world fine) fine
      (ap (λ (x : World). x.setting) (called.ensures.world fine) ∙ (before-remains w (is_current 35 w.current)).1)
      (within-world c.args.tokenizer.now);
  sees = λ fine.
      let w = world c.args.tokenizer.now in
      let called = c.before-then-not-begins_sequence in
      let d = before-remains w (is_current 35 w.current) in
      call-sees called.result w (world called.new.tokenizer)
      (remains-of (before_transition w) called.result w (world called.new.tokenizer) (called.ensures.to fine)
      (called.ensures.world fine) d.0)
      (ap (λ (x : World). x.setting) (called.ensures.world fine) ∙ d.1) c.requires.current;
  full = search rules;
}

pub opens-requires : goal.opens-requires
opens-requires c = record {
  current = subst (λ (x : World). x.current ≡ looks x) (sym (c.if-see_or_wait.ensures.sees refl)) refl;
  has = tt;
}

pub returns-then-see_or_wait : goal.returns-then-see_or_wait
returns-then-see_or_wait c = record {
  runs = λ fine is_end s v named from may.
      let T = HeadingStep in
      let sequence = n.HeadingAtx its.SequenceOpen in
      let w = world c.args.tokenizer.now in
      let w1 = world c.enter.new.self in
      let u = world c.see_while.new.self in
      let has_entered : is_ok c.enter.result ≡ true = c.if-or_error.ensures.negation in
      let e : w1 ≡ entered w HeadingAtxSequence = rw has_entered at c.enter.ensures.world in
      let is : is_current 35 w.current ≡ true = sym c.begins_sequence.ensures ∙ c.if-not-begins_sequence.false in
      let seen : w1.current ≡ looks w1 =
      subst (λ (x : World). x.current ≡ looks x) (sym e) c.requires.current in
      let inside : w1.point.index < w1.setting.limit =
      subst (λ (x : World). x.point.index < x.setting.limit) (sym e) (sequence-inside w c.requires.current is) in
      let begun : ArrivedAt T is_end s v sequence w1 =
      subst (λ (x : World). ArrivedAt T is_end s v sequence x) (sym e)
      (sequence-begins is_end s v w (arrived-first T (n.HeadingAtx its.Before) w is_end s v named from may) is
      c.requires.current (within-world c.args.tokenizer.now)) in
      subst (λ (x : World). Runs T is_end s v (Next sequence) x) (sym (c.if-see_or_wait.ensures.same refl))
      (sequence-waits is_end s v w1 u begun seen (within-world c.enter.new.self) c.see_while.ensures.some inside
      (c.if-see_or_wait.ensures.waits refl).1);
  sees = search rules;
  full = search rules;
}

pub returns-2 : goal.returns-2
returns-2 c = record {
  runs = λ fine is_end s v named from may.
      let T = HeadingStep in
      let first = n.HeadingAtx its.Before in
      let sequence = n.HeadingAtx its.SequenceOpen in
      let w = world c.args.tokenizer.now in
      let w1 = world c.enter.new.self in
      let u = world c.see_while.new.self in
      let w3 = world c.see_or_wait.new.self in
      let has_entered : is_ok c.enter.result ≡ true = c.if-or_error.ensures.negation in
      let e : w1 ≡ entered w HeadingAtxSequence = rw has_entered at c.enter.ensures.world in
      let is : is_current 35 w.current ≡ true = sym c.begins_sequence.ensures ∙ c.if-not-begins_sequence.false in
      let seen : w1.current ≡ looks w1 =
      subst (λ (x : World). x.current ≡ looks x) (sym e) c.requires.current in
      let sees : w3 ≡ reading u = c.if-see_or_wait.ensures.sees refl in
      let arrived : Arrived T is_end first w sequence w3 = λ t y called saw here.
      let begun : ArrivedAt T is_end t y sequence w1 =
      subst (λ (x : World). ArrivedAt T is_end t y sequence x) (sym e)
      (sequence-begins is_end t y w (arrived-first T first w is_end t y called saw here) is c.requires.current
      (within-world c.args.tokenizer.now)) in
      subst (λ (x : World). ArrivedAt T is_end t y sequence x) (sym sees)
      (sequence-taken is_end t y w1 u begun seen (within-world c.enter.new.self) c.see_while.ensures.some
      (ahead (c.if-see_or_wait.ensures.is_continued refl))) in
      arrived-runs T is_end first sequence w w3 c.opens.result (world c.opens.new.tokenizer) arrived
      (c.opens.ensures.runs fine is_end) s v named from may;
  sees = λ fine.
      let T = HeadingStep in
      let sequence = n.HeadingAtx its.SequenceOpen in
      let u = world c.see_while.new.self in
      let w3 = world c.see_or_wait.new.self in
      let w4 = world c.opens.new.tokenizer in
      let sees : w3 ≡ reading u = c.if-see_or_wait.ensures.sees refl in
      let seen : w3.current ≡ looks w3 = subst (λ (x : World). x.current ≡ looks x) (sym sees) refl in
      let inside : w3.point.index < w3.setting.limit =
      subst (λ (x : World). x.point.index < x.setting.limit) (sym sees)
      (ahead (c.if-see_or_wait.ensures.is_continued refl)) in
      let same : w4.setting ≡ w3.setting =
      runs-setting T true (Next sequence) w3 c.opens.result w4
      (c.opens.ensures.runs fine true (Next sequence) w3 refl (reading-same w3 seen) (inl refl)) in
      sees-from c.opens.result (world c.args.tokenizer.now) w3 w4 (c.opens.ensures.sees fine) same (inr inside);
  full = search rules;
}
