use Rattle.std.proofs.Common.{◌≡◌, ◌<◌, ◌∙◌, true, ◌&&◌, nat_lt, ap, inl, inr, is_ok, refl, subst, sym, rules}
use Rattle.std.specs.Prelude.{OnOk}
use Rattle.std.specs.declared.result.Result.{Result}
use Rattle.std.specs.declared.result.Result.TheVariants as result
use Rattle.md_engine.specs.declared.state.heading_atx.State.TheVariants as its
use Rattle.md_engine.specs.declared.state.Name.TheVariants as n
use Rattle.md_engine.specs.declared.state.State.TheVariants.{Next}
use Rattle.md_engine.specs.World.{World, looks, world}
use Rattle.md_engine.proofs.Keeps.{runs-setting}
use Rattle.md_engine.proofs.Loops.{Arrived, ArrivedAt, call-runs, call-sees, arrived-first, arrived-runs, reading-same}
use Rattle.md_engine.proofs.StayLemmas.{within-world}
use Rattle.md_leaves.specs.Heading.{sees_text, sequence_open_transition}
use Rattle.md_leaves.specs.HeadingCalls.{HeadingStep}
use Rattle.md_leaves.proofs.HeadingCalls.{opening-ends, opening-remains, opening_ended, remains-of, sees-from}
use Rattle.md_events.specs.OneSpace.{IsOneSpace, spaced}
use Rattle.md_events.specs.Spaces.{is_current, sees_white}
use Rattle.md_leaves.proofs.heading_atx.opens.Goals as goal

on-ok : {T E : Type 0} → (x : Result T E) (P : Type 0) → is_ok x ≡ true → OnOk x P → P
on-ok (result.Ok v) P e h = h
on-ok (result.Err v) P e h = cc

pub text-requires : goal.text-requires
text-requires c =
    let T = HeadingStep in
    let first = n.HeadingAtx its.SequenceOpen in
    let w = world c.args.tokenizer.now in
    let x = world c.exit.new.self in
    let u = world c.take_one_space.new.tokenizer in
    let has_exited : is_ok c.exit.result ≡ true = c.if-or_error.ensures.negation in
    let has_taken : is_ok c.take_one_space.result ≡ true = c.if-or_error-2.ensures.negation in
    let one : IsOneSpace w = c.is_one_space.ensures c.if-is_one_space.true in
    let ended : x ≡ opening_ended w = rw has_exited at c.exit.ensures.world in
    let is : u ≡ spaced (opening_ended w) =
    on-ok c.take_one_space.result (u ≡ spaced x) has_taken c.take_one_space.ensures.world ∙ ap spaced ended in
    record { current = subst (λ (y : World). y.current ≡ looks y) (sym is) refl; has = tt }

pub returns-then-is_one_space-3 : goal.returns-then-is_one_space-3
returns-then-is_one_space-3 c = record {
  runs = λ fine is_end s v named from may.
      let T = HeadingStep in
      let first = n.HeadingAtx its.SequenceOpen in
      let w = world c.args.tokenizer.now in
      let x = world c.exit.new.self in
      let u = world c.take_one_space.new.tokenizer in
      let has_exited : is_ok c.exit.result ≡ true = c.if-or_error.ensures.negation in
      let has_taken : is_ok c.take_one_space.result ≡ true = c.if-or_error-2.ensures.negation in
      let one : IsOneSpace w = c.is_one_space.ensures c.if-is_one_space.true in
      let ended : x ≡ opening_ended w = rw has_exited at c.exit.ensures.world in
      let is : u ≡ spaced (opening_ended w) =
      on-ok c.take_one_space.result (u ≡ spaced x) has_taken c.take_one_space.ensures.world ∙ ap spaced ended in
      let arrived : Arrived T is_end first w (n.HeadingAtx its.AtBreak) u = λ t y called saw here.
      subst (λ (z : World). ArrivedAt T is_end t y (n.HeadingAtx its.AtBreak) z) (sym is)
      (opening-ends is_end t y w (arrived-first T first w is_end t y called saw here) c.requires.current
      (within-world c.args.tokenizer.now) one) in
      arrived-runs T is_end first (n.HeadingAtx its.AtBreak) w u c.text.result (world c.text.new.tokenizer) arrived
      (c.text.ensures.runs fine is_end) s v named from may;
  sees = λ fine.
      let T = HeadingStep in
      let first = n.HeadingAtx its.SequenceOpen in
      let w = world c.args.tokenizer.now in
      let x = world c.exit.new.self in
      let u = world c.take_one_space.new.tokenizer in
      let has_exited : is_ok c.exit.result ≡ true = c.if-or_error.ensures.negation in
      let has_taken : is_ok c.take_one_space.result ≡ true = c.if-or_error-2.ensures.negation in
      let one : IsOneSpace w = c.is_one_space.ensures c.if-is_one_space.true in
      let ended : x ≡ opening_ended w = rw has_exited at c.exit.ensures.world in
      let is : u ≡ spaced (opening_ended w) =
      on-ok c.take_one_space.result (u ≡ spaced x) has_taken c.take_one_space.ensures.world ∙ ap spaced ended in
      let next : u.point.index < u.setting.limit =
      subst (λ (y : World). y.point.index < y.setting.limit) (sym is) one.next in
      let seen : u.current ≡ looks u = subst (λ (y : World). y.current ≡ looks y) (sym is) refl in
      let same : (world c.text.new.tokenizer).setting ≡ u.setting =
      runs-setting T true (Next (n.HeadingAtx its.AtBreak)) u c.text.result (world c.text.new.tokenizer)
      (c.text.ensures.runs fine true (Next (n.HeadingAtx its.AtBreak)) u refl (reading-same u seen) (inl refl)) in
      sees-from c.text.result w u (world c.text.new.tokenizer) (c.text.ensures.sees fine) same (inr next);
  full = search rules;
}

pub returns-else-is_one_space : goal.returns-else-is_one_space
returns-else-is_one_space c = record {
  runs = λ fine.
      let w = world c.args.tokenizer.now in
      let d = opening-remains w (is_current 35 w.current && nat_lt w.scratch.size 6) (sees_text w.current)
      (sees_white w.current) in
      call-runs HeadingStep (n.HeadingAtx its.SequenceOpen) w c.sequence_open.result
      (world c.sequence_open.new.tokenizer) (c.sequence_open.ensures.to fine, c.sequence_open.ensures.world fine) fine
      (ap (λ (x : World). x.setting) (c.sequence_open.ensures.world fine) ∙ d.1) (within-world c.args.tokenizer.now);
  sees = λ fine.
      let w = world c.args.tokenizer.now in
      let w' = world c.sequence_open.new.tokenizer in
      let d = opening-remains w (is_current 35 w.current && nat_lt w.scratch.size 6) (sees_text w.current)
      (sees_white w.current) in
      call-sees c.sequence_open.result w w'
      (remains-of (sequence_open_transition w) c.sequence_open.result w w' (c.sequence_open.ensures.to fine)
      (c.sequence_open.ensures.world fine) d.0)
      (ap (λ (x : World). x.setting) (c.sequence_open.ensures.world fine) ∙ d.1) c.requires.current;
  full = search rules;
}
