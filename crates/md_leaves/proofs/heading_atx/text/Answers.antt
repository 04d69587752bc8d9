use Rattle.std.proofs.Common.{◌≡◌, ◌<◌, ◌∙◌, true, ap, inr, refl, subst, sym, rules}
use Rattle.md_engine.specs.declared.state.heading_atx.State.TheVariants as its
use Rattle.md_engine.specs.declared.state.Name.TheVariants as n
use Rattle.md_engine.specs.declared.state.State.TheVariants.{Next}
use Rattle.md_engine.specs.Run.{Runs, reading}
use Rattle.md_engine.specs.World.{World, looks, world}
use Rattle.md_engine.proofs.Loops.{ArrivedAt, call-runs, call-sees, arrived-first}
use Rattle.md_engine.proofs.StayLemmas.{within-world}
use Rattle.md_engine.proofs.Walks.{then-run}
use Rattle.md_leaves.specs.Heading.{at_break_transition, data_transition, sees_text}
use Rattle.md_leaves.specs.HeadingCalls.{HeadingStep, begins_text}
use Rattle.md_leaves.proofs.HeadingCalls.{ahead, at_break-remains, at_text, begins-inside, data-remains, remains-of}
use Rattle.md_leaves.proofs.HeadingCalls.{sees-from, text-begins, text-taken, text-waits}
use Rattle.md_events.specs.Spaces.{ends_line, is_current}
use Rattle.md_leaves.proofs.heading_atx.text.Goals as goal

pub returns-then-not-begins_text : goal.returns-then-not-begins_text
returns-then-not-begins_text c = record {
  runs = λ fine.
      let w = world c.args.tokenizer.now in
      let d = at_break-remains w (sees_text w.current) (is_current 35 w.current) (ends_line w.current) in
      call-runs HeadingStep (n.HeadingAtx its.AtBreak) w c.at_break.result (world c.at_break.new.tokenizer)
      (c.at_break.ensures.to fine, c.at_break.ensures.world fine) fine
      (ap (λ (x : World). x.setting) (c.at_break.ensures.world fine) ∙ d.1) (within-world c.args.tokenizer.now);
  sees = λ fine.
      let w = world c.args.tokenizer.now in
      let w' = world c.at_break.new.tokenizer in
      let d = at_break-remains w (sees_text w.current) (is_current 35 w.current) (ends_line w.current) in
      call-sees c.at_break.result w w'
      (remains-of (at_break_transition w) c.at_break.result w w' (c.at_break.ensures.to fine)
      (c.at_break.ensures.world fine) d.0)
      (ap (λ (x : World). x.setting) (c.at_break.ensures.world fine) ∙ d.1) c.requires.current;
  full = search rules;
}

pub returns-then-see_or_wait : goal.returns-then-see_or_wait
returns-then-see_or_wait c = record {
  runs = λ fine is_end s v named from may.
      let w = world c.args.tokenizer.now in
      let w1 = world c.begin_text.new.tokenizer in
      let u = world c.see_line.new.self in
      let e : w1 ≡ at_text w = c.begin_text.ensures in
      let is : begins_text w.current ≡ true = sym c.begins_text.ensures ∙ c.if-not-begins_text.false in
      let seen : w1.current ≡ looks w1 =
      subst (λ (x : World). x.current ≡ looks x) (sym e) c.requires.current in
      let inside : w1.point.index < w1.setting.limit =
      subst (λ (x : World). x.point.index < x.setting.limit) (sym e) (begins-inside w c.requires.current is) in
      let begun : ArrivedAt HeadingStep is_end s v (n.HeadingAtx its.Data) w1 =
      subst (λ (x : World). ArrivedAt HeadingStep is_end s v (n.HeadingAtx its.Data) x) (sym e)
      (text-begins is_end s v w (arrived-first HeadingStep (n.HeadingAtx its.AtBreak) w is_end s v named from may) is
      c.requires.current (within-world c.args.tokenizer.now)) in
      subst (λ (x : World). Runs HeadingStep is_end s v (Next (n.HeadingAtx its.Data)) x)
      (sym (c.if-see_or_wait.ensures.same refl))
      (text-waits is_end s v w1 u begun seen (within-world c.begin_text.new.tokenizer) c.see_line.ensures.some inside
      (c.if-see_or_wait.ensures.waits refl).1);
  sees = search rules;
  full = search rules;
}

pub returns : goal.returns
returns c = record {
  runs = λ fine is_end s v named from may.
      let w = world c.args.tokenizer.now in
      let w1 = world c.begin_text.new.tokenizer in
      let u = world c.see_line.new.self in
      let w3 = world c.see_or_wait.new.self in
      let e : w1 ≡ at_text w = c.begin_text.ensures in
      let is : begins_text w.current ≡ true = sym c.begins_text.ensures ∙ c.if-not-begins_text.false in
      let seen : w1.current ≡ looks w1 =
      subst (λ (x : World). x.current ≡ looks x) (sym e) c.requires.current in
      let begun : ArrivedAt HeadingStep is_end s v (n.HeadingAtx its.Data) w1 =
      subst (λ (x : World). ArrivedAt HeadingStep is_end s v (n.HeadingAtx its.Data) x) (sym e)
      (text-begins is_end s v w (arrived-first HeadingStep (n.HeadingAtx its.AtBreak) w is_end s v named from may) is
      c.requires.current (within-world c.args.tokenizer.now)) in
      let sees : w3 ≡ reading u = c.if-see_or_wait.ensures.sees refl in
      let arrived : ArrivedAt HeadingStep is_end s v (n.HeadingAtx its.Data) w3 =
      subst (λ (x : World). ArrivedAt HeadingStep is_end s v (n.HeadingAtx its.Data) x) (sym sees)
      (text-taken is_end s v w1 u begun seen (within-world c.begin_text.new.tokenizer) c.see_line.ensures.some
      (ahead (c.if-see_or_wait.ensures.is_continued refl))) in
      let same : (world c.data.new.tokenizer).setting ≡ w3.setting =
      ap (λ (x : World). x.setting) (c.data.ensures.world fine) ∙ (data-remains w3 (ends_line w3.current)).1 in
      then-run HeadingStep is_end s v (n.HeadingAtx its.Data) w3 c.data.result (world c.data.new.tokenizer) arrived
      (c.data.ensures.to fine, c.data.ensures.world fine) fine same (within-world c.see_or_wait.new.self);
  sees = λ fine.
      let u = world c.see_line.new.self in
      let w3 = world c.see_or_wait.new.self in
      let w4 = world c.data.new.tokenizer in
      let sees : w3 ≡ reading u = c.if-see_or_wait.ensures.sees refl in
      let seen : w3.current ≡ looks w3 = subst (λ (x : World). x.current ≡ looks x) (sym sees) refl in
      let inside : w3.point.index < w3.setting.limit =
      subst (λ (x : World). x.point.index < x.setting.limit) (sym sees)
      (ahead (c.if-see_or_wait.ensures.is_continued refl)) in
      let d = data-remains w3 (ends_line w3.current) in
      let same : w4.setting ≡ w3.setting = ap (λ (x : World). x.setting) (c.data.ensures.world fine) ∙ d.1 in
      sees-from c.data.result (world c.args.tokenizer.now) w3 w4
      (call-sees c.data.result w3 w4
      (remains-of (data_transition w3) c.data.result w3 w4 (c.data.ensures.to fine)
      (c.data.ensures.world fine) d.0) same
      seen) same (inr inside);
  full = search rules;
}
