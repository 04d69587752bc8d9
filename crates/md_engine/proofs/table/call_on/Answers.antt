use Rattle.std.proofs.Common.{◌≡◌, ◌≢◌, ◌<◌, ◌≤◌, ◌∙◌, ap, arith, refl, subst, sym}
use Rattle.md_engine.specs.declared.state.Name.{Name as StateName}
use Rattle.md_engine.specs.declared.state.State.TheVariants.{Error, Next}
use Rattle.md_engine.specs.Run.{RunsFrom, reading}
use Rattle.md_engine.specs.Scheme.{work}
use Rattle.md_engine.specs.World.{World, looks, world}
use Rattle.md_engine.proofs.Falls.{valid_same}
use Rattle.md_engine.proofs.Loops.{arrived-first, arrived-on, arrived-runs, not_error, not_waiting, runs-then}
use Rattle.md_engine.proofs.table.call_on.Goals as goal

pub loop-next-init : goal.loop-next-init
loop-next-init g c = record {
  current = c.requires.current;
  valid = c.requires.valid;
  arrived = arrived-first g.T.Table.step c.args.first (world c.args.tokenizer.now) c.args.is_end;
  falls = omega arith;
  setting = refl;
}

-- what takes something has not failed
next_fine : (n : StateName) → Next n ≢ Error
next_fine n = not_error (Next n) n refl

pub returns-in_default : goal.returns-in_default
returns-in_default g c = record {
  runs = λ fine.
      arrived-runs g.T.Table.step c.args.is_end c.args.first c.loop-next.name (world c.args.tokenizer.now)
      (world c.loop-next.tokenizer) c.call_here-state.result (world c.call_here-state.new.tokenizer)
      c.loop-next.invariant.arrived (c.call_here-state.ensures.runs fine c.args.is_end);
  waits =
      not_waiting c.args.is_end c.call_here-state.result (world c.call_here-state.new.tokenizer) c.in_default.not-Next;
  valid = λ fine. c.call_here-state.ensures.valid fine;
  falls = λ fine.
      let less = c.call_here-state.ensures.falls fine in
      let before = c.loop-next.invariant.falls in
      omega (arith, less, before);
  setting = λ fine. c.call_here-state.ensures.setting fine ∙ c.loop-next.invariant.setting;
}

pub returns-then-see_or_wait-clause-runs : goal.returns-then-see_or_wait-clause-runs
returns-then-see_or_wait-clause-runs g c = λ fine.
    let T = g.T.Table.step in
    let old : World = world c.args.tokenizer.now in
    let next = c.in-Next.next in
    let P : World → Type 0 = λ w. RunsFrom T c.args.is_end c.args.first old (Next next) w in
    subst P (sym (c.if-see_or_wait.ensures.same refl))
    (runs-then T c.args.is_end c.args.first old (Next next) (world c.call_here-state.new.tokenizer) (Next next)
    (world c.stay.new.tokenizer)
    (arrived-runs T c.args.is_end c.args.first c.loop-next.name old (world c.loop-next.tokenizer) (Next next)
    (world c.call_here-state.new.tokenizer) c.loop-next.invariant.arrived (c.in-Next.ensures.runs fine c.args.is_end))
    (c.stay.ensures.runs c.args.is_end))

pub loop-next-preserved : goal.loop-next-preserved
loop-next-preserved g c =
    let T = g.T.Table.step in
    let S = g.T.Table.scheme in
    let old : World = world c.args.tokenizer.now in
    let next = c.in-Next.next in
    let fine = next_fine next in
    let u : World = world c.stay.new.tokenizer in
    let w : World = world c.see_or_wait.new.self in
    let sees : w ≡ reading u = c.if-see_or_wait.ensures.sees refl in
    let P : World → Type 0 = λ x. x.current ≡ looks x in
    let same : work S w (Next next) ≡ work S u (Next next) = ap (λ (x : World). work S x (Next next)) sees in
    let below : work S u (Next next) ≤ work S (world c.call_here-state.new.tokenizer) (Next next) =
    c.stay.ensures.falls in
    let less : work S (world c.call_here-state.new.tokenizer) (Next next) <
    work S (world c.loop-next.tokenizer) (Next c.loop-next.name) = c.in-Next.ensures.falls fine in
    let before : work S (world c.loop-next.tokenizer) (Next c.loop-next.name) ≤
    work S old (Next c.args.first) = c.loop-next.invariant.falls in
    record {
      current = subst P (sym sees) refl;
      valid = valid_same S (reading u) w (Next next) (Next next) (sym sees) refl c.stay.ensures.valid;
      arrived =
          arrived-on T c.args.is_end c.args.first next old u w
          (runs-then T c.args.is_end c.args.first old (Next next) (world c.call_here-state.new.tokenizer) (Next next) u
          (arrived-runs T c.args.is_end c.args.first c.loop-next.name old (world c.loop-next.tokenizer) (Next next)
          (world c.call_here-state.new.tokenizer) c.loop-next.invariant.arrived
          (c.in-Next.ensures.runs fine c.args.is_end))
          (c.stay.ensures.runs c.args.is_end))
          (c.if-see_or_wait.ensures.is_continued refl) sees;
      falls = omega (arith, same, below, less, before);
      setting =
          ap (λ (x : World). x.setting) sees ∙ c.stay.ensures.setting ∙ c.in-Next.ensures.setting fine
          ∙ c.loop-next.invariant.setting;
    }
