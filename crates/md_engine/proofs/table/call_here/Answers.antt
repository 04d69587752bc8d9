use Rattle.std.proofs.Common.{◌≡◌, ◌≢◌, ◌<◌, ◌≤◌, ◌∙◌, ap, arith, refl, subst}
use Rattle.md_engine.specs.declared.state.State.{State}
use Rattle.md_engine.specs.declared.state.State.TheVariants.{Error, Next, Retry}
use Rattle.md_engine.specs.Going.{SeesOn}
use Rattle.md_engine.specs.Run.{RunsHere, plain}
use Rattle.md_engine.specs.Scheme.{valid, work}
use Rattle.md_engine.specs.World.{World, world}
use Rattle.md_engine.proofs.Loops.{arrived-first, arrived-runs, arrived-stays, not_error}
use Rattle.md_engine.proofs.table.call_here.Goals as goal

pub loop-next-init : goal.loop-next-init
loop-next-init g c = record {
  current = c.requires.current;
  valid = c.requires.valid;
  arrived = arrived-first g.T.Table.step c.args.first (world c.args.tokenizer.now);
  falls = omega arith;
  setting = refl;
}

pub loop-next-preserved : goal.loop-next-preserved
loop-next-preserved g c =
    let next = c.in-Retry.next in
    let is : c.call.result ≡ Retry next = c.in-Retry.is in
    let fine : c.call.result ≢ Error = not_error c.call.result next (ap plain is) in
    let T = g.T.Table.step in
    let S = g.T.Table.scheme in
    let old : World = world c.loop-next.tokenizer in
    let new : World = world c.call.new.tokenizer in
    let P : State → Type 0 = λ s. SeesOn s old new in
    let Q : State → Type 0 = λ s. valid S new (plain s) in
    let R : State → Type 0 = λ s. work S new (plain s) < work S old (Next c.loop-next.name) in
    let V : State → Type 0 = λ s. RunsHere T c.loop-next.name old s new in
    let sees : SeesOn (Retry next) old new = subst P is (c.call.ensures.sees fine) in
    let same = c.call.ensures.setting fine in
    let less : work S new (Next next) <
    work S old (Next c.loop-next.name) = subst R is (c.call.ensures.falls fine) in
    let before : work S old (Next c.loop-next.name) ≤
    work S (world c.args.tokenizer.now) (Next c.args.first) = c.loop-next.invariant.falls in
    record {
      current = sees.0;
      valid = subst Q is (c.call.ensures.valid fine);
      arrived =
          arrived-stays T c.args.first c.loop-next.name next (world c.args.tokenizer.now) old new
          c.loop-next.invariant.arrived (subst V is (c.call.ensures.runs fine)) sees same;
      falls = omega (arith, less, before);
      setting = same ∙ c.loop-next.invariant.setting;
    }

pub loop-next-smaller : goal.loop-next-smaller
loop-next-smaller g c =
    let next = c.in-Retry.next in
    let is : c.call.result ≡ Retry next = c.in-Retry.is in
    let S = g.T.Table.scheme in
    let R : State → Type 0 = λ s.
    work S (world c.call.new.tokenizer) (plain s) < work S (world c.loop-next.tokenizer) (Next c.loop-next.name) in
    subst R is (c.call.ensures.falls (not_error c.call.result next (ap plain is)))

pub returns-in_default : goal.returns-in_default
returns-in_default g c = record {
  runs = λ fine is_end.
      arrived-runs g.T.Table.step is_end c.args.first c.loop-next.name (world c.args.tokenizer.now)
      (world c.loop-next.tokenizer) c.call.result (world c.call.new.tokenizer) (c.loop-next.invariant.arrived is_end)
      (c.call.ensures.runs fine is_end);
  valid = λ fine. c.call.ensures.valid fine;
  falls = λ fine.
      let less = c.call.ensures.falls fine in
      let before = c.loop-next.invariant.falls in
      omega (arith, less, before);
  setting = λ fine. c.call.ensures.setting fine ∙ c.loop-next.invariant.setting;
}
