use Rattle.std.proofs.Common.{◌∙◌, ap, refl, sym}
use Rattle.md_engine.specs.declared.state.State.TheVariants.{Next}
use Rattle.md_engine.specs.Run.{plain, reading}
use Rattle.md_engine.specs.Run.Runs.{Stays, ThenLeaves}
use Rattle.md_engine.specs.World.{World, world}
use Rattle.md_engine.proofs.Falls.{falls_same, leaves_falls, leaves_valid, valid_same}
use Rattle.md_engine.proofs.Keeps.{runs-append}
use Rattle.md_engine.proofs.Loops.{end_not_error, is_end_of, not_error, plain_of}
use Rattle.md_engine.proofs.table.run.Goals as goal

pub loop-state-init : goal.loop-state-init
loop-state-init g c = record { runs = λ _. Stays; valid = λ _. c.requires; setting = λ _. refl }

pub loop-state-smaller-in-Some : goal.loop-state-smaller-in-Some
loop-state-smaller-in-Some g c =
    let end = is_end_of c.loop-state.state c.in-Ok.is in
    leaves_falls g.T.Table.scheme _ _ _ _ c.in-Some.ensures.leaves (c.loop-state.invariant.valid (end_not_error _ end))

pub loop-state-preserved-in-Some : goal.loop-state-preserved-in-Some
loop-state-preserved-in-Some g c =
    let end = is_end_of c.loop-state.state c.in-Ok.is in
    let fine = end_not_error _ end in
    record {
      runs = λ _. ThenLeaves _ _ _ _ (c.loop-state.invariant.runs fine) c.in-Some.ensures.leaves;
      valid =
          λ _. leaves_valid g.T.Table.scheme _ _ _ _ c.in-Some.ensures.leaves (c.loop-state.invariant.valid fine);
      setting = λ _. c.leave.ensures.setting ∙ c.loop-state.invariant.setting fine;
    }

pub call_on-requires-clause-valid : goal.call_on-requires-clause-valid
call_on-requires-clause-valid g c =
    let p = plain_of c.loop-state.state c.in-Next.name c.in-Next.is in
    let st = c.loop-state.invariant.valid (not_error _ _ p) in
    valid_same g.T.Table.scheme (reading (world c.loop-state.tokenizer)) (world c.see_or_wait.new.self)
    (plain c.loop-state.state) (Next c.in-Next.name) (sym (c.if-see_or_wait.ensures.sees refl)) p st

pub returns-in-Next-call_on-clause-runs : goal.returns-in-Next-call_on-clause-runs
returns-in-Next-call_on-clause-runs g c = λ fine.
    let p = plain_of c.loop-state.state c.in-Next.name c.in-Next.is in
    runs-append _ _ _ _ _ _ _ _ (c.loop-state.invariant.runs (not_error _ _ p))
    (c.in-Next-call_on.ensures.runs fine c.loop-state.state (world c.loop-state.tokenizer) p
    (sym (c.if-see_or_wait.ensures.sees refl)) (c.if-see_or_wait.ensures.is_continued refl))

pub loop-state-smaller : goal.loop-state-smaller
loop-state-smaller g c =
    let p = plain_of c.loop-state.state c.in-Next.name c.in-Next.is in
    falls_same g.T.Table.scheme (world c.call_on.new.tokenizer) (world c.see_or_wait.new.self)
    (reading (world c.loop-state.tokenizer)) (plain c.call_on.result) (Next c.in-Next.name)
    (plain c.loop-state.state) (c.if-see_or_wait.ensures.sees refl) (sym p)
    (c.call_on.ensures.falls c.in_default.not-Error)

pub loop-state-preserved : goal.loop-state-preserved
loop-state-preserved g c =
    let p = plain_of c.loop-state.state c.in-Next.name c.in-Next.is in
    let fine = not_error _ _ p in
    record {
      runs =
          λ h. runs-append _ _ _ _ _ _ _ _ (c.loop-state.invariant.runs fine)
          (c.call_on.ensures.runs h c.loop-state.state (world c.loop-state.tokenizer) p
          (sym (c.if-see_or_wait.ensures.sees refl)) (c.if-see_or_wait.ensures.is_continued refl));
      valid = λ h. c.call_on.ensures.valid h;
      setting = λ h.
          c.call_on.ensures.setting h
          ∙ ap (λ (w : World). w.setting) (c.if-see_or_wait.ensures.sees refl)
          ∙ c.loop-state.invariant.setting fine;
    }
