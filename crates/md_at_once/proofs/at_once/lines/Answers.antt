use Rattle.std.proofs.Common.{◌≡◌, ◌≢◌, ◌⊎◌, ◌<◌, false, true, ap, inl, inr, refl, rules, subst, sym}
use Rattle.md_engine.specs.declared.state.document.State.TheVariants as document
use Rattle.md_engine.specs.declared.state.Name.{Name as StateName}
use Rattle.md_engine.specs.declared.state.Name.TheVariants as n
use Rattle.md_engine.specs.declared.state.State.{State}
use Rattle.md_engine.specs.declared.state.State.TheVariants.{Error, Next}
use Rattle.md_engine.specs.Going.{SeesOn}
use Rattle.md_engine.specs.Run.{RunsHere, plain, reading}
use Rattle.md_engine.specs.World.{World, world}
use Rattle.md_engine.proofs.Loops.{not_error}
use Rattle.md_registry.specs.States.{FlowStep}
use Rattle.md_registry.proofs.GfmTable.Calls.{is_valid-first, is_valid-proceeds, is_valid-leaves}
use Rattle.md_tables.specs.GfmTable.{AnswersWith}
use Rattle.md_tables.specs.GfmTable.AnswersWith.{ThatTook}
use Rattle.md_at_once.specs.AtOnce.{FlowFull}
use Rattle.md_at_once.proofs.WantOfMemory.{wants-following, wants-none}
use Rattle.md_at_once.proofs.at_once.lines.Goals as goal

abbrev line : StateName
line = n.Document document.ContainerExistingBefore

-- the next line may be read
may-read : (X : Type 0) → (false ≡ true) ⊎ X → X
may-read X (inl never) = cc
may-read X (inr lt) = lt

-- so one continues with it
proceeds : (u u' : World) (to : State) → to ≡ Next line → u' ≡ reading u → u.point.index < u.setting.limit →
    AnswersWith to line u u'
proceeds u u' to is new lt = subst (λ (x : World). AnswersWith to line u x) (sym new) (ThatTook is lt)

pub loop-to-init : goal.loop-to-init
loop-to-init c = is_valid-first line (world c.args.tokenizer.now) c.requires.current c.requires.valid

pub loop-to-preserved : goal.loop-to-preserved
loop-to-preserved c =
    let to = c.containers-to.result in
    let u = world c.containers-to.new.tokenizer in
    let u' = world c.see_or_wait.new.self in
    let is : to ≡ Next line = c.awaits_line.ensures (search rules) in
    let fine : to ≢ Error = not_error to line (ap plain is) in
    let lt = may-read (u.point.index < u.setting.limit) (c.if-see_or_wait.ensures.is_continued refl) in
    (is_valid-proceeds line (world c.args.tokenizer.now) line (world c.loop-to.tokenizer) to u line u'
    c.loop-to.invariant
    (c.containers-to.ensures.runs fine) (c.containers-to.ensures.sees fine)
    (proceeds u u' to is (c.if-see_or_wait.ensures.sees refl) lt)).0

pub loop-to-smaller : goal.loop-to-smaller
loop-to-smaller c =
    let to = c.containers-to.result in
    let u = world c.containers-to.new.tokenizer in
    let u' = world c.see_or_wait.new.self in
    let is : to ≡ Next line = c.awaits_line.ensures (search rules) in
    let fine : to ≢ Error = not_error to line (ap plain is) in
    let lt = may-read (u.point.index < u.setting.limit) (c.if-see_or_wait.ensures.is_continued refl) in
    (is_valid-proceeds line (world c.args.tokenizer.now) line (world c.loop-to.tokenizer) to u line u'
    c.loop-to.invariant
    (c.containers-to.ensures.runs fine) (c.containers-to.ensures.sees fine)
    (proceeds u u' to is (c.if-see_or_wait.ensures.sees refl) lt)).1

pub returns-then-not-awaits_line : goal.returns-then-not-awaits_line
returns-then-not-awaits_line c =
    let old = world c.args.tokenizer.now in
    let w = world c.loop-to.tokenizer in
    let to = c.containers-to.result in
    let all = λ (fine : to ≢ Error).
    is_valid-leaves line old line w to (world c.containers-to.new.tokenizer) c.loop-to.invariant
    (c.containers-to.ensures.runs fine) (c.containers-to.ensures.sees fine) in
    record {
      runs = λ fine. (all fine).0;
      sees = λ fine. (all fine).1;
      full =
          wants-following line line old w to c.containers-to.new.tokenizer c.loop-to.invariant.arrived
          c.containers-to.ensures.full;
    }

pub returns-then-see_or_wait : goal.returns-then-see_or_wait
returns-then-see_or_wait c =
    let old = world c.args.tokenizer.now in
    let to = c.containers-to.result in
    let new = c.see_or_wait.new.self in
    let is : to ≡ Next line = c.awaits_line.ensures (search rules) in
    record {
      runs = λ fine.
          subst (λ (x : World). RunsHere FlowStep line old to x) (sym (c.if-see_or_wait.ensures.same refl))
          (is_valid-leaves line old line (world c.loop-to.tokenizer) to (world c.containers-to.new.tokenizer)
          c.loop-to.invariant (c.containers-to.ensures.runs fine) (c.containers-to.ensures.sees fine)).0;
      sees = λ fine. subst (λ (x : State). SeesOn x old (world new)) (sym is) tt;
      full = wants-none to (FlowFull line old new) (not_error to line (ap plain is));
    }
