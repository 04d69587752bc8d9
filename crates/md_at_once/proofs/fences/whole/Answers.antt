use Rattle.std.proofs.Common.{◌≡◌, ◌∙◌, ap, is_ok, refl, subst, sym, true}
use Rattle.md_engine.specs.Place.{IsPlaced}
use Rattle.md_engine.specs.Run.{reading}
use Rattle.md_engine.specs.Staying.{SeesAll}
use Rattle.md_engine.specs.World.{Setting, World, world}
use Rattle.md_engine.specs.declared.state.document.State.TheVariants as document
use Rattle.md_engine.specs.declared.state.flow.State.TheVariants as flow
use Rattle.md_engine.specs.declared.state.Name.TheVariants as n
use Rattle.md_engine.specs.declared.stay.Stay.TheVariants.{Line}
use Rattle.md_engine.specs.declared.tokenizer.Tokenizer.{Tokenizer}
use Rattle.md_engine.proofs.Loops.{ArrivedHere, arrived-runs}
use Rattle.md_engine.proofs.StayLemmas.{some-setting, within-world}
use Rattle.md_registry.specs.States.{FlowStep}
use Rattle.md_at_once.specs.WholeLines.{whole_added, whole_tried}
use Rattle.md_at_once.proofs.WholeLines.{whole-ends, whole-waits}
use Rattle.md_leaves.proofs.HeadingCalls.{ahead}
use Rattle.md_tables.proofs.RowWords.{on-ok}
use Rattle.md_at_once.proofs.WantOfMemory.{wants-following}
use Rattle.md_at_once.proofs.fences.whole.Goals as goal

-- the point before the line lies in the text that is seen after it
placed-on : (t : Tokenizer) (u v : World) → SeesAll Line (world t) u → v.setting ≡ u.setting →
    IsPlaced v.setting.bytes t.point
placed-on t u v all same =
    subst (λ (x : Setting). IsPlaced x.bytes t.point) (sym (same ∙ some-setting Line (world t) u all.some))
    t.sound.placed

pub whole_tried-requires : goal.whole_tried-requires
whole_tried-requires c =
    placed-on c.settle.new.tokenizer (world c.see_line.new.self) (world c.see_or_wait.new.self) c.see_line.ensures
    (ap (λ (x : World). x.setting) (c.if-see_or_wait.ensures.same refl))

pub returns-then-see_or_wait-2 : goal.returns-then-see_or_wait-2
returns-then-see_or_wait-2 c =
    let w = world c.args.tokenizer.now in
    let u = world c.see_line.new.self in
    let x = world c.whole_tried.new.tokenizer in
    let same : world c.see_or_wait.new.self ≡ u = c.if-see_or_wait.ensures.same refl in
    let has_tried : is_ok c.whole_tried.result ≡ true = c.if-or_error.ensures.negation in
    let from = ap (λ (q : World). q.point) c.settle.ensures in
    let new : x ≡ whole_tried w.point u =
    on-ok c.whole_tried.result (x ≡ whole_tried c.settle.new.tokenizer.point (world c.see_or_wait.new.self)) has_tried
    c.whole_tried.ensures.world
    ∙ ap (λ p. whole_tried p (world c.see_or_wait.new.self)) from ∙ ap (whole_tried w.point) same in
    record {
      runs = λ fine.
          whole-waits w u x c.requires.whole c.requires.at.current (within-world c.args.tokenizer.now)
          (subst (λ (q : World). SeesAll Line q u) c.settle.ensures c.see_line.ensures)
          (c.if-see_or_wait.ensures.waits refl).1 new;
      sees = λ fine. tt;
      full = tt;
    }

pub whole_added-requires : goal.whole_added-requires
whole_added-requires c =
    placed-on c.settle.new.tokenizer (world c.see_line.new.self) (world c.see_or_wait.new.self) c.see_line.ensures
    (ap (λ (x : World). x.setting) (c.if-see_or_wait.ensures.sees refl))

pub returns-2 : goal.returns-2
returns-2 c =
    let w = world c.args.tokenizer.now in
    let u = world c.see_line.new.self in
    let x = world c.whole_added.new.tokenizer in
    let sees : world c.see_or_wait.new.self ≡ reading u = c.if-see_or_wait.ensures.sees refl in
    let has_added : is_ok c.whole_added.result ≡ true = c.if-or_error-2.ensures.negation in
    let from = ap (λ (q : World). q.point) c.settle.ensures in
    let new : x ≡ whole_added w.point (reading u) =
    on-ok c.whole_added.result (x ≡ whole_added c.settle.new.tokenizer.point (world c.see_or_wait.new.self)) has_added
    c.whole_added.ensures.world
    ∙ ap (λ p. whole_added p (world c.see_or_wait.new.self)) from ∙ ap (whole_added w.point) sees in
    let arrived : ArrivedHere FlowStep (n.Document document.FlowInside) w (n.Flow flow.After) x =
    whole-ends w u x c.requires.whole c.requires.at.current (within-world c.args.tokenizer.now)
    (subst (λ (q : World). SeesAll Line q u) c.settle.ensures c.see_line.ensures)
    (ahead (c.if-see_or_wait.ensures.is_continued refl)) new in
    record {
      runs = λ fine is_end.
          arrived-runs FlowStep is_end (n.Document document.FlowInside) (n.Flow flow.After) w x c.line_end.result
          (world c.line_end.new.tokenizer) (arrived is_end) (c.line_end.ensures.runs fine is_end);
      sees = λ fine. c.line_end.ensures.sees fine w;
      full =
          wants-following (n.Document document.FlowInside) (n.Flow flow.After) w x c.line_end.result
          c.line_end.new.tokenizer arrived c.line_end.ensures.full;
    }
