use Rattle.std.proofs.Common.{◌≡◌, ◌<◌, ◌∷◌, ◌++◌, [], ℕ, ◌∙◌, Bool, List, ap, append_assoc, append-nil, arith, cond}
use Rattle.std.proofs.Common.{drop, false, length, refl, subst, sym, take}
use Rattle.std.specs.Prelude.{◌==◌}
use Rattle.std.specs.List.{prefix_len}
use Rattle.std.proofs.lemmas.List.{length-drop, take-append-drop}
use Rattle.md_engine.specs.declared.event.Event.{Event}
use Rattle.md_engine.specs.declared.event.Point.{Point}
use Rattle.md_engine.specs.Place.{IsPlaced}
use Rattle.md_engine.specs.World.{World, world}
use Rattle.md_leaves.specs.HeadingRuns.{Apart, Hashes, White, is_continued, line_runs}
use Rattle.md_leaves.specs.OnLine.{IsOnLine}
use Rattle.md_leaves.proofs.OnLine.{on-following, on-front}
use Rattle.md_leaves.proofs.RunsAdded.{none-left, run-parted, run-some}
use Rattle.md_events.specs.Events.Nested.{pair}
use Rattle.md_events.specs.Events.Places.{past_text}
use Rattle.md_leaves.proofs.heading_text.add_runs.Goals as goal

-- what is left of the piece lies on the line, in its first run and after that
in-two : (bytes rest front back : List ℕ) (n : ℕ) (p : Point) → front ≡ take n rest → back ≡ drop n rest →
    IsOnLine bytes rest p → IsOnLine bytes (front ++ back) p
in-two bytes rest front back n p is following on =
    subst (λ (l : List ℕ). IsOnLine bytes l p)
    (sym
    (ap (λ (l : List ℕ). l ++ back) is ∙ ap (λ (l : List ℕ). take n rest ++ l) following ∙ take-append-drop n rest)) on

pub loop-rest-init : goal.loop-rest-init
loop-rest-init c = record { on = c.requires; same = refl; events = refl }

pub past_text-end-requires : goal.past_text-end-requires
past_text-end-requires c =
    let bytes_are : c.loop-rest.tokenizer.bytes.now ≡ c.args.tokenizer.now.bytes.now =
    ap (λ (w : World). w.setting.bytes) c.loop-rest.invariant.same in
    subst (λ (l : List ℕ). IsOnLine l c.split_at.result.0.now c.loop-rest.point) (sym bytes_are)
    (on-front c.args.tokenizer.now.bytes.now c.split_at.result.0.now c.split_at.result.1.now c.loop-rest.point
    (in-two c.args.tokenizer.now.bytes.now c.loop-rest.rest.now c.split_at.result.0.now c.split_at.result.1.now
    c.run_len.result c.loop-rest.point c.split_at.ensures.front c.split_at.ensures.back c.loop-rest.invariant.on))

pub add_part-requires-clause-from : goal.add_part-requires-clause-from
add_part-requires-clause-from c =
    subst (λ (l : List ℕ). IsPlaced l c.loop-rest.point)
    (sym (ap (λ (w : World). w.setting.bytes) c.loop-rest.invariant.same)) c.loop-rest.invariant.on.placed

pub add_part-requires-clause-to : goal.add_part-requires-clause-to
add_part-requires-clause-to c =
    let bytes = c.args.tokenizer.now.bytes.now in
    let following : IsOnLine bytes c.split_at.result.1.now (past_text c.split_at.result.0.now c.loop-rest.point) =
    on-following bytes c.split_at.result.0.now c.split_at.result.1.now c.loop-rest.point
    (in-two bytes c.loop-rest.rest.now c.split_at.result.0.now c.split_at.result.1.now c.run_len.result
    c.loop-rest.point c.split_at.ensures.front c.split_at.ensures.back c.loop-rest.invariant.on) in
    subst (λ (l : List ℕ). IsPlaced l c.past_text-end.result)
    (sym (ap (λ (w : World). w.setting.bytes) c.loop-rest.invariant.same))
    (subst (IsPlaced bytes) (sym c.past_text-end.ensures) following.placed)

-- something is left
some-left : (rest : List ℕ) → false ≡ (length rest == 0) → 0 < length rest
some-left [] e = cc
some-left (b ∷ bs) e = omega arith

pub loop-rest-smaller : goal.loop-rest-smaller
loop-rest-smaller c =
    let rest = c.loop-rest.rest.now in
    let lt : 0 < length rest = some-left rest c.loop-rest-test.ensures in
    let some : 0 < c.run_len.result =
    run-some rest c.run_len.result lt
    (c.run_len.ensures.value
    ∙ ap (λ (x : Bool). prefix_len (is_continued (cond x White Hashes)) rest) c.is_white-white.ensures) in
    omega (arith, some, lt, ap length c.split_at.ensures.back, length-drop c.run_len.result rest)

pub loop-rest-preserved : goal.loop-rest-preserved
loop-rest-preserved c =
    let bytes = c.args.tokenizer.now.bytes.now in
    let rest = c.loop-rest.rest.now in
    let front = c.split_at.result.0.now in
    let back = c.split_at.result.1.now in
    let p = c.loop-rest.point in
    let q = c.past_text-end.result in
    let w = world c.loop-rest.tokenizer in
    let v = world c.add_part.new.tokenizer in
    let w0 = world c.args.tokenizer.now in
    let added : List Event = pair c.run_name.result p q in
    let new : v ≡ record w { events = w.events ++ added } = c.in_ok-add_part.ensures.world in
    let part : line_runs Apart rest p ≡ added ++ line_runs Apart back q =
    run-parted rest front back c.run_len.result c.is_white-white.result c.run_name.result p q
    (some-left rest c.loop-rest-test.ensures) c.is_white-white.ensures c.run_len.ensures.value c.run_name.ensures
    c.split_at.ensures.front c.split_at.ensures.back c.past_text-end.ensures in
    record {
      on =
          subst (IsOnLine bytes back) (sym c.past_text-end.ensures)
          (on-following bytes front back p
          (in-two bytes rest front back c.run_len.result p c.split_at.ensures.front c.split_at.ensures.back
          c.loop-rest.invariant.on));
      same = ap (λ (x : World). record x { events = w0.events }) new ∙ c.loop-rest.invariant.same;
      events =
          ap (λ (x : World). x.events ++ line_runs Apart back q) new
          ∙ append_assoc w.events added (line_runs Apart back q)
          ∙ ap (λ (es : List Event). w.events ++ es) (sym part) ∙ c.loop-rest.invariant.events;
    }

pub returns-clause-world : goal.returns-clause-world
returns-clause-world c =
    let w = world c.loop-rest.tokenizer in
    let w0 = world c.args.tokenizer.now in
    let events : w.events ≡ w0.events ++ line_runs Apart c.args.piece.now c.args.from =
    sym (append-nil w.events)
    ∙ ap (λ (es : List Event). w.events ++ es)
    (sym (none-left c.loop-rest.rest.now c.loop-rest.point (sym c.loop-rest-test.ensures)))
    ∙ c.loop-rest.invariant.events in
    ap (λ (x : World). record x { events = w.events }) c.loop-rest.invariant.same
    ∙ ap (λ (es : List Event). record w0 { events = es }) events
