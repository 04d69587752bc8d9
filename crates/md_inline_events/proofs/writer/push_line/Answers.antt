use Rattle.std.proofs.Common.{◌≡◌, ℕ, ◌-◌, ◌<◌, ◌≤◌, List, ◌++◌, length, take, drop, ap, sym, refl, ◌∙◌, arith}
use Rattle.std.proofs.lemmas.List.{take-append-drop}
use Rattle.md_inline_events.specs.SidesOf.{cursor_marks}
use Rattle.md_inline_events.proofs.LineSteps.{run_marks, run_name, run_point, run_step}
use Rattle.md_inline_events.proofs.SpanSteps.{even-parts}
use Rattle.md_inline_events.proofs.writer.push_line.Goals as goal

-- a run, and what follows it
parted : (line run following : List ℕ) (len : ℕ) → run ≡ take len line → following ≡ drop len line →
    line ≡ run ++ following
parted line run following len front back =
    sym
    (ap (λ (l : List ℕ). l ++ following) front ∙ ap (λ (l : List ℕ). take len line ++ l) back ∙ take-append-drop len
    line)

pub past_run-to-requires-clause-even : goal.past_run-to-requires-clause-even
past_run-to-requires-clause-even c even =
    (even-parts c.loop-rest.rest.now c.split_at.result.0.now c.split_at.result.1.now
    (parted c.loop-rest.rest.now c.split_at.result.0.now c.split_at.result.1.now c.run_len.result
    c.split_at.ensures.front c.split_at.ensures.back)
    (c.loop-rest.invariant.even even)).0

pub loop-rest-preserved : goal.loop-rest-preserved
loop-rest-preserved c =
    let run : List ℕ = c.split_at.result.0.now in
    let following : List ℕ = c.split_at.result.1.now in
    let count : ℕ = length run in
    let rest : c.loop-rest.rest.now ≡ run ++ following =
    parted c.loop-rest.rest.now run following c.run_len.result c.split_at.ensures.front c.split_at.ensures.back in
    let some : 0 < count = grind arith in
    let fits : 0 < c.in_ok-entered.entered.left → count ≤ c.in_ok-entered.entered.left = λ k.
    omega (arith, c.run_len.ensures.fits k, c.split_at.ensures.front_len) in
    record {
      events =
          run_step c.in_ok-entered.entered.left c.in_ok-entered.entered.tokens.now run following c.loop-rest.rest.now
          count (count - 1) (cursor_marks c.loop-rest.cursor) (cursor_marks c.in_ok-entered.entered)
          (cursor_marks c.in_ok-left.left) c.loop-rest.cursor.name c.in_ok-entered.entered.name c.in_ok-left.left.name
          c.loop-rest.from c.loop-rest.at c.in_ok-entered.begun c.in_ok-left.next c.past_run-to.result
          c.loop-rest.events.items _ _ _ rest refl some refl c.in_ok-entered.ensures.within fits refl
          c.in_ok-entered.ensures.events c.in_ok-entered.ensures.marks c.in_ok-entered.ensures.name
          c.in_ok-entered.ensures.from c.in_ok-left.ensures.events c.in_ok-left.ensures.marks
          c.in_ok-left.ensures.name c.in_ok-left.ensures.from c.past_run-to.ensures.value c.loop-rest.invariant.events;
      marks =
          run_marks run following c.loop-rest.rest.now count (cursor_marks c.loop-rest.cursor)
          (cursor_marks c.in_ok-entered.entered) (cursor_marks c.in_ok-left.left) rest refl some
          c.in_ok-entered.ensures.marks c.in_ok-left.ensures.marks
          ∙ c.loop-rest.invariant.marks;
      name =
          run_name c.in_ok-entered.entered.left c.in_ok-entered.entered.tokens.now run following c.loop-rest.rest.now
          count (cursor_marks c.loop-rest.cursor) (cursor_marks c.in_ok-entered.entered)
          (cursor_marks c.in_ok-left.left) c.loop-rest.cursor.name c.in_ok-entered.entered.name c.in_ok-left.left.name
          rest refl some c.in_ok-entered.ensures.within fits refl c.in_ok-entered.ensures.marks
          c.in_ok-entered.ensures.name c.in_ok-left.ensures.marks c.in_ok-left.ensures.name
          ∙ c.loop-rest.invariant.name;
      point =
          run_point run following c.loop-rest.rest.now c.loop-rest.at c.past_run-to.result _ rest
          c.past_run-to.ensures.value c.loop-rest.invariant.point;
      index = grind (arith, c.past_run-to.ensures.index, c.loop-rest.invariant.index);
      column = c.past_run-to.ensures.column;
      even = λ e. (even-parts c.loop-rest.rest.now run following rest (c.loop-rest.invariant.even e)).1;
    }
