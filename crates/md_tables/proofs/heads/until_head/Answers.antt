use Rattle.std.proofs.Common.{◌≡◌, ◌-◌, ◌<◌, ℕ, List, arith, false, get_or, not, suc, sym, true, ◌∙◌}
use Rattle.std.specs.List.{prefix_len}
use Rattle.std.proofs.lemmas.Bool.{not-true}
use Rattle.std.proofs.lemmas.List.Sums.{prefix_len_passes}
use Rattle.md_engine.specs.declared.event.Event.{Event}
use Rattle.md_tables.specs.Heads.{begins_further_row, stops_look}
use Rattle.md_tables.proofs.HeadsWalk.{headed-before}
use Rattle.md_tables.proofs.Unset.{unset}
use Rattle.md_tables.proofs.heads.until_head.Goals as goal
use Rattle.md_tables.proofs.heads.until_head.Goals.{then-loop-at-test+else-not-stops_look, else-loop-at-test}

-- before the first further row
other : (events : List Event) (k : ℕ) → k < prefix_len (λ (e : Event). not (begins_further_row e)) events →
    begins_further_row (get_or events k unset) ≡ false
other events k lt = not-true _ (prefix_len_passes (λ (e : Event). not (begins_further_row e)) events k unset lt)

pub returns-then-row-events-clause-passed : goal.returns-then-row-events-clause-passed
returns-then-row-events-clause-passed c = λ bytes options.
    let events = c.args.events.now in
    headed-before bytes options events c.passing-row.result unset
    (λ some. record {
      others = λ k le within. other events k (omega (arith, c.passing-row.ensures.value));
      stop = λ within. absurd (omega arith);
    })

pub returns-clause-passed : goal.returns-clause-passed
returns-clause-passed c = λ bytes options.
    let events = c.args.events.now in
    let at : ℕ = c.loop-at.at in
    let stop : 0 < at → stops_look (get_or events (at - 1) unset) ≡ true = elim c.loop-at-test.branch [
      | then-loop-at-test+else-not-stops_look w ↦ λ some. sym w.stops_look.ensures ∙ w.if-not-stops_look.false
      | else-loop-at-test w ↦ λ some. absurd (omega arith)
    ] in
    let last : 0 < at - 1 → suc (at - 2) ≡ at - 1 = λ some. omega arith in
    rw c.saturating_sub.ensures
    (headed-before bytes options events (at - 2) unset
    (λ some. record {
      others = λ k le within. other events k (omega (arith, c.passing-row.ensures.value));
      stop = λ within. rw (last (omega arith)) (stop (omega arith));
    }))
