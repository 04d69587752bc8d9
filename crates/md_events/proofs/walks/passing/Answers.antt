use Rattle.std.proofs.Common.{◌≡◌, ◌∙◌, ℕ, ◌+◌, ◌≤◌, Bool, List, [], ◌∷◌, ap, arith, cond, drop, false}
use Rattle.std.proofs.Common.{suc, take, true, zero}
use Rattle.std.specs.List.{prefix_len}
use Rattle.std.proofs.lemmas.List.{drop-drop, take_rest}
use Rattle.std.proofs.lemmas.List.Sums.{prefix_len-le-length}
use Rattle.md_engine.specs.declared.event.Event.{Event}
use Rattle.md_events.proofs.walks.passing.Goals as goal

-- where a whole round passes, it continues after that
round-passed : (test : Event → Bool) (n many : ℕ) (es : List Event) → many ≡ prefix_len test (take n es) → n ≤ many →
    prefix_len test es ≡ many + prefix_len test (drop many es)
round-passed test n zero es is all = omega arith
round-passed test zero (suc many) es is all = absurd (omega (arith, is))
round-passed test (suc n) (suc many) [] is all = absurd (omega (arith, is))
round-passed test (suc n) (suc many) (e ∷ es) is all =
    go (test e) is (λ (h : many ≡ prefix_len test (take n es)). round-passed test n many es h (omega arith))
  where
    go : (x : Bool) → suc many ≡ cond x (1 + prefix_len test (take n es)) 0 →
        (many ≡ prefix_len test (take n es) → prefix_len test es ≡ many + prefix_len test (drop many es)) →
        cond x (1 + prefix_len test es) 0 ≡ suc many + prefix_len test (drop many es)
    go true is on = let h = on (omega (arith, is)) in omega (arith, h)
    go false is on = absurd (omega (arith, is))

pub loop-at-preserved : goal.loop-at-preserved
loop-at-preserved g c =
    let test : Event → Bool = g.T.Test.passes c.args.test.now in
    let es : List Event = c.args.events.now in
    let at : ℕ = c.loop-at.at in
    let many : ℕ = c.passing_each-many.result in
    let is : many ≡ prefix_len test (take 8 (drop at es)) =
    c.passing_each-many.ensures.value ∙ ap (λ (l : List Event). prefix_len test (take 8 l)) (take_rest es at) in
    let on : prefix_len test (drop at es) ≡ many + prefix_len test (drop (at + many) es) =
    round-passed test 8 many (drop at es) is c.if-many-lt-ROUND.false
    ∙ ap (λ (l : List Event). many + prefix_len test l) (drop-drop many at es) in
    (omega (arith, on, c.loop-at.invariant.0), omega (arith, prefix_len-le-length test es, on, c.loop-at.invariant.0))
