use Rattle.std.proofs.Common.{◌≡◌, Global, ◌+◌, ◌-◌, arith, ap, sym, ◌∙◌, List, ℕ, ◌∷◌, drop, get_or}
use Rattle.std.specs.Prelude.{Vec}
use Rattle.md_meaning.specs.Rest.{run_len}
use Rattle.markdown_inlines.proofs.EndLemmas.{before-is, last-mark, last-other, marks, no-mark, run-mark, run-other}
use Rattle.markdown_inlines.proofs.ends.last_runs.Goals.{then-text-at, else-text-at+then-run-gt0+in_ok-note}
use Rattle.markdown_inlines.proofs.ends.last_runs.Goals.{else-text-at+else-run-gt0}
use Rattle.markdown_inlines.proofs.ends.last_runs.Goals as goal

pub loop-at-preserved : goal.loop-at-preserved
loop-at-preserved c =
    let text : List ℕ = c.args.text.now in
    let at : ℕ = c.loop-at.at in
    let b : ℕ = get_or text (at - 1) 0 in
    let before : drop (at - 1) text ≡ b ∷ drop at text =
    before-is text at c.loop-at-test.true c.loop-at.invariant.fits in
    elim c.if-text-at.branch [
      | then-text-at w ↦ record {
        fits = omega (arith, c.loop-at.invariant.fits);
        short = omega (arith, c.loop-at.invariant.short, c.loop-at-test.true, w.run-is);
        run =
            w.run-is ∙ ap (λ n. n + 1) c.loop-at.invariant.run
            ∙ sym (run-mark c.args.mark b (drop at text) (marks b c.args.mark w.if-text-at.true))
            ∙ ap (run_len c.args.mark) (sym before);
        last = λ size q from seen.
            last-mark c.args.mark text c.loop-at.last.items at b before c.loop-at-test.true
            (marks b c.args.mark w.if-text-at.true) c.loop-at.invariant.last size q from
            (omega (arith, seen, ap (λ (v : Vec ℕ Global). get_or v.items size 0) w.last-is));
      }
      | else-text-at+then-run-gt0+in_ok-note w ↦ record {
        fits = omega (arith, c.loop-at.invariant.fits);
        short = omega (arith, c.loop-at.invariant.fits, w.run-is);
        run =
            w.run-is
            ∙ sym (run-other c.args.mark b (drop at text) (no-mark b c.args.mark w.if-text-at.false))
            ∙ ap (run_len c.args.mark) (sym before);
        last = λ size q from seen.
            last-other c.args.mark text c.loop-at.last.items w.note.new.last.items at b before c.loop-at-test.true
            (no-mark b c.args.mark w.if-text-at.false) c.loop-at.invariant.last w.in_ok-note.ensures.kept
            (λ some.
            omega (
              arith,
              w.in_ok-note.ensures.here,
              ap (λ n. get_or w.note.new.last.items n 0) c.loop-at.invariant.run,
            )) size q from
            (omega (arith, seen, ap (λ (v : Vec ℕ Global). get_or v.items size 0) w.last-is));
      }
      | else-text-at+else-run-gt0 w ↦ record {
        fits = omega (arith, c.loop-at.invariant.fits);
        short =
            omega (arith, c.loop-at.invariant.fits, c.loop-at.invariant.short, w.run-is, w.if-run-gt0.false);
        run =
            w.run-is ∙ omega (arith, w.if-run-gt0.false)
            ∙ sym (run-other c.args.mark b (drop at text) (no-mark b c.args.mark w.if-text-at.false))
            ∙ ap (run_len c.args.mark) (sym before);
        last = λ size q from seen.
            last-other c.args.mark text c.loop-at.last.items c.loop-at.last.items at b before c.loop-at-test.true
            (no-mark b c.args.mark w.if-text-at.false) c.loop-at.invariant.last (λ size. omega arith)
            (λ some. absurd (omega (arith, some, w.if-run-gt0.false, c.loop-at.invariant.run))) size q from
            (omega (arith, seen, ap (λ (v : Vec ℕ Global). get_or v.items size 0) w.last-is));
      }
    ]
