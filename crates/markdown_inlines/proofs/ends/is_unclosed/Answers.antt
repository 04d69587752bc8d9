use Rattle.std.proofs.Common.{◌≡◌, ◌≤◌, None, true, ap, sym, ◌∙◌, arith, drop, List, ℕ}
use Rattle.std.specs.Prelude.{get_or, nat_le}
use Rattle.std.proofs.lemmas.Bool.Decides.{nat_tests}
use Rattle.md_meaning.specs.Rest.{run_len}
use Rattle.md_inlines.specs.Code.{before_run}
use Rattle.markdown_inlines.specs.Ends.{AreLast}
use Rattle.markdown_inlines.proofs.EndLemmas.{raw-absent}
use Rattle.markdown_inlines.proofs.ends.is_unclosed.Goals as goal

-- the run that is first in a rest is closed nowhere, where the last of its size is not after it
unclosed : (mark at : ℕ) (whole rest last : List ℕ) → AreLast mark whole last → rest ≡ drop at whole →
    nat_le (get_or last (run_len mark rest) 0) at ≡ true → before_run mark (run_len mark rest) true rest ≡ None
unclosed mark at whole rest last listed is passed =
    let before : get_or last (run_len mark rest) 0 ≤ at = grind (arith, nat_tests) in
    ap (before_run mark (run_len mark rest) true) is ∙ listed (run_len mark rest) at before

pub returns-in-Some : goal.returns-in-Some
returns-in-Some c = λ g.
    raw-absent c.args.mark c.args.rest.now
    (unclosed c.args.mark c.args.at c.args.whole.now c.args.rest.now c.in-Some.made.last.items listed c.requires.is
    (ap (λ (n : ℕ). nat_le (get_or c.in-Some.made.last.items n 0) c.args.at) (sym c.run_len.ensures.value)
    ∙ ap (λ (l : List ℕ). nat_le (get_or l c.run_len.result 0) c.args.at) (sym c.deref.ensures.value)
    ∙ sym c.is_absent.ensures ∙ g))
  where
    listed : AreLast c.args.mark c.args.whole.now c.in-Some.made.last.items
    listed = rw c.in-Some.is at c.requires.listed
