use Rattle.std.proofs.Common.{◌≡◌, true, cond, drop, IfOk, sym, ◌∙◌, ap, subst}
use Rattle.md_meaning.specs.Lines.{lines_of}
use Rattle.md_meaning.specs.Preamble.{has_mark, rests_at}
use Rattle.reference_tree.specs.Rests.{rest_meanings}
use Rattle.reference_tree.proofs.meaning.rests_after_mark.Goals as goal

pub returns-then-has_mark : goal.returns-then-has_mark
returns-then-has_mark c =
    let text = c.args.text.now in
    let marked : has_mark text ≡ true = sym c.has_mark.ensures ∙ c.if-has_mark.true in
    subst (λ x. IfOk c.rests_of.result (λ v. rest_meanings v.items ≡ x))
    (ap (λ bytes. rests_at 3 (lines_of bytes)) c.split_at.ensures.back
    ∙ sym (ap (λ v. rests_at (cond v 3 0) (lines_of (cond v (drop 3 text) text))) marked)) c.rests_of.ensures
