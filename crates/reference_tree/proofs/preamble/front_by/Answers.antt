use Rattle.std.proofs.Common.{◌≡◌, ◌+◌, ◌∷◌, length, drop, sym, ◌∙◌, ap, subst, Some}
use Rattle.md_meaning.specs.Tree as t
use Rattle.reference_tree.specs.Fronts.{lines_in}
use Rattle.reference_tree.proofs.FrontLemmas.{front_by-none, front_by-some, drop-next, drop-below, drop-above}
use Rattle.reference_tree.proofs.MeaningLemmas.{meaning-Frontmatter}
use Rattle.reference_tree.proofs.preamble.front_by.Goals as goal

pub returns-in-None-clause-front : goal.returns-in-None-clause-front
returns-in-None-clause-front c =
    front_by-none c.args.marker c.lines_before_fence.result c.args.rests.now c.split_at.result.1.now
    c.lines_before_fence.ensures.value
    (drop-above c.lines_before_fence.result c.args.rests.now
    (subst (λ xs. length xs ≡ 0) c.split_at.ensures.back c.in-None.ensures.cases))

pub returns-in_ok-lines-in-Some-clause-front : goal.returns-in_ok-lines-in-Some-clause-front
returns-in_ok-lines-in-Some-clause-front c =
    let following : drop c.lines_before_fence.result c.args.rests.now ≡
    c.in-Some.field-0-0.now ∷ c.in-Some.after.now = sym c.split_at.ensures.back
    ∙ c.in-Some.ensures.cases.0 in
    ap (λ b. Some (record { block = b; after = lines_in c.in-Some.after.now }))
    (meaning-Frontmatter c.args.marker c.in_ok-lines-in-Some.lines)
    ∙ ap
    (λ ls.
    Some (record { block = t.Frontmatter c.args.marker ls; after = lines_in c.in-Some.after.now }))
    c.in_ok-lines-in-Some.ensures
    ∙ front_by-some c.args.marker c.lines_before_fence.result c.args.rests.now c.split_at.result.0.now
    c.in-Some.after.now c.lines_before_fence.ensures.value
    (drop-below c.lines_before_fence.result c.args.rests.now c.in-Some.after.now c.in-Some.field-0-0.now following)
    c.split_at.ensures.front
    (drop-next c.lines_before_fence.result c.args.rests.now c.in-Some.after.now c.in-Some.field-0-0.now following)

pub returns-in_ok-lines-in-Some-clause-after : goal.returns-in_ok-lines-in-Some-clause-after
returns-in_ok-lines-in-Some-clause-after c =
    let following : drop c.lines_before_fence.result c.args.rests.now ≡
    c.in-Some.field-0-0.now ∷ c.in-Some.after.now = sym c.split_at.ensures.back
    ∙ c.in-Some.ensures.cases.0 in
    record {
      before = c.lines_before_fence.result + 1;
      is = drop-next c.lines_before_fence.result c.args.rests.now c.in-Some.after.now c.in-Some.field-0-0.now following;
    }

pub returns-in-None-clause-after : goal.returns-in-None-clause-after
returns-in-None-clause-after c = tt
