use Rattle.std.proofs.Common.{◌≡◌, drop, IfOk, IfSome, sym, ◌∙◌, ap, subst}
use Rattle.md_meaning.specs.Grouped.{grouped}
use Rattle.md_meaning.specs.Lines.{lines_of}
use Rattle.md_meaning.specs.Preamble.{without_mark, first_column, rests_at}
use Rattle.md_meaning.specs.Tree.{Blocks}
use Rattle.reference_tree.specs.Fronts.{IsEnd}
use Rattle.reference_tree.specs.Rests.{rest_meanings}
use Rattle.reference_tree.specs.Held.{blocks_meaning}
use Rattle.reference_tree.proofs.BodyLemmas.{body, Reads, tree-some, tree-none}
use Rattle.reference_tree.proofs.meaning.tree.Goals as goal

pub returns-in-Some : goal.returns-in-Some
returns-in-Some c =
    let reads : Reads c.args.options.now c.args.text.now c.deref.result.now c.in_ok-front.field-0 = record {
      lines =
          ap (λ xs. rest_meanings xs) c.deref.ensures.value ∙ c.in_ok-rests.ensures
          ∙ ap (λ bytes. rests_at (first_column bytes) (lines_of (without_mark bytes))) c.as_bytes.ensures.value;
      front = c.in_ok-front.ensures.front;
    } in
    subst (λ (x : Blocks). IfOk c.tree_after.result (λ t. blocks_meaning t ≡ x))
    (tree-some c.args.options.now c.args.text.now c.deref.result.now c.in_ok-front.field-0 c.in-Some.front
    reads c.in-Some.is
    (subst (λ o. IfSome o (λ f. IsEnd (drop 1 c.deref.result.now) f.after.now)) c.in-Some.is
    c.in_ok-front.ensures.after)) c.tree_after.ensures

pub returns : goal.returns
returns c =
    let reads : Reads c.args.options.now c.args.text.now c.deref.result.now c.in_ok-front.field-0 = record {
      lines =
          ap (λ xs. rest_meanings xs) c.deref.ensures.value ∙ c.in_ok-rests.ensures
          ∙ ap (λ bytes. rests_at (first_column bytes) (lines_of (without_mark bytes))) c.as_bytes.ensures.value;
      front = c.in_ok-front.ensures.front;
    } in
    subst (λ (x : Blocks). IfOk c.body.result (λ t. blocks_meaning t ≡ x))
    (ap (λ xs. grouped (body c.args.options.now (rest_meanings xs)))
    (c.deref-in-None.ensures.value ∙ sym c.deref.ensures.value)
    ∙ tree-none c.args.options.now c.args.text.now c.deref.result.now c.in_ok-front.field-0 reads c.in-None.is)
    c.body.ensures
