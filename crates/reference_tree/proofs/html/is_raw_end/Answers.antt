use Rattle.std.proofs.Common.{ℕ, List, rules, tests, Bor}
use Rattle.std.proofs.lemmas.Iterator.{YieldsList-from_slice}
use Rattle.std.proofs.lemmas.Iterator.Search.{any_from_yields_List}
use Rattle.md_meaning.specs.Html.{is_raw_end, starts_in_any_case}
use Rattle.reference_tree.proofs.html.is_raw_end.Goals as goal

pub returns : goal.returns
unfolding is_raw_end
returns c =
    any_from_yields_List (λ (k : Bor (List ℕ)). starts_in_any_case c.args.rest.now k.now) _ _ _ c.any.ensures.ran
    (YieldsList-from_slice _ c.iter.ensures.rest) (λ x b q k. search (rules, tests))
