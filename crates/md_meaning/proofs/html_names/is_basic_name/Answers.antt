use Rattle.std.proofs.Common.{ℕ, List, rules, tests, Bor}
use Rattle.std.specs.Str.{str_eq_ignore_ascii_case}
use Rattle.std.proofs.lemmas.Iterator.{YieldsList-from_slice}
use Rattle.std.proofs.lemmas.Iterator.Search.{any_from_yields_List}
use Rattle.md_meaning.specs.Html.{is_basic_name}
use Rattle.md_meaning.proofs.html_names.is_basic_name.Goals as goal

pub returns : goal.returns
unfolding is_basic_name
returns c =
    any_from_yields_List (λ (k : Bor (List ℕ)). str_eq_ignore_ascii_case k.now c.args.name.now) _ _ _ c.any.ensures.ran
    (YieldsList-from_slice _ c.iter.ensures.rest) (λ x b q k. search (rules, tests))
