use Rattle.std.proofs.Common.{◌==◌, rules, tests}
use Rattle.std.proofs.lemmas.Iterator.Search.{any_from_yields_List}
use Rattle.std.proofs.lemmas.Iterator.Splits.{YieldsList-from_slice_split}
use Rattle.md_meaning.specs.Ascii.{dot}
use Rattle.md_meaning.specs.Bytes.{is_end}
use Rattle.md_inlines.proofs.address.has_empty_segment.Goals as goal

pub returns : goal.returns
returns c =
    any_from_yields_List is_end _ _ _ c.any.ensures.ran
    (YieldsList-from_slice_split _ (λ b. b == dot) c.args.text.now c.split.ensures.rest c.split.ensures.done
    c.split.ensures.closure (λ x b q k. search (rules, tests)))
    (λ x b q k. search (rules, tests))
