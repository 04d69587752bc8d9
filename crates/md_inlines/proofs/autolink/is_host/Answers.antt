use Rattle.std.proofs.Common.{◌==◌, rules, tests}
use Rattle.std.proofs.lemmas.Iterator.Search.{all_from_yields_List}
use Rattle.std.proofs.lemmas.Iterator.Splits.{YieldsList-from_slice_split}
use Rattle.md_meaning.specs.Ascii.{dot}
use Rattle.md_inlines.specs.Autolink.{is_host_label}
use Rattle.md_inlines.proofs.autolink.is_host.Goals as goal

pub returns : goal.returns
returns c =
    all_from_yields_List is_host_label _ _ _ c.all.ensures.ran
    (YieldsList-from_slice_split _ (λ b. b == dot) c.args.bytes.now c.split.ensures.rest c.split.ensures.done
    c.split.ensures.closure (λ x b q k. search (rules, tests)))
    (λ x b q k. search (rules, tests))
