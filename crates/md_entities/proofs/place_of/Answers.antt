use Rattle.std.proofs.Common.{◌≡◌, Ok, Err, ap, sym, ◌∙◌, rules}
use Rattle.std.proofs.lemmas.Fn.{always_returns_same}
use Rattle.std.specs.Ordering.{nat_cmp}
use Rattle.std.specs.Cmp.Lexicographic.{slice_cmp}
use Rattle.md_entities.specs.Names.{name_from}
use Rattle.md_entities.specs.declared.table.TheConstants.{NAMES}
use Rattle.md_entities.proofs.TableLemmas.{found_place, looked-up}
use Rattle.md_entities.proofs.place_of.Goals as goal

pub returns-in-Ok-clause-value : goal.returns-in-Ok-clause-value
returns-in-Ok-clause-value c =
    let is : c.binary_search_by.result ≡ Ok c.in-Ok.place = cc in
    ap found_place (sym is)
    ∙ looked-up c.args.name.now c.binary_search_by.result c.binary_search_by.ensures.bound
    (c.binary_search_by.ensures.position (λ start. slice_cmp nat_cmp (name_from NAMES start) c.args.name.now)
    (always_returns_same _ _ _ (λ a r g called. search rules)))

pub returns-in-Err-clause-value : goal.returns-in-Err-clause-value
returns-in-Err-clause-value c =
    let is : c.binary_search_by.result ≡ Err c.in-Err._gap = cc in
    ap found_place (sym is)
    ∙ looked-up c.args.name.now c.binary_search_by.result c.binary_search_by.ensures.bound
    (c.binary_search_by.ensures.position (λ start. slice_cmp nat_cmp (name_from NAMES start) c.args.name.now)
    (always_returns_same _ _ _ (λ a r g called. search rules)))
