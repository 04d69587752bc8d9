use Rattle.std.proofs.Common.{sym, ◌∙◌, arith}
use Rattle.markdown_inlines.proofs.EndLemmas.{no-address-there}
use Rattle.markdown_inlines.proofs.ends.has_no_domain.Goals as goal

pub returns-then-begins_with : goal.returns-then-begins_with
returns-then-begins_with c g before =
    no-address-there before c.args.whole.now c.args.rest.now c.after.result.now c.args.at c.requires.is
    c.after.ensures (sym c.begins_with.ensures ∙ c.if-begins_with.true)
    (sym c.starts_in_any_case.ensures.value ∙ g) (c.requires.places c.args.at (grind arith) (grind arith))
