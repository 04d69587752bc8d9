use Rattle.std.proofs.Common.{◌≡◌, true, cond, None, IfOk, sym, ◌∙◌, ap, subst}
use Rattle.std.specs.Option.{option_map}
use Rattle.md_meaning.specs.Definition as definition
use Rattle.md_meaning.specs.Rest.{is_parted}
use Rattle.reference_tree.specs.Definitions as m
use Rattle.reference_tree.proofs.definition.title_after.Goals as goal

pub returns-in-Some : goal.returns-in-Some
returns-in-Some c =
    let lines = c.args.lines.now in
    let following = definition.after_gap (m.ahead_meaning lines c.args.ahead) in
    let parted : is_parted c.args.ahead.rest.now ≡ true = sym c.is_parted.ensures ∙ c.if-not-is_parted.false in
    subst (λ x. IfOk c.title_at.result (λ found. option_map (m.title_meaning lines) found ≡ x))
    (ap definition.title_at (sym (ap (m.gap_meaning lines) c.in-Some.is) ∙ c.after_gap.ensures)
    ∙ sym (ap (λ v. cond v (definition.title_at following) None) parted)) c.title_at.ensures
