use Rattle.std.proofs.Common.{List, ℕ, subst, sym, ◌∙◌}
use Rattle.std.specs.Prelude.{◌≡◌, IfOk, string_bytes}
use Rattle.md_meaning.specs.Label.{normal_form}
use Rattle.markdown_inlines.proofs.LabelLemmas.{one-line}
use Rattle.markdown_inlines.proofs.labels.form_of.Goals as goal

pub returns-then-not-contains : goal.returns-then-not-contains
returns-then-not-contains c =
    subst (λ (ls : List (List ℕ)). IfOk c.form_of_bytes.result (λ form. string_bytes form ≡ normal_form ls))
    (sym (one-line c.args.label.now (sym c.contains.ensures.value ∙ c.if-not-contains.true)))
    c.form_of_bytes.ensures
