use Rattle.std.proofs.Common.{map, sym, ◌∙◌}
use Rattle.std.specs.Prelude.{string_bytes}
use Rattle.std.proofs.lemmas.Result.{IfOk-weaker}
use Rattle.md_inlines.specs.Content.{has_form}
use Rattle.markdown_inlines.proofs.LeadingLemmas.{no-label}
use Rattle.markdown_inlines.proofs.target.reference_after.Goals as goal

pub returns-in_default : goal.returns-in_default
returns-in_default c options =
    IfOk-weaker c.short.result _ _
    (λ made is.
    is
    ∙ sym
    (no-label options (has_form (map string_bytes c.args.labels.now.definitions.forms.now)) c.args.inside.now
    c.args.following.now (sym c.in_default.ensures)))
    (c.short.ensures options)
