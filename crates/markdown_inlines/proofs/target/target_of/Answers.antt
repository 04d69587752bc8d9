use Rattle.std.proofs.Common.{Option, map, ap, ◌∙◌}
use Rattle.std.specs.Prelude.{string_bytes}
use Rattle.std.proofs.lemmas.Result.{IfOk-weaker}
use Rattle.md_inline_events.specs.Forest.{Forest}
use Rattle.md_inlines.specs.Atoms.{or_else}
use Rattle.md_inlines.specs.Content.{has_form}
use Rattle.md_inlines.specs.Targets.{reference_after}
use Rattle.markdown_inlines.proofs.target.target_of.Goals as goal

pub returns-in-None : goal.returns-in-None
returns-in-None c options =
    IfOk-weaker c.reference_after.result _ _
    (λ made is.
    is
    ∙ ap
    (λ (o : Option Forest). or_else o
    (reference_after options (has_form (map string_bytes c.args.labels.now.definitions.forms.now)) c.args.inside.now
    c.args.following.now)) (c.in-None.ensures options))
    (c.reference_after.ensures options)
