use Rattle.std.proofs.Common.{ap, ◌∙◌, map}
use Rattle.std.specs.Prelude.{string_bytes}
use Rattle.std.specs.Option.{is_some}
use Rattle.markdown_inlines.proofs.LabelLemmas.{has-first}
use Rattle.markdown_inlines.proofs.labels.is_footnote.Goals as goal

pub returns : goal.returns
returns c =
    c.is_some.ensures ∙ ap is_some c.footnote_definition.ensures
    ∙ has-first (map string_bytes c.args.labels.now.footnotes.forms.now) c.as_str.result.now c.args.label.now
    (c.as_str.ensures.value ∙ c.in_ok-form.ensures)
