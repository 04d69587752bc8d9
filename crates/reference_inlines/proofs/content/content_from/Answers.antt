use Rattle.std.proofs.Common.{[], map, ap, ◌∙◌}
use Rattle.std.specs.Prelude.{string_bytes}
use Rattle.std.proofs.lemmas.Result.{IfOk-weaker}
use Rattle.md_inlines.specs.Content.{has_form}
use Rattle.reference_inlines.specs.Merged.{merged_onto}
use Rattle.reference_inlines.specs.Rounds.{emphasis_nodes}
use Rattle.reference_inlines.specs.Searched.{addressed}
use Rattle.reference_inlines.proofs.ContentLemmas.{content-nodes}
use Rattle.reference_inlines.proofs.content.content_from.Goals as goal

pub returns : goal.returns
returns c =
    IfOk-weaker c.with_addresses.result _ _
    (λ made is.
    is
    ∙ ap (addressed c.args.options.now c.args.text.now c.args.start)
    (c.in_ok-made.ensures
    ∙ ap (λ l. merged_onto l [])
    (c.deref-2.ensures.value ∙ c.in_ok-list.ensures
    ∙ ap (emphasis_nodes c.args.options.now.gfm_strikethrough_single_tilde)
    (c.deref.ensures.value ∙ c.in_ok-level.ensures)))
    ∙ content-nodes c.args.options.now (has_form (map string_bytes c.args.labels.definitions.now))
    (has_form (map string_bytes c.args.labels.footnotes.now)) c.args.text.now c.args.start)
    c.with_addresses.ensures
