use Rattle.std.proofs.Common.{List, ℕ, ap, sym, ◌∙◌}
use Rattle.std.proofs.lemmas.Result.{IfOk-weaker}
use Rattle.md_events.specs.TextPart.{document_of}
use Rattle.md_events.specs.declared.inline.PartPlace.TheVariants.{Elsewhere}
use Rattle.markdown_inlines.specs.Layer.{place_matters}
use Rattle.markdown_inlines.proofs.PlaceLemmas.{anywhere, means-at}
use Rattle.markdown_inlines.proofs.layer.place_to_read_at.Goals as goal

pub returns-then-place_matters : goal.returns-then-place_matters
returns-then-place_matters c =
    IfOk-weaker c.place_of.result _ _
    (λ place at.
    means-at c.args.options.now (document_of c.args.state.now)
    (record { kind = c.args.kind; chunks = c.args.chunks.now }) place at)
    c.place_of.ensures

pub returns : goal.returns
returns c =
    anywhere c.args.options.now (document_of c.args.state.now)
    (record { kind = c.args.kind; chunks = c.args.chunks.now }) Elsewhere c.requires
    (ap (λ (l : List ℕ). place_matters c.args.options.now c.args.kind l)
    (sym (c.bytes.ensures ∙ c.in_ok-text.ensures.bytes))
    ∙ sym c.place_matters.ensures ∙ c.if-place_matters.false)
