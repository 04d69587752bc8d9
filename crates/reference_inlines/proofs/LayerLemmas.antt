-- The layer that reads parts by the inline definition keeps the promise of every layer.
use Rattle.std.proofs.Common.{◌≡◌, ℕ, Bool, List}
use Rattle.md_meaning.specs.Label.{Labels}
use Rattle.md_events.specs.Events.Inline.{KeepsFrame, Part}
use Rattle.md_events.specs.declared.inline.PartKind.{PartKind}
use Rattle.md_events.specs.declared.inline.PartKind.TheVariants as kind
use Rattle.md_inline_events.specs.Forest.{IsForestOf}
use Rattle.md_inlines.specs.declared.InlineOptions.{InlineOptions}
use Rattle.proof_inlines.proofs.ForestLemmas.{woven-keeps}
use Rattle.proof_inlines.proofs.Promise.{content-of}
use Rattle.proof_inlines.proofs.TargetLemmas.{string-over}
use Rattle.reference_inlines.specs.Layer.{defined_events, part_forest}

part-forest-of : (options : InlineOptions) (labels : Labels) (first : Bool) (held : PartKind) (text : List ℕ) →
    IsForestOf text (part_forest options labels first held text)
part-forest-of options labels first kind.Text text = content-of options labels first text
part-forest-of options labels first kind.String text =
    let found = string-over options text in
    record { long = found.sized; names = found.names }

pub defined-keep : (options : InlineOptions) (labels : Labels) (first : Part → Bool) (bytes : List ℕ) →
    KeepsFrame bytes (λ held events. events ≡ defined_events options labels first bytes held)
defined-keep options labels first bytes held events is answer =
    woven-keeps bytes (part_forest options labels (first held)) (part-forest-of options labels (first held)) held events
    is answer
