-- A layer that reads each part by the inline definition keeps the promise of every layer, whatever its options are, the
-- labels of the document, and where the part is.
use Rattle.std.proofs.Common.{◌≡◌, ℕ, Bool, List, sym, subst}
use Rattle.md_engine.specs.declared.event.Event.{Event}
use Rattle.md_meaning.specs.Label.{Labels}
use Rattle.md_events.specs.Events.Inline.{Framed, IsPart, Part}
use Rattle.md_events.specs.declared.inline.PartKind.{PartKind}
use Rattle.md_events.specs.declared.inline.PartKind.TheVariants as kind
use Rattle.md_inline_events.specs.Forest.{Forest, IsForestOf}
use Rattle.md_inline_events.specs.Woven.{read_text, woven_events}
use Rattle.md_inlines.specs.declared.InlineOptions.{InlineOptions}
use Rattle.md_inlines.specs.Content.{content}
use Rattle.md_inlines.specs.Targets.{string}
use Rattle.proof_inlines.proofs.ForestLemmas.{woven-keeps}
use Rattle.proof_inlines.proofs.Promise.{content-of}
use Rattle.proof_inlines.proofs.TargetLemmas.{string-over}

string-of : (options : InlineOptions) (text : List ℕ) → IsForestOf text (string options text)
string-of options text =
    let found = string-over options text in
    record { long = found.sized; names = found.names }

-- `read` is the definition by kinds: content in a text, and escapes and character references alone in a string.
module _ (options : InlineOptions) (labels : Labels) (first : Bool) (read : PartKind → List ℕ → Forest)
    (of_text : (text : List ℕ) → read kind.Text text ≡ content options labels first text)
    (of_string : (text : List ℕ) → read kind.String text ≡ string options text) where
  part-forest : (held : PartKind) (text : List ℕ) → IsForestOf text (read held text)
  part-forest kind.Text text =
      subst (λ (f : Forest). IsForestOf text f) (sym (of_text text)) (content-of options labels first text)
  part-forest kind.String text =
      subst (λ (f : Forest). IsForestOf text f) (sym (of_string text)) (string-of options text)

  pub read-keeps : (bytes : List ℕ) (held : Part) (events : List Event) → IsPart bytes held →
      events ≡ woven_events bytes held (read held.kind (read_text bytes held)) → Framed bytes held events
  read-keeps bytes held events is answer = woven-keeps bytes read part-forest held events is answer
