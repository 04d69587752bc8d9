-- What the layer's steps give are the events of a part.
use Rattle.std.proofs.Common.{◌≡◌, ℕ, Bool, List, [], ◌++◌, map, ap, sym, ◌∙◌}
use Rattle.std.specs.Prelude.{string_bytes}
use Rattle.md_engine.specs.declared.event.Event.{Event}
use Rattle.md_meaning.specs.Label as meaning
use Rattle.md_events.specs.declared.inline.PartKind.{PartKind}
use Rattle.md_events.specs.declared.inline.PartKind.TheVariants as kind
use Rattle.md_events.specs.declared.inline.PartPlace.{PartPlace}
use Rattle.md_events.specs.declared.labels.Labels.{Labels}
use Rattle.md_events.specs.Events.Inline.{Part}
use Rattle.md_events.specs.TextPart.{AreLabelsOf, Document, IsTextPartAt}
use Rattle.md_inline_events.specs.Tokens.{live, tokens}
use Rattle.md_inline_events.specs.declared.token.Token.{Token}
use Rattle.md_inline_events.specs.Woven.{read_text, woven_events}
use Rattle.md_inlines.specs.declared.InlineOptions.{InlineOptions}
use Rattle.md_inlines.specs.Content.{content}
use Rattle.md_inlines.specs.Targets.{string}
use Rattle.markdown_blocks.proofs.PlaceOnce.{one-place}
use Rattle.markdown_inlines.specs.Layer.{AreEvents, MeansAsAt, inline_events, labels_in}
use Rattle.markdown_inlines.specs.Layer.{may_have_check, part_forest}
use Rattle.markdown_inlines.specs.Given.{labels_of}
use Rattle.markdown_inlines.proofs.StringTokens.{live-tokens}

-- The tokens of a part, by its kind.

pub text-of-kind : (options : InlineOptions) (labels : meaning.Labels) (place : PartPlace) (held : PartKind)
    (text : List ℕ) (first : Bool) (made : List Token) → held ≡ kind.Text → first ≡ may_have_check place →
    made ≡ tokens (content options labels first text) →
    live made ≡ tokens (part_forest options labels place held text)
text-of-kind options labels place kind.Text text first made of_kind is made_is =
    ap live made_is ∙ live-tokens (content options labels first text)
    ∙ ap (λ (b : Bool). tokens (content options labels b text)) is
text-of-kind options labels place kind.String text first made of_kind is made_is = cc

pub string-of-kind : (options : InlineOptions) (labels : meaning.Labels) (place : PartPlace) (held : PartKind)
    (text : List ℕ) (made : List Token) → held ≡ kind.String → live made ≡ tokens (string options text) →
    live made ≡ tokens (part_forest options labels place held text)
string-of-kind options labels place kind.Text text made of_kind made_is = cc
string-of-kind options labels place kind.String text made of_kind made_is = made_is

-- the labels that are given are those of the document
given-labels : (document : Document) (labels : Labels) → AreLabelsOf document labels →
    labels_of labels ≡ labels_in document
given-labels document labels are =
    ap
    (λ (l : List (List ℕ)). let given : meaning.Labels =
    record { definitions = l; footnotes = map string_bytes labels.footnotes.forms.now } in given) are.definitions
    ∙ ap
    (λ (l : List (List ℕ)). let given : meaning.Labels =
    record { definitions = document.definitions; footnotes = l } in given) are.footnotes

pub part-tokens : (options : InlineOptions) (document : Document) (held : Part) (place : PartPlace) (labels : Labels)
    (text : List ℕ) (made : List Token) → AreLabelsOf document labels → text ≡ read_text document.bytes held →
    live made ≡ tokens (part_forest options (labels_of labels) place held.kind text) →
    live made ≡ tokens (part_forest options (labels_in document) place held.kind (read_text document.bytes held))
part-tokens options document held place labels text made are text_is made_is =
    made_is
    ∙ ap (λ (l : meaning.Labels). tokens (part_forest options l place held.kind text)) (given-labels document labels are)
    ∙ ap (λ (l : List ℕ). tokens (part_forest options (labels_in document) place held.kind l)) text_is

-- they are added to a list that is empty
pub part-events : (options : InlineOptions) (document : Document) (held : Part) (place : PartPlace)
    (old new : List Event) → old ≡ [] →
    new ≡
    old
    ++ woven_events document.bytes held
    (part_forest options (labels_in document) place held.kind (read_text document.bytes held)) →
    new ≡ inline_events options document place held
part-events options document held place old new none is =
    is ∙ ap (λ (l : List Event). l ++ inline_events options document place held) none

-- and they are those of the part
pub events-at : (options : InlineOptions) (document : Document) (held : Part) (place : PartPlace)
    (events : List Event) → IsTextPartAt document held place → events ≡ inline_events options document place held →
    AreEvents options document held events
events-at options document held place events at is = record { place = place; at = at; same = is }

pub events-of : (options : InlineOptions) (document : Document) (held : Part) (place : PartPlace)
    (events : List Event) → MeansAsAt options document held place →
    events ≡ inline_events options document place held → AreEvents options document held events
events-of options document held place events means is =
    record { place = means.own; at = means.at; same = is ∙ means.same }

-- A part has one place, and so one list of events.
pub events-once : (options : InlineOptions) (document : Document) (held : Part) (events found : List Event) →
    AreEvents options document held events → AreEvents options document held found → events ≡ found
events-once options document held events found is also =
    is.same
    ∙ ap (λ (p : PartPlace). inline_events options document p held)
    (one-place document held is.place also.place is.at also.at)
    ∙ sym also.same
