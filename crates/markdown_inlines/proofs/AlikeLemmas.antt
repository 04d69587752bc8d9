-- Parts that are read alike mean the same where their documents have the same labels, as a text has them and that text
-- in a quote or in an item.
use Rattle.std.proofs.Common.{◌≡◌, ℕ, Bool, true, false, ◌&&◌, ◌||◌, List, ◌∷◌, refl, sym, ap, ap₂, ◌∙◌, subst}
use Rattle.std.specs.List.{list_any}
use Rattle.std.specs.Str.{bytes_eq}
use Rattle.std.proofs.lemmas.Slice.Eq.{bytes_eq-Decides}
use Rattle.md_engine.specs.declared.configuration.ParseOptions.{ParseOptions}
use Rattle.md_engine.specs.declared.event.Event.{Event}
use Rattle.md_engine.specs.declared.parse_state.ParseState.{ParseState}
use Rattle.md_meaning.specs.Label as meaning
use Rattle.md_meaning.specs.Label.{labels, normal_form}
use Rattle.md_meaning.specs.Meaning.{tree}
use Rattle.md_wrap.specs.Footnoted.{footnoted, x_label}
use Rattle.md_meaning.specs.Wrapped.{IsItemable, IsQuotable, itemised, quoted}
use Rattle.md_events.specs.declared.inline.PartKind.{PartKind}
use Rattle.md_events.specs.declared.inline.PartKind.TheVariants as kind
use Rattle.md_events.specs.declared.inline.PartPlace.{PartPlace}
use Rattle.md_events.specs.Events.Inline.{Part}
use Rattle.md_events.specs.Events.Spelled.{spelled}
use Rattle.md_events.specs.TextPart.{Document, document_of}
use Rattle.md_inline_events.specs.Woven.{read_text, woven_events}
use Rattle.md_inlines.specs.declared.InlineOptions.{InlineOptions}
use Rattle.md_inlines.specs.Content.{content, forest, has_form}
use Rattle.md_inlines.specs.Target.{lines}
use Rattle.md_inlines.specs.Task.{is_task}
use Rattle.markdown_blocks.specs.Parsed.{IsRead}
use Rattle.markdown_inlines.specs.Alike.{HaveSameLabels, IsReadBy, MeanAlike, has_footnote}
use Rattle.markdown_inlines.specs.Layer.{AreEvents, labels_in, may_have_check, part_forest, place_matters}
use Rattle.markdown_inlines.proofs.PlaceLemmas.{content-anywhere}

-- the forest of a text at two places, where both may have a check, or both not, if that matters
forest-anywhere : (options : InlineOptions) (given : meaning.Labels) (place other : PartPlace) (held : PartKind)
    (text : List ℕ) →
    (place_matters options held text ≡ true → may_have_check place ≡ may_have_check other) →
    part_forest options given place held text ≡ part_forest options given other held text
forest-anywhere options given place other kind.String text alike = refl
forest-anywhere options given place other kind.Text text alike =
    go (options.constructs.gfm_task_list_item && is_task text) refl
  where
    go : (matters : Bool) → (options.constructs.gfm_task_list_item && is_task text) ≡ matters →
        content options given (may_have_check place) text ≡ content options given (may_have_check other) text
    go true is = ap (λ (first : Bool). content options given first text) (alike is)
    go false is = content-anywhere options given text (may_have_check place) (may_have_check other) is

-- the forest of a text in two documents with the same labels
forest-labels : (options : InlineOptions) (document other : Document) → HaveSameLabels document other →
    (place : PartPlace) (held : PartKind) (text : List ℕ) →
    part_forest options (labels_in document) place held text ≡ part_forest options (labels_in other) place held text
forest-labels options document other same place kind.String text = refl
forest-labels options document other same place kind.Text text =
    let definitions : has_form document.definitions ≡ has_form other.definitions =
    λ i label. same.definitions label i in
    let footnotes : has_form document.footnotes ≡ has_form other.footnotes = λ i label. same.footnotes label i in
    ap₂ (λ (d f : List ℕ → Bool). forest options d f (may_have_check place) text) definitions footnotes

-- What a part means depends on its text and the labels alone.
pub mean-alike : (options : InlineOptions) (document other : Document) → HaveSameLabels document other →
    MeanAlike options document other
mean-alike options document other same = λ held like events found is also alike check.
    let text : List ℕ = read_text document.bytes held in
    record {
      forest = part_forest options (labels_in document) is.place held.kind text;
      events_are = is.same;
      found_are =
          also.same
          ∙ sym
          (ap (woven_events other.bytes like)
          (forest-anywhere options (labels_in document) is.place also.place held.kind text check
          ∙ forest-labels options document other same also.place held.kind text
          ∙ ap (λ (k : PartKind). part_forest options (labels_in other) also.place k text) alike.kind
          ∙ ap (λ (t : List ℕ). part_forest options (labels_in other) also.place like.kind t) alike.text));
    }

-- The labels of a text that was read are those of its tree.
read-labels : (reads : Document → Part → List Event → Type 0) (text : List ℕ) (options : ParseOptions)
    (events : List Event) (state : ParseState) → IsRead reads text options events state →
    labels_in (document_of state) ≡ labels (spelled events text)
read-labels reads text options events state read =
    ap₂
    (λ (d f : List (List ℕ)). let both : meaning.Labels = record { definitions = d; footnotes = f } in both)
    read.definitions read.footnotes

-- so a text that has the labels of another has them where both were read
labels-alike : (document other : Document) → labels_in document ≡ labels_in other → HaveSameLabels document other
labels-alike document other same = record {
  definitions = λ label. ap (λ (l : meaning.Labels). has_form l.definitions label) same;
  footnotes = λ label. ap (λ (l : meaning.Labels). has_form l.footnotes label) same;
}

same-labels : (reads : Document → Part → List Event → Type 0) (text wrapped : List ℕ) (options : ParseOptions)
    (events found : List Event) (state around : ParseState) → IsRead reads text options events state →
    IsRead reads wrapped options found around →
    labels (tree options wrapped) ≡ labels (spelled events text) →
    labels_in (document_of state) ≡ labels_in (document_of around)
same-labels reads text wrapped options events found state around read again same =
    read-labels reads text options events state read
    ∙ sym same
    ∙ sym (ap labels again.tree)
    ∙ sym (read-labels reads wrapped options found around again)

pub quoted-alike : (inlines : InlineOptions) (options : ParseOptions) (text : List ℕ) (events found : List Event)
    (state quote : ParseState) → options.constructs.block_quote ≡ true → IsQuotable options text →
    IsReadBy inlines text options events state → IsReadBy inlines (quoted text) options found quote →
    MeanAlike inlines (document_of state) (document_of quote)
quoted-alike inlines options text events found state quote on may read again =
    mean-alike inlines (document_of state) (document_of quote)
    (labels-alike (document_of state) (document_of quote)
    (same-labels (λ document held answer. AreEvents inlines document held answer) text (quoted text) options events
    found state quote read again (read.in_quote on may).1))

pub itemised-alike : (inlines : InlineOptions) (options : ParseOptions) (text : List ℕ) (events found : List Event)
    (state item : ParseState) → options.constructs.list_item ≡ true → IsItemable options text →
    IsReadBy inlines text options events state → IsReadBy inlines (itemised text) options found item →
    MeanAlike inlines (document_of state) (document_of item)
itemised-alike inlines options text events found state item on may read again =
    mean-alike inlines (document_of state) (document_of item)
    (labels-alike (document_of state) (document_of item)
    (same-labels (λ document held answer. AreEvents inlines document held answer) text (itemised text) options events
    found state item read again (read.in_item on may).1))

-- A label that is known already makes no difference.

or-known : (b c : Bool) → (b ≡ true → c ≡ true) → (b || c) ≡ c
or-known true c known = sym (known refl)
or-known false c known = refl

any-known : (forms : List (List ℕ)) (form other : List ℕ) → list_any (λ known. bytes_eq known form) forms ≡ true →
    (bytes_eq form other || list_any (λ known. bytes_eq known other) forms) ≡
    list_any (λ known. bytes_eq known other) forms
any-known forms form other is =
    or-known (bytes_eq form other) (list_any (λ known. bytes_eq known other) forms)
    (λ e.
    subst (λ (t : List ℕ). list_any (λ known. bytes_eq known t) forms ≡ true) ((bytes_eq-Decides form other).0 e) is)

pub footnoted-alike : (inlines : InlineOptions) (options : ParseOptions) (text : List ℕ) (events found : List Event)
    (state footnote : ParseState) → options.constructs.gfm_footnote_definition ≡ true → IsItemable options text →
    IsReadBy inlines text options events state → IsReadBy inlines (footnoted text) options found footnote →
    has_footnote x_label (document_of state) ≡ true →
    MeanAlike inlines (document_of state) (document_of footnote)
footnoted-alike inlines options text events found state footnote on may read again known =
    mean-alike inlines (document_of state) (document_of footnote)
    (record {
      definitions =
          λ label. ap (λ (l : meaning.Labels). has_form l.definitions label) own
          ∙ sym (ap (λ (l : meaning.Labels). has_form l.definitions label) around);
      footnotes =
          λ label. sym (any-known (document_of state).footnotes x_label (normal_form (lines label)) known)
          ∙ ap (λ (l : meaning.Labels). has_form (x_label ∷ l.footnotes) label) own
          ∙ sym (ap (λ (l : meaning.Labels). has_form l.footnotes label) around);
    })
  where
    own : labels_in (document_of state) ≡ labels (spelled events text)
    own = read-labels (λ document held answer. AreEvents inlines document held answer) text options events state read

    around : labels_in (document_of footnote) ≡
        record (labels (spelled events text)) { footnotes = x_label ∷ (labels (spelled events text)).footnotes }
    around =
        read-labels (λ document held answer. AreEvents inlines document held answer) (footnoted text) options found
        footnote again
        ∙ ap labels again.tree
        ∙ (read.in_footnote on may).1
