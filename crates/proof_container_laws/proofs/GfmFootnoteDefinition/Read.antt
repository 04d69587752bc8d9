-- A footnote definition is read from its begin and its prefix: its label is the bytes there.
use Rattle.std.proofs.Common.{◌≡◌, ℕ, Bool, true, false, List, ◌∷◌, refl, ap, sym, ◌∙◌, slice_range}
use Rattle.std.specs.Prelude.{None, Option}
use Rattle.md_engine.specs.declared.event.Event.{Event}
use Rattle.md_engine.specs.declared.event.Link.{Link}
use Rattle.md_engine.specs.declared.event.Name.TheVariants as n
use Rattle.md_engine.specs.declared.event.Point.{Point}
use Rattle.md_meaning.specs.State.{InFootnote}
use Rattle.md_meaning.specs.Tree.{End}
use Rattle.md_events.specs.Events.Nested.{enter}
use Rattle.md_events.specs.Events.Spelled.{FootnoteShape, Reading, Text, read}
use Rattle.md_events.proofs.FeedLines.{slice-front}
use Rattle.md_events.proofs.InlineLemmas.{past-index}
use Rattle.proof_container_laws.proofs.GfmFootnoteDefinition.Prefix.{IsFront, front_by, label-text, label_at, label_end}
use Rattle.proof_container_laws.proofs.GfmFootnoteDefinition.Prefix.{following_colon}
use Rattle.proof_frame.proofs.PrefixFacts.{begins}
use Rattle.md_events.specs.Events.Places.{same_place}

-- a footnote definition that is read, with this label
abbrev footnote_read : Reading → List ℕ → Reading
footnote_read r label = record r {
  outer = (record { shape = FootnoteShape label; before = r.here }) ∷ r.outer;
  here = End;
  text = None;
}

-- its label is the bytes that its chunk is over
pub label-recorded : (bytes label : List ℕ) (link : Option Link) (p q : Point) (es : List Event) →
    (is : IsFront bytes label link p q es) →
    slice_range bytes (label_at is.start).index (label_end label is.start).index ≡ label
label-recorded bytes label link p q es is =
    slice-front bytes (label_at is.start).index (label_end label is.start).index label _
    (label-text bytes label link p q es is) (past-index label (label_at is.start))

-- and so it is read
pub front-read : (bytes label : List ℕ) (link : Option Link) (p q : Point) (es : List Event) (r : Reading) →
    IsFront bytes label link p q es → r.text ≡ None →
    read bytes r (enter n.GfmFootnoteDefinition p ∷ es) ≡ begins (InFootnote label) r
front-read bytes label link p q es r is none =
    ap (λ (l : List Event). read bytes r (enter n.GfmFootnoteDefinition p ∷ l)) is.events
    ∙ go (same_place p is.start) (same_place (following_colon label is.start) q)
    ∙ ap (footnote_read r) (label-recorded bytes label link p q es is)
    ∙ sym (ap (λ (t : Option Text). record (begins (InFootnote label) r) { text = t }) none)
  where
    first : Point
    first = label_at is.start

    end : Point
    end = label_end label is.start

    go : (bare same : Bool) →
        read bytes r (enter n.GfmFootnoteDefinition p ∷ front_by link bare same label p is.start q) ≡
        footnote_read r (slice_range bytes first.index end.index)
    go true true = refl
    go true false = refl
    go false true = refl
    go false false = refl
