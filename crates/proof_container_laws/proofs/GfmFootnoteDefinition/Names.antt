-- What is before the content of a footnote definition, part by part.
use Rattle.std.proofs.Common.{◌≡◌, ◌≢◌, ℕ, Bool, true, false, List, [], ◌∷◌, refl, ap, drop, sym, ◌∙◌, subst}
use Rattle.std.proofs.Common.{arith, not, ◌||◌}
use Rattle.std.specs.Prelude.{IsTrue, Option, slice_index}
use Rattle.md_engine.specs.declared.event.Event.{Event}
use Rattle.md_engine.specs.declared.event.Kind.TheVariants.{Enter}
use Rattle.md_engine.specs.declared.event.Link.{Link}
use Rattle.md_engine.specs.declared.event.Name.{Name}
use Rattle.md_engine.specs.declared.event.Name.TheVariants as n
use Rattle.md_engine.specs.declared.event.Point.{Point}
use Rattle.md_meaning.specs.Ascii.{caret, colon, left_bracket, right_bracket}
use Rattle.md_events.specs.Events.Nested.{exit, pair}
use Rattle.md_events.specs.Events.Places.{at_or_before, same_place, past_byte}
use Rattle.md_events.proofs.FeedLines.{past_text-whole}
use Rattle.md_events.proofs.InlineLemmas.{before-text}
use Rattle.md_events.proofs.NestedLemmas.{at_or_before-refl}
use Rattle.md_outline.specs.Between.{is_between}
use Rattle.proof_frame.proofs.BetweenFacts.{AreBetween, around-between, between-before, between-more, is_low}
use Rattle.proof_container_laws.proofs.GfmFootnoteDefinition.Prefix.{IsFront, following_colon, byte-there, colon-text}
use Rattle.proof_container_laws.proofs.GfmFootnoteDefinition.Prefix.{colon_at, data_at, end-text, front-each, front_by}
use Rattle.proof_container_laws.proofs.GfmFootnoteDefinition.Prefix.{label_at, label_end, label_inside, label_part}
use Rattle.proof_container_laws.proofs.GfmFootnoteDefinition.Prefix.{mark-text, mark_at, prefix_inside}
use Rattle.proof_frame.proofs.LineTexts.{past_text-line}
use Rattle.proof_container_laws.proofs.FrontParts.{FrontPart, IsFrontName, low-past, part-append, part-around}
use Rattle.proof_container_laws.proofs.FrontParts.{part-pair, part-white}
use Rattle.proof_container_laws.proofs.GfmFootnoteDefinition.Pieces.{LabelCovers, label-is_valid}
use Rattle.proof_frame.proofs.PieceFacts.{begins-whole, over-front, over-valid}
use Rattle.proof_frame.proofs.PiecesLemmas.{tiled-around, tiled-two}
use Rattle.md_outline.specs.Roles.{is_recorded}
use Rattle.md_events.specs.Events.Pieces.{may_cover}
use Rattle.md_events.specs.Events.Spelled.{role}
use Rattle.proof_frame.proofs.PartedFacts.{PrefixesAtLineStart, clear}
use Rattle.proof_frame.proofs.PlainFacts.{plain-around, plain-quiet}
use Rattle.proof_frame.proofs.PrefixNames.{is_alone}
use Rattle.proof_frame.proofs.SpanLemmas.{Nested_in, around-nested}

-- Nesting.

-- a begin with its end, whatever it is linked by
two-nested : (link : Option Link) (p q : Point) → IsTrue (at_or_before p q) → Nested_in p q (data_at link p q)
two-nested link p q h =
    (record { matches = (tt, (refl, tt)); closed = refl }, ((at_or_before-refl p, (h, tt)), at_or_before-refl q))

-- all on one line
pub front-line : (bytes label : List ℕ) (link : Option Link) (p q : Point) (es : List Event) →
    IsFront bytes label link p q es → q.line ≡ p.line
front-line bytes label link p q es is =
    is.white_after.line ∙ past_text-line label (label_at is.start) ∙ is.white_before.line

-- there are some
pub front-some : (bytes label : List ℕ) (link : Option Link) (p q : Point) (es : List Event) →
    IsFront bytes label link p q es → es ≢ []
front-some bytes label link p q es is =
    front-each (λ (xs : List Event). xs ≢ []) bytes label link p q es is go
  where
    go : (bare same : Bool) → front_by link bare same label p is.start q ≢ []
    go true same = λ e. cc
    go false same = λ e. cc

-- All of it.

-- a marker of one byte of ASCII
byte-part : (bytes rest : List ℕ) (name : Name) (b : ℕ) (p : Point) → IsFrontName name →
    PrefixesAtLineStart bytes (pair name p (past_byte b p)) → is_recorded (role name) ≡ false →
    may_cover name (b ∷ []) ≡ true →
    is_low b ≡ true → drop p.index bytes ≡ b ∷ rest → p.vs ≡ 0 →
    FrontPart bytes p (past_byte b p) (pair name p (past_byte b p))
byte-part bytes rest name b p is sits untold over low e whole =
    let q : Point = past_byte b p in
    let here : is_low (slice_index bytes p.index) ≡ true = ap is_low (byte-there bytes rest b p.index e) ∙ low in
    part-pair name p q is sits (ap (λ x. not x || clear bytes p) untold) (ap (λ x. not x || clear bytes q) untold)
    (before-text (b ∷ []) p)
    (over-valid bytes name p q (b ∷ []) (over-front bytes p q (b ∷ []) rest e (omega arith) refl)
    (begins-whole name p whole) over) (λ from. low-past bytes p q here (omega arith))

-- the label
string-part : (bytes label : List ℕ) (link : Option Link) (start : Point) → LabelCovers bytes link label start →
    is_alone link ≡ true → is_between bytes (label_end label start).index ≡ true →
    FrontPart bytes (label_at start) (label_end label start) (label_part link (label_at start) (label_end label start))
string-part bytes label link start valid alone at =
    let p : Point = label_at start in
    let q : Point = label_end label start in
    let whole : q.vs ≡ 0 = past_text-whole label p refl in
    let begin : Event = record { kind = Enter; name = n.Data; point = p; link = link } in
    let inside : List Event = data_at link p q in
    record {
      nested =
          around-nested n.GfmFootnoteDefinitionLabelString p q inside (two-nested link p q (before-text label p));
      tiled =
          tiled-around n.GfmFootnoteDefinitionLabelString p q inside (tiled-two begin (exit n.Data q) refl refl);
      is_valid = label-is_valid bytes label link start valid;
      others = refl;
      between = λ from.
          let recorded : AreBetween bytes inside =
          between-more bytes begin (exit n.Data q ∷ []) from (between-more bytes (exit n.Data q) [] at refl) in
          (around-between bytes n.GfmFootnoteDefinitionLabelString p q inside from at recorded, at);
      names = ((refl, refl), ((refl, alone), ((refl, refl), ((refl, refl), tt))));
      plain =
          plain-around bytes n.GfmFootnoteDefinitionLabelString p q inside refl refl (rw whole refl)
          (plain-quiet bytes inside (tt, (tt, tt)));
      sits = λ ys h. h;
      unlisted = (refl, (refl, (refl, (refl, tt))));
    }

pub front-part : (bytes label : List ℕ) (link : Option Link) (p q : Point) (es : List Event) →
    (is : IsFront bytes label link p q es) → LabelCovers bytes link label is.start → is_alone link ≡ true →
    FrontPart bytes p q es
front-part bytes label link p q es is valid alone =
    let start : Point = is.start in
    let mark : Point = mark_at start in
    let end : Point = label_end label start in
    let close : Point = colon_at label start in
    let following : Point = following_colon label start in
    let bracket = end-text bytes label link p q es is in
    let at : is_between bytes end.index ≡ true =
    between-before bytes end.index (ap is_low (byte-there bytes _ right_bracket end.index bracket)) in
    subst (FrontPart bytes p q) (sym is.events)
    (part-append (part-white p start is.white_before.onward is.white_before.blank)
    (part-around n.GfmFootnoteDefinitionPrefix start q (prefix_inside link (same_place following q) label start q)
    (refl, refl, refl, refl) tt refl refl
    (part-append
    (part-around n.GfmFootnoteDefinitionLabel start close (label_inside link label start)
    (refl, refl, refl, refl) tt refl
    refl
    (part-append
    (byte-part bytes _ n.GfmFootnoteDefinitionLabelMarker left_bracket start (refl, refl, refl, refl) (λ ys h. h) refl
    refl refl is.text_is is.whole)
    (part-append
    (byte-part bytes _ n.GfmFootnoteDefinitionMarker caret mark (refl, refl, refl, refl) (λ ys h. h) refl refl refl
    (mark-text bytes label link p q es is) refl)
    (part-append (string-part bytes label link start valid alone at)
    (byte-part bytes _ n.GfmFootnoteDefinitionLabelMarker right_bracket end (refl, refl, refl, refl) (λ ys h. h) refl
    refl refl bracket (past_text-whole label (label_at start) refl))))))
    (part-append
    (byte-part bytes _ n.DefinitionMarker colon close (refl, refl, refl, refl) (λ ys h. h) refl refl refl
    (colon-text bytes label link p q es is) refl)
    (part-white following q is.white_after.onward is.white_after.blank)))))
