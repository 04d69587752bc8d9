-- What is before the content of a footnote definition where it opens: after its begin a prefix with its label, be that
-- read or not.
use Rattle.std.proofs.Common.{◌≡◌, ℕ, ◌+◌, ◌<◌, Bool, cond, List, [], ◌∷◌, ◌++◌, drop, length, get_or, ap, sym, subst}
use Rattle.std.proofs.Common.{◌∙◌, arith}
use Rattle.std.specs.Prelude.{Option, slice_index}
use Rattle.std.proofs.lemmas.List.{get_or-drop}
use Rattle.md_engine.specs.declared.event.Event.{Event}
use Rattle.md_engine.specs.declared.event.Kind.TheVariants.{Enter}
use Rattle.md_engine.specs.declared.event.Link.{Link}
use Rattle.md_engine.specs.declared.event.Name.TheVariants as n
use Rattle.md_engine.specs.declared.event.Point.{Point}
use Rattle.md_meaning.specs.Ascii.{caret, colon, left_bracket, right_bracket}
use Rattle.md_meaning.proofs.TextsLemmas.{NoEnding}
use Rattle.md_events.specs.Events.Nested.{around, enter, exit, pair}
use Rattle.md_events.specs.Events.Places.{past_byte, past_text, same_place}
use Rattle.md_events.proofs.FeedLines.{drop-past}
use Rattle.md_events.proofs.InlineLemmas.{past-index}
use Rattle.md_events.proofs.LostColumns.{White}

-- The points of a prefix that begins at a point: at `^`, at the label, after it at `]`, at `:`, and after that.

abbrev pub mark_at : Point → Point
mark_at start = past_byte left_bracket start

abbrev pub label_at : Point → Point
label_at start = past_byte caret (mark_at start)

abbrev pub label_end : List ℕ → Point → Point
label_end label start = past_text label (label_at start)

abbrev pub colon_at : List ℕ → Point → Point
colon_at label start = past_byte right_bracket (label_end label start)

abbrev pub following_colon : List ℕ → Point → Point
following_colon label start = past_byte colon (colon_at label start)

-- The events: the label, linked where it is read later,

abbrev pub data_at : Option Link → Point → Point → List Event
data_at link p q = record { kind = Enter; name = n.Data; point = p; link = link } ∷ exit n.Data q ∷ []

abbrev pub label_part : Option Link → Point → Point → List Event
label_part link p q = around n.GfmFootnoteDefinitionLabelString p q (data_at link p q)

-- what is between the brackets and with them,
abbrev pub label_inside : Option Link → List ℕ → Point → List Event
label_inside link label start =
    pair n.GfmFootnoteDefinitionLabelMarker start (mark_at start)
    ++ (pair n.GfmFootnoteDefinitionMarker (mark_at start) (label_at start)
    ++ (label_part link (label_at start) (label_end label start)
    ++ pair n.GfmFootnoteDefinitionLabelMarker (label_end label start) (colon_at label start)))

-- and the prefix; by whether there is no whitespace after `:`, and none in front.
abbrev pub prefix_inside : Option Link → (same : Bool) → List ℕ → (start q : Point) → List Event
prefix_inside link same label start q =
    around n.GfmFootnoteDefinitionLabel start (colon_at label start) (label_inside link label start)
    ++ (pair n.DefinitionMarker (colon_at label start) (following_colon label start)
    ++ cond same [] (pair n.SpaceOrTab (following_colon label start) q))

abbrev pub front_by : Option Link → (bare same : Bool) → List ℕ → (p start q : Point) → List Event
front_by link bare same label p start q =
    cond bare [] (pair n.SpaceOrTab p start)
    ++ around n.GfmFootnoteDefinitionPrefix start q (prefix_inside link same label start q)

-- What is before the label, from `[` on, and with the whitespace there if there is any,

abbrev pub opening : Point → List Event
opening start =
    enter n.GfmFootnoteDefinitionPrefix start ∷ enter n.GfmFootnoteDefinitionLabel start
    ∷ enter n.GfmFootnoteDefinitionLabelMarker start ∷ exit n.GfmFootnoteDefinitionLabelMarker (mark_at start)
    ∷ enter n.GfmFootnoteDefinitionMarker (mark_at start) ∷ exit n.GfmFootnoteDefinitionMarker (label_at start) ∷ []

abbrev pub before_label : (bare : Bool) → (p start : Point) → List Event
before_label bare p start = cond bare [] (pair n.SpaceOrTab p start) ++ opening start

-- and after it, up to `:`, and up to the end.

abbrev pub closing : (end close following : Point) → List Event
closing end close following =
    enter n.GfmFootnoteDefinitionLabelMarker end ∷ exit n.GfmFootnoteDefinitionLabelMarker close
    ∷ exit n.GfmFootnoteDefinitionLabel close ∷ enter n.DefinitionMarker close ∷ exit n.DefinitionMarker following ∷ []

abbrev pub after_label : (same : Bool) → (end close following q : Point) → List Event
after_label same end close following q =
    closing end close following
    ++ (cond same [] (pair n.SpaceOrTab following q) ++ exit n.GfmFootnoteDefinitionPrefix q ∷ [])

-- they are those of a footnote definition with this label
pub record IsFront (bytes label : List ℕ) (link : Option Link) (p q : Point) (es : List Event) : Type 0 where
  -- where `[` is, and the bytes there, of which the first begins in no tab
  pub start : Point
  pub more : List ℕ
  pub text_is : drop start.index bytes ≡ left_bracket ∷ caret ∷ label ++ right_bracket ∷ colon ∷ more
  pub whole : start.vs ≡ 0
  -- the label is not empty, and of one line
  pub some : 0 < length label
  pub one_line : NoEnding label
  pub events : es ≡ front_by link (same_place p start) (same_place (following_colon label start) q) label p start q
  -- what is whitespace
  pub white_before : White bytes p start
  pub white_after : White bytes (following_colon label start) q

-- what holds of such events whichever whitespace is left out holds of them
pub front-each : (P : List Event → Type 0) (bytes label : List ℕ) (link : Option Link) (p q : Point)
    (es : List Event) → (is : IsFront bytes label link p q es) →
    ((bare same : Bool) → P (front_by link bare same label p is.start q)) → P es
front-each P bytes label link p q es is h =
    subst P (sym is.events) (h (same_place p is.start) (same_place (following_colon label is.start) q))

-- The bytes at its points.

-- the first of these
pub byte-there : (bytes rest : List ℕ) (b i : ℕ) → drop i bytes ≡ b ∷ rest → slice_index bytes i ≡ b
byte-there bytes rest b i e =
    let same : i + 0 ≡ i = omega arith in
    ap (λ (j : ℕ). get_or bytes j 0) (sym same) ∙ sym (get_or-drop i bytes 0 0)
    ∙ ap (λ (l : List ℕ). get_or l 0 0) e

pub mark-text : (bytes label : List ℕ) (link : Option Link) (p q : Point) (es : List Event) →
    (is : IsFront bytes label link p q es) →
    drop (mark_at is.start).index bytes ≡ caret ∷ label ++ right_bracket ∷ colon ∷ is.more
mark-text bytes label link p q es is = drop-past bytes is.start.index (left_bracket ∷ []) _ is.text_is

pub label-text : (bytes label : List ℕ) (link : Option Link) (p q : Point) (es : List Event) →
    (is : IsFront bytes label link p q es) →
    drop (label_at is.start).index bytes ≡ label ++ right_bracket ∷ colon ∷ is.more
label-text bytes label link p q es is =
    drop-past bytes (mark_at is.start).index (caret ∷ []) _ (mark-text bytes label link p q es is)

pub end-text : (bytes label : List ℕ) (link : Option Link) (p q : Point) (es : List Event) →
    (is : IsFront bytes label link p q es) →
    drop (label_end label is.start).index bytes ≡ right_bracket ∷ colon ∷ is.more
end-text bytes label link p q es is =
    ap (λ (i : ℕ). drop i bytes) (past-index label (label_at is.start))
    ∙ drop-past bytes (label_at is.start).index label _ (label-text bytes label link p q es is)

pub colon-text : (bytes label : List ℕ) (link : Option Link) (p q : Point) (es : List Event) →
    (is : IsFront bytes label link p q es) → drop (colon_at label is.start).index bytes ≡ colon ∷ is.more
colon-text bytes label link p q es is =
    drop-past bytes (label_end label is.start).index (right_bracket ∷ []) _ (end-text bytes label link p q es is)
