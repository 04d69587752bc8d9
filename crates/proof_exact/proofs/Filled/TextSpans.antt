-- The text parts of several lines, of paragraphs and of headings that are underlined: a chunk for each line, none of
-- which is blank.
use Rattle.std.proofs.Common.{◌≡◌, ℕ, suc, Bool, true, false, cond, ◌&&◌, ◌||◌, not, List, [], ◌∷◌, ◌++◌, length}
use Rattle.std.proofs.Common.{refl, sym, ap, ◌∙◌, subst, arith, slice_range}
use Rattle.std.specs.Prelude.{◌==◌, None, Some, Option}
use Rattle.std.proofs.lemmas.Bool.{and_from}
use Rattle.std.proofs.lemmas.Bool.Decides.{nat_tests}
use Rattle.md_engine.specs.declared.event.Content.TheVariants.{Text}
use Rattle.md_engine.specs.declared.event.Event.{Event}
use Rattle.md_engine.specs.declared.event.Kind.{Kind}
use Rattle.md_engine.specs.declared.event.Kind.TheVariants.{Enter, Exit}
use Rattle.md_engine.specs.declared.event.Link.{Link}
use Rattle.md_engine.specs.declared.event.Name.{Name}
use Rattle.md_engine.specs.declared.event.Point.{Point}
use Rattle.md_meaning.specs.Lines.{without_ending}
use Rattle.md_meaning.specs.Rest.{Rest, is_blank}
use Rattle.md_events.specs.declared.inline.Chunk.{Chunk}
use Rattle.md_events.specs.declared.inline.PartKind.TheVariants as kind
use Rattle.md_events.specs.Events.Inline.{Piece, is_none, piece_of, pieces, pieces_from}
use Rattle.md_events.specs.Events.PieceRules.{is_in_line}
use Rattle.md_events.specs.Events.Tiles.{chunks, part_kind}
use Rattle.md_events.specs.Exact.Leaves.{last_end, span, start}
use Rattle.md_events.specs.Exact.Places.{chunk, is_same, line_end, next_line, place}
use Rattle.md_events.specs.Exact.Rows.{Row}
use Rattle.md_events.specs.Exact.Texts as texts
use Rattle.md_events.specs.Exact.Texts.{text_span}
use Rattle.proof_exact_lines.proofs.TextLines.{at_end, last-end, last_of}
use Rattle.proof_frame.proofs.EachEvent.{Each, each-append}
use Rattle.proof_frame.proofs.PartFacts.{IsNoPart, NoParts}
use Rattle.md_inline_events.specs.TreeTexts.{are_filled}
use Rattle.proof_exact.proofs.Filled.Leaves.{AreLines, IsLine}
use Rattle.proof_exact.proofs.Filled.LineTexts.{end-index, next-index, rest-dark, rest-line}
use Rattle.proof_exact.proofs.Filled.Parts.{Filled, filled-none, filled-text}

-- Events that are no text parts, and of which nothing is read later.

abbrev pub IsBare : Event → Type 0
IsBare e = (part_kind e.name ≡ None) × (e.link ≡ None)

abbrev pub Bare : List Event → Type 0
Bare es = Each IsBare es

pub bare-none : (es : List Event) → Bare es → NoParts es
bare-none [] h = tt
bare-none (e ∷ es) h = (h.0.0, bare-none es h.1)

piece-bare : (e f : Event) (at to : Kind) (es : List Piece) → e.link ≡ None →
    chunks (piece_of e f at to ++ es) ≡ chunks es
piece-bare e f Enter Exit es h =
    ap
    (λ (x : Option Link).
    cond (elim x [ None ↦ false | Some link ↦ true ]) ((record { first = e.point; after = f.point }) ∷ chunks es)
    (chunks es)) h
piece-bare e f Enter Enter es h = refl
piece-bare e f Exit to es h = refl

event-bare : (e : Event) (es : List Event) → e.link ≡ None → chunks (pieces (e ∷ es)) ≡ chunks (pieces es)
event-bare e [] h = refl
event-bare e (f ∷ es) h = piece-bare e f e.kind f.kind (pieces_from f es) h

-- they have no chunks
chunks-bare : (es more : List Event) → Bare es → chunks (pieces (es ++ more)) ≡ chunks (pieces more)
chunks-bare [] more h = refl
chunks-bare (e ∷ es) more h = event-bare e (es ++ more) h.0.1 ∙ chunks-bare es more h.1

-- after a chunk
chunk-more : (p q : Point) (more : List Event) →
    chunks (pieces (chunk Text p q ++ more)) ≡ (record { first = p; after = q }) ∷ chunks (pieces more)
chunk-more p q [] = refl
chunk-more p q (e ∷ es) = refl

-- Lines of a text.

-- a line of it
pub record IsText (bytes : List ℕ) (row : Row) : Type 0 where
  pub line : IsLine bytes row
  pub dark : is_blank row.rest.bytes ≡ false

-- what is before the first of some lines
abbrev pub BareFirst : List Row → Type 0
BareFirst [] = Unit {0}
BareFirst (row ∷ rows) = Bare row.front

abbrev pub Texts : List ℕ → List Row → Type 0
Texts bytes [] = Unit {0}
Texts bytes (row ∷ rows) = (IsText bytes row × BareFirst rows) × Texts bytes rows

pub texts-lines : (bytes : List ℕ) (rows : List Row) → Texts bytes rows → AreLines bytes rows
texts-lines bytes [] h = tt
texts-lines bytes (row ∷ rows) h = (h.0.0.line, texts-lines bytes rows h.1)

-- a line that is not blank does not begin where it ends
dark-unlike : (r s : Rest) → is_blank r.bytes ≡ false → s.bytes ≡ [] → is_same r s ≡ false
dark-unlike r s h e =
    ap (λ (l : List ℕ). (length r.bytes == length l) && (r.spaces == s.spaces)) e ∙ go r.bytes h
  where
    some : (n : ℕ) → (suc n == 0) ≡ false
    some n = grind (arith, nat_tests)

    go : (bytes : List ℕ) → is_blank bytes ≡ false → ((length bytes == 0) && (r.spaces == s.spaces)) ≡ false
    go [] f = absurd (cc)
    go (b ∷ bytes) f = ap (λ (x : Bool). x && (r.spaces == s.spaces)) (some (length bytes))

-- Their chunks.
record AreChunks (bytes : List ℕ) (es : List Event) : Type 0 where
  none : NoParts es
  filled : are_filled bytes (chunks (pieces es)) ≡ true
  some : is_none (chunks (pieces es)) ≡ false

last-chunks : (bytes : List ℕ) (row : Row) → IsText bytes row →
    AreChunks bytes (texts.chunks Text (row ∷ []) (at_end row ∷ []))
last-chunks bytes row is =
    subst
    (λ (x : Bool). AreChunks bytes (cond x [] (chunk Text (start (row ∷ [])) (start (at_end row ∷ [])))))
    (sym (dark-unlike row.rest (line_end row.line) is.dark refl))
    (record {
      none = (refl, (refl, tt));
      filled =
          and_from (not blank && is_in_line text) true
          (and_from (not blank) (is_in_line text)
          (ap not
          (rest-dark bytes row.line row.rest (place row.line (line_end row.line)) is.line.rest is.dark
          (omega (arith, end-index row.line))))
          (rest-line bytes row.line row.rest is.line.rest))
          refl;
      some = refl;
    })
  where
    text : List ℕ
    text = slice_range bytes (place row.line row.rest).index (place row.line (line_end row.line)).index

    blank : Bool
    blank = is_blank (without_ending text)

none-append : (es fs : List Event) → NoParts es → NoParts fs → NoParts (es ++ fs)
none-append es fs h k = each-append IsNoPart es fs h k

more-chunks : (bytes : List ℕ) (row : Row) (front es : List Event) → IsText bytes row → Bare front →
    AreChunks bytes es →
    AreChunks bytes (chunk Text (place row.line row.rest) (next_line row.line) ++ front ++ es)
more-chunks bytes row front es is bare are = record {
  none =
      none-append (chunk Text p q ++ front) es
      (none-append (chunk Text p q) front (refl, (refl, tt)) (bare-none front bare)) are.none;
  filled =
      ap (are_filled bytes) same
      ∙ and_from (not blank && (not (is_none (chunks (pieces es))) || is_in_line text))
      (are_filled bytes (chunks (pieces es)))
      (and_from (not blank) (not (is_none (chunks (pieces es))) || is_in_line text)
      (ap not
      (rest-dark bytes row.line row.rest (next_line row.line) is.line.rest is.dark (next-index row.line)))
      (ap (λ (x : Bool). not x || is_in_line text) are.some))
      are.filled;
  some = ap is_none same;
}
  where
    p : Point
    p = place row.line row.rest

    q : Point
    q = next_line row.line

    text : List ℕ
    text = slice_range bytes (place row.line row.rest).index (next_line row.line).index

    blank : Bool
    blank = is_blank (without_ending text)

    same : chunks (pieces (chunk Text p q ++ front ++ es)) ≡ (record { first = p; after = q }) ∷ chunks (pieces es)
    same =
        chunk-more p q (front ++ es)
        ∙ ap (λ (cs : List Chunk). (record { first = p; after = q }) ∷ cs) (chunks-bare front es bare)

chunks-are : (bytes : List ℕ) (row : Row) (rows : List Row) → Texts bytes (row ∷ rows) →
    AreChunks bytes (texts.chunks Text (row ∷ rows) (at_end (last_of row rows) ∷ []))
chunks-are bytes row [] are = last-chunks bytes row are.0.0
chunks-are bytes row (next ∷ rows) are =
    subst
    (λ (x : Bool).
    AreChunks bytes
    (cond x (cond (is_same row.rest (line_end end.line)) [] (chunk Text (start (row ∷ next ∷ rows)) (start (end ∷ []))))
    (chunk Text (start (row ∷ next ∷ rows)) (next_line row.line) ++ next.front
    ++ texts.chunks Text (next ∷ rows) (end ∷ []))))
    (sym (some (length rows)))
    (more-chunks bytes row next.front (texts.chunks Text (next ∷ rows) (end ∷ [])) are.0.0 are.0.1
    (chunks-are bytes next rows are.1))
  where
    end : Row
    end = at_end (last_of next rows)

    some : (n : ℕ) → (suc n == 0) ≡ false
    some n = grind (arith, nat_tests)

-- A text part of lines of a text.

abbrev spanned : Name → List Row → List Row → List Event → List Event
spanned name rows ends [] = []
spanned name rows ends (e ∷ es) = span name rows ends (e ∷ es)

spanned-filled : {bytes : List ℕ} (name : Name) (rows ends : List Row) (es : List Event) →
    part_kind name ≡ Some kind.Text → AreChunks bytes es → Filled bytes (spanned name rows ends es)
spanned-filled name rows ends [] named are = filled-none
spanned-filled name rows ends (e ∷ es) named are =
    filled-text name (start rows) (start ends) (e ∷ es) named are.none are.filled

pub lines-filled : (bytes : List ℕ) (name : Name) (row : Row) (rows : List Row) → part_kind name ≡ Some kind.Text →
    Texts bytes (row ∷ rows) → Filled bytes (text_span Text name (row ∷ rows) (last_end (row ∷ rows)))
lines-filled bytes name row rows named are =
    subst (λ (ends : List Row). Filled bytes (text_span Text name (row ∷ rows) ends)) (sym (last-end row rows))
    (spanned-filled name (row ∷ rows) (at_end (last_of row rows) ∷ [])
    (texts.chunks Text (row ∷ rows) (at_end (last_of row rows) ∷ [])) named (chunks-are bytes row rows are))
