-- The rules by which spans in preorder are those of a forest, and the spans of atoms by them.
use Rattle.std.proofs.Common.{◌≡◌, ℕ, zero, suc, ◌+◌, ◌-◌, Bool, true, false, cond, ◌&&◌, List, [], ◌∷◌, ◌++◌}
use Rattle.std.proofs.Common.{refl, ap, sym, ◌∙◌, subst, arith}
use Rattle.std.specs.Prelude.{◌==◌}
use Rattle.std.proofs.lemmas.Bool.Decides.{nat_tests}
use Rattle.std.proofs.lemmas.List.{append-nil}
use Rattle.md_engine.specs.declared.event.Name.{Name}
use Rattle.md_engine.specs.declared.event.Name.TheVariants as n
use Rattle.md_inline_events.specs.Forest.{Forest, nothing, over, part, piece, size}
use Rattle.md_inlines.specs.declared.LiteralKind.{LiteralKind}
use Rattle.md_inlines.specs.declared.LiteralKind.TheVariants as literal
use Rattle.md_inlines.specs.declared.Raw.{Raw}
use Rattle.md_inlines.specs.declared.Reference.{Reference}
use Rattle.md_inlines.specs.Atoms.{angled, byte, is_data, joined, literal_name, markers, merged, raw, reference}
use Rattle.proof_inlines.proofs.SizeLemmas.{over-size, part-size, piece-size}
use Rattle.markdown_inlines.specs.declared.atom.Atom.{Atom}
use Rattle.markdown_inlines.specs.declared.atom.Atom.TheVariants as a
use Rattle.markdown_inlines.specs.declared.span.Span.{Span}
use Rattle.markdown_inlines.specs.Filled.{Shows}
use Rattle.markdown_inlines.specs.Found.{angled_spans, atom_forest, atom_size, atom_spans, raw_spans}
use Rattle.markdown_inlines.specs.Found.{reference_spans}
use Rattle.markdown_inlines.specs.Spans.{live, shown, span_of, spans_forest, unless_data}
use Rattle.markdown_inlines.proofs.SpanLemmas.{both, live-append, shown-at, spans-at, spans-over}

-- Spans are those of a forest that begins at a byte.
pub record Fits (at : ℕ) (forest : Forest) (spans : List Span) : Type 0 where
  pub is : live spans ≡ spans_forest at forest

pub fits : (at : ℕ) (forest : Forest) (spans : List Span) → live spans ≡ spans_forest at forest → Fits at forest spans
fits at forest spans h = record { is = h }

pub no-spans : (at : ℕ) → Fits at nothing []
no-spans at = record { is = refl }

-- A part: its span, the spans of what is in it, and those of what follows.
pub live-part : (at end : ℕ) (name : Name) (inside following : Forest) (xs ys : List Span) →
    end ≡ at + size inside → Fits at inside xs → Fits end following ys →
    Fits at (part name inside following) (span_of name at end ∷ (xs ++ ys))
live-part at end name inside following xs ys h i f = record {
  is = ap (λ (l : List Span). shown (span_of name at end) ++ l)
      (live-append xs ys
      ∙ both (live xs) (live ys) (spans_forest at inside) (spans_forest (at + size inside) following) i.is
      (f.is ∙ spans-at following end (at + size inside) h))
      ∙ ap (λ (l : List Span). l ++ (spans_forest at inside ++ spans_forest (at + size inside) following))
      (shown-at name at end at (at + size inside) refl h);
}

-- a part that nothing follows
pub live-last : (at end : ℕ) (name : Name) (inside : Forest) (xs : List Span) → end ≡ at + size inside →
    Fits at inside xs → Fits at (part name inside nothing) (span_of name at end ∷ xs)
live-last at end name inside xs h i = record {
  is = ap (λ (l : List Span). live (span_of name at end ∷ l)) (sym (append-nil xs))
      ∙ (live-part at end name inside nothing xs [] h i (no-spans end)).is;
}

-- A piece, which may be over no byte, and what follows.
pub live-over : (at end : ℕ) (name : Name) (count : ℕ) (following : Forest) (ys : List Span) →
    is_data name ≡ false → end ≡ at + count → Fits end following ys →
    Fits at (over name count following) (span_of name at end ∷ ys)
live-over at end name count following ys marked h f = record {
  is = both (shown (span_of name at end)) (live ys) (shown (span_of name at (at + count)))
      (spans_forest (at + count) following) (shown-at name at end at (at + count) refl h)
      (f.is ∙ spans-at following end (at + count) h)
      ∙ sym
      (spans-over at name count following
      ∙ ap
      (λ (x : Bool). unless_data x (shown (span_of name at (at + count))) ++ spans_forest (at + count) following)
      marked);
}

-- Text, which has no span, and what follows.
pub live-text : (at end count : ℕ) (following : Forest) (ys : List Span) → end ≡ at + count →
    Fits end following ys → Fits at (over n.Data count following) ys
live-text at end count following ys h f = record {
  is = f.is ∙ spans-at following end (at + count) h ∙ sym (spans-over at n.Data count following);
}

-- Atoms.

escape-live : (at : ℕ) → Fits at (atom_forest a.Escape) (atom_spans at a.Escape)
escape-live at =
    live-last at (at + 2) n.CharacterEscape (byte n.CharacterEscapeMarker (byte n.CharacterEscapeValue nothing))
    (span_of n.CharacterEscapeMarker at (at + 1) ∷ span_of n.CharacterEscapeValue (at + 1) (at + 2) ∷ []) refl
    (live-over at (at + 1) n.CharacterEscapeMarker 1 (byte n.CharacterEscapeValue nothing)
    (span_of n.CharacterEscapeValue (at + 1) (at + 2) ∷ []) refl refl
    (live-over (at + 1) (at + 2) n.CharacterEscapeValue 1 nothing [] refl (omega arith) (no-spans (at + 2))))

-- the markers of a reference, each of which may be over no byte
markers-are : (count : ℕ) (following : Forest) →
    markers count following ≡
    over n.CharacterReferenceMarkerNumeric (cond (count == 0) 0 1)
    (over n.CharacterReferenceMarkerHexadecimal (count - 1) following)
markers-are zero following = refl
markers-are (suc zero) following = refl
markers-are (suc (suc more)) following =
    let some : (suc (suc more) == 0) ≡ false = grind (arith, nat_tests) in
    let less : suc (suc more) - 1 ≡ suc more = omega arith in
    sym
    (ap
    (λ (t : Bool). over n.CharacterReferenceMarkerNumeric (cond t 0 1)
    (over n.CharacterReferenceMarkerHexadecimal (suc (suc more) - 1) following)) some
    ∙ ap
    (λ (k : ℕ). over n.CharacterReferenceMarkerNumeric 1 (over n.CharacterReferenceMarkerHexadecimal k following))
    less)

abbrev reference_with : Reference → Forest
reference_with r =
    part n.CharacterReference
    (byte n.CharacterReferenceMarker
    (over n.CharacterReferenceMarkerNumeric (cond (r.markers == 0) 0 1)
    (over n.CharacterReferenceMarkerHexadecimal (r.markers - 1)
    (over n.CharacterReferenceValue r.value (byte n.CharacterReferenceMarkerSemi nothing)))))
    nothing

reference-is : (r : Reference) → reference r ≡ reference_with r
reference-is r =
    ap (λ (f : Forest). part n.CharacterReference (byte n.CharacterReferenceMarker f) nothing)
    (markers-are r.markers (over n.CharacterReferenceValue r.value (byte n.CharacterReferenceMarkerSemi nothing)))

-- what is in it, by how many bytes each piece has
abbrev reference_inside : ℕ → ℕ → ℕ → Forest
reference_inside numeric hexadecimal value =
    byte n.CharacterReferenceMarker
    (over n.CharacterReferenceMarkerNumeric numeric
    (over n.CharacterReferenceMarkerHexadecimal hexadecimal
    (over n.CharacterReferenceValue value (byte n.CharacterReferenceMarkerSemi nothing))))

inside-size : (numeric hexadecimal value : ℕ) →
    size (reference_inside numeric hexadecimal value) ≡ 1 + numeric + hexadecimal + value + 1
inside-size numeric hexadecimal value =
    let last : Forest = byte n.CharacterReferenceMarkerSemi nothing in
    let third : Forest = over n.CharacterReferenceValue value last in
    let second : Forest = over n.CharacterReferenceMarkerHexadecimal hexadecimal third in
    omega (
      arith,
      piece-size n.CharacterReferenceMarker 0 (over n.CharacterReferenceMarkerNumeric numeric second),
      over-size n.CharacterReferenceMarkerNumeric numeric second,
      over-size n.CharacterReferenceMarkerHexadecimal hexadecimal third,
      over-size n.CharacterReferenceValue value last,
      piece-size n.CharacterReferenceMarkerSemi 0 nothing,
    )

reference-live : (at numeric hexadecimal value : ℕ) →
    Fits at (part n.CharacterReference (reference_inside numeric hexadecimal value) nothing)
    (span_of n.CharacterReference at (at + 1 + numeric + hexadecimal + value + 1)
    ∷ span_of n.CharacterReferenceMarker at (at + 1)
    ∷ span_of n.CharacterReferenceMarkerNumeric (at + 1) (at + 1 + numeric)
    ∷ span_of n.CharacterReferenceMarkerHexadecimal (at + 1 + numeric) (at + 1 + numeric + hexadecimal)
    ∷ span_of n.CharacterReferenceValue (at + 1 + numeric + hexadecimal) (at + 1 + numeric + hexadecimal + value)
    ∷ span_of n.CharacterReferenceMarkerSemi (at + 1 + numeric + hexadecimal + value)
    (at + 1 + numeric + hexadecimal + value + 1)
    ∷ [])
reference-live at numeric hexadecimal value =
    live-last at (at + 1 + numeric + hexadecimal + value + 1) n.CharacterReference
    (reference_inside numeric hexadecimal value) _ (omega (arith, inside-size numeric hexadecimal value))
    (live-over at (at + 1) n.CharacterReferenceMarker 1 _ _ refl refl
    (live-over (at + 1) (at + 1 + numeric) n.CharacterReferenceMarkerNumeric numeric _ _ refl refl
    (live-over (at + 1 + numeric) (at + 1 + numeric + hexadecimal) n.CharacterReferenceMarkerHexadecimal hexadecimal _ _
    refl refl
    (live-over (at + 1 + numeric + hexadecimal) (at + 1 + numeric + hexadecimal + value) n.CharacterReferenceValue value
    _ _ refl refl
    (live-over (at + 1 + numeric + hexadecimal + value) (at + 1 + numeric + hexadecimal + value + 1)
    n.CharacterReferenceMarkerSemi 1 nothing [] refl refl (no-spans (at + 1 + numeric + hexadecimal + value + 1)))))))

raw-inside-size : (sequence inner : Name) (count inside : ℕ) →
    size (over sequence count (over inner inside (over sequence count nothing))) ≡ count + inside + count
raw-inside-size sequence inner count inside =
    omega (
      arith,
      over-size sequence count (over inner inside (over sequence count nothing)),
      over-size inner inside (over sequence count nothing),
      over-size sequence count nothing,
    )

raw-live : (whole sequence inner : Name) (at : ℕ) (r : Raw) → is_data sequence ≡ false → is_data inner ≡ false →
    Fits at (raw whole sequence inner r) (raw_spans whole sequence inner at r)
raw-live whole sequence inner at r s i =
    live-last at (at + r.size + r.inside + r.size) whole held _
    (omega (arith, raw-inside-size sequence inner r.size r.inside))
    (live-over at (at + r.size) sequence r.size _ _ s refl
    (live-over (at + r.size) (at + r.size + r.inside) inner r.inside _ _ i refl
    (live-over (at + r.size + r.inside) (at + r.size + r.inside + r.size) sequence r.size nothing [] s refl
    (no-spans (at + r.size + r.inside + r.size)))))
  where
    held : Forest
    held = over sequence r.size (over inner r.inside (over sequence r.size nothing))

angled-inside-size : (name : Name) (len : ℕ) →
    size (byte n.AutolinkMarker (over name len (byte n.AutolinkMarker nothing))) ≡ 1 + len + 1
angled-inside-size name len =
    omega (
      arith,
      piece-size n.AutolinkMarker 0 (over name len (byte n.AutolinkMarker nothing)),
      over-size name len (byte n.AutolinkMarker nothing),
      piece-size n.AutolinkMarker 0 nothing,
    )

angled-live : (name : Name) (at len : ℕ) → is_data name ≡ false →
    Fits at (angled name len) (angled_spans name at len)
angled-live name at len marked =
    live-last at (at + 1 + len + 1) n.Autolink
    (byte n.AutolinkMarker (over name len (byte n.AutolinkMarker nothing))) _
    (omega (arith, angled-inside-size name len))
    (live-over at (at + 1) n.AutolinkMarker 1 _ _ refl refl
    (live-over (at + 1) (at + 1 + len) name len _ _ marked refl
    (live-over (at + 1 + len) (at + 1 + len + 1) n.AutolinkMarker 1 nothing [] refl refl
    (no-spans (at + 1 + len + 1)))))

named-literal : (kind : LiteralKind) → is_data (literal_name kind) ≡ false
named-literal literal.Www = refl
named-literal literal.Protocol = refl
named-literal literal.Email = refl
named-literal literal.Mailto = refl
named-literal literal.Xmpp = refl

-- the spans of an atom are those of its forest
atom-fits : (at : ℕ) (atom : Atom) → Fits at (atom_forest atom) (atom_spans at atom)
atom-fits at a.Escape = escape-live at
atom-fits at a.BreakEscape = live-over at (at + 1) n.HardBreakEscape 1 nothing [] refl refl (no-spans (at + 1))
atom-fits at (a.Reference r) =
    subst (λ (f : Forest). Fits at f (reference_spans at r)) (sym (reference-is r))
    (reference-live at (cond (r.markers == 0) 0 1) (r.markers - 1) r.value)
atom-fits at (a.Code r) = raw-live n.CodeText n.CodeTextSequence n.CodeTextData at r refl refl
atom-fits at (a.Math r) = raw-live n.MathText n.MathTextSequence n.MathTextData at r refl refl
atom-fits at (a.Text len) = live-text at (at + len) len nothing [] refl (no-spans (at + len))
atom-fits at (a.Uri len) = angled-live n.AutolinkProtocol at len refl
atom-fits at (a.Email len) = angled-live n.AutolinkEmail at len refl
atom-fits at (a.Html len) =
    live-last at (at + len) n.HtmlText (over n.HtmlTextData len nothing)
    (span_of n.HtmlTextData at (at + len) ∷ []) (omega (arith, over-size n.HtmlTextData len nothing))
    (live-over at (at + len) n.HtmlTextData len nothing [] refl refl (no-spans (at + len)))
atom-fits at (a.Trailing white spaces) =
    live-over at (at + white) n.SpaceOrTab white (over n.HardBreakTrailing spaces nothing)
    (span_of n.HardBreakTrailing (at + white) (at + white + spaces) ∷ []) refl refl
    (live-over (at + white) (at + white + spaces) n.HardBreakTrailing spaces nothing [] refl refl
    (no-spans (at + white + spaces)))
atom-fits at (a.Literal l) =
    live-over at (at + l.len) (literal_name l.kind) l.len nothing [] (named-literal l.kind) refl (no-spans (at + l.len))

pub atom-live : (at : ℕ) (atom : Atom) → live (atom_spans at atom) ≡ spans_forest at (atom_forest atom)
atom-live at atom = (atom-fits at atom).is

-- and it is over as many bytes
pub atom-size : (atom : Atom) → size (atom_forest atom) ≡ atom_size atom
atom-size a.Escape = refl
atom-size a.BreakEscape = refl
atom-size (a.Reference r) =
    let same : size (reference r) ≡ size (reference_with r) = ap size (reference-is r) in
    omega (
      arith,
      same,
      part-size n.CharacterReference (reference_inside (cond (r.markers == 0) 0 1) (r.markers - 1) r.value) nothing,
      inside-size (cond (r.markers == 0) 0 1) (r.markers - 1) r.value,
    )
atom-size (a.Code r) =
    omega (
      arith,
      part-size n.CodeText
          (over n.CodeTextSequence r.size (over n.CodeTextData r.inside (over n.CodeTextSequence r.size nothing)))
          nothing,
      raw-inside-size n.CodeTextSequence n.CodeTextData r.size r.inside,
    )
atom-size (a.Math r) =
    omega (
      arith,
      part-size n.MathText
          (over n.MathTextSequence r.size (over n.MathTextData r.inside (over n.MathTextSequence r.size nothing)))
          nothing,
      raw-inside-size n.MathTextSequence n.MathTextData r.size r.inside,
    )
atom-size (a.Text len) = omega (arith, over-size n.Data len nothing)
atom-size (a.Uri len) =
    omega (
      arith,
      part-size n.Autolink (byte n.AutolinkMarker (over n.AutolinkProtocol len (byte n.AutolinkMarker nothing)))
          nothing,
      angled-inside-size n.AutolinkProtocol len,
    )
atom-size (a.Email len) =
    omega (
      arith,
      part-size n.Autolink (byte n.AutolinkMarker (over n.AutolinkEmail len (byte n.AutolinkMarker nothing))) nothing,
      angled-inside-size n.AutolinkEmail len,
    )
atom-size (a.Html len) =
    omega (
      arith,
      part-size n.HtmlText (over n.HtmlTextData len nothing) nothing,
      over-size n.HtmlTextData len nothing,
    )
atom-size (a.Trailing white spaces) =
    omega (
      arith,
      over-size n.SpaceOrTab white (over n.HardBreakTrailing spaces nothing),
      over-size n.HardBreakTrailing spaces nothing,
    )
atom-size (a.Literal l) = omega (arith, over-size (literal_name l.kind) l.len nothing)

-- Text beside text is one piece: this changes no span.

joined-size : (name : Name) (more : ℕ) (following : Forest) →
    size (joined name more following) ≡ size (piece name more following)
joined-size name more nothing = refl
joined-size name more (part other inside following) = refl
joined-size name more (piece other count following) = go (is_data name && is_data other)
  where
    go : (t : Bool) →
        size (cond t (piece name (more + suc count) following) (piece name more (piece other count following))) ≡
        size (piece name more (piece other count following))
    go true =
        omega (
          arith,
          piece-size name (more + suc count) following,
          piece-size name more (piece other count following),
          piece-size other count following,
        )
    go false = refl

pub merged-size : (forest : Forest) → size (merged forest) ≡ size forest
merged-size nothing = refl
merged-size (piece name more following) =
    omega (
      arith,
      joined-size name more (merged following),
      piece-size name more (merged following),
      piece-size name more following,
      merged-size following,
    )
merged-size (part name inside following) =
    omega (
      arith,
      part-size name (merged inside) (merged following),
      part-size name inside following,
      merged-size inside,
      merged-size following,
    )

joined-spans : (at : ℕ) (name : Name) (more : ℕ) (following : Forest) →
    spans_forest at (joined name more following) ≡ spans_forest at (piece name more following)
joined-spans at name more nothing = refl
joined-spans at name more (part other inside following) = refl
joined-spans at name more (piece other count following) = go (is_data name) (is_data other) refl refl
  where
    go : (x y : Bool) → is_data name ≡ x → is_data other ≡ y →
        spans_forest at
        (cond (x && y) (piece name (more + suc count) following) (piece name more (piece other count following))) ≡
        spans_forest at (piece name more (piece other count following))
    go true true h k =
        ap
        (λ (x : Bool). unless_data x (shown (span_of name at (at + suc (more + suc count))))
        ++ spans_forest (at + suc (more + suc count)) following) h
        ∙ spans-at following (at + suc (more + suc count)) ((at + suc more) + suc count) (omega arith)
        ∙ sym
        (ap
        (λ (x : Bool). unless_data x (shown (span_of name at (at + suc more)))
        ++ (unless_data (is_data other) (shown (span_of other (at + suc more) ((at + suc more) + suc count)))
        ++ spans_forest ((at + suc more) + suc count) following)) h
        ∙ ap
        (λ (y : Bool). unless_data y (shown (span_of other (at + suc more) ((at + suc more) + suc count)))
        ++ spans_forest ((at + suc more) + suc count) following) k)
    go true false h k = refl
    go false y h k = refl

pub merged-spans : (at : ℕ) (forest : Forest) → spans_forest at (merged forest) ≡ spans_forest at forest
merged-spans at nothing = refl
merged-spans at (piece name more following) =
    joined-spans at name more (merged following)
    ∙ ap (λ (l : List Span). unless_data (is_data name) (shown (span_of name at (at + suc more))) ++ l)
    (merged-spans (at + suc more) following)
merged-spans at (part name inside following) =
    both (shown (span_of name at (at + size (merged inside))))
    (spans_forest at (merged inside) ++ spans_forest (at + size (merged inside)) (merged following))
    (shown (span_of name at (at + size inside)))
    (spans_forest at inside ++ spans_forest (at + size inside) following)
    (ap (λ (k : ℕ). shown (span_of name at (at + k))) (merged-size inside))
    (both (spans_forest at (merged inside)) (spans_forest (at + size (merged inside)) (merged following))
    (spans_forest at inside) (spans_forest (at + size inside) following) (merged-spans at inside)
    (ap (λ (k : ℕ). spans_forest (at + k) (merged following)) (merged-size inside)
    ∙ merged-spans (at + size inside) following))

-- a list of spans of a forest is one of the forest whose text is joined
pub shows-merged : (at : ℕ) (forest : Forest) (old new : List Span) → Shows at old forest new →
    Shows at old (merged forest) new
shows-merged at forest old new s =
    record { own = s.own; same = s.same; shown = s.shown ∙ sym (merged-spans at forest) }
