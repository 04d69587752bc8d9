-- Atoms as a reader has them, the forests that they are, and their spans.
use Rattle.std.specs.Prelude.{ℕ, ◌+◌, ◌-◌, Bool, false, ◌||◌, ◌==◌, if◌then◌else◌, List, [], ◌∷◌, Option, option_map}
use Rattle.md_engine.specs.declared.event.Name.{Name}
use Rattle.md_engine.specs.declared.event.Name.TheVariants as n
use Rattle.md_meaning.specs.Ascii.{backslash}
use Rattle.md_inline_events.specs.Forest.{Forest, nothing, over, part}
use Rattle.md_inlines.specs.Escape.{ampersand}
use Rattle.md_inlines.specs.Literal.{literal_at}
use Rattle.md_inlines.specs.declared.Raw.{Raw}
use Rattle.md_inlines.specs.declared.Reference.{Reference}
use Rattle.md_inlines.specs.Atoms.{address, angled, byte, escape, literal_name, raw, reference}
use Rattle.markdown_inlines.specs.Spans.{span_of}
use Rattle.markdown_inlines.specs.declared.atom.Atom.{Atom}
use Rattle.markdown_inlines.specs.declared.atom.Atom.TheVariants as a
use Rattle.markdown_inlines.specs.declared.span.Span.{Span}

abbrev pub atom_forest : Atom → Forest
atom_forest a.Escape = escape
atom_forest a.BreakEscape = byte n.HardBreakEscape nothing
atom_forest (a.Reference r) = reference r
atom_forest (a.Code r) = raw n.CodeText n.CodeTextSequence n.CodeTextData r
atom_forest (a.Math r) = raw n.MathText n.MathTextSequence n.MathTextData r
atom_forest (a.Text len) = over n.Data len nothing
atom_forest (a.Uri len) = angled n.AutolinkProtocol len
atom_forest (a.Email len) = angled n.AutolinkEmail len
atom_forest (a.Html len) = part n.HtmlText (over n.HtmlTextData len nothing) nothing
atom_forest (a.Trailing white spaces) = over n.SpaceOrTab white (over n.HardBreakTrailing spaces nothing)
atom_forest (a.Literal l) = address l

abbrev pub found : Option Atom → Option Forest
found atom = option_map atom_forest atom

-- whether an escape or a character reference may be first
abbrev pub may_begin_string_atom : List ℕ → Bool
may_begin_string_atom [] = false
may_begin_string_atom (b ∷ text) = (b == backslash) || (b == ampersand)

abbrev pub address_at : List ℕ → List ℕ → Option Forest
address_at before text = option_map address (literal_at before text)

-- Over how many bytes they are, and their spans, from a byte on.

abbrev pub escape_spans : ℕ → List Span
escape_spans at =
    span_of n.CharacterEscape at (at + 2) ∷ span_of n.CharacterEscapeMarker at (at + 1)
    ∷ span_of n.CharacterEscapeValue (at + 1) (at + 2) ∷ []

abbrev pub reference_size : Reference → ℕ
reference_size r = 1 + (if r.markers == 0 then 0 else 1) + (r.markers - 1) + r.value + 1

abbrev pub reference_spans : ℕ → Reference → List Span
reference_spans at r =
    let marker : ℕ = at + 1 in
    let numeric : ℕ = marker + (if r.markers == 0 then 0 else 1) in
    let value : ℕ = numeric + (r.markers - 1) in
    let semi : ℕ = value + r.value in
    span_of n.CharacterReference at (semi + 1) ∷ span_of n.CharacterReferenceMarker at marker
    ∷ span_of n.CharacterReferenceMarkerNumeric marker numeric
    ∷ span_of n.CharacterReferenceMarkerHexadecimal numeric value ∷ span_of n.CharacterReferenceValue value semi
    ∷ span_of n.CharacterReferenceMarkerSemi semi (semi + 1) ∷ []

abbrev pub raw_size : Raw → ℕ
raw_size r = r.size + r.inside + r.size

abbrev pub raw_spans : Name → Name → Name → ℕ → Raw → List Span
raw_spans whole sequence inner at r =
    let start : ℕ = at + r.size in
    let close : ℕ = start + r.inside in
    span_of whole at (close + r.size) ∷ span_of sequence at start ∷ span_of inner start close
    ∷ span_of sequence close (close + r.size) ∷ []

abbrev pub angled_spans : Name → ℕ → ℕ → List Span
angled_spans name at len =
    let close : ℕ = at + 1 + len in
    span_of n.Autolink at (close + 1) ∷ span_of n.AutolinkMarker at (at + 1) ∷ span_of name (at + 1) close
    ∷ span_of n.AutolinkMarker close (close + 1) ∷ []

abbrev pub trailing_spans : ℕ → ℕ → ℕ → List Span
trailing_spans at white spaces =
    span_of n.SpaceOrTab at (at + white) ∷ span_of n.HardBreakTrailing (at + white) (at + white + spaces) ∷ []

abbrev pub piece_spans : Name → ℕ → ℕ → List Span
piece_spans name at len = span_of name at (at + len) ∷ []

abbrev pub html_spans : ℕ → ℕ → List Span
html_spans at len = span_of n.HtmlText at (at + len) ∷ span_of n.HtmlTextData at (at + len) ∷ []

abbrev pub atom_size : Atom → ℕ
atom_size a.Escape = 2
atom_size a.BreakEscape = 1
atom_size (a.Reference r) = reference_size r
atom_size (a.Code r) = raw_size r
atom_size (a.Math r) = raw_size r
atom_size (a.Text len) = len
atom_size (a.Uri len) = len + 2
atom_size (a.Email len) = len + 2
atom_size (a.Html len) = len
atom_size (a.Trailing white spaces) = white + spaces
atom_size (a.Literal l) = l.len

abbrev pub atom_spans : ℕ → Atom → List Span
atom_spans at a.Escape = escape_spans at
atom_spans at a.BreakEscape = piece_spans n.HardBreakEscape at 1
atom_spans at (a.Reference r) = reference_spans at r
atom_spans at (a.Code r) = raw_spans n.CodeText n.CodeTextSequence n.CodeTextData at r
atom_spans at (a.Math r) = raw_spans n.MathText n.MathTextSequence n.MathTextData at r
atom_spans at (a.Text len) = []
atom_spans at (a.Uri len) = angled_spans n.AutolinkProtocol at len
atom_spans at (a.Email len) = angled_spans n.AutolinkEmail at len
atom_spans at (a.Html len) = html_spans at len
atom_spans at (a.Trailing white spaces) = trailing_spans at white spaces
atom_spans at (a.Literal l) = piece_spans (literal_name l.kind) at l.len
