-- Atoms: what binds tightest at the front of a text (CommonMark 2.4, 2.5, 6.1, 6.5, 6.6, 6.7, 6.8, GFM 6.9).
use Rattle.std.specs.Prelude.{ℕ, zero, suc, ◌+◌, ◌-◌, Bool, true, false, ◌&&◌, ◌==◌, not, if◌then◌else◌}
use Rattle.std.specs.Prelude.{List, length, drop, Option, Some, None, option_map}
use Rattle.md_engine.specs.declared.event.Name.{Name}
use Rattle.md_engine.specs.declared.event.Name.TheVariants as n
use Rattle.md_meaning.specs.Ascii.{backtick, dollar, less_than}
use Rattle.md_meaning.specs.Lines.{begins_with}
use Rattle.md_meaning.specs.Rest.{run_len}
use Rattle.md_inline_events.specs.Forest.{Forest, nothing, over, part, piece}
use Rattle.md_inlines.specs.Autolink as autolink
use Rattle.md_inlines.specs.Breaks.{break_len, is_break_escape, trailing_len}
use Rattle.md_inlines.specs.Code.{raw_at}
use Rattle.md_inlines.specs.Escape.{ampersand, is_escape, reference_at}
use Rattle.md_inlines.specs.Literal.{literal_at}
use Rattle.md_inlines.specs.RawHtml.{after_html}
use Rattle.md_inlines.specs.declared.InlineOptions.{InlineOptions}
use Rattle.md_inlines.specs.declared.Literal.{Literal}
use Rattle.md_inlines.specs.declared.LiteralKind.{LiteralKind}
use Rattle.md_inlines.specs.declared.LiteralKind.TheVariants as literal
use Rattle.md_inlines.specs.declared.Raw.{Raw}
use Rattle.md_inlines.specs.declared.Reference.{Reference}

-- a forest, if a construct is on
abbrev pub when : Bool → Option Forest → Option Forest
when on found = if on then found else None

-- the first of two that is there
abbrev pub or_else : Option Forest → Option Forest → Option Forest
or_else (Some found) other = Some found
or_else None other = other

-- a byte of a part, and what follows
abbrev pub byte : Name → Forest → Forest
byte name following = piece name 0 following

-- an escape (2.4)
abbrev pub escape : Forest
escape = part n.CharacterEscape (byte n.CharacterEscapeMarker (byte n.CharacterEscapeValue nothing)) nothing

-- a character reference (2.5)
abbrev pub markers : ℕ → Forest → Forest
markers zero following = following
markers (suc zero) following = byte n.CharacterReferenceMarkerNumeric following
markers (suc (suc more)) following =
    byte n.CharacterReferenceMarkerNumeric (over n.CharacterReferenceMarkerHexadecimal (suc more) following)

abbrev pub reference : Reference → Forest
reference r =
    part n.CharacterReference
    (byte n.CharacterReferenceMarker
    (markers r.markers (over n.CharacterReferenceValue r.value (byte n.CharacterReferenceMarkerSemi nothing))))
    nothing

abbrev pub escape_at : List ℕ → Option Forest
escape_at text = if is_escape text then Some escape else None

abbrev pub reference_forest : List ℕ → Option Forest
reference_forest text = if begins_with ampersand text then option_map reference (reference_at (drop 1 text)) else None

-- what is between two runs of a mark, with them; a run that no other closes is text (6.1)
abbrev pub raw : Name → Name → Name → Raw → Forest
raw whole sequence inner r =
    part whole (over sequence r.size (over inner r.inside (over sequence r.size nothing))) nothing

abbrev pub raw_or_text : (Raw → Forest) → ℕ → List ℕ → Forest
raw_or_text whole mark text = elim (raw_at mark text) [
  | Some r ↦ whole r
  | None ↦ over n.Data (run_len mark text) nothing
]

abbrev pub code_at : List ℕ → Option Forest
code_at text =
    if begins_with backtick text
    then Some (raw_or_text (raw n.CodeText n.CodeTextSequence n.CodeTextData) backtick text) else None

-- math (own choice: as code spans are read); where one dollar is no mark, it is text
abbrev pub math_at : Bool → List ℕ → Option Forest
math_at single text =
    if not (begins_with dollar text) then None
    else if not single && (run_len dollar text == 1) then Some (byte n.Data nothing)
    else Some (raw_or_text (raw n.MathText n.MathTextSequence n.MathTextData) dollar text)

-- between angle brackets: an autolink (6.5), and raw HTML (6.6)
abbrev pub angled : Name → ℕ → Forest
angled name len =
    part n.Autolink (byte n.AutolinkMarker (over name len (byte n.AutolinkMarker nothing))) nothing

abbrev pub autolink_at : List ℕ → Option Forest
autolink_at text =
    if begins_with less_than text
    then or_else (option_map (angled n.AutolinkProtocol) (autolink.uri_len (drop 1 text)))
    (option_map (angled n.AutolinkEmail) (autolink.email_len (drop 1 text)))
    else None

abbrev pub html : List ℕ → List ℕ → Forest
html text rest = part n.HtmlText (over n.HtmlTextData (length text - length rest) nothing) nothing

abbrev pub html_at : List ℕ → Option Forest
html_at text = if begins_with less_than text then option_map (html text) (after_html (drop 1 text)) else None

-- hard breaks (6.7), and spaces and tabs at the end of a line (6.8)
abbrev pub break_escape_at : List ℕ → Option Forest
break_escape_at text = if is_break_escape text then Some (byte n.HardBreakEscape nothing) else None

abbrev pub trailing_at : Bool → List ℕ → Option Forest
trailing_at hard text =
    let spaces : ℕ = if hard then break_len text else 0 in
    if trailing_len text == 0 then None
    else Some (over n.SpaceOrTab (trailing_len text - spaces) (over n.HardBreakTrailing spaces nothing))

-- an address without angle brackets (GFM 6.9)
abbrev pub literal_name : LiteralKind → Name
literal_name literal.Www = n.GfmAutolinkLiteralWww
literal_name literal.Protocol = n.GfmAutolinkLiteralProtocol
literal_name literal.Email = n.GfmAutolinkLiteralEmail
literal_name literal.Mailto = n.GfmAutolinkLiteralMailto
literal_name literal.Xmpp = n.GfmAutolinkLiteralXmpp

abbrev pub address : Literal → Forest
address l = over (literal_name l.kind) l.len nothing

-- The atom at the front of a text, after another; `outside` says that no bracket is open. The first that is there
-- binds.
abbrev pub atom : InlineOptions → Bool → List ℕ → List ℕ → Option Forest
atom options outside before text =
    let on = options.constructs in
    or_else (when on.character_escape (escape_at text))
    (or_else (when on.hard_break_escape (break_escape_at text))
    (or_else (when on.character_reference (reference_forest text))
    (or_else (when on.code_text (code_at text))
    (or_else (when on.math_text (math_at options.math_text_single_dollar text))
    (or_else (when on.autolink (autolink_at text))
    (or_else (when on.html_text (html_at text))
    (or_else (trailing_at on.hard_break_trailing text)
    (when (on.gfm_autolink_literal && outside) (option_map address (literal_at before text))))))))))

-- Text with escapes and character references alone, as a destination, a title, a label or an info string.

abbrev pub beside : Forest → Forest → Forest
beside nothing other = other
beside (piece name more following) other = piece name more (beside following other)
beside (part name inside following) other = part name inside (beside following other)

abbrev pub is_data : Name → Bool
is_data n.Data = true
is_data _ = false

-- text beside text is one piece
abbrev pub joined : Name → ℕ → Forest → Forest
joined name more nothing = piece name more nothing
joined name more (part other inside following) = piece name more (part other inside following)
joined name more (piece other count following) =
    if is_data name && is_data other then piece name (more + suc count) following
    else piece name more (piece other count following)

abbrev pub merged : Forest → Forest
merged nothing = nothing
merged (piece name more following) = joined name more (merged following)
merged (part name inside following) = part name (merged inside) (merged following)
