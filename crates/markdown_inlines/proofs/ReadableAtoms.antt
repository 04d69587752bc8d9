-- Atoms, and what links and images lead to, are readable.
use Rattle.std.proofs.Common.{◌≡◌, ℕ, zero, suc, ◌+◌, ◌-◌, ◌<◌, Bool, true, false, cond, ◌&&◌, List, [], ◌∷◌, length}
use Rattle.std.proofs.Common.{take, drop, refl, arith}
use Rattle.std.specs.Prelude.{◌==◌, not, Option, Some, None, option_map}
use Rattle.md_engine.specs.declared.event.Name.{Name}
use Rattle.md_engine.specs.declared.event.Name.TheVariants as n
use Rattle.md_events.specs.Events.Pieces.{is_piece_name}
use Rattle.md_meaning.specs.Ascii.{backtick, dollar, left_bracket, left_parenthesis, less_than, right_bracket}
use Rattle.md_meaning.specs.Lines.{begins_with}
use Rattle.md_meaning.specs.Rest.{run_len}
use Rattle.md_inline_events.specs.Forest.{Forest, nothing, over, part, size}
use Rattle.md_inlines.specs.Autolink as autolink
use Rattle.md_inlines.specs.Breaks.{break_len, is_break_escape, trailing_len}
use Rattle.md_inlines.specs.Code.{raw_at}
use Rattle.md_inlines.specs.Escape.{ampersand, is_escape, reference_at}
use Rattle.md_inlines.specs.Literal.{literal_at}
use Rattle.md_inlines.specs.RawHtml.{after_html}
use Rattle.md_inlines.specs.Target.{is_own_label, label_len, resource_at}
use Rattle.md_inlines.specs.declared.InlineConstructs.{InlineConstructs}
use Rattle.md_inlines.specs.declared.InlineOptions.{InlineOptions}
use Rattle.md_inlines.specs.declared.LiteralKind.{LiteralKind}
use Rattle.md_inlines.specs.declared.LiteralKind.TheVariants as literal
use Rattle.md_inlines.specs.declared.Raw.{Raw}
use Rattle.md_inlines.specs.declared.Reference.{Reference}
use Rattle.md_inlines.specs.declared.Resource.{Resource}
use Rattle.md_inlines.specs.Atoms.{address, angled, atom, autolink_at, beside, break_escape_at, byte, code_at, escape}
use Rattle.md_inlines.specs.Atoms.{escape_at, html, html_at, literal_name, markers, math_at, or_else, raw}
use Rattle.md_inlines.specs.Atoms.{raw_or_text, reference, reference_forest, trailing_at, when}
use Rattle.md_inlines.specs.Targets.{destination, reference as label_reference, reference_after, resource}
use Rattle.md_inlines.specs.Targets.{resource_forest, short, string, string_at_most, string_atom, target, title}
use Rattle.md_inlines.specs.Targets.{title_part}
use Rattle.proof_inlines.specs.Sized.{IsFront}
use Rattle.proof_inlines.proofs.Promise.{atom-front}
use Rattle.proof_inlines.proofs.SizeLemmas.{part-size}
use Rattle.markdown_inlines.specs.Readable.{begins_apart}
use Rattle.markdown_inlines.proofs.ReadableLemmas.{Readable, Solid, beside-solid, over-apart, over-readable}
use Rattle.markdown_inlines.proofs.ReadableLemmas.{is-some, over-solid, part-readable, piece-some}
use Rattle.markdown_inlines.proofs.ReadableLemmas.{readable-merged, solid-readable, some-readable}
use Rattle.markdown_inlines.proofs.ReadableEmphasis.{Holds, cond-holds, map-holds}

-- if it is over a byte, it is solid
abbrev Whole : Forest → Type 0
Whole forest = 0 < size forest → Solid forest

part-whole : (name : Name) (inside : Forest) → is_piece_name name ≡ false → Readable inside →
    Whole (part name inside nothing)
part-whole name inside named i some = (named, omega (arith, some, part-size name inside nothing), i, tt)

when-holds : (P : Forest → Type 0) (on : Bool) (o : Option Forest) → Holds P o → Holds P (when on o)
when-holds P on o h = cond-holds P on o None h tt

either-holds : (P : Forest → Type 0) (o p : Option Forest) → Holds P o → Holds P p → Holds P (or_else o p)
either-holds P (Some found) p h k = h
either-holds P None p h k = k

-- what is solid is so if it is over a byte
lone : (o : Option Forest) → Holds Solid o → Holds Whole o
lone None h = tt
lone (Some found) h = λ some. h

-- Escapes and references.

escape-solid : Solid escape
escape-solid =
    (refl, piece-some n.CharacterEscapeMarker 0 (byte n.CharacterEscapeValue nothing), (refl, (refl, tt)), tt)

escape-at-solid : (text : List ℕ) → Holds Solid (escape_at text)
escape-at-solid text = cond-holds Solid (is_escape text) (Some escape) None escape-solid tt

markers-readable : (count : ℕ) (following : Forest) → Readable following → Readable (markers count following)
markers-readable zero following h = h
markers-readable (suc zero) following h = (refl, h)
markers-readable (suc (suc more)) following h = (refl, (refl, h))

reference-solid : (r : Reference) → Solid (reference r)
reference-solid r =
    let semi : Forest = byte n.CharacterReferenceMarkerSemi nothing in
    let value : Forest = over n.CharacterReferenceValue r.value semi in
    let inner : Readable value = over-readable n.CharacterReferenceValue r.value semi refl (refl, tt) in (
      refl,
      piece-some n.CharacterReferenceMarker 0 (markers r.markers value),
      (refl, markers-readable r.markers value inner),
      tt,
    )

reference-at-solid : (text : List ℕ) → Holds Solid (reference_forest text)
reference-at-solid text =
    cond-holds Solid (begins_with ampersand text) (option_map reference (reference_at (drop 1 text))) None
    (map-holds Solid reference (reference_at (drop 1 text)) reference-solid) tt

-- The other atoms.

raw-whole : (whole sequence inner : Name) (mark : ℕ) (text : List ℕ) → is_piece_name whole ≡ false →
    is_piece_name sequence ≡ true → is_piece_name inner ≡ true →
    Whole (raw_or_text (raw whole sequence inner) mark text)
raw-whole whole sequence inner mark text w s i = go (raw_at mark text)
  where
    go : (o : Option Raw) →
        Whole
        (elim o as (λ (_ : Option Raw). Forest) [
          | Some r ↦ raw whole sequence inner r
          | None ↦ over n.Data (run_len mark text) nothing
        ])
    go (Some r) =
        part-whole whole (over sequence r.size (over inner r.inside (over sequence r.size nothing))) w
        (over-readable sequence r.size (over inner r.inside (over sequence r.size nothing)) s
        (over-readable inner r.inside (over sequence r.size nothing) i (over-readable sequence r.size nothing s tt)))
    go None = λ some. over-solid n.Data (run_len mark text) nothing refl tt

code-whole : (text : List ℕ) → Holds Whole (code_at text)
code-whole text =
    cond-holds Whole (begins_with backtick text)
    (Some (raw_or_text (raw n.CodeText n.CodeTextSequence n.CodeTextData) backtick text)) None
    (raw-whole n.CodeText n.CodeTextSequence n.CodeTextData backtick text refl refl refl) tt

math-whole : (single : Bool) (text : List ℕ) → Holds Whole (math_at single text)
math-whole single text =
    let found : Option Forest = Some (raw_or_text (raw n.MathText n.MathTextSequence n.MathTextData) dollar text) in
    cond-holds Whole (not (begins_with dollar text)) None
    (cond (not single && (run_len dollar text == 1)) (Some (byte n.Data nothing)) found) tt
    (cond-holds Whole (not single && (run_len dollar text == 1)) (Some (byte n.Data nothing)) found
    (λ some. (refl, tt)) (raw-whole n.MathText n.MathTextSequence n.MathTextData dollar text refl refl refl))

angled-solid : (name : Name) (len : ℕ) → is_piece_name name ≡ true → Solid (angled name len)
angled-solid name len named = (
  refl,
  piece-some n.AutolinkMarker 0 (over name len (byte n.AutolinkMarker nothing)),
  (refl, over-readable name len (byte n.AutolinkMarker nothing) named (refl, tt)),
  tt,
)

autolink-solid : (text : List ℕ) → Holds Solid (autolink_at text)
autolink-solid text =
    let uri : Option Forest = option_map (angled n.AutolinkProtocol) (autolink.uri_len (drop 1 text)) in
    let email : Option Forest = option_map (angled n.AutolinkEmail) (autolink.email_len (drop 1 text)) in
    cond-holds Solid (begins_with less_than text) (or_else uri email) None
    (either-holds Solid uri email
    (map-holds Solid (angled n.AutolinkProtocol) (autolink.uri_len (drop 1 text))
    (λ len. angled-solid n.AutolinkProtocol len refl))
    (map-holds Solid (angled n.AutolinkEmail) (autolink.email_len (drop 1 text))
    (λ len. angled-solid n.AutolinkEmail len refl)))
    tt

html-whole : (text : List ℕ) → Holds Whole (html_at text)
html-whole text =
    cond-holds Whole (begins_with less_than text) (option_map (html text) (after_html (drop 1 text))) None
    (map-holds Whole (html text) (after_html (drop 1 text))
    (λ rest. part-whole n.HtmlText (over n.HtmlTextData (length text - length rest) nothing) refl
    (over-readable n.HtmlTextData (length text - length rest) nothing refl tt)))
    tt

break-solid : (text : List ℕ) → Holds Solid (break_escape_at text)
break-solid text =
    cond-holds Solid (is_break_escape text) (Some (byte n.HardBreakEscape nothing)) None (refl, tt) tt

trailing-solid : (hard : Bool) (text : List ℕ) → Holds Solid (trailing_at hard text)
trailing-solid hard text =
    let spaces : ℕ = cond hard (break_len text) 0 in
    let found : Forest = over n.HardBreakTrailing spaces nothing in
    cond-holds Solid (trailing_len text == 0) None
    (Some (over n.SpaceOrTab (trailing_len text - spaces) found)) tt
    (over-solid n.SpaceOrTab (trailing_len text - spaces) found refl
    (over-solid n.HardBreakTrailing spaces nothing refl tt))

pub literal-piece : (kind : LiteralKind) → is_piece_name (literal_name kind) ≡ true
literal-piece literal.Www = refl
literal-piece literal.Protocol = refl
literal-piece literal.Email = refl
literal-piece literal.Mailto = refl
literal-piece literal.Xmpp = refl

literal-solid : (before text : List ℕ) → Holds Solid (option_map address (literal_at before text))
literal-solid before text =
    map-holds Solid address (literal_at before text)
    (λ l. over-solid (literal_name l.kind) l.len nothing (literal-piece l.kind) tt)

atom-whole : (options : InlineOptions) (outside : Bool) (before text : List ℕ) →
    Holds Whole (atom options outside before text)
atom-whole options outside before text =
    first on.character_escape (escape_at text) _ (lone (escape_at text) (escape-at-solid text))
    (first on.hard_break_escape (break_escape_at text) _ (lone (break_escape_at text) (break-solid text))
    (first on.character_reference (reference_forest text) _ (lone (reference_forest text) (reference-at-solid text))
    (first on.code_text (code_at text) _ (code-whole text)
    (first on.math_text (math_at options.math_text_single_dollar text) _
    (math-whole options.math_text_single_dollar text)
    (first on.autolink (autolink_at text) _ (lone (autolink_at text) (autolink-solid text))
    (first on.html_text (html_at text) _ (html-whole text)
    (either-holds Whole (trailing_at on.hard_break_trailing text) _
    (lone (trailing_at on.hard_break_trailing text) (trailing-solid on.hard_break_trailing text))
    (when-holds Whole (on.gfm_autolink_literal && outside) (option_map address (literal_at before text))
    (lone (option_map address (literal_at before text)) (literal-solid before text))))))))))
  where
    on : InlineConstructs
    on = options.constructs

    first : (t : Bool) (o p : Option Forest) → Holds Whole o → Holds Whole p → Holds Whole (or_else (when t o) p)
    first t o p h k = either-holds Whole (when t o) p (when-holds Whole t o h) k

-- an atom is over a byte
pub atom-solid : (options : InlineOptions) (outside : Bool) (before text : List ℕ) →
    Holds Solid (atom options outside before text)
atom-solid options outside before text =
    go (atom options outside before text) (atom-whole options outside before text)
    (atom-front options outside before text)
  where
    go : (o : Option Forest) → Holds Whole o → ((found : Forest) → o ≡ Some found → IsFront text found) → Holds Solid o
    go None h k = tt
    go (Some found) h k = let fact : IsFront text found = k found refl in h fact.some

-- Strings.

string-atom-solid : (options : InlineOptions) (text : List ℕ) → Holds Solid (string_atom options text)
string-atom-solid options text =
    either-holds Solid (when options.constructs.character_escape (escape_at text))
    (when options.constructs.character_reference (reference_forest text))
    (when-holds Solid options.constructs.character_escape (escape_at text) (escape-at-solid text))
    (when-holds Solid options.constructs.character_reference (reference_forest text) (reference-at-solid text))

string-solid : (options : InlineOptions) (more : ℕ) (text : List ℕ) → Solid (string_at_most options more text)
string-solid options zero text = tt
string-solid options (suc more) [] = tt
string-solid options (suc more) (b ∷ text) =
    go (string_atom options (b ∷ text)) (string-atom-solid options (b ∷ text)) (string-solid options more)
  where
    go : (o : Option Forest) → Holds Solid o → ((rest : List ℕ) → Solid (string_at_most options more rest)) →
        Solid
        (elim o as (λ (_ : Option Forest). Forest) [
          | Some found ↦ beside found (string_at_most options more (drop (size found) (b ∷ text)))
          | None ↦ byte n.Data (string_at_most options more text)
        ])
    go None h rec = (refl, rec text)
    go (Some found) h rec =
        beside-solid found (string_at_most options more (drop (size found) (b ∷ text))) h
        (rec (drop (size found) (b ∷ text)))

readable-string : (options : InlineOptions) (text : List ℕ) → Readable (string options text)
readable-string options text =
    readable-merged (string_at_most options (length text) text)
    (solid-readable (string_at_most options (length text) text) (string-solid options (length text) text))

-- Targets.

destination-readable : (options : InlineOptions) (angles : Bool) (text : List ℕ) →
    Readable (destination options angles text)
destination-readable options true text =
    let inside : List ℕ = take (length text - 2) (drop 1 text) in
    let mark : Forest = byte n.ResourceDestinationLiteralMarker nothing in
    part-readable n.ResourceDestinationLiteral
    (byte n.ResourceDestinationLiteralMarker (part n.ResourceDestinationString (string options inside) mark)) nothing
    refl refl (
      refl,
      part-readable n.ResourceDestinationString (string options inside) mark refl refl (readable-string options inside)
          (refl, tt),
    )
    tt
destination-readable options false text =
    part-readable n.ResourceDestinationRaw (part n.ResourceDestinationString (string options text) nothing) nothing refl
    refl
    (part-readable n.ResourceDestinationString (string options text) nothing refl refl (readable-string options text)
    tt)
    tt

title-readable : (options : InlineOptions) (text : List ℕ) → Readable (title options text)
title-readable options text =
    let inside : List ℕ = take (length text - 2) (drop 1 text) in
    let mark : Forest = byte n.ResourceTitleMarker nothing in (
      refl,
      part-readable n.ResourceTitleString (string options inside) mark refl refl (readable-string options inside)
          (refl, tt),
    )

title-some : (options : InlineOptions) (text : List ℕ) → 0 < size (title options text)
title-some options text =
    piece-some n.ResourceTitleMarker 0
    (part n.ResourceTitleString (string options (take (length text - 2) (drop 1 text)))
    (byte n.ResourceTitleMarker nothing))

-- readable, and it does not begin with text
record Ready (forest : Forest) : Type 0 where
  apart : begins_apart forest ≡ true
  readable : Readable forest

title-part-ready : (options : InlineOptions) (r : Resource) (text : List ℕ) (following : Forest) → Ready following →
    Ready (title_part options r text following)
title-part-ready options r text following h = go (r.title == 0)
  where
    whole : Forest
    whole = title options (take r.title text)

    some : 0 < size (title options (take r.title text))
    some = title-some options (take r.title text)

    go : (t : Bool) →
        Ready
        (cond t following
        (part n.ResourceTitle (title options (take r.title text)) (over n.SpaceOrTab r.after following)))
    go true = h
    go false = record {
      apart = is-some (size whole) some;
      readable = some-readable n.ResourceTitle whole (over n.SpaceOrTab r.after following) refl some
          (title-readable options (take r.title text))
          (over-readable n.SpaceOrTab r.after following refl h.readable);
    }

resource-solid : (options : InlineOptions) (text : List ℕ) (r : Resource) → Solid (resource options text r)
resource-solid options text r =
    let rest : List ℕ = drop (1 + r.before) text in
    let mark : Forest = byte n.ResourceMarker nothing in
    let titled : Forest = title_part options r (drop (r.destination + r.between) rest) mark in
    let ready : Ready titled =
    title-part-ready options r (drop (r.destination + r.between) rest) mark
    (record { apart = refl; readable = (refl, tt) }) in
    let leads : Forest = destination options r.is_literal (take r.destination rest) in
    let after : Forest = over n.SpaceOrTab r.between titled in
    let body : Forest = part n.ResourceDestination leads after in
    let inner : Readable body = part-readable n.ResourceDestination leads after refl
    (over-apart n.SpaceOrTab r.between titled refl ready.apart)
    (destination-readable options r.is_literal (take r.destination rest))
    (over-readable n.SpaceOrTab r.between titled refl ready.readable) in (
      refl,
      piece-some n.ResourceMarker 0 (over n.SpaceOrTab r.before body),
      (refl, over-readable n.SpaceOrTab r.before body refl inner),
      tt,
    )

resource-holds : (options : InlineOptions) (text : List ℕ) → Holds Solid (resource_forest options text)
resource-holds options text =
    cond-holds Solid (begins_with left_parenthesis text)
    (option_map (resource options text) (resource_at (drop 1 text))) None
    (map-holds Solid (resource options text) (resource_at (drop 1 text)) (resource-solid options text)) tt

label-solid : (options : InlineOptions) (label : List ℕ) → Solid (label_reference options label)
label-solid options label =
    let inside : Forest = part n.ReferenceString (string options label) (byte n.ReferenceMarker nothing) in (
      refl,
      piece-some n.ReferenceMarker 0 inside,
      (
        refl,
        part-readable n.ReferenceString (string options label) (byte n.ReferenceMarker nothing) refl refl
            (readable-string options label) (refl, tt),
      ),
      tt,
    )

module _ (options : InlineOptions) (is_definition : List ℕ → Bool) where
  short-holds : (inside after : List ℕ) → Holds Solid (short options is_definition inside after)
  short-holds inside after =
      cond-holds Solid (not (is_own_label inside && is_definition inside)) None
      (cond (begins_with left_bracket after && begins_with right_bracket (drop 1 after))
      (Some (label_reference options [])) (Some nothing)) tt
      (cond-holds Solid (begins_with left_bracket after && begins_with right_bracket (drop 1 after))
      (Some (label_reference options [])) (Some nothing) (label-solid options []) tt)

  reference-holds : (inside after : List ℕ) → Holds Solid (reference_after options is_definition inside after)
  reference-holds inside after = go (cond (begins_with left_bracket after) (label_len (drop 1 after)) None)
    where
      go : (o : Option ℕ) →
          Holds Solid
          (elim o as (λ (_ : Option ℕ). Option Forest) [
            | None ↦ short options is_definition inside after
            | Some len ↦ cond (is_definition (take len (drop 1 after)))
                (Some (label_reference options (take len (drop 1 after)))) None
          ])
      go None = short-holds inside after
      go (Some len) =
          cond-holds Solid (is_definition (take len (drop 1 after)))
          (Some (label_reference options (take len (drop 1 after)))) None
          (label-solid options (take len (drop 1 after))) tt

  -- what a link or an image leads to
  pub target-solid : (inside after : List ℕ) → Holds Solid (target options is_definition inside after)
  target-solid inside after =
      either-holds Solid (resource_forest options after) (reference_after options is_definition inside after)
      (resource-holds options after) (reference-holds inside after)
