-- The tokens of a string are those of its forest.
use Rattle.std.proofs.Common.{◌≡◌, ℕ, zero, suc, ◌+◌, ◌-◌, ◌<◌, Bool, true, false, cond, List, [], ◌∷◌, ◌++◌, length}
use Rattle.std.proofs.Common.{drop, refl, ap, sym, ◌∙◌, append_assoc, append-nil, subst, arith}
use Rattle.std.specs.Prelude.{min, ◌==◌, Option, Some, None, option_map}
use Rattle.std.proofs.lemmas.Bool.{eqb-true}
use Rattle.std.proofs.lemmas.List.{length-drop}
use Rattle.md_engine.specs.declared.event.Name.{Name}
use Rattle.md_engine.specs.declared.event.Name.TheVariants as n
use Rattle.md_meaning.specs.Lines.{begins_with}
use Rattle.md_inline_events.specs.Forest.{Forest, nothing, over, part, piece, size}
use Rattle.md_inline_events.specs.Tokens.{around, is_live, live, tokens}
use Rattle.md_inline_events.specs.declared.token.Token.{Token}
use Rattle.md_inline_events.specs.declared.token.Token.TheVariants as t
use Rattle.md_inlines.specs.declared.InlineOptions.{InlineOptions}
use Rattle.md_inlines.specs.declared.Reference.{Reference}
use Rattle.md_inlines.specs.Atoms.{beside, byte, escape, is_data, joined, markers, merged, or_else, reference, when}
use Rattle.md_inlines.specs.Escape.{ampersand, is_escape, reference_at}
use Rattle.md_inlines.specs.Targets.{string, string_atom}
use Rattle.proof_inlines.specs.Sized.{IsFront}
use Rattle.markdown_inlines.specs.declared.atom.Atom.TheVariants as a
use Rattle.markdown_inlines.proofs.ShapeLemmas.{atom-size}
use Rattle.markdown_inlines.proofs.LeadingLemmas.{parts-found, parts-plain, string-front, string_parts}

-- Tokens over no byte are left out; a forest has none.

pub live-both : (xs ys : List Token) → live (xs ++ ys) ≡ live xs ++ live ys
live-both [] ys = refl
live-both (x ∷ xs) ys = go (is_live x) (live-both xs ys)
  where
    go : (b : Bool) → live (xs ++ ys) ≡ live xs ++ live ys →
        cond b (x ∷ live (xs ++ ys)) (live (xs ++ ys)) ≡ cond b (x ∷ live xs) (live xs) ++ live ys
    go true rest = ap (λ (l : List Token). x ∷ l) rest
    go false rest = rest

live-around : (name : Name) (ts : List Token) → live ts ≡ ts → live (around name ts) ≡ around name ts
live-around name [] same = refl
live-around name (token ∷ ts) same =
    ap (λ (l : List Token). t.Enters name ∷ l)
    (live-both (token ∷ ts) (t.Leaves name ∷ [])
    ∙ ap (λ (l : List Token). l ++ t.Leaves name ∷ []) same)

pub live-tokens : (forest : Forest) → live (tokens forest) ≡ tokens forest
live-tokens nothing = refl
live-tokens (piece name more following) = ap (λ (l : List Token). t.Over name (suc more) ∷ l) (live-tokens following)
live-tokens (part name inside following) =
    live-both (around name (tokens inside)) (tokens following)
    ∙ ap (λ (l : List Token). l ++ live (tokens following)) (live-around name (tokens inside) (live-tokens inside))
    ∙ ap (λ (l : List Token). around name (tokens inside) ++ l) (live-tokens following)

-- one token more
pub live-pushed : (old new more : List Token) → new ≡ old ++ more → live new ≡ live old ++ live more
live-pushed old new more is = ap live is ∙ live-both old more

-- What is found in a string.

-- a part that nothing follows, whose content has no text beside text
record IsMark (found : Forest) : Type 0 where
  name : Name
  inside : Forest
  is : found ≡ part name inside nothing
  apart : merged inside ≡ inside

abbrev reference_inside : ℕ → ℕ → Forest
reference_inside count value =
    byte n.CharacterReferenceMarker
    (markers count (over n.CharacterReferenceValue value (byte n.CharacterReferenceMarkerSemi nothing)))

reference-apart : (count value : ℕ) → merged (reference_inside count value) ≡ reference_inside count value
reference-apart zero zero = refl
reference-apart zero (suc value) = refl
reference-apart (suc zero) zero = refl
reference-apart (suc zero) (suc value) = refl
reference-apart (suc (suc more)) zero = refl
reference-apart (suc (suc more)) (suc value) = refl

escape-mark : IsMark escape
escape-mark = record {
  name = n.CharacterEscape;
  inside = byte n.CharacterEscapeMarker (byte n.CharacterEscapeValue nothing);
  is = refl;
  apart = refl;
}

reference-mark : (r : Reference) → IsMark (reference r)
reference-mark r = record {
  name = n.CharacterReference;
  inside = reference_inside r.markers r.value;
  is = refl;
  apart = reference-apart r.markers r.value;
}

string-mark : (options : InlineOptions) (text : List ℕ) (found : Forest) →
    string_atom options text ≡ Some found → IsMark found
string-mark options text found is =
    go options.constructs.character_escape (is_escape text) options.constructs.character_reference
    (begins_with ampersand text) (reference_at (drop 1 text)) is
  where
    go : (a b c d : Bool) (r : Option Reference) →
        or_else (when a (cond b (Some escape) None)) (when c (cond d (option_map reference r) None)) ≡ Some found →
        IsMark found
    go true true c d r is = let same : escape ≡ found = cc in subst IsMark same escape-mark
    go true false true true (Some r) is =
        let same : reference r ≡ found = cc in subst IsMark same (reference-mark r)
    go false b true true (Some r) is =
        let same : reference r ≡ found = cc in subst IsMark same (reference-mark r)
    go true false true true None is = cc
    go true false true false r is = cc
    go true false false d r is = cc
    go false b true true None is = cc
    go false b true false r is = cc
    go false b false d r is = cc

-- the tokens of a reference, with those over no byte
abbrev pub reference_tokens : ℕ → ℕ → ℕ → List Token
reference_tokens numeric hexadecimal value =
    t.Enters n.CharacterReference ∷ t.Over n.CharacterReferenceMarker 1
    ∷ t.Over n.CharacterReferenceMarkerNumeric numeric
    ∷ t.Over n.CharacterReferenceMarkerHexadecimal hexadecimal ∷ t.Over n.CharacterReferenceValue value
    ∷ t.Over n.CharacterReferenceMarkerSemi 1 ∷ t.Leaves n.CharacterReference ∷ []

reference-live : (numeric hexadecimal count next value : ℕ) → numeric ≡ count → hexadecimal ≡ next →
    live (reference_tokens numeric hexadecimal value) ≡ live (reference_tokens count next value)
reference-live numeric hexadecimal count next value few more =
    ap (λ (k : ℕ). live (reference_tokens k hexadecimal value)) few
    ∙ ap (λ (k : ℕ). live (reference_tokens count k value)) more

pub reference-tokens : (r : Reference) (numeric hexadecimal : ℕ) → numeric ≡ min r.markers 1 →
    hexadecimal ≡ r.markers - 1 → live (reference_tokens numeric hexadecimal r.value) ≡ tokens (reference r)
reference-tokens r numeric hexadecimal few more = go r.markers r.value few more
  where
    go : (count value : ℕ) → numeric ≡ min count 1 → hexadecimal ≡ count - 1 →
        live (reference_tokens numeric hexadecimal value) ≡
        tokens (part n.CharacterReference (reference_inside count value) nothing)
    go zero zero few more = reference-live numeric hexadecimal 0 0 0 (omega (arith, few)) (omega (arith, more))
    go zero (suc value) few more =
        reference-live numeric hexadecimal 0 0 (suc value) (omega (arith, few)) (omega (arith, more))
    go (suc zero) zero few more = reference-live numeric hexadecimal 1 0 0 (omega (arith, few)) (omega (arith, more))
    go (suc zero) (suc value) few more =
        reference-live numeric hexadecimal 1 0 (suc value) (omega (arith, few)) (omega (arith, more))
    go (suc (suc rest)) zero few more =
        reference-live numeric hexadecimal 1 (suc rest) 0 (omega (arith, few)) (omega (arith, more))
    go (suc (suc rest)) (suc value) few more =
        reference-live numeric hexadecimal 1 (suc rest) (suc value) (omega (arith, few)) (omega (arith, more))

pub reference-len : (r : Reference) (len : ℕ) → len ≡ 2 + r.markers + r.value → len ≡ size (reference r)
reference-len r len is = go r.markers (r.markers == 0) refl is (atom-size (a.Reference r))
  where
    go : (count : ℕ) (none : Bool) → (count == 0) ≡ none → len ≡ 2 + count + r.value →
        size (reference r) ≡ 1 + cond none 0 1 + (count - 1) + r.value + 1 → len ≡ size (reference r)
    go count true e is sized =
        let zero : count ≡ 0 = eqb-true count 0 e in omega (arith, zero, is, sized)
    go zero false e is sized = cc
    go (suc more) false e is sized = omega (arith, is, sized)

-- Text before what is read, so many bytes of it.

abbrev pub text_before : ℕ → Forest → Forest
text_before zero forest = forest
text_before (suc more) forest = joined n.Data more forest

text-more : (len : ℕ) (forest : Forest) → text_before len (joined n.Data 0 forest) ≡ text_before (suc len) forest
text-more zero forest = refl
text-more (suc more) nothing =
    let same : more + 1 ≡ suc more = omega arith in ap (λ (k : ℕ). piece n.Data k nothing) same
text-more (suc more) (part name inside following) =
    let same : more + 1 ≡ suc more = omega arith in
    ap (λ (k : ℕ). piece n.Data k (part name inside following)) same
text-more (suc more) (piece name count following) = go (is_data name)
  where
    go : (b : Bool) →
        joined n.Data more
        (cond b (piece n.Data (0 + suc count) following) (piece n.Data 0 (piece name count following))) ≡
        cond b (piece n.Data (suc more + suc count) following) (piece n.Data (suc more) (piece name count following))
    go true =
        let same : more + suc (0 + suc count) ≡ suc more + suc count = omega arith in
        ap (λ (k : ℕ). piece n.Data k following) same
    go false =
        let same : more + 1 ≡ suc more = omega arith in
        ap (λ (k : ℕ). piece n.Data k (piece name count following)) same

text-tokens : (len : ℕ) (name : Name) (inside following : Forest) →
    tokens (text_before len (part name inside following)) ≡
    live (t.Over n.Data len ∷ []) ++ tokens (part name inside following)
text-tokens zero name inside following = refl
text-tokens (suc more) name inside following = refl

text-ends : (len : ℕ) → tokens (text_before len nothing) ≡ live (t.Over n.Data len ∷ [])
text-ends zero = refl
text-ends (suc more) = refl

mark-tokens : (name : Name) (inside following : Forest) →
    tokens (part name inside following) ≡ tokens (part name inside nothing) ++ tokens following
mark-tokens name inside following =
    ap (λ (l : List Token). l ++ tokens following) (sym (append-nil (around name (tokens inside))))

-- The loop over a string: these tokens, text over so many bytes, and what is still to be read give all of it.
abbrev pub Listed : InlineOptions → List ℕ → List Token → ℕ → List ℕ → Type 0
Listed options text made plain rest =
    live made ++ tokens (text_before plain (merged (string_parts options rest))) ≡ tokens (string options text)

pub listed-plain : (options : InlineOptions) (text : List ℕ) (made : List Token) (plain next : ℕ) (rest : List ℕ)
    (b : ℕ) (following : List ℕ) → rest ≡ b ∷ following → None ≡ string_atom options rest → next ≡ plain + 1 →
    Listed options text made plain rest → Listed options text made next following
listed-plain options text made plain next rest b following is none more before =
    let parts : string_parts options rest ≡ byte n.Data (string_parts options following) =
    ap (string_parts options) is ∙ parts-plain options b following (ap (string_atom options) (sym is) ∙ sym none) in
    let one : next ≡ suc plain = omega (arith, more) in
    ap (λ (k : ℕ). live made ++ tokens (text_before k (merged (string_parts options following)))) one
    ∙ ap (λ (f : Forest). live made ++ tokens f) (sym (text-more plain (merged (string_parts options following))))
    ∙ ap (λ (f : Forest). live made ++ tokens (text_before plain (merged f))) (sym parts)
    ∙ before

marked : (made between next : List Token) (plain : ℕ) (found : Forest) → between ≡ made ++ t.Over n.Data plain ∷ [] →
    live next ≡ live between ++ tokens found → (mark : IsMark found) (following : Forest) →
    live next ++ tokens (merged following) ≡
    live made ++ tokens (text_before plain (merged (beside found following)))
marked made between next plain found between_is next_is mark following =
    let data_tokens : List Token = live (t.Over n.Data plain ∷ []) in
    let all : Forest = part mark.name mark.inside (merged following) in
    ap (λ (l : List Token). l ++ tokens (merged following))
    (next_is ∙ ap (λ (l : List Token). l ++ tokens found) (live-pushed made between (t.Over n.Data plain ∷ []) between_is)
    ∙ append_assoc (live made) data_tokens (tokens found))
    ∙ append_assoc (live made) (data_tokens ++ tokens found) (tokens (merged following))
    ∙ ap (λ (l : List Token). live made ++ l)
    (append_assoc data_tokens (tokens found) (tokens (merged following))
    ∙ ap (λ (f : Forest). data_tokens ++ (tokens f ++ tokens (merged following))) mark.is
    ∙ ap (λ (l : List Token). data_tokens ++ l) (sym (mark-tokens mark.name mark.inside (merged following)))
    ∙ sym (text-tokens plain mark.name mark.inside (merged following))
    ∙ ap (λ (f : Forest). tokens (text_before plain (part mark.name f (merged following)))) (sym mark.apart)
    ∙ ap (λ (f : Forest). tokens (text_before plain (merged (beside f following)))) (sym mark.is))

pub listed-found : (options : InlineOptions) (text : List ℕ) (made between next : List Token) (plain len : ℕ)
    (rest tail : List ℕ) (b : ℕ) (following : List ℕ) (found : Forest) → rest ≡ b ∷ following →
    Some found ≡ string_atom options rest → between ≡ made ++ t.Over n.Data plain ∷ [] →
    live next ≡ live between ++ tokens found → len ≡ size found → tail ≡ drop len rest →
    Listed options text made plain rest → Listed options text next 0 tail
listed-found options text made between next plain len rest tail b following found is some between_is next_is long
    tail_is before =
    let here : string_atom options (b ∷ following) ≡ Some found = ap (string_atom options) (sym is) ∙ sym some in
    let parts : string_parts options rest ≡
    beside found (string_parts options (drop (size found) (b ∷ following))) =
    ap (string_parts options) is ∙ parts-found options b following found here in
    let same : tail ≡ drop (size found) (b ∷ following) =
    tail_is ∙ ap (λ (k : ℕ). drop k rest) long ∙ ap (drop (size found)) is in
    marked made between next plain found between_is next_is (string-mark options (b ∷ following) found here)
    (string_parts options tail)
    ∙ ap
    (λ (l : List ℕ). live made ++ tokens (text_before plain (merged (beside found (string_parts options l))))) same
    ∙ ap (λ (f : Forest). live made ++ tokens (text_before plain (merged f))) (sym parts)
    ∙ before

pub found-shorter : (options : InlineOptions) (rest tail : List ℕ) (b : ℕ) (following : List ℕ) (found : Forest)
    (len : ℕ) → rest ≡ b ∷ following → Some found ≡ string_atom options rest → len ≡ size found →
    tail ≡ drop len rest → length tail < length rest
found-shorter options rest tail b following found len is some long tail_is =
    let front : IsFront rest found = string-front options rest found (sym some) in
    omega (arith, front.some, long, ap length is, ap length tail_is, length-drop len rest)

pub listed-all : (options : InlineOptions) (text : List ℕ) (made final : List Token) (plain : ℕ) (rest : List ℕ) →
    length rest ≡ 0 → final ≡ made ++ t.Over n.Data plain ∷ [] → Listed options text made plain rest →
    live final ≡ tokens (string options text)
listed-all options text made final plain [] none is before =
    live-pushed made final (t.Over n.Data plain ∷ []) is
    ∙ ap (λ (l : List Token). live made ++ l) (sym (text-ends plain)) ∙ before
listed-all options text made final plain (b ∷ rest) none is before = absurd (omega (arith, none))
