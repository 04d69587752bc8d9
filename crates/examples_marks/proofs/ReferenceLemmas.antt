-- What the layer finds in a text is a forest over it, and its tokens are those that the code lists.
use Rattle.std.proofs.Common.{◌≡◌, ℕ, zero, suc, ◌+◌, ◌-◌, ◌<◌, ◌≤◌, Bool, true, false, cond, List, [], ◌∷◌, ◌++◌}
use Rattle.std.proofs.Common.{length, drop, refl, ap, sym, ◌∙◌, append_assoc, subst, arith}
use Rattle.std.specs.Prelude.{◌==◌, ◌||◌, Option, Some, None}
use Rattle.std.specs.List.{list_any, position_from}
use Rattle.std.specs.Option.{is_some}
use Rattle.std.specs.Str.{bytes_eq}
use Rattle.std.proofs.lemmas.Bool.{eqb-true}
use Rattle.std.proofs.lemmas.List.{append-nil, length-append}
use Rattle.md_engine.specs.declared.event.Name.{Name}
use Rattle.md_engine.specs.declared.event.Name.TheVariants as n
use Rattle.md_meaning.specs.Ascii.{backslash, left_bracket, right_bracket}
use Rattle.md_meaning.specs.Enclosed.{Closed, Open, Broken, Enclosed, enclosed, with_byte}
use Rattle.md_events.specs.declared.inline.PartKind.{PartKind}
use Rattle.md_events.specs.declared.inline.PartKind.TheVariants as kind
use Rattle.md_events.specs.Events.Inline.{KeepsFrame}
use Rattle.md_events.specs.FirstPlace.{first_place}
use Rattle.md_events.specs.TextPart.{Document}
use Rattle.md_events.proofs.FirstPlaceLemmas.{from-first}
use Rattle.md_inline_events.specs.Forest.{Forest, IsForestOf, has_names, nothing, over, part, piece, size}
use Rattle.md_inline_events.specs.Tokens.{live, is_live, tokens}
use Rattle.md_inline_events.specs.declared.token.Token.{Token}
use Rattle.md_inline_events.specs.declared.token.Token.TheVariants as t
use Rattle.proof_inlines.proofs.ForestLemmas.{woven-keeps}
use Rattle.proof_inlines.proofs.SizeLemmas.{over-names, over-size, part-size, piece-size}
use Rattle.examples_marks.specs.Listed.{reference_tokens}
use Rattle.examples_marks.specs.References.{Forms, bracket, defined_len, escaped, found, is_defined, is_listed, label_len}
use Rattle.examples_marks.specs.References.{reference, reference_events, reference_forest, references}
use Rattle.examples_marks.specs.declared.found.Found.{Found}
use Rattle.examples_marks.specs.declared.found.Found.TheVariants.{Text, Reference}

-- Labels.

-- a form that is first somewhere is listed
some-from : (test : List ℕ → Bool) (at : ℕ) (forms : Forms) → is_some (position_from test at forms) ≡ list_any test forms
some-from test at [] = refl
some-from test at (form ∷ forms) = go (test form) (some-from test (at + 1) forms)
  where
    go : (x : Bool) → is_some (position_from test (at + 1) forms) ≡ list_any test forms →
        is_some (cond x (Some at) (position_from test (at + 1) forms)) ≡ (x || list_any test forms)
    go true rest = refl
    go false rest = rest

pub listed_first : (forms : Forms) (form : List ℕ) → is_some (first_place forms form) ≡ is_listed forms form
listed_first forms form =
    ap is_some (sym (from-first forms form)) ∙ some-from (λ other. bytes_eq other form) 0 forms

-- what is enclosed is before a mark
enclosed-closed : (opener closer : ℕ) (escaped : Bool) (bs text rest : List ℕ) →
    enclosed opener closer escaped bs ≡ Closed text rest → bs ≡ text ++ closer ∷ rest
unfolding enclosed
enclosed-closed opener closer escaped [] text rest h = cc
enclosed-closed opener closer true (b ∷ bs) text rest h =
    go (enclosed opener closer false bs) h (enclosed-closed opener closer false bs)
  where
    go : (e : Enclosed) → with_byte b e ≡ Closed text rest →
        ((text rest : List ℕ) → e ≡ Closed text rest → bs ≡ text ++ closer ∷ rest) →
        b ∷ bs ≡ text ++ closer ∷ rest
    go (Closed t r) h further =
        let front : b ∷ t ≡ text = cc in
        let following : r ≡ rest = cc in
        ap (λ (l : List ℕ). b ∷ l) (further t r refl) ∙ ap (λ (l : List ℕ). l ++ closer ∷ r) front
        ∙ ap (λ (l : List ℕ). text ++ closer ∷ l) following
    go Open h further = cc
    go Broken h further = cc
enclosed-closed opener closer false (b ∷ bs) text rest h =
    go (b == closer) refl (b == opener) (enclosed opener closer (b == backslash) bs) h
    (enclosed-closed opener closer (b == backslash) bs)
  where
    go : (x : Bool) → (b == closer) ≡ x → (y : Bool) (e : Enclosed) →
        cond x (Closed [] bs) (cond y Broken (with_byte b e)) ≡ Closed text rest →
        ((text rest : List ℕ) → e ≡ Closed text rest → bs ≡ text ++ closer ∷ rest) →
        b ∷ bs ≡ text ++ closer ∷ rest
    go true is y e h further =
        let front : [] ≡ text = cc in
        let following : bs ≡ rest = cc in
        ap (λ (c : ℕ). c ∷ bs) (eqb-true b closer is) ∙ ap (λ (l : List ℕ). l ++ closer ∷ bs) front
        ∙ ap (λ (l : List ℕ). text ++ closer ∷ l) following
    go false is true e h further = cc
    go false is false (Closed t r) h further =
        let front : b ∷ t ≡ text = cc in
        let following : r ≡ rest = cc in
        ap (λ (l : List ℕ). b ∷ l) (further t r refl) ∙ ap (λ (l : List ℕ). l ++ closer ∷ r) front
        ∙ ap (λ (l : List ℕ). text ++ closer ∷ l) following
    go false is false Open h further = cc
    go false is false Broken h further = cc

-- a label that is defined has bytes, and a bracket after it
pub label-fits : (forms : Forms) (bs : List ℕ) (len : ℕ) → label_len forms bs ≡ Some len →
    (0 < len) × (len < length bs)
label-fits forms bs len h =
    go (enclosed left_bracket right_bracket false bs) h (enclosed-closed left_bracket right_bracket false bs)
  where
    sized : (label following : List ℕ) → is_defined forms label ≡ true → Some (length label) ≡ Some len →
        bs ≡ label ++ right_bracket ∷ following → (0 < len) × (len < length bs)
    sized [] following is same whole = let none : false ≡ true = is in cc
    sized (b ∷ label) following is same whole =
        let size : len ≡ suc (length label) = cc in
        let long : length bs ≡ suc (length label) + suc (length following) = ap length whole
        ∙ length-append (b ∷ label) (right_bracket ∷ following) in
        (omega (arith, size), omega (arith, size, long))

    defined : (label following : List ℕ) (x : Bool) → is_defined forms label ≡ x →
        cond x (Some (length label)) None ≡ Some len → bs ≡ label ++ right_bracket ∷ following →
        (0 < len) × (len < length bs)
    defined label following true is same whole = sized label following is same whole
    defined label following false is same whole = cc

    go : (e : Enclosed) → defined_len forms e ≡ Some len →
        ((text rest : List ℕ) → e ≡ Closed text rest → bs ≡ text ++ right_bracket ∷ rest) →
        (0 < len) × (len < length bs)
    go (Closed label following) h whole =
        defined label following (is_defined forms label) refl h (whole label following refl)
    go Open h whole = cc
    go Broken h whole = cc

-- What is found has bytes, and those are in the text.
abbrev pub Fits : Found → ℕ → Type 0
Fits (Text len) size = (0 < len) × (len ≤ suc size)
Fits (Reference len) size = (0 < len) × (len < size)

pub found-fits : (forms : Forms) (byte : ℕ) (text : List ℕ) → Fits (found forms byte text) (length text)
found-fits forms byte text = go (byte == backslash) (byte == left_bracket) (label_len forms text) (label-fits
    forms text)
  where
    escape : (text : List ℕ) → Fits (escaped text) (length text)
    escape [] = (omega arith, omega arith)
    escape (b ∷ text) = (omega arith, omega arith)

    go : (x y : Bool) (o : Option ℕ) → ((len : ℕ) → o ≡ Some len → (0 < len) × (len < length text)) →
        Fits (cond x (escaped text) (cond y (bracket o) (Text 1))) (length text)
    go true y o fits = escape text
    go false true (Some len) fits = fits len refl
    go false true None fits = (omega arith, omega arith)
    go false false o fits = (omega arith, omega arith)

-- Sizes and names.

reference-size : (len : ℕ) (following : Forest) → size (reference len following) ≡ len + 2 + size following
reference-size len following =
    let closing : Forest = piece n.LabelMarker 0 nothing in
    let label : Forest = over n.Data len nothing in
    omega (
      arith,
      part-size n.Link (piece n.LabelMarker 0 (part n.LabelText label closing)) following,
      piece-size n.LabelMarker 0 (part n.LabelText label closing),
      part-size n.LabelText label closing,
      over-size n.Data len nothing,
      piece-size n.LabelMarker 0 nothing,
    )

references-size : (forms : Forms) (plain taken : ℕ) (text : List ℕ) → taken ≤ length text →
    size (references forms plain taken text) + taken ≡ plain + length text
references-size forms plain taken [] h = omega (arith, h, over-size n.Data plain nothing)
references-size forms plain (suc taken) (b ∷ text) h =
    omega (arith, references-size forms plain taken text (omega (arith, h)))
references-size forms plain zero (b ∷ text) h =
    go (found forms b text) (found-fits forms b text)
    (λ plain taken k. references-size forms plain taken text k)
  where
    go : (f : Found) → Fits f (length text) →
        ((plain taken : ℕ) → taken ≤ length text →
        size (references forms plain taken text) + taken ≡ plain + length text) →
        size
        (elim f [
          | Text len ↦ references forms (plain + len) (len - 1) text
          | Reference len ↦ over n.Data plain (reference len (references forms 0 (len + 1) text))
        ])
        + 0 ≡
        plain + suc (length text)
    go (Text len) fits rest =
        omega (arith, fits.0, fits.1, rest (plain + len) (len - 1) (omega (arith, fits.1)))
    go (Reference len) fits rest =
        let later : Forest = references forms 0 (len + 1) text in
        omega (
          arith,
          over-size n.Data plain (reference len later),
          reference-size len later,
          rest 0 (len + 1) (omega (arith, fits.1)),
        )

reference-names : (len : ℕ) (following : Forest) → has_names following ≡ true → has_names (reference len following) ≡
    true
reference-names zero following h = h
reference-names (suc more) following h = h

references-names : (forms : Forms) (plain taken : ℕ) (text : List ℕ) →
    has_names (references forms plain taken text) ≡ true
references-names forms plain taken [] = over-names n.Data plain nothing refl refl
references-names forms plain (suc taken) (b ∷ text) = references-names forms plain taken text
references-names forms plain zero (b ∷ text) =
    go (found forms b text) (λ plain taken. references-names forms plain taken text)
  where
    go : (f : Found) → ((plain taken : ℕ) → has_names (references forms plain taken text) ≡ true) →
        has_names
        (elim f [
          | Text len ↦ references forms (plain + len) (len - 1) text
          | Reference len ↦ over n.Data plain (reference len (references forms 0 (len + 1) text))
        ]) ≡
        true
    go (Text len) rest = rest (plain + len) (len - 1)
    go (Reference len) rest =
        over-names n.Data plain (reference len (references forms 0 (len + 1) text)) refl
        (reference-names len (references forms 0 (len + 1) text) (rest 0 (len + 1)))

reference-forest : (forms : Forms) (kind : PartKind) (text : List ℕ) →
    IsForestOf text (reference_forest forms kind text)
reference-forest forms kind.Text text = record {
  long = omega (arith, references-size forms 0 0 text (omega arith));
  names = references-names forms 0 0 text;
}
reference-forest forms kind.String text = record {
  long = omega (arith, over-size n.Data (length text) nothing);
  names = over-names n.Data (length text) nothing refl refl;
}

-- So the layer keeps the promise of every layer.
pub references-keep : (document : Document) →
    KeepsFrame document.bytes (λ part events. events ≡ reference_events document part)
references-keep document =
    woven-keeps document.bytes (reference_forest document.definitions) (reference-forest document.definitions)

-- What is taken is left out.
pub references-taken : (forms : Forms) (plain taken : ℕ) (text : List ℕ) →
    references forms plain taken text ≡ references forms plain 0 (drop taken text)
references-taken forms plain zero [] = refl
references-taken forms plain (suc taken) [] = refl
references-taken forms plain zero (b ∷ text) = refl
references-taken forms plain (suc taken) (b ∷ text) = references-taken forms plain taken text

-- Tokens.

live-append : (xs ys : List Token) → live (xs ++ ys) ≡ live xs ++ live ys
live-append [] ys = refl
live-append (token ∷ xs) ys = go (is_live token) (live-append xs ys)
  where
    go : (x : Bool) → live (xs ++ ys) ≡ live xs ++ live ys →
        cond x (token ∷ live (xs ++ ys)) (live (xs ++ ys)) ≡ cond x (token ∷ live xs) (live xs) ++ live ys
    go true h = ap (λ (l : List Token). token ∷ l) h
    go false h = h

tokens-over : (name : Name) (count : ℕ) (following : Forest) →
    tokens (over name count following) ≡ live (t.Over name count ∷ []) ++ tokens following
tokens-over name zero following = refl
tokens-over name (suc more) following = refl

tokens-reference : (len : ℕ) (following : Forest) → 0 < len →
    tokens (reference len following) ≡ live (reference_tokens len) ++ tokens following
tokens-reference zero following h = absurd (omega (arith, h))
tokens-reference (suc more) following h = refl

pub reference_step : (forms : Forms) (plain len byte : ℕ) (following rest left : List ℕ)
    (done one two total : List Token) → rest ≡ byte ∷ following → Reference len ≡ found forms byte following →
    left ≡ drop (len + 1) following → one ≡ done ++ t.Over n.Data plain ∷ [] → two ≡ one ++ reference_tokens len →
    live done ++ tokens (references forms plain 0 rest) ≡ total →
    live two ++ tokens (references forms 0 0 left) ≡ total
reference_step forms plain len byte following rest left done one two total r f l o w all =
    let later : Forest = references forms 0 (len + 1) following in
    let text : List Token = live (t.Over n.Data plain ∷ []) in
    let some : 0 < len = (subst (λ (x : Found). Fits x (length following)) (sym f)
    (found-fits forms byte following)).0 in
    ap (λ (x : List ℕ). live two ++ tokens (references forms 0 0 x)) l
    ∙ ap (λ (x : Forest). live two ++ tokens x) (sym (references-taken forms 0 (len + 1) following))
    ∙ ap (λ (x : List Token). live x ++ tokens later) (w ∙ ap (λ (x : List Token). x ++ reference_tokens len) o)
    ∙ ap (λ (x : List Token). x ++ tokens later)
    (live-append (done ++ t.Over n.Data plain ∷ []) (reference_tokens len)
    ∙ ap (λ (x : List Token). x ++ live (reference_tokens len)) (live-append done (t.Over n.Data plain ∷ [])))
    ∙ append_assoc (live done ++ text) (live (reference_tokens len)) (tokens later)
    ∙ ap (λ (x : List Token). (live done ++ text) ++ x) (sym (tokens-reference len later some))
    ∙ append_assoc (live done) text (tokens (reference len later))
    ∙ ap (λ (x : List Token). live done ++ x) (sym (tokens-over n.Data plain (reference len later)))
    ∙ ap (λ (x : Found). live done ++ tokens
    (elim x [
      | Text len ↦ references forms (plain + len) (len - 1) following
      | Reference len ↦ over n.Data plain (reference len (references forms 0 (len + 1) following))
    ])) f
    ∙ ap (λ (x : List ℕ). live done ++ tokens (references forms plain 0 x)) (sym r)
    ∙ all

pub last_step : (forms : Forms) (plain : ℕ) (rest : List ℕ) (done all total : List Token) →
    length rest ≡ 0 → all ≡ done ++ t.Over n.Data plain ∷ [] → live done ++ tokens (references forms plain 0 rest)
    ≡ total →
    live all ≡ total
last_step forms plain (b ∷ rest) done all total r a e = absurd (omega (arith, r))
last_step forms plain [] done all total r a e =
    ap live a ∙ live-append done (t.Over n.Data plain ∷ [])
    ∙ ap (λ (x : List Token). live done ++ x)
    (sym (append-nil (live (t.Over n.Data plain ∷ []))) ∙ sym (tokens-over n.Data plain nothing))
    ∙ e

-- a string is text alone
pub string_tokens : (size : ℕ) → live (t.Over n.Data size ∷ []) ≡ tokens (over n.Data size nothing)
string_tokens zero = refl
string_tokens (suc more) = refl

pub reference_fits : (forms : Forms) (byte : ℕ) (text : List ℕ) (len : ℕ) →
    Reference len ≡ found forms byte text → len < length text
reference_fits forms byte text len h =
    (subst (λ (f : Found). Fits f (length text)) (sym h) (found-fits forms byte text)).1
