-- The kind of HTML that a line begins, by its first bytes (CommonMark 4.6).
use Rattle.std.proofs.Common.{◌≡◌, ℕ, zero, suc, ◌+◌, ◌≤◌, Bool, true, false, cond, ◌&&◌, ◌||◌, nat_eq, List, [], ◌∷◌}
use Rattle.std.proofs.Common.{◌++◌, Option, Some, None, refl, ◌∙◌, ap, ap₂, arith}
use Rattle.std.specs.Prelude.{◌==◌, codes, drop, take}
use Rattle.std.specs.Char.{is_ascii_alphabetic, to_ascii_lowercase}
use Rattle.std.specs.List.{list_all, prefix_len, starts_with, take_while}
use Rattle.std.specs.Str.{str_eq_ignore_ascii_case}
use Rattle.std.proofs.lemmas.Bool.{and_parts, or_parts}
use Rattle.std.proofs.lemmas.Bool.Decides.{nat_tests}
use Rattle.std.proofs.lemmas.List.Sums.{take_while-cons}
use Rattle.md_meaning.specs.Bytes.{after, begins}
use Rattle.md_meaning.specs.Html.{HtmlKind, Raw, Comment, Instruction, Declaration, Cdata, Basic, Complete}
use Rattle.md_meaning.specs.Html.{begins_basic, begins_complete, begins_raw, closes_tag, ends_name, ends_opening}
use Rattle.md_meaning.specs.Html.{basic_names, holds, html_ends, html_kind, is_basic_name, is_name_of, is_raw_end}
use Rattle.md_meaning.specs.Html.{is_raw_name, is_tag_byte, kind_after, raw_names}
use Rattle.md_meaning.specs.Rest.{trim_start}
use Rattle.md_literal.specs.Html.{cdata_byte}

-- Names.

-- a letter is a byte of a name
pub letter-tag : (b : ℕ) → is_ascii_alphabetic b ≡ true → is_tag_byte b ≡ true
letter-tag b e = grind (arith, nat_tests)

-- no known name begins with a byte that is no letter
name-apart : (b k : ℕ) → is_ascii_alphabetic b ≡ false → is_ascii_alphabetic k ≡ true →
    nat_eq (to_ascii_lowercase k) (to_ascii_lowercase b) ≡ false
name-apart b k e f = grind (arith, nat_tests)

known-apart : (b : ℕ) (bs known : List ℕ) → is_ascii_alphabetic b ≡ false →
    begins is_ascii_alphabetic known ≡ true → str_eq_ignore_ascii_case known (b ∷ bs) ≡ false
known-apart b bs [] e f = refl
known-apart b bs (k ∷ ks) e f = rw (name-apart b k e f) refl

names-apart : (names : List (List ℕ)) (b : ℕ) (bs : List ℕ) →
    list_all (λ (known : List ℕ). begins is_ascii_alphabetic known) names ≡ true → is_ascii_alphabetic b ≡ false →
    is_name_of names (b ∷ bs) ≡ false
names-apart [] b bs f e = refl
names-apart (known ∷ names) b bs f e =
    let both = and_parts (begins is_ascii_alphabetic known)
    (list_all (λ (known : List ℕ). begins is_ascii_alphabetic known) names) f in
    ap₂ (λ (x y : Bool). x || y) (known-apart b bs known e both.0) (names-apart names b bs both.1 e)

-- where no letter comes first, no name does
raw-none : (rest : List ℕ) → begins is_ascii_alphabetic rest ≡ false → begins_raw rest ≡ false
unfolding begins_raw is_raw_name
raw-none [] e = refl
raw-none (b ∷ bs) e =
    ap (λ (name : List ℕ). is_name_of raw_names name && ends_name (after is_tag_byte (b ∷ bs)))
    (take_while-cons is_tag_byte b bs)
    ∙ go (is_tag_byte b)
  where
    go : (x : Bool) →
        is_name_of raw_names (cond x (b ∷ take_while is_tag_byte bs) []) && ends_name (after is_tag_byte (b ∷ bs))
        ≡ false
    go true =
        ap (λ (x : Bool). x && ends_name (after is_tag_byte (b ∷ bs)))
        (names-apart raw_names b (take_while is_tag_byte bs) refl e)
    go false = refl

basic-none : (rest : List ℕ) → begins is_ascii_alphabetic rest ≡ false → begins_basic rest ≡ false
unfolding begins_basic is_basic_name
basic-none [] e = refl
basic-none (b ∷ bs) e =
    ap
    (λ (name : List ℕ).
    is_name_of basic_names name
    && (ends_name (after is_tag_byte (b ∷ bs))
    || starts_with nat_eq (after is_tag_byte (b ∷ bs)) (codes "/>")))
    (take_while-cons is_tag_byte b bs)
    ∙ go (is_tag_byte b)
  where
    go : (x : Bool) →
        is_name_of basic_names (cond x (b ∷ take_while is_tag_byte bs) [])
        && (ends_name (after is_tag_byte (b ∷ bs)) || starts_with nat_eq (after is_tag_byte (b ∷ bs)) (codes "/>"))
        ≡ false
    go true =
        ap
        (λ (x : Bool).
        x
        && (ends_name (after is_tag_byte (b ∷ bs))
        || starts_with nat_eq (after is_tag_byte (b ∷ bs)) (codes "/>")))
        (names-apart basic_names b (take_while is_tag_byte bs) refl e)
    go false = refl

-- after a byte that passes, and before one that does not
pub after-more : (t : ℕ → Bool) (b : ℕ) (bs : List ℕ) → t b ≡ true → after t (b ∷ bs) ≡ after t bs
after-more t b bs e =
    let more : 1 + prefix_len t bs ≡ suc (prefix_len t bs) = omega arith in
    ap (λ (x : Bool). drop (cond x (1 + prefix_len t bs) 0) (b ∷ bs)) e ∙ ap (λ (n : ℕ). drop n (b ∷ bs)) more

pub after-same : (t : ℕ → Bool) (bytes : List ℕ) → begins t bytes ≡ false → after t bytes ≡ bytes
after-same t [] e = refl
after-same t (b ∷ bs) e = ap (λ (x : Bool). drop (cond x (1 + prefix_len t bs) 0) (b ∷ bs)) e

-- the bytes in front, and what follows them
after-run : (t : ℕ → Bool) (name more : List ℕ) → list_all t name ≡ true → begins t more ≡ false →
    after t (name ++ more) ≡ more
after-run t [] more a e = after-same t more e
after-run t (b ∷ bs) more a e =
    let both = and_parts (t b) (list_all t bs) a in
    after-more t b (bs ++ more) both.0 ∙ after-run t bs more both.1 e

run-front : (t : ℕ → Bool) (name more : List ℕ) → list_all t name ≡ true → begins t more ≡ false →
    take_while t (name ++ more) ≡ name
run-front t [] [] a e = refl
run-front t [] (b ∷ bs) a e = rw e refl
run-front t (b ∷ bs) more a e =
    let both = and_parts (t b) (list_all t bs) a in
    take_while-cons t b (bs ++ more)
    ∙ ap (λ (x : Bool). cond x (b ∷ take_while t (bs ++ more)) []) both.0
    ∙ ap (λ (l : List ℕ). b ∷ l) (run-front t bs more both.1 e)

-- The kind by what follows `<`.

-- whether a tag of kind 6 may continue so after its name
abbrev pub ends_basic : List ℕ → Bool
ends_basic more = ends_name more || starts_with nat_eq more (codes "/>")

abbrev pub complete_if : Bool → Option HtmlKind
complete_if complete = cond complete (Some Complete) None

abbrev pub basic_if : Bool → Option HtmlKind → Option HtmlKind
basic_if basic others = cond basic (Some Basic) others

-- a tag
kind-plain : (b : ℕ) (bs : List ℕ) → nat_eq b 33 ≡ false → nat_eq b 47 ≡ false → nat_eq b 63 ≡ false →
    html_kind (60 ∷ b ∷ bs) ≡
    cond (begins_raw (b ∷ bs)) (Some Raw)
    (basic_if (begins_basic (b ∷ bs)) (complete_if (begins_complete (b ∷ bs))))
unfolding html_kind kind_after
kind-plain b bs e f g =
    let e' : nat_eq 33 b ≡ false = grind (arith, nat_tests) in
    let g' : nat_eq 63 b ≡ false = grind (arith, nat_tests) in
    rw (e', g', f) refl

kind-closing : (rest : List ℕ) →
    html_kind (60 ∷ 47 ∷ rest) ≡
    basic_if (begins_basic rest)
    (complete_if (begins is_ascii_alphabetic rest && closes_tag (trim_start (after is_tag_byte rest))))
unfolding html_kind kind_after begins_raw is_raw_name begins_complete
kind-closing rest = refl

-- Refusals.

pub start-none : (rest : List ℕ) → begins (λ (b : ℕ). b == 60) rest ≡ false → html_kind rest ≡ None
unfolding html_kind
start-none [] e = refl
start-none (b ∷ bs) e = rw e refl

-- what may be after `<`
abbrev pub may_open : ℕ → Bool
may_open b = (b == 33) || ((b == 47) || ((b == 63) || is_ascii_alphabetic b))

empty-none : html_kind (60 ∷ []) ≡ None
unfolding html_kind kind_after begins_raw begins_basic begins_complete is_raw_name is_basic_name
empty-none = refl

pub open-none : (rest : List ℕ) → begins may_open rest ≡ false → html_kind (60 ∷ rest) ≡ None
unfolding begins_complete
open-none [] e = empty-none
open-none (b ∷ bs) e =
    let first = or_parts (nat_eq b 33) ((b == 47) || ((b == 63) || is_ascii_alphabetic b)) e in
    let second = or_parts (nat_eq b 47) ((b == 63) || is_ascii_alphabetic b) first.1 in
    let third = or_parts (nat_eq b 63) (is_ascii_alphabetic b) second.1 in
    kind-plain b bs first.0 second.0 third.0
    ∙ rw (raw-none (b ∷ bs) third.1, basic-none (b ∷ bs) third.1, second.0, third.1) refl

pub close-none : (rest : List ℕ) → begins is_ascii_alphabetic rest ≡ false → html_kind (60 ∷ 47 ∷ rest) ≡ None
close-none rest e = kind-closing rest ∙ rw (basic-none rest e, e) refl

-- what may be after `<!`
abbrev pub may_declare : ℕ → Bool
may_declare b = (b == 45) || ((b == 91) || is_ascii_alphabetic b)

pub declaration-none : (rest : List ℕ) → begins may_declare rest ≡ false → html_kind (60 ∷ 33 ∷ rest) ≡ None
unfolding html_kind kind_after begins_raw begins_basic begins_complete is_raw_name is_basic_name
declaration-none [] e = refl
declaration-none (b ∷ bs) e =
    let first = or_parts (nat_eq b 45) ((b == 91) || is_ascii_alphabetic b) e in
    let second = or_parts (nat_eq b 91) (is_ascii_alphabetic b) first.1 in
    let one : nat_eq b 45 ≡ false = first.0 in
    let two : nat_eq b 91 ≡ false = second.0 in
    let hyphen : nat_eq 45 b ≡ false = grind (arith, nat_tests) in
    let bracket : nat_eq 91 b ≡ false = grind (arith, nat_tests) in
    rw (hyphen, bracket, second.1) refl

pub comment-none : (rest : List ℕ) → begins (λ (b : ℕ). b == 45) rest ≡ false → html_kind (60 ∷ 33 ∷ 45 ∷ rest) ≡ None
unfolding html_kind kind_after begins_raw begins_basic begins_complete is_raw_name is_basic_name
comment-none [] e = refl
comment-none (b ∷ bs) e = let hyphen : nat_eq 45 b ≡ false = grind (arith, nat_tests) in rw hyphen refl

-- so much of `<![CDATA[`
abbrev pub cdata_front : ℕ → List ℕ
cdata_front size = codes "<![" ++ take size (codes "CDATA[")

pub cdata-none : (size : ℕ) (rest : List ℕ) → size ≤ 5 → begins (λ (b : ℕ). b == cdata_byte size) rest ≡ false →
    html_kind (cdata_front size ++ rest) ≡ None
unfolding html_kind kind_after begins_raw begins_basic begins_complete is_raw_name is_basic_name
cdata-none zero [] le e = refl
cdata-none (suc zero) [] le e = refl
cdata-none (suc (suc zero)) [] le e = refl
cdata-none (suc (suc (suc zero))) [] le e = refl
cdata-none (suc (suc (suc (suc zero)))) [] le e = refl
cdata-none (suc (suc (suc (suc (suc zero))))) [] le e = refl
cdata-none zero (b ∷ bs) le e = let k : nat_eq 67 b ≡ false = grind (arith, nat_tests) in rw k refl
cdata-none (suc zero) (b ∷ bs) le e = let k : nat_eq 68 b ≡ false = grind (arith, nat_tests) in rw k refl
cdata-none (suc (suc zero)) (b ∷ bs) le e = let k : nat_eq 65 b ≡ false = grind (arith, nat_tests) in rw k refl
cdata-none (suc (suc (suc zero))) (b ∷ bs) le e = let k : nat_eq 84 b ≡ false = grind (arith, nat_tests) in rw k refl
cdata-none (suc (suc (suc (suc zero)))) (b ∷ bs) le e =
    let k : nat_eq 65 b ≡ false = grind (arith, nat_tests) in rw k refl
cdata-none (suc (suc (suc (suc (suc zero))))) (b ∷ bs) le e =
    let k : nat_eq 91 b ≡ false = grind (arith, nat_tests) in rw k refl
cdata-none (suc (suc (suc (suc (suc (suc n)))))) rest le e = absurd (omega arith)

-- one byte more of it
pub cdata-more : (size : ℕ) → size ≤ 4 → cdata_front size ++ cdata_byte size ∷ [] ≡ cdata_front (size + 1)
cdata-more zero le = refl
cdata-more (suc zero) le = refl
cdata-more (suc (suc zero)) le = refl
cdata-more (suc (suc (suc zero))) le = refl
cdata-more (suc (suc (suc (suc zero)))) le = refl
cdata-more (suc (suc (suc (suc (suc n))))) le = absurd (omega arith)

-- Decisions.

-- the kind is known, and what is before the rest holds no end of it
pub record Decided (k : HtmlKind) (front before rest : List ℕ) : Type 0 where
  pub kind : html_kind (front ++ rest) ≡ Some k
  pub ends : html_ends k (front ++ rest) ≡ html_ends k (before ++ rest)

pub instruction-known : (rest : List ℕ) → Decided Instruction (codes "<?") (codes "?") rest
unfolding html_kind kind_after begins_raw is_raw_name html_ends
instruction-known rest = record { kind = refl; ends = refl }

pub comment-known : (rest : List ℕ) → Decided Comment (codes "<!--") (codes "--") rest
unfolding html_kind kind_after begins_raw is_raw_name html_ends
comment-known rest = record { kind = refl; ends = refl }

pub cdata-known : (rest : List ℕ) → Decided Cdata (codes "<![CDATA[") [] rest
unfolding html_kind kind_after begins_raw is_raw_name html_ends
cdata-known rest = record { kind = refl; ends = refl }

pub declaration-known : (b : ℕ) (rest : List ℕ) → is_ascii_alphabetic b ≡ true →
    Decided Declaration (60 ∷ 33 ∷ b ∷ []) [] rest
unfolding html_kind kind_after begins_raw is_raw_name html_ends
declaration-known b rest e =
    let hyphen : nat_eq 45 b ≡ false = grind (arith, nat_tests) in
    let last : nat_eq 62 b ≡ false = grind (arith, nat_tests) in
    record { kind = rw (hyphen, e) refl; ends = rw last refl }

-- The kinds of tags, by the name.

-- by whether the name is one of kind 1, and whether it is one of kind 6
abbrev pub open_kind : Bool → Bool → List ℕ → Option HtmlKind
open_kind raw basic more =
    cond (raw && ends_name more) (Some Raw) (basic_if (basic && ends_basic more) (complete_if (ends_opening more)))

abbrev pub close_kind : Bool → List ℕ → Option HtmlKind
close_kind basic more = basic_if (basic && ends_basic more) (complete_if (closes_tag (trim_start more)))

-- a name: a letter, and bytes of names
pub record IsTagName (name : List ℕ) : Type 0 where
  pub letter : begins is_ascii_alphabetic name ≡ true
  pub bytes : list_all is_tag_byte name ≡ true

raw-name : (name more : List ℕ) → IsTagName name → begins is_tag_byte more ≡ false →
    begins_raw (name ++ more) ≡ is_raw_name name && ends_name more
unfolding begins_raw
raw-name name more is e =
    ap₂ (λ (x y : List ℕ). is_raw_name x && ends_name y) (run-front is_tag_byte name more is.bytes e)
    (after-run is_tag_byte name more is.bytes e)

basic-name : (name more : List ℕ) → IsTagName name → begins is_tag_byte more ≡ false →
    begins_basic (name ++ more) ≡ is_basic_name name && ends_basic more
unfolding begins_basic
basic-name name more is e =
    ap₂ (λ (x y : List ℕ). is_basic_name x && ends_basic y) (run-front is_tag_byte name more is.bytes e)
    (after-run is_tag_byte name more is.bytes e)

pub opening-kind : (name more : List ℕ) → IsTagName name → begins is_tag_byte more ≡ false →
    html_kind (60 ∷ name ++ more) ≡ open_kind (is_raw_name name) (is_basic_name name) more
unfolding begins_complete
opening-kind [] more is e = let bad = is.letter in cc
opening-kind (b ∷ bs) more is e =
    let letter : is_ascii_alphabetic b ≡ true = is.letter in
    let one : nat_eq b 33 ≡ false = grind (arith, nat_tests) in
    let two : nat_eq b 47 ≡ false = grind (arith, nat_tests) in
    let three : nat_eq b 63 ≡ false = grind (arith, nat_tests) in
    let both = and_parts (is_tag_byte b) (list_all is_tag_byte bs) is.bytes in
    kind-plain b (bs ++ more) one two three
    ∙ ap₂ (λ (x y : Bool). cond x (Some Raw) (basic_if y (complete_if (begins_complete (b ∷ bs ++ more)))))
    (raw-name (b ∷ bs) more is e) (basic-name (b ∷ bs) more is e)
    ∙ ap
    (λ (x : Bool).
    cond (is_raw_name (b ∷ bs) && ends_name more) (Some Raw)
    (basic_if (is_basic_name (b ∷ bs) && ends_basic more) (complete_if x)))
    (by two letter (after-run is_tag_byte bs more both.1 e))
  where
    by : nat_eq b 47 ≡ false → is_ascii_alphabetic b ≡ true → after is_tag_byte (bs ++ more) ≡ more →
        begins_complete (b ∷ bs ++ more) ≡ ends_opening more
    by two letter rest =
        ap₂
        (λ (x y : Bool).
        cond x
        (begins is_ascii_alphabetic (bs ++ more) && closes_tag (trim_start (after is_tag_byte (bs ++ more))))
        (y && ends_opening (after is_tag_byte (bs ++ more)))) two letter
        ∙ ap ends_opening rest

pub closing-kind : (name more : List ℕ) → IsTagName name → begins is_tag_byte more ≡ false →
    html_kind (60 ∷ 47 ∷ name ++ more) ≡ close_kind (is_basic_name name) more
closing-kind [] more is e = let bad = is.letter in cc
closing-kind (b ∷ bs) more is e =
    let letter : is_ascii_alphabetic b ≡ true = is.letter in
    kind-closing (b ∷ bs ++ more)
    ∙ ap₂ (λ (x y : Bool). basic_if x (complete_if (y && closes_tag (trim_start (after is_tag_byte (b ∷ bs ++ more))))))
    (basic-name (b ∷ bs) more is e) letter
    ∙ ap
    (λ (l : List ℕ). basic_if (is_basic_name (b ∷ bs) && ends_basic more) (complete_if (closes_tag (trim_start l))))
    (after-run is_tag_byte (b ∷ bs) more is.bytes e)

-- A name holds no end of kind 1.

-- in any ASCII case, `<` and `/` are no bytes of a name
lower-apart : (b : ℕ) → nat_eq b 60 ≡ false → nat_eq 60 (to_ascii_lowercase b) ≡ false
lower-apart b e = grind (arith, nat_tests)

lower-letter : (b : ℕ) → is_ascii_alphabetic b ≡ true → nat_eq 47 (to_ascii_lowercase b) ≡ false
lower-letter b e = grind (arith, nat_tests)

no-end : (b : ℕ) (bs : List ℕ) → nat_eq b 60 ≡ false → is_raw_end (b ∷ bs) ≡ false
unfolding is_raw_end
no-end b bs e = rw (lower-apart b e) refl

no-end-open : (b : ℕ) (bs : List ℕ) → is_ascii_alphabetic b ≡ true → is_raw_end (60 ∷ b ∷ bs) ≡ false
unfolding is_raw_end
no-end-open b bs e = rw (lower-letter b e) refl

tag-plain : (b : ℕ) → is_tag_byte b ≡ true → nat_eq b 60 ≡ false
tag-plain b e = grind (arith, nat_tests)

no-ends : (name more : List ℕ) → list_all is_tag_byte name ≡ true →
    html_ends Raw (name ++ more) ≡ html_ends Raw more
unfolding html_ends
no-ends [] more a = refl
no-ends (b ∷ bs) more a =
    let both = and_parts (is_tag_byte b) (list_all is_tag_byte bs) a in
    ap (λ (x : Bool). x || holds is_raw_end (bs ++ more)) (no-end b (bs ++ more) (tag-plain b both.0))
    ∙ no-ends bs more both.1

pub raw-ends : (name more : List ℕ) → IsTagName name → html_ends Raw (60 ∷ name ++ more) ≡ html_ends Raw more
unfolding html_ends
raw-ends [] more is = let bad = is.letter in cc
raw-ends (b ∷ bs) more is =
    ap (λ (x : Bool). x || holds is_raw_end (b ∷ bs ++ more)) (no-end-open b (bs ++ more) is.letter)
    ∙ no-ends (b ∷ bs) more is.bytes
