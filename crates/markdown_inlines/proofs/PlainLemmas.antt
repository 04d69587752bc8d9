-- Bytes that begin nothing, and whitespace that ends no line.
use Rattle.std.proofs.Common.{◌≡◌, ℕ, ◌+◌, Bool, true, false, cond, List, [], ◌∷◌}
use Rattle.std.proofs.Common.{drop, Option, Some, None, refl, ap, sym, ◌∙◌, arith}
use Rattle.std.specs.Prelude.{◌&&◌, ◌||◌, ◌==◌, not, nat_eq, nat_lt, codes, option_map, if◌then◌else◌}
use Rattle.std.specs.List.{list_any, prefix_len}
use Rattle.std.specs.Char.{to_ascii_lowercase}
use Rattle.std.proofs.lemmas.Bool.{and_parts, or_parts}
use Rattle.std.proofs.lemmas.Bool.Decides.{nat_tests}
use Rattle.md_meaning.specs.Ascii.{right_bracket}
use Rattle.md_meaning.specs.Html.{starts_in_any_case}
use Rattle.md_meaning.specs.Rest.{is_white}
use Rattle.md_inline_events.specs.Forest.{Forest}
use Rattle.md_inlines.specs.declared.InlineOptions.{InlineOptions}
use Rattle.md_inlines.specs.declared.LiteralKind.TheVariants as n
use Rattle.md_inlines.specs.Atoms.{address, atom, autolink_at, break_escape_at, code_at, escape_at, html_at, math_at}
use Rattle.md_inlines.specs.Atoms.{or_else, reference_forest, trailing_at, when}
use Rattle.md_inlines.specs.Breaks.{ends_here, trailing_len}
use Rattle.md_inlines.specs.Brackets.{Front, closes, is_atom, is_run, is_text, opens}
use Rattle.md_inlines.specs.Flanking.{run_at}
use Rattle.md_inlines.specs.Literal.{address as literal_of, literal_at, may_follow}
use Rattle.md_inlines.specs.Targets.{string_atom}
use Rattle.markdown_inlines.specs.Found.{may_begin_string_atom}
use Rattle.markdown_inlines.specs.Plain.{begins_text, is_bare, is_plain, is_quiet}
use Rattle.markdown_inlines.specs.Reading.{front_at, is_mark, opening}

-- no whitespace is at the front
pub dark-trailing : (b : ℕ) (text : List ℕ) → is_white b ≡ false → trailing_len (b ∷ text) ≡ 0
unfolding trailing_len
dark-trailing b text e =
    let none : prefix_len is_white (b ∷ text) ≡ 0 = rw e refl in
    ap (λ n. cond (ends_here (drop n (b ∷ text))) n 0) none ∙ go 0 (ends_here (b ∷ text))
  where
    go : (n : ℕ) (t : Bool) → cond t n n ≡ n
    go n true = refl
    go n false = refl

-- The front of a text that begins with a plain byte.

low-other : (m b n : ℕ) → (b == m) ≡ false → (b == n) ≡ false → n + 32 ≡ m → nat_eq m (to_ascii_lowercase b) ≡ false
low-other m b n small large above = go (nat_lt b 65) (nat_lt b 91) refl refl
  where
    go : (t u : Bool) → nat_lt b 65 ≡ t → nat_lt b 91 ≡ u → nat_eq m (cond t b (cond u (b + 32) b)) ≡ false
    go true u e f = grind (arith, nat_tests)
    go false true e f = grind (arith, nat_tests)
    go false false e f = grind (arith, nat_tests)

swap : (c b : ℕ) → (c == b) ≡ false → (b == c) ≡ false
swap c b e = grind (arith, nat_tests)

-- which bytes a plain one is not
record Others (b : ℕ) : Type 0 where
  bang : (b == 33) ≡ false
  dollar : (b == 36) ≡ false
  ampersand : (b == 38) ≡ false
  star : (b == 42) ≡ false
  less : (b == 60) ≡ false
  left : (b == 91) ≡ false
  slash : (b == 92) ≡ false
  right : (b == 93) ≡ false
  under : (b == 95) ≡ false
  tick : (b == 96) ≡ false
  tilde : (b == 126) ≡ false

others : (b : ℕ) → list_any (λ c. c == b) (codes "!$&*<[\\]_`~") ≡ false → Others b
others b h =
    let p0 = or_parts (33 == b) _ h in
    let p1 = or_parts (36 == b) _ p0.1 in
    let p2 = or_parts (38 == b) _ p1.1 in
    let p3 = or_parts (42 == b) _ p2.1 in
    let p4 = or_parts (60 == b) _ p3.1 in
    let p5 = or_parts (91 == b) _ p4.1 in
    let p6 = or_parts (92 == b) _ p5.1 in
    let p7 = or_parts (93 == b) _ p6.1 in
    let p8 = or_parts (95 == b) _ p7.1 in
    let p9 = or_parts (96 == b) _ p8.1 in
    let p10 = or_parts (126 == b) _ p9.1 in
    record {
      bang = swap 33 b p0.0;
      dollar = swap 36 b p1.0;
      ampersand = swap 38 b p2.0;
      star = swap 42 b p3.0;
      less = swap 60 b p4.0;
      left = swap 91 b p5.0;
      slash = swap 92 b p6.0;
      right = swap 93 b p7.0;
      under = swap 95 b p8.0;
      tick = swap 96 b p9.0;
      tilde = swap 126 b p10.0;
    }

-- which bytes it is not with which an atom begins, but for an address
record Unbound (b : ℕ) : Type 0 where
  dollar : (b == 36) ≡ false
  ampersand : (b == 38) ≡ false
  less : (b == 60) ≡ false
  slash : (b == 92) ≡ false
  tick : (b == 96) ≡ false

-- a byte that passes a test is no other that fails
unlike : (p : ℕ → Bool) (b k : ℕ) → p b ≡ true → p k ≡ false → (b == k) ≡ false
unlike p b k passes fails = go (b == k) refl
  where
    go : (t : Bool) → (b == k) ≡ t → t ≡ false
    go true e =
        let is : b ≡ k = grind (arith, nat_tests) in
        let both : true ≡ false = sym passes ∙ ap p is ∙ fails in
        cc
    go false e = refl

not-true : (x : Bool) → not x ≡ true → x ≡ false
not-true true h = cc
not-true false h = refl

-- An address begins with `http` or `www`.
record NoAddress (text : List ℕ) : Type 0 where
  www : starts_in_any_case text (codes "www.") ≡ false
  http : starts_in_any_case text (codes "http://") ≡ false
  https : starts_in_any_case text (codes "https://") ≡ false

none-there : (on : Bool) (before text : List ℕ) → NoAddress text →
    when on (option_map address (literal_at before text)) ≡ None
unfolding literal_at
none-there false before text p = refl
none-there true before text p = go (may_follow before)
  where
    go : (m : Bool) →
        option_map address
        (cond (not m) None
        (cond (starts_in_any_case text (codes "www.")) (literal_of n.Www 4 text)
        (cond (starts_in_any_case text (codes "http://")) (literal_of n.Protocol 7 text)
        (cond (starts_in_any_case text (codes "https://")) (literal_of n.Protocol 8 text) None)))) ≡
        None
    go false = refl
    go true =
        ap
        (λ x.
        option_map address
        (cond x (literal_of n.Www 4 text)
        (cond (starts_in_any_case text (codes "http://")) (literal_of n.Protocol 7 text)
        (cond (starts_in_any_case text (codes "https://")) (literal_of n.Protocol 8 text) None)))) p.www
        ∙ ap
        (λ x.
        option_map address
        (cond x (literal_of n.Protocol 7 text)
        (cond (starts_in_any_case text (codes "https://")) (literal_of n.Protocol 8 text) None))) p.http
        ∙ ap (λ x. option_map address (cond x (literal_of n.Protocol 8 text) None)) p.https

-- the first byte is another
other-first : (b : ℕ) (text : List ℕ) → nat_eq 119 (to_ascii_lowercase b) ≡ false →
    nat_eq 104 (to_ascii_lowercase b) ≡ false → NoAddress (b ∷ text)
other-first b text no-w no-h = record { www = rw no-w refl; http = rw no-h refl; https = rw no-h refl }

-- no address begins with it
no-address : (literals outside : Bool) (before : List ℕ) (b : ℕ) (text : List ℕ) →
    not (literals && list_any (λ c. c == b) (codes "HWhw")) ≡ true →
    when (literals && outside) (option_map address (literal_at before (b ∷ text))) ≡ None
no-address false outside before b text h = refl
no-address true outside before b text h =
    none-there outside before (b ∷ text)
    (other-first b text (low-other 119 b 87 (swap 119 b p3.0) (swap 87 b p1.0) refl)
    (low-other 104 b 72 (swap 104 b p2.0) (swap 72 b p0.0) refl))
  where
    any : list_any (λ c. c == b) (codes "HWhw") ≡ false
    any = not-true (list_any (λ c. c == b) (codes "HWhw")) h

    p0 : ((72 == b) ≡ false) × (list_any (λ c. c == b) (codes "Whw") ≡ false)
    p0 = or_parts (72 == b) (list_any (λ c. c == b) (codes "Whw")) any

    p1 : ((87 == b) ≡ false) × (list_any (λ c. c == b) (codes "hw") ≡ false)
    p1 = or_parts (87 == b) (list_any (λ c. c == b) (codes "hw")) p0.1

    p2 : ((104 == b) ≡ false) × (list_any (λ c. c == b) (codes "w") ≡ false)
    p2 = or_parts (104 == b) (list_any (λ c. c == b) (codes "w")) p1.1

    p3 : ((119 == b) ≡ false) × (false ≡ false)
    p3 = or_parts (119 == b) false p2.1

-- Two bytes of which the first is that of `http` or `www`, and the second is not.

second-other : (x y rest : Bool) → y ≡ false → (x && (y && rest)) ≡ false
second-other true y rest h = ap (λ (t : Bool). t && rest) h
second-other false y rest h = refl

abbrev one_of : List ℕ → ℕ → Bool
one_of bytes b = list_any (λ c. c == b) bytes

-- `h`, and no `t`
quiet-h : (b c : ℕ) (text : List ℕ) → one_of (codes "Hh") b ≡ true → one_of (codes "Tt") c ≡ false →
    NoAddress (b ∷ c ∷ text)
quiet-h b c text h other = record {
  www = rw no-w refl;
  http = second-other (nat_eq 104 (to_ascii_lowercase b)) (nat_eq 116 (to_ascii_lowercase c)) _ no-t;
  https = second-other (nat_eq 104 (to_ascii_lowercase b)) (nat_eq 116 (to_ascii_lowercase c)) _ no-t;
}
  where
    p0 : ((84 == c) ≡ false) × (one_of (codes "t") c ≡ false)
    p0 = or_parts (84 == c) (one_of (codes "t") c) other

    p1 : ((116 == c) ≡ false) × (false ≡ false)
    p1 = or_parts (116 == c) false p0.1

    no-t : nat_eq 116 (to_ascii_lowercase c) ≡ false
    no-t = low-other 116 c 84 (swap 116 c p1.0) (swap 84 c p0.0) refl

    no-w : nat_eq 119 (to_ascii_lowercase b) ≡ false
    no-w =
        low-other 119 b 87 (unlike (one_of (codes "Hh")) b 119 h refl) (unlike (one_of (codes "Hh")) b 87 h refl) refl

-- `w`, and no second one
quiet-w : (b c : ℕ) (text : List ℕ) → one_of (codes "Ww") b ≡ true → one_of (codes "Ww") c ≡ false →
    NoAddress (b ∷ c ∷ text)
quiet-w b c text h other = record {
  www = second-other (nat_eq 119 (to_ascii_lowercase b)) (nat_eq 119 (to_ascii_lowercase c)) _ no-w;
  http = rw no-h refl;
  https = rw no-h refl;
}
  where
    p0 : ((87 == c) ≡ false) × (one_of (codes "w") c ≡ false)
    p0 = or_parts (87 == c) (one_of (codes "w") c) other

    p1 : ((119 == c) ≡ false) × (false ≡ false)
    p1 = or_parts (119 == c) false p0.1

    no-w : nat_eq 119 (to_ascii_lowercase c) ≡ false
    no-w = low-other 119 c 87 (swap 119 c p1.0) (swap 87 c p0.0) refl

    no-h : nat_eq 104 (to_ascii_lowercase b) ≡ false
    no-h =
        low-other 104 b 72 (unlike (one_of (codes "Ww")) b 104 h refl) (unlike (one_of (codes "Ww")) b 72 h refl) refl

-- what is known of their first byte: no address is there, and but for one no atom
record Quiet (b : ℕ) (text : List ℕ) : Type 0 where
  none : NoAddress (b ∷ text)
  others : list_any (λ c. c == b) (codes "!$&*<[\\]_`~") ≡ false
  dark : is_white b ≡ false

others-unlike : (p : ℕ → Bool) (b : ℕ) → p b ≡ true → p 33 ≡ false → p 36 ≡ false → p 38 ≡ false → p 42 ≡ false →
    p 60 ≡ false → p 91 ≡ false → p 92 ≡ false → p 93 ≡ false → p 95 ≡ false → p 96 ≡ false → p 126 ≡ false →
    list_any (λ c. c == b) (codes "!$&*<[\\]_`~") ≡ false
others-unlike p b h a1 a2 a3 a4 a5 a6 a7 a8 a9 a10 a11 =
    let e1 : (33 == b) ≡ false = swap b 33 (unlike p b 33 h a1) in
    let e2 : (36 == b) ≡ false = swap b 36 (unlike p b 36 h a2) in
    let e3 : (38 == b) ≡ false = swap b 38 (unlike p b 38 h a3) in
    let e4 : (42 == b) ≡ false = swap b 42 (unlike p b 42 h a4) in
    let e5 : (60 == b) ≡ false = swap b 60 (unlike p b 60 h a5) in
    let e6 : (91 == b) ≡ false = swap b 91 (unlike p b 91 h a6) in
    let e7 : (92 == b) ≡ false = swap b 92 (unlike p b 92 h a7) in
    let e8 : (93 == b) ≡ false = swap b 93 (unlike p b 93 h a8) in
    let e9 : (95 == b) ≡ false = swap b 95 (unlike p b 95 h a9) in
    let e10 : (96 == b) ≡ false = swap b 96 (unlike p b 96 h a10) in
    let e11 : (126 == b) ≡ false = swap b 126 (unlike p b 126 h a11) in
    rw (e1, e2, e3, e4, e5, e6, e7, e8, e9, e10, e11) refl

dark-unlike : (p : ℕ → Bool) (b : ℕ) → p b ≡ true → p 32 ≡ false → p 9 ≡ false → is_white b ≡ false
dark-unlike p b h space tab =
    let e1 : (b == 32) ≡ false = unlike p b 32 h space in
    let e2 : (b == 9) ≡ false = unlike p b 9 h tab in
    rw (e1, e2) refl

quiet-first : (b : ℕ) (text : List ℕ) → is_quiet (b ∷ text) ≡ true → Quiet b text
quiet-first b [] h = cc
quiet-first b (c ∷ text) h =
    go (one_of (codes "Hh") b) (one_of (codes "Tt") c) (one_of (codes "Ww") b) (one_of (codes "Ww") c) refl refl refl
    refl h
  where
    by-h : one_of (codes "Hh") b ≡ true → one_of (codes "Tt") c ≡ false → Quiet b (c ∷ text)
    by-h e f = record {
      none = quiet-h b c text e f;
      others =
          others-unlike (one_of (codes "Hh")) b e refl refl refl refl refl refl refl refl refl refl refl;
      dark = dark-unlike (one_of (codes "Hh")) b e refl refl;
    }

    by-w : one_of (codes "Ww") b ≡ true → one_of (codes "Ww") c ≡ false → Quiet b (c ∷ text)
    by-w e f = record {
      none = quiet-w b c text e f;
      others =
          others-unlike (one_of (codes "Ww")) b e refl refl refl refl refl refl refl refl refl refl refl;
      dark = dark-unlike (one_of (codes "Ww")) b e refl refl;
    }

    go : (x y z u : Bool) → one_of (codes "Hh") b ≡ x → one_of (codes "Tt") c ≡ y → one_of (codes "Ww") b ≡ z →
        one_of (codes "Ww") c ≡ u → ((x && not y) || (z && not u)) ≡ true → Quiet b (c ∷ text)
    go true false z u e f g k h = by-h e f
    go true true true false e f g k h = by-w g k
    go true true true true e f g k h = cc
    go true true false u e f g k h = cc
    go false y true false e f g k h = by-w g k
    go false y true true e f g k h = cc
    go false y false u e f g k h = cc

when-none : (on : Bool) (found : Option Forest) → found ≡ None → when on found ≡ None
when-none true found h = h
when-none false found h = refl

none-else : (found other : Option Forest) → found ≡ None → other ≡ None → or_else found other ≡ None
none-else found other h k = ap (λ f. or_else f other) h ∙ k

no-trailing : (hard : Bool) (text : List ℕ) → trailing_len text ≡ 0 → trailing_at hard text ≡ None
no-trailing hard text h =
    let zero : (trailing_len text == 0) ≡ true = ap (λ (k : ℕ). k == 0) h in
    rw zero refl

no-atom : (options : InlineOptions) (outside : Bool) (before : List ℕ) (b : ℕ) (text : List ℕ) → Unbound b →
    when (options.constructs.gfm_autolink_literal && outside) (option_map address (literal_at before (b ∷ text))) ≡ None →
    trailing_len (b ∷ text) ≡ 0 → atom options outside before (b ∷ text) ≡ None
no-atom options outside before b text p none trail =
    let on = options.constructs in
    let escape : escape_at (b ∷ text) ≡ None = rw p.slash refl in
    let hard : break_escape_at (b ∷ text) ≡ None = rw p.slash refl in
    let reference : reference_forest (b ∷ text) ≡ None = rw p.ampersand refl in
    let code : code_at (b ∷ text) ≡ None = rw p.tick refl in
    let math : math_at options.math_text_single_dollar (b ∷ text) ≡ None = rw p.dollar refl in
    let autolink : autolink_at (b ∷ text) ≡ None = rw p.less refl in
    let html : html_at (b ∷ text) ≡ None = rw p.less refl in
    none-else _ _ (when-none on.character_escape _ escape)
    (none-else _ _ (when-none on.hard_break_escape _ hard)
    (none-else _ _ (when-none on.character_reference _ reference)
    (none-else _ _ (when-none on.code_text _ code)
    (none-else _ _ (when-none on.math_text _ math)
    (none-else _ _ (when-none on.autolink _ autolink)
    (none-else _ _ (when-none on.html_text _ html)
    (none-else _ _ (no-trailing on.hard_break_trailing (b ∷ text) trail)
    none)))))))

unbound : (b : ℕ) → Others b → Unbound b
unbound b p = record {
  dollar = p.dollar;
  ampersand = p.ampersand;
  less = p.less;
  slash = p.slash;
  tick = p.tick;
}

-- A mark or a bracket.

bare-unbound : (b : ℕ) → is_bare b ≡ true → Unbound b
bare-unbound b h = record {
  dollar = unlike is_bare b 36 h refl;
  ampersand = unlike is_bare b 38 h refl;
  less = unlike is_bare b 60 h refl;
  slash = unlike is_bare b 92 h refl;
  tick = unlike is_bare b 96 h refl;
}

bare-first : (b : ℕ) (text : List ℕ) → is_bare b ≡ true → NoAddress (b ∷ text)
bare-first b text h =
    other-first b text (low-other 119 b 87 (unlike is_bare b 119 h refl) (unlike is_bare b 87 h refl) refl)
    (low-other 104 b 72 (unlike is_bare b 104 h refl) (unlike is_bare b 72 h refl) refl)

pub bare-atom : (options : InlineOptions) (outside : Bool) (before : List ℕ) (b : ℕ) (following text : List ℕ) →
    text ≡ b ∷ following → is_bare b ≡ true → atom options outside before text ≡ None
bare-atom options outside before b following text is h =
    ap (atom options outside before) is
    ∙ no-atom options outside before b following (bare-unbound b h)
    (none-there (options.constructs.gfm_autolink_literal && outside) before (b ∷ following) (bare-first b following h))
    (dark-trailing b following (dark-unlike is_bare b h refl refl))

-- A text with escapes and character references alone.

pub no-string_atom : (options : InlineOptions) (text : List ℕ) → may_begin_string_atom text ≡ false →
    string_atom options text ≡ None
no-string_atom options [] h =
    none-else _ _ (when-none options.constructs.character_escape _ refl)
    (when-none options.constructs.character_reference _ refl)
no-string_atom options (b ∷ text) h =
    let parts : ((b == 92) ≡ false) × ((b == 38) ≡ false) = or_parts (b == 92) (b == 38) h in
    let escape : escape_at (b ∷ text) ≡ None = rw parts.0 refl in
    let reference : reference_forest (b ∷ text) ≡ None = rw parts.1 refl in
    none-else _ _ (when-none options.constructs.character_escape _ escape)
    (when-none options.constructs.character_reference _ reference)

-- what is at the front, by the atom that is there
abbrev front_by : InlineOptions → Bool → List ℕ → ℕ → List ℕ → Option Forest → Front
front_by options inside before b text found = elim found as (λ o. Front) [
  | Some f ↦ is_atom f
  | None ↦
      (if is_mark options b then is_run (run_at b before (b ∷ text))
      else if not (opening options (b ∷ text) == 0) then opens (opening options (b ∷ text))
      else if inside && (b == right_bracket) then closes
      else is_text)
]

front-text : (options : InlineOptions) (inside : Bool) (before : List ℕ) (b : ℕ) (text : List ℕ) → Others b →
    when (options.constructs.gfm_autolink_literal && not inside) (option_map address (literal_at before (b ∷ text))) ≡
    None →
    trailing_len (b ∷ text) ≡ 0 → front_at options inside before b (b ∷ text) ≡ is_text
front-text options inside before b text p none trail =
    ap (front_by options inside before b text)
    (no-atom options (not inside) before b text (unbound b p) none trail)
    ∙ rest inside
  where
    mark : is_mark options b ≡ false
    mark = rw (p.star, p.under, p.tilde) refl

    no-opening : opening options (b ∷ text) ≡ 0
    no-opening = rw (p.left, p.bang) refl

    last : (i : Bool) → (i && (b == right_bracket)) ≡ false
    last true = p.right
    last false = refl

    rest : (i : Bool) → front_by options i before b text None ≡ is_text
    rest i =
        ap
        (λ m.
        cond m (is_run (run_at b before (b ∷ text)))
        (cond (not (opening options (b ∷ text) == 0)) (opens (opening options (b ∷ text)))
        (cond (i && (b == right_bracket)) closes is_text))) mark
        ∙ ap
        (λ (k : ℕ).
        cond (not (k == 0)) (opens k) (cond (i && (b == right_bracket)) closes is_text)) no-opening
        ∙ ap (λ t. cond t closes is_text) (last i)

-- a byte of text
pub text-front : (options : InlineOptions) (inside : Bool) (before : List ℕ) (b : ℕ) (text : List ℕ) →
    begins_text options.constructs.gfm_autolink_literal (b ∷ text) ≡ true →
    front_at options inside before b (b ∷ text) ≡ is_text
text-front options inside before b text passes = go (is_plain literals b) (is_quiet (b ∷ text)) refl refl parts.0
  where
    literals : Bool
    literals = options.constructs.gfm_autolink_literal

    parts : ((is_plain literals b || is_quiet (b ∷ text)) ≡ true) × ((trailing_len (b ∷ text) == 0) ≡ true)
    parts = and_parts (is_plain literals b || is_quiet (b ∷ text)) (trailing_len (b ∷ text) == 0) passes

    trail : trailing_len (b ∷ text) ≡ 0
    trail = let test = parts.1 in grind (arith, nat_tests, test)

    go : (x y : Bool) → is_plain literals b ≡ x → is_quiet (b ∷ text) ≡ y → (x || y) ≡ true →
        front_at options inside before b (b ∷ text) ≡ is_text
    go true y e f h =
        let both : (not (list_any (λ c. c == b) (codes "!$&*<[\\]_`~")) ≡ true) ×
        (not (literals && list_any (λ c. c == b) (codes "HWhw")) ≡ true) =
        and_parts (not (list_any (λ c. c == b) (codes "!$&*<[\\]_`~")))
        (not (literals && list_any (λ c. c == b) (codes "HWhw"))) e in
        front-text options inside before b text
        (others b (not-true (list_any (λ c. c == b) (codes "!$&*<[\\]_`~")) both.0))
        (no-address literals (not inside) before b text both.1) trail
    go false true e f h =
        let q : Quiet b text = quiet-first b text f in
        front-text options inside before b text (others b q.others)
        (none-there (literals && not inside) before (b ∷ text) q.none) trail
    go false false e f h = cc
