-- Searches that fail from a place on.
use Rattle.std.proofs.Common.{◌≡◌, ℕ, suc, ◌+◌, ◌-◌, ◌<◌, ◌≤◌, Bool, true, false, cond, ◌&&◌, List, [], ◌∷◌, length}
use Rattle.std.proofs.Common.{drop, get_or, Option, Some, None, refl, ap, sym, ◌∙◌, arith}
use Rattle.std.specs.Prelude.{◌==◌, not, codes, nat_eq, nat_le, option_map}
use Rattle.std.specs.Char.{is_ascii_alphabetic}
use Rattle.std.specs.List.{starts_with}
use Rattle.std.proofs.Math.Seq.{drop-cons}
use Rattle.std.proofs.lemmas.Bool.Decides.{nat_tests}
use Rattle.std.proofs.lemmas.List.{drop-drop}
use Rattle.md_meaning.specs.Ascii.{dot}
use Rattle.md_meaning.specs.Lines.{begins_with}
use Rattle.md_meaning.specs.Rest.{run_len}
use Rattle.md_inlines.specs.Code.{before_run, raw_at}
use Rattle.md_meaning.specs.Bytes.{begins}
use Rattle.md_meaning.specs.Html.{after_next, starts_in_any_case}
use Rattle.md_inlines.specs.Literal.{address as literal_of, domain_len, literal_at, may_follow}
use Rattle.md_inlines.specs.declared.LiteralKind.TheVariants as n
use Rattle.md_inlines.specs.RawHtml.{after_comment, after_html, after_marked, after_word}
use Rattle.markdown_inlines.specs.Ends.{AreGone}
use Rattle.markdown_inlines.specs.declared.ends.Gone.{Gone}

pub marks : (b mark : ℕ) → b ≡ mark → (b == mark) ≡ true
marks b mark e = grind (arith, nat_tests)

pub no-mark : (b mark : ℕ) → (b ≡ mark → ⊥) → (b == mark) ≡ false
no-mark b mark e = grind (arith, nat_tests)

map-none : (found : Option ℕ) → option_map suc found ≡ None → found ≡ None
map-none None h = refl
map-none (Some n) h = cc

-- where a text begins with no mark, or with a run of another size
pub other-absent : (mark size : ℕ) (text : List ℕ) → before_run mark size true text ≡ None →
    (0 < run_len mark text → run_len mark text ≡ size → ⊥) → before_run mark size false text ≡ None
other-absent mark size [] h other = refl
other-absent mark size (b ∷ text) h other = go (b == mark) refl (run_len mark (b ∷ text) == size) refl h
  where
    go : (x : Bool) → (b == mark) ≡ x → (y : Bool) → (run_len mark (b ∷ text) == size) ≡ y →
        cond (x && not true && y) (Some 0) (option_map suc (before_run mark size x text)) ≡ None →
        cond (x && not false && y) (Some 0) (option_map suc (before_run mark size x text)) ≡ None
    go false e y f k = k
    go true e true f k =
        let len : run_len mark (b ∷ text) ≡ 1 + run_len mark text = rw e refl in
        let same : run_len mark (b ∷ text) ≡ size = grind (arith, nat_tests) in
        absurd (other (omega (arith, len)) same)
    go true e false f k = k

-- a search that fails within a run fails after it
pub run-absent : (mark size : ℕ) (text : List ℕ) → before_run mark size true text ≡ None →
    before_run mark size false (drop (run_len mark text) text) ≡ None
run-absent mark size [] h = refl
run-absent mark size (b ∷ text) h = go (b == mark) refl h (run-absent mark size text)
  where
    go : (x : Bool) → (b == mark) ≡ x →
        cond (x && not true && (run_len mark (b ∷ text) == size)) (Some 0)
        (option_map suc (before_run mark size x text)) ≡
        None →
        (before_run mark size true text ≡ None → before_run mark size false (drop (run_len mark text) text) ≡ None) →
        before_run mark size false (drop (run_len mark (b ∷ text)) (b ∷ text)) ≡ None
    go true e k rest =
        let len : run_len mark (b ∷ text) ≡ 1 + run_len mark text = rw e refl in
        let more : run_len mark (b ∷ text) ≡ suc (run_len mark text) = omega (arith, len) in
        ap (λ n. before_run mark size false (drop n (b ∷ text))) more
        ∙ rest (map-none (before_run mark size true text) k)
    go false e k rest =
        let none : run_len mark (b ∷ text) ≡ 0 = rw e refl in
        let here : before_run mark size false (b ∷ text) ≡ option_map suc (before_run mark size false text) =
        rw e refl in
        ap (λ n. before_run mark size false (drop n (b ∷ text))) none ∙ here ∙ k

pub raw-absent : (mark : ℕ) (text : List ℕ) → before_run mark (run_len mark text) true text ≡ None →
    raw_at mark text ≡ None
unfolding raw_at
raw-absent mark text h =
    ap (option_map (λ len. record { size = run_len mark text; inside = len }))
    (run-absent mark (run_len mark text) text h)

-- From a place on, no run begins of a size whose last run is before.
abbrev pub LastFrom : ℕ → List ℕ → List ℕ → ℕ → Type 0
LastFrom mark text last from =
    (size at : ℕ) → from ≤ at → get_or last size 0 ≤ at → before_run mark size true (drop at text) ≡ None

-- one byte before: it is a mark
pub last-mark : (mark : ℕ) (text last : List ℕ) (at b : ℕ) → drop (at - 1) text ≡ b ∷ drop at text → 0 < at →
    (b == mark) ≡ true → LastFrom mark text last at → LastFrom mark text last (at - 1)
last-mark mark text last at b is some e h = λ size q from seen. go size q from seen (nat_le at q) refl
  where
    go : (size q : ℕ) → at - 1 ≤ q → get_or last size 0 ≤ q → (t : Bool) → nat_le at q ≡ t →
        before_run mark size true (drop q text) ≡ None
    go size q from seen true f = h size q (grind (arith, nat_tests)) seen
    go size q from seen false f =
        let same : q ≡ at - 1 = grind (arith, nat_tests) in
        let here : before_run mark size true (b ∷ drop at text) ≡
        option_map suc (before_run mark size true (drop at text)) = rw e refl in
        ap (λ n. before_run mark size true (drop n text)) same
        ∙ ap (before_run mark size true) is ∙ here
        ∙ ap (option_map suc) (h size at (omega arith) (omega (arith, same, seen)))

-- it is none, and so many marks follow
pub last-other : (mark : ℕ) (text last more : List ℕ) (at b : ℕ) → drop (at - 1) text ≡ b ∷ drop at text → 0 < at →
    (b == mark) ≡ false → LastFrom mark text last at →
    ((size : ℕ) → get_or last size 0 ≤ get_or more size 0) →
    (0 < run_len mark (drop at text) → at ≤ get_or more (run_len mark (drop at text)) 0) →
    LastFrom mark text more (at - 1)
last-other mark text last more at b is some e h kept here = λ size q from seen. go size q from seen (nat_le at q) refl
  where
    go : (size q : ℕ) → at - 1 ≤ q → get_or more size 0 ≤ q → (t : Bool) → nat_le at q ≡ t →
        before_run mark size true (drop q text) ≡ None
    go size q from seen true f =
        h size q (grind (arith, nat_tests)) (omega (arith, kept size, seen))
    go size q from seen false f =
        let same : q ≡ at - 1 = grind (arith, nat_tests) in
        let first : before_run mark size true (b ∷ drop at text) ≡
        option_map suc (before_run mark size false (drop at text)) = rw e refl in
        ap (λ n. before_run mark size true (drop n text)) same
        ∙ ap (before_run mark size true) is ∙ first
        ∙ ap (option_map suc)
        (other-absent mark size (drop at text)
        (h size at (omega arith) (omega (arith, same, seen, kept size)))
        (λ runs long.
        omega (arith, same, seen, some, here runs, ap (λ n. get_or more n 0) long)))

-- A place and the byte before it.
pub before-is : (text : List ℕ) (at : ℕ) → 0 < at → at ≤ length text →
    drop (at - 1) text ≡ get_or text (at - 1) 0 ∷ drop at text
before-is text at some fits =
    let next : suc (at - 1) ≡ at = omega (arith, some) in
    drop-cons text (at - 1) 0 (omega (arith, some, fits)) ∙ ap (λ n. get_or text (at - 1) 0 ∷ drop n text) next

pub run-mark : (mark b : ℕ) (rest : List ℕ) → (b == mark) ≡ true → run_len mark (b ∷ rest) ≡ run_len mark rest + 1
run-mark mark b rest e =
    let one : run_len mark (b ∷ rest) ≡ 1 + run_len mark rest = rw e refl in
    omega (arith, one)

pub run-other : (mark b : ℕ) (rest : List ℕ) → (b == mark) ≡ false → run_len mark (b ∷ rest) ≡ 0
run-other mark b rest e = rw e refl

-- a word that is not at a place is absent from it on if it is absent from the next on
pub word-before : (word text : List ℕ) (at : ℕ) → 0 < at → at ≤ length text →
    starts_with nat_eq (drop (at - 1) text) word ≡ false →
    ((q : ℕ) → at ≤ q → after_word word (drop q text) ≡ None) → (q : ℕ) → at - 1 ≤ q →
    after_word word (drop q text) ≡ None
word-before word text at some fits other h q from = go (nat_le at q) refl
  where
    is : drop (at - 1) text ≡ get_or text (at - 1) 0 ∷ drop at text
    is = before-is text at some fits

    here : after_word word (get_or text (at - 1) 0 ∷ drop at text) ≡ None
    here =
        ap
        (λ t.
        cond t (Some (drop (length word) (get_or text (at - 1) 0 ∷ drop at text))) (after_word word (drop at text)))
        (ap (λ (l : List ℕ). starts_with nat_eq l word) (sym is) ∙ other)
        ∙ h at (omega arith)

    go : (t : Bool) → nat_le at q ≡ t → after_word word (drop q text) ≡ None
    go true f = h q (grind (arith, nat_tests))
    go false f =
        let same : q ≡ at - 1 = grind (arith, nat_tests) in
        ap (λ n. after_word word (drop n text)) same ∙ ap (after_word word) is ∙ here

-- The ends of raw HTML.

pub gone-more : (gone : Gone) (b : ℕ) (text more : List ℕ) → text ≡ b ∷ more → AreGone gone text → AreGone gone more
gone-more gone b text more is h = record {
  comment = λ g k. ap (λ (l : List ℕ). after_word (codes "-->") (drop (suc k) l)) (sym is) ∙ h.comment g (suc k);
  section = λ g k. ap (λ (l : List ℕ). after_word (codes "]]>") (drop (suc k) l)) (sym is) ∙ h.section g (suc k);
  instruction = λ g k.
      ap (λ (l : List ℕ). after_word (codes "?>") (drop (suc k) l)) (sym is) ∙ h.instruction g (suc k);
  declaration = λ g k. ap (λ (l : List ℕ). after_next 62 (drop (suc k) l)) (sym is) ∙ h.declaration g (suc k);
}

pub marked-comment : (text : List ℕ) → starts_with nat_eq text (codes "--") ≡ true →
    after_comment (drop 2 text) ≡ None → after_marked text ≡ None
unfolding after_marked
marked-comment text e h = rw e h

pub marked-section : (text : List ℕ) → starts_with nat_eq text (codes "--") ≡ false →
    starts_with nat_eq text (codes "[CDATA[") ≡ true → after_word (codes "]]>") (drop 7 text) ≡ None →
    after_marked text ≡ None
unfolding after_marked
marked-section text e f h = rw (e, f) h

pub marked-declaration : (text : List ℕ) → starts_with nat_eq text (codes "--") ≡ false →
    starts_with nat_eq text (codes "[CDATA[") ≡ false → after_next 62 text ≡ None → after_marked text ≡ None
unfolding after_marked
marked-declaration text e f h = rw (e, f) (go (begins is_ascii_alphabetic text))
  where
    go : (t : Bool) → cond t (after_next 62 text) None ≡ None
    go true = h
    go false = refl

pub html-marked : (b : ℕ) (text rest : List ℕ) → text ≡ b ∷ rest → b ≡ 33 → after_marked rest ≡ None →
    after_html text ≡ None
unfolding after_html
html-marked b text rest is e h =
    let first : (b == 33) ≡ true = marks b 33 e in
    let here : after_html (b ∷ rest) ≡ after_marked rest = rw first refl in
    ap after_html is ∙ here ∙ h

pub html-instruction : (b : ℕ) (text rest : List ℕ) → text ≡ b ∷ rest → b ≡ 63 →
    after_word (codes "?>") rest ≡ None → after_html text ≡ None
unfolding after_html
html-instruction b text rest is e h =
    let other : (b == 33) ≡ false = no-mark b 33 (λ k. omega (arith, e, k)) in
    let first : (b == 63) ≡ true = marks b 63 e in
    let here : after_html (b ∷ rest) ≡ after_word (codes "?>") rest = rw (other, first) refl in
    ap after_html is ∙ here ∙ h

-- An address that begins with `www.` needs a domain after it.
pub no-www : (before text : List ℕ) → starts_in_any_case text (codes "www.") ≡ true →
    domain_len (drop 4 text) ≡ None → literal_at before text ≡ None
unfolding literal_at
no-www before text is none = go (may_follow before)
  where
    go : (m : Bool) →
        cond (not m) None
        (cond (starts_in_any_case text (codes "www.")) (literal_of n.Www 4 text)
        (cond (starts_in_any_case text (codes "http://")) (literal_of n.Protocol 7 text)
        (cond (starts_in_any_case text (codes "https://")) (literal_of n.Protocol 8 text) None))) ≡
        None
    go false = refl
    go true = rw (is, none) refl

-- what is after three bytes and a dot, in a rest of a text
pub no-address-there : (before whole rest tail : List ℕ) (at : ℕ) → rest ≡ drop at whole → tail ≡ drop 3 rest →
    begins_with dot tail ≡ true → starts_in_any_case rest (codes "www.") ≡ true →
    (begins_with dot (drop (at + 3) whole) ≡ true → domain_len (drop (at + 4) whole) ≡ None) →
    literal_at before rest ≡ None
no-address-there before whole rest tail at r t dots is none =
    no-www before rest is
    (ap (λ (l : List ℕ). domain_len (drop 4 l)) r ∙ ap domain_len (drop-drop 4 at whole)
    ∙ none
    (ap (begins_with dot)
    (sym (drop-drop 3 at whole) ∙ ap (drop 3) (sym r) ∙ sym t)
    ∙ dots))
