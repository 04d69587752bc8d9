-- Where one reaches after bytes of text.
use Rattle.std.proofs.Common.{◌≡◌, ℕ, ◌+◌, ◌<◌, ◌⊎◌, inl, inr, Bool, true, false, ◌&&◌, nat_eq, nat_lt, cond}
use Rattle.std.proofs.Common.{List, length, None, Some, refl, sym, ◌∙◌, ap, ap₂, arith, subst}
use Rattle.std.proofs.lemmas.Bool.Decides.{nat_tests}
use Rattle.std.specs.Prelude.{slice_index}
use Rattle.md_engine.specs.declared.class.Class.TheVariants as class
use Rattle.md_engine.specs.declared.event.Point.{Point}
use Rattle.md_engine.specs.Classes.{has}
use Rattle.md_engine.specs.Place.{IsPlaced, is_ending, next_point, seen_at}
use Rattle.md_engine.specs.World.{Setting, after, line_begun, looks_at}
use Rattle.md_engine.proofs.ClassLemmas.{further-next, no-ending}
use Rattle.md_engine.proofs.Sound.{placed-next}
use Rattle.md_containers.specs.Ahead.{ahead}

-- text is at an index
abbrev pub IsText : List ℕ → ℕ → Type 0
IsText bytes i = has class.Text (slice_index bytes i) ≡ true

-- after text the line continues,
pub text-after : (x : Setting) (p : Point) → IsText x.bytes p.index → after x p ≡ ahead 1 p
text-after x p h =
    let e = no-ending class.Text (slice_index x.bytes p.index) h in
    let q = next_point x.bytes p in
    ap (λ (b : Bool). cond b (line_begun x q) q) e.0 ∙ further-next x.bytes class.Text 0 p h

-- at a place of the text,
pub placed-text : (bytes : List ℕ) (p : Point) → IsPlaced bytes p → p.index < length bytes → IsText bytes p.index →
    IsPlaced bytes (ahead 1 p)
placed-text bytes p h lt text =
    subst (λ (q : Point). IsPlaced bytes q) (further-next bytes class.Text 0 p text) (placed-next bytes p h lt)

-- and one further than before.
pub ahead-more : (n : ℕ) (p : Point) → ahead 1 (ahead n p) ≡ ahead (n + 1) p
ahead-more n p =
    let more : (m : ℕ) → m + n + 1 ≡ m + (n + 1) = λ m. omega arith in
    ap₂ (λ (i c : ℕ). record p { column = c; index = i; vs = 0 }) (more p.index) (more p.column)

-- What is seen is the byte that is there, unless it ends the line or is a column of a tab.
pub seen-byte : (x : Setting) (p : Point) (b : ℕ) → looks_at x p ≡ Some b → nat_eq b 10 ≡ false →
    (nat_eq b 32 ≡ false) ⊎ (p.vs ≡ 0) → (p.index < x.limit) × (slice_index x.bytes p.index ≡ b)
seen-byte x p b e no_end single = inside (nat_lt p.index x.limit) refl
  where
    byte : ℕ
    byte = slice_index x.bytes p.index

    tab : Bool
    tab = nat_eq byte 9 && nat_lt 0 p.vs

    by-white : (y : Bool) → tab ≡ y → cond tab 32 byte ≡ b → byte ≡ b
    by-white false k is = ap (λ (z : Bool). cond z 32 byte) (sym k) ∙ is
    by-white true k is = go single
      where
        space : b ≡ 32
        space = sym is ∙ ap (λ (z : Bool). cond z 32 byte) k

        none : (z : Bool) → (z && nat_lt 0 0) ≡ true → byte ≡ b
        none true never = cc
        none false never = cc

        go : (nat_eq b 32 ≡ false) ⊎ (p.vs ≡ 0) → byte ≡ b
        go (inl other) = let no : nat_eq 32 32 ≡ false = subst (λ (m : ℕ). nat_eq m 32 ≡ false) space other in cc
        go (inr zero_vs) =
            none (nat_eq byte 9) (subst (λ (m : ℕ). (nat_eq byte 9 && nat_lt 0 m) ≡ true) zero_vs k)

    by-end : (y : Bool) → is_ending byte ≡ y → seen_at x.bytes p ≡ b → byte ≡ b
    by-end false k is = by-white tab refl (ap (λ (z : Bool). cond z 10 (cond tab 32 byte)) (sym k) ∙ is)
    by-end true k is =
        let ten : b ≡ 10 = sym is ∙ ap (λ (z : Bool). cond z 10 (cond tab 32 byte)) k in
        let no : nat_eq 10 10 ≡ false = subst (λ (m : ℕ). nat_eq m 10 ≡ false) ten no_end in cc

    inside : (y : Bool) → nat_lt p.index x.limit ≡ y → (p.index < x.limit) × (slice_index x.bytes p.index ≡ b)
    inside false k =
        let no : None ≡ Some b = ap (λ (z : Bool). cond z (Some (seen_at x.bytes p)) None) (sym k) ∙ e in cc
    inside true k =
        let is : Some (seen_at x.bytes p) ≡ Some b =
        ap (λ (z : Bool). cond z (Some (seen_at x.bytes p)) None) (sym k) ∙ e in
        let seen : seen_at x.bytes p ≡ b = cc in
        let lt : p.index < x.limit = grind (arith, nat_tests) in
        (lt, by-end (is_ending byte) refl seen)

-- Where two bytes of text are at the point of a tokenizer: what is after each.
pub record TwoAhead (x : Setting) (p : Point) : Type 0 where
  pub one : after x p ≡ ahead 1 p
  pub two : after x (after x p) ≡ ahead 2 p
  pub placed_one : IsPlaced x.bytes (ahead 1 p)
  pub placed_two : IsPlaced x.bytes (ahead 2 p)

pub valid-ahead : (x : Setting) (p : Point) → IsPlaced x.bytes p → p.index + 1 < length x.bytes →
    IsText x.bytes p.index → IsText x.bytes (p.index + 1) → TwoAhead x p
valid-ahead x p placed lt here next = record {
  one = first;
  two = ap (λ (q : Point). after x q) first ∙ text-after x (ahead 1 p) next ∙ ahead-more 1 p;
  placed_one = placed-first;
  placed_two =
      subst (λ (q : Point). IsPlaced x.bytes q) (ahead-more 1 p) (placed-text x.bytes (ahead 1 p) placed-first lt next);
}
  where
    first : after x p ≡ ahead 1 p
    first = text-after x p here

    placed-first : IsPlaced x.bytes (ahead 1 p)
    placed-first = placed-text x.bytes p placed (omega (arith, lt)) here
