-- What is read of the name of a tag.
use Rattle.std.proofs.Common.{◌≡◌, ℕ, ◌<◌, ◌≤◌, Bool, true, false, nat_lt, List, [], ◌∷◌, ◌++◌}
use Rattle.std.proofs.Common.{Option, Some, refl, sym, ◌∙◌, ap, arith}
use Rattle.std.specs.List.{list_all}
use Rattle.std.proofs.lemmas.Bool.Decides.{nat_tests}
use Rattle.md_engine.specs.Scheme.{Position, moved_to, seen}
use Rattle.md_engine.specs.World.{after, looks_at}
use Rattle.md_meaning.specs.Html.{is_tag_byte}
use Rattle.md_literal.proofs.HtmlBytes.{all-more, name-more, name-none, sees-dark}
use Rattle.md_literal.specs.Html.{has_letter, name_of, sees_letter}
use Rattle.md_events.specs.Lent.{lent}

-- a byte of a name is no whitespace
pub tag-dark : (b : ℕ) → is_tag_byte b ≡ true → 32 < b
tag-dark b e = go (nat_lt 32 b) refl
  where
    go : (x : Bool) → nat_lt 32 b ≡ x → 32 < b
    go true k = grind (arith, nat_tests)
    go false k = grind (arith, nat_tests)

-- after it, a letter is still the first byte
letter-kept : (name : List ℕ) (b : ℕ) (o : Option ℕ) → has_letter name (Some b) ≡ true →
    has_letter (name ++ b ∷ []) o ≡ true
letter-kept [] b o e = e
letter-kept (c ∷ cs) b o e = e

-- what is known of a name in which a state is
abbrev pub Within : Position → Type 0
Within x =
    (x.scratch.start ≤ x.point.index) × (has_letter (name_of x) (seen x) ≡ true) ×
    (list_all is_tag_byte (name_of x) ≡ true)

-- it stays after one more byte of it
pub name-kept : (x : Position) (b : ℕ) → seen x ≡ Some b → is_tag_byte b ≡ true → Within x →
    Within (moved_to x (after x.setting x.point) x.scratch)
name-kept x b e tag (le, letter, bytes) =
    let dark = tag-dark b tag in
    let saw = sees-dark x.setting x.point b dark e in
    let more = name-more x.setting x.point b x.scratch.start dark e le in (
      omega (arith, saw.following),
      ap (λ (l : List ℕ). has_letter l (looks_at x.setting (after x.setting x.point))) more
          ∙ letter-kept (name_of x) b _ (ap (has_letter (name_of x)) (sym e) ∙ letter),
      ap (list_all is_tag_byte) more ∙ all-more is_tag_byte (name_of x) b bytes tag,
    )

-- and where a letter is here, a name begins
pub name-starts : (x : Position) → sees_letter (seen x) ≡ true → x.scratch.start ≡ x.point.index → Within x
name-starts x e same =
    let none : name_of x ≡ [] =
    ap (λ (i : ℕ). lent x.setting.bytes i x.point.index) same ∙ name-none x.setting.bytes x.point.index in (
      omega (arith, same),
      ap (λ (l : List ℕ). has_letter l (seen x)) none ∙ e,
      ap (list_all is_tag_byte) none,
    )
