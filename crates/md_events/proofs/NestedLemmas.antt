-- Nested lists are put together from nested lists.
use Rattle.std.proofs.Common.{◌≡◌, List, [], ◌∷◌, ◌++◌, refl, ap, sym, ◌∙◌, subst, arith}
use Rattle.std.specs.Prelude.{IsTrue}
use Rattle.std.proofs.lemmas.Grind.{common_steps}
use Rattle.md_engine.specs.declared.event.Point.{Point}
use Rattle.md_engine.specs.declared.event.Event.{Event}
use Rattle.md_engine.specs.declared.event.Kind.{Kind}
use Rattle.md_engine.specs.declared.event.Kind.TheVariants.{Enter, Exit}
use Rattle.md_engine.specs.declared.event.Name.{Name}
use Rattle.md_events.specs.Events.Places.{at_or_before}
use Rattle.md_events.specs.Events.Nested.{open_following, open_after, Fits, Matches, Forward, last_point, Balanced}

-- Open names.

pub open_after-append : (names : List Name) (xs ys : List Event) →
    open_after names (xs ++ ys) ≡ open_after (open_after names xs) ys
open_after-append names [] ys = refl
open_after-append names (e ∷ xs) ys = open_after-append (open_following names e.kind e.name) xs ys

pub matches-append : (names : List Name) (xs ys : List Event) → Matches names xs → Matches (open_after names xs) ys →
    Matches names (xs ++ ys)
matches-append names [] ys m k = k
matches-append names (e ∷ xs) ys m k = (m.0, matches-append (open_following names e.kind e.name) xs ys m.1 k)

pub matches-front : (names : List Name) (xs ys : List Event) → Matches names (xs ++ ys) → Matches names xs
matches-front names [] ys m = tt
matches-front names (e ∷ xs) ys m = (m.0, matches-front (open_following names e.kind e.name) xs ys m.1)

pub matches-rest : (names : List Name) (xs ys : List Event) → Matches names (xs ++ ys) →
    Matches (open_after names xs) ys
matches-rest names [] ys m = m
matches-rest names (e ∷ xs) ys m = matches-rest (open_following names e.kind e.name) xs ys m.1

-- What is open around some events does not matter to them.

open_following-under : (names outer : List Name) (kind : Kind) (name : Name) → Fits names kind name →
    open_following (names ++ outer) kind name ≡ open_following names kind name ++ outer
open_following-under names outer Enter name f = refl
open_following-under [] outer Exit name f = absurd f
open_following-under (n ∷ names) outer Exit name f = refl

fits-under : (names outer : List Name) (kind : Kind) (name : Name) → Fits names kind name →
    Fits (names ++ outer) kind name
fits-under names outer Enter name f = tt
fits-under [] outer Exit name f = absurd f
fits-under (n ∷ names) outer Exit name f = f

pub open_after-under : (names outer : List Name) (xs : List Event) → Matches names xs →
    open_after (names ++ outer) xs ≡ open_after names xs ++ outer
open_after-under names outer [] m = refl
open_after-under names outer (e ∷ xs) m =
    ap (λ (l : List Name). open_after l xs) (open_following-under names outer e.kind e.name m.0)
    ∙ open_after-under (open_following names e.kind e.name) outer xs m.1

pub matches-under : (names outer : List Name) (xs : List Event) → Matches names xs → Matches (names ++ outer) xs
matches-under names outer [] m = tt
matches-under names outer (e ∷ xs) m = (
  fits-under names outer e.kind e.name m.0,
  subst (λ (l : List Name). Matches l xs) (sym (open_following-under names outer e.kind e.name m.0))
      (matches-under (open_following names e.kind e.name) outer xs m.1),
)

-- Balanced events leave open what is open.

pub balanced-open : (names : List Name) (xs : List Event) → Balanced xs → open_after names xs ≡ names
balanced-open names xs b = open_after-under [] names xs b.matches ∙ ap (λ (l : List Name). l ++ names) b.closed

pub balanced-matches : (names : List Name) (xs : List Event) → Balanced xs → Matches names xs
balanced-matches names xs b = matches-under [] names xs b.matches

pub balanced-none : Balanced []
balanced-none = record { matches = tt; closed = refl }

pub balanced-append : (xs ys : List Event) → Balanced xs → Balanced ys → Balanced (xs ++ ys)
balanced-append xs ys b c = record {
  matches = matches-append [] xs ys b.matches (balanced-matches (open_after [] xs) ys c);
  closed = open_after-append [] xs ys ∙ ap (λ (l : List Name). open_after l ys) b.closed ∙ c.closed;
}

-- balanced events are before others, under open names
pub matches-before : (names : List Name) (xs ys : List Event) → Balanced xs → Matches names ys →
    Matches names (xs ++ ys)
matches-before names xs ys b m =
    matches-append names xs ys (balanced-matches names xs b)
    (subst (λ (l : List Name). Matches l ys) (sym (balanced-open names xs b)) m)

pub open_after-before : (names : List Name) (xs ys : List Event) → Balanced xs →
    open_after names (xs ++ ys) ≡ open_after names ys
open_after-before names xs ys b =
    open_after-append names xs ys ∙ ap (λ (l : List Name). open_after l ys) (balanced-open names xs b)

-- events between an enter, which may have a link, and its exit
pub balanced-around : (e f : Event) (inside : List Event) → e.kind ≡ Enter → f.kind ≡ Exit → e.name ≡ f.name →
    Balanced inside → Balanced (e ∷ inside ++ f ∷ [])
balanced-around e f inside entered left named b =
    let opened : open_following [] e.kind e.name ≡ e.name ∷ [] =
    ap (λ (k : Kind). open_following [] k e.name) entered in
    record {
      matches = (
        subst (λ (k : Kind). Fits [] k e.name) (sym entered) tt,
        subst (λ (l : List Name). Matches l (inside ++ f ∷ [])) (sym opened)
            (matches-before (e.name ∷ []) inside (f ∷ []) b
            (subst (λ (k : Kind). Fits (e.name ∷ []) k f.name) (sym left) named, tt)),
      );
      closed =
          ap (λ (l : List Name). open_after l (inside ++ f ∷ [])) opened
          ∙ open_after-before (e.name ∷ []) inside (f ∷ []) b
          ∙ ap (λ (k : Kind). open_following (e.name ∷ []) k f.name) left;
    }

-- Balanced events may be anywhere among others.

-- Points.

pub last_point-append : (p : Point) (xs ys : List Event) → last_point p (xs ++ ys) ≡ last_point (last_point p xs) ys
last_point-append p [] ys = refl
last_point-append p (e ∷ xs) ys = last_point-append e.point xs ys

pub forward-append : (p : Point) (xs ys : List Event) → Forward p xs → Forward (last_point p xs) ys →
    Forward p (xs ++ ys)
forward-append p [] ys f g = g
forward-append p (e ∷ xs) ys f g = (f.0, forward-append e.point xs ys f.1 g)

pub at_or_before-refl : (p : Point) → IsTrue (at_or_before p p)
at_or_before-refl p = grind (arith, common_steps)

pub at_or_before-trans : (p q r : Point) → IsTrue (at_or_before p q) → IsTrue (at_or_before q r) →
    IsTrue (at_or_before p r)
at_or_before-trans p q r h k = grind (arith, common_steps)

-- events that go forward from a point do so from any before it
pub forward-from : (p q : Point) (xs : List Event) → IsTrue (at_or_before p q) → Forward q xs → Forward p xs
forward-from p q [] h f = tt
forward-from p q (e ∷ xs) h f = (at_or_before-trans p q e.point h f.0, f.1)

pub forward-last : (p : Point) (xs : List Event) → Forward p xs → IsTrue (at_or_before p (last_point p xs))
forward-last p [] f = at_or_before-refl p
forward-last p (e ∷ xs) f = at_or_before-trans p e.point (last_point e.point xs) f.0 (forward-last e.point xs f.1)

-- Nested lists.
