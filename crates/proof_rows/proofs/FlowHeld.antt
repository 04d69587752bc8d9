-- The containers that the tokenizer holds while it reads a line, and the events that end them.
use Rattle.std.proofs.Common.{◌≡◌, ℕ, ◌<◌, ◌≤◌, List, [], ◌∷◌, ◌++◌, length, take, drop, Some, refl, sym, ◌∙◌, ap}
use Rattle.std.proofs.Common.{ap₂, subst, arith, append_assoc, append-nil}
use Rattle.std.specs.Prelude.{slice_get, slice_set}
use Rattle.std.proofs.Math.ListN.{drop_of_length-le}
use Rattle.std.proofs.Math.Seq.{drop-append_seam, take-append_seam, take-length}
use Rattle.std.proofs.lemmas.List.{take-append-drop}
use Rattle.md_engine.specs.declared.event.Event.{Event}
use Rattle.md_engine.specs.declared.event.Name.{Name}
use Rattle.md_engine.specs.declared.event.Point.{Point}
use Rattle.md_engine.specs.declared.tokenizer.container.Container.{Container as Known}
use Rattle.md_engine.specs.Ends.{ends_at, point_of, put}
use Rattle.md_engine.specs.World.{closed_events}
use Rattle.md_events.specs.Events.Nested.{exit}
use Rattle.md_meaning.specs.State.{Container}
use Rattle.proof_frame.specs.Change.{ends_of}
use Rattle.md_registry.specs.Registry.{MatchesContainer}
use Rattle.proof_rows.specs.Valid.{AreOpen}
use Rattle.md_registry.proofs.RegistryContainers.{known-name}

pub open-length : (ks : List Known) (cs : List Container) → AreOpen ks cs → length ks ≡ length cs
open-length [] [] are = refl
open-length [] (c ∷ cs) are = absurd are
open-length (k ∷ ks) [] are = absurd are
open-length (k ∷ ks) (c ∷ cs) are = let more = open-length ks cs are.1 in omega arith

pub open-append : (ks ls : List Known) (cs ds : List Container) → AreOpen ks cs → AreOpen ls ds →
    AreOpen (ks ++ ls) (cs ++ ds)
open-append [] ls [] ds are more = more
open-append [] ls (c ∷ cs) ds are more = absurd are
open-append (k ∷ ks) ls [] ds are more = absurd are
open-append (k ∷ ks) ls (c ∷ cs) ds are more = (are.0, open-append ks ls cs ds are.1 more)

-- those up to a place, and those after it
pub open-parts : (ks : List Known) (cs ds : List Container) → AreOpen ks (cs ++ ds) →
    AreOpen (take (length cs) ks) cs × AreOpen (drop (length cs) ks) ds
open-parts ks [] ds are = (tt, are)
open-parts [] (c ∷ cs) ds are = absurd are
open-parts (k ∷ ks) (c ∷ cs) ds are = let more = open-parts ks cs ds are.1 in ((are.0, more.0), more.1)

pub open-all : (n : ℕ) (ks : List Known) (cs : List Container) → n ≡ length ks → AreOpen ks cs → AreOpen (take n ks) cs
open-all n ks cs e are =
    let P : List Known → Type 0 = λ l. AreOpen l cs in subst P (sym (ap (λ (m : ℕ). take m ks) e ∙ take-length ks)) are

-- the next container after these: how it is held, and that another one may be held in its place
pub record IsNext (ks : List Known) (done : List Container) (c : Container) (cs : List Container) : Type 0 where
  pub held : Known
  pub found : slice_get ks (length done) ≡ Some held
  pub is : MatchesContainer held c
  pub inside : length done < length ks
  pub put_back : (k : Known) (d : Container) → MatchesContainer k d →
      AreOpen (slice_set ks (length done) k) (done ++ (d ∷ cs))

pub open-next : (ks : List Known) (done : List Container) (c : Container) (cs : List Container) →
    AreOpen ks (done ++ (c ∷ cs)) → IsNext ks done c cs
open-next [] [] c cs are = absurd are
open-next [] (b ∷ done) c cs are = absurd are
open-next (k ∷ ks) [] c cs are =
    record {
      held = k;
      found = refl;
      is = are.0;
      inside = omega arith;
      put_back = λ j d is. (is, are.1);
    }
open-next (k ∷ ks) (b ∷ done) c cs are =
    let next = open-next ks done c cs are.1 in
    record {
      held = next.held;
      found = next.found;
      is = next.is;
      inside = omega (arith, next.inside);
      put_back = λ j d is. (are.0, next.put_back j d is);
    }

pub ends-are : (ks : List Known) (cs : List Container) (p : Point) → AreOpen ks cs → ends_at ks p ≡ ends_of cs p
ends-are [] [] p are = refl
ends-are [] (c ∷ cs) p are = absurd are
ends-are (k ∷ ks) [] p are = absurd are
ends-are (k ∷ ks) (c ∷ cs) p are =
    ap₂ (λ (es : List Event) (name : Name). es ++ exit name p ∷ []) (ends-are ks cs p are.1) (known-name k c are.0)

-- so many containers end at this point where these events follow, whatever comes after those
abbrev pub Ends : ℕ → List Event → Point → Type 0
Ends size tail p =
    (ks : List Known) (keep : ℕ) (more : List Event) (q : Point) → length ks ≡ size →
    ends_at (drop keep ks) (point_of (tail ++ more) q) ≡ ends_at (drop keep ks) p

pub ends-following : (size : ℕ) (e : Event) (tail : List Event) → Ends size (e ∷ tail) e.point
ends-following size e tail ks keep more q is = refl

pub ends-none : (size : ℕ) (p : Point) → size ≡ 0 → Ends size [] p
ends-none size p e ks keep more q is =
    let none : drop keep ks ≡ [] = drop_of_length-le ks (omega (arith, e, is)) in
    ap (λ (l : List Known). ends_at l (point_of more q)) none ∙ ap (λ (l : List Known). ends_at l p) (sym none)

pub closed-ends : (front tail more es : List Event) (p q : Point) (keep at : ℕ) (ks : List Known)
    (cs : List Container) →
    Ends (length ks) tail p → AreOpen (drop keep ks) cs → at ≡ length front → es ≡ front ++ (tail ++ more) →
    closed_events keep at ks es q ≡ front ++ (ends_of cs p ++ (tail ++ more))
closed-ends front tail more es p q keep at ks cs ends are begin same =
    ap₂ (λ (n : ℕ) (xs : List Event). put n (ends_at (drop keep ks) (point_of (drop n xs) q)) xs) begin same
    ∙ ap₂ (λ (a b : List Event). (a ++ ends_at (drop keep ks) (point_of b q)) ++ b)
    (take-append_seam front (tail ++ more)) (drop-append_seam front (tail ++ more))
    ∙ append_assoc front (ends_at (drop keep ks) (point_of (tail ++ more) q)) (tail ++ more)
    ∙ ap (λ (xs : List Event). front ++ (xs ++ (tail ++ more)))
    (ends ks keep more q refl ∙ ends-are (drop keep ks) cs p are)

pub closed-none : (keep at : ℕ) (ks : List Known) (es : List Event) (q : Point) → length ks ≤ keep →
    closed_events keep at ks es q ≡ es
closed-none keep at ks es q all =
    ap (λ (xs : List Known). put at (ends_at xs (point_of (drop at es) q)) es) (drop_of_length-le ks all)
    ∙ ap (λ (xs : List Event). xs ++ drop at es) (append-nil (take at es))
    ∙ take-append-drop at es
