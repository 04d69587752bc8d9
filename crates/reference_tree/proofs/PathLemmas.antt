-- Paths that are held as a list of containers.
use Rattle.std.proofs.Common.{◌≡◌, ℕ, zero, suc, ◌+◌, ◌-◌, ◌<◌, ◌≤◌, false, List, [], ◌∷◌, ◌++◌, length, take, drop}
use Rattle.std.proofs.Common.{Option, Some, None, option_to_list, refl, sym, ◌∙◌, ap, length-append, arith}
use Rattle.std.proofs.lemmas.List.{take-append-le, drop-append-le}
use Rattle.md_engine.specs.declared.configuration.ParseOptions.{ParseOptions}
use Rattle.md_meaning.specs.Tree.{Blocks, End}
use Rattle.md_meaning.specs.Rest as r
use Rattle.md_meaning.specs.State as s
use Rattle.md_meaning.specs.Containers.{Taken, opens}
use Rattle.md_meaning.specs.Step.{spot_of, fresh_line, opened}
use Rattle.reference_tree.specs.declared.state.Frame.{Frame}
use Rattle.reference_tree.specs.Held.{blocks_meaning}
use Rattle.reference_tree.specs.States.{container_meaning, within}

-- one container, and in it this path
abbrev pub inside : Frame → s.Path → s.Path
inside f p = s.Within (blocks_meaning f.before) (container_meaning f.container) p

-- a container that is added is the innermost
pub within_push : (fs : List Frame) (f : Frame) (p : s.Path) → within (fs ++ f ∷ []) p ≡ within fs (inside f p)
within_push [] f p = refl
within_push (g ∷ fs) f p = ap (λ q. inside g q) (within_push fs f p)

-- what a path is closed to depends on its end alone by what that is closed to
pub closed-within : (options : ParseOptions) (fs : List Frame) (p q : s.Path) →
    s.closed options p ≡ s.closed options q → s.closed options (within fs p) ≡ s.closed options (within fs q)
closed-within options [] p q e = e
closed-within options (f ∷ fs) p q e =
    ap (λ bs. s.then_block (blocks_meaning f.before) (s.container_block (container_meaning f.container) bs))
    (closed-within options fs p q e)

-- the innermost container is closed into a block of the one around it
pub closed-pop : (options : ParseOptions) (n : ℕ) (fs : List Frame) (f : Frame) (inner : Blocks) → n ≤ length fs →
    s.closed options (within (drop n (fs ++ f ∷ [])) (s.At (spot_of inner)))
    ≡ s.closed options
    (within (drop n fs)
    (s.At
    (spot_of (s.then_block (blocks_meaning f.before) (s.container_block (container_meaning f.container) inner)))))
closed-pop options n fs f inner below =
    ap (λ gs. s.closed options (within gs (s.At (spot_of inner)))) (drop-append-le n fs (f ∷ []) below)
    ∙ ap (s.closed options) (within_push (drop n fs) f (s.At (spot_of inner)))
    ∙ closed-within options (drop n fs) (inside f (s.At (spot_of inner)))
    (s.At
    (spot_of (s.then_block (blocks_meaning f.before) (s.container_block (container_meaning f.container) inner))))
    refl

pub opened-some : (options : ParseOptions) (n : ℕ) (x : r.Rest) (t : Taken) → opens options false x ≡ Some t →
    opened options (suc n) x ≡ s.Within End t.container (opened options n t.rest)
opened-some options n x t e =
    ap
    (λ o.
    elim o as
    (λ _. s.Path) [
      | Some u ↦ s.Within End u.container (opened options n u.rest)
      | None ↦ s.At (fresh_line options End x)
    ]) e

pub opened-none : (options : ParseOptions) (n : ℕ) (x : r.Rest) → opens options false x ≡ None →
    opened options n x ≡ s.At (fresh_line options End x)
opened-none options zero x e = refl
opened-none options (suc n) x e =
    ap
    (λ o.
    elim o as
    (λ _. s.Path) [
      | Some u ↦ s.Within End u.container (opened options n u.rest)
      | None ↦ s.At (fresh_line options End x)
    ]) e

-- no more containers open than there are bytes
pub opened-end : (options : ParseOptions) (n i : ℕ) (x : r.Rest) → n ≤ i →
    opened options (n - i) x ≡ s.At (fresh_line options End x)
opened-end options n i x all =
    let none : n - i ≡ 0 = omega (arith, all) in
    ap (λ k. opened options k x) none

pushed : {A : Type 0} (old new : List A) (o : Option A) (x : A) → o ≡ Some x → old ≡ new ++ option_to_list o →
    old ≡ new ++ x ∷ []
pushed old new o x e h = h ∙ ap (λ p. new ++ option_to_list p) e

below_pushed : {A : Type 0} (n : ℕ) (old new : List A) (x : A) → old ≡ new ++ x ∷ [] → n < length old → n ≤ length new
below_pushed n old new x e h =
    let both : length old ≡ length new + 1 = ap length e ∙ length-append new (x ∷ []) in
    omega (arith, both, h)

-- the containers that stay open are the same
pub popped-take : {A : Type 0} (n : ℕ) (old new : List A) (o : Option A) (x : A) → o ≡ Some x →
    old ≡ new ++ option_to_list o → n < length old → take n new ≡ take n old
popped-take n old new o x e h below =
    let added : old ≡ new ++ x ∷ [] = pushed old new o x e h in
    sym (ap (take n) added ∙ take-append-le n new (x ∷ []) (below_pushed n old new x added below))

-- and what is closed is in the block of the innermost
pub popped-closed : (options : ParseOptions) (n : ℕ) (old new : List Frame) (o : Option Frame) (f : Frame)
    (inner here : Blocks) →
    o ≡ Some f → old ≡ new ++ option_to_list o → n < length old →
    here ≡ s.then_block (blocks_meaning f.before) (s.container_block (container_meaning f.container) inner) →
    s.closed options (within (drop n new) (s.At (spot_of here))) ≡
    s.closed options (within (drop n old) (s.At (spot_of inner)))
popped-closed options n old new o f inner here e h below made =
    let added : old ≡ new ++ f ∷ [] = pushed old new o f e h in
    ap (λ bs. s.closed options (within (drop n new) (s.At (spot_of bs)))) made
    ∙ sym
    (ap (λ fs. s.closed options (within (drop n fs) (s.At (spot_of inner)))) added
    ∙ closed-pop options n new f inner (below_pushed n old new f added below))

-- a container that a line opens, and those in it
pub entered-path : (options : ParseOptions) (frames outer all : List Frame) (f : Frame) (x : s.Innermost)
    (first last : r.Rest) (n : ℕ) →
    outer ≡ frames ++ f ∷ [] → within all (s.At (fresh_line options End last)) ≡ within outer (opened options n first) →
    x ≡ fresh_line options End last →
    within all (s.At x) ≡ within frames (inside f (opened options n first))
entered-path options frames outer all f x first last n added opens_all fresh =
    ap (λ y. within all (s.At y)) fresh ∙ opens_all ∙ ap (λ fs. within fs (opened options n first)) added
    ∙ within_push frames f (opened options n first)

-- one container more, in the innermost
pub opened-next : (options : ParseOptions) (frames more : List Frame) (f : Frame) (n i : ℕ) (x y : r.Rest) → i < n →
    more ≡ frames ++ f ∷ [] → blocks_meaning f.before ≡ End →
    opens options false x ≡ Some (record { container = container_meaning f.container; rest = y }) →
    within more (opened options (n - (i + 1)) y) ≡ within frames (opened options (n - i) x)
opened-next options frames more f n i x y below added empty took =
    let left : suc (n - (i + 1)) ≡ n - i = omega (arith, below) in
    ap (λ fs. within fs (opened options (n - (i + 1)) y)) added
    ∙ within_push frames f (opened options (n - (i + 1)) y)
    ∙ ap (λ bs. within frames (s.Within bs (container_meaning f.container) (opened options (n - (i + 1)) y))) empty
    ∙ ap (within frames)
    (sym (opened-some options (n - (i + 1)) x (record { container = container_meaning f.container; rest = y }) took)
    ∙ ap (λ k. opened options k x) left)
