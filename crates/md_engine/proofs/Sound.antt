-- How a tokenizer stays sound.
use Rattle.std.proofs.Common.{◌≡◌, ℕ, suc, ◌+◌, ◌-◌, ◌*◌, ◌%◌, ◌<◌, ◌≤◌, Bool, true, false, cond, not, nat_lt, ◌&&◌}
use Rattle.std.proofs.Common.{nat_eq, List, [], ◌∷◌, ◌++◌, length, reverse, Option, Some, None, IfNone, IfSome}
use Rattle.std.proofs.Common.{append-nil, get_or, take, refl, sym, ◌∙◌, ap, arith, length-append}
use Rattle.std.specs.Prelude.{nat_le, slice_get, slice_index}
use Rattle.std.specs.List.{All, AllPairs}
use Rattle.std.specs.Option.{option_to_list}
use Rattle.std.proofs.Math.Logic.{∥∥₁_map}
use Rattle.std.proofs.Math.ListN.{get_or-eq_default}
use Rattle.std.proofs.lemmas.Bool.{eqb-false}
use Rattle.std.proofs.lemmas.Bool.Decides.{nat_tests}
use Rattle.std.proofs.lemmas.List.{get_or_append_left, get_or_push, length-take, length-reverse, get_or-reverse}
use Rattle.std.proofs.lemmas.List.{reverse-reverse}
use Rattle.std.proofs.lemmas.Option.{slice_get_past, slice_get_read}
use Rattle.std.proofs.lemmas.List.Elements.{All-push, All-take, All-weaker}
use Rattle.md_engine.specs.declared.event.Event.{Event}
use Rattle.md_engine.specs.declared.event.Point.{Point}
use Rattle.md_engine.specs.declared.tokenizer.Frame.{Frame}
use Rattle.md_engine.specs.Place.{IsPlaced, IsReached, is_ending, is_pair, next_point, walked}
use Rattle.md_engine.specs.Sound.{IsSaved, IsSound}
use Rattle.md_engine.specs.World.{Setting, line_begun}

-- one more step
reached-next : (bytes : List ℕ) (p : Point) → IsReached bytes p → IsReached bytes (next_point bytes p)
unfolding walked
reached-next bytes p (n, e) = (suc n, ap (next_point bytes) e)

-- the numbers of the next point
index-next : (bytes : List ℕ) (p : Point) → p.index < length bytes → (next_point bytes p).index ≤ length bytes
index-next bytes p lt =
    go (is_ending (slice_index bytes p.index)) (is_pair bytes p.index)
    ((nat_eq (slice_index bytes p.index) 9) && not (nat_eq (p.column % 4) 0)) refl refl refl
  where
    within : (b : Bool) → is_pair bytes p.index ≡ b → (cond b (p.index + 2) (p.index + 1)) ≤ length bytes
    within false e = omega arith
    within true e = first (length bytes) refl
      where
        second : nat_eq (slice_index bytes (p.index + 1)) 10 ≡ true
        second = grind (arith, nat_tests)

        first : (n : ℕ) → length bytes ≡ n → p.index + 2 ≤ length bytes
        first n k = grind (arith, nat_tests, second, get_or-eq_default)

    go : (x y z : Bool) → is_ending (slice_index bytes p.index) ≡ x → is_pair bytes p.index ≡ y →
        ((nat_eq (slice_index bytes p.index) 9) && not (nat_eq (p.column % 4) 0)) ≡ z →
        (next_point bytes p).index ≤ length bytes
    go true y z e k h = rw e (within (is_pair bytes p.index) refl)
    go false y true e k h = rw (e, h) (omega arith)
    go false y false e k h = rw (e, h) (omega arith)

-- the next point is placed
pub placed-next : (bytes : List ℕ) (p : Point) → IsPlaced bytes p → p.index < length bytes →
    IsPlaced bytes (next_point bytes p)
placed-next bytes p h lt = record {
  sized = h.sized;
  index = index-next bytes p lt;
  line = numbers.0;
  column = numbers.1;
  vs = numbers.2;
  reached = ∥∥₁_map h.reached (reached-next bytes p);
}
  where
    numbers : ((next_point bytes p).line ≤ (next_point bytes p).index + 1) ×
        ((next_point bytes p).column ≤ 4 * (next_point bytes p).index + (next_point bytes p).vs + 1) ×
        ((next_point bytes p).vs ≤ ((next_point bytes p).column + 3) % 4)
    numbers =
        go (is_ending (slice_index bytes p.index)) (is_pair bytes p.index) (nat_eq (slice_index bytes p.index) 9)
        (nat_eq (p.column % 4) 0) refl
      where
        go : (x y z t : Bool) → nat_eq (p.column % 4) 0 ≡ t →
            let q : Point = cond x
            (record { line = p.line + 1; column = 1; index = cond y (p.index + 2) (p.index + 1); vs = 0 })
            (cond (z && not t) (record p { column = p.column + 1; vs = p.vs + 1 })
            (record p { column = p.column + 1; index = p.index + 1; vs = 0 })) in
            (q.line ≤ q.index + 1) × (q.column ≤ 4 * q.index + q.vs + 1) × (q.vs ≤ (q.column + 3) % 4)
        go true true z t e = (omega (arith, h.line), omega arith, omega arith)
        go true false z t e = (omega (arith, h.line), omega arith, omega arith)
        go false y true true e = (omega (arith, h.line), omega (arith, h.column, h.vs), omega arith)
        go false y true false e =
            let more : 0 < p.column % 4 = omega (arith, eqb-false (p.column % 4) 0 e) in
            (omega (arith, h.line), omega (arith, h.column), omega (arith, h.vs, more))
        go false y false t e = (omega (arith, h.line), omega (arith, h.column, h.vs), omega arith)

-- an event is added at the point
pub sound-add : (bytes : List ℕ) (p : Point) (limit : ℕ) (events : List Event) (e : Event) (frames : List Frame)
    (skips : List Point) →
    IsSound bytes p limit events frames skips → e.point ≡ p → IsSound bytes p limit (events ++ e ∷ []) frames skips
sound-add bytes p limit events e frames skips h same = record {
  placed = h.placed;
  readable = h.readable;
  right = All-push (λ (x : Event). IsPlaced bytes x.point) events e h.right (rw same h.placed);
  saved =
      All-weaker (IsSaved bytes (length events)) (IsSaved bytes (length (events ++ e ∷ [])))
      (λ f s. record { placed = s.placed; within = simp length-append (omega (arith, s.within)) }) frames h.saved;
  nested = h.nested;
  begun = h.begun;
}

-- the point moves
pub sound-moved : (bytes : List ℕ) (p q : Point) (limit : ℕ) (events : List Event) (frames : List Frame)
    (skips : List Point) →
    IsSound bytes p limit events frames skips → IsPlaced bytes q → IsSound bytes q limit events frames skips
sound-moved bytes p q limit events frames skips h k = record {
  placed = k;
  readable = h.readable;
  right = h.right;
  saved = h.saved;
  nested = h.nested;
  begun = h.begun;
}

-- what holds of all pairs, and of each with one more
AllPairs-push : {X : Type 0} (R : X → X → Type 0) (xs : List X) (y : X) → AllPairs R xs → All (λ x. R x y) xs →
    AllPairs R (xs ++ y ∷ [])
AllPairs-push R xs y h last =
    λ i j d lt inside. go i j d lt (let near : j < length xs + 1 = simp length-append at inside in near)
  where
    go : (i j : ℕ) (d : _) → i < j → j < length xs + 1 → R (get_or (xs ++ y ∷ []) i d) (get_or (xs ++ y ∷ []) j d)
    go i j d lt near = choose (nat_lt j (length xs)) refl
      where
        choose : (b : Bool) → nat_lt j (length xs) ≡ b → R (get_or (xs ++ y ∷ []) i d) (get_or (xs ++ y ∷ []) j d)
        choose true e =
            let inside : j < length xs = grind (arith, nat_tests) in
            rw (get_or_append_left xs (y ∷ []) d i (omega arith), get_or_append_left xs (y ∷ []) d j inside)
            (h i j d lt inside)
        choose false e =
            let at : length xs ≡ j = grind (arith, nat_tests) in
            rw (get_or_append_left xs (y ∷ []) d i (omega arith), get_or_push xs y d j at) (last i d (omega arith))

-- an attempt begins here
pub sound-begun : (bytes : List ℕ) (p : Point) (limit : ℕ) (events : List Event) (f : Frame) (frames : List Frame)
    (skips : List Point) →
    IsSound bytes p limit events frames skips → f.point ≡ p → f.events_len ≡ length events →
    IsSound bytes p limit events (frames ++ f ∷ []) skips
sound-begun bytes p limit events f frames skips h at len = record {
  placed = h.placed;
  readable = h.readable;
  right = h.right;
  saved =
      All-push (IsSaved bytes (length events)) frames f h.saved
      (record { placed = rw at h.placed; within = omega (arith, len) });
  nested =
      AllPairs-push (λ (x y : Frame). x.events_len ≤ y.events_len) frames f h.nested
      (All-weaker (IsSaved bytes (length events)) (λ (x : Frame). x.events_len ≤ f.events_len)
      (λ x s. omega (arith, s.within, len)) frames h.saved);
  begun = h.begun;
}

-- back at what an attempt saved
pub sound-restored : (bytes : List ℕ) (p q : Point) (limit n : ℕ) (events : List Event) (frames : List Frame)
    (skips : List Point) →
    IsSound bytes p limit events frames skips → IsPlaced bytes q → All (λ f. f.events_len ≤ n) frames →
    IsSound bytes q limit (take n events) frames skips
sound-restored bytes p q limit n events frames skips h k low = record {
  placed = k;
  readable = h.readable;
  right = All-take (λ (x : Event). IsPlaced bytes x.point) n events h.right;
  saved =
      λ i d lt. record {
        placed = (h.saved i d lt).placed;
        within = rw length-take (omega (arith, low i d lt, (h.saved i d lt).within));
      };
  nested = h.nested;
  begun = h.begun;
}

-- what holds of all pairs holds of each with the last
pub AllPairs-last : {X : Type 0} (R : X → X → Type 0) (xs : List X) (y : X) → AllPairs R (xs ++ y ∷ []) →
    All (λ x. R x y) xs
AllPairs-last R xs y h = λ k d lt.
    let last : length xs < length (xs ++ y ∷ []) = simp length-append (omega arith) in
    let pair = h k (length xs) d lt last in
    rw (get_or_append_left xs (y ∷ []) d k lt, get_or_push xs y d (length xs) refl) at pair

-- the innermost attempt is left
pub sound-left : (bytes : List ℕ) (p : Point) (limit : ℕ) (events : List Event) (f : Frame) (frames : List Frame)
    (skips : List Point) →
    IsSound bytes p limit events (frames ++ f ∷ []) skips → IsSound bytes p limit events frames skips
sound-left bytes p limit events f frames skips h = record {
  placed = h.placed;
  readable = h.readable;
  right = h.right;
  saved = λ k d lt. rw (get_or_append_left frames (f ∷ []) d k lt) at (h.saved k d (simp length-append (omega arith)));
  nested =
      λ i j d lt inside. rw (
        get_or_append_left frames (f ∷ []) d i (omega arith),
        get_or_append_left frames (f ∷ []) d j inside,
      ) at
      (h.nested i j d lt (simp length-append (omega arith)));
  begun = h.begun;
}

-- where one more line begins
pub sound-skip : (bytes : List ℕ) (p q : Point) (limit : ℕ) (events : List Event) (frames : List Frame)
    (skips : List Point) →
    IsSound bytes p limit events frames skips → IsPlaced bytes q → IsSound bytes p limit events frames (skips ++ q ∷ [])
sound-skip bytes p q limit events frames skips h k = record {
  placed = h.placed;
  readable = h.readable;
  right = h.right;
  saved = h.saved;
  nested = h.nested;
  begun = All-push (IsPlaced bytes) skips q h.begun k;
}

pub sound-skipped : (bytes : List ℕ) (p q : Point) (limit : ℕ) (events : List Event) (frames : List Frame)
    (skips reserved new : List Point) →
    IsSound bytes p limit events frames skips → IsPlaced bytes q → reserved ≡ skips → new ≡ reserved ++ q ∷ [] →
    IsSound bytes p limit events frames new
sound-skipped bytes p q limit events frames skips reserved new h k same is =
    rw (is, same) (sound-skip bytes p q limit events frames skips h k)

-- the innermost attempt is taken, if there is one
pub sound-popped : (bytes : List ℕ) (p : Point) (limit : ℕ) (events : List Event) (o : Option Frame)
    (frames new : List Frame) (skips : List Point) →
    IsSound bytes p limit events frames skips → frames ≡ new ++ option_to_list o →
    IsSound bytes p limit events new skips
sound-popped bytes p limit events None frames new skips h is = let e : frames ≡ new = is ∙ append-nil new in rw e at h
sound-popped bytes p limit events (Some f) frames new skips h is =
    sound-left bytes p limit events f new skips (rw is at h)

pub placed-popped : (bytes : List ℕ) (p : Point) (limit : ℕ) (events : List Event) (o : Option Frame)
    (frames new : List Frame) (skips : List Point) →
    IsSound bytes p limit events frames skips → frames ≡ new ++ option_to_list o →
    IfSome o (λ f. IsPlaced bytes f.point)
placed-popped bytes p limit events None frames new skips h is = tt
placed-popped bytes p limit events (Some f) frames new skips h is =
    let k : IsSound bytes p limit events (new ++ f ∷ []) skips = rw is at h in
    (rw (get_or_push new f f (length new) refl) at (k.saved (length new) f (simp length-append (omega arith)))).placed

-- what holds of all holds of all the other way round
pub All-reverse : {X : Type 0} (P : X → Type 0) (xs : List X) → All P xs → All P (reverse xs)
All-reverse P xs h = λ k d lt.
    let inside : k < length xs = rw length-reverse at lt in
    rw (get_or-reverse xs k d inside) (h (length xs - 1 - k) d (omega arith))

pub outer-popped : (bytes : List ℕ) (p : Point) (limit : ℕ) (events : List Event) (o : Option Frame)
    (frames new : List Frame) (skips : List Point) →
    IsSound bytes p limit events frames skips → frames ≡ new ++ option_to_list o →
    IfSome o (λ f. All (λ g. g.events_len ≤ f.events_len) (reverse new))
outer-popped bytes p limit events None frames new skips h is = tt
outer-popped bytes p limit events (Some f) frames new skips h is =
    let k : IsSound bytes p limit events (new ++ f ∷ []) skips = rw is at h in
    All-reverse (λ (g : Frame). g.events_len ≤ f.events_len) new
    (AllPairs-last (λ (a b : Frame). a.events_len ≤ b.events_len) new f k.nested)

pub same-popped : {X : Type 0} (see : List Frame → X) (o : Option Frame) (frames new : List Frame) →
    frames ≡ new ++ option_to_list o → IfNone o (see new ≡ see frames)
same-popped see None frames new is = ap see (sym (is ∙ append-nil new))
same-popped see (Some f) frames new is = tt

-- the frames of a world are the other way round
pub All-unreverse : {X : Type 0} (P : X → Type 0) (xs : List X) → All P (reverse xs) → All P xs
All-unreverse P xs h = rw reverse-reverse at (All-reverse P (reverse xs) h)

-- where a line begins is a place
pub skip-placed : (bytes : List ℕ) (skips : List Point) (i : ℕ) (s : Point) → All (IsPlaced bytes) skips →
    i < length skips → s ≡ get_or skips i s → IsPlaced bytes s
skip-placed bytes skips i s h lt is = rw is (h i s lt)

-- a line begins at its first byte, where no skip is known or it lies before
pub begun-past : (x : Setting) (p : Point) (i : ℕ) → i ≡ p.line - x.first_line → length x.skips ≤ i → p ≡ line_begun x p
begun-past x p i at past = rw (← at, slice_get_past x.skips i past) refl

pub begun-before : (x : Setting) (p : Point) (i : ℕ) (s : Point) → i ≡ p.line - x.first_line → i < length x.skips →
    s ≡ get_or x.skips i s → s.index < p.index → p ≡ line_begun x p
begun-before x p i s at inside is lt =
    let got : slice_get x.skips i ≡ Some s = slice_get_read x.skips (length x.skips) i s refl inside is in
    let no : nat_le p.index s.index ≡ false = grind (arith, nat_tests) in
    rw (← at, got, no) refl

-- an event is added at a place that need not be the point
pub sound-put : (bytes : List ℕ) (p : Point) (limit : ℕ) (events : List Event) (e : Event) (frames : List Frame)
    (skips : List Point) →
    IsSound bytes p limit events frames skips → IsPlaced bytes e.point →
    IsSound bytes p limit (events ++ e ∷ []) frames skips
sound-put bytes p limit events e frames skips h k =
    sound-moved bytes e.point p limit (events ++ e ∷ []) frames skips
    (sound-add bytes e.point limit events e frames skips
    (sound-moved bytes p e.point limit events frames skips h k) refl)
    h.placed
