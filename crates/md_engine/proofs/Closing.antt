-- How containers end: their ends are put among the events, and the tokenizer stays sound.
use Rattle.std.proofs.Common.{◌≡◌, ℕ, ◌+◌, ◌-◌, ◌≤◌, Bool, true, false, nat_lt, List, [], ◌∷◌, ◌++◌, length, take, drop}
use Rattle.std.proofs.Common.{min, None, refl, sym, ◌∙◌, ap, arith, length-append, length-drop}
use Rattle.std.specs.List.{All}
use Rattle.std.specs.Prelude.{reverse}
use Rattle.std.proofs.lemmas.Bool.Decides.{nat_tests}
use Rattle.std.proofs.lemmas.List.{drop-append-le, drop_all, length-reverse, reverse-append, reverse-reverse}
use Rattle.std.proofs.lemmas.List.{take-append-drop, take-append-le, take_all}
use Rattle.std.proofs.lemmas.List.Elements.{All-append, All-drop, All-nil, All-push, All-take, All-weaker}
use Rattle.std.proofs.Math.Seq.{drop-append_seam, take-append_seam}
use Rattle.md_engine.specs.declared.event.Event.{Event}
use Rattle.md_engine.specs.declared.event.Kind.TheVariants.{Exit}
use Rattle.md_engine.specs.declared.event.Point.{Point}
use Rattle.md_engine.specs.declared.tokenizer.container.Container.{Container}
use Rattle.md_engine.specs.declared.tokenizer.Frame.{Frame}
use Rattle.md_engine.specs.ContainerName.{name_of}
use Rattle.md_engine.specs.Ends.{ends_at, put}
use Rattle.md_engine.specs.Place.{IsPlaced}
use Rattle.md_engine.specs.Sound.{IsSaved, IsSound}

-- all ends lie where the containers end
pub ends-placed : (bytes : List ℕ) (cs : List Container) (p : Point) → IsPlaced bytes p →
    All (λ e. IsPlaced bytes e.point) (ends_at cs p)
ends-placed bytes [] p h = All-nil (λ (e : Event). IsPlaced bytes e.point)
ends-placed bytes (c ∷ cs) p h =
    All-push (λ (e : Event). IsPlaced bytes e.point) (ends_at cs p)
    (record { kind = Exit; name = name_of c.kind; point = p; link = None }) (ends-placed bytes cs p h) h

-- there are as many ends as containers
length-ends : (cs : List Container) (p : Point) → length (ends_at cs p) ≡ length cs
length-ends [] p = refl
length-ends (c ∷ cs) p =
    let rest = length-ends cs p in
    simp length-append (omega (arith, rest))

-- events that are put are as many more
length-put : (at : ℕ) (ends events : List Event) → length events ≤ length (put at ends events)
length-put at ends events =
    let all : length (take at events) + length (drop at events) ≡
    length events = sym (length-append (take at events) (drop at events))
    ∙ ap length (take-append-drop at events) in
    simp length-append (omega (arith, all))

-- events are put among those that are there
pub sound-put : (bytes : List ℕ) (p : Point) (limit at : ℕ) (ends events : List Event) (frames : List Frame)
    (skips : List Point) →
    IsSound bytes p limit events frames skips → All (λ e. IsPlaced bytes e.point) ends →
    IsSound bytes p limit (put at ends events) frames skips
sound-put bytes p limit at ends events frames skips h k = record {
  placed = h.placed;
  readable = h.readable;
  right =
      let P : Event → Type 0 = λ e. IsPlaced bytes e.point in
      All-append P (take at events ++ ends) (drop at events)
      (All-append P (take at events) ends (All-take P at events h.right) k) (All-drop P at events h.right);
  saved =
      let more = length-put at ends events in
      All-weaker (IsSaved bytes (length events)) (IsSaved bytes (length (put at ends events)))
      (λ f s. record { placed = s.placed; within = omega (arith, s.within, more) }) frames h.saved;
  nested = h.nested;
  begun = h.begun;
}

-- putting at the index, or at the end if it lies after
put-least : (at : ℕ) (ends events : List Event) → put (min at (length events)) ends events ≡ put at ends events
put-least at ends events = go (nat_lt at (length events)) refl
  where
    go : (b : Bool) → nat_lt at (length events) ≡ b → put (min at (length events)) ends events ≡ put at ends events
    go true e = let is : min at (length events) ≡ at = grind (arith, nat_tests) in rw is refl
    go false e =
        let past : length events ≤ at = grind (arith, nat_tests) in
        let is : min at (length events) ≡ length events = omega arith in
        rw (
          is,
          take_all at events past,
          drop_all at events past,
          take_all (length events) events (omega arith),
          drop_all (length events) events (omega arith),
        ) refl

-- what is appended and then turned before an event is put there
turned : (m : ℕ) (ends events all : List Event) → m ≤ length events → all ≡ events ++ ends →
    take m all ++ drop (length all - m - length ends) (drop m all) ++ take (length all - m - length ends) (drop m all) ≡
    put m ends events
turned m ends events all le is =
    let size : length (events ++ ends) - m - length ends ≡
    length (drop m events) = simp (length-append, length-drop) (omega arith) in
    rw (
      is,
      size,
      take-append-le m events ends le,
      drop-append-le m events ends le,
      drop-append_seam (drop m events) ends,
      take-append_seam (drop m events) ends,
    ) refl

turned-put : (at m n : ℕ) (ends events all new : List Event) → m ≡ min at (length events) → n ≡ length ends →
    all ≡ events ++ ends →
    new ≡ take m all ++ drop (length all - m - n) (drop m all) ++ take (length all - m - n) (drop m all) →
    new ≡ put at ends events
turned-put at m n ends events all new least count is e =
    let t = turned m ends events all (omega arith) is in
    let f : new ≡ put m ends events = (rw count at e) ∙ t in
    f ∙ ap (λ (i : ℕ). put i ends events) least ∙ put-least at ends events

-- containers after the first so many, as slicing gives them
sliced : (keep : ℕ) (cs : List Container) → take (length cs - keep) (drop keep cs) ≡ drop keep cs
sliced keep cs =
    let size = length-drop keep cs in
    take_all (length cs - keep) (drop keep cs) (omega (arith, size))

-- there is room after the index for the ends that were added
pub ends-turn : (keep at m n : ℕ) (cs cs' : List Container) (p : Point) (events all : List Event) →
    m ≡ min at (length events) → n ≡ length cs - keep → cs' ≡ cs →
    all ≡ events ++ ends_at (take (length cs' - keep) (drop keep cs')) p →
    m + n ≤ length all
ends-turn keep at m n cs cs' p events all least count same is =
    let size = length-ends (drop keep cs) p in
    let rest = length-drop keep cs in
    rw (is, same, sliced keep cs) (simp length-append (omega (arith, size, rest, least, count)))

-- ends that are added after the last event, and then turned before one, are put there
pub ends-put : (keep at m n : ℕ) (cs cs' : List Container) (p : Point) (events all new : List Event) →
    m ≡ min at (length events) → n ≡ length cs - keep → cs' ≡ cs →
    all ≡ events ++ ends_at (take (length cs' - keep) (drop keep cs')) p →
    new ≡ take m all ++ drop (length all - m - n) (drop m all) ++ take (length all - m - n) (drop m all) →
    new ≡ put at (ends_at (drop keep cs) p) events
ends-put keep at m n cs cs' p events all new least count same is turned =
    let size = length-ends (drop keep cs) p in
    let rest = length-drop keep cs in
    turned-put at m n (ends_at (drop keep cs) p) events all new least (omega (arith, size, rest, count))
    (rw (same, sliced keep cs) at is) turned

-- events that are turned around, and then each side of them, have changed sides
pub turned-few : (xs r first second front back : List Event) (n : ℕ) → n ≤ length xs → r ≡ reverse xs →
    first ≡ take n r → second ≡ drop n r → front ≡ reverse first → back ≡ reverse second →
    front ++ back ≡ drop (length xs - n) xs ++ take (length xs - n) xs
turned-few xs r first second front back n le all left right one two =
    let k = length xs - n in
    let a = take k xs in
    let b = drop k xs in
    let split : r ≡ reverse b ++ reverse a = all ∙ ap reverse (sym (take-append-drop k xs)) ∙ reverse-append a b in
    let dropped = length-drop k xs in
    let turned = length-reverse b in
    let size : n ≡ length (reverse b) = omega (arith, le, dropped, turned) in
    let before : first ≡ reverse b = left ∙ ap (λ (l : List Event). take n l) split
    ∙ ap (λ (m : ℕ). take m (reverse b ++ reverse a)) size ∙ take-append_seam (reverse b) (reverse a) in
    let following : second ≡ reverse a = right ∙ ap (λ (l : List Event). drop n l) split
    ∙ ap (λ (m : ℕ). drop m (reverse b ++ reverse a)) size ∙ drop-append_seam (reverse b) (reverse a) in
    ap (λ (l : List Event). l ++ back) (one ∙ ap reverse before ∙ reverse-reverse b)
    ∙ ap (λ (l : List Event). b ++ l) (two ∙ ap reverse following ∙ reverse-reverse a)
