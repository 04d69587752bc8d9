-- The points that one reaches from the first are points of the text.
use Rattle.std.proofs.Common.{◌≡◌, ℕ, zero, suc, ◌+◌, ◌-◌, ◌%◌, ◌<◌, ◌≤◌, Bool, true, false, cond, not, ◌&&◌, ◌||◌}
use Rattle.std.proofs.Common.{List, [], ◌∷◌, ◌++◌, length, take, drop, refl, ap, sym, ◌∙◌, subst, add-one, append_assoc}
use Rattle.std.proofs.Common.{length-append, arith}
use Rattle.std.specs.Prelude.{◌==◌, nat_lt, slice_index}
use Rattle.std.specs.List.{onto_first}
use Rattle.std.proofs.Math.Bool.{Bool-set}
use Rattle.std.proofs.Math.ListN.{get_or-eq_default}
use Rattle.std.proofs.Math.Logic.{∥∥₁_elim}
use Rattle.std.proofs.Math.Seq.{drop-cons, take-suc}
use Rattle.std.proofs.lemmas.Bool.{and_parts, and_from, eqb-true, eqb-false, and_right, or_right, not-true}
use Rattle.std.proofs.lemmas.Bool.Decides.{nat_tests}
use Rattle.std.proofs.lemmas.List.Elements.{All-head, All-tail}
use Rattle.md_engine.specs.declared.event.Event.{Event}
use Rattle.md_engine.specs.declared.event.Point.{Point}
use Rattle.md_engine.specs.Place.{IsPlaced, IsReached, is_pair, next_point, stepped, walked}
use Rattle.md_meaning.specs.Lines.{ends_line, is_ending}
use Rattle.md_events.specs.Parts.{ArePlaced}
use Rattle.md_events.specs.Events.Places.{are_placed, columns_before, columns_from, is_placed, last_line, past_byte}
use Rattle.md_events.specs.Events.Places.{splits_pair}
use Rattle.md_meaning.specs.Rest.{tab_columns}
use Rattle.md_meaning.specs.Texts.{first_byte, split_lines}
use Rattle.md_events.proofs.PlacesLemmas.{Placed, Some_line, apart-following, placed-byte, placed-from, some-split}
use Rattle.md_meaning.proofs.TextsLemmas.{Ending, Both, LineFeed, Return, ending_bytes}

-- An ending at the end of a text.

-- whether a CR is the last byte
abbrev ends_return : List ℕ → Bool
ends_return [] = false
ends_return (b ∷ []) = b == 13
ends_return (b ∷ c ∷ bs) = ends_return (c ∷ bs)

ends_return-snoc : (text : List ℕ) (b : ℕ) → ends_return (text ++ b ∷ []) ≡ (b == 13)
ends_return-snoc [] b = refl
ends_return-snoc (a ∷ []) b = refl
ends_return-snoc (a ∷ c ∷ text) b = ends_return-snoc (c ∷ text) b

-- an LF after a CR would be the end of its ending
abbrev NoFeedAfter : List ℕ → Ending → Type 0
NoFeedAfter text LineFeed = ends_return text ≡ false
NoFeedAfter text Return = Unit {0}
NoFeedAfter text Both = Unit {0}

onto_first-snoc : (b : ℕ) (lines : List (List ℕ)) → Some_line lines →
    onto_first b (lines ++ [] ∷ []) ≡ onto_first b lines ++ [] ∷ []
onto_first-snoc b [] s = absurd s
onto_first-snoc b (line ∷ lines) s = refl

-- a byte ends a line before an ending where it does at the end, unless the ending continues with it
ends-before : (b : ℕ) (bs : List ℕ) (ending : Ending) → NoFeedAfter (b ∷ bs) ending →
    ends_line b (bs ++ ending_bytes ending) ≡ ends_line b bs
ends-before b [] LineFeed h = rw h refl
ends-before b [] Return h = refl
ends-before b [] Both h = refl
ends-before b (c ∷ bs) ending h = refl

after-next : (b : ℕ) (bs : List ℕ) (ending : Ending) → NoFeedAfter (b ∷ bs) ending → NoFeedAfter bs ending
after-next b [] LineFeed h = refl
after-next b (c ∷ bs) LineFeed h = h
after-next b bs Return h = tt
after-next b bs Both h = tt

-- an ending begins one line more
split-ended : (text : List ℕ) (ending : Ending) → NoFeedAfter text ending →
    split_lines (text ++ ending_bytes ending) ≡ split_lines text ++ [] ∷ []
split-ended [] LineFeed h = refl
split-ended [] Return h = refl
split-ended [] Both h = refl
split-ended (b ∷ bs) ending h =
    ap
    (λ (x : Bool).
    cond x ([] ∷ split_lines (bs ++ ending_bytes ending))
    (cond (is_ending b) (split_lines (bs ++ ending_bytes ending))
    (onto_first b (split_lines (bs ++ ending_bytes ending)))))
    (ends-before b bs ending h)
    ∙ ap (λ (r : List (List ℕ)). cond (ends_line b bs) ([] ∷ r) (cond (is_ending b) r (onto_first b r)))
    (split-ended bs ending (after-next b bs ending h))
    ∙ go (ends_line b bs) (is_ending b)
  where
    go : (x y : Bool) →
        cond x ([] ∷ (split_lines bs ++ [] ∷ []))
        (cond y (split_lines bs ++ [] ∷ []) (onto_first b (split_lines bs ++ [] ∷ [])))
        ≡ cond x ([] ∷ split_lines bs) (cond y (split_lines bs) (onto_first b (split_lines bs))) ++ [] ∷ []
    go true y = refl
    go false true = refl
    go false false = onto_first-snoc b (split_lines bs) (some-split bs)

last-empty : (lines : List (List ℕ)) → last_line (lines ++ [] ∷ []) ≡ []
last-empty [] = refl
last-empty (line ∷ []) = refl
last-empty (line ∷ next ∷ lines) = last-empty (next ∷ lines)

-- Steps.

take-next : (bytes : List ℕ) (i b : ℕ) → i < length bytes → slice_index bytes i ≡ b →
    take (i + 1) bytes ≡ take i bytes ++ b ∷ []
take-next bytes i b lt e =
    ap (λ (n : ℕ). take n bytes) (add-one i) ∙ take-suc bytes i 0 lt ∙ ap (λ (x : ℕ). take i bytes ++ x ∷ []) e

-- what is beyond the text is 0
past-end : (bytes : List ℕ) (i : ℕ) → length bytes ≤ i → slice_index bytes i ≡ 0
past-end bytes i le = get_or-eq_default bytes 0 le

-- a byte that is not 0 is one of the text
byte-inside : (bytes : List ℕ) (i b : ℕ) → slice_index bytes i ≡ b → 0 < b → i < length bytes
byte-inside bytes i b e some = go (nat_lt i (length bytes)) refl
  where
    go : (x : Bool) → nat_lt i (length bytes) ≡ x → i < length bytes
    go true k = grind (arith, nat_tests)
    go false k =
        let le : length bytes ≤ i = grind (arith, nat_tests) in absurd (omega (arith, past-end bytes i le, e, some))

-- a step from the end leaves the text
pub step-inside : (bytes : List ℕ) (p : Point) → (next_point bytes p).index ≤ length bytes → p.index < length bytes
step-inside bytes p le = go (nat_lt p.index (length bytes)) refl
  where
    beyond : length bytes ≤ p.index → p.index + 1 ≤ length bytes
    beyond past =
        subst (λ (b : ℕ). (stepped b (b == 13 && (slice_index bytes (p.index + 1) == 10)) p).index ≤ length bytes)
        (past-end bytes p.index past) le

    go : (x : Bool) → nat_lt p.index (length bytes) ≡ x → p.index < length bytes
    go true k = grind (arith, nat_tests)
    go false k = let past : length bytes ≤ p.index = grind (arith, nat_tests) in omega (arith, beyond past)

-- after an ending
placed-ended : (bytes : List ℕ) (p : Point) (ending : Ending) (i : ℕ) → Placed bytes p → i ≤ length bytes →
    take i bytes ≡ take p.index bytes ++ ending_bytes ending → NoFeedAfter (take p.index bytes) ending →
    splits_pair bytes i ≡ false →
    Placed bytes (record { line = p.line + 1; column = 1; index = i; vs = 0 })
placed-ended bytes p ending i placed le taken after apart =
    let lines : split_lines (take i bytes) ≡ split_lines (take p.index bytes) ++ [] ∷ [] = ap split_lines taken
    ∙ split-ended (take p.index bytes) ending after in
    let columns : columns_before bytes i ≡ 0 = ap (λ (ls : List (List ℕ)). columns_from 0 (last_line ls)) lines
    ∙ ap (columns_from 0) (last-empty (split_lines (take p.index bytes))) in
    let count : length (split_lines (take i bytes)) ≡ length (split_lines (take p.index bytes)) + 1 = ap length lines
    ∙ length-append (split_lines (take p.index bytes)) ([] ∷ []) in
    record {
      index = le;
      within = refl;
      line = omega (arith, placed.line, count);
      column = omega (arith, columns);
      apart = apart;
    }

-- after another byte
placed-past : (bytes : List ℕ) (p : Point) (b : ℕ) (q : Point) → Placed bytes p → p.index < length bytes →
    slice_index bytes p.index ≡ b → is_ending b ≡ false → past_byte b p ≡ q → Placed bytes q
placed-past bytes p b q placed lt e line same =
    subst (Placed bytes) same
    (placed-byte bytes p b (drop (suc p.index) bytes) placed
    (drop-cons bytes p.index 0 lt ∙ ap (λ (x : ℕ). x ∷ drop (suc p.index) bytes) e) line)

-- a tab has room where its next column begins no stop
column-room : (before vs column : ℕ) → column ≡ before + vs + 1 → ((vs == 0) || nat_lt vs (4 - before % 4)) ≡ true →
    (column % 4 == 0) ≡ false → nat_lt (vs + 1) (4 - before % 4) ≡ true
column-room before vs column e h more = test room
  where
    small : vs < 4 - before % 4
    small = grind (arith, nat_tests)

    some : 0 < column % 4
    some = omega (arith, eqb-false (column % 4) 0 more)

    room : vs + 1 < 4 - before % 4
    room = omega (arith, small, some)

    test : vs + 1 < 4 - before % 4 → nat_lt (vs + 1) (4 - before % 4) ≡ true
    test lt = grind (arith, nat_tests)

-- a column of a tab that is not its last
placed-column : (bytes : List ℕ) (p : Point) → Placed bytes p → p.index < length bytes → slice_index bytes p.index ≡ 9 →
    (p.column % 4 == 0) ≡ false → Placed bytes (record p { column = p.column + 1; vs = p.vs + 1 })
placed-column bytes p h lt e more = record {
  index = h.index;
  within =
      rw tab
      (or_right (p.vs + 1 == 0) (nat_lt (p.vs + 1) (tab_columns (columns_before bytes p.index)))
      (column-room (columns_before bytes p.index) p.vs p.column h.column within more));
  line = h.line;
  column = omega (arith, h.column);
  apart = h.apart;
}
  where
    tab : drop p.index bytes ≡ 9 ∷ drop (suc p.index) bytes
    tab = drop-cons bytes p.index 0 lt ∙ ap (λ (x : ℕ). x ∷ drop (suc p.index) bytes) e

    within : ((p.vs == 0) || nat_lt p.vs (tab_columns (columns_before bytes p.index))) ≡ true
    within =
        subst
        (λ (l : List ℕ).
        ((p.vs == 0) || ((first_byte l == 9) && nat_lt p.vs (tab_columns (columns_before bytes p.index)))) ≡ true) tab
        h.within

-- the last column of a tab, or a byte of one column
pub same-following : (b : ℕ) (p : Point) → 1 ≤ p.column → ((b == 9) && not (p.column % 4 == 0)) ≡ false →
    past_byte b p ≡ record p { column = p.column + 1; index = p.index + 1; vs = 0 }
same-following b p some h =
    ap (λ (c : ℕ). record { line = p.line; column = c; index = p.index + 1; vs = 0 })
    (go (b == 9) (p.column % 4 == 0) refl h)
  where
    go : (x y : Bool) → (p.column % 4 == 0) ≡ y → (x && not y) ≡ false →
        cond x ((p.column - 1) + (4 - (p.column - 1) % 4)) ((p.column - 1) + 1) + 1 ≡ p.column + 1
    go false y k h = omega (arith, some)
    go true true k h = let stop : p.column % 4 ≡ 0 = eqb-true (p.column % 4) 0 k in omega (arith, some, stop)
    go true false k h = cc

-- no CR is before an LF that is reached
return-before : (bytes : List ℕ) (i : ℕ) → i ≤ length bytes →
    ends_return (take i bytes) ≡ (nat_lt 0 i && (slice_index bytes (i - 1) == 13))
return-before bytes zero le = refl
return-before bytes (suc i) le =
    ap ends_return (take-suc bytes i 0 le) ∙ ends_return-snoc (take i bytes) (slice_index bytes i)
    ∙ ap (λ (j : ℕ). slice_index bytes j == 13) less
    ∙ ap (λ (x : Bool). x && (slice_index bytes (suc i - 1) == 13)) some
  where
    less : i ≡ suc i - 1
    less = omega arith

    some : true ≡ nat_lt 0 (suc i)
    some = grind (arith, nat_tests)

no_return-before : (bytes : List ℕ) (p : Point) → Placed bytes p → p.index < length bytes →
    slice_index bytes p.index ≡ 10 → ends_return (take p.index bytes) ≡ false
no_return-before bytes p h lt e = return-before bytes p.index h.index ∙ go (nat_lt 0 p.index) refl
  where
    apart : (x y : Bool) → (x && y) ≡ false → y ≡ true → x ≡ false
    apart false y h e = refl
    apart true y h e = cc

    go : (x : Bool) → nat_lt 0 p.index ≡ x → (x && (slice_index bytes (p.index - 1) == 13)) ≡ false
    go false k = refl
    go true k =
        let following : (p.index - 1) + 1 ≡ p.index = grind (arith, nat_tests) in
        let feed : (slice_index bytes ((p.index - 1) + 1) == 10) ≡
        true = ap (λ (j : ℕ). slice_index bytes j == 10) following
        ∙ ap (λ (b : ℕ). b == 10) e in
        apart (slice_index bytes (p.index - 1) == 13) (slice_index bytes ((p.index - 1) + 1) == 10)
        (ap (λ (x : Bool). x && is_pair bytes (p.index - 1)) (sym k) ∙ h.apart) feed

placed-feed : (bytes : List ℕ) (p : Point) → Placed bytes p → p.index < length bytes → slice_index bytes p.index ≡ 10 →
    Placed bytes (record { line = p.line + 1; column = 1; index = p.index + 1; vs = 0 })
placed-feed bytes p h lt e =
    placed-ended bytes p LineFeed (p.index + 1) h (omega arith) (take-next bytes p.index 10 lt e)
    (no_return-before bytes p h lt e) (apart-following bytes p.index (ap (λ (b : ℕ). b == 13) e))

placed-return : (bytes : List ℕ) (p : Point) → Placed bytes p → p.index < length bytes →
    slice_index bytes p.index ≡ 13 → (slice_index bytes (p.index + 1) == 10) ≡ false →
    Placed bytes (record { line = p.line + 1; column = 1; index = p.index + 1; vs = 0 })
placed-return bytes p h lt e no_feed =
    placed-ended bytes p Return (p.index + 1) h (omega arith) (take-next bytes p.index 13 lt e) tt apart
  where
    same : p.index + 1 - 1 ≡ p.index
    same = omega arith

    apart : splits_pair bytes (p.index + 1) ≡ false
    apart =
        and_right (nat_lt 0 (p.index + 1)) (is_pair bytes (p.index + 1 - 1))
        (ap (is_pair bytes) same
        ∙ and_right (slice_index bytes p.index == 13) (slice_index bytes (p.index + 1) == 10) no_feed)

placed-both : (bytes : List ℕ) (p : Point) → Placed bytes p → slice_index bytes p.index ≡ 13 →
    slice_index bytes (p.index + 1) ≡ 10 →
    Placed bytes (record { line = p.line + 1; column = 1; index = p.index + 2; vs = 0 })
placed-both bytes p h e k =
    placed-ended bytes p Both (p.index + 2) h (omega (arith, lt))
    (taken ∙ append_assoc (take p.index bytes) (13 ∷ []) (10 ∷ [])) tt
    (subst (λ (i : ℕ). splits_pair bytes i ≡ false) next
    (apart-following bytes (p.index + 1) (ap (λ (b : ℕ). b == 13) k)))
  where
    lt : p.index + 1 < length bytes
    lt = byte-inside bytes (p.index + 1) 10 k (omega arith)

    next : (p.index + 1) + 1 ≡ p.index + 2
    next = omega arith

    taken : take (p.index + 2) bytes ≡ (take p.index bytes ++ 13 ∷ []) ++ 10 ∷ []
    taken =
        ap (λ (i : ℕ). take i bytes) (sym next)
        ∙ take-next bytes (p.index + 1) 10 lt k
        ∙ ap (λ (t : List ℕ). t ++ 10 ∷ []) (take-next bytes p.index 13 (omega (arith, lt)) e)

-- The point after what is seen at such a point is one.
pub placed-next : (bytes : List ℕ) (p : Point) → Placed bytes p → (next_point bytes p).index ≤ length bytes →
    Placed bytes (next_point bytes p)
placed-next bytes p h le =
    go (slice_index bytes p.index == 10) (slice_index bytes p.index == 13) (slice_index bytes (p.index + 1) == 10)
    ((slice_index bytes p.index == 9) && not (p.column % 4 == 0)) refl refl refl refl
  where
    lt : p.index < length bytes
    lt = step-inside bytes p le

    go : (x y z t : Bool) → (slice_index bytes p.index == 10) ≡ x → (slice_index bytes p.index == 13) ≡ y →
        (slice_index bytes (p.index + 1) == 10) ≡ z →
        ((slice_index bytes p.index == 9) && not (p.column % 4 == 0)) ≡ t →
        Placed bytes
        (cond (x || y)
        (record { line = p.line + 1; column = 1; index = cond (y && z) (p.index + 2) (p.index + 1); vs = 0 })
        (cond t (record p { column = p.column + 1; vs = p.vs + 1 })
        (record p { column = p.column + 1; index = p.index + 1; vs = 0 })))
    go true true z t e f g k =
        absurd (omega (arith, eqb-true (slice_index bytes p.index) 10 e, eqb-true (slice_index bytes p.index) 13 f))
    go true false z t e f g k = placed-feed bytes p h lt (eqb-true (slice_index bytes p.index) 10 e)
    go false true true t e f g k =
        placed-both bytes p h (eqb-true (slice_index bytes p.index) 13 f)
        (eqb-true (slice_index bytes (p.index + 1)) 10 g)
    go false true false t e f g k = placed-return bytes p h lt (eqb-true (slice_index bytes p.index) 13 f) g
    go false false z true e f g k =
        let parts : ((slice_index bytes p.index == 9) ≡ true) ×
        (not (p.column % 4 == 0) ≡ true) = and_parts (slice_index bytes p.index == 9) (not (p.column % 4 == 0)) k in
        placed-column bytes p h lt (eqb-true (slice_index bytes p.index) 9 parts.0)
        (not-true (p.column % 4 == 0) parts.1)
    go false false z false e f g k =
        placed-past bytes p (slice_index bytes p.index) _ h lt refl
        (ap (λ (x : Bool). x || (slice_index bytes p.index == 13)) e ∙ f)
        (same-following (slice_index bytes p.index) p (omega (arith, h.column)) k)

pub index-following : (bytes : List ℕ) (p : Point) → p.index ≤ (next_point bytes p).index
index-following bytes p =
    go (is_ending (slice_index bytes p.index)) (is_pair bytes p.index)
    ((slice_index bytes p.index == 9) && not (p.column % 4 == 0))
  where
    go : (x y z : Bool) →
        p.index ≤
        (cond x (record { line = p.line + 1; column = 1; index = cond y (p.index + 2) (p.index + 1); vs = 0 })
        (cond z (record p { column = p.column + 1; vs = p.vs + 1 })
        (record p { column = p.column + 1; index = p.index + 1; vs = 0 }))).index
    go true true z = omega arith
    go true false z = omega arith
    go false y true = omega arith
    go false y false = omega arith

-- So is each point within the text that one reaches.
pub placed-walked : (bytes : List ℕ) (n : ℕ) → (walked bytes n).index ≤ length bytes → Placed bytes (walked bytes n)
unfolding walked
placed-walked bytes zero le = record { index = le; within = refl; line = refl; column = refl; apart = refl }
placed-walked bytes (suc n) le =
    placed-next bytes (walked bytes n)
    (placed-walked bytes n (omega (arith, le, index-following bytes (walked bytes n)))) le

-- A point within the text that one reaches has its line and column right, and is inside no ending.
pub reached-placed : (bytes : List ℕ) (p : Point) → IsReached bytes p → p.index ≤ length bytes →
    is_placed bytes p ≡ true
reached-placed bytes p (n, e) le =
    placed-from bytes p
    (subst (Placed bytes) (sym e) (placed-walked bytes n (subst (λ (q : Point). q.index ≤ length bytes) e le)))

pub point-placed : (bytes : List ℕ) (p : Point) → IsPlaced bytes p → is_placed bytes p ≡ true
point-placed bytes p h = ∥∥₁_elim h.reached (Bool-set (is_placed bytes p) true) (λ r. reached-placed bytes p r h.index)

-- So do the points of events.
pub events-placed : (bytes : List ℕ) (events : List Event) → ArePlaced bytes events → are_placed bytes events ≡ true
events-placed bytes [] h = refl
events-placed bytes (e ∷ events) h =
    and_from (is_placed bytes e.point) (are_placed bytes events)
    (point-placed bytes e.point (All-head (λ (x : Event). IsPlaced bytes x.point) e events h))
    (events-placed bytes events (All-tail (λ (x : Event). IsPlaced bytes x.point) e events h))
