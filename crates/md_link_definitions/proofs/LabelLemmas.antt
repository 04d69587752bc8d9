-- What is left of a label, cell by cell.
use Rattle.std.proofs.Common.{◌≡◌, ℕ, ◌+◌, ◌≤◌, Bool, true, false, ◌&&◌, ◌||◌, not, cond, nat_eq, List, [], ◌∷◌, ◌++◌}
use Rattle.std.proofs.Common.{refl, arith, append_assoc}
use Rattle.std.specs.Prelude.{nat_le}
use Rattle.std.proofs.lemmas.Bool.{and_parts, eqb-true}
use Rattle.std.proofs.lemmas.Bool.Decides.{nat_tests}
use Rattle.md_meaning.specs.Rest.{is_white}
use Rattle.md_engine.specs.declared.event.Name.TheVariants.{Data}
use Rattle.md_engine.specs.Meaning.{Cell, Here, Outcome, Refuses, here}
use Rattle.md_engine.specs.World.{World}
use Rattle.md_link_definitions.specs.Chunks.{before_mark, chunks, from_mark, string_link}
use Rattle.md_link_definitions.specs.Label.{counted, is_bracket, is_escaped, is_full, most, unlabelled}
use Rattle.md_link_definitions.specs.LabelRule.{has_text, in_label, is_text_of, label_closed, text_size}
use Rattle.md_events.specs.Events.Nested.{enter_link, exit}

-- Where the text ends without `]`, nothing is a label: at the end,
pub label-none : (led begun escaped : Bool) (h : Here) →
    in_label led begun escaped [] h ≡ Refuses (unlabelled h.scratch) h.flags
unfolding in_label
label-none led begun escaped h = go (is_text_of led [] h)
  where
    go : (x : Bool) →
        cond x
        (label_closed []
        (record h { events = h.events ++ chunks begun [] h.point; scratch = unlabelled h.scratch }))
        (Refuses (unlabelled h.scratch) h.flags) ≡
        Refuses (unlabelled h.scratch) h.flags
    go true = refl
    go false = refl

-- and at `[`.
pub label-broken : (led begun : Bool) (c : Cell) (cs : List Cell) (h : Here) → nat_eq c.byte 91 ≡ true →
    nat_eq c.byte 93 ≡ false →
    in_label led begun false (c ∷ cs) h ≡ Refuses (unlabelled h.scratch) h.flags
unfolding in_label
label-broken led begun c cs h e k = rw (e, k) (go (is_text_of led [] h))
  where
    go : (x : Bool) →
        cond x (Refuses (unlabelled h.scratch) h.flags) (Refuses (unlabelled h.scratch) h.flags) ≡
        Refuses (unlabelled h.scratch) h.flags
    go true = refl
    go false = refl

-- Where `]` ends it: the label ends, if something is in it,
pub label-ends : (led begun : Bool) (c : Cell) (cs : List Cell) (h : Here) → nat_eq c.byte 93 ≡ true →
    nat_eq c.byte 91 ≡ false → h.scratch.seen ≡ true → h.scratch.size ≤ most →
    in_label led begun false (c ∷ cs) h ≡
    label_closed (c ∷ cs)
    (record h { events = h.events ++ chunks begun [] h.point; scratch = unlabelled h.scratch })
unfolding in_label
label-ends led begun c cs h e k s le =
    let fits : nat_le (h.scratch.size + 0) 999 ≡ true = grind (arith, nat_tests) in
    rw (e, k, e, s, fits) refl

-- and else is none.
pub label-empty : (led begun : Bool) (c : Cell) (cs : List Cell) (h : Here) → nat_eq c.byte 93 ≡ true →
    nat_eq c.byte 91 ≡ false → h.scratch.seen ≡ false →
    in_label led begun false (c ∷ cs) h ≡ Refuses (unlabelled h.scratch) h.flags
unfolding in_label
label-empty led begun c cs h e k s = rw (e, k, s) refl

-- A chunk begins with a line, if something is on it.
pub label-line : (led : Bool) (c : Cell) (cs : List Cell) (h : Here) → is_bracket c.byte ≡ false →
    in_label led false false (c ∷ cs) h ≡
    in_label led true false (c ∷ cs) (record h { events = h.events ++ enter_link Data h.point string_link ∷ [] })
unfolding in_label
label-line led c cs h e = rw e (simp append_assoc)

-- whitespace ends no text and no line, and is no backslash
white-plain : (b : ℕ) → is_white b ≡ true →
    (is_bracket b ≡ false) × (nat_eq b 92 ≡ false) × (nat_eq b 10 ≡ false)
white-plain b s = (grind (arith, nat_tests), grind (arith, nat_tests), grind (arith, nat_tests))

-- The whitespace before a further line: one column more,
pub label-led : (c : Cell) (cs : List Cell) (h : Here) → is_white c.byte ≡ true →
    in_label true true false (c ∷ cs) h ≡ in_label true true false cs (record h { point = c.after })
unfolding in_label
label-led c cs h s =
    let bracket : is_bracket c.byte ≡ false = (white-plain c.byte s).0 in
    let pair : nat_eq c.byte 92 ≡ false = (white-plain c.byte s).1 in
    let ending : nat_eq c.byte 10 ≡ false = (white-plain c.byte s).2 in
    rw (bracket, pair, ending, s) (refl {a = in_label true true false cs (record h { point = c.after })})

-- and where it ends.
pub label-unled : (c : Cell) (cs : List Cell) (h : Here) → is_white c.byte ≡ false →
    in_label true true false (c ∷ cs) h ≡ in_label false true false (c ∷ cs) h
unfolding in_label
label-unled c cs h s = go (is_bracket c.byte) refl
  where
    go : (x : Bool) → is_bracket c.byte ≡ x →
        in_label true true false (c ∷ cs) h ≡ in_label false true false (c ∷ cs) h
    go true e = rw e refl
    go false e = rw (e, s) refl

-- The ending of a line.
pub label-ending : (c : Cell) (cs : List Cell) (h : Here) → nat_eq c.byte 10 ≡ true →
    in_label false true false (c ∷ cs) h ≡
    in_label true false false cs
    (record h {
      events = h.events ++ exit Data c.after ∷ [];
      point = c.after;
      scratch = record h.scratch { connect = true };
    })
unfolding in_label
label-ending c cs h e = let ten : c.byte ≡ 10 = eqb-true c.byte 10 e in rw ten (simp append_assoc)

-- A byte of the text, by whether a backslash takes it and whether it takes what comes next.
pub record TakesNext (escaped next : Bool) (c : Cell) (cs : List Cell) : Type 0 where
  pub before : before_mark is_bracket escaped (c ∷ cs) ≡ c ∷ before_mark is_bracket next cs
  pub from : from_mark is_bracket escaped (c ∷ cs) ≡ from_mark is_bracket next cs
  pub ending : nat_eq c.byte 10 ≡ false

-- a choice that a test refuses
refused-by : (x y : Bool) (o r : Outcome) → y ≡ false → cond (x && y) o r ≡ r
refused-by true y o r e = rw e refl
refused-by false y o r e = refl

-- where there is no room for it
pub label-full : (escaped next : Bool) (c : Cell) (cs : List Cell) (w : World) → TakesNext escaped next c cs →
    is_full w ≡ true →
    in_label false true escaped (c ∷ cs) (here w) ≡ Refuses (unlabelled w.scratch) w.flags
unfolding in_label
label-full escaped next c cs w t e =
    let k = and_parts (nat_eq w.point.vs 0) (nat_le 999 w.scratch.size) e in
    let full : nat_le 999 w.scratch.size ≡ true = k.1 in
    let n = text_size false (before_mark is_bracket next cs) c.after in
    let over : nat_le (w.scratch.size + (1 + n)) 999 ≡ false = grind (arith, nat_tests) in
    rw (t.before, t.from, t.ending, k.0) (refused-by _ _ _ _ over)

-- what was seen, by one byte more,
seen-more : (x y z : Bool) → x || (not (y || false) || z) ≡ (x || not y) || z
seen-more true y z = refl
seen-more false true z = refl
seen-more false false z = refl

-- and what was counted
size-more : (x : Bool) (n m : ℕ) → n + (cond x 1 0 + m) ≡ cond x (n + 1) n + m
size-more true n m = omega arith
size-more false n m = omega arith

-- and where there is
pub label-takes : (escaped next : Bool) (c : Cell) (cs : List Cell) (w : World) → TakesNext escaped next c cs →
    in_label false true escaped (c ∷ cs) (here w) ≡
    in_label false true next cs (record (here w) { point = c.after; scratch = counted w c.byte })
unfolding in_label
label-takes escaped next c cs w t =
    let text = before_mark is_bracket next cs in
    rw (
      t.before,
      t.from,
      t.ending,
      seen-more w.scratch.seen (is_white c.byte) (has_text text),
      size-more (nat_eq w.point.vs 0) w.scratch.size (text_size false text c.after),
    ) refl

-- what makes no pair is no bracket, and no backslash
unescaped : (b : ℕ) → is_escaped b ≡ false → (is_bracket b ≡ false) × (nat_eq b 92 ≡ false)
unescaped b e = (grind (arith, nat_tests), grind (arith, nat_tests))

-- A backslash makes no pair with another byte.
pub label-unescaped : (c : Cell) (cs : List Cell) (h : Here) → is_escaped c.byte ≡ false →
    in_label false true true (c ∷ cs) h ≡ in_label false true false (c ∷ cs) h
unfolding in_label
label-unescaped c cs h e =
    let bracket : is_bracket c.byte ≡ false = (unescaped c.byte e).0 in
    let pair : nat_eq c.byte 92 ≡ false = (unescaped c.byte e).1 in
    rw (bracket, pair) refl
