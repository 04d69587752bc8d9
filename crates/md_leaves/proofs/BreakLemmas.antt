-- What is left of a break, cell by cell.
use Rattle.std.proofs.Common.{◌≡◌, ℕ, ◌+◌, Bool, true, false, cond, nat_eq, List, [], ◌∷◌, ◌++◌, refl, sym, ◌∙◌, ap}
use Rattle.std.proofs.Common.{append_assoc, append-nil, arith}
use Rattle.std.specs.Prelude.{◌&&◌, count_by, nat_le, not}
use Rattle.std.proofs.Math.Bool.{and-true}
use Rattle.std.proofs.lemmas.Bool.{and_right, eqb-true}
use Rattle.std.proofs.lemmas.Bool.Decides.{nat_tests}
use Rattle.std.proofs.lemmas.List.Sums.{sum_by-cons}
use Rattle.md_engine.specs.declared.configuration.ParseOptions.{ParseOptions}
use Rattle.md_engine.specs.declared.event.Name.TheVariants.{SpaceOrTab, ThematicBreakSequence}
use Rattle.md_engine.specs.Meaning.{Cell, Here, Refuses}
use Rattle.md_leaves.specs.Break.{is_marker, without_marker}
use Rattle.md_leaves.specs.BreakRule.{Apart, Marks, Run, White, at_break, before_marker, broken, in_break, marks}
use Rattle.md_leaves.specs.HeadingSetext.{turns_nothing}
use Rattle.md_leaves.specs.HeadingSetextRule.{is_underline}
use Rattle.md_leaves.proofs.LeafSteps.{TakesWhite}
use Rattle.md_events.specs.Ahead.{line_bytes}
use Rattle.md_events.specs.Events.Nested.{enter, exit}
use Rattle.md_meaning.specs.Leaves.{is_rule}
use Rattle.md_meaning.specs.Rest.{is_white}
use Rattle.md_events.proofs.AheadLemmas.{white-no_ending}

pub marks-none : (m : ℕ) → marks m [] ≡ 0
unfolding marks
marks-none m = refl

marks-one : (m b : ℕ) (bs : List ℕ) → nat_eq b m ≡ true → marks m (b ∷ bs) ≡ 1 + marks m bs
unfolding marks
marks-one m b bs e = sum_by-cons (λ (x : ℕ). cond (nat_eq x m) 1 0) b bs ∙ rw e refl

marks-other : (m b : ℕ) (bs : List ℕ) → nat_eq b m ≡ false → marks m (b ∷ bs) ≡ marks m bs
unfolding marks
marks-other m b bs e = sum_by-cons (λ (x : ℕ). cond (nat_eq x m) 1 0) b bs ∙ rw e (omega arith)

-- one marker more
pub in_break-mark : (c : Cell) (cs : List Cell) (h : Here) → nat_eq c.byte h.scratch.marker ≡ true →
    nat_eq c.byte 10 ≡ false →
    in_break Marks (c ∷ cs) h ≡
    in_break Marks cs (record h { point = c.after; scratch = record h.scratch { size = h.scratch.size + 1 } })
unfolding in_break
in_break-mark c cs h is ending =
    let m = h.scratch.marker in
    let n = marks m (line_bytes cs) in
    let sum : h.scratch.size + (1 + n) ≡ h.scratch.size + 1 + n = omega arith in
    rw (ending, is, marks-one m c.byte (line_bytes cs) is, sum) refl

-- one column of whitespace more
in_break-white : (c : Cell) (cs : List Cell) (h : Here) → nat_eq c.byte h.scratch.marker ≡ false →
    is_white c.byte ≡ true → nat_eq c.byte 10 ≡ false →
    in_break White (c ∷ cs) h ≡ in_break White cs (record h { point = c.after })
unfolding in_break
in_break-white c cs h is white ending =
    rw (ending, is, marks-other h.scratch.marker c.byte (line_bytes cs) is, white) refl

-- a line with something else is no break
pub in_break-other : (run : Run) (c : Cell) (cs : List Cell) (h : Here) → nat_eq c.byte h.scratch.marker ≡ false →
    is_white c.byte ≡ false → nat_eq c.byte 10 ≡ false →
    in_break run (c ∷ cs) h ≡ Refuses (without_marker h.scratch) h.flags
unfolding in_break
in_break-other run c cs h is white ending = rw (ending, is, white) refl

pub marker-no_ending : (m : ℕ) → is_marker m ≡ true → nat_eq m 10 ≡ false
marker-no_ending m h = grind (arith, nat_tests)

pub marker-no_white : (m : ℕ) → is_marker m ≡ true → is_white m ≡ false
marker-no_white m h = grind (arith, nat_tests)

-- whitespace is not what is no whitespace
pub white-apart : (c m : ℕ) → is_white c ≡ true → is_white m ≡ false → nat_eq c m ≡ false
white-apart c m s k = go (nat_eq c m) refl
  where
    go : (x : Bool) → nat_eq c m ≡ x → x ≡ false
    go false e = refl
    go true e = let same : is_white m ≡ true = rw (eqb-true c m e) at s in let bad : true ≡ false = sym same ∙ k in cc

-- where whitespace ends, the rest is what is left after it
white-ends : (c : Cell) (cs : List Cell) (h : Here) → is_white c.byte ≡ false →
    in_break White (c ∷ cs) h ≡ in_break Apart (c ∷ cs) (record h { events = h.events ++ exit SpaceOrTab h.point ∷ [] })
unfolding in_break
white-ends c cs h k = go (nat_eq c.byte 10) (nat_eq c.byte h.scratch.marker) refl refl
  where
    go : (x y : Bool) → nat_eq c.byte 10 ≡ x → nat_eq c.byte h.scratch.marker ≡ y →
        in_break White (c ∷ cs) h ≡
        in_break Apart (c ∷ cs) (record h { events = h.events ++ exit SpaceOrTab h.point ∷ [] })
    go true y e f = rw (e, append-nil) refl
    go false true e f = rw (e, f) (simp append_assoc)
    go false false e f = in_break-other White c cs h f k e ∙ sym (in_break-other Apart c cs _ f k e)

-- where markers end and no whitespace is
pub marks-end : (c : Cell) (cs : List Cell) (h : Here) → is_white c.byte ≡ false →
    nat_eq c.byte h.scratch.marker ≡ false →
    in_break Marks (c ∷ cs) h ≡
    in_break Apart (c ∷ cs) (record h { events = h.events ++ exit ThematicBreakSequence h.point ∷ [] })
unfolding in_break
marks-end c cs h k f = go (nat_eq c.byte 10) refl
  where
    go : (x : Bool) → nat_eq c.byte 10 ≡ x →
        in_break Marks (c ∷ cs) h ≡
        in_break Apart (c ∷ cs) (record h { events = h.events ++ exit ThematicBreakSequence h.point ∷ [] })
    go true e = rw (e, append-nil) refl
    go false e = in_break-other Marks c cs h f k e ∙ sym (in_break-other Apart c cs _ f k e)

pub marks-at_none : (h : Here) →
    in_break Marks [] h ≡ in_break Apart [] (record h { events = h.events ++ exit ThematicBreakSequence h.point ∷ [] })
unfolding in_break
marks-at_none h = rw append-nil refl

white-at_none : (h : Here) →
    in_break White [] h ≡ in_break Apart [] (record h { events = h.events ++ exit SpaceOrTab h.point ∷ [] })
unfolding in_break
white-at_none h = rw append-nil refl

-- from markers to whitespace
pub marks-white : (c : Cell) (cs : List Cell) (h : Here) → is_white c.byte ≡ true →
    nat_eq c.byte h.scratch.marker ≡ false →
    in_break Marks (c ∷ cs) h ≡
    in_break White (c ∷ cs)
    (record h { events = h.events ++ exit ThematicBreakSequence h.point ∷ [] ++ enter SpaceOrTab h.point ∷ [] })
unfolding in_break
marks-white c cs h s f = rw (white-no_ending c.byte s, f, s) (simp append_assoc)

-- from between runs to markers
pub apart-mark : (c : Cell) (cs : List Cell) (h : Here) → nat_eq c.byte h.scratch.marker ≡ true →
    nat_eq c.byte 10 ≡ false →
    in_break Apart (c ∷ cs) h ≡
    in_break Marks (c ∷ cs) (record h { events = h.events ++ enter ThematicBreakSequence h.point ∷ [] })
unfolding in_break
apart-mark c cs h is e = rw (e, is) (simp append_assoc)

-- a break takes whitespace byte by byte, where its marker is none
pub takes-white : TakesWhite (λ s. is_white s.marker ≡ false) (in_break White) at_break
unfolding at_break
takes-white = record {
  more =
      λ c cs h apart s. in_break-white c cs h (white-apart c.byte h.scratch.marker s apart) s
      (white-no_ending c.byte s);
  stop = λ c cs h apart k. white-ends c cs h k ∙ rw k refl;
  none = λ h apart. white-at_none h;
}

three-of : (n : ℕ) → nat_le 3 (0 + (1 + n)) ≡ nat_le 2 n
three-of n = go (nat_le 2 n) refl
  where
    go : (x : Bool) → nat_le 2 n ≡ x → nat_le 3 (0 + (1 + n)) ≡ x
    go true e = grind (arith, nat_tests)
    go false e = grind (arith, nat_tests)

counted : (m : ℕ) (bs : List ℕ) → count_by (λ b. nat_eq b m) bs ≡ marks m bs
unfolding marks
counted m bs = refl

-- a rule is a break with its first byte as marker, of which none was taken
rule-mark : (c : Cell) (cs : List Cell) (h : Here) → is_marker c.byte ≡ true → h.scratch.size ≡ 0 →
    cond (is_rule (line_bytes (c ∷ cs))) (broken Apart c.byte (c ∷ cs) h) (Refuses (without_marker h.scratch) h.flags) ≡
    in_break Apart (c ∷ cs) (record h { scratch = record h.scratch { marker = c.byte } })
unfolding in_break
rule-mark c cs h mark none =
    let same : nat_eq c.byte c.byte ≡ true = grind (arith, nat_tests) in
    rw (
      marker-no_ending c.byte mark,
      mark,
      none,
      marks-one c.byte c.byte (line_bytes cs) same,
      same,
      three-of (marks c.byte (line_bytes cs)),
      counted c.byte (line_bytes cs),
    ) refl

-- what is left of it where it is an underline with nothing to turn, or not
before-by : (options : ParseOptions) (c : Cell) (cs : List Cell) (h : Here) (x : Bool) →
    turns_nothing options h.flags.leaf && is_underline (line_bytes (c ∷ cs)) ≡ x →
    before_marker options (c ∷ cs) h ≡
    cond (is_rule (line_bytes (c ∷ cs)) && not x) (broken Apart c.byte (c ∷ cs) h)
    (Refuses (without_marker h.scratch) h.flags)
unfolding before_marker
before-by options c cs h x e =
    ap
    (λ (y : Bool).
    cond (is_rule (line_bytes (c ∷ cs)) && not y) (broken Apart c.byte (c ∷ cs) h)
    (Refuses (without_marker h.scratch) h.flags)) e

-- such an underline is no break,
pub before-underline : (options : ParseOptions) (c : Cell) (cs : List Cell) (h : Here) →
    turns_nothing options h.flags.leaf && is_underline (line_bytes (c ∷ cs)) ≡ true →
    before_marker options (c ∷ cs) h ≡ Refuses (without_marker h.scratch) h.flags
before-underline options c cs h e =
    before-by options c cs h true e
    ∙ ap
    (λ (y : Bool). cond y (broken Apart c.byte (c ∷ cs) h) (Refuses (without_marker h.scratch) h.flags))
    (and_right (is_rule (line_bytes (c ∷ cs))) false refl)

-- and any other line is one where it is a rule
pub before-rule : (options : ParseOptions) (c : Cell) (cs : List Cell) (h : Here) →
    turns_nothing options h.flags.leaf && is_underline (line_bytes (c ∷ cs)) ≡ false →
    before_marker options (c ∷ cs) h ≡
    cond (is_rule (line_bytes (c ∷ cs))) (broken Apart c.byte (c ∷ cs) h) (Refuses (without_marker h.scratch) h.flags)
before-rule options c cs h e =
    before-by options c cs h false e
    ∙ ap
    (λ (y : Bool). cond y (broken Apart c.byte (c ∷ cs) h) (Refuses (without_marker h.scratch) h.flags))
    (and-true (is_rule (line_bytes (c ∷ cs))))

-- so at a marker
pub before-mark : (options : ParseOptions) (c : Cell) (cs : List Cell) (h : Here) → is_marker c.byte ≡ true →
    h.scratch.size ≡ 0 → turns_nothing options h.flags.leaf && is_underline (line_bytes (c ∷ cs)) ≡ false →
    before_marker options (c ∷ cs) h ≡
    in_break Apart (c ∷ cs) (record h { scratch = record h.scratch { marker = c.byte } })
before-mark options c cs h mark none e = before-rule options c cs h e ∙ rule-mark c cs h mark none

pub before-other : (options : ParseOptions) (c : Cell) (cs : List Cell) (h : Here) → is_marker c.byte ≡ false →
    before_marker options (c ∷ cs) h ≡ Refuses (without_marker h.scratch) h.flags
unfolding before_marker
before-other options c cs h mark = go (nat_eq c.byte 10) refl
  where
    go : (x : Bool) → nat_eq c.byte 10 ≡ x →
        before_marker options (c ∷ cs) h ≡ Refuses (without_marker h.scratch) h.flags
    go true e = rw e refl
    go false e = rw (e, mark) refl
