-- What is left of a heading, cell by cell.
use Rattle.std.proofs.Common.{◌≡◌, ℕ, suc, ◌+◌, ◌≤◌, Bool, true, false, cond, ◌&&◌, nat_eq, List, [], ◌∷◌, ◌++◌, refl}
use Rattle.std.proofs.Common.{sym, ◌∙◌, ap, arith}
use Rattle.std.specs.Prelude.{nat_le}
use Rattle.std.proofs.lemmas.Bool.{eqb-true}
use Rattle.std.proofs.lemmas.Bool.Decides.{nat_tests}
use Rattle.md_engine.specs.declared.event.Name.TheVariants.{HeadingAtxSequence}
use Rattle.md_engine.specs.declared.tokenizer.Scratch.{Scratch}
use Rattle.md_engine.specs.Meaning.{Cell, Here, Refuses}
use Rattle.md_leaves.specs.Heading.{text_begun, text_ended, without_size}
use Rattle.md_leaves.specs.HeadingRule.{at_break, before_opening, after_opening, in_hashes, in_opening, in_text}
use Rattle.md_leaves.specs.HeadingRule.{is_heading, is_opening}
use Rattle.md_events.specs.Ahead.{begins_white, line_bytes, white_rest}
use Rattle.md_events.specs.Events.Nested.{enter, exit}
use Rattle.md_events.specs.Spaces.{IsRest, any_size}
use Rattle.md_meaning.specs.Rest.{is_white, run_len}
use Rattle.md_events.proofs.AheadLemmas.{white-no_ending}
use Rattle.md_events.proofs.WhiteMeaning.{following_white}

-- After the opening sequence.

-- whitespace is taken
pub opening-gap : (cells : List Cell) (h : Here) → begins_white cells ≡ true →
    after_opening cells h ≡ at_break (white_rest any_size cells) (following_white any_size cells h)
unfolding after_opening
opening-gap cells h e = rw e refl

-- where none is, the text
pub opening-no_gap : (cells : List Cell) (h : Here) → begins_white cells ≡ false →
    after_opening cells h ≡ at_break cells h
unfolding after_opening
opening-no_gap cells h e = rw e refl

-- no text has begun
pub rest-ended : (s : Scratch) → IsRest s → text_ended s ≡ s
rest-ended s r = ap text_ended r ∙ sym r

-- the text begins, or the line ends
pub break-text : (cells : List Cell) (h : Here) → begins_white cells ≡ false →
    at_break cells h ≡ in_text [] cells (record h { scratch = text_begun h.point h.scratch })
unfolding at_break
break-text cells h e = rw e refl

pub break-white : (cells : List Cell) (h : Here) → begins_white cells ≡ true →
    at_break cells h ≡ Refuses h.scratch h.flags
unfolding at_break
break-white cells h e = rw e refl

-- A run at the front.

-- its first byte counts,
pub run_len-one : (m b : ℕ) (bs : List ℕ) → nat_eq b m ≡ true → run_len m (b ∷ bs) ≡ suc (run_len m bs)
run_len-one m b bs e = rw e (omega arith)

-- and another byte ends it
pub run_len-other : (m b : ℕ) (bs : List ℕ) → nat_eq b m ≡ false → run_len m (b ∷ bs) ≡ 0
run_len-other m b bs e = rw e refl

-- one more is taken
pub opening-more : (c : Cell) (cs : List Cell) (h : Here) → nat_eq c.byte 35 ≡ true → nat_eq c.byte 10 ≡ false →
    in_opening (c ∷ cs) h ≡
    in_opening cs (record h { point = c.after; scratch = record h.scratch { size = h.scratch.size + 1 } })
unfolding in_opening
opening-more c cs h is ending =
    let n = run_len 35 (line_bytes cs) in
    let sum : h.scratch.size + suc n ≡ h.scratch.size + 1 + n = omega arith in
    rw (ending, run_len-one 35 c.byte (line_bytes cs) is, sum, is) refl

-- a seventh is too many
pub opening-full : (c : Cell) (cs : List Cell) (h : Here) → nat_eq c.byte 35 ≡ true → nat_eq c.byte 10 ≡ false →
    6 ≤ h.scratch.size → in_opening (c ∷ cs) h ≡ Refuses (without_size h.scratch) h.flags
unfolding in_opening
opening-full c cs h is ending le =
    let n = run_len 35 (line_bytes cs) in
    let over : nat_le (h.scratch.size + suc n) 6 ≡ false = grind (arith, nat_tests) in
    rw (ending, run_len-one 35 c.byte (line_bytes cs) is, over) refl

-- text after it makes it no heading
pub opening-text : (c : Cell) (cs : List Cell) (h : Here) → nat_eq c.byte 35 ≡ false → nat_eq c.byte 10 ≡ false →
    is_white c.byte ≡ false → in_opening (c ∷ cs) h ≡ Refuses (without_size h.scratch) h.flags
unfolding in_opening
opening-text c cs h is ending white =
    rw (ending, run_len-other 35 c.byte (line_bytes cs) is, white) (go (nat_le (h.scratch.size + 0) 6))
  where
    go : (x : Bool) →
        cond (x && false) (in_hashes (c ∷ cs) (record h { scratch = without_size h.scratch }))
        (Refuses (without_size h.scratch) h.flags) ≡
        Refuses (without_size h.scratch) h.flags
    go true = refl
    go false = refl

pub white-no_hash : (b : ℕ) → is_white b ≡ true → nat_eq b 35 ≡ false
white-no_hash b s = go (nat_eq b 35) refl
  where
    go : (x : Bool) → nat_eq b 35 ≡ x → x ≡ false
    go false e = refl
    go true e = let bad : false ≡ true = rw (eqb-true b 35 e) at s in cc

few : (n : ℕ) → n ≤ 6 → nat_le (n + 0) 6 ≡ true
few n le = grind (arith, nat_tests)

-- it has ended here
abbrev pub after_sequence : Here → Here
after_sequence h = record h {
  events = h.events ++ exit HeadingAtxSequence h.point ∷ [];
  scratch = without_size h.scratch;
}

-- after it whitespace or the line's end is
pub opening-white : (c : Cell) (cs : List Cell) (h : Here) → is_white c.byte ≡ true → h.scratch.size ≤ 6 →
    in_opening (c ∷ cs) h ≡ after_opening (c ∷ cs) (after_sequence h)
unfolding in_opening
opening-white c cs h white le =
    rw (
      white-no_ending c.byte white,
      run_len-other 35 c.byte (line_bytes cs) (white-no_hash c.byte white),
      white,
      few h.scratch.size le,
      white-no_hash c.byte white,
    ) refl

pub opening-ends : (c : Cell) (cs : List Cell) (h : Here) → nat_eq c.byte 10 ≡ true → h.scratch.size ≤ 6 →
    in_opening (c ∷ cs) h ≡ after_opening (c ∷ cs) (after_sequence h)
unfolding in_opening
opening-ends c cs h ending le =
    let none : nat_eq c.byte 35 ≡ false = rw (eqb-true c.byte 10 ending) refl in
    rw (ending, few h.scratch.size le, none) refl

pub opening-none : (h : Here) → h.scratch.size ≤ 6 → in_opening [] h ≡ after_opening [] (after_sequence h)
unfolding in_opening
opening-none h le = rw (few h.scratch.size le) refl

-- After the indent.

-- it begins here
abbrev pub sequence_begun : Here → Here
sequence_begun h = record h { events = h.events ++ enter HeadingAtxSequence h.point ∷ [] }

pub before-is : (cells : List Cell) (h : Here) → is_heading (line_bytes cells) ≡ true →
    before_opening cells h ≡ in_hashes cells (sequence_begun h)
unfolding before_opening
before-is cells h e = rw e refl

pub before-no : (cells : List Cell) (h : Here) → is_heading (line_bytes cells) ≡ false →
    before_opening cells h ≡ Refuses h.scratch h.flags
unfolding before_opening
before-no cells h e = rw e refl

opening-is : (cells : List Cell) (h : Here) → is_opening h.scratch.size (line_bytes cells) ≡ true →
    in_opening cells h ≡ in_hashes cells (record h { scratch = without_size h.scratch })
unfolding in_opening
opening-is cells h e = rw e refl

opening-no : (cells : List Cell) (h : Here) → is_opening h.scratch.size (line_bytes cells) ≡ false →
    in_opening cells h ≡ Refuses (without_size h.scratch) h.flags
unfolding in_opening
opening-no cells h e = rw e refl

-- the first `#`
pub before-hash : (c : Cell) (cs : List Cell) (h : Here) → nat_eq c.byte 35 ≡ true → nat_eq c.byte 10 ≡ false →
    h.scratch.size ≡ 0 → without_size h.scratch ≡ h.scratch →
    before_opening (c ∷ cs) h ≡ in_opening (c ∷ cs) (sequence_begun h)
before-hash c cs h is ending none same = go (is_opening 0 (line_bytes (c ∷ cs))) refl
  where
    entered : Here
    entered = sequence_begun h

    some : nat_le 1 (run_len 35 (line_bytes (c ∷ cs))) ≡ true
    some = rw (ending, is) (grind (arith, nat_tests))

    none-yet : is_opening entered.scratch.size (line_bytes (c ∷ cs)) ≡ is_opening 0 (line_bytes (c ∷ cs))
    none-yet = ap (λ (k : ℕ). is_opening k (line_bytes (c ∷ cs))) none

    heads : is_heading (line_bytes (c ∷ cs)) ≡ is_opening 0 (line_bytes (c ∷ cs))
    heads = rw some refl

    go : (x : Bool) → is_opening 0 (line_bytes (c ∷ cs)) ≡ x → before_opening (c ∷ cs) h ≡ in_opening (c ∷ cs) entered
    go true k =
        before-is (c ∷ cs) h (heads ∙ k)
        ∙ ap (λ (t : Scratch). in_hashes (c ∷ cs) (record entered { scratch = t })) (sym same)
        ∙ sym (opening-is (c ∷ cs) entered (none-yet ∙ k))
    go false k =
        before-no (c ∷ cs) h (heads ∙ k) ∙ ap (λ (t : Scratch). Refuses t h.flags) (sym same)
        ∙ sym (opening-no (c ∷ cs) entered (none-yet ∙ k))

pub before-other : (c : Cell) (cs : List Cell) (h : Here) → nat_eq c.byte 35 ≡ false →
    before_opening (c ∷ cs) h ≡ Refuses h.scratch h.flags
before-other c cs h is = go (nat_eq c.byte 10) refl
  where
    go : (x : Bool) → nat_eq c.byte 10 ≡ x → before_opening (c ∷ cs) h ≡ Refuses h.scratch h.flags
    go true e = before-no (c ∷ cs) h (rw e refl)
    go false e = before-no (c ∷ cs) h (rw (e, is) refl)
