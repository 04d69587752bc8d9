-- What is left of the title of a definition, cell by cell.
use Rattle.std.proofs.Common.{◌≡◌, ℕ, ◌||◌, Bool, true, false, nat_eq, List, [], ◌∷◌, ◌++◌, Option, Some, None, refl}
use Rattle.std.proofs.Common.{arith, append_assoc, subst}
use Rattle.std.proofs.lemmas.Bool.{eqb-true, or_parts}
use Rattle.std.proofs.lemmas.Bool.Decides.{nat_tests}
use Rattle.md_meaning.specs.Ascii.{backslash}
use Rattle.md_meaning.specs.Definition.{title_closer}
use Rattle.md_engine.specs.declared.event.Event.{Event}
use Rattle.md_engine.specs.declared.event.Name.TheVariants.{Data, DefinitionTitleString}
use Rattle.md_engine.specs.declared.tokenizer.Scratch.{Scratch}
use Rattle.md_engine.specs.Meaning.{Accepts, Cell, Here, Outcome, Refuses}
use Rattle.md_link_definitions.specs.Chunks.{before_mark, from_mark, string_link}
use Rattle.md_link_definitions.specs.Title.{IsMarked, is_escaped, is_mark, unmarked}
use Rattle.md_link_definitions.proofs.CellLineLemmas.{AreMarks, is_other}
use Rattle.md_link_definitions.specs.TitleRule.{following_ending, after_opener, in_text, text_left, title_by, title_end}
use Rattle.md_link_definitions.specs.TitleRule.{title_text}
use Rattle.md_events.specs.Events.Nested.{enter, enter_link, exit}

-- The marks of a title end no line, and are neither whitespace nor a backslash.
pub title-marks : (opener closer : ℕ) → title_closer opener ≡ Some closer → AreMarks opener closer
title-marks opener closer e = go (nat_eq opener 34 || nat_eq opener 39) (nat_eq opener 40) refl refl
  where
    go : (x y : Bool) → nat_eq opener 34 || nat_eq opener 39 ≡ x → nat_eq opener 40 ≡ y → AreMarks opener closer
    go true y k l =
        let is : Some opener ≡ Some closer = rw k at e in
        let same : opener ≡ closer = cc in
        let no : is_other opener ≡ false = grind (arith, nat_tests) in
        record { opens = no; closes = subst (λ (b : ℕ). is_other b ≡ false) same no }
    go false true k l =
        let is : Some 41 ≡ Some closer = rw (k, l) at e in
        let same : 41 ≡ closer = cc in
        record {
          opens = rw (eqb-true opener 40 l) refl;
          closes = subst (λ (b : ℕ). is_other b ≡ false) same refl;
        }
    go false false k l = let none : (let o : Option ℕ = None in o) ≡ Some closer = rw (k, l) at e in cc

other-no_ending : (b : ℕ) → is_other b ≡ false → nat_eq b 10 ≡ false
other-no_ending b e = go (nat_eq b 10) refl
  where
    go : (x : Bool) → nat_eq b 10 ≡ x → x ≡ false
    go true k = let bad : true ≡ false = rw k at e in bad
    go false k = refl

-- what makes a pair with a backslash ends no line
pub escaped-no_ending : (s : Scratch) (b : ℕ) → IsMarked s → is_escaped s (Some b) ≡ true → nat_eq b 10 ≡ false
escaped-no_ending s b marked is = go (nat_eq b s.marker_b) (nat_eq b s.marker) refl refl
  where
    are : AreMarks s.marker_b s.marker
    are = title-marks s.marker_b s.marker marked.marks

    go : (x y : Bool) → nat_eq b s.marker_b ≡ x → nat_eq b s.marker ≡ y → nat_eq b 10 ≡ false
    go true y k l = rw (eqb-true b s.marker_b k) (other-no_ending s.marker_b are.opens)
    go false true k l = rw (eqb-true b s.marker l) (other-no_ending s.marker are.closes)
    go false false k l =
        let escape : nat_eq b backslash ≡ true = rw (k, l) at is in rw (eqb-true b backslash escape) refl

-- By the text that is left.

-- a byte of a line that has begun
left-more : (c : Cell) (text rest : List Cell) (h : Here) → nat_eq c.byte 10 ≡ false →
    title_by (text_left true) (c ∷ text) rest h ≡ title_by (text_left true) text rest (record h { point = c.after })
left-more c text [] h e = refl
left-more c text (m ∷ rest) h e = rw e refl

-- a line ending
left-ending : (c : Cell) (text rest : List Cell) (h : Here) → nat_eq c.byte 10 ≡ true →
    title_by (text_left true) (c ∷ text) rest h ≡
    title_by (text_left false) text rest
    (record h { events = h.events ++ exit Data c.after ∷ []; point = c.after })
left-ending c text [] h e = refl
left-ending c text (m ∷ rest) h e = rw e (simp append_assoc)

-- a line that begins
left-begins : (c : Cell) (text rest : List Cell) (h : Here) →
    title_by (text_left false) (c ∷ text) rest h ≡
    title_by (text_left true) (c ∷ text) rest
    (record h { events = h.events ++ enter_link Data h.point string_link ∷ [] })
left-begins c text [] h = refl
left-begins c text (m ∷ rest) h = simp append_assoc

-- and the text itself
left-opens : (c : Cell) (text rest : List Cell) (h : Here) →
    title_by title_text (c ∷ text) rest h ≡
    title_by (text_left false) (c ∷ text) rest
    (record h { events = h.events ++ enter DefinitionTitleString h.point ∷ [] })
left-opens c text [] h = refl
left-opens c text (m ∷ rest) h = simp append_assoc

-- By what is here.

-- after the mark that closes, with these events of the text before it
abbrev pub closed_here : List Event → Cell → List Cell → Here → Outcome
closed_here events c cs h =
    Accepts
    (record h {
      events = h.events ++ events ++ title_end h.point c.after;
      point = c.after;
      scratch = unmarked h.scratch;
    })
    cs

-- it may close the text,
pub text-closes : (begun : Bool) (c : Cell) (cs : List Cell) (h : Here) → nat_eq c.byte h.scratch.marker ≡ true →
    in_text begun false (c ∷ cs) h ≡ closed_here (text_left begun [] h.point) c cs h
unfolding in_text
text-closes begun c cs h e = go (nat_eq c.byte h.scratch.marker_b) refl
  where
    go : (x : Bool) → nat_eq c.byte h.scratch.marker_b ≡ x →
        in_text begun false (c ∷ cs) h ≡ closed_here (text_left begun [] h.point) c cs h
    go true k = rw (k, e) refl
    go false k = rw (k, e, e) refl

-- or are at once after that which opens
pub opener-closes : (c : Cell) (cs : List Cell) (h : Here) → nat_eq c.byte h.scratch.marker ≡ true →
    after_opener (c ∷ cs) h ≡ closed_here [] c cs h
unfolding after_opener
opener-closes c cs h e = go (nat_eq c.byte h.scratch.marker_b) refl
  where
    go : (x : Bool) → nat_eq c.byte h.scratch.marker_b ≡ x → after_opener (c ∷ cs) h ≡ closed_here [] c cs h
    go true k = rw (k, e) refl
    go false k = rw (k, e, e) refl

-- that which opens refuses,
pub text-opens : (begun : Bool) (c : Cell) (cs : List Cell) (h : Here) → nat_eq c.byte h.scratch.marker ≡ false →
    nat_eq c.byte h.scratch.marker_b ≡ true → in_text begun false (c ∷ cs) h ≡ Refuses (unmarked h.scratch) h.flags
unfolding in_text
text-opens begun c cs h e k = rw (k, e) refl

-- and so does the end
pub text-none : (begun escaped : Bool) (h : Here) → in_text begun escaped [] h ≡ Refuses (unmarked h.scratch) h.flags
unfolding in_text
text-none begun escaped h = refl

-- a line ending
pub text-ending : (c : Cell) (cs : List Cell) (h : Here) →
    is_mark h.scratch.marker_b h.scratch.marker c.byte ≡ false → nat_eq c.byte 10 ≡ true →
    in_text true false (c ∷ cs) h ≡ following_ending cs (record h { point = c.after })
unfolding in_text following_ending
text-ending c cs h e k =
    let plain : nat_eq c.byte backslash ≡ false = grind (arith, nat_tests) in
    let is = is_mark h.scratch.marker_b h.scratch.marker in
    rw (e, plain) (left-ending c (before_mark is false cs) (from_mark is false cs) h k)

-- a byte of the line, which may be a backslash
pub text-more : (c : Cell) (cs : List Cell) (h : Here) →
    is_mark h.scratch.marker_b h.scratch.marker c.byte ≡ false → nat_eq c.byte 10 ≡ false →
    in_text true false (c ∷ cs) h ≡ in_text true (nat_eq c.byte backslash) cs (record h { point = c.after })
unfolding in_text
text-more c cs h e k =
    let is = is_mark h.scratch.marker_b h.scratch.marker in
    let escaped = nat_eq c.byte backslash in
    rw e (left-more c (before_mark is escaped cs) (from_mark is escaped cs) h k)

-- a pair ends
pub pair-ends : (c : Cell) (cs : List Cell) (h : Here) → nat_eq c.byte 10 ≡ false →
    in_text true true (c ∷ cs) h ≡ in_text true false cs (record h { point = c.after })
unfolding in_text
pair-ends c cs h k =
    let is = is_mark h.scratch.marker_b h.scratch.marker in
    left-more c (before_mark is false cs) (from_mark is false cs) h k

-- a byte that makes no pair with a backslash
pub pair-none : (c : Cell) (cs : List Cell) (h : Here) → is_escaped h.scratch (Some c.byte) ≡ false →
    in_text true true (c ∷ cs) h ≡ in_text true false (c ∷ cs) h
unfolding in_text
pair-none c cs h e =
    let parts = or_parts (is_mark h.scratch.marker_b h.scratch.marker c.byte) (nat_eq c.byte backslash) e in
    rw (parts.0, parts.1) refl

-- a line begins
pub line-begins : (c : Cell) (cs : List Cell) (h : Here) → nat_eq c.byte h.scratch.marker ≡ false →
    in_text false false (c ∷ cs) h ≡
    in_text true false (c ∷ cs) (record h { events = h.events ++ enter_link Data h.point string_link ∷ [] })
unfolding in_text
line-begins c cs h e = go (nat_eq c.byte h.scratch.marker_b) refl
  where
    go : (x : Bool) → nat_eq c.byte h.scratch.marker_b ≡ x →
        in_text false false (c ∷ cs) h ≡
        in_text true false (c ∷ cs) (record h { events = h.events ++ enter_link Data h.point string_link ∷ [] })
    go true k = rw (k, e) refl
    go false k =
        let is = is_mark h.scratch.marker_b h.scratch.marker in
        let escaped = nat_eq c.byte backslash in
        rw (k, e) (left-begins c (before_mark is escaped cs) (from_mark is escaped cs) h)

-- the text begins
pub text-begins : (c : Cell) (cs : List Cell) (h : Here) → nat_eq c.byte h.scratch.marker ≡ false →
    after_opener (c ∷ cs) h ≡
    in_text false false (c ∷ cs) (record h { events = h.events ++ enter DefinitionTitleString h.point ∷ [] })
unfolding after_opener in_text
text-begins c cs h e = go (nat_eq c.byte h.scratch.marker_b) refl
  where
    go : (x : Bool) → nat_eq c.byte h.scratch.marker_b ≡ x →
        after_opener (c ∷ cs) h ≡
        in_text false false (c ∷ cs) (record h { events = h.events ++ enter DefinitionTitleString h.point ∷ [] })
    go true k = rw (k, e) refl
    go false k =
        let is = is_mark h.scratch.marker_b h.scratch.marker in
        let escaped = nat_eq c.byte backslash in
        rw (k, e) (left-opens c (before_mark is escaped cs) (from_mark is escaped cs) h)

-- and ends at once where nothing follows
pub begins-none : (h : Here) → after_opener [] h ≡ Refuses (unmarked h.scratch) h.flags
unfolding after_opener
begins-none h = refl
