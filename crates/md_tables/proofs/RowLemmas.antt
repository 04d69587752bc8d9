-- What is left of a row, cell by cell.
use Rattle.std.proofs.Common.{◌≡◌, ℕ, Bool, true, false, nat_eq, List, [], ◌∷◌, ◌++◌, refl, sym, ◌∙◌, ap, append_assoc}
use Rattle.std.specs.Prelude.{⊤}
use Rattle.md_engine.specs.declared.event.Name.TheVariants.{SpaceOrTab}
use Rattle.md_engine.specs.declared.event.Event.{Event}
use Rattle.md_engine.specs.declared.event.Point.{Point}
use Rattle.md_engine.specs.Meaning.{Cell, Here}
use Rattle.md_meaning.specs.Rest.{is_white}
use Rattle.md_leaves.proofs.LeafSteps.{TakesWhite}
use Rattle.md_events.specs.Ahead.{begins_white}
use Rattle.md_events.specs.Events.Nested.{enter, exit}
use Rattle.md_events.proofs.AheadLemmas.{white-no_ending}
use Rattle.md_tables.specs.declared.row.Row.{Row}
use Rattle.md_tables.specs.RowRule.{Apart, Escaped, Run, Text, White, at_break, begun, closes, is_continued, in_row}
use Rattle.md_tables.specs.RowRule.{in_text, next, opens}

-- a run continues
pub run-more : (r : Row) (run : Run) (c : Cell) (cs : List Cell) (h : Here) → is_continued run c.byte ≡ true →
    nat_eq c.byte 10 ≡ false →
    in_row r run (c ∷ cs) h ≡ in_row r (next run c.byte) cs (record h { point = c.after })
unfolding in_row
run-more r run c cs h is ending = rw (ending, is) refl

-- between two runs the next begins with its first byte
pub run-begins : (r : Row) (c : Cell) (cs : List Cell) (h : Here) → nat_eq c.byte 10 ≡ false →
    in_row r Apart (c ∷ cs) h ≡
    in_row r (begun c.byte) cs (record h { events = h.events ++ opens (begun c.byte) h.point; point = c.after })
unfolding in_row
run-begins r c cs h ending = rw ending (simp append_assoc)

-- a run ends
pub run-ends : (r : Row) (run : Run) (c : Cell) (cs : List Cell) (h : Here) → is_continued run c.byte ≡ false →
    nat_eq c.byte 10 ≡ false →
    in_row r run (c ∷ cs) h ≡ in_row r Apart (c ∷ cs) (record h { events = h.events ++ closes run h.point })
unfolding in_row
run-ends r run c cs h is ending = rw (ending, is) (simp append_assoc)

pub run-ends_line : (r : Row) (run : Run) (c : Cell) (cs : List Cell) (h : Here) → nat_eq c.byte 10 ≡ true →
    in_row r run (c ∷ cs) h ≡ in_row r Apart (c ∷ cs) (record h { events = h.events ++ closes run h.point })
unfolding in_row
run-ends_line r run c cs h ending = rw ending (simp append_assoc)

pub run-ends_none : (r : Row) (run : Run) (h : Here) →
    in_row r run [] h ≡ in_row r Apart [] (record h { events = h.events ++ closes run h.point })
unfolding in_row
run-ends_none r run h = simp append_assoc

-- whitespace is taken byte by byte
pub takes-white : (r : Row) → TakesWhite (λ s. ⊤) (in_row r White) (at_break r)
unfolding at_break
takes-white r = record {
  more = λ c cs h is s. run-more r White c cs h s (white-no_ending c.byte s);
  stop = λ c cs h is k. go c cs h k (nat_eq c.byte 10) refl ∙ rw k refl;
  none = λ h is. run-ends_none r White h;
}
  where
    go : (c : Cell) (cs : List Cell) (h : Here) → is_white c.byte ≡ false → (y : Bool) → nat_eq c.byte 10 ≡ y →
        in_row r White (c ∷ cs) h ≡
        in_row r Apart (c ∷ cs) (record h { events = h.events ++ exit SpaceOrTab h.point ∷ [] })
    go c cs h k true e = run-ends_line r White c cs h e
    go c cs h k false e = run-ends r White c cs h k e

-- whitespace that is here is the next run
pub apart-white : (r : Row) (c : Cell) (cs : List Cell) (h : Here) → is_white c.byte ≡ true →
    in_row r Apart (c ∷ cs) h ≡
    in_row r White (c ∷ cs) (record h { events = h.events ++ enter SpaceOrTab h.point ∷ [] })
apart-white r c cs h s =
    let ending = white-no_ending c.byte s in
    let is : begun c.byte ≡ White = rw s refl in
    run-begins r c cs h ending
    ∙ ap (λ (y : Run). in_row r y cs (record h { events = h.events ++ opens y h.point; point = c.after })) is
    ∙ sym (run-more r White c cs (record h { events = h.events ++ enter SpaceOrTab h.point ∷ [] }) s ending)

-- where no whitespace is, the next run
pub apart-none : (r : Row) (cells : List Cell) (h : Here) → begins_white cells ≡ false →
    at_break r cells h ≡ in_row r Apart cells h
unfolding at_break
apart-none r cells h e = rw e refl

-- a word begins with a backslash as with any other byte
opens-text : (b : ℕ) (p : Point) → opens (in_text b) p ≡ opens Text p
opens-text b p = go (nat_eq b 92) refl
  where
    go : (x : Bool) → nat_eq b 92 ≡ x → opens (in_text b) p ≡ opens Text p
    go true e = rw e refl
    go false e = rw e refl

-- a word that begins here
pub apart-text : (r : Row) (c : Cell) (cs : List Cell) (h : Here) → is_white c.byte ≡ false →
    nat_eq c.byte 124 ≡ false → nat_eq c.byte 10 ≡ false →
    in_row r Apart (c ∷ cs) h ≡ in_row r Text (c ∷ cs) (record h { events = h.events ++ opens Text h.point })
apart-text r c cs h s pipe ending =
    let is : begun c.byte ≡ in_text c.byte = rw (s, pipe) refl in
    run-begins r c cs h ending
    ∙ ap (λ (y : Run). in_row r y cs (record h { events = h.events ++ opens y h.point; point = c.after })) is
    ∙ ap (λ (es : List Event). in_row r (in_text c.byte) cs (record h { events = h.events ++ es; point = c.after }))
    (opens-text c.byte h.point)
    ∙ sym (run-more r Text c cs (record h { events = h.events ++ opens Text h.point }) (rw (s, pipe) refl) ending)

-- a backslash that takes nothing is a byte of the word
pub escaped-other : (r : Row) (c : Cell) (cs : List Cell) (h : Here) → nat_eq c.byte 92 ≡ false →
    nat_eq c.byte 124 ≡ false →
    in_row r Escaped (c ∷ cs) h ≡ in_row r Text (c ∷ cs) h
escaped-other r c cs h slash pipe = go (nat_eq c.byte 10) (is_white c.byte) refl refl
  where
    go : (x y : Bool) → nat_eq c.byte 10 ≡ x → is_white c.byte ≡ y →
        in_row r Escaped (c ∷ cs) h ≡ in_row r Text (c ∷ cs) h
    go true y e s = run-ends_line r Escaped c cs h e ∙ sym (run-ends_line r Text c cs h e)
    go false true e s = run-ends r Escaped c cs h (rw s refl) e ∙ sym (run-ends r Text c cs h (rw s refl) e)
    go false false e s =
        let text : in_text c.byte ≡ Text = rw slash refl in
        run-more r Escaped c cs h (rw s refl) e
        ∙ sym
        (run-more r Text c cs h (rw (s, pipe) refl) e
        ∙ ap (λ (y : Run). in_row r y cs (record h { point = c.after })) text)
