-- What is left of a delimiter row, cell by cell.
use Rattle.std.proofs.Common.{◌≡◌, ℕ, Bool, true, false, nat_eq, List, [], ◌∷◌, ◌++◌, refl, sym, ◌∙◌, ap, append_assoc}
use Rattle.std.specs.Prelude.{⊤}
use Rattle.std.proofs.lemmas.Bool.{eqb-true}
use Rattle.md_engine.specs.declared.event.Name.TheVariants.{SpaceOrTab}
use Rattle.md_engine.specs.Meaning.{Cell, Here, Outcome, Refuses}
use Rattle.md_meaning.specs.Rest.{is_white}
use Rattle.md_leaves.proofs.LeafSteps.{TakesWhite}
use Rattle.md_leaves.proofs.BreakLemmas.{white-apart}
use Rattle.md_events.specs.Ahead.{begins_white}
use Rattle.md_events.specs.Events.Nested.{enter, exit}
use Rattle.md_events.proofs.AheadLemmas.{white-no_ending}
use Rattle.md_tables.specs.Delimiter.{Aligns, Dash, Divides, Mark, Stops, White, mark_of, uncounted}
use Rattle.md_tables.specs.DelimiterRule.{Apart, Following, Counts, Dashes, Fails, Proceeds, Marks, Move, Open}
use Rattle.md_tables.specs.DelimiterRule.{Place, Run, Space, begun, following_white, closes, counted}
use Rattle.md_tables.specs.DelimiterRule.{is_continued, in_row, met, move, opens}

-- What a mark says of its byte.
abbrev pub is_stop : Mark → Bool
is_stop Stops = true
is_stop _ = false

abbrev pub is_space : Mark → Bool
is_space White = true
is_space _ = false

abbrev pub is_pipe : Mark → Bool
is_pipe Divides = true
is_pipe _ = false

abbrev pub is_colon : Mark → Bool
is_colon Aligns = true
is_colon _ = false

abbrev pub is_dash : Mark → Bool
is_dash Dash = true
is_dash _ = false

pub record Recorded (b : ℕ) (x : Mark) : Type 0 where
  pub stop : nat_eq b 10 ≡ is_stop x
  pub white : is_white b ≡ is_space x
  pub pipe : nat_eq b 124 ≡ is_pipe x
  pub colon : nat_eq b 58 ≡ is_colon x
  pub dash : nat_eq b 45 ≡ is_dash x

pub recorded : (b : ℕ) → Recorded b (mark_of b)
recorded b = go (nat_eq b 10) (is_white b) (nat_eq b 124) (nat_eq b 58) (nat_eq b 45) refl refl refl refl refl
  where
    go : (x y z v u : Bool) → nat_eq b 10 ≡ x → is_white b ≡ y → nat_eq b 124 ≡ z → nat_eq b 58 ≡ v →
        nat_eq b 45 ≡ u → Recorded b (mark_of b)
    go true y z v u h k l m o =
        rw (eqb-true b 10 h) (record { stop = refl; white = refl; pipe = refl; colon = refl; dash = refl })
    go false true z v u h k l m o = record {
      stop = rw (h, k) refl;
      white = rw (h, k) refl;
      pipe = rw (h, k, white-apart b 124 k refl) refl;
      colon = rw (h, k, white-apart b 58 k refl) refl;
      dash = rw (h, k, white-apart b 45 k refl) refl;
    }
    go false false true v u h k l m o =
        rw (eqb-true b 124 l) (record { stop = refl; white = refl; pipe = refl; colon = refl; dash = refl })
    go false false false true u h k l m o =
        rw (eqb-true b 58 m) (record { stop = refl; white = refl; pipe = refl; colon = refl; dash = refl })
    go false false false false true h k l m o =
        rw (eqb-true b 45 o) (record { stop = refl; white = refl; pipe = refl; colon = refl; dash = refl })
    go false false false false false h k l m o = record {
      stop = rw (h, k, l, m, o) refl;
      white = rw (h, k, l, m, o) refl;
      pipe = rw (h, k, l, m, o) refl;
      colon = rw (h, k, l, m, o) refl;
      dash = rw (h, k, l, m, o) refl;
    }

pub recorded-as : (b : ℕ) (x : Mark) → mark_of b ≡ x → Recorded b x
recorded-as b x e = rw (← e) (recorded b)

-- what is left after a byte
abbrev pub moved : Move → Run → List Cell → Here → Outcome
moved (Proceeds q) run cs h = in_row run q cs h
moved Counts run cs h = in_row run Dashes cs (record h { scratch = counted h.scratch })
moved (Marks q) run cs h = in_row run q cs (record h { scratch = met h.scratch })
moved Fails run cs h = Refuses (uncounted h.scratch) h.flags

-- a run continues
pub row-proceeds : (run : Run) (place : Place) (c : Cell) (cs : List Cell) (h : Here) (m : Move) →
    move place (mark_of c.byte) ≡ m → nat_eq c.byte 10 ≡ false → is_continued run c.byte ≡ true →
    in_row run place (c ∷ cs) h ≡ moved m run cs (record h { point = c.after })
unfolding in_row
row-proceeds run place c cs h (Proceeds q) to ending on = rw (ending, to, on) refl
row-proceeds run place c cs h Counts to ending on = rw (ending, to, on) refl
row-proceeds run place c cs h (Marks q) to ending on = rw (ending, to, on) refl
row-proceeds run place c cs h Fails to ending on = rw (ending, to) refl

-- between two runs the next begins with its first byte
pub row-begins : (place : Place) (c : Cell) (cs : List Cell) (h : Here) (m : Move) →
    move place (mark_of c.byte) ≡ m → nat_eq c.byte 10 ≡ false →
    in_row Apart place (c ∷ cs) h ≡
    moved m (begun c.byte) cs
    (record h { events = h.events ++ opens (begun c.byte) h.point; point = c.after })
unfolding in_row
row-begins place c cs h (Proceeds q) to ending = rw (ending, to) (simp append_assoc)
row-begins place c cs h Counts to ending = rw (ending, to) (simp append_assoc)
row-begins place c cs h (Marks q) to ending = rw (ending, to) (simp append_assoc)
row-begins place c cs h Fails to ending = rw (ending, to) refl

-- a run ends
pub row-ends : (run : Run) (place : Place) (c : Cell) (cs : List Cell) (h : Here) → is_continued run c.byte ≡ false →
    nat_eq c.byte 10 ≡ false →
    in_row run place (c ∷ cs) h ≡
    in_row Apart place (c ∷ cs) (record h { events = h.events ++ closes run h.point })
unfolding in_row
row-ends run place c cs h is ending = rw (ending, is) (simp append_assoc)

pub row-ends_line : (run : Run) (place : Place) (c : Cell) (cs : List Cell) (h : Here) → nat_eq c.byte 10 ≡ true →
    in_row run place (c ∷ cs) h ≡
    in_row Apart place (c ∷ cs) (record h { events = h.events ++ closes run h.point })
unfolding in_row
row-ends_line run place c cs h ending = rw ending (simp append_assoc)

pub row-ends_none : (run : Run) (place : Place) (h : Here) →
    in_row run place [] h ≡ in_row Apart place [] (record h { events = h.events ++ closes run h.point })
unfolding in_row
row-ends_none run place h = simp append_assoc

-- a run of one byte ends at once
pub one-ends : (run : Run) (place : Place) (cells : List Cell) (h : Here) → ((b : ℕ) → is_continued run b ≡ false) →
    in_row run place cells h ≡ in_row Apart place cells (record h { events = h.events ++ closes run h.point })
one-ends run place [] h one = row-ends_none run place h
one-ends run place (c ∷ cs) h one = go (nat_eq c.byte 10) refl
  where
    go : (x : Bool) → nat_eq c.byte 10 ≡ x →
        in_row run place (c ∷ cs) h ≡
        in_row Apart place (c ∷ cs) (record h { events = h.events ++ closes run h.point })
    go true e = row-ends_line run place c cs h e
    go false e = row-ends run place c cs h (one c.byte) e

-- where whitespace may be, and does not end a cell
pub data MaySpace : Place → Type 0 where
  InOpen : MaySpace Open
  InFollowing : MaySpace Following

pub white-mark : (b : ℕ) → is_white b ≡ true → mark_of b ≡ White
white-mark b e = rw (white-apart b 10 e refl, e) refl

white-move : (place : Place) (b : ℕ) → MaySpace place → is_white b ≡ true → move place (mark_of b) ≡ Proceeds place
white-move _ b InOpen e = ap (move Open) (white-mark b e)
white-move _ b InFollowing e = ap (move Following) (white-mark b e)

-- it is taken byte by byte
pub takes-white : (place : Place) → MaySpace place → TakesWhite (λ s. ⊤) (in_row Space place) (following_white place)
unfolding following_white
takes-white place may = record {
  more =
      λ c cs h is s. row-proceeds Space place c cs h (Proceeds place) (white-move place c.byte may s)
      (white-no_ending c.byte s) s;
  stop = λ c cs h is k. go c cs h k (nat_eq c.byte 10) refl ∙ rw k refl;
  none = λ h is. row-ends_none Space place h;
}
  where
    go : (c : Cell) (cs : List Cell) (h : Here) → is_white c.byte ≡ false → (y : Bool) → nat_eq c.byte 10 ≡ y →
        in_row Space place (c ∷ cs) h ≡
        in_row Apart place (c ∷ cs) (record h { events = h.events ++ exit SpaceOrTab h.point ∷ [] })
    go c cs h k true e = row-ends_line Space place c cs h e
    go c cs h k false e = row-ends Space place c cs h k e

-- whitespace that is here is the next run
pub apart-white : (place : Place) (c : Cell) (cs : List Cell) (h : Here) → MaySpace place → is_white c.byte ≡ true →
    in_row Apart place (c ∷ cs) h ≡
    in_row Space place (c ∷ cs) (record h { events = h.events ++ enter SpaceOrTab h.point ∷ [] })
apart-white place c cs h may s =
    let ending = white-no_ending c.byte s in
    let to = white-move place c.byte may s in
    let is : begun c.byte ≡ Space = rw s refl in
    row-begins place c cs h (Proceeds place) to ending
    ∙ ap (λ (y : Run). in_row y place cs (record h { events = h.events ++ opens y h.point; point = c.after })) is
    ∙ sym
    (row-proceeds Space place c cs (record h { events = h.events ++ enter SpaceOrTab h.point ∷ [] }) (Proceeds place)
    to ending s)

-- where none is, what is left after it
pub apart-none : (place : Place) (cells : List Cell) (h : Here) → begins_white cells ≡ false →
    following_white place cells h ≡ in_row Apart place cells h
unfolding following_white
apart-none place cells h e = rw e refl

pub white-refused : (place : Place) (cells : List Cell) (h : Here) → begins_white cells ≡ true →
    following_white place cells h ≡ Refuses (uncounted h.scratch) h.flags
unfolding following_white
white-refused place cells h e = rw e refl
