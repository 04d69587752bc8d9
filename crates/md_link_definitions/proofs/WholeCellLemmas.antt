-- Texts up to a mark, by the cells at which bytes begin.
use Rattle.std.proofs.Common.{◌≡◌, inl, inr, ℕ, Bool, true, false, nat_eq, List, [], ◌∷◌, refl, sym, ◌∙◌, ap, arith}
use Rattle.std.proofs.Common.{Option, Some, None, ap₂, cond}
use Rattle.std.proofs.lemmas.Bool.{eqb-true}
use Rattle.std.proofs.lemmas.Bool.Decides.{nat_tests}
use Rattle.md_meaning.specs.Rest.{is_white}
use Rattle.md_meaning.specs.Enclosed.{Lines, enclosed_lines}
use Rattle.md_engine.specs.declared.event.Point.{Point}
use Rattle.md_engine.specs.Meaning.{Cell}
use Rattle.md_link_definitions.specs.Chunks.{before_mark, from_mark}
use Rattle.md_link_definitions.specs.CellLines.{cell_lines, lines_closed}
use Rattle.md_link_definitions.specs.Title.{is_mark}
use Rattle.md_link_definitions.specs.WholeCells.{AreWhole, IsWhole, whole_cells}
use Rattle.md_link_definitions.proofs.CellLineLemmas.{AreMarks, all-enclosed, cells-enclosed, is_other, not-mark}
use Rattle.md_events.specs.Ahead.{point_after}

-- no mark is whitespace
abbrev pub NoWhite : (ℕ → Bool) → Type 0
NoWhite is = (b : ℕ) → is_white b ≡ true → is b ≡ false

-- after what is no whitespace and no line ending a byte begins
pub whole-after : (p : Point) (c : Cell) → IsWhole p c → is_white c.byte ≡ false → nat_eq c.byte 10 ≡ false →
    c.after.vs ≡ 0
whole-after p c (inl white) w e = cc
whole-after p c (inr (at, inl ten)) w e = let bad : false ≡ true = rw ten at (sym e) in cc
whole-after p c (inr (at, inr vs)) w e = vs

-- and one begins where it is
pub whole-at : (p : Point) (c : Cell) → IsWhole p c → is_white c.byte ≡ false → p.vs ≡ 0
whole-at p c (inl white) w = cc
whole-at p c (inr (at, more)) w = at

-- a column within a tab is whitespace
pub whole-within : (p : Point) (c : Cell) → IsWhole p c → nat_eq p.vs 0 ≡ false → is_white c.byte ≡ true
whole-within p c (inl white) e = white
whole-within p c (inr (at, more)) e = let bad : true ≡ false = rw at at e in cc

-- where a byte begins
abbrev Begins : Bool → Point → Type 0
Begins escaped p = escaped ≡ true → p.vs ≡ 0

-- a backslash
taken-begins : (p : Point) (c : Cell) (x : Bool) → IsWhole p c → nat_eq c.byte 92 ≡ x → Begins x c.after
taken-begins p c x is e k =
    let slash : c.byte ≡ 92 = eqb-true c.byte 92 (e ∙ k) in whole-after p c is (rw slash refl) (rw slash refl)

-- and no backslash
white-slash : (b : ℕ) → is_white b ≡ true → nat_eq b 92 ≡ false
white-slash b e = grind (arith, nat_tests)

-- The text,
pub whole-before : (is : ℕ → Bool) (escaped : Bool) (p : Point) (cells : List Cell) → NoWhite is → Begins escaped p →
    AreWhole p cells →
    before_mark is escaped (whole_cells p cells) ≡ whole_cells p (before_mark is escaped cells)
whole-before is escaped p [] none begins are = refl
whole-before is true p (c ∷ cs) none begins are =
    rw (begins refl) (ap (λ (x : List Cell). c ∷ x) (whole-before is false c.after cs none (λ e. cc) are.1))
whole-before is false p (c ∷ cs) none begins are =
    go (λ x e. whole-before is x c.after cs none (taken-begins p c x are.0 e) are.1) (nat_eq p.vs 0) refl
  where
    More : Type 0
    More = (x : Bool) → nat_eq c.byte 92 ≡ x →
        before_mark is x (whole_cells c.after cs) ≡ whole_cells c.after (before_mark is x cs)

    by : More → (x : Bool) → is c.byte ≡ x → nat_eq p.vs 0 ≡ true →
        before_mark is false (whole_cells p (c ∷ cs)) ≡ whole_cells p (before_mark is false (c ∷ cs))
    by more true m k = rw (k, m) refl
    by more false m k = rw (k, m, k) (ap (λ (x : List Cell). c ∷ x) (more (nat_eq c.byte 92) refl))

    go : More → (x : Bool) → nat_eq p.vs 0 ≡ x →
        before_mark is false (whole_cells p (c ∷ cs)) ≡ whole_cells p (before_mark is false (c ∷ cs))
    go more true k = by more (is c.byte) refl k
    go more false k =
        let white : is_white c.byte ≡ true = whole-within p c are.0 k in
        rw (k, none c.byte white, white-slash c.byte white, k) (more false (white-slash c.byte white))

-- and what follows it
pub whole-from : (is : ℕ → Bool) (escaped : Bool) (p : Point) (cells : List Cell) → NoWhite is → Begins escaped p →
    AreWhole p cells →
    from_mark is escaped (whole_cells p cells) ≡
    whole_cells (point_after (before_mark is escaped cells) p) (from_mark is escaped cells)
whole-from is escaped p [] none begins are = refl
whole-from is true p (c ∷ cs) none begins are =
    rw (begins refl) (whole-from is false c.after cs none (λ e. cc) are.1)
whole-from is false p (c ∷ cs) none begins are =
    go (λ x e. whole-from is x c.after cs none (taken-begins p c x are.0 e) are.1) (nat_eq p.vs 0) refl
  where
    More : Type 0
    More = (x : Bool) → nat_eq c.byte 92 ≡ x →
        from_mark is x (whole_cells c.after cs) ≡
        whole_cells (point_after (before_mark is x cs) c.after) (from_mark is x cs)

    by : More → (x : Bool) → is c.byte ≡ x → nat_eq p.vs 0 ≡ true →
        from_mark is false (whole_cells p (c ∷ cs)) ≡
        whole_cells (point_after (before_mark is false (c ∷ cs)) p) (from_mark is false (c ∷ cs))
    by more true m k = rw (k, m, k) refl
    by more false m k = rw (k, m) (more (nat_eq c.byte 92) refl)

    go : More → (x : Bool) → nat_eq p.vs 0 ≡ x →
        from_mark is false (whole_cells p (c ∷ cs)) ≡
        whole_cells (point_after (before_mark is false (c ∷ cs)) p) (from_mark is false (c ∷ cs))
    go more true k = by more (is c.byte) refl k
    go more false k =
        let white : is_white c.byte ≡ true = whole-within p c are.0 k in
        rw (k, none c.byte white, white-slash c.byte white) (more false (white-slash c.byte white))

-- The cells of both are as a text has them.
pub text-are : (is : ℕ → Bool) (escaped : Bool) (p : Point) (cells : List Cell) → AreWhole p cells →
    AreWhole p (before_mark is escaped cells)
text-are is escaped p [] are = tt
text-are is true p (c ∷ cs) are = (are.0, text-are is false c.after cs are.1)
text-are is false p (c ∷ cs) are = go (text-are is (nat_eq c.byte 92) c.after cs are.1) (is c.byte) refl
  where
    go : AreWhole c.after (before_mark is (nat_eq c.byte 92) cs) → (x : Bool) → is c.byte ≡ x →
        AreWhole p (before_mark is false (c ∷ cs))
    go more true e = rw e tt
    go more false e = rw e (are.0, more)

-- and what follows the text begins with a mark, if it begins
pub record IsMarkFirst (is : ℕ → Bool) (p : Point) (cells : List Cell) : Type 0 where
  pub are : AreWhole p cells
  pub first : (c : Cell) (cs : List Cell) → cells ≡ c ∷ cs → is c.byte ≡ true

-- there a byte begins
pub mark-at : (is : ℕ → Bool) (p : Point) (c : Cell) (cs : List Cell) → NoWhite is → IsMarkFirst is p (c ∷ cs) →
    nat_eq p.vs 0 ≡ true
mark-at is p c cs none first = go (is_white c.byte) refl
  where
    go : (x : Bool) → is_white c.byte ≡ x → nat_eq p.vs 0 ≡ true
    go true w = let no : is c.byte ≡ false = none c.byte w in let yes = first.first c cs refl in cc
    go false w = rw (whole-at p c first.are.0 w) refl

-- it does, and it is as a text has it
pub rest-are : (is : ℕ → Bool) (escaped : Bool) (p : Point) (cells : List Cell) → AreWhole p cells →
    IsMarkFirst is (point_after (before_mark is escaped cells) p) (from_mark is escaped cells)
rest-are is escaped p [] are = record { are = tt; first = λ c cs e. cc }
rest-are is true p (c ∷ cs) are = rest-are is false c.after cs are.1
rest-are is false p (c ∷ cs) are = go (rest-are is (nat_eq c.byte 92) c.after cs are.1) (is c.byte) refl
  where
    marks : is c.byte ≡ true → (d : Cell) (ds : List Cell) → c ∷ cs ≡ d ∷ ds → is d.byte ≡ true
    marks e d ds k = let same : c ≡ d = cc in ap (λ (x : Cell). is x.byte) (sym same) ∙ e

    go : (let x = nat_eq c.byte 92 in
        IsMarkFirst is (point_after (before_mark is x cs) c.after) (from_mark is x cs)) → (x : Bool) → is c.byte ≡ x →
        IsMarkFirst is (point_after (before_mark is false (c ∷ cs)) p) (from_mark is false (c ∷ cs))
    go more true e = rw e (record { are = are; first = marks e })
    go more false e = rw e more

-- What is enclosed on the lines of such cells.

-- the lines of a text, and of what follows the mark that closes it
abbrev pub texts_closed : ℕ → Point → List Cell → List Cell → Option Lines
texts_closed closer p text [] = None
texts_closed closer p text (c ∷ cs) =
    let following = cell_lines false (whole_cells c.after cs) in
    cond (nat_eq c.byte closer) (Some (record { text = cell_lines false (whole_cells p text); rest = following })) None

-- where the text is known
texts-closed : (is : ℕ → Bool) (closer : ℕ) (p q : Point) (text rest : List Cell) → NoWhite is → IsMarkFirst is q rest →
    lines_closed closer false (whole_cells p text) (whole_cells q rest) ≡ texts_closed closer p text rest
unfolding lines_closed
texts-closed is closer p q text [] none first = refl
texts-closed is closer p q text (c ∷ cs) none first =
    let at : nat_eq q.vs 0 ≡ true = mark-at is q c cs none first in rw at refl

-- no mark is whitespace
pub no-white : (opener closer : ℕ) → AreMarks opener closer → NoWhite (is_mark opener closer)
no-white opener closer are b w =
    let other : is_other b ≡ true = grind (arith, nat_tests) in not-mark opener closer b are other

-- it is before the first mark
pub texts-enclosed : (opener closer : ℕ) (p : Point) (cells : List Cell) → AreMarks opener closer → AreWhole p cells →
    let is = is_mark opener closer in
    enclosed_lines opener closer (cell_lines false (whole_cells p cells)) ≡
    texts_closed closer p (before_mark is false cells) (from_mark is false cells)
texts-enclosed opener closer p cells marks are =
    let is = is_mark opener closer in
    let none = no-white opener closer marks in
    all-enclosed opener closer (cell_lines false (whole_cells p cells))
    ∙ cells-enclosed opener closer false false (whole_cells p cells) marks refl
    ∙ ap₂ (λ (x y : List Cell). lines_closed closer false x y) (whole-before is false p cells none (λ e. cc) are)
    (whole-from is false p cells none (λ e. cc) are)
    ∙ texts-closed is closer p (point_after (before_mark is false cells) p) (before_mark is false cells)
    (from_mark is false cells) none (rest-are is false p cells are)
