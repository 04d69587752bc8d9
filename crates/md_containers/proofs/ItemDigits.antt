-- The digits of a list item, by the cells of a line and by its bytes.
use Rattle.std.proofs.Common.{◌≡◌, ℕ, zero, suc, ◌+◌, ◌<◌, ◌≤◌, Bool, true, false, cond, ◌&&◌, List, [], ◌∷◌, ◌++◌}
use Rattle.std.proofs.Common.{length, drop, refl, sym, ap, ◌∙◌, subst, arith, add-zero}
use Rattle.std.specs.Prelude.{◌==◌}
use Rattle.std.specs.List.{list_all, take_while}
use Rattle.std.proofs.lemmas.Bool.{or_parts, eqb-true}
use Rattle.std.proofs.lemmas.Bool.Decides.{nat_tests}
use Rattle.std.proofs.lemmas.List.Sums.{take_while-cons}
use Rattle.md_engine.specs.declared.event.Point.{Point}
use Rattle.md_engine.specs.declared.tokenizer.Line.{Line}
use Rattle.md_engine.specs.Meaning.{Cell}
use Rattle.md_containers.specs.ItemPrefix.{digits_of}
use Rattle.md_containers.specs.ItemRule.{digits_end, digits_rest, digits_size}
use Rattle.md_meaning.specs.Containers.{is_digit}
use Rattle.md_meaning.specs.Rest.{Rest, is_white}
use Rattle.md_events.specs.Events.Places.{past_byte, past_text}
use Rattle.md_events.proofs.FeedLines.{Stops, byte-one, cell, columns_more, past-next, spread, tab_cells}
use Rattle.md_events.proofs.RestCells.{RestAt}

abbrev rest : ℕ → List ℕ → Rest
rest column bytes = record { column = column; spaces = 0; bytes = bytes }

-- whether the first cell has such a byte
abbrev pub starts : (ℕ → Bool) → List Cell → Bool
starts is [] = false
starts is (c ∷ cs) = is c.byte

-- it has the first byte of the line
pub starts-spread : (is : ℕ → Bool) (line : Line) (b : ℕ) (bs : List ℕ) (p : Point) (stop : List Cell) →
    starts is (spread line (b ∷ bs) p ++ stop) ≡ is b
starts-spread is line b bs p stop = go (b == 9) refl
  where
    tab : (n : ℕ) → starts is ((tab_cells line n 9 p ++ spread line bs (past_byte b p)) ++ stop) ≡ is 9
    tab zero = refl
    tab (suc n) = refl

    go : (t : Bool) → (b == 9) ≡ t →
        starts is
        ((cond t (tab_cells line (columns_more p) 9 p) (cell b (past_byte b p) line ∷ [])
        ++ spread line bs (past_byte b p)) ++ stop) ≡
        is b
    go true e = tab (columns_more p) ∙ ap is (sym (eqb-true b 9 e))
    go false e = refl

-- nor is what follows the line a digit or a marker
pub starts-stop : (is : ℕ → Bool) (stop : List Cell) → is 10 ≡ false → Stops stop → starts is stop ≡ false
starts-stop is [] e k = refl
starts-stop is (c ∷ cs) e k = ap is (eqb-true c.byte 10 k) ∙ e

-- what is no whitespace is one cell
pub spread-one : (line : Line) (b : ℕ) (bs : List ℕ) (p : Point) (stop : List Cell) → is_white b ≡ false →
    spread line (b ∷ bs) p ++ stop ≡ cell b (past_byte b p) line ∷ (spread line bs (past_byte b p) ++ stop)
spread-one line b bs p stop dark =
    ap (λ (l : List Cell). (l ++ spread line bs (past_byte b p)) ++ stop) (byte-one line b p dark)

-- after it the rest of the line is a column further
pub byte-following : (text past : List ℕ) (column b : ℕ) (bs : List ℕ) (p : Point) → is_white b ≡ false →
    RestAt text past (rest column (b ∷ bs)) p → RestAt text past (rest (column + 1) bs) (past_byte b p)
byte-following text past column b bs p dark is =
    let tab : (b == 9) ≡ false = (or_parts (b == 32) (b == 9) dark).1 in
    record {
      column = rw tab (omega (arith, is.column));
      cut = refl;
      text_is = past-next p.index text b (bs ++ past) is.text_is;
    }

-- the digits are taken, if they are not too many
pub record TakesDigits (line : Line) (room : ℕ) (bytes : List ℕ) (p : Point) (stop : List Cell)
    (digits : List ℕ) : Type 0 where
  pub are : digits_of room (spread line bytes p ++ stop) ≡ digits
  pub size : digits_size room (spread line bytes p ++ stop) ≡ length digits
  pub end : digits_end room (spread line bytes p ++ stop) p ≡ past_text digits p
  pub left : digits_rest room (spread line bytes p ++ stop) ≡
      spread line (drop (length digits) bytes) (past_text digits p) ++ stop

pub record HasDigits (line : Line) (text past : List ℕ) (room column : ℕ) (bytes : List ℕ) (p : Point)
    (stop : List Cell) (digits : List ℕ) : Type 0 where
  pub bytes_are : bytes ≡ digits ++ drop (length digits) bytes
  pub all : list_all is_digit digits ≡ true
  pub valid : RestAt text past (rest (column + length digits) (drop (length digits) bytes)) (past_text digits p)
  pub within : length digits ≤ room → TakesDigits line room bytes p stop digits
  -- where there are more, one is left
  pub over : room < length digits → starts is_digit (digits_rest room (spread line bytes p ++ stop)) ≡ true

-- where no digit comes first, none is taken
none-of : (room : ℕ) (cells : List Cell) → starts is_digit cells ≡ false → digits_of room cells ≡ []
none-of room [] e = refl
none-of zero (c ∷ cs) e = refl
none-of (suc room) (c ∷ cs) e = ap (λ (x : Bool). cond x (c.byte ∷ digits_of room cs) []) e

none-size : (room : ℕ) (cells : List Cell) → starts is_digit cells ≡ false → digits_size room cells ≡ 0
none-size room [] e = refl
none-size zero (c ∷ cs) e = refl
none-size (suc room) (c ∷ cs) e = ap (λ (x : Bool). cond x (suc (digits_size room cs)) 0) e

none-end : (room : ℕ) (cells : List Cell) (p : Point) → starts is_digit cells ≡ false → digits_end room cells p ≡ p
none-end room [] p e = refl
none-end zero (c ∷ cs) p e = refl
none-end (suc room) (c ∷ cs) p e = ap (λ (x : Bool). cond x (digits_end room cs c.after) p) e

none-rest : (room : ℕ) (cells : List Cell) → starts is_digit cells ≡ false → digits_rest room cells ≡ cells
none-rest room [] e = refl
none-rest zero (c ∷ cs) e = refl
none-rest (suc room) (c ∷ cs) e = ap (λ (x : Bool). cond x (digits_rest room cs) (c ∷ cs)) e

no-digits : (line : Line) (text past : List ℕ) (room column : ℕ) (bytes : List ℕ) (p : Point) (stop : List Cell) →
    RestAt text past (rest column bytes) p → starts is_digit (spread line bytes p ++ stop) ≡ false →
    HasDigits line text past room column bytes p stop []
no-digits line text past room column bytes p stop is e = record {
  bytes_are = refl;
  all = refl;
  valid = subst (λ (k : ℕ). RestAt text past (rest k bytes) p) (sym (add-zero column)) is;
  within = λ le. record {
    are = none-of room _ e;
    size = none-size room _ e;
    end = none-end room _ p e;
    left = none-rest room _ e;
  };
  over = λ lt. absurd (omega (arith, lt));
}

digit-dark : (b : ℕ) → is_digit b ≡ true → is_white b ≡ false
digit-dark b e = grind (arith, nat_tests)

-- a digit more
more-digits : (line : Line) (text past : List ℕ) (room column b : ℕ) (bs : List ℕ) (p : Point) (stop : List Cell)
    (digits : List ℕ) →
    is_digit b ≡ true → HasDigits line text past room (column + 1) bs (past_byte b p) stop digits →
    HasDigits line text past (suc room) column (b ∷ bs) p stop (b ∷ digits)
more-digits line text past room column b bs p stop digits e has = record {
  bytes_are = ap (λ (l : List ℕ). b ∷ l) has.bytes_are;
  all = ap (λ (x : Bool). x && list_all is_digit digits) e ∙ has.all;
  valid =
      subst
      (λ (k : ℕ).
      RestAt text past (rest k (drop (length digits) bs)) (past_text digits (past_byte b p)))
      (omega arith) has.valid;
  within = λ le.
      let takes = has.within (omega (arith, le)) in
      record {
        are = ap (digits_of (suc room)) first
            ∙ ap (λ (x : Bool). cond x (b ∷ digits_of room left) []) e ∙ ap (λ (l : List ℕ). b ∷ l) takes.are;
        size = ap (digits_size (suc room)) first
            ∙ ap (λ (x : Bool). cond x (suc (digits_size room left)) 0) e ∙ ap (λ (k : ℕ). suc k) takes.size;
        end = ap (λ (l : List Cell). digits_end (suc room) l p) first
            ∙ ap (λ (x : Bool). cond x (digits_end room left (past_byte b p)) p) e ∙ takes.end;
        left = rest-is ∙ takes.left;
      };
  over = λ lt. ap (starts is_digit) rest-is ∙ has.over (omega (arith, lt));
}
  where
    left : List Cell
    left = spread line bs (past_byte b p) ++ stop

    first : spread line (b ∷ bs) p ++ stop ≡ cell b (past_byte b p) line ∷ left
    first = spread-one line b bs p stop (digit-dark b e)

    rest-is : digits_rest (suc room) (spread line (b ∷ bs) p ++ stop) ≡ digits_rest room left
    rest-is =
        ap (digits_rest (suc room)) first
        ∙ ap (λ (x : Bool). cond x (digits_rest room left) (cell b (past_byte b p) line ∷ left)) e

-- where none may be taken, one is left
full-digits : (line : Line) (text past : List ℕ) (room column b : ℕ) (bs : List ℕ) (p : Point) (stop : List Cell)
    (digits : List ℕ) →
    is_digit b ≡ true → HasDigits line text past room (column + 1) bs (past_byte b p) stop digits →
    HasDigits line text past 0 column (b ∷ bs) p stop (b ∷ digits)
full-digits line text past room column b bs p stop digits e has =
    let more = more-digits line text past room column b bs p stop digits e has in
    record {
      bytes_are = more.bytes_are;
      all = more.all;
      valid = more.valid;
      within = λ le. absurd (omega (arith, le));
      over = λ lt. zero-starts (spread line (b ∷ bs) p ++ stop) ∙ starts-spread is_digit line b bs p stop ∙ e;
    }
  where
    zero-starts : (cells : List Cell) → starts is_digit (digits_rest 0 cells) ≡ starts is_digit cells
    zero-starts [] = refl
    zero-starts (c ∷ cs) = refl

pub digits-walk : (line : Line) (text past : List ℕ) (room column : ℕ) (bytes : List ℕ) (p : Point)
    (stop : List Cell) →
    RestAt text past (rest column bytes) p → Stops stop →
    HasDigits line text past room column bytes p stop (take_while is_digit bytes)
digits-walk line text past room column [] p stop is k =
    no-digits line text past room column [] p stop is (starts-stop is_digit stop refl k)
digits-walk line text past room column (b ∷ bs) p stop is k =
    subst (HasDigits line text past room column (b ∷ bs) p stop) (sym (take_while-cons is_digit b bs))
    (go room (is_digit b) refl
    (λ room valid. digits-walk line text past room (column + 1) bs (past_byte b p) stop valid k))
  where
    go : (room : ℕ) (x : Bool) → is_digit b ≡ x →
        ((room : ℕ) → RestAt text past (rest (column + 1) bs) (past_byte b p) →
        HasDigits line text past room (column + 1) bs (past_byte b p) stop (take_while is_digit bs)) →
        HasDigits line text past room column (b ∷ bs) p stop (cond x (b ∷ take_while is_digit bs) [])
    go room false e next =
        no-digits line text past room column (b ∷ bs) p stop is (starts-spread is_digit line b bs p stop ∙ e)
    go zero true e next =
        full-digits line text past 0 column b bs p stop (take_while is_digit bs) e
        (next 0 (byte-following text past column b bs p (digit-dark b e) is))
    go (suc room) true e next =
        more-digits line text past room column b bs p stop (take_while is_digit bs) e
        (next room (byte-following text past column b bs p (digit-dark b e) is))
