-- The cells of lines of a text from a point on, one after another, and the bytes that they are.
use Rattle.std.proofs.Common.{◌≡◌, ℕ, zero, suc, ◌+◌, ◌-◌, ◌%◌, ◌<◌, ◌≤◌, ◌⊎◌, Bool, true, false, cond}
use Rattle.std.proofs.Common.{◌&&◌, nat_eq, List, [], ◌∷◌, ◌++◌, length, refl, sym, ap, ◌∙◌, subst, arith}
use Rattle.std.specs.Prelude.{not, nat_lt, slice_index}
use Rattle.std.specs.List.{list_all}
use Rattle.std.proofs.lemmas.Bool.{eqb-true, true≢false}
use Rattle.std.proofs.lemmas.Bool.Decides.{nat_tests}
use Rattle.std.proofs.lemmas.List.Folds.{list_all-append}
use Rattle.md_engine.specs.declared.event.Point.{Point}
use Rattle.md_engine.specs.declared.tokenizer.Line.{Line}
use Rattle.md_engine.specs.Meaning.{Cell}
use Rattle.md_engine.specs.Place.{is_ending, next_point, seen_at}
use Rattle.md_meaning.specs.Rest.{cut_tab, is_blank, is_white}
use Rattle.md_events.specs.Events.Places.{past_byte}
use Rattle.md_events.proofs.FeedLines.{NoFeed, all-spread, after_last, bytes-append, bytes_of, cell, columns_more}
use Rattle.md_events.proofs.FeedLines.{next_column, spread, tab_cells, tab_end}
use Rattle.md_events.proofs.RestCells.{cells_by}
use Rattle.proof_frame.specs.Laid.{LineBreak}
use Rattle.proof_content_laws.proofs.Defined.Form.{IsBreak}

-- Where cells are.

-- what the parent says of lines that are read as one part
abbrev pub no_line : Line
no_line = record { start = 0; lazy = false }

-- between two lines: where the first ends, what is between them, where the second begins, and the cells from there on
pub record Turn : Type 0 where
  pub end : Point
  pub break : LineBreak
  pub first : Point
  pub cells : List Cell

abbrev pub breaks : List Turn → List LineBreak
breaks [] = []
breaks (turn ∷ turns) = turn.break ∷ breaks turns

-- a point of a text: within a byte only if that is a tab
pub record Valid (bytes : List ℕ) (p : Point) : Type 0 where
  pub column : 1 ≤ p.column
  pub within : p.index ≤ length bytes
  pub tab : 0 < p.vs → slice_index bytes p.index ≡ 9

-- a cell of a line is what is seen at its point
pub record IsStep (bytes : List ℕ) (p : Point) (c : Cell) : Type 0 where
  pub plain : is_ending (slice_index bytes p.index) ≡ false
  pub byte : c.byte ≡ seen_at bytes p
  pub after : c.after ≡ next_point bytes p
  pub said : c.line ≡ no_line
  pub within : p.index < length bytes

-- no blank line ends here
abbrev pub IsContinued : List Cell → Type 0
IsContinued cells =
    (line : List Cell) (d : Cell) (ds : List Cell) → cells ≡ line ++ d ∷ ds → nat_eq d.byte 10 ≡ true →
    list_all is_white (bytes_of line) ≡ false

-- and one between two lines is their ending; the further line is not blank
pub record IsTurn (bytes : List ℕ) (p : Point) (c : Cell) (cs : List Cell) (turns left : List Turn) : Type 0 where
  pub turn : Turn
  pub turns_are : turns ≡ turn ∷ left
  pub at : p ≡ turn.end
  pub byte : c.byte ≡ 10
  pub after : c.after ≡ turn.first
  pub said : c.line ≡ no_line
  pub cells : cs ≡ turn.cells
  pub break : IsBreak bytes p turn.break.after turn.first turn.break.front
  pub valid : Valid bytes turn.first
  pub filled : IsContinued cs

abbrev pub IsCell : List ℕ → Point → Cell → List Cell → List Turn → List Turn → Type 0
IsCell bytes p c cs turns left = (IsStep bytes p c × (turns ≡ left)) ⊎ IsTurn bytes p c cs turns left

-- these cells are from a point on, over these turns, up to a last point
abbrev pub Walks : List ℕ → Point → Point → List Cell → List Turn → Type 0
Walks bytes last p [] turns = (p ≡ last) × (turns ≡ [])
Walks bytes last p (c ∷ cs) turns =
    (left : List Turn) × IsCell bytes p c cs turns left × Walks bytes last c.after cs left

-- Cells of a line.

abbrev pub Steps : List ℕ → Point → List Cell → Type 0
Steps bytes p [] = Unit {0}
Steps bytes p (c ∷ cs) = IsStep bytes p c × Steps bytes c.after cs

-- each is of a byte that is no tab, or a column of a tab that has more, or the last one
pub record IsPlain (bytes : List ℕ) (p : Point) (c : Cell) : Type 0 where
  pub byte : ℕ
  pub at : slice_index bytes p.index ≡ byte
  pub other : nat_eq byte 9 ≡ false
  pub whole : p.vs ≡ 0
  pub cell_is : c ≡ cell byte (past_byte byte p) no_line

abbrev pub column_byte : Point → ℕ
column_byte p = cond (nat_lt 0 p.vs) 32 9

pub record IsColumn (bytes : List ℕ) (p : Point) (c : Cell) : Type 0 where
  pub tab : slice_index bytes p.index ≡ 9
  pub more : columns_more p ≡ suc (columns_more (next_column p))
  pub cell_is : c ≡ cell (column_byte p) (next_column p) no_line

pub record IsLast (bytes : List ℕ) (p : Point) (c : Cell) : Type 0 where
  pub tab : slice_index bytes p.index ≡ 9
  pub more : columns_more p ≡ 0
  pub cell_is : c ≡ cell (column_byte p) (after_last p) no_line

pub data Kind (bytes : List ℕ) (p : Point) (c : Cell) : Type 0 where
  OfByte : IsPlain bytes p c → Kind bytes p c
  OfColumn : IsColumn bytes p c → Kind bytes p c
  OfLast : IsLast bytes p c → Kind bytes p c

-- a cell, by its fields
cell-as : (c : Cell) (byte : ℕ) (after : Point) → c.byte ≡ byte → c.after ≡ after → c.line ≡ no_line →
    c ≡ cell byte after no_line
cell-as c byte after e k l = rw (← e, ← k, ← l) refl

pub kind : (bytes : List ℕ) (p : Point) (c : Cell) → Valid bytes p → IsStep bytes p c → Kind bytes p c
kind bytes p c valid is = go (nat_eq (slice_index bytes p.index) 9) refl
  where
    b : ℕ
    b = slice_index bytes p.index

    tab : b ≡ 9 → (x : Bool) → not (nat_eq (p.column % 4) 0) ≡ x → Kind bytes p c
    tab at true e =
        let more : columns_more p ≡ suc (columns_more (next_column p)) = grind (arith, nat_tests) in
        let byte : seen_at bytes p ≡ column_byte p = rw at refl in
        let after : next_point bytes p ≡ next_column p = rw (at, e) refl in
        OfColumn
        (record {
          tab = at;
          more = more;
          cell_is = cell-as c (column_byte p) (next_column p) (is.byte ∙ byte) (is.after ∙ after) is.said;
        })
    tab at false e =
        let more : columns_more p ≡ 0 = grind (arith, nat_tests) in
        let byte : seen_at bytes p ≡ column_byte p = rw at refl in
        let after : next_point bytes p ≡ after_last p = rw (at, e) refl in
        OfLast
        (record {
          tab = at;
          more = more;
          cell_is = cell-as c (column_byte p) (after_last p) (is.byte ∙ byte) (is.after ∙ after) is.said;
        })

    whole : nat_eq b 9 ≡ false → (vs : ℕ) → p.vs ≡ vs → p.vs ≡ 0
    whole e zero k = k
    whole e (suc n) k =
        let tab : b ≡ 9 = valid.tab (omega (arith, k)) in let no : true ≡ false = rw tab at e in cc

    go : (x : Bool) → nat_eq b 9 ≡ x → Kind bytes p c
    go true e = tab (eqb-true b 9 e) (not (nat_eq (p.column % 4) 0)) refl
    go false e =
        let column : p.column + 1 ≡ p.column - 1 + 1 + 1 = let one = valid.column in omega arith in
        let byte : seen_at bytes p ≡ b = rw (is.plain, e) refl in
        let after : next_point bytes p ≡
        past_byte b p = rw (is.plain, e)
        (ap (λ (x : ℕ). let q : Point = record { line = p.line; column = x; index = p.index + 1; vs = 0 } in q)
        column) in
        OfByte
        (record {
          byte = b;
          at = refl;
          other = e;
          whole = whole e p.vs refl;
          cell_is = cell-as c b (past_byte b p) (is.byte ∙ byte) (is.after ∙ after) is.said;
        })

-- Whitespace.

-- what is left of a cut tab is spaces
tab-white : (n : ℕ) (p : Point) → list_all is_white (bytes_of (tab_cells no_line n 32 p)) ≡ true
tab-white zero p = refl
tab-white (suc n) p = tab-white n (next_column p)

-- the cells of some bytes are whitespace if these are
pub cells-white : (spaces : ℕ) (text : List ℕ) (p : Point) →
    list_all is_white (bytes_of (cells_by no_line spaces text p)) ≡ is_blank (cut_tab spaces ++ text)
cells-white zero text p = all-spread is_white refl no_line text p
cells-white (suc n) text p =
    ap (list_all is_white) (bytes-append (tab_cells no_line n 32 p) (spread no_line text (tab_end n p)))
    ∙ list_all-append is_white (bytes_of (tab_cells no_line n 32 p)) (bytes_of (spread no_line text (tab_end n p)))
    ∙ ap (λ (b : Bool). b && list_all is_white (bytes_of (spread no_line text (tab_end n p)))) (tab-white n p)
    ∙ all-spread is_white refl no_line text (tab_end n p)

-- cells of a line that is not blank, and others after them
pub proceeds-on : (line more : List Cell) → NoFeed line → list_all is_white (bytes_of line) ≡ false →
    IsContinued (line ++ more)
proceeds-on [] more none dark other d ds e ten = cc
proceeds-on (x ∷ xs) more none dark [] d ds e ten = absurd (true≢false (sym ten ∙ here ∙ none.0))
  where
    here : nat_eq d.byte 10 ≡ nat_eq x.byte 10
    here = cc
proceeds-on (x ∷ xs) more none dark (y ∷ ys) d ds e ten =
    subst (λ (c : Cell). (is_white c.byte && list_all is_white (bytes_of ys)) ≡ false) same
    (go (is_white x.byte) dark (λ h. proceeds-on xs more none.1 h ys d ds rest ten))
  where
    same : x ≡ y
    same = cc

    rest : xs ++ more ≡ ys ++ d ∷ ds
    rest = cc

    go : (b : Bool) → (b && list_all is_white (bytes_of xs)) ≡ false →
        (list_all is_white (bytes_of xs) ≡ false → list_all is_white (bytes_of ys) ≡ false) →
        (b && list_all is_white (bytes_of ys)) ≡ false
    go false h below = refl
    go true h below = below h
