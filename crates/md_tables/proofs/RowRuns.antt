-- The runs of a row byte by byte, as the walk that puts cells into rows meets them.
use Rattle.std.proofs.Common.{◌≡◌, ℕ, Bool, true, false, cond, nat_eq, List, [], ◌∷◌, ◌++◌, refl, sym, ◌∙◌, ap, drop}
use Rattle.std.specs.Prelude.{not}
use Rattle.std.proofs.lemmas.Bool.{and_parts, eqb-true}
use Rattle.md_engine.specs.declared.event.Event.{Event}
use Rattle.md_engine.specs.declared.event.Name.TheVariants as n
use Rattle.md_engine.specs.declared.event.Point.{Point}
use Rattle.md_meaning.specs.Rest.{is_blank, is_white}
use Rattle.md_events.specs.Events.Nested.{enter, enter_link, exit}
use Rattle.md_events.specs.Events.Places.{past_byte, past_text}
use Rattle.md_tables.specs.Cells.{begins_inner, ends_row, first_is, is_continued as text_continued, row_ends}
use Rattle.md_tables.specs.Row.{text_link}
use Rattle.md_tables.specs.RowCells.{Cells, cell_inside, cells_of, onto, row_runs, text_part, unread_text, white_part}
use Rattle.md_tables.specs.RowRule.{Apart, Escaped, Pipe, Run, Text as TextRun, White, opens}
use Rattle.md_tables.specs.declared.cells.RowKind.TheVariants.{Text}
use Rattle.md_tables.proofs.PipeWalk.{dark-looks, pipe_runs}
use Rattle.md_tables.proofs.RowCellLemmas.{cells-other, cells-white, cells-pipe, cells-none, following_first}
use Rattle.md_tables.proofs.RowCellLemmas.{first-following, first-onto, first_cell, left_of, onto-left, text_left}
use Rattle.md_tables.proofs.RowCellLemmas.{white_left}
use Rattle.md_tables.proofs.WhiteEnds.{blank-first, dark-first}

-- What is left of cells that hold texts: where the first begins, in the whitespace before its text, and in that.

abbrev pub following : Cells → Point → List Event
following cells p = following_first n.GfmTableCell (text_part unread_text) cells p

abbrev pub left_by : (List ℕ → Point → List Event) → Cells → Point → List Event
left_by left cells p = left_of n.GfmTableCell (text_part unread_text) left cells p

abbrev pub cells_left : Cells → Point → List Event
cells_left cells p = left_by (cell_inside unread_text) cells p

abbrev pub left_in_white : Cells → Point → List Event
left_in_white cells p = left_by (white_left (text_part unread_text)) cells p

abbrev pub left_in_text : Cells → Point → List Event
left_in_text cells p = left_by text_left cells p

pub onto-by : (left : List ℕ → Point → List Event) (b : ℕ) (cells : Cells) (p : Point) →
    left_by left (onto b cells) p ≡
    left (b ∷ first_cell cells) p ++ following cells (past_text (first_cell cells) (past_byte b p))
onto-by left b cells p = onto-left n.GfmTableCell (text_part unread_text) left b cells p

-- What a byte does in a run.

pub white-opens : (b : ℕ) (bs : List ℕ) (p : Point) → is_white b ≡ true →
    row_runs Apart (b ∷ bs) p ≡ enter n.SpaceOrTab p ∷ row_runs White bs (past_byte b p)
white-opens b bs p e = rw e refl

pub white-on : (b : ℕ) (bs : List ℕ) (p : Point) → is_white b ≡ true →
    row_runs White (b ∷ bs) p ≡ row_runs White bs (past_byte b p)
white-on b bs p e = rw e refl

-- in a word, whether a backslash is in front
abbrev pub word : Bool → Run
word escaped = cond escaped Escaped TextRun

pub word-white : (escaped : Bool) (b : ℕ) (bs : List ℕ) (p : Point) → is_white b ≡ true →
    row_runs (word escaped) (b ∷ bs) p ≡ exit n.Data p ∷ enter n.SpaceOrTab p ∷ row_runs White bs (past_byte b p)
word-white true b bs p e = rw e refl
word-white false b bs p e = rw e refl

-- the runs that a pipe begins
abbrev pub piped : List ℕ → Point → List Event
piped bs p = pipe_runs (row_runs Apart bs (past_byte 124 p)) p

pub pipe-alone : (bs : List ℕ) (p : Point) → row_runs Pipe bs p ≡ exit n.GfmTableCellDivider p ∷ row_runs Apart bs p
pipe-alone [] p = refl
pipe-alone (b ∷ bs) p = refl

pub pipe-opens : (bs : List ℕ) (p : Point) → row_runs Apart (124 ∷ bs) p ≡ piped bs p
pipe-opens bs p = ap (λ (es : List Event). enter n.GfmTableCellDivider p ∷ es) (pipe-alone bs (past_byte 124 p))

pub pipe-white : (bs : List ℕ) (p : Point) → row_runs White (124 ∷ bs) p ≡ exit n.SpaceOrTab p ∷ piped bs p
pipe-white bs p =
    ap (λ (es : List Event). exit n.SpaceOrTab p ∷ enter n.GfmTableCellDivider p ∷ es) (pipe-alone bs (past_byte 124 p))

pub pipe-text : (bs : List ℕ) (p : Point) → row_runs TextRun (124 ∷ bs) p ≡ exit n.Data p ∷ piped bs p
pipe-text bs p =
    ap (λ (es : List Event). exit n.Data p ∷ enter n.GfmTableCellDivider p ∷ es) (pipe-alone bs (past_byte 124 p))

-- the runs that a word begins
abbrev pub word_runs : ℕ → List ℕ → Point → List Event
word_runs b bs p = enter_link n.Data p text_link ∷ row_runs (word (nat_eq b 92)) bs (past_byte b p)

pub word-first : (x : Bool) (bs : List ℕ) (p q : Point) →
    opens (word x) p ++ row_runs (word x) bs q ≡ enter_link n.Data p text_link ∷ row_runs (word x) bs q
word-first true bs p q = refl
word-first false bs p q = refl

pub word-opens : (b : ℕ) (bs : List ℕ) (p : Point) → is_white b ≡ false → nat_eq b 124 ≡ false →
    row_runs Apart (b ∷ bs) p ≡ word_runs b bs p
word-opens b bs p e k = rw (e, k) (word-first (nat_eq b 92) bs p (past_byte b p))

pub white-word : (b : ℕ) (bs : List ℕ) (p : Point) → is_white b ≡ false → nat_eq b 124 ≡ false →
    row_runs White (b ∷ bs) p ≡ exit n.SpaceOrTab p ∷ word_runs b bs p
white-word b bs p e k =
    rw (e, k)
    (ap (λ (es : List Event). exit n.SpaceOrTab p ∷ es) (word-first (nat_eq b 92) bs p (past_byte b p)))

-- a word continues: after a backslash with any byte but whitespace
pub word-on : (b : ℕ) (bs : List ℕ) (p : Point) → is_white b ≡ false → nat_eq b 124 ≡ false →
    row_runs TextRun (b ∷ bs) p ≡ row_runs (word (nat_eq b 92)) bs (past_byte b p)
word-on b bs p e k = rw (e, k) refl

pub escaped-on : (b : ℕ) (bs : List ℕ) (p : Point) → is_white b ≡ false →
    row_runs Escaped (b ∷ bs) p ≡ row_runs TextRun bs (past_byte b p)
escaped-on b bs p e = rw e refl

-- Where a word comes.

-- the first cell is blank just where no word comes after whitespace
pub blank-white : (b : ℕ) (bs : List ℕ) → is_white b ≡ true →
    is_blank (first_cell (cells_of false (b ∷ bs))) ≡ is_blank (first_cell (cells_of false bs))
blank-white b bs e =
    ap is_blank (ap first_cell (cells-white false b bs e) ∙ first-onto b (cells_of false bs))
    ∙ blank-first b (first_cell (cells_of false bs)) e

pub blank-word : (b : ℕ) (bs : List ℕ) → is_white b ≡ false → nat_eq b 124 ≡ false →
    is_blank (first_cell (cells_of false (b ∷ bs))) ≡ false
blank-word b bs e k =
    ap is_blank (ap first_cell (cells-other b bs k) ∙ first-onto b (cells_of (nat_eq b 92) bs))
    ∙ dark-first b (first_cell (cells_of (nat_eq b 92) bs)) e

pub blank-pipe : (bs : List ℕ) → is_blank (first_cell (cells_of false (124 ∷ bs))) ≡ true
blank-pipe bs = ap is_blank (ap first_cell (cells-pipe bs) ∙ first-following bs (cells_of false bs))

-- Looks ahead.

-- the end of the row
abbrev pub row_end : List ℕ → Point → List Event
row_end bs p = exit n.GfmTableRow (past_text bs p) ∷ []

-- whitespace that continues: where it ends, and what follows it
pub record WhiteRun (bs : List ℕ) (p : Point) : Type 0 where
  pub at : Point
  pub following : List Event
  pub is : row_runs White bs p ++ row_end bs p ≡ exit n.SpaceOrTab at ∷ following
  pub ends : first_is ends_row following ≡ is_blank bs
  pub on : first_is (begins_inner Text) following ≡ not (is_blank (first_cell (cells_of false bs)))

pub white-run : (bs : List ℕ) (p : Point) → WhiteRun bs p
white-run [] p = record {
  at = p;
  following = row_end [] p;
  is = refl;
  ends = refl;
  on = sym (ap (λ (cells : Cells). not (is_blank (first_cell cells))) (cells-none false));
}
white-run (b ∷ bs) p = go (is_white b) refl (nat_eq b 124) refl (white-run bs (past_byte b p))
  where
    go : (x : Bool) → is_white b ≡ x → (y : Bool) → nat_eq b 124 ≡ y → WhiteRun bs (past_byte b p) → WhiteRun (b ∷ bs) p
    go true e y k more = record {
      at = more.at;
      following = more.following;
      is = ap (λ (es : List Event). es ++ row_end (b ∷ bs) p) (white-on b bs p e) ∙ more.is;
      ends = more.ends ∙ sym (blank-first b bs e);
      on = more.on ∙ sym (ap not (blank-white b bs e));
    }
    go false e true k more = record {
      at = p;
      following = piped bs p ++ row_end (124 ∷ bs) p;
      is =
          ap (λ (c : ℕ). row_runs White (c ∷ bs) p ++ row_end (c ∷ bs) p) (eqb-true b 124 k)
          ∙ ap (λ (es : List Event). es ++ row_end (124 ∷ bs) p) (pipe-white bs p);
      ends = sym (dark-first b bs e);
      on =
          sym
          (ap (λ (c : ℕ). not (is_blank (first_cell (cells_of false (c ∷ bs))))) (eqb-true b 124 k)
          ∙ ap not (blank-pipe bs));
    }
    go false e false k more = record {
      at = p;
      following = word_runs b bs p ++ row_end (b ∷ bs) p;
      is = ap (λ (es : List Event). es ++ row_end (b ∷ bs) p) (white-word b bs p e k);
      ends = sym (dark-first b bs e);
      on = sym (ap not (blank-word b bs e k));
    }

-- a pipe is the last where whitespace alone is after it
pub last-pipe : (bs : List ℕ) (p : Point) → row_ends (row_runs Apart bs p ++ row_end bs p) ≡ is_blank bs
last-pipe [] p = refl
last-pipe (b ∷ bs) p = go (is_white b) refl (nat_eq b 124) refl
  where
    go : (x : Bool) → is_white b ≡ x → (y : Bool) → nat_eq b 124 ≡ y →
        row_ends (row_runs Apart (b ∷ bs) p ++ row_end (b ∷ bs) p) ≡ is_blank (b ∷ bs)
    go true e y k =
        let run = white-run bs (past_byte b p) in
        ap (λ (es : List Event). row_ends (es ++ row_end (b ∷ bs) p)) (white-opens b bs p e)
        ∙ ap (λ (es : List Event). row_ends (enter n.SpaceOrTab p ∷ es)) run.is
        ∙ run.ends ∙ sym (blank-first b bs e)
    go false e true k =
        ap (λ (c : ℕ). row_ends (row_runs Apart (c ∷ bs) p ++ row_end (c ∷ bs) p)) (eqb-true b 124 k)
        ∙ ap (λ (es : List Event). row_ends (es ++ row_end (124 ∷ bs) p)) (pipe-opens bs p)
        ∙ sym (dark-first b bs e)
    go false e false k =
        let es = row_runs (word (nat_eq b 92)) bs (past_byte b p) ++ row_end (b ∷ bs) p in
        let first = enter_link n.Data p text_link in
        ap (λ (es : List Event). row_ends (es ++ row_end (b ∷ bs) p)) (word-opens b bs p e k)
        ∙ ap (λ (t : Bool). first_is ends_row (cond t (drop 2 (first ∷ es)) (first ∷ es))) (dark-looks first es refl)
        ∙ sym (dark-first b bs e)

-- a text continues after whitespace where a further word is there
pub text-is_continued : (bs : List ℕ) (p q : Point) →
    text_continued Text (enter n.SpaceOrTab q ∷ row_runs White bs p ++ row_end bs p) ≡
    not (is_blank (first_cell (cells_of false bs)))
text-is_continued bs p q =
    let run = white-run bs p in
    ap (λ (es : List Event). text_continued Text (enter n.SpaceOrTab q ∷ es)) run.is ∙ run.on

-- Whitespace alone is one run.

pub white-alone : (bs : List ℕ) (p : Point) → is_blank bs ≡ true →
    row_runs White bs p ≡ exit n.SpaceOrTab (past_text bs p) ∷ []
white-alone [] p h = refl
white-alone (b ∷ bs) p h =
    let both = and_parts (is_white b) (is_blank bs) h in
    white-on b bs p both.0 ∙ white-alone bs (past_byte b p) both.1

pub blank-runs : (bs : List ℕ) (p : Point) → is_blank bs ≡ true → row_runs Apart bs p ≡ white_part bs p
blank-runs [] p h = refl
blank-runs (b ∷ bs) p h =
    let both = and_parts (is_white b) (is_blank bs) h in
    white-opens b bs p both.0
    ∙ ap (λ (es : List Event). enter n.SpaceOrTab p ∷ es) (white-alone bs (past_byte b p) both.1)
