-- A row of a table keeps the grammar: its cells one after the other, with whitespace around them.
use Rattle.std.proofs.Common.{◌≡◌, ℕ, Bool, true, false, not, List, [], ◌∷◌, ◌++◌, refl, sym, ap, ◌∙◌, subst}
use Rattle.std.proofs.Common.{append_assoc, append-nil}
use Rattle.std.proofs.lemmas.Bool.{and_parts}
use Rattle.md_engine.specs.declared.event.Event.{Event}
use Rattle.md_engine.specs.declared.event.Name.{Name}
use Rattle.md_engine.specs.declared.event.Name.TheVariants as n
use Rattle.md_engine.specs.declared.event.Point.{Point}
use Rattle.md_meaning.specs.Bytes.{begins, is_end}
use Rattle.md_meaning.specs.Lines.{begins_with}
use Rattle.md_meaning.specs.Rest.{is_blank, is_white, trim, trim_start}
use Rattle.md_leaves.proofs.TitleTexts.{front-stops}
use Rattle.md_events.specs.declared.inline.Chunk.{Chunk}
use Rattle.md_events.specs.Events.Grammar.{Expression, Many, One, Then, following, inside, may_end, one, plain_text}
use Rattle.md_events.specs.Events.Grammar.{some, unread_text, white}
use Rattle.md_events.specs.Events.Inline.{plain_chunk}
use Rattle.md_events.specs.Events.Nested.{around}
use Rattle.md_events.specs.Events.Places.{past_byte, past_text}
use Rattle.md_events.proofs.GrammarLemmas.{IsWord, Leads, leads-append, leads-around, leads-pair, maybe, word-following}
use Rattle.md_tables.specs.RowCells as row
use Rattle.md_tables.specs.RowCells.{Cells, Divides, Ends, Shut, cell_by, cells_by, first_pipe, line_cells, past_pipe}
use Rattle.md_tables.specs.RowCells.{pipe_part, read_text, row_by, text_part, white_back, white_front, white_part}
use Rattle.md_tables.proofs.WhiteEnds.{back-blank, end-whole}
use Rattle.proof_frame.proofs.ChunkFacts.{chunk-word}
use Rattle.proof_leaf_laws.proofs.GfmTable.RowCells.{EachFits}

-- Parts that may be left out.

abbrev pub has : List ℕ → Bool
has bytes = not (is_end bytes)

pub white-leads : (text x : Expression) (w : List ℕ) (p : Point) →
    Leads text (x ∷ []) (maybe (has w) n.SpaceOrTab x ∷ []) (white_part w p)
white-leads text x [] p = λ outer. refl
white-leads text x (b ∷ w) p = leads-pair text x n.SpaceOrTab p (past_text (b ∷ w) p) refl

pub pipe-leads : (text x : Expression) (piped : Bool) (p : Point) →
    Leads text (x ∷ []) (maybe piped n.GfmTableCellDivider x ∷ []) (first_pipe piped p)
pipe-leads text x true p = leads-pair text x n.GfmTableCellDivider p (past_byte 124 p) refl
pipe-leads text x false p = λ outer. refl

-- Cells.

-- what is left of a row before its cells, and after one
abbrev pub row_left : Name → Expression
row_left name = Then white (Then (some (one name)) white)

abbrev pub cells_left : Name → Expression
cells_left name = Then (Many (One (name ∷ []))) white

-- what is asked of their name, all of which `refl` proves
pub record IsCellName (name : Name) : Type 0 where
  pub first : (spaced : Bool) → following name (maybe spaced n.SpaceOrTab (row_left name)) ≡ cells_left name
  pub more : following name (cells_left name) ≡ cells_left name
  pub ends : (spaced : Bool) → may_end (maybe spaced n.SpaceOrTab (cells_left name)) ≡ true

-- a cell whose bytes are so leads to what may end, with a pipe after it or not
pub record CellWord (text : Expression) (name : Name) (es : List Event) : Type 0 where
  pub left : Expression
  pub leads : Leads text (inside text name ∷ []) (left ∷ []) es
  pub ends : (shut : Bool) → may_end (maybe shut n.GfmTableCellDivider left) ≡ true

abbrev pub CellWords : Expression → Name → (List ℕ → Point → List Event) → (List ℕ → Type 0) → Type 0
CellWords text name part Fits =
    (piped : Bool) (cell : List ℕ) (p : Point) → Fits (trim cell) →
    CellWord text name (first_pipe piped p ++ cell_by part cell (past_pipe piped p))

-- so the cells do
cells-word : (text x : Expression) (name : Name) (part : List ℕ → Point → List Event) (Fits : List ℕ → Type 0) →
    IsCellName name → CellWords text name part Fits → (piped : Bool) (cells : Cells) (p : Point) →
    EachFits Fits cells → following name x ≡ cells_left name → IsWord text (x ∷ []) (cells_by name part piped cells p)
cells-word text x name part Fits is words piped (Ends cell) p fits same = record {
  left = following name x;
  leads =
      leads-around text x name p (past_text cell (past_pipe piped p))
      (first_pipe piped p ++ cell_by part cell (past_pipe piped p))
      (record { left = word.left; leads = word.leads; ends = word.ends false });
  ends = ap may_end same ∙ is.ends false;
}
  where
    word : CellWord text name (first_pipe piped p ++ cell_by part cell (past_pipe piped p))
    word = words piped cell p fits
cells-word text x name part Fits is words piped (Shut cell w) p fits same = record {
  left = maybe (has w) n.SpaceOrTab (following name x);
  leads =
      leads-append text (x ∷ []) (following name x ∷ []) (maybe (has w) n.SpaceOrTab (following name x) ∷ [])
      (around name p over held) (white_part w over)
      (leads-around text x name p over held
      (record {
        left = maybe true n.GfmTableCellDivider word.left;
        leads =
            subst
            (λ (es : List Event). Leads text (inside text name ∷ [])
            (maybe true n.GfmTableCellDivider word.left ∷ []) es)
            (append_assoc (first_pipe piped p) (cell_by part cell (past_pipe piped p)) (pipe_part mid))
            (leads-append text (inside text name ∷ []) (word.left ∷ [])
            (maybe true n.GfmTableCellDivider word.left ∷ [])
            (first_pipe piped p ++ cell_by part cell (past_pipe piped p)) (pipe_part mid) word.leads
            (pipe-leads text word.left true mid));
        ends = word.ends true;
      })) (white-leads text (following name x) w over);
  ends = ap (λ (y : Expression). may_end (maybe (has w) n.SpaceOrTab y)) same ∙ is.ends (has w);
}
  where
    mid : Point
    mid = past_text cell (past_pipe piped p)

    over : Point
    over = past_byte 124 (past_text cell (past_pipe piped p))

    held : List Event
    held = first_pipe piped p ++ (cell_by part cell (past_pipe piped p) ++ pipe_part mid)

    word : CellWord text name (first_pipe piped p ++ cell_by part cell (past_pipe piped p))
    word = words piped cell p fits
cells-word text x name part Fits is words piped (Divides cell cells) p fits same =
    word-following text (x ∷ []) (following name x ∷ [])
    (around name p mid (first_pipe piped p ++ cell_by part cell (past_pipe piped p)))
    (cells_by name part true cells mid)
    (leads-around text x name p mid (first_pipe piped p ++ cell_by part cell (past_pipe piped p))
    (record { left = word.left; leads = word.leads; ends = word.ends false }))
    (cells-word text (following name x) name part Fits is words true cells mid fits.1
    (ap (following name) same ∙ is.more))
  where
    mid : Point
    mid = past_text cell (past_pipe piped p)

    word : CellWord text name (first_pipe piped p ++ cell_by part cell (past_pipe piped p))
    word = words piped cell p fits.0

-- and a row does.
pub row-word : (text : Expression) (name : Name) (part : List ℕ → Point → List Event) (Fits : List ℕ → Type 0) →
    IsCellName name → CellWords text name part Fits → (line : List ℕ) (p : Point) →
    EachFits Fits (line_cells (trim_start line)) → IsWord text (row_left name ∷ []) (row_by name part line p)
row-word text name part Fits is words line p fits =
    let w = white_front line in
    let q = past_text (white_front line) p in
    let left = maybe (has (white_front line)) n.SpaceOrTab (row_left name) in
    let piped = begins_with 124 (trim_start line) in
    let cells = line_cells (trim_start line) in
    word-following text (row_left name ∷ []) (left ∷ []) (white_part w p) (cells_by name part piped cells q)
    (white-leads text (row_left name) w p)
    (cells-word text left name part Fits is words piped cells q fits (is.first (has w)))

-- A cell with a text, or with none.

-- what is left of it after each of its parts
abbrev cell_start : Expression
cell_start = inside plain_text n.GfmTableCell

abbrev text_left : Bool → Bool → Bool → Bool → Expression
text_left piped front text back =
    maybe back n.SpaceOrTab
    (maybe text n.GfmTableCellText (maybe front n.SpaceOrTab (maybe piped n.GfmTableCellDivider cell_start)))

-- with no text there is no whitespace after it
text-ends : (piped front text back shut : Bool) → (text ≡ false → back ≡ false) →
    may_end (maybe shut n.GfmTableCellDivider (text_left piped front text back)) ≡ true
text-ends piped front text back shut h = go text back h
  where
    after_text : (piped front back shut : Bool) →
        may_end (maybe shut n.GfmTableCellDivider (text_left piped front true back)) ≡ true
    after_text true true true true = refl
    after_text true true true false = refl
    after_text true true false true = refl
    after_text true true false false = refl
    after_text true false true true = refl
    after_text true false true false = refl
    after_text true false false true = refl
    after_text true false false false = refl
    after_text false true true true = refl
    after_text false true true false = refl
    after_text false true false true = refl
    after_text false true false false = refl
    after_text false false true true = refl
    after_text false false true false = refl
    after_text false false false true = refl
    after_text false false false false = refl

    alone : (piped front shut : Bool) →
        may_end (maybe shut n.GfmTableCellDivider (text_left piped front false false)) ≡ true
    alone true true true = refl
    alone true true false = refl
    alone true false true = refl
    alone true false false = refl
    alone false true true = refl
    alone false true false = refl
    alone false false true = refl
    alone false false false = refl

    go : (text back : Bool) → (text ≡ false → back ≡ false) →
        may_end (maybe shut n.GfmTableCellDivider (text_left piped front text back)) ≡ true
    go true back h = after_text piped front back shut
    go false back h =
        subst (λ (x : Bool). may_end (maybe shut n.GfmTableCellDivider (text_left piped front false x)) ≡ true)
        (sym (h refl)) (alone piped front shut)

-- what is trimmed to nothing has no whitespace after that
pub no-back : (cell : List ℕ) → has (trim cell) ≡ false → has (white_back (trim_start cell)) ≡ false
no-back cell h =
    go (trim cell) (white_back (trim_start cell)) h (end-whole (trim_start cell)) (back-blank (trim_start cell))
    (front-stops is_white cell)
  where
    go : (t w : List ℕ) → has t ≡ false → trim_start cell ≡ t ++ w → is_blank w ≡ true →
        begins is_white (trim_start cell) ≡ false → has w ≡ false
    go (b ∷ t) w h e blank dark = cc
    go [] [] h e blank dark = refl
    go [] (b ∷ w) h e blank dark =
        let white : is_white b ≡ true = (and_parts (is_white b) (is_blank w) blank).0 in
        let no : true ≡ false = sym white ∙ sym (ap (begins is_white) e) ∙ dark in cc

-- what is said of a text is a word
abbrev pub SaysWord : Expression → (Point → Point → List Event) → Type 0
SaysWord text said = (p q : Point) → IsWord text (text ∷ []) (said p q)

text-leads : (text x : Expression) (said : Point → Point → List Event) → SaysWord text said → (xs : List ℕ)
    (p : Point) →
    Leads text (x ∷ []) (maybe (has xs) n.GfmTableCellText x ∷ []) (text_part said xs p)
text-leads text x said says [] p = λ outer. refl
text-leads text x said says (b ∷ bs) p =
    let q = past_text (b ∷ bs) p in leads-around text x n.GfmTableCellText p q (said p q) (says p q)

pub text-word : (text : Expression) (said : Point → Point → List Event) → SaysWord text said →
    CellWords text n.GfmTableCell (text_part said) (λ xs. Unit {0})
text-word text said says piped cell p fits = record {
  left = text_left piped (has front) (has (trim cell)) (has back);
  leads =
      leads-append text (cell_start ∷ []) (maybe piped n.GfmTableCellDivider cell_start ∷ [])
      (text_left piped (has front) (has (trim cell)) (has back) ∷ []) (first_pipe piped p)
      (cell_by (text_part said) cell q) (pipe-leads text cell_start piped p)
      (leads-append text (start ∷ []) (mid ∷ []) (maybe (has back) n.SpaceOrTab end ∷ []) (white_part front q)
      (text_part said (trim cell) r ++ white_part back (past_text (trim cell) r)) (white-leads text start front q)
      (leads-append text (mid ∷ []) (end ∷ []) (maybe (has back) n.SpaceOrTab end ∷ [])
      (text_part said (trim cell) r) (white_part back (past_text (trim cell) r))
      (text-leads text mid said says (trim cell) r) (white-leads text end back (past_text (trim cell) r))));
  ends = λ shut. text-ends piped (has front) (has (trim cell)) (has back) shut (no-back cell);
}
  where
    front : List ℕ
    front = white_front cell

    back : List ℕ
    back = white_back (trim_start cell)

    q : Point
    q = past_pipe piped p

    r : Point
    r = past_text (white_front cell) (past_pipe piped p)

    start : Expression
    start = maybe piped n.GfmTableCellDivider cell_start

    mid : Expression
    mid = maybe (has (white_front cell)) n.SpaceOrTab (maybe piped n.GfmTableCellDivider cell_start)

    end : Expression
    end =
        maybe (has (trim cell)) n.GfmTableCellText
        (maybe (has (white_front cell)) n.SpaceOrTab (maybe piped n.GfmTableCellDivider cell_start))

-- A text, as it is read later and as the plain layer reads it.

pub unread-says : SaysWord unread_text row.unread_text
unread-says p q = record { left = following n.Data unread_text; leads = λ outer. refl; ends = refl }

pub read-says : (bytes : List ℕ) → SaysWord plain_text (read_text bytes)
read-says bytes p q =
    let chunk : Chunk = record { first = p; after = q } in
    subst (IsWord plain_text (plain_text ∷ [])) (sym (append-nil (plain_chunk bytes chunk)))
    (chunk-word bytes true chunk)

pub cell-name : IsCellName n.GfmTableCell
cell-name = record { first = spaced; more = refl; ends = ends }
  where
    spaced : (x : Bool) →
        following n.GfmTableCell (maybe x n.SpaceOrTab (row_left n.GfmTableCell)) ≡ cells_left n.GfmTableCell
    spaced true = refl
    spaced false = refl

    ends : (x : Bool) → may_end (maybe x n.SpaceOrTab (cells_left n.GfmTableCell)) ≡ true
    ends true = refl
    ends false = refl
