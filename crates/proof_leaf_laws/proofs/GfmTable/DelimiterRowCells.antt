-- A cell of a delimiter row holds dashes, with a colon perhaps on either side: its bytes, its events, and what is known
-- of them.
use Rattle.std.proofs.Common.{◌≡◌, ℕ, ◌+◌, Bool, true, false, cond, List, [], ◌∷◌, ◌++◌, take, drop, map, refl, sym}
use Rattle.std.proofs.Common.{ap, ◌∙◌, subst, append-nil, length, arith}
use Rattle.std.specs.Prelude.{◌==◌, ◌&&◌, ◌||◌, Some, None}
use Rattle.std.specs.List.{list_all, list_any, prefix_len}
use Rattle.std.proofs.lemmas.Bool.{and_parts, eqb-true}
use Rattle.std.proofs.lemmas.Bool.Decides.{nat_tests}
use Rattle.std.proofs.lemmas.List.{take-append-drop}
use Rattle.std.proofs.lemmas.List.Sums.{list_all-from_AllPass}
use Rattle.md_engine.specs.declared.event.Event.{Event}
use Rattle.md_engine.specs.declared.event.Name.TheVariants as n
use Rattle.md_engine.specs.declared.event.Point.{Point}
use Rattle.md_meaning.specs.Bytes.{after, after_optional, is_end}
use Rattle.md_meaning.specs.Lines.{begins_with}
use Rattle.md_meaning.specs.Rest.{trim, trim_end, trim_start}
use Rattle.md_meaning.specs.Table.{delimiter_columns, is_delimiter, pieces, row_cells}
use Rattle.md_leaves.proofs.TitleTexts.{front-passes}
use Rattle.md_events.specs.Events.Grammar.{Expression, following, inside, may_end, plain_text}
use Rattle.md_events.specs.Events.Nested.{enter, exit, pair}
use Rattle.md_events.specs.Events.Pieces.{is_run}
use Rattle.md_events.specs.Events.Places.{past_byte, past_text}
use Rattle.md_events.proofs.GrammarLemmas.{IsWord, Leads, leads-append, leads-around, maybe}
use Rattle.md_events.proofs.InlineLemmas.{before-text, past-index, past_text-append}
use Rattle.md_events.proofs.RestLines.{count-one}
use Rattle.md_tables.specs.DelimiterCells.{delimiter_runs, value_part}
use Rattle.md_tables.specs.DelimiterRule.{Apart, Filler}
use Rattle.md_tables.specs.GfmTableLine.{are_columns}
use Rattle.md_tables.specs.RowCells.{Cells, Divides, Ends, Shut, cell_by, first_pipe, line_cells, past_pipe, white_back}
use Rattle.md_tables.specs.RowCells.{white_front, white_part}
use Rattle.md_tables.proofs.CellLemmas.{trimmed-begins, trimmed-dark}
use Rattle.md_tables.proofs.DelimiterColumns.{start-same}
use Rattle.md_tables.proofs.RowTexts.{held-cells, held_in}
use Rattle.md_tables.proofs.WhiteEnds.{end-is}
use Rattle.proof_frame.proofs.BetweenFacts.{all-more, is_low}
use Rattle.proof_frame.proofs.PlaceBetween.{low-following}
use Rattle.proof_frame.proofs.LineWalk.{At}
use Rattle.proof_leaf_laws.proofs.GfmTable.RowAt.{at-following, at-first}
use Rattle.proof_leaf_laws.proofs.GfmTable.RowCells.{EachFits, IsCellKind, low-front}
use Rattle.proof_leaf_laws.proofs.GfmTable.RowParts.{RowFacts, row-append, row-around, row-none, row-piece}
use Rattle.proof_leaf_laws.proofs.GfmTable.RowWords.{CellWords, IsCellName, cells_left, has, pipe-leads, row_left}
use Rattle.proof_leaf_laws.proofs.GfmTable.RowWords.{white-leads}
use Rattle.proof_frame.proofs.PieceFacts.{begins-whole, over-front, over-valid}

-- The bytes of a cell.

-- a colon, if there is one
abbrev pub colons : Bool → List ℕ
colons true = 58 ∷ []
colons false = []

pub record Aligned (cell : List ℕ) : Type 0 where
  pub left : Bool
  pub right : Bool
  pub dashes : List ℕ
  pub are : list_all (λ (b : ℕ). b == 45) dashes ≡ true
  pub is : cell ≡ colons left ++ (45 ∷ (dashes ++ colons right))

optional-colon : (xs : List ℕ) → (some : Bool) × (xs ≡ colons some ++ after_optional 58 xs)
optional-colon [] = (false, refl)
optional-colon (b ∷ bs) = go (b == 58) refl
  where
    go : (x : Bool) → (b == 58) ≡ x → (some : Bool) × (b ∷ bs ≡ colons some ++ cond x bs (b ∷ bs))
    go true e = (true, ap (λ (c : ℕ). c ∷ bs) (eqb-true b 58 e))
    go false e = (false, refl)

-- so it is by the line definition
pub aligned : (cell : List ℕ) → is_delimiter cell ≡ true → Aligned cell
aligned cell h = go (after_optional 58 cell) (optional-colon cell) parts.0 parts.1
  where
    parts : (begins_with 45 (after_optional 58 cell) ≡ true) ×
        (is_end (after_optional 58 (after (λ b. b == 45) (after_optional 58 cell))) ≡ true)
    parts =
        and_parts (begins_with 45 (after_optional 58 cell))
        (is_end (after_optional 58 (after (λ b. b == 45) (after_optional 58 cell)))) h

    nothing : (xs : List ℕ) → is_end xs ≡ true → xs ≡ []
    nothing [] e = refl
    nothing (b ∷ xs) e = cc

    go : (x : List ℕ) → (some : Bool) × (cell ≡ colons some ++ x) → begins_with 45 x ≡ true →
        is_end (after_optional 58 (after (λ b. b == 45) x)) ≡ true → Aligned cell
    go [] front first end = cc
    go (b ∷ x) front first end =
        let more = take (prefix_len (λ b. b == 45) x) x in
        let rest = drop (prefix_len (λ b. b == 45) x) x in
        let same : after (λ b. b == 45) (b ∷ x) ≡
        rest = ap (λ (k : ℕ). drop k (b ∷ x)) (count-one (λ b. b == 45) b x first) in
        let last = optional-colon rest in
        let none : after_optional 58 rest ≡ [] = nothing (after_optional 58 rest)
        (sym (ap (λ (l : List ℕ). is_end (after_optional 58 l)) same) ∙ end) in
        let whole : x ≡ more ++ colons last.0 = sym (take-append-drop (prefix_len (λ b. b == 45) x) x)
        ∙ ap (λ (l : List ℕ). more ++ l)
        (last.1 ∙ ap (λ (l : List ℕ). colons last.0 ++ l) none ∙ append-nil (colons last.0)) in
        record {
          left = front.0;
          right = last.0;
          dashes = more;
          are = list_all-from_AllPass (λ b. b == 45) more (front-passes (λ b. b == 45) x);
          is =
              front.1
              ∙ ap (λ (l : List ℕ). colons front.0 ++ l)
              (ap (λ (c : ℕ). c ∷ x) (eqb-true b 45 first) ∙ ap (λ (l : List ℕ). 45 ∷ l) whole);
        }

-- Its events: one piece each.

abbrev pub marker : Bool → Point → List Event
marker true p = pair n.GfmTableDelimiterMarker p (past_byte 58 p)
marker false p = []

abbrev pub value_events : Bool → List ℕ → Bool → Point → List Event
value_events left dashes right p =
    let q = past_text (colons left) p in
    let r = past_text (45 ∷ dashes) q in
    marker left p ++ (pair n.GfmTableDelimiterFiller q r ++ marker right r)

filler-runs : (dashes : List ℕ) (right : Bool) (p : Point) → list_all (λ (b : ℕ). b == 45) dashes ≡ true →
    delimiter_runs Filler (dashes ++ colons right) p ≡
    exit n.GfmTableDelimiterFiller (past_text dashes p) ∷ marker right (past_text dashes p)
filler-runs [] true p h = refl
filler-runs [] false p h = refl
filler-runs (b ∷ bs) right p h =
    let both = and_parts (b == 45) (list_all (λ (b : ℕ). b == 45) bs) h in
    proceeds both.0 ∙ filler-runs bs right (past_byte b p) both.1
  where
    proceeds : (b == 45) ≡ true →
        delimiter_runs Filler ((b ∷ bs) ++ colons right) p ≡
        delimiter_runs Filler (bs ++ colons right) (past_byte b p)
    proceeds e = rw e refl

pub value-runs : (left : Bool) (dashes : List ℕ) (right : Bool) (p : Point) →
    list_all (λ (b : ℕ). b == 45) dashes ≡ true →
    delimiter_runs Apart (colons left ++ (45 ∷ (dashes ++ colons right))) p ≡ value_events left dashes right p
value-runs true dashes right p h =
    ap
    (λ (es : List Event).
    enter n.GfmTableDelimiterMarker p ∷ exit n.GfmTableDelimiterMarker (past_byte 58 p)
    ∷ enter n.GfmTableDelimiterFiller (past_byte 58 p) ∷ es)
    (filler-runs dashes right (past_byte 45 (past_byte 58 p)) h)
value-runs false dashes right p h =
    ap (λ (es : List Event). enter n.GfmTableDelimiterFiller p ∷ es) (filler-runs dashes right (past_byte 45 p) h)

-- What is known of them.

marker-facts : (bytes : List ℕ) (some : Bool) (rest : List ℕ) (p : Point) → At bytes (colons some) p rest →
    RowFacts bytes p (past_text (colons some) p) (marker some p) (marker some p)
marker-facts bytes true rest p at =
    let q = past_byte 58 p in
    row-piece bytes n.GfmTableDelimiterMarker p q (record { quiet = tt; part = tt; other = refl; no_part = refl })
    (before-text (58 ∷ []) p)
    (over-valid bytes n.GfmTableDelimiterMarker p q (58 ∷ [])
    (over-front bytes p q (58 ∷ []) rest at.valid (omega arith) refl)
    (begins-whole n.GfmTableDelimiterMarker p at.whole) refl)
marker-facts bytes false rest p at = row-none bytes p

dashes-low : (dashes : List ℕ) → list_all (λ (b : ℕ). b == 45) dashes ≡ true → list_all is_low dashes ≡ true
dashes-low dashes h = all-more (λ (b : ℕ). b == 45) is_low dashes low h
  where
    low : (b : ℕ) → (b == 45) ≡ true → is_low b ≡ true
    low b e = subst (λ (c : ℕ). is_low c ≡ true) (sym (eqb-true b 45 e)) refl

filler-facts : (bytes dashes rest : List ℕ) (p : Point) → At bytes (45 ∷ dashes) p rest →
    list_all (λ (b : ℕ). b == 45) dashes ≡ true →
    let q = past_text (45 ∷ dashes) p in
    RowFacts bytes p q (pair n.GfmTableDelimiterFiller p q) (pair n.GfmTableDelimiterFiller p q)
filler-facts bytes dashes rest p at h =
    let q = past_text (45 ∷ dashes) p in
    row-piece bytes n.GfmTableDelimiterFiller p q (record { quiet = tt; part = tt; other = refl; no_part = refl })
    (before-text (45 ∷ dashes) p)
    (over-valid bytes n.GfmTableDelimiterFiller p q (45 ∷ dashes)
    (over-front bytes p q (45 ∷ dashes) rest at.valid (omega arith) refl)
    (begins-whole n.GfmTableDelimiterFiller p at.whole) (run dashes h))
  where
    run : (dashes : List ℕ) → list_all (λ (b : ℕ). b == 45) dashes ≡ true → is_run 1 45 (45 ∷ dashes) ≡ true
    run dashes h = grind (arith, nat_tests)

value-facts : (bytes : List ℕ) (left : Bool) (dashes : List ℕ) (right : Bool) (rest : List ℕ) (p : Point) →
    list_all (λ (b : ℕ). b == 45) dashes ≡ true → At bytes (colons left ++ (45 ∷ (dashes ++ colons right))) p rest →
    RowFacts bytes p (past_text (colons left ++ (45 ∷ (dashes ++ colons right))) p) (value_events left dashes right p)
    (value_events left dashes right p)
value-facts bytes left dashes right rest p h at =
    subst (λ (e : Point). RowFacts bytes p e (value_events left dashes right p) (value_events left dashes right p))
    (sym end)
    (row-append
    (marker-facts bytes left ((45 ∷ (dashes ++ colons right)) ++ rest) p
    (at-first bytes (colons left) (45 ∷ (dashes ++ colons right)) rest p at))
    (row-append
    (filler-facts bytes dashes (colons right ++ rest) q (at-first bytes (45 ∷ dashes) (colons right) rest q at-dashes)
    h)
    (marker-facts bytes right rest r (at-following bytes (45 ∷ dashes) (colons right) rest q at-dashes))
    (λ first end.
    low-following bytes 45 dashes (colons right ++ rest) q
    (at-first bytes (45 ∷ dashes) (colons right) rest q at-dashes).valid (dashes-low dashes h)))
    (λ first end. low-front bytes 45 ((dashes ++ colons right) ++ rest) q at-dashes.valid refl))
  where
    q : Point
    q = past_text (colons left) p

    r : Point
    r = past_text (45 ∷ dashes) (past_text (colons left) p)

    at-dashes : At bytes ((45 ∷ dashes) ++ colons right) (past_text (colons left) p) rest
    at-dashes = at-following bytes (colons left) (45 ∷ (dashes ++ colons right)) rest p at

    end : past_text (colons left ++ (45 ∷ (dashes ++ colons right))) p ≡ past_text (colons right) r
    end =
        past_text-append (colons left) (45 ∷ (dashes ++ colons right)) p
        ∙ past_text-append (45 ∷ dashes) (colons right) q

-- What a cell has to hold.
abbrev pub IsValue : List ℕ → Type 0
IsValue xs = is_delimiter xs ≡ true

pub value-kind : (bytes : List ℕ) → IsCellKind bytes n.GfmTableDelimiterCell value_part value_part IsValue
value-kind bytes = record {
  group = record { part = tt; other = refl; no_part = refl; still = tt; known = refl; untold = refl };
  held = held;
}
  where
    held : (xs rest : List ℕ) (p : Point) → At bytes xs p rest → IsValue xs →
        RowFacts bytes p (past_text xs p) (value_part xs p) (value_part xs p)
    held [] rest p at is = row-none bytes p
    held (b ∷ bs) rest p at is =
        let a = aligned (b ∷ bs) is in
        let q = past_text (b ∷ bs) p in
        let size : q.index ≡ p.index + length (b ∷ bs) = past-index (b ∷ bs) p in
        let runs : delimiter_runs Apart (b ∷ bs) p ≡ value_events a.left a.dashes a.right p =
        ap (λ (xs : List ℕ). delimiter_runs Apart xs p) a.is ∙ value-runs a.left a.dashes a.right p a.are in
        let facts : RowFacts bytes p q (value_events a.left a.dashes a.right p)
        (value_events a.left a.dashes a.right p) =
        subst
        (λ (xs : List ℕ).
        RowFacts bytes p (past_text xs p) (value_events a.left a.dashes a.right p)
        (value_events a.left a.dashes a.right p)) (sym a.is)
        (value-facts bytes a.left a.dashes a.right rest p a.are
        (subst (λ (xs : List ℕ). At bytes xs p rest) a.is at)) in
        row-around n.GfmTableDelimiterCellValue
        (record { part = tt; other = refl; no_part = refl; still = tt; known = refl; untold = refl })
        (omega (arith, size))
        (subst (λ (es : List Event). RowFacts bytes p q es es) (sym runs) facts)

-- They keep the grammar.

value-word : (text : Expression) (left : Bool) (dashes : List ℕ) (right : Bool) (p : Point) →
    IsWord text (inside text n.GfmTableDelimiterCellValue ∷ []) (value_events left dashes right p)
value-word text true dashes true p = record {
  left =
      following n.GfmTableDelimiterMarker
      (following n.GfmTableDelimiterFiller (following n.GfmTableDelimiterMarker
      (inside text n.GfmTableDelimiterCellValue)));
  leads = λ outer. refl;
  ends = refl;
}
value-word text true dashes false p = record {
  left =
      following n.GfmTableDelimiterFiller (following n.GfmTableDelimiterMarker
      (inside text n.GfmTableDelimiterCellValue));
  leads = λ outer. refl;
  ends = refl;
}
value-word text false dashes true p = record {
  left =
      following n.GfmTableDelimiterMarker (following n.GfmTableDelimiterFiller
      (inside text n.GfmTableDelimiterCellValue));
  leads = λ outer. refl;
  ends = refl;
}
value-word text false dashes false p = record {
  left = following n.GfmTableDelimiterFiller (inside text n.GfmTableDelimiterCellValue);
  leads = λ outer. refl;
  ends = refl;
}

value-leads : (text x : Expression) (xs : List ℕ) (p : Point) → IsValue xs →
    Leads text (x ∷ []) (following n.GfmTableDelimiterCellValue x ∷ []) (value_part xs p)
value-leads text x [] p is = cc
value-leads text x (b ∷ bs) p is =
    let a = aligned (b ∷ bs) is in
    let q = past_text (b ∷ bs) p in
    leads-around text x n.GfmTableDelimiterCellValue p q (delimiter_runs Apart (b ∷ bs) p)
    (subst (IsWord text (inside text n.GfmTableDelimiterCellValue ∷ []))
    (sym
    (ap (λ (xs : List ℕ). delimiter_runs Apart xs p) a.is ∙ value-runs a.left a.dashes a.right p a.are))
    (value-word text a.left a.dashes a.right p))

-- a cell
abbrev cell_start : Expression
cell_start = inside plain_text n.GfmTableDelimiterCell

abbrev value_left : Bool → Bool → Bool → Expression
value_left piped front back =
    maybe back n.SpaceOrTab
    (following n.GfmTableDelimiterCellValue
    (maybe front n.SpaceOrTab (maybe piped n.GfmTableCellDivider cell_start)))

value-ends : (piped front back shut : Bool) →
    may_end (maybe shut n.GfmTableCellDivider (value_left piped front back)) ≡ true
value-ends true true true true = refl
value-ends true true true false = refl
value-ends true true false true = refl
value-ends true true false false = refl
value-ends true false true true = refl
value-ends true false true false = refl
value-ends true false false true = refl
value-ends true false false false = refl
value-ends false true true true = refl
value-ends false true true false = refl
value-ends false true false true = refl
value-ends false true false false = refl
value-ends false false true true = refl
value-ends false false true false = refl
value-ends false false false true = refl
value-ends false false false false = refl

pub delimiter-words : (text : Expression) → CellWords text n.GfmTableDelimiterCell value_part IsValue
delimiter-words text piped cell p fits = record {
  left = value_left piped (has front) (has back);
  leads =
      leads-append text (cell_start ∷ []) (start ∷ []) (value_left piped (has front) (has back) ∷ [])
      (first_pipe piped p) (cell_by value_part cell q) (pipe-leads text cell_start piped p)
      (leads-append text (start ∷ []) (mid ∷ []) (value_left piped (has front) (has back) ∷ []) (white_part front q)
      (value_part (trim cell) r ++ white_part back (past_text (trim cell) r)) (white-leads text start front q)
      (leads-append text (mid ∷ []) (following n.GfmTableDelimiterCellValue mid ∷ [])
      (value_left piped (has front) (has back) ∷ []) (value_part (trim cell) r)
      (white_part back (past_text (trim cell) r)) (value-leads text mid (trim cell) r fits)
      (white-leads text (following n.GfmTableDelimiterCellValue mid) back (past_text (trim cell) r))));
  ends = λ shut. value-ends piped (has front) (has back) shut;
}
  where
    front : List ℕ
    front = white_front cell

    back : List ℕ
    back = white_back (trim_start cell)

    q : Point
    q = past_pipe piped p

    r : Point
    r = past_text (white_front cell) (past_pipe piped p)

    start : Expression
    start = maybe piped n.GfmTableCellDivider cell_start

    mid : Expression
    mid = maybe (has (white_front cell)) n.SpaceOrTab (maybe piped n.GfmTableCellDivider cell_start)

pub delimiter-name : IsCellName n.GfmTableDelimiterCell
delimiter-name = record { first = spaced; more = refl; ends = ends }
  where
    spaced : (x : Bool) →
        following n.GfmTableDelimiterCell (maybe x n.SpaceOrTab (row_left n.GfmTableDelimiterCell)) ≡
        cells_left n.GfmTableDelimiterCell
    spaced true = refl
    spaced false = refl

    ends : (x : Bool) → may_end (maybe x n.SpaceOrTab (cells_left n.GfmTableDelimiterCell)) ≡ true
    ends true = refl
    ends false = refl

-- The line.

-- its cells are those of a delimiter row
abbrev pub AreDelimiters : List ℕ → Type 0
AreDelimiters line = list_all is_delimiter (row_cells line) ≡ true

pub values-fit : (line : List ℕ) → AreDelimiters line → EachFits IsValue (line_cells (trim_start line))
values-fit line h =
    each (line_cells (trim_start line)) (ap (list_all is_delimiter) (held-cells line) ∙ h)
  where
    each : (cells : Cells) → list_all is_delimiter (map trim (held_in cells)) ≡ true → EachFits IsValue cells
    each (Ends cell) h = (and_parts (is_delimiter (trim cell)) true h).0
    each (Shut cell white) h = (and_parts (is_delimiter (trim cell)) true h).0
    each (Divides cell cells) h =
        let both = and_parts (is_delimiter (trim cell)) (list_all is_delimiter (map trim (held_in cells))) h in
        (both.0, each cells both.1)

-- they are where the line definition shows its columns
trim-twice : (line : List ℕ) → trim (trim line) ≡ trim line
trim-twice line =
    ap trim_end (start-same (trim line) (trimmed-begins line))
    ∙ (end-is (trim line) (trim line) [] (sym (append-nil (trim line))) (trimmed-dark (trim_start line)) refl).0

same-cells : (line : List ℕ) → row_cells (trim line) ≡ row_cells line
unfolding row_cells
same-cells line = ap (λ (t : List ℕ). map trim (pieces false (after_optional 124 t))) (trim-twice line)

columns-are : (row : List ℕ) (columns : ℕ) → are_columns (delimiter_columns row) columns ≡ true →
    list_all is_delimiter (row_cells row) ≡ true
unfolding delimiter_columns
columns-are row columns h =
    let marked : Bool = list_any (λ b. (b == 58) || (b == 124)) row in
    (and_parts marked (list_all is_delimiter (row_cells row))
    (go (marked && list_all is_delimiter (row_cells row)) h)).1
  where
    go : (x : Bool) → are_columns (cond x (Some (length (row_cells row))) None) columns ≡ true → x ≡ true
    go true h = refl
    go false h = h

pub columns-cells : (line : List ℕ) (columns : ℕ) → are_columns (delimiter_columns (trim line)) columns ≡ true →
    AreDelimiters line
columns-cells line columns h =
    ap (list_all is_delimiter) (sym (same-cells line)) ∙ columns-are (trim line) columns h
