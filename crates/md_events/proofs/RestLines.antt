-- The rest of a line by its cells: the line that they are, whether it is blank, and what follows its indent.
use Rattle.std.proofs.Common.{◌≡◌, ℕ, zero, suc, ◌+◌, ◌-◌, ◌^◌, ◌<◌, ◌≤◌, Bool, true, false, cond, ◌||◌, List, [], ◌∷◌}
use Rattle.std.proofs.Common.{◌++◌, drop, refl, sym, ap, ◌∙◌, append-nil, arith}
use Rattle.std.specs.Prelude.{◌==◌, not, nat_le}
use Rattle.std.specs.List.{prefix_len}
use Rattle.std.proofs.lemmas.Bool.Decides.{nat_tests}
use Rattle.md_engine.specs.declared.configuration.ParseOptions.{ParseOptions}
use Rattle.md_engine.specs.declared.event.Point.{Point}
use Rattle.md_engine.specs.declared.tokenizer.Line.{Line}
use Rattle.md_engine.specs.Meaning.{Cell}
use Rattle.md_meaning.specs.Bytes.{is_end}
use Rattle.md_meaning.specs.Rest.{Rest, after_indent, cut_tab, has_small_indent, indent, is_blank, is_white, lose}
use Rattle.md_meaning.specs.Rest.{tab_columns, trim_start}
use Rattle.md_meaning.proofs.TextsLemmas.{NoEnding}
use Rattle.md_events.specs.Ahead.{from_ending, line_bytes, line_cells, line_end, point_after}
use Rattle.md_events.specs.Events.Places.{past_byte}
use Rattle.md_events.specs.Spaces.{any_size, small_indent}
use Rattle.md_events.proofs.FeedLines.{NoFeed, Stops, all-spread, bytes_of, cell, columns_more, from_ending-append}
use Rattle.md_events.proofs.FeedLines.{line_cells-append, next_column, no_feed-spread, spread, tab_cells, tab_end}
use Rattle.md_events.proofs.RestCells.{Bare, bare, cells_by, past_rest, rest-end, rest_cells, without_first}

-- Where the line stops.

pub stops-line : (stop : List Cell) → Stops stop → line_cells stop ≡ []
stops-line [] h = refl
stops-line (c ∷ cs) h = rw h refl

stops-from : (stop : List Cell) → Stops stop → from_ending stop ≡ stop
stops-from [] h = refl
stops-from (c ∷ cs) h = rw h refl

-- The cells of a line without what follows: of bytes,
pub spread-line : (line : Line) (bytes : List ℕ) (p : Point) (stop : List Cell) → NoEnding bytes → Stops stop →
    line_cells (spread line bytes p ++ stop) ≡ spread line bytes p
spread-line line bytes p stop h k =
    line_cells-append (spread line bytes p) stop (no_feed-spread line bytes p h)
    ∙ ap (λ (l : List Cell). spread line bytes p ++ l) (stops-line stop k)
    ∙ append-nil (spread line bytes p)

no_feed-columns : (line : Line) (n : ℕ) (p : Point) (cs : List Cell) → NoFeed cs → NoFeed (tab_cells line n 32 p ++ cs)
no_feed-columns line zero p cs h = (refl, h)
no_feed-columns line (suc n) p cs h = (refl, no_feed-columns line n (next_column p) cs h)

no_feed-rest : (line : Line) (r : Rest) (p : Point) → NoEnding r.bytes → NoFeed (rest_cells line r p)
no_feed-rest line r p h = go r.spaces
  where
    go : (spaces : ℕ) → NoFeed (cells_by line spaces r.bytes p)
    go zero = no_feed-spread line r.bytes p h
    go (suc n) =
        no_feed-columns line n p (spread line r.bytes (tab_end n p)) (no_feed-spread line r.bytes (tab_end n p) h)

-- and of a rest;
pub rest-line : (line : Line) (r : Rest) (p : Point) (stop : List Cell) → NoEnding r.bytes → Stops stop →
    line_cells (rest_cells line r p ++ stop) ≡ rest_cells line r p
rest-line line r p stop h k =
    line_cells-append (rest_cells line r p) stop (no_feed-rest line r p h)
    ∙ ap (λ (l : List Cell). rest_cells line r p ++ l) (stops-line stop k)
    ∙ append-nil (rest_cells line r p)

-- where they end,
pub rest-past : (line : Line) (r : Rest) (p : Point) (stop : List Cell) → NoEnding r.bytes → Stops stop →
    1 ≤ p.column → line_end (rest_cells line r p ++ stop) p ≡ past_rest r p
rest-past line r p stop h k one =
    ap (λ (l : List Cell). point_after l p) (rest-line line r p stop h k) ∙ rest-end line r p one

-- and what follows
pub rest-from : (line : Line) (r : Rest) (p : Point) (stop : List Cell) → NoEnding r.bytes → Stops stop →
    from_ending (rest_cells line r p ++ stop) ≡ stop
rest-from line r p stop h k =
    from_ending-append (rest_cells line r p) stop (no_feed-rest line r p h) ∙ stops-from stop k

-- The cells are blank where the bytes are: of bytes,
pub blank-spread : (line : Line) (bytes : List ℕ) (p : Point) (stop : List Cell) → NoEnding bytes → Stops stop →
    is_blank (line_bytes (spread line bytes p ++ stop)) ≡ is_blank bytes
blank-spread line bytes p stop h k =
    ap (λ (l : List Cell). is_blank (bytes_of l)) (spread-line line bytes p stop h k)
    ∙ all-spread is_white refl line bytes p

blank-columns : (line : Line) (n : ℕ) (p : Point) (cs : List Cell) →
    is_blank (bytes_of (tab_cells line n 32 p ++ cs)) ≡ is_blank (bytes_of cs)
blank-columns line zero p cs = refl
blank-columns line (suc n) p cs = blank-columns line n (next_column p) cs

-- and of a rest
pub blank-cells : (line : Line) (r : Rest) (p : Point) (stop : List Cell) → NoEnding r.bytes → Stops stop →
    is_blank (line_bytes (rest_cells line r p ++ stop)) ≡ is_blank r.bytes
blank-cells line r p stop h k =
    ap (λ (l : List Cell). is_blank (bytes_of l)) (rest-line line r p stop h k) ∙ go r.spaces
  where
    go : (spaces : ℕ) → is_blank (bytes_of (cells_by line spaces r.bytes p)) ≡ is_blank r.bytes
    go zero = all-spread is_white refl line r.bytes p
    go (suc n) =
        blank-columns line n p (spread line r.bytes (tab_end n p))
        ∙ all-spread is_white refl line r.bytes (tab_end n p)

-- A rest ends before any cell where no byte of it is in the text.
pub end-cells : (line : Line) (r : Rest) (p : Point) (stop : List Cell) → NoEnding r.bytes → Stops stop →
    is_end (line_bytes (rest_cells line r p ++ stop)) ≡ is_end (cut_tab r.spaces ++ r.bytes)
end-cells line r p stop h k =
    ap (λ (l : List Cell). is_end (bytes_of l)) (rest-line line r p stop h k) ∙ go r.spaces r.bytes
  where
    go : (spaces : ℕ) (bytes : List ℕ) →
        is_end (bytes_of (cells_by line spaces bytes p)) ≡ is_end (cut_tab spaces ++ bytes)
    go (suc zero) bytes = refl
    go (suc (suc n)) bytes = refl
    go zero [] = refl
    go zero (b ∷ bs) = by (b == 9)
      where
        more : List Cell
        more = spread line bs (past_byte b p)

        tab : (n : ℕ) → is_end (bytes_of (tab_cells line n 9 p ++ more)) ≡ false
        tab zero = refl
        tab (suc n) = refl

        by : (t : Bool) →
            is_end
            (bytes_of (cond t (tab_cells line (columns_more p) 9 p) (cell b (past_byte b p) line ∷ []) ++ more)) ≡
            false
        by true = tab (columns_more p)
        by false = refl

-- The indent.

-- a small one fits, since no line is longer than any size
pub small-room : (options : ParseOptions) (r : Rest) (size : ℕ) → has_small_indent options r ≡ true → indent r ≤ size →
    size < 2 ^ 63 → indent r ≤ small_indent options
small-room options r size e le lt = go options.constructs.code_indented e
  where
    go : (t : Bool) → (not t || nat_le (indent r) 3) ≡ true → indent r ≤ cond t 3 any_size
    go true small = grind (arith, nat_tests, small)
    go false small = omega (arith, le, lt)

pub large-room : (options : ParseOptions) (r : Rest) → has_small_indent options r ≡ false →
    small_indent options < indent r
large-room options r e = go options.constructs.code_indented e
  where
    go : (t : Bool) → (not t || nat_le (indent r) 3) ≡ false → cond t 3 any_size < indent r
    go true large = grind (arith, nat_tests, large)
    go false large = cc

-- how many bytes pass a test at the front: one more, and none
pub count-one : (test : ℕ → Bool) (b : ℕ) (bs : List ℕ) → test b ≡ true →
    prefix_len test (b ∷ bs) ≡ suc (prefix_len test bs)
count-one test b bs e = ap (λ (t : Bool). cond t (1 + prefix_len test bs) 0) e ∙ omega arith

pub count-none : (test : ℕ → Bool) (b : ℕ) (bs : List ℕ) → test b ≡ false → prefix_len test (b ∷ bs) ≡ 0
count-none test b bs e = ap (λ (t : Bool). cond t (1 + prefix_len test bs) 0) e

-- whitespace that is lost before bytes does not count where all of it is dropped
pub trim-white : (b : ℕ) (bs : List ℕ) → is_white b ≡ true → trim_start (b ∷ bs) ≡ trim_start bs
trim-white b bs e = ap (λ (n : ℕ). drop n (b ∷ bs)) (count-one is_white b bs e)

trim-none : (b : ℕ) (bs : List ℕ) → is_white b ≡ false → trim_start (b ∷ bs) ≡ b ∷ bs
trim-none b bs e = ap (λ (n : ℕ). drop n (b ∷ bs)) (count-none is_white b bs e)

-- of a column,
trim-without : (r : Rest) → trim_start (without_first r).bytes ≡ trim_start r.bytes
trim-without r = go r.spaces r.bytes
  where
    rest : ℕ → ℕ → List ℕ → Rest
    rest column spaces bytes = record { column = column; spaces = spaces; bytes = bytes }

    go : (spaces : ℕ) (bytes : List ℕ) →
        trim_start (without_first (rest r.column spaces bytes)).bytes ≡ trim_start bytes
    go (suc n) bytes = refl
    go zero [] = refl
    go zero (b ∷ bs) = by (b == 9) refl (b == 32) refl
      where
        Same : Rest → Type 0
        Same s = trim_start s.bytes ≡ trim_start (b ∷ bs)

        by : (t : Bool) → (b == 9) ≡ t → (s : Bool) → (b == 32) ≡ s →
            Same
            (cond t (rest (r.column + 1) (tab_columns r.column - 1) bs)
            (cond s (rest (r.column + 1) 0 bs) (rest r.column 0 (b ∷ bs))))
        by true e s f = sym (trim-white b bs (rw e (last (b == 32))))
          where
            last : (x : Bool) → (x || true) ≡ true
            last true = refl
            last false = refl
        by false e true f = sym (trim-white b bs (rw f refl))
        by false e false f = refl

-- and of so many
trim-lose : (n : ℕ) (r : Rest) → trim_start (lose n r).bytes ≡ trim_start r.bytes
trim-lose zero r = refl
trim-lose (suc n) r = trim-lose n (without_first r) ∙ trim-without r

-- where no indent is left, the bytes after it are all but the whitespace in front
pub indent-trims : (r : Rest) → indent (after_indent r) ≡ 0 → (after_indent r).bytes ≡ trim_start r.bytes
indent-trims r none =
    sym (bare-trims (after_indent r).spaces (after_indent r).bytes (bare (after_indent r) none))
    ∙ trim-lose (indent r) r
  where
    bare-trims : (spaces : ℕ) (bytes : List ℕ) → Bare spaces bytes → trim_start bytes ≡ bytes
    bare-trims (suc n) bytes h = absurd h
    bare-trims zero [] h = refl
    bare-trims zero (b ∷ bs) h = trim-none b bs h

-- and its cells are those of these bytes
pub bare-spread : (line : Line) (r : Rest) (p : Point) → indent r ≡ 0 → rest_cells line r p ≡ spread line r.bytes p
bare-spread line r p none = go r.spaces r.bytes (bare r none)
  where
    go : (spaces : ℕ) (bytes : List ℕ) → Bare spaces bytes → cells_by line spaces bytes p ≡ spread line bytes p
    go (suc n) bytes h = absurd h
    go zero bytes h = refl
