-- A further line of fenced code or math closes the block, or continues it, where the definition of lines says, and
-- leaves what that says.
use Rattle.std.proofs.Common.{◌≡◌, ℕ, zero, suc, ◌^◌, ◌<◌, ◌≤◌, Bool, true, false, cond, ◌&&◌, nat_lt}
use Rattle.std.proofs.Common.{List, [], ◌∷◌, ◌++◌, length, drop, refl, sym, ◌∙◌, ap, append_assoc, arith}
use Rattle.std.specs.Prelude.{not, nat_le, ◌==◌}
use Rattle.std.specs.List.{prefix_len}
use Rattle.std.proofs.lemmas.Bool.Decides.{nat_tests}
use Rattle.std.proofs.lemmas.List.{length-append}
use Rattle.md_engine.specs.declared.configuration.ParseOptions.{ParseOptions}
use Rattle.md_engine.specs.declared.event.Event.{Event}
use Rattle.md_engine.specs.declared.event.Point.{Point}
use Rattle.md_engine.specs.declared.tokenizer.Line.{Line}
use Rattle.md_engine.specs.declared.tokenizer.held_leaf.HeldLeaf.{HeldLeaf}
use Rattle.md_engine.specs.declared.tokenizer.held_leaf.HeldLeaf.TheVariants as held_leaf
use Rattle.md_engine.specs.Meaning.{Cell}
use Rattle.md_meaning.specs.Leaves.{closes}
use Rattle.md_meaning.specs.Rest.{Rest, after_indent, has_small_indent, indent, is_blank, is_white, lose, run_len}
use Rattle.md_meaning.specs.Rest.{trim_start}
use Rattle.md_meaning.specs.State.{Opening}
use Rattle.md_meaning.proofs.TextsLemmas.{NoEnding, no_ending-drop}
use Rattle.md_literal.specs.Fence.{block_name, chunk_name, held_indent, held_marker, may_begin}
use Rattle.md_literal.specs.FenceLine.{chunk_events, closes_here, closing_end, fence_continues, further_end}
use Rattle.md_literal.specs.FenceLine.{further_events, further_inside, further_rest, is_closing, spaces}
use Rattle.md_leaves.specs.CellRuns.{is_end, is_line, run_end, run_rest, run_size}
use Rattle.md_leaves.specs.Further.{further_link}
use Rattle.md_literal.proofs.FenceCells.{closing-spread, first-spread, line-all, line-done, line-run, line-white}
use Rattle.md_literal.proofs.FenceCells.{marker-dark, marker-proceeds}
use Rattle.md_events.specs.Ahead.{begins_white, from_ending, line_end, white_end, white_rest}
use Rattle.md_events.specs.Events.Nested.{enter_link, exit, pair}
use Rattle.md_events.specs.Look.{first_seen}
use Rattle.md_engine.specs.Place.{is_ending}
use Rattle.md_events.specs.Spaces.{any_size, ends_line, is_current, small_indent}
use Rattle.md_events.proofs.FeedLines.{Stops, spread, tab_cells, tab_end}
use Rattle.md_events.proofs.LostColumns.{lose-walk}
use Rattle.md_events.proofs.RestCells.{RestAt, cells_by, indent-length, indent-over, indent-taken, lose-no_ending}
use Rattle.md_events.proofs.RestCells.{past_rest, rest_cells, white-length}
use Rattle.md_events.proofs.RestLines.{bare-spread, indent-trims, large-room, rest-from, rest-past, small-room}

-- Where the line ends, by its cells.

pub further-end : (options : ParseOptions) (leaf : HeldLeaf) (cells : List Cell) (p : Point) →
    may_begin (held_marker leaf) ≡ true →
    (further_end options leaf cells p ≡ line_end cells p) × (further_rest options leaf cells ≡ from_ending cells)
further-end options leaf cells p is = go (closes_here options leaf cells) refl
  where
    m : ℕ
    m = held_marker leaf

    room : ℕ
    room = small_indent options

    rest : List Cell
    rest = white_rest room cells

    q : Point
    q = white_end room cells p

    left : List Cell
    left = run_rest (λ b. b == m) rest

    last : List Cell
    last = white_rest any_size left

    lost : ℕ
    lost = held_indent leaf

    third : (a b c : Bool) → a && b && c ≡ true → c ≡ true
    third true true c e = e
    third true false c e = cc
    third false b c e = cc

    go : (x : Bool) → closes_here options leaf cells ≡ x →
        (cond x (closing_end m rest q) (run_end is_line (white_rest lost cells) (white_end lost cells p)) ≡
        line_end cells p) ×
        (cond x last (run_rest is_line (white_rest lost cells)) ≡ from_ending cells)
    go true e =
        let first = line-white room cells p in
        let run = line-run (λ b. b == m) (λ b. marker-proceeds m b is) rest q in
        let following = line-white any_size left (run_end (λ b. b == m) rest q) in
        let done = line-done last (closing_end m rest q) (third (is_current m (first_seen rest)) _ (is_end last) e) in
        (sym done.0 ∙ following.end ∙ run.end ∙ first.end, sym done.1 ∙ following.from ∙ run.from ∙ first.from)
    go false e =
        let first = line-white lost cells p in
        let all = line-all (white_rest lost cells) (white_end lost cells p) in
        (all.0 ∙ first.end, all.1 ∙ first.from)

-- The indent.

-- the cells after a small indent are those of the bytes after it
pub record Following (options : ParseOptions) (line : Line) (text following : List ℕ) (r : Rest) (p : Point)
    (stop : List Cell) : Type 0 where
  pub cells : white_rest (small_indent options) (rest_cells line r p ++ stop) ≡
      spread line (trim_start r.bytes) (white_end (small_indent options) (rest_cells line r p ++ stop) p) ++ stop
  pub valid : RestAt text following (after_indent r) (white_end (small_indent options) (rest_cells line r p ++ stop) p)
  pub ends : past_rest (after_indent r) (white_end (small_indent options) (rest_cells line r p ++ stop) p) ≡
      past_rest r p
  pub none : indent (after_indent r) ≡ 0

pub small-following : (options : ParseOptions) (line : Line) (text following : List ℕ) (r : Rest) (p : Point)
    (stop : List Cell) →
    RestAt text following r p → Stops stop → length (rest_cells line r p ++ stop) < 2 ^ 63 →
    has_small_indent options r ≡ true → Following options line text following r p stop
small-following options line text following r p stop is k short small =
    let columns = indent-length line text following r p is in
    let sum = length-append (rest_cells line r p) stop in
    let room = small-room options r (length (rest_cells line r p ++ stop)) small (omega (arith, columns, sum)) short in
    let taken = indent-taken line text following (small_indent options) r p stop is k room in
    let q = white_end (small_indent options) (rest_cells line r p ++ stop) p in
    record {
      cells =
          taken.cells
          ∙ ap (λ (l : List Cell). l ++ stop)
          (bare-spread line (after_indent r) q taken.none
          ∙ ap (λ (bytes : List ℕ). spread line bytes q) (indent-trims r taken.none));
      valid = taken.valid;
      ends = taken.ends;
      none = taken.none;
    }

-- Whether the line closes the block.

closing-white : (m size : ℕ) (cells : List Cell) → may_begin m ≡ true → begins_white cells ≡ true →
    is_closing m size cells ≡ false
closing-white m size [] is e = cc
closing-white m size (c ∷ cs) is e = go (c.byte == m) refl
  where
    go : (x : Bool) → (c.byte == m) ≡ x →
        (x && not (nat_lt (run_size (λ b. b == m) (c ∷ cs)) size)
        && is_end (white_rest any_size (run_rest (λ b. b == m) (c ∷ cs)))) ≡
        false
    go true f = let bad : true ≡ false = sym e ∙ marker-dark m c.byte is f in cc
    go false f = refl

pub closes-agrees : (options : ParseOptions) (o : Opening) (line : Line) (text following : List ℕ)
    (r : Rest) (p : Point)
    (stop : List Cell) →
    may_begin o.marker ≡ true → 1 ≤ o.size → RestAt text following r p → NoEnding r.bytes → Stops stop →
    length (rest_cells line r p ++ stop) < 2 ^ 63 →
    closes_here options (held_leaf.Fence o.marker o.size o.indent) (rest_cells line r p ++ stop) ≡ closes options o r
closes-agrees options o line text following r p stop marker some is h k short = go (has_small_indent options r) refl
  where
    cells : List Cell
    cells = rest_cells line r p ++ stop

    go : (x : Bool) → has_small_indent options r ≡ x →
        is_closing o.marker o.size (white_rest (small_indent options) cells) ≡
        (x && nat_le o.size (run_len o.marker (trim_start r.bytes))
        && is_blank (drop (run_len o.marker (trim_start r.bytes)) (trim_start r.bytes)))
    go true small =
        let taken = small-following options line text following r p stop is k short small in
        let le = white-length (small_indent options) cells in
        let same = ap length taken.cells in
        ap (is_closing o.marker o.size) taken.cells
        ∙ closing-spread o.marker o.size line (trim_start r.bytes) _ stop marker some
        (no_ending-drop (prefix_len is_white r.bytes) r.bytes h) k (omega (arith, le, same, short))
    go false large =
        closing-white o.marker o.size (white_rest (small_indent options) cells) marker
        (indent-over line text following (small_indent options) r p stop is (large-room options r large))

-- What the line has left.

-- whether nothing is left of a line
abbrev pub is_nothing : Rest → Bool
is_nothing r = nothing r.spaces r.bytes
  where
    nothing : ℕ → List ℕ → Bool
    nothing zero [] = true
    nothing _ _ = false

-- what is left of it is one part
abbrev pub left_part : ℕ → Rest → Point → List Event
left_part m left q = cond (is_nothing left) [] (pair (chunk_name m) q (past_rest left q))

pub nothing-end : (line : Line) (r : Rest) (p : Point) (stop : List Cell) → NoEnding r.bytes → Stops stop →
    is_end (rest_cells line r p ++ stop) ≡ is_nothing r
nothing-end line r p stop h k = go r.spaces r.bytes h
  where
    columns : (n : ℕ) (cs : List Cell) → is_end (tab_cells line n 32 p ++ cs) ≡ false
    columns zero cs = refl
    columns (suc n) cs = refl

    stops : (cs : List Cell) → Stops cs → is_end cs ≡ true
    stops [] e = refl
    stops (c ∷ cs) e = e

    dark : (b : ℕ) → is_ending b ≡ false → (b == 10) ≡ false
    dark b e = grind (arith, nat_tests)

    go : (spaces : ℕ) (bytes : List ℕ) → NoEnding bytes →
        is_end (cells_by line spaces bytes p ++ stop) ≡
        is_nothing (record { column = r.column; spaces = spaces; bytes = bytes })
    go (suc n) bytes e =
        ap is_end (append_assoc (tab_cells line n 32 p) (spread line bytes (tab_end n p)) stop)
        ∙ columns n (spread line bytes (tab_end n p) ++ stop)
    go zero [] e = stops stop k
    go zero (b ∷ bs) e = ap ends_line (first-spread line b bs p stop) ∙ dark b e.0

pub chunk-agrees : (m : ℕ) (line : Line) (text following : List ℕ) (r : Rest) (p : Point) (stop : List Cell) →
    RestAt text following r p → NoEnding r.bytes → Stops stop →
    chunk_events m (rest_cells line r p ++ stop) p ≡ left_part m r p
chunk-agrees m line text following r p stop is h k =
    ap
    (λ (q : Point).
    cond (is_end (rest_cells line r p ++ stop)) [] (pair (chunk_name m) p q))
    ((line-all (rest_cells line r p ++ stop) p).0 ∙ rest-past line r p stop h k (omega (arith, is.column)))
    ∙ ap (λ (x : Bool). cond x [] (pair (chunk_name m) p (past_rest r p))) (nothing-end line r p stop h k)

-- A further line: by its cells the block ends where the definition has a closing fence. All of the line is taken, and
-- it adds one linked pair. In the pair of any other line is what is left of it there, and so much whitespace in front
-- as it loses.
pub record FurtherAgrees (options : ParseOptions) (o : Opening) (line : Line) (text following : List ℕ) (r : Rest)
    (p : Point) (stop : List Cell) : Type 0 where
  pub proceeds : fence_continues options (held_leaf.Fence o.marker o.size o.indent) (rest_cells line r p ++ stop) ≡
      cond (closes options o r) held_leaf.None (held_leaf.Fence o.marker o.size o.indent)
  -- where what is left of the line begins
  pub at : Point
  pub valid : RestAt text following (lose o.indent r) at
  pub adds : further_events options (held_leaf.Fence o.marker o.size o.indent) (rest_cells line r p ++ stop) p ≡
      (enter_link (block_name o.marker) p further_link
      ∷ further_inside options (held_leaf.Fence o.marker o.size o.indent) (rest_cells line r p ++ stop) p
      ++ exit (block_name o.marker) (past_rest r p) ∷ [])
  pub inside : closes options o r ≡ false →
      further_inside options (held_leaf.Fence o.marker o.size o.indent) (rest_cells line r p ++ stop) p ≡
      spaces o.indent (rest_cells line r p ++ stop) p ++ left_part o.marker (lose o.indent r) at
  pub ends : further_end options (held_leaf.Fence o.marker o.size o.indent) (rest_cells line r p ++ stop) p ≡
      past_rest r p
  pub rest : further_rest options (held_leaf.Fence o.marker o.size o.indent) (rest_cells line r p ++ stop) ≡ stop

pub further-agrees : (options : ParseOptions) (o : Opening) (line : Line) (text following : List ℕ)
    (r : Rest) (p : Point)
    (stop : List Cell) →
    may_begin o.marker ≡ true → 1 ≤ o.size → RestAt text following r p → NoEnding r.bytes → Stops stop →
    length (rest_cells line r p ++ stop) < 2 ^ 63 → FurtherAgrees options o line text following r p stop
further-agrees options o line text following r p stop marker some is h k short =
    let cells : List Cell = rest_cells line r p ++ stop in
    let leaf : HeldLeaf = held_leaf.Fence o.marker o.size o.indent in
    let closed = closes-agrees options o line text following r p stop marker some is h k short in
    let lost = lose-walk line text following o.indent r p stop is k in
    let q = white_end o.indent cells p in
    let end = further-end options leaf cells p marker in
    let ends = end.0 ∙ rest-past line r p stop h k (omega (arith, is.column)) in
    record {
      proceeds = ap (λ (x : Bool). cond x held_leaf.None leaf) closed;
      at = q;
      valid = lost.valid;
      adds =
          ap
          (λ (x : Point).
          enter_link (block_name o.marker) p further_link ∷ further_inside options leaf cells p
          ++ exit (block_name o.marker) x ∷ []) ends;
      inside = λ e.
          rw (closed ∙ e)
          (ap (λ (l : List Cell). spaces o.indent cells p ++ chunk_events o.marker l q) lost.left
          ∙ ap (λ (es : List Event). spaces o.indent cells p ++ es)
          (chunk-agrees o.marker line text following (lose o.indent r) q stop lost.valid
          (lose-no_ending o.indent r h) k));
      ends = ends;
      rest = end.1 ∙ rest-from line r p stop h k;
    }
