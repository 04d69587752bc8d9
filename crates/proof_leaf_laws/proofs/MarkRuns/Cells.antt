-- The runs of the cells of a line are those of its bytes.
use Rattle.std.proofs.Common.{◌≡◌, ℕ, zero, suc, ◌<◌, ◌≤◌, ◌^◌, Bool, true, false, cond, List, [], ◌∷◌, ◌++◌, length}
use Rattle.std.proofs.Common.{refl, ap, ap₂, sym, ◌∙◌, subst, arith}
use Rattle.std.specs.Prelude.{◌==◌}
use Rattle.std.proofs.lemmas.Bool.{eq-eqb, eqb-true}
use Rattle.std.proofs.lemmas.Bool.Decides.{nat_tests}
use Rattle.md_engine.specs.declared.configuration.ParseOptions.{ParseOptions}
use Rattle.md_engine.specs.declared.event.Event.{Event}
use Rattle.md_engine.specs.declared.event.Name.{Name}
use Rattle.md_engine.specs.declared.event.Name.TheVariants as n
use Rattle.md_engine.specs.declared.event.Point.{Point}
use Rattle.md_engine.specs.declared.tokenizer.Line.{Line}
use Rattle.md_engine.specs.Meaning.{Cell}
use Rattle.md_leaves.specs.HeadingSetextRule.{first_cell}
use Rattle.md_leaves.specs.MarkRuns as celled
use Rattle.md_events.specs.Ahead.{begins_white, line_bytes, line_cells, line_end, white_end, white_rest}
use Rattle.md_events.specs.Spaces.{small_indent}
use Rattle.md_meaning.specs.Rest.{Rest, has_small_indent, is_white, trim_start}
use Rattle.md_meaning.specs.Texts.{first_byte}
use Rattle.md_events.specs.Events.Nested.{around, enter, exit, pair}
use Rattle.md_events.specs.Events.Places.{past_byte, past_text}
use Rattle.md_events.proofs.AheadLemmas.{small-some, white-no_ending}
use Rattle.md_events.proofs.FeedLines.{Stops, bytes_of, cell, columns_more, spread, tab_cells}
use Rattle.md_events.proofs.RestCells.{Cut, RestAt, rest_cells}
use Rattle.md_events.proofs.RestLines.{spread-line}
use Rattle.md_meaning.proofs.TextsLemmas.{NoEnding}
use Rattle.md_tables.proofs.RunSpread.{AreSpread, bytes-run}
use Rattle.proof_frame.specs.RestLine.{rest_line}
use Rattle.proof_frame.specs.MarkRuns.{Apart, Marks, Run, White, mark_runs}
use Rattle.proof_frame.proofs.RestFacts.{rest-line_end, rest-no_ending, rest-same, rest-trim, small-indented}

-- What may mark a run: no whitespace, and no ending of a line; and 0 represents none.
pub record IsMark (m : ℕ) : Type 0 where
  pub dark : is_white m ≡ false
  pub no_ending : (m == 10) ≡ false
  pub some : (m == 0) ≡ false

-- it is no tab
tab-other : (m : ℕ) → is_white m ≡ false → (9 == m) ≡ false
tab-other m dark = grind (arith, nat_tests, dark)

-- and no space
space-other : (m : ℕ) → is_white m ≡ false → (32 == m) ≡ false
space-other m dark = grind (arith, nat_tests, dark)

-- and no whitespace at all
pub white-other : (b m : ℕ) → is_white b ≡ true → is_white m ≡ false → (b == m) ≡ false
white-other b m w e = go (b == m) refl
  where
    go : (x : Bool) → (b == m) ≡ x → x ≡ false
    go true same = let bad = ap is_white (eqb-true b m same) in cc
    go false other = refl

-- Lines.

-- runs of cells, each as one of bytes
abbrev cell_run : Run → celled.Run
cell_run Apart = celled.Apart
cell_run Marks = celled.Marks
cell_run White = celled.White

abbrev cell_runs : Name → ℕ → Run → List Cell → Point → List Event
cell_runs name m run cells p = celled.mark_runs name (cell_run run) m cells p

abbrev byte_runs : Name → ℕ → Run → List ℕ → Point → List Event
byte_runs name m run bytes p = mark_runs name run m bytes p

-- before whitespace another run ends
abbrev mark_turns : Name → Run → Point → List Event → List Event
mark_turns name Apart p es = enter n.SpaceOrTab p ∷ es
mark_turns name Marks p es = exit name p ∷ enter n.SpaceOrTab p ∷ es
mark_turns name White p es = es

marks-are : (name : Name) (m : ℕ) → is_white m ≡ false →
    AreSpread Run White (mark_turns name) (cell_runs name m) (byte_runs name m)
marks-are name m dark = record {
  none = none;
  byte = byte;
  column = column;
  tab = tab;
  more = λ b at line cs q e. rw (white-other b m e dark) refl;
}
  where
    none : (run : Run) (p : Point) → cell_runs name m run [] p ≡ byte_runs name m run [] p
    none Apart p = refl
    none _ p = refl

    byte : (run : Run) (b : ℕ) (line : Line) (cs : List Cell) (bs : List ℕ) (p : Point) →
        ((r : Run) → cell_runs name m r cs (past_byte b p) ≡ byte_runs name m r bs (past_byte b p)) →
        cell_runs name m run (cell b (past_byte b p) line ∷ cs) p ≡ byte_runs name m run (b ∷ bs) p
    byte Apart b line cs bs p more =
        ap₂ (λ (xs zs : List Event). cond (b == m) (enter name p ∷ xs) (enter n.SpaceOrTab p ∷ zs)) (more Marks)
        (more White)
    byte Marks b line cs bs p more =
        ap₂ (λ (xs zs : List Event). cond (b == m) xs (exit name p ∷ enter n.SpaceOrTab p ∷ zs)) (more Marks)
        (more White)
    byte White b line cs bs p more =
        ap₂ (λ (xs zs : List Event). cond (b == m) (exit n.SpaceOrTab p ∷ enter name p ∷ xs) zs) (more Marks)
        (more White)

    column : (run : Run) (at : Point) (line : Line) (cs : List Cell) (p : Point) →
        cell_runs name m run (cell 9 at line ∷ cs) p ≡ mark_turns name run p (cell_runs name m White cs at)
    column Apart at line cs p = rw (tab-other m dark) refl
    column _ at line cs p = rw (tab-other m dark) refl

    tab : (run : Run) (bs : List ℕ) (p : Point) →
        byte_runs name m run (9 ∷ bs) p ≡ mark_turns name run p (byte_runs name m White bs (past_byte 9 p))
    tab Apart bs p = rw (tab-other m dark) refl
    tab _ bs p = rw (tab-other m dark) refl

-- those of the rest of a line
rest-runs : (name : Name) (line : Line) (m : ℕ) (r : Rest) (p : Point) (stop : List Cell) → is_white m ≡ false →
    NoEnding r.bytes → Stops stop → 1 ≤ p.column → Cut r.spaces p →
    celled.mark_runs name celled.Apart m (line_cells (rest_cells line r p ++ stop)) p ≡
    mark_runs name Apart m (rest_line r) p
rest-runs name line m r p stop dark h k one cut =
    rest-same (List Event) (λ (l : List Cell). celled.mark_runs name celled.Apart m (line_cells l) p) line same r p stop
    one cut
    ∙ ap (λ (l : List Cell). celled.mark_runs name celled.Apart m l p)
    (spread-line line (rest_line r) p stop (rest-no_ending r h) k)
    ∙ bytes-run Run White (mark_turns name) (cell_runs name m) (byte_runs name m) (marks-are name m dark) Apart line
    (rest_line r) p one
  where
    tab : (9 == m) ≡ false
    tab = tab-other m dark

    space : (32 == m) ≡ false
    space = space-other m dark

    same : (at : Point) (cs : List Cell) →
        celled.mark_runs name celled.Apart m (line_cells (cell 32 at line ∷ cs)) p ≡
        celled.mark_runs name celled.Apart m (line_cells (cell 9 at line ∷ cs)) p
    same at cs = rw (tab, space) refl

-- The indent is the first run.

-- a marker is first
abbrev Marked : ℕ → List Cell → Type 0
Marked m [] = ⊥
Marked m (c ∷ cs) = (c.byte == m) ≡ true

-- before it whitespace ends
marked-white : (name : Name) (m : ℕ) (c : Cell) (cs : List Cell) (p : Point) → IsMark m → (c.byte == m) ≡ true →
    celled.mark_runs name celled.White m (line_cells (c ∷ cs)) p ≡
    exit n.SpaceOrTab p ∷ celled.mark_runs name celled.Apart m (line_cells (c ∷ cs)) p
marked-white name m c cs p mark e = rw (no_ending c.byte e, e) refl
  where
    no_ending : (b : ℕ) → (b == m) ≡ true → (b == 10) ≡ false
    no_ending b e = subst (λ (c : ℕ). (c == 10) ≡ false) (sym (eqb-true b m e)) mark.no_ending

-- so it is after whitespace
white-run : (name : Name) (m room : ℕ) (cells : List Cell) (p : Point) → IsMark m → Marked m (white_rest room cells) →
    celled.mark_runs name celled.White m (line_cells cells) p ≡
    exit n.SpaceOrTab (white_end room cells p)
    ∷ celled.mark_runs name celled.Apart m (line_cells (white_rest room cells)) (white_end room cells p)
white-run name m room [] p mark h = absurd h
white-run name m zero (c ∷ cs) p mark h = marked-white name m c cs p mark h
white-run name m (suc room) (c ∷ cs) p mark h = go (is_white c.byte) refl h (white-run name m room cs c.after mark)
  where
    Done : List Cell → Point → Type 0
    Done left q =
        celled.mark_runs name celled.White m (line_cells (c ∷ cs)) p ≡
        exit n.SpaceOrTab q ∷ celled.mark_runs name celled.Apart m (line_cells left) q

    go : (x : Bool) → is_white c.byte ≡ x → Marked m (cond x (white_rest room cs) (c ∷ cs)) →
        (Marked m (white_rest room cs) →
        celled.mark_runs name celled.White m (line_cells cs) c.after ≡
        exit n.SpaceOrTab (white_end room cs c.after)
        ∷ celled.mark_runs name celled.Apart m (line_cells (white_rest room cs)) (white_end room cs c.after)) →
        Done (cond x (white_rest room cs) (c ∷ cs)) (cond x (white_end room cs c.after) p)
    go true e h more = rw (white-no_ending c.byte e, white-other c.byte m e mark.dark) (more h)
    go false e h more = marked-white name m c cs p mark h

-- the indent and the runs after it are all runs of the line
indent-runs : (name : Name) (m room : ℕ) (cells : List Cell) (p : Point) → 1 ≤ room → IsMark m →
    Marked m (white_rest room cells) →
    cond (begins_white cells) (pair n.SpaceOrTab p (white_end room cells p)) []
    ++ celled.mark_runs name celled.Apart m (line_cells (white_rest room cells)) (white_end room cells p) ≡
    celled.mark_runs name celled.Apart m (line_cells cells) p
indent-runs name m zero cells p some mark h = absurd (omega arith)
indent-runs name m (suc room) [] p some mark h = absurd h
indent-runs name m (suc room) (c ∷ cs) p some mark h = go (is_white c.byte) refl h
  where
    go : (x : Bool) → is_white c.byte ≡ x → Marked m (cond x (white_rest room cs) (c ∷ cs)) →
        cond x (pair n.SpaceOrTab p (cond x (white_end room cs c.after) p)) []
        ++ celled.mark_runs name celled.Apart m (line_cells (cond x (white_rest room cs) (c ∷ cs)))
        (cond x (white_end room cs c.after) p) ≡ celled.mark_runs name celled.Apart m (line_cells (c ∷ cs)) p
    go true e h =
        rw (white-no_ending c.byte e, white-other c.byte m e mark.dark)
        (ap (λ (es : List Event). enter n.SpaceOrTab p ∷ es) (sym (white-run name m room cs c.after mark h)))
    go false e h = refl

-- The marker.

-- it is there if the line has a byte
cells-marked : (cells : List Cell) (m : ℕ) → (m == 0) ≡ false → first_byte (line_bytes cells) ≡ m →
    (first_cell cells ≡ m) × Marked m cells
cells-marked [] m some is = none m some is
  where
    none : (m : ℕ) → (m == 0) ≡ false → 0 ≡ m → (0 ≡ m) × ⊥
    none m some is = let bad : (m == 0) ≡ true = eq-eqb m 0 (sym is) in absurd (cc)
cells-marked (c ∷ cs) m some is = go (c.byte == 10) is
  where
    go : (x : Bool) → first_byte (bytes_of (cond x [] (c ∷ line_cells cs))) ≡ m →
        (c.byte ≡ m) × ((c.byte == m) ≡ true)
    go true is = let bad : (m == 0) ≡ true = eq-eqb m 0 (sym is) in absurd (cc)
    go false is = (is, eq-eqb c.byte m is)

-- the first column of a tab
tab-first : (line : Line) (k byte : ℕ) (p : Point) (ys : List Cell) →
    first_byte (bytes_of (tab_cells line k byte p ++ ys)) ≡ byte
tab-first line zero byte p ys = refl
tab-first line (suc k) byte p ys = refl

-- the first byte of a line is that of its cells
pub spread-first : (line : Line) (bytes : List ℕ) (p : Point) →
    first_byte (bytes_of (spread line bytes p)) ≡ first_byte bytes
spread-first line [] p = refl
spread-first line (b ∷ bs) p = go (b == 9) refl
  where
    go : (t : Bool) → (b == 9) ≡ t → first_byte (bytes_of (spread line (b ∷ bs) p)) ≡ b
    go true e =
        ap
        (λ (t : Bool).
        first_byte
        (bytes_of
        (cond t (tab_cells line (columns_more p) 9 p) (cell b (past_byte b p) line ∷ [])
        ++ spread line bs (past_byte b p)))) e
        ∙ tab-first line (columns_more p) 9 p (spread line bs (past_byte b p))
        ∙ sym (eqb-true b 9 e)
    go false e =
        ap
        (λ (t : Bool).
        first_byte
        (bytes_of
        (cond t (tab_cells line (columns_more p) 9 p) (cell b (past_byte b p) line ∷ [])
        ++ spread line bs (past_byte b p)))) e

-- A whole line, after a small indent: by its cells the runs are those by its bytes.
pub line-adds : (name marks : Name) (options : ParseOptions) (said : Line) (text following : List ℕ)
    (r : Rest) (p : Point)
    (stop : List Cell) →
    RestAt text following r p → NoEnding r.bytes → Stops stop → length (rest_cells said r p ++ stop) < 2 ^ 63 →
    has_small_indent options r ≡ true → IsMark (first_byte (trim_start r.bytes)) →
    around name p (line_end (rest_cells said r p ++ stop) p)
    (cond (begins_white (rest_cells said r p ++ stop))
    (pair n.SpaceOrTab p (white_end (small_indent options) (rest_cells said r p ++ stop) p)) []
    ++ celled.mark_runs marks celled.Apart
    (first_cell (white_rest (small_indent options) (rest_cells said r p ++ stop)))
    (line_cells (white_rest (small_indent options) (rest_cells said r p ++ stop)))
    (white_end (small_indent options) (rest_cells said r p ++ stop) p)) ≡
    around name p (past_text (rest_line r) p)
    (mark_runs marks Apart (first_byte (trim_start (rest_line r))) (rest_line r) p)
line-adds name marks options said text following r p stop is h k short small mark =
    ap₂ (λ (q : Point) (es : List Event). around name p q es) (rest-line_end said r p stop h k one is.cut) inside
  where
    line : List Cell
    line = rest_cells said r p ++ stop

    room : ℕ
    room = small_indent options

    left : List Cell
    left = white_rest (small_indent options) (rest_cells said r p ++ stop)

    q : Point
    q = white_end (small_indent options) (rest_cells said r p ++ stop) p

    m : ℕ
    m = first_byte (trim_start r.bytes)

    one : 1 ≤ p.column
    one = let column = is.column in omega arith

    begins : (first_cell left ≡ m) × Marked m left
    begins =
        cells-marked left m mark.some
        (ap first_byte (small-indented options said text following r p stop is h k short small).bytes
        ∙ spread-first said (trim_start r.bytes) q)

    inside :
        cond (begins_white line) (pair n.SpaceOrTab p q) []
        ++ celled.mark_runs marks celled.Apart (first_cell left) (line_cells left) q ≡
        mark_runs marks Apart (first_byte (trim_start (rest_line r))) (rest_line r) p
    inside =
        ap
        (λ (c : ℕ).
        cond (begins_white line) (pair n.SpaceOrTab p q) []
        ++ celled.mark_runs marks celled.Apart c (line_cells left) q)
        begins.0
        ∙ indent-runs marks m room line p (small-some options) mark begins.1
        ∙ rest-runs marks said m r p stop mark.dark h k one is.cut
        ∙ ap (λ (l : List ℕ). mark_runs marks Apart (first_byte l) (rest_line r) p) (sym (rest-trim r))
