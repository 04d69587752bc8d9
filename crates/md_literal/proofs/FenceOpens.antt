-- Fenced code and math open by the cells of a line where they do by the definition of lines, and are held as that says.
use Rattle.std.proofs.Common.{◌≡◌, ℕ, zero, suc, ◌-◌, ◌^◌, ◌<◌, ◌≤◌, Bool, true, false, cond, ◌&&◌, ◌||◌, nat_lt}
use Rattle.std.proofs.Common.{List, [], ◌∷◌, ◌++◌, length, take, drop, Option, Some, None, refl, sym, ◌∙◌, ap, arith}
use Rattle.std.proofs.Common.{append_assoc, subst}
use Rattle.std.specs.Prelude.{not, nat_le, ◌==◌}
use Rattle.std.specs.List.{list_any, prefix_len}
use Rattle.std.proofs.lemmas.Bool.{eqb-true}
use Rattle.std.proofs.lemmas.Bool.Decides.{nat_tests}
use Rattle.md_engine.specs.declared.configuration.ParseOptions.{ParseOptions}
use Rattle.md_engine.specs.declared.event.Point.{Point}
use Rattle.md_engine.specs.declared.tokenizer.Line.{Line}
use Rattle.md_engine.specs.declared.tokenizer.held_leaf.HeldLeaf.{HeldLeaf}
use Rattle.md_engine.specs.declared.tokenizer.held_leaf.HeldLeaf.TheVariants as held_leaf
use Rattle.md_engine.specs.Meaning.{Cell}
use Rattle.md_engine.specs.Place.{is_ending}
use Rattle.md_meaning.specs.Leaves.{LeafResult, Opened, allows, fence_at, fence_from, is_fence_marker, least_size}
use Rattle.md_meaning.specs.Leaves.{opening}
use Rattle.md_meaning.specs.Rest.{Rest, has_small_indent, indent, is_white, run_len, trim_start}
use Rattle.md_meaning.specs.State.{OpenFence}
use Rattle.md_meaning.proofs.TextsLemmas.{NoEnding, no_ending-drop}
use Rattle.md_literal.specs.Fence.{is_on, is_refused, may_begin}
use Rattle.md_literal.specs.FenceLine.{fence_begins, fence_opened, is_opening, marker_at}
use Rattle.md_leaves.specs.CellRuns.{is_line, run_has, run_rest, run_size}
use Rattle.md_literal.proofs.FenceCells.{first-spread, marker-dark, marker-ten, not-lt, run-walk, stop-first}
use Rattle.md_literal.proofs.FenceFurther.{small-following}
use Rattle.md_literal.proofs.FenceOpened.{marker-may}
use Rattle.md_literal.proofs.FenceMeaning.{run-has-none}
use Rattle.md_events.specs.Ahead.{begins_white, white_end, white_rest}
use Rattle.md_events.specs.Events.Places.{past_byte, past_text}
use Rattle.md_events.specs.Look.{first_seen}
use Rattle.md_events.specs.Spaces.{small_indent}
use Rattle.md_events.proofs.FeedLines.{Stops, cell, columns_more, next_column, spread, tab_cells}
use Rattle.md_events.proofs.LostColumns.{lose-walk}
use Rattle.md_events.proofs.RestCells.{RestAt, indent-over, rest_cells}
use Rattle.md_events.proofs.RestLines.{large-room}

-- A block that opens, by the cells of a line and by the definition: with the same marker, as many of it, and an indent
-- of as many columns. It is marked so that further lines agree.
abbrev pub HeldAs : Option HeldLeaf → Option LeafResult → Type 0
HeldAs None None = Unit {0}
HeldAs (Some leaf) (Some (Opened (OpenFence o lines))) =
    (leaf ≡ held_leaf.Fence o.marker o.size o.indent) × (lines ≡ []) × (may_begin o.marker ≡ true) × (1 ≤ o.size)
HeldAs _ _ = ⊥

-- What may not be after the sequence.

tab-fine : (m b : ℕ) → may_begin m ≡ true → is_white b ≡ true → (b == m) ≡ false
tab-fine m b is e = by (b == m) refl
  where
    by : (x : Bool) → (b == m) ≡ x → x ≡ false
    by true f = let bad : true ≡ false = sym e ∙ marker-dark m b is f in cc
    by false f = refl

tab-proceeds : (b : ℕ) → is_white b ≡ true → is_line b ≡ true
tab-proceeds b e = grind (arith, nat_tests)

over-tab : (m : ℕ) (line : Line) (n b : ℕ) (p : Point) (cs : List Cell) → may_begin m ≡ true → is_white b ≡ true →
    run_has (is_refused m) is_line (tab_cells line n b p ++ cs) ≡ run_has (is_refused m) is_line cs
over-tab m line zero b p cs is e = rw (tab-proceeds b e, tab-fine m b is e) refl
over-tab m line (suc n) b p cs is e =
    rw (tab-proceeds b e, tab-fine m b is e) (over-tab m line n 32 (next_column p) cs is refl)

has-spread : (m : ℕ) (line : Line) (bytes : List ℕ) (q : Point) (stop : List Cell) → may_begin m ≡ true →
    NoEnding bytes → Stops stop →
    run_has (is_refused m) is_line (spread line bytes q ++ stop) ≡
    (list_any (λ b. b == m) bytes && not (m == 126))
has-spread m line [] q stop is h k = run-has-none (is_refused m) is_line stop (stop-first is_line refl stop k)
has-spread m line (b ∷ bs) q stop is h k = go (b == 9) refl (has-spread m line bs (past_byte b q) stop is h.1 k)
  where
    left : List Cell
    left = spread line bs (past_byte b q) ++ stop

    tilde : Bool
    tilde = m == 126

    all : Bool
    all = list_any (λ c. c == m) bs

    not_ten : (c : ℕ) → is_ending c ≡ false → is_line c ≡ true
    not_ten c e = grind (arith, nat_tests)

    nine : (c : ℕ) → (c == 9) ≡ true → is_white c ≡ true
    nine c e = grind (arith, nat_tests)

    one : (x y z : Bool) → cond (x && not y) true (z && not y) ≡ ((x || z) && not y)
    one true true true = refl
    one true true false = refl
    one true false z = refl
    one false y z = refl

    go : (t : Bool) → (b == 9) ≡ t →
        run_has (is_refused m) is_line left ≡ (all && not tilde) →
        run_has (is_refused m) is_line
        ((cond t (tab_cells line (columns_more q) 9 q) (cell b (past_byte b q) line ∷ [])
        ++ spread line bs (past_byte b q)) ++ stop) ≡
        (((b == m) || all) && not tilde)
    go true e next =
        ap (run_has (is_refused m) is_line)
        (append_assoc (tab_cells line (columns_more q) 9 q) (spread line bs (past_byte b q)) stop)
        ∙ over-tab m line (columns_more q) 9 q left is refl ∙ next
        ∙ ap (λ (x : Bool). (x || all) && not tilde) (sym (tab-fine m b is (nine b e)))
    go false e next =
        rw (not_ten b h.0)
        (ap (cond ((b == m) && not tilde) true) next ∙ one (b == m) tilde all)

allowed : (m : ℕ) (bytes : List ℕ) → not (list_any (λ b. b == m) bytes && not (m == 126)) ≡ allows m bytes
allowed m bytes = go (list_any (λ b. b == m) bytes) (m == 126)
  where
    go : (x y : Bool) → not (x && not y) ≡ (y || not x)
    go true true = refl
    go true false = refl
    go false true = refl
    go false false = refl

opening-spread : (m : ℕ) (line : Line) (bytes : List ℕ) (q : Point) (stop : List Cell) → may_begin m ≡ true →
    NoEnding bytes → Stops stop →
    (run_size (λ b. b == m) (spread line bytes q ++ stop) ≡ run_len m bytes) ×
    (is_opening m (spread line bytes q ++ stop) ≡
    (nat_le (least_size m) (run_len m bytes) && allows m (drop (run_len m bytes) bytes)))
opening-spread m line bytes q stop is h k =
    let run = run-walk (λ b. b == m) (λ b e. marker-dark m b is e) (marker-ten m is) line bytes q stop k in
    let n = run_len m bytes in
    let after = drop n bytes in
    let cells = spread line bytes q ++ stop in (
      run.size,
      ap
          (λ (s : ℕ).
          not (nat_lt s (least_size m)) && not (run_has (is_refused m) is_line (run_rest (λ b. b == m) cells)))
          run.size
          ∙ ap (λ (x : Bool). x && not (run_has (is_refused m) is_line (run_rest (λ b. b == m) cells)))
          (not-lt n (least_size m))
          ∙ ap (λ (l : List Cell). nat_le (least_size m) n && not (run_has (is_refused m) is_line l)) run.rest
          ∙ ap (λ (x : Bool). nat_le (least_size m) n && not x)
          (has-spread m line after (past_text (take n bytes) q) stop is (no_ending-drop n bytes h) k)
          ∙ ap (λ (x : Bool). nat_le (least_size m) n && x) (allowed m after),
    )

-- The marker.

marker_of : ParseOptions → Option ℕ → Option ℕ
marker_of options None = None
marker_of options (Some b) = cond (is_fence_marker options b) (Some b) None

marker-first : (options : ParseOptions) (cells : List Cell) →
    marker_at options cells ≡ marker_of options (first_seen cells)
unfolding marker_of
marker-first options [] = refl
marker-first options (c ∷ cs) = refl

pub marker-no : (options : ParseOptions) (b : ℕ) → may_begin b ≡ false → is_fence_marker options b ≡ false
marker-no options b e = go (is_fence_marker options b) refl
  where
    go : (x : Bool) → is_fence_marker options b ≡ x → x ≡ false
    go true f = let bad : true ≡ false = sym (marker-may options b f) ∙ e in cc
    go false f = refl

marker-on : (options : ParseOptions) (m : ℕ) → is_fence_marker options m ≡ true → is_on options ≡ true
marker-on options m e = go (m == 36) options.constructs.code_fenced options.constructs.math_flow e
  where
    go : (x c d : Bool) → cond x d (c && ((m == 96) || (m == 126))) ≡ true → c || d ≡ true
    go true true d e = refl
    go true false d e = e
    go false true d e = refl
    go false false d e = cc

stop-none : (options : ParseOptions) (stop : List Cell) → Stops stop → marker_at options stop ≡ None
stop-none options [] h = refl
stop-none options (c ∷ cs) h =
    ap (λ (b : ℕ). cond (is_fence_marker options b) (Some b) None) (eqb-true c.byte 10 h)
    ∙ ap (λ (x : Bool). cond x (Some 10) None) (marker-no options 10 refl)

white-none : (options : ParseOptions) (cells : List Cell) → begins_white cells ≡ true → marker_at options cells ≡ None
white-none options [] e = cc
white-none options (c ∷ cs) e = go (may_begin c.byte) refl
  where
    dark : (b : ℕ) → is_white b ≡ true → may_begin b ≡ true → ⊥
    dark b e f = grind (arith, nat_tests)

    go : (x : Bool) → may_begin c.byte ≡ x → cond (is_fence_marker options c.byte) (Some c.byte) None ≡ None
    go true f = absurd (dark c.byte e f)
    go false f = ap (λ (x : Bool). cond x (Some c.byte) None) (marker-no options c.byte f)

-- After the indent.

-- the block that opens there, by the marker that is there
opened_by : List Cell → ℕ → Option ℕ → Option HeldLeaf
opened_by cells columns None = None
opened_by cells columns (Some m) =
    cond (is_opening m cells) (Some (held_leaf.Fence m (run_size (λ b. b == m) cells) columns)) None

opened-is : (options : ParseOptions) (cells : List Cell) (p : Point) (o : Option ℕ) →
    fence_opened options cells p o ≡
    opened_by (white_rest (small_indent options) cells) ((white_end (small_indent options) cells p).column - p.column) o
unfolding opened_by
opened-is options cells p None = refl
opened-is options cells p (Some m) = refl

spread-agrees : (options : ParseOptions) (line : Line) (bytes : List ℕ) (q : Point) (stop : List Cell) (columns : ℕ) →
    NoEnding bytes → Stops stop →
    HeldAs
    (cond (is_on options)
    (opened_by (spread line bytes q ++ stop) columns (marker_at options (spread line bytes q ++ stop))) None)
    (fence_from options columns bytes)
unfolding opened_by marker_of
spread-agrees options line [] q stop columns h k =
    rw (stop-none options stop k) (go (is_on options))
  where
    go : (x : Bool) → HeldAs (cond x None None) None
    go true = tt
    go false = tt
spread-agrees options line (b ∷ bs) q stop columns h k =
    rw (marker-first options (spread line (b ∷ bs) q ++ stop), first-spread line b bs q stop)
    (go (is_fence_marker options b) refl)
  where
    cells : List Cell
    cells = spread line (b ∷ bs) q ++ stop

    size : ℕ
    size = run_len b (b ∷ bs)

    some : nat_le (least_size b) size ≡ true → 1 ≤ size
    some e = by (b == 36) e
      where
        by : (x : Bool) → nat_le (cond x 2 3) size ≡ true → 1 ≤ size
        by true f = grind (arith, nat_tests)
        by false f = grind (arith, nat_tests)

    go : (x : Bool) → is_fence_marker options b ≡ x →
        HeldAs (cond (is_on options) (opened_by cells columns (cond x (Some b) None)) None)
        (fence_from options columns (b ∷ bs))
    go true e =
        let may = marker-may options b e in
        let opens = opening-spread b line (b ∷ bs) q stop may h k in
        rw (marker-on options b e, e, opens.1, opens.0)
        (by (nat_le (least_size b) size) refl (allows b (drop size (b ∷ bs))) may)
      where
        held : Bool → Option HeldLeaf
        held x = cond x (Some (held_leaf.Fence b size columns)) None

        became : Bool → Option LeafResult
        became x = cond x (Some (Opened (OpenFence (opening b size columns (trim_start (drop size (b ∷ bs)))) []))) None

        by : (x : Bool) → nat_le (least_size b) size ≡ x → (y : Bool) → may_begin b ≡ true →
            HeldAs (held (x && y)) (became (x && y))
        by true e true may = (refl, refl, may, some e)
        by true e false may = tt
        by false e y may = tt
    go false e = rw e (none (is_on options))
      where
        none : (x : Bool) → HeldAs (cond x None None) None
        none true = tt
        none false = tt

-- The whole line.

pub opens-agrees : (options : ParseOptions) (line : Line) (text following : List ℕ) (r : Rest) (p : Point)
    (stop : List Cell) →
    RestAt text following r p → NoEnding r.bytes → Stops stop → length (rest_cells line r p ++ stop) < 2 ^ 63 →
    HeldAs (fence_begins options (rest_cells line r p ++ stop) p) (fence_at options r)
unfolding fence_at
opens-agrees options line text following r p stop is h k short = go (has_small_indent options r) refl
  where
    cells : List Cell
    cells = rest_cells line r p ++ stop

    room : ℕ
    room = small_indent options

    bytes : List ℕ
    bytes = trim_start r.bytes

    Agrees : List Cell → ℕ → Type 0
    Agrees l columns =
        HeldAs (cond (is_on options) (opened_by l columns (marker_at options l)) None)
        (fence_from options (indent r) bytes)

    go : (x : Bool) → has_small_indent options r ≡ x →
        HeldAs
        (cond (is_on options) (fence_opened options cells p (marker_at options (white_rest room cells))) None)
        (cond x (fence_from options (indent r) bytes) None)
    go true small =
        let taken = small-following options line text following r p stop is k short small in
        let q = white_end room cells p in
        let lost = lose-walk line text following (indent r) r p stop is k in
        let columns : q.column - p.column ≡ indent r = omega
        (arith, lost.column, lost.all (omega arith), taken.valid.column, is.column) in
        rw (opened-is options cells p (marker_at options (white_rest room cells)))
        (subst (λ (n : ℕ). Agrees (white_rest room cells) n) (sym columns)
        (subst (λ (l : List Cell). Agrees l (indent r)) (sym taken.cells)
        (spread-agrees options line bytes q stop (indent r)
        (no_ending-drop (prefix_len is_white r.bytes) r.bytes h) k)))
    go false large =
        rw (white-none options (white_rest room cells)
        (indent-over line text following room r p stop is (large-room options r large)))
        (none (is_on options))
      where
        none : (x : Bool) → HeldAs (cond x None None) None
        none true = tt
        none false = tt
