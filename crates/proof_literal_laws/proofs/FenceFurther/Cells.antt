-- A further line of fenced code or math by its cells: it adds what its bytes say, and holds what the line definition
-- does.
use Rattle.std.proofs.Common.{◌≡◌, ℕ, zero, suc, ◌^◌, ◌<◌, ◌≤◌, Bool, true, false, cond, ◌&&◌, List, [], ◌∷◌}
use Rattle.std.proofs.Common.{◌++◌, length, drop, take, refl, sym, ◌∙◌, ap, ap₂, arith}
use Rattle.std.specs.Prelude.{◌==◌, nat_le, nat_lt, None}
use Rattle.std.proofs.lemmas.Bool.{and_parts}
use Rattle.std.proofs.lemmas.Bool.Decides.{nat_tests}
use Rattle.std.proofs.lemmas.List.{length-append}
use Rattle.md_engine.specs.declared.configuration.ParseOptions.{ParseOptions}
use Rattle.md_engine.specs.declared.event.Event.{Event}
use Rattle.md_engine.specs.declared.event.Name.TheVariants as n
use Rattle.md_engine.specs.declared.event.Point.{Point}
use Rattle.md_engine.specs.declared.tokenizer.Line.{Line}
use Rattle.md_engine.specs.declared.tokenizer.held_leaf.HeldLeaf.{HeldLeaf}
use Rattle.md_engine.specs.declared.tokenizer.held_leaf.HeldLeaf.TheVariants as held_leaf
use Rattle.md_engine.specs.Meaning.{Cell}
use Rattle.md_meaning.specs.Leaves.{closes}
use Rattle.md_meaning.specs.Rest.{Rest, cut_tab, has_small_indent, indent, is_blank, is_white, lose, run_len}
use Rattle.md_meaning.specs.Rest.{trim_start}
use Rattle.md_meaning.proofs.TextsLemmas.{NoEnding}
use Rattle.md_literal.specs.Fence.{block_name, chunk_name, fence_name, held_indent, held_marker, held_size, may_begin}
use Rattle.md_literal.specs.Fence.{sequence_name, is_open as is_fence}
use Rattle.md_literal.specs.FenceLine.{chunk_events, closes_here, closing_end, closing_events, further_end}
use Rattle.md_literal.specs.FenceLine.{further_inside}
use Rattle.md_literal.specs.FenceLine.{spaces}
use Rattle.md_leaves.specs.CellRuns.{is_line, run_end, run_rest}
use Rattle.md_leaves.specs.Further.{further_link}
use Rattle.md_literal.proofs.FenceCells.{RunOf, first-spread, marker-dark, marker-ten, run-walk}
use Rattle.md_literal.proofs.FenceFurther.{chunk-agrees, closes-agrees, further-agrees, is_nothing, left_part}
use Rattle.md_events.proofs.LostColumns.{lose-walk}
use Rattle.md_events.proofs.RestLines.{small-room}
use Rattle.md_literal.proofs.FenceFurther.{small-following}
use Rattle.md_events.specs.Ahead.{begins_white, white_end, white_rest}
use Rattle.md_events.specs.Events.Nested.{enter, enter_link, exit, pair}
use Rattle.md_events.specs.Events.Places.{past_text}
use Rattle.md_events.specs.Spaces.{any_size, small_indent}
use Rattle.md_events.proofs.FeedLines.{Stops, spread, stops-white}
use Rattle.md_events.proofs.RestCells.{RestAt, column-first, indent-length, lose-no_ending}
use Rattle.md_events.proofs.RestCells.{past_rest, rest_cells, without_first}
use Rattle.proof_frame.specs.RestLine.{rest_line}
use Rattle.proof_literal_laws.specs.Leaf.FenceFurther.{chunk_line, closing_line, closing_part, fence_further}
use Rattle.proof_literal_laws.specs.Leaf.FenceFurther.{further_parts, opening_of}
use Rattle.proof_frame.specs.LineColumns.{columns_part, next_point, part_over, past_columns}
use Rattle.proof_frame.proofs.IndentRemoved.Columns.{columns-end, past-line, rest-again, first-next, rest}
use Rattle.proof_literal_laws.proofs.IndentRemoved.Columns.{columns-part}
use Rattle.proof_literal_laws.proofs.FenceFurther.Trial.{fence-marker, fence-size}
use Rattle.proof_literal_laws.proofs.Fence.White.{first-white}

-- What is held is a fence, with one marker at least.

pub fence-some : (on : HeldLeaf) → is_fence on ≡ true → 1 ≤ held_size on
fence-some on e = by (held_marker on == 36) (fence-size on e)
  where
    by : (x : Bool) → nat_le (cond x 2 3) (held_size on) ≡ true → 1 ≤ held_size on
    by true f = grind (arith, nat_tests)
    by false f = grind (arith, nat_tests)

-- Columns.

-- more of them than there are
past-all : (said : Line) (text following : List ℕ) (m room : ℕ) (r : Rest) (p : Point) → RestAt text following r p →
    indent r ≡ m → m ≤ room → past_columns room r p ≡ past_columns m r p
past-all said text following zero zero r p is e le = refl
past-all said text following zero (suc room) r p is e le =
    let none : (indent r == 0) ≡ true = grind (arith, nat_tests) in
    ap (λ (x : Bool). cond x p (past_columns room (without_first r) (next_point (without_first r) p))) none
past-all said text following (suc m) zero r p is e le = absurd (omega (arith, le))
past-all said text following (suc m) (suc room) r p is e le =
    let first = column-first said text following r p is (omega (arith, e)) in
    let next = first-next said text following r p is (omega (arith, e)) first in
    let left = without_first r in
    let columns = first.columns in
    ap (λ (x : Point). cond (indent r == 0) p (past_columns room left x)) (sym next)
    ∙ ap (λ (x : Point). cond (indent r == 0) p x)
    (past-all said text following m room left first.at first.valid (omega (arith, e, columns)) (omega (arith, le)))
    ∙ ap (λ (x : Point). cond (indent r == 0) p (past_columns m left x)) next

all-part : (room : ℕ) (r : Rest) (p : Point) → indent r ≤ room → past_columns room r p ≡ past_columns (indent r) r p →
    columns_part room r p ≡ columns_part (indent r) r p
all-part room r p le e =
    ap (λ (x : Point). cond (nat_lt 0 room && nat_lt 0 (indent r)) (pair n.SpaceOrTab p x) []) e
    ∙ ap (λ (x : Bool). cond x (pair n.SpaceOrTab p (past_columns (indent r) r p)) []) (go (nat_lt 0 (indent r)) refl)
  where
    go : (x : Bool) → nat_lt 0 (indent r) ≡ x →
        (nat_lt 0 room && nat_lt 0 (indent r)) ≡ (nat_lt 0 (indent r) && nat_lt 0 (indent r))
    go true f = let some : nat_lt 0 room ≡ true = grind (arith, nat_tests) in rw (some, f) refl
    go false f = rw f (none (nat_lt 0 room))
      where
        none : (x : Bool) → (x && false) ≡ false
        none true = refl
        none false = refl

-- What is left of the line.

left-part : (m : ℕ) (r : Rest) (p q : Point) → past_rest r p ≡ q →
    left_part m r p ≡ part_over (chunk_name m) (rest_line r) p q
left-part m r p q e =
    ap (λ (x : Point). cond (is_nothing r) [] (pair (chunk_name m) p x)) e ∙ go r.spaces r.bytes
  where
    go : (spaces : ℕ) (bytes : List ℕ) →
        cond (is_nothing (rest r.column spaces bytes)) [] (pair (chunk_name m) p q) ≡
        part_over (chunk_name m) (cut_tab spaces ++ bytes) p q
    go zero [] = refl
    go zero (b ∷ bs) = refl
    go (suc k) bytes = refl

-- The line by its cells is the line by its rest.

-- a closing fence, up to where the line ends
closing-same : (m : ℕ) (said : Line) (bytes : List ℕ) (at q : Point) (stop : List Cell) → may_begin m ≡ true →
    is_blank (drop (run_len m bytes) bytes) ≡ true → Stops stop →
    closing_end m (spread said bytes at ++ stop) at ≡ q →
    closing_events m (spread said bytes at ++ stop) at ≡ closing_part m bytes at q
closing-same m said bytes at q stop is blank k ends =
    ap
    (λ (x : Point).
    parts (run_end (λ b. b == m) cells at) (begins_white (run_rest (λ b. b == m) cells)) x) ends
    ∙ ap (λ (x : Point). parts x (begins_white (run_rest (λ b. b == m) cells)) q) run.end
    ∙ ap (λ (l : List Cell). parts end (begins_white l) q) run.rest
    ∙ go (drop (run_len m bytes) bytes) blank
  where
    cells : List Cell
    cells = spread said bytes at ++ stop

    end : Point
    end = past_text (take (run_len m bytes) bytes) at

    run : RunOf (λ b. b == m) said bytes at stop
    run = run-walk (λ b. b == m) (λ b e. marker-dark m b is e) (marker-ten m is) said bytes at stop k

    parts : Point → Bool → Point → List Event
    parts x white y =
        enter (fence_name m) at ∷ pair (sequence_name m) at x
        ++ cond (nat_lt 0 any_size && white) (pair n.SpaceOrTab x y) [] ++ exit (fence_name m) y ∷ []

    go : (left : List ℕ) → is_blank left ≡ true →
        parts end (begins_white (spread said left end ++ stop)) q ≡
        (enter (fence_name m) at ∷ (pair (sequence_name m) at end ++ part_over n.SpaceOrTab left end q)
        ++ exit (fence_name m) q ∷ [])
    go [] h = rw (stops-white stop k) refl
    go (b ∷ bs) h =
        let white : begins_white (spread said (b ∷ bs) end ++ stop) ≡ true =
        first-white (spread said (b ∷ bs) end ++ stop) b (first-spread said b bs end stop)
        ∙ (and_parts (is_white b) (is_blank bs) h).0 in
        ap (λ (x : Bool). parts end x q) white

pub inside-same : (options : ParseOptions) (on : HeldLeaf) (said : Line) (text following : List ℕ)
    (r : Rest) (p : Point)
    (stop : List Cell) →
    is_fence on ≡ true → RestAt text following r p → NoEnding r.bytes → Stops stop →
    length (rest_cells said r p ++ stop) < 2 ^ 63 →
    further_inside options on (rest_cells said r p ++ stop) p ≡
    further_parts options on r p (past_text (rest_line r) p)
inside-same options on said text following r p stop e is h k short =
    ap (λ (x : Bool). cond x closing chunk) closed ∙ go (closes options (opening_of on) r) refl
  where
    m : ℕ
    m = held_marker on

    marker : may_begin (held_marker on) ≡ true
    marker = fence-marker on e

    cells : List Cell
    cells = rest_cells said r p ++ stop

    q : Point
    q = past_text (rest_line r) p

    room : ℕ
    room = small_indent options

    lost : ℕ
    lost = held_indent on

    closing : List Event
    closing = spaces room cells p ++ closing_events m (white_rest room cells) (white_end room cells p)

    chunk : List Event
    chunk = spaces lost cells p ++ chunk_events m (white_rest lost cells) (white_end lost cells p)

    closed : closes_here options on cells ≡ closes options (opening_of on) r
    closed =
        closes-agrees options (opening_of on) said text following r p stop marker (fence-some on e) is h k short

    ends : further_end options on cells p ≡ q
    ends =
        (further-agrees options (opening_of on) said text following r p stop marker (fence-some on e) is h k short).ends
        ∙ past-line text following r p is

    go : (x : Bool) → closes options (opening_of on) r ≡ x →
        cond x closing chunk ≡ cond x (closing_line m r p q) (chunk_line m lost r p q)
    go true f =
        let small = and_parts (has_small_indent options r && nat_le (held_size on) (run_len m (trim_start r.bytes)))
        (is_blank (drop (run_len m (trim_start r.bytes)) (trim_start r.bytes))) f in
        let indented = and_parts (has_small_indent options r)
        (nat_le (held_size on) (run_len m (trim_start r.bytes))) small.0 in
        let taken = small-following options said text following r p stop is k short indented.0 in
        let at = white_end room cells p in
        let columns = indent-length said text following r p is in
        let sum = length-append (rest_cells said r p) stop in
        let fits : indent r ≤ room =
        small-room options r (length cells) indented.0 (omega (arith, columns, sum)) short in
        let all = past-all said text following (indent r) room r p is refl fits in
        let end : closing_end m (white_rest room cells) at ≡ q =
        sym
        (ap
        (λ (x : Bool).
        cond x (closing_end m (white_rest room cells) at)
        (run_end is_line (white_rest lost cells) (white_end lost cells p)))
        (closed ∙ f))
        ∙ ends in
        ap (λ (l : List Cell). spaces room cells p ++ closing_events m l at) taken.cells
        ∙ ap (λ (es : List Event). spaces room cells p ++ es)
        (closing-same m said (trim_start r.bytes) at q stop marker small.1 k
        (ap (λ (l : List Cell). closing_end m l at) (sym taken.cells) ∙ end))
        ∙ ap₂ (λ (es : List Event) (x : Point). es ++ closing_part m (trim_start r.bytes) x q)
        (columns-part said text following room r p stop is k ∙ all-part room r p fits all)
        (columns-end said text following room r p stop is k ∙ all)
    go false f =
        let walk = lose-walk said text following lost r p stop is k in
        let at = white_end lost cells p in
        ap (λ (l : List Cell). spaces lost cells p ++ chunk_events m l at) walk.left
        ∙ ap (λ (es : List Event). spaces lost cells p ++ es)
        (chunk-agrees m said text following (lose lost r) at stop walk.valid (lose-no_ending lost r h) k
        ∙ left-part m (lose lost r) at q (walk.ends ∙ past-line text following r p is))
        ∙ ap₂ (λ (es : List Event) (x : Point). es ++ part_over (chunk_name m) (rest_line (lose lost r)) x q)
        (columns-part said text following lost r p stop is k) (columns-end said text following lost r p stop is k)

-- The laws.

-- It takes the lines that the line definition says,
pub further-fits : (options : ParseOptions) (on : HeldLeaf) (said : Line) (text following : List ℕ)
    (r : Rest) (p : Point)
    (stop : List Cell) →
    RestAt text following r p → NoEnding r.bytes → Stops stop → length (rest_cells said r p ++ stop) < 2 ^ 63 →
    fence_further.takes options on (rest_cells said r p ++ stop) ≡ fence_further.starts options on r
further-fits options on said text following r p stop is h k short = refl

-- adds what it says of their bytes,
pub further-adds : (options : ParseOptions) (on : HeldLeaf) (said : Line) (text following : List ℕ)
    (r : Rest) (p : Point)
    (stop : List Cell) →
    RestAt text following r p → NoEnding r.bytes → Stops stop → length (rest_cells said r p ++ stop) < 2 ^ 63 →
    fence_further.starts options on r ≡ true →
    fence_further.adds options on (rest_cells said r p ++ stop) p ≡ fence_further.added options on (rest_line r) p
further-adds options on said text following r p stop is h k short e =
    let m = held_marker on in
    let q = past_text (rest_line r) p in
    (further-agrees options (opening_of on) said text following r p stop (fence-marker on e) (fence-some on e) is h k
    short).adds
    ∙ ap₂
    (λ (es : List Event) (x : Point).
    enter_link (block_name m) p further_link ∷ es ++ exit (block_name m) x ∷ [])
    (inside-same options on said text following r p stop e is h k short) (past-line text following r p is)
    ∙ sym
    (ap
    (λ (s : Rest).
    enter_link (block_name m) p further_link ∷ further_parts options on s p q ++ exit (block_name m) q ∷ [])
    (rest-again text following r p is))

-- and holds after it what the line definition has there.
pub further-keeps : (options : ParseOptions) (on : HeldLeaf) (said : Line) (text following : List ℕ)
    (r : Rest) (p : Point)
    (stop : List Cell) →
    RestAt text following r p → NoEnding r.bytes → Stops stop → length (rest_cells said r p ++ stop) < 2 ^ 63 →
    fence_further.starts options on r ≡ true →
    fence_further.keeps options on (rest_cells said r p ++ stop) p ≡ fence_further.holds options on r
further-keeps options on said text following r p stop is h k short e =
    ap (λ (x : Bool). cond (is_fence on) (cond x held_leaf.None on) held_leaf.None)
    (closes-agrees options (opening_of on) said text following r p stop (fence-marker on e)
    (fence-some on e) is h k short)
