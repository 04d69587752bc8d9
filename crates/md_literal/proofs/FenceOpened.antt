-- The opening line of fenced code or math as a whole: it opens a block, or is refused.
use Rattle.std.proofs.Common.{◌≡◌, ℕ, zero, suc, ◌+◌, ◌-◌, ◌≤◌, Bool, true, false, cond, ◌&&◌, ◌||◌, nat_eq, nat_lt}
use Rattle.std.proofs.Common.{List, [], ◌∷◌, ◌++◌, length, Option, Some, None, refl, sym, ◌∙◌, ap, arith, append_assoc}
use Rattle.std.specs.Prelude.{not, ◌==◌}
use Rattle.std.proofs.lemmas.Bool.{and_parts}
use Rattle.std.proofs.lemmas.Bool.Decides.{nat_tests}
use Rattle.md_engine.specs.declared.configuration.ParseOptions.{ParseOptions}
use Rattle.md_engine.specs.declared.event.Event.{Event}
use Rattle.md_engine.specs.declared.event.Name.TheVariants as part
use Rattle.md_engine.specs.declared.event.Point.{Point}
use Rattle.md_engine.specs.declared.tokenizer.Scratch.{Scratch}
use Rattle.md_engine.specs.declared.tokenizer.held_leaf.HeldLeaf.TheVariants as held_leaf
use Rattle.md_engine.specs.Meaning.{Accepts, Cell, Here, Outcome, Refuses}
use Rattle.md_meaning.specs.Leaves.{is_fence_marker, least_size}
use Rattle.md_meaning.specs.Rest.{is_white}
use Rattle.md_literal.specs.Fence.{block_name, cleared, fence_name, is_on, is_refused, may_begin, sequence_name}
use Rattle.md_literal.specs.FenceLine.{fence_begins, fence_by, fence_opened, info_events, is_opening, marker_at}
use Rattle.md_literal.specs.FenceLine.{meta_events, open_events, after_events}
use Rattle.md_leaves.specs.CellRuns.{after_white_of, is_end, is_line, is_word, run_end, run_has, run_rest, run_size}
use Rattle.md_leaves.specs.CellRuns.{with_event}
use Rattle.md_literal.specs.FenceRule.{after_sequence, before_info, before_meta, before_sequence, block_begun, fence_at}
use Rattle.md_literal.specs.FenceRule.{in_info, in_meta, in_sequence, opens, part_begun, part_ended, refuses}
use Rattle.md_literal.proofs.FenceCells.{SameLine, line-all, line-done, line-run, line-white, marker-dark}
use Rattle.md_literal.proofs.FenceCells.{marker-proceeds}
use Rattle.md_literal.proofs.FenceCells.{run-length}
use Rattle.md_literal.proofs.FenceTermination.{rest-clear}
use Rattle.md_literal.proofs.FenceMeaning.{line-first, run-has-none}
use Rattle.md_literal.proofs.FenceWhole.{after_spaces, white-joined}
use Rattle.md_events.specs.Ahead.{begins_white, from_ending, line_end, white_rest}
use Rattle.md_events.specs.Events.Nested.{exit}
use Rattle.md_events.specs.Look.{first_seen}
use Rattle.md_events.specs.Spaces.{IsRest, any_size, calmed, small_indent}
use Rattle.md_events.proofs.AheadLemmas.{small-some, white-all}
use Rattle.md_events.proofs.RestCells.{white-length}
use Rattle.md_events.proofs.SpacesTermination.{rest-calm, rest-size}

-- What a line has that may not be there.

-- a run, and what follows it
pub has-run : (bad t : ℕ → Bool) → ((b : ℕ) → t b ≡ true → is_line b ≡ true) → (cells : List Cell) →
    run_has bad is_line cells ≡ (run_has bad t cells || run_has bad is_line (run_rest t cells))
has-run bad t proceeds [] = refl
has-run bad t proceeds (c ∷ cs) = go (t c.byte) refl (has-run bad t proceeds cs)
  where
    by : (x : Bool) → run_has bad is_line cs ≡ (run_has bad t cs || run_has bad is_line (run_rest t cs)) →
        cond x true (run_has bad is_line cs) ≡
        (cond x true (run_has bad t cs) || run_has bad is_line (run_rest t cs))
    by true next = refl
    by false next = next

    go : (x : Bool) → t c.byte ≡ x →
        run_has bad is_line cs ≡ (run_has bad t cs || run_has bad is_line (run_rest t cs)) →
        run_has bad is_line (c ∷ cs) ≡
        (cond x (cond (bad c.byte) true (run_has bad t cs)) false
        || run_has bad is_line (cond x (run_rest t cs) (c ∷ cs)))
    go true e next = rw (proceeds c.byte e) (by (bad c.byte) next)
    go false e next = refl

white-line : (b : ℕ) → is_white b ≡ true → is_line b ≡ true
white-line b e = grind (arith, nat_tests)

pub word-line : (b : ℕ) → is_word b ≡ true → is_line b ≡ true
word-line b e = (and_parts (not (is_white b)) (not (b == 10)) e).1

-- and whitespace, which may be there
pub has-white : (bad : ℕ → Bool) → ((b : ℕ) → is_white b ≡ true → bad b ≡ false) → (room : ℕ) (cells : List Cell) →
    run_has bad is_line (white_rest room cells) ≡ run_has bad is_line cells
has-white bad fine room [] = refl
has-white bad fine zero (c ∷ cs) = refl
has-white bad fine (suc room) (c ∷ cs) = go (is_white c.byte) refl (has-white bad fine room cs)
  where
    go : (x : Bool) → is_white c.byte ≡ x → run_has bad is_line (white_rest room cs) ≡ run_has bad is_line cs →
        run_has bad is_line (cond x (white_rest room cs) (c ∷ cs)) ≡ run_has bad is_line (c ∷ cs)
    go true e next = next ∙ sym (rw (white-line c.byte e, fine c.byte e) refl)
    go false e next = refl

pub refused-dark : (m b : ℕ) → may_begin m ≡ true → is_white b ≡ true → is_refused m b ≡ false
refused-dark m b is e = go (b == m) refl
  where
    go : (x : Bool) → (b == m) ≡ x → (x && not (m == 126)) ≡ false
    go true f = let bad : true ≡ false = sym e ∙ marker-dark m b is f in cc
    go false f = refl

-- After the sequence.

-- the block is open after the line, with these events
abbrev opened_with : List Event → List Cell → Here → Outcome
opened_with es cells k =
    Accepts
    (record {
      events = es;
      point = line_end cells k.point;
      scratch = cleared k.scratch;
      flags = record k.flags { leaf = held_leaf.Fence k.scratch.marker k.scratch.size k.scratch.size_c };
    })
    (from_ending cells)

abbrev opened_at : List Event → List Cell → Here → Outcome
opened_at es cells k =
    let e = line_end cells k.point in
    opened_with
    (k.events ++ es ++ exit (fence_name k.scratch.marker) e ∷ exit (block_name k.scratch.marker) e ∷ []) cells k

-- where the line ends here
end-whole : (cells : List Cell) (k : Here) → is_end cells ≡ true →
    opens cells k ≡
    cond (run_has (is_refused k.scratch.marker) is_line cells) (refuses k) (opened_at [] cells k)
end-whole cells k e =
    let none = run-has-none (is_refused k.scratch.marker) is_line cells (line-first (first_seen cells) e) in
    let done = line-done cells k.point e in
    rw (none, done.0, done.1)
    (ap (λ (es : List Event). Accepts
    (record {
      events = es;
      point = k.point;
      scratch = cleared k.scratch;
      flags = record k.flags { leaf = held_leaf.Fence k.scratch.marker k.scratch.size k.scratch.size_c };
    })
    cells) (simp append_assoc))

meta-whole : (cells : List Cell) (k : Here) → begins_white cells ≡ false →
    before_meta cells k ≡
    cond (run_has (is_refused k.scratch.marker) is_line cells) (refuses k)
    (opened_at (meta_events k.scratch.marker cells k.point) cells k)
unfolding before_meta in_meta
meta-whole cells k dark = go (is_end cells) refl
  where
    m : ℕ
    m = k.scratch.marker

    bad : Bool
    bad = run_has (is_refused m) is_line cells

    go : (x : Bool) → is_end cells ≡ x →
        before_meta cells k ≡ cond bad (refuses k) (opened_at (meta_events m cells k.point) cells k)
    go true e = rw e (end-whole cells k e)
    go false e =
        let all = line-all cells k.point in
        rw (e, dark, all.0, all.1)
        (ap (λ (es : List Event). cond bad (refuses k) (opened_with es cells k)) (simp append_assoc))

not-ten : (b : ℕ) → is_line b ≡ true → nat_eq b 10 ≡ false
not-ten b e = grind (arith, nat_tests)

info-whole : (cells : List Cell) (k : Here) → begins_white cells ≡ false → may_begin k.scratch.marker ≡ true →
    calmed k.scratch ≡ k.scratch → length cells ≤ any_size →
    before_info cells k ≡
    cond (run_has (is_refused k.scratch.marker) is_line cells) (refuses k)
    (opened_at (info_events k.scratch.marker cells k.point) cells k)
unfolding before_info in_info
info-whole cells k dark is calm short = go (is_end cells) refl
  where
    m : ℕ
    m = k.scratch.marker

    bad : Bool
    bad = run_has (is_refused m) is_line cells

    q : Point
    q = run_end is_word cells k.point

    left : List Cell
    left = run_rest is_word cells

    last : List Cell
    last = white_rest any_size left

    word : Here
    word = part_ended part.CodeFencedFenceInfo q (part_begun part.CodeFencedFenceInfo k)

    following : Here
    following = after_spaces any_size left word

    parts : bad ≡ (run_has (is_refused m) is_word cells || run_has (is_refused m) is_line last)
    parts =
        has-run (is_refused m) is_word word-line cells
        ∙ ap (λ (x : Bool). run_has (is_refused m) is_word cells || x)
        (sym (has-white (is_refused m) (λ b e. refused-dark m b is e) any_size left))

    on : SameLine cells left k.point q
    on = line-run is_word (λ b e. not-ten b (word-line b e)) cells k.point

    ends : line_end last following.point ≡ line_end cells k.point
    ends = (line-white any_size left q).end ∙ on.end

    from : from_ending last ≡ from_ending cells
    from = (line-white any_size left q).from ∙ on.from

    meta : before_meta last following ≡
        cond (run_has (is_refused m) is_line last) (refuses k)
        (opened_at (meta_events m last following.point) last following)
    meta =
        let le = run-length is_word cells in meta-whole last following
        (white-all any_size left (omega (arith, le, short)))

    opened : is_end cells ≡ false →
        opened_at (meta_events m last following.point) last following ≡ opened_at (info_events m cells k.point) cells k
    opened e =
        rw (e, ends, from) (ap (λ (es : List Event). opened_with es cells k) (simp append_assoc))

    go : (x : Bool) → is_end cells ≡ x →
        before_info cells k ≡ cond bad (refuses k) (opened_at (info_events m cells k.point) cells k)
    go true e = rw e (end-whole cells k e)
    go false e =
        begins e
        ∙ ap (cond (run_has (is_refused m) is_word cells) (refuses k))
        (white-joined any_size before_meta left word calm (omega arith) ∙ meta
        ∙ ap (cond (run_has (is_refused m) is_line last) (refuses k)) (opened e))
        ∙ either (run_has (is_refused m) is_word cells) (run_has (is_refused m) is_line last)
        ∙ ap (λ (x : Bool). cond x (refuses k) (opened_at (info_events m cells k.point) cells k)) (sym parts)
      where
        begins : is_end cells ≡ false →
            before_info cells k ≡
            cond (run_has (is_refused m) is_word cells) (refuses k) (after_white_of any_size before_meta left word)
        begins e = rw (e, dark) refl

        either : (x y : Bool) →
            cond x (refuses k) (cond y (refuses k) (opened_at (info_events m cells k.point) cells k)) ≡
            cond (x || y) (refuses k) (opened_at (info_events m cells k.point) cells k)
        either true y = refl
        either false y = refl

-- From the sequence on.

-- with so many markers
abbrev sized : ℕ → Here → Here
sized size k = record k { scratch = record k.scratch { size = size } }

-- the events of a line from its sequence on
abbrev sequence_events : ℕ → List Cell → Point → List Event
sequence_events m cells p =
    let q = run_end (λ b. b == m) cells p in
    exit (sequence_name m) q ∷ after_events m (run_rest (λ b. b == m) cells) q
    ++ exit (fence_name m) (line_end cells p) ∷ exit (block_name m) (line_end cells p) ∷ []

sequence-whole : (cells : List Cell) (k : Here) → k.scratch.size ≡ 0 → may_begin k.scratch.marker ≡ true →
    calmed k.scratch ≡ k.scratch → length cells ≤ any_size →
    in_sequence cells k ≡
    cond (is_opening k.scratch.marker cells)
    (opened_with (k.events ++ sequence_events k.scratch.marker cells k.point) cells
    (sized (run_size (λ b. b == k.scratch.marker) cells) k))
    (refuses k)
unfolding in_sequence
sequence-whole cells k none is calm short =
    rw sum
    (ap (cond few (refuses k))
    (white-joined any_size (after_sequence m) left begun
    (ap (λ (s : Scratch). record s { size = size }) calm) (omega arith)
    ∙ following (m == 36)
    ∙ ap (cond (run_has (is_refused m) is_line last) (refuses k)) opened
    ∙ ap (λ (x : Bool). cond x (refuses k) taken)
    (has-white (is_refused m) (λ b e. refused-dark m b is e) any_size left))
    ∙ either few (run_has (is_refused m) is_line left))
  where
    m : ℕ
    m = k.scratch.marker

    size : ℕ
    size = run_size (λ b. b == m) cells

    few : Bool
    few = nat_lt size (least_size m)

    q : Point
    q = run_end (λ b. b == m) cells k.point

    left : List Cell
    left = run_rest (λ b. b == m) cells

    last : List Cell
    last = white_rest any_size left

    sum : k.scratch.size + size ≡ size
    sum = omega (arith, none)

    begun : Here
    begun = record (with_event k (exit (sequence_name m) q)) {
      point = q;
      scratch = record k.scratch { size = size };
    }

    end : Here
    end = after_spaces any_size left begun

    taken : Outcome
    taken = opened_with (k.events ++ sequence_events m cells k.point) cells (sized size k)

    parts : Bool → List Event
    parts math = cond math (meta_events m last end.point) (info_events m last end.point)

    dark : begins_white last ≡ false
    dark = let le = run-length (λ b. b == m) cells in white-all any_size left (omega (arith, le, short))

    following : (math : Bool) →
        cond math (before_meta last end) (before_info last end) ≡
        cond (run_has (is_refused m) is_line last) (refuses k) (opened_at (parts math) last end)
    following true = meta-whole last end dark
    following false =
        let le = run-length (λ b. b == m) cells in
        let less = white-length any_size left in
        info-whole last end dark is (ap (λ (s : Scratch). record s { size = size }) calm)
        (omega (arith, le, less, short))

    ends : line_end last end.point ≡ line_end cells k.point
    ends =
        (line-white any_size left q).end ∙ (line-run (λ b. b == m) (λ b e. marker-proceeds m b is e) cells k.point).end

    from : from_ending last ≡ from_ending cells
    from =
        (line-white any_size left q).from
        ∙ (line-run (λ b. b == m) (λ b e. marker-proceeds m b is e) cells k.point).from

    opened : opened_at (parts (m == 36)) last end ≡ taken
    opened = rw (ends, from) (ap (λ (es : List Event). opened_with es cells (sized size k)) (simp append_assoc))

    either : (x y : Bool) → cond x (refuses k) (cond y (refuses k) taken) ≡ cond (not x && not y) taken (refuses k)
    either true y = refl
    either false true = refl
    either false false = refl

-- After the indent.

-- a marker of a block that is on is a marker
pub marker-may : (options : ParseOptions) (m : ℕ) → is_fence_marker options m ≡ true → may_begin m ≡ true
marker-may options m e = go (m == 36) refl (m == 96) refl (m == 126) refl
  where
    none : (x : Bool) → x && false ≡ true → ((m == 96) || (m == 126) || (m == 36)) ≡ true
    none true k = cc
    none false k = cc

    go : (x : Bool) → (m == 36) ≡ x → (y : Bool) → (m == 96) ≡ y → (z : Bool) → (m == 126) ≡ z →
        may_begin m ≡ true
    go true f y g z h = rw f (over ((m == 96) || (m == 126)))
      where
        over : (t : Bool) → t || true ≡ true
        over true = refl
        over false = refl
    go false f true g z h = rw g refl
    go false f false g true h = rw (g, h) refl
    go false f false g false h = none options.constructs.code_fenced (rw (f, g, h) at e)

abbrev pub in_block : ℕ → Here → Here
in_block m k = record (block_begun m k) {
  scratch = record k.scratch { marker = m; size_c = k.point.column - k.scratch.size_c };
}

-- what is left there, by the marker that is there
abbrev before_by : Option ℕ → List Cell → Here → Outcome
before_by None cells k = refuses k
before_by (Some m) cells k =
    cond (is_opening m cells)
    (opened_with (k.events ++ open_events m cells k.point) cells
    (sized (run_size (λ b. b == m) cells) (in_block m k)))
    (refuses k)

before-whole : (options : ParseOptions) (cells : List Cell) (k : Here) → k.scratch.size ≡ 0 →
    calmed k.scratch ≡ k.scratch → length cells ≤ any_size →
    before_sequence options cells k ≡ before_by (marker_at options cells) cells k
unfolding before_sequence
before-whole options [] k none calm short = refl
before-whole options (c ∷ cs) k none calm short = go (is_fence_marker options c.byte) refl
  where
    go : (x : Bool) → is_fence_marker options c.byte ≡ x →
        cond x (in_sequence (c ∷ cs) (in_block c.byte k)) (refuses k) ≡
        before_by (cond x (Some c.byte) None) (c ∷ cs) k
    go true e =
        sequence-whole (c ∷ cs) (in_block c.byte k) none (marker-may options c.byte e)
        (ap (λ (s : Scratch). record s { marker = c.byte; size_c = k.point.column - k.scratch.size_c }) calm) short
        ∙ ap
        (λ (es : List Event).
        cond (is_opening c.byte (c ∷ cs))
        (opened_with es (c ∷ cs) (sized (run_size (λ b. b == c.byte) (c ∷ cs)) (in_block c.byte k))) (refuses k))
        (simp append_assoc)
    go false e = refl

-- The whole line.

pub fence-whole : (options : ParseOptions) (cells : List Cell) (h : Here) → IsRest h.scratch →
    length cells ≤ any_size →
    fence_at options cells h ≡ fence_by options (fence_begins options cells h.point) cells h
unfolding fence_at
fence-whole options cells h is short = go (is_on options)
  where
    room : ℕ
    room = small_indent options

    rest : List Cell
    rest = white_rest room cells

    begun : Here
    begun = record h { scratch = record h.scratch { size_c = h.point.column } }

    k : Here
    k = after_spaces room cells begun

    calm : calmed begun.scratch ≡ begun.scratch
    calm = ap (λ (s : Scratch). record s { size_c = h.point.column }) (rest-calm h.scratch is ∙ sym is)

    same : SameLine cells rest h.point k.point
    same = line-white room cells h.point

    opened : (m : ℕ) (x : Bool) →
        cond x
        (opened_with (k.events ++ open_events m rest k.point) rest (sized (run_size (λ b. b == m) rest) (in_block m k)))
        (refuses k) ≡
        fence_by options
        (cond x (Some (held_leaf.Fence m (run_size (λ b. b == m) rest) (k.point.column - h.point.column))) None) cells h
    opened m true =
        rw (same.end, same.from, rest-clear h.scratch is)
        (ap
        (λ (es : List Event). Accepts
        (record h {
          events = es;
          point = line_end cells h.point;
          flags = record h.flags {
            leaf = held_leaf.Fence m (run_size (λ b. b == m) rest) (k.point.column - h.point.column);
          };
        })
        (from_ending cells)) (simp append_assoc))
    opened m false = ap (λ (s : Scratch). Refuses s h.flags) (rest-clear h.scratch is)

    by : (o : Option ℕ) → before_by o rest k ≡ fence_by options (fence_opened options cells h.point o) cells h
    by None = ap (λ (s : Scratch). Refuses s h.flags) (rest-clear h.scratch is)
    by (Some m) = opened m (is_opening m rest)

    go : (x : Bool) →
        cond x (after_white_of room (before_sequence options) cells begun) (Refuses h.scratch h.flags) ≡
        fence_by options (cond x (fence_opened options cells h.point (marker_at options rest)) None) cells h
    go true =
        let le = white-length room cells in
        white-joined room (before_sequence options) cells begun calm (small-some options)
        ∙ before-whole options rest k (rest-size h.scratch is) calm (omega (arith, le, short))
        ∙ by (marker_at options rest)
    go false = refl
