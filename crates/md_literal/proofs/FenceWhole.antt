-- A line of fenced code or math as a whole: a closing fence, or else a line of the block.
use Rattle.std.proofs.Common.{◌≡◌, ℕ, zero, suc, ◌+◌, ◌≤◌, Bool, true, false, cond, ◌&&◌, nat_lt, List, [], ◌∷◌}
use Rattle.std.proofs.Common.{◌++◌, refl, sym, ◌∙◌, ap, arith, append-nil, append_assoc}
use Rattle.std.specs.Prelude.{not, ◌==◌}
use Rattle.std.proofs.lemmas.Bool.Decides.{nat_tests}
use Rattle.md_engine.specs.declared.configuration.ParseOptions.{ParseOptions}
use Rattle.md_engine.specs.declared.event.Event.{Event}
use Rattle.md_engine.specs.declared.event.Name.TheVariants as part
use Rattle.md_engine.specs.declared.event.Point.{Point}
use Rattle.md_engine.specs.declared.tokenizer.Scratch.{Scratch}
use Rattle.md_engine.specs.declared.tokenizer.held_leaf.HeldLeaf.TheVariants as held_leaf
use Rattle.md_engine.specs.Meaning.{Accepts, Cell, Here, Outcome, Refuses}
use Rattle.md_literal.specs.Fence.{block_name, chunk_name, cleared, fence_name, held_indent, held_marker, held_size}
use Rattle.md_literal.specs.Fence.{sequence_name}
use Rattle.md_literal.specs.FenceLine.{chunk_events, closes_here, closing_end, closing_events}
use Rattle.md_literal.specs.FenceLine.{further_taken, is_closing, spaces}
use Rattle.md_leaves.specs.CellRuns.{after_columns, after_white_of, is_end, is_line, run_end, run_rest, run_size}
use Rattle.md_leaves.specs.CellRuns.{with_event}
use Rattle.md_literal.specs.FenceRule.{before_chunk, before_close, close_at, close_end, closed_or_content, content_at}
use Rattle.md_literal.specs.FenceRule.{further_at, in_chunk, in_close, line_begun, refuses}
use Rattle.md_leaves.specs.Further.{further_link}
use Rattle.md_literal.proofs.FenceTermination.{rest-clear}
use Rattle.md_literal.proofs.FenceMeaning.{line-first, run-none}
use Rattle.md_events.specs.Ahead.{begins_white, white_end, white_rest}
use Rattle.md_events.specs.Events.Nested.{enter, enter_link, exit, pair}
use Rattle.md_events.specs.Look.{first_seen}
use Rattle.md_events.specs.Spaces.{IsRest, any_size, calmed, small_indent}
use Rattle.md_events.proofs.AheadLemmas.{none-end, none-rest, small-some}
use Rattle.md_events.proofs.LostColumns.{zero-end, zero-rest}
use Rattle.md_events.proofs.SpacesTermination.{rest-calm, rest-size}

-- Whitespace that comes first, if any does.

abbrev pub after_spaces : ℕ → List Cell → Here → Here
after_spaces room cells h =
    record h { events = h.events ++ spaces room cells h.point; point = white_end room cells h.point }

pub white-joined : (room : ℕ) (following : List Cell → Here → Outcome) (cells : List Cell) (h : Here) →
    calmed h.scratch ≡ h.scratch → 1 ≤ room →
    after_white_of room following cells h ≡ following (white_rest room cells) (after_spaces room cells h)
white-joined room following cells h calm some = go (begins_white cells) refl
  where
    fits : nat_lt 0 room ≡ true
    fits = grind (arith, nat_tests)

    go : (x : Bool) → begins_white cells ≡ x →
        cond x (following (white_rest room cells) (after_columns room cells h)) (following cells h) ≡
        following (white_rest room cells)
        (record h {
          events = h.events
              ++ cond (nat_lt 0 room && begins_white cells)
              (pair part.SpaceOrTab h.point (white_end room cells h.point))
              [];
          point = white_end room cells h.point;
        })
    go true e =
        rw (fits, e)
        (ap
        (λ (s : Scratch).
        following (white_rest room cells) (record (after_columns room cells h) { scratch = s })) calm)
    go false e =
        rw (fits, e, none-rest room cells e, none-end room cells h.point e)
        (ap (λ (es : List Event). following cells (record h { events = es })) (sym (append-nil h.events)))

-- A line of the block.

chunk-whole : (cells : List Cell) (h : Here) →
    before_chunk cells h ≡
    Accepts
    (record h {
      events = h.events ++ chunk_events (held_marker h.flags.leaf) cells h.point
          ++ exit (block_name (held_marker h.flags.leaf)) (run_end is_line cells h.point) ∷ [];
      point = run_end is_line cells h.point;
    })
    (run_rest is_line cells)
unfolding before_chunk in_chunk
chunk-whole cells h = go (is_end cells) refl
  where
    go : (x : Bool) → is_end cells ≡ x →
        before_chunk cells h ≡
        Accepts
        (record h {
          events = h.events ++ chunk_events (held_marker h.flags.leaf) cells h.point
              ++ exit (block_name (held_marker h.flags.leaf)) (run_end is_line cells h.point) ∷ [];
          point = run_end is_line cells h.point;
        })
        (run_rest is_line cells)
    go true e =
        let none = run-none is_line cells h.point (line-first (first_seen cells) e) in
        rw (e, none.end, none.rest)
        (ap
        (λ (es : List Event).
        Accepts (record h { events = es ++ exit (block_name (held_marker h.flags.leaf)) h.point ∷ [] }) cells)
        (sym (append-nil h.events)))
    go false e =
        rw e
        (ap
        (λ (es : List Event).
        Accepts
        (record h {
          events = es ++ exit (block_name (held_marker h.flags.leaf)) (run_end is_line cells h.point) ∷ [];
          point = run_end is_line cells h.point;
        })
        (run_rest is_line cells))
        (append_assoc h.events (enter (chunk_name (held_marker h.flags.leaf)) h.point ∷ []) _))

content-joined : (cells : List Cell) (h : Here) → calmed h.scratch ≡ h.scratch →
    content_at cells h ≡
    before_chunk (white_rest (held_indent h.flags.leaf) cells) (after_spaces (held_indent h.flags.leaf) cells h)
unfolding content_at
content-joined cells h calm = go (held_indent h.flags.leaf)
  where
    go : (room : ℕ) →
        cond (nat_lt 0 room && begins_white cells) (before_chunk (white_rest room cells) (after_columns room cells h))
        (before_chunk cells h) ≡
        before_chunk (white_rest room cells) (after_spaces room cells h)
    go zero =
        rw (zero-rest cells, zero-end cells h.point)
        (ap (λ (es : List Event). before_chunk cells (record h { events = es })) (sym (append-nil h.events)))
    go (suc n) =
        let fits : nat_lt 0 (suc n) ≡ true = grind (arith, nat_tests) in
        ap
        (λ (x : Bool).
        cond (x && begins_white cells) (before_chunk (white_rest (suc n) cells) (after_columns (suc n) cells h))
        (before_chunk cells h)) fits
        ∙ white-joined (suc n) before_chunk cells h calm (omega arith)

-- what the line adds where no closing fence is
content-whole : (cells : List Cell) (h : Here) → calmed h.scratch ≡ h.scratch →
    let room = held_indent h.flags.leaf in
    let p = white_end room cells h.point in
    content_at cells h ≡
    Accepts
    (record h {
      events = h.events
          ++ spaces room cells h.point ++ chunk_events (held_marker h.flags.leaf) (white_rest room cells) p
          ++ exit (block_name (held_marker h.flags.leaf)) (run_end is_line (white_rest room cells) p) ∷ [];
      point = run_end is_line (white_rest room cells) p;
    })
    (run_rest is_line (white_rest room cells))
content-whole cells h calm =
    let room = held_indent h.flags.leaf in
    content-joined cells h calm ∙ chunk-whole (white_rest room cells) (after_spaces room cells h)

-- A closing fence.

-- where it becomes
abbrev close_here : ℕ → List Cell → Here → Here
close_here m cells h = record h {
  events = h.events ++ closing_events m cells h.point;
  point = closing_end m cells h.point;
  scratch = cleared h.scratch;
}

end-whole : (cells : List Cell) (h : Here) →
    close_end cells h ≡
    cond (is_end cells) (Accepts (with_event h (exit (fence_name (held_marker h.flags.leaf)) h.point)) cells)
    (Refuses h.scratch h.flags)
unfolding close_end
end-whole cells h = refl

-- in the sequence
in-whole : (cells : List Cell) (h : Here) → h.scratch.size ≡ 0 → calmed (cleared h.scratch) ≡ cleared h.scratch →
    let m = h.scratch.marker in
    let q = run_end (λ b. b == m) cells h.point in
    let left = run_rest (λ b. b == m) cells in
    in_close cells h ≡
    cond (nat_lt (run_size (λ b. b == m) cells) (held_size h.flags.leaf)) (refuses h)
    (close_end (white_rest any_size left)
    (after_spaces any_size left
    (record (with_event h (exit (sequence_name m) q)) { point = q; scratch = cleared h.scratch })))
unfolding in_close
in-whole cells h none calm =
    let m = h.scratch.marker in
    let q = run_end (λ b. b == m) cells h.point in
    let left = run_rest (λ b. b == m) cells in
    let sum : h.scratch.size + run_size (λ b. b == m) cells ≡ run_size (λ b. b == m) cells = omega (arith, none) in
    rw sum
    (ap (cond (nat_lt (run_size (λ b. b == m) cells) (held_size h.flags.leaf)) (refuses h))
    (white-joined any_size close_end left
    (record (with_event h (exit (sequence_name m) q)) { point = q; scratch = cleared h.scratch }) calm (omega arith)))

before-whole : (cells : List Cell) (h : Here) → h.scratch.size ≡ 0 → calmed (cleared h.scratch) ≡ cleared h.scratch →
    held_marker h.flags.leaf ≡ h.scratch.marker →
    before_close cells h ≡
    cond (is_closing h.scratch.marker (held_size h.flags.leaf) cells)
    (Accepts (close_here h.scratch.marker cells h)
    (white_rest any_size (run_rest (λ b. b == h.scratch.marker) cells)))
    (refuses h)
unfolding before_close
before-whole [] h none calm same = refl
before-whole (c ∷ cs) h none calm same = go (c.byte == m)
  where
    m : ℕ
    m = h.scratch.marker

    k : Here
    k = with_event (with_event h (enter (fence_name m) h.point)) (enter (sequence_name m) h.point)

    q : Point
    q = run_end (λ b. b == m) (c ∷ cs) h.point

    left : List Cell
    left = run_rest (λ b. b == m) (c ∷ cs)

    last : List Cell
    last = white_rest any_size left

    few : Bool
    few = nat_lt (run_size (λ b. b == m) (c ∷ cs)) (held_size h.flags.leaf)

    end : Here
    end =
        after_spaces any_size left
        (record (with_event k (exit (sequence_name m) q)) { point = q; scratch = cleared h.scratch })

    taken : Outcome
    taken = Accepts (close_here m (c ∷ cs) h) last

    fin : (d : Bool) →
        cond d (Accepts (with_event end (exit (fence_name (held_marker h.flags.leaf)) end.point)) last)
        (Refuses end.scratch end.flags) ≡
        cond d taken (refuses h)
    fin true =
        rw same (ap (λ (es : List Event). Accepts (record (close_here m (c ∷ cs) h) { events = es }) last)
        (simp append_assoc))
    fin false = refl

    by : (f : Bool) →
        cond f (refuses k) (close_end last end) ≡ cond (true && not f && is_end last) taken (refuses h)
    by true = refl
    by false = end-whole last end ∙ fin (is_end last)

    go : (x : Bool) →
        cond x (in_close (c ∷ cs) k) (refuses h) ≡ cond (x && not few && is_end last) taken (refuses h)
    go false = refl
    go true = in-whole (c ∷ cs) k none calm ∙ by few

-- The whole line.

abbrev closing : Here → Here
closing h = record h { scratch = record h.scratch { marker = held_marker h.flags.leaf } }

close-joined : (options : ParseOptions) (cells : List Cell) (h : Here) → calmed h.scratch ≡ h.scratch →
    close_at options cells h ≡
    before_close (white_rest (small_indent options) cells) (after_spaces (small_indent options) cells h)
unfolding close_at
close-joined options cells h calm =
    white-joined (small_indent options) before_close cells h calm (small-some options)

pub further-whole : (options : ParseOptions) (cells : List Cell) (h : Here) → IsRest h.scratch →
    further_at options cells h ≡ further_taken options cells h
unfolding further_at
further-whole options cells h is =
    ap (λ (o : Outcome). closed_or_content o cells (line_begun h))
    (close-joined options cells (closing (line_begun h)) calm
    ∙ before-whole rest k (rest-size h.scratch is) (ap (λ (s : Scratch). calmed (cleared s)) is ∙ sym (ap cleared is))
    refl)
    ∙ go (closes_here options h.flags.leaf cells)
  where
    room : ℕ
    room = small_indent options

    rest : List Cell
    rest = white_rest room cells

    k : Here
    k = after_spaces room cells (closing (line_begun h))

    m : ℕ
    m = held_marker h.flags.leaf

    calm : calmed (closing h).scratch ≡ (closing h).scratch
    calm = ap (λ (s : Scratch). record s { marker = held_marker h.flags.leaf }) (rest-calm h.scratch is ∙ sym is)

    last : List Cell
    last = white_rest any_size (run_rest (λ b. b == m) rest)

    lost : ℕ
    lost = held_indent h.flags.leaf

    go : (x : Bool) →
        closed_or_content (cond x (Accepts (close_here m rest k) last) (refuses k)) cells (line_begun h) ≡
        Accepts
        (record h {
          events = h.events ++ (enter_link (block_name m) h.point further_link
              ∷ cond x (spaces room cells h.point ++ closing_events m rest (white_end room cells h.point))
              (spaces lost cells h.point
              ++ chunk_events m (white_rest lost cells) (white_end lost cells h.point))
              ++ exit (block_name m)
              (cond x (closing_end m rest (white_end room cells h.point))
              (run_end is_line (white_rest lost cells) (white_end lost cells h.point))) ∷ []);
          point = cond x (closing_end m rest (white_end room cells h.point))
              (run_end is_line (white_rest lost cells) (white_end lost cells h.point));
          flags = record h.flags { leaf = cond x held_leaf.None h.flags.leaf };
        })
        (cond x last (run_rest is_line (white_rest lost cells)))
    go true =
        rw (rest-clear h.scratch is)
        (ap
        (λ (es : List Event).
        Accepts
        (record h {
          events = es;
          point = closing_end m rest (white_end room cells h.point);
          flags = record h.flags { leaf = held_leaf.None };
        })
        last)
        (simp append_assoc))
    go false =
        ap (λ (s : Scratch). content_at cells (record (line_begun h) { scratch = s })) (rest-clear h.scratch is)
        ∙ content-whole cells (line_begun h) (rest-calm h.scratch is ∙ sym is)
        ∙ ap
        (λ (es : List Event).
        Accepts
        (record h { events = es; point = run_end is_line (white_rest lost cells) (white_end lost cells h.point) })
        (run_rest is_line (white_rest lost cells)))
        (simp append_assoc)
