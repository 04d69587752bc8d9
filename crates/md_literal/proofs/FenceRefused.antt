-- A line where no fence is is refused by the rule of an opening line, and leaves all as it was.
use Rattle.std.proofs.Common.{◌≡◌, ℕ, ◌+◌, ◌-◌, Bool, true, false, cond, ◌&&◌, ◌||◌, nat_lt, List, [], ◌∷◌, Option}
use Rattle.std.proofs.Common.{Some, None, refl, sym, ◌∙◌, ap, arith}
use Rattle.std.specs.Prelude.{not, ◌==◌}
use Rattle.md_engine.specs.declared.configuration.ParseOptions.{ParseOptions}
use Rattle.md_engine.specs.declared.event.Name.TheVariants as part
use Rattle.md_engine.specs.declared.tokenizer.Scratch.{Scratch}
use Rattle.md_engine.specs.declared.tokenizer.held_leaf.HeldLeaf.{HeldLeaf}
use Rattle.md_engine.specs.declared.tokenizer.held_leaf.HeldLeaf.TheVariants as held_leaf
use Rattle.md_engine.specs.Meaning.{Cell, Here, Refuses}
use Rattle.md_meaning.specs.Leaves.{is_fence_marker, least_size}
use Rattle.md_literal.specs.Fence.{is_on, is_refused, may_begin, sequence_name}
use Rattle.md_literal.specs.FenceLine.{fence_begins, fence_opened, is_opening, marker_at}
use Rattle.md_leaves.specs.CellRuns.{after_white_of, is_end, is_line, is_word, run_end, run_has, run_rest, run_size}
use Rattle.md_leaves.specs.CellRuns.{with_event}
use Rattle.md_literal.specs.FenceRule.{after_sequence, before_info, before_meta, before_sequence, fence_at, in_info}
use Rattle.md_literal.specs.FenceRule.{in_meta, in_sequence, part_begun, part_ended, refuses}
use Rattle.md_literal.proofs.FenceTermination.{rest-clear}
use Rattle.md_literal.proofs.FenceOpened.{has-run, has-white, in_block, marker-may, refused-dark, word-line}
use Rattle.md_literal.proofs.FenceMeaning.{line-first, run-has-none}
use Rattle.md_literal.proofs.FenceWhole.{after_spaces, white-joined}
use Rattle.md_events.specs.Ahead.{begins_white, white_end, white_rest}
use Rattle.md_events.specs.Events.Nested.{exit}
use Rattle.md_events.specs.Look.{first_seen}
use Rattle.md_events.specs.Spaces.{IsRest, any_size, calmed, small_indent}
use Rattle.md_events.proofs.AheadLemmas.{small-some}
use Rattle.md_events.proofs.SpacesTermination.{rest-calm, rest-size}

-- After the sequence something is that may not.

-- so the line does not end
proceeds-on : (bad : ℕ → Bool) (cells : List Cell) → run_has bad is_line cells ≡ true → is_end cells ≡ false
proceeds-on bad cells is = go (is_end cells) refl
  where
    go : (x : Bool) → is_end cells ≡ x → x ≡ false
    go true e = let none = run-has-none bad is_line cells (line-first (first_seen cells) e) in cc
    go false e = refl

meta-refused : (cells : List Cell) (k : Here) → run_has (is_refused k.scratch.marker) is_line cells ≡ true →
    before_meta cells k ≡ refuses k
unfolding before_meta in_meta
meta-refused cells k is = rw (proceeds-on (is_refused k.scratch.marker) cells is, is) (go (begins_white cells))
  where
    go : (x : Bool) → cond x (refuses k) (refuses k) ≡ refuses k
    go true = refl
    go false = refl

info-refused : (cells : List Cell) (k : Here) → run_has (is_refused k.scratch.marker) is_line cells ≡ true →
    may_begin k.scratch.marker ≡ true → calmed k.scratch ≡ k.scratch → before_info cells k ≡ refuses k
unfolding before_info in_info
info-refused cells k is may calm =
    rw (proceeds-on (is_refused m) cells is) (go (begins_white cells))
  where
    m : ℕ
    m = k.scratch.marker

    left : List Cell
    left = run_rest is_word cells

    last : List Cell
    last = white_rest any_size left

    word : Here
    word =
        part_ended part.CodeFencedFenceInfo (run_end is_word cells k.point) (part_begun part.CodeFencedFenceInfo k)

    parts : (run_has (is_refused m) is_word cells || run_has (is_refused m) is_line last) ≡ true
    parts =
        ap (λ (x : Bool). run_has (is_refused m) is_word cells || x)
        (has-white (is_refused m) (λ b e. refused-dark m b may e) any_size left)
        ∙ sym (has-run (is_refused m) is_word word-line cells) ∙ is

    by : (x : Bool) → x || run_has (is_refused m) is_line last ≡ true →
        cond x (refuses k) (after_white_of any_size before_meta left word) ≡ refuses k
    by true e = refl
    by false e =
        white-joined any_size before_meta left word calm (omega arith)
        ∙ meta-refused last (after_spaces any_size left word) e

    go : (x : Bool) →
        cond x (refuses k)
        (cond (run_has (is_refused m) is_word cells) (refuses k) (after_white_of any_size before_meta left word)) ≡
        refuses k
    go true = refl
    go false = by (run_has (is_refused m) is_word cells) parts

-- From the sequence on.

sequence-refused : (cells : List Cell) (k : Here) → k.scratch.size ≡ 0 → may_begin k.scratch.marker ≡ true →
    calmed k.scratch ≡ k.scratch → is_opening k.scratch.marker cells ≡ false → in_sequence cells k ≡ refuses k
unfolding in_sequence
sequence-refused cells k none may calm shut =
    rw sum (by (nat_lt size (least_size m)) (run_has (is_refused m) is_line left) refl shut)
  where
    m : ℕ
    m = k.scratch.marker

    size : ℕ
    size = run_size (λ b. b == m) cells

    left : List Cell
    left = run_rest (λ b. b == m) cells

    last : List Cell
    last = white_rest any_size left

    sum : k.scratch.size + size ≡ size
    sum = omega (arith, none)

    begun : Here
    begun = record (with_event k (exit (sequence_name m) (run_end (λ b. b == m) cells k.point))) {
      point = run_end (λ b. b == m) cells k.point;
      scratch = record k.scratch { size = size };
    }

    end : Here
    end = after_spaces any_size left begun

    quiet : calmed begun.scratch ≡ begun.scratch
    quiet = ap (λ (s : Scratch). record s { size = size }) calm

    following : (math : Bool) → run_has (is_refused m) is_line last ≡ true →
        cond math (before_meta last end) (before_info last end) ≡ refuses k
    following true e = meta-refused last end e
    following false e = info-refused last end e may quiet

    by : (few bad : Bool) → run_has (is_refused m) is_line left ≡ bad → not few && not bad ≡ false →
        cond few (refuses k) (after_white_of any_size (after_sequence m) left begun) ≡ refuses k
    by true bad e f = refl
    by false true e f =
        white-joined any_size (after_sequence m) left begun quiet (omega arith)
        ∙ following (m == 36) (has-white (is_refused m) (λ b w. refused-dark m b may w) any_size left ∙ e)
    by false false e f = absurd (cc)

before-refused : (options : ParseOptions) (cells : List Cell) (k : Here) → k.scratch.size ≡ 0 →
    calmed k.scratch ≡ k.scratch → ((m : ℕ) → marker_at options cells ≡ Some m → is_opening m cells ≡ false) →
    before_sequence options cells k ≡ refuses k
unfolding before_sequence
before-refused options [] k none calm shut = refl
before-refused options (c ∷ cs) k none calm shut = go (is_fence_marker options c.byte) refl
  where
    go : (x : Bool) → is_fence_marker options c.byte ≡ x →
        cond x (in_sequence (c ∷ cs) (in_block c.byte k)) (refuses k) ≡ refuses k
    go true e =
        sequence-refused (c ∷ cs) (in_block c.byte k) none (marker-may options c.byte e)
        (ap (λ (s : Scratch). record s { marker = c.byte; size_c = k.point.column - k.scratch.size_c }) calm)
        (shut c.byte (ap (λ (x : Bool). cond x (Some c.byte) None) e))
    go false e = refl

-- The whole line.
pub fence-refused : (options : ParseOptions) (cells : List Cell) (h : Here) → IsRest h.scratch →
    fence_begins options cells h.point ≡ None → fence_at options cells h ≡ Refuses h.scratch h.flags
unfolding fence_at
fence-refused options cells h is none = go (is_on options) none
  where
    room : ℕ
    room = small_indent options

    rest : List Cell
    rest = white_rest room cells

    begun : Here
    begun = record h { scratch = record h.scratch { size_c = h.point.column } }

    k : Here
    k = after_spaces room cells begun

    calm : calmed begun.scratch ≡ begun.scratch
    calm = ap (λ (s : Scratch). record s { size_c = h.point.column }) (rest-calm h.scratch is ∙ sym is)

    shut : (o : Option ℕ) → fence_opened options cells h.point o ≡ None → (m : ℕ) → o ≡ Some m →
        is_opening m rest ≡ false
    shut None e m f = absurd (cc)
    shut (Some n) e m f = let same : n ≡ m = cc in by (is_opening n rest) refl e same
      where
        leaf : HeldLeaf
        leaf =
            held_leaf.Fence n (run_size (λ b. b == n) rest) ((white_end room cells h.point).column - h.point.column)

        by : (x : Bool) → is_opening n rest ≡ x → cond x (Some leaf) None ≡ None → n ≡ m → is_opening m rest ≡ false
        by true g e same = absurd (cc)
        by false g e same = rw (sym same) g

    go : (x : Bool) →
        cond x (fence_opened options cells h.point (marker_at options rest)) None ≡ None →
        cond x (after_white_of room (before_sequence options) cells begun) (Refuses h.scratch h.flags) ≡
        Refuses h.scratch h.flags
    go true e =
        white-joined room (before_sequence options) cells begun calm (small-some options)
        ∙ before-refused options rest k (rest-size h.scratch is) calm (shut (marker_at options rest) e)
        ∙ ap (λ (s : Scratch). Refuses s h.flags) (rest-clear h.scratch is)
    go false e = refl
