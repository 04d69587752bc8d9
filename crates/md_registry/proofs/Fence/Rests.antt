-- A fence refuses at rest, however long its line is.
use Rattle.std.proofs.Common.{ℕ, List, [], ◌∷◌, ap}
use Rattle.md_engine.specs.declared.configuration.ParseOptions.{ParseOptions}
use Rattle.md_engine.specs.Meaning.{Cell, Here, Outcome}
use Rattle.md_literal.specs.Fence.{cleared, is_on, is_refused}
use Rattle.md_leaves.specs.CellRuns.{after_columns, after_white_of, is_end, is_line, is_word, run_has, run_rest}
use Rattle.md_leaves.specs.CellRuns.{run_size}
use Rattle.md_literal.specs.FenceRule.{after_sequence, before_info, before_meta, before_sequence, fence_at, in_info}
use Rattle.md_literal.specs.FenceRule.{in_meta, in_sequence}
use Rattle.md_meaning.specs.Leaves.{is_fence_marker, least_size}
use Rattle.md_events.specs.Ahead.{begins_white, white_rest}
use Rattle.md_events.specs.Spaces.{IsRest, any_size, calmed, small_indent}
use Rattle.proof_frame.specs.LeafName.{Fence}
use Rattle.md_registry.proofs.LeafRests.{Rests, RestsAfter, cond-rests}
use Rattle.std.specs.Prelude.{nat_lt, ◌+◌, ◌==◌}

-- what a fence notes, it clears
abbrev Clears : Here → Type 0
Clears h = IsRest (cleared h.scratch)

following-white : (room : ℕ) (following : List Cell → Here → Outcome) (cells : List Cell) (h : Here) →
    ((cs : List Cell) (k : Here) → Clears k → RestsAfter (following cs k)) → Clears h →
    RestsAfter (after_white_of room following cells h)
following-white room following cells h each c =
    cond-rests (begins_white cells) _ _ (each (white_rest room cells) (after_columns room cells h) (ap calmed c))
    (each cells h c)

meta : (cells : List Cell) (h : Here) → Clears h → RestsAfter (in_meta cells h)
unfolding in_meta
meta cells h c = cond-rests (run_has (is_refused h.scratch.marker) is_line cells) _ _ c tt

front-meta : (cells : List Cell) (h : Here) → Clears h → RestsAfter (before_meta cells h)
unfolding before_meta
front-meta cells h c =
    cond-rests (is_end cells) _ _ tt (cond-rests (begins_white cells) _ _ c (meta cells _ c))

info : (cells : List Cell) (h : Here) → Clears h → RestsAfter (in_info cells h)
unfolding in_info
info cells h c =
    cond-rests (run_has (is_refused h.scratch.marker) is_word cells) _ _ c
    (following-white any_size before_meta (run_rest is_word cells) _ front-meta c)

front-info : (cells : List Cell) (h : Here) → Clears h → RestsAfter (before_info cells h)
unfolding before_info
front-info cells h c =
    cond-rests (is_end cells) _ _ tt (cond-rests (begins_white cells) _ _ c (info cells _ c))

-- math has no info
following-run : (m : ℕ) (cells : List Cell) (h : Here) → Clears h → RestsAfter (after_sequence m cells h)
following-run m cells h c = cond-rests (m == 36) _ _ (front-meta cells h c) (front-info cells h c)

run : (cells : List Cell) (h : Here) → Clears h → RestsAfter (in_sequence cells h)
unfolding in_sequence
run cells h c =
    let m = h.scratch.marker in
    cond-rests (nat_lt (h.scratch.size + run_size (λ b. b == m) cells) (least_size m)) _ _ c
    (following-white any_size (after_sequence m) (run_rest (λ b. b == m) cells) _ (following-run m) c)

front-run : (options : ParseOptions) (cells : List Cell) (h : Here) → Clears h →
    RestsAfter (before_sequence options cells h)
unfolding before_sequence
front-run options [] h c = c
front-run options (d ∷ ds) h c = cond-rests (is_fence_marker options d.byte) _ _ (run (d ∷ ds) _ c) c

pub fence-rests : Rests Fence
unfolding fence_at
fence-rests options cells h is =
    cond-rests (is_on options) _ _
    (following-white (small_indent options) (before_sequence options) cells _ (front-run options) (ap cleared is)) is
