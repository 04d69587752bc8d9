-- The walk that joins the lines of blocks.
use Rattle.std.specs.Prelude.{ℕ, List, ◌++◌}
use Rattle.std.specs.List.{prefix_len}
use Rattle.md_engine.specs.declared.event.Event.{Event}
use Rattle.md_leaves.specs.declared.spans.Walk.{Walk}
use Rattle.md_events.specs.Rewritten.{held_of, left_of, written_of}
use Rattle.md_leaves.specs.Spanned.{passes_on}

-- what is given so far, and the events that are left
abbrev pub given_of : Walk → List Event
given_of w = written_of w.all ++ held_of w.all

abbrev pub rest_of : Walk → List Event
rest_of w = left_of w.all

-- how many of these pass as they are
abbrev pub passing : Walk → ℕ
passing w = prefix_len (passes_on w.place) (rest_of w)
