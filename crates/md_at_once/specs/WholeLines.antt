-- Further lines of fenced code and math that are content as a whole.
use Rattle.std.specs.Prelude.{◌≡◌, ℕ, true, false, [], ◌∷◌, ◌++◌, Some, length, if◌then◌else◌}
use Rattle.md_engine.specs.declared.event.Event.{Event}
use Rattle.md_engine.specs.declared.event.Kind.TheVariants.{Enter}
use Rattle.md_engine.specs.declared.event.Point.{Point}
use Rattle.md_engine.specs.declared.state.Name.TheVariants as n
use Rattle.md_engine.specs.declared.state.flow.State.TheVariants as flow
use Rattle.md_engine.specs.declared.state.State.TheVariants.{Next}
use Rattle.md_engine.specs.declared.tokenizer.Frame.{Frame}
use Rattle.md_engine.specs.declared.tokenizer.held_leaf.HeldLeaf.{HeldLeaf}
use Rattle.md_engine.specs.World.{World}
use Rattle.md_literal.specs.Fence.{block_name, chunk_name, cleared, held_indent, held_marker, is_open}
use Rattle.md_leaves.specs.Further.{further_link}
use Rattle.md_registry.specs.LineFlags.{blank_here}
use Rattle.md_events.specs.Events.Nested.{enter, exit}
use Rattle.md_events.specs.Spaces.{calmed, ends_line, is_current, sees_white}
use Rattle.md_at_once.specs.AtOnce.{IsNoClose}

-- A line of an open block closes nothing by what is first on it, and no whitespace before it is taken away.
pub record IsWhole (w : World) : Type 0 where
  pub opened : is_open w.flags.leaf ≡ true
  pub inside : ends_line w.current ≡ false
  pub white : sees_white w.current ≡ true → IsNoClose w × (held_indent w.flags.leaf ≡ 0)
  pub dark : sees_white w.current ≡ false → is_current (held_marker w.flags.leaf) w.current ≡ false

-- it is not blank, and nothing is kept of a closing fence that was tried
abbrev pub settled : World → World
settled w = record w {
  scratch = if sees_white w.current then calmed (cleared w.scratch) else w.scratch;
  flags = blank_here false w.flags;
}

-- it begins, linked to the line before, and so does what is on it
abbrev pub line_event : HeldLeaf → Point → Event
line_event on p =
    record { kind = Enter; name = block_name (held_marker on); point = p; link = Some further_link }

abbrev pub chunk_event : HeldLeaf → Point → Event
chunk_event on p = enter (chunk_name (held_marker on)) p

-- an attempt at it has begun after so many events, at this point
abbrev pub whole_frame : ℕ → Point → Frame
whole_frame count p = record {
  ok = Next (n.Flow flow.After);
  nok = Next (n.Flow flow.Start);
  is_check = false;
  events_len = count;
  point = p;
}

-- and the line, at a point before that where the tokenizer is
abbrev pub whole_tried : Point → World → World
whole_tried p w = record w {
  events = w.events ++ line_event w.flags.leaf p ∷ chunk_event w.flags.leaf p ∷ [];
  frames = whole_frame (length w.events) p ∷ w.frames;
}

-- it is from a point up to where the tokenizer is
abbrev pub whole_added : Point → World → World
whole_added p w = record w {
  events = w.events
      ++ line_event w.flags.leaf p
      ∷ chunk_event w.flags.leaf p
      ∷ exit (chunk_name (held_marker w.flags.leaf)) w.point
      ∷ exit (block_name (held_marker w.flags.leaf)) w.point
      ∷ [];
}
