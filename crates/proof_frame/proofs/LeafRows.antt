-- What is tried before all leaves on one line, and after them: blank lines and content, by the cells of a line.
use Rattle.std.proofs.Common.{◌≡◌, Bool, true, false, cond, List, [], ◌∷◌, ◌++◌, ap, append_assoc}
use Rattle.md_engine.specs.declared.event.Event.{Event}
use Rattle.md_engine.specs.declared.event.Name.TheVariants as n
use Rattle.md_engine.specs.Meaning.{Accepts, Cell, Here, Refuses}
use Rattle.md_content.specs.ChunkRule.{chunk_at, inside_chunk}
use Rattle.md_content.specs.Chunks.{content_link}
use Rattle.md_leaves.specs.BlankRule.{blank_at, blank_events}
use Rattle.md_link_definitions.specs.OpenText.{text_following}
use Rattle.md_link_definitions.specs.WholeCells.{whole_rest}
use Rattle.md_events.specs.Ahead.{from_ending, line_bytes, line_end}
use Rattle.md_events.specs.Events.Nested.{enter_link, exit}
use Rattle.md_meaning.specs.Rest.{is_blank}

-- a blank line is taken to its end
pub blank-took : (cells : List Cell) (h : Here) → is_blank (line_bytes cells) ≡ true →
    blank_at cells h ≡
    Accepts (record h { events = h.events ++ blank_events cells h.point; point = line_end cells h.point })
    (from_ending cells)
unfolding blank_at
blank-took cells h e =
    ap
    (λ (x : Bool).
    cond x
    (Accepts (record h { events = h.events ++ blank_events cells h.point; point = line_end cells h.point })
    (from_ending cells))
    (Refuses h.scratch h.flags)) e

-- and no other line
pub blank-refused : (cells : List Cell) (h : Here) → is_blank (line_bytes cells) ≡ false →
    blank_at cells h ≡ Refuses h.scratch h.flags
unfolding blank_at
blank-refused cells h e =
    ap
    (λ (x : Bool).
    cond x
    (Accepts (record h { events = h.events ++ blank_events cells h.point; point = line_end cells h.point })
    (from_ending cells))
    (Refuses h.scratch h.flags)) e

-- content takes every line
pub chunk-took : (cells : List Cell) (h : Here) →
    chunk_at cells h ≡
    Accepts
    (record h {
      events = h.events ++ (enter_link n.Content h.point content_link ∷ exit n.Content (line_end cells h.point) ∷ []);
      point = line_end cells h.point;
      flags = record h.flags { leaf = text_following h.flags.leaf (whole_rest h.point cells) };
    })
    (from_ending cells)
unfolding chunk_at inside_chunk
chunk-took cells h =
    ap
    (λ (es : List Event).
    Accepts
    (record h {
      events = es;
      point = line_end cells h.point;
      flags = record h.flags { leaf = text_following h.flags.leaf (whole_rest h.point cells) };
    })
    (from_ending cells))
    (append_assoc h.events (enter_link n.Content h.point content_link ∷ [])
    (exit n.Content (line_end cells h.point) ∷ []))
