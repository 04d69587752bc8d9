-- A heading refuses at rest, however long its line is.
use Rattle.std.proofs.Common.{List, [], ◌∷◌, ap}
use Rattle.std.specs.Prelude.{◌==◌}
use Rattle.md_engine.specs.Meaning.{Cell, Here}
use Rattle.md_leaves.specs.HeadingRule.{at_break, before_opening, after_opening, in_hashes, in_text, is_heading}
use Rattle.md_leaves.specs.LeafStart.{start_at}
use Rattle.md_events.specs.Ahead.{begins_white, line_bytes, white_rest}
use Rattle.md_events.specs.Spaces.{IsRest, any_size, calmed, small_indent}
use Rattle.proof_frame.specs.LeafName.{HeadingAtx}
use Rattle.md_registry.proofs.LeafRests.{Rests, RestsAfter, cond-rests}

break : (cells : List Cell) (h : Here) → IsRest h.scratch → RestsAfter (at_break cells h)
unfolding at_break in_text
break cells h is = cond-rests (begins_white cells) _ _ is tt

following-run : (cells : List Cell) (h : Here) → IsRest h.scratch → RestsAfter (after_opening cells h)
unfolding after_opening
following-run cells h is =
    cond-rests (begins_white cells) _ _ (break (white_rest any_size cells) _ (ap calmed is)) (break cells h is)

run : (cells : List Cell) (h : Here) → IsRest h.scratch → RestsAfter (in_hashes cells h)
run [] h is = following-run [] _ is
run (c ∷ cs) h is = cond-rests (c.byte == 35) _ _ (run cs _ is) (following-run (c ∷ cs) _ is)

front-run : (cells : List Cell) (h : Here) → IsRest h.scratch → RestsAfter (before_opening cells h)
unfolding before_opening
front-run cells h is = cond-rests (is_heading (line_bytes cells)) _ _ (run cells _ is) is

pub heading-rests : Rests HeadingAtx
unfolding start_at
heading-rests options cells h is =
    cond-rests options.constructs.heading_atx _ _
    (cond-rests (begins_white cells) _ _ (front-run (white_rest (small_indent options) cells) _ (ap calmed is))
    (front-run cells _ is))
    is
