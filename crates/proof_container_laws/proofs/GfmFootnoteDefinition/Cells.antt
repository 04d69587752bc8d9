-- The events before the content of a footnote definition, by the cells of a line, have names of prefixes and of
-- containers.
use Rattle.std.proofs.Common.{ℕ, false, List, [], ◌∷◌, ◌++◌, length, nat_eq, Option, Some, None, refl}
use Rattle.md_engine.specs.declared.configuration.ParseOptions.{ParseOptions}
use Rattle.md_engine.specs.declared.event.Event.{Event}
use Rattle.md_engine.specs.declared.event.Name.TheVariants as n
use Rattle.md_engine.specs.declared.event.Point.{Point}
use Rattle.md_engine.specs.Meaning.{Cell}
use Rattle.md_containers.specs.Footnote.{footnote_width}
use Rattle.md_containers.specs.FootnotePrefix.{as_footnote, footnote_after, footnote_ended, footnote_further}
use Rattle.md_containers.specs.FootnotePrefix.{footnote_labelled, footnote_marked, footnote_new, white_events}
use Rattle.md_containers.specs.FootnoteRule.{LabelCells, bracket_events, caret_events, label_cells, label_ended}
use Rattle.md_containers.specs.FootnoteRule.{may_have}
use Rattle.md_containers.specs.ItemPrefix.{ItemPassed, item_further}
use Rattle.md_containers.specs.QuoteRule.{indent_events}
use Rattle.md_meaning.specs.Ascii.{caret, colon, left_bracket}
use Rattle.md_events.specs.Ahead.{begins_white, white_end, white_rest}
use Rattle.md_events.specs.Events.Nested.{enter, exit, pair}
use Rattle.md_events.specs.Spaces.{any_size, small_indent}
use Rattle.proof_container_laws.proofs.BlockQuote.Cells.{white-front}
use Rattle.proof_frame.proofs.EachEvent.{each-append}
use Rattle.proof_container_laws.proofs.ListItem.Cells.{HasFront, front-if, further-front}
use Rattle.proof_frame.proofs.PrefixNames.{AreFront, IsFrontEvent}

front-append : (xs ys : List Event) → AreFront xs → AreFront ys → AreFront (xs ++ ys)
front-append xs ys h k = each-append IsFrontEvent xs ys h k

-- after its label,
ended-front : (label : List ℕ) (front : List Event) (cells : List Cell) (p : Point) → AreFront front →
    HasFront (footnote_ended label front cells p)
ended-front label front [] p h = tt
ended-front label front (c ∷ cs) p h =
    front-if (nat_eq c.byte colon) _ _
    (front-append (front ++ pair n.DefinitionMarker p c.after) _
    (front-append front _ h ((refl, refl), ((refl, refl), tt)))
    (front-append (white_events cs c.after) (exit n.GfmFootnoteDefinitionPrefix q ∷ [])
    (white-front (begins_white cs) c.after q) ((refl, refl), tt)))
    tt
  where
    q : Point
    q = white_end any_size cs c.after

-- at its label,
labelled-front : (front : List Event) (o : Option LabelCells) → AreFront front → HasFront (footnote_labelled front o)
labelled-front front None h = tt
labelled-front front (Some l) h =
    front-if (may_have (length l.label)) _ _
    (ended-front l.label (front ++ label_ended l.end l.closer.after) l.rest l.closer.after
    (front-append front _ h
    ((refl, refl), ((refl, refl), ((refl, refl), ((refl, refl), ((refl, refl), tt))))))) tt

-- after its `[`,
marked-front : (front : List Event) (cells : List Cell) (p : Point) → AreFront front →
    HasFront (footnote_marked front cells p)
marked-front front [] p h = tt
marked-front front (c ∷ cs) p h =
    front-if (nat_eq c.byte caret) _ _
    (labelled-front (front ++ caret_events p c.after) (label_cells false cs c.after)
    (front-append front _ h ((refl, refl), ((refl, refl), ((refl, refl), ((refl, refl), tt)))))) tt

-- after its indent,
following-front : (front : List Event) (cells : List Cell) (p : Point) → AreFront front →
    HasFront (footnote_after front cells p)
following-front front [] p h = tt
following-front front (c ∷ cs) p h =
    front-if (nat_eq c.byte left_bracket) _ _
    (marked-front (front ++ bracket_events p c.after) cs c.after
    (front-append front _ h ((refl, refl), ((refl, refl), ((refl, refl), ((refl, refl), tt)))))) tt

-- and where it begins
pub new-front : (options : ParseOptions) (cells : List Cell) (p : Point) → HasFront (footnote_new options cells p)
new-front options cells p =
    front-if options.constructs.gfm_footnote_definition _ _
    (following-front (enter n.GfmFootnoteDefinition p ∷ indent_events options cells p)
    (white_rest (small_indent options) cells) (white_end (small_indent options) cells p)
    ((refl, refl), white-front (begins_white cells) p (white_end (small_indent options) cells p)))
    tt

-- on a further line it adds what an item does
as-front : (label : List ℕ) (o : Option ItemPassed) → HasFront o → HasFront (as_footnote label o)
as-front label None h = tt
as-front label (Some t) h = h

pub on-front : (label : List ℕ) (cells : List Cell) (p : Point) → HasFront (footnote_further label cells p)
on-front label cells p =
    as-front label (item_further [] 0 footnote_width false cells p) (further-front [] 0 footnote_width false cells p)
