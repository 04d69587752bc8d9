-- The events of a text with its underline, as a heading: its text, what follows that, and the underline.
use Rattle.std.proofs.Common.{◌≡◌, ℕ, List, ◌++◌, ap, ◌∙◌, append_assoc}
use Rattle.std.specs.Prelude.{Some}
use Rattle.md_engine.specs.declared.event.Event.{Event}
use Rattle.md_engine.specs.declared.event.Name.TheVariants as n
use Rattle.md_engine.specs.declared.event.Point.{Point}
use Rattle.md_events.specs.Events.Grammar.{Expression, Then, next_line, one}
use Rattle.md_events.specs.Events.Grammar as grammar
use Rattle.md_events.specs.Events.Nested.{around, pair}
use Rattle.md_events.specs.Events.Spelled.{HeadingSetextLeaf, OpenLeaf}
use Rattle.md_registry.specs.Registry.{turn_leaf}
use Rattle.proof_frame.specs.Row.{Row, last_row, turned_by}
use Rattle.proof_frame.proofs.LeafLines.Cuts.{ending-is}

-- The text, from this point to that.
abbrev pub text_events : Point → Point → List Event → List Event
text_events p q text = around turn_leaf.text p q text

-- After the text: its ending, and prefixes of the containers.
abbrev pub gap_events : Point → Point → List Event → List Event
gap_events p q front = pair n.LineEnding p q ++ front

-- All of it.
abbrev pub inside_events : Row → List Row → Row → Point → List Event → List Event
inside_events row rows under after text =
    (text_events row.first (last_row row rows).end text ++ gap_events (last_row row rows).end after under.front)
    ++ under.inside

pub turned-is : (row : Row) (rows : List Row) (under : Row) (after : Point) (text : List Event) →
    (last_row row rows).after ≡ Some after →
    turned_by turn_leaf text row rows under ≡
    around turn_leaf.name row.first under.end (inside_events row rows under after text)
turned-is row rows under after text after_is =
    ap
    (λ (es : List Event).
    around turn_leaf.name row.first under.end (whole ++ es ++ under.front ++ under.inside))
    (ending-is n.LineEnding last after after_is)
    ∙ ap (λ (es : List Event). around turn_leaf.name row.first under.end (es ++ under.inside))
    (append_assoc whole (pair n.LineEnding last.end after) under.front)
  where
    last : Row
    last = last_row row rows

    whole : List Event
    whole = text_events row.first last.end text

-- Of the grammar: what is in such a heading, what is left of it after its text, and before its underline.
abbrev pub heading_left : Expression
heading_left = grammar.inside grammar.plain_text turn_leaf.name

abbrev pub under_left : Expression
under_left = Then next_line (one n.HeadingSetextUnderline)

abbrev pub line_left : Expression
line_left = grammar.following n.LineEnding under_left

-- As it is read: a heading with these markers, and these lines.
abbrev pub so_far : List ℕ → List (List ℕ) → OpenLeaf
so_far markers text = HeadingSetextLeaf (record { markers = markers; text = text })
