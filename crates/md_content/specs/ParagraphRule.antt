-- What is left of a paragraph at each state: it continues to the end of the text.
use Rattle.std.specs.Prelude.{◌≡◌, ◌==◌, if◌then◌else◌, List, [], ◌∷◌, ◌++◌}
use Rattle.md_engine.specs.declared.event.Event.{Event}
use Rattle.md_engine.specs.declared.event.Name.TheVariants as parts
use Rattle.md_engine.specs.declared.event.Point.{Point}
use Rattle.md_engine.specs.declared.state.Name.TheVariants as n
use Rattle.md_engine.specs.declared.state.paragraph.State.{State as ParagraphState}
use Rattle.md_engine.specs.declared.state.paragraph.State.TheVariants as its
use Rattle.md_engine.specs.declared.state.State.{State}
use Rattle.md_engine.specs.Meaning.{Accepts, Behaviour, Cell, Here, Outcome}
use Rattle.md_engine.specs.Sees.{IsStep}
use Rattle.md_engine.specs.World.{World}
use Rattle.md_content.specs.Paragraph.{text_link, paragraph_transition}
use Rattle.md_events.specs.Ahead.{point_after}
use Rattle.md_events.specs.Events.Nested.{enter, enter_link, exit}
use Rattle.md_events.specs.States.{IsState}
use Rattle.md_engine.specs.declared.tokenizer.Tokenizer.{Tokenizer}
use Rattle.md_engine.specs.Full.{IsFull}

-- each line is one part with its ending, of which the first has begun
abbrev pub line_events : List Cell → Point → List Event
line_events [] p = exit parts.Data p ∷ []
line_events (c ∷ cs) p =
    if c.byte == 10 then exit parts.Data c.after ∷ enter_link parts.Data c.after text_link ∷ line_events cs c.after
    else line_events cs c.after

-- the whole paragraph from a point on, over these cells
abbrev pub paragraph_over : List Cell → Point → List Event
paragraph_over cells p =
    enter parts.Paragraph p ∷ enter_link parts.Data p text_link ∷ line_events cells p
    ++ exit parts.Paragraph (point_after cells p) ∷ []

unfoldable pub inside_paragraph : List Cell → Here → Outcome
inside_paragraph cells h =
    let p = point_after cells h.point in
    Accepts (record h { events = h.events ++ line_events cells h.point ++ exit parts.Paragraph p ∷ []; point = p }) []

-- from the start of a line
unfoldable pub paragraph_line : List Cell → Here → Outcome
paragraph_line cells h =
    inside_paragraph cells (record h { events = h.events ++ enter_link parts.Data h.point text_link ∷ [] })

-- the whole paragraph
unfoldable pub paragraph_at : List Cell → Here → Outcome
paragraph_at cells h = paragraph_line cells (record h { events = h.events ++ enter parts.Paragraph h.point ∷ [] })

-- what is left at each state
abbrev pub paragraph_behaves : ParagraphState → List Cell → Here → Outcome
paragraph_behaves its.Start cells h = paragraph_at cells h
paragraph_behaves its.LineStart cells h = paragraph_line cells h
paragraph_behaves its.Inside cells h = inside_paragraph cells h

pub record HasParagraph (B : Behaviour) : Type 0 where
  pub each : (state : ParagraphState) (cells : List Cell) (h : Here) →
      B (n.Paragraph state) cells h ≡ paragraph_behaves state cells h

-- what a state of a paragraph means: its call is one step of the rule
unfoldable pub ParagraphMeans : ParagraphState → World → State → World → Type 0
ParagraphMeans state old to new = IsStep HasParagraph (n.Paragraph state) to old new

-- what a state of a paragraph promises
abbrev pub IsParagraphState : ParagraphState → World → State → Tokenizer → Type 0
IsParagraphState state old answer new =
    IsState (paragraph_transition state old) (ParagraphMeans state old) (IsFull new) answer new
