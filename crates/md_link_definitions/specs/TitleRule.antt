-- The rule of the title of a definition, as what is left of it at each state (CommonMark 6.3).
use Rattle.std.specs.Prelude.{◌≡◌, ◌==◌, if◌then◌else◌, ℕ, Bool, true, false, List, [], ◌∷◌, ◌++◌, Option, Some, None}
use Rattle.md_meaning.specs.Definition.{title_closer}
use Rattle.md_engine.specs.declared.event.Event.{Event}
use Rattle.md_engine.specs.declared.event.Name.TheVariants.{Data, DefinitionTitle, DefinitionTitleMarker}
use Rattle.md_engine.specs.declared.event.Name.TheVariants.{DefinitionTitleString}
use Rattle.md_engine.specs.declared.event.Point.{Point}
use Rattle.md_engine.specs.declared.state.Name.TheVariants as n
use Rattle.md_engine.specs.declared.state.title.State.{State as TitleState}
use Rattle.md_engine.specs.declared.state.title.State.TheVariants as its
use Rattle.md_engine.specs.declared.state.State.{State}
use Rattle.md_engine.specs.Meaning.{Accepts, Behaviour, Cell, Here, Outcome, Refuses}
use Rattle.md_engine.specs.Scheme.{position}
use Rattle.md_engine.specs.Sees.{IsStep}
use Rattle.md_engine.specs.World.{World}
use Rattle.md_link_definitions.specs.Chunks.{before_mark, chunks, from_mark}
use Rattle.md_link_definitions.specs.Title.{TitleInvariant, is_mark, marked, unmarked, title_transition}
use Rattle.md_events.specs.Ahead.{point_after}
use Rattle.md_events.specs.Events.Nested.{around, enter, exit, pair}
use Rattle.md_events.specs.States.{IsState, IsSureState}
use Rattle.md_engine.specs.declared.tokenizer.Tokenizer.{Tokenizer}
use Rattle.md_engine.specs.Full.{IsFull}

-- what is left of the text part, of which a line has begun or not
abbrev pub text_left : Bool → List Cell → Point → List Event
text_left begun text p = chunks begun text p ++ exit DefinitionTitleString (point_after text p) ∷ []

-- the text part, if anything is between the marks
abbrev pub title_text : List Cell → Point → List Event
title_text [] p = []
title_text (c ∷ cs) p = enter DefinitionTitleString p ∷ text_left false (c ∷ cs) p

-- the end of a title, with its closing mark
abbrev pub title_end : Point → Point → List Event
title_end p q = pair DefinitionTitleMarker p q ++ exit DefinitionTitle q ∷ []

-- a title that has this text left, with these events, and after it cells that must begin with the closing mark
abbrev pub title_by : (List Cell → Point → List Event) → List Cell → List Cell → Here → Outcome
title_by events text [] h = Refuses (unmarked h.scratch) h.flags
title_by events text (c ∷ cs) h =
    if c.byte == h.scratch.marker
    then Accepts
    (record h {
      events = h.events ++ events text h.point ++ title_end (point_after text h.point) c.after;
      point = c.after;
      scratch = unmarked h.scratch;
    })
    cs
    else Refuses (unmarked h.scratch) h.flags

-- after the opening mark
unfoldable pub after_opener : List Cell → Here → Outcome
after_opener cells h =
    let is = is_mark h.scratch.marker_b h.scratch.marker in
    title_by title_text (before_mark is false cells) (from_mark is false cells) h

-- in the text, by whether a line has begun, and whether a backslash is in front
unfoldable pub in_text : Bool → Bool → List Cell → Here → Outcome
in_text begun escaped cells h =
    let is = is_mark h.scratch.marker_b h.scratch.marker in
    title_by (text_left begun) (before_mark is escaped cells) (from_mark is escaped cells) h

-- after the ending of a line
unfoldable pub following_ending : List Cell → Here → Outcome
following_ending cells h = in_text false false cells (record h { events = h.events ++ exit Data h.point ∷ [] })

-- after this cell, which is the opening mark
abbrev pub after_cell : Cell → ℕ → Here → Here
after_cell c closer h = record h {
  events = h.events ++ enter DefinitionTitle h.point ∷ pair DefinitionTitleMarker h.point c.after;
  point = c.after;
  scratch = marked c.byte closer h.scratch;
}

-- by what closes a title that begins with this cell, if one does
abbrev pub title_from : Option ℕ → Cell → List Cell → Here → Outcome
title_from None c cs h = Refuses h.scratch h.flags
title_from (Some closer) c cs h = after_opener cs (after_cell c closer h)

-- the whole rule: an opening mark, and a text up to the mark that closes it
unfoldable pub title_at : List Cell → Here → Outcome
title_at [] h = Refuses h.scratch h.flags
title_at (c ∷ cs) h = title_from (title_closer c.byte) c cs h

-- what is left at each state
abbrev pub title_behaves : TitleState → List Cell → Here → Outcome
title_behaves its.Start cells h = title_at cells h
title_behaves its.Begin cells h = after_opener cells h
title_behaves its.AfterEol cells h = following_ending cells h
title_behaves its.AtBreak cells h = in_text false false cells h
title_behaves its.Inside cells h = in_text true false cells h
title_behaves its.Escape cells h = in_text true true cells h
title_behaves its.Nok cells h = Refuses h.scratch h.flags

pub record HasTitle (B : Behaviour) : Type 0 where
  pub each : (state : TitleState) (cells : List Cell) (h : Here) →
      B (n.Title state) cells h ≡ title_behaves state cells h

-- A title as a whole: its marks, its text, and what follows it.

pub record TitleParts : Type 0 where
  pub opener : Cell
  pub text : List Cell
  pub closer : Cell
  pub rest : List Cell

-- that of this opening mark and text, if the first of these cells is the mark that closes it
abbrev pub parts_closed : ℕ → Cell → List Cell → List Cell → Option TitleParts
parts_closed closer c text [] = None
parts_closed closer c text (d ∷ ds) =
    if d.byte == closer then Some (record { opener = c; text = text; closer = d; rest = ds }) else None

-- by what closes a title that begins with this cell, if one does
abbrev pub parts_from : Option ℕ → Cell → List Cell → Option TitleParts
parts_from None c cs = None
parts_from (Some closer) c cs =
    let is = is_mark c.byte closer in parts_closed closer c (before_mark is false cs) (from_mark is false cs)

-- the title that these cells begin with, if they begin with one
unfoldable pub title_parts : List Cell → Option TitleParts
title_parts [] = None
title_parts (c ∷ cs) = parts_from (title_closer c.byte) c cs

-- the events of one that begins here
abbrev pub title_events : TitleParts → Point → List Event
title_events t p =
    let q = t.opener.after in
    around DefinitionTitle p t.closer.after
    (pair DefinitionTitleMarker p q ++ title_text t.text q
    ++ pair DefinitionTitleMarker (point_after t.text q) t.closer.after)

-- what a state of a title means: where what it needs holds, its call is one step of the rule
unfoldable pub TitleMeans : TitleState → World → State → World → Type 0
TitleMeans state old to new =
    TitleInvariant (n.Title state) (position old) →
    IsStep HasTitle (n.Title state) to old new

-- what a state of a title promises
abbrev pub IsTitleState : TitleState → World → State → Tokenizer → Type 0
IsTitleState state old answer new = IsState (title_transition state old) (TitleMeans state old) (IsFull new) answer new

-- the same of a state that wants no memory
abbrev pub IsSureTitleState : TitleState → World → State → Tokenizer → Type 0
IsSureTitleState state old answer new = IsSureState (title_transition state old) (TitleMeans state old) answer new
