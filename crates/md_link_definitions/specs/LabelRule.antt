-- The rule of a label, as what is left of it at each state (CommonMark 6.3).
use Rattle.std.specs.Prelude.{◌≡◌, ℕ, ◌+◌, Bool, true, false, ◌&&◌, ◌||◌, ◌==◌, not, if◌then◌else◌, nat_le, List, []}
use Rattle.std.specs.Prelude.{◌∷◌, ◌++◌, Option, Some, None}
use Rattle.md_meaning.specs.Ascii.{left_bracket, right_bracket}
use Rattle.md_meaning.specs.Rest.{is_white}
use Rattle.md_engine.specs.declared.event.Event.{Event}
use Rattle.md_engine.specs.declared.event.Name.TheVariants.{DefinitionLabel, DefinitionLabelMarker}
use Rattle.md_engine.specs.declared.event.Name.TheVariants.{DefinitionLabelString}
use Rattle.md_engine.specs.declared.event.Point.{Point}
use Rattle.md_engine.specs.declared.state.Name.TheVariants as n
use Rattle.md_engine.specs.declared.state.label.State.{State as LabelState}
use Rattle.md_engine.specs.declared.state.label.State.TheVariants as its
use Rattle.md_engine.specs.declared.state.State.{State}
use Rattle.md_engine.specs.Meaning.{Accepts, Behaviour, Cell, Here, Outcome, Refuses}
use Rattle.md_engine.specs.Scheme.{position}
use Rattle.md_engine.specs.Sees.{IsStep}
use Rattle.md_engine.specs.World.{World}
use Rattle.md_link_definitions.specs.Chunks.{before_mark, chunks, from_mark}
use Rattle.md_link_definitions.specs.Label.{LabelInvariant, is_bracket, most, unlabelled, label_transition}
use Rattle.md_events.specs.Ahead.{point_after}
use Rattle.md_events.specs.Events.Nested.{around, enter, exit, pair}
use Rattle.md_events.specs.States.{IsState, IsSureState}
use Rattle.md_engine.specs.declared.tokenizer.Tokenizer.{Tokenizer}
use Rattle.md_engine.specs.Full.{IsFull}

-- whether something else than whitespace and line endings is among these cells
abbrev pub has_text : List Cell → Bool
has_text [] = false
has_text (c ∷ cs) = not (is_white c.byte || (c.byte == 10)) || has_text cs

-- How many bytes of these cells count, from a point on: a tab at its first column, no line ending, and no whitespace
-- before a further line. `led` says that the cells may begin with such whitespace.
abbrev pub text_size : Bool → List Cell → Point → ℕ
text_size led [] p = 0
text_size led (c ∷ cs) p =
    if (c.byte == 10) || (led && is_white c.byte) then text_size true cs c.after
    else (if p.vs == 0 then 1 else 0) + text_size false cs c.after

-- what is around the text: the label begins at `[`, and ends at `]`
abbrev pub label_opened : Cell → Point → List Event
label_opened c p =
    enter DefinitionLabel p ∷ pair DefinitionLabelMarker p c.after ++ enter DefinitionLabelString c.after ∷ []

abbrev pub label_ended : Cell → Point → List Event
label_ended c p =
    exit DefinitionLabelString p ∷ pair DefinitionLabelMarker p c.after ++ exit DefinitionLabel c.after ∷ []

-- after the text
abbrev pub label_closed : List Cell → Here → Outcome
label_closed [] h = Refuses h.scratch h.flags
label_closed (c ∷ cs) h =
    if c.byte == right_bracket
    then Accepts (record h { events = h.events ++ label_ended c h.point; point = c.after }) cs
    else Refuses h.scratch h.flags

-- Whether a text may be a label's, by what was read of it and by what is left: something is in it, and not too much.
abbrev pub is_text_of : Bool → List Cell → Here → Bool
is_text_of led text h =
    (h.scratch.seen || has_text text) && nat_le (h.scratch.size + text_size led text h.point) most

-- What is left of a label in its text: in whitespace before a further line, or not; where a chunk has begun, or not;
-- and after a backslash, or not.
unfoldable pub in_label : Bool → Bool → Bool → List Cell → Here → Outcome
in_label led begun escaped cells h =
    let text = before_mark is_bracket escaped cells in
    if is_text_of led text h
    then label_closed (from_mark is_bracket escaped cells)
    (record h {
      events = h.events ++ chunks begun text h.point;
      point = point_after text h.point;
      scratch = unlabelled h.scratch;
    })
    else Refuses (unlabelled h.scratch) h.flags

-- the whole rule: `[`, a text, and `]`
unfoldable pub label_at : List Cell → Here → Outcome
label_at [] h = Refuses h.scratch h.flags
label_at (c ∷ cs) h =
    if c.byte == left_bracket
    then in_label false false false cs (record h { events = h.events ++ label_opened c h.point; point = c.after })
    else Refuses h.scratch h.flags

-- what is left at each state
abbrev pub label_behaves : LabelState → List Cell → Here → Outcome
label_behaves its.Start cells h = label_at cells h
label_behaves its.AtBreak cells h = in_label h.scratch.connect false false cells h
label_behaves its.EolAfter cells h = in_label true true false cells h
label_behaves its.Inside cells h = in_label false true false cells h
label_behaves its.Escape cells h = in_label false true true cells h
label_behaves its.Nok cells h = Refuses h.scratch h.flags

pub record HasLabel (B : Behaviour) : Type 0 where
  pub each : (state : LabelState) (cells : List Cell) (h : Here) →
      B (n.Label state) cells h ≡ label_behaves state cells h

-- A label as a whole: its brackets, its text, and what follows it.

pub record LabelParts : Type 0 where
  pub opener : Cell
  pub text : List Cell
  pub closer : Cell
  pub rest : List Cell

-- whether these cells may be its text, from a point on: something is in it, and not too much
abbrev pub is_label_text : List Cell → Point → Bool
is_label_text text p = has_text text && nat_le (text_size false text p) most

-- that of this `[` and text, if that may be its text and the first of these cells is `]`
abbrev pub label_from : Cell → List Cell → List Cell → Option LabelParts
label_from c text [] = None
label_from c text (d ∷ ds) =
    if is_label_text text c.after && (d.byte == right_bracket)
    then Some (record { opener = c; text = text; closer = d; rest = ds })
    else None

-- the label that these cells begin with, if they begin with one
unfoldable pub label_parts : List Cell → Option LabelParts
label_parts [] = None
label_parts (c ∷ cs) =
    if c.byte == left_bracket
    then label_from c (before_mark is_bracket false cs) (from_mark is_bracket false cs)
    else None

-- the events of one that begins here
abbrev pub label_events : LabelParts → Point → List Event
label_events t p =
    let q = t.opener.after in
    let r = point_after t.text q in
    around DefinitionLabel p t.closer.after
    (pair DefinitionLabelMarker p q ++ around DefinitionLabelString q r (chunks false t.text q)
    ++ pair DefinitionLabelMarker r t.closer.after)

-- what a state of a label means: where what it needs holds, its call is one step of the rule
unfoldable pub LabelMeans : LabelState → World → State → World → Type 0
LabelMeans state old to new =
    LabelInvariant (n.Label state) (position old) →
    IsStep HasLabel (n.Label state) to old new

-- what a state of a label promises
abbrev pub IsLabelState : LabelState → World → State → Tokenizer → Type 0
IsLabelState state old answer new = IsState (label_transition state old) (LabelMeans state old) (IsFull new) answer new

-- the same of a state that wants no memory
abbrev pub IsSureLabelState : LabelState → World → State → Tokenizer → Type 0
IsSureLabelState state old answer new = IsSureState (label_transition state old) (LabelMeans state old) answer new
