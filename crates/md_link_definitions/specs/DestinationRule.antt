-- The rule of a destination, as what is left of it at each state (CommonMark 6.3).
use Rattle.std.specs.Prelude.{◌≡◌, ℕ, suc, Bool, true, false, ◌==◌, if◌then◌else◌, List, [], ◌∷◌, ◌++◌, length, take}
use Rattle.std.specs.Prelude.{drop, Option, Some, None}
use Rattle.std.specs.List.{take_while}
use Rattle.md_meaning.specs.Ascii.{greater_than, less_than}
use Rattle.md_meaning.specs.Definition.{Destination, balanced, is_raw_byte}
use Rattle.md_meaning.specs.Enclosed.{Broken, Closed, Enclosed, Open, enclosed}
use Rattle.md_engine.specs.declared.event.Event.{Event}
use Rattle.md_engine.specs.declared.event.Name.TheVariants.{Data, DefinitionDestination, DefinitionDestinationLiteral}
use Rattle.md_engine.specs.declared.event.Name.TheVariants.{DefinitionDestinationLiteralMarker}
use Rattle.md_engine.specs.declared.event.Name.TheVariants.{DefinitionDestinationRaw, DefinitionDestinationString}
use Rattle.md_engine.specs.declared.event.Point.{Point}
use Rattle.md_engine.specs.declared.state.Name.TheVariants as n
use Rattle.md_engine.specs.declared.state.destination.State.{State as DestinationState}
use Rattle.md_engine.specs.declared.state.destination.State.TheVariants as its
use Rattle.md_engine.specs.declared.state.State.{State}
use Rattle.md_engine.specs.Meaning.{Accepts, Behaviour, Cell, Here, Outcome, Refuses}
use Rattle.md_engine.specs.Scheme.{position}
use Rattle.md_engine.specs.Sees.{IsStep}
use Rattle.md_engine.specs.World.{World}
use Rattle.md_link_definitions.specs.Chunks.{string_link}
use Rattle.md_link_definitions.specs.Destination.{DestinationInvariant, without_size, destination_transition}
use Rattle.md_events.specs.Ahead.{line_bytes, point_after}
use Rattle.md_events.specs.Events.Nested.{enter, enter_link, exit, pair}
use Rattle.md_events.specs.States.{IsState, IsSureState}
use Rattle.md_engine.specs.declared.tokenizer.Tokenizer.{Tokenizer}
use Rattle.md_engine.specs.Full.{IsFull}

-- where the text begins, and ends
abbrev pub text_begin : Point → List Event
text_begin p = enter DefinitionDestinationString p ∷ enter_link Data p string_link ∷ []

abbrev pub text_end : Point → List Event
text_end p = exit Data p ∷ exit DefinitionDestinationString p ∷ []

-- the whole text, if there is some
abbrev pub text_part : List ℕ → Point → Point → List Event
text_part [] p q = []
text_part (b ∷ bytes) p q = text_begin p ++ text_end q

-- Between angle brackets.

-- the `<`, and the `>` that ends a destination
abbrev pub literal_begin : Point → Point → List Event
literal_begin p q =
    enter DefinitionDestination p ∷ enter DefinitionDestinationLiteral p ∷ pair DefinitionDestinationLiteralMarker p q

abbrev pub literal_end : Point → Point → List Event
literal_end p q =
    pair DefinitionDestinationLiteralMarker p q
    ++ exit DefinitionDestinationLiteral q ∷ exit DefinitionDestination q ∷ []

-- to the `>` that closes the text that was found, of which this is left; else there is none
abbrev pub literal_by : (List ℕ → Point → Point → List Event) → List Cell → Here → Enclosed → Outcome
literal_by left cells h (Closed text rest) =
    let p = point_after (take (length text) cells) h.point in
    let q = point_after (take (suc (length text)) cells) h.point in
    Accepts
    (record h { events = h.events ++ left text h.point p ++ literal_end p q; point = q })
    (drop (suc (length text)) cells)
literal_by left cells h Open = Refuses h.scratch h.flags
literal_by left cells h Broken = Refuses h.scratch h.flags

-- in the text, by whether a backslash is in front
unfoldable pub in_literal : Bool → List Cell → Here → Outcome
in_literal escaped cells h =
    literal_by (λ text p q. text_end q) cells h (enclosed less_than greater_than escaped (line_bytes cells))

-- after the `<`, or at the `>`
unfoldable pub before_literal : List Cell → Here → Outcome
before_literal cells h = literal_by text_part cells h (enclosed less_than greater_than false (line_bytes cells))

-- Without them.

abbrev pub raw_begin : Point → List Event
raw_begin p = enter DefinitionDestination p ∷ enter DefinitionDestinationRaw p ∷ text_begin p

abbrev pub raw_end : Point → List Event
raw_end p = text_end p ++ exit DefinitionDestinationRaw p ∷ exit DefinitionDestination p ∷ []

-- in the text, by whether a backslash is in front: so many parentheses are open, and all are closed in it
unfoldable pub in_raw : Bool → List Cell → Here → Outcome
in_raw escaped cells h =
    let text = take_while is_raw_byte (line_bytes cells) in
    let p = point_after (take (length text) cells) h.point in
    if balanced h.scratch.size escaped text
    then Accepts
    (record h { events = h.events ++ raw_end p; point = p; scratch = without_size h.scratch })
    (drop (length text) cells)
    else Refuses (without_size h.scratch) h.flags

-- The whole rule.
unfoldable pub destination_at : List Cell → Here → Outcome
destination_at [] h = Refuses h.scratch h.flags
destination_at (c ∷ cs) h =
    if c.byte == less_than
    then before_literal cs (record h { events = h.events ++ literal_begin h.point c.after; point = c.after })
    else if is_raw_byte c.byte
    then in_raw false (c ∷ cs) (record h { events = h.events ++ raw_begin h.point })
    else Refuses h.scratch h.flags

-- what is left at each state
abbrev pub destination_behaves : DestinationState → List Cell → Here → Outcome
destination_behaves its.Start cells h = destination_at cells h
destination_behaves its.EnclosedBefore cells h = before_literal cells h
destination_behaves its.Enclosed cells h = in_literal false cells h
destination_behaves its.EnclosedEscape cells h = in_literal true cells h
destination_behaves its.Raw cells h = in_raw false cells h
destination_behaves its.RawEscape cells h = in_raw true cells h

pub record HasDestination (B : Behaviour) : Type 0 where
  pub each : (state : DestinationState) (cells : List Cell) (h : Here) →
      B (n.Destination state) cells h ≡ destination_behaves state cells h

-- As a whole.

-- whether an angle bracket comes first
abbrev pub begins_literal : List Cell → Bool
begins_literal [] = false
begins_literal (c ∷ cs) = c.byte == less_than

-- after so many cells
abbrev pub after_cells : ℕ → List Cell → Point → Point
after_cells n cells p = point_after (take n cells) p

-- The events of a destination with this text that is first: between angle brackets,
abbrev pub literal_part : List ℕ → List Cell → Point → List Event
literal_part text cells p =
    let q = after_cells 1 cells p in
    let r = after_cells (suc (length text)) cells p in
    literal_begin p q ++ text_part text q r ++ literal_end r (after_cells (suc (suc (length text))) cells p)

-- and without them
abbrev pub raw_part : List ℕ → List Cell → Point → List Event
raw_part text cells p = raw_begin p ++ raw_end (after_cells (length text) cells p)

-- By whether it is between angle brackets: its events, and how many cells it takes.
abbrev pub destination_part : Bool → List ℕ → List Cell → Point → List Event
destination_part true text cells p = literal_part text cells p
destination_part false text cells p = raw_part text cells p

abbrev pub destination_size : Bool → List ℕ → ℕ
destination_size true text = suc (suc (length text))
destination_size false text = length text

-- the destination that is found before some cells, or none
abbrev pub destination_by : List Cell → Here → Option Destination → Outcome
destination_by cells h None = Refuses h.scratch h.flags
destination_by cells h (Some d) =
    let size = destination_size (begins_literal cells) d.text in
    Accepts
    (record h {
      events = h.events ++ destination_part (begins_literal cells) d.text cells h.point;
      point = after_cells size cells h.point;
    })
    (drop size cells)

-- The cells of its text, and where they begin.
abbrev pub text_cells : Bool → List ℕ → List Cell → List Cell
text_cells true text cells = take (length text) (drop 1 cells)
text_cells false text cells = take (length text) cells

abbrev pub text_first : Bool → List Cell → Point → Point
text_first true cells p = after_cells 1 cells p
text_first false cells p = p

-- where it ends, and what follows it
abbrev pub destination_last : Destination → List Cell → Point → Point
destination_last d cells p = after_cells (destination_size (begins_literal cells) d.text) cells p

abbrev pub destination_left : Destination → List Cell → List Cell
destination_left d cells = drop (destination_size (begins_literal cells) d.text) cells

-- what a state of a destination means: where what it needs holds, its call is one step of the rule
unfoldable pub DestinationMeans : DestinationState → World → State → World → Type 0
DestinationMeans state old to new =
    DestinationInvariant (n.Destination state) (position old) →
    IsStep HasDestination (n.Destination state) to old new

-- what a state of a destination promises
abbrev pub IsDestinationState : DestinationState → World → State → Tokenizer → Type 0
IsDestinationState state old answer new =
    IsState (destination_transition state old) (DestinationMeans state old) (IsFull new) answer new

-- the same of a state that wants no memory
abbrev pub IsSureDestinationState : DestinationState → World → State → Tokenizer → Type 0
IsSureDestinationState state old answer new =
    IsSureState (destination_transition state old) (DestinationMeans state old) answer new
