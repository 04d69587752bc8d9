-- The rule of a footnote definition where it opens, as what is left of it at each state (own choice, as on GitHub).
use Rattle.std.specs.Prelude.{◌≡◌, ℕ, ◌+◌, Bool, true, false, ◌&&◌, ◌==◌, nat_le, if◌then◌else◌, List, [], ◌∷◌, ◌++◌}
use Rattle.std.specs.Prelude.{length, Option, Some, None}
use Rattle.md_engine.specs.declared.configuration.ParseOptions.{ParseOptions}
use Rattle.md_engine.specs.declared.event.Event.{Event}
use Rattle.md_engine.specs.declared.event.Name.TheVariants.{Data, DefinitionMarker, GfmFootnoteDefinition}
use Rattle.md_engine.specs.declared.event.Name.TheVariants.{GfmFootnoteDefinitionLabel}
use Rattle.md_engine.specs.declared.event.Name.TheVariants.{GfmFootnoteDefinitionLabelMarker}
use Rattle.md_engine.specs.declared.event.Name.TheVariants.{GfmFootnoteDefinitionLabelString}
use Rattle.md_engine.specs.declared.event.Name.TheVariants.{GfmFootnoteDefinitionMarker, GfmFootnoteDefinitionPrefix}
use Rattle.md_engine.specs.declared.event.Point.{Point}
use Rattle.md_engine.specs.declared.state.Name.TheVariants as n
use Rattle.md_engine.specs.declared.state.State.{State}
use Rattle.md_engine.specs.declared.state.gfm_footnote_definition.State.{State as FootnoteState}
use Rattle.md_engine.specs.declared.state.gfm_footnote_definition.State.TheVariants as its
use Rattle.md_engine.specs.Meaning.{Accepts, Behaviour, Cell, Here, Outcome, Refuses}
use Rattle.md_engine.specs.Scheme.{position}
use Rattle.md_engine.specs.Sees.{IsStep}
use Rattle.md_engine.specs.World.{World}
use Rattle.md_containers.specs.Footnote.{FootnoteInvariant, breaks_label, footnote_held, label_link, most}
use Rattle.md_containers.specs.Footnote.{footnote_transition}
use Rattle.md_containers.specs.Item.{without_size}
use Rattle.md_containers.specs.ItemRule.{after_columns}
use Rattle.md_meaning.specs.Ascii.{backslash, caret, colon, left_bracket, right_bracket}
use Rattle.md_meaning.specs.Containers.{is_label_mark}
use Rattle.md_leaves.specs.LeafStart.{start_at}
use Rattle.md_events.specs.Ahead.{HasWhite, begins_white, white_rest}
use Rattle.md_events.specs.Events.Nested.{enter, enter_link, exit, pair}
use Rattle.md_events.specs.Spaces.{any_size}
use Rattle.md_events.specs.States.{IsState, IsSureState}
use Rattle.md_engine.specs.declared.tokenizer.Tokenizer.{Tokenizer}
use Rattle.md_engine.specs.Full.{IsFull}

-- The label.

-- the bytes of a label, where it ends, the `]` there, and what is left after that
pub record LabelCells : Type 0 where
  pub label : List ℕ
  pub end : Point
  pub closer : Cell
  pub rest : List Cell

abbrev pub with_cell : ℕ → Option LabelCells → Option LabelCells
with_cell b None = None
with_cell b (Some l) = Some (record l { label = b ∷ l.label })

-- the label up to the first `]` that no backslash takes; `escaped` says that a backslash comes before
abbrev pub label_cells : Bool → List Cell → Point → Option LabelCells
label_cells escaped [] p = None
label_cells escaped (c ∷ cs) p =
    if escaped && is_label_mark c.byte then with_cell c.byte (label_cells false cs c.after)
    else if c.byte == right_bracket then Some (record { label = []; end = p; closer = c; rest = cs })
    else if breaks_label c.byte then None
    else with_cell c.byte (label_cells (c.byte == backslash) cs c.after)

-- whether a label may have so many bytes
abbrev pub may_have : ℕ → Bool
may_have size = nat_le 1 size && nat_le size most

-- The events of the prefix.

-- from `[` on
abbrev pub bracket_events : Point → Point → List Event
bracket_events p q =
    enter GfmFootnoteDefinitionPrefix p ∷ enter GfmFootnoteDefinitionLabel p ∷ pair GfmFootnoteDefinitionLabelMarker p q

-- from `^` on
abbrev pub caret_events : Point → Point → List Event
caret_events p q =
    pair GfmFootnoteDefinitionMarker p q
    ++ enter GfmFootnoteDefinitionLabelString q ∷ enter_link Data q label_link ∷ []

-- from the end of the label on
abbrev pub label_ended : Point → Point → List Event
label_ended p q =
    exit Data p ∷ exit GfmFootnoteDefinitionLabelString p
    ∷ pair GfmFootnoteDefinitionLabelMarker p q ++ exit GfmFootnoteDefinitionLabel q ∷ []

-- What is left.

-- after the prefix: the footnote definition opens
unfoldable pub following_prefix : List Cell → Here → Outcome
following_prefix cells h =
    Accepts
    (record h { events = h.events ++ exit GfmFootnoteDefinitionPrefix h.point ∷ []; flags = footnote_held h.flags })
    cells

-- after `:` all whitespace belongs to the prefix
unfoldable pub following_colon : List Cell → Here → Outcome
following_colon cells h =
    if begins_white cells then following_prefix (white_rest any_size cells) (after_columns any_size cells h)
    else following_prefix cells h

-- after the label
unfoldable pub at_colon : List Cell → Here → Outcome
at_colon [] h = Refuses h.scratch h.flags
at_colon (c ∷ cs) h =
    if c.byte == colon
    then following_colon cs (record h { events = h.events ++ pair DefinitionMarker h.point c.after; point = c.after })
    else Refuses h.scratch h.flags

-- in the label, of which some bytes were read: it may have so many in all
abbrev pub label_by : Option LabelCells → Here → Outcome
label_by None h = Refuses (without_size h.scratch) h.flags
label_by (Some l) h =
    if may_have (h.scratch.size + length l.label)
    then at_colon l.rest
    (record h {
      events = h.events ++ label_ended l.end l.closer.after;
      point = l.closer.after;
      scratch = without_size h.scratch;
    })
    else Refuses (without_size h.scratch) h.flags

unfoldable pub in_label : Bool → List Cell → Here → Outcome
in_label escaped cells h = label_by (label_cells escaped cells h.point) h

-- after `[`
unfoldable pub at_caret : List Cell → Here → Outcome
at_caret [] h = Refuses h.scratch h.flags
at_caret (c ∷ cs) h =
    if c.byte == caret
    then in_label false cs (record h { events = h.events ++ caret_events h.point c.after; point = c.after })
    else Refuses h.scratch h.flags

-- after the indent
unfoldable pub at_bracket : List Cell → Here → Outcome
at_bracket [] h = Refuses h.scratch h.flags
at_bracket (c ∷ cs) h =
    if c.byte == left_bracket
    then at_caret cs (record h { events = h.events ++ bracket_events h.point c.after; point = c.after })
    else Refuses h.scratch h.flags

-- the whole rule, if footnote definitions are on: a small indent, and a prefix after it
abbrev pub footnote_at : ParseOptions → List Cell → Here → Outcome
footnote_at options cells h =
    start_at GfmFootnoteDefinition options.constructs.gfm_footnote_definition at_bracket options cells h

-- what is left at each state
abbrev pub footnote_behaves : ParseOptions → FootnoteState → List Cell → Here → Outcome
footnote_behaves options its.Start cells h = footnote_at options cells h
footnote_behaves options its.LabelBefore cells h = at_bracket cells h
footnote_behaves options its.LabelAtMarker cells h = at_caret cells h
footnote_behaves options its.LabelInside cells h = in_label false cells h
footnote_behaves options its.LabelEscape cells h = in_label true cells h
footnote_behaves options its.LabelAfter cells h = at_colon cells h
footnote_behaves options its.MarkerAfter cells h = following_colon cells h
footnote_behaves options its.WhitespaceAfter cells h = following_prefix cells h

pub record HasFootnote (B : Behaviour) (options : ParseOptions) : Type 0 where
  pub white : HasWhite B
  pub each : (state : FootnoteState) (cells : List Cell) (h : Here) →
      B (n.GfmFootnoteDefinition state) cells h ≡ footnote_behaves options state cells h

-- what a state of a footnote definition means: where what it needs holds, its call is one step of the rule
unfoldable pub FootnoteMeans : FootnoteState → World → State → World → Type 0
FootnoteMeans state old to new =
    FootnoteInvariant (n.GfmFootnoteDefinition state) (position old) →
    IsStep (λ B. HasFootnote B old.setting.options) (n.GfmFootnoteDefinition state) to old new

-- what a state of a footnote definition promises
abbrev pub IsFootnoteState : FootnoteState → World → State → Tokenizer → Type 0
IsFootnoteState state old answer new =
    IsState (footnote_transition state old) (FootnoteMeans state old) (IsFull new) answer new

-- the same of a state that wants no memory
abbrev pub IsSureFootnoteState : FootnoteState → World → State → Tokenizer → Type 0
IsSureFootnoteState state old answer new =
    IsSureState (footnote_transition state old) (FootnoteMeans state old) answer new
