-- The footnote definition: what each of its states does where it opens. The states of an item have it continue.
use Rattle.std.specs.Prelude.{refl, ℕ, ◌+◌, ◌≤◌, Bool, true, false, ◌||◌, ◌==◌, if◌then◌else◌, nat_le, Option}
use Rattle.std.specs.Prelude.{Some, None}
use Rattle.md_engine.specs.declared.event.Content.TheVariants as content
use Rattle.md_engine.specs.declared.event.Link.{Link}
use Rattle.md_engine.specs.declared.event.Name.TheVariants.{Data, DefinitionMarker, GfmFootnoteDefinition}
use Rattle.md_engine.specs.declared.event.Name.TheVariants.{GfmFootnoteDefinitionLabel}
use Rattle.md_engine.specs.declared.event.Name.TheVariants.{GfmFootnoteDefinitionLabelMarker}
use Rattle.md_engine.specs.declared.event.Name.TheVariants.{GfmFootnoteDefinitionLabelString}
use Rattle.md_engine.specs.declared.event.Name.TheVariants.{GfmFootnoteDefinitionMarker, GfmFootnoteDefinitionPrefix}
use Rattle.md_engine.specs.declared.state.Name.{Name as StateName}
use Rattle.md_engine.specs.declared.state.Name.TheVariants as n
use Rattle.md_engine.specs.declared.state.State.TheVariants.{Ok, Nok, Next, Retry}
use Rattle.md_engine.specs.declared.state.gfm_footnote_definition.State.{State as FootnoteState}
use Rattle.md_engine.specs.declared.state.gfm_footnote_definition.State.TheVariants as its
use Rattle.md_engine.specs.Scheme.{After, Ends, Rank, Scheme, Position, ranked}
use Rattle.md_engine.specs.World.{Flags, World}
use Rattle.md_containers.specs.Item.{without_size}
use Rattle.md_meaning.specs.Ascii.{backslash, caret, colon, left_bracket, right_bracket}
use Rattle.md_meaning.specs.Containers.{is_label_mark}
use Rattle.md_meaning.specs.Rest.{is_white}
use Rattle.md_leaves.specs.LeafStart as leaf
use Rattle.md_events.specs.Spaces.{IsRest, any_size, is_current, later_ready, rest_ready, sees_white, white_then}
use Rattle.md_events.specs.Transition.{Transition, entered, entered_link, exited, taken}

-- what may be first after the indent where a footnote definition opens: `[`
abbrev pub may_begin : ℕ → Bool
may_begin b = b == left_bracket

-- a label has at most so many bytes
abbrev pub most : ℕ
most = 999

-- a further line loses so many columns
abbrev pub footnote_width : ℕ
footnote_width = 4

-- the text of the label is read later, as text with escapes and references
abbrev pub label_link : Link
label_link = record { previous = false; next = false; content = content.String }

-- what ends a label that is none: whitespace, the end of the line, and a bare `[`
abbrev pub breaks_label : ℕ → Bool
breaks_label b = (is_white b || (b == 10)) || (b == left_bracket)

-- it is no footnote definition
abbrev pub refused : World → Transition
refused w = record { to = Nok; world = record w { scratch = without_size w.scratch } }

abbrev pub is_continued : FootnoteState → World → Transition
is_continued state w = record { to = Next (n.GfmFootnoteDefinition state); world = w }

abbrev pub start_transition : World → Transition
start_transition w =
    leaf.start_transition GfmFootnoteDefinition (n.GfmFootnoteDefinition its.LabelBefore)
    w.setting.options.constructs.gfm_footnote_definition w

-- by whether `[` is here
abbrev pub label_before_code : World → Bool → Transition
label_before_code w true =
    is_continued its.LabelAtMarker
    (exited
    (taken
    (entered (entered (entered w GfmFootnoteDefinitionPrefix) GfmFootnoteDefinitionLabel)
    GfmFootnoteDefinitionLabelMarker))
    GfmFootnoteDefinitionLabelMarker)
label_before_code w false = record { to = Nok; world = w }

-- by whether `^` is here
abbrev pub label_at_marker_code : World → Bool → Transition
label_at_marker_code w true =
    is_continued its.LabelInside
    (entered_link
    (entered (exited (taken (entered w GfmFootnoteDefinitionMarker)) GfmFootnoteDefinitionMarker)
    GfmFootnoteDefinitionLabelString)
    Data label_link)
label_at_marker_code w false = record { to = Nok; world = w }

-- a byte of the label, if there is room for it
abbrev pub taken_as : World → FootnoteState → Transition
taken_as w state =
    if nat_le most w.scratch.size then refused w
    else is_continued state (record (taken w) { scratch = record w.scratch { size = w.scratch.size + 1 } })

-- at the `]` that ends the label, by whether it is empty
abbrev pub closed_code : World → Bool → Transition
closed_code w true = refused w
closed_code w false =
    is_continued its.LabelAfter
    (record (exited
    (exited
    (taken (entered (exited (exited w Data) GfmFootnoteDefinitionLabelString) GfmFootnoteDefinitionLabelMarker))
    GfmFootnoteDefinitionLabelMarker)
    GfmFootnoteDefinitionLabel) { scratch = without_size w.scratch })

-- by what is here
abbrev pub label_inside_code : World → Option ℕ → Transition
label_inside_code w None = refused w
label_inside_code w (Some b) =
    if b == right_bracket then closed_code w (w.scratch.size == 0)
    else if breaks_label b then refused w
    else taken_as w (if b == backslash then its.LabelEscape else its.LabelInside)

-- by whether a backslash takes what is here
abbrev pub label_escape_code : World → Bool → Transition
label_escape_code w true = taken_as w its.LabelInside
label_escape_code w false = record { to = Retry (n.GfmFootnoteDefinition its.LabelInside); world = w }

-- by whether `:` is here
abbrev pub label_after_code : World → Bool → Transition
label_after_code w true = is_continued its.MarkerAfter (exited (taken (entered w DefinitionMarker)) DefinitionMarker)
label_after_code w false = record { to = Nok; world = w }

-- by whether whitespace is here
abbrev pub marker_after_code : World → Bool → Transition
marker_after_code w true = white_then w 1 any_size (Next (n.GfmFootnoteDefinition its.WhitespaceAfter)) Nok
marker_after_code w false = record { to = Retry (n.GfmFootnoteDefinition its.WhitespaceAfter); world = w }

-- the footnote definition that opens is held
abbrev pub footnote_held : Flags → Flags
footnote_held g = record g { asked = record g.asked { width = footnote_width; starts_blank = false } }

-- Each state with what it does, where there is memory.

abbrev pub label_before_transition : World → Transition
label_before_transition w = label_before_code w (is_current left_bracket w.current)

abbrev pub label_at_marker_transition : World → Transition
label_at_marker_transition w = label_at_marker_code w (is_current caret w.current)

abbrev pub label_inside_transition : World → Transition
label_inside_transition w = label_inside_code w w.current

-- whether a backslash takes this
abbrev pub sees_mark : Option ℕ → Bool
sees_mark None = false
sees_mark (Some b) = is_label_mark b

abbrev pub label_escape_transition : World → Transition
label_escape_transition w = label_escape_code w (sees_mark w.current)

abbrev pub label_after_transition : World → Transition
label_after_transition w = label_after_code w (is_current colon w.current)

abbrev pub marker_after_transition : World → Transition
marker_after_transition w = marker_after_code w (sees_white w.current)

abbrev pub whitespace_after_transition : World → Transition
whitespace_after_transition w = record {
  to = Ok;
  world = record (exited w GfmFootnoteDefinitionPrefix) { flags = footnote_held w.flags };
}

-- all of them
abbrev pub footnote_transition : FootnoteState → World → Transition
footnote_transition its.Start w = start_transition w
footnote_transition its.LabelBefore w = label_before_transition w
footnote_transition its.LabelAtMarker w = label_at_marker_transition w
footnote_transition its.LabelInside w = label_inside_transition w
footnote_transition its.LabelEscape w = label_escape_transition w
footnote_transition its.LabelAfter w = label_after_transition w
footnote_transition its.MarkerAfter w = marker_after_transition w
footnote_transition its.WhitespaceAfter w = whitespace_after_transition w

-- Readiness.

-- in the label the bytes of it that were read are counted, of which there are not too many
pub record IsInLabel (x : Position) : Type 0 where
  pub size : x.scratch.size ≤ most
  pub rest : IsRest (without_size x.scratch)

-- it ends after `[`, and so after the point where it begins
abbrev pub footnote_ready : StateName → Position → After → Type 0
footnote_ready (n.GfmFootnoteDefinition its.LabelInside) x K = IsInLabel x × Ends IsRest IsRest x K
footnote_ready (n.GfmFootnoteDefinition its.LabelEscape) x K = IsInLabel x × Ends IsRest IsRest x K
footnote_ready (n.GfmFootnoteDefinition its.Start) x K = later_ready x K
footnote_ready (n.GfmFootnoteDefinition its.LabelBefore) x K = later_ready x K
footnote_ready _ x K = rest_ready x K

-- what the rule of a footnote definition needs at a state: no more bytes of the label were read than it may have
abbrev pub FootnoteInvariant : StateName → Position → Type 0
FootnoteInvariant (n.GfmFootnoteDefinition its.LabelInside) x = x.scratch.size ≤ most
FootnoteInvariant _ x = Unit {0}

abbrev pub footnote_rank : StateName → Position → Rank
footnote_rank (n.GfmFootnoteDefinition its.Start) x = ranked 4 refl
footnote_rank (n.GfmFootnoteDefinition its.LabelEscape) x = ranked 2 refl
footnote_rank (n.GfmFootnoteDefinition its.MarkerAfter) x = ranked 3 refl
footnote_rank _ x = ranked 1 refl

abbrev pub footnote_tries : StateName → Rank
footnote_tries (n.GfmFootnoteDefinition its.LabelBefore) = ranked 3 refl
footnote_tries _ = ranked 2 refl

abbrev pub footnote_scheme : Scheme
footnote_scheme = record { ready = footnote_ready; level = λ n. 1; rank = footnote_rank; tries = footnote_tries }
