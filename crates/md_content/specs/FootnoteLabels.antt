-- The labels of the footnote definitions among events, be their text parts read or not. Such a label is of one line, so
-- it is what is between its begin and its end.
use Rattle.std.specs.Prelude.{ℕ, Bool, true, false, ◌&&◌, if◌then◌else◌, List, [], ◌∷◌, slice_range}
use Rattle.md_engine.specs.declared.event.Event.{Event}
use Rattle.md_engine.specs.declared.event.Name.{Name}
use Rattle.md_engine.specs.declared.event.Name.TheVariants as n
use Rattle.md_meaning.specs.Label.{normal_form}
use Rattle.md_events.specs.Events.Nested.{is_enter, is_exit}
use Rattle.md_events.specs.Events.Spelled.{byte_at}

abbrev pub is_footnote_label : Name → Bool
is_footnote_label n.GfmFootnoteDefinitionLabelString = true
is_footnote_label _ = false

-- the normal forms of those that end among these events, where the last to begin began at this byte
abbrev pub footnote_labels_from : List ℕ → ℕ → List Event → List (List ℕ)
footnote_labels_from bytes from [] = []
footnote_labels_from bytes from (e ∷ es) =
    if is_enter e.kind && is_footnote_label e.name then footnote_labels_from bytes (byte_at e.point) es
    else if is_exit e.kind && is_footnote_label e.name
    then normal_form (slice_range bytes from e.point.index ∷ []) ∷ footnote_labels_from bytes from es
    else footnote_labels_from bytes from es

-- the normal forms of all of them, in the order of the text, repeats kept
abbrev pub footnote_labels_in : List ℕ → List Event → List (List ℕ)
footnote_labels_in bytes events = footnote_labels_from bytes 0 events
