-- The labels of the definitions among events whose text parts are not read yet (CommonMark 6.3).
use Rattle.std.specs.Prelude.{ℕ, ◌&&◌, if◌then◌else◌, List, [], ◌∷◌, ◌++◌, slice_range, Bool, true, false}
use Rattle.md_engine.specs.declared.event.Event.{Event}
use Rattle.md_engine.specs.declared.event.Name.{Name}
use Rattle.md_engine.specs.declared.event.Name.TheVariants as n
use Rattle.md_meaning.specs.Label.{normal_form}
use Rattle.md_meaning.specs.Texts.{split_lines}
use Rattle.md_events.specs.Events.Nested.{is_enter, is_exit}
use Rattle.md_events.specs.Events.Tiles.{is_data}

abbrev pub is_label : Name → Bool
is_label n.DefinitionLabelString = true
is_label _ = false

-- whether a label begins with an event
abbrev pub begins_label : Event → Bool
begins_label e = is_enter e.kind && is_label e.name

-- the text of a label that has begun: what its chunks are over, without the prefixes between them
abbrev pub label_text : List ℕ → List Event → List ℕ
label_text bytes [] = []
label_text bytes (e ∷ []) = []
label_text bytes (e ∷ f ∷ es) =
    if is_exit e.kind && is_label e.name then []
    else if is_enter e.kind && is_data e.name
    then slice_range bytes e.point.index f.point.index ++ label_text bytes (f ∷ es)
    else label_text bytes (f ∷ es)

-- the normal forms of all labels, in the order of the text, repeats kept
abbrev pub labels_in : List ℕ → List Event → List (List ℕ)
labels_in bytes [] = []
labels_in bytes (e ∷ es) =
    if is_enter e.kind && is_label e.name
    then normal_form (split_lines (label_text bytes es)) ∷ labels_in bytes es
    else labels_in bytes es
