-- What the markers of items and the labels of footnotes mean.
use Rattle.std.specs.Prelude.{ℕ, ◌+◌, List, take, drop, Option, Some, None}
use Rattle.std.specs.Option.{option_map}
use Rattle.md_meaning.specs.Containers as c
use Rattle.reference_tree.specs.declared.containers.Marker.{Marker}

abbrev pub marker_meaning : Marker → c.Marker
marker_meaning m = record { digits = m.digits.now; byte = m.byte }

abbrev pub marker_option : Option Marker → Option c.Marker
marker_option o = option_map marker_meaning o

-- a label of so many bytes, and what follows its bracket
abbrev pub label_split : Option ℕ → List ℕ → Option c.Labelled
label_split None bytes = None
label_split (Some n) bytes = Some (record { label = take n bytes; after = drop (n + 1) bytes })
