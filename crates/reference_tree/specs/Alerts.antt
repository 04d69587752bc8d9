-- Room for the marker of an alert.
use Rattle.std.specs.Prelude.{◌≤◌, length}
use Rattle.md_meaning.specs.Alert.{marker_of}
use Rattle.md_meaning.specs.Rest.{Rest, after_indent}
use Rattle.md_meaning.specs.declared.alert.AlertKind.{AlertKind}

-- a rest with at least as many bytes after its indent as the marker of a kind has
abbrev pub HasRoom : AlertKind → Rest → Type 0
HasRoom kind r = length (marker_of kind) ≤ length (after_indent r).bytes
