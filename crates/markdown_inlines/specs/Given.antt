-- The labels that a reader is given.
use Rattle.std.specs.Prelude.{map, string_bytes}
use Rattle.md_events.specs.declared.labels.Labels.{Labels as Given}
use Rattle.md_meaning.specs.Label.{Labels}

abbrev pub labels_of : Given → Labels
labels_of labels = record {
  definitions = map string_bytes labels.definitions.forms.now;
  footnotes = map string_bytes labels.footnotes.forms.now;
}
