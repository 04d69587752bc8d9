-- The labels of footnote definitions that a parse lists.
use Rattle.std.specs.Prelude.{ℕ, if◌then◌else◌, List, []}
use Rattle.md_engine.specs.declared.configuration.ParseOptions.{ParseOptions}
use Rattle.md_engine.specs.declared.event.Event.{Event}
use Rattle.md_content.specs.FootnoteLabels.{footnote_labels_in}

-- those among the events of a text, where footnote definitions are on
abbrev pub footnotes_listed : ParseOptions → List ℕ → List Event → List (List ℕ)
footnotes_listed options bytes events =
    if options.constructs.gfm_footnote_definition then footnote_labels_in bytes events else []
