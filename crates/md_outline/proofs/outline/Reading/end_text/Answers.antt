use Rattle.std.proofs.Common.{◌+◌, ◌∷◌, [], ◌++◌, ◌∙◌, ap, refl}
use Rattle.md_meaning.specs.Outline.{entries_of}
use Rattle.md_outline.specs.LinedState.{filled_line, without_end}
use Rattle.md_outline.specs.OutlineSteps.{state_of}
use Rattle.md_outline.proofs.OutlineLemmas.{lines-end, on_ok-map, same-purpose, text-end}
use Rattle.md_outline.specs.declared.outline.role.Purpose.TheVariants as purpose
use Rattle.md_outline.proofs.outline.Reading.end_text.Goals as goal

pub returns-in-Block-clause-read : goal.returns-in-Block-clause-read
returns-in-Block-clause-read c =
    on_ok-map c.push_block.result
    (λ reads p recorded cut.
    lines-end c.args.self.now.bytes.now c.part-text.result.now c.in-Some.span c.args.end c.args.self.now.text p
    purpose.Block (state_of c.args.self.now) (entries_of c.push_block.new.lines.items) (λ piece. refl)
    c.in-Some.is
    (same-purpose c.role_of.result p c.in-Text.purpose (c.role_of.ensures ∙ recorded) c.in-Text.is ∙ c.in-Block.is)
    c.part-text.ensures reads cut)
    c.push_block.ensures

pub returns-in-Title-clause-read : goal.returns-in-Title-clause-read
returns-in-Title-clause-read c =
    on_ok-map c.title.result
    (λ reads p recorded cut.
    text-end c.args.self.now.bytes.now c.part-text.result.now c.in-Some.span c.args.end c.args.self.now.text p
    purpose.Title (state_of c.args.self.now) (state_of c.title.new.self) c.in-Some.is
    (same-purpose c.role_of.result p c.in-Text.purpose (c.role_of.ensures ∙ recorded) c.in-Text.is ∙ c.in-Title.is)
    c.part-text.ensures reads cut)
    c.title.ensures.read

pub returns-in-Markers-clause-read : goal.returns-in-Markers-clause-read
returns-in-Markers-clause-read c =
    on_ok-map c.end_markers.result
    (λ reads p recorded cut.
    text-end c.args.self.now.bytes.now c.part-text.result.now c.in-Some.span c.args.end c.args.self.now.text p
    purpose.Markers (state_of c.args.self.now) (state_of c.end_markers.new.self) c.in-Some.is
    (same-purpose c.role_of.result p c.in-Text.purpose (c.role_of.ensures ∙ recorded) c.in-Text.is ∙ c.in-Markers.is)
    c.part-text.ensures reads cut)
    c.end_markers.ensures.read

pub returns-in-Part-clause-read : goal.returns-in-Part-clause-read
returns-in-Part-clause-read c =
    on_ok-map c.push_part.result
    (λ reads p recorded cut.
    lines-end c.args.self.now.bytes.now c.part-text.result.now c.in-Some.span c.args.end c.args.self.now.text p
    (purpose.Part c.in-Part.word) (state_of c.args.self.now) (entries_of c.push_part.new.lines.items) (λ piece. refl)
    c.in-Some.is
    (same-purpose c.role_of.result p c.in-Text.purpose (c.role_of.ensures ∙ recorded) c.in-Text.is ∙ c.in-Part.is)
    c.part-text.ensures reads cut)
    c.push_part.ensures

pub returns-in-Line-clause-read : goal.returns-in-Line-clause-read
returns-in-Line-clause-read c =
    on_ok-map c.fill_line.result
    (λ reads p recorded cut.
    lines-end c.args.self.now.bytes.now c.part-text.result.now c.in-Some.span c.args.end c.args.self.now.text p
    purpose.Line (state_of c.args.self.now) (entries_of c.fill_line.new.lines.items) (λ piece. refl)
    c.in-Some.is
    (same-purpose c.role_of.result p c.in-Text.purpose (c.role_of.ensures ∙ recorded) c.in-Text.is ∙ c.in-Line.is)
    c.part-text.ensures
    (λ utf8.
    reads utf8
    ∙ ap
    (λ n.
    without_end (entries_of c.args.self.now.lines.items)
    ++ filled_line (c.args.self.now.depth + 1) n c.part-text.result.now ∷ [])
    c.shown_spaces-spaces.ensures) cut)
    c.fill_line.ensures

pub returns-in-Label-clause-read : goal.returns-in-Label-clause-read
returns-in-Label-clause-read c =
    on_ok-map c.end_label.result
    (λ reads p recorded cut.
    text-end c.args.self.now.bytes.now c.part-text.result.now c.in-Some.span c.args.end c.args.self.now.text p
    purpose.Label (state_of c.args.self.now) (state_of c.end_label.new.self) c.in-Some.is
    (same-purpose c.role_of.result p c.in-Text.purpose (c.role_of.ensures ∙ recorded) c.in-Text.is ∙ c.in-Label.is)
    c.part-text.ensures reads cut)
    c.end_label.ensures.read

pub returns-in-Destination-clause-read : goal.returns-in-Destination-clause-read
returns-in-Destination-clause-read c =
    on_ok-map c.fill_destination.result
    (λ reads p recorded cut.
    lines-end c.args.self.now.bytes.now c.part-text.result.now c.in-Some.span c.args.end c.args.self.now.text p
    purpose.Destination (state_of c.args.self.now) (entries_of c.fill_destination.new.lines.items) (λ piece. refl)
    c.in-Some.is
    (same-purpose c.role_of.result p c.in-Text.purpose (c.role_of.ensures ∙ recorded) c.in-Text.is
    ∙ c.in-Destination.is)
    c.part-text.ensures reads cut)
    c.fill_destination.ensures

pub returns-in-DefinitionTitle-clause-read : goal.returns-in-DefinitionTitle-clause-read
returns-in-DefinitionTitle-clause-read c =
    on_ok-map c.push_part_end.result
    (λ reads p recorded cut.
    lines-end c.args.self.now.bytes.now c.part-text.result.now c.in-Some.span c.args.end c.args.self.now.text p
    purpose.DefinitionTitle (state_of c.args.self.now) (entries_of c.push_part_end.new.lines.items) (λ piece. refl)
    c.in-Some.is
    (same-purpose c.role_of.result p c.in-Text.purpose (c.role_of.ensures ∙ recorded) c.in-Text.is
    ∙ c.in-DefinitionTitle.is)
    c.part-text.ensures reads cut)
    c.push_part_end.ensures

pub returns-in-Cell-clause-read : goal.returns-in-Cell-clause-read
returns-in-Cell-clause-read c =
    on_ok-map c.fill_cell.result
    (λ reads p recorded cut.
    lines-end c.args.self.now.bytes.now c.part-text.result.now c.in-Some.span c.args.end c.args.self.now.text p
    purpose.Cell (state_of c.args.self.now) (entries_of c.fill_cell.new.lines.items) (λ piece. refl)
    c.in-Some.is
    (same-purpose c.role_of.result p c.in-Text.purpose (c.role_of.ensures ∙ recorded) c.in-Text.is ∙ c.in-Cell.is)
    c.part-text.ensures reads cut)
    c.fill_cell.ensures

pub returns-in-Delimiter-clause-read : goal.returns-in-Delimiter-clause-read
returns-in-Delimiter-clause-read c =
    on_ok-map c.end_delimiter.result
    (λ reads p recorded cut.
    text-end c.args.self.now.bytes.now c.part-text.result.now c.in-Some.span c.args.end c.args.self.now.text p
    purpose.Delimiter (state_of c.args.self.now) (state_of c.end_delimiter.new.self) c.in-Some.is
    (same-purpose c.role_of.result p c.in-Text.purpose (c.role_of.ensures ∙ recorded) c.in-Text.is ∙ c.in-Delimiter.is)
    c.part-text.ensures reads cut)
    c.end_delimiter.ensures.read

pub returns-in-FootnoteLabel-clause-read : goal.returns-in-FootnoteLabel-clause-read
returns-in-FootnoteLabel-clause-read c =
    on_ok-map c.fill_label.result
    (λ reads p recorded cut.
    lines-end c.args.self.now.bytes.now c.part-text.result.now c.in-Some.span c.args.end c.args.self.now.text p
    purpose.FootnoteLabel (state_of c.args.self.now) (entries_of c.fill_label.new.lines.items) (λ piece. refl)
    c.in-Some.is
    (same-purpose c.role_of.result p c.in-Text.purpose (c.role_of.ensures ∙ recorded) c.in-Text.is
    ∙ c.in-FootnoteLabel.is)
    c.part-text.ensures reads cut)
    c.fill_label.ensures
