use Rattle.std.proofs.Common.{◌∙◌, ◌||◌, refl, sym}
use Rattle.std.specs.Prelude.{Some, None}
use Rattle.md_meaning.specs.Outline.{entries_of}
use Rattle.md_outline.specs.OutlineSteps.{is_titled, state_of}
use Rattle.md_outline.proofs.OutlineLemmas.{on_ok-map, piece-end}
use Rattle.md_outline.proofs.outline.Reading.show_piece.Goals as goal

pub returns-in-Some-part_word-clause-read : goal.returns-in-Some-part_word-clause-read
returns-in-Some-part_word-clause-read c =
    on_ok-map c.push_part_piece.result
    (λ reads cut.
    piece-end c.args.self.now.bytes.now c.part-text.result.now c.in-Some.span c.args.end c.args.self.now.text
    (state_of c.args.self.now) (entries_of c.push_part_piece.new.lines.items) (Some c.in-Some-part_word.word)
    (is_titled c.args.self.now.lined || c.in-Some.span.is_parted) c.in-Some.is
    (sym c.in-Some-part_word.is ∙ c.part_word.ensures) refl cut c.part-text.ensures reads)
    c.push_part_piece.ensures

pub returns-in-None-clause-read : goal.returns-in-None-clause-read
returns-in-None-clause-read c =
    on_ok-map c.push_piece.result
    (λ reads cut.
    piece-end c.args.self.now.bytes.now c.part-text.result.now c.in-Some.span c.args.end c.args.self.now.text
    (state_of c.args.self.now) (entries_of c.push_piece.new.lines.items) None c.is_begun-is_shown.result
    c.in-Some.is (sym c.in-None.is ∙ c.part_word.ensures) c.is_begun-is_shown.ensures cut c.part-text.ensures reads)
    c.push_piece.ensures
