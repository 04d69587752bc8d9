use Rattle.std.proofs.Common.{◌∙◌, ℕ, List, ap, sym}
use Rattle.md_events.specs.Events.Spelled.{HeadingSoFar, first_recorded}
use Rattle.md_meaning.specs.Texts.{split_lines, trim_each}
use Rattle.md_outline.specs.HeadingState.{heading_of, title_lines}
use Rattle.md_outline.proofs.HeadingLemmas.{title-valid}
use Rattle.md_outline.proofs.outline.heading.Heading.titled.Goals as goal

pub returns-in-Some : goal.returns-in-Some
returns-in-Some c =
    let now : List (List ℕ) = trim_each (split_lines c.args.text.now) in
    let with_lines : List (List ℕ) → HeadingSoFar = λ lines. record (heading_of c.args.self) { text = lines } in
    ap with_lines
    (ap title_lines c.in-Some.is
    ∙ sym (title-valid c.in-Some.field-0.now now)
    ∙ sym (ap (λ t. first_recorded (title_lines t) now) c.in-Some.is))
