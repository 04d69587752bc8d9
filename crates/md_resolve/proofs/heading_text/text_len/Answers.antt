use Rattle.std.proofs.Common.{◌∙◌, None, arith, sym}
use Rattle.md_engine.specs.declared.event.Event.{Event}
use Rattle.md_engine.specs.declared.event.Kind.TheVariants.{Enter}
use Rattle.md_engine.specs.declared.event.Name.TheVariants.{Frontmatter}
use Rattle.md_resolve.proofs.TextLaws.{text-before, text-last}
use Rattle.md_resolve.proofs.heading_text.text_len.Goals as goal
use Rattle.md_resolve.proofs.heading_text.text_len.Goals.{else-last-gt0-via-then-last-gt0+else-ends_sequence}
use Rattle.md_resolve.proofs.heading_text.text_len.Goals.{else-last-gt0-via-else-last-gt0}

-- what an index past the end would give
abbrev nothing : Event
nothing = record {
  kind = Enter;
  name = Frontmatter;
  link = None;
  point = record { line = 0; column = 0; index = 0; vs = 0 };
}

pub returns-then-ends_sequence-clause-set : goal.returns-then-ends_sequence-clause-set
returns-then-ends_sequence-clause-set c = λ first.
    text-before c.last_run-last.result c.last_run.result c.args.events.now _ c.requires.inside c.last_run-last.ensures
    c.if-last-gt0.true (sym c.ends_sequence.ensures ∙ c.if-ends_sequence.true) c.last_run.ensures first

pub returns-else-last-gt0-clause-set : goal.returns-else-last-gt0-clause-set
returns-else-last-gt0-clause-set c =
    elim c.else-last-gt0.branch [
      | else-last-gt0-via-then-last-gt0+else-ends_sequence w ↦ (λ first.
          text-last c.last_run-last.result c.args.events.now _ c.requires.inside c.last_run-last.ensures
          (λ some. sym w.ends_sequence.ensures ∙ w.if-ends_sequence.false) first)
      | else-last-gt0-via-else-last-gt0 w ↦ (λ first.
          text-last c.last_run-last.result c.args.events.now nothing c.requires.inside c.last_run-last.ensures
          (λ some. absurd (omega (arith, some, w.if-last-gt0.false))) first)
    ]
