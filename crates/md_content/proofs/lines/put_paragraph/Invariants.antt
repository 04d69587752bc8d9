use Rattle.std.proofs.Common.{◌≡◌, ◌<◌, ℕ, List, [], length}
use Rattle.md_engine.specs.declared.configuration.ParseOptions.{ParseOptions}
use Rattle.md_engine.specs.declared.event.Event.{Event}
use Rattle.md_content.specs.ParagraphLines.{IsParagraph, Reached}
use Rattle.md_content.proofs.ParagraphLines.{Following, HasFurther}
use Rattle.md_content.proofs.lines.put_paragraph.Given as goal
use Rattle.md_events.specs.Rewritten.{given_of, held_of, left_of}

abbrev pub invariant-loop-more : goal.invariant-loop-more
invariant-loop-more l = record {
  lines : HasFurther l.more (left_of l.all);
  held : held_of l.all ≡ [];
  fewer : length (left_of l.all) < length (left_of l.fn.all);
  following : (bytes : List ℕ) (options : ParseOptions) (events : List Event) →
      IsParagraph bytes l.fn.further (left_of l.fn.all) →
      Reached bytes options events (given_of l.fn.all) (left_of l.fn.all) →
      Following bytes options events (given_of l.all) (left_of l.all) l.line.after;
}

abbrev pub decreases-loop-more : goal.decreases-loop-more
decreases-loop-more l = l.more
