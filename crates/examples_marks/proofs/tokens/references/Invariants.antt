use Rattle.std.proofs.Common.{◌≡◌, ◌+◌, ◌≤◌, ◌++◌, length}
use Rattle.md_events.specs.declared.inline.PartKind.TheVariants as kind
use Rattle.md_inline_events.specs.Tokens.{live, tokens}
use Rattle.examples_marks.specs.References.{forms_of, reference_forest, references}
use Rattle.examples_marks.proofs.tokens.references.Given as goal

abbrev pub invariant-loop-byte : goal.invariant-loop-byte
invariant-loop-byte l = record {
  tokens :
      live l.list.items ++ tokens (references (forms_of l.labels) l.plain 0 l.rest) ≡
      tokens (reference_forest (forms_of l.labels) kind.Text l.text);
  sized : l.plain + length l.rest ≤ length l.text;
}

abbrev pub decreases-loop-byte : goal.decreases-loop-byte
decreases-loop-byte l = length l.rest
