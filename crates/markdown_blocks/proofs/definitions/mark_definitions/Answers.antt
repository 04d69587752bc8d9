use Rattle.std.proofs.Common.{◌<◌, ◌+◌, ap, arith, length, sym, ◌∙◌}
use Rattle.std.proofs.lemmas.List.{length-drop, take_rest}
use Rattle.std.specs.List.{prefix_len}
use Rattle.std.specs.Prelude.{None}
use Rattle.md_engine.specs.declared.event.Event.{Event}
use Rattle.md_engine.specs.declared.event.Kind.TheVariants.{Enter}
use Rattle.md_engine.specs.declared.event.Name.TheVariants.{Frontmatter}
use Rattle.markdown_blocks.specs.Definitions.{is_outside}
use Rattle.markdown_blocks.proofs.DefinitionLemmas.{marks-here, marks-past}
use Rattle.markdown_blocks.proofs.definitions.mark_definitions.Goals as goal

-- what indexing gives past the end of a list
abbrev unset : Event
unset = record {
  kind = Enter;
  name = Frontmatter;
  point = record { line = 0; column = 0; index = 0; vs = 0 };
  link = None;
}

pub loop-at-preserved-then-is_of_definition : goal.loop-at-preserved-then-is_of_definition
loop-at-preserved-then-is_of_definition c =
    let within : c.loop-at.at < length c.args.events.now = omega (arith, c.loop-at-test.true) in
    record {
      within = omega (arith, within);
      marks =
          marks-here c.args.events.now c.args.before c.loop-at.at _ _ c.loop-at.marks.items unset within
          (sym c.is_of_definition.ensures ∙ c.if-is_of_definition.true) c.in_ok-push.ensures c.loop-at.invariant.marks;
    }

pub loop-at-preserved : goal.loop-at-preserved
loop-at-preserved c =
    let within : c.loop-at.at < length c.args.events.now = omega (arith, c.loop-at-test.true) in
    record {
      within = omega (arith, within, c.passing.ensures.within, length-drop (c.loop-at.at + 1) c.args.events.now);
      marks =
          marks-past c.args.events.now c.args.before c.loop-at.at c.passing.result _ c.loop-at.marks.items unset within
          (sym c.is_of_definition.ensures ∙ c.if-is_of_definition.false)
          (c.passing.ensures.value ∙ ap (prefix_len is_outside) (take_rest c.args.events.now (c.loop-at.at + 1)))
          c.loop-at.invariant.marks;
    }
