use Rattle.std.proofs.Common.{List, ◌++◌, ap, ◌∙◌}
use Rattle.md_engine.specs.declared.event.Event.{Event}
use Rattle.md_content.specs.WholeDefinitions.{definition_part}
use Rattle.md_content.proofs.WholeDefinitions.{written}
use Rattle.md_content.proofs.whole_definitions.put_definition.Goals as goal

pub returns-clause-written : goal.returns-clause-written
returns-clause-written c = record {
  n = c.in-Some.sizes.label;
  m = c.in-Some.sizes.destination;
  line = c.in-Some.ensures;
  events =
      written _ _ _ _ _ _ _ _ _ _ _ _ _ _ _ _ c.past-text.ensures c.past-closer.ensures c.past-marker.ensures
      c.past-gap.ensures c.past-destination.ensures c.past-after.ensures c.put.ensures.items
      c.put_label.ensures.items c.put_pair.ensures.items c.put_pair-2.ensures.items c.put_destination.ensures.items
      c.put-2.ensures.items
      ∙ ap
      (λ (es : List Event). es ++ definition_part c.in-Some.sizes.label c.in-Some.sizes.destination c.args.first)
      c.reserve.ensures.items;
  last = c.past-after.ensures;
}
