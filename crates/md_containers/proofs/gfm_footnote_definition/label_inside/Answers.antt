use Rattle.md_engine.specs.declared.state.gfm_footnote_definition.State.TheVariants as its
use Rattle.std.proofs.Common.{arith, rules}
use Rattle.std.proofs.lemmas.Grind.{common_steps}
use Rattle.md_engine.specs.World.{world}
use Rattle.md_events.proofs.StatesLemmas.{state-is}
use Rattle.md_containers.proofs.FootnoteMeaning.{footnote_rule}
use Rattle.md_containers.proofs.gfm_footnote_definition.label_inside.Goals as goal

pub returns-then-breaks_label : goal.returns-then-breaks_label
returns-then-breaks_label c =
    state-is _ _ _ _ _ (footnote_rule its.LabelInside (world c.args.tokenizer.now) _ _)
    (first_of (search rules, grind (arith, common_steps)))
    (first_of (search rules, grind (arith, common_steps)))
    (search rules)

pub returns : goal.returns
returns c =
    state-is _ _ _ _ _ (footnote_rule its.LabelInside (world c.args.tokenizer.now) _ _)
    (first_of (search rules, grind (arith, common_steps)))
    (first_of (search rules, grind (arith, common_steps)))
    (search rules)
