use Rattle.std.proofs.Common.{◌∙◌, ap, refl}
use Rattle.md_engine.specs.Run.{Remains}
use Rattle.md_engine.specs.World.{World, world}
use Rattle.md_engine.proofs.StayLemmas.{within-world}
use Rattle.md_tables.specs.Row.{at_break_transition, name_at, piece}
use Rattle.md_tables.specs.RowWords.RowStep.{OfRow}
use Rattle.md_tables.specs.declared.row.Place.TheVariants as place
use Rattle.md_tables.proofs.RowWords.{at_break-remains, one-proceeds, same-step, is_valid-first}
use Rattle.md_tables.proofs.row_words.pass_part.Goals as goal

pub returns-else-sees_text-clause-proceeds : goal.returns-else-sees_text-clause-proceeds
returns-else-sees_text-clause-proceeds c = λ fine.
    let r = c.args.row in
    let name = name_at r place.Break in
    let w = world c.args.tokenizer.now in
    let new = world c.at_break.new.tokenizer in
    let left = at_break-remains r w (piece w.current) in
    one-proceeds r name w name w c.at_break.result new (is_valid-first r name w c.requires.current)
    (within-world c.args.tokenizer.now)
    (OfRow place.Break refl (c.at_break.ensures.to fine) (c.at_break.ensures.world fine))
    (same-step (λ s y. Remains s w y) (at_break_transition r w) c.at_break.result new (c.at_break.ensures.to fine)
    (c.at_break.ensures.world fine) left.0)
    (ap (λ (y : World). y.setting) (c.at_break.ensures.world fine) ∙ left.1) fine
