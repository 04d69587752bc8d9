use Rattle.std.proofs.Common.{refl}
use Rattle.md_engine.specs.World.{world}
use Rattle.md_engine.proofs.StayLemmas.{within-world}
use Rattle.md_tables.specs.Row.{name_at}
use Rattle.md_tables.specs.RowWords.RowStep.{OfRow}
use Rattle.md_tables.specs.declared.row.Place.TheVariants as place
use Rattle.md_tables.proofs.RowWords.{gap-proceeds, is_valid-first}
use Rattle.md_tables.proofs.row_words.after_pipe.Goals as goal

pub returns-clause-proceeds : goal.returns-clause-proceeds
returns-clause-proceeds c =
    let r = c.args.row in
    let name = name_at r place.CellBefore in
    let w = world c.args.tokenizer.now in
    let within = within-world c.args.tokenizer.now in
    gap-proceeds r name name w w w (world c.gap.new.tokenizer) c.gap.result
    (is_valid-first r name w c.requires.current) within
    within refl refl refl (OfRow place.CellBefore refl refl refl) c.gap.ensures.none c.gap.ensures.to
    c.gap.ensures.world
