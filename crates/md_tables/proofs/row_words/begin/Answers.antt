use Rattle.std.proofs.Common.{◌≡◌, is_ok, true}
use Rattle.md_engine.specs.World.{world}
use Rattle.md_engine.proofs.StayLemmas.{within-world}
use Rattle.md_tables.specs.Row.{begun, name_at}
use Rattle.md_tables.specs.declared.row.Place.TheVariants as place
use Rattle.md_tables.proofs.RowWords.{begun-step, begun-stays, gap-proceeds, on-ok, is_valid-first}
use Rattle.md_tables.proofs.row_words.begin.Goals as goal

pub returns-clause-proceeds : goal.returns-clause-proceeds
returns-clause-proceeds c =
    let r = c.args.row in
    let name = name_at r place.Start in
    let w = world c.args.tokenizer.now in
    let x = world c.begin_row.new.tokenizer in
    let has_begun : is_ok c.begin_row.result ≡ true = c.if-is_err.ensures.negation in
    let is : x ≡ begun r w = on-ok c.begin_row.result (x ≡ begun r w) has_begun c.begin_row.ensures.world in
    let stays = begun-stays r w x is in
    gap-proceeds r name name w w x (world c.gap.new.tokenizer) c.gap.result (is_valid-first r name w c.requires.current)
    (within-world c.args.tokenizer.now) (within-world c.begin_row.new.tokenizer) stays.0 stays.1 stays.2
    (begun-step r w x is) c.gap.ensures.none c.gap.ensures.to c.gap.ensures.world
