use Rattle.md_engine.specs.World.{world}
use Rattle.md_tables.specs.Row.{name_at}
use Rattle.md_tables.specs.declared.row.Place.TheVariants as place
use Rattle.md_tables.proofs.RowWords.{proceeds-on}
use Rattle.md_tables.proofs.row_words.after_backslash.Goals as goal

pub returns-clause-proceeds : goal.returns-clause-proceeds
returns-clause-proceeds c =
    let r = c.args.row in
    proceeds-on r (name_at r place.Escape) (world c.args.tokenizer.now) (name_at r place.Data)
    (world c.pass_escape.new.tokenizer) (name_at r place.Break) c.end_word.result (world c.end_word.new.tokenizer)
    c.in_default.ensures.proceeds c.end_word.ensures.proceeds
