use Rattle.md_engine.specs.World.{world}
use Rattle.md_tables.specs.Row.{name_at}
use Rattle.md_tables.specs.declared.row.Place.TheVariants as place
use Rattle.md_tables.proofs.RowWords.{passes-runs}
use Rattle.md_tables.proofs.row_words.call.Goals as goal
use Rattle.std.proofs.Common.{rules}

pub returns-in-None : goal.returns-in-None
returns-in-None c = record {
  runs = search rules;
  sees = λ fine.
      let r = c.args.row in
      (passes-runs r (name_at r c.args.place) (world c.args.tokenizer.now) (name_at r place.Break)
      (world c.reach.new.tokenizer) c.parts.result (world c.parts.new.tokenizer) c.in-None.ensures.proceeds
      (c.parts.ensures.runs fine) (c.parts.ensures.sees fine)).1;
  full = search rules;
}
