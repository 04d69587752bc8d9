use Rattle.md_engine.specs.World.{world}
use Rattle.md_tables.specs.Row.{name_at}
use Rattle.md_tables.specs.declared.row.Place.TheVariants as place
use Rattle.md_tables.proofs.RowWords.{passes-runs}
use Rattle.md_tables.proofs.row_words.parts.Goals as goal
use Rattle.std.proofs.Common.{rules}

pub returns-in-Some : goal.returns-in-Some
returns-in-Some c = record {
  runs = search rules;
  sees = λ fine.
      let r = c.args.row in
      let name = name_at r place.Break in
      let here = c.in-Some.ensures.proceeds fine in
      (passes-runs r name (world c.args.tokenizer.now) name (world c.loop-state.tokenizer) c.in-Some.state _
      c.loop-state.invariant here.0 here.1).1;
  full = search rules;
}
