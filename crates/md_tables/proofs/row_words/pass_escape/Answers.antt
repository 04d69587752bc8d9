use Rattle.std.proofs.Common.{◌∙◌, sym}
use Rattle.md_engine.specs.World.{world}
use Rattle.md_engine.proofs.StayLemmas.{within-world}
use Rattle.md_tables.specs.Row.{name_at}
use Rattle.md_tables.specs.declared.row.Place.TheVariants as place
use Rattle.md_tables.proofs.RowWords.{escaped-step, escapes-none, takes-proceeds}
use Rattle.md_tables.proofs.row_words.pass_escape.Goals as goal

pub returns-then-is_escaped-clause-proceeds : goal.returns-then-is_escaped-clause-proceeds
returns-then-is_escaped-clause-proceeds c =
    let r = c.args.row in
    let w = world c.args.tokenizer.now in
    takes-proceeds r (name_at r place.Escape) place.Data w c.take_to.result (world c.take_to.new.tokenizer)
    c.requires.current (within-world c.args.tokenizer.now)
    (escaped-step r w (sym c.is_escaped.ensures ∙ c.if-is_escaped.true)) c.take_to.ensures.takes

pub returns-else-is_escaped-clause-proceeds : goal.returns-else-is_escaped-clause-proceeds
returns-else-is_escaped-clause-proceeds c =
    escapes-none c.args.row (world c.args.tokenizer.now) c.requires.current (within-world c.args.tokenizer.now)
    (sym c.is_escaped.ensures ∙ c.if-is_escaped.false)
