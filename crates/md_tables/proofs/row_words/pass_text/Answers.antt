use Rattle.std.proofs.Common.{◌∙◌, None, Some, sym, true, false}
use Rattle.md_engine.specs.World.{world}
use Rattle.md_engine.proofs.StayLemmas.{within-world}
use Rattle.md_tables.specs.Row.{name_at}
use Rattle.md_tables.specs.declared.row.Place.TheVariants as place
use Rattle.md_tables.proofs.RowWords.{proceeds-on, takes-proceeds, text-step}
use Rattle.md_tables.proofs.row_words.pass_text.Goals as goal

pub returns-in-Some-clause-proceeds : goal.returns-in-Some-clause-proceeds
returns-in-Some-clause-proceeds c =
    let r = c.args.row in
    let w = world c.args.tokenizer.now in
    takes-proceeds r (name_at r place.Data) place.Escape w (Some c.in-Some.state) (world c.take_to.new.tokenizer)
    c.requires.at.current (within-world c.args.tokenizer.now)
    (text-step r w true c.requires.text (sym c.is_backslash.ensures ∙ c.if-is_backslash.true)) c.in-Some.ensures.takes

pub returns-in_default-clause-proceeds : goal.returns-in_default-clause-proceeds
returns-in_default-clause-proceeds c =
    let r = c.args.row in
    let name = name_at r place.Data in
    let w = world c.args.tokenizer.now in
    let u = world c.take_to.new.tokenizer in
    proceeds-on r name w (name_at r place.Escape) u name c.pass_escape.result (world c.pass_escape.new.tokenizer)
    (takes-proceeds r name place.Escape w None u c.requires.at.current (within-world c.args.tokenizer.now)
    (text-step r w true c.requires.text (sym c.is_backslash.ensures ∙ c.if-is_backslash.true))
    c.in_default.ensures.takes)
    c.pass_escape.ensures.proceeds

pub returns-else-is_backslash-clause-proceeds : goal.returns-else-is_backslash-clause-proceeds
returns-else-is_backslash-clause-proceeds c =
    let r = c.args.row in
    let w = world c.args.tokenizer.now in
    let took = c.take_to-else-is_backslash in
    takes-proceeds r (name_at r place.Data) place.Data w took.result (world took.new.tokenizer) c.requires.at.current
    (within-world c.args.tokenizer.now)
    (text-step r w false c.requires.text (sym c.is_backslash.ensures ∙ c.if-is_backslash.false)) took.ensures.takes
