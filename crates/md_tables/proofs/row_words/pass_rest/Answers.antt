use Rattle.std.proofs.Common.{◌<◌, ◌≤◌, Some, arith, inr, refl}
use Rattle.md_engine.specs.Scheme.{cells_left}
use Rattle.md_engine.specs.World.{World, world}
use Rattle.md_tables.specs.Row.{name_at}
use Rattle.md_tables.specs.declared.row.Place.TheVariants as place
use Rattle.md_tables.proofs.RowWords.{become-down, proceeds-on, passes-on}
use Rattle.md_tables.proofs.row_words.pass_rest.Goals as goal

pub returns-in-Some-clause-proceeds : goal.returns-in-Some-clause-proceeds
returns-in-Some-clause-proceeds c =
    let r = c.args.row in
    let name = name_at r place.Data in
    proceeds-on r name (world c.args.tokenizer.now) name (world c.loop-row.tokenizer) name (Some c.in-Some.state)
    (world c.pass_text.new.tokenizer) c.loop-row.invariant.0 c.in-Some.ensures.proceeds

pub returns-in-Some-pass_plain-clause-proceeds : goal.returns-in-Some-pass_plain-clause-proceeds
returns-in-Some-pass_plain-clause-proceeds c =
    let r = c.args.row in
    let name = name_at r place.Data in
    let old = world c.args.tokenizer.now in
    let v = world c.pass_text.new.tokenizer in
    proceeds-on r name old name v name (Some c.in-Some-pass_plain.state) (world c.pass_plain.new.tokenizer)
    (passes-on r name old name (world c.loop-row.tokenizer) name v c.loop-row.invariant.0 c.in_default.ensures.proceeds)
    c.in-Some-pass_plain.ensures.proceeds

pub loop-row-preserved : goal.loop-row-preserved
loop-row-preserved c =
    let r = c.args.row in
    let name = name_at r place.Data in
    let old : World = world c.args.tokenizer.now in
    let w : World = world c.loop-row.tokenizer in
    let v : World = world c.pass_text.new.tokenizer in
    let new : World = world c.pass_plain.new.tokenizer in
    let less : cells_left v.setting.limit v.point < cells_left w.setting.limit w.point =
    c.in_default.ensures.falls refl in
    let rests : cells_left new.setting.limit new.point ≤ cells_left v.setting.limit v.point =
    c.in_default-pass_plain.ensures.rests refl in
    let falls : cells_left new.setting.limit new.point < cells_left old.setting.limit old.point =
    become-down old w new c.loop-row.invariant.1 (omega (arith, less, rests)) in (
      passes-on r name old name v name new
          (passes-on r name old name w name v c.loop-row.invariant.0 c.in_default.ensures.proceeds)
          c.in_default-pass_plain.ensures.proceeds,
      inr falls,
    )
