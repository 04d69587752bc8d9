use Rattle.std.proofs.Common.{◌≡◌, ap, arith, is_ok, refl, true}
use Rattle.md_engine.specs.declared.event.Name.TheVariants.{Data}
use Rattle.md_engine.specs.Scheme.{cells_left}
use Rattle.md_engine.specs.World.{World, world}
use Rattle.md_engine.proofs.StayLemmas.{within-world}
use Rattle.md_events.specs.Transition.{exited}
use Rattle.md_tables.specs.Row.{name_at}
use Rattle.md_tables.specs.RowWords.{Proceeds}
use Rattle.md_tables.specs.declared.row.Place.TheVariants as place
use Rattle.md_tables.proofs.RowWords.{end-falls, end-rests, ended-step, gap-falls, gap-proceeds, proceeds-on}
use Rattle.md_tables.proofs.RowWords.{is_valid-first}
use Rattle.md_tables.proofs.row_words.end_word.Goals as goal

pub returns-clause-proceeds : goal.returns-clause-proceeds
returns-clause-proceeds c =
    let r = c.args.row in
    let name = name_at r place.Data in
    let w = world c.pass_rest.new.tokenizer in
    let x = world c.exit.new.self in
    let new = world c.gap.new.tokenizer in
    let has_exited : is_ok c.exit.result ≡ true = c.if-is_err.ensures.negation in
    let is : x ≡ exited w Data = rw has_exited at c.exit.ensures.world in
    let proceeds : Proceeds r name w c.gap.result new =
    gap-proceeds r name name w w x new c.gap.result (is_valid-first r name w c.in_default.ensures.proceeds.current)
    (within-world c.pass_rest.new.tokenizer) (within-world c.exit.new.self) (ap (λ (y : World). y.setting) is)
    (ap (λ (y : World). y.point) is) (ap (λ (y : World). y.current) is)
    (ended-step r w x is (c.in_default.ensures.ends refl)) c.gap.ensures.none c.gap.ensures.to c.gap.ensures.world in
    proceeds-on r name (world c.args.tokenizer.now) name w (name_at r place.Break) c.gap.result new
    c.in_default.ensures.proceeds proceeds

pub returns-clause-rests : goal.returns-clause-rests
returns-clause-rests c = λ none.
    let w = world c.pass_rest.new.tokenizer in
    let x = world c.exit.new.self in
    let has_exited : is_ok c.exit.result ≡ true = c.if-is_err.ensures.negation in
    let is : x ≡ exited w Data = rw has_exited at c.exit.ensures.world in
    let same : cells_left x.setting.limit x.point ≡ cells_left w.setting.limit w.point =
    ap (λ (y : World). cells_left y.setting.limit y.point) is in
    let rests = end-rests (world c.args.tokenizer.now) w (c.in_default.ensures.falls refl) in
    let falls = gap-falls x (world c.gap.new.tokenizer) (c.gap.ensures.none none) in
    omega (arith, same, rests, falls)

pub returns-clause-falls : goal.returns-clause-falls
returns-clause-falls c = λ none text.
    let w = world c.pass_rest.new.tokenizer in
    let x = world c.exit.new.self in
    let has_exited : is_ok c.exit.result ≡ true = c.if-is_err.ensures.negation in
    let is : x ≡ exited w Data = rw has_exited at c.exit.ensures.world in
    let same : cells_left x.setting.limit x.point ≡ cells_left w.setting.limit w.point =
    ap (λ (y : World). cells_left y.setting.limit y.point) is in
    let less = end-falls (world c.args.tokenizer.now) w (c.in_default.ensures.falls refl) text
    (c.in_default.ensures.ends refl) in
    let falls = gap-falls x (world c.gap.new.tokenizer) (c.gap.ensures.none none) in
    omega (arith, same, less, falls)
