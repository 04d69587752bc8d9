use Rattle.std.proofs.Common.{◌≡◌, Some, is_ok, true}
use Rattle.md_engine.specs.declared.event.Name.TheVariants.{Data}
use Rattle.md_engine.specs.World.{world}
use Rattle.md_engine.proofs.StayLemmas.{within-world}
use Rattle.md_events.specs.Transition.{entered_link}
use Rattle.md_tables.specs.Row.{name_at, text_link}
use Rattle.md_tables.specs.declared.row.Place.TheVariants as place
use Rattle.md_tables.proofs.RowWords.{proceeds-on, passes-on, word-begins}
use Rattle.md_tables.proofs.row_words.pass_word.Goals as goal

pub returns-in-Some-clause-proceeds : goal.returns-in-Some-clause-proceeds
returns-in-Some-clause-proceeds c =
    let r = c.args.row in
    let inner = name_at r place.Data in
    let w = world c.args.tokenizer.now in
    let x = world c.enter_link.new.self in
    let has_entered : is_ok c.enter_link.result ≡ true = c.if-is_err.ensures.negation in
    let is : x ≡ entered_link w Data text_link = rw has_entered at c.enter_link.ensures.world in
    proceeds-on r (name_at r place.Break) w inner x inner (Some c.in-Some.state) (world c.pass_plain.new.tokenizer)
    (word-begins r w x c.requires.at.current (within-world c.args.tokenizer.now) c.requires.text is)
    c.in-Some.ensures.proceeds

pub returns-clause-proceeds : goal.returns-clause-proceeds
returns-clause-proceeds c =
    let r = c.args.row in
    let first = name_at r place.Break in
    let inner = name_at r place.Data in
    let w = world c.args.tokenizer.now in
    let x = world c.enter_link.new.self in
    let v = world c.pass_plain.new.tokenizer in
    let has_entered : is_ok c.enter_link.result ≡ true = c.if-is_err.ensures.negation in
    let is : x ≡ entered_link w Data text_link = rw has_entered at c.enter_link.ensures.world in
    proceeds-on r first w inner v first c.end_word.result (world c.end_word.new.tokenizer)
    (passes-on r first w inner x inner v
    (word-begins r w x c.requires.at.current (within-world c.args.tokenizer.now) c.requires.text is)
    c.in_default.ensures.proceeds) c.end_word.ensures.proceeds
