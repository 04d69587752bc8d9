use Rattle.std.proofs.Common.{◌<◌, ◌≤◌, arith, refl}
use Rattle.md_engine.specs.declared.class.Class.TheVariants as class
use Rattle.md_engine.specs.declared.stay.Stay.TheVariants.{Plain}
use Rattle.md_engine.specs.World.{World, world}
use Rattle.md_engine.proofs.ClassLemmas.{sees-none, sees-some}
use Rattle.md_engine.proofs.StayLemmas.{plain-spans, span-sees}
use Rattle.md_tables.proofs.row_words.take_plain.Goals as goal

pub returns-then-tokenizer-index : goal.returns-then-tokenizer-index
returns-then-tokenizer-index c =
    let w : World = world c.args.tokenizer.now in
    let v : World = world c.consume_all.new.self in
    let more : w.point.index < v.point.index = omega arith in
    span-sees Plain class.Plain w _ plain-spans (sees-some class.Plain w v _ c.consume_all.ensures more refl)

pub returns-else-tokenizer-index : goal.returns-else-tokenizer-index
returns-else-tokenizer-index c =
    let w : World = world c.args.tokenizer.now in
    let v : World = world c.consume_all.new.self in
    let same : v.point.index ≤ w.point.index = omega arith in
    span-sees Plain class.Plain w v plain-spans (sees-none class.Plain w v c.consume_all.ensures same)
