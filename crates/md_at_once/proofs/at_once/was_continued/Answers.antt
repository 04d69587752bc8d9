use Rattle.std.proofs.Common.{arith}
use Rattle.std.proofs.lemmas.Option.{slice_get_within}
use Rattle.md_engine.specs.World.{world}
use Rattle.md_at_once.proofs.NoIndent.{held_on}
use Rattle.md_at_once.proofs.at_once.was_continued.Goals as goal

pub container_existing_after-requires : goal.container_existing_after-requires
container_existing_after-requires c = record { current = c.requires.current; has = tt }

pub overflow_add-tokenizer : goal.overflow_add-tokenizer
overflow_add-tokenizer c =
    let t = c.args.tokenizer.now in
    let lt = slice_get_within t.containers.items t.flags.continued t.flags.asked (c.requires.kept c.if-changes.false) in
    omega (arith, lt)

pub returns-else-changes : goal.returns-else-changes
returns-else-changes c = held_on (world c.args.tokenizer.now) (c.requires.kept c.if-changes.false)
