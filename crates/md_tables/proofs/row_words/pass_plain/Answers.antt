use Rattle.std.proofs.Common.{refl, sym, subst}
use Rattle.md_engine.specs.declared.state.Name.{Name as StateName}
use Rattle.md_engine.specs.declared.state.State.TheVariants.{Next}
use Rattle.md_engine.specs.Run.{RunsHere}
use Rattle.md_engine.specs.World.{world}
use Rattle.md_engine.proofs.StayLemmas.{within-world}
use Rattle.md_tables.specs.Row.{name_at}
use Rattle.md_tables.specs.RowWords.{RowStep}
use Rattle.md_tables.specs.declared.row.Place.TheVariants as place
use Rattle.md_tables.proofs.RowWords.{IsValid, is_valid-first, is_valid-passes, word-falls, word-rests, word-taken}
use Rattle.md_tables.proofs.RowWords.{word-waits}
use Rattle.md_leaves.proofs.HeadingCalls.{ahead}
use Rattle.md_tables.proofs.row_words.pass_plain.Goals as goal

pub returns-then-see_or_wait-clause-proceeds : goal.returns-then-see_or_wait-clause-proceeds
returns-then-see_or_wait-clause-proceeds c = λ fine.
    let r = c.args.row in
    let name = name_at r place.Data in
    let w = world c.args.tokenizer.now in (
      subst (λ (n : StateName). RunsHere (RowStep r) name w (Next n) (world c.see_or_wait.new.self))
          (sym c.name_at.ensures)
          (subst (RunsHere (RowStep r) name w (Next name)) (sym (c.if-see_or_wait.ensures.same refl))
          (word-waits r name w w (world c.take_plain.new.tokenizer) (is_valid-first r name w c.requires.at.current)
          (within-world c.args.tokenizer.now) c.take_plain.ensures c.requires.inside
          (c.if-see_or_wait.ensures.waits refl).1)),
      tt,
    )

pub returns-clause-proceeds : goal.returns-clause-proceeds
returns-clause-proceeds c =
    let r = c.args.row in
    let name = name_at r place.Data in
    let w = world c.args.tokenizer.now in
    let v = world c.see_or_wait.new.self in
    let taken : IsValid r name w name v =
    subst (IsValid r name w name) (sym (c.if-see_or_wait.ensures.sees refl))
    (word-taken r name w w (world c.take_plain.new.tokenizer) (is_valid-first r name w c.requires.at.current)
    (within-world c.args.tokenizer.now) c.take_plain.ensures (ahead (c.if-see_or_wait.ensures.is_continued refl))) in
    is_valid-passes r name w name v taken

pub returns-clause-rests : goal.returns-clause-rests
returns-clause-rests c = λ none.
    word-rests (world c.args.tokenizer.now) (world c.take_plain.new.tokenizer) (world c.see_or_wait.new.self)
    c.take_plain.ensures (c.if-see_or_wait.ensures.sees refl)

pub returns-clause-falls : goal.returns-clause-falls
returns-clause-falls c = λ none text ends.
    word-falls (world c.args.tokenizer.now) (world c.take_plain.new.tokenizer) (world c.see_or_wait.new.self)
    c.requires.at.current text c.take_plain.ensures (c.if-see_or_wait.ensures.sees refl) ends
