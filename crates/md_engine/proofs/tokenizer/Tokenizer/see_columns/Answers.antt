use Rattle.std.proofs.Common.{◌≡◌, cond, nat_lt, true, false, sym, arith}
use Rattle.std.specs.Prelude.{slice_index}
use Rattle.std.proofs.lemmas.Bool.Decides.{nat_tests}
use Rattle.md_engine.specs.Staying.TookColumns.{NoColumn}
use Rattle.md_engine.specs.World.{world}
use Rattle.md_engine.proofs.StayLemmas.{one-column, placed-column}
use Rattle.md_engine.proofs.tokenizer.Tokenizer.see_columns.Goals as goal
use Rattle.md_engine.proofs.tokenizer.Tokenizer.see_columns.Goals.{then-point-gt0, else-point-gt0}

pub loop-count-init : goal.loop-count-init
loop-count-init c = record { some = NoColumn; within = omega arith; placed = c.args.self.now.sound.placed }

pub loop-count-preserved : goal.loop-count-preserved
loop-count-preserved c =
    let p = c.loop-count.point in
    let b = slice_index c.args.self.now.bytes.now p.index in
    let seen : c.if-point-gt0.seen ≡ cond (nat_lt 0 p.vs) 32 b =
    elim c.if-point-gt0.branch [
      | then-point-gt0 w ↦
          let pos : nat_lt 0 p.vs ≡ true = grind (arith, nat_tests, w.if-point-gt0.true) in rw pos w.seen-is
      | else-point-gt0 w ↦
          let none : nat_lt 0 p.vs ≡ false = grind (arith, nat_tests, w.if-point-gt0.false) in rw none w.seen-is
    ] in
    record {
      some =
          one-column (world c.args.self.now) c.loop-count.count p c.next_column-point.result c.loop-count.seen
          c.if-point-gt0.seen c.loop-count.invariant.some c.if-point-self.true (sym c.if-is_white.ensures) seen
          c.next_column-point.ensures;
      within = omega (arith, c.loop-count-test.true);
      placed =
          placed-column c.args.self.now.bytes.now p c.next_column-point.result c.loop-count.invariant.placed
          (omega (arith, c.if-point-self.true, c.args.self.now.sound.readable)) (sym c.if-is_white.ensures)
          c.next_column-point.ensures;
    }
