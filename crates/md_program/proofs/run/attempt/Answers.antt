use Rattle.std.proofs.Common.{subst, sym}
use Rattle.md_program.specs.Ends.{Prints}
use Rattle.md_program.proofs.RunLemmas.{Ran-written}
use Rattle.md_program.proofs.run.attempt.Goals as goal

pub returns : goal.returns
returns g c =
    Ran-written _ _ _ _ _ _ c.as_slice.result.now c.write_whole.result
    (subst (Prints _ _) (sym c.as_slice.ensures.value) c.in_ok-bytes.ensures)
    c.write_whole.ensures
