use Rattle.std.proofs.Common.{Some}
use Rattle.md_program.proofs.run.run.Goals as goal

pub returns-in-Err : goal.returns-in-Err
returns-in-Err g c = record {
  failure = Some c.in-Err.failure;
  ending = c.report.ensures.status;
  reporting = c.report.ensures.recorded;
  running = c.in-Err.ensures;
}
