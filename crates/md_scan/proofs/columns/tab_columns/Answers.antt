use Rattle.std.proofs.Common.{refl}
use Rattle.md_scan.proofs.columns.tab_columns.Goals as goal

pub returns-clause-value : goal.returns-clause-value
returns-clause-value c = refl
