use Rattle.std.proofs.Common.{rules}
use Rattle.md_tables.proofs.RowMeaning.{row_rule}
use Rattle.md_tables.proofs.row.data.Goals as goal
use Rattle.md_events.proofs.StatesLemmas.{state-is}

pub returns-after-byte-eq92 : goal.returns-after-byte-eq92
returns-after-byte-eq92 c =
    state-is _ _ _ _ _ (row_rule _ _ _ _ _) (search rules)
    (search rules) (search rules)

pub returns-in-None-2 : goal.returns-in-None-2
returns-in-None-2 c =
    state-is _ _ _ _ _ (row_rule _ _ _ _ _) (search rules)
    (search rules) (search rules)
