use Rattle.std.proofs.Common.{rules}
use Rattle.md_tables.proofs.GfmTableMeaning.{table_rule}
use Rattle.md_tables.proofs.delimiter.head_delimiter_left_alignment_after.Goals as goal
use Rattle.md_events.proofs.StatesLemmas.{state-is}

pub returns-then-eq-2 : goal.returns-then-eq-2
returns-then-eq-2 c =
    state-is _ _ _ _ _ (table_rule _ _ _ _) (search rules)
    (search rules) (search rules)
