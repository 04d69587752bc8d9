use Rattle.md_engine.specs.Scheme.{cells_left}
use Rattle.md_engine.specs.World.{world}
use Rattle.md_tables.specs.Row.{name_at}
use Rattle.md_tables.specs.RowWords.{Passes, RowStep}
use Rattle.md_tables.specs.declared.row.Place.TheVariants as place
use Rattle.md_tables.proofs.row_words.parts.Given as goal

abbrev pub invariant-loop-state : goal.invariant-loop-state
invariant-loop-state l =
    Passes (RowStep l.row) (name_at l.row place.Break) (world l.initial.tokenizer) (name_at l.row place.Break)
    (world l.tokenizer)

abbrev pub decreases-loop-state : goal.decreases-loop-state
decreases-loop-state l = cells_left (world l.tokenizer).setting.limit (world l.tokenizer).point
