use Rattle.std.proofs.Common.{◌≡◌, ◌<◌, ◌⊎◌}
use Rattle.md_engine.specs.Scheme.{cells_left}
use Rattle.md_engine.specs.World.{world}
use Rattle.md_tables.specs.Row.{name_at}
use Rattle.md_tables.specs.RowWords.{Passes, RowStep}
use Rattle.md_tables.specs.declared.row.Place.TheVariants as place
use Rattle.md_tables.proofs.row_words.pass_rest.Given as goal

abbrev pub invariant-loop-row : goal.invariant-loop-row
invariant-loop-row l =
    Passes (RowStep l.row) (name_at l.row place.Data) (world l.initial.tokenizer) (name_at l.row place.Data)
    (world l.tokenizer)
    × ((world l.tokenizer ≡ world l.initial.tokenizer)
    ⊎ (cells_left (world l.tokenizer).setting.limit (world l.tokenizer).point
    < cells_left (world l.initial.tokenizer).setting.limit (world l.initial.tokenizer).point))

abbrev pub decreases-loop-row : goal.decreases-loop-row
decreases-loop-row l = cells_left (world l.tokenizer).setting.limit (world l.tokenizer).point
