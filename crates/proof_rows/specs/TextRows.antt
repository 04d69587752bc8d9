-- The text that flow reads from a point on: its cells, and its lines.
use Rattle.md_engine.specs.declared.tokenizer.held_leaf.HeldLeaf.TheVariants as held_leaf
use Rattle.std.specs.Prelude.{ℕ, suc, List, [], length}
use Rattle.md_engine.specs.declared.configuration.ParseOptions.{ParseOptions}
use Rattle.md_engine.specs.declared.event.Point.{Point}
use Rattle.md_engine.specs.Meaning.{Cell}
use Rattle.md_engine.specs.TextFeed.{text_feed}
use Rattle.md_engine.specs.World.{Setting, fresh, reads_to}
use Rattle.proof_frame.specs.Row.{Row}
use Rattle.proof_rows.specs.Rows.{rows_at}

-- all of a text may be read, from a point on
abbrev pub text_setting : List ℕ → ParseOptions → Point → Setting
text_setting bytes options p = (reads_to (fresh bytes options p) (length bytes)).setting

-- its cells
abbrev pub text_cells : List ℕ → ParseOptions → Point → List Cell
text_cells bytes options p = text_feed (text_setting bytes options p) p

-- its lines, as flow reads them
abbrev pub text_rows : ParseOptions → List ℕ → Point → List Row
text_rows options bytes p =
    rows_at options (suc (length (text_cells bytes options p))) [] held_leaf.None (text_cells bytes options p) p
