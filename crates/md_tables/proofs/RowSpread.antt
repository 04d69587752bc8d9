-- The runs of a row by the cells of its line are those by its bytes.
use Rattle.std.proofs.Common.{◌≡◌, ℕ, ◌≤◌, cond, List, ◌∷◌, ◌++◌, refl, ap₂}
use Rattle.md_engine.specs.declared.event.Event.{Event}
use Rattle.md_engine.specs.declared.event.Point.{Point}
use Rattle.md_engine.specs.declared.tokenizer.Line.{Line}
use Rattle.md_engine.specs.Meaning.{Cell}
use Rattle.md_events.specs.Events.Places.{past_byte}
use Rattle.md_events.proofs.FeedLines.{cell, spread}
use Rattle.md_tables.specs.RowCells.{row_runs}
use Rattle.md_tables.specs.RowRule as row
use Rattle.md_tables.proofs.RunSpread.{AreSpread, bytes-run}

row_turns : row.Run → Point → List Event → List Event
row_turns run p es = cond (row.is_continued run 9) es (row.closes run p ++ row.opens row.White p ++ es)

row-are : AreSpread row.Run row.White row_turns row.runs row_runs
unfolding row_turns
row-are = record {
  none = λ run p. refl;
  byte = λ run b line cs bs p more.
      ap₂ (λ (xs zs : List Event). cond (row.is_continued run b) xs
      (row.closes run p ++ row.opens (row.begun b) p ++ zs))
      (more (row.next run b)) (more (row.begun b));
  column = column;
  tab = tab;
  more = λ byte at line cs q e. rw e refl;
}
  where
    column : (run : row.Run) (at : Point) (line : Line) (cs : List Cell) (p : Point) →
        row.runs run (cell 9 at line ∷ cs) p ≡ row_turns run p (row.runs row.White cs at)
    column row.Apart at line cs p = refl
    column _ at line cs p = refl

    tab : (run : row.Run) (bs : List ℕ) (p : Point) →
        row_runs run (9 ∷ bs) p ≡ row_turns run p (row_runs row.White bs (past_byte 9 p))
    tab row.Apart bs p = refl
    tab _ bs p = refl

-- The runs of the cells of a line are those of its bytes.
pub row-spread : (run : row.Run) (line : Line) (bytes : List ℕ) (p : Point) → 1 ≤ p.column →
    row.runs run (spread line bytes p) p ≡ row_runs run bytes p
row-spread = bytes-run row.Run row.White row_turns row.runs row_runs row-are
