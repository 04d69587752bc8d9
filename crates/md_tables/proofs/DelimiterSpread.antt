-- The runs of a delimiter row by the cells of its line are those by its bytes: its indent is the first of them, and the
-- columns of a tab lie in one run.
use Rattle.std.proofs.Common.{◌≡◌, ℕ, ◌≤◌, false, cond, List, [], ◌∷◌, ◌++◌, refl, ap₂}
use Rattle.md_engine.specs.declared.event.Event.{Event}
use Rattle.md_engine.specs.declared.event.Name.TheVariants.{SpaceOrTab}
use Rattle.md_engine.specs.declared.event.Point.{Point}
use Rattle.md_engine.specs.declared.tokenizer.Line.{Line}
use Rattle.md_engine.specs.Meaning.{Cell}
use Rattle.md_events.specs.Ahead.{begins_white, line_cells, white_end, white_rest}
use Rattle.md_events.specs.Events.Nested.{pair}
use Rattle.md_events.specs.Events.Places.{past_byte}
use Rattle.md_events.proofs.FeedLines.{cell, spread}
use Rattle.md_tables.proofs.RunSpread.{AreSpread, HaveWhite, bytes-run, front-run}
use Rattle.md_tables.specs.DelimiterRule.{Apart, Run, Space, begun, closes, is_continued, opens, runs}
use Rattle.md_tables.specs.GfmTableLine.{delimiter_runs}

abbrev delimiter_turns : Run → Point → List Event → List Event
delimiter_turns run p es = cond (is_continued run 9) es (closes run p ++ opens Space p ++ es)

delimiter-are : AreSpread Run Space delimiter_turns runs delimiter_runs
delimiter-are = record {
  none = λ run p. refl;
  byte = λ run b line cs bs p more.
      ap₂ (λ (xs zs : List Event). cond (is_continued run b) xs (closes run p ++ opens (begun b) p ++ zs)) (more run)
      (more (begun b));
  column = column;
  tab = tab;
  more = λ byte at line cs q e. rw e refl;
}
  where
    column : (run : Run) (at : Point) (line : Line) (cs : List Cell) (p : Point) →
        runs run (cell 9 at line ∷ cs) p ≡ delimiter_turns run p (runs Space cs at)
    column Apart at line cs p = refl
    column _ at line cs p = refl

    tab : (run : Run) (bs : List ℕ) (p : Point) →
        delimiter_runs run (9 ∷ bs) p ≡ delimiter_turns run p (delimiter_runs Space bs (past_byte 9 p))
    tab Apart bs p = refl
    tab _ bs p = refl

delimiter-white : HaveWhite Run Space Apart runs
delimiter-white = record {
  none = λ q. refl;
  dark = λ c cs q e. rw e refl;
  more = λ c cs q e. rw e refl;
  opens = λ c cs p e. rw e refl;
}

-- the indent with the runs after it is all the runs of the line
pub indent-runs : (room : ℕ) (cells : List Cell) (p : Point) → begins_white (white_rest room cells) ≡ false →
    cond (begins_white cells) (pair SpaceOrTab p (white_end room cells p)) []
    ++ runs Apart (line_cells (white_rest room cells)) (white_end room cells p) ≡
    runs Apart (line_cells cells) p
indent-runs = front-run Run Space Apart runs delimiter-white

-- the runs of the cells of a line are those of its bytes
pub spread-runs : (run : Run) (line : Line) (bytes : List ℕ) (p : Point) → 1 ≤ p.column →
    runs run (spread line bytes p) p ≡ delimiter_runs run bytes p
spread-runs = bytes-run Run Space delimiter_turns runs delimiter_runs delimiter-are
