-- What holds of the begin and the end of each run of a heading holds of all that is left of its runs.
use Rattle.std.proofs.Common.{ℕ, Bool, true, false, cond, List, [], ◌∷◌, ◌++◌}
use Rattle.md_engine.specs.declared.event.Event.{Event}
use Rattle.md_engine.specs.declared.event.Point.{Point}
use Rattle.md_leaves.specs.HeadingRuns.{Run, begun, closes, is_continued, line_runs, opens}
use Rattle.md_events.specs.Events.Places.{past_byte}

-- a fact of events that holds where runs begin and end at points of this kind, which all points after a byte are
pub record OfRuns (At : Point → Type 0) (P : List Event → Type 0) : Type 0 where
  pub append : (xs ys : List Event) → P xs → P ys → P (xs ++ ys)
  pub closes : (run : Run) (p : Point) → At p → P (closes run p)
  pub opens : (run : Run) (p : Point) → At p → P (opens run p)
  pub next : (b : ℕ) (p : Point) → At p → At (past_byte b p)

pub runs-each : (At : Point → Type 0) (P : List Event → Type 0) → OfRuns At P → (run : Run) (xs : List ℕ) (p : Point) →
    At p →
    P (line_runs run xs p)
runs-each At P of run [] p h = of.closes run p h
runs-each At P of run (b ∷ xs) p h =
    let more = of.next b p h in
    go (is_continued run b) (runs-each At P of run xs (past_byte b p) more)
    (runs-each At P of (begun b) xs (past_byte b p) more)
  where
    go : (same : Bool) → P (line_runs run xs (past_byte b p)) → P (line_runs (begun b) xs (past_byte b p)) →
        P
        (cond same (line_runs run xs (past_byte b p))
        ((closes run p ++ opens (begun b) p) ++ line_runs (begun b) xs (past_byte b p)))
    go true on next = on
    go false on next = of.append _ _ (of.append _ _ (of.closes run p h) (of.opens (begun b) p h)) next
