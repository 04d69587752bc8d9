-- A leaf on one line of which nothing is known but its word has the events of the exact list.
use Rattle.std.proofs.Common.{◌≡◌, ℕ, List, [], ◌∷◌, refl, sym, ap, ◌∙◌}
use Rattle.md_engine.specs.declared.event.Point.{Point}
use Rattle.md_meaning.specs.Rest.{trim_start}
use Rattle.md_meaning.specs.Texts.{first_byte}
use Rattle.md_events.specs.Events.Nested.{around}
use Rattle.md_events.specs.Exact.Leaves as lines
use Rattle.md_events.specs.Exact.Leaves.{runs_line}
use Rattle.md_events.specs.Exact.Rows.{Row}
use Rattle.proof_frame.specs.LineLeaf.{LineLeaf}
use Rattle.proof_frame.specs.MarkRuns.{Apart, mark_runs}
use Rattle.proof_frame.proofs.BareLine.{AreMarks, BareLine}
use Rattle.proof_exact_lines.proofs.BeginsAt.{rest_bytes, BeginsAt}
use Rattle.proof_exact_lines.proofs.LeafLines.{end_at, leaf-one, marks-line, trim-cut}

pub bare-one : (l : LineLeaf) (bare : BareLine l) (row : Row) (p : Point) → BeginsAt row.line row.rest p →
    AreMarks (trim_start row.rest.bytes) →
    lines.leaf bare.block (runs_line bare.run) (row ∷ []) ≡ l.unread (rest_bytes row.rest) p
bare-one l bare row p at are =
    leaf-one bare.block (runs_line bare.run) row p at
    ∙ ap (around bare.block p (end_at row.rest p))
    (go (trim_start row.rest.bytes) refl are
    ∙ ap (λ (line : List ℕ). mark_runs bare.run Apart (first_byte line) (rest_bytes row.rest) p)
    (sym (trim-cut row.rest)))
    ∙ sym (bare.unread (rest_bytes row.rest) p)
  where
    go : (bytes : List ℕ) → trim_start row.rest.bytes ≡ bytes → AreMarks bytes →
        runs_line bare.run row.line row.rest ≡
        mark_runs bare.run Apart (first_byte bytes) (rest_bytes row.rest) p
    go [] e k = absurd (k.some refl)
    go (m ∷ bytes) e k = marks-line bare.run row.line row.rest p m bytes at e k.marks
