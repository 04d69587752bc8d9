-- Where a part may begin, a line does.
use Rattle.std.proofs.Common.{◌≡◌, ◌≤◌, ◌+◌, ◌-◌, ℕ, List, drop, ap₂, arith, subst}
use Rattle.md_engine.specs.declared.event.Point.{Point}
use Rattle.md_events.proofs.PlacesLemmas.{Placed, placed-facts}
use Rattle.md_events.proofs.ReachedLemmas.{point-placed}
use Rattle.md_meaning.specs.Lines.{full_lines_of}
use Rattle.proof_exact.proofs.LinesExact.{BeginsLine}
use Rattle.proof_exact_lines.proofs.Front.{begin}
use Rattle.proof_leaf_laws.proofs.FullLines.{full-lines}
use Rattle.proof_rows.proofs.TextAre.{MayBegin}
use Rattle.markdown_blocks.specs.TextsRead.{BeginsPart}

-- a point at which no tab is cut
begin-at : (p : Point) → p.vs ≡ 0 → 1 ≤ p.column → p ≡ begin p.line p.index (p.column - 1)
begin-at p whole column =
    let c : p.column ≡ p.column - 1 + 1 = omega (arith, column) in
    ap₂ (λ (c v : ℕ). let q : Point = record { line = p.line; column = c; index = p.index; vs = v } in q) c whole

pub line-at : (text : List ℕ) (p : Point) → Placed text p → p.vs ≡ 0 → 1 ≤ p.column →
    BeginsLine text p.line p.index (p.column - 1) (full_lines_of (drop p.index text))
line-at text p placed whole column = record {
  are = full-lines (drop p.index text);
  placed = subst (Placed text) (begin-at p whole column) placed;
}

pub part-point : (text : List ℕ) (p : Point) → BeginsPart text p → p ≡ begin p.line p.index (p.column - 1)
part-point text p begins = begin-at p begins.whole begins.column

pub part-may : (text : List ℕ) (p : Point) → BeginsPart text p → MayBegin text p
part-may text p begins = record { index = begins.placed.index; vs = begins.whole; column = begins.column }

pub part-line : (text : List ℕ) (p : Point) → BeginsPart text p →
    BeginsLine text p.line p.index (p.column - 1) (full_lines_of (drop p.index text))
part-line text p begins =
    line-at text p (placed-facts text p (point-placed text p begins.placed)) begins.whole begins.column

pub part-placed : (text : List ℕ) (p : Point) → BeginsPart text p → Placed text (begin p.line p.index (p.column - 1))
part-placed text p begins = (part-line text p begins).placed
