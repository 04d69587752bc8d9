-- The line of text that is the head of a table (GFM 4.10), as its states leave it before the rows after it: what holds
-- of each of its events, and that it begins a leaf of several lines.
use Rattle.std.proofs.Common.{ℕ, Bool, List, [], ◌∷◌, ◌++◌, refl}
use Rattle.md_engine.specs.declared.event.Content.{Content}
use Rattle.md_engine.specs.declared.event.Event.{Event}
use Rattle.md_engine.specs.declared.event.Name.TheVariants as n
use Rattle.md_engine.specs.declared.event.Point.{Point}
use Rattle.md_leaves.proofs.SpannedLines.{IsBegin}
use Rattle.md_events.specs.Events.Nested.{enter, exit}
use Rattle.md_events.specs.Events.Places.{past_text}
use Rattle.md_tables.specs.GfmTableLine.{head_line, row_runs}
use Rattle.md_tables.specs.RowRule.{Apart}
use Rattle.proof_frame.proofs.EachEvent.{Each, each-append}
use Rattle.proof_frame.proofs.ContentFacts.{NoContent, WantsContent}
use Rattle.proof_leaf_laws.proofs.GfmTable.Each.{OfRow, of-no_content, row-bytes}
use Rattle.proof_leaf_laws.proofs.GfmTable.Span.{IsNoLine, each-no_lines, of-no_line}
use Rattle.proof_frame.proofs.MarkRuns.Each.{IsNoContent, each-no_content}
use Rattle.proof_frame.proofs.SpanLaws.{IsSpanned}
use Rattle.proof_frame.proofs.SpannedFacts.{AreUnspanned}

-- its row
abbrev row_events : List ℕ → Point → List Event
row_events line p =
    enter n.GfmTableRow p ∷ row_runs Apart line p ++ exit n.GfmTableRow (past_text line p) ∷ []

row-each : (P : Event → Type 0) → OfRow P → (line : List ℕ) (p : Point) → Each P (row_events line p)
row-each P of line p =
    let q : Point = past_text line p in (
      of.row.0 p,
      each-append P (row_runs Apart line p) (exit n.GfmTableRow q ∷ []) (row-bytes P of Apart line p)
          (of.row.1 q, tt),
    )

-- and the table around it
pub head-each : (P : Event → Type 0) → OfRow P → ((p : Point) → P (enter n.GfmTable p)) →
    ((p : Point) → P (exit n.GfmTable p)) → (line : List ℕ) (p : Point) → Each P (head_line line p)
head-each P of begins ends line p =
    let q : Point = past_text line p in (
      begins p,
      each-append P (row_events line p) (exit n.GfmTable q ∷ []) (row-each P of line p) (ends q, tt),
    )

-- No part of it is rewritten.

-- Nor is content in it.
pub head-no_content : (wants : Content → Bool) → WantsContent wants → (line : List ℕ) (p : Point) →
    NoContent wants (head_line line p)
head-no_content wants only line p =
    each-no_content wants (head_line line p)
    (head-each (IsNoContent wants) (of-no_content wants only).of (λ q. (refl, refl)) (λ q. (refl, refl)) line p)

-- It begins the leaf.
pub head-spanned : (line : List ℕ) (p : Point) → IsSpanned AreUnspanned IsBegin (head_line line p)
head-spanned line p = record {
  lead = [];
  begin = enter n.GfmTable p;
  inside = row_events line p;
  end = exit n.GfmTable (past_text line p);
  is = refl;
  lead_plain = tt;
  begins = record { kind = refl; lines = refl; link = refl };
  inside_plain = each-no_lines (row_events line p) (row-each IsNoLine of-no_line line p);
  ends = record { kind = refl; lines = refl };
}
