-- The lines of a text fill their leaf, before they are read and once they are.
use Rattle.proof_frame.proofs.FrontValid.{fronts-others}
use Rattle.std.proofs.Common.{◌≡◌, ℕ, ◌+◌, ◌<◌, Bool, true, false, cond, List, [], ◌∷◌, ◌++◌, length, refl, sym, subst}
use Rattle.std.proofs.Common.{arith}
use Rattle.std.proofs.lemmas.Bool.Decides.{nat_tests}
use Rattle.md_engine.specs.declared.configuration.ParseOptions.{ParseOptions}
use Rattle.md_engine.specs.declared.event.Event.{Event}
use Rattle.md_engine.specs.declared.event.Name.TheVariants as n
use Rattle.md_engine.specs.declared.event.Point.{Point}
use Rattle.md_events.specs.declared.inline.Chunk.{Chunk}
use Rattle.md_events.specs.Events.Inline.{pair_unless_empty, plain_chunk}
use Rattle.md_events.specs.Events.Nested.{pair}
use Rattle.md_events.specs.Events.Places.{same_place}
use Rattle.md_events.proofs.EndingsLemmas.{Filling, Stays, filling-append, stays-append, stays-others}
use Rattle.md_events.proofs.InlineLemmas.{same-refl}
use Rattle.proof_frame.specs.Row.{Row, TextRow, after_row, read_lines}
use Rattle.proof_rows.specs.BlockList.{unread_lines}
use Rattle.proof_frame.proofs.FrontFacts.{LinePrefix}
use Rattle.proof_rows.proofs.GroupLines.{AreLines}
use Rattle.proof_rows.proofs.GroupLemmas.{line_end-alone, text-some}
use Rattle.proof_rows.proofs.RowFacts.{IsRow}
use Rattle.proof_content_laws.proofs.Text.ChunkStays.{chunk-stays}

-- a line of a text part with what is before the next, and the next
pub filling-next : (bytes : List ℕ) (q r : Point) (chunk front rest : List Event) → Stays chunk →
    LinePrefix bytes [] q r front → Filling rest → Filling (chunk ++ front ++ rest)
filling-next bytes q r chunk front rest h is k =
    filling-append (chunk ++ front) rest
    (stays-append chunk front h (stays-others front (fronts-others bytes [] q r front is))) k

-- the lines of a text, before they are read
pub linked-filling : (options : ParseOptions) (bytes : List ℕ) (row : Row) (rows : List Row) →
    AreLines options bytes row rows → Filling (unread_lines row rows)
linked-filling options bytes row [] is = λ from ys. refl
linked-filling options bytes row (next ∷ rows) is =
    filling-next bytes is.3 next.first (unread_lines (record row { end = after_row row }) []) next.front
    (unread_lines next rows) (λ from. (true, λ ys. refl)) is.6 (linked-filling options bytes next rows is.7)

-- and once they are: the last is not empty, and has no ending there
pub last-filling : (options : ParseOptions) (bytes line : List ℕ) (row : Row) → IsRow options bytes line row →
    row.kind ≡ TextRow → Filling (plain_chunk bytes (record { first = row.first; after = row.end }))
last-filling options bytes line row is text =
    subst
    (λ (end : Point).
    Filling (pair_unless_empty n.Data row.first end ++ pair_unless_empty n.LineEnding end row.end))
    (sym (line_end-alone options bytes line row is))
    (go (same_place row.first row.end) apart (same_place row.end row.end) (same-refl row.end))
  where
    some : row.first.index + length line ≡ row.end.index → 0 < length line → same_place row.first row.end ≡ false
    some size lt = grind (arith, nat_tests)

    apart : same_place row.first row.end ≡ false
    apart = some (sym is.size) (text-some options bytes line row is text)

    go : (x : Bool) → x ≡ false → (y : Bool) → y ≡ true →
        Filling (cond x [] (pair n.Data row.first row.end) ++ cond y [] (pair n.LineEnding row.end row.end))
    go false h true k = λ from ys. refl
    go true h y k = cc
    go false h false k = cc

pub read-filling : (options : ParseOptions) (bytes : List ℕ) (row : Row) (rows : List Row) →
    AreLines options bytes row rows → Filling (read_lines bytes row rows)
read-filling options bytes row [] is = last-filling options bytes is.0 row is.1 is.2
read-filling options bytes row (next ∷ rows) is =
    let chunk : Chunk = record { first = row.first; after = after_row row } in
    filling-next bytes is.3 next.first (plain_chunk bytes chunk) next.front (read_lines bytes next rows)
    (chunk-stays bytes chunk) is.6 (read-filling options bytes next rows is.7)
