-- The lines of a text are one after the other.
use Rattle.std.proofs.Common.{◌≡◌, ℕ, true, List, [], ◌∷◌, refl, sym, subst, ◌&&◌}
use Rattle.std.specs.Prelude.{IsTrue}
use Rattle.std.proofs.lemmas.Bool.{and_from}
use Rattle.md_engine.specs.declared.configuration.ParseOptions.{ParseOptions}
use Rattle.md_engine.specs.declared.event.Point.{Point}
use Rattle.md_events.specs.Events.Inline.{in_order}
use Rattle.md_events.specs.Events.Places.{at_or_before}
use Rattle.md_events.proofs.InlineLemmas.{before-text}
use Rattle.md_events.proofs.NestedLemmas.{at_or_before-refl, at_or_before-trans}
use Rattle.proof_frame.specs.Row.{Row, after_row, chunks_of}
use Rattle.proof_frame.proofs.ChunkFacts.{ending-order}
use Rattle.proof_frame.proofs.FrontFacts.{LinePrefix}
use Rattle.proof_frame.proofs.FrontLemmas.{fronts-order}
use Rattle.proof_rows.proofs.JoinedLemmas.{following-is}
use Rattle.proof_rows.proofs.RowFacts.{IsRow}
use Rattle.md_events.proofs.PartsLemmas.{order-from}
use Rattle.proof_rows.proofs.GroupLines.{AreLines}

-- a line ends no earlier than it begins
pub line-order : (options : ParseOptions) (bytes line : List ℕ) (row : Row) → IsRow options bytes line row →
    IsTrue (at_or_before row.first row.end)
line-order options bytes line row is =
    subst (λ (q : Point). IsTrue (at_or_before row.first q)) (sym is.end) (before-text line row.first)

-- the chunks of a text are one after the other
pub chunks-order : (options : ParseOptions) (bytes : List ℕ) (row : Row) (rows : List Row) →
    AreLines options bytes row rows → in_order row.first (chunks_of row rows) ≡ true
chunks-order options bytes row [] h =
    and_from (at_or_before row.first row.first && at_or_before row.first row.end) true
    (and_from (at_or_before row.first row.first) (at_or_before row.first row.end) (at_or_before-refl row.first)
    (line-order options bytes h.0 row h.1)) refl
chunks-order options bytes row (next ∷ rows) h =
    let q : Point = after_row row in
    let following : q ≡ h.3 = following-is row h.3 h.4 in
    let ends : IsTrue (at_or_before row.first q) =
    subst (λ (x : Point). IsTrue (at_or_before row.first x)) (sym following)
    (at_or_before-trans row.first row.end h.3 (line-order options bytes h.0 row h.1)
    (ending-order bytes row.end h.3 h.5)) in
    and_from (at_or_before row.first row.first && at_or_before row.first q) (in_order q (chunks_of next rows))
    (and_from (at_or_before row.first row.first) (at_or_before row.first q) (at_or_before-refl row.first) ends)
    (subst (λ (x : Point). in_order x (chunks_of next rows) ≡ true) (sym following)
    (order-from h.3 next.first (chunks_of next rows) (fronts-order bytes [] h.3 next.first next.front h.6)
    (chunks-order options bytes next rows h.7)))

-- a line with its ending
pub line-before : (options : ParseOptions) (bytes : List ℕ) (row next : Row) (rows : List Row) →
    AreLines options bytes row (next ∷ rows) → IsTrue (at_or_before row.first (after_row row))
line-before options bytes row next rows h =
    subst (λ (x : Point). IsTrue (at_or_before row.first x)) (sym (following-is row h.3 h.4))
    (at_or_before-trans row.first row.end h.3 (line-order options bytes h.0 row h.1)
    (ending-order bytes row.end h.3 h.5))

-- what is before the next line, from the end the ending of the one before
pub next-front : (options : ParseOptions) (bytes : List ℕ) (row next : Row) (rows : List Row) →
    AreLines options bytes row (next ∷ rows) → LinePrefix bytes [] (after_row row) next.first next.front
next-front options bytes row next rows h =
    subst (λ (x : Point). LinePrefix bytes [] x next.first next.front) (sym (following-is row h.3 h.4)) h.6
