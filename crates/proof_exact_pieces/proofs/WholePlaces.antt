-- Places on a line that is known from its bytes: after so many of them is the point after these.
use Rattle.std.proofs.Common.{◌≡◌, ℕ, ◌+◌, ◌-◌, List, [], ◌++◌, length, take, drop}
use Rattle.std.proofs.Common.{refl, sym, ap, ◌∙◌, arith, append-nil}
use Rattle.std.proofs.lemmas.List.{length-append, take-append-drop}
use Rattle.std.proofs.Math.Seq.{take-append_seam}
use Rattle.md_engine.specs.declared.event.Point.{Point}
use Rattle.md_meaning.specs.Rest.{Rest}
use Rattle.md_events.specs.Events.Places.{columns_from, past_text}
use Rattle.md_events.proofs.FeedLines.{past_text-whole}
use Rattle.md_events.proofs.InlineLemmas.{past-index}
use Rattle.md_events.specs.Exact.Places.{TextLine, line_end, past, place, whole}
use Rattle.proof_exact_pieces.proofs.OnLine.{past-line}
use Rattle.proof_exact_pieces.proofs.PlaceLemmas.{before, columns_at, cut_len, line_start, past-column}

-- a rest after these bytes, before those
pub place-at : (line : TextLine) (r : Rest) (front rest : List ℕ) → line.bytes ≡ front ++ rest → r.bytes ≡ rest →
    r.spaces ≡ 0 → r.column ≡ columns_from line.column front → place line r ≡ past_text front (line_start line)
place-at line r front rest are left none column =
    ap (λ (i : ℕ). point line.number (r.column + 1) (line.index + i) (r.column - columns_at line i)) size
    ∙ ap (λ (v : ℕ). point line.number (r.column + 1) (line.index + length front) v) vs
    ∙ ap (λ (c : ℕ). point line.number c (line.index + length front) 0) columns
    ∙ ap (λ (i : ℕ). point line.number q.column i 0) (sym (past-index front (line_start line)))
    ∙ ap (λ (l : ℕ). point l q.column q.index 0) (sym (past-line front (line_start line)))
    ∙ ap (λ (v : ℕ). point q.line q.column q.index v) (sym (past_text-whole front (line_start line) refl))
  where
    q : Point
    q = past_text front (line_start line)

    point : ℕ → ℕ → ℕ → ℕ → Point
    point l c i v = record { line = l; column = c; index = i; vs = v }

    size : before line r ≡ length front
    size =
        let whole : length line.bytes ≡ length front + length rest = ap (λ (l : List ℕ). length l) are
        ∙ length-append front rest in
        let part : length r.bytes ≡ length rest = ap (λ (l : List ℕ). length l) left in
        let cut : cut_len r.spaces ≡ 0 = ap cut_len none in
        by (cut_len r.spaces) whole part cut
      where
        by : (c : ℕ) → length line.bytes ≡ length front + length rest → length r.bytes ≡ length rest → c ≡ 0 →
            length line.bytes - length r.bytes - c ≡ length front
        by c e f g = omega arith

    front-is : columns_at line (length front) ≡ columns_from line.column front
    front-is =
        ap (λ (l : List ℕ). columns_from line.column (take (length front) l)) are
        ∙ ap (columns_from line.column) (take-append_seam front rest)

    vs : r.column - columns_at line (length front) ≡ 0
    vs = omega (arith, front-is, column)

    columns : r.column + 1 ≡ q.column
    columns =
        ap (λ (c : ℕ). c + 1) column
        ∙ ap (λ (c : ℕ). columns_from c front + 1) same
        ∙ sym (past-column front (line_start line) (omega arith))
      where
        same : line.column ≡ line.column + 1 - 1
        same = omega arith

pub place-whole : (line : TextLine) → place line (whole line) ≡ line_start line
place-whole line = place-at line (whole line) [] line.bytes refl refl refl refl

pub place-past : (line : TextLine) (n : ℕ) →
    place line (past n (whole line)) ≡ past_text (take n line.bytes) (line_start line)
place-past line n =
    place-at line (past n (whole line)) (take n line.bytes) (drop n line.bytes)
    (sym (take-append-drop n line.bytes)) refl refl
    (ap (λ (c : ℕ). columns_from c (take n line.bytes)) none)
  where
    none : line.column + 0 ≡ line.column
    none = omega arith

pub place-end : (line : TextLine) → place line (line_end line) ≡ past_text line.bytes (line_start line)
place-end line =
    place-at line (line_end line) line.bytes [] (sym (append-nil line.bytes)) refl refl refl
