-- Where a rest of a line is in the text: `place` is the point that the lemmas on cells have.
use Rattle.std.proofs.Common.{◌≡◌, ℕ, zero, suc, ◌+◌, ◌-◌, ◌≤◌, List, ◌++◌, length, take, drop, refl, sym, ap}
use Rattle.std.proofs.Common.{arith, cond, min, [], ◌∷◌, ◌∙◌}
use Rattle.std.specs.Prelude.{◌==◌}
use Rattle.std.proofs.lemmas.Bool.{eqb-true, false_from_ne_true}
use Rattle.std.proofs.lemmas.List.{append_assoc, length-append, length-drop, length-take, take-append-drop}
use Rattle.md_engine.specs.declared.event.Point.{Point}
use Rattle.md_meaning.specs.Rest.{Rest, cut_tab}
use Rattle.md_events.specs.Events.Places.{column_past, columns_before, columns_from, past_byte, past_text}
use Rattle.md_events.proofs.FeedLines.{past_text-whole}
use Rattle.md_events.proofs.InlineLemmas.{past-index}
use Rattle.md_events.proofs.PlacesLemmas.{Placed, placed-text}
use Rattle.md_meaning.proofs.TextsLemmas.{NoEnding}
use Rattle.md_events.proofs.RestCells.{RestAt}
use Rattle.md_events.specs.Exact.Places.{TextLine, place}

-- a line is in a text, with this after its bytes
pub record LineOf (text following : List ℕ) (line : TextLine) : Type 0 where
  pub index : line.index ≤ length text
  pub text_is : drop line.index text ≡ line.bytes ++ following

-- the bytes of a cut tab
abbrev pub cut_len : ℕ → ℕ
cut_len spaces = cond (spaces == 0) 0 1

pub length-cut : (spaces : ℕ) → length (cut_tab spaces) ≡ cut_len spaces
length-cut zero = refl
length-cut (suc n) =
    sym (ap (λ x. cond x 0 1) (false_from_ne_true (suc n == 0) (λ e. absurd (omega (arith, eqb-true (suc n) 0 e)))))

-- how many bytes are before a rest
abbrev pub before : TextLine → Rest → ℕ
before line r = length line.bytes - length r.bytes - cut_len r.spaces

pub before-is : (text following : List ℕ) (line : TextLine) (r : Rest) (p : Point) → LineOf text following line →
    RestAt text following r p → line.index ≤ p.index → p.index ≤ length text → p.index ≡ line.index + before line r
before-is text following line r p line_at at onward inside =
    let whole : length text - line.index ≡ length line.bytes + length following =
    sym (length-drop line.index text) ∙ ap (λ (l : List ℕ). length l) line_at.text_is
    ∙ length-append line.bytes following in
    let rest : length text - p.index ≡ cut_len r.spaces + length r.bytes + length following =
    sym (length-drop p.index text) ∙ ap (λ (l : List ℕ). length l) at.text_is
    ∙ length-append (cut_tab r.spaces ++ r.bytes) following
    ∙ ap (λ (n : ℕ). n + length following) (length-append (cut_tab r.spaces) r.bytes)
    ∙ ap (λ (n : ℕ). n + length r.bytes + length following) (length-cut r.spaces) in
    by p.index line.index (cut_len r.spaces) whole rest inside onward
  where
    by : (i j c : ℕ) → length text - j ≡ length line.bytes + length following →
        length text - i ≡ c + length r.bytes + length following → i ≤ length text → j ≤ i →
        i ≡ j + (length line.bytes - length r.bytes - c)
    by i j c e f inside onward = omega arith

-- the columns of a line before so many of its bytes
abbrev pub columns_at : TextLine → ℕ → ℕ
columns_at line size = columns_from line.column (take size line.bytes)

-- A rest that is at a point has that point as its place, if the columns of the line before it are known there.
pub place-is : (text following : List ℕ) (line : TextLine) (r : Rest) (p : Point) → LineOf text following line →
    RestAt text following r p → line.index ≤ p.index → p.index ≤ length text → p.line ≡ line.number →
    p.column ≡ columns_at line (p.index - line.index) + p.vs + 1 → place line r ≡ p
place-is text following line r p line_at at onward inside number columns =
    let index : line.index + before line r ≡ p.index =
    sym (before-is text following line r p line_at at onward inside) in
    let size : p.index - line.index ≡ before line r = omega (arith, index) in
    let cut : r.column - columns_at line (before line r) ≡ p.vs =
    ap (λ (n : ℕ). r.column - columns_at line n) (sym size) ∙ left (columns_at line (p.index - line.index)) columns in
    ap (λ (n : ℕ). point n (r.column + 1) (line.index + before line r) (r.column - columns_at line (before line r)))
    (sym number)
    ∙ ap (λ (n : ℕ). point p.line n (line.index + before line r) (r.column - columns_at line (before line r)))
    (sym at.column)
    ∙ ap (λ (n : ℕ). point p.line p.column n (r.column - columns_at line (before line r))) index
    ∙ ap (λ (n : ℕ). point p.line p.column p.index n) cut
  where
    point : ℕ → ℕ → ℕ → ℕ → Point
    point l c i v = record { line = l; column = c; index = i; vs = v }

    left : (c : ℕ) → p.column ≡ c + p.vs + 1 → r.column - c ≡ p.vs
    left c e = omega (arith, e, at.column)

-- The point where a line begins.
abbrev pub line_start : TextLine → Point
line_start line = record { line = line.number; column = line.column + 1; index = line.index; vs = 0 }

pub no_ending-take : (n : ℕ) (bytes : List ℕ) → NoEnding bytes → NoEnding (take n bytes)
no_ending-take zero bytes h = tt
no_ending-take (suc n) [] h = tt
no_ending-take (suc n) (b ∷ bs) h = (h.0, no_ending-take n bs h.1)

pub past-column : (bytes : List ℕ) (p : Point) → 1 ≤ p.column →
    (past_text bytes p).column ≡ columns_from (p.column - 1) bytes + 1
past-column [] p some = omega arith
past-column (b ∷ bs) p some =
    past-column bs (past_byte b p) (omega arith)
    ∙ ap (λ (c : ℕ). columns_from c bs + 1) (less (column_past b (p.column - 1)))
  where
    less : (n : ℕ) → n + 1 - 1 ≡ n
    less n = omega arith

-- the columns of a line before so many of its bytes are those of the text there
pub columns-in : (text following : List ℕ) (line : TextLine) (size : ℕ) → LineOf text following line →
    NoEnding line.bytes → Placed text (line_start line) → size ≤ length line.bytes →
    columns_before text (line.index + size) ≡ columns_at line size
columns-in text following line size line_at plain placed le =
    let front : List ℕ = take size line.bytes in
    let q : Point = past_text front (line_start line) in
    let next : drop line.index text ≡ front ++ (drop size line.bytes ++ following) =
    line_at.text_is ∙ ap (λ (l : List ℕ). l ++ following) (sym (take-append-drop size line.bytes))
    ∙ append_assoc front (drop size line.bytes) following in
    let there : Placed text q =
    placed-text text (line_start line) front (drop size line.bytes ++ following) placed next
    (no_ending-take size line.bytes plain) in
    let index : q.index ≡ line.index + size =
    past-index front (line_start line) ∙ ap (λ (n : ℕ). line.index + n) (length-take size line.bytes ∙ least) in
    let column : q.column ≡ columns_from (line.column + 1 - 1) front + 1 = past-column front (line_start line)
    (omega arith) in
    let same : columns_from (line.column + 1 - 1) front ≡ columns_at line size =
    ap (λ (c : ℕ). columns_from c front) less in
    ap (columns_before text) (sym index)
    ∙ by (columns_before text q.index) q.column q.vs there.column (past_text-whole front (line_start line) refl)
    (column ∙ ap (λ (n : ℕ). n + 1) same)
  where
    less : line.column + 1 - 1 ≡ line.column
    less = omega arith

    least : min size (length line.bytes) ≡ size
    least = omega arith

    by : (before column vs : ℕ) → column ≡ before + vs + 1 → vs ≡ 0 → column ≡ columns_at line size + 1 →
        before ≡ columns_at line size
    by before column vs e f g = omega arith

-- So a rest that is at a point of the text, on a line that begins at one, has it as its place.
pub placed-place : (text following : List ℕ) (line : TextLine) (r : Rest) (p : Point) → LineOf text following line →
    NoEnding line.bytes → Placed text (line_start line) → RestAt text following r p → Placed text p →
    line.index ≤ p.index → p.index ≤ line.index + length line.bytes → p.line ≡ line.number → place line r ≡ p
placed-place text following line r p line_at plain begin at placed onward inside number =
    let size : line.index + (p.index - line.index) ≡ p.index = omega arith in
    place-is text following line r p line_at at onward placed.index number
    (placed.column
    ∙ ap (λ (n : ℕ). n + p.vs + 1)
    (ap (columns_before text) (sym size)
    ∙ columns-in text following line (p.index - line.index) line_at plain begin (omega arith)))
