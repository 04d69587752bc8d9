-- The opening line of fenced code or math as a row: what it opens, its events, and what is in it.
use Rattle.std.proofs.Common.{◌≡◌, ℕ, ◌+◌, ◌<◌, Bool, true, false, cond, ◌&&◌, not, List, [], ◌∷◌, ◌++◌, length, drop}
use Rattle.std.proofs.Common.{refl, sym, ap, ◌∙◌, subst, append_assoc, arith}
use Rattle.std.specs.Prelude.{◌==◌}
use Rattle.std.proofs.lemmas.Bool.{true≢false}
use Rattle.std.proofs.lemmas.Bool.Decides.{nat_tests}
use Rattle.md_engine.specs.declared.configuration.ParseOptions.{ParseOptions}
use Rattle.md_engine.specs.declared.event.Event.{Event}
use Rattle.md_engine.specs.declared.event.Name.{Name}
use Rattle.md_engine.specs.declared.event.Name.TheVariants as n
use Rattle.md_engine.specs.declared.event.Point.{Point}
use Rattle.md_meaning.specs.Rest.{Rest, indent, is_white, trim_start}
use Rattle.md_meaning.specs.State.{Opening}
use Rattle.md_meaning.specs.Texts.{first_byte}
use Rattle.md_literal.specs.Fence.{block_name, is_open as is_fence}
use Rattle.md_outline.specs.LinesAllowed.{AtEnding, begun_site}
use Rattle.md_events.specs.Events.Grammar.{plain_text}
use Rattle.md_events.specs.Events.Nested.{around, enter, exit, pair}
use Rattle.md_events.specs.Events.Places.{past_text}
use Rattle.md_events.specs.Events.Spelled.{fresh}
use Rattle.md_events.specs.Events.Tiles.{plain_read}
use Rattle.proof_frame.specs.RestLine.{rest_line}
use Rattle.proof_literal_laws.specs.Leaf.Fence.{fence_leaf, fence_line, linked, opening_at, past_white, read_inner}
use Rattle.proof_literal_laws.specs.Leaf.Fence.{white_part}
use Rattle.proof_frame.specs.Row.{Row, but_end}
use Rattle.proof_literal_laws.proofs.Fence.Laid.{Laid, laid}
use Rattle.proof_literal_laws.proofs.Fence.Opened.{fence-starts}
use Rattle.proof_literal_laws.proofs.FenceFurther.Definition.{held_of, opening-fence}
use Rattle.proof_literal_laws.proofs.FenceFurther.Grammar.{following_line}
use Rattle.proof_literal_laws.proofs.FenceSpan.First.{fence-filled, first-facts, first_inside, marks-are, marks_of}
use Rattle.proof_literal_laws.proofs.FenceSpan.First.{opened_by}
use Rattle.proof_literal_laws.proofs.FenceSpan.Open.{AreMarks, begin_of, kind_of, leaf_of}
use Rattle.proof_frame.proofs.LeafLines.Rest.{leads_back, row_done, row_unread}
use Rattle.proof_literal_laws.proofs.FenceSpan.White.{white-lead}
use Rattle.proof_frame.proofs.FillFacts.{filled-read}
use Rattle.proof_frame.proofs.RestFacts.{rest-trim}
use Rattle.proof_frame.proofs.LeafLines.Cuts.{but_end-is}
use Rattle.proof_frame.proofs.LeafLines.Inside.{InsideFacts}
use Rattle.proof_frame.proofs.LeafLines.Lead.{LeadFacts}
use Rattle.proof_frame.proofs.LeafLines.Lines.{EndsLeaf, ends-by}
use Rattle.proof_frame.proofs.SpanLaws.{IsLineOf}

-- By the rest of the line: its bytes, what follows its whitespace, and what it opens.
abbrev pub text_of : Rest → List ℕ
text_of r = trim_start (rest_line r)

abbrev pub opening_of : Rest → Opening
opening_of r = opened_by (indent r) (text_of r)

-- which is what the line definition has
pub opening-same : (r : Rest) → opening_at r ≡ opening_of r
opening-same r = ap (λ (l : List ℕ). opened_by (indent r) l) (sym (rest-trim r))

-- The line.

abbrev pub name_of : Rest → Name
name_of r = block_name (first_byte (text_of r))

pub line-laid : (options : ParseOptions) (bytes : List ℕ) (row : Row) → (is : IsLineOf options bytes fence_leaf row) →
    Laid options bytes (rest_line is.rest) row.first (drop row.end.index bytes)
line-laid options bytes row is = laid options bytes is.rest row.first row.end is.starts is.at

pub line-marks : (options : ParseOptions) (bytes : List ℕ) (row : Row) → (is : IsLineOf options bytes fence_leaf row) →
    AreMarks (opening_of is.rest) (marks_of (text_of is.rest))
line-marks options bytes row is =
    marks-are options bytes (rest_line is.rest) (drop row.end.index bytes) row.first (indent is.rest)
    (line-laid options bytes row is)

-- what is held after it is a fence
pub line-fence : (options : ParseOptions) (bytes : List ℕ) (row : Row) → (is : IsLineOf options bytes fence_leaf row) →
    is_fence (held_of (opening_of is.rest)) ≡ true
line-fence options bytes row is =
    subst (λ (o : Opening). is_fence (held_of o) ≡ true) (opening-same is.rest)
    (opening-fence options is.rest (opening_at is.rest) [] (fence-starts options is.rest is.starts).opens)

pub line-held : (options : ParseOptions) (bytes : List ℕ) (row : Row) → (is : IsLineOf options bytes fence_leaf row) →
    row.following ≡ held_of (opening_of is.rest)
line-held options bytes row is = is.following ∙ ap held_of (opening-same is.rest)

-- something is on it
pub line-full : (options : ParseOptions) (bytes : List ℕ) (row : Row) → (is : IsLineOf options bytes fence_leaf row) →
    not row.empty ≡ true
line-full options bytes row is =
    let some = filled (rest_line is.rest) (line-marks options bytes row is).some in
    let size = is.at.size in
    ap not (is.empty ∙ ap (λ (x : Bool). x && (row.first.column == 1)) (apart some size))
  where
    filled : (line : List ℕ) → (length (marks_of (trim_start line)) == 0) ≡ false → 0 < length line
    filled [] h = absurd (true≢false h)
    filled (b ∷ bs) h = omega arith

    apart : 0 < length (rest_line is.rest) → row.end.index ≡ row.first.index + length (rest_line is.rest) →
        (row.first.index == row.end.index) ≡ false
    apart some size = grind (arith, nat_tests)

-- Its events.

-- as its states leave them,
pub unread-is : (options : ParseOptions) (bytes : List ℕ) (row : Row) → (is : IsLineOf options bytes fence_leaf row) →
    row.inside ≡
    white_part (rest_line is.rest) row.first
    ++ around (name_of is.rest) (past_white (rest_line is.rest) row.first) row.end
    (first_inside linked (rest_line is.rest) row.first row.end)
unread-is options bytes row is =
    is.inside
    ∙ ap
    (λ (e : Point).
    white_part (rest_line is.rest) row.first
    ++ around (name_of is.rest) (past_white (rest_line is.rest) row.first) e
    (first_inside linked (rest_line is.rest) row.first e)) (sym is.at.end)

-- and once their text parts are read
line-first : (line : List ℕ) (p : Point) → leads_back (fence_line linked line p) ≡ false
line-first [] p = refl
line-first (b ∷ bs) p = go (is_white b)
  where
    go : (x : Bool) →
        leads_back
        (cond x (pair n.SpaceOrTab p (past_white (b ∷ bs) p)) []
        ++ around (block_name (first_byte (trim_start (b ∷ bs)))) (past_white (b ∷ bs) p) (past_text (b ∷ bs) p)
        (first_inside linked (b ∷ bs) p (past_text (b ∷ bs) p))) ≡
        false
    go true = refl
    go false = refl

pub done-is : (options : ParseOptions) (bytes : List ℕ) (row : Row) → (is : IsLineOf options bytes fence_leaf row) →
    row_done bytes row ≡
    white_part (rest_line is.rest) row.first
    ++ around (name_of is.rest) (past_white (rest_line is.rest) row.first) row.end
    (first_inside (read_inner bytes) (rest_line is.rest) row.first row.end)
done-is options bytes row is =
    ap (λ (es : List Event). cond (leads_back es) es (plain_read bytes es)) is.inside
    ∙ ap
    (λ (x : Bool).
    cond x (fence_line linked line row.first) (plain_read bytes (fence_line linked line row.first)))
    (line-first line row.first)
    ∙ filled-read bytes (fence_line linked line row.first) (fence_line (read_inner bytes) line row.first)
    (fence-filled options bytes line (drop row.end.index bytes) row.first (line-laid options bytes row is))
    ∙ ap
    (λ (e : Point).
    white_part line row.first
    ++ around (name_of is.rest) (past_white line row.first) e
    (first_inside (read_inner bytes) line row.first e)) (sym is.at.end)
  where
    line : List ℕ
    line = rest_line is.rest

-- it ends the block, as long as no other line does
pub line-ends : (options : ParseOptions) (bytes : List ℕ) (row : Row) → (is : IsLineOf options bytes fence_leaf row) →
    EndsLeaf row_unread (row_done bytes) (name_of is.rest) row
line-ends options bytes row is =
    ends-by row_unread (row_done bytes) (name_of is.rest) row (front ++ enter name at ∷ us)
    (front ++ enter name at ∷ es)
    is.at.end_whole (unread-is options bytes row is ∙ by us) (done-is options bytes row is ∙ by es)
  where
    front : List Event
    front = white_part (rest_line is.rest) row.first

    name : Name
    name = name_of is.rest

    at : Point
    at = past_white (rest_line is.rest) row.first

    us : List Event
    us = first_inside linked (rest_line is.rest) row.first row.end

    es : List Event
    es = first_inside (read_inner bytes) (rest_line is.rest) row.first row.end

    by : (xs : List Event) →
        front ++ around name at row.end xs ≡ (front ++ enter name at ∷ xs) ++ exit name row.end ∷ []
    by xs = sym (append_assoc front (enter name at ∷ xs) (exit name row.end ∷ []))

-- without its end
pub begin-is : (name : Name) (at e : Point) (front es inside : List Event) → es ≡ front ++ around name at e inside →
    but_end es ≡ front ++ enter name at ∷ inside
begin-is name at e front es inside is =
    ap but_end (is ∙ sym (append_assoc front (enter name at ∷ inside) (exit name e ∷ [])))
    ∙ but_end-is (front ++ enter name at ∷ inside) (exit name e)

-- what is before its begin, and after it
pub line-lead : (options : ParseOptions) (bytes : List ℕ) (row : Row) → (is : IsLineOf options bytes fence_leaf row) →
    LeadFacts bytes row.first (past_white (rest_line is.rest) row.first) (white_part (rest_line is.rest) row.first)
line-lead options bytes row is =
    let lies = line-laid options bytes row is in
    white-lead bytes (rest_line is.rest) (drop row.end.index bytes) row.first lies.valid lies.cut

pub line-inside : (options : ParseOptions) (bytes : List ℕ) (row : Row) →
    (is : IsLineOf options bytes fence_leaf row) →
    let m = first_byte (text_of is.rest) in
    InsideFacts bytes (past_white (rest_line is.rest) row.first) row.end (begin_of m) (following_line plain_text m)
    (fresh (kind_of m)) (leaf_of (opening_of is.rest) (marks_of (text_of is.rest)) [] false) (begun_site (kind_of m))
    (AtEnding (kind_of m)) (first_inside linked (rest_line is.rest) row.first row.end)
    (first_inside (read_inner bytes) (rest_line is.rest) row.first row.end)
line-inside options bytes row is =
    subst
    (λ (e : Point).
    let m = first_byte (text_of is.rest) in
    InsideFacts bytes (past_white (rest_line is.rest) row.first) e (begin_of m) (following_line plain_text m)
    (fresh (kind_of m)) (leaf_of (opening_of is.rest) (marks_of (text_of is.rest)) [] false) (begun_site (kind_of m))
    (AtEnding (kind_of m)) (first_inside linked (rest_line is.rest) row.first e)
    (first_inside (read_inner bytes) (rest_line is.rest) row.first e)) (sym is.at.end)
    (first-facts options bytes (rest_line is.rest) (drop row.end.index bytes) row.first (indent is.rest)
    (line-laid options bytes row is))
