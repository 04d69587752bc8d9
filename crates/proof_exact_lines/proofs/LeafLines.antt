-- The lines of leaves: which leaves begin on a line, and that what the values have for a line is what the exact list
-- has for its rest.
use Rattle.std.proofs.Common.{◌≡◌, ℕ, zero, suc, ◌<◌, ◌≤◌, Bool, true, false, cond, ◌&&◌, ◌||◌, List, [], ◌∷◌, ◌++◌}
use Rattle.std.proofs.Common.{length, take, drop, refl, sym, ap, ap₂, ◌∙◌, subst, append-nil, arith, map}
use Rattle.std.specs.Prelude.{◌==◌, nat_lt}
use Rattle.std.specs.List.{AllPass, list_all, prefix_len}
use Rattle.std.proofs.lemmas.Bool.{and_from, and_parts, or_right}
use Rattle.std.proofs.lemmas.List.{take-append-drop}
use Rattle.std.proofs.lemmas.List.Folds.{list_all-append}
use Rattle.md_engine.specs.declared.configuration.ParseOptions.{ParseOptions}
use Rattle.md_engine.specs.declared.event.Event.{Event}
use Rattle.md_engine.specs.declared.event.Name.{Name}
use Rattle.md_engine.specs.declared.event.Name.TheVariants as n
use Rattle.md_engine.specs.declared.event.Point.{Point}
use Rattle.md_leaves.specs.HeadingSetext.{is_marker}
use Rattle.md_leaves.specs.HeadingSetextRule.{is_underline}
use Rattle.md_leaves.specs.Further.{further_link}
use Rattle.md_leaves.specs.Spanned.{renamed}
use Rattle.md_leaves.specs.declared.spans.Place.TheVariants.{Outside}
use Rattle.md_leaves.proofs.TitleRuns.{pass-first, pass-rest}
use Rattle.md_leaves.proofs.TitleTexts.{front-passes, front-stops}
use Rattle.md_meaning.specs.Bytes.{begins, is_end}
use Rattle.md_meaning.specs.Rest.{Rest, after_indent, cut_tab, indent, is_blank, is_white, lose, run_len, trim_start}
use Rattle.md_meaning.specs.State.{Opening}
use Rattle.md_meaning.specs.Texts.{first_byte}
use Rattle.md_events.specs.Events.Nested.{around, enter_link, exit, pair}
use Rattle.md_events.specs.Events.Places.{past_text}
use Rattle.md_events.proofs.RestLines.{count-one}
use Rattle.md_literal.specs.Fence.{block_name}
use Rattle.proof_frame.specs.LineColumns.{part_over, past_columns, rest_of}
use Rattle.proof_frame.specs.MarkRuns.{Apart, mark_runs}
use Rattle.proof_frame.specs.Row.{blank_line}
use Rattle.proof_frame.proofs.BetweenFacts.{all-more}
use Rattle.proof_leaf_laws.specs.Leaf.HeadingAtx.{heading_leaf}
use Rattle.proof_leaf_laws.specs.Leaf.HeadingSetext.{setext_leaf}
use Rattle.proof_literal_laws.specs.Leaf.CodeIndented.{code_events, code_parts}
use Rattle.proof_literal_laws.specs.Leaf.CodeIndented as code
use Rattle.proof_literal_laws.specs.Leaf.Fence.{fence_around, fence_line, held_of, linked, past_white, white_part}
use Rattle.proof_literal_laws.specs.Leaf.FenceFurther.{further_line, further_parts}
use Rattle.proof_literal_laws.specs.Leaf.HtmlFlow.{data_of, html_events}
use Rattle.proof_literal_laws.specs.Leaf.HtmlFlow as html
use Rattle.md_events.specs.Exact.Leaves.{content_line, fence_part, fenced_line, info_parts, heading_line, joined, leaf}
use Rattle.md_events.specs.Exact.Leaves.{runs_line}
use Rattle.md_events.specs.Exact.Places.{TextLine, line_end, place, white}
use Rattle.md_events.specs.Exact.Rows.{Row}
use Rattle.proof_exact_lines.proofs.BeginsAt.{BeginsAt, begins-place, rest_bytes}
use Rattle.proof_exact_lines.proofs.Fences.{further-line, opening-fence, white-first}
use Rattle.proof_exact_lines.proofs.Heading.{heading-line}
use Rattle.proof_exact_lines.proofs.Lost.{line-lost}
use Rattle.proof_exact_lines.proofs.OnLine.{begins-again}
use Rattle.proof_exact_lines.proofs.Parts.{end-following}
use Rattle.proof_exact_lines.proofs.Runs.{AreMarks, is_mark, line-runs}

-- A leaf on one line.

-- where a line ends
abbrev pub end_at : Rest → Point → Point
end_at r p = past_text (rest_bytes r) p

pub ends-at : (line : TextLine) (r : Rest) (p : Point) → BeginsAt line r p → place line (line_end line) ≡ end_at r p
ends-at line r p at =
    begins-place line (line_end line) (end_at r p) (end-following line r p (rest_bytes r) at refl).valid.at

-- a leaf on a line is what is in it, from its begin to the end of the line
pub leaf-one : (name : Name) (inside : TextLine → Rest → List Event) (row : Row) (p : Point) →
    BeginsAt row.line row.rest p →
    leaf name inside (row ∷ []) ≡ around name p (end_at row.rest p) (inside row.line row.rest)
leaf-one name inside row p at =
    ap₂ (λ (a b : Point). around name a b (joined inside (row ∷ []))) (begins-place row.line row.rest p at)
    (ends-at row.line row.rest p at)
    ∙ ap (around name p (end_at row.rest p))
    (append-nil (inside row.line row.rest ++ []) ∙ append-nil (inside row.line row.rest))

-- Headings.
pub heading-one : (row : Row) (p : Point) → BeginsAt row.line row.rest p →
    leaf n.HeadingAtx heading_line (row ∷ []) ≡ heading_leaf.unread (rest_bytes row.rest) p
heading-one row p at =
    leaf-one n.HeadingAtx heading_line row p at
    ∙ ap (around n.HeadingAtx p (end_at row.rest p)) (heading-line row.line row.rest p at)

-- Lines of markers.

-- whitespace and markers are marks
white-mark : (m b : ℕ) → is_white b ≡ true → is_mark m b ≡ true
white-mark m b e = or_right (b == m) (is_white b) e

marker-mark : (m b : ℕ) → (b == m) ≡ true → is_mark m b ≡ true
marker-mark m b e = ap (λ (t : Bool). t || is_white b) e

pass-marks : (f : ℕ → Bool) (m : ℕ) (bytes : List ℕ) → ((b : ℕ) → f b ≡ true → is_mark m b ≡ true) →
    AllPass f bytes → AreMarks m bytes
pass-marks f m [] more h = refl
pass-marks f m (b ∷ bytes) more h =
    and_from (is_mark m b) (list_all (is_mark m) bytes) (more b (pass-first f b bytes h))
    (pass-marks f m bytes more (pass-rest f b bytes h))

-- the bytes after the whitespace of a rest, with a tab that is cut or without
pub trim-cut : (r : Rest) → trim_start (rest_bytes r) ≡ trim_start r.bytes
trim-cut r = go r.spaces
  where
    go : (spaces : ℕ) → trim_start (cut_tab spaces ++ r.bytes) ≡ trim_start r.bytes
    go zero = refl
    go (suc k) = ap (λ (i : ℕ). drop i (9 ∷ r.bytes)) (count-one is_white 9 r.bytes refl)

-- the runs of a line of marks that is not blank
pub marks-line : (name : Name) (line : TextLine) (r : Rest) (p : Point) (m : ℕ) (bytes : List ℕ) → BeginsAt line r p →
    trim_start r.bytes ≡ m ∷ bytes → AreMarks m (m ∷ bytes) →
    runs_line name line r ≡ mark_runs name Apart m (rest_bytes r) p
marks-line name line r p m bytes at e h =
    line-runs name m line r p at dark
    (ap (list_all (is_mark m)) (sym (take-append-drop w all)) ∙ list_all-append (is_mark m) (take w all) (drop w all)
    ∙ and_from (list_all (is_mark m) (take w all)) (list_all (is_mark m) (drop w all))
    (pass-marks is_white m (take w all) (white-mark m) (front-passes is_white all))
    (ap (list_all (is_mark m)) trimmed ∙ h))
    (some r.bytes e)
  where
    all : List ℕ
    all = rest_bytes r

    w : ℕ
    w = prefix_len is_white all

    trimmed : trim_start all ≡ m ∷ bytes
    trimmed = trim-cut r ∙ e

    dark : is_white m ≡ false
    dark = ap (begins is_white) (sym trimmed) ∙ front-stops is_white all

    some : (xs : List ℕ) → trim_start xs ≡ m ∷ bytes → 0 < length xs
    some [] k = cc
    some (x ∷ xs) k = omega arith

pub underline-one : (row : Row) (p : Point) → BeginsAt row.line row.rest p →
    is_underline (trim_start row.rest.bytes) ≡ true →
    leaf n.HeadingSetextUnderline (runs_line n.HeadingSetextUnderlineSequence) (row ∷ []) ≡
    setext_leaf.unread (rest_bytes row.rest) p
underline-one row p at h =
    leaf-one n.HeadingSetextUnderline (runs_line n.HeadingSetextUnderlineSequence) row p at
    ∙ ap (around n.HeadingSetextUnderline p (end_at row.rest p))
    (go (trim_start row.rest.bytes) refl h
    ∙ ap (λ (l : List ℕ). mark_runs n.HeadingSetextUnderlineSequence Apart (first_byte l) (rest_bytes row.rest) p)
    (sym (trim-cut row.rest)))
  where
    go : (bytes : List ℕ) → trim_start row.rest.bytes ≡ bytes → is_underline bytes ≡ true →
        runs_line n.HeadingSetextUnderlineSequence row.line row.rest ≡
        mark_runs n.HeadingSetextUnderlineSequence Apart (first_byte bytes) (rest_bytes row.rest) p
    go [] e k = cc
    go (m ∷ bytes) e k =
        let size : ℕ = run_len m (m ∷ bytes) in
        let blank = (and_parts (is_marker m) (is_blank (drop size (m ∷ bytes))) k).1 in
        marks-line n.HeadingSetextUnderlineSequence row.line row.rest p m bytes at e
        (ap (list_all (is_mark m)) (sym (take-append-drop size (m ∷ bytes)))
        ∙ list_all-append (is_mark m) (take size (m ∷ bytes)) (drop size (m ∷ bytes))
        ∙ and_from (list_all (is_mark m) (take size (m ∷ bytes))) (list_all (is_mark m) (drop size (m ∷ bytes)))
        (pass-marks (λ (b : ℕ). b == m) m (take size (m ∷ bytes)) (marker-mark m)
        (front-passes (λ (b : ℕ). b == m) (m ∷ bytes)))
        (all-more is_white (is_mark m) (drop size (m ∷ bytes)) (white-mark m) blank))

-- Lines that lose columns.

-- blank lines
pub blank-one : (row : Row) (p : Point) → BeginsAt row.line row.rest p →
    content_line n.SpaceOrTab 0 row.line row.rest ≡ blank_line (rest_bytes row.rest) p
blank-one row p at = line-lost n.SpaceOrTab 0 row.line row.rest p at ∙ go (rest_bytes row.rest)
  where
    go : (bytes : List ℕ) → part_over n.SpaceOrTab bytes p (past_text bytes p) ≡ blank_line bytes p
    go [] = refl
    go (b ∷ bytes) = refl

-- a line of indented code: the first one, and a further one with text or without
code-parts : (row : Row) (p : Point) → BeginsAt row.line row.rest p →
    content_line n.CodeFlowChunk 4 row.line row.rest ≡
    code_parts (rest_of p (rest_bytes row.rest)) p (end_at row.rest p)
code-parts row p at =
    line-lost n.CodeFlowChunk 4 row.line row.rest p at
    ∙ ap (λ (r : Rest). code_parts r p (end_at row.rest p)) (sym (begins-again row.line row.rest p at))

pub code-first : (row : Row) (p : Point) → BeginsAt row.line row.rest p →
    code_events (rest_bytes row.rest) p ≡
    around n.CodeIndented p (end_at row.rest p) (content_line n.CodeFlowChunk 4 row.line row.rest)
code-first row p at = ap (around n.CodeIndented p (end_at row.rest p)) (sym (code-parts row p at))

-- a further line of a leaf, between its begin, which is linked to the line in front, and its end
abbrev pub linked_around : Name → Point → Point → List Event → List Event
linked_around name p q inside = enter_link name p further_link ∷ inside ++ exit name q ∷ []

pub code-further : (row : Row) (p : Point) → BeginsAt row.line row.rest p →
    let inside : List Event = content_line n.CodeFlowChunk 4 row.line row.rest in
    code.further_events (rest_bytes row.rest) p ≡
    cond (is_blank row.rest.bytes) inside (linked_around n.CodeIndented p (end_at row.rest p) inside)
code-further row p at =
    ap (λ (es : List Event). cond (is_blank again.bytes) es (linked_around n.CodeIndented p (end_at row.rest p) es))
    (sym (code-parts row p at))
    ∙ ap (λ (r : Rest). cond (is_blank r.bytes) inside (linked_around n.CodeIndented p (end_at row.rest p) inside))
    (begins-again row.line row.rest p at)
  where
    again : Rest
    again = rest_of p (rest_bytes row.rest)

    inside : List Event
    inside = content_line n.CodeFlowChunk 4 row.line row.rest

-- after code its chunks are whitespace
pub code-following : (row : Row) (p : Point) → BeginsAt row.line row.rest p →
    map (renamed Outside) (content_line n.CodeFlowChunk 4 row.line row.rest) ≡
    content_line n.SpaceOrTab 4 row.line row.rest
code-following row p at =
    ap (map (renamed Outside)) (line-lost n.CodeFlowChunk 4 row.line row.rest p at)
    ∙ go (nat_lt 0 4 && nat_lt 0 (indent row.rest)) (rest_bytes (lose 4 row.rest)) (past_columns 4 row.rest p)
    ∙ sym (line-lost n.SpaceOrTab 4 row.line row.rest p at)
  where
    go : (t : Bool) (bytes : List ℕ) (q : Point) →
        map (renamed Outside)
        (cond t (pair n.SpaceOrTab p q) [] ++ part_over n.CodeFlowChunk bytes q (end_at row.rest p)) ≡
        cond t (pair n.SpaceOrTab p q) [] ++ part_over n.SpaceOrTab bytes q (end_at row.rest p)
    go true [] q = refl
    go true (b ∷ bytes) q = refl
    go false [] q = refl
    go false (b ∷ bytes) q = refl

-- HTML: the first line, which is not empty, and a further one
data-is : (row : Row) (p : Point) → BeginsAt row.line row.rest p →
    content_line n.HtmlFlowData 0 row.line row.rest ≡ data_of (rest_bytes row.rest) p
data-is row p at = line-lost n.HtmlFlowData 0 row.line row.rest p at ∙ go (rest_bytes row.rest)
  where
    go : (bytes : List ℕ) → part_over n.HtmlFlowData bytes p (past_text bytes p) ≡ data_of bytes p
    go [] = refl
    go (b ∷ bytes) = refl

pub html-first : (row : Row) (p : Point) → BeginsAt row.line row.rest p → is_end (rest_bytes row.rest) ≡ false →
    html_events (rest_bytes row.rest) p ≡
    around n.HtmlFlow p (end_at row.rest p) (content_line n.HtmlFlowData 0 row.line row.rest)
html-first row p at some =
    ap (around n.HtmlFlow p (end_at row.rest p))
    (ap (λ (t : Bool). cond t [] (pair n.HtmlFlowData p (end_at row.rest p))) (sym some)
    ∙ sym (data-is row p at))

pub html-further : (row : Row) (p : Point) → BeginsAt row.line row.rest p →
    html.further_events (rest_bytes row.rest) p ≡
    linked_around n.HtmlFlow p (end_at row.rest p) (content_line n.HtmlFlowData 0 row.line row.rest)
html-further row p at = ap (linked_around n.HtmlFlow p (end_at row.rest p)) (sym (data-is row p at))

-- Fences.

-- the opening line: its indent, and the fence
pub fence-first : (o : Opening) (row : Row) (p : Point) → BeginsAt row.line row.rest p →
    o.marker ≡ first_byte (trim_start row.rest.bytes) → 1 ≤ run_len o.marker (trim_start row.rest.bytes) →
    let first : Rest = after_indent row.rest in
    let q : Point = past_white (rest_bytes row.rest) p in
    fence_line linked (rest_bytes row.rest) p ≡
    white row.line row.rest first
    ++ around (block_name o.marker) q (end_at row.rest p)
    (fence_part o.marker row.line first (info_parts o.marker row.line))
fence-first o row p at m some =
    let all : List ℕ = rest_bytes row.rest in
    let q : Point = past_white all p in
    let trimmed : trim_start all ≡ trim_start row.rest.bytes = trim-cut row.rest in
    let first : first_byte (trim_start all) ≡ o.marker = ap first_byte trimmed ∙ sym m in
    ap (λ (k : ℕ). white_part all p ++ fence_around linked k (trim_start all) q (end_at row.rest p)) first
    ∙ ap₂ (λ (es fs : List Event). es ++ around (block_name o.marker) q (end_at row.rest p) fs)
    (sym (white-first row.line row.rest p all at refl))
    (sym (opening-fence o.marker row.line row.rest p at
    (subst (λ (l : List ℕ). 1 ≤ run_len o.marker l) (sym trimmed) some)))

-- a further line
pub fence-further : (options : ParseOptions) (o : Opening) (row : Row) (p : Point) → BeginsAt row.line row.rest p →
    1 ≤ o.size →
    further_line options (held_of o) (rest_bytes row.rest) p ≡
    linked_around (block_name o.marker) p (end_at row.rest p) (fenced_line options o row.line row.rest)
fence-further options o row p at some =
    ap (linked_around (block_name o.marker) p (end_at row.rest p))
    (ap (λ (r : Rest). further_parts options (held_of o) r p (end_at row.rest p)) (begins-again row.line row.rest p at)
    ∙ sym (further-line options o row.line row.rest p at some))
