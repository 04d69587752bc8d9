-- Lines of leaves of several lines, by what flow adds for each where its value takes it.
use Rattle.std.proofs.Common.{◌≡◌, ℕ, ◌≤◌, Bool, true, false, cond, ◌&&◌, List, [], ◌∷◌, ◌++◌, refl, sym, ap, ap₂, ◌∙◌}
use Rattle.std.proofs.Common.{map}
use Rattle.std.specs.Prelude.{nat_lt}
use Rattle.md_engine.specs.declared.configuration.ParseOptions.{ParseOptions}
use Rattle.md_engine.specs.declared.event.Event.{Event}
use Rattle.md_engine.specs.declared.event.Name.{Name}
use Rattle.md_engine.specs.declared.event.Name.TheVariants as n
use Rattle.md_engine.specs.declared.event.Point.{Point}
use Rattle.md_literal.specs.Fence.{block_name}
use Rattle.md_leaves.specs.Spanned.{renamed}
use Rattle.md_leaves.specs.declared.spans.Place.TheVariants.{Outside}
use Rattle.md_meaning.specs.Bytes.{is_end}
use Rattle.md_meaning.specs.Rest.{Rest, after_indent, indent, is_blank, lose, run_len, trim_start}
use Rattle.md_meaning.specs.State.{Opening}
use Rattle.md_meaning.specs.Texts.{first_byte}
use Rattle.md_events.specs.Events.Nested.{around, pair}
use Rattle.proof_frame.specs.LineColumns.{part_over, past_columns}
use Rattle.proof_frame.specs.Row.{Row as FrameRow, ending_events, is_framed}
use Rattle.proof_literal_laws.specs.Leaf.CodeIndented.{code_events}
use Rattle.proof_literal_laws.specs.Leaf.CodeIndented as code
use Rattle.proof_literal_laws.specs.Leaf.Fence.{fence_line, held_of, linked}
use Rattle.proof_literal_laws.specs.Leaf.FenceFurther.{further_line}
use Rattle.proof_literal_laws.specs.Leaf.HtmlFlow.{html_events}
use Rattle.proof_literal_laws.specs.Leaf.HtmlFlow as html
use Rattle.md_events.specs.Exact.Leaves.{content_line, fence_part, fenced_line, info_parts}
use Rattle.md_events.specs.Exact.Places.{ending, place, white}
use Rattle.md_events.specs.Exact.Rows.{Row}
use Rattle.proof_exact_lines.proofs.BeginsAt.{BeginsAt, begins-place, rest_bytes}
use Rattle.proof_exact_lines.proofs.LeafLines.{code-following, code-first, code-further, end_at, ends-at, fence-first}
use Rattle.proof_exact_lines.proofs.LeafLines.{fence-further, html-first, html-further, linked_around}
use Rattle.proof_exact_lines.proofs.Lost.{line-lost}
use Rattle.proof_exact_lines.proofs.Parts.{white-front}
use Rattle.proof_exact_lines.proofs.Spans.{Adds, Bare, Framed, SameLine}

-- A line that flow has read begins where the rest of a line of the exact list does, and ends after its bytes.
pub record ReadAs (x : Row) (r : FrameRow) : Type 0 where
  pub at : BeginsAt x.line x.rest r.first
  pub end : r.end ≡ end_at x.rest r.first

pub same-line : (x : Row) (r : FrameRow) → ReadAs x r → ((name : Name) → ending name x.line ≡ ending_events name r) →
    x.front ≡ r.front → SameLine x r
same-line x r is endings front = record {
  begin = begins-place x.line x.rest r.first is.at;
  end = ends-at x.line x.rest r.first is.at ∙ sym is.end;
  ending = endings;
  front = front;
}

-- Code.

pub first-code : (x : Row) (r : FrameRow) → ReadAs x r → r.inside ≡ code_events (rest_bytes x.rest) r.first →
    r.inside ≡ around n.CodeIndented r.first r.end (content_line n.CodeFlowChunk 4 x.line x.rest)
first-code x r is adds =
    adds ∙ code-first x r.first is.at
    ∙ ap (λ (q : Point). around n.CodeIndented r.first q (content_line n.CodeFlowChunk 4 x.line x.rest)) (sym is.end)

-- in a line of code no leaf begins or ends
code-bare : (x : Row) (r : FrameRow) → ReadAs x r →
    is_framed (content_line n.CodeFlowChunk 4 x.line x.rest) ≡ false
code-bare x r is =
    ap is_framed (line-lost n.CodeFlowChunk 4 x.line x.rest r.first is.at)
    ∙ go (nat_lt 0 4 && nat_lt 0 (indent x.rest)) (rest_bytes (lose 4 x.rest)) (past_columns 4 x.rest r.first)
  where
    go : (t : Bool) (bytes : List ℕ) (q : Point) →
        is_framed
        (cond t (pair n.SpaceOrTab r.first q) [] ++ part_over n.CodeFlowChunk bytes q (end_at x.rest r.first)) ≡
        false
    go true [] q = refl
    go true (b ∷ bytes) q = refl
    go false [] q = refl
    go false (b ∷ bytes) q = refl

pub further-code : (x : Row) (r : FrameRow) → ReadAs x r →
    r.inside ≡ code.further_events (rest_bytes x.rest) r.first →
    Adds n.CodeIndented (content_line n.CodeFlowChunk 4 x.line x.rest) r
further-code x r is adds = go (is_blank x.rest.bytes) refl
  where
    inside : List Event
    inside = content_line n.CodeFlowChunk 4 x.line x.rest

    whole : r.inside ≡ cond (is_blank x.rest.bytes) inside (linked_around n.CodeIndented r.first r.end inside)
    whole =
        adds ∙ code-further x r.first is.at
        ∙ ap
        (λ (q : Point).
        cond (is_blank x.rest.bytes) inside (linked_around n.CodeIndented r.first q inside)) (sym is.end)

    go : (t : Bool) → is_blank x.rest.bytes ≡ t → Adds n.CodeIndented inside r
    go true e =
        Bare
        (whole ∙ ap (λ (t : Bool). cond t inside (linked_around n.CodeIndented r.first r.end inside)) e)
        (code-bare x r is)
    go false e =
        Framed (whole ∙ ap (λ (t : Bool). cond t inside (linked_around n.CodeIndented r.first r.end inside)) e)

-- a blank line, as it is after code
pub following-blank : (x : Row) (r : FrameRow) → ReadAs x r →
    r.inside ≡ code.further_events (rest_bytes x.rest) r.first → is_blank x.rest.bytes ≡ true →
    map (renamed Outside) r.inside ≡ content_line n.SpaceOrTab 4 x.line x.rest
following-blank x r is adds blank =
    ap (map (renamed Outside))
    (adds ∙ code-further x r.first is.at
    ∙ ap (λ (t : Bool). cond t inside (linked_around n.CodeIndented r.first (end_at x.rest r.first) inside)) blank)
    ∙ code-following x r.first is.at
  where
    inside : List Event
    inside = content_line n.CodeFlowChunk 4 x.line x.rest

-- HTML.

pub first-html : (x : Row) (r : FrameRow) → ReadAs x r → is_end (rest_bytes x.rest) ≡ false →
    r.inside ≡ html_events (rest_bytes x.rest) r.first →
    r.inside ≡ around n.HtmlFlow r.first r.end (content_line n.HtmlFlowData 0 x.line x.rest)
first-html x r is some adds =
    adds ∙ html-first x r.first is.at some
    ∙ ap (λ (q : Point). around n.HtmlFlow r.first q (content_line n.HtmlFlowData 0 x.line x.rest)) (sym is.end)

pub further-html : (x : Row) (r : FrameRow) → ReadAs x r →
    r.inside ≡ html.further_events (rest_bytes x.rest) r.first →
    Adds n.HtmlFlow (content_line n.HtmlFlowData 0 x.line x.rest) r
further-html x r is adds =
    Framed
    (adds ∙ html-further x r.first is.at
    ∙ ap (λ (q : Point). linked_around n.HtmlFlow r.first q (content_line n.HtmlFlowData 0 x.line x.rest))
    (sym is.end))

-- Fences.

pub first-fence : (o : Opening) (x : Row) (r : FrameRow) → ReadAs x r →
    o.marker ≡ first_byte (trim_start x.rest.bytes) → 1 ≤ run_len o.marker (trim_start x.rest.bytes) →
    let opening : Rest = after_indent x.rest in
    r.inside ≡ fence_line linked (rest_bytes x.rest) r.first →
    r.inside ≡
    white x.line x.rest opening
    ++ around (block_name o.marker) (place x.line opening) r.end
    (fence_part o.marker x.line opening (info_parts o.marker x.line))
first-fence o x r is m some adds =
    adds ∙ fence-first o x r.first is.at m some
    ∙ ap₂ (λ (p q : Point). white x.line x.rest opening ++ around (block_name o.marker) p q inside)
    (sym
    (begins-place x.line opening _ (white-front x.line x.rest r.first (rest_bytes x.rest) is.at refl).valid.at))
    (sym is.end)
  where
    opening : Rest
    opening = after_indent x.rest

    inside : List Event
    inside = fence_part o.marker x.line opening (info_parts o.marker x.line)

pub further-fence : (options : ParseOptions) (o : Opening) (x : Row) (r : FrameRow) → ReadAs x r → 1 ≤ o.size →
    r.inside ≡ further_line options (held_of o) (rest_bytes x.rest) r.first →
    Adds (block_name o.marker) (fenced_line options o x.line x.rest) r
further-fence options o x r is some adds =
    Framed
    (adds ∙ fence-further options o x r.first is.at some
    ∙ ap (λ (q : Point). linked_around (block_name o.marker) r.first q (fenced_line options o x.line x.rest))
    (sym is.end))
