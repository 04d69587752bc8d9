-- Leaves of several lines: their lines joined, with the way from each to the next, are those of the exact list.
use Rattle.std.proofs.Common.{◌≡◌, Bool, true, false, cond, List, [], ◌∷◌, ◌++◌, refl, sym, ap, ap₂, ◌∙◌}
use Rattle.std.proofs.Common.{append_assoc, append-nil}
use Rattle.std.proofs.lemmas.Bool.{or_left, or_right}
use Rattle.md_engine.specs.declared.configuration.ParseOptions.{ParseOptions}
use Rattle.md_engine.specs.declared.event.Event.{Event}
use Rattle.md_engine.specs.declared.event.Name.{Name}
use Rattle.md_engine.specs.declared.event.Name.TheVariants as n
use Rattle.md_engine.specs.declared.event.Point.{Point}
use Rattle.md_leaves.specs.Further.{further_link}
use Rattle.md_leaves.specs.Spanned.{has_lines}
use Rattle.md_meaning.specs.Rest.{Rest, after_indent}
use Rattle.md_meaning.specs.State.{Opening}
use Rattle.md_events.specs.Events.Nested.{around, enter, enter_link, exit}
use Rattle.md_events.specs.Events.Spelled.{role}
use Rattle.proof_frame.specs.Row.{Row as FrameRow, any_framed, but_end, but_ends, end_by, end_of, ending_events}
use Rattle.proof_frame.specs.Row.{inside_leaf, is_framed, last_row, span_after, span_by, span_rest}
use Rattle.proof_frame.proofs.LeafLines.Cuts.{but_end-is, but_ends-is, end-is}
use Rattle.proof_frame.proofs.LeafLines.Framed.{rest-following}
use Rattle.md_events.specs.Exact.Leaves.{fence, fence_part, fenced_line, for_marker, info_parts, joined, last_end, leaf}
use Rattle.md_events.specs.Exact.Leaves.{onto_next, start}
use Rattle.md_events.specs.Exact.Places.{TextLine, ending, line_end, place, white}
use Rattle.md_events.specs.Exact.Rows.{Row}
use Rattle.proof_exact_lines.proofs.LeafLines.{linked_around}

-- A line as the exact list has it, and as flow reads it: where its rest begins and ends, its ending, and what is before
-- it.
pub record SameLine (x : Row) (r : FrameRow) : Type 0 where
  pub begin : place x.line x.rest ≡ r.first
  pub end : place x.line (line_end x.line) ≡ r.end
  pub ending : (name : Name) → ending name x.line ≡ ending_events name r
  pub front : x.front ≡ r.front

-- What a further line of a leaf adds: what is in it, between a begin and an end, or bare.
pub data Adds (name : Name) (inside : List Event) (r : FrameRow) : Type 0 where
  Framed : r.inside ≡ linked_around name r.first r.end inside → Adds name inside r
  Bare : r.inside ≡ inside → is_framed inside ≡ false → Adds name inside r

-- further lines
abbrev pub AreLines : Name → (TextLine → Rest → List Event) → List Row → List FrameRow → Type 0
AreLines name inside [] [] = Unit {0}
AreLines name inside (x ∷ xs) (r ∷ rs) =
    SameLine x r × Adds name (inside x.line x.rest) r × AreLines name inside xs rs
AreLines name inside _ _ = ⊥

-- the last of them has a begin and an end
abbrev pub EndsFramed : List FrameRow → Type 0
EndsFramed [] = Unit {0}
EndsFramed (r ∷ []) = is_framed r.inside ≡ true
EndsFramed (r ∷ next ∷ rs) = EndsFramed (next ∷ rs)

-- what flow adds for a line
abbrev pub own : FrameRow → List Event
own r = r.inside

any-framed : (r : FrameRow) (rs more : List FrameRow) → EndsFramed (r ∷ rs) → any_framed own ((r ∷ rs) ++ more) ≡ true
any-framed r [] more h = or_left (is_framed r.inside) (any_framed own more) h
any-framed r (next ∷ rs) more h =
    or_right (is_framed r.inside) (any_framed own ((next ∷ rs) ++ more)) (any-framed next rs more h)

-- what is in a line, and its end where it has one
inside-is : (name : Name) (inside : List Event) (r : FrameRow) → has_lines (role name) ≡ true → Adds name inside r →
    inside_leaf r.inside ≡ inside
inside-is name inside r lines (Framed is) =
    ap inside_leaf is
    ∙ ap
    (λ (t : Bool).
    cond t (but_ends (linked_around name r.first r.end inside)) (linked_around name r.first r.end inside))
    (or_left (has_lines (role name)) (is_framed (inside ++ exit name r.end ∷ [])) lines)
    ∙ but_ends-is (enter_link name r.first further_link) inside (exit name r.end)
inside-is name inside r lines (Bare is none) =
    ap inside_leaf is ∙ ap (λ (t : Bool). cond t (but_ends inside) inside) none

end-framed : (name : Name) (inside : List Event) (r : FrameRow) → Adds name inside r → is_framed r.inside ≡ true →
    end_of r.inside ≡ exit name r.end ∷ []
end-framed name inside r (Framed is) framed =
    ap end_of is ∙ end-is (enter_link name r.first further_link ∷ inside) (exit name r.end)
end-framed name inside r (Bare is none) framed = let same = ap is_framed is ∙ none in cc

-- Further lines after one: the next of them,
next-joined : (name : Name) (inside : TextLine → Rest → List Event) (x : Row) (r : FrameRow) (y : Row) (next : FrameRow)
    (ys : List Row) (more : List FrameRow) (end : List Event) →
    has_lines (role name) ≡ true → SameLine x r → SameLine y next → Adds name (inside y.line y.rest) next →
    any_framed own (next ∷ more) ≡ true →
    span_rest own end r (next ∷ more) ≡
    onto_next (x ∷ y ∷ ys) ++ inside y.line y.rest ++ span_rest own (end_by end next.inside) next more
next-joined name inside x r y next ys more end lines same line adds framed =
    ap
    (λ (t : Bool).
    cond t (gap ++ inside_leaf next.inside ++ span_rest own (end_by end next.inside) next more)
    (end ++ span_after own r (next ∷ more)))
    framed
    ∙ ap₂ (λ (es fs : List Event). es ++ fs ++ span_rest own (end_by end next.inside) next more) onto
    (inside-is name (inside y.line y.rest) next lines adds)
  where
    gap : List Event
    gap = ending_events n.LineEnding r ++ next.front

    onto : gap ≡ onto_next (x ∷ y ∷ ys)
    onto = ap₂ (λ (es fs : List Event). es ++ fs) (sym (same.ending n.LineEnding)) (sym line.front)

-- and all up to the last with an end, which are in the leaf; what is after is outside
rest-joined : (name : Name) (inside : TextLine → Rest → List Event) (x : Row) (r : FrameRow) (y : Row) (next : FrameRow)
    (ys : List Row) (rs more : List FrameRow) (end : List Event) →
    has_lines (role name) ≡ true → SameLine x r → AreLines name inside (y ∷ ys) (next ∷ rs) →
    EndsFramed (next ∷ rs) → any_framed own more ≡ false →
    span_rest own end r ((next ∷ rs) ++ more) ≡
    (onto_next (x ∷ y ∷ ys) ++ joined inside (y ∷ ys))
    ++ exit name (last_row next rs).end ∷ span_after own (last_row next rs) more
rest-joined name inside x r y next [] [] more end lines same are ends none =
    next-joined name inside x r y next [] more end lines same are.0 are.1 (any-framed next [] more ends)
    ∙ ap (λ (es : List Event). front ++ span_rest own es next more)
    (ap (λ (t : Bool). cond t (end_of next.inside) end) ends
    ∙ end-framed name (inside y.line y.rest) next are.1 ends)
    ∙ ap (λ (es : List Event). front ++ es) (rest-following own (exit name next.end ∷ []) next more none)
    ∙ ap (λ (es : List Event). (onto_next (x ∷ y ∷ []) ++ es) ++ exit name next.end ∷ span_after own next more)
    (sym (append-nil (inside y.line y.rest ++ []) ∙ append-nil (inside y.line y.rest)))
  where
    front : List Event
    front = onto_next (x ∷ y ∷ []) ++ inside y.line y.rest
rest-joined name inside x r y next (z ∷ ys) (further ∷ rs) more end lines same are ends none =
    next-joined name inside x r y next (z ∷ ys) ((further ∷ rs) ++ more) end lines same are.0 are.1
    (any-framed next (further ∷ rs) more ends)
    ∙ ap (λ (es : List Event). (onto_next (x ∷ y ∷ z ∷ ys) ++ inside y.line y.rest) ++ es)
    (rest-joined name inside y next z further ys rs more (end_by end next.inside) lines are.0 are.2 ends none)
    ∙ regroup (onto_next (x ∷ y ∷ z ∷ ys)) (inside y.line y.rest) (onto_next (y ∷ z ∷ ys)) (joined inside (z ∷ ys))
    (exit name (last_row further rs).end ∷ span_after own (last_row further rs) more)
  where
    regroup : (a b c d e : List Event) → (a ++ b) ++ ((c ++ d) ++ e) ≡ (a ++ ((b ++ c) ++ d)) ++ e
    regroup a b c d e = simp append_assoc
rest-joined name inside x r y next [] (further ∷ rs) more end lines same are ends none = absurd are.2
rest-joined name inside x r y next (z ∷ ys) [] more end lines same are ends none = absurd are.2

-- The lines of a leaf, where this is what is before it and after its begin on the first line.
pub span-joined : (name : Name) (inside : TextLine → Rest → List Event) (x : Row) (r : FrameRow)
    (xs : List Row) (rs more : List FrameRow) (lead first : List Event) (at : Point) →
    has_lines (role name) ≡ true → SameLine x r → r.inside ≡ lead ++ around name at r.end first →
    AreLines name inside xs rs → EndsFramed rs → any_framed own more ≡ false →
    span_by own r (rs ++ more) ≡
    lead ++ around name at (last_row r rs).end (first ++ onto_next (x ∷ xs) ++ joined inside xs)
    ++ span_after own (last_row r rs) more
span-joined name inside x r xs rs more lead first at lines same is are ends none =
    ap₂ (λ (es fs : List Event). es ++ span_rest own fs r (rs ++ more)) begin end
    ∙ go xs rs are ends
  where
    whole : r.inside ≡ (lead ++ enter name at ∷ first) ++ exit name r.end ∷ []
    whole = is ∙ sym (append_assoc lead (enter name at ∷ first) (exit name r.end ∷ []))

    begin : but_end r.inside ≡ lead ++ enter name at ∷ first
    begin = ap but_end whole ∙ but_end-is (lead ++ enter name at ∷ first) (exit name r.end)

    end : end_of r.inside ≡ exit name r.end ∷ []
    end = ap end_of whole ∙ end-is (lead ++ enter name at ∷ first) (exit name r.end)

    regroup : (f : List Event) (b e : Event) (s : List Event) →
        (lead ++ b ∷ f) ++ ((e ∷ []) ++ s) ≡ (lead ++ (b ∷ f ++ e ∷ [])) ++ s
    regroup f b e s = simp append_assoc

    further : (o j : List Event) (b e : Event) (s : List Event) →
        (lead ++ b ∷ first) ++ ((o ++ j) ++ e ∷ s) ≡ (lead ++ (b ∷ ((first ++ o) ++ j) ++ e ∷ [])) ++ s
    further o j b e s = simp append_assoc

    go : (xs : List Row) (rs : List FrameRow) → AreLines name inside xs rs → EndsFramed rs →
        (lead ++ enter name at ∷ first) ++ span_rest own (exit name r.end ∷ []) r (rs ++ more) ≡
        lead ++ around name at (last_row r rs).end (first ++ onto_next (x ∷ xs) ++ joined inside xs)
        ++ span_after own (last_row r rs) more
    go [] [] are ends =
        ap (λ (es : List Event). (lead ++ enter name at ∷ first) ++ es)
        (rest-following own (exit name r.end ∷ []) r more none)
        ∙ regroup first (enter name at) (exit name r.end) (span_after own r more)
        ∙ ap (λ (es : List Event). (lead ++ around name at r.end es) ++ span_after own r more)
        (sym (append-nil (first ++ []) ∙ append-nil first))
    go (y ∷ ys) (next ∷ rs) are ends =
        ap (λ (es : List Event). (lead ++ enter name at ∷ first) ++ es)
        (rest-joined name inside x r y next ys rs more (exit name r.end ∷ []) lines same are ends none)
        ∙ further (onto_next (x ∷ y ∷ ys)) (joined inside (y ∷ ys)) (enter name at) (exit name (last_row next rs).end)
        (span_after own (last_row next rs) more)
    go [] (next ∷ rs) are ends = absurd are
    go (y ∷ ys) [] are ends = absurd are

-- where the last line of a leaf ends
pub last-ends : (name : Name) (inside : TextLine → Rest → List Event) (x : Row) (r : FrameRow) (xs : List Row)
    (rs : List FrameRow) →
    place x.line (line_end x.line) ≡ r.end → AreLines name inside xs rs →
    start (last_end (x ∷ xs)) ≡ (last_row r rs).end
last-ends name inside x r [] [] is are = is
last-ends name inside x r (y ∷ ys) (next ∷ rs) is are = last-ends name inside y next ys rs are.0.end are.2
last-ends name inside x r [] (next ∷ rs) is are = absurd are
last-ends name inside x r (y ∷ ys) [] is are = absurd are

-- Code and HTML: the leaf, and what is after it.
pub leaf-joined : (name : Name) (inside : TextLine → Rest → List Event) (x : Row) (r : FrameRow)
    (xs : List Row) (rs more : List FrameRow) →
    has_lines (role name) ≡ true → SameLine x r → r.inside ≡ around name r.first r.end (inside x.line x.rest) →
    AreLines name inside xs rs → EndsFramed rs → any_framed own more ≡ false →
    span_by own r (rs ++ more) ≡ leaf name inside (x ∷ xs) ++ span_after own (last_row r rs) more
leaf-joined name inside x r xs rs more lines same is are ends none =
    span-joined name inside x r xs rs more [] (inside x.line x.rest) r.first lines same is are ends none
    ∙ ap₂
    (λ (p q : Point). around name p q (joined inside (x ∷ xs)) ++ span_after own (last_row r rs) more)
    (sym same.begin) (sym (last-ends name inside x r xs rs same.end are))

-- Fences, where the opening line is its indent and a fence.
pub fence-joined : (options : ParseOptions) (o : Opening) (x : Row) (r : FrameRow) (xs : List Row)
    (rs : List FrameRow) →
    let name : Name = for_marker o.marker n.CodeFenced n.MathFlow in
    let opening : Rest = after_indent x.rest in
    has_lines (role name) ≡ true → SameLine x r →
    r.inside ≡
    white x.line x.rest opening
    ++ around name (place x.line opening) r.end (fence_part o.marker x.line opening (info_parts o.marker x.line)) →
    AreLines name (fenced_line options o) xs rs → EndsFramed rs →
    span_by own r rs ≡ fence options o (x ∷ xs)
fence-joined options o x r xs rs lines same is are ends =
    ap (span_by own r) (sym (append-nil rs))
    ∙ span-joined name (fenced_line options o) x r xs rs [] (white x.line x.rest opening) first
    (place x.line opening) lines same is are ends refl
    ∙ append-nil _
    ∙ ap
    (λ (q : Point).
    white x.line x.rest opening
    ++ around name (place x.line opening) q (first ++ onto_next (x ∷ xs) ++ joined (fenced_line options o) xs))
    (sym (end xs rs are))
  where
    name : Name
    name = for_marker o.marker n.CodeFenced n.MathFlow

    opening : Rest
    opening = after_indent x.rest

    first : List Event
    first = fence_part o.marker x.line opening (info_parts o.marker x.line)

    end : (xs : List Row) (rs : List FrameRow) → AreLines name (fenced_line options o) xs rs →
        start (last_end (record x { rest = opening } ∷ xs)) ≡ (last_row r rs).end
    end xs rs are = last-ends name (fenced_line options o) (record x { rest = opening }) r xs rs same.end are
