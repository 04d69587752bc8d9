-- Leaves of several lines: what the lines of HTML, of fenced code and math, and of indented code have in them, and what
-- follows the last of them.
use Rattle.std.proofs.Common.{◌≡◌, ◌⊎◌, inl, inr, ℕ, zero, suc, ◌≤◌, Bool, true, false, cond, List, [], ◌∷◌, ◌++◌}
use Rattle.std.proofs.Common.{refl, sym, ap, ap₂, ◌∙◌, append_assoc, append-nil, map, subst}
use Rattle.std.specs.Prelude.{not, Option, Some, None}
use Rattle.std.proofs.lemmas.Bool.{or_left, or_parts}
use Rattle.md_engine.specs.declared.configuration.ParseOptions.{ParseOptions}
use Rattle.md_engine.specs.declared.event.Event.{Event}
use Rattle.md_engine.specs.declared.event.Name.{Name}
use Rattle.md_engine.specs.declared.event.Name.TheVariants as n
use Rattle.md_engine.specs.declared.event.Point.{Point}
use Rattle.md_engine.specs.declared.tokenizer.held_leaf.HeldLeaf.{HeldLeaf}
use Rattle.md_engine.specs.declared.tokenizer.held_leaf.HeldLeaf.TheVariants as held_leaf
use Rattle.md_literal.specs.Fence.{block_name, held_marker, is_open as is_fence}
use Rattle.md_literal.specs.Html.{is_html}
use Rattle.md_leaves.specs.Spanned.{renamed}
use Rattle.md_leaves.specs.declared.spans.Place.TheVariants.{Outside}
use Rattle.md_meaning.specs.Bytes.{is_end}
use Rattle.md_meaning.specs.Html.{HtmlKind, html_ends}
use Rattle.md_meaning.specs.Leaves.{Finished, Opened, closes}
use Rattle.md_meaning.specs.Rest.{Rest, cut_tab, is_blank, line_of}
use Rattle.md_meaning.specs.State.{Container, OpenHtml, Opening}
use Rattle.md_meaning.specs.Tree.{Html, Line}
use Rattle.md_events.specs.Exact.Blocks.{events_by, leaf_events, tail}
use Rattle.md_events.specs.Exact.Leaves.{content_line, fence, fenced_line, leaf as leaf_lines}
use Rattle.md_events.specs.Exact.Places.{TextLine}
use Rattle.md_events.specs.Exact.Rows.{AfterCode, Role, Row}
use Rattle.proof_frame.specs.Change.{ends_of}
use Rattle.proof_frame.specs.LeafName.{CodeFurther, CodeIndented, Fence, FenceFurther, HtmlFlow, HtmlFurther, LeafName}
use Rattle.proof_frame.specs.Row.{LeafRow, Row as FrameRow, any_framed, ending_events, ending_of, is_framed, last_row}
use Rattle.proof_frame.specs.Row.{span_after, span_by}
use Rattle.proof_literal_laws.specs.Leaf.CodeIndented.{is_code}
use Rattle.proof_literal_laws.specs.Leaf.Fence.{held_of, opening_at}
use Rattle.proof_literal_laws.specs.Leaf.FenceFurther.{further_line, opening_of}
use Rattle.proof_literal_laws.specs.Leaf.HtmlFlow.{begins_as, kind_begun}
use Rattle.proof_literal_laws.proofs.CodeIndented.Rows.{in-framed, row-in}
use Rattle.proof_literal_laws.proofs.FenceFurther.Joined.{block-lines}
use Rattle.md_registry.specs.Registry.{asked_first, leaf}
use Rattle.proof_rows.specs.Rows.{tail_events}
use Rattle.proof_rows.proofs.KindLemmas.{kind-filled}
use Rattle.proof_rows.proofs.RowLeaf.{row-as}
use Rattle.proof_literal_laws.proofs.Fence.Opened.{opening-some}
use Rattle.proof_exact_lines.proofs.BeginsAt.{rest_bytes}
use Rattle.proof_exact_lines.proofs.FlowLines.{following-blank, first-code, first-fence, first-html, further-code}
use Rattle.proof_exact_lines.proofs.FlowLines.{further-fence, further-html}
use Rattle.proof_exact_lines.proofs.Spans.{Adds, AreLines, EndsFramed, fence-joined, leaf-joined, own}
use Rattle.proof_exact_lines.proofs.TextLines.{last_of}
use Rattle.proof_exact_lines.specs.Unlisted.{unlisted_groups, without_lists}
use Rattle.proof_exact.proofs.GroupsMatch.{Pairs, TakesEach}
use Rattle.proof_exact.proofs.Fit.{Fit}
use Rattle.proof_exact.proofs.Following.{AllContinue}
use Rattle.proof_exact.proofs.FitLines.{MayEnd, code-alone, first-role, first-same, further-same, leaf-added}
use Rattle.proof_exact.proofs.FitLines.{leaf-following, leaf-starts, read-as, tail-same, with_front}
use Rattle.proof_exact.proofs.Put.{AllGo, AllPut}

-- What is before the first line is in no leaf.

leaf-front : (name : Name) (inside : TextLine → Rest → List Event) (front : List Event) (x : Row) (xs : List Row) →
    leaf_lines name inside (with_front front x ∷ xs) ≡ leaf_lines name inside (x ∷ xs)
leaf-front name inside front x [] = refl
leaf-front name inside front x (y ∷ ys) = refl

fence-front : (options : ParseOptions) (o : Opening) (front : List Event) (x : Row) (xs : List Row) →
    fence options o (with_front front x ∷ xs) ≡ fence options o (x ∷ xs)
fence-front options o front x [] = refl
fence-front options o front x (y ∷ ys) = refl

-- Further lines, each of which has a begin and an end.

further-lines : (options : ParseOptions) (bytes : List ℕ) (l : LeafName) (name : Name)
    (inside : TextLine → Rest → List Event) →
    ((x : Row) (r : FrameRow) → Fit options bytes x r → r.kind ≡ LeafRow l → Adds name (inside x.line x.rest) r) →
    (r : FrameRow) (xs : List Row) (rs : List FrameRow) → Pairs (Fit options bytes) xs rs → AllGo xs →
    AllContinue l r rs →
    AreLines name inside xs rs
further-lines options bytes l name inside adds r [] [] pairs proceeds are = tt
further-lines options bytes l name inside adds r (y ∷ ys) (next ∷ rs) pairs proceeds are = (
  further-same options bytes y next pairs.0 proceeds.0,
  adds y next pairs.0 are.0,
  further-lines options bytes l name inside adds next ys rs pairs.1 proceeds.1 are.4,
)
further-lines options bytes l name inside adds r [] (next ∷ rs) pairs proceeds are = absurd pairs
further-lines options bytes l name inside adds r (y ∷ ys) [] pairs proceeds are = absurd pairs

lines-framed : (options : ParseOptions) (bytes : List ℕ) (l : LeafName) →
    ((on : HeldLeaf) (line : List ℕ) (p : Point) → is_framed ((leaf l).added options on line p) ≡ true) →
    (r : FrameRow) (xs : List Row) (rs : List FrameRow) → Pairs (Fit options bytes) xs rs →
    AllContinue l r rs → EndsFramed rs
lines-framed options bytes l framed r [] [] pairs are = tt
lines-framed options bytes l framed r (y ∷ []) (next ∷ []) pairs are =
    ap is_framed (leaf-added options bytes y next pairs.0 l are.0)
    ∙ framed next.on (rest_bytes y.rest) next.first
lines-framed options bytes l framed r (y ∷ z ∷ ys) (next ∷ third ∷ rs) pairs are =
    lines-framed options bytes l framed next (z ∷ ys) (third ∷ rs) pairs.1 are.4
lines-framed options bytes l framed r (y ∷ []) (next ∷ third ∷ rs) pairs are = absurd pairs.1
lines-framed options bytes l framed r (y ∷ z ∷ ys) (next ∷ []) pairs are = absurd pairs.1
lines-framed options bytes l framed r [] (next ∷ rs) pairs are = absurd pairs
lines-framed options bytes l framed r (y ∷ ys) [] pairs are = absurd pairs

-- After the last line.

pub tails-same : (options : ParseOptions) (bytes : List ℕ) (x : Row) (r : FrameRow) (xs : List Row)
    (rs : List FrameRow) →
    Fit options bytes x r → Pairs (Fit options bytes) xs rs → MayEnd (last_of x xs) (last_row r rs) →
    let last : FrameRow = last_row r rs in
    without_lists (tail (x ∷ xs)) ≡ tail_events (ending_of last.kind last) last
tails-same options bytes x r [] [] fit pairs may = tail-same options bytes x r fit may
tails-same options bytes x r (y ∷ ys) (next ∷ rs) fit pairs may =
    tails-same options bytes y next ys rs pairs.0 pairs.1 may
tails-same options bytes x r [] (next ∷ rs) fit pairs may = absurd pairs
tails-same options bytes x r (y ∷ ys) [] fit pairs may = absurd pairs

-- the last of the lines of a leaf that is no code
pub other-ends : (l : LeafName) (r : FrameRow) (rs : List FrameRow) → (l ≡ CodeFurther → ⊥) →
    (r.kind ≡ LeafRow CodeFurther → ⊥) → AllContinue l r rs → (last_row r rs).kind ≡ LeafRow CodeFurther → ⊥
other-ends l r [] other first are e = first e
other-ends l r (next ∷ rs) other first are e =
    other-ends l next rs other (λ k. let same : LeafRow l ≡ LeafRow CodeFurther = sym are.0 ∙ k in other (cc)) are.4 e

-- HTML.

html-framed : (options : ParseOptions) (on : HeldLeaf) (line : List ℕ) (p : Point) →
    is_framed ((leaf HtmlFurther).added options on line p) ≡ true
html-framed options on line p = refl

html-events : (options : ParseOptions) (kind : Option HtmlKind) (r : Rest) (rows : List Row) →
    leaf_events options (begins_as kind r) rows ≡ leaf_lines n.HtmlFlow (content_line n.HtmlFlowData 0) rows
html-events options None r rows = refl
html-events options (Some kind) r rows = go (html_ends kind r.bytes)
  where
    lines : List Line
    lines = line_of r ∷ []

    go : (x : Bool) →
        leaf_events options (cond x (Finished (Html lines)) (Opened (OpenHtml kind lines))) rows ≡
        leaf_lines n.HtmlFlow (content_line n.HtmlFlowData 0) rows
    go true = refl
    go false = refl

asked-html : (on : HeldLeaf) → asked_first on ≡ Some HtmlFlow → ⊥
unfolding asked_first
asked-html on e = go (is_fence on) (is_html on) (is_code on) e
  where
    go : (x y z : Bool) →
        cond x (Some FenceFurther) (cond y (Some HtmlFurther) (cond z (Some CodeFurther) None)) ≡ Some HtmlFlow → ⊥
    go true y z h = cc
    go false true z h = cc
    go false false true h = cc
    go false false false h = cc

some-bytes : (r : Rest) → is_blank r.bytes ≡ false → is_end (rest_bytes r) ≡ false
some-bytes r dark = go r.spaces r.bytes dark
  where
    go : (spaces : ℕ) (bytes : List ℕ) → is_blank bytes ≡ false → is_end (cut_tab spaces ++ bytes) ≡ false
    go spaces [] h = cc
    go zero (b ∷ bytes) h = refl
    go (suc k) (b ∷ bytes) h = refl

pub html-group : (options : ParseOptions) (bytes : List ℕ) (x : Row) (r : FrameRow) (xs : List Row)
    (rs : List FrameRow) →
    Fit options bytes x r → r.kind ≡ LeafRow HtmlFlow → Pairs (Fit options bytes) xs rs → AllGo xs →
    AllContinue HtmlFurther r rs → events_by options x.role (x ∷ xs) ≡ span_by own r rs
html-group options bytes x r xs rs fit kind pairs proceeds are =
    ap (λ (role : Role). events_by options role (x ∷ xs)) (first-role options bytes x r fit HtmlFlow kind refl)
    ∙ html-events options (kind_begun x.rest) x.rest (x ∷ xs)
    ∙ sym
    (ap (span_by own r) (sym (append-nil rs))
    ∙ leaf-joined n.HtmlFlow (content_line n.HtmlFlowData 0) (with_front r.front x) r xs rs [] refl
    (first-same options bytes x r fit)
    (first-html x r (read-as options bytes x r fit) (some-bytes x.rest dark)
    (leaf-added options bytes x r fit HtmlFlow kind))
    (further-lines options bytes HtmlFurther n.HtmlFlow (content_line n.HtmlFlowData 0)
    (λ y next fits e. further-html y next (read-as options bytes y next fits)
    (leaf-added options bytes y next fits HtmlFurther e)) r xs rs pairs proceeds are)
    (lines-framed options bytes HtmlFurther (html-framed options) r xs rs pairs are) refl
    ∙ append-nil _
    ∙ leaf-front n.HtmlFlow (content_line n.HtmlFlowData 0) r.front x xs)
  where
    dark : is_blank x.rest.bytes ≡ false
    dark =
        ap (λ (rest : Rest). is_blank rest.bytes) (sym fit.rest)
        ∙ kind-filled options r.on fit.is.rest HtmlFlow (sym fit.is.kind ∙ kind) (asked-html r.on)

-- Fences.

fence-framed : (options : ParseOptions) (on : HeldLeaf) (line : List ℕ) (p : Point) →
    is_framed ((leaf FenceFurther).added options on line p) ≡ true
fence-framed options on line p = or_left _ _ (block-lines (held_marker on))

-- what is open after a line of a block that this fence has opened: that block, or none
abbrev Left : Opening → HeldLeaf → Type 0
Left o on = (on ≡ held_of o) ⊎ (on ≡ held_leaf.None)

on-fence : (o : Opening) (on : HeldLeaf) → is_fence on ≡ true → Left o on → on ≡ held_of o
on-fence o on h (inl e) = e
on-fence o on h (inr e) = let bad : true ≡ false = sym h ∙ ap is_fence e in cc

further-fences : (options : ParseOptions) (bytes : List ℕ) (o : Opening) → 1 ≤ o.size →
    (r : FrameRow) (xs : List Row) (rs : List FrameRow) →
    Left o r.following → Pairs (Fit options bytes) xs rs → AllGo xs → AllContinue FenceFurther r rs →
    AreLines (block_name o.marker) (fenced_line options o) xs rs
further-fences options bytes o some r [] [] left pairs proceeds are = tt
further-fences options bytes o some r (y ∷ ys) (next ∷ rs) left pairs proceeds are = (
  further-same options bytes y next pairs.0 proceeds.0,
  further-fence options o y next (read-as options bytes y next pairs.0) some
      (leaf-added options bytes y next pairs.0 FenceFurther are.0
      ∙ ap (λ (met : HeldLeaf). further_line options met (rest_bytes y.rest) next.first) on),
  further-fences options bytes o some next ys rs
      (subst (Left o) (sym (leaf-following options bytes y next pairs.0 FenceFurther are.0))
      (go (is_fence next.on) (closes options (opening_of next.on) y.rest))) pairs.1 proceeds.1 are.4,
)
  where
    on : next.on ≡ held_of o
    on = on-fence o next.on are.2 (subst (Left o) (sym are.1) left)

    go : (a b : Bool) → Left o (cond a (cond b held_leaf.None next.on) held_leaf.None)
    go true true = inr refl
    go true false = inl on
    go false b = inr refl
further-fences options bytes o some r [] (next ∷ rs) left pairs proceeds are = absurd pairs
further-fences options bytes o some r (y ∷ ys) [] left pairs proceeds are = absurd pairs

pub fence-group : (options : ParseOptions) (bytes : List ℕ) (x : Row) (r : FrameRow) (xs : List Row)
    (rs : List FrameRow) →
    Fit options bytes x r → r.kind ≡ LeafRow Fence → Pairs (Fit options bytes) xs rs → AllGo xs →
    AllContinue FenceFurther r rs → events_by options x.role (x ∷ xs) ≡ span_by own r rs
fence-group options bytes x r xs rs fit kind pairs proceeds are =
    ap (λ (role : Role). events_by options role (x ∷ xs)) (first-role options bytes x r fit Fence kind refl)
    ∙ sym
    (fence-joined options o (with_front r.front x) r xs rs (block-lines o.marker)
    (first-same options bytes x r fit)
    (first-fence o x r (read-as options bytes x r fit) refl some (leaf-added options bytes x r fit Fence kind))
    (further-fences options bytes o some r xs rs (inl (leaf-following options bytes x r fit Fence kind))
    pairs proceeds are)
    (lines-framed options bytes FenceFurther (fence-framed options) r xs rs pairs are)
    ∙ fence-front options o r.front x xs)
  where
    o : Opening
    o = opening_at x.rest

    some : 1 ≤ o.size
    some = opening-some options x.rest (leaf-starts options bytes x r fit Fence kind)

-- Indented code: the lines up to the last that has text, and those after it.

pub code-lines : (options : ParseOptions) (bytes : List ℕ) (x : Row) (r : FrameRow) (xs : List Row)
    (rs more : List FrameRow) →
    Fit options bytes x r → r.kind ≡ LeafRow CodeIndented → Pairs (Fit options bytes) xs rs → AllGo xs →
    AllContinue CodeFurther r rs → EndsFramed rs → any_framed own more ≡ false →
    span_by own r (rs ++ more) ≡ events_by options x.role (x ∷ xs) ++ span_after own (last_row r rs) more
code-lines options bytes x r xs rs more fit kind pairs proceeds are ends none =
    leaf-joined n.CodeIndented (content_line n.CodeFlowChunk 4) (with_front r.front x) r xs rs more refl
    (first-same options bytes x r fit)
    (first-code x r (read-as options bytes x r fit) (leaf-added options bytes x r fit CodeIndented kind))
    (further-lines options bytes CodeFurther n.CodeIndented (content_line n.CodeFlowChunk 4)
    (λ y next fits e. further-code y next (read-as options bytes y next fits)
    (leaf-added options bytes y next fits CodeFurther e)) r xs rs pairs proceeds are) ends none
    ∙ ap (λ (es : List Event). es ++ span_after own (last_row r rs) more)
    (leaf-front n.CodeIndented (content_line n.CodeFlowChunk 4) r.front x xs
    ∙ sym
    (ap (λ (role : Role). events_by options role (x ∷ xs))
    (first-role options bytes x r fit CodeIndented kind refl)))

-- a further line of it is a pair of its own just if it has text
code-framed : (options : ParseOptions) (bytes : List ℕ) (x : Row) (r : FrameRow) → Fit options bytes x r →
    r.kind ≡ LeafRow CodeFurther → is_framed r.inside ≡ not (is_blank x.rest.bytes)
code-framed options bytes x r fit e =
    in-framed bytes r (row-in options bytes r (row-as options bytes fit.own r fit.is CodeFurther e))
    ∙ ap (λ (rest : Rest). not (is_blank rest.bytes)) fit.rest

not-true : (x : Bool) → true ≡ not x → x ≡ false
not-true true e = cc
not-true false e = refl

not-false : (x : Bool) → false ≡ not x → x ≡ true
not-false true e = refl
not-false false e = cc

further-ends : (options : ParseOptions) (bytes : List ℕ) (x : Row) (r : FrameRow) (xs : List Row)
    (rs : List FrameRow) →
    Fit options bytes x r → Pairs (Fit options bytes) xs rs → EndsFramed (r ∷ rs) →
    MayEnd (last_of x xs) (last_row r rs)
further-ends options bytes x r [] [] fit pairs framed e =
    inl (not-true (is_blank x.rest.bytes) (sym framed ∙ code-framed options bytes x r fit e))
further-ends options bytes x r (y ∷ ys) (next ∷ rs) fit pairs framed e =
    further-ends options bytes y next ys rs pairs.0 pairs.1 framed e
further-ends options bytes x r [] (next ∷ rs) fit pairs framed e = absurd pairs
further-ends options bytes x r (y ∷ ys) [] fit pairs framed e = absurd pairs

pub code-ends : (options : ParseOptions) (bytes : List ℕ) (x : Row) (r : FrameRow) (xs : List Row)
    (rs : List FrameRow) →
    r.kind ≡ LeafRow CodeIndented → Pairs (Fit options bytes) xs rs → EndsFramed rs →
    MayEnd (last_of x xs) (last_row r rs)
code-ends options bytes x r [] [] kind pairs framed e =
    let bad : LeafRow CodeIndented ≡ LeafRow CodeFurther = sym kind ∙ e in absurd (cc)
code-ends options bytes x r (y ∷ ys) (next ∷ rs) kind pairs framed e =
    further-ends options bytes y next ys rs pairs.0 pairs.1 framed e
code-ends options bytes x r [] (next ∷ rs) kind pairs framed e = absurd pairs
code-ends options bytes x r (y ∷ ys) [] kind pairs framed e = absurd pairs

-- Blank lines after it, before what is after them: each is alone.
pub following-same : (options : ParseOptions) (bytes : List ℕ) (x : Row) (r : FrameRow) (more : List FrameRow)
    (More : List (List Row) → Type 0) (events : List Event) →
    ((ess : List (List Row)) → More ess → AllPut ess → events ≡ unlisted_groups options ess) →
    (ess : List (List Row)) → Fit options bytes x r → MayEnd x r → AllContinue CodeFurther r more →
    any_framed own more ≡ false → TakesEach (Fit options bytes) more More ess → AllPut ess →
    let last : FrameRow = last_row r more in
    (span_after own r more ++ tail_events (ending_of last.kind last) last) ++ events ≡
    without_lists (tail (x ∷ [])) ++ unlisted_groups options ess
following-same options bytes x r [] More events same ess fit may are none takes put =
    ap₂ (λ (es fs : List Event). es ++ fs) (sym (tail-same options bytes x r fit may)) (same ess takes put)
following-same options bytes x r (next ∷ more) More events same [] fit may are none takes put = absurd takes
following-same options bytes x r (next ∷ more) More events same ([] ∷ ess) fit may are none takes put = absurd takes.0
following-same options bytes x r (next ∷ more) More events same ((y ∷ z ∷ ys) ∷ ess) fit may are none takes put =
    absurd takes.0.1
following-same options bytes x r (next ∷ more) More events same ((y ∷ []) ∷ ess) fit may are none takes put =
    regroup (ending_events (ending_of r.kind r) r) next.front (map (renamed Outside) next.inside)
    (span_after own next more) (tail_events (ending_of last.kind last) last) events
    ∙ ap₂ (λ (es fs : List Event). es ++ fs)
    (ap₂ (λ (es fs : List Event). es ++ fs) (ap₂ (λ (es fs : List Event). es ++ fs) ended (sym fits.front)) inside)
    (following-same options bytes y next more More events same ess fits (λ e. inr role) are.4 parts.1 takes.1 put.2)
    ∙ again (without_lists (tail (x ∷ []))) (without_lists y.front) (events_by options y.role (y ∷ []))
    (without_lists (tail (y ∷ []))) (unlisted_groups options ess)
  where
    last : FrameRow
    last = last_row next more

    fits : Fit options bytes y next
    fits = takes.0.0

    parts : (is_framed next.inside ≡ false) × (any_framed own more ≡ false)
    parts = or_parts (is_framed next.inside) (any_framed own more) none

    role : y.role ≡ AfterCode
    role = code-alone options bytes y next fits are.0 are.2 put.0

    blank : is_blank y.rest.bytes ≡ true
    blank = not-false (is_blank y.rest.bytes) (sym parts.0 ∙ code-framed options bytes y next fits are.0)

    ended : ending_events (ending_of r.kind r) r ≡ without_lists (tail (x ∷ []))
    ended =
        ap (λ (cs : List Container). ends_of cs r.end ++ ending_events (ending_of r.kind r) r) (sym are.3)
        ∙ sym (tail-same options bytes x r fit may)

    inside : map (renamed Outside) next.inside ≡ events_by options y.role (y ∷ [])
    inside =
        following-blank y next (read-as options bytes y next fits)
        (leaf-added options bytes y next fits CodeFurther are.0) blank
        ∙ sym
        (append-nil (content_line n.SpaceOrTab 4 y.line y.rest ++ [])
        ∙ append-nil (content_line n.SpaceOrTab 4 y.line y.rest))
        ∙ ap (λ (role : Role). events_by options role (y ∷ [])) (sym role)

    regroup : (a b c d e f : List Event) → ((((a ++ b) ++ c) ++ d) ++ e) ++ f ≡ ((a ++ b) ++ c) ++ ((d ++ e) ++ f)
    regroup a b c d e f = simp append_assoc

    again : (a b c d e : List Event) → ((a ++ b) ++ c) ++ (d ++ e) ≡ a ++ (((b ++ c) ++ d) ++ e)
    again a b c d e = simp append_assoc
