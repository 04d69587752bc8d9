-- All further lines of fenced code or math: as long as the block is open, each is one more line of it, or closes it.
use Rattle.std.proofs.Common.{◌≡◌, ℕ, ◌≤◌, Bool, true, false, cond, List, [], ◌∷◌, ◌++◌, length, refl, sym, ap, ◌∙◌}
use Rattle.std.proofs.Common.{subst, arith}
use Rattle.std.specs.Prelude.{nat_lt}
use Rattle.std.proofs.lemmas.Bool.Decides.{nat_tests}
use Rattle.md_engine.specs.declared.configuration.ParseOptions.{ParseOptions}
use Rattle.md_engine.specs.declared.event.Event.{Event}
use Rattle.md_engine.specs.declared.event.Name.TheVariants as n
use Rattle.md_engine.specs.declared.event.Point.{Point}
use Rattle.md_engine.specs.declared.tokenizer.held_leaf.HeldLeaf.{HeldLeaf}
use Rattle.md_engine.specs.declared.tokenizer.held_leaf.HeldLeaf.TheVariants as held_leaf
use Rattle.md_meaning.specs.Leaves.{LeafResult, Finished, Opened, closes}
use Rattle.md_meaning.specs.Rest.{Rest, line_of, lose}
use Rattle.md_meaning.specs.State.{OpenFence, Opening, fence_block, then_block}
use Rattle.md_meaning.specs.Tree.{Line}
use Rattle.md_literal.specs.Fence.{block_name, is_open as is_fence}
use Rattle.md_outline.specs.LinesAllowed.{AtEnd, AtLine, Site}
use Rattle.md_outline.proofs.LinesPass.{ended_site}
use Rattle.md_events.specs.Events.Grammar.{Expression, Nothing, following, may_end, plain_text}
use Rattle.md_events.specs.Events.Spelled.{LeafKind, OpenLeaf, next_line}
use Rattle.proof_frame.specs.RestLine.{rest_line}
use Rattle.proof_literal_laws.specs.Leaf.FenceFurther.{fence_becomes, fence_further, further_holds, further_parts}
use Rattle.proof_literal_laws.specs.Leaf.FenceFurther.{opening_of}
use Rattle.proof_frame.specs.Row.{Row}
use Rattle.proof_frame.proofs.ContainerNames.{TakesPrefixes}
use Rattle.proof_literal_laws.proofs.FenceFurther.Definition.{further-proceeds, held_of}
use Rattle.proof_literal_laws.proofs.FenceFurther.Grammar.{following-line-ends, ending-line, in-line-ends, in_line}
use Rattle.proof_literal_laws.proofs.FenceFurther.Grammar.{left_by, takes-line}
use Rattle.proof_literal_laws.proofs.FenceFurther.Joined.{block-lines}
use Rattle.proof_frame.proofs.IndentRemoved.Places.{FurtherAt, further-at}
use Rattle.proof_literal_laws.proofs.FenceSpan.Further.{IsBare, bare-facts, closing-reads, end-bare, further-facts}
use Rattle.proof_literal_laws.proofs.FenceSpan.Further.{line-reads}
use Rattle.proof_literal_laws.proofs.FenceSpan.Open.{AreMarks, block-is, kind_of, leaf_of}
use Rattle.proof_literal_laws.proofs.FenceSpan.Rest.{further-line}
use Rattle.proof_literal_laws.proofs.IndentRemoved.Sites.{ended-proceeds, ended-over, records_rest, line-leaves}
use Rattle.proof_literal_laws.proofs.IndentRemoved.Sites.{line-on, line_site}
use Rattle.proof_frame.proofs.FrontPlaces.{fronts-grow}
use Rattle.proof_frame.proofs.LeafLines.Inside.{InsideFacts}
use Rattle.proof_frame.proofs.PartsFacts.{ReadsLeaf, following_ending}
use Rattle.proof_frame.proofs.LeafLines.Rest.{HasRest, rest-more, rest-none}
use Rattle.proof_frame.proofs.SpanLaws.{AreAfter, IsLineOf, becomes_after}

-- what is left of the grammar after a line of the block
left-ends : (m : ℕ) (line : List ℕ) → may_end (left_by plain_text m line) ≡ true
left-ends m [] = in-line-ends plain_text m
left-ends m (b ∷ bs) = following-line-ends plain_text m

left-line : (m : ℕ) (line : List ℕ) → following n.LineEnding (left_by plain_text m line) ≡ in_line plain_text m
left-line m [] = ending-line plain_text m
left-line m (b ∷ bs) = refl

line-takes : (m : ℕ) → TakesPrefixes (in_line plain_text m)
line-takes m = takes-line plain_text m

-- what is held after a further line
line-held : (options : ParseOptions) (bytes : List ℕ) (o : Opening) (row : Row) (closed : Bool) →
    (is : IsLineOf options bytes fence_further row) → row.on ≡ held_of o → is_fence (held_of o) ≡ true →
    closes options (opening_of (held_of o)) is.rest ≡ closed → row.following ≡ cond closed held_leaf.None (held_of o)
line-held options bytes o row closed is on e f =
    is.following
    ∙ ap (λ (h : HeldLeaf). further_holds options h is.rest) on
    ∙ ap
    (λ (x : Bool).
    cond x (cond (closes options (opening_of (held_of o)) is.rest) held_leaf.None (held_of o)) held_leaf.None) e
    ∙ ap (λ (x : Bool). cond x held_leaf.None (held_of o)) f

-- no line continues it after its closing fence
rest-closed : (options : ParseOptions) (bytes : List ℕ) (o : Opening) (marks : List ℕ) (lines : List Line) (row : Row)
    (rows : List Row) →
    AreMarks o marks → row.following ≡ held_leaf.None → (are : AreAfter options bytes fence_further row rows) →
    HasRest bytes (block_name o.marker) Nothing (leaf_of o marks lines true) (AtEnd (kind_of o.marker)) row rows
    (becomes_after options bytes fence_further row rows are (Finished (fence_block o lines true)))
rest-closed options bytes o marks lines row [] marked none are =
    rest-none bytes (block_name o.marker) Nothing (leaf_of o marks lines true) (AtEnd (kind_of o.marker)) row
    (Finished (fence_block o lines true)) refl tt
    (λ options bs. ap (then_block bs) (sym (block-is o marks lines true marked)))
rest-closed options bytes o marks lines row (next ∷ rows) marked none are =
    absurd (closed (sym (ap is_fence (are.4 ∙ none)) ∙ are.5))
  where
    closed : is_fence held_leaf.None ≡ true → ⊥
    closed e = cc

-- What further lines are after a line, whatever lines the block has there, and whether the line said one or none.
abbrev Rests : (options : ParseOptions) (bytes : List ℕ) → Opening → List ℕ → Row → List Row → Type 0
Rests options bytes o marks row rows =
    (lines : List Line) (left : Expression) (recorded : Bool) → may_end left ≡ true →
    following n.LineEnding left ≡ in_line plain_text o.marker → row.following ≡ held_of o →
    (are : AreAfter options bytes fence_further row rows) →
    HasRest bytes (block_name o.marker) left (leaf_of o marks lines false)
    (line_site (kind_of o.marker) recorded) row rows
    (becomes_after options bytes fence_further row rows are (Opened (OpenFence o lines)))

rest-next : (options : ParseOptions) (bytes : List ℕ) (o : Opening) (marks : List ℕ) (lines : List Line)
    (left : Expression) (recorded : Bool) (row next : Row) (rows : List Row) →
    AreMarks o marks → is_fence (held_of o) ≡ true → following n.LineEnding left ≡ in_line plain_text o.marker →
    row.following ≡ held_of o → (are : AreAfter options bytes fence_further row (next ∷ rows)) →
    Rests options bytes o marks next rows →
    HasRest bytes (block_name o.marker) left (leaf_of o marks lines false) (line_site (kind_of o.marker) recorded) row
    (next ∷ rows) (becomes_after options bytes fence_further row (next ∷ rows) are (Opened (OpenFence o lines)))
rest-next options bytes o marks lines left recorded row next rows marked fence line held are rests =
    go (nat_lt q.index (length bytes)) refl
  where
    q : Point
    q = are.0

    is : IsLineOf options bytes fence_further next
    is = are.6

    r : Rest
    r = is.rest

    on : next.on ≡ held_of o
    on = are.4 ∙ held

    at : FurtherAt bytes r next.first next.end
    at = further-at options bytes fence_further next is

    x : Expression
    x = in_line plain_text o.marker

    leaf : OpenLeaf
    leaf = leaf_of o marks lines false

    more : List Line
    more = lines ++ line_of (lose o.indent r) ∷ []

    closing : Bool
    closing = closes options (opening_of (held_of o)) r

    chunk : Expression
    chunk = left_by plain_text o.marker (rest_line (lose o.indent r))

    parts : List Event
    parts = further_parts options (held_of o) r next.first next.end

    kind : LeafKind
    kind = kind_of o.marker

    site : Site
    site = line_site (kind_of o.marker) recorded

    some : Bool
    some = records_rest (rest_line (lose o.indent r))

    After : LeafResult → Type 0
    After c =
        HasRest bytes (block_name o.marker) left leaf site row (next ∷ rows)
        (becomes_after options bytes fence_further next rows are.7 c)

    -- the line before those after it
    joined : (after : Expression) (to : OpenLeaf) (end : Site) (c : LeafResult) →
        InsideFacts bytes next.first next.end x after (following_ending bytes q leaf) to (ended_site bytes q site) end
        parts parts →
        HasRest bytes (block_name o.marker) after to end next rows
        (becomes_after options bytes fence_further next rows are.7 c) → After c
    joined after to end c facts rest =
        rest-more bytes (block_name o.marker) left x after leaf to site end row next rows
        (becomes_after options bytes fence_further next rows are.7 c) q are.1
        are.2 are.3 (block-lines o.marker) line (line-takes o.marker) (line-on kind recorded)
        (further-line options bytes o x after (following_ending bytes q leaf) to (ended_site bytes q site)
        end next is on
        fence facts) rest

    -- a line that the text continues with
    one : (closed : Bool) (to : OpenLeaf) → nat_lt q.index (length bytes) ≡ true → closing ≡ closed →
        ReadsLeaf bytes (next_line leaf) to parts →
        InsideFacts bytes next.first next.end x (cond closed Nothing chunk) (following_ending bytes q leaf) to
        (ended_site bytes q site) (cond closed (AtEnd kind) (line_site kind some)) parts parts
    one closed to proceeds k reads =
        subst
        (λ (from : OpenLeaf).
        InsideFacts bytes next.first next.end x (cond closed Nothing chunk) from to (ended_site bytes q site)
        (cond closed (AtEnd kind) (line_site kind some)) parts parts)
        (sym (ap (λ (b : Bool). cond b (next_line leaf) leaf) proceeds))
        (subst
        (λ (start : Site).
        InsideFacts bytes next.first next.end x (cond closed Nothing chunk) (next_line leaf) to start
        (cond closed (AtEnd kind) (line_site kind some)) parts parts)
        (sym (ended-proceeds bytes q kind recorded proceeds))
        (subst
        (λ (b : Bool).
        InsideFacts bytes next.first next.end x (cond b Nothing chunk) (next_line leaf) to (AtLine kind)
        (cond b (AtEnd kind) (line_site kind some)) parts parts) k
        (further-facts options bytes (held_of o) r next.first next.end (next_line leaf) to fence at reads)))

    by : nat_lt q.index (length bytes) ≡ true → (closed : Bool) → closing ≡ closed →
        After (cond closed (Finished (fence_block o lines true)) (Opened (OpenFence o more)))
    by proceeds true k =
        joined Nothing (leaf_of o marks lines true) (AtEnd kind) (Finished (fence_block o lines true))
        (one true (leaf_of o marks lines true) proceeds k
        (closing-reads options bytes o marks lines r next.first next.end marked k))
        (rest-closed options bytes o marks lines next rows marked (line-held options bytes o next true is on fence k)
        are.7)
    by proceeds false k =
        joined chunk (leaf_of o marks more false) (line_site kind some) (Opened (OpenFence o more))
        (one false (leaf_of o marks more false) proceeds k
        (line-reads options bytes o marks lines r next.first next.end marked at k))
        (rests more chunk some (left-ends o.marker (rest_line (lose o.indent r)))
        (left-line o.marker (rest_line (lose o.indent r))) (line-held options bytes o next false is on fence k) are.7)

    -- where the text ends no line is said
    ended : nat_lt q.index (length bytes) ≡ false → IsBare options (held_of o) r next.first next.end
    ended proceeds =
        let grow = fronts-grow bytes [] q next.first next.front are.3 in
        let over : length bytes ≤ q.index = grind (arith, nat_tests) in
        end-bare options bytes (held_of o) r next.first next.end fence at (omega (arith, grow, over))

    go : (proceeds : Bool) → nat_lt q.index (length bytes) ≡ proceeds →
        After (cond proceeds (fence_becomes options (OpenFence o lines) r) (Opened (OpenFence o lines)))
    go true proceeds = subst After (sym (further-proceeds options o lines r)) (by proceeds closing refl)
    go false proceeds =
        joined x leaf site (Opened (OpenFence o lines))
        (subst
        (λ (from : OpenLeaf).
        InsideFacts bytes next.first next.end x x from leaf (ended_site bytes q site) site parts parts)
        (sym (ap (λ (b : Bool). cond b (next_line leaf) leaf) proceeds))
        (subst (λ (start : Site). InsideFacts bytes next.first next.end x x leaf leaf start site parts parts)
        (sym (ended-over bytes q kind recorded proceeds))
        (bare-facts bytes options (held_of o) r next.first next.end x leaf site (ended proceeds))))
        (rests lines x recorded (in-line-ends plain_text o.marker) (ending-line plain_text o.marker)
        (line-held options bytes o next false is on fence (ended proceeds).other) are.7)

pub rest-open : (options : ParseOptions) (bytes : List ℕ) (o : Opening) (marks : List ℕ) (row : Row)
    (rows : List Row) →
    AreMarks o marks → is_fence (held_of o) ≡ true → Rests options bytes o marks row rows
rest-open options bytes o marks row [] marked fence lines left recorded ends line held are =
    rest-none bytes (block_name o.marker) left (leaf_of o marks lines false) (line_site (kind_of o.marker) recorded) row
    (Opened (OpenFence o lines)) ends (line-leaves (kind_of o.marker) recorded)
    (λ options bs. ap (then_block bs) (sym (block-is o marks lines false marked)))
rest-open options bytes o marks row (next ∷ rows) marked fence lines left recorded ends line held are =
    rest-next options bytes o marks lines left recorded row next rows marked fence line held are
    (rest-open options bytes o marks next rows marked fence)
