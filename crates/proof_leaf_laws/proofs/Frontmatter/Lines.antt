-- What is known of the lines of frontmatter, one after the other, and of all that is in it.
use Rattle.std.proofs.Common.{◌≡◌, ℕ, ◌+◌, ◌<◌, Bool, true, false, cond, List, [], ◌∷◌, ◌++◌, length, take, drop, map}
use Rattle.std.proofs.Common.{nat_lt, refl, sym, ◌∙◌, ap, subst, arith, append_assoc, append-nil}
use Rattle.std.specs.Prelude.{◌==◌}
use Rattle.std.proofs.lemmas.Bool.Decides.{nat_tests}
use Rattle.std.proofs.lemmas.List.{length-append, length-drop}
use Rattle.md_engine.specs.declared.event.Event.{Event}
use Rattle.md_engine.specs.declared.event.Name.TheVariants as n
use Rattle.md_engine.specs.declared.event.Point.{Point}
use Rattle.md_meaning.specs.Tree.{Line}
use Rattle.md_outline.specs.LinesAllowed.{AtEnd, AtEnding, AtLine, AtMarkers}
use Rattle.md_events.specs.Events.Grammar.{Nothing, inside, plain_text}
use Rattle.md_events.specs.Events.Nested.{pair}
use Rattle.md_events.specs.Events.Spelled.{OfFrontmatter, OpenLeaf, empty_line, fresh, next_line}
use Rattle.md_events.proofs.EndingsLemmas.{Filling, filling-append, stays-append}
use Rattle.md_events.proofs.FeedLines.{ending-some, IsEnding}
use Rattle.md_events.proofs.InlineLemmas.{past-index}
use Rattle.proof_frame.specs.LineColumns.{part_over}
use Rattle.proof_frame.proofs.BetweenFacts.{ending-before, ending-following}
use Rattle.proof_leaf_laws.proofs.Frontmatter.Parts.{HasFence, HasText, after_chunk, after_open, chunk-inside}
use Rattle.proof_leaf_laws.proofs.Frontmatter.Parts.{close-inside, end-whole, fence-fills, fence_over, front_leaf}
use Rattle.proof_leaf_laws.proofs.Frontmatter.Parts.{in_line, open-inside, text_line}
use Rattle.proof_frame.proofs.IndentRemoved.Shown.{whole-clear}
use Rattle.proof_frame.proofs.LeafLines.Inside.{InsideFacts, Meets, ending-inside, inside-append}
use Rattle.proof_frame.proofs.PartsFacts.{following_ending}

-- a line between the fences, and its ending
abbrev pub line_over : List ℕ → Point → Point → List Event
line_over line p q = part_over n.FrontmatterChunk line p q

-- The lines after the opening fence, up to the end of the closing one: their texts, and all events.
pub data IsRest (bytes : List ℕ) (m : ℕ) : Point → List (List ℕ) → List Event → Point → Type 0 where
  Closes : (line : List ℕ) (p q : Point) → HasFence bytes line m p q → IsRest bytes m p [] (fence_over line p q) q
  More : (line : List ℕ) (p q r z : Point) (texts : List (List ℕ)) (es : List Event) → HasText bytes line p q →
      IsEnding bytes q r → IsRest bytes m r texts es z →
      IsRest bytes m p (line ∷ texts) ((line_over line p q ++ pair n.LineEnding q r) ++ es) z

-- the text continues there
rest-proceeds : (bytes : List ℕ) (m : ℕ) (p : Point) (texts : List (List ℕ)) (es : List Event) (z : Point) →
    IsRest bytes m p texts es z → p.index < length bytes
rest-proceeds bytes m p _ _ z (Closes line _ _ h) =
    let size = ap length h.is.valid in
    let parts = length-append line (drop z.index bytes) in
    let left = length-drop p.index bytes in
    let three = three-long line (ap length h.markers) in
    omega (arith, size, parts, left, three)
  where
    three-long : (line : List ℕ) → length (take 3 line) ≡ 3 → 0 < length line
    three-long [] e = absurd (omega (arith, e))
    three-long (b ∷ bs) e = omega arith
rest-proceeds bytes m p _ _ z (More line _ q r _ texts es is ending more) =
    let size : q.index ≡ p.index + length line = ap (λ (x : Point). x.index) is.end ∙ past-index line p in
    let some = ending-some ending.ending in
    let next = ending.size in
    let within = ending.in_text in
    omega (arith, size, some, next, within)

-- after an ending, a line of it begins
ended-leaf : (bytes markers : List ℕ) (lines : List Line) (q : Point) → q.index < length bytes →
    following_ending bytes q (front_leaf markers lines false) ≡ front_leaf markers (lines ++ empty_line ∷ []) false
ended-leaf bytes markers lines q lt =
    let proceeds : nat_lt q.index (length bytes) ≡ true = grind (arith, nat_tests) in
    ap (λ (x : Bool). cond x (next_line (front_leaf markers lines false)) (front_leaf markers lines false)) proceeds

meets-ending : (bytes line : List ℕ) (p q r : Point) → HasText bytes line p q → IsEnding bytes q r → Meets bytes q r
meets-ending bytes line p q r is ending = record {
  between = λ end. ending-before bytes q r ending;
  clear = whole-clear bytes q (end-whole bytes line p q is);
}

meets-line : (bytes : List ℕ) (q r z : Point) → IsEnding bytes q r → Meets bytes r z
meets-line bytes q r z ending = record {
  between = λ end. ending-following bytes q r ending;
  clear = whole-clear bytes r ending.whole;
}

-- a line, and its ending
line-inside : (bytes line markers : List ℕ) (lines : List Line) (p q r : Point) → HasText bytes line p q →
    IsEnding bytes q r → r.index < length bytes →
    InsideFacts bytes p r in_line in_line (front_leaf markers (lines ++ empty_line ∷ []) false)
    (front_leaf markers ((lines ++ text_line line ∷ []) ++ empty_line ∷ []) false) (AtLine OfFrontmatter)
    (AtLine OfFrontmatter) (line_over line p q ++ pair n.LineEnding q r) (line_over line p q ++ pair n.LineEnding q r)
line-inside bytes [] markers lines p q r is ending proceeds =
    subst
    (λ (l : OpenLeaf).
    InsideFacts bytes p r in_line in_line (front_leaf markers (lines ++ empty_line ∷ []) false) l (AtLine OfFrontmatter)
    (AtLine OfFrontmatter) (pair n.LineEnding q r) (pair n.LineEnding q r))
    (ended-leaf bytes markers (lines ++ empty_line ∷ []) r proceeds)
    (subst
    (λ (x : Point).
    InsideFacts bytes x r in_line in_line (front_leaf markers (lines ++ empty_line ∷ []) false)
    (following_ending bytes r (front_leaf markers (lines ++ empty_line ∷ []) false)) (AtLine OfFrontmatter)
    (AtLine OfFrontmatter) (pair n.LineEnding q r) (pair n.LineEnding q r)) is.end
    (ending-inside bytes q r in_line (front_leaf markers (lines ++ empty_line ∷ []) false) (AtLine OfFrontmatter)
    (end-whole bytes [] p q is) ending tt))
line-inside bytes (b ∷ line) markers lines p q r is ending proceeds =
    let recorded = lines ++ text_line (b ∷ line) ∷ [] in
    let es = pair n.FrontmatterChunk p q in
    subst
    (λ (l : OpenLeaf).
    InsideFacts bytes p r in_line in_line (front_leaf markers (lines ++ empty_line ∷ []) false) l (AtLine OfFrontmatter)
    (AtLine OfFrontmatter) (es ++ pair n.LineEnding q r) (es ++ pair n.LineEnding q r))
    (ended-leaf bytes markers recorded r proceeds)
    (inside-append (chunk-inside bytes b line markers lines p q is)
    (at-line
    (ending-inside bytes q r after_chunk (front_leaf markers recorded false) (AtEnding OfFrontmatter)
    (end-whole bytes (b ∷ line) p q is) ending tt)) (meets-ending bytes (b ∷ line) p q r is ending))
  where
    with_this : List Line
    with_this = lines ++ text_line (b ∷ line) ∷ []

    at-line :
        InsideFacts bytes q r after_chunk in_line (front_leaf markers with_this false)
        (following_ending bytes r (front_leaf markers with_this false)) (AtEnding OfFrontmatter)
        (cond (nat_lt r.index (length bytes)) (AtLine OfFrontmatter) (AtEnding OfFrontmatter)) (pair n.LineEnding q r)
        (pair n.LineEnding q r) →
        InsideFacts bytes q r after_chunk in_line (front_leaf markers with_this false)
        (following_ending bytes r (front_leaf markers with_this false)) (AtEnding OfFrontmatter) (AtLine OfFrontmatter)
        (pair n.LineEnding q r) (pair n.LineEnding q r)
    at-line h =
        let lt : nat_lt r.index (length bytes) ≡ true = grind (arith, nat_tests) in
        subst
        (λ (x : Bool).
        InsideFacts bytes q r after_chunk in_line (front_leaf markers with_this false)
        (following_ending bytes r (front_leaf markers with_this false)) (AtEnding OfFrontmatter)
        (cond x (AtLine OfFrontmatter) (AtEnding OfFrontmatter)) (pair n.LineEnding q r) (pair n.LineEnding q r)) lt h

-- all of them, and the closing fence
rest-inside : (bytes : List ℕ) (m : ℕ) (markers : List ℕ) (lines : List Line) (p : Point) (texts : List (List ℕ))
    (es : List Event) (z : Point) → (length markers == 0) ≡ false → IsRest bytes m p texts es z →
    InsideFacts bytes p z in_line Nothing (front_leaf markers (lines ++ empty_line ∷ []) false)
    (front_leaf markers (lines ++ map text_line texts) true) (AtLine OfFrontmatter) (AtEnd OfFrontmatter) es es
rest-inside bytes m markers lines p _ _ z some (Closes line _ _ h) =
    subst
    (λ (ls : List Line).
    InsideFacts bytes p z in_line Nothing (front_leaf markers (lines ++ empty_line ∷ []) false)
    (front_leaf markers ls true) (AtLine OfFrontmatter) (AtEnd OfFrontmatter) (fence_over line p z)
    (fence_over line p z))
    (sym (append-nil lines)) (close-inside bytes line m markers lines p z h some)
rest-inside bytes m markers lines p _ _ z some (More line _ q r _ texts es is ending more) =
    let front = line_over line p q ++ pair n.LineEnding q r in
    let recorded = lines ++ text_line line ∷ [] in
    subst
    (λ (ls : List Line).
    InsideFacts bytes p z in_line Nothing (front_leaf markers (lines ++ empty_line ∷ []) false)
    (front_leaf markers ls true) (AtLine OfFrontmatter) (AtEnd OfFrontmatter) (front ++ es) (front ++ es))
    (append_assoc lines (text_line line ∷ []) (map text_line texts))
    (inside-append (line-inside bytes line markers lines p q r is ending (rest-proceeds bytes m r texts es z more))
    (rest-inside bytes m markers recorded r texts es z some more) (meets-line bytes q r z ending))

-- it ends on a line that is filled
rest-fills : (bytes : List ℕ) (m : ℕ) (p : Point) (texts : List (List ℕ)) (es : List Event) (z : Point) →
    IsRest bytes m p texts es z → Filling es
rest-fills bytes m p _ _ z (Closes line _ _ h) = fence-fills line p z
rest-fills bytes m p _ _ z (More line _ q r _ texts es is ending more) =
    let front = line_over line p q ++ pair n.LineEnding q r in
    filling-append front es
    (line-inside bytes line [] [] p q r is ending (rest-proceeds bytes m r texts es z more)).parts.stays
    (rest-fills bytes m r texts es z more)

-- Frontmatter: its opening fence, and the lines after that.
pub record IsFront (bytes : List ℕ) (p : Point) (texts : List (List ℕ)) (es : List Event) (z : Point) : Type 0 where
  pub m : ℕ
  pub line : List ℕ
  pub q : Point
  pub r : Point
  pub rest : List Event
  pub opens : HasFence bytes line m p q
  pub ending : IsEnding bytes q r
  pub lines : IsRest bytes m r texts rest z
  pub all : es ≡ (fence_over line p q ++ pair n.LineEnding q r) ++ rest

-- what is in it
pub front-inside : (bytes : List ℕ) (p : Point) (texts : List (List ℕ)) (es : List Event) (z : Point) →
    (is : IsFront bytes p texts es z) →
    InsideFacts bytes p z (inside plain_text n.Frontmatter) Nothing (fresh OfFrontmatter)
    (front_leaf (take 3 is.line) (map text_line texts) true) (AtMarkers OfFrontmatter) (AtEnd OfFrontmatter) es es
front-inside bytes p texts es z is =
    subst
    (λ (l : List Event).
    InsideFacts bytes p z (inside plain_text n.Frontmatter) Nothing (fresh OfFrontmatter)
    (front_leaf markers (map text_line texts) true) (AtMarkers OfFrontmatter) (AtEnd OfFrontmatter) l l)
    (sym is.all)
    (inside-append first (rest-inside bytes is.m markers [] is.r texts is.rest z some is.lines)
    (meets-line bytes is.q is.r z is.ending))
  where
    markers : List ℕ
    markers = take 3 is.line

    front : List Event
    front = fence_over is.line p is.q ++ pair n.LineEnding is.q is.r

    some : (length markers == 0) ≡ false
    some = ap (λ (l : List ℕ). length l == 0) is.opens.markers

    proceeds : nat_lt is.r.index (length bytes) ≡ true
    proceeds = let lt = rest-proceeds bytes is.m is.r texts is.rest z is.lines in grind (arith, nat_tests)

    first : InsideFacts bytes p is.r (inside plain_text n.Frontmatter) in_line (fresh OfFrontmatter)
        (front_leaf markers (empty_line ∷ []) false) (AtMarkers OfFrontmatter) (AtLine OfFrontmatter) front front
    first =
        subst
        (λ (x : Bool).
        InsideFacts bytes p is.r (inside plain_text n.Frontmatter) in_line (fresh OfFrontmatter)
        (cond x (front_leaf markers (empty_line ∷ []) false) (front_leaf markers [] false)) (AtMarkers OfFrontmatter)
        (cond x (AtLine OfFrontmatter) (AtEnding OfFrontmatter)) front front) proceeds
        (inside-append (open-inside bytes is.line is.m p is.q is.opens)
        (ending-inside bytes is.q is.r after_open (front_leaf markers [] false) (AtEnding OfFrontmatter)
        (end-whole bytes is.line p is.q is.opens.is) is.ending tt)
        (meets-ending bytes is.line p is.q is.r is.opens.is is.ending))

-- and that it ends on a line that is filled
pub front-fills : (bytes : List ℕ) (p : Point) (texts : List (List ℕ)) (es : List Event) (z : Point) →
    (is : IsFront bytes p texts es z) → Filling es
front-fills bytes p texts es z is =
    let front = fence_over is.line p is.q ++ pair n.LineEnding is.q is.r in
    subst Filling (sym is.all)
    (filling-append front is.rest
    (stays-append (fence_over is.line p is.q) (pair n.LineEnding is.q is.r)
    (open-inside bytes is.line is.m p is.q is.opens).parts.stays (λ b. (false, λ ys. refl)))
    (rest-fills bytes is.m is.r texts is.rest z is.lines))
