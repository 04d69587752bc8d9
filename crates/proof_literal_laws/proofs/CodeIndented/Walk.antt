-- All lines of indented code after its first one: each, also a blank one, is one more line of it.
use Rattle.std.proofs.Common.{◌≡◌, ℕ, Bool, true, false, cond, ◌||◌, not, List, [], ◌∷◌, ◌++◌, length, drop, refl}
use Rattle.std.proofs.Common.{sym, ◌∙◌, ap, subst, arith, append_assoc, append-nil}
use Rattle.std.specs.Prelude.{nat_lt}
use Rattle.std.proofs.lemmas.Bool.Decides.{nat_tests}
use Rattle.md_engine.specs.declared.event.Event.{Event}
use Rattle.md_engine.specs.declared.event.Name.TheVariants as n
use Rattle.md_engine.specs.declared.event.Point.{Point}
use Rattle.md_meaning.specs.Leaves.{code_line}
use Rattle.md_meaning.specs.Rest.{Rest, indent, is_blank, lose}
use Rattle.md_meaning.specs.Tree.{Line}
use Rattle.md_leaves.specs.Further.{further_link}
use Rattle.md_literal.proofs.CodeLines.{blank-line}
use Rattle.md_outline.specs.LinesAllowed.{Site}
use Rattle.md_outline.proofs.LinesPass.{ended_site}
use Rattle.md_events.specs.Events.Grammar.{Expression, following, may_end}
use Rattle.md_events.specs.Events.Nested.{enter_link, exit, pair}
use Rattle.md_events.specs.Events.Spelled.{CodeLeaf, OfCode, OpenLeaf, empty_line, next_line}
use Rattle.md_events.proofs.EndingsLemmas.{Leads, in_leaf, leads-append}
use Rattle.proof_frame.specs.RestLine.{rest_line}
use Rattle.proof_literal_laws.specs.Leaf.CodeIndented.{code_parts}
use Rattle.proof_frame.specs.LineColumns.{past_columns}
use Rattle.proof_frame.specs.Row.{Row, but_ends, ending_events}
use Rattle.proof_literal_laws.proofs.CodeIndented.Cells.{over-some}
use Rattle.proof_literal_laws.proofs.CodeIndented.Facts.{code_site, line-facts, parts-stretch}
use Rattle.proof_literal_laws.proofs.CodeIndented.Grammar.{in_line, line-ending, line-ends, line-takes, line_left}
use Rattle.proof_literal_laws.proofs.CodeIndented.Parts.{code-inside}
use Rattle.proof_literal_laws.proofs.CodeIndented.Rows.{AreInCode, InCode, as-line, as_line, proceeds-on, line_in}
use Rattle.proof_literal_laws.proofs.CodeIndented.Rows.{lines_after}
use Rattle.proof_frame.proofs.ContainerNames.{TakesPrefixes}
use Rattle.proof_frame.proofs.LeafLines.Rest.{others-fill}
use Rattle.proof_literal_laws.proofs.IndentRemoved.Sites.{ended-proceeds, records_rest, line-leaves, line-on, line_site}
use Rattle.proof_frame.proofs.FrontLemmas.{fronts-balanced}
use Rattle.proof_frame.proofs.FrontPlaces.{fronts-grow}
use Rattle.proof_frame.proofs.FrontValid.{fronts-others}
use Rattle.proof_literal_laws.proofs.IndentRemoved.Parts.{inside-others}
use Rattle.proof_frame.proofs.IndentRemoved.Places.{FurtherAt, further-rest}
use Rattle.proof_frame.proofs.IndentRemoved.Shown.{left-clear}
use Rattle.proof_frame.proofs.PrefixFacts.{is_bare}
use Rattle.proof_frame.proofs.LeafLines.Cuts.{but_ends-is, ending-is}
use Rattle.proof_frame.proofs.LeafLines.Framed.{framed_rest}
use Rattle.proof_frame.proofs.LeafLines.Inside.{InsideFacts}
use Rattle.proof_frame.proofs.PartsFacts.{following_ending}
use Rattle.proof_frame.proofs.LeafLines.Lines.{AreFurther, SpanLine, ends-by}

-- what is inside of a row of the code
in-parts : (bytes : List ℕ) (row : Row) → (is : InCode bytes row) →
    but_ends (as_line row) ≡ code_parts is.rest row.first row.end
in-parts bytes row is =
    ap but_ends (as-line bytes row is)
    ∙ but_ends-is (enter_link n.CodeIndented row.first further_link) (code_parts is.rest row.first row.end)
    (exit n.CodeIndented row.end)

-- one more line
line-next : (bytes : List ℕ) (r : Rest) (row next : Row) (rows : List Row) →
    (are : AreInCode bytes r row (next ∷ rows)) → (lines : List Line) (left : Expression) (recorded : Bool)
    (to : OpenLeaf) →
    following n.LineEnding left ≡ in_line →
    AreFurther bytes as_line as_line n.CodeIndented (line_left are.4.rest)
    (CodeLeaf (lines ++ code_line are.4.rest ∷ [])) to (code_site are.4.rest) next rows →
    AreFurther bytes as_line as_line n.CodeIndented left (CodeLeaf lines) to (line_site OfCode recorded)
    row (next ∷ rows)
line-next bytes r row next rows are lines left recorded to line rest =
    (q, are.1, are.2, are.3, subst TakesPrefixes (sym line) line-takes, line-on OfCode recorded, one, rest)
  where
    q : Point
    q = are.0

    s : Rest
    s = are.4.rest

    parts : List Event
    parts = code_parts are.4.rest next.first next.end

    at : FurtherAt bytes are.4.rest next.first next.end
    at = are.4.at

    same : as_line next ≡ line_in are.4.rest next.first next.end
    same = as-line bytes next are.4

    -- the text continues after the ending
    some : nat_lt q.index (length bytes) ≡ true
    some =
        let further = proceeds-on bytes s next rows at are.5 in
        let grow = fronts-grow bytes [] q next.first next.front are.3 in
        grind (arith, nat_tests)

    more : CodeLeaf (lines ++ empty_line ∷ []) ≡ following_ending bytes q (CodeLeaf lines)
    more = sym (ap (λ (x : Bool). cond x (next_line (CodeLeaf lines)) (CodeLeaf lines)) some)

    facts :
        InsideFacts bytes next.first next.end (following n.LineEnding left) (line_left are.4.rest)
        (following_ending bytes are.0 (CodeLeaf lines)) (CodeLeaf (lines ++ code_line are.4.rest ∷ []))
        (ended_site bytes are.0 (line_site OfCode recorded)) (code_site are.4.rest) parts parts
    facts =
        subst
        (λ (x : Expression).
        InsideFacts bytes next.first next.end x (line_left s) (following_ending bytes q (CodeLeaf lines))
        (CodeLeaf (lines ++ code_line s ∷ [])) (ended_site bytes q (line_site OfCode recorded))
        (code_site s) parts parts)
        (sym line)
        (subst
        (λ (from : OpenLeaf).
        InsideFacts bytes next.first next.end in_line (line_left s) from (CodeLeaf (lines ++ code_line s ∷ []))
        (ended_site bytes q (line_site OfCode recorded)) (code_site s) parts parts) more
        (subst
        (λ (start : Site).
        InsideFacts bytes next.first next.end in_line (line_left s) (CodeLeaf (lines ++ empty_line ∷ []))
        (CodeLeaf (lines ++ code_line s ∷ [])) start (code_site s) parts parts)
        (sym (ended-proceeds bytes q OfCode recorded some)) (line-facts bytes s next.first next.end lines at)))

    one :
        SpanLine bytes as_line as_line n.CodeIndented (following n.LineEnding left)
        (following_ending bytes are.0 (CodeLeaf lines)) (ended_site bytes are.0 (line_site OfCode recorded)) next
    one = record {
      ends =
          ends-by as_line as_line n.CodeIndented next (enter_link n.CodeIndented next.first further_link ∷ parts)
          (enter_link n.CodeIndented next.first further_link ∷ parts) at.at.end_whole same same;
      clear =
          left-clear bytes (drop next.end.index bytes) s next.first (further-rest bytes s next.first next.end at);
      left = line_left s;
      leaf = CodeLeaf (lines ++ code_line s ∷ []);
      site = code_site s;
      facts =
          subst
          (λ (es : List Event).
          InsideFacts bytes next.first next.end (following n.LineEnding left) (line_left s)
          (following_ending bytes q (CodeLeaf lines)) (CodeLeaf (lines ++ code_line s ∷ []))
          (ended_site bytes q (line_site OfCode recorded)) (code_site s) es es)
          (sym (in-parts bytes next are.4)) facts;
    }

-- all of them, after these lines, whether the last of those said anything or not
pub lines-further : (bytes : List ℕ) (r : Rest) (row : Row) (rows : List Row) →
    (are : AreInCode bytes r row rows) → (lines : List Line) (left : Expression) (recorded : Bool) →
    may_end left ≡ true →
    following n.LineEnding left ≡ in_line →
    AreFurther bytes as_line as_line n.CodeIndented left (CodeLeaf lines)
    (CodeLeaf (lines ++ lines_after bytes r row rows are)) (line_site OfCode recorded) row rows
lines-further bytes r row [] are lines left recorded ends line =
    (ends, ap CodeLeaf (sym (append-nil lines)), line-leaves OfCode recorded)
lines-further bytes r row (next ∷ rows) are lines left recorded ends line =
    let s = are.4.rest in
    let more = lines ++ code_line s ∷ [] in
    let after_it = lines_after bytes s next rows are.5 in
    line-next bytes r row next rows are lines left recorded
    (CodeLeaf (lines ++ lines_after bytes r row (next ∷ rows) are)) line
    (subst
    (λ (l : List Line).
    AreFurther bytes as_line as_line n.CodeIndented (line_left s) (CodeLeaf more) (CodeLeaf l) (code_site s) next rows)
    (append_assoc lines (code_line s ∷ []) after_it)
    (lines-further bytes s next rows are.5 more (line_left s) (records_rest (rest_line (lose 4 s)))
    (line-ends (rest_line (lose 4 s))) (line-ending (rest_line (lose 4 s)))))

-- Something is on the last line.

-- text is something
text-full : (r : Rest) (p q : Point) → is_blank r.bytes ≡ false → is_bare (code_parts r p q) ≡ false
text-full r p q dark =
    ap (λ (es : List Event). is_bare (white (nat_lt 0 (indent r)) ++ es))
    (over-some n.CodeFlowChunk (lose 4 r) (past_columns 4 r p) q (blank-line r ∙ dark))
    ∙ go (nat_lt 0 (indent r))
  where
    white : Bool → List Event
    white x = cond x (pair n.SpaceOrTab p (past_columns 4 r p)) []

    go : (x : Bool) → is_bare (white x ++ pair n.CodeFlowChunk (past_columns 4 r p) q) ≡ false
    go true = refl
    go false = refl

-- so the endings between them lead from a line to a line with something on it
pub lines-fill : (bytes : List ℕ) (r : Rest) (row : Row) (rows : List Row) → AreInCode bytes r row rows →
    (full : Bool) → (is_blank r.bytes ≡ false → full ≡ true) →
    Leads (in_leaf full) (in_leaf true) (framed_rest as_line row rows)
lines-fill bytes r row [] are full is =
    subst (λ (x : Bool). Leads (in_leaf x) (in_leaf true) []) (sym (is are)) (λ ys. refl)
lines-fill bytes r row (next ∷ rows) are full is =
    leads-append (in_leaf full) (in_leaf here) (in_leaf true) (ended ++ next.front ++ but_ends (as_line next))
    (framed_rest as_line next rows)
    (leads-append (in_leaf full) (in_leaf (not (is_bare next.front))) (in_leaf here) (ended ++ next.front)
    (but_ends (as_line next))
    (leads-append (in_leaf full) (in_leaf false) (in_leaf (not (is_bare next.front))) ended next.front
    (subst (λ (es : List Event). Leads (in_leaf full) (in_leaf false) es)
    (sym (ending-is n.LineEnding row are.0 are.1)) (λ ys. refl))
    (others-fill false next.front (fronts-others bytes [] are.0 next.first next.front are.3)
    (fronts-balanced bytes [] are.0 next.first next.front are.3 refl)))
    (subst (λ (es : List Event). Leads (in_leaf (not (is_bare next.front))) (in_leaf here) es)
    (sym (in-parts bytes next are.4))
    (others-fill (not (is_bare next.front)) parts (inside-others parts (code-inside s next.first next.end))
    (parts-stretch bytes s next.first next.end are.4.at).nested.0)))
    (lines-fill bytes s next rows are.5 here
    (λ dark.
    ap (λ (x : Bool). not (is_bare next.front) || not x) (text-full s next.first next.end dark)
    ∙ any (not (is_bare next.front))))
  where
    s : Rest
    s = are.4.rest

    ended : List Event
    ended = ending_events n.LineEnding row

    parts : List Event
    parts = code_parts are.4.rest next.first next.end

    here : Bool
    here = not (is_bare next.front) || not (is_bare (code_parts are.4.rest next.first next.end))

    any : (x : Bool) → (x || true) ≡ true
    any true = refl
    any false = refl
