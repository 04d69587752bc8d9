-- A further line of fenced code or math in its block: what is known of what is in it.
use Rattle.std.proofs.Common.{◌≡◌, ℕ, zero, suc, ◌≤◌, Bool, true, false, cond, List, [], ◌∷◌, ◌++◌, length, refl, sym}
use Rattle.std.proofs.Common.{ap, ◌∙◌, subst, arith}
use Rattle.std.specs.Prelude.{◌==◌, Some}
use Rattle.std.proofs.lemmas.Bool.{and_parts, eqb-true}
use Rattle.md_engine.specs.declared.configuration.ParseOptions.{ParseOptions}
use Rattle.md_engine.specs.declared.event.Event.{Event}
use Rattle.md_engine.specs.declared.event.Point.{Point}
use Rattle.md_engine.specs.declared.tokenizer.held_leaf.HeldLeaf.{HeldLeaf}
use Rattle.md_meaning.specs.Leaves.{closes}
use Rattle.md_meaning.specs.Rest.{Rest, cut_tab, line_of, lose}
use Rattle.md_meaning.specs.State.{Opening}
use Rattle.md_meaning.specs.Tree.{Line}
use Rattle.md_literal.specs.Fence.{held_indent, held_marker, is_open as is_fence}
use Rattle.md_outline.specs.LinesAllowed.{AtLine, Site}
use Rattle.md_events.specs.Events.Grammar.{Expression, Nothing, plain_text, unread_text}
use Rattle.md_events.specs.Events.Places.{past_text}
use Rattle.md_events.specs.Events.Spelled.{OpenLeaf, Reading, next_line}
use Rattle.md_events.proofs.GrammarLemmas.{Leads}
use Rattle.proof_frame.specs.RestLine.{rest_line}
use Rattle.proof_literal_laws.specs.Leaf.FenceFurther.{further_parts, opening_of}
use Rattle.proof_literal_laws.proofs.FenceFurther.Definition.{held_of}
use Rattle.proof_literal_laws.proofs.FenceFurther.Grammar.{further-leads, further-stays, further_left, in_line, left_by}
use Rattle.proof_literal_laws.proofs.FenceFurther.Inside.{further-stretch}
use Rattle.proof_literal_laws.proofs.FenceFurther.Joined.{further-empty, nothing-open, nothing_from}
use Rattle.proof_frame.proofs.IndentRemoved.Places.{FurtherAt, line-over}
use Rattle.proof_literal_laws.proofs.FenceFurther.Reads.{further-closing-read, further-line-read}
use Rattle.proof_literal_laws.proofs.FenceFurther.Shown.{further-known}
use Rattle.proof_literal_laws.proofs.FenceSpan.Open.{AreMarks, following-same, closing-recorded, kind_of, leaf_of}
use Rattle.proof_literal_laws.proofs.FenceSpan.Open.{line-same, lines-recorded, opened-line}
use Rattle.proof_literal_laws.proofs.FenceSpan.OutlineSites.{further-passes, further_site}
use Rattle.proof_frame.proofs.PiecesLemmas.{Covered}
use Rattle.proof_frame.proofs.LeafLines.Inside.{InsideFacts, inside-none}
use Rattle.proof_frame.proofs.PartsFacts.{ReadsLeaf}

-- What is left of the grammar after it is the same before text parts are read.
left-same : (text : Expression) (options : ParseOptions) (on : HeldLeaf) (r : Rest) →
    further_left text options on r ≡ further_left plain_text options on r
left-same text options on r = go (closes options (opening_of on) r)
  where
    by : (line : List ℕ) → left_by text (held_marker on) line ≡ left_by plain_text (held_marker on) line
    by [] = line-same text (held_marker on)
    by (b ∷ bs) = following-same text (held_marker on)

    go : (x : Bool) →
        cond x Nothing (left_by text (held_marker on) (rest_line (lose (held_indent on) r))) ≡
        cond x Nothing (left_by plain_text (held_marker on) (rest_line (lose (held_indent on) r)))
    go true = refl
    go false = by (rest_line (lose (held_indent on) r))

unread-leads : (options : ParseOptions) (on : HeldLeaf) (r : Rest) (p q : Point) →
    Leads unread_text (in_line plain_text (held_marker on) ∷ []) (further_left plain_text options on r ∷ [])
    (further_parts options on r p q)
unread-leads options on r p q =
    subst
    (λ (x : Expression).
    Leads unread_text (x ∷ []) (further_left plain_text options on r ∷ []) (further_parts options on r p q))
    (line-same unread_text (held_marker on))
    (subst
    (λ (y : Expression).
    Leads unread_text (in_line unread_text (held_marker on) ∷ []) (y ∷ []) (further_parts options on r p q))
    (left-same unread_text options on r)
    (further-leads unread_text options on r p q))

-- All that is asked of it, where it is read so.
pub further-facts : (options : ParseOptions) (bytes : List ℕ) (on : HeldLeaf) (r : Rest) (p q : Point)
    (from to : OpenLeaf) →
    is_fence on ≡ true → FurtherAt bytes r p q → ReadsLeaf bytes from to (further_parts options on r p q) →
    InsideFacts bytes p q (in_line plain_text (held_marker on)) (further_left plain_text options on r) from to
    (AtLine (kind_of (held_marker on))) (further_site options on r) (further_parts options on r p q)
    (further_parts options on r p q)
further-facts options bytes on r p q from to e is reads = record {
  parts = record {
    stretch = further-stretch options bytes on r p q e is;
    unread_word = unread-leads options on r p q;
    word = further-leads plain_text options on r p q;
    unread_stays = further-stays options on r p q;
    stays = further-stays options on r p q;
    reads = reads;
  };
  plain = λ first. record {
    known = further-known options bytes on r p q e is first;
    lines = further-passes options bytes on r p q;
  };
}

-- How it is read.

pub line-reads : (options : ParseOptions) (bytes : List ℕ) (o : Opening) (marks : List ℕ) (lines : List Line) (r : Rest)
    (p q : Point) →
    AreMarks o marks → FurtherAt bytes r p q → closes options (opening_of (held_of o)) r ≡ false →
    ReadsLeaf bytes (next_line (leaf_of o marks lines false))
    (leaf_of o marks (lines ++ line_of (lose o.indent r) ∷ []) false) (further_parts options (held_of o) r p q)
line-reads options bytes o marks lines r p q are is other rd none at =
    further-line-read options bytes (held_of o) r p q is other rd (next_line (leaf_of o marks lines false)) lines none
    at
    (opened-line o marks lines are)
    ∙ ap (λ (l : OpenLeaf). let x : Reading = record rd { leaf = Some l } in x)
    (lines-recorded o marks lines (lines ++ line_of (lose o.indent r) ∷ []))

pub closing-reads : (options : ParseOptions) (bytes : List ℕ) (o : Opening) (marks : List ℕ) (lines : List Line)
    (r : Rest) (p q : Point) →
    AreMarks o marks → closes options (opening_of (held_of o)) r ≡ true →
    ReadsLeaf bytes (next_line (leaf_of o marks lines false)) (leaf_of o marks lines true)
    (further_parts options (held_of o) r p q)
closing-reads options bytes o marks lines r p q are closed rd none at =
    further-closing-read options bytes (held_of o) r p q closed rd (next_line (leaf_of o marks lines false)) lines none
    at (opened-line o marks lines are)
    ∙ ap (λ (l : OpenLeaf). let x : Reading = record rd { leaf = Some l } in x) (closing-recorded o marks lines)

-- A line on which nothing is.
pub record IsBare (options : ParseOptions) (on : HeldLeaf) (r : Rest) (p q : Point) : Type 0 where
  pub none : further_parts options on r p q ≡ []
  pub stays : q ≡ p
  pub other : closes options (opening_of on) r ≡ false

line-bare : (options : ParseOptions) (bytes : List ℕ) (on : HeldLeaf) (r : Rest) (p q : Point) → is_fence on ≡ true →
    FurtherAt bytes r p q → rest_line r ≡ [] → IsBare options on r p q
line-bare options bytes on r p q e is none = record {
  none = ap (λ (s : Rest). further_parts options on s p q) same ∙ further-empty options on r.column p q e;
  stays = is.at.end ∙ ap (λ (l : List ℕ). past_text l p) none;
  other =
      ap (λ (s : Rest). closes options (opening_of on) s) same ∙ nothing-open options on r.column e;
}
  where
    by : (spaces : ℕ) (text : List ℕ) → cut_tab spaces ++ text ≡ [] →
        (let s : Rest = record { column = r.column; spaces = spaces; bytes = text } in s) ≡ nothing_from r.column
    by zero [] k = refl
    by zero (b ∷ bs) k = absurd (cc)
    by (suc n) text k = absurd (cc)

    same : r ≡ nothing_from r.column
    same = by r.spaces r.bytes none

-- where the text ends
pub end-bare : (options : ParseOptions) (bytes : List ℕ) (on : HeldLeaf) (r : Rest) (p q : Point) → is_fence on ≡ true →
    FurtherAt bytes r p q → length bytes ≤ p.index → IsBare options on r p q
end-bare options bytes on r p q e is over = line-bare options bytes on r p q e is (line-over bytes r p q is over)

-- where it ends where it began
pub same-bare : (options : ParseOptions) (bytes : List ℕ) (on : HeldLeaf) (r : Rest) (p q : Point) →
    is_fence on ≡ true → FurtherAt bytes r p q → (p.index == q.index) ≡ true → IsBare options on r p q
same-bare options bytes on r p q e is same =
    line-bare options bytes on r p q e is
    (go (rest_line r)
    (let size = is.at.size in let at = eqb-true p.index q.index same in omega (arith, size, at)))
  where
    go : (line : List ℕ) → length line ≡ 0 → line ≡ []
    go [] h = refl
    go (b ∷ bs) h = absurd (cc)

-- and then alone nothing is on it
pub bare-same : (options : ParseOptions) (bytes : List ℕ) (on : HeldLeaf) (r : Rest) (p q : Point) →
    is_fence on ≡ true → FurtherAt bytes r p q → further_parts options on r p q ≡ [] → (p.index == q.index) ≡ true
bare-same options bytes on r p q e is none =
    (and_parts (p.index == q.index) (p.vs == q.vs)
    (subst (Covered p q) none (further-stretch options bytes on r p q e is).tiled).covers).0

-- it adds nothing to the block
pub bare-facts : (bytes : List ℕ) (options : ParseOptions) (on : HeldLeaf) (r : Rest) (p q : Point) (x : Expression)
    (leaf : OpenLeaf) (site : Site) →
    IsBare options on r p q →
    InsideFacts bytes p q x x leaf leaf site site (further_parts options on r p q) (further_parts options on r p q)
bare-facts bytes options on r p q x leaf site is =
    subst (λ (es : List Event). InsideFacts bytes p q x x leaf leaf site site es es) (sym is.none)
    (subst (λ (z : Point). InsideFacts bytes p z x x leaf leaf site site [] []) (sym is.stays)
    (inside-none bytes p x leaf site))
