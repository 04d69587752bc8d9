-- What is known of marks of a definition, each of which is a byte, and of whitespace in it.
use Rattle.std.proofs.Common.{◌≡◌, ◌≢◌, ◌<◌, inl, inr, ℕ, ◌-◌, Bool, true, false, cond, List, [], ◌∷◌, length, refl}
use Rattle.std.proofs.Common.{sym, subst, arith}
use Rattle.std.specs.Prelude.{IsTrue}
use Rattle.std.specs.List.{list_all}
use Rattle.std.proofs.lemmas.Bool.{and_from}
use Rattle.md_engine.specs.declared.event.Event.{Event}
use Rattle.md_engine.specs.declared.event.Name.{Name}
use Rattle.md_engine.specs.declared.event.Name.TheVariants as n
use Rattle.md_engine.specs.declared.event.Point.{Point}
use Rattle.md_meaning.specs.Rest.{is_blank}
use Rattle.md_events.specs.Events.Grammar.{Expression, following, inside, may_end}
use Rattle.md_events.specs.Events.Inline.{pair_unless_empty}
use Rattle.md_events.specs.Events.Nested.{pair}
use Rattle.md_events.specs.Events.Pieces.{is_valid_piece, may_cover}
use Rattle.md_events.specs.Events.Places.{at_or_before, same_place}
use Rattle.md_events.specs.Events.Spelled.{OpenLeaf, role}
use Rattle.md_events.proofs.EndingsLemmas.{AreOthers}
use Rattle.md_events.proofs.InlineLemmas.{before-text, same-refl}
use Rattle.md_events.proofs.PlacesLemmas.{apart-later}
use Rattle.md_events.proofs.SpelledLemmas.{Quiet}
use Rattle.md_outline.specs.Between.{is_between}
use Rattle.proof_frame.proofs.BetweenFacts.{between-before, between-following, blank-low, is_low, low-at}
use Rattle.proof_content_laws.proofs.Defined.Form.{IsByte, IsRun, IsWhite}
use Rattle.proof_frame.proofs.PartsFacts.{PartsFacts, parts-none, parts-pair}
use Rattle.proof_frame.proofs.IndentRemoved.Shown.{whole-clear}
use Rattle.proof_frame.proofs.PieceFacts.{Over, begins-cut, begins-whole, over-valid, span}
use Rattle.proof_frame.proofs.LeafLines.Lead.{LeadFacts, lead-none, lead-white}

-- Runs of a line.

pub some-long : (text : List ℕ) → text ≢ [] → 0 < length text
some-long [] some = absurd (some refl)
some-long (b ∷ text) some = omega arith

pub run-over : (bytes text : List ℕ) (p q : Point) → 0 < length text → IsRun bytes text p q → Over bytes p q text
run-over bytes text p q some run = record {
  some = omega (arith, some, run.size);
  whole = run.whole;
  slice = run.slice;
}

pub run-order : (bytes text : List ℕ) (p q : Point) → IsRun bytes text p q → IsTrue (at_or_before p q)
run-order bytes text p q run = subst (λ (e : Point). IsTrue (at_or_before p e)) (sym run.end) (before-text text p)

-- places between characters beside a run of ASCII
pub run-before : (bytes text : List ℕ) (p q : Point) → 0 < length text → list_all is_low text ≡ true →
    IsRun bytes text p q → is_between bytes p.index ≡ true
run-before bytes text p q some low run =
    between-before bytes p.index
    (low-at bytes text p.index q.index p.index run.slice run.size low (omega arith) (omega (arith, some, run.size)))

pub run-following : (bytes text : List ℕ) (p q : Point) → 0 < length text → list_all is_low text ≡ true →
    IsRun bytes text p q → is_between bytes q.index ≡ true
run-following bytes text p q some low run =
    between-following bytes q.index
    (low-at bytes text p.index q.index (q.index - 1) run.slice run.size low (omega (arith, some, run.size))
    (omega (arith, some, run.size)))

-- Marks.

pub mark-valid : (bytes : List ℕ) (name : Name) (b : ℕ) (p q : Point) → IsByte bytes b p q →
    may_cover name (b ∷ []) ≡ true → is_valid_piece bytes (span name p q) ≡ true
mark-valid bytes name b p q is over =
    over-valid bytes name p q (b ∷ []) (run-over bytes (b ∷ []) p q (omega arith) is.1) (begins-whole name p is.0) over

pub mark-parts : (bytes : List ℕ) (name : Name) (b : ℕ) (p q : Point) (x : Expression) (leaf : OpenLeaf) →
    IsByte bytes b p q → Quiet (role name) → AreOthers (pair name p q) →
    ((text : Expression) → may_end (inside text name) ≡ true) → may_cover name (b ∷ []) ≡ true →
    PartsFacts bytes p q x (following name x) leaf leaf (pair name p q) (pair name p q)
mark-parts bytes name b p q x leaf is quiet others ends over =
    parts-pair bytes name p q x leaf quiet others ends (run-order bytes (b ∷ []) p q is.1)
    (mark-valid bytes name b p q is over)

-- they are of ASCII
pub mark-before : (bytes : List ℕ) (b : ℕ) (p q : Point) → IsByte bytes b p q → is_low b ≡ true →
    is_between bytes p.index ≡ true
mark-before bytes b p q is low = run-before bytes (b ∷ []) p q (omega arith) (and_from (is_low b) true low refl) is.1

pub mark-following : (bytes : List ℕ) (b : ℕ) (p q : Point) → IsByte bytes b p q → is_low b ≡ true →
    is_between bytes q.index ≡ true
mark-following bytes b p q is low = run-following bytes (b ∷ []) p q (omega arith)
    (and_from (is_low b) true low refl) is.1

-- Whitespace.

-- What holds of its events: of none where it is empty, else of those of whitespace.
pub white-by : (P : Bool → Point → List Event → Type 0) (bytes : List ℕ) (p q : Point) → IsWhite bytes p q →
    P true p [] →
    ((text : List ℕ) → 0 < length text → is_blank text ≡ true → IsRun bytes text p q →
    P false q (pair n.SpaceOrTab p q)) →
    P (same_place p q) q (pair_unless_empty n.SpaceOrTab p q)
white-by P bytes p q (inl same) none some =
    subst (λ (r : Point). P (same_place p r) r (pair_unless_empty n.SpaceOrTab p r)) same
    (subst (λ (b : Bool). P b p (cond b [] (pair n.SpaceOrTab p p))) (sym (same-refl p)) none)
white-by P bytes p q (inr is) none some =
    subst (λ (b : Bool). P b q (cond b [] (pair n.SpaceOrTab p q)))
    (sym (apart-later p q (run-over bytes is.0 p q (some-long is.0 is.1) is.3).some))
    (some is.0 (some-long is.0 is.1) is.2 is.3)

-- what is left of the grammar after it, by whether it is empty
abbrev pub white_left : Bool → Expression → Expression
white_left empty x = cond empty x (following n.SpaceOrTab x)

white-valid : (bytes text : List ℕ) (p q : Point) → 0 < length text → is_blank text ≡ true → IsRun bytes text p q →
    is_valid_piece bytes (span n.SpaceOrTab p q) ≡ true
white-valid bytes text p q some blank run =
    over-valid bytes n.SpaceOrTab p q text (run-over bytes text p q some run) (begins-cut n.SpaceOrTab p refl) blank

pub white-parts : (bytes : List ℕ) (p q : Point) (x : Expression) (leaf : OpenLeaf) → IsWhite bytes p q →
    PartsFacts bytes p q x (white_left (same_place p q) x) leaf leaf (pair_unless_empty n.SpaceOrTab p q)
    (pair_unless_empty n.SpaceOrTab p q)
white-parts bytes p q x leaf is =
    white-by (λ (b : Bool) (r : Point) (es : List Event). PartsFacts bytes p r x (white_left b x) leaf leaf es es) bytes
    p q is (parts-none bytes p x leaf)
    (λ text some blank run.
    parts-pair bytes n.SpaceOrTab p q x leaf tt refl (λ text. refl) (run-order bytes text p q run)
    (white-valid bytes text p q some blank run))

-- between characters it is so from its begin, and from its end
pub white-between : (bytes : List ℕ) (p q : Point) → IsWhite bytes p q → is_between bytes p.index ≡ true →
    is_between bytes q.index ≡ true
white-between bytes p q (inl same) h = subst (λ (r : Point). is_between bytes r.index ≡ true) same h
white-between bytes p q (inr is) h =
    run-following bytes is.0 p q (some-long is.0 is.1) (blank-low is.0 is.2) is.3

pub white-back : (bytes : List ℕ) (p q : Point) → IsWhite bytes p q → is_between bytes q.index ≡ true →
    is_between bytes p.index ≡ true
white-back bytes p q (inl same) h = subst (λ (r : Point). is_between bytes r.index ≡ true) (sym same) h
white-back bytes p q (inr is) h = run-before bytes is.0 p q (some-long is.0 is.1) (blank-low is.0 is.2) is.3

-- before the begin of a definition
pub white-lead : (bytes : List ℕ) (p q : Point) → IsWhite bytes p q →
    LeadFacts bytes p q (pair_unless_empty n.SpaceOrTab p q)
white-lead bytes p q is =
    white-by (λ (b : Bool) (r : Point) (es : List Event). LeadFacts bytes p r es) bytes p q is (lead-none bytes p)
    (λ text some blank run.
    lead-white bytes p q (run-order bytes text p q run) (white-valid bytes text p q some blank run)
    (white-between bytes p q is) (λ first. whole-clear bytes q run.whole))
