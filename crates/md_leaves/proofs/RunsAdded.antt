-- The runs of a piece of a line, one after another.
use Rattle.std.proofs.Common.{◌≡◌, ℕ, ◌+◌, ◌<◌, Bool, true, false, cond, List, [], ◌∷◌, ◌++◌, take, drop, refl, sym}
use Rattle.std.proofs.Common.{◌∙◌, ap, arith, append_assoc, append-nil, get_or, length, not, subst, suc}
use Rattle.std.specs.Prelude.{◌==◌}
use Rattle.std.specs.List.{prefix_len}
use Rattle.std.proofs.lemmas.Bool.{eqb-true}
use Rattle.md_engine.specs.declared.event.Event.{Event}
use Rattle.md_engine.specs.declared.event.Name.{Name}
use Rattle.md_engine.specs.declared.event.Name.TheVariants.{HeadingAtxSequence, SpaceOrTab}
use Rattle.md_engine.specs.declared.event.Point.{Point}
use Rattle.md_leaves.specs.HeadingRuns.{Apart, Hashes, Run, White, begun, closes, is_continued, line_runs, opens}
use Rattle.md_meaning.specs.Rest.{is_white}
use Rattle.md_events.specs.Events.Nested.{pair}
use Rattle.md_events.specs.Events.Places.{past_byte, past_text}

-- a run continues to where it ends, and after it are the runs of the rest
run-left : (run : Run) (bs : List ℕ) (p : Point) →
    let n = prefix_len (is_continued run) bs in
    line_runs run bs p ≡
    closes run (past_text (take n bs) p) ++ line_runs Apart (drop n bs) (past_text (take n bs) p)
run-left run [] p = sym (append-nil (closes run p))
run-left run (b ∷ bs) p = go (is_continued run b) refl (run-left run bs (past_byte b p))
  where
    n : ℕ
    n = prefix_len (is_continued run) bs

    go : (x : Bool) → is_continued run b ≡ x →
        line_runs run bs (past_byte b p) ≡
        closes run (past_text (take n bs) (past_byte b p))
        ++ line_runs Apart (drop n bs) (past_text (take n bs) (past_byte b p)) →
        line_runs run (b ∷ bs) p ≡
        closes run (past_text (take (prefix_len (is_continued run) (b ∷ bs)) (b ∷ bs)) p)
        ++ line_runs Apart (drop (prefix_len (is_continued run) (b ∷ bs)) (b ∷ bs))
        (past_text (take (prefix_len (is_continued run) (b ∷ bs)) (b ∷ bs)) p)
    go true e more =
        let one : 1 + n ≡ suc n = omega arith in
        rw (e, one) more
    go false e more =
        rw e (append_assoc (closes run p) (opens (begun b) p) (line_runs (begun b) bs (past_byte b p)))

-- a run has its first byte
pub begun-first : (b : ℕ) → is_continued (begun b) b ≡ true
begun-first b = go (is_white b) refl
  where
    go : (x : Bool) → is_white b ≡ x → is_continued (cond x White Hashes) b ≡ true
    go true e = e
    go false e = ap not e

-- the first run of a piece, and those after it
pub run-first : (b : ℕ) (bs : List ℕ) (p : Point) →
    let n = prefix_len (is_continued (begun b)) (b ∷ bs) in
    let q = past_text (take n (b ∷ bs)) p in
    line_runs Apart (b ∷ bs) p ≡
    (opens (begun b) p ++ closes (begun b) q) ++ line_runs Apart (drop n (b ∷ bs)) q
run-first b bs p =
    let n = prefix_len (is_continued (begun b)) bs in
    let one : 1 + n ≡ suc n = omega arith in
    let q = past_text (take n bs) (past_byte b p) in
    rw (begun-first b, one)
    (ap (λ (es : List Event). opens (begun b) p ++ es) (run-left (begun b) bs (past_byte b p))
    ∙ sym (append_assoc (opens (begun b) p) (closes (begun b) q) (line_runs Apart (drop n bs) q)))

-- it is a part with the name of the run
pub run-part : (x : Bool) (p q : Point) →
    opens (cond x White Hashes) p ++ closes (cond x White Hashes) q ≡
    pair (cond x SpaceOrTab HeadingAtxSequence) p q
run-part true p q = refl
run-part false p q = refl

-- its first run is not empty,
pub run-some : (rest : List ℕ) (n : ℕ) → 0 < length rest → n ≡
    prefix_len (is_continued (begun (get_or rest 0 0))) rest →
    0 < n
run-some [] n lt is = absurd (omega (arith, lt))
run-some (b ∷ bs) n lt is =
    let some : prefix_len (is_continued (begun b)) (b ∷ bs) ≡ 1 + prefix_len (is_continued (begun b)) bs =
    rw (begun-first b) refl in
    omega (arith, is, some)

-- and a part with its name
pub run-next : (rest : List ℕ) (n : ℕ) (p : Point) → 0 < length rest →
    n ≡ prefix_len (is_continued (begun (get_or rest 0 0))) rest →
    let q = past_text (take n rest) p in
    line_runs Apart rest p ≡
    pair (cond (is_white (get_or rest 0 0)) SpaceOrTab HeadingAtxSequence) p q ++ line_runs Apart (drop n rest) q
run-next [] n p lt is = absurd (omega (arith, lt))
run-next (b ∷ bs) n p lt is =
    subst
    (λ (m : ℕ).
    let q = past_text (take m (b ∷ bs)) p in
    line_runs Apart (b ∷ bs) p ≡
    pair (cond (is_white b) SpaceOrTab HeadingAtxSequence) p q ++ line_runs Apart (drop m (b ∷ bs)) q)
    (sym is)
    (let m = prefix_len (is_continued (begun b)) (b ∷ bs) in
    let q = past_text (take m (b ∷ bs)) p in
    run-first b bs p
    ∙ ap (λ (es : List Event). es ++ line_runs Apart (drop m (b ∷ bs)) q) (run-part (is_white b) p q))

-- so it is, whatever these are called
pub run-parted : (rest front back : List ℕ) (n : ℕ) (white : Bool) (name : Name) (p q : Point) → 0 < length rest →
    white ≡ is_white (get_or rest 0 0) → n ≡ prefix_len (is_continued (cond white White Hashes)) rest →
    name ≡ cond white SpaceOrTab HeadingAtxSequence → front ≡ take n rest → back ≡ drop n rest →
    q ≡ past_text front p →
    line_runs Apart rest p ≡ pair name p q ++ line_runs Apart back q
run-parted rest front back n white name p q lt is_first is_long is_name is_front is_back end =
    let z = past_text (take n rest) p in
    run-next rest n p lt (is_long ∙ ap (λ (x : Bool). prefix_len (is_continued (cond x White Hashes)) rest) is_first)
    ∙ ap (λ (y : Name). pair y p z ++ line_runs Apart (drop n rest) z)
    (ap (λ (x : Bool). cond x SpaceOrTab HeadingAtxSequence) (sym is_first) ∙ sym is_name)
    ∙ ap (λ (r : Point). pair name p r ++ line_runs Apart (drop n rest) r)
    (sym (end ∙ ap (λ (l : List ℕ). past_text l p) is_front))
    ∙ ap (λ (l : List ℕ). pair name p q ++ line_runs Apart l q) (sym is_back)

-- and after the last nothing is
pub none-left : (rest : List ℕ) (p : Point) → (length rest == 0) ≡ true → line_runs Apart rest p ≡ []
none-left [] p e = refl
none-left (b ∷ bs) p e =
    let none : length (b ∷ bs) ≡ 0 = eqb-true (length (b ∷ bs)) 0 e in
    absurd (omega (arith, none))
