-- Runs of one marker and of whitespace: each is a piece over its bytes, and all of them are a stretch.
use Rattle.std.proofs.Common.{◌≡◌, ◌≢◌, ℕ, ◌<◌, Bool, true, false, ◌&&◌, ◌||◌, List, [], ◌∷◌, ◌++◌, length, drop}
use Rattle.std.proofs.Common.{refl, ap, sym, subst, ◌∙◌, append_assoc, arith}
use Rattle.std.specs.Prelude.{◌==◌, IsTrue, nat_le}
use Rattle.std.specs.List.{list_all}
use Rattle.std.proofs.lemmas.Bool.{and_from, eqb-true}
use Rattle.std.proofs.lemmas.Bool.Decides.{nat_tests}
use Rattle.std.proofs.lemmas.List.{length-append}
use Rattle.std.proofs.lemmas.List.Folds.{list_all-append}
use Rattle.md_engine.specs.declared.event.Name.{Name}
use Rattle.md_engine.specs.declared.event.Name.TheVariants as n
use Rattle.md_engine.specs.declared.event.Point.{Point}
use Rattle.md_outline.specs.Between.{is_between}
use Rattle.md_events.specs.Events.Nested.{enter, pair}
use Rattle.md_events.specs.Events.Pieces.{is_run, is_valid_piece, may_cover}
use Rattle.md_events.specs.Events.Places.{at_or_before, past_byte, past_text}
use Rattle.md_events.specs.Events.Spelled.{IsQuiet, Role}
use Rattle.md_meaning.specs.Rest.{is_white}
use Rattle.md_events.proofs.FeedLines.{drop-past}
use Rattle.md_events.proofs.InlineLemmas.{before-text, past-index, past_text-append}
use Rattle.md_events.proofs.PlacesLemmas.{at-next}
use Rattle.proof_frame.specs.MarkRuns.{Apart, Marks, Run, White, mark_runs}
use Rattle.proof_frame.proofs.BetweenFacts.{between-before, is_low, white-low}
use Rattle.proof_frame.proofs.SpanLemmas.{either}
use Rattle.proof_frame.proofs.PieceFacts.{CutsFirst, Over, Starts, begins-cut, begins-whole, over-front, over-valid}
use Rattle.proof_frame.proofs.PieceFacts.{span}
use Rattle.proof_frame.proofs.Stretch.{IsPiece, Stretch, stretch-append, stretch-none, stretch-pair, white-piece}

-- what a run is called
abbrev run_name : Name → Run → Name
run_name name Apart = name
run_name name Marks = name
run_name name White = n.SpaceOrTab

-- runs of some bytes begin with the begin of one
pub runs-start : (name : Name) (m b : ℕ) (bs : List ℕ) (p : Point) → Starts (mark_runs name Apart m (b ∷ bs) p)
runs-start name m b bs p = either Starts (b == m) _ _ refl refl

-- What they are over.

-- bytes of which each is the marker or whitespace
abbrev pub AreMarks : ℕ → List ℕ → Type 0
AreMarks m [] = Unit {0}
AreMarks m (b ∷ bs) = (((b == m) || is_white b) ≡ true) × AreMarks m bs

-- what a run may be over
abbrev pub IsMarker : Name → ℕ → Type 0
IsMarker name m = (ys : List ℕ) → 0 < length ys → list_all (λ b. b == m) ys ≡ true → may_cover name ys ≡ true

-- such bytes are a run of it
pub marker-run : (m c : ℕ) (ys : List ℕ) → 0 < length ys → list_all (λ b. b == m) ys ≡ true → (m == c) ≡ true →
    is_run 1 c ys ≡ true
marker-run m c ys some all e =
    and_from (nat_le 1 (length ys)) (list_all (λ b. b == c) ys) (grind (arith, nat_tests, some))
    (subst (λ (d : ℕ). list_all (λ b. b == d) ys ≡ true) (eqb-true m c e) all)

-- a byte of a run
abbrev is_continued : Run → ℕ → ℕ → Bool
is_continued Apart m b = false
is_continued Marks m b = b == m
is_continued White m b = is_white b

-- whether a run may begin within a tab
abbrev may_cut : Run → Bool
may_cut White = true
may_cut _ = false

-- A run that has begun at a point, up to another one, with what is left after it.
record Begun (bytes : List ℕ) (run : Run) (m : ℕ) (p q : Point) (ys rest : List ℕ) : Type 0 where
  text : drop p.index bytes ≡ ys ++ rest
  some : 0 < length ys
  all : list_all (is_continued run m) ys ≡ true
  end : q ≡ past_text ys p
  cut : ((p.vs == 0) || may_cut run) ≡ true

-- it begins with a byte
begun-first : (bytes : List ℕ) (run : Run) (m : ℕ) (p : Point) (b : ℕ) (rest : List ℕ) → drop p.index bytes ≡ b ∷ rest →
    is_continued run m b ≡ true → ((p.vs == 0) || may_cut run) ≡ true →
    Begun bytes run m p (past_byte b p) (b ∷ []) rest
begun-first bytes run m p b rest e h cut = record {
  text = e;
  some = omega arith;
  all = and_from (is_continued run m b) true h refl;
  end = refl;
  cut = cut;
}

-- and continues with another
begun-next : (bytes : List ℕ) (run : Run) (m : ℕ) (p q : Point) (ys : List ℕ) (b : ℕ) (rest : List ℕ) →
    Begun bytes run m p q ys (b ∷ rest) → is_continued run m b ≡ true →
    Begun bytes run m p (past_byte b q) (ys ++ b ∷ []) rest
begun-next bytes run m p q ys b rest h on = record {
  text = h.text ∙ sym (append_assoc ys (b ∷ []) rest);
  some = let size = length-append ys (b ∷ []) in let some = h.some in omega arith;
  all =
      list_all-append (is_continued run m) ys (b ∷ [])
      ∙ and_from (list_all (is_continued run m) ys) (is_continued run m b && true) h.all
      (and_from (is_continued run m b) true on refl);
  end = ap (past_byte b) h.end ∙ sym (past_text-append ys (b ∷ []) p);
  cut = h.cut;
}

-- what follows it
begun-left : (bytes : List ℕ) (run : Run) (m : ℕ) (p q : Point) (ys rest : List ℕ) → Begun bytes run m p q ys rest →
    drop q.index bytes ≡ rest
begun-left bytes run m p q ys rest h =
    ap (λ (i : ℕ). drop i bytes) (ap (λ (r : Point). r.index) h.end ∙ past-index ys p)
    ∙ drop-past bytes p.index ys rest h.text

-- what it is over
begun-over : (bytes : List ℕ) (run : Run) (m : ℕ) (p q : Point) (ys rest : List ℕ) → Begun bytes run m p q ys rest →
    Over bytes p q ys
begun-over bytes run m p q ys rest h = over-front bytes p q ys rest h.text h.some h.end

-- it ends no earlier than it begins
begun-order : (bytes : List ℕ) (run : Run) (m : ℕ) (p q : Point) (ys rest : List ℕ) → Begun bytes run m p q ys rest →
    IsTrue (at_or_before p q)
begun-order bytes run m p q ys rest h =
    subst (λ (e : Point). IsTrue (at_or_before p e)) (sym h.end) (before-text ys p)

-- its piece
begun-marks : (bytes : List ℕ) (name : Name) (m : ℕ) (p q : Point) (ys rest : List ℕ) → IsMarker name m →
    Begun bytes Marks m p q ys rest → is_valid_piece bytes (span name p q) ≡ true
begun-marks bytes name m p q ys rest is h =
    over-valid bytes name p q ys (begun-over bytes Marks m p q ys rest h)
    (begins-whole name p (whole (p.vs == 0) refl h.cut)) (is ys h.some h.all)
  where
    whole : (x : Bool) → (p.vs == 0) ≡ x → (x || false) ≡ true → p.vs ≡ 0
    whole true e h = eqb-true p.vs 0 e
    whole false e h = cc

-- the piece of whitespace
begun-white : (bytes : List ℕ) (m : ℕ) (p q : Point) (ys rest : List ℕ) → Begun bytes White m p q ys rest →
    is_valid_piece bytes (span n.SpaceOrTab p q) ≡ true
begun-white bytes m p q ys rest h =
    over-valid bytes n.SpaceOrTab p q ys (begun-over bytes White m p q ys rest h) h.cut h.all

-- the other run
pub other-run : (m b : ℕ) → ((b == m) || is_white b) ≡ true → (b == m) ≡ false → is_white b ≡ true
other-run m b h e = go (b == m) h e
  where
    go : (x : Bool) → (x || is_white b) ≡ true → x ≡ false → is_white b ≡ true
    go true h e = cc
    go false h e = h

-- Runs that may be in a text, where the role of each event is of this kind.
pub record AreRuns (R : Role → Type 0) (bytes : List ℕ) (name : Name) (m : ℕ) : Type 0 where
  pub marker : IsMarker name m
  pub dark : is_white m ≡ false
  pub low : is_low m ≡ true
  pub marks : IsPiece R bytes name
  pub white : R IsQuiet

-- a run that has begun, as a stretch: its pair
begun-stretch : (R : Role → Type 0) (bytes : List ℕ) (name : Name) (run : Run) (m : ℕ) (p q : Point)
    (ys rest : List ℕ) →
    AreRuns R bytes name m → run ≢ Apart → Begun bytes run m p q ys rest →
    Stretch R bytes p q (pair (run_name name run) p q) (pair (run_name name run) p q)
begun-stretch R bytes name Apart m p q ys rest is ok h = absurd (ok refl)
begun-stretch R bytes name Marks m p q ys rest is ok h =
    stretch-pair R bytes name p q is.marks (begun-order bytes Marks m p q ys rest h)
    (begun-marks bytes name m p q ys rest is.marker h)
begun-stretch R bytes name White m p q ys rest is ok h =
    stretch-pair R bytes n.SpaceOrTab p q (white-piece R bytes is.white)
    (begun-order bytes White m p q ys rest h) (begun-white bytes m p q ys rest h)

-- before a byte of a run is a place between characters
low-before : (bytes : List ℕ) (m b : ℕ) (q : Point) (rest : List ℕ) → is_low m ≡ true →
    ((b == m) || is_white b) ≡ true → drop q.index bytes ≡ b ∷ rest → is_between bytes q.index ≡ true
low-before bytes m b q rest low mark text =
    between-before bytes q.index
    (subst (λ (c : ℕ). is_low c ≡ true) (sym (at-next q.index bytes b rest text)) (go (b == m) refl mark))
  where
    go : (x : Bool) → (b == m) ≡ x → (x || is_white b) ≡ true → is_low b ≡ true
    go true e h = subst (λ (c : ℕ). is_low c ≡ true) (sym (eqb-true b m e)) low
    go false e h = white-low b h

-- What is left of the runs, after the begin of one, with this begin.
abbrev Left : (Role → Type 0) → List ℕ → Name → Run → ℕ → List ℕ → Point → Point → Type 0
Left R bytes name run m xs p q =
    Stretch R bytes p (past_text xs q) (enter (run_name name run) p ∷ mark_runs name run m xs q)
    (enter (run_name name run) p ∷ mark_runs name run m xs q)

-- so it is in each run
runs-left : (R : Role → Type 0) (bytes : List ℕ) (name : Name) (run : Run) (m : ℕ) (xs rest ys : List ℕ)
    (p q : Point) →
    AreRuns R bytes name m → run ≢ Apart → AreMarks m xs → Begun bytes run m p q ys (xs ++ rest) →
    Left R bytes name run m xs p q
runs-left R bytes name Apart m xs rest ys p q is ok marks h = absurd (ok refl)
runs-left R bytes name Marks m [] rest ys p q is ok marks h =
    begun-stretch R bytes name Marks m p q ys rest is ok h
runs-left R bytes name White m [] rest ys p q is ok marks h =
    begun-stretch R bytes name White m p q ys rest is ok h
runs-left R bytes name Marks m (b ∷ xs) rest ys p q is ok marks h =
    go (b == m) refl (λ k. runs-left R bytes name Marks m xs rest (ys ++ b ∷ []) p (past_byte b q) is ok marks.1 k)
    (λ k. runs-left R bytes name White m xs rest (b ∷ []) q (past_byte b q) is (λ e. cc) marks.1 k)
  where
    left : drop q.index bytes ≡ b ∷ xs ++ rest
    left = begun-left bytes Marks m p q ys (b ∷ xs ++ rest) h

    go : (x : Bool) → (b == m) ≡ x →
        (Begun bytes Marks m p (past_byte b q) (ys ++ b ∷ []) (xs ++ rest) →
        Left R bytes name Marks m xs p (past_byte b q)) →
        (Begun bytes White m q (past_byte b q) (b ∷ []) (xs ++ rest) → Left R bytes name White m xs q (past_byte b q)) →
        Left R bytes name Marks m (b ∷ xs) p q
    go true e same next = rw e (same (begun-next bytes Marks m p q ys b (xs ++ rest) h e))
    go false e same next =
        let over : Over bytes p q ys = begun-over bytes Marks m p q ys (b ∷ xs ++ rest) h in
        rw e
        (stretch-append (begun-stretch R bytes name Marks m p q ys (b ∷ xs ++ rest) is ok h)
        (next
        (begun-first bytes White m q b (xs ++ rest) left (other-run m b marks.0 e)
        (begins-whole n.SpaceOrTab q over.whole)))
        (λ first last. low-before bytes m b q (xs ++ rest) is.low marks.0 left))
runs-left R bytes name White m (b ∷ xs) rest ys p q is ok marks h =
    go (b == m) refl (λ k. runs-left R bytes name White m xs rest (ys ++ b ∷ []) p (past_byte b q) is ok marks.1 k)
    (λ k. runs-left R bytes name Marks m xs rest (b ∷ []) q (past_byte b q) is (λ e. cc) marks.1 k)
  where
    left : drop q.index bytes ≡ b ∷ xs ++ rest
    left = begun-left bytes White m p q ys (b ∷ xs ++ rest) h

    go : (x : Bool) → (b == m) ≡ x →
        (Begun bytes White m p (past_byte b q) (ys ++ b ∷ []) (xs ++ rest) →
        Left R bytes name White m xs p (past_byte b q)) →
        (Begun bytes Marks m q (past_byte b q) (b ∷ []) (xs ++ rest) → Left R bytes name Marks m xs q (past_byte b q)) →
        Left R bytes name White m (b ∷ xs) p q
    go true e same next =
        let over : Over bytes p q ys = begun-over bytes White m p q ys (b ∷ xs ++ rest) h in
        rw e
        (stretch-append (begun-stretch R bytes name White m p q ys (b ∷ xs ++ rest) is ok h)
        (next (begun-first bytes Marks m q b (xs ++ rest) left e (ap (λ (x : ℕ). (x == 0) || false) over.whole)))
        (λ first last. low-before bytes m b q (xs ++ rest) is.low marks.0 left))
    go false e same next = rw e (same (begun-next bytes White m p q ys b (xs ++ rest) h (other-run m b marks.0 e)))

-- where a byte is the marker no tab is cut
marker-whole : (p : Point) (m b : ℕ) → is_white m ≡ false → (b == m) ≡ true → ((p.vs == 0) || (b == 9)) ≡ true →
    ((p.vs == 0) || false) ≡ true
marker-whole p m b apart e cut = grind (arith, nat_tests)

-- All runs of some bytes are a stretch.
pub runs-stretch : (R : Role → Type 0) (bytes : List ℕ) (name : Name) (m : ℕ) (xs rest : List ℕ) (p : Point) →
    AreRuns R bytes name m → AreMarks m xs → drop p.index bytes ≡ xs ++ rest → CutsFirst p xs →
    Stretch R bytes p (past_text xs p) (mark_runs name Apart m xs p) (mark_runs name Apart m xs p)
runs-stretch R bytes name m [] rest p is marks e cut = stretch-none R bytes p
runs-stretch R bytes name m (b ∷ xs) rest p is marks e cut = go (b == m) refl
  where
    go : (x : Bool) → (b == m) ≡ x →
        Stretch R bytes p (past_text (b ∷ xs) p) (mark_runs name Apart m (b ∷ xs) p)
        (mark_runs name Apart m (b ∷ xs) p)
    go true k =
        rw k
        (runs-left R bytes name Marks m xs rest (b ∷ []) p (past_byte b p) is (λ h. cc) marks.1
        (begun-first bytes Marks m p b (xs ++ rest) e k (marker-whole p m b is.dark k cut)))
    go false k =
        rw k
        (runs-left R bytes name White m xs rest (b ∷ []) p (past_byte b p) is (λ h. cc) marks.1
        (begun-first bytes White m p b (xs ++ rest) e (other-run m b marks.0 k) (begins-cut n.SpaceOrTab p refl)))
