-- A line with one run of markers, and whitespace before it and after.
use Rattle.std.proofs.Common.{◌≡◌, ℕ, ◌<◌, Bool, true, false, ◌||◌, List, [], ◌∷◌, ◌++◌, length, drop}
use Rattle.std.proofs.Common.{slice_range, refl, ap, sym, subst, ◌∙◌, append_assoc, arith}
use Rattle.std.specs.Prelude.{◌==◌}
use Rattle.std.specs.List.{list_all}
use Rattle.std.proofs.lemmas.Bool.{and_parts, eqb-true, or_left, or_parts, or_right}
use Rattle.md_engine.specs.declared.event.Event.{Event}
use Rattle.md_engine.specs.declared.event.Name.{Name}
use Rattle.md_engine.specs.declared.event.Name.TheVariants as n
use Rattle.md_engine.specs.declared.event.Point.{Point}
use Rattle.md_meaning.specs.Rest.{is_blank, is_white}
use Rattle.md_meaning.specs.Texts.{first_byte}
use Rattle.md_events.specs.Events.Nested.{enter, exit, pair}
use Rattle.md_events.specs.Events.Places.{past_byte, past_text}
use Rattle.md_events.proofs.FeedLines.{drop-past, slice-front}
use Rattle.md_events.proofs.InlineLemmas.{past-index}
use Rattle.proof_frame.specs.MarkRuns.{Apart, Marks, White, mark_runs}
use Rattle.proof_frame.specs.Row.{blank_line}
use Rattle.proof_frame.proofs.LineTexts.{past-whole}
use Rattle.proof_leaf_laws.proofs.MarkRuns.Cells.{white-other}
use Rattle.proof_frame.proofs.PieceFacts.{CutsFirst}
use Rattle.proof_frame.proofs.PieceRuns.{AreMarks}

-- The bytes of such a line, by the marker.
pub record HasRun (m : ℕ) (line : List ℕ) : Type 0 where
  pub front : List ℕ
  pub marks : List ℕ
  pub back : List ℕ
  pub is : line ≡ front ++ (marks ++ back)
  pub front_white : is_blank front ≡ true
  pub some : 0 < length marks
  pub all : list_all (λ b. b == m) marks ≡ true
  pub back_white : is_blank back ≡ true

-- where its markers begin
abbrev pub run_begin : (m : ℕ) (line : List ℕ) → HasRun m line → Point → Point
run_begin m line is p = past_text is.front p

-- where they end
abbrev pub run_end : (m : ℕ) (line : List ℕ) → HasRun m line → Point → Point
run_end m line is p = past_text is.marks (past_text is.front p)

-- What is in it: whitespace, the markers, whitespace.
abbrev pub run_parts : Name → List ℕ → List ℕ → List ℕ → Point → List Event
run_parts name front marks back p =
    let a = past_text front p in
    let b = past_text marks a in
    blank_line front p ++ (pair name a b ++ blank_line back b)

-- whitespace continues over whitespace
white-more : (name : Name) (m : ℕ) (xs bs : List ℕ) (p : Point) → is_white m ≡ false → is_blank xs ≡ true →
    mark_runs name White m (xs ++ bs) p ≡ mark_runs name White m bs (past_text xs p)
white-more name m [] bs p dark white = refl
white-more name m (b ∷ xs) bs p dark white =
    let both = and_parts (is_white b) (is_blank xs) white in
    rw (white-other b m both.0 dark) (white-more name m xs bs (past_byte b p) dark both.1)

-- and ends with the line
white-ends : (name : Name) (m : ℕ) (xs : List ℕ) (p : Point) → is_white m ≡ false → is_blank xs ≡ true →
    mark_runs name White m xs p ≡ exit n.SpaceOrTab (past_text xs p) ∷ []
white-ends name m [] p dark white = refl
white-ends name m (b ∷ xs) p dark white =
    let both = and_parts (is_white b) (is_blank xs) white in
    rw (white-other b m both.0 dark) (white-ends name m xs (past_byte b p) dark both.1)

-- markers continue over markers
marks-more : (name : Name) (m : ℕ) (xs bs : List ℕ) (p : Point) → list_all (λ b. b == m) xs ≡ true →
    mark_runs name Marks m (xs ++ bs) p ≡ mark_runs name Marks m bs (past_text xs p)
marks-more name m [] bs p all = refl
marks-more name m (b ∷ xs) bs p all =
    let both = and_parts (b == m) (list_all (λ b. b == m) xs) all in
    rw both.0 (marks-more name m xs bs (past_byte b p) both.1)

-- and end before whitespace
marks-end : (name : Name) (m : ℕ) (xs : List ℕ) (p : Point) → is_white m ≡ false → is_blank xs ≡ true →
    mark_runs name Marks m xs p ≡ exit name p ∷ blank_line xs p
marks-end name m [] p dark white = refl
marks-end name m (b ∷ xs) p dark white =
    let both = and_parts (is_white b) (is_blank xs) white in
    rw (white-other b m both.0 dark)
    (ap (λ (es : List Event). exit name p ∷ enter n.SpaceOrTab p ∷ es)
    (white-ends name m xs (past_byte b p) dark both.1))

-- the markers, and what follows them
marks-are : (name : Name) (m : ℕ) (marks back : List ℕ) (p : Point) → is_white m ≡ false →
    list_all (λ b. b == m) marks ≡ true → is_blank back ≡ true →
    mark_runs name Marks m (marks ++ back) p ≡ exit name (past_text marks p) ∷ blank_line back (past_text marks p)
marks-are name m marks back p dark all white =
    marks-more name m marks back p all ∙ marks-end name m back (past_text marks p) dark white

-- from the first one on
first-marks : (name : Name) (m : ℕ) (marks back : List ℕ) (p : Point) → is_white m ≡ false → 0 < length marks →
    list_all (λ b. b == m) marks ≡ true → is_blank back ≡ true →
    mark_runs name Apart m (marks ++ back) p ≡
    pair name p (past_text marks p) ++ blank_line back (past_text marks p)
first-marks name m [] back p dark some all white = absurd (omega arith)
first-marks name m (b ∷ marks) back p dark some all white =
    let both = and_parts (b == m) (list_all (λ b. b == m) marks) all in
    rw both.0
    (ap (λ (es : List Event). enter name p ∷ es) (marks-are name m marks back (past_byte b p) dark both.1 white))

-- after whitespace
white-marks : (name : Name) (m : ℕ) (marks back : List ℕ) (p : Point) → is_white m ≡ false → 0 < length marks →
    list_all (λ b. b == m) marks ≡ true → is_blank back ≡ true →
    mark_runs name White m (marks ++ back) p ≡
    exit n.SpaceOrTab p ∷ pair name p (past_text marks p) ++ blank_line back (past_text marks p)
white-marks name m [] back p dark some all white = absurd (omega arith)
white-marks name m (b ∷ marks) back p dark some all white =
    let both = and_parts (b == m) (list_all (λ b. b == m) marks) all in
    rw both.0
    (ap (λ (es : List Event). exit n.SpaceOrTab p ∷ enter name p ∷ es)
    (marks-are name m marks back (past_byte b p) dark both.1 white))

-- the runs of the whole line
runs-parts : (name : Name) (m : ℕ) (front marks back : List ℕ) (p : Point) → is_white m ≡ false →
    is_blank front ≡ true → 0 < length marks → list_all (λ b. b == m) marks ≡ true → is_blank back ≡ true →
    mark_runs name Apart m (front ++ (marks ++ back)) p ≡ run_parts name front marks back p
runs-parts name m [] marks back p dark front some all white = first-marks name m marks back p dark some all white
runs-parts name m (b ∷ front) marks back p dark before some all white =
    let both = and_parts (is_white b) (is_blank front) before in
    rw (white-other b m both.0 dark)
    (ap (λ (es : List Event). enter n.SpaceOrTab p ∷ es)
    (white-more name m front (marks ++ back) (past_byte b p) dark both.1
    ∙ white-marks name m marks back (past_text front (past_byte b p)) dark some all white))

-- by what it has
pub runs-are : (name : Name) (m : ℕ) (line : List ℕ) (p : Point) → is_white m ≡ false → (is : HasRun m line) →
    mark_runs name Apart m line p ≡ run_parts name is.front is.marks is.back p
runs-are name m line p dark is =
    ap (λ (l : List ℕ). mark_runs name Apart m l p) is.is
    ∙ runs-parts name m is.front is.marks is.back p dark is.front_white is.some is.all is.back_white

-- Its markers.

-- they begin with the marker
pub run-first : (m : ℕ) (line : List ℕ) → (is : HasRun m line) → first_byte is.marks ≡ m
run-first m line is = go is.marks is.some is.all
  where
    go : (marks : List ℕ) → 0 < length marks → list_all (λ b. b == m) marks ≡ true → first_byte marks ≡ m
    go [] some all = absurd (omega arith)
    go (b ∷ marks) some all = eqb-true b m (and_parts (b == m) (list_all (λ b. b == m) marks) all).0

-- and are between their begin and their end
pub run-text : (bytes : List ℕ) (m : ℕ) (line : List ℕ) (p : Point) (rest : List ℕ) → (is : HasRun m line) →
    drop p.index bytes ≡ line ++ rest →
    slice_range bytes (run_begin m line is p).index (run_end m line is p).index ≡ is.marks
run-text bytes m line p rest is text =
    slice-front bytes a.index b.index is.marks (is.back ++ rest) (begin ∙ append_assoc is.marks is.back rest)
    (past-index is.marks a)
  where
    a : Point
    a = past_text is.front p

    b : Point
    b = past_text is.marks (past_text is.front p)

    whole : drop p.index bytes ≡ is.front ++ ((is.marks ++ is.back) ++ rest)
    whole =
        text ∙ ap (λ (l : List ℕ). l ++ rest) is.is ∙ append_assoc is.front (is.marks ++ is.back) rest

    begin : drop a.index bytes ≡ (is.marks ++ is.back) ++ rest
    begin =
        ap (λ (i : ℕ). drop i bytes) (past-index is.front p)
        ∙ drop-past bytes p.index is.front ((is.marks ++ is.back) ++ rest) whole

-- no tab is cut where they begin
pub run-whole : (m : ℕ) (line : List ℕ) (p : Point) → is_white m ≡ false → CutsFirst p line → (is : HasRun m line) →
    (run_begin m line is p).vs ≡ 0
run-whole m line p dark cut is = go is.front is.marks is.some is.all (subst (CutsFirst p) is.is cut)
  where
    tab : (b : ℕ) → (b == m) ≡ true → (b == 9) ≡ false
    tab b e = let white = ap is_white (eqb-true b m e) ∙ dark in (or_parts (b == 32) (b == 9) white).1

    here' : (x : Bool) → (p.vs == 0) ≡ x → (y : Bool) → y ≡ false → (x || y) ≡ true → p.vs ≡ 0
    here' true e y k h = eqb-true p.vs 0 e
    here' false e y k h = let bad = sym h ∙ k in cc

    go : (front marks : List ℕ) → 0 < length marks → list_all (λ b. b == m) marks ≡ true →
        CutsFirst p (front ++ (marks ++ is.back)) → (past_text front p).vs ≡ 0
    go (c ∷ front) marks some all cut = past-whole (c ∷ front) p (omega arith)
    go [] [] some all cut = absurd (omega arith)
    go [] (b ∷ marks) some all cut =
        here' (p.vs == 0) refl (b == 9) (tab b (and_parts (b == m) (list_all (λ b. b == m) marks) all).0) cut

-- Its bytes.

-- they are markers and whitespace
blank-marks : (m : ℕ) (bs : List ℕ) → is_blank bs ≡ true → AreMarks m bs
blank-marks m [] h = tt
blank-marks m (b ∷ bs) h =
    let both = and_parts (is_white b) (is_blank bs) h in
    (or_right (b == m) (is_white b) both.0, blank-marks m bs both.1)

-- so are markers
all-marks : (m : ℕ) (bs : List ℕ) → list_all (λ b. b == m) bs ≡ true → AreMarks m bs
all-marks m [] h = tt
all-marks m (b ∷ bs) h =
    let both = and_parts (b == m) (list_all (λ b. b == m) bs) h in
    (or_left (b == m) (is_white b) both.0, all-marks m bs both.1)

-- and both, one after the other
marks-append : (m : ℕ) (xs ys : List ℕ) → AreMarks m xs → AreMarks m ys → AreMarks m (xs ++ ys)
marks-append m [] ys h k = k
marks-append m (b ∷ xs) ys h k = (h.0, marks-append m xs ys h.1 k)

-- and the whole line
pub run-marks : (m : ℕ) (line : List ℕ) → HasRun m line → AreMarks m line
run-marks m line is =
    subst (AreMarks m) (sym is.is)
    (marks-append m is.front (is.marks ++ is.back) (blank-marks m is.front is.front_white)
    (marks-append m is.marks is.back (all-marks m is.marks is.all) (blank-marks m is.back is.back_white)))
