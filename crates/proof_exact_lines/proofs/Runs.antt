-- Runs of one marker and of whitespace: the runs of a line are those of its bytes, for thematic breaks and underlines
-- (CommonMark 4.1, 4.3).
use Rattle.std.proofs.Common.{◌≡◌, ℕ, zero, suc, ◌+◌, ◌-◌, ◌<◌, ◌≤◌, Bool, true, false, ◌||◌, List, [], ◌∷◌, ◌++◌}
use Rattle.std.proofs.Common.{length, take, drop, refl, sym, ap, ◌∙◌, subst, length-append, arith}
use Rattle.std.specs.Prelude.{◌==◌}
use Rattle.std.specs.List.{AllPass, list_all, prefix_len}
use Rattle.std.proofs.lemmas.Bool.{and_parts, eqb-true}
use Rattle.std.proofs.lemmas.List.{take-append-drop}
use Rattle.std.proofs.lemmas.List.Folds.{list_all-append}
use Rattle.md_engine.specs.declared.event.Event.{Event}
use Rattle.md_engine.specs.declared.event.Name.{Name}
use Rattle.md_engine.specs.declared.event.Name.TheVariants as n
use Rattle.md_engine.specs.declared.event.Point.{Point}
use Rattle.md_leaves.proofs.TitleRuns.{pass-first, pass-rest}
use Rattle.md_leaves.proofs.TitleTexts.{front-passes, front-stops}
use Rattle.md_meaning.specs.Bytes.{begins}
use Rattle.md_meaning.specs.Rest.{Rest, after_indent, is_white, run_len}
use Rattle.md_meaning.specs.Texts.{first_byte}
use Rattle.md_events.specs.Events.Nested.{enter, exit}
use Rattle.md_events.specs.Events.Places.{past_byte, past_text}
use Rattle.md_events.proofs.RestLines.{count-one}
use Rattle.proof_frame.specs.MarkRuns.{Apart, Marks, White, mark_runs}
use Rattle.proof_frame.specs.LineColumns.{part_over}
use Rattle.md_events.specs.Exact.Leaves.{runs, runs_line}
use Rattle.md_events.specs.Exact.Places.{TextLine, past}
use Rattle.proof_exact_lines.proofs.BeginsAt.{BeginsAt, rest_bytes}
use Rattle.proof_exact_lines.proofs.Parts.{IsAfter, Valid, piece-is, run-following, valid-bytes, three-joined}
use Rattle.proof_exact_lines.proofs.Parts.{white-following}

-- a marker, or whitespace
abbrev pub is_mark : ℕ → ℕ → Bool
is_mark m b = (b == m) || is_white b

abbrev pub AreMarks : ℕ → List ℕ → Type 0
AreMarks m bytes = list_all (is_mark m) bytes ≡ true

-- what is a mark and no whitespace is a marker
marker : (m b : ℕ) → is_mark m b ≡ true → is_white b ≡ false → (b == m) ≡ true
marker m b h e = go (b == m) (is_white b) h e
  where
    go : (x y : Bool) → (x || y) ≡ true → y ≡ false → x ≡ true
    go true y h e = refl
    go false y h e = cc

-- The next two runs of some bytes, of whitespace and of the marker, and what is left.
record NextRuns (m : ℕ) (bytes : List ℕ) : Type 0 where
  white : List ℕ
  marks : List ℕ
  more : List ℕ
  is : bytes ≡ white ++ (marks ++ more)
  white_is : AllPass is_white white
  marks_are : AllPass (λ (b : ℕ). b == m) marks
  apart : begins is_white (marks ++ more) ≡ false
  stops : begins (λ (b : ℕ). b == m) more ≡ false
  following : AreMarks m (marks ++ more)
  left : AreMarks m more
  some : marks ≡ [] → more ≡ []

-- a run of markers comes where anything is left
run-some : (m : ℕ) (bytes : List ℕ) → AreMarks m bytes → begins is_white bytes ≡ false →
    take (run_len m bytes) bytes ≡ [] → drop (run_len m bytes) bytes ≡ []
run-some m [] h e none = refl
run-some m (b ∷ bytes) h e none =
    let is : (b == m) ≡ true = marker m b (and_parts (is_mark m b) (list_all (is_mark m) bytes) h).0 e in
    let size : run_len m (b ∷ bytes) ≡ suc (run_len m bytes) = count-one (λ (x : ℕ). x == m) b bytes is in
    let none : b ∷ take (run_len m bytes) bytes ≡ [] =
    sym (ap (λ (k : ℕ). take k (b ∷ bytes)) size) ∙ none in
    cc

next-runs : (m : ℕ) (bytes : List ℕ) → AreMarks m bytes → NextRuns m bytes
next-runs m bytes h =
    let all : bytes ≡ white ++ (marks ++ more) =
    sym (take-append-drop w bytes) ∙ ap (λ (l : List ℕ). white ++ l) (sym whole) in
    let parts = and_parts (list_all (is_mark m) white) (list_all (is_mark m) (marks ++ more))
    (sym (list_all-append (is_mark m) white (marks ++ more)) ∙ ap (list_all (is_mark m)) (sym all) ∙ h) in
    let apart : begins is_white (marks ++ more) ≡ false = ap (begins is_white) whole ∙ front-stops is_white bytes in
    record {
      white = white;
      marks = marks;
      more = more;
      is = all;
      white_is = front-passes is_white bytes;
      marks_are = front-passes (λ (b : ℕ). b == m) following;
      apart = apart;
      stops = front-stops (λ (b : ℕ). b == m) following;
      following = parts.1;
      left =
          (and_parts (list_all (is_mark m) marks) (list_all (is_mark m) more)
          (sym (list_all-append (is_mark m) marks more) ∙ parts.1)).1;
      some =
          run-some m following (ap (list_all (is_mark m)) (sym whole) ∙ parts.1) (front-stops is_white bytes);
    }
  where
    w : ℕ
    w = prefix_len is_white bytes

    white : List ℕ
    white = take w bytes

    following : List ℕ
    following = drop w bytes

    marks : List ℕ
    marks = take (run_len m following) following

    more : List ℕ
    more = drop (run_len m following) following

    whole : marks ++ more ≡ following
    whole = take-append-drop (run_len m following) following

-- Their events.

-- whitespace is no marker
apart-white : (m b : ℕ) → is_white m ≡ false → is_white b ≡ true → (b == m) ≡ false
apart-white m b dark white = go (b == m) refl
  where
    go : (x : Bool) → (b == m) ≡ x → (b == m) ≡ false
    go true e = let same : is_white b ≡ is_white m = ap is_white (eqb-true b m e) in cc
    go false e = e

-- whitespace ends where a marker comes
white-left : (name : Name) (m : ℕ) (white rest : List ℕ) (p : Point) → is_white m ≡ false → AllPass is_white white →
    AreMarks m rest → begins is_white rest ≡ false →
    mark_runs name White m (white ++ rest) p ≡
    exit n.SpaceOrTab (past_text white p) ∷ mark_runs name Apart m rest (past_text white p)
white-left name m [] [] p dark w h e = refl
white-left name m [] (b ∷ rest) p dark w h e =
    let is : (b == m) ≡ true = marker m b (and_parts (is_mark m b) (list_all (is_mark m) rest) h).0 e in
    rw is refl
white-left name m (b ∷ white) rest p dark w h e =
    let here : is_white b ≡ true = pass-first is_white b white w in
    let other : (b == m) ≡ false = apart-white m b dark here in
    rw other (white-left name m white rest (past_byte b p) dark (pass-rest is_white b white w) h e)

-- markers end where whitespace comes
marks-left : (name : Name) (m : ℕ) (marks rest : List ℕ) (p : Point) → AllPass (λ (b : ℕ). b == m) marks →
    begins (λ (b : ℕ). b == m) rest ≡ false →
    mark_runs name Marks m (marks ++ rest) p ≡
    exit name (past_text marks p) ∷ mark_runs name Apart m rest (past_text marks p)
marks-left name m [] [] p h e = refl
marks-left name m [] (b ∷ rest) p h e = rw e refl
marks-left name m (b ∷ marks) rest p h e =
    let here : (b == m) ≡ true = pass-first (λ (x : ℕ). x == m) b marks h in
    rw here (marks-left name m marks rest (past_byte b p) (pass-rest (λ (x : ℕ). x == m) b marks h) e)

-- the next two runs, and what is left after them
next-marks : (name : Name) (m : ℕ) (marks more : List ℕ) (p : Point) → AllPass (λ (b : ℕ). b == m) marks →
    begins (λ (b : ℕ). b == m) more ≡ false →
    mark_runs name Apart m (marks ++ more) p ≡
    part_over name marks p (past_text marks p) ++ mark_runs name Apart m more (past_text marks p)
next-marks name m [] more p h e = refl
next-marks name m (b ∷ marks) more p h e =
    let here : (b == m) ≡ true = pass-first (λ (x : ℕ). x == m) b marks h in
    rw here
    (ap (λ (es : List Event). enter name p ∷ es)
    (marks-left name m marks more (past_byte b p) (pass-rest (λ (x : ℕ). x == m) b marks h) e))

next-white : (name : Name) (m : ℕ) (white rest : List ℕ) (p : Point) → is_white m ≡ false → AllPass is_white white →
    AreMarks m rest → begins is_white rest ≡ false →
    mark_runs name Apart m (white ++ rest) p ≡
    part_over n.SpaceOrTab white p (past_text white p) ++ mark_runs name Apart m rest (past_text white p)
next-white name m [] rest p dark w h e = refl
next-white name m (b ∷ white) rest p dark w h e =
    let other : (b == m) ≡ false = apart-white m b dark (pass-first is_white b white w) in
    rw other
    (ap (λ (es : List Event). enter n.SpaceOrTab p ∷ es)
    (white-left name m white rest (past_byte b p) dark (pass-rest is_white b white w) h e))

-- After the indent the marker comes first, if anything does.
first-marks : (m : ℕ) (bytes : List ℕ) → AreMarks m bytes → begins is_white bytes ≡ false →
    run_len (first_byte bytes) bytes ≡ run_len m bytes
first-marks m [] h e = refl
first-marks m (b ∷ bytes) h e =
    let is : (b == m) ≡ true = marker m b (and_parts (is_mark m b) (list_all (is_mark m) bytes) h).0 e in
    ap (λ (k : ℕ). run_len k (b ∷ bytes)) (eqb-true b m is)

-- The runs of a rest, where those of what is left after the next two are known.
runs-next : (name : Name) (m size : ℕ) (line : TextLine) (r : Rest) (p : Point) → BeginsAt line r p →
    is_white m ≡ false → AreMarks m (rest_bytes r) → length r.bytes ≤ suc size →
    ((s : Rest) (q : Point) (bytes : List ℕ) → Valid line bytes q s → AreMarks m bytes → length bytes ≤ size →
    runs size name line s ≡ mark_runs name Apart m bytes q) →
    runs (suc size) name line r ≡ mark_runs name Apart m (rest_bytes r) p
runs-next name m size line r p at dark h small further =
    three-joined
    (piece-is line n.SpaceOrTab r marks p x.white (x.marks ++ x.more) at x.is first)
    (piece-is line name marks after p1 x.marks x.more first.valid.at
    (valid-bytes line (x.marks ++ x.more) p1 marks first.valid) second)
    (further after p2 x.more second.valid x.left (fewer x.marks x.some below))
    ∙ ap (λ (es : List Event). part_over n.SpaceOrTab x.white p p1 ++ es)
    (sym (next-marks name m x.marks x.more p1 x.marks_are x.stops))
    ∙ sym (next-white name m x.white (x.marks ++ x.more) p dark x.white_is x.following x.apart)
    ∙ ap (λ (l : List ℕ). mark_runs name Apart m l p) (sym x.is)
  where
    x : NextRuns m (rest_bytes r)
    x = next-runs m (rest_bytes r) h

    marks : Rest
    marks = after_indent r

    after : Rest
    after = past (run_len (first_byte marks.bytes) marks.bytes) marks

    p1 : Point
    p1 = past_text x.white p

    p2 : Point
    p2 = past_text x.marks p1

    first : IsAfter line r x.white (x.marks ++ x.more) p marks
    first = white-following line r p x.white (x.marks ++ x.more) at x.is x.white_is x.apart

    size_is : run_len m marks.bytes ≡ run_len (first_byte marks.bytes) marks.bytes
    size_is =
        sym
        (first-marks m marks.bytes (ap (list_all (is_mark m)) first.valid.bytes_are ∙ x.following)
        (ap (begins is_white) first.valid.bytes_are ∙ x.apart))

    second : IsAfter line marks x.marks x.more p1 after
    second =
        subst (λ (k : ℕ). IsAfter line marks x.marks x.more p1 (past k marks)) size_is
        (run-following (λ (b : ℕ). b == m) line marks p1 x.marks x.more first.valid x.marks_are x.stops)

    below : length (x.marks ++ x.more) ≤ suc size
    below =
        let same : length marks.bytes ≡ length (x.marks ++ x.more) =
        ap (λ (l : List ℕ). length l) first.valid.bytes_are in
        omega (arith, same, first.fewer, small)

    fewer : (marks : List ℕ) → (marks ≡ [] → x.more ≡ []) → length (marks ++ x.more) ≤ suc size → length x.more ≤ size
    fewer [] some le = let none : length x.more ≡ 0 = ap (λ (l : List ℕ). length l) (some refl) in omega (arith, none)
    fewer (b ∷ marks) some le =
        let sum : length (marks ++ x.more) ≡ length marks + length x.more = length-append marks x.more in
        omega (arith, sum, le)

runs-all : (size : ℕ) (name : Name) (m : ℕ) (line : TextLine) (s : Rest) (q : Point) (bytes : List ℕ) →
    is_white m ≡ false → Valid line bytes q s → AreMarks m bytes → length bytes ≤ size →
    runs size name line s ≡ mark_runs name Apart m bytes q
runs-all zero name m line s q [] dark is h le = refl
runs-all zero name m line s q (b ∷ bytes) dark is h le = absurd (omega (arith, le))
runs-all (suc size) name m line s q bytes dark is h le =
    let same : rest_bytes s ≡ bytes = valid-bytes line bytes q s is in
    let long : length s.bytes ≡ length bytes = ap (λ (l : List ℕ). length l) is.bytes_are in
    runs-next name m size line s q is.at dark (ap (list_all (is_mark m)) same ∙ h) (omega (arith, long, le))
    (λ t u more valid marks less. runs-all size name m line t u more dark valid marks less)
    ∙ ap (λ (l : List ℕ). mark_runs name Apart m l q) same

-- The runs of a line that has more than what is left of a cut tab.
pub line-runs : (name : Name) (m : ℕ) (line : TextLine) (r : Rest) (p : Point) → BeginsAt line r p →
    is_white m ≡ false → AreMarks m (rest_bytes r) → 0 < length r.bytes →
    runs_line name line r ≡ mark_runs name Apart m (rest_bytes r) p
line-runs name m line r p at dark h some =
    let size : length r.bytes ≡ suc (length r.bytes - 1) = omega arith in
    ap (λ (k : ℕ). runs k name line r) size
    ∙ runs-next name m (length r.bytes - 1) line r p at dark h (omega arith)
    (λ t u more valid marks less. runs-all (length r.bytes - 1) name m line t u more dark valid marks less)
