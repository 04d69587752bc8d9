-- One byte more of a line, and an ending.
use Rattle.std.proofs.Common.{◌≡◌, ℕ, zero, suc, ◌+◌, ◌-◌, ◌<◌, ◌≤◌, List, [], ◌∷◌, ◌++◌, length, take, drop}
use Rattle.std.proofs.Common.{refl, ap, sym, ◌∙◌, append_assoc, subst, arith}
use Rattle.std.proofs.lemmas.List.{append-nil, length-append}
use Rattle.md_engine.specs.declared.event.Event.{Event}
use Rattle.md_engine.specs.declared.event.Name.{Name}
use Rattle.md_engine.specs.declared.event.Name.TheVariants as n
use Rattle.md_engine.specs.declared.event.Point.{Point}
use Rattle.md_events.specs.Events.Inline.{pair_unless_empty}
use Rattle.md_events.specs.Events.Places.{past_byte, past_text}
use Rattle.md_events.proofs.InlineLemmas.{past_text-append}
use Rattle.md_inline_events.specs.Cursor.{first_back, first_front, marks_left, passed}
use Rattle.md_inline_events.specs.Marks.{Mark, back_events, back_from, closes_in, entered, exited, front_events}
use Rattle.md_inline_events.specs.Marks.{front_from, front_name, last_name, line_events, opens_in}
use Rattle.md_inline_events.specs.Marks.{Back, Front, begins, ends, passes, stays}
use Rattle.md_inline_events.specs.Woven.{Sides, as_feed, ending_events, read_side}
use Rattle.md_inline_events.specs.declared.token.Token.{Token}
use Rattle.md_inline_events.proofs.CursorLemmas.{no-pair}

abbrev no_marks : List Mark
no_marks = []

drop-none : (count : ℕ) → drop count no_marks ≡ no_marks
drop-none zero = refl
drop-none (suc count) = refl

take-none : (count : ℕ) → take count no_marks ≡ no_marks
take-none zero = refl
take-none (suc count) = refl

-- Where nothing is written before the first byte, that is written before the others.
front-split : (b : ℕ) (line : List ℕ) (ms : List Mark) (name : Name) (from at : Point) →
    line_events (b ∷ line) ms name from at ≡
    front_events (first_front ms) name from at
    ++ line_events (b ∷ line) (passed ms) (front_name (first_front ms) name) (front_from (first_front ms) from at) at
front-split b line [] name from at = refl
front-split b line (mark ∷ ms) name from at = refl

no-back : (count : ℕ) → first_back (drop count no_marks) ≡ stays
no-back count = ap first_back (drop-none count)

bare-line : (run following : List ℕ) (name : Name) (from at : Point) →
    line_events (run ++ following) [] name from at ≡ line_events following [] name from (past_text run at)
bare-line [] following name from at = refl
bare-line (b ∷ run) following name from at = bare-line run following name from (past_byte b at)

-- The bytes of a run are in one piece, or after all of them.
bare-events : (run following : List ℕ) (last : ℕ) (name : Name) (from at : Point) →
    line_events (run ++ following) no_marks name from at ≡
    back_events (first_back (drop last no_marks)) name from (past_text run at)
    ++ line_events following (drop (suc last) no_marks) name
    (back_from (first_back (drop last no_marks)) from (past_text run at)) (past_text run at)
bare-events run following last name from at =
    bare-line run following name from at
    ∙ ap (λ (k : Back). back_events k name from (past_text run at)
    ++ line_events following no_marks name (back_from k from (past_text run at)) (past_text run at))
    (sym (no-back last))

run-events : (left : ℕ) (ts : List Token) (run following : List ℕ) (last : ℕ) (name : Name) (from at : Point) →
    length run ≡ suc last → (left ≡ 0 → ts ≡ []) → (0 < left → suc last ≤ left) →
    line_events (run ++ following) (marks_left left ts) name from at ≡
    back_events (first_back (drop last (marks_left left ts))) name from (past_text run at)
    ++ line_events following (drop (suc last) (marks_left left ts)) name
    (back_from (first_back (drop last (marks_left left ts))) from (past_text run at)) (past_text run at)
run-events left ts [] following last name from at h none fits = absurd (omega (arith, h))
run-events zero ts (b ∷ run) following last name from at h none fits =
    subst
    (λ (l : List Token).
    line_events ((b ∷ run) ++ following) (marks_left 0 l) name from at ≡
    back_events (first_back (drop last (marks_left 0 l))) name from (past_text (b ∷ run) at)
    ++ line_events following (drop (suc last) (marks_left 0 l)) name
    (back_from (first_back (drop last (marks_left 0 l))) from (past_text (b ∷ run) at)) (past_text (b ∷ run) at))
    (sym (none refl)) (bare-events (b ∷ run) following last name from at)
run-events (suc left) ts (b ∷ []) following last name from at h none fits =
    let zero-last : 0 ≡ last = omega (arith, h) in
    subst
    (λ (k : ℕ).
    line_events (b ∷ following) (marks_left (suc left) ts) name from at ≡
    back_events (first_back (drop k (marks_left (suc left) ts))) name from (past_byte b at)
    ++ line_events following (drop (suc k) (marks_left (suc left) ts)) name
    (back_from (first_back (drop k (marks_left (suc left) ts))) from (past_byte b at)) (past_byte b at))
    zero-last (one left)
  where
    one : (left : ℕ) →
        line_events (b ∷ following) (marks_left (suc left) ts) name from at ≡
        back_events (first_back (marks_left (suc left) ts)) name from (past_byte b at)
        ++ line_events following (drop 1 (marks_left (suc left) ts)) name
        (back_from (first_back (marks_left (suc left) ts)) from (past_byte b at)) (past_byte b at)
    one zero = refl
    one (suc left) = refl
run-events (suc zero) ts (b ∷ c ∷ run) following last name from at h none fits =
    absurd (omega (arith, h, fits (omega arith)))
run-events (suc (suc left)) ts (b ∷ c ∷ run) following zero name from at h none fits = absurd (omega (arith, h))
run-events (suc (suc left)) ts (b ∷ c ∷ run) following (suc last) name from at h none fits =
    run-events (suc left) ts (c ∷ run) following last name from (past_byte b at) (omega (arith, h))
    (λ k. absurd (omega (arith, k))) (λ k. omega (arith, fits (omega arith)))

pub run_step : (left : ℕ) (ts : List Token) (run following rest : List ℕ) (count last : ℕ)
    (ms mid after : List Mark) (name here next_name : Name) (from at begun next to : Point)
    (old one two total : List Event) → rest ≡ run ++ following → count ≡ length run → 0 < count →
    last ≡ count - 1 → (left ≡ 0 → ts ≡ []) → (0 < left → count ≤ left) → mid ≡ marks_left left ts →
    one ≡ old ++ front_events (first_front ms) name from at → mid ≡ passed ms →
    here ≡ front_name (first_front ms) name → begun ≡ front_from (first_front ms) from at →
    two ≡ one ++ back_events (first_back (drop last mid)) here begun to → after ≡ drop count mid → next_name ≡ here →
    next ≡ back_from (first_back (drop last mid)) begun to → to ≡ past_text run at →
    old ++ line_events rest ms name from at ≡ total → two ++ line_events following after next_name next to ≡ total
run_step left ts [] following rest count last ms mid after name here next_name from at begun next to old one two total r
    k some la none fits mm o m h g w l s x t all =
    absurd (omega (arith, k, some))
run_step left ts (b ∷ run) following rest count last ms mid after name here next_name from at begun next to old one two
    total r k some la none fits mm o m h g w l s x t all =
    let size : length (b ∷ run) ≡ suc last = omega (arith, k, some, la) in
    let all_of : count ≡ suc last = omega (arith, some, la) in
    let front : List Event = front_events (first_front ms) name from at in
    let back : List Event = back_events (first_back (drop last mid)) here begun to in
    let line : List Event = line_events following after next_name next to in
    let same : line_events ((b ∷ run) ++ following) mid here begun at ≡ back ++ line =
    ap (λ (z : List Mark). line_events ((b ∷ run) ++ following) z here begun at) mm
    ∙ run-events left ts (b ∷ run) following last here begun at size none
    (λ z. omega (arith, all_of, fits z))
    ∙ rw (l, all_of, s, x, t, mm) refl in
    ap (λ (z : List Event). z ++ line) (w ∙ ap (λ (z : List Event). z ++ back) o)
    ∙ append_assoc (old ++ front) back line
    ∙ ap (λ (z : List Event). (old ++ front) ++ z) (sym same)
    ∙ append_assoc old front (line_events ((b ∷ run) ++ following) mid here begun at)
    ∙ ap (λ (z : List Event). old ++ z)
    (rw (m, h, g) (sym (front-split b (run ++ following) ms name from at)))
    ∙ ap (λ (z : List ℕ). old ++ line_events z ms name from at) (sym r)
    ∙ all

pub name_step : (count more : ℕ) (ms mid left : List Mark) (name here last : Name) → more ≡ suc count →
    mid ≡ passed ms → left ≡ drop 1 mid → here ≡ front_name (first_front ms) name → last ≡ here →
    last_name last (take count left) ≡ last_name name (take more ms)
name_step count more ms mid left name here last k m l h s =
    ap (λ (x : List Mark). last_name last (take count x)) (l ∙ ap (λ (x : List Mark). drop 1 x) m)
    ∙ ap (λ (x : Name). last_name x (take count (drop 1 (passed ms)))) (s ∙ h) ∙ go count ms
    ∙ ap (λ (c : ℕ). last_name name (take c ms)) (sym k)
  where
    go : (count : ℕ) (ms : List Mark) →
        last_name (front_name (first_front ms) name) (take count (drop 1 (passed ms))) ≡ last_name name (take (suc
        count) ms)
    go zero [] = refl
    go (suc count) [] = refl
    go count (mark ∷ ms) = refl

-- The same of so many bytes.

drops : (n k : ℕ) (ms : List Mark) → drop n (drop k ms) ≡ drop (k + n) ms
drops n zero ms = let e : n ≡ 0 + n = omega arith in ap (λ (z : ℕ). drop z ms) e
drops n (suc k) [] = drop-none n ∙ sym (drop-none (suc k + n))
drops n (suc k) (mark ∷ ms) =
    let e : suc (k + n) ≡ suc k + n = omega arith in
    drops n k ms ∙ ap (λ (z : ℕ). drop z (mark ∷ ms)) e

passed-drop : (count : ℕ) (ms : List Mark) → drop (suc count) (passed ms) ≡ drop (suc count) ms
passed-drop count [] = refl
passed-drop count (mark ∷ ms) = refl

pub run_marks : (run following rest : List ℕ) (count : ℕ) (ms mid after : List Mark) → rest ≡ run ++ following →
    count ≡ length run → 0 < count → mid ≡ passed ms → after ≡ drop count mid →
    drop (length following) after ≡ drop (length rest) ms
run_marks run following rest zero ms mid after r k some m l = absurd (omega (arith, some))
run_marks run following rest (suc count) ms mid after r k some m l =
    let sum : suc count + length following ≡ length rest =
    omega (arith, k, ap (λ (z : List ℕ). length z) r, length-append run following) in
    ap (λ (z : List Mark). drop (length following) z)
    (l ∙ ap (λ (z : List Mark). drop (suc count) z) m ∙ passed-drop count ms)
    ∙ drops (length following) (suc count) ms ∙ ap (λ (z : ℕ). drop z ms) sum

-- nothing begins within a run
names : (left : ℕ) (ts : List Token) (count more : ℕ) (name : Name) → (left ≡ 0 → ts ≡ []) → (0 < left → count ≤ left) →
    last_name name (take (count + more) (marks_left left ts)) ≡
    last_name name (take more (drop count (marks_left left ts)))
names left ts zero more name none fits =
    let e : 0 + more ≡ more = omega arith in ap (λ (z : ℕ). last_name name (take z (marks_left left ts))) e
names zero ts (suc count) more name none fits =
    subst
    (λ (l : List Token). last_name name (take (suc count + more) (marks_left 0 l)) ≡
    last_name name (take more (drop (suc count) (marks_left 0 l)))) (sym (none refl))
    (ap (λ (l : List Mark). last_name name l)
    (take-none (suc count + more) ∙ sym (ap (λ (l : List Mark). take more l) (drop-none (suc count)) ∙ take-none more)))
names (suc zero) ts (suc zero) more name none fits =
    let e : 1 + more ≡ suc more = omega arith in ap (λ (z : ℕ). last_name name (take z (marks_left 1 ts))) e
names (suc zero) ts (suc (suc count)) more name none fits = absurd (omega (arith, fits (omega arith)))
names (suc (suc left)) ts (suc count) more name none fits =
    let e : suc count + more ≡ suc (count + more) = omega arith in
    ap (λ (z : ℕ). last_name name (take z (marks_left (suc (suc left)) ts))) e
    ∙ names (suc left) ts count more name (λ k. absurd (omega (arith, k))) (λ k. omega (arith, fits (omega arith)))

front-name : (count : ℕ) (ms : List Mark) (name : Name) →
    last_name name (take (suc count) ms) ≡ last_name (front_name (first_front ms) name) (take (suc count) (passed ms))
front-name count [] name = refl
front-name count (mark ∷ ms) name = refl

pub run_name : (left : ℕ) (ts : List Token) (run following rest : List ℕ) (count : ℕ) (ms mid after : List Mark)
    (name here next_name : Name) → rest ≡ run ++ following → count ≡ length run → 0 < count →
    (left ≡ 0 → ts ≡ []) → (0 < left → count ≤ left) → mid ≡ marks_left left ts → mid ≡ passed ms →
    here ≡ front_name (first_front ms) name → after ≡ drop count mid → next_name ≡ here →
    last_name next_name (take (length following) after) ≡ last_name name (take (length rest) ms)
run_name left ts run following rest zero ms mid after name here next_name r k some none fits mm m h l s =
    absurd (omega (arith, some))
run_name left ts run following rest (suc count) ms mid after name here next_name r k some none fits mm m h l s =
    let sum : suc count + length following ≡ length rest =
    omega (arith, k, ap (λ (z : List ℕ). length z) r, length-append run following) in
    let whole : suc (count + length following) ≡ length rest = omega (arith, sum) in
    let part : suc count + length following ≡ suc (count + length following) = omega arith in
    ap (λ (z : Name). last_name z (take (length following) after)) s
    ∙ ap (λ (z : List Mark). last_name here (take (length following) z)) (l ∙ ap (λ (z : List Mark). drop (suc count)
    z) mm)
    ∙ sym (names left ts (suc count) (length following) here none fits)
    ∙ ap (λ (z : List Mark). last_name here (take (suc count + length following) z)) (sym mm ∙ m)
    ∙ ap (λ (z : ℕ). last_name here (take z (passed ms))) part
    ∙ ap (λ (z : Name). last_name z (take (suc (count + length following)) (passed ms))) h
    ∙ sym (front-name (count + length following) ms name)
    ∙ ap (λ (z : ℕ). last_name name (take z ms)) whole

pub run_point : (run following rest : List ℕ) (at to end : Point) → rest ≡ run ++ following → to ≡ past_text run at →
    past_text rest at ≡ end → past_text following to ≡ end
run_point run following rest at to end r t all =
    ap (λ (p : Point). past_text following p) t ∙ sym (past_text-append run following at)
    ∙ ap (λ (l : List ℕ). past_text l at) (sym r) ∙ all

-- An ending.

front-alone : (front : Front) (name : Name) (p : Point) → front_events front name p p ≡ entered (opens_in front) p
front-alone passes name p = refl
front-alone (begins opens first) name p = ap (λ (l : List Event). l ++ entered opens p) (no-pair name p)

back-alone : (back : Back) (name : Name) (p : Point) → back_events back name p p ≡ exited (closes_in back) p
back-alone stays name p = refl
back-alone (ends closes) name p = ap (λ (l : List Event). l ++ exited closes p) (no-pair name p)

ending-events : (b : ℕ) (ending : List ℕ) (ms : List Mark) (name : Name) (end after : Point) (old : List Event) →
    old ++ ending_events end after (b ∷ ending) ms ≡
    ((old ++ front_events (first_front ms) name end end) ++ pair_unless_empty n.LineEnding end after)
    ++ back_events (first_back (passed ms)) (front_name (first_front ms) name) after after
ending-events b ending [] name end after old =
    let pair : List Event = pair_unless_empty n.LineEnding end after in
    sym (append-nil ((old ++ []) ++ pair) ∙ ap (λ (l : List Event). l ++ pair) (append-nil old))
ending-events b ending (mark ∷ ms) name end after old =
    let pair : List Event = pair_unless_empty n.LineEnding end after in
    let opens : List Event = entered (opens_in mark.front) end in
    let closes : List Event = exited (closes_in mark.back) after in
    sym
    (ap (λ (l : List Event). ((old ++ l) ++ pair) ++ back_events mark.back (front_name mark.front name) after after)
    (front-alone mark.front name end)
    ∙ ap (λ (l : List Event). ((old ++ opens) ++ pair) ++ l) (back-alone mark.back (front_name mark.front name) after)
    ∙ append_assoc (old ++ opens) pair closes ∙ append_assoc old opens (pair ++ closes))

pub ending_step : (ending : List ℕ) (ms mid : List Mark) (name here : Name) (end after : Point)
    (old one two three : List Event) → 0 < length ending →
    one ≡ old ++ front_events (first_front ms) name end end → mid ≡ passed ms →
    here ≡ front_name (first_front ms) name → two ≡ one ++ pair_unless_empty n.LineEnding end after →
    three ≡ two ++ back_events (first_back mid) here after after →
    three ≡ old ++ ending_events end after ending ms
ending_step [] ms mid name here end after old one two three some o m h w t = absurd (omega (arith, some))
ending_step (b ∷ ending) ms mid name here end after old one two three some o m h w t =
    rw (t, w, o, h, m) (sym (ending-events b ending ms name end after old))

pub ending_name : (ending : List ℕ) (ms mid left : List Mark) (name here last : Name) → 0 < length ending →
    mid ≡ passed ms → left ≡ drop 1 mid → here ≡ front_name (first_front ms) name → last ≡ here →
    last ≡ last_name name (take (length (as_feed ending)) ms)
ending_name [] ms mid left name here last some m l h s = absurd (omega (arith, some))
ending_name (b ∷ ending) ms mid left name here last some m l h s =
    name_step 0 1 ms mid left name here last refl m l h s

-- A chunk.

pub drop-both : (xs ys : List ℕ) (ms : List Mark) → drop (length ys) (drop (length xs) ms) ≡ drop (length (xs ++ ys)) ms
drop-both [] ys ms = refl
drop-both (x ∷ xs) ys [] = drop-none (length ys)
drop-both (x ∷ xs) ys (m ∷ ms) = drop-both xs ys ms

last-both : (xs ys : List ℕ) (ms : List Mark) (name : Name) →
    last_name (last_name name (take (length xs) ms)) (take (length ys) (drop (length xs) ms)) ≡
    last_name name (take (length (xs ++ ys)) ms)
last-both [] ys ms name = refl
last-both (x ∷ xs) ys [] name = ap (λ (l : List Mark). last_name name l) (take-none (length ys))
last-both (x ∷ xs) ys (m ∷ ms) name = last-both xs ys ms (front_name m.front name)

pub side_name : (side : Sides) (ms mid : List Mark) (name here last : Name) → mid ≡ drop (length side.text) ms →
    here ≡ last_name name (take (length side.text) ms) →
    last ≡ last_name here (take (length (as_feed side.ending)) mid) →
    last ≡ last_name name (take (length (read_side side)) ms)
side_name side ms mid name here last m h l =
    l ∙ ap (λ (x : Name). last_name x (take (length (as_feed side.ending)) mid)) h
    ∙ ap (λ (x : List Mark). last_name (last_name name (take (length side.text) ms)) (take (length (as_feed
    side.ending)) x)) m
    ∙ last-both side.text (as_feed side.ending) ms name
