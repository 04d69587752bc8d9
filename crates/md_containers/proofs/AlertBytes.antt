-- The markers of alerts: no byte begins those of two kinds, and a marker is on the cells of a line where it is on its
-- bytes.
use Rattle.std.proofs.Common.{◌≡◌, ℕ, suc, ◌+◌, ◌-◌, ◌≤◌, Bool, true, false, cond, ◌&&◌, List, [], ◌∷◌, ◌++◌, length}
use Rattle.std.proofs.Common.{take, zero, ◌||◌, drop, Option, Some, None, refl, sym, ap, ap₂, ◌∙◌, subst, arith}
use Rattle.std.specs.Prelude.{◌==◌, nat_lt}
use Rattle.std.specs.Char.{to_ascii_lowercase}
use Rattle.std.specs.List.{list_all}
use Rattle.std.specs.Str.{bytes_eq, str_eq_ignore_ascii_case, str_to_ascii_lowercase}
use Rattle.std.proofs.lemmas.Bool.{and_parts, eqb-true, or_parts}
use Rattle.std.proofs.lemmas.Bool.Decides.{nat_tests}
use Rattle.md_engine.specs.declared.event.Point.{Point}
use Rattle.md_engine.specs.declared.tokenizer.Line.{Line}
use Rattle.md_engine.specs.Meaning.{Cell}
use Rattle.md_containers.specs.Quote.{name_of}
use Rattle.md_containers.specs.QuoteRule.{takes_bytes, takes_marker}
use Rattle.md_meaning.specs.Alert.{first_kind, has_marker, is_marked, kinds, marker_of}
use Rattle.md_meaning.specs.declared.alert.AlertKind.{AlertKind}
use Rattle.md_meaning.specs.declared.alert.AlertKind.TheVariants as its
use Rattle.md_meaning.specs.Rest.{is_blank, is_white, tab_columns}
use Rattle.md_meaning.proofs.TextsLemmas.{NoEnding}
use Rattle.md_events.specs.Ahead.{begins_white, point_after}
use Rattle.md_events.specs.Events.Places.{past_byte, past_text}
use Rattle.md_events.proofs.FeedLines.{Stops, byte-one, cell, columns_more, spread, tab_cells}
use Rattle.md_events.proofs.RestLines.{blank-spread}

-- The first kind that passes a test.

-- one that passes it alone
first-in : (test : AlertKind → Bool) (k : AlertKind) → ((j : AlertKind) → test j ≡ true → j ≡ k) → test k ≡ true →
    (before after : List AlertKind) → first_kind test (before ++ k ∷ after) ≡ Some k
first-in test k one is [] after = rw is refl
first-in test k one is (j ∷ before) after = go (test j) refl (first-in test k one is before after)
  where
    go : (x : Bool) → test j ≡ x → first_kind test (before ++ k ∷ after) ≡ Some k →
        cond x (Some j) (first_kind test (before ++ k ∷ after)) ≡ Some k
    go true e next = ap Some (one j e)
    go false e next = next

pub first-alone : (test : AlertKind → Bool) (k : AlertKind) → ((j : AlertKind) → test j ≡ true → j ≡ k) →
    test k ≡ true → first_kind test kinds ≡ Some k
first-alone test its.Note one is =
    first-in test its.Note one is [] (its.Tip ∷ its.Important ∷ its.Warning ∷ its.Caution ∷ [])
first-alone test its.Tip one is =
    first-in test its.Tip one is (its.Note ∷ []) (its.Important ∷ its.Warning ∷ its.Caution ∷ [])
first-alone test its.Important one is =
    first-in test its.Important one is (its.Note ∷ its.Tip ∷ []) (its.Warning ∷ its.Caution ∷ [])
first-alone test its.Warning one is =
    first-in test its.Warning one is (its.Note ∷ its.Tip ∷ its.Important ∷ []) (its.Caution ∷ [])
first-alone test its.Caution one is =
    first-in test its.Caution one is (its.Note ∷ its.Tip ∷ its.Important ∷ its.Warning ∷ []) []

-- where none passes it
none-in : (test : AlertKind → Bool) → ((j : AlertKind) → test j ≡ false) → (ks : List AlertKind) →
    first_kind test ks ≡ None
none-in test none [] = refl
none-in test none (k ∷ ks) = rw (none k) (none-in test none ks)

pub first-none : (test : AlertKind → Bool) → ((j : AlertKind) → test j ≡ false) → first_kind test kinds ≡ None
first-none test none = none-in test none kinds

-- of two tests that agree
same-in : (f g : AlertKind → Bool) → ((j : AlertKind) → f j ≡ g j) → (ks : List AlertKind) →
    first_kind f ks ≡ first_kind g ks
same-in f g same [] = refl
same-in f g same (k ∷ ks) = rw (same k, same-in f g same ks) refl

pub first-same : (f g : AlertKind → Bool) → ((j : AlertKind) → f j ≡ g j) → first_kind f kinds ≡ first_kind g kinds
first-same f g same = same-in f g same kinds

-- it passes it
pub first-passes : (test : AlertKind → Bool) (k : AlertKind) (ks : List AlertKind) → first_kind test ks ≡ Some k →
    test k ≡ true
first-passes test k [] e = cc
first-passes test k (j ∷ ks) e = go (test j) refl e (first-passes test k ks)
  where
    go : (x : Bool) → test j ≡ x → cond x (Some j) (first_kind test ks) ≡ Some k →
        (first_kind test ks ≡ Some k → test k ≡ true) → test k ≡ true
    go true f is next = let same : j ≡ k = cc in subst (λ (i : AlertKind). test i ≡ true) same f
    go false f is next = next is

-- The letters.

-- the first letter of the name of a kind
abbrev pub letter_of : AlertKind → ℕ
letter_of its.Note = 110
letter_of its.Tip = 116
letter_of its.Important = 105
letter_of its.Warning = 119
letter_of its.Caution = 99

-- the kind with this first letter
abbrev pub of_letter : ℕ → Option AlertKind
of_letter b =
    cond (b == 110) (Some its.Note)
    (cond (b == 116) (Some its.Tip)
    (cond (b == 105) (Some its.Important)
    (cond (b == 119) (Some its.Warning) (cond (b == 99) (Some its.Caution) None))))

pub letter-kind : (k : AlertKind) → of_letter (letter_of k) ≡ Some k
letter-kind its.Note = refl
letter-kind its.Tip = refl
letter-kind its.Important = refl
letter-kind its.Warning = refl
letter-kind its.Caution = refl

-- no two kinds have the same
pub one-letter : (j k : AlertKind) → letter_of j ≡ letter_of k → j ≡ k
one-letter j k e = let same = sym (letter-kind j) ∙ ap of_letter e ∙ letter-kind k in cc

-- a marker is `[!`, this letter, and the rest of its name with `]`
abbrev pub tail_of : AlertKind → List ℕ
tail_of k = drop 1 (name_of (letter_of k)) ++ 93 ∷ []

pub marker-parts : (k : AlertKind) → str_to_ascii_lowercase (marker_of k) ≡ 91 ∷ 33 ∷ letter_of k ∷ tail_of k
marker-parts its.Note = refl
marker-parts _ = refl

pub marker-length : (k : AlertKind) → length (marker_of k) ≡ suc (suc (suc (length (tail_of k))))
marker-length its.Note = refl
marker-length _ = refl

-- in bytes, the letter is the third
abbrev third : List ℕ → ℕ
third (a ∷ b ∷ c ∷ bytes) = to_ascii_lowercase c
third bytes = 0

third-is : (x y z : ℕ) (ls : List ℕ) (n : ℕ) (bytes : List ℕ) →
    bytes_eq (x ∷ y ∷ z ∷ ls) (str_to_ascii_lowercase (take (suc (suc (suc n))) bytes)) ≡ true → third bytes ≡ z
third-is x y z ls n [] e = cc
third-is x y z ls n (a ∷ []) e = let bad = (and_parts (x == to_ascii_lowercase a) false e).1 in cc
third-is x y z ls n (a ∷ b ∷ []) e =
    let one = and_parts (x == to_ascii_lowercase a) (y == to_ascii_lowercase b && false) e in
    let bad = (and_parts (y == to_ascii_lowercase b) false one.1).1 in cc
third-is x y z ls n (a ∷ b ∷ c ∷ bytes) e =
    let one = and_parts (x == to_ascii_lowercase a) _ e in
    let two = and_parts (y == to_ascii_lowercase b) _ one.1 in
    let three = and_parts (z == to_ascii_lowercase c) _ two.1 in
    sym (eqb-true z (to_ascii_lowercase c) three.0)

bytes-letter : (k : AlertKind) (bytes : List ℕ) → has_marker k bytes ≡ true → third bytes ≡ letter_of k
bytes-letter k bytes e =
    third-is 91 33 (letter_of k) (tail_of k) (length (tail_of k)) bytes
    (ap₂ (λ (ls : List ℕ) (n : ℕ). bytes_eq ls (str_to_ascii_lowercase (take n bytes))) (sym (marker-parts k))
    (sym (marker-length k))
    ∙ e)

-- and in cells
pub cells-parts : (k : AlertKind) (cells : List Cell) →
    takes_marker k cells ≡ takes_bytes (91 ∷ 33 ∷ letter_of k ∷ tail_of k) cells
cells-parts k cells = ap (λ (ls : List ℕ). takes_bytes ls cells) (marker-parts k)

-- The kind of a marker.

-- that of the bytes of one
pub kind-alone : (k : AlertKind) (bytes : List ℕ) → has_marker k bytes ≡ true →
    first_kind (λ j. has_marker j bytes) kinds ≡ Some k
kind-alone k bytes is =
    first-alone (λ j. has_marker j bytes) k
    (λ j e. one-letter j k (sym (bytes-letter j bytes e) ∙ bytes-letter k bytes is)) is

-- `>` begins none
pub kind-quote : (bytes : List ℕ) → first_kind (λ j. has_marker j (62 ∷ bytes)) kinds ≡ None
kind-quote bytes = first-none (λ j. has_marker j (62 ∷ bytes)) none
  where
    none : (j : AlertKind) → has_marker j (62 ∷ bytes) ≡ false
    none its.Note = refl
    none _ = refl

-- A marker on the cells of bytes.

-- its bytes are neither whitespace nor an ending, in lower case as well
abbrev is_plain : ℕ → Bool
is_plain m = nat_lt 32 (to_ascii_lowercase m)

marker-plain : (k : AlertKind) → list_all is_plain (marker_of k) ≡ true
marker-plain its.Note = refl
marker-plain _ = refl

plain-other : (b n : ℕ) → b ≤ 32 → nat_lt 32 n ≡ true → (b == n) ≡ false
plain-other b n le e = grind (arith, nat_tests)

swap-eq : (a b : ℕ) → (a == b) ≡ (b == a)
swap-eq a b = go (a == b) refl
  where
    go : (x : Bool) → (a == b) ≡ x → x ≡ (b == a)
    go true e = grind (arith, nat_tests)
    go false e = grind (arith, nat_tests)

and-shift : (x y a b : Bool) → x ≡ y → (x && (a && b)) ≡ ((y && a) && b)
and-shift true y a b e = rw (← e) refl
and-shift false y a b e = rw (← e) refl

-- what follows a line is none
stop-none : (m : ℕ) (ls : List ℕ) (stop : List Cell) → is_plain m ≡ true → Stops stop →
    takes_bytes (to_ascii_lowercase m ∷ ls) stop ≡ false
stop-none m ls [] e k = refl
stop-none m ls (c ∷ cs) e k =
    let ten : c.byte ≡ 10 = eqb-true c.byte 10 k in
    rw (ten, plain-other 10 (to_ascii_lowercase m) (omega arith) e) refl

-- nor is a tab
tab-none : (line : Line) (m : ℕ) (ls : List ℕ) (n : ℕ) (p : Point) (more stop : List Cell) → is_plain m ≡ true →
    takes_bytes (to_ascii_lowercase m ∷ ls) ((tab_cells line n 9 p ++ more) ++ stop) ≡ false
tab-none line m ls zero p more stop e = rw (plain-other 9 (to_ascii_lowercase m) (omega arith) e) refl
tab-none line m ls (suc n) p more stop e = rw (plain-other 9 (to_ascii_lowercase m) (omega arith) e) refl

-- it is on the cells of a line where it is on its bytes
takes-spread : (line : Line) (ms bytes : List ℕ) (p : Point) (stop : List Cell) → list_all is_plain ms ≡ true →
    NoEnding bytes → Stops stop →
    takes_bytes (str_to_ascii_lowercase ms) (spread line bytes p ++ stop) ≡
    (str_eq_ignore_ascii_case ms (take (length ms) bytes) && is_blank (drop (length ms) bytes))
takes-spread line [] bytes p stop e h k = blank-spread line bytes p stop h k
takes-spread line (m ∷ ms) [] p stop e h k =
    stop-none m (str_to_ascii_lowercase ms) stop (and_parts (is_plain m) (list_all is_plain ms) e).0 k
takes-spread line (m ∷ ms) (b ∷ bs) p stop e h k =
    go (b == 9) refl (takes-spread line ms bs (past_byte b p) stop plain.1 h.1 k)
  where
    plain : (is_plain m ≡ true) × (list_all is_plain ms ≡ true)
    plain = and_parts (is_plain m) (list_all is_plain ms) e

    more : List Cell
    more = spread line bs (past_byte b p)

    ls : List ℕ
    ls = str_to_ascii_lowercase ms

    low : ℕ
    low = to_ascii_lowercase m

    same : Bool
    same = str_eq_ignore_ascii_case ms (take (length ms) bs)

    blank : Bool
    blank = is_blank (drop (length ms) bs)

    go : (t : Bool) → (b == 9) ≡ t → takes_bytes ls (more ++ stop) ≡ (same && blank) →
        takes_bytes (low ∷ ls)
        ((cond (b == 9) (tab_cells line (columns_more p) 9 p) (cell b (past_byte b p) line ∷ []) ++ more) ++ stop) ≡
        (((low == to_ascii_lowercase b) && same) && blank)
    go true f next =
        let tab : b ≡ 9 = eqb-true b 9 f in
        let none : (low == to_ascii_lowercase b) ≡ false =
        swap-eq low (to_ascii_lowercase b) ∙ ap (λ (x : ℕ). to_ascii_lowercase x == low) tab
        ∙ plain-other 9 low (omega arith) plain.0 in
        ap
        (λ (t : Bool).
        takes_bytes (low ∷ ls)
        ((cond t (tab_cells line (columns_more p) 9 p) (cell b (past_byte b p) line ∷ []) ++ more) ++ stop)) f
        ∙ tab-none line m ls (columns_more p) p more stop plain.0
        ∙ sym (ap (λ (t : Bool). (t && same) && blank) none)
    go false f next =
        ap
        (λ (t : Bool).
        takes_bytes (low ∷ ls)
        ((cond t (tab_cells line (columns_more p) 9 p) (cell b (past_byte b p) line ∷ []) ++ more) ++ stop)) f
        ∙ ap (λ (t : Bool). (to_ascii_lowercase b == low) && t) next
        ∙ and-shift (to_ascii_lowercase b == low) (low == to_ascii_lowercase b) same blank
        (swap-eq (to_ascii_lowercase b) low)

pub takes-marked : (k : AlertKind) (line : Line) (bytes : List ℕ) (p : Point) (stop : List Cell) → NoEnding bytes →
    Stops stop → takes_marker k (spread line bytes p ++ stop) ≡ is_marked k bytes
takes-marked k line bytes p stop h s = takes-spread line (marker_of k) bytes p stop (marker-plain k) h s

-- none is where whitespace is
pub white-unmarked : (k : AlertKind) (cells : List Cell) → begins_white cells ≡ true → takes_marker k cells ≡ false
white-unmarked k [] e = cc
white-unmarked k (c ∷ cs) e = cells-parts k (c ∷ cs) ∙ rw (dark c.byte e) refl
  where
    dark : (b : ℕ) → is_white b ≡ true → (to_ascii_lowercase b == 91) ≡ false
    dark b e = go (b == 32) refl (b == 9) refl e
      where
        go : (x : Bool) → (b == 32) ≡ x → (y : Bool) → (b == 9) ≡ y → (x || y) ≡ true →
            (to_ascii_lowercase b == 91) ≡ false
        go true f y g e = ap (λ (c : ℕ). to_ascii_lowercase c == 91) (eqb-true b 32 f)
        go false f true g e = ap (λ (c : ℕ). to_ascii_lowercase c == 91) (eqb-true b 9 g)
        go false f false g e = cc

-- After the marker: the cells of the bytes after it, and the point, so many columns further.
pub record Marked (line : Line) (bytes : List ℕ) (n : ℕ) (p : Point) (stop cells : List Cell) : Type 0 where
  pub left : drop n cells ≡ spread line (drop n bytes) (past_text (take n bytes) p) ++ stop
  pub point : point_after (take n cells) p ≡ past_text (take n bytes) p
  pub size : length (take n bytes) ≡ n
  pub column : (past_text (take n bytes) p).column ≡ p.column + n

marked-walk : (line : Line) (ms bytes : List ℕ) (p : Point) (stop : List Cell) → list_all is_plain ms ≡ true →
    str_eq_ignore_ascii_case ms (take (length ms) bytes) ≡ true → 1 ≤ p.column →
    Marked line bytes (length ms) p stop (spread line bytes p ++ stop)
marked-walk line [] bytes p stop e is one =
    record { left = refl; point = refl; size = refl; column = omega arith }
marked-walk line (m ∷ ms) [] p stop e is one = cc
marked-walk line (m ∷ ms) (b ∷ bs) p stop e is one =
    let plain = and_parts (is_plain m) (list_all is_plain ms) e in
    let low = to_ascii_lowercase m in
    let same = and_parts (low == to_ascii_lowercase b) (str_eq_ignore_ascii_case ms (take (length ms) bs)) is in
    let dark = not-white b (ap (λ (x : ℕ). nat_lt 32 x) (sym (eqb-true low (to_ascii_lowercase b) same.0)) ∙ plain.0) in
    let q = past_byte b p in
    let next : q.column ≡ p.column + 1 = ap
    (λ (t : Bool). cond t (p.column - 1 + tab_columns (p.column - 1)) (p.column - 1 + 1) + 1)
    (or_parts (b == 32) (b == 9) dark).1
    ∙ omega arith in
    let further = marked-walk line ms bs q stop plain.1 same.1 (omega (arith, next)) in
    let n = length ms in
    let cells : spread line (b ∷ bs) p ++ stop ≡ cell b q line ∷ spread line bs q ++ stop =
    ap (λ (l : List Cell). (l ++ spread line bs q) ++ stop) (byte-one line b p dark) in
    record {
      left = ap (drop (suc n)) cells ∙ further.left;
      point = ap (λ (l : List Cell). point_after (take (suc n) l) p) cells ∙ further.point;
      size = ap suc further.size;
      column = let c = further.column in omega (arith, c, next);
    }
  where
    not-white : (b : ℕ) → is_plain b ≡ true → is_white b ≡ false
    not-white b e = go (b == 32) refl (b == 9) refl
      where
        go : (x : Bool) → (b == 32) ≡ x → (y : Bool) → (b == 9) ≡ y → (x || y) ≡ false
        go true f y g = let is : is_plain 32 ≡ true = ap is_plain (sym (eqb-true b 32 f)) ∙ e in cc
        go false f true g = let is : is_plain 9 ≡ true = ap is_plain (sym (eqb-true b 9 g)) ∙ e in cc
        go false f false g = refl

pub marked-cells : (k : AlertKind) (line : Line) (bytes : List ℕ) (p : Point) (stop : List Cell) →
    has_marker k bytes ≡ true → 1 ≤ p.column →
    Marked line bytes (length (marker_of k)) p stop (spread line bytes p ++ stop)
marked-cells k line bytes p stop is one = marked-walk line (marker_of k) bytes p stop (marker-plain k) is one
