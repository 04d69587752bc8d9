-- What a state that stays takes at once is what it takes one after another.
use Rattle.std.proofs.Common.{◌≡◌, ℕ, zero, suc, ◌+◌, ◌-◌, ◌^◌, ◌<◌, ◌≤◌, Bool, true, false, not, nat_eq, nat_lt, List}
use Rattle.std.proofs.Common.{length, Option, None, Some, refl, sym, ◌∙◌, ap, ap₂, arith, cond, inr, subst}
use Rattle.std.specs.Prelude.{slice_index}
use Rattle.std.specs.List.{All}
use Rattle.std.proofs.lemmas.Bool.Decides.{nat_tests}
use Rattle.std.proofs.lemmas.List.Elements.{All-weaker}
use Rattle.md_engine.specs.declared.class.Class.{Class}
use Rattle.md_engine.specs.declared.class.Class.TheVariants as class
use Rattle.md_engine.specs.declared.event.Point.{Point}
use Rattle.md_engine.specs.declared.state.Name.{Name as StateName}
use Rattle.md_engine.specs.declared.state.State.{State}
use Rattle.md_engine.specs.declared.state.State.TheVariants.{Next}
use Rattle.md_engine.specs.declared.stay.Stay.{Stay}
use Rattle.md_engine.specs.declared.stay.Stay.TheVariants as stay
use Rattle.md_engine.specs.declared.tokenizer.Frame.{Frame}
use Rattle.md_engine.specs.declared.tokenizer.Scratch.{Scratch}
use Rattle.md_engine.specs.declared.tokenizer.Tokenizer.{Tokenizer}
use Rattle.md_engine.specs.Classes.{has, is_white}
use Rattle.md_engine.specs.Place.{IsPlaced, is_ending, next_point, seen_at, stepped}
use Rattle.md_engine.specs.Run.{Runs, Step, plain}
use Rattle.md_engine.specs.Run.Runs.{Stays, ThenCalls}
use Rattle.md_engine.specs.Scheme.{Fits, Scheme, cells_left, valid, work}
use Rattle.md_engine.specs.Sound.{IsSaved}
use Rattle.md_engine.specs.Staying.{IsSeen, Sees, SeesAll, SeesSome, SeesSpan, StaysOn, counted, stayed, takes, took}
use Rattle.md_engine.specs.Staying.{SeesColumns, SeesWhite, TookColumns, took_all}
use Rattle.md_engine.specs.Staying.TookColumns.{NoColumn, OneColumn}
use Rattle.md_engine.specs.Staying.SeesSome.{Nothing, OneMore}
use Rattle.md_engine.specs.World.{Setting, World, after, line_begun, looks, looks_at, world}
use Rattle.md_engine.proofs.ClassLemmas.{no-ending, seen-here}
use Rattle.md_engine.proofs.Local.{consumes}
use Rattle.md_engine.proofs.Loops.{not_error}
use Rattle.md_engine.proofs.Points.{cells-fall}
use Rattle.md_engine.proofs.Sound.{All-reverse, placed-next}

-- what is seen may be read
pub seen-inside : (x : Setting) (p : Point) (b : ℕ) → looks_at x p ≡ Some b → p.index < x.limit
seen-inside x p b e = go (nat_lt p.index x.limit) refl
  where
    go : (c : Bool) → nat_lt p.index x.limit ≡ c → p.index < x.limit
    go true k = grind (arith, nat_tests)
    go false k = let bad : (let o : Option ℕ = None in o) ≡ Some b = rw k at e in cc

-- no byte of a class ends a line
pub in-line : (c : Class) (b : ℕ) → has c b ≡ true → nat_eq b 10 ≡ false
in-line c b h = go (nat_eq b 10) refl
  where
    go : (x : Bool) → nat_eq b 10 ≡ x → nat_eq b 10 ≡ false
    go false e = e
    go true e = let not_both : true ≡ false = rw e at (no-ending c b h).0 in cc

-- all that some take, and what others take after it
pub some-all : (k : Stay) (w v u : World) → SeesSome k w v → SeesSome k v u → SeesSome k w u
some-all k w v _ a Nothing = a
some-all k w v _ a (OneMore u b here) = OneMore u (some-all k w v u a b) here

pub some-setting : (k : Stay) (w v : World) → SeesSome k w v → v.setting ≡ w.setting
some-setting k w _ Nothing = refl
some-setting k w _ (OneMore v a here) = some-setting k w v a

-- of what is left none comes back
pub some-falls : (k : Stay) (w v : World) → SeesSome k w v →
    cells_left v.setting.limit v.point ≤ cells_left w.setting.limit w.point
some-falls k w _ Nothing = omega arith
some-falls k w _ (OneMore v a here) =
    let before = some-falls k w v a in
    let less = cells-fall v.setting v.point (seen-inside v.setting v.point here.0 here.1) in
    omega (arith, before, less)

-- a state that takes each byte of a class and counts none
pub record Spans (k : Stay) (c : Class) : Type 0 where
  pub each : (s : Scratch) (b : ℕ) → has c b ≡ true → takes k s b ≡ true
  pub none : (s : Scratch) → counted k s ≡ s

pub line-spans : Spans stay.Line class.Text
line-spans = record { each = λ s b h. ap not (in-line class.Text b h); none = λ s. refl }

pub word-spans : Spans stay.Word class.Word
word-spans = record { each = λ s b h. h; none = λ s. refl }

pub plain-spans : Spans stay.Plain class.Plain
plain-spans = record { each = λ s b h. h; none = λ s. refl }

span-some : (k : Stay) (c : Class) (w : World) (n : ℕ) → Spans k c → ((i : ℕ) → i < n → IsSeen c (took_all i w)) →
    SeesSome k w (took_all n w)
unfolding took_all
span-some k c w zero is h = Nothing
span-some k c w (suc n) is h =
    let v : World = took_all n w in
    let b : ℕ = slice_index v.setting.bytes v.point.index in
    let here = h n (omega arith) in
    let before = span-some k c w n is (λ i lt. h i (omega (arith, lt))) in
    let more : SeesSome k w (stayed k v) =
    OneMore v before (b, seen-here v.setting c v.point here.0 here.1, is.each v.scratch b here.1) in
    let same : stayed k v ≡ took v = ap (λ (s : Scratch). record (took v) { scratch = s }) (is.none v.scratch) in
    subst (SeesSome k w) same more

pub span-sees : (k : Stay) (c : Class) (w v : World) → Spans k c → SeesSpan c w v → SeesSome k w v
span-sees k c w v is h = subst (SeesSome k w) (sym h.new) (span-some k c w h.count is h.each)

-- where no byte of a class without spaces is, nothing is there that is taken
pub span-ends : (k : Stay) (c : Class) (w : World) →
    ((s : Scratch) (b : ℕ) → takes k s b ≡ true → has c b ≡ true) →
    has c 32 ≡ false →
    ¬ IsSeen c w → ¬ Sees k w
span-ends k c w of_class spaceless none is = go (is_ending r) (nat_eq r 9) (nat_lt 0 w.point.vs) refl refl refl
  where
    r : ℕ
    r = slice_index w.setting.bytes w.point.index

    lt : w.point.index < w.setting.limit
    lt = seen-inside w.setting w.point is.0 is.1

    inside : nat_lt w.point.index w.setting.limit ≡ true
    inside = grind (arith, nat_tests)

    seen : Some (seen_at w.setting.bytes w.point) ≡ Some is.0
    seen = rw inside at is.1

    taken : has c is.0 ≡ true
    taken = of_class w.scratch is.0 is.2

    seen_as : (b : ℕ) → Some b ≡ Some is.0 → has c b ≡ true
    seen_as b e = let same : is.0 ≡ b = cc in subst (λ (x : ℕ). has c x ≡ true) same taken

    go : (x y z : Bool) → is_ending r ≡ x → nat_eq r 9 ≡ y → nat_lt 0 w.point.vs ≡ z → ⊥
    go true y z a b e = let s : Some 10 ≡ Some is.0 = rw a at seen in let k : has c 10 ≡ true = seen_as 10 s in cc
    go false true true a b e =
        let s : Some 32 ≡ Some is.0 = rw (a, b, e) at seen in let k : has c 32 ≡ true = seen_as 32 s in cc
    go false true false a b e =
        let s : Some r ≡ Some is.0 = rw (a, b, e) at seen in let k : has c r ≡ true = seen_as r s in
        let no : false ≡ true = rw (a, b) at k in cc
    go false false z a b e =
        let s : Some r ≡ Some is.0 = rw (a, b) at seen in let k : has c r ≡ true = seen_as r s in none (lt, k)

pub line-ends : (w : World) → ¬ IsSeen class.Text w →
    (w.point.index < w.setting.limit → ¬ (slice_index w.setting.bytes w.point.index ≡ 9)) →
    ¬ Sees stay.Line w
line-ends w none tab is = go (is_ending r) refl
  where
    r : ℕ
    r = slice_index w.setting.bytes w.point.index

    lt : w.point.index < w.setting.limit
    lt = seen-inside w.setting w.point is.0 is.1

    inside : nat_lt w.point.index w.setting.limit ≡ true
    inside = grind (arith, nat_tests)

    seen : Some (seen_at w.setting.bytes w.point) ≡ Some is.0
    seen = rw inside at is.1

    go : (x : Bool) → is_ending r ≡ x → ⊥
    go true a =
        let e : Some 10 ≡ Some is.0 = rw a at seen in
        let k : takes stay.Line w.scratch 10 ≡ true = cc in cc
    go false a =
        let not_tab : ¬ (r ≡ 9) = tab lt in
        let nine : nat_eq r 9 ≡ false = grind (arith, nat_tests) in
        let k : has class.Text r ≡ true = rw (a, nine) refl in none (lt, k)

-- one more is seen, taken and counted
pub one-more : (k : Stay) (w v u v' : World) (b : ℕ) → SeesSome k w v → looks v ≡ Some b → takes k v.scratch b ≡ true →
    u ≡ record v { current = Some b; point = after v.setting v.point } →
    v' ≡ record u { scratch = counted k u.scratch } → SeesSome k w v'
one-more k w v u v' b some e is to more =
    let new : v' ≡ stayed k v =
    more ∙ ap (λ (x : World). record x { scratch = counted k x.scratch }) to
    ∙ ap (λ (o : Option ℕ). record (stayed k v) { current = o }) (sym e) in
    subst (SeesSome k w) (sym new) (OneMore v some (b, e, is))

-- Whitespace, column by column.

-- what is seen where a space or a column of a tab is
white-seen : (w : World) → SeesWhite w → (b : ℕ) × (looks w ≡ Some b) × (is_white b ≡ true)
white-seen w h = go (nat_eq r 32) (nat_eq r 9) (nat_lt 0 w.point.vs) refl refl refl
  where
    r : ℕ
    r = slice_index w.setting.bytes w.point.index

    inside : nat_lt w.point.index w.setting.limit ≡ true
    inside = grind (arith, nat_tests, h.0)

    go : (x y z : Bool) → nat_eq r 32 ≡ x → nat_eq r 9 ≡ y → nat_lt 0 w.point.vs ≡ z →
        (b : ℕ) × (looks w ≡ Some b) × (is_white b ≡ true)
    go true y z a b c = let e : r ≡ 32 = grind (arith, nat_tests) in (32, rw (inside, e) refl, refl)
    go false true true a b c = let e : r ≡ 9 = grind (arith, nat_tests) in (32, rw (inside, e, c) refl, refl)
    go false true false a b c = let e : r ≡ 9 = grind (arith, nat_tests) in (9, rw (inside, e, c) refl, refl)
    go false false z a b c = let no : false ≡ true = rw (a, b) at h.1 in cc

-- and what is where whitespace is seen
seen-white : (w : World) (b : ℕ) → looks w ≡ Some b → is_white b ≡ true → SeesWhite w
seen-white w b e is = (lt, go (is_ending r) (nat_eq r 9) refl refl)
  where
    r : ℕ
    r = slice_index w.setting.bytes w.point.index

    lt : w.point.index < w.setting.limit
    lt = seen-inside w.setting w.point b e

    inside : nat_lt w.point.index w.setting.limit ≡ true
    inside = grind (arith, nat_tests)

    seen : Some (seen_at w.setting.bytes w.point) ≡ Some b
    seen = rw inside at e

    go : (x y : Bool) → is_ending r ≡ x → nat_eq r 9 ≡ y → is_white r ≡ true
    go true y a c = let k : Some 10 ≡ Some b = rw a at seen in let no : is_white 10 ≡ true = cc in cc
    go false true a c = let k : r ≡ 9 = grind (arith, nat_tests) in rw k refl
    go false false a c = let k : Some r ≡ Some b = rw (a, c) at seen in cc

-- whitespace ends no line
white-in-line : (b : ℕ) → is_white b ≡ true → not (nat_eq b 10) ≡ true
white-in-line b is = go (nat_eq b 10) refl
  where
    go : (x : Bool) → nat_eq b 10 ≡ x → not x ≡ true
    go false e = refl
    go true e = let k : b ≡ 10 = grind (arith, nat_tests) in let no : is_white 10 ≡ true = rw k at is in cc

-- one column more, as the code moves the point
white-next : (bytes : List ℕ) (p : Point) → is_white (slice_index bytes p.index) ≡ true →
    (is_ending (slice_index bytes p.index) ≡ false) ×
    (next_point bytes p ≡ stepped (slice_index bytes p.index) false p)
white-next bytes p is = go (nat_eq b 32) (nat_eq b 9) refl refl
  where
    b : ℕ
    b = slice_index bytes p.index

    go : (x y : Bool) → nat_eq b 32 ≡ x → nat_eq b 9 ≡ y →
        (is_ending b ≡ false) × (next_point bytes p ≡ stepped b false p)
    go true y a c = let k : b ≡ 32 = grind (arith, nat_tests) in rw k (refl, refl)
    go false true a c = let k : b ≡ 9 = grind (arith, nat_tests) in rw k (refl, refl)
    go false false a c = let no : false ≡ true = rw (a, c) at is in cc

white-look : (x : Setting) (p : Point) → p.index < x.limit → is_white (slice_index x.bytes p.index) ≡ true →
    looks_at x p ≡ Some (cond (nat_lt 0 p.vs) 32 (slice_index x.bytes p.index))
white-look x p lt is = go (nat_eq b 32) (nat_eq b 9) (nat_lt 0 p.vs) refl refl refl
  where
    b : ℕ
    b = slice_index x.bytes p.index

    inside : nat_lt p.index x.limit ≡ true
    inside = grind (arith, nat_tests)

    go : (y z v : Bool) → nat_eq b 32 ≡ y → nat_eq b 9 ≡ z → nat_lt 0 p.vs ≡ v →
        looks_at x p ≡ Some (cond (nat_lt 0 p.vs) 32 b)
    go true z true a c d = let k : b ≡ 32 = grind (arith, nat_tests) in rw (inside, k, d) refl
    go true z false a c d = let k : b ≡ 32 = grind (arith, nat_tests) in rw (inside, k, d) refl
    go false true true a c d = let k : b ≡ 9 = grind (arith, nat_tests) in rw (inside, k, d) refl
    go false true false a c d = let k : b ≡ 9 = grind (arith, nat_tests) in rw (inside, k, d) refl
    go false false v a c d = let no : false ≡ true = rw (a, c) at is in cc

pub one-column : (w : World) (n : ℕ) (p q : Point) (o : Option ℕ) (s : ℕ) →
    TookColumns w n (record w { point = p; current = o }) → p.index < w.setting.limit →
    is_white (slice_index w.setting.bytes p.index) ≡ true →
    s ≡ cond (nat_lt 0 p.vs) 32 (slice_index w.setting.bytes p.index) →
    q ≡ stepped (slice_index w.setting.bytes p.index) false p →
    TookColumns w (n + 1) (record w { point = q; current = Some s })
one-column w n p q o s some lt is e to =
    let v : World = record w { point = p; current = o } in
    let more : TookColumns w (suc n) (took v) = OneColumn n v some (lt, is) in
    let look : looks_at w.setting p ≡ Some s = white-look w.setting p lt is ∙ ap Some (sym e) in
    let next = white-next w.setting.bytes p is in
    let moved : after w.setting p ≡ q =
    ap (λ (b : Bool). cond b (line_begun w.setting (next_point w.setting.bytes p)) (next_point w.setting.bytes p))
    next.0
    ∙ next.1 ∙ sym to in
    let same : took v ≡ record w { point = q; current = Some s } =
    ap₂ (λ (x : Point) (c : Option ℕ). record w { point = x; current = c }) moved look in
    let number : suc n ≡ n + 1 = omega arith in
    subst (λ (m : ℕ). TookColumns w m (record w { point = q; current = Some s })) number
    (subst (TookColumns w (suc n)) same more)

pub placed-column : (bytes : List ℕ) (p q : Point) → IsPlaced bytes p → p.index < length bytes →
    is_white (slice_index bytes p.index) ≡ true → q ≡ stepped (slice_index bytes p.index) false p → IsPlaced bytes q
placed-column bytes p q h lt is to =
    subst (IsPlaced bytes) ((white-next bytes p is).1 ∙ sym to) (placed-next bytes p h lt)

columns-scratch : (w v : World) (n : ℕ) → TookColumns w n v → v.scratch ≡ w.scratch
columns-scratch w _ _ NoColumn = refl
columns-scratch w _ _ (OneColumn n v some here) = columns-scratch w v n some

columns-fall : (w v : World) (n : ℕ) → TookColumns w n v →
    cells_left v.setting.limit v.point + n ≤ cells_left w.setting.limit w.point
columns-fall w _ _ NoColumn = omega arith
columns-fall w _ _ (OneColumn n v some here) =
    let before = columns-fall w v n some in
    let less = cells-fall v.setting v.point here.0 in
    omega (arith, before, less)

-- they are taken as the rest of a line,
columns-line : (w v : World) (n : ℕ) → TookColumns w n v → SeesSome stay.Line w v
columns-line w _ _ NoColumn = Nothing
columns-line w _ _ (OneColumn n v some here) =
    let seen = white-seen v here in
    OneMore v (columns-line w v n some) (seen.0, seen.1, white-in-line seen.0 seen.2)

-- or counted as whitespace
sized : ℕ → Scratch → Scratch
sized n s = record s { whitespace = record s.whitespace { size = n } }

columns-white : (w v : World) (n m : ℕ) → TookColumns w n v → m ≡ w.scratch.whitespace.size + n →
    m ≤ w.scratch.whitespace.max → SeesSome stay.White w (record v { scratch = sized m w.scratch })
unfolding sized
columns-white w _ _ m NoColumn e le =
    let same : m ≡ w.scratch.whitespace.size = omega (arith, e) in
    subst (λ (k : ℕ). SeesSome stay.White w (record w { scratch = sized k w.scratch })) (sym same) Nothing
columns-white w _ _ m (OneColumn n v some here) e le =
    let k : ℕ = w.scratch.whitespace.size + n in
    let u : World = record v { scratch = sized k w.scratch } in
    let before : SeesSome stay.White w u = columns-white w v n k some refl (omega (arith, e, le)) in
    let seen = white-seen v here in
    let room : nat_lt k w.scratch.whitespace.max ≡ true = grind (arith, nat_tests, e, le) in
    let is : takes stay.White u.scratch seen.0 ≡ true = rw (seen.2, room) refl in
    let next : m ≡ k + 1 = omega (arith, e) in
    subst (λ (x : ℕ). SeesSome stay.White w (record (took v) { scratch = sized x w.scratch })) (sym next)
    (OneMore u before (seen.0, seen.1, is))

pub white-sees : (w v v' : World) (n : ℕ) → w.scratch.whitespace.size < w.scratch.whitespace.max →
    SeesColumns (w.scratch.whitespace.max - w.scratch.whitespace.size) w n v →
    v' ≡ record v {
      scratch = record v.scratch { whitespace = record v.scratch.whitespace { size = w.scratch.whitespace.size + n } };
    } → SeesAll stay.White w v'
unfolding sized
white-sees w v v' n room h new =
    let m : ℕ = w.scratch.whitespace.size + n in
    let is : v' ≡ record v { scratch = sized m w.scratch } =
    new ∙ ap (λ (s : Scratch). record v { scratch = sized m s }) (columns-scratch w v n h.some) in
    let le : m ≤ w.scratch.whitespace.max = omega (arith, h.within, room) in
    let none : ¬ Sees stay.White (record v { scratch = sized m w.scratch }) = ends in
    subst (SeesAll stay.White w) (sym is) (record { some = columns-white w v n m h.some refl le; ends = none })
  where
    ends : ¬ Sees stay.White (record v { scratch = sized (w.scratch.whitespace.size + n) w.scratch })
    ends is = go (is_white is.0) (nat_lt (w.scratch.whitespace.size + n) w.scratch.whitespace.max) refl refl
      where
        go : (x y : Bool) → is_white is.0 ≡ x →
            nat_lt (w.scratch.whitespace.size + n) w.scratch.whitespace.max ≡ y → ⊥
        go true true a c =
            let lt : w.scratch.whitespace.size + n < w.scratch.whitespace.max = grind (arith, nat_tests) in
            h.ends (omega (arith, lt)) (seen-white v is.0 is.1 a)
        go true false a c = let no : false ≡ true = rw (a, c) at is.2 in cc
        go false y a c = let no : false ≡ true = rw a at is.2 in cc

-- where no whitespace is, none is taken,
pub white-none : (w : World) → ¬ SeesWhite w → SeesAll stay.White w w
white-none w none = record { some = Nothing; ends = ends }
  where
    ends : ¬ Sees stay.White w
    ends is = go (is_white is.0) refl
      where
        go : (x : Bool) → is_white is.0 ≡ x → ⊥
        go true a = none (seen-white w is.0 is.1 a)
        go false a = let no : false ≡ true = rw a at is.2 in cc

-- and none where no more is counted
pub white-full : (w : World) → w.scratch.whitespace.max ≤ w.scratch.whitespace.size → SeesAll stay.White w w
white-full w le = record { some = Nothing; ends = ends }
  where
    full : nat_lt w.scratch.whitespace.size w.scratch.whitespace.max ≡ false
    full = grind (arith, nat_tests)

    ends : ¬ Sees stay.White w
    ends is = go (is_white is.0) refl
      where
        go : (x : Bool) → is_white is.0 ≡ x → ⊥
        go true a = let no : false ≡ true = rw (a, full) at is.2 in cc
        go false a = let no : false ≡ true = rw a at is.2 in cc

-- a tab on a line, and the text after it
pub tab-taken : (w v u v' : World) (n : ℕ) → SeesSome stay.Line w v → v.point.index < v.setting.limit →
    slice_index v.setting.bytes v.point.index ≡ 9 → SeesColumns (2 ^ 64 - 1) v n u → SeesSpan class.Text u v' →
    SeesSome stay.Line w v' × (cells_left v'.setting.limit v'.point < cells_left v.setting.limit v.point)
tab-taken w v u v' n some lt e columns span =
    let one = some-all stay.Line w v u some (columns-line v u n columns.some) in
    let more = span-sees stay.Line class.Text u v' line-spans span in
    let back = some-falls stay.Line u v' more in
    let fall = columns-fall v u n columns.some in
    let moved = go n u columns in
    (some-all stay.Line w u v' one more, omega (arith, back, fall, moved))
  where
    first : (x : World) → TookColumns v zero x → x ≡ v
    first _ NoColumn = refl

    go : (k : ℕ) (x : World) → SeesColumns (2 ^ 64 - 1) v k x → 0 < k
    go zero x h = absurd (h.ends (omega arith) (subst SeesWhite (sym (first x h.some)) (lt, rw e refl)))
    go (suc k) x h = omega arith

-- a state that stays: what it becomes after so many bytes
pub record Stayed (T : Step) (S : Scheme) (s : State) (w w' : World) : Type 0 where
  pub runs : (is_end : Bool) → Runs T is_end s w s w'
  pub ready : valid S w' (plain s)
  pub falls : work S w' (plain s) ≤ work S w (plain s)
  pub setting : w'.setting ≡ w.setting
  pub within : All (λ (f : Frame). f.events_len ≤ length w'.events) w'.frames

-- it may be at its own scheme
fits-own : (S : Scheme) (n : StateName) → Fits S S n
fits-own S n = record { ready = λ x K h. h; level = refl; rank = λ x. refl; tries = refl }

stayed-more : (T : Step) (S : Scheme) (n : StateName) (k : Stay) (w v : World) → StaysOn T S n k →
    Stayed T S (Next n) w v → Sees k v → Stayed T S (Next n) w (stayed k v)
stayed-more T S n k w v s h here =
    let inside = seen-inside v.setting v.point here.0 here.1 in
    let ready : valid S (stayed k v) (Next n) = s.ready v here.0 here.1 here.2 h.ready in
    let level : S.level n ≤ S.level n = omega arith in
    let good = consumes S S n n v v.events (counted k v.scratch) (fits-own S n) (fits-own S n) inside ready level in
    let less : work S (stayed k v) (Next n) < work S v (Next n) = good.1 in
    record {
      runs =
          λ is_end. ThenCalls _ _ _ _ (h.runs is_end)
          (record {
            name = n;
            names = refl;
            may = inr inside;
            step = s.step v here.0 here.1 here.2;
            fine = not_error (Next n) n refl;
            setting = refl;
            within = h.within;
          });
      ready = ready;
      falls = omega (arith, h.falls, less);
      setting = h.setting;
      within = h.within;
    }

-- what is taken and counted one after another is what a state takes that stays
stays-some : (T : Step) (S : Scheme) (n : StateName) (k : Stay) (w v : World) → StaysOn T S n k → valid S w (Next n) →
    All (λ (f : Frame). f.events_len ≤ length w.events) w.frames → SeesSome k w v → Stayed T S (Next n) w v
stays-some T S n k w _ s r within Nothing = record {
  runs = λ is_end. Stays;
  ready = r;
  falls = omega arith;
  setting = refl;
  within = within;
}
stays-some T S n k w _ s r within (OneMore v some here) =
    stayed-more T S n k w v s (stays-some T S n k w v s r within some) here

-- the attempts of a tokenizer go back to events that are there
pub within-world : (t : Tokenizer) → All (λ (f : Frame). f.events_len ≤ length (world t).events) (world t).frames
within-world t = All-reverse (λ (f : Frame). f.events_len ≤ length t.events.items) t.frames.items
    (All-weaker (IsSaved t.bytes.now (length t.events.items)) (λ (f : Frame). f.events_len ≤ length t.events.items)
    (λ f h. h.within) t.frames.items t.sound.saved)

-- much is taken at once where a state stays
pub stayed-by : (T : Step) (S : Scheme) (s : State) (n : StateName) (k : Stay) (w v : World) → s ≡ Next n →
    StaysOn T S n k → valid S w (plain s) →
    All (λ (f : Frame). f.events_len ≤ length w.events) w.frames → SeesAll k w v → Stayed T S s w v
stayed-by T S s n k w v e on r within h =
    subst (λ (x : State). valid S w (plain x) → Stayed T S x w v) (sym e)
    (λ ready. stays-some T S n k w v on ready within h.some) r
