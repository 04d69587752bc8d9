-- Which runs may pair: what counts of each, and how many bytes they use.
use Rattle.std.proofs.Common.{◌≡◌, ℕ, zero, suc, ◌+◌, ◌*◌, ◌<◌, ◌≤◌, ◌≢◌, Bool, true, false, cond, ◌&&◌}
use Rattle.std.proofs.Common.{refl, ap, sym, ◌∙◌, arith}
use Rattle.std.specs.Prelude.{◌==◌, ◌||◌, ◌%◌, not, nat_le}
use Rattle.std.proofs.Math.Nat.{add-mod-mod}
use Rattle.std.proofs.lemmas.Bool.{and_parts, eqb-true}
use Rattle.std.proofs.lemmas.Bool.Decides.{nat_tests}
use Rattle.std.proofs.lemmas.Nat.{mod_below}
use Rattle.md_meaning.specs.Ascii.{asterisk, tilde, underscore}
use Rattle.md_inlines.specs.declared.Run.{Run}
use Rattle.md_inlines.specs.Emphasis.{fit, may_pair, strike}
use Rattle.markdown_inlines.specs.Matching.{kind_of, size_kind, taken}

-- What is so of two runs that may pair.
pub record Pairing (single : Bool) (opener closer : Run) : Type 0 where
  pub mark : opener.mark ≡ closer.mark
  pub opens : opener.opens ≡ true
  pub closes : closer.closes ≡ true
  pub fits : cond (closer.mark == tilde) (strike single opener closer) (fit opener closer) ≡ true

pub pairing : (single : Bool) (opener closer : Run) → may_pair single opener closer ≡ true →
    Pairing single opener closer
pairing single opener closer h =
    let all = and_parts ((opener.mark == closer.mark) && opener.opens && closer.closes)
    (cond (closer.mark == tilde) (strike single opener closer) (fit opener closer)) h in
    let three = and_parts ((opener.mark == closer.mark) && opener.opens) closer.closes all.0 in
    let two = and_parts (opener.mark == closer.mark) opener.opens three.0 in
    record {
      mark = eqb-true opener.mark closer.mark two.0;
      opens = two.1;
      closes = three.1;
      fits = all.1;
    }

two-left : (x : ℕ) → nat_le 2 x ≡ true → 2 ≤ x
two-left x h = grind (arith, nat_tests)

-- what two runs use is there
pub record Uses (o c : Run) : Type 0 where
  pub some : 0 < taken o c
  pub opener : taken o c ≤ o.left
  pub closer : taken o c ≤ c.left

pub uses : (single : Bool) (opener closer : Run) → may_pair single opener closer ≡ true → 0 < opener.left →
    0 < closer.left → Uses opener closer
uses single opener closer h o c = go (closer.mark == tilde) (pairing single opener closer h).fits refl
  where
    both : (x y : Bool) → nat_le 2 opener.left ≡ x → nat_le 2 closer.left ≡ y →
        (0 < cond (x && y) 2 1) × (cond (x && y) 2 1 ≤ opener.left) × (cond (x && y) 2 1 ≤ closer.left)
    both true true p q = (omega arith, two-left opener.left p, two-left closer.left q)
    both true false p q = (omega arith, omega (arith, o), omega (arith, c))
    both false y p q = (omega arith, omega (arith, o), omega (arith, c))

    go : (t : Bool) → cond t (strike single opener closer) (fit opener closer) ≡ true →
        (closer.mark == tilde) ≡ t → Uses opener closer
    go true s e =
        let parts = and_parts (opener.left == closer.left)
        ((closer.left == 2) || ((closer.left == 1) && single)) s in
        let same : opener.left ≡ closer.left = eqb-true opener.left closer.left parts.0 in
        let whole : taken opener closer ≡ closer.left = rw e refl in
        record {
          some = omega (arith, whole, c);
          opener = omega (arith, same, whole);
          closer = omega (arith, whole);
        }
    go false s e =
        let some : taken opener closer ≡ cond (nat_le 2 opener.left && nat_le 2 closer.left) 2 1 = rw e refl in
        let enough = both (nat_le 2 opener.left) (nat_le 2 closer.left) refl refl in
        record {
          some = omega (arith, some, enough.0);
          opener = omega (arith, some, enough.1);
          closer = omega (arith, some, enough.2);
        }

pub taken-within : (opener closer : Run) → 0 < closer.left → taken opener closer ≤ closer.left
taken-within opener closer some = go (closer.mark == tilde) (nat_le 2 opener.left) (nat_le 2 closer.left) refl
  where
    go : (t x y : Bool) → nat_le 2 closer.left ≡ y → cond t closer.left (cond (x && y) 2 1) ≤ closer.left
    go true x y e = omega arith
    go false true true e = two-left closer.left e
    go false true false e = omega (arith, some)
    go false false y e = omega (arith, some)

-- runs of tildes are used whole
pub whole-tildes : (single : Bool) (opener closer : Run) → may_pair single opener closer ≡ true →
    (opener.mark == tilde) ≡ true → opener.left ≤ taken opener closer
whole-tildes single opener closer h t =
    let p : Pairing single opener closer = pairing single opener closer h in
    let e : (closer.mark == tilde) ≡ true = ap (λ (x : ℕ). x == tilde) (sym p.mark) ∙ t in
    let s : strike single opener closer ≡ true =
    sym (ap (λ (x : Bool). cond x (strike single opener closer) (fit opener closer)) e) ∙ p.fits in
    let parts = and_parts (opener.left == closer.left)
    ((closer.left == 2) || ((closer.left == 1) && single)) s in
    let same : opener.left ≡ closer.left = eqb-true opener.left closer.left parts.0 in
    let whole : taken opener closer ≡ closer.left = rw e refl in
    omega (arith, same, whole)

-- A run of which fewer bytes are left.

abbrev pub with_left : Run → ℕ → Run
with_left r left = record { mark = r.mark; size = r.size; left = left; opens = r.opens; closes = r.closes }

-- where it has no tildes, it pairs as before
pub closes-left : (single : Bool) (o r : Run) (left : ℕ) → (r.mark == tilde) ≡ false →
    may_pair single o (with_left r left) ≡ may_pair single o r
closes-left single o r left h =
    ap (λ (x : Bool). ((o.mark == r.mark) && o.opens && r.closes)
    && cond x (strike single o (with_left r left)) (fit o r)) h
    ∙ sym
    (ap (λ (x : Bool). ((o.mark == r.mark) && o.opens && r.closes) && cond x (strike single o r) (fit o r)) h)

pub opens-left : (single : Bool) (r c : Run) (left : ℕ) → (r.mark == tilde) ≡ false →
    may_pair single (with_left r left) c ≡ may_pair single r c
opens-left single r c left h = go (c.mark == tilde) refl
  where
    go : (t : Bool) → (c.mark == tilde) ≡ t → may_pair single (with_left r left) c ≡ may_pair single r c
    go false e =
        ap (λ (x : Bool). ((r.mark == c.mark) && r.opens && c.closes)
        && cond x (strike single (with_left r left) c) (fit r c)) e
        ∙ sym (ap (λ (x : Bool). ((r.mark == c.mark) && r.opens && c.closes) && cond x (strike single r c) (fit r c)) e)
    go true e =
        let other : (r.mark == c.mark) ≡ false =
        ap (λ (x : ℕ). r.mark == x) (eqb-true c.mark tilde e) ∙ h in
        ap (λ (x : Bool). (x && r.opens && c.closes)
        && cond (c.mark == tilde) (strike single (with_left r left) c) (fit r c)) other
        ∙ sym
        (ap (λ (x : Bool). (x && r.opens && c.closes) && cond (c.mark == tilde) (strike single r c) (fit r c)) other)

-- Kinds: what counts of a run that closes.

abbrev sized_by : Run → ℕ → Bool → Bool → ℕ → Bool
sized_by o mark closes opens third =
    ((o.mark == mark) && o.opens && closes)
    && (not (o.closes || opens) || not ((o.size + third) % 3 == 0) || ((o.size % 3 == 0) && (third == 0)))

sized : (single : Bool) (o c : Run) → (c.mark == tilde) ≡ false →
    may_pair single o c ≡ sized_by o c.mark c.closes c.opens (c.size % 3)
sized single o c h =
    ap (λ (x : Bool). ((o.mark == c.mark) && o.opens && c.closes) && cond x (strike single o c) (fit o c)) h
    ∙ ap (λ (x : ℕ). ((o.mark == c.mark) && o.opens && c.closes)
    && (not (o.closes || c.opens) || not (x == 0) || ((o.size % 3 == 0) && (c.size % 3 == 0))))
    (sym (add-mod-mod o.size c.size 3))

abbrev struck_by : Bool → Run → ℕ → Bool → ℕ → Bool
struck_by single o mark closes left =
    ((o.mark == mark) && o.opens && closes)
    && ((o.left == left) && ((left == 2) || ((left == 1) && single)))

struck : (single : Bool) (o c : Run) → (c.mark == tilde) ≡ true →
    may_pair single o c ≡ struck_by single o c.mark c.closes c.left
struck single o c h =
    ap (λ (x : Bool). ((o.mark == c.mark) && o.opens && c.closes) && cond x (strike single o c) (fit o c)) h

-- What the kind of a run says of it.
data View (single : Bool) (c : Run) (k : ℕ) : Type 0 where
  never : k ≡ 0 → ((o : Run) → may_pair single o c ≡ false) → View single c k
  fits : (q : ℕ) → q ≤ 1 → c.closes ≡ true → c.mark ≡ 42 + q * 53 → k ≡ q * 6 + (1 + size_kind c) → View single c k
  strikes : c.closes ≡ true → c.mark ≡ tilde → 0 < c.left → c.left ≤ 2 → k ≡ 12 + c.left → View single c k
  other : k ≡ 15 → View single c k

and-false : (x : Bool) → x && false ≡ false
and-false true = refl
and-false false = refl

pub never-closes : (single : Bool) (o c : Run) → c.closes ≡ false → may_pair single o c ≡ false
never-closes single o c h =
    ap (λ (x : Bool). (((o.mark == c.mark) && o.opens) && x)
    && cond (c.mark == tilde) (strike single o c) (fit o c)) h
    ∙ ap (λ (x : Bool). x && cond (c.mark == tilde) (strike single o c) (fit o c))
    (and-false ((o.mark == c.mark) && o.opens))

never-strikes : (single : Bool) (o c : Run) → (c.mark == tilde) ≡ true → (c.left == 1) ≡ false →
    (c.left == 2) ≡ false → may_pair single o c ≡ false
never-strikes single o c t one two =
    struck single o c t
    ∙ ap (λ (x : Bool). ((o.mark == c.mark) && o.opens && c.closes)
    && ((o.left == c.left) && (x || ((c.left == 1) && single)))) two
    ∙ ap (λ (x : Bool). ((o.mark == c.mark) && o.opens && c.closes) && ((o.left == c.left) && (x && single))) one
    ∙ ap (λ (x : Bool). ((o.mark == c.mark) && o.opens && c.closes) && x) (and-false (o.left == c.left))
    ∙ and-false ((o.mark == c.mark) && o.opens && c.closes)

view : (single : Bool) (c : Run) → View single c (kind_of c)
view single c =
    go c.closes (c.mark == asterisk) (c.mark == underscore) (c.mark == tilde) (c.left == 1) (c.left == 2) refl refl refl
    refl refl refl
  where
    go : (closes star line wave one two : Bool) → c.closes ≡ closes → (c.mark == asterisk) ≡ star →
        (c.mark == underscore) ≡ line → (c.mark == tilde) ≡ wave → (c.left == 1) ≡ one → (c.left == 2) ≡ two →
        View single c
        (cond (not closes) 0
        (cond star (1 + size_kind c)
        (cond line (7 + size_kind c) (cond (not wave) 15 (cond one 13 (cond two 14 0))))))
    go false star line wave one two h s l w a b = never refl (λ o. never-closes single o c h)
    go true true line wave one two h s l w a b =
        fits 0 (omega arith) h (eqb-true c.mark asterisk s) (omega arith)
    go true false true wave one two h s l w a b =
        fits 1 (omega arith) h (eqb-true c.mark underscore l) (omega arith)
    go true false false false one two h s l w a b = other refl
    go true false false true true two h s l w a b =
        let left : c.left ≡ 1 = eqb-true c.left 1 a in
        strikes h (eqb-true c.mark tilde w) (omega (arith, left)) (omega (arith, left)) (omega (arith, left))
    go true false false true false true h s l w a b =
        let left : c.left ≡ 2 = eqb-true c.left 2 b in
        strikes h (eqb-true c.mark tilde w) (omega (arith, left)) (omega (arith, left)) (omega (arith, left))
    go true false false true false false h s l w a b = never refl (λ o. never-strikes single o c w a b)

third-few : (c : Run) → c.size % 3 < 3
third-few c = mod_below c.size 3 (omega arith)

pub size-few : (c : Run) → size_kind c < 6
size-few c = go c.opens
  where
    go : (x : Bool) → c.size % 3 + cond x 3 0 < 6
    go true = omega (arith, third-few c)
    go false = omega (arith, third-few c)

pub kind-few : (single : Bool) (c : Run) → kind_of c < 16
kind-few single c = go (kind_of c) (view single c)
  where
    go : (i : ℕ) → View single c i → i < 16
    go i (never k n) = omega (arith, k)
    go i (fits q few closes mark k) = omega (arith, k, few, size-few c)
    go i (strikes closes mark some few k) = omega (arith, k, few)
    go i (other k) = omega (arith, k)

-- equal kinds by size and by whether a run may open
same-size : (c d : Run) → size_kind c ≡ size_kind d → (c.opens ≡ d.opens) × (c.size % 3 ≡ d.size % 3)
same-size c d h = go c.opens d.opens h
  where
    go : (x y : Bool) → c.size % 3 + cond x 3 0 ≡ d.size % 3 + cond y 3 0 → (x ≡ y) × (c.size % 3 ≡ d.size % 3)
    go true true h = (refl, omega (arith, h))
    go true false h = absurd (omega (arith, h, third-few d))
    go false true h = absurd (omega (arith, h, third-few c))
    go false false h = (refl, omega (arith, h))

sized-same : (single : Bool) (o c d : Run) (mark : ℕ) → (mark == tilde) ≡ false → c.mark ≡ mark → d.mark ≡ mark →
    c.closes ≡ true → d.closes ≡ true → size_kind c ≡ size_kind d → may_pair single o c ≡ may_pair single o d
sized-same single o c d mark t cm dm cc_ dc s =
    let parts = same-size c d s in
    sized single o c (ap (λ (x : ℕ). x == tilde) cm ∙ t)
    ∙ ap (λ (x : ℕ). sized_by o x c.closes c.opens (c.size % 3)) (cm ∙ sym dm)
    ∙ ap (λ (x : Bool). sized_by o d.mark x c.opens (c.size % 3)) (cc_ ∙ sym dc)
    ∙ ap (λ (x : Bool). sized_by o d.mark d.closes x (c.size % 3)) parts.0
    ∙ ap (λ (x : ℕ). sized_by o d.mark d.closes d.opens x) parts.1
    ∙ sym (sized single o d (ap (λ (x : ℕ). x == tilde) dm ∙ t))

struck-same : (single : Bool) (o c d : Run) → c.mark ≡ tilde → d.mark ≡ tilde → c.closes ≡ true → d.closes ≡ true →
    c.left ≡ d.left → may_pair single o c ≡ may_pair single o d
struck-same single o c d cm dm cc_ dc s =
    struck single o c (ap (λ (x : ℕ). x == tilde) cm)
    ∙ ap (λ (x : ℕ). struck_by single o x c.closes c.left) (cm ∙ sym dm)
    ∙ ap (λ (x : Bool). struck_by single o d.mark x c.left) (cc_ ∙ sym dc)
    ∙ ap (λ (x : ℕ). struck_by single o d.mark d.closes x) s
    ∙ sym (struck single o d (ap (λ (x : ℕ). x == tilde) dm))

-- runs of one kind may close the same runs
pub kind-pairs : (single : Bool) (o c d : Run) → kind_of c ≡ kind_of d → kind_of c ≢ 15 →
    may_pair single o c ≡ may_pair single o d
kind-pairs single o c d same known = go (kind_of c) (kind_of d) same known (view single c) (view single d)
  where
    marked : (q : ℕ) → q ≤ 1 → (42 + q * 53 == tilde) ≡ false
    marked zero few = refl
    marked (suc zero) few = refl
    marked (suc (suc q)) few = absurd (omega (arith, few))

    go : (i j : ℕ) → i ≡ j → i ≢ 15 → View single c i → View single d j → may_pair single o c ≡ may_pair single o d
    go i j same known (never k n) (never l m) = n o ∙ sym (m o)
    go i j same known (fits q few closes mark k) (fits p less shuts sign l) =
        let one : q ≡ p = omega (arith, k, l, same, size-few c, size-few d, few, less) in
        sized-same single o c d (42 + p * 53) (marked p less) (mark ∙ ap (λ (x : ℕ). 42 + x * 53) one) sign closes shuts
        (omega (arith, k, l, same, one))
    go i j same known (strikes closes mark some few k) (strikes shuts sign more less l) =
        struck-same single o c d mark sign closes shuts (omega (arith, k, l, same))
    go i j same known (other k) w = absurd (known k)
    go i j same known w (other l) = absurd (known (same ∙ l))
    go i j same known (never k n) (fits p less shuts sign l) = absurd (omega (arith, k, l, same))
    go i j same known (never k n) (strikes shuts sign more less l) = absurd (omega (arith, k, l, same))
    go i j same known (fits q few closes mark k) (never l m) = absurd (omega (arith, k, l, same))
    go i j same known (fits q few closes mark k) (strikes shuts sign more less l) =
        absurd (omega (arith, k, l, same, size-few c, few, more))
    go i j same known (strikes closes mark some few k) (never l m) = absurd (omega (arith, k, l, same))
    go i j same known (strikes closes mark some few k) (fits p less shuts sign l) =
        absurd (omega (arith, k, l, same, size-few d, less, some))
