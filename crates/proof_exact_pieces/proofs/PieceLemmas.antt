-- The pieces of a line by the points where its rests are.
use Rattle.std.proofs.Common.{◌≡◌, ℕ, zero, suc, ◌+◌, ◌-◌, ◌%◌, ◌<◌, ◌≤◌, Bool, true, false, cond, ◌&&◌, ◌||◌, List, []}
use Rattle.std.proofs.Common.{◌++◌, length, drop, refl, sym, ap, ap₂, ◌∙◌, subst, arith}
use Rattle.std.specs.Prelude.{◌==◌, nat_lt}
use Rattle.std.proofs.lemmas.Bool.{and_parts, and_from, eqb-true, eq-eqb}
use Rattle.std.proofs.lemmas.Bool.Decides.{nat_tests}
use Rattle.std.proofs.lemmas.List.{length-append, length-drop}
use Rattle.md_engine.specs.declared.event.Content.{Content}
use Rattle.md_engine.specs.declared.event.Event.{Event}
use Rattle.md_engine.specs.declared.event.Name.{Name}
use Rattle.md_engine.specs.declared.event.Name.TheVariants as n
use Rattle.md_engine.specs.declared.event.Point.{Point}
use Rattle.md_meaning.specs.Rest.{Rest, cut_tab}
use Rattle.md_meaning.specs.Texts.{first_byte}
use Rattle.md_events.specs.Events.Inline.{pair_unless_empty}
use Rattle.md_events.specs.Events.Nested.{around}
use Rattle.md_events.specs.Events.Places.{columns_before, same_place}
use Rattle.md_events.proofs.FeedLines.{columns_more}
use Rattle.md_events.proofs.PlacesLemmas.{Placed}
use Rattle.md_events.proofs.RestCells.{Cut, RestAt}
use Rattle.md_events.proofs.WalkedLemmas.{one-point}
use Rattle.md_events.specs.Exact.Places.{TextLine, chunk, is_same, part, piece, place, text_part, white}
use Rattle.proof_exact_pieces.proofs.OnLine.{LineIn, OnLine, place-on}
use Rattle.proof_exact_pieces.proofs.PlaceLemmas.{cut_len, length-cut}

-- What is left of a text at a rest.
rest-length : (text following : List ℕ) (r : Rest) (p : Point) → RestAt text following r p →
    length text - p.index ≡ cut_len r.spaces + length r.bytes + length following
rest-length text following r p at =
    sym (length-drop p.index text) ∙ ap (λ (l : List ℕ). length l) at.text_is
    ∙ length-append (cut_tab r.spaces ++ r.bytes) following
    ∙ ap (λ (n : ℕ). n + length following) (length-append (cut_tab r.spaces) r.bytes)
    ∙ ap (λ (n : ℕ). n + length r.bytes + length following) (length-cut r.spaces)

-- the virtual spaces in a tab are fewer than its columns
few : (bytes : List ℕ) (p : Point) → Placed bytes p → 0 < p.vs → p.vs < 4 - columns_before bytes p.index % 4
few bytes p h some = go (p.vs == 0) (first_byte (drop p.index bytes) == 9) refl h.within
  where
    go : (x y : Bool) → (p.vs == 0) ≡ x → (x || (y && nat_lt p.vs (4 - columns_before bytes p.index % 4))) ≡ true →
        p.vs < 4 - columns_before bytes p.index % 4
    go true y e k = absurd (omega (arith, some, eqb-true p.vs 0 e))
    go false true e k = grind (arith, nat_tests)
    go false false e k = cc

-- so many columns are left of the tab at one place only
same-columns : (c v w : ℕ) → v < 4 - c % 4 → w < 4 - c % 4 → 3 - (c + v + 1 + 3) % 4 ≡ 3 - (c + w + 1 + 3) % 4 → v ≡ w
same-columns c v w a b e = omega arith

same-vs : (text : List ℕ) (spaces : ℕ) (p q : Point) → Placed text p → Placed text q → p.index ≡ q.index →
    Cut spaces p → Cut spaces q → p.vs ≡ q.vs
same-vs text zero p q a b index cut cut' = cut ∙ sym cut'
same-vs text (suc n) p q a b index cut cut' =
    let before : columns_before text q.index ≡ columns_before text p.index = ap (columns_before text) (sym index) in
    by (columns_before text p.index) a.column (b.column ∙ ap (λ (c : ℕ). c + q.vs + 1) before) (few text p a cut.0)
    (subst (λ (c : ℕ). q.vs < 4 - c % 4) before (few text q b cut'.0))
    (sym cut.1 ∙ cut'.1)
  where
    by : (c : ℕ) → p.column ≡ c + p.vs + 1 → q.column ≡ c + q.vs + 1 → p.vs < 4 - c % 4 → q.vs < 4 - c % 4 →
        columns_more p ≡ columns_more q → p.vs ≡ q.vs
    by c e f small small' more =
        same-columns c p.vs q.vs small small'
        (ap (λ (k : ℕ). 3 - (k + 3) % 4) (sym e) ∙ more ∙ ap (λ (k : ℕ). 3 - (k + 3) % 4) f)

-- what is left of a tab is known from its point
pub same-spaces : (a b : ℕ) (p : Point) → Cut a p → Cut b p → a ≡ b
same-spaces zero zero p h k = refl
same-spaces zero (suc m) p h k = absurd (omega (arith, h, k.0))
same-spaces (suc n) zero p h k = absurd (omega (arith, h.0, k))
same-spaces (suc n) (suc m) p h k = ap suc (h.1 ∙ sym k.1)

both : (x y : Bool) → (x ≡ true → y ≡ true) → (y ≡ true → x ≡ true) → x ≡ y
both true true f g = refl
both true false f g = sym (f refl)
both false true f g = g refl
both false false f g = refl

-- Two rests begin at one point where they are left alike.
pub same-on : (text following : List ℕ) (r s : Rest) (p q : Point) → RestAt text following r p →
    RestAt text following s q →
    Placed text p → Placed text q → is_same r s ≡ same_place p q
same-on text following r s p q at at' placed placed' = both (is_same r s) (same_place p q) forward backward
  where
    left : length text - p.index ≡ cut_len r.spaces + length r.bytes + length following
    left = rest-length text following r p at

    left' : length text - q.index ≡ cut_len s.spaces + length s.bytes + length following
    left' = rest-length text following s q at'

    forward : is_same r s ≡ true → same_place p q ≡ true
    forward e =
        let parts = and_parts (length r.bytes == length s.bytes) (r.spaces == s.spaces) e in
        let bytes : length r.bytes ≡ length s.bytes = eqb-true (length r.bytes) (length s.bytes) parts.0 in
        let spaces : r.spaces ≡ s.spaces = eqb-true r.spaces s.spaces parts.1 in
        let cut : cut_len r.spaces ≡ cut_len s.spaces = ap cut_len spaces in
        let index : p.index ≡ q.index = alike (cut_len r.spaces) (cut_len s.spaces) left left' bytes cut placed.index
        placed'.index in
        and_from (p.index == q.index) (p.vs == q.vs) (eq-eqb p.index q.index index)
        (eq-eqb p.vs q.vs
        (same-vs text r.spaces p q placed placed' index at.cut
        (subst (λ (k : ℕ). Cut k q) (sym spaces) at'.cut)))
      where
        alike : (c d : ℕ) → length text - p.index ≡ c + length r.bytes + length following →
            length text - q.index ≡ d + length s.bytes + length following → length r.bytes ≡ length s.bytes → c ≡ d →
            p.index ≤ length text → q.index ≤ length text → p.index ≡ q.index
        alike c d e f g h le le' = omega arith

    backward : same_place p q ≡ true → is_same r s ≡ true
    backward e =
        let parts = and_parts (p.index == q.index) (p.vs == q.vs) e in
        let index : p.index ≡ q.index = eqb-true p.index q.index parts.0 in
        let one : p ≡ q = one-point text p q placed placed' index (eqb-true p.vs q.vs parts.1) in
        let spaces : r.spaces ≡ s.spaces = same-spaces r.spaces s.spaces q
        (subst (Cut r.spaces) one at.cut) at'.cut in
        let cut : cut_len r.spaces ≡ cut_len s.spaces = ap cut_len spaces in
        and_from (length r.bytes == length s.bytes) (r.spaces == s.spaces)
        (eq-eqb (length r.bytes) (length s.bytes)
        (alike (cut_len r.spaces) (cut_len s.spaces) left left' index cut))
        (eq-eqb r.spaces s.spaces spaces)
      where
        alike : (c d : ℕ) → length text - p.index ≡ c + length r.bytes + length following →
            length text - q.index ≡ d + length s.bytes + length following → p.index ≡ q.index → c ≡ d →
            length r.bytes ≡ length s.bytes
        alike c d e f g h = omega arith

-- So a piece, whitespace, a part and a text part are those between the two points.
pub piece-on : (text following : List ℕ) (line : TextLine) (name : Name) (r s : Rest) (p q : Point) →
    LineIn text following line → OnLine text following line r p → OnLine text following line s q →
    piece line name r s ≡ pair_unless_empty name p q
piece-on text following line name r s p q is on on' =
    ap (λ (x : Bool). cond x [] (part line name r s []))
    (same-on text following r s p q on.valid on'.valid on.placed on'.placed)
    ∙ ap₂ (λ (a b : Point). cond (same_place p q) [] (around name a b []))
    (place-on text following line r p is on) (place-on text following line s q is on')

pub white-on : (text following : List ℕ) (line : TextLine) (r s : Rest) (p q : Point) → LineIn text following line →
    OnLine text following line r p → OnLine text following line s q → white line r s ≡
    pair_unless_empty n.SpaceOrTab p q
white-on text following line r s p q is on on' = piece-on text following line n.SpaceOrTab r s p q is on on'

pub part-on : (text following : List ℕ) (line : TextLine) (name : Name) (r s : Rest) (p q : Point)
    (inside : List Event) →
    LineIn text following line → OnLine text following line r p → OnLine text following line s q →
    part line name r s inside ≡ around name p q inside
part-on text following line name r s p q inside is on on' =
    ap₂ (λ (a b : Point). around name a b inside) (place-on text following line r p is on)
    (place-on text following line s q is on')

pub text_part-on : (text following : List ℕ) (line : TextLine) (content : Content) (name : Name) (r s : Rest)
    (p q : Point) →
    LineIn text following line → OnLine text following line r p → OnLine text following line s q →
    text_part line content name r s ≡ cond (same_place p q) [] (around name p q (chunk content p q))
text_part-on text following line content name r s p q is on on' =
    ap (λ (x : Bool). cond x [] (part line name r s (chunk content (place line r) (place line s))))
    (same-on text following r s p q on.valid on'.valid on.placed on'.placed)
    ∙ ap₂ (λ (a b : Point). cond (same_place p q) [] (around name a b (chunk content a b)))
    (place-on text following line r p is on) (place-on text following line s q is on')
