-- What the search for a name finds, in a table whose names rise.
use Rattle.std.proofs.Common.{◌≡◌, ℕ, zero, suc, ◌+◌, ◌-◌, ◌<◌, ◌≤◌, Bool, true, false, cond, ◌&&◌, nat_le, List, []}
use Rattle.std.proofs.Common.{◌∷◌}
use Rattle.std.proofs.Common.{map, length, drop, get_or, Option, Some, None, Result, Ok, Err, inl, inr}
use Rattle.std.proofs.Common.{refl, ap, sym, subst, ◌∙◌, arith}
use Rattle.std.proofs.Common.{le_of_suc-le-suc, not-suc-le-zero}
use Rattle.std.specs.Prelude.{option_map, not}
use Rattle.std.specs.List.{take_while}
use Rattle.std.specs.List.Sorted.{IsBinarySearchResult, IsSearchInRange, IsSortedBy}
use Rattle.std.specs.Ordering.{is_eq, is_lt, nat_cmp}
use Rattle.std.specs.Str.{bytes_eq}
use Rattle.std.specs.Cmp.Lexicographic.{slice_cmp}
use Rattle.std.specs.declared.cmp.Ordering.{Ordering}
use Rattle.std.specs.declared.cmp.Ordering.TheVariants.{Less, Equal, Greater}
use Rattle.std.proofs.lemmas.Bool.{and_parts, cases_lt}
use Rattle.std.proofs.lemmas.Bool.Decides.{nat_tests}
use Rattle.std.proofs.lemmas.Cmp.{nat_list_cmp_total}
use Rattle.std.proofs.lemmas.List.{drop-drop, get_or-map, length-map}
use Rattle.std.proofs.lemmas.List.Sorted.{searchable_from_sorted}
use Rattle.std.proofs.lemmas.Map.Lookups.{exact_bytes}
use Rattle.std.proofs.lemmas.Map.Text.{is_eq-slice_cmp}
use Rattle.md_entities.specs.Names.{is_semicolon, name_from, names, place_among, place_of}
use Rattle.md_entities.specs.declared.table.TheConstants.{NAMES, STARTS}

abbrev order : List ℕ → List ℕ → Ordering
order = slice_cmp nat_cmp

-- Where names start.

-- the names that start at these bytes, of which the text is given from a byte on
unfoldable pub pieces : List ℕ → ℕ → List ℕ → List (List ℕ)
pieces [] at text = []
pieces (start ∷ starts) at text =
    take_while (λ b. not (is_semicolon b)) (drop (start - at) text) ∷ pieces starts start (drop (start - at) text)

unfoldable pub ascend : ℕ → List ℕ → Bool
ascend at [] = true
ascend at (start ∷ starts) = nat_le at start && ascend start starts

pieces-named : (text : List ℕ) (starts : List ℕ) (at : ℕ) → ascend at starts ≡ true →
    pieces starts at (drop at text) ≡ map (name_from text) starts
unfolding pieces ascend
pieces-named text [] at h = refl
pieces-named text (start ∷ starts) at h =
    let parts = and_parts (nat_le at start) (ascend start starts) h in
    let on : at ≤ start = grind (arith, nat_tests, parts.0) in
    let sum : at + (start - at) ≡ start = omega arith in
    let here : drop (start - at) (drop at text) ≡ drop start text =
    drop-drop (start - at) at text ∙ ap (λ n. drop n text) sum in
    rw here (ap (λ xs. name_from text start ∷ xs) (pieces-named text starts start parts.1))

-- Names that rise.

unfoldable pub rise : List (List ℕ) → Bool
rise [] = true
rise (a ∷ []) = true
rise (a ∷ b ∷ names) = is_lt (order a b) && rise (b ∷ names)

less : (o : Ordering) → is_lt o ≡ true → o ≡ Less
less Less h = refl
less Equal h = cc
less Greater h = cc

-- the first is less than each other
first-less : (xs : List (List ℕ)) (a : List ℕ) → rise (a ∷ xs) ≡ true → (i : ℕ) → i < length xs →
    order a (get_or xs i []) ≡ Less
unfolding rise
first-less [] a h i lt = absurd (not-suc-le-zero lt)
first-less (b ∷ xs) a h zero lt = less (order a b) (and_parts (is_lt (order a b)) (rise (b ∷ xs)) h).0
first-less (b ∷ xs) a h (suc i) lt =
    let parts = and_parts (is_lt (order a b)) (rise (b ∷ xs)) h in
    nat_list_cmp_total.trans a b (get_or xs i []) (less (order a b) parts.0)
    (first-less xs b parts.1 i (le_of_suc-le-suc lt))

rise-tail : (xs : List (List ℕ)) (a : List ℕ) → rise (a ∷ xs) ≡ true → rise xs ≡ true
unfolding rise
rise-tail [] a h = refl
rise-tail (b ∷ xs) a h = (and_parts (is_lt (order a b)) (rise (b ∷ xs)) h).1

pub each-less : (xs : List (List ℕ)) → rise xs ≡ true → (j i : ℕ) → j < i → i < length xs →
    order (get_or xs j []) (get_or xs i []) ≡ Less
each-less [] h j i lt in' = absurd (not-suc-le-zero in')
each-less (a ∷ xs) h j zero lt in' = absurd (not-suc-le-zero lt)
each-less (a ∷ xs) h zero (suc i) lt in' = first-less xs a h i (le_of_suc-le-suc in')
each-less (a ∷ xs) h (suc j) (suc i) lt in' =
    each-less xs (rise-tail xs a h) j i (le_of_suc-le-suc lt) (le_of_suc-le-suc in')

-- Places.

pub found : (xs : List (List ℕ)) (name : List ℕ) (i : ℕ) → i < length xs → bytes_eq (get_or xs i []) name ≡ true →
    ((j : ℕ) → j < i → bytes_eq (get_or xs j []) name ≡ false) → place_among xs name ≡ Some i
found [] name i in' is before = absurd (not-suc-le-zero in')
found (a ∷ xs) name zero in' is before =
    ap (λ b. cond b (Some 0) (option_map suc (place_among xs name))) is
found (a ∷ xs) name (suc i) in' is before =
    let first : bytes_eq a name ≡ false = before 0 (omega arith) in
    let rest : place_among xs name ≡ Some i =
    found xs name i (le_of_suc-le-suc in') is (λ j lt. before (suc j) (omega (arith, lt))) in
    ap (λ b. cond b (Some 0) (option_map suc (place_among xs name))) first ∙ ap (option_map suc) rest

pub absent : (xs : List (List ℕ)) (name : List ℕ) →
    ((j : ℕ) → j < length xs → bytes_eq (get_or xs j []) name ≡ false) → place_among xs name ≡ None
absent [] name none = refl
absent (a ∷ xs) name none =
    let first : bytes_eq a name ≡ false = none 0 (omega arith) in
    let rest : place_among xs name ≡ None = absent xs name (λ j lt. none (suc j) (omega (arith, lt))) in
    ap (λ b. cond b (Some 0) (option_map suc (place_among xs name))) first ∙ ap (option_map suc) rest

same : (a b : List ℕ) → order a b ≡ Equal → bytes_eq a b ≡ true
same a b e = sym (is_eq-slice_cmp a b) ∙ ap is_eq e

other-less : (a b : List ℕ) → order a b ≡ Less → bytes_eq a b ≡ false
other-less a b e = sym (is_eq-slice_cmp a b) ∙ ap is_eq e

other-greater : (a b : List ℕ) → order a b ≡ Greater → bytes_eq a b ≡ false
other-greater a b e = sym (is_eq-slice_cmp a b) ∙ ap is_eq e

-- The search.

abbrev pub found_place : Result ℕ ℕ → Option ℕ
found_place (Ok place) = Some place
found_place (Err place) = None

module _ (key : ℕ → List ℕ) (starts : List ℕ) (rises : rise (map key starts) ≡ true) where
  key-at : (i : ℕ) → i < length starts → (d : ℕ) → get_or (map key starts) i [] ≡ key (get_or starts i d)
  key-at i in' d = get_or-map key starts i d [] in'

  not-less : (o : Ordering) → o ≡ Greater → is_lt o ≡ false
  not-less o e = ap is_lt e

  sorted : IsSortedBy (λ a b. is_lt (order (key a) (key b))) starts
  sorted k d low high =
      let here : get_or (map key starts) k [] ≡ key (get_or starts k d) = key-at k (omega arith) d in
      let next : get_or (map key starts) (k + 1) [] ≡ key (get_or starts (k + 1) d) = key-at (k + 1) (omega arith) d in
      let up : order (get_or (map key starts) k []) (get_or (map key starts) (k + 1) []) ≡ Less =
      each-less (map key starts) rises k (k + 1) (omega arith) (omega (arith, length-map starts key)) in
      let up_keys : order (key (get_or starts k d)) (key (get_or starts (k + 1) d)) ≡ Less =
      subst (λ a. order a (key (get_or starts (k + 1) d)) ≡ Less) here
      (subst (λ b. order (get_or (map key starts) k []) b ≡ Less) next up) in
      let back : order (key (get_or starts (k + 1) d)) (key (get_or starts k d)) ≡ Greater =
      nat_list_cmp_total.antisymm (key (get_or starts (k + 1) d)) (key (get_or starts k d)) ∙ cc in
      not-less (order (key (get_or starts (k + 1) d)) (key (get_or starts k d))) back

  pub searched : (name : List ℕ) (r : Result ℕ ℕ) → IsSearchInRange r (length starts) →
      IsBinarySearchResult (λ start. order (key start) name) starts r →
      found_place r ≡ place_among (map key starts) name
  searched name (Ok i) in' is =
      let equal : bytes_eq (get_or (map key starts) i []) name ≡ true =
      rw (key-at i in' 0) (same (key (get_or starts i 0)) name (is 0)) in
      let is_name : get_or (map key starts) i [] ≡ name =
      exact_bytes (get_or (map key starts) i []) name (rw (key-at i in' 0) (is 0)) in
      sym
      (found (map key starts) name i (omega (arith, length-map starts key)) equal
      (λ j lt. other-less (get_or (map key starts) j []) name
      (subst (λ n. order (get_or (map key starts) j []) n ≡ Less) is_name
      (each-less (map key starts) rises j i lt (omega (arith, length-map starts key))))))
  searched name (Err i) in' parted =
      let point = parted (searchable_from_sorted nat_list_cmp_total key starts name sorted) in
      sym
      (absent (map key starts) name
      (λ j lt.
      let within : j < length starts = omega (arith, lt, length-map starts key) in
      elim (cases_lt j i) [
        | inl below ↦ other-less (get_or (map key starts) j []) name
            (rw (key-at j within 0) (point.0 j 0 (omega arith) below))
        | inr above ↦ other-greater (get_or (map key starts) j []) name
            (rw (key-at j within 0) (point.1 j 0 above within))
      ]))

-- The table.

starts-ascend : ascend 0 STARTS ≡ true
unfolding ascend
starts-ascend = refl

starts-named : pieces STARTS 0 NAMES ≡ names
unfolding pieces names
starts-named = refl

names-rise : rise names ≡ true
unfolding rise names
names-rise = refl

pub table-names : map (name_from NAMES) STARTS ≡ names
table-names = sym (pieces-named NAMES STARTS 0 starts-ascend) ∙ starts-named

pub table-rises : rise (map (name_from NAMES) STARTS) ≡ true
table-rises = ap rise table-names ∙ names-rise

-- what the search finds is the place of the name
pub looked-up : (name : List ℕ) (r : Result ℕ ℕ) → IsSearchInRange r (length STARTS) →
    IsBinarySearchResult (λ start. order (name_from NAMES start) name) STARTS r → found_place r ≡ place_of name
unfolding place_of
looked-up name r in' is =
    searched (name_from NAMES) STARTS table-rises name r in' is ∙ ap (λ xs. place_among xs name) table-names
