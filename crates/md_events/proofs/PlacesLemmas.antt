-- Points of a text, and the points after pieces of its lines.
use Rattle.std.proofs.Common.{◌≡◌, ℕ, zero, suc, ◌+◌, ◌-◌, ◌%◌, ◌<◌, ◌≤◌, Bool, true, false, cond, ◌&&◌, ◌||◌, List, []}
use Rattle.std.proofs.Common.{◌∷◌, ◌++◌, length, take, drop, refl, ap, sym, ◌∙◌, subst, add-one, arith}
use Rattle.std.specs.Prelude.{◌==◌, not, nat_lt, nat_le, slice_index}
use Rattle.std.specs.List.{list_all, onto_first}
use Rattle.std.proofs.lemmas.Bool.{and_left, and_right, and_parts, and_from, leb-true, eqb-true, eq-eqb, not-true}
use Rattle.std.proofs.lemmas.Bool.Decides.{nat_tests}
use Rattle.md_engine.specs.declared.event.Point.{Point}
use Rattle.md_engine.specs.declared.event.Event.{Event}
use Rattle.md_engine.specs.Place.{is_pair}
use Rattle.md_meaning.specs.Lines.{is_ending, begins_with, ends_line}
use Rattle.md_meaning.specs.Rest.{tab_columns}
use Rattle.md_meaning.specs.Texts.{split_lines, first_byte}
use Rattle.md_events.specs.Events.Places.{column_past, columns_from, last_line, columns_before, within_tab, is_placed}
use Rattle.md_events.specs.Events.Places.{past_byte, past_text, same_place, splits_pair}
use Rattle.md_meaning.proofs.TextsLemmas.{NoEnding, split-line}

-- The last line grows by a byte that is no ending.

-- a byte after the last of some lines
abbrev pub onto_last : ℕ → List (List ℕ) → List (List ℕ)
onto_last b [] = (b ∷ []) ∷ []
onto_last b (line ∷ []) = (line ++ b ∷ []) ∷ []
onto_last b (line ∷ next ∷ lines) = line ∷ onto_last b (next ∷ lines)

-- there is a line
abbrev pub Some_line : List (List ℕ) → Type 0
Some_line [] = ⊥
Some_line (line ∷ lines) = Unit {0}

some-onto : (b : ℕ) (lines : List (List ℕ)) → Some_line (onto_first b lines)
some-onto b [] = tt
some-onto b (line ∷ lines) = tt

pub some-split : (text : List ℕ) → Some_line (split_lines text)
some-split [] = tt
some-split (b ∷ bs) = go (ends_line b bs) (is_ending b) (some-split bs)
  where
    go : (x y : Bool) → Some_line (split_lines bs) →
        Some_line (cond x ([] ∷ split_lines bs) (cond y (split_lines bs) (onto_first b (split_lines bs))))
    go true y s = tt
    go false true s = s
    go false false s = some-onto b (split_lines bs)

onto_last-next : (b : ℕ) (line : List ℕ) (lines : List (List ℕ)) → Some_line lines →
    onto_last b (line ∷ lines) ≡ line ∷ onto_last b lines
onto_last-next b line [] s = absurd s
onto_last-next b line (next ∷ lines) s = refl

onto_last-first : (b c : ℕ) (lines : List (List ℕ)) → Some_line lines →
    onto_last b (onto_first c lines) ≡ onto_first c (onto_last b lines)
onto_last-first b c [] s = absurd s
onto_last-first b c (line ∷ []) s = refl
onto_last-first b c (line ∷ next ∷ lines) s = refl

no_feed : (b : ℕ) → is_ending b ≡ false → (b == 10) ≡ false
no_feed b h = go (b == 10) (b == 13) h
  where
    go : (x y : Bool) → (x || y) ≡ false → x ≡ false
    go false y h = refl
    go true y h = h

-- a byte of a line is no CR
no_return : (b : ℕ) → is_ending b ≡ false → (b == 13) ≡ false
no_return b h = go (b == 10) (b == 13) h
  where
    go : (x y : Bool) → (x || y) ≡ false → y ≡ false
    go false y h = h
    go true y h = cc

begins-snoc : (b : ℕ) (text : List ℕ) → is_ending b ≡ false → begins_with 10 (text ++ b ∷ []) ≡ begins_with 10 text
begins-snoc b [] h = no_feed b h
begins-snoc b (c ∷ text) h = refl

pub split-snoc : (text : List ℕ) (b : ℕ) → is_ending b ≡ false →
    split_lines (text ++ b ∷ []) ≡ onto_last b (split_lines text)
split-snoc [] b h = split-line (b ∷ []) (h, tt)
split-snoc (c ∷ text) b h =
    ap
    (λ (x : Bool).
    cond ((c == 10) || ((c == 13) && not x)) ([] ∷ split_lines (text ++ b ∷ []))
    (cond (is_ending c) (split_lines (text ++ b ∷ [])) (onto_first c (split_lines (text ++ b ∷ [])))))
    (begins-snoc b text h)
    ∙ ap (λ (r : List (List ℕ)). cond (ends_line c text) ([] ∷ r) (cond (is_ending c) r (onto_first c r)))
    (split-snoc text b h)
    ∙ go (ends_line c text) (is_ending c)
  where
    go : (x y : Bool) →
        cond x ([] ∷ onto_last b (split_lines text))
        (cond y (onto_last b (split_lines text)) (onto_first c (onto_last b (split_lines text))))
        ≡ onto_last b (cond x ([] ∷ split_lines text) (cond y (split_lines text) (onto_first c (split_lines text))))
    go true y = sym (onto_last-next b [] (split_lines text) (some-split text))
    go false true = refl
    go false false = sym (onto_last-first b c (split_lines text) (some-split text))

length-onto_last : (b : ℕ) (lines : List (List ℕ)) → Some_line lines → length (onto_last b lines) ≡ length lines
length-onto_last b [] s = absurd s
length-onto_last b (line ∷ []) s = refl
length-onto_last b (line ∷ next ∷ lines) s = ap suc (length-onto_last b (next ∷ lines) tt)

-- the last line is that of those after the first, where there are some
pub last-next : (line : List ℕ) (lines : List (List ℕ)) → Some_line lines → last_line (line ∷ lines) ≡ last_line lines
last-next line [] s = absurd s
last-next line (next ∷ lines) s = refl

some-onto_last : (b : ℕ) (lines : List (List ℕ)) → Some_line (onto_last b lines)
some-onto_last b [] = tt
some-onto_last b (line ∷ []) = tt
some-onto_last b (line ∷ next ∷ lines) = tt

last-onto_last : (b : ℕ) (lines : List (List ℕ)) → Some_line lines →
    last_line (onto_last b lines) ≡ last_line lines ++ b ∷ []
last-onto_last b [] s = absurd s
last-onto_last b (line ∷ []) s = refl
last-onto_last b (line ∷ next ∷ lines) s =
    last-next line (onto_last b (next ∷ lines)) (some-onto_last b (next ∷ lines)) ∙ last-onto_last b (next ∷ lines) tt

columns-snoc : (column b : ℕ) (line : List ℕ) →
    columns_from column (line ++ b ∷ []) ≡ column_past b (columns_from column line)
columns-snoc column b [] = refl
columns-snoc column b (c ∷ line) = columns-snoc (column_past c column) b line

-- Points after bytes.

take-next : (index : ℕ) (bytes : List ℕ) (b : ℕ) (rest : List ℕ) → drop index bytes ≡ b ∷ rest →
    take (suc index) bytes ≡ take index bytes ++ b ∷ []
take-next zero [] b rest e = cc
take-next zero (c ∷ bytes) b rest e = ap (λ (x : ℕ). x ∷ []) (ap first_byte e)
take-next (suc index) [] b rest e = cc
take-next (suc index) (c ∷ bytes) b rest e = ap (λ (l : List ℕ). c ∷ l) (take-next index bytes b rest e)

pub drop-next : (index : ℕ) (bytes : List ℕ) (b : ℕ) (rest : List ℕ) → drop index bytes ≡ b ∷ rest →
    drop (suc index) bytes ≡ rest
drop-next zero [] b rest e = cc
drop-next zero (c ∷ bytes) b rest e = ap (drop 1) e
drop-next (suc index) [] b rest e = cc
drop-next (suc index) (c ∷ bytes) b rest e = drop-next index bytes b rest e

index-next : (index : ℕ) (bytes : List ℕ) (b : ℕ) (rest : List ℕ) → drop index bytes ≡ b ∷ rest →
    suc index ≤ length bytes
index-next zero [] b rest e = cc
index-next zero (c ∷ bytes) b rest e = omega arith
index-next (suc index) [] b rest e = cc
index-next (suc index) (c ∷ bytes) b rest e =
    let h : suc index ≤ length bytes = index-next index bytes b rest e in omega arith

-- the column after a tab is the same from within it
same_stop : (column vs : ℕ) → vs < 4 - column % 4 → (column + vs) + (4 - (column + vs) % 4) ≡ column + (4 - column % 4)
same_stop column vs h = omega arith

-- the first byte that is left
pub at-next : (index : ℕ) (bytes : List ℕ) (b : ℕ) (rest : List ℕ) → drop index bytes ≡ b ∷ rest →
    slice_index bytes index ≡ b
at-next zero [] b rest e = cc
at-next zero (c ∷ bytes) b rest e = ap first_byte e
at-next (suc index) [] b rest e = cc
at-next (suc index) (c ∷ bytes) b rest e = at-next index bytes b rest e

-- later bytes are elsewhere
pub apart-later : (p q : Point) → p.index < q.index → same_place p q ≡ false
apart-later p q h = grind (arith, nat_tests)

-- after a byte that is no CR, no ending continues
pub apart-following : (bytes : List ℕ) (i : ℕ) → (slice_index bytes i == 13) ≡ false → splits_pair bytes (i + 1) ≡ false
apart-following bytes i h =
    and_right (nat_lt 0 (i + 1)) (is_pair bytes (i + 1 - 1))
    (ap (is_pair bytes) same ∙ and_left (slice_index bytes i == 13) (slice_index bytes (i + 1) == 10) h)
  where
    same : i + 1 - 1 ≡ i
    same = omega arith

-- What it means that a point is one of the text.
pub record Placed (bytes : List ℕ) (p : Point) : Type 0 where
  pub index : p.index ≤ length bytes
  pub within : within_tab bytes p ≡ true
  pub line : p.line ≡ length (split_lines (take p.index bytes))
  pub column : p.column ≡ columns_before bytes p.index + p.vs + 1
  pub apart : splits_pair bytes p.index ≡ false

pub placed-facts : (bytes : List ℕ) (p : Point) → is_placed bytes p ≡ true → Placed bytes p
placed-facts bytes p h =
    let line : Bool = p.line == length (split_lines (take p.index bytes)) in
    let column : Bool = p.column == columns_before bytes p.index + p.vs + 1 in
    let whole : (nat_le p.index (length bytes) && within_tab bytes p && line && column ≡ true) ×
    (not (splits_pair bytes p.index) ≡ true) =
    and_parts (nat_le p.index (length bytes) && within_tab bytes p && line && column)
    (not (splits_pair bytes p.index)) h in
    let outer : (nat_le p.index (length bytes) && within_tab bytes p && line ≡ true) ×
    (column ≡ true) = and_parts (nat_le p.index (length bytes) && within_tab bytes p && line) column whole.0 in
    let middle : (nat_le p.index (length bytes) && within_tab bytes p ≡ true) ×
    (line ≡ true) = and_parts (nat_le p.index (length bytes) && within_tab bytes p) line outer.0 in
    let inner : (nat_le p.index (length bytes) ≡ true) ×
    (within_tab bytes p ≡ true) = and_parts (nat_le p.index (length bytes)) (within_tab bytes p) middle.0 in
    record {
      index = leb-true _ _ inner.0;
      within = inner.1;
      line = eqb-true _ _ middle.1;
      column = eqb-true _ _ outer.1;
      apart = not-true (splits_pair bytes p.index) whole.1;
    }

le-test : (a b : ℕ) → a ≤ b → nat_le a b ≡ true
le-test a b h = grind (arith, nat_tests)

pub placed-from : (bytes : List ℕ) (p : Point) → Placed bytes p → is_placed bytes p ≡ true
placed-from bytes p h =
    let line : Bool = p.line == length (split_lines (take p.index bytes)) in
    let column : Bool = p.column == columns_before bytes p.index + p.vs + 1 in
    and_from (nat_le p.index (length bytes) && within_tab bytes p && line && column) (not (splits_pair bytes p.index))
    (and_from (nat_le p.index (length bytes) && within_tab bytes p && line) column
    (and_from (nat_le p.index (length bytes) && within_tab bytes p) line
    (and_from (nat_le p.index (length bytes)) (within_tab bytes p) (le-test p.index (length bytes) h.index) h.within)
    (eq-eqb p.line (length (split_lines (take p.index bytes))) h.line))
    (eq-eqb p.column (columns_before bytes p.index + p.vs + 1) h.column))
    (ap not h.apart)

-- the column after a byte, from the columns before its point
column-following : (b before vs column : ℕ) → column ≡ before + vs + 1 →
    ((vs == 0) || ((b == 9) && nat_lt vs (tab_columns before))) ≡ true →
    column_past b (column - 1) ≡ column_past b before
column-following b before vs column e h = go (b == 9) h
  where
    go : (x : Bool) → ((vs == 0) || (x && nat_lt vs (4 - before % 4))) ≡ true →
        cond x ((column - 1) + (4 - (column - 1) % 4)) ((column - 1) + 1) ≡
        cond x (before + (4 - before % 4)) (before + 1)
    go false h = omega (arith, none h)
      where
        none : ((vs == 0) || false) ≡ true → vs ≡ 0
        none h = grind (arith, nat_tests)
    go true h = ap (λ (c : ℕ). c + (4 - c % 4)) less ∙ same_stop before vs small
      where
        less : column - 1 ≡ before + vs
        less = omega arith

        small : vs < 4 - before % 4
        small = grind (arith, nat_tests)

-- The point after a byte that is no ending is one of the text.
pub placed-byte : (bytes : List ℕ) (p : Point) (b : ℕ) (rest : List ℕ) → Placed bytes p →
    drop p.index bytes ≡ b ∷ rest → is_ending b ≡ false → Placed bytes (past_byte b p)
placed-byte bytes p b rest placed next line =
    let taken : take (p.index + 1) bytes ≡ take p.index bytes ++ b ∷ [] = ap (λ (i : ℕ). take i bytes) (add-one p.index)
    ∙ take-next p.index bytes b rest next in
    let lines : split_lines (take (p.index + 1) bytes) ≡
    onto_last b (split_lines (take p.index bytes)) = ap split_lines taken
    ∙ split-snoc (take p.index bytes) b line in
    let columns : columns_before bytes (p.index + 1) ≡ column_past b (columns_before bytes p.index) =
    ap (λ (ls : List (List ℕ)). columns_from 0 (last_line ls)) lines
    ∙ ap (columns_from 0) (last-onto_last b (split_lines (take p.index bytes)) (some-split (take p.index bytes)))
    ∙ columns-snoc 0 b (last_line (split_lines (take p.index bytes))) in
    let within : ((p.vs == 0) || ((b == 9) && nat_lt p.vs (tab_columns (columns_before bytes p.index)))) ≡ true =
    subst
    (λ (l : List ℕ).
    ((p.vs == 0) || ((first_byte l == 9) && nat_lt p.vs (tab_columns (columns_before bytes p.index)))) ≡ true) next
    placed.within in
    let column : column_past b (p.column - 1) ≡
    columns_before bytes (p.index + 1) = column-following b
    (columns_before bytes p.index) p.vs p.column placed.column within
    ∙ sym columns in
    let index : suc p.index ≤ length bytes = index-next p.index bytes b rest next in
    record {
      index = omega arith;
      within = refl;
      line =
          placed.line ∙ sym (length-onto_last b (split_lines (take p.index bytes)) (some-split (take p.index bytes)))
          ∙ sym (ap length lines);
      column = omega arith;
      apart =
          apart-following bytes p.index (ap (λ (x : ℕ). x == 13) (at-next p.index bytes b rest next)
          ∙ no_return b line);
    }

-- So is the point after a piece of a line.
pub placed-text : (bytes : List ℕ) (p : Point) (text rest : List ℕ) → Placed bytes p →
    drop p.index bytes ≡ text ++ rest → NoEnding text → Placed bytes (past_text text p)
placed-text bytes p [] rest placed next line = placed
placed-text bytes p (b ∷ text) rest placed next line =
    placed-text bytes (past_byte b p) text rest (placed-byte bytes p b (text ++ rest) placed next line.0)
    (ap (λ (i : ℕ). drop i bytes) (add-one p.index) ∙ drop-next p.index bytes b (text ++ rest) next) line.1

-- a fact of events that are one after the other
pub all-append : (test : Event → Bool) (xs ys : List Event) → list_all test xs ≡ true → list_all test ys ≡ true →
    list_all test (xs ++ ys) ≡ true
all-append test [] ys h k = k
all-append test (e ∷ xs) ys h k =
    let parts : (test e ≡ true) × (list_all test xs ≡ true) = and_parts (test e) (list_all test xs) h in
    and_from (test e) (list_all test (xs ++ ys)) parts.0 (all-append test xs ys parts.1 k)
