-- Places ahead in the rows of a text: of some rows so many are left, and of the first of these so many bytes.
use Rattle.std.proofs.Common.{◌≡◌, ℕ, zero, suc, ◌+◌, ◌-◌, ◌≤◌, List, [], ◌∷◌, ◌++◌, length, take, drop, map, refl, sym}
use Rattle.std.proofs.Common.{ap, ◌∙◌, subst, arith, append_assoc}
use Rattle.std.proofs.lemmas.List.{drop-drop, length-append, length-drop, length-map}
use Rattle.md_meaning.specs.Rest.{Rest, trim_start}
use Rattle.md_events.specs.Events.Places.{column_past, columns_from}
use Rattle.md_events.specs.Exact.Places.{past}
use Rattle.md_events.specs.Exact.Rows.{Row}
use Rattle.md_events.specs.Exact.Texts.{ahead, back, left, lines_left, on_first}

-- Bytes after others.

columns-two : (n a c : ℕ) (b : List ℕ) →
    columns_from (columns_from c (take n b) + 0) (take a (drop n b)) ≡ columns_from c (take (n + a) b)
columns-two zero a c b =
    ap (λ (x : ℕ). columns_from x (take a b)) (omega arith) ∙ ap (λ (x : ℕ). columns_from c (take x b)) (omega arith)
columns-two (suc n) a c [] = none a ∙ ap (λ (x : ℕ). columns_from c (take x [])) next
  where
    next : suc (n + a) ≡ suc n + a
    next = omega arith

    none : (a : ℕ) → columns_from (c + 0) (take a []) ≡ c
    none zero = omega arith
    none (suc a) = omega arith
columns-two (suc n) a c (x ∷ b) =
    let next : suc (n + a) ≡ suc n + a = omega arith in
    columns-two n a (column_past x c) b ∙ ap (λ (m : ℕ). columns_from c (take m (x ∷ b))) next

pub past-past : (n a : ℕ) (r : Rest) → past a (past n r) ≡ past (n + a) r
past-past n a r =
    ap (λ (c : ℕ). rest c (drop a (drop n r.bytes))) (columns-two n a (r.column + r.spaces) r.bytes)
    ∙ ap (rest (columns_from (r.column + r.spaces) (take (n + a) r.bytes))) (drop-drop a n r.bytes)
  where
    rest : ℕ → List ℕ → Rest
    rest column bytes = record { column = column; spaces = 0; bytes = bytes }

-- with another rest
abbrev pub at : Row → Rest → Row
at row r = record row { rest = r }

-- so many bytes of a row are passed, and all rows before it
pub record Ahead (rows ends : List Row) : Type 0 where
  pub front : List Row
  pub row : Row
  pub more : List Row
  pub size : ℕ
  pub fits : size ≤ length row.rest.bytes
  pub rows_are : rows ≡ front ++ row ∷ more
  pub ends_are : ends ≡ at row (past size row.rest) ∷ more

pub ahead-here : (row : Row) (rows : List Row) (size : ℕ) → size ≤ length row.rest.bytes →
    Ahead (row ∷ rows) (at row (past size row.rest) ∷ rows)
ahead-here row rows size fits =
    record { front = []; row = row; more = rows; size = size; fits = fits; rows_are = refl; ends_are = refl }

pub ahead-next : (row : Row) (rows ends : List Row) → Ahead rows ends → Ahead (row ∷ rows) ends
ahead-next row rows ends h = record {
  front = row ∷ h.front;
  row = h.row;
  more = h.more;
  size = h.size;
  fits = h.fits;
  rows_are = ap (λ (l : List Row). row ∷ l) h.rows_are;
  ends_are = h.ends_are;
}

-- from bytes further on, and up to bytes further on
pub ahead-from : (row : Row) (rows ends : List Row) (n : ℕ) → n ≤ length row.rest.bytes →
    Ahead (at row (past n row.rest) ∷ rows) ends → Ahead (row ∷ rows) ends
ahead-from row rows ends n fits h = go h.front h.rows_are
  where
    go : (front : List Row) → at row (past n row.rest) ∷ rows ≡ front ++ h.row ∷ h.more → Ahead (row ∷ rows) ends
    go [] e =
        let one : at row (past n row.rest) ≡ h.row = cc in
        let rest : rows ≡ h.more = cc in
        let left : h.size ≤ length (drop n row.rest.bytes) =
        subst (λ (x : Row). h.size ≤ length x.rest.bytes) (sym one) h.fits in
        let all = length-drop n row.rest.bytes in
        record {
          front = [];
          row = row;
          more = rows;
          size = n + h.size;
          fits = omega (arith, left, all, fits);
          rows_are = refl;
          ends_are =
              h.ends_are ∙ ap (λ (l : List Row). at h.row (past h.size h.row.rest) ∷ l) (sym rest)
              ∙ ap (λ (x : Row). at x (past h.size x.rest) ∷ rows) (sym one)
              ∙ ap (λ (r : Rest). at row r ∷ rows) (past-past n h.size row.rest);
        }
    go (x ∷ xs) e = record {
      front = row ∷ xs;
      row = h.row;
      more = h.more;
      size = h.size;
      fits = h.fits;
      rows_are = let tail : rows ≡ xs ++ h.row ∷ h.more = cc in ap (λ (l : List Row). row ∷ l) tail;
      ends_are = h.ends_are;
    }

pub ahead-to : (rows : List Row) (end : Row) (ends : List Row) (n : ℕ) → n ≤ length end.rest.bytes →
    Ahead rows (end ∷ ends) → Ahead rows (at end (past n end.rest) ∷ ends)
ahead-to rows end ends n fits h =
    let one : end ≡ at h.row (past h.size h.row.rest) = cc in
    let rest : ends ≡ h.more = cc in
    let left : n ≤ length (drop h.size h.row.rest.bytes) =
    subst (λ (x : Row). n ≤ length x.rest.bytes) one fits in
    let all = length-drop h.size h.row.rest.bytes in
    let first = h.fits in
    record {
      front = h.front;
      row = h.row;
      more = h.more;
      size = h.size + n;
      fits = omega (arith, left, all, first);
      rows_are = h.rows_are;
      ends_are =
          ap (λ (x : Row). at x (past n x.rest) ∷ ends) one
          ∙ ap (λ (r : Rest). at h.row r ∷ ends) (past-past h.size n h.row.rest)
          ∙ ap (λ (l : List Row). at h.row (past (h.size + n) h.row.rest) ∷ l) rest;
    }

-- no rows are added
pub ahead-fewer : (rows ends : List Row) → Ahead rows ends → length ends ≤ length rows
ahead-fewer rows ends h =
    let all = ap (λ (l : List Row). length l) h.rows_are in
    let parts = length-append h.front (h.row ∷ h.more) in
    let some = ap (λ (l : List Row). length l) h.ends_are in
    omega (arith, all, parts, some)

-- The place is known from how many rows and bytes are left.

following-front : (front : List Row) (row : Row) (more : List Row) →
    drop (length (front ++ row ∷ more) - (length more + 1)) (front ++ row ∷ more) ≡ row ∷ more
following-front front row more = ap (λ (k : ℕ). drop k (front ++ row ∷ more)) size ∙ go front
  where
    size : length (front ++ row ∷ more) - (length more + 1) ≡ length front
    size = let parts = length-append front (row ∷ more) in omega (arith, parts)

    go : (front : List Row) → drop (length front) (front ++ row ∷ more) ≡ row ∷ more
    go [] = refl
    go (x ∷ xs) = go xs

pub ahead-is : (rows : List Row) (end : Row) (ends : List Row) → Ahead rows (end ∷ ends) →
    ahead rows (length ends) (length end.rest.bytes) ≡ end ∷ ends
ahead-is rows end ends h =
    let one : at h.row (past h.size h.row.rest) ≡ end = cc in
    let rest : h.more ≡ ends = cc in
    ap (λ (l : List Row). ahead l (length ends) (length end.rest.bytes)) h.rows_are
    ∙ ap (λ (l : List Row). ahead (h.front ++ h.row ∷ h.more) (length l) (length end.rest.bytes)) (sym rest)
    ∙ ap (λ (x : Row). ahead (h.front ++ h.row ∷ h.more) (length h.more) (length x.rest.bytes)) (sym one)
    ∙ ap (on_first (λ r. past (length r.bytes - length (drop h.size h.row.rest.bytes)) r))
    (following-front h.front h.row h.more)
    ∙ ap (λ (k : ℕ). at h.row (past k h.row.rest) ∷ h.more) size
    ∙ sym h.ends_are
  where
    size : length h.row.rest.bytes - length (drop h.size h.row.rest.bytes) ≡ h.size
    size = let fits = h.fits in let all = length-drop h.size h.row.rest.bytes in omega (arith, fits, all)

-- So it is where its lines are left.
pub left-is : (rows ends : List Row) (lines : List (List ℕ)) → Ahead rows ends → lines ≡ lines_left ends →
    left rows lines ≡ ends
left-is rows [] lines h e = let no : [] ≡ at h.row (past h.size h.row.rest) ∷ h.more = h.ends_are in cc
left-is rows (end ∷ ends) lines h e =
    ap (left rows) e
    ∙ ap (λ (n : ℕ). ahead rows n (length end.rest.bytes))
    (length-map (map (λ (row : Row). row.rest.bytes) ends) trim_start ∙ length-map ends (λ (row : Row). row.rest.bytes))
    ∙ ahead-is rows end ends h

-- before the last byte
pub back-is : (rows : List Row) (end : Row) (ends : List Row) → Ahead rows (end ∷ ends) →
    1 ≤ length end.rest.bytes → back rows (at end (past 1 end.rest) ∷ ends) ≡ end ∷ ends
back-is rows end ends h some =
    ap (λ (n : ℕ). ahead rows (length ends) n) size ∙ ahead-is rows end ends h
  where
    size : length (drop 1 end.rest.bytes) + 1 ≡ length end.rest.bytes
    size = let all = length-drop 1 end.rest.bytes in omega (arith, all, some)

-- Rows that are passed: after the first of these are others, and then those after the first of the ends.
pub record Onward (rows ends : List Row) : Type 0 where
  pub passed : List Row
  pub following : drop 1 rows ≡ passed ++ drop 1 ends

pub onward-here : (rows : List Row) → Onward rows rows
onward-here rows = record { passed = []; following = refl }

pub onward-then : (rows mids ends : List Row) → Onward rows mids → Onward mids ends → Onward rows ends
onward-then rows mids ends h k = record {
  passed = h.passed ++ k.passed;
  following =
      h.following ∙ ap (λ (l : List Row). h.passed ++ l) k.following
      ∙ sym (append_assoc h.passed k.passed (drop 1 ends));
}

pub ahead-onward : (rows ends : List Row) → Ahead rows ends → Onward rows ends
ahead-onward rows ends h = go h.front h.rows_are
  where
    ends_are : h.more ≡ drop 1 ends
    ends_are = sym (ap (drop 1) h.ends_are)

    go : (front : List Row) → rows ≡ front ++ h.row ∷ h.more → Onward rows ends
    go [] e = record { passed = []; following = ap (drop 1) e ∙ ends_are }
    go (x ∷ xs) e = record {
      passed = xs ++ h.row ∷ [];
      following =
          ap (drop 1) e ∙ ap (λ (l : List Row). xs ++ h.row ∷ l) ends_are
          ∙ sym (append_assoc xs (h.row ∷ []) (drop 1 ends));
    }
