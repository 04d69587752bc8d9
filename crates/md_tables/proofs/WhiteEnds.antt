-- Bytes in two: up to the last that is no whitespace, and the whitespace after it.
use Rattle.std.proofs.Common.{◌≡◌, ℕ, Bool, true, false, ◌&&◌, List, [], ◌∷◌, ◌++◌, length, take, drop}
use Rattle.std.proofs.Common.{refl, sym, ◌∙◌, ap, append_assoc}
use Rattle.std.proofs.lemmas.Bool.{and_parts}
use Rattle.std.proofs.lemmas.List.{drop_at}
use Rattle.md_meaning.specs.Bytes.{is_end}
use Rattle.md_meaning.specs.Rest.{is_blank, is_white, trim_end, trim_start}
use Rattle.md_meaning.specs.Texts.{first_byte}
use Rattle.md_leaves.proofs.TitleTexts.{tail}
use Rattle.md_events.proofs.RestLines.{count-one}
use Rattle.md_tables.specs.RowCells.{white_back, white_front}
use Rattle.md_tables.proofs.CellLemmas.{dark-next, ends_dark, tail-blank, trimmed-dark, trimmed-whole}

-- Whitespace.

pub blank-first : (b : ℕ) (bs : List ℕ) → is_white b ≡ true → is_blank (b ∷ bs) ≡ is_blank bs
blank-first b bs e = rw e refl

pub dark-first : (b : ℕ) (bs : List ℕ) → is_white b ≡ false → is_blank (b ∷ bs) ≡ false
dark-first b bs e = rw e refl

blank-front : (xs ys : List ℕ) → is_blank (xs ++ ys) ≡ true → is_blank xs ≡ true
blank-front [] ys h = refl
blank-front (x ∷ xs) ys h =
    let both = and_parts (is_white x) (is_blank (xs ++ ys)) h in rw both.0 (blank-front xs ys both.1)

pub blank-both : (xs ys : List ℕ) → is_blank ys ≡ true → is_blank (xs ++ ys) ≡ is_blank xs
blank-both [] ys h = h
blank-both (x ∷ xs) ys h = ap (λ (t : Bool). is_white x && t) (blank-both xs ys h)

-- what is blank ends with whitespace
pub blank-light : (x : ℕ) (ws : List ℕ) → is_blank (x ∷ ws) ≡ true → ends_dark (x ∷ ws) ≡ false
blank-light x [] h = let white = (and_parts (is_white x) true h).0 in rw white refl
blank-light x (w ∷ ws) h = blank-light w ws (and_parts (is_white x) (is_blank (w ∷ ws)) h).1

blank-dark : (x : ℕ) (xs ys zs : List ℕ) → x ∷ xs ++ ys ≡ zs → is_blank zs ≡ true → ends_dark (x ∷ xs) ≡ true →
    true ≡ false
blank-dark x xs ys zs e blank dark =
    sym dark ∙ blank-light x xs (blank-front (x ∷ xs) ys (ap is_blank e ∙ blank))

-- The two are known from the bytes.

-- there is one way to cut them
one-cut : (k w l v : List ℕ) → k ++ w ≡ l ++ v → ends_dark k ≡ true → ends_dark l ≡ true → is_blank w ≡ true →
    is_blank v ≡ true → (k ≡ l) × (w ≡ v)
one-cut [] w [] v e dark light white blank = (refl, e)
one-cut [] w (c ∷ l) v e dark light white blank = let no = blank-dark c l v w (sym e) white light in cc
one-cut (b ∷ k) w [] v e dark light white blank = let no = blank-dark b k w v e blank dark in cc
one-cut (b ∷ k) w (c ∷ l) v e dark light white blank =
    let more = one-cut k w l v (ap (drop 1) e) (dark-next b k dark) (dark-next c l light) white blank in
    let first : b ≡ c = ap first_byte e in
    (ap (λ (x : ℕ). x ∷ k) first ∙ ap (λ (xs : List ℕ). c ∷ xs) more.0, more.1)

pub end-is : (x k w : List ℕ) → x ≡ k ++ w → ends_dark k ≡ true → is_blank w ≡ true →
    (trim_end x ≡ k) × (white_back x ≡ w)
end-is x k w e dark blank = (front, back)
  where
    front : trim_end x ≡ k
    front =
        (one-cut (trim_end x) (tail is_white x) k w (sym (trimmed-whole x) ∙ e) (trimmed-dark x) dark (tail-blank x)
        blank).0

    back : white_back x ≡ w
    back =
        ap (λ (t : List ℕ). drop (length t) x) front ∙ ap (drop (length k)) e ∙ drop_at k w (length k) refl

-- and they are the bytes
back-tail : (x : List ℕ) → white_back x ≡ tail is_white x
back-tail x = (end-is x (trim_end x) (tail is_white x) (trimmed-whole x) (trimmed-dark x) (tail-blank x)).1

pub end-whole : (x : List ℕ) → x ≡ trim_end x ++ white_back x
end-whole x = trimmed-whole x ∙ ap (λ (w : List ℕ). trim_end x ++ w) (sym (back-tail x))

pub back-blank : (x : List ℕ) → is_blank (white_back x) ≡ true
back-blank x = ap is_blank (back-tail x) ∙ tail-blank x

-- Byte by byte.

pub end-blank : (x : List ℕ) → is_blank x ≡ true → (trim_end x ≡ []) × (white_back x ≡ x)
end-blank x h = end-is x [] x refl refl h

dark-onto : (b : ℕ) (k : List ℕ) → ends_dark k ≡ true → (is_end k ≡ true → is_white b ≡ false) →
    ends_dark (b ∷ k) ≡ true
dark-onto b [] dark first = rw (first refl) refl
dark-onto b (c ∷ k) dark first = dark

pub end-more : (b : ℕ) (x : List ℕ) → is_blank (b ∷ x) ≡ false →
    (trim_end (b ∷ x) ≡ b ∷ trim_end x) × (white_back (b ∷ x) ≡ white_back x)
end-more b x h =
    end-is (b ∷ x) (b ∷ trim_end x) (white_back x) (ap (λ (t : List ℕ). b ∷ t) (end-whole x))
    (dark-onto b (trim_end x) (trimmed-dark x) (only (trim_end x) (end-whole x))) (back-blank x)
  where
    black : (t : Bool) → is_white b ≡ t → is_blank x ≡ true → is_white b ≡ false
    black false e blank = e
    black true e blank = let no : true ≡ false = sym (blank-first b x e ∙ blank) ∙ h in cc

    only : (k : List ℕ) → x ≡ k ++ white_back x → is_end k ≡ true → is_white b ≡ false
    only [] whole end = black (is_white b) refl (ap is_blank whole ∙ back-blank x)
    only (c ∷ k) whole end = let no : false ≡ true = end in cc

-- whitespace after does not matter
pub end-following : (x w : List ℕ) → is_blank w ≡ true → trim_end (x ++ w) ≡ trim_end x
end-following x w h = (end-is (x ++ w) (trim_end x) (white_back x ++ w) whole (trimmed-dark x) blank).0
  where
    whole : x ++ w ≡ trim_end x ++ (white_back x ++ w)
    whole = ap (λ (t : List ℕ). t ++ w) (end-whole x) ∙ append_assoc (trim_end x) (white_back x) w

    blank : is_blank (white_back x ++ w) ≡ true
    blank = blank-both (white_back x) w h ∙ back-blank x

-- The whitespace in front.

pub front-one : (b : ℕ) (bs : List ℕ) → is_white b ≡ true → white_front (b ∷ bs) ≡ b ∷ white_front bs
front-one b bs e = ap (λ (k : ℕ). take k (b ∷ bs)) (count-one is_white b bs e)

pub front-none : (b : ℕ) (bs : List ℕ) → is_white b ≡ false → white_front (b ∷ bs) ≡ []
front-none b bs e = rw e refl

pub start-none : (b : ℕ) (bs : List ℕ) → is_white b ≡ false → trim_start (b ∷ bs) ≡ b ∷ bs
start-none b bs e = rw e refl
