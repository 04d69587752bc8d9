-- Domains: what makes one none at its end does so for each that begins after a dot of it.
use Rattle.std.proofs.Common.{◌≡◌, ℕ, zero, suc, ◌+◌, ◌-◌, ◌<◌, ◌≤◌, Bool, true, false, cond, List, [], ◌∷◌, ◌++◌}
use Rattle.std.proofs.Common.{length, take, drop, Option, Some, None, refl, ap, sym, ◌∙◌, append_assoc, arith}
use Rattle.std.specs.Prelude.{◌&&◌, ◌||◌, ◌==◌, nat_le, nat_lt, reverse}
use Rattle.std.specs.List.{list_any, onto_first, prefix_len, slice_split, suffix_len}
use Rattle.std.proofs.lemmas.Bool.Decides.{nat_tests}
use Rattle.std.proofs.lemmas.List.{drop-drop, length-append, length-drop, length-reverse, length-take}
use Rattle.std.proofs.lemmas.List.{reverse-append, take-append-drop}
use Rattle.std.proofs.lemmas.List.Folds.{list_any-append, prefix_len-append}
use Rattle.std.proofs.lemmas.List.Splits.{length-slice_split, slice_split-cons_no, slice_split-cons_yes}
use Rattle.std.proofs.Math.Seq.{drop-append-add, take-append-add}
use Rattle.md_meaning.specs.Ascii.{dot}
use Rattle.md_meaning.specs.Bytes.{after, is_end}
use Rattle.md_meaning.specs.Lines.{begins_with}
use Rattle.md_inlines.specs.Addresses.{begins_with_dots, has_last_underscore}
use Rattle.md_inlines.specs.Characters.{character, first_bytes, is_punctuation, is_whitespace, is_within}
use Rattle.md_inlines.specs.Literal.{after_domain_character, are_segments, domain_front, domain_len, has_underscore}
use Rattle.md_inlines.specs.Literal.{is_domain_byte, without_last}
use Rattle.md_inlines.specs.RawHtml.{repeated}
use Rattle.md_inlines.proofs.LiteralLemmas.{domain-none, domain-some}

-- The characters of a domain, up to a dot and after it.

-- bytes that pass are taken off, of a text with a dot: of what is before it
after-part : (p : ℕ → Bool) (xs ys : List ℕ) → p dot ≡ false →
    (zs : List ℕ) × ((after p (xs ++ dot ∷ ys) ≡ zs ++ dot ∷ ys) × (length zs ≤ length xs))
after-part p [] ys other =
    ([], (ap (λ (b : Bool). drop (cond b (1 + prefix_len p ys) 0) (dot ∷ ys)) other, omega arith))
after-part p (x ∷ xs) ys other = go (p x) refl (after-part p xs ys other)
  where
    go : (b : Bool) → p x ≡ b →
        ((zs : List ℕ) × ((after p (xs ++ dot ∷ ys) ≡ zs ++ dot ∷ ys) × (length zs ≤ length xs))) →
        (zs : List ℕ) × ((after p (x ∷ xs ++ dot ∷ ys) ≡ zs ++ dot ∷ ys) × (length zs ≤ length (x ∷ xs)))
    go false e part = (
      x ∷ xs,
      (ap (λ (b : Bool). drop (cond b (1 + prefix_len p (xs ++ dot ∷ ys)) 0) (x ∷ xs ++ dot ∷ ys)) e, omega arith),
    )
    go true e part =
        let more : 1 + prefix_len p (xs ++ dot ∷ ys) ≡ suc (prefix_len p (xs ++ dot ∷ ys)) = omega arith in (
          part.0,
          (
            ap (λ (b : Bool). drop (cond b (1 + prefix_len p (xs ++ dot ∷ ys)) 0) (x ∷ xs ++ dot ∷ ys)) e
                ∙ ap (λ (n : ℕ). drop n (x ∷ xs ++ dot ∷ ys)) more ∙ part.1.0,
            omega (arith, part.1.1),
          ),
        )

first-dot : (ys : List ℕ) → after_domain_character (dot ∷ ys) ≡ Some ys
unfolding after_domain_character
first-dot ys = refl

-- a character before a dot is taken off
step-part : (b : ℕ) (bs ys more : List ℕ) → after_domain_character (b ∷ bs ++ dot ∷ ys) ≡ Some more →
    (zs : List ℕ) × ((more ≡ zs ++ dot ∷ ys) × (length zs ≤ length bs))
unfolding after_domain_character
step-part b bs ys more e = ascii (nat_lt b 128) refl (is_domain_byte b) refl
  where
    rest : List ℕ
    rest = bs ++ dot ∷ ys

    within : (zs : List ℕ) × ((after is_within rest ≡ zs ++ dot ∷ ys) × (length zs ≤ length bs))
    within = after-part is_within bs ys refl

    beyond : nat_lt b 128 ≡ false → (o : Option ℕ) → character (first_bytes (b ∷ rest)) ≡ o →
        (zs : List ℕ) × ((more ≡ zs ++ dot ∷ ys) × (length zs ≤ length bs))
    beyond s None f = let none : after_domain_character (b ∷ rest) ≡ None = rw (s, f) refl in cc
    beyond s (Some c) f = last (is_whitespace c || is_punctuation c) refl
      where
        last : (t : Bool) → (is_whitespace c || is_punctuation c) ≡ t →
            (zs : List ℕ) × ((more ≡ zs ++ dot ∷ ys) × (length zs ≤ length bs))
        last true g = let none : after_domain_character (b ∷ rest) ≡ None = rw (s, f, g) refl in cc
        last false g =
            let some : after_domain_character (b ∷ rest) ≡ Some (after is_within rest) = rw (s, f, g) refl in
            let same : after is_within rest ≡ more = cc in
            (within.0, (sym same ∙ within.1.0, within.1.1))

    ascii : (s : Bool) → nat_lt b 128 ≡ s → (d : Bool) → is_domain_byte b ≡ d →
        (zs : List ℕ) × ((more ≡ zs ++ dot ∷ ys) × (length zs ≤ length bs))
    ascii true s true d =
        let some : after_domain_character (b ∷ rest) ≡ Some rest = rw (s, d) refl in
        let same : rest ≡ more = cc in
        (bs, (sym same, omega arith))
    ascii true s false d = let none : after_domain_character (b ∷ rest) ≡ None = rw (s, d) refl in cc
    ascii false s d f = beyond s (character (first_bytes (b ∷ rest))) refl

abbrev left : List ℕ → List ℕ
left text = repeated after_domain_character (length text) text

left-after : (n : ℕ) (xs ys : List ℕ) → length xs ≤ n → length (left (xs ++ dot ∷ ys)) ≤ length ys →
    left (xs ++ dot ∷ ys) ≡ left ys
left-after n [] ys h small = domain-some (dot ∷ ys) ys (first-dot ys)
left-after zero (b ∷ bs) ys h small = absurd (omega (arith, h))
left-after (suc n) (b ∷ bs) ys h small =
    go (after_domain_character (b ∷ bs ++ dot ∷ ys)) refl (λ zs. left-after n zs ys)
  where
    go : (o : Option (List ℕ)) → after_domain_character (b ∷ bs ++ dot ∷ ys) ≡ o →
        ((zs : List ℕ) → length zs ≤ n → length (left (zs ++ dot ∷ ys)) ≤ length ys →
        left (zs ++ dot ∷ ys) ≡ left ys) →
        left (b ∷ bs ++ dot ∷ ys) ≡ left ys
    go None e later =
        absurd (omega (
          arith,
          small,
          ap length (domain-none (b ∷ bs ++ dot ∷ ys) e),
          length-append bs (dot ∷ ys),
        ))
    go (Some more) e later =
        let part : (zs : List ℕ) × ((more ≡ zs ++ dot ∷ ys) × (length zs ≤ length bs)) = step-part b bs ys more e in
        let on : left (b ∷ bs ++ dot ∷ ys) ≡ left (part.0 ++ dot ∷ ys) =
        domain-some (b ∷ bs ++ dot ∷ ys) more e ∙ ap left part.1.0 in
        on ∙ later part.0 (omega (arith, part.1.1, h)) (omega (arith, small, ap length on))

front-both : (xs ys : List ℕ) → length (left (xs ++ dot ∷ ys)) ≤ length ys →
    domain_front (xs ++ dot ∷ ys) ≡ xs ++ dot ∷ domain_front ys
front-both xs ys small =
    ap (λ (i : ℕ). take i (xs ++ dot ∷ ys)) count
    ∙ ap (λ (l : List ℕ). take (length (xs ++ dot ∷ []) + more) l) (sym (append_assoc xs (dot ∷ []) ys))
    ∙ take-append-add (xs ++ dot ∷ []) ys more ∙ append_assoc xs (dot ∷ []) (take more ys)
  where
    more : ℕ
    more = length ys - length (left ys)

    count : length (xs ++ dot ∷ ys) - length (left (xs ++ dot ∷ ys)) ≡ length (xs ++ dot ∷ []) + more
    count =
        let same : length (left (xs ++ dot ∷ ys)) ≡ length (left ys) =
        ap length (left-after (length xs) xs ys (omega arith) small) in
        omega (arith, small, same, length-append xs (dot ∷ ys), length-append xs (dot ∷ []))

-- Its segments, without the dots at its end.

abbrev split : List ℕ → List (List ℕ)
split text = slice_split (λ b. b == dot) text

abbrev trim : List ℕ → List ℕ
trim text = without_last dot text

split-both : (xs ys : List ℕ) → split (xs ++ dot ∷ ys) ≡ split xs ++ split ys
split-both [] ys = refl
split-both (b ∷ xs) ys = go (b == dot) refl (split xs) refl (split-both xs ys)
  where
    go : (d : Bool) → (b == dot) ≡ d → (segments : List (List ℕ)) → split xs ≡ segments →
        split (xs ++ dot ∷ ys) ≡ split xs ++ split ys → split (b ∷ xs ++ dot ∷ ys) ≡ split (b ∷ xs) ++ split ys
    go true e segments s below =
        slice_split-cons_yes (λ c. c == dot) b (xs ++ dot ∷ ys) e
        ∙ ap (λ (l : List (List ℕ)). [] ∷ l) below
        ∙ ap (λ (l : List (List ℕ)). l ++ split ys) (sym (slice_split-cons_yes (λ c. c == dot) b xs e))
    go false e [] s below = absurd (omega (arith, ap length s, length-slice_split (λ (c : ℕ). c == dot) xs))
    go false e (segment ∷ segments) s below =
        slice_split-cons_no (λ c. c == dot) b (xs ++ dot ∷ ys) e
        ∙ ap (onto_first b) (below ∙ ap (λ (l : List (List ℕ)). l ++ split ys) s)
        ∙ ap (λ (l : List (List ℕ)). onto_first b l ++ split ys) (sym s)
        ∙ ap (λ (l : List (List ℕ)). l ++ split ys) (sym (slice_split-cons_no (λ c. c == dot) b xs e))

trim-both : (xs ys : List ℕ) → 0 < length (trim ys) → trim (xs ++ dot ∷ ys) ≡ xs ++ dot ∷ trim ys
trim-both xs ys some =
    ap trim (sym (append_assoc xs (dot ∷ []) ys))
    ∙ ap (λ (n : ℕ). take (length (front ++ ys) - n) (front ++ ys)) same
    ∙ ap (λ (n : ℕ). take n (front ++ ys)) count
    ∙ take-append-add front ys (length ys - dots)
    ∙ append_assoc xs (dot ∷ []) (take (length ys - dots) ys)
  where
    front : List ℕ
    front = xs ++ dot ∷ []

    dots : ℕ
    dots = suffix_len (λ b. b == dot) ys

    short : dots < length ys
    short =
        omega (arith, some, length-take (length ys - dots) ys)

    other : (prefix_len (λ b. b == dot) (reverse ys) == length (reverse ys)) ≡ false
    other = let long = length-reverse ys in grind (arith, nat_tests)

    same : suffix_len (λ b. b == dot) (front ++ ys) ≡ dots
    same =
        ap (prefix_len (λ b. b == dot)) (reverse-append front ys)
        ∙ prefix_len-append (λ b. b == dot) (reverse ys) (reverse front)
        ∙ ap (λ (b : Bool). cond b (length (reverse ys) + prefix_len (λ c. c == dot) (reverse front)) dots) other

    count : length (front ++ ys) - dots ≡ length front + (length ys - dots)
    count = omega (arith, short, length-append front ys)

-- none without a byte are segments of a domain
no-byte : (text : List ℕ) → length text ≡ 0 → are_segments (split text) ≡ false
no-byte [] e = refl
no-byte (b ∷ text) e = absurd (omega (arith, e))

last-of-both : (first bs : List (List ℕ)) → nat_le 2 (length bs) ≡ true →
    has_last_underscore (first ++ bs) ≡ has_last_underscore bs
last-of-both first bs two =
    let long : 2 ≤ length bs = grind (arith, nat_tests) in
    let sum : length (first ++ bs) - 2 ≡ length first + (length bs - 2) = omega (arith, long, length-append first bs) in
    ap (list_any has_underscore)
    (ap (λ (n : ℕ). drop n (first ++ bs)) sum ∙ drop-append-add first bs (length bs - 2))

no-segments : (first bs : List (List ℕ)) → has_last_underscore (first ++ bs) ≡ true → are_segments bs ≡ false
no-segments first bs under = go (nat_le 2 (length bs)) refl (list_any is_end bs) refl
  where
    go : (two : Bool) → nat_le 2 (length bs) ≡ two → (ended : Bool) → list_any is_end bs ≡ ended →
        are_segments bs ≡ false
    go false e ended f = rw e refl
    go true e true f = rw (e, f) refl
    go true e false f =
        let last : has_last_underscore bs ≡ true = sym (last-of-both first bs e) ∙ under in
        rw (e, f, last) refl

no-empty : (bs : List (List ℕ)) → list_any is_end bs ≡ true → are_segments bs ≡ false
no-empty bs ended = go (nat_le 2 (length bs)) refl
  where
    go : (two : Bool) → nat_le 2 (length bs) ≡ two → are_segments bs ≡ false
    go false e = rw e refl
    go true e = rw (e, ended) refl

-- What is at a dot of a text.

is-dot : (b : ℕ) (text : List ℕ) → begins_with dot (b ∷ text) ≡ true → b ≡ dot
is-dot b text h = grind (arith, nat_tests)

at-dot : (text : List ℕ) (k : ℕ) → begins_with dot (drop k text) ≡ true →
    text ≡ take k text ++ dot ∷ drop (k + 1) text
at-dot text k h = sym (take-append-drop k text) ∙ ap (λ (l : List ℕ). take k text ++ l) (go (drop k text) refl h)
  where
    go : (l : List ℕ) → drop k text ≡ l → begins_with dot l ≡ true → drop k text ≡ dot ∷ drop (k + 1) text
    go [] e f = cc
    go (b ∷ rest) e f =
        let next : drop (k + 1) text ≡ rest = sym (drop-drop 1 k text) ∙ ap (drop 1) e in
        e ∙ ap (λ (c : ℕ). c ∷ rest) (is-dot b rest f) ∙ ap (λ (l : List ℕ). dot ∷ l) (sym next)

-- A text, with a dot of the domain at its front, and what is after that.
record AtDot (text : List ℕ) (k : ℕ) : Type 0 where
  long : length (take k text) ≡ k
  front : domain_front text ≡ take k text ++ dot ∷ domain_front (drop (k + 1) text)

at-dot-of : (text : List ℕ) (k : ℕ) → k < length (domain_front text) → begins_with dot (drop k text) ≡ true →
    AtDot text k
at-dot-of text k inside h =
    let here : text ≡ take k text ++ dot ∷ drop (k + 1) text = at-dot text k h in
    let within : k < length text - length (left text) =
    omega (arith, inside, length-take (length text - length (left text)) text) in
    let long : length (take k text) ≡ k = omega (arith, within, length-take k text) in
    let rest : length (drop (k + 1) text) ≡ length text - (k + 1) = length-drop (k + 1) text in
    let small : length (left (take k text ++ dot ∷ drop (k + 1) text)) ≤ length (drop (k + 1) text) =
    omega (arith, within, rest, ap (λ (l : List ℕ). length (left l)) here) in
    record {
      long = long;
      front = ap domain_front here ∙ front-both (take k text) (drop (k + 1) text) small;
    }

none-there : (text : List ℕ) → are_segments (split (trim (domain_front text))) ≡ false → domain_len text ≡ None
unfolding domain_len
none-there text h = rw h refl

-- its domain, and that after a dot of it, which is none where nothing is left of it
later : (text domain : List ℕ) (k : ℕ) → domain ≡ trim (domain_front text) → k < length (domain_front text) →
    begins_with dot (drop k text) ≡ true →
    ((rest : List ℕ) → length (take k text) ≡ k → domain ≡ take k text ++ dot ∷ rest →
    are_segments (split rest) ≡ false) →
    domain_len (drop (k + 1) text) ≡ None
later text domain k trimmed inside h none = none-there (drop (k + 1) text) (go (length rest) refl)
  where
    at : AtDot text k
    at = at-dot-of text k inside h

    rest : List ℕ
    rest = trim (domain_front (drop (k + 1) text))

    go : (n : ℕ) → length rest ≡ n → are_segments (split rest) ≡ false
    go zero e = no-byte rest e
    go (suc n) e =
        none rest at.long
        (trimmed ∙ ap trim at.front
        ∙ trim-both (take k text) (domain_front (drop (k + 1) text)) (omega (arith, e)))

pub later-under : (text domain : List ℕ) (k : ℕ) → domain ≡ trim (domain_front text) →
    has_last_underscore (slice_split (λ b. b == dot) domain) ≡ true → k < length (domain_front text) →
    begins_with dot (drop k text) ≡ true → domain_len (drop (k + 1) text) ≡ None
later-under text domain k trimmed under inside h =
    later text domain k trimmed inside h
    (λ rest long is.
    no-segments (split (take k text)) (split rest)
    (ap has_last_underscore (sym (split-both (take k text) rest) ∙ ap split (sym is)) ∙ under))

first-ended : (text : List ℕ) → begins_with dot text ≡ true → list_any is_end (split text) ≡ true
first-ended [] h = cc
first-ended (b ∷ text) h =
    ap (λ (c : ℕ). list_any is_end (split (c ∷ text))) (is-dot b text h)

first-of-dots : (text : List ℕ) → begins_with_dots text ≡ true → begins_with dot text ≡ true
first-of-dots [] h = cc
first-of-dots (b ∷ []) h = cc
first-of-dots (b ∷ c ∷ text) h = go (b == dot) refl h
  where
    go : (x : Bool) → (b == dot) ≡ x → (x && (c == dot)) ≡ true → (b == dot) ≡ true
    go true e f = e
    go false e f = cc

second-of-dots : (text : List ℕ) → begins_with_dots text ≡ true → begins_with dot (drop 1 text) ≡ true
second-of-dots [] h = cc
second-of-dots (b ∷ []) h = cc
second-of-dots (b ∷ c ∷ text) h = go (b == dot) h
  where
    go : (x : Bool) → (x && (c == dot)) ≡ true → (c == dot) ≡ true
    go true f = f
    go false f = cc

-- an empty segment is in all that is before it
ended-after : (rest : List ℕ) (m : ℕ) → begins_with_dots (drop m (dot ∷ rest)) ≡ true →
    list_any is_end (split rest) ≡ true
ended-after rest zero h = first-ended rest (second-of-dots (dot ∷ rest) h)
ended-after rest (suc m) h =
    let here : rest ≡ take m rest ++ dot ∷ drop (m + 1) rest = at-dot rest m (first-of-dots (drop m rest) h) in
    let next : drop (m + 1) rest ≡ drop 1 (drop m rest) = sym (drop-drop 1 m rest) in
    let ended : list_any is_end (split (drop (m + 1) rest)) ≡ true =
    first-ended (drop (m + 1) rest) (ap (begins_with dot) next ∙ second-of-dots (drop m rest) h) in
    ap (λ (l : List ℕ). list_any is_end (split l)) here
    ∙ ap (list_any is_end) (split-both (take m rest) (drop (m + 1) rest))
    ∙ list_any-append is_end (split (take m rest)) (split (drop (m + 1) rest))
    ∙ ap (λ (b : Bool). list_any is_end (split (take m rest)) || b) ended
    ∙ either (list_any is_end (split (take m rest)))
  where
    either : (b : Bool) → (b || true) ≡ true
    either true = refl
    either false = refl

pub later-empty : (text domain : List ℕ) (k end : ℕ) → domain ≡ trim (domain_front text) →
    begins_with_dots (drop (end - 1) domain) ≡ true → k < end → k < length (domain_front text) →
    begins_with dot (drop k text) ≡ true → domain_len (drop (k + 1) text) ≡ None
later-empty text domain k end trimmed dots before inside h =
    later text domain k trimmed inside h
    (λ rest long is.
    let sum : end - 1 ≡ length (take k text) + (end - 1 - k) = omega (arith, before, long) in
    let there : drop (end - 1) domain ≡ drop (end - 1 - k) (dot ∷ rest) =
    ap (λ (n : ℕ). drop n domain) sum
    ∙ ap (drop (length (take k text) + (end - 1 - k))) is
    ∙ drop-append-add (take k text) (dot ∷ rest) (end - 1 - k) in
    no-empty (split rest) (ended-after rest (end - 1 - k) (ap begins_with_dots (sym there) ∙ dots)))
