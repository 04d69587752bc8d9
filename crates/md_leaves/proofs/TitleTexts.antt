-- The bytes of a heading's line: its opening sequence with the whitespace around it, its text, and what follows that.
use Rattle.std.proofs.Common.{◌≡◌, ℕ, suc, ◌+◌, ◌-◌, Bool, true, false, cond, List, [], ◌∷◌, ◌++◌, length, take, drop}
use Rattle.std.proofs.Common.{reverse, refl, sym, ◌∙◌, ap, arith, append_assoc, append-nil, length-append, length-drop}
use Rattle.std.proofs.Common.{subst}
use Rattle.std.specs.List.{AllPass, prefix_len, suffix_len}
use Rattle.std.proofs.lemmas.Bool.{eqb-true, false≢true}
use Rattle.std.proofs.lemmas.List.{drop-drop, length-reverse, reverse-append, reverse-reverse, take-append-drop}
use Rattle.std.proofs.lemmas.List.{take_at}
use Rattle.std.proofs.lemmas.List.Elements.{All-cons, All-nil}
use Rattle.std.proofs.lemmas.List.Folds.{length-prefix_len}
use Rattle.md_engine.proofs.Sound.{All-reverse}
use Rattle.md_leaves.specs.HeadingTitle.{front_len, text_of}
use Rattle.md_leaves.proofs.TitleRuns.{is_hash, pass-first}
use Rattle.md_meaning.specs.Bytes.{begins}
use Rattle.md_meaning.specs.Leaves.{heading_text, without_closing}
use Rattle.md_meaning.specs.Rest.{is_parted, is_white, run_len, trim_end, trim_start}

-- A list in two: what passes a test in front, or at its end.

pub front-passes : (f : ℕ → Bool) (bytes : List ℕ) → AllPass f (take (prefix_len f bytes) bytes)
front-passes f [] = All-nil (λ (x : ℕ). f x ≡ true)
front-passes f (b ∷ bs) = go (f b) refl (front-passes f bs)
  where
    go : (x : Bool) → f b ≡ x → AllPass f (take (prefix_len f bs) bs) →
        AllPass f (take (cond x (1 + prefix_len f bs) 0) (b ∷ bs))
    go true e h =
        let one : 1 + prefix_len f bs ≡ suc (prefix_len f bs) = omega arith in
        rw one (All-cons (λ (x : ℕ). f x ≡ true) b (take (prefix_len f bs) bs) e h)
    go false e h = All-nil (λ (x : ℕ). f x ≡ true)

pub front-stops : (f : ℕ → Bool) (bytes : List ℕ) → begins f (drop (prefix_len f bytes) bytes) ≡ false
front-stops f [] = refl
front-stops f (b ∷ bs) = go (f b) refl (front-stops f bs)
  where
    go : (x : Bool) → f b ≡ x → begins f (drop (prefix_len f bs) bs) ≡ false →
        begins f (drop (cond x (1 + prefix_len f bs) 0) (b ∷ bs)) ≡ false
    go true e h =
        let one : 1 + prefix_len f bs ≡ suc (prefix_len f bs) = omega arith in
        rw one h
    go false e h = e

-- what is left without those at the end
abbrev pub kept : (ℕ → Bool) → List ℕ → List ℕ
kept f bytes = take (length bytes - suffix_len f bytes) bytes

abbrev pub tail : (ℕ → Bool) → List ℕ → List ℕ
tail f bytes = reverse (take (suffix_len f bytes) (reverse bytes))

kept-is : (f : ℕ → Bool) (bytes : List ℕ) → kept f bytes ≡ reverse (drop (suffix_len f bytes) (reverse bytes))
kept-is f bytes =
    let k = suffix_len f bytes in
    let front = drop k (reverse bytes) in
    let long : length (reverse front) ≡ length bytes - k = length-reverse front ∙ length-drop k (reverse bytes)
    ∙ ap (λ (m : ℕ). m - k) (length-reverse bytes) in
    let whole : bytes ≡ reverse front ++ tail f bytes = sym (reverse-reverse bytes)
    ∙ ap reverse (sym (take-append-drop k (reverse bytes))) ∙ reverse-append (take k (reverse bytes)) front in
    ap (take (length bytes - k)) whole ∙ take_at (reverse front) (tail f bytes) (length bytes - k) long

pub kept-whole : (f : ℕ → Bool) (bytes : List ℕ) → bytes ≡ kept f bytes ++ tail f bytes
kept-whole f bytes =
    let k = suffix_len f bytes in
    sym (reverse-reverse bytes) ∙ ap reverse (sym (take-append-drop k (reverse bytes)))
    ∙ reverse-append (take k (reverse bytes)) (drop k (reverse bytes))
    ∙ ap (λ (front : List ℕ). front ++ tail f bytes) (sym (kept-is f bytes))

pub tail-passes : (f : ℕ → Bool) (bytes : List ℕ) → AllPass f (tail f bytes)
tail-passes f bytes =
    All-reverse (λ (x : ℕ). f x ≡ true) (take (suffix_len f bytes) (reverse bytes)) (front-passes f (reverse bytes))

pub kept-ends : (f : ℕ → Bool) (bytes : List ℕ) → begins f (reverse (kept f bytes)) ≡ false
kept-ends f bytes =
    ap (begins f) (ap reverse (kept-is f bytes) ∙ reverse-reverse (drop (suffix_len f bytes) (reverse bytes)))
    ∙ front-stops f (reverse bytes)

-- What follows a text: whitespace, a closing sequence and whitespace, each of which may be there or not.
pub record Shape (back : List ℕ) : Type 0 where
  pub white : List ℕ
  pub hashes : List ℕ
  pub more : List ℕ
  pub is : back ≡ white ++ (hashes ++ more)
  pub white_is : AllPass is_white white
  pub hashes_are : AllPass is_hash hashes
  pub more_is : AllPass is_white more
  -- the first whitespace is as long as it can be
  pub apart : begins is_white (hashes ++ more) ≡ false

-- the text and what follows it
pub record Ending (rest text : List ℕ) : Type 0 where
  pub back : List ℕ
  pub whole : rest ≡ text ++ back
  pub shape : Shape back

pub first-front : (f : ℕ → Bool) (xs ys : List ℕ) → begins f (xs ++ ys) ≡ false → begins f xs ≡ false
first-front f [] ys e = refl
first-front f (x ∷ xs) ys e = e

-- nothing is both parted and without whitespace at its end
none-parted : (bytes : List ℕ) → is_parted bytes ≡ true → begins is_white bytes ≡ false → bytes ≡ []
none-parted [] h e = refl
none-parted (b ∷ bs) h e = absurd (false≢true (sym e ∙ h))

-- the text of a heading on a rest of a line that begins with no whitespace
abbrev pub text_in : List ℕ → List ℕ
text_in rest =
    let body = trim_end rest in
    let front = without_closing body in
    cond (is_parted (reverse front)) (trim_end front) body

ending : (rest : List ℕ) → begins is_white rest ≡ false → Ending rest (text_in rest)
ending rest start = go (is_parted (reverse front)) refl
  where
    body : List ℕ
    body = trim_end rest

    front : List ℕ
    front = without_closing body

    white : List ℕ
    white = tail is_white rest

    hashes : List ℕ
    hashes = tail is_hash body

    whole : rest ≡ trim_end front ++ (tail is_white front ++ (hashes ++ white))
    whole =
        kept-whole is_white rest
        ∙ ap (λ (t : List ℕ). t ++ white)
        (kept-whole is_hash body ∙ ap (λ (t : List ℕ). t ++ hashes) (kept-whole is_white front))
        ∙ (simp append_assoc)

    -- where no `#` end it there is no text either
    apart : is_parted (reverse front) ≡ true → (hs : List ℕ) → hashes ≡ hs → begins is_white (hs ++ white) ≡ false
    apart parted [] e =
        let same : body ≡ front = kept-whole is_hash body ∙ ap (λ (t : List ℕ). front ++ t) e ∙ append-nil front in
        let none : reverse front ≡ [] = none-parted (reverse front) parted
        (ap (λ (t : List ℕ). begins is_white (reverse t)) (sym same) ∙ kept-ends is_white rest) in
        let left : rest ≡ white = kept-whole is_white rest
        ∙ ap (λ (t : List ℕ). t ++ white) (same ∙ sym (reverse-reverse front) ∙ ap reverse none) in
        ap (begins is_white) (sym left) ∙ start
    apart parted (b ∷ hs) e =
        ap is_white (eqb-true b 35 (pass-first is_hash b hs (subst (AllPass is_hash) e (tail-passes is_hash body))))

    go : (x : Bool) → is_parted (reverse front) ≡ x → Ending rest (cond x (trim_end front) body)
    go true e = record {
      back = tail is_white front ++ (hashes ++ white);
      whole = whole;
      shape = record {
        white = tail is_white front;
        hashes = hashes;
        more = white;
        is = refl;
        white_is = tail-passes is_white front;
        hashes_are = tail-passes is_hash body;
        more_is = tail-passes is_white rest;
        apart = apart e hashes refl;
      };
    }
    go false e = record {
      back = white;
      whole = kept-whole is_white rest;
      shape = record {
        white = white;
        hashes = [];
        more = [];
        is = sym (append-nil white);
        white_is = tail-passes is_white rest;
        hashes_are = All-nil (λ (x : ℕ). is_hash x ≡ true);
        more_is = All-nil (λ (x : ℕ). is_white x ≡ true);
        apart = refl;
      };
    }

-- The parts of a line.
pub record Parted (line : List ℕ) : Type 0 where
  pub indent : List ℕ
  pub hashes : List ℕ
  pub gap : List ℕ
  pub back : List ℕ
  pub whole : line ≡ indent ++ (hashes ++ (gap ++ (text_of line ++ back)))
  pub front : front_len line ≡ length (indent ++ (hashes ++ gap))
  pub indent_is : AllPass is_white indent
  pub hashes_are : AllPass is_hash hashes
  pub gap_is : AllPass is_white gap
  pub after_indent : begins is_white (hashes ++ (gap ++ (text_of line ++ back))) ≡ false
  pub after_hashes : begins is_hash (gap ++ (text_of line ++ back)) ≡ false
  pub following_gap : begins is_white (text_of line ++ back) ≡ false
  pub apart : begins is_white (hashes ++ gap) ≡ false
  pub depth : length hashes ≡ run_len 35 (trim_start line)
  pub text_is : text_of line ≡ heading_text (gap ++ (text_of line ++ back))
  pub shape : Shape back

pub parted : (line : List ℕ) → Parted line
parted line = record {
  indent = indent;
  hashes = hashes;
  gap = gap;
  back = end.back;
  whole = from_indent ∙ ap (λ (t : List ℕ). indent ++ t) (from_hashes ∙ ap (λ (t : List ℕ). hashes ++ t) from_gap);
  front = sizes;
  indent_is = front-passes is_white line;
  hashes_are = front-passes is_hash (drop k line);
  gap_is = front-passes is_white after;
  after_indent = after_indent;
  after_hashes = ap (begins is_hash) (sym (same ∙ from_gap)) ∙ front-stops is_hash (drop k line);
  following_gap = ap (begins is_white) (sym end.whole) ∙ front-stops is_white after;
  apart =
      first-front is_white (hashes ++ gap) (text_of line ++ end.back)
      (ap (begins is_white) (append_assoc hashes gap (text_of line ++ end.back)) ∙ after_indent);
  depth = length-prefix_len is_hash (drop k line);
  text_is = ap heading_text from_gap;
  shape = end.shape;
}
  where
    k : ℕ
    k = prefix_len is_white line

    n : ℕ
    n = run_len 35 (drop k line)

    after : List ℕ
    after = drop (k + n) line

    rest : List ℕ
    rest = trim_start after

    indent : List ℕ
    indent = take k line

    hashes : List ℕ
    hashes = take n (drop k line)

    gap : List ℕ
    gap = take (prefix_len is_white after) after

    end : Ending rest (text_of line)
    end = ending rest (front-stops is_white after)

    same : drop n (drop k line) ≡ after
    same = drop-drop n k line

    from_indent : line ≡ indent ++ drop k line
    from_indent = sym (take-append-drop k line)

    from_hashes : drop k line ≡ hashes ++ after
    from_hashes = sym (take-append-drop n (drop k line)) ∙ ap (λ (t : List ℕ). hashes ++ t) same

    from_gap : after ≡ gap ++ (text_of line ++ end.back)
    from_gap = sym (take-append-drop (prefix_len is_white after) after) ∙ ap (λ (t : List ℕ). gap ++ t) end.whole

    after_indent : begins is_white (hashes ++ (gap ++ (text_of line ++ end.back))) ≡ false
    after_indent =
        ap (begins is_white) (sym (from_hashes ∙ ap (λ (t : List ℕ). hashes ++ t) from_gap))
        ∙ front-stops is_white line

    sizes : front_len line ≡ length (indent ++ (hashes ++ gap))
    sizes =
        let a : length indent ≡ k = length-prefix_len is_white line in
        let b : length hashes ≡ n = length-prefix_len is_hash (drop k line) in
        let c : length gap ≡ prefix_len is_white after = length-prefix_len is_white after in
        let outer : length (indent ++ (hashes ++ gap)) ≡
        length indent + length (hashes ++ gap) = length-append indent (hashes ++ gap) in
        let inner : length (hashes ++ gap) ≡ length hashes + length gap = length-append hashes gap in
        omega arith
