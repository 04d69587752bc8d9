-- The lines of a text with a prefix before each line are those of the text, each after its prefix.
use Rattle.std.proofs.Common.{◌≡◌, ℕ, Bool, true, false, cond, not, ◌==◌, ◌&&◌, ◌||◌, List, [], ◌∷◌, ◌++◌, map, refl}
use Rattle.std.proofs.Common.{sym, ap, ◌∙◌, subst}
use Rattle.std.specs.List.{concat, list_all, onto_first, take_while}
use Rattle.std.proofs.lemmas.Bool.{or_parts}
use Rattle.std.proofs.lemmas.List.{append_assoc}
use Rattle.std.proofs.lemmas.List.Sums.{take_while-cons}
use Rattle.md_meaning.specs.Lines.{begins_with, ends_line, full_lines_of, is_ending, lines_of, without_ending}
use Rattle.md_meaning.specs.Wrapped.{prefixed}
use Rattle.md_meaning.proofs.ColumnLemmas.{NoTab}
use Rattle.md_meaning.proofs.LinesLemmas.{without_ending-cons, without_ending-onto}

-- no byte ends a line
abbrev pub NoEnding : List ℕ → Type 0
NoEnding [] = Unit {0}
NoEnding (b ∷ bytes) = (is_ending b ≡ false) × NoEnding bytes

-- one byte at least, and none that ends a line
abbrev pub IsLinePrefix : List ℕ → Type 0
IsLinePrefix [] = ⊥
IsLinePrefix (b ∷ bytes) = NoEnding (b ∷ bytes)

IsLinePrefix-no_ending : (prefix : List ℕ) → IsLinePrefix prefix → NoEnding prefix
IsLinePrefix-no_ending [] h = tt
IsLinePrefix-no_ending (b ∷ bytes) h = h

-- a byte that ends no line, whatever comes after it
pub ends_line-no : (b : ℕ) (bytes : List ℕ) → is_ending b ≡ false → ends_line b bytes ≡ false
ends_line-no b bytes e = let parts = or_parts (b == 10) (b == 13) e in rw (parts.0, parts.1) refl

-- these bytes before the first line
abbrev onto : List ℕ → List (List ℕ) → List (List ℕ)
onto [] lines = lines
onto (b ∷ bytes) lines = onto_first b (onto bytes lines)

onto-line : (prefix line : List ℕ) (lines : List (List ℕ)) → onto prefix (line ∷ lines) ≡ (prefix ++ line) ∷ lines
onto-line [] line lines = refl
onto-line (b ∷ prefix) line lines = ap (onto_first b) (onto-line prefix line lines)

full_lines_of-prefix : (prefix bytes : List ℕ) → NoEnding prefix →
    full_lines_of (prefix ++ bytes) ≡ onto prefix (full_lines_of bytes)
full_lines_of-prefix [] bytes h = refl
full_lines_of-prefix (b ∷ prefix) bytes h =
    let lines : List (List ℕ) = full_lines_of (prefix ++ bytes) in
    ap (λ (t : Bool). cond t ((b ∷ []) ∷ lines) (onto_first b lines)) (ends_line-no b (prefix ++ bytes) h.0)
    ∙ ap (onto_first b) (full_lines_of-prefix prefix bytes h.1)

-- the same prefix before all lines
pub prefixed-all : (prefix : List ℕ) (lines : List (List ℕ)) →
    prefixed prefix prefix lines ≡ map (λ l. prefix ++ l) lines
prefixed-all prefix [] = refl
prefixed-all prefix (line ∷ lines) = refl

-- A text whose first line has no prefix yet.

prefixed-onto : (further : List ℕ) (b : ℕ) (lines : List (List ℕ)) →
    prefixed [] further (onto_first b lines) ≡ onto_first b (prefixed [] further lines)
prefixed-onto further b [] = refl
prefixed-onto further b (line ∷ lines) = refl

concat-onto : (b : ℕ) (lines : List (List ℕ)) → concat (onto_first b lines) ≡ b ∷ concat lines
concat-onto b [] = refl
concat-onto b (line ∷ lines) = refl

-- after a prefix of the first line these lines come back
full_lines_of-prefixed : (first further : List ℕ) (lines : List (List ℕ)) → NoEnding first →
    full_lines_of (concat (prefixed [] further lines)) ≡ prefixed [] further lines →
    full_lines_of (concat (prefixed first further lines)) ≡ prefixed first further lines
full_lines_of-prefixed first further [] h e = refl
full_lines_of-prefixed first further (line ∷ lines) h e =
    let following : List (List ℕ) = map (λ l. further ++ l) lines in
    ap full_lines_of (append_assoc first line (concat following))
    ∙ full_lines_of-prefix first (line ++ concat following) h
    ∙ ap (onto first) e
    ∙ onto-line first line following

-- a prefix comes after an ending, and no line feed
not_fed : (further : List ℕ) (lines : List (List ℕ)) → IsLinePrefix further →
    begins_with 10 (concat (map (λ l. further ++ l) lines)) ≡ false
not_fed further [] h = refl
not_fed [] (line ∷ lines) h = absurd h
not_fed (b ∷ further) (line ∷ lines) h = (or_parts (b == 10) (b == 13) h.0).0

-- these lines come back, and no line feed comes first that did not before
abbrev Splits : List ℕ → List (List ℕ) → Bool → Type 0
Splits further lines fed =
    (full_lines_of (concat (prefixed [] further lines)) ≡ prefixed [] further lines)
    × (begins_with 10 (concat (prefixed [] further lines)) ≡ fed)

ends-before_prefix : (further : List ℕ) (b : ℕ) (bytes : List ℕ) (lines : List (List ℕ)) → IsLinePrefix further →
    ends_line b bytes ≡ true →
    ends_line b (concat (map (λ l. further ++ l) lines)) ≡ true
ends-before_prefix further b bytes lines h e =
    ap (λ (z : Bool). (b == 10) || ((b == 13) && not z)) (not_fed further lines h)
    ∙ go (b == 10) (b == 13) (begins_with 10 bytes) e
  where
    go : (x y z : Bool) → (x || (y && not z)) ≡ true → (x || (y && true)) ≡ true
    go true y z k = refl
    go false true z k = refl
    go false false z k = k

splits-ended : (further : List ℕ) (b : ℕ) (bytes : List ℕ) → IsLinePrefix further →
    Splits further (full_lines_of bytes) (begins_with 10 bytes) → ends_line b bytes ≡ true →
    Splits further ((b ∷ []) ∷ full_lines_of bytes) (b == 10)
splits-ended further b bytes p h e =
    let lines : List (List ℕ) = full_lines_of bytes in
    let following : List ℕ = concat (map (λ l. further ++ l) lines) in (
      ap (λ (t : Bool). cond t ((b ∷ []) ∷ full_lines_of following) (onto_first b (full_lines_of following)))
          (ends-before_prefix further b bytes lines p e)
          ∙ ap (λ (ls : List (List ℕ)). (b ∷ []) ∷ ls)
          (subst (λ (ls : List (List ℕ)). full_lines_of (concat ls) ≡ ls) (prefixed-all further lines)
          (full_lines_of-prefixed further further lines (IsLinePrefix-no_ending further p) h.0)),
      refl,
    )

splits-inside : (further : List ℕ) (b : ℕ) (bytes : List ℕ) →
    Splits further (full_lines_of bytes) (begins_with 10 bytes) → ends_line b bytes ≡ false →
    Splits further (onto_first b (full_lines_of bytes)) (b == 10)
splits-inside further b bytes h e =
    let lines : List (List ℕ) = prefixed [] further (full_lines_of bytes) in
    let following : List ℕ = concat lines in
    let same : ends_line b following ≡ false = ap (λ (z : Bool). (b == 10) || ((b == 13) && not z)) h.1 ∙ e in
    subst (λ (ls : List (List ℕ)). (full_lines_of (concat ls) ≡ ls) × (begins_with 10 (concat ls) ≡ (b == 10)))
    (sym (prefixed-onto further b (full_lines_of bytes))) (
      ap full_lines_of (concat-onto b lines)
          ∙ ap (λ (t : Bool). cond t ((b ∷ []) ∷ full_lines_of following) (onto_first b (full_lines_of following))) same
          ∙ ap (onto_first b) h.0,
      ap (begins_with 10) (concat-onto b lines),
    )

splits : (further text : List ℕ) → IsLinePrefix further → Splits further (full_lines_of text) (begins_with 10 text)
splits further [] p = (refl, refl)
splits further (b ∷ bytes) p = go (splits further bytes p) (ends_line b bytes) refl
  where
    go : Splits further (full_lines_of bytes) (begins_with 10 bytes) → (t : Bool) → ends_line b bytes ≡ t →
        Splits further (full_lines_of (b ∷ bytes)) (b == 10)
    go h true e =
        subst
        (λ (t : Bool).
        Splits further (cond t ((b ∷ []) ∷ full_lines_of bytes) (onto_first b (full_lines_of bytes))) (b == 10))
        (sym e) (splits-ended further b bytes p h e)
    go h false e =
        subst
        (λ (t : Bool).
        Splits further (cond t ((b ∷ []) ∷ full_lines_of bytes) (onto_first b (full_lines_of bytes))) (b == 10))
        (sym e) (splits-inside further b bytes h e)

-- Lines without their endings.

without_ending-prefix : (prefix line : List ℕ) → NoEnding prefix →
    without_ending (prefix ++ line) ≡ prefix ++ without_ending line
without_ending-prefix [] line h = refl
without_ending-prefix (b ∷ prefix) line h =
    without_ending-cons b (prefix ++ line) h.0 ∙ ap (λ (l : List ℕ). b ∷ l) (without_ending-prefix prefix line h.1)

without_endings-all : (prefix : List ℕ) (lines : List (List ℕ)) → NoEnding prefix →
    map without_ending (map (λ l. prefix ++ l) lines) ≡ map (λ l. prefix ++ l) (map without_ending lines)
without_endings-all prefix [] h = refl
without_endings-all prefix (line ∷ lines) h =
    ap (λ (l : List ℕ). l ∷ map without_ending (map (λ m. prefix ++ m) lines)) (without_ending-prefix prefix line h)
    ∙ ap (λ (ls : List (List ℕ)). (prefix ++ without_ending line) ∷ ls) (without_endings-all prefix lines h)

without_endings-prefixed : (first further : List ℕ) (lines : List (List ℕ)) → NoEnding first → NoEnding further →
    map without_ending (prefixed first further lines) ≡ prefixed first further (map without_ending lines)
without_endings-prefixed first further [] h k = refl
without_endings-prefixed first further (line ∷ lines) h k =
    ap (λ (l : List ℕ). l ∷ map without_ending (map (λ m. further ++ m) lines)) (without_ending-prefix first line h)
    ∙ ap (λ (ls : List (List ℕ)). (first ++ without_ending line) ∷ ls) (without_endings-all further lines k)

pub lines_of-prefixed : (first further text : List ℕ) → NoEnding first → IsLinePrefix further →
    lines_of (concat (prefixed first further (full_lines_of text))) ≡ prefixed first further (lines_of text)
lines_of-prefixed first further text h p =
    ap (map without_ending) (full_lines_of-prefixed first further (full_lines_of text) h (splits further text p).0)
    ∙ without_endings-prefixed first further (full_lines_of text) h (IsLinePrefix-no_ending further p)

-- a text that is not empty has a line
pub some-line : (b : ℕ) (bytes : List ℕ) →
    (line : List ℕ) × (lines : List (List ℕ)) × (lines_of (b ∷ bytes) ≡ line ∷ lines)
some-line b bytes = go (ends_line b bytes) (full_lines_of bytes)
  where
    go : (t : Bool) (ls : List (List ℕ)) →
        (line : List ℕ) × (lines : List (List ℕ)) ×
        (map without_ending (cond t ((b ∷ []) ∷ ls) (onto_first b ls)) ≡ line ∷ lines)
    go true ls = (without_ending (b ∷ []), map without_ending ls, refl)
    go false [] = (without_ending (b ∷ []), [], refl)
    go false (l ∷ ls) = (without_ending (b ∷ l), map without_ending ls, refl)

-- and where no ending comes first, its first line begins with its first byte
pub first-line : (b : ℕ) (bytes : List ℕ) → is_ending b ≡ false →
    (line : List ℕ) × (lines : List (List ℕ)) × (lines_of (b ∷ bytes) ≡ (b ∷ line) ∷ lines)
first-line b bytes e =
    let full : List (List ℕ) = full_lines_of bytes in
    go (lines_of bytes)
    (ap (λ (t : Bool). map without_ending (cond t ((b ∷ []) ∷ full) (onto_first b full))) (ends_line-no b bytes e)
    ∙ without_ending-onto b full e)
  where
    go : (ls : List (List ℕ)) → lines_of (b ∷ bytes) ≡ onto_first b ls →
        (line : List ℕ) × (lines : List (List ℕ)) × (lines_of (b ∷ bytes) ≡ (b ∷ line) ∷ lines)
    go [] is = ([], [], is)
    go (l ∷ ls) is = (l, ls, is)

-- no line has a tab
abbrev pub NoTabs : List (List ℕ) → Type 0
NoTabs [] = Unit {0}
NoTabs (line ∷ lines) = NoTab line × NoTabs lines

no_tab-all : (bytes : List ℕ) → list_all (λ b. not (b == 9)) bytes ≡ true → NoTab bytes
no_tab-all [] h = tt
no_tab-all (b ∷ bytes) h = go (b == 9) (list_all (λ c. not (c == 9)) bytes) (no_tab-all bytes) h
  where
    go : (x y : Bool) → (y ≡ true → NoTab bytes) → (not x && y) ≡ true → (x ≡ false) × NoTab bytes
    go false y below e = (refl, below e)
    go true y below e = cc

no_tab-take : (test : ℕ → Bool) (bytes : List ℕ) → NoTab bytes → NoTab (take_while test bytes)
no_tab-take test [] h = tt
no_tab-take test (b ∷ bytes) h =
    subst NoTab (sym (take_while-cons test b bytes)) (go (test b) (no_tab-take test bytes h.1))
  where
    go : (t : Bool) → NoTab (take_while test bytes) → NoTab (cond t (b ∷ take_while test bytes) [])
    go true below = (h.0, below)
    go false below = tt

no_tab-onto : (b : ℕ) (lines : List (List ℕ)) → (b == 9) ≡ false → NoTabs lines → NoTabs (onto_first b lines)
no_tab-onto b [] e h = ((e, tt), tt)
no_tab-onto b (line ∷ lines) e h = ((e, h.0), h.1)

no_tab-full : (text : List ℕ) → NoTab text → NoTabs (full_lines_of text)
no_tab-full [] h = tt
no_tab-full (b ∷ bytes) h = go (ends_line b bytes) (no_tab-full bytes h.1)
  where
    go : (t : Bool) → NoTabs (full_lines_of bytes) →
        NoTabs (cond t ((b ∷ []) ∷ full_lines_of bytes) (onto_first b (full_lines_of bytes)))
    go true below = ((h.0, tt), below)
    go false below = no_tab-onto b (full_lines_of bytes) h.0 below

no_tab-ends : (lines : List (List ℕ)) → NoTabs lines → NoTabs (map without_ending lines)
no_tab-ends [] h = tt
no_tab-ends (line ∷ lines) h = (no_tab-take (λ b. not (is_ending b)) line h.0, no_tab-ends lines h.1)

pub no_tab-lines : (text : List ℕ) → list_all (λ b. not (b == 9)) text ≡ true → NoTabs (lines_of text)
no_tab-lines text h = no_tab-ends (full_lines_of text) (no_tab-full text (no_tab-all text h))
