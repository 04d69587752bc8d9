-- Parts of UTF-8 texts: a text that is cut beside bytes of ASCII or after its mark, and its lines.
use Rattle.std.proofs.Common.{◌≡◌, ℕ, suc, ◌+◌, ◌-◌, ◌<◌, ◌≤◌, Bool, true, false, cond, ◌&&◌, ◌||◌, ◌==◌, not, List, []}
use Rattle.std.proofs.Common.{◌∷◌, ◌++◌, length, take, drop, get_or, slice_range, inl, inr, ◌⊎◌, Result, Ok, Err, refl}
use Rattle.std.proofs.Common.{sym, ◌∙◌, ap, subst, append_assoc, append-nil, arith, reverse}
use Rattle.std.specs.Prelude.{nat_lt, MatchResult}
use Rattle.std.specs.Result.{result_unwrap_or}
use Rattle.std.specs.Borrow.{Bor}
use Rattle.std.specs.List.{list_any, onto_first, prefix_len, suffix_len}
use Rattle.std.specs.Str.{IsUtf8, IsCharBoundary}
use Rattle.std.proofs.Math.Utf8.{encode}
use Rattle.std.proofs.lemmas.Bool.{and_parts, cases_lt, eq-eqb, eqb-true, ltb-true, true≢false}
use Rattle.std.proofs.lemmas.Bool.Decides.{nat_tests}
use Rattle.std.proofs.lemmas.List.{drop_all, get_or-reverse, length-drop, take_all}
use Rattle.std.proofs.lemmas.List.Sums.{prefix_len_passes, prefix_len_stops, suffix_len-le-length}
use Rattle.std.proofs.lemmas.Str.{IsCharBoundary-after_ascii, IsCharBoundary-before_ascii, IsCharBoundary-end}
use Rattle.std.proofs.lemmas.Str.{IsCharBoundary-past_char, IsCharBoundary-start, IsUtf8-between, IsUtf8-drop}
use Rattle.std.proofs.lemmas.Str.{IsUtf8-nil, IsUtf8-take}
use Rattle.md_meaning.specs.declared.outline.Word.{Word}
use Rattle.md_meaning.specs.Lines.{begins_with, ends_line, is_ending}
use Rattle.md_meaning.specs.Preamble.{has_mark}
use Rattle.md_meaning.specs.Outline.{Entry, entries, entry_with}
use Rattle.md_events.specs.Events.Places.{last_line}
use Rattle.md_meaning.specs.Rest.{is_blank, is_white, trim_end, trim_start}
use Rattle.md_events.specs.Events.Spelled.{without_last}
use Rattle.md_meaning.specs.Texts.{split_lines, trim_each, trim_further}
use Rattle.md_events.proofs.PlacesLemmas.{Some_line, last-next, some-split}
use Rattle.md_events.proofs.PlainSteps.{range-none}
use Rattle.md_meaning.proofs.PreambleLemmas.{mark-bytes}
use Rattle.md_meaning.proofs.TextsLemmas.{split-byte}
use Rattle.md_outline.specs.Between.{is_between}
use Rattle.md_outline.specs.TextLines.{after_ending, first_as, first_full_as, full_as, line_len, lines_as}

-- after a byte of ASCII
boundary-following : (bytes : List ℕ) (i : ℕ) → IsUtf8 bytes → 0 < i → i ≤ length bytes → get_or bytes (i - 1) 0 < 128 →
    IsCharBoundary bytes i
boundary-following bytes i u some within ascii =
    let here : i - 1 + 1 ≡ i = omega arith in
    subst (IsCharBoundary bytes) here (IsCharBoundary-after_ascii bytes (i - 1) u (omega arith) ascii)

-- after a byte order mark, which is one character
boundary-mark : (bytes : List ℕ) → IsUtf8 bytes → has_mark bytes ≡ true → IsCharBoundary bytes 3
unfolding encode
boundary-mark bytes u h = IsCharBoundary-past_char bytes (drop 3 bytes) 0 65279 (omega arith) u (mark-bytes bytes h)

-- a place in a text that is beside ASCII, or after the mark, is the boundary of a character
pub boundary-between : (bytes : List ℕ) (i : ℕ) → IsUtf8 bytes → is_between bytes i ≡ true → i ≤ length bytes →
    IsCharBoundary bytes i
boundary-between bytes i u between within =
    go (i == 0) (i == length bytes) (nat_lt (get_or bytes (i - 1) 0) 128)
    (nat_lt (get_or bytes i 0) 128) refl refl refl refl between
  where
    go : (x y z t : Bool) → (i == 0) ≡ x → (i == length bytes) ≡ y → nat_lt (get_or bytes (i - 1) 0) 128 ≡ z →
        nat_lt (get_or bytes i 0) 128 ≡ t →
        (x || y || z || t || ((i == 3) && has_mark bytes)) ≡ true → IsCharBoundary bytes i
    go true y z t a b c d h = subst (IsCharBoundary bytes) (sym (eqb-true i 0 a)) (IsCharBoundary-start bytes u)
    go false true z t a b c d h =
        subst (IsCharBoundary bytes) (sym (eqb-true i (length bytes) b)) (IsCharBoundary-end bytes)
    go false false true t a b c d h =
        let some : 0 < i = grind (arith, nat_tests) in
        boundary-following bytes i u some within (ltb-true _ _ c)
    go false false false true a b c d h =
        let inside : i < length bytes = grind (arith, nat_tests) in
        IsCharBoundary-before_ascii bytes i inside (ltb-true _ _ d)
    go false false false false a b c d h =
        let parts : ((i == 3) ≡ true) × (has_mark bytes ≡ true) = and_parts (i == 3) (has_mark bytes) h in
        subst (IsCharBoundary bytes) (sym (eqb-true i 3 parts.0)) (boundary-mark bytes u parts.1)

range-past : (xs : List ℕ) (i j : ℕ) → length xs ≤ j → slice_range xs i j ≡ slice_range xs i (length xs)
range-past xs i j le =
    let left : length (drop i xs) ≡ length xs - i = length-drop i xs in
    take_all (j - i) (drop i xs) (omega (arith, left))
    ∙ sym (take_all (length xs - i) (drop i xs) (omega (arith, left)))

-- the part of a UTF-8 text between two such places
pub utf8-part : (bytes : List ℕ) (i j : ℕ) → IsUtf8 bytes → is_between bytes i ≡ true → is_between bytes j ≡ true →
    IsUtf8 (slice_range bytes i j)
utf8-part bytes i j u a b = go (cases_lt i j) (cases_lt i (length bytes)) (cases_lt (length bytes) j)
  where
    none : slice_range bytes i j ≡ [] → IsUtf8 (slice_range bytes i j)
    none e = subst IsUtf8 (sym e) IsUtf8-nil

    go : (i < j) ⊎ (j ≤ i) → (i < length bytes) ⊎ (length bytes ≤ i) → (length bytes < j) ⊎ (j ≤ length bytes) →
        IsUtf8 (slice_range bytes i j)
    go (inr le) x y = none (range-none bytes i j le)
    go (inl lt) (inr past) y = none (range-past bytes i j (omega arith) ∙ range-none bytes i (length bytes) past)
    go (inl lt) (inl inside) (inl past) =
        subst IsUtf8 (sym (range-past bytes i j (omega arith)))
        (IsUtf8-between bytes i (length bytes) u (omega arith) (boundary-between bytes i u a (omega arith))
        (IsCharBoundary-end bytes))
    go (inl lt) (inl inside) (inr within) =
        IsUtf8-between bytes i j u (omega arith) (boundary-between bytes i u a (omega arith))
        (boundary-between bytes j u b within)

ending-ascii : (b : ℕ) → not (is_ending b) ≡ false → b < 128
ending-ascii b h = grind (arith, nat_tests)

-- a text may be cut where its first line ends
line-boundary : (text : List ℕ) → line_len text < length text → IsCharBoundary text (line_len text)
line-boundary text lt =
    let stops : not (is_ending (get_or text (line_len text) 0)) ≡
    false = prefix_len_stops (λ b. not (is_ending b)) text 0 lt in
    IsCharBoundary-before_ascii text (line_len text) lt (ending-ascii _ stops)

-- a line that a text begins with
pub utf8-line : (text : List ℕ) → IsUtf8 text → IsUtf8 (take (line_len text) text)
utf8-line text u = go (cases_lt (line_len text) (length text))
  where
    go : (line_len text < length text) ⊎ (length text ≤ line_len text) → IsUtf8 (take (line_len text) text)
    go (inl lt) = IsUtf8-take text (line_len text) u (line-boundary text lt)
    go (inr le) = subst IsUtf8 (sym (take_all (line_len text) text le)) u

-- what follows a byte of ASCII
utf8-tail : (b : ℕ) (bytes : List ℕ) → IsUtf8 (b ∷ bytes) → b < 128 → IsUtf8 bytes
utf8-tail b bytes u ascii = IsUtf8-drop (b ∷ bytes) 1 u (IsCharBoundary-after_ascii (b ∷ bytes) 0 u (omega arith) ascii)

-- what follows a line, from its ending on
utf8-ending : (text : List ℕ) → IsUtf8 text → IsUtf8 (drop (line_len text) text)
utf8-ending text u = go (cases_lt (line_len text) (length text))
  where
    go : (line_len text < length text) ⊎ (length text ≤ line_len text) → IsUtf8 (drop (line_len text) text)
    go (inl lt) = IsUtf8-drop text (line_len text) u (line-boundary text lt)
    go (inr le) = subst IsUtf8 (sym (drop_all (line_len text) text le)) IsUtf8-nil

-- what follows a line ending
utf8-following : (b : ℕ) (bytes : List ℕ) → is_ending b ≡ true → IsUtf8 (b ∷ bytes) → IsUtf8 (after_ending (b ∷ bytes))
utf8-following b bytes ending u =
    let following : IsUtf8 bytes = utf8-tail b bytes u (ending-ascii b (ap not ending)) in
    go bytes following (b == 13)
  where
    go : (bytes : List ℕ) → IsUtf8 bytes → (x : Bool) → IsUtf8 (cond (x && begins_with 10 bytes) (drop 1 bytes) bytes)
    go bytes v false = v
    go [] v true = v
    go (c ∷ bytes) v true = by (c == 10) refl
      where
        by : (y : Bool) → (c == 10) ≡ y → IsUtf8 (cond y bytes (c ∷ bytes))
        by false e = v
        by true e = utf8-tail c bytes v (let ten : c ≡ 10 = eqb-true c 10 e in omega arith)

-- a text keeps what it is without the spaces and tabs before it
pub utf8-trim : (text : List ℕ) → IsUtf8 text → IsUtf8 (trim_start text)
utf8-trim [] u = u
utf8-trim (b ∷ bytes) u = go (is_white b) refl (utf8-trim bytes)
  where
    go : (x : Bool) → is_white b ≡ x → (IsUtf8 bytes → IsUtf8 (trim_start bytes)) →
        IsUtf8 (drop (cond x (1 + prefix_len is_white bytes) 0) (b ∷ bytes))
    go false e trimmed = u
    go true e trimmed =
        let ascii : b < 128 = grind (arith, nat_tests) in
        let one : 1 + prefix_len is_white bytes ≡ suc (prefix_len is_white bytes) = omega arith in
        rw one (trimmed (utf8-tail b bytes u ascii))

-- nor without those after it
pub utf8-trim_end : (text : List ℕ) → IsUtf8 text → IsUtf8 (trim_end text)
utf8-trim_end text u = go (cases_lt at (length text))
  where
    white : ℕ
    white = suffix_len is_white text

    at : ℕ
    at = length text - white

    ascii : (b : ℕ) → is_white b ≡ true → b < 128
    ascii b e = grind (arith, nat_tests)

    first : at < length text → is_white (get_or text at 0) ≡ true
    first lt =
        let within = suffix_len-le-length is_white text in
        let inside : white - 1 < length text = omega (arith, lt, within) in
        let place : length text - 1 - (white - 1) ≡ at = omega (arith, lt, within) in
        sym (ap is_white (get_or-reverse text (white - 1) 0 inside ∙ ap (λ k. get_or text k 0) place))
        ∙ prefix_len_passes is_white (reverse text) (white - 1) 0 (omega (arith, lt, within))

    go : (at < length text) ⊎ (length text ≤ at) → IsUtf8 (trim_end text)
    go (inl lt) =
        IsUtf8-take text at u (IsCharBoundary-before_ascii text at lt (ascii (get_or text at 0) (first lt)))
    go (inr le) = subst IsUtf8 (sym (take_all at text le)) u

-- what is lent of some bytes as a text
pub text-lent : {E : Type 0} (r : Result (Bor (List ℕ)) E) (d : Bor (List ℕ)) (bytes : List ℕ) (Q : E → Type 0) →
    MatchResult r (λ s. (s.now ≡ bytes) × IsUtf8 bytes) (λ e. ¬ (IsUtf8 bytes) × Q e) → IsUtf8 bytes →
    (result_unwrap_or r d).now ≡ bytes
text-lent (Ok s) d bytes Q h u = h.0
text-lent (Err e) d bytes Q h u = absurd (h.0 u)

-- Lines.

-- a text that is read as its first bytes and what follows them: nothing, or the ending of its first line
abbrev Splits : List ℕ → ℕ → List ℕ → Type 0
Splits text k [] = split_lines text ≡ take k text ∷ []
Splits text k (b ∷ bytes) =
    (is_ending b ≡ true) × (split_lines text ≡ take k text ∷ split_lines (after_ending (b ∷ bytes)))

splits-inside : (c : ℕ) (bytes : List ℕ) (k : ℕ) (following : List ℕ) → is_ending c ≡ false → Splits bytes k following →
    Splits (c ∷ bytes) (suc k) following
splits-inside c bytes k [] e h = split-byte c bytes e ∙ ap (onto_first c) h
splits-inside c bytes k (b ∷ following) e h = (h.0, split-byte c bytes e ∙ ap (onto_first c) h.1)

split-return : (bytes : List ℕ) → split_lines (13 ∷ bytes) ≡ [] ∷ split_lines (after_ending (13 ∷ bytes))
split-return [] = refl
split-return (d ∷ bytes) = by (d == 10) refl
  where
    by : (x : Bool) → (d == 10) ≡ x → split_lines (13 ∷ d ∷ bytes) ≡ [] ∷ split_lines (after_ending (13 ∷ d ∷ bytes))
    by true e =
        subst (λ x. split_lines (13 ∷ x ∷ bytes) ≡ [] ∷ split_lines (after_ending (13 ∷ x ∷ bytes)))
        (sym (eqb-true d 10 e)) refl
    by false e =
        subst
        (λ x.
        cond (not x) ([] ∷ split_lines (d ∷ bytes)) (split_lines (d ∷ bytes)) ≡
        [] ∷ split_lines (cond x bytes (d ∷ bytes)))
        (sym e) refl

split-ending : (c : ℕ) (bytes : List ℕ) → is_ending c ≡ true →
    split_lines (c ∷ bytes) ≡ [] ∷ split_lines (after_ending (c ∷ bytes))
split-ending c bytes h = go (c == 10) (c == 13) refl refl
  where
    go : (x y : Bool) → (c == 10) ≡ x → (c == 13) ≡ y →
        split_lines (c ∷ bytes) ≡ [] ∷ split_lines (after_ending (c ∷ bytes))
    go true y e f =
        subst (λ d. split_lines (d ∷ bytes) ≡ [] ∷ split_lines (after_ending (d ∷ bytes))) (sym (eqb-true c 10 e)) refl
    go false true e f =
        subst (λ d. split_lines (d ∷ bytes) ≡ [] ∷ split_lines (after_ending (d ∷ bytes))) (sym (eqb-true c 13 f))
        (split-return bytes)
    go false false e f = absurd (true≢false (sym h ∙ ap (λ x. x || (c == 13)) e ∙ f))

abbrev SplitsAt : List ℕ → ℕ → Type 0
SplitsAt text k = Splits text k (drop k text)

splits : (text : List ℕ) → SplitsAt text (line_len text)
splits [] = refl
splits (c ∷ bytes) = go (is_ending c) refl (splits bytes)
  where
    go : (x : Bool) → is_ending c ≡ x → SplitsAt bytes (line_len bytes) →
        SplitsAt (c ∷ bytes) (cond (not (is_ending c)) (1 + line_len bytes) 0)
    go true e h =
        subst (λ x. SplitsAt (c ∷ bytes) (cond (not x) (1 + line_len bytes) 0)) (sym e) (e, split-ending c bytes e)
    go false e h =
        let next : suc (line_len bytes) ≡ 1 + line_len bytes = omega arith in
        subst (λ x. SplitsAt (c ∷ bytes) (cond (not x) (1 + line_len bytes) 0)) (sym e)
        (subst (SplitsAt (c ∷ bytes)) next (splits-inside c bytes (line_len bytes) (drop (line_len bytes) bytes) e h))

-- One line of a paragraph's text, and those after its ending.

-- an ending after it
utf8-after : (text : List ℕ) (k : ℕ) (following : List ℕ) → Splits text k following → IsUtf8 following →
    IsUtf8 (after_ending following)
utf8-after text k [] h u = u
utf8-after text k (b ∷ bytes) h u = utf8-following b bytes h.0 u

split-next : (text : List ℕ) (k : ℕ) (following : List ℕ) → Splits text k following → (length following == 0) ≡ false →
    split_lines text ≡ take k text ∷ split_lines (after_ending following)
split-next text k [] h some = absurd (true≢false some)
split-next text k (b ∷ bytes) h some = h.1

split-last : (text : List ℕ) (k : ℕ) (following : List ℕ) → Splits text k following → (length following == 0) ≡ true →
    split_lines text ≡ take k text ∷ []
split-last text k [] h none = h
split-last text k (b ∷ bytes) h none = let some : ⊥ = omega (arith, eqb-true (length (b ∷ bytes)) 0 none) in absurd some

-- a line is shown without the spaces and tabs before it
shown-line : (left line text : List ℕ) (k : ℕ) → k ≡ line_len left → line ≡ take k left → IsUtf8 left →
    (IsUtf8 line → text ≡ trim_start line) → text ≡ trim_start (take (line_len left) left)
shown-line left line text k ek eline u shows =
    let same : line ≡ take (line_len left) left = eline ∙ ap (λ n. take n left) ek in
    shows (subst IsUtf8 (sym same) (utf8-line left u)) ∙ ap trim_start same

entries-append : (w : Word) (depth : ℕ) (xs ys : List (List ℕ)) →
    entries depth w (trim_each (xs ++ ys)) ≡
    entries depth w (trim_each xs) ++ entries depth w (trim_each ys)
entries-append w depth [] ys = refl
entries-append w depth (x ∷ xs) ys =
    ap (λ es. entry_with depth w (trim_start x) ∷ es) (entries-append w depth xs ys)

shown-parted : (w : Word) (depth : ℕ) (lines : List (List ℕ)) (line : List ℕ) →
    entries depth w (trim_each (lines ++ line ∷ [])) ≡
    entries depth w (trim_each lines) ++ entry_with depth w (trim_start line) ∷ []
shown-parted w depth lines line = entries-append w depth lines (line ∷ [])

full-line : (line : List ℕ) (lines : List (List ℕ)) → Some_line lines →
    without_last (line ∷ lines) ≡ line ∷ without_last lines
full-line line [] h = absurd h
full-line line (next ∷ lines) h = refl

-- some lines are those before the last, and the last
pub lines-parted : (lines : List (List ℕ)) → Some_line lines → lines ≡ without_last lines ++ last_line lines ∷ []
lines-parted [] h = absurd h
lines-parted (line ∷ []) h = refl
lines-parted (line ∷ next ∷ lines) h = ap (λ ls. line ∷ ls) (lines-parted (next ∷ lines) tt)

-- a line that has an ending was shown: what is left of the text is what follows the ending
pub lines-next : (w : Word) (depth : ℕ) (done next : List Entry) (left line ending left' text : List ℕ) (k : ℕ) →
    k ≡ line_len left → line ≡ take k left → ending ≡ drop k left → (length ending == 0) ≡ false →
    left' ≡ after_ending ending →
    IsUtf8 left → (IsUtf8 line → text ≡ trim_start line) → next ≡ done ++ entry_with depth w text ∷ [] →
    IsUtf8 left' ×
    ((next ++ full_as w depth left' ≡ done ++ full_as w depth left) ×
    (last_line (split_lines left') ≡ last_line (split_lines left)))
lines-next w depth done next left line ending left' text k ek eline eending some eleft u shows enext =
    let following : ending ≡ drop (line_len left) left = eending ∙ ap (λ n. drop n left) ek in
    let split : Splits left (line_len left) ending = subst (Splits left (line_len left)) (sym following)
    (splits left) in
    let first : text ≡ trim_start (take (line_len left) left) = shown-line left line text k ek eline u shows in
    let all : split_lines left ≡
    take (line_len left) left ∷ split_lines left' = split-next left (line_len left) ending split some
    ∙ ap (λ l. take (line_len left) left ∷ split_lines l) (sym eleft) in
    let full : without_last (split_lines left) ≡
    take (line_len left) left ∷ without_last (split_lines left') = ap without_last all
    ∙ full-line (take (line_len left) left) (split_lines left') (some-split left') in (
      subst IsUtf8 (sym eleft)
          (utf8-after left (line_len left) ending split (subst IsUtf8 (sym following) (utf8-ending left u))),
      (
        ap (λ es. es ++ full_as w depth left') enext
            ∙ append_assoc done (entry_with depth w text ∷ []) (full_as w depth left')
            ∙ ap (λ t. done ++ entry_with depth w t ∷ full_as w depth left') first
            ∙ sym (ap (λ ls. done ++ entries depth w (trim_each ls)) full),
        sym (ap last_line all ∙ last-next (take (line_len left) left) (split_lines left') (some-split left')),
      ),
    )

-- no line that has an ending is left: the rest of the text is its last line
pub lines-end : (w : Word) (depth : ℕ) (done : List Entry) (left ending : List ℕ) (k : ℕ) → k ≡ line_len left →
    ending ≡ drop k left → (length ending == 0) ≡ true →
    (done ≡ done ++ full_as w depth left) × (left ≡ last_line (split_lines left))
lines-end w depth done left ending k ek eending none =
    let following : ending ≡ drop (line_len left) left = eending ∙ ap (λ n. drop n left) ek in
    let split : Splits left (line_len left) ending = subst (Splits left (line_len left)) (sym following)
    (splits left) in
    let one : split_lines left ≡ take (line_len left) left ∷ [] = split-last left (line_len left) ending split none in
    let nothing : drop (line_len left) left ≡ [] = sym following ∙ length-none ending none in
    let whole : take (line_len left) left ≡ left = take-whole (line_len left) left nothing in (
      sym (append-nil done) ∙ sym (ap (λ ls. done ++ entries depth w (trim_each (without_last ls))) one),
      sym (ap last_line one ∙ whole),
    )
  where
    length-none : (xs : List ℕ) → (length xs == 0) ≡ true → xs ≡ []
    length-none [] h = refl
    length-none (x ∷ xs) h = let some : ⊥ = omega (arith, eqb-true (length (x ∷ xs)) 0 h) in absurd some

    take-whole : (n : ℕ) (xs : List ℕ) → drop n xs ≡ [] → take n xs ≡ xs
    take-whole n xs h =
        take_all n xs (let l = length-drop n xs in let z : length (drop n xs) ≡ 0 = ap length h in omega (arith, l, z))

-- a text without an ending and without spaces and tabs in front is the one line of it that is shown
pub line-trimmed : (text : List ℕ) → line_len text ≡ length text → prefix_len is_white text ≡ 0 →
    trim_each (split_lines text) ≡ text ∷ []
line-trimmed text long none =
    let nothing : (length (drop (line_len text) text) == 0) ≡ true =
    eq-eqb _ _ (length-drop (line_len text) text ∙ omega (arith, long)) in
    let one : split_lines text ≡ take (line_len text) text ∷ [] =
    split-last text (line_len text) (drop (line_len text) text) (splits text) nothing in
    let whole : take (line_len text) text ≡ text = take_all (line_len text) text (omega (arith, long)) in
    ap trim_each one ∙ ap (λ l. trim_start l ∷ []) whole ∙ ap (λ n. drop n text ∷ []) none

-- the last line is shown after those that have an ending
pub lines-all : (w : Word) (depth : ℕ) (before done next : List Entry) (text rest shown : List ℕ) →
    rest ≡ last_line (split_lines text) → done ≡ before ++ full_as w depth text → shown ≡ trim_start rest →
    next ≡ done ++ entry_with depth w shown ∷ [] → next ≡ before ++ lines_as w depth text
lines-all w depth before done next text rest shown erest edone eshown enext =
    let lines : List (List ℕ) = split_lines text in
    enext
    ∙ ap (λ es. es ++ entry_with depth w shown ∷ []) edone
    ∙ append_assoc before (full_as w depth text) (entry_with depth w shown ∷ [])
    ∙ ap (λ t. before ++ (full_as w depth text ++ entry_with depth w t ∷ [])) (eshown ∙ ap trim_start erest)
    ∙ ap (λ es. before ++ es)
    (sym (shown-parted w depth (without_last lines) (last_line lines))
    ∙ sym (ap (λ ls. entries depth w (trim_each ls)) (lines-parted lines (some-split text))))

-- Pieces.

-- lines after some bytes of the same line
abbrev onto_line : List ℕ → List (List ℕ) → List (List ℕ)
onto_line front [] = front ∷ []
onto_line front (line ∷ lines) = (front ++ line) ∷ lines

onto-byte : (b : ℕ) (lines further : List (List ℕ)) → Some_line lines →
    onto_first b (without_last lines ++ onto_line (last_line lines) further) ≡
    without_last (onto_first b lines) ++ onto_line (last_line (onto_first b lines)) further
onto-byte b [] further h = absurd h
onto-byte b (line ∷ []) [] h = refl
onto-byte b (line ∷ []) (l ∷ further) h = refl
onto-byte b (line ∷ next ∷ lines) further h = refl

ends-before : (b : ℕ) (bs rest : List ℕ) → begins_with 10 rest ≡ false → ends_line b (bs ++ rest) ≡ ends_line b bs
ends-before b [] rest h = ap (λ x. (b == 10) || ((b == 13) && not x)) h
ends-before b (c ∷ bs) rest h = refl

onto-none : (lines : List (List ℕ)) → Some_line lines → onto_line [] lines ≡ lines
onto-none [] h = absurd h
onto-none (line ∷ lines) h = refl

-- a text is split where a piece ends: its last line continues in what follows
pub split-piece : (piece rest : List ℕ) → begins_with 10 rest ≡ false →
    split_lines (piece ++ rest) ≡
    without_last (split_lines piece) ++ onto_line (last_line (split_lines piece)) (split_lines rest)
split-piece [] rest h = sym (onto-none (split_lines rest) (some-split rest))
split-piece (b ∷ bs) rest h =
    ap
    (λ x.
    cond x ([] ∷ split_lines (bs ++ rest))
    (cond (is_ending b) (split_lines (bs ++ rest)) (onto_first b (split_lines (bs ++ rest)))))
    (ends-before b bs rest h)
    ∙ go (ends_line b bs) (is_ending b) (split_lines bs) (split_lines (bs ++ rest)) (some-split bs)
    (split-piece bs rest h)
  where
    go : (x y : Bool) (lines all : List (List ℕ)) → Some_line lines →
        all ≡ without_last lines ++ onto_line (last_line lines) (split_lines rest) →
        cond x ([] ∷ all) (cond y all (onto_first b all))
        ≡ without_last (cond x ([] ∷ lines) (cond y lines (onto_first b lines)))
        ++ onto_line (last_line (cond x ([] ∷ lines) (cond y lines (onto_first b lines)))) (split_lines rest)
    go true y lines all some e =
        ap (λ ls. [] ∷ ls) e
        ∙ sym (ap (λ ls. ls ++ onto_line (last_line lines) (split_lines rest)) (full-line [] lines some))
        ∙ sym (ap (λ l. without_last ([] ∷ lines) ++ onto_line l (split_lines rest)) (last-next [] lines some))
    go false true lines all some e = e
    go false false lines all some e = ap (onto_first b) e ∙ onto-byte b lines (split_lines rest) some

-- whitespace before a line is trimmed
pub trim-blank : (front line : List ℕ) → is_blank front ≡ true → trim_start (front ++ line) ≡ trim_start line
trim-blank [] line h = refl
trim-blank (b ∷ front) line h =
    let parts = and_parts (is_white b) (is_blank front) h in
    let one : 1 + prefix_len is_white (front ++ line) ≡ suc (prefix_len is_white (front ++ line)) = omega arith in
    ap (λ x. drop (cond x (1 + prefix_len is_white (front ++ line)) 0) (b ∷ front ++ line)) parts.0
    ∙ ap (λ n. drop n (b ∷ front ++ line)) one
    ∙ trim-blank front line parts.1

trim-onto : (front : List ℕ) (lines : List (List ℕ)) → Some_line lines → is_blank front ≡ true →
    trim_each (onto_line front lines) ≡ trim_each lines
trim-onto front [] some h = absurd some
trim-onto front (line ∷ lines) some h = ap (λ l. l ∷ trim_each lines) (trim-blank front line h)

-- a piece that ends where a line begins is shown by its lines that have an ending, and what follows it by its own lines
pub piece-entries : (w : Word) (depth : ℕ) (piece rest : List ℕ) → begins_with 10 rest ≡ false →
    is_blank (last_line (split_lines piece)) ≡ true →
    lines_as w depth (piece ++ rest) ≡ full_as w depth piece ++ lines_as w depth rest
piece-entries w depth piece rest h blank =
    let full : List (List ℕ) = without_last (split_lines piece) in
    let further : List (List ℕ) = onto_line (last_line (split_lines piece)) (split_lines rest) in
    ap (λ ls. entries depth w (trim_each ls)) (split-piece piece rest h)
    ∙ entries-append w depth full further
    ∙ ap (λ ls. full_as w depth piece ++ entries depth w ls)
    (trim-onto (last_line (split_lines piece)) (split_lines rest) (some-split rest) blank)

-- The first line of a text, which is shown as it is.

-- it is a text, and so is what follows its ending
pub first-shown : (w : Word) (depth : ℕ) (before done : List Entry) (text line ending rest shown : List ℕ) (k : ℕ) →
    k ≡ line_len text → line ≡ take k text → ending ≡ drop k text → rest ≡ after_ending ending → IsUtf8 text →
    (IsUtf8 line → shown ≡ line) → done ≡ before ++ entry_with depth w shown ∷ [] →
    IsUtf8 rest × (done ≡ before ++ entry_with depth w (take (line_len text) text) ∷ [])
first-shown w depth before done text line ending rest shown k ek eline eending erest u shows edone =
    let first : line ≡ take (line_len text) text = eline ∙ ap (λ n. take n text) ek in
    let following : ending ≡ drop (line_len text) text = eending ∙ ap (λ n. drop n text) ek in (
      subst IsUtf8 (sym (erest ∙ ap after_ending following))
          (utf8-after text (line_len text) (drop (line_len text) text) (splits text) (utf8-ending text u)),
      edone
          ∙ ap (λ t. before ++ entry_with depth w t ∷ [])
          (shows (subst IsUtf8 (sym first) (utf8-line text u)) ∙ first),
    )

-- with those after it that have an ending
pub first-full : (w : Word) (depth : ℕ) (before done next : List Entry) (text line ending rest shown : List ℕ) (k : ℕ) →
    k ≡ line_len text → line ≡ take k text → ending ≡ drop k text → rest ≡ after_ending ending → IsUtf8 text →
    (IsUtf8 line → shown ≡ line) → done ≡ before ++ entry_with depth w shown ∷ [] →
    (IsUtf8 rest → next ≡ done ++ full_as w depth rest) → next ≡ before ++ first_full_as w depth text
first-full w depth before done next text line ending rest shown k ek eline eending erest u shows edone enext =
    let first = first-shown w depth before done text line ending rest shown k ek eline eending erest u shows edone in
    let same : rest ≡ after_ending (drop (line_len text) text) =
    erest ∙ ap after_ending (eending ∙ ap (λ n. drop n text) ek) in
    enext first.0
    ∙ ap (λ es. es ++ full_as w depth rest) first.1
    ∙ append_assoc before (entry_with depth w (take (line_len text) text) ∷ []) (full_as w depth rest)
    ∙ ap (λ t. before ++ entry_with depth w (take (line_len text) text) ∷ full_as w depth t) same

-- all of the text
pub first-all : (w : Word) (depth : ℕ) (before done next : List Entry) (text line ending rest shown : List ℕ) (k : ℕ) →
    k ≡ line_len text → line ≡ take k text → ending ≡ drop k text → rest ≡ after_ending ending → IsUtf8 text →
    (IsUtf8 line → shown ≡ line) → done ≡ before ++ entry_with depth w shown ∷ [] → (length ending == 0) ≡ false →
    (IsUtf8 rest → next ≡ done ++ lines_as w depth rest) → next ≡ before ++ first_as w depth text
first-all w depth before done next text line ending rest shown k ek eline eending erest u shows edone some enext =
    let first = first-shown w depth before done text line ending rest shown k ek eline eending erest u shows edone in
    let following : ending ≡ drop (line_len text) text = eending ∙ ap (λ n. drop n text) ek in
    let split : Splits text (line_len text) ending = subst (Splits text (line_len text)) (sym following)
    (splits text) in
    let all : split_lines text ≡ take (line_len text) text ∷ split_lines rest =
    split-next text (line_len text) ending split some
    ∙ ap (λ t. take (line_len text) text ∷ split_lines t) (sym erest) in
    enext first.0
    ∙ ap (λ es. es ++ lines_as w depth rest) first.1
    ∙ append_assoc before (entry_with depth w (take (line_len text) text) ∷ []) (lines_as w depth rest)
    ∙ ap (λ ls. before ++ entries depth w (trim_further ls)) (sym all)

-- and where it has no ending
pub first-one : (w : Word) (depth : ℕ) (before done : List Entry) (text line ending shown : List ℕ) (k : ℕ) →
    k ≡ line_len text → line ≡ take k text → ending ≡ drop k text → IsUtf8 text → (IsUtf8 line → shown ≡ line) →
    done ≡ before ++ entry_with depth w shown ∷ [] → (length ending == 0) ≡ true →
    done ≡ before ++ first_as w depth text
first-one w depth before done text line ending shown k ek eline eending u shows edone none =
    let following : ending ≡ drop (line_len text) text = eending ∙ ap (λ n. drop n text) ek in
    let split : Splits text (line_len text) ending = subst (Splits text (line_len text)) (sym following)
    (splits text) in
    (first-shown w depth before done text line ending (after_ending ending) shown k ek eline eending refl u shows
    edone).1
    ∙ ap (λ ls. before ++ entries depth w (trim_further ls))
    (sym (split-last text (line_len text) ending split none))

abbrev Some_byte : List ℕ → Type 0
Some_byte [] = ⊥
Some_byte (b ∷ bytes) = Unit {0}

-- something is after the first line where there is an ending
any-following : (text : List ℕ) → list_any is_ending text ≡ true → Some_byte (drop (line_len text) text)
any-following [] h = absurd (true≢false (sym h))
any-following (c ∷ bytes) h = go (is_ending c) refl (any-following bytes)
  where
    go : (x : Bool) → is_ending c ≡ x → (list_any is_ending bytes ≡ true → Some_byte (drop (line_len bytes) bytes)) →
        Some_byte (drop (cond (not (is_ending c)) (1 + line_len bytes) 0) (c ∷ bytes))
    go true e k = subst (λ x. Some_byte (drop (cond (not x) (1 + line_len bytes) 0) (c ∷ bytes))) (sym e) tt
    go false e k =
        let one : 1 + line_len bytes ≡ suc (line_len bytes) = omega arith in
        subst (λ x. Some_byte (drop (cond (not x) (1 + line_len bytes) 0) (c ∷ bytes))) (sym e)
        (rw one (k (sym (ap (λ x. x || list_any is_ending bytes) e) ∙ h)))

split-any : (text : List ℕ) → list_any is_ending text ≡ true →
    split_lines text ≡ take (line_len text) text ∷ split_lines (after_ending (drop (line_len text) text))
split-any text h = go (drop (line_len text) text) (any-following text h) (splits text)
  where
    go : (following : List ℕ) → Some_byte following → Splits text (line_len text) following →
        split_lines text ≡ take (line_len text) text ∷ split_lines (after_ending following)
    go [] some split = absurd some
    go (b ∷ bytes) some split = split.1

-- a piece with an ending that ends where a line begins is shown so, and what follows it by its own lines
pub first-piece : (w : Word) (depth : ℕ) (piece rest : List ℕ) → list_any is_ending piece ≡ true →
    begins_with 10 rest ≡ false → is_blank (last_line (split_lines piece)) ≡ true →
    first_as w depth (piece ++ rest) ≡ first_full_as w depth piece ++ lines_as w depth rest
first-piece w depth piece rest some h blank =
    let line : List ℕ = take (line_len piece) piece in
    let following : List ℕ = after_ending (drop (line_len piece) piece) in
    let further : List (List ℕ) = onto_line (last_line (split_lines piece)) (split_lines rest) in
    let full : without_last (split_lines piece) ≡ line ∷ without_last (split_lines following) =
    ap without_last (split-any piece some) ∙ full-line line (split_lines following) (some-split following) in
    ap (λ ls. entries depth w (trim_further ls)) (split-piece piece rest h ∙ ap (λ ls. ls ++ further) full)
    ∙ ap (λ es. entry_with depth w line ∷ es) (entries-append w depth (without_last (split_lines following)) further)
    ∙ ap (λ ls. first_full_as w depth piece ++ entries depth w ls)
    (trim-onto (last_line (split_lines piece)) (split_lines rest) (some-split rest) blank)
