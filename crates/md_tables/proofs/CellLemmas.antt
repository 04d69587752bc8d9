-- A cell of a delimiter row, byte by byte.
use Rattle.std.proofs.Common.{◌≡◌, ℕ, Bool, true, false, ◌&&◌, nat_eq, List, [], ◌∷◌, ◌++◌, drop, reverse}
use Rattle.std.proofs.Common.{refl, sym, ◌∙◌, ap}
use Rattle.std.specs.Prelude.{if◌then◌else◌, not}
use Rattle.std.proofs.lemmas.Bool.{and_parts}
use Rattle.std.proofs.lemmas.List.{reverse-append}
use Rattle.std.proofs.lemmas.List.Sums.{list_all-from_AllPass}
use Rattle.md_meaning.specs.Bytes.{after, after_optional, begins, is_end}
use Rattle.md_meaning.specs.Lines.{begins_with}
use Rattle.md_meaning.specs.Rest.{is_blank, is_white, trim, trim_end, trim_start}
use Rattle.md_meaning.specs.Table.{is_delimiter}
use Rattle.md_leaves.proofs.TitleTexts.{front-stops, kept-ends, kept-whole, tail, tail-passes}
use Rattle.md_events.proofs.RestLines.{count-one, trim-white}
use Rattle.md_tables.specs.Delimiter.{Aligns, Dash, Divides, Mark, Other, Stops, White, mark_of}
use Rattle.md_tables.specs.DelimiterRule.{Following, Counts, Dashes, Fails, Front, Proceeds, Left}
use Rattle.md_tables.specs.DelimiterRule.{Marks, Move, Open, Place, move}
use Rattle.md_tables.proofs.DelimiterLemmas.{recorded-as, white-mark}

-- Where no whitespace is at an end.

-- the last byte is no whitespace
abbrev pub ends_dark : List ℕ → Bool
ends_dark [] = true
ends_dark (b ∷ bs) = if is_end bs then not (is_white b) else ends_dark bs

begins-front : (f : ℕ → Bool) (xs : List ℕ) (x y : ℕ) → begins f ((xs ++ x ∷ []) ++ y ∷ []) ≡ begins f (xs ++ x ∷ [])
begins-front f [] x y = refl
begins-front f (z ∷ xs) x y = refl

pub dark-ends : (bs : List ℕ) → begins is_white (reverse bs) ≡ false → ends_dark bs ≡ true
dark-ends [] e = refl
dark-ends (b ∷ []) e = rw e refl
dark-ends (b ∷ c ∷ bs) e = dark-ends (c ∷ bs) (sym less ∙ e)
  where
    less : begins is_white (reverse (b ∷ c ∷ bs)) ≡ begins is_white (reverse (c ∷ bs))
    less =
        ap (begins is_white)
        (reverse-append (b ∷ []) (c ∷ bs) ∙ ap (λ (x : List ℕ). x ++ b ∷ []) (reverse-append (c ∷ []) bs))
        ∙ begins-front is_white (reverse bs) c b
        ∙ ap (begins is_white) (sym (reverse-append (c ∷ []) bs))

-- bytes without the whitespace at their end, and that whitespace
pub trimmed-whole : (bs : List ℕ) → bs ≡ trim_end bs ++ tail is_white bs
trimmed-whole bs = kept-whole is_white bs

pub tail-blank : (bs : List ℕ) → is_blank (tail is_white bs) ≡ true
tail-blank bs = list_all-from_AllPass is_white (tail is_white bs) (tail-passes is_white bs)

pub trimmed-dark : (bs : List ℕ) → ends_dark (trim_end bs) ≡ true
trimmed-dark bs = dark-ends (trim_end bs) (kept-ends is_white bs)

pub trimmed-begins : (bs : List ℕ) → begins is_white (trim bs) ≡ false
trimmed-begins bs = go (trim bs) (trimmed-whole (trim_start bs))
  where
    go : (front : List ℕ) → trim_start bs ≡ front ++ tail is_white (trim_start bs) → begins is_white front ≡ false
    go [] e = refl
    go (b ∷ front) e = sym (ap (begins is_white) e) ∙ front-stops is_white bs

-- What is left of a cell.

-- a pipe is none of it
abbrev pub move_in : Place → Mark → Move
move_in p Divides = Fails
move_in p x = move p x

abbrev pub led_in : Move → (Place → Bool) → Bool
led_in (Proceeds q) on = on q
led_in Counts on = on Dashes
led_in (Marks q) on = on q
led_in Fails on = false

-- whether a cell may end there
abbrev pub may_end_in : Place → Bool
may_end_in Front = false
may_end_in Open = false
may_end_in Left = false
may_end_in Dashes = true
may_end_in Following = true

-- whether bytes end a cell
abbrev pub ends_cell : Place → List ℕ → Bool
ends_cell p [] = may_end_in p
ends_cell p (b ∷ bs) = led_in (move_in p (mark_of b)) (λ q. ends_cell q bs)

-- whitespace at the end does not matter
cell-blank : (p : Place) (ws : List ℕ) → is_blank ws ≡ true → ends_cell p ws ≡ may_end_in p
cell-blank p [] h = refl
cell-blank p (w ∷ ws) h =
    let both : (is_white w ≡ true) × (is_blank ws ≡ true) = and_parts (is_white w) (is_blank ws) h in
    go p (white-mark w both.0) (λ q. cell-blank q ws both.1)
  where
    go : (q : Place) → mark_of w ≡ White → ((r : Place) → ends_cell r ws ≡ may_end_in r) →
        ends_cell q (w ∷ ws) ≡ may_end_in q
    go Front e on = rw e refl
    go Open e on = rw e (on Open)
    go Left e on = rw e refl
    go Dashes e on = rw e (on Following)
    go Following e on = rw e (on Following)

led_in-same : (m : Move) (f g : Place → Bool) → ((q : Place) → f q ≡ g q) → led_in m f ≡ led_in m g
led_in-same (Proceeds q) f g h = h q
led_in-same Counts f g h = h Dashes
led_in-same (Marks q) f g h = h q
led_in-same Fails f g h = refl

pub cell-white : (p : Place) (bs ws : List ℕ) → is_blank ws ≡ true → ends_cell p (bs ++ ws) ≡ ends_cell p bs
cell-white p [] ws h = cell-blank p ws h
cell-white p (b ∷ bs) ws h =
    led_in-same (move_in p (mark_of b)) (λ q. ends_cell q (bs ++ ws)) (λ q. ends_cell q bs) (λ q. cell-white q bs ws h)

-- nor does whitespace before it
cell-start : (bs : List ℕ) → ends_cell Open bs ≡ ends_cell Open (trim_start bs)
cell-start [] = refl
cell-start (b ∷ bs) = go (is_white b) refl (cell-start bs)
  where
    go : (x : Bool) → is_white b ≡ x → ends_cell Open bs ≡ ends_cell Open (trim_start bs) →
        ends_cell Open (b ∷ bs) ≡ ends_cell Open (trim_start (b ∷ bs))
    go true e on =
        let here : ends_cell Open (b ∷ bs) ≡ ends_cell Open bs = rw (white-mark b e) refl in
        here ∙ on ∙ ap (ends_cell Open) (sym (trim-white b bs e))
    go false e on = let none : trim_start (b ∷ bs) ≡ b ∷ bs = rw e refl in ap (ends_cell Open) (sym none)

-- after whitespace in bytes that do not end with some, something is
pub dark-rest : (b : ℕ) (bs : List ℕ) → ends_dark (b ∷ bs) ≡ true → is_white b ≡ true →
    (is_end bs ≡ false) × (ends_dark bs ≡ true)
dark-rest b [] h white = let no : false ≡ true = sym (ap not white) ∙ h in cc
dark-rest b (c ∷ bs) h white = (refl, h)

-- what follows a byte does not end with whitespace either
pub dark-next : (b : ℕ) (bs : List ℕ) → ends_dark (b ∷ bs) ≡ true → ends_dark bs ≡ true
dark-next b [] h = refl
dark-next b (c ∷ bs) h = h

-- after a cell nothing but whitespace is,
following-dark : (bs : List ℕ) → ends_dark bs ≡ true → ends_cell Following bs ≡ is_end bs
following-dark [] h = refl
following-dark (b ∷ bs) h = go (mark_of b) refl (following-dark bs)
  where
    go : (x : Mark) → mark_of b ≡ x → (ends_dark bs ≡ true → ends_cell Following bs ≡ is_end bs) →
        ends_cell Following (b ∷ bs) ≡ false
    go Stops e on = rw e refl
    go White e on = let r = dark-rest b bs h (recorded-as b White e).white in rw e (on r.1 ∙ r.0)
    go Divides e on = rw e refl
    go Aligns e on = rw e refl
    go Dash e on = rw e refl
    go Other e on = rw e refl

-- in the dashes of a cell: more of them, and perhaps a colon
abbrev dashes : List ℕ → Bool
dashes m = is_end (after_optional 58 (after (λ b. nat_eq b 45) m))

after-one : (c : ℕ) (cs : List ℕ) → nat_eq c 45 ≡ true →
    after (λ x. nat_eq x 45) (c ∷ cs) ≡ after (λ x. nat_eq x 45) cs
after-one c cs k = ap (λ (n : ℕ). drop n (c ∷ cs)) (count-one (λ x. nat_eq x 45) c cs k)

dashes-dark : (bs : List ℕ) → ends_dark bs ≡ true → ends_cell Dashes bs ≡ dashes bs
dashes-dark [] h = refl
dashes-dark (b ∷ bs) h = go (mark_of b) refl (dashes-dark bs (dark-next b bs h))
  where
    go : (x : Mark) → mark_of b ≡ x → ends_cell Dashes bs ≡ dashes bs → ends_cell Dashes (b ∷ bs) ≡ dashes (b ∷ bs)
    go Stops e on = let t = recorded-as b Stops e in rw (e, t.dash, t.colon) refl
    go White e on =
        let t = recorded-as b White e in
        let r = dark-rest b bs h t.white in
        rw (e, t.dash, t.colon) (following-dark bs r.1 ∙ r.0)
    go Divides e on = let t = recorded-as b Divides e in rw (e, t.dash, t.colon) refl
    go Aligns e on = let t = recorded-as b Aligns e in rw (e, t.dash, t.colon) (following-dark bs (dark-next b bs h))
    go Dash e on =
        let t = recorded-as b Dash e in
        let more : after (λ c. nat_eq c 45) (b ∷ bs) ≡ after (λ c. nat_eq c 45) bs = after-one b bs t.dash in
        rw (e, more) on
    go Other e on = let t = recorded-as b Other e in rw (e, t.dash, t.colon) refl

-- after the colon at its front: a dash, and more of them
left-dark : (bs : List ℕ) → ends_dark bs ≡ true → ends_cell Left bs ≡ begins_with 45 bs && dashes bs
left-dark [] h = refl
left-dark (b ∷ bs) h = go (mark_of b) refl
  where
    go : (x : Mark) → mark_of b ≡ x → ends_cell Left (b ∷ bs) ≡ begins_with 45 (b ∷ bs) && dashes (b ∷ bs)
    go Stops e = let t = recorded-as b Stops e in rw (e, t.dash) refl
    go White e = let t = recorded-as b White e in rw (e, t.dash) refl
    go Divides e = let t = recorded-as b Divides e in rw (e, t.dash) refl
    go Aligns e = let t = recorded-as b Aligns e in rw (e, t.dash) refl
    go Dash e =
        let t = recorded-as b Dash e in
        let same : dashes (b ∷ bs) ≡ dashes bs =
        ap (λ (x : List ℕ). is_end (after_optional 58 x)) (after-one b bs t.dash) in
        rw (same, e, t.dash) (dashes-dark bs (dark-next b bs h))
    go Other e = let t = recorded-as b Other e in rw (e, t.dash) refl

-- a cell without outer whitespace
open-dark : (bs : List ℕ) → ends_dark bs ≡ true → begins is_white bs ≡ false → ends_cell Open bs ≡ is_delimiter bs
open-dark [] h dark = refl
open-dark (b ∷ bs) h dark = go (mark_of b) refl
  where
    go : (x : Mark) → mark_of b ≡ x → ends_cell Open (b ∷ bs) ≡ is_delimiter (b ∷ bs)
    go Stops e = let t = recorded-as b Stops e in rw (e, t.colon, t.dash) refl
    go White e = let no : true ≡ false = sym (recorded-as b White e).white ∙ dark in cc
    go Divides e = let t = recorded-as b Divides e in rw (e, t.colon, t.dash) refl
    go Aligns e = let t = recorded-as b Aligns e in rw (e, t.colon) (left-dark bs (dark-next b bs h))
    go Dash e =
        let t = recorded-as b Dash e in
        let same : dashes (b ∷ bs) ≡ dashes bs =
        ap (λ (x : List ℕ). is_end (after_optional 58 x)) (after-one b bs t.dash) in
        let begun : ends_cell Open (b ∷ bs) ≡ ends_cell Dashes bs = rw e refl in
        let plain : after_optional 58 (b ∷ bs) ≡ b ∷ bs = rw t.colon refl in
        let is : is_delimiter (b ∷ bs) ≡ dashes bs =
        ap (λ (y : List ℕ). begins_with 45 y && is_end (after_optional 58 (after (λ c. nat_eq c 45) y))) plain
        ∙ ap (λ (x : Bool). x && dashes (b ∷ bs)) t.dash ∙ same in
        begun ∙ dashes-dark bs (dark-next b bs h) ∙ sym is
    go Other e = let t = recorded-as b Other e in rw (e, t.colon, t.dash) refl

-- what ends a cell from its begin is a cell of a delimiter row, by the line definition
pub cell-is : (f : List ℕ) → ends_cell Open f ≡ is_delimiter (trim f)
cell-is f =
    cell-start f ∙ ap (ends_cell Open) (trimmed-whole (trim_start f))
    ∙ cell-white Open (trim f) (tail is_white (trim_start f)) (tail-blank (trim_start f))
    ∙ open-dark (trim f) (trimmed-dark (trim_start f)) (trimmed-begins f)
