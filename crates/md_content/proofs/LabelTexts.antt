-- The words of a text are those of its lines.
use Rattle.std.proofs.Common.{◌≡◌, ℕ, Bool, true, false, not, ◌&&◌, ◌||◌, nat_eq, List, [], ◌∷◌, ◌++◌, drop}
use Rattle.std.proofs.Common.{refl, sym, ◌∙◌, ap, append-nil}
use Rattle.std.specs.Prelude.{filter, flat_map}
use Rattle.std.specs.List.{onto_first, slice_split}
use Rattle.md_meaning.specs.Bytes.{is_end}
use Rattle.md_meaning.specs.Label.{normal_form, words}
use Rattle.md_meaning.specs.Lines.{begins_with, ends_line, is_ending}
use Rattle.md_meaning.specs.Rest.{is_white}
use Rattle.md_meaning.specs.Texts.{split_lines}
use Rattle.md_content.specs.LabelTexts.{on_one_line}

-- those of the pieces that are no blank
abbrev filled : List (List ℕ) → List (List ℕ)
filled pieces = filter (λ piece. not (is_end piece)) pieces

-- The pieces of a text on one line are those of its lines, one after another: the first piece is that of the first
-- line, and so are all others, but for those of nothing.
record Pieces (one : List (List ℕ)) (lines : List (List ℕ)) : Type 0 where
  piece : List ℕ
  more : List (List ℕ)
  line : List ℕ
  rest : List (List ℕ)
  left : List (List ℕ)
  one_is : one ≡ piece ∷ more
  lines_are : lines ≡ line ∷ rest
  split : slice_split is_white line ≡ piece ∷ left
  same : filled more ≡ filled left ++ flat_map words rest

-- all words
words-of : (one lines : List (List ℕ)) → Pieces one lines → filled one ≡ flat_map words lines
words-of one lines p =
    ap filled p.one_is ∙ first (is_end p.piece) refl
    ∙ ap (λ (l : List (List ℕ)). filled l ++ flat_map words p.rest) (sym p.split)
    ∙ ap (flat_map words) (sym p.lines_are)
  where
    first : (x : Bool) → is_end p.piece ≡ x →
        filled (p.piece ∷ p.more) ≡ filled (p.piece ∷ p.left) ++ flat_map words p.rest
    first true e = rw e p.same
    first false e = rw e (ap (λ (l : List (List ℕ)). p.piece ∷ l) p.same)

-- after the ending of a line
pieces-ended : (one lines : List (List ℕ)) → Pieces one lines → Pieces ([] ∷ one) ([] ∷ lines)
pieces-ended one lines p = record {
  piece = [];
  more = one;
  line = [];
  rest = lines;
  left = [];
  one_is = refl;
  lines_are = refl;
  split = refl;
  same = words-of one lines p;
}

-- after a blank
pieces-white : (b : ℕ) (one lines : List (List ℕ)) → is_white b ≡ true → Pieces one lines →
    Pieces ([] ∷ one) (onto_first b lines)
pieces-white b one lines w p = record {
  piece = [];
  more = one;
  line = b ∷ p.line;
  rest = p.rest;
  left = slice_split is_white p.line;
  one_is = refl;
  lines_are = ap (onto_first b) p.lines_are;
  split = rw w refl;
  same = words-of one lines p ∙ ap (flat_map words) p.lines_are;
}

-- after another byte
pieces-other : (b : ℕ) (one lines : List (List ℕ)) → is_white b ≡ false → Pieces one lines →
    Pieces (onto_first b one) (onto_first b lines)
pieces-other b one lines w p = record {
  piece = b ∷ p.piece;
  more = p.more;
  line = b ∷ p.line;
  rest = p.rest;
  left = p.left;
  one_is = ap (onto_first b) p.one_is;
  lines_are = ap (onto_first b) p.lines_are;
  split = rw w (ap (onto_first b) p.split);
  same = p.same;
}

-- a CR whose LF ends the line
pieces-cut : (one lines rest : List (List ℕ)) → lines ≡ [] ∷ rest → Pieces one lines → Pieces ([] ∷ one) lines
pieces-cut one lines rest k p = record {
  piece = [];
  more = one;
  line = [];
  rest = rest;
  left = [];
  one_is = refl;
  lines_are = k;
  split = refl;
  same = words-of one lines p ∙ ap (flat_map words) k;
}

-- What a byte does.

-- one that ends a line is an ending,
ends-ending : (b : ℕ) (bs : List ℕ) → ends_line b bs ≡ true → is_ending b ≡ true
ends-ending b bs e = go (nat_eq b 10) (nat_eq b 13) e
  where
    go : (x y : Bool) → x || (y && not (begins_with 10 bs)) ≡ true → x || y ≡ true
    go true y k = refl
    go false true k = refl
    go false false k = cc

-- and parts words
ending-split : (b : ℕ) (bs : List ℕ) → is_ending b ≡ true →
    slice_split is_white (on_one_line (b ∷ bs)) ≡ [] ∷ slice_split is_white (on_one_line bs)
ending-split b bs e = rw e refl

-- an ending that does not end the line is before one that does
cut-lines : (b : ℕ) (bs : List ℕ) → ends_line b bs ≡ false → is_ending b ≡ true →
    split_lines bs ≡ [] ∷ split_lines (drop 1 bs)
cut-lines b bs is e = by bs (go (nat_eq b 10) (nat_eq b 13) (begins_with 10 bs) is e)
  where
    go : (x y z : Bool) → x || (y && not z) ≡ false → x || y ≡ true → z ≡ true
    go true y z k l = cc
    go false true true k l = refl
    go false true false k l = cc
    go false false z k l = cc

    by : (l : List ℕ) → begins_with 10 l ≡ true → split_lines l ≡ [] ∷ split_lines (drop 1 l)
    by [] k = cc
    by (c ∷ cs) k = rw k refl

-- the pieces of a text
pieces : (bytes : List ℕ) → Pieces (slice_split is_white (on_one_line bytes)) (split_lines bytes)
pieces [] = record {
  piece = [];
  more = [];
  line = [];
  rest = [];
  left = [];
  one_is = refl;
  lines_are = refl;
  split = refl;
  same = refl;
}
pieces (b ∷ bs) = go (ends_line b bs) (is_ending b) (is_white b) refl refl refl (pieces bs)
  where
    one : List (List ℕ)
    one = slice_split is_white (on_one_line bs)

    Is : Type 0
    Is = Pieces (slice_split is_white (on_one_line (b ∷ bs))) (split_lines (b ∷ bs))

    go : (x y z : Bool) → ends_line b bs ≡ x → is_ending b ≡ y → is_white b ≡ z → Pieces one (split_lines bs) → Is
    go true y z e k w p =
        rw (ending-split b bs (ends-ending b bs e), e) (pieces-ended one (split_lines bs) p)
    go false true z e k w p =
        rw (ending-split b bs k, e, k)
        (pieces-cut one (split_lines bs) (split_lines (drop 1 bs)) (cut-lines b bs e k) p)
    go false false true e k w p = rw (e, k, w) (pieces-white b one (split_lines bs) w p)
    go false false false e k w p = rw (e, k, w) (pieces-other b one (split_lines bs) w p)

-- a normal form is one of words alone
normal-by : (lines others : List (List ℕ)) → flat_map words lines ≡ flat_map words others →
    normal_form lines ≡ normal_form others
unfolding normal_form
normal-by lines others e = rw e refl

-- The normal form of a label on one line is that of its lines.
pub normal-on_one_line : (label : List ℕ) → normal_form (on_one_line label ∷ []) ≡ normal_form (split_lines label)
normal-on_one_line label =
    normal-by (on_one_line label ∷ []) (split_lines label)
    (append-nil (words (on_one_line label))
    ∙ words-of (slice_split is_white (on_one_line label)) (split_lines label) (pieces label))
