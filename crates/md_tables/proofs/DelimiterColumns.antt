-- What ends a delimiter row by its states is a delimiter row by the line definition, with as many columns.
use Rattle.std.proofs.Common.{◌≡◌, ℕ, suc, ◌+◌, ◌<◌, Bool, true, false, cond, ◌&&◌, ◌||◌, nat_eq, List, [], ◌∷◌, ◌++◌}
use Rattle.std.proofs.Common.{Some, None, length, map, refl, sym, ◌∙◌, ap, ap₂, arith, append-nil}
use Rattle.std.specs.List.{list_all, list_any}
use Rattle.std.proofs.lemmas.Bool.{and_parts, eqb-true}
use Rattle.std.proofs.lemmas.List.{length-map}
use Rattle.std.proofs.lemmas.Bool.Decides.{nat_tests}
use Rattle.md_engine.specs.declared.tokenizer.Scratch.{Scratch}
use Rattle.md_meaning.specs.Bytes.{after_optional, begins, is_end}
use Rattle.md_meaning.specs.Rest.{is_blank, is_white, trim, trim_end, trim_start}
use Rattle.md_meaning.specs.Table.{delimiter_columns, is_delimiter, pieces, row_cells}
use Rattle.md_leaves.proofs.TitleTexts.{tail}
use Rattle.md_leaves.proofs.BreakLemmas.{white-apart}
use Rattle.md_link_definitions.proofs.Pieces.{Parted, onto-parted, pieces-parted}
use Rattle.md_tables.specs.Delimiter.{Aligns, Dash, Divides, Mark, Other, Stops, White, mark_of}
use Rattle.md_tables.specs.DelimiterRule.{Following, Counts, Dashes, Fails, Front, Proceeds, Left, Marks, Move}
use Rattle.md_tables.specs.DelimiterRule.{Open, Place, counted, fits, led, met, move}
use Rattle.md_tables.specs.GfmTableLine.{are_columns}
use Rattle.md_tables.proofs.CellLemmas.{cell-is, dark-next, dark-rest, ends_cell, ends_dark, tail-blank, trimmed-begins}
use Rattle.md_tables.proofs.CellLemmas.{trimmed-dark, trimmed-whole}
use Rattle.md_tables.proofs.DelimiterLemmas.{recorded-as, white-mark}
use Rattle.md_tables.proofs.WhiteEnds.{blank-light}

-- The pieces of a row.

-- after a byte that neither divides nor escapes
pieces-plain : (b : ℕ) (bs : List ℕ) → nat_eq b 124 ≡ false → nat_eq b 92 ≡ false → (p : Parted (pieces false bs)) →
    pieces false (b ∷ bs) ≡ (b ∷ p.first) ∷ p.others
unfolding pieces
pieces-plain b bs e k p = rw (e, k) (onto-parted b _ p)

-- and after one that does not divide
pieces-other : (b : ℕ) (bs : List ℕ) → nat_eq b 124 ≡ false → (p : Parted (pieces (nat_eq b 92) bs)) →
    pieces false (b ∷ bs) ≡ (b ∷ p.first) ∷ p.others
unfolding pieces
pieces-other b bs e p = rw e (onto-parted b _ p)

-- a pipe at the end, and one before something
pieces-last : (b : ℕ) → nat_eq b 124 ≡ true → pieces false (b ∷ []) ≡ [] ∷ []
unfolding pieces
pieces-last b e = rw e refl

pieces-pipe : (b c : ℕ) (bs : List ℕ) → nat_eq b 124 ≡ true → pieces false (b ∷ c ∷ bs) ≡ [] ∷ pieces false (c ∷ bs)
unfolding pieces
pieces-pipe b c bs e =
    let plain : nat_eq b 92 ≡ false = rw (eqb-true b 124 e) refl in rw (e, plain) refl

-- What is asked of them.

abbrev has_mark : List ℕ → Bool
has_mark row = list_any (λ b. nat_eq b 58 || nat_eq b 124) row

-- how many cells a place adds to those that were counted: one before its first dash
abbrev own : Place → ℕ
own Front = 0
own Open = 1
own Left = 1
own Dashes = 0
own Following = 0

-- so many cells more, and whether a mark is met, make as many as the head has
abbrev total : Scratch → ℕ → Bool → Bool
total s n m = (s.seen || m) && nat_eq (s.size + n) s.columns_wanted

-- the first piece ends the cell of a place, the others are cells, and they are as many
abbrev asked : Place → Scratch → List (List ℕ) → Bool → Bool
asked p s [] m = false
asked p s (f ∷ fs) m = ends_cell p f && (list_all (ends_cell Open) fs && total s (own p + length fs) m)

asked-at : (p : Place) (s : Scratch) (row : List (List ℕ)) (m : Bool) (q : Parted row) →
    asked p s row m ≡ ends_cell p q.first && (list_all (ends_cell Open) q.others && total s (own p + length q.others) m)
asked-at p s row m q = rw q.is refl

or-true : (a : Bool) → a || true ≡ true
or-true true = refl
or-true false = refl

or-false : (a : Bool) → a || false ≡ a
or-false true = refl
or-false false = refl

and-assoc : (a b c : Bool) → a && (b && c) ≡ (a && b) && c
and-assoc true b c = refl
and-assoc false b c = refl

-- in a cell
data IsIn : Place → Type 0 where
  InOpen : IsIn Open
  InLeft : IsIn Left
  InDashes : IsIn Dashes
  InFollowing : IsIn Following

abbrev is_open : Place → Bool
is_open Open = true
is_open _ = false

-- at the end
end-asked : (p : Place) (s : Scratch) → IsIn p → is_open p ≡ false → fits p s [] ≡ asked p s (pieces false []) false
unfolding pieces
end-asked _ s InOpen e = cc
end-asked _ s InLeft e = refl
end-asked _ s InDashes e =
    let same : s.size ≡ s.size + 0 = omega arith in
    ap₂ (λ (x : Bool) (n : ℕ). x && nat_eq n s.columns_wanted) (sym (or-false s.seen)) same
end-asked _ s InFollowing e =
    let same : s.size ≡ s.size + 0 = omega arith in
    ap₂ (λ (x : Bool) (n : ℕ). x && nat_eq n s.columns_wanted) (sym (or-false s.seen)) same

-- what is known of the bytes after one
abbrev IsAsked : List ℕ → Type 0
IsAsked bs =
    (q : Place) (s : Scratch) → IsIn q → is_open q && is_end bs ≡ false →
    fits q s bs ≡ asked q s (pieces false bs) (has_mark bs)

-- a byte that continues with its piece
plain-asked : (p q : Place) (s t : Scratch) (b : ℕ) (bs : List ℕ) → fits p s (b ∷ bs) ≡ fits q t bs →
    nat_eq b 124 ≡ false → nat_eq b 92 ≡ false → IsIn q → IsAsked bs → is_open q && is_end bs ≡ false →
    ((f : List ℕ) → ends_cell p (b ∷ f) ≡ ends_cell q f) →
    ((n : ℕ) → total t (own q + n) (has_mark bs) ≡ total s (own p + n) (has_mark (b ∷ bs))) →
    fits p s (b ∷ bs) ≡ asked p s (pieces false (b ∷ bs)) (has_mark (b ∷ bs))
plain-asked p q s t b bs to e k i on some cell counts =
    let r = pieces-parted false bs in
    to ∙ on q t i some ∙ asked-at q t (pieces false bs) (has_mark bs) r
    ∙ ap₂ (λ (x y : Bool). x && (list_all (ends_cell Open) r.others && y)) (sym (cell r.first))
    (counts (length r.others))
    ∙ sym (ap (λ (row : List (List ℕ)). asked p s row (has_mark (b ∷ bs))) (pieces-plain b bs e k r))

-- a byte that may not be there, and is no pipe
refused-asked : (p : Place) (s : Scratch) (b : ℕ) (bs : List ℕ) → fits p s (b ∷ bs) ≡ false → nat_eq b 124 ≡ false →
    ((f : List ℕ) → ends_cell p (b ∷ f) ≡ false) →
    fits p s (b ∷ bs) ≡ asked p s (pieces false (b ∷ bs)) (has_mark (b ∷ bs))
refused-asked p s b bs to e cell =
    let r = pieces-parted (nat_eq b 92) bs in
    to
    ∙ sym
    (ap (λ (row : List (List ℕ)). asked p s row (has_mark (b ∷ bs))) (pieces-other b bs e r)
    ∙ ap
    (λ (x : Bool).
    x && (list_all (ends_cell Open) r.others && total s (own p + length r.others) (has_mark (b ∷ bs)))) (cell r.first))

-- a pipe that may not be there
pipe-refused : (p : Place) (s : Scratch) (b : ℕ) (bs : List ℕ) → nat_eq b 124 ≡ true → fits p s (b ∷ bs) ≡ false →
    ends_cell p [] ≡ false → fits p s (b ∷ bs) ≡ asked p s (pieces false (b ∷ bs)) (has_mark (b ∷ bs))
pipe-refused p s b [] e to none = to ∙ sym (rw (pieces-last b e, none) refl)
pipe-refused p s b (c ∷ bs) e to none = to ∙ sym (rw (pieces-pipe b c bs e, none) refl)

-- a pipe that ends a cell
pipe-asked : (p : Place) (s : Scratch) (b : ℕ) (bs : List ℕ) → nat_eq b 124 ≡ true → IsAsked bs →
    fits p s (b ∷ bs) ≡ fits Open (met s) bs → ends_cell p [] ≡ true → own p ≡ 0 →
    fits p s (b ∷ bs) ≡ asked p s (pieces false (b ∷ bs)) (has_mark (b ∷ bs))
pipe-asked p s b [] e on to ends none =
    let mark : s.seen || has_mark (b ∷ []) ≡ true = rw (e, or-true (nat_eq b 58)) (or-true s.seen) in
    let size : s.size + (0 + 0) ≡ s.size = omega arith in
    to ∙ sym (rw (pieces-last b e, ends, none, mark, size) refl)
pipe-asked p s b (c ∷ bs) e on to ends none =
    let r = pieces-parted false (c ∷ bs) in
    let mark : s.seen || has_mark (b ∷ c ∷ bs) ≡ true = rw (e, or-true (nat_eq b 58)) (or-true s.seen) in
    let size : s.size + (0 + suc (length r.others)) ≡ s.size + (1 + length r.others) = omega arith in
    let count : total s (own p + suc (length r.others)) (has_mark (b ∷ c ∷ bs)) ≡
    total (met s) (1 + length r.others) (has_mark (c ∷ bs)) = rw (none, mark, size) refl in
    to ∙ on Open (met s) InOpen refl ∙ asked-at Open (met s) (pieces false (c ∷ bs)) (has_mark (c ∷ bs)) r
    ∙ and-assoc (ends_cell Open r.first) (list_all (ends_cell Open) r.others) _
    ∙ ap (λ (x : Bool). (ends_cell Open r.first && list_all (ends_cell Open) r.others) && x) (sym count)
    ∙ sym
    (ap (λ (row : List (List ℕ)). asked p s row (has_mark (b ∷ c ∷ bs)))
    (pieces-pipe b c bs e ∙ ap (λ (row : List (List ℕ)). [] ∷ row) r.is)
    ∙ ap
    (λ (x : Bool).
    x && (list_all (ends_cell Open) (r.first ∷ r.others)
    && total s (own p + suc (length r.others)) (has_mark (b ∷ c ∷ bs))))
    ends)

-- what a byte counts: one that is no mark nothing, a mark that it was met, the first dash of a cell that cell
no-mark : (b : ℕ) (bs : List ℕ) → nat_eq b 124 ≡ false → nat_eq b 58 ≡ false → has_mark (b ∷ bs) ≡ has_mark bs
no-mark b bs e k = rw (e, k) refl

proceeds-total : (p q : Place) (s : Scratch) (b : ℕ) (bs : List ℕ) → nat_eq b 124 ≡ false → nat_eq b 58 ≡ false →
    own q ≡ own p → (n : ℕ) → total s (own q + n) (has_mark bs) ≡ total s (own p + n) (has_mark (b ∷ bs))
proceeds-total p q s b bs e k same n = rw (no-mark b bs e k, same) refl

counts-total : (p : Place) (s : Scratch) (b : ℕ) (bs : List ℕ) → nat_eq b 124 ≡ false → nat_eq b 58 ≡ false →
    own p ≡ 1 → (n : ℕ) →
    total (counted s) (own Dashes + n) (has_mark bs) ≡ total s (own p + n) (has_mark (b ∷ bs))
counts-total p s b bs e k one n =
    let size : s.size + 1 + (0 + n) ≡ s.size + (1 + n) = omega arith in rw (no-mark b bs e k, one, size) refl

marks-total : (p q : Place) (s : Scratch) (b : ℕ) (bs : List ℕ) → nat_eq b 58 ≡ true → own q ≡ own p → (n : ℕ) →
    total (met s) (own q + n) (has_mark bs) ≡ total s (own p + n) (has_mark (b ∷ bs))
marks-total p q s b bs e same n =
    let mark : s.seen || has_mark (b ∷ bs) ≡ true = rw e (or-true s.seen) in rw (mark, same) refl

-- none of these is a backslash
white-slash : (b : ℕ) → is_white b ≡ true → nat_eq b 92 ≡ false
white-slash b e = white-apart b 92 e refl

pub colon-slash : (b : ℕ) → nat_eq b 58 ≡ true → nat_eq b 92 ≡ false
colon-slash b e = rw (eqb-true b 58 e) refl

pub dash-slash : (b : ℕ) → nat_eq b 45 ≡ true → nat_eq b 92 ≡ false
dash-slash b e = rw (eqb-true b 45 e) refl

-- by what the byte is
white-asked : (p : Place) (s : Scratch) (b : ℕ) (bs : List ℕ) → IsIn p → mark_of b ≡ White → ends_dark (b ∷ bs) ≡ true →
    IsAsked bs → fits p s (b ∷ bs) ≡ asked p s (pieces false (b ∷ bs)) (has_mark (b ∷ bs))
white-asked _ s b bs InOpen e h on =
    let t = recorded-as b White e in
    plain-asked Open Open s s b bs (rw e refl) t.pipe (white-slash b t.white) InOpen on (dark-rest b bs h t.white).0
    (λ f. rw e refl) (proceeds-total Open Open s b bs t.pipe t.colon refl)
white-asked _ s b bs InLeft e h on =
    let t = recorded-as b White e in refused-asked Left s b bs (rw e refl) t.pipe (λ f. rw e refl)
white-asked _ s b bs InDashes e h on =
    let t = recorded-as b White e in
    plain-asked Dashes Following s s b bs (rw e refl) t.pipe (white-slash b t.white) InFollowing on refl
    (λ f. rw e refl)
    (proceeds-total Dashes Following s b bs t.pipe t.colon refl)
white-asked _ s b bs InFollowing e h on =
    let t = recorded-as b White e in
    plain-asked Following Following s s b bs (rw e refl) t.pipe (white-slash b t.white) InFollowing on refl
    (λ f. rw e refl)
    (proceeds-total Following Following s b bs t.pipe t.colon refl)

colon-asked : (p : Place) (s : Scratch) (b : ℕ) (bs : List ℕ) → IsIn p → mark_of b ≡ Aligns → IsAsked bs →
    fits p s (b ∷ bs) ≡ asked p s (pieces false (b ∷ bs)) (has_mark (b ∷ bs))
colon-asked _ s b bs InOpen e on =
    let t = recorded-as b Aligns e in
    plain-asked Open Left s (met s) b bs (rw e refl) t.pipe (colon-slash b t.colon) InLeft on refl (λ f. rw e refl)
    (marks-total Open Left s b bs t.colon refl)
colon-asked _ s b bs InLeft e on =
    let t = recorded-as b Aligns e in refused-asked Left s b bs (rw e refl) t.pipe (λ f. rw e refl)
colon-asked _ s b bs InDashes e on =
    let t = recorded-as b Aligns e in
    plain-asked Dashes Following s (met s) b bs (rw e refl) t.pipe (colon-slash b t.colon) InFollowing on refl
    (λ f. rw e refl)
    (marks-total Dashes Following s b bs t.colon refl)
colon-asked _ s b bs InFollowing e on =
    let t = recorded-as b Aligns e in refused-asked Following s b bs (rw e refl) t.pipe (λ f. rw e refl)

dash-asked : (p : Place) (s : Scratch) (b : ℕ) (bs : List ℕ) → IsIn p → mark_of b ≡ Dash → IsAsked bs →
    fits p s (b ∷ bs) ≡ asked p s (pieces false (b ∷ bs)) (has_mark (b ∷ bs))
dash-asked _ s b bs InOpen e on =
    let t = recorded-as b Dash e in
    plain-asked Open Dashes s (counted s) b bs (rw e refl) t.pipe (dash-slash b t.dash) InDashes on refl
    (λ f. rw e refl)
    (counts-total Open s b bs t.pipe t.colon refl)
dash-asked _ s b bs InLeft e on =
    let t = recorded-as b Dash e in
    plain-asked Left Dashes s (counted s) b bs (rw e refl) t.pipe (dash-slash b t.dash) InDashes on refl
    (λ f. rw e refl)
    (counts-total Left s b bs t.pipe t.colon refl)
dash-asked _ s b bs InDashes e on =
    let t = recorded-as b Dash e in
    plain-asked Dashes Dashes s s b bs (rw e refl) t.pipe (dash-slash b t.dash) InDashes on refl (λ f. rw e refl)
    (proceeds-total Dashes Dashes s b bs t.pipe t.colon refl)
dash-asked _ s b bs InFollowing e on =
    let t = recorded-as b Dash e in refused-asked Following s b bs (rw e refl) t.pipe (λ f. rw e refl)

divides-asked : (p : Place) (s : Scratch) (b : ℕ) (bs : List ℕ) → IsIn p → mark_of b ≡ Divides → IsAsked bs →
    fits p s (b ∷ bs) ≡ asked p s (pieces false (b ∷ bs)) (has_mark (b ∷ bs))
divides-asked _ s b bs InOpen e on = pipe-refused Open s b bs (recorded-as b Divides e).pipe (rw e refl) refl
divides-asked _ s b bs InLeft e on = pipe-refused Left s b bs (recorded-as b Divides e).pipe (rw e refl) refl
divides-asked _ s b bs InDashes e on = pipe-asked Dashes s b bs (recorded-as b Divides e).pipe on (rw e refl) refl refl
divides-asked _ s b bs InFollowing e on = pipe-asked Following s b bs (recorded-as b Divides e).pipe on
    (rw e refl) refl refl

other-asked : (p : Place) (s : Scratch) (b : ℕ) (bs : List ℕ) → IsIn p → mark_of b ≡ Other →
    fits p s (b ∷ bs) ≡ asked p s (pieces false (b ∷ bs)) (has_mark (b ∷ bs))
other-asked _ s b bs InOpen e = refused-asked Open s b bs (rw e refl) (recorded-as b Other e).pipe (λ f. rw e refl)
other-asked _ s b bs InLeft e = refused-asked Left s b bs (rw e refl) (recorded-as b Other e).pipe (λ f. rw e refl)
other-asked _ s b bs InDashes e = refused-asked Dashes s b bs (rw e refl) (recorded-as b Other e).pipe (λ f. rw e refl)
other-asked _ s b bs InFollowing e = refused-asked Following s b bs (rw e refl) (recorded-as b Other e).pipe
    (λ f. rw e refl)

stop-asked : (p : Place) (s : Scratch) (b : ℕ) (bs : List ℕ) → IsIn p → mark_of b ≡ Stops →
    fits p s (b ∷ bs) ≡ asked p s (pieces false (b ∷ bs)) (has_mark (b ∷ bs))
stop-asked _ s b bs InOpen e = refused-asked Open s b bs (rw e refl) (recorded-as b Stops e).pipe (λ f. rw e refl)
stop-asked _ s b bs InLeft e = refused-asked Left s b bs (rw e refl) (recorded-as b Stops e).pipe (λ f. rw e refl)
stop-asked _ s b bs InDashes e = refused-asked Dashes s b bs (rw e refl) (recorded-as b Stops e).pipe (λ f. rw e refl)
stop-asked _ s b bs InFollowing e = refused-asked Following s b bs (rw e refl) (recorded-as b Stops e).pipe
    (λ f. rw e refl)

mark-asked : (p : Place) (s : Scratch) (b : ℕ) (bs : List ℕ) (x : Mark) → IsIn p → mark_of b ≡ x →
    ends_dark (b ∷ bs) ≡ true → IsAsked bs →
    fits p s (b ∷ bs) ≡ asked p s (pieces false (b ∷ bs)) (has_mark (b ∷ bs))
mark-asked p s b bs Stops i e h on = stop-asked p s b bs i e
mark-asked p s b bs White i e h on = white-asked p s b bs i e h on
mark-asked p s b bs Divides i e h on = divides-asked p s b bs i e on
mark-asked p s b bs Aligns i e h on = colon-asked p s b bs i e on
mark-asked p s b bs Dash i e h on = dash-asked p s b bs i e on
mark-asked p s b bs Other i e h on = other-asked p s b bs i e

and-true : (a : Bool) → a && true ≡ a
and-true true = refl
and-true false = refl

-- what is left of a row fits just if its pieces are the rest of a cell, and cells, as many as asked for
row-asked : (p : Place) (s : Scratch) (bs : List ℕ) → IsIn p → ends_dark bs ≡ true → is_open p && is_end bs ≡ false →
    fits p s bs ≡ asked p s (pieces false bs) (has_mark bs)
row-asked p s [] i h some = end-asked p s i (sym (and-true (is_open p)) ∙ some)
row-asked p s (b ∷ bs) i h some =
    mark-asked p s b bs (mark_of b) i refl h (λ q t j more. row-asked q t bs j (dark-next b bs h) more)

-- Whitespace at the end does not matter.

fits-blank : (p : Place) (s : Scratch) (ws : List ℕ) → is_blank ws ≡ true → fits p s ws ≡ fits p s []
fits-blank p s [] h = refl
fits-blank p s (w ∷ ws) h =
    let both : (is_white w ≡ true) × (is_blank ws ≡ true) = and_parts (is_white w) (is_blank ws) h in
    go p (white-mark w both.0) (λ q. fits-blank q s ws both.1)
  where
    go : (q : Place) → mark_of w ≡ White → ((r : Place) → fits r s ws ≡ fits r s []) → fits q s (w ∷ ws) ≡ fits q s []
    go Front e on = rw e refl
    go Open e on = rw e (on Open)
    go Left e on = rw e refl
    go Dashes e on = rw e (on Following)
    go Following e on = rw e (on Following)

pub led-same : (m : Move) (s : Scratch) (f g : Place → Scratch → Bool) → ((q : Place) (t : Scratch) → f q t ≡ g q t) →
    led m s f ≡ led m s g
led-same (Proceeds q) s f g h = h q s
led-same Counts s f g h = h Dashes (counted s)
led-same (Marks q) s f g h = h q (met s)
led-same Fails s f g h = refl

fits-white : (p : Place) (s : Scratch) (bs ws : List ℕ) → is_blank ws ≡ true → fits p s (bs ++ ws) ≡ fits p s bs
fits-white p s [] ws h = fits-blank p s ws h
fits-white p s (b ∷ bs) ws h =
    led-same (move p (mark_of b)) s (λ q t. fits q t (bs ++ ws)) (λ q t. fits q t bs) (λ q t. fits-white q t bs ws h)

-- A row without outer whitespace has none to lose.

ends-following : (k : List ℕ) (x : ℕ) (ws : List ℕ) → ends_dark (k ++ x ∷ ws) ≡ ends_dark (x ∷ ws)
ends-following [] x ws = refl
ends-following (y ∷ []) x ws = refl
ends-following (y ∷ z ∷ k) x ws = ends-following (z ∷ k) x ws

no-tail : (k ws : List ℕ) → ends_dark (k ++ ws) ≡ true → is_blank ws ≡ true → ws ≡ []
no-tail k [] h blank = refl
no-tail k (x ∷ ws) h blank =
    let no : true ≡ false = sym h ∙ ends-following k x ws ∙ blank-light x ws blank in cc

pub start-same : (t : List ℕ) → begins is_white t ≡ false → trim_start t ≡ t
start-same [] h = refl
start-same (b ∷ bs) h = rw h refl

end-same : (t : List ℕ) → ends_dark t ≡ true → trim_end t ≡ t
end-same t h =
    let whole = trimmed-whole t in
    let none : tail is_white t ≡ [] =
    no-tail (trim_end t) (tail is_white t) (ap ends_dark (sym whole) ∙ h) (tail-blank t) in
    sym (whole ∙ ap (λ (ws : List ℕ). trim_end t ++ ws) none ∙ append-nil (trim_end t))

trim-same : (t : List ℕ) → begins is_white t ≡ false → ends_dark t ≡ true → trim t ≡ t
trim-same t b e = ap trim_end (start-same t b) ∙ end-same t e

-- The line definition.

columns-by : (row : List ℕ) (n : ℕ) →
    are_columns (delimiter_columns row) n ≡
    (has_mark row && list_all is_delimiter (row_cells row)) && nat_eq (length (row_cells row)) n
unfolding delimiter_columns
columns-by row n = go (has_mark row && list_all is_delimiter (row_cells row))
  where
    go : (x : Bool) →
        are_columns (cond x (Some (length (row_cells row))) None) n ≡ x && nat_eq (length (row_cells row)) n
    go true = refl
    go false = refl

all-cells : (ps : List (List ℕ)) → list_all is_delimiter (map trim ps) ≡ list_all (ends_cell Open) ps
all-cells [] = refl
all-cells (f ∷ ps) = ap₂ (λ (x y : Bool). x && y) (sym (cell-is f)) (all-cells ps)

cells-are : (row u : List ℕ) → trim row ≡ row → after_optional 124 row ≡ u → row_cells row ≡ map trim (pieces false u)
unfolding row_cells
cells-are row u same front =
    ap (λ (t : List ℕ). map trim (pieces false (after_optional 124 t))) same
    ∙ ap (λ (t : List ℕ). map trim (pieces false t)) front

columns-of : (row u : List ℕ) (n : ℕ) → trim row ≡ row → after_optional 124 row ≡ u →
    are_columns (delimiter_columns row) n ≡
    (has_mark row && list_all (ends_cell Open) (pieces false u)) && nat_eq (length (pieces false u)) n
columns-of row u n same front =
    let cells = cells-are row u same front in
    columns-by row n
    ∙ ap₂ (λ (x : Bool) (k : ℕ). (has_mark row && x) && nat_eq k n)
    (ap (list_all is_delimiter) cells ∙ all-cells (pieces false u))
    (ap length cells ∙ length-map (pieces false u) trim)

arranged : (a b m d : Bool) → a && (b && (m && d)) ≡ (m && (a && b)) && d
arranged true true true d = refl
arranged true true false d = refl
arranged true false true d = refl
arranged true false false d = refl
arranged false b true d = refl
arranged false b false d = refl

-- where a row begins it has counted no cell, and met no mark
pub record Begins (s : Scratch) : Type 0 where
  pub size : s.size ≡ 0
  pub seen : s.seen ≡ false
  pub some : 0 < s.columns_wanted

-- the pieces of a row after its first pipe, or of the whole row
open-fits : (s : Scratch) (row u : List ℕ) (seen : Bool) → s.size ≡ 0 → s.seen ≡ seen → ends_dark u ≡ true →
    is_end u ≡ false → trim row ≡ row → after_optional 124 row ≡ u → seen || has_mark u ≡ has_mark row →
    fits Open s u ≡ are_columns (delimiter_columns row) s.columns_wanted
open-fits s row u seen size is dark some same front marks =
    let r = pieces-parted false u in
    let n : s.size + (1 + length r.others) ≡ suc (length r.others) = rw size (omega arith) in
    let m : s.seen || has_mark u ≡ has_mark row = ap (λ (x : Bool). x || has_mark u) is ∙ marks in
    row-asked Open s u InOpen dark some ∙ asked-at Open s (pieces false u) (has_mark u) r
    ∙ arranged (ends_cell Open r.first) (list_all (ends_cell Open) r.others) (s.seen || has_mark u)
    (nat_eq (s.size + (1 + length r.others)) s.columns_wanted)
    ∙ ap₂
    (λ (x : Bool) (k : ℕ).
    (x && (ends_cell Open r.first && list_all (ends_cell Open) r.others)) && nat_eq k s.columns_wanted) m n
    ∙ sym
    (columns-of row u s.columns_wanted same front
    ∙ ap
    (λ (ps : List (List ℕ)). (has_mark row && list_all (ends_cell Open) ps)
    && nat_eq (length ps) s.columns_wanted) r.is)

-- an empty row has no cell that is one of a delimiter row
no-cell : (x : Bool) (n : ℕ) →
    (x && list_all (ends_cell Open) (pieces false [])) && nat_eq (length (pieces false [])) n ≡ false
unfolding pieces
no-cell true n = refl
no-cell false n = refl

-- a row of a single pipe has none
pipe-alone : (s : Scratch) (b : ℕ) → Begins s → mark_of b ≡ Divides → trim (b ∷ []) ≡ b ∷ [] →
    fits Front s (b ∷ []) ≡ are_columns (delimiter_columns (b ∷ [])) s.columns_wanted
pipe-alone s b begin e same =
    let t = recorded-as b Divides e in
    let none : nat_eq s.size s.columns_wanted ≡ false = less s.size s.columns_wanted begin.size begin.some in
    let left : fits Front s (b ∷ []) ≡ nat_eq s.size s.columns_wanted = rw e refl in
    let front : after_optional 124 (b ∷ []) ≡ [] = rw t.pipe refl in
    let right : are_columns (delimiter_columns (b ∷ [])) s.columns_wanted ≡
    (has_mark (b ∷ []) && list_all (ends_cell Open) (pieces false []))
    && nat_eq (length (pieces false [])) s.columns_wanted =
    columns-of (b ∷ []) [] s.columns_wanted same front in
    left ∙ none ∙ sym (right ∙ no-cell (has_mark (b ∷ [])) s.columns_wanted)
  where
    less : (m n : ℕ) → m ≡ 0 → 0 < n → nat_eq m n ≡ false
    less m n is some = grind (arith, nat_tests)

-- a row without outer whitespace
dark-fits : (s : Scratch) (row : List ℕ) → Begins s → begins is_white row ≡ false → ends_dark row ≡ true →
    fits Front s row ≡ are_columns (delimiter_columns row) s.columns_wanted
unfolding delimiter_columns
dark-fits s [] begin dark ends = refl
dark-fits s (b ∷ []) begin dark ends = by (mark_of b) refl
  where
    same : trim (b ∷ []) ≡ b ∷ []
    same = trim-same (b ∷ []) dark ends

    whole : (x : Mark) → mark_of b ≡ x → nat_eq b 124 ≡ false → move Front x ≡ move Open x →
        fits Front s (b ∷ []) ≡ are_columns (delimiter_columns (b ∷ [])) s.columns_wanted
    whole x e pipe to =
        let on : move Front (mark_of b) ≡ move Open (mark_of b) = rw e to in
        ap (λ (m : Move). led m s (λ q t. fits q t [])) on
        ∙ open-fits s (b ∷ []) (b ∷ []) false begin.size begin.seen ends refl same (rw pipe refl) refl

    by : (x : Mark) → mark_of b ≡ x → fits Front s (b ∷ []) ≡ are_columns (delimiter_columns (b ∷ [])) s.columns_wanted
    by Stops e = whole Stops e (recorded-as b Stops e).pipe refl
    by White e = let no : true ≡ false = sym (recorded-as b White e).white ∙ dark in cc
    by Divides e = pipe-alone s b begin e same
    by Aligns e = whole Aligns e (recorded-as b Aligns e).pipe refl
    by Dash e = whole Dash e (recorded-as b Dash e).pipe refl
    by Other e = whole Other e (recorded-as b Other e).pipe refl
dark-fits s (b ∷ c ∷ bs) begin dark ends = by (mark_of b) refl
  where
    same : trim (b ∷ c ∷ bs) ≡ b ∷ c ∷ bs
    same = trim-same (b ∷ c ∷ bs) dark ends

    whole : (x : Mark) → mark_of b ≡ x → nat_eq b 124 ≡ false → move Front x ≡ move Open x →
        fits Front s (b ∷ c ∷ bs) ≡ are_columns (delimiter_columns (b ∷ c ∷ bs)) s.columns_wanted
    whole x e pipe to =
        let on : move Front (mark_of b) ≡ move Open (mark_of b) = rw e to in
        ap (λ (m : Move). led m s (λ q t. fits q t (c ∷ bs))) on
        ∙ open-fits s (b ∷ c ∷ bs) (b ∷ c ∷ bs) false begin.size begin.seen ends refl same (rw pipe refl) refl

    by : (x : Mark) → mark_of b ≡ x →
        fits Front s (b ∷ c ∷ bs) ≡ are_columns (delimiter_columns (b ∷ c ∷ bs)) s.columns_wanted
    by Stops e = whole Stops e (recorded-as b Stops e).pipe refl
    by White e = let no : true ≡ false = sym (recorded-as b White e).white ∙ dark in cc
    by Divides e =
        let t = recorded-as b Divides e in
        let to : fits Front s (b ∷ c ∷ bs) ≡ fits Open (met s) (c ∷ bs) = rw e refl in
        let marks : true || has_mark (c ∷ bs) ≡ has_mark (b ∷ c ∷ bs) = sym (rw (t.colon, t.pipe) refl) in
        to ∙ open-fits (met s) (b ∷ c ∷ bs) (c ∷ bs) true begin.size refl ends refl same (rw t.pipe refl) marks
    by Aligns e = whole Aligns e (recorded-as b Aligns e).pipe refl
    by Dash e = whole Dash e (recorded-as b Dash e).pipe refl
    by Other e = whole Other e (recorded-as b Other e).pipe refl

-- A line after its indent is a delimiter row by the states just if it is one by the line definition, with as many
-- columns as are asked for.
pub delimiter-fits : (s : Scratch) (bytes : List ℕ) → Begins s → begins is_white bytes ≡ false →
    fits Front s bytes ≡ are_columns (delimiter_columns (trim bytes)) s.columns_wanted
delimiter-fits s bytes begin dark =
    ap (fits Front s) (trimmed-whole bytes)
    ∙ fits-white Front s (trim_end bytes) (tail is_white bytes) (tail-blank bytes)
    ∙ ap (fits Front s) (sym (ap trim_end (start-same bytes dark)))
    ∙ dark-fits s (trim bytes) begin (trimmed-begins bytes) (trimmed-dark (trim_start bytes))
