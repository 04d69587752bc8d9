-- The cells of a line: what is fed from a point of a line to the line's end, and the cell of its ending.
use Rattle.std.proofs.Common.{◌≡◌, ℕ, zero, suc, ◌+◌, ◌-◌, ◌%◌, ◌^◌, ◌<◌, ◌≤◌, Bool, true, false, cond, ◌&&◌, List, []}
use Rattle.std.proofs.Common.{◌∷◌, ◌++◌, length, take, drop, refl, sym, ap, ◌∙◌, subst, add-one, arith, append_assoc}
use Rattle.std.proofs.Common.{drop-drop, take-add}
use Rattle.std.specs.Prelude.{IsTrue, ◌==◌, not, nat_lt, map, slice_get, slice_index, slice_range, if◌then◌else◌}
use Rattle.std.specs.Prelude.{count_by}
use Rattle.std.specs.List.{list_all}
use Rattle.std.proofs.lemmas.Bool.{eqb-true, or_parts}
use Rattle.std.proofs.lemmas.Bool.Decides.{nat_tests}
use Rattle.std.proofs.lemmas.List.{drop-drop, drop_at, length-append, length-drop, take_at, drop-take, take-take}
use Rattle.std.proofs.lemmas.List.Folds.{list_all-append}
use Rattle.std.proofs.lemmas.List.Sums.{sum_by-cons}
use Rattle.md_engine.specs.declared.event.Point.{Point}
use Rattle.md_engine.specs.declared.tokenizer.Line.{Line}
use Rattle.md_engine.specs.Meaning.{Cell, line_of}
use Rattle.md_engine.specs.Place.{begun_at, next_point, seen_at}
use Rattle.md_engine.specs.Scheme.{cells_left}
use Rattle.md_engine.specs.TextFeed.{cells_from, text_feed}
use Rattle.md_engine.specs.World.{Setting, after, line_begun}
use Rattle.md_engine.proofs.TextFeed.{text-follows}
use Rattle.md_events.specs.Ahead.{begins_white, from_ending, line_cells, point_after}
use Rattle.md_meaning.specs.Lines.{is_ending, begins_with}
use Rattle.md_events.specs.Events.Places.{at_or_before, past_byte, past_text}
use Rattle.md_meaning.specs.Rest.{is_white}
use Rattle.md_events.proofs.PlacesLemmas.{at-next, drop-next}
use Rattle.md_meaning.proofs.TextsLemmas.{Both, Ending, EndsBefore, LineFeed, NoEnding, Return, ending_bytes}

-- What is in a text.

pub past-next : (index : ℕ) (bytes : List ℕ) (b : ℕ) (rest : List ℕ) → drop index bytes ≡ b ∷ rest →
    drop (index + 1) bytes ≡ rest
past-next index bytes b rest e = ap (λ (i : ℕ). drop i bytes) (add-one index) ∙ drop-next index bytes b rest e

-- One cell.

abbrev pub cell : ℕ → Point → Line → Cell
cell byte after line = record { byte = byte; after = after; line = line }

said-by : (x : Setting) (c : Cell) (cs : List Cell) (t : Bool) → c.line ≡ x.line →
    line_of x.line (cond t (c ∷ cs) []) ≡ x.line
said-by x c cs true e = e
said-by x c cs false e = refl

said : (x : Setting) (p : Point) → line_of x.line (text_feed x p) ≡ x.line
unfolding text_feed
said x p = go (cells_left x.limit p)
  where
    go : (n : ℕ) → line_of x.line (cells_from x n p) ≡ x.line
    go zero = refl
    go (suc n) =
        said-by x (cell (seen_at x.bytes p) (after x p) x.line) (cells_from x n (after x p))
        (nat_lt p.index x.limit) refl

-- the next cell, where the text may be read
pub feed-next : (x : Setting) (p : Point) → x.limit < 2 ^ 61 → p.index < x.limit →
    text_feed x p ≡ cell (seen_at x.bytes p) (after x p) x.line ∷ text_feed x (after x p)
feed-next x p small lt =
    (text-follows x x.limit true small (omega arith) (λ e. refl)).cell p lt
    ∙ ap (λ (l : Line). cell (seen_at x.bytes p) (after x p) l ∷ text_feed x (after x p)) (said x p)

-- no cell, where it may not
pub feed-none : (x : Setting) (p : Point) → x.limit < 2 ^ 61 → x.limit ≤ p.index → text_feed x p ≡ []
feed-none x p small le = (text-follows x x.limit true small (omega arith) (λ e. refl)).none refl p le

-- The cells of a byte.

-- a column further within a tab, and after a byte
abbrev pub next_column : Point → Point
next_column p = record p { column = p.column + 1; vs = p.vs + 1 }

abbrev pub after_last : Point → Point
after_last p = record p { column = p.column + 1; index = p.index + 1; vs = 0 }

-- a later byte, or a later column of the same
pub before-byte : (p q : Point) → p.index < q.index → IsTrue (at_or_before p q)
before-byte p q lt = grind (arith, nat_tests)

pub before-column : (p : Point) → IsTrue (at_or_before p (next_column p))
before-column p = grind (arith, nat_tests)

-- how many columns of a tab there are after this one
abbrev pub columns_more : Point → ℕ
columns_more p = 3 - (p.column + 3) % 4

-- the cells of a tab with so many more columns: its first column is fed as this byte, the others as spaces
abbrev pub tab_cells : Line → ℕ → ℕ → Point → List Cell
tab_cells line zero byte p = cell byte (after_last p) line ∷ []
tab_cells line (suc n) byte p = cell byte (next_column p) line ∷ tab_cells line n 32 (next_column p)

abbrev pub byte_cells : Line → ℕ → Point → List Cell
byte_cells line b p = if b == 9 then tab_cells line (columns_more p) 9 p else cell b (past_byte b p) line ∷ []

-- what is no whitespace is one cell
pub byte-one : (line : Line) (b : ℕ) (p : Point) → is_white b ≡ false →
    byte_cells line b p ≡ cell b (past_byte b p) line ∷ []
byte-one line b p e =
    ap (λ (t : Bool). cond t (tab_cells line (columns_more p) 9 p) (cell b (past_byte b p) line ∷ []))
    (or_parts (b == 32) (b == 9) e).1

-- the cells of a piece of a line
abbrev pub spread : Line → List ℕ → Point → List Cell
spread line [] p = []
spread line (b ∷ bs) p = byte_cells line b p ++ spread line bs (past_byte b p)

-- after a tab with so many more columns
abbrev pub tab_end : ℕ → Point → Point
tab_end n p = record { line = p.line; column = p.column + n + 1; index = p.index + 1; vs = 0 }

pub tab_end-last : (p : Point) → after_last p ≡ tab_end 0 p
tab_end-last p =
    ap (λ (c : ℕ). let q : Point = record { line = p.line; column = c; index = p.index + 1; vs = 0 } in q) (omega arith)

pub tab_end-next : (n : ℕ) (p : Point) → tab_end n (next_column p) ≡ tab_end (suc n) p
tab_end-next n p =
    ap (λ (c : ℕ). let q : Point = record { line = p.line; column = c; index = p.index + 1; vs = 0 } in q) (omega arith)

-- a point of a column begins a byte, or lies within a tab
tab-after : (x : Setting) (p : Point) → slice_index x.bytes p.index ≡ 9 →
    after x p ≡ cond (not (p.column % 4 == 0)) (next_column p) (after_last p)
tab-after x p is = rw is refl

tab-within : (x : Setting) (n : ℕ) (p : Point) → slice_index x.bytes p.index ≡ 9 → suc n ≡ columns_more p →
    after x p ≡ next_column p
tab-within x n p is e =
    let more : not (p.column % 4 == 0) ≡ true = grind (arith, nat_tests) in
    tab-after x p is ∙ ap (λ (t : Bool). cond t (next_column p) (after_last p)) more

tab-last : (x : Setting) (p : Point) → slice_index x.bytes p.index ≡ 9 → 0 ≡ columns_more p → after x p ≡ after_last p
tab-last x p is e =
    let none : not (p.column % 4 == 0) ≡ false = grind (arith, nat_tests) in
    tab-after x p is ∙ ap (λ (t : Bool). cond t (next_column p) (after_last p)) none

seen-more : (bytes : List ℕ) (p : Point) → slice_index bytes p.index ≡ 9 → seen_at bytes (next_column p) ≡ 32
seen-more bytes p is = let more : nat_lt 0 (p.vs + 1) ≡ true = grind (arith, nat_tests) in rw (is, more) refl

seen-first : (bytes : List ℕ) (b : ℕ) (p : Point) → slice_index bytes p.index ≡ b → is_ending b ≡ false → p.vs ≡ 0 →
    seen_at bytes p ≡ b
seen-first bytes b p is e vs = rw (is, e, vs) (go (b == 9))
  where
    go : (t : Bool) → cond (t && false) 32 b ≡ b
    go true = refl
    go false = refl

-- a tab is fed column by column
pub tab-feed : (x : Setting) (n : ℕ) (p : Point) → x.limit < 2 ^ 61 → p.index < x.limit →
    slice_index x.bytes p.index ≡ 9 → n ≡ columns_more p →
    text_feed x p ≡ tab_cells x.line n (seen_at x.bytes p) p ++ text_feed x (tab_end n p)
tab-feed x zero p small lt is e =
    feed-next x p small lt
    ∙ ap (λ (q : Point). cell (seen_at x.bytes p) q x.line ∷ text_feed x q) (tab-last x p is e)
    ∙ ap (λ (q : Point). cell (seen_at x.bytes p) (after_last p) x.line ∷ text_feed x q) (tab_end-last p)
tab-feed x (suc n) p small lt is e =
    let q = next_column p in
    feed-next x p small lt
    ∙ ap (λ (q : Point). cell (seen_at x.bytes p) q x.line ∷ text_feed x q) (tab-within x n p is e)
    ∙ ap (λ (l : List Cell). cell (seen_at x.bytes p) q x.line ∷ l)
    (tab-feed x n q small lt is (omega arith)
    ∙ ap (λ (b : ℕ). tab_cells x.line n b q ++ text_feed x (tab_end n q)) (seen-more x.bytes p is)
    ∙ ap (λ (r : Point). tab_cells x.line n 32 q ++ text_feed x r) (tab_end-next n p))

-- the end of a tab from its first column is its stop
pub tab_end-stop : (p : Point) → 1 ≤ p.column → tab_end (columns_more p) p ≡ past_byte 9 p
tab_end-stop p one =
    ap (λ (c : ℕ). let q : Point = record { line = p.line; column = c; index = p.index + 1; vs = 0 } in q) (omega arith)

byte-after : (x : Setting) (b : ℕ) (p : Point) → slice_index x.bytes p.index ≡ b → is_ending b ≡ false →
    (b == 9) ≡ false → 1 ≤ p.column → after x p ≡ past_byte b p
byte-after x b p is e t one =
    let column : p.column + 1 ≡ p.column - 1 + 1 + 1 = omega arith in
    rw (is, e, t)
    (ap (λ (c : ℕ). let q : Point = record { line = p.line; column = c; index = p.index + 1; vs = 0 } in q) column)

-- a byte of a line is fed as its cells
byte-feed : (x : Setting) (b : ℕ) (p : Point) → x.limit < 2 ^ 61 → p.index < x.limit → slice_index x.bytes p.index ≡ b →
    is_ending b ≡ false → p.vs ≡ 0 → 1 ≤ p.column →
    text_feed x p ≡ byte_cells x.line b p ++ text_feed x (past_byte b p)
byte-feed x b p small lt is e vs one = go (b == 9) refl
  where
    go : (t : Bool) → (b == 9) ≡ t → text_feed x p ≡ byte_cells x.line b p ++ text_feed x (past_byte b p)
    go true k =
        let tab : b ≡ 9 = eqb-true b 9 k in
        subst (λ (c : ℕ). text_feed x p ≡ byte_cells x.line c p ++ text_feed x (past_byte c p)) (sym tab)
        (tab-feed x (columns_more p) p small lt (is ∙ tab) refl
        ∙ ap (λ (c : ℕ). tab_cells x.line (columns_more p) c p ++ text_feed x (tab_end (columns_more p) p))
        (seen-first x.bytes b p is e vs ∙ tab)
        ∙ ap (λ (q : Point). tab_cells x.line (columns_more p) 9 p ++ text_feed x q) (tab_end-stop p one))
    go false k =
        feed-next x p small lt
        ∙ ap (λ (q : Point). cell (seen_at x.bytes p) q x.line ∷ text_feed x q) (byte-after x b p is e k one)
        ∙ ap (λ (c : ℕ). cell c (past_byte b p) x.line ∷ text_feed x (past_byte b p)) (seen-first x.bytes b p is e vs)
        ∙ ap
        (λ (t : Bool).
        cond t (tab_cells x.line (columns_more p) 9 p) (cell b (past_byte b p) x.line ∷ [])
        ++ text_feed x (past_byte b p))
        (sym k)

-- The cells of a line.

-- a piece of a line is at the first column of a byte, as far as the text may be read
pub record HasLine (x : Setting) (line rest : List ℕ) (p : Point) : Type 0 where
  pub small : x.limit < 2 ^ 61
  pub text : drop p.index x.bytes ≡ line ++ rest
  pub no_ending : NoEnding line
  pub within : p.index + length line ≤ x.limit
  pub whole : p.vs ≡ 0
  pub column : 1 ≤ p.column

-- it is fed as its cells, and then what comes after it
pub line-feed : (x : Setting) (line rest : List ℕ) (p : Point) → HasLine x line rest p →
    text_feed x p ≡ spread x.line line p ++ text_feed x (past_text line p)
line-feed x [] rest p h = refl
line-feed x (b ∷ bs) rest p h =
    let within : p.index + suc (length bs) ≤ x.limit = h.within in
    let next : HasLine x bs rest (past_byte b p) = record {
      small = h.small;
      text = past-next p.index x.bytes b (bs ++ rest) h.text;
      no_ending = h.no_ending.1;
      within = omega arith;
      whole = refl;
      column = omega arith;
    } in
    byte-feed x b p h.small (omega arith) (at-next p.index x.bytes b (bs ++ rest) h.text) h.no_ending.0 h.whole h.column
    ∙ ap (λ (l : List Cell). byte_cells x.line b p ++ l) (line-feed x bs rest (past_byte b p) next)
    ∙ sym (append_assoc (byte_cells x.line b p) (spread x.line bs (past_byte b p)) (text_feed x (past_text (b ∷ bs) p)))

-- What is known of them.

pub point_after-append : (xs ys : List Cell) (p : Point) → point_after (xs ++ ys) p ≡ point_after ys (point_after xs p)
point_after-append [] ys p = refl
point_after-append (c ∷ xs) ys p = point_after-append xs ys c.after

pub tab-end : (line : Line) (n byte : ℕ) (p q : Point) → point_after (tab_cells line n byte p) q ≡ tab_end n p
tab-end line zero byte p q = tab_end-last p
tab-end line (suc n) byte p q = tab-end line n 32 (next_column p) (next_column p) ∙ tab_end-next n p

pub byte-end : (line : Line) (b : ℕ) (p : Point) → 1 ≤ p.column → point_after (byte_cells line b p) p ≡ past_byte b p
byte-end line b p one = go (b == 9) refl
  where
    go : (t : Bool) → (b == 9) ≡ t → point_after (byte_cells line b p) p ≡ past_byte b p
    go true k =
        let tab : b ≡ 9 = eqb-true b 9 k in
        subst (λ (c : ℕ). point_after (byte_cells line c p) p ≡ past_byte c p) (sym tab)
        (tab-end line (columns_more p) 9 p p ∙ tab_end-stop p one)
    go false k =
        ap
        (λ (t : Bool).
        point_after (cond t (tab_cells line (columns_more p) 9 p) (cell b (past_byte b p) line ∷ [])) p) k

-- they end after the line
pub spread-end : (line : Line) (bytes : List ℕ) (p : Point) → 1 ≤ p.column →
    point_after (spread line bytes p) p ≡ past_text bytes p
spread-end line [] p one = refl
spread-end line (b ∷ bs) p one =
    point_after-append (byte_cells line b p) (spread line bs (past_byte b p)) p
    ∙ ap (point_after (spread line bs (past_byte b p))) (byte-end line b p one)
    ∙ spread-end line bs (past_byte b p) (omega arith)

-- What holds of their bytes, where it holds of a space if of a tab.

abbrev pub bytes_of : List Cell → List ℕ
bytes_of cells = map (λ (c : Cell). c.byte) cells

pub bytes-append : (xs ys : List Cell) → bytes_of (xs ++ ys) ≡ bytes_of xs ++ bytes_of ys
bytes-append [] ys = refl
bytes-append (c ∷ xs) ys = ap (λ (l : List ℕ). c.byte ∷ l) (bytes-append xs ys)

and_true : (x : Bool) → (x && true) ≡ x
and_true true = refl
and_true false = refl

and_same : (x y : Bool) → y ≡ x → (x && y) ≡ x
and_same true y e = e
and_same false y e = refl

all-spaces : (f : ℕ → Bool) (line : Line) (n : ℕ) (p : Point) → list_all f (bytes_of (tab_cells line n 32 p)) ≡ f 32
all-spaces f line zero p = and_true (f 32)
all-spaces f line (suc n) p =
    and_same (f 32) (list_all f (bytes_of (tab_cells line n 32 (next_column p)))) (all-spaces f line n (next_column p))

all-tab : (f : ℕ → Bool) → f 32 ≡ f 9 → (line : Line) (n : ℕ) (p : Point) →
    list_all f (bytes_of (tab_cells line n 9 p)) ≡ f 9
all-tab f e line zero p = and_true (f 9)
all-tab f e line (suc n) p =
    and_same (f 9) (list_all f (bytes_of (tab_cells line n 32 (next_column p))))
    (all-spaces f line n (next_column p) ∙ e)

all-byte : (f : ℕ → Bool) → f 32 ≡ f 9 → (line : Line) (b : ℕ) (p : Point) →
    list_all f (bytes_of (byte_cells line b p)) ≡ f b
all-byte f e line b p = go (b == 9) refl
  where
    go : (t : Bool) → (b == 9) ≡ t → list_all f (bytes_of (byte_cells line b p)) ≡ f b
    go true k =
        let tab : b ≡ 9 = eqb-true b 9 k in
        subst (λ (c : ℕ). list_all f (bytes_of (byte_cells line c p)) ≡ f c) (sym tab)
        (all-tab f e line (columns_more p) p)
    go false k =
        ap
        (λ (t : Bool).
        list_all f (bytes_of (cond t (tab_cells line (columns_more p) 9 p) (cell b (past_byte b p) line ∷ [])))) k
        ∙ and_true (f b)

-- a test that does not distinguish spaces from tabs holds of all the cells' bytes if of all the line's
pub all-spread : (f : ℕ → Bool) → f 32 ≡ f 9 → (line : Line) (bytes : List ℕ) (p : Point) →
    list_all f (bytes_of (spread line bytes p)) ≡ list_all f bytes
all-spread f e line [] p = refl
all-spread f e line (b ∷ bs) p =
    ap (list_all f) (bytes-append (byte_cells line b p) (spread line bs (past_byte b p)))
    ∙ list_all-append f (bytes_of (byte_cells line b p)) (bytes_of (spread line bs (past_byte b p)))
    ∙ ap (λ (t : Bool). t && list_all f (bytes_of (spread line bs (past_byte b p)))) (all-byte f e line b p)
    ∙ ap (λ (t : Bool). f b && t) (all-spread f e line bs (past_byte b p))

count-next : (f : ℕ → Bool) (b : ℕ) (bs : List ℕ) → count_by f (b ∷ bs) ≡ cond (f b) 1 0 + count_by f bs
count-next f b bs = sum_by-cons (λ (x : ℕ). cond (f x) 1 0) b bs

count-append : (f : ℕ → Bool) (xs ys : List ℕ) → count_by f (xs ++ ys) ≡ count_by f xs + count_by f ys
count-append f [] ys = omega arith
count-append f (x ∷ xs) ys =
    let next = count-next f x (xs ++ ys) in let first = count-next f x xs in let more = count-append f xs ys in
    omega arith

count-spaces : (f : ℕ → Bool) → f 32 ≡ false → (line : Line) (n : ℕ) (p : Point) →
    count_by f (bytes_of (tab_cells line n 32 p)) ≡ 0
count-spaces f s line zero p = count-next f 32 [] ∙ rw s refl
count-spaces f s line (suc n) p =
    count-next f 32 (bytes_of (tab_cells line n 32 (next_column p)))
    ∙ rw (s, count-spaces f s line n (next_column p)) refl

count-tab : (f : ℕ → Bool) → f 32 ≡ false → (line : Line) (n : ℕ) (p : Point) →
    count_by f (bytes_of (tab_cells line n 9 p)) ≡ cond (f 9) 1 0
count-tab f s line zero p = let next = count-next f 9 [] in omega arith
count-tab f s line (suc n) p =
    let next = count-next f 9 (bytes_of (tab_cells line n 32 (next_column p))) in
    let none = count-spaces f s line n (next_column p) in omega arith

count-byte : (f : ℕ → Bool) → f 32 ≡ false → (line : Line) (b : ℕ) (p : Point) →
    count_by f (bytes_of (byte_cells line b p)) ≡ cond (f b) 1 0
count-byte f s line b p = go (b == 9) refl
  where
    go : (t : Bool) → (b == 9) ≡ t → count_by f (bytes_of (byte_cells line b p)) ≡ cond (f b) 1 0
    go true k =
        let tab : b ≡ 9 = eqb-true b 9 k in
        subst (λ (c : ℕ). count_by f (bytes_of (byte_cells line c p)) ≡ cond (f c) 1 0) (sym tab)
        (count-tab f s line (columns_more p) p)
    go false k =
        ap
        (λ (t : Bool).
        count_by f (bytes_of (cond t (tab_cells line (columns_more p) 9 p) (cell b (past_byte b p) line ∷ [])))) k
        ∙ (let next = count-next f b [] in omega arith)

-- no space is counted, so as many as in the line
pub count-spread : (f : ℕ → Bool) → f 32 ≡ false → (line : Line) (bytes : List ℕ) (p : Point) →
    count_by f (bytes_of (spread line bytes p)) ≡ count_by f bytes
count-spread f s line [] p = refl
count-spread f s line (b ∷ bs) p =
    let parts = ap (count_by f) (bytes-append (byte_cells line b p) (spread line bs (past_byte b p)))
    ∙ count-append f (bytes_of (byte_cells line b p)) (bytes_of (spread line bs (past_byte b p))) in
    let one = count-byte f s line b p in
    let more = count-spread f s line bs (past_byte b p) in
    let next = count-next f b bs in
    omega arith

-- None of them ends the line.

abbrev pub NoFeed : List Cell → Type 0
NoFeed [] = Unit {0}
NoFeed (c ∷ cs) = ((c.byte == 10) ≡ false) × NoFeed cs

no_feed-append : (xs ys : List Cell) → NoFeed xs → NoFeed ys → NoFeed (xs ++ ys)
no_feed-append [] ys h k = k
no_feed-append (c ∷ xs) ys h k = (h.0, no_feed-append xs ys h.1 k)

no_feed-tab : (line : Line) (n byte : ℕ) (p : Point) → (byte == 10) ≡ false → NoFeed (tab_cells line n byte p)
no_feed-tab line zero byte p e = (e, tt)
no_feed-tab line (suc n) byte p e = (e, no_feed-tab line n 32 (next_column p) refl)

no_feed-byte : (line : Line) (b : ℕ) (p : Point) → is_ending b ≡ false → NoFeed (byte_cells line b p)
no_feed-byte line b p e = go (b == 9)
  where
    go : (t : Bool) → NoFeed (cond t (tab_cells line (columns_more p) 9 p) (cell b (past_byte b p) line ∷ []))
    go true = no_feed-tab line (columns_more p) 9 p refl
    go false = ((or_parts (b == 10) (b == 13) e).0, tt)

pub no_feed-spread : (line : Line) (bytes : List ℕ) (p : Point) → NoEnding bytes → NoFeed (spread line bytes p)
no_feed-spread line [] p h = tt
no_feed-spread line (b ∷ bs) p h =
    no_feed-append (byte_cells line b p) (spread line bs (past_byte b p)) (no_feed-byte line b p h.0)
    (no_feed-spread line bs (past_byte b p) h.1)

pub line_cells-append : (xs ys : List Cell) → NoFeed xs → line_cells (xs ++ ys) ≡ xs ++ line_cells ys
line_cells-append [] ys h = refl
line_cells-append (c ∷ xs) ys h = rw h.0 (ap (λ (l : List Cell). c ∷ l) (line_cells-append xs ys h.1))

pub from_ending-append : (xs ys : List Cell) → NoFeed xs → from_ending (xs ++ ys) ≡ from_ending ys
from_ending-append [] ys h = refl
from_ending-append (c ∷ xs) ys h = rw h.0 (from_ending-append xs ys h.1)

-- What follows the cells of a line.

-- nothing comes, or an ending
abbrev pub Stops : List Cell → Type 0
Stops [] = Unit {0}
Stops (c ∷ cs) = (c.byte == 10) ≡ true

-- an ending is no whitespace
pub stops-white : (rest : List Cell) → Stops rest → begins_white rest ≡ false
stops-white [] h = refl
stops-white (c ∷ cs) h = let ten : c.byte ≡ 10 = eqb-true c.byte 10 h in ap is_white ten

-- The cell of an ending.

-- after an ending
abbrev pub past_ending : Ending → Point → Point
past_ending ending p = record { line = p.line + 1; column = 1; index = p.index + length (ending_bytes ending); vs = 0 }

-- an ending is at a point, where the text may be read, and no prefix is after it
pub record HasEnding (x : Setting) (ending : Ending) (rest : List ℕ) (p : Point) : Type 0 where
  pub small : x.limit < 2 ^ 61
  pub text : drop p.index x.bytes ≡ ending_bytes ending ++ rest
  pub before : EndsBefore ending rest
  pub within : p.index < x.limit
  pub begun : line_begun x (past_ending ending p) ≡ past_ending ending p

-- so it is where no line is said to begin elsewhere
pub begun-none : (x : Setting) (p : Point) → x.skips ≡ [] → line_begun x p ≡ p
begun-none x p e = ap (λ (l : List Point). begun_at (slice_get l (p.line - x.first_line)) p) e

-- what follows a CR that ends the line
at-none : (index : ℕ) (bytes : List ℕ) → drop index bytes ≡ [] → slice_index bytes index ≡ 0
at-none zero [] e = refl
at-none zero (c ∷ bytes) e = cc
at-none (suc index) [] e = refl
at-none (suc index) (c ∷ bytes) e = at-none index bytes e

none-next : (index : ℕ) (bytes rest : List ℕ) → drop (index + 1) bytes ≡ rest → begins_with 10 rest ≡ false →
    (slice_index bytes (index + 1) == 10) ≡ false
none-next index bytes [] e h = ap (λ (c : ℕ). c == 10) (at-none (index + 1) bytes e)
none-next index bytes (b ∷ rest) e h = ap (λ (c : ℕ). c == 10) (at-next (index + 1) bytes b rest e) ∙ h

-- the point after it
pub ending-step : (bytes : List ℕ) (ending : Ending) (rest : List ℕ) (p : Point) →
    drop p.index bytes ≡ ending_bytes ending ++ rest → EndsBefore ending rest →
    (is_ending (slice_index bytes p.index) ≡ true) × (next_point bytes p ≡ past_ending ending p)
ending-step bytes LineFeed rest p e h = let here = at-next p.index bytes 10 rest e in (rw here refl, rw here refl)
ending-step bytes Return rest p e h =
    let here = at-next p.index bytes 13 rest e in
    let none = none-next p.index bytes rest (past-next p.index bytes 13 rest e) h in
    (rw here refl, rw (here, none) refl)
ending-step bytes Both rest p e h =
    let here = at-next p.index bytes 13 (10 ∷ rest) e in
    let next = at-next (p.index + 1) bytes 10 rest (past-next p.index bytes 13 (10 ∷ rest) e) in
    (rw here refl, rw (here, next) refl)

seen-ending : (bytes : List ℕ) (p : Point) → is_ending (slice_index bytes p.index) ≡ true → seen_at bytes p ≡ 10
seen-ending bytes p e = rw e refl

-- an ending is fed as one line feed
pub ending-feed : (x : Setting) (ending : Ending) (rest : List ℕ) (p : Point) → HasEnding x ending rest p →
    text_feed x p ≡ cell 10 (past_ending ending p) x.line ∷ text_feed x (past_ending ending p)
ending-feed x ending rest p h =
    let step = ending-step x.bytes ending rest p h.text h.before in
    feed-next x p h.small h.within
    ∙ ap (λ (b : ℕ). cell b (after x p) x.line ∷ text_feed x (after x p)) (seen-ending x.bytes p step.0)
    ∙ ap (λ (q : Point). cell 10 q x.line ∷ text_feed x q)
    (ap (λ (t : Bool). cond t (line_begun x (next_point x.bytes p)) (next_point x.bytes p)) step.0
    ∙ ap (line_begun x) step.1 ∙ h.begun)

-- Pieces of a text.

pub slice-front : (bytes : List ℕ) (i j : ℕ) (xs rest : List ℕ) → drop i bytes ≡ xs ++ rest → j ≡ i + length xs →
    slice_range bytes i j ≡ xs
slice-front bytes i j xs rest e k = ap (take (j - i)) e ∙ take_at xs rest (j - i) (omega arith)

-- a slice is cut at a place inside
pub slice-split : (bytes : List ℕ) (a b c : ℕ) → a ≤ b → b ≤ c →
    slice_range bytes a c ≡ slice_range bytes a b ++ slice_range bytes b c
slice-split bytes a b c h k =
    let size : c - a ≡ (b - a) + (c - b) = omega arith in
    let place : a + (b - a) ≡ b = omega arith in
    ap (λ (i : ℕ). take i (drop a bytes)) size
    ∙ take-add (b - a) (c - b) (drop a bytes)
    ∙ ap (λ (l : List ℕ). take (b - a) (drop a bytes) ++ take (c - b) l)
    (drop-drop (b - a) a bytes ∙ ap (λ (i : ℕ). drop i bytes) place)

-- a piece of a line is one of the text
pub slice-inside : (bytes line : List ℕ) (from end i size : ℕ) → slice_range bytes from end ≡ line →
    end ≡ from + length line → i + size ≤ length line →
    slice_range bytes (from + i) (from + i + size) ≡ take size (drop i line)
slice-inside bytes line from end i size is long le =
    let left = end - (from + i) in
    let one : from + i + size - (from + i) ≡ size = omega arith in
    let all : i + left ≡ end - from = omega arith in
    ap (λ (k : ℕ). take k (drop (from + i) bytes)) one
    ∙ sym (take-take size left (drop (from + i) bytes) (omega arith))
    ∙ ap (λ (l : List ℕ). take size (take left l)) (sym (drop-drop i from bytes))
    ∙ ap (take size)
    (sym (drop-take i left (drop from bytes)) ∙ ap (λ (k : ℕ). drop i (take k (drop from bytes))) all
    ∙ ap (drop i) is)

pub drop-past : (bytes : List ℕ) (i : ℕ) (xs rest : List ℕ) → drop i bytes ≡ xs ++ rest →
    drop (i + length xs) bytes ≡ rest
drop-past bytes i xs rest e =
    sym (drop-drop (length xs) i bytes) ∙ ap (drop (length xs)) e ∙ drop_at xs rest (length xs) refl

pub front-within : (bytes : List ℕ) (i : ℕ) (xs rest : List ℕ) → drop i bytes ≡ xs ++ rest → i ≤ length bytes →
    i + length xs + length rest ≡ length bytes
front-within bytes i xs rest e le =
    let size = ap length e in let parts = length-append xs rest in let left = length-drop i bytes in omega arith

pub ending-some : (ending : Ending) → 0 < length (ending_bytes ending)
ending-some LineFeed = omega arith
ending-some Return = omega arith
ending-some Both = omega arith

-- an ending is between two points
pub record IsEnding (bytes : List ℕ) (p q : Point) : Type 0 where
  pub ending : Ending
  pub text : slice_range bytes p.index q.index ≡ ending_bytes ending
  pub size : q.index ≡ p.index + length (ending_bytes ending)
  pub in_text : q.index ≤ length bytes
  pub before : EndsBefore ending (drop q.index bytes)
  pub whole : q.vs ≡ 0
  -- a line begins there
  pub line : q.line ≡ p.line + 1
  pub column : q.column ≡ 1

pub is-ending : (bytes : List ℕ) (ending : Ending) (rest : List ℕ) (p : Point) →
    drop p.index bytes ≡ ending_bytes ending ++ rest → EndsBefore ending rest → IsEnding bytes p (past_ending ending p)
is-ending bytes ending rest p e h =
    let size : length (drop p.index bytes) ≡ length (ending_bytes ending) + length rest = ap length e
    ∙ length-append (ending_bytes ending) rest in
    let some = ending-some ending in
    let left = length-drop p.index bytes in
    record {
      ending = ending;
      text = slice-front bytes p.index (p.index + length (ending_bytes ending)) (ending_bytes ending) rest e refl;
      size = refl;
      in_text = omega arith;
      before = subst (EndsBefore ending) (sym (drop-past bytes p.index (ending_bytes ending) rest e)) h;
      whole = refl;
      line = refl;
      column = refl;
    }

-- after a piece of a line
pub past_text-whole : (line : List ℕ) (p : Point) → p.vs ≡ 0 → (past_text line p).vs ≡ 0
past_text-whole [] p e = e
past_text-whole (b ∷ bs) p e = past_text-whole bs (past_byte b p) refl

pub past_text-column : (line : List ℕ) (p : Point) → 1 ≤ p.column → 1 ≤ (past_text line p).column
past_text-column [] p one = one
past_text-column (b ∷ bs) p one = past_text-column bs (past_byte b p) (omega arith)
