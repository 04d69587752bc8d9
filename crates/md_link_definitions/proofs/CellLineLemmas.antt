-- What is before a mark among cells is what is enclosed on their lines.
use Rattle.std.proofs.Common.{◌≡◌, ℕ, ◌||◌, ◌&&◌, Bool, true, false, cond, nat_eq, List, [], ◌∷◌, Option, Some, None}
use Rattle.std.proofs.Common.{refl, sym, ◌∙◌, ap, arith, subst}
use Rattle.std.specs.List.{onto_first}
use Rattle.std.proofs.lemmas.Bool.{eqb-true, or_parts}
use Rattle.std.proofs.lemmas.Bool.Decides.{nat_tests}
use Rattle.md_meaning.specs.Ascii.{backslash}
use Rattle.md_meaning.specs.Enclosed.{Broken, Closed, Enclosed, Lines, Open, enclosed, enclosed_lines, with_byte}
use Rattle.md_meaning.specs.Enclosed.{with_line}
use Rattle.md_meaning.specs.Rest.{is_white}
use Rattle.md_engine.specs.Meaning.{Cell}
use Rattle.md_link_definitions.specs.CellLines.{cell_lines, lines_closed}
use Rattle.md_link_definitions.specs.Chunks.{before_mark, from_mark}
use Rattle.md_link_definitions.specs.Title.{is_mark}

-- A byte that may be a mark: it ends no line, and is neither whitespace nor a backslash.
abbrev pub is_other : ℕ → Bool
is_other b = nat_eq b 10 || is_white b || nat_eq b backslash

pub record AreMarks (opener closer : ℕ) : Type 0 where
  pub opens : is_other opener ≡ false
  pub closes : is_other closer ≡ false

-- By the first line.

-- what is enclosed, by what is on the first line
abbrev pub by_line : ℕ → ℕ → Enclosed → List ℕ → List (List ℕ) → Option Lines
by_line opener closer (Closed text rest) line lines = Some (record { text = text ∷ []; rest = rest ∷ lines })
by_line opener closer Open line lines = with_line line (enclosed_lines opener closer lines)
by_line opener closer Broken line lines = None

-- where a backslash may take the byte that is next
abbrev pub first_enclosed : ℕ → ℕ → Bool → List (List ℕ) → Option Lines
first_enclosed opener closer escaped [] = None
first_enclosed opener closer escaped (line ∷ lines) =
    by_line opener closer (enclosed opener closer escaped line) line lines

pub all-enclosed : (opener closer : ℕ) (lines : List (List ℕ)) →
    enclosed_lines opener closer lines ≡ first_enclosed opener closer false lines
unfolding enclosed_lines
all-enclosed opener closer [] = refl
all-enclosed opener closer (line ∷ lines) = go (enclosed opener closer false line) refl
  where
    go : (e : Enclosed) → enclosed opener closer false line ≡ e →
        enclosed_lines opener closer (line ∷ lines) ≡ first_enclosed opener closer false (line ∷ lines)
    go (Closed text rest) k = rw (k, enclosed_lines) refl
    go Open k = rw (k, enclosed_lines) refl
    go Broken k = rw (k, enclosed_lines) refl

-- with this byte in front
abbrev with_first : ℕ → Option Lines → Option Lines
with_first b None = None
with_first b (Some found) = Some (record found { text = onto_first b found.text })

-- A byte of the text.
first-with : (opener closer b : ℕ) (e : Enclosed) (line : List ℕ) (lines : List (List ℕ)) →
    by_line opener closer (with_byte b e) (b ∷ line) lines ≡ with_first b (by_line opener closer e line lines)
first-with opener closer b (Closed text rest) line lines = refl
first-with opener closer b Open line lines = go (enclosed_lines opener closer lines)
  where
    go : (o : Option Lines) → with_line (b ∷ line) o ≡ with_first b (with_line line o)
    go None = refl
    go (Some found) = refl
first-with opener closer b Broken line lines = refl

-- that a backslash takes,
first-escaped : (opener closer b : ℕ) (lines : List (List ℕ)) →
    first_enclosed opener closer true (onto_first b lines) ≡ with_first b (first_enclosed opener closer false lines)
unfolding enclosed enclosed_lines
first-escaped opener closer b [] = refl
first-escaped opener closer b (line ∷ lines) =
    first-with opener closer b (enclosed opener closer false line) line lines

-- and that is no mark
first-plain : (opener closer b : ℕ) (lines : List (List ℕ)) → is_mark opener closer b ≡ false →
    first_enclosed opener closer false (onto_first b lines) ≡
    with_first b (first_enclosed opener closer (nat_eq b backslash) lines)
unfolding enclosed enclosed_lines
first-plain opener closer b [] e =
    let parts = or_parts (nat_eq b opener) (nat_eq b closer) e in rw (parts.1, parts.0) (go (nat_eq b backslash))
  where
    go : (x : Bool) → by_line opener closer (with_byte b (enclosed opener closer x [])) (b ∷ []) [] ≡ None
    go true = refl
    go false = refl
first-plain opener closer b (line ∷ lines) e =
    let parts = or_parts (nat_eq b opener) (nat_eq b closer) e in
    rw (parts.1, parts.0) (first-with opener closer b (enclosed opener closer (nat_eq b backslash) line) line lines)

-- The end of a line.
first-ending : (opener closer : ℕ) (escaped : Bool) (lines : List (List ℕ)) →
    first_enclosed opener closer escaped ([] ∷ lines) ≡ with_line [] (first_enclosed opener closer false lines)
unfolding enclosed
first-ending opener closer true lines = ap (with_line []) (all-enclosed opener closer lines)
first-ending opener closer false lines = ap (with_line []) (all-enclosed opener closer lines)

-- The mark that closes,
first-closes : (opener closer b : ℕ) (line : List ℕ) (lines : List (List ℕ)) → nat_eq b closer ≡ true →
    first_enclosed opener closer false (onto_first b (line ∷ lines)) ≡
    Some (record { text = [] ∷ []; rest = line ∷ lines })
unfolding enclosed
first-closes opener closer b line lines e = rw e refl

-- and the one that opens.
first-opens : (opener closer b : ℕ) (lines : List (List ℕ)) → nat_eq b closer ≡ false → nat_eq b opener ≡ true →
    first_enclosed opener closer false (onto_first b lines) ≡ None
unfolding enclosed
first-opens opener closer b [] e k = rw (e, k) refl
first-opens opener closer b (line ∷ lines) e k = rw (e, k) refl

-- By the first cell.

-- there is always a line
abbrev pub HasLine : List (List ℕ) → Type 0
HasLine all = (line : List ℕ) × (lines : List (List ℕ)) × (all ≡ line ∷ lines)

onto-some : (b : ℕ) (all : List (List ℕ)) → HasLine (onto_first b all)
onto-some b [] = (b ∷ [], [], refl)
onto-some b (line ∷ lines) = (b ∷ line, lines, refl)

pub lines-some : (led : Bool) (cells : List Cell) → HasLine (cell_lines led cells)
unfolding cell_lines
lines-some led [] = ([], [], refl)
lines-some led (c ∷ cs) = go (nat_eq c.byte 10) (led && is_white c.byte) (lines-some true cs)
  where
    go : (x y : Bool) → HasLine (cell_lines true cs) →
        HasLine
        (cond x ([] ∷ cell_lines true cs) (cond y (cell_lines true cs) (onto_first c.byte (cell_lines false cs))))
    go true y more = ([], cell_lines true cs, refl)
    go false true more = more
    go false false more = onto-some c.byte (cell_lines false cs)

-- a byte of the text
closed-plain : (closer : ℕ) (led : Bool) (c : Cell) (text rest : List Cell) → nat_eq c.byte 10 ≡ false →
    led && is_white c.byte ≡ false →
    lines_closed closer led (c ∷ text) rest ≡ with_first c.byte (lines_closed closer false text rest)
unfolding lines_closed cell_lines
closed-plain closer led c text [] e k = refl
closed-plain closer led c text (d ∷ ds) e k = go (nat_eq d.byte closer) refl
  where
    go : (x : Bool) → nat_eq d.byte closer ≡ x →
        lines_closed closer led (c ∷ text) (d ∷ ds) ≡ with_first c.byte (lines_closed closer false text (d ∷ ds))
    go true m = rw (m, e, k) refl
    go false m = rw m refl

-- whitespace before a line
closed-white : (closer : ℕ) (c : Cell) (text rest : List Cell) → nat_eq c.byte 10 ≡ false → is_white c.byte ≡ true →
    lines_closed closer true (c ∷ text) rest ≡ lines_closed closer true text rest
unfolding lines_closed cell_lines
closed-white closer c text [] e k = refl
closed-white closer c text (d ∷ ds) e k = rw (e, k) refl

-- a line ending
closed-ending : (closer : ℕ) (led : Bool) (c : Cell) (text rest : List Cell) → nat_eq c.byte 10 ≡ true →
    lines_closed closer led (c ∷ text) rest ≡ with_line [] (lines_closed closer true text rest)
unfolding lines_closed cell_lines
closed-ending closer led c text [] e = refl
closed-ending closer led c text (d ∷ ds) e = go (nat_eq d.byte closer) refl
  where
    go : (x : Bool) → nat_eq d.byte closer ≡ x →
        lines_closed closer led (c ∷ text) (d ∷ ds) ≡ with_line [] (lines_closed closer true text (d ∷ ds))
    go true m = rw (m, e) refl
    go false m = rw m refl

-- All cells.

-- The lines that are left, by the first cell: a byte,
pub lines-byte : (led : Bool) (c : Cell) (cs : List Cell) → nat_eq c.byte 10 ≡ false → led && is_white c.byte ≡ false →
    cell_lines led (c ∷ cs) ≡ onto_first c.byte (cell_lines false cs)
unfolding cell_lines
lines-byte led c cs e k = rw (e, k) refl

-- whitespace before a line,
pub lines-white : (c : Cell) (cs : List Cell) → nat_eq c.byte 10 ≡ false → is_white c.byte ≡ true →
    cell_lines true (c ∷ cs) ≡ cell_lines true cs
unfolding cell_lines
lines-white c cs e k = rw (e, k) refl

-- or a line ending
pub lines-ending : (led : Bool) (c : Cell) (cs : List Cell) → nat_eq c.byte 10 ≡ true →
    cell_lines led (c ∷ cs) ≡ [] ∷ cell_lines true cs
unfolding cell_lines
lines-ending led c cs e = rw e refl

-- no mark is whitespace, a line ending or a backslash
pub not-mark : (opener closer b : ℕ) → AreMarks opener closer → is_other b ≡ true → is_mark opener closer b ≡ false
not-mark opener closer b are e = go (nat_eq b opener) (nat_eq b closer) refl refl
  where
    go : (x y : Bool) → nat_eq b opener ≡ x → nat_eq b closer ≡ y → x || y ≡ false
    go true y k l = let no : is_other b ≡ false = rw (eqb-true b opener k) are.opens in cc
    go false true k l = let no : is_other b ≡ false = rw (eqb-true b closer l) are.closes in cc
    go false false k l = refl

-- What is enclosed on the lines of these cells is before the first mark.
abbrev pub AreEnclosed : ℕ → ℕ → Bool → Bool → List Cell → Type 0
AreEnclosed opener closer led escaped cells =
    first_enclosed opener closer escaped (cell_lines led cells) ≡
    lines_closed closer led (before_mark (is_mark opener closer) escaped cells)
    (from_mark (is_mark opener closer) escaped cells)

-- one cell more, that a backslash may take,
enclosed-escaped : (opener closer : ℕ) (c : Cell) (cs : List Cell) → AreEnclosed opener closer true false cs →
    AreEnclosed opener closer false false cs → AreEnclosed opener closer false true (c ∷ cs)
enclosed-escaped opener closer c cs further on = go (nat_eq c.byte 10) refl
  where
    is : ℕ → Bool
    is = is_mark opener closer

    text : List Cell
    text = before_mark (is_mark opener closer) false cs

    rest : List Cell
    rest = from_mark (is_mark opener closer) false cs

    go : (x : Bool) → nat_eq c.byte 10 ≡ x → AreEnclosed opener closer false true (c ∷ cs)
    go true e =
        ap (first_enclosed opener closer true) (lines-ending false c cs e)
        ∙ first-ending opener closer true (cell_lines true cs) ∙ ap (with_line []) further
        ∙ sym (closed-ending closer false c text rest e)
    go false e =
        ap (first_enclosed opener closer true) (lines-byte false c cs e refl)
        ∙ first-escaped opener closer c.byte (cell_lines false cs) ∙ ap (with_first c.byte) on
        ∙ sym (closed-plain closer false c text rest e refl)

-- where that is no mark,
left-more : (opener closer : ℕ) (led : Bool) (c : Cell) (cs : List Cell) (escaped : Bool) →
    is_mark opener closer c.byte ≡ false → nat_eq c.byte backslash ≡ escaped →
    lines_closed closer led (before_mark (is_mark opener closer) false (c ∷ cs))
    (from_mark (is_mark opener closer) false (c ∷ cs)) ≡
    lines_closed closer led (c ∷ before_mark (is_mark opener closer) escaped cs)
    (from_mark (is_mark opener closer) escaped cs)
left-more opener closer led c cs escaped e k = rw (e, k) refl

-- and where it is one
left-none : (opener closer : ℕ) (led : Bool) (c : Cell) (cs : List Cell) → is_mark opener closer c.byte ≡ true →
    lines_closed closer led (before_mark (is_mark opener closer) false (c ∷ cs))
    (from_mark (is_mark opener closer) false (c ∷ cs)) ≡
    cond (nat_eq c.byte closer) (Some (record { text = [] ∷ []; rest = cell_lines false cs })) None
unfolding lines_closed cell_lines
left-none opener closer led c cs e = rw e refl

-- or that none takes
enclosed-more : (opener closer : ℕ) (led : Bool) (c : Cell) (cs : List Cell) → AreMarks opener closer →
    AreEnclosed opener closer true false cs → ((escaped : Bool) → AreEnclosed opener closer false escaped cs) →
    AreEnclosed opener closer led false (c ∷ cs)
enclosed-more opener closer led c cs are further on = go (nat_eq c.byte 10) led (is_white c.byte) refl refl refl
  where
    text : Bool → List Cell
    text escaped = before_mark (is_mark opener closer) escaped cs

    rest : Bool → List Cell
    rest escaped = from_mark (is_mark opener closer) escaped cs

    -- it closes the text,
    closes : led && is_white c.byte ≡ false → nat_eq c.byte 10 ≡ false → is_mark opener closer c.byte ≡ true →
        nat_eq c.byte closer ≡ true → AreEnclosed opener closer led false (c ∷ cs)
    closes dark line mark is =
        let some = lines-some false cs in
        let found : List (List ℕ) → Option Lines = λ all. Some (record { text = [] ∷ []; rest = all }) in
        ap (first_enclosed opener closer false)
        (lines-byte led c cs line dark ∙ ap (onto_first c.byte) some.2)
        ∙ first-closes opener closer c.byte some.0 some.1 is ∙ ap found (sym some.2)
        ∙ sym (left-none opener closer led c cs mark ∙ ap (λ (z : Bool). cond z (found (cell_lines false cs)) None) is)

    -- or is a byte of its line
    byte : led && is_white c.byte ≡ false → nat_eq c.byte 10 ≡ false → (x y : Bool) → nat_eq c.byte opener ≡ x →
        nat_eq c.byte closer ≡ y → AreEnclosed opener closer led false (c ∷ cs)
    byte dark line true true k l = closes dark line (rw k refl) l
    byte dark line false true k l = closes dark line (rw (k, l) refl) l
    byte dark line true false k l =
        ap (first_enclosed opener closer false) (lines-byte led c cs line dark)
        ∙ first-opens opener closer c.byte (cell_lines false cs) l k
        ∙ sym
        (left-none opener closer led c cs (rw k refl)
        ∙ ap (λ (z : Bool). cond z (Some (record { text = [] ∷ []; rest = cell_lines false cs })) None) l)
    byte dark line false false k l =
        let escaped : Bool = nat_eq c.byte backslash in
        let mark : is_mark opener closer c.byte ≡ false = rw (k, l) refl in
        ap (first_enclosed opener closer false) (lines-byte led c cs line dark)
        ∙ first-plain opener closer c.byte (cell_lines false cs) mark ∙ ap (with_first c.byte) (on escaped)
        ∙ sym
        (left-more opener closer led c cs escaped mark refl
        ∙ closed-plain closer led c (text escaped) (rest escaped) line dark)

    go : (x y z : Bool) → nat_eq c.byte 10 ≡ x → led ≡ y → is_white c.byte ≡ z →
        AreEnclosed opener closer led false (c ∷ cs)
    go true y z e l k =
        let plain : nat_eq c.byte backslash ≡ false = grind (arith, nat_tests) in
        ap (first_enclosed opener closer false) (lines-ending led c cs e)
        ∙ first-ending opener closer false (cell_lines true cs) ∙ ap (with_line []) further
        ∙ sym
        (left-more opener closer led c cs false (not-mark opener closer c.byte are (rw e refl)) plain
        ∙ closed-ending closer led c (text false) (rest false) e)
    go false true true e l k =
        let plain : nat_eq c.byte backslash ≡ false = grind (arith, nat_tests) in
        let white : AreEnclosed opener closer true false (c ∷ cs) = ap (first_enclosed opener closer false)
        (lines-white c cs e k)
        ∙ further
        ∙ sym
        (left-more opener closer true c cs false (not-mark opener closer c.byte are (rw (e, k) refl)) plain
        ∙ closed-white closer c (text false) (rest false) e k) in
        subst (λ (x : Bool). AreEnclosed opener closer x false (c ∷ cs)) (sym l) white
    go false true false e l k = byte (rw (l, k) refl) e (nat_eq c.byte opener) (nat_eq c.byte closer) refl refl
    go false false z e l k = byte (rw l refl) e (nat_eq c.byte opener) (nat_eq c.byte closer) refl refl

-- all of them
pub cells-enclosed : (opener closer : ℕ) (led escaped : Bool) (cells : List Cell) → AreMarks opener closer →
    led && escaped ≡ false → AreEnclosed opener closer led escaped cells
unfolding cell_lines enclosed enclosed_lines lines_closed
cells-enclosed opener closer led true [] are apart = refl
cells-enclosed opener closer led false [] are apart = refl
cells-enclosed opener closer true true (c ∷ cs) are apart = cc
cells-enclosed opener closer false true (c ∷ cs) are apart =
    enclosed-escaped opener closer c cs (cells-enclosed opener closer true false cs are refl)
    (cells-enclosed opener closer false false cs are refl)
cells-enclosed opener closer led false (c ∷ cs) are apart =
    enclosed-more opener closer led c cs are (cells-enclosed opener closer true false cs are refl)
    (λ escaped. cells-enclosed opener closer false escaped cs are refl)
