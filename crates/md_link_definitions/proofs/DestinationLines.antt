-- A destination is what a definition has on the lines of its cells.
use Rattle.std.proofs.Common.{◌≡◌, ℕ, suc, Bool, true, false, cond, nat_eq, List, [], ◌∷◌, ◌++◌, length, take, drop}
use Rattle.std.proofs.Common.{Option, Some, None, refl, sym, ◌∙◌, ap, ap₂, arith, append_assoc, subst}
use Rattle.std.specs.List.{take_while}
use Rattle.std.proofs.lemmas.Bool.{eqb-true}
use Rattle.std.proofs.lemmas.Bool.Decides.{nat_tests}
use Rattle.std.proofs.lemmas.List.{drop_at, length-append, take_at}
use Rattle.std.proofs.lemmas.List.Sums.{take_while-cons}
use Rattle.md_meaning.specs.Ascii.{greater_than, less_than}
use Rattle.md_meaning.specs.Bytes.{after}
use Rattle.md_meaning.specs.Definition.{Destination, balanced, is_raw_byte}
use Rattle.md_meaning.specs.Definition as definition
use Rattle.md_meaning.specs.Enclosed.{Lines}
use Rattle.md_meaning.specs.Rest.{is_white}
use Rattle.md_engine.specs.declared.event.Point.{Point}
use Rattle.md_engine.specs.Meaning.{Cell}
use Rattle.md_link_definitions.specs.CellLines.{cell_lines}
use Rattle.md_link_definitions.specs.Chunks.{before_mark, from_mark}
use Rattle.md_link_definitions.specs.DestinationRule.{begins_literal, destination_last, destination_left, text_cells}
use Rattle.md_link_definitions.specs.DestinationRule.{text_first}
use Rattle.md_link_definitions.specs.Title.{is_mark}
use Rattle.md_link_definitions.specs.WholeCells.{AreWhole, whole_cells}
use Rattle.md_link_definitions.proofs.DestinationLemmas.{line-ends, line-more, raw-cons, raw-ends, raw-no_ending}
use Rattle.md_link_definitions.proofs.DestinationWhole.{found-literal, found-neither, found-none, found-raw}
use Rattle.md_link_definitions.proofs.DestinationWhole.{literal_found, raw_found}
use Rattle.md_link_definitions.proofs.GapLines.{AreAt, whole-first}
use Rattle.md_link_definitions.proofs.LineCells.{bytes-length, enclosed-marks, enclosed_by, further, line-no_feed}
use Rattle.md_link_definitions.proofs.LineCells.{line-split, line-stops, lines-first, lines-following, mark-split}
use Rattle.md_link_definitions.proofs.LineCells.{no_feed-split, whole-split}
use Rattle.md_link_definitions.proofs.WholeCellLemmas.{IsMarkFirst, NoWhite, mark-at, no-white, rest-are, whole-after}
use Rattle.md_link_definitions.proofs.WholeCellLemmas.{whole-before, whole-from}
use Rattle.md_link_definitions.proofs.SpreadLines.{whole-append}
use Rattle.md_events.specs.Ahead.{from_ending, line_bytes, line_cells, point_after}
use Rattle.md_events.proofs.RestLines.{count-none, count-one}
use Rattle.md_events.proofs.FeedLines.{NoFeed, Stops, bytes_of, point_after-append}

-- On the first of some lines: a destination, and what is left of the line, before the further lines.
abbrev pub with_further : List (List ℕ) → Option Destination → Option Lines
with_further lines None = None
with_further lines (Some d) = Some (record { text = d.text ∷ []; rest = d.rest ∷ lines })

-- by those lines
abbrev pub destination_on : List (List ℕ) → Option Lines
destination_on [] = None
destination_on (line ∷ lines) = with_further lines (definition.destination_at line)

-- One that is found before cells: the bytes of its text, and the lines after it.
abbrev pub destination_lines : Point → List Cell → Option Destination → Option Lines
destination_lines p cells None = None
destination_lines p cells (Some d) =
    let literal = begins_literal cells in
    Some (record {
      text = bytes_of (whole_cells (text_first literal cells p) (text_cells literal d.text cells)) ∷ [];
      rest = cell_lines false (whole_cells (destination_last d cells p) (destination_left d cells));
    })

-- What is found on the line is what is found before the cells, and a byte begins after it.
pub record OnLine (p : Point) (cells : List Cell) (found o : Option Destination) : Type 0 where
  pub lines : with_further (further (from_ending cells)) found ≡ destination_lines p cells o
  pub valid : (d : Destination) → o ≡ Some d → AreAt (destination_last d cells p) (destination_left d cells)

-- Between angle brackets.

-- neither of them is whitespace
angles : NoWhite (is_mark less_than greater_than)
angles = no-white less_than greater_than (record { opens = refl; closes = refl })

-- the cells up to a `>`, that one, and those after it, by the cells after the `<`
record LiteralCells (c d : Cell) (text more cs : List Cell) : Type 0 where
  front : take (length (bytes_of text)) cs ≡ text
  past : point_after (take (suc (length (bytes_of text))) cs) c.after ≡ d.after
  left : drop (suc (length (bytes_of text))) cs ≡ more

-- where they are those cells
literal-cells : (c d : Cell) (text more cs : List Cell) → text ++ (d ∷ more) ≡ cs → LiteralCells c d text more cs
literal-cells c d text more cs e = record {
  front =
      ap (take (length (bytes_of text))) (sym e)
      ∙ take_at text (d ∷ more) (length (bytes_of text)) (sym (bytes-length text));
  past =
      ap (λ (l : List Cell). point_after (take (suc (length (bytes_of text))) l) c.after) (sym all)
      ∙ ap (λ (l : List Cell). point_after l c.after)
      (take_at (text ++ (d ∷ [])) more (suc (length (bytes_of text))) size)
      ∙ point_after-append text (d ∷ []) c.after;
  left =
      ap (drop (suc (length (bytes_of text)))) (sym all)
      ∙ drop_at (text ++ (d ∷ [])) more (suc (length (bytes_of text))) size;
}
  where
    all : (text ++ (d ∷ [])) ++ more ≡ cs
    all = append_assoc text (d ∷ []) more ∙ e

    size : length (text ++ (d ∷ [])) ≡ suc (length (bytes_of text))
    size = let same = bytes-length text in let one = length-append text (d ∷ []) in omega (arith, same, one)

-- what is known of the cells after a `<`: the text up to the first angle bracket, what follows it on the line, and what
-- follows the line
record IsCut (c : Cell) (cs text rest lines : List Cell) : Type 0 where
  cells : text ++ (rest ++ lines) ≡ cs
  first : IsMarkFirst (is_mark less_than greater_than) (point_after text c.after) rest
  none : NoFeed rest
  stops : Stops lines
  are : AreWhole (point_after rest (point_after text c.after)) lines

-- so are the cells up to the first mark, and those from it on
is-cut : (c : Cell) (cs : List Cell) → AreWhole c.after cs →
    let is = is_mark less_than greater_than in
    IsCut c cs (before_mark is false (line_cells cs)) (from_mark is false (line_cells cs)) (from_ending cs)
is-cut c cs are =
    let is = is_mark less_than greater_than in
    let line = line_cells cs in
    let text = before_mark is false line in
    let rest = from_mark is false line in
    let parts = whole-split line (from_ending cs) c.after
    (subst (AreWhole c.after) (sym (line-split cs)) are) in
    let split : text ++ rest ≡ line_cells cs = mark-split is false (line_cells cs) in
    record {
      cells =
          sym (append_assoc text rest (from_ending cs)) ∙ ap (λ (l : List Cell). l ++ from_ending cs) split
          ∙ line-split cs;
      first = rest-are is false c.after line parts.0;
      none = (no_feed-split text rest (subst NoFeed (sym split) (line-no_feed cs))).1;
      stops = line-stops cs;
      are =
          subst (λ (p : Point). AreWhole p (from_ending cs))
          (sym (ap (λ (l : List Cell). point_after l c.after) split) ∙ point_after-append text rest c.after) parts.1;
    }

-- so it is found,
literal-lines : (p : Point) (c : Cell) (cs text rest lines : List Cell) → nat_eq c.byte less_than ≡ true →
    IsCut c cs text rest lines →
    with_further (further lines)
    (literal_found
    (enclosed_by greater_than (whole_cells c.after text) (whole_cells (point_after text c.after) rest))) ≡
    destination_lines p (c ∷ cs) (literal_found (enclosed_by greater_than text rest))
literal-lines p c cs text [] lines e cut = refl
literal-lines p c cs text (d ∷ ds) lines e cut = rw at (go (nat_eq d.byte greater_than) refl)
  where
    at : nat_eq (point_after text c.after).vs 0 ≡ true
    at = mark-at (is_mark less_than greater_than) (point_after text c.after) d ds angles cut.first

    known : LiteralCells c d text (ds ++ lines) cs
    known = literal-cells c d text (ds ++ lines) cs cut.cells

    following : cell_lines false (whole_cells d.after (ds ++ lines)) ≡ bytes_of (whole_cells d.after ds) ∷ further lines
    following =
        lines-following d.after ds lines cut.none.1 cut.stops (whole-append ds lines d.after cut.first.are.1 cut.are)

    to : List (List ℕ) → Option Lines
    to rest = Some (record { text = bytes_of (whole_cells c.after text) ∷ []; rest = rest })

    go : (x : Bool) → nat_eq d.byte greater_than ≡ x →
        with_further (further lines)
        (literal_found (enclosed_by greater_than (whole_cells c.after text) (d ∷ whole_cells d.after ds))) ≡
        destination_lines p (c ∷ cs) (literal_found (enclosed_by greater_than text (d ∷ ds)))
    go true k = rw (k, e, known.front, known.past, known.left) (ap to (sym following))
    go false k = rw k refl

-- and a byte begins after it
literal-valid : (p : Point) (c : Cell) (cs text rest lines : List Cell) (d : Destination) →
    nat_eq c.byte less_than ≡ true → IsCut c cs text rest lines →
    literal_found (enclosed_by greater_than text rest) ≡ Some d →
    AreAt (destination_last d (c ∷ cs) p) (destination_left d (c ∷ cs))
literal-valid p c cs text [] lines d e cut is = cc
literal-valid p c cs text (x ∷ xs) lines d e cut is = go (nat_eq x.byte greater_than) refl
  where
    known : LiteralCells c x text (xs ++ lines) cs
    known = literal-cells c x text (xs ++ lines) cs cut.cells

    following : nat_eq x.byte greater_than ≡ true → AreAt x.after (xs ++ lines)
    following k =
        let mark : x.byte ≡ greater_than = eqb-true x.byte greater_than k in
        record {
          begins = λ y ys same.
              whole-after (point_after text c.after) x cut.first.are.0 (rw mark refl) (rw mark refl);
          are = whole-append xs lines x.after cut.first.are.1 cut.are;
        }

    go : (y : Bool) → nat_eq x.byte greater_than ≡ y →
        AreAt (destination_last d (c ∷ cs) p) (destination_left d (c ∷ cs))
    go true k =
        let found : Destination = record { text = bytes_of text; rest = bytes_of xs } in
        let some : Some found ≡ Some d = rw k at is in
        let same : found ≡ d = cc in
        subst (λ (t : Destination). AreAt (destination_last t (c ∷ cs) p) (destination_left t (c ∷ cs))) same
        (rw (e, known.past, known.left) (following k))
    go false k =
        let none : (let o : Option Destination = None in o) ≡ Some d = rw k at is in cc

-- Without angle brackets.

-- the bytes after those of the text
after-raw : (b : ℕ) (bytes : List ℕ) → is_raw_byte b ≡ true → after is_raw_byte (b ∷ bytes) ≡ after is_raw_byte bytes
after-raw b bytes e = ap (λ (n : ℕ). drop n (b ∷ bytes)) (count-one is_raw_byte b bytes e)

-- and those from one on that is none of them
after-none : (b : ℕ) (bytes : List ℕ) → is_raw_byte b ≡ false → after is_raw_byte (b ∷ bytes) ≡ b ∷ bytes
after-none b bytes e = ap (λ (n : ℕ). drop n (b ∷ bytes)) (count-none is_raw_byte b bytes e)

-- the bytes of the text
text-raw : (b : ℕ) (bytes : List ℕ) → is_raw_byte b ≡ true →
    take_while is_raw_byte (b ∷ bytes) ≡ b ∷ take_while is_raw_byte bytes
text-raw b bytes e = take_while-cons is_raw_byte b bytes ∙ rw e refl

-- which ends before another byte
text-none : (b : ℕ) (bytes : List ℕ) → is_raw_byte b ≡ false → take_while is_raw_byte (b ∷ bytes) ≡ []
text-none b bytes e = take_while-cons is_raw_byte b bytes ∙ rw e refl

-- none of them is whitespace
raw-no_white : (b : ℕ) → is_raw_byte b ≡ true → is_white b ≡ false
raw-no_white b e = grind (arith, nat_tests)

-- the text, and what follows it, by the cells and by the bytes of the line
record RawLine (p : Point) (cells text rest : List Cell) : Type 0 where
  split : text ++ rest ≡ cells
  whole : whole_cells p text ≡ text
  found : take_while is_raw_byte (line_bytes cells) ≡ bytes_of text
  bytes : take_while is_raw_byte (bytes_of (whole_cells p (line_cells cells))) ≡ bytes_of text
  left : after is_raw_byte (bytes_of (whole_cells p (line_cells cells))) ≡
      bytes_of (whole_cells (point_after text p) (line_cells rest))
  ending : from_ending rest ≡ from_ending cells
  at : (point_after text p).vs ≡ 0
  are : AreWhole (point_after text p) rest

-- one byte more of it,
raw-next : (p : Point) (c : Cell) (cs text rest : List Cell) → p.vs ≡ 0 → is_raw_byte c.byte ≡ true →
    RawLine c.after cs text rest → RawLine p (c ∷ cs) (c ∷ text) rest
raw-next p c cs text rest at raw more =
    let ending = raw-no_ending c.byte raw in
    let line : line_cells (c ∷ cs) ≡ c ∷ line_cells cs = rw ending refl in
    let cells : bytes_of (whole_cells p (line_cells (c ∷ cs))) ≡
    c.byte ∷ bytes_of (whole_cells c.after (line_cells cs)) =
    ap (λ (l : List Cell). bytes_of (whole_cells p l)) line ∙ ap bytes_of (whole-first p c (line_cells cs) at) in
    record {
      split = ap (λ (l : List Cell). c ∷ l) more.split;
      whole = whole-first p c text at ∙ ap (λ (l : List Cell). c ∷ l) more.whole;
      found = raw-cons c cs raw ∙ ap (λ (l : List ℕ). c.byte ∷ l) more.found;
      bytes =
          ap (take_while is_raw_byte) cells ∙ text-raw c.byte (bytes_of (whole_cells c.after (line_cells cs))) raw
          ∙ ap (λ (l : List ℕ). c.byte ∷ l) more.bytes;
      left =
          ap (after is_raw_byte) cells ∙ after-raw c.byte (bytes_of (whole_cells c.after (line_cells cs))) raw
          ∙ more.left;
      ending = more.ending ∙ rw ending refl;
      at = more.at;
      are = more.are;
    }

-- and none
raw-last : (p : Point) (c : Cell) (cs : List Cell) → p.vs ≡ 0 → is_raw_byte c.byte ≡ false → AreWhole p (c ∷ cs) →
    RawLine p (c ∷ cs) [] (c ∷ cs)
raw-last p c cs at raw are = go (nat_eq c.byte 10) refl
  where
    go : (x : Bool) → nat_eq c.byte 10 ≡ x → RawLine p (c ∷ cs) [] (c ∷ cs)
    go true e =
        let line : line_cells (c ∷ cs) ≡ [] = rw e refl in
        let none : bytes_of (whole_cells p (line_cells (c ∷ cs))) ≡ [] =
        ap (λ (l : List Cell). bytes_of (whole_cells p l)) line in
        record {
          split = refl;
          whole = refl;
          found = raw-ends c cs raw;
          bytes = ap (take_while is_raw_byte) none;
          left = ap (after is_raw_byte) none ∙ sym none;
          ending = refl;
          at = at;
          are = are;
        }
    go false e =
        let line : line_cells (c ∷ cs) ≡ c ∷ line_cells cs = rw e refl in
        let cells : bytes_of (whole_cells p (line_cells (c ∷ cs))) ≡
        c.byte ∷ bytes_of (whole_cells c.after (line_cells cs)) =
        ap (λ (l : List Cell). bytes_of (whole_cells p l)) line ∙ ap bytes_of (whole-first p c (line_cells cs) at) in
        record {
          split = refl;
          whole = refl;
          found = raw-ends c cs raw;
          bytes =
              ap (take_while is_raw_byte) cells ∙ text-none c.byte (bytes_of (whole_cells c.after (line_cells cs))) raw;
          left =
              ap (after is_raw_byte) cells ∙ after-none c.byte (bytes_of (whole_cells c.after (line_cells cs))) raw
              ∙ sym cells;
          ending = refl;
          at = at;
          are = are;
        }

-- all of it, however long
raw-line : (p : Point) (cells : List Cell) → p.vs ≡ 0 → AreWhole p cells →
    (text : List Cell) × (rest : List Cell) × RawLine p cells text rest
raw-line p [] at are = (
  [],
  [],
  record {
    split = refl;
    whole = refl;
    found = refl;
    bytes = refl;
    left = refl;
    ending = refl;
    at = at;
    are = are;
  },
)
raw-line p (c ∷ cs) at are =
    go (is_raw_byte c.byte) refl (λ next. raw-line c.after cs next are.1)
  where
    go : (x : Bool) → is_raw_byte c.byte ≡ x →
        (c.after.vs ≡ 0 → (text : List Cell) × (rest : List Cell) × RawLine c.after cs text rest) →
        (text : List Cell) × (rest : List Cell) × RawLine p (c ∷ cs) text rest
    go true e more =
        let next = whole-after p c are.0 (raw-no_white c.byte e) (raw-no_ending c.byte e) in
        let on = more next in (c ∷ on.0, on.1, raw-next p c cs on.0 on.1 at e on.2)
    go false e more = ([], c ∷ cs, raw-last p c cs at e are)

-- a text that was found, if its parentheses nest
abbrev if_nested : Bool → List ℕ → List ℕ → Option Destination
if_nested nests text rest = cond nests (Some (record { text = text; rest = rest })) None

-- so it is found, and a byte begins after it
raw-nested : (p : Point) (cells text rest : List Cell) (more : List ℕ) (nests : Bool) → begins_literal cells ≡ false →
    RawLine p cells text rest →
    OnLine p cells
    (if_nested nests (bytes_of text) (bytes_of (whole_cells (point_after text p) (line_cells rest))))
    (if_nested nests (bytes_of text) more)
raw-nested p cells text rest more false e known = record { lines = refl; valid = λ d k. cc }
raw-nested p cells text rest more true e known = record {
  lines = rw (e, front, left, known.whole) (ap to (sym following));
  valid = λ d k.
      let same : found ≡ d = cc in
      subst (λ (t : Destination). AreAt (destination_last t cells p) (destination_left t cells)) same
      (rw (e, front, left) are_valid);
}
  where
    found : Destination
    found = record { text = bytes_of text; rest = more }

    front : take (length (bytes_of text)) cells ≡ text
    front =
        ap (take (length (bytes_of text))) (sym known.split)
        ∙ take_at text rest (length (bytes_of text)) (sym (bytes-length text))

    left : drop (length (bytes_of text)) cells ≡ rest
    left =
        ap (drop (length (bytes_of text))) (sym known.split)
        ∙ drop_at text rest (length (bytes_of text)) (sym (bytes-length text))

    are_valid : AreAt (point_after text p) rest
    are_valid = record { begins = λ c cs k. known.at; are = known.are }

    to : List (List ℕ) → Option Lines
    to lines = Some (record { text = bytes_of text ∷ []; rest = lines })

    following : cell_lines false (whole_cells (point_after text p) rest) ≡
        bytes_of (whole_cells (point_after text p) (line_cells rest)) ∷ further (from_ending cells)
    following =
        lines-first (point_after text p) rest known.are
        ∙ ap
        (λ (l : List Cell). bytes_of (whole_cells (point_after text p) (line_cells rest)) ∷ further l)
        known.ending

-- Both.

-- what is found, by what it is equal to
on-line-as : (p : Point) (cells : List Cell) (found f o q : Option Destination) → found ≡ f → o ≡ q →
    OnLine p cells f q → OnLine p cells found o
on-line-as p cells found f o q e k on = subst (λ (x : Option Destination). OnLine p cells x o) (sym e)
    (subst (λ (x : Option Destination). OnLine p cells f x) (sym k) on)

-- nothing is found
on-none : (p : Point) (cells : List Cell) → OnLine p cells None None
on-none p cells = record { lines = refl; valid = λ d k. cc }

-- a text without angle brackets
raw-on : (p : Point) (cells text rest : List Cell) → begins_literal cells ≡ false → RawLine p cells text rest →
    OnLine p cells (raw_found (bytes_of (whole_cells p (line_cells cells)))) (raw_found (line_bytes cells))
raw-on p cells text rest e known =
    let nested = λ (t r : List ℕ). if_nested (balanced 0 false t) t r in
    on-line-as p cells _ _ _ _ (ap₂ nested known.bytes known.left)
    (ap (λ (t : List ℕ). nested t (after is_raw_byte (line_bytes cells))) known.found)
    (raw-nested p cells text rest (after is_raw_byte (line_bytes cells)) (balanced 0 false (bytes_of text)) e known)

-- a text between them
literal-on : (p : Point) (c : Cell) (cs text rest : List Cell) → nat_eq c.byte less_than ≡ true →
    IsCut c cs text rest (from_ending cs) →
    OnLine p (c ∷ cs)
    (literal_found
    (enclosed_by greater_than (whole_cells c.after text) (whole_cells (point_after text c.after) rest)))
    (literal_found (enclosed_by greater_than text rest))
literal-on p c cs text rest e cut = record {
  lines =
      let on_line : nat_eq c.byte 10 ≡ false = rw (eqb-true c.byte less_than e) refl in
      rw on_line (literal-lines p c cs text rest (from_ending cs) e cut);
  valid = λ d k. literal-valid p c cs text rest (from_ending cs) d e cut k;
}

-- The definition finds on the line of some cells what is before them.
pub destination-lines : (p : Point) (cells : List Cell) → AreAt p cells →
    OnLine p cells (definition.destination_at (bytes_of (whole_cells p (line_cells cells))))
    (definition.destination_at (line_bytes cells))
destination-lines p [] at = on-line-as p [] _ _ _ _ found-none found-none (on-none p [])
destination-lines p (c ∷ cs) at =
    go (nat_eq c.byte 10) (nat_eq c.byte less_than) (is_raw_byte c.byte) refl refl refl
  where
    vs : p.vs ≡ 0
    vs = at.begins c cs refl

    is : ℕ → Bool
    is = is_mark less_than greater_than

    line : List Cell
    line = line_cells cs

    cells : nat_eq c.byte 10 ≡ false →
        bytes_of (whole_cells p (line_cells (c ∷ cs))) ≡ c.byte ∷ bytes_of (whole_cells c.after (line_cells cs))
    cells e =
        let more : line_cells (c ∷ cs) ≡ c ∷ line_cells cs = rw e refl in
        ap (λ (l : List Cell). bytes_of (whole_cells p l)) more ∙ ap bytes_of (whole-first p c (line_cells cs) vs)

    are : AreWhole c.after (line_cells cs)
    are =
        (whole-split (line_cells cs) (from_ending cs) c.after
        (subst (AreWhole c.after) (sym (line-split cs)) at.are.1)).0

    go : (x y z : Bool) → nat_eq c.byte 10 ≡ x → nat_eq c.byte less_than ≡ y → is_raw_byte c.byte ≡ z →
        OnLine p (c ∷ cs) (definition.destination_at (bytes_of (whole_cells p (line_cells (c ∷ cs)))))
        (definition.destination_at (line_bytes (c ∷ cs)))
    go true y z e k r =
        let none : line_cells (c ∷ cs) ≡ [] = rw e refl in
        on-line-as p (c ∷ cs) _ _ _ _
        (ap (λ (l : List Cell). definition.destination_at (bytes_of (whole_cells p l))) none ∙ found-none)
        (ap definition.destination_at (line-ends c cs e) ∙ found-none) (on-none p (c ∷ cs))
    go false true z e k r =
        on-line-as p (c ∷ cs) _ _ _ _
        (ap definition.destination_at (cells e) ∙ found-literal c.byte (bytes_of (whole_cells c.after line)) k
        ∙ ap literal_found (enclosed-marks less_than greater_than false (whole_cells c.after line))
        ∙ ap₂ (λ (t r : List Cell). literal_found (enclosed_by greater_than t r))
        (whole-before is false c.after line angles (λ e. cc) are)
        (whole-from is false c.after line angles (λ e. cc) are))
        (ap definition.destination_at (line-more c cs e) ∙ found-literal c.byte (line_bytes cs) k
        ∙ ap literal_found (enclosed-marks less_than greater_than false line))
        (literal-on p c cs (before_mark is false line) (from_mark is false line) k (is-cut c cs at.are.1))
    go false false true e k r =
        let known = raw-line p (c ∷ cs) vs at.are in
        on-line-as p (c ∷ cs) _ _ _ _
        (ap definition.destination_at (cells e)
        ∙ found-raw c.byte (bytes_of (whole_cells c.after line)) k r ∙ ap raw_found (sym (cells e)))
        (ap definition.destination_at (line-more c cs e) ∙ found-raw c.byte (line_bytes cs) k r
        ∙ ap raw_found (sym (line-more c cs e)))
        (raw-on p (c ∷ cs) known.0 known.1 k known.2)
    go false false false e k r =
        on-line-as p (c ∷ cs) _ _ _ _
        (ap definition.destination_at (cells e) ∙ found-neither c.byte (bytes_of (whole_cells c.after line)) k r)
        (ap definition.destination_at (line-more c cs e) ∙ found-neither c.byte (line_bytes cs) k r)
        (on-none p (c ∷ cs))

-- On the lines of cells a definition has the destination that is before them.
pub destination-texts : (p : Point) (cells : List Cell) → AreAt p cells →
    destination_on (cell_lines false (whole_cells p cells)) ≡
    destination_lines p cells (definition.destination_at (line_bytes cells))
destination-texts p cells at =
    ap destination_on (lines-first p cells at.are) ∙ (destination-lines p cells at).lines

-- After it a byte begins.
pub destination-valid : (p : Point) (cells : List Cell) (d : Destination) → AreAt p cells →
    definition.destination_at (line_bytes cells) ≡ Some d →
    AreAt (destination_last d cells p) (destination_left d cells)
destination-valid p cells d at e = (destination-lines p cells at).valid d e
