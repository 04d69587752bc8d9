-- What is left of a destination, cell by cell.
use Rattle.std.proofs.Common.{◌≡◌, ℕ, ◌+◌, ◌-◌, Bool, true, false, cond, nat_eq, nat_lt, List, [], ◌∷◌}
use Rattle.std.proofs.Common.{◌++◌, Option, Some, None, refl, sym, ◌∙◌, arith, append-nil, append_assoc, subst}
use Rattle.std.specs.Prelude.{⊤}
use Rattle.std.specs.List.{take_while}
use Rattle.std.proofs.lemmas.Bool.{eqb-true}
use Rattle.std.proofs.lemmas.Bool.Decides.{nat_tests}
use Rattle.std.proofs.lemmas.List.Sums.{take_while-cons}
use Rattle.md_meaning.specs.Ascii.{greater_than, less_than}
use Rattle.md_meaning.specs.Definition.{balanced, is_raw_byte}
use Rattle.md_meaning.specs.Enclosed.{Broken, Closed, Enclosed, Open, enclosed, with_byte}
use Rattle.md_engine.specs.declared.event.Event.{Event}
use Rattle.md_engine.specs.declared.event.Point.{Point}
use Rattle.md_engine.specs.Meaning.{Accepts, Cell, Feed, Here, Refuses}
use Rattle.md_engine.specs.World.{World, after}
use Rattle.md_engine.specs.Sees.{ahead, cell_here}
use Rattle.md_link_definitions.specs.Destination.{Begin, Closes, Escapes, Literal, Neither, Opens, Other, Piece, Raw}
use Rattle.md_link_definitions.specs.Destination.{Stops, begins, enclosed_piece, is_escaped, raw_piece, with_size}
use Rattle.md_link_definitions.specs.Destination.{without_size}
use Rattle.md_link_definitions.specs.DestinationRule.{before_literal, destination_at, in_literal, in_raw, literal_begin}
use Rattle.md_link_definitions.specs.DestinationRule.{literal_by}
use Rattle.md_link_definitions.specs.DestinationRule.{literal_end, raw_begin, raw_end, text_begin, text_end, text_part}
use Rattle.md_events.specs.Ahead.{line_bytes}
use Rattle.md_events.specs.Spaces.{is_current}

-- a byte that is the one is not the other
not-same : (b m k : ℕ) → nat_eq b m ≡ true → nat_eq m k ≡ false → nat_eq b k ≡ false
not-same b m k e other = rw (eqb-true b m e) other

-- What a byte is.

-- of text between angle brackets,
abbrev pub EnclosedMeans : ℕ → Piece → Type 0
EnclosedMeans b Opens = nat_eq b 60 ≡ true
EnclosedMeans b Closes = nat_eq b 62 ≡ true
EnclosedMeans b Escapes = nat_eq b 92 ≡ true
EnclosedMeans b Other = (nat_eq b 60 ≡ false) × (nat_eq b 62 ≡ false) × (nat_eq b 92 ≡ false) × (nat_eq b 10 ≡ false)
EnclosedMeans b Stops = nat_eq b 10 ≡ true

-- each byte is what its piece means,
enclosed-means : (b : ℕ) → EnclosedMeans b (enclosed_piece (Some b))
enclosed-means b = go (nat_eq b 60) (nat_eq b 62) (nat_eq b 92) (nat_eq b 10) refl refl refl refl
  where
    go : (x y z t : Bool) → nat_eq b 60 ≡ x → nat_eq b 62 ≡ y → nat_eq b 92 ≡ z → nat_eq b 10 ≡ t →
        EnclosedMeans b (cond x Opens (cond y Closes (cond z Escapes (cond t Stops Other))))
    go true y z t i j k l = i
    go false true z t i j k l = j
    go false false true t i j k l = k
    go false false false true i j k l = l
    go false false false false i j k l = (i, j, k, l)

-- so also where the piece is known
pub enclosed-is : (b : ℕ) (p : Piece) → enclosed_piece (Some b) ≡ p → EnclosedMeans b p
enclosed-is b p e = subst (EnclosedMeans b) e (enclosed-means b)

-- and of text without them
abbrev pub RawMeans : ℕ → Piece → Type 0
RawMeans b Opens = nat_eq b 40 ≡ true
RawMeans b Closes = nat_eq b 41 ≡ true
RawMeans b Escapes = nat_eq b 92 ≡ true
RawMeans b Other =
    (nat_eq b 40 ≡ false) × (nat_eq b 41 ≡ false) × (nat_eq b 92 ≡ false) × (is_raw_byte b ≡ true)
RawMeans b Stops = is_raw_byte b ≡ false

-- each byte is what its piece means,
raw-means : (b : ℕ) → RawMeans b (raw_piece (Some b))
raw-means b = go (nat_eq b 40) (nat_eq b 41) (nat_eq b 92) (is_raw_byte b) refl refl refl refl
  where
    go : (x y z t : Bool) → nat_eq b 40 ≡ x → nat_eq b 41 ≡ y → nat_eq b 92 ≡ z → is_raw_byte b ≡ t →
        RawMeans b (cond x Opens (cond y Closes (cond z Escapes (cond t Other Stops))))
    go true y z t i j k l = i
    go false true z t i j k l = j
    go false false true t i j k l = k
    go false false false true i j k l = (i, j, k, l)
    go false false false false i j k l = l

-- so also where the piece is known
pub raw-is : (b : ℕ) (p : Piece) → raw_piece (Some b) ≡ p → RawMeans b p
raw-is b p e = subst (RawMeans b) e (raw-means b)

-- What a backslash takes may be in the text.
pub escaped-enclosed : (b : ℕ) → is_escaped (enclosed_piece (Some b)) ≡ true → nat_eq b 10 ≡ false
escaped-enclosed b e = go (enclosed_piece (Some b)) e (enclosed-means b)
  where
    go : (p : Piece) → is_escaped p ≡ true → EnclosedMeans b p → nat_eq b 10 ≡ false
    go Opens e means = not-same b 60 10 means refl
    go Closes e means = not-same b 62 10 means refl
    go Escapes e means = not-same b 92 10 means refl
    go Other e means = cc
    go Stops e means = cc

-- and without angle brackets
pub escaped-raw : (b : ℕ) → is_escaped (raw_piece (Some b)) ≡ true → is_raw_byte b ≡ true
escaped-raw b e = go (raw_piece (Some b)) e (raw-means b)
  where
    go : (p : Piece) → is_escaped p ≡ true → RawMeans b p → is_raw_byte b ≡ true
    go Opens e means = rw (eqb-true b 40 means) refl
    go Closes e means = rw (eqb-true b 41 means) refl
    go Escapes e means = rw (eqb-true b 92 means) refl
    go Other e means = cc
    go Stops e means = cc

-- The bytes of a line whose first cell this is.
pub line-more : (c : Cell) (cs : List Cell) → nat_eq c.byte 10 ≡ false → line_bytes (c ∷ cs) ≡ c.byte ∷ line_bytes cs
line-more c cs e = rw e refl

-- of one that ends it there are none
pub line-ends : (c : Cell) (cs : List Cell) → nat_eq c.byte 10 ≡ true → line_bytes (c ∷ cs) ≡ []
line-ends c cs e = rw e refl

-- Between angle brackets.

-- the end of the text
abbrev ended : List ℕ → Point → Point → List Event
ended text p q = text_end q

-- after a byte of the text
following-byte : (c : Cell) (cs : List Cell) (h : Here) (b : ℕ) (x : Enclosed) →
    literal_by ended (c ∷ cs) h (with_byte b x) ≡ literal_by ended cs (record h { point = c.after }) x
following-byte c cs h b (Closed text rest) = refl
following-byte c cs h b Open = refl
following-byte c cs h b Broken = refl

-- a byte that a backslash takes
pub literal-escaped : (c : Cell) (cs : List Cell) (h : Here) → nat_eq c.byte 10 ≡ false →
    in_literal true (c ∷ cs) h ≡ in_literal false cs (record h { point = c.after })
unfolding in_literal enclosed
literal-escaped c cs h e = rw e (following-byte c cs h c.byte (enclosed less_than greater_than false (line_bytes cs)))

-- a backslash,
pub literal-backslash : (c : Cell) (cs : List Cell) (h : Here) → nat_eq c.byte 92 ≡ true →
    in_literal false (c ∷ cs) h ≡ in_literal true cs (record h { point = c.after })
unfolding in_literal enclosed
literal-backslash c cs h e =
    rw (not-same c.byte 92 10 e refl, not-same c.byte 92 62 e refl, not-same c.byte 92 60 e refl, e)
    (following-byte c cs h c.byte (enclosed less_than greater_than true (line_bytes cs)))

-- and another byte of the text
pub literal-other : (c : Cell) (cs : List Cell) (h : Here) → EnclosedMeans c.byte Other →
    in_literal false (c ∷ cs) h ≡ in_literal false cs (record h { point = c.after })
unfolding in_literal enclosed
literal-other c cs h (x, y, z, t) =
    rw (t, y, x, z) (following-byte c cs h c.byte (enclosed less_than greater_than false (line_bytes cs)))

-- the text ends before a `>`,
pub literal-closes : (c : Cell) (cs : List Cell) (h : Here) → nat_eq c.byte 62 ≡ true →
    in_literal false (c ∷ cs) h ≡ before_literal (c ∷ cs) (record h { events = h.events ++ text_end h.point })
unfolding in_literal before_literal enclosed
literal-closes c cs h e = rw (not-same c.byte 62 10 e refl, e) (simp append_assoc)

-- which ends the destination,
pub before-closes : (c : Cell) (cs : List Cell) (h : Here) → nat_eq c.byte 62 ≡ true →
    before_literal (c ∷ cs) h ≡
    Accepts (record h { events = h.events ++ literal_end h.point c.after; point = c.after }) cs
unfolding before_literal enclosed
before-closes c cs h e = rw (not-same c.byte 62 10 e refl, e, append-nil) refl

-- and a bare `<` is in none,
pub literal-opens : (c : Cell) (cs : List Cell) (h : Here) → nat_eq c.byte 60 ≡ true →
    in_literal false (c ∷ cs) h ≡ Refuses h.scratch h.flags
unfolding in_literal enclosed
literal-opens c cs h e = rw (not-same c.byte 60 10 e refl, not-same c.byte 60 62 e refl, e) refl

-- nor an ending, also not after a backslash.
pub literal-ends : (escaped : Bool) (c : Cell) (cs : List Cell) (h : Here) → nat_eq c.byte 10 ≡ true →
    in_literal escaped (c ∷ cs) h ≡ Refuses h.scratch h.flags
unfolding in_literal enclosed
literal-ends escaped c cs h e = rw e refl

-- nor does the end
pub literal-none : (escaped : Bool) (h : Here) → in_literal escaped [] h ≡ Refuses h.scratch h.flags
unfolding in_literal enclosed
literal-none escaped h = refl

-- A backslash takes nothing else.
pub literal-bare : (feed : Feed) (w : World) (h : Here) (o : Option ℕ) → is_escaped (enclosed_piece o) ≡ false →
    in_literal true (ahead feed w o) h ≡ in_literal false (ahead feed w o) h
literal-bare feed w h None e = literal-none true h ∙ sym (literal-none false h)
literal-bare feed w h (Some b) e = go (enclosed_piece (Some b)) e (enclosed-means b)
  where
    c : Cell
    c = cell_here feed w b

    cs : List Cell
    cs = feed (after w.setting w.point)

    go : (p : Piece) → is_escaped p ≡ false → EnclosedMeans b p →
        in_literal true (c ∷ cs) h ≡ in_literal false (c ∷ cs) h
    go Opens e means = cc
    go Closes e means = cc
    go Escapes e means = cc
    go Other e means = literal-escaped c cs h means.3 ∙ sym (literal-other c cs h means)
    go Stops e means = literal-ends true c cs h means ∙ sym (literal-ends false c cs h means)

-- Where no `>` is the text begins.

-- what was found has a byte, or is no text
abbrev HasByte : Enclosed → Type 0
HasByte (Closed [] rest) = ⊥
HasByte (Closed (b ∷ text) rest) = ⊤
HasByte Open = ⊤
HasByte Broken = ⊤

-- after one more it has one
with-byte : (b : ℕ) (x : Enclosed) → HasByte (with_byte b x)
with-byte b (Closed text rest) = tt
with-byte b Open = tt
with-byte b Broken = tt

-- so it is where no `>` is
has-byte : (feed : Feed) (w : World) (o : Option ℕ) → is_current greater_than o ≡ false →
    HasByte (enclosed less_than greater_than false (line_bytes (ahead feed w o)))
unfolding enclosed
has-byte feed w None e = tt
has-byte feed w (Some b) e = go (nat_eq b 10) (nat_eq b 60) refl refl
  where
    go : (x y : Bool) → nat_eq b 10 ≡ x → nat_eq b 60 ≡ y →
        HasByte (enclosed less_than greater_than false (line_bytes (ahead feed w (Some b))))
    go true y i j = rw i tt
    go false true i j = rw (i, e, j) tt
    go false false i j =
        rw (i, e, j)
        (with-byte b (enclosed less_than greater_than (nat_eq b 92) (line_bytes (feed (after w.setting w.point)))))

-- with a byte the text has a begin
part-begins : (cells : List Cell) (h : Here) (x : Enclosed) → HasByte x →
    literal_by text_part cells h x ≡ literal_by ended cells (record h { events = h.events ++ text_begin h.point }) x
part-begins cells h (Closed [] rest) has = absurd has
part-begins cells h (Closed (b ∷ text) rest) has = simp append_assoc
part-begins cells h Open has = refl
part-begins cells h Broken has = refl

-- after that the rule of the text says the same
pub before-text : (feed : Feed) (w : World) (h : Here) (o : Option ℕ) → is_current greater_than o ≡ false →
    before_literal (ahead feed w o) h ≡
    in_literal false (ahead feed w o) (record h { events = h.events ++ text_begin h.point })
unfolding before_literal in_literal
before-text feed w h o e = part-begins (ahead feed w o) h _ (has-byte feed w o e)

-- Without angle brackets.

-- no such byte ends a line
pub raw-no_ending : (b : ℕ) → is_raw_byte b ≡ true → nat_eq b 10 ≡ false
raw-no_ending b e = grind (arith, nat_tests)

-- the text continues with such a byte, and ends before another
pub raw-cons : (c : Cell) (cs : List Cell) → is_raw_byte c.byte ≡ true →
    take_while is_raw_byte (line_bytes (c ∷ cs)) ≡ c.byte ∷ take_while is_raw_byte (line_bytes cs)
raw-cons c cs e =
    rw (raw-no_ending c.byte e) (take_while-cons is_raw_byte c.byte (line_bytes cs) ∙ rw e refl)

-- which is no part of it
pub raw-ends : (c : Cell) (cs : List Cell) → is_raw_byte c.byte ≡ false →
    take_while is_raw_byte (line_bytes (c ∷ cs)) ≡ []
raw-ends c cs e = go (nat_eq c.byte 10) refl
  where
    go : (x : Bool) → nat_eq c.byte 10 ≡ x → take_while is_raw_byte (line_bytes (c ∷ cs)) ≡ []
    go true k = rw k refl
    go false k = rw k (take_while-cons is_raw_byte c.byte (line_bytes cs) ∙ rw e refl)

-- after a byte of the text, so many parentheses are open
pub raw-more : (escaped next : Bool) (size : ℕ) (c : Cell) (cs : List Cell) (h : Here) → is_raw_byte c.byte ≡ true →
    ((bytes : List ℕ) → balanced h.scratch.size escaped (c.byte ∷ bytes) ≡ balanced size next bytes) →
    in_raw escaped (c ∷ cs) h ≡
    in_raw next cs (record h { point = c.after; scratch = with_size size h.scratch })
unfolding in_raw
raw-more escaped next size c cs h raw same =
    rw (raw-cons c cs raw, same (take_while is_raw_byte (line_bytes cs))) refl

-- A parenthesis opens,
pub raw-opens : (c : Cell) (cs : List Cell) (h : Here) → nat_eq c.byte 40 ≡ true →
    in_raw false (c ∷ cs) h ≡
    in_raw false cs (record h { point = c.after; scratch = with_size (h.scratch.size + 1) h.scratch })
unfolding balanced
raw-opens c cs h e =
    raw-more false false (h.scratch.size + 1) c cs h (rw (eqb-true c.byte 40 e) refl)
    (λ bytes. rw (eqb-true c.byte 40 e) refl)

-- one closes that is open,
pub raw-closes : (c : Cell) (cs : List Cell) (h : Here) → nat_eq c.byte 41 ≡ true → nat_lt 0 h.scratch.size ≡ true →
    in_raw false (c ∷ cs) h ≡
    in_raw false cs (record h { point = c.after; scratch = with_size (h.scratch.size - 1) h.scratch })
unfolding balanced
raw-closes c cs h e lt =
    let some : nat_eq h.scratch.size 0 ≡ false = grind (arith, nat_tests) in
    raw-more false false (h.scratch.size - 1) c cs h (rw (eqb-true c.byte 41 e) refl)
    (λ bytes. rw (eqb-true c.byte 41 e, some) refl)

-- or none is open,
pub raw-refuses : (c : Cell) (cs : List Cell) (h : Here) → nat_eq c.byte 41 ≡ true → h.scratch.size ≡ 0 →
    in_raw false (c ∷ cs) h ≡ Refuses (without_size h.scratch) h.flags
unfolding in_raw balanced
raw-refuses c cs h e none = rw (raw-cons c cs (rw (eqb-true c.byte 41 e) refl), eqb-true c.byte 41 e, none) refl

-- a backslash is,
pub raw-backslash : (c : Cell) (cs : List Cell) (h : Here) → nat_eq c.byte 92 ≡ true →
    in_raw false (c ∷ cs) h ≡ in_raw true cs (record h { point = c.after })
unfolding balanced
raw-backslash c cs h e =
    raw-more false true h.scratch.size c cs h (rw (eqb-true c.byte 92 e) refl)
    (λ bytes. rw (eqb-true c.byte 92 e) refl)

-- and another byte of the text.
pub raw-other : (c : Cell) (cs : List Cell) (h : Here) → RawMeans c.byte Other →
    in_raw false (c ∷ cs) h ≡ in_raw false cs (record h { point = c.after })
unfolding balanced
raw-other c cs h (x, y, z, raw) =
    raw-more false false h.scratch.size c cs h raw (λ bytes. rw (y, x, z) refl)

-- a byte that a backslash takes
pub raw-escaped : (c : Cell) (cs : List Cell) (h : Here) → is_raw_byte c.byte ≡ true →
    in_raw true (c ∷ cs) h ≡ in_raw false cs (record h { point = c.after })
unfolding balanced
raw-escaped c cs h raw = raw-more true false h.scratch.size c cs h raw (λ bytes. refl)

-- Where the text ends,
pub raw-stops : (feed : Feed) (w : World) (o : Option ℕ) → raw_piece o ≡ Stops →
    take_while is_raw_byte (line_bytes (ahead feed w o)) ≡ []
raw-stops feed w None e = refl
raw-stops feed w (Some b) e = raw-ends (cell_here feed w b) (feed (after w.setting w.point)) (raw-is b Stops e)

-- all parentheses are closed,
pub raw-done : (cells : List Cell) (h : Here) → take_while is_raw_byte (line_bytes cells) ≡ [] →
    h.scratch.size ≡ 0 →
    in_raw false cells h ≡
    Accepts (record h { events = h.events ++ raw_end h.point; scratch = without_size h.scratch }) cells
unfolding in_raw balanced
raw-done cells h e none = rw (e, none) refl

-- or not,
pub raw-left : (cells : List Cell) (h : Here) → take_while is_raw_byte (line_bytes cells) ≡ [] →
    nat_lt 0 h.scratch.size ≡ true → in_raw false cells h ≡ Refuses (without_size h.scratch) h.flags
unfolding in_raw balanced
raw-left cells h e lt =
    let some : nat_eq h.scratch.size 0 ≡ false = grind (arith, nat_tests) in rw (e, some) refl

-- also after a backslash.
raw-ended : (cells : List Cell) (h : Here) → take_while is_raw_byte (line_bytes cells) ≡ [] →
    in_raw true cells h ≡ in_raw false cells h
unfolding in_raw balanced
raw-ended cells h e = rw e refl

-- A backslash takes nothing else.
pub raw-bare : (feed : Feed) (w : World) (h : Here) (o : Option ℕ) → is_escaped (raw_piece o) ≡ false →
    in_raw true (ahead feed w o) h ≡ in_raw false (ahead feed w o) h
raw-bare feed w h None e = raw-ended [] h refl
raw-bare feed w h (Some b) e = go (raw_piece (Some b)) e (raw-means b)
  where
    c : Cell
    c = cell_here feed w b

    cs : List Cell
    cs = feed (after w.setting w.point)

    go : (p : Piece) → is_escaped p ≡ false → RawMeans b p → in_raw true (c ∷ cs) h ≡ in_raw false (c ∷ cs) h
    go Opens e means = cc
    go Closes e means = cc
    go Escapes e means = cc
    go Other e means = raw-escaped c cs h means.3 ∙ sym (raw-other c cs h means)
    go Stops e means = raw-ended (c ∷ cs) h (raw-ends c cs means)

-- Where a destination begins.

-- what may begin one
abbrev pub BeginMeans : ℕ → Begin → Type 0
BeginMeans b Literal = nat_eq b 60 ≡ true
BeginMeans b Raw = (nat_eq b 60 ≡ false) × (is_raw_byte b ≡ true)
BeginMeans b Neither = (nat_eq b 60 ≡ false) × (is_raw_byte b ≡ false)

-- each byte is what may begin means,
begin-means : (b : ℕ) → BeginMeans b (begins (Some b))
begin-means b = go (nat_eq b 60) (is_raw_byte b) refl refl
  where
    go : (x y : Bool) → nat_eq b 60 ≡ x → is_raw_byte b ≡ y → BeginMeans b (cond x Literal (cond y Raw Neither))
    go true y i j = i
    go false true i j = (i, j)
    go false false i j = (i, j)

-- so also where that is known
pub begin-is : (b : ℕ) (g : Begin) → begins (Some b) ≡ g → BeginMeans b g
begin-is b g e = subst (BeginMeans b) e (begin-means b)

-- an angle bracket begins it,
pub begins-literal : (c : Cell) (cs : List Cell) (h : Here) → BeginMeans c.byte Literal →
    destination_at (c ∷ cs) h ≡
    before_literal cs (record h { events = h.events ++ literal_begin h.point c.after; point = c.after })
unfolding destination_at
begins-literal c cs h e = rw e refl

-- or its text,
pub begins-raw : (c : Cell) (cs : List Cell) (h : Here) → BeginMeans c.byte Raw →
    destination_at (c ∷ cs) h ≡ in_raw false (c ∷ cs) (record h { events = h.events ++ raw_begin h.point })
unfolding destination_at
begins-raw c cs h (e, raw) = rw (e, raw) refl

-- and nothing else does.
pub begins-neither : (c : Cell) (cs : List Cell) (h : Here) → BeginMeans c.byte Neither →
    destination_at (c ∷ cs) h ≡ Refuses h.scratch h.flags
unfolding destination_at
begins-neither c cs h (e, raw) = rw (e, raw) refl

-- as where nothing is
pub begins-none : (h : Here) → destination_at [] h ≡ Refuses h.scratch h.flags
unfolding destination_at
begins-none h = refl
