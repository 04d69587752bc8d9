-- What a list item takes of a further line is what the definition of lines takes; and its padding.
use Rattle.std.proofs.Common.{◌≡◌, ℕ, zero, suc, ◌+◌, ◌<◌, ◌≤◌, Bool, true, false, cond, not, ◌&&◌, ◌||◌, List, []}
use Rattle.std.proofs.Common.{◌∷◌, ◌++◌, length, Option, Some, None, refl, sym, ap, ◌∙◌, subst, arith}
use Rattle.std.specs.Prelude.{◌==◌, nat_le}
use Rattle.std.proofs.lemmas.Bool.Decides.{nat_tests}
use Rattle.md_engine.specs.declared.event.Name.TheVariants as n
use Rattle.md_engine.specs.declared.event.Point.{Point}
use Rattle.md_engine.specs.declared.tokenizer.Line.{Line}
use Rattle.md_engine.specs.Meaning.{Cell}
use Rattle.md_containers.specs.ItemPrefix.{ItemPassed, Padded, item_further, item_indented, item_same, padding}
use Rattle.md_containers.specs.ItemPrefix.{padding_room}
use Rattle.md_containers.proofs.ItemFurther.{blank-white, size-white}
use Rattle.md_containers.proofs.QuoteLines.{white-walk, white_end-same}
use Rattle.md_events.proofs.LostColumns.{HasLost, White, lose-walk, white-none, zero-end}
use Rattle.md_events.proofs.RestLines.{blank-cells}
use Rattle.md_meaning.specs.Containers.{Taken, item_continues, item_padding}
use Rattle.md_meaning.specs.Rest.{Rest, after_indent, indent, is_blank, is_parted, is_white, lose}
use Rattle.md_meaning.specs.State.{InItem}
use Rattle.md_meaning.proofs.TextsLemmas.{NoEnding}
use Rattle.md_events.specs.Ahead.{begins_white, line_bytes, white_end, white_rest, white_size}
use Rattle.md_events.specs.Events.Inline.{pair_unless_empty}
use Rattle.md_events.specs.Events.Nested.{pair}
use Rattle.md_events.specs.Events.Places.{past_byte, same_place}
use Rattle.md_events.specs.Look.{first_seen}
use Rattle.md_events.specs.Spaces.{ends_line}
use Rattle.md_events.proofs.AheadLemmas.{none-end, none-rest}
use Rattle.md_events.proofs.FeedLines.{Stops, cell, columns_more, spread, tab_cells}
use Rattle.md_events.proofs.InlineLemmas.{same-refl}
use Rattle.md_events.proofs.RestCells.{RestAt, bare-cells, indent-over, indent-taken, lose-no_ending}
use Rattle.md_events.proofs.RestCells.{past_rest, rest_cells, white-length}

-- an item opens or continues by the cells of a line where it does by its bytes
abbrev pub ItemAgrees : (ItemPassed → Taken → Type 0) → Option ItemPassed → Option Taken → Type 0
ItemAgrees Has None None = Unit {0}
ItemAgrees Has (Some passed) (Some taken) = Has passed taken
ItemAgrees Has passed taken = ⊥

-- what it leaves of a line, by the cells of the line and by its bytes
pub record LeavesRest (line : Line) (text past : List ℕ) (end : Point) (stop cells : List Cell) (passed : ItemPassed)
    (taken : Taken) : Type 0 where
  pub container : passed.container ≡ taken.container
  pub fed : passed.cells ≡ rest_cells line taken.rest passed.point ++ stop
  pub valid : RestAt text past taken.rest passed.point
  pub ends : past_rest taken.rest passed.point ≡ end
  pub no_ending : NoEnding taken.rest.bytes
  pub shorter : length passed.cells ≤ length cells

-- of one that continues: an indent is before its content, which may be empty
pub record ContinuesFurther (line : Line) (text past : List ℕ) (p end : Point) (stop cells : List Cell)
    (passed : ItemPassed) (taken : Taken) : Type 0 where
  pub leaves : LeavesRest line text past end stop cells passed taken
  pub events : passed.events ≡ pair_unless_empty n.SpaceOrTab p passed.point
  pub white : White text p passed.point

-- Whitespace and its events.

pub apart-pair : (p q : Point) → same_place p q ≡ false → pair n.SpaceOrTab p q ≡ pair_unless_empty n.SpaceOrTab p q
apart-pair p q e = sym (ap (λ (t : Bool). cond t [] (pair n.SpaceOrTab p q)) e)

pub same-none : (p : Point) → pair_unless_empty n.SpaceOrTab p p ≡ []
same-none p = ap (λ (t : Bool). cond t [] (pair n.SpaceOrTab p p)) (same-refl p)

-- where the line ends here, nothing but its end is left
ended-dark : (cells : List Cell) → ends_line (first_seen cells) ≡ true → begins_white cells ≡ false
ended-dark [] e = refl
ended-dark (c ∷ cs) e = grind (arith, nat_tests)

ended-blank : (cells : List Cell) → ends_line (first_seen cells) ≡ true → is_blank (line_bytes cells) ≡ true
ended-blank [] e = refl
ended-blank (c ∷ cs) e = rw e refl

-- Further lines.

enough-same : (m size columns : ℕ) → size ≤ columns → (m ≤ columns → size ≡ m) → nat_le m size ≡ nat_le m columns
enough-same m size columns most all = go (nat_le m columns) refl
  where
    go : (x : Bool) → nat_le m columns ≡ x → nat_le m size ≡ x
    go true e =
        let le : m ≤ columns = grind (arith, nat_tests) in
        let same = all le in
        let is : m ≤ size = omega (arith, same) in grind (arith, nat_tests)
    go false e =
        let lt : columns < m = grind (arith, nat_tests) in
        let less : size < m = omega (arith, lt, most) in grind (arith, nat_tests)

pub further-agrees : (digits : List ℕ) (marker width : ℕ) (blank : Bool) → 1 ≤ width → (line : Line)
    (text past : List ℕ) (r : Rest) (stop : List Cell) (p : Point) →
    RestAt text past r p → NoEnding r.bytes → Stops stop →
    let cells = rest_cells line r p ++ stop in
    ItemAgrees (ContinuesFurther line text past p (past_rest r p) stop cells)
    (item_further digits marker width blank cells p) (item_continues digits marker width blank r)
unfolding item_continues
further-agrees digits marker width blank some line text past r stop p is h k =
    go (ends_line (first_seen cells)) (is_blank (line_bytes cells)) blank refl refl
  where
    cells : List Cell
    cells = rest_cells line r p ++ stop

    q : Point
    q = white_end width cells p

    lost : HasLost line text past width r p stop cells q
    lost = lose-walk line text past width r p stop is k

    left : Taken
    left = record { container = InItem digits marker width false; rest = lose width r }

    Proceeds : ItemPassed → Type 0
    Proceeds passed = ContinuesFurther line text past p (past_rest r p) stop cells passed left

    indented : begins_white cells ≡ true → Proceeds (item_indented digits marker width cells p)
    indented white = record {
      leaves = record {
        container = refl;
        fed = lost.left;
        valid = lost.valid;
        ends = lost.ends;
        no_ending = lose-no_ending width r h;
        shorter = white-length width cells;
      };
      events = apart-pair p q (lost.apart some white);
      white = lost.white;
    }

    same : begins_white cells ≡ false → Proceeds (item_same digits marker width cells p)
    same dark =
        let end : q ≡ p = none-end width cells p dark in
        record {
          leaves = record {
            container = refl;
            fed =
                sym (none-rest width cells dark) ∙ lost.left
                ∙ ap (λ (x : Point). rest_cells line (lose width r) x ++ stop) end;
            valid = subst (RestAt text past (lose width r)) end lost.valid;
            ends = ap (past_rest (lose width r)) (sym end) ∙ lost.ends;
            no_ending = lose-no_ending width r h;
            shorter = omega arith;
          };
          events = sym (same-none p);
          white = white-none text p;
        }

    Agrees : Option ItemPassed → Option Taken → Type 0
    Agrees o t = ItemAgrees (ContinuesFurther line text past p (past_rest r p) stop cells) o t

    -- by whether the bytes are blank
    bytes-blank : (y : Bool) → is_blank (line_bytes cells) ≡ y → is_blank r.bytes ≡ y
    bytes-blank y e = sym (blank-cells line r p stop h k) ∙ e

    Done : Option ItemPassed → Bool → Bool → Type 0
    Done o y b = Agrees o (cond (cond y (not b) (nat_le width (indent r))) (Some left) None)

    ended : (b : Bool) → begins_white cells ≡ false →
        Done (cond b None (Some (item_same digits marker width cells p))) true b
    ended true dark = tt
    ended false dark = same dark

    either : (x : Bool) → (x ≡ true → begins_white cells ≡ true) →
        Agrees (cond x (Some (item_indented digits marker width cells p)) None) (cond x (Some left) None)
    either true white = indented (white refl)
    either false white = tt

    go : (x y b : Bool) → ends_line (first_seen cells) ≡ x → is_blank (line_bytes cells) ≡ y →
        Agrees
        (cond x (cond b None (Some (item_same digits marker width cells p)))
        (cond (cond y (not b) (nat_le width (white_size width cells)))
        (Some (item_indented digits marker width cells p)) None))
        (cond (cond (is_blank r.bytes) (not b) (nat_le width (indent r))) (Some left) None)
    go true y b e f =
        subst (λ (t : Bool). Done (cond b None (Some (item_same digits marker width cells p))) t b)
        (sym (bytes-blank true (ended-blank cells e))) (ended b (ended-dark cells e))
    go false true b e f =
        subst
        (λ (t : Bool). Done (cond (not b) (Some (item_indented digits marker width cells p)) None) t b)
        (sym (bytes-blank true f)) (either (not b) (λ on. blank-white cells e f))
    go false false b e f =
        let size : nat_le width (white_size width cells) ≡
        nat_le width (indent r) = enough-same width (white_size width cells) (indent r) lost.most lost.all in
        subst
        (λ (t : Bool).
        Done (cond (nat_le width (white_size width cells)) (Some (item_indented digits marker width cells p)) None) t b)
        (sym (bytes-blank false f))
        (subst
        (λ (t : Bool).
        Agrees
        (cond (nat_le width (white_size width cells)) (Some (item_indented digits marker width cells p)) None)
        (cond t (Some left) None)) size
        (either (nat_le width (white_size width cells))
        (λ on.
        size-white width cells
        (let le : width ≤ white_size width cells = grind (arith, nat_tests) in omega (arith, le, some)))))

-- The padding.

-- so many columns of whitespace belong to an item, after its marker
pub record HasPadding (line : Line) (text past : List ℕ) (m : ℕ) (r : Rest) (p : Point) (stop cells : List Cell)
    (t : Padded) : Type 0 where
  pub blank : t.blank ≡ is_blank r.bytes
  pub fed : t.cells ≡ rest_cells line (lose m r) t.point ++ stop
  pub valid : RestAt text past (lose m r) t.point
  pub ends : past_rest (lose m r) t.point ≡ past_rest r p
  pub column : (lose m r).column ≡ r.column + m
  pub events : t.events ≡ pair_unless_empty n.SpaceOrTab p t.point
  pub white : White text p t.point
  pub point_is : t.point ≡ white_end m cells p
  pub shorter : length t.cells ≤ length cells

-- they do where the rest of the line is parted from the marker
abbrev pub PaddingIs : Line → (text past : List ℕ) → Rest → Point → (stop cells : List Cell) → Bool → Option Padded →
    Type 0
PaddingIs line text past r p stop cells true (Some t) =
    HasPadding line text past (item_padding r) r p stop cells t
PaddingIs line text past r p stop cells false None = Unit {0}
PaddingIs line text past r p stop cells parted o = ⊥

-- a blank rest is parted
blank-parted : (bytes : List ℕ) → is_blank bytes ≡ true → is_parted bytes ≡ true
blank-parted [] e = refl
blank-parted (b ∷ bs) e = go (is_white b) e
  where
    go : (x : Bool) → x && is_blank bs ≡ true → x ≡ true
    go true e = refl
    go false e = cc

-- one that is not is parted where whitespace comes first
parted-white : (line : Line) (bytes : List ℕ) (p : Point) (stop : List Cell) → is_blank bytes ≡ false →
    begins_white (spread line bytes p ++ stop) ≡ is_parted bytes
parted-white line [] p stop e = cc
parted-white line (b ∷ bs) p stop e = go (b == 9) refl
  where
    tab : (m : ℕ) (q : Point) (more : List Cell) → begins_white (tab_cells line m 9 q ++ more) ≡ true
    tab zero q more = refl
    tab (suc m) q more = refl

    tabbed : (m : ℕ) (q : Point) (more more' : List Cell) →
        begins_white ((tab_cells line m 9 q ++ more) ++ more') ≡ true
    tabbed zero q more more' = refl
    tabbed (suc m) q more more' = refl

    white : (t : Bool) → (t || true) ≡ true
    white true = refl
    white false = refl

    go : (t : Bool) → (b == 9) ≡ t →
        begins_white
        ((cond t (tab_cells line (columns_more p) 9 p) (cell b (past_byte b p) line ∷ [])
        ++ spread line bs (past_byte b p)) ++ stop) ≡
        is_white b
    go true f =
        let is : is_white b ≡ true = rw f (white (b == 32)) in
        tabbed (columns_more p) p (spread line bs (past_byte b p)) stop ∙ sym is
    go false f = refl

pub padding-is : (line : Line) (text past : List ℕ) (column : ℕ) (bytes : List ℕ) (p : Point) (stop : List Cell) →
    let r : Rest = record { column = column; spaces = 0; bytes = bytes } in
    let cells = rest_cells line r p ++ stop in
    RestAt text past r p → NoEnding bytes → Stops stop →
    PaddingIs line text past r p stop cells (is_parted bytes) (padding cells p)
padding-is line text past column bytes p stop is h k =
    go (is_blank bytes) (begins_white cells) refl refl
  where
    r : Rest
    r = record { column = column; spaces = 0; bytes = bytes }

    cells : List Cell
    cells = rest_cells line r p ++ stop

    Done : Bool → Option Padded → Type 0
    Done parted o = PaddingIs line text past r p stop cells parted o

    empty : Padded
    empty = record { events = []; cells = cells; point = p; blank = true }

    taken : ℕ → Padded
    taken room = record {
      events = pair n.SpaceOrTab p (white_end room cells p);
      cells = white_rest room cells;
      point = white_end room cells p;
      blank = false;
    }

    Has : ℕ → Padded → Type 0
    Has m t = HasPadding line text past m r p stop cells t

    -- none of a blank rest,
    none : is_blank bytes ≡ true → Has 0 empty
    none e = record {
      blank = sym e;
      fed = refl;
      valid = is;
      ends = refl;
      column = omega arith;
      events = sym (same-none p);
      white = white-none text p;
      point_is = sym (zero-end cells p);
      shorter = omega arith;
    }

    -- one column of more than four,
    one : is_blank bytes ≡ false → begins_white cells ≡ true → 5 ≤ indent r → Has 1 (taken 1)
    one e white many =
        let lost = lose-walk line text past 1 r p stop is k in
        let size = lost.all (omega (arith, many)) in
        record {
          blank = sym e;
          fed = lost.left;
          valid = lost.valid;
          ends = lost.ends;
          column = let c = lost.column in omega (arith, c, size);
          events = apart-pair p (white_end 1 cells p) (lost.apart (omega arith) white);
          white = lost.white;
          point_is = refl;
          shorter = white-length 1 cells;
        }

    -- and all of four at most
    all : is_blank bytes ≡ false → begins_white cells ≡ true → indent r ≤ 4 → Has (indent r) (taken 4)
    all e white few =
        let lost = lose-walk line text past (indent r) r p stop is k in
        let size = lost.all (omega arith) in
        let indented = indent-taken line text past 4 r p stop is k few in
        let walked = white-walk line text past (indent r) 4 r p stop is k refl few in
        record {
          blank = sym e;
          fed = indented.cells;
          valid = indented.valid;
          ends = indented.ends;
          column = let c = lost.column in omega (arith, c, size);
          events =
              sym (ap (λ (t : Bool). cond t (pair n.SpaceOrTab p (white_end 4 cells p)) []) white) ∙ walked.events;
          white = walked.white;
          point_is = white_end-same line text past (indent r) 4 r p stop is k refl few;
          shorter = white-length 4 cells;
        }

    -- how many columns belong to it
    of-blank : is_blank bytes ≡ true → 0 ≡ item_padding r
    of-blank e = sym (ap (λ (t : Bool). cond t 0 (cond (nat_le 5 (indent r)) 1 (indent r))) e)

    of-filled : (y : Bool) → is_blank bytes ≡ false → nat_le 5 (indent r) ≡ y → cond y 1 (indent r) ≡ item_padding r
    of-filled y e f =
        sym
        (ap (λ (t : Bool). cond t 0 (cond (nat_le 5 (indent r)) 1 (indent r))) e
        ∙ ap (λ (t : Bool). cond t 1 (indent r)) f)

    -- by what is known of the cells
    room-is : (y : Bool) → nat_le 5 (indent r) ≡ y → padding_room cells ≡ cond y 1 4
    room-is true f =
        let many : 4 < indent r = grind (arith, nat_tests) in
        ap (λ (t : Bool). cond t 1 4) (indent-over line text past 4 r p stop is many)
    room-is false f =
        let few : indent r ≤ 4 = grind (arith, nat_tests) in
        let indented = indent-taken line text past 4 r p stop is k few in
        ap (λ (t : Bool). cond t 1 4)
        (ap begins_white indented.cells
        ∙ bare-cells line (after_indent r) (white_end 4 cells p) stop indented.none k)

    parts : (b x : Bool) → is_blank bytes ≡ b → begins_white cells ≡ x →
        padding cells p ≡ cond b (Some empty) (cond x (Some (taken (padding_room cells))) None)
    parts b x e f =
        ap (λ (t : Bool). cond t (Some empty) (cond (begins_white cells) (Some (taken (padding_room cells))) None))
        (blank-cells line r p stop h k ∙ e)
        ∙ ap (λ (t : Bool). cond b (Some empty) (cond t (Some (taken (padding_room cells))) None)) f

    by-room : (y : Bool) → is_blank bytes ≡ false → begins_white cells ≡ true → nat_le 5 (indent r) ≡ y →
        Has (item_padding r) (taken (padding_room cells))
    by-room true e white f =
        subst (λ (m : ℕ). Has m (taken (padding_room cells))) (of-filled true e f)
        (subst (λ (room : ℕ). Has 1 (taken room)) (sym (room-is true f)) (one e white (grind (arith, nat_tests))))
    by-room false e white f =
        subst (λ (m : ℕ). Has m (taken (padding_room cells))) (of-filled false e f)
        (subst (λ (room : ℕ). Has (indent r) (taken room)) (sym (room-is false f))
        (all e white (grind (arith, nat_tests))))

    go : (b x : Bool) → is_blank bytes ≡ b → begins_white cells ≡ x → Done (is_parted bytes) (padding cells p)
    go true x e f =
        subst (λ (t : Bool). Done t (padding cells p)) (sym (blank-parted bytes e))
        (subst (Done true) (sym (parts true x e f)) (subst (λ (m : ℕ). Has m empty) (of-blank e) (none e)))
    go false true e f =
        subst (λ (t : Bool). Done t (padding cells p)) (sym f ∙ parted-white line bytes p stop e)
        (subst (Done true) (sym (parts false true e f)) (by-room (nat_le 5 (indent r)) e f refl))
    go false false e f =
        subst (λ (t : Bool). Done t (padding cells p)) (sym f ∙ parted-white line bytes p stop e)
        (subst (Done false) (sym (parts false false e f)) tt)
