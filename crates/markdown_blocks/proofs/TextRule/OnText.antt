-- At each point of a text that may be read to its end, the rest of a line is next.
use Rattle.std.proofs.Common.{◌≡◌, ℕ, suc, ◌+◌, ◌-◌, ◌^◌, ◌<◌, ◌≤◌, Bool, true, false, cond, List, [], ◌∷◌, ◌++◌}
use Rattle.std.proofs.Common.{length, drop, refl, sym, ap, ◌∙◌, subst, append_assoc, arith}
use Rattle.std.specs.Prelude.{◌==◌, ◌&&◌, ◌||◌, nat_lt, slice_index}
use Rattle.std.proofs.lemmas.Bool.{and_parts, eqb-true}
use Rattle.std.proofs.lemmas.Bool.Decides.{nat_tests}
use Rattle.std.proofs.lemmas.List.{length-drop}
use Rattle.md_engine.specs.declared.event.Point.{Point}
use Rattle.md_engine.specs.Meaning.{Cell}
use Rattle.md_engine.specs.Place.{IsPlaced, seen_at}
use Rattle.md_engine.specs.TextFeed.{text_feed}
use Rattle.md_engine.specs.World.{Setting, World}
use Rattle.md_engine.proofs.TextFeed.{text-follows}
use Rattle.md_events.proofs.FeedLines.{HasLine, Stops, columns_more, drop-past, feed-next, feed-none, front-within}
use Rattle.md_events.proofs.FeedLines.{line-feed, past-next, spread, tab-feed, tab_cells, tab_end}
use Rattle.md_events.proofs.InlineLemmas.{past-index}
use Rattle.md_events.proofs.PlacesLemmas.{Placed, at-next, placed-facts}
use Rattle.md_events.proofs.ReachedLemmas.{point-placed}
use Rattle.md_events.specs.Events.Places.{columns_before, past_text, within_tab}
use Rattle.md_events.specs.Exact.Places.{TextLine}
use Rattle.md_flow.specs.LineRule.{IsNext}
use Rattle.md_meaning.proofs.TextsLemmas.{NoEnding}
use Rattle.md_meaning.specs.Lines.{is_ending}
use Rattle.md_meaning.specs.Rest.{Rest, tab_columns}
use Rattle.md_meaning.specs.Texts.{first_byte}
use Rattle.markdown_blocks.specs.TextMet.{IsOnLine, LineMet}

-- Some bytes up to an ending.

abbrev Ends : List ℕ → Type 0
Ends [] = Unit {0}
Ends (b ∷ bs) = is_ending b ≡ true

record FirstLine (bytes : List ℕ) : Type 0 where
  line : List ℕ
  rest : List ℕ
  are : bytes ≡ line ++ rest
  plain : NoEnding line
  ends : Ends rest

first-line : (bytes : List ℕ) → FirstLine bytes
first-line [] = record { line = []; rest = []; are = refl; plain = tt; ends = tt }
first-line (b ∷ bs) = go (is_ending b) refl (first-line bs)
  where
    go : (t : Bool) → is_ending b ≡ t → FirstLine bs → FirstLine (b ∷ bs)
    go true e more = record { line = []; rest = b ∷ bs; are = refl; plain = tt; ends = e }
    go false e more = record {
      line = b ∷ more.line;
      rest = more.rest;
      are = ap (λ (l : List ℕ). b ∷ l) more.are;
      plain = (e, more.plain);
      ends = more.ends;
    }

-- What is fed there is the ending, or nothing.
ends-stop : (x : Setting) (p : Point) (rest : List ℕ) → x.limit < 2 ^ 61 → x.limit ≡ length x.bytes →
    drop p.index x.bytes ≡ rest → p.index ≤ length x.bytes → Ends rest → Stops (text_feed x p)
ends-stop x p [] small all is le ends =
    let none : length x.bytes - p.index ≡ 0 = sym (length-drop p.index x.bytes) ∙ ap length is in
    subst Stops (sym (feed-none x p small (omega (arith, none, le, all)))) tt
ends-stop x p (b ∷ bs) small all is le ends =
    let size : length x.bytes - p.index ≡ suc (length bs) = sym (length-drop p.index x.bytes) ∙ ap length is in
    let byte : seen_at x.bytes p ≡ 10 =
    ap
    (λ (c : ℕ).
    cond (is_ending c) 10 (cond ((c == 9) && nat_lt 0 p.vs) 32 c))
    (at-next p.index x.bytes b bs is)
    ∙ ap (λ (t : Bool). cond t 10 (cond ((b == 9) && nat_lt 0 p.vs) 32 b)) ends in
    subst Stops (sym (feed-next x p small (omega (arith, size, all)))) (ap (λ (c : ℕ). c == 10) byte)

-- A point at the begin of a byte.
at-byte : (x : Setting) (p : Point) → x.limit < 2 ^ 61 → x.limit ≡ length x.bytes → Placed x.bytes p → p.vs ≡ 0 →
    (line : TextLine) × (r : Rest) × (stop : List Cell) × IsNext x.bytes line r p (text_feed x p) stop
at-byte x p small all placed whole = (
  line,
  r,
  text_feed x (past_text f.line p),
  record {
    said = x.line;
    following = f.rest;
    within = record {
      valid = record { index = placed.index; text_is = f.are };
      plain = f.plain;
      begins = subst (Placed x.bytes) begin placed;
    };
    on = record {
      valid = record { column = back; cut = whole; text_is = f.are };
      placed = placed;
      onward = let le : p.index ≤ p.index = omega arith in le;
      number = refl;
    };
    plain = f.plain;
    are =
        line-feed x f.line f.rest p
        (record {
          small = small;
          text = f.are;
          no_ending = f.plain;
          within = omega (arith, within, all);
          whole = whole;
          column = omega (arith, column);
        });
    stops =
        ends-stop x (past_text f.line p) f.rest small all
        (ap (λ (i : ℕ). drop i x.bytes) index ∙ drop-past x.bytes p.index f.line f.rest f.are)
        (omega (arith, index, within)) f.ends;
    short = (text-follows x x.limit true small (omega arith) (λ e. refl)).short p;
  },
)
  where
    f : FirstLine (drop p.index x.bytes)
    f = first-line (drop p.index x.bytes)

    column : p.column ≡ columns_before x.bytes p.index + p.vs + 1
    column = placed.column

    within : p.index + length f.line + length f.rest ≡ length x.bytes
    within = front-within x.bytes p.index f.line f.rest f.are placed.index

    index : (past_text f.line p).index ≡ p.index + length f.line
    index = past-index f.line p

    line : TextLine
    line = record { number = p.line; index = p.index; column = p.column - 1; bytes = f.line; ending = [] }

    r : Rest
    r = record { column = p.column - 1; spaces = 0; bytes = f.line }

    back : p.column ≡ p.column - 1 + 1
    back = omega (arith, column)

    begin : p ≡ record { line = p.line; column = p.column - 1 + 1; index = p.index; vs = 0 }
    begin =
        ap (λ (c : ℕ). let q : Point = record { line = p.line; column = c; index = p.index; vs = p.vs } in q) back
        ∙ ap
        (λ (c : ℕ). let q : Point = record { line = p.line; column = p.column - 1 + 1; index = p.index; vs = c } in q)
        whole

-- A point within a tab.

-- a byte comes first
first-is : (bytes : List ℕ) → first_byte bytes ≡ 9 → (rest : List ℕ) × (bytes ≡ 9 ∷ rest)
first-is [] e = absurd (omega (arith, e))
first-is (b ∷ bs) e = (bs, ap (λ (c : ℕ). c ∷ bs) e)

seen-more : (bytes : List ℕ) (p : Point) → slice_index bytes p.index ≡ 9 → 0 < p.vs → seen_at bytes p ≡ 32
seen-more bytes p is lt = let more : nat_lt 0 p.vs ≡ true = grind (arith, nat_tests) in rw (is, more) refl

at-column : (x : Setting) (p : Point) → x.limit < 2 ^ 61 → x.limit ≡ length x.bytes → Placed x.bytes p → 0 < p.vs →
    (bytes : List ℕ) → drop p.index x.bytes ≡ 9 ∷ bytes →
    (line : TextLine) × (r : Rest) × (stop : List Cell) × IsNext x.bytes line r p (text_feed x p) stop
at-column x p small all placed lt bytes tab = (
  line,
  r,
  text_feed x (past_text f.line (tab_end (columns_more p) p)),
  record {
    said = x.line;
    following = f.rest;
    within = record {
      valid = record { index = placed.index; text_is = text_is };
      plain = (refl, f.plain);
      begins = record {
        index = placed.index;
        within = refl;
        line = placed.line;
        column = begin;
        apart = placed.apart;
      };
    };
    on = record {
      valid = record { column = back; cut = (lt, refl); text_is = text_is };
      placed = placed;
      onward = let le : p.index ≤ p.index = omega arith in le;
      number = refl;
    };
    plain = f.plain;
    are =
        tab-feed x (columns_more p) p small (omega (arith, within, all)) byte refl
        ∙ ap (λ (b : ℕ). tab_cells x.line (columns_more p) b p ++ text_feed x (tab_end (columns_more p) p))
        (seen-more x.bytes p byte lt)
        ∙ ap (λ (l : List Cell). tab_cells x.line (columns_more p) 32 p ++ l)
        (line-feed x f.line f.rest (tab_end (columns_more p) p) past)
        ∙ sym
        (append_assoc (tab_cells x.line (columns_more p) 32 p) (spread x.line f.line (tab_end (columns_more p) p))
        (text_feed x (past_text f.line (tab_end (columns_more p) p))));
    stops =
        ends-stop x (past_text f.line (tab_end (columns_more p) p)) f.rest small all
        (ap (λ (i : ℕ). drop i x.bytes) index ∙ drop-past x.bytes (p.index + 1) f.line f.rest after_tab)
        (omega (arith, index, within)) f.ends;
    short = (text-follows x x.limit true small (omega arith) (λ e. refl)).short p;
  },
)
  where
    f : FirstLine bytes
    f = first-line bytes

    column : p.column ≡ columns_before x.bytes p.index + p.vs + 1
    column = placed.column

    back : p.column ≡ p.column - 1 + 1
    back = omega (arith, column)

    begin : p.column - p.vs - 1 + 1 ≡ columns_before x.bytes p.index + 0 + 1
    begin = omega (arith, column)

    text_is : drop p.index x.bytes ≡ 9 ∷ (f.line ++ f.rest)
    text_is = tab ∙ ap (λ (l : List ℕ). 9 ∷ l) f.are

    byte : slice_index x.bytes p.index ≡ 9
    byte = at-next p.index x.bytes 9 bytes tab

    after_tab : drop (p.index + 1) x.bytes ≡ f.line ++ f.rest
    after_tab = past-next p.index x.bytes 9 (f.line ++ f.rest) text_is

    within : p.index + suc (length f.line) + length f.rest ≡ length x.bytes
    within = front-within x.bytes p.index (9 ∷ f.line) f.rest text_is placed.index

    index : (past_text f.line (tab_end (columns_more p) p)).index ≡ p.index + 1 + length f.line
    index = past-index f.line (tab_end (columns_more p) p)

    past : HasLine x f.line f.rest (tab_end (columns_more p) p)
    past = record {
      small = small;
      text = after_tab;
      no_ending = f.plain;
      within = omega (arith, within, all);
      whole = refl;
      column = omega arith;
    }

    line : TextLine
    line = record { number = p.line; index = p.index; column = p.column - p.vs - 1; bytes = 9 ∷ f.line; ending = [] }

    r : Rest
    r = record { column = p.column - 1; spaces = suc (columns_more p); bytes = f.line }

-- Any point.
pub line-met : (w : World) → IsPlaced w.setting.bytes w.point → LineMet w
unfolding LineMet
line-met w is all = go (nat_lt 0 w.point.vs) refl
  where
    x : Setting
    x = w.setting

    placed : Placed x.bytes w.point
    placed = placed-facts x.bytes w.point (point-placed x.bytes w.point is)

    small : x.limit < 2 ^ 61
    small = let size = is.sized in omega (arith, size, all)

    as_line : (line : TextLine) × (r : Rest) × (stop : List Cell)
        × IsNext x.bytes line r w.point (text_feed x w.point) stop →
        IsOnLine w
    as_line (line, r, stop, next) = record { line = line; rest = r; stop = stop; next = next }

    -- a tab is at a point within one
    tab : 0 < w.point.vs → within_tab x.bytes w.point ≡ true → first_byte (drop w.point.index x.bytes) ≡ 9
    tab lt within =
        let other : (w.point.vs == 0) ≡ false = grind (arith, nat_tests) in
        let both = and_parts (first_byte (drop w.point.index x.bytes) == 9)
        (nat_lt w.point.vs (tab_columns (columns_before x.bytes w.point.index)))
        (subst
        (λ (t : Bool).
        (t
        || ((first_byte (drop w.point.index x.bytes) == 9)
        && nat_lt w.point.vs (tab_columns (columns_before x.bytes w.point.index)))) ≡ true)
        other within) in
        eqb-true (first_byte (drop w.point.index x.bytes)) 9 both.0

    go : (t : Bool) → nat_lt 0 w.point.vs ≡ t → IsOnLine w
    go false e =
        let whole : w.point.vs ≡ 0 = grind (arith, nat_tests) in as_line (at-byte x w.point small all placed whole)
    go true e =
        let lt : 0 < w.point.vs = grind (arith, nat_tests) in
        let first = first-is (drop w.point.index x.bytes) (tab lt placed.within) in
        as_line (at-column x w.point small all placed lt first.0 first.1)
