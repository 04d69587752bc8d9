-- A paragraph over the cells of its lines is these lines, whose text is not read yet. Each ends after its ending, and
-- the next begins after the prefixes of its containers.
use Rattle.std.proofs.Common.{◌≡◌, inl, inr, ℕ, zero, suc, ◌+◌, ◌-◌, ◌^◌, ◌<◌, ◌≤◌, Bool, true, false, cond, List, []}
use Rattle.std.proofs.Common.{◌∷◌, ◌++◌, length, drop, refl, ap, sym, ◌∙◌, subst, append_assoc, append-nil, drop-drop}
use Rattle.std.proofs.Common.{length-append, length-drop, arith}
use Rattle.std.specs.Prelude.{◌==◌, ◌&&◌, Option, Some, nat_le, nat_lt, slice_get, slice_index}
use Rattle.std.proofs.lemmas.Bool.{eqb-true, or_parts}
use Rattle.std.proofs.lemmas.Bool.Decides.{nat_tests}
use Rattle.md_engine.specs.declared.configuration.ParseOptions.{ParseOptions}
use Rattle.md_engine.specs.declared.event.Event.{Event}
use Rattle.md_engine.specs.declared.event.Name.TheVariants as n
use Rattle.md_engine.specs.declared.event.Point.{Point}
use Rattle.md_engine.specs.declared.tokenizer.Line.{Line}
use Rattle.md_engine.specs.Meaning.{Cell}
use Rattle.md_engine.specs.Place.{begun_at, is_ending, next_point, seen_at}
use Rattle.md_engine.specs.TextFeed.{text_feed}
use Rattle.md_engine.specs.World.{Setting, World, after, fresh, line_begun, skipping}
use Rattle.md_content.specs.ContentReads.{end_of, first_of, part_world, skipping_all}
use Rattle.md_content.specs.Paragraph.{text_link}
use Rattle.md_content.specs.ParagraphRule.{line_events, paragraph_over}
use Rattle.md_content.proofs.ContentReadsLemmas.{skipping-same}
use Rattle.md_events.specs.declared.inline.Chunk.{Chunk}
use Rattle.md_events.specs.Ahead.{point_after}
use Rattle.md_events.specs.Events.Places.{past_byte, past_text}
use Rattle.md_events.specs.Events.Nested.{around, enter, enter_link, exit}
use Rattle.md_events.proofs.FeedLines.{HasEnding, begun-none, cell, columns_more, ending-feed, ending-some, feed-next}
use Rattle.md_events.proofs.FeedLines.{feed-none, next_column, past-next, past_ending, point_after-append, tab-end}
use Rattle.md_events.proofs.FeedLines.{tab-feed, tab_cells, tab_end, tab_end-last, tab_end-next, tab_end-stop}
use Rattle.md_events.proofs.PlacesLemmas.{at-next}
use Rattle.md_meaning.proofs.TextsLemmas.{Ending, EndsBefore, NoEnding, ending_bytes}
use Rattle.proof_frame.specs.Laid.{LineBreak, laid}
use Rattle.proof_frame.specs.Row.{Row, TextRow, after_row, breaks_of, chunks_of, last_row}
use Rattle.proof_rows.specs.Rows.{lines_cells}
use Rattle.proof_frame.specs.Linked.{linked}
use Rattle.proof_content_laws.proofs.Defined.Placed.{bared}
use Rattle.proof_content_laws.proofs.Defined.Takes.{EndIn}
use Rattle.proof_frame.proofs.FrontPlaces.{fronts-grow, fronts-line}
use Rattle.proof_rows.proofs.GroupLines.{AreLines, first-text}
use Rattle.proof_rows.proofs.GroupLemmas.{are-apart, line-grows, row-line, text-some}
use Rattle.proof_frame.proofs.LineTexts.{past_text-line, piece}
use Rattle.proof_rows.proofs.RowFacts.{IsRow}

-- Where the lines are.

-- a line lies within the text
pub row-within : (options : ParseOptions) (bytes line : List ℕ) (row : Row) → IsRow options bytes line row →
    row.kind ≡ TextRow → row.end.index ≤ length bytes
row-within options bytes line row is text =
    let some = text-some options bytes line row is text in
    let size : length (drop row.first.index bytes) ≡
    length line + length (drop row.end.index bytes) = ap length (row-line options bytes line row is)
    ∙ length-append line (drop row.end.index bytes) in
    let left = length-drop row.first.index bytes in
    let more = length-drop row.end.index bytes in
    omega (arith, is.size)

-- the first line ends where the last does, or before
pub ends-grow : (options : ParseOptions) (bytes : List ℕ) (row : Row) (rows : List Row) →
    AreLines options bytes row rows →
    row.end.index ≤ (last_row row rows).end.index
ends-grow options bytes row [] h = omega arith
ends-grow options bytes row (next ∷ rows) h =
    let more = ends-grow options bytes next rows h.7 in
    let line = (first-text options bytes next rows h.7).1 in
    let front = fronts-grow bytes [] h.3 next.first next.front h.6 in
    omega (arith, h.5.size, line.size)

pub last-within : (options : ParseOptions) (bytes : List ℕ) (row : Row) (rows : List Row) →
    AreLines options bytes row rows → (last_row row rows).end.index ≤ length bytes
last-within options bytes row [] h = row-within options bytes h.0 row h.1 h.2
last-within options bytes row (next ∷ rows) h = last-within options bytes next rows h.7

-- What is fed of them.

-- what is read of two points of a text is the same
record SameRest (x : Setting) (p q : Point) : Type 0 where
  lines : line_events (text_feed x p) p ≡ line_events (text_feed x q) q
  end : point_after (text_feed x p) p ≡ point_after (text_feed x q) q

same-then : (x : Setting) (p q r : Point) → SameRest x p q → SameRest x q r → SameRest x p r
same-then x p q r h k = record { lines = h.lines ∙ k.lines; end = h.end ∙ k.end }

-- in the columns of a tab are no events
tab-events : (line : Line) (n byte : ℕ) (p q : Point) (cells : List Cell) → (byte == 10) ≡ false →
    line_events (tab_cells line n byte p ++ cells) q ≡ line_events cells (tab_end n p)
tab-events line zero byte p q cells e = rw e (ap (line_events cells) (tab_end-last p))
tab-events line (suc n) byte p q cells e =
    rw e (tab-events line n 32 (next_column p) (next_column p) cells refl ∙ ap (line_events cells) (tab_end-next n p))

-- so it is of a byte of a line, also of a tab from any of its columns on
byte-read : (x : Setting) (b : ℕ) (p : Point) → x.limit < 2 ^ 61 → p.index < x.limit → slice_index x.bytes p.index ≡ b →
    is_ending b ≡ false → 1 ≤ p.column → SameRest x p (past_byte b p)
byte-read x b p small lt is e one = go (b == 9) refl
  where
    go : (t : Bool) → (b == 9) ≡ t → SameRest x p (past_byte b p)
    go true k =
        let tab : b ≡ 9 = eqb-true b 9 k in
        let byte = seen_at x.bytes p in
        let columns = columns_more p in
        let cells = text_feed x (tab_end columns p) in
        let seen : (byte == 10) ≡ false = rw (is ∙ tab) (white (nat_lt 0 p.vs)) in
        let feed : text_feed x p ≡
        tab_cells x.line columns byte p ++ cells = tab-feed x columns p small lt (is ∙ tab) refl in
        let same : SameRest x p (tab_end columns p) = record {
          lines = ap (λ (l : List Cell). line_events l p) feed ∙ tab-events x.line columns byte p p cells seen;
          end =
              ap (λ (l : List Cell). point_after l p) feed
              ∙ point_after-append (tab_cells x.line columns byte p) cells p
              ∙ ap (point_after cells) (tab-end x.line columns byte p p);
        } in
        subst (λ (c : ℕ). SameRest x p (past_byte c p)) (sym tab) (subst (SameRest x p) (tab_end-stop p one) same)
      where
        white : (t : Bool) → (cond t 32 9 == 10) ≡ false
        white true = refl
        white false = refl
    go false k =
        let column : p.column + 1 ≡ p.column - 1 + 1 + 1 = omega arith in
        let step : after x p ≡
        past_byte b p = rw (is, e, k)
        (ap
        (λ (c : ℕ). let q : Point = record { line = p.line; column = c; index = p.index + 1; vs = 0 } in q) column)
        in
        let seen : seen_at x.bytes p ≡ b = rw (is, e, k) refl in
        let feed : text_feed x p ≡ cell b (past_byte b p) x.line ∷ text_feed x (past_byte b p) =
        feed-next x p small lt
        ∙ ap (λ (q : Point). cell (seen_at x.bytes p) q x.line ∷ text_feed x q) step
        ∙ ap (λ (c : ℕ). cell c (past_byte b p) x.line ∷ text_feed x (past_byte b p)) seen in
        let other : (b == 10) ≡ false = (or_parts (b == 10) (b == 13) e).0 in
        record {
          lines = ap (λ (l : List Cell). line_events l p) feed ∙ rw other refl;
          end = ap (λ (l : List Cell). point_after l p) feed;
        }

-- and of a line, which may begin within a tab
text-read : (x : Setting) (line rest : List ℕ) (p : Point) → x.limit < 2 ^ 61 → drop p.index x.bytes ≡ line ++ rest →
    NoEnding line → p.index + length line ≤ x.limit → 1 ≤ p.column → SameRest x p (past_text line p)
text-read x [] rest p small text none le one = record { lines = refl; end = refl }
text-read x (b ∷ bs) rest p small text none le one =
    let within : p.index + suc (length bs) ≤ x.limit = le in
    same-then x p (past_byte b p) (past_text bs (past_byte b p))
    (byte-read x b p small (omega arith) (at-next p.index x.bytes b (bs ++ rest) text) none.0 one)
    (text-read x bs rest (past_byte b p) small (past-next p.index x.bytes b (bs ++ rest) text) none.1 (omega arith)
    (omega arith))

line-read : (options : ParseOptions) (bytes line : List ℕ) (x : Setting) (row : Row) → IsRow options bytes line row →
    x.limit < 2 ^ 61 → x.bytes ≡ bytes → row.end.index ≤ x.limit → SameRest x row.first row.end
line-read options bytes line x row is small same within =
    subst (SameRest x row.first) (sym is.end)
    (text-read x line (drop row.end.index bytes) row.first small
    (ap (drop row.first.index) same ∙ row-line options bytes line row is) is.no_ending
    (omega (arith, is.size)) is.first_column)

-- an ending is fed as one line feed, which leads to where the next line begins
pub ending-leads : (x : Setting) (ending : Ending) (rest : List ℕ) (p q : Point) → x.limit < 2 ^ 61 →
    drop p.index x.bytes ≡ ending_bytes ending ++ rest → EndsBefore ending rest → p.index < x.limit →
    line_begun x (past_ending ending p) ≡ q →
    text_feed x p ≡ cell 10 q x.line ∷ text_feed x q
ending-leads x ending rest p q small text before lt begun =
    let y : Setting = record x { skips = [] } in
    let has : HasEnding y ending rest p = record {
      small = small;
      text = text;
      before = before;
      within = lt;
      begun = begun-none y (past_ending ending p) refl;
    } in
    let one : ◌≡◌ {A = List Cell} (cell (seen_at x.bytes p) (after y p) x.line ∷ text_feed y (after y p))
    (cell 10 (past_ending ending p) x.line ∷ text_feed y (past_ending ending p)) =
    sym (feed-next y p small lt) ∙ ending-feed y ending rest p has in
    let first : ◌≡◌ {A = Cell} (cell (seen_at x.bytes p) (after y p) x.line)
    (cell 10 (past_ending ending p) x.line) = cc in
    let seen : seen_at x.bytes p ≡ 10 = ap (λ (c : Cell). c.byte) first in
    let step : after y p ≡ past_ending ending p = ap (λ (c : Cell). c.after) first in
    let valid : is_ending (slice_index x.bytes p.index) ≡
    true = seen-ends (slice_index x.bytes p.index) (nat_lt 0 p.vs) seen in
    let next : next_point x.bytes p ≡ past_ending ending p =
    sym (begun-none y (next_point x.bytes p) refl)
    ∙ sym (ap (λ (t : Bool). cond t (line_begun y (next_point x.bytes p)) (next_point x.bytes p)) valid)
    ∙ step in
    feed-next x p small lt
    ∙ ap (λ (b : ℕ). cell b (after x p) x.line ∷ text_feed x (after x p)) seen
    ∙ ap (λ (r : Point). cell 10 r x.line ∷ text_feed x r)
    (ap (λ (t : Bool). cond t (line_begun x (next_point x.bytes p)) (next_point x.bytes p)) valid
    ∙ ap (line_begun x) next ∙ begun)
  where
    seen-ends : (b : ℕ) (cut : Bool) → cond (is_ending b) 10 (cond ((b == 9) && cut) 32 b) ≡ 10 → is_ending b ≡ true
    seen-ends b cut h = go (is_ending b) ((b == 9) && cut) refl refl
      where
        go : (t s : Bool) → is_ending b ≡ t → ((b == 9) && cut) ≡ s → is_ending b ≡ true
        go true s e f = e
        go false true e f = let no : false ≡ true = ap (λ (c : ℕ). c == 10) (rw (e, f) at h) in cc
        go false false e f = let ten : b ≡ 10 = rw (e, f) at h in ap is_ending ten

-- where lines begin
abbrev pub firsts : List Row → List Point
firsts [] = []
firsts (row ∷ rows) = row.first ∷ firsts rows

-- lines are read as far as the last of them, and each begins where it is
pub record AreRead (x : Setting) (bytes : List ℕ) (k : ℕ) (row : Row) (rows : List Row) : Type 0 where
  pub small : x.limit < 2 ^ 61
  pub bytes_are : x.bytes ≡ bytes
  pub limit : x.limit ≡ (last_row row rows).end.index
  pub skips : drop k x.skips ≡ row.first ∷ firsts rows
  pub line : row.first.line ≡ x.first_line + k

pub get-at : (k : ℕ) (l : List Point) (p : Point) (rest : List Point) → drop k l ≡ p ∷ rest → slice_get l k ≡ Some p
get-at zero [] p rest e = cc
get-at zero (q ∷ l) p rest e = cc
get-at (suc k) [] p rest e = cc
get-at (suc k) (q ∷ l) p rest e = get-at k l p rest e

pub drop-next : (k : ℕ) (l : List Point) (p : Point) (rest : List Point) → drop k l ≡ p ∷ rest → drop (k + 1) l ≡ rest
drop-next k l p rest e = sym (drop-drop 1 k l) ∙ ap (drop 1) e

-- the next line is the one after it
pub next-line : (options : ParseOptions) (bytes : List ℕ) (row next : Row) (rows : List Row) →
    AreLines options bytes row (next ∷ rows) → next.first.line ≡ row.first.line + 1
next-line options bytes row next rows h =
    let front = fronts-line bytes [] h.3 next.first next.front h.6 in
    let end = ap (λ (p : Point). p.line) h.1.end ∙ past_text-line h.0 row.first in
    omega (arith, h.5.line)

-- after the ending of a line the next one begins, after the prefixes before it
pub begun-next : (x : Setting) (p s : Point) → slice_get x.skips (s.line - x.first_line) ≡ Some s → p.line ≡ s.line →
    p.index ≤ s.index → line_begun x p ≡ s
begun-next x p s at line le =
    let some : slice_get x.skips (p.line - x.first_line) ≡
    Some s = ap (λ (l : ℕ). slice_get x.skips (l - x.first_line)) line
    ∙ at in
    let further : nat_le p.index s.index ≡ true = grind (arith, nat_tests) in
    ap (λ (o : Option Point). begun_at o p) some ∙ ap (λ (t : Bool). cond t s p) further

-- what is read of lines, and of more after them
pub record LinesRead (x : Setting) (row : Row) (rows : List Row) (es following : List Event) : Type 0 where
  -- each line is one part, which ends where its chunk does
  pub laid_are : laid (bared (breaks_of row rows)) es ≡ linked n.Data text_link (chunks_of row rows) ++ following
  pub end : point_after (text_feed x row.first) row.first ≡ (last_row row rows).end
  pub ends : EndIn (last_row row rows).end es

-- the events of the text of lines
abbrev text_events : Setting → Point → List Event → List Event
text_events x p following = enter_link n.Data p text_link ∷ line_events (text_feed x p) p ++ following

-- an ending leads to the next line
pub record Leads (x : Setting) (bytes : List ℕ) (k : ℕ) (row next : Row) (rows : List Row) : Type 0 where
  pub feed : text_feed x row.end ≡ cell 10 next.first x.line ∷ text_feed x next.first
  pub within : row.end.index < x.limit
  pub below : AreRead x bytes (k + 1) next rows

pub leads : (options : ParseOptions) (bytes : List ℕ) (x : Setting) (k : ℕ) (row next : Row) (rows : List Row) →
    AreLines options bytes row (next ∷ rows) → AreRead x bytes k row (next ∷ rows) → Leads x bytes k row next rows
leads options bytes x k row next rows h r =
    let grow = ends-grow options bytes next rows h.7 in
    let line = (first-text options bytes next rows h.7).1 in
    let front = fronts-grow bytes [] h.3 next.first next.front h.6 in
    let same = fronts-line bytes [] h.3 next.first next.front h.6 in
    let some = ending-some h.5.ending in
    let number = next-line options bytes row next rows h in
    let within : row.end.index < x.limit = omega (arith, r.limit, h.5.size, line.size) in
    let skips : drop (k + 1) x.skips ≡
    next.first ∷ firsts rows = drop-next k x.skips row.first (next.first ∷ firsts rows) r.skips in
    let at : slice_get x.skips (next.first.line - x.first_line) ≡
    Some next.first = ap (slice_get x.skips) (omega (arith, r.line))
    ∙ get-at (k + 1) x.skips next.first (firsts rows) skips in
    let text : drop row.end.index x.bytes ≡ ending_bytes h.5.ending ++ drop h.3.index bytes =
    ap (drop row.end.index) r.bytes_are ∙ piece bytes row.end.index h.3.index (omega (arith, h.5.size))
    ∙ ap (λ (l : List ℕ). l ++ drop h.3.index bytes) h.5.text in
    let begun : line_begun x (past_ending h.5.ending row.end) ≡
    next.first = begun-next x (past_ending h.5.ending row.end) next.first at (omega (arith, h.5.line))
    (omega (arith, h.5.size)) in
    record {
      feed = ending-leads x h.5.ending (drop h.3.index bytes) row.end next.first r.small text h.5.before within begun;
      within = within;
      below = record {
        small = r.small;
        bytes_are = r.bytes_are;
        limit = r.limit;
        skips = skips;
        line = omega (arith, r.line);
      };
    }

lines-read : (options : ParseOptions) (bytes : List ℕ) (x : Setting) (k : ℕ) (row : Row) (rows : List Row)
    (following : List Event) →
    AreLines options bytes row rows → AreRead x bytes k row rows → EndIn (last_row row rows).end following →
    LinesRead x row rows (text_events x row.first following) following
lines-read options bytes x k row [] following h r ends =
    let read = line-read options bytes h.0 x row h.1 r.small r.bytes_are (omega (arith, r.limit)) in
    let none : text_feed x row.end ≡ [] = feed-none x row.end r.small (omega (arith, r.limit)) in
    let are : line_events (text_feed x row.first) row.first ≡ exit n.Data row.end ∷ [] =
    read.lines ∙ ap (λ (l : List Cell). line_events l row.end) none in
    record {
      laid_are = ap (λ (l : List Event). enter_link n.Data row.first text_link ∷ l ++ following) are;
      end = read.end ∙ ap (λ (l : List Cell). point_after l row.end) none;
      ends =
          subst (λ (l : List Event). EndIn row.end (enter_link n.Data row.first text_link ∷ l ++ following)) (sym are)
          (λ no. cc, (λ yes. inl refl, ends));
    }
lines-read options bytes x k row (next ∷ rows) following h r ends =
    let grow = ends-grow options bytes next rows h.7 in
    let line = (first-text options bytes next rows h.7).1 in
    let on : Leads x bytes k row next rows = leads options bytes x k row next rows h r in
    let feed = on.feed in
    let read = line-read options bytes h.0 x row h.1 r.small r.bytes_are
    (let within = on.within in omega (arith, within)) in
    let more = lines-read options bytes x (k + 1) next rows following h.7 on.below ends in
    let apart = are-apart options bytes row next rows h in
    let last = (last_row next rows).end in
    let before : next.first.index < last.index = next-before next rows h.7 in
    let le = apart.front in
    let met : nat_le (after_row row).index next.first.index ≡ true = grind (arith, nat_tests) in
    let are : line_events (text_feed x row.first) row.first ≡
    exit n.Data next.first ∷ enter_link n.Data next.first text_link ∷ line_events (text_feed x next.first) next.first =
    read.lines ∙ ap (λ (l : List Cell). line_events l row.end) feed in
    let all : List Event = text_events x next.first following in
    let bs : List LineBreak = bared (breaks_of next rows) in
    let b : LineBreak = record { after = after_row row; front = [] } in
    record {
      laid_are =
          ap
          (λ (l : List Event).
          laid (bared (breaks_of row (next ∷ rows))) (enter_link n.Data row.first text_link ∷ l ++ following)) are
          ∙ ap
          (λ (t : Bool).
          enter_link n.Data row.first text_link
          ∷ cond t (exit n.Data (after_row row) ∷ laid bs all) (exit n.Data next.first ∷ laid (b ∷ bs) all)) met
          ∙ ap (λ (l : List Event). enter_link n.Data row.first text_link ∷ exit n.Data (after_row row) ∷ l)
          more.laid_are;
      end = read.end ∙ ap (λ (l : List Cell). point_after l row.end) feed ∙ more.end;
      ends =
          subst (λ (l : List Event). EndIn last (enter_link n.Data row.first text_link ∷ l ++ following)) (sym are)
          (λ no. cc, (λ yes. inr before, more.ends));
    }
  where
    next-before : (row : Row) (rows : List Row) → AreLines options bytes row rows →
        row.first.index < (last_row row rows).end.index
    next-before row [] h = line-grows options bytes h.0 row h.1 h.2
    next-before row (next ∷ rows) h =
        let first = line-grows options bytes h.0 row h.1 h.2 in
        let grow = ends-grow options bytes row (next ∷ rows) h in
        omega (arith, first, grow)

-- Where they are read.

-- a skip where the tokenizer is leaves it there, and so does one of a later line
skip-here : (w : World) (p : Point) → w.point ≡ p → (skipping w p).point ≡ p
skip-here w p e = go (w.point.line == p.line) (nat_le w.point.index p.index)
  where
    go : (t s : Bool) → cond t (cond s p w.point) w.point ≡ p
    go true true = refl
    go true false = e
    go false s = e

skip-later : (w : World) (p : Point) → w.point.line < p.line → (skipping w p).point ≡ w.point
skip-later w p lt = let other : (w.point.line == p.line) ≡ false = grind (arith, nat_tests) in rw other refl

-- the lines of a text are skipped as its first is
skips-first : (options : ParseOptions) (bytes : List ℕ) (w : World) (row : Row) (rows : List Row) →
    AreLines options bytes row rows →
    (skipping w row.first).point.line ≤ row.first.line →
    (skipping_all w (chunks_of row rows)).point ≡ (skipping w row.first).point
skips-first options bytes w row [] h le = refl
skips-first options bytes w row (next ∷ rows) h le =
    let number = next-line options bytes row next rows h in
    let v : World = skipping w row.first in
    let stays : (skipping v next.first).point ≡ v.point = skip-later v next.first (omega (arith, le, number)) in
    let lines : (skipping v next.first).point.line ≤
    next.first.line = subst (λ (p : Point). p.line ≤ next.first.line) (sym stays) (omega (arith, le, number)) in
    skips-first options bytes v next rows h.7 lines ∙ stays

pub skips-here : (options : ParseOptions) (bytes : List ℕ) (w : World) (row : Row) (rows : List Row) →
    AreLines options bytes row rows → w.point ≡ row.first →
    (skipping_all w (chunks_of row rows)).point ≡ row.first
skips-here options bytes w row rows h e =
    let here = skip-here w row.first e in
    let line = ap (λ (p : Point). p.line) here in
    skips-first options bytes w row rows h (omega (arith, line)) ∙ here

abbrev begins : List Chunk → List Point
begins [] = []
begins (chunk ∷ chunks) = chunk.first ∷ begins chunks

skips-are : (w : World) (chunks : List Chunk) → (skipping_all w chunks).setting.skips ≡ w.setting.skips ++ begins chunks
skips-are w [] = sym (append-nil w.setting.skips)
skips-are w (chunk ∷ chunks) =
    skips-are (skipping w chunk.first) chunks ∙ append_assoc w.setting.skips (chunk.first ∷ []) (begins chunks)

begins-are : (row : Row) (rows : List Row) → begins (chunks_of row rows) ≡ row.first ∷ firsts rows
begins-are row [] = refl
begins-are row (next ∷ rows) = ap (λ (l : List Point). row.first ∷ l) (begins-are next rows)

pub first-is : (row : Row) (rows : List Row) → first_of (chunks_of row rows) ≡ row.first
first-is row [] = refl
first-is row (next ∷ rows) = refl

end-is : (row : Row) (rows : List Row) → end_of (chunks_of row rows) ≡ (last_row row rows).end.index
end-is row [] = refl
end-is row (next ∷ []) = refl
end-is row (next ∷ below ∷ rows) = end-is next (below ∷ rows)

pub part-read : (options under : ParseOptions) (bytes : List ℕ) → length bytes < 2 ^ 61 →
    (row : Row) (rows : List Row) →
    AreLines options bytes row rows → AreRead (part_world bytes under (chunks_of row rows)).setting bytes 0 row rows
part-read options under bytes small row rows h =
    let chunks = chunks_of row rows in
    let start = fresh bytes under (first_of chunks) in
    let same = skipping-same start chunks in
    let end = end-is row rows in
    let within = last-within options bytes row rows h in
    let first = ap (λ (p : Point). p.line) (first-is row rows) in
    let number = ap (λ (w : World). w.setting.first_line) same in
    record {
      small = omega arith;
      bytes_are = ap (λ (w : World). w.setting.bytes) same;
      limit = end;
      skips = skips-are start chunks ∙ begins-are row rows;
      line = omega arith;
    }

-- A paragraph over the cells of its lines.
pub record ParagraphRead (row : Row) (rows : List Row) (es : List Event) : Type 0 where
  pub laid_are : laid (bared (breaks_of row rows)) es ≡
      around n.Paragraph row.first (last_row row rows).end (linked n.Data text_link (chunks_of row rows))
  pub ends : EndIn (last_row row rows).end es

pub paragraph-reads : (options : ParseOptions) (bytes : List ℕ) → length bytes < 2 ^ 61 →
    (row : Row) (rows : List Row) → AreLines options bytes row rows →
    ParagraphRead row rows (paragraph_over (lines_cells options bytes row rows) row.first)
paragraph-reads options bytes small row rows h =
    let x = (part_world bytes options (chunks_of row rows)).setting in
    let q = point_after (text_feed x row.first) row.first in
    let end : List Event = exit n.Paragraph q ∷ [] in
    let at : (part_world bytes options (chunks_of row rows)).point ≡ row.first =
    skips-here options bytes (fresh bytes options (first_of (chunks_of row rows))) row rows h (first-is row rows) in
    let read = lines-read options bytes x 0 row rows end h (part-read options options bytes small row rows h)
    (λ no. cc, tt) in
    subst (λ (p : Point). ParagraphRead row rows (paragraph_over (text_feed x p) row.first)) (sym at)
    (record {
      laid_are =
          front (bared (breaks_of row rows)) (text_events x row.first end)
          ∙ ap (λ (l : List Event). enter n.Paragraph row.first ∷ l) read.laid_are
          ∙ ap (λ (p : Point). around n.Paragraph row.first p (linked n.Data text_link (chunks_of row rows))) read.end;
      ends = (λ no. cc, read.ends);
    })
  where
    front : (bs : List LineBreak) (es : List Event) → laid bs (enter n.Paragraph row.first ∷ es) ≡
        enter n.Paragraph row.first ∷ laid bs es
    front [] es = refl
    front (b ∷ bs) es = refl
