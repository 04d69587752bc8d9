-- The cells of lines of a text: those of the rest of each line, and the cell of each ending, which leads to where the
-- next line begins.
use Rattle.std.proofs.Common.{◌≡◌, inl, inr, ℕ, zero, suc, ◌+◌, ◌^◌, ◌<◌, ◌≤◌, Bool, true, false, cond, nat_eq}
use Rattle.std.proofs.Common.{List, [], ◌∷◌, ◌++◌, length, drop, refl, sym, ap, ◌∙◌, subst, arith, append_assoc}
use Rattle.std.proofs.Common.{append-nil}
use Rattle.std.specs.Prelude.{nat_lt, slice_index}
use Rattle.std.specs.List.{list_all}
use Rattle.std.proofs.lemmas.Bool.Decides.{nat_tests}
use Rattle.md_engine.specs.declared.configuration.ParseOptions.{ParseOptions}
use Rattle.md_engine.specs.declared.event.Point.{Point}
use Rattle.md_engine.specs.declared.tokenizer.Line.{Line}
use Rattle.md_engine.specs.Meaning.{Cell}
use Rattle.md_engine.specs.Place.{is_ending, next_point, seen_at}
use Rattle.md_engine.specs.TextFeed.{text_feed}
use Rattle.md_engine.specs.World.{Setting, World, after, fresh, line_begun}
use Rattle.md_engine.proofs.TextFeed.{text-follows}
use Rattle.md_content.specs.ContentReads.{first_of, part_world}
use Rattle.md_content.proofs.ContentReadsLemmas.{skipping-same}
use Rattle.md_meaning.specs.Rest.{cut_tab, is_blank, is_white}
use Rattle.md_meaning.proofs.TextsLemmas.{NoEnding}
use Rattle.md_events.specs.Ahead.{point_after}
use Rattle.md_events.specs.Events.Places.{past_byte, past_text}
use Rattle.md_events.specs.Spaces.{any_size}
use Rattle.md_events.proofs.FeedLines.{NoFeed, bytes_of, cell, feed-next, feed-none, line-feed, no_feed-spread}
use Rattle.md_events.proofs.FeedLines.{next_column, past-next, spread, tab-feed, tab_cells, tab_end, tab_end-stop}
use Rattle.md_events.proofs.PlacesLemmas.{at-next}
use Rattle.md_events.proofs.RestCells.{Cut, cells_by, past_cut, rest-end, rest_cells}
use Rattle.proof_frame.specs.RestLine.{rest_line}
use Rattle.proof_frame.specs.LeafName.{first_of as first_leaf}
use Rattle.md_registry.specs.Registry.{leaf, trials}
use Rattle.proof_frame.specs.Row.{BlankRow, Row, TextRow, after_row, chunks_of, last_row}
use Rattle.proof_rows.specs.Rows.{kind_of, lines_cells}
use Rattle.proof_content_laws.proofs.Defined.Along.{IsContinued, IsTurn, Valid, Steps, Turn, Walks, cells-white}
use Rattle.proof_content_laws.proofs.Defined.Along.{proceeds-on, no_line}
use Rattle.proof_content_laws.proofs.Defined.Form.{IsBreak}
use Rattle.proof_content_laws.proofs.Defined.Takes.{Walk}
use Rattle.proof_rows.proofs.GroupLines.{first-text, AreLines}
use Rattle.proof_rows.proofs.GroupLemmas.{row-line}
use Rattle.proof_rows.proofs.JoinedLemmas.{following-is}
use Rattle.proof_rows.proofs.KindLemmas.{kind-text}
use Rattle.proof_rows.proofs.ParagraphReads.{AreRead, leads, first-is, last-within, part-read, row-within, skips-here}
use Rattle.proof_rows.proofs.RowFacts.{IsRow}

-- The cells, row by row.
abbrev pub lines_are : (options : ParseOptions) (bytes : List ℕ) (row : Row) (rows : List Row) →
    AreLines options bytes row rows → List Cell
lines_are options bytes row [] h = rest_cells no_line h.1.rest row.first
lines_are options bytes row (next ∷ rows) h =
    rest_cells no_line h.1.rest row.first ++ (cell 10 next.first no_line ∷ lines_are options bytes next rows h.7)

-- The rest of a line is fed as its cells.

-- a further column of a tab
seen-more : (bytes : List ℕ) (p : Point) → slice_index bytes p.index ≡ 9 → 0 < p.vs → seen_at bytes p ≡ 32
seen-more bytes p is lt = let more : nat_lt 0 p.vs ≡ true = grind (arith, nat_tests) in rw (is, more) refl

rest-feed : (x : Setting) (following : List ℕ) (spaces : ℕ) (text : List ℕ) (p : Point) → x.limit < 2 ^ 61 →
    x.line ≡ no_line → drop p.index x.bytes ≡ (cut_tab spaces ++ text) ++ following → NoEnding text →
    p.index + length (cut_tab spaces ++ text) ≤ x.limit → Cut spaces p → 1 ≤ p.column →
    text_feed x p ≡ cells_by no_line spaces text p ++ text_feed x (past_text (cut_tab spaces ++ text) p)
rest-feed x following zero text p small said e none le cut one =
    line-feed x text following p
    (record { small = small; text = e; no_ending = none; within = le; whole = cut; column = one })
    ∙ ap (λ (l : Line). spread l text p ++ text_feed x (past_text text p)) said
rest-feed x following (suc n) text p small said e none le cut one =
    let is : slice_index x.bytes p.index ≡ 9 = at-next p.index x.bytes 9 (text ++ following) e in
    let columns = cut.1 in
    let room : p.index + suc (length text) ≤ x.limit = le in
    let q = tab_end n p in
    let same : q ≡ past_byte 9 p = ap (λ (m : ℕ). tab_end m p) columns ∙ tab_end-stop p one in
    tab-feed x n p small (omega (arith, room)) is columns
    ∙ ap (λ (b : ℕ). tab_cells x.line n b p ++ text_feed x q) (seen-more x.bytes p is cut.0)
    ∙ ap (λ (l : Line). tab_cells l n 32 p ++ text_feed x q) said
    ∙ ap (λ (l : List Cell). tab_cells no_line n 32 p ++ l)
    (line-feed x text following q
    (record {
      small = small;
      text = past-next p.index x.bytes 9 (text ++ following) e;
      no_ending = none;
      within = omega (arith, room);
      whole = refl;
      column = omega arith;
    })
    ∙ ap (λ (l : Line). spread l text q ++ text_feed x (past_text text q)) said)
    ∙ sym (append_assoc (tab_cells no_line n 32 p) (spread no_line text q) (text_feed x (past_text text q)))
    ∙ ap (λ (r : Point). cells_by no_line (suc n) text p ++ text_feed x (past_text text r)) same

pub uncut-no_ending : (n : ℕ) (text : List ℕ) → NoEnding (cut_tab n ++ text) → NoEnding text
uncut-no_ending zero text none = none
uncut-no_ending (suc n) text none = none.1

pub row-feed : (options : ParseOptions) (bytes line : List ℕ) (x : Setting) (row : Row) →
    (is : IsRow options bytes line row) → x.limit < 2 ^ 61 → x.bytes ≡ bytes → x.line ≡ no_line →
    row.end.index ≤ x.limit →
    text_feed x row.first ≡ rest_cells no_line is.rest row.first ++ text_feed x row.end
row-feed options bytes line x row is small same said within =
    let r = is.rest in
    let size : row.end.index ≡ row.first.index + length (rest_line r) =
    is.size ∙ ap (λ (l : List ℕ). row.first.index + length l) is.line_is in
    rest-feed x (drop row.end.index bytes) r.spaces r.bytes row.first small said
    (ap (drop row.first.index) same ∙ row-line options bytes line row is
    ∙ ap (λ (l : List ℕ). l ++ drop row.end.index bytes) is.line_is)
    (uncut-no_ending r.spaces r.bytes (subst NoEnding is.line_is is.no_ending)) (omega (arith, size, within))
    is.cut is.first_column
    ∙ ap (λ (q : Point). rest_cells no_line r row.first ++ text_feed x q)
    (sym (is.end ∙ ap (λ (l : List ℕ). past_text l row.first) is.line_is))

-- Lines are fed as their cells.

pub lines-feed : (options : ParseOptions) (bytes : List ℕ) (x : Setting) (k : ℕ) (row : Row) (rows : List Row) →
    (h : AreLines options bytes row rows) → AreRead x bytes k row rows → x.line ≡ no_line →
    text_feed x row.first ≡ lines_are options bytes row rows h
lines-feed options bytes x k row [] h r said =
    row-feed options bytes h.0 x row h.1 r.small r.bytes_are said (omega (arith, r.limit))
    ∙ ap (λ (l : List Cell). rest_cells no_line h.1.rest row.first ++ l)
    (feed-none x row.end r.small (omega (arith, r.limit)))
    ∙ append-nil (rest_cells no_line h.1.rest row.first)
lines-feed options bytes x k row (next ∷ rows) h r said =
    let on = leads options bytes x k row next rows h r in
    let within = on.within in
    row-feed options bytes h.0 x row h.1 r.small r.bytes_are said (omega (arith, within))
    ∙ ap (λ (l : List Cell). rest_cells no_line h.1.rest row.first ++ l)
    (on.feed ∙ ap (λ (l : Line). cell 10 next.first l ∷ text_feed x next.first) said
    ∙ ap (λ (l : List Cell). cell 10 next.first no_line ∷ l)
    (lines-feed options bytes x (k + 1) next rows h.7 on.below said))

-- as they are read
pub world-line : (options : ParseOptions) (bytes : List ℕ) (row : Row) (rows : List Row) →
    (part_world bytes options (chunks_of row rows)).setting.line ≡ no_line
world-line options bytes row rows =
    let chunks = chunks_of row rows in
    ap (λ (w : World). w.setting.line) (skipping-same (fresh bytes options (first_of chunks)) chunks)

pub world-first : (options : ParseOptions) (bytes : List ℕ) (row : Row) (rows : List Row) →
    AreLines options bytes row rows → (part_world bytes options (chunks_of row rows)).point ≡ row.first
world-first options bytes row rows h =
    skips-here options bytes (fresh bytes options (first_of (chunks_of row rows))) row rows h (first-is row rows)

-- The cells of lines of a text are these.
pub lines-are : (options : ParseOptions) (bytes : List ℕ) → length bytes < 2 ^ 61 → (row : Row) (rows : List Row) →
    (h : AreLines options bytes row rows) → lines_cells options bytes row rows ≡ lines_are options bytes row rows h
lines-are options bytes small row rows h =
    let w = part_world bytes options (chunks_of row rows) in
    ap (text_feed w.setting) (world-first options bytes row rows h)
    ∙ lines-feed options bytes w.setting 0 row rows h (part-read options options bytes small row rows h)
    (world-line options bytes row rows)

-- and there are not too many
pub lines-small : (options : ParseOptions) (bytes : List ℕ) → length bytes < 2 ^ 61 → (row : Row) (rows : List Row) →
    AreLines options bytes row rows → length (lines_cells options bytes row rows) ≤ any_size
lines-small options bytes small row rows h =
    let w = part_world bytes options (chunks_of row rows) in
    let r = part-read options options bytes small row rows h in
    let short : length (text_feed w.setting w.point) < 2 ^ 63 =
    (text-follows w.setting w.setting.limit true r.small (omega arith) (λ e. refl)).short w.point in
    omega (arith, short)

-- Where they are.

-- cells that are fed, of which none ends a line
feed-steps : (x : Setting) (bytes : List ℕ) (xs ys : List Cell) (p : Point) → x.limit < 2 ^ 61 → x.bytes ≡ bytes →
    x.limit ≤ length bytes → x.line ≡ no_line → NoFeed xs → text_feed x p ≡ xs ++ ys → Steps bytes p xs
feed-steps x bytes [] ys p small same within said none e = tt
feed-steps x bytes (c ∷ cs) ys p small same within said none e =
    go (nat_lt p.index x.limit) refl
    (λ k. feed-steps x bytes cs ys c.after small same within said none.1 k)
  where
    by : p.index < x.limit → (text_feed x c.after ≡ cs ++ ys → Steps bytes c.after cs) → (y : Bool) →
        is_ending (slice_index bytes p.index) ≡ y → Steps bytes p (c ∷ cs)
    by lt more y k =
        let next : c ∷ (cs ++ ys) ≡ cell (seen_at x.bytes p) (after x p) x.line ∷ text_feed x (after x p) =
        sym e ∙ feed-next x p small lt in
        let first : c ≡ cell (seen_at x.bytes p) (after x p) x.line = cc in
        let following : cs ++ ys ≡ text_feed x (after x p) = cc in
        let byte : c.byte ≡ seen_at bytes p =
        ap (λ (d : Cell). d.byte) first ∙ ap (λ (l : List ℕ). seen_at l p) same in
        let at : c.after ≡ after x p = ap (λ (d : Cell). d.after) first in
        on y k byte at (ap (λ (d : Cell). d.line) first ∙ said) (ap (text_feed x) at ∙ sym following)
      where
        on : (y : Bool) → is_ending (slice_index bytes p.index) ≡ y → c.byte ≡ seen_at bytes p →
            c.after ≡ after x p → c.line ≡ no_line → text_feed x c.after ≡ cs ++ ys → Steps bytes p (c ∷ cs)
        on true k byte at line feed =
            let ten : seen_at bytes p ≡ 10 = rw k refl in
            let yes : nat_eq c.byte 10 ≡ true = rw (byte ∙ ten) refl in
            let no_ten = none.0 in
            cc
        on false k byte at line feed = (
          record {
            plain = k;
            byte = byte;
            after =
                at
                ∙ ap (λ (l : List ℕ). cond (is_ending (slice_index l p.index)) (line_begun x (next_point l p))
                (next_point l p)) same
                ∙ ap (λ (t : Bool). cond t (line_begun x (next_point bytes p)) (next_point bytes p)) k;
            said = line;
            within = omega (arith, lt, within);
          },
          more feed,
        )

    go : (y : Bool) → nat_lt p.index x.limit ≡ y →
        (text_feed x c.after ≡ cs ++ ys → Steps bytes c.after cs) → Steps bytes p (c ∷ cs)
    go true k more =
        let lt : p.index < x.limit = grind (arith, nat_tests) in
        by lt more (is_ending (slice_index bytes p.index)) refl
    go false k more =
        let le : x.limit ≤ p.index = grind (arith, nat_tests) in
        let none : [] ≡ c ∷ (cs ++ ys) = sym (feed-none x p small le) ∙ e in
        cc

-- none of them ends a line
no_feed-both : (xs ys : List Cell) → NoFeed xs → NoFeed ys → NoFeed (xs ++ ys)
no_feed-both [] ys h k = k
no_feed-both (c ∷ xs) ys h k = (h.0, no_feed-both xs ys h.1 k)

no_feed-columns : (n byte : ℕ) (p : Point) → nat_eq byte 10 ≡ false → NoFeed (tab_cells no_line n byte p)
no_feed-columns zero byte p e = (e, tt)
no_feed-columns (suc n) byte p e = (e, no_feed-columns n 32 (next_column p) refl)

no_feed-rest : (spaces : ℕ) (text : List ℕ) (p : Point) → NoEnding text → NoFeed (cells_by no_line spaces text p)
no_feed-rest zero text p none = no_feed-spread no_line text p none
no_feed-rest (suc n) text p none =
    no_feed-both (tab_cells no_line n 32 p) (spread no_line text (tab_end n p)) (no_feed-columns n 32 p refl)
    (no_feed-spread no_line text (tab_end n p) none)

-- Between lines.
abbrev pub turns_of : ParseOptions → List ℕ → Row → List Row → List Turn
turns_of options bytes row [] = []
turns_of options bytes row (next ∷ rows) =
    (record {
      end = row.end;
      break = record { after = after_row row; front = next.front };
      first = next.first;
      cells = lines_cells options bytes next rows;
    })
    ∷ turns_of options bytes next rows

-- a line begins at a point of the text
row-valid : (options : ParseOptions) (bytes line : List ℕ) (row : Row) → IsRow options bytes line row →
    row.kind ≡ TextRow → Valid bytes row.first
row-valid options bytes line row is text = record {
  column = is.first_column;
  within = let end = row-within options bytes line row is text in let size = is.size in omega (arith, end, size);
  tab = go is.rest.spaces is.line_is is.cut;
}
  where
    go : (n : ℕ) → line ≡ cut_tab n ++ is.rest.bytes → Cut n row.first → 0 < row.first.vs →
        slice_index bytes row.first.index ≡ 9
    go zero e cut lt = absurd (omega (arith, cut, lt))
    go (suc n) e cut lt =
        at-next row.first.index bytes 9 (is.rest.bytes ++ drop row.end.index bytes)
        (row-line options bytes line row is ∙ ap (λ (l : List ℕ). l ++ drop row.end.index bytes) e)

-- and no line is blank
row-dark : (options : ParseOptions) (bytes line : List ℕ) (row : Row) → (is : IsRow options bytes line row) →
    row.kind ≡ TextRow → list_all is_white (bytes_of (rest_cells no_line is.rest row.first)) ≡ false
row-dark options bytes line row is text =
    cells-white is.rest.spaces is.rest.bytes row.first ∙ cut is.rest.spaces
    ∙ dark (is_blank is.rest.bytes) (kind-text options row.on is.rest (sym is.kind ∙ text))
  where
    cut : (spaces : ℕ) → is_blank (cut_tab spaces ++ is.rest.bytes) ≡ is_blank is.rest.bytes
    cut zero = refl
    cut (suc n) = refl

    dark : (b : Bool) →
        cond b BlankRow (kind_of (first_leaf (λ l. (leaf l).starts options row.on is.rest) trials)) ≡ TextRow →
        b ≡ false
    dark true e = cc
    dark false e = refl

row-proceeds : (options : ParseOptions) (bytes line : List ℕ) (row : Row) → (is : IsRow options bytes line row) →
    row.kind ≡ TextRow → (more : List Cell) → IsContinued (rest_cells no_line is.rest row.first ++ more)
row-proceeds options bytes line row is text more =
    proceeds-on (rest_cells no_line is.rest row.first) more
    (no_feed-rest is.rest.spaces is.rest.bytes row.first
    (uncut-no_ending is.rest.spaces is.rest.bytes (subst NoEnding is.line_is is.no_ending)))
    (row-dark options bytes line row is text)

lines-go : (options : ParseOptions) (bytes : List ℕ) (row : Row) (rows : List Row) →
    (h : AreLines options bytes row rows) → IsContinued (lines_are options bytes row rows h)
lines-go options bytes row [] h =
    subst IsContinued (append-nil (rest_cells no_line h.1.rest row.first))
    (row-proceeds options bytes h.0 row h.1 h.2 [])
lines-go options bytes row (next ∷ rows) h =
    row-proceeds options bytes h.0 row h.1 h.2 (cell 10 next.first no_line ∷ lines_are options bytes next rows h.7)

-- cells of a line before others
steps-walk : (bytes : List ℕ) (last p : Point) (xs ys : List Cell) (turns : List Turn) → Steps bytes p xs →
    Walks bytes last (point_after xs p) ys turns → Walks bytes last p (xs ++ ys) turns
steps-walk bytes last p [] ys turns steps walks = walks
steps-walk bytes last p (c ∷ cs) ys turns steps walks =
    (turns, inl (steps.0, refl), steps-walk bytes last c.after cs ys turns steps.1 walks)

-- a line ends where its cells do
rest-ends : (options : ParseOptions) (bytes line : List ℕ) (row : Row) → (is : IsRow options bytes line row) →
    point_after (rest_cells no_line is.rest row.first) row.first ≡ row.end
rest-ends options bytes line row is =
    rest-end no_line is.rest row.first is.first_column
    ∙ go is.rest.spaces is.cut
    ∙ sym (is.end ∙ ap (λ (l : List ℕ). past_text l row.first) is.line_is)
  where
    go : (n : ℕ) → Cut n row.first →
        past_text is.rest.bytes (past_cut n row.first) ≡ past_text (cut_tab n ++ is.rest.bytes) row.first
    go zero cut = refl
    go (suc n) cut =
        ap (past_text is.rest.bytes)
        (ap (λ (m : ℕ). tab_end m row.first) cut.1 ∙ tab_end-stop row.first is.first_column)

row-steps : (options : ParseOptions) (bytes line : List ℕ) (x : Setting) (row : Row) (more : List Cell) →
    (is : IsRow options bytes line row) → x.limit < 2 ^ 61 → x.bytes ≡ bytes → x.limit ≤ length bytes →
    x.line ≡ no_line → text_feed x row.first ≡ rest_cells no_line is.rest row.first ++ more →
    Steps bytes row.first (rest_cells no_line is.rest row.first)
row-steps options bytes line x row more is small same within said feed =
    feed-steps x bytes (rest_cells no_line is.rest row.first) more row.first small same within said
    (no_feed-rest is.rest.spaces is.rest.bytes row.first
    (uncut-no_ending is.rest.spaces is.rest.bytes (subst NoEnding is.line_is is.no_ending))) feed

pub lines-walks : (options : ParseOptions) (bytes : List ℕ) → length bytes < 2 ^ 61 → (x : Setting) (k : ℕ) (row : Row)
    (rows : List Row) → (h : AreLines options bytes row rows) → AreRead x bytes k row rows → x.line ≡ no_line →
    x.limit ≤ length bytes →
    Walks bytes (last_row row rows).end row.first (lines_are options bytes row rows h) (turns_of options bytes row rows)
lines-walks options bytes sized x k row [] h r said within =
    let cells = rest_cells no_line h.1.rest row.first in
    let feed = lines-feed options bytes x k row [] h r said ∙ sym (append-nil cells) in
    subst (λ (l : List Cell). Walks bytes row.end row.first l []) (append-nil cells)
    (steps-walk bytes row.end row.first cells [] []
    (row-steps options bytes h.0 x row [] h.1 r.small r.bytes_are within said feed)
    (rest-ends options bytes h.0 row h.1, refl))
lines-walks options bytes sized x k row (next ∷ rows) h r said within =
    let cells = rest_cells no_line h.1.rest row.first in
    let following = lines_are options bytes next rows h.7 in
    let c = cell 10 next.first no_line in
    let last = (last_row next rows).end in
    let turns = turns_of options bytes row (next ∷ rows) in
    let left = turns_of options bytes next rows in
    let on = leads options bytes x k row next rows h r in
    let below = first-text options bytes next rows h.7 in
    let broken : IsBreak bytes row.end (after_row row) next.first next.front =
    subst (λ (q : Point). IsBreak bytes row.end q next.first next.front) (sym (following-is row h.3 h.4))
    (record { whole = h.1.end_whole; ending = h.5; front_is = h.6; column = below.1.first_column }) in
    let turn : IsTurn bytes row.end c following turns left = record {
      turn = record {
        end = row.end;
        break = record { after = after_row row; front = next.front };
        first = next.first;
        cells = lines_cells options bytes next rows;
      };
      turns_are = refl;
      at = refl;
      byte = refl;
      after = refl;
      said = refl;
      cells = sym (lines-are options bytes sized next rows h.7);
      break = broken;
      valid = next-valid next rows h.7;
      filled = lines-go options bytes next rows h.7;
    } in
    steps-walk bytes last row.first cells (c ∷ following) turns
    (row-steps options bytes h.0 x row (c ∷ following) h.1 r.small r.bytes_are within said
    (lines-feed options bytes x k row (next ∷ rows) h r said))
    (subst (λ (q : Point). Walks bytes last q (c ∷ following) turns) (sym (rest-ends options bytes h.0 row h.1))
    (left, inr turn, lines-walks options bytes sized x (k + 1) next rows h.7 on.below said within))
  where
    next-valid : (row : Row) (rows : List Row) → AreLines options bytes row rows → Valid bytes row.first
    next-valid row [] h = row-valid options bytes h.0 row h.1 h.2
    next-valid row (next ∷ rows) h = row-valid options bytes h.0 row h.1 h.2

-- The cells of lines are in the text, one after another.
pub lines-walk : (options : ParseOptions) (bytes : List ℕ) → length bytes < 2 ^ 61 → (row : Row) (rows : List Row) →
    AreLines options bytes row rows →
    Walk bytes (last_row row rows).end row.first (lines_cells options bytes row rows) (turns_of options bytes row rows)
lines-walk options bytes small row rows h =
    let w = part_world bytes options (chunks_of row rows) in
    let r = part-read options options bytes small row rows h in
    let within = last-within options bytes row rows h in
    let limit = r.limit in
    record {
      valid = first-valid row rows h;
      walks =
          subst
          (λ (l : List Cell). Walks bytes (last_row row rows).end row.first l (turns_of options bytes row rows))
          (sym (lines-are options bytes small row rows h))
          (lines-walks options bytes small w.setting 0 row rows h r (world-line options bytes row rows)
          (omega (arith, within, limit)));
      small = lines-small options bytes small row rows h;
      whole = last-whole row rows h;
    }
  where
    first-valid : (row : Row) (rows : List Row) → AreLines options bytes row rows → Valid bytes row.first
    first-valid row [] h = row-valid options bytes h.0 row h.1 h.2
    first-valid row (next ∷ rows) h = row-valid options bytes h.0 row h.1 h.2

    last-whole : (row : Row) (rows : List Row) → AreLines options bytes row rows → (last_row row rows).end.vs ≡ 0
    last-whole row [] h = h.1.end_whole
    last-whole row (next ∷ rows) h = last-whole next rows h.7
