-- The lines that flow reads are those of the text.
use Rattle.md_engine.specs.declared.tokenizer.held_leaf.HeldLeaf.TheVariants as held_leaf
use Rattle.md_engine.specs.declared.tokenizer.held_leaf.HeldLeaf.{HeldLeaf}
use Rattle.std.proofs.Common.{◌≡◌, ℕ, zero, suc, ◌+◌, ◌^◌, ◌<◌, ◌≤◌, Bool, true, false, List, [], ◌∷◌, ◌++◌, length}
use Rattle.std.proofs.Common.{drop, refl, sym, ap, ap₂, ◌∙◌, subst, arith, append-nil, append_assoc, inl, inr, ◌⊎◌}
use Rattle.std.specs.Prelude.{◌&&◌, ◌||◌, ◌==◌, Some}
use Rattle.std.proofs.lemmas.Bool.{eqb-true, or_from}
use Rattle.std.proofs.lemmas.List.{length-append}
use Rattle.md_engine.specs.declared.configuration.ParseOptions.{ParseOptions}
use Rattle.md_engine.specs.declared.event.Point.{Point}
use Rattle.md_engine.specs.declared.tokenizer.Line.{Line}
use Rattle.md_engine.specs.Meaning.{Cell}
use Rattle.md_engine.specs.TextFeed.{text_feed}
use Rattle.md_engine.specs.World.{Setting}
use Rattle.md_engine.proofs.TextFeed.{text-follows}
use Rattle.md_events.specs.Ahead.{from_ending, line_end}
use Rattle.md_events.specs.Events.Places.{past_text}
use Rattle.md_meaning.specs.Rest.{Rest}
use Rattle.md_meaning.specs.State.{Container}
use Rattle.md_meaning.specs.Texts.{split_lines}
use Rattle.md_events.proofs.FeedLines.{HasEnding, HasLine, Stops, begun-none, cell, drop-past, ending-feed, ending-some}
use Rattle.md_events.proofs.FeedLines.{feed-none, front-within, is-ending, line-feed, past_ending, slice-front, spread}
use Rattle.md_events.proofs.InlineLemmas.{past-index}
use Rattle.md_events.proofs.RestCells.{RestAt, rest_cells}
use Rattle.md_meaning.proofs.TextsLemmas.{Both, Ending, EndsBefore, LineFeed, NoEnding, Return, ending_bytes}
use Rattle.md_meaning.proofs.TextsLemmas.{split-line, split-next}
use Rattle.proof_frame.specs.Change.{open_following}
use Rattle.proof_rows.specs.TextRows.{text_cells, text_rows, text_setting}
use Rattle.proof_rows.specs.Fronted.{Contained, contained, rest_from}
use Rattle.proof_frame.specs.RestLine.{rest_line}
use Rattle.proof_rows.specs.WithoutMdx.{IsWithoutMdx}
use Rattle.proof_frame.specs.Row.{Row, RowKind}
use Rattle.proof_rows.specs.Rows.{after_held, leaf_following, Held, after_ending, closes_before, ends_blank, held_at}
use Rattle.proof_rows.specs.Rows.{inside_of, line_kind, onto_rows, row_kind, row_of, rows_at, rows_by, stays_blank}
use Rattle.proof_rows.proofs.FrontRows.{HasHeld, held-is}
use Rattle.proof_frame.proofs.RestFacts.{rest-line_end, rest-no_ending}
use Rattle.proof_frame.proofs.RestRows.{rest-blank, rest-cut, rest-empty, rest-ending, rest-past, rest-whole}
use Rattle.proof_rows.proofs.RowFacts.{AreRows, IsLine, IsRow, following_line}
use Rattle.md_events.proofs.FeedLines.{IsEnding}
use Rattle.proof_rows.proofs.RowKinds.{following-rest, blank-inside, kind-rest, leaf-inside}
use Rattle.proof_frame.proofs.RegistryRead.{AreRead}

-- A row.

-- a row of this rest of a line
abbrev IsRowOf : ParseOptions → List ℕ → Rest → Row → Type 0
IsRowOf options bytes r row = (is : IsRow options bytes (rest_line r) row) × (is.rest ≡ r)

-- The row of what is left of a line after its prefixes, also where it begins within a tab.
held-row : (options : ParseOptions) (bytes following : List ℕ) (said : Line) (r : Rest) (stop : List Cell) (h : Held)
    (below : List Row) → length bytes < 2 ^ 61 →
    h.cells ≡ rest_cells said r h.point ++ stop → length h.cells < 2 ^ 63 → RestAt bytes following r h.point →
    NoEnding r.bytes → Stops stop →
    IsRowOf options bytes r (row_of options h below)
held-row options bytes following said r stop h below small fed short is none k =
    let p = h.point in
    let one : 1 ≤ p.column = let column = is.column in omega (arith, column) in
    let size = ap length fed in
    let few : length (rest_cells said r p ++ stop) < 2 ^ 63 = omega (arith, short, size) in
    let kind : row_kind options h.on h.cells ≡ line_kind options h.on r = ap (row_kind options h.on) fed
    ∙ kind-rest options h.on said bytes following r p stop is none k few in
    let inside : (kind : RowKind) →
    inside_of options h.on h.cells p kind ≡ inside_of options h.on (rest_cells said r p ++ stop) p kind =
    λ kind. ap (λ (l : List Cell). inside_of options h.on l p kind) fed in
    let end : line_end h.cells p ≡ past_text (rest_line r) p = ap (λ (l : List Cell). line_end l p) fed
    ∙ rest-line_end said r p stop none k one is.cut in
    let index : (line_end h.cells p).index ≡ p.index + length (rest_line r) = ap (λ (q : Point). q.index) end
    ∙ past-index (rest_line r) p in
    let row : IsRow options bytes (rest_line r) (row_of options h below) = record {
      rest = r;
      small = small;
      line_is = refl;
      kind = kind;
      following =
          ap (λ (l : List Cell). leaf_following options h.on l p (row_kind options h.on h.cells)) fed
          ∙ following-rest options h.on said bytes following r p stop (row_kind options h.on h.cells) is
          none k few kind;
      no_ending = rest-no_ending r none;
      text = slice-front bytes p.index (line_end h.cells p).index (rest_line r) following is.text_is index;
      size = index;
      end = end;
      first_column = one;
      column = is.column;
      end_whole = ap (λ (q : Point). q.vs) end ∙ rest-whole r p is.cut;
      cut_first = rest-cut r p is.cut;
      cut = is.cut;
      empty =
          ap (λ (l : List Cell). ends_blank (row_kind options h.on h.cells) l p) fed
          ∙ ap₂
          (λ (blank ended : Bool).
          (stays_blank (row_kind options h.on h.cells) && blank) || (ended && (p.column == 1)))
          (rest-blank said r p stop none k one is.cut)
          (rest-empty said r p stop (line_end h.cells p).index none k index);
      blank =
          λ e. inside (row_kind options h.on h.cells)
          ∙ blank-inside options h.on said bytes following r p stop (row_kind options h.on h.cells) is none k kind e;
      leaf_is =
          λ l e. inside (row_kind options h.on h.cells)
          ∙ leaf-inside options h.on said bytes following r p stop (row_kind options h.on h.cells) is none
          k few kind l e;
    } in
    (row, refl)

-- The first line of a text.

pub record HasNext (text : List ℕ) : Type 0 where
  pub line : List ℕ
  pub ending : Ending
  pub rest : List ℕ
  pub no_ending : NoEnding line
  pub before : EndsBefore ending rest
  pub joined : text ≡ line ++ ending_bytes ending ++ rest

next-feed : (b : ℕ) (bs : List ℕ) → (b == 10) ≡ true → HasNext (b ∷ bs)
next-feed b bs e =
    let ten : b ≡ 10 = eqb-true b 10 e in
    record { line = []; ending = LineFeed; rest = bs; no_ending = tt; before = tt; joined = ap (λ (c : ℕ). c ∷ bs) ten }

next-return : (b : ℕ) (bs : List ℕ) → (b == 13) ≡ true → HasNext (b ∷ bs)
next-return b [] e =
    let cr : b ≡ 13 = eqb-true b 13 e in
    record { line = []; ending = Return; rest = []; no_ending = tt; before = refl; joined = ap (λ (c : ℕ). c ∷ []) cr }
next-return b (c ∷ cs) e = go (c == 10) refl
  where
    go : (t : Bool) → (c == 10) ≡ t → HasNext (b ∷ c ∷ cs)
    go true f =
        let cr : b ≡ 13 = eqb-true b 13 e in
        let ten : c ≡ 10 = eqb-true c 10 f in
        record {
          line = [];
          ending = Both;
          rest = cs;
          no_ending = tt;
          before = tt;
          joined = ap (λ (a : ℕ). a ∷ c ∷ cs) cr ∙ ap (λ (a : ℕ). 13 ∷ a ∷ cs) ten;
        }
    go false f =
        let cr : b ≡ 13 = eqb-true b 13 e in
        record {
          line = [];
          ending = Return;
          rest = c ∷ cs;
          no_ending = tt;
          before = f;
          joined = ap (λ (a : ℕ). a ∷ c ∷ cs) cr;
        }

-- a text is one line, or a line, its ending and what follows
pub first_line : (text : List ℕ) → NoEnding text ⊎ HasNext text
first_line [] = inl tt
first_line (b ∷ bs) = go (b == 10) refl (b == 13) refl (first_line bs)
  where
    go : (t : Bool) → (b == 10) ≡ t → (s : Bool) → (b == 13) ≡ s → NoEnding bs ⊎ HasNext bs →
        NoEnding (b ∷ bs) ⊎ HasNext (b ∷ bs)
    go true e s f more = inr (next-feed b bs e)
    go false e true f more = inr (next-return b bs f)
    go false e false f (inl h) = inl (or_from (b == 10) (b == 13) e f, h)
    go false e false f (inr h) =
        inr
        (record {
          line = b ∷ h.line;
          ending = h.ending;
          rest = h.rest;
          no_ending = (or_from (b == 10) (b == 13) e f, h.no_ending);
          before = h.before;
          joined = ap (λ (l : List ℕ). b ∷ l) h.joined;
        })

-- All rows.

-- a line begins at a point of a text that is read to its end
pub record HasLines (x : Setting) (p : Point) : Type 0 where
  pub small : length x.bytes < 2 ^ 61
  pub limit : x.limit ≡ length x.bytes
  pub skips : x.skips ≡ []
  pub index : p.index ≤ length x.bytes
  pub whole : p.vs ≡ 0
  pub column : 1 ≤ p.column

-- A line, and what is left after it.

-- the rows of a text whose first line has these containers
rows-last : (options : ParseOptions) (h : Held) (further : List Container → HeldLeaf → List Cell → Point → List Row) →
    from_ending h.cells ≡ [] → rows_by options h further ≡ row_of options h [] ∷ []
rows-last options h further e =
    ap
    (λ (l : List Cell).
    onto_rows options h
    (elim l [ [] ↦ [] | c ∷ cs ↦ further (open_following h.change) (after_held options h) cs c.after ]))
    e

rows-next : (options : ParseOptions) (h : Held) (further : List Container → HeldLeaf → List Cell → Point → List Row)
    (c : Cell) (cs : List Cell) →
    from_ending h.cells ≡ c ∷ cs →
    rows_by options h further ≡
    onto_rows options h (further (open_following h.change) (after_held options h) cs c.after)
rows-next options h further c cs e =
    ap
    (λ (l : List Cell).
    onto_rows options h
    (elim l [ [] ↦ [] | c ∷ cs ↦ further (open_following h.change) (after_held options h) cs c.after ]))
    e

-- a line with its containers
record HasRow (options : ParseOptions) (bytes : List ℕ) (open_before : List Container) (still : HeldLeaf) (p : Point)
    (line : List ℕ) (stop : List Cell) (h : Held) : Type 0 where
  is : (below : List Row) → IsLine options bytes open_before still p line (row_of options h below)
  open_is : open_following h.change ≡ following_line options open_before still p line
  read : AreRead (open_following h.change)
  end : line_end h.cells h.point ≡ past_text line p
  stops : from_ending h.cells ≡ stop

has-row : (options : ParseOptions) (bytes following : List ℕ) (said : Line) (open_before : List Container)
    (still : HeldLeaf) (line : List ℕ) (p : Point) (stop : List Cell) →
    IsWithoutMdx options → length bytes < 2 ^ 61 → AreRead open_before → length (spread said line p ++ stop) < 2 ^ 63 →
    NoEnding line → Stops stop → p.vs ≡ 0 → 1 ≤ p.column → drop p.index bytes ≡ line ++ following →
    HasRow options bytes open_before still p line stop
    (held_at options open_before still (spread said line p ++ stop) p)
has-row options bytes following said open_before still line p stop built room read short none k whole one text =
    let r : Rest = rest_from p line in
    let h : Held = held_at options open_before still (spread said line p ++ stop) p in
    let c : Contained = contained options open_before still r in
    let at : RestAt bytes following r p = record { column = omega arith; cut = whole; text_is = text } in
    let held : HasHeld said bytes following p (past_text line p) stop
    (spread said line p ++ stop) h c =
    held-is options said bytes following open_before still r stop p built read at none k short in
    let le = held.shorter in
    let few : length h.cells < 2 ^ 63 = omega (arith, le, short) in
    let row : (below : List Row) →
    IsRowOf options bytes c.rest
    (row_of options h below) =
    λ below. held-row options bytes following said c.rest stop h below room held.fed few held.valid held.no_ending k in
    let first : 1 ≤ h.point.column = let column = held.valid.column in omega (arith, column) in
    record {
      is =
          λ below. record {
            is = (row below).0;
            rest_is = (row below).1;
            front = held.front;
            front_read = held.front_read;
            change = held.change;
            on = held.on;
            whole = whole;
            column = one;
            extent =
                ap (λ (q : Point). q.index)
                ((row below).0.end ∙ rest-past c.rest h.point first held.valid.cut ∙ held.ends)
                ∙ past-index line p;
          };
      open_is = ap open_following held.change;
      read = held.read;
      end = (row []).0.end ∙ rest-past c.rest h.point first held.valid.cut ∙ held.ends;
      stops = ap from_ending held.fed ∙ rest-ending said c.rest h.point stop held.no_ending k first held.valid.cut;
    }

-- one line more
rows-onto : (options : ParseOptions) (bytes line : List ℕ) (open_before : List Container) (still : HeldLeaf) (row : Row)
    (p q : Point) (lines : List (List ℕ)) (rows : List Row) →
    IsLine options bytes open_before still p line row →
    row.closed_after ≡ closes_before (following_line options open_before still p line) rows →
    row.after ≡ Some q → IsEnding bytes row.end q →
    AreRows options bytes (following_line options open_before still p line) row.following q lines rows →
    AreRows options bytes open_before still p (line ∷ lines) (row ∷ rows)
rows-onto options bytes line open_before still row p q [] [] is leaves after ending h = absurd h
rows-onto options bytes line open_before still row p q [] (below ∷ rows) is leaves after ending h = absurd h
rows-onto options bytes line open_before still row p q (next ∷ []) [] is leaves after ending h = absurd h
rows-onto options bytes line open_before still row p q (next ∷ further ∷ lines) [] is leaves after ending h = absurd h
rows-onto options bytes line open_before still row p q (next ∷ lines) (below ∷ rows) is leaves after ending h =
    (is, leaves, q, after, ending, h)

-- the last line
last-rows : (options : ParseOptions) (n : ℕ) (bytes : List ℕ) (said : Line) (open_before : List Container)
    (still : HeldLeaf) (line : List ℕ) (p : Point) (cells : List Cell) →
    IsWithoutMdx options → length bytes < 2 ^ 61 → AreRead open_before → length cells < 2 ^ 63 →
    NoEnding line → p.index ≤ length bytes → p.vs ≡ 0 → 1 ≤ p.column → drop p.index bytes ≡ line →
    cells ≡ spread said line p ++ [] →
    AreRows options bytes open_before still p (split_lines (drop p.index bytes))
    (rows_at options (suc n) open_before still cells p)
last-rows options n bytes said open_before still line p cells built room read short none index vs one text fed =
    let whole = spread said line p ++ [] in
    let joined : drop p.index bytes ≡ line ++ [] = text ∙ sym (append-nil line) in
    let small : length whole < 2 ^ 63 = let same = ap length fed in omega arith in
    let h : Held = held_at options open_before still whole p in
    let has : HasRow options bytes open_before still p line [] h = has-row options bytes [] said open_before still line
    p [] built room read small none tt vs one joined in
    let size = front-within bytes p.index line [] joined index in
    let end = ap (λ (q : Point). q.index) has.end in
    let past = past-index line p in
    let all : (line_end h.cells h.point).index ≡ length bytes = omega (arith, end, past, size) in
    let rows : AreRows options bytes open_before still p (line ∷ [])
    (row_of options h [] ∷ []) = (has.is [], has.open_is, ap after_ending has.stops, all) in
    let split : split_lines (drop p.index bytes) ≡ line ∷ [] = ap split_lines text ∙ split-line line none in
    subst
    (λ (cs : List Cell).
    AreRows options bytes open_before still p (split_lines (drop p.index bytes))
    (rows_at options (suc n) open_before still cs p))
    (sym fed)
    (subst (λ (l : List Row). AreRows options bytes open_before still p (split_lines (drop p.index bytes)) l)
    (sym (rows-last options h (rows_at options n) has.stops))
    (subst (λ (l : List (List ℕ)). AreRows options bytes open_before still p l (row_of options h [] ∷ []))
    (sym split) rows))

-- a line with its ending, before others
next-rows : (options : ParseOptions) (n : ℕ) (bytes : List ℕ) (said : Line) (open_before : List Container)
    (still : HeldLeaf) (line : List ℕ) (ending : Ending) (rest : List ℕ) (p q : Point) (cells more : List Cell) →
    IsWithoutMdx options → length bytes < 2 ^ 61 → AreRead open_before → length cells < 2 ^ 63 →
    NoEnding line → EndsBefore ending rest → p.vs ≡ 0 → 1 ≤ p.column →
    drop p.index bytes ≡ line ++ ending_bytes ending ++ rest → drop q.index bytes ≡ rest →
    IsEnding bytes (past_text line p) q →
    cells ≡ spread said line p ++ cell 10 q said ∷ more →
    ((cs : List Container) (still : HeldLeaf) → AreRead cs →
    AreRows options bytes cs still q (split_lines (drop q.index bytes)) (rows_at options n cs still more q)) →
    AreRows options bytes open_before still p (split_lines (drop p.index bytes))
    (rows_at options (suc n) open_before still cells p)
next-rows options n bytes said open_before still line ending rest p q cells more built room read short none
    before vs one
    text left is_ending fed further =
    let stop = cell 10 q said ∷ more in
    let whole = spread said line p ++ stop in
    let small : length whole < 2 ^ 63 = let same = ap length fed in omega arith in
    let h : Held = held_at options open_before still whole p in
    let has : HasRow options bytes open_before still p line stop h = has-row options bytes
    (ending_bytes ending ++ rest) said open_before still line p stop built room read small none refl vs one
    (text ∙ append_assoc line (ending_bytes ending) rest) in
    let below : List Row = rows_at options n (open_following h.change) (after_held options h) more q in
    let row : Row = row_of options h below in
    let lines : List (List ℕ) = split_lines (drop q.index bytes) in
    let ends : IsEnding bytes (line_end h.cells h.point) q = subst (λ (r : Point). IsEnding bytes r q)
    (sym has.end) is_ending in
    let those : AreRows options bytes (following_line options open_before still p line)
    row.following q lines below =
    subst (λ (cs : List Container). AreRows options bytes cs row.following q lines below) has.open_is
    (further (open_following h.change) row.following has.read) in
    let rows : AreRows options bytes open_before still p (line ∷ lines) (row ∷ below) =
    rows-onto options bytes line open_before still row p q lines below (has.is below)
    (ap (λ (cs : List Container). closes_before cs below) has.open_is) (ap after_ending has.stops) ends those in
    let split : split_lines (drop p.index bytes) ≡ line ∷ lines =
    ap split_lines text ∙ split-next line ending rest none before
    ∙ ap (λ (l : List ℕ). line ∷ split_lines l) (sym left) in
    subst
    (λ (cs : List Cell).
    AreRows options bytes open_before still p (split_lines (drop p.index bytes))
    (rows_at options (suc n) open_before still cs p))
    (sym fed)
    (subst (λ (l : List Row). AreRows options bytes open_before still p (split_lines (drop p.index bytes)) l)
    (sym (rows-next options h (rows_at options n) (cell 10 q said) more has.stops))
    (subst (λ (l : List (List ℕ)). AreRows options bytes open_before still p l (row ∷ below)) (sym split) rows))

-- The rows from the start of a line on are the lines that are left of the text.
pub rows-are : (options : ParseOptions) (n : ℕ) (x : Setting) (open_before : List Container) (still : HeldLeaf)
    (p : Point) →
    IsWithoutMdx options → AreRead open_before → HasLines x p → length (text_feed x p) < n →
    AreRows options x.bytes open_before still p (split_lines (drop p.index x.bytes))
    (rows_at options n open_before still (text_feed x p) p)
rows-are options zero x open_before still p built read h short = absurd (omega arith)
rows-are options (suc n) x open_before still p built read h short =
    go (first_line (drop p.index x.bytes))
    (λ (q : Point) (k : HasLines x q) (fewer : length (text_feed x q) < n) (cs : List Container) (g : HeldLeaf)
    (those : AreRead cs). rows-are options n x cs g q built those k fewer)
  where
    small : x.limit < 2 ^ 61
    small = let limit = h.limit in let size = h.small in omega arith

    few : length (text_feed x p) < 2 ^ 63
    few = (text-follows x x.limit true small (omega arith) (λ e. refl)).short p

    go : NoEnding (drop p.index x.bytes) ⊎ HasNext (drop p.index x.bytes) →
        ((q : Point) → HasLines x q → length (text_feed x q) < n → (cs : List Container) (g : HeldLeaf) → AreRead cs →
        AreRows options x.bytes cs g q (split_lines (drop q.index x.bytes))
        (rows_at options n cs g (text_feed x q) q)) →
        AreRows options x.bytes open_before still p (split_lines (drop p.index x.bytes))
        (rows_at options (suc n) open_before still (text_feed x p) p)
    go (inl none) more =
        let line = drop p.index x.bytes in
        let joined : drop p.index x.bytes ≡ line ++ [] = sym (append-nil line) in
        let size = front-within x.bytes p.index line [] joined h.index in
        let limit = h.limit in
        let index = past-index line p in
        let has : HasLine x line [] p = record {
          small = small;
          text = joined;
          no_ending = none;
          within = omega arith;
          whole = h.whole;
          column = h.column;
        } in
        last-rows options n x.bytes x.line open_before still line p
        (text_feed x p) built h.small read few none h.index h.whole h.column refl
        (line-feed x line [] p has
        ∙ ap (λ (l : List Cell). spread x.line line p ++ l) (feed-none x (past_text line p) small (omega arith)))
    go (inr h') more =
        let line = h'.line in
        let end = past_text line p in
        let q = past_ending h'.ending end in
        let limit = h.limit in
        let index = past-index line p in
        let joined : drop p.index x.bytes ≡ line ++ (ending_bytes h'.ending ++ h'.rest) = h'.joined
        ∙ append_assoc line (ending_bytes h'.ending) h'.rest in
        let size = front-within x.bytes p.index line (ending_bytes h'.ending ++ h'.rest) joined h.index in
        let parts = length-append (ending_bytes h'.ending) h'.rest in
        let some = ending-some h'.ending in
        let has : HasLine x line
        (ending_bytes h'.ending ++ h'.rest) p = record {
          small = small;
          text = joined;
          no_ending = h'.no_ending;
          within = omega arith;
          whole = h.whole;
          column = h.column;
        } in
        let following : drop end.index x.bytes ≡ ending_bytes h'.ending ++ h'.rest =
        ap (λ (i : ℕ). drop i x.bytes) index
        ∙ drop-past x.bytes p.index line (ending_bytes h'.ending ++ h'.rest) joined in
        let left : drop q.index x.bytes ≡
        h'.rest = drop-past x.bytes end.index (ending_bytes h'.ending) h'.rest following in
        let stop : HasEnding x h'.ending h'.rest end = record {
          small = small;
          text = following;
          before = h'.before;
          within = omega arith;
          begun = begun-none x q h.skips;
        } in
        let fed : text_feed x p ≡
        spread x.line line p ++ cell 10 q x.line
        ∷ text_feed x q = line-feed x line (ending_bytes h'.ending ++ h'.rest) p has
        ∙ ap (λ (l : List Cell). spread x.line line p ++ l) (ending-feed x h'.ending h'.rest end stop) in
        let long = ap length fed ∙ length-append (spread x.line line p) (cell 10 q x.line ∷ text_feed x q) in
        let lines : HasLines x q = record {
          small = h.small;
          limit = h.limit;
          skips = h.skips;
          index = omega arith;
          whole = refl;
          column = omega arith;
        } in
        next-rows options n x.bytes x.line open_before still line h'.ending h'.rest p q (text_feed x p)
        (text_feed x q) built h.small read few h'.no_ending h'.before h.whole h.column h'.joined left
        (is-ending x.bytes h'.ending h'.rest end following h'.before) fed (more q lines (omega arith))

-- So are those that a new tokenizer reads to the end of a text.
pub fresh-rows : (options : ParseOptions) (bytes : List ℕ) (p : Point) → IsWithoutMdx options → length bytes < 2 ^ 61 →
    p.index ≤ length bytes → p.vs ≡ 0 → 1 ≤ p.column →
    AreRows options bytes [] held_leaf.None p (split_lines (drop p.index bytes)) (text_rows options bytes p)
fresh-rows options bytes p built small index whole column =
    rows-are options (suc (length (text_cells bytes options p)))
    (text_setting bytes options p) [] held_leaf.None p built tt
    (record { small = small; limit = refl; skips = refl; index = index; whole = whole; column = column }) (omega arith)
