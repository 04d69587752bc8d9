-- The rows of a text are read from the cells of its lines, from any line on.
use Rattle.std.proofs.Common.{◌≡◌, ◌⊎◌, inl, ℕ, zero, suc, ◌+◌, ◌^◌, ◌<◌, Bool, true, false, cond, List, [], ◌∷◌, ◌++◌}
use Rattle.std.proofs.Common.{length, drop, refl, sym, ap, ◌∙◌, subst, append-nil, append_assoc, arith}
use Rattle.std.specs.Prelude.{Some, None}
use Rattle.std.proofs.lemmas.List.{length-append}
use Rattle.md_engine.specs.declared.configuration.ParseOptions.{ParseOptions}
use Rattle.md_engine.specs.declared.event.Point.{Point}
use Rattle.md_engine.specs.declared.tokenizer.held_leaf.HeldLeaf.{HeldLeaf}
use Rattle.md_engine.specs.declared.tokenizer.held_leaf.HeldLeaf.TheVariants as held_leaf
use Rattle.md_engine.specs.declared.tokenizer.Line.{Line}
use Rattle.md_engine.specs.Meaning.{Cell}
use Rattle.md_engine.specs.TextFeed.{text_feed}
use Rattle.md_engine.specs.World.{Setting}
use Rattle.md_engine.proofs.TextFeed.{text-follows}
use Rattle.md_meaning.specs.Bytes.{is_end}
use Rattle.md_meaning.specs.State.{Container}
use Rattle.md_meaning.proofs.TextsLemmas.{NoEnding, ending_bytes}
use Rattle.md_events.specs.Ahead.{from_ending}
use Rattle.md_events.specs.Events.Places.{past_text}
use Rattle.md_events.proofs.FeedLines.{Stops, begun-none, cell, drop-past, ending-feed, ending-some, feed-none}
use Rattle.md_events.proofs.FeedLines.{front-within, line-feed, past_ending, spread}
use Rattle.md_events.proofs.InlineLemmas.{past-index}
use Rattle.md_events.proofs.PlacesLemmas.{Placed, placed-text}
use Rattle.proof_leaf_laws.proofs.FullLines.{IsLines, LastLine, NextLine, NoLines, ending-is, last-ending}
use Rattle.md_events.specs.Exact.Places.{TextLine, line_at, line_end, lines_from, next_line, place, whole}
use Rattle.proof_exact_pieces.proofs.OnLine.{LineIn, whole-on}
use Rattle.proof_exact_pieces.proofs.PlaceLemmas.{line_start}
use Rattle.proof_exact_lines.proofs.Front.{begin}
use Rattle.proof_frame.specs.Change.{open_following}
use Rattle.proof_frame.specs.Row.{Row}
use Rattle.proof_frame.proofs.RegistryRead.{AreRead}
use Rattle.proof_frame.proofs.RestRows.{rest-ending}
use Rattle.proof_frame.proofs.LineTexts.{without-one}
use Rattle.proof_rows.specs.Fronted.{Contained, contained}
use Rattle.proof_rows.specs.Rows.{Held, after_ending, after_held, held_at, onto_rows, row_of, rows_at, rows_by}
use Rattle.proof_exact.proofs.TextLines.{begin-following, placed-following, some-ending}
use Rattle.proof_rows.specs.WithoutMdx.{IsWithoutMdx}
use Rattle.proof_rows.proofs.FrontRows.{held-is}
use Rattle.proof_exact.proofs.Fed.{AreFed, IsFed}
use Rattle.proof_exact.proofs.RowFronts.{line_cells}
use Rattle.md_leaves.proofs.OneLine.{line-whole}

-- One line.

-- after its cells these are
stops-fed : (options : ParseOptions) (said : Line) (bytes following : List ℕ) (open_before : List Container)
    (still : HeldLeaf) (line : TextLine) (stop : List Cell) →
    IsWithoutMdx options → LineIn bytes following line → AreRead open_before → Stops stop →
    length (line_cells said line stop) < 2 ^ 63 →
    let h = held_at options open_before still (line_cells said line stop) (line_start line) in
    AreRead (open_following h.change) × (from_ending h.cells ≡ stop)
stops-fed options said bytes following open_before still line stop built is read k short =
    let h : Held = held_at options open_before still (line_cells said line stop) (line_start line) in
    let c : Contained = contained options open_before still (whole line) in
    let has = held-is options said bytes following open_before still (whole line) stop (line_start line) built read
    (whole-on bytes following line is).valid is.plain k short in
    let column = has.valid.column in (
      has.read,
      ap from_ending has.fed
          ∙ rest-ending said c.rest h.point stop has.no_ending k (omega (arith, column)) has.valid.cut,
    )

-- the rows after a line, by the cells that are after its own
abbrev after_by : ParseOptions → ℕ → Held → List Cell → List Row
after_by options n h cells = elim cells [
  | [] ↦ []
  | c ∷ cs ↦ rows_at options n (open_following h.change) (after_held options h) cs c.after
]

-- so it is a line before those
onto-fed : (options : ParseOptions) (n : ℕ) (said : Line) (bytes following : List ℕ) (open_before : List Container)
    (still : HeldLeaf) (line : TextLine) (lines : List TextLine) (cells stop : List Cell) →
    IsWithoutMdx options → LineIn bytes following line → AreRead open_before → length cells < 2 ^ 63 → Stops stop →
    (line.column ≡ 0) ⊎ (still ≡ held_leaf.None) →
    after_ending stop ≡ cond (is_end line.ending) None (Some (next_line line)) → cells ≡ line_cells said line stop →
    ((h : Held) → AreRead (open_following h.change) →
    AreFed options bytes (open_following h.change) (after_held options h) lines (after_by options n h stop)) →
    AreFed options bytes open_before still (line ∷ lines)
    (rows_at options (suc n) open_before still cells (line_start line))
onto-fed options n said bytes following open_before still line lines cells stop built is read short k column after fed
    further =
    let own : List Cell = line_cells said line stop in
    let few : length own < 2 ^ 63 = subst (λ (l : List Cell). length l < 2 ^ 63) fed short in
    let h : Held = held_at options open_before still own (line_start line) in
    let stops = stops-fed options said bytes following open_before still line stop built is read k few in
    let row : Row = row_of options h (after_by options n h stop) in
    let rows : rows_by options h (rows_at options n) ≡ row ∷ after_by options n h stop =
    ap (λ (l : List Cell). onto_rows options h (after_by options n h l)) stops.1 in
    let one : IsFed options bytes open_before still line row = record {
      said = said;
      following = following;
      stop = stop;
      within = is;
      stops = k;
      short = few;
      read = read;
      front = refl;
      first = refl;
      after = ap after_ending stops.1 ∙ after;
      column = column;
    } in
    subst
    (λ (l : List Cell).
    AreFed options bytes open_before still (line ∷ lines)
    (rows_at options (suc n) open_before still l (line_start line)))
    (sym fed)
    (subst (AreFed options bytes open_before still (line ∷ lines)) (sym rows) ((one, refl, further h stops.0)))

-- All lines.

-- a text that is read to its end
pub record ReadsAll (x : Setting) : Type 0 where
  pub small : length x.bytes < 2 ^ 61
  pub limit : x.limit ≡ length x.bytes
  pub skips : x.skips ≡ []

-- a line begins in the text
line-in : (bytes following : List ℕ) (line : TextLine) → NoEnding line.bytes → Placed bytes (line_start line) →
    drop line.index bytes ≡ line.bytes ++ following → LineIn bytes following line
line-in bytes following line plain placed is = record {
  valid = record { index = placed.index; text_is = is };
  plain = plain;
  begins = placed;
}

-- the last one, with these bytes
last-line : (options : ParseOptions) (n : ℕ) (x : Setting) (open_before : List Container) (still : HeldLeaf)
    (number index column : ℕ) (full : List ℕ) →
    IsWithoutMdx options → ReadsAll x → AreRead open_before → Placed x.bytes (begin number index column) →
    (column ≡ 0) ⊎ (still ≡ held_leaf.None) → drop index x.bytes ≡ full → NoEnding full →
    let p = begin number index column in
    AreFed options x.bytes open_before still (line_at number index column full ∷ [])
    (rows_at options (suc n) open_before still (text_feed x p) p)
last-line options n x open_before still number index column full built is read placed first text none =
    onto-fed options n x.line x.bytes [] open_before still line [] (text_feed x p) [] built
    (line-in x.bytes [] line (subst NoEnding (sym own) none) placed (joined ∙ ap (λ (l : List ℕ). l ++ []) (sym own)))
    read few tt first
    (sym (ap (λ (t : Bool). cond t None (Some (next_line line))) (ap is_end (last-ending full none))))
    (fed ∙ ap (λ (l : List ℕ). spread x.line l p ++ []) (sym own)) (λ h those. tt)
  where
    p : Point
    p = begin number index column

    line : TextLine
    line = line_at number index column full

    own : line.bytes ≡ full
    own = line-whole full none

    small : x.limit < 2 ^ 61
    small = let limit = is.limit in let size = is.small in omega (arith, limit, size)

    few : length (text_feed x p) < 2 ^ 63
    few = (text-follows x x.limit true small (omega arith) (λ e. refl)).short p

    joined : drop index x.bytes ≡ full ++ []
    joined = text ∙ sym (append-nil full)

    fed : text_feed x p ≡ spread x.line full p ++ []
    fed =
        let size = front-within x.bytes index full [] joined placed.index in
        let limit = is.limit in
        let at = past-index full p in
        line-feed x full [] p (record {
          small = small;
          text = joined;
          no_ending = none;
          within = omega (arith, limit, size);
          whole = refl;
          column = omega arith;
        })
        ∙ ap (λ (l : List Cell). spread x.line full p ++ l)
        (feed-none x (past_text full p) small (omega (arith, limit, size, at)))

pub rows-fed : (options : ParseOptions) (n : ℕ) (x : Setting) (open_before : List Container) (still : HeldLeaf)
    (number index column : ℕ) (text : List ℕ) (fulls : List (List ℕ)) →
    IsWithoutMdx options → ReadsAll x → AreRead open_before → Placed x.bytes (begin number index column) →
    (column ≡ 0) ⊎ (still ≡ held_leaf.None) → drop index x.bytes ≡ text → IsLines text fulls →
    let p = begin number index column in
    length (text_feed x p) < n →
    AreFed options x.bytes open_before still (lines_from number index column fulls)
    (rows_at options n open_before still (text_feed x p) p)
rows-fed options zero x open_before still number index column text fulls built is read placed first at lines short =
    absurd (omega (arith, short))
rows-fed options (suc n) x open_before still number index column text fulls built is read placed first at NoLines
    short =
    last-line options n x open_before still number index column [] built is read placed first at tt
rows-fed options (suc n) x open_before still number index column text fulls built is read placed first at
    (LastLine b line h) short =
    subst
    (λ (t : Bool).
    AreFed options x.bytes open_before still
    (line_at number index column (b ∷ line)
    ∷ cond t [] (lines_from (number + 1) (index + length (b ∷ line)) 0 []))
    (rows_at options (suc n) open_before still (text_feed x (begin number index column)) (begin number index column)))
    (sym (ap is_end (last-ending (b ∷ line) h)))
    (last-line options n x open_before still number index column (b ∷ line) built is read placed first at h)
rows-fed options (suc n) x open_before still number index column text fulls built is read placed first at
    (NextLine line ending rest more h before same so) short =
    subst
    (λ (t : Bool).
    AreFed options x.bytes open_before still
    (own ∷ cond t [] (lines_from (number + 1) (index + length full) 0 more))
    (rows_at options (suc n) open_before still (text_feed x p) p)) (sym some)
    (onto-fed options n x.line x.bytes following open_before still own
    (lines_from (number + 1) (index + length full) 0 more) (text_feed x p) (cell 10 q x.line ∷ text_feed x q) built
    (line-in x.bytes following own (subst NoEnding (sym bytes) h) placed
    (at ∙ ap (λ (l : List ℕ). l ++ following) (sym bytes))) read few refl first
    (ap (λ (r : Point). Some r) next ∙ sym (ap (λ (t : Bool). cond t None (Some (next_line own))) some))
    (fed ∙ ap (λ (l : List ℕ). spread x.line l p ++ cell 10 q x.line ∷ text_feed x q) (sym bytes))
    (λ held those.
    rows-fed options n x (open_following held.change) (after_held options held) (number + 1)
    (index + length full) 0 rest
    more built is those
    (subst (Placed x.bytes) following-is (placed-following x.bytes ending rest end at_end before there)) (inl refl)
    (drop-past x.bytes index full rest (at ∙ sym (append_assoc line (ending_bytes ending) rest))) same left))
  where
    p : Point
    p = begin number index column

    full : List ℕ
    full = line ++ ending_bytes ending

    following : List ℕ
    following = ending_bytes ending ++ rest

    own : TextLine
    own = line_at number index column full

    bytes : own.bytes ≡ line
    bytes = without-one line ending h

    ends : own.ending ≡ ending_bytes ending
    ends = ending-is line ending h

    some : is_end own.ending ≡ false
    some = ap is_end ends ∙ some-ending ending

    end : Point
    end = past_text line p

    q : Point
    q = begin (number + 1) (index + length full) 0

    following-is : past_ending ending end ≡ q
    following-is = begin-following number index column line ending

    next : q ≡ next_line own
    next =
        let size = ap (λ (l : List ℕ). length l) bytes in
        let ending_size = ap (λ (l : List ℕ). length l) ends in
        let all = length-append line (ending_bytes ending) in
        sym
        (ap
        (λ (t : Bool).
        cond t (place own (line_end own)) (begin (number + 1) (index + length own.bytes + length own.ending) 0)) some
        ∙ ap (λ (i : ℕ). begin (number + 1) i 0) (omega (arith, size, ending_size, all)))

    small : x.limit < 2 ^ 61
    small = let limit = is.limit in let size = is.small in omega (arith, limit, size)

    few : length (text_feed x p) < 2 ^ 63
    few = (text-follows x x.limit true small (omega arith) (λ e. refl)).short p

    there : Placed x.bytes end
    there = placed-text x.bytes p line following placed at h

    at_end : drop end.index x.bytes ≡ following
    at_end = ap (λ (i : ℕ). drop i x.bytes) (past-index line p) ∙ drop-past x.bytes index line following at

    fed : text_feed x p ≡ spread x.line line p ++ cell 10 q x.line ∷ text_feed x q
    fed =
        let size = front-within x.bytes index line following at placed.index in
        let limit = is.limit in
        let here = past-index line p in
        let parts = length-append (ending_bytes ending) rest in
        let one = ending-some ending in
        line-feed x line following p (record {
          small = small;
          text = at;
          no_ending = h;
          within = omega (arith, limit, size);
          whole = refl;
          column = omega arith;
        })
        ∙ ap (λ (l : List Cell). spread x.line line p ++ l)
        (ending-feed x ending rest end (record {
          small = small;
          text = at_end;
          before = before;
          within = omega (arith, limit, size, here, parts, one);
          begun = begun-none x (past_ending ending end) is.skips;
        })
        ∙ ap (λ (r : Point). cell 10 r x.line ∷ text_feed x r) following-is)

    left : length (text_feed x q) < n
    left =
        let size = ap (λ (l : List Cell). length l) fed
        ∙ length-append (spread x.line line p) (cell 10 q x.line ∷ text_feed x q) in
        omega (arith, size, short)
