-- A heading by the cells of its line: it is where the line definition says, and adds what its bytes say.
use Rattle.md_engine.specs.declared.tokenizer.held_leaf.HeldLeaf.TheVariants as held_leaf
use Rattle.std.proofs.Common.{◌≡◌, ℕ, zero, suc, ◌^◌, ◌<◌, ◌≤◌, Bool, true, false, cond, List, [], ◌∷◌, ◌++◌, length}
use Rattle.std.proofs.Common.{refl, sym, ap, ◌∙◌, subst, arith, ◌+◌, ◌-◌, ◌&&◌, append_assoc, append-nil, length-append}
use Rattle.std.specs.Prelude.{◌==◌, nat_le}
use Rattle.std.specs.List.{AllPass}
use Rattle.std.proofs.lemmas.Bool.{and_parts, eqb-true, false≢true}
use Rattle.std.proofs.lemmas.Bool.Decides.{nat_tests}
use Rattle.md_engine.specs.declared.configuration.ParseOptions.{ParseOptions}
use Rattle.md_engine.specs.declared.event.Event.{Event}
use Rattle.md_engine.specs.declared.event.Name.TheVariants.{HeadingAtx, HeadingAtxSequence, SpaceOrTab}
use Rattle.md_engine.specs.declared.event.Point.{Point}
use Rattle.md_engine.specs.declared.tokenizer.Line.{Line}
use Rattle.md_engine.specs.declared.tokenizer.TheConstants.Scratch.{REST}
use Rattle.md_engine.specs.Meaning.{Cell}
use Rattle.md_leaves.specs.Heading.{text_begun, text_from}
use Rattle.md_leaves.specs.HeadingRule.{gap_inside, hashes_inside, heading_inside, is_heading, is_heading_line}
use Rattle.md_leaves.specs.HeadingRule.{is_opening, text_inside}
use Rattle.md_leaves.specs.HeadingRuns.{Apart, line_runs, text_events}
use Rattle.md_leaves.specs.HeadingTitle.{flow_title, text_of, title_of}
use Rattle.md_leaves.proofs.TitleLemmas.{hashes-some, title-whole}
use Rattle.md_leaves.proofs.TitleRuns.{hash-runs, is_hash, pass-first, pass-rest, white-runs}
use Rattle.md_leaves.proofs.TitleTexts.{Parted, parted}
use Rattle.md_events.specs.Ahead.{begins_white, point_after, white_end, white_rest}
use Rattle.md_events.specs.Events.Nested.{around, enter, exit, pair}
use Rattle.md_events.specs.Events.Places.{past_byte, past_text}
use Rattle.md_events.specs.Lent.{whole_from}
use Rattle.md_events.specs.Spaces.{any_size, small_indent}
use Rattle.md_events.specs.WholeLine.{whole_line}
use Rattle.md_meaning.specs.Bytes.{begins}
use Rattle.md_meaning.specs.Lines.{without_ending}
use Rattle.md_meaning.specs.Rest.{Rest, has_small_indent, is_white, run_len, trim_start}
use Rattle.md_meaning.proofs.TextsLemmas.{NoEnding}
use Rattle.md_events.proofs.AheadLemmas.{none-end, none-rest, white-all}
use Rattle.md_events.proofs.FeedLines.{Stops, byte-one, byte_cells, bytes_of, cell, columns_more, next_column}
use Rattle.md_events.proofs.FeedLines.{past_text-column, past_text-whole, spread, spread-end, stops-white, tab_cells}
use Rattle.md_events.proofs.RestCells.{RestAt, rest_cells}
use Rattle.proof_frame.specs.RestLine.{rest_line}
use Rattle.proof_leaf_laws.specs.Leaf.HeadingAtx.{heading_leaf}
use Rattle.proof_frame.proofs.LineTexts.{no_ending-parts, past-whole, without-none}
use Rattle.proof_frame.proofs.MarkRuns.Fits.{Reports, line-fits}
use Rattle.proof_frame.proofs.RestFacts.{Indented, rest-line_end, rest-no_ending, rest-same, rest-trim, small-indented}
use Rattle.proof_frame.proofs.TextAfter.{whole-rest}

-- Where it is.

-- `#` at the front of bytes: one more, and none
hash-one : (b : ℕ) (bs : List ℕ) → (b == 35) ≡ true → run_len 35 (b ∷ bs) ≡ suc (run_len 35 bs)
hash-one b bs e = rw e (omega arith)

hash-none : (b : ℕ) (bs : List ℕ) → (b == 35) ≡ false → run_len 35 (b ∷ bs) ≡ 0
hash-none b bs e = rw e refl

-- an opening run continues after one more, and ends at another byte
opening-hash : (n b : ℕ) (bs : List ℕ) → (b == 35) ≡ true → is_opening n (b ∷ bs) ≡ is_opening (n + 1) bs
opening-hash n b bs e =
    let k = run_len 35 bs in
    let sum : n + suc k ≡ n + 1 + k = omega arith in
    rw (hash-one b bs e, sum) refl

opening-other : (n b : ℕ) (bs : List ℕ) → (b == 35) ≡ false → is_opening n (b ∷ bs) ≡ (nat_le (n + 0) 6 && is_white b)
opening-other n b bs e = rw (hash-none b bs e) refl

-- a heading begins with one, and with no other byte
heading-hash : (b : ℕ) (bs : List ℕ) → (b == 35) ≡ true → is_heading (b ∷ bs) ≡ is_opening 1 bs
heading-hash b bs e =
    let some : nat_le 1 (run_len 35 (b ∷ bs)) ≡ true = rw (hash-one b bs e) (grind (arith, nat_tests)) in
    ap (λ (t : Bool). t && is_opening 0 (b ∷ bs)) some ∙ opening-hash 0 b bs e

pub heading-other : (b : ℕ) (bs : List ℕ) → (b == 35) ≡ false → is_heading (b ∷ bs) ≡ false
heading-other b bs e = rw (hash-none b bs e) refl

-- the first column of a tab ends an opening run, and begins no heading
opening-tab : (n : ℕ) (line : Line) (m : ℕ) (p : Point) (cs : List Cell) →
    is_opening n (bytes_of (tab_cells line m 9 p ++ cs)) ≡ (nat_le (n + 0) 6 && true)
opening-tab n line zero p cs = refl
opening-tab n line (suc m) p cs = refl

heading-tab : (line : Line) (m : ℕ) (p : Point) (cs : List Cell) →
    is_heading (bytes_of (tab_cells line m 9 p ++ cs)) ≡ false
heading-tab line zero p cs = refl
heading-tab line (suc m) p cs = refl

-- a byte that is no tab is one cell
no_tab : (line : Line) (b : ℕ) (bs : List ℕ) (p : Point) → (b == 9) ≡ false →
    bytes_of (spread line (b ∷ bs) p) ≡ b ∷ bytes_of (spread line bs (past_byte b p))
no_tab line b bs p e =
    ap
    (λ (t : Bool).
    bytes_of
    (cond t (tab_cells line (columns_more p) 9 p) (cell b (past_byte b p) line ∷ [])
    ++ spread line bs (past_byte b p))) e

-- an opening run continues in the cells as in the bytes
opening-spread : (n : ℕ) (line : Line) (bytes : List ℕ) (p : Point) →
    is_opening n (bytes_of (spread line bytes p)) ≡ is_opening n bytes
opening-spread n line [] p = refl
opening-spread n line (b ∷ bs) p = go (b == 9) refl (b == 35) refl (opening-spread (n + 1) line bs (past_byte b p))
  where
    go : (t : Bool) → (b == 9) ≡ t → (m : Bool) → (b == 35) ≡ m →
        is_opening (n + 1) (bytes_of (spread line bs (past_byte b p))) ≡ is_opening (n + 1) bs →
        is_opening n (bytes_of (spread line (b ∷ bs) p)) ≡ is_opening n (b ∷ bs)
    go true e m k more =
        let tab : b ≡ 9 = eqb-true b 9 e in
        subst (λ (c : ℕ). is_opening n (bytes_of (spread line (c ∷ bs) p)) ≡ is_opening n (c ∷ bs)) (sym tab)
        (opening-tab n line (columns_more p) p (spread line bs (past_byte 9 p)))
    go false e true k more =
        ap (is_opening n) (no_tab line b bs p e) ∙ opening-hash n b (bytes_of (spread line bs (past_byte b p))) k ∙ more
        ∙ sym (opening-hash n b bs k)
    go false e false k more =
        ap (is_opening n) (no_tab line b bs p e) ∙ opening-other n b (bytes_of (spread line bs (past_byte b p))) k
        ∙ sym (opening-other n b bs k)

-- a line is a heading by its cells if it is by its bytes
heading-spread : (line : Line) (bytes : List ℕ) (p : Point) →
    is_heading (bytes_of (spread line bytes p)) ≡ is_heading bytes
heading-spread line [] p = refl
heading-spread line (b ∷ bs) p = go (b == 9) refl (b == 35) refl
  where
    go : (t : Bool) → (b == 9) ≡ t → (m : Bool) → (b == 35) ≡ m →
        is_heading (bytes_of (spread line (b ∷ bs) p)) ≡ is_heading (b ∷ bs)
    go true e m k =
        let tab : b ≡ 9 = eqb-true b 9 e in
        subst (λ (c : ℕ). is_heading (bytes_of (spread line (c ∷ bs) p)) ≡ is_heading (c ∷ bs)) (sym tab)
        (heading-tab line (columns_more p) p (spread line bs (past_byte 9 p)))
    go false e true k =
        ap is_heading (no_tab line b bs p e) ∙ heading-hash b (bytes_of (spread line bs (past_byte b p))) k
        ∙ opening-spread 1 line bs (past_byte b p) ∙ sym (heading-hash b bs k)
    go false e false k =
        ap is_heading (no_tab line b bs p e) ∙ heading-other b (bytes_of (spread line bs (past_byte b p))) k
        ∙ sym (heading-other b bs k)

-- whitespace begins none
heading-records : Reports is_heading
heading-records = record {
  spread_same = heading-spread;
  dark = λ b bs white. heading-other b bs (other b white);
}
  where
    other : (b : ℕ) → is_white b ≡ true → (b == 35) ≡ false
    other b e = grind (arith, nat_tests)

-- A heading is on the cells of the rest of a line where the line definition has one.
pub heading-fits : (options : ParseOptions) (said : Line) (text following : List ℕ) (r : Rest) (p : Point)
    (stop : List Cell) →
    RestAt text following r p → NoEnding r.bytes → Stops stop → length (rest_cells said r p ++ stop) < 2 ^ 63 →
    is_heading_line options (rest_cells said r p ++ stop) ≡ heading_leaf.starts options held_leaf.None r
heading-fits options said text following r p stop is h k short =
    line-fits is_heading heading-records options.constructs.heading_atx options said text following r p
    stop is h k short

-- What it adds.

-- The cells of two pieces of a line.
spread-both : (said : Line) (xs ys : List ℕ) (p : Point) (stop : List Cell) →
    spread said (xs ++ ys) p ++ stop ≡ spread said xs p ++ (spread said ys (past_text xs p) ++ stop)
spread-both said [] ys p stop = refl
spread-both said (b ∷ xs) ys p stop =
    append_assoc (byte_cells said b p) (spread said (xs ++ ys) (past_byte b p)) stop
    ∙ ap (λ (l : List Cell). byte_cells said b p ++ l) (spread-both said xs ys (past_byte b p) stop)
    ∙ sym
    (append_assoc (byte_cells said b p) (spread said xs (past_byte b p))
    (spread said ys (past_text xs (past_byte b p)) ++ stop))

-- Whitespace in front.

-- cells each of which is whitespace
abbrev AreWhite : List Cell → Type 0
AreWhite [] = Unit {0}
AreWhite (c ∷ cs) = (is_white c.byte ≡ true) × AreWhite cs

white-append : (xs ys : List Cell) → AreWhite xs → AreWhite ys → AreWhite (xs ++ ys)
white-append [] ys h k = k
white-append (c ∷ xs) ys h k = (h.0, white-append xs ys h.1 k)

white-tab : (said : Line) (n b : ℕ) (p : Point) → is_white b ≡ true → AreWhite (tab_cells said n b p)
white-tab said zero b p e = (e, tt)
white-tab said (suc n) b p e = (e, white-tab said n 32 (next_column p) refl)

white-byte : (said : Line) (b : ℕ) (p : Point) → is_white b ≡ true → AreWhite (byte_cells said b p)
white-byte said b p e = go (b == 9)
  where
    go : (t : Bool) → AreWhite (cond t (tab_cells said (columns_more p) 9 p) (cell b (past_byte b p) said ∷ []))
    go true = white-tab said (columns_more p) 9 p refl
    go false = (e, tt)

white-spread : (said : Line) (bytes : List ℕ) (p : Point) → AllPass is_white bytes → AreWhite (spread said bytes p)
white-spread said [] p h = tt
white-spread said (b ∷ bs) p h =
    white-append (byte_cells said b p) (spread said bs (past_byte b p))
    (white-byte said b p (pass-first is_white b bs h))
    (white-spread said bs (past_byte b p) (pass-rest is_white b bs h))

-- where no whitespace is left, such cells are what was taken
record Taken (room : ℕ) (xs rest : List Cell) (p : Point) : Type 0 where
  left : white_rest room (xs ++ rest) ≡ rest
  end : white_end room (xs ++ rest) p ≡ point_after xs p

white-taken : (room : ℕ) (xs rest : List Cell) (p : Point) → AreWhite xs → begins_white rest ≡ false →
    begins_white (white_rest room (xs ++ rest)) ≡ false → Taken room xs rest p
white-taken room [] rest p white e h = record { left = none-rest room rest e; end = none-end room rest p e }
white-taken zero (c ∷ xs) rest p white e h = absurd (false≢true (sym h ∙ white.0))
white-taken (suc room) (c ∷ xs) rest p white e h =
    let more : Taken room xs rest c.after = white-taken room xs rest c.after white.1 e
    (sym
    (ap (λ (t : Bool). begins_white (cond t (white_rest room (xs ++ rest)) (c ∷ (xs ++ rest)))) white.0)
    ∙ h) in
    record {
      left = ap (λ (t : Bool). cond t (white_rest room (xs ++ rest)) (c ∷ (xs ++ rest))) white.0 ∙ more.left;
      end = ap (λ (t : Bool). cond t (white_end room (xs ++ rest) c.after) p) white.0 ∙ more.end;
    }

-- a line continues without whitespace by its cells where it does by its bytes
spread-dark : (said : Line) (bytes : List ℕ) (p : Point) (stop : List Cell) → begins is_white bytes ≡ false →
    Stops stop → begins_white (spread said bytes p ++ stop) ≡ false
spread-dark said [] p stop e k = stops-white stop k
spread-dark said (b ∷ bs) p stop e k =
    ap (λ (l : List Cell). begins_white ((l ++ spread said bs (past_byte b p)) ++ stop)) (byte-one said b p e) ∙ e

-- so whitespace before other bytes is taken as a whole
spread-taken : (room : ℕ) (said : Line) (white bytes : List ℕ) (p : Point) (stop : List Cell) →
    AllPass is_white white → begins is_white bytes ≡ false → Stops stop → 1 ≤ p.column →
    let rest = spread said bytes (past_text white p) ++ stop in
    begins_white (white_rest room (spread said white p ++ rest)) ≡ false →
    (white_rest room (spread said white p ++ rest) ≡ rest) ×
    (white_end room (spread said white p ++ rest) p ≡ past_text white p)
spread-taken room said white bytes p stop are dark k one h =
    let rest = spread said bytes (past_text white p) ++ stop in
    let taken : Taken room (spread said white p) rest p = white-taken room (spread said white p) rest p
    (white-spread said white p are) (spread-dark said bytes (past_text white p) stop dark k) h in
    (taken.left, taken.end ∙ spread-end said white p one)

-- it begins with whitespace, if there is some
byte-white : (said : Line) (b : ℕ) (p : Point) (rest : List Cell) → is_white b ≡ true →
    begins_white (byte_cells said b p ++ rest) ≡ true
byte-white said b p rest e = go (b == 9) (columns_more p)
  where
    go : (t : Bool) (n : ℕ) →
        begins_white (cond t (tab_cells said n 9 p) (cell b (past_byte b p) said ∷ []) ++ rest) ≡ true
    go true zero = refl
    go true (suc n) = refl
    go false n = e

spread-white : (said : Line) (b : ℕ) (bs : List ℕ) (p : Point) (rest : List Cell) → is_white b ≡ true →
    begins_white (spread said (b ∷ bs) p ++ rest) ≡ true
spread-white said b bs p rest e =
    ap begins_white (append_assoc (byte_cells said b p) (spread said bs (past_byte b p)) rest)
    ∙ byte-white said b p (spread said bs (past_byte b p) ++ rest) e

-- the events of whitespace, and then of what follows it
white-events : (said : Line) (white bytes : List ℕ) (p : Point) (stop : List Cell) (some none : List Event) →
    AllPass is_white white → begins is_white bytes ≡ false → Stops stop →
    let q = past_text white p in
    (white ≡ [] → some ≡ none) →
    cond (begins_white (spread said white p ++ (spread said bytes q ++ stop))) (pair SpaceOrTab p q ++ some) none ≡
    line_runs Apart white p ++ some
white-events said [] bytes p stop some none are dark k same =
    ap (λ (t : Bool). cond t (pair SpaceOrTab p p ++ some) none) (spread-dark said bytes p stop dark k)
    ∙ sym (same refl)
white-events said (b ∷ bs) bytes p stop some none are dark k same =
    let q = past_text (b ∷ bs) p in
    ap (λ (t : Bool). cond t (pair SpaceOrTab p q ++ some) none)
    (spread-white said b bs p (spread said bytes q ++ stop) (pass-first is_white b bs are))
    ∙ ap (λ (es : List Event). es ++ some) (sym (white-runs b bs p are))

-- The text, after a byte.
text-inside : (said : Line) (bytes : List ℕ) (p : Point) (stop : List Cell) → NoEnding bytes → Stops stop →
    p.vs ≡ 0 → 1 ≤ p.column → text_inside (spread said bytes p ++ stop) p ≡ text_events bytes p
text-inside said bytes p stop none k whole one =
    ap (λ (l : List ℕ). text_from p (text_begun p REST) l) line
    ∙ ap (λ (t : Bool). cond t (text_events (without_ending bytes) p) []) here
    ∙ ap (λ (l : List ℕ). text_events l p) (without-none bytes none)
  where
    r : Rest
    r = record { column = p.column - 1; spaces = 0; bytes = bytes }

    line : whole_line p (spread said bytes p ++ stop) ≡ bytes
    line = ap (λ (x : Rest). x.bytes) (whole-rest said r p stop none whole (omega arith) k)

    here : ((p.vs == 0) && (p.index == whole_from p)) ≡ true
    here = rw whole (grind (arith, nat_tests))

-- After the opening sequence.
gap-inside : (said : Line) (gap bytes : List ℕ) (p : Point) (stop : List Cell) → AllPass is_white gap →
    begins is_white bytes ≡ false → NoEnding bytes → Stops stop → p.vs ≡ 0 → 1 ≤ p.column →
    length (spread said gap p ++ (spread said bytes (past_text gap p) ++ stop)) ≤ any_size →
    gap_inside (spread said gap p ++ (spread said bytes (past_text gap p) ++ stop)) p ≡
    line_runs Apart gap p ++ text_events bytes (past_text gap p)
gap-inside said gap bytes p stop are dark none k whole one short =
    ap (λ (end : Point). by end (white_rest any_size cells)) taken.1
    ∙ ap (by q) taken.0
    ∙ ap (λ (es : List Event). cond (begins_white cells) (pair SpaceOrTab p q ++ es) (text_inside cells p)) text
    ∙ white-events said gap bytes p stop (text_events bytes q) (text_inside cells p) are dark k same
  where
    q : Point
    q = past_text gap p

    cells : List Cell
    cells = spread said gap p ++ (spread said bytes q ++ stop)

    by : Point → List Cell → List Event
    by end rest = cond (begins_white cells) (pair SpaceOrTab p end ++ text_inside rest end) (text_inside cells p)

    taken : (white_rest any_size cells ≡ spread said bytes q ++ stop) × (white_end any_size cells p ≡ q)
    taken = spread-taken any_size said gap bytes p stop are dark k one (white-all any_size cells short)

    text : text_inside (spread said bytes q ++ stop) q ≡ text_events bytes q
    text =
        text-inside said bytes q stop none k (past_text-whole gap p whole) (past_text-column gap p one)

    same : gap ≡ [] → text_events bytes q ≡ text_inside cells p
    same e =
        sym
        (ap (λ (g : List ℕ). text_inside (spread said g p ++ (spread said bytes (past_text g p) ++ stop)) p) e
        ∙ text-inside said bytes p stop none k whole one
        ∙ ap (λ (g : List ℕ). text_events bytes (past_text g p)) (sym e))

-- In it.

-- what is no `#` ends it
sequence-ends : (said : Line) (bytes : List ℕ) (p : Point) (stop : List Cell) → begins is_hash bytes ≡ false →
    Stops stop →
    hashes_inside (spread said bytes p ++ stop) p ≡
    exit HeadingAtxSequence p ∷ gap_inside (spread said bytes p ++ stop) p
sequence-ends said [] p [] e k = refl
sequence-ends said [] p (c ∷ cs) e k =
    let other : (c.byte == 35) ≡ false = ap (λ (b : ℕ). b == 35) (eqb-true c.byte 10 k) in
    ap (λ (t : Bool). cond t (hashes_inside cs c.after) (exit HeadingAtxSequence p ∷ gap_inside (c ∷ cs) p)) other
sequence-ends said (b ∷ bs) p stop e k = go (b == 9) (columns_more p)
  where
    left : List Cell
    left = spread said bs (past_byte b p)

    Ends : List Cell → Type 0
    Ends cells = hashes_inside cells p ≡ exit HeadingAtxSequence p ∷ gap_inside cells p

    go : (t : Bool) (n : ℕ) →
        Ends ((cond t (tab_cells said n 9 p) (cell b (past_byte b p) said ∷ []) ++ left) ++ stop)
    go true zero = refl
    go true (suc n) = refl
    go false n =
        let first : Cell = cell b (past_byte b p) said in
        ap
        (λ (t : Bool).
        cond t (hashes_inside (left ++ stop) (past_byte b p))
        (exit HeadingAtxSequence p ∷ gap_inside (first ∷ (left ++ stop)) p)) e

-- each `#` is one cell
hashes-inside : (said : Line) (hashes bytes : List ℕ) (p : Point) (stop : List Cell) → AllPass is_hash hashes →
    begins is_hash bytes ≡ false → Stops stop →
    let q = past_text hashes p in
    hashes_inside (spread said hashes p ++ (spread said bytes q ++ stop)) p ≡
    exit HeadingAtxSequence q ∷ gap_inside (spread said bytes q ++ stop) q
hashes-inside said [] bytes p stop are other k = sequence-ends said bytes p stop other k
hashes-inside said (b ∷ bs) bytes p stop are other k =
    let here : (b == 35) ≡ true = pass-first is_hash b bs are in
    let black : is_white b ≡ false = ap is_white (eqb-true b 35 here) in
    let more : List Cell = spread said bs (past_byte b p) in
    let rest : List Cell = spread said bytes (past_text (b ∷ bs) p) ++ stop in
    ap (λ (l : List Cell). hashes_inside ((l ++ more) ++ rest) p) (byte-one said b p black)
    ∙ ap
    (λ (t : Bool).
    cond t (hashes_inside (more ++ rest) (past_byte b p))
    (exit HeadingAtxSequence p ∷ gap_inside (cell b (past_byte b p) said ∷ (more ++ rest)) p)) here
    ∙ hashes-inside said bs bytes (past_byte b p) stop (pass-rest is_hash b bs are) other k

-- The opening sequence has a `#`.
sequence-inside : (said : Line) (hashes bytes : List ℕ) (p : Point) (stop : List Cell) → (hashes ≡ [] → ⊥) →
    AllPass is_hash hashes → begins is_hash bytes ≡ false → Stops stop →
    let q = past_text hashes p in
    enter HeadingAtxSequence p ∷ hashes_inside (spread said hashes p ++ (spread said bytes q ++ stop)) p ≡
    line_runs Apart hashes p ++ gap_inside (spread said bytes q ++ stop) q
sequence-inside said [] bytes p stop some are other k = absurd (some refl)
sequence-inside said (b ∷ bs) bytes p stop some are other k =
    let q = past_text (b ∷ bs) p in
    ap (λ (es : List Event). enter HeadingAtxSequence p ∷ es) (hashes-inside said (b ∷ bs) bytes p stop are other k)
    ∙ ap (λ (es : List Event). es ++ gap_inside (spread said bytes q ++ stop) q) (sym (hash-runs b bs p are))

-- What is in a heading, where its indent may be so large.
abbrev front_inside : ℕ → List Cell → Point → List Event
front_inside room cells p =
    let q = white_end room cells p in
    cond (begins_white cells) (pair SpaceOrTab p q) []
    ++ enter HeadingAtxSequence q ∷ hashes_inside (white_rest room cells) q

-- A tab that is cut is whitespace as well as one that is not.
indent-same : (room : ℕ) (said : Line) (at : Point) (cs : List Cell) (p : Point) →
    front_inside room (cell 32 at said ∷ cs) p ≡ front_inside room (cell 9 at said ∷ cs) p
indent-same zero said at cs p = refl
indent-same (suc room) said at cs p = refl

dark-same : (room : ℕ) (said : Line) (at : Point) (cs : List Cell) →
    begins_white (white_rest room (cell 32 at said ∷ cs)) ≡ begins_white (white_rest room (cell 9 at said ∷ cs))
dark-same zero said at cs = refl
dark-same (suc room) said at cs = refl

-- By the cells of a line the same is in it as by its bytes.
front-inside : (room : ℕ) (said : Line) (line : List ℕ) (p : Point) (stop : List Cell) → NoEnding line → Stops stop →
    1 ≤ p.column → begins_white (white_rest room (spread said line p ++ stop)) ≡ false →
    length (spread said line p ++ stop) ≤ any_size → is_heading (trim_start line) ≡ true →
    front_inside room (spread said line p ++ stop) p ≡ flow_title (title_of line p)
front-inside room said line p stop none k one room_is short heading =
    ap (λ (l : List Cell). front_inside room l p) cut
    ∙ ap (λ (q : Point). by q (white_rest room cells)) taken.1
    ∙ ap (by p1) taken.0
    ∙ ap (λ (es : List Event). es ++ enter HeadingAtxSequence p1 ∷ hashes_inside left p1) indent
    ∙ ap (λ (es : List Event). line_runs Apart x.indent p ++ es)
    (ap (λ (l : List Cell). enter HeadingAtxSequence p1 ∷ hashes_inside l p1)
    (spread-both said x.hashes (x.gap ++ text) p1 stop)
    ∙ sequence-inside said x.hashes (x.gap ++ text) p1 stop (hashes-some line x.hashes x.depth heading)
    x.hashes_are x.after_hashes k
    ∙ ap (λ (es : List Event). line_runs Apart x.hashes p1 ++ es)
    (ap (λ (l : List Cell). gap_inside l p2) (spread-both said x.gap text p2 stop)
    ∙ gap-inside said x.gap text p2 stop x.gap_is x.following_gap text_none k (past-whole x.hashes p1 some)
    (past_text-column x.hashes p1 (past_text-column x.indent p one)) fits))
    ∙ sym (title-whole line x p)
  where
    x : Parted line
    x = parted line

    text : List ℕ
    text = text_of line ++ x.back

    p1 : Point
    p1 = past_text x.indent p

    p2 : Point
    p2 = past_text x.hashes p1

    p3 : Point
    p3 = past_text x.gap p2

    -- after the indent
    left : List Cell
    left = spread said (x.hashes ++ (x.gap ++ text)) p1 ++ stop

    cells : List Cell
    cells = spread said x.indent p ++ left

    cut : spread said line p ++ stop ≡ cells
    cut =
        ap (λ (l : List ℕ). spread said l p ++ stop) x.whole
        ∙ spread-both said x.indent (x.hashes ++ (x.gap ++ text)) p stop

    by : Point → List Cell → List Event
    by q rest =
        cond (begins_white cells) (pair SpaceOrTab p q) [] ++ enter HeadingAtxSequence q ∷ hashes_inside rest q

    taken : (white_rest room cells ≡ left) × (white_end room cells p ≡ p1)
    taken =
        spread-taken room said x.indent (x.hashes ++ (x.gap ++ text)) p stop x.indent_is x.after_indent k one
        (sym (ap (λ (l : List Cell). begins_white (white_rest room l)) cut) ∙ room_is)

    indent : cond (begins_white cells) (pair SpaceOrTab p p1) [] ≡ line_runs Apart x.indent p
    indent =
        white-events said x.indent (x.hashes ++ (x.gap ++ text)) p stop [] [] x.indent_is x.after_indent k
        (λ e. refl)
        ∙ append-nil (line_runs Apart x.indent p)

    some : 0 < length x.hashes
    some =
        let least : nat_le 1 (run_len 35 (trim_start line)) ≡
        true = (and_parts (nat_le 1 (run_len 35 (trim_start line))) (is_opening 0 (trim_start line)) heading).0 in
        let depth : 1 ≤ run_len 35 (trim_start line) = grind (arith, nat_tests, least) in
        omega (arith, x.depth, depth)

    text_none : NoEnding text
    text_none =
        (no_ending-parts x.gap text
        (no_ending-parts x.hashes (x.gap ++ text)
        (no_ending-parts x.indent (x.hashes ++ (x.gap ++ text)) (subst NoEnding x.whole none)).1).1).1

    fits : length (spread said x.gap p2 ++ (spread said text p3 ++ stop)) ≤ any_size
    fits =
        let following : List Cell = spread said x.gap p2 ++ (spread said text p3 ++ stop) in
        let whole : length (spread said line p ++ stop) ≡
        length (spread said x.indent p) + length left = ap length cut ∙ length-append (spread said x.indent p) left in
        let hashes : length left ≡ length (spread said x.hashes p1) + length following = ap length
        (spread-both said x.hashes (x.gap ++ text) p1 stop
        ∙ ap (λ (l : List Cell). spread said x.hashes p1 ++ l) (spread-both said x.gap text p2 stop))
        ∙ length-append (spread said x.hashes p1) following in
        omega (arith, whole, hashes, short)

-- What it adds for the cells of the rest of a line are the parts of its bytes.
pub heading-adds : (options : ParseOptions) (said : Line) (text following : List ℕ) (r : Rest) (p : Point)
    (stop : List Cell) →
    RestAt text following r p → NoEnding r.bytes → Stops stop → length (rest_cells said r p ++ stop) < 2 ^ 63 →
    heading_leaf.starts options held_leaf.None r ≡ true →
    heading_leaf.adds options held_leaf.None (rest_cells said r p ++ stop) p ≡
    heading_leaf.added options held_leaf.None (rest_line r) p
heading-adds options said text following r p stop is h k short starts =
    ap (λ (q : Point). around HeadingAtx p q (heading_inside options cells p))
    (rest-line_end said r p stop h k one is.cut)
    ∙ ap (around HeadingAtx p (past_text (rest_line r) p)) inside
  where
    cells : List Cell
    cells = rest_cells said r p ++ stop

    room : ℕ
    room = small_indent options

    one : 1 ≤ p.column
    one = omega (arith, is.column)

    parts : ((options.constructs.heading_atx && has_small_indent options r) ≡ true) ×
        (is_heading (trim_start r.bytes) ≡ true)
    parts =
        and_parts (options.constructs.heading_atx && has_small_indent options r) (is_heading (trim_start r.bytes))
        starts

    small : has_small_indent options r ≡ true
    small = (and_parts options.constructs.heading_atx (has_small_indent options r) parts.0).1

    indented : Indented options said r p stop
    indented = small-indented options said text following r p stop is h k short small

    size : length cells ≡ length (spread said (rest_line r) p ++ stop)
    size = rest-same ℕ length said (λ at cs. refl) r p stop one is.cut

    inside : heading_inside options cells p ≡ flow_title (title_of (rest_line r) p)
    inside =
        rest-same (List Event) (λ (l : List Cell). front_inside room l p) said
        (λ at cs. indent-same room said at cs p) r p stop one is.cut
        ∙ front-inside room said (rest_line r) p stop (rest-no_ending r h) k one
        (sym
        (rest-same Bool (λ (l : List Cell). begins_white (white_rest room l)) said (dark-same room said) r p stop one
        is.cut)
        ∙ indented.none)
        (omega (arith, size, short)) (ap is_heading (rest-trim r) ∙ parts.1)
