-- The front of a text: the events of its mark and its frontmatter are those of its lines.
use Rattle.std.proofs.Common.{◌≡◌, ℕ, suc, ◌+◌, ◌-◌, ◌≤◌, Bool, true, false, cond, ◌&&◌, ◌||◌, List, [], ◌∷◌}
use Rattle.std.proofs.Common.{◌++◌, length, map, take, drop, refl, sym, ap, ap₂, ◌∙◌, append-nil, append_assoc, arith}
use Rattle.std.specs.Prelude.{◌==◌, not, Option, Some, None}
use Rattle.std.specs.List.{after_first, before_first, list_any, position_or_len}
use Rattle.std.specs.Option.{is_some, option_map}
use Rattle.std.proofs.lemmas.Bool.{and_parts, eqb-true}
use Rattle.std.proofs.lemmas.Bool.Decides.{nat_tests}
use Rattle.std.proofs.lemmas.List.{length-drop}
use Rattle.std.proofs.lemmas.List.Folds.{length-prefix_len}
use Rattle.std.proofs.lemmas.List.Sums.{prefix_len-le-length, take_while-cons}
use Rattle.md_engine.specs.declared.configuration.ParseOptions.{ParseOptions}
use Rattle.md_engine.specs.declared.event.Event.{Event}
use Rattle.md_engine.specs.declared.event.Name.{Name}
use Rattle.md_engine.specs.declared.event.Name.TheVariants as n
use Rattle.md_engine.specs.declared.event.Point.{Point}
use Rattle.md_engine.specs.Place.{first_point}
use Rattle.md_meaning.specs.Bytes.{is_end}
use Rattle.md_meaning.specs.Lines.{full_lines_of, is_ending, without_ending}
use Rattle.md_meaning.specs.Preamble.{Front, first_column, front_by, front_marker, front_of, has_mark, is_front_fence}
use Rattle.md_meaning.specs.Preamble.{without_mark}
use Rattle.md_meaning.specs.Rest.{Rest, is_blank, run_len}
use Rattle.md_meaning.specs.Texts.{first_byte}
use Rattle.md_meaning.specs.Tree.{Frontmatter}
use Rattle.md_meaning.proofs.TextsLemmas.{Both, Ending, LineFeed, Return, ending_bytes}
use Rattle.md_events.specs.Events.Nested.{around, enter, exit, pair}
use Rattle.md_events.specs.Events.Places.{past_text}
use Rattle.md_events.proofs.InlineLemmas.{past-index}
use Rattle.proof_frame.specs.LineColumns.{part_over}
use Rattle.proof_leaf_laws.specs.Front.{FrontRead, after_these, ending_of, ending_part, fence_part, line_part}
use Rattle.proof_leaf_laws.specs.Front.{lines_read}
use Rattle.proof_leaf_laws.specs.Front.{events_of, front_from, front_read, past_ending, text_front}
use Rattle.proof_leaf_laws.specs.Front as rooms
use Rattle.proof_leaf_laws.proofs.FullLines.{IsLines, LastLine, NextLine, NoLines, ending-is, full-lines}
use Rattle.proof_leaf_laws.proofs.Frontmatter.Found.{first-here, first-later, marker-marks}
use Rattle.md_events.specs.Exact.Blocks as exact_blocks
use Rattle.md_events.specs.Exact.Blocks.{front_line, front_row, front_size, tail, text_lines}
use Rattle.md_events.specs.Exact.Leaves.{joined, last_end, leaf, start}
use Rattle.md_events.specs.Exact.Places as exact
use Rattle.md_events.specs.Exact.Places.{TextLine, line_at, line_end, lines_from, next_line, past, piece, place, whole}
use Rattle.md_events.specs.Exact.Rows.{Row}
use Rattle.proof_exact_pieces.proofs.OnLine.{past-line}
use Rattle.proof_exact_pieces.proofs.PlaceLemmas.{line_start}
use Rattle.proof_exact_pieces.proofs.WholePlaces.{place-end, place-past, place-whole}

abbrev rest : ℕ → List ℕ → Rest
rest column bytes = record { column = column; spaces = 0; bytes = bytes }

-- what is from a rest to the end of the line
over-same : (line : TextLine) (name : Name) (column : ℕ) (bytes : List ℕ) (p q : Point) →
    place line (rest column bytes) ≡ p → place line (line_end line) ≡ q →
    piece line name (rest column bytes) (line_end line) ≡ part_over name bytes p q
over-same line name column [] p q e f = refl
over-same line name column (b ∷ bs) p q e f =
    let some : (suc (length bs) == 0) ≡ false = grind (arith, nat_tests) in
    ap
    (λ (x : Bool).
    cond (x && true) [] (pair name (place line (rest column (b ∷ bs))) (place line (line_end line)))) some
    ∙ ap₂ (λ (x y : Point). pair name x y) e f

-- a line that is no fence
line-same : (m : ℕ) (line : TextLine) → is_front_fence m line.bytes ≡ false →
    front_line m line (whole line) ≡ line_part line.bytes (line_start line)
line-same m line other =
    ap
    (λ (x : Bool).
    cond x
    (exact.part line n.FrontmatterFence (whole line) (line_end line)
    (piece line n.FrontmatterSequence (whole line) (past 3 (whole line))
    ++ exact.white line (past 3 (whole line)) (line_end line)))
    (piece line n.FrontmatterChunk (whole line) (line_end line))) other
    ∙ over-same line n.FrontmatterChunk line.column line.bytes (line_start line)
    (past_text line.bytes (line_start line)) (place-whole line) (place-end line)

-- a fence has its three markers at least
fence-long : (m : ℕ) (bytes : List ℕ) → is_front_fence m bytes ≡ true → 3 ≤ length bytes
fence-long m bytes fence =
    let parts = and_parts (run_len m bytes == 3) (is_blank (drop 3 bytes)) fence in
    let three : run_len m bytes ≡ 3 = eqb-true (run_len m bytes) 3 parts.0 in
    let most : run_len m bytes ≤ length bytes = prefix_len-le-length (λ (b : ℕ). b == m) bytes in
    omega (arith, three, most)

fence-same : (m : ℕ) (line : TextLine) → is_front_fence m line.bytes ≡ true →
    front_line m line (whole line) ≡ fence_part line.bytes (line_start line)
fence-same m line fence =
    ap
    (λ (x : Bool).
    cond x
    (exact.part line n.FrontmatterFence (whole line) (line_end line)
    (piece line n.FrontmatterSequence (whole line) (past 3 (whole line))
    ++ exact.white line (past 3 (whole line)) (line_end line)))
    (piece line n.FrontmatterChunk (whole line) (line_end line))) fence
    ∙ ap₂ (λ (a b : Point). around n.FrontmatterFence a b inside) (place-whole line) (place-end line)
    ∙ ap₂ (λ (xs ys : List Event). around n.FrontmatterFence p r (xs ++ ys)) sequence following
  where
    p : Point
    p = line_start line

    q : Point
    q = past_text (take 3 line.bytes) p

    r : Point
    r = past_text line.bytes p

    inside : List Event
    inside =
        piece line n.FrontmatterSequence (whole line) (past 3 (whole line))
        ++ exact.white line (past 3 (whole line)) (line_end line)

    apart : (length line.bytes == length (drop 3 line.bytes)) ≡ false
    apart =
        let long = fence-long m line.bytes fence in
        let left = length-drop 3 line.bytes in
        grind (arith, nat_tests)

    sequence : piece line n.FrontmatterSequence (whole line) (past 3 (whole line)) ≡ pair n.FrontmatterSequence p q
    sequence =
        ap
        (λ (x : Bool).
        cond (x && true) []
        (pair n.FrontmatterSequence (place line (whole line)) (place line (past 3 (whole line))))) apart
        ∙ ap₂ (λ (x y : Point). pair n.FrontmatterSequence x y) (place-whole line) (place-past line 3)

    following : exact.white line (past 3 (whole line)) (line_end line) ≡ part_over n.SpaceOrTab (drop 3 line.bytes) q r
    following =
        over-same line n.SpaceOrTab (past 3 (whole line)).column (drop 3 line.bytes) q r (place-past line 3)
        (place-end line)

-- The ending of a line, and the point after it.

next-same : (line : TextLine) → next_line line ≡ past_ending line.ending (past_text line.bytes (line_start line))
next-same line = go line.ending
  where
    go : (ending : List ℕ) →
        cond (is_end ending) (place line (line_end line))
        (record {
          line = line.number + 1;
          column = 1;
          index = line.index + length line.bytes + length ending;
          vs = 0;
        }) ≡
        past_ending ending (past_text line.bytes (line_start line))
    go [] = place-end line
    go (b ∷ bs) =
        ap₂
        (λ (l i : ℕ).
        let q : Point = record { line = l + 1; column = 1; index = i + length (b ∷ bs); vs = 0 } in q)
        (sym (past-line line.bytes (line_start line))) (sym (past-index line.bytes (line_start line)))

ending-same : (line : TextLine) →
    exact.ending n.LineEnding line ≡ ending_part line.ending (past_text line.bytes (line_start line))
ending-same line = go line.ending (next-same line)
  where
    q : Point
    q = past_text line.bytes (line_start line)

    go : (ending : List ℕ) → next_line line ≡ past_ending ending q →
        cond (is_end ending) [] (pair n.LineEnding (place line (line_end line)) (next_line line)) ≡ ending_part ending q
    go [] e = refl
    go (b ∷ bs) e = ap₂ (λ (x y : Point). pair n.LineEnding x y) (place-end line) e

-- Lines up to a fence.

-- how many there are up to the first that passes, and with it
abbrev pub upto : {X : Type 0} → (X → Bool) → List X → ℕ
upto p [] = 0
upto p (x ∷ xs) = cond (p x) 1 (suc (upto p xs))

pub upto-is : {X : Type 0} (p : X → Bool) (xs : List X) → list_any p xs ≡ true →
    suc (length xs) - length (after_first p xs) ≡ suc (upto p xs)
upto-is p [] any = cc
upto-is {X = X} p (x ∷ xs) any = go (p x) refl any (upto-is p xs)
  where
    go : (t : Bool) → p x ≡ t → (t || list_any p xs) ≡ true →
        (list_any p xs ≡ true → suc (length xs) - length (after_first p xs) ≡ suc (upto p xs)) →
        suc (suc (length xs)) - length (after_first p (x ∷ xs)) ≡ suc (cond t 1 (suc (upto p xs)))
    go true e f more =
        let same : length (after_first p (x ∷ xs)) ≡ length xs = ap length (first-here p x xs e).1 in
        omega (arith, same)
    go false e f more =
        let same : length (after_first p (x ∷ xs)) ≡ length (after_first p xs) = ap length (first-later p x xs e).1 in
        let least : length (after_first p xs) ≤ length xs = fewer xs in
        let left = more f in
        omega (arith, same, least, left)
      where
        fewer : (ys : List X) → length (after_first p ys) ≤ length ys
        fewer ys = let size = length-drop (position_or_len p ys + 1) ys in omega (arith, size)

-- each of these lines has its ending, but perhaps the last
abbrev pub AllEnd : List (List ℕ) → Type 0
AllEnd [] = Unit {0}
AllEnd (full ∷ []) = Unit {0}
AllEnd (full ∷ next ∷ more) = (is_end (ending_of full) ≡ false) × AllEnd (next ∷ more)

-- what a list of rows of frontmatter has from its first line on
abbrev front_rest : ℕ → List TextLine → List Event
front_rest m lines =
    let rows = map front_row lines in
    joined (front_line m) rows ++ exit n.Frontmatter (start (last_end rows)) ∷ tail rows

-- one more before them
front_rest-more : (m : ℕ) (line next : TextLine) (lines : List TextLine) →
    front_rest m (line ∷ next ∷ lines) ≡
    (front_line m line (whole line) ++ exact.ending n.LineEnding line) ++ front_rest m (next ∷ lines)
front_rest-more m line next lines =
    ap (λ (es : List Event). (front_line m line (whole line) ++ es ++ inside) ++ following)
    (append-nil (exact.ending n.LineEnding line))
    ∙ append_assoc (front_line m line (whole line) ++ exact.ending n.LineEnding line) inside following
  where
    rows : List Row
    rows = map front_row (next ∷ lines)

    inside : List Event
    inside = joined (front_line m) rows

    following : List Event
    following = exit n.Frontmatter (start (last_end rows)) ∷ tail rows

-- where a line begins
abbrev pub begin : ℕ → ℕ → ℕ → Point
begin number index column = record { line = number; column = column + 1; index = index; vs = 0 }

-- after a line with an ending begins the next one
pub begins-next : (number index column : ℕ) (full : List ℕ) → is_end (ending_of full) ≡ false →
    past_ending (ending_of full) (past_text (without_ending full) (begin number index column)) ≡
    begin (number + 1) (index + length full) 0
begins-next number index column full some =
    sym (next-same line)
    ∙ ap
    (λ (x : Bool).
    cond x (place line (line_end line))
    (record {
      line = number + 1;
      column = 1;
      index = index + length (without_ending full) + length (ending_of full);
      vs = 0;
    })) some
    ∙ ap (λ (i : ℕ). begin (number + 1) i 0) size
  where
    line : TextLine
    line = line_at number index column full

    size : index + length (without_ending full) + length (ending_of full) ≡ index + length full
    size =
        let left = length-drop (length (without_ending full)) full in
        let fits = take_while-le full in
        omega (arith, left, fits)
      where
        take_while-le : (l : List ℕ) → length (without_ending l) ≤ length l
        take_while-le l =
            let size = length-prefix_len (λ (b : ℕ). not (is_ending b)) l in
            let most = prefix_len-le-length (λ (b : ℕ). not (is_ending b)) l in omega (arith, size, most)

-- Lines before others that are read: this is what the first one has.
more-same : (m number index column : ℕ) (full : List ℕ) (ls : List (List ℕ)) (first : List Event) (g : FrontRead) →
    let line = line_at number index column full in
    let q = past_text line.bytes (line_start line) in
    AllEnd (full ∷ ls) → front_line m line (whole line) ≡ first →
    lines_read m ls (past_ending line.ending q) ≡ Some g →
    ((h : FrontRead) → AllEnd ls → lines_read m ls (begin (number + 1) (index + length full) 0) ≡ Some h →
    h.events ≡
    front_rest m
    (take (upto (is_front_fence m) (map without_ending ls)) (lines_from (number + 1) (index + length full) 0 ls))) →
    (first ++ ending_part line.ending q) ++ g.events ≡
    front_rest m
    (line
    ∷ take (upto (is_front_fence m) (map without_ending ls))
    (cond (is_end line.ending) [] (lines_from (number + 1) (index + length full) 0 ls)))
more-same m number index column full [] first g all e read below = absurd (cc)
more-same m number index column full (next ∷ ls) first g all e read below =
    ap₂ (λ (es fs : List Event). es ++ fs)
    (ap₂ (λ (es fs : List Event). es ++ fs) (sym e) (sym (ending-same line)))
    (below g all.1
    (ap (λ (x : Point). lines_read m (next ∷ ls) x) (sym (begins-next number index column full all.0)) ∙ read))
    ∙ by (is_front_fence m (without_ending next))
    ∙ ap (λ (x : Bool). front_rest m (line ∷ take size (cond x [] (second ∷ following)))) (sym all.0)
  where
    line : TextLine
    line = line_at number index column full

    size : ℕ
    size = upto (is_front_fence m) (map without_ending (next ∷ ls))

    second : TextLine
    second = line_at (number + 1) (index + length full) 0 next

    following : List TextLine
    following =
        cond (is_end second.ending) [] (lines_from (number + 1 + 1) (index + length full + length next) 0 ls)

    more_size : ℕ
    more_size = upto (is_front_fence m) (map without_ending ls)

    by : (t : Bool) →
        (front_line m line (whole line) ++ exact.ending n.LineEnding line)
        ++ front_rest m (take (cond t 1 (suc more_size)) (second ∷ following)) ≡
        front_rest m (line ∷ take (cond t 1 (suc more_size)) (second ∷ following))
    by true = sym (front_rest-more m line second [])
    by false = sym (front_rest-more m line second (take more_size following))

-- What is read of lines is what their rows have, up to the first fence.
lines-same : (m : ℕ) (fulls : List (List ℕ)) (number index column : ℕ) (f : FrontRead) → AllEnd fulls →
    lines_read m fulls (begin number index column) ≡ Some f →
    f.events ≡
    front_rest m (take (upto (is_front_fence m) (map without_ending fulls)) (lines_from number index column fulls))
lines-same m [] number index column f all read = absurd (cc)
lines-same m (full ∷ more) number index column f all read =
    go (λ h ends here. lines-same m more (number + 1) (index + length full) 0 h ends here)
    (is_front_fence m line.bytes) refl read
  where
    line : TextLine
    line = line_at number index column full

    p : Point
    p = begin number index column

    q : Point
    q = past_text line.bytes p

    size : ℕ
    size = upto (is_front_fence m) (map without_ending more)

    following : List TextLine
    following = lines_from (number + 1) (index + length full) 0 more

    Below : Type 0
    Below =
        (h : FrontRead) → AllEnd more → lines_read m more (begin (number + 1) (index + length full) 0) ≡ Some h →
        h.events ≡ front_rest m (take size following)

    -- a fence
    last : is_front_fence m line.bytes ≡ true →
        fence_part line.bytes p ++ exit n.Frontmatter q ∷ ending_part line.ending q ≡ front_rest m (line ∷ [])
    last fence =
        ap₂ (λ (es fs : List Event). es ++ exit n.Frontmatter q ∷ fs)
        (sym (fence-same m line fence) ∙ sym (append-nil (front_line m line (whole line)))
        ∙ sym (append-nil (front_line m line (whole line) ++ [])))
        (sym (ending-same line)
        ∙ ap (λ (x : Bool). exact.ending (cond x n.BlankLineEnding n.LineEnding) line) (sym (some line.bytes long)))
        ∙ ap
        (λ (x : Point).
        (front_line m line (whole line) ++ [] ++ []) ++ exit n.Frontmatter x ∷ tail (front_row line ∷ []))
        (sym (place-end line))
      where
        long : 3 ≤ length line.bytes
        long = fence-long m line.bytes fence

        some : (bytes : List ℕ) → 3 ≤ length bytes → is_end bytes ≡ false
        some [] le = absurd (omega (arith, le))
        some (b ∷ bs) le = refl

    -- or another line
    further : Below → is_front_fence m line.bytes ≡ false → (o : Option FrontRead) →
        lines_read m more (past_ending line.ending q) ≡ o →
        option_map (after_these (line_part line.bytes p ++ ending_part line.ending q)) o ≡ Some f →
        f.events ≡ front_rest m (line ∷ take size (cond (is_end line.ending) [] following))
    further below other None found none = absurd (cc)
    further below other (Some g) found same =
        sym (ap events_of same)
        ∙ more-same m number index column full more (line_part line.bytes p) g all (line-same m line other) found below

    go : Below → (t : Bool) → is_front_fence m line.bytes ≡ t →
        cond t
        (Some
        (record {
          events = fence_part line.bytes p ++ exit n.Frontmatter q ∷ ending_part line.ending q;
          point = past_ending line.ending q;
        }))
        (option_map (after_these (line_part line.bytes p ++ ending_part line.ending q))
        (lines_read m more (past_ending line.ending q))) ≡
        Some f →
        f.events ≡ front_rest m (take (cond t 1 (suc size)) (line ∷ cond (is_end line.ending) [] following))
    go below true e is = sym (ap events_of is) ∙ last e
    go below false e is = further below e (lines_read m more (past_ending line.ending q)) refl is

-- A text.

-- it has frontmatter of lines where one of them is a fence
pub any-is : (m : ℕ) (fulls : List (List ℕ)) (p : Point) →
    list_any (is_front_fence m) (map without_ending fulls) ≡ is_some (lines_read m fulls p)
any-is m [] p = refl
any-is m (full ∷ more) p =
    go (is_front_fence m (without_ending full))
    (any-is m more (past_ending (ending_of full) (past_text (without_ending full) p)))
  where
    q : Point
    q = past_text (without_ending full) p

    these : List Event
    these = line_part (without_ending full) p ++ ending_part (ending_of full) q

    kept : (o : Option FrontRead) → is_some o ≡ is_some (option_map (after_these these) o)
    kept None = refl
    kept (Some f) = refl

    go : (t : Bool) →
        list_any (is_front_fence m) (map without_ending more) ≡
        is_some (lines_read m more (past_ending (ending_of full) q)) →
        (t || list_any (is_front_fence m) (map without_ending more)) ≡
        is_some
        (cond t
        (Some
        (record {
          events =
              fence_part (without_ending full) p ++ exit n.Frontmatter q ∷ ending_part (ending_of full) q;
          point = past_ending (ending_of full) q;
        }))
        (option_map (after_these these) (lines_read m more (past_ending (ending_of full) q))))
    go true e = refl
    go false e = e ∙ kept (lines_read m more (past_ending (ending_of full) q))

pub full-ends : (text : List ℕ) (fulls : List (List ℕ)) → IsLines text fulls → AllEnd fulls
full-ends _ _ NoLines = tt
full-ends _ _ (LastLine b line bare) = tt
full-ends _ _ (NextLine line ending rest more bare before is same) = go more (full-ends rest more is)
  where
    some : (e : Ending) → is_end (ending_bytes e) ≡ false
    some LineFeed = refl
    some Return = refl
    some Both = refl

    go : (ls : List (List ℕ)) → AllEnd ls → AllEnd ((line ++ ending_bytes ending) ∷ ls)
    go [] h = tt
    go (l ∷ ls) h = (ap is_end (ending-is line ending bare) ∙ some ending, h)

-- The marker is the first byte of the text.

fence-byte : (m : ℕ) (line : List ℕ) → is_front_fence m line ≡ true → first_byte line ≡ m
fence-byte m [] e = cc
fence-byte m (b ∷ bs) e = go (b == m) refl (and_parts (run_len m (b ∷ bs) == 3) (is_blank (drop 3 (b ∷ bs))) e).0
  where
    go : (t : Bool) → (b == m) ≡ t → (cond t (1 + run_len m bs) 0 == 3) ≡ true → b ≡ m
    go true f g = eqb-true b m f
    go false f g = cc

line-byte : (full : List ℕ) → 3 ≤ length (without_ending full) → first_byte full ≡ first_byte (without_ending full)
line-byte [] le = refl
line-byte (b ∷ bs) le = go (not (is_ending b)) (take_while-cons (λ (c : ℕ). not (is_ending c)) b bs)
  where
    go : (t : Bool) →
        without_ending (b ∷ bs) ≡ cond t (b ∷ without_ending bs) [] → b ≡ first_byte (without_ending (b ∷ bs))
    go true e = sym (ap first_byte e)
    go false e = let none = ap length e in absurd (omega (arith, le, none))

text-byte : (text full : List ℕ) (more : List (List ℕ)) → IsLines text (full ∷ more) → first_byte text ≡ first_byte full
text-byte _ _ _ (LastLine b line bare) = refl
text-byte _ _ _ (NextLine [] LineFeed rest more bare before is same) = refl
text-byte _ _ _ (NextLine [] Return rest more bare before is same) = refl
text-byte _ _ _ (NextLine [] Both rest more bare before is same) = refl
text-byte _ _ _ (NextLine (b ∷ line) ending rest more bare before is same) = refl

-- what these lines of frontmatter have, and how many there are
abbrev front_whole : ℕ → List TextLine → List Event
front_whole m lines = let rows = map front_row lines in leaf n.Frontmatter (front_line m) rows ++ tail rows

abbrev pub size_by : List (List ℕ) → Option Front → ℕ
size_by lines o = elim o [ Some front ↦ length lines - length front.after | None ↦ 0 ]

whole-more : (m : ℕ) (line : TextLine) (lines : List TextLine) →
    front_whole m (line ∷ lines) ≡ enter n.Frontmatter (place line (whole line)) ∷ front_rest m (line ∷ lines)
whole-more m line lines =
    let rows : List Row = map front_row (line ∷ lines) in
    ap (λ (es : List Event). enter n.Frontmatter (place line (whole line)) ∷ es)
    (append_assoc (joined (front_line m) rows) (exit n.Frontmatter (start (last_end rows)) ∷ []) (tail rows))

front-by : (options : ParseOptions) (text : List ℕ) (column : ℕ) (fulls : List (List ℕ)) → IsLines text fulls →
    events_of (front_read options fulls (begin 1 column column)) ≡
    front_whole (first_byte text)
    (take (size_by (map without_ending fulls) (front_of options (map without_ending fulls)))
    (lines_from 1 column column fulls))
unfolding front_of
front-by options text column [] is = refl
front-by options text column (full ∷ more) is = go options.constructs.frontmatter
  where
    line : TextLine
    line = line_at 1 column column full

    p : Point
    p = begin 1 column column

    q : Point
    q = past_text line.bytes p

    ls : List (List ℕ)
    ls = map without_ending more

    following : List TextLine
    following = cond (is_end line.ending) [] (lines_from (1 + 1) (column + length full) 0 more)

    whole_by : Option Front → List Event
    whole_by o = front_whole (first_byte text) (take (size_by (line.bytes ∷ ls) o) (line ∷ following))

    closed : ℕ → Bool → Option Front
    closed m t =
        cond t
        (Some
        (record {
          block = Frontmatter m (before_first (is_front_fence m) ls);
          after = after_first (is_front_fence m) ls;
        }))
        None

    -- of so many lines, one at least after the first
    some : (m : ℕ) (f : FrontRead) → is_front_fence m line.bytes ≡ true →
        lines_read m more (past_ending line.ending q) ≡ Some f →
        (enter n.Frontmatter p ∷ fence_part line.bytes p ++ ending_part line.ending q) ++ f.events ≡
        front_whole m (line ∷ take (upto (is_front_fence m) ls) following)
    some m f fence read =
        ap (λ (es : List Event). enter n.Frontmatter p ∷ es)
        (more-same m 1 column column full more (fence_part line.bytes p) f (full-ends text (full ∷ more) is)
        (fence-same m line fence) read
        (λ h ends here. lines-same m more (1 + 1) (column + length full) 0 h ends here))
        ∙ ap (λ (x : Point). enter n.Frontmatter x ∷ front_rest m (line ∷ take (upto (is_front_fence m) ls) following))
        (sym (place-whole line))
        ∙ sym (whole-more m line (take (upto (is_front_fence m) ls) following))

    by : (o : Option ℕ) → front_marker line.bytes ≡ o →
        events_of (front_from o full more p) ≡ whole_by (front_by o ls)
    by None e = refl
    by (Some m) e = read (lines_read m more (past_ending line.ending q)) refl
      where
        read : (o : Option FrontRead) → lines_read m more (past_ending line.ending q) ≡ o →
            events_of
            (option_map
            (after_these (enter n.Frontmatter p ∷ fence_part line.bytes p ++ ending_part line.ending q)) o) ≡
            whole_by (closed m (list_any (is_front_fence m) ls))
        read None found =
            sym
            (ap (λ (t : Bool). whole_by (closed m t))
            (any-is m more (past_ending line.ending q) ∙ ap is_some found))
        read (Some f) found =
            some m f fence found
            ∙ ap (λ (k : ℕ). front_whole k (line ∷ take (upto (is_front_fence m) ls) following)) (sym byte)
            ∙ ap (λ (k : ℕ). front_whole (first_byte text) (take k (line ∷ following)))
            (sym (upto-is (is_front_fence m) ls any))
            ∙ sym (ap (λ (t : Bool). whole_by (closed m t)) any)
          where
            fence : is_front_fence m line.bytes ≡ true
            fence = (marker-marks line.bytes m e).1

            any : list_any (is_front_fence m) ls ≡ true
            any = any-is m more (past_ending line.ending q) ∙ ap is_some found

            byte : first_byte text ≡ m
            byte =
                text-byte text full more is ∙ line-byte full (fence-long m line.bytes fence)
                ∙ fence-byte m line.bytes fence

    go : (x : Bool) →
        events_of (cond x (front_from (front_marker line.bytes) full more p) None) ≡
        whole_by (cond x (front_by (front_marker line.bytes) ls) None)
    go true = by (front_marker line.bytes) refl
    go false = refl

-- So the events before the body are those of the mark and of the first lines.
pub front-same : (options : ParseOptions) (text : List ℕ) →
    rooms.front_events options text ≡
    exact_blocks.mark_events text
    ++ front_whole (first_byte (without_mark text)) (take (front_size options text) (text_lines text))
unfolding text_front
front-same options text =
    ap (λ (p : Point). rooms.mark_events text ++ events_of (front_read options fulls p)) (mark (has_mark text))
    ∙ ap (λ (es : List Event). rooms.mark_events text ++ es)
    (front-by options (without_mark text) (first_column text) fulls (full-lines (without_mark text)))
  where
    fulls : List (List ℕ)
    fulls = full_lines_of (without_mark text)

    mark : (t : Bool) →
        cond t rooms.mark_end first_point ≡ begin 1 (cond t 3 0) (cond t 3 0)
    mark true = refl
    mark false = refl
