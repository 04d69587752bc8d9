-- From one part of a text to the next.
use Rattle.std.proofs.Common.{◌≡◌, ◌⊎◌, inl, inr, ◌^◌, ◌<◌, ◌≤◌, ◌+◌, ◌-◌, ℕ, zero, suc, Bool, true, false, not}
use Rattle.std.proofs.Common.{◌&&◌, ◌||◌, List, [], ◌∷◌, ◌++◌, length, take, drop, refl, ap, ap₂, sym}
use Rattle.std.proofs.Common.{◌∙◌, subst, arith, append-nil, nat_lt, length-drop}
use Rattle.std.specs.Prelude.{◌==◌, slice_index}
use Rattle.std.proofs.Math.Seq.{drop-append_seam, drop-length}
use Rattle.std.proofs.lemmas.Bool.{and_parts, eqb-true, not-true}
use Rattle.md_meaning.specs.Rest.{is_white, tab_columns}
use Rattle.std.proofs.lemmas.List.{drop-take, get_or-take, length-take-le}
use Rattle.std.proofs.lemmas.List.Folds.{drop_split}
use Rattle.md_engine.specs.declared.configuration.ParseOptions.{ParseOptions}
use Rattle.md_engine.specs.declared.event.Event.{Event}
use Rattle.md_engine.specs.declared.event.Point.{Point}
use Rattle.md_engine.specs.Place.{IsPlaced, is_pair}
use Rattle.md_events.specs.Events.Places.{columns_before, same_place, splits_pair, within_tab}
use Rattle.md_events.specs.Events.Tiles.{end_point}
use Rattle.md_events.proofs.InlineLemmas.{same-refl}
use Rattle.md_events.proofs.PlacesLemmas.{Placed, at-next, drop-next, placed-facts}
use Rattle.md_events.proofs.ReachedLemmas.{point-placed}
use Rattle.md_events.specs.Exact.Places.{TextLine, line_at, lines_from}
use Rattle.md_meaning.specs.Label.{both, labels}
use Rattle.md_meaning.specs.Lines.{ends_line, full_lines_of, is_ending, lines_of}
use Rattle.md_meaning.specs.Preamble.{rests_at}
use Rattle.md_meaning.specs.State.{closed}
use Rattle.md_meaning.specs.Step.{steps}
use Rattle.md_meaning.specs.Texts.{first_byte, split_lines}
use Rattle.proof_exact_lines.proofs.Front.{begin}
use Rattle.proof_exact.proofs.TextLines.{LinesLeft, lines-left}
use Rattle.proof_leaf_laws.proofs.FullLines.{full-lines}
use Rattle.proof_exact.specs.Parts.{BeginsEmpty, EndsLine, IsCut, IsTextCut, events_from, nothing_open}
use Rattle.proof_exact.specs.Parts.{placed_lines}
use Rattle.proof_exact.proofs.TextCut.{reads-on-text}
use Rattle.proof_exact.proofs.TextParts.{ends-alone, reads-on, text-lines}
use Rattle.markdown_blocks.specs.PartRead.{BeginsPart, is_filled_end, is_line_begin, labels_at, unread_at}
use Rattle.markdown_blocks.proofs.PartBegins.{part-placed}
use Rattle.markdown_blocks.proofs.PartFilled.{EndFilled}
use Rattle.markdown_blocks.proofs.PartLabels.{labels-after, labels-cut}
use Rattle.markdown_blocks.proofs.PartLined.{placed-before, placed-within}

-- Where a part may end.

-- the byte there, and what is after it
record At (text : List ℕ) (i : ℕ) : Type 0 where
  byte : ℕ
  rest : List ℕ
  is : drop i text ≡ byte ∷ rest
  same : slice_index text i ≡ byte

at : (text : List ℕ) (i : ℕ) → i < length text → At text i
at text i inside = go (drop i text) refl
  where
    go : (l : List ℕ) → drop i text ≡ l → At text i
    go [] e =
        let none : length text - i ≡ 0 = sym (length-drop i text) ∙ ap (λ (l : List ℕ). length l) e in
        absurd (omega (arith, none, inside))
    go (b ∷ rest) e = record { byte = b; rest = rest; is = e; same = at-next i text b rest e }

record IsEnd (text : List ℕ) (to : ℕ) : Type 0 where
  before : is_ending (slice_index text (to - 1)) ≡ true
  apart : is_pair text (to - 1) ≡ false

is-end : (text : List ℕ) (to : ℕ) → is_line_begin text to ≡ true → IsEnd text to
is-end text to h =
    let both = and_parts (is_ending (slice_index text (to - 1))) (not (is_pair text (to - 1))) h in
    record { before = both.0; apart = not-true (is_pair text (to - 1)) both.1 }

-- no ending is cut there
pub end-whole : (text : List ℕ) (to : ℕ) → is_line_begin text to ≡ true → splits_pair text to ≡ false
end-whole text to h = ap (λ (x : Bool). nat_lt 0 to && x) (is-end text to h).apart ∙ go (nat_lt 0 to)
  where
    go : (x : Bool) → (x && false) ≡ false
    go true = refl
    go false = refl

-- an empty line may begin there,
begins-empty : (text : List ℕ) (to : ℕ) → to < length text → is_ending (slice_index text to) ≡ true →
    BeginsEmpty (drop to text)
begins-empty text to inside h =
    let a : At text to = at text to inside in subst BeginsEmpty (sym a.is) (ap is_ending (sym a.same) ∙ h)

-- after a line that ends there
last-ends : (text : List ℕ) (to b : ℕ) → to < length text → is_line_begin text to ≡ true →
    slice_index text (to - 1) ≡ b → 0 < to → ends_line b (drop to text) ≡ true
last-ends text to b inside h same some =
    let a : At text to = at text to inside in
    let e : IsEnd text to = is-end text to h in
    let ends : is_ending b ≡ true = ap is_ending (sym same) ∙ e.before in
    let next : (to - 1) + 1 ≡ to = omega (arith, some) in
    let apart : ((b == 13) && (a.byte == 10)) ≡ false =
    ap₂ (λ (x y : ℕ). (x == 13) && (y == 10)) (sym same) (sym a.same ∙ ap (slice_index text) (sym next)) ∙ e.apart in
    ap (ends_line b) a.is ∙ go (b == 10) (b == 13) (a.byte == 10) ends apart
  where
    go : (x y z : Bool) → (x || y) ≡ true → (y && z) ≡ false → (x || (y && not z)) ≡ true
    go true y z h k = refl
    go false true true h k = cc
    go false true false h k = refl
    go false false z h k = cc

ends-from : (text : List ℕ) (to : ℕ) → to < length text → is_line_begin text to ≡ true → (n i : ℕ) →
    i + suc n ≡ to → EndsLine (drop i (take to text)) (drop to text)
ends-from text to inside h zero i size = go (drop i (take to text)) refl
  where
    long : length (take to text) ≡ to
    long = length-take-le to text (omega (arith, inside))

    many : (l : List ℕ) → drop i (take to text) ≡ l → length l ≡ to - i
    many l e =
        sym (ap (λ (x : List ℕ). length x) e) ∙ length-drop i (take to text) ∙ ap (λ (x : ℕ). x - i) long

    go : (l : List ℕ) → drop i (take to text) ≡ l → EndsLine l (drop to text)
    go [] e = let m = many [] e in absurd (omega (arith, m, size))
    go (b ∷ []) e =
        let here : to - 1 ≡ i = omega (arith, size) in
        let lt : i < to = omega (arith, size) in
        let same : slice_index text (to - 1) ≡ b =
        ap (slice_index text) here ∙ sym (get_or-take to text i 0 lt) ∙ at-next i (take to text) b [] e in (
          last-ends text to b inside h same (omega (arith, size)),
          ap is_ending (sym same) ∙ (is-end text to h).before,
        )
    go (b ∷ c ∷ l) e = let m = many (b ∷ c ∷ l) e in absurd (omega (arith, m, size))
ends-from text to inside h (suc n) i size =
    go (drop i (take to text)) refl (ends-from text to inside h n (i + 1) (omega (arith, size)))
  where
    long : length (take to text) ≡ to
    long = length-take-le to text (omega (arith, inside))

    many : (l : List ℕ) → drop i (take to text) ≡ l → length l ≡ to - i
    many l e =
        sym (ap (λ (x : List ℕ). length x) e) ∙ length-drop i (take to text) ∙ ap (λ (x : ℕ). x - i) long

    go : (l : List ℕ) → drop i (take to text) ≡ l → EndsLine (drop (i + 1) (take to text)) (drop to text) →
        EndsLine l (drop to text)
    go [] e below = let m = many [] e in absurd (omega (arith, m, size))
    go (b ∷ []) e below = let m = many (b ∷ []) e in absurd (omega (arith, m, size))
    go (b ∷ c ∷ l) e below =
        let more : i + 1 ≡ suc i = omega arith in
        subst (λ (x : List ℕ). EndsLine x (drop to text))
        (ap (λ (n : ℕ). drop n (take to text)) more ∙ drop-next i (take to text) b (c ∷ l) e) below

pub part-ends : (text : List ℕ) (to : ℕ) (p : Point) → to < length text → is_line_begin text to ≡ true →
    p.index < to → EndsLine (drop p.index (take to text)) []
part-ends text to p inside h before =
    ends-alone (drop p.index (take to text)) (drop to text)
    (ends-from text to inside h (to - p.index - 1) p.index (omega (arith, before)))

pub part-begins : (text : List ℕ) (to : ℕ) (p : Point) → to < length text → is_line_begin text to ≡ true →
    p.index < to → BeginsPart text p → BeginsPart (take to text) p
part-begins text to p inside h before begins = record {
  placed = placed-before text to p (omega (arith, inside)) (end-whole text to h) before begins.placed;
  inside = let long = length-take-le to text (omega (arith, inside)) in omega (arith, before, long);
  whole = begins.whole;
  column = begins.column;
}

-- The last line before it is not blank.
end-filled : (text : List ℕ) (to : ℕ) → to < length text → is_line_begin text to ≡ true →
    is_filled_end text to ≡ true → (n i : ℕ) → i + suc (suc n) ≡ to → EndFilled (drop i (take to text))
end-filled text to inside h filled zero i size =
    subst EndFilled (sym is) (
      ap is_ending (sym one) ∙ apart.0,
      ap is_white (sym one) ∙ apart.1,
      ap is_ending (sym two) ∙ (is-end text to h).before,
    )
  where
    slice : List ℕ
    slice = take to text

    long : length slice ≡ to
    long = length-take-le to text (omega (arith, inside))

    first : At slice i
    first = at slice i (omega (arith, size, long))

    second : At slice (i + 1)
    second = at slice (i + 1) (omega (arith, size, long))

    more : suc i ≡ i + 1
    more = omega arith

    next : first.rest ≡ second.byte ∷ second.rest
    next =
        sym (drop-next i slice first.byte first.rest first.is) ∙ ap (λ (n : ℕ). drop n slice) more ∙ second.is

    none-left : (l : List ℕ) → length l ≡ 0 → l ≡ []
    none-left [] e = refl
    none-left (b ∷ l) e = cc

    size-left : suc (length second.rest) ≡ length slice - (i + 1)
    size-left = sym (ap (λ (l : List ℕ). length l) second.is) ∙ length-drop (i + 1) slice

    none : second.rest ≡ []
    none = none-left second.rest (omega (arith, size-left, long, size))

    is : drop i slice ≡ first.byte ∷ second.byte ∷ []
    is =
        first.is
        ∙ ap (λ (l : List ℕ). first.byte ∷ l) (next ∙ ap (λ (l : List ℕ). second.byte ∷ l) none)

    low : to - 2 ≡ i
    low = omega (arith, size)

    high : to - 1 ≡ i + 1
    high = omega (arith, size)

    one : slice_index text (to - 2) ≡ first.byte
    one =
        ap (slice_index text) low ∙ sym (get_or-take to text i 0 (omega (arith, size))) ∙ first.same

    two : slice_index text (to - 1) ≡ second.byte
    two =
        ap (slice_index text) high ∙ sym (get_or-take to text (i + 1) 0 (omega (arith, size))) ∙ second.same

    either-false : (x y : Bool) → not (x || y) ≡ true → (x ≡ false) × (y ≡ false)
    either-false true y e = cc
    either-false false true e = cc
    either-false false false e = (refl, refl)

    apart : (is_ending (slice_index text (to - 2)) ≡ false) × (is_white (slice_index text (to - 2)) ≡ false)
    apart = either-false (is_ending (slice_index text (to - 2))) (is_white (slice_index text (to - 2))) filled
end-filled text to inside h filled (suc n) i size =
    go (drop i (take to text)) refl (end-filled text to inside h filled n (i + 1) (omega (arith, size)))
  where
    long : length (take to text) ≡ to
    long = length-take-le to text (omega (arith, inside))

    many : (l : List ℕ) → drop i (take to text) ≡ l → length l ≡ to - i
    many l e =
        sym (ap (λ (x : List ℕ). length x) e) ∙ length-drop i (take to text) ∙ ap (λ (x : ℕ). x - i) long

    go : (l : List ℕ) → drop i (take to text) ≡ l → EndFilled (drop (i + 1) (take to text)) → EndFilled l
    go [] e below = let m = many [] e in absurd (omega (arith, m, size))
    go (b ∷ []) e below = let m = many (b ∷ []) e in absurd (omega (arith, m, size))
    go (b ∷ c ∷ []) e below = let m = many (b ∷ c ∷ []) e in absurd (omega (arith, m, size))
    go (b ∷ c ∷ d ∷ l) e below =
        let more : i + 1 ≡ suc i = omega arith in
        subst EndFilled
        (ap (λ (n : ℕ). drop n (take to text)) more ∙ drop-next i (take to text) b (c ∷ d ∷ l) e) below

pub part-filled : (text : List ℕ) (to : ℕ) (p : Point) → to < length text → is_line_begin text to ≡ true →
    is_filled_end text to ≡ true → p.index + 2 ≤ to → EndFilled (drop p.index (take to text))
part-filled text to p inside h filled before =
    end-filled text to inside h filled (to - p.index - 2) p.index (omega (arith, before))

-- Where the next part begins.

-- so many bytes are in the part
part-size : (text : List ℕ) (to i : ℕ) → i ≤ to → to ≤ length text → i + length (drop i (take to text)) ≡ to
part-size text to i le inside =
    let long = length-take-le to text inside in
    let size = length-drop i (take to text) in
    omega (arith, long, size, le)

-- it is before the rest of the text
part-before : (text : List ℕ) (to i : ℕ) → i ≤ to → drop i text ≡ drop i (take to text) ++ drop to text
part-before text to i le =
    let same : to ≡ i + (to - i) = omega (arith, le) in
    drop_split text i to le
    ∙ ap (λ (l : List ℕ). l ++ drop to text)
    (sym (ap (λ (n : ℕ). drop i (take n text)) same ∙ drop-take i (to - i) text))

first-number : (number index column : ℕ) (fulls : List (List ℕ)) (last : TextLine) (more : List TextLine) →
    lines_from number index column fulls ≡ last ∷ more →
    (number ≡ last.number) × (index ≡ last.index) × (column ≡ last.column)
first-number number index column [] last more e = (cc, cc, cc)
first-number number index column (full ∷ fulls) last more e = (cc, cc, cc)

-- after its lines, at its end
after-lines : (text : List ℕ) (number index column : ℕ) → EndsLine (drop index text) [] →
    Placed text (begin number index column) →
    Placed text (begin (number + length (full_lines_of (drop index text))) (index + length (drop index text)) 0)
after-lines text number index column ends placed =
    go (lines-left text number index column (full_lines_of bytes) (full-lines bytes) placed (length lines))
  where
    bytes : List ℕ
    bytes = drop index text

    lines : List TextLine
    lines = placed_lines number index column (full_lines_of bytes)

    last : TextLine
    last = line_at (number + length (full_lines_of bytes)) (index + length bytes) 0 []

    left : drop (length lines) (lines_from number index column (full_lines_of bytes)) ≡ last ∷ []
    left =
        ap (λ (l : List ℕ). drop (length lines) (lines_from number index column (full_lines_of l)))
        (sym (append-nil bytes))
        ∙ ap (drop (length lines)) (text-lines number index column bytes [] ends)
        ∙ drop-append_seam lines (last ∷ [])

    go : (drop (length lines) (lines_from number index column (full_lines_of bytes)) ≡ [])
        ⊎ LinesLeft text (drop (length lines) (lines_from number index column (full_lines_of bytes))) →
        Placed text (begin (number + length (full_lines_of bytes)) (index + length bytes) 0)
    go (inl none) = let bad : last ∷ [] ≡ [] = sym left ∙ none in absurd (cc)
    go (inr is) =
        let first = first-number is.number is.index is.column is.fulls last [] (sym is.is ∙ left) in
        subst (λ (n : ℕ). Placed text (begin n last.index last.column)) first.0
        (subst (λ (i : ℕ). Placed text (begin is.number i last.column)) first.1
        (subst (λ (c : ℕ). Placed text (begin is.number is.index c)) first.2 is.placed))

-- the only point there
end-only : (text : List ℕ) (p : Point) (number : ℕ) → IsPlaced text p → length text ≤ p.index →
    Placed text (begin number (length text) 0) → p ≡ begin number (length text) 0
end-only text p number is past placed =
    ap₂
    (λ (l c : ℕ). let q : Point = record { line = l; column = c; index = p.index; vs = p.vs } in q) line column
    ∙ ap₂ (λ (i v : ℕ). let q : Point = record { line = number; column = 1; index = i; vs = v } in q) index whole
  where
    facts : Placed text p
    facts = placed-facts text p (point-placed text p is)

    index : p.index ≡ length text
    index = let within = is.index in omega (arith, within, past)

    whole : p.vs ≡ 0
    whole = go (p.vs == 0) refl facts.within
      where
        none : first_byte (drop p.index text) ≡ 0
        none = ap (λ (i : ℕ). first_byte (drop i text)) index ∙ ap first_byte (drop-length text)

        go : (x : Bool) → (p.vs == 0) ≡ x → within_tab text p ≡ true → p.vs ≡ 0
        go true e h = eqb-true p.vs 0 e
        go false e h =
            let no : false ≡ true =
            sym
            (ap
            (λ (t : Bool).
            t
            || ((first_byte (drop p.index text) == 9)
            && nat_lt p.vs (tab_columns (columns_before text p.index)))) e
            ∙ ap (λ (b : ℕ). (b == 9) && nat_lt p.vs (tab_columns (columns_before text p.index))) none)
            ∙ h in cc

    line : p.line ≡ number
    line = facts.line ∙ ap (λ (i : ℕ). length (split_lines (take i text))) index ∙ sym placed.line

    column : p.column ≡ 1
    column =
        facts.column ∙ ap₂ (λ (i v : ℕ). columns_before text i + v + 1) index whole
        ∙ sym placed.column

-- What a text has from a point on is what it has up to this place, where it is read as one that ends there, and then what
-- it has from the next point on, which is there.
pub record LeadsTo (options : ParseOptions) (text : List ℕ) (to : ℕ) (p next : Point) : Type 0 where
  pub events : unread_at options text p ≡ unread_at options (take to text) p ++ unread_at options text next
  pub labels : labels_at options text p ≡ both (labels_at options (take to text) p) (labels_at options text next)
  pub begins : BeginsPart text next
  pub index : next.index ≡ to
  pub place : same_place (end_point (take to text)) next ≡ true

-- A text may be cut after these lines: before an empty line that ends a paragraph, or where nothing is open.
abbrev pub IsCutAt : ParseOptions → List ℕ → ℕ → List TextLine → Type 0
IsCutAt options text to lines =
    (IsTextCut options lines × (is_ending (slice_index text to) ≡ true)) ⊎ IsCut options lines

pub leads-to : (options : ParseOptions) (text : List ℕ) (to : ℕ) (p next : Point) → length text < 2 ^ 61 →
    BeginsPart text p → p.index < to → to < length text → is_line_begin text to ≡ true → IsPlaced (take to text) next →
    length (take to text) ≤ next.index →
    IsCutAt options text to
    (placed_lines p.line p.index (p.column - 1) (full_lines_of (drop p.index (take to text)))) →
    LeadsTo options text to p next
leads-to options text to p next small begins before inside end at-end past cut = record {
  events = all ∙ ap (λ (q : Point). list ++ unread_at options text q) (sym same);
  labels =
      ap
      (λ (l : List ℕ). labels (closed options (steps options nothing_open (rests_at (p.column - 1) (lines_of l)))))
      (part-before text to p.index (omega (arith, before)))
      ∙ labels-at cut
      ∙ ap (λ (q : Point). both (labels_at options slice p) (labels_at options text q)) (sym same);
  begins = record {
    placed = placed-within text to next small (omega (arith, inside)) (end-whole text to end) at-end;
    inside = let i = ap (λ (q : Point). q.index) same in omega (arith, i, inside, size);
    whole = ap (λ (q : Point). q.vs) same;
    column = let c = ap (λ (q : Point). q.column) same in omega (arith, c);
  };
  index = ap (λ (q : Point). q.index) same;
  place =
      ap (λ (q : Point). same_place (end_point slice) q) same
      ∙ ap (λ (i : ℕ). (i == to) && (0 == 0)) long
      ∙ same-refl (begin (p.line + length (full_lines_of bytes)) to 0);
}
  where
    slice : List ℕ
    slice = take to text

    bytes : List ℕ
    bytes = drop p.index slice

    long : length slice ≡ to
    long = length-take-le to text (omega (arith, inside))

    size : p.index + length bytes ≡ to
    size = part-size text to p.index (omega (arith, before)) (omega (arith, inside))

    ends : EndsLine bytes (drop to text)
    ends = ends-from text to inside end (to - p.index - 1) p.index (omega (arith, before))

    list : List Event
    list = events_from options slice p.line p.index (p.column - 1)

    rest : List Event
    rest = events_from options text (p.line + length (full_lines_of bytes)) to 0

    lines : List TextLine
    lines = placed_lines p.line p.index (p.column - 1) (full_lines_of bytes)

    labels-at : IsCutAt options text to lines →
        labels
        (closed options (steps options nothing_open (rests_at (p.column - 1) (lines_of (bytes ++ drop to text)))))
        ≡ both (labels (closed options (steps options nothing_open (rests_at (p.column - 1) (lines_of bytes)))))
        (labels (closed options (steps options nothing_open (rests_at 0 (lines_of (drop to text))))))
    labels-at (inl text-cut) =
        labels-cut options p.line p.index (p.column - 1) bytes (drop to text) ends
        (begins-empty text to inside text-cut.1) text-cut.0
    labels-at (inr outside) = labels-after options p.line p.index (p.column - 1) bytes (drop to text) ends outside

    apart : EndsLine bytes (drop (p.index + length bytes) text)
    apart = subst (λ (i : ℕ). EndsLine bytes (drop i text)) (sym size) ends

    is-both : drop p.index text ≡ bytes ++ drop (p.index + length bytes) text
    is-both =
        part-before text to p.index (omega (arith, before))
        ∙ ap (λ (i : ℕ). bytes ++ drop i text) (sym size)

    after-part : IsCutAt options text to lines →
        events_from options text p.line p.index (p.column - 1)
        ≡ list ++ events_from options text (p.line + length (full_lines_of bytes)) (p.index + length bytes) 0
    after-part (inl text-cut) =
        reads-on-text options text bytes p.line p.index (p.column - 1) apart
        (subst (λ (i : ℕ). BeginsEmpty (drop i text)) (sym size) (begins-empty text to inside text-cut.1)) is-both
        text-cut.0
    after-part (inr outside) = reads-on options text bytes p.line p.index (p.column - 1) apart is-both outside

    all : events_from options text p.line p.index (p.column - 1) ≡ list ++ rest
    all =
        after-part cut
        ∙ ap (λ (i : ℕ). list ++ events_from options text (p.line + length (full_lines_of bytes)) i 0) size

    same : next ≡ begin (p.line + length (full_lines_of bytes)) to 0
    same =
        end-only slice next (p.line + length (full_lines_of bytes)) at-end past
        (subst (λ (i : ℕ). Placed slice (begin (p.line + length (full_lines_of bytes)) i 0)) (size ∙ sym long)
        (after-lines slice p.line p.index (p.column - 1) (ends-alone bytes (drop to text) ends)
        (part-placed slice p (part-begins text to p inside end before begins))))
        ∙ ap (λ (i : ℕ). begin (p.line + length (full_lines_of bytes)) i 0) long
