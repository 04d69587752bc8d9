-- Info and meta of an opening fence by the cells of its line are those of the definition of lines.
use Rattle.std.proofs.Common.{◌≡◌, ℕ, zero, suc, ◌+◌, ◌^◌, ◌<◌, ◌≤◌, Bool, true, false, cond, ◌&&◌, List, []}
use Rattle.std.proofs.Common.{◌∷◌, ◌++◌, length, take, drop, refl, sym, ◌∙◌, ap, arith, append_assoc, subst}
use Rattle.std.specs.Prelude.{not, ◌==◌}
use Rattle.std.specs.List.{prefix_len}
use Rattle.std.proofs.lemmas.Bool.Decides.{nat_tests}
use Rattle.std.proofs.lemmas.List.{length-append, take-append-drop}
use Rattle.std.proofs.lemmas.List.Sums.{take_while-cons}
use Rattle.md_engine.specs.declared.event.Event.{Event}
use Rattle.md_engine.specs.declared.event.Name.TheVariants as part
use Rattle.md_engine.specs.declared.event.Point.{Point}
use Rattle.md_engine.specs.declared.tokenizer.Line.{Line}
use Rattle.md_engine.specs.Meaning.{Cell}
use Rattle.md_engine.specs.Place.{is_ending}
use Rattle.md_meaning.specs.Leaves.{after_word, first_word, nonempty}
use Rattle.md_meaning.specs.Rest.{Rest, after_indent, cut_tab, indent, is_white, trim_start}
use Rattle.md_meaning.proofs.TextsLemmas.{NoEnding, no_ending-drop}
use Rattle.md_literal.specs.Fence.{meta_name}
use Rattle.md_literal.specs.FenceLine.{after_events, info_events, later_part, meta_events, spaces}
use Rattle.md_literal.specs.FenceParts.{bytes_at, part_of, parts_of}
use Rattle.md_leaves.specs.CellRuns.{is_end, is_line, is_word, run_end, run_rest}
use Rattle.md_literal.proofs.FenceCells.{RunOf, line-all, run-length, run-walk}
use Rattle.md_literal.proofs.FenceFurther.{is_nothing, nothing-end}
use Rattle.md_events.specs.Ahead.{white_end, white_rest}
use Rattle.md_events.specs.Events.Places.{past_byte, past_text}
use Rattle.md_events.specs.Spaces.{any_size}
use Rattle.md_events.proofs.FeedLines.{Stops, past-next, past_text-column, past_text-whole, spread, stops-white}
use Rattle.md_events.proofs.RestCells.{Bare, Cut, HasIndent, RestAt, bare, indent-length, indent-taken, white-length}
use Rattle.md_events.proofs.RestLines.{bare-spread, count-none, count-one, indent-trims, rest-past}

-- Where bytes are.

at-drop : (text : List ℕ) (xs rest : List ℕ) (p : Point) → drop p.index text ≡ xs ++ rest →
    drop (past_text xs p).index text ≡ rest
at-drop text [] rest p e = e
at-drop text (x ∷ xs) rest p e = at-drop text xs rest (past_byte x p) (past-next p.index text x (xs ++ rest) e)

-- these bytes are at a point that cuts no tab
abbrev pub Valid : List ℕ → List ℕ → List ℕ → Point → Type 0
Valid text following bytes p = RestAt text following (bytes_at bytes p) p × (1 ≤ p.column)

pub valid-following : (text following xs ys : List ℕ) (p : Point) → Valid text following (xs ++ ys) p →
    Valid text following ys (past_text xs p)
valid-following text following xs ys p is =
    let one = past_text-column xs p is.1 in (
      record {
        column = omega (arith, one);
        cut = past_text-whole xs p is.0.cut;
        text_is = at-drop text xs (ys ++ following) p (is.0.text_is ∙ append_assoc xs ys following);
      },
      one,
    )

-- after whitespace
pub record Following (line : Line) (text following bytes : List ℕ) (p : Point) (stop : List Cell) : Type 0 where
  pub cells : white_rest any_size (spread line bytes p ++ stop) ≡
      spread line (trim_start bytes) (white_end any_size (spread line bytes p ++ stop) p) ++ stop
  pub valid : Valid text following (trim_start bytes) (white_end any_size (spread line bytes p ++ stop) p)
  pub dark : Bare 0 (trim_start bytes)

trimmed : (line : Line) (text following bytes : List ℕ) (p : Point) (stop : List Cell) → Valid text following bytes p →
    Stops stop → length (spread line bytes p ++ stop) < 2 ^ 63 → Following line text following bytes p stop
trimmed line text following bytes p stop is k short =
    record {
      cells = taken.cells ∙ ap (λ (l : List Cell). l ++ stop) (bare-spread line left q taken.none)
          ∙ ap (λ (l : List ℕ). spread line l q ++ stop) trims;
      valid = (
        record {
          column = omega (arith, at.column);
          cut = whole left.spaces (bare left taken.none) at.cut;
          text_is = at.text_is ∙ same left (bare left taken.none) ∙ ap (λ (l : List ℕ). l ++ following) trims;
        },
        omega (arith, at.column),
      );
      dark = subst (Bare 0) trims (first left.spaces (bare left taken.none));
    }
  where
    r : Rest
    r = bytes_at bytes p

    left : Rest
    left = after_indent r

    columns : indent r ≤ any_size
    columns =
        let le = indent-length line text following r p is.0 in
        let sum = length-append (spread line bytes p) stop in omega (arith, le, sum, short)

    taken : HasIndent line text following any_size r p stop left
    taken = indent-taken line text following any_size r p stop is.0 k columns

    q : Point
    q = white_end any_size (spread line bytes p ++ stop) p

    at : RestAt text following left q
    at = taken.valid

    trims : left.bytes ≡ trim_start bytes
    trims = indent-trims r taken.none

    first : (n : ℕ) → Bare n left.bytes → Bare 0 left.bytes
    first zero h = h
    first (suc n) h = absurd h

    whole : (n : ℕ) → Bare n left.bytes → Cut n q → q.vs ≡ 0
    whole zero h c = c
    whole (suc n) h c = absurd h

    same : (s : Rest) → Bare s.spaces s.bytes → (cut_tab s.spaces ++ s.bytes ++ following) ≡ (s.bytes ++ following)
    same s = go s.spaces
      where
        go : (n : ℕ) → Bare n s.bytes → (cut_tab n ++ s.bytes ++ following) ≡ (s.bytes ++ following)
        go zero h = refl
        go (suc n) h = absurd h

-- Meta.

meta-is : (m : ℕ) (line : Line) (text following bytes : List ℕ) (p : Point) (stop : List Cell) →
    Valid text following bytes p → NoEnding bytes → Stops stop →
    meta_events m (spread line bytes p ++ stop) p ≡ part_of (meta_name m) (nonempty bytes) p
meta-is m line text following bytes p stop is h k =
    ap (λ (x : Bool). cond x [] (later_part (meta_name m) p (run_end is_line (spread line bytes p ++ stop) p)))
    (nothing-end line (bytes_at bytes p) p stop h k)
    ∙ ap (λ (q : Point). cond (is_nothing (bytes_at bytes p)) [] (later_part (meta_name m) p q))
    ((line-all (spread line bytes p ++ stop) p).0 ∙ rest-past line (bytes_at bytes p) p stop h k is.1)
    ∙ go bytes
  where
    go : (bytes : List ℕ) →
        cond (is_nothing (bytes_at bytes p)) [] (later_part (meta_name m) p (past_text bytes p)) ≡
        part_of (meta_name m) (nonempty bytes) p
    go [] = refl
    go (b ∷ bs) = refl

-- Info.

prefix-same : (bytes : List ℕ) → NoEnding bytes → prefix_len is_word bytes ≡ prefix_len (λ b. not (is_white b)) bytes
prefix-same [] h = refl
prefix-same (b ∷ bs) h =
    rw (same-byte (is_white b) (b == 10) (dark b h.0))
    (ap (λ (n : ℕ). cond (not (is_white b)) (1 + n) 0) (prefix-same bs h.1))
  where
    dark : (c : ℕ) → is_ending c ≡ false → (c == 10) ≡ false
    dark c e = grind (arith, nat_tests)

    same-byte : (x y : Bool) → y ≡ false → (not x && not y) ≡ not x
    same-byte true y e = refl
    same-byte false true e = cc
    same-byte false false e = refl

pub prefix-take : (t : ℕ → Bool) (bytes : List ℕ) → length (take (prefix_len t bytes) bytes) ≡ prefix_len t bytes
prefix-take t [] = refl
prefix-take t (b ∷ bs) = go (t b) refl (prefix-take t bs)
  where
    go : (x : Bool) → t b ≡ x → length (take (prefix_len t bs) bs) ≡ prefix_len t bs →
        length (take (prefix_len t (b ∷ bs)) (b ∷ bs)) ≡ prefix_len t (b ∷ bs)
    go true e next =
        ap (λ (n : ℕ). length (take n (b ∷ bs))) (count-one t b bs e) ∙ ap suc next ∙ sym (count-one t b bs e)
    go false e next =
        ap (λ (n : ℕ). length (take n (b ∷ bs))) (count-none t b bs e) ∙ sym (count-none t b bs e)

-- what is left after info
abbrev pub after_info : List ℕ → List ℕ
after_info bytes = drop (length (first_word bytes)) bytes

-- its cells, and what is before meta
abbrev pub info_cells : Line → List ℕ → Point → List Cell → List Cell
info_cells line bytes p stop = spread line (after_info bytes) (past_text (first_word bytes) p) ++ stop

abbrev pub meta_point : Line → List ℕ → Point → List Cell → Point
meta_point line bytes p stop = white_end any_size (info_cells line bytes p stop) (past_text (first_word bytes) p)

abbrev pub between : Line → List ℕ → Point → List Cell → List Event
between line bytes p stop = spaces any_size (info_cells line bytes p stop) (past_text (first_word bytes) p)

word-some : (b : ℕ) (bs : List ℕ) (p : Point) → is_white b ≡ false →
    part_of part.CodeFencedFenceInfo (nonempty (first_word (b ∷ bs))) p ≡
    later_part part.CodeFencedFenceInfo p (past_text (first_word (b ∷ bs)) p)
word-some b bs p e =
    let first : first_word (b ∷ bs) ≡ b ∷ first_word bs = take_while-cons (λ c. not (is_white c)) b bs
    ∙ ap (λ (x : Bool). cond (not x) (b ∷ first_word bs) []) e in
    ap (λ (xs : List ℕ). part_of part.CodeFencedFenceInfo (nonempty xs) p) first
    ∙ sym (ap (λ (xs : List ℕ). later_part part.CodeFencedFenceInfo p (past_text xs p)) first)

-- no part is left out
info-some : (m : ℕ) (line : Line) (bytes : List ℕ) (p : Point) (stop : List Cell) → Stops stop → Bare 0 bytes →
    cond (is_nothing (bytes_at bytes p)) []
    (later_part part.CodeFencedFenceInfo p (past_text (first_word bytes) p) ++ between line bytes p stop
    ++ part_of (meta_name m) (nonempty (after_word bytes)) (meta_point line bytes p stop)) ≡
    (part_of part.CodeFencedFenceInfo (nonempty (first_word bytes)) p ++ between line bytes p stop
    ++ part_of (meta_name m) (nonempty (after_word bytes)) (meta_point line bytes p stop))
info-some m line [] p stop k dark = rw (stops-white stop k) refl
info-some m line (b ∷ bs) p stop k dark =
    sym
    (ap
    (λ (es : List Event).
    es ++ between line (b ∷ bs) p stop
    ++ part_of (meta_name m) (nonempty (after_word (b ∷ bs))) (meta_point line (b ∷ bs) p stop))
    (word-some b bs p dark))

info-is : (m : ℕ) (line : Line) (text following bytes : List ℕ) (p : Point) (stop : List Cell) →
    Valid text following bytes p → NoEnding bytes → Stops stop → Bare 0 bytes →
    length (spread line bytes p ++ stop) < 2 ^ 63 →
    (info_events m (spread line bytes p ++ stop) p ≡
    (part_of part.CodeFencedFenceInfo (nonempty (first_word bytes)) p ++ between line bytes p stop
    ++ part_of (meta_name m) (nonempty (after_word bytes)) (meta_point line bytes p stop))) ×
    Valid text following (after_word bytes) (meta_point line bytes p stop)
info-is m line text following bytes p stop is h k dark short = (
  ap (λ (q : Point). cond (is_end cells) [] (parts q (run_rest is_word cells))) run_to
      ∙ ap (λ (l : List Cell). cond (is_end cells) [] (parts u l)) run_left
      ∙ ap (λ (es : List Event). cond (is_end cells) [] (info ++ between line bytes p stop ++ es)) meta
      ∙ ap
      (λ (x : Bool). cond x []
      (info ++ between line bytes p stop ++ part_of (meta_name m) (nonempty (after_word bytes)) v))
      (nothing-end line (bytes_at bytes p) p stop h k)
      ∙ info-some m line bytes p stop k dark,
  taken.valid,
)
  where
    u : Point
    u = past_text (first_word bytes) p

    info : List Event
    info = later_part part.CodeFencedFenceInfo p u

    cells : List Cell
    cells = spread line bytes p ++ stop

    word-dark : (b : ℕ) → is_word b ≡ true → is_white b ≡ false
    word-dark b e = by (is_white b) e
      where
        by : (x : Bool) → not x && not (b == 10) ≡ true → x ≡ false
        by true f = cc
        by false f = refl

    run : RunOf is_word line bytes p stop
    run = run-walk is_word word-dark refl line bytes p stop k

    word : take (prefix_len is_word bytes) bytes ≡ first_word bytes
    word = ap (λ (n : ℕ). take n bytes) (prefix-same bytes h)

    long : prefix_len is_word bytes ≡ length (first_word bytes)
    long = sym (prefix-take is_word bytes) ∙ ap length word

    run_left : run_rest is_word cells ≡ info_cells line bytes p stop
    run_left =
        run.rest
        ∙ ap (λ (xs : List ℕ). spread line (drop (prefix_len is_word bytes) bytes) (past_text xs p) ++ stop) word
        ∙ ap (λ (n : ℕ). spread line (drop n bytes) u ++ stop) long

    run_to : run_end is_word cells p ≡ u
    run_to = run.end ∙ ap (λ (xs : List ℕ). past_text xs p) word

    cut : bytes ≡ first_word bytes ++ after_info bytes
    cut =
        sym (take-append-drop (prefix_len is_word bytes) bytes)
        ∙ ap (λ (xs : List ℕ). xs ++ drop (prefix_len is_word bytes) bytes) word
        ∙ ap (λ (n : ℕ). first_word bytes ++ drop n bytes) long

    valid : Valid text following (after_info bytes) u
    valid =
        valid-following text following (first_word bytes) (after_info bytes) p
        (subst (λ (xs : List ℕ). Valid text following xs p) cut is)

    taken : Following line text following (after_info bytes) u stop
    taken =
        let le = run-length is_word cells in
        let same = ap length run_left in
        trimmed line text following (after_info bytes) u stop valid k (omega (arith, le, same, short))

    v : Point
    v = meta_point line bytes p stop

    parts : Point → List Cell → List Event
    parts q l =
        later_part part.CodeFencedFenceInfo p q ++ spaces any_size l q
        ++ meta_events m (white_rest any_size l) (white_end any_size l q)

    meta : meta_events m (white_rest any_size (info_cells line bytes p stop)) v ≡
        part_of (meta_name m) (nonempty (after_word bytes)) v
    meta =
        ap (λ (l : List Cell). meta_events m l v) taken.cells
        ∙ meta-is m line text following (after_word bytes) v stop taken.valid
        (no_ending-drop (prefix_len is_white (after_info bytes)) (after_info bytes)
        (no_ending-drop (length (first_word bytes)) bytes h)) k

-- After the sequence: whitespace, and info and meta of the definition, each where its text is.
pub following-agrees : (m : ℕ) (line : Line) (text following bytes : List ℕ) (p : Point) (stop : List Cell) →
    Valid text following bytes p → NoEnding bytes → Stops stop → length (spread line bytes p ++ stop) < 2 ^ 63 →
    let cells = spread line bytes p ++ stop in
    let q = white_end any_size cells p in
    after_events m cells p ≡
    (spaces any_size cells p
    ++ parts_of m (trim_start bytes) q (between line (trim_start bytes) q stop)
    (meta_point line (trim_start bytes) q stop))
following-agrees m line text following bytes p stop is h k short =
    ap (λ (es : List Event). spaces any_size cells p ++ es) (go (m == 36))
  where
    cells : List Cell
    cells = spread line bytes p ++ stop

    q : Point
    q = white_end any_size cells p

    left : List ℕ
    left = trim_start bytes

    taken : Following line text following bytes p stop
    taken = trimmed line text following bytes p stop is k short

    no_ending : NoEnding left
    no_ending = no_ending-drop (prefix_len is_white bytes) bytes h

    shorter : length (spread line left q ++ stop) < 2 ^ 63
    shorter = let le = white-length any_size cells in let same = ap length taken.cells in omega (arith, le, same, short)

    go : (math : Bool) →
        cond math (meta_events m (white_rest any_size cells) q) (info_events m (white_rest any_size cells) q) ≡
        cond math (part_of (meta_name m) (nonempty left) q)
        (part_of part.CodeFencedFenceInfo (nonempty (first_word left)) q ++ between line left q stop
        ++ part_of (meta_name m) (nonempty (after_word left)) (meta_point line left q stop))
    go true =
        ap (λ (l : List Cell). meta_events m l q) taken.cells
        ∙ meta-is m line text following left q stop taken.valid no_ending k
    go false =
        ap (λ (l : List Cell). info_events m l q) taken.cells
        ∙ (info-is m line text following left q stop taken.valid no_ending k taken.dark shorter).0
