-- The events of a fence by the cells of its line are those by its bytes.
use Rattle.std.proofs.Common.{◌≡◌, ℕ, zero, suc, ◌^◌, ◌<◌, ◌≤◌, Bool, true, false, cond, List, [], ◌∷◌, ◌++◌}
use Rattle.std.proofs.Common.{length, take, drop, refl, sym, ap, ◌∙◌, subst, append_assoc, arith}
use Rattle.std.specs.Prelude.{◌==◌, not}
use Rattle.std.specs.List.{prefix_len}
use Rattle.std.specs.Option.{is_some}
use Rattle.std.proofs.lemmas.List.{length-append, take-append-drop}
use Rattle.md_engine.specs.declared.configuration.ParseOptions.{ParseOptions}
use Rattle.md_engine.specs.declared.event.Event.{Event}
use Rattle.md_engine.specs.declared.event.Name.{Name}
use Rattle.md_engine.specs.declared.event.Name.TheVariants as n
use Rattle.md_engine.specs.declared.event.Point.{Point}
use Rattle.md_engine.specs.declared.tokenizer.Line.{Line}
use Rattle.md_engine.specs.declared.tokenizer.held_leaf.HeldLeaf.{HeldLeaf}
use Rattle.md_engine.specs.Meaning.{Cell}
use Rattle.md_meaning.specs.Leaves.{after_word, fence_at, first_word, nonempty}
use Rattle.md_meaning.specs.Rest.{Rest, after_indent, cut_tab, indent, is_white, run_len, trim_start}
use Rattle.md_meaning.specs.Texts.{first_byte}
use Rattle.md_meaning.proofs.TextsLemmas.{NoEnding, no_ending-drop}
use Rattle.md_literal.specs.Fence.{block_name, fence_name, may_begin, meta_name, sequence_name}
use Rattle.md_literal.specs.FenceLine.{after_events, fence_adds, open_events, spaces}
use Rattle.md_literal.specs.FenceParts.{bytes_at, part_of, parts_of}
use Rattle.md_leaves.specs.CellRuns.{run_end, run_rest}
use Rattle.md_literal.proofs.FenceCells.{RunOf, marker-dark, marker-ten, run-walk}
use Rattle.md_literal.proofs.FenceFurther.{small-following}
use Rattle.md_events.proofs.RestLines.{indent-trims, rest-past}
use Rattle.md_literal.proofs.FenceFurther as further
use Rattle.md_literal.proofs.FenceOpened.{marker-may}
use Rattle.md_events.proofs.AheadLemmas.{white-all}
use Rattle.md_literal.proofs.FenceParts.{Valid, following-agrees, after_info, between, meta_point, prefix-take}
use Rattle.md_literal.proofs.FenceParts.{valid-following}
use Rattle.md_events.specs.Ahead.{white_end, white_rest}
use Rattle.md_events.specs.Events.Nested.{enter, exit, pair}
use Rattle.md_events.specs.Events.Places.{past_byte, past_text}
use Rattle.md_events.specs.Spaces.{any_size, small_indent}
use Rattle.md_events.proofs.AheadLemmas.{small-some}
use Rattle.md_events.proofs.FeedLines.{Stops, byte_cells, spread}
use Rattle.md_events.proofs.InlineLemmas.{past_text-append}
use Rattle.md_events.proofs.RestCells.{Bare, Cut, RestAt, bare, rest_cells, white-length}
use Rattle.proof_frame.specs.RestLine.{rest_line}
use Rattle.proof_literal_laws.specs.Leaf.Fence.{after_parts, fence_around, fence_keeps, fence_line, linked}
use Rattle.proof_literal_laws.specs.Leaf.Fence.{past_white, text_part, text_parts, white_part, word_parts}
use Rattle.proof_literal_laws.proofs.Fence.Cells.{fence-keeps}
use Rattle.proof_literal_laws.proofs.Fence.Opened.{FenceStarts, fence-starts}
use Rattle.proof_literal_laws.proofs.Fence.White.{HasWhite, rest-white}
use Rattle.proof_frame.proofs.RestFacts.{rest-trim, small-indented}

-- Bytes that are fed: they are in a text, without an ending, and no more cells are left than can be counted.
record Fed (said : Line) (text following bytes : List ℕ) (p : Point) (stop : List Cell) : Type 0 where
  valid : Valid text following bytes p
  none : NoEnding bytes
  stops : Stops stop
  short : length (spread said bytes p ++ stop) < 2 ^ 63

-- fewer bytes have fewer cells
spread-drop : (said : Line) (k : ℕ) (bytes : List ℕ) (p : Point) →
    length (spread said (drop k bytes) (past_text (take k bytes) p)) ≤ length (spread said bytes p)
spread-drop said zero bytes p = omega arith
spread-drop said (suc k) [] p = omega arith
spread-drop said (suc k) (b ∷ bs) p =
    let more = spread-drop said k bs (past_byte b p) in
    let sum = length-append (byte_cells said b p) (spread said bs (past_byte b p)) in
    omega (arith, more, sum)

fed-drop : (said : Line) (text following bytes : List ℕ) (p : Point) (stop : List Cell) (k : ℕ) →
    Fed said text following bytes p stop → Fed said text following (drop k bytes) (past_text (take k bytes) p) stop
fed-drop said text following bytes p stop k fed = record {
  valid =
      valid-following text following (take k bytes) (drop k bytes) p
      (subst (λ (l : List ℕ). Valid text following l p) (sym (take-append-drop k bytes)) fed.valid);
  none = no_ending-drop k bytes fed.none;
  stops = fed.stops;
  short =
      let less = spread-drop said k bytes p in
      let front = length-append (spread said bytes p) stop in
      let back = length-append (spread said (drop k bytes) (past_text (take k bytes) p)) stop in
      let most = fed.short in
      omega (arith, less, front, back, most);
}

-- the whitespace before them
fed-white : (said : Line) (text following bytes : List ℕ) (p : Point) (stop : List Cell) →
    Fed said text following bytes p stop → HasWhite any_size said (bytes_at bytes p) p stop
fed-white said text following bytes p stop fed =
    let short = fed.short in
    rest-white any_size said (bytes_at bytes p) p stop (omega arith) fed.valid.1 fed.valid.0.cut fed.stops
    (white-all any_size (spread said bytes p ++ stop) (omega (arith, short)))

-- After the sequence.

part-is : (name : Name) (text : List ℕ) (p : Point) → part_of name (nonempty text) p ≡ text_part linked name text p
part-is name [] p = refl
part-is name (b ∷ bs) p = refl

-- info, and what is after it
words-are : (said : Line) (m : ℕ) (text following bytes : List ℕ) (p : Point) (stop : List Cell) →
    Fed said text following bytes p stop →
    parts_of m bytes p (between said bytes p stop) (meta_point said bytes p stop) ≡ text_parts linked m bytes p
words-are said m text following bytes p stop fed = go (m == 36)
  where
    size : ℕ
    size = prefix_len (λ b. not (is_white b)) bytes

    long : length (first_word bytes) ≡ size
    long = prefix-take (λ b. not (is_white b)) bytes

    left : List ℕ
    left = after_info bytes

    q : Point
    q = past_text (first_word bytes) p

    white : HasWhite any_size said (bytes_at left q) q stop
    white =
        fed-white said text following left q stop
        (subst (λ (k : ℕ). Fed said text following (drop k bytes) (past_text (first_word bytes) p) stop) (sym long)
        (fed-drop said text following bytes p stop size fed))

    go : (math : Bool) →
        cond math (part_of (meta_name m) (nonempty bytes) p)
        (part_of n.CodeFencedFenceInfo (nonempty (first_word bytes)) p ++ between said bytes p stop
        ++ part_of (meta_name m) (nonempty (after_word bytes)) (meta_point said bytes p stop)) ≡
        cond math (text_part linked (meta_name m) bytes p) (word_parts linked m bytes p)
    go true = part-is (meta_name m) bytes p
    go false =
        ap
        (λ (es : List Event).
        es ++ between said bytes p stop
        ++ part_of (meta_name m) (nonempty (after_word bytes)) (meta_point said bytes p stop))
        (part-is n.CodeFencedFenceInfo (first_word bytes) p)
        ∙ ap
        (λ (es : List Event).
        text_part linked n.CodeFencedFenceInfo (first_word bytes) p ++ es
        ++ part_of (meta_name m) (nonempty (after_word bytes)) (meta_point said bytes p stop)) white.part
        ∙ ap
        (λ (v : Point).
        text_part linked n.CodeFencedFenceInfo (first_word bytes) p ++ white_part left q
        ++ part_of (meta_name m) (nonempty (after_word bytes)) v) white.end
        ∙ ap
        (λ (es : List Event).
        text_part linked n.CodeFencedFenceInfo (first_word bytes) p ++ white_part left q ++ es)
        (part-is (meta_name m) (after_word bytes) (past_white left q))

following-is : (said : Line) (m : ℕ) (text following bytes : List ℕ) (p : Point) (stop : List Cell) →
    Fed said text following bytes p stop →
    after_events m (spread said bytes p ++ stop) p ≡ after_parts linked m bytes p
following-is said m text following bytes p stop fed =
    let cells = spread said bytes p ++ stop in
    let white = fed-white said text following bytes p stop fed in
    following-agrees m said text following bytes p stop fed.valid fed.none fed.stops fed.short
    ∙ ap
    (λ (q : Point).
    spaces any_size cells p
    ++ parts_of m (trim_start bytes) q (between said (trim_start bytes) q stop)
    (meta_point said (trim_start bytes) q stop))
    white.end
    ∙ ap (λ (es : List Event). spaces any_size cells p ++ es)
    (words-are said m text following (trim_start bytes) (past_white bytes p) stop
    (fed-drop said text following bytes p stop (prefix_len is_white bytes) fed))
    ∙ ap (λ (es : List Event). es ++ text_parts linked m (trim_start bytes) (past_white bytes p)) white.part

-- From the sequence on.

opened-is : (said : Line) (m : ℕ) (text following bytes : List ℕ) (p : Point) (stop : List Cell) →
    may_begin m ≡ true → Fed said text following bytes p stop →
    open_events m (spread said bytes p ++ stop) p ≡ fence_around linked m bytes p (past_text bytes p)
opened-is said m text following bytes p stop may fed =
    ap (λ (e : Point). whole (run_end (λ b. b == m) cells p) (run_rest (λ b. b == m) cells) e)
    (rest-past said (bytes_at bytes p) p stop fed.none fed.stops fed.valid.1)
    ∙ ap (λ (q : Point). whole q (run_rest (λ b. b == m) cells) end) run.end
    ∙ ap (λ (l : List Cell). whole q l end) run.rest
    ∙ ap
    (λ (es : List Event).
    enter (block_name m) p ∷ enter (fence_name m) p ∷ pair (sequence_name m) p q ++ es
    ++ exit (fence_name m) end ∷ exit (block_name m) end ∷ [])
    (following-is said m text following (drop size bytes) q stop (fed-drop said text following bytes p stop size fed))
    ∙ ap
    (λ (es : List Event).
    enter (block_name m) p ∷ enter (fence_name m) p ∷ pair (sequence_name m) p q ++ es)
    (sym
    (append_assoc (after_parts linked m (drop size bytes) q) (exit (fence_name m) end ∷ [])
    (exit (block_name m) end ∷ [])))
  where
    cells : List Cell
    cells = spread said bytes p ++ stop

    size : ℕ
    size = run_len m bytes

    q : Point
    q = past_text (take (run_len m bytes) bytes) p

    end : Point
    end = past_text bytes p

    run : RunOf (λ b. b == m) said bytes p stop
    run = run-walk (λ b. b == m) (λ b e. marker-dark m b may e) (marker-ten m may) said bytes p stop fed.stops

    whole : Point → List Cell → Point → List Event
    whole s l e =
        enter (block_name m) p ∷ enter (fence_name m) p ∷ pair (sequence_name m) p s ++ after_events m l s
        ++ exit (fence_name m) e ∷ exit (block_name m) e ∷ []

-- The whole line.

-- a rest without an indent is as its bytes do
bare-valid : (text following : List ℕ) (r : Rest) (p : Point) → RestAt text following r p → indent r ≡ 0 →
    Valid text following r.bytes p
bare-valid text following r p is none = go r.spaces (bare r none) is.cut is.text_is
  where
    go : (k : ℕ) → Bare k r.bytes → Cut k p → drop p.index text ≡ cut_tab k ++ r.bytes ++ following →
        Valid text following r.bytes p
    go zero b c t = (record { column = omega (arith, is.column); cut = c; text_is = t }, omega (arith, is.column))
    go (suc k) b c t = absurd b

pub fence-adds : (options : ParseOptions) (said : Line) (text following : List ℕ) (r : Rest) (p : Point)
    (stop : List Cell) →
    RestAt text following r p → NoEnding r.bytes → Stops stop → length (rest_cells said r p ++ stop) < 2 ^ 63 →
    is_some (fence_at options r) ≡ true →
    fence_adds options (fence_keeps options (rest_cells said r p ++ stop) p) (rest_cells said r p ++ stop) p ≡
    fence_line linked (rest_line r) p
fence-adds options said text following r p stop is h k short e =
    ap (λ (leaf : HeldLeaf). fence_adds options leaf cells p)
    (fence-keeps options said text following r p stop is h k short e)
    ∙ ap (λ (es : List Event). es ++ open_events m (white_rest room cells) q) white.part
    ∙ ap (λ (es : List Event). white_part (rest_line r) p ++ es)
    (ap (λ (l : List Cell). open_events m l q) small.cells
    ∙ opened-is said m text following bytes q stop (marker-may options m starts.fence.marker) fed
    ∙ ap (λ (x : Point). fence_around linked m bytes x (past_text bytes x)) white.end
    ∙ ap
    (λ (l : List ℕ). fence_around linked (first_byte l) l (past_white (rest_line r) p)
    (past_text l (past_white (rest_line r) p)))
    (sym (rest-trim r))
    ∙ ap
    (λ (x : Point).
    fence_around linked (first_byte (trim_start (rest_line r))) (trim_start (rest_line r))
    (past_white (rest_line r) p) x)
    ends)
  where
    cells : List Cell
    cells = rest_cells said r p ++ stop

    room : ℕ
    room = small_indent options

    q : Point
    q = white_end (small_indent options) (rest_cells said r p ++ stop) p

    bytes : List ℕ
    bytes = trim_start r.bytes

    m : ℕ
    m = first_byte (trim_start r.bytes)

    starts : FenceStarts options r
    starts = fence-starts options r e

    small : further.Following options said text following r p stop
    small = small-following options said text following r p stop is k short starts.small

    valid : Valid text following bytes q
    valid =
        subst (λ (l : List ℕ). Valid text following l q) (indent-trims r small.none)
        (bare-valid text following (after_indent r) q small.valid small.none)

    fed : Fed said text following bytes q stop
    fed = record {
      valid = valid;
      none = no_ending-drop (prefix_len is_white r.bytes) r.bytes h;
      stops = k;
      short =
          let less = white-length room cells in
          let same = ap length small.cells in
          omega (arith, less, same, short);
    }

    white : HasWhite room said r p stop
    white =
        rest-white room said r p stop (small-some options) (let column = is.column in omega (arith, column)) is.cut k
        (small-indented options said text following r p stop is h k short starts.small).none

    ends : past_text (trim_start (rest_line r)) (past_white (rest_line r) p) ≡ past_text (rest_line r) p
    ends =
        let size = prefix_len is_white (rest_line r) in
        sym (past_text-append (take size (rest_line r)) (drop size (rest_line r)) p)
        ∙ ap (λ (l : List ℕ). past_text l p) (take-append-drop size (rest_line r))
