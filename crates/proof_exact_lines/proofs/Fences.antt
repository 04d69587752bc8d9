-- The fences of fenced code and of math (CommonMark 4.5, own choice), and the lines between them.
use Rattle.std.proofs.Common.{◌≡◌, ℕ, zero, suc, ◌≤◌, Bool, true, false, cond, ◌&&◌, List, [], ◌∷◌, ◌++◌, length, take}
use Rattle.std.proofs.Common.{drop, refl, sym, ap, ap₂, ◌∙◌, subst, arith}
use Rattle.std.specs.Prelude.{◌==◌, nat_le, not}
use Rattle.std.specs.List.{prefix_len}
use Rattle.std.proofs.lemmas.Bool.{and_parts, leb-true}
use Rattle.std.proofs.lemmas.List.{take-append-drop}
use Rattle.std.proofs.lemmas.List.Folds.{length-prefix_len}
use Rattle.std.proofs.lemmas.List.Sums.{prefix_len-le-length}
use Rattle.md_engine.specs.declared.configuration.ParseOptions.{ParseOptions}
use Rattle.md_engine.specs.declared.event.Content.TheVariants.{String}
use Rattle.md_engine.specs.declared.event.Event.{Event}
use Rattle.md_engine.specs.declared.event.Name.{Name}
use Rattle.md_engine.specs.declared.event.Name.TheVariants as n
use Rattle.md_engine.specs.declared.event.Point.{Point}
use Rattle.md_literal.specs.Fence.{fence_name, meta_name, sequence_name}
use Rattle.md_meaning.specs.Leaves.{closes, first_word}
use Rattle.md_meaning.specs.Rest.{Rest, after_indent, has_small_indent, indent, is_blank, is_white, run_len}
use Rattle.md_meaning.specs.Rest.{trim_start}
use Rattle.md_meaning.specs.State.{Opening}
use Rattle.md_events.specs.Events.Nested.{around, pair}
use Rattle.md_events.specs.Events.Places.{past_text}
use Rattle.md_events.proofs.InlineLemmas.{past_text-append}
use Rattle.md_events.proofs.RestLines.{count-none, count-one}
use Rattle.proof_frame.specs.LineColumns.{lost_line, part_over, past_columns}
use Rattle.proof_literal_laws.specs.Leaf.Fence.{after_parts, fence_parts, held_of, linked, past_white}
use Rattle.proof_literal_laws.specs.Leaf.Fence.{white_part, word_parts}
use Rattle.proof_literal_laws.specs.Leaf.Fence as room
use Rattle.proof_literal_laws.specs.Leaf.FenceFurther.{closing_line, further_parts}
use Rattle.md_events.specs.Exact.Leaves.{content_line, fence_part, fenced_line, for_marker, info_parts}
use Rattle.md_events.specs.Exact.Places.{TextLine, line_end, past, piece, text_part, white}
use Rattle.proof_exact_lines.proofs.BeginsAt.{BeginsAt, begins-place, rest_bytes}
use Rattle.proof_exact_lines.proofs.AfterIndent.{indent-past}
use Rattle.proof_exact_lines.proofs.Lost.{begins-lost, line-lost, lost-end, white-lost}
use Rattle.proof_exact_lines.proofs.Parts.{IsAfter, Valid, end-following, piece-end, piece-is, run-front, valid-bytes}
use Rattle.proof_exact_lines.proofs.Parts.{taken-front, text-end, text-is, text_over, white-front}

-- Whitespace at the front.
white-part : (bytes : List ℕ) (p : Point) →
    part_over n.SpaceOrTab (take (prefix_len is_white bytes) bytes) p (past_white bytes p) ≡ white_part bytes p
white-part [] p = refl
white-part (b ∷ bytes) p = go (is_white b) refl
  where
    go : (t : Bool) → is_white b ≡ t →
        part_over n.SpaceOrTab (take (prefix_len is_white (b ∷ bytes)) (b ∷ bytes)) p (past_white (b ∷ bytes) p) ≡
        cond t (pair n.SpaceOrTab p (past_white (b ∷ bytes) p)) []
    go true e =
        ap (λ (k : ℕ). part_over n.SpaceOrTab (take k (b ∷ bytes)) p (past_white (b ∷ bytes) p))
        (count-one is_white b bytes e)
    go false e =
        ap (λ (k : ℕ). part_over n.SpaceOrTab (take k (b ∷ bytes)) p (past_white (b ∷ bytes) p))
        (count-none is_white b bytes e)

pub white-first : (line : TextLine) (r : Rest) (p : Point) (bytes : List ℕ) → BeginsAt line r p →
    rest_bytes r ≡ bytes → white line r (after_indent r) ≡ white_part bytes p
white-first line r p bytes at e =
    let w : ℕ = prefix_len is_white bytes in
    piece-is line n.SpaceOrTab r (after_indent r) p (take w bytes) (drop w bytes) at
    (e ∙ sym (take-append-drop w bytes)) (white-front line r p bytes at e)
    ∙ white-part bytes p

-- Texts.
text-linked : (name : Name) (bytes : List ℕ) (p : Point) →
    text_over String name bytes p (past_text bytes p) ≡ room.text_part linked name bytes p
text-linked name [] p = refl
text-linked name (b ∷ bytes) p = refl

-- the first word, and what is after it
word-take : (text : List ℕ) → take (length (first_word text)) text ≡ first_word text
word-take text = ap (λ (k : ℕ). take k text) (length-prefix_len (λ (b : ℕ). not (is_white b)) text)

-- What follows the run of an opening fence: as words,
word-parts : (m : ℕ) (line : TextLine) (t : Rest) (text : List ℕ) (p : Point) → Valid line text p t →
    (m == 36) ≡ false →
    let following : Rest = past (length (first_word t.bytes)) t in
    let meta : Rest = after_indent following in
    text_part line String n.CodeFencedFenceInfo t following ++ white line following meta
    ++ text_part line String n.CodeFencedFenceMeta meta (line_end line) ≡ word_parts linked m text p
word-parts m line t text p is other =
    ap₂ (λ (es fs : List Event). es ++ fs)
    (ap₂ (λ (es fs : List Event). es ++ fs)
    (text-is line String n.CodeFencedFenceInfo t following p word left whole first
    ∙ text-linked n.CodeFencedFenceInfo word p)
    (white-first line following q left first.valid.at (valid-bytes line left q following first.valid)))
    (text-end line String n.CodeFencedFenceMeta meta (past_white left q) (trim_start left) second.valid
    ∙ text-linked n.CodeFencedFenceMeta (trim_start left) (past_white left q)
    ∙ ap (λ (t : Bool). room.text_part linked (cond t n.MathFlowFenceMeta n.CodeFencedFenceMeta) (trim_start left)
    (past_white left q)) (sym other))
  where
    word : List ℕ
    word = first_word text

    left : List ℕ
    left = drop (length word) text

    q : Point
    q = past_text word p

    following : Rest
    following = past (length (first_word t.bytes)) t

    meta : Rest
    meta = after_indent following

    whole : Valid line (word ++ left) p t
    whole =
        subst (λ (l : List ℕ). Valid line l p t)
        (sym (take-append-drop (length word) text) ∙ ap (λ (l : List ℕ). l ++ left) (word-take text)) is

    first : IsAfter line t word left p following
    first =
        subst (λ (k : ℕ). IsAfter line t word left p (past k t))
        (ap (λ (l : List ℕ). length (first_word l)) (sym is.bytes_are))
        (subst (λ (l : List ℕ). IsAfter line t l left p (past (length word) t)) (word-take text)
        (taken-front line t p (length word) text is))

    second : IsAfter line following (take (prefix_len is_white left) left) (trim_start left) q meta
    second = white-front line following q left first.valid.at (valid-bytes line left q following first.valid)

-- or as one text
text-parts : (line : TextLine) (t : Rest) (text : List ℕ) (p : Point) → Valid line text p t →
    text_part line String n.MathFlowFenceMeta t (line_end line) ≡
    room.text_part linked n.MathFlowFenceMeta text p
text-parts line t text p is =
    text-end line String n.MathFlowFenceMeta t p text is ∙ text-linked n.MathFlowFenceMeta text p

-- all of it
info-parts : (m : ℕ) (line : TextLine) (r : Rest) (bytes : List ℕ) (p : Point) → Valid line bytes p r →
    info_parts m line r ≡ after_parts linked m bytes p
info-parts m line r bytes p is =
    ap₂ (λ (es fs : List Event). es ++ fs)
    (white-first line r p bytes is.at (valid-bytes line bytes p r is))
    (go (m == 36) refl)
  where
    text : Rest
    text = after_indent r

    at : Valid line (trim_start bytes) (past_white bytes p) text
    at = (white-front line r p bytes is.at (valid-bytes line bytes p r is)).valid

    word : Rest
    word = past (length (first_word text.bytes)) text

    meta : Rest
    meta = after_indent word

    go : (t : Bool) → (m == 36) ≡ t →
        cond t (text_part line String n.MathFlowFenceMeta text (line_end line))
        (text_part line String n.CodeFencedFenceInfo text word ++ white line word meta
        ++ text_part line String n.CodeFencedFenceMeta meta (line_end line)) ≡
        cond t (room.text_part linked (meta_name m) (trim_start bytes) (past_white bytes p))
        (word_parts linked m (trim_start bytes) (past_white bytes p))
    go true e =
        text-parts line text (trim_start bytes) (past_white bytes p) at
        ∙ ap (λ (t : Bool). room.text_part linked (cond t n.MathFlowFenceMeta n.CodeFencedFenceMeta) (trim_start bytes)
        (past_white bytes p)) (sym e)
    go false e = word-parts m line text (trim_start bytes) (past_white bytes p) at e

-- a fence from its first marker on, where what follows its run is known
fence-around : (m : ℕ) (line : TextLine) (r : Rest) (bytes : List ℕ) (p : Point) (inside : Rest → List Event)
    (es : List Event) →
    Valid line bytes p r → 1 ≤ run_len m bytes →
    let size : ℕ = run_len m bytes in
    let q : Point = past_text (take size bytes) p in
    ((s : Rest) → Valid line (drop size bytes) q s → inside s ≡ es) →
    fence_part m line r inside ≡ around (fence_name m) p (past_text bytes p) (pair (sequence_name m) p q ++ es)
fence-around m line r bytes p inside es is some known =
    ap₂ (λ (a b : Point). around (fence_name m) a b (piece line (sequence_name m) r after ++ inside after))
    (begins-place line r p is.at)
    (begins-place line (line_end line) (past_text bytes p)
    (end-following line r p bytes is.at (valid-bytes line bytes p r is)).valid.at)
    ∙ ap₂ (λ (fs gs : List Event). around (fence_name m) p (past_text bytes p) (fs ++ gs))
    (piece-is line (sequence_name m) r after p (take size bytes) (drop size bytes) is.at
    (valid-bytes line bytes p r is ∙ sym (take-append-drop size bytes)) following
    ∙ over)
    (known after following.valid)
  where
    size : ℕ
    size = run_len m bytes

    after : Rest
    after = past (run_len m r.bytes) r

    q : Point
    q = past_text (take size bytes) p

    following : IsAfter line r (take size bytes) (drop size bytes) p after
    following = run-front (λ (b : ℕ). b == m) line r p bytes is

    over : part_over (sequence_name m) (take size bytes) p q ≡ pair (sequence_name m) p q
    over = go bytes size some (prefix_len-le-length (λ (b : ℕ). b == m) bytes)
      where
        go : (bytes : List ℕ) (k : ℕ) → 1 ≤ k → k ≤ length bytes →
            part_over (sequence_name m) (take k bytes) p q ≡ pair (sequence_name m) p q
        go bytes zero some le = absurd (omega (arith, some))
        go [] (suc k) some le = absurd (omega (arith, le))
        go (b ∷ bytes) (suc k) some le = refl

-- The opening line after its indent, with this marker.
pub opening-fence : (m : ℕ) (line : TextLine) (r : Rest) (p : Point) → BeginsAt line r p →
    let text : List ℕ = trim_start (rest_bytes r) in
    let q : Point = past_white (rest_bytes r) p in
    1 ≤ run_len m text →
    fence_part m line (after_indent r) (info_parts m line) ≡
    around (fence_name m) q (past_text (rest_bytes r) p) (fence_parts linked m text q)
opening-fence m line r p at some =
    fence-around m line (after_indent r) text q (info_parts m line) (after_parts linked m (drop size text)
    (past_text (take size text) q)) following.valid some
    (λ s is. info-parts m line s (drop size text) (past_text (take size text) q) is)
    ∙ ap (λ (e : Point). around (fence_name m) q e (fence_parts linked m text q)) end
  where
    all : List ℕ
    all = rest_bytes r

    text : List ℕ
    text = trim_start all

    size : ℕ
    size = run_len m text

    q : Point
    q = past_white all p

    following : IsAfter line r (take (prefix_len is_white all) all) text p (after_indent r)
    following = white-front line r p all at refl

    end : past_text text q ≡ past_text all p
    end =
        sym (past_text-append (take (prefix_len is_white all) all) text p)
        ∙ ap (λ (l : List ℕ). past_text l p) (take-append-drop (prefix_len is_white all) all)

-- A closing fence.
closing-part : (m : ℕ) (line : TextLine) (r : Rest) (p : Point) → BeginsAt line r p →
    1 ≤ run_len m (trim_start r.bytes) →
    white line r (after_indent r)
    ++ fence_part m line (after_indent r) (λ after. white line after (line_end line)) ≡
    closing_line m r p (past_text (rest_bytes r) p)
closing-part m line r p at some =
    ap₂ (λ (es fs : List Event). es ++ fs) (white-lost (indent r) line r p at)
    (fence-around m line (after_indent r) text q (λ after. white line after (line_end line)) blank valid some
    (λ s is.
    piece-end line n.SpaceOrTab s (past_text (take size text) q) (drop size text) is.at
    (valid-bytes line (drop size text) (past_text (take size text) q) s is)
    ∙ ap (part_over n.SpaceOrTab (drop size text) (past_text (take size text) q)) following)
    ∙ ap
    (λ (e : Point).
    around (fence_name m) q e (pair (sequence_name m) q (past_text (take size text) q) ++ blank)) end)
  where
    text : List ℕ
    text = trim_start r.bytes

    size : ℕ
    size = run_len m text

    q : Point
    q = past_columns (indent r) r p

    blank : List Event
    blank = part_over n.SpaceOrTab (drop size text) (past_text (take size text) q) (past_text (rest_bytes r) p)

    left : Rest
    left = after_indent r

    bytes : left.bytes ≡ text
    bytes = ap (λ (s : Rest). s.bytes) (indent-past r)

    valid : Valid line text q left
    valid = record {
      at = begins-lost (indent r) line r p at;
      whole = ap (λ (s : Rest). s.spaces) (indent-past r);
      bytes_are = bytes;
    }

    end : past_text text q ≡ past_text (rest_bytes r) p
    end =
        ap (λ (l : List ℕ). past_text l q) (sym (valid-bytes line text q left valid))
        ∙ lost-end (indent r) line r p at

    following : past_text (drop size text) (past_text (take size text) q) ≡ past_text (rest_bytes r) p
    following =
        sym (past_text-append (take size text) (drop size text) q)
        ∙ ap (λ (l : List ℕ). past_text l q) (take-append-drop size text) ∙ end

-- A further line after an opening fence.
pub further-line : (options : ParseOptions) (o : Opening) (line : TextLine) (r : Rest) (p : Point) →
    BeginsAt line r p → 1 ≤ o.size →
    fenced_line options o line r ≡ further_parts options (held_of o) r p (past_text (rest_bytes r) p)
further-line options o line r p at some = go (closes options o r) refl
  where
    name : Name
    name = for_marker o.marker n.CodeFlowChunk n.MathFlowChunk

    closed : List Event
    closed =
        white line r (after_indent r)
        ++ fence_part o.marker line (after_indent r) (λ after. white line after (line_end line))

    end : Point
    end = past_text (rest_bytes r) p

    go : (t : Bool) → closes options o r ≡ t →
        cond t closed (content_line name o.indent line r) ≡
        cond t (closing_line o.marker r p end) (lost_line name o.indent r p end)
    go true e =
        let size : ℕ = run_len o.marker (trim_start r.bytes) in
        let both = and_parts (has_small_indent options r && nat_le o.size size)
        (is_blank (drop size (trim_start r.bytes))) e in
        let least = (and_parts (has_small_indent options r) (nat_le o.size size) both.0).1 in
        let enough : 1 ≤ size = omega (arith, leb-true o.size size least) in
        closing-part o.marker line r p at enough
    go false e = line-lost name o.indent line r p at
