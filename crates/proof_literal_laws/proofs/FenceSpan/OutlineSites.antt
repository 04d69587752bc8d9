-- Where an outline is in fenced code and math, line by line: all that is in such a block may be there.
use Rattle.std.proofs.Common.{◌≡◌, ℕ, ◌+◌, Bool, true, false, cond, not, List, [], ◌∷◌, ◌++◌, length, take, drop, refl}
use Rattle.std.proofs.Common.{sym, ap, ◌∙◌, subst, slice_range, arith}
use Rattle.std.specs.Prelude.{◌==◌}
use Rattle.std.specs.List.{prefix_len}
use Rattle.std.proofs.lemmas.Bool.Decides.{nat_tests}
use Rattle.md_engine.specs.declared.configuration.ParseOptions.{ParseOptions}
use Rattle.md_engine.specs.declared.event.Event.{Event}
use Rattle.md_engine.specs.declared.event.Name.{Name}
use Rattle.md_engine.specs.declared.event.Name.TheVariants as n
use Rattle.md_engine.specs.declared.event.Point.{Point}
use Rattle.md_engine.specs.declared.tokenizer.held_leaf.HeldLeaf.{HeldLeaf}
use Rattle.md_meaning.specs.Leaves.{closes, first_word}
use Rattle.md_meaning.specs.Rest.{Rest, indent, is_white, lose, run_len, trim_start}
use Rattle.md_meaning.specs.Texts.{first_byte}
use Rattle.md_literal.specs.Fence.{chunk_name, fence_name, held_indent, held_marker, may_begin, sequence_name}
use Rattle.md_literal.proofs.FenceOpened.{marker-may}
use Rattle.md_literal.proofs.FenceParts.{prefix-take}
use Rattle.md_outline.specs.LinesAllowed.{AtEnd, AtEnding, AtInfo, AtLine, AtMeta, InText, LinesAllowed, Site}
use Rattle.md_outline.specs.LinesAllowed.{begun_site}
use Rattle.md_outline.proofs.LinesPass.{Passes, passes-append, passes-quiet, are_valid-both}
use Rattle.md_events.specs.Events.Inline.{pair_unless_empty}
use Rattle.md_events.specs.Events.Nested.{around, exit, pair}
use Rattle.md_events.specs.Events.Pieces.{may_cover}
use Rattle.md_events.specs.Events.Places.{past_text, same_place}
use Rattle.md_events.specs.Events.Spelled.{AsInfo, AsMeta, LeafKind, OfFence, OfMath, Purpose, byte_at}
use Rattle.md_events.proofs.InlineLemmas.{same-refl}
use Rattle.md_events.proofs.SpelledLemmas.{Quiet, Roles}
use Rattle.proof_frame.specs.RestLine.{rest_line}
use Rattle.proof_literal_laws.specs.Leaf.Fence.{after_parts, fence_parts, past_white, read_inner, text_part, white_part}
use Rattle.proof_literal_laws.specs.Leaf.FenceFurther.{chunk_line, closing_line, closing_part, further_parts}
use Rattle.proof_literal_laws.specs.Leaf.FenceFurther.{opening_of}
use Rattle.proof_frame.specs.LineColumns.{columns_part, part_over, past_columns}
use Rattle.proof_literal_laws.proofs.Fence.Kept.{text-end, white-roles}
use Rattle.proof_literal_laws.proofs.Fence.Laid.{Laid}
use Rattle.proof_literal_laws.proofs.Fence.Reads.{FirstIs, sequence-some, take-first}
use Rattle.proof_frame.proofs.LineWalk.{At}
use Rattle.proof_literal_laws.proofs.Fence.Walk.{at-drop, at-take, sequence-over}
use Rattle.proof_literal_laws.proofs.Fence.Words.{code_parts, parts_by}
use Rattle.proof_frame.proofs.WhiteQuiet.{white-quiet}
use Rattle.proof_literal_laws.proofs.FenceFurther.Reads.{chunk-role}
use Rattle.proof_literal_laws.proofs.FenceSpan.Open.{kind_of}
use Rattle.proof_frame.proofs.IndentRemoved.Reads.{columns-quiet}
use Rattle.proof_frame.proofs.PieceFacts.{over-front}
use Rattle.proof_literal_laws.proofs.IndentRemoved.Sites.{records_rest, line_site, lost-passes}

-- The opening fence: its markers, and what follows them.

-- what is read of bytes without an ending the tree does not show
inner-quiet : (bytes : List ℕ) (b : ℕ) (bs rest : List ℕ) (p : Point) → At bytes (b ∷ bs) p rest →
    Roles Quiet (read_inner bytes p (past_text (b ∷ bs) p))
inner-quiet bytes b bs rest p at =
    subst
    (λ (e : Point). Roles Quiet ((pair_unless_empty n.Data p e ++ pair_unless_empty n.LineEnding e q) ++ []))
    (sym (text-end bytes b bs rest p at)) (pairs (same_place p q) (same_place q q) (same-refl q))
  where
    q : Point
    q = past_text (b ∷ bs) p

    pairs : (x y : Bool) → y ≡ true →
        Roles Quiet ((cond x [] (pair n.Data p q) ++ cond y [] (pair n.LineEnding q q)) ++ [])
    pairs true true h = tt
    pairs false true h = (tt, (tt, tt))
    pairs x false h = cc

inner-valid : (bytes : List ℕ) (kind : LeafKind) (purpose : Purpose) (name : Name) (b : ℕ) (bs rest : List ℕ)
    (p : Point) (zs : List Event) → At bytes (b ∷ bs) p rest →
    let q = past_text (b ∷ bs) p in
    LinesAllowed bytes (InText kind purpose) (exit name q ∷ zs) →
    LinesAllowed bytes (InText kind purpose) ((read_inner bytes p q ++ exit name q ∷ []) ++ zs)
inner-valid bytes kind purpose name b bs rest p zs at h =
    let q = past_text (b ∷ bs) p in
    are_valid-both bytes (InText kind purpose) (read_inner bytes p q) (exit name q ∷ []) zs
    (passes-quiet bytes (InText kind purpose) (read_inner bytes p q) (inner-quiet bytes b bs rest p at)
    (exit name q ∷ zs) h)

-- info, if there is any
info-valid : (bytes xs rest : List ℕ) (p : Point) (zs : List Event) → At bytes xs p rest →
    LinesAllowed bytes (AtInfo OfFence) zs → LinesAllowed bytes (AtMeta OfFence) zs →
    LinesAllowed bytes (AtInfo OfFence) (text_part (read_inner bytes) n.CodeFencedFenceInfo xs p ++ zs)
info-valid bytes [] rest p zs at none some = none
info-valid bytes (b ∷ bs) rest p zs at none some =
    (tt, inner-valid bytes OfFence AsInfo n.CodeFencedFenceInfo b bs rest p zs at (tt, some))

-- meta, after an info or none
abbrev before_meta : Bool → Site
before_meta info = cond info (AtMeta OfFence) (AtInfo OfFence)

meta-valid : (bytes xs rest : List ℕ) (p : Point) (zs : List Event) (info : Bool) → At bytes xs p rest →
    LinesAllowed bytes (before_meta info) zs → LinesAllowed bytes (AtEnding OfFence) zs →
    LinesAllowed bytes (before_meta info) (text_part (read_inner bytes) n.CodeFencedFenceMeta xs p ++ zs)
meta-valid bytes [] rest p zs info at none some = none
meta-valid bytes (b ∷ bs) rest p zs true at none some =
    (tt, inner-valid bytes OfFence AsMeta n.CodeFencedFenceMeta b bs rest p zs at (tt, some))
meta-valid bytes (b ∷ bs) rest p zs false at none some =
    (tt, inner-valid bytes OfFence AsMeta n.CodeFencedFenceMeta b bs rest p zs at (tt, some))

-- which math has alone
math-valid : (bytes xs rest : List ℕ) (p : Point) (zs : List Event) → At bytes xs p rest →
    LinesAllowed bytes (AtInfo OfMath) zs → LinesAllowed bytes (AtEnding OfMath) zs →
    LinesAllowed bytes (AtInfo OfMath) (text_part (read_inner bytes) n.MathFlowFenceMeta xs p ++ zs)
math-valid bytes [] rest p zs at none some = none
math-valid bytes (b ∷ bs) rest p zs at none some =
    (tt, inner-valid bytes OfMath AsMeta n.MathFlowFenceMeta b bs rest p zs at (tt, some))

-- both, with whitespace between them
code-valid : (bytes xs rest : List ℕ) (p : Point) (zs : List Event) → At bytes xs p rest →
    LinesAllowed bytes (AtInfo OfFence) zs → LinesAllowed bytes (AtMeta OfFence) zs →
    LinesAllowed bytes (AtEnding OfFence) zs →
    LinesAllowed bytes (AtInfo OfFence) (code_parts (read_inner bytes) xs p ++ zs)
code-valid bytes xs rest p zs at none recorded end =
    are_valid-both bytes (AtInfo OfFence) (info ++ white) meta zs
    (are_valid-both bytes (AtInfo OfFence) info white (meta ++ zs)
    (info-valid bytes word (drop size xs ++ rest) p (white ++ (meta ++ zs)) (at-take bytes xs rest p size at)
    (following false none) (following true recorded)))
  where
    size : ℕ
    size = prefix_len (λ b. not (is_white b)) xs

    word : List ℕ
    word = first_word xs

    left : List ℕ
    left = drop (length word) xs

    q : Point
    q = past_text word p

    v : Point
    v = past_white left q

    info : List Event
    info = text_part (read_inner bytes) n.CodeFencedFenceInfo word p

    white : List Event
    white = white_part left q

    meta : List Event
    meta = text_part (read_inner bytes) n.CodeFencedFenceMeta (trim_start left) v

    at_left : At bytes left q rest
    at_left = subst (λ (k : ℕ). At bytes (drop k xs) (past_text word p) rest)
        (sym (prefix-take (λ b. not (is_white b)) xs)) (at-drop bytes xs rest p size at)

    following : (info : Bool) → LinesAllowed bytes (before_meta info) zs →
        LinesAllowed bytes (before_meta info) (white ++ (meta ++ zs))
    following info h =
        passes-quiet bytes (before_meta info) white (white-roles Quiet tt left q) (meta ++ zs)
        (meta-valid bytes (trim_start left) rest v zs info
        (at-drop bytes left rest q (prefix_len is_white left) at_left) h end)

-- the markers are no bytes of value 0
marker-some : (m : ℕ) → may_begin m ≡ true → (m == 0) ≡ false
marker-some m may = grind (arith, nat_tests)

marks-some : (bytes : List ℕ) (c : ℕ) (cs more : List ℕ) (p : Point) → At bytes (c ∷ cs) p more → (c == 0) ≡ false →
    (first_byte (slice_range bytes (byte_at p) (past_text (c ∷ cs) p).index) == 0) ≡ false
marks-some bytes c cs more p here some =
    let q = past_text (c ∷ cs) p in
    let over = over-front bytes p q (c ∷ cs) more here.valid (omega arith) refl in
    ap (λ (vs : ℕ). first_byte (slice_range bytes (cond (vs == 0) p.index (p.index + 1)) q.index) == 0) here.whole
    ∙ ap (λ (l : List ℕ). first_byte l == 0) over.slice ∙ some

fence-valid : (bytes : List ℕ) (math : Bool) (c : ℕ) (cs zs rest more : List ℕ) (p e : Point) (ys : List Event) →
    At bytes (c ∷ cs) p more → At bytes zs (past_text (c ∷ cs) p) rest → (c == 0) ≡ false →
    LinesAllowed bytes (AtEnding (cond math OfMath OfFence)) ys →
    let q = past_text (c ∷ cs) p in
    LinesAllowed bytes (begun_site (cond math OfMath OfFence))
    (around (cond math n.MathFlowFence n.CodeFencedFence) p e
    (pair (cond math n.MathFlowFenceSequence n.CodeFencedFenceSequence) p q
    ++ (white_part zs q ++ parts_by math (read_inner bytes) (trim_start zs) (past_white zs q))) ++ ys)
fence-valid bytes true c cs zs rest more p e ys here following some h =
    let q = past_text (c ∷ cs) p in
    let white = white_part zs q in
    let meta = text_part (read_inner bytes) n.MathFlowFenceMeta (trim_start zs) (past_white zs q) in
    let end = exit n.MathFlowFence e in
    let left =
    are_valid-both bytes (AtInfo OfMath) (white ++ meta) (end ∷ []) ys
    (are_valid-both bytes (AtInfo OfMath) white meta (end ∷ ys)
    (passes-quiet bytes (AtInfo OfMath) white (white-roles Quiet tt zs q) (meta ++ end ∷ ys)
    (math-valid bytes (trim_start zs) rest (past_white zs q) (end ∷ ys)
    (at-drop bytes zs rest q (prefix_len is_white zs) following) (tt, h) (tt, h)))) in
    (tt, (tt, (marks-some bytes c cs more p here some, left)))
fence-valid bytes false c cs zs rest more p e ys here following some h =
    let q = past_text (c ∷ cs) p in
    let white = white_part zs q in
    let parts = code_parts (read_inner bytes) (trim_start zs) (past_white zs q) in
    let end = exit n.CodeFencedFence e in
    let left =
    are_valid-both bytes (AtInfo OfFence) (white ++ parts) (end ∷ []) ys
    (are_valid-both bytes (AtInfo OfFence) white parts (end ∷ ys)
    (passes-quiet bytes (AtInfo OfFence) white (white-roles Quiet tt zs q) (parts ++ end ∷ ys)
    (code-valid bytes (trim_start zs) rest (past_white zs q) (end ∷ ys)
    (at-drop bytes zs rest q (prefix_len is_white zs) following) (tt, h) (tt, h) (tt, h)))) in
    (tt, (tt, (marks-some bytes c cs more p here some, left)))

pub first-passes : (options : ParseOptions) (bytes line rest : List ℕ) (p e : Point) → Laid options bytes line p rest →
    let text = trim_start line in
    let m = first_byte text in
    Passes bytes (begun_site (kind_of m)) (AtEnding (kind_of m))
    (around (fence_name m) (past_white line p) e (fence_parts (read_inner bytes) m text (past_white line p)))
first-passes options bytes line rest p e lies ys h =
    by (take size text) (at-take bytes text rest q size lies.at) (sequence-over options text lies.fence)
    (at-drop bytes text rest q size lies.at) (take-first size text)
  where
    text : List ℕ
    text = trim_start line

    m : ℕ
    m = first_byte (trim_start line)

    size : ℕ
    size = run_len m text

    q : Point
    q = past_white line p

    by : (zs : List ℕ) → At bytes zs q (drop size text ++ rest) → may_cover (sequence_name m) zs ≡ true →
        At bytes (drop size text) (past_text zs q) rest → FirstIs zs m →
        LinesAllowed bytes (begun_site (kind_of m))
        (around (fence_name m) q e
        (pair (sequence_name m) q (past_text zs q)
        ++ after_parts (read_inner bytes) m (drop size text) (past_text zs q)) ++ ys)
    by [] here over following first = absurd (sequence-some m over)
    by (c ∷ cs) here over following first =
        fence-valid bytes (m == 36) c cs (drop size text) rest (drop size text ++ rest) q e ys here following
        (ap (λ (x : ℕ). x == 0) first ∙ marker-some m (marker-may options m lies.fence.marker)) h

abbrev pub further_site : ParseOptions → HeldLeaf → Rest → Site
further_site options on r =
    let kind = kind_of (held_marker on) in
    cond (closes options (opening_of on) r) (AtEnd kind)
    (line_site kind (records_rest (rest_line (lose (held_indent on) r))))

-- by whether it is math
closing-passes : (bytes : List ℕ) (math : Bool) (p end q : Point) (white : List Event) → Roles Quiet white →
    Passes bytes (AtLine (cond math OfMath OfFence)) (AtEnd (cond math OfMath OfFence))
    (around (cond math n.MathFlowFence n.CodeFencedFence) p q
    (pair (cond math n.MathFlowFenceSequence n.CodeFencedFenceSequence) p end ++ white))
closing-passes bytes true p end q white quiet ys h =
    let left =
    are_valid-both bytes (AtEnd OfMath) white (exit n.MathFlowFence q ∷ []) ys
    (passes-quiet bytes (AtEnd OfMath) white quiet (exit n.MathFlowFence q ∷ ys) (tt, h)) in
    (tt, (tt, (tt, left)))
closing-passes bytes false p end q white quiet ys h =
    let left =
    are_valid-both bytes (AtEnd OfFence) white (exit n.CodeFencedFence q ∷ []) ys
    (passes-quiet bytes (AtEnd OfFence) white quiet (exit n.CodeFencedFence q ∷ ys) (tt, h)) in
    (tt, (tt, (tt, left)))

pub further-passes : (options : ParseOptions) (bytes : List ℕ) (on : HeldLeaf) (r : Rest) (p q : Point) →
    Passes bytes (AtLine (kind_of (held_marker on))) (further_site options on r) (further_parts options on r p q)
further-passes options bytes on r p q = go (closes options (opening_of on) r)
  where
    m : ℕ
    m = held_marker on

    kind : LeafKind
    kind = kind_of (held_marker on)

    go : (x : Bool) →
        Passes bytes (AtLine kind)
        (cond x (AtEnd kind) (line_site kind (records_rest (rest_line (lose (held_indent on) r)))))
        (cond x (closing_line (held_marker on) r p q) (chunk_line (held_marker on) (held_indent on) r p q))
    go true =
        let text = trim_start r.bytes in
        let at = past_columns (indent r) r p in
        let end = past_text (take (run_len m text) text) at in
        passes-append bytes (AtLine kind) (AtLine kind) (AtEnd kind) (columns_part (indent r) r p)
        (closing_part m text at q)
        (passes-quiet bytes (AtLine kind) (columns_part (indent r) r p) (columns-quiet (indent r) r p))
        (closing-passes bytes (m == 36) at end q (part_over n.SpaceOrTab (drop (run_len m text) text) end q)
        (white-quiet (drop (run_len m text) text) end q))
    go false =
        lost-passes bytes kind (chunk_name m) (held_indent on) r p q
        (chunk-role m)
