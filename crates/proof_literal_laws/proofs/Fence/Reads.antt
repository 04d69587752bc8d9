-- The events of a fence are read as its block.
use Rattle.std.proofs.Common.{◌≡◌, ℕ, zero, suc, ◌+◌, Bool, true, false, cond, List, [], ◌∷◌, ◌++◌, length, take, drop}
use Rattle.std.proofs.Common.{refl, sym, ap, ◌∙◌, subst, slice_range, arith}
use Rattle.std.specs.Prelude.{◌==◌, not, Option, Some, None}
use Rattle.std.specs.List.{prefix_len}
use Rattle.md_engine.specs.declared.configuration.ParseOptions.{ParseOptions}
use Rattle.md_engine.specs.declared.event.Event.{Event}
use Rattle.md_engine.specs.declared.event.Name.{Name}
use Rattle.md_engine.specs.declared.event.Name.TheVariants as n
use Rattle.md_engine.specs.declared.event.Point.{Point}
use Rattle.md_meaning.specs.Leaves.{after_word, first_word, nonempty}
use Rattle.md_meaning.specs.Rest.{is_white, run_len, trim_start}
use Rattle.md_meaning.specs.Texts.{first_byte}
use Rattle.md_literal.specs.Fence.{fence_name, sequence_name}
use Rattle.md_literal.proofs.FenceParts.{prefix-take}
use Rattle.md_events.specs.Events.Nested.{around, pair}
use Rattle.md_events.specs.Events.Places.{past_text}
use Rattle.md_events.specs.Events.Pieces.{may_cover}
use Rattle.md_events.specs.Events.Spelled.{AsInfo, AsMarkers, AsMeta, FenceLeaf, Fenced, MathLeaf, OfFence, OfMath}
use Rattle.md_events.specs.Events.Spelled.{OpenLeaf, Purpose, Reading, TextRole, Text, begun, columns_left, fresh, read}
use Rattle.md_events.specs.Events.Spelled.{role, text_to, recorded}
use Rattle.md_events.proofs.BlocksLemmas.{read-around, read-recorded}
use Rattle.md_events.proofs.SpelledLemmas.{Between, Quiet, QuietOrEnding, Roles, read-from, read-quiet, text-inline}
use Rattle.proof_literal_laws.specs.Leaf.Fence.{after_parts, fence_parts, past_white, read_inner, text_part, white_part}
use Rattle.proof_literal_laws.proofs.Fence.Kept.{white-roles}
use Rattle.proof_literal_laws.proofs.Fence.Laid.{Laid}
use Rattle.proof_frame.proofs.LineWalk.{At}
use Rattle.proof_literal_laws.proofs.Fence.Walk.{at-drop, at-take, sequence-over}
use Rattle.proof_literal_laws.proofs.Fence.Words.{code_parts, parts_by}
use Rattle.proof_frame.proofs.PieceFacts.{over-front}
use Rattle.proof_frame.proofs.PlainRoles.{plain-roles}

-- a text of the block is read as its bytes
text-recorded : (bytes : List ℕ) (b : ℕ) (bs rest : List ℕ) (p : Point) → At bytes (b ∷ bs) p rest → (r : Reading)
    (name : Name) (purpose : Purpose) (inside : List Event) →
    role name ≡ TextRole purpose → r.text ≡ None → Roles Between inside → Roles QuietOrEnding inside →
    read bytes r (around name p (past_text (b ∷ bs) p) inside) ≡
    recorded purpose (record { spaces = columns_left p; text = b ∷ bs }) r
text-recorded bytes b bs rest p at r name purpose inside records none between quiet =
    let q = past_text (b ∷ bs) p in
    let over = over-front bytes p q (b ∷ bs) rest at.valid (omega arith) refl in
    let slice : text_to bytes q.index (begun p) ≡ b ∷ bs =
    ap (λ (vs : ℕ). slice_range bytes (cond (vs == 0) p.index (p.index + 1)) q.index) at.whole ∙ over.slice in
    read-recorded bytes r name purpose p q inside records none between
    ∙ ap (λ (x : Text). recorded purpose (record { spaces = x.spaces; text = text_to bytes q.index x }) r)
    (text-inline bytes (begun p) inside quiet)
    ∙ ap (λ (l : List ℕ). recorded purpose (record { spaces = columns_left p; text = l }) r) slice

-- a leaf is open
abbrev pub opened : Reading → OpenLeaf → Reading
opened r leaf = record r { leaf = Some leaf }

-- a block whose first fence has these markers
abbrev pub fenced : List ℕ → Fenced
fenced markers = record { markers = markers; lines = []; closed = false }

part-recorded : (bytes : List ℕ) (b : ℕ) (bs rest : List ℕ) (p : Point) → At bytes (b ∷ bs) p rest → (r : Reading)
    (name : Name) (purpose : Purpose) → role name ≡ TextRole purpose → r.text ≡ None →
    read bytes r (text_part (read_inner bytes) name (b ∷ bs) p) ≡
    recorded purpose (record { spaces = columns_left p; text = b ∷ bs }) r
part-recorded bytes b bs rest p at r name purpose records none =
    let q = past_text (b ∷ bs) p in
    text-recorded bytes b bs rest p at r name purpose (read_inner bytes p q) records none
    (plain-roles Between bytes (record { first = p; after = q } ∷ []) tt tt)
    (plain-roles QuietOrEnding bytes (record { first = p; after = q } ∷ []) tt tt)

-- info
info-recorded : (bytes xs rest : List ℕ) (p : Point) → At bytes xs p rest → (r : Reading) (ys : List ℕ) →
    r.text ≡ None →
    read bytes (opened r (FenceLeaf (fenced ys) None None))
    (text_part (read_inner bytes) n.CodeFencedFenceInfo xs p) ≡
    opened r (FenceLeaf (fenced ys) (nonempty xs) None)
info-recorded bytes [] rest p at r ys none = refl
info-recorded bytes (b ∷ bs) rest p at r ys none =
    part-recorded bytes b bs rest p at (opened r (FenceLeaf (fenced ys) None None)) n.CodeFencedFenceInfo
    AsInfo refl none

-- meta
meta-recorded : (bytes xs rest : List ℕ) (p : Point) → At bytes xs p rest → (r : Reading) (ys : List ℕ)
    (info : Option (List ℕ)) → r.text ≡ None →
    read bytes (opened r (FenceLeaf (fenced ys) info None))
    (text_part (read_inner bytes) n.CodeFencedFenceMeta xs p) ≡
    opened r (FenceLeaf (fenced ys) info (nonempty xs))
meta-recorded bytes [] rest p at r ys info none = refl
meta-recorded bytes (b ∷ bs) rest p at r ys info none =
    part-recorded bytes b bs rest p at (opened r (FenceLeaf (fenced ys) info None)) n.CodeFencedFenceMeta
    AsMeta refl none

math-recorded : (bytes xs rest : List ℕ) (p : Point) → At bytes xs p rest → (r : Reading) (ys : List ℕ) →
    r.text ≡ None →
    read bytes (opened r (MathLeaf (fenced ys) None)) (text_part (read_inner bytes) n.MathFlowFenceMeta xs p) ≡
    opened r (MathLeaf (fenced ys) (nonempty xs))
math-recorded bytes [] rest p at r ys none = refl
math-recorded bytes (b ∷ bs) rest p at r ys none =
    part-recorded bytes b bs rest p at (opened r (MathLeaf (fenced ys) None)) n.MathFlowFenceMeta AsMeta refl none

-- both, with whitespace between them
code-recorded : (bytes xs rest : List ℕ) (p : Point) → At bytes xs p rest → (r : Reading) (ys : List ℕ) →
    r.text ≡ None →
    read bytes (opened r (FenceLeaf (fenced ys) None None)) (code_parts (read_inner bytes) xs p) ≡
    opened r (FenceLeaf (fenced ys) (nonempty (first_word xs)) (nonempty (after_word xs)))
code-recorded bytes xs rest p at r ys none =
    let size = prefix_len (λ b. not (is_white b)) xs in
    let word = first_word xs in
    let left = drop (length word) xs in
    let q = past_text word p in
    let v = past_white left q in
    let start = opened r (FenceLeaf (fenced ys) None None) in
    let mid = opened r (FenceLeaf (fenced ys) (nonempty word) None) in
    let info = text_part (read_inner bytes) n.CodeFencedFenceInfo word p in
    let meta = text_part (read_inner bytes) n.CodeFencedFenceMeta (trim_start left) v in
    let at_left = subst (λ (k : ℕ). At bytes (drop k xs) (past_text word p) rest)
    (sym (prefix-take (λ b. not (is_white b)) xs)) (at-drop bytes xs rest p size at) in
    read-from bytes start mid (info ++ white_part left q) meta
    (read-from bytes start mid info (white_part left q)
    (info-recorded bytes word (drop size xs ++ rest) p (at-take bytes xs rest p size at) r ys none)
    ∙ read-quiet bytes mid (white_part left q) (white-roles Quiet tt left q))
    ∙ meta-recorded bytes (trim_start left) rest v (at-drop bytes left rest q (prefix_len is_white left) at_left) r ys
    (nonempty word) none

-- The fence.

abbrev pub leaf_by : Bool → List ℕ → List ℕ → OpenLeaf
leaf_by true ys xs = MathLeaf (fenced ys) (nonempty xs)
leaf_by false ys xs = FenceLeaf (fenced ys) (nonempty (first_word xs)) (nonempty (after_word xs))

fence-read : (bytes : List ℕ) (r : Reading) (math : Bool) (c : ℕ) (cs zs rest more : List ℕ) (p e : Point) →
    At bytes (c ∷ cs) p more → At bytes zs (past_text (c ∷ cs) p) rest → r.text ≡ None →
    let q = past_text (c ∷ cs) p in
    read bytes (opened r (fresh (cond math OfMath OfFence)))
    (around (cond math n.MathFlowFence n.CodeFencedFence) p e
    (pair (cond math n.MathFlowFenceSequence n.CodeFencedFenceSequence) p q
    ++ (white_part zs q ++ parts_by math (read_inner bytes) (trim_start zs) (past_white zs q)))) ≡
    opened r (leaf_by math (c ∷ cs) (trim_start zs))
fence-read bytes r true c cs zs rest more p e here following none =
    let q = past_text (c ∷ cs) p in
    let start = opened r (fresh OfMath) in
    let mid = opened r (MathLeaf (fenced (c ∷ cs)) None) in
    let white = white_part zs q in
    let meta = text_part (read_inner bytes) n.MathFlowFenceMeta (trim_start zs) (past_white zs q) in
    read-around bytes start n.MathFlowFence p e (pair n.MathFlowFenceSequence p q ++ (white ++ meta))
    ∙ read-from bytes start mid (pair n.MathFlowFenceSequence p q) (white ++ meta)
    (text-recorded bytes c cs more p here start n.MathFlowFenceSequence AsMarkers [] refl none tt tt)
    ∙ read-from bytes mid mid white meta (read-quiet bytes mid white (white-roles Quiet tt zs q))
    ∙ math-recorded bytes (trim_start zs) rest (past_white zs q)
    (at-drop bytes zs rest q (prefix_len is_white zs) following) r
    (c ∷ cs) none
fence-read bytes r false c cs zs rest more p e here following none =
    let q = past_text (c ∷ cs) p in
    let start = opened r (fresh OfFence) in
    let mid = opened r (FenceLeaf (fenced (c ∷ cs)) None None) in
    let white = white_part zs q in
    let parts = code_parts (read_inner bytes) (trim_start zs) (past_white zs q) in
    read-around bytes start n.CodeFencedFence p e (pair n.CodeFencedFenceSequence p q ++ (white ++ parts))
    ∙ read-from bytes start mid (pair n.CodeFencedFenceSequence p q) (white ++ parts)
    (text-recorded bytes c cs more p here start n.CodeFencedFenceSequence AsMarkers [] refl none tt tt)
    ∙ read-from bytes mid mid white parts (read-quiet bytes mid white (white-roles Quiet tt zs q))
    ∙ code-recorded bytes (trim_start zs) rest (past_white zs q)
    (at-drop bytes zs rest q (prefix_len is_white zs) following) r
    (c ∷ cs) none

-- The block.

-- whether this is the first byte, if there is any
abbrev pub FirstIs : List ℕ → ℕ → Type 0
FirstIs [] m = Unit {0}
FirstIs (c ∷ cs) m = c ≡ m

-- the first of some markers is the first byte
pub take-first : (k : ℕ) (l : List ℕ) → FirstIs (take k l) (first_byte l)
take-first zero l = tt
take-first (suc k) [] = tt
take-first (suc k) (b ∷ bs) = refl

-- some are in a sequence
pub sequence-some : (m : ℕ) → may_cover (sequence_name m) [] ≡ true → ⊥
sequence-some m k = empty (m == 36) k
  where
    empty : (x : Bool) → may_cover (cond x n.MathFlowFenceSequence n.CodeFencedFenceSequence) [] ≡ true → ⊥
    empty true k = cc
    empty false k = cc

-- What is in the block, where the leaf is open.
pub fence-opened : (options : ParseOptions) (bytes line rest : List ℕ) (p e : Point) (o : Reading) →
    Laid options bytes line p rest → o.text ≡ None →
    let text = trim_start line in
    let m = first_byte text in
    let size = run_len m text in
    read bytes (opened o (fresh (cond (m == 36) OfMath OfFence)))
    (around (fence_name m) (past_white line p) e (fence_parts (read_inner bytes) m text (past_white line p))) ≡
    opened o (leaf_by (m == 36) (take size text) (trim_start (drop size text)))
fence-opened options bytes line rest p e o is none =
    by (take size text) (at-take bytes text rest q size is.at) (sequence-over options text is.fence)
    (at-drop bytes text rest q size is.at)
  where
    text : List ℕ
    text = trim_start line

    m : ℕ
    m = first_byte (trim_start line)

    size : ℕ
    size = run_len m text

    q : Point
    q = past_white line p

    by : (ys : List ℕ) → At bytes ys q (drop size text ++ rest) → may_cover (sequence_name m) ys ≡ true →
        At bytes (drop size text) (past_text ys q) rest →
        read bytes (opened o (fresh (cond (m == 36) OfMath OfFence)))
        (around (fence_name m) q e
        (pair (sequence_name m) q (past_text ys q)
        ++ after_parts (read_inner bytes) m (drop size text) (past_text ys q))) ≡
        opened o (leaf_by (m == 36) ys (trim_start (drop size text)))
    by [] here over following = absurd (sequence-some m over)
    by (c ∷ cs) here over following =
        fence-read bytes o (m == 36) c cs (drop size text) rest (drop size text ++ rest) q e here following none
