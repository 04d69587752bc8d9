-- What holds of each event of a fence, as it does of its names.
use Rattle.std.proofs.Common.{◌≡◌, ℕ, Bool, true, false, cond, ◌&&◌, nat_lt, List, [], ◌∷◌, ◌++◌, take, drop, length}
use Rattle.std.proofs.Common.{refl}
use Rattle.std.specs.Prelude.{◌==◌}
use Rattle.md_engine.specs.declared.configuration.ParseOptions.{ParseOptions}
use Rattle.md_engine.specs.declared.event.Event.{Event}
use Rattle.md_engine.specs.declared.event.Name.{Name}
use Rattle.md_engine.specs.declared.event.Name.TheVariants as n
use Rattle.md_engine.specs.declared.event.Point.{Point}
use Rattle.md_engine.specs.declared.tokenizer.held_leaf.HeldLeaf.{HeldLeaf}
use Rattle.md_engine.specs.Meaning.{Cell}
use Rattle.md_meaning.specs.Leaves.{first_word}
use Rattle.md_meaning.specs.Rest.{is_white, run_len, trim_start}
use Rattle.md_meaning.specs.Texts.{first_byte}
use Rattle.md_literal.specs.Fence.{block_name, fence_name, held_marker, meta_name, sequence_name, string_link}
use Rattle.md_literal.specs.FenceLine.{after_events, fence_adds, info_events, later_part, meta_events, open_events}
use Rattle.md_literal.specs.FenceLine.{spaces}
use Rattle.md_leaves.specs.CellRuns.{is_end, is_line, is_word, run_end, run_rest}
use Rattle.md_events.specs.Ahead.{begins_white, line_end, white_end, white_rest}
use Rattle.md_events.specs.Events.Nested.{around, enter, enter_link, exit, pair}
use Rattle.md_events.specs.Events.Places.{past_text}
use Rattle.md_events.specs.Spaces.{any_size, small_indent}
use Rattle.proof_literal_laws.specs.Leaf.Fence.{Inner, after_parts, fence_around, fence_line, fence_parts, past_white}
use Rattle.proof_literal_laws.specs.Leaf.Fence.{text_part, text_parts, white_part, word_parts}
use Rattle.proof_frame.proofs.EachEvent.{Each, each-append}
use Rattle.proof_frame.proofs.SpanLemmas.{either}

-- the names of what is in a block, but for that of what is read later
abbrev pub is_fence_name : Name → Bool
is_fence_name n.SpaceOrTab = true
is_fence_name n.CodeFencedFence = true
is_fence_name n.CodeFencedFenceSequence = true
is_fence_name n.CodeFencedFenceInfo = true
is_fence_name n.CodeFencedFenceMeta = true
is_fence_name n.MathFlowFence = true
is_fence_name n.MathFlowFenceSequence = true
is_fence_name n.MathFlowFenceMeta = true
is_fence_name _ = false

-- and those of blocks
abbrev pub is_block_name : Name → Bool
is_block_name n.CodeFenced = true
is_block_name n.MathFlow = true
is_block_name _ = false

-- by its marker
pub by-math : (P : Name → Type 0) (x : Bool) (a b : Name) → P a → P b → P (cond x a b)
by-math P true a b h k = h
by-math P false a b h k = k

block-named : (m : ℕ) → is_block_name (block_name m) ≡ true
block-named m = by-math (λ x. is_block_name x ≡ true) (m == 36) n.MathFlow n.CodeFenced refl refl

pub fence-named : (m : ℕ) → is_fence_name (fence_name m) ≡ true
fence-named m = by-math (λ x. is_fence_name x ≡ true) (m == 36) n.MathFlowFence n.CodeFencedFence refl refl

pub sequence-named : (m : ℕ) → is_fence_name (sequence_name m) ≡ true
sequence-named m = by-math (λ x. is_fence_name x ≡ true)
    (m == 36) n.MathFlowFenceSequence n.CodeFencedFenceSequence refl refl

pub meta-named : (m : ℕ) → is_fence_name (meta_name m) ≡ true
meta-named m = by-math (λ x. is_fence_name x ≡ true) (m == 36) n.MathFlowFenceMeta n.CodeFencedFenceMeta refl refl

-- what holds of the begin and of the end of a part of each of these names
abbrev pub OfNames : (Event → Type 0) → Type 0
OfNames P = (name : Name) → is_fence_name name ≡ true → (p : Point) → P (enter name p) × P (exit name p)

abbrev pub OfBlocks : (Event → Type 0) → Type 0
OfBlocks P = (name : Name) → is_block_name name ≡ true → (p : Point) → P (enter name p) × P (exit name p)

each-pair : (P : Event → Type 0) → OfNames P → (name : Name) (p q : Point) → is_fence_name name ≡ true →
    Each P (pair name p q)
each-pair P of name p q is = ((of name is p).0, ((of name is q).1, tt))

each-around : (P : Event → Type 0) → OfNames P → (name : Name) (p q : Point) (es : List Event) →
    is_fence_name name ≡ true → Each P es → Each P (around name p q es)
each-around P of name p q es is h =
    ((of name is p).0, each-append P es (exit name q ∷ []) h ((of name is q).1, tt))

-- By the bytes of the line, with what is in info and meta.

pub white-each : (P : Event → Type 0) → OfNames P → (bytes : List ℕ) (p : Point) → Each P (white_part bytes p)
white-each P of [] p = tt
white-each P of (b ∷ bs) p =
    either (Each P) (is_white b) (pair n.SpaceOrTab p (past_white (b ∷ bs) p)) []
    (each-pair P of n.SpaceOrTab p (past_white (b ∷ bs) p) refl) tt

part-each : (P : Event → Type 0) → OfNames P → (inner : Inner) → ((p q : Point) → Each P (inner p q)) → (name : Name)
    (text : List ℕ) (p : Point) → is_fence_name name ≡ true → Each P (text_part inner name text p)
part-each P of inner h name [] p is = tt
part-each P of inner h name (b ∷ bs) p is =
    let q = past_text (b ∷ bs) p in each-around P of name p q (inner p q) is (h p q)

words-each : (P : Event → Type 0) → OfNames P → (inner : Inner) → ((p q : Point) → Each P (inner p q)) → (m : ℕ)
    (text : List ℕ) (p : Point) → Each P (text_parts inner m text p)
words-each P of inner h m text p =
    let word = first_word text in
    let left = drop (length word) text in
    let q = past_text word p in
    either (Each P) (m == 36) (text_part inner (meta_name m) text p) (word_parts inner m text p)
    (part-each P of inner h (meta_name m) text p (meta-named m))
    (each-append P (text_part inner n.CodeFencedFenceInfo word p ++ white_part left q)
    (text_part inner (meta_name m) (trim_start left) (past_white left q))
    (each-append P (text_part inner n.CodeFencedFenceInfo word p) (white_part left q)
    (part-each P of inner h n.CodeFencedFenceInfo word p refl) (white-each P of left q))
    (part-each P of inner h (meta_name m) (trim_start left) (past_white left q) (meta-named m)))

following-each : (P : Event → Type 0) → OfNames P → (inner : Inner) → ((p q : Point) → Each P (inner p q)) → (m : ℕ)
    (bytes : List ℕ) (p : Point) → Each P (after_parts inner m bytes p)
following-each P of inner h m bytes p =
    each-append P (white_part bytes p) (text_parts inner m (trim_start bytes) (past_white bytes p))
    (white-each P of bytes p) (words-each P of inner h m (trim_start bytes) (past_white bytes p))

pub parts-each : (P : Event → Type 0) → OfNames P → (inner : Inner) → ((p q : Point) → Each P (inner p q)) → (m : ℕ)
    (text : List ℕ) (p : Point) → Each P (fence_parts inner m text p)
parts-each P of inner h m text p =
    let size = run_len m text in
    let q = past_text (take size text) p in
    each-append P (pair (sequence_name m) p q) (after_parts inner m (drop size text) q)
    (each-pair P of (sequence_name m) p q (sequence-named m)) (following-each P of inner h m (drop size text) q)

-- all of the block
pub inside-each : (P : Event → Type 0) → OfNames P → (inner : Inner) → ((p q : Point) → Each P (inner p q)) → (m : ℕ)
    (text : List ℕ) (p q : Point) → Each P (around (fence_name m) p q (fence_parts inner m text p))
inside-each P of inner h m text p q =
    each-around P of (fence_name m) p q (fence_parts inner m text p) (fence-named m) (parts-each P of inner h m text p)

-- all of the line
pub line-each : (P : Event → Type 0) → OfNames P → OfBlocks P → (inner : Inner) → ((p q : Point) → Each P (inner p q)) →
    (line : List ℕ) (p : Point) → Each P (fence_line inner line p)
line-each P of blocks inner h line p =
    let text = trim_start line in
    let m = first_byte text in
    let q = past_white line p in
    let e = past_text line p in
    each-append P (white_part line p) (fence_around inner m text q e) (white-each P of line p) (
      (blocks (block_name m) (block-named m) q).0,
      each-append P (around (fence_name m) q e (fence_parts inner m text q)) (exit (block_name m) e ∷ [])
          (inside-each P of inner h m text q e) ((blocks (block_name m) (block-named m) e).1, tt),
    )

-- By its cells.

-- what holds of a chunk that is read later
abbrev pub OfChunk : (Event → Type 0) → Type 0
OfChunk P = (p : Point) → P (enter_link n.Data p string_link) × P (exit n.Data p)

spaces-each : (P : Event → Type 0) → OfNames P → (room : ℕ) (cells : List Cell) (p : Point) →
    Each P (spaces room cells p)
spaces-each P of room cells p =
    either (Each P) (nat_lt 0 room && begins_white cells) (pair n.SpaceOrTab p (white_end room cells p)) []
    (each-pair P of n.SpaceOrTab p (white_end room cells p) refl) tt

later-each : (P : Event → Type 0) → OfNames P → OfChunk P → (name : Name) (p q : Point) → is_fence_name name ≡ true →
    Each P (later_part name p q)
later-each P of chunk name p q is = ((of name is p).0, ((chunk p).0, ((chunk q).1, ((of name is q).1, tt))))

meta-each : (P : Event → Type 0) → OfNames P → OfChunk P → (m : ℕ) (cells : List Cell) (p : Point) →
    Each P (meta_events m cells p)
meta-each P of chunk m cells p =
    let q = run_end is_line cells p in
    either (Each P) (is_end cells) [] (later_part (meta_name m) p q) tt
    (later-each P of chunk (meta_name m) p q (meta-named m))

info-each : (P : Event → Type 0) → OfNames P → OfChunk P → (m : ℕ) (cells : List Cell) (p : Point) →
    Each P (info_events m cells p)
info-each P of chunk m cells p =
    let q = run_end is_word cells p in
    let rest = run_rest is_word cells in
    let meta = meta_events m (white_rest any_size rest) (white_end any_size rest q) in
    either (Each P) (is_end cells) [] (later_part n.CodeFencedFenceInfo p q ++ spaces any_size rest q ++ meta) tt
    (each-append P (later_part n.CodeFencedFenceInfo p q ++ spaces any_size rest q) meta
    (each-append P (later_part n.CodeFencedFenceInfo p q) (spaces any_size rest q)
    (later-each P of chunk n.CodeFencedFenceInfo p q refl) (spaces-each P of any_size rest q))
    (meta-each P of chunk m (white_rest any_size rest) (white_end any_size rest q)))

cells-following : (P : Event → Type 0) → OfNames P → OfChunk P → (m : ℕ) (cells : List Cell) (p : Point) →
    Each P (after_events m cells p)
cells-following P of chunk m cells p =
    let q = white_end any_size cells p in
    let rest = white_rest any_size cells in
    each-append P (spaces any_size cells p) (cond (m == 36) (meta_events m rest q) (info_events m rest q))
    (spaces-each P of any_size cells p)
    (either (Each P) (m == 36) (meta_events m rest q) (info_events m rest q) (meta-each P of chunk m rest q)
    (info-each P of chunk m rest q))

open-each : (P : Event → Type 0) → OfNames P → OfBlocks P → OfChunk P → (m : ℕ) (cells : List Cell) (p : Point) →
    Each P (open_events m cells p)
open-each P of blocks chunk m cells p =
    let q = run_end (λ b. b == m) cells p in
    let e = line_end cells p in
    let following = after_events m (run_rest (λ b. b == m) cells) q in (
      (blocks (block_name m) (block-named m) p).0,
      (
        (of (fence_name m) (fence-named m) p).0,
        (
          (of (sequence_name m) (sequence-named m) p).0,
          (
            (of (sequence_name m) (sequence-named m) q).1,
            each-append P following (exit (fence_name m) e ∷ exit (block_name m) e ∷ [])
                (cells-following P of chunk m (run_rest (λ b. b == m) cells) q)
                ((of (fence_name m) (fence-named m) e).1, ((blocks (block_name m) (block-named m) e).1, tt)),
          ),
        ),
      ),
    )

-- all that the line adds, whatever is held after it
pub adds-each : (P : Event → Type 0) → OfNames P → OfBlocks P → OfChunk P → (options : ParseOptions) (leaf : HeldLeaf)
    (cells : List Cell) (p : Point) → Each P (fence_adds options leaf cells p)
adds-each P of blocks chunk options leaf cells p =
    let room = small_indent options in
    let q = white_end room cells p in
    each-append P (spaces room cells p) (open_events (held_marker leaf) (white_rest room cells) q)
    (spaces-each P of room cells p) (open-each P of blocks chunk (held_marker leaf) (white_rest room cells) q)
