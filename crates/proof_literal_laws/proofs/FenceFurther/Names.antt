-- The names of the events of a further line of fenced code or math.
use Rattle.std.proofs.Common.{◌≡◌, ℕ, Bool, true, false, cond, ◌&&◌, List, [], ◌∷◌, ◌++◌, refl}
use Rattle.std.specs.Prelude.{◌==◌, nat_lt, take, drop}
use Rattle.md_engine.specs.declared.configuration.ParseOptions.{ParseOptions}
use Rattle.md_engine.specs.declared.event.Content.{Content}
use Rattle.md_engine.specs.declared.event.Content.TheVariants as content
use Rattle.md_engine.specs.declared.event.Event.{Event}
use Rattle.md_engine.specs.declared.event.Kind.TheVariants.{Enter, Exit}
use Rattle.md_engine.specs.declared.event.Name.TheVariants as n
use Rattle.md_engine.specs.declared.event.Point.{Point}
use Rattle.md_engine.specs.declared.tokenizer.held_leaf.HeldLeaf.{HeldLeaf}
use Rattle.md_engine.specs.Meaning.{Cell}
use Rattle.md_meaning.specs.Leaves.{closes}
use Rattle.md_meaning.specs.Rest.{Rest, indent, run_len, trim_start}
use Rattle.md_literal.specs.Fence.{block_name, chunk_name, fence_name, held_indent, held_marker, sequence_name}
use Rattle.md_literal.specs.FenceLine.{chunk_events, closes_here, closing_end, closing_events, further_inside, spaces}
use Rattle.md_leaves.specs.CellRuns.{is_end, is_line, run_end, run_rest}
use Rattle.md_events.specs.Ahead.{begins_white, white_end, white_rest}
use Rattle.md_events.specs.Events.Nested.{exit, pair}
use Rattle.md_events.specs.Events.Places.{past_text}
use Rattle.md_events.specs.Spaces.{any_size, small_indent}
use Rattle.proof_literal_laws.specs.Leaf.FenceFurther.{closing_line, closing_part, fence_further}
use Rattle.proof_literal_laws.specs.Leaf.FenceFurther.{chunk_line, further_parts, opening_of}
use Rattle.proof_frame.specs.LineColumns.{past_columns, rest_of}
use Rattle.proof_frame.proofs.ContentFacts.{NoContent}
use Rattle.proof_frame.proofs.EventNames.{is_recorded, is_lined}
use Rattle.proof_literal_laws.proofs.IndentRemoved.Names.{is_inside, AreInside, More, either-part, inside-lined}
use Rattle.proof_literal_laws.proofs.IndentRemoved.Names.{lost-each, more-no_content, over-each}
use Rattle.proof_literal_laws.proofs.Fence.Each.{by-math}
use Rattle.proof_frame.proofs.EachEvent.{each-append}
use Rattle.proof_frame.proofs.LinedFacts.{AreLined, IsLined}

fence-inside : (m : ℕ) → is_inside (fence_name m) ≡ true
fence-inside m = by-math (λ a. is_inside a ≡ true) (m == 36) _ _ refl refl

sequence-inside : (m : ℕ) → is_inside (sequence_name m) ≡ true
sequence-inside m = by-math (λ a. is_inside a ≡ true) (m == 36) _ _ refl refl

chunk-inside : (m : ℕ) → is_inside (chunk_name m) ≡ true
chunk-inside m = by-math (λ a. is_inside a ≡ true) (m == 36) _ _ refl refl

-- By its rest: what holds of no events, and of one more such, holds of what is in the line.
pub parts-each : (P : List Event → Type 0) → P [] → More P → (options : ParseOptions) (on : HeldLeaf) (r : Rest)
    (p q : Point) → P (further_parts options on r p q)
parts-each P none more options on r p q = go (closes options (opening_of on) r)
  where
    m : ℕ
    m = held_marker on

    closing : (at : Point) → P (closing_part (held_marker on) (trim_start r.bytes) at q)
    closing at =
        let text = trim_start r.bytes in
        let size = run_len m text in
        let end = past_text (take size text) at in
        more Enter (fence_name m) at _ (fence-inside m)
        (more Enter (sequence_name m) at _ (sequence-inside m)
        (more Exit (sequence_name m) end _ (sequence-inside m)
        (over-each P more n.SpaceOrTab (drop size text) end q _ refl
        (more Exit (fence_name m) q [] (fence-inside m) none))))

    go : (x : Bool) →
        P (cond x (closing_line (held_marker on) r p q) (chunk_line (held_marker on) (held_indent on) r p q))
    go true =
        let all = indent r in
        either-part P more (nat_lt 0 all && nat_lt 0 all) n.SpaceOrTab p (past_columns all r p) _ refl
        (closing (past_columns all r p))
    go false = lost-each P none more (chunk_name m) (held_indent on) r p q (chunk-inside m)

pub parts-inside : (options : ParseOptions) (on : HeldLeaf) (r : Rest) (p q : Point) →
    AreInside (further_parts options on r p q)
parts-inside options on r p q = λ P none more. parts-each P none more options on r p q

-- By its cells: the same, before others of which it holds.
pub inside-each : (P : List Event → Type 0) → More P → (options : ParseOptions) (on : HeldLeaf) (cells : List Cell)
    (p : Point) (es : List Event) → P es → P (further_inside options on cells p ++ es)
inside-each P more options on cells p es h = go (closes_here options on cells)
  where
    m : ℕ
    m = held_marker on

    -- whitespace, and what follows it
    white : (room : ℕ) (cells : List Cell) (p : Point) (xs ys : List Event) → P (xs ++ ys) →
        P ((spaces room cells p ++ xs) ++ ys)
    white room cells p xs ys k = by (nat_lt 0 room && begins_white cells)
      where
        by : (x : Bool) → P ((cond x (pair n.SpaceOrTab p (white_end room cells p)) [] ++ xs) ++ ys)
        by true = more Enter n.SpaceOrTab p _ refl (more Exit n.SpaceOrTab (white_end room cells p) _ refl k)
        by false = k

    closing : (rest : List Cell) (at : Point) → P (closing_events (held_marker on) rest at ++ es)
    closing rest at =
        let q = run_end (λ b. b == held_marker on) rest at in
        let end = exit (fence_name m) (closing_end m rest at) in
        more Enter (fence_name m) at _ (fence-inside m)
        (more Enter (sequence_name m) at _ (sequence-inside m)
        (more Exit (sequence_name m) q _ (sequence-inside m)
        (white any_size (run_rest (λ b. b == held_marker on) rest) q (end ∷ []) es
        (more Exit (fence_name m) (closing_end m rest at) es (fence-inside m) h))))

    chunk : (left : List Cell) (at : Point) → P (chunk_events (held_marker on) left at ++ es)
    chunk left at = by (is_end left)
      where
        by : (x : Bool) → P (cond x [] (pair (chunk_name (held_marker on)) at (run_end is_line left at)) ++ es)
        by true = h
        by false =
            more Enter (chunk_name m) at _ (chunk-inside m)
            (more Exit (chunk_name m) (run_end is_line left at) es (chunk-inside m) h)

    go : (x : Bool) →
        P
        (cond x
        (spaces (small_indent options) cells p
        ++ closing_events (held_marker on) (white_rest (small_indent options) cells)
        (white_end (small_indent options) cells p))
        (spaces (held_indent on) cells p
        ++ chunk_events (held_marker on) (white_rest (held_indent on) cells) (white_end (held_indent on) cells p))
        ++ es)
    go true =
        let room = small_indent options in
        let rest = white_rest room cells in
        let at = white_end room cells p in
        white room cells p (closing_events m rest at) es (closing rest at)
    go false =
        let lost = held_indent on in
        let rest = white_rest lost cells in
        let at = white_end lost cells p in
        white lost cells p (chunk_events m rest at) es (chunk rest at)

-- What is in the line has no name of a resolver's, and no content.

block-content : (m : ℕ) → is_recorded (block_name m) ≡ false
block-content m = by-math (λ a. is_recorded a ≡ false) (m == 36) _ _ refl refl

-- Its names may be in a leaf of several lines.

block-lined : (m : ℕ) → is_lined (block_name m) ≡ true
block-lined m = by-math (λ a. is_lined a ≡ true) (m == 36) _ _ refl refl

pub further-lined : (options : ParseOptions) (on : HeldLeaf) (line : List ℕ) (p : Point) →
    AreLined (fence_further.added options on line p)
further-lined options on line p =
    let q : Point = past_text line p in
    let parts : List Event = further_parts options on (rest_of p line) p q in (
      block-lined (held_marker on),
      each-append IsLined parts (exit (block_name (held_marker on)) q ∷ [])
          (inside-lined parts (parts-inside options on (rest_of p line) p q)) (block-lined (held_marker on), tt),
    )

-- It holds no content, and its link is to none that is read later.
pub further-no_content : (wants : Content → Bool) → wants content.Flow ≡ false → (options : ParseOptions)
    (on : HeldLeaf) (cells : List Cell) (p : Point) → NoContent wants (fence_further.adds options on cells p)
further-no_content wants flow options on cells p = (
  rw flow refl,
  block-content (held_marker on),
  inside-each (NoContent wants) (more-no_content wants) options on cells p _
      (refl, block-content (held_marker on), tt),
)
