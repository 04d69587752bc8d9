-- No content is in a heading, and its links are to text.
use Rattle.md_engine.specs.declared.tokenizer.held_leaf.HeldLeaf.TheVariants as held_leaf
use Rattle.std.proofs.Common.{◌≡◌, ℕ, Bool, true, false, cond, ◌&&◌, ◌==◌, List, [], ◌∷◌, ◌++◌, drop, length, refl, ap}
use Rattle.std.specs.Prelude.{Option, Some, None, take}
use Rattle.md_engine.specs.declared.configuration.ParseOptions.{ParseOptions}
use Rattle.md_engine.specs.declared.event.Content.{Content}
use Rattle.md_engine.specs.declared.event.Content.TheVariants as content
use Rattle.md_engine.specs.declared.event.Event.{Event}
use Rattle.md_engine.specs.declared.event.Name.TheVariants as n
use Rattle.md_engine.specs.declared.event.Point.{Point}
use Rattle.md_engine.specs.declared.tokenizer.Scratch.{Scratch}
use Rattle.md_engine.specs.declared.tokenizer.TheConstants.Scratch.{REST}
use Rattle.md_engine.specs.Meaning.{Cell}
use Rattle.md_leaves.specs.Heading.{text_begun, text_from}
use Rattle.md_leaves.specs.HeadingRule as heading
use Rattle.md_leaves.specs.HeadingRuns as runs
use Rattle.md_leaves.specs.HeadingRuns.{chunk_unless_empty, line_runs, linked_data, text_events}
use Rattle.md_meaning.specs.Leaves.{heading_text}
use Rattle.md_meaning.specs.Lines.{without_ending}
use Rattle.md_events.specs.declared.inline.Chunk.{Chunk}
use Rattle.md_events.specs.Ahead.{begins_white, line_end, white_end, white_rest}
use Rattle.md_events.specs.Events.Nested.{enter, exit, pair}
use Rattle.md_events.specs.Events.Places.{past_text}
use Rattle.md_events.specs.Spaces.{any_size, small_indent}
use Rattle.md_events.specs.WholeLine.{whole_line}
use Rattle.proof_leaf_laws.specs.Leaf.HeadingAtx.{heading_leaf}
use Rattle.proof_leaf_laws.proofs.HeadingAtx.Runs.{runs-each}
use Rattle.proof_frame.proofs.ContentFacts.{NoContent, no_content-append}

-- runs of whitespace and of `#`
opens-no_content : (wants : Content → Bool) (run : runs.Run) (p : Point) → NoContent wants (runs.opens run p)
opens-no_content wants runs.Apart p = tt
opens-no_content wants runs.White p = (refl, refl, tt)
opens-no_content wants runs.Hashes p = (refl, refl, tt)

closes-no_content : (wants : Content → Bool) (run : runs.Run) (p : Point) → NoContent wants (runs.closes run p)
closes-no_content wants runs.Apart p = tt
closes-no_content wants runs.White p = (refl, refl, tt)
closes-no_content wants runs.Hashes p = (refl, refl, tt)

runs-no_content : (wants : Content → Bool) (run : runs.Run) (bytes : List ℕ) (p : Point) →
    NoContent wants (line_runs run bytes p)
runs-no_content wants run bytes p =
    runs-each (λ q. Unit {0}) (NoContent wants)
    (record {
      append = no_content-append wants;
      closes = λ r q h. closes-no_content wants r q;
      opens = λ r q h. opens-no_content wants r q;
      next = λ b q h. tt;
    }) run bytes p tt

-- the text of a heading is linked to text
data-no_content : (wants : Content → Bool) → wants content.Text ≡ false → (text : Option Chunk) →
    NoContent wants (linked_data text)
data-no_content wants w None = tt
data-no_content wants w (Some chunk) =
    (ap (λ (x : Bool). cond x (Some content.Text) None) w, refl, (refl, refl, tt))

-- so it is in the text with what follows it
text-no_content : (wants : Content → Bool) → wants content.Text ≡ false → (line : List ℕ) (p : Point) →
    NoContent wants (text_events line p)
text-no_content wants w line p =
    let size = length (heading_text line) in
    let end : Point = past_text (take size line) p in
    no_content-append wants (linked_data (chunk_unless_empty size p end)) (line_runs runs.Apart (drop size line) end)
    (data-no_content wants w (chunk_unless_empty size p end)) (runs-no_content wants runs.Apart (drop size line) end)

from-no_content : (wants : Content → Bool) → wants content.Text ≡ false → (p : Point) (s : Scratch) (line : List ℕ) →
    NoContent wants (text_from p s line)
from-no_content wants w p s line =
    go ((p.vs == 0) && (p.index == s.start)) (text-no_content wants w (without_ending line) p)
  where
    go : (x : Bool) → NoContent wants (text_events (without_ending line) p) →
        NoContent wants (cond x (text_events (without_ending line) p) [])
    go true h = h
    go false h = tt

inside-no_content : (wants : Content → Bool) → wants content.Text ≡ false → (cells : List Cell) (p : Point) →
    NoContent wants (heading.text_inside cells p)
inside-no_content wants w cells p = from-no_content wants w p (text_begun p REST) (whole_line p cells)

-- after the opening sequence
gap-no_content : (wants : Content → Bool) → wants content.Text ≡ false → (cells : List Cell) (p : Point) →
    NoContent wants (heading.gap_inside cells p)
gap-no_content wants w cells p =
    go (begins_white cells) (inside-no_content wants w (white_rest any_size cells) (white_end any_size cells p))
    (inside-no_content wants w cells p)
  where
    q : Point
    q = white_end any_size cells p

    following : List Event
    following = heading.text_inside (white_rest any_size cells) q

    go : (x : Bool) → NoContent wants following → NoContent wants (heading.text_inside cells p) →
        NoContent wants (cond x (pair n.SpaceOrTab p q ++ following) (heading.text_inside cells p))
    go true h k = (refl, refl, (refl, refl, h))
    go false h k = k

hashes-no_content : (wants : Content → Bool) → wants content.Text ≡ false → (cells : List Cell) (p : Point) →
    NoContent wants (heading.hashes_inside cells p)
hashes-no_content wants w [] p = (refl, refl, gap-no_content wants w [] p)
hashes-no_content wants w (c ∷ cs) p =
    go (c.byte == 35) (hashes-no_content wants w cs c.after) (gap-no_content wants w (c ∷ cs) p)
  where
    go : (x : Bool) → NoContent wants (heading.hashes_inside cs c.after) →
        NoContent wants (heading.gap_inside (c ∷ cs) p) →
        NoContent wants
        (cond x (heading.hashes_inside cs c.after) (exit n.HeadingAtxSequence p ∷ heading.gap_inside (c ∷ cs) p))
    go true h k = h
    go false h k = (refl, refl, k)

-- what a heading adds
pub heading-no_content : (wants : Content → Bool) → wants content.Text ≡ false →
    (options : ParseOptions) (cells : List Cell) (p : Point) →
    NoContent wants (heading_leaf.adds options held_leaf.None cells p)
heading-no_content wants w options cells p =
    let room = small_indent options in
    let end : Point = white_end room cells p in
    let inside : NoContent wants (heading.heading_inside options cells p) =
    no_content-append wants (cond (begins_white cells) (pair n.SpaceOrTab p end) [])
    (enter n.HeadingAtxSequence end ∷ heading.hashes_inside (white_rest room cells) end)
    (indent (begins_white cells) end)
    (refl, refl, hashes-no_content wants w (white_rest room cells) end) in (
      refl,
      refl,
      no_content-append wants (heading.heading_inside options cells p)
          (exit n.HeadingAtx (line_end cells p) ∷ []) inside (refl, refl, tt),
    )
  where
    indent : (some : Bool) (q : Point) → NoContent wants (cond some (pair n.SpaceOrTab p q) [])
    indent true q = (refl, refl, (refl, refl, tt))
    indent false q = tt
