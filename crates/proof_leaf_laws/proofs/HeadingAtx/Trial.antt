-- The trial of a heading takes a line to its end, or refuses it.
use Rattle.md_engine.specs.declared.tokenizer.held_leaf.HeldLeaf.TheVariants as held_leaf
use Rattle.std.proofs.Common.{◌≡◌, ℕ, ◌≤◌, true, false, List, [], ◌∷◌, Some, length, refl, sym, ◌∙◌, arith}
use Rattle.std.specs.Prelude.{◌==◌}
use Rattle.std.proofs.lemmas.Bool.Decides.{nat_tests}
use Rattle.md_engine.specs.declared.configuration.ParseOptions.{ParseOptions}
use Rattle.md_engine.specs.declared.event.Name.TheVariants.{HeadingAtx}
use Rattle.md_engine.specs.Meaning.{Cell, Here, Refuses}
use Rattle.md_leaves.specs.Heading.{may_begin}
use Rattle.md_leaves.specs.HeadingRule.{at_break, before_opening, after_opening, heading_at, in_hashes, in_text}
use Rattle.md_leaves.specs.HeadingRule.{is_heading, is_heading_line}
use Rattle.md_leaves.proofs.HeadingWhole.{heading-refused, heading-taken}
use Rattle.md_leaves.proofs.LeafStart.{rule-refused}
use Rattle.md_events.specs.Ahead.{begins_white, line_bytes, white_rest}
use Rattle.md_events.specs.Look.{seen_after}
use Rattle.md_events.specs.Spaces.{IsRest, any_size, small_indent}
use Rattle.md_events.proofs.RestCells.{white-length}
use Rattle.md_events.proofs.SpacesTermination.{rest-calm}
use Rattle.proof_leaf_laws.specs.Leaf.HeadingAtx.{heading_leaf}
use Rattle.proof_frame.proofs.FromEnding.{from_ending-again}
use Rattle.proof_frame.proofs.LeafLaws.{Shrinks, cond-shrinks, whole_line}
use Rattle.proof_frame.proofs.LeafStarts.{start-shrinks}
use Rattle.md_containers.proofs.QuoteCells.{ending-shorter}

-- a line where another byte than `#` is first after whitespace holds no heading
pub trial-looked : (options : ParseOptions) (cells : List Cell) (b : ℕ) → seen_after cells ≡ Some b →
    may_begin b ≡ false → is_heading_line options cells ≡ false
trial-looked options cells b seen e =
    rule-refused may_begin options.constructs.heading_atx is_heading (small_indent options) cells b refl
    (λ c bytes k. rw k refl) (λ c white. grind (arith, nat_tests)) seen e

-- a line that holds a heading is taken
pub trial-took : (options : ParseOptions) (cells : List Cell) (h : Here) → IsRest h.scratch →
    length cells ≤ any_size → is_heading_line options cells ≡ true →
    heading_at options cells h ≡
    whole_line (heading_leaf.adds options held_leaf.None cells h.point) h.flags.leaf false cells h
trial-took options cells h is few e = heading-taken options cells h is few e

-- any other line is refused
pub trial-refused : (options : ParseOptions) (cells : List Cell) (h : Here) → IsRest h.scratch →
    is_heading_line options cells ≡ false →
    heading_at options cells h ≡ Refuses h.scratch h.flags
trial-refused options cells h is e = heading-refused options cells h (rest-calm h.scratch is ∙ sym is) e

-- what is left of a line is no longer than it was, and begins with its ending: in the text,
in_text-shrinks : (n : ℕ) (taken : List ℕ) (cells : List Cell) (h : Here) → length cells ≤ n →
    Shrinks n (in_text taken cells h)
unfolding in_text
in_text-shrinks n taken cells h le =
    let shorter = ending-shorter cells in (omega arith, from_ending-again cells)

-- before it,
at_break-shrinks : (n : ℕ) (cells : List Cell) (h : Here) → length cells ≤ n → Shrinks n (at_break cells h)
unfolding at_break
at_break-shrinks n cells h le = cond-shrinks n (begins_white cells) _ _ tt (in_text-shrinks n [] cells _ le)

after_opening-shrinks : (n : ℕ) (cells : List Cell) (h : Here) → length cells ≤ n → Shrinks n (after_opening cells h)
unfolding after_opening
after_opening-shrinks n cells h le =
    let shorter = white-length any_size cells in
    cond-shrinks n (begins_white cells) _ _ (at_break-shrinks n (white_rest any_size cells) _ (omega arith))
    (at_break-shrinks n cells h le)

-- in the opening sequence,
in_hashes-shrinks : (n : ℕ) (cells : List Cell) (h : Here) → length cells ≤ n → Shrinks n (in_hashes cells h)
in_hashes-shrinks n [] h le = after_opening-shrinks n [] _ le
in_hashes-shrinks n (c ∷ cs) h le =
    cond-shrinks n (c.byte == 35) _ _ (in_hashes-shrinks n cs _ (omega (arith, le)))
    (after_opening-shrinks n (c ∷ cs) _ le)

-- and before that
before_opening-shrinks : (n : ℕ) (cells : List Cell) (h : Here) → length cells ≤ n → Shrinks n (before_opening cells h)
unfolding before_opening
before_opening-shrinks n cells h le =
    cond-shrinks n (is_heading (line_bytes cells)) _ _ (in_hashes-shrinks n cells _ le) tt

pub trial-shrinks : (options : ParseOptions) (cells : List Cell) (h : Here) →
    Shrinks (length cells) (heading_at options cells h)
trial-shrinks options cells h =
    start-shrinks HeadingAtx options.constructs.heading_atx before_opening options cells h before_opening-shrinks
