-- What the underline of a setext heading becomes, where it takes a line and where it refuses one.
use Rattle.std.proofs.Common.{◌≡◌, ℕ, ◌≤◌, true, false, ◌&&◌, List, [], ◌∷◌, length, arith}
use Rattle.std.specs.Prelude.{Some}
use Rattle.std.proofs.lemmas.Bool.{and_right}
use Rattle.md_engine.specs.declared.configuration.ParseOptions.{ParseOptions}
use Rattle.md_engine.specs.declared.event.Name.TheVariants as n
use Rattle.md_engine.specs.declared.tokenizer.held_leaf.HeldLeaf.{HeldLeaf}
use Rattle.md_engine.specs.declared.tokenizer.held_leaf.HeldLeaf.TheVariants as held_leaf
use Rattle.md_engine.specs.Meaning.{Cell, Here, Refuses}
use Rattle.md_leaves.specs.HeadingSetext.{may_begin, may_turn}
use Rattle.md_leaves.specs.HeadingSetextRule.{before_run, is_underline, is_underline_line, setext_at}
use Rattle.md_leaves.proofs.SetextWhole as whole
use Rattle.md_events.specs.Ahead.{line_bytes}
use Rattle.md_events.specs.Look.{seen_after}
use Rattle.md_events.specs.Spaces.{IsRest}
use Rattle.proof_leaf_laws.specs.Leaf.HeadingSetext.{setext_leaf}
use Rattle.proof_frame.proofs.FromEnding.{from_ending-again}
use Rattle.proof_frame.proofs.LeafLaws.{Shrinks, cond-shrinks, whole_line}
use Rattle.proof_frame.proofs.LeafStarts.{start-shrinks}
use Rattle.md_containers.proofs.QuoteCells.{ending-shorter}

-- No underline is where another byte than a marker is first after whitespace.
pub setext-looked : (options : ParseOptions) (on : HeldLeaf) (cells : List Cell) (b : ℕ) → seen_after cells ≡ Some b →
    may_begin b ≡ false → setext_leaf.takes options on cells ≡ false
setext-looked options on cells b seen e =
    and_right (may_turn options on) (is_underline_line options cells) (whole.setext-looked options cells b seen e)

-- One takes its line,
pub setext-took : (options : ParseOptions) (cells : List Cell) (h : Here) → IsRest h.scratch →
    setext_leaf.takes options h.flags.leaf cells ≡ true →
    setext_at options cells h ≡
    whole_line (setext_leaf.adds options h.flags.leaf cells h.point) held_leaf.None false cells h
setext-took options cells h is e = whole.setext-took options cells h is e

-- and where none is all is left as it was.
pub setext-refused : (options : ParseOptions) (cells : List Cell) (h : Here) → IsRest h.scratch →
    setext_leaf.takes options h.flags.leaf cells ≡ false → setext_at options cells h ≡ Refuses h.scratch h.flags
setext-refused options cells h is e = whole.setext-refused options cells h is e

-- What is left of a line.

-- after the indent
before_run-shrinks : (n : ℕ) (cells : List Cell) (h : Here) → length cells ≤ n → Shrinks n (before_run cells h)
unfolding before_run
before_run-shrinks n [] h le = tt
before_run-shrinks n (c ∷ cs) h le =
    cond-shrinks n (is_underline (line_bytes (c ∷ cs))) _ _
    (let less = ending-shorter (c ∷ cs) in omega arith, from_ending-again (c ∷ cs)) tt

-- from its first state on
pub setext-shrinks : (options : ParseOptions) (cells : List Cell) (h : Here) →
    Shrinks (length cells) (setext_at options cells h)
setext-shrinks options cells h =
    start-shrinks n.HeadingSetextUnderline
    (options.constructs.heading_setext && may_turn options h.flags.leaf) before_run
    options cells h before_run-shrinks
