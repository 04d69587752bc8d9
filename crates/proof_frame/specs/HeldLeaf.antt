-- The leaf that is open between two lines: what the frame asks of each kind.
--
-- A kind that keeps more than its name between lines keeps it in `HeldLeaf`; what it is by the line definition is said
-- here. Whether containers may open in it, the registry says (`bars_containers`); whether one that opens interrupts it,
-- containers ask themselves (`is_interrupted` of `Interrupts`).
use Rattle.std.specs.Prelude.{◌≡◌, Bool, true, false, if◌then◌else◌}
use Rattle.md_engine.specs.declared.tokenizer.held_leaf.HeldLeaf.{HeldLeaf}
use Rattle.md_engine.specs.declared.tokenizer.held_leaf.HeldLeaf.TheVariants as held_leaf
use Rattle.md_meaning.specs.Leaves.{LeafResult, Finished, Opened}
use Rattle.md_meaning.specs.State.{Leaf, NoLeaf}
use Rattle.proof_frame.specs.HeldNames.{kind_of_other}
use Rattle.proof_frame.specs.Leaf.Paragraph.{IsTextOr, held_or}

-- whether a line that starts no other leaf continues it although not all containers continued (CommonMark 5.1,
-- "laziness"): so it does on text, also where a lazy line meets it
abbrev pub takes_lazy : HeldLeaf → Bool
takes_lazy (held_leaf.Text at) = true
takes_lazy (held_leaf.LazyText at) = true
takes_lazy _ = false

-- whether it is a leaf of several lines that are no text
abbrev pub has_lines : HeldLeaf → Bool
has_lines held_leaf.None = false
has_lines (held_leaf.Text at) = false
has_lines (held_leaf.LazyText at) = false
has_lines leaf = true

-- whether a line may continue it where all containers continued: a leaf of several lines, and text, which a line may
-- turn
abbrev pub may_continue : HeldLeaf → Bool
may_continue held_leaf.None = false
may_continue (held_leaf.LazyText at) = false
may_continue leaf = true

-- a leaf as a lazy line meets it: text that the line is lazy for, if the leaf takes lazy lines, and none if not, since
-- it has ended with its containers
abbrev pub lazy_of : HeldLeaf → HeldLeaf
lazy_of (held_leaf.Text at) = held_leaf.LazyText at
lazy_of (held_leaf.LazyText at) = held_leaf.LazyText at
lazy_of _ = held_leaf.None

-- what a line meets of a leaf, where no container opens: the leaf itself where all containers continued, and else the
-- leaf as a lazy line meets it
abbrev pub met_by : Bool → HeldLeaf → HeldLeaf
met_by all leaf = if all then leaf else lazy_of leaf

-- the kind of an open leaf of the line definition: between two lines text is held as `Text` alone
abbrev pub kind_of_leaf : Leaf → HeldLeaf
kind_of_leaf leaf = held_or kind_of_other leaf

-- the leaf that is open after a line, by what the line definition has with it
abbrev pub left_by : LeafResult → Leaf
left_by (Opened leaf) = leaf
left_by (Finished block) = NoLeaf

-- What the tokenizer holds of the open leaf is this one.
abbrev pub MatchesLeaf : HeldLeaf → Leaf → Type 0
MatchesLeaf held leaf = held ≡ kind_of_leaf leaf

-- What may be open, where of the leaves that are no text these may: nothing, one of them, or a text.
abbrev pub IsNoneOr : (Leaf → Type 0) → Leaf → Type 0
IsNoneOr IsSpan NoLeaf = Unit {0}
IsNoneOr IsSpan leaf = IsSpan leaf

abbrev pub IsNoneTextOr : (Leaf → Type 0) → Leaf → Type 0
IsNoneTextOr IsSpan leaf = IsTextOr (IsNoneOr IsSpan) leaf
