-- What may be open between two lines, in what is built.
use Rattle.std.specs.Prelude.{◌≡◌, true}
use Rattle.md_engine.specs.declared.tokenizer.held_leaf.HeldLeaf.TheVariants as held_leaf
use Rattle.md_meaning.specs.State.{Leaf, OpenCode, OpenFence, OpenHtml, OpenTable}
use Rattle.md_literal.specs.Fence.{is_open as is_fence}
use Rattle.proof_frame.specs.HeldLeaf.{IsNoneTextOr}

-- The leaves of several lines that may be open, but for text: indented code, HTML, tables, and fenced code and math
-- that a fence of enough markers has opened.
unfoldable pub IsOpenSpan : Leaf → Type 0
IsOpenSpan (OpenCode lines) = Unit {0}
IsOpenSpan (OpenFence o lines) = is_fence (held_leaf.Fence o.marker o.size o.indent) ≡ true
IsOpenSpan (OpenHtml kind lines) = Unit {0}
IsOpenSpan (OpenTable delimiter rows) = Unit {0}
IsOpenSpan open_leaf = ⊥

-- nothing, such a leaf, or a text
abbrev pub IsBuiltLeaf : Leaf → Type 0
IsBuiltLeaf leaf = IsNoneTextOr IsOpenSpan leaf
