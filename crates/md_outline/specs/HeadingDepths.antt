-- How deep the headings of a tree are.
use Rattle.std.specs.Prelude.{ℕ, Bool, true, if◌then◌else◌, nat_le, nat_lt}
use Rattle.md_events.specs.Events.Throughout.{all_blocks, all_within}
use Rattle.md_meaning.specs.Tree.{Block, Blocks, Heading}

-- whether a block is no heading deeper than 6 (CommonMark 4.2)
abbrev pub fits : Block → Bool
fits (Heading depth lines) = nat_le depth 6
fits _ = true

-- so are all blocks, at any depth
abbrev pub is_shallow : Block → Bool
is_shallow block = all_within fits block

abbrev pub are_shallow : Blocks → Bool
are_shallow blocks = all_blocks fits blocks

-- a depth as a byte has it
abbrev pub byte_depth : ℕ → ℕ
byte_depth depth = if nat_lt depth 256 then depth else 255

-- a block as an outline shows it, whose depths are bytes
abbrev pub fitted : Block → Block
fitted (Heading depth lines) = Heading (byte_depth depth) lines
fitted block = block
