-- What a text that is read shows: a block of its own, something of the container that it is in, or something of the
-- leaf block.
use Rattle.std.specs.Prelude.{ℕ, Bool, true, false, List}
use Rattle.md_meaning.specs.Texts.{split_lines, trim_each}
use Rattle.md_meaning.specs.Tree.{Block, Paragraph}
use Rattle.md_events.specs.Events.Spelled.{AsDigits, AsFootnoteLabel, AsItemMarker, AsParagraph, Purpose, Role}
use Rattle.md_events.specs.Events.Spelled.{TextRole}

pub data Recorded : Type 0 where
  OfItself : Recorded
  OfContainer : Recorded
  OfLeaf : Recorded

abbrev pub recorded_in : Purpose → Recorded
recorded_in AsParagraph = OfItself
recorded_in AsDigits = OfContainer
recorded_in AsItemMarker = OfContainer
recorded_in AsFootnoteLabel = OfContainer
recorded_in _ = OfLeaf

-- the block that a text is which is one of its own
abbrev pub block_recorded : List ℕ → Block
block_recorded text = Paragraph (trim_each (split_lines text))

-- what a text is read from
abbrev pub is_recorded : Role → Bool
is_recorded (TextRole purpose) = true
is_recorded _ = false
