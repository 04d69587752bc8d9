-- The exact list of a part of a text, and where a text may be cut.
use Rattle.std.specs.Prelude.{◌≡◌, ℕ, ◌+◌, false, true, List, [], ◌∷◌, ◌++◌, flat_map, length, map, drop}
use Rattle.md_engine.specs.declared.configuration.ParseOptions.{ParseOptions}
use Rattle.md_engine.specs.declared.event.Event.{Event}
use Rattle.md_meaning.specs.Lines.{ends_line, full_lines_of, is_ending}
use Rattle.md_meaning.specs.Grouped.{grouped}
use Rattle.md_meaning.specs.Label.{both, labels}
use Rattle.md_meaning.specs.Outline.{outline}
use Rattle.md_meaning.specs.State.{At, OpenParagraph, ParagraphLine, Path, closed}
use Rattle.md_meaning.specs.Step.{spot_of, steps}
use Rattle.md_meaning.specs.Tree.{Blocks, End, More}
use Rattle.md_events.specs.Exact.Blocks.{group_events, grouped as row_groups}
use Rattle.md_events.specs.Exact.Places.{TextLine, line_at, lines_from, whole}
use Rattle.md_events.specs.Exact.Prefixes.{end_in_item}
use Rattle.md_events.specs.Exact.Rows.{rows_of}

-- nothing is open, and nothing was read
abbrev pub nothing_open : Path
nothing_open = At (spot_of End)

-- the events of lines before which nothing is open
abbrev pub lines_events : ParseOptions → List TextLine → List Event
lines_events options lines = flat_map (group_events options) (row_groups (rows_of options nothing_open lines))

-- the events of a part of a text that begins on this line, at this byte and in this column, where nothing is open
abbrev pub part_events : ParseOptions → ℕ → ℕ → ℕ → List ℕ → List Event
part_events options number index column part =
    lines_events options (lines_from number index column (full_lines_of part))

-- lines at their places, given with their endings, of which each has one
abbrev pub placed_lines : ℕ → ℕ → ℕ → List (List ℕ) → List TextLine
placed_lines number index column [] = []
placed_lines number index column (full ∷ more) =
    line_at number index column full ∷ placed_lines (number + 1) (index + length full) 0 more

-- what is open after these lines
abbrev pub open_after : ParseOptions → Path → List TextLine → Path
open_after options p lines = steps options p (map whole lines)

-- none of these blocks is last and an item, which the next item could join in a list
abbrev pub NoItemLast : Blocks → Type 0
NoItemLast bs = (m : ℕ) → end_in_item m bs ≡ false

-- A text may be cut after these lines: no container and no leaf is open there, and the last block is no item.
pub record IsCut (options : ParseOptions) (lines : List TextLine) : Type 0 where
  pub blocks : Blocks
  pub shut : open_after options nothing_open lines ≡ At (spot_of blocks)
  pub last : NoItemLast blocks

-- So it may be before an empty line, where no container is open but a paragraph is: the line ends that.
pub record IsTextCut (options : ParseOptions) (lines : List TextLine) : Type 0 where
  pub blocks : Blocks
  pub text : List ParagraphLine
  pub open_text : open_after options nothing_open lines ≡ At (record { here = blocks; leaf = OpenParagraph text })

-- an empty line with this ending
abbrev pub empty_line : ℕ → ℕ → ℕ → List ℕ → TextLine
empty_line number index column ending = record {
  number = number;
  index = index;
  column = column;
  bytes = [];
  ending = ending;
}

-- an empty line comes first
abbrev pub BeginsEmpty : List ℕ → Type 0
BeginsEmpty [] = ⊥
BeginsEmpty (b ∷ bytes) = is_ending b ≡ true

-- these bytes end with a line ending, which is not cut before those: CR and LF are one
abbrev pub EndsLine : List ℕ → List ℕ → Type 0
EndsLine [] following = ⊥
EndsLine (b ∷ []) following = (ends_line b following ≡ true) × (is_ending b ≡ true)
EndsLine (b ∷ c ∷ bytes) following = EndsLine (c ∷ bytes) following

-- The law of cuts: where a text may be cut after these bytes, the whole has the events of both parts, one after the
-- other, those of the second at their places in the whole.
abbrev pub PartsOneByOne : ParseOptions → List ℕ → List ℕ → Type 0
PartsOneByOne options bytes following =
    (number index column : ℕ) → EndsLine bytes following →
    IsCut options (placed_lines number index column (full_lines_of bytes)) →
    part_events options number index column (bytes ++ following)
    ≡ part_events options number index column bytes
    ++ part_events options (number + length (full_lines_of bytes)) (index + length bytes) 0 following

-- the events of a text from such a place on
abbrev pub events_from : ParseOptions → List ℕ → ℕ → ℕ → ℕ → List Event
events_from options text number index column = part_events options number index column (drop index text)

-- The same law, of a text that is read on from a place: after these bytes it is read on from the next place.
abbrev pub ReadsOn : ParseOptions → List ℕ → List ℕ → Type 0
ReadsOn options text bytes =
    (number index column : ℕ) → EndsLine bytes (drop (index + length bytes) text) →
    drop index text ≡ bytes ++ drop (index + length bytes) text →
    IsCut options (placed_lines number index column (full_lines_of bytes)) →
    events_from options text number index column
    ≡ part_events options number index column bytes
    ++ events_from options text (number + length (full_lines_of bytes)) (index + length bytes) 0

-- And before an empty line that ends a paragraph.
abbrev pub ReadsOnAfterText : ParseOptions → List ℕ → List ℕ → Type 0
ReadsOnAfterText options text bytes =
    (number index column : ℕ) → EndsLine bytes (drop (index + length bytes) text) →
    BeginsEmpty (drop (index + length bytes) text) → drop index text ≡ bytes ++ drop (index + length bytes) text →
    IsTextCut options (placed_lines number index column (full_lines_of bytes)) →
    events_from options text number index column
    ≡ part_events options number index column bytes
    ++ events_from options text (number + length (full_lines_of bytes)) (index + length bytes) 0

-- Trees.

-- these blocks before those
abbrev pub joined : Blocks → Blocks → Blocks
joined End bs = bs
joined (More b more) bs = More b (joined more bs)

-- the blocks of these lines, where nothing is open before them, and all is closed after them
abbrev pub lines_blocks : ParseOptions → List TextLine → Blocks
lines_blocks options lines = closed options (open_after options nothing_open lines)

-- lines have the tree of those before and then of those after, with the lists of each
abbrev pub AreTwoTrees : ParseOptions → List TextLine → List TextLine → Type 0
AreTwoTrees options lines more =
    grouped (lines_blocks options (lines ++ more))
    ≡ joined (grouped (lines_blocks options lines)) (grouped (lines_blocks options more))

-- So it is at a cut, and before an empty line that ends a paragraph. The labels and the outline of two trees are those
-- of the first and then of the second.
pub record TreesOneByOne (options : ParseOptions) : Type 0 where
  pub cut : (lines more : List TextLine) → IsCut options lines → AreTwoTrees options lines more
  pub before_empty : (lines : List TextLine) (number index column : ℕ) (ending : List ℕ) (more : List TextLine) →
      IsTextCut options lines → AreTwoTrees options lines (empty_line number index column ending ∷ more)
  pub labels_are : (bs cs : Blocks) → labels (joined bs cs) ≡ both (labels bs) (labels cs)
  pub outline_is : (depth : ℕ) (bs cs : Blocks) →
      outline depth (joined bs cs) ≡ outline depth bs ++ outline depth cs
