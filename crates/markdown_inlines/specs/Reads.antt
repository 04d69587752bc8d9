-- How a reader's lists are those of a state of the text that is read.
use Rattle.std.specs.Prelude.{◌≡◌, ℕ, ◌+◌, ◌<◌, ◌≤◌, false, ◌||◌, List, [], ◌∷◌, map, reverse, string_bytes, Option}
use Rattle.md_inlines.specs.Brackets as inlines
use Rattle.md_inlines.specs.Content.{has_form}
use Rattle.md_inlines.specs.Emphasis.{Item}
use Rattle.markdown_inlines.specs.Opened.{Opened, reached}
use Rattle.markdown_inlines.specs.Reading.{Frame, State, closed_items, left, level_at, pair_link, pair_taken}
use Rattle.markdown_inlines.specs.declared.brackets.Bracket.{Bracket}
use Rattle.markdown_inlines.specs.declared.brackets.Reading.{Reading}
use Rattle.markdown_inlines.specs.declared.brackets.Source.{Source}

-- open brackets have one byte or two
abbrev pub Lens : List Frame → Type 0
Lens [] = Unit {0}
Lens (frame ∷ frames) = (0 < frame.len) × (frame.len ≤ 2) × Lens frames

abbrev pub left_of : Source → State → List Item
left_of source s =
    left source.options.now (has_form (map string_bytes source.labels.now.definitions.forms.now))
    (has_form (map string_bytes source.labels.now.footnotes.forms.now)) source.text.now s

pub record Reads (source : Source) (reading : Reading) : Type 0 where
  pub state : State
  pub opened : Opened source.start state.frames state.items (reverse reading.brackets.items) reading.spans.items
      reading.runs.items
  pub place : state.at ≡ reached source.start state.frames state.items
  pub lens : Lens state.frames
  pub at : state.at ≡ reading.at
  pub links : state.links ≡ reading.links
  pub same : left_of source state ≡
      (level_at source.options.now (has_form (map string_bytes source.labels.now.definitions.forms.now))
      (has_form (map string_bytes source.labels.now.footnotes.forms.now)) source.text.now false source.start).items

-- a step reads more
pub record Goes (source : Source) (old new : Reading) : Type 0 where
  pub further : old.at < new.at
  pub reads : Reads source new

-- text is read, or nothing
pub record Passes (source : Source) (old new : Reading) : Type 0 where
  pub further : old.at ≤ new.at
  pub reads : Reads source new

-- A `]` is at the place that is read, and this bracket was the innermost.
pub record Closing (start : ℕ) (bracket : Bracket) (reading : Reading) : Type 0 where
  pub frames : List Frame
  pub frame : Frame
  pub items : List Item
  pub opened : Opened start (frame ∷ frames) items (bracket ∷ reverse reading.brackets.items) reading.spans.items
      reading.runs.items
  pub place : reading.at ≡ reached start (frame ∷ frames) items
  pub len : (0 < bracket.len) × (bracket.len ≤ 2)

-- the pair is this, or text
pub record ClosedAs (start : ℕ) (bracket : Bracket) (old : Reading) (k : Closing start bracket old)
    (found : Option inlines.Pair) (new : Reading) : Type 0 where
  pub opened : Opened start k.frames (closed_items k.frame k.items found) (reverse new.brackets.items)
      new.spans.items new.runs.items
  pub place : new.at ≡ reached start k.frames (closed_items k.frame k.items found)
  pub at : new.at ≡ old.at + 1 + pair_taken found
  pub links : new.links ≡ (bracket.links || (old.links || pair_link found))
