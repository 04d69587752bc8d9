-- What is left of a text that is read part by part.
use Rattle.std.specs.Prelude.{ℕ, Bool, List, Option}
use Rattle.md_engine.specs.declared.configuration.ParseOptions.{ParseOptions}
use Rattle.md_engine.specs.declared.event.Event.{Event}
use Rattle.md_engine.specs.declared.event.Point.{Point}
use Rattle.md_meaning.specs.Label.{Labels}
use Rattle.markdown_blocks.specs.declared.parts.Parts.{Parts}
use Rattle.markdown_blocks.specs.PartRead.{events_left, labels_left, place_left, unread_left}

-- The text, and what is still to be handed out of it.
pub record Left : Type 0 where
  pub text : List ℕ
  -- its events before its text parts are read, and with these read as lines
  pub blocks : List Event
  pub events : List Event
  -- the labels of the definitions there
  pub labels : Labels
  -- where the next part begins, or the text ends
  pub place : Point

-- what is left of a text, where its front was handed out or was not, and the next part begins here, if there is one
abbrev pub left_of : ParseOptions → List ℕ → Bool → Option Point → Left
left_of options text begun start = record {
  text = text;
  blocks = unread_left options text begun start;
  events = events_left options text begun start;
  labels = labels_left options text begun start;
  place = place_left text begun start;
}

abbrev pub left_in : Parts → Left
left_in parts = left_of parts.options.now parts.bytes.now parts.begun parts.start
