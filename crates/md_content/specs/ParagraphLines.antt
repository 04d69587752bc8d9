-- A paragraph in a list in which its lines are not joined yet.
use Rattle.std.specs.Prelude.{◌≡◌, ℕ, zero, suc, Bool, true, List, [], ◌++◌, drop, is_none}
use Rattle.std.specs.List.{prefix_len}
use Rattle.md_engine.specs.declared.configuration.ParseOptions.{ParseOptions}
use Rattle.md_engine.specs.declared.event.Event.{Event}
use Rattle.md_content.specs.ContentReads.{content_events, content_readings, wants_content}
use Rattle.md_content.specs.Joined.{joined, joined_with}
use Rattle.md_content.specs.Lines.{begins_chunk, lines_from}
use Rattle.md_content.specs.WholeLines.{are_lines, paragraph_of}
use Rattle.md_events.specs.Parts.{ArePlaced}
use Rattle.md_events.specs.Substituted.{Substituted, is_plain_prefix}

-- whether an event has no link
abbrev pub is_unlinked : Event → Bool
is_unlinked e = is_none e.link

-- the events after those of container prefixes
abbrev pub past_prefixes : List Event → List Event
past_prefixes events = drop (prefix_len is_plain_prefix events) events

-- The part that begins with some events has a line and so many further lines, each after the ending of the line before
-- it and container prefixes.
abbrev pub HasLines : ℕ → List Event → Type 0
HasLines zero events =
    (begins_chunk events ≡ true) × (joined_with (drop 1 events) ≡ 0) × (lines_from (drop 2 events) ≡ [])
HasLines (suc more) events =
    (begins_chunk events ≡ true) × (joined_with (drop 1 events) ≡ 2) × HasLines more (past_prefixes (drop 4 events))

-- The part that begins with some events is a paragraph over a line and so many further lines.
pub record IsParagraph (bytes : List ℕ) (more : ℕ) (events : List Event) : Type 0 where
  pub lines : HasLines more events
  pub whole : are_lines (lines_from events) ≡ true
  pub reads : (options : ParseOptions) →
      content_events bytes options (lines_from events) ≡ paragraph_of (lines_from events)

-- Of some events, `rest` are left, and no part is begun. `all` were given for those before them.
pub record Reached (bytes : List ℕ) (options : ParseOptions) (events all rest : List Event) : Type 0 where
  pub given : ArePlaced bytes all
  pub left : ArePlaced bytes rest
  pub substituted : (out : List Event) →
      Substituted wants_content (content_readings bytes options) [] 0 (joined rest) out →
      Substituted wants_content (content_readings bytes options) [] 0 (joined events) (all ++ out)

-- From events that are given and left to those that are, where a paragraph over so many further lines was given for its
-- lines.
abbrev pub GivesParagraph : ℕ → List Event → List Event → List Event → List Event → Type 0
GivesParagraph more all rest all_after rest_after =
    (bytes : List ℕ) (options : ParseOptions) (events : List Event) → IsParagraph bytes more rest →
    Reached bytes options events all rest → Reached bytes options events all_after rest_after
