-- What reading the lines of content does to a tokenizer.
use Rattle.std.specs.Prelude.{◌≡◌, ℕ, Bool, ◌&&◌, not, List, [], Option, Some, is_none}
use Rattle.std.specs.List.{list_all}
use Rattle.md_engine.specs.declared.event.Event.{Event}
use Rattle.md_engine.specs.Found.{Found}
use Rattle.md_engine.specs.World.{World}
use Rattle.md_content.specs.ContentReads.{content_readings, wants_content}
use Rattle.md_content.specs.Joined.{joined}
use Rattle.md_content.specs.Labels.{begins_label, labels_in}
use Rattle.md_events.specs.Substituted.{Substituted}

-- whether no part is left unread
abbrev pub is_all_read : List Event → Bool
is_all_read events = list_all (λ (e : Event). is_none e.link) events

-- whether an event has no link and begins no label
abbrev pub has_neither : Event → Bool
has_neither e = is_none e.link && not (begins_label e)

-- the labels of definitions in this text, and that all was read
abbrev pub found_in_content : List ℕ → List Event → Found
found_in_content bytes events =
    record { done = is_all_read events; definitions = labels_in bytes events; footnotes = [] }

-- it changes events alone: lines that follow one another are joined, and read
pub record Resolves (old : World) (found : Option Found) (new : World) : Type 0 where
  pub rest : new ≡ record old { events = new.events }
  pub events : Substituted wants_content (content_readings old.setting.bytes old.setting.options) [] 0
      (joined old.events) new.events
  pub found_is : found ≡ Some (found_in_content old.setting.bytes new.events)
