-- What the program prints of a text.
use Rattle.std.specs.Prelude.{◌≡◌, ℕ, List}
use Rattle.md_engine.specs.declared.configuration.ParseOptions.{ParseOptions}
use Rattle.md_engine.specs.declared.event.Event.{Event}
use Rattle.md_engine.specs.declared.parse_state.ParseState.{ParseState}
use Rattle.printing.specs.Built.{built_from}
use Rattle.markdown_blocks.specs.Parsed.{IsParsed}
use Rattle.printing.specs.PrintedEvents.{printed_events}

-- The printed form of events that are known to be those of the text, as `parse` answers them under what is there of the
-- options.
pub record PrintsEvents (text : List ℕ) (options : ParseOptions) (bytes : List ℕ) : Type 0 where
  pub events : List Event
  pub state : ParseState
  pub parsed : IsParsed text (built_from options) events state
  pub printing : bytes ≡ printed_events events
