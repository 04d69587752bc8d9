-- The quote law for a text that was read: with `> ` before each line its tree is in one block quote, and its labels are
-- the same.
use Rattle.std.proofs.Common.{◌≡◌, ℕ, List, sym, subst}
use Rattle.md_engine.specs.declared.configuration.ParseOptions.{ParseOptions}
use Rattle.md_engine.specs.declared.event.Event.{Event}
use Rattle.md_meaning.specs.Meaning.{tree}
use Rattle.md_events.specs.Events.Spelled.{spelled}
use Rattle.md_meaning.specs.Wrapped.{NestsInQuote, quoted}
use Rattle.md_meaning.proofs.QuoteLaw.{quote-nests}

pub text-quoted : (options : ParseOptions) (text : List ℕ) (events : List Event) →
    spelled events text ≡ tree options text → NestsInQuote options text (quoted text) (spelled events text)
text-quoted options text events is =
    subst (NestsInQuote options text (quoted text)) (sym is) (quote-nests options text)
