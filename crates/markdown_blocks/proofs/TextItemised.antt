-- The list law for a text that was read: with `+ ` before its first line and two spaces before each other its tree is
-- in one item of one list, and its labels are the same.
use Rattle.std.proofs.Common.{◌≡◌, ℕ, List, sym, subst}
use Rattle.md_engine.specs.declared.configuration.ParseOptions.{ParseOptions}
use Rattle.md_engine.specs.declared.event.Event.{Event}
use Rattle.md_meaning.specs.Meaning.{tree}
use Rattle.md_events.specs.Events.Spelled.{spelled}
use Rattle.md_meaning.specs.Wrapped.{NestsInItem, itemised}
use Rattle.md_meaning.proofs.ListLaw.{list-nests}

pub text-itemised : (options : ParseOptions) (text : List ℕ) (events : List Event) →
    spelled events text ≡ tree options text → NestsInItem options text (itemised text) (spelled events text)
text-itemised options text events is =
    subst (NestsInItem options text (itemised text)) (sym is) (list-nests options text)
