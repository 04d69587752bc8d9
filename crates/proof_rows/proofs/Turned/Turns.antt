-- That an underline turns a text.
use Rattle.std.proofs.Common.{◌≡◌, ℕ, List, []}
use Rattle.std.specs.Prelude.{Some}
use Rattle.md_engine.specs.declared.configuration.ParseOptions.{ParseOptions}
use Rattle.md_engine.specs.declared.event.Point.{Point}
use Rattle.proof_leaf_laws.specs.Leaf.HeadingSetext.{setext_leaf}
use Rattle.proof_frame.specs.Row.{Row}
use Rattle.proof_frame.proofs.FrontFacts.{LinePrefix}
use Rattle.md_events.proofs.FeedLines.{IsEnding}
use Rattle.proof_frame.proofs.SpanLaws.{IsLineOf}

-- The line after the last line of a text that turns it, where it is: an underline, after the ending of that line and
-- prefixes of the containers alone.
pub record Turns (options : ParseOptions) (bytes : List ℕ) (last under : Row) : Type 0 where
  pub after : Point
  pub after_is : last.after ≡ Some after
  pub ending : IsEnding bytes last.end after
  pub front : LinePrefix bytes [] after under.first under.front
  pub is : IsLineOf options bytes setext_leaf under
