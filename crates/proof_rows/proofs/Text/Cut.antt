-- What is in the place of the lines of a text, as definitions are cut from its front: one after the other, and then the
-- leaf of the lines that remain.
use Rattle.std.proofs.Common.{◌≡◌, ℕ, List, [], ◌∷◌, ◌++◌}
use Rattle.std.specs.Prelude.{Some}
use Rattle.md_engine.specs.declared.configuration.ParseOptions.{ParseOptions}
use Rattle.md_engine.specs.declared.event.Event.{Event}
use Rattle.md_engine.specs.declared.event.Name.TheVariants as n
use Rattle.md_engine.specs.declared.event.Point.{Point}
use Rattle.md_link_definitions.specs.DefinitionRule.{DefinitionParts}
use Rattle.md_events.specs.Events.Nested.{pair}
use Rattle.proof_rows.specs.BlockList.{lines_unread}
use Rattle.proof_frame.specs.Row.{Row, last_row}
use Rattle.proof_content_laws.specs.Defined.{defined_unread}
use Rattle.proof_rows.specs.Rows.{defined_done, lines_done}
use Rattle.proof_content_laws.proofs.Defined.Is.{IsDefined}
use Rattle.proof_frame.proofs.FrontFacts.{LinePrefix}
use Rattle.proof_rows.proofs.GroupLines.{AreLines}
use Rattle.md_events.proofs.FeedLines.{IsEnding}

-- between two blocks of it: the ending of the last line of the one, and what is before the first of the other
abbrev pub between : Point → Point → List Event → List Event
between p q front = pair n.LineEnding p q ++ front

-- its events before its text parts are read, and those once they are
pub data IsCutText (options : ParseOptions) (bytes : List ℕ) : Row → List Row → List Event → List Event → Type 0 where
  -- no definition is at its front
  Remains : (row : Row) (rows : List Row) → AreLines options bytes row rows →
      IsCutText options bytes row rows (lines_unread row rows) (lines_done bytes row rows)
  -- it is a definition
  Defines : (d : DefinitionParts) (row : Row) (rows : List Row) → AreLines options bytes row rows →
      IsDefined bytes d row rows →
      IsCutText options bytes row rows (defined_unread d row rows) (defined_done bytes d row rows)
  -- a definition, and after it more
  Follows : (d : DefinitionParts) (row : Row) (own : List Row) (next : Row) (more : List Row) (q : Point)
      (es fs : List Event) →
      AreLines options bytes row own → IsDefined bytes d row own → (last_row row own).after ≡ Some q →
      IsEnding bytes (last_row row own).end q → LinePrefix bytes [] q next.first next.front →
      IsCutText options bytes next more es fs →
      IsCutText options bytes row (own ++ next ∷ more)
      (defined_unread d row own ++ between (last_row row own).end q next.front ++ es)
      (defined_done bytes d row own ++ between (last_row row own).end q next.front ++ fs)
