-- What is in the place of the lines of a text and the line that turns it: definitions one after the other, as they are
-- cut from the front of the text, and then what that line turns the lines that remain into. Some lines remain.
use Rattle.std.proofs.Common.{◌≡◌, ℕ, suc, true, false, List, [], ◌∷◌, ◌++◌, length, Some, ap, sym, ◌∙◌}
use Rattle.std.proofs.Common.{subst, arith}
use Rattle.md_engine.specs.declared.configuration.ParseOptions.{ParseOptions}
use Rattle.md_engine.specs.declared.event.Event.{Event}
use Rattle.md_engine.specs.declared.event.Point.{Point}
use Rattle.md_meaning.proofs.DefinitionLemmas.{cut_definitions-some}
use Rattle.md_meaning.specs.Definition.{Defined, cut_definitions}
use Rattle.md_meaning.specs.State.{texts}
use Rattle.md_link_definitions.specs.DefinitionRule.{DefinitionParts, definition_parts, definition_rest}
use Rattle.md_link_definitions.specs.Progress.{is_none_left}
use Rattle.md_link_definitions.proofs.ProgressLemmas.{progress-cut}
use Rattle.md_link_definitions.proofs.DefinitionLines.{cut_of}
use Rattle.md_link_definitions.proofs.LineCells.{further}
use Rattle.proof_rows.specs.BlockList.{heading_unread, lines_unread, text_unread, turned_unread}
use Rattle.proof_frame.specs.Row.{Row, last_row}
use Rattle.proof_content_laws.specs.Defined.{defined_unread}
use Rattle.proof_rows.specs.Rows.{defined_done, heading_done, lines_cells, turned_done}
use Rattle.proof_rows.proofs.Defined.Cut.{IsAfter}
use Rattle.proof_content_laws.proofs.Defined.Is.{IsDefined}
use Rattle.proof_frame.proofs.FrontFacts.{LinePrefix}
use Rattle.proof_rows.proofs.GroupLines.{first-text, AreLines, IsLeft, IsUnder, kept-of}
use Rattle.md_events.proofs.FeedLines.{IsEnding}
use Rattle.proof_rows.proofs.Text.Cut.{between}
use Rattle.proof_rows.proofs.Text.Cuts.{IsRest, cuts}
use Rattle.proof_rows.proofs.Text.Reads.{defined_of, further-following, lines-definition, none-following}
use Rattle.proof_rows.proofs.ContentCut.{last-split}

-- where definitions are on, something is left of these lines after the definitions at their front
abbrev pub Remains : (options : ParseOptions) (bytes : List ℕ) (row : Row) (rows : List Row) →
    AreLines options bytes row rows → Type 0
Remains options bytes row rows are =
    options.constructs.definition ≡ true →
    is_none_left (cut_definitions (texts (kept-of options bytes row rows are))).1 ≡ false

-- how far the definitions have come shows it
pub left-remains : (options : ParseOptions) (bytes : List ℕ) (row : Row) (rows : List Row) →
    (are : AreLines options bytes row rows) → IsLeft options bytes row rows are → Remains options bytes row rows are
left-remains options bytes row rows are left =
    λ on. sym (progress-cut (texts (kept-of options bytes row rows are))) ∙ left on

-- the events of the text before it is turned, those of what it is turned into, and those once its texts are read
pub data IsCutHeading (options : ParseOptions) (bytes : List ℕ) (under : Row) :
    Row → List Row → List Event → List Event → List Event → Type 0 where
  -- no definition is at its front: all of it is turned
  Turned : (row : Row) (rows : List Row) → AreLines options bytes row rows →
      IsUnder options bytes (last_row row rows) under →
      IsCutHeading options bytes under row rows (lines_unread row rows) (heading_unread under row rows)
      (heading_done bytes under row rows)
  -- a definition, and after it more
  Follows : (d : DefinitionParts) (row : Row) (own : List Row) (next : Row) (more : List Row) (q : Point)
      (ts es fs : List Event) →
      AreLines options bytes row own → IsDefined bytes d row own → (last_row row own).after ≡ Some q →
      IsEnding bytes (last_row row own).end q → LinePrefix bytes [] q next.first next.front →
      IsCutHeading options bytes under next more ts es fs →
      IsCutHeading options bytes under row (own ++ next ∷ more)
      (defined_unread d row own ++ between (last_row row own).end q next.front ++ ts)
      (defined_unread d row own ++ between (last_row row own).end q next.front ++ es)
      (defined_done bytes d row own ++ between (last_row row own).end q next.front ++ fs)

-- it turns these lines, and something remains of them
abbrev AreTurned : (options : ParseOptions) (bytes : List ℕ) (under row : Row) (rows : List Row) →
    AreLines options bytes row rows → Type 0
AreTurned options bytes under row rows are =
    IsUnder options bytes (last_row row rows) under × Remains options bytes row rows are

-- so it is after a definition: there are lines, since something remains
rest-turned : (options : ParseOptions) (bytes : List ℕ) (under row : Row) (rows : List Row)
    (are : AreLines options bytes row rows) → AreTurned options bytes under row rows are → (d : DefinitionParts) →
    options.constructs.definition ≡ true → definition_parts (lines_cells options bytes row rows) ≡ Some d →
    (own left : List Row) → own ++ left ≡ rows → IsAfter options bytes d left → (All : Type 0) →
    IsRest options bytes (AreTurned options bytes under) All left
rest-turned options bytes under row rows are holds d on e own left all following All = go left all following
  where
    some : is_none_left (cut_definitions (further (definition_rest d))).1 ≡ false
    some =
        ap (λ (cut : List Defined × List (List ℕ)). is_none_left cut.1)
        (sym
        (cut_definitions-some (texts (kept-of options bytes row rows are))
        (record { defined = defined_of d; rest = further (definition_rest d) })
        (lines-definition options bytes row rows are ∙ ap cut_of e)))
        ∙ holds.1 on

    go : (left : List Row) → own ++ left ≡ rows → IsAfter options bytes d left →
        IsRest options bytes (AreTurned options bytes under) All left
    go [] all following =
        let none : is_none_left (cut_definitions (further (definition_rest d))).1 ≡ true =
        ap (λ (cut : List Defined × List (List ℕ)). is_none_left cut.1) (none-following options bytes d following) in
        let bad : true ≡ false = sym none ∙ some in
        absurd (cc)
    go (next ∷ below) all following = λ lines. (
      subst (λ (last : Row). IsUnder options bytes last under)
          (sym (ap (last_row row) all) ∙ last-split row own next below) holds.0,
      λ on. ap (λ (l : List (List ℕ)). is_none_left (cut_definitions l).1)
          (sym (further-following options bytes d next below lines following)) ∙ some,
    )

-- What is in their place is such.
pub heading-cut : (options : ParseOptions) (bytes : List ℕ) (row : Row) (rows : List Row) (under : Row) →
    (are : AreLines options bytes row rows) → IsUnder options bytes (last_row row rows) under →
    Remains options bytes row rows are →
    IsCutHeading options bytes under row rows (text_unread options bytes row rows)
    (turned_unread options bytes row rows under) (turned_done options bytes row rows under)
heading-cut options bytes row rows under are is left =
    cuts options bytes (AreTurned options bytes under) lines_unread (heading_unread under) (heading_done bytes under)
    (IsCutHeading options bytes under)
    (record {
      remains = λ row rows are holds. Turned row rows are holds.0;
      rest = λ row rows are holds d on e own left all following.
          rest-turned options bytes under row rows are holds d on e own left all following _;
      follows = Follows;
    }) (first-text options bytes row rows are).1.small (suc (length rows)) row rows are (is, left) (omega arith)
