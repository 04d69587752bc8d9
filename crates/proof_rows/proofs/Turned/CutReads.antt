-- What is in the place of the lines of a text and the line that turns it is read as what the line definition becomes
-- there: the definitions that are cut from the front of the text, and the block of the lines that remain.
use Rattle.std.proofs.Common.{◌≡◌, ℕ, zero, suc, true, false, List, [], ◌∷◌, length, drop, refl, ap}
use Rattle.std.proofs.Common.{sym, ◌∙◌, subst, arith}
use Rattle.std.specs.Prelude.{Some, None}
use Rattle.md_meaning.proofs.DefinitionLemmas.{cut_definitions-some}
use Rattle.md_meaning.specs.Definition.{Defined, cut_definitions}
use Rattle.md_meaning.specs.Rest.{Rest}
use Rattle.md_meaning.specs.State.{cut, texts, then_block, then_definitions}
use Rattle.md_meaning.specs.Tree.{Blocks}
use Rattle.md_engine.specs.declared.configuration.ParseOptions.{ParseOptions}
use Rattle.md_link_definitions.specs.DefinitionRule.{DefinitionParts, definition_parts, definition_rest}
use Rattle.md_link_definitions.specs.Progress.{is_none_left}
use Rattle.md_link_definitions.proofs.DefinitionLines.{cut_of}
use Rattle.md_link_definitions.proofs.LineCells.{further}
use Rattle.md_events.specs.Events.Spelled.{Reading, add_block, read}
use Rattle.md_registry.specs.Registry.{turn_leaf}
use Rattle.proof_frame.specs.Row.{Row, last_row}
use Rattle.proof_rows.specs.Rows.{further_lines, heading_done, lines_cells, turned_done}
use Rattle.proof_rows.proofs.Defined.Cut.{IsAfter}
use Rattle.proof_rows.proofs.GroupLines.{AreLines, IsLeft, IsUnder, kept-of}
use Rattle.md_events.proofs.FeedLines.{IsEnding}
use Rattle.proof_rows.proofs.Text.Facts.{lines-read}
use Rattle.proof_rows.proofs.Text.Reads as reads
use Rattle.proof_rows.proofs.Text.Reads.{defined_of, further-following, lines-definition, none-following}
use Rattle.proof_rows.proofs.Turned.Cut.{Remains, left-remains}
use Rattle.proof_rows.proofs.Turned.Reads.{read-turned}
use Rattle.proof_rows.proofs.Turned.Turns.{Turns}
use Rattle.proof_rows.proofs.Turned.Under.{under-turns}

-- What the line definition becomes.

-- where these were cut
abbrev turned_cut : Blocks → List Defined × List (List ℕ) → Rest → Blocks
turned_cut bs c r = then_block (then_definitions bs c.0) (turn_leaf.block c.1 r)

-- after these blocks, with these lines and the rest of the line that turns them
abbrev pub then_turned : ParseOptions → Blocks → List (List ℕ) → Rest → Blocks
then_turned options bs lines r = turned_cut bs (cut options lines) r

-- Lines.

-- the last of them, if there are some, is this
abbrev IsLast : Row → List Row → Type 0
IsLast last [] = Unit {0}
IsLast last (next ∷ more) = last ≡ last_row next more

last-following : (k : ℕ) (row : Row) (rows : List Row) → IsLast (last_row row rows) (drop k rows)
last-following zero row [] = tt
last-following zero row (next ∷ rows) = refl
last-following (suc k) row [] = tt
last-following (suc k) row (next ∷ rows) = last-following k next rows

-- a line that turns the text after one turns it after the same
abbrev turns-at : (options : ParseOptions) (bytes : List ℕ) (last same under : Row) → last ≡ same →
    Turns options bytes last under → Turns options bytes same under
turns-at options bytes last same under e turns = record {
  after = turns.after;
  after_is = ap (λ (row : Row). row.after) (sym e) ∙ turns.after_is;
  ending = subst (λ (row : Row). IsEnding bytes row.end turns.after) e turns.ending;
  front = turns.front;
  is = turns.is;
}

-- What is known of lines that this line turns: something remains of them.
abbrev AreTurned : (options : ParseOptions) (bytes : List ℕ) (under : Row) → Rest → (row : Row) (rows : List Row) →
    AreLines options bytes row rows → Type 0
AreTurned options bytes under rest row rows are =
    (turns : Turns options bytes (last_row row rows) under) × (turns.is.rest ≡ rest) × Remains options bytes row rows
    are

abbrev last_turned : Rest → Blocks → List (List ℕ) → Blocks
last_turned rest bs lines = then_block bs (turn_leaf.block lines rest)

-- so it is after one definition
left-turned : (options : ParseOptions) (bytes : List ℕ) (under : Row) (rest : Rest) (row : Row) (rows : List Row)
    (are : AreLines options bytes row rows) → AreTurned options bytes under rest row rows are →
    options.constructs.definition ≡ true → (d : DefinitionParts) →
    definition_parts (lines_cells options bytes row rows) ≡ Some d → (left : List Row) →
    IsLast (last_row row rows) left → IsAfter options bytes d left →
    reads.IsLeft options bytes (AreTurned options bytes under rest) (last_turned rest) left
left-turned options bytes under rest row rows are holds on d e left same following = go left same following
  where
    some : is_none_left (cut_definitions (further (definition_rest d))).1 ≡ false
    some =
        ap (λ (c : List Defined × List (List ℕ)). is_none_left c.1)
        (sym
        (cut_definitions-some (texts (kept-of options bytes row rows are))
        (record { defined = defined_of d; rest = further (definition_rest d) })
        (lines-definition options bytes row rows are ∙ ap cut_of e)))
        ∙ holds.2 on

    go : (left : List Row) → IsLast (last_row row rows) left → IsAfter options bytes d left →
        reads.IsLeft options bytes (AreTurned options bytes under rest) (last_turned rest) left
    go [] same following = λ bs.
        let bad : true ≡ false =
        sym (ap (λ (c : List Defined × List (List ℕ)). is_none_left c.1) (none-following options bytes d following))
        ∙ some in
        cc
    go (next ∷ more) same following = λ lines. (
      turns-at options bytes (last_row row rows) (last_row next more) under same holds.0,
      holds.1,
      λ on. ap (λ (l : List (List ℕ)). is_none_left (cut_definitions l).1)
          (sym (further-following options bytes d next more lines following)) ∙ some,
    )

-- A text and the line that turns it are read as what they become.
pub turned-read : (options : ParseOptions) (bytes : List ℕ) (row : Row) (rows : List Row) (under : Row) →
    (are : AreLines options bytes row rows) → (is : IsUnder options bytes (last_row row rows) under) →
    IsLeft options bytes row rows are → (r : Reading) → r.text ≡ None → r.leaf ≡ None →
    read bytes r (turned_done options bytes row rows under) ≡
    record r { here = then_turned options r.here (texts (kept-of options bytes row rows are)) is.is.rest }
turned-read options bytes row rows under are is left r none shut =
    reads.reads-by options bytes (AreTurned options bytes under is.is.rest) (heading_done bytes under)
    (last_turned is.is.rest)
    (record {
      alone = λ row rows are holds r none shut.
          read-turned options bytes row rows under (kept-of options bytes row rows are) r
          (lines-read options bytes row rows are) holds.0 none shut
          ∙ ap
          (λ (x : Rest). add_block (turn_leaf.block (texts (kept-of options bytes row rows are)) x) r) holds.1;
      following = λ row rows are holds on d e.
          left-turned options bytes under is.is.rest row rows are holds on d e (drop (further_lines d row) rows)
          (last-following (further_lines d row) row rows);
    }) (suc (length rows)) row rows (omega arith) are
    (under-turns options bytes row rows under are is, refl, left-remains options bytes row rows are left) r none shut
