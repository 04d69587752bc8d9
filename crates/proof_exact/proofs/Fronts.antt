-- What is before the first line of a text is in no event of its leaf, so it may be anything there.
use Rattle.std.proofs.Common.{◌≡◌, ℕ, suc, List, [], ◌∷◌, ◌++◌, drop, take, length, refl, ap, ap₂, ◌∙◌}
use Rattle.std.specs.Prelude.{Option, Some, None}
use Rattle.md_engine.specs.declared.configuration.ParseOptions.{ParseOptions}
use Rattle.md_engine.specs.declared.event.Event.{Event}
use Rattle.md_content.specs.ContentRule.{definition_in}
use Rattle.proof_content_laws.specs.Defined.{defined_unread}
use Rattle.proof_frame.specs.Laid.{LineBreak, laid}
use Rattle.proof_frame.specs.Row.{Row, breaks_of, last_row}
use Rattle.md_link_definitions.specs.DefinitionRule.{DefinitionParts, definition_events}
use Rattle.proof_rows.specs.BlockList.{heading_unread, lines_unread, text_unread, turned_unread}
use Rattle.proof_rows.specs.Rows.{after_cut, cut_at_most, cut_by, further_lines, lines_cells}
use Rattle.proof_rows.proofs.GroupLines.{AreLines}
use Rattle.proof_rows.proofs.RowFacts.{IsRow}

-- with other events before it
abbrev pub row_with : List Event → Row → Row
row_with front r = record r { front = front }

breaks-with : (front : List Event) (r : Row) (rs : List Row) → breaks_of (row_with front r) rs ≡ breaks_of r rs
breaks-with front r [] = refl
breaks-with front r (next ∷ rs) = refl

-- the same text remains of lines
abbrev Remains : (Row → List Row → List Event) → Type 0
Remains remain = (front : List Event) (r : Row) (rs : List Row) → remain (row_with front r) rs ≡ remain r rs

following-with : (more : Row → List Row → List Event) (front : List Event) (r : Row) (own rest : List Row) →
    after_cut more (last_row (row_with front r) own) rest ≡ after_cut more (last_row r own) rest
following-with more front r [] [] = refl
following-with more front r [] (next ∷ rest) = refl
following-with more front r (next ∷ own) rest = refl

cut-with : (options : ParseOptions) (bytes : List ℕ) (remain : Row → List Row → List Event) (size : ℕ)
    (front : List Event) (r : Row) (rs : List Row) → Remains remain →
    cut_at_most defined_unread remain options bytes (suc size) (row_with front r) rs ≡
    cut_at_most defined_unread remain options bytes (suc size) r rs
cut-with options bytes remain size front r rs same =
    ap
    (λ cells. cut_by defined_unread remain more (definition_in options cells) (row_with front r) rs)
    (cells front r rs)
    ∙ go (definition_in options (lines_cells options bytes r rs))
  where
    more : Row → List Row → List Event
    more = cut_at_most defined_unread remain options bytes size

    cells : (front : List Event) (r : Row) (rs : List Row) →
        lines_cells options bytes (row_with front r) rs ≡ lines_cells options bytes r rs
    cells front r [] = refl
    cells front r (next ∷ rs) = refl

    go : (o : Option DefinitionParts) →
        cut_by defined_unread remain more o (row_with front r) rs ≡ cut_by defined_unread remain more o r rs
    go None = same front r rs
    go (Some d) =
        let own : List Row = take (further_lines d r) rs in
        ap₂ (λ (es fs : List Event). es ++ fs)
        (ap (λ (breaks : List LineBreak). laid breaks (definition_events d r.first)) (breaks-with front r own))
        (following-with more front r own (drop (further_lines d r) rs))

lines-with : Remains lines_unread
lines-with front r [] = refl
lines-with front r (next ∷ rs) = refl

heading-with : (under : Row) → Remains (heading_unread under)
heading-with under front r [] = refl
heading-with under front r (next ∷ rs) = refl

pub text-with : (options : ParseOptions) (bytes : List ℕ) (front : List Event) (r : Row) (rs : List Row) →
    text_unread options bytes (row_with front r) rs ≡ text_unread options bytes r rs
text-with options bytes front r rs = cut-with options bytes lines_unread (length rs) front r rs lines-with

pub turned-with : (options : ParseOptions) (bytes : List ℕ) (front : List Event) (r : Row) (rs : List Row)
    (under : Row) → turned_unread options bytes (row_with front r) rs under ≡ turned_unread options bytes r rs under
turned-with options bytes front r rs under =
    cut-with options bytes (heading_unread under) (length rs) front r rs (heading-with under)

-- The row is what it was.

pub row-front : (options : ParseOptions) (bytes line : List ℕ) (front : List Event) (r : Row) →
    IsRow options bytes line r → IsRow options bytes line (row_with front r)
row-front options bytes line front r is = record {
  rest = is.rest;
  small = is.small;
  line_is = is.line_is;
  kind = is.kind;
  following = is.following;
  no_ending = is.no_ending;
  text = is.text;
  size = is.size;
  end = is.end;
  first_column = is.first_column;
  column = is.column;
  end_whole = is.end_whole;
  cut_first = is.cut_first;
  cut = is.cut;
  empty = is.empty;
  blank = is.blank;
  leaf_is = is.leaf_is;
}

pub lines-front : (options : ParseOptions) (bytes : List ℕ) (front : List Event) (r : Row) (rs : List Row) →
    AreLines options bytes r rs → AreLines options bytes (row_with front r) rs
lines-front options bytes front r [] are = (are.0, row-front options bytes are.0 front r are.1, are.2)
lines-front options bytes front r (next ∷ rs) are =
    (are.0, row-front options bytes are.0 front r are.1, are.2, are.3, are.4, are.5, are.6, are.7)
