-- A text that is cut before an empty line, where no container is open but a paragraph is: the line ends the paragraph,
-- as the end of a text does.
use Rattle.std.proofs.Common.{◌≡◌, ℕ, ◌+◌, Bool, true, false, cond, not, List, [], ◌∷◌, ◌++◌, flat_map, length, drop}
use Rattle.std.proofs.Common.{map, refl, ap, sym, ◌∙◌, subst, append-nil}
use Rattle.std.specs.List.{onto_first}
use Rattle.std.proofs.lemmas.List.{map-append}
use Rattle.std.proofs.lemmas.List.Concat.{flat_map-append}
use Rattle.std.proofs.lemmas.List.Sums.{take_while-cons}
use Rattle.md_engine.specs.declared.configuration.ParseOptions.{ParseOptions}
use Rattle.md_engine.specs.declared.event.Event.{Event}
use Rattle.md_meaning.specs.Bytes.{is_end}
use Rattle.md_meaning.specs.Lines.{ends_line, full_lines_of, is_ending, without_ending}
use Rattle.md_meaning.specs.State.{At, Innermost, OpenParagraph, ParagraphLine, Path, shut_paragraph}
use Rattle.md_meaning.specs.State.{closed, spot, texts}
use Rattle.md_meaning.specs.Grouped.{grouped as grouped_blocks}
use Rattle.md_meaning.specs.Step.{all_continued, all_continued_by, spot_of, step, steps, text_line}
use Rattle.md_meaning.specs.Tree.{Blocks, End}
use Rattle.md_events.specs.Exact.Blocks.{group_events, grouped}
use Rattle.md_events.specs.Exact.Places.{TextLine, line_at, lines_from, whole}
use Rattle.md_events.specs.Exact.Prefixes.{containers}
use Rattle.md_events.specs.Exact.Rows.{Row, row_of, rows_of}
use Rattle.proof_exact_lines.specs.Last.{HasLine, last_in}
use Rattle.proof_exact.specs.Parts.{BeginsEmpty, EndsLine, IsTextCut, NoItemLast, ReadsOnAfterText, lines_events}
use Rattle.proof_exact.specs.Parts.{empty_line, lines_blocks, nothing_open, part_events, placed_lines}
use Rattle.proof_exact.proofs.Appended.{Apart, rows-apart, rows-apart-append}
use Rattle.proof_exact.proofs.CutAfter.{last-closed, text-after}
use Rattle.proof_exact.proofs.PartGroups.{grouped-append}
use Rattle.proof_exact.proofs.LinesParts.{joined-end, rows-after, steps-append}
use Rattle.proof_exact.proofs.Moved.{closed-moved, steps-moved}
use Rattle.proof_exact.specs.Parts.{joined}
use Rattle.proof_exact.proofs.RowsMoved.{row-is, row_to}
use Rattle.proof_exact.proofs.TextParts.{empty-events, empty-step, empty_rest, ends-alone, no-item, none-opens}
use Rattle.proof_exact.proofs.TextParts.{text-lines}
use Rattle.proof_exact.proofs.TreeParts.{grouped-joined}

-- a paragraph after these blocks
abbrev in_text : Blocks → List ParagraphLine → Innermost
in_text bs lines = record { here = bs; leaf = OpenParagraph lines }

-- Such a line ends it,
text-step : (options : ParseOptions) (bs : Blocks) (lines : List ParagraphLine) (column : ℕ) →
    step options (At (in_text bs lines)) (empty_rest column) ≡ At (spot_of (shut_paragraph options bs (texts lines)))
unfolding all_continued text_line
text-step options bs lines column =
    ap (all_continued_by options (in_text bs lines) (empty_rest column)) (none-opens options true column)

-- and is a row as it is where nothing is open.
row-empty : (options : ParseOptions) (bs : Blocks) (lines : List ParagraphLine) (number index column : ℕ)
    (ending : List ℕ) (below : List Row) →
    row_of options (At (in_text bs lines)) (empty_line number index column ending) below
    ≡ row_of options nothing_open (empty_line number index column ending) below
row-empty options bs lines number index column ending below =
    row-is options (At (in_text bs lines)) line below
    ∙ ap (λ (p : Path). row_to options (At (in_text bs lines)) line below (containers p) [])
    (text-step options bs lines column)
    ∙ ap (λ (p : Path). row_to options nothing_open line below (containers p) []) (sym (empty-step options column))
    ∙ sym (row-is options nothing_open line below)
  where
    line : TextLine
    line = empty_line number index column ending

-- no item is last after it
text-last : (options : ParseOptions) (bs : Blocks) (lines : List ParagraphLine) (number index column : ℕ)
    (ending : List ℕ) → HasLine (OpenParagraph lines) → NoItemLast (shut_paragraph options bs (texts lines))
text-last options bs lines number index column ending h =
    no-item (shut_paragraph options bs (texts lines))
    (sym (ap (λ (p : Path). last_in (spot p)) is)
    ∙ last-closed options (At (in_text bs lines)) (empty_line number index column ending) h refl tt
    (ap containers is))
  where
    is : step options (At (in_text bs lines)) (empty_rest column)
        ≡ At (spot_of (shut_paragraph options bs (texts lines)))
    is = text-step options bs lines column

-- So the rows from it on are those where nothing is open,
rows-empty : (options : ParseOptions) (bs : Blocks) (lines : List ParagraphLine) (number index column : ℕ)
    (ending : List ℕ) (more : List TextLine) → HasLine (OpenParagraph lines) →
    rows_of options (At (in_text bs lines)) (empty_line number index column ending ∷ more)
    ≡ rows_of options nothing_open (empty_line number index column ending ∷ more)
rows-empty options bs lines number index column ending more h =
    ap (λ (rows : List Row). row_of options (At (in_text bs lines)) line rows ∷ rows)
    (ap (λ (p : Path). rows_of options p more) (text-step options bs lines column)
    ∙ rows-after options (shut_paragraph options bs (texts lines)) more
    (text-last options bs lines number index column ending h)
    ∙ ap (λ (p : Path). rows_of options p more) (sym (empty-step options column)))
    ∙ ap (λ (row : Row). row ∷ rows_of options (step options nothing_open (whole line)) more)
    (row-empty options bs lines number index column ending
    (rows_of options (step options nothing_open (whole line)) more))
  where
    line : TextLine
    line = empty_line number index column ending

text-has : (options : ParseOptions) (lines : List TextLine) (is : IsTextCut options lines) →
    HasLine (OpenParagraph is.text)
text-has options lines is =
    let P : Path → Type 0 = λ p. HasLine (spot p).leaf in
    subst P is.open_text (text-after options nothing_open lines tt)

-- and the lines before it and from it on have the events of both.
pub lines-text : (options : ParseOptions) (lines : List TextLine) (number index column : ℕ) (ending : List ℕ)
    (more : List TextLine) → IsTextCut options lines →
    lines_events options (lines ++ empty_line number index column ending ∷ more)
    ≡ lines_events options lines ++ lines_events options (empty_line number index column ending ∷ more)
lines-text options lines number index column ending more is =
    ap (λ (rows : List Row). flat_map (group_events options) (grouped rows)) rows
    ∙ ap (flat_map (group_events options)) (grouped-append first others apart.role)
    ∙ flat_map-append (group_events options) (grouped first) (grouped others)
  where
    following : List TextLine
    following = empty_line number index column ending ∷ more

    first : List Row
    first = rows_of options nothing_open lines

    others : List Row
    others = rows_of options nothing_open following

    apart : Apart others
    apart = rows-apart options End following

    has : HasLine (OpenParagraph is.text)
    has = text-has options lines is

    same : rows_of options (At (in_text is.blocks is.text)) following ≡ others
    same = rows-empty options is.blocks is.text number index column ending more has

    rows : rows_of options nothing_open (lines ++ following) ≡ first ++ others
    rows =
        rows-apart-append options nothing_open lines following (in_text is.blocks is.text) tt is.open_text refl
        (subst Apart (sym same) apart)
        ∙ ap (λ (rs : List Row). first ++ rs) same

-- Texts.

-- an empty line is first of these
record EmptyFirst (number index column : ℕ) (lines : List TextLine) : Type 0 where
  ending : List ℕ
  more : List TextLine
  is : lines ≡ empty_line number index column ending ∷ more

without-first : (b : ℕ) (line : List ℕ) → is_ending b ≡ true → without_ending (b ∷ line) ≡ []
without-first b line e =
    take_while-cons (λ (c : ℕ). not (is_ending c)) b line
    ∙ ap (λ (t : Bool). cond (not t) (b ∷ without_ending line) []) e

first-empty : (number index column b : ℕ) (line : List ℕ) (more : List (List ℕ)) → is_ending b ≡ true →
    EmptyFirst number index column (lines_from number index column ((b ∷ line) ∷ more))
first-empty number index column b line more e = record {
  ending = b ∷ line;
  more = cond (is_end (line_at number index column (b ∷ line)).ending) []
      (lines_from (number + 1) (index + length (b ∷ line)) 0 more);
  is = ap (λ (bytes : List ℕ). of bytes ∷ cond (is_end (line_at number index column (b ∷ line)).ending) []
      (lines_from (number + 1) (index + length (b ∷ line)) 0 more)) (without-first b line e);
}
  where
    of : List ℕ → TextLine
    of bytes = record {
      number = number;
      index = index;
      column = column;
      bytes = bytes;
      ending = drop (length bytes) (b ∷ line);
    }

begins-empty : (number index column b : ℕ) (bytes : List ℕ) → is_ending b ≡ true →
    EmptyFirst number index column (lines_from number index column (full_lines_of (b ∷ bytes)))
begins-empty number index column b bytes e = go (ends_line b bytes) (full_lines_of bytes)
  where
    go : (x : Bool) (ls : List (List ℕ)) →
        EmptyFirst number index column
        (lines_from number index column (cond x ((b ∷ []) ∷ ls) (onto_first b ls)))
    go true ls = first-empty number index column b [] ls e
    go false [] = first-empty number index column b [] [] e
    go false (l ∷ ls) = first-empty number index column b l ls e

-- A text that ends in a paragraph, after the ending of its last line, has the events of its lines,
pub part-text : (options : ParseOptions) (number index column : ℕ) (bytes : List ℕ) → EndsLine bytes [] →
    IsTextCut options (placed_lines number index column (full_lines_of bytes)) →
    part_events options number index column bytes
    ≡ lines_events options (placed_lines number index column (full_lines_of bytes))
part-text options number index column bytes ends is =
    let lines : List TextLine = placed_lines number index column (full_lines_of bytes) in
    let n : ℕ = number + length (full_lines_of bytes) in
    let i : ℕ = index + length bytes in
    ap (λ (text : List ℕ). lines_events options (lines_from number index column (full_lines_of text)))
    (sym (append-nil bytes))
    ∙ ap (lines_events options) (text-lines number index column bytes [] ends)
    ∙ lines-text options lines n i 0 [] [] is
    ∙ ap (λ (es : List Event). lines_events options lines ++ es) (empty-events options n i 0)
    ∙ append-nil (lines_events options lines)

-- and with others after it, of which an empty line is first, those of both.
text-cut : (options : ParseOptions) (number index column : ℕ) (bytes following : List ℕ) →
    EndsLine bytes following → BeginsEmpty following →
    IsTextCut options (placed_lines number index column (full_lines_of bytes)) →
    part_events options number index column (bytes ++ following)
    ≡ part_events options number index column bytes
    ++ part_events options (number + length (full_lines_of bytes)) (index + length bytes) 0 following
text-cut options number index column bytes [] ends begins is = absurd begins
text-cut options number index column bytes (b ∷ following) ends begins is =
    let lines : List TextLine = placed_lines number index column (full_lines_of bytes) in
    let n : ℕ = number + length (full_lines_of bytes) in
    let i : ℕ = index + length bytes in
    let first = begins-empty n i 0 b following begins in
    ap (lines_events options) (text-lines number index column bytes (b ∷ following) ends)
    ∙ ap (λ (ls : List TextLine). lines_events options (lines ++ ls)) first.is
    ∙ lines-text options lines n i 0 first.ending first.more is
    ∙ ap (λ (ls : List TextLine). lines_events options lines ++ lines_events options ls) (sym first.is)
    ∙ ap (λ (es : List Event). es ++ part_events options n i 0 (b ∷ following))
    (sym (part-text options number index column bytes (ends-alone bytes (b ∷ following) ends) is))

pub reads-on-text : (options : ParseOptions) (text bytes : List ℕ) → ReadsOnAfterText options text bytes
reads-on-text options text bytes number index column apart begins is cut =
    ap (part_events options number index column) is
    ∙ text-cut options number index column bytes (drop (index + length bytes) text) apart begins cut

-- Trees.

-- such a line closes the blocks before it
closed-text : (options : ParseOptions) (lines : List TextLine) (is : IsTextCut options lines) →
    lines_blocks options lines ≡ shut_paragraph options is.blocks (texts is.text)
closed-text options lines is = ap (closed options) is.open_text

blocks-text : (options : ParseOptions) (lines : List TextLine) (number index column : ℕ) (ending : List ℕ)
    (more : List TextLine) (is : IsTextCut options lines) →
    let bs = shut_paragraph options is.blocks (texts is.text) in
    let following = empty_line number index column ending ∷ more in
    lines_blocks options (lines ++ following) ≡ joined bs (lines_blocks options following)
blocks-text options lines number index column ending more is =
    ap (closed options)
    (ap (steps options nothing_open) (map-append whole lines following)
    ∙ steps-append options nothing_open (map whole lines) (map whole following)
    ∙ ap (λ (p : Path). steps options p (map whole following)) is.open_text
    ∙ ap (λ (p : Path). steps options p (map whole more)) (text-step options is.blocks is.text column)
    ∙ ap (λ (x : Blocks). steps options (At (spot_of x)) (map whole more)) (sym (joined-end bs))
    ∙ steps-moved options bs nothing_open (map whole more))
    ∙ closed-moved options bs (steps options nothing_open (map whole more))
    ∙ ap (λ (p : Path). joined bs (closed options (steps options p (map whole more))))
    (sym (empty-step options column))
  where
    bs : Blocks
    bs = shut_paragraph options is.blocks (texts is.text)

    following : List TextLine
    following = empty_line number index column ending ∷ more

-- The tree of all lines is that of those before it, and of those from it on.
pub tree-text : (options : ParseOptions) (lines : List TextLine) (number index column : ℕ) (ending : List ℕ)
    (more : List TextLine) → IsTextCut options lines →
    let following = empty_line number index column ending ∷ more in
    grouped_blocks (lines_blocks options (lines ++ following))
    ≡ joined (grouped_blocks (lines_blocks options lines)) (grouped_blocks (lines_blocks options following))
tree-text options lines number index column ending more is =
    let bs : Blocks = shut_paragraph options is.blocks (texts is.text) in
    let rest : Blocks = lines_blocks options (empty_line number index column ending ∷ more) in
    ap grouped_blocks (blocks-text options lines number index column ending more is)
    ∙ grouped-joined bs rest
    (text-last options is.blocks is.text number index column ending (text-has options lines is))
    ∙ ap (λ (x : Blocks). joined (grouped_blocks x) (grouped_blocks rest)) (sym (closed-text options lines is))
