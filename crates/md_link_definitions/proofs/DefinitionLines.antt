-- A definition is what the line definition finds on the lines of its cells.
use Rattle.std.proofs.Common.{◌≡◌, ℕ, ◌≤◌, Bool, true, false, cond, nat_eq, List, [], ◌∷◌, length, Option, Some, None}
use Rattle.std.proofs.Common.{refl, sym, ◌∙◌, ap, ap₂, arith}
use Rattle.std.specs.List.{onto_first}
use Rattle.std.proofs.lemmas.Bool.{eqb-true}
use Rattle.std.proofs.lemmas.List.{length-drop}
use Rattle.md_meaning.specs.Ascii.{colon}
use Rattle.md_meaning.specs.Definition as found
use Rattle.md_meaning.specs.Definition.{Cut, Destination, after_colon, after_gap, alone, title_after}
use Rattle.md_meaning.specs.Definition.{with_destination, with_title}
use Rattle.md_meaning.specs.Enclosed.{Lines}
use Rattle.md_meaning.specs.Rest.{is_blank, is_parted}
use Rattle.md_engine.specs.declared.event.Point.{Point}
use Rattle.md_engine.specs.Meaning.{Cell}
use Rattle.md_link_definitions.specs.CellLines.{cell_lines}
use Rattle.md_link_definitions.specs.DefinitionRule.{DefinitionParts, definition_parts, destination_begin}
use Rattle.md_link_definitions.specs.DefinitionRule.{destination_rest, ends_after, lone, parts_after, parts_labelled}
use Rattle.md_link_definitions.specs.DefinitionRule.{parts_rest, parts_with, title_following, titled_rest}
use Rattle.md_link_definitions.specs.DestinationRule.{begins_literal, destination_last, destination_left}
use Rattle.md_link_definitions.specs.DestinationRule.{destination_size, text_cells, text_first}
use Rattle.md_link_definitions.specs.GapRule.{begins_gap, gap_end, gap_rest}
use Rattle.md_link_definitions.specs.LabelRule.{LabelParts, label_parts}
use Rattle.md_link_definitions.specs.TitleRule.{TitleParts, title_parts}
use Rattle.md_link_definitions.specs.WholeCells.{AreWhole, whole_cells}
use Rattle.md_link_definitions.proofs.CellLineLemmas.{lines-byte, lines-ending, lines-some}
use Rattle.md_link_definitions.proofs.DefinitionLemmas.{blank-ends, ended-further, gap-length, label-following}
use Rattle.md_link_definitions.proofs.DefinitionLemmas.{title-following}
use Rattle.md_link_definitions.proofs.DefinitionWhole.{title-ends}
use Rattle.md_link_definitions.proofs.DestinationLines.{destination-valid, destination-texts, destination_lines}
use Rattle.md_link_definitions.proofs.DestinationLines.{destination_on, with_further}
use Rattle.md_link_definitions.proofs.GapLines.{AreAt, gap-lines, gap-parted, gap-valid, lines-led, white-at}
use Rattle.md_link_definitions.proofs.GapLines.{whole-first}
use Rattle.md_link_definitions.proofs.LabelLines.{label-lines, label_lines}
use Rattle.md_link_definitions.proofs.LineCells.{further, lines-first}
use Rattle.md_link_definitions.proofs.TitleTexts.{title-texts, title_texts}
use Rattle.md_events.specs.Ahead.{from_ending, line_bytes, line_cells, white_end, white_rest}
use Rattle.md_events.specs.Spaces.{any_size}
use Rattle.md_events.proofs.FeedLines.{bytes_of}
use Rattle.md_events.proofs.RestCells.{white-length}

-- The title.

-- what is said of it
abbrev pub title_recorded : Option TitleParts → Option (List (List ℕ))
title_recorded None = None
title_recorded (Some t) = Some (cell_lines false (whole_cells t.opener.after t.text))

-- one that ends its line, and the lines after it
abbrev lone_lines : Option TitleParts → Option Lines
lone_lines None = None
lone_lines (Some t) = Some (record {
  text = cell_lines false (whole_cells t.opener.after t.text);
  rest = further (white_rest any_size t.rest);
})

lone-texts : (t : TitleParts) → AreWhole t.closer.after t.rest → length t.rest ≤ any_size →
    alone (title_texts (Some t)) ≡ lone_lines (lone (Some t))
lone-texts t are small =
    ap alone
    (ap (λ (x : List (List ℕ)). Some (record { text = text; rest = x })) (lines-first t.closer.after t.rest are))
    ∙ ap (λ (x : Bool). cond x (Some (record { text = text; rest = further (from_ending t.rest) })) None)
    (blank-ends any_size t.closer.after t.rest small are)
    ∙ go (ends_after t.rest) refl
  where
    text : List (List ℕ)
    text = cell_lines false (whole_cells t.opener.after t.text)

    go : (x : Bool) → ends_after t.rest ≡ x →
        cond x (Some (record { text = text; rest = further (from_ending t.rest) })) None ≡
        lone_lines (cond x (Some t) None)
    go true e =
        ap (λ (x : List (List ℕ)). Some (record { text = text; rest = x })) (ended-further t.rest e)
    go false e = refl

-- the one that the cells begin with
title-lone : (p : Point) (cells : List Cell) → AreAt p cells → length cells ≤ any_size →
    found.title_at (cell_lines false (whole_cells p cells)) ≡ lone_lines (lone (title_parts cells))
title-lone p cells at small = texts p cells at ∙ go (title_parts cells) refl
  where
    texts : (q : Point) (left : List Cell) → AreAt q left →
        found.title_at (cell_lines false (whole_cells q left)) ≡ alone (title_texts (title_parts left))
    texts q [] at = title-texts (record q { vs = 0 }) [] refl tt
    texts q (c ∷ cs) at = title-texts q (c ∷ cs) (at.begins c cs refl) at.are

    go : (o : Option TitleParts) → title_parts cells ≡ o → alone (title_texts o) ≡ lone_lines (lone o)
    go None e = refl
    go (Some t) e =
        let following = title-following p cells t at.are e in
        let fewer = following.fewer in
        lone-texts t following.at.are (omega (arith, fewer))

-- and the one after a gap
title-gap : (p : Point) (cells : List Cell) (line : List ℕ) (lines : List (List ℕ)) → AreAt p cells →
    length cells ≤ any_size → cell_lines false (whole_cells p cells) ≡ line ∷ lines →
    title_after line lines ≡ lone_lines (title_following cells)
unfolding found.title_at cell_lines
title-gap p [] line lines at small e =
    let first : [] ≡ line = cc in
    let none : [] ≡ lines = cc in
    ap₂ title_after (sym first) (sym none)
title-gap p (c ∷ cs) line lines at small e = go (begins_gap (c ∷ cs)) refl
  where
    go : (x : Bool) → begins_gap (c ∷ cs) ≡ x → title_after line lines ≡ lone_lines (title_following (c ∷ cs))
    go true k =
        let parted : is_parted line ≡ true = gap-parted p c cs line lines (at.begins c cs refl) e ∙ k in
        let left = gap-length (c ∷ cs) in
        rw (parted, k)
        (ap (λ (all : List (List ℕ)). found.title_at (after_gap all)) (sym e)
        ∙ gap-lines found.title_at p (c ∷ cs) refl small at.are
        ∙ title-lone (gap_end (c ∷ cs) p) (gap_rest (c ∷ cs)) (gap-valid p (c ∷ cs) small at.are)
        (omega (arith, left)))
    go false k =
        let parted : is_parted line ≡ false = gap-parted p c cs line lines (at.begins c cs refl) e ∙ k in
        rw (parted, k) refl

-- What follows the destination.

-- the definition with this label and destination, and this title or none, and the lines after it
abbrev pub cut_by : List (List ℕ) → List ℕ → Option TitleParts → List Cell → Cut
cut_by label text title cells = record {
  defined = record { label = label; destination = text; title = title_recorded title };
  rest = further (white_rest any_size (titled_rest title cells));
}

abbrev tail_cut : List (List ℕ) → List ℕ → Option TitleParts → List Cell → Option Cut
tail_cut label text title cells =
    cond (ends_after (titled_rest title cells)) (Some (cut_by label text title cells)) None

-- by the title that was found, if one was
abbrev titled_cut : List (List ℕ) → List ℕ → Option Lines → List ℕ → List (List ℕ) → Option Cut
titled_cut label text (Some title) line lines =
    Some
    (record {
      defined = record { label = label; destination = text; title = Some title.text };
      rest = title.rest;
    })
titled_cut label text None line lines =
    cond (is_blank line)
    (Some (record { defined = record { label = label; destination = text; title = None }; rest = lines })) None

titled-is : (label : List (List ℕ)) (text line : List ℕ) (lines : List (List ℕ)) →
    with_title label (record { text = text; rest = line }) lines ≡
    titled_cut label text (title_after line lines) line lines
titled-is label text line lines = go (title_after line lines)
  where
    d : Destination
    d = record { text = text; rest = line }

    go : (o : Option Lines) →
        (elim o [
          | Some title ↦ Some
              (record {
                defined = record { label = label; destination = d.text; title = Some title.text };
                rest = title.rest;
              })
          | None ↦ cond (is_blank d.rest)
              (Some
              (record { defined = record { label = label; destination = d.text; title = None }; rest = lines }))
              None
        ]) ≡
        titled_cut label text o line lines
    go None = refl
    go (Some title) = refl

-- a title, or none, and the end of the line
tail-lines : (label : List (List ℕ)) (text : List ℕ) (p : Point) (cells : List Cell) → AreAt p cells →
    length cells ≤ any_size →
    (let line = bytes_of (whole_cells p (line_cells cells)) in
    with_title label (record { text = text; rest = line }) (further (from_ending cells))) ≡
    tail_cut label text (title_following cells) cells
tail-lines label text p cells at small =
    titled-is label text line lines
    ∙ ap (λ (o : Option Lines). titled_cut label text o line lines)
    (title-gap p cells line lines at small (lines-first p cells at.are))
    ∙ go (title_following cells) refl
  where
    line : List ℕ
    line = bytes_of (whole_cells p (line_cells cells))

    lines : List (List ℕ)
    lines = further (from_ending cells)

    none : (x : Bool) → ends_after cells ≡ x →
        cond x
        (Some (record { defined = record { label = label; destination = text; title = None }; rest = lines }))
        None ≡
        cond x (Some (cut_by label text None cells)) None
    none true e =
        ap
        (λ (x : List (List ℕ)).
        Some (record { defined = record { label = label; destination = text; title = None }; rest = x }))
        (ended-further cells e)
    none false e = refl

    go : (o : Option TitleParts) → title_following cells ≡ o →
        titled_cut label text (lone_lines o) line lines ≡ tail_cut label text o cells
    go None e =
        ap
        (λ (x : Bool).
        cond x
        (Some (record { defined = record { label = label; destination = text; title = None }; rest = lines }))
        None)
        (blank-ends any_size p cells small at.are)
        ∙ none (ends_after cells) refl
    go (Some t) e =
        ap (λ (x : Bool). cond x (Some (cut_by label text (Some t) cells)) None) (sym (title-ends cells t e))

-- The destination.

-- by the lines of its text, of which there is one, and those after it
abbrev from_text : List (List ℕ) → List (List ℕ) → List (List ℕ) → Option Cut
from_text label (text ∷ more) (line ∷ lines) = with_title label (record { text = text; rest = line }) lines
from_text label _ _ = None

abbrev from_lines : List (List ℕ) → Option Lines → Option Cut
from_lines label None = None
from_lines label (Some destination) = from_text label destination.text destination.rest

destination-is : (label lines : List (List ℕ)) → with_destination label lines ≡ from_lines label (destination_on lines)
destination-is label [] = refl
destination-is label (line ∷ lines) = go (found.destination_at line)
  where
    go : (o : Option Destination) →
        (elim o [ Some d ↦ with_title label d lines | None ↦ None ]) ≡ from_lines label (with_further lines o)
    go None = refl
    go (Some d) = refl

-- the bytes of its text
abbrev pub text_bytes : Destination → List Cell → Point → List ℕ
text_bytes d cells p =
    let literal = begins_literal cells in
    bytes_of (whole_cells (text_first literal cells p) (text_cells literal d.text cells))

-- what it becomes
abbrev destination_cut : List (List ℕ) → Point → List Cell → Option Destination → Option Cut
destination_cut label p cells None = None
destination_cut label p cells (Some d) =
    let left = destination_left d cells in tail_cut label (text_bytes d cells p) (title_following left) left

destination-cut : (label : List (List ℕ)) (p : Point) (cells : List Cell) → AreAt p cells → length cells ≤ any_size →
    with_destination label (cell_lines false (whole_cells p cells)) ≡
    destination_cut label p cells (found.destination_at (line_bytes cells))
destination-cut label p cells at small =
    destination-is label (cell_lines false (whole_cells p cells))
    ∙ ap (from_lines label) (destination-texts p cells at)
    ∙ go (found.destination_at (line_bytes cells)) refl
  where
    go : (o : Option Destination) → found.destination_at (line_bytes cells) ≡ o →
        from_lines label (destination_lines p cells o) ≡ destination_cut label p cells o
    go None e = refl
    go (Some d) e =
        let there = destination-valid p cells d at e in
        let left = destination_left d cells in
        let fewer = length-drop (destination_size (begins_literal cells) d.text) cells in
        ap (from_text label (text_bytes d cells p ∷ []))
        (lines-first (destination_last d cells p) left there.are)
        ∙ tail-lines label (text_bytes d cells p) (destination_last d cells p) left there (omega (arith, fewer))

-- The colon.

abbrev colon_lines : List Cell → Option (List (List ℕ))
colon_lines [] = None
colon_lines (c ∷ cs) = cond (nat_eq c.byte colon) (Some (cell_lines false (whole_cells c.after cs))) None

colon-lines : (p : Point) (cells : List Cell) → AreAt p cells →
    after_colon (cell_lines false (whole_cells p cells)) ≡ colon_lines cells
unfolding cell_lines
colon-lines p [] at = refl
colon-lines p (c ∷ cs) at =
    ap (λ (x : List Cell). after_colon (cell_lines false x)) (whole-first p c cs (at.begins c cs refl))
    ∙ go (nat_eq c.byte 10) refl
  where
    left : List Cell
    left = whole_cells c.after cs

    by : (line : List ℕ) (lines : List (List ℕ)) (x : Bool) → nat_eq c.byte colon ≡ x →
        after_colon ((c.byte ∷ line) ∷ lines) ≡ cond x (Some (line ∷ lines)) None
    by line lines true e = rw e refl
    by line lines false e = rw e refl

    go : (x : Bool) → nat_eq c.byte 10 ≡ x →
        after_colon (cell_lines false (c ∷ left)) ≡ cond (nat_eq c.byte colon) (Some (cell_lines false left)) None
    go true e =
        let ten : c.byte ≡ 10 = eqb-true c.byte 10 e in
        ap after_colon (lines-ending false c left e) ∙ rw ten refl
    go false e =
        let some = lines-some false left in
        ap after_colon (lines-byte false c left e refl ∙ ap (onto_first c.byte) some.2)
        ∙ by some.0 some.1 (nat_eq c.byte colon) refl
        ∙ ap (λ (x : List (List ℕ)). cond (nat_eq c.byte colon) (Some x) None) (sym some.2)

-- The whole.

-- what a definition that was found shows, and the lines after it
abbrev pub cut_of : Option DefinitionParts → Option Cut
cut_of None = None
cut_of (Some d) =
    Some
    (cut_by (cell_lines false (whole_cells d.label.opener.after d.label.text))
    (text_bytes d.destination (gap_rest d.more) (destination_begin d)) d.title (destination_rest d))

-- with these parts
cut-with : (cells : List Cell) (label : LabelParts) (c : Cell) (cs : List Cell) (o : Option Destination) →
    destination_cut (cell_lines false (whole_cells label.opener.after label.text)) (gap_end cs c.after) (gap_rest cs)
    o ≡
    cut_of (parts_with cells label c cs o)
cut-with cells label c cs None = refl
cut-with cells label c cs (Some d) = go (ends_after (parts_rest all))
  where
    all : DefinitionParts
    all = record {
      cells = cells;
      label = label;
      colon = c;
      more = cs;
      destination = d;
      title = title_following (destination_left d (gap_rest cs));
    }

    go : (x : Bool) →
        cond x
        (Some
        (cut_by (cell_lines false (whole_cells label.opener.after label.text))
        (text_bytes d (gap_rest cs) (gap_end cs c.after)) all.title (destination_rest all)))
        None ≡
        cut_of (cond x (Some all) None)
    go true = refl
    go false = refl

-- after the label
abbrev following_colon : List (List ℕ) → Option (List (List ℕ)) → Option Cut
following_colon label None = None
following_colon label (Some more) = with_destination label (after_gap more)

following-label : (cells : List Cell) (label : LabelParts) (left : List Cell) → AreAt label.closer.after left →
    length left ≤ any_size →
    following_colon (cell_lines false (whole_cells label.opener.after label.text)) (colon_lines left) ≡
    cut_of (parts_after cells label left)
unfolding found.destination_at
following-label cells label [] at small = refl
following-label cells label (c ∷ cs) at small = go (nat_eq c.byte colon) refl
  where
    text : List (List ℕ)
    text = cell_lines false (whole_cells label.opener.after label.text)

    go : (x : Bool) → nat_eq c.byte colon ≡ x →
        following_colon text (cond x (Some (cell_lines false (whole_cells c.after cs))) None) ≡
        cut_of
        (cond x (parts_with cells label c cs (found.destination_at (line_bytes (gap_rest cs)))) None)
    go true e =
        let fewer = gap-length cs in
        gap-lines (with_destination text) c.after cs refl (omega arith) at.are.1
        ∙ destination-cut text (gap_end cs c.after) (gap_rest cs)
        (gap-valid c.after cs (omega arith) at.are.1) (omega (arith, fewer))
        ∙ cut-with cells label c cs (found.destination_at (line_bytes (gap_rest cs)))
    go false e = refl

-- by the label
abbrev labelled_cut : Option Lines → Option Cut
labelled_cut None = None
labelled_cut (Some label) = following_colon label.text (after_colon label.rest)

labelled-is : (lines : List (List ℕ)) → found.definition_at lines ≡ labelled_cut (found.label_at lines)
unfolding found.definition_at
labelled-is lines = go (found.label_at lines)
  where
    by : (label : Lines) (o : Option (List (List ℕ))) →
        (elim o [ Some more ↦ with_destination label.text (after_gap more) | None ↦ None ]) ≡
        following_colon label.text o
    by label None = refl
    by label (Some more) = refl

    go : (o : Option Lines) →
        (elim o [
          | Some label ↦ elim (after_colon label.rest) [
            | Some more ↦ with_destination label.text (after_gap more)
            | None ↦ None
          ]
          | None ↦ None
        ]) ≡
        labelled_cut o
    go None = refl
    go (Some label) = by label (after_colon label.rest)

-- after the indent
definition-at : (cells : List Cell) (p : Point) (left : List Cell) → AreAt p left → length left ≤ any_size →
    found.definition_at (cell_lines false (whole_cells p left)) ≡ cut_of (parts_labelled cells (label_parts left))
definition-at cells p left at small =
    labelled-is (cell_lines false (whole_cells p left)) ∙ ap labelled_cut (labels p left at)
    ∙ go (label_parts left) refl
  where
    labels : (q : Point) (l : List Cell) → AreAt q l →
        found.label_at (cell_lines false (whole_cells q l)) ≡ label_lines (label_parts l)
    labels q [] at = label-lines (record q { vs = 0 }) [] refl tt
    labels q (c ∷ cs) at = label-lines q (c ∷ cs) (at.begins c cs refl) at.are

    go : (o : Option LabelParts) → label_parts left ≡ o → labelled_cut (label_lines o) ≡ cut_of (parts_labelled cells o)
    go None e = refl
    go (Some label) e =
        let following = label-following p left label at.are e in
        let fewer = following.fewer in
        ap (following_colon (cell_lines false (whole_cells label.opener.after label.text)))
        (colon-lines label.closer.after label.rest following.at)
        ∙ following-label cells label label.rest following.at (omega (arith, fewer))

-- A definition is found on the lines of cells, of which the first may be indented, where those cells begin with one:
-- with its label, its destination and its title, and before the lines after it.
pub definition-lines : (p : Point) (cells : List Cell) → length cells ≤ any_size → AreWhole p cells →
    found.definition_at (cell_lines true (whole_cells p cells)) ≡ cut_of (definition_parts cells)
unfolding definition_parts
definition-lines p cells small are =
    let fewer = white-length any_size cells in
    ap found.definition_at (lines-led any_size p cells small are)
    ∙ definition-at cells (white_end any_size cells p) (white_rest any_size cells)
    (white-at any_size p cells small are) (omega (arith, fewer))
