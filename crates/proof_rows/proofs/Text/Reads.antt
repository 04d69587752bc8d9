-- What is in the place of the lines of a text is read as what the line definition reaches where it shuts an open text
-- of these lines: the definitions that are cut from their front, and a paragraph of those that remain.
use Rattle.std.proofs.Common.{◌≡◌, ℕ, zero, suc, ◌<◌, ◌≤◌, Bool, true, false, cond, List, [], ◌∷◌, ◌++◌, length, drop}
use Rattle.std.proofs.Common.{take, inl, inr, refl, ap, sym, ◌∙◌, subst, arith}
use Rattle.std.specs.Prelude.{Option, Some, None, option_map}
use Rattle.std.proofs.lemmas.List.{length-drop}
use Rattle.md_meaning.proofs.DefinitionLemmas.{cut_definitions-none, cut_definitions-some}
use Rattle.md_meaning.specs.Definition.{Defined, cut_definitions, definition_at, label_at}
use Rattle.md_meaning.specs.Rest.{trim_start}
use Rattle.md_meaning.specs.State.{cut, shut_paragraph, texts, then_definitions, then_paragraph}
use Rattle.md_meaning.specs.Tree.{Block, Blocks, Definition}
use Rattle.md_engine.specs.declared.configuration.ParseOptions.{ParseOptions}
use Rattle.md_engine.specs.declared.event.Event.{Event}
use Rattle.md_engine.specs.declared.event.Name.TheVariants as n
use Rattle.md_engine.specs.declared.event.Point.{Point}
use Rattle.md_engine.specs.declared.tokenizer.Line.{Line}
use Rattle.md_engine.specs.Meaning.{Cell}
use Rattle.md_link_definitions.specs.CellLines.{cell_lines}
use Rattle.md_link_definitions.specs.DefinitionRule.{DefinitionParts, definition_parts}
use Rattle.md_link_definitions.specs.DefinitionRule.{definition_rest, destination_begin}
use Rattle.md_link_definitions.specs.GapRule.{gap_rest}
use Rattle.md_link_definitions.specs.TitleRule.{TitleParts}
use Rattle.md_link_definitions.specs.WholeCells.{AreWhole, whole_cells}
use Rattle.md_link_definitions.proofs.DefinitionLines.{cut_of, definition-lines, text_bytes, title_recorded}
use Rattle.md_link_definitions.proofs.LineCells.{further}
use Rattle.md_link_definitions.proofs.SpreadLines.{rest-last, rest-next, rest-whole, whole-append}
use Rattle.md_events.specs.Ahead.{point_after}
use Rattle.md_events.specs.Events.Spelled.{Reading, add_block, read}
use Rattle.md_events.specs.Events.Tiles.{plain_read}
use Rattle.md_events.specs.Spaces.{any_size}
use Rattle.md_events.proofs.FeedLines.{cell, past_text-whole}
use Rattle.md_events.proofs.RestCells.{Cut, past_cut, past_rest, rest-end, rest_cells}
use Rattle.md_events.proofs.SpelledLemmas.{Between, QuietOrEnding, read-between, read-from, roles-append}
use Rattle.md_events.proofs.SpelledLemmas.{unmarked-append}
use Rattle.proof_frame.specs.Row.{Row, ending_events, last_row}
use Rattle.proof_rows.specs.Rows.{after_cut, cut_at_most, cut_by, defined_done, further_lines}
use Rattle.proof_rows.specs.Rows.{lines_cells, lines_done, text_done}
use Rattle.proof_rows.proofs.Defined.Cells.{lines-are, lines-small, lines_are}
use Rattle.proof_rows.proofs.Defined.Cut.{IsAfter, IsCut, lines-cut}
use Rattle.proof_content_laws.proofs.Defined.Facts.{defined-done, defined-facts}
use Rattle.proof_content_laws.proofs.Defined.Form.{Titled, form_block, target_text, text_lines}
use Rattle.proof_content_laws.proofs.Defined.Is.{IsDefined}
use Rattle.proof_frame.proofs.FrontFacts.{LinePrefix}
use Rattle.proof_rows.proofs.GroupLines.{first-text, AreLines, kept-of}
use Rattle.proof_frame.proofs.LeafAllowed.{ending-roles}
use Rattle.proof_frame.proofs.FrontNames.{fronts-unmarked}
use Rattle.proof_frame.proofs.ParagraphLines.{fronts-between}
use Rattle.proof_frame.proofs.Unmarked.{inline-unmarked}
use Rattle.proof_rows.proofs.SpelledParagraphs.{read-lines, text-filled}
use Rattle.proof_rows.proofs.Text.Facts.{lines-read}

-- the setting says nothing of the line
abbrev said : Line
said = record { start = 0; lazy = false }

-- The lines of its cells are those of the rows, as the line definition keeps them.
cells-texts : (options : ParseOptions) (bytes : List ℕ) (row : Row) (rows : List Row) →
    (are : AreLines options bytes row rows) →
    cell_lines true (whole_cells row.first (lines_are options bytes row rows are)) ≡
    texts (kept-of options bytes row rows are)
cells-texts options bytes row [] are =
    let is = are.1 in
    rest-last said is.rest row.first (text-filled options bytes are.0 row is are.2).no_ending is.cut is.first_column
cells-texts options bytes row (next ∷ rows) are =
    let is = are.1 in
    rest-next said is.rest row.first (cell 10 next.first said) (lines_are options bytes next rows are.7)
    (text-filled options bytes are.0 row is are.2).no_ending is.cut is.first_column refl
    ∙ ap (λ (l : List (List ℕ)). trim_start is.rest.bytes ∷ l) (cells-texts options bytes next rows are.7)

-- They are as a text has them.
cells-whole : (options : ParseOptions) (bytes : List ℕ) (row : Row) (rows : List Row) →
    (are : AreLines options bytes row rows) → AreWhole row.first (lines_are options bytes row rows are)
cells-whole options bytes row [] are =
    let is = are.1 in rest-whole said is.rest row.first is.cut is.first_column
cells-whole options bytes row (next ∷ rows) are =
    let is = are.1 in
    let end : point_after (rest_cells said is.rest row.first) row.first ≡ past_rest is.rest row.first =
    rest-end said is.rest row.first is.first_column in
    let last = past_text-whole is.rest.bytes (past_cut is.rest.spaces row.first) (whole is.rest.spaces is.cut) in
    whole-append (rest_cells said is.rest row.first)
    (cell 10 next.first said ∷ lines_are options bytes next rows are.7) row.first
    (rest-whole said is.rest row.first is.cut is.first_column) (
      inr (ap (λ (p : Point). p.vs) end ∙ last, inl refl),
      cells-whole options bytes next rows are.7,
    )
  where
    whole : (spaces : ℕ) → Cut spaces row.first → (past_cut spaces row.first).vs ≡ 0
    whole zero at = at
    whole (suc k) at = refl

-- So the line definition finds a definition on them where their cells begin with one.
pub lines-definition : (options : ParseOptions) (bytes : List ℕ) (row : Row) (rows : List Row) →
    (are : AreLines options bytes row rows) →
    definition_at (texts (kept-of options bytes row rows are)) ≡
    cut_of (definition_parts (lines_cells options bytes row rows))
lines-definition options bytes row rows are =
    let small = (first-text options bytes row rows are).1.small in
    let same = lines-are options bytes small row rows are in
    ap definition_at (sym (cells-texts options bytes row rows are))
    ∙ definition-lines row.first (lines_are options bytes row rows are)
    (subst (λ (cells : List Cell). length cells ≤ any_size) same (lines-small options bytes small row rows are))
    (cells-whole options bytes row rows are)
    ∙ ap (λ (cells : List Cell). cut_of (definition_parts cells)) (sym same)

-- What it shows.
abbrev pub defined_of : DefinitionParts → Defined
defined_of d = record {
  label = cell_lines false (whole_cells d.label.opener.after d.label.text);
  destination = text_bytes d.destination (gap_rest d.more) (destination_begin d);
  title = title_recorded d.title;
}

abbrev pub defined_block : Defined → Block
defined_block x = Definition x.label x.destination x.title

-- its events are read as just this
pub defined-reads : (bytes : List ℕ) (d : DefinitionParts) (row : Row) (rows : List Row) (r : Reading) →
    IsDefined bytes d row rows → r.text ≡ None → r.leaf ≡ None →
    read bytes r (defined_done bytes d row rows) ≡ add_block (defined_block (defined_of d)) r
defined-reads bytes d row rows r is none shut =
    ap (λ (es : List Event). read bytes r (plain_read bytes es)) is.unread
    ∙ ap (read bytes r) (defined-done bytes is.form is.following_gap is.after_target is.is)
    ∙ (defined-facts bytes is.form is.following_gap is.after_target is.is).reads r none shut
    ∙ ap (λ (block : Block). add_block block r) recorded
  where
    titles : (o : Option TitleParts) →
        option_map (λ (t : TitleParts). cell_lines false (whole_cells t.opener.after t.text)) o ≡ title_recorded o
    titles None = refl
    titles (Some t) = refl

    recorded : form_block is.form ≡ defined_block (defined_of d)
    recorded =
        ap
        (λ (label : List (List ℕ)).
        Definition label (target_text is.form.target) (option_map (λ (t : Titled). text_lines t.text) is.form.title))
        (sym is.label_lines)
        ∙ ap
        (λ (target : List ℕ).
        Definition (defined_of d).label target (option_map (λ (t : Titled). text_lines t.text) is.form.title))
        is.target_is
        ∙ ap (λ (title : Option (List (List ℕ))). Definition (defined_of d).label (defined_of d).destination title)
        (is.title_lines ∙ titles d.title)

-- What the line definition becomes.

-- it cuts definitions where they are on
pub cut-as : (options : ParseOptions) (lines : List (List ℕ)) (x : Bool) → options.constructs.definition ≡ x →
    cut options lines ≡ cond x (cut_definitions lines) ([], lines)
cut-as options lines x e = ap (λ (y : Bool). cond y (cut_definitions lines) ([], lines)) e

pub none-found : definition_at [] ≡ None
unfolding definition_at label_at
none-found = refl

-- Lines.

-- those of a text alone
lines-alone : (options : ParseOptions) (bytes : List ℕ) (row : Row) (rows : List Row) →
    (are : AreLines options bytes row rows) → (r : Reading) → r.text ≡ None → r.leaf ≡ None →
    read bytes r (lines_done bytes row rows) ≡
    record r { here = then_paragraph r.here (texts (kept-of options bytes row rows are)) }
lines-alone options bytes row [] are r none shut =
    read-lines bytes row [] (kept-of options bytes row [] are) r (lines-read options bytes row [] are) none
lines-alone options bytes row (next ∷ rows) are r none shut =
    read-lines bytes row (next ∷ rows) (kept-of options bytes row (next ∷ rows) are) r
    (lines-read options bytes row (next ∷ rows) are) none

-- those after some of them
abbrev pub IsMore : ParseOptions → List ℕ → List Row → Type 0
IsMore options bytes [] = Unit {0}
IsMore options bytes (next ∷ more) =
    (q : Point) × (front : LinePrefix bytes [] q next.first next.front) × AreLines options bytes next more

pub lines-following : (options : ParseOptions) (bytes : List ℕ) (k : ℕ) (row : Row) (rows : List Row) →
    AreLines options bytes row rows → IsMore options bytes (drop k rows)
lines-following options bytes zero row [] are = tt
lines-following options bytes zero row (next ∷ rows) are = (are.3, are.6, are.7)
lines-following options bytes (suc k) row [] are = tt
lines-following options bytes (suc k) row (next ∷ rows) are = lines-following options bytes k next rows are.7

-- what follows a definition are these lines
pub further-following : (options : ParseOptions) (bytes : List ℕ) (d : DefinitionParts) (next : Row)
    (below : List Row) →
    (are : AreLines options bytes next below) → IsAfter options bytes d (next ∷ below) →
    further (definition_rest d) ≡ texts (kept-of options bytes next below are)
further-following options bytes d next below are following =
    ap further following.1
    ∙ ap (λ (cells : List Cell). cell_lines true (whole_cells next.first cells))
    (lines-are options bytes (first-text options bytes next below are).1.small next below are)
    ∙ cells-texts options bytes next below are

-- and nothing does where none is there
pub none-following : (options : ParseOptions) (bytes : List ℕ) (d : DefinitionParts) → IsAfter options bytes d [] →
    cut_definitions (further (definition_rest d)) ≡ ([], [])
none-following options bytes d following =
    ap (λ (cells : List Cell). cut_definitions (further cells)) following ∙ cut_definitions-none [] none-found

-- what is between it and the next line is not read
pub read-gap : (options : ParseOptions) (bytes : List ℕ) (last next : Row) (left : List Row) (r : Reading) →
    IsMore options bytes (next ∷ left) → r.text ≡ None → r.leaf ≡ None →
    read bytes r (ending_events n.LineEnding last ++ next.front) ≡ r
read-gap options bytes last next left r more none shut =
    read-between bytes r (ending_events n.LineEnding last ++ next.front) none shut
    (roles-append Between (ending_events n.LineEnding last) next.front (ending-roles Between n.LineEnding last tt)
    (fronts-between bytes [] more.0 next.first next.front more.1 refl))
    (unmarked-append bytes (ending_events n.LineEnding last) next.front
    (inline-unmarked bytes (ending_events n.LineEnding last) (ending-roles QuietOrEnding n.LineEnding last tt))
    (fronts-unmarked bytes more.0 next.first next.front more.1))

-- At most so many definitions, and what remains.

-- after a definition more lines remain, of which something is known, or none, and then nothing is read
abbrev pub IsLeft : (options : ParseOptions) (bytes : List ℕ) →
    ((row : Row) (rows : List Row) → AreLines options bytes row rows → Type 0) → (Blocks → List (List ℕ) → Blocks) →
    List Row → Type 0
IsLeft options bytes C last [] = (bs : Blocks) → last bs [] ≡ bs
IsLeft options bytes C last (next ∷ more) = (are : AreLines options bytes next more) → C next more are

-- The lines of which this is known are read so where no definition is cut, and others after a definition.
pub record ReadsRest (options : ParseOptions) (bytes : List ℕ)
    (C : (row : Row) (rows : List Row) → AreLines options bytes row rows → Type 0) (done : Row → List Row → List Event)
    (last : Blocks → List (List ℕ) → Blocks) : Type 0 where
  pub alone : (row : Row) (rows : List Row) (are : AreLines options bytes row rows) → C row rows are → (r : Reading) →
      r.text ≡ None → r.leaf ≡ None →
      read bytes r (done row rows) ≡ record r { here = last r.here (texts (kept-of options bytes row rows are)) }
  pub following : (row : Row) (rows : List Row) (are : AreLines options bytes row rows) → C row rows are →
      options.constructs.definition ≡ true → (d : DefinitionParts) →
      definition_parts (lines_cells options bytes row rows) ≡ Some d →
      IsAfter options bytes d (drop (further_lines d row) rows) →
      IsLeft options bytes C last (drop (further_lines d row) rows)

module _ (options : ParseOptions) (bytes : List ℕ)
    (C : (row : Row) (rows : List Row) → AreLines options bytes row rows → Type 0) (done : Row → List Row → List Event)
    (last : Blocks → List (List ℕ) → Blocks) (of : ReadsRest options bytes C done last) where
  -- after these blocks, where these were cut
  abbrev then_cut : Blocks → List Defined × List (List ℕ) → Blocks
  then_cut bs c = last (then_definitions bs c.0) c.1

  abbrev cut_done : ℕ → Row → List Row → List Event
  cut_done n row rows = cut_at_most (defined_done bytes) done options bytes n row rows

  -- so many are enough for these lines
  abbrev ReadsBy : ℕ → Type 0
  ReadsBy n =
      (row : Row) (rows : List Row) → length rows < n → (are : AreLines options bytes row rows) → C row rows are →
      (r : Reading) → r.text ≡ None → r.leaf ≡ None →
      read bytes r (cut_done n row rows) ≡
      record r { here = then_cut r.here (cut options (texts (kept-of options bytes row rows are))) }

  -- after one definition
  cut-following : (k : ℕ) (d : DefinitionParts) (end : Row) (left : List Row) (r : Reading) →
      options.constructs.definition ≡ true → ReadsBy k → length left ≤ k → IsMore options bytes left →
      IsAfter options bytes d left → IsLeft options bytes C last left → r.text ≡ None → r.leaf ≡ None →
      read bytes r (after_cut (cut_done k) end left) ≡
      record r { here = then_cut r.here (cut_definitions (further (definition_rest d))) }
  cut-following k d end [] r on fewer some more following is none shut =
      ap (λ (bs : Blocks). record r { here = bs }) (sym (is r.here))
      ∙ ap (λ (c : List Defined × List (List ℕ)). record r { here = then_cut r.here c })
      (sym (none-following options bytes d following))
  cut-following k d end (next ∷ left) r on fewer some more following is none shut =
      read-from bytes r r (ending_events n.LineEnding end ++ next.front) (cut_done k next left)
      (read-gap options bytes end next left r more none shut)
      ∙ fewer next left (omega arith) more.2 (is more.2) r none shut
      ∙ ap (λ (c : List Defined × List (List ℕ)). record r { here = then_cut r.here c })
      (cut-as options (texts (kept-of options bytes next left more.2)) true on
      ∙ ap cut_definitions (sym (further-following options bytes d next left more.2 following)))

  -- with one more
  reads-more : (k : ℕ) (row : Row) (rows : List Row) → length rows < suc k → (are : AreLines options bytes row rows) →
      C row rows are → (r : Reading) → r.text ≡ None → r.leaf ≡ None → ReadsBy k →
      read bytes r (cut_done (suc k) row rows) ≡
      record r { here = then_cut r.here (cut options (texts (kept-of options bytes row rows are))) }
  reads-more k row rows few are holds r none shut fewer =
      go options.constructs.definition refl (definition_parts cells) refl
    where
      cells : List Cell
      cells = lines_cells options bytes row rows

      lines : List (List ℕ)
      lines = texts (kept-of options bytes row rows are)

      to : List Defined × List (List ℕ) → Reading
      to c = record r { here = then_cut r.here c }

      found : definition_at lines ≡ cut_of (definition_parts cells)
      found = lines-definition options bytes row rows are

      alone : cut options lines ≡ ([], lines) → read bytes r (done row rows) ≡ to (cut options lines)
      alone e = of.alone row rows are holds r none shut ∙ ap to (sym e)

      go : (x : Bool) → options.constructs.definition ≡ x → (o : Option DefinitionParts) → definition_parts cells ≡ o →
          read bytes r (cut_by (defined_done bytes) done (cut_done k) (cond x o None) row rows) ≡ to (cut options lines)
      go false off o e = alone (cut-as options lines false off)
      go true on None e = alone (cut-as options lines true on ∙ cut_definitions-none lines (found ∙ ap cut_of e))
      go true on (Some d) e =
          let small = (first-text options bytes row rows are).1.small in
          let is : IsCut options bytes row rows d = lines-cut options bytes small row rows are d e in
          let own : List Row = take (further_lines d row) rows in
          let left : List Row = drop (further_lines d row) rows in
          let next : Reading = add_block (defined_block (defined_of d)) r in
          let size = length-drop (further_lines d row) rows in
          read-from bytes r next (defined_done bytes d row own) (after_cut (cut_done k) (last_row row own) left)
          (defined-reads bytes d row own r is.defined none shut)
          ∙ cut-following k d (last_row row own) left next on fewer (omega (arith, size, few))
          (lines-following options bytes (further_lines d row) row rows are) is.rest
          (of.following row rows are holds on d e is.rest) none shut
          ∙ ap to
          (sym
          (cut-as options lines true on
          ∙ cut_definitions-some lines
          (record { defined = defined_of d; rest = further (definition_rest d) }) (found ∙ ap cut_of e)))

  -- so it continues
  pub reads-by : (k : ℕ) → ReadsBy k
  reads-by zero = λ row rows few are holds r none shut. absurd (omega (arith, few))
  reads-by (suc k) =
      λ row rows few are holds r none shut. reads-more k row rows few are holds r none shut (reads-by k)

-- The lines of a text are read as what it becomes.
pub text-read : (options : ParseOptions) (bytes : List ℕ) (row : Row) (rows : List Row) →
    (are : AreLines options bytes row rows) → (r : Reading) → r.text ≡ None → r.leaf ≡ None →
    read bytes r (text_done options bytes row rows) ≡
    record r { here = shut_paragraph options r.here (texts (kept-of options bytes row rows are)) }
unfolding shut_paragraph
text-read options bytes row rows are r none shut =
    reads-by options bytes (λ row rows are. Unit {0}) (lines_done bytes) then_paragraph
    (record {
      alone = λ row rows are holds. lines-alone options bytes row rows are;
      following = λ row rows are holds on d e is. left (drop (further_lines d row) rows);
    }) (suc (length rows)) row rows (omega arith) are tt r none shut
  where
    left : (rows : List Row) → IsLeft options bytes (λ row rows are. Unit {0}) then_paragraph rows
    left [] = λ bs. refl
    left (next ∷ more) = λ are. tt
