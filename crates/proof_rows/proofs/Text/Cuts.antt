-- Definitions are cut from the front of the lines of a text.
use Rattle.std.proofs.Common.{◌≡◌, ℕ, zero, suc, ◌^◌, ◌<◌, Bool, true, false, cond, List, [], ◌∷◌, ◌++◌, length, take}
use Rattle.std.proofs.Common.{drop, Option, Some, None, refl, ap, sym, ◌∙◌, append_assoc, subst, subst₂, append-nil}
use Rattle.std.proofs.Common.{arith, length-drop}
use Rattle.std.proofs.lemmas.List.{take-append-drop}
use Rattle.md_engine.specs.declared.configuration.ParseOptions.{ParseOptions}
use Rattle.md_engine.specs.declared.event.Event.{Event}
use Rattle.md_engine.specs.declared.event.Name.TheVariants as n
use Rattle.md_link_definitions.specs.DefinitionRule.{DefinitionParts, definition_parts}
use Rattle.proof_rows.specs.BlockList.{lines_unread, text_unread}
use Rattle.proof_frame.specs.Row.{Row, ending_events, last_row}
use Rattle.proof_content_laws.specs.Defined.{defined_unread}
use Rattle.proof_rows.specs.Rows.{after_cut, cut_at_most, cut_by, defined_done, further_lines, lines_cells, lines_done}
use Rattle.proof_rows.specs.Rows.{text_done}
use Rattle.proof_rows.proofs.ContentCut.{lines-split}
use Rattle.proof_rows.proofs.Defined.Cut.{IsAfter, lines-cut}
use Rattle.proof_frame.proofs.FrontFacts.{LinePrefix}
use Rattle.md_events.proofs.FeedLines.{IsEnding}
use Rattle.md_engine.specs.declared.event.Point.{Point}
use Rattle.proof_content_laws.proofs.Defined.Is.{IsDefined}
use Rattle.proof_rows.proofs.GroupLines.{first-text, AreLines}
use Rattle.proof_frame.proofs.LeafLines.Cuts.{ending-is}
use Rattle.proof_rows.proofs.Text.Cut.{IsCutText, between}
use Rattle.proof_rows.proofs.Text.Cut.IsCutText.{Defines, Follows, Remains}

-- the first lines of a text are such lines
pub lines-front : (options : ParseOptions) (bytes : List ℕ) (row : Row) (own rest : List Row) →
    AreLines options bytes row (own ++ rest) → AreLines options bytes row own
lines-front options bytes row [] [] h = h
lines-front options bytes row [] (next ∷ rest) h = (h.0, h.1, h.2)
lines-front options bytes row (x ∷ own) rest h =
    (h.0, h.1, h.2, h.3, h.4, h.5, h.6, lines-front options bytes x own rest h.7)

-- What is in the place of lines, three times: what these functions have, cut at definitions. After a definition more
-- lines remain, of which something is known, or none, and then it is all.
abbrev pub IsRest : (options : ParseOptions) (bytes : List ℕ) →
    ((row : Row) (rows : List Row) → AreLines options bytes row rows → Type 0) → Type 0 → List Row → Type 0
IsRest options bytes C All [] = All
IsRest options bytes C All (next ∷ more) = (are : AreLines options bytes next more) → C next more are

-- What is asked of such events: where no definition is cut, of one alone, and of one with further lines after it.
pub record OfCuts (options : ParseOptions) (bytes : List ℕ)
    (C : (row : Row) (rows : List Row) → AreLines options bytes row rows → Type 0)
    (before unread done : Row → List Row → List Event)
    (R : Row → List Row → List Event → List Event → List Event → Type 0) : Type 0 where
  pub remains : (row : Row) (rows : List Row) (are : AreLines options bytes row rows) → C row rows are →
      R row rows (before row rows) (unread row rows) (done row rows)
  pub rest : (row : Row) (rows : List Row) (are : AreLines options bytes row rows) → C row rows are →
      (d : DefinitionParts) → options.constructs.definition ≡ true →
      definition_parts (lines_cells options bytes row rows) ≡ Some d → (own left : List Row) → own ++ left ≡ rows →
      IsAfter options bytes d left →
      IsRest options bytes C
      (AreLines options bytes row own → IsDefined bytes d row own →
      R row own (defined_unread d row own) (defined_unread d row own) (defined_done bytes d row own)) left
  pub follows : (d : DefinitionParts) (row : Row) (own : List Row) (next : Row) (more : List Row) (q : Point)
      (ts es fs : List Event) →
      AreLines options bytes row own → IsDefined bytes d row own → (last_row row own).after ≡ Some q →
      IsEnding bytes (last_row row own).end q → LinePrefix bytes [] q next.first next.front → R next more ts es fs →
      R row (own ++ next ∷ more) (defined_unread d row own ++ between (last_row row own).end q next.front ++ ts)
      (defined_unread d row own ++ between (last_row row own).end q next.front ++ es)
      (defined_done bytes d row own ++ between (last_row row own).end q next.front ++ fs)

module _ (options : ParseOptions) (bytes : List ℕ)
    (C : (row : Row) (rows : List Row) → AreLines options bytes row rows → Type 0)
    (before unread done : Row → List Row → List Event)
    (R : Row → List Row → List Event → List Event → List Event → Type 0)
    (of : OfCuts options bytes C before unread done R) where
  -- at most so many definitions of each
  abbrev cut_before : ℕ → Row → List Row → List Event
  cut_before k = cut_at_most defined_unread before options bytes k

  abbrev cut_unread : ℕ → Row → List Row → List Event
  cut_unread k = cut_at_most defined_unread unread options bytes k

  abbrev cut_done : ℕ → Row → List Row → List Event
  cut_done k = cut_at_most (defined_done bytes) done options bytes k

  -- by the lines after a definition
  following-cut : (k : ℕ) (row : Row) (own left : List Row) (d : DefinitionParts) →
      AreLines options bytes row (own ++ left) → IsDefined bytes d row own →
      IsRest options bytes C
      (AreLines options bytes row own → IsDefined bytes d row own →
      R row own (defined_unread d row own) (defined_unread d row own) (defined_done bytes d row own)) left →
      ((next : Row) (below : List Row) → length below < length left → (are : AreLines options bytes next below) →
      C next below are → R next below (cut_before k next below) (cut_unread k next below) (cut_done k next below)) →
      R row (own ++ left) (defined_unread d row own ++ after_cut (cut_before k) (last_row row own) left)
      (defined_unread d row own ++ after_cut (cut_unread k) (last_row row own) left)
      (defined_done bytes d row own ++ after_cut (cut_done k) (last_row row own) left)
  following-cut k row own [] d are is rest more =
      let unread = defined_unread d row own in
      let done = defined_done bytes d row own in
      subst (λ (l : List Row). R row l (unread ++ []) (unread ++ []) (done ++ [])) (sym (append-nil own))
      (subst₂ (λ (es fs : List Event). R row own es es fs) (sym (append-nil unread)) (sym (append-nil done))
      (rest (lines-front options bytes row own [] are) is))
  following-cut k row own (next ∷ below) d are is rest more =
      let two = lines-split options bytes row own next below are in
      let q = two.3 in
      let end : Row = last_row row own in
      let gap : (front es : List Event) →
      (front ++ between end.end q next.front) ++ es ≡ front ++ ((ending_events n.LineEnding end ++ next.front) ++ es) =
      λ front es.
      append_assoc front (between end.end q next.front) es
      ∙ ap (λ (l : List Event). front ++ ((l ++ next.front) ++ es)) (sym (ending-is n.LineEnding end q two.4)) in
      subst
      (λ (ts : List Event).
      R row (own ++ next ∷ below) ts (defined_unread d row own ++ after_cut (cut_unread k) end (next ∷ below))
      (defined_done bytes d row own ++ after_cut (cut_done k) end (next ∷ below)))
      (gap (defined_unread d row own) (cut_before k next below))
      (subst₂
      (R row (own ++ next ∷ below)
      ((defined_unread d row own ++ between end.end q next.front) ++ cut_before k next below))
      (gap (defined_unread d row own) (cut_unread k next below))
      (gap (defined_done bytes d row own) (cut_done k next below))
      (of.follows d row own next below q (cut_before k next below) (cut_unread k next below) (cut_done k next below)
      (lines-front options bytes row own (next ∷ below) are) is two.4 two.5 two.6
      (more next below (omega arith) two.7 (rest two.7))))

  pub cuts : length bytes < 2 ^ 61 → (k : ℕ) (row : Row) (rows : List Row) (are : AreLines options bytes row rows) →
      C row rows are → length rows < k → R row rows (cut_before k row rows) (cut_unread k row rows)
      (cut_done k row rows)
  cuts small zero row rows are holds lt = absurd (omega (arith, lt))
  cuts small (suc k) row rows are holds lt =
      go options.constructs.definition refl (definition_parts (lines_cells options bytes row rows)) refl
      (λ next below shorter lines held. cuts small k next below lines held shorter)
    where
      go : (x : Bool) → options.constructs.definition ≡ x → (o : Option DefinitionParts) →
          definition_parts (lines_cells options bytes row rows) ≡ o →
          ((next : Row) (below : List Row) → length below < k → (lines : AreLines options bytes next below) →
          C next below lines →
          R next below (cut_before k next below) (cut_unread k next below) (cut_done k next below)) →
          R row rows (cut_by defined_unread before (cut_before k) (cond x o None) row rows)
          (cut_by defined_unread unread (cut_unread k) (cond x o None) row rows)
          (cut_by (defined_done bytes) done (cut_done k) (cond x o None) row rows)
      go false off o e further = of.remains row rows are holds
      go true on None e further = of.remains row rows are holds
      go true on (Some d) e further =
          let cut = lines-cut options bytes small row rows are d e in
          let few = further_lines d row in
          let all : take few rows ++ drop few rows ≡ rows = take-append-drop few rows in
          subst
          (λ (l : List Row).
          R row l (defined_unread d row (take few rows) ++ after_cut (cut_before k) (last_row row (take few rows))
          (drop few rows))
          (defined_unread d row (take few rows) ++ after_cut (cut_unread k) (last_row row (take few rows))
          (drop few rows))
          (defined_done bytes d row (take few rows) ++ after_cut (cut_done k) (last_row row (take few rows))
          (drop few rows)))
          all
          (following-cut k row (take few rows) (drop few rows) d (subst (AreLines options bytes row) (sym all) are)
          cut.defined
          (of.rest row rows are holds d on e (take few rows) (drop few rows) all cut.rest)
          (λ next below shorter.
          further next below (let size = length-drop few rows in omega (arith, size, lt, shorter))))

-- What is in the place of the lines of a text is such.
pub cut-is : (options : ParseOptions) (bytes : List ℕ) (row : Row) (rows : List Row) → AreLines options bytes row rows →
    IsCutText options bytes row rows (text_unread options bytes row rows) (text_done options bytes row rows)
cut-is options bytes row rows are =
    cuts options bytes (λ row rows are. Unit {0}) lines_unread lines_unread (lines_done bytes)
    (λ row rows ts es fs. IsCutText options bytes row rows es fs)
    (record {
      remains = λ row rows are holds. Remains row rows are;
      rest = λ row rows are holds d on e own left all following. rest d row own left;
      follows = λ d row own next more q ts es fs are is after ending front cut.
          Follows d row own next more q es fs are is after ending front cut;
    }) (first-text options bytes row rows are).1.small (suc (length rows)) row rows are tt (omega arith)
  where
    rest : (d : DefinitionParts) (row : Row) (own left : List Row) →
        IsRest options bytes (λ row rows are. Unit {0})
        (AreLines options bytes row own → IsDefined bytes d row own →
        IsCutText options bytes row own (defined_unread d row own) (defined_done bytes d row own)) left
    rest d row own [] = λ are is. Defines d row own are is
    rest d row own (next ∷ more) = λ are. tt
