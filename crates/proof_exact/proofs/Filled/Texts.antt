-- The events of texts: a definition holds no part that must be filled, and what remains of a text is filled.
use Rattle.std.proofs.Common.{◌≡◌, ℕ, zero, suc, ◌+◌, ◌-◌, Bool, true, false, cond, List, [], ◌∷◌, ◌++◌}
use Rattle.std.proofs.Common.{length, drop, refl, sym, subst}
use Rattle.std.specs.Prelude.{◌==◌, Option, Some, None}
use Rattle.std.specs.Option.{is_some}
use Rattle.md_engine.specs.declared.event.Content.{Content}
use Rattle.md_engine.specs.declared.event.Content.TheVariants.{String, Text}
use Rattle.md_engine.specs.declared.event.Event.{Event}
use Rattle.md_engine.specs.declared.event.Name.{Name}
use Rattle.md_engine.specs.declared.event.Name.TheVariants as n
use Rattle.md_meaning.specs.Ascii.{less_than}
use Rattle.md_meaning.specs.Definition.{Destination, after_gap, definition_at, destination_at, label_at, title_closer}
use Rattle.md_meaning.specs.Enclosed.{Lines, enclosed_lines}
use Rattle.md_meaning.specs.Rest.{Rest, after_indent}
use Rattle.md_events.specs.Exact.Leaves.{first_end, last_end, leaf, onto_next, runs_line, span, start}
use Rattle.md_events.specs.Exact.Places.{chunk, is_same, line_end, next_line, past, white}
use Rattle.md_events.specs.Exact.Rows.{Row}
use Rattle.md_events.specs.Exact.Texts.{ahead, back, after_destination, following_gap, after_label, after_title, chunks}
use Rattle.md_events.specs.Exact.Texts.{definition, definition_end, destination_part, enclosed_part, gap, has_title}
use Rattle.md_events.specs.Exact.Texts.{left, lines_left, mark, next_byte, on_first, remaining, text_events, text_span}
use Rattle.proof_exact_lines.proofs.TextLines.{at_end, last-end, last_of}
use Rattle.proof_exact.proofs.Filled.Leaves.{AreLines, leaf-filled, next-filled, runs_line-filled}
use Rattle.proof_exact.proofs.Filled.Parts.{Filled, filled-append, filled-around, filled-chunk, filled-none, filled-piece}
use Rattle.proof_exact.proofs.Filled.Parts.{filled-white, is_plain}
use Rattle.proof_exact.proofs.Filled.TextSpans.{Texts, lines-filled, texts-lines}

-- all lines but the first are of a text; the first may be read in part
abbrev pub Further : List ℕ → List Row → Type 0
Further bytes [] = Unit {0}
Further bytes (row ∷ rows) = Texts bytes rows

module _ (bytes : List ℕ) where
  plain-further : (rows : List Row) → Texts bytes rows → Further bytes rows
  plain-further [] h = tt
  plain-further (row ∷ rows) h = h.1

  drop-plain : (size : ℕ) (rows : List Row) → Texts bytes rows → Texts bytes (drop size rows)
  drop-plain zero rows h = h
  drop-plain (suc size) [] h = tt
  drop-plain (suc size) (row ∷ rows) h = drop-plain size rows h.1

  drop-further : (size : ℕ) (rows : List Row) → Further bytes rows → Further bytes (drop size rows)
  drop-further zero rows h = h
  drop-further (suc size) [] h = tt
  drop-further (suc size) (row ∷ rows) h = plain-further (drop size rows) (drop-plain size rows h)

  on_first-further : (f : Rest → Rest) (rows : List Row) → Further bytes rows → Further bytes (on_first f rows)
  on_first-further f [] h = tt
  on_first-further f (row ∷ rows) h = h

  ahead-further : (rows : List Row) (others size : ℕ) → Further bytes rows → Further bytes (ahead rows others size)
  ahead-further rows others size h =
      on_first-further (λ r. past (length r.bytes - size) r) (drop (length rows - (others + 1)) rows)
      (drop-further (length rows - (others + 1)) rows h)

  left-further : (rows : List Row) (lines : List (List ℕ)) → Further bytes rows → Further bytes (left rows lines)
  left-further rows [] h = tt
  left-further rows (line ∷ more) h = ahead-further rows (length more) (length line) h

  label-further : (rows : List Row) → Further bytes rows → Further bytes (after_label rows)
  label-further rows h = go (label_at (lines_left rows))
    where
      go : (o : Option Lines) → Further bytes (elim o [ Some label ↦ left rows label.rest | None ↦ [] ])
      go None = tt
      go (Some label) = left-further rows label.rest h

  destination-further : (rows : List Row) → Further bytes rows → Further bytes (after_destination rows)
  destination-further [] h = tt
  destination-further (row ∷ rows) h = go (destination_at row.rest.bytes)
    where
      go : (o : Option Destination) →
          Further bytes (elim o [ Some d ↦ ahead (row ∷ rows) (length rows) (length d.rest) | None ↦ [] ])
      go None = tt
      go (Some d) = ahead-further (row ∷ rows) (length rows) (length d.rest) h

  title-further : (rows : List Row) → Further bytes rows → Further bytes (after_title rows)
  title-further rows h = go (title_closer (next_byte rows))
    where
      text-further : (o : Option Lines) → Further bytes (elim o [ Some text ↦ left rows text.rest | None ↦ [] ])
      text-further None = tt
      text-further (Some text) = left-further rows text.rest h

      go : (o : Option ℕ) →
          Further bytes
          (elim o [
            | Some closer ↦ elim (enclosed_lines (next_byte rows) closer (lines_left (on_first (past 1) rows))) [
              | Some text ↦ left rows text.rest
              | None ↦ []
            ]
            | None ↦ []
          ])
      go None = tt
      go (Some closer) = text-further (enclosed_lines (next_byte rows) closer (lines_left (on_first (past 1) rows)))

  gap-further : (rows : List Row) → Further bytes rows → Further bytes (following_gap rows)
  gap-further rows h = left-further rows (after_gap (lines_left rows)) h

  value-further : (rows : List Row) → Further bytes rows → Further bytes (on_first (past 1) (after_label rows))
  value-further rows h = on_first-further (past 1) (after_label rows) (label-further rows h)

  to-further : (rows : List Row) → Further bytes rows →
      Further bytes (after_destination (following_gap (on_first (past 1) (after_label rows))))
  to-further rows h =
      destination-further (following_gap (on_first (past 1) (after_label rows)))
      (gap-further (on_first (past 1) (after_label rows)) (value-further rows h))

  end-further : (rows : List Row) → Further bytes rows → Further bytes (definition_end rows)
  end-further rows h = go (has_title following)
    where
      following : List Row
      following = after_destination (following_gap (on_first (past 1) (after_label rows)))

      go : (x : Bool) → Further bytes (cond x (after_title (following_gap following)) following)
      go true = title-further (following_gap following) (gap-further following (to-further rows h))
      go false = to-further rows h

  -- Parts of a text.

  mark-filled : (name : Name) → is_plain name ≡ true → (rows : List Row) → Filled bytes (mark name rows)
  mark-filled name e [] = filled-none
  mark-filled name e (row ∷ rows) = filled-piece row.line name row.rest (past 1 row.rest) e

  gap-filled : (rows ends : List Row) → Further bytes rows → Filled bytes (gap rows ends)
  gap-filled [] ends h = filled-none
  gap-filled (row ∷ rows) [] h = filled-none
  gap-filled (row ∷ rows) (end ∷ ends) h =
      go (gap-filled rows (end ∷ ends) (plain-further rows h)) (length rows == length ends)
    where
      go : Filled bytes (gap rows (end ∷ ends)) → (x : Bool) →
          Filled bytes
          (cond x (white row.line row.rest end.rest)
          (white row.line row.rest (line_end row.line) ++ onto_next (row ∷ rows) ++ gap rows (end ∷ ends)))
      go more true = filled-white row.line row.rest end.rest
      go more false =
          filled-append (white row.line row.rest (line_end row.line) ++ onto_next (row ∷ rows)) (gap rows (end ∷ ends))
          (filled-append (white row.line row.rest (line_end row.line)) (onto_next (row ∷ rows))
          (filled-white row.line row.rest (line_end row.line)) (next-filled row rows (texts-lines bytes rows h)))
          more

  chunks-filled : (c : Content) (rows ends : List Row) → Further bytes rows → Filled bytes (chunks c rows ends)
  chunks-filled c [] ends h = filled-none
  chunks-filled c (row ∷ rows) [] h = filled-none
  chunks-filled c (row ∷ []) (end ∷ ends) h = go (0 == length ends) (is_same row.rest end.rest)
    where
      go : (x y : Bool) →
          Filled bytes
          (cond x (cond y [] (chunk c (start (row ∷ [])) (start (end ∷ ends))))
          (chunk c (start (row ∷ [])) (next_line row.line) ++ [] ++ []))
      go true true = filled-none
      go true false = filled-chunk c (start (row ∷ [])) (start (end ∷ ends))
      go false y = filled-chunk c (start (row ∷ [])) (next_line row.line)
  chunks-filled c (row ∷ next ∷ rows) (end ∷ ends) h =
      go (chunks-filled c (next ∷ rows) (end ∷ ends) h.1) (length (next ∷ rows) == length ends)
      (is_same row.rest end.rest)
    where
      go : Filled bytes (chunks c (next ∷ rows) (end ∷ ends)) → (x y : Bool) →
          Filled bytes
          (cond x (cond y [] (chunk c (start (row ∷ next ∷ rows)) (start (end ∷ ends))))
          (chunk c (start (row ∷ next ∷ rows)) (next_line row.line) ++ next.front ++ chunks c (next ∷ rows) (end ∷ ends)))
      go more true true = filled-none
      go more true false = filled-chunk c (start (row ∷ next ∷ rows)) (start (end ∷ ends))
      go more false y =
          filled-append (chunk c (start (row ∷ next ∷ rows)) (next_line row.line) ++ next.front)
          (chunks c (next ∷ rows) (end ∷ ends))
          (filled-append (chunk c (start (row ∷ next ∷ rows)) (next_line row.line)) next.front
          (filled-chunk c (start (row ∷ next ∷ rows)) (next_line row.line)) h.0.0.line.front)
          more

  -- A text part is what its chunks are, with a begin and an end around them, if there are any.
  abbrev spanned : Name → List Row → List Row → List Event → List Event
  spanned name rows ends [] = []
  spanned name rows ends (e ∷ es) = span name rows ends (e ∷ es)

  spanned-filled : (name : Name) (rows ends : List Row) (es : List Event) → is_plain name ≡ true → Filled bytes es →
      Filled bytes (spanned name rows ends es)
  spanned-filled name rows ends [] h k = filled-none
  spanned-filled name rows ends (e ∷ es) h k = filled-around name (start rows) (start ends) (e ∷ es) h k

  span-filled : (c : Content) (name : Name) (rows ends : List Row) → is_plain name ≡ true → Further bytes rows →
      Filled bytes (text_span c name rows ends)
  span-filled c name rows ends h k = spanned-filled name rows ends (chunks c rows ends) h (chunks-filled c rows ends k)

  -- Definitions.

  enclosed-filled : (name marker text : Name) (rows ends : List Row) → is_plain name ≡ true →
      is_plain marker ≡ true → is_plain text ≡ true → Further bytes rows →
      Filled bytes (enclosed_part name marker text rows ends)
  enclosed-filled name marker text rows ends h k l further =
      let close = back rows ends in
      let inside = text_span String text (on_first (past 1) rows) close in
      filled-around name (start rows) (start ends) (mark marker rows ++ inside ++ mark marker close) h
      (filled-append (mark marker rows ++ inside) (mark marker close)
      (filled-append (mark marker rows) inside (mark-filled marker k rows)
      (span-filled String text (on_first (past 1) rows) close l (on_first-further (past 1) rows further)))
      (mark-filled marker k close))

  destination-filled : (rows ends : List Row) → Further bytes rows → Filled bytes (destination_part rows ends)
  destination-filled rows ends h =
      filled-around n.DefinitionDestination (start rows) (start ends) _ refl (go (next_byte rows == less_than))
    where
      string : List Event
      string = text_span String n.DefinitionDestinationString rows ends

      go : (x : Bool) →
          Filled bytes
          (cond x
          (enclosed_part n.DefinitionDestinationLiteral n.DefinitionDestinationLiteralMarker
          n.DefinitionDestinationString rows ends)
          (span n.DefinitionDestinationRaw rows ends string))
      go true =
          enclosed-filled n.DefinitionDestinationLiteral n.DefinitionDestinationLiteralMarker
          n.DefinitionDestinationString rows ends refl refl refl h
      go false =
          filled-around n.DefinitionDestinationRaw (start rows) (start ends) string refl
          (span-filled String n.DefinitionDestinationString rows ends refl h)

  definition-filled : (rows : List Row) → Further bytes rows → Filled bytes (definition rows)
  definition-filled rows h =
      filled-around n.Definition (start rows) (start (first_end end)) (inside (has_title to)) refl (by (has_title to))
    where
      label : List Row
      label = after_label rows

      value : List Row
      value = on_first (past 1) label

      from : List Row
      from = following_gap value

      to : List Row
      to = after_destination from

      title : List Row
      title = following_gap to

      end : List Row
      end = definition_end rows

      first : List Event
      first = enclosed_part n.DefinitionLabel n.DefinitionLabelMarker n.DefinitionLabelString rows label

      front : List Event
      front = first ++ mark n.DefinitionMarker label ++ gap value from ++ destination_part from to

      titled : Bool → List Event
      titled x =
          cond x
          (gap to title ++ enclosed_part n.DefinitionTitle n.DefinitionTitleMarker n.DefinitionTitleString title end)
          []

      inside : Bool → List Event
      inside x = front ++ titled x ++ gap end (first_end end)

      front-filled : Filled bytes front
      front-filled =
          filled-append (first ++ mark n.DefinitionMarker label ++ gap value from) (destination_part from to)
          (filled-append (first ++ mark n.DefinitionMarker label) (gap value from)
          (filled-append first (mark n.DefinitionMarker label)
          (enclosed-filled n.DefinitionLabel n.DefinitionLabelMarker n.DefinitionLabelString rows label refl refl refl h)
          (mark-filled n.DefinitionMarker refl label))
          (gap-filled value from (value-further rows h)))
          (destination-filled from to (gap-further value (value-further rows h)))

      titled-filled : (x : Bool) → Filled bytes (titled x)
      titled-filled true =
          filled-append (gap to title)
          (enclosed_part n.DefinitionTitle n.DefinitionTitleMarker n.DefinitionTitleString title end)
          (gap-filled to title (to-further rows h))
          (enclosed-filled n.DefinitionTitle n.DefinitionTitleMarker n.DefinitionTitleString title end refl refl refl
          (gap-further to (to-further rows h)))
      titled-filled false = filled-none

      by : (x : Bool) → Filled bytes (inside x)
      by x =
          filled-append (front ++ titled x) (gap end (first_end end))
          (filled-append front (titled x) front-filled (titled-filled x))
          (gap-filled end (first_end end) (end-further rows h))

  -- Texts.

  -- after the last line of a definition
  drop-one : (rows : List Row) → Further bytes rows → Texts bytes (drop 1 rows)
  drop-one [] h = tt
  drop-one (row ∷ rows) h = h

  pub text_events-filled : (remain : List Row → List Event) →
      ((rows : List Row) → Texts bytes rows → Filled bytes (remain rows)) →
      (size : ℕ) (rows : List Row) → Texts bytes rows → Filled bytes (text_events remain size rows)
  text_events-filled remain h zero rows k = h rows k
  text_events-filled remain h (suc size) rows k =
      go (text_events-filled remain h size (drop 1 end) (drop-one end (end-further first first-further)))
      (is_some (definition_at (lines_left first)))
    where
      first : List Row
      first = on_first after_indent rows

      first-further : Further bytes first
      first-further = on_first-further after_indent rows (plain-further rows k)

      end : List Row
      end = definition_end first

      way : (rows : List Row) → Further bytes rows → Filled bytes (onto_next rows)
      way [] f = filled-none
      way (row ∷ rows) f = next-filled row rows (texts-lines bytes rows f)

      go : Filled bytes (text_events remain size (drop 1 end)) → (x : Bool) →
          Filled bytes
          (cond x (gap rows first ++ definition first ++ onto_next end ++ text_events remain size (drop 1 end))
          (remain rows))
      go more true =
          filled-append (gap rows first ++ definition first ++ onto_next end) (text_events remain size (drop 1 end))
          (filled-append (gap rows first ++ definition first) (onto_next end)
          (filled-append (gap rows first) (definition first) (gap-filled rows first (plain-further rows k))
          (definition-filled first first-further))
          (way end (end-further first first-further)))
          more
      go more false = h rows k

  -- what remains of a text
  pub remaining-filled : (unders rows : List Row) → AreLines bytes unders → Texts bytes rows →
      Filled bytes (remaining unders rows)
  remaining-filled [] [] h k = filled-none
  remaining-filled (under ∷ unders) [] h k = filled-none
  remaining-filled [] (row ∷ rows) h k = lines-filled bytes n.Paragraph row rows refl k
  remaining-filled (under ∷ unders) (row ∷ rows) h k =
      let end = last_end (row ∷ rows) in
      let string = text_span Text n.HeadingSetextText (row ∷ rows) end in
      let line = leaf n.HeadingSetextUnderline (runs_line n.HeadingSetextUnderlineSequence) (under ∷ []) in
      filled-around n.HeadingSetext (start (row ∷ rows)) (start (first_end (under ∷ [])))
      (string ++ onto_next (end ++ under ∷ []) ++ line) refl
      (filled-append (string ++ onto_next (end ++ under ∷ [])) line
      (filled-append string (onto_next (end ++ under ∷ []))
      (lines-filled bytes n.HeadingSetextText row rows refl k)
      (subst (λ (ends : List Row). Filled bytes (onto_next (ends ++ under ∷ []))) (sym (last-end row rows))
      (next-filled (at_end (last_of row rows)) (under ∷ []) (h.0, tt))))
      (leaf-filled n.HeadingSetextUnderline (runs_line n.HeadingSetextUnderlineSequence) refl
      (runs_line-filled n.HeadingSetextUnderlineSequence refl) under [] h.0.rest tt))
