-- A definition: what is left at its first state of the lines of a text.
use Rattle.std.proofs.Common.{◌≡◌, ℕ, Bool, true, false, cond, ◌&&◌, List, [], ◌∷◌, ◌++◌, refl, sym, ap, ap₂}
use Rattle.std.proofs.Common.{◌∙◌, subst, append-nil, Option, Some, None}
use Rattle.std.specs.Option.{is_some}
use Rattle.md_engine.specs.declared.configuration.ParseOptions.{ParseOptions}
use Rattle.md_engine.specs.declared.event.Event.{Event}
use Rattle.md_engine.specs.declared.event.Name.TheVariants as n
use Rattle.md_engine.specs.declared.event.Point.{Point}
use Rattle.md_engine.specs.Meaning.{Cell, Here, Outcome}
use Rattle.md_events.specs.Look.{first_seen}
use Rattle.md_events.specs.Spaces.{IsRest, ends_line}
use Rattle.md_events.proofs.RestCells.{rest_cells}
use Rattle.md_events.specs.Exact.Places.{past, place}
use Rattle.md_events.specs.Exact.Rows.{Row}
use Rattle.md_link_definitions.specs.DefinitionRule.{DefinitionParts, definition_at, definition_end, definition_events}
use Rattle.md_link_definitions.specs.DefinitionRule.{definition_parts, definition_rest}
use Rattle.md_link_definitions.proofs.DefinitionWhole.{definition-whole, moved, taken_definition}
use Rattle.markdown_blocks.specs.TextRule.{IsDefined, IsDefinitionTaken, cells_of, defined, ending_before, is_defined}
use Rattle.markdown_blocks.specs.TextRule.{no_line}
use Rattle.markdown_blocks.proofs.TextRule.Lines.{AreNext, breaks-are, cell-is, cells-are, laid-none, lays-all, next-line}
use Rattle.proof_content_laws.proofs.Defined.Along.{Turn, breaks}
use Rattle.proof_content_laws.proofs.Defined.Parts.{definition-are}
use Rattle.proof_content_laws.proofs.Defined.Takes.{OverEnd, Walk, over-end}
use Rattle.proof_exact_lines.proofs.Ahead.{at}
use Rattle.proof_exact_lines.proofs.Along.{Along, row-place}
use Rattle.proof_exact_lines.proofs.Definitions.{DefinitionOn, definition-found, definition-on}
use Rattle.proof_exact_lines.proofs.Strands.{NextOn, next-on}
use Rattle.proof_frame.specs.Laid.{LineBreak, laid}

-- After it: the ending of its last line, and the lines after that.
left-after : (text : List ℕ) (last z : Point) (row : Row) (rows : List Row) (cells : List Cell) (turns : List Turn) →
    ends_line (first_seen cells) ≡ true → Walk text last z cells turns → Along text (row ∷ rows) z cells turns →
    cells ≡ ending_before rows (cells_of rows)
left-after text last z row [] [] turns ends walk along = refl
left-after text last z row (next ∷ rows) [] turns ends walk along =
    let on = next-line text last z row next rows [] turns walk along in
    absurd (no (rest_cells no_line row.rest z) on.d on.ds on.here)
  where
    no : (xs : List Cell) (d : Cell) (ds : List Cell) → [] ≡ xs ++ d ∷ ds → ⊥
    no [] d ds e = cc
    no (x ∷ xs) d ds e = cc
left-after text last z row rows (c ∷ cs) turns ends walk along =
    go rows (next-on text row rows z z [] c cs turns over.left tt ends along over.turn)
  where
    over : OverEnd text last z c cs turns n.LineEnding
    over = over-end text last z c cs turns n.LineEnding refl ends walk

    go : (rows : List Row) → NextOn text row rows c cs over.turn.turn over.left →
        c ∷ cs ≡ ending_before rows (cells_of rows)
    go [] on = let no : [] ≡ on.next ∷ on.further = on.rows_are in cc
    go (next ∷ more) on =
        ap₂ (λ (d : Cell) (ds : List Cell). d ∷ ds)
        (cell-is c (place next.line next.rest) ends over.turn.said (row-place text next more c.after cs over.left here))
        (cells-are text last c.after next more cs over.left over.takes.walk here)
      where
        here : Along text (next ∷ more) c.after cs over.left
        here = subst (λ (l : List Row). Along text l c.after cs over.left) (sym on.rows_are) on.along

-- One is found.
taken-here : (text : List ℕ) (rows : List Row) (cells : List Cell) (h : Here) (d : DefinitionParts) →
    AreNext text rows h.point cells → definition_parts cells ≡ Some d →
    IsDefinitionTaken rows h (taken_definition (Some d) h)
taken-here text [] cells h d is e = absurd is.along
taken-here text (row ∷ rows) cells h d is e = record {
  events = events;
  are = ap (λ (l : List LineBreak). laid l events) (breaks-are text (row ∷ rows) h.point cells is.turns is.along)
      ∙ ap (laid (breaks is.turns)) (sym (append-nil events))
      ∙ lays-all text is.last h.point is.turns (definition_end d) (definition_rest d) on.left events
      (defined (row ∷ rows)) [] on.takes
      ∙ ap (λ (l : List Event). defined (row ∷ rows) ++ l) (laid-none (breaks on.left))
      ∙ append-nil (defined (row ∷ rows));
  to = moved h events (definition_end d);
  cells = definition_rest d;
  accepts = refl;
  added = refl;
  end = on.end;
  further = on.more;
  ends = on.end_is;
  point = sym on.stops;
  own = row ∷ on.onward.passed;
  parts = ap (λ (l : List Row). row ∷ l) on.onward.following;
  left =
      left-after text is.last (definition_end d) (at on.end (past on.size on.end.rest)) on.more (definition_rest d)
      on.left (definition-are cells d e).ends on.takes.walk on.along;
}
  where
    on : DefinitionOn text is.last h.point d is.turns (row ∷ rows)
    on = definition-on text is.last h.point cells d is.turns (row ∷ rows) e is.walk is.along

    events : List Event
    events = definition_events d h.point

-- What is left at its first state.
pub definition-left : (options : ParseOptions) (text : List ℕ) (rows : List Row) (cells : List Cell) (h : Here) →
    IsRest h.scratch → AreNext text rows h.point cells →
    IsDefined rows h (definition_at options cells h) (is_defined options rows)
definition-left options text rows cells h rest is =
    subst (λ (o : Outcome). IsDefined rows h o (is_defined options rows))
    (sym (definition-whole options cells h rest))
    (subst
    (λ (b : Bool).
    IsDefined rows h (taken_definition (cond options.constructs.definition (definition_parts cells) None) h)
    (options.constructs.definition && b))
    (sym (definition-found text is.last h.point cells is.turns rows is.walk is.along))
    (go options.constructs.definition (definition_parts cells) refl))
  where
    go : (on : Bool) (o : Option DefinitionParts) → definition_parts cells ≡ o →
        IsDefined rows h (taken_definition (cond on o None) h) (on && is_some o)
    go false o e = refl
    go true None e = refl
    go true (Some d) e = taken-here text rows cells h d is e
