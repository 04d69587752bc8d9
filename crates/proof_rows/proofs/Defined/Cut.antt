-- A definition that lines of a text begin with takes some of these lines, over which it has a form, and after it are
-- the others.
use Rattle.std.proofs.Common.{◌≡◌, inl, inr, ℕ, ◌+◌, ◌^◌, ◌<◌, ◌≤◌, true, false, nat_eq, List, [], ◌∷◌, ◌++◌, length}
use Rattle.std.proofs.Common.{take, drop, refl, sym, ap, ◌∙◌, subst, arith, append-nil, Some}
use Rattle.md_engine.specs.declared.configuration.ParseOptions.{ParseOptions}
use Rattle.md_engine.specs.declared.event.Event.{Event}
use Rattle.md_engine.specs.declared.event.Point.{Point}
use Rattle.md_engine.specs.declared.tokenizer.Line.{Line}
use Rattle.md_engine.specs.Meaning.{Cell}
use Rattle.md_link_definitions.specs.DefinitionRule.{DefinitionParts, definition_end, definition_events}
use Rattle.md_link_definitions.specs.DefinitionRule.{definition_parts}
use Rattle.md_link_definitions.specs.DefinitionRule.{definition_rest, destination_begin, destination_end}
use Rattle.md_events.specs.Look.{first_seen}
use Rattle.md_events.specs.Spaces.{ends_line}
use Rattle.md_events.proofs.FeedLines.{cell}
use Rattle.proof_frame.specs.Laid.{LineBreak, laid}
use Rattle.proof_frame.specs.Row.{Row, after_row, last_row, breaks_of}
use Rattle.proof_content_laws.proofs.Defined.Along.{IsCell, IsTurn, Turn, Walks, breaks}
use Rattle.proof_rows.proofs.Defined.Cells.{lines-walk, turns_of}
use Rattle.proof_content_laws.proofs.Defined.Form.{form_unread}
use Rattle.proof_content_laws.proofs.Defined.Is.{IsDefined}
use Rattle.proof_content_laws.specs.Defined.{defined_unread}
use Rattle.proof_rows.specs.Rows.{further_lines, lines_cells}
use Rattle.proof_content_laws.proofs.Defined.Parts.{DefinitionAre, DefinitionOf, definition-are, definition-of}
use Rattle.proof_content_laws.proofs.Defined.Placed.{Before, Fits, bared, placed}
use Rattle.proof_content_laws.proofs.Defined.Takes.{EndIn, Walk, step-plain}
use Rattle.proof_rows.proofs.GroupLines.{AreLines}

-- what follows it: nothing, or the ending of its last line and the cells of the others
abbrev pub IsAfter : ParseOptions → List ℕ → DefinitionParts → List Row → Type 0
IsAfter options bytes d [] = definition_rest d ≡ []
IsAfter options bytes d (next ∷ more) =
    (said : Line) × (definition_rest d ≡ cell 10 next.first said ∷ lines_cells options bytes next more)

-- its events over lines that end all at a point: without what is before these lines they are others, which belong to
-- their lines by their bytes
pub record IsSet (last : Point) (d : DefinitionParts) (row : Row) (rows : List Row) : Type 0 where
  pub settled : List Event
  pub settles : (bs : List LineBreak) → Before (definition_end d) bs → (more : List Event) →
      laid (bared (breaks_of row rows) ++ bs) (definition_events d row.first ++ more) ≡ settled ++ laid bs more
  pub begins : (more : List Event) → Fits (definition_end d) more → Fits row.first (settled ++ more)
  pub cuts : (bs : List LineBreak) → Before (definition_end d) bs → (more : List Event) → Fits (definition_end d) more →
      placed (breaks_of row rows ++ bs) (settled ++ more) ≡ defined_unread d row rows ++ placed bs more
  pub ends : EndIn last (definition_events d row.first)

pub record IsCut (options : ParseOptions) (bytes : List ℕ) (row : Row) (rows : List Row) (d : DefinitionParts) :
    Type 0 where
  pub many : further_lines d row ≤ length rows
  pub defined : IsDefined bytes d row (take (further_lines d row) rows)
  pub rest : IsAfter options bytes d (drop (further_lines d row) rows)
  pub end : definition_end d ≡ (last_row row (take (further_lines d row) rows)).end
  pub set : IsSet (last_row row rows).end d row (take (further_lines d row) rows)

-- So many turns are so many lines.

pub record Taken (options : ParseOptions) (bytes : List ℕ) (row : Row) (rows : List Row) (took left : List Turn) :
    Type 0 where
  pub many : length took ≤ length rows
  pub breaks_are : breaks took ≡ breaks_of row (take (length took) rows)
  pub left_are : left ≡ turns_of options bytes (last_row row (take (length took) rows)) (drop (length took) rows)
  pub last : last_row row rows ≡ last_row (last_row row (take (length took) rows)) (drop (length took) rows)

pub taken : (options : ParseOptions) (bytes : List ℕ) (row : Row) (rows : List Row) (took left : List Turn) →
    turns_of options bytes row rows ≡ took ++ left → Taken options bytes row rows took left
taken options bytes row rows [] left e =
    record { many = omega arith; breaks_are = refl; left_are = sym e; last = refl }
taken options bytes row [] (t ∷ took) left e = cc
taken options bytes row (next ∷ rows) (t ∷ took) left e =
    let turn : Turn = record {
      end = row.end;
      break = record { after = after_row row; front = next.front };
      first = next.first;
      cells = lines_cells options bytes next rows;
    } in
    let first : turn ≡ t = cc in
    let following : turns_of options bytes next rows ≡ took ++ left = cc in
    let more = taken options bytes next rows took left following in
    let many = more.many in
    record {
      many = omega (arith, many);
      breaks_are =
          ap (λ (x : Turn). x.break ∷ breaks took) (sym first)
          ∙ ap (λ (l : List LineBreak). (record { after = after_row row; front = next.front }) ∷ l) more.breaks_are;
      left_are = more.left_are;
      last = more.last;
    }

-- What follows a definition.

record Following (options : ParseOptions) (bytes : List ℕ) (d : DefinitionParts) (row : Row) (rows : List Row) :
    Type 0 where
  rest : IsAfter options bytes d rows
  end : definition_end d ≡ row.end

following : (options : ParseOptions) (bytes : List ℕ) (last : Point) (d : DefinitionParts) (row : Row) (rows : List Row)
    (left : List Turn) → Walk bytes last (definition_end d) (definition_rest d) left →
    ends_line (first_seen (definition_rest d)) ≡ true → left ≡ turns_of options bytes row rows →
    last ≡ (last_row row rows).end → Following options bytes d row rows
following options bytes last d row rows left walk ends are end =
    go (definition_rest d) refl walk.walks ends rows are end
  where
    none : (rows : List Row) → [] ≡ turns_of options bytes row rows → last ≡ (last_row row rows).end →
        definition_rest d ≡ [] → definition_end d ≡ last → Following options bytes d row rows
    none [] are end e k = record { rest = e; end = k ∙ end }
    none (next ∷ rows) are end e k = cc

    some : (c : Cell) (cs : List Cell) (following : List Turn) → definition_rest d ≡ c ∷ cs →
        IsTurn bytes (definition_end d) c cs left following → (rows : List Row) →
        left ≡ turns_of options bytes row rows → Following options bytes d row rows
    some c cs following e turn [] are =
        let bad : turn.turn ∷ following ≡ [] = sym turn.turns_are ∙ are in
        cc
    some c cs following e turn (next ∷ more) are =
        let t : Turn = record {
          end = row.end;
          break = record { after = after_row row; front = next.front };
          first = next.first;
          cells = lines_cells options bytes next more;
        } in
        let both : turn.turn ∷ following ≡ t ∷ turns_of options bytes next more = sym turn.turns_are ∙ are in
        let same : turn.turn ≡ t = cc in
        let first : c.after ≡ next.first = turn.after ∙ ap (λ (x : Turn). x.first) same in
        let cells : cs ≡ lines_cells options bytes next more = turn.cells ∙ ap (λ (x : Turn). x.cells) same in
        let byte = turn.byte in
        record {
          rest = (
            c.line,
            e
                ∙ ap (λ (l : List Cell). cell c.byte c.after c.line ∷ l) cells
                ∙ ap (λ (b : ℕ). cell b c.after c.line ∷ lines_cells options bytes next more) byte
                ∙ ap (λ (p : Point). cell 10 p c.line ∷ lines_cells options bytes next more) first,
          );
          end = turn.at ∙ ap (λ (x : Turn). x.end) same;
        }

    go : (cells : List Cell) → definition_rest d ≡ cells →
        Walks bytes last (definition_end d) (definition_rest d) left →
        ends_line (first_seen (definition_rest d)) ≡ true → (rows : List Row) →
        left ≡ turns_of options bytes row rows → last ≡ (last_row row rows).end → Following options bytes d row rows
    go [] e walks ends rows are end =
        let here : Walks bytes last (definition_end d) [] left =
        subst (λ (l : List Cell). Walks bytes last (definition_end d) l left) e walks in
        none rows (sym here.1 ∙ are) end e here.0
    go (c ∷ cs) e walks ends rows are end =
        let here : Walks bytes last (definition_end d) (c ∷ cs) left =
        subst (λ (l : List Cell). Walks bytes last (definition_end d) l left) e walks in
        let ten : nat_eq c.byte 10 ≡ true = ap (λ (l : List Cell). ends_line (first_seen l)) (sym e) ∙ ends in
        by here.0 here.1 ten
      where
        by : (following : List Turn) → IsCell bytes (definition_end d) c cs left following → nat_eq c.byte 10 ≡ true →
            Following options bytes d row rows
        by following (inl (step, same)) ten =
            let bad : nat_eq c.byte 10 ≡ false = step-plain bytes (definition_end d) c walk.valid step in cc
        by following (inr turn) ten = some c cs following e turn rows are

-- Lines that begin with a definition.
pub lines-cut : (options : ParseOptions) (bytes : List ℕ) → length bytes < 2 ^ 61 → (row : Row) (rows : List Row) →
    AreLines options bytes row rows → (d : DefinitionParts) →
    definition_parts (lines_cells options bytes row rows) ≡ Some d → IsCut options bytes row rows d
lines-cut options bytes small row rows h d e =
    cut (definition-of bytes (last_row row rows).end row.first cells (turns_of options bytes row rows) d are walk)
  where
    cells : List Cell
    cells = lines_cells options bytes row rows

    are : DefinitionAre cells d
    are = definition-are cells d e

    walk : Walk bytes (last_row row rows).end row.first cells (turns_of options bytes row rows)
    walk = lines-walk options bytes small row rows h

    cut : DefinitionOf bytes (last_row row rows).end row.first (turns_of options bytes row rows) d →
        IsCut options bytes row rows d
    cut of = record {
      many = subst (λ (n : ℕ). n ≤ length rows) (sym same) known.many;
      defined = subst (λ (n : ℕ). IsDefined bytes d row (take n rows)) (sym same) defined;
      rest = subst (λ (n : ℕ). IsAfter options bytes d (drop n rows)) (sym same) beyond.rest;
      end = subst (λ (n : ℕ). definition_end d ≡ (last_row row (take n rows)).end) (sym same) beyond.end;
      set = subst (λ (n : ℕ). IsSet (last_row row rows).end d row (take n rows)) (sym same) set;
    }
      where
        took : List Turn
        took = of.takes.took

        known : Taken options bytes row rows took of.left
        known = taken options bytes row rows took of.left of.takes.turns_are

        beyond : Following options bytes d (last_row row (take (length took) rows)) (drop (length took) rows)
        beyond =
            following options bytes (last_row row rows).end d (last_row row (take (length took) rows))
            (drop (length took) rows) of.left of.takes.walk are.ends known.left_are (ap (λ (r : Row). r.end) known.last)

        same : further_lines d row ≡ length took
        same = let line : (definition_end d).line ≡ row.first.line + length took = of.takes.line in omega (arith, line)

        some : List Row
        some = take (length took) rows

        events : List Event
        events = definition_events d row.first

        unread : defined_unread d row some ≡ form_unread of.form
        unread =
            ap (λ (bs : List LineBreak). laid bs events) (sym known.breaks_are)
            ∙ ap (λ (bs : List LineBreak). laid bs events) (sym (append-nil (breaks took)))
            ∙ ap (laid (breaks took ++ [])) (sym (append-nil events))
            ∙ of.takes.lays [] tt [] ∙ append-nil (form_unread of.form)

        set : IsSet (last_row row rows).end d row some
        set = record {
          settled = of.takes.settled;
          settles = λ bs h more.
              subst
              (λ (l : List LineBreak). laid (bared l ++ bs) (events ++ more) ≡ of.takes.settled ++ laid bs more)
              known.breaks_are (of.takes.settles bs h more);
          begins = of.takes.begins;
          cuts = λ bs h more fits.
              subst
              (λ (l : List LineBreak).
              placed (l ++ bs) (of.takes.settled ++ more) ≡ defined_unread d row some ++ placed bs more)
              known.breaks_are
              (of.takes.cuts bs h more fits ∙ ap (λ (l : List Event). l ++ placed bs more) (sym unread));
          ends = of.takes.ends;
        }

        defined : IsDefined bytes d row some
        defined = record {
          form = of.form;
          following_gap = destination_begin d;
          after_target = destination_end d;
          is = of.is;
          first = of.first;
          last = of.end ∙ beyond.end;
          unread = unread;
          label_lines = of.label_lines;
          target_is = of.target_is;
          title_lines = of.title_lines;
        }
