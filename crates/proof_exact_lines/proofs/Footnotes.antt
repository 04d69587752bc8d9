-- The prefix of a footnote definition that opens: its events are those of its cells.
use Rattle.std.proofs.Common.{◌≡◌, ℕ, ◌≤◌, Bool, false, cond, List, [], ◌∷◌, ◌++◌, length, refl, sym, ap, ap₂, ◌∙◌}
use Rattle.std.proofs.Common.{subst, append_assoc, arith}
use Rattle.md_engine.specs.declared.event.Content.TheVariants.{String}
use Rattle.md_engine.specs.declared.event.Event.{Event}
use Rattle.md_engine.specs.declared.event.Name.TheVariants as n
use Rattle.md_engine.specs.declared.event.Point.{Point}
use Rattle.md_engine.specs.declared.tokenizer.Line.{Line}
use Rattle.md_engine.specs.Meaning.{Cell}
use Rattle.md_containers.specs.ItemPrefix.{ItemPassed}
use Rattle.md_containers.proofs.FootnoteOpens.{OpensFootnote, colon_end, footnote_bytes, label_end, label_start}
use Rattle.md_meaning.specs.Containers.{Taken}
use Rattle.md_meaning.specs.Rest.{Rest, after_indent, indent}
use Rattle.md_meaning.specs.State.{InFootnote}
use Rattle.md_meaning.proofs.TextsLemmas.{NoEnding}
use Rattle.md_events.specs.Events.Nested.{around, enter, pair}
use Rattle.md_events.specs.Events.Places.{past_byte, past_text, same_place}
use Rattle.md_events.proofs.FeedLines.{Stops}
use Rattle.md_events.proofs.RestCells.{past_rest, rest_cells}
use Rattle.md_events.specs.Exact.Places.{TextLine, chunk, part, past, piece, text_part, white}
use Rattle.md_events.specs.Exact.Prefixes.{footnote_prefix}
use Rattle.proof_exact_pieces.proofs.OnLine.{LineIn, OnLine, indent-on}
use Rattle.proof_exact_pieces.proofs.PieceLemmas.{part-on, piece-on, text_part-on, white-on}
use Rattle.proof_exact_lines.proofs.Items.{AfterBytes, AfterIndent, following-bytes, following-indent, over-some, rest}

-- What a footnote definition has on the line on which it opens.
pub record HasFootnoteOpening (text following : List ℕ) (line : TextLine) (r : Rest) (p : Point) (passed : ItemPassed)
    (t : Taken) : Type 0 where
  pub label : List ℕ
  pub container : t.container ≡ InFootnote label
  pub events : enter n.GfmFootnoteDefinition p ∷ footnote_prefix line label r t.rest ≡ passed.events
  pub on : OnLine text following line t.rest passed.point

-- The rests of the line after `[`, `[^`, the label, `]` and `:`.

abbrev hat : Rest → Rest
hat r = past 1 (after_indent r)

abbrev inner : Rest → Rest
inner r = past 1 (hat r)

abbrev close : List ℕ → Rest → Rest
close label r = past (length label) (inner r)

abbrev colon : List ℕ → Rest → Rest
colon label r = past 1 (close label r)

abbrev ended : List ℕ → Rest → Rest
ended label r = past 1 (colon label r)

-- the points of `^` and of `:`
abbrev at_hat : Point → Point
at_hat v = past_byte 91 v

abbrev at_colon : List ℕ → Point → Point
at_colon label v = past_byte 93 (label_end label v)

-- each of these rests has the bytes of the text at its point
record HasRests (text following : List ℕ) (line : TextLine) (r : Rest) (p v : Point)
    (label more : List ℕ) : Type 0 where
  indented : AfterIndent text following line r p v (footnote_bytes label more)
  first : AfterBytes text following line (after_indent r) v (91 ∷ []) (94 ∷ (label ++ (93 ∷ 58 ∷ more)))
  marked : AfterBytes text following line (hat r) (at_hat v) (94 ∷ []) (label ++ (93 ∷ 58 ∷ more))
  labelled : AfterBytes text following line (inner r) (label_start v) label (93 ∷ 58 ∷ more)
  closed : AfterBytes text following line (close label r) (label_end label v) (93 ∷ []) (58 ∷ more)
  last : AfterBytes text following line (colon label r) (at_colon label v) (58 ∷ []) more

has-rests : (text following : List ℕ) (line : TextLine) (r : Rest) (p v : Point) (label more : List ℕ) →
    AfterIndent text following line r p v (footnote_bytes label more) → HasRests text following line r p v label more
has-rests text following line r p v label more indented = record {
  indented = indented;
  first = b1;
  marked = b2;
  labelled = b3;
  closed = b4;
  last =
      following-bytes text following line (colon label r) (at_colon label v) (58 ∷ []) more b4.on refl
      b4.bytes_are b4.plain;
}
  where
    b1 : AfterBytes text following line (after_indent r) v (91 ∷ []) (94 ∷ (label ++ (93 ∷ 58 ∷ more)))
    b1 = following-bytes text following line (after_indent r) v (91 ∷ []) (94 ∷ (label ++ (93 ∷ 58 ∷ more))) indented.on
        indented.spaces indented.bytes_are indented.plain

    b2 : AfterBytes text following line (hat r) (at_hat v) (94 ∷ []) (label ++ (93 ∷ 58 ∷ more))
    b2 = following-bytes text following line (hat r) (at_hat v) (94 ∷ []) (label ++ (93 ∷ 58 ∷ more)) b1.on refl
        b1.bytes_are b1.plain

    b3 : AfterBytes text following line (inner r) (label_start v) label (93 ∷ 58 ∷ more)
    b3 = following-bytes text following line (inner r) (label_start v) label (93 ∷ 58 ∷ more) b2.on refl b2.bytes_are
        b2.plain

    b4 : AfterBytes text following line (close label r) (label_end label v) (93 ∷ []) (58 ∷ more)
    b4 = following-bytes text following line (close label r) (label_end label v) (93 ∷ []) (58 ∷ more) b3.on refl
        b3.bytes_are b3.plain

-- The label of the exact list, from `[` to `]`, has the events of its cells.

abbrev label_inside : TextLine → Rest → List ℕ → List Event
label_inside line r label =
    piece line n.GfmFootnoteDefinitionLabelMarker (after_indent r) (hat r)
    ++ piece line n.GfmFootnoteDefinitionMarker (hat r) (inner r)
    ++ text_part line String n.GfmFootnoteDefinitionLabelString (inner r) (close label r)
    ++ piece line n.GfmFootnoteDefinitionLabelMarker (close label r) (colon label r)

abbrev label_cells : List ℕ → Point → List Event
label_cells label v =
    pair n.GfmFootnoteDefinitionLabelMarker v (at_hat v)
    ++ pair n.GfmFootnoteDefinitionMarker (at_hat v) (label_start v)
    ++ around n.GfmFootnoteDefinitionLabelString (label_start v) (label_end label v)
    (chunk String (label_start v) (label_end label v))
    ++ pair n.GfmFootnoteDefinitionLabelMarker (label_end label v) (at_colon label v)

label-events : (text following : List ℕ) (line : TextLine) (r : Rest) (p v : Point) (label more : List ℕ) →
    LineIn text following line → HasRests text following line r p v label more → 1 ≤ length label →
    part line n.GfmFootnoteDefinitionLabel (after_indent r) (colon label r) (label_inside line r label) ≡
    around n.GfmFootnoteDefinitionLabel v (at_colon label v) (label_cells label v)
label-events text following line r p v label more is rests long =
    part-on text following line n.GfmFootnoteDefinitionLabel (after_indent r) (colon label r) v (at_colon label v)
    (label_inside line r label) is rests.indented.on rests.closed.on
    ∙ ap (λ (es : List Event). around n.GfmFootnoteDefinitionLabel v (at_colon label v) es)
    (ap₂ (λ (xs ys : List Event). xs ++ ys)
    (ap₂ (λ (xs ys : List Event). xs ++ ys) (ap₂ (λ (xs ys : List Event). xs ++ ys) bracket_is hat_is) inner_is)
    close_is)
  where
    at_label : Point
    at_label = label_start v

    at_close : Point
    at_close = label_end label v

    some : (bytes : List ℕ) → 1 ≤ length bytes → same_place at_label (past_text bytes at_label) ≡ false
    some [] le = absurd (omega (arith, le))
    some (b ∷ bytes) le = over-some at_label b bytes

    bracket_is : piece line n.GfmFootnoteDefinitionLabelMarker (after_indent r) (hat r) ≡
        pair n.GfmFootnoteDefinitionLabelMarker v (at_hat v)
    bracket_is =
        piece-on text following line n.GfmFootnoteDefinitionLabelMarker (after_indent r) (hat r) v (at_hat v) is
        rests.indented.on rests.first.on
        ∙ ap (λ (x : Bool). cond x [] (pair n.GfmFootnoteDefinitionLabelMarker v (at_hat v))) (over-some v 91 [])

    hat_is : piece line n.GfmFootnoteDefinitionMarker (hat r) (inner r) ≡
        pair n.GfmFootnoteDefinitionMarker (at_hat v) at_label
    hat_is =
        piece-on text following line n.GfmFootnoteDefinitionMarker (hat r) (inner r) (at_hat v) at_label is
        rests.first.on rests.marked.on
        ∙ ap (λ (x : Bool). cond x [] (pair n.GfmFootnoteDefinitionMarker (at_hat v) at_label))
        (over-some (at_hat v) 94 [])

    inner_is : text_part line String n.GfmFootnoteDefinitionLabelString (inner r) (close label r) ≡
        around n.GfmFootnoteDefinitionLabelString at_label at_close (chunk String at_label at_close)
    inner_is =
        text_part-on text following line String n.GfmFootnoteDefinitionLabelString (inner r) (close label r) at_label
        at_close is rests.marked.on rests.labelled.on
        ∙ ap
        (λ (x : Bool).
        cond x []
        (around n.GfmFootnoteDefinitionLabelString at_label at_close (chunk String at_label at_close)))
        (some label long)

    close_is : piece line n.GfmFootnoteDefinitionLabelMarker (close label r) (colon label r) ≡
        pair n.GfmFootnoteDefinitionLabelMarker at_close (at_colon label v)
    close_is =
        piece-on text following line n.GfmFootnoteDefinitionLabelMarker (close label r) (colon label r) at_close
        (at_colon label v) is rests.labelled.on rests.closed.on
        ∙ ap (λ (x : Bool). cond x [] (pair n.GfmFootnoteDefinitionLabelMarker at_close (at_colon label v)))
        (over-some at_close 93 [])

-- It has the events of its cells.
pub footnote-opens : (cell_line : Line) (text following : List ℕ) (line : TextLine) (r : Rest) (p : Point)
    (stop : List Cell) (passed : ItemPassed) (t : Taken) →
    LineIn text following line → OnLine text following line r p → NoEnding r.bytes → Stops stop →
    OpensFootnote cell_line text following p (past_rest r p) stop (rest_cells cell_line r p ++ stop) passed t →
    HasFootnoteOpening text following line r p passed t
footnote-opens cell_line text following line r p stop passed t is on plain k has = record {
  label = label;
  container = sym has.leaves.container ∙ has.container;
  events =
      ap (λ (es : List Event). enter n.GfmFootnoteDefinition p ∷ es)
      (ap₂ (λ (xs ys : List Event). xs ++ ys) rests.indented.indent
      (part-on text following line n.GfmFootnoteDefinitionPrefix (after_indent r) t.rest v passed.point inside is
      rests.indented.on on_end
      ∙ ap (λ (es : List Event). around n.GfmFootnoteDefinitionPrefix v passed.point es)
      (ap₂ (λ (xs ys : List Event). xs ++ ys)
      (ap₂ (λ (xs ys : List Event). xs ++ ys) (label-events text following line r p v label more is rests has.sized.0)
      colon_is)
      (white-on text following line (ended label r) t.rest at_after passed.point is rests.last.on on_end))))
      ∙ sym has.events;
  on = on_end;
}
  where
    label : List ℕ
    label = has.label

    more : List ℕ
    more = has.line_more

    v : Point
    v = has.start

    at_after : Point
    at_after = colon_end label v

    rests : HasRests text following line r p v label more
    rests =
        has-rests text following line r p v label more
        (following-indent cell_line text following line r p v stop (footnote_bytes label more) is on plain
        k has.start_is
        (has.text_is ∙ ap (footnote_bytes label) has.more_is
        ∙ ap (λ (l : List ℕ). 91 ∷ 94 ∷ l) (sym (append_assoc label (93 ∷ 58 ∷ more) following))))

    -- the rest after `:` is the one whose whitespace belongs to the prefix
    after_is : ended label r ≡ rest has.padded.column more
    after_is =
        ap₂ (λ (c : ℕ) (l : List ℕ). rest c l)
        (omega (arith, rests.last.on.valid.column, has.padded.valid.column)) rests.last.bytes_are

    on_end : OnLine text following line t.rest passed.point
    on_end =
        subst (λ (s : Rest). OnLine text following line s passed.point) (sym has.padded.left_is)
        (subst (OnLine text following line (after_indent (rest has.padded.column more))) (sym has.padded.end_is)
        (indent-on cell_line text following line (indent (rest has.padded.column more))
        (indent (rest has.padded.column more)) (rest has.padded.column more) at_after stop
        (subst (λ (s : Rest). OnLine text following line s at_after) after_is rests.last.on) k refl (omega arith)))

    colon_is : piece line n.DefinitionMarker (colon label r) (ended label r) ≡
        pair n.DefinitionMarker (at_colon label v) at_after
    colon_is =
        piece-on text following line n.DefinitionMarker (colon label r) (ended label r) (at_colon label v) at_after is
        rests.closed.on rests.last.on
        ∙ ap (λ (x : Bool). cond x [] (pair n.DefinitionMarker (at_colon label v) at_after))
        (over-some (at_colon label v) 58 [])

    inside : List Event
    inside =
        part line n.GfmFootnoteDefinitionLabel (after_indent r) (colon label r) (label_inside line r label)
        ++ piece line n.DefinitionMarker (colon label r) (ended label r) ++ white line (ended label r) t.rest
