-- What is left of a footnote definition at rest is what it takes of a line by the cells.
use Rattle.std.proofs.Common.{◌≡◌, ℕ, ◌+◌, Bool, true, false, cond, nat_eq, List, [], ◌∷◌, ◌++◌, length}
use Rattle.std.proofs.Common.{Option, Some, None, refl, sym, ◌∙◌, ap, ap₂, append_assoc, arith, subst}
use Rattle.std.specs.Prelude.{nat_le}
use Rattle.md_engine.specs.declared.configuration.ParseOptions.{ParseOptions}
use Rattle.md_engine.specs.declared.event.Event.{Event}
use Rattle.md_engine.specs.declared.event.Name.TheVariants.{DefinitionMarker, GfmFootnoteDefinition}
use Rattle.md_engine.specs.declared.event.Name.TheVariants.{GfmFootnoteDefinitionPrefix, SpaceOrTab}
use Rattle.md_engine.specs.declared.event.Point.{Point}
use Rattle.md_engine.specs.declared.tokenizer.Scratch.{Scratch}
use Rattle.md_engine.specs.declared.tokenizer.TheConstants.Scratch.{REST}
use Rattle.md_engine.specs.Meaning.{Accepts, Cell, Here, Outcome, Refuses}
use Rattle.md_containers.specs.Footnote.{footnote_held, footnote_width}
use Rattle.md_containers.specs.FootnotePrefix.{as_footnote, footnote_after, footnote_by, footnote_ended}
use Rattle.md_containers.specs.FootnotePrefix.{footnote_further}
use Rattle.md_containers.specs.FootnotePrefix.{footnote_labelled, footnote_marked, footnote_new, footnote_opened}
use Rattle.md_containers.specs.FootnoteRule.{LabelCells, at_bracket, at_caret, at_colon, following_colon}
use Rattle.md_containers.specs.FootnoteRule.{following_prefix, bracket_events, caret_events, footnote_at, in_label}
use Rattle.md_containers.specs.FootnoteRule.{label_by, label_cells, label_ended, may_have}
use Rattle.md_containers.specs.ItemPrefix.{ItemPassed, item_by, item_further, item_indented, item_same}
use Rattle.md_containers.specs.ItemRule.{item_on}
use Rattle.md_containers.proofs.ItemCells.{at_rest}
use Rattle.md_containers.proofs.ItemFurther.{further-is}
use Rattle.md_meaning.specs.Ascii.{caret, colon, left_bracket}
use Rattle.md_meaning.specs.Rest.{is_blank}
use Rattle.md_leaves.specs.LeafStart.{start_at}
use Rattle.md_events.specs.Ahead.{begins_white, line_bytes, white_end, white_rest, white_size}
use Rattle.md_events.specs.Events.Nested.{enter, exit, pair}
use Rattle.md_events.specs.Look.{first_seen}
use Rattle.md_events.specs.Spaces.{IsRest, any_size, ends_line, small_indent}
use Rattle.md_events.proofs.AheadLemmas.{none-end, none-rest}

-- after these events, where a footnote definition is tried that began here
abbrev at : Here → List Event → Point → Here
at h front p = record h { events = h.events ++ front; point = p; scratch = REST }

-- After `:`.

-- it opens here, after these events
abbrev opened : Here → List Event → List Cell → Point → Outcome
opened h es cells p =
    Accepts (record h { events = es; point = p; scratch = REST; flags = footnote_held h.flags }) cells

following-is : (h : Here) (label : List ℕ) (front : List Event) (cells : List Cell) (p : Point) →
    following_colon cells (at h front p) ≡ footnote_by (Some (footnote_opened label front cells p)) (at_rest h)
unfolding following_colon following_prefix
following-is h label front cells p = go (begins_white cells) refl
  where
    q : Point
    q = white_end any_size cells p

    ended : List Event
    ended = exit GfmFootnoteDefinitionPrefix q ∷ []

    go : (x : Bool) → begins_white cells ≡ x →
        following_colon cells (at h front p) ≡ footnote_by (Some (footnote_opened label front cells p)) (at_rest h)
    go true e =
        rw e
        (ap (λ (es : List Event). opened h es (white_rest any_size cells) q)
        (append_assoc (h.events ++ front) (pair SpaceOrTab p q) ended
        ∙ append_assoc h.events front (pair SpaceOrTab p q ++ ended)))
    go false e =
        rw e
        (ap₂ (λ (l : List Cell) (r : Point).
        opened h ((h.events ++ front) ++ exit GfmFootnoteDefinitionPrefix r ∷ []) l r)
        (sym (none-rest any_size cells e)) (sym (none-end any_size cells p e))
        ∙ ap (λ (es : List Event). opened h es (white_rest any_size cells) q) (append_assoc h.events front ended))

ended-is : (h : Here) (label : List ℕ) (front : List Event) (cells : List Cell) (p : Point) →
    at_colon cells (at h front p) ≡ footnote_by (footnote_ended label front cells p) (at_rest h)
unfolding at_colon
ended-is h label front [] p = refl
ended-is h label front (c ∷ cs) p = go (nat_eq c.byte colon)
  where
    marker : List Event
    marker = pair DefinitionMarker p c.after

    go : (x : Bool) →
        cond x
        (following_colon cs (record (at h front p) { events = (h.events ++ front) ++ marker; point = c.after }))
        (Refuses REST h.flags) ≡
        footnote_by (cond x (Some (footnote_opened label (front ++ marker) cs c.after)) None) (at_rest h)
    go true =
        ap
        (λ (es : List Event). following_colon cs (record h { events = es; point = c.after; scratch = REST }))
        (append_assoc h.events front marker)
        ∙ following-is h label (front ++ marker) cs c.after
    go false = refl

-- The label.

labelled-is : (h : Here) (front : List Event) (p : Point) (o : Option LabelCells) →
    label_by o (at h front p) ≡ footnote_by (footnote_labelled front o) (at_rest h)
labelled-is h front p None = refl
labelled-is h front p (Some l) =
    ap
    (λ (size : ℕ).
    cond (may_have size)
    (at_colon l.rest (record h { events = (h.events ++ front) ++ more; point = q; scratch = REST }))
    (Refuses REST h.flags))
    none
    ∙ go (may_have (length l.label))
  where
    none : 0 + length l.label ≡ length l.label
    none = omega arith

    q : Point
    q = l.closer.after

    more : List Event
    more = label_ended l.end q

    go : (x : Bool) →
        cond x (at_colon l.rest (record h { events = (h.events ++ front) ++ more; point = q; scratch = REST }))
        (Refuses REST h.flags) ≡
        footnote_by (cond x (footnote_ended l.label (front ++ more) l.rest q) None) (at_rest h)
    go true =
        ap (λ (es : List Event). at_colon l.rest (record h { events = es; point = q; scratch = REST }))
        (append_assoc h.events front more)
        ∙ ended-is h l.label (front ++ more) l.rest q
    go false = refl

marked-is : (h : Here) (front : List Event) (cells : List Cell) (p : Point) →
    at_caret cells (at h front p) ≡ footnote_by (footnote_marked front cells p) (at_rest h)
unfolding at_caret in_label
marked-is h front [] p = refl
marked-is h front (c ∷ cs) p = go (nat_eq c.byte caret)
  where
    more : List Event
    more = caret_events p c.after

    o : Option LabelCells
    o = label_cells false cs c.after

    go : (x : Bool) →
        cond x
        (label_by o (record (at h front p) { events = (h.events ++ front) ++ more; point = c.after }))
        (Refuses REST h.flags) ≡
        footnote_by (cond x (footnote_labelled (front ++ more) o) None) (at_rest h)
    go true =
        ap
        (λ (es : List Event). label_by o (record h { events = es; point = c.after; scratch = REST }))
        (append_assoc h.events front more)
        ∙ labelled-is h (front ++ more) c.after o
    go false = refl

-- After the indent.

bracket-is : (h : Here) (front : List Event) (cells : List Cell) (p : Point) →
    at_bracket cells (at h front p) ≡ footnote_by (footnote_after front cells p) (at_rest h)
unfolding at_bracket
bracket-is h front [] p = refl
bracket-is h front (c ∷ cs) p = go (nat_eq c.byte left_bracket)
  where
    more : List Event
    more = bracket_events p c.after

    go : (x : Bool) →
        cond x
        (at_caret cs (record (at h front p) { events = (h.events ++ front) ++ more; point = c.after }))
        (Refuses REST h.flags) ≡
        footnote_by (cond x (footnote_marked (front ++ more) cs c.after) None) (at_rest h)
    go true =
        ap
        (λ (es : List Event). at_caret cs (record h { events = es; point = c.after; scratch = REST }))
        (append_assoc h.events front more)
        ∙ marked-is h (front ++ more) cs c.after
    go false = refl

start-rest : (options : ParseOptions) (cells : List Cell) (h : Here) →
    footnote_at options cells (at_rest h) ≡ footnote_by (footnote_new options cells h.point) (at_rest h)
unfolding start_at
start-rest options cells h = go options.constructs.gfm_footnote_definition (begins_white cells) refl
  where
    room : ℕ
    room = small_indent options

    p : Point
    p = white_end room cells h.point

    left : List Cell
    left = white_rest room cells

    begun : List Event
    begun = enter GfmFootnoteDefinition h.point ∷ []

    go : (x y : Bool) → begins_white cells ≡ y →
        cond x
        (cond y
        (at_bracket left
        (record h {
          events = (h.events ++ begun) ++ enter SpaceOrTab h.point ∷ exit SpaceOrTab p ∷ [];
          point = p;
          scratch = REST;
        }))
        (at_bracket cells (record h { events = h.events ++ begun; scratch = REST })))
        (Refuses REST h.flags) ≡
        footnote_by
        (cond x
        (footnote_after (enter GfmFootnoteDefinition h.point ∷ cond y (pair SpaceOrTab h.point p) []) left p) None)
        (at_rest h)
    go false y k = refl
    go true true k =
        ap
        (λ (es : List Event). at_bracket left (record h { events = es; point = p; scratch = REST }))
        (append_assoc h.events begun (pair SpaceOrTab h.point p))
        ∙ bracket-is h (enter GfmFootnoteDefinition h.point ∷ pair SpaceOrTab h.point p) left p
    go true false k =
        bracket-is h begun cells h.point
        ∙ ap₂ (λ (l : List Cell) (q : Point). footnote_by (footnote_after begun l q) (at_rest h))
        (sym (none-rest room cells k)) (sym (none-end room cells h.point k))

-- a footnote definition is taken where it opens, and refused elsewhere
pub footnote-is : (options : ParseOptions) (cells : List Cell) (h : Here) → IsRest h.scratch →
    footnote_at options cells h ≡ footnote_by (footnote_new options cells h.point) h
footnote-is options cells h is =
    subst
    (λ (s : Scratch).
    footnote_at options cells (record h { scratch = s }) ≡
    footnote_by (footnote_new options cells h.point) (record h { scratch = s }))
    (sym is) (start-rest options cells h)

-- A further line.

-- what an item of this width takes is what a footnote definition takes
further-by : (label : List ℕ) (cells : List Cell) (h : Here) →
    item_by (item_further [] 0 footnote_width false cells h.point) h ≡
    footnote_by (footnote_further label cells h.point) h
further-by label cells h =
    go (ends_line (first_seen cells))
    (cond (is_blank (line_bytes cells)) true (nat_le footnote_width (white_size footnote_width cells)))
  where
    same : ItemPassed
    same = item_same [] 0 footnote_width cells h.point

    taken : ItemPassed
    taken = item_indented [] 0 footnote_width cells h.point

    go : (x y : Bool) →
        item_by (cond x (Some same) (cond y (Some taken) None)) h ≡
        footnote_by (as_footnote label (cond x (Some same) (cond y (Some taken) None))) h
    go true y = refl
    go false true = refl
    go false false = refl

-- an open one is taken where it continues, and refused elsewhere
pub footnote-on : (label : List ℕ) (cells : List Cell) (h : Here) → IsRest h.scratch →
    h.flags.asked.width ≡ footnote_width → h.flags.asked.starts_blank ≡ false →
    item_on cells h ≡ footnote_by (footnote_further label cells h.point) h
footnote-on label cells h is e f =
    further-is footnote_width false [] 0 cells h is (omega arith) e f ∙ further-by label cells h
