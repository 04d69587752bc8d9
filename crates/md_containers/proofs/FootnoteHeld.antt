-- What is held of a footnote definition; where none opens, and what one takes where the line ends.
use Rattle.std.proofs.Common.{◌≡◌, ℕ, ◌≤◌, Bool, true, false, cond, nat_eq, List, [], ◌∷◌, ◌++◌, length, Option, Some}
use Rattle.std.proofs.Common.{None, ap, refl, ◌∙◌, arith}
use Rattle.std.specs.Prelude.{nat_le}
use Rattle.std.proofs.lemmas.Bool.{eqb-true}
use Rattle.std.proofs.lemmas.Bool.Decides.{nat_tests}
use Rattle.md_engine.specs.declared.configuration.ParseOptions.{ParseOptions}
use Rattle.md_engine.specs.declared.event.Event.{Event}
use Rattle.md_engine.specs.declared.event.Name.TheVariants.{GfmFootnoteDefinition}
use Rattle.md_engine.specs.declared.event.Point.{Point}
use Rattle.md_engine.specs.Meaning.{Cell, Here, Refuses}
use Rattle.md_containers.specs.Footnote.{footnote_width, may_begin}
use Rattle.md_containers.specs.FootnotePrefix.{as_footnote, footnote_after, footnote_ended, footnote_further}
use Rattle.md_containers.specs.FootnotePrefix.{footnote_labelled, footnote_marked, footnote_new}
use Rattle.md_containers.specs.FootnoteRule.{LabelCells, at_bracket, bracket_events, caret_events, footnote_at}
use Rattle.md_containers.specs.FootnoteRule.{label_cells, label_ended, may_have}
use Rattle.md_containers.specs.ItemPrefix.{ItemPassed, item_further, item_indented, item_same}
use Rattle.md_containers.specs.QuoteRule.{indent_events}
use Rattle.md_containers.proofs.StartLooked.{start-looked}
use Rattle.md_meaning.specs.Ascii.{caret, colon, left_bracket}
use Rattle.md_meaning.specs.Containers.{Taken, footnote_continues}
use Rattle.md_meaning.specs.Preamble.{rest_at}
use Rattle.md_meaning.specs.Rest.{is_blank, is_white}
use Rattle.md_meaning.specs.State.{InFootnote}
use Rattle.md_events.specs.Ahead.{line_bytes, white_end, white_rest, white_size}
use Rattle.md_events.specs.Events.Nested.{enter}
use Rattle.md_events.specs.Look.{first_seen, seen_after}
use Rattle.md_events.specs.Spaces.{IsRest, ends_line, small_indent}
use Rattle.md_events.proofs.AheadLemmas.{none-rest}
use Rattle.md_events.proofs.LostColumns.{lose-bare}
use Rattle.md_events.proofs.RestCells.{white-length}

-- What opens or continues is a footnote definition.

abbrev pub IsFootnote : Option ItemPassed → Type 0
IsFootnote None = Unit {0}
IsFootnote (Some t) = (label : List ℕ) × (t.container ≡ InFootnote label)

footnote-if : (x : Bool) (a b : Option ItemPassed) → IsFootnote a → IsFootnote b → IsFootnote (cond x a b)
footnote-if true a b h k = h
footnote-if false a b h k = k

ended-footnote : (label : List ℕ) (front : List Event) (cells : List Cell) (p : Point) →
    IsFootnote (footnote_ended label front cells p)
ended-footnote label front [] p = tt
ended-footnote label front (c ∷ cs) p = footnote-if (nat_eq c.byte colon) _ _ (label, refl) tt

labelled-footnote : (front : List Event) (o : Option LabelCells) → IsFootnote (footnote_labelled front o)
labelled-footnote front None = tt
labelled-footnote front (Some l) =
    footnote-if (may_have (length l.label)) _ _
    (ended-footnote l.label (front ++ label_ended l.end l.closer.after) l.rest l.closer.after) tt

marked-footnote : (front : List Event) (cells : List Cell) (p : Point) → IsFootnote (footnote_marked front cells p)
marked-footnote front [] p = tt
marked-footnote front (c ∷ cs) p =
    footnote-if (nat_eq c.byte caret) _ _
    (labelled-footnote (front ++ caret_events p c.after) (label_cells false cs c.after)) tt

following-footnote : (front : List Event) (cells : List Cell) (p : Point) → IsFootnote (footnote_after front cells p)
following-footnote front [] p = tt
following-footnote front (c ∷ cs) p =
    footnote-if (nat_eq c.byte left_bracket) _ _ (marked-footnote (front ++ bracket_events p c.after) cs c.after) tt

pub new-footnote : (options : ParseOptions) (cells : List Cell) (p : Point) → IsFootnote (footnote_new options cells p)
new-footnote options cells p =
    footnote-if options.constructs.gfm_footnote_definition _ _
    (following-footnote (enter GfmFootnoteDefinition p ∷ indent_events options cells p)
    (white_rest (small_indent options) cells) (white_end (small_indent options) cells p))
    tt

-- the same one continues
abbrev pub IsSame : List ℕ → Option ItemPassed → Type 0
IsSame label None = Unit {0}
IsSame label (Some t) = t.container ≡ InFootnote label

pub further-footnote : (label : List ℕ) (cells : List Cell) (p : Point) → IsSame label (footnote_further label cells p)
further-footnote label cells p = go (item_further [] 0 footnote_width false cells p)
  where
    go : (o : Option ItemPassed) → IsSame label (as_footnote label o)
    go None = tt
    go (Some t) = refl

-- no more is left than there was
abbrev pub IsWithin : ℕ → Option ItemPassed → Type 0
IsWithin n None = Unit {0}
IsWithin n (Some t) = length t.cells ≤ n

pub further-within : (label : List ℕ) (cells : List Cell) (p : Point) →
    IsWithin (length cells) (footnote_further label cells p)
further-within label cells p =
    go (ends_line (first_seen cells))
    (cond (is_blank (line_bytes cells)) true (nat_le footnote_width (white_size footnote_width cells)))
  where
    go : (x y : Bool) →
        IsWithin (length cells)
        (as_footnote label
        (cond x (Some (item_same [] 0 footnote_width cells p))
        (cond y (Some (item_indented [] 0 footnote_width cells p)) None)))
    go true y = omega arith
    go false true = white-length footnote_width cells
    go false false = tt

-- Where another byte than `[` is first after whitespace, none opens, and all is left as it was.

dark-refused : (cells : List Cell) (h : Here) (b : ℕ) → first_seen cells ≡ Some b → may_begin b ≡ false →
    at_bracket cells h ≡ Refuses h.scratch h.flags
unfolding at_bracket
dark-refused [] h b e f = refl
dark-refused (c ∷ cs) h b e f =
    let same : c.byte ≡ b = cc in
    let other : nat_eq c.byte left_bracket ≡ false = ap may_begin same ∙ f in
    rw other refl

white-dark : (c : ℕ) → is_white c ≡ true → may_begin c ≡ false
white-dark c white = grind (arith, nat_tests)

pub footnote-looked : (options : ParseOptions) (cells : List Cell) (h : Here) (b : ℕ) → IsRest h.scratch →
    seen_after cells ≡ Some b → may_begin b ≡ false → footnote_at options cells h ≡ Refuses h.scratch h.flags
footnote-looked options cells h b is seen e =
    start-looked GfmFootnoteDefinition options.constructs.gfm_footnote_definition at_bracket may_begin options cells h b
    dark-refused white-dark is seen e

-- Where the line ends none opens,

ended-following : (front : List Event) (room : ℕ) (cells : List Cell) (p : Point) →
    ends_line (first_seen cells) ≡ true → footnote_after front (white_rest room cells) p ≡ None
ended-following front room [] p ends = refl
ended-following front room (c ∷ cs) p ends =
    let ten : c.byte ≡ 10 = eqb-true c.byte 10 ends in
    let other : nat_eq c.byte left_bracket ≡ false = ap (λ (b : ℕ). nat_eq b left_bracket) ten in
    ap (λ (l : List Cell). footnote_after front l p) (none-rest room (c ∷ cs) (ap is_white ten)) ∙ rw other refl

pub footnote-ended : (options : ParseOptions) (cells : List Cell) (p : Point) → ends_line (first_seen cells) ≡ true →
    footnote_new options cells p ≡ None
footnote-ended options cells p ends = go options.constructs.gfm_footnote_definition
  where
    q : Point
    q = white_end (small_indent options) cells p

    front : List Event
    front = enter GfmFootnoteDefinition p ∷ indent_events options cells p

    go : (x : Bool) → cond x (footnote_after front (white_rest (small_indent options) cells) q) None ≡ None
    go true = ended-following front (small_indent options) cells q ends
    go false = refl

-- and an open one continues, and takes nothing.
pub footnote-over : (label : List ℕ) (cells : List Cell) (p : Point) → ends_line (first_seen cells) ≡ true →
    footnote_further label cells p ≡
    Some (record { container = InFootnote label; events = []; cells = cells; point = p })
footnote-over label cells p ends =
    ap
    (λ (x : Bool).
    as_footnote label
    (cond x (Some (item_same [] 0 footnote_width cells p))
    (cond (cond (is_blank (line_bytes cells)) true (nat_le footnote_width (white_size footnote_width cells)))
    (Some (item_indented [] 0 footnote_width cells p)) None)))
    ends

-- So it does by the line definition, on an empty line.
pub footnote-empty : (label : List ℕ) (column : ℕ) →
    footnote_continues label (rest_at column []) ≡
    Some (record { container = InFootnote label; rest = rest_at column [] })
unfolding footnote_continues
footnote-empty label column =
    ap (λ r. let t : Taken = record { container = InFootnote label; rest = r } in Some t)
    (lose-bare footnote_width (rest_at column []) refl)
