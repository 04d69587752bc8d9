-- A footnote definition is refused, or takes a cell at least; on a further line where that does not end.
use Rattle.std.proofs.Common.{◌≡◌, ℕ, ◌+◌, ◌<◌, ◌≤◌, Bool, true, false, cond, ◌&&◌, nat_eq, List, [], ◌∷◌, ◌++◌, length}
use Rattle.std.proofs.Common.{Option, Some, None, arith}
use Rattle.md_engine.specs.declared.configuration.ParseOptions.{ParseOptions}
use Rattle.md_engine.specs.declared.event.Event.{Event}
use Rattle.md_engine.specs.declared.event.Name.TheVariants.{GfmFootnoteDefinition}
use Rattle.md_engine.specs.declared.event.Point.{Point}
use Rattle.md_engine.specs.Meaning.{Cell, Here}
use Rattle.md_containers.specs.Footnote.{breaks_label, footnote_width}
use Rattle.md_containers.specs.FootnotePrefix.{as_footnote, footnote_after, footnote_ended, footnote_further}
use Rattle.md_containers.specs.FootnotePrefix.{footnote_labelled, footnote_marked, footnote_new}
use Rattle.md_containers.specs.FootnoteRule.{LabelCells, at_bracket, at_caret, at_colon, following_colon}
use Rattle.md_containers.specs.FootnoteRule.{following_prefix, bracket_events, caret_events, footnote_at, in_label}
use Rattle.md_containers.specs.FootnoteRule.{label_by, label_cells, label_ended, may_have, with_cell}
use Rattle.md_containers.specs.ItemPrefix.{ItemPassed, item_further}
use Rattle.md_containers.specs.QuoteRule.{indent_events}
use Rattle.md_containers.proofs.ItemShorter.{IsShorter, further-shorter, shorter-if}
use Rattle.md_containers.proofs.Shorter.{Shortens, cond-shortens}
use Rattle.md_meaning.specs.Ascii.{backslash, caret, colon, left_bracket, right_bracket}
use Rattle.md_meaning.specs.Containers.{is_label_mark}
use Rattle.md_leaves.specs.LeafStart.{start_at}
use Rattle.md_events.specs.Ahead.{begins_white, white_end, white_rest}
use Rattle.md_events.specs.Events.Nested.{enter}
use Rattle.md_events.specs.Look.{first_seen}
use Rattle.md_events.specs.Spaces.{any_size, ends_line, small_indent}
use Rattle.md_events.proofs.RestCells.{white-length}

-- What opens one.

colon-shortens : (n : ℕ) (cells : List Cell) (h : Here) → length cells < n → Shortens n (following_colon cells h)
unfolding following_colon following_prefix
colon-shortens n cells h lt =
    cond-shortens n (begins_white cells) _ _ (omega (arith, lt, white-length any_size cells)) lt

at_colon-shortens : (n : ℕ) (cells : List Cell) (h : Here) → length cells ≤ n → Shortens n (at_colon cells h)
unfolding at_colon
at_colon-shortens n [] h le = tt
at_colon-shortens n (c ∷ cs) h le =
    cond-shortens n (nat_eq c.byte colon) _ _ (colon-shortens n cs _ (omega (arith, le))) tt

-- what is left after a label is shorter
abbrev pub LabelFits : ℕ → Option LabelCells → Type 0
LabelFits n None = Unit {0}
LabelFits n (Some l) = length l.rest < n

fits-if : (n : ℕ) (x : Bool) (a b : Option LabelCells) → LabelFits n a → LabelFits n b → LabelFits n (cond x a b)
fits-if n true a b h k = h
fits-if n false a b h k = k

with-fits : (n m b : ℕ) (o : Option LabelCells) → n ≤ m → LabelFits n o → LabelFits m (with_cell b o)
with-fits n m b None le lt = tt
with-fits n m b (Some l) le lt = omega (arith, le, lt)

pub label-fits : (escaped : Bool) (cells : List Cell) (p : Point) →
    LabelFits (length cells) (label_cells escaped cells p)
label-fits escaped [] p = tt
label-fits escaped (c ∷ cs) p =
    fits-if _ (escaped && is_label_mark c.byte) _ _
    (with-fits (length cs) _ c.byte (label_cells false cs c.after) (omega arith) (label-fits false cs c.after))
    (fits-if _ (nat_eq c.byte right_bracket) _ _ (omega arith)
    (fits-if _ (breaks_label c.byte) _ _ tt
    (with-fits (length cs) _ c.byte (label_cells (nat_eq c.byte backslash) cs c.after) (omega arith)
    (label-fits (nat_eq c.byte backslash) cs c.after))))

label-shortens : (n : ℕ) (escaped : Bool) (cells : List Cell) (h : Here) → length cells ≤ n →
    Shortens n (in_label escaped cells h)
unfolding in_label
label-shortens n escaped cells h le =
    go (label_cells escaped cells h.point) (label-fits escaped cells h.point)
  where
    go : (o : Option LabelCells) → LabelFits (length cells) o → Shortens n (label_by o h)
    go None lt = tt
    go (Some l) lt =
        cond-shortens n (may_have (h.scratch.size + length l.label)) _ _
        (at_colon-shortens n l.rest _ (omega (arith, lt, le))) tt

at_caret-shortens : (n : ℕ) (cells : List Cell) (h : Here) → length cells ≤ n → Shortens n (at_caret cells h)
unfolding at_caret
at_caret-shortens n [] h le = tt
at_caret-shortens n (c ∷ cs) h le =
    cond-shortens n (nat_eq c.byte caret) _ _ (label-shortens n false cs _ (omega (arith, le))) tt

at_bracket-shortens : (n : ℕ) (cells : List Cell) (h : Here) → length cells ≤ n → Shortens n (at_bracket cells h)
unfolding at_bracket
at_bracket-shortens n [] h le = tt
at_bracket-shortens n (c ∷ cs) h le =
    cond-shortens n (nat_eq c.byte left_bracket) _ _ (at_caret-shortens n cs _ (omega (arith, le))) tt

pub footnote-shortens : (options : ParseOptions) (cells : List Cell) (h : Here) →
    Shortens (length cells) (footnote_at options cells h)
unfolding start_at
footnote-shortens options cells h =
    cond-shortens _ options.constructs.gfm_footnote_definition _ _
    (cond-shortens _ (begins_white cells) _ _
    (at_bracket-shortens _ (white_rest (small_indent options) cells) _ (white-length (small_indent options) cells))
    (at_bracket-shortens _ cells _ (omega arith)))
    tt

-- The same by the cells of a line: what is left is shorter.

ended-shorter : (n : ℕ) (label : List ℕ) (front : List Event) (cells : List Cell) (p : Point) → length cells ≤ n →
    IsShorter n (footnote_ended label front cells p)
ended-shorter n label front [] p le = tt
ended-shorter n label front (c ∷ cs) p le =
    shorter-if n (nat_eq c.byte colon) _ _ (omega (arith, le, white-length any_size cs)) tt

labelled-shorter : (n m : ℕ) (front : List Event) (o : Option LabelCells) → m ≤ n → LabelFits m o →
    IsShorter n (footnote_labelled front o)
labelled-shorter n m front None le lt = tt
labelled-shorter n m front (Some l) le lt =
    shorter-if n (may_have (length l.label)) _ _
    (ended-shorter n l.label (front ++ label_ended l.end l.closer.after) l.rest l.closer.after (omega (arith, le, lt)))
    tt

marked-shorter : (n : ℕ) (front : List Event) (cells : List Cell) (p : Point) → length cells ≤ n →
    IsShorter n (footnote_marked front cells p)
marked-shorter n front [] p le = tt
marked-shorter n front (c ∷ cs) p le =
    shorter-if n (nat_eq c.byte caret) _ _
    (labelled-shorter n (length cs) (front ++ caret_events p c.after) (label_cells false cs c.after) (omega (arith, le))
    (label-fits false cs c.after)) tt

following-shorter : (n : ℕ) (front : List Event) (cells : List Cell) (p : Point) → length cells ≤ n →
    IsShorter n (footnote_after front cells p)
following-shorter n front [] p le = tt
following-shorter n front (c ∷ cs) p le =
    shorter-if n (nat_eq c.byte left_bracket) _ _
    (marked-shorter n (front ++ bracket_events p c.after) cs c.after (omega (arith, le))) tt

-- one that opens
pub footnote-shorter : (options : ParseOptions) (cells : List Cell) (p : Point) →
    IsShorter (length cells) (footnote_new options cells p)
footnote-shorter options cells p =
    shorter-if _ options.constructs.gfm_footnote_definition _ _
    (following-shorter _ (enter GfmFootnoteDefinition p ∷ indent_events options cells p)
    (white_rest (small_indent options) cells) (white_end (small_indent options) cells p)
    (white-length (small_indent options) cells))
    tt

as-shorter : (n : ℕ) (label : List ℕ) (o : Option ItemPassed) → IsShorter n o → IsShorter n (as_footnote label o)
as-shorter n label None lt = tt
as-shorter n label (Some t) lt = lt

-- and one that continues, where the line does
pub footnote-further_shorter : (label : List ℕ) (cells : List Cell) (p : Point) → ends_line (first_seen cells) ≡ false →
    IsShorter (length cells) (footnote_further label cells p)
footnote-further_shorter label cells p e =
    as-shorter _ label (item_further [] 0 footnote_width false cells p)
    (further-shorter [] 0 footnote_width false cells p (omega arith) e)
