-- The prefix of an item that opens: its events are those of its cells.
use Rattle.std.proofs.Common.{◌≡◌, ℕ, ◌<◌, ◌≤◌, Bool, false, cond, List, [], ◌∷◌, ◌++◌, length, take, drop, refl, sym}
use Rattle.std.proofs.Common.{ap, ap₂, ◌∙◌, subst, append_assoc, arith}
use Rattle.std.proofs.lemmas.Bool.Decides.{nat_tests}
use Rattle.std.proofs.lemmas.List.{append_cancel_right, length-append}
use Rattle.std.proofs.Math.Seq.{drop-append_seam, take-append_seam}
use Rattle.md_engine.specs.declared.event.Event.{Event}
use Rattle.md_engine.specs.declared.event.Name.TheVariants as n
use Rattle.md_engine.specs.declared.event.Point.{Point}
use Rattle.md_engine.specs.declared.tokenizer.Line.{Line}
use Rattle.md_engine.specs.Meaning.{Cell}
use Rattle.md_containers.specs.ItemPrefix.{ItemPassed}
use Rattle.md_containers.proofs.AlertLines.{bare-spaces}
use Rattle.md_containers.proofs.ItemOpens.{OpensItem, value_events}
use Rattle.md_meaning.specs.Containers.{Taken, item_padding}
use Rattle.md_meaning.specs.Rest.{Rest, after_indent, cut_tab, indent, lose}
use Rattle.md_meaning.specs.State.{InItem}
use Rattle.md_meaning.proofs.TextsLemmas.{NoEnding, no_ending-drop}
use Rattle.md_events.specs.Ahead.{white_end}
use Rattle.md_events.specs.Events.Inline.{pair_unless_empty}
use Rattle.md_events.specs.Events.Nested.{around, enter, exit, pair}
use Rattle.md_events.specs.Events.Places.{past_byte, past_text, same_place}
use Rattle.md_events.proofs.FeedLines.{Stops}
use Rattle.md_events.proofs.InlineLemmas.{past-index, same-refl}
use Rattle.md_events.proofs.RestCells.{indent-length, indent-taken, lose-no_ending, past_rest, rest_cells}
use Rattle.md_events.specs.Exact.Places.{TextLine, past, white}
use Rattle.md_events.specs.Exact.Prefixes.{item_prefix}
use Rattle.proof_exact_pieces.proofs.OnLine.{LineIn, OnLine, indent-on, lose-on, past-on}
use Rattle.proof_exact_pieces.proofs.PieceLemmas.{part-on, piece-on, white-on}

abbrev pub rest : ℕ → List ℕ → Rest
rest column bytes = record { column = column; spaces = 0; bytes = bytes }

-- After the indent of a rest: where that is, and that its bytes are those of the text there.
pub record AfterIndent (text following : List ℕ) (line : TextLine) (r : Rest) (p v : Point) (bytes : List ℕ) : Type 0
  where
    pub on : OnLine text following line (after_indent r) v
    pub indent : white line r (after_indent r) ≡ pair_unless_empty n.SpaceOrTab p v
    pub spaces : (after_indent r).spaces ≡ 0
    pub bytes_are : (after_indent r).bytes ≡ bytes
    pub plain : NoEnding bytes

pub following-indent : (cell_line : Line) (text following : List ℕ) (line : TextLine) (r : Rest) (p v : Point)
    (stop : List Cell) (bytes : List ℕ) →
    LineIn text following line → OnLine text following line r p → NoEnding r.bytes → Stops stop →
    v ≡ white_end (length (rest_cells cell_line r p ++ stop)) (rest_cells cell_line r p ++ stop) p →
    drop v.index text ≡ bytes ++ following → AfterIndent text following line r p v bytes
following-indent cell_line text following line r p v stop bytes is on plain k at text_is = record {
  on = on_v;
  indent = white-on text following line r m p v is on on_v;
  spaces = spaces;
  bytes_are = bytes_are;
  plain = subst NoEnding bytes_are (lose-no_ending (indent r) r plain);
}
  where
    cells : List Cell
    cells = rest_cells cell_line r p ++ stop

    m : Rest
    m = after_indent r

    fits : indent r ≤ length cells
    fits =
        let most = indent-length cell_line text following r p on.valid in
        let all = length-append (rest_cells cell_line r p) stop in
        omega (arith, most, all)

    on_v : OnLine text following line m v
    on_v =
        subst (OnLine text following line m) (sym at)
        (indent-on cell_line text following line (indent r) (length cells) r p stop on k refl fits)

    spaces : m.spaces ≡ 0
    spaces = bare-spaces m (indent-taken cell_line text following (length cells) r p stop on.valid k fits).none

    bytes_are : m.bytes ≡ bytes
    bytes_are =
        append_cancel_right m.bytes bytes following
        (sym (ap (λ (s : ℕ). cut_tab s ++ m.bytes ++ following) spaces) ∙ sym on_v.valid.text_is ∙ text_is)

-- After so many bytes of a rest where no tab is cut.
pub record AfterBytes (text following : List ℕ) (line : TextLine) (r : Rest) (p : Point) (front more : List ℕ) : Type 0
  where
    pub on : OnLine text following line (past (length front) r) (past_text front p)
    pub bytes_are : (past (length front) r).bytes ≡ more
    pub plain : NoEnding more

pub following-bytes : (text following : List ℕ) (line : TextLine) (r : Rest) (p : Point) (front more : List ℕ) →
    OnLine text following line r p → r.spaces ≡ 0 → r.bytes ≡ front ++ more → NoEnding (front ++ more) →
    AfterBytes text following line r p front more
following-bytes text following line r p front more on none are plain = record {
  on =
      subst (λ (bytes : List ℕ). OnLine text following line (past (length front) r) (past_text bytes p))
      (ap (take (length front)) are ∙ take-append_seam front more)
      (past-on text following line (length front) r p on none (subst NoEnding (sym are) plain));
  bytes_are = ap (drop (length front)) are ∙ drop-append_seam front more;
  plain = subst NoEnding (drop-append_seam front more) (no_ending-drop (length front) (front ++ more) plain);
}

-- a piece over some bytes is
pub over-some : (p : Point) (b : ℕ) (bytes : List ℕ) → same_place p (past_text (b ∷ bytes) p) ≡ false
over-some p b bytes =
    let index = past-index (b ∷ bytes) p in
    let further : p.index < (past_text (b ∷ bytes) p).index = omega (arith, index) in grind (arith, nat_tests)

-- What an item has on the line on which it opens.
pub record HasItemOpening (text following : List ℕ) (line : TextLine) (r : Rest) (p : Point) (passed : ItemPassed)
    (t : Taken) : Type 0 where
  pub digits : List ℕ
  pub byte : ℕ
  pub width : ℕ
  pub blank : Bool
  pub container : t.container ≡ InItem digits byte width blank
  pub events : enter n.ListItem p ∷ item_prefix line digits r t.rest ≡ passed.events
  pub on : OnLine text following line t.rest passed.point

regrouped : (a b c d : List Event) → ((a ++ b) ++ c) ++ d ≡ a ++ (b ++ (c ++ d))
regrouped a b c d = append_assoc (a ++ b) c d ∙ append_assoc a b (c ++ d)

-- It has the events of its cells.
pub item-opens : (cell_line : Line) (text following : List ℕ) (line : TextLine) (r : Rest) (p : Point)
    (stop : List Cell)
    (passed : ItemPassed) (t : Taken) →
    LineIn text following line → OnLine text following line r p → NoEnding r.bytes → Stops stop →
    OpensItem cell_line text following p (past_rest r p) stop (rest_cells cell_line r p ++ stop) passed t →
    HasItemOpening text following line r p passed t
item-opens cell_line text following line r p stop passed t is on plain k has = record {
  digits = digits;
  byte = byte;
  width = has.item.0;
  blank = has.item.1;
  container = sym has.leaves.container ∙ has.item.2;
  events =
      ap (λ (es : List Event). enter n.ListItem p ∷ es)
      (ap₂ (λ (xs ys : List Event). xs ++ ys) indented.indent
      (part-on text following line n.ListItemPrefix m t.rest v passed.point _ is indented.on on_end
      ∙ ap (λ (es : List Event). around n.ListItemPrefix v passed.point es)
      (ap₂ (λ (xs ys : List Event). xs ++ ys)
      (ap₂ (λ (xs ys : List Event). xs ++ ys)
      (piece-on text following line n.ListItemValue m marker v at_marker is indented.on valued.on ∙ value digits)
      (piece-on text following line n.ListItemMarker marker after at_marker at_after is valued.on marked.on
      ∙ ap (λ (x : Bool). cond x [] (pair n.ListItemMarker at_marker at_after)) (over-some at_marker byte [])))
      (white-on text following line after t.rest at_after passed.point is marked.on on_end))
      ∙ ap (λ (es : List Event). enter n.ListItemPrefix v ∷ es)
      (regrouped (value_events digits v) (pair n.ListItemMarker at_marker at_after)
      (pair_unless_empty n.SpaceOrTab at_after passed.point) (exit n.ListItemPrefix passed.point ∷ []))))
      ∙ sym has.events;
  on = on_end;
}
  where
    digits : List ℕ
    digits = has.digits

    byte : ℕ
    byte = has.byte

    more : List ℕ
    more = has.line_more

    v : Point
    v = has.value

    m : Rest
    m = after_indent r

    indented : AfterIndent text following line r p v (digits ++ (byte ∷ more))
    indented =
        following-indent cell_line text following line r p v stop (digits ++ (byte ∷ more)) is on plain k has.value_is
        (has.text_is ∙ ap (λ (l : List ℕ). digits ++ (byte ∷ l)) has.more_is
        ∙ sym (append_assoc digits (byte ∷ more) following))

    marker : Rest
    marker = past (length digits) m

    at_marker : Point
    at_marker = past_text digits v

    valued : AfterBytes text following line m v digits (byte ∷ more)
    valued = following-bytes text following line m v digits (byte ∷ more) indented.on indented.spaces indented.bytes_are
        indented.plain

    after : Rest
    after = past 1 marker

    at_after : Point
    at_after = past_byte byte at_marker

    marked : AfterBytes text following line marker at_marker (byte ∷ []) more
    marked =
        following-bytes text following line marker at_marker (byte ∷ []) more valued.on refl
        valued.bytes_are valued.plain

    -- the rest after the marker is the one that is padded
    after_is : after ≡ rest has.padded.column more
    after_is =
        ap₂ (λ (c : ℕ) (l : List ℕ). rest c l)
        (omega (arith, marked.on.valid.column, has.padded.valid.column)) marked.bytes_are

    on_end : OnLine text following line t.rest passed.point
    on_end =
        subst (λ (s : Rest). OnLine text following line s passed.point) (sym has.padded.left_is)
        (subst
        (OnLine text following line (lose (item_padding (rest has.padded.column more)) (rest has.padded.column more)))
        (sym has.padded.end_is)
        (lose-on cell_line text following line (item_padding (rest has.padded.column more))
        (rest has.padded.column more)
        at_after stop (subst (λ (s : Rest). OnLine text following line s at_after) after_is marked.on) k))

    value : (ds : List ℕ) → pair_unless_empty n.ListItemValue v (past_text ds v) ≡ value_events ds v
    value [] = ap (λ (x : Bool). cond x [] (pair n.ListItemValue v v)) (same-refl v)
    value (d ∷ ds) = ap (λ (x : Bool). cond x [] (pair n.ListItemValue v (past_text (d ∷ ds) v))) (over-some v d ds)
