-- The prefix of a quote: its events are those of its cells.
use Rattle.std.proofs.Common.{◌≡◌, ℕ, zero, suc, ◌^◌, ◌<◌, ◌≤◌, Bool, true, false, cond, ◌&&◌, List, [], ◌∷◌, ◌++◌}
use Rattle.std.proofs.Common.{length, refl, sym, ap, ap₂, ◌∙◌, subst, append-nil, append_assoc, arith}
use Rattle.std.specs.Prelude.{Option, Some, None, ◌==◌}
use Rattle.std.proofs.lemmas.Bool.{eqb-true}
use Rattle.std.proofs.lemmas.Bool.Decides.{nat_tests}
use Rattle.std.proofs.lemmas.List.{length-append}
use Rattle.md_engine.specs.declared.configuration.ParseOptions.{ParseOptions}
use Rattle.md_engine.specs.declared.event.Event.{Event}
use Rattle.md_engine.specs.declared.event.Name.TheVariants as n
use Rattle.md_engine.specs.declared.event.Point.{Point}
use Rattle.md_engine.specs.declared.tokenizer.Line.{Line}
use Rattle.md_engine.specs.Meaning.{Cell}
use Rattle.md_containers.specs.QuoteRule.{after_end, after_events, front_events, marker_end, marker_events}
use Rattle.md_containers.specs.QuoteRule.{prefix_end, prefix_events}
use Rattle.md_containers.proofs.QuoteLines.{HasWhite, white-walk}
use Rattle.md_meaning.specs.declared.alert.AlertKind.{AlertKind}
use Rattle.md_meaning.specs.Containers.{Taken, quote_taken}
use Rattle.md_meaning.specs.Lines.{begins_with}
use Rattle.md_meaning.specs.Rest as rests
use Rattle.md_meaning.specs.Rest.{Rest, after_indent, has_small_indent, indent, is_white, lose}
use Rattle.md_meaning.specs.State.{InQuote}
use Rattle.md_meaning.proofs.TextsLemmas.{NoEnding}
use Rattle.md_events.specs.Ahead.{begins_white, white_end, white_rest}
use Rattle.md_events.specs.Events.Inline.{pair_unless_empty}
use Rattle.md_events.specs.Events.Nested.{around, enter, exit, pair}
use Rattle.md_events.specs.Events.Places.{past_byte, same_place}
use Rattle.md_events.specs.Spaces.{small_indent}
use Rattle.md_events.proofs.FeedLines.{Stops, cell}
use Rattle.md_events.proofs.InlineLemmas.{same-refl}
use Rattle.md_events.proofs.LostColumns.{column-step}
use Rattle.md_events.proofs.RestCells.{Bare, HasIndent, RestAt, bare, bare-cells, column-first, indent-length}
use Rattle.md_events.proofs.RestCells.{indent-taken, lose-no_ending, rest_cells, without_first}
use Rattle.md_events.proofs.RestLines.{small-room}
use Rattle.md_events.specs.Exact.Places.{TextLine, past, piece, white}
use Rattle.md_events.specs.Exact.Prefixes.{quote_prefix}
use Rattle.proof_exact_pieces.proofs.OnLine.{LineIn, OnLine, indent-on, lose-on, past-on}
use Rattle.proof_exact_pieces.proofs.PieceLemmas.{part-on, piece-on, white-on}

abbrev rest : ℕ → ℕ → List ℕ → Rest
rest column spaces bytes = record { column = column; spaces = spaces; bytes = bytes }

-- One column of whitespace, if there is one.
record OneColumn (cells : List Cell) (p : Point) : Type 0 where
  events : after_events cells p ≡ pair_unless_empty n.SpaceOrTab p (after_end cells p)
  end : after_end cells p ≡ white_end 1 cells p

one-column : (cell_line : Line) (text following : List ℕ) (r : Rest) (p : Point) (stop : List Cell) →
    RestAt text following r p → Stops stop → OneColumn (rest_cells cell_line r p ++ stop) p
one-column cell_line text following r p stop at k = go (indent r) refl
  where
    cells : List Cell
    cells = rest_cells cell_line r p ++ stop

    none : (l : List Cell) → begins_white l ≡ false → OneColumn l p
    none [] e = record { events = sym (ap (λ (t : Bool). cond t [] (pair n.SpaceOrTab p p)) (same-refl p)); end = refl }
    none (c ∷ cs) e =
        let end : cond (is_white c.byte) c.after p ≡ p = ap (λ (t : Bool). cond t c.after p) e in
        record {
          events =
              ap (λ (t : Bool). cond t (pair n.SpaceOrTab p c.after) []) e
              ∙ sym (ap (λ (t : Bool). cond t [] (pair n.SpaceOrTab p p)) (same-refl p))
              ∙ ap (pair_unless_empty n.SpaceOrTab p) (sym end);
          end = end ∙ sym (ap (λ (t : Bool). cond t (white_end 0 cs c.after) p) e);
        }

    zero-end : (l : List Cell) (q : Point) → white_end 0 l q ≡ q
    zero-end [] q = refl
    zero-end (c ∷ cs) q = refl

    go : (m : ℕ) → indent r ≡ m → OneColumn cells p
    go zero e = none cells (bare-cells cell_line r p stop e k)
    go (suc m) e =
        let lt : 0 < indent r = omega (arith, e) in
        let first = column-first cell_line text following r p at lt in
        let step = column-step cell_line text following r p at lt first in
        let left : List Cell = rest_cells cell_line (without_first r) first.at ++ stop in
        let same : cells ≡ cell first.byte first.at cell_line ∷ left = ap (λ (l : List Cell). l ++ stop) first.cells in
        let end : after_end cells p ≡ first.at = ap (λ (l : List Cell). after_end l p) same
        ∙ ap (λ (t : Bool). cond t first.at p) first.white in
        record {
          events =
              ap (λ (l : List Cell). after_events l p) same
              ∙ ap (λ (t : Bool). cond t (pair n.SpaceOrTab p first.at) []) first.white
              ∙ sym (ap (λ (t : Bool). cond t [] (pair n.SpaceOrTab p first.at)) step.apart)
              ∙ ap (pair_unless_empty n.SpaceOrTab p) (sym end);
          end =
              end
              ∙ sym
              (ap (λ (l : List Cell). white_end 1 l p) same
              ∙ ap (λ (t : Bool). cond t (white_end 0 left first.at) p) first.white
              ∙ zero-end left first.at);
        }

-- Where the `>` is the next byte.

-- what is of a prefix there, up to its end
record FromMarker (text following : List ℕ) (line : TextLine) (m : Rest) (cells : List Cell) (p : Point) : Type 0 where
  marker : piece line n.BlockQuoteMarker m (past 1 m) ++ white line (past 1 m) (lose 1 (past 1 m)) ≡
      pair n.BlockQuoteMarker p (past_byte 62 p) ++ pair_unless_empty n.SpaceOrTab (past_byte 62 p) (marker_end cells p)
  events : marker_events cells p ≡
      enter n.BlockQuotePrefix p
      ∷ pair n.BlockQuoteMarker p (past_byte 62 p)
      ++ pair_unless_empty n.SpaceOrTab (past_byte 62 p) (marker_end cells p)
  left : OnLine text following line (lose 1 (past 1 m)) (marker_end cells p)

from-marker : (cell_line : Line) (text following : List ℕ) (line : TextLine) (column : ℕ) (bytes : List ℕ) (p : Point)
    (stop : List Cell) →
    let m = rest column 0 (62 ∷ bytes) in
    LineIn text following line → OnLine text following line m p → NoEnding bytes → Stops stop →
    FromMarker text following line m (rest_cells cell_line m p ++ stop) p
from-marker cell_line text following line column bytes p stop is on plain k = record {
  marker = ap₂ (λ (xs ys : List Event). xs ++ ys)
      (piece-on text following line n.BlockQuoteMarker m after p q is on on_after
      ∙ ap (λ (t : Bool). cond t [] (pair n.BlockQuoteMarker p q)) apart)
      (white-on text following line after (lose 1 after) q end is on_after left);
  events = ap (λ (es : List Event). enter n.BlockQuotePrefix p ∷ pair n.BlockQuoteMarker p q ++ es) one.events;
  left = left;
}
  where
    m : Rest
    m = rest column 0 (62 ∷ bytes)

    after : Rest
    after = past 1 m

    q : Point
    q = past_byte 62 p

    cells : List Cell
    cells = rest_cells cell_line after q ++ stop

    end : Point
    end = after_end cells q

    on_after : OnLine text following line after q
    on_after = past-on text following line 1 m p on refl (refl, plain)

    one : OneColumn cells q
    one = one-column cell_line text following after q stop on_after.valid k

    left : OnLine text following line (lose 1 after) end
    left =
        subst (OnLine text following line (lose 1 after)) (sym one.end)
        (lose-on cell_line text following line 1 after q stop on_after k)

    apart : same_place p q ≡ false
    apart = grind (arith, nat_tests)

-- The whole prefix.

-- what the prefix of a quote has up to its end, and where it ends
pub record HasFront (options : ParseOptions) (text following : List ℕ) (line : TextLine) (r : Rest) (cells : List Cell)
    (p : Point) (t : Taken) : Type 0 where
  pub marker : Point
  pub indent : white line r (after_indent r) ≡ pair_unless_empty n.SpaceOrTab p marker
  pub on_marker : OnLine text following line (after_indent r) marker
  pub inside : piece line n.BlockQuoteMarker (after_indent r) (past 1 (after_indent r))
      ++ white line (past 1 (after_indent r)) (lose 1 (past 1 (after_indent r))) ≡
      pair n.BlockQuoteMarker marker (past_byte 62 marker)
      ++ pair_unless_empty n.SpaceOrTab (past_byte 62 marker) (prefix_end options cells p)
  pub events : front_events options cells p ≡
      pair_unless_empty n.SpaceOrTab p marker
      ++ (enter n.BlockQuotePrefix marker
      ∷ (pair n.BlockQuoteMarker marker (past_byte 62 marker)
      ++ pair_unless_empty n.SpaceOrTab (past_byte 62 marker) (prefix_end options cells p)))
  pub rest_is : lose 1 (past 1 (after_indent r)) ≡ t.rest
  pub on_left : OnLine text following line t.rest (prefix_end options cells p)

pub has-front : (options : ParseOptions) (kind : Option AlertKind) (cell_line : Line) (text following : List ℕ)
    (line : TextLine) (r : Rest) (p : Point) (stop : List Cell) (t : Taken) →
    LineIn text following line → OnLine text following line r p → NoEnding r.bytes → Stops stop →
    length (rest_cells cell_line r p ++ stop) < 2 ^ 63 → quote_taken options kind r ≡ Some t →
    HasFront options text following line r (rest_cells cell_line r p ++ stop) p t
unfolding quote_taken
has-front options kind cell_line text following line r p stop t is on plain k short taken =
    go (has_small_indent options r) refl taken
  where
    room : ℕ
    room = small_indent options

    cells : List Cell
    cells = rest_cells cell_line r p ++ stop

    m : Rest
    m = after_indent r

    marker : Point
    marker = white_end room cells p

    Goal : Type 0
    Goal = HasFront options text following line r cells p t

    made : Option Taken
    made = Some (record { container = InQuote kind; rest = lose 1 (rests.following 1 m) })

    -- a small indent fits
    fits : has_small_indent options r ≡ true → indent r ≤ room
    fits e =
        let size = length-append (rest_cells cell_line r p) stop in
        small-room options r (length cells) e
        (let most = indent-length cell_line text following r p on.valid in omega arith) short

    -- where the next byte is `>`
    done : indent r ≤ room → (bytes : List ℕ) → m ≡ rest m.column 0 (62 ∷ bytes) → made ≡ Some t → Goal
    done le bytes same f = record {
      marker = marker;
      indent = white-on text following line r m p marker is on on_marker;
      on_marker = on_marker;
      inside = from.marker;
      events = ap₂ (λ (xs ys : List Event). xs ++ ys) walked.events from.events;
      rest_is = rest_is;
      on_left = subst (λ (s : Rest). OnLine text following line s (prefix_end options cells p)) rest_is from.left;
    }
      where
        taken_is : HasIndent cell_line text following room r p stop m
        taken_is = indent-taken cell_line text following room r p stop on.valid k le

        walked : HasWhite text cells p marker
        walked = white-walk cell_line text following (indent r) room r p stop on.valid k refl le

        on_marker : OnLine text following line m marker
        on_marker = indent-on cell_line text following line (indent r) room r p stop on k refl le

        bare_bytes : NoEnding bytes
        bare_bytes = (subst (λ (s : Rest). NoEnding s.bytes) same (lose-no_ending (indent r) r plain)).1

        from : FromMarker text following line m (white_rest room cells) marker
        from =
            subst (λ (l : List Cell). FromMarker text following line m l marker) (sym taken_is.cells)
            (subst (λ (s : Rest). FromMarker text following line s (rest_cells cell_line s marker ++ stop) marker)
            (sym same)
            (from-marker cell_line text following line m.column bytes marker stop is
            (subst (λ (s : Rest). OnLine text following line s marker) same on_marker) bare_bytes k))

        further : past 1 (rest m.column 0 (62 ∷ bytes)) ≡ rests.following 1 (rest m.column 0 (62 ∷ bytes))
        further = ap (λ (c : ℕ). rest c 0 bytes) (omega arith)

        rest_is : lose 1 (past 1 m) ≡ t.rest
        rest_is =
            ap (lose 1) (subst (λ (s : Rest). past 1 s ≡ rests.following 1 s) (sym same) further)
            ∙ ap (rest_of (rests.following 1 m)) f
          where
            rest_of : Rest → Option Taken → Rest
            rest_of other None = other
            rest_of other (Some u) = u.rest

    go : (x : Bool) → has_small_indent options r ≡ x →
        cond (x && begins_with 62 m.bytes) made None ≡ Some t → Goal
    go false e f = absurd (cc)
    go true e f =
        at m.spaces m.bytes refl
        (bare m (indent-taken cell_line text following room r p stop on.valid k (fits e)).none) f
      where
        at : (spaces : ℕ) (bytes : List ℕ) → m ≡ rest m.column spaces bytes → Bare spaces bytes →
            cond (begins_with 62 bytes) made None ≡ Some t → Goal
        at (suc size) bytes same bare_is g = absurd bare_is
        at zero [] same bare_is g = absurd (cc)
        at zero (b ∷ bytes) same bare_is g = marked (b == 62) refl g
          where
            marked : (x : Bool) → (b == 62) ≡ x → cond x made None ≡ Some t → Goal
            marked false h g = absurd (cc)
            marked true h g =
                done (fits e) bytes (same ∙ ap (λ (c : ℕ). rest m.column 0 (c ∷ bytes)) (eqb-true b 62 h)) g

-- A quote continues with the events of its prefix.
pub quote-same : (options : ParseOptions) (kind : Option AlertKind) (cell_line : Line) (text following : List ℕ)
    (line : TextLine) (r : Rest) (p : Point) (stop : List Cell) (t : Taken) →
    LineIn text following line → OnLine text following line r p → NoEnding r.bytes → Stops stop →
    length (rest_cells cell_line r p ++ stop) < 2 ^ 63 → quote_taken options kind r ≡ Some t →
    quote_prefix line None r t.rest ≡ prefix_events options (rest_cells cell_line r p ++ stop) p
quote-same options kind cell_line text following line r p stop t is on plain k short taken =
    ap₂ (λ (xs ys : List Event). xs ++ ys) has.indent
    (part-on text following line n.BlockQuotePrefix m t.rest has.marker end _ is has.on_marker has.on_left
    ∙ ap (λ (es : List Event). around n.BlockQuotePrefix has.marker end es) (append-nil _ ∙ has.inside))
    ∙ sym (append_assoc (pair_unless_empty n.SpaceOrTab p has.marker) inner (exit n.BlockQuotePrefix end ∷ []))
    ∙ ap (λ (es : List Event). es ++ exit n.BlockQuotePrefix end ∷ []) (sym has.events)
  where
    cells : List Cell
    cells = rest_cells cell_line r p ++ stop

    m : Rest
    m = after_indent r

    end : Point
    end = prefix_end options cells p

    has : HasFront options text following line r cells p t
    has = has-front options kind cell_line text following line r p stop t is on plain k short taken

    inner : List Event
    inner =
        enter n.BlockQuotePrefix has.marker
        ∷ (pair n.BlockQuoteMarker has.marker (past_byte 62 has.marker)
        ++ pair_unless_empty n.SpaceOrTab (past_byte 62 has.marker) end)
