-- A pipe in a row, whatever its cells hold: it ends a cell and begins the next, or ends the last.
use Rattle.std.proofs.Common.{◌≡◌, ℕ, Bool, true, false, cond, List, [], ◌∷◌, ◌++◌, refl, sym, ◌∙◌, ap}
use Rattle.md_engine.specs.declared.event.Event.{Event}
use Rattle.md_engine.specs.declared.event.Name.TheVariants as n
use Rattle.md_engine.specs.declared.event.Point.{Point}
use Rattle.md_meaning.specs.Rest.{is_blank}
use Rattle.md_events.specs.Events.Nested.{enter, exit}
use Rattle.md_events.specs.Events.Places.{past_byte}
use Rattle.md_tables.specs.Cells.{cell_name, celled, divider_step, has_white, is_white, row_ends}
use Rattle.md_tables.specs.RowCells.{Cells, Divides, Shut, after_pipe, cell_by, white_part}
use Rattle.md_tables.specs.declared.cells.RowKind.{RowKind}
use Rattle.md_tables.specs.declared.cells.Stage.TheVariants.{Following, Within}
use Rattle.md_tables.proofs.RowCellLemmas.{following_first, cells-begin, left_of}

-- the runs that it begins
abbrev pub pipe_runs : List Event → Point → List Event
pipe_runs rest p = enter n.GfmTableCellDivider p ∷ exit n.GfmTableCellDivider (past_byte 124 p) ∷ rest

-- what begins with no whitespace is none
pub dark-looks : (e : Event) (es : List Event) → is_white e.name ≡ false → has_white (e ∷ es) ≡ false
dark-looks e [] h = refl
dark-looks e (f ∷ es) h = rw h refl

-- after the last pipe whitespace passes
pub white-following : (w : List ℕ) (p : Point) (end : List Event) → celled Following end ≡ end →
    celled Following (white_part w p ++ end) ≡ white_part w p ++ end
unfolding celled
white-following [] p end h = h
white-following (b ∷ w) p end h = ap (λ (es : List Event). white_part (b ∷ w) p ++ es) h

pub pipe-walk : (k : RowKind) (part : List ℕ → Point → List Event) (bs : List ℕ) (cells : Cells) (p : Point)
    (rest end : List Event) →
    row_ends rest ≡ is_blank bs →
    (is_blank bs ≡ true → celled Following rest ≡ white_part bs (past_byte 124 p) ++ end) →
    celled (Within k) rest ≡ left_of (cell_name k) part (cell_by part) cells (past_byte 124 p) ++ end →
    celled (Within k) (pipe_runs rest p) ≡ following_first (cell_name k) part (after_pipe bs cells) p ++ end
unfolding celled
pipe-walk k part bs cells p rest end last following start = go (is_blank bs) refl
  where
    q : Point
    q = past_byte 124 p

    given : Bool → List Event
    given last =
        (divider_step k (enter n.GfmTableCellDivider p) last).given
        ++ celled (divider_step k (enter n.GfmTableCellDivider p) last).stage (exit n.GfmTableCellDivider q ∷ rest)

    wanted : Bool → List Event
    wanted last = following_first (cell_name k) part (cond last (Shut [] bs) (Divides [] cells)) p ++ end

    go : (x : Bool) → is_blank bs ≡ x → given (row_ends rest) ≡ wanted (is_blank bs)
    go true h =
        ap given (last ∙ h)
        ∙ ap
        (λ (es : List Event).
        enter n.GfmTableCellDivider p ∷ exit n.GfmTableCellDivider q ∷ exit (cell_name k) q ∷ es) (following h)
        ∙ sym (ap wanted h)
    go false h =
        ap given (last ∙ h)
        ∙ ap
        (λ (es : List Event).
        exit (cell_name k) p ∷ enter (cell_name k) p ∷ enter n.GfmTableCellDivider p
        ∷ exit n.GfmTableCellDivider q ∷ es) start
        ∙ sym
        (ap (λ (es : List Event). exit (cell_name k) p ∷ es ++ end) (cells-begin (cell_name k) part true cells p))
        ∙ sym (ap wanted h)
