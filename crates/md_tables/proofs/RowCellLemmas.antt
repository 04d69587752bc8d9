-- The cells of a row byte by byte: what is left of one after a byte of it, and what follows its last byte.
use Rattle.std.proofs.Common.{◌≡◌, ℕ, Bool, true, false, cond, nat_eq, List, [], ◌∷◌, ◌++◌, refl, sym, ◌∙◌, ap, ap₂}
use Rattle.std.proofs.Common.{append_assoc}
use Rattle.md_engine.specs.declared.event.Event.{Event}
use Rattle.md_engine.specs.declared.event.Name.{Name}
use Rattle.md_engine.specs.declared.event.Name.TheVariants as n
use Rattle.md_engine.specs.declared.event.Point.{Point}
use Rattle.md_meaning.specs.Rest.{is_blank, is_white, trim, trim_end, trim_start}
use Rattle.md_events.specs.Events.Nested.{enter, enter_link, exit}
use Rattle.md_events.specs.Events.Places.{past_byte, past_text}
use Rattle.md_events.proofs.RestLines.{trim-white}
use Rattle.md_tables.specs.Row.{text_link}
use Rattle.md_tables.specs.RowCells.{Cells, Divides, Ends, Shut, after_pipe, cell_by, cell_inside, cells_by, cells_of}
use Rattle.md_tables.specs.RowCells.{first_pipe}
use Rattle.md_tables.specs.RowCells.{onto, past_pipe, pipe_part, text_part, unread_text}
use Rattle.md_tables.specs.RowCells.{white_back, white_front, white_part}
use Rattle.md_tables.proofs.WhiteEnds.{blank-first, dark-first, end-blank, end-more, front-none, front-one, start-none}
use Rattle.md_leaves.proofs.BreakLemmas.{white-apart}

-- The bytes of a cell.

-- what is left of the whitespace before what it holds, and after that
abbrev pub white_left : (List ℕ → Point → List Event) → List ℕ → Point → List Event
white_left part x p =
    let q = past_text (white_front x) p in
    exit n.SpaceOrTab q ∷ part (trim x) q ++ white_part (white_back (trim_start x)) (past_text (trim x) q)

-- with whitespace in front
pub white-first : (part : List ℕ → Point → List Event) (b : ℕ) (x : List ℕ) (p : Point) → is_white b ≡ true →
    cell_by part (b ∷ x) p ≡ enter n.SpaceOrTab p ∷ white_left part x (past_byte b p)
white-first part b x p e = ap₂ (λ (w t : List ℕ). by w t) (front-one b x e) (trim-white b x e)
  where
    by : List ℕ → List ℕ → List Event
    by w t =
        white_part w p
        ++ (part (trim_end t) (past_text w p) ++ white_part (white_back t) (past_text (trim_end t) (past_text w p)))

pub white-more : (part : List ℕ → Point → List Event) (b : ℕ) (x : List ℕ) (p : Point) → is_white b ≡ true →
    white_left part (b ∷ x) p ≡ white_left part x (past_byte b p)
white-more part b x p e = ap₂ (λ (w t : List ℕ). by w t) (front-one b x e) (trim-white b x e)
  where
    by : List ℕ → List ℕ → List Event
    by w t =
        exit n.SpaceOrTab (past_text w p)
        ∷ (part (trim_end t) (past_text w p) ++ white_part (white_back t) (past_text (trim_end t) (past_text w p)))

-- with none
pub dark-cell : (part : List ℕ → Point → List Event) (b : ℕ) (x : List ℕ) (p : Point) → is_white b ≡ false →
    cell_by part (b ∷ x) p ≡
    part (b ∷ trim_end x) p ++ white_part (white_back x) (past_text (trim_end x) (past_byte b p))
dark-cell part b x p dark =
    ap₂ (λ (w t : List ℕ). by w t) (front-none b x dark) (start-none b x dark)
    ∙ ap₂ (λ (t w : List ℕ). part t p ++ white_part w (past_text t p)) e.0 e.1
  where
    e : (trim_end (b ∷ x) ≡ b ∷ trim_end x) × (white_back (b ∷ x) ≡ white_back x)
    e = end-more b x (dark-first b x dark)

    by : List ℕ → List ℕ → List Event
    by w t =
        white_part w p
        ++ (part (trim_end t) (past_text w p) ++ white_part (white_back t) (past_text (trim_end t) (past_text w p)))

pub white-ends : (part : List ℕ → Point → List Event) (b : ℕ) (x : List ℕ) (p : Point) → is_white b ≡ false →
    white_left part (b ∷ x) p ≡ exit n.SpaceOrTab p ∷ cell_by part (b ∷ x) p
white-ends part b x p dark =
    ap (λ (w : List ℕ). exit n.SpaceOrTab (past_text w p) ∷ held w) none
    ∙ ap (λ (es : List Event). exit n.SpaceOrTab p ∷ es) (sym (ap (λ (w : List ℕ). white_part w p ++ held w) none))
  where
    none : white_front (b ∷ x) ≡ []
    none = front-none b x dark

    held : List ℕ → List Event
    held w =
        let q = past_text w p in
        part (trim (b ∷ x)) q ++ white_part (white_back (trim_start (b ∷ x))) (past_text (trim (b ∷ x)) q)

-- of whitespace alone nothing else is left
pub white-blank : (part : List ℕ → Point → List Event) → ((q : Point) → part [] q ≡ []) → (x : List ℕ) (p : Point) →
    is_blank x ≡ true → white_left part x p ≡ exit n.SpaceOrTab (past_text x p) ∷ []
white-blank part none [] p h = ap (λ (es : List Event). exit n.SpaceOrTab p ∷ es ++ []) (none p)
white-blank part none (b ∷ x) p h = go (is_white b) refl (λ k. white-blank part none x (past_byte b p) k)
  where
    go : (t : Bool) → is_white b ≡ t →
        (is_blank x ≡ true → white_left part x (past_byte b p) ≡ exit n.SpaceOrTab (past_text (b ∷ x) p) ∷ []) →
        white_left part (b ∷ x) p ≡ exit n.SpaceOrTab (past_text (b ∷ x) p) ∷ []
    go true e more = white-more part b x p e ∙ more (sym (blank-first b x e) ∙ h)
    go false e more = let no : false ≡ true = sym (dark-first b x e) ∙ h in cc

-- A text.

-- what is left of it, and after it
abbrev pub text_left : List ℕ → Point → List Event
text_left x p =
    let q = past_text (trim_end x) p in
    exit n.Data q ∷ exit n.GfmTableCellText q ∷ white_part (white_back x) q

abbrev pub text_begins : Point → List Event
text_begins p = enter n.GfmTableCellText p ∷ enter_link n.Data p text_link ∷ []

-- it begins with its first word
pub text-first : (b : ℕ) (x : List ℕ) (p : Point) → is_white b ≡ false →
    cell_inside unread_text (b ∷ x) p ≡ text_begins p ++ text_left x (past_byte b p)
text-first b x p dark = dark-cell (text_part unread_text) b x p dark

-- it continues
pub text-more : (b : ℕ) (x : List ℕ) (p : Point) → is_blank (b ∷ x) ≡ false →
    text_left (b ∷ x) p ≡ text_left x (past_byte b p)
text-more b x p h =
    let e = end-more b x h in
    ap₂
    (λ (k w : List ℕ).
    exit n.Data (past_text k p) ∷ exit n.GfmTableCellText (past_text k p) ∷ white_part w (past_text k p)) e.0 e.1

-- or ends before whitespace alone
pub text-ends : (x : List ℕ) (p : Point) → is_blank x ≡ true →
    text_left x p ≡ exit n.Data p ∷ exit n.GfmTableCellText p ∷ white_part x p
text-ends x p h =
    let e = end-blank x h in
    ap₂
    (λ (k w : List ℕ).
    exit n.Data (past_text k p) ∷ exit n.GfmTableCellText (past_text k p) ∷ white_part w (past_text k p)) e.0 e.1

-- Cells.

abbrev pub first_cell : Cells → List ℕ
first_cell (Ends cell) = cell
first_cell (Shut cell white) = cell
first_cell (Divides cell cells) = cell

-- what follows what the first one holds
abbrev pub following_first : Name → (List ℕ → Point → List Event) → Cells → Point → List Event
following_first name part (Ends cell) p = exit name p ∷ []
following_first name part (Shut cell white) p =
    pipe_part p ++ exit name (past_byte 124 p) ∷ white_part white (past_byte 124 p)
following_first name part (Divides cell cells) p = exit name p ∷ cells_by name part true cells p

-- what is left of cells, by what is left of what the first holds
abbrev pub left_of : Name → (List ℕ → Point → List Event) → (List ℕ → Point → List Event) → Cells → Point → List Event
left_of name part left cells p =
    left (first_cell cells) p ++ following_first name part cells (past_text (first_cell cells) p)

-- the first begins
pub cells-begin : (name : Name) (part : List ℕ → Point → List Event) (piped : Bool) (cells : Cells) (p : Point) →
    cells_by name part piped cells p ≡
    enter name p ∷ first_pipe piped p ++ left_of name part (cell_by part) cells (past_pipe piped p)
cells-begin name part piped (Ends cell) p = ap (λ (es : List Event). enter name p ∷ es) (simp append_assoc refl)
cells-begin name part piped (Shut cell white) p = ap (λ (es : List Event). enter name p ∷ es) (simp append_assoc refl)
cells-begin name part piped (Divides cell cells) p =
    ap (λ (es : List Event). enter name p ∷ es) (simp append_assoc refl)

-- a byte before the first
pub first-onto : (b : ℕ) (cells : Cells) → first_cell (onto b cells) ≡ b ∷ first_cell cells
first-onto b (Ends cell) = refl
first-onto b (Shut cell white) = refl
first-onto b (Divides cell cells) = refl

pub onto-left : (name : Name) (part left : List ℕ → Point → List Event) (b : ℕ) (cells : Cells) (p : Point) →
    left_of name part left (onto b cells) p ≡
    left (b ∷ first_cell cells) p ++ following_first name part cells (past_text (first_cell cells) (past_byte b p))
onto-left name part left b (Ends cell) p = refl
onto-left name part left b (Shut cell white) p = refl
onto-left name part left b (Divides cell cells) p = refl

-- at a pipe nothing is left of the first
pub first-following : (bs : List ℕ) (cells : Cells) → first_cell (after_pipe bs cells) ≡ []
first-following bs cells = go (is_blank bs)
  where
    go : (x : Bool) → first_cell (cond x (Shut [] bs) (Divides [] cells)) ≡ []
    go true = refl
    go false = refl

-- What a byte does to the cells.

pub cells-escaped : (b : ℕ) (bs : List ℕ) → cells_of true (b ∷ bs) ≡ onto b (cells_of false bs)
unfolding cells_of
cells-escaped b bs = refl

pub cells-other : (b : ℕ) (bs : List ℕ) → nat_eq b 124 ≡ false →
    cells_of false (b ∷ bs) ≡ onto b (cells_of (nat_eq b 92) bs)
unfolding cells_of
cells-other b bs k = rw k refl

pub cells-white : (escaped : Bool) (b : ℕ) (bs : List ℕ) → is_white b ≡ true →
    cells_of escaped (b ∷ bs) ≡ onto b (cells_of false bs)
cells-white true b bs e = cells-escaped b bs
cells-white false b bs e =
    cells-other b bs (white-apart b 124 e refl) ∙ ap (λ (x : Bool). onto b (cells_of x bs)) (white-apart b 92 e refl)

pub cells-pipe : (bs : List ℕ) → cells_of false (124 ∷ bs) ≡ after_pipe bs (cells_of false bs)
unfolding cells_of
cells-pipe bs = refl

pub cells-none : (escaped : Bool) → cells_of escaped [] ≡ Ends []
unfolding cells_of
cells-none true = refl
cells-none false = refl

-- where no backslash is
pub cells-plain : (b : ℕ) (bs : List ℕ) → nat_eq b 124 ≡ false → nat_eq b 92 ≡ false →
    cells_of false (b ∷ bs) ≡ onto b (cells_of false bs)
cells-plain b bs k m = cells-other b bs k ∙ ap (λ (x : Bool). onto b (cells_of x bs)) m
