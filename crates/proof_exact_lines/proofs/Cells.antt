-- The cells of a row: those of the exact list are those of the bytes of the line.
use Rattle.std.proofs.Common.{◌≡◌, ℕ, zero, suc, ◌≤◌, Bool, true, false, cond, nat_eq, List, [], ◌∷◌, ◌++◌, length}
use Rattle.std.proofs.Common.{take, drop, refl, sym, ap, ap₂, ◌∙◌, subst, append_assoc, append-nil, length-drop, arith}
use Rattle.std.proofs.lemmas.Bool.{eqb-true}
use Rattle.std.proofs.lemmas.List.{take-append-drop}
use Rattle.md_engine.specs.declared.event.Event.{Event}
use Rattle.md_engine.specs.declared.event.Name.{Name}
use Rattle.md_engine.specs.declared.event.Name.TheVariants as n
use Rattle.md_engine.specs.declared.event.Point.{Point}
use Rattle.md_meaning.specs.Bytes.{after_optional, is_end}
use Rattle.md_meaning.specs.Lines.{begins_with}
use Rattle.md_meaning.specs.Rest.{Rest, is_blank, trim}
use Rattle.md_events.specs.Events.Nested.{around}
use Rattle.md_events.specs.Events.Places.{past_byte, past_text}
use Rattle.md_tables.specs.RowCells.{Cells, Divides, Shut, cell_by, cells_by, cells_of, first_pipe, line_cells}
use Rattle.md_tables.specs.RowCells.{past_pipe, pipe_part, white_part}
use Rattle.proof_frame.specs.LineColumns.{part_over}
use Rattle.proof_leaf_laws.proofs.GfmTable.RowCells.{EachFits}
use Rattle.md_events.specs.Exact.Leaves.{Inner, cell_content, cell_len, cells, past_optional}
use Rattle.md_events.specs.Exact.Places.{TextLine, line_end, part, past, piece, white}
use Rattle.proof_exact_lines.proofs.BeginsAt.{begins-place, rest_bytes}
use Rattle.proof_exact_lines.proofs.Parts.{IsAfter, Valid, piece-end, piece-is, valid-bytes, taken-front}
use Rattle.proof_exact_lines.proofs.CellContent.{IsInner, content-is, over-white}
use Rattle.proof_exact_lines.proofs.FirstCell.{IsPiped, back-piped, first-cell, from_first, len-other}

-- A byte that may come first.

abbrev pub optional : ℕ → Bool → List ℕ
optional b true = b ∷ []
optional b false = []

-- after nothing
none-following : (line : TextLine) (r : Rest) (p : Point) (bytes : List ℕ) → Valid line bytes p r →
    IsAfter line r [] bytes p r
none-following line r p bytes is = record { valid = is; fewer = omega arith }

pub optional-front : (b : ℕ) (line : TextLine) (r : Rest) (p : Point) (bytes : List ℕ) → Valid line bytes p r →
    IsAfter line r (optional b (begins_with b bytes)) (after_optional b bytes) p (past_optional b r)
optional-front b line r p [] is =
    subst (λ (t : Bool). IsAfter line r [] [] p (cond t (past 1 r) r)) (sym (ap (begins_with b) is.bytes_are))
    (none-following line r p [] is)
optional-front b line r p (c ∷ bs) is =
    subst
    (λ (t : Bool). IsAfter line r (optional b (nat_eq c b)) (cond (nat_eq c b) bs (c ∷ bs)) p (cond t (past 1 r) r))
    (sym (ap (begins_with b) is.bytes_are)) (go (nat_eq c b) refl)
  where
    go : (t : Bool) → nat_eq c b ≡ t →
        IsAfter line r (optional b t) (cond t bs (c ∷ bs)) p (cond t (past 1 r) r)
    go true e =
        subst (λ (x : ℕ). IsAfter line r (x ∷ []) bs p (past 1 r)) (eqb-true c b e)
        (taken-front line r p 1 (c ∷ bs) is)
    go false e = none-following line r p (c ∷ bs) is

-- a pipe before a cell, if there is one
past-pipe : (piped : Bool) (p : Point) → past_text (optional 124 piped) p ≡ past_pipe piped p
past-pipe true p = refl
past-pipe false p = refl

over-pipe : (piped : Bool) (p : Point) →
    part_over n.GfmTableCellDivider (optional 124 piped) p (past_text (optional 124 piped) p) ≡ first_pipe piped p
over-pipe true p = refl
over-pipe false p = refl

optional-whole : (b : ℕ) (bytes : List ℕ) → bytes ≡ optional b (begins_with b bytes) ++ after_optional b bytes
optional-whole b [] = refl
optional-whole b (c ∷ bs) = go (nat_eq c b) refl
  where
    go : (t : Bool) → nat_eq c b ≡ t → c ∷ bs ≡ optional b t ++ cond t bs (c ∷ bs)
    go true e = ap (λ (x : ℕ). x ∷ bs) (eqb-true c b e)
    go false e = refl

-- what the first cell holds
first-fits : (Fits : List ℕ → Type 0) (cell back : List ℕ) → EachFits Fits (from_first cell back) → Fits (trim cell)
first-fits Fits cell [] h = h
first-fits Fits cell (b ∷ bs) h = go (is_blank bs) h
  where
    go : (t : Bool) → EachFits Fits (cond t (Shut cell bs) (Divides cell (cells_of false bs))) → Fits (trim cell)
    go true h = h
    go false h = h.0

-- Cells from the bar of one on, where its events are known up to there.

-- what the cells after a bar are
abbrev Later : Name → Inner → (List ℕ → Point → List Event) → (List ℕ → Type 0) → ℕ → TextLine → ℕ → Type 0
Later name inner held Fits size line most =
    (s : Rest) (q : Point) (bs : List ℕ) → Valid line (124 ∷ bs) q s → suc (length bs) ≤ most →
    EachFits Fits (cells_of false bs) →
    cells size name inner line s ≡ cells_by name held true (cells_of false bs) q

-- a cell, by what is in it before its bar, and those after it
abbrev from_bar : ℕ → Name → Inner → TextLine → Rest → List Event → Rest → List Event
from_bar size name inner line r inside bar =
    let after : Rest = past_optional 124 bar in
    let is_last : Bool = is_blank after.bytes in
    let end : Rest = cond is_last after bar in
    part line name r end (inside ++ piece line n.GfmTableCellDivider bar end)
    ++ cond is_last (white line end (line_end line)) (cells size name inner line bar)

bar-is : (size : ℕ) (name : Name) (inner : Inner) (held : List ℕ → Point → List Event) (Fits : List ℕ → Type 0)
    (line : TextLine) (r bar : Rest) (p : Point) (inside : List Event) (piped : Bool) (cell back : List ℕ) →
    Valid line back (past_text cell (past_pipe piped p)) bar → IsPiped back →
    EachFits Fits (from_first cell back) → Later name inner held Fits size line (length back) →
    ((s : Rest) (q : Point) (es : List Event) (bs : List ℕ) → Valid line bs q s →
    part line name r s es ≡ around name p q es) →
    inside ≡ first_pipe piped p ++ cell_by held cell (past_pipe piped p) →
    from_bar size name inner line r inside bar ≡ cells_by name held piped (from_first cell back) p
bar-is size name inner held Fits line r bar p inside piped cell [] at pipe fits later parts known =
    ap by (ap is_blank after.valid.bytes_are)
    ∙ ap₂ (λ (es fs : List Event). part line name r (past_optional 124 bar) (inside ++ es) ++ fs)
    (piece-is line n.GfmTableCellDivider bar (past_optional 124 bar) e [] [] at.at (valid-bytes line [] e bar at)
    after)
    (piece-end line n.SpaceOrTab (past_optional 124 bar) e [] after.valid.at
    (valid-bytes line [] e (past_optional 124 bar) after.valid))
    ∙ append-nil (part line name r (past_optional 124 bar) (inside ++ []))
    ∙ parts (past_optional 124 bar) e (inside ++ []) [] after.valid
    ∙ ap (around name p e) (append-nil inside ∙ known)
  where
    e : Point
    e = past_text cell (past_pipe piped p)

    after : IsAfter line bar [] [] (past_text cell (past_pipe piped p)) (past_optional 124 bar)
    after = optional-front 124 line bar (past_text cell (past_pipe piped p)) [] at

    by : Bool → List Event
    by t =
        let end : Rest = cond t (past_optional 124 bar) bar in
        part line name r end (inside ++ piece line n.GfmTableCellDivider bar end)
        ++ cond t (white line end (line_end line)) (cells size name inner line bar)
bar-is size name inner held Fits line r bar p inside piped cell (b ∷ bs) at pipe fits later parts known =
    ap by (ap is_blank after.valid.bytes_are) ∙ go (is_blank bs) fits
  where
    e : Point
    e = past_text cell (past_pipe piped p)

    valid : Valid line (124 ∷ bs) (past_text cell (past_pipe piped p)) bar
    valid = subst (λ (x : ℕ). Valid line (x ∷ bs) e bar) (eqb-true b 124 pipe) at

    after : IsAfter line bar (124 ∷ []) bs (past_text cell (past_pipe piped p)) (past_optional 124 bar)
    after = optional-front 124 line bar (past_text cell (past_pipe piped p)) (124 ∷ bs) valid

    by : Bool → List Event
    by t =
        let end : Rest = cond t (past_optional 124 bar) bar in
        part line name r end (inside ++ piece line n.GfmTableCellDivider bar end)
        ++ cond t (white line end (line_end line)) (cells size name inner line bar)

    bytes : rest_bytes bar ≡ 124 ∷ bs
    bytes = valid-bytes line (124 ∷ bs) (past_text cell (past_pipe piped p)) bar valid

    go : (t : Bool) → EachFits Fits (cond t (Shut cell bs) (Divides cell (cells_of false bs))) →
        by t ≡ cells_by name held piped (cond t (Shut cell bs) (Divides cell (cells_of false bs))) p
    go true fits =
        let q : Point = past_byte 124 e in
        ap₂ (λ (es fs : List Event). part line name r (past_optional 124 bar) (inside ++ es) ++ fs)
        (piece-is line n.GfmTableCellDivider bar (past_optional 124 bar) e (124 ∷ []) bs at.at bytes after)
        (piece-end line n.SpaceOrTab (past_optional 124 bar) q bs after.valid.at
        (valid-bytes line bs q (past_optional 124 bar) after.valid)
        ∙ over-white bs q)
        ∙ ap (λ (es : List Event). es ++ white_part bs q)
        (parts (past_optional 124 bar) q (inside ++ pipe_part e) bs after.valid
        ∙ ap (around name p q)
        (ap (λ (es : List Event). es ++ pipe_part e) known
        ∙ append_assoc (first_pipe piped p) (cell_by held cell (past_pipe piped p)) (pipe_part e)))
    go false fits =
        ap₂ (λ (es fs : List Event). part line name r bar (inside ++ es) ++ fs)
        (piece-is line n.GfmTableCellDivider bar bar e [] (124 ∷ bs) at.at bytes
        (none-following line bar e (124 ∷ bs) valid))
        (later bar e bs valid (omega arith) fits.1)
        ∙ ap (λ (es : List Event). es ++ cells_by name held true (cells_of false bs) e)
        (parts bar e (inside ++ []) (124 ∷ bs) valid ∙ ap (around name p e) (append-nil inside ∙ known))

-- after a cell fewer bytes are left than before it
back-fewer : (bytes : List ℕ) → is_end bytes ≡ false →
    suc (length (drop (cell_len false (after_optional 124 bytes)) (after_optional 124 bytes))) ≤ length bytes
back-fewer [] some = let no : true ≡ false = some in cc
back-fewer (b ∷ bs) some = go (nat_eq b 124) refl
  where
    go : (t : Bool) → nat_eq b 124 ≡ t →
        suc (length (drop (cell_len false (cond t bs (b ∷ bs))) (cond t bs (b ∷ bs)))) ≤ suc (length bs)
    go true e = let less = length-drop (cell_len false bs) bs in omega (arith, less)
    go false e =
        let size : ℕ = cell_len (nat_eq b 92) bs in
        let len : cell_len false (b ∷ bs) ≡ suc size = len-other b bs e in
        let left : length (drop (cell_len false (b ∷ bs)) (b ∷ bs)) ≡ length (drop size bs) =
        ap (λ (k : ℕ). length (drop k (b ∷ bs))) len in
        let less = length-drop size bs in
        omega (arith, left, less)

-- All cells of some bytes.
pub cells-are : (name : Name) (inner : Inner) (held : List ℕ → Point → List Event) (Fits : List ℕ → Type 0) →
    IsInner inner held Fits →
    (size : ℕ) (line : TextLine) (r : Rest) (p : Point) (bytes : List ℕ) → Valid line bytes p r →
    is_end bytes ≡ false → length bytes ≤ size → EachFits Fits (line_cells bytes) →
    cells size name inner line r ≡ cells_by name held (begins_with 124 bytes) (line_cells bytes) p
cells-are name inner held Fits kind zero line r p [] is some le fits = let no : true ≡ false = some in cc
cells-are name inner held Fits kind zero line r p (b ∷ bs) is some le fits = absurd (omega (arith, le))
cells-are name inner held Fits kind (suc size) line r p bytes is some le fits =
    ap by (ap (cell_len false) begin-at.valid.bytes_are)
    ∙ bar-is size name inner held Fits line r (past len begin) p (inside len) piped cell back bar
    (back-piped false rest) fits-first
    (λ s z bs at most fits.
    cells-are name inner held Fits kind size line s z (124 ∷ bs) at refl
    (omega (arith, most, le, back-fewer bytes some)) fits)
    parts known
    ∙ ap (λ (xs : Cells). cells_by name held piped xs p) (sym (first-cell false rest))
  where
    piped : Bool
    piped = begins_with 124 bytes

    rest : List ℕ
    rest = after_optional 124 bytes

    begin : Rest
    begin = past_optional 124 r

    q : Point
    q = past_pipe (begins_with 124 bytes) p

    len : ℕ
    len = cell_len false (after_optional 124 bytes)

    cell : List ℕ
    cell = take (cell_len false (after_optional 124 bytes)) (after_optional 124 bytes)

    back : List ℕ
    back = drop (cell_len false (after_optional 124 bytes)) (after_optional 124 bytes)

    inside : ℕ → List Event
    inside k =
        piece line n.GfmTableCellDivider r (past_optional 124 r)
        ++ cell_content inner k line (past_optional 124 r) (past k (past_optional 124 r))

    by : ℕ → List Event
    by k = from_bar size name inner line r (inside k) (past k (past_optional 124 r))

    begin-at : IsAfter line r (optional 124 (begins_with 124 bytes)) (after_optional 124 bytes) p (past_optional 124 r)
    begin-at = optional-front 124 line r p bytes is

    valid : Valid line (after_optional 124 bytes) (past_pipe (begins_with 124 bytes) p) (past_optional 124 r)
    valid = subst (λ (z : Point). Valid line rest z begin) (past-pipe piped p) begin-at.valid

    bar : Valid line (drop (cell_len false (after_optional 124 bytes)) (after_optional 124 bytes))
        (past_text (take (cell_len false (after_optional 124 bytes)) (after_optional 124 bytes))
        (past_pipe (begins_with 124 bytes) p))
        (past (cell_len false (after_optional 124 bytes)) (past_optional 124 r))
    bar = (taken-front line begin q len rest valid).valid

    fits-first : EachFits Fits
        (from_first (take (cell_len false (after_optional 124 bytes)) (after_optional 124 bytes))
        (drop (cell_len false (after_optional 124 bytes)) (after_optional 124 bytes)))
    fits-first = subst (EachFits Fits) (first-cell false rest) fits

    known : inside (cell_len false (after_optional 124 bytes)) ≡
        first_pipe (begins_with 124 bytes) p
        ++ cell_by held (take (cell_len false (after_optional 124 bytes)) (after_optional 124 bytes))
        (past_pipe (begins_with 124 bytes) p)
    known =
        ap₂ (λ (es fs : List Event). es ++ fs)
        (piece-is line n.GfmTableCellDivider r begin p (optional 124 piped) rest is.at
        (valid-bytes line bytes p r is ∙ optional-whole 124 bytes) begin-at
        ∙ over-pipe piped p)
        (content-is inner held Fits kind line begin (past len begin) q len cell back
        (subst (λ (l : List ℕ). Valid line l q begin) (sym (take-append-drop len rest)) valid) bar
        (back-piped false rest)
        (ap (take len) valid.bytes_are) (first-fits Fits cell back fits-first))

    parts : (s : Rest) (z : Point) (es : List Event) (bs : List ℕ) → Valid line bs z s →
        part line name r s es ≡ around name p z es
    parts s z es bs at =
        ap₂ (λ (a b : Point). around name a b es) (begins-place line r p is.at) (begins-place line s z at.at)
