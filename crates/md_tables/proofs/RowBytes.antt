-- The bytes of a row: its cells with the pipes between them are its line, and each cell is its text with the whitespace
-- around it.
use Rattle.std.proofs.Common.{◌≡◌, ℕ, Bool, true, false, cond, nat_eq, List, [], ◌∷◌, ◌++◌, drop}
use Rattle.std.proofs.Common.{slice_range, refl, sym, ◌∙◌, ap, append_assoc}
use Rattle.std.specs.List.{prefix_len}
use Rattle.std.proofs.lemmas.Bool.{eqb-true}
use Rattle.std.proofs.lemmas.List.{take-append-drop}
use Rattle.std.proofs.lemmas.List.Sums.{list_all-from_AllPass}
use Rattle.md_engine.specs.declared.event.Point.{Point}
use Rattle.md_meaning.specs.Bytes.{begins}
use Rattle.md_meaning.specs.Lines.{begins_with}
use Rattle.md_meaning.specs.Rest.{is_blank, is_white, trim, trim_start}
use Rattle.md_leaves.proofs.TitleTexts.{front-passes}
use Rattle.md_events.specs.Events.Places.{past_text}
use Rattle.md_events.proofs.FeedLines.{drop-past, past_text-whole, slice-front}
use Rattle.md_events.proofs.InlineLemmas.{past-index, past-vs}
use Rattle.md_tables.specs.RowCells.{Cells, Divides, Ends, Shut, after_pipe, cells_of, line_cells, onto, white_back}
use Rattle.md_tables.specs.RowCells.{white_front}
use Rattle.md_tables.proofs.WhiteEnds.{end-whole, front-none, front-one}

-- The bytes of cells.

-- a pipe before a cell, if there is one
abbrev pub pipe_bytes : Bool → List ℕ
pipe_bytes true = 124 ∷ []
pipe_bytes false = []

abbrev pub cells_bytes : Bool → Cells → List ℕ
cells_bytes piped (Ends cell) = pipe_bytes piped ++ cell
cells_bytes piped (Shut cell white) = pipe_bytes piped ++ (cell ++ 124 ∷ white)
cells_bytes piped (Divides cell cells) = pipe_bytes piped ++ (cell ++ cells_bytes true cells)

onto-bytes : (b : ℕ) (cells : Cells) → cells_bytes false (onto b cells) ≡ b ∷ cells_bytes false cells
onto-bytes b (Ends cell) = refl
onto-bytes b (Shut cell white) = refl
onto-bytes b (Divides cell cells) = refl

piped-bytes : (cells : Cells) → cells_bytes true cells ≡ 124 ∷ cells_bytes false cells
piped-bytes (Ends cell) = refl
piped-bytes (Shut cell white) = refl
piped-bytes (Divides cell cells) = refl

following-bytes : (bs : List ℕ) (cells : Cells) → cells_bytes false cells ≡ bs →
    cells_bytes false (after_pipe bs cells) ≡ 124 ∷ bs
following-bytes bs cells e = go (is_blank bs)
  where
    go : (x : Bool) → cells_bytes false (cond x (Shut [] bs) (Divides [] cells)) ≡ 124 ∷ bs
    go true = refl
    go false = piped-bytes cells ∙ ap (λ (xs : List ℕ). 124 ∷ xs) e

-- those of bytes are these bytes
pub bytes-of : (escaped : Bool) (bs : List ℕ) → cells_bytes false (cells_of escaped bs) ≡ bs
unfolding cells_of
bytes-of true [] = refl
bytes-of false [] = refl
bytes-of true (b ∷ bs) = onto-bytes b (cells_of false bs) ∙ ap (λ (xs : List ℕ). b ∷ xs) (bytes-of false bs)
bytes-of false (b ∷ bs) = go (nat_eq b 124) refl (λ x. bytes-of x bs)
  where
    go : (y : Bool) → nat_eq b 124 ≡ y → ((x : Bool) → cells_bytes false (cells_of x bs) ≡ bs) →
        cells_bytes false (cond y (after_pipe bs (cells_of false bs)) (onto b (cells_of (nat_eq b 92) bs))) ≡ b ∷ bs
    go true k more =
        following-bytes bs (cells_of false bs) (more false) ∙ ap (λ (c : ℕ). c ∷ bs) (sym (eqb-true b 124 k))
    go false k more = onto-bytes b (cells_of (nat_eq b 92) bs) ∙ ap (λ (xs : List ℕ). b ∷ xs) (more (nat_eq b 92))

-- and so are those of a line, with the pipe before them
pub line-bytes : (line : List ℕ) → cells_bytes (begins_with 124 line) (line_cells line) ≡ line
line-bytes [] = bytes-of false []
line-bytes (b ∷ bs) = go (nat_eq b 124) refl
  where
    go : (y : Bool) → nat_eq b 124 ≡ y → cells_bytes y (cells_of false (cond y bs (b ∷ bs))) ≡ b ∷ bs
    go true k =
        piped-bytes (cells_of false bs) ∙ ap (λ (xs : List ℕ). 124 ∷ xs) (bytes-of false bs)
        ∙ ap (λ (c : ℕ). c ∷ bs) (sym (eqb-true b 124 k))
    go false k = bytes-of false (b ∷ bs)

-- The bytes of a cell.

pub front-whole : (x : List ℕ) → x ≡ white_front x ++ trim_start x
front-whole x = sym (take-append-drop (prefix_len is_white x) x)

pub front-blank : (x : List ℕ) → is_blank (white_front x) ≡ true
front-blank x = list_all-from_AllPass is_white (white_front x) (front-passes is_white x)

pub cell-whole : (x : List ℕ) → x ≡ white_front x ++ (trim x ++ white_back (trim_start x))
cell-whole x = front-whole x ∙ ap (λ (xs : List ℕ). white_front x ++ xs) (end-whole (trim_start x))

-- Where they are.

-- these bytes are at a point of a text, and no tab is cut there
pub record Valid (bytes : List ℕ) (p : Point) (xs : List ℕ) : Type 0 where
  pub following : List ℕ
  pub text : drop p.index bytes ≡ xs ++ following
  pub whole : p.vs ≡ 0

pub valid-first : (bytes : List ℕ) (p : Point) (xs ys : List ℕ) → Valid bytes p (xs ++ ys) →
    slice_range bytes p.index (past_text xs p).index ≡ xs
valid-first bytes p xs ys is =
    slice-front bytes p.index (past_text xs p).index xs (ys ++ is.following) (is.text ∙ append_assoc xs ys is.following)
    (past-index xs p)

pub valid-next : (bytes : List ℕ) (p : Point) (xs ys : List ℕ) → Valid bytes p (xs ++ ys) →
    Valid bytes (past_text xs p) ys
valid-next bytes p xs ys is = record {
  following = is.following;
  text =
      ap (λ (i : ℕ). drop i bytes) (past-index xs p)
      ∙ drop-past bytes p.index xs (ys ++ is.following) (is.text ∙ append_assoc xs ys is.following);
  whole = past_text-whole xs p is.whole;
}

-- no tab is cut after the whitespace before it
start-whole : (line : List ℕ) (p : Point) → (begins is_white line ≡ false → p.vs ≡ 0) →
    (past_text (white_front line) p).vs ≡ 0
start-whole [] p h = h refl
start-whole (b ∷ bs) p h = go (is_white b) refl
  where
    go : (x : Bool) → is_white b ≡ x → (past_text (white_front (b ∷ bs)) p).vs ≡ 0
    go true e = ap (λ (w : List ℕ). (past_text w p).vs) (front-one b bs e) ∙ past-vs b (white_front bs) p
    go false e = ap (λ (w : List ℕ). (past_text w p).vs) (front-none b bs e) ∙ h e

-- after it a line is
pub valid-line : (bytes line following : List ℕ) (p : Point) → drop p.index bytes ≡ line ++ following →
    (begins is_white line ≡ false → p.vs ≡ 0) → Valid bytes (past_text (white_front line) p) (trim_start line)
valid-line bytes line following p text whole = record {
  following = following;
  text =
      ap (λ (i : ℕ). drop i bytes) (past-index (white_front line) p)
      ∙ drop-past bytes p.index (white_front line) (trim_start line ++ following)
      (text ∙ ap (λ (x : List ℕ). x ++ following) (front-whole line)
      ∙ append_assoc (white_front line) (trim_start line) following);
  whole = start-whole line p whole;
}
