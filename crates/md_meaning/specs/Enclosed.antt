-- Text up to a mark that a backslash can escape: labels, destinations, titles and cells.
use Rattle.std.specs.Prelude.{ℕ, Bool, true, false, ◌==◌, if◌then◌else◌, List, [], ◌∷◌, Option, Some, None}
use Rattle.md_meaning.specs.Ascii.{backslash}

-- A text on one line up to its closing mark.
pub data Enclosed : Type 0 where
  -- the text, and what follows the mark
  Closed : List ℕ → List ℕ → Enclosed
  -- the line ends first
  Open : Enclosed
  -- the opening mark is in it unescaped
  Broken : Enclosed

-- with this byte before the text
abbrev pub with_byte : ℕ → Enclosed → Enclosed
with_byte b (Closed text rest) = Closed (b ∷ text) rest
with_byte b Open = Open
with_byte b Broken = Broken

-- The text up to the closing mark. `escaped` says that a backslash takes the byte that is next; a mark or a backslash
-- then represents itself, and any other byte does so anyway (CommonMark 2.4). Pairs are taken from left to right.
unfoldable pub enclosed : ℕ → ℕ → Bool → List ℕ → Enclosed
enclosed opener closer escaped [] = Open
enclosed opener closer true (b ∷ bs) = with_byte b (enclosed opener closer false bs)
enclosed opener closer false (b ∷ bs) =
    if b == closer then Closed [] bs
    else if b == opener then Broken
    else with_byte b (enclosed opener closer (b == backslash) bs)

-- A text over lines: its lines, and what is still to come, first the rest of the line that closes it.
pub record Lines : Type 0 where
  pub text : List (List ℕ)
  pub rest : List (List ℕ)

-- with this line before the text
abbrev pub with_line : List ℕ → Option Lines → Option Lines
with_line line None = None
with_line line (Some more) = Some (record { text = line ∷ more.text; rest = more.rest })

-- the text up to the closing mark, over as many lines as it takes
unfoldable pub enclosed_lines : ℕ → ℕ → List (List ℕ) → Option Lines
enclosed_lines opener closer [] = None
enclosed_lines opener closer (line ∷ lines) = elim (enclosed opener closer false line) [
  | Closed text rest ↦ Some (record { text = text ∷ []; rest = rest ∷ lines })
  | Open ↦ with_line line (enclosed_lines opener closer lines)
  | Broken ↦ None
]
