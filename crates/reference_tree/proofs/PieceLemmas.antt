-- A row is its first piece, and then the pieces after the pipe that ends it.
use Rattle.std.proofs.Common.{◌≡◌, ℕ, ◌<◌, ◌≤◌, Bool, true, false, ◌==◌, if◌then◌else◌, List, [], ◌∷◌, ◌++◌, map}
use Rattle.std.proofs.Common.{length, take, drop, Bor, refl, sym, ◌∙◌, arith, append_assoc, append-nil, eqb-true}
use Rattle.std.proofs.lemmas.List.{map-append}
use Rattle.md_meaning.specs.Rest.{trim}
use Rattle.md_meaning.specs.Bytes.{is_end}
use Rattle.md_meaning.specs.Table.{pieces}
use Rattle.reference_tree.specs.Pieces.{piece_len}

-- the pieces from a pipe on
abbrev pub pieces_after : List ℕ → List (List ℕ)
pieces_after [] = []
pieces_after (pipe ∷ []) = []
pieces_after (pipe ∷ b ∷ bs) = pieces false (b ∷ bs)

-- a piece of this length, and the others
abbrev pub pieces_at : ℕ → List ℕ → List (List ℕ)
pieces_at n row = take n row ∷ pieces_after (drop n row)

pieces-pipe : (pipe : ℕ) (bs : List ℕ) →
    (if is_end bs then pieces false bs else [] ∷ pieces false bs) ≡ [] ∷ pieces_after (pipe ∷ bs)
unfolding pieces
pieces-pipe pipe [] = refl
pieces-pipe pipe (b ∷ bs) = refl

pieces-byte : (b : ℕ) (bs : List ℕ) (is_pipe : Bool) → (b == 124) ≡ is_pipe →
    pieces (b == 92) bs ≡ pieces_at (piece_len (b == 92) bs) bs →
    pieces false (b ∷ bs) ≡ pieces_at (piece_len false (b ∷ bs)) (b ∷ bs)
unfolding pieces
pieces-byte b bs true e others =
    let no_escape : (b == 92) ≡ false = rw (eqb-true b 124 e) refl in rw (e, no_escape) (pieces-pipe b bs)
pieces-byte b bs false e others = rw (e, others) refl

pub pieces_at_first : (escaped : Bool) (row : List ℕ) → pieces escaped row ≡ pieces_at (piece_len escaped row) row
unfolding pieces
pieces_at_first true [] = refl
pieces_at_first false [] = refl
pieces_at_first true (b ∷ bs) = rw (pieces_at_first false bs) refl
pieces_at_first false (b ∷ bs) = pieces-byte b bs (b == 124) refl (pieces_at_first (b == 92) bs)

pieces_after-short : (bs : List ℕ) → length bs ≤ 1 → pieces_after bs ≡ []
pieces_after-short [] h = refl
pieces_after-short (pipe ∷ []) h = refl
pieces_after-short (pipe ∷ b ∷ bs) h = absurd (omega arith)

pieces_after-long : (bs : List ℕ) → 1 < length bs → pieces_after bs ≡ pieces false (drop 1 bs)
pieces_after-long [] h = absurd (omega arith)
pieces_after-long (pipe ∷ []) h = absurd (omega arith)
pieces_after-long (pipe ∷ b ∷ bs) h = refl

-- One piece of what is left of a row was pushed as a cell.
pub record PushesCell (cells more : List (Bor (List ℕ))) (rest following : List ℕ) : Type 0 where
  pub cell : Bor (List ℕ)
  pub pushed : more ≡ cells ++ cell ∷ []
  pub text : cell.now ≡ trim (take (piece_len false rest) rest)
  pub following_is : following ≡ drop (piece_len false rest) rest

abbrev pub cells_of : List (Bor (List ℕ)) → List (List ℕ)
cells_of cells = map (λ cell. cell.now) cells

cells_of-pushed : {cells more : List (Bor (List ℕ))} {rest following : List ℕ} → PushesCell cells more rest following →
    (all : List (List ℕ)) → cells_of cells ++ map trim (pieces false rest) ≡ all →
    cells_of more ++ map trim (pieces_after following) ≡ all
cells_of-pushed {cells} {more} {rest} {following} p all h =
    rw (p.pushed, p.following_is, map-append, append_assoc, p.text) (rw pieces_at_first at h)

pub last_cell : {cells more : List (Bor (List ℕ))} {rest following : List ℕ} → PushesCell cells more rest following →
    length following ≤ 1 → (all : List (List ℕ)) → cells_of cells ++ map trim (pieces false rest) ≡ all →
    cells_of more ≡ all
last_cell {cells} {more} {rest} {following} p short all h =
    sym (append-nil _) ∙ (rw (pieces_after-short following short) at (cells_of-pushed p all h))

pub next_cell : {cells more : List (Bor (List ℕ))} {rest following : List ℕ} → PushesCell cells more rest following →
    1 < length following → (all : List (List ℕ)) → cells_of cells ++ map trim (pieces false rest) ≡ all →
    cells_of more ++ map trim (pieces false (drop 1 following)) ≡ all
next_cell {cells} {more} {rest} {following} p long all h =
    rw (pieces_after-long following long) at (cells_of-pushed p all h)
