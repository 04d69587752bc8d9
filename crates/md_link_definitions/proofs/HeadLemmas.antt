-- How many cells a line has as the head of a table, byte by byte; and one where it has no pipe.
use Rattle.std.proofs.Common.{◌≡◌, ℕ, suc, ◌+◌, ◌-◌, Bool, true, false, cond, ◌&&◌, nat_eq, List, [], ◌∷◌, length, refl}
use Rattle.std.proofs.Common.{sym, ◌∙◌, ap, arith}
use Rattle.std.specs.Prelude.{not, ◌==◌}
use Rattle.std.specs.List.{All, onto_first, prefix_len, suffix_len}
use Rattle.std.proofs.lemmas.List.{length-map}
use Rattle.std.proofs.lemmas.Bool.{not-true}
use Rattle.std.proofs.lemmas.List.Elements.{All-drop, All-take}
use Rattle.std.proofs.lemmas.List.Sums.{AllPass-from_list_all}
use Rattle.md_meaning.specs.Ascii.{pipe}
use Rattle.md_meaning.specs.Bytes.{after_optional, is_end}
use Rattle.md_meaning.specs.Lines.{begins_with}
use Rattle.md_meaning.specs.Rest.{is_white, trim, trim_start}
use Rattle.md_meaning.specs.Table.{is_head, pieces, row_cells}
use Rattle.md_link_definitions.specs.Head.{head_columns, is_pipeless, pieces_len}
use Rattle.md_link_definitions.proofs.Pieces.{Parted, onto-parted, pieces-parted}

onto-length : (b : ℕ) (row : List (List ℕ)) → Parted row → length (onto_first b row) ≡ length row
onto-length b row p = ap length (onto-parted b row p) ∙ ap length (sym p.is)

none : (n : ℕ) → n ≡ 0 + n
none n = omega arith

one : (n : ℕ) → suc n ≡ 1 + n
one n = omega arith

pub pieces-counted : (escaped : Bool) (row : List ℕ) → length (pieces escaped row) ≡ pieces_len escaped row
unfolding pieces
pieces-counted true [] = refl
pieces-counted false [] = refl
pieces-counted true (b ∷ bs) =
    onto-length b (pieces false bs) (pieces-parted false bs) ∙ pieces-counted false bs ∙ none (pieces_len false bs)
pieces-counted false (b ∷ bs) = go (nat_eq b 124) refl (is_end bs) refl (pieces-counted (nat_eq b 92) bs)
  where
    go : (x : Bool) → nat_eq b 124 ≡ x → (y : Bool) → is_end bs ≡ y →
        length (pieces (nat_eq b 92) bs) ≡ pieces_len (nat_eq b 92) bs →
        length (pieces false (b ∷ bs)) ≡ pieces_len false (b ∷ bs)
    go true e true k on = rw (e, k) (on ∙ none (pieces_len (nat_eq b 92) bs))
    go true e false k on = rw (e, k) (ap suc on ∙ one (pieces_len (nat_eq b 92) bs))
    go false e y k on =
        rw e (onto-length b _ (pieces-parted (nat_eq b 92) bs) ∙ on ∙ none (pieces_len (nat_eq b 92) bs))

-- and so how many cells
pub cells-counted : (line : List ℕ) → length (row_cells line) ≡ pieces_len false (after_optional 124 (trim line))
unfolding row_cells
cells-counted line =
    let row = after_optional 124 (trim line) in length-map (pieces false row) trim ∙ pieces-counted false row

-- Where no pipe is.

-- this byte is none
abbrev IsNoPipe : ℕ → Type 0
IsNoPipe b = nat_eq b 124 ≡ false

abbrev HasNoPipe : List ℕ → Type 0
HasNoPipe bs = All IsNoPipe bs

pipeless-first : (b : ℕ) (bs : List ℕ) → HasNoPipe (b ∷ bs) → IsNoPipe b
pipeless-first b bs is = is 0 0 (omega arith)

pipeless-rest : (b : ℕ) (bs : List ℕ) → HasNoPipe (b ∷ bs) → HasNoPipe bs
pipeless-rest b bs is = λ k d lt. is (suc k) d (omega arith)

pipeless-trimmed : (line : List ℕ) → HasNoPipe line → HasNoPipe (trim line)
pipeless-trimmed line is =
    let text = trim_start line in
    All-take IsNoPipe (length text - suffix_len is_white text) text
    (All-drop IsNoPipe (prefix_len is_white line) line is)

-- there is one piece,
one-piece : (escaped : Bool) (row : List ℕ) → HasNoPipe row → pieces_len escaped row ≡ 1
one-piece escaped [] is = refl
one-piece true (b ∷ bs) is = ap (λ (n : ℕ). 0 + n) (one-piece false bs (pipeless-rest b bs is))
one-piece false (b ∷ bs) is =
    ap (λ (x : Bool). cond (x && not (is_end bs)) 1 0 + pieces_len (nat_eq b 92) bs) (pipeless-first b bs is)
    ∙ ap (λ (n : ℕ). 0 + n) (one-piece (nat_eq b 92) bs (pipeless-rest b bs is))

pipeless-begins : (row : List ℕ) → HasNoPipe row → begins_with 124 row ≡ false
pipeless-begins [] is = refl
pipeless-begins (b ∷ bs) is = pipeless-first b bs is

pipeless-optional : (row : List ℕ) → HasNoPipe row → after_optional 124 row ≡ row
pipeless-optional [] is = refl
pipeless-optional (b ∷ bs) is = ap (λ (x : Bool). cond x bs (b ∷ bs)) (pipeless-first b bs is)

-- and the line may be a head
pub head-alone : (line : List ℕ) → is_pipeless line ≡ true → 1 ≡ head_columns line
unfolding is_head
head-alone line pipeless =
    let row = trim line in
    sym
    (ap (λ (x : Bool). cond (not (x && is_end (after_optional 124 row))) (length (row_cells line)) 0)
    (pipeless-begins row is)
    ∙ cells-counted line ∙ ap (pieces_len false) (pipeless-optional row is) ∙ one-piece false row is)
  where
    is : HasNoPipe (trim line)
    is =
        pipeless-trimmed line
        (λ k d lt. not-true _ (AllPass-from_list_all (λ b. not (b == pipe)) line pipeless k d lt))
