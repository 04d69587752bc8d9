-- Texts are split at their line endings.
use Rattle.std.proofs.Common.{◌≡◌, ℕ, zero, suc, Bool, true, false, cond, ◌&&◌, ◌||◌, List, [], ◌∷◌, ◌++◌, drop, refl}
use Rattle.std.proofs.Common.{ap, ◌∙◌}
use Rattle.std.specs.Prelude.{◌==◌, not}
use Rattle.std.specs.List.{onto_first}
use Rattle.md_meaning.specs.Lines.{is_ending, begins_with}
use Rattle.md_meaning.specs.Texts.{split_lines}

-- a text without line endings
abbrev pub NoEnding : List ℕ → Type 0
NoEnding [] = Unit {0}
NoEnding (b ∷ bs) = (is_ending b ≡ false) × NoEnding bs

pub no_ending-drop : (n : ℕ) (bytes : List ℕ) → NoEnding bytes → NoEnding (drop n bytes)
no_ending-drop zero bytes h = h
no_ending-drop (suc n) [] h = tt
no_ending-drop (suc n) (b ∷ bs) h = no_ending-drop n bs h.1

-- a line ending before a text: LF, CR LF, or a CR that no LF follows (CommonMark 2.1)
pub data Ending : Type 0 where
  LineFeed : Ending
  Return : Ending
  Both : Ending

abbrev pub ending_bytes : Ending → List ℕ
ending_bytes LineFeed = 10 ∷ []
ending_bytes Return = 13 ∷ []
ending_bytes Both = 13 ∷ 10 ∷ []

abbrev pub EndsBefore : Ending → List ℕ → Type 0
EndsBefore Return rest = begins_with 10 rest ≡ false
EndsBefore LineFeed rest = Unit {0}
EndsBefore Both rest = Unit {0}

-- a byte of a line goes before the first line
pub split-byte : (b : ℕ) (bs : List ℕ) → is_ending b ≡ false → split_lines (b ∷ bs) ≡ onto_first b (split_lines bs)
split-byte b bs h = go (b == 10) (b == 13) h
  where
    go : (x y : Bool) → (x || y) ≡ false →
        cond (x || (y && not (begins_with 10 bs))) ([] ∷ split_lines bs)
        (cond (x || y) (split_lines bs) (onto_first b (split_lines bs))) ≡
        onto_first b (split_lines bs)
    go false false h = refl
    go false true h = cc
    go true y h = cc

-- a line without endings is one
pub split-line : (line : List ℕ) → NoEnding line → split_lines line ≡ line ∷ []
split-line [] h = refl
split-line (b ∷ bs) h = split-byte b bs h.0 ∙ ap (onto_first b) (split-line bs h.1)

split-return : (x : Bool) (lines : List (List ℕ)) → x ≡ false → cond (not x) ([] ∷ lines) lines ≡ [] ∷ lines
split-return x lines e = ap (λ (x : Bool). cond (not x) ([] ∷ lines) lines) e

split-ending : (ending : Ending) (rest : List ℕ) → EndsBefore ending rest →
    split_lines (ending_bytes ending ++ rest) ≡ [] ∷ split_lines rest
split-ending LineFeed rest h = refl
split-ending Return rest h = split-return (begins_with 10 rest) (split_lines rest) h
split-ending Both rest h = refl

-- a line, its ending, and what follows
pub split-next : (line : List ℕ) (ending : Ending) (rest : List ℕ) → NoEnding line → EndsBefore ending rest →
    split_lines (line ++ ending_bytes ending ++ rest) ≡ line ∷ split_lines rest
split-next [] ending rest h k = split-ending ending rest k
split-next (b ∷ bs) ending rest h k =
    split-byte b ((bs ++ ending_bytes ending) ++ rest) h.0 ∙ ap (onto_first b) (split-next bs ending rest h.1 k)

-- a text that is made of these lines, with an ending between each
abbrev pub IsOfLines : List (List ℕ) → List ℕ → Type 0
IsOfLines [] text = ⊥
IsOfLines (line ∷ []) text = NoEnding line × (text ≡ line)
IsOfLines (line ∷ next ∷ lines) text =
    NoEnding line ×
    ((ending : Ending) × (rest : List ℕ) × EndsBefore ending rest × (text ≡ line ++ ending_bytes ending ++ rest) ×
    IsOfLines (next ∷ lines) rest)

-- a text is split into its lines
pub split-lines : (lines : List (List ℕ)) (text : List ℕ) → IsOfLines lines text → split_lines text ≡ lines
split-lines [] text h = absurd h
split-lines (line ∷ []) text h = ap split_lines h.1 ∙ split-line line h.0
split-lines (line ∷ next ∷ lines) text h =
    ap split_lines h.1.3 ∙ split-next line h.1.0 h.1.1 h.0 h.1.2
    ∙ ap (λ (x : List (List ℕ)). line ∷ x) (split-lines (next ∷ lines) h.1.1 h.1.4)
