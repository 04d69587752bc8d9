-- The lines of a text with their endings, one after another.
use Rattle.std.proofs.Common.{◌≡◌, ℕ, Bool, true, false, cond, ◌&&◌, ◌||◌, List, [], ◌∷◌, ◌++◌, length, drop, refl}
use Rattle.std.proofs.Common.{ap, sym, ◌∙◌, subst}
use Rattle.std.specs.Prelude.{◌==◌, not}
use Rattle.std.specs.List.{onto_first}
use Rattle.std.proofs.Math.Seq.{drop-append_seam, drop-length}
use Rattle.std.proofs.lemmas.Bool.{eqb-true}
use Rattle.md_meaning.specs.Lines.{begins_with, full_lines_of, is_ending}
use Rattle.md_meaning.proofs.TextsLemmas.{Both, Ending, EndsBefore, LineFeed, NoEnding, Return, ending_bytes}
use Rattle.proof_leaf_laws.specs.Front.{ending_of}
use Rattle.proof_frame.proofs.LineTexts.{without-none, without-one}

-- What the lines of a text are: none, one without an ending, or one with its ending and those after it.
pub data IsLines : List ℕ → List (List ℕ) → Type 0 where
  NoLines : IsLines [] []
  LastLine : (b : ℕ) (line : List ℕ) → NoEnding (b ∷ line) → IsLines (b ∷ line) ((b ∷ line) ∷ [])
  NextLine : (line : List ℕ) (ending : Ending) (rest : List ℕ) (more : List (List ℕ)) → NoEnding line →
      EndsBefore ending rest → IsLines rest more → more ≡ full_lines_of rest →
      IsLines (line ++ (ending_bytes ending ++ rest)) ((line ++ ending_bytes ending) ∷ more)

-- one more byte before the first line
onto-line : (b : ℕ) (text : List ℕ) (lines : List (List ℕ)) → is_ending b ≡ false → IsLines text lines →
    IsLines (b ∷ text) (onto_first b lines)
onto-line b text lines e NoLines = LastLine b [] (e, tt)
onto-line b text lines e (LastLine c line h) = LastLine b (c ∷ line) (e, h)
onto-line b text lines e (NextLine line ending rest more h before is same) =
    NextLine (b ∷ line) ending rest more (e, h) before is same

not-feed : (c : ℕ) → is_ending c ≡ false → (c == 10) ≡ false
not-feed c e = go (c == 10) (c == 13) e
  where
    go : (x y : Bool) → (x || y) ≡ false → x ≡ false
    go true y e = cc
    go false y e = refl

-- a CR before an LF
return-line : (text : List ℕ) (lines : List (List ℕ)) → begins_with 10 text ≡ true → IsLines text lines →
    IsLines (13 ∷ text) (onto_first 13 lines)
return-line text lines e NoLines = cc
return-line text lines e (LastLine c line h) = let no : false ≡ true = sym (not-feed c h.0) ∙ e in cc
return-line text lines e (NextLine [] LineFeed rest more h before is same) = NextLine [] Both rest more tt tt is same
return-line text lines e (NextLine [] Return rest more h before is same) = cc
return-line text lines e (NextLine [] Both rest more h before is same) = cc
return-line text lines e (NextLine (c ∷ line) ending rest more h before is same) =
    let no : false ≡ true = sym (not-feed c h.0) ∙ e in cc

pub full-lines : (text : List ℕ) → IsLines text (full_lines_of text)
full-lines [] = NoLines
full-lines (b ∷ bs) = go (b == 10) (b == 13) (begins_with 10 bs) refl refl refl (full-lines bs)
  where
    Goal : Bool → Type 0
    Goal x = IsLines (b ∷ bs) (cond x ((b ∷ []) ∷ full_lines_of bs) (onto_first b (full_lines_of bs)))

    go : (x y z : Bool) → (b == 10) ≡ x → (b == 13) ≡ y → begins_with 10 bs ≡ z → IsLines bs (full_lines_of bs) →
        Goal (x || (y && not z))
    go true y z e f g is =
        subst (λ (c : ℕ). IsLines (c ∷ bs) ((c ∷ []) ∷ full_lines_of bs)) (sym (eqb-true b 10 e))
        (NextLine [] LineFeed bs (full_lines_of bs) tt tt is refl)
    go false true false e f g is =
        subst (λ (c : ℕ). IsLines (c ∷ bs) ((c ∷ []) ∷ full_lines_of bs)) (sym (eqb-true b 13 f))
        (NextLine [] Return bs (full_lines_of bs) tt g is refl)
    go false true true e f g is =
        subst (λ (c : ℕ). IsLines (c ∷ bs) (onto_first c (full_lines_of bs))) (sym (eqb-true b 13 f))
        (return-line bs (full_lines_of bs) g is)
    go false false z e f g is = onto-line b bs (full_lines_of bs) (rw (e, f) refl) is

-- A line and its ending, distinguished from both.

pub ending-is : (line : List ℕ) (ending : Ending) → NoEnding line →
    ending_of (line ++ ending_bytes ending) ≡ ending_bytes ending
ending-is line ending h =
    ap (λ (l : List ℕ). drop (length l) (line ++ ending_bytes ending)) (without-one line ending h)
    ∙ drop-append_seam line (ending_bytes ending)

pub last-ending : (line : List ℕ) → NoEnding line → ending_of line ≡ []
last-ending line h =
    ap (λ (l : List ℕ). drop (length l) line) (without-none line h) ∙ drop-length line
