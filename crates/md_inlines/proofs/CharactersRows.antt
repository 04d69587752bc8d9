-- Rows that the check computes: the characters beside runs, beyond ASCII (2.1, 6.2).
use Rattle.std.proofs.Common.{◌≡◌, ℕ, Bool, true, false, List, ◌∷◌, ◌++◌, refl}
use Rattle.std.specs.Prelude.{codes}
use Rattle.md_inline_events.specs.Forest.{Forest}
use Rattle.md_inlines.proofs.Computing.{grammars, characters}
use Rattle.md_inlines.specs.declared.TheConstants.InlineConstructs.{COMMONMARK}
use Rattle.md_inlines.specs.Content.{forest}
use Rattle.md_inlines.proofs.Shapes.{em, end, text}

abbrev none : List ℕ → Bool
none label = false

-- with the constructs of CommonMark, where nothing is defined
abbrev markdown : List ℕ → Forest
markdown text = forest
    (record { constructs = COMMONMARK; gfm_strikethrough_single_tilde = true; math_text_single_dollar = true })
    none none false text

row_no_break_space : markdown (codes "*" ++ (194 ∷ (160 ∷ (codes "a" ++ 194 ∷ 160 ∷ codes "*")))) ≡ text 7 end
unfolding grammars characters
row_no_break_space = refl

row_pound : markdown (codes "*" ++ 194 ∷ 163 ∷ codes "*bravo.") ≡ text 10 end
unfolding grammars characters
row_pound = refl

row_euro : markdown (codes "*" ++ 226 ∷ 130 ∷ 172 ∷ codes "*charlie.") ≡ text 13 end
unfolding grammars characters
row_euro = refl

row_cyrillic_under : markdown (208 ∷ (176 ∷ (codes "_" ++ 208 ∷ 177 ∷ codes "_"))) ≡ text 6 end
unfolding grammars characters
row_cyrillic_under = refl

row_cyrillic : markdown (208 ∷ (176 ∷ (codes "*" ++ 208 ∷ 177 ∷ codes "*"))) ≡ text 2 (em (text 2 end) end)
unfolding grammars characters
row_cyrillic = refl

row_quotes : markdown (208 ∷ (176 ∷ (codes "*" ++ 194 ∷ 171 ∷ 208 ∷ 177 ∷ 194 ∷ 187 ∷ codes "*"))) ≡ text 10 end
unfolding grammars characters
row_quotes = refl

row_form_feed : markdown (codes "*" ++ 12 ∷ codes "a*") ≡ text 4 end
unfolding grammars characters
row_form_feed = refl

row_no_utf_8 : markdown (codes "a*" ++ 192 ∷ 128 ∷ codes "b*") ≡ text 1 (em (text 3 end) end)
unfolding grammars characters
row_no_utf_8 = refl
