-- Rows that the check computes: hard and soft line breaks (6.7, 6.8).
use Rattle.std.proofs.Common.{◌≡◌, ℕ, Bool, true, false, List, ◌∷◌, ◌++◌, refl}
use Rattle.std.specs.Prelude.{codes}
use Rattle.md_inline_events.specs.Forest.{Forest}
use Rattle.md_inlines.proofs.Computing.{grammars}
use Rattle.md_inlines.specs.declared.TheConstants.InlineConstructs.{COMMONMARK}
use Rattle.md_inlines.specs.Content.{forest}
use Rattle.md_inlines.proofs.Shapes.{code_span, em, end, raw_html, spaces_break, text, trailing}

abbrev none : List ℕ → Bool
none label = false

-- with the constructs of CommonMark, where nothing is defined
abbrev markdown : List ℕ → Forest
markdown text = forest
    (record { constructs = COMMONMARK; gfm_strikethrough_single_tilde = true; math_text_single_dollar = true })
    none none false text

row_hard : markdown (codes "a  " ++ 10 ∷ codes "b") ≡ text 1 (spaces_break 2 (text 2 end))
unfolding grammars
row_hard = refl

row_soft : markdown (codes "a " ++ 10 ∷ codes "b") ≡ text 1 (trailing 1 (text 2 end))
unfolding grammars
row_soft = refl

row_many : markdown (codes "a     " ++ 10 ∷ codes "b") ≡ text 1 (spaces_break 5 (text 2 end))
unfolding grammars
row_many = refl

row_tab_before : markdown (codes "a" ++ (9 ∷ (codes "  " ++ 10 ∷ codes "b"))) ≡
    text 1 (trailing 1 (spaces_break 2 (text 2 end)))
unfolding grammars
row_tab_before = refl

row_tab_after : markdown (codes "a  " ++ 9 ∷ 10 ∷ codes "b") ≡ text 1 (trailing 3 (text 2 end))
unfolding grammars
row_tab_after = refl

row_plain : markdown (codes "a" ++ 10 ∷ codes "b") ≡ text 3 end
unfolding grammars
row_plain = refl

row_in_code : markdown (codes "`a  " ++ 10 ∷ codes "b`") ≡ code_span 1 5 end
unfolding grammars
row_in_code = refl

row_in_html : markdown (codes "<a b=" ++ (34 ∷ (codes "c  " ++ (10 ∷ (codes "d" ++ 34 ∷ codes ">"))))) ≡
    raw_html 13 end
unfolding grammars
row_in_html = refl

row_in_emphasis : markdown (codes "*a  " ++ 10 ∷ codes "b*") ≡ em (text 1 (spaces_break 2 (text 2 end))) end
unfolding grammars
row_in_emphasis = refl

row_at_end : markdown (codes "a  ") ≡ text 1 (trailing 2 end)
unfolding grammars
row_at_end = refl

row_within : markdown (codes "a  b") ≡ text 4 end
unfolding grammars
row_within = refl
