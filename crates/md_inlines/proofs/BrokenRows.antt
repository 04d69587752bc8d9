-- Rows that the check computes: brackets that are no link (6.3, 6.4).
use Rattle.std.proofs.Common.{◌≡◌, ℕ, Bool, true, false, List, ◌∷◌, ◌++◌, refl}
use Rattle.std.specs.Prelude.{codes}
use Rattle.md_inline_events.specs.Forest.{Forest}
use Rattle.md_inlines.proofs.Computing.{grammars}
use Rattle.md_inlines.specs.declared.TheConstants.InlineConstructs.{COMMONMARK}
use Rattle.md_inlines.specs.Content.{forest}
use Rattle.md_inlines.proofs.Shapes.{end, escaped, image_of, leads, link_of, raw_html, text, titled, trailing}

abbrev none : List ℕ → Bool
none label = false

-- with the constructs of CommonMark, where nothing is defined
abbrev markdown : List ℕ → Forest
markdown text = forest
    (record { constructs = COMMONMARK; gfm_strikethrough_single_tilde = true; math_text_single_dollar = true })
    none none false text

row_open : markdown (codes "[a") ≡ text 2 end
unfolding grammars
row_open = refl

row_close : markdown (codes "a]") ≡ text 2 end
unfolding grammars
row_close = refl

row_empty : markdown (codes "[]") ≡ text 2 end
unfolding grammars
row_empty = refl

row_image_empty : markdown (codes "![]") ≡ text 3 end
unfolding grammars
row_image_empty = refl

row_no_parenthesis : markdown (codes "[a](b") ≡ text 5 end
unfolding grammars
row_no_parenthesis = refl

row_angles_open : markdown (codes "[a](<b)") ≡ text 7 end
unfolding grammars
row_angles_open = refl

row_title_open : markdown (codes "[a](b 'c)") ≡ text 9 end
unfolding grammars
row_title_open = refl

row_two_destinations : markdown (codes "[a](b c)") ≡ text 8 end
unfolding grammars
row_two_destinations = refl

row_after_title : markdown (codes "[a](b 'c' d)") ≡ text 12 end
unfolding grammars
row_after_title = refl

row_title_at_angles : markdown (codes "[a](<b>'c')") ≡ text 4 (raw_html 3 (text 4 end))
unfolding grammars
row_title_at_angles = refl

row_nested_open : markdown (codes "[a](b(c)") ≡ text 8 end
unfolding grammars
row_nested_open = refl

row_title_without_destination : markdown (codes "[a]('b c')") ≡ text 10 end
unfolding grammars
row_title_without_destination = refl

row_title_parenthesis : markdown (codes "[a](b (c(d))") ≡ text 12 end
unfolding grammars
row_title_parenthesis = refl

row_lines_between : markdown (codes "[a](b" ++ 10 ∷ 32 ∷ 10 ∷ codes "'c')") ≡
    text 6 (trailing 1 (text 5 end))
unfolding grammars
row_lines_between = refl

row_control : markdown (codes "[a](b" ++ 1 ∷ codes ")") ≡ text 7 end
unfolding grammars
row_control = refl

row_image_open : markdown (codes "![a](b") ≡ text 6 end
unfolding grammars
row_image_open = refl

row_bracket_between : markdown (codes "[a] (b)") ≡ text 7 end
unfolding grammars
row_bracket_between = refl

row_reversed : markdown (codes "](a)[") ≡ text 5 end
unfolding grammars
row_reversed = refl

row_spaces : markdown (codes "[a]( b )") ≡ link_of (text 1 end) (leads 1 false (text 1 end) 1 end) end
unfolding grammars
row_spaces = refl

row_title_on_line : markdown (codes "[a](b" ++ 10 ∷ codes "'c')") ≡
    link_of (text 1 end) (leads 0 false (text 1 end) 1 (titled (text 1 end) 0)) end
unfolding grammars
row_title_on_line = refl

row_empty_lines : markdown (codes "[a](" ++ 10 ∷ codes ")") ≡ link_of (text 1 end) (leads 1 false end 0 end) end
unfolding grammars
row_empty_lines = refl

row_angles_title : markdown (codes "[a](<b> 'c')") ≡
    link_of (text 1 end) (leads 0 true (text 1 end) 1 (titled (text 1 end) 0)) end
unfolding grammars
row_angles_title = refl

row_closed_early : markdown (codes "[a](b)c)") ≡ link_of (text 1 end) (leads 0 false (text 1 end) 0 end) (text 2 end)
unfolding grammars
row_closed_early = refl

row_escaped_parenthesis : markdown (codes "[a](b" ++ 92 ∷ codes ")c)") ≡
    link_of (text 1 end) (leads 0 false (text 1 (escaped (text 1 end))) 0 end) end
unfolding grammars
row_escaped_parenthesis = refl

row_image : markdown (codes "![a](b)") ≡ image_of (text 1 end) (leads 0 false (text 1 end) 0 end) end
unfolding grammars
row_image = refl

row_two_marks : markdown (codes "!![a](b)") ≡ text 1 (image_of (text 1 end) (leads 0 false (text 1 end) 0 end) end)
unfolding grammars
row_two_marks = refl

row_empty_title : markdown (codes "[a](b " ++ 34 ∷ 34 ∷ codes ")") ≡
    link_of (text 1 end) (leads 0 false (text 1 end) 1 (titled end 0)) end
unfolding grammars
row_empty_title = refl
