-- Rows that the check computes: raw HTML (6.6).
use Rattle.std.proofs.Common.{◌≡◌, ℕ, Bool, true, false, List, ◌∷◌, ◌++◌, refl}
use Rattle.std.specs.Prelude.{codes}
use Rattle.md_inline_events.specs.Forest.{Forest}
use Rattle.md_inlines.proofs.Computing.{grammars}
use Rattle.md_inlines.specs.declared.TheConstants.InlineConstructs.{COMMONMARK}
use Rattle.md_inlines.specs.Content.{forest}
use Rattle.md_inlines.proofs.Shapes.{code_span, end, escaped, raw_html, text}

abbrev none : List ℕ → Bool
none label = false

-- with the constructs of CommonMark, where nothing is defined
abbrev markdown : List ℕ → Forest
markdown text = forest
    (record { constructs = COMMONMARK; gfm_strikethrough_single_tilde = true; math_text_single_dollar = true })
    none none false text

row_opening : markdown (codes "<a><b2>") ≡ raw_html 3 (raw_html 4 end)
unfolding grammars
row_opening = refl

row_empty_element : markdown (codes "<a/><b2/>") ≡ raw_html 4 (raw_html 5 end)
unfolding grammars
row_empty_element = refl

row_attributes : markdown (codes "<a  b='c' d=" ++ (34 ∷ (codes "e" ++ 34 ∷ codes " f=g h>"))) ≡ raw_html 22 end
unfolding grammars
row_attributes = refl

row_over_lines : markdown (codes "<a b" ++ (10 ∷ (codes "c = 'd" ++ 10 ∷ codes " e' />"))) ≡ raw_html 18 end
unfolding grammars
row_over_lines = refl

row_names : markdown (codes "<a _b:c.d-e1=1>") ≡ raw_html 15 end
unfolding grammars
row_names = refl

row_name_of_digit : markdown (codes "<1>") ≡ text 3 end
unfolding grammars
row_name_of_digit = refl

row_attribute_star : markdown (codes "<a h*#b>") ≡ text 8 end
unfolding grammars
row_attribute_star = refl

row_unclosed_quote : markdown (codes "<a b=" ++ 34 ∷ codes "c>") ≡ text 8 end
unfolding grammars
row_unclosed_quote = refl

row_value_without_space : markdown (codes "<a b='c'd=e>") ≡ text 12 end
unfolding grammars
row_value_without_space = refl

row_space_before_name : markdown (codes "< a>") ≡ text 4 end
unfolding grammars
row_space_before_name = refl

row_closing : markdown (codes "</a></b2 >") ≡ raw_html 4 (raw_html 6 end)
unfolding grammars
row_closing = refl

row_closing_attribute : markdown (codes "</a b=" ++ (34 ∷ (codes "c" ++ 34 ∷ codes ">"))) ≡ text 10 end
unfolding grammars
row_closing_attribute = refl

row_comment : markdown (codes "<!-- a -- b -->c") ≡ raw_html 15 (text 1 end)
unfolding grammars
row_comment = refl

row_comment_1 : markdown (codes "<!--> a -->") ≡ raw_html 5 (text 6 end)
unfolding grammars
row_comment_1 = refl

row_comment_2 : markdown (codes "<!---> a -->") ≡ raw_html 6 (text 6 end)
unfolding grammars
row_comment_2 = refl

row_comment_3 : markdown (codes "<!----->") ≡ raw_html 8 end
unfolding grammars
row_comment_3 = refl

row_comment_open : markdown (codes "<!-- a") ≡ text 6 end
unfolding grammars
row_comment_open = refl

row_instruction : markdown (codes "<?a > b ?>c") ≡ raw_html 10 (text 1 end)
unfolding grammars
row_instruction = refl

row_instruction_short : markdown (codes "<?>") ≡ text 3 end
unfolding grammars
row_instruction_short = refl

row_declaration : markdown (codes "<!A b>") ≡ raw_html 6 end
unfolding grammars
row_declaration = refl

row_declaration_small : markdown (codes "<!x>") ≡ raw_html 4 end
unfolding grammars
row_declaration_small = refl

row_cdata : markdown (codes "<![CDATA[>&<]]>") ≡ raw_html 15 end
unfolding grammars
row_cdata = refl

row_cdata_small : markdown (codes "<![cdata[a]]>") ≡ text 13 end
unfolding grammars
row_cdata_small = refl

row_over_emphasis : markdown (codes "*a<b c=" ++ (34 ∷ (codes "*" ++ 34 ∷ codes ">"))) ≡ text 2 (raw_html 9 end)
unfolding grammars
row_over_emphasis = refl

row_escape_in_value : markdown (codes "<a b=" ++ 34 ∷ 92 ∷ 34 ∷ 34 ∷ codes ">") ≡ text 6 (escaped (text 2 end))
unfolding grammars
row_escape_in_value = refl

row_backtick_value : markdown (codes "<a b=`c`>") ≡ text 5 (code_span 1 1 (text 1 end))
unfolding grammars
row_backtick_value = refl

row_bare_value_line : markdown (codes "<a b=c" ++ 10 ∷ codes "1>") ≡ text 9 end
unfolding grammars
row_bare_value_line = refl
