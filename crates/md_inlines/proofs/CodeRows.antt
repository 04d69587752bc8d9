-- Rows that the check computes: code spans (6.1).
use Rattle.std.proofs.Common.{◌≡◌, ℕ, Bool, true, false, List, ◌∷◌, ◌++◌, refl}
use Rattle.std.specs.Prelude.{codes}
use Rattle.md_inline_events.specs.Forest.{Forest}
use Rattle.md_inlines.proofs.Computing.{grammars}
use Rattle.md_inlines.specs.declared.TheConstants.InlineConstructs.{COMMONMARK}
use Rattle.md_inlines.specs.Content.{forest}
use Rattle.md_inlines.proofs.Shapes.{code_span, end, raw_html, text}

abbrev none : List ℕ → Bool
none label = false

-- with the constructs of CommonMark, where nothing is defined
abbrev markdown : List ℕ → Forest
markdown text = forest
    (record { constructs = COMMONMARK; gfm_strikethrough_single_tilde = true; math_text_single_dollar = true })
    none none false text

row_code : markdown (codes "`a`") ≡ code_span 1 1 end
unfolding grammars
row_code = refl

row_longer : markdown (codes "`` a`b ``") ≡ code_span 2 5 end
unfolding grammars
row_longer = refl

row_closed_by_longer : markdown (codes "`a``") ≡ text 4 end
unfolding grammars
row_closed_by_longer = refl

row_over_emphasis : markdown (codes "*a`*`") ≡ text 2 (code_span 1 1 end)
unfolding grammars
row_over_emphasis = refl

row_no_escape : markdown (codes "`a" ++ 92 ∷ codes "`b`") ≡ code_span 1 2 (text 2 end)
unfolding grammars
row_no_escape = refl

row_over_lines : markdown (codes "`a" ++ 10 ∷ codes "b`") ≡ code_span 1 3 end
unfolding grammars
row_over_lines = refl

row_unclosed_run : markdown (codes "```a``") ≡ text 6 end
unfolding grammars
row_unclosed_run = refl

row_over_link : markdown (codes "[a`](/b)`") ≡ text 2 (code_span 1 5 end)
unfolding grammars
row_over_link = refl

row_over_html : markdown (codes "`<a b=" ++ (34 ∷ (codes "`" ++ 34 ∷ codes ">`"))) ≡ code_span 1 6 (text 3 end)
unfolding grammars
row_over_html = refl

row_html_over_code : markdown (codes "<a b=" ++ (34 ∷ (codes "`" ++ 34 ∷ codes ">`"))) ≡ raw_html 9 (text 1 end)
unfolding grammars
row_html_over_code = refl

row_two : markdown (codes "`a` `b`") ≡ code_span 1 1 (text 1 (code_span 1 1 end))
unfolding grammars
row_two = refl

row_one_closed_by_one : markdown (codes "``a`b`") ≡ text 3 (code_span 1 1 end)
unfolding grammars
row_one_closed_by_one = refl
