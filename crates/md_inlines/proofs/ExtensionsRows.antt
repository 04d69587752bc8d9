-- Rows that the check computes: strikethrough (GFM 6.5), footnote calls, and math; a footnote has the label `a`, a
-- definition `bar`.
use Rattle.std.proofs.Common.{◌≡◌, ℕ, true, false, List, ◌∷◌, ◌++◌, refl}
use Rattle.std.specs.Prelude.{codes}
use Rattle.std.specs.Str.{bytes_eq}
use Rattle.md_inline_events.specs.Forest.{Forest}
use Rattle.md_inlines.proofs.Computing.{grammars, literals}
use Rattle.md_inlines.specs.declared.TheConstants.InlineConstructs.{ALL}
use Rattle.md_inlines.specs.Content.{forest}
use Rattle.md_inlines.proofs.Shapes.{call_of, em, end, leads, link_of, math_span, strike, text}

-- with every construct
abbrev extended : List ℕ → Forest
extended text = forest
    (record { constructs = ALL; gfm_strikethrough_single_tilde = true; math_text_single_dollar = true })
    (bytes_eq (codes "bar")) (bytes_eq (codes "a")) false text

row_strike : extended (codes "~~Hi~~ Hello, ~there~ world!") ≡
    strike 2 (text 2 end) (text 8 (strike 1 (text 5 end) (text 7 end)))
unfolding grammars literals
row_strike = refl

row_three : extended (codes "~~~a~~~") ≡ text 7 end
unfolding grammars literals
row_three = refl

row_sizes : extended (codes "~a~~") ≡ text 4 end
unfolding grammars literals
row_sizes = refl

row_over_emphasis : extended (codes "*a ~b* c~") ≡ em (text 4 end) (text 3 end)
unfolding grammars literals
row_over_emphasis = refl

row_in_emphasis : extended (codes "*~~a~~*") ≡ em (strike 2 (text 1 end) end) end
unfolding grammars literals
row_in_emphasis = refl

row_around_emphasis : extended (codes "~~a *b* c~~") ≡ strike 2 (text 2 (em (text 1 end) (text 2 end))) end
unfolding grammars literals
row_around_emphasis = refl

row_call : extended (codes "[^a]") ≡ call_of 1 end
unfolding grammars literals
row_call = refl

row_call_in_text : extended (codes "b[^a].") ≡ text 1 (call_of 1 (text 1 end))
unfolding grammars literals
row_call_in_text = refl

row_call_undefined : extended (codes "[^b]") ≡ text 4 end
unfolding grammars literals
row_call_undefined = refl

row_call_space : extended (codes "[^a b]") ≡ text 6 end
unfolding grammars literals
row_call_space = refl

row_no_image : extended (codes "![^a]") ≡ text 1 (call_of 1 end)
unfolding grammars literals
row_no_image = refl

row_call_before_link : extended (codes "[^a](u)") ≡ call_of 1 (text 3 end)
unfolding grammars literals
row_call_before_link = refl

row_link_of_caret : extended (codes "[^b](u)") ≡ link_of (text 2 end) (leads 0 false (text 1 end) 0 end) end
unfolding grammars literals
row_link_of_caret = refl

row_no_image_of_caret : extended (codes "![^b](u)") ≡
    text 1 (link_of (text 2 end) (leads 0 false (text 1 end) 0 end) end)
unfolding grammars literals
row_no_image_of_caret = refl

row_call_in_link : extended (codes "[b[^a]](u)") ≡
    link_of (text 1 (call_of 1 end)) (leads 0 false (text 1 end) 0 end) end
unfolding grammars literals
row_call_in_link = refl

row_math : extended (codes "$a$") ≡ math_span 1 1 end
unfolding grammars literals
row_math = refl

row_math_two : extended (codes "$$a$b$$") ≡ math_span 2 3 end
unfolding grammars literals
row_math_two = refl

row_math_over_emphasis : extended (codes "*a$*$") ≡ text 2 (math_span 1 1 end)
unfolding grammars literals
row_math_over_emphasis = refl

row_math_unclosed : extended (codes "$a$$") ≡ text 4 end
unfolding grammars literals
row_math_unclosed = refl

row_math_backslash : extended (codes "$a" ++ 92 ∷ codes "$") ≡ math_span 1 2 end
unfolding grammars literals
row_math_backslash = refl

-- where one tilde and one dollar are no marks
abbrev without_single : List ℕ → Forest
without_single text = forest
    (record { constructs = ALL; gfm_strikethrough_single_tilde = false; math_text_single_dollar = false })
    (bytes_eq (codes "bar")) (bytes_eq (codes "a")) false text

row_single_tilde : without_single (codes "~a~") ≡ text 3 end
unfolding grammars literals
row_single_tilde = refl

row_two_tildes : without_single (codes "~~a~~") ≡ strike 2 (text 1 end) end
unfolding grammars literals
row_two_tildes = refl

row_single_dollar : without_single (codes "$a$") ≡ text 3 end
unfolding grammars literals
row_single_dollar = refl

row_two_dollars : without_single (codes "$$a$$") ≡ math_span 2 1 end
unfolding grammars literals
row_two_dollars = refl

-- where each label is that of a footnote
abbrev with_footnotes : List ℕ → Forest
with_footnotes text = forest
    (record { constructs = ALL; gfm_strikethrough_single_tilde = true; math_text_single_dollar = true })
    (λ label. false) (λ label. true) false text

row_call_other : with_footnotes (codes "[^b]") ≡ call_of 1 end
unfolding grammars literals
row_call_other = refl

row_call_other_space : with_footnotes (codes "[^a b]") ≡ text 6 end
unfolding grammars literals
row_call_other_space = refl
