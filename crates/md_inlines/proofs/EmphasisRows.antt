-- Rows that the check computes: emphasis and strong emphasis, by the rules of 6.2.
use Rattle.std.proofs.Common.{◌≡◌, ℕ, Bool, true, false, List, ◌∷◌, ◌++◌, refl}
use Rattle.std.specs.Prelude.{codes}
use Rattle.md_inline_events.specs.Forest.{Forest}
use Rattle.md_inlines.proofs.Computing.{grammars}
use Rattle.md_inlines.specs.declared.TheConstants.InlineConstructs.{COMMONMARK}
use Rattle.md_inlines.specs.Content.{forest}
use Rattle.md_inlines.proofs.Shapes.{code_span, em, end, escaped, leads, link_of, raw_html, strong, text, uri}

abbrev none : List ℕ → Bool
none label = false

-- with the constructs of CommonMark, where nothing is defined
abbrev markdown : List ℕ → Forest
markdown text = forest
    (record { constructs = COMMONMARK; gfm_strikethrough_single_tilde = true; math_text_single_dollar = true })
    none none false text

row_rule1 : markdown (codes "*foo bar*") ≡ em (text 7 end) end
unfolding grammars
row_rule1 = refl

row_rule1_space : markdown (codes "a * foo bar*") ≡ text 12 end
unfolding grammars
row_rule1_space = refl

row_rule1_quote : markdown (codes "a*" ++ (34 ∷ (codes "foo" ++ 34 ∷ codes "*"))) ≡ text 8 end
unfolding grammars
row_rule1_quote = refl

row_rule1_word : markdown (codes "foo*bar*") ≡ text 3 (em (text 3 end) end)
unfolding grammars
row_rule1_word = refl

row_rule1_digits : markdown (codes "5*6*78") ≡ text 1 (em (text 1 end) (text 2 end))
unfolding grammars
row_rule1_digits = refl

row_rule1_dollar : markdown (codes "*$*alpha.") ≡ text 9 end
unfolding grammars
row_rule1_dollar = refl

row_rule2 : markdown (codes "_foo bar_") ≡ em (text 7 end) end
unfolding grammars
row_rule2 = refl

row_rule2_space : markdown (codes "_ foo bar_") ≡ text 10 end
unfolding grammars
row_rule2_space = refl

row_rule2_quote : markdown (codes "a_" ++ (34 ∷ (codes "foo" ++ 34 ∷ codes "_"))) ≡ text 8 end
unfolding grammars
row_rule2_quote = refl

row_rule2_word : markdown (codes "foo_bar_") ≡ text 8 end
unfolding grammars
row_rule2_word = refl

row_rule2_digits : markdown (codes "5_6_78") ≡ text 6 end
unfolding grammars
row_rule2_digits = refl

row_rule2_both : markdown (codes "aa_" ++ (34 ∷ (codes "bb" ++ 34 ∷ codes "_cc"))) ≡ text 10 end
unfolding grammars
row_rule2_both = refl

row_rule2_hyphen : markdown (codes "foo-_(bar)_") ≡ text 4 (em (text 5 end) end)
unfolding grammars
row_rule2_hyphen = refl

row_rule3_other : markdown (codes "_foo*") ≡ text 5 end
unfolding grammars
row_rule3_other = refl

row_rule3_space : markdown (codes "*foo bar *") ≡ text 10 end
unfolding grammars
row_rule3_space = refl

row_rule3_line : markdown (codes "*foo bar" ++ 10 ∷ codes "*") ≡ text 10 end
unfolding grammars
row_rule3_line = refl

row_rule3_parenthesis : markdown (codes "*(*foo)") ≡ text 7 end
unfolding grammars
row_rule3_parenthesis = refl

row_rule3_nested : markdown (codes "*(*foo*)*") ≡ em (text 1 (em (text 3 end) (text 1 end))) end
unfolding grammars
row_rule3_nested = refl

row_rule3_word : markdown (codes "*foo*bar") ≡ em (text 3 end) (text 3 end)
unfolding grammars
row_rule3_word = refl

row_rule4_space : markdown (codes "_foo bar _") ≡ text 10 end
unfolding grammars
row_rule4_space = refl

row_rule4_parenthesis : markdown (codes "_(_foo)") ≡ text 7 end
unfolding grammars
row_rule4_parenthesis = refl

row_rule4_nested : markdown (codes "_(_foo_)_") ≡ em (text 1 (em (text 3 end) (text 1 end))) end
unfolding grammars
row_rule4_nested = refl

row_rule4_word : markdown (codes "_foo_bar") ≡ text 8 end
unfolding grammars
row_rule4_word = refl

row_rule4_words : markdown (codes "_foo_bar_baz_") ≡ em (text 11 end) end
unfolding grammars
row_rule4_words = refl

row_rule4_dot : markdown (codes "_(bar)_.") ≡ em (text 5 end) (text 1 end)
unfolding grammars
row_rule4_dot = refl

row_rule5 : markdown (codes "**foo bar**") ≡ strong (text 7 end) end
unfolding grammars
row_rule5 = refl

row_rule5_space : markdown (codes "** foo bar**") ≡ text 12 end
unfolding grammars
row_rule5_space = refl

row_rule5_quote : markdown (codes "a**" ++ (34 ∷ (codes "foo" ++ 34 ∷ codes "**"))) ≡ text 10 end
unfolding grammars
row_rule5_quote = refl

row_rule5_word : markdown (codes "foo**bar**") ≡ text 3 (strong (text 3 end) end)
unfolding grammars
row_rule5_word = refl

row_rule6 : markdown (codes "__foo bar__") ≡ strong (text 7 end) end
unfolding grammars
row_rule6 = refl

row_rule6_line : markdown (codes "__" ++ 10 ∷ codes "foo bar__") ≡ text 12 end
unfolding grammars
row_rule6_line = refl

row_rule6_word : markdown (codes "foo__bar__") ≡ text 10 end
unfolding grammars
row_rule6_word = refl

row_rule6_nested : markdown (codes "__foo, __bar__, baz__") ≡ strong (text 5 (strong (text 3 end) (text 5 end))) end
unfolding grammars
row_rule6_nested = refl

row_rule6_hyphen : markdown (codes "foo-__(bar)__") ≡ text 4 (strong (text 5 end) end)
unfolding grammars
row_rule6_hyphen = refl

row_rule7_space : markdown (codes "**foo bar **") ≡ text 12 end
unfolding grammars
row_rule7_space = refl

row_rule7_parenthesis : markdown (codes "**(**foo)") ≡ text 9 end
unfolding grammars
row_rule7_parenthesis = refl

row_rule7_nested : markdown (codes "*(**foo**)*") ≡ em (text 1 (strong (text 3 end) (text 1 end))) end
unfolding grammars
row_rule7_nested = refl

row_rule7_word : markdown (codes "**foo**bar") ≡ strong (text 3 end) (text 3 end)
unfolding grammars
row_rule7_word = refl

row_rule8_space : markdown (codes "__foo bar __") ≡ text 12 end
unfolding grammars
row_rule8_space = refl

row_rule8_word : markdown (codes "__foo__bar") ≡ text 10 end
unfolding grammars
row_rule8_word = refl

row_rule8_words : markdown (codes "__foo__bar__baz__") ≡ strong (text 13 end) end
unfolding grammars
row_rule8_words = refl

row_rule8_dot : markdown (codes "__(bar)__.") ≡ strong (text 5 end) (text 1 end)
unfolding grammars
row_rule8_dot = refl

row_rule9_strong : markdown (codes "_foo __bar__ baz_") ≡ em (text 4 (strong (text 3 end) (text 4 end))) end
unfolding grammars
row_rule9_strong = refl

row_rule9_nested : markdown (codes "_foo _bar_ baz_") ≡ em (text 4 (em (text 3 end) (text 4 end))) end
unfolding grammars
row_rule9_nested = refl

row_rule9_front : markdown (codes "__foo_ bar_") ≡ em (em (text 3 end) (text 4 end)) end
unfolding grammars
row_rule9_front = refl

row_rule9_back : markdown (codes "*foo *bar**") ≡ em (text 4 (em (text 3 end) end)) end
unfolding grammars
row_rule9_back = refl

row_rule9_words : markdown (codes "*foo**bar**baz*") ≡ em (text 3 (strong (text 3 end) (text 3 end))) end
unfolding grammars
row_rule9_words = refl

row_rule9_three : markdown (codes "*foo**bar*") ≡ em (text 8 end) end
unfolding grammars
row_rule9_three = refl

row_rule9_strong_front : markdown (codes "***foo** bar*") ≡ em (strong (text 3 end) (text 4 end)) end
unfolding grammars
row_rule9_strong_front = refl

row_rule9_strong_back : markdown (codes "*foo **bar***") ≡ em (text 4 (strong (text 3 end) end)) end
unfolding grammars
row_rule9_strong_back = refl

row_rule9_strong_word : markdown (codes "*foo**bar***") ≡ em (text 3 (strong (text 3 end) end)) end
unfolding grammars
row_rule9_strong_word = refl

row_rule9_both : markdown (codes "foo***bar***baz") ≡ text 3 (em (strong (text 3 end) end) (text 3 end))
unfolding grammars
row_rule9_both = refl

row_rule9_nine : markdown (codes "foo******bar*********baz") ≡
    text 3 (strong (strong (strong (text 3 end) end) end) (text 6 end))
unfolding grammars
row_rule9_nine = refl

row_rule9_empty : markdown (codes "** is no emphasis") ≡ text 17 end
unfolding grammars
row_rule9_empty = refl

row_rule10_nested : markdown (codes "__foo _bar_ baz__") ≡ strong (text 4 (em (text 3 end) (text 4 end))) end
unfolding grammars
row_rule10_nested = refl

row_rule10_front : markdown (codes "____foo__ bar__") ≡ strong (strong (text 3 end) (text 4 end)) end
unfolding grammars
row_rule10_front = refl

row_rule10_back : markdown (codes "**foo **bar****") ≡ strong (text 4 (strong (text 3 end) end)) end
unfolding grammars
row_rule10_back = refl

row_rule10_word : markdown (codes "**foo*bar*baz**") ≡ strong (text 3 (em (text 3 end) (text 3 end))) end
unfolding grammars
row_rule10_word = refl

row_rule10_emphasis_front : markdown (codes "***foo* bar**") ≡ strong (em (text 3 end) (text 4 end)) end
unfolding grammars
row_rule10_emphasis_front = refl

row_rule10_emphasis_back : markdown (codes "**foo *bar***") ≡ strong (text 4 (em (text 3 end) end)) end
unfolding grammars
row_rule10_emphasis_back = refl

row_rule10_empty : markdown (codes "__ is no strong emphasis") ≡ text 24 end
unfolding grammars
row_rule10_empty = refl

row_rule11_three : markdown (codes "foo ***") ≡ text 7 end
unfolding grammars
row_rule11_three = refl

row_rule11_escape : markdown (codes "foo *" ++ 92 ∷ codes "**") ≡ text 4 (em (escaped end) end)
unfolding grammars
row_rule11_escape = refl

row_rule11_other : markdown (codes "foo *_*") ≡ text 4 (em (text 1 end) end)
unfolding grammars
row_rule11_other = refl

row_rule11_five : markdown (codes "foo *****") ≡ text 9 end
unfolding grammars
row_rule11_five = refl

row_rule11_strong_escape : markdown (codes "foo **" ++ 92 ∷ codes "***") ≡ text 4 (strong (escaped end) end)
unfolding grammars
row_rule11_strong_escape = refl

row_rule11_strong_other : markdown (codes "foo **_**") ≡ text 4 (strong (text 1 end) end)
unfolding grammars
row_rule11_strong_other = refl

row_rule11_outer_1 : markdown (codes "**foo*") ≡ text 1 (em (text 3 end) end)
unfolding grammars
row_rule11_outer_1 = refl

row_rule11_outer_2 : markdown (codes "*foo**") ≡ em (text 3 end) (text 1 end)
unfolding grammars
row_rule11_outer_2 = refl

row_rule11_outer_3 : markdown (codes "***foo**") ≡ text 1 (strong (text 3 end) end)
unfolding grammars
row_rule11_outer_3 = refl

row_rule11_outer_4 : markdown (codes "****foo*") ≡ text 3 (em (text 3 end) end)
unfolding grammars
row_rule11_outer_4 = refl

row_rule11_outer_5 : markdown (codes "**foo***") ≡ strong (text 3 end) (text 1 end)
unfolding grammars
row_rule11_outer_5 = refl

row_rule11_outer_6 : markdown (codes "*foo****") ≡ em (text 3 end) (text 3 end)
unfolding grammars
row_rule11_outer_6 = refl

row_rule12_three : markdown (codes "foo ___") ≡ text 7 end
unfolding grammars
row_rule12_three = refl

row_rule12_escape : markdown (codes "foo _" ++ 92 ∷ codes "__") ≡ text 4 (em (escaped end) end)
unfolding grammars
row_rule12_escape = refl

row_rule12_other : markdown (codes "foo _*_") ≡ text 4 (em (text 1 end) end)
unfolding grammars
row_rule12_other = refl

row_rule12_outer_1 : markdown (codes "__foo_") ≡ text 1 (em (text 3 end) end)
unfolding grammars
row_rule12_outer_1 = refl

row_rule12_outer_2 : markdown (codes "_foo__") ≡ em (text 3 end) (text 1 end)
unfolding grammars
row_rule12_outer_2 = refl

row_rule12_outer_3 : markdown (codes "___foo__") ≡ text 1 (strong (text 3 end) end)
unfolding grammars
row_rule12_outer_3 = refl

row_rule13 : markdown (codes "**foo**") ≡ strong (text 3 end) end
unfolding grammars
row_rule13 = refl

row_rule13_both : markdown (codes "*_foo_*") ≡ em (em (text 3 end) end) end
unfolding grammars
row_rule13_both = refl

row_rule13_four : markdown (codes "****foo****") ≡ strong (strong (text 3 end) end) end
unfolding grammars
row_rule13_four = refl

row_rule13_other : markdown (codes "_*foo*_") ≡ em (em (text 3 end) end) end
unfolding grammars
row_rule13_other = refl

row_rule14 : markdown (codes "***foo***") ≡ em (strong (text 3 end) end) end
unfolding grammars
row_rule14 = refl

row_rule14_five : markdown (codes "_____foo_____") ≡ em (strong (strong (text 3 end) end) end) end
unfolding grammars
row_rule14_five = refl

row_rule15 : markdown (codes "*foo _bar* baz_") ≡ em (text 8 end) (text 5 end)
unfolding grammars
row_rule15 = refl

row_rule15_strong : markdown (codes "*foo __bar *baz bim__ bam*") ≡
    em (text 4 (strong (text 12 end) (text 4 end))) end
unfolding grammars
row_rule15_strong = refl

row_rule16 : markdown (codes "**foo **bar baz**") ≡ text 6 (strong (text 7 end) end)
unfolding grammars
row_rule16 = refl

row_rule16_emphasis : markdown (codes "*foo *bar baz*") ≡ text 5 (em (text 7 end) end)
unfolding grammars
row_rule16_emphasis = refl

row_rule17_link : markdown (codes "*[bar*](/url)") ≡
    text 1 (link_of (text 4 end) (leads 0 false (text 4 end) 0 end) end)
unfolding grammars
row_rule17_link = refl

row_rule17_under : markdown (codes "_foo [bar_](/url)") ≡
    text 5 (link_of (text 4 end) (leads 0 false (text 4 end) 0 end) end)
unfolding grammars
row_rule17_under = refl

row_rule17_html : markdown (codes "*<img a=" ++ (34 ∷ (codes "*" ++ 34 ∷ codes "/>"))) ≡ text 1 (raw_html 12 end)
unfolding grammars
row_rule17_html = refl

row_rule17_code : markdown (codes "*a `*`*") ≡ em (text 2 (code_span 1 1 end)) end
unfolding grammars
row_rule17_code = refl

row_rule17_autolink : markdown (codes "**a<http://b.c?d=**>") ≡ text 3 (uri 15 end)
unfolding grammars
row_rule17_autolink = refl
