-- Rows that the check computes: emphasis where several rules meet (6.2, GFM 6.5).
use Rattle.std.proofs.Common.{◌≡◌, ℕ, true, false, List, refl}
use Rattle.std.specs.Prelude.{codes}
use Rattle.std.specs.Str.{bytes_eq}
use Rattle.md_inline_events.specs.Forest.{Forest}
use Rattle.md_inlines.proofs.Computing.{grammars, literals}
use Rattle.md_inlines.specs.declared.TheConstants.InlineConstructs.{ALL}
use Rattle.md_inlines.specs.Content.{forest}
use Rattle.md_inlines.proofs.Shapes.{call_of, em, end, strike, strong, text}

-- with every construct
abbrev extended : List ℕ → Forest
extended text = forest
    (record { constructs = ALL; gfm_strikethrough_single_tilde = true; math_text_single_dollar = true })
    (bytes_eq (codes "bar")) (bytes_eq (codes "a")) false text

row_crossed_1 : extended (codes "*_a*_") ≡ em (text 2 end) (text 1 end)
unfolding grammars literals
row_crossed_1 = refl

row_crossed_2 : extended (codes "_*a_*") ≡ em (text 2 end) (text 1 end)
unfolding grammars literals
row_crossed_2 = refl

row_crossed_3 : extended (codes "**a*b**c*") ≡ strong (text 3 end) (text 2 end)
unfolding grammars literals
row_crossed_3 = refl

row_crossed_4 : extended (codes "*a **b* c**") ≡ em (text 2 (em (em (text 1 end) (text 2 end)) end)) end
unfolding grammars literals
row_crossed_4 = refl

row_crossed_5 : extended (codes "**a *b** c*") ≡ em (em (text 2 (em (text 1 end) end)) (text 2 end)) end
unfolding grammars literals
row_crossed_5 = refl

row_chain : extended (codes "*a*b*c*") ≡ em (text 1 end) (text 1 (em (text 1 end) end))
unfolding grammars literals
row_chain = refl

row_one : extended (codes "*a *b*") ≡ text 3 (em (text 1 end) end)
unfolding grammars literals
row_one = refl

row_both_three : extended (codes "a***b***c") ≡ text 1 (em (strong (text 1 end) end) (text 1 end))
unfolding grammars literals
row_both_three = refl

row_strike_inner : extended (codes "~~a~b~~") ≡ strike 2 (text 3 end) end
unfolding grammars literals
row_strike_inner = refl

row_strike_outer : extended (codes "~a~~b~") ≡ strike 1 (text 4 end) end
unfolding grammars literals
row_strike_outer = refl

row_strike_word : extended (codes "a~~b~~c") ≡ text 1 (strike 2 (text 1 end) (text 1 end))
unfolding grammars literals
row_strike_word = refl

row_strike_front : extended (codes "~~ a~~") ≡ text 6 end
unfolding grammars literals
row_strike_front = refl

row_strike_back : extended (codes "~~a ~~") ≡ text 6 end
unfolding grammars literals
row_strike_back = refl

row_strike_strong : extended (codes "**~~a~~**") ≡ strong (strike 2 (text 1 end) end) end
unfolding grammars literals
row_strike_strong = refl

row_strike_three : extended (codes "~~~a~~~") ≡ text 7 end
unfolding grammars literals
row_strike_three = refl

row_call_in_brackets : extended (codes "[[^a]]") ≡ text 1 (call_of 1 (text 1 end))
unfolding grammars literals
row_call_in_brackets = refl

row_call_and_text : extended (codes "[^a]: b") ≡ call_of 1 (text 3 end)
unfolding grammars literals
row_call_and_text = refl

row_call_label : extended (codes "[^a][b]") ≡ call_of 1 (text 3 end)
unfolding grammars literals
row_call_label = refl

row_shortcut_call : extended (codes "[bar][^a]") ≡ text 5 (call_of 1 end)
unfolding grammars literals
row_shortcut_call = refl

row_size_before : extended (codes "a***b**c**") ≡ text 1 (em (strong (text 1 end) (text 1 end)) (text 1 end))
unfolding grammars literals
row_size_before = refl
