-- Rows that the check computes: checks of task items (GFM 5.3), in the first paragraph of an item.
use Rattle.std.proofs.Common.{◌≡◌, ℕ, true, false, List, ◌∷◌, ◌++◌, refl}
use Rattle.std.specs.Prelude.{codes}
use Rattle.std.specs.Str.{bytes_eq}
use Rattle.md_engine.specs.declared.event.Name.TheVariants as n
use Rattle.md_inline_events.specs.Forest.{Forest}
use Rattle.md_inlines.proofs.Computing.{grammars, literals}
use Rattle.md_inlines.specs.declared.TheConstants.InlineConstructs.{ALL}
use Rattle.md_inlines.specs.Content.{forest}
use Rattle.md_inlines.proofs.Shapes.{em, end, task, text}

-- with every construct, in the first paragraph of an item
abbrev first_of_item : List ℕ → Forest
first_of_item text = forest
    (record { constructs = ALL; gfm_strikethrough_single_tilde = true; math_text_single_dollar = true })
    (bytes_eq (codes "bar")) (bytes_eq (codes "a")) true text

row_open : first_of_item (codes "[ ] foo") ≡ task n.GfmTaskListItemValueUnchecked (text 4 end)
unfolding grammars literals
row_open = refl

row_done : first_of_item (codes "[x] bar") ≡ task n.GfmTaskListItemValueChecked (text 4 end)
unfolding grammars literals
row_done = refl

row_capital : first_of_item (codes "[X] *a*") ≡ task n.GfmTaskListItemValueChecked (text 1 (em (text 1 end) end))
unfolding grammars literals
row_capital = refl

row_line : first_of_item (codes "[x]" ++ 10 ∷ codes "a") ≡ task n.GfmTaskListItemValueChecked (text 2 end)
unfolding grammars literals
row_line = refl

row_no_space : first_of_item (codes "[x]b") ≡ text 4 end
unfolding grammars literals
row_no_space = refl

row_two_spaces : first_of_item (codes "[  ] a") ≡ text 6 end
unfolding grammars literals
row_two_spaces = refl

row_not_first : first_of_item (codes " [x] a") ≡ text 6 end
unfolding grammars literals
row_not_first = refl

row_other : first_of_item (codes "[y] a") ≡ text 5 end
unfolding grammars literals
row_other = refl

row_tab : first_of_item (91 ∷ 9 ∷ codes "] a") ≡ text 5 end
unfolding grammars literals
row_tab = refl

-- in any other paragraph
abbrev further : List ℕ → Forest
further text = forest
    (record { constructs = ALL; gfm_strikethrough_single_tilde = true; math_text_single_dollar = true })
    (bytes_eq (codes "bar")) (bytes_eq (codes "a")) false text

row_further : further (codes "[x] a") ≡ text 5 end
unfolding grammars literals
row_further = refl
