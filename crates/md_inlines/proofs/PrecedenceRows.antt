-- Rows that the check computes: which of two constructs binds, where both could begin.
use Rattle.std.proofs.Common.{◌≡◌, ℕ, true, false, List, ◌∷◌, ◌++◌, refl}
use Rattle.std.specs.Prelude.{codes}
use Rattle.std.specs.Str.{bytes_eq}
use Rattle.md_engine.specs.declared.event.Name.TheVariants as n
use Rattle.md_inline_events.specs.Forest.{Forest}
use Rattle.md_inlines.proofs.Computing.{grammars, literals}
use Rattle.md_inlines.specs.declared.TheConstants.InlineConstructs.{ALL}
use Rattle.md_inlines.specs.Content.{forest}
use Rattle.md_inlines.proofs.Shapes.{char_ref, code_span, end, escaped, literal, math_span, raw_html, spaces_break}
use Rattle.md_inlines.proofs.Shapes.{text, uri}

-- with every construct
abbrev extended : List ℕ → Forest
extended text = forest
    (record { constructs = ALL; gfm_strikethrough_single_tilde = true; math_text_single_dollar = true })
    (bytes_eq (codes "bar")) (bytes_eq (codes "a")) false text

row_code_html : extended (codes "`<a`>") ≡ code_span 1 2 (text 1 end)
unfolding grammars literals
row_code_html = refl

row_html_code : extended (codes "<a b='`'>`") ≡ raw_html 9 (text 1 end)
unfolding grammars literals
row_html_code = refl

row_code_autolink : extended (codes "`<http://a`>") ≡ code_span 1 9 (text 1 end)
unfolding grammars literals
row_code_autolink = refl

row_autolink_code : extended (codes "<http://a`b>`") ≡ uri 10 (text 1 end)
unfolding grammars literals
row_autolink_code = refl

row_escape_code : extended (92 ∷ codes "`a`") ≡ escaped (text 2 end)
unfolding grammars literals
row_escape_code = refl

row_code_escape : extended (codes "`" ++ 92 ∷ codes "``") ≡ text 1 (escaped (text 1 end))
unfolding grammars literals
row_code_escape = refl

row_code_reference : extended (codes "`&#35;`") ≡ code_span 1 5 end
unfolding grammars literals
row_code_reference = refl

row_reference_code : extended (codes "&#96;a`") ≡ char_ref 1 2 (text 2 end)
unfolding grammars literals
row_reference_code = refl

row_code_math : extended (codes "`$`$") ≡ code_span 1 1 (text 1 end)
unfolding grammars literals
row_code_math = refl

row_math_code : extended (codes "$`$`") ≡ math_span 1 1 (text 1 end)
unfolding grammars literals
row_math_code = refl

row_escape_html : extended (92 ∷ codes "<a>") ≡ escaped (text 2 end)
unfolding grammars literals
row_escape_html = refl

row_html_escape : extended (codes "<a b='" ++ 92 ∷ codes "'>") ≡ raw_html 9 end
unfolding grammars literals
row_html_escape = refl

row_html_reference : extended (codes "<a b='&#35;'>") ≡ raw_html 13 end
unfolding grammars literals
row_html_reference = refl

row_reference_html : extended (codes "&#60;a>") ≡ char_ref 1 2 (text 2 end)
unfolding grammars literals
row_reference_html = refl

row_html_math : extended (codes "<a b='$'>$") ≡ raw_html 9 (text 1 end)
unfolding grammars literals
row_html_math = refl

row_math_html : extended (codes "$<a b='$'>") ≡ math_span 1 6 (text 2 end)
unfolding grammars literals
row_math_html = refl

row_html_break : extended (codes "<a  " ++ 10 ∷ codes "b>") ≡ raw_html 7 end
unfolding grammars literals
row_html_break = refl

row_html_name_autolink : extended (codes "<ab:c>") ≡ uri 4 end
unfolding grammars literals
row_html_name_autolink = refl

row_escape_autolink : extended (92 ∷ codes "<ab:c>") ≡ escaped (text 5 end)
unfolding grammars literals
row_escape_autolink = refl

row_autolink_reference : extended (codes "<ab:?c&#35;>") ≡ uri 10 end
unfolding grammars literals
row_autolink_reference = refl

row_autolink_math : extended (codes "<ab:$>$") ≡ uri 4 (text 1 end)
unfolding grammars literals
row_autolink_math = refl

row_escape_reference : extended (92 ∷ codes "&#35;") ≡ escaped (text 4 end)
unfolding grammars literals
row_escape_reference = refl

row_escape_math : extended (92 ∷ codes "$a$") ≡ escaped (text 2 end)
unfolding grammars literals
row_escape_math = refl

row_math_escape : extended (codes "$a" ++ 92 ∷ codes "$b$") ≡ math_span 1 2 (text 2 end)
unfolding grammars literals
row_math_escape = refl

row_math_reference : extended (codes "$&#35;$") ≡ math_span 1 5 end
unfolding grammars literals
row_math_reference = refl

row_math_break : extended (codes "$a  " ++ 10 ∷ codes "b$") ≡ math_span 1 5 end
unfolding grammars literals
row_math_break = refl

row_escape_break : extended (92 ∷ 92 ∷ 10 ∷ codes "b") ≡ escaped (text 2 end)
unfolding grammars literals
row_escape_break = refl

row_backslash_space_break : extended (codes "a" ++ (92 ∷ (codes "  " ++ 10 ∷ codes "b"))) ≡
    text 2 (spaces_break 2 (text 2 end))
unfolding grammars literals
row_backslash_space_break = refl

row_literal_code : extended (codes "www.a.b/`c`") ≡ literal n.GfmAutolinkLiteralWww 11 end
unfolding grammars literals
row_literal_code = refl

row_code_literal : extended (codes "`www.a.b`") ≡ code_span 1 7 end
unfolding grammars literals
row_code_literal = refl

row_literal_in_autolink : extended (codes "<http://www.a.b>") ≡ uri 14 end
unfolding grammars literals
row_literal_in_autolink = refl

row_emphasis_code : extended (codes "*a`b*`") ≡ text 2 (code_span 1 2 end)
unfolding grammars literals
row_emphasis_code = refl

row_strike_code : extended (codes "~~a`b~~`") ≡ text 3 (code_span 1 3 end)
unfolding grammars literals
row_strike_code = refl

row_bracket_math : extended (codes "[a$](b)$") ≡ text 2 (math_span 1 4 end)
unfolding grammars literals
row_bracket_math = refl
