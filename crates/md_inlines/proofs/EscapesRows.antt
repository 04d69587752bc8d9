-- Rows that the check computes: escapes (2.4) and hard breaks by a backslash (6.7).
use Rattle.std.proofs.Common.{◌≡◌, ℕ, Bool, true, false, List, [], ◌∷◌, ◌++◌, refl}
use Rattle.std.specs.Prelude.{codes}
use Rattle.md_inline_events.specs.Forest.{Forest}
use Rattle.md_inlines.proofs.Computing.{grammars}
use Rattle.md_inlines.specs.declared.TheConstants.InlineConstructs.{COMMONMARK}
use Rattle.md_inlines.specs.Content.{forest}
use Rattle.md_inlines.proofs.Shapes.{backslash_break, em, end, escaped, raw_html, text, uri}

abbrev none : List ℕ → Bool
none label = false

-- with the constructs of CommonMark, where nothing is defined
abbrev markdown : List ℕ → Forest
markdown text = forest
    (record { constructs = COMMONMARK; gfm_strikethrough_single_tilde = true; math_text_single_dollar = true })
    none none false text

row_escape : markdown (92 ∷ codes "!a") ≡ escaped (text 1 end)
unfolding grammars
row_escape = refl

row_escape_of_letter : markdown (92 ∷ codes "a") ≡ text 2 end
unfolding grammars
row_escape_of_letter = refl

row_escaped_mark : markdown (92 ∷ codes "*a*") ≡ escaped (text 2 end)
unfolding grammars
row_escaped_mark = refl

row_escaped_backslash : markdown (92 ∷ 92 ∷ codes "*a*") ≡ escaped (em (text 1 end) end)
unfolding grammars
row_escaped_backslash = refl

row_backslash_break : markdown (codes "a" ++ 92 ∷ 10 ∷ codes "b") ≡ text 1 (backslash_break (text 2 end))
unfolding grammars
row_backslash_break = refl

row_backslash_at_end : markdown (codes "a" ++ 92 ∷ []) ≡ text 2 end
unfolding grammars
row_backslash_at_end = refl

row_escape_in_autolink : markdown (codes "<http://a.b?c=" ++ 92 ∷ codes "*>") ≡ uri 15 end
unfolding grammars
row_escape_in_autolink = refl

row_escape_in_html : markdown (codes "<a b=" ++ (34 ∷ (92 ∷ (codes "*" ++ 34 ∷ codes ">")))) ≡ raw_html 10 end
unfolding grammars
row_escape_in_html = refl
