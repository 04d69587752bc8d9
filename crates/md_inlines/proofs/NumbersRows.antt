-- Rows that the check computes: references by number (2.5).
use Rattle.std.proofs.Common.{◌≡◌, ℕ, Bool, true, false, List, refl}
use Rattle.std.specs.Prelude.{codes}
use Rattle.md_inline_events.specs.Forest.{Forest}
use Rattle.md_inlines.proofs.Computing.{grammars}
use Rattle.md_inlines.specs.declared.TheConstants.InlineConstructs.{COMMONMARK}
use Rattle.md_inlines.specs.Content.{forest}
use Rattle.md_inlines.proofs.Shapes.{char_ref, end, text}

abbrev none : List ℕ → Bool
none label = false

-- with the constructs of CommonMark, where nothing is defined
abbrev markdown : List ℕ → Forest
markdown text = forest
    (record { constructs = COMMONMARK; gfm_strikethrough_single_tilde = true; math_text_single_dollar = true })
    none none false text

row_decimal : markdown (codes "&#35;") ≡ char_ref 1 2 end
unfolding grammars
row_decimal = refl

row_decimal_7 : markdown (codes "&#1234567;") ≡ char_ref 1 7 end
unfolding grammars
row_decimal_7 = refl

row_decimal_8 : markdown (codes "&#12345678;") ≡ text 11 end
unfolding grammars
row_decimal_8 = refl

row_hexadecimal : markdown (codes "&#X22;") ≡ char_ref 2 2 end
unfolding grammars
row_hexadecimal = refl

row_hexadecimal_small : markdown (codes "&#xcab;") ≡ char_ref 2 3 end
unfolding grammars
row_hexadecimal_small = refl

row_hexadecimal_7 : markdown (codes "&#xabcdef0;") ≡ text 11 end
unfolding grammars
row_hexadecimal_7 = refl

row_no_digit : markdown (codes "&#x;") ≡ text 4 end
unfolding grammars
row_no_digit = refl

row_no_hexadecimal : markdown (codes "&#xg;") ≡ text 5 end
unfolding grammars
row_no_hexadecimal = refl

row_no_semicolon : markdown (codes "&#35") ≡ text 4 end
unfolding grammars
row_no_semicolon = refl

row_no_emphasis : markdown (codes "&#42;a&#42;") ≡ char_ref 1 2 (text 1 (char_ref 1 2 end))
unfolding grammars
row_no_emphasis = refl
