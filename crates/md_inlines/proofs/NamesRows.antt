-- Rows that the check computes: references by name (2.5).
use Rattle.std.proofs.Common.{◌≡◌, ℕ, Bool, true, false, List, refl}
use Rattle.std.specs.Prelude.{codes}
use Rattle.md_entities.specs.Names.{is_name, names, place_of}
use Rattle.md_inline_events.specs.Forest.{Forest}
use Rattle.md_inlines.proofs.Computing.{grammars}
use Rattle.md_inlines.specs.declared.TheConstants.InlineConstructs.{COMMONMARK}
use Rattle.md_inlines.specs.Content.{forest}
use Rattle.md_inlines.proofs.Shapes.{char_ref, end, text}

abbrev none : List ℕ → Bool
none label = false

-- with the constructs of CommonMark, where nothing is defined
abbrev markdown : List ℕ → Forest
markdown text = forest
    (record { constructs = COMMONMARK; gfm_strikethrough_single_tilde = true; math_text_single_dollar = true })
    none none false text

row_amp : markdown (codes "&amp;") ≡ char_ref 0 3 end
unfolding grammars names place_of is_name
row_amp = refl

row_unknown : markdown (codes "&nosuch;") ≡ text 8 end
unfolding grammars names place_of is_name
row_unknown = refl

row_without_semicolon : markdown (codes "&copy") ≡ text 5 end
unfolding grammars names place_of is_name
row_without_semicolon = refl
