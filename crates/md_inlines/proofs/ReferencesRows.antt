-- Rows that the check computes: links by references (6.3); these labels are those of definitions: `bar`, `ref`, `foo*`.
use Rattle.std.proofs.Common.{◌≡◌, ℕ, Bool, true, false, List, [], ◌∷◌, ◌++◌, refl}
use Rattle.std.specs.Prelude.{codes}
use Rattle.std.specs.List.{list_any}
use Rattle.std.specs.Str.{bytes_eq}
use Rattle.md_inline_events.specs.Forest.{Forest}
use Rattle.md_inlines.proofs.Computing.{grammars}
use Rattle.md_inlines.specs.declared.TheConstants.InlineConstructs.{COMMONMARK}
use Rattle.md_inlines.specs.Content.{forest}
use Rattle.md_inlines.proofs.Shapes.{code_span, em, end, escaped, image_of, leads, link_of, refers, text}

abbrev defined : List ℕ → Bool
defined label = list_any (λ known. bytes_eq known label) (codes "bar" ∷ codes "ref" ∷ codes "foo*" ∷ [])

abbrev with_labels : List ℕ → Forest
with_labels text = forest
    (record { constructs = COMMONMARK; gfm_strikethrough_single_tilde = true; math_text_single_dollar = true })
    defined (λ label. false) false text

row_full : with_labels (codes "[foo][bar]") ≡ link_of (text 3 end) (refers (text 3 end)) end
unfolding grammars
row_full = refl

row_brackets_in_text : with_labels (codes "[a [b [c]]][ref]") ≡ link_of (text 9 end) (refers (text 3 end)) end
unfolding grammars
row_brackets_in_text = refl

row_around_link : with_labels (codes "[a [b](/u)][ref]") ≡
    text 3 (link_of (text 1 end) (leads 0 false (text 2 end) 0 end) (text 1 (link_of (text 3 end) end end)))
unfolding grammars
row_around_link = refl

row_around_deep : with_labels (codes "[a *b [c][ref]*][ref]") ≡
    text 3 (em (text 2 (link_of (text 1 end) (refers (text 3 end)) end)) (text 1 (link_of (text 3 end) end end)))
unfolding grammars
row_around_deep = refl

row_emphasis_before : with_labels (codes "*[a*][ref]") ≡ text 1 (link_of (text 2 end) (refers (text 3 end)) end)
unfolding grammars
row_emphasis_before = refl

row_emphasis_after : with_labels (codes "[a *b][ref]*") ≡ link_of (text 4 end) (refers (text 3 end)) (text 1 end)
unfolding grammars
row_emphasis_after = refl

row_code : with_labels (codes "[a`][ref]`") ≡ text 2 (code_span 1 6 end)
unfolding grammars
row_code = refl

row_space : with_labels (codes "[a] [bar]") ≡ text 4 (link_of (text 3 end) end end)
unfolding grammars
row_space = refl

row_bracket_in_label : with_labels (codes "[a][ref[]") ≡ text 9 end
unfolding grammars
row_bracket_in_label = refl

row_collapsed : with_labels (codes "[bar][]") ≡ link_of (text 3 end) (refers end) end
unfolding grammars
row_collapsed = refl

row_shortcut : with_labels (codes "[bar]") ≡ link_of (text 3 end) end end
unfolding grammars
row_shortcut = refl

row_shortcut_brackets : with_labels (codes "[[bar]]") ≡ text 1 (link_of (text 3 end) end (text 1 end))
unfolding grammars
row_shortcut_brackets = refl

row_shortcut_inner : with_labels (codes "[[a [bar]") ≡ text 4 (link_of (text 3 end) end end)
unfolding grammars
row_shortcut_inner = refl

row_shortcut_text : with_labels (codes "[bar] a") ≡ link_of (text 3 end) end (text 2 end)
unfolding grammars
row_shortcut_text = refl

row_escaped : with_labels (92 ∷ codes "[bar]") ≡ escaped (text 4 end)
unfolding grammars
row_escaped = refl

row_emphasis_label : with_labels (codes "*[foo*]") ≡ text 1 (link_of (text 4 end) end end)
unfolding grammars
row_emphasis_label = refl

row_resource_first : with_labels (codes "[bar]()") ≡ link_of (text 3 end) (leads 0 false end 0 end) end
unfolding grammars
row_resource_first = refl

row_no_resource : with_labels (codes "[bar](not a link)") ≡ link_of (text 3 end) end (text 12 end)
unfolding grammars
row_no_resource = refl

row_three_last : with_labels (codes "[a][b][ref]") ≡ text 3 (link_of (text 1 end) (refers (text 3 end)) end)
unfolding grammars
row_three_last = refl

row_three_first : with_labels (codes "[a][bar][ref]") ≡
    link_of (text 1 end) (refers (text 3 end)) (link_of (text 3 end) end end)
unfolding grammars
row_three_first = refl

row_three_undefined : with_labels (codes "[bar][a][ref]") ≡ text 5 (link_of (text 1 end) (refers (text 3 end)) end)
unfolding grammars
row_three_undefined = refl

row_undefined_label : with_labels (codes "[bar][a]") ≡ text 8 end
unfolding grammars
row_undefined_label = refl

row_blank_label : with_labels (codes "[bar][ ]") ≡ link_of (text 3 end) end (text 3 end)
unfolding grammars
row_blank_label = refl

row_blank : with_labels (codes "[ ]") ≡ text 3 end
unfolding grammars
row_blank = refl

row_undefined : with_labels (codes "[a]") ≡ text 3 end
unfolding grammars
row_undefined = refl

row_image : with_labels (codes "![bar]") ≡ image_of (text 3 end) end end
unfolding grammars
row_image = refl

row_image_full : with_labels (codes "![a][bar]") ≡ image_of (text 1 end) (refers (text 3 end)) end
unfolding grammars
row_image_full = refl

row_image_collapsed : with_labels (codes "![bar][]") ≡ image_of (text 3 end) (refers end) end
unfolding grammars
row_image_collapsed = refl

row_image_escaped : with_labels (codes "!" ++ 92 ∷ codes "[bar]") ≡ text 1 (escaped (text 4 end))
unfolding grammars
row_image_escaped = refl

row_link_after_escape : with_labels (92 ∷ codes "![bar]") ≡ escaped (link_of (text 3 end) end end)
unfolding grammars
row_link_after_escape = refl

row_image_brackets : with_labels (codes "![[bar]]") ≡ text 2 (link_of (text 3 end) end (text 1 end))
unfolding grammars
row_image_brackets = refl

row_image_space : with_labels (codes "![bar] []") ≡ image_of (text 3 end) end (text 3 end)
unfolding grammars
row_image_space = refl

row_image_in_image : with_labels (codes "![a ![b](/u)](/v)") ≡
    image_of (text 2 (image_of (text 1 end) (leads 0 false (text 2 end) 0 end) end)) (leads 0 false (text 2 end) 0
    end) end
unfolding grammars
row_image_in_image = refl

row_link_in_image : with_labels (codes "![a [b](/u)](/v)") ≡
    image_of (text 2 (link_of (text 1 end) (leads 0 false (text 2 end) 0 end) end)) (leads 0 false (text 2 end) 0 end)
    end
unfolding grammars
row_link_in_image = refl

row_code_bracket : with_labels (codes "[a`]`][ref]") ≡ link_of (text 1 (code_span 1 1 end)) (refers (text 3 end)) end
unfolding grammars
row_code_bracket = refl
