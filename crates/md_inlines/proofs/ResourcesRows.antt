-- Rows that the check computes: links with resources (6.3).
use Rattle.std.proofs.Common.{◌≡◌, ℕ, Bool, true, false, List, ◌∷◌, ◌++◌, refl}
use Rattle.std.specs.Prelude.{codes}
use Rattle.md_inline_events.specs.Forest.{Forest}
use Rattle.md_inlines.proofs.Computing.{grammars}
use Rattle.md_inlines.specs.declared.TheConstants.InlineConstructs.{COMMONMARK}
use Rattle.md_inlines.specs.Content.{forest}
use Rattle.md_inlines.proofs.Shapes.{char_ref, code_span, em, end, escaped, image_of, leads, link_of, raw_html, strong}
use Rattle.md_inlines.proofs.Shapes.{text, titled, uri}

abbrev none : List ℕ → Bool
none label = false

-- with the constructs of CommonMark, where nothing is defined
abbrev markdown : List ℕ → Forest
markdown text = forest
    (record { constructs = COMMONMARK; gfm_strikethrough_single_tilde = true; math_text_single_dollar = true })
    none none false text

row_title : markdown (codes "[link](/uri " ++ (34 ∷ (codes "title" ++ 34 ∷ codes ")"))) ≡
    link_of (text 4 end) (leads 0 false (text 4 end) 1 (titled (text 5 end) 0)) end
unfolding grammars
row_title = refl

row_destination : markdown (codes "[link](/uri)") ≡ link_of (text 4 end) (leads 0 false (text 4 end) 0 end) end
unfolding grammars
row_destination = refl

row_no_text : markdown (codes "[](./a.md)") ≡ link_of end (leads 0 false (text 6 end) 0 end) end
unfolding grammars
row_no_text = refl

row_empty : markdown (codes "[link]()") ≡ link_of (text 4 end) (leads 0 false end 0 end) end
unfolding grammars
row_empty = refl

row_angles_empty : markdown (codes "[link](<>)") ≡ link_of (text 4 end) (leads 0 true end 0 end) end
unfolding grammars
row_angles_empty = refl

row_space : markdown (codes "[link](/my uri)") ≡ text 15 end
unfolding grammars
row_space = refl

row_angles_space : markdown (codes "[link](</my uri>)") ≡ link_of (text 4 end) (leads 0 true (text 7 end) 0 end) end
unfolding grammars
row_angles_space = refl

row_line : markdown (codes "[link](foo" ++ 10 ∷ codes "bar)") ≡ text 15 end
unfolding grammars
row_line = refl

row_angles_line : markdown (codes "[link](<foo" ++ 10 ∷ codes "bar>)") ≡ text 7 (raw_html 9 (text 1 end))
unfolding grammars
row_angles_line = refl

row_angles_parenthesis : markdown (codes "[a](<b)c>)") ≡ link_of (text 1 end) (leads 0 true (text 3 end) 0 end) end
unfolding grammars
row_angles_parenthesis = refl

row_angles_escape : markdown (codes "[link](<foo" ++ 92 ∷ codes ">)") ≡ text 11 (escaped (text 1 end))
unfolding grammars
row_angles_escape = refl

row_escaped : markdown (codes "[link](" ++ (92 ∷ (codes "(foo" ++ 92 ∷ codes "))"))) ≡
    link_of (text 4 end) (leads 0 false (escaped (text 3 (escaped end))) 0 end) end
unfolding grammars
row_escaped = refl

row_balanced : markdown (codes "[link](foo(and(bar)))") ≡ link_of (text 4 end) (leads 0 false (text 13 end) 0 end) end
unfolding grammars
row_balanced = refl

row_unbalanced : markdown (codes "[link](foo(and(bar))") ≡ text 20 end
unfolding grammars
row_unbalanced = refl

row_angles_unbalanced : markdown (codes "[link](<foo(and(bar)>)") ≡
    link_of (text 4 end) (leads 0 true (text 12 end) 0 end) end
unfolding grammars
row_angles_unbalanced = refl

row_escaped_mark : markdown (codes "[link](foo" ++ (92 ∷ (codes ")" ++ 92 ∷ codes ":)"))) ≡
    link_of (text 4 end) (leads 0 false (text 3 (escaped (escaped end))) 0 end) end
unfolding grammars
row_escaped_mark = refl

row_fragment : markdown (codes "[link](#fragment)") ≡ link_of (text 4 end) (leads 0 false (text 9 end) 0 end) end
unfolding grammars
row_fragment = refl

row_backslash : markdown (codes "[link](foo" ++ 92 ∷ codes "bar)") ≡
    link_of (text 4 end) (leads 0 false (text 7 end) 0 end) end
unfolding grammars
row_backslash = refl

row_title_as_destination : markdown (codes "[link](" ++ (34 ∷ (codes "title" ++ 34 ∷ codes ")"))) ≡
    link_of (text 4 end) (leads 0 false (text 7 end) 0 end) end
unfolding grammars
row_title_as_destination = refl

row_title_single : markdown (codes "[link](/url 'title')") ≡
    link_of (text 4 end) (leads 0 false (text 4 end) 1 (titled (text 5 end) 0)) end
unfolding grammars
row_title_single = refl

row_title_parentheses : markdown (codes "[link](/url (title))") ≡
    link_of (text 4 end) (leads 0 false (text 4 end) 1 (titled (text 5 end) 0)) end
unfolding grammars
row_title_parentheses = refl

row_title_quotes : markdown (codes "[link](/url " ++ (34 ∷ (codes "title " ++
    (34 ∷ (codes "and" ++ (34 ∷ (codes " title" ++ 34 ∷ codes ")"))))))) ≡
    text 32 end
unfolding grammars
row_title_quotes = refl

row_title_other_quotes : markdown (codes "[link](/url 'title " ++ (34 ∷ (codes "and" ++ 34 ∷ codes " title')"))) ≡
    link_of (text 4 end) (leads 0 false (text 4 end) 1 (titled (text 17 end) 0)) end
unfolding grammars
row_title_other_quotes = refl

row_title_escape : markdown (codes "[link](/url " ++ (34 ∷ (codes "a" ++
    (92 ∷ (34 ∷ (codes "b" ++ 34 ∷ codes ")")))))) ≡
    link_of (text 4 end) (leads 0 false (text 4 end) 1 (titled (text 1 (escaped (text 1 end))) 0)) end
unfolding grammars
row_title_escape = refl

row_whitespace : markdown (codes "[link](   /uri" ++ (10 ∷ (34 ∷ (codes "title" ++ 34 ∷ codes "  )")))) ≡
    link_of (text 4 end) (leads 3 false (text 4 end) 1 (titled (text 5 end) 2)) end
unfolding grammars
row_whitespace = refl

row_space_before : markdown (codes "[link] (/uri)") ≡ text 13 end
unfolding grammars
row_space_before = refl

row_nested : markdown (codes "[link [foo [bar]]](/uri)") ≡
    link_of (text 16 end) (leads 0 false (text 4 end) 0 end) end
unfolding grammars
row_nested = refl

row_closed_before : markdown (codes "[link] bar](/uri)") ≡ text 17 end
unfolding grammars
row_closed_before = refl

row_inner : markdown (codes "[link [bar](/uri)") ≡
    text 6 (link_of (text 3 end) (leads 0 false (text 4 end) 0 end) end)
unfolding grammars
row_inner = refl

row_escaped_bracket : markdown (codes "[link " ++ 92 ∷ codes "[bar](/uri)") ≡
    link_of (text 5 (escaped (text 3 end))) (leads 0 false (text 4 end) 0 end) end
unfolding grammars
row_escaped_bracket = refl

row_inlines : markdown (codes "[link *foo **bar** `#`*](/uri)") ≡
    link_of (text 5 (em (text 4 (strong (text 3 end) (text 1 (code_span 1 1 end)))) end)) (leads 0 false (text 4 end)
    0 end) end
unfolding grammars
row_inlines = refl

row_image : markdown (codes "[![moon](moon.jpg)](/uri)") ≡
    link_of (image_of (text 4 end) (leads 0 false (text 8 end) 0 end) end) (leads 0 false (text 4 end) 0 end) end
unfolding grammars
row_image = refl

row_around_link : markdown (codes "[foo [bar](/uri)](/uri)") ≡
    text 5 (link_of (text 3 end) (leads 0 false (text 4 end) 0 end) (text 7 end))
unfolding grammars
row_around_link = refl

row_around_deep : markdown (codes "[foo *[bar [baz](/u)](/u)*](/u)") ≡
    text 5 (em (text 5 (link_of (text 3 end) (leads 0 false (text 2 end) 0 end) (text 5 end))) (text 5 end))
unfolding grammars
row_around_deep = refl

row_image_around_link : markdown (codes "![[[foo](uri1)](uri2)](uri3)") ≡
    image_of (text 1 (link_of (text 3 end) (leads 0 false (text 4 end) 0 end) (text 7 end))) (leads 0 false (text 4
    end) 0 end) end
unfolding grammars
row_image_around_link = refl

row_emphasis_before : markdown (codes "*[foo*](/uri)") ≡
    text 1 (link_of (text 4 end) (leads 0 false (text 4 end) 0 end) end)
unfolding grammars
row_emphasis_before = refl

row_emphasis_after : markdown (codes "[foo *bar](baz*)") ≡ link_of (text 8 end) (leads 0 false (text 4 end) 0 end) end
unfolding grammars
row_emphasis_after = refl

row_emphasis_over_bracket : markdown (codes "*foo [bar* baz]") ≡ em (text 8 end) (text 5 end)
unfolding grammars
row_emphasis_over_bracket = refl

row_html_in_text : markdown (codes "[foo <bar attr=" ++ (34 ∷ (codes "](baz)" ++ 34 ∷ codes ">"))) ≡
    text 5 (raw_html 19 end)
unfolding grammars
row_html_in_text = refl

row_autolink_in_text : markdown (codes "[foo<http://a.b?c=](uri)>") ≡ text 4 (uri 19 end)
unfolding grammars
row_autolink_in_text = refl

row_autolink_bars_nothing : markdown (codes "[a <http://b.c>](d)") ≡
    link_of (text 2 (uri 10 end)) (leads 0 false (text 1 end) 0 end) end
unfolding grammars
row_autolink_bars_nothing = refl

row_depth_32 : markdown (codes "[a]((((((((((((((((((((((((((((((((()))))))))))))))))))))))))))))))))") ≡
    link_of (text 1 end) (leads 0 false (text 64 end) 0 end) end
unfolding grammars
row_depth_32 = refl

row_depth_33 : markdown (codes "[a](((((((((((((((((((((((((((((((((())))))))))))))))))))))))))))))))))") ≡
    text 71 end
unfolding grammars
row_depth_33 = refl

row_reference_in_destination : markdown (codes "[a](b&#35;)") ≡
    link_of (text 1 end) (leads 0 false (text 1 (char_ref 1 2 end)) 0 end) end
unfolding grammars
row_reference_in_destination = refl

row_reference_in_title : markdown (codes "[a](b '&#35;')") ≡
    link_of (text 1 end) (leads 0 false (text 1 end) 1 (titled (char_ref 1 2 end) 0)) end
unfolding grammars
row_reference_in_title = refl
