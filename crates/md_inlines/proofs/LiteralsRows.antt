-- Rows that the check computes: autolink literals (GFM 6.9).
use Rattle.std.proofs.Common.{◌≡◌, ℕ, true, false, List, [], ◌∷◌, ◌++◌, refl}
use Rattle.std.specs.Prelude.{codes}
use Rattle.std.specs.Str.{bytes_eq}
use Rattle.md_engine.specs.declared.event.Name.TheVariants as n
use Rattle.md_entities.specs.Names.{is_name, names, place_of}
use Rattle.md_inline_events.specs.Forest.{Forest}
use Rattle.md_inlines.proofs.Computing.{grammars, literals, characters}
use Rattle.md_inlines.specs.declared.TheConstants.InlineConstructs.{ALL}
use Rattle.md_inlines.specs.Content.{forest}
use Rattle.md_inlines.proofs.Shapes.{code_span, em, end, image_of, leads, link_of, literal, text}

-- with every construct
abbrev extended : List ℕ → Forest
extended text = forest
    (record { constructs = ALL; gfm_strikethrough_single_tilde = true; math_text_single_dollar = true })
    (bytes_eq (codes "bar")) (bytes_eq (codes "a")) false text

row_www : extended (codes "www.commonmark.org") ≡ literal n.GfmAutolinkLiteralWww 18 end
unfolding grammars literals characters
row_www = refl

row_path : extended (codes "Visit www.commonmark.org/help for more.") ≡
    text 6 (literal n.GfmAutolinkLiteralWww 23 (text 10 end))
unfolding grammars literals characters
row_path = refl

row_last_dot : extended (codes "Visit www.commonmark.org.") ≡ text 6 (literal n.GfmAutolinkLiteralWww 18 (text 1 end))
unfolding grammars literals characters
row_last_dot = refl

row_inner_dots : extended (codes "www.commonmark.org/a.b.") ≡ literal n.GfmAutolinkLiteralWww 22 (text 1 end)
unfolding grammars literals characters
row_inner_dots = refl

row_parentheses : extended (codes "www.google.com/a+(b)") ≡ literal n.GfmAutolinkLiteralWww 20 end
unfolding grammars literals characters
row_parentheses = refl

row_unopened : extended (codes "www.google.com/a+(b))).") ≡ literal n.GfmAutolinkLiteralWww 20 (text 3 end)
unfolding grammars literals characters
row_unopened = refl

row_in_parentheses : extended (codes "(www.google.com/a+(b))") ≡
    text 1 (literal n.GfmAutolinkLiteralWww 20 (text 1 end))
unfolding grammars literals characters
row_in_parentheses = refl

row_inner_parentheses : extended (codes "www.google.com/a=(b))+ok") ≡ literal n.GfmAutolinkLiteralWww 24 end
unfolding grammars literals characters
row_inner_parentheses = refl

row_angle : extended (codes "www.commonmark.org/he<lp") ≡ literal n.GfmAutolinkLiteralWww 21 (text 3 end)
unfolding grammars literals characters
row_angle = refl

row_http : extended (codes "http://commonmark.org") ≡ literal n.GfmAutolinkLiteralProtocol 21 end
unfolding grammars literals characters
row_http = refl

row_https : extended (codes "(https://a.b)") ≡ text 1 (literal n.GfmAutolinkLiteralProtocol 11 (text 1 end))
unfolding grammars literals characters
row_https = refl

row_after_letter : extended (codes "ahttp://b.c") ≡ text 11 end
unfolding grammars literals characters
row_after_letter = refl

row_no_dot : extended (codes "http://a") ≡ text 8 end
unfolding grammars literals characters
row_no_dot = refl

row_underscore : extended (codes "www.a.b_c") ≡ text 9 end
unfolding grammars literals characters
row_underscore = refl

row_underscore_before : extended (codes "www.a_b.c.d") ≡ literal n.GfmAutolinkLiteralWww 11 end
unfolding grammars literals characters
row_underscore_before = refl

row_in_emphasis : extended (codes "*www.a.b*") ≡ em (literal n.GfmAutolinkLiteralWww 7 end) end
unfolding grammars literals characters
row_in_emphasis = refl

row_in_brackets : extended (codes "[www.a.b](u)") ≡ link_of (text 7 end) (leads 0 false (text 1 end) 0 end) end
unfolding grammars literals characters
row_in_brackets = refl

row_unclosed_bracket : extended (codes "[www.a.b") ≡ text 8 end
unfolding grammars literals characters
row_unclosed_bracket = refl

row_capitals : extended (codes "WWW.a.b") ≡ literal n.GfmAutolinkLiteralWww 7 end
unfolding grammars literals characters
row_capitals = refl

row_email : extended (codes "foo@bar.baz") ≡ literal n.GfmAutolinkLiteralEmail 11 end
unfolding grammars literals characters
row_email = refl

row_email_plus : extended (codes "a@b+c.d, but a+b@c.d is") ≡
    text 13 (literal n.GfmAutolinkLiteralEmail 7 (text 3 end))
unfolding grammars literals characters
row_email_plus = refl

row_email_marks : extended (codes "a.b-c_d@a.b") ≡ literal n.GfmAutolinkLiteralEmail 11 end
unfolding grammars literals characters
row_email_marks = refl

row_email_dot : extended (codes "a.b-c_d@a.b.") ≡ literal n.GfmAutolinkLiteralEmail 11 (text 1 end)
unfolding grammars literals characters
row_email_dot = refl

row_email_hyphen : extended (codes "a.b-c_d@a.b-") ≡ text 12 end
unfolding grammars literals characters
row_email_hyphen = refl

row_email_underscore : extended (codes "a.b-c_d@a.b_") ≡ text 12 end
unfolding grammars literals characters
row_email_underscore = refl

row_www_no_dot : extended (codes "www.a") ≡ text 5 end
unfolding grammars literals characters
row_www_no_dot = refl

row_no_semicolon : extended (codes "www.a.b/c;") ≡ literal n.GfmAutolinkLiteralWww 10 end
unfolding grammars literals characters
row_no_semicolon = refl

row_reference : extended (codes "www.google.com/a=b&hl;") ≡ literal n.GfmAutolinkLiteralWww 18 (text 4 end)
unfolding grammars literals characters names place_of is_name
row_reference = refl

row_reference_inside : extended (codes "www.google.com/a=b&hl=en") ≡ literal n.GfmAutolinkLiteralWww 24 end
unfolding grammars literals characters
row_reference_inside = refl

row_beyond_ascii : extended (codes "http://" ++ (195 ∷ (164 ∷ (codes ".b/" ++ 195 ∷ 160 ∷ [])))) ≡
    literal n.GfmAutolinkLiteralProtocol 14 end
unfolding grammars literals characters
row_beyond_ascii = refl

row_mailto : extended (codes "mailto:foo@bar.baz") ≡ literal n.GfmAutolinkLiteralMailto 18 end
unfolding grammars literals characters
row_mailto = refl

row_xmpp : extended (codes "xmpp:foo@bar.baz/txt") ≡ literal n.GfmAutolinkLiteralXmpp 20 end
unfolding grammars literals characters
row_xmpp = refl

row_xmpp_more : extended (codes "xmpp:foo@bar.baz/txt/bin") ≡ literal n.GfmAutolinkLiteralXmpp 20 (text 4 end)
unfolding grammars literals characters
row_xmpp_more = refl

row_email_in_emphasis : extended (codes "*a@b.c*") ≡ em (literal n.GfmAutolinkLiteralEmail 5 end) end
unfolding grammars literals characters
row_email_in_emphasis = refl

row_email_in_link : extended (codes "[a@b.c](u)") ≡ link_of (text 5 end) (leads 0 false (text 1 end) 0 end) end
unfolding grammars literals characters
row_email_in_link = refl

row_email_in_image : extended (codes "![b a@b.c](u)") ≡
    image_of (text 2 (literal n.GfmAutolinkLiteralEmail 5 end)) (leads 0 false (text 1 end) 0 end) end
unfolding grammars literals characters
row_email_in_image = refl

row_email_after_bracket : extended (codes "![a@b.c](u)") ≡
    image_of (text 5 end) (leads 0 false (text 1 end) 0 end) end
unfolding grammars literals characters
row_email_after_bracket = refl

row_email_in_code : extended (codes "`a@b.c`") ≡ code_span 1 5 end
unfolding grammars literals characters
row_email_in_code = refl

row_after_underscore : extended (codes "_www.a.b") ≡ text 1 (literal n.GfmAutolinkLiteralWww 7 end)
unfolding grammars literals characters
row_after_underscore = refl

row_empty_segment : extended (codes "www.a..b") ≡ text 8 end
unfolding grammars literals characters
row_empty_segment = refl

row_underscore_last_but_one : extended (codes "www.a_b.c") ≡ text 9 end
unfolding grammars literals characters
row_underscore_last_but_one = refl

row_last_tilde : extended (codes "www.a.b/c~") ≡ literal n.GfmAutolinkLiteralWww 9 (text 1 end)
unfolding grammars literals characters
row_last_tilde = refl

row_last_quote : extended (codes "www.a.b/c'") ≡ literal n.GfmAutolinkLiteralWww 10 end
unfolding grammars literals characters
row_last_quote = refl

row_open_bracket : extended (codes "[www.a.b") ≡ text 8 end
unfolding grammars literals characters
row_open_bracket = refl

row_open_bracket_space : extended (codes "[a www.b.c") ≡ text 10 end
unfolding grammars literals characters
row_open_bracket_space = refl

row_email_in_link_text : extended (codes "[x a@b.c](d)") ≡ link_of (text 7 end) (leads 0 false (text 1 end) 0 end) end
unfolding grammars literals characters
row_email_in_link_text = refl
