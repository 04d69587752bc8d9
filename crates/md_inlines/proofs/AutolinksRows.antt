-- Rows that the check computes: autolinks (6.5).
use Rattle.std.proofs.Common.{◌≡◌, ℕ, Bool, true, false, List, ◌∷◌, ◌++◌, refl}
use Rattle.std.specs.Prelude.{codes}
use Rattle.md_inline_events.specs.Forest.{Forest}
use Rattle.md_inlines.proofs.Computing.{grammars}
use Rattle.md_inlines.specs.declared.TheConstants.InlineConstructs.{COMMONMARK}
use Rattle.md_inlines.specs.Content.{forest}
use Rattle.md_inlines.proofs.Shapes.{end, escaped, mail, text, uri}

abbrev none : List ℕ → Bool
none label = false

-- with the constructs of CommonMark, where nothing is defined
abbrev markdown : List ℕ → Forest
markdown text = forest
    (record { constructs = COMMONMARK; gfm_strikethrough_single_tilde = true; math_text_single_dollar = true })
    none none false text

row_uri : markdown (codes "<http://a.b>") ≡ uri 10 end
unfolding grammars
row_uri = refl

row_capitals : markdown (codes "<MAILTO:A@B.C>") ≡ uri 12 end
unfolding grammars
row_capitals = refl

row_scheme : markdown (codes "<a+b-c.d:>") ≡ uri 8 end
unfolding grammars
row_scheme = refl

row_short_scheme : markdown (codes "<a:b>") ≡ text 5 end
unfolding grammars
row_short_scheme = refl

row_space : markdown (codes "<ab:c d>") ≡ text 8 end
unfolding grammars
row_space = refl

row_long_scheme : markdown (codes "<abcdefghijklmnopqrstuvwxyzabcdef:>") ≡ uri 33 end
unfolding grammars
row_long_scheme = refl

row_longer_scheme : markdown (codes "<abcdefghijklmnopqrstuvwxyzabcdefg:>") ≡ text 36 end
unfolding grammars
row_longer_scheme = refl

row_email : markdown (codes "<a@b.c>") ≡ mail 5 end
unfolding grammars
row_email = refl

row_email_marks : markdown (codes "<a+b.c@d-e.f0>") ≡ mail 12 end
unfolding grammars
row_email_marks = refl

row_email_hyphen : markdown (codes "<a@-b>") ≡ text 6 end
unfolding grammars
row_email_hyphen = refl

row_email_dots : markdown (codes "<a@b..c>") ≡ text 8 end
unfolding grammars
row_email_dots = refl

row_empty : markdown (codes "<>") ≡ text 2 end
unfolding grammars
row_empty = refl

row_no_scheme : markdown (codes "<m.n.o>") ≡ text 7 end
unfolding grammars
row_no_scheme = refl

row_bare : markdown (codes "http://a.b") ≡ text 10 end
unfolding grammars
row_bare = refl

row_escaped_email : markdown (codes "<a" ++ 92 ∷ codes "+@b.c>") ≡ text 2 (escaped (text 5 end))
unfolding grammars
row_escaped_email = refl

row_digit_first : markdown (codes "<1a:b>") ≡ text 6 end
unfolding grammars
row_digit_first = refl

row_email_label : markdown (codes "<a@aaaaaaaaaaaaaaaaaaaaaaaaaaaaaaaaaaaaaaaaaaaaaaaaaaaaaaaaaaaaaaa>") ≡ mail 65 end
unfolding grammars
row_email_label = refl

row_email_long_label : markdown (codes "<a@aaaaaaaaaaaaaaaaaaaaaaaaaaaaaaaaaaaaaaaaaaaaaaaaaaaaaaaaaaaaaaaa>") ≡ text 68 end
unfolding grammars
row_email_long_label = refl

row_email_last_hyphen : markdown (codes "<a@b->") ≡ text 6 end
unfolding grammars
row_email_last_hyphen = refl
