-- The tokens of a text, from the spans of what is in it: where parts begin and end, pieces, and the text between.
--
-- Parts that are open are listed as spans, the innermost first.
use Rattle.std.specs.Prelude.{ℕ, ◌-◌, nat_le, nat_lt, if◌then◌else◌, List, [], ◌∷◌, ◌++◌}
use Rattle.md_engine.specs.declared.event.Name.TheVariants as n
use Rattle.md_events.specs.Events.Pieces.{is_piece_name}
use Rattle.md_inline_events.specs.declared.token.Token.{Token}
use Rattle.md_inline_events.specs.declared.token.Token.TheVariants as t
use Rattle.markdown_inlines.specs.declared.span.Span.{Span}

-- text between two places, if a byte is between them
abbrev pub text : ℕ → ℕ → List Token
text at to = if nat_lt at to then t.Over n.Data (to - at) ∷ [] else []

-- What is between two places where nothing begins: the parts that end there, and text before and after each end.
abbrev pub ends : List Span → ℕ → ℕ → List Token
ends [] at to = text at to
ends (inner ∷ parts) at to =
    if nat_le inner.end to then text at inner.end ++ t.Leaves inner.name ∷ ends parts inner.end to else text at to

-- the parts that end after a place
abbrev pub still_open : List Span → ℕ → List Span
still_open [] to = []
still_open (inner ∷ parts) to = if nat_le inner.end to then still_open parts to else inner ∷ parts

-- What begins at a span: a piece, which is over it, or a part, which is open then.

abbrev pub begun : Span → Token
begun span = if is_piece_name span.name then t.Over span.name (span.end - span.start) else t.Enters span.name

abbrev pub past_begun : Span → ℕ
past_begun span = if is_piece_name span.name then span.end else span.start

abbrev pub opened : Span → List Span → List Span
opened span parts = if is_piece_name span.name then parts else span ∷ parts

-- The tokens from a place to an end, where parts are open and spans follow that are over a byte.
abbrev pub tokens_from : List Span → ℕ → List Span → ℕ → List Token
tokens_from parts at [] end = ends parts at end
tokens_from parts at (span ∷ spans) end =
    ends parts at span.start
    ++ begun span ∷ tokens_from (opened span (still_open parts span.start)) (past_begun span) spans end
