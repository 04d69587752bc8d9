-- The grammar of events: in which names a name may be, in which order, and how often.
--
-- The names that are directly in a part make a word, and `inside` says which words each name allows, as the table of
-- names has it: regular expressions over names. Pieces of the text hold nothing.
use Rattle.std.specs.Prelude.{Bool, false, if◌then◌else◌, List, [], ◌∷◌}
use Rattle.std.specs.List.{list_any}
use Rattle.md_engine.specs.declared.event.Event.{Event}
use Rattle.md_engine.specs.declared.event.Kind.{Kind}
use Rattle.md_engine.specs.declared.event.Kind.TheVariants.{Enter, Exit}
use Rattle.md_engine.specs.declared.event.Name.{Name}
use Rattle.md_engine.specs.declared.event.Name.TheVariants as n
use Rattle.md_events.specs.Events.Names.{facts}
pub use Rattle.md_events.specs.Events.Names.{after_block, block, blocks}
pub use Rattle.md_events.specs.Events.Words.{Expression, Many, Never, Nothing, One, Or, Then, and_then, following}
pub use Rattle.md_events.specs.Events.Words.{line_break, may_end, next_line, one, optional, or_else, plain_text}
pub use Rattle.md_events.specs.Events.Words.{prefixes, some, unread_text, white}

-- What is in a part of each name, where this is in text parts.
abbrev pub inside : Expression → Name → Expression
inside text name = (facts name).inside text

-- What is left.

-- For each part that is open, the innermost first, what may still come in it. An exit needs that nothing must.
abbrev pub left_after : Expression → List Expression → Kind → Name → List Expression
left_after text [] kind name = []
left_after text (x ∷ xs) Enter name = inside text name ∷ following name x ∷ xs
left_after text (x ∷ xs) Exit name = if may_end x then xs else []

abbrev pub left_of : Expression → List Expression → List Event → List Expression
left_of text stack [] = stack
left_of text stack (e ∷ es) = left_of text (left_after text stack e.kind e.name) es

-- nothing but the text is open, and it may end
abbrev pub is_whole : List Expression → Bool
is_whole [] = false
is_whole (x ∷ []) = may_end x
is_whole (x ∷ y ∷ ys) = false

-- A text: blocks, with a byte order mark or frontmatter in front, or both.
abbrev pub texts : List Expression
texts =
    blocks ∷ Then (one n.ByteOrderMark) blocks ∷ Then (one n.Frontmatter) after_block
    ∷ Then (one n.ByteOrderMark) (Then (one n.Frontmatter) after_block) ∷ []

-- Whether events keep the grammar, where this is in text parts.
unfoldable pub keeps_grammar : Expression → List Event → Bool
keeps_grammar text events = list_any (λ (x : Expression). is_whole (left_of text (x ∷ []) events)) texts
