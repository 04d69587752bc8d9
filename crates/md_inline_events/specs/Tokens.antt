-- Forests as lists: where parts begin and end, and the pieces between, in the order of the text. This is what a reader
-- that goes from left to right has, and what a writer of events goes through without a stack.
use Rattle.std.specs.Prelude.{suc, zero, Bool, true, false, if◌then◌else◌, List, [], ◌∷◌, ◌++◌}
use Rattle.md_engine.specs.declared.event.Name.{Name}
use Rattle.md_inline_events.specs.Forest.{Forest, nothing, part, piece}
use Rattle.md_inline_events.specs.declared.token.Token.{Token}
use Rattle.md_inline_events.specs.declared.token.Token.TheVariants as t

-- a part around the tokens of its content; one that is over no byte has none
abbrev pub around : Name → List Token → List Token
around name [] = []
around name (token ∷ tokens) = t.Enters name ∷ (token ∷ tokens) ++ t.Leaves name ∷ []

abbrev pub tokens : Forest → List Token
tokens nothing = []
tokens (piece name more following) = t.Over name (suc more) ∷ tokens following
tokens (part name inside following) = around name (tokens inside) ++ tokens following

-- a piece over no byte is a place that is kept free
abbrev pub is_live : Token → Bool
is_live (t.Over name zero) = false
is_live _ = true

abbrev pub live : List Token → List Token
live [] = []
live (token ∷ tokens) = if is_live token then token ∷ live tokens else live tokens
