-- The marks that a list of tokens gives, from any place in it: what the writer has still to do.
use Rattle.std.specs.Prelude.{ℕ, zero, suc, Bool, true, false, if◌then◌else◌, List, [], ◌∷◌, ◌++◌}
use Rattle.md_engine.specs.declared.event.Name.{Name}
use Rattle.md_inline_events.specs.Marks.{Back, Front, Mark, begins, ends, passes, stays}
use Rattle.md_inline_events.specs.declared.token.Token.{Token}
use Rattle.md_inline_events.specs.declared.token.Token.TheVariants as t

-- whether this is a piece over bytes
abbrev pub is_piece : Token → Bool
is_piece (t.Over name (suc more)) = true
is_piece _ = false

-- the name of a piece, and over how many bytes it is
abbrev pub piece_name : Token → Name
piece_name (t.Over name len) = name
piece_name (t.Enters name) = name
piece_name (t.Leaves name) = name

abbrev pub piece_len : Token → ℕ
piece_len (t.Over name len) = len
piece_len _ = 0

-- how many tokens are before the next piece
abbrev pub before_piece : List Token → ℕ
before_piece [] = 0
before_piece (token ∷ tokens) = if is_piece token then 0 else suc (before_piece tokens)

-- the names of the parts that begin among tokens
abbrev pub entering : List Token → List Name
entering [] = []
entering (t.Enters name ∷ tokens) = name ∷ entering tokens
entering (_ ∷ tokens) = entering tokens

-- the parts that end before anything else is
abbrev pub left_first : List Token → List Name
left_first [] = []
left_first (t.Enters name ∷ tokens) = []
left_first (t.Leaves name ∷ tokens) = name ∷ left_first tokens
left_first (t.Over name zero ∷ tokens) = left_first tokens
left_first (t.Over name (suc more) ∷ tokens) = []

-- what is after the last byte of a piece, where these parts end
abbrev pub back_of : List Name → Back
back_of [] = stays
back_of (name ∷ names) = ends (name ∷ names)

-- the marks of the last bytes of a piece
abbrev pub rest_marks : ℕ → List Name → List Mark
rest_marks zero closes = []
rest_marks (suc zero) closes = record { front = passes; back = back_of closes } ∷ []
rest_marks (suc (suc left)) closes = record { front = passes; back = stays } ∷ rest_marks (suc left) closes

-- a piece begins with the first of some bytes, and before it these parts
abbrev pub begun : List Name → Name → List Mark → List Mark
begun opens name [] = []
begun opens name (mark ∷ marks) = record { front = begins opens name; back = mark.back } ∷ marks

-- the marks of tokens, where these parts begin before them
abbrev pub token_marks : List Name → List Token → List Mark
token_marks opens [] = []
token_marks opens (t.Enters name ∷ tokens) = token_marks (opens ++ name ∷ []) tokens
token_marks opens (t.Leaves name ∷ tokens) = token_marks opens tokens
token_marks opens (t.Over name zero ∷ tokens) = token_marks opens tokens
token_marks opens (t.Over name (suc more) ∷ tokens) =
    begun opens name (rest_marks (suc more) (left_first tokens)) ++ token_marks [] tokens

-- the marks of what is left: so many bytes of a piece, and then tokens
abbrev pub marks_left : ℕ → List Token → List Mark
marks_left left tokens = rest_marks left (left_first tokens) ++ token_marks [] tokens

-- what is before the first of some bytes, and after it
abbrev pub first_front : List Mark → Front
first_front [] = passes
first_front (mark ∷ marks) = mark.front

abbrev pub first_back : List Mark → Back
first_back [] = stays
first_back (mark ∷ marks) = mark.back

-- what is left of the marks once what is before the first byte is written
abbrev pub passed : List Mark → List Mark
passed [] = []
passed (mark ∷ marks) = record { front = passes; back = mark.back } ∷ marks
