-- Whether a definition may begin with a line, by the bytes of its label (CommonMark 4.7): `true` where that is not
-- known.
use Rattle.std.specs.Prelude.{ℕ, Bool, true, false, ◌||◌, ◌==◌, if◌then◌else◌, List, [], ◌∷◌}
use Rattle.md_engine.specs.Place.{is_ending}
use Rattle.md_meaning.specs.Ascii.{backslash, colon, left_bracket, right_bracket}
use Rattle.md_meaning.specs.Rest.{is_white}

-- whether a colon may come first
abbrev pub may_mark : List ℕ → Bool
may_mark [] = true
may_mark (b ∷ bytes) = b == colon

-- After `[`: whether the label may end before a colon. It ends at the first bracket that no backslash escapes; what is
-- after a backslash, or on a further line, is not known.
abbrev pub may_close : List ℕ → Bool
may_close [] = true
may_close (b ∷ bytes) =
    if is_ending b || (b == backslash) then true
    else if b == left_bracket then false
    else if b == right_bracket then may_mark bytes
    else may_close bytes

-- from the start of a line on
abbrev pub may_define_in : List ℕ → Bool
may_define_in [] = true
may_define_in (b ∷ bytes) = if is_white b then true else if b == left_bracket then may_close bytes else false
