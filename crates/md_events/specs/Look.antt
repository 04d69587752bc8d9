-- What is first after whitespace: by it alone most trials are refused, before they begin.
use Rattle.std.specs.Prelude.{ℕ, Bool, true, false, not, if◌then◌else◌, List, [], ◌∷◌, Option, Some, None, slice_range}
use Rattle.md_engine.specs.Meaning.{Cell}
use Rattle.md_engine.specs.Place.{is_ending}
use Rattle.md_engine.specs.KnownRun.{is_of_run}
use Rattle.md_engine.specs.World.{World}
use Rattle.md_meaning.specs.Rest.{is_white}

-- the byte of the first cell, if there is one
abbrev pub first_seen : List Cell → Option ℕ
first_seen [] = None
first_seen (c ∷ cs) = Some c.byte

-- the byte of the first cell after whitespace
abbrev pub seen_after : List Cell → Option ℕ
seen_after [] = None
seen_after (c ∷ cs) = if is_white c.byte then seen_after cs else Some c.byte

-- a byte as a state sees it
abbrev pub as_seen : ℕ → ℕ
as_seen b = if is_ending b then 10 else b

-- the first byte after whitespace, as a state sees it
abbrev pub first_following : List ℕ → Option ℕ
first_following [] = None
first_following (b ∷ bytes) = if is_white b then first_following bytes else Some (as_seen b)

-- by what is here, and by what is first after whitespace
abbrev pub following_code : Option ℕ → Option ℕ → Option ℕ
following_code None found = None
following_code (Some b) found = if is_white b then found else Some b

-- what a tokenizer sees first after whitespace, as far as the text may be read now
unfoldable pub looks_after : World → Option ℕ
looks_after w = following_code w.current (first_following (slice_range w.setting.bytes w.point.index w.setting.limit))

-- whether a construct may begin here that is after whitespace, by whether it begins with a byte: it may where that byte
-- is not known
abbrev pub may_with : (ℕ → Bool) → Option ℕ → Bool
may_with begins None = true
may_with begins (Some b) = begins b

-- the first byte that is neither a marker nor whitespace
abbrev pub first_other : ℕ → List ℕ → Option ℕ
first_other marker [] = None
first_other marker (b ∷ bytes) = if is_of_run marker b then first_other marker bytes else Some b

-- whether it is known, and does not end the line
abbrev pub is_other : Option ℕ → Bool
is_other None = false
is_other (Some b) = not (is_ending b)

-- whether something else than a marker and whitespace is on the rest of the line: the text that may be read now has it
unfoldable pub sees_other : World → ℕ → Bool
sees_other w marker = is_other (first_other marker (slice_range w.setting.bytes w.point.index w.setting.limit))
