-- Points of a line, column by column, and the parts that are between them.
use Rattle.std.specs.Prelude.{ℕ, zero, suc, ◌+◌, ◌-◌, ◌&&◌, ◌==◌, nat_lt, if◌then◌else◌, List, [], ◌∷◌, ◌++◌, drop}
use Rattle.md_engine.specs.declared.event.Event.{Event}
use Rattle.md_engine.specs.declared.event.Name.{Name}
use Rattle.md_engine.specs.declared.event.Name.TheVariants as n
use Rattle.md_engine.specs.declared.event.Point.{Point}
use Rattle.md_events.specs.Events.Nested.{pair}
use Rattle.md_events.specs.Events.Spelled.{columns_left}
use Rattle.md_meaning.specs.Rest.{Rest, indent, lose, without_column}
use Rattle.proof_frame.specs.RestLine.{rest_line}

-- the rest of a line that begins at a point: a tab that the point cuts is its first byte
abbrev pub rest_of : Point → List ℕ → Rest
rest_of p line = record {
  column = p.column - 1;
  spaces = columns_left p;
  bytes = if p.vs == 0 then line else drop 1 line;
}

-- a column further, with this left after it: within a tab while more of it is left, and else after its byte
abbrev pub next_point : Rest → Point → Point
next_point left p =
    if left.spaces == 0 then record p { column = p.column + 1; index = p.index + 1; vs = 0 }
    else record p { column = p.column + 1; vs = p.vs + 1 }

-- after so many columns of whitespace, or as many as there are
abbrev pub past_columns : ℕ → Rest → Point → Point
past_columns zero r p = p
past_columns (suc n) r p =
    let left = without_column r.column r.spaces r.bytes in
    if indent r == 0 then p else past_columns n left (next_point left p)

-- so many columns of whitespace, or as many as there are
abbrev pub columns_part : ℕ → Rest → Point → List Event
columns_part room r p =
    if nat_lt 0 room && nat_lt 0 (indent r) then pair n.SpaceOrTab p (past_columns room r p) else []

-- a part over these bytes, if there are any
abbrev pub part_over : Name → List ℕ → Point → Point → List Event
part_over name [] p q = []
part_over name (b ∷ bs) p q = pair name p q

-- a line that loses so many columns of whitespace: what it loses, and what is left of it, to its end
abbrev pub lost_line : Name → ℕ → Rest → Point → Point → List Event
lost_line name lost r p q = columns_part lost r p ++ part_over name (rest_line (lose lost r)) (past_columns lost r p) q
