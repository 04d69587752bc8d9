-- What the parts of definitions on one line mean.
use Rattle.std.specs.Prelude.{ℕ, ◌+◌, ◌-◌, Bool, ◌&&◌, not, ◌==◌, if◌then◌else◌, List, map, Option, Some}
use Rattle.std.specs.Prelude.{None}
use Rattle.std.specs.Borrow.{Bor}
use Rattle.md_meaning.specs.Enclosed as e
use Rattle.md_meaning.specs.Definition as d
use Rattle.md_scan.specs.declared.definition.Enclosed.{Enclosed}
use Rattle.md_scan.specs.declared.definition.Enclosed.TheVariants as enclosed
use Rattle.md_scan.specs.declared.definition.Destination.{Destination}

abbrev pub texts : List (Bor (List ℕ)) → List (List ℕ)
texts lines = map (λ line. line.now) lines

abbrev pub enclosed_meaning : Enclosed → e.Enclosed
enclosed_meaning (enclosed.Closed text rest) = e.Closed text.now rest.now
enclosed_meaning enclosed.Open = e.Open
enclosed_meaning enclosed.Broken = e.Broken

abbrev pub destination_meaning : Destination → d.Destination
destination_meaning x = record { text = x.text.now; rest = x.rest.now }

-- whether this byte is the mark, and no backslash takes it
abbrev pub is_bare : Bool → ℕ → ℕ → Bool
is_bare escaped byte mark = not escaped && (byte == mark)

-- how many parentheses are open after this byte; none if it closes one too many
abbrev pub depth_following : Bool → ℕ → ℕ → Option ℕ
depth_following escaped depth byte =
    if is_bare escaped byte 41 then (if depth == 0 then None else Some (depth - 1))
    else if is_bare escaped byte 40 then Some (depth + 1)
    else Some depth
