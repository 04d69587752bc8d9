-- What follows a leaf: the ends of containers after its last line, and the ending of that.
use Rattle.std.proofs.Common.{◌≡◌, ◌||◌, List, [], ◌∷◌, refl, if◌then◌else◌}
use Rattle.md_engine.specs.declared.event.Name.{Name}
use Rattle.md_engine.specs.declared.event.Name.TheVariants as n
use Rattle.md_meaning.specs.Bytes.{is_end}
use Rattle.md_events.specs.Exact.Blocks.{tail}
use Rattle.md_events.specs.Exact.Rows.{Row, is_blank_role}
use Rattle.proof_exact_lines.proofs.TextLines.{last_of}

-- the ending of a line after which a leaf ends
abbrev pub last_ending : Row → Name
last_ending x = if is_blank_role x.role || is_end x.line.bytes then n.BlankLineEnding else n.LineEnding

pub tail-last : (x : Row) (xs : List Row) → tail (x ∷ xs) ≡ tail (last_of x xs ∷ [])
tail-last x [] = refl
tail-last x (y ∷ ys) = tail-last y ys
