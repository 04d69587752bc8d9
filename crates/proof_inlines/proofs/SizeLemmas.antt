-- Over how many bytes a forest is.
use Rattle.std.proofs.Common.{◌≡◌, ℕ, zero, suc, ◌+◌, true, length, refl, ap, arith}
use Rattle.std.proofs.lemmas.Bool.{and_from}
use Rattle.std.proofs.lemmas.List.{length-append}
use Rattle.md_engine.specs.declared.event.Name.{Name}
use Rattle.md_inline_events.specs.Forest.{Forest, bare, begin, finish, has_names, marks, over, part, piece, size}
use Rattle.md_inline_events.proofs.TokenLemmas.{begin-length, finish-length}
use Rattle.md_inline_events.specs.Marks.{is_part_name}

bare-length : (count : ℕ) → length (bare count) ≡ count
bare-length zero = refl
bare-length (suc more) = ap suc (bare-length more)

pub piece-size : (name : Name) (more : ℕ) (following : Forest) →
    size (piece name more following) ≡ suc more + size following
piece-size name more following =
    omega (arith, length-append (bare more) (marks following), bare-length more)

pub over-size : (name : Name) (count : ℕ) (following : Forest) → size (over name count following) ≡ count + size
    following
over-size name zero following = omega arith
over-size name (suc more) following = piece-size name more following

pub part-size : (name : Name) (inside following : Forest) →
    size (part name inside following) ≡ size inside + size following
part-size name inside following =
    omega (
      arith,
      length-append (finish name (begin name (marks inside))) (marks following),
      finish-length name (begin name (marks inside)),
      begin-length name (marks inside),
    )

pub over-names : (name : Name) (count : ℕ) (following : Forest) → is_part_name name ≡ true → has_names following ≡
    true →
    has_names (over name count following) ≡ true
over-names name zero following h k = k
over-names name (suc more) following h k = and_from (is_part_name name) (has_names following) h k
