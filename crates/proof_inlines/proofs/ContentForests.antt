-- Forests that are put together: their bytes, and their names.
use Rattle.std.proofs.Common.{◌≡◌, ℕ, zero, suc, ◌+◌, Bool, true, false, cond, ◌&&◌, List, [], ◌∷◌, length}
use Rattle.std.proofs.Common.{refl, ap, ◌∙◌, arith}
use Rattle.std.proofs.lemmas.Bool.{and_parts, and_from}
use Rattle.std.proofs.lemmas.List.{length-append}
use Rattle.md_engine.specs.declared.event.Name.{Name}
use Rattle.md_inline_events.specs.Forest.{Forest, bare, begin, finish, has_names, marks, nothing, over, part, piece}
use Rattle.md_inline_events.specs.Forest.{size}
use Rattle.md_inline_events.specs.Marks.{Mark, is_part_name}
use Rattle.md_inlines.specs.Atoms.{beside, is_data, joined, merged}
use Rattle.proof_inlines.specs.Sized.{Over}

begin-length : (name : Name) (ms : List Mark) → length (begin name ms) ≡ length ms
begin-length name [] = refl
begin-length name (mark ∷ ms) = refl

finish-length : (name : Name) (ms : List Mark) → length (finish name ms) ≡ length ms
finish-length name [] = refl
finish-length name (mark ∷ []) = refl
finish-length name (mark ∷ next ∷ ms) = ap suc (finish-length name (next ∷ ms))

bare-length : (count : ℕ) → length (bare count) ≡ count
bare-length zero = refl
bare-length (suc more) = ap suc (bare-length more)

pub size-piece : (name : Name) (more : ℕ) (following : Forest) →
    size (piece name more following) ≡ suc more + size following
size-piece name more following = omega (arith, length-append (bare more) (marks following), bare-length more)

pub size-part : (name : Name) (inside following : Forest) →
    size (part name inside following) ≡ size inside + size following
size-part name inside following =
    omega (
      arith,
      length-append (finish name (begin name (marks inside))) (marks following),
      finish-length name (begin name (marks inside)),
      begin-length name (marks inside),
    )

pub nothing-over : Over nothing 0
nothing-over = record { sized = refl; names = refl }

pub piece-over : (name : Name) (more : ℕ) (following : Forest) (count : ℕ) → is_part_name name ≡ true →
    Over following count → Over (piece name more following) (suc more + count)
piece-over name more following count named f = record {
  sized = omega (arith, size-piece name more following, f.sized);
  names = and_from (is_part_name name) (has_names following) named f.names;
}

pub over-over : (name : Name) (len : ℕ) (following : Forest) (count : ℕ) → is_part_name name ≡ true →
    Over following count → Over (over name len following) (len + count)
over-over name zero following count named f = record { sized = omega (arith, f.sized); names = f.names }
over-over name (suc more) following count named f = piece-over name more following count named f

pub part-over : (name : Name) (inside following : Forest) (n m : ℕ) → is_part_name name ≡ true → Over inside n →
    Over following m → Over (part name inside following) (n + m)
part-over name inside following n m named i f = record {
  sized = omega (arith, size-part name inside following, i.sized, f.sized);
  names =
      and_from (is_part_name name) (has_names inside && has_names following) named
      (and_from (has_names inside) (has_names following) i.names f.names);
}

pub same-over : (forest : Forest) (n m : ℕ) → n ≡ m → Over forest n → Over forest m
same-over forest n m same f = record { sized = f.sized ∙ same; names = f.names }

-- what a forest is over
pub own : (forest : Forest) → has_names forest ≡ true → Over forest (size forest)
own forest names = record { sized = refl; names = names }

pub piece-names : (name : Name) (following : Forest) → is_part_name name && has_names following ≡ true →
    (is_part_name name ≡ true) × (has_names following ≡ true)
piece-names name following h = and_parts (is_part_name name) (has_names following) h

pub record PartNames (name : Name) (inside following : Forest) : Type 0 where
  pub own : is_part_name name ≡ true
  pub inner : has_names inside ≡ true
  pub next : has_names following ≡ true

pub part-names : (name : Name) (inside following : Forest) →
    is_part_name name && (has_names inside && has_names following) ≡ true → PartNames name inside following
part-names name inside following h =
    let outer : (is_part_name name ≡ true) × ((has_names inside && has_names following) ≡ true) =
    and_parts (is_part_name name) (has_names inside && has_names following) h in
    let inner : (has_names inside ≡ true) × (has_names following ≡ true) =
    and_parts (has_names inside) (has_names following) outer.1 in
    record { own = outer.0; inner = inner.0; next = inner.1 }

pub beside-over : (a b : Forest) (n m : ℕ) → Over a n → Over b m → Over (beside a b) (n + m)
beside-over nothing b n m f g =
    let none : 0 ≡ n = f.sized in same-over b m (n + m) (omega (arith, none)) g
beside-over (piece name more following) b n m f g =
    let parts = piece-names name following f.names in
    let rest : Over (beside following b) (size following + m) =
    beside-over following b (size following) m (own following parts.1) g in
    let is : size (piece name more following) ≡ suc more + size following = size-piece name more following in
    same-over (piece name more (beside following b)) (suc more + (size following + m)) (n + m)
    (omega (arith, is, f.sized)) (piece-over name more (beside following b) (size following + m) parts.0 rest)
beside-over (part name inside following) b n m f g =
    let parts = part-names name inside following f.names in
    let rest : Over (beside following b) (size following + m) =
    beside-over following b (size following) m (own following parts.next) g in
    let is : size (part name inside following) ≡ size inside + size following = size-part name inside following in
    same-over (part name inside (beside following b)) (size inside + (size following + m)) (n + m)
    (omega (arith, is, f.sized))
    (part-over name inside (beside following b) (size inside) (size following + m) parts.own (own inside parts.inner)
    rest)

-- text that is joined
joined-over : (name : Name) (more : ℕ) (following : Forest) (count : ℕ) → is_part_name name ≡ true →
    Over following count → Over (joined name more following) (suc more + count)
joined-over name more nothing count named f = piece-over name more nothing count named f
joined-over name more (part other inside following) count named f =
    piece-over name more (part other inside following) count named f
joined-over name more (piece other other_more following) count named f = go (is_data name && is_data other)
  where
    both : Over (piece name (more + suc other_more) following) (suc more + count)
    both =
        let is : size (piece other other_more following) ≡ suc other_more + size following =
        size-piece other other_more following in
        same-over (piece name (more + suc other_more) following) (suc (more + suc other_more) + size following)
        (suc more + count) (omega (arith, is, f.sized))
        (piece-over name (more + suc other_more) following (size following) named
        (own following (piece-names other following f.names).1))

    go : (t : Bool) →
        Over
        (cond t (piece name (more + suc other_more) following) (piece name more (piece other other_more following)))
        (suc more + count)
    go true = both
    go false = piece-over name more (piece other other_more following) count named f

pub merged-over : (forest : Forest) (count : ℕ) → Over forest count → Over (merged forest) count
merged-over nothing count f = f
merged-over (piece name more following) count f =
    let parts = piece-names name following f.names in
    let rest : Over (merged following) (size following) =
    merged-over following (size following) (own following parts.1) in
    let is : size (piece name more following) ≡ suc more + size following = size-piece name more following in
    same-over (joined name more (merged following)) (suc more + size following) count (omega (arith, is, f.sized))
    (joined-over name more (merged following) (size following) parts.0 rest)
merged-over (part name inside following) count f =
    let parts = part-names name inside following f.names in
    let is : size (part name inside following) ≡ size inside + size following = size-part name inside following in
    same-over (part name (merged inside) (merged following)) (size inside + size following) count
    (omega (arith, is, f.sized))
    (part-over name (merged inside) (merged following) (size inside) (size following) parts.own
    (merged-over inside (size inside) (own inside parts.inner))
    (merged-over following (size following) (own following parts.next)))
