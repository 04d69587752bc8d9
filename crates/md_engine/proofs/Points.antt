-- How far points are from the limit, and what is seen at them.
use Rattle.std.proofs.Common.{◌≡◌, ℕ, ◌+◌, ◌-◌, ◌%◌, ◌<◌, ◌≤◌, Bool, true, false, cond, not, ◌&&◌, nat_eq, Option, Some}
use Rattle.std.proofs.Common.{None, refl, arith, ◌∙◌, inl, inr, ◌⊎◌, subst}
use Rattle.std.specs.Prelude.{nat_le, slice_get, slice_index}
use Rattle.std.proofs.lemmas.Bool.{eqb-false}
use Rattle.std.proofs.lemmas.Bool.Decides.{nat_tests}
use Rattle.md_engine.specs.declared.event.Point.{Point}
use Rattle.md_engine.specs.Place.{begun_at, is_ending, is_pair}
use Rattle.md_engine.specs.Scheme.{Grown, Passes, Rank, Reaches, cells_before, cells_left}
use Rattle.md_engine.specs.World.{Setting, after, line_begun}

-- a point that lies so much later
record Later (p q : Point) : Type 0 where
  index : p.index ≤ q.index
  cells : cells_before p + 1 ≤ cells_before q

begun-later : (p q : Point) (o : Option Point) → p.index + 1 ≤ q.index → Later p (begun_at o q)
begun-later p q None lt = record { index = omega arith; cells = omega arith }
begun-later p q (Some s) lt = go (nat_le q.index s.index) refl
  where
    go : (b : Bool) → nat_le q.index s.index ≡ b → Later p (cond b s q)
    go true e =
        let le : q.index ≤ s.index = grind (arith, nat_tests) in record { index = omega arith; cells = omega arith }
    go false e = record { index = omega arith; cells = omega arith }

later-after : (x : Setting) (p : Point) → Later p (after x p)
later-after x p =
    go (is_ending (slice_index x.bytes p.index)) (is_pair x.bytes p.index) (nat_eq (slice_index x.bytes p.index) 9)
    (nat_eq (p.column % 4) 0) refl
  where
    go : (e y z t : Bool) → nat_eq (p.column % 4) 0 ≡ t →
        let q : Point = cond e
        (record { line = p.line + 1; column = 1; index = cond y (p.index + 2) (p.index + 1); vs = 0 })
        (cond (z && not t) (record p { column = p.column + 1; vs = p.vs + 1 })
        (record p { column = p.column + 1; index = p.index + 1; vs = 0 })) in
        Later p (cond e (line_begun x q) q)
    go true true z t k =
        let q : Point = record { line = p.line + 1; column = 1; index = p.index + 2; vs = 0 } in
        begun-later p q (slice_get x.skips (q.line - x.first_line)) (omega arith)
    go true false z t k =
        let q : Point = record { line = p.line + 1; column = 1; index = p.index + 1; vs = 0 } in
        begun-later p q (slice_get x.skips (q.line - x.first_line)) (omega arith)
    go false y true true k = record { index = omega arith; cells = omega arith }
    go false y true false k =
        let more : 0 < p.column % 4 = omega (arith, eqb-false (p.column % 4) 0 k) in
        record { index = omega arith; cells = omega (arith, more) }
    go false y false t k = record { index = omega arith; cells = omega arith }

-- after what is here, fewer are left
pub cells-fall : (x : Setting) (p : Point) → p.index < x.limit →
    cells_left x.limit (after x p) + 1 ≤ cells_left x.limit p
cells-fall x p lt = let h = later-after x p in omega (arith, h.index, h.cells)

-- and more lie before
pub cells-grow : (x : Setting) (p : Point) → cells_before p + 1 ≤ cells_before (after x p)
cells-grow x p = (later-after x p).cells

pub stays : (limit : ℕ) (p : Point) → Reaches limit p p
stays limit p = record { cells = inl refl; before = omega arith }

pub takes : (x : Setting) (p : Point) → p.index < x.limit → Reaches x.limit p (after x p)
takes x p lt =
    let h = later-after x p in record { cells = inr (omega (arith, h.cells), lt); before = omega (arith, h.cells) }

pub then_reaches : (limit l : ℕ) (p q r : Point) → limit ≤ l → Reaches limit p q → Reaches l q r → Reaches l p r
then_reaches limit l p q r le a b = record { cells = go a.cells b.cells; before = omega (arith, a.before, b.before) }
  where
    go : (p ≡ q) ⊎ ((cells_before p < cells_before q) × (p.index < limit)) →
        (q ≡ r) ⊎ ((cells_before q < cells_before r) × (q.index < l)) →
        (p ≡ r) ⊎ ((cells_before p < cells_before r) × (p.index < l))
    go (inl e) (inl k) = inl (e ∙ k)
    go (inl e) (inr lt) = inr (rw e lt)
    go (inr lt) (inl k) =
        let P : Point → Type 0 = λ t. (cells_before p < cells_before t) × (p.index < l) in
        let h : P q = (lt.0, omega (arith, lt.1)) in inr (subst P k h)
    go (inr lt) (inr k) = inr (omega (arith, lt.0, k.0), omega (arith, lt.1))

-- after what is here
pub takes_past : (x : Setting) (p : Point) → p.index < x.limit → Passes x.limit p (after x p)
takes_past x p lt = let more = cells-grow x p in record { cells = omega (arith, more); inside = lt }

pub passes-reaches : (limit : ℕ) (p q : Point) → Passes limit p q → Reaches limit p q
passes-reaches limit p q h = record { cells = inr (h.cells, h.inside); before = omega (arith, h.cells) }

-- what is passed from a later point, or from the same, is passed
pub then_passes : (limit l : ℕ) (p q r : Point) → limit ≤ l → Reaches limit p q → Passes l q r → Passes l p r
then_passes limit l p q r le a b = go a.cells
  where
    go : (p ≡ q) ⊎ ((cells_before p < cells_before q) × (p.index < limit)) → Passes l p r
    go (inl e) = rw e b
    go (inr lt) = record { cells = omega (arith, lt.0, b.cells); inside = omega (arith, lt.1) }

-- a point that is passed stays so
pub passes_then : (limit l : ℕ) (p q r : Point) → limit ≤ l → Passes limit p q → Reaches l q r → Passes l p r
passes_then limit l p q r le a b = record { cells = omega (arith, a.cells, b.before); inside = omega (arith, a.inside) }

-- the setting itself
pub grown-same : (x : Setting) → Grown x x
grown-same x = record { bytes = refl; options = refl; limit = omega arith }

pub grown-then : (x y z : Setting) → Grown x y → Grown y z → Grown x z
grown-then x y z a b = record {
  bytes = b.bytes ∙ a.bytes;
  options = b.options ∙ a.options;
  limit = omega (arith, a.limit, b.limit);
}

-- a rank is below 64
pub rank-low : (r : Rank) → r.number < 64
rank-low r = let e = r.low in grind (arith, nat_tests)
