-- Readable forests that are put together, and merged.
use Rattle.std.proofs.Common.{◌≡◌, ℕ, zero, suc, ◌+◌, ◌<◌, Bool, true, false, cond, ◌&&◌, refl, ap, sym, ◌∙◌, arith}
use Rattle.std.specs.Prelude.{◌||◌, not, nat_lt}
use Rattle.std.proofs.lemmas.Bool.{and_from, or_left, or_right}
use Rattle.std.proofs.lemmas.Bool.Decides.{nat_tests}
use Rattle.md_engine.specs.declared.event.Name.{Name}
use Rattle.md_events.specs.Events.Pieces.{is_piece_name}
use Rattle.md_inline_events.specs.Forest.{Forest, nothing, over, part, piece, size}
use Rattle.md_inlines.specs.Atoms.{beside, is_data, joined, merged}
use Rattle.proof_inlines.proofs.SizeLemmas.{piece-size}
use Rattle.markdown_inlines.specs.Readable.{begins_apart, is_readable}
use Rattle.markdown_inlines.proofs.ShapeLemmas.{merged-size}

-- readable, part by part
abbrev pub Readable : Forest → Type 0
Readable nothing = Unit {0}
Readable (piece name more following) = (is_piece_name name ≡ true) × Readable following
Readable (part name inside following) =
    (is_piece_name name ≡ false) × ((nat_lt 0 (size inside) || begins_apart following) ≡ true) × Readable inside
    × Readable following

-- Readable, and no part that is in no other is over no byte: so whatever is readable may follow.
abbrev pub Solid : Forest → Type 0
Solid nothing = Unit {0}
Solid (piece name more following) = (is_piece_name name ≡ true) × Solid following
Solid (part name inside following) =
    (is_piece_name name ≡ false) × (0 < size inside) × Readable inside × Solid following

pub readable-is : (forest : Forest) → Readable forest → is_readable forest ≡ true
readable-is nothing h = refl
readable-is (piece name more following) h =
    and_from (is_piece_name name) (is_readable following) h.0 (readable-is following h.1)
readable-is (part name inside following) h =
    and_from (not (is_piece_name name))
    ((nat_lt 0 (size inside) || begins_apart following) && (is_readable inside && is_readable following)) (ap not h.0)
    (and_from (nat_lt 0 (size inside) || begins_apart following) (is_readable inside && is_readable following) h.1
    (and_from (is_readable inside) (is_readable following) (readable-is inside h.2) (readable-is following h.3)))

pub is-some : (count : ℕ) → 0 < count → nat_lt 0 count ≡ true
is-some count h = grind (arith, nat_tests)

pub solid-readable : (forest : Forest) → Solid forest → Readable forest
solid-readable nothing h = tt
solid-readable (piece name more following) h = (h.0, solid-readable following h.1)
solid-readable (part name inside following) h = (
  h.0,
  or_left (nat_lt 0 (size inside)) (begins_apart following) (is-some (size inside) h.1),
  h.2,
  solid-readable following h.3,
)

-- a part after which text does not begin
pub part-readable : (name : Name) (inside following : Forest) → is_piece_name name ≡ false →
    begins_apart following ≡ true → Readable inside → Readable following → Readable (part name inside following)
part-readable name inside following named apart i f =
    (named, or_right (nat_lt 0 (size inside)) (begins_apart following) apart, i, f)

-- a part that is over a byte
pub some-readable : (name : Name) (inside following : Forest) → is_piece_name name ≡ false → 0 < size inside →
    Readable inside → Readable following → Readable (part name inside following)
some-readable name inside following named some i f =
    (named, or_left (nat_lt 0 (size inside)) (begins_apart following) (is-some (size inside) some), i, f)

pub piece-some : (name : Name) (more : ℕ) (following : Forest) → 0 < size (piece name more following)
piece-some name more following = omega (arith, piece-size name more following)

-- Side by side.

pub beside-solid : (a b : Forest) → Solid a → Solid b → Solid (beside a b)
beside-solid nothing b h k = k
beside-solid (piece name more following) b h k = (h.0, beside-solid following b h.1 k)
beside-solid (part name inside following) b h k = (h.0, h.1, h.2, beside-solid following b h.3 k)

pub over-readable : (name : Name) (count : ℕ) (following : Forest) → is_piece_name name ≡ true → Readable following →
    Readable (over name count following)
over-readable name zero following h k = k
over-readable name (suc more) following h k = (h, k)

pub over-solid : (name : Name) (count : ℕ) (following : Forest) → is_piece_name name ≡ true → Solid following →
    Solid (over name count following)
over-solid name zero following h k = k
over-solid name (suc more) following h k = (h, k)

pub over-apart : (name : Name) (count : ℕ) (following : Forest) → is_data name ≡ false →
    begins_apart following ≡ true → begins_apart (over name count following) ≡ true
over-apart name zero following h k = k
over-apart name (suc more) following h k = ap not h

-- Text beside text is one piece.

apart-joined : (name : Name) (more : ℕ) (following : Forest) →
    begins_apart (joined name more following) ≡ not (is_data name)
apart-joined name more nothing = refl
apart-joined name more (part other inside following) = refl
apart-joined name more (piece other count following) = go (is_data name && is_data other)
  where
    go : (t : Bool) →
        begins_apart
        (cond t (piece name (more + suc count) following) (piece name more (piece other count following))) ≡
        not (is_data name)
    go true = refl
    go false = refl

apart-merged : (forest : Forest) → begins_apart (merged forest) ≡ begins_apart forest
apart-merged nothing = refl
apart-merged (piece name more following) = apart-joined name more (merged following)
apart-merged (part name inside following) = ap (nat_lt 0) (merged-size inside)

joined-readable : (name : Name) (more : ℕ) (following : Forest) → is_piece_name name ≡ true → Readable following →
    Readable (joined name more following)
joined-readable name more nothing h k = (h, k)
joined-readable name more (part other inside following) h k = (h, k)
joined-readable name more (piece other count following) h k = go (is_data name && is_data other)
  where
    go : (t : Bool) →
        Readable (cond t (piece name (more + suc count) following) (piece name more (piece other count following)))
    go true = (h, k.1)
    go false = (h, k)

pub readable-merged : (forest : Forest) → Readable forest → Readable (merged forest)
readable-merged nothing h = tt
readable-merged (piece name more following) h =
    joined-readable name more (merged following) h.0 (readable-merged following h.1)
readable-merged (part name inside following) h = (
  h.0,
  ap (λ (k : ℕ). nat_lt 0 k || begins_apart (merged following)) (merged-size inside)
      ∙ ap (λ (t : Bool). nat_lt 0 (size inside) || t) (apart-merged following) ∙ h.1,
  readable-merged inside h.2,
  readable-merged following h.3,
)

-- Nothing is left to join in what is merged.

-- whether a forest may follow a piece of this name
abbrev follows : Name → Forest → Bool
follows name nothing = true
follows name (piece other count following) = not (is_data name && is_data other)
follows name (part other inside following) = true

-- no text is beside text
abbrev Apart : Forest → Type 0
Apart nothing = Unit {0}
Apart (piece name more following) = (follows name following ≡ true) × Apart following
Apart (part name inside following) = Apart inside × Apart following

joined-apart : (name : Name) (more : ℕ) (following : Forest) → Apart following → Apart (joined name more following)
joined-apart name more nothing h = (refl, h)
joined-apart name more (part other inside following) h = (refl, h)
joined-apart name more (piece other count following) h = go (is_data name) (is_data other) refl refl
  where
    -- what may follow the one text may follow the other
    next : (f : Forest) (x y : Bool) → is_data name ≡ x → is_data other ≡ y → x ≡ y → follows other f ≡ true →
        follows name f ≡ true
    next nothing x y a b same k = refl
    next (part third inside f) x y a b same k = refl
    next (piece third c f) x y a b same k =
        ap (λ (t : Bool). not (t && is_data third)) (a ∙ same ∙ sym b) ∙ k

    go : (x y : Bool) → is_data name ≡ x → is_data other ≡ y →
        Apart
        (cond (x && y) (piece name (more + suc count) following) (piece name more (piece other count following)))
    go true true a b = (next following true true a b refl h.0, h.1)
    go true false a b = (ap (λ (t : Bool). not (t && is_data other)) a ∙ ap not b, h)
    go false y a b = (ap (λ (t : Bool). not (t && is_data other)) a, h)

merged-apart : (forest : Forest) → Apart (merged forest)
merged-apart nothing = tt
merged-apart (piece name more following) = joined-apart name more (merged following) (merged-apart following)
merged-apart (part name inside following) = (merged-apart inside, merged-apart following)

joined-same : (name : Name) (more : ℕ) (following : Forest) → follows name following ≡ true →
    joined name more following ≡ piece name more following
joined-same name more nothing h = refl
joined-same name more (part other inside following) h = refl
joined-same name more (piece other count following) h = go (is_data name && is_data other) h
  where
    go : (t : Bool) → not t ≡ true →
        cond t (piece name (more + suc count) following) (piece name more (piece other count following)) ≡
        piece name more (piece other count following)
    go true e = cc
    go false e = refl

apart-same : (forest : Forest) → Apart forest → merged forest ≡ forest
apart-same nothing h = refl
apart-same (piece name more following) h =
    ap (joined name more) (apart-same following h.1) ∙ joined-same name more following h.0
apart-same (part name inside following) h =
    ap (λ (f : Forest). part name f (merged following)) (apart-same inside h.0)
    ∙ ap (part name inside) (apart-same following h.1)

pub merged-again : (forest : Forest) → merged (merged forest) ≡ merged forest
merged-again forest = apart-same (merged forest) (merged-apart forest)
