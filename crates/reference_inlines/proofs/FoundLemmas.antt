-- The nodes of an atom are those of its forest.
use Rattle.std.proofs.Common.{◌≡◌, ℕ, zero, suc, ◌-◌, Bool, false, cond, List, [], ◌∷◌, refl, ap, ◌∙◌, arith}
use Rattle.std.specs.Prelude.{◌==◌}
use Rattle.std.proofs.lemmas.Bool.Decides.{nat_tests}
use Rattle.md_engine.specs.declared.event.Name.{Name}
use Rattle.md_engine.specs.declared.event.Name.TheVariants as n
use Rattle.md_inline_events.specs.Forest.{nothing, over}
use Rattle.md_inlines.specs.Atoms.{angled, literal_name, raw, reference}
use Rattle.reference_inlines.specs.Found.{angled_shape, atom_forest, raw_shape, reference_shape, shape}
use Rattle.reference_inlines.specs.Nodes.{kept, nodes}
use Rattle.reference_inlines.specs.declared.atom.Atom.{Atom}
use Rattle.reference_inlines.specs.declared.atom.Atom.TheVariants as a
use Rattle.reference_inlines.specs.declared.node.Node.{Node}
use Rattle.reference_inlines.specs.declared.node.Node.TheVariants as node

angled-shape : (name : Name) (len : ℕ) → kept (angled_shape name len) ≡ nodes (angled name len)
angled-shape name zero = refl
angled-shape name (suc more) = refl

raw-shape : (whole sequence inner : Name) (size inside : ℕ) →
    kept (raw_shape whole sequence inner (record { size = size; inside = inside })) ≡
    nodes (raw whole sequence inner (record { size = size; inside = inside }))
raw-shape whole sequence inner zero zero = refl
raw-shape whole sequence inner zero (suc inside) = refl
raw-shape whole sequence inner (suc size) zero = refl
raw-shape whole sequence inner (suc size) (suc inside) = refl

-- the nodes of a character reference whose markers have so many bytes
abbrev numbered : ℕ → ℕ → ℕ → List Node
numbered numeric hexadecimal value =
    node.Begin n.CharacterReference ∷ node.Piece n.CharacterReferenceMarker 1
    ∷ node.Piece n.CharacterReferenceMarkerNumeric numeric
    ∷ node.Piece n.CharacterReferenceMarkerHexadecimal hexadecimal
    ∷ node.Piece n.CharacterReferenceValue value ∷ node.Piece n.CharacterReferenceMarkerSemi 1 ∷ node.End ∷ []

hexadecimal-shape : (more value : ℕ) →
    kept (numbered 1 (suc more) value) ≡
    nodes (reference (record { markers = suc (suc more); value = value }))
hexadecimal-shape more zero = refl
hexadecimal-shape more (suc value) = refl

reference-shape : (markers value : ℕ) →
    kept (reference_shape (record { markers = markers; value = value })) ≡
    nodes (reference (record { markers = markers; value = value }))
reference-shape zero zero = refl
reference-shape zero (suc value) = refl
reference-shape (suc zero) zero = refl
reference-shape (suc zero) (suc value) = refl
reference-shape (suc (suc more)) value =
    let some : (suc (suc more) == 0) ≡ false = grind (arith, nat_tests) in
    let less : suc (suc more) - 1 ≡ suc more = omega arith in
    ap (λ (t : Bool). kept (numbered (cond t 0 1) (suc (suc more) - 1) value)) some
    ∙ ap (λ (k : ℕ). kept (numbered 1 k value)) less ∙ hexadecimal-shape more value

one-shape : (name : Name) (len : ℕ) → kept (node.Piece name len ∷ []) ≡ nodes (over name len nothing)
one-shape name zero = refl
one-shape name (suc more) = refl

pub shape-is : (atom : Atom) → kept (shape atom) ≡ nodes (atom_forest atom)
shape-is a.Escape = refl
shape-is a.BreakEscape = refl
shape-is (a.Reference r) = reference-shape r.markers r.value
shape-is (a.Code r) = raw-shape n.CodeText n.CodeTextSequence n.CodeTextData r.size r.inside
shape-is (a.Math r) = raw-shape n.MathText n.MathTextSequence n.MathTextData r.size r.inside
shape-is (a.Text zero) = refl
shape-is (a.Text (suc more)) = refl
shape-is (a.Uri len) = angled-shape n.AutolinkProtocol len
shape-is (a.Email len) = angled-shape n.AutolinkEmail len
shape-is (a.Html zero) = refl
shape-is (a.Html (suc more)) = refl
shape-is (a.Trailing zero zero) = refl
shape-is (a.Trailing zero (suc spaces)) = refl
shape-is (a.Trailing (suc white) zero) = refl
shape-is (a.Trailing (suc white) (suc spaces)) = refl
shape-is (a.Literal l) = one-shape (literal_name l.kind) l.len
