-- Atoms as the plain program has them, and the forests and the nodes that they are.
use Rattle.std.specs.Prelude.{ℕ, ◌-◌, List, [], ◌∷◌, Option, option_map, if◌then◌else◌, ◌==◌}
use Rattle.md_engine.specs.declared.event.Name.{Name}
use Rattle.md_engine.specs.declared.event.Name.TheVariants as n
use Rattle.md_inline_events.specs.Forest.{Forest, nothing, over, part}
use Rattle.md_inlines.specs.declared.Raw.{Raw}
use Rattle.md_inlines.specs.declared.Reference.{Reference}
use Rattle.md_inlines.specs.Atoms.{address, angled, byte, escape, literal_name, raw, reference}
use Rattle.reference_inlines.specs.declared.atom.Atom.{Atom}
use Rattle.reference_inlines.specs.declared.atom.Atom.TheVariants as a
use Rattle.reference_inlines.specs.declared.node.Node.{Node}
use Rattle.reference_inlines.specs.declared.node.Node.TheVariants as node

abbrev pub atom_forest : Atom → Forest
atom_forest a.Escape = escape
atom_forest a.BreakEscape = byte n.HardBreakEscape nothing
atom_forest (a.Reference r) = reference r
atom_forest (a.Code r) = raw n.CodeText n.CodeTextSequence n.CodeTextData r
atom_forest (a.Math r) = raw n.MathText n.MathTextSequence n.MathTextData r
atom_forest (a.Text len) = over n.Data len nothing
atom_forest (a.Uri len) = angled n.AutolinkProtocol len
atom_forest (a.Email len) = angled n.AutolinkEmail len
atom_forest (a.Html len) = part n.HtmlText (over n.HtmlTextData len nothing) nothing
atom_forest (a.Trailing white spaces) = over n.SpaceOrTab white (over n.HardBreakTrailing spaces nothing)
atom_forest (a.Literal l) = address l

abbrev pub found : Option Atom → Option Forest
found atom = option_map atom_forest atom

-- Their nodes, of which those over no byte are left out.

abbrev pub angled_shape : Name → ℕ → List Node
angled_shape name len =
    node.Begin n.Autolink ∷ node.Piece n.AutolinkMarker 1 ∷ node.Piece name len ∷ node.Piece n.AutolinkMarker 1
    ∷ node.End ∷ []

abbrev pub raw_shape : Name → Name → Name → Raw → List Node
raw_shape whole sequence inner r =
    node.Begin whole ∷ node.Piece sequence r.size ∷ node.Piece inner r.inside ∷ node.Piece sequence r.size
    ∷ node.End ∷ []

abbrev pub reference_shape : Reference → List Node
reference_shape r =
    node.Begin n.CharacterReference ∷ node.Piece n.CharacterReferenceMarker 1
    ∷ node.Piece n.CharacterReferenceMarkerNumeric (if r.markers == 0 then 0 else 1)
    ∷ node.Piece n.CharacterReferenceMarkerHexadecimal (r.markers - 1)
    ∷ node.Piece n.CharacterReferenceValue r.value ∷ node.Piece n.CharacterReferenceMarkerSemi 1 ∷ node.End ∷ []

abbrev pub shape : Atom → List Node
shape a.Escape =
    node.Begin n.CharacterEscape ∷ node.Piece n.CharacterEscapeMarker 1 ∷ node.Piece n.CharacterEscapeValue 1
    ∷ node.End ∷ []
shape a.BreakEscape = node.Piece n.HardBreakEscape 1 ∷ []
shape (a.Reference r) = reference_shape r
shape (a.Code r) = raw_shape n.CodeText n.CodeTextSequence n.CodeTextData r
shape (a.Math r) = raw_shape n.MathText n.MathTextSequence n.MathTextData r
shape (a.Text len) = node.Piece n.Data len ∷ []
shape (a.Uri len) = angled_shape n.AutolinkProtocol len
shape (a.Email len) = angled_shape n.AutolinkEmail len
shape (a.Html len) = node.Begin n.HtmlText ∷ node.Piece n.HtmlTextData len ∷ node.End ∷ []
shape (a.Trailing white spaces) = node.Piece n.SpaceOrTab white ∷ node.Piece n.HardBreakTrailing spaces ∷ []
shape (a.Literal l) = node.Piece (literal_name l.kind) l.len ∷ []
