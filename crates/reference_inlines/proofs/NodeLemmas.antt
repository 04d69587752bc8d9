-- Nodes of forests that are put together.
use Rattle.std.proofs.Common.{◌≡◌, ℕ, zero, suc, List, [], ◌∷◌, ◌++◌, refl, ap, sym, ◌∙◌, append_assoc}
use Rattle.std.proofs.lemmas.List.Concat.{flat_map-append}
use Rattle.md_engine.specs.declared.event.Name.{Name}
use Rattle.md_engine.specs.declared.event.Name.TheVariants as n
use Rattle.md_inline_events.specs.Forest.{Forest, nothing, over, part, piece}
use Rattle.md_inlines.specs.Atoms.{beside}
use Rattle.md_inlines.specs.Emphasis.{Item, level, read, run}
use Rattle.reference_inlines.specs.Nodes.{item_nodes, items_nodes, nodes, pieces, text_of, texts}
use Rattle.reference_inlines.specs.declared.node.Node.TheVariants as node

pub pieces_none : (name : Name) (len : ℕ) → len ≡ 0 → pieces name len ≡ []
pieces_none name len h = ap (pieces name) h

pub pieces_some : (name : Name) (len : ℕ) → (len ≡ 0 → ⊥) → pieces name len ≡ node.Piece name len ∷ []
pieces_some name zero h = absurd (h refl)
pieces_some name (suc more) h = refl

pub nodes-over : (name : Name) (len : ℕ) (following : Forest) →
    nodes (over name len following) ≡ pieces name len ++ nodes following
nodes-over name zero following = refl
nodes-over name (suc more) following = refl

pub nodes-beside : (a b : Forest) → nodes (beside a b) ≡ nodes a ++ nodes b
nodes-beside nothing b = refl
nodes-beside (piece name more following) b = ap (λ l. node.Piece name (suc more) ∷ l) (nodes-beside following b)
nodes-beside (part name inside following) b =
    ap (λ l. node.Begin name ∷ (nodes inside ++ node.End ∷ l)) (nodes-beside following b)
    ∙ ap (λ l. node.Begin name ∷ l) (sym (append_assoc (nodes inside) (node.End ∷ nodes following) (nodes b)))

pub items-append : (xs ys : List Item) → items_nodes (xs ++ ys) ≡ items_nodes xs ++ items_nodes ys
items-append xs ys = flat_map-append item_nodes xs ys

-- what is read already is no run
pub texts-nodes : (forest : Forest) → texts (nodes forest) ≡ nodes forest
texts-nodes nothing = refl
texts-nodes (piece name more following) = ap (λ l. node.Piece name (suc more) ∷ l) (texts-nodes following)
texts-nodes (part name inside following) =
    ap (λ l. node.Begin name ∷ l)
    (flat_map-append text_of (nodes inside) (node.End ∷ nodes following)
    ∙ ap (λ l. l ++ node.End ∷ texts (nodes following)) (texts-nodes inside)
    ∙ ap (λ l. nodes inside ++ node.End ∷ l) (texts-nodes following))

pub nodes-level : (items : List Item) → nodes (level items) ≡ texts (items_nodes items)
nodes-level [] = refl
nodes-level (read forest ∷ items) =
    nodes-beside forest (level items) ∙ ap (λ l. nodes forest ++ l) (nodes-level items)
    ∙ ap (λ l. l ++ texts (items_nodes items)) (sym (texts-nodes forest))
    ∙ sym (flat_map-append text_of (nodes forest) (items_nodes items))
nodes-level (run r ∷ items) =
    nodes-over n.Data r.left (level items) ∙ ap (λ l. pieces n.Data r.left ++ l) (nodes-level items)
