-- Text beside text is one piece in nodes as it is in their forest.
use Rattle.std.proofs.Common.{◌≡◌, ℕ, suc, ◌+◌, List, [], ◌∷◌, ◌++◌}
use Rattle.std.proofs.Common.{Option, Some, None, refl, ap, sym, ◌∙◌, arith}
use Rattle.md_engine.specs.declared.event.Name.{Name}
use Rattle.md_engine.specs.declared.event.Name.TheVariants as n
use Rattle.md_inline_events.specs.Forest.{Forest, nothing, part, piece}
use Rattle.md_inlines.specs.Atoms.{joined, merged}
use Rattle.reference_inlines.specs.Merged.{both, data_len_of, joined_node, merged_onto, placed, sum_node}
use Rattle.reference_inlines.specs.Nodes.{nodes}
use Rattle.reference_inlines.specs.declared.node.Node.{Node}
use Rattle.reference_inlines.specs.declared.node.Node.TheVariants as node

pub merged_snoc : (list : List Node) (nd : Node) (made : List Node) →
    merged_onto (list ++ nd ∷ []) made ≡ merged_onto list (joined_node nd made)
merged_snoc [] nd made = refl
merged_snoc (first ∷ list) nd made = ap (joined_node first) (merged_snoc list nd made)

sum-none : (o : Option ℕ) → sum_node o None ≡ None
sum-none (Some len) = refl
sum-none None = refl

-- a part's begin or end is beside no text
joined-begin : (name : Name) (list : List Node) → joined_node (node.Begin name) list ≡ node.Begin name ∷ list
joined-begin name [] = refl
joined-begin name (next ∷ list) = refl

joined-end : (list : List Node) → joined_node node.End list ≡ node.End ∷ list
joined-end [] = refl
joined-end (next ∷ list) = refl

joined-before : (name : Name) (len : ℕ) (other : Name) (list : List Node) →
    joined_node (node.Piece name len) (node.Begin other ∷ list) ≡ node.Piece name len ∷ node.Begin other ∷ list
joined-before name len other list =
    ap (λ o. placed o (node.Piece name len) (node.Begin other) list) (sum-none (data_len_of name len))

joined-pieces : (name : Name) (more : ℕ) (other : Name) (count : ℕ) (following : Forest) →
    nodes (joined name more (piece other count following)) ≡
    joined_node (node.Piece name (suc more)) (node.Piece other (suc count) ∷ nodes following)
joined-pieces n.Data more n.Data count following =
    let same : suc (more + suc count) ≡ suc more + suc count = omega arith in
    ap (λ k. node.Piece n.Data k ∷ nodes following) same
joined-pieces n.Data more other count following = refl
joined-pieces name more other count following = refl

joined-nodes : (name : Name) (more : ℕ) (following : Forest) →
    nodes (joined name more following) ≡ joined_node (node.Piece name (suc more)) (nodes following)
joined-nodes name more nothing = refl
joined-nodes name more (part other inside following) =
    sym (joined-before name (suc more) other (nodes inside ++ node.End ∷ nodes following))
joined-nodes name more (piece other count following) = joined-pieces name more other count following

merged-append : (xs ys list : List Node) → merged_onto (xs ++ ys) list ≡ merged_onto xs (merged_onto ys list)
merged-append [] ys list = refl
merged-append (x ∷ xs) ys list = ap (joined_node x) (merged-append xs ys list)

-- nothing is joined over the end of a part
joined-ended : (nd : Node) (made list : List Node) →
    joined_node nd (made ++ node.End ∷ list) ≡ joined_node nd made ++ node.End ∷ list
joined-ended nd [] list = go nd
  where
    go : (nd : Node) → joined_node nd (node.End ∷ list) ≡ nd ∷ node.End ∷ list
    go (node.Piece name len) =
        ap (λ o. placed o (node.Piece name len) node.End list) (sum-none (data_len_of name len))
    go (node.Begin name) = refl
    go node.End = refl
    go (node.Run r) = refl
joined-ended nd (next ∷ made) list = go (both nd next)
  where
    go : (o : Option Node) →
        placed o nd next (made ++ node.End ∷ list) ≡ placed o nd next made ++ node.End ∷ list
    go (Some whole) = refl
    go None = refl

merged-ended : (xs made list : List Node) →
    merged_onto xs (made ++ node.End ∷ list) ≡ merged_onto xs made ++ node.End ∷ list
merged-ended [] made list = refl
merged-ended (x ∷ xs) made list =
    ap (joined_node x) (merged-ended xs made list) ∙ joined-ended x (merged_onto xs made) list

pub merged-nodes : (forest : Forest) → nodes (merged forest) ≡ merged_onto (nodes forest) []
merged-nodes nothing = refl
merged-nodes (piece name more following) =
    joined-nodes name more (merged following) ∙ ap (joined_node (node.Piece name (suc more))) (merged-nodes following)
merged-nodes (part name inside following) =
    ap (λ l. node.Begin name ∷ (l ++ node.End ∷ nodes (merged following))) (merged-nodes inside)
    ∙ ap (λ l. node.Begin name ∷ (merged_onto (nodes inside) [] ++ node.End ∷ l)) (merged-nodes following)
    ∙ ap (λ l. node.Begin name ∷ l)
    (sym (merged-ended (nodes inside) [] (merged_onto (nodes following) []))
    ∙ ap (merged_onto (nodes inside)) (sym (joined-end (merged_onto (nodes following) [])))
    ∙ sym (merged-append (nodes inside) (node.End ∷ nodes following) []))
    ∙ sym (joined-begin name (merged_onto (nodes inside ++ node.End ∷ nodes following) []))
