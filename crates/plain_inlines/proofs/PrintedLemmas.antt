-- What is printed of the nodes of a forest is the printed form of the forest.
use Rattle.std.proofs.Common.{◌≡◌, ℕ, Bool, suc, ◌+◌, ◌-◌, List, [], ◌∷◌, ◌++◌, take, drop, refl, ap, sym, ◌∙◌, arith}
use Rattle.std.proofs.Common.{append_assoc, append-nil}
use Rattle.std.specs.Str.Lossy.{utf8_lossy}
use Rattle.std.proofs.lemmas.List.{drop-drop}
use Rattle.md_inline_events.specs.Forest.{Forest, nothing, part, piece, size}
use Rattle.proof_inlines.proofs.ContentForests.{size-part, size-piece}
use Rattle.reference_inlines.specs.Nodes.{len_of, nodes}
use Rattle.reference_inlines.specs.declared.node.Node.{Node}
use Rattle.reference_inlines.specs.declared.node.Node.TheVariants as node
use Rattle.md_meaning.specs.Ascii.{caret, equals_sign}
use Rattle.md_inlines.specs.Content.{content}
use Rattle.md_inlines.specs.declared.InlineOptions.{InlineOptions}
use Rattle.plain_inlines.specs.Given.{is_first, labels_in, labels_of, with_labels}
use Rattle.plain_inlines.specs.PrintedForest.{content_of, part_line, piece_line, printed, shown}
use Rattle.plain_inlines.specs.PrintedNodes.{depth_after, node_lines, printed_nodes}

-- A loop over nodes.
pub nodes-go : (depth : ℕ) (left : List ℕ) (nd : Node) (rest following : List Node) (count : ℕ)
    (next made more all : List ℕ) → rest ≡ nd ∷ following → more ≡ made ++ node_lines depth left nd →
    count ≡ depth_after depth nd → next ≡ drop (len_of nd) left → made ++ printed_nodes depth left rest ≡ all →
    more ++ printed_nodes count next following ≡ all
nodes-go depth left nd rest following count next made more all is more_is count_is next_is done =
    ap (λ (l : List ℕ). l ++ printed_nodes count next following) more_is
    ∙ append_assoc made (node_lines depth left nd) (printed_nodes count next following)
    ∙ ap (λ (k : ℕ). made ++ (node_lines depth left nd ++ printed_nodes k next following)) count_is
    ∙ ap (λ (l : List ℕ). made ++ (node_lines depth left nd ++ printed_nodes (depth_after depth nd) l following)) next_is
    ∙ ap (λ (l : List Node). made ++ printed_nodes depth left l) (sym is) ∙ done

-- Nodes of a forest.
together : (a b c d : List ℕ) → a ++ (b ++ (c ++ d)) ≡ (a ++ b ++ c) ++ d
together a b c d = simp append_assoc

printed-before : (forest : Forest) (depth : ℕ) (text : List ℕ) (list : List Node) →
    printed_nodes depth text (nodes forest ++ list) ≡
    printed depth text forest ++ printed_nodes depth (drop (size forest) text) list
printed-before nothing depth text list = refl
printed-before (piece name more following) depth text list =
    let line : List ℕ = piece_line depth name (take (suc more) text) in
    let left : List ℕ = drop (suc more) text in
    let place : drop (size following) left ≡ drop (size (piece name more following)) text =
    drop-drop (size following) (suc more) text
    ∙ ap (λ (k : ℕ). drop k text) (sym (size-piece name more following)) in
    ap (λ l. line ++ l)
    (printed-before following depth left list
    ∙ ap (λ (l : List ℕ). printed depth left following ++ printed_nodes depth l list) place)
    ∙ sym
    (append_assoc line (printed depth left following)
    (printed_nodes depth (drop (size (piece name more following)) text) list))
printed-before (part name inside following) depth text list =
    let line : List ℕ = part_line depth name in
    let left : List ℕ = drop (size inside) text in
    let place : drop (size following) left ≡ drop (size (part name inside following)) text =
    drop-drop (size following) (size inside) text
    ∙ ap (λ (k : ℕ). drop k text) (sym (size-part name inside following)) in
    let back : depth + 1 - 1 ≡ depth = omega arith in
    let rest : List ℕ = printed_nodes depth (drop (size (part name inside following)) text) list in
    ap (λ l. line ++ l)
    (ap (printed_nodes (depth + 1) text) (append_assoc (nodes inside) (node.End ∷ nodes following) list)
    ∙ printed-before inside (depth + 1) text (node.End ∷ (nodes following ++ list))
    ∙ ap (λ l. printed (depth + 1) text inside ++ l)
    (ap (λ (k : ℕ). printed_nodes k left (nodes following ++ list)) back
    ∙ printed-before following depth left list
    ∙ ap (λ (l : List ℕ). printed depth left following ++ printed_nodes depth l list) place))
    ∙ together line (printed (depth + 1) text inside) (printed depth left following) rest

pub printed-forest : (text : List ℕ) (forest : Forest) →
    printed_nodes 0 text (nodes forest) ≡ printed 0 text forest
printed-forest text forest =
    ap (printed_nodes 0 text) (sym (append-nil (nodes forest))) ∙ printed-before forest 0 text []
    ∙ append-nil (printed 0 text forest)

-- the content of a text in a document with these labels
content-same : (options : InlineOptions) (definitions footnotes more : List (List ℕ)) (first : Bool) (text : List ℕ) →
    definitions ≡ labels_in equals_sign more → footnotes ≡ labels_in caret more → first ≡ is_first more →
    content options (with_labels definitions footnotes) first text ≡ content_of options more text
content-same options definitions footnotes more first text d f h =
    ap (λ (l : List (List ℕ)). content options (with_labels l footnotes) first text) d
    ∙ ap (λ (l : List (List ℕ)). content options (with_labels (labels_in equals_sign more) l) first text) f
    ∙ ap (λ (t : Bool). content options (labels_of more) t text) h

pub content-shown : (options : InlineOptions) (definitions footnotes more : List (List ℕ)) (first : Bool)
    (text bytes : List ℕ) (list : List Node) → definitions ≡ labels_in equals_sign more →
    footnotes ≡ labels_in caret more → first ≡ is_first more →
    list ≡ nodes (content options (with_labels definitions footnotes) first text) →
    bytes ≡ utf8_lossy (printed_nodes 0 text list) → bytes ≡ shown text (content_of options more text)
content-shown options definitions footnotes more first text bytes list d f h is made =
    made
    ∙ ap (λ (l : List Node). utf8_lossy (printed_nodes 0 text l))
    (is ∙ ap nodes (content-same options definitions footnotes more first text d f h))
    ∙ ap utf8_lossy (printed-forest text (content_of options more text))
