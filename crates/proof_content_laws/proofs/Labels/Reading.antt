-- The labels of the definitions that were read so far: those of the finished blocks, from the outermost container in.
use Rattle.std.proofs.Common.{◌≡◌, ℕ, zero, suc, List, [], ◌∷◌, ◌++◌, refl, ap, sym, ◌∙◌, append_assoc, append-nil}
use Rattle.std.specs.Prelude.{Option, Some, None}
use Rattle.md_meaning.specs.State.{Container}
use Rattle.md_meaning.specs.Tree.{Block, Blocks}
use Rattle.md_events.specs.Events.Spelled.{OpenContainer, FootnoteShape, ItemShape, OrderedShape, QuoteShape, Reading}
use Rattle.md_events.specs.Events.Spelled.{Shape, UnorderedShape, add_block, block_around, left}
use Rattle.proof_frame.specs.Closed.{close_containers}
use Rattle.proof_frame.proofs.LeafFacts.{shown}
use Rattle.proof_content_laws.proofs.Labels.Trees.{defined-then, defined_by, defined_in}
use Rattle.proof_frame.proofs.PrefixFacts.{begins}
use Rattle.proof_frame.proofs.Enters.{enters}

-- those before the innermost container
abbrev pub outer_labels : List OpenContainer → List (List ℕ)
outer_labels [] = []
outer_labels (around ∷ outer) = outer_labels outer ++ defined_in around.before

abbrev pub read_labels : Reading → List (List ℕ)
read_labels r = outer_labels r.outer ++ defined_in r.here

-- with one block more
pub labels-added : (b : Block) (r : Reading) → read_labels (add_block b r) ≡ read_labels r ++ defined_by b
labels-added b r =
    ap (λ (l : List (List ℕ)). outer_labels r.outer ++ l) (defined-then r.here b)
    ∙ sym (append_assoc (outer_labels r.outer) (defined_in r.here) (defined_by b))

abbrev pub shown_labels : Option Block → List (List ℕ)
shown_labels None = []
shown_labels (Some b) = defined_by b

pub labels-shown : (o : Option Block) (r : Reading) → read_labels (shown o r) ≡ read_labels r ++ shown_labels o
labels-shown None r = sym (append-nil (read_labels r))
labels-shown (Some b) r = labels-added b r

-- containers that begin have none,
pub labels-enters : (cs : List Container) (r : Reading) → read_labels (enters cs r) ≡ read_labels r
labels-enters [] r = refl
labels-enters (c ∷ cs) r = labels-enters cs (begins c r) ∙ append-nil (read_labels r)

-- and one that ends has those of its blocks
around-labels : (shape : Shape) (bs : Blocks) → defined_by (block_around shape bs) ≡ defined_in bs
around-labels (QuoteShape alert) bs = refl
around-labels OrderedShape bs = refl
around-labels UnorderedShape bs = refl
around-labels (ItemShape marker digits) bs = refl
around-labels (FootnoteShape label) bs = refl

pub labels-left : (r : Reading) → read_labels (left r.outer r) ≡ read_labels r
labels-left r = go r.outer r.here
  where
    go : (outer : List OpenContainer) (here : Blocks) →
        read_labels (left outer (record r { outer = outer; here = here })) ≡ outer_labels outer ++ defined_in here
    go [] here = refl
    go (around ∷ outer) here =
        ap (λ (l : List (List ℕ)). outer_labels outer ++ l)
        (defined-then around.before (block_around around.shape here)
        ∙ ap (λ (l : List (List ℕ)). defined_in around.before ++ l) (around-labels around.shape here))
        ∙ sym (append_assoc (outer_labels outer) (defined_in around.before) (defined_in here))

pub labels-closed : (size : ℕ) (r : Reading) → read_labels (close_containers size r) ≡ read_labels r
labels-closed zero r = refl
labels-closed (suc size) r = labels-closed size (left r.outer r) ∙ labels-left r
