-- A fence by the cells of its line: it is where the line definition says.
use Rattle.std.proofs.Common.{◌≡◌, ℕ, ◌^◌, ◌<◌, true, List, [], ◌++◌, length, Option, Some, None, refl, sym, ◌∙◌, subst}
use Rattle.std.specs.Option.{is_some}
use Rattle.md_engine.specs.declared.configuration.ParseOptions.{ParseOptions}
use Rattle.md_engine.specs.declared.event.Point.{Point}
use Rattle.md_engine.specs.declared.tokenizer.Line.{Line}
use Rattle.md_engine.specs.declared.tokenizer.held_leaf.HeldLeaf.{HeldLeaf}
use Rattle.md_engine.specs.Meaning.{Cell}
use Rattle.md_meaning.specs.Leaves.{LeafResult, Opened, fence_at}
use Rattle.md_meaning.specs.Rest.{Rest}
use Rattle.md_meaning.specs.State.{OpenFence, Opening}
use Rattle.md_meaning.proofs.TextsLemmas.{NoEnding}
use Rattle.md_literal.specs.FenceLine.{fence_begins}
use Rattle.md_literal.proofs.FenceOpens.{HeldAs, opens-agrees}
use Rattle.md_events.proofs.FeedLines.{Stops}
use Rattle.md_events.proofs.RestCells.{RestAt, rest_cells}
use Rattle.proof_literal_laws.specs.Leaf.Fence.{fence_keeps, held_of, is_fence, opening_at, or_none}
use Rattle.proof_literal_laws.proofs.Fence.Opened.{fence-starts}
use Rattle.proof_literal_laws.proofs.Fence.Trial.{begins-some}

held-some : (held : Option HeldLeaf) (became : Option LeafResult) → HeldAs held became → is_some held ≡ is_some became
held-some None None h = refl
held-some None (Some c) h = absurd h
held-some (Some leaf) None h = absurd h
held-some (Some leaf) (Some c) h = refl

pub fence-fits : (options : ParseOptions) (said : Line) (text following : List ℕ) (r : Rest) (p : Point)
    (stop : List Cell) →
    RestAt text following r p → NoEnding r.bytes → Stops stop → length (rest_cells said r p ++ stop) < 2 ^ 63 →
    is_fence options (rest_cells said r p ++ stop) ≡ is_some (fence_at options r)
fence-fits options said text following r p stop is h k short =
    sym (begins-some options (rest_cells said r p ++ stop) p)
    ∙ held-some (fence_begins options (rest_cells said r p ++ stop) p) (fence_at options r)
    (opens-agrees options said text following r p stop is h k short)

-- What is held of the block is what the line definition has of it.

held-is : (held : Option HeldLeaf) (o : Opening) → HeldAs held (Some (Opened (OpenFence o []))) →
    or_none held ≡ held_of o
held-is None o h = absurd h
held-is (Some leaf) o h = h.0

pub fence-keeps : (options : ParseOptions) (said : Line) (text following : List ℕ) (r : Rest) (p : Point)
    (stop : List Cell) →
    RestAt text following r p → NoEnding r.bytes → Stops stop → length (rest_cells said r p ++ stop) < 2 ^ 63 →
    is_some (fence_at options r) ≡ true →
    fence_keeps options (rest_cells said r p ++ stop) p ≡ held_of (opening_at r)
fence-keeps options said text following r p stop is h k short starts =
    held-is (fence_begins options (rest_cells said r p ++ stop) p) (opening_at r)
    (subst (HeldAs (fence_begins options (rest_cells said r p ++ stop) p)) (fence-starts options r starts).opens
    (opens-agrees options said text following r p stop is h k short))
