-- Blocks, once read, stay: what holds of all blocks of a tree held of all before.
use Rattle.std.proofs.Common.{◌≡◌, ℕ, Bool, true, ◌&&◌, List, [], ◌∷◌, refl, sym, ◌∙◌, ap}
use Rattle.std.specs.Prelude.{Option, Some, None}
use Rattle.std.proofs.lemmas.Bool.{and_from, and_parts}
use Rattle.md_engine.specs.declared.event.Event.{Event}
use Rattle.md_engine.specs.declared.event.Kind.{Kind}
use Rattle.md_engine.specs.declared.event.Kind.TheVariants.{Enter, Exit}
use Rattle.md_engine.specs.declared.event.Point.{Point}
use Rattle.md_events.specs.Events.Spelled.{OpenContainer, ContainerRole, IsEnding, IsQuoteMarker, OpenLeaf, LeafRole}
use Rattle.md_events.specs.Events.Spelled.{Purpose, Reading, Role, Shape, TextRole, Text, block_around, block_of}
use Rattle.md_events.specs.Events.Spelled.{finished, left, on_shape, read, read_by, role, recorded_at, with_kind}
use Rattle.md_events.specs.Events.Throughout.{all_blocks}
use Rattle.md_meaning.specs.Tree.{Block}
use Rattle.md_events.proofs.ThroughoutLemmas.{all-inside, all-then}
use Rattle.md_outline.proofs.RoleLemmas.{by-ending, by-marker, by-recorded_at}

abbrev pub outer_hold : (Block → Bool) → List OpenContainer → Bool
outer_hold p [] = true
outer_hold p (around ∷ outer) = all_blocks p around.before && outer_hold p outer

abbrev pub AllHold : (Block → Bool) → Reading → Type 0
AllHold p r = (all_blocks p r.here ≡ true) × (outer_hold p r.outer ≡ true)

-- a container ends
stay-left : (p : Block → Bool) (outer : List OpenContainer) (r : Reading) → r.outer ≡ outer →
    AllHold p (left outer r) → AllHold p r
stay-left p [] r e d = d
stay-left p (around ∷ outer) r e d =
    let parts = all-then p around.before (block_around around.shape r.here) d.0 in (
      all-inside p around.shape r.here parts.1,
      ap (outer_hold p) e ∙ and_from (all_blocks p around.before) (outer_hold p outer) parts.0 d.1,
    )

stay-finished : (p : Block → Bool) (leaf : Option OpenLeaf) (r : Reading) → AllHold p (finished leaf r) → AllHold p r
stay-finished p None r d = d
stay-finished p (Some leaf) r d = ((all-then p r.here (block_of leaf) d.0).0, d.1)

-- a text ends
outer-named : (p : Block → Bool) (f : Shape → Shape) (outer : List OpenContainer) →
    outer_hold p (on_shape f outer) ≡ outer_hold p outer
outer-named p f [] = refl
outer-named p f (around ∷ outer) = refl

stay-recorded : (p : Block → Bool) (bytes : List ℕ) (x : Purpose) (at : Point) (text : Option Text) (r : Reading) →
    AllHold p (recorded_at bytes x at text r) → AllHold p r
stay-recorded p bytes x at text r =
    by-recorded_at (λ now. AllHold p now → AllHold p r) bytes x at text r (λ d. d)
    (record {
      block = λ b d. ((all-then p r.here b d.0).0, d.1);
      named = λ f d. (d.0, sym (outer-named p f r.outer) ∙ d.1);
      noted = λ f d. d;
    })

stay-step : (p : Block → Bool) (bytes : List ℕ) (kind : Kind) (x : Role) (at : Point) (r : Reading) →
    AllHold p (read_by bytes kind x at r) → AllHold p r
stay-step p bytes Enter (ContainerRole shape) at r d = and_parts (all_blocks p r.here) (outer_hold p r.outer) d.1
stay-step p bytes Exit (ContainerRole shape) at r d = stay-left p r.outer r refl d
stay-step p bytes Exit (LeafRole kind) at r d = stay-finished p r.leaf r d
stay-step p bytes Exit (TextRole x) at r d = stay-recorded p bytes x at r.text r d
stay-step p bytes Exit IsEnding at r d =
    by-ending (λ now. AllHold p now → AllHold p r) bytes at r.text r (λ d. d) (λ d. d) d
stay-step p bytes Enter IsQuoteMarker at r d =
    by-marker (λ now. AllHold p now → AllHold p r) bytes at r (λ d. d)
    (λ kind d. (d.0, sym (outer-named p (with_kind kind) r.outer) ∙ d.1)) d
stay-step p bytes Enter _ at r d = d
stay-step p bytes Exit _ at r d = d

-- all events
pub blocks-stay : (p : Block → Bool) (bytes : List ℕ) (events : List Event) (r : Reading) →
    AllHold p (read bytes r events) → AllHold p r
blocks-stay p bytes [] r d = d
blocks-stay p bytes (e ∷ events) r d =
    stay-step p bytes e.kind (role e.name) e.point r
    (blocks-stay p bytes events (read_by bytes e.kind (role e.name) e.point r) d)
