-- Further lines of fenced code and math that are taken in one call: each of their states leaves the text as it is, and
-- where it stays, it stays where it was.
use Rattle.std.proofs.Common.{◌≡◌, ◌≢◌, ◌∙◌, ◌&&◌, Bool, true, false, ap, nat_lt, refl, subst, sym}
use Rattle.md_literal.specs.Fence.{at_non_lazy_break_code, before_chunk_code, chunk_code, content_start_code}
use Rattle.md_literal.specs.Fence.{fence_transition, held_indent, may_close}
use Rattle.md_content.proofs.StaysLemmas.{not-ending}
use Rattle.md_engine.specs.declared.state.raw_flow.State.TheVariants as its
use Rattle.md_engine.specs.declared.state.Name.{Name as StateName}
use Rattle.md_engine.specs.declared.state.Name.TheVariants as n
use Rattle.md_engine.specs.declared.state.State.{State}
use Rattle.md_engine.specs.declared.state.State.TheVariants.{Error, Retry}
use Rattle.md_engine.specs.declared.stay.Stay.TheVariants.{Line}
use Rattle.md_engine.specs.Going.{SeesOn}
use Rattle.md_engine.specs.World.{World, looks}
use Rattle.md_engine.proofs.Loops.{not_error}
use Rattle.md_engine.proofs.Walks.{Within}
use Rattle.md_registry.proofs.LinesAtOnce.{Proceeds, Leaves, leaves-once}
use Rattle.md_events.specs.Spaces.{ends_line, sees_white}
use Rattle.md_events.specs.Stays.{TakesEach}

-- before a line, by whether it may be a closing fence,
break-leaves : (w : World) (x : Bool) → Leaves (at_non_lazy_break_code w x) w
break-leaves w true = ((refl, refl), refl)
break-leaves w false = ((refl, refl), refl)

-- by whether whitespace is there that does not belong to it,
start-leaves : (w : World) (x : Bool) → Leaves (content_start_code w x) w
start-leaves w true = ((refl, refl), refl)
start-leaves w false = ((refl, refl), refl)

-- by whether the line ends there,
before-leaves : (w : World) (x : Bool) → Leaves (before_chunk_code w x) w
before-leaves w true = (tt, refl)
before-leaves w false = ((refl, refl), refl)

-- and in it
pub chunk-leaves : (w : World) (x : Bool) → Leaves (chunk_code w x) w
chunk-leaves w true = ((refl, refl), refl)
chunk-leaves w false = (tt, refl)

-- where what is left of it is taken byte after byte.
pub chunk-takes : TakesEach Line (n.RawFlow its.ContentChunk) (fence_transition its.ContentChunk)
chunk-takes w b e h = ap (chunk_code w) (ap ends_line e ∙ not-ending b h)

-- So a call of each is a run.
pub breaks : (w : World) (to : State) (new : World) → w.current ≡ looks w → Within w →
    (to ≢ Error → to ≡ (fence_transition its.AtNonLazyBreak w).to) →
    (to ≢ Error → new ≡ (fence_transition its.AtNonLazyBreak w).world) → to ≢ Error →
    Proceeds (n.RawFlow its.AtNonLazyBreak) w to new
breaks w to new seen within to_is new_is fine =
    leaves-once (n.RawFlow its.AtNonLazyBreak) w to new (break-leaves w (may_close w.flags.leaf w.current)) (to_is
    fine)
    (new_is fine) fine seen within

pub starts : (w : World) (to : State) (new : World) → w.current ≡ looks w → Within w →
    (to ≢ Error → to ≡ (fence_transition its.ContentStart w).to) →
    (to ≢ Error → new ≡ (fence_transition its.ContentStart w).world) → to ≢ Error →
    Proceeds (n.RawFlow its.ContentStart) w to new
starts w to new seen within to_is new_is fine =
    leaves-once (n.RawFlow its.ContentStart) w to new
    (start-leaves w (nat_lt 0 (held_indent w.flags.leaf) && sees_white w.current)) (to_is fine) (new_is fine) fine
    seen
    within

pub befores : (w : World) (to : State) (new : World) → w.current ≡ looks w → Within w →
    (to ≢ Error → to ≡ (fence_transition its.BeforeContentChunk w).to) →
    (to ≢ Error → new ≡ (fence_transition its.BeforeContentChunk w).world) → to ≢ Error →
    Proceeds (n.RawFlow its.BeforeContentChunk) w to new
befores w to new seen within to_is new_is fine =
    leaves-once (n.RawFlow its.BeforeContentChunk) w to new (before-leaves w (ends_line w.current)) (to_is fine)
    (new_is fine) fine seen within

-- What is at the point is still seen where another state is called next.
pub still-seen : (first next : StateName) (w u : World) (s : State) → s ≡ Retry next →
    (s ≢ Error → Proceeds first w s u) → u.current ≡ looks u
still-seen first next w u s is proceeds =
    (subst (λ (x : State). SeesOn x w u) is (proceeds (λ e. not_error (Retry next) next refl (sym is ∙ e))).1).0
