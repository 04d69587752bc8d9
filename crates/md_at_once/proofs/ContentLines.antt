-- Lines of content that are taken without an attempt. Where the end of a line can be read, this is what an attempt does
-- that is begun and left; else an attempt is begun when the rest of the line has been seen.
use Rattle.std.proofs.Common.{◌≡◌, ◌<◌, ◌≤◌, ◌∙◌, ◌++◌, Bool, true, false, List, [], ◌∷◌, ap, arith}
use Rattle.std.proofs.Common.{Some, length, nat_eq, not, refl, subst, sym}
use Rattle.md_content.specs.Chunks.{begun, chunk_inside_code, chunk_start_transition, chunk_transition, content_link}
use Rattle.md_content.proofs.StaysLemmas.{chunk-takes}
use Rattle.md_engine.specs.declared.event.Event.{Event}
use Rattle.md_engine.specs.declared.event.Kind.TheVariants.{Enter}
use Rattle.md_engine.specs.declared.event.Name.TheVariants.{Content}
use Rattle.md_engine.specs.declared.state.content.State.TheVariants as content
use Rattle.md_engine.specs.declared.state.flow.State.TheVariants as flow
use Rattle.md_engine.specs.declared.state.Name.TheVariants as n
use Rattle.md_engine.specs.declared.state.State.TheVariants.{Next, Nok}
use Rattle.md_engine.specs.declared.stay.Stay.TheVariants.{Line}
use Rattle.md_engine.specs.declared.tokenizer.Frame.{Frame}
use Rattle.md_engine.specs.declared.tokenizer.Scratch.{Scratch}
use Rattle.md_engine.specs.Place.{seen_at}
use Rattle.md_engine.specs.Run.{RunsFrom, RunsHere, reading}
use Rattle.md_engine.specs.Staying.{Sees, SeesAll, SeesSome}
use Rattle.md_engine.specs.Staying.SeesSome.{Nothing, OneMore}
use Rattle.md_engine.specs.World.{World, looks}
use Rattle.md_engine.proofs.Loops.{ArrivedHere, ArrivedAt, arrived-first, arrived-runs}
use Rattle.md_engine.proofs.Walks.{Within, then-holds, then-seen, then-stays, within-more, within-one}
use Rattle.md_events.specs.Spaces.{ends_line}
use Rattle.md_events.specs.Transition.{tried}
use Rattle.md_registry.specs.States.{FlowStep}
use Rattle.md_at_once.specs.AtOnce.{line_frame, line_tried}
use Rattle.md_at_once.proofs.LineEnds.{line-waits, takes-so}
use Rattle.md_at_once.proofs.TakenBack.{stepped-as}
use Rattle.md_at_once.proofs.WhiteEnds.{looks-inside}

-- The rest of a line is seen whatever events and attempts there are, and whatever is kept beside,
abbrev pub with : List Event → List Frame → Scratch → World → World
with es fs s w = record w { events = es; frames = fs; scratch = s }

pub some-with : (es : List Event) (fs : List Frame) (s : Scratch) (w u : World) → SeesSome Line w u →
    SeesSome Line (with es fs s w) (with es fs s u)
some-with es fs s w _ Nothing = Nothing
some-with es fs s w _ (OneMore v some here) = OneMore (with es fs s v) (some-with es fs s w v some) here

-- all of which it leaves as it is.
pub record Keeps (w u : World) : Type 0 where
  pub events : u.events ≡ w.events
  pub frames : u.frames ≡ w.frames
  pub scratch : u.scratch ≡ w.scratch
  pub flags : u.flags ≡ w.flags

pub some-keeps : (w u : World) → SeesSome Line w u → Keeps w u
some-keeps w _ Nothing = record { events = refl; frames = refl; scratch = refl; flags = refl }
some-keeps w _ (OneMore v some here) =
    let before = some-keeps w v some in
    record { events = before.events; frames = before.frames; scratch = before.scratch; flags = before.flags }

-- At its end the line ends, where something is.
pub line-over : (u : World) → u.point.index < u.setting.limit → ¬ Sees Line u → ends_line (looks u) ≡ true
line-over u lt none = ap ends_line there ∙ go (nat_eq (seen_at u.setting.bytes u.point) 10) refl
  where
    there : looks u ≡ Some (seen_at u.setting.bytes u.point)
    there = looks-inside u.setting u.point lt

    go : (y : Bool) → nat_eq (seen_at u.setting.bytes u.point) 10 ≡ y → y ≡ true
    go true e = refl
    go false e = absurd (none (seen_at u.setting.bytes u.point, there, ap not e))

-- A line of content has begun, and an attempt at it;
abbrev first_event : World → Event
first_event w = record { kind = Enter; name = Content; point = w.point; link = Some content_link }

abbrev begins_in : World → World → World
begins_in w =
    with (w.events ++ first_event w ∷ []) (line_frame (length w.events) w.point ∷ w.frames) (begun w.point w.scratch)

-- to which one comes before it.
begins : (w : World) → w.current ≡ looks w → Within w →
    ArrivedHere FlowStep (n.Flow flow.BeforeContent) w (n.Content content.ChunkInside) (begins_in w w)
begins w seen within is_end s v named from may =
    let a : World = tried w (Next (n.Flow flow.After)) Nok in
    let inner : Within a =
    within-one (line_frame (length w.events) w.point) w.frames (length w.events) (omega arith) within in
    then-stays FlowStep is_end s v (n.Content content.ChunkStart) (n.Content content.ChunkInside) a
    (chunk_start_transition a).world
    (then-stays FlowStep is_end s v (n.Flow flow.BeforeContent) (n.Content content.ChunkStart) w a
    (arrived-first FlowStep (n.Flow flow.BeforeContent) w is_end s v named from may)
    (record { to_is = refl; new_is = refl }) refl within refl seen)
    (record { to_is = refl; new_is = refl }) refl inner refl seen

begins-within : (w : World) → Within w → Within (begins_in w w)
begins-within w within =
    within-more (line_frame (length w.events) w.point ∷ w.frames) w.events (first_event w ∷ [])
    (within-one (line_frame (length w.events) w.point) w.frames (length w.events) (omega arith) within)

-- the same line where it has begun without an attempt
abbrev entered_in : World → World
entered_in w = (chunk_start_transition w).world

all-seen : (w u : World) → SeesAll Line (entered_in w) u → SeesAll Line (begins_in w w) (begins_in w u)
all-seen w u all = record { some = some-with _ _ _ (entered_in w) u all.some; ends = all.ends }

-- Where the text that may be read ends in the line, it waits for more.
pub content-waits : (w u x : World) → w.current ≡ looks w → Within w → w.point.index < w.setting.limit →
    SeesAll Line (chunk_start_transition w).world u → u.setting.limit ≤ u.point.index →
    x ≡ line_tried (length w.events) w.point u →
    RunsHere FlowStep (n.Flow flow.BeforeContent) w (Next (n.Content content.ChunkInside)) x
content-waits w u x seen within lt all le new is_end =
    subst (λ (y : World). RunsFrom FlowStep is_end (n.Flow flow.BeforeContent) w
    (Next (n.Content content.ChunkInside)) y)
    (sym (new ∙ same))
    (arrived-runs FlowStep is_end (n.Flow flow.BeforeContent) (n.Content content.ChunkInside) w (begins_in w w)
    (Next (n.Content content.ChunkInside)) (begins_in w u) (begins w seen within is_end)
    (line-waits (n.Content content.ChunkInside) (begins_in w w) (begins_in w u) chunk-takes seen
    (begins-within w within)
    (all-seen w u all) lt le is_end))
  where
    keeps : Keeps (entered_in w) u
    keeps = some-keeps (entered_in w) u all.some

    laid : List Event → List Frame → Scratch → World
    laid es fs s = with es (line_frame (length w.events) w.point ∷ fs) s u

    same : line_tried (length w.events) w.point u ≡ begins_in w u
    same =
        ap (λ (es : List Event). laid es u.frames u.scratch) keeps.events
        ∙ ap (λ (fs : List Frame). laid (entered_in w).events fs u.scratch) keeps.frames
        ∙ ap (λ (s : Scratch). laid (entered_in w).events w.frames s) keeps.scratch

-- Where it can be read to its end, the line ends there,
pub ends-there : (w u : World) → SeesAll Line w u → u.point.index < u.setting.limit →
    chunk_transition content.ChunkInside (reading u) ≡ chunk_inside_code (reading u) true
ends-there w u all lt = ap (chunk_inside_code (reading u)) (line-over u lt all.ends)

-- as where an attempt is left.
pub content-ends : (w u x : World) → w.current ≡ looks w → Within w →
    SeesAll Line (chunk_start_transition w).world u → u.point.index < u.setting.limit →
    x ≡ (chunk_inside_code (reading u) true).world →
    ArrivedHere FlowStep (n.Flow flow.BeforeContent) w (n.Flow flow.After) x
content-ends w u x seen within all lt following is_end s z named from may =
    subst (λ (y : World). ArrivedAt FlowStep is_end s z (n.Flow flow.After) y) left over
  where
    keeps : Keeps (entered_in w) u
    keeps = some-keeps (entered_in w) u all.some

    inside : World
    inside = reading (begins_in w u)

    taken : World
    taken = (chunk_inside_code inside true).world

    laid : List Event → List Frame → Scratch → World
    laid es fs s = (chunk_inside_code (with es fs s (reading u)) true).world

    left : reading (record taken { frames = w.frames }) ≡ x
    left =
        sym
        (following ∙ ap (λ (es : List Event). laid es u.frames u.scratch) keeps.events
        ∙ ap (λ (fs : List Frame). laid (entered_in w).events fs u.scratch) keeps.frames
        ∙ ap (λ (s : Scratch). laid (entered_in w).events w.frames s) keeps.scratch)

    at_end : ArrivedAt FlowStep is_end s z (n.Content content.ChunkInside) inside
    at_end =
        then-seen FlowStep is_end s z (n.Content content.ChunkInside) Line (begins_in w w) (begins_in w u)
        (takes-so (n.Content content.ChunkInside) chunk-takes) (begins w seen within is_end s z named from may) seen
        (begins-within w within) (all-seen w u all).some lt

    over : ArrivedAt FlowStep is_end s z (n.Flow flow.After) (reading (record taken { frames = w.frames }))
    over =
        then-holds FlowStep is_end s z (n.Content content.ChunkInside) (n.Flow flow.After) inside taken
        (line_frame (length w.events) w.point) w.frames at_end
        (stepped-as (n.Content content.ChunkInside) inside (chunk_inside_code inside true)
        (ap (chunk_inside_code inside) (line-over u lt all.ends))) refl (begins-within w within) refl refl
        refl within lt
