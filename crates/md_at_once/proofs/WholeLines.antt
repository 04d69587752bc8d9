-- Further lines of fenced code and math that are content as a whole. Where the end of one can be read, its events are
-- added as by an attempt that is begun and left; else an attempt is begun when the rest of the line has been seen.
use Rattle.std.proofs.Common.{◌≡◌, ◌<◌, ◌≤◌, ◌∙◌, ◌++◌, ◌&&◌, ◌||◌, ℕ, Bool, true, false, cond, List, [], ◌∷◌, ap, ap₂}
use Rattle.std.proofs.Common.{Some, append_assoc, arith, length, nat_eq, nat_lt, refl, subst, sym}
use Rattle.std.proofs.lemmas.Bool.{and_right}
use Rattle.md_literal.specs.Fence.{at_non_lazy_break_code, before_chunk_code, block_name, chunk_code, chunk_name}
use Rattle.md_literal.specs.Fence.{cleared}
use Rattle.md_literal.specs.Fence.{content_start_code, held_indent, held_marker, line_entered}
use Rattle.md_engine.specs.declared.event.Event.{Event}
use Rattle.md_engine.specs.declared.state.document.State.TheVariants as document
use Rattle.md_engine.specs.declared.state.flow.State.TheVariants as flow
use Rattle.md_engine.specs.declared.state.raw_flow.State.TheVariants as its
use Rattle.md_engine.specs.declared.state.Name.TheVariants as n
use Rattle.md_engine.specs.declared.state.State.TheVariants.{Next, Retry}
use Rattle.md_engine.specs.declared.stay.Stay.TheVariants.{Line}
use Rattle.md_engine.specs.declared.tokenizer.Frame.{Frame}
use Rattle.md_engine.specs.declared.tokenizer.Scratch.{Scratch}
use Rattle.md_engine.specs.declared.tokenizer.held_leaf.HeldLeaf.{HeldLeaf}
use Rattle.md_engine.specs.Run.{RunsFrom, RunsHere, reading}
use Rattle.md_engine.specs.Staying.{SeesAll}
use Rattle.md_engine.specs.World.{Flags, World, looks}
use Rattle.md_engine.proofs.Loops.{ArrivedHere, ArrivedAt, arrived-first, arrived-runs}
use Rattle.md_engine.proofs.Walks.{Within, then-holds, then-seen, then-stays, within-more, within-one}
use Rattle.proof_frame.specs.LeafName.{FenceFurther}
use Rattle.md_meaning.specs.Rest.{is_white}
use Rattle.md_events.specs.Events.Nested.{exit}
use Rattle.md_events.specs.Look.{looks_after}
use Rattle.md_events.specs.Spaces.{calmed, ends_line, sees_white}
use Rattle.md_events.specs.Transition.{tried}
use Rattle.md_registry.specs.Flow.{inside_code, inside_transition}
use Rattle.md_registry.specs.LineFlags.{blank_here, nothing_is_here}
use Rattle.md_registry.specs.Registry.{asked_first}
use Rattle.md_registry.specs.States.{FlowStep}
use Rattle.md_at_once.specs.AtOnce.{IsNoClose}
use Rattle.md_at_once.specs.WholeLines.{IsWhole, chunk_event, line_event, settled, whole_added, whole_frame}
use Rattle.md_at_once.specs.WholeLines.{whole_tried}
use Rattle.md_at_once.proofs.ContentLines.{Keeps, line-over, some-keeps, some-with, with}
use Rattle.md_at_once.proofs.FenceLines.{chunk-takes}
use Rattle.md_at_once.proofs.LineEnds.{line-waits, takes-so}
use Rattle.md_at_once.proofs.NoClose.{closes-none}
use Rattle.md_at_once.proofs.TakenBack.{stepped-as}
use Rattle.md_events.proofs.SpacesTermination.{inside-line}

-- Such a line has begun, and what is on it, and an attempt at it;
abbrev begins_in : World → World → World
begins_in w =
    with ((w.events ++ line_event w.flags.leaf w.point ∷ []) ++ chunk_event w.flags.leaf w.point ∷ [])
    (whole_frame (length w.events) w.point ∷ w.frames) w.scratch

-- the leaf that is open is asked first,
asked : (w : World) → IsWhole w → asked_first w.flags.leaf ≡ Some FenceFurther
unfolding asked_first
asked w h = rw h.opened refl

-- and has whitespace in front that is not taken away, or none
kept : (w : World) → IsWhole w → (nat_lt 0 (held_indent w.flags.leaf) && sees_white w.current) ≡ false
kept w h = go (sees_white w.current) refl
  where
    go : (y : Bool) → sees_white w.current ≡ y →
        (nat_lt 0 (held_indent w.flags.leaf) && sees_white w.current) ≡ false
    go true e = ap₂ (λ (k : ℕ) (z : Bool). nat_lt 0 k && z) (h.white e).1 e
    go false e = and_right (nat_lt 0 (held_indent w.flags.leaf)) (sees_white w.current) e

-- it closes nothing where the attempt has begun either
no-close : (w : World) (g : Flags) (fs : List Frame) → g.leaf ≡ w.flags.leaf → IsNoClose w →
    IsNoClose (record w { flags = g; frames = fs })
unfolding looks_after
no-close w g fs e h = record {
  white = h.white;
  byte = h.byte;
  following = h.following;
  other = ap (λ (l : HeldLeaf). nat_eq h.byte (held_marker l)) e ∙ h.other;
  dark = ap (λ (l : HeldLeaf). is_white (held_marker l)) e ∙ h.dark;
}

-- So one reaches what is on it.
begins : (w : World) → IsWhole w → w.current ≡ looks w → Within w →
    ArrivedHere FlowStep (n.Document document.FlowInside) w (n.RawFlow its.ContentChunk)
    (begins_in (settled w) (settled w))
begins w h seen within is_end s v named from may =
    then-stays FlowStep is_end s v (n.RawFlow its.BeforeContentChunk) (n.RawFlow its.ContentChunk) b
    (before_chunk_code b false).world
    (then-stays FlowStep is_end s v (n.RawFlow its.ContentStart) (n.RawFlow its.BeforeContentChunk) b b at_start
    (stepped-as (n.RawFlow its.ContentStart) b (content_start_code b false) (ap (content_start_code b) (kept w h))) refl
    in-b refl seen)
    (stepped-as (n.RawFlow its.BeforeContentChunk) b (before_chunk_code b false)
    (ap (before_chunk_code b) h.inside)) refl
    in-b refl seen
  where
    f : Frame
    f = whole_frame (length w.events) w.point

    a : World
    a = tried (record w { flags = blank_here false w.flags }) (Next (n.Flow flow.After)) (Next (n.Flow flow.Start))

    b : World
    b = record (line_entered a) { scratch = cond (sees_white w.current) (calmed (cleared w.scratch)) w.scratch }

    in-a : Within a
    in-a = within-one f w.frames (length w.events) (omega arith) within

    in-b : Within b
    in-b = within-more (f ∷ w.frames) w.events (line_event w.flags.leaf w.point ∷ []) in-a

    nothing : nothing_is_here w.current w.point ≡ false
    nothing = ap (λ (x : Bool). x && nat_eq w.point.column 1) h.inside

    is : inside_transition w ≡ record { to = Retry (n.RawFlow its.AtNonLazyBreak); world = a }
    is =
        ap (inside_code w) (asked w h)
        ∙ ap
        (λ (x : Bool). record {
          to = Retry (n.RawFlow its.AtNonLazyBreak);
          world =
              tried (record w { flags = blank_here x w.flags }) (Next (n.Flow flow.After)) (Next (n.Flow flow.Start));
        })
        nothing

    at_break : ArrivedAt FlowStep is_end s v (n.RawFlow its.AtNonLazyBreak) a
    at_break =
        then-stays FlowStep is_end s v (n.Document document.FlowInside) (n.RawFlow its.AtNonLazyBreak) w a
        (arrived-first FlowStep (n.Document document.FlowInside) w is_end s v named from may)
        (stepped-as (n.Document document.FlowInside) w
        (record { to = Retry (n.RawFlow its.AtNonLazyBreak); world = a }) is) refl within refl seen

    at_start : ArrivedAt FlowStep is_end s v (n.RawFlow its.ContentStart) b
    at_start = go (sees_white w.current) refl
      where
        go : (y : Bool) → sees_white w.current ≡ y →
            ArrivedAt FlowStep is_end s v (n.RawFlow its.ContentStart)
            (record (line_entered a) { scratch = cond y (calmed (cleared w.scratch)) w.scratch })
        go true e =
            closes-none is_end s v a (no-close w a.flags a.frames refl (h.white e).0) seen in-a at_break
        go false e =
            then-stays FlowStep is_end s v (n.RawFlow its.AtNonLazyBreak) (n.RawFlow its.ContentStart) a
            (line_entered a) at_break
            (stepped-as (n.RawFlow its.AtNonLazyBreak) a (at_non_lazy_break_code a false)
            (ap (at_non_lazy_break_code a) (ap₂ (λ (y z : Bool). y || z) e (h.dark e)))) refl in-a refl seen

begins-within : (w : World) → Within w → Within (begins_in (settled w) (settled w))
begins-within w within =
    within-more (whole_frame (length w.events) w.point ∷ w.frames) (w.events ++ line_event w.flags.leaf w.point ∷ [])
    (chunk_event w.flags.leaf w.point ∷ [])
    (within-more (whole_frame (length w.events) w.point ∷ w.frames) w.events (line_event w.flags.leaf w.point ∷ [])
    (within-one (whole_frame (length w.events) w.point) w.frames (length w.events) (omega arith) within))

all-seen : (w u : World) → SeesAll Line w u → SeesAll Line (begins_in w w) (begins_in w u)
all-seen w u all = record { some = some-with _ _ _ w u all.some; ends = all.ends }

-- Where the text that may be read ends in the line, it waits for more.
pub whole-waits : (w u x : World) → IsWhole w → w.current ≡ looks w → Within w → SeesAll Line (settled w) u →
    u.setting.limit ≤ u.point.index → x ≡ whole_tried w.point u →
    RunsHere FlowStep (n.Document document.FlowInside) w (Next (n.RawFlow its.ContentChunk)) x
whole-waits w u x h seen within all le new is_end =
    subst
    (λ (y : World).
    RunsFrom FlowStep is_end (n.Document document.FlowInside) w (Next (n.RawFlow its.ContentChunk)) y)
    (sym (new ∙ same))
    (arrived-runs FlowStep is_end (n.Document document.FlowInside) (n.RawFlow its.ContentChunk) w (begins_in c c)
    (Next (n.RawFlow its.ContentChunk)) (begins_in c u) (begins w h seen within is_end)
    (line-waits (n.RawFlow its.ContentChunk) (begins_in c c) (begins_in c u) chunk-takes seen (begins-within w within)
    (all-seen c u all) (inside-line w seen h.inside) le is_end))
  where
    c : World
    c = settled w

    keeps : Keeps c u
    keeps = some-keeps c u all.some

    laid : List Event → List Frame → Scratch → HeldLeaf → World
    laid es fs s l =
        with (es ++ line_event l w.point ∷ chunk_event l w.point ∷ []) (whole_frame (length es) w.point ∷ fs) s u

    same : whole_tried w.point u ≡ begins_in c u
    same =
        ap (λ (es : List Event). laid es u.frames u.scratch u.flags.leaf) keeps.events
        ∙ ap (λ (fs : List Frame). laid w.events fs u.scratch u.flags.leaf) keeps.frames
        ∙ ap (λ (s : Scratch). laid w.events w.frames s u.flags.leaf) keeps.scratch
        ∙ ap (λ (g : Flags). laid w.events w.frames c.scratch g.leaf) keeps.flags
        ∙ ap (λ (es : List Event). with es (whole_frame (length w.events) w.point ∷ w.frames) c.scratch u)
        (sym
        (append_assoc w.events (line_event w.flags.leaf w.point ∷ []) (chunk_event w.flags.leaf w.point ∷ [])))

four : (es : List Event) (a b c d : Event) →
    (((es ++ a ∷ []) ++ b ∷ []) ++ c ∷ []) ++ d ∷ [] ≡ es ++ a ∷ b ∷ c ∷ d ∷ []
four es a b c d =
    append_assoc ((es ++ a ∷ []) ++ b ∷ []) (c ∷ []) (d ∷ [])
    ∙ append_assoc (es ++ a ∷ []) (b ∷ []) (c ∷ d ∷ [])
    ∙ append_assoc es (a ∷ []) (b ∷ c ∷ d ∷ [])

-- Where it can be read to its end the attempt is left there, and the line ends.
pub whole-ends : (w u x : World) → IsWhole w → w.current ≡ looks w → Within w → SeesAll Line (settled w) u →
    u.point.index < u.setting.limit → x ≡ whole_added w.point (reading u) →
    ArrivedHere FlowStep (n.Document document.FlowInside) w (n.Flow flow.After) x
whole-ends w u x h seen within all lt following is_end s v named from may =
    subst (λ (q : World). ArrivedAt FlowStep is_end s v (n.Flow flow.After) q) left done
  where
    c : World
    c = settled w

    keeps : Keeps c u
    keeps = some-keeps c u all.some

    f : Frame
    f = whole_frame (length w.events) w.point

    inside : World
    inside = reading (begins_in c u)

    over : ends_line (looks u) ≡ true
    over = line-over u lt all.ends

    y : World
    y = (chunk_code inside true).world

    z : World
    z = (before_chunk_code y true).world

    in-inside : Within inside
    in-inside = begins-within w within

    in-y : Within y
    in-y =
        within-more (f ∷ w.frames) inside.events (exit (chunk_name (held_marker u.flags.leaf)) u.point ∷ []) in-inside

    laid : List Event → List Frame → Scratch → World
    laid es fs s = with es fs s (reading u)

    four_of : List Event → HeldLeaf → List Event
    four_of es l =
        es ++ line_event l w.point ∷ chunk_event l w.point ∷ exit (chunk_name (held_marker u.flags.leaf)) u.point
        ∷ exit (block_name (held_marker u.flags.leaf)) u.point ∷ []

    left : reading (record z { frames = w.frames }) ≡ x
    left =
        ap (λ (es : List Event). laid es w.frames c.scratch)
        (four w.events (line_event w.flags.leaf w.point) (chunk_event w.flags.leaf w.point)
        (exit (chunk_name (held_marker u.flags.leaf)) u.point) (exit (block_name (held_marker u.flags.leaf)) u.point))
        ∙ sym
        (following ∙ ap (λ (es : List Event). laid (four_of es u.flags.leaf) u.frames u.scratch) keeps.events
        ∙ ap (λ (fs : List Frame). laid (four_of w.events u.flags.leaf) fs u.scratch) keeps.frames
        ∙ ap (λ (s : Scratch). laid (four_of w.events u.flags.leaf) w.frames s) keeps.scratch
        ∙ ap (λ (g : Flags). laid (four_of w.events g.leaf) w.frames c.scratch) keeps.flags)

    at_end : ArrivedAt FlowStep is_end s v (n.RawFlow its.ContentChunk) inside
    at_end =
        then-seen FlowStep is_end s v (n.RawFlow its.ContentChunk) Line (begins_in c c) (begins_in c u)
        (takes-so (n.RawFlow its.ContentChunk) chunk-takes) (begins w h seen within is_end s v named from may) seen
        (begins-within w within) (all-seen c u all).some lt

    at_rest : ArrivedAt FlowStep is_end s v (n.RawFlow its.BeforeContentChunk) y
    at_rest =
        then-stays FlowStep is_end s v (n.RawFlow its.ContentChunk) (n.RawFlow its.BeforeContentChunk) inside y at_end
        (stepped-as (n.RawFlow its.ContentChunk) inside (chunk_code inside true) (ap (chunk_code inside) over)) refl
        in-inside refl refl

    done : ArrivedAt FlowStep is_end s v (n.Flow flow.After) (reading (record z { frames = w.frames }))
    done =
        then-holds FlowStep is_end s v (n.RawFlow its.BeforeContentChunk) (n.Flow flow.After) y z f w.frames at_rest
        (stepped-as (n.RawFlow its.BeforeContentChunk) y (before_chunk_code y true)
        (ap (before_chunk_code y) over)) refl
        in-y refl refl refl within lt
