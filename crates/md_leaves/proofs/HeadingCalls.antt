-- States of a heading that are called one after another.
use Rattle.std.proofs.Common.{◌≡◌, ℕ, ◌<◌, ◌≤◌, Bool, true, false, ◌&&◌, not, nat_eq, nat_lt, ◌∷◌, []}
use Rattle.std.proofs.Common.{Option, Some, None, refl, sym, ◌∙◌, ap, ap₂, inl, inr, ◌⊎◌, subst}
use Rattle.md_engine.specs.declared.event.Name.TheVariants.{HeadingAtxSequence}
use Rattle.md_engine.specs.declared.state.Name.TheVariants as n
use Rattle.md_engine.specs.declared.state.heading_atx.State.TheVariants as its
use Rattle.md_engine.specs.declared.state.space_or_tab.State.TheVariants as white
use Rattle.md_engine.specs.declared.state.State.{State}
use Rattle.md_engine.specs.declared.state.State.TheVariants.{Error, Nok, Next, Ok, Retry}
use Rattle.md_engine.specs.declared.stay.Stay.TheVariants.{Byte, Line, UpTo}
use Rattle.md_engine.specs.Going.{SeesOn}
use Rattle.md_engine.specs.Run.{Remains, Runs, reading}
use Rattle.md_engine.specs.Staying.{SeesSome, stayed}
use Rattle.md_engine.specs.World.{World, looks}
use Rattle.md_engine.proofs.Loops.{ArrivedAt}
use Rattle.md_engine.proofs.StayLemmas.{seen-inside}
use Rattle.md_engine.proofs.Walks.{TakesSo, Within, then-seen, then-stays, then-waits, within-more}
use Rattle.md_leaves.specs.Heading.{at_break_code, before_code, after_part, data_code, heading_transition, sees_text}
use Rattle.md_leaves.specs.Heading.{sequence_further_code, sequence_open_code, text_begun, without_size}
use Rattle.md_leaves.specs.HeadingCalls.{HeadingStep, begins_text}
use Rattle.md_events.specs.Events.Nested.{exit}
use Rattle.md_events.specs.OneSpace.{IsOneSpace, spaced}
use Rattle.md_events.specs.Spaces.{any_size, ends_line, is_current, sees_white, white_then, white_transition}
use Rattle.md_events.specs.Stays.{TakesEach}
use Rattle.md_events.specs.Transition.{Transition, entered, exited}
use Rattle.md_events.proofs.OneSpace.{space-run}

-- a byte that does not end the line
not-ending : (b : ℕ) → not (nat_eq b 10) ≡ true → nat_eq b 10 ≡ false
not-ending b h = go (nat_eq b 10) h
  where
    go : (x : Bool) → not x ≡ true → x ≡ false
    go true h = cc
    go false h = refl

-- the text of a heading is only taken, up to the end of the line
pub data-takes : TakesEach Line (n.HeadingAtx its.Data) (heading_transition its.Data)
data-takes w b e h = ap (data_code w) (ap ends_line e ∙ not-ending b h)

-- and so is a further sequence
pub further-takes : TakesEach (Byte 35) (n.HeadingAtx its.SequenceFurther) (heading_transition its.SequenceFurther)
further-takes w b e h = ap (sequence_further_code w) (ap (is_current 35) e ∙ h)

-- an opening sequence is taken and counted
pub open-takes : TakesEach (UpTo 35 6) (n.HeadingAtx its.SequenceOpen) (heading_transition its.SequenceOpen)
open-takes w b e h =
    ap (λ (x : Bool). sequence_open_code w x (sees_text w.current) (sees_white w.current))
    (ap (λ (o : Option ℕ). is_current 35 o && nat_lt w.scratch.size 6) e ∙ h)

-- a transition, as a step
pub stepped : (a : Transition) (to : State) (new : World) → a ≡ record { to = to; world = new } →
    (to ≡ a.to) × (new ≡ a.world)
stepped a to new e = (sym (ap (λ (x : Transition). x.to) e), sym (ap (λ (x : Transition). x.world) e))

both : (x y : Bool) → x && not y ≡ true → (x ≡ true) × (y ≡ false)
both true false e = (refl, refl)
both true true e = cc
both false y e = cc

-- The text begins,
abbrev pub at_text : World → World
at_text w = record w { scratch = text_begun w.point w.scratch }

pub text-begins : (is_end : Bool) (s : State) (v w : World) →
    ArrivedAt HeadingStep is_end s v (n.HeadingAtx its.AtBreak) w → begins_text w.current ≡ true →
    w.current ≡ looks w → Within w → ArrivedAt HeadingStep is_end s v (n.HeadingAtx its.Data) (at_text w)
text-begins is_end s v w arrived is seen within =
    let b = both (sees_text w.current) (is_current 35 w.current) is in
    then-stays HeadingStep is_end s v (n.HeadingAtx its.AtBreak) (n.HeadingAtx its.Data) w (at_text w) arrived
    (stepped (heading_transition its.AtBreak w) (Retry (n.HeadingAtx its.Data)) (at_text w)
    (ap₂ (λ (x y : Bool). at_break_code w x y (ends_line w.current)) b.0 b.1)) refl within refl seen

-- is taken,
takes-so : TakesSo HeadingStep (n.HeadingAtx its.Data) Line
takes-so w b e h =
    stepped (heading_transition its.Data (reading w)) (Next (n.HeadingAtx its.Data)) (stayed Line w)
    (data-takes (reading w) b e h)

pub text-taken : (is_end : Bool) (s : State) (v w u : World) →
    ArrivedAt HeadingStep is_end s v (n.HeadingAtx its.Data) w → w.current ≡ looks w → Within w →
    SeesSome Line w u → u.point.index < u.setting.limit →
    ArrivedAt HeadingStep is_end s v (n.HeadingAtx its.Data) (reading u)
text-taken is_end s v w u arrived seen within some lt =
    then-seen HeadingStep is_end s v (n.HeadingAtx its.Data) Line w u (takes-so) arrived seen within some lt

-- and waits for more.
pub text-waits : (is_end : Bool) (s : State) (v w u : World) →
    ArrivedAt HeadingStep is_end s v (n.HeadingAtx its.Data) w → w.current ≡ looks w → Within w →
    SeesSome Line w u → w.point.index < w.setting.limit → u.setting.limit ≤ u.point.index →
    Runs HeadingStep is_end s v (Next (n.HeadingAtx its.Data)) u
text-waits is_end s v w u arrived seen within some lt le =
    then-waits HeadingStep is_end s v (n.HeadingAtx its.Data) Line w u (takes-so) arrived seen within some lt le

-- text that begins may be read
pub begins-inside : (w : World) → w.current ≡ looks w → begins_text w.current ≡ true → w.point.index < w.setting.limit
begins-inside w seen is = go w.current seen is
  where
    go : (o : Option ℕ) → o ≡ looks w → begins_text o ≡ true → w.point.index < w.setting.limit
    go None e k = cc
    go (Some b) e k = seen-inside w.setting w.point b (sym e)

-- what was seen at the point is not the end
pub ahead : {P : Type 0} → (false ≡ true) ⊎ P → P
ahead (inl e) = cc
ahead (inr h) = h

-- The opening sequence begins,
pub sequence-begins : (is_end : Bool) (s : State) (v w : World) →
    ArrivedAt HeadingStep is_end s v (n.HeadingAtx its.Before) w → is_current 35 w.current ≡ true →
    w.current ≡ looks w → Within w →
    ArrivedAt HeadingStep is_end s v (n.HeadingAtx its.SequenceOpen) (entered w HeadingAtxSequence)
sequence-begins is_end s v w arrived is seen within =
    let u = entered w HeadingAtxSequence in
    then-stays HeadingStep is_end s v (n.HeadingAtx its.Before) (n.HeadingAtx its.SequenceOpen) w u arrived
    (stepped (heading_transition its.Before w) (Retry (n.HeadingAtx its.SequenceOpen)) u (ap (before_code w) is)) refl
    within refl seen

-- is taken,
sequence-takes : TakesSo HeadingStep (n.HeadingAtx its.SequenceOpen) (UpTo 35 6)
sequence-takes w b e h =
    stepped (heading_transition its.SequenceOpen (reading w)) (Next (n.HeadingAtx its.SequenceOpen))
    (stayed (UpTo 35 6) w) (open-takes (reading w) b e h)

pub sequence-taken : (is_end : Bool) (s : State) (v w u : World) →
    ArrivedAt HeadingStep is_end s v (n.HeadingAtx its.SequenceOpen) w → w.current ≡ looks w → Within w →
    SeesSome (UpTo 35 6) w u → u.point.index < u.setting.limit →
    ArrivedAt HeadingStep is_end s v (n.HeadingAtx its.SequenceOpen) (reading u)
sequence-taken is_end s v w u arrived seen within some lt =
    then-seen HeadingStep is_end s v (n.HeadingAtx its.SequenceOpen) (UpTo 35 6) w u
    (sequence-takes) arrived seen within
    some lt

-- and waits for more.
pub sequence-waits : (is_end : Bool) (s : State) (v w u : World) →
    ArrivedAt HeadingStep is_end s v (n.HeadingAtx its.SequenceOpen) w → w.current ≡ looks w → Within w →
    SeesSome (UpTo 35 6) w u → w.point.index < w.setting.limit → u.setting.limit ≤ u.point.index →
    Runs HeadingStep is_end s v (Next (n.HeadingAtx its.SequenceOpen)) u
sequence-waits is_end s v w u arrived seen within some lt le =
    then-waits HeadingStep is_end s v (n.HeadingAtx its.SequenceOpen) (UpTo 35 6) w u
    (sequence-takes) arrived seen within
    some lt le

-- a sequence that begins may be read
pub sequence-inside : (w : World) → w.current ≡ looks w → is_current 35 w.current ≡ true →
    w.point.index < w.setting.limit
sequence-inside w seen is = go w.current seen is
  where
    go : (o : Option ℕ) → o ≡ looks w → is_current 35 o ≡ true → w.point.index < w.setting.limit
    go None e k = cc
    go (Some b) e k = seen-inside w.setting w.point b (sym e)

-- Where one space is after the opening sequence, it ends, and the first run of the line begins.
abbrev pub opening_ended : World → World
opening_ended w = record (exited w HeadingAtxSequence) { scratch = without_size w.scratch }

pub opening-ends : (is_end : Bool) (s : State) (v w : World) →
    ArrivedAt HeadingStep is_end s v (n.HeadingAtx its.SequenceOpen) w → w.current ≡ looks w → Within w →
    IsOneSpace w →
    ArrivedAt HeadingStep is_end s v (n.HeadingAtx its.AtBreak) (spaced (opening_ended w))
opening-ends is_end s v w arrived seen within one =
    let here : w.current ≡ Some 32 = seen ∙ one.here in
    let x : World = opening_ended w in
    let u : World = (white_then x 1 any_size (Next (n.HeadingAtx its.AtBreak)) Nok).world in
    space-run HeadingStep is_end s v (n.HeadingAtx its.AtBreak) x
    (λ state y to new e. stepped (white_transition state y) to new e)
    (then-stays HeadingStep is_end s v (n.HeadingAtx its.SequenceOpen) (n.SpaceOrTab white.Start) w u arrived
    (stepped (heading_transition its.SequenceOpen w) (Retry (n.SpaceOrTab white.Start)) u
    (ap
    (λ (o : Option ℕ).
    sequence_open_code w (is_current 35 o && nat_lt w.scratch.size 6) (sees_text o) (sees_white o)) here)) refl within
    refl seen) seen
    (within-more w.frames w.events (exit HeadingAtxSequence w.point ∷ []) within)
    (record { here = one.here; next = one.next; following = one.following })

-- What a single call leaves.
part-remains : (w x : World) (y : Bool) → x.point ≡ w.point → x.current ≡ w.current → x.setting ≡ w.setting →
    Remains (after_part x y).to w (after_part x y).world × ((after_part x y).world.setting ≡ w.setting)
part-remains w x true there same text = ((there, same), text)
part-remains w x false there same text = ((there, same), text)

pub before-remains : (w : World) (x : Bool) →
    Remains (before_code w x).to w (before_code w x).world × ((before_code w x).world.setting ≡ w.setting)
before-remains w true = ((refl, refl), refl)
before-remains w false = (tt, refl)

pub opening-remains : (w : World) (x y z : Bool) →
    Remains (sequence_open_code w x y z).to w (sequence_open_code w x y z).world ×
    ((sequence_open_code w x y z).world.setting ≡ w.setting)
opening-remains w true y z = (tt, refl)
opening-remains w false true z = (tt, refl)
opening-remains w false false z = part-remains w (opening_ended w) z refl refl refl

pub data-remains : (w : World) (x : Bool) → Remains (data_code w x).to w (data_code w x).world ×
    ((data_code w x).world.setting ≡ w.setting)
data-remains w true = (tt, refl)
data-remains w false = (tt, refl)

pub at_break-remains : (w : World) (x y z : Bool) →
    Remains (at_break_code w x y z).to w (at_break_code w x y z).world ×
    ((at_break_code w x y z).world.setting ≡ w.setting)
at_break-remains w true true z = ((refl, refl), refl)
at_break-remains w true false z = ((refl, refl), refl)
at_break-remains w false y true = (tt, refl)
at_break-remains w false y false = (tt, refl)

pub remains-of : (a : Transition) (s : State) (w w' : World) → s ≡ a.to → w' ≡ a.world → Remains a.to w a.world →
    Remains s w w'
remains-of a s w w' e k h =
    let P : World → Type 0 = λ x. Remains s w x in
    subst P (sym k) (rw e h)

-- what stays here sees what is here, from wherever one came
pub sees-from : (s : State) (old w w' : World) → SeesOn s w w' → w'.setting ≡ w.setting →
    (w.point ≡ old.point) ⊎ (w.point.index < w.setting.limit) → SeesOn s old w'
sees-from Ok old w w' h same may = tt
sees-from Nok old w w' h same may = tt
sees-from Error old w w' h same may = tt
sees-from (Next n) old w w' h same may = tt
sees-from (Retry n) old w w' h same may = (h.0, go h.1 may)
  where
    go : (w'.point ≡ w.point) ⊎ (w'.point.index < w'.setting.limit) →
        (w.point ≡ old.point) ⊎ (w.point.index < w.setting.limit) →
        (w'.point ≡ old.point) ⊎ (w'.point.index < w'.setting.limit)
    go (inr lt) m = inr lt
    go (inl e) (inl k) = inl (e ∙ k)
    go (inl e) (inr lt) = inr (rw (e, same) lt)
