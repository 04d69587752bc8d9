-- Steps of a construct, and what the feed has where a state is called.
use Rattle.std.proofs.Common.{◌≡◌, ◌⊎◌, ◌<◌, ◌≤◌, Bool, true, false, nat_lt, List, [], ◌∷◌, ◌++◌}
use Rattle.std.proofs.Common.{refl, sym, ◌∙◌, arith, append-nil, inl, inr}
use Rattle.std.proofs.lemmas.Bool.Decides.{nat_tests}
use Rattle.md_engine.specs.declared.event.Event.{Event}
use Rattle.md_engine.specs.declared.state.State.{State}
use Rattle.md_engine.specs.declared.tokenizer.Frame.{Frame}
use Rattle.md_engine.specs.Meaning.{Behaviour, Feed, Follows, Steps, proceeds, here, resume}
use Rattle.md_engine.specs.Run.{reading}
use Rattle.md_engine.specs.Scheme.{Scheme, after_all}
use Rattle.md_engine.specs.Sees.{Sees, ahead}
use Rattle.md_engine.specs.World.{World, looks}

-- a step that begins no attempt
pub moves : (B : Behaviour) (feed : Feed) (from to : State) (old new : World) (added : List Event) →
    new.frames ≡ old.frames → new.events ≡ old.events ++ added →
    proceeds B from (feed old.point) (here old) ≡ proceeds B to (feed new.point) (here new) →
    Steps B feed from old to new
moves B feed from to old new added frames events same = record {
  begun = [];
  added = added;
  frames = frames;
  events = inr events;
  same = same;
}

-- a step that adds no event either
pub passes : (B : Behaviour) (feed : Feed) (from to : State) (old new : World) → new.frames ≡ old.frames →
    new.events ≡ old.events →
    proceeds B from (feed old.point) (here old) ≡ proceeds B to (feed new.point) (here new) →
    Steps B feed from old to new
passes B feed from to old new frames events same =
    moves B feed from to old new [] frames (events ∙ sym (append-nil old.events)) same

-- a step that begins an attempt
pub begins : (B : Behaviour) (feed : Feed) (from to : State) (old new : World) (added : List Event) (f : Frame) →
    new.frames ≡ f ∷ old.frames → new.events ≡ old.events ++ added →
    proceeds B from (feed old.point) (here old) ≡ resume B feed new.events f
    (proceeds B to (feed new.point) (here new)) →
    Steps B feed from old to new
begins B feed from to old new added f frames events same = record {
  begun = f ∷ [];
  added = added;
  frames = frames;
  events = inr events;
  same = same;
}

-- a step that changes events where no attempt can go back
pub changes : (B : Behaviour) (feed : Feed) (from to : State) (old new : World) → old.frames ≡ [] → new.frames ≡ [] →
    proceeds B from (feed old.point) (here old) ≡ proceeds B to (feed new.point) (here new) →
    Steps B feed from old to new
changes B feed from to old new none frames same = record {
  begun = [];
  added = [];
  frames = frames ∙ sym none;
  events = inl none;
  same = same;
}

-- where that is known of what follows, no attempt can go back
pub outermost-frames : (T : Scheme) (fs : List Frame) → (after_all T fs).outermost → fs ≡ []
outermost-frames T [] none = refl
outermost-frames T (f ∷ fs) none = absurd none

-- and adds no event
pub begins_only : (B : Behaviour) (feed : Feed) (from to : State) (old new : World) (f : Frame) →
    new.frames ≡ f ∷ old.frames → new.events ≡ old.events →
    proceeds B from (feed old.point) (here old) ≡ resume B feed new.events f
    (proceeds B to (feed new.point) (here new)) →
    Steps B feed from old to new
begins_only B feed from to old new f frames events same =
    begins B feed from to old new [] f frames (events ∙ sym (append-nil old.events)) same

-- a step to what is equal
pub steps-as : (B : Behaviour) (feed : Feed) (from to s : State) (w new v : World) → s ≡ to → v ≡ new →
    Steps B feed from w to new → Steps B feed from w s v
steps-as B feed from to s w new v e k steps = rw (e, k) steps

pub sees : (feed : Feed) (w : World) (is_end : Bool) → Follows feed w.setting is_end →
    (is_end ≡ true) ⊎ (w.point.index < w.setting.limit) → Sees feed (reading w)
sees feed w is_end f may = record {
  next = go (nat_lt w.point.index w.setting.limit) refl may;
  along = f.cell;
  short = f.short w.point;
}
  where
    go : (b : Bool) → nat_lt w.point.index w.setting.limit ≡ b → (is_end ≡ true) ⊎ (w.point.index < w.setting.limit) →
        feed w.point ≡ ahead feed w (looks w)
    go true e may = let lt : w.point.index < w.setting.limit = grind (arith, nat_tests) in rw e (f.cell w.point lt)
    go false e (inl end) =
        let le : w.setting.limit ≤ w.point.index = grind (arith, nat_tests) in rw e (f.none end w.point le)
    go false e (inr lt) = grind (arith, nat_tests)
