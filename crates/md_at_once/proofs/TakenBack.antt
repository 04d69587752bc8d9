-- Attempts that refuse: one continues where they began, and nothing is left of them.
use Rattle.std.proofs.Common.{◌≡◌, ◌≢◌, ◌∙◌, ◌<◌, ◌≤◌, Bool, true, false, cond, ℕ, List, ◌∷◌, ◌++◌, length, take, ap}
use Rattle.std.proofs.Common.{inr, nat_eq, refl, subst, sym}
use Rattle.std.specs.List.{All}
use Rattle.std.specs.Prelude.{slice_index}
use Rattle.std.proofs.Math.Seq.{take-append_seam}
use Rattle.std.proofs.lemmas.Bool.{eqb-true}
use Rattle.md_engine.specs.declared.event.Event.{Event}
use Rattle.md_engine.specs.declared.event.Point.{Point}
use Rattle.md_engine.specs.declared.state.Name.{Name as StateName}
use Rattle.md_engine.specs.declared.state.State.{State}
use Rattle.md_engine.specs.declared.state.State.TheVariants.{Error, Next, Nok}
use Rattle.md_engine.specs.declared.tokenizer.Frame.{Frame}
use Rattle.md_engine.specs.Place.{is_ending, seen_at}
use Rattle.md_engine.specs.Run.{reading}
use Rattle.md_engine.specs.Run.Runs.{ThenLeaves}
use Rattle.md_engine.specs.World.{Setting, World, looks, looks_at}
use Rattle.md_engine.proofs.Loops.{ArrivedAt}
use Rattle.md_engine.proofs.Walks.{Within, then-run}
use Rattle.md_meaning.specs.Rest.{is_white}
use Rattle.md_events.proofs.LookLemmas.{dark-at, white-at}
use Rattle.md_events.specs.Transition.{Transition}
use Rattle.md_registry.specs.States.{FlowStep, flow_transition}

-- A step, by what the transition is.
pub stepped-as : (name : StateName) (w : World) (a : Transition) → flow_transition name w ≡ a →
    FlowStep name w a.to a.world
stepped-as name w a is = record {
  to_is = sym (ap (λ (x : Transition). x.to) is);
  new_is = sym (ap (λ (x : Transition). x.world) is);
}

-- what an attempt has left that began at one world and refuses at another
abbrev pub back_from : World → World → World
back_from w x = record x { events = w.events; frames = w.frames; point = w.point; current = w.current }

-- It refuses, and one continues where it began.
pub taken-back : (is_end : Bool) (s : State) (v : World) (name next : StateName) (w u x : World) (f : Frame)
    (more : List Event) →
    ArrivedAt FlowStep is_end s v name u → FlowStep name u Nok x → x.setting ≡ u.setting → Within u →
    x.setting ≡ w.setting → x.events ≡ w.events ++ more → x.frames ≡ f ∷ w.frames → f.nok ≡ Next next →
    f.events_len ≡ length w.events → f.point ≡ w.point → Within w → w.current ≡ looks w →
    w.point.index < w.setting.limit → ArrivedAt FlowStep is_end s v next (back_from w x)
taken-back is_end s v name next w u x f more arrived step kept inner text events frames nok long at within seen lt =
    record {
      state = Next next;
      at = back;
      names = refl;
      sees = sees;
      may = inr (subst (λ (y : Setting). w.point.index < y.limit) (sym text) lt);
      runs =
          ThenLeaves Nok x (Next next) back (then-run FlowStep is_end s v name u Nok x arrived step fine kept inner)
          (record {
            outer = w.frames;
            frame = f;
            end = tt;
            frames = frames;
            next = sym nok;
            new = new;
            below = subst below (sym long) within;
          });
    }
  where
    fine : Nok ≢ Error
    fine = λ k. cc

    below : ℕ → Type 0
    below n = All (λ (g : Frame). g.events_len ≤ n) w.frames

    back : World
    back = record x { events = w.events; frames = w.frames; point = w.point }

    kept-events : take f.events_len x.events ≡ w.events
    kept-events =
        ap (λ (n : ℕ). take n x.events) long ∙ ap (λ (l : List Event). take (length w.events) l) events
        ∙ take-append_seam w.events more

    new : back ≡ record x { frames = w.frames; events = take f.events_len x.events; point = f.point }
    new =
        ap (λ (l : List Event). record x { events = l; frames = w.frames; point = w.point }) (sym kept-events)
        ∙ ap (λ (p : Point). record x { events = take f.events_len x.events; frames = w.frames; point = p }) (sym at)

    sees : reading back ≡ back_from w x
    sees =
        ap (λ (y : Setting). record back { current = looks_at y w.point }) text
        ∙ ap (λ o. record back { current = o }) (sym seen)

-- What is seen at a point is no other byte than is there, unless that is whitespace or ends the line.
pub seen-other : (x : Setting) (p : Point) (m : ℕ) → is_white m ≡ false → nat_eq 10 m ≡ false →
    nat_eq (slice_index x.bytes p.index) m ≡ false → nat_eq (seen_at x.bytes p) m ≡ false
seen-other x p m dark no_end other = go (is_white byte) refl
  where
    byte : ℕ
    byte = slice_index x.bytes p.index

    by-white : (y : Bool) → nat_eq (seen_at x.bytes p) m ≡ y → is_white (seen_at x.bytes p) ≡ true →
        nat_eq (seen_at x.bytes p) m ≡ false
    by-white false e white = e
    by-white true e white =
        let same : seen_at x.bytes p ≡ m = eqb-true (seen_at x.bytes p) m e in
        let no : true ≡ false = sym white ∙ ap is_white same ∙ dark in cc

    by-end : (y : Bool) → nat_eq (cond y 10 byte) m ≡ false
    by-end true = no_end
    by-end false = other

    go : (y : Bool) → is_white byte ≡ y → nat_eq (seen_at x.bytes p) m ≡ false
    go true e = by-white (nat_eq (seen_at x.bytes p) m) refl (white-at x p e).white
    go false e = ap (λ (b : ℕ). nat_eq b m) (dark-at x p e) ∙ by-end (is_ending byte)
