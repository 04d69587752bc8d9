-- What the loop keeps.
use Rattle.std.proofs.Common.{◌≡◌, ◌≢◌, ◌<◌, ◌≤◌, Bool, true, length, Option, ℕ, refl, sym, ◌∙◌, ap, ap₂, subst}
use Rattle.std.proofs.Common.{inl, inr, ◌⊎◌}
use Rattle.std.specs.List.{All}
use Rattle.md_engine.specs.declared.event.Point.{Point}
use Rattle.md_engine.specs.declared.state.Name.{Name as StateName}
use Rattle.md_engine.specs.declared.state.State.{State}
use Rattle.md_engine.specs.declared.state.State.TheVariants.{Error, Ok, Nok, Next, Retry}
use Rattle.md_engine.specs.Going.{SeesOn}
use Rattle.md_engine.specs.Run.{IsEnd, IsWaiting, Remains, Runs, RunsFrom, RunsHere, Step, plain, reading}
use Rattle.md_engine.specs.Run.Runs.{Stays, ThenCalls}
use Rattle.md_engine.specs.World.{Setting, World, looks, looks_at}
use Rattle.md_engine.proofs.Keeps.{runs-append}

-- a state that names another, by either way
pub plain_of : (s : State) (n : StateName) → (s ≡ Next n) ⊎ (s ≡ Retry n) → plain s ≡ Next n
plain_of s n (inl e) = ap plain e
plain_of s n (inr e) = ap plain e

pub not_error : (s : State) (n : StateName) → plain s ≡ Next n → s ≢ Error
not_error s n e h = let k : plain Error ≡ Next n = rw h at e in cc

pub is_end_of : (s : State) → (s ≡ Ok) ⊎ (s ≡ Nok) → IsEnd s
is_end_of s (inl e) = rw e tt
is_end_of s (inr e) = rw e tt

pub end_not_error : (s : State) → IsEnd s → s ≢ Error
end_not_error s end h = let k : IsEnd Error = rw h at end in k

-- one has reached a state of this name, which sees what is here
pub record ArrivedAt (T : Step) (is_end : Bool) (s : State) (v : World) (name : StateName) (w : World) : Type 0 where
  pub state : State
  pub at : World
  pub names : plain state ≡ Next name
  pub sees : reading at ≡ w
  pub may : (is_end ≡ true) ⊎ (at.point.index < at.setting.limit)
  pub runs : Runs T is_end s v state at

-- from each state of the first name
abbrev pub Arrived : Step → Bool → StateName → World → StateName → World → Type 0
Arrived T is_end first old name w =
    (s : State) (v : World) → plain s ≡ Next first → reading v ≡ old →
    (is_end ≡ true) ⊎ (v.point.index < v.setting.limit) → ArrivedAt T is_end s v name w

abbrev pub ArrivedHere : Step → StateName → World → StateName → World → Type 0
ArrivedHere T first old name w = (is_end : Bool) → Arrived T is_end first old name w

pub arrived-first : (T : Step) (first : StateName) (w : World) → ArrivedHere T first w first w
arrived-first T first w is_end s v names sees may = record {
  state = s;
  at = v;
  names = names;
  sees = sees;
  may = may;
  runs = Stays;
}

-- by one call more
pub arrived-calls : (T : Step) (first name : StateName) (old w : World) (s' : State) (w' : World) →
    ArrivedHere T first old name w → T name w s' w' → s' ≢ Error → w'.setting ≡ w.setting →
    All (λ f. f.events_len ≤ length w.events) w.frames → RunsHere T first old s' w'
arrived-calls T first name old w s' w' arrived step fine same within is_end s v names sees may =
    let h = arrived is_end s v names sees may in
    let P : World → Type 0 = λ x. T name x s' w' in
    let Q : World → Type 0 = λ x. All (λ f. f.events_len ≤ length x.events) x.frames in
    ThenCalls h.state h.at s' w' h.runs
    (record {
      name = name;
      names = h.names;
      may = h.may;
      step = subst P (sym h.sees) step;
      fine = fine;
      setting = same ∙ sym (ap (λ (x : World). x.setting) h.sees);
      within = subst Q (sym h.sees) within;
    })

-- by more that runs from there
pub arrived-runs : (T : Step) (is_end : Bool) (first name : StateName) (old w : World) (s' : State) (w' : World) →
    Arrived T is_end first old name w → RunsFrom T is_end name w s' w' → RunsFrom T is_end first old s' w'
arrived-runs T is_end first name old w s' w' arrived runs s v names sees may =
    let h = arrived s v names sees may in
    runs-append T is_end s v h.state h.at s' w' h.runs (runs h.state h.at h.names h.sees h.may)

-- and more after it
pub runs-then : (T : Step) (is_end : Bool) (first : StateName) (old : World) (t : State) (u : World) (s' : State)
    (w' : World) →
    RunsFrom T is_end first old t u → Runs T is_end t u s' w' → RunsFrom T is_end first old s' w'
runs-then T is_end first old t u s' w' before after s v names sees may =
    runs-append T is_end s v t u s' w' (before s v names sees may) after

-- one has reached a state that may be called again, where what is there is seen
pub arrived-on : (T : Step) (is_end : Bool) (first next : StateName) (old u w : World) →
    RunsFrom T is_end first old (Next next) u → (is_end ≡ true) ⊎ (u.point.index < u.setting.limit) → w ≡ reading u →
    Arrived T is_end first old next w
arrived-on T is_end first next old u w runs may is s v names sees here' = record {
  state = Next next;
  at = u;
  names = refl;
  sees = sym is;
  may = may;
  runs = runs s v names sees here';
}

-- what stays at what is here still sees it
pub still-sees : (next : StateName) (w w' : World) → Remains (Retry next) w w' → w'.setting ≡ w.setting →
    w.current ≡ looks w → w'.current ≡ looks w'
still-sees next w w' r same seen =
    r.1 ∙ seen ∙ ap₂ (λ (x : Setting) (p : Point). looks_at x p) (sym same) (sym r.0)

pub reading-same : (w : World) → w.current ≡ looks w → reading w ≡ w
reading-same w seen = ap (λ (o : Option ℕ). record w { current = o }) (sym seen)

-- one call is a run
pub call-runs : (T : Step) (name : StateName) (w : World) (s' : State) (w' : World) → T name w s' w' → s' ≢ Error →
    w'.setting ≡ w.setting → All (λ f. f.events_len ≤ length w.events) w.frames → RunsHere T name w s' w'
call-runs T name w s' w' step fine same within =
    arrived-calls T name name w w s' w' (arrived-first T name w) step fine same within

pub call-sees : (s' : State) (w w' : World) → Remains s' w w' → w'.setting ≡ w.setting → w.current ≡ looks w →
    SeesOn s' w w'
call-sees Ok w w' r same seen = tt
call-sees Nok w w' r same seen = tt
call-sees Error w w' r same seen = tt
call-sees (Next n) w w' r same seen = tt
call-sees (Retry n) w w' r same seen = (still-sees n w w' r same seen, inl r.0)

-- and so one has reached a state that stays
pub arrived-stays : (T : Step) (first name next : StateName) (old w w' : World) → ArrivedHere T first old name w →
    RunsHere T name w (Retry next) w' → SeesOn (Retry next) w w' → w'.setting ≡ w.setting →
    ArrivedHere T first old next w'
arrived-stays T first name next old w w' arrived runs r same is_end s v names sees may =
    let h = arrived is_end s v names sees may in
    let within : w'.setting ≡ h.at.setting = same ∙ sym (ap (λ (x : World). x.setting) h.sees) in
    record {
      state = Retry next;
      at = w';
      names = refl;
      sees = reading-same w' r.0;
      may = go h.at h.may within (sym (ap (λ (x : World). x.point) h.sees)) r.1;
      runs =
          arrived-runs T is_end first name old w (Retry next) w' (arrived is_end) (runs is_end) s v names sees may;
    }
  where
    go : (at : World) → (is_end ≡ true) ⊎ (at.point.index < at.setting.limit) → w'.setting ≡ at.setting →
        w.point ≡ at.point → (w'.point ≡ w.point) ⊎ (w'.point.index < w'.setting.limit) →
        (is_end ≡ true) ⊎ (w'.point.index < w'.setting.limit)
    go at h within from (inl there) = rw (there ∙ from, within) h
    go at h within from (inr lt) = inr lt

-- one that takes nothing waits for nothing
pub not_waiting : (is_end : Bool) (s : State) (w : World) → ((n : StateName) → s ≢ Next n) → IsWaiting is_end s w
not_waiting is_end (Next n) w none = absurd (none n refl)
not_waiting is_end (Retry n) w none = tt
not_waiting is_end Ok w none = tt
not_waiting is_end Nok w none = tt
not_waiting is_end Error w none = tt
