-- Runs call by call: what one has reached from a state, and that all of it keeps what a table needs.
use Rattle.std.proofs.Common.{◌≡◌, ◌≢◌, ℕ, zero, suc, ◌<◌, ◌≤◌, Bool, true, false, List, ◌∷◌, ◌++◌, length, refl}
use Rattle.std.proofs.Common.{sym, ◌∙◌, ap, arith, subst, inl, inr, ◌⊎◌, Some}
use Rattle.std.specs.List.{All}
use Rattle.std.proofs.lemmas.List.{length-append}
use Rattle.std.proofs.lemmas.List.Elements.{All-weaker}
use Rattle.md_engine.specs.declared.event.Event.{Event}
use Rattle.md_engine.specs.declared.state.Name.{Name as StateName}
use Rattle.md_engine.specs.declared.state.State.{State}
use Rattle.md_engine.specs.declared.state.State.TheVariants.{Error, Ok, Nok, Next, Retry}
use Rattle.md_engine.specs.declared.stay.Stay.{Stay}
use Rattle.md_engine.specs.declared.tokenizer.Frame.{Frame}
use Rattle.md_engine.specs.Run.{Runs, RunsHere, Step, left, plain, reading}
use Rattle.md_engine.specs.Run.Runs.{Stays, ThenCalls, ThenLeaves}
use Rattle.md_engine.specs.Scheme.{Scheme, valid, work}
use Rattle.md_engine.specs.Staying.{SeesSome, stayed, takes}
use Rattle.md_engine.specs.Staying.SeesSome.{Nothing, OneMore}
use Rattle.md_engine.specs.World.{World, looks}
use Rattle.md_engine.proofs.Falls.{leaves_falls, leaves_valid}
use Rattle.md_engine.proofs.Keeps.{runs-setting}
use Rattle.md_engine.proofs.Loops.{ArrivedAt, not_error, reading-same}
use Rattle.md_engine.proofs.StayLemmas.{seen-inside}

-- all attempts go back to events that are there
abbrev pub Within : World → Type 0
Within w = All (λ (f : Frame). f.events_len ≤ length w.events) w.frames

pub within-more : (fs : List Frame) (es xs : List Event) → All (λ (f : Frame). f.events_len ≤ length es) fs →
    All (λ (f : Frame). f.events_len ≤ length (es ++ xs)) fs
within-more fs es xs h = All-weaker (λ (f : Frame). f.events_len ≤ length es)
    (λ (f : Frame). f.events_len ≤ length (es ++ xs))
    (λ f le. let size = length-append es xs in omega (arith, le, size)) fs h

pub within-one : (f : Frame) (fs : List Frame) (n : ℕ) → f.events_len ≤ n →
    All (λ (g : Frame). g.events_len ≤ n) fs → All (λ (g : Frame). g.events_len ≤ n) (f ∷ fs)
within-one f fs n le h zero d lt = le
within-one f fs n le h (suc k) d lt = h k d (omega (arith, lt))

-- One has reached a state. It is called,
pub then-run : (T : Step) (is_end : Bool) (s : State) (v : World) (name : StateName) (w : World) (s' : State)
    (w' : World) →
    ArrivedAt T is_end s v name w → T name w s' w' → s' ≢ Error → w'.setting ≡ w.setting → Within w →
    Runs T is_end s v s' w'
then-run T is_end s v name w s' w' h step fine same within =
    let P : World → Type 0 = λ x. T name x s' w' in
    let Q : World → Type 0 = λ x. Within x in
    ThenCalls h.state h.at s' w' h.runs
    (record {
      name = name;
      names = h.names;
      may = h.may;
      step = subst P (sym h.sees) step;
      fine = fine;
      setting = same ∙ sym (ap (λ (x : World). x.setting) h.sees);
      within = subst Q (sym h.sees) within;
    })

-- and stays at what is here,
pub then-stays : (T : Step) (is_end : Bool) (s : State) (v : World) (name next : StateName) (w w' : World) →
    ArrivedAt T is_end s v name w → T name w (Retry next) w' → w'.setting ≡ w.setting → Within w →
    w'.point ≡ w.point → w'.current ≡ looks w' → ArrivedAt T is_end s v next w'
then-stays T is_end s v name next w w' h step same within there seen =
    let from : w'.point ≡ h.at.point = there ∙ sym (ap (λ (x : World). x.point) h.sees) in
    let text : w'.setting ≡ h.at.setting = same ∙ sym (ap (λ (x : World). x.setting) h.sees) in
    record {
      state = Retry next;
      at = w';
      names = refl;
      sees = reading-same w' seen;
      may = rw (from, text) h.may;
      runs = then-run T is_end s v name w (Retry next) w' h step (not_error (Retry next) next refl) same within;
    }

-- or takes it, and what follows it is seen,
pub then-takes : (T : Step) (is_end : Bool) (s : State) (v : World) (name next : StateName) (w u : World) →
    ArrivedAt T is_end s v name w → T name w (Next next) u → u.setting ≡ w.setting → Within w →
    u.point.index < u.setting.limit → ArrivedAt T is_end s v next (reading u)
then-takes T is_end s v name next w u h step same within lt = record {
  state = Next next;
  at = u;
  names = refl;
  sees = refl;
  may = inr lt;
  runs = then-run T is_end s v name w (Next next) u h step (not_error (Next next) next refl) same within;
}

-- or an attempt holds
pub then-holds : (T : Step) (is_end : Bool) (s : State) (v : World) (name next : StateName) (w u : World) (f : Frame)
    (fs : List Frame) →
    ArrivedAt T is_end s v name w → T name w Ok u → u.setting ≡ w.setting → Within w → u.frames ≡ f ∷ fs →
    f.is_check ≡ false → f.ok ≡ Next next → All (λ (g : Frame). g.events_len ≤ f.events_len) fs →
    u.point.index < u.setting.limit → ArrivedAt T is_end s v next (reading (record u { frames = fs }))
then-holds T is_end s v name next w u f fs h step same within e not_check ok below lt =
    let fine : Ok ≢ Error = λ k. cc in
    record {
      state = Next next;
      at = record u { frames = fs };
      names = refl;
      sees = refl;
      may = inr lt;
      runs =
          ThenLeaves Ok u (Next next) (record u { frames = fs })
          (then-run T is_end s v name w Ok u h step fine same within)
          (record {
            outer = fs;
            frame = f;
            end = tt;
            frames = e;
            next = sym ok;
            new = sym (ap (left u fs f) not_check);
            below = below;
          });
    }

-- What a state only takes and counts, it takes one after another.
abbrev pub TakesSo : Step → StateName → Stay → Type 0
TakesSo T n k =
    (w : World) (b : ℕ) → looks w ≡ Some b → takes k w.scratch b ≡ true → T n (reading w) (Next n) (stayed k w)

then-some : (T : Step) (is_end : Bool) (s : State) (v : World) (name : StateName) (k : Stay) (w u : World) →
    TakesSo T name k → ArrivedAt T is_end s v name w → w.current ≡ looks w → Within w → SeesSome k w u →
    ((u ≡ w) ⊎ Runs T is_end s v (Next name) u) × Within u
then-some T is_end s v name k w _ each h seen within Nothing = (inl refl, within)
then-some T is_end s v name k w _ each h seen within (OneMore u some here) =
    let before = then-some T is_end s v name k w u each h seen within some in
    (inr (go before.1 before.0), before.1)
  where
    fine : Next name ≢ Error
    fine = not_error (Next name) name refl

    step : T name (reading u) (Next name) (stayed k u)
    step = each u here.0 here.1 here.2

    go : Within u → (u ≡ w) ⊎ Runs T is_end s v (Next name) u → Runs T is_end s v (Next name) (stayed k u)
    go good (inl e) =
        let same : u.current ≡ looks u = ap (λ (x : World). x.current) e ∙ seen ∙ ap looks (sym e) in
        let P : World → Type 0 = λ x. ArrivedAt T is_end s v name x in
        let Q : World → Type 0 = λ x. T name x (Next name) (stayed k u) in
        then-run T is_end s v name u (Next name) (stayed k u) (subst P (sym e) h)
        (subst Q (reading-same u same) step) fine refl good
    go good (inr r) =
        ThenCalls (Next name) u (Next name) (stayed k u) r
        (record {
          name = name;
          names = refl;
          may = inr (seen-inside u.setting u.point here.0 here.1);
          step = step;
          fine = fine;
          setting = refl;
          within = good;
        })

-- So one reaches it again, where something is after,
pub then-seen : (T : Step) (is_end : Bool) (s : State) (v : World) (name : StateName) (k : Stay) (w u : World) →
    TakesSo T name k → ArrivedAt T is_end s v name w → w.current ≡ looks w → Within w → SeesSome k w u →
    u.point.index < u.setting.limit → ArrivedAt T is_end s v name (reading u)
then-seen T is_end s v name k w u each h seen within some lt =
    go (then-some T is_end s v name k w u each h seen within some).0
  where
    go : (u ≡ w) ⊎ Runs T is_end s v (Next name) u → ArrivedAt T is_end s v name (reading u)
    go (inl e) =
        let P : World → Type 0 = λ x. ArrivedAt T is_end s v name x in
        let same : u.current ≡ looks u = ap (λ (x : World). x.current) e ∙ seen ∙ ap looks (sym e) in
        subst P (sym (reading-same u same ∙ e)) h
    go (inr r) = record { state = Next name; at = u; names = refl; sees = refl; may = inr lt; runs = r }

-- and waits for more where nothing does
pub then-waits : (T : Step) (is_end : Bool) (s : State) (v : World) (name : StateName) (k : Stay) (w u : World) →
    TakesSo T name k → ArrivedAt T is_end s v name w → w.current ≡ looks w → Within w → SeesSome k w u →
    w.point.index < w.setting.limit → u.setting.limit ≤ u.point.index → Runs T is_end s v (Next name) u
then-waits T is_end s v name k w u each h seen within some lt le =
    go (then-some T is_end s v name k w u each h seen within some).0
  where
    go : (u ≡ w) ⊎ Runs T is_end s v (Next name) u → Runs T is_end s v (Next name) u
    go (inl e) =
        let P : World → Type 0 = λ x. x.point.index < x.setting.limit in
        let there : u.point.index < u.setting.limit = subst P (sym e) lt in
        absurd (omega (arith, there, le))
    go (inr r) = r

-- What each call keeps, a run keeps.
abbrev pub EachKeeps : Step → Scheme → Type 0
EachKeeps T S =
    (name : StateName) (w : World) (to : State) (new : World) → w.current ≡ looks w → valid S w (Next name) →
    T name w to new → valid S new (plain to) × (work S new (plain to) < work S w (Next name))

pub runs-keep : (T : Step) (S : Scheme) (is_end : Bool) (s : State) (w : World) (s' : State) (w' : World) →
    EachKeeps T S → valid S w (plain s) → Runs T is_end s w s' w' →
    (((s' ≡ s) × (w' ≡ w)) ⊎ (work S w' (plain s') < work S w (plain s))) × valid S w' (plain s')
runs-keep T S is_end s w _ _ each at Stays = (inl (refl, refl), at)
runs-keep T S is_end s w s' w' each at (ThenLeaves t v t' v' r l) =
    let before = runs-keep T S is_end s w t v each at r in
    let ready : valid S v (plain t) = before.1 in
    let less : work S v' (plain t') < work S v (plain t) = leaves_falls S v v' t t' l ready in
    (inr (go before.0 less), leaves_valid S v v' t t' l ready)
  where
    go : (((t ≡ s) × (v ≡ w)) ⊎ (work S v (plain t) < work S w (plain s))) →
        work S v' (plain t') < work S v (plain t) → work S v' (plain t') < work S w (plain s)
    go (inl e) less =
        let P : State → Type 0 = λ x. work S v' (plain t') < work S v (plain x) in
        let Q : World → Type 0 = λ x. work S v' (plain t') < work S x (plain s) in
        subst Q e.1 (subst P e.0 less)
    go (inr lt) less = omega (arith, lt, less)
runs-keep T S is_end s w s' w' each at (ThenCalls t v t' v' r c) =
    let before = runs-keep T S is_end s w t v each at r in
    let P : State → Type 0 = λ x. valid S (reading v) x in
    let ready : valid S (reading v) (Next c.name) = subst P c.names before.1 in
    let good = each c.name (reading v) t' v' refl ready c.step in
    let same : work S v (plain t) ≡ work S (reading v) (Next c.name) =
    ap (λ (x : State). work S (reading v) x) c.names in
    (inr (go before.0 (rw same good.1)), good.0)
  where
    go : (((t ≡ s) × (v ≡ w)) ⊎ (work S v (plain t) < work S w (plain s))) →
        work S v' (plain t') < work S v (plain t) → work S v' (plain t') < work S w (plain s)
    go (inl e) less =
        let P : State → Type 0 = λ x. work S v' (plain t') < work S v (plain x) in
        let Q : World → Type 0 = λ x. work S v' (plain t') < work S x (plain s) in
        subst Q e.1 (subst P e.0 less)
    go (inr lt) less = omega (arith, lt, less)

-- a run from a state that sees what is here has called it once at least
pub here-keeps : (T : Step) (S : Scheme) (name : StateName) (w : World) (s' : State) (w' : World) → EachKeeps T S →
    w.current ≡ looks w → valid S w (Next name) → RunsHere T name w s' w' →
    valid S w' (plain s') × (work S w' (plain s') < work S w (Next name)) × (w'.setting ≡ w.setting)
here-keeps T S name w s' w' each seen at runs = go s' refl
  where
    from : (s : State) → plain s ≡ Next name → s' ≢ s →
        valid S w' (plain s') × (work S w' (plain s') < work S w (Next name)) × (w'.setting ≡ w.setting)
    from s names other =
        let r : Runs T true s w s' w' = runs true s w names (reading-same w seen) (inl refl) in
        let P : State → Type 0 = λ x. valid S w x in
        let kept = runs-keep T S true s w s' w' each (subst P (sym names) at) r in
        (kept.1, less kept.0, runs-setting T true s w s' w' r)
      where
        less : (((s' ≡ s) × (w' ≡ w)) ⊎ (work S w' (plain s') < work S w (plain s))) →
            work S w' (plain s') < work S w (Next name)
        less (inl e) = absurd (other e.0)
        less (inr lt) =
            let Q : State → Type 0 = λ x. work S w' (plain s') < work S w x in subst Q names lt

    go : (x : State) → s' ≡ x →
        valid S w' (plain s') × (work S w' (plain s') < work S w (Next name)) × (w'.setting ≡ w.setting)
    go (Next n) e = from (Retry name) refl (λ k. let no : Next n ≡ Retry name = sym e ∙ k in cc)
    go (Retry n) e = from (Next name) refl (λ k. let no : Retry n ≡ Next name = sym e ∙ k in cc)
    go Ok e = from (Next name) refl (λ k. let no : Ok ≡ Next name = sym e ∙ k in cc)
    go Nok e = from (Next name) refl (λ k. let no : Nok ≡ Next name = sym e ∙ k in cc)
    go Error e = from (Next name) refl (λ k. let no : Error ≡ Next name = sym e ∙ k in cc)

-- what each step of one table is in another
pub runs-in : (T U : Step) (is_end : Bool) (s : State) (w : World) (s' : State) (w' : World) →
    ((name : StateName) (x : World) (to : State) (new : World) → T name x to new → U name x to new) →
    Runs T is_end s w s' w' → Runs U is_end s w s' w'
runs-in T U is_end s w _ _ each Stays = Stays
runs-in T U is_end s w s' w' each (ThenLeaves t v t' v' r l) =
    ThenLeaves t v t' v' (runs-in T U is_end s w t v each r) l
runs-in T U is_end s w s' w' each (ThenCalls t v t' v' r c) =
    ThenCalls t v t' v' (runs-in T U is_end s w t v each r)
    (record {
      name = c.name;
      names = c.names;
      may = c.may;
      step = each c.name (reading v) t' v' c.step;
      fine = c.fine;
      setting = c.setting;
      within = c.within;
    })
