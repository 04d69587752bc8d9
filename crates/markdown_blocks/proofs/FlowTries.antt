-- An attempt that flow has begun between the states of the document and of flow, followed up to its end: within it all
-- states are of a lower level, so none of the document or of flow is called.
use Rattle.std.proofs.Common.{◌≡◌, ◌⊎◌, inl, inr, ℕ, ◌<◌, ◌≤◌, true, List, [], ◌∷◌, ◌++◌, length, refl, sym, ap, ◌∙◌, subst}
use Rattle.std.proofs.Common.{Option, Some, subst₂, append_assoc, arith}
use Rattle.std.specs.List.{All}
use Rattle.md_engine.specs.declared.state.Name.{Name as StateName}
use Rattle.md_engine.specs.declared.state.Name.TheVariants as s
use Rattle.md_engine.specs.declared.state.document.State.TheVariants as document
use Rattle.md_engine.specs.declared.state.State.{State}
use Rattle.md_engine.specs.declared.state.State.TheVariants.{Error, Ok, Nok, Next, Retry}
use Rattle.md_engine.specs.declared.tokenizer.Frame.{Frame}
use Rattle.md_engine.specs.Meaning.{Behaviour, Feed, Follows, Outcome, Steps, here, proceeds, whole_outcome}
use Rattle.md_engine.specs.Run.{Calls, IsEnd, Leaves, leads_back, left, next_of, plain, reading}
use Rattle.md_engine.specs.Scheme.{Position, after_all, frame_level, holds, position, state_level, valid, work}
use Rattle.md_engine.specs.World.{Setting, World, looks}
use Rattle.md_engine.proofs.Keeps.{leaves-keep, plain-same, steps-keep}
use Rattle.md_engine.proofs.StepOf.{sees, steps-as}
use Rattle.md_events.proofs.SpacesTermination.{does-fall}
use Rattle.md_registry.proofs.States.{flow_terminates}
use Rattle.md_registry.specs.FlowRule.{feeds}
use Rattle.md_registry.specs.States.{FlowStep, flow_table_scheme, flow_transition}
use Rattle.markdown_blocks.proofs.Attempts.{all-front, inner, left-inner, left-outer, not-empty}
use Rattle.markdown_blocks.proofs.FlowMeans.{flow-steps-by}
use Rattle.markdown_blocks.proofs.Levels.{AreLow, CallsLow, calls-low}
use Rattle.markdown_blocks.proofs.LinesFed.{line_behaves, line_stop, none-or-ending}

-- Such an attempt is the outermost, and this is left of it.
pub record Tries (under : Setting) (feed : Feed) (f : Frame) (o : Outcome) (t : State) (v : World) : Type 0 where
  pub fs : List Frame
  pub frames : v.frames ≡ fs ++ f ∷ []
  pub low : state_level flow_table_scheme t ≤ 2
  pub lows : AreLow flow_table_scheme 2 fs
  pub becomes : whole_outcome (line_behaves under) feed t (inner v fs) ≡ o

-- Calls.

pub called-low : (t : State) (name : StateName) → plain t ≡ Next name → state_level flow_table_scheme t ≤ 2 →
    flow_table_scheme.level name ≤ 2
called-low Ok name e low = cc
called-low Nok name e low = cc
called-low Error name e low = cc
called-low (Next m) name e low =
    let same : m ≡ name = cc in subst (λ (x : StateName). flow_table_scheme.level x ≤ 2) same low
called-low (Retry m) name e low =
    let same : m ≡ name = cc in subst (λ (x : StateName). flow_table_scheme.level x ≤ 2) same low

-- one at such a level takes no ending
pub feeds-none : (name : StateName) (o : Option ℕ) → flow_table_scheme.level name ≤ 2 → feeds name o ≡ 0
feeds-none name o low = go (none-or-ending name o)
  where
    go : (feeds name o ≡ 0) ⊎ ((name ≡ s.Document document.FlowEnd) × (o ≡ Some 10)) → feeds name o ≡ 0
    go (inl none) = none
    go (inr ending) =
        let low_end = subst (λ (x : StateName). flow_table_scheme.level x ≤ 2) ending.0 low in absurd (omega (arith, low_end))

low-more : (l m : ℕ) (fs : List Frame) → l ≤ m → AreLow flow_table_scheme l fs → AreLow flow_table_scheme m fs
low-more l m [] le are = tt
low-more l m (f ∷ fs) le are = let first = are.0 in (omega (arith, le, first), low-more l m fs le are.1)

low-both : (l : ℕ) (fs gs : List Frame) → AreLow flow_table_scheme l fs → AreLow flow_table_scheme l gs →
    AreLow flow_table_scheme l (fs ++ gs)
low-both l [] gs are more = more
low-both l (f ∷ fs) gs are more = (are.0, low-both l fs gs are.1 more)

pub tries-calls : (under : Setting) (feed : Feed) (f : Frame) (o : Outcome) (t : State) (v : World) (t' : State)
    (v' : World) → Follows feed v.setting true → v.setting ≡ under → valid flow_table_scheme v (plain t) →
    Tries under feed f o t v → Calls FlowStep true t v t' v' → Tries under feed f o t' v'
tries-calls under feed f o t v t' v' follows kept at x c = record {
  fs = steps.begun ++ x.fs;
  frames =
      steps.frames ∙ ap (λ (l : List Frame). steps.begun ++ l) x.frames ∙ sym (append_assoc steps.begun x.fs (f ∷ []));
  low = let state = lower.state in omega (arith, state, low);
  lows = low-both 2 steps.begun x.fs (low-more (flow_table_scheme.level c.name) 2 steps.begun low lower.frames) x.lows;
  becomes =
      sym
      (steps-keep B feed (Next c.name) t' (reading (inner v x.fs)) (inner v' (steps.begun ++ x.fs))
      (all-front (λ (g : Frame). g.events_len ≤ length v.events) x.fs (f ∷ [])
      (subst (All (λ (g : Frame). g.events_len ≤ length v.events)) x.frames c.within))
      inside)
      ∙ ap (λ (m : State). whole_outcome B feed m (inner v x.fs)) (sym c.names) ∙ plain-same B feed (inner v x.fs) t
      ∙ x.becomes;
}
  where
    B : Behaviour
    B = line_behaves under

    Q : State → Type 0
    Q m = valid flow_table_scheme v m

    low : flow_table_scheme.level c.name ≤ 2
    low = called-low t c.name c.names x.low

    P : Setting → Type 0
    P y = Steps (line_behaves y) feed (Next c.name) (reading v) t' v'

    steps : Steps B feed (Next c.name) (reading v) t' v'
    steps =
        subst P kept
        (steps-as (line_behaves v.setting) feed (Next c.name) (flow_transition c.name (reading v)).to t' (reading v)
        (flow_transition c.name (reading v)).world v' c.step.to_is c.step.new_is
        (flow-steps-by feed line_stop c.name (reading v) (sees feed v true follows c.may) refl (subst Q c.names at)
        (feeds-none c.name (looks v) low)))

    falls : work flow_table_scheme v' (plain t') < work flow_table_scheme (reading v) (Next c.name)
    falls =
        does-fall flow_table_scheme c.name (reading v) (flow_transition c.name (reading v)) t' v' c.step.to_is
        c.step.new_is (flow_terminates c.name (reading v) refl (subst Q c.names at))

    lower : CallsLow flow_table_scheme (flow_table_scheme.level c.name) t' steps.begun
    lower = calls-low flow_table_scheme c.name (reading v) t' v' steps.begun steps.frames c.setting falls

    inside : Steps B feed (Next c.name) (reading (inner v x.fs)) t' (inner v' (steps.begun ++ x.fs))
    inside = record {
      begun = steps.begun;
      added = steps.added;
      frames = refl;
      events = inr (grown steps.events);
      same = steps.same;
    }
      where
        grown : (v.frames ≡ []) ⊎ (v'.events ≡ v.events ++ steps.added) → v'.events ≡ v.events ++ steps.added
        grown (inl none) = absurd (not-empty x.fs f (sym none ∙ x.frames))
        grown (inr is) = is

-- Ends.

-- what continues after an attempt is no higher than it
next-low : (g : Frame) (outer : List Frame) (x : Position) (t : State) → IsEnd t →
    holds flow_table_scheme (plain t) x (after_all flow_table_scheme (g ∷ outer)) →
    state_level flow_table_scheme (next_of g t) ≤ frame_level flow_table_scheme g
next-low g outer x Ok end h = h.level
next-low g outer x Nok end h = h.level
next-low g outer x Error end h = absurd end
next-low g outer x (Next m) end h = absurd end
next-low g outer x (Retry m) end h = absurd end

-- it continues, or has ended
pub data TriesLeft (under : Setting) (feed : Feed) (f : Frame) (o : Outcome) (t : State) (v : World) (t' : State)
    (v' : World) : Type 0 where
  Continues : Tries under feed f o t' v' → TriesLeft under feed f o t v t' v'
  Ended : IsEnd t → t' ≡ next_of f t → v' ≡ left v [] f (leads_back f t) →
      proceeds (line_behaves under) t (feed v.point) (here v) ≡ o → TriesLeft under feed f o t v t' v'

pub tries-leaves : (under : Setting) (feed : Feed) (f : Frame) (o : Outcome) (t : State) (v : World) (t' : State)
    (v' : World) → valid flow_table_scheme v (plain t) → Tries under feed f o t v → Leaves t v t' v' →
    TriesLeft under feed f o t v t' v'
tries-leaves under feed f o t v t' v' at x l = go x.fs x.frames x.lows x.becomes
  where
    B : Behaviour
    B = line_behaves under

    Below : Frame → List Frame → Type 0
    Below g fs = All (λ (h : Frame). h.events_len ≤ g.events_len) fs

    go : (fs : List Frame) → v.frames ≡ fs ++ f ∷ [] → AreLow flow_table_scheme 2 fs →
        whole_outcome B feed t (inner v fs) ≡ o → TriesLeft under feed f o t v t' v'
    go [] frames lows becomes =
        let both : l.frame ∷ l.outer ≡ f ∷ [] = sym l.frames ∙ frames in
        let frame : l.frame ≡ f = cc in
        let outer : l.outer ≡ [] = cc in
        Ended l.end (l.next ∙ ap (λ (g : Frame). next_of g t) frame)
        (l.new ∙ ap (λ (g : Frame). left v l.outer g (leads_back g t)) frame
        ∙ ap (λ (fs : List Frame). left v fs f (leads_back f t)) outer)
        becomes
    go (g ∷ gs) frames lows becomes =
        Continues (record {
          fs = gs;
          frames = left_frames;
          low = let first = lows.0 in omega (arith, first, next_level);
          lows = lows.1;
          becomes = sym (leaves-keep B feed t t' (inner v (g ∷ gs)) (inner v' gs) leaves) ∙ becomes;
        })
      where
        both : l.frame ∷ l.outer ≡ g ∷ (gs ++ f ∷ [])
        both = sym l.frames ∙ frames

        frame : l.frame ≡ g
        frame = let e = both in cc

        outer : l.outer ≡ gs ++ f ∷ []
        outer = let e = both in cc

        left_frames : v'.frames ≡ gs ++ f ∷ []
        left_frames =
            ap (λ (w : World). w.frames) l.new ∙ left-outer v l.outer l.frame (leads_back l.frame t) ∙ outer

        next : t' ≡ next_of g t
        next = l.next ∙ ap (λ (h : Frame). next_of h t) frame

        next_level : state_level flow_table_scheme t' ≤ frame_level flow_table_scheme g
        next_level =
            subst (λ (m : State). state_level flow_table_scheme m ≤ frame_level flow_table_scheme g) (sym next)
            (next-low g (gs ++ f ∷ []) (position v) t l.end
            (subst
            (λ (fs : List Frame). holds flow_table_scheme (plain t) (position v) (after_all flow_table_scheme fs))
            frames at))

        leaves : Leaves t (inner v (g ∷ gs)) t' (inner v' gs)
        leaves = record {
          outer = gs;
          frame = g;
          end = l.end;
          frames = refl;
          next = next;
          new =
              ap (λ (w : World). inner w gs)
              (l.new ∙ ap (λ (h : Frame). left v l.outer h (leads_back h t)) frame)
              ∙ left-inner v (g ∷ gs) l.outer gs g (leads_back g t);
          below =
              all-front (λ (h : Frame). h.events_len ≤ g.events_len) gs (f ∷ []) (subst₂ Below frame outer l.below);
        }
