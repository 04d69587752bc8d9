-- A run keeps what is left: what the tokenizer becomes from its first state is what it becomes from its last.
use Rattle.std.proofs.Common.{◌≡◌, ◌⊎◌, ◌<◌, inl, inr, ℕ, zero, suc, ◌≤◌, Bool, true, false, cond, List, [], ◌∷◌, ◌++◌}
use Rattle.std.proofs.Common.{length, take, refl, sym, ◌∙◌, ap, ap₂, arith}
use Rattle.std.specs.List.{All}
use Rattle.std.proofs.lemmas.List.{take-append-le}
use Rattle.md_engine.specs.declared.event.Event.{Event}
use Rattle.md_engine.specs.declared.state.State.{State}
use Rattle.md_engine.specs.declared.state.State.TheVariants.{Error, Ok, Nok, Next, Retry}
use Rattle.md_engine.specs.declared.tokenizer.Frame.{Frame}
use Rattle.md_engine.specs.Meaning.{Accepts, Behaviour, Fails, Feed, Outcome, Refuses, Steps, whole_outcome, proceeds}
use Rattle.md_engine.specs.Meaning.{here, restored, resume, resume_all}
use Rattle.md_engine.specs.Run.{IsEnd, Leaves, Runs, Step, leads_back, left, next_of, plain}
use Rattle.md_engine.specs.Run.Runs.{Stays, ThenCalls, ThenLeaves}
use Rattle.md_engine.specs.World.{World}

take-none : (m : ℕ) → take m (let e : List Event = [] in e) ≡ []
take-none zero = refl
take-none (suc m) = refl

take-take_le : (n m : ℕ) (xs : List Event) → n ≤ m → take n (take m xs) ≡ take n xs
take-take_le zero m xs h = refl
take-take_le (suc n) m [] h = rw take-none refl
take-take_le (suc n) zero (x ∷ xs) h = absurd (omega arith)
take-take_le (suc n) (suc m) (x ∷ xs) h = ap (λ (l : List Event). x ∷ l) (take-take_le n m xs (omega arith))

-- what is appended to the events changes no attempt before it
resume-same : (B : Behaviour) (feed : Feed) (a b : List Event) (f : Frame) (o : Outcome) →
    take f.events_len a ≡ take f.events_len b → resume B feed a f o ≡ resume B feed b f o
resume-same B feed a b f (Accepts h rest) e =
    ap
    (λ (x : List Event).
    cond f.is_check
    (proceeds B f.ok (feed f.point) (record { events = x; point = f.point; scratch = h.scratch; flags = h.flags }))
    (proceeds B f.ok rest h)) e
resume-same B feed a b f (Refuses s g) e =
    ap
    (λ (x : List Event). proceeds B f.nok (feed f.point)
    (record { events = x; point = f.point; scratch = s; flags = g })) e
resume-same B feed a b f Fails e = refl

resume_all-same : (B : Behaviour) (feed : Feed) (a b : List Event) (fs : List Frame) (o : Outcome) →
    All (λ f. take f.events_len a ≡ take f.events_len b) fs → resume_all B feed a fs o ≡ resume_all B feed b fs o
resume_all-same B feed a b [] o h = refl
resume_all-same B feed a b (f ∷ fs) o h =
    ap (resume_all B feed a fs) (resume-same B feed a b f o (h 0 f (omega arith)))
    ∙ resume_all-same B feed a b fs (resume B feed b f o) (λ k d lt. h (suc k) d (omega arith))

back-same : (B : Behaviour) (feed : Feed) (events : List Event) (fs : List Frame) (f : Frame) (o : Outcome) →
    All (λ g. g.events_len ≤ f.events_len) fs →
    resume_all B feed events fs o ≡ resume_all B feed (take f.events_len events) fs o
back-same B feed events fs f o h =
    sym
    (resume_all-same B feed (take f.events_len events) events fs o
    (λ k d lt. take-take_le _ f.events_len events (h k d lt)))

leave_ok : (B : Behaviour) (feed : Feed) (w : World) (fs : List Frame) (f : Frame) →
    All (λ g. g.events_len ≤ f.events_len) fs → (b : Bool) →
    resume_all B feed w.events fs
    (cond b (proceeds B f.ok (feed f.point) (restored w.events f w.scratch w.flags))
    (proceeds B f.ok (feed w.point) (here w))) ≡
    whole_outcome B feed f.ok (left w fs f b)
leave_ok B feed w fs f h true = back-same B feed w.events fs f _ h
leave_ok B feed w fs f h false = refl

-- leaving the innermost attempt keeps what the tokenizer becomes
leave_keeps : (B : Behaviour) (feed : Feed) (w : World) (fs : List Frame) (f : Frame) (s : State) → IsEnd s →
    w.frames ≡ f ∷ fs →
    All (λ g. g.events_len ≤ f.events_len) fs →
    whole_outcome B feed s w ≡ whole_outcome B feed (next_of f s) (left w fs f (leads_back f s))
leave_keeps B feed w fs f Ok end e h =
    ap (λ (x : List Frame). resume_all B feed w.events x (Accepts (here w) (feed w.point))) e
    ∙ leave_ok B feed w fs f h f.is_check
leave_keeps B feed w fs f Nok end e h =
    ap (λ (x : List Frame). resume_all B feed w.events x (Refuses w.scratch w.flags)) e
    ∙ back-same B feed w.events fs f _ h
leave_keeps B feed w fs f (Next n) end e h = absurd end
leave_keeps B feed w fs f (Retry n) end e h = absurd end
leave_keeps B feed w fs f Error end e h = absurd end

pub leaves-keep : (B : Behaviour) (feed : Feed) (s s' : State) (w w' : World) → Leaves s w s' w' →
    whole_outcome B feed s w ≡ whole_outcome B feed s' w'
leaves-keep B feed s s' w w' l =
    leave_keeps B feed w l.outer l.frame s l.end l.frames l.below
    ∙ ap₂ (λ (x : State) (y : World). whole_outcome B feed x y) (sym l.next) (sym l.new)

-- a state that stays and one that takes what is here become the same
pub plain-same : (B : Behaviour) (feed : Feed) (w : World) (s : State) →
    whole_outcome B feed (plain s) w ≡ whole_outcome B feed s w
plain-same B feed w Ok = refl
plain-same B feed w Nok = refl
plain-same B feed w Error = refl
plain-same B feed w (Next n) = refl
plain-same B feed w (Retry n) = refl

resume_all-join : (B : Behaviour) (feed : Feed) (events : List Event) (fs gs : List Frame) (o : Outcome) →
    resume_all B feed events (fs ++ gs) o ≡ resume_all B feed events gs (resume_all B feed events fs o)
resume_all-join B feed events [] gs o = refl
resume_all-join B feed events (f ∷ fs) gs o = resume_all-join B feed events fs gs (resume B feed events f o)

-- a step of a construct keeps what the whole tokenizer becomes
pub steps-keep : (B : Behaviour) (feed : Feed) (from to : State) (old new : World) →
    All (λ f. f.events_len ≤ length old.events) old.frames →
    Steps B feed from old to new → whole_outcome B feed from old ≡ whole_outcome B feed to new
steps-keep B feed from to old new h s =
    ap (resume_all B feed old.events old.frames) s.same
    ∙ resume_all-same B feed old.events new.events old.frames _ (go s.events)
    ∙ sym (resume_all-join B feed new.events s.begun old.frames _)
    ∙ ap (λ (x : List Frame). resume_all B feed new.events x (proceeds B to (feed new.point) (here new))) (sym s.frames)
  where
    go : (old.frames ≡ []) ⊎ (new.events ≡ old.events ++ s.added) →
        All (λ f. take f.events_len old.events ≡ take f.events_len new.events) old.frames
    go (inl none) =
        λ k d lt. absurd
        (let less : k < length old.frames = lt in let size : length old.frames ≡ 0 = ap length none in
        omega (arith, less, size))
    go (inr e) = λ k d lt. sym (ap (take _) e ∙ take-append-le _ old.events s.added (h k d lt))

-- leaving an attempt changes no setting
leaves-setting : (s s' : State) (w w' : World) → Leaves s w s' w' → w'.setting ≡ w.setting
leaves-setting s s' w w' l = ap (λ (x : World). x.setting) l.new ∙ go (leads_back l.frame s)
  where
    go : (b : Bool) → (left w l.outer l.frame b).setting ≡ w.setting
    go true = refl
    go false = refl

pub runs-setting : (T : Step) (is_end : Bool) (s : State) (w : World) (s' : State) (w' : World) →
    Runs T is_end s w s' w' → w'.setting ≡ w.setting
runs-setting T is_end s w s' w' Stays = refl
runs-setting T is_end s w s' w' (ThenLeaves t v t' v' r l) =
    leaves-setting t t' v v' l ∙ runs-setting T is_end s w t v r
runs-setting T is_end s w s' w' (ThenCalls t v t' v' r c) = c.setting ∙ runs-setting T is_end s w t v r

-- what may be called before the end of a text may be called at its end
pub runs-at_end : (T : Step) (s : State) (w : World) (s' : State) (w' : World) → Runs T false s w s' w' →
    Runs T true s w s' w'
runs-at_end T s w s' w' Stays = Stays
runs-at_end T s w s' w' (ThenLeaves t v t' v' r l) = ThenLeaves t v t' v' (runs-at_end T s w t v r) l
runs-at_end T s w s' w' (ThenCalls t v t' v' r c) =
    ThenCalls t v t' v' (runs-at_end T s w t v r)
    (record {
      name = c.name;
      names = c.names;
      may = inl refl;
      step = c.step;
      fine = c.fine;
      setting = c.setting;
      within = c.within;
    })

-- a run continues from where another has come
pub runs-append : (T : Step) (is_end : Bool) (s : State) (w : World) (t : State) (v : World) (t' : State) (v' : World) →
    Runs T is_end s w t v → Runs T is_end t v t' v' → Runs T is_end s w t' v'
runs-append T is_end s w t v t' v' first Stays = first
runs-append T is_end s w t v t' v' first (ThenLeaves x y x' y' r l) =
    ThenLeaves x y x' y' (runs-append T is_end s w t v x y first r) l
runs-append T is_end s w t v t' v' first (ThenCalls x y x' y' r c) =
    ThenCalls x y x' y' (runs-append T is_end s w t v x y first r) c
