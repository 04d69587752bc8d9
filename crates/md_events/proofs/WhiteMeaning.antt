-- Each state of whitespace takes one step of its rule.
use Rattle.std.proofs.Common.{◌≡◌, ℕ, zero, suc, ◌+◌, ◌-◌, ◌<◌, ◌≤◌, Bool, true, false, ◌&&◌, nat_lt, List, [], ◌∷◌}
use Rattle.std.proofs.Common.{◌++◌, Option, Some, None, refl, sym, ◌∙◌, ap, arith, add-zero, append_assoc, inl, inr}
use Rattle.std.proofs.Common.{◌⊎◌}
use Rattle.std.specs.Prelude.{nat_le}
use Rattle.std.proofs.lemmas.Bool.Decides.{nat_tests}
use Rattle.md_engine.specs.declared.event.Event.{Event}
use Rattle.md_engine.specs.declared.event.Name.TheVariants.{SpaceOrTab}
use Rattle.md_engine.specs.declared.state.Name.TheVariants as n
use Rattle.md_engine.specs.declared.state.space_or_tab.State.{State as WhiteState}
use Rattle.md_engine.specs.declared.state.space_or_tab.State.TheVariants as its
use Rattle.md_engine.specs.declared.state.State.{State}
use Rattle.md_engine.specs.declared.state.State.TheVariants.{Next}
use Rattle.md_engine.specs.declared.tokenizer.Frame.{Frame}
use Rattle.md_engine.specs.Meaning.{Accepts, Behaviour, Cell, Feed, Here, Steps, proceeds, here, resume}
use Rattle.md_engine.specs.World.{World, after}
use Rattle.md_engine.specs.Sees.{Sees, ahead, cell_here}
use Rattle.md_engine.proofs.StepOf.{moves, passes, steps-as}
use Rattle.md_events.specs.Ahead.{HasWhite, WhiteMeans, after_white, begins_white, inside_white, white_at, white_end}
use Rattle.md_events.specs.Ahead.{white_rest, white_size}
use Rattle.md_events.specs.Events.Nested.{enter, exit}
use Rattle.md_meaning.specs.Rest.{is_white}
use Rattle.md_events.specs.Spaces.{after_code, asking, calmed, inside_code, sees_white, start_code, white_transition}
use Rattle.md_events.proofs.AheadLemmas.{none-end, none-rest, none-size}

-- one column more
inside-more : (c : Cell) (cs : List Cell) (h : Here) → is_white c.byte ≡ true →
    h.scratch.whitespace.size < h.scratch.whitespace.max →
    inside_white (c ∷ cs) h ≡
    inside_white cs
    (record h {
      point = c.after;
      scratch = asking h.scratch.whitespace.min h.scratch.whitespace.max (h.scratch.whitespace.size + 1) h.scratch;
    })
unfolding inside_white
inside-more c cs h e lt =
    let room : h.scratch.whitespace.max - h.scratch.whitespace.size ≡
    suc (h.scratch.whitespace.max - (h.scratch.whitespace.size + 1)) = omega arith in
    let m = white_size (h.scratch.whitespace.max - (h.scratch.whitespace.size + 1)) cs in
    let sum : h.scratch.whitespace.size + suc m ≡ h.scratch.whitespace.size + 1 + m = omega arith in
    rw (room, e, sum) refl

-- where it ends, nothing more is taken
abbrev ended_here : Here → Here
ended_here h = record h { events = h.events ++ exit SpaceOrTab h.point ∷ [] }

inside-full : (cells : List Cell) (h : Here) → h.scratch.whitespace.max ≤ h.scratch.whitespace.size →
    inside_white cells h ≡ after_white cells (ended_here h)
unfolding inside_white
inside-full [] h le = rw add-zero refl
inside-full (c ∷ cs) h le =
    let room : h.scratch.whitespace.max - h.scratch.whitespace.size ≡ 0 = omega arith in
    rw (room, add-zero) refl

stop-ahead : (feed : Feed) (w : World) (h : Here) (o : Option ℕ) → sees_white o ≡ false →
    inside_white (ahead feed w o) h ≡ after_white (ahead feed w o) (ended_here h)
unfolding inside_white
stop-ahead feed w h None e = rw add-zero refl
stop-ahead feed w h (Some b) e =
    let c = cell_here feed w b in
    let cs = feed (after w.setting w.point) in
    rw (none-end _ (c ∷ cs) h.point e, none-rest _ (c ∷ cs) e, none-size _ (c ∷ cs) e, add-zero) refl

inside-stop : (feed : Feed) (w : World) (h : Here) → Sees feed w →
    (sees_white w.current ≡ false) ⊎ (h.scratch.whitespace.max ≤ h.scratch.whitespace.size) →
    inside_white (feed w.point) h ≡ after_white (feed w.point) (ended_here h)
inside-stop feed w h s (inr le) = inside-full (feed w.point) h le
inside-stop feed w h s (inl e) = rw s.next (stop-ahead feed w h w.current e)

-- what is seen of whitespace
pub sees-white : (feed : Feed) (w : World) → Sees feed w → sees_white w.current ≡ true →
    (b : ℕ) × (feed w.point ≡ cell_here feed w b ∷ feed (after w.setting w.point)) × (is_white b ≡ true)
sees-white feed w s e = go w.current e s.next
  where
    go : (o : Option ℕ) → sees_white o ≡ true → feed w.point ≡ ahead feed w o →
        (b : ℕ) × (feed w.point ≡ cell_here feed w b ∷ feed (after w.setting w.point)) × (is_white b ≡ true)
    go None e k = cc
    go (Some b) e k = (b, k, e)

pub begins-seen : (feed : Feed) (w : World) → Sees feed w → begins_white (feed w.point) ≡ sees_white w.current
begins-seen feed w s = rw s.next (go w.current)
  where
    go : (o : Option ℕ) → begins_white (ahead feed w o) ≡ sees_white o
    go None = refl
    go (Some b) = refl

white_start_means : (B : Behaviour) (feed : Feed) (w : World) (x : Bool) → HasWhite B → Sees feed w →
    sees_white w.current && nat_lt 0 w.scratch.whitespace.max ≡ x →
    Steps B feed (Next (n.SpaceOrTab its.Start)) w (start_code w x).to (start_code w x).world
unfolding white_at
white_start_means B feed w true has s e =
    moves B feed _ _ w (start_code w true).world (enter SpaceOrTab w.point ∷ []) refl refl
    (has.each its.Start _ _ ∙ rw (begins-seen feed w s, e) (sym (has.each its.Inside _ _)))
white_start_means B feed w false has s e =
    passes B feed _ _ w w refl refl
    (has.each its.Start _ _ ∙ rw (begins-seen feed w s, e) (sym (has.each its.After _ _)))

white_inside_means : (B : Behaviour) (feed : Feed) (w : World) (x y : Bool) → HasWhite B → Sees feed w →
    sees_white w.current ≡ x → nat_lt w.scratch.whitespace.size w.scratch.whitespace.max ≡ y →
    Steps B feed (Next (n.SpaceOrTab its.Inside)) w (inside_code w (x && y)).to (inside_code w (x && y)).world
white_inside_means B feed w true true has s e f =
    let saw = sees-white feed w s e in
    let lt : w.scratch.whitespace.size < w.scratch.whitespace.max = grind (arith, nat_tests) in
    passes B feed _ _ w (inside_code w true).world refl refl
    (has.each its.Inside _ _ ∙ ap (λ (x : List Cell). inside_white x (here w)) saw.1
    ∙ inside-more (cell_here feed w saw.0) (feed (after w.setting w.point)) (here w) saw.2 lt
    ∙ sym (has.each its.Inside _ _))
white_inside_means B feed w true false has s e f =
    let le : w.scratch.whitespace.max ≤ w.scratch.whitespace.size = grind (arith, nat_tests) in
    moves B feed _ _ w (inside_code w false).world (exit SpaceOrTab w.point ∷ []) refl refl
    (has.each its.Inside _ _ ∙ inside-stop feed w (here w) s (inr le) ∙ sym (has.each its.After _ _))
white_inside_means B feed w false y has s e f =
    moves B feed _ _ w (inside_code w false).world (exit SpaceOrTab w.point ∷ []) refl refl
    (has.each its.Inside _ _ ∙ inside-stop feed w (here w) s (inl e) ∙ sym (has.each its.After _ _))

white_after_means : (B : Behaviour) (feed : Feed) (w : World) (x : Bool) → HasWhite B →
    nat_le w.scratch.whitespace.min w.scratch.whitespace.size ≡ x →
    Steps B feed (Next (n.SpaceOrTab its.After)) w (after_code w x).to (after_code w x).world
unfolding after_white
white_after_means B feed w true has e =
    passes B feed _ _ w (after_code w true).world refl refl (has.each its.After _ _ ∙ rw e refl)
white_after_means B feed w false has e =
    passes B feed _ _ w (after_code w false).world refl refl (has.each its.After _ _ ∙ rw e refl)

-- each state of whitespace takes one step of what it means
pub white_means : (B : Behaviour) (feed : Feed) (state : WhiteState) (w : World) → HasWhite B → Sees feed w →
    Steps B feed (Next (n.SpaceOrTab state)) w (white_transition state w).to (white_transition state w).world
white_means B feed its.Start w has s = white_start_means B feed w _ has s refl
white_means B feed its.Inside w has s = white_inside_means B feed w _ _ has s refl refl
white_means B feed its.After w has s = white_after_means B feed w _ has refl

-- what answers as the transition of a state does means what the state means
pub white_rule : (state : WhiteState) (w new : World) (to : State) → to ≡ (white_transition state w).to →
    new ≡ (white_transition state w).world → WhiteMeans state w to new
unfolding WhiteMeans
white_rule state w new to e k B feed has s = steps-as B feed _ _ to w _ new e k (white_means B feed state w has s)

white-some : (room : ℕ) (cells : List Cell) → 1 ≤ room → begins_white cells ≡ true → 1 ≤ white_size room cells
white-some room [] le e = cc
white-some zero (c ∷ cs) le e = absurd (omega arith)
white-some (suc room) (c ∷ cs) le e = rw e (omega arith)

-- after all whitespace that comes first, up to so much
abbrev pub following_white : ℕ → List Cell → Here → Here
following_white max cells h =
    let p = white_end max cells h.point in
    record h {
      events = h.events ++ enter SpaceOrTab h.point ∷ exit SpaceOrTab p ∷ [];
      point = p;
      scratch = calmed h.scratch;
    }

white-taken : (cells : List Cell) (h : Here) (min max : ℕ) → begins_white cells ≡ true → 1 ≤ max → min ≤ 1 →
    white_at cells (record h { scratch = asking min max 0 h.scratch }) ≡
    Accepts (following_white max cells h) (white_rest max cells)
unfolding white_at inside_white after_white
white-taken cells h min max s most least =
    let some : 1 ≤ white_size max cells = white-some max cells most s in
    let room : max - 0 ≡ max = omega arith in
    let fits : nat_lt 0 max ≡ true = grind (arith, nat_tests) in
    let enough : nat_le min (0 + white_size max cells) ≡ true = grind (arith, nat_tests, some) in
    rw (s, fits, room, enough) (simp append_assoc)

-- what an attempt at whitespace that is here becomes
pub white-tried : (B : Behaviour) (feed : Feed) (f : Frame) (events : List Event) (cells : List Cell) (h : Here)
    (min max : ℕ) →
    HasWhite B → begins_white cells ≡ true → 1 ≤ max → min ≤ 1 → f.is_check ≡ false →
    proceeds B f.ok (white_rest max cells) (following_white max cells h) ≡
    resume B feed events f (B (n.SpaceOrTab its.Start) cells (record h { scratch = asking min max 0 h.scratch }))
white-tried B feed f events cells h min max has s most least k =
    rw (has.each its.Start, white-taken cells h min max s most least, k) refl
