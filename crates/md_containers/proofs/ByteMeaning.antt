-- A state that asks for one byte takes one step of its rule.
use Rattle.std.proofs.Common.{◌≡◌, ℕ, Bool, true, false, cond, nat_eq, List, [], ◌∷◌, ◌++◌}
use Rattle.std.proofs.Common.{Option, Some, None, refl, sym, ◌∙◌, ap}
use Rattle.md_engine.specs.declared.event.Event.{Event}
use Rattle.md_engine.specs.declared.event.Point.{Point}
use Rattle.md_engine.specs.declared.state.Name.{Name as StateName}
use Rattle.md_engine.specs.declared.state.State.TheVariants.{Nok, Next}
use Rattle.md_engine.specs.Meaning.{Behaviour, Cell, Feed, Here, Outcome, Refuses, Steps, here}
use Rattle.md_engine.specs.World.{World, after}
use Rattle.md_engine.specs.Sees.{Sees, ahead, cell_here}
use Rattle.md_engine.proofs.StepOf.{moves, passes}
use Rattle.md_events.specs.Spaces.{is_current}

-- What is left where this byte must be: what is left after it, with these events.
pub record AsksFor (b : ℕ) (adds : Point → Point → List Event)
    (front following : List Cell → Here → Outcome) : Type 0 where
  pub none : (h : Here) → front [] h ≡ Refuses h.scratch h.flags
  pub some : (c : Cell) (cs : List Cell) (h : Here) →
      front (c ∷ cs) h
      ≡ cond (nat_eq c.byte b) (following cs (record h { events = h.events ++ adds h.point c.after; point = c.after }))
      (Refuses h.scratch h.flags)

asked : {b : ℕ} {adds : Point → Point → List Event} {front following : List Cell → Here → Outcome}
    (feed : Feed) (w : World)
    (h : Here) (o : Option ℕ) (x : Bool) → AsksFor b adds front following → is_current b o ≡ x →
    front (ahead feed w o) h
    ≡ cond x
    (following (feed (after w.setting w.point))
    (record h {
      events = h.events ++ adds h.point (after w.setting w.point);
      point = after w.setting w.point;
    }))
    (Refuses h.scratch h.flags)
asked feed w h None true asks e = cc
asked feed w h None false asks e = asks.none h
asked feed w h (Some c) x asks e = asks.some (cell_here feed w c) (feed (after w.setting w.point)) h ∙ rw e refl

-- where it is
pub asked-some : {b : ℕ} {adds : Point → Point → List Event} {front following : List Cell → Here → Outcome}
    (B : Behaviour) (feed : Feed) (state next : StateName) (w new : World) → AsksFor b adds front following →
    ((cells : List Cell) (h : Here) → B state cells h ≡ front cells h) →
    ((cells : List Cell) (h : Here) → B next cells h ≡ following cells h) → Sees feed w →
    is_current b w.current ≡ true → new.frames ≡ w.frames →
    new.events ≡ w.events ++ adds w.point (after w.setting w.point) → new.point ≡ after w.setting w.point →
    here new ≡ record (here w) { events = new.events; point = after w.setting w.point } →
    Steps B feed (Next state) w (Next next) new
asked-some {adds = adds} {front = front} {following = following} B feed state next w new asks is then
    s e frames events point
    same =
    let q : Point = after w.setting w.point in
    moves B feed _ _ w new (adds w.point q) frames events
    (is _ _ ∙ ap (λ (x : List Cell). front x (here w)) s.next ∙ asked feed w (here w) w.current true asks e
    ∙ ap (λ (es : List Event). following (feed q) (record (here w) { events = es; point = q })) (sym events)
    ∙ ap (following (feed q)) (sym same) ∙ ap (λ (p : Point). following (feed p) (here new)) (sym point)
    ∙ sym (then _ _))

-- and where it does not
pub asked-none : {b : ℕ} {adds : Point → Point → List Event} {front following : List Cell → Here → Outcome}
    (B : Behaviour) (feed : Feed) (state : StateName) (w : World) → AsksFor b adds front following →
    ((cells : List Cell) (h : Here) → B state cells h ≡ front cells h) → Sees feed w →
    is_current b w.current ≡ false → Steps B feed (Next state) w Nok w
asked-none {front = front} B feed state w asks is s e =
    passes B feed _ _ w w refl refl
    (is _ _ ∙ ap (λ (x : List Cell). front x (here w)) s.next ∙ asked feed w (here w) w.current false asks e)
