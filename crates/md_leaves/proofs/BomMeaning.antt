-- Each state of the byte order mark takes one step of its rule.
use Rattle.std.proofs.Common.{◌≡◌, ℕ, zero, suc, ◌+◌, ◌<◌, Bool, true, false, nat_eq, nat_lt, List, [], ◌∷◌, ◌++◌}
use Rattle.std.proofs.Common.{Option, Some, None, refl, sym, ◌∙◌, ap, arith, append_assoc}
use Rattle.std.proofs.lemmas.Bool.Decides.{nat_tests}
use Rattle.md_engine.specs.declared.state.State.{State}
use Rattle.md_engine.specs.declared.event.Name.TheVariants as parts
use Rattle.md_engine.specs.declared.state.Name.TheVariants as n
use Rattle.md_engine.specs.declared.state.bom.State.{State as BomState}
use Rattle.md_engine.specs.declared.state.bom.State.TheVariants as its
use Rattle.md_engine.specs.declared.state.State.TheVariants.{Next}
use Rattle.md_engine.specs.declared.tokenizer.Scratch.{Scratch}
use Rattle.md_engine.specs.Meaning.{Accepts, Behaviour, Cell, Feed, Here, Refuses, Steps, here}
use Rattle.md_engine.specs.Scheme.{After, position}
use Rattle.md_engine.specs.World.{World, after}
use Rattle.md_engine.specs.Sees.{Sees, ahead, cell_here}
use Rattle.md_engine.proofs.StepOf.{steps-as, moves, passes}
use Rattle.md_leaves.specs.Bom.{BomInvariant, bom_ready, bom_transition, inside_code, mark_at, start_code}
use Rattle.md_leaves.specs.BomRule.{BomMeans, HasBom, bom_at, inside_mark}
use Rattle.md_leaves.specs.Heading.{without_size}
use Rattle.md_leaves.proofs.LeafSteps.{sees-one}
use Rattle.md_events.specs.Events.Nested.{enter, exit}
use Rattle.md_events.specs.Spaces.{IsRest, is_current}

-- at its first byte the mark is what is inside it
mark-begins : (cells : List Cell) (h : Here) → h.scratch.size ≡ 0 → without_size h.scratch ≡ h.scratch →
    bom_at cells h ≡ inside_mark cells (record h { events = h.events ++ enter parts.ByteOrderMark h.point ∷ [] })
unfolding bom_at inside_mark
mark-begins cells h none same = rw (none, same) (simp append_assoc)

no-mark : (feed : Feed) (w : World) (h : Here) (o : Option ℕ) → is_current 239 o ≡ false →
    bom_at (ahead feed w o) h ≡ Refuses h.scratch h.flags
unfolding bom_at
no-mark feed w h None e = refl
no-mark feed w h (Some b) e = rw e refl

bom_start_means : (B : Behaviour) (feed : Feed) (w : World) (x : Bool) → HasBom B → Sees feed w → IsRest w.scratch →
    is_current 239 w.current ≡ x → Steps B feed (Next (n.Bom its.Start)) w (start_code w x).to (start_code w x).world
bom_start_means B feed w true has s r e =
    moves B feed _ _ w (start_code w true).world (enter parts.ByteOrderMark w.point ∷ []) refl refl
    (has.each its.Start _ _
    ∙ mark-begins (feed w.point) (here w) (ap (λ (t : Scratch). t.size) r) (ap without_size r ∙ sym r)
    ∙ sym (has.each its.Inside _ _))
bom_start_means B feed w false has s r e =
    passes B feed _ _ w w refl refl (has.each its.Start _ _ ∙ rw s.next (no-mark feed w (here w) w.current e))

-- one byte more
mark-more : (c : Cell) (cs : List Cell) (h : Here) (k : ℕ) → h.scratch.size ≡ k → k < 2 →
    nat_eq c.byte (mark_at k) ≡ true →
    inside_mark (c ∷ cs) h ≡
    inside_mark cs (record h { point = c.after; scratch = record h.scratch { size = h.scratch.size + 1 } })
unfolding inside_mark
mark-more c cs h zero e lt is = rw (e, is) refl
mark-more c cs h (suc zero) e lt is = rw (e, is) refl
mark-more c cs h (suc (suc k)) e lt is = absurd (omega arith)

-- the last byte
mark-ends : (c : Cell) (cs : List Cell) (h : Here) → h.scratch.size ≡ 2 → nat_eq c.byte 191 ≡ true →
    inside_mark (c ∷ cs) h ≡
    Accepts
    (record h {
      events = h.events ++ exit parts.ByteOrderMark c.after ∷ [];
      point = c.after;
      scratch = without_size h.scratch;
    }) cs
unfolding inside_mark
mark-ends c cs h e is = rw (e, is) refl

mark-none : (h : Here) (k : ℕ) → h.scratch.size ≡ k → k < 3 →
    inside_mark [] h ≡ Refuses (without_size h.scratch) h.flags
unfolding inside_mark
mark-none h zero e lt = rw e refl
mark-none h (suc zero) e lt = rw e refl
mark-none h (suc (suc zero)) e lt = rw e refl
mark-none h (suc (suc (suc k))) e lt = absurd (omega arith)

mark-other : (c : Cell) (cs : List Cell) (h : Here) (k : ℕ) → h.scratch.size ≡ k → k < 3 →
    nat_eq c.byte (mark_at k) ≡ false → inside_mark (c ∷ cs) h ≡ Refuses (without_size h.scratch) h.flags
unfolding inside_mark
mark-other c cs h zero e lt is = rw (e, is) refl
mark-other c cs h (suc zero) e lt is = rw (e, is) refl
mark-other c cs h (suc (suc zero)) e lt is = rw (e, is) refl
mark-other c cs h (suc (suc (suc k))) e lt is = absurd (omega arith)

mark-stops : (feed : Feed) (w : World) (h : Here) (o : Option ℕ) → h.scratch.size < 3 →
    is_current (mark_at h.scratch.size) o ≡ false →
    inside_mark (ahead feed w o) h ≡ Refuses (without_size h.scratch) h.flags
mark-stops feed w h None lt e = mark-none h h.scratch.size refl lt
mark-stops feed w h (Some b) lt e =
    mark-other (cell_here feed w b) (feed (after w.setting w.point)) h h.scratch.size refl lt e

bom_inside_means : (B : Behaviour) (feed : Feed) (w : World) (x y : Bool) → HasBom B → Sees feed w →
    w.scratch.size < 3 → is_current (mark_at w.scratch.size) w.current ≡ x → nat_lt w.scratch.size 2 ≡ y →
    Steps B feed (Next (n.Bom its.Inside)) w (inside_code w x y).to (inside_code w x y).world
bom_inside_means B feed w true true has s lt e f =
    let saw = sees-one feed w (is_current (mark_at w.scratch.size)) refl s e in
    let less : w.scratch.size < 2 = grind (arith, nat_tests) in
    passes B feed _ _ w (inside_code w true true).world refl refl
    (has.each its.Inside _ _ ∙ ap (λ (x : List Cell). inside_mark x (here w)) saw.1
    ∙ mark-more (cell_here feed w saw.0) (feed (after w.setting w.point)) (here w) w.scratch.size refl less saw.2
    ∙ sym (has.each its.Inside _ _))
bom_inside_means B feed w true false has s lt e f =
    let saw = sees-one feed w (is_current (mark_at w.scratch.size)) refl s e in
    let two : w.scratch.size ≡ 2 = grind (arith, nat_tests) in
    let last : nat_eq saw.0 191 ≡ true = ap (λ (k : ℕ). nat_eq saw.0 (mark_at k)) (sym two) ∙ saw.2 in
    moves B feed _ _ w (inside_code w true false).world
    (exit parts.ByteOrderMark (after w.setting w.point) ∷ []) refl refl
    (has.each its.Inside _ _ ∙ ap (λ (x : List Cell). inside_mark x (here w)) saw.1
    ∙ mark-ends (cell_here feed w saw.0) (feed (after w.setting w.point)) (here w) two last)
bom_inside_means B feed w false y has s lt e f =
    passes B feed _ _ w (inside_code w false y).world refl refl
    (has.each its.Inside _ _ ∙ rw s.next (mark-stops feed w (here w) w.current lt e))

-- each state of a mark takes one step of its rule
bom_steps : (B : Behaviour) (feed : Feed) (state : BomState) (w : World) → HasBom B → Sees feed w →
    BomInvariant (n.Bom state) (position w) →
    Steps B feed (Next (n.Bom state)) w (bom_transition state w).to (bom_transition state w).world
bom_steps B feed its.Start w has s at = bom_start_means B feed w _ has s at refl
bom_steps B feed its.Inside w has s at = bom_inside_means B feed w _ _ has s at.size refl refl

-- and so where its attempts end as they have to
pub bom_means : (B : Behaviour) (feed : Feed) (state : BomState) (w : World) (K : After) → HasBom B →
    Sees feed w → bom_ready (n.Bom state) (position w) K →
    Steps B feed (Next (n.Bom state)) w (bom_transition state w).to (bom_transition state w).world
bom_means B feed state w K has s at = bom_steps B feed state w has s at.0

-- what answers as the transition of a state does means what the state means
pub bom_rule : (state : BomState) (w new : World) (to : State) → to ≡ (bom_transition state w).to →
    new ≡ (bom_transition state w).world → BomMeans state w to new
unfolding BomMeans
bom_rule state w new to e k at B feed has s =
    steps-as B feed _ _ to w _ new e k (bom_steps B feed state w has s at)
