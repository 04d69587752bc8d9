use Rattle.std.proofs.Common.{◌≡◌, ◌∙◌, Bool, true, false, Option, Some, None, ap, ap₂, refl, sym}
use Rattle.std.specs.Option.{option_map}
use Rattle.md_engine.specs.World.{World, world}
use Rattle.md_engine.specs.declared.state.Name.{Name as StateName}
use Rattle.md_engine.specs.declared.state.Name.TheVariants as n
use Rattle.md_engine.specs.declared.state.State.TheVariants.{Retry}
use Rattle.md_engine.specs.declared.state.flow.State.{State as FlowState}
use Rattle.proof_frame.specs.LeafName.{LeafName}
use Rattle.md_events.specs.Look.{looks_after, may_with}
use Rattle.md_events.specs.Spaces.{sees_white}
use Rattle.md_events.specs.Transition.{Transition}
use Rattle.md_registry.specs.Flow.{leaf_end, leaf_transition, trial_code}
use Rattle.md_registry.specs.Registry.{leaf, next_of, tried_at}
use Rattle.md_flow.proofs.flow.try_leaf.Goals as goal

-- the leaf that may begin here or not
abbrev Begins : Option LeafName → World → Bool → Type 0
Begins o w may =
    (l : LeafName) → o ≡ Some l →
    may ≡ may_with ((leaf l).may_begin w.flags.leaf (sees_white w.current)) (looks_after w)

abbrev Follows : Option LeafName → FlowState → Type 0
Follows o next = (l : LeafName) → o ≡ Some l → next ≡ next_of l

abbrev Starts : Option LeafName → StateName → Type 0
Starts o start = Some start ≡ option_map (λ (l : LeafName). (leaf l).start) o

-- where it may not, the next one follows,
passed : (o : Option LeafName) (w : World) (start : StateName) (next : FlowState) → Starts o start → Follows o next →
    Begins o w false → leaf_transition o w ≡ record { to = Retry (n.Flow next); world = w }
passed None w start next starts follows begins = cc
passed (Some l) w start next starts follows begins =
    ap (trial_code (leaf l).start (n.Flow (leaf_end (leaf l).ends)) (n.Flow (next_of l)) w) (sym (begins l refl))
    ∙ ap (λ (x : FlowState). record { to = Retry (n.Flow x); world = w }) (sym (follows l refl))

-- and else it is tried
begun : (o : Option LeafName) (w : World) (start : StateName) (end next : FlowState) → Starts o start →
    ((l : LeafName) → o ≡ Some l → end ≡ leaf_end (leaf l).ends) → Follows o next → Begins o w true →
    leaf_transition o w ≡ trial_code start (n.Flow end) (n.Flow next) w true
begun None w start end next starts ends follows begins = cc
begun (Some l) w start end next starts ends follows begins =
    let same : (leaf l).start ≡ start = cc in
    ap (trial_code (leaf l).start (n.Flow (leaf_end (leaf l).ends)) (n.Flow (next_of l)) w) (sym (begins l refl))
    ∙ ap₂ (λ (e x : FlowState). trial_code (leaf l).start (n.Flow e) (n.Flow x) w true) (sym (ends l refl))
    (sym (follows l refl))
    ∙ ap (λ (s : StateName). trial_code s (n.Flow end) (n.Flow next) w true) same

begins-by : (o : Option LeafName) (w : World) (x y : Bool) → x ≡ y → Begins o w x → Begins o w y
begins-by o w x y e begins l is = sym e ∙ begins l is

pub returns-then-not-leaf_may_begin-clause-to : goal.returns-then-not-leaf_may_begin-clause-to
returns-then-not-leaf_may_begin-clause-to c = λ fine.
    let w = world c.args.tokenizer.now in
    let o = tried_at c.args.state in
    ap (λ (t : Transition). t.to)
    (sym
    (passed o w c.in-Some.start c.next_leaf-next.result (sym c.in-Some.is ∙ c.leaf_start.ensures)
    c.next_leaf-next.ensures
    (begins-by o w c.leaf_may_begin.result false c.if-not-leaf_may_begin.true
    c.leaf_may_begin.ensures.may)))

pub returns-clause-world : goal.returns-clause-world
returns-clause-world c = λ fine.
    let w = world c.args.tokenizer.now in
    let o = tried_at c.args.state in
    let start = c.in-Some.start in
    let end = c.leaf_end-end.result in
    let next = c.next_leaf-next.result in
    c.try_start.ensures.world fine
    ∙ ap (λ (x : World). (trial_code start (n.Flow end) (n.Flow next) x true).world) c.leaf_may_begin.ensures.same
    ∙ ap (λ (t : Transition). t.world)
    (sym
    (begun o w start end next (sym c.in-Some.is ∙ c.leaf_start.ensures) c.leaf_end-end.ensures c.next_leaf-next.ensures
    (begins-by o w c.leaf_may_begin.result true c.if-not-leaf_may_begin.false
    c.leaf_may_begin.ensures.may)))
