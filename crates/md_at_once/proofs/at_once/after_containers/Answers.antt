use Rattle.std.proofs.Common.{◌≡◌, ◌≢◌, ◌∙◌, Bool, ap, false, inl, subst, sym, true}
use Rattle.std.specs.Option.{is_some}
use Rattle.md_engine.specs.declared.state.State.TheVariants.{Error}
use Rattle.md_registry.specs.Flow.{leaf_front}
use Rattle.md_registry.specs.Registry.{asked_first}
use Rattle.md_engine.proofs.Walks.{Within}
use Rattle.md_engine.specs.World.{World, looks, world}
use Rattle.md_engine.specs.declared.state.document.State.TheVariants as document
use Rattle.md_engine.specs.declared.state.flow.State.TheVariants as flow
use Rattle.md_engine.specs.declared.state.Name.TheVariants as n
use Rattle.md_engine.proofs.Loops.{ArrivedHere, ArrivedAt, arrived-first}
use Rattle.md_engine.proofs.StayLemmas.{within-world}
use Rattle.md_events.specs.Spaces.{ends_line}
use Rattle.md_registry.specs.LineFlags.{begun_line, blanked}
use Rattle.md_registry.specs.States.{FlowStep}
use Rattle.md_registry.proofs.LinesAtOnce.{ends-with, line-blank, line-front, line-leaves}
use Rattle.md_registry.proofs.LinesAtOnce.{line-over, starts-blank}
use Rattle.md_at_once.proofs.FlowRuns.{run-on}
use Rattle.md_at_once.proofs.WantOfMemory.{containers-want, wants-following}
use Rattle.md_at_once.proofs.at_once.after_containers.Goals as goal

-- the leaf that is open is asked first, or the rest of the line follows
front : (w u : World) → u ≡ record w { flags = begun_line w.flags } → w.current ≡ looks w → Within w → (x : Bool) →
    is_some (asked_first u.flags.leaf) ≡ x →
    ArrivedHere FlowStep (n.Document document.ContainersAfter) w (leaf_front x) u
front w u begun seen within x asked is_end s v named sees may =
    subst (λ (y : Bool). ArrivedAt FlowStep is_end s v (leaf_front y) u) asked
    (subst
    (λ (y : World). ArrivedAt FlowStep is_end s v (leaf_front (is_some (asked_first y.flags.leaf))) y) (sym begun)
    (line-front is_end s v w seen within
    (arrived-first FlowStep (n.Document document.ContainersAfter) w is_end s v named sees may)))

pub returns-then-continues_inside : goal.returns-then-continues_inside
returns-then-continues_inside c =
    let w = world c.args.tokenizer.now in
    let u = world c.containers_after.new.tokenizer in
    run-on (n.Document document.ContainersAfter) (n.Document document.FlowInside) w u c.inside.result
    c.inside.new.tokenizer
    (front w u c.containers_after.ensures.state.world c.requires.current (within-world c.args.tokenizer.now) true
    (sym c.continues_inside.ensures ∙ c.if-continues_inside.true))
    (subst (λ (x : World). x.current ≡ looks x) (sym c.containers_after.ensures.state.world) c.requires.current)
    (inl (ap (λ (x : World). x.point) c.containers_after.ensures.state.world)) c.inside.ensures

pub returns-then-ends_line : goal.returns-then-ends_line
returns-then-ends_line c =
    let T = FlowStep in
    let first = n.Document document.ContainersAfter in
    let w = world c.args.tokenizer.now in
    let u = world c.containers_after.new.tokenizer in
    let begun : u ≡ record w { flags = begun_line w.flags } = c.containers_after.ensures.state.world in
    let seen : u.current ≡ looks u = subst (λ (x : World). x.current ≡ looks x) (sym begun) c.requires.current in
    let ends : ends_line u.current ≡ true = sym c.ends_line.ensures ∙ c.if-ends_line.true in
    let at_line : ArrivedHere T first w (n.Flow flow.BlankLineBefore) u = λ is_end s v named sees may.
    line-blank is_end s v u (starts-blank u ends) seen (within-world c.containers_after.new.tokenizer)
    (front w u begun c.requires.current (within-world c.args.tokenizer.now) false
    (sym c.continues_inside.ensures ∙ c.if-continues_inside.false) is_end s v named sees may) in
    let x = world c.blank_line_after.new.tokenizer in
    let over : x ≡ record u { flags = blanked u.flags } = c.blank_line_after.ensures.world in
    let at_end : ArrivedHere T first w (n.Document document.FlowEnd) x = λ is_end s v named sees may.
    subst (λ (y : World). ArrivedAt T is_end s v (n.Document document.FlowEnd) y) (sym over)
    (line-over is_end s v u ends seen (within-world c.containers_after.new.tokenizer)
    (at_line is_end s v named sees may)) in
    let all = λ (fine : c.flow_end.result ≢ Error).
    ends-with first (n.Document document.FlowEnd) w x c.flow_end.result (world c.flow_end.new.tokenizer) at_end
    (line-leaves x) (c.flow_end.ensures.to fine) (c.flow_end.ensures.world fine) fine
    (subst (λ (y : World). y.current ≡ looks y) (sym over) seen) (within-world c.blank_line_after.new.tokenizer)
    (ap (λ (y : World). y.point) over ∙ ap (λ (y : World). y.point) begun) in
    record {
      runs = λ fine. (all fine).0;
      sees = λ fine. (all fine).1;
      full =
          wants-following first (n.Document document.FlowEnd) w x c.flow_end.result c.flow_end.new.tokenizer at_end
          (containers-want (n.Document document.FlowEnd) x c.flow_end.result c.flow_end.new.tokenizer
          c.flow_end.ensures.full);
    }

pub returns-else-ends_line : goal.returns-else-ends_line
returns-else-ends_line c =
    let w = world c.args.tokenizer.now in
    let u = world c.containers_after.new.tokenizer in
    run-on (n.Document document.ContainersAfter) (n.Flow flow.Start) w u c.rest_begins.result
    c.rest_begins.new.tokenizer
    (front w u c.containers_after.ensures.state.world c.requires.current (within-world c.args.tokenizer.now) false
    (sym c.continues_inside.ensures ∙ c.if-continues_inside.false))
    (subst (λ (x : World). x.current ≡ looks x) (sym c.containers_after.ensures.state.world) c.requires.current)
    (inl (ap (λ (x : World). x.point) c.containers_after.ensures.state.world)) c.rest_begins.ensures
