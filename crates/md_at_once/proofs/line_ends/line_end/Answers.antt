use Rattle.std.proofs.Common.{◌≡◌, refl, subst, sym, ap}
use Rattle.md_engine.specs.World.{World, looks, world}
use Rattle.md_engine.specs.declared.state.document.State.TheVariants as document
use Rattle.md_engine.specs.declared.state.flow.State.TheVariants as flow
use Rattle.md_engine.specs.declared.state.Name.TheVariants as n
use Rattle.md_engine.proofs.Loops.{ArrivedHere, arrived-first}
use Rattle.md_engine.proofs.StayLemmas.{within-world}
use Rattle.md_engine.proofs.Walks.{then-stays}
use Rattle.md_registry.specs.States.{FlowStep}
use Rattle.md_registry.proofs.LinesAtOnce.{ends-with, line-leaves}
use Rattle.md_at_once.proofs.LineEnds.{end-sees}
use Rattle.md_at_once.proofs.WantOfMemory.{containers-want, wants-following}
use Rattle.md_at_once.proofs.line_ends.line_end.Goals as goal

pub returns : goal.returns
returns c =
    let T = FlowStep in
    let w = world c.args.tokenizer.now in
    let u = world c.after.new._tokenizer in
    let same : u ≡ w = c.after.ensures.world in
    let seen : u.current ≡ looks u = subst (λ (x : World). x.current ≡ looks x) (sym same) c.requires.current in
    let arrived : ArrivedHere T (n.Flow flow.After) w (n.Document document.FlowEnd) u =
    λ is_end s z named from may.
    then-stays T is_end s z (n.Flow flow.After) (n.Document document.FlowEnd) w u
    (arrived-first T (n.Flow flow.After) w is_end s z named from may) (record { to_is = refl; new_is = same })
    (ap (λ (x : World). x.setting) same) (within-world c.args.tokenizer.now) (ap (λ (x : World). x.point) same) seen in
    record {
      runs = λ fine.
          (ends-with (n.Flow flow.After) (n.Document document.FlowEnd) w u c.flow_end.result
          (world c.flow_end.new.tokenizer) arrived (line-leaves u) (c.flow_end.ensures.to fine)
          (c.flow_end.ensures.world fine)
          fine seen (within-world c.after.new._tokenizer) (ap (λ (x : World). x.point) same)).0;
      sees = λ fine from.
          end-sees u c.flow_end.result (c.flow_end.ensures.to fine) from (world c.flow_end.new.tokenizer);
      full =
          wants-following (n.Flow flow.After) (n.Document document.FlowEnd) w u c.flow_end.result
          c.flow_end.new.tokenizer arrived
          (containers-want (n.Document document.FlowEnd) u c.flow_end.result c.flow_end.new.tokenizer
          c.flow_end.ensures.full);
    }
