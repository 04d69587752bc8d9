-- What calls of the table leave of a line, where they do what their transitions say.
use Rattle.std.proofs.Common.{◌≡◌}
use Rattle.md_engine.specs.declared.state.Name.{Name as StateName}
use Rattle.md_engine.specs.declared.state.State.{State}
use Rattle.md_engine.specs.declared.state.State.TheVariants.{Next}
use Rattle.md_engine.specs.declared.state.document.State.TheVariants as document
use Rattle.md_engine.specs.declared.state.flow.State.TheVariants as flow
use Rattle.md_engine.specs.Scheme.{valid}
use Rattle.md_engine.specs.World.{World, looks}
use Rattle.md_registry.specs.Document.{document_own_transition}
use Rattle.md_registry.specs.Flow.{flow_own_transition}
use Rattle.md_registry.specs.Registry.{construct_transition}
use Rattle.md_registry.specs.States.{flow_table_scheme}
use Rattle.md_flow.proofs.LineRule.Leaf.{keeps-call, leaf-call}
use Rattle.md_flow.proofs.LineRule.Lines.{asked-call, flow_has, open-call, tried-call}
use Rattle.md_flow.proofs.LineRule.Prefix.{further-call, opener-call}
use Rattle.md_flow.specs.Calls.{AskedLine, FirstLine, OpenLine, TriedLine}

pub first_line : (name : StateName) (w new : World) (to : State) → w.current ≡ looks w →
    valid flow_table_scheme w (Next name) → to ≡ (construct_transition name w).to →
    new ≡ (construct_transition name w).world → FirstLine name w to new
unfolding FirstLine
first_line name w new to c at e k next = record {
  keeps = keeps-call name w new to next c at e k;
  leaves = leaf-call name w new to next c at e k;
  opens = opener-call name w new to next c at e k;
  further = further-call name w new to next c at e k;
}

pub tried_line : (w new : World) (to : State) → to ≡ (flow_own_transition flow.Start w).to →
    new ≡ (flow_own_transition flow.Start w).world → TriedLine w to new
unfolding TriedLine
tried_line w new to e k next = (flow_has w.setting.bytes w.setting.options next, tried-call w new to next e k)

pub open_line : (w new : World) (to : State) → to ≡ (document_own_transition document.ContainersAfter w).to →
    new ≡ (document_own_transition document.ContainersAfter w).world → OpenLine w to new
unfolding OpenLine
open_line w new to e k next = (flow_has w.setting.bytes w.setting.options next, open-call w new to next e k)

pub asked_line : (w new : World) (to : State) → to ≡ (document_own_transition document.FlowInside w).to →
    new ≡ (document_own_transition document.FlowInside w).world → AskedLine w to new
unfolding AskedLine
asked_line w new to e k next = (flow_has w.setting.bytes w.setting.options next, asked-call w new to next e k)
