-- What calls of the table of flow leave, by the behaviour of the whole table (`flow_behaves_by`): it has the rule of
-- flow, so each call of flow and of the document keeps what is left by it (`rule`).
use Rattle.md_engine.specs.declared.state.Name.{Name as StateName}
use Rattle.md_engine.specs.declared.state.State.{State}
use Rattle.md_engine.specs.World.{World}
use Rattle.md_registry.specs.FlowRule.{HasFlow}
use Rattle.md_registry.specs.States.{flow_behaves_by}
use Rattle.md_flow.specs.LineRule.{IsFirstCall, IsLineCall, IsMet, IsMetFirst, IsOpen}
use Rattle.proof_frame.specs.Rule.{Rule}

-- of the first state of a construct
unfoldable pub FirstLine : StateName → World → State → World → Type 0
FirstLine name old answer new =
    (next : Rule) →
    IsFirstCall (flow_behaves_by old.setting.bytes old.setting.options next) name old answer new

-- where the leaves of a line are tried
unfoldable pub TriedLine : World → State → World → Type 0
TriedLine old answer new =
    (next : Rule) →
    HasFlow (flow_behaves_by old.setting.bytes old.setting.options next) old.setting.options next
    × IsLineCall (flow_behaves_by old.setting.bytes old.setting.options next) old answer new (IsMet old)

-- after the containers of a line
unfoldable pub OpenLine : World → State → World → Type 0
OpenLine old answer new =
    (next : Rule) →
    HasFlow (flow_behaves_by old.setting.bytes old.setting.options next) old.setting.options next
    × IsLineCall (flow_behaves_by old.setting.bytes old.setting.options next) old answer new (IsOpen old)

-- where a leaf is asked first whether the line continues it
unfoldable pub AskedLine : World → State → World → Type 0
AskedLine old answer new =
    (next : Rule) →
    HasFlow (flow_behaves_by old.setting.bytes old.setting.options next) old.setting.options next
    × IsLineCall (flow_behaves_by old.setting.bytes old.setting.options next) old answer new (IsMetFirst old)
