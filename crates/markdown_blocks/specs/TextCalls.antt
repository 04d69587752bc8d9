-- What calls of the first states of text leave, by the behaviours of the tables that they are in. These have the rules of
-- flow, and of definitions and paragraphs, so each call of a state there keeps what is left by them (`rule`).
use Rattle.md_engine.specs.declared.state.State.{State}
use Rattle.md_engine.specs.World.{World}
use Rattle.md_content.specs.DefinitionsRule.{HasDefinitions}
use Rattle.md_content.specs.States.{content_behaves}
use Rattle.md_registry.specs.FlowRule.{HasFlow}
use Rattle.md_registry.specs.States.{flow_behaves_by}
use Rattle.markdown_blocks.specs.TextRule.{IsChunkCall, IsDefinitionCall, IsParagraphCall}
use Rattle.proof_frame.specs.Rule.{Rule}

-- of a line of text
unfoldable pub ChunkLine : World → State → World → Type 0
ChunkLine old answer new =
    (next : Rule) →
    HasFlow (flow_behaves_by old.setting.bytes old.setting.options next) old.setting.options next
    × IsChunkCall (flow_behaves_by old.setting.bytes old.setting.options next) old answer new

-- of a definition
unfoldable pub DefinitionLines : World → State → World → Type 0
DefinitionLines old answer new =
    HasDefinitions (content_behaves old.setting.options) old.setting.options
    × IsDefinitionCall (content_behaves old.setting.options) old answer new

-- of a paragraph
unfoldable pub ParagraphLines : World → State → World → Type 0
ParagraphLines old answer new =
    HasDefinitions (content_behaves old.setting.options) old.setting.options
    × IsParagraphCall (content_behaves old.setting.options) old answer new
