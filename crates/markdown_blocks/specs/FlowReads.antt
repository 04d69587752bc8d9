-- What flow has read of a text: its lines, then its content, and after that what the resolvers set, in their order.
-- Each step is total: where nothing is its own, it changes nothing.
use Rattle.std.specs.Prelude.{◌≡◌, ◌⊎◌, ℕ, Bool, false, ◌||◌, List, [], ◌∷◌}
use Rattle.md_engine.specs.declared.configuration.ParseOptions.{ParseOptions}
use Rattle.md_engine.specs.declared.event.Event.{Event}
use Rattle.md_engine.specs.declared.event.Point.{Point}
use Rattle.md_engine.specs.declared.state.State.{State}
use Rattle.md_engine.specs.Found.{Found, nothing}
use Rattle.md_engine.specs.World.{World}
use Rattle.md_containers.specs.Listed.{listed}
use Rattle.md_content.specs.ContentNests.{ContentNests}
use Rattle.md_content.specs.ContentReads.{content_readings, wants_content}
use Rattle.md_content.specs.Joined.{joined}
use Rattle.md_content.specs.Labels.{labels_in}
use Rattle.md_content.specs.Resolves.{found_in_content}
use Rattle.md_leaves.specs.HeadingText.{headings_resolved}
use Rattle.md_leaves.specs.Turned.{turned}
use Rattle.md_order.specs.Alone.{MayPass}
use Rattle.md_order.specs.InOrder.{every}
use Rattle.md_order.specs.Nests.{MayNest}
use Rattle.md_tables.specs.Tabled.{tabled}
use Rattle.md_events.specs.Substituted.{Substituted}
use Rattle.md_flow.specs.Nests.{TextsNest}
use Rattle.markdown_blocks.specs.Fed.{FlowRan}
use Rattle.markdown_blocks.specs.TextMet.{TextsMet}
use Rattle.proof_leaf_laws.specs.Headed.{heads_read}
use Rattle.proof_frame.specs.Row.{Row}
use Rattle.proof_rows.specs.Rows.{is_text, rows_events}
use Rattle.proof_rows.specs.TextRows.{text_rows, text_setting}
use Rattle.md_registry.specs.Resolving.{lines_joined}

-- whether a line is content
abbrev pub has_text : List Row → Bool
has_text [] = false
has_text (row ∷ rows) = is_text row.kind || has_text rows

-- flow has read the lines of a text from a point to its end
abbrev pub IsFlowRead : Point → World → Type 0
IsFlowRead p w = w.events ≡ rows_events (text_rows w.setting.options w.setting.bytes p)

-- flow has read a text from a point to its end, and then its content was read and its blocks were set
pub record FlowReads (bytes : List ℕ) (options : ParseOptions) (p : Point) (found : Found) (new : World) : Type 0 where
  -- its states have become this, with the events of the lines
  pub end : State
  pub ended : World
  pub ran : FlowRan bytes options p end ended
  pub events : ended.events ≡ rows_events (text_rows options bytes p)
  -- lines of text that are heads are read again, then content is read,
  pub content : List Event
  pub content_read : Substituted wants_content (content_readings bytes options) [] 0
      (joined (heads_read options bytes (rows_events (text_rows options bytes p)))) content
  -- which nests where the lines did,
  pub texts_nest : TextsNest bytes options (rows_events (text_rows options bytes p))
  pub content_nests : ContentNests bytes options (heads_read options bytes (rows_events (text_rows options bytes p)))
  -- and where the first states of definitions and paragraphs are called before lines that are left of a text
  pub texts_met : TextsMet options bytes
  -- of which leaf blocks hold no block, once the lines of each leaf of several are joined: so one pass may set all
  pub may_pass : MayPass every (lines_joined options content)
  -- and each resolver gets what fits it: where this nests, so does what they make of it
  pub may_nest : MayNest every bytes (lines_joined options content)
  -- then these lines are joined, and lists are put around items, headings get their texts, and
  -- tables their cells
  pub events_are : new.events ≡ tabled (turned (headings_resolved (listed bytes (lines_joined options content))))
  -- all else stays
  pub rest : new ≡ record ended { events = new.events }
  pub setting : new.setting ≡ text_setting bytes options p
  pub frames : new.frames ≡ []
  -- reading content alone says what it has found, and content is read if a line is text
  pub found_is : ((has_text (text_rows options bytes p) ≡ false) × (found ≡ nothing)) ⊎
      (found ≡ found_in_content bytes content)
  -- it finds the labels of the definitions there, and none of footnotes
  pub definitions : found.definitions ≡ labels_in bytes content
  pub footnotes : found.footnotes ≡ []
