-- What a whole run of flow becomes, as a function of the text.
use Rattle.std.proofs.Common.{◌≡◌, ◌^◌, ◌<◌, ◌≤◌, ℕ, Bool, false, true, refl, sym, ◌∙◌, ap, arith, subst, List, []}
use Rattle.md_engine.specs.declared.state.State.{State}
use Rattle.md_engine.specs.declared.state.State.TheVariants.{Error, Ok, Nok, Next, Retry}
use Rattle.md_engine.specs.Found.{Found}
use Rattle.md_engine.specs.Meaning.{Accepts, Cell, Here, Outcome, whole_outcome, proceeds, here}
use Rattle.md_engine.specs.Run.{Flushes, IsEnd, Resolution, Runs, plain}
use Rattle.md_engine.specs.Scheme.{valid}
use Rattle.md_engine.specs.TextFeed.{text_feed}
use Rattle.md_engine.specs.World.{World, reads_to}
use Rattle.md_engine.proofs.Situation.{runs-mean}
use Rattle.md_engine.proofs.TextFeed.{flush-means, text-follows}
use Rattle.md_registry.specs.FlowRule.{flow_at}
use Rattle.md_registry.specs.States.{FlowStep, flow_behaves, flow_table_scheme}
use Rattle.proof_rows.proofs.FlowEnds.{Finishes, flow_finishes}
use Rattle.markdown_blocks.proofs.FlowMeans.{flow_table_means, flow_keeps_valid}

-- a push keeps what a tokenizer becomes, with the text up to where it will be read in all, and is
pub flow_push : (s s' : State) (w w' : World) (limit total : ℕ) →
    total < 2 ^ 61 → limit ≤ total → valid flow_table_scheme (reads_to w limit) (plain s) →
    Runs FlowStep false s (reads_to w limit) s' w' →
    (whole_outcome (flow_behaves w.setting.bytes w.setting.options) (text_feed (reads_to w total).setting) s w ≡
    whole_outcome (flow_behaves w.setting.bytes w.setting.options) (text_feed (reads_to w total).setting) s' w') ×
    valid flow_table_scheme w' (plain s')
flow_push s s' w w' limit total small le at run =
    runs-mean FlowStep flow_table_scheme (flow_behaves w.setting.bytes w.setting.options) false
    (text_feed (reads_to w total).setting) s (reads_to w limit) (flow_table_means (reads_to w limit).setting false)
    flow_keeps_valid
    (text-follows (reads_to w total).setting limit false small le (λ e. cc)) at s' w' run

-- a flush reaches where the tokenizer ends
pub flow_flush : (R : Resolution) (s : State) (w : World) (resolve : Bool)
    (found : Found) (new : World) →
    w.setting.limit < 2 ^ 61 → valid flow_table_scheme w (plain s) →
    (f : Flushes FlowStep R s w resolve found new) →
    whole_outcome (flow_behaves w.setting.bytes w.setting.options) (text_feed w.setting) s w ≡
    proceeds (flow_behaves w.setting.bytes w.setting.options) f.end (text_feed w.setting f.at.point) (here f.at)
flow_flush R s w resolve found new small at f =
    flush-means FlowStep R flow_table_scheme (flow_behaves w.setting.bytes w.setting.options)
    (text_feed w.setting) s w resolve found new (flow_table_means w.setting true) flow_keeps_valid
    (text-follows w.setting w.setting.limit true small (omega arith) (λ e. refl)) at f

-- a tokenizer that becomes what flow means of some cells ends with all of them taken, and with its events
pub flow_outcome : (R : Resolution) (s : State) (w : World)
    (resolve : Bool) (found : Found) (new : World) (cells : List Cell) (h : Here) →
    w.setting.limit < 2 ^ 61 → valid flow_table_scheme w (plain s) →
    whole_outcome (flow_behaves w.setting.bytes w.setting.options) (text_feed w.setting) s w ≡
    flow_at w.setting.options cells h →
    (f : Flushes FlowStep R s w resolve found new) →
    flow_at w.setting.options cells h ≡ Accepts (here f.at) []
flow_outcome R s w resolve found new cells h small at is f =
    go f.end f.ends (sym is ∙ flow_flush R s w resolve found new small at f)
  where
    ends : Finishes (flow_at w.setting.options cells h)
    ends = flow_finishes w.setting.options cells h

    P : Outcome → Type 0
    P o = Finishes o

    go : (e : State) → IsEnd e →
        flow_at w.setting.options cells h ≡
        proceeds (flow_behaves w.setting.bytes w.setting.options) e (text_feed w.setting f.at.point) (here f.at) →
        flow_at w.setting.options cells h ≡ Accepts (here f.at) []
    go Ok t k = k ∙ ap (Accepts (here f.at)) (subst P k ends)
    go Nok t k = absurd (subst P k ends)
    go Error t k = absurd t
    go (Next name) t k = absurd t
    go (Retry name) t k = absurd t
