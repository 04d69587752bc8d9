-- What a whole run of content becomes, as a function of the text.
use Rattle.std.proofs.Common.{◌≡◌, ◌^◌, ◌<◌, ◌≤◌, ℕ, Bool, false, true, [], refl, sym, ◌∙◌, arith}
use Rattle.md_engine.specs.declared.state.State.{State}
use Rattle.md_engine.specs.declared.state.State.TheVariants.{Error, Ok, Nok, Next, Retry}
use Rattle.md_engine.specs.Found.{Found}
use Rattle.md_engine.specs.Meaning.{Accepts, Here, whole_outcome, proceeds, here}
use Rattle.md_engine.specs.Run.{Flushes, IsEnd, Resolution, Runs, plain}
use Rattle.md_engine.specs.Scheme.{valid}
use Rattle.md_engine.specs.TextFeed.{text_feed}
use Rattle.md_engine.specs.World.{World, reads_to}
use Rattle.md_engine.proofs.Situation.{runs-mean}
use Rattle.md_engine.proofs.TextFeed.{flush-means, text-follows}
use Rattle.md_content.specs.States.{ContentStep, content_behaves, content_scheme}
use Rattle.md_content.proofs.States.{content_table_means, content_keeps_valid}

-- a push keeps what a tokenizer becomes, with the text up to where it will be read in all, and is
pub content_push : (s s' : State) (w w' : World) (limit total : ℕ) → total < 2 ^ 61 → limit ≤ total →
    valid content_scheme (reads_to w limit) (plain s) →
    Runs ContentStep false s (reads_to w limit) s' w' →
    (whole_outcome (content_behaves w.setting.options) (text_feed (reads_to w total).setting) s w ≡
    whole_outcome (content_behaves w.setting.options) (text_feed (reads_to w total).setting) s' w') ×
    valid content_scheme w' (plain s')
content_push s s' w w' limit total small le at run =
    runs-mean ContentStep content_scheme (content_behaves w.setting.options) false
    (text_feed (reads_to w total).setting) s (reads_to w limit)
    (content_table_means (reads_to w limit).setting false) content_keeps_valid
    (text-follows (reads_to w total).setting limit false small le (λ e. cc)) at s' w' run

-- a flush reaches where the tokenizer ends
pub content_flush : (R : Resolution) (s : State) (w : World) (resolve : Bool) (found : Found) (new : World) →
    w.setting.limit < 2 ^ 61 → valid content_scheme w (plain s) →
    (f : Flushes ContentStep R s w resolve found new) →
    whole_outcome (content_behaves w.setting.options) (text_feed w.setting) s w ≡
    proceeds (content_behaves w.setting.options) f.end (text_feed w.setting f.at.point) (here f.at)
content_flush R s w resolve found new small at f =
    flush-means ContentStep R content_scheme (content_behaves w.setting.options)
    (text_feed w.setting) s w resolve found new (content_table_means w.setting true) content_keeps_valid
    (text-follows w.setting w.setting.limit true small (omega arith) (λ e. refl)) at f

-- one that accepts ends with these events
pub content_outcome : (R : Resolution) (s : State) (w : World) (resolve : Bool) (found : Found) (new : World)
    (h : Here) →
    w.setting.limit < 2 ^ 61 → valid content_scheme w (plain s) →
    whole_outcome (content_behaves w.setting.options) (text_feed w.setting) s w ≡ Accepts h [] →
    (f : Flushes ContentStep R s w resolve found new) → h ≡ here f.at
content_outcome R s w resolve found new h small at is f =
    go f.end f.ends (sym is ∙ content_flush R s w resolve found new small at f)
  where
    go : (e : State) → IsEnd e →
        Accepts h [] ≡ proceeds (content_behaves w.setting.options) e (text_feed w.setting f.at.point) (here f.at) →
        h ≡ here f.at
    go Ok t k = cc
    go Nok t k = cc
    go Error t k = absurd t
    go (Next name) t k = absurd t
    go (Retry name) t k = absurd t
