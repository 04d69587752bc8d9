-- The content of its text is all that a part becomes.
use Rattle.std.proofs.Common.{◌≡◌, List, [], ap, ◌∙◌, refl}
use Rattle.md_engine.specs.declared.configuration.ParseOptions.{ParseOptions}
use Rattle.md_engine.specs.declared.state.State.TheVariants.{Next}
use Rattle.md_engine.specs.declared.tokenizer.Frame.{Frame}
use Rattle.md_engine.specs.Meaning.{Accepts, Cell, Feed, Here, whole_outcome, proceeds, here, resume_all}
use Rattle.md_engine.specs.World.{World}
use Rattle.md_content.specs.ContentRule.{content_over}
use Rattle.md_content.specs.DefinitionsRule.{content_at}
use Rattle.md_content.specs.States.{content_behaves, content_start}
use Rattle.md_events.specs.Ahead.{point_after}

-- what follows it
abbrev pub over : ParseOptions → List Cell → World → Here
over options cells w = record (here w) {
  events = content_over options cells w.point;
  point =
      point_after cells w.point;
}

pub part-becomes-to : (options : ParseOptions) (feed : Feed) (w : World) → w.frames ≡ [] → w.events ≡ [] →
    whole_outcome (content_behaves options) feed (Next content_start) w ≡ Accepts (over options (feed w.point) w) []
unfolding content_at
part-becomes-to options feed w f e =
    ap
    (λ (x : List Frame).
    resume_all (content_behaves options) feed w.events x
    (proceeds (content_behaves options) (Next content_start) (feed w.point) (here w))) f
    ∙ rw e refl
