-- What is left of a document at each state of its table: the mark and the frontmatter, if they are there.
use Rattle.std.specs.Prelude.{List}
use Rattle.md_engine.specs.declared.configuration.ParseOptions.{ParseOptions}
use Rattle.md_engine.specs.declared.state.Name.TheVariants as s
use Rattle.md_engine.specs.declared.state.document.State.{State as DocumentState}
use Rattle.md_engine.specs.declared.state.document.State.TheVariants as document
use Rattle.md_engine.specs.Meaning.{Accepts, Behaviour, Cell, Here, Outcome, Refuses}
use Rattle.md_containers.specs.FrontmatterRule.{front_at, front_behaves}
use Rattle.md_leaves.specs.BomRule.{bom_at, bom_behaves}
use Rattle.md_events.specs.Ahead.{white_behaves}
use Rattle.proof_frame.specs.Rule.{tried}

-- after the frontmatter, or where it would begin if there is none
abbrev pub after_front : ParseOptions → List Cell → Here → Outcome
after_front options cells h =
    tried (front_at options cells h) (λ rest k. Accepts k rest)
    (λ s g. Accepts (record h { scratch = s; flags = g }) cells)

-- after the mark, or at the start if there is none
abbrev pub document_at : ParseOptions → List Cell → Here → Outcome
document_at options cells h =
    tried (bom_at cells h) (λ rest k. after_front options rest k)
    (λ s g. after_front options cells (record h { scratch = s; flags = g }))

-- before the lines
abbrev pub own_behaves : ParseOptions → DocumentState → List Cell → Here → Outcome
own_behaves options document.Start cells h = document_at options cells h
own_behaves options document.BeforeFrontmatter cells h = after_front options cells h
own_behaves options _ cells h = Refuses h.scratch h.flags

abbrev pub document_behaves : ParseOptions → Behaviour
document_behaves options (s.Bom state) cells h = bom_behaves state cells h
document_behaves options (s.Frontmatter state) cells h = front_behaves options state cells h
document_behaves options (s.SpaceOrTab state) cells h = white_behaves state cells h
document_behaves options (s.Document state) cells h = own_behaves options state cells h
document_behaves options _ cells h = Refuses h.scratch h.flags
