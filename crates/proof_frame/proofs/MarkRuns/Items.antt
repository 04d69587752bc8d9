-- Runs of one marker and of whitespace hold no item, and after them is open what was before.
use Rattle.std.proofs.Common.{◌≡◌, ℕ, false, List, [], ◌∷◌, ◌++◌, None, refl}
use Rattle.std.specs.Prelude.{◌==◌}
use Rattle.md_engine.specs.declared.event.Event.{Event}
use Rattle.md_engine.specs.declared.event.Name.{Name}
use Rattle.md_engine.specs.declared.event.Name.TheVariants as n
use Rattle.md_engine.specs.declared.event.Point.{Point}
use Rattle.md_containers.specs.Listed.{is_item}
use Rattle.md_events.specs.Events.Nested.{around}
use Rattle.md_events.specs.Events.Places.{past_byte}
use Rattle.md_events.specs.Events.Spelled.{role}
use Rattle.proof_frame.specs.MarkRuns.{Apart, Marks, Run, White, mark_runs}
use Rattle.proof_frame.proofs.NestFacts.{HeldIn, KeepsItems, OfPart, items-around, items-part}
use Rattle.proof_frame.proofs.SpanLemmas.{either}

-- what is open within a run
abbrev opened : Name → Run → List Name
opened name Apart = []
opened name Marks = name ∷ []
opened name White = n.SpaceOrTab ∷ []

runs-part : (X : List Name → List Event → Type 0) (name : Name) → OfPart X name → OfPart X n.SpaceOrTab → (run : Run)
    (m : ℕ) (bs : List ℕ) (p : Point) (rest : List Event) → X [] rest →
    X (opened name run) (mark_runs name run m bs p ++ rest)
runs-part X name mark space Apart m [] p rest h = h
runs-part X name mark space Marks m [] p rest h = mark.ends p rest h
runs-part X name mark space White m [] p rest h = space.ends p rest h
runs-part X name mark space Apart m (b ∷ bs) p rest h =
    either (λ (es : List Event). X [] (es ++ rest)) (b == m) _ _
    (mark.begins p None _ (runs-part X name mark space Marks m bs (past_byte b p) rest h))
    (space.begins p None _ (runs-part X name mark space White m bs (past_byte b p) rest h))
runs-part X name mark space Marks m (b ∷ bs) p rest h =
    either (λ (es : List Event). X (name ∷ []) (es ++ rest)) (b == m) _ _
    (runs-part X name mark space Marks m bs (past_byte b p) rest h)
    (mark.ends p _ (space.begins p None _ (runs-part X name mark space White m bs (past_byte b p) rest h)))
runs-part X name mark space White m (b ∷ bs) p rest h =
    either (λ (es : List Event). X (n.SpaceOrTab ∷ []) (es ++ rest)) (b == m) _ _
    (space.ends p _ (mark.begins p None _ (runs-part X name mark space Marks m bs (past_byte b p) rest h)))
    (runs-part X name mark space White m bs (past_byte b p) rest h)

-- a line that they fill
pub line-items : (name marks : Name) → is_item (role name) ≡ false → is_item (role marks) ≡ false → (m : ℕ)
    (bs : List ℕ) (p q : Point) → KeepsItems (around name p q (mark_runs marks Apart m bs p))
line-items name marks none no_mark m bs p q =
    items-around name p q (mark_runs marks Apart m bs p) none
    (λ names rest h.
    runs-part (HeldIn names) marks (items-part names marks no_mark) (items-part names n.SpaceOrTab refl) Apart m bs p
    rest h)
