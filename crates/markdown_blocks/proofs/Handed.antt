-- Events that are handed over, some at a time.
use Rattle.std.proofs.Common.{◌≡◌, List, [], ◌∷◌, ◌++◌, length, append-nil, append_assoc, refl, ap, sym, ◌∙◌, subst, arith}
use Rattle.md_engine.specs.declared.event.Event.{Event}
use Rattle.md_events.specs.Events.Inline.{together}
use Rattle.markdown_blocks.specs.Taken.{AreTaken}

-- more are taken
pub taken-more : {S : Type 0} (takes : S → List Event → S → Type 0) (old now new : S) (parts : List (List Event))
    (part : List Event) →
    AreTaken takes old parts now → takes now part new → AreTaken takes old (parts ++ part ∷ []) new
taken-more takes old now new [] part is takes_it =
    (new, subst (λ s. takes s part new) is takes_it, refl)
taken-more takes old now new (first ∷ parts) part taken takes_it =
    (taken.0, taken.1, taken-more takes taken.0 now new parts part taken.2 takes_it)

pub together-more : (parts : List (List Event)) (part : List Event) →
    together (parts ++ part ∷ []) ≡ together parts ++ part
together-more [] part = append-nil part
together-more (first ∷ parts) part =
    ap (λ (l : List Event). first ++ l) (together-more parts part) ∙ sym (append_assoc first (together parts) part)

-- Who keeps all events in one list has all that were handed over.
pub all-events : {S : Type 0} (events_of : S → List Event) (old new : S) (parts : List (List Event)) →
    AreTaken (λ (s : S) (events : List Event) (t : S). events_of t ≡ events_of s ++ events) old parts new →
    events_of new ≡ events_of old ++ together parts
all-events events_of old new [] is = ap events_of is ∙ sym (append-nil (events_of old))
all-events events_of old new (part ∷ parts) taken =
    all-events events_of taken.0 new parts taken.2
    ∙ ap (λ (l : List Event). l ++ together parts) taken.1
    ∙ append_assoc (events_of old) part (together parts)

-- a list without items
pub none-left : (left : List Event) → length left ≡ 0 → left ≡ []
none-left [] none = refl
none-left (e ∷ left) none = absurd (omega arith)
