-- One chunk more: what is read of a part, and its events.
use Rattle.std.proofs.Common.{◌≡◌, ◌⊎◌, inl, inr, ℕ, Bool, true, List, [], ◌∷◌, ◌++◌, length, take, drop}
use Rattle.std.proofs.Common.{ap, sym, ◌∙◌, subst, append_assoc}
use Rattle.std.specs.List.{All}
use Rattle.std.proofs.lemmas.List.Elements.{All-head, All-tail}
use Rattle.md_engine.specs.declared.event.Event.{Event}
use Rattle.md_engine.specs.declared.event.Name.{Name}
use Rattle.md_events.specs.declared.inline.Chunk.{Chunk}
use Rattle.md_events.specs.Events.Inline.{together}
use Rattle.md_inline_events.specs.declared.text.PartText.{PartText}
use Rattle.md_inline_events.specs.declared.text.PartText.TheVariants.{Lent, Copied}
use Rattle.md_inline_events.specs.Marks.{Mark, last_name}
use Rattle.md_inline_events.specs.Room.{IsStretch}
use Rattle.md_inline_events.specs.SidesOf.{IsNextOf, IsReadOf, IsSideOf}
use Rattle.md_inline_events.specs.Woven.{Sides, as_feed, chunks_events, next_side, read_chunks, read_side, side_events}

-- the next chunk and those after it are pieces of the text
pub next-stretch : (bytes : List ℕ) (rest : List Chunk) (chunk : Chunk) (following : List Chunk) →
    rest ≡ chunk ∷ following → All (IsStretch bytes) rest → IsStretch bytes chunk × All (IsStretch bytes) following
next-stretch bytes rest chunk following is each =
    let all : All (IsStretch bytes) (chunk ∷ following) = subst (λ (l : List Chunk). All (IsStretch bytes) l) is each in (
      All-head (IsStretch bytes) chunk following all,
      All-tail (IsStretch bytes) chunk following all,
    )

pub read-step : (bytes : List ℕ) (starts ends : Bool) (chunk : Chunk) (following rest : List Chunk)
    (text ending old new total : List ℕ) → rest ≡ chunk ∷ following →
    text ≡ (next_side bytes starts ends chunk following).text →
    ending ≡ (next_side bytes starts ends chunk following).ending → new ≡ old ++ (text ++ as_feed ending) →
    old ++ read_chunks bytes starts ends rest ≡ total →
    new ++ read_chunks bytes true ends following ≡ total
read-step bytes starts ends chunk following rest text ending old new total r t e n all =
    let side : Sides = next_side bytes starts ends chunk following in
    let later : List ℕ = read_chunks bytes true ends following in
    ap (λ (l : List ℕ). l ++ later) n
    ∙ ap (λ (l : List ℕ). (old ++ (l ++ as_feed ending)) ++ later) t
    ∙ ap (λ (l : List ℕ). (old ++ (side.text ++ as_feed l)) ++ later) e
    ∙ append_assoc old (read_side side) later
    ∙ ap (λ (l : List Chunk). old ++ read_chunks bytes starts ends l) (sym r)
    ∙ all

pub events-step : (bytes : List ℕ) (starts ends : Bool) (chunk : Chunk) (following rest : List Chunk) (side : Sides)
    (ms left : List Mark) (name next : Name) (old new total : List Event) → rest ≡ chunk ∷ following →
    side ≡ next_side bytes starts ends chunk following → new ≡ old ++ side_events chunk side ms name →
    left ≡ drop (length (read_side side)) ms → next ≡ last_name name (take (length (read_side side)) ms) →
    old ++ together (chunks_events bytes starts ends rest ms name) ≡ total →
    new ++ together (chunks_events bytes true ends following left next) ≡ total
events-step bytes starts ends chunk following rest side ms left name next old new total r s n l m all =
    let later : List Mark → Name → List Event =
    λ ms name. together (chunks_events bytes true ends following ms name) in
    let all_of : Sides → List Event =
    λ side. side_events chunk side ms name
    ++ later (drop (length (read_side side)) ms) (last_name name (take (length (read_side side)) ms)) in
    ap (λ (es : List Event). es ++ later left next) n
    ∙ ap (λ (k : List Mark). (old ++ side_events chunk side ms name) ++ later k next) l
    ∙ ap (λ (k : Name). (old ++ side_events chunk side ms name) ++ later (drop (length (read_side side)) ms) k) m
    ∙ append_assoc old (side_events chunk side ms name)
    (later (drop (length (read_side side)) ms) (last_name name (take (length (read_side side)) ms)))
    ∙ ap (λ (k : Sides). old ++ all_of k) s
    ∙ ap (λ (k : List Chunk). old ++ together (chunks_events bytes starts ends k ms name)) (sym r)
    ∙ all

-- what is read of the next chunk of a part, where it was read before of a part on one line
pub next-of : (bytes : List ℕ) (leaves_out starts : Bool) (chunks rest : List Chunk) (chunk : Chunk)
    (following : List Chunk) (text : PartText) → IsReadOf bytes leaves_out chunks text →
    ((one : Chunk) → chunks ≡ one ∷ [] → (rest ≡ []) ⊎ ((rest ≡ one ∷ []) × (starts ≡ leaves_out))) →
    rest ≡ chunk ∷ following → IsNextOf bytes starts leaves_out chunk following text
next-of bytes leaves_out starts chunks rest chunk following (Lent side) is alone r =
    elim (alone is.chunk is.alone) [
      | inl none ↦ let no : [] ≡ chunk ∷ following = sym none ∙ r in cc
      | inr first ↦
          let same : is.chunk ∷ [] ≡ chunk ∷ following = sym first.0 ∙ r in
          let item : is.chunk ≡ chunk = cc in
          let last : [] ≡ following = cc in
          subst (λ (s : Bool). IsSideOf bytes s leaves_out chunk following side) (sym first.1)
          (subst (λ (l : List Chunk). IsSideOf bytes leaves_out leaves_out chunk l side) last
          (subst (λ (k : Chunk). IsSideOf bytes leaves_out leaves_out k [] side) item is.is))
    ]
next-of bytes leaves_out starts chunks rest chunk following (Copied text) is alone r = tt

-- after the only chunk none follows
pub last-of : (rest : List Chunk) (one chunk : Chunk) (following : List Chunk) (starts leaves_out : Bool) →
    (rest ≡ []) ⊎ ((rest ≡ one ∷ []) × (starts ≡ leaves_out)) → rest ≡ chunk ∷ following → following ≡ []
last-of rest one chunk following starts leaves_out (inl none) r = let no : [] ≡ chunk ∷ following = sym none ∙ r in cc
last-of rest one chunk following starts leaves_out (inr first) r =
    let same : one ∷ [] ≡ chunk ∷ following = sym first.0 ∙ r in cc
