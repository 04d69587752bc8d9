-- What is in the place of each chunk of a part, cut out of what was read for the whole part.
use Rattle.std.proofs.Common.{◌≡◌, ℕ, suc, ◌+◌, ◌<◌, Bool, true, cond, List, [], ◌∷◌, ◌++◌, length, take, drop}
use Rattle.std.proofs.Common.{ap, ◌∙◌, arith}
use Rattle.std.specs.List.{list_all, prefix_len}
use Rattle.std.proofs.lemmas.Bool.{and_parts}
use Rattle.std.proofs.Math.Seq.{drop-append_seam, take-append_seam}
use Rattle.std.proofs.lemmas.List.{append-nil, take-append-drop, take_all}
use Rattle.md_engine.specs.declared.event.Event.{Event}
use Rattle.md_events.specs.declared.inline.Chunk.{Chunk}
use Rattle.md_events.specs.Events.Inline.{cut_at, together}
use Rattle.md_events.specs.Substituted.{belongs, share}

-- All that was read is in the places of the chunks.
pub cut-together : (chunks : List Chunk) (events : List Event) → 0 < length chunks →
    together (cut_at chunks events) ≡ events
cut-together [] events some = absurd (omega arith)
cut-together (chunk ∷ []) events some =
    append-nil (take (length events) events) ∙ take_all (length events) events (omega arith)
cut-together (chunk ∷ next ∷ chunks) events some =
    let many : ℕ = share (suc (length chunks)) events chunk.after.index in
    ap (λ (l : List Event). take many events ++ l) (cut-together (next ∷ chunks) (drop many events) (omega arith))
    ∙ take-append-drop many events

-- the events that pass are those in front, where the next one fails
passing-front : (test : Event → Bool) (front following : List Event) → list_all test front ≡ true →
    prefix_len test following ≡ 0 → prefix_len test (front ++ following) ≡ length front
passing-front test [] following all none = none
passing-front test (e ∷ front) following all none =
    let both : (test e ≡ true) × (list_all test front ≡ true) = and_parts (test e) (list_all test front) all in
    ap (λ (x : Bool). cond x (1 + prefix_len test (front ++ following)) 0) both.0
    ∙ ap (λ (n : ℕ). 1 + n) (passing-front test front following both.1 none) ∙ omega arith

-- what belongs to a chunk is cut off, where what follows it does not
pub cut-front : (chunk next : Chunk) (chunks : List Chunk) (front following : List Event) →
    list_all (belongs chunk.after.index) front ≡ true → prefix_len (belongs chunk.after.index) following ≡ 0 →
    cut_at (chunk ∷ next ∷ chunks) (front ++ following) ≡ front ∷ cut_at (next ∷ chunks) following
cut-front chunk next chunks front following all none =
    ap (λ (n : ℕ). take n (front ++ following) ∷ cut_at (next ∷ chunks) (drop n (front ++ following)))
    (passing-front (belongs chunk.after.index) front following all none)
    ∙ ap (λ (l : List Event). l ∷ cut_at (next ∷ chunks) (drop (length front) (front ++ following)))
    (take-append_seam front following)
    ∙ ap (λ (l : List Event). front ∷ cut_at (next ∷ chunks) l) (drop-append_seam front following)

-- the last chunk has all that is left
pub cut-last : (chunk : Chunk) (events : List Event) → cut_at (chunk ∷ []) (events ++ []) ≡ events ∷ []
cut-last chunk events =
    ap (λ (l : List Event). take (length l) l ∷ []) (append-nil events)
    ∙ ap (λ (l : List Event). l ∷ []) (take_all (length events) events (omega arith))
