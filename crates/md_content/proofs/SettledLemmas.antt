-- The ends of lines are put where their chunks end, one event after another.
use Rattle.std.proofs.Common.{◌≡◌, ℕ, suc, ◌+◌, ◌<◌, ◌≤◌, Bool, true, false, ◌&&◌, cond, List, [], ◌∷◌, ◌++◌, length}
use Rattle.std.proofs.Common.{get_or, set, take, drop, refl, sym, ◌∙◌, ap, add-one, append_assoc, drop-cons, arith}
use Rattle.std.specs.Prelude.{nat_le}
use Rattle.std.proofs.lemmas.Bool.Decides.{nat_tests}
use Rattle.std.proofs.lemmas.List.{drop_all, drop-set-lt, take_more, take_more_set}
use Rattle.std.proofs.lemmas.List.Elements.{All-set}
use Rattle.md_engine.specs.declared.event.Event.{Event}
use Rattle.md_engine.specs.declared.event.Name.TheVariants as n
use Rattle.md_engine.specs.Place.{IsPlaced, first_point}
use Rattle.md_content.specs.ContentReads.{is_piece_end, settled}
use Rattle.md_events.specs.declared.inline.Chunk.{Chunk}
use Rattle.md_events.specs.Events.Nested.{exit}
use Rattle.md_events.specs.Parts.{AreChunks, ArePlaced}

-- the events before a place are settled, with so many of the chunks
pub record Settling (chunks : List Chunk) (all : List Event) (i k : ℕ) (events : List Event) : Type 0 where
  pub within : k ≤ length chunks
  pub placed : (bytes : List ℕ) → AreChunks bytes chunks → ArePlaced bytes all → ArePlaced bytes events
  pub settled : take i events ++ settled (drop k chunks) (drop i events) ≡ settled chunks all

-- an event that ends no piece is kept
pub settled-other : (chunks : List Chunk) (e : Event) (es : List Event) → is_piece_end e ≡ false →
    settled chunks (e ∷ es) ≡ e ∷ settled chunks es
settled-other [] e [] h = refl
settled-other [] e (f ∷ es) h = refl
settled-other (chunk ∷ chunks) e es h = rw h refl

-- so is one that ends a piece within the line
pub settled-within : (chunk : Chunk) (chunks : List Chunk) (e : Event) (es : List Event) →
    e.point.index < chunk.after.index →
    settled (chunk ∷ chunks) (e ∷ es) ≡ e ∷ settled (chunk ∷ chunks) es
settled-within chunk chunks e es h =
    let no : nat_le chunk.after.index e.point.index ≡ false = grind (arith, nat_tests) in
    go (is_piece_end e) no
  where
    go : (x : Bool) → nat_le chunk.after.index e.point.index ≡ false →
        cond (x && nat_le chunk.after.index e.point.index) (record e { point = chunk.after } ∷ settled chunks es)
        (e ∷ settled (chunk ∷ chunks) es) ≡
        e ∷ settled (chunk ∷ chunks) es
    go true k = rw k refl
    go false k = refl

-- and the piece with which the line ends, ends where its chunk does
pub settled-end : (chunk : Chunk) (chunks : List Chunk) (e : Event) (es : List Event) → is_piece_end e ≡ true →
    chunk.after.index ≤ e.point.index →
    settled (chunk ∷ chunks) (e ∷ es) ≡ record e { point = chunk.after } ∷ settled chunks es
settled-end chunk chunks e es ends h =
    let yes : nat_le chunk.after.index e.point.index ≡ true = grind (arith, nat_tests) in rw (ends, yes) refl

-- where no chunk is left, all are
pub settled-none : (es : List Event) → settled [] es ≡ es
settled-none [] = refl
settled-none (e ∷ es) = refl

-- one more event that is kept
kept : (chunks : List Chunk) (all events : List Event) (i k : ℕ) (d : Event) → i < length events →
    ((es : List Event) →
    settled (drop k chunks) (get_or events i d ∷ es) ≡ get_or events i d ∷ settled (drop k chunks) es) →
    Settling chunks all i k events → Settling chunks all (i + 1) k events
kept chunks all events i k d lt h so_far = record {
  within = so_far.within;
  placed = so_far.placed;
  settled = ap (λ (l : List Event). l ++ settled (drop k chunks) (drop (i + 1) events)) (take_more events i d lt)
      ∙ append_assoc (take i events) (get_or events i d ∷ []) (settled (drop k chunks) (drop (i + 1) events))
      ∙ ap (λ (j : ℕ). take i events ++ get_or events i d ∷ settled (drop k chunks) (drop j events)) (add-one i)
      ∙ ap (λ (l : List Event). take i events ++ l)
      (sym (h (drop (suc i) events)) ∙ ap (settled (drop k chunks)) (sym (drop-cons events i d lt)))
      ∙ so_far.settled;
}

pub settle-other : (chunks : List Chunk) (all events : List Event) (i k : ℕ) (d : Event) → i < length events →
    is_piece_end (get_or events i d) ≡ false → Settling chunks all i k events → Settling chunks all (i + 1) k events
settle-other chunks all events i k d lt h so_far =
    kept chunks all events i k d lt (λ es. settled-other (drop k chunks) (get_or events i d) es h) so_far

pub settle-within : (chunks : List Chunk) (all events : List Event) (i k : ℕ) (d : Event) (c : Chunk) →
    i < length events → k < length chunks → (get_or events i d).point.index < (get_or chunks k c).after.index →
    Settling chunks all i k events → Settling chunks all (i + 1) k events
settle-within chunks all events i k d c lt more h so_far =
    kept chunks all events i k d lt
    (λ es.
    rw (drop-cons chunks k c more)
    (settled-within (get_or chunks k c) (drop (suc k) chunks) (get_or events i d) es h))
    so_far

pub settle-none : (chunks : List Chunk) (all events : List Event) (i k : ℕ) → i < length events → length chunks ≤ k →
    Settling chunks all i k events → Settling chunks all (i + 1) k events
settle-none chunks all events i k lt le so_far =
    let d : Event = exit n.Data first_point in
    let none : drop k chunks ≡ [] = drop_all k chunks le in
    kept chunks all events i k d lt
    (λ es.
    rw none
    (settled-none (get_or events i d ∷ es) ∙ ap (λ (l : List Event). get_or events i d ∷ l) (sym (settled-none es))))
    so_far

-- one more event, the end of a line
pub settle-end : (chunks : List Chunk) (all events : List Event) (i k : ℕ) (d : Event) (c : Chunk) → i < length events →
    k < length chunks → is_piece_end (get_or events i d) ≡ true →
    (get_or chunks k c).after.index ≤ (get_or events i d).point.index →
    Settling chunks all i k events →
    Settling chunks all (i + 1) (k + 1)
    (set events i (record (get_or events i d) { point = (get_or chunks k c).after }))
settle-end chunks all events i k d c lt more h past so_far =
    let e : Event = record (get_or events i d) { point = (get_or chunks k c).after } in
    let rest = drop (suc i) events in
    let first : settled (drop k chunks) (drop i events) ≡ e ∷ settled (drop (suc k) chunks) rest =
    ap (settled (drop k chunks)) (drop-cons events i d lt)
    ∙ ap (λ (l : List Chunk). settled l (get_or events i d ∷ rest)) (drop-cons chunks k c more)
    ∙ settled-end (get_or chunks k c) (drop (suc k) chunks) (get_or events i d) rest h past in
    record {
      within = omega arith;
      placed =
          λ bytes are h. All-set (λ (x : Event). IsPlaced bytes x.point) events i e (are.each k c more).after
          (so_far.placed bytes are h);
      settled =
          ap (λ (l : List Event). l ++ settled (drop (k + 1) chunks) (drop (i + 1) (set events i e)))
          (take_more_set events i e lt)
          ∙ append_assoc (take i events) (e ∷ []) (settled (drop (k + 1) chunks) (drop (i + 1) (set events i e)))
          ∙ ap (λ (l : List Event). take i events ++ e ∷ settled (drop (k + 1) chunks) l)
          (drop-set-lt (i + 1) events i e (omega arith))
          ∙ ap (λ (j : ℕ). take i events ++ e ∷ settled (drop (k + 1) chunks) (drop j events)) (add-one i)
          ∙ ap (λ (j : ℕ). take i events ++ e ∷ settled (drop j chunks) rest) (add-one k)
          ∙ ap (λ (l : List Event). take i events ++ l) (sym first)
          ∙ so_far.settled;
    }
