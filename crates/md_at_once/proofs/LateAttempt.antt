-- An attempt at what has begun before.
use Rattle.std.proofs.Common.{◌≡◌, ℕ, ◌≤◌, List, [], ◌∷◌, ◌++◌, arith, length, refl, reverse, subst, take}
use Rattle.std.specs.List.{All}
use Rattle.std.proofs.lemmas.List.{length-take, reverse-reverse}
use Rattle.md_engine.specs.declared.event.Event.{Event}
use Rattle.md_engine.specs.declared.event.Point.{Point}
use Rattle.md_engine.specs.declared.tokenizer.Frame.{Frame}
use Rattle.md_engine.specs.Place.{IsPlaced}
use Rattle.md_engine.specs.Sound.{IsSound}
use Rattle.md_engine.proofs.Sound.{All-reverse, sound-begun, sound-restored}

-- what holds of all attempts from the inner to the outer holds of them from the outer to the inner
all-turned : (P : Frame → Type 0) (frames : List Frame) → All P (reverse frames) → All P frames
all-turned P frames h = subst (All P) (reverse-reverse frames) (All-reverse P (reverse frames) h)

-- it goes back to no fewer events than those around it
pub sound-late : (bytes : List ℕ) (p : Point) (limit : ℕ) (events : List Event) (f : Frame) (frames : List Frame)
    (skips : List Point) →
    IsSound bytes p limit events frames skips → IsPlaced bytes f.point → f.events_len ≤ length events →
    All (λ (g : Frame). g.events_len ≤ f.events_len) (reverse frames) →
    IsSound bytes p limit events (frames ++ f ∷ []) skips
sound-late bytes p limit events f frames skips h placed len outer =
    let all : f.events_len ≡ length (take f.events_len events) = rw length-take (omega (arith, len)) in
    let before = sound-begun bytes f.point limit (take f.events_len events) f frames skips
    (sound-restored bytes p f.point limit f.events_len events frames skips h placed
    (all-turned (λ (g : Frame). g.events_len ≤ f.events_len) frames outer)) refl all in
    record {
      placed = h.placed;
      readable = h.readable;
      right = h.right;
      saved = λ i d lt. record {
        placed = (before.saved i d lt).placed;
        within =
            let le = (before.saved i d lt).within in
            omega (arith, le, all, len);
      };
      nested = before.nested;
      begun = h.begun;
    }
