-- How a tokenizer stays sound where an attempt goes back to a place of the text that is not its point.
use Rattle.std.proofs.Common.{◌≡◌, ℕ, ◌+◌, List, [], ◌∷◌, ◌++◌, length, refl}
use Rattle.std.specs.Prelude.{slice_index}
use Rattle.md_engine.specs.declared.event.Event.{Event}
use Rattle.md_engine.specs.declared.event.Point.{Point}
use Rattle.md_engine.specs.declared.tokenizer.Frame.{Frame}
use Rattle.md_engine.specs.Place.{IsPlaced, next_point}
use Rattle.md_engine.specs.Sound.{IsSound}
use Rattle.md_engine.proofs.Sound.{sound-begun, sound-moved}

-- an attempt begins
pub sound-tried : (bytes : List ℕ) (p : Point) (limit : ℕ) (events : List Event) (f : Frame) (frames : List Frame)
    (skips : List Point) →
    IsSound bytes p limit events frames skips → IsPlaced bytes f.point → f.events_len ≡ length events →
    IsSound bytes p limit events (frames ++ f ∷ []) skips
sound-tried bytes p limit events f frames skips h k len =
    sound-moved bytes f.point p limit events (frames ++ f ∷ []) skips
    (sound-begun bytes f.point limit events f frames skips
    (sound-moved bytes p f.point limit events frames skips h k) refl
    len) h.placed

-- after a line feed the next line begins
abbrev pub after_feed : Point → Point
after_feed p = record { line = p.line + 1; column = 1; index = p.index + 1; vs = 0 }

pub feed-next : (bytes : List ℕ) (p : Point) → slice_index bytes p.index ≡ 10 → next_point bytes p ≡ after_feed p
feed-next bytes p e = rw e refl
