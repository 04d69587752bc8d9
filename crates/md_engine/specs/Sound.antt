-- What each tokenizer keeps.
use Rattle.std.specs.Prelude.{ℕ, ◌≤◌, List, length}
use Rattle.std.specs.List.{All, AllPairs}
use Rattle.md_engine.specs.declared.event.Event.{Event}
use Rattle.md_engine.specs.declared.event.Point.{Point}
use Rattle.md_engine.specs.declared.tokenizer.Frame.{Frame}
use Rattle.md_engine.specs.Place.{IsPlaced}

-- what an attempt saved lies in the text and among the events
pub record IsSaved (bytes : List ℕ) (events : ℕ) (f : Frame) : Type 0 where
  pub placed : IsPlaced bytes f.point
  pub within : f.events_len ≤ events

-- the point, all events, what attempts go back to, and where lines begin are places of the text; what may be read lies
-- in the text; an inner attempt goes back to no fewer events than an outer one (the innermost is last)
pub record IsSound (bytes : List ℕ) (point : Point) (limit : ℕ) (events : List Event) (frames : List Frame)
    (skips : List Point) : Type 0 where
  pub placed : IsPlaced bytes point
  pub readable : limit ≤ length bytes
  pub right : All (λ e. IsPlaced bytes e.point) events
  pub saved : All (IsSaved bytes (length events)) frames
  pub nested : AllPairs (λ f g. f.events_len ≤ g.events_len) frames
  pub begun : All (IsPlaced bytes) skips
