-- Chunks that follow one another, and what was read of their part.
use Rattle.std.specs.Prelude.{◌≡◌, ◌<◌, ℕ, suc, Bool, true, false, List, [], ◌∷◌, ◌++◌, length, take, drop, Some}
use Rattle.std.specs.Option.{is_some}
use Rattle.md_engine.specs.declared.event.Content.{Content}
use Rattle.md_engine.specs.declared.event.Event.{Event}
use Rattle.md_events.specs.Substituted.{share, wanted}
use Rattle.md_events.specs.TextPart.{wants_text}

-- whether the first of some events begins a chunk of a text part
abbrev pub is_chunk_next : List Event → Bool
is_chunk_next [] = false
is_chunk_next (e ∷ es) = is_some (wanted wants_text e)

-- Of a part that has begun, so many chunks are left, and the next is ahead.
pub record IsFurther (chunks : ℕ) (events : List Event) : Type 0 where
  pub some : 0 < chunks
  pub two : 1 < length events
  pub begins : is_chunk_next events ≡ true

-- Of a part that has begun, these events are left, for so many chunks, and these events are ahead. Some chunks further on,
-- such events are in their places; and what is left is this.
pub data InPlace : List Event → ℕ → List Event → List Event → List Event → ℕ → List Event → Type 0 where
  Nothing : {left rest : List Event} {chunks : ℕ} → InPlace left chunks rest [] left chunks rest
  Placed : {left rest out now : List Event} {chunks more : ℕ} {e f : Event} {es : List Event} {content : Content} →
      InPlace left chunks rest out now (suc more) (e ∷ f ∷ es) → wanted wants_text e ≡ Some content →
      InPlace left chunks rest (out ++ take (share more now f.point.index) now) (drop (share more now f.point.index) now)
      more es
