-- Where reading content keeps a nested list nested: what is put in the places of lines nests by itself.
use Rattle.std.specs.Prelude.{◌≡◌, ℕ, Bool, true, ◌||◌, IsTrue, List, [], ◌∷◌, ◌++◌}
use Rattle.std.specs.List.{list_all}
use Rattle.md_engine.specs.declared.configuration.ParseOptions.{ParseOptions}
use Rattle.md_engine.specs.declared.event.Event.{Event}
use Rattle.md_engine.specs.declared.event.Point.{Point}
use Rattle.md_content.specs.ContentReads.{content_readings, wants_content}
use Rattle.md_content.specs.Joined.{is_content, joined}
use Rattle.md_events.specs.Events.Inline.{is_line_ending}
use Rattle.md_events.specs.Events.Nested.{Balanced, Forward, last_point}
use Rattle.md_events.specs.Events.Places.{at_or_before}
use Rattle.md_events.specs.Events.Prefix.{is_prefix}
use Rattle.md_events.specs.Substituted.{Substituted}

-- Events that nest, from a point on and up to another.
pub record NestsTo (p q : Point) (es : List Event) : Type 0 where
  pub balanced : Balanced es
  pub forward : Forward p es
  pub ends : IsTrue (at_or_before (last_point p es) q)

-- whether an event is of lines of content: of one, of the ending between two, or of the prefixes before one
abbrev pub is_of_lines : Event → Bool
is_of_lines e = is_content e.name || is_line_ending e.name || is_prefix e.name

-- Events, and what is given for them: an event passes, or for lines of content, which nest, others are given that nest
-- too, from where the lines begin to where they end.
pub data IsGiven : List Event → List Event → Type 0 where
  Nothing : IsGiven [] []
  Passes : (e : Event) (es out : List Event) → IsGiven es out → IsGiven (e ∷ es) (e ∷ out)
  Reads : (e : Event) (lines given es out : List Event) → list_all is_of_lines (e ∷ lines) ≡ true →
      Balanced (e ∷ lines) → NestsTo e.point (last_point e.point lines) given → IsGiven es out →
      IsGiven (e ∷ lines ++ es) (given ++ out)

-- What is read of content is given so: what is put in the places of lines that follow one another nests by itself.
abbrev pub ContentNests : List ℕ → ParseOptions → List Event → Type 0
ContentNests bytes options events =
    (out : List Event) → Substituted wants_content (content_readings bytes options) [] 0 (joined events) out →
    IsGiven events out
