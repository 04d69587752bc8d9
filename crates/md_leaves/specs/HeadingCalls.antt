-- States of a heading that are called one after another.
use Rattle.std.specs.Prelude.{◌≡◌, ◌&&◌, not, Bool, ℕ, Option}
use Rattle.md_engine.specs.declared.state.Name.TheVariants as n
use Rattle.md_engine.specs.Run.{Step}
use Rattle.md_leaves.specs.Heading.{heading_transition, sees_text}
use Rattle.md_events.specs.Spaces.{is_current, white_transition}

-- whether text begins here that is no `#`
abbrev pub begins_text : Option ℕ → Bool
begins_text o = sees_text o && not (is_current 35 o)

-- what the states of a heading do, and those of whitespace
abbrev pub HeadingStep : Step
HeadingStep (n.HeadingAtx state) w to new =
    (to ≡ (heading_transition state w).to) × (new ≡ (heading_transition state w).world)
HeadingStep (n.SpaceOrTab state) w to new =
    (to ≡ (white_transition state w).to) × (new ≡ (white_transition state w).world)
HeadingStep name w to new = ⊥
