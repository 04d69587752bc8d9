-- The tokens of a reference.
use Rattle.std.specs.Prelude.{ℕ, List, [], ◌∷◌}
use Rattle.md_engine.specs.declared.event.Name.TheVariants as n
use Rattle.md_inline_events.specs.declared.token.Token.{Token}
use Rattle.md_inline_events.specs.declared.token.Token.TheVariants.{Enters, Leaves, Over}

-- those of one whose label has so many bytes
abbrev pub reference_tokens : ℕ → List Token
reference_tokens len =
    Enters n.Link ∷ Over n.LabelMarker 1 ∷ Enters n.LabelText ∷ Over n.Data len ∷ Leaves n.LabelText
    ∷ Over n.LabelMarker 1 ∷ Leaves n.Link ∷ []
