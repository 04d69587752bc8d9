-- The definitions of a text, apart from all else of it.
use Rattle.std.specs.Prelude.{◌≡◌, ◌||◌, ◌+◌, ℕ, Bool, true, false, cond, not, List, [], ◌∷◌, ◌++◌}
use Rattle.md_engine.specs.declared.event.Event.{Event}
use Rattle.md_engine.specs.declared.event.Name.{Name}
use Rattle.md_engine.specs.declared.event.Name.TheVariants as n
use Rattle.md_events.specs.Events.Inline.{Part}
use Rattle.md_events.specs.Events.Tiles.{part_at, part_kind}

abbrev pub is_definition_string : Name → Bool
is_definition_string n.DefinitionDestinationString = true
is_definition_string n.DefinitionTitleString = true
is_definition_string _ = false

abbrev pub is_definition : Name → Bool
is_definition n.Definition = true
is_definition _ = false

-- whether a definition, its destination or its title begins or ends with an event of this name
abbrev pub is_of_definition : Name → Bool
is_of_definition name = is_definition name || is_definition_string name

-- whether it is within a definition, and none of these
abbrev pub is_within_definition : Name → Bool
is_within_definition n.DefinitionLabel = true
is_within_definition n.DefinitionLabelMarker = true
is_within_definition n.DefinitionLabelString = true
is_within_definition n.DefinitionMarker = true
is_within_definition n.DefinitionDestination = true
is_within_definition n.DefinitionDestinationLiteral = true
is_within_definition n.DefinitionDestinationLiteralMarker = true
is_within_definition n.DefinitionDestinationRaw = true
is_within_definition n.DefinitionTitle = true
is_within_definition n.DefinitionTitleMarker = true
is_within_definition _ = false

abbrev pub is_about_definition : Name → Bool
is_about_definition name = is_of_definition name || is_within_definition name

abbrev pub is_outside : Event → Bool
is_outside e = not (is_about_definition e.name)

-- where the events of definitions are among these, which so many are before
abbrev pub marked : ℕ → List Event → List ℕ
marked n [] = []
marked n (e ∷ es) = cond (is_of_definition e.name) (n ∷ marked (n + 1) es) (marked (n + 1) es)

-- what a layer may read of these parts, of which there is one at most
abbrev pub AreRead : (Part → List Event → Type 0) → List Part → List Event → Type 0
AreRead reads [] answer = answer ≡ []
AreRead reads (part ∷ parts) answer = reads part answer

-- Of each definition among some blocks its enter and its exit, and between them the same of its destination and of its
-- title, with what the layer reads in these.
abbrev pub AreDefinitions : (Part → List Event → Type 0) → List Event → List Event → Type 0
AreDefinitions reads [] out = out ≡ []
AreDefinitions reads (e ∷ es) out =
    elim (is_of_definition e.name) [
      | true ↦
          (answer rest : List Event) × (read : AreRead reads (part_at e.kind (part_kind e.name) es) answer)
          × (is : out ≡ e ∷ answer ++ rest) × AreDefinitions reads es rest
      | false ↦ AreDefinitions reads es out
    ]
