-- A line that is one definition without a title, and its events (CommonMark 4.7).
use Rattle.std.specs.Prelude.{◌≡◌, ℕ, ◌+◌, ◌≤◌, Bool, true, false, ◌&&◌, ◌||◌, ◌==◌, not, nat_le, List, [], ◌∷◌, ◌++◌}
use Rattle.std.specs.Prelude.{length}
use Rattle.std.specs.List.{list_all}
use Rattle.md_meaning.specs.Ascii.{backslash, colon, left_bracket, right_bracket, space}
use Rattle.md_meaning.specs.Rest.{is_blank}
use Rattle.md_engine.specs.declared.event.Event.{Event}
use Rattle.md_engine.specs.declared.event.Name.TheVariants.{Data, Definition, DefinitionDestination}
use Rattle.md_engine.specs.declared.event.Name.TheVariants.{DefinitionDestinationRaw, DefinitionDestinationString}
use Rattle.md_engine.specs.declared.event.Name.TheVariants.{DefinitionLabel, DefinitionLabelMarker}
use Rattle.md_engine.specs.declared.event.Name.TheVariants.{DefinitionLabelString, DefinitionMarker, SpaceOrTab}
use Rattle.md_engine.specs.declared.event.Point.{Point}
use Rattle.md_link_definitions.specs.Chunks.{string_link}
use Rattle.md_link_definitions.specs.PlainDestination.{is_plain_destination}
use Rattle.md_events.specs.Events.Nested.{around, enter_link, exit, pair}

-- a byte of a label that means nothing: no control of ASCII, no bracket and no backslash
abbrev pub is_label_byte : ℕ → Bool
is_label_byte b = nat_le 32 b && not ((b == left_bracket) || (b == backslash) || (b == right_bracket))

-- the line of this label and this destination
abbrev pub definition_line : List ℕ → List ℕ → List ℕ
definition_line label destination =
    left_bracket ∷ label ++ right_bracket ∷ colon ∷ space ∷ destination

-- a label, of which not all is whitespace, and a destination
pub record AreParts (label destination : List ℕ) : Type 0 where
  pub plain_label : list_all is_label_byte label ≡ true
  pub filled : is_blank label ≡ false
  pub short : length label ≤ 999
  pub plain_destination : is_plain_destination destination ≡ true

-- a line of this kind, by how many bytes its label and its destination have
pub record IsDefinition (line : List ℕ) (n m : ℕ) : Type 0 where
  pub label : List ℕ
  pub destination : List ℕ
  pub parts : AreParts label destination
  pub bytes : line ≡ definition_line label destination
  pub label_size : length label ≡ n
  pub destination_size : length destination ≡ m

-- the point so many bytes further on its line
abbrev pub past : ℕ → Point → Point
past n p = record { line = p.line; column = p.column + n; index = p.index + n; vs = 0 }

-- a text that is read later
abbrev pub string_part : Point → Point → List Event
string_part p q = enter_link Data p string_link ∷ exit Data q ∷ []

-- Between these points: a label with its marks and its text,
abbrev pub label_part : Point → Point → Point → Point → List Event
label_part p q r s =
    around DefinitionLabel p s
    (pair DefinitionLabelMarker p q ++ around DefinitionLabelString q r (string_part q r)
    ++ pair DefinitionLabelMarker r s)

-- a destination without angle brackets,
abbrev pub destination_part : Point → Point → List Event
destination_part p q =
    around DefinitionDestination p q
    (around DefinitionDestinationRaw p q (around DefinitionDestinationString p q (string_part p q)))

-- and a definition: the marks and the text of its label, its colon, a space, and its destination
abbrev pub definition_between : Point → Point → Point → Point → Point → Point → Point → List Event
definition_between p q r s t u v =
    around Definition p v
    (label_part p q r s ++ pair DefinitionMarker s t ++ pair SpaceOrTab t u ++ destination_part u v)

-- a definition that begins here, by how many bytes its label and its destination have
abbrev pub definition_part : ℕ → ℕ → Point → List Event
definition_part n m p =
    definition_between p (past 1 p) (past (n + 1) p) (past (n + 2) p) (past (n + 3) p) (past (n + 4) p)
    (past (n + 4 + m) p)

-- a line of this kind that begins here was written, up to its end
pub record IsWritten (text : List ℕ) (p q : Point) (old new : List Event) : Type 0 where
  pub n : ℕ
  pub m : ℕ
  pub line : IsDefinition text n m
  pub events : new ≡ old ++ definition_part n m p
  pub last : q ≡ past (n + 4 + m) p
