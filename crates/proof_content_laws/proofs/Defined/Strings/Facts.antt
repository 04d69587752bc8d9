-- The texts of a definition, those of its label, its destination and its title: what is known of each.
--
-- Each is a string: it begins and ends within a line, between marks, and has prefixes of containers before its further
-- lines.
use Rattle.std.proofs.Common.{◌≡◌, ℕ, true, false, List}
use Rattle.std.specs.Prelude.{Some}
use Rattle.md_engine.specs.declared.event.Event.{Event}
use Rattle.md_engine.specs.declared.event.Name.{Name}
use Rattle.md_engine.specs.declared.event.Point.{Point}
use Rattle.md_containers.specs.ItemsAllowed.{IsPart}
use Rattle.md_meaning.specs.Rest.{is_blank}
use Rattle.md_meaning.specs.Texts.{trim_further}
use Rattle.md_events.specs.declared.inline.PartKind.TheVariants.{String}
use Rattle.md_events.specs.Events.Endings.{on_line}
use Rattle.md_events.specs.Events.Grammar.{Expression, following, inside}
use Rattle.md_events.specs.Events.Nested.{around}
use Rattle.md_meaning.specs.Tree.{Line}
use Rattle.md_events.specs.Events.Spelled.{Reading, noted, on_leaf, recorded, DefinitionLeaf, DefinitionSoFar, Purpose}
use Rattle.md_events.specs.Events.Spelled.{TextRole, first_recorded, role, with_title}
use Rattle.md_events.specs.Events.Tiles.{part_kind}
use Rattle.md_events.proofs.EndingsLemmas.{is_other}
use Rattle.md_events.proofs.SpelledLemmas.{Between, Roles}
use Rattle.md_outline.specs.Roles.{is_unlisted}
use Rattle.proof_content_laws.proofs.Defined.Form.{LastLine, NoLine, OneLine, Strand}
use Rattle.proof_frame.proofs.PlainFacts.{AreKnown}
use Rattle.proof_frame.proofs.PartsFacts.{PartsFacts}

-- What they say of the definition: what was said first is.

-- its label, by the lines as they are
abbrev pub label_recorded : List (List ℕ) → DefinitionSoFar → DefinitionSoFar
label_recorded lines d = record d { label = first_recorded d.label (trim_further lines) }

-- its title
abbrev pub title_recorded : List (List ℕ) → DefinitionSoFar → DefinitionSoFar
title_recorded lines d = with_title (trim_further lines) d

-- its destination
abbrev pub target_recorded : List ℕ → DefinitionSoFar → DefinitionSoFar
target_recorded text d = record d { destination = first_recorded d.destination text }

-- Lines of a paragraph are not blank: so it is with each line of a text that begins and ends in that text.
abbrev pub AreFilled : Strand → Type 0
AreFilled NoLine = Unit {0}
AreFilled (LastLine p q text) = Unit {0}
AreFilled (OneLine p e q r text front s) = (is_blank text ≡ false) × AreFilled s

abbrev pub FurtherFilled : Strand → Type 0
FurtherFilled NoLine = Unit {0}
FurtherFilled (LastLine p q text) = Unit {0}
FurtherFilled (OneLine p e q r text front s) = AreFilled s

-- What a name says of its part: it is a string of a leaf, and a text for this purpose.
pub record IsString (name : Name) (purpose : Purpose) : Type 0 where
  pub records : role name ≡ TextRole purpose
  pub leaf : (line : Line) (r : Reading) → recorded purpose line r ≡ on_leaf (noted purpose line) r
  pub kind : part_kind name ≡ Some String
  pub inside_is : (text : Expression) → inside text name ≡ text
  pub other : is_other (on_line name) ≡ true
  pub part : IsPart (role name)

-- A text of this name is around these events from a point to a point, before it is read, and around those once it is.
-- It says this of the definition that is open.
pub record StringFacts (bytes : List ℕ) (name : Name) (purpose : Purpose) (p q : Point)
    (records : DefinitionSoFar → DefinitionSoFar) (unread done : List Event) : Type 0 where
  pub facts : (x : Expression) (d : DefinitionSoFar) →
      PartsFacts bytes p q x (following name x) (DefinitionLeaf d) (DefinitionLeaf (records d)) (around name p q unread)
      (around name p q done)
  -- in the text are what the tree does not show, endings and prefixes
  pub texts : Roles Between done
  -- an outline knows it
  pub known : is_unlisted (TextRole purpose) ≡ true → AreKnown bytes (around name p q done)
