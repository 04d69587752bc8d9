-- A paragraph with its lines leaves open what is open where it is.
use Rattle.std.proofs.Common.{◌≡◌, ℕ, Bool, List, refl}
use Rattle.md_engine.specs.declared.event.Event.{Event}
use Rattle.md_engine.specs.declared.event.Kind.{Kind}
use Rattle.md_engine.specs.declared.event.Kind.TheVariants.{Enter, Exit}
use Rattle.md_engine.specs.declared.event.Name.{Name}
use Rattle.md_engine.specs.declared.event.Point.{Point}
use Rattle.md_containers.specs.ItemsAllowed.{InText}
use Rattle.md_containers.proofs.UnlistedLemmas.{ItemsLead, among}
use Rattle.md_events.specs.Events.Nested.{around}
use Rattle.md_events.specs.Events.Spelled.{AsParagraph, IsEnding, IsPrefix, IsQuiet, IsQuoteMarker, Role, TextRole}
use Rattle.md_events.specs.Events.Spelled.{role}
use Rattle.md_events.proofs.SpelledLemmas.{Between, Roles}
use Rattle.proof_frame.proofs.LeafAllowed.{Encloses, Moves, around-valid, roles-are_valid, site_of}

-- what is between blocks is in it
text-stays : (bytes : List ℕ) (held : List Bool) (kind : Kind) (x : Role) (p : Point) → Between x →
    Moves bytes (site_of held InText) (site_of held InText) kind x p
text-stays bytes held Enter IsQuiet p h = record { may = tt; following = refl }
text-stays bytes held Exit IsQuiet p h = record { may = tt; following = refl }
text-stays bytes held Enter IsPrefix p h = record { may = tt; following = refl }
text-stays bytes held Exit IsPrefix p h = record { may = tt; following = refl }
text-stays bytes held Enter IsQuoteMarker p h = record { may = tt; following = refl }
text-stays bytes held Exit IsQuoteMarker p h = record { may = tt; following = refl }
text-stays bytes held Enter IsEnding p h = record { may = tt; following = refl }
text-stays bytes held Exit IsEnding p h = record { may = tt; following = refl }
text-stays bytes held kind _ p h = absurd h

text-encloses : (bytes : List ℕ) (held : List Bool) → Encloses bytes held InText (TextRole AsParagraph)
text-encloses bytes held = record {
  begins = λ p. record { may = tt; following = refl };
  ends = λ p. record { may = tt; following = refl };
}

pub text-valid : (bytes : List ℕ) (held : List Bool) (name : Name) (p q : Point) (inside : List Event) →
    role name ≡ TextRole AsParagraph → Roles Between inside →
    ItemsLead bytes (among held) (among held) (around name p q inside)
text-valid bytes held name p q inside is lines =
    around-valid bytes held InText name p q inside (rw is (text-encloses bytes held))
    (roles-are_valid bytes (site_of held InText) Between (text-stays bytes held) inside lines)
