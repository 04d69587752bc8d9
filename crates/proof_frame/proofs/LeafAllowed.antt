-- Events between blocks or in a leaf leave open what is open, and nothing is put around them or in their place
-- (`NoListing`).
use Rattle.std.proofs.Common.{◌≡◌, ℕ, Bool, true, false, List, [], ◌∷◌, ◌++◌, refl}
use Rattle.std.specs.Prelude.{None, Option, Some}
use Rattle.md_engine.specs.declared.event.Event.{Event}
use Rattle.md_engine.specs.declared.event.Kind.{Kind}
use Rattle.md_engine.specs.declared.event.Kind.TheVariants.{Enter, Exit}
use Rattle.md_engine.specs.declared.event.Name.{Name}
use Rattle.md_engine.specs.declared.event.Name.TheVariants as n
use Rattle.md_engine.specs.declared.event.Point.{Point}
use Rattle.md_containers.specs.ItemsAllowed.{InLeaf, Inner, IsPart, MayBeHere, Site, site_after}
use Rattle.md_containers.specs.Unlisted.{in_place}
use Rattle.md_containers.proofs.UnlistedLemmas.{NoListing, ItemsLead, among, valid-append}
use Rattle.md_events.specs.Events.Nested.{around, enter, exit}
use Rattle.md_events.specs.Events.Spelled.{ContainerRole, IsEnding, IsPrefix, IsQuiet, IsQuoteMarker, LeafKind}
use Rattle.md_events.specs.Events.Spelled.{LeafRole, Role, TextRole, role}
use Rattle.md_events.proofs.SpelledLemmas.{Between, Quiet, Roles}
use Rattle.proof_frame.specs.EndingName.{ending_name}
use Rattle.proof_frame.proofs.EventNames.{NoContainer, name-unlisted, part-no_container}
use Rattle.proof_frame.proofs.Stretch.{roles-as}
use Rattle.proof_frame.specs.Row.{Row, ending_events}

-- What is open.

-- this is innermost in these containers
abbrev pub site_of : List Bool → Inner → Site
site_of held inner = record { held = held; inner = inner }

-- an event with this role may be where one is open, and the other is open after it
pub record Moves (bytes : List ℕ) (from to : Site) (kind : Kind) (x : Role) (p : Point) : Type 0 where
  pub may : MayBeHere bytes from kind x p
  pub following : site_after from kind x p ≡ to

pub moves-are_valid : (bytes : List ℕ) (from to : Site) (e : Event) → Moves bytes from to e.kind (role e.name) e.point →
    ItemsLead bytes from to (e ∷ [])
moves-are_valid bytes from to e h = record { are_valid = (h.may, tt); following = h.following }

-- events of each of which this holds leave open what is open, if each such event does
pub roles-are_valid : (bytes : List ℕ) (site : Site) (P : Role → Type 0) →
    ((kind : Kind) (x : Role) (p : Point) → P x → Moves bytes site site kind x p) → (es : List Event) → Roles P es →
    ItemsLead bytes site site es
roles-are_valid bytes site P stays [] h = record { are_valid = tt; following = refl }
roles-are_valid bytes site P stays (e ∷ es) h =
    valid-append bytes site site site (e ∷ []) es
    (moves-are_valid bytes site site e (stays e.kind (role e.name) e.point h.0))
    (roles-are_valid bytes site P stays es h.1)

-- what is between blocks does,
between-stays : (bytes : List ℕ) (held : List Bool) (kind : Kind) (x : Role) (p : Point) → Between x →
    Moves bytes (among held) (among held) kind x p
between-stays bytes held Enter IsQuiet p h = record { may = tt; following = refl }
between-stays bytes held Exit IsQuiet p h = record { may = tt; following = refl }
between-stays bytes held Enter IsPrefix p h = record { may = tt; following = refl }
between-stays bytes held Exit IsPrefix p h = record { may = tt; following = refl }
between-stays bytes held Enter IsQuoteMarker p h = record { may = tt; following = refl }
between-stays bytes held Exit IsQuoteMarker p h = record { may = tt; following = refl }
between-stays bytes held Enter IsEnding p h = record { may = tt; following = refl }
between-stays bytes held Exit IsEnding p h = record { may = tt; following = refl }
between-stays bytes held kind _ p h = absurd h

pub between-are_valid : (bytes : List ℕ) (held : List Bool) (es : List Event) → Roles Between es →
    ItemsLead bytes (among held) (among held) es
between-are_valid bytes held es h = roles-are_valid bytes (among held) Between (between-stays bytes held) es h

-- and more in a leaf
part-stays : (bytes : List ℕ) (held : List Bool) (kind : Kind) (x : Role) (p : Point) → IsPart x →
    Moves bytes (site_of held InLeaf) (site_of held InLeaf) kind x p
part-stays bytes held kind (ContainerRole shape) p h = absurd h
part-stays bytes held kind (LeafRole leaf) p h = absurd h
part-stays bytes held Enter (TextRole purpose) p h = record { may = h; following = refl }
part-stays bytes held Exit (TextRole purpose) p h = record { may = h; following = refl }
part-stays bytes held Enter _ p h = record { may = tt; following = refl }
part-stays bytes held Exit _ p h = record { may = tt; following = refl }

-- Leaves.

-- a leaf with this role may be between blocks: in it this is innermost
pub record Encloses (bytes : List ℕ) (held : List Bool) (inner : Inner) (x : Role) : Type 0 where
  pub begins : (p : Point) → Moves bytes (among held) (site_of held inner) Enter x p
  pub ends : (p : Point) → Moves bytes (site_of held inner) (among held) Exit x p

leaf-encloses : (bytes : List ℕ) (held : List Bool) (kind : LeafKind) → Encloses bytes held InLeaf (LeafRole kind)
leaf-encloses bytes held kind = record {
  begins = λ p. record { may = tt; following = refl };
  ends = λ p. record { may = tt; following = refl };
}

pub around-valid : (bytes : List ℕ) (held : List Bool) (inner : Inner) (name : Name) (p q : Point)
    (inside : List Event) →
    Encloses bytes held inner (role name) → ItemsLead bytes (site_of held inner) (site_of held inner) inside →
    ItemsLead bytes (among held) (among held) (around name p q inside)
around-valid bytes held inner name p q inside h valid =
    valid-append bytes (among held) (site_of held inner) (among held) (enter name p ∷ []) (inside ++ exit name q ∷ [])
    (moves-are_valid bytes (among held) (site_of held inner) (enter name p) (h.begins p))
    (valid-append bytes (site_of held inner) (site_of held inner) (among held) inside (exit name q ∷ []) valid
    (moves-are_valid bytes (site_of held inner) (among held) (exit name q) (h.ends q)))

-- a leaf with its parts
pub leaf-valid : (bytes : List ℕ) (held : List Bool) (name : Name) (kind : LeafKind) (p q : Point)
    (inside : List Event) →
    role name ≡ LeafRole kind → Roles IsPart inside → ItemsLead bytes (among held) (among held) (around name p q inside)
leaf-valid bytes held name kind p q inside is parts =
    around-valid bytes held InLeaf name p q inside (rw is (leaf-encloses bytes held kind))
    (roles-are_valid bytes (site_of held InLeaf) IsPart (part-stays bytes held) inside parts)

-- Nothing is put around events in a leaf.

pub roles-unlisted : (es : List Event) → Roles NoContainer es → NoListing es
roles-unlisted [] h = tt
roles-unlisted (e ∷ es) h = (name-unlisted e.name h.0, roles-unlisted es h.1)

pub parts-unlisted : (es : List Event) → Roles IsPart es → NoListing es
parts-unlisted es h = roles-unlisted es (roles-as part-no_container es h)

-- nor is any between blocks
pub between-part : (x : Role) → Between x → IsPart x
between-part IsQuiet h = tt
between-part IsPrefix h = tt
between-part IsQuoteMarker h = tt
between-part IsEnding h = tt
between-part _ h = absurd h

pub between-parts : (es : List Event) → Roles Between es → Roles IsPart es
between-parts es h = roles-as between-part es h

-- and what the tree does not show is such a part
pub quiet-part : (x : Role) → Quiet x → IsPart x
quiet-part IsQuiet h = tt
quiet-part _ h = absurd h

-- and is between blocks
pub quiets-between : (es : List Event) → Roles Quiet es → Roles Between es
quiets-between es h = roles-as one es h
  where
    one : (x : Role) → Quiet x → Between x
    one IsQuiet h = tt
    one _ h = absurd h

pub between-unlisted : (es : List Event) → Roles Between es → NoListing es
between-unlisted es h = parts-unlisted es (between-parts es h)

pub unlisted-both : (xs ys : List Event) → NoListing xs → NoListing ys → NoListing (xs ++ ys)
unlisted-both [] ys h k = k
unlisted-both (e ∷ xs) ys h k = (h.0, unlisted-both xs ys h.1 k)

-- a leaf with its parts has none
pub around-unlisted : (name : Name) (p q : Point) (inside : List Event) → in_place name ≡ name →
    Roles IsPart inside → NoListing (around name p q inside)
around-unlisted name p q inside e parts =
    (e, unlisted-both inside (exit name q ∷ []) (parts-unlisted inside parts) (e, tt))

-- Endings of lines, and the mark before a text.

pub ending-roles : (P : Role → Type 0) (name : Name) (row : Row) → P (role name) → Roles P (ending_events name row)
ending-roles P name row h = go row.after
  where
    go : (after : Option Point) → Roles P (ending_events name (record row { after = after }))
    go None = tt
    go (Some q) = (h, (h, tt))

pub ending-between : (blank : Bool) (row : Row) → Roles Between (ending_events (ending_name blank) row)
ending-between true row = ending-roles Between n.BlankLineEnding row tt
ending-between false row = ending-roles Between n.LineEnding row tt
