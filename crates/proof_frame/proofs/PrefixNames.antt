-- Events with names of prefixes, or of prefixes and containers.
use Rattle.std.proofs.Common.{◌≡◌, true, List, [], ◌∷◌, refl, Bool, false, ap, ◌&&◌, not}
use Rattle.std.specs.Prelude.{Option, Some, None}
use Rattle.md_engine.specs.declared.event.Content.{Content}
use Rattle.md_engine.specs.declared.event.Content.TheVariants as content
use Rattle.md_engine.specs.declared.event.Event.{Event}
use Rattle.md_engine.specs.declared.event.Link.{Link}
use Rattle.md_engine.specs.declared.event.Name.{Name}
use Rattle.md_engine.specs.declared.event.Name.TheVariants as n
use Rattle.md_events.specs.Events.Spelled as spelled
use Rattle.md_events.specs.Events.Spelled.{IsQuiet, IsQuoteMarker, Role, role}
use Rattle.md_events.specs.Events.Tiles.{part_kind}
use Rattle.md_events.specs.Events.Prefix.{is_prefix}
use Rattle.md_events.proofs.SpelledLemmas.{Roles}
use Rattle.proof_frame.proofs.EachEvent.{Each, each-as}
use Rattle.proof_frame.proofs.PartFacts.{NoLinks, NoParts, IsUnlinked, IsNoPart}
use Rattle.proof_frame.proofs.EventNames.{is_front, front-name}

-- an event with such a name, which begins no chunk
abbrev pub IsNamed : (Name → Bool) → Event → Type 0
IsNamed is_name e = (name : is_name e.name ≡ true) × (e.link ≡ None)

-- with names of prefixes
abbrev pub ArePrefixes : List Event → Type 0
ArePrefixes es = Each (IsNamed is_prefix) es

-- whether what begins a chunk, if anything does, begins one that is read as a string, and is alone
abbrev pub is_string : Content → Bool
is_string content.String = true
is_string _ = false

abbrev pub is_alone : Option Link → Bool
is_alone None = true
is_alone (Some link) = is_string link.content && not link.previous

-- an event that may be before a line, where a label may be a chunk
abbrev pub IsFrontEvent : Event → Type 0
IsFrontEvent e = (name : is_front e.name ≡ true) × (is_alone e.link ≡ true)

-- with names of prefixes or of containers
abbrev pub AreFront : List Event → Type 0
AreFront es = Each IsFrontEvent es

pub prefixes-front : (es : List Event) → ArePrefixes es → AreFront es
prefixes-front es h =
    each-as (IsNamed is_prefix) IsFrontEvent (λ e is. (front-name e.name is.0, ap is_alone is.1)) es h

-- Of prefixes nothing is read later, and none begins or ends a text part.

pub names-unlinked : (es : List Event) → ArePrefixes es → NoLinks es
names-unlinked es h = each-as (IsNamed is_prefix) IsUnlinked (λ e is. is.1) es h

-- no name of a prefix is that of a text part: each name is tested
no_part-name : (name : Name) → is_prefix name ≡ true → part_kind name ≡ None
no_part-name n.Data h = refl
no_part-name _ h = cc

pub names-no_parts : (es : List Event) → ArePrefixes es → NoParts es
names-no_parts es h = each-as (IsNamed is_prefix) IsNoPart (λ e is. no_part-name e.name is.0) es h

-- What is read of prefixes is quiet, a prefix, or a marker of a quote.

-- whether a role is one of these
abbrev is_quiet_or_prefix : Role → Bool
is_quiet_or_prefix IsQuiet = true
is_quiet_or_prefix spelled.IsPrefix = true
is_quiet_or_prefix IsQuoteMarker = true
is_quiet_or_prefix _ = false

-- that of a prefix is: each name is tested
prefix-is : (name : Name) → is_prefix name ≡ true → is_quiet_or_prefix (role name) ≡ true
prefix-is n.Data h = refl
prefix-is _ h = cc

-- and what holds of all three holds of it
prefix-role : (P : Role → Type 0) (x : Role) → P IsQuiet → P spelled.IsPrefix → P IsQuoteMarker →
    is_quiet_or_prefix x ≡ true → P x
prefix-role P IsQuiet quiet prefix marker h = quiet
prefix-role P spelled.IsPrefix quiet prefix marker h = prefix
prefix-role P IsQuoteMarker quiet prefix marker h = marker
prefix-role P _ quiet prefix marker h = cc

pub prefixes-roles : (P : Role → Type 0) (es : List Event) → P IsQuiet → P spelled.IsPrefix → P IsQuoteMarker →
    ArePrefixes es → Roles P es
prefixes-roles P [] quiet prefix marker h = tt
prefixes-roles P (e ∷ es) quiet prefix marker h = (
  prefix-role P (role e.name) quiet prefix marker (prefix-is e.name h.0.0),
  prefixes-roles P es quiet prefix marker h.1,
)
