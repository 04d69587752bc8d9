-- Events whose lists can be determined: blocks are in containers alone, each item begins with its marker, and no list
-- is yet.
--
-- A walk over the events, which knows what is open. What it asks of an event depends on what is innermost.
use Rattle.std.specs.Prelude.{◌≡◌, ℕ, ◌+◌, Bool, true, false, ◌||◌, List, [], ◌∷◌, drop, get_or}
use Rattle.md_engine.specs.declared.event.Event.{Event}
use Rattle.md_engine.specs.declared.event.Kind.{Kind}
use Rattle.md_engine.specs.declared.event.Kind.TheVariants.{Enter, Exit}
use Rattle.md_engine.specs.declared.event.Point.{Point}
use Rattle.md_meaning.specs.Containers.{is_bullet}
use Rattle.md_events.specs.Events.Spelled.{AsDigits, AsFootnoteLabel, AsItemMarker, FootnoteShape, ContainerRole}
use Rattle.md_events.specs.Events.Spelled.{IsEnding, IsPrefix, IsQuiet, IsQuoteMarker, ItemShape, LeafRole}
use Rattle.md_events.specs.Events.Spelled.{OrderedShape, Purpose, Role, Shape, TextRole, UnorderedShape, is_ordered}
use Rattle.md_events.specs.Events.Spelled.{role}
use Rattle.md_events.specs.Events.Recorded.{OfItself, OfLeaf, Recorded, recorded_in}

-- `*`, `+`, `-`, `.` and `)` are markers of items (CommonMark 5.2)
abbrev pub is_list_marker : ℕ → Bool
is_list_marker b = is_ordered b || is_bullet b

-- What is innermost.
pub data Inner : Type 0 where
  -- a container, between its blocks
  AmongBlocks : Inner
  -- an item that has begun, before its marker
  InFront : Inner
  -- the marker of an item, which begins at this point
  InMarker : Point → Inner
  -- a footnote definition that has begun, up to the end of its label
  InLabel : Inner
  -- a leaf block
  InLeaf : Inner
  -- a text that is a block of its own
  InText : Inner

pub record Site : Type 0 where
  -- for each container that is open, the innermost first, whether it is an item
  pub held : List Bool
  pub inner : Inner

-- before the first event
abbrev pub root : Site
root = record { held = []; inner = AmongBlocks }

abbrev pub is_item_shape : Shape → Bool
is_item_shape (ItemShape marker digits) = true
is_item_shape _ = false

-- what may be wherever nothing else is read
abbrev pub IsBetween : Role → Type 0
IsBetween IsPrefix = Unit {0}
IsBetween IsQuoteMarker = Unit {0}
IsBetween IsEnding = Unit {0}
IsBetween IsQuiet = Unit {0}
IsBetween _ = ⊥

-- a container that may be entered: no list
abbrev pub IsHolder : Shape → Type 0
IsHolder OrderedShape = ⊥
IsHolder UnorderedShape = ⊥
IsHolder (ItemShape marker digits) = marker ≡ 0
IsHolder _ = Unit {0}

abbrev pub IsForLeaf : Recorded → Type 0
IsForLeaf OfLeaf = Unit {0}
IsForLeaf _ = ⊥

-- a text of a leaf block, and none that is a block or shows something of a container
abbrev pub IsOfLeaf : Purpose → Type 0
IsOfLeaf purpose = IsForLeaf (recorded_in purpose)

abbrev pub IsForItself : Recorded → Type 0
IsForItself OfItself = Unit {0}
IsForItself _ = ⊥

-- a text that is a block of its own
abbrev pub IsOfItself : Purpose → Type 0
IsOfItself purpose = IsForItself (recorded_in purpose)

-- what may be in a leaf block
abbrev pub IsPart : Role → Type 0
IsPart (ContainerRole shape) = ⊥
IsPart (LeafRole kind) = ⊥
IsPart (TextRole purpose) = IsOfLeaf purpose
IsPart _ = Unit {0}

-- the byte of a marker, which is at a byte's first column
pub record IsMarkerAt (bytes : List ℕ) (p : Point) : Type 0 where
  pub whole : p.vs ≡ 0
  pub marker : is_list_marker (get_or bytes p.index 0) ≡ true

-- whether a container of this shape is innermost
abbrev pub Closes : List Bool → Shape → Type 0
Closes [] shape = ⊥
Closes (is_item ∷ held) (ItemShape marker digits) = is_item ≡ true
Closes (is_item ∷ held) OrderedShape = ⊥
Closes (is_item ∷ held) UnorderedShape = ⊥
Closes (is_item ∷ held) _ = is_item ≡ false

-- What may begin at a point.
abbrev pub MayBegin : List ℕ → Point → Inner → Role → Type 0
MayBegin bytes p AmongBlocks (ContainerRole shape) = IsHolder shape
MayBegin bytes p AmongBlocks (LeafRole kind) = Unit {0}
MayBegin bytes p AmongBlocks (TextRole purpose) = IsOfItself purpose
MayBegin bytes p AmongBlocks role = IsBetween role
MayBegin bytes p InFront IsQuiet = Unit {0}
MayBegin bytes p InFront (TextRole AsDigits) = Unit {0}
MayBegin bytes p InFront (TextRole AsItemMarker) = IsMarkerAt bytes p
MayBegin bytes p InFront _ = ⊥
MayBegin bytes p (InMarker q) role = ⊥
MayBegin bytes p InLabel (TextRole AsFootnoteLabel) = Unit {0}
MayBegin bytes p InLabel role = IsBetween role
MayBegin bytes p InLeaf role = IsPart role
MayBegin bytes p InText role = IsBetween role

-- What may end at a point.
abbrev pub MayEnd : List Bool → Point → Inner → Role → Type 0
MayEnd held p AmongBlocks (ContainerRole shape) = Closes held shape
MayEnd held p AmongBlocks role = IsBetween role
MayEnd held p InFront IsQuiet = Unit {0}
MayEnd held p InFront (TextRole AsDigits) = Unit {0}
MayEnd held p InFront _ = ⊥
MayEnd held p (InMarker q) (TextRole AsItemMarker) = p.index ≡ q.index + 1
MayEnd held p (InMarker q) _ = ⊥
MayEnd held p InLabel (TextRole AsFootnoteLabel) = Unit {0}
MayEnd held p InLabel role = IsBetween role
MayEnd held p InLeaf (LeafRole kind) = Unit {0}
MayEnd held p InLeaf role = IsPart role
MayEnd held p InText (TextRole purpose) = IsOfItself purpose
MayEnd held p InText role = IsBetween role

-- what is innermost after a begin,
abbrev pub inner_in : Point → Inner → Role → Inner
inner_in p AmongBlocks (ContainerRole (ItemShape marker digits)) = InFront
inner_in p AmongBlocks (ContainerRole (FootnoteShape label)) = InLabel
inner_in p AmongBlocks (LeafRole kind) = InLeaf
inner_in p AmongBlocks (TextRole purpose) = InText
inner_in p InFront (TextRole AsItemMarker) = InMarker p
inner_in p inner role = inner

-- and after an end
abbrev pub inner_after : Inner → Role → Inner
inner_after (InMarker q) (TextRole AsItemMarker) = AmongBlocks
inner_after InLabel (TextRole AsFootnoteLabel) = AmongBlocks
inner_after InLeaf (LeafRole kind) = AmongBlocks
inner_after InText (TextRole purpose) = AmongBlocks
inner_after inner role = inner

abbrev pub held_in : List Bool → Role → List Bool
held_in held (ContainerRole shape) = is_item_shape shape ∷ held
held_in held _ = held

abbrev pub held_after : List Bool → Role → List Bool
held_after held (ContainerRole shape) = drop 1 held
held_after held _ = held

abbrev pub MayBeHere : List ℕ → Site → Kind → Role → Point → Type 0
MayBeHere bytes site Enter role p = MayBegin bytes p site.inner role
MayBeHere bytes site Exit role p = MayEnd site.held p site.inner role

abbrev pub site_after : Site → Kind → Role → Point → Site
site_after site Enter role p = record { held = held_in site.held role; inner = inner_in p site.inner role }
site_after site Exit role p = record { held = held_after site.held role; inner = inner_after site.inner role }

-- Whether these events may be here.
abbrev pub ItemsAllowed : List ℕ → Site → List Event → Type 0
ItemsAllowed bytes site [] = Unit {0}
ItemsAllowed bytes site (e ∷ es) =
    MayBeHere bytes site e.kind (role e.name) e.point
    × ItemsAllowed bytes (site_after site e.kind (role e.name) e.point) es
