-- The open containers of a reading are those of the names that are open: none after all events.
use Rattle.std.proofs.Common.{◌≡◌, ℕ, Bool, true, false, cond, List, [], ◌∷◌, length, nat_lt, refl, sym, subst}
use Rattle.std.specs.Prelude.{Option, Some, None}
use Rattle.md_engine.specs.declared.event.Event.{Event}
use Rattle.md_engine.specs.declared.event.Kind.{Kind}
use Rattle.md_engine.specs.declared.event.Kind.TheVariants.{Enter, Exit}
use Rattle.md_engine.specs.declared.event.Name.{Name}
use Rattle.md_engine.specs.declared.event.Point.{Point}
use Rattle.md_meaning.specs.Tree.{Line}
use Rattle.md_events.specs.Events.Blocks.{is_container}
use Rattle.md_events.specs.Events.Nested.{Fits, Matches, open_after, open_following}
use Rattle.md_events.specs.Events.Spelled.{AsDigits, AsFootnoteLabel, AsItemMarker, AsParagraph, ContainerRole, IsEnding}
use Rattle.md_events.specs.Events.Spelled.{IsQuoteMarker, LeafRole, OpenContainer, OpenLeaf, Purpose, Reading, Role}
use Rattle.md_events.specs.Events.Spelled.{Shape, Text, TextRole, at_ending, finished, is_before_blocks, kind_at, left}
use Rattle.md_events.specs.Events.Spelled.{named, next_line, on_leaf, on_shape, read, read_by, recorded, recorded_at}
use Rattle.md_events.specs.Events.Spelled.{role, text_to, with_kind}

abbrev OpensBy : Bool → (List OpenContainer → Type 0) → List OpenContainer → Type 0
OpensBy true P [] = ⊥
OpensBy true P (around ∷ outer) = P outer
OpensBy false P outer = P outer

-- one for each of the names that is a container's
abbrev Opens : List Name → List OpenContainer → Type 0
Opens [] [] = Unit {0}
Opens [] (around ∷ outer) = ⊥
Opens (name ∷ names) outer = OpensBy (is_container (role name)) (Opens names) outer

opens-other : (names : List Name) (a b : OpenContainer) (outer : List OpenContainer) → Opens names (a ∷ outer) →
    Opens names (b ∷ outer)
opens-other [] a b outer h = absurd h
opens-other (name ∷ names) a b outer h =
    go (is_container (role name)) h (λ k. opens-other names a b outer k)
  where
    go : (t : Bool) → OpensBy t (Opens names) (a ∷ outer) → (Opens names (a ∷ outer) → Opens names (b ∷ outer)) →
        OpensBy t (Opens names) (b ∷ outer)
    go true h other = h
    go false h other = other h

opens-shaped : (names : List Name) (f : Shape → Shape) (outer : List OpenContainer) → Opens names outer →
    Opens names (on_shape f outer)
opens-shaped names f [] h = h
opens-shaped names f (around ∷ outer) h = opens-other names around (record around { shape = f around.shape }) outer h

opens-if : (names : List Name) (t : Bool) (r q : Reading) → Opens names r.outer → Opens names q.outer →
    Opens names (cond t r q).outer
opens-if names true r q h k = h
opens-if names false r q h k = k

opens-enter : (bytes : List ℕ) (names : List Name) (x : Role) (p : Point) (r : Reading) → Opens names r.outer →
    OpensBy (is_container x) (Opens names) (read_by bytes Enter x p r).outer
opens-enter bytes names (ContainerRole shape) p r h = h
opens-enter bytes names IsQuoteMarker p r h =
    opens-if names (is_before_blocks r.text r.leaf r.here)
    (record r { outer = on_shape (with_kind (kind_at bytes p.index)) r.outer }) r
    (opens-shaped names (with_kind (kind_at bytes p.index)) r.outer h) h
opens-enter bytes names _ p r h = h

opens-left : (names : List Name) (outer : List OpenContainer) (r : Reading) → OpensBy true (Opens names) outer →
    Opens names (left outer r).outer
opens-left names [] r h = absurd h
opens-left names (around ∷ outer) r h = h

opens-finished : (names : List Name) (leaf : Option OpenLeaf) (r : Reading) → Opens names r.outer →
    Opens names (finished leaf r).outer
opens-finished names None r h = h
opens-finished names (Some leaf) r h = h

opens-recorded : (names : List Name) (purpose : Purpose) (line : Line) (r : Reading) → Opens names r.outer →
    Opens names (recorded purpose line r).outer
opens-recorded names AsParagraph line r h = h
opens-recorded names AsDigits line r h = opens-shaped names (named AsDigits line.text) r.outer h
opens-recorded names AsItemMarker line r h = opens-shaped names (named AsItemMarker line.text) r.outer h
opens-recorded names AsFootnoteLabel line r h = opens-shaped names (named AsFootnoteLabel line.text) r.outer h
opens-recorded names _ line r h = h

opens-text : (bytes : List ℕ) (names : List Name) (purpose : Purpose) (p : Point) (text : Option Text) (r : Reading) →
    Opens names r.outer → Opens names (recorded_at bytes purpose p text r).outer
opens-text bytes names purpose p None r h = h
opens-text bytes names purpose p (Some text) r h =
    opens-recorded names purpose (record { spaces = text.spaces; text = text_to bytes p.index text })
    (record r { text = None }) h

opens-ending : (bytes : List ℕ) (names : List Name) (p : Point) (text : Option Text) (r : Reading) →
    Opens names r.outer → Opens names (at_ending bytes p text r).outer
opens-ending bytes names p (Some text) r h = h
opens-ending bytes names p None r h =
    opens-if names (nat_lt p.index (length bytes)) (on_leaf next_line r) r h h

opens-exit : (bytes : List ℕ) (names : List Name) (x : Role) (p : Point) (r : Reading) →
    OpensBy (is_container x) (Opens names) r.outer → Opens names (read_by bytes Exit x p r).outer
opens-exit bytes names (ContainerRole shape) p r h = opens-left names r.outer r h
opens-exit bytes names (LeafRole kind) p r h = opens-finished names r.leaf r h
opens-exit bytes names (TextRole purpose) p r h = opens-text bytes names purpose p r.text r h
opens-exit bytes names IsEnding p r h = opens-ending bytes names p r.text r h
opens-exit bytes names _ p r h = h

opens-step : (bytes : List ℕ) (names : List Name) (kind : Kind) (name : Name) (p : Point) (r : Reading) →
    Fits names kind name → Opens names r.outer →
    Opens (open_following names kind name) (read_by bytes kind (role name) p r).outer
opens-step bytes names Enter name p r fits h = opens-enter bytes names (role name) p r h
opens-step bytes [] Exit name p r fits h = absurd fits
opens-step bytes (first ∷ names) Exit name p r fits h =
    opens-exit bytes names (role name) p r
    (subst (λ (n : Name). OpensBy (is_container (role n)) (Opens names) r.outer) fits h)

opens-after : (bytes : List ℕ) (names : List Name) (r : Reading) (es : List Event) → Matches names es →
    Opens names r.outer → Opens (open_after names es) (read bytes r es).outer
opens-after bytes names r [] fits h = h
opens-after bytes names r (e ∷ es) fits h =
    opens-after bytes (open_following names e.kind e.name) (read_by bytes e.kind (role e.name) e.point r) es fits.1
    (opens-step bytes names e.kind e.name e.point r fits.0 h)

none-open : (outer : List OpenContainer) → Opens [] outer → outer ≡ []
none-open [] h = refl
none-open (around ∷ outer) h = absurd h

-- after brackets no container is open
pub outer-none : (bytes : List ℕ) (r : Reading) (es : List Event) → r.outer ≡ [] → Matches [] es →
    open_after [] es ≡ [] → (read bytes r es).outer ≡ []
outer-none bytes r es none fits closed =
    none-open (read bytes r es).outer
    (subst (λ (l : List Name). Opens l (read bytes r es).outer) closed
    (opens-after bytes [] r es fits (subst (Opens []) (sym none) tt)))
