-- As many containers are open after some events as names are.
use Rattle.std.proofs.Common.{◌≡◌, ℕ, ◌+◌, ◌-◌, List, [], ◌∷◌, refl, ◌∙◌, ap, arith}
use Rattle.std.specs.Prelude.{Option, Some, None}
use Rattle.md_engine.specs.declared.event.Event.{Event}
use Rattle.md_engine.specs.declared.event.Kind.{Kind}
use Rattle.md_engine.specs.declared.event.Kind.TheVariants.{Enter, Exit}
use Rattle.md_engine.specs.declared.event.Name.{Name}
use Rattle.md_engine.specs.declared.event.Point.{Point}
use Rattle.md_events.specs.Events.Nested.{Balanced, Fits, Matches, open_after, open_following}
use Rattle.md_events.specs.Events.Spelled.{OpenContainer, ContainerRole, IsEnding, IsQuoteMarker, OpenLeaf, LeafRole}
use Rattle.md_events.specs.Events.Spelled.{Purpose, Reading, Role, TextRole, Text, finished, left, read, read_by}
use Rattle.md_events.specs.Events.Spelled.{read_enter, read_exit, role, recorded_at, unread, with_kind}
use Rattle.md_outline.proofs.ClosedTrees.{depth_of, depth-renamed}
use Rattle.md_outline.proofs.RoleLemmas.{by-ending, by-marker, by-recorded_at}

-- The containers that are open are those whose names are.

abbrev deeper : Role → ℕ → ℕ
deeper (ContainerRole shape) n = n + 1
deeper _ n = n

abbrev shallower : Role → ℕ → ℕ
shallower (ContainerRole shape) n = n - 1
shallower _ n = n

abbrev held : List Name → ℕ
held [] = 0
held (name ∷ names) = deeper (role name) (held names)

shallower-deeper : (x : Role) (n : ℕ) → shallower x (deeper x n) ≡ n
shallower-deeper (ContainerRole shape) n = omega arith
shallower-deeper _ n = refl

depth-enter : (bytes : List ℕ) (x : Role) (p : Point) (r : Reading) →
    depth_of (read_enter bytes x p r).outer ≡ deeper x (depth_of r.outer)
depth-enter bytes (ContainerRole shape) p r = refl
depth-enter bytes IsQuoteMarker p r =
    by-marker (λ now. depth_of now.outer ≡ depth_of r.outer) bytes p r refl
    (λ kind. depth-renamed (with_kind kind) r.outer)
depth-enter bytes _ p r = refl

depth-left : (outer : List OpenContainer) (r : Reading) → r.outer ≡ outer →
    depth_of (left outer r).outer ≡ depth_of outer - 1
depth-left [] r e = ap depth_of e
depth-left (around ∷ outer) r e = omega arith

depth-finished : (leaf : Option OpenLeaf) (r : Reading) → depth_of (finished leaf r).outer ≡ depth_of r.outer
depth-finished None r = refl
depth-finished (Some leaf) r = refl

depth-recorded : (bytes : List ℕ) (x : Purpose) (p : Point) (text : Option Text) (r : Reading) →
    depth_of (recorded_at bytes x p text r).outer ≡ depth_of r.outer
depth-recorded bytes x p text r =
    by-recorded_at (λ now. depth_of now.outer ≡ depth_of r.outer) bytes x p text r refl
    (record { block = λ b. refl; named = λ f. depth-renamed f r.outer; noted = λ f. refl })

depth-exit : (bytes : List ℕ) (x : Role) (p : Point) (r : Reading) →
    depth_of (read_exit bytes x p r).outer ≡ shallower x (depth_of r.outer)
depth-exit bytes (ContainerRole shape) p r = depth-left r.outer r refl
depth-exit bytes (LeafRole kind) p r = depth-finished r.leaf r
depth-exit bytes (TextRole x) p r = depth-recorded bytes x p r.text r
depth-exit bytes IsEnding p r = by-ending (λ now. depth_of now.outer ≡ depth_of r.outer) bytes p r.text r refl refl
depth-exit bytes _ p r = refl

depth-step : (bytes : List ℕ) (kind : Kind) (name : Name) (p : Point) (r : Reading) (names : List Name) →
    Fits names kind name → depth_of r.outer ≡ held names →
    depth_of (read_by bytes kind (role name) p r).outer ≡ held (open_following names kind name)
depth-step bytes Enter name p r names f e = depth-enter bytes (role name) p r ∙ ap (deeper (role name)) e
depth-step bytes Exit name p r [] f e = absurd f
depth-step bytes Exit name p r (innermost ∷ names) f e =
    depth-exit bytes (role name) p r
    ∙ ap (shallower (role name)) (e ∙ ap (λ (n : Name). deeper (role n) (held names)) f)
    ∙ shallower-deeper (role name) (held names)

depth-all : (bytes : List ℕ) (events : List Event) (r : Reading) (names : List Name) → Matches names events →
    depth_of r.outer ≡ held names →
    depth_of (read bytes r events).outer ≡ held (open_after names events)
depth-all bytes [] r names m e = e
depth-all bytes (x ∷ events) r names m e =
    depth-all bytes events (read_by bytes x.kind (role x.name) x.point r) (open_following names x.kind x.name) m.1
    (depth-step bytes x.kind x.name x.point r names m.0 e)

none-open : (outer : List OpenContainer) → depth_of outer ≡ 0 → outer ≡ []
none-open [] h = refl
none-open (around ∷ outer) h = let no : ⊥ = omega (arith, h) in absurd no

-- where events are balanced, no container is open after them
pub all-closed : (bytes : List ℕ) (events : List Event) → Balanced events → (read bytes unread events).outer ≡ []
all-closed bytes events b =
    none-open (read bytes unread events).outer (depth-all bytes events unread [] b.matches refl ∙ ap held b.closed)
