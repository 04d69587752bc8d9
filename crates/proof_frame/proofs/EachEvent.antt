-- What holds of each of some events.
use Rattle.std.specs.Prelude.{nat_le}
use Rattle.std.proofs.Common.{ℕ, zero, suc, Bool, true, false, cond, ◌&&◌, List, [], ◌∷◌, ◌++◌, drop}
use Rattle.md_engine.specs.declared.event.Event.{Event}
use Rattle.md_engine.specs.declared.event.Point.{Point}
use Rattle.md_content.specs.ContentReads.{is_piece_end, settled}
use Rattle.md_events.specs.declared.inline.Chunk.{Chunk}

-- of each event this holds
abbrev pub Each : (Event → Type 0) → List Event → Type 0
Each P [] = Unit {0}
Each P (e ∷ es) = P e × Each P es

-- of each of both, if of each of one and of the other
pub each-append : (P : Event → Type 0) (a b : List Event) → Each P a → Each P b → Each P (a ++ b)
each-append P [] b o k = k
each-append P (e ∷ es) b o k = (o.0, each-append P es b o.1 k)

-- of each what follows from it
pub each-as : (P Q : Event → Type 0) → ((e : Event) → P e → Q e) → (es : List Event) → Each P es → Each Q es
each-as P Q so [] o = tt
each-as P Q so (e ∷ es) o = (so e o.0, each-as P Q so es o.1)

-- of both, if of both together
pub each-front : (P : Event → Type 0) (a b : List Event) → Each P (a ++ b) → Each P a
each-front P [] b o = tt
each-front P (e ∷ es) b o = (o.0, each-front P es b o.1)

-- and of the further ones
pub each-drop : (P : Event → Type 0) (k : ℕ) (es : List Event) → Each P es → Each P (drop k es)
each-drop P zero es o = o
each-drop P (suc k) [] o = tt
each-drop P (suc k) (e ∷ es) o = each-drop P k es o.1

-- What holds of each wherever it is continues to hold.

-- once lines end where their chunks do
pub settled-each : (P : Event → Type 0) → ((e : Event) (q : Point) → P e → P (record e { point = q })) →
    (chunks : List Chunk) (es : List Event) → Each P es → Each P (settled chunks es)
settled-each P moves chunks [] h = tt
settled-each P moves [] (e ∷ es) h = h
settled-each P moves (chunk ∷ chunks) (e ∷ es) h =
    go (is_piece_end e && nat_le chunk.after.index e.point.index) (settled-each P moves chunks es h.1)
    (settled-each P moves (chunk ∷ chunks) es h.1)
  where
    go : (x : Bool) → Each P (settled chunks es) → Each P (settled (chunk ∷ chunks) es) →
        Each P (cond x (record e { point = chunk.after } ∷ settled chunks es) (e ∷ settled (chunk ∷ chunks) es))
    go true k l = (moves e chunk.after h.0, k)
    go false k l = (h.0, l)
