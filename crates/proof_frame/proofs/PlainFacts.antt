-- Events with names that an outline knows, whose texts begin and end clear.
use Rattle.std.proofs.Common.{◌≡◌, ℕ, Bool, true, false, cond, ◌||◌, not, List, [], ◌∷◌, ◌++◌, refl, ◌∙◌, ap}
use Rattle.std.specs.List.{list_all}
use Rattle.std.proofs.lemmas.Bool.{and_from}
use Rattle.std.proofs.lemmas.List.Folds.{list_all-append}
use Rattle.md_engine.specs.declared.event.Event.{Event}
use Rattle.md_engine.specs.declared.event.Name.{Name}
use Rattle.md_engine.specs.declared.event.Name.TheVariants as n
use Rattle.md_engine.specs.declared.event.Point.{Point}
use Rattle.md_events.specs.declared.inline.Chunk.{Chunk}
use Rattle.md_events.specs.Events.Inline.{line_end, plain_chunk}
use Rattle.md_events.specs.Events.Nested.{around, enter, exit, pair}
use Rattle.md_events.specs.Events.Places.{past_byte, past_text, same_place}
use Rattle.md_events.specs.Events.Spelled.{IsQuiet, Role, role}
use Rattle.md_events.proofs.SpelledLemmas.{Quiet, Roles}
use Rattle.md_outline.specs.LinesAllowed.{Outside, Site}
use Rattle.md_outline.specs.Outlined.{has_unlisted_name}
use Rattle.md_outline.specs.Roles.{is_plain, is_recorded, is_unlisted}
use Rattle.md_outline.proofs.LinesPass.{Passes, keeps-plain, passes-append, passes-kept, passes-none, passes-quiet}
use Rattle.proof_frame.proofs.EventNames.{unlisted-plain}
use Rattle.proof_frame.proofs.PartedFacts.{clear}

-- whether a text begins or ends at such a point
abbrev pub is_clear : List ℕ → Event → Bool
is_clear bytes e = not (is_recorded (role e.name)) || clear bytes e.point

-- What is known of the names and the points of events.
pub record AreKnown (bytes : List ℕ) (events : List Event) : Type 0 where
  pub names : list_all has_unlisted_name events ≡ true
  pub texts : list_all (is_clear bytes) events ≡ true

pub known-none : (bytes : List ℕ) → AreKnown bytes []
known-none bytes = record { names = refl; texts = refl }

pub known-append : (bytes : List ℕ) (xs ys : List Event) → AreKnown bytes xs → AreKnown bytes ys →
    AreKnown bytes (xs ++ ys)
known-append bytes xs ys h k = record {
  names =
      list_all-append has_unlisted_name xs ys
      ∙ and_from (list_all has_unlisted_name xs) (list_all has_unlisted_name ys) h.names k.names;
  texts =
      list_all-append (is_clear bytes) xs ys
      ∙ and_from (list_all (is_clear bytes) xs) (list_all (is_clear bytes) ys) h.texts k.texts;
}

known-cons : (bytes : List ℕ) (e : Event) (es : List Event) → has_unlisted_name e ≡ true → is_clear bytes e ≡ true →
    AreKnown bytes es → AreKnown bytes (e ∷ es)
known-cons bytes e es h w k = record {
  names = and_from (has_unlisted_name e) (list_all has_unlisted_name es) h k.names;
  texts = and_from (is_clear bytes e) (list_all (is_clear bytes) es) w k.texts;
}

-- a part around them, which begins and ends clear if the tree shows its text
pub known-around : (bytes : List ℕ) (name : Name) (p q : Point) (inside : List Event) →
    is_unlisted (role name) ≡ true → (not (is_recorded (role name)) || clear bytes p) ≡ true →
    (not (is_recorded (role name)) || clear bytes q) ≡ true → AreKnown bytes inside →
    AreKnown bytes (around name p q inside)
known-around bytes name p q inside known begin end h =
    known-cons bytes (enter name p) (inside ++ exit name q ∷ []) known begin
    (known-append bytes inside (exit name q ∷ []) h (known-cons bytes (exit name q) [] known end (known-none bytes)))

-- The same of events that go from a site in a leaf block of several lines to a site.
pub record ArePlainFrom (bytes : List ℕ) (from to : Site) (events : List Event) : Type 0 where
  pub known : AreKnown bytes events
  pub lines : Passes bytes from to events

pub plain-none : (bytes : List ℕ) (site : Site) → ArePlainFrom bytes site site []
plain-none bytes site = record { known = known-none bytes; lines = passes-none bytes site }

pub plain-through : (bytes : List ℕ) (from mid to : Site) (xs ys : List Event) → ArePlainFrom bytes from mid xs →
    ArePlainFrom bytes mid to ys → ArePlainFrom bytes from to (xs ++ ys)
plain-through bytes from mid to xs ys h k = record {
  known = known-append bytes xs ys h.known k.known;
  lines = passes-append bytes from mid to xs ys h.lines k.lines;
}

-- Outside of such leaf blocks, or all of some.
abbrev pub ArePlain : List ℕ → List Event → Type 0
ArePlain bytes events = ArePlainFrom bytes Outside Outside events

pub plain-nil : (bytes : List ℕ) → ArePlain bytes []
plain-nil bytes = plain-none bytes Outside

pub plain-append : (bytes : List ℕ) (xs ys : List Event) → ArePlain bytes xs → ArePlain bytes ys →
    ArePlain bytes (xs ++ ys)
plain-append bytes xs ys h k = plain-through bytes Outside Outside Outside xs ys h k

pub plain-cons : (bytes : List ℕ) (e : Event) (es : List Event) → is_plain (role e.name) ≡ true →
    is_clear bytes e ≡ true → ArePlain bytes es → ArePlain bytes (e ∷ es)
plain-cons bytes e es h w k = record {
  known = known-cons bytes e es (unlisted-plain (role e.name) h) w k.known;
  lines =
      passes-append bytes Outside Outside Outside (e ∷ []) es
      (passes-kept bytes Outside (e ∷ []) (keeps-plain bytes (role e.name) h, tt)) k.lines;
}

-- a role that is plain, and no text
abbrev pub Untold : Role → Type 0
Untold x = (is_plain x ≡ true) × (not (is_recorded x) ≡ true)

pub plain-untold : (bytes : List ℕ) (es : List Event) → Roles Untold es → ArePlain bytes es
plain-untold bytes [] h = plain-nil bytes
plain-untold bytes (e ∷ es) h =
    plain-cons bytes e es h.0.0 (ap (λ (x : Bool). x || clear bytes e.point) h.0.1) (plain-untold bytes es h.1)

pub quiet-untold : (x : Role) → Quiet x → Untold x
quiet-untold IsQuiet h = (refl, refl)
quiet-untold _ h = absurd h

pub quiets-untold : (es : List Event) → Roles Quiet es → Roles Untold es
quiets-untold [] h = tt
quiets-untold (e ∷ es) h = (quiet-untold (role e.name) h.0, quiets-untold es h.1)

-- what the tree does not show
pub plain-quiet : (bytes : List ℕ) (es : List Event) → Roles Quiet es → ArePlain bytes es
plain-quiet bytes es h = plain-untold bytes es (quiets-untold es h)

-- wherever that is
pub quiet-from : (bytes : List ℕ) (site : Site) (es : List Event) → Roles Quiet es → ArePlainFrom bytes site site es
quiet-from bytes site es h = record { known = (plain-quiet bytes es h).known; lines = passes-quiet bytes site es h }

-- a part of such a name around such events, which begins and ends clear if the tree shows its text
pub plain-around : (bytes : List ℕ) (name : Name) (p q : Point) (inside : List Event) → is_plain (role name) ≡ true →
    (not (is_recorded (role name)) || clear bytes p) ≡ true → (not (is_recorded (role name)) || clear bytes q) ≡ true →
    ArePlain bytes inside →
    ArePlain bytes (around name p q inside)
plain-around bytes name p q inside plain begin end h =
    plain-cons bytes (enter name p) (inside ++ exit name q ∷ []) plain begin
    (plain-append bytes inside (exit name q ∷ []) h (plain-cons bytes (exit name q) [] plain end (plain-nil bytes)))

-- what the plain layer gives
pub chunk-plain : (bytes : List ℕ) (chunk : Chunk) → ArePlain bytes (plain_chunk bytes chunk)
chunk-plain bytes chunk =
    plain-append bytes _ _ (line (same_place chunk.first (line_end bytes chunk)))
    (ending (same_place (line_end bytes chunk) chunk.after))
  where
    line : (b : Bool) → ArePlain bytes (cond b [] (pair n.Data chunk.first (line_end bytes chunk)))
    line true = plain-nil bytes
    line false = plain-quiet bytes (pair n.Data chunk.first (line_end bytes chunk)) (tt, (tt, tt))

    ending : (b : Bool) → ArePlain bytes (cond b [] (pair n.LineEnding (line_end bytes chunk) chunk.after))
    ending true = plain-nil bytes
    ending false =
        plain-untold bytes (pair n.LineEnding (line_end bytes chunk) chunk.after)
        ((refl, refl), ((refl, refl), tt))

-- after a piece of a line
pub past-clear : (bytes xs : List ℕ) (p : Point) → clear bytes p ≡ true → clear bytes (past_text xs p) ≡ true
past-clear bytes [] p h = h
past-clear bytes (b ∷ xs) p h = past-clear bytes xs (past_byte b p) refl
