-- The names of the events of a heading: it is no leaf of several lines, no text and no underline, nor is any of its
-- parts; and it holds no other block.
use Rattle.std.proofs.Common.{◌≡◌, ℕ, ◌+◌, Bool, true, false, cond, List, [], ◌∷◌, ◌++◌, drop, length, refl, take}
use Rattle.std.specs.Prelude.{Option, Some, None}
use Rattle.md_engine.specs.declared.event.Event.{Event}
use Rattle.md_engine.specs.declared.event.Name.{Name}
use Rattle.md_engine.specs.declared.event.Name.TheVariants as n
use Rattle.md_engine.specs.declared.event.Point.{Point}
use Rattle.md_leaves.specs.HeadingRuns.{Apart, Hashes, Run, White, begun, closes, is_continued, line_runs, linked_data}
use Rattle.md_leaves.specs.HeadingRuns.{opens}
use Rattle.md_leaves.specs.HeadingText.{linked_text}
use Rattle.md_leaves.specs.HeadingTitle.{Title, flow_title, front_len, text_of, title_of, unread_title}
use Rattle.md_events.specs.declared.inline.Chunk.{Chunk}
use Rattle.md_events.specs.Events.Nested.{exit}
use Rattle.md_events.specs.Events.Places.{past_byte, past_text}
use Rattle.proof_leaf_laws.specs.Leaf.HeadingAtx.{heading_around, heading_leaf}
use Rattle.md_order.specs.Alone.{InHeading, closed_by, is_set}
use Rattle.proof_frame.proofs.ClosedFacts.{IsBlock, IsClosed, IsUnset, closed-around, stays-open}
use Rattle.proof_frame.proofs.EachEvent.{Each, each-append}
use Rattle.proof_leaf_laws.proofs.HeadingAtx.Places.{text_end}
use Rattle.proof_frame.proofs.SpannedFacts.{AreUnspanned, IsUnspanned}
use Rattle.proof_frame.proofs.UnturnedFacts.{AreUnturned, IsUnturned}

-- what holds of an event of each of these names, whatever else it is
record OfNames (P : Event → Type 0) : Type 0 where
  white : (e : Event) → e.name ≡ n.SpaceOrTab → P e
  hashes : (e : Event) → e.name ≡ n.HeadingAtxSequence → P e
  text : (e : Event) → e.name ≡ n.HeadingAtxText → P e
  chunk : (e : Event) → e.name ≡ n.Data → P e

closes-each : (P : Event → Type 0) → OfNames P → (run : Run) (p : Point) → Each P (closes run p)
closes-each P of Apart p = tt
closes-each P of White p = (of.white _ refl, tt)
closes-each P of Hashes p = (of.hashes _ refl, tt)

opens-each : (P : Event → Type 0) → OfNames P → (run : Run) (p : Point) → Each P (opens run p)
opens-each P of Apart p = tt
opens-each P of White p = (of.white _ refl, tt)
opens-each P of Hashes p = (of.hashes _ refl, tt)

runs-each : (P : Event → Type 0) → OfNames P → (run : Run) (bs : List ℕ) (p : Point) → Each P (line_runs run bs p)
runs-each P of run [] p = closes-each P of run p
runs-each P of run (b ∷ bs) p =
    go (is_continued run b) (runs-each P of run bs (past_byte b p)) (runs-each P of (begun b) bs (past_byte b p))
  where
    next : List Event
    next = line_runs (begun b) bs (past_byte b p)

    go : (more : Bool) → Each P (line_runs run bs (past_byte b p)) → Each P next →
        Each P (cond more (line_runs run bs (past_byte b p)) (closes run p ++ opens (begun b) p ++ next))
    go true same other = same
    go false same other =
        each-append P (closes run p ++ opens (begun b) p) next
        (each-append P (closes run p) (opens (begun b) p) (closes-each P of run p) (opens-each P of (begun b) p)) other

text-each : (P : Event → Type 0) → OfNames P → (text : Option Chunk) → Each P (linked_text text)
text-each P of None = tt
text-each P of (Some chunk) = (of.text _ refl, (of.chunk _ refl, (of.chunk _ refl, (of.text _ refl, tt))))

data-each : (P : Event → Type 0) → OfNames P → (text : Option Chunk) → Each P (linked_data text)
data-each P of None = tt
data-each P of (Some chunk) = (of.chunk _ refl, (of.chunk _ refl, tt))

-- and of what is around these events
title-each : (P : Event → Type 0) → OfNames P → (line : List ℕ) (p : Point) (text : List Event) → Each P text →
    Each P ((title_of line p).front ++ text ++ (title_of line p).back)
title-each P of line p text h =
    let title : Title = title_of line p in
    each-append P (title.front ++ text) title.back
    (each-append P title.front text (runs-each P of Apart (take (front_len line) line) p) h)
    (runs-each P of Apart (drop (front_len line + length (text_of line)) line) (text_end line p))

unread-each : (P : Event → Type 0) → OfNames P → (line : List ℕ) (p : Point) →
    Each P (unread_title (title_of line p))
unread-each P of line p =
    title-each P of line p (linked_text (title_of line p).text) (text-each P of (title_of line p).text)

flow-each : (P : Event → Type 0) → OfNames P → (line : List ℕ) (p : Point) → Each P (flow_title (title_of line p))
flow-each P of line p =
    title-each P of line p (linked_data (title_of line p).text) (data-each P of (title_of line p).text)

-- and of the heading itself
around-each : (P : Event → Type 0) → ((e : Event) → e.name ≡ n.HeadingAtx → P e) → (line : List ℕ) (p : Point)
    (inside : List Event) → Each P inside → Each P (heading_around line p inside)
around-each P around_it line p inside h = (
  around_it _ refl,
  each-append P inside (exit n.HeadingAtx (past_text line p) ∷ []) h (around_it _ refl, tt),
)

-- No line of a leaf of several begins or ends with them, as its states leave it, and once its text is set.

unspanned-parts : OfNames IsUnspanned
unspanned-parts = record {
  white = λ e is. rw is refl;
  hashes = λ e is. rw is refl;
  text = λ e is. rw is refl;
  chunk = λ e is. rw is refl;
}

pub heading-unjoined : (line : List ℕ) (p : Point) →
    AreUnspanned (heading_around line p (flow_title (title_of line p)))
heading-unjoined line p =
    around-each IsUnspanned (λ e is. rw is refl) line p (flow_title (title_of line p))
    (flow-each IsUnspanned unspanned-parts line p)

pub heading-unspanned : (line : List ℕ) (p : Point) → AreUnspanned (heading_leaf.unread line p)
heading-unspanned line p =
    around-each IsUnspanned (λ e is. rw is refl) line p (unread_title (title_of line p))
    (unread-each IsUnspanned unspanned-parts line p)

-- None is of a text or an underline.

unturned-parts : OfNames IsUnturned
unturned-parts = record {
  white = λ e is. rw is refl;
  hashes = λ e is. rw is refl;
  text = λ e is. rw is refl;
  chunk = λ e is. rw is refl;
}

pub heading-added_unturned : (line : List ℕ) (p : Point) →
    AreUnturned (heading_around line p (flow_title (title_of line p)))
heading-added_unturned line p =
    around-each IsUnturned (λ e is. rw is refl) line p (flow_title (title_of line p))
    (flow-each IsUnturned unturned-parts line p)

pub heading-unturned : (line : List ℕ) (p : Point) → AreUnturned (heading_leaf.unread line p)
heading-unturned line p =
    around-each IsUnturned (λ e is. rw is refl) line p (unread_title (title_of line p))
    (unread-each IsUnturned unturned-parts line p)

-- None in it is of another block, and no other ends it.

unset-heading : (name : Name) → is_set name ≡ false → closed_by InHeading name ≡ false
unset-heading n.HeadingAtx h = cc
unset-heading _ h = refl

heading-block : IsBlock n.HeadingAtx
heading-block = record {
  inside = InHeading;
  opens = refl;
  valid = λ e h proceeds. h;
  stays = λ e h. stays-open InHeading e (unset-heading e.name h);
  ends = λ q proceeds. cc;
  shuts = λ q. refl;
}

pub heading-alone : (line : List ℕ) (p : Point) → IsClosed (heading_around line p (flow_title (title_of line p)))
heading-alone line p =
    closed-around n.HeadingAtx heading-block p (past_text line p) (flow_title (title_of line p))
    (flow-each IsUnset
    (record {
      white = λ e is. rw is refl;
      hashes = λ e is. rw is refl;
      text = λ e is. rw is refl;
      chunk = λ e is. rw is refl;
    }) line p)
