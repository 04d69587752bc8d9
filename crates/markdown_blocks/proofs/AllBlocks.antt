-- All blocks of a text are those of its front, and then those of its parts.
use Rattle.std.proofs.Common.{◌≡◌, ◌^◌, ◌<◌, ◌-◌, ℕ, List, ◌++◌, length, ap, ap₂, sym}
use Rattle.std.proofs.Common.{◌∙◌, subst, append_assoc}
use Rattle.std.specs.Prelude.{Option, Some, None}
use Rattle.std.specs.Option.{ForSome}
use Rattle.std.proofs.lemmas.List.Elements.{All-append}
use Rattle.md_engine.specs.declared.configuration.ParseOptions.{ParseOptions}
use Rattle.md_engine.specs.declared.event.Event.{Event}
use Rattle.md_engine.specs.declared.event.Point.{Point}
use Rattle.md_engine.specs.Place.{IsPlaced}
use Rattle.md_events.specs.Parts.{ArePlaced}
use Rattle.md_events.specs.Exact.Blocks.{exact}
use Rattle.md_meaning.specs.Label.{Labels, both, labels, no_labels}
use Rattle.md_meaning.specs.Meaning.{tree}
use Rattle.markdown_blocks.specs.declared.parts.Part.{Part}
use Rattle.markdown_blocks.specs.PartRead.{HasUnread, MayRead, labels_after, labels_of, point_in}
use Rattle.markdown_blocks.specs.PartRead.{unread_after}
use Rattle.markdown_blocks.proofs.PartFront.{IsFrontRead, blocks-left, labels-left, may-read}
use Rattle.markdown_blocks.proofs.PartWhole.{text-placed}

-- These are the blocks of a text before the next part, and that may be read.
pub record IsBefore (options : ParseOptions) (text : List ℕ) (all : Part) (next : Option Point) : Type 0 where
  pub events : exact options text ≡ all.events.items ++ unread_after options text next
  pub labels_are : labels (tree options text) ≡ both (labels_of all) (labels_after options text next)
  pub placed : ArePlaced text all.events.items
  pub may : ForSome next (λ p. MayRead options text p)

-- First they are those of the front.
pub front-before : (options : ParseOptions) (text : List ℕ) (p : Point) (all : Part) →
    IsFrontRead options text p all.events.items → labels_of all ≡ no_labels →
    IsBefore options text all (point_in text p)
front-before options text p all front none = record {
  events = blocks-left options text p all.events.items front;
  labels_are =
      sym (labels-left options text p all.events.items front)
      ∙ ap (λ (l : Labels). both l (labels_after options text (point_in text p))) (sym none);
  placed = front.placed;
  may = may-read options text p all.events.items front;
}

-- A part follows.
pub next-before : (options : ParseOptions) (text : List ℕ) (all : Part) (p : Point) (part : Part)
    (next : Option Point) (new : Part) → length text < 2 ^ 61 → IsBefore options text all (Some p) →
    HasUnread options text p part next → ForSome next (λ q. MayRead options text q) →
    new.events.items ≡ all.events.items ++ part.events.items →
    labels_of new ≡ both (labels_of all) (labels_of part) → IsBefore options text new next
next-before options text all p part next new small before has may events labels_are = record {
  events =
      before.events ∙ ap (λ (l : List Event). all.events.items ++ l) has.events
      ∙ sym (append_assoc all.events.items part.events.items (unread_after options text next))
      ∙ ap (λ (l : List Event). l ++ unread_after options text next) (sym events);
  labels_are =
      before.labels_are ∙ ap (both (labels_of all)) has.labels
      ∙ both-assoc (labels_of all) (labels_of part) (labels_after options text next)
      ∙ ap (λ (l : Labels). both l (labels_after options text next)) (sym labels_are);
  placed =
      subst (ArePlaced text) (sym events)
      (All-append (λ (e : Event). IsPlaced text e.point) all.events.items part.events.items before.placed
      (text-placed options text p part next small has));
  may = may;
}
  where
    both-assoc : (a b c : Labels) → both a (both b c) ≡ both (both a b) c
    both-assoc a b c =
        ap₂ (λ (d f : List (List ℕ)). let l : Labels = record { definitions = d; footnotes = f } in l)
        (sym (append_assoc a.definitions b.definitions c.definitions))
        (sym (append_assoc a.footnotes b.footnotes c.footnotes))

-- How many bytes are left of a text from the next part on.
abbrev pub bytes_left : List ℕ → Option Point → ℕ
bytes_left text None = 0
bytes_left text (Some p) = length text - p.index
