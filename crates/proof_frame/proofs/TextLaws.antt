-- The laws of a leaf of lines of text: what the frame asks of it (`TextLeaf`), beside what is known of its events
-- (`text-facts`).
use Rattle.std.proofs.Common.{◌≡◌, ℕ, Bool, true, List, ◌∷◌}
use Rattle.md_engine.specs.declared.configuration.ParseOptions.{ParseOptions}
use Rattle.md_engine.specs.declared.event.Event.{Event}
use Rattle.md_engine.specs.declared.event.Point.{Point}
use Rattle.md_containers.proofs.UnlistedLemmas.{ItemsLead, among}
use Rattle.md_content.specs.ContentReads.{content_events}
use Rattle.md_events.specs.declared.inline.Chunk.{Chunk}
use Rattle.md_events.specs.Events.Nested.{around}
use Rattle.md_events.proofs.SpelledLemmas.{Between, Roles}
use Rattle.md_meaning.specs.State.{ParagraphLine, Leaf, NoLeaf, texts, then_leaf}
use Rattle.md_meaning.specs.Tree.{Blocks}
use Rattle.md_outline.specs.HeadingDepths.{are_shallow}
use Rattle.proof_frame.specs.HeldLeaf.{IsNoneTextOr}
use Rattle.proof_frame.specs.TextLeaf.{TextLeaf}
use Rattle.proof_frame.proofs.OutsideFacts.{AreOutside}

pub record TextLaws (t : TextLeaf) : Type 1 where
  -- What may be open is nothing, lines of it, or one of the leaves that are no text.
  pub cases : (IsSpan P : Leaf → Type 0) → P NoLeaf →
      ((k : ParagraphLine) (ks : List ParagraphLine) → P (t.held (k ∷ ks))) → ((leaf : Leaf) → IsSpan leaf → P leaf) →
      (leaf : Leaf) → IsNoneTextOr IsSpan leaf → P leaf
  -- It is shut as what its lines become, which an outline can show.
  pub shut : (options : ParseOptions) (bs : Blocks) (ks : List ParagraphLine) →
      then_leaf options bs (t.held ks) ≡ t.following options bs (texts ks)
  pub shallow : (options : ParseOptions) (bs : Blocks) (lines : List (List ℕ)) → are_shallow bs ≡ true →
      are_shallow (t.following options bs lines) ≡ true
  -- With what is between blocks in it, it leaves open what is open where it is.
  pub valid : (bytes : List ℕ) (held : List Bool) (p q : Point) (inside : List Event) → Roles Between inside →
      ItemsLead bytes (among held) (among held) (around t.name p q inside)
  -- No part begins in what is read of it that a resolver after that of content rewrites.
  pub outside : (bytes : List ℕ) (options : ParseOptions) (chunks : List Chunk) →
      AreOutside (content_events bytes options chunks)
