-- What is known of the whitespace before the begin of a leaf.
use Rattle.std.proofs.Common.{◌≡◌, ℕ, true, List, [], ◌∷◌, refl}
use Rattle.std.specs.Prelude.{IsTrue}
use Rattle.md_engine.specs.declared.event.Event.{Event}
use Rattle.md_engine.specs.declared.event.Name.TheVariants as n
use Rattle.md_engine.specs.declared.event.Point.{Point}
use Rattle.md_events.specs.Events.Grammar.{Expression, blocks}
use Rattle.md_events.specs.Events.Nested.{pair}
use Rattle.md_events.specs.Events.Pieces.{is_valid_piece}
use Rattle.md_events.specs.Events.Places.{at_or_before}
use Rattle.md_events.proofs.EndingsLemmas.{AreOthers}
use Rattle.md_events.proofs.GrammarLemmas as grammar
use Rattle.md_events.proofs.SpelledLemmas.{Quiet}
use Rattle.md_outline.specs.Between.{is_between}
use Rattle.proof_frame.proofs.PartedFacts.{clear}
use Rattle.proof_frame.proofs.PieceFacts.{span}
use Rattle.proof_frame.proofs.Stretch.{Stretch, stretch-none, stretch-pair, white-piece}

-- It is from a point to a point, and shows nothing.
pub record LeadFacts (bytes : List ℕ) (p q : Point) (lead : List Event) : Type 0 where
  pub stretch : Stretch Quiet bytes p q lead lead
  -- it may be before a block
  pub word : (text : Expression) → grammar.Leads text (blocks ∷ []) (blocks ∷ []) lead
  -- no ending is in it, and no begin or end of a leaf
  pub others : AreOthers lead
  -- it ends between characters, and where no tab of one is cut, if it begins so
  pub following : is_between bytes p.index ≡ true → is_between bytes q.index ≡ true
  pub clear : clear bytes p ≡ true → clear bytes q ≡ true

-- none
pub lead-none : (bytes : List ℕ) (p : Point) → LeadFacts bytes p p []
lead-none bytes p = record {
  stretch = stretch-none Quiet bytes p;
  word = λ text outer. refl;
  others = refl;
  following = λ first. first;
  clear = λ first. first;
}

-- spaces and tabs
pub lead-white : (bytes : List ℕ) (p q : Point) → IsTrue (at_or_before p q) →
    is_valid_piece bytes (span n.SpaceOrTab p q) ≡ true →
    (is_between bytes p.index ≡ true → is_between bytes q.index ≡ true) →
    (clear bytes p ≡ true → clear bytes q ≡ true) → LeadFacts bytes p q (pair n.SpaceOrTab p q)
lead-white bytes p q order valid following whole = record {
  stretch =
      stretch-pair Quiet bytes n.SpaceOrTab p q
      (white-piece Quiet bytes tt) order valid;
  word = λ text outer. refl;
  others = refl;
  following = following;
  clear = whole;
}
