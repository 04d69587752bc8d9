-- Where the leaf of a line begins: the states there have what they require, also where leaves are tried after the one
-- that is asked first has refused the line.
use Rattle.std.proofs.Common.{◌≡◌, ◌⊎◌, inl, inr, ℕ, Bool, true, false, List, refl, sym, ap, ◌∙◌, subst, None}
use Rattle.md_engine.specs.declared.configuration.ParseOptions.{ParseOptions}
use Rattle.md_engine.specs.declared.event.Point.{Point}
use Rattle.md_engine.specs.declared.state.Name.TheVariants as s
use Rattle.md_engine.specs.declared.state.State.TheVariants.{Next}
use Rattle.md_engine.specs.declared.state.flow.State.TheVariants as flow
use Rattle.md_engine.specs.declared.tokenizer.container.name.ContainerKind.{ContainerKind}
use Rattle.md_engine.specs.declared.tokenizer.container.name.ContainerKind.TheVariants as kind
use Rattle.md_engine.specs.Meaning.{Cell}
use Rattle.md_engine.specs.Scheme.{valid}
use Rattle.md_engine.specs.TextFeed.{text_feed}
use Rattle.md_engine.specs.World.{World}
use Rattle.md_events.specs.Spaces.{IsRest}
use Rattle.md_events.specs.Exact.Places.{TextLine}
use Rattle.md_flow.proofs.LineRule.Leaf.{next-blank}
use Rattle.md_flow.proofs.LineRule.Refused.{not-continued}
use Rattle.md_flow.specs.LineRule.{IsMet, IsMetFirst, IsNext, first_state, further_state, is_asked_first, opener_state}
use Rattle.md_meaning.specs.Leaves.{is_continued}
use Rattle.md_meaning.specs.Rest.{Rest, is_blank}
use Rattle.md_meaning.specs.State.{Container, InFootnote, InItem, InQuote, Leaf, NoLeaf, spot}
use Rattle.md_registry.specs.OpenSpan.{IsBuiltLeaf}
use Rattle.md_registry.specs.States.{flow_table_scheme}
use Rattle.proof_frame.specs.HeldLeaf.{kind_of_leaf, met_by}
use Rattle.proof_frame.specs.LeafName.{CodeIndented, LeafName}
use Rattle.proof_rows.specs.TextRows.{text_setting}
use Rattle.markdown_blocks.specs.Fed.{IsAtRest, IsFrontMet, path_after}
use Rattle.markdown_blocks.proofs.LeafTried.{FrontAt, HasMet, IsRefused}
use Rattle.markdown_blocks.proofs.LineMet.{still_after}

-- The leaf that is open after so many lines is held so.
pub record IsStill (options : ParseOptions) (bytes : List ℕ) (p : Point) (n : ℕ) : Type 0 where
  pub same : kind_of_leaf (spot (path_after options bytes p n)).leaf ≡ still_after options bytes p n
  pub built : IsBuiltLeaf (spot (path_after options bytes p n)).leaf

-- First states are at rest.

pub first-rest : (l : LeafName) (v : World) → valid flow_table_scheme v (Next (first_state l)) → IsRest v.scratch
first-rest CodeIndented v at = at.0
first-rest _ v at = at.0

pub opens-rest : (k : ContainerKind) (v : World) → valid flow_table_scheme v (Next (opener_state k)) →
    IsRest v.scratch
opens-rest kind.BlockQuote v at = at.0
opens-rest kind.ListItem v at = at.0
opens-rest kind.GfmFootnoteDefinition v at = at.0

pub further-rest : (c : Container) (v : World) → valid flow_table_scheme v (Next (further_state c)) → IsRest v.scratch
further-rest (InQuote alert) v at = at.0
further-rest (InItem digits marker width blank) v at = at.0.0
further-rest (InFootnote label) v at = at.0.0

module _ (bytes : List ℕ) (options : ParseOptions) (p : Point) (n : ℕ) (is : IsStill options bytes p n) (w : World)
    (ready : IsAtRest w) where
  abbrev still_open : Leaf
  still_open = (spot (path_after options bytes p n)).leaf

  abbrev cells_here : List Cell
  cells_here = text_feed (text_setting bytes options p) w.point

  -- by the leaf that the line has met
  met-by : (Holds : Rest → Bool → Leaf → Type 0) (all : Bool) (open_leaf : Leaf) →
      (open_leaf ≡ still_open) ⊎ (open_leaf ≡ NoLeaf) → IsBuiltLeaf open_leaf →
      ((line : TextLine) (r : Rest) (stop : List Cell) → IsNext bytes line r w.point cells_here stop →
      Holds r all open_leaf) →
      IsFrontMet bytes options p n w Holds
  met-by Holds all open_leaf which built holds = record {
    ready = ready;
    all = all;
    open_leaf = open_leaf;
    is = which;
    built = built;
    holds = holds;
  }

  pub asked-front : w.flags.blank ≡ false → HasMet w.flags.leaf (still_after options bytes p n) →
      IsFrontMet bytes options p n w (IsMetFirst w)
  asked-front blank (inl (all, met)) =
      met-by (IsMetFirst w) all still_open (inl refl) is.built
      (λ line r stop next. (met ∙ ap (met_by all) (sym is.same), blank))
  asked-front blank (inr none) =
      met-by (IsMetFirst w) true NoLeaf (inr refl) tt (λ line r stop next. (none, blank))

  -- a line that is not blank is known to be none
  filled : FrontAt options cells_here (s.Flow flow.Start) w.flags → (line : TextLine) (r : Rest) (stop : List Cell) →
      IsNext bytes line r w.point cells_here stop → is_blank r.bytes ≡ false → w.flags.blank ≡ false
  filled front line r stop next some = front.0 (next-blank bytes line r w.point cells_here stop next ∙ some)

  -- one that continues the leaf that is asked first was taken
  refused-here : w.setting.options ≡ options → FrontAt options cells_here (s.Flow flow.Start) w.flags → (all : Bool) →
      w.flags.leaf ≡ met_by all (kind_of_leaf still_open) → (line : TextLine) (r : Rest) (stop : List Cell) →
      IsNext bytes line r w.point cells_here stop → all ≡ true → is_asked_first still_open ≡ true →
      is_continued w.setting.options still_open r ≡ None
  refused-here kept front all met line r stop next continues first =
      ap (λ (o : ParseOptions). is_continued o still_open r) kept
      ∙ not-continued options bytes line r w.point cells_here stop still_open is.built next
      (subst (IsRefused options cells_here)
      (met ∙ ap (λ (x : Bool). met_by x (kind_of_leaf still_open)) continues) front.1) first

  pub tried-front : w.setting.options ≡ options → HasMet w.flags.leaf (still_after options bytes p n) →
      FrontAt options cells_here (s.Flow flow.Start) w.flags → IsFrontMet bytes options p n w (IsMet w)
  tried-front kept (inr none) front =
      met-by (IsMet w) true NoLeaf (inr refl) tt
      (λ line r stop next.
      record { holds = none; refused = λ continues first. cc; blank = filled front line r stop next })
  tried-front kept (inl (all, met)) front =
      let on : w.flags.leaf ≡ met_by all (kind_of_leaf still_open) = met ∙ ap (met_by all) (sym is.same) in
      met-by (IsMet w) all still_open (inl refl) is.built
      (λ line r stop next.
      record {
        holds = on;
        refused = refused-here kept front all on line r stop next;
        blank = filled front line r stop next;
      })
