-- What is known of the events of a leaf, from the point where its line begins to the one where it ends.
--
-- The frame joins what is before a line, its leaf and what follows it, and needs no more of a leaf than is here. A
-- blank line is such a leaf too, without a block.
use Rattle.std.proofs.Common.{◌≡◌, ℕ, Bool, true, false, List, [], ◌∷◌, ◌+◌, length, ◌≤◌}
use Rattle.std.specs.Prelude.{Option, Some, None, slice_range}
use Rattle.md_engine.specs.declared.event.Event.{Event}
use Rattle.md_engine.specs.declared.event.Point.{Point}
use Rattle.md_containers.proofs.UnlistedLemmas.{ItemsLead, among}
use Rattle.md_events.specs.Events.Endings.{EndingPlace, line_start}
use Rattle.md_events.specs.Events.Grammar.{blocks, plain_text, unread_text}
use Rattle.md_events.specs.Events.Places.{past_text}
use Rattle.md_events.specs.Events.Spelled.{Reading, add_block, read}
use Rattle.md_meaning.specs.Rest.{Rest}
use Rattle.md_meaning.specs.Tree.{Block}
use Rattle.md_events.proofs.EndingsLemmas as ending
use Rattle.md_events.proofs.GrammarLemmas as grammar
use Rattle.md_events.proofs.RestCells.{Cut}
use Rattle.md_meaning.proofs.TextsLemmas.{NoEnding}
use Rattle.proof_frame.specs.RestLine.{rest_line}
use Rattle.proof_frame.proofs.GrammarFronts.{blocks_after}
use Rattle.proof_frame.proofs.PartedFacts.{clear}
use Rattle.proof_frame.proofs.PieceFacts.{CutsFirst}
use Rattle.proof_frame.proofs.EventNames.{NoContainer}
use Rattle.proof_frame.proofs.PlainFacts.{ArePlain}
use Rattle.proof_frame.proofs.Stretch.{Stretch}

-- a rest of a line, as it is in a text: its bytes, a tab that a prefix has cut among them, and where it begins and ends
pub record LineAt (bytes : List ℕ) (r : Rest) (line : List ℕ) (p q : Point) : Type 0 where
  pub line_is : line ≡ rest_line r
  pub no_ending : NoEnding line
  pub text : slice_range bytes p.index q.index ≡ line
  pub size : q.index ≡ p.index + length line
  pub end : q ≡ past_text line p
  pub first_column : 1 ≤ p.column
  pub end_whole : q.vs ≡ 0
  -- a tab that is cut is its first byte
  pub cut_first : CutsFirst p line
  pub cut : Cut r.spaces p

-- where the line is after a leaf, as its ending asks: after one that fills its last line, or where it began
abbrev pub spot_after : Bool → EndingPlace
spot_after true = ending.following_leaf
spot_after false = line_start

-- what is read with this block more, if there is one
abbrev pub shown : Option Block → Reading → Reading
shown None r = r
shown (Some block) r = add_block block r

-- These events are from a point to a point before text parts are read, and those once they are, as a leaf does whatever
-- it is read as; something is on their last line, or nothing does.
pub record EventFacts (bytes : List ℕ) (full : Bool) (p q : Point) (unread done : List Event) : Type 0 where
  pub stretch : Stretch NoContainer bytes p q unread done
  -- whether the grammar is after a block there, or where blocks may begin as at first
  pub following : Bool
  -- they keep the grammar
  pub unread_word : grammar.Leads unread_text (blocks ∷ []) (blocks_after following ∷ []) unread
  pub word : grammar.Leads plain_text (blocks ∷ []) (blocks_after following ∷ []) done
  -- and where their line ends
  pub unread_ending : ending.Leads line_start (spot_after full) unread
  pub ending : ending.Leads line_start (spot_after full) done
  -- they are where blocks may be, and may be outlined
  pub valid : (held : List Bool) → ItemsLead bytes (among held) (among held) done
  pub plain : clear bytes p ≡ true → ArePlain bytes done

-- They show this block, or none.
pub record LeafFacts (bytes : List ℕ) (block : Option Block) (full : Bool) (p q : Point)
    (unread done : List Event) : Type 0 where
  pub are_valid : EventFacts bytes full p q unread done
  -- they are read as their block
  pub reads : (r : Reading) → r.text ≡ None → r.leaf ≡ None → read bytes r done ≡ shown block r
