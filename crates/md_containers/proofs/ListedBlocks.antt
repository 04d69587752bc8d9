-- Events with lists around their items are a block list, and cover the text, if they did with items in the places of
-- lists.
use Rattle.std.proofs.Common.{ℕ, List, [], refl, sym, subst, ◌∙◌}
use Rattle.std.specs.Prelude.{IsTrue}
use Rattle.md_engine.specs.declared.event.Event.{Event}
use Rattle.md_containers.specs.ItemsHeld.{ItemsHeld}
use Rattle.md_containers.specs.Listed.{listed}
use Rattle.md_containers.specs.Unlisted.{keeps_unlisted}
use Rattle.md_containers.proofs.ListedChunks.{listed-chunks}
use Rattle.md_containers.proofs.ListedGrammar.{listed-grammar}
use Rattle.md_containers.proofs.ListedKept.{listed-endings, listed-pieces, listed-placed}
use Rattle.md_containers.proofs.ListedNests.{listed-nested}
use Rattle.md_containers.proofs.ListedParts.{listed-valid}
use Rattle.md_events.specs.Events.Endings.{endings_are_right}
use Rattle.md_events.specs.Events.Grammar.{unread_text}
use Rattle.md_events.specs.Events.Inline.{Covers, Piece, pieces}
use Rattle.md_events.specs.Events.Nested.{Nested}
use Rattle.md_events.specs.Events.Pieces.{are_valid_pieces}
use Rattle.md_events.specs.Events.Places.{are_placed, first_point}
use Rattle.md_events.specs.Events.Tiles.{IsBlockList, chunks_in_parts, end_point, are_whole_parts}

-- What a block list is before lists are put around its items: items are where lists may, directly in blocks.
pub record IsUnlisted (bytes : List ℕ) (events : List Event) : Type 0 where
  pub nested : Nested events
  pub items : ItemsHeld [] events
  pub placed : IsTrue (are_placed bytes events)
  pub lines : IsTrue (are_whole_parts bytes events)
  pub chunks : IsTrue (chunks_in_parts 0 events)
  pub grammar : IsTrue (keeps_unlisted unread_text events)
  pub pieces_are : IsTrue (are_valid_pieces bytes (pieces events))
  pub endings : IsTrue (endings_are_right events)

pub listed-blocks : (bytes : List ℕ) (events : List Event) → IsUnlisted bytes events →
    IsBlockList bytes (listed bytes events)
listed-blocks bytes events is = record {
  nested = listed-nested bytes events is.nested is.items;
  placed = listed-placed bytes bytes events ∙ is.placed;
  lines = listed-valid bytes bytes events ∙ is.lines;
  chunks = listed-chunks bytes events ∙ is.chunks;
  grammar = listed-grammar unread_text refl bytes events is.nested is.items is.grammar;
  pieces_are =
      subst (λ (ps : List Piece). IsTrue (are_valid_pieces bytes ps)) (sym (listed-pieces bytes events)) is.pieces_are;
  endings = listed-endings bytes events ∙ is.endings;
}

pub listed-covers : (bytes : List ℕ) (events : List Event) → Covers first_point (pieces events) (end_point bytes) →
    Covers first_point (pieces (listed bytes events)) (end_point bytes)
listed-covers bytes events covers =
    subst (λ (ps : List Piece). Covers first_point ps (end_point bytes)) (sym (listed-pieces bytes events)) covers
