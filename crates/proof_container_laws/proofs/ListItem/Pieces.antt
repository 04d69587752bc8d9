-- The digits and the marker of a list item are over their bytes.
use Rattle.std.proofs.Common.{◌≡◌, ℕ, true, List, [], ◌∷◌, length, refl, arith}
use Rattle.std.specs.Prelude.{nat_le}
use Rattle.std.specs.List.{list_all}
use Rattle.std.proofs.lemmas.Bool.{and_from}
use Rattle.std.proofs.lemmas.Bool.Decides.{nat_tests}
use Rattle.md_engine.specs.declared.event.Event.{Event}
use Rattle.md_engine.specs.declared.event.Name.TheVariants as n
use Rattle.md_engine.specs.declared.event.Point.{Point}
use Rattle.md_containers.proofs.ItemOpens.{IsMarker}
use Rattle.md_containers.specs.Item.{is_item_marker}
use Rattle.md_meaning.specs.Containers.{is_digit}
use Rattle.md_events.specs.Events.Pieces.{is_valid_piece, may_cover}
use Rattle.proof_container_laws.proofs.ListItem.Prefix.{IsFront, marker-text, marker-whole}
use Rattle.proof_frame.proofs.PieceFacts.{begins-whole, over-front, over-valid, span}

-- Bytes.

-- each marker is one of an item, and one after digits ends them
pub is-marker : (digits : List ℕ) (byte : ℕ) → IsMarker digits byte → is_item_marker byte ≡ true
is-marker [] byte h = rw h refl
is-marker (d ∷ ds) byte h = grind (arith, nat_tests, h.2)

over-marker : (byte : ℕ) → is_item_marker byte ≡ true → may_cover n.ListItemMarker (byte ∷ []) ≡ true
over-marker byte h = grind (arith, nat_tests)

pub over-value : (d byte : ℕ) (ds : List ℕ) → IsMarker (d ∷ ds) byte → may_cover n.ListItemValue (d ∷ ds) ≡ true
over-value d byte ds h =
    let few : nat_le (length (d ∷ ds)) 9 ≡ true = grind (arith, nat_tests, h.1) in
    and_from (nat_le (length (d ∷ ds)) 9) (list_all is_digit (d ∷ ds)) few h.0

-- Its place.

pub marker-valid : (bytes digits : List ℕ) (byte : ℕ) (p q : Point) (es : List Event) →
    (is : IsFront bytes digits byte p q es) → is_valid_piece bytes (span n.ListItemMarker is.marker is.following) ≡ true
marker-valid bytes digits byte p q es is =
    over-valid bytes n.ListItemMarker is.marker is.following (byte ∷ [])
    (over-front bytes is.marker is.following (byte ∷ []) is.more (marker-text bytes digits byte p q es is) (omega arith)
    is.following_is)
    (begins-whole n.ListItemMarker is.marker (marker-whole bytes digits byte p q es is))
    (over-marker byte (is-marker digits byte is.marks))
