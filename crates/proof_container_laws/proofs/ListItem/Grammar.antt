-- What is before an item's content keeps the grammar of events, and lists can be determined around it.
use Rattle.std.proofs.Common.{◌≡◌, ℕ, ◌+◌, Bool, true, false, cond, List, [], ◌∷◌, ◌++◌, refl, ap, ◌∙◌, arith}
use Rattle.std.proofs.lemmas.Bool.Decides.{nat_tests}
use Rattle.md_engine.specs.declared.event.Event.{Event}
use Rattle.md_engine.specs.declared.event.Name.TheVariants as n
use Rattle.md_engine.specs.declared.event.Point.{Point}
use Rattle.md_containers.specs.Item.{is_item_marker}
use Rattle.md_containers.specs.ItemsAllowed.{InFront, IsMarkerAt, ItemsAllowed, Site, is_list_marker}
use Rattle.md_containers.proofs.UnlistedLemmas.{ItemsLead, Unlists, among, site_following}
use Rattle.md_containers.specs.Unlisted.{unlisted_left}
use Rattle.md_events.specs.Events.Grammar.{Expression, after_block, blocks}
use Rattle.md_events.specs.Events.Inline.{pair_unless_empty}
use Rattle.md_events.specs.Events.Nested.{enter, exit, pair}
use Rattle.md_events.specs.Events.Places.{same_place}
use Rattle.md_events.proofs.GrammarLemmas.{Leads}
use Rattle.proof_frame.proofs.ContainerNames.{TakesPrefixes}
use Rattle.proof_container_laws.proofs.ListItem.Pieces.{is-marker}
use Rattle.proof_container_laws.proofs.ListItem.Prefix.{IsFront, following-index, front-each, front_by, inside_by}
use Rattle.proof_container_laws.proofs.ListItem.Prefix.{marker-byte, marker-whole}

-- Whitespace.

-- where an item continues
pub white-stays : (p q : Point) (text x : Expression) → TakesPrefixes x →
    Leads text (x ∷ []) (x ∷ []) (pair_unless_empty n.SpaceOrTab p q)
white-stays p q text x takes = go (same_place p q)
  where
    go : (same : Bool) → Leads text (x ∷ []) (x ∷ []) (cond same [] (pair n.SpaceOrTab p q))
    go true outer = refl
    go false outer = ap (λ (y : Expression). y ∷ outer) takes.0

-- Where it opens.

-- with the begin of the item, they lead from blocks into those of the item
pub front-leads : (bytes digits : List ℕ) (byte : ℕ) (p q : Point) (es : List Event) →
    IsFront bytes digits byte p q es → (text : Expression) →
    Unlists text (blocks ∷ []) (blocks ∷ after_block ∷ []) (enter n.ListItem p ∷ es)
front-leads bytes digits byte p q es is text outer =
    front-each Leading bytes digits byte p q es is go
  where
    Leading : List Event → Type 0
    Leading xs = unlisted_left text (blocks ∷ outer) (enter n.ListItem p ∷ xs) ≡ blocks ∷ after_block ∷ outer

    go : (bare none same : Bool) → Leading (front_by bare none same p is.start is.marker is.following q)
    go true true true = refl
    go true true false = refl
    go true false true = refl
    go true false false = refl
    go false true true = refl
    go false true false = refl
    go false false true = refl
    go false false false = refl

-- each marker of an item is one of a list
list-marker : (byte : ℕ) → is_item_marker byte ≡ true → is_list_marker byte ≡ true
list-marker byte h = grind (arith, nat_tests)

-- the item shows its marker, and blocks may be in it
pub front-valid : (bytes digits : List ℕ) (byte : ℕ) (p q : Point) (es : List Event) (held : List Bool) →
    IsFront bytes digits byte p q es → ItemsLead bytes (among held) (among (true ∷ held)) (enter n.ListItem p ∷ es)
front-valid bytes digits byte p q es held is =
    front-each Situation bytes digits byte p q es is
    (λ bare none same. record { are_valid = are_valid bare none same; following = reach bare none same })
  where
    Situation : List Event → Type 0
    Situation xs = ItemsLead bytes (among held) (among (true ∷ held)) (enter n.ListItem p ∷ xs)

    a : Point
    a = is.start

    m : Point
    m = is.marker

    b : Point
    b = is.following

    -- before the marker
    front : Site
    front = record { held = true ∷ held; inner = InFront }

    marks : IsMarkerAt bytes m
    marks = record {
      whole = marker-whole bytes digits byte p q es is;
      marker =
          ap is_list_marker (marker-byte bytes digits byte p q es is)
          ∙ list-marker byte (is-marker digits byte is.marks);
    }

    size : b.index ≡ m.index + 1
    size = following-index bytes digits byte p q es is

    tail : (same : Bool) →
        ItemsAllowed bytes (among (true ∷ held)) (cond same [] (pair n.SpaceOrTab b q) ++ exit n.ListItemPrefix q ∷ [])
    tail true = (tt, tt)
    tail false = (tt, (tt, (tt, tt)))

    inner : (none same : Bool) → ItemsAllowed bytes front (inside_by none same a m b q ++ exit n.ListItemPrefix q ∷ [])
    inner true same = (marks, (size, tail same))
    inner false same = (tt, (tt, (marks, (size, tail same))))

    are_valid : (bare none same : Bool) →
        ItemsAllowed bytes (among held) (enter n.ListItem p ∷ front_by bare none same p a m b q)
    are_valid true none same = (refl, (tt, inner none same))
    are_valid false none same = (refl, (tt, (tt, (tt, inner none same))))

    reach : (bare none same : Bool) →
        site_following (among held) (enter n.ListItem p ∷ front_by bare none same p a m b q) ≡ among (true ∷ held)
    reach true true true = refl
    reach true true false = refl
    reach true false true = refl
    reach true false false = refl
    reach false true true = refl
    reach false true false = refl
    reach false false true = refl
    reach false false false = refl
