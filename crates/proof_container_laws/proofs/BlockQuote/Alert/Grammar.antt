-- The prefix of an alert keeps the grammar of events.
use Rattle.std.proofs.Common.{◌≡◌, ℕ, Bool, true, false, cond, List, [], ◌∷◌, ◌++◌, Some, refl, sym, subst}
use Rattle.md_engine.specs.declared.event.Event.{Event}
use Rattle.md_engine.specs.declared.event.Name.TheVariants as n
use Rattle.md_engine.specs.declared.event.Point.{Point}
use Rattle.md_containers.proofs.OpeningLines.{IsMarker, IsOpening}
use Rattle.md_meaning.specs.declared.alert.AlertKind.{AlertKind}
use Rattle.md_events.specs.Events.Grammar.{Expression, following, after_block, blocks, inside, left_of}
use Rattle.md_events.specs.Events.Inline.{pair_unless_empty}
use Rattle.md_events.specs.Events.Nested.{around, enter, pair}
use Rattle.md_events.specs.Events.Places.{same_place}
use Rattle.md_events.proofs.GrammarLemmas.{Leads, leads-append, leads-unless, maybe}
use Rattle.proof_container_laws.proofs.BlockQuote.Alert.Events.{alert-is, inside_list, marker_list}

-- the prefix from `>` on may be where that is left after it
leads-part : (text x : Expression) (marker past middle left right q : Point) →
    Leads text (x ∷ []) (following n.BlockQuotePrefix x ∷ [])
    (around n.BlockQuotePrefix marker q (inside_list marker past middle (marker_list middle left right q)))
leads-part text x marker past middle left right q outer =
    go (same_place past middle) (same_place middle left) (same_place right q)
  where
    go : (none before after : Bool) →
        left_of text (x ∷ outer)
        (around n.BlockQuotePrefix marker q
        (pair n.BlockQuoteMarker marker past
        ++ (cond none [] (pair n.SpaceOrTab past middle)
        ++ (cond before [] (pair n.SpaceOrTab middle left)
        ++ (pair n.BlockQuoteMarker left right ++ cond after [] (pair n.SpaceOrTab right q)))))) ≡
        following n.BlockQuotePrefix x ∷ outer
    go true true true = refl
    go true true false = refl
    go true false true = refl
    go true false false = refl
    go false true true = refl
    go false true false = refl
    go false false true = refl
    go false false false = refl

part-leads : (bytes : List ℕ) (kind : AlertKind) (text x : Expression) (marker past middle q : Point)
    (alert : List Event) →
    IsMarker bytes kind middle q alert →
    Leads text (x ∷ []) (following n.BlockQuotePrefix x ∷ [])
    (around n.BlockQuotePrefix marker q (inside_list marker past middle alert))
part-leads bytes kind text x marker past middle q alert m =
    subst
    (λ (es : List Event).
    Leads text (x ∷ []) (following n.BlockQuotePrefix x ∷ [])
    (around n.BlockQuotePrefix marker q (inside_list marker past middle es))) (sym m.events)
    (leads-part text x marker past middle m.opens m.closes q)

-- where it opens, with its begin
pub alert-begins : (bytes : List ℕ) (kind : AlertKind) (p q : Point) (es : List Event) →
    IsOpening bytes (Some kind) p q es → (text : Expression) →
    Leads text (blocks ∷ []) (blocks ∷ after_block ∷ []) (enter n.BlockQuote p ∷ es)
alert-begins bytes kind p q es o text outer =
    subst (Leads text (quote ∷ []) (blocks ∷ [])) (sym (alert-is bytes kind p q es o))
    (go (leads-unless text quote n.SpaceOrTab p marker refl)) (after_block ∷ outer)
  where
    quote : Expression
    quote = inside text n.BlockQuote

    marker : Point
    marker = o.prefix.marker

    indent : List Event
    indent = pair_unless_empty n.SpaceOrTab p marker

    part : List Event
    part = around n.BlockQuotePrefix marker q (inside_list marker o.prefix.following o.middle o.alert)

    same : (some : Bool) → following n.BlockQuotePrefix (maybe some n.SpaceOrTab quote) ≡ blocks
    same true = refl
    same false = refl

    go : (some : Bool) × Leads text (quote ∷ []) (maybe some n.SpaceOrTab quote ∷ []) indent →
        Leads text (quote ∷ []) (blocks ∷ []) (indent ++ part)
    go w =
        let room : Expression = maybe w.0 n.SpaceOrTab quote in
        subst (λ (z : Expression). Leads text (quote ∷ []) (z ∷ []) (indent ++ part)) (same w.0)
        (leads-append text (quote ∷ []) (room ∷ []) (following n.BlockQuotePrefix room ∷ []) indent part w.1
        (part-leads bytes kind text room marker o.prefix.following o.middle q o.alert o.marker))
