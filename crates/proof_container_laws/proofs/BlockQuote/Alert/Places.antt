-- The prefix of an alert, part by part.
use Rattle.std.proofs.Common.{◌≡◌, ℕ, ◌-◌, true, List, [], ◌∷◌, ◌++◌, slice_range, Some, refl, sym, subst, arith}
use Rattle.md_engine.specs.declared.event.Event.{Event}
use Rattle.md_engine.specs.declared.event.Name.TheVariants as n
use Rattle.md_engine.specs.declared.event.Point.{Point}
use Rattle.md_containers.proofs.OpeningLines.{IsMarker, IsOpening}
use Rattle.md_meaning.specs.declared.alert.AlertKind.{AlertKind}
use Rattle.md_outline.specs.Between.{is_between}
use Rattle.md_events.specs.Events.Nested.{exit}
use Rattle.proof_frame.proofs.BetweenFacts.{between-following, low-at}
use Rattle.proof_container_laws.proofs.BlockQuote.Alert.Events.{alert-is, inside_list}
use Rattle.proof_container_laws.proofs.BlockQuote.Alert.Pieces.{bytes-are_valid, marker-low}
use Rattle.proof_container_laws.proofs.BlockQuote.Prefix.{mark-part}
use Rattle.proof_container_laws.proofs.FrontParts.{FrontPart, part-append, part-around, part-pair, part-white}
use Rattle.md_events.proofs.FeedLines.{before-byte}

-- the marker, with the whitespace around it
marker-part : (bytes : List ℕ) (kind : AlertKind) (p q : Point) (es : List Event) → IsMarker bytes kind p q es →
    FrontPart bytes p q es
marker-part bytes kind p q es m =
    let line : List ℕ = slice_range bytes m.opens.index m.closes.index in
    let low = marker-low bytes kind p q es m in
    let some = low.2 in
    let right : is_between bytes m.closes.index ≡ true =
    between-following bytes m.closes.index
    (low-at bytes line m.opens.index m.closes.index (m.closes.index - 1) refl low.0 low.1 (omega (arith, some))
    (omega (arith, some))) in
    subst (FrontPart bytes p q) (sym m.events)
    (part-append (part-white p m.opens m.indent m.white_before)
    (part-append
    (part-pair n.BlockQuoteMarker m.opens m.closes (refl, refl, refl, refl) (λ ys h. h) refl refl
    (before-byte m.opens m.closes some) (bytes-are_valid bytes kind p q es m) (λ from. right))
    (part-white m.closes q m.column m.white_after)))

-- all of the prefix
pub alert-part : (bytes : List ℕ) (kind : AlertKind) (p q : Point) (es : List Event) →
    IsOpening bytes (Some kind) p q es → FrontPart bytes p q es
alert-part bytes kind p q es o =
    let is = o.prefix in
    subst (FrontPart bytes p q) (sym (alert-is bytes kind p q es o))
    (part-append (part-white p is.marker is.indent is.white_before)
    (part-around n.BlockQuotePrefix is.marker q (inside_list is.marker is.following o.middle o.alert)
    (refl, refl, refl, refl) tt refl refl
    (part-append (mark-part bytes p o.middle (o.front ++ exit n.BlockQuotePrefix o.middle ∷ []) is)
    (part-append (part-white is.following o.middle is.column is.white_after)
    (marker-part bytes kind o.middle q o.alert o.marker)))))
