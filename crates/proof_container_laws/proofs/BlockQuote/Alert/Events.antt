-- The events of the prefix of the line on which an alert opens: the prefix of any line of a quote, and the marker of
-- the alert inside of it.
use Rattle.std.proofs.Common.{◌≡◌, ℕ, List, [], ◌∷◌, ◌++◌, Some, None, ap, ap₂, sym, ◌∙◌, append_assoc, append-nil}
use Rattle.std.proofs.Common.{subst₂}
use Rattle.std.proofs.lemmas.List.{append_cancel_right}
use Rattle.md_engine.specs.declared.event.Event.{Event}
use Rattle.md_engine.specs.declared.event.Name.TheVariants as n
use Rattle.md_engine.specs.declared.event.Point.{Point}
use Rattle.md_containers.proofs.OpeningLines.{IsOpening}
use Rattle.md_containers.proofs.QuoteLines.{IsPrefix}
use Rattle.md_meaning.specs.declared.alert.AlertKind.{AlertKind}
use Rattle.md_events.specs.Events.Inline.{pair_unless_empty}
use Rattle.md_events.specs.Events.Nested.{around, enter, exit, pair}

-- the events of the prefix of any line, but for its end
abbrev pub front_list : Point → Point → Point → Point → List Event
front_list p marker following q =
    pair_unless_empty n.SpaceOrTab p marker ++ enter n.BlockQuotePrefix marker ∷ enter n.BlockQuoteMarker marker
    ∷ exit n.BlockQuoteMarker following ∷ pair_unless_empty n.SpaceOrTab following q

-- those of the marker of an alert
abbrev pub marker_list : Point → Point → Point → Point → List Event
marker_list p left right q =
    pair_unless_empty n.SpaceOrTab p left ++ enter n.BlockQuoteMarker left ∷ exit n.BlockQuoteMarker right
    ∷ pair_unless_empty n.SpaceOrTab right q

-- what a prefix is around
abbrev pub inside_list : Point → Point → Point → List Event → List Event
inside_list marker following middle alert =
    pair n.BlockQuoteMarker marker following ++ (pair_unless_empty n.SpaceOrTab following middle ++ alert)

-- a prefix without its end
pub front-is : (bytes : List ℕ) (kind : AlertKind) (p q : Point) (es : List Event) →
    (o : IsOpening bytes (Some kind) p q es) →
    o.front ≡ front_list p o.prefix.marker o.prefix.following o.middle
front-is bytes kind p q es o =
    append_cancel_right o.front (front_list p o.prefix.marker o.prefix.following o.middle)
    (exit n.BlockQuotePrefix o.middle ∷ []) o.prefix.events

-- the whole, as parts around others
pub alert-is : (bytes : List ℕ) (kind : AlertKind) (p q : Point) (es : List Event) →
    (o : IsOpening bytes (Some kind) p q es) →
    es ≡
    pair_unless_empty n.SpaceOrTab p o.prefix.marker
    ++ around n.BlockQuotePrefix o.prefix.marker q (inside_list o.prefix.marker o.prefix.following o.middle o.alert)
alert-is bytes kind p q es o =
    let indent : List Event = pair_unless_empty n.SpaceOrTab p o.prefix.marker in
    let front : List Event = enter n.BlockQuotePrefix o.prefix.marker ∷ enter n.BlockQuoteMarker o.prefix.marker
    ∷ exit n.BlockQuoteMarker o.prefix.following ∷ pair_unless_empty n.SpaceOrTab o.prefix.following o.middle in
    let end : List Event = exit n.BlockQuotePrefix q ∷ [] in
    o.events ∙ ap (λ (l : List Event). (l ++ o.alert) ++ end) (front-is bytes kind p q es o)
    ∙ ap (λ (l : List Event). l ++ end) (append_assoc indent front o.alert)
    ∙ append_assoc indent (front ++ o.alert) end

-- where the quote is no alert, that is the prefix of any line
pub no_alert-prefix : (bytes : List ℕ) (p q : Point) (es : List Event) → IsOpening bytes None p q es →
    IsPrefix bytes p q es
no_alert-prefix bytes p q es o =
    subst₂ (λ (x : Point) (l : List Event). IsPrefix bytes p x l) (sym o.marker.1)
    (sym
    (o.events
    ∙ ap₂ (λ (a : List Event) (x : Point). (o.front ++ a) ++ exit n.BlockQuotePrefix x ∷ []) o.marker.0 o.marker.1
    ∙ ap (λ (l : List Event). l ++ exit n.BlockQuotePrefix o.middle ∷ []) (append-nil o.front)))
    o.prefix
