-- What is before an item's content, part by part.
use Rattle.std.proofs.Common.{◌≡◌, ◌≢◌, ℕ, ◌+◌, Bool, true, false, cond, List, [], ◌∷◌, ◌++◌, refl, ap, sym, ◌∙◌}
use Rattle.std.proofs.Common.{subst, arith, drop}
use Rattle.std.specs.Prelude.{IsTrue, slice_index}
use Rattle.std.proofs.lemmas.Bool.Decides.{nat_tests}
use Rattle.md_engine.specs.declared.event.Event.{Event}
use Rattle.md_engine.specs.declared.event.Name.TheVariants as n
use Rattle.md_engine.specs.declared.event.Point.{Point}
use Rattle.md_containers.proofs.ItemOpens.{IsMarker}
use Rattle.md_containers.specs.Item.{is_item_marker}
use Rattle.md_events.specs.Events.Nested.{enter, exit, pair}
use Rattle.md_events.specs.Events.Places.{at_or_before, same_place, past_text}
use Rattle.md_events.proofs.InlineLemmas.{before-text, same-refl}
use Rattle.md_outline.specs.Between.{is_between}
use Rattle.proof_frame.proofs.BetweenFacts.{between-before, is_low}
use Rattle.proof_container_laws.proofs.FrontParts.{FrontPart, low-past, part-append, part-around, part-none, part-pair}
use Rattle.proof_container_laws.proofs.FrontParts.{part-white, recorded-whole}
use Rattle.proof_frame.proofs.EachEvent.{Each, each-as}
use Rattle.proof_container_laws.proofs.ListItem.Pieces.{is-marker, marker-valid, over-value}
use Rattle.proof_container_laws.proofs.ListItem.Prefix.{IsFront, following-index, front-each, front_by, marker-byte}
use Rattle.proof_container_laws.proofs.ListItem.Prefix.{inside_by, marker-whole, no_digits}
use Rattle.proof_frame.proofs.PartFacts.{IsNoPart, IsUnlinked, NoLinks, NoParts}
use Rattle.proof_frame.proofs.PieceFacts.{Starts, begins-whole, over-front, over-valid}

marker-low : (byte : ℕ) → is_item_marker byte ≡ true → is_low byte ≡ true
marker-low byte h = grind (arith, nat_tests)

-- its value, if there is one
value-part : (bytes digits : List ℕ) (byte : ℕ) (rest : List ℕ) (p q : Point) → IsMarker digits byte → p.vs ≡ 0 →
    q.vs ≡ 0 → drop p.index bytes ≡ digits ++ rest → q ≡ past_text digits p → IsTrue (at_or_before p q) →
    is_between bytes q.index ≡ true → FrontPart bytes p q (cond (no_digits digits) [] (pair n.ListItemValue p q))
value-part bytes [] byte rest p q marks v w e end onward at =
    part-none p q onward (ap (same_place p) end ∙ same-refl p) (λ from. at)
value-part bytes (d ∷ ds) byte rest p q marks v w e end onward at =
    part-pair n.ListItemValue p q (refl, refl, refl, refl) (λ ys h. h) (recorded-whole bytes n.ListItemValue p v)
    (recorded-whole bytes n.ListItemValue q w) onward
    (over-valid bytes n.ListItemValue p q (d ∷ ds) (over-front bytes p q (d ∷ ds) rest e (omega arith) end)
    (begins-whole n.ListItemValue p v) (over-value d byte ds marks)) (λ from. at)

-- what is in a prefix begins with an enter
inside-starts : (none same : Bool) (a m b q : Point) → Starts (inside_by none same a m b q)
inside-starts true same a m b q = refl
inside-starts false same a m b q = refl

-- all that is after the begin of an item
pub front-part : (bytes digits : List ℕ) (byte : ℕ) (p q : Point) (es : List Event) → IsFront bytes digits byte p q es →
    FrontPart bytes p q es
front-part bytes digits byte p q es is =
    let none : Bool = no_digits digits in
    let same : Bool = same_place is.following q in
    let whole : is.marker.vs ≡ 0 = marker-whole bytes digits byte p q es is in
    let onward : IsTrue (at_or_before is.start is.marker) = subst (λ (r : Point). IsTrue (at_or_before is.start r))
    (sym is.marker_is) (before-text digits is.start) in
    let past : IsTrue (at_or_before is.marker is.following) = subst (λ (r : Point). IsTrue (at_or_before is.marker r))
    (sym is.following_is) (before-text (byte ∷ []) is.marker) in
    let size : is.following.index ≡ is.marker.index + 1 = following-index bytes digits byte p q es is in
    let low : is_low (slice_index bytes is.marker.index) ≡ true = ap is_low (marker-byte bytes digits byte p q es is)
    ∙ marker-low byte (is-marker digits byte is.marks) in
    subst (FrontPart bytes p q) (sym is.events)
    (part-append (part-white p is.start is.white_before.onward is.white_before.blank)
    (part-around n.ListItemPrefix is.start q (inside_by none same is.start is.marker is.following q)
    (refl, refl, refl, refl) tt refl (inside-starts none same is.start is.marker is.following q)
    (part-append
    (value-part bytes digits byte (byte ∷ is.more) is.start is.marker is.marks is.whole whole is.text_is is.marker_is
    onward (between-before bytes is.marker.index low))
    (part-append
    (part-pair n.ListItemMarker is.marker is.following (refl, refl, refl, refl) (λ ys h. h)
    (recorded-whole bytes n.ListItemMarker is.marker whole)
    (recorded-whole bytes n.ListItemMarker is.following (ap (λ (r : Point). r.vs) is.following_is)) past
    (marker-valid bytes digits byte p q es is)
    (λ from. low-past bytes is.marker is.following low (omega (arith, size))))
    (part-white is.following q is.white_after.onward is.white_after.blank)))))

-- there are some
pub front-some : (bytes digits : List ℕ) (byte : ℕ) (p q : Point) (es : List Event) → IsFront bytes digits byte p q es →
    es ≢ []
front-some bytes digits byte p q es is = front-each (λ (xs : List Event). xs ≢ []) bytes digits byte p q es is go
  where
    go : (bare none same : Bool) → front_by bare none same p is.start is.marker is.following q ≢ []
    go true none same = λ e. cc
    go false none same = λ e. cc

-- none of them begins a chunk or is of a text part
pub front-whole : (bytes digits : List ℕ) (byte : ℕ) (p q : Point) (es : List Event) →
    IsFront bytes digits byte p q es → NoLinks es × NoParts es
front-whole bytes digits byte p q es is =
    let each = front-each (Each Whole) bytes digits byte p q es is front in
    (each-as Whole IsUnlinked (λ e h. h.0) es each, each-as Whole IsNoPart (λ e h. h.1) es each)
  where
    Whole : Event → Type 0
    Whole e = IsUnlinked e × IsNoPart e

    white : (same : Bool) →
        Each Whole (cond same [] (pair n.SpaceOrTab is.following q) ++ exit n.ListItemPrefix q ∷ [])
    white true = ((refl, refl), tt)
    white false = ((refl, refl), ((refl, refl), ((refl, refl), tt)))

    inner : (none same : Bool) →
        Each Whole
        (enter n.ListItemPrefix is.start ∷ inside_by none same is.start is.marker is.following q
        ++ exit n.ListItemPrefix q ∷ [])
    inner true same = ((refl, refl), ((refl, refl), ((refl, refl), white same)))
    inner false same = ((refl, refl), ((refl, refl), ((refl, refl), ((refl, refl), ((refl, refl), white same)))))

    front : (bare none same : Bool) → Each Whole (front_by bare none same p is.start is.marker is.following q)
    front true none same = inner none same
    front false none same = ((refl, refl), ((refl, refl), inner none same))
