-- What is known of the prefix of the line on which an alert opens.
use Rattle.std.proofs.Common.{◌≡◌, ◌≢◌, ℕ, Bool, false, cond, List, [], ◌∷◌, ◌++◌, Option, Some, None, refl, ap, ap₂}
use Rattle.std.proofs.Common.{sym, ◌∙◌, subst}
use Rattle.md_engine.specs.declared.event.Event.{Event}
use Rattle.md_engine.specs.declared.event.Kind.TheVariants.{Enter}
use Rattle.md_engine.specs.declared.event.Name.TheVariants as n
use Rattle.md_engine.specs.declared.event.Point.{Point}
use Rattle.md_containers.proofs.OpeningLines.{IsMarker, IsOpening, marker-kind}
use Rattle.md_containers.proofs.UnlistedLemmas.{NoListing, among, valid-append, unlists-same}
use Rattle.md_meaning.specs.declared.alert.AlertKind.{AlertKind}
use Rattle.md_meaning.specs.State.{InQuote}
use Rattle.md_events.specs.Events.Grammar.{after_block, blocks}
use Rattle.md_events.specs.Events.Inline.{pair_unless_empty}
use Rattle.md_events.specs.Events.Nested.{around, enter, exit}
use Rattle.md_events.specs.Events.Prefix.{is_prefix}
use Rattle.md_events.specs.Events.Spelled.{IsQuoteMarker, OpenLeaf, Reading, Text, is_before_blocks, kind_at, on_shape}
use Rattle.md_events.specs.Events.Spelled.{read, read_by, with_kind}
use Rattle.md_meaning.specs.Tree.{End}
use Rattle.md_events.proofs.SpelledLemmas.{Between, Quiet, QuietOrPrefix, Unmarked, read-from, read-prefixes}
use Rattle.md_events.proofs.SpelledLemmas.{read-quiet}
use Rattle.proof_frame.proofs.EachEvent.{each-append, each-front}
use Rattle.proof_frame.proofs.LeafAllowed.{between-are_valid, between-unlisted}
use Rattle.proof_frame.proofs.PartedFacts.{Still, sits-still}
use Rattle.proof_frame.proofs.PlainFacts.{Untold, plain-untold}
use Rattle.proof_frame.proofs.PlainRoles.{pair-roles}
use Rattle.proof_frame.proofs.PrefixFacts.{Opens, PrefixFacts, begins}
use Rattle.proof_frame.proofs.PrefixNames.{ArePrefixes, IsNamed, prefixes-front, prefixes-roles}
use Rattle.proof_container_laws.proofs.BlockQuote.Alert.Events.{alert-is, front-is, inside_list}
use Rattle.proof_container_laws.proofs.BlockQuote.Alert.Grammar.{alert-begins}
use Rattle.proof_container_laws.proofs.BlockQuote.Alert.Places.{alert-part}
use Rattle.proof_container_laws.proofs.FrontParts.{part-facts}
use Rattle.proof_container_laws.proofs.BlockQuote.Parted.{prefix-clear}
use Rattle.proof_container_laws.proofs.BlockQuote.Prefix.{front-unmarked, pair-prefixes, prefix-are, white-unmarked}

alert-facts : (bytes : List ℕ) (kind : AlertKind) (p q : Point) (es : List Event) →
    IsOpening bytes (Some kind) p q es → PrefixFacts bytes p q es
alert-facts bytes kind p q es o =
    part-facts (alert-part bytes kind p q es o) (o.marker.line ∙ o.prefix.line)
    (λ following. prefix-clear bytes p o.middle (o.front ++ exit n.BlockQuotePrefix o.middle ∷ []) o.prefix)

-- They have names of prefixes.

marker-are : (bytes : List ℕ) (kind : AlertKind) (p q : Point) (es : List Event) → IsMarker bytes kind p q es →
    ArePrefixes es
marker-are bytes kind p q es m =
    subst ArePrefixes (sym m.events)
    (each-append (IsNamed is_prefix) (pair_unless_empty n.SpaceOrTab p m.opens)
    (enter n.BlockQuoteMarker m.opens ∷ exit n.BlockQuoteMarker m.closes ∷ pair_unless_empty n.SpaceOrTab m.closes q)
    (pair-prefixes p m.opens) ((refl, refl), ((refl, refl), pair-prefixes m.closes q)))

-- but for its end, those of the prefix of any line
front-are : (bytes : List ℕ) (kind : AlertKind) (p q : Point) (es : List Event) →
    (o : IsOpening bytes (Some kind) p q es) → ArePrefixes o.front
front-are bytes kind p q es o =
    let end : List Event = exit n.BlockQuotePrefix o.middle ∷ [] in
    each-front (IsNamed is_prefix) o.front end (prefix-are bytes p o.middle (o.front ++ end) o.prefix)

pub alert-are : (bytes : List ℕ) (kind : AlertKind) (p q : Point) (es : List Event) →
    IsOpening bytes (Some kind) p q es → ArePrefixes es
alert-are bytes kind p q es o =
    subst ArePrefixes (sym o.events)
    (each-append (IsNamed is_prefix) (o.front ++ o.alert) (exit n.BlockQuotePrefix q ∷ [])
    (each-append (IsNamed is_prefix) o.front o.alert (front-are bytes kind p q es o)
    (marker-are bytes kind o.middle q o.alert o.marker)) ((refl, refl), tt))

-- there are some
alert-some : (bytes : List ℕ) (kind : AlertKind) (p q : Point) (es : List Event) →
    IsOpening bytes (Some kind) p q es → es ≢ []
alert-some bytes kind p q es o none =
    go (pair_unless_empty n.SpaceOrTab p o.prefix.marker) (sym (alert-is bytes kind p q es o) ∙ none)
  where
    go : (xs : List Event) →
        xs
        ++ around n.BlockQuotePrefix o.prefix.marker q
        (inside_list o.prefix.marker o.prefix.following o.middle o.alert) ≢
        []
    go [] h = cc
    go (x ∷ xs) h = cc

-- They are read.

-- the marker gives the quote its kind, before its blocks
marker-recorded : (bytes : List ℕ) (kind : AlertKind) (p q : Point) (es : List Event) →
    (m : IsMarker bytes kind p q es) → (r : Reading) → r.text ≡ None → r.leaf ≡ None →
    read_by bytes Enter IsQuoteMarker m.opens (begins (InQuote None) r) ≡ begins (InQuote (Some kind)) r
marker-recorded bytes kind p q es m r none shut =
    let s : Reading = begins (InQuote None) r in
    ap
    (λ (x : Bool). cond x (record s { outer = on_shape (with_kind (kind_at bytes m.opens.index)) s.outer }) s)
    (ap₂ (λ (text : Option Text) (leaf : Option OpenLeaf). is_before_blocks text leaf End) none shut)
    ∙ ap (λ (k : Option AlertKind). record s { outer = on_shape (with_kind k) s.outer }) (marker-kind m)

-- so is all from the marker on
marker-read : (bytes : List ℕ) (kind : AlertKind) (p q : Point) (es : List Event) → IsMarker bytes kind p q es →
    (r : Reading) → r.text ≡ None → r.leaf ≡ None →
    read bytes (begins (InQuote None) r) es ≡ begins (InQuote (Some kind)) r
marker-read bytes kind p q es m r none shut =
    let s : Reading = begins (InQuote None) r in
    let white : List Event = pair_unless_empty n.SpaceOrTab p m.opens in
    let following : List Event = exit n.BlockQuoteMarker m.closes ∷ pair_unless_empty n.SpaceOrTab m.closes q in
    ap (read bytes s) m.events
    ∙ read-from bytes s s white (enter n.BlockQuoteMarker m.opens ∷ following)
    (read-quiet bytes s white (pair-roles Quiet n.SpaceOrTab p m.opens tt))
    ∙ ap (λ (x : Reading). read bytes x following) (marker-recorded bytes kind p q es m r none shut)
    ∙ read-prefixes bytes (begins (InQuote (Some kind)) r) following none
    (tt, pair-roles QuietOrPrefix n.SpaceOrTab m.closes q tt) (tt, white-unmarked bytes m.closes q)

alert-read : (bytes : List ℕ) (kind : AlertKind) (p q : Point) (es : List Event) →
    IsOpening bytes (Some kind) p q es → (r : Reading) → r.text ≡ None → r.leaf ≡ None →
    read bytes (begins (InQuote None) r) es ≡ begins (InQuote (Some kind)) r
alert-read bytes kind p q es o r none shut =
    let s : Reading = begins (InQuote None) r in
    let t : Reading = begins (InQuote (Some kind)) r in
    let end : List Event = exit n.BlockQuotePrefix q ∷ [] in
    let prefix : List Event = o.front ++ exit n.BlockQuotePrefix o.middle ∷ [] in
    let unmarked : Unmarked bytes o.front = subst (Unmarked bytes) (sym (front-is bytes kind p q es o))
    (front-unmarked bytes p o.middle prefix o.prefix) in
    ap (read bytes s) o.events
    ∙ read-from bytes s t (o.front ++ o.alert) end
    (read-from bytes s s o.front o.alert
    (read-prefixes bytes s o.front none
    (prefixes-roles QuietOrPrefix o.front tt tt tt (front-are bytes kind p q es o)) unmarked)
    ∙ marker-read bytes kind o.middle q o.alert o.marker r none shut)
    ∙ read-prefixes bytes t end none (tt, tt) (tt, tt)

-- All of it.
pub alert-opens : (bytes : List ℕ) (kind : AlertKind) (p q : Point) (es : List Event) →
    IsOpening bytes (Some kind) p q es → Opens bytes (InQuote (Some kind)) p q es
alert-opens bytes kind p q es o = record {
  common = alert-facts bytes kind p q es o;
  names = prefixes-front es are;
  plain = plain-untold bytes es (prefixes-roles Untold es (refl, refl) (refl, refl) (refl, refl) are);
  sits = sits-still bytes es (prefixes-roles Still es tt tt tt are);
  leads =
      λ text takes. unlists-same text (blocks ∷ []) (blocks ∷ after_block ∷ []) (enter n.BlockQuote p ∷ es)
      (refl, none)
      (alert-begins bytes kind p q es o text);
  valid =
      λ held. valid-append bytes (among held) (among (false ∷ held)) (among (false ∷ held)) (enter n.BlockQuote p ∷ [])
      es (record { are_valid = (tt, tt); following = refl })
      (between-are_valid bytes (false ∷ held) es (prefixes-roles Between es tt tt tt are));
  unlisted = none;
  read = λ r none shut. alert-read bytes kind p q es o r none shut;
  shown = refl;
  some = alert-some bytes kind p q es o;
}
  where
    are : ArePrefixes es
    are = alert-are bytes kind p q es o

    -- no item and no list is in it
    none : NoListing es
    none = between-unlisted es (prefixes-roles Between es tt tt tt are)
