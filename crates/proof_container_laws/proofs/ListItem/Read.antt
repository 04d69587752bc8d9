-- A list item is read from its begin and its prefix: its digits and its marker are the bytes there.
use Rattle.std.proofs.Common.{◌≡◌, ℕ, ◌+◌, Bool, true, false, cond, List, [], ◌∷◌, ◌++◌, drop, length, refl, ap}
use Rattle.std.proofs.Common.{sym, ◌∙◌, append_assoc}
use Rattle.std.specs.Prelude.{None, Option, Some}
use Rattle.md_engine.specs.declared.event.Event.{Event}
use Rattle.md_engine.specs.declared.event.Name.TheVariants as n
use Rattle.md_engine.specs.declared.event.Point.{Point}
use Rattle.md_meaning.specs.State.{InItem}
use Rattle.md_meaning.specs.Texts.{first_byte}
use Rattle.md_meaning.specs.Tree.{End}
use Rattle.md_events.specs.Events.Nested.{around, enter, exit, pair}
use Rattle.md_events.specs.Events.Places.{same_place}
use Rattle.md_events.specs.Events.Spelled.{AsDigits, AsItemMarker, ItemShape, Reading, Text, begun, read, recorded_at}
use Rattle.md_events.proofs.FeedLines.{slice-front}
use Rattle.md_events.proofs.SpelledLemmas.{read-append}
use Rattle.proof_container_laws.proofs.ListItem.Prefix.{IsFront, following-index, front_by, marker-index}
use Rattle.proof_container_laws.proofs.ListItem.Prefix.{marker-text, marker-whole, no_digits}
use Rattle.proof_frame.proofs.PrefixFacts.{begins}

-- a point in no tab is where the text that begins there begins
begun-whole : (p : Point) → p.vs ≡ 0 → begun p ≡ record { spaces = 0; front = []; from = p.index }
begun-whole p e = rw e refl

-- an item that is read, with this marker and these digits so far
abbrev pub item_read : Reading → ℕ → List ℕ → Reading
item_read r marker digits = record r {
  outer = (record { shape = ItemShape marker digits; before = r.here }) ∷ r.outer;
  here = End;
  text = None;
}

-- its digits are said, if it has some
digits-recorded : (bytes digits rest : List ℕ) (r : Reading) (p q : Point) → p.vs ≡ 0 →
    drop p.index bytes ≡ digits ++ rest → q.index ≡ p.index + length digits →
    read bytes (item_read r 0 []) (cond (no_digits digits) [] (pair n.ListItemValue p q)) ≡ item_read r 0 digits
digits-recorded bytes [] rest r p q whole e size = refl
digits-recorded bytes (d ∷ ds) rest r p q whole e size =
    ap (λ (t : Text). recorded_at bytes AsDigits q (Some t) (record (item_read r 0 []) { text = Some t }))
    (begun-whole p whole)
    ∙ ap (λ (l : List ℕ). item_read r 0 l) (slice-front bytes p.index q.index (d ∷ ds) rest e size)

-- and its marker
marker-recorded : (bytes digits rest : List ℕ) (byte : ℕ) (r : Reading) (p q : Point) → p.vs ≡ 0 →
    drop p.index bytes ≡ byte ∷ rest → q.index ≡ p.index + 1 →
    read bytes (item_read r 0 digits) (pair n.ListItemMarker p q) ≡ item_read r byte digits
marker-recorded bytes digits rest byte r p q whole e size =
    ap (λ (t : Text). recorded_at bytes AsItemMarker q (Some t) (record (item_read r 0 digits) { text = Some t }))
    (begun-whole p whole)
    ∙ ap (λ (l : List ℕ). item_read r (first_byte l) digits) (slice-front bytes p.index q.index (byte ∷ []) rest e size)

-- all of it
pub front-read : (bytes digits : List ℕ) (byte width : ℕ) (blank : Bool) (p q : Point) (es : List Event) (r : Reading) →
    IsFront bytes digits byte p q es → r.text ≡ None →
    read bytes r (enter n.ListItem p ∷ es) ≡ begins (InItem digits byte width blank) r
front-read bytes digits byte width blank p q es r is none =
    ap (λ (l : List Event). read bytes r (enter n.ListItem p ∷ l)) is.events
    ∙ go (same_place p is.start) (same_place is.following q)
    ∙ sym (ap (λ (t : Option Text). record (begins (InItem digits byte width blank) r) { text = t }) none)
  where
    value : List Event
    value = cond (no_digits digits) [] (pair n.ListItemValue is.start is.marker)

    marker : List Event
    marker = pair n.ListItemMarker is.marker is.following

    -- what is known from the value and the marker
    write_message : read bytes (item_read r 0 []) (value ++ marker) ≡ item_read r byte digits
    write_message =
        read-append bytes (item_read r 0 []) value marker
        ∙ ap (λ (x : Reading). read bytes x marker)
        (digits-recorded bytes digits (byte ∷ is.more) r is.start is.marker is.whole is.text_is
        (marker-index bytes digits byte p q es is))
        ∙ marker-recorded bytes digits is.more byte r is.marker is.following (marker-whole bytes digits byte p q es is)
        (marker-text bytes digits byte p q es is) (following-index bytes digits byte p q es is)

    begun-read : read bytes r (enter n.ListItem p ∷ []) ≡ item_read r 0 []
    begun-read = ap (λ (t : Option Text). record (item_read r 0 []) { text = t }) none

    -- whitespace is quiet
    white : (same : Bool) (a b : Point) (x : Reading) → read bytes x (cond same [] (pair n.SpaceOrTab a b)) ≡ x
    white true a b x = refl
    white false a b x = refl

    go : (bare same : Bool) →
        read bytes r
        (enter n.ListItem p ∷ front_by bare (no_digits digits) same p is.start is.marker is.following q) ≡
        item_read r byte digits
    go bare same =
        let before : List Event = cond bare [] (pair n.SpaceOrTab p is.start) in
        let following : List Event = cond same [] (pair n.SpaceOrTab is.following q) in
        let inside : List Event = value ++ (marker ++ following) in
        let start : Reading = item_read r 0 [] in
        ap (λ (x : Reading). read bytes x (before ++ around n.ListItemPrefix is.start q inside)) begun-read
        ∙ read-append bytes start before (around n.ListItemPrefix is.start q inside)
        ∙ ap (λ (x : Reading). read bytes x (around n.ListItemPrefix is.start q inside)) (white bare p is.start start)
        ∙ read-append bytes start inside (exit n.ListItemPrefix q ∷ [])
        ∙ ap (read bytes start) (sym (append_assoc value marker following))
        ∙ read-append bytes start (value ++ marker) following
        ∙ ap (λ (x : Reading). read bytes x following) write_message
        ∙ white same is.following q (item_read r byte digits)
