-- What is known of the prefix of a block quote.
use Rattle.std.proofs.Common.{ℕ, ◌≡◌, true, refl, sym, subst, arith, suc, Bool, false, cond, List, [], ◌∷◌, ◌++◌}
use Rattle.std.proofs.Common.{◌∙◌, append_assoc, ◌≢◌}
use Rattle.std.specs.Prelude.{slice_index, IsTrue}
use Rattle.md_events.specs.Events.Prefix.{is_prefix}
use Rattle.proof_frame.proofs.EachEvent.{each-append}
use Rattle.proof_frame.proofs.BetweenFacts.{is_low}
use Rattle.std.proofs.lemmas.Option.{get_or_from_slice_get}
use Rattle.proof_frame.proofs.PrefixFacts.{PrefixFacts}
use Rattle.proof_frame.proofs.PrefixNames.{ArePrefixes, IsNamed}
use Rattle.proof_frame.proofs.PlainRoles.{pair-roles}
use Rattle.proof_frame.proofs.Unmarked.{inline-unmarked}
use Rattle.std.proofs.lemmas.Bool.Decides.{nat_tests}
use Rattle.md_engine.specs.declared.event.Event.{Event}
use Rattle.md_engine.specs.declared.event.Name.TheVariants as n
use Rattle.md_engine.specs.declared.event.Point.{Point}
use Rattle.md_events.specs.Events.Inline.{pair_unless_empty}
use Rattle.md_events.specs.Events.Nested.{enter, exit, pair}
use Rattle.md_events.specs.Events.Places.{at_or_before, same_place}
use Rattle.md_events.proofs.SpelledLemmas.{QuietOrEnding, Unmarked, unmarked-append}
use Rattle.md_containers.proofs.OpeningLines.{marker-none}
use Rattle.md_containers.proofs.QuoteLines.{IsPrefix, prefix_by}
use Rattle.md_events.specs.declared.inline.PartKind.{PartKind}
use Rattle.proof_frame.proofs.PartsValid.{Inside}
use Rattle.proof_container_laws.proofs.BlockQuote.Pieces.{marker-valid}
use Rattle.proof_container_laws.proofs.BlockQuote.Parted.{prefix-clear}
use Rattle.proof_container_laws.proofs.FrontParts.{FrontPart, low-past, part-append, part-around, part-facts, part-pair}
use Rattle.proof_container_laws.proofs.FrontParts.{part-white}

-- a byte further comes no earlier
pub further : (p q : Point) → q.index ≡ suc p.index → IsTrue (at_or_before p q)
further p q e = grind (arith, nat_tests)

pub pair-prefixes : (p q : Point) → ArePrefixes (pair_unless_empty n.SpaceOrTab p q)
pair-prefixes p q = go (same_place p q)
  where
    go : (x : Bool) → ArePrefixes (cond x [] (pair n.SpaceOrTab p q))
    go true = tt
    go false = ((refl, refl), ((refl, refl), tt))

pub prefix-are : (bytes : List ℕ) (p q : Point) (es : List Event) → IsPrefix bytes p q es → ArePrefixes es
prefix-are bytes p q es is =
    let indent = pair_unless_empty n.SpaceOrTab p is.marker in
    let white = pair_unless_empty n.SpaceOrTab is.following q in
    let marker = enter n.BlockQuotePrefix is.marker ∷ enter n.BlockQuoteMarker is.marker
    ∷ exit n.BlockQuoteMarker is.following ∷ white in
    subst ArePrefixes (sym is.events)
    (each-append (IsNamed is_prefix) (indent ++ marker) (exit n.BlockQuotePrefix q ∷ [])
    (each-append (IsNamed is_prefix) indent marker (pair-prefixes p is.marker)
    ((refl, refl), ((refl, refl), ((refl, refl), pair-prefixes is.following q))))
    ((refl, refl), tt))

-- its marker gives no quote a kind
pub white-unmarked : (bytes : List ℕ) (p q : Point) → Unmarked bytes (pair_unless_empty n.SpaceOrTab p q)
white-unmarked bytes p q =
    inline-unmarked bytes (pair_unless_empty n.SpaceOrTab p q) (pair-roles QuietOrEnding n.SpaceOrTab p q tt)

-- but for its end,
pub front-unmarked : (bytes : List ℕ) (p q : Point) (es : List Event) → (is : IsPrefix bytes p q es) →
    Unmarked bytes
    (pair_unless_empty n.SpaceOrTab p is.marker ++ enter n.BlockQuotePrefix is.marker
    ∷ enter n.BlockQuoteMarker is.marker ∷ exit n.BlockQuoteMarker is.following
    ∷ pair_unless_empty n.SpaceOrTab is.following q)
front-unmarked bytes p q es is =
    unmarked-append bytes (pair_unless_empty n.SpaceOrTab p is.marker)
    (enter n.BlockQuotePrefix is.marker ∷ enter n.BlockQuoteMarker is.marker ∷ exit n.BlockQuoteMarker is.following
    ∷ pair_unless_empty n.SpaceOrTab is.following q) (white-unmarked bytes p is.marker)
    (tt, (marker-none bytes is.marker.index is.byte, (tt, white-unmarked bytes is.following q)))

-- and with it
pub prefix-unmarked : (bytes : List ℕ) (p q : Point) (es : List Event) → IsPrefix bytes p q es → Unmarked bytes es
prefix-unmarked bytes p q es is =
    subst (Unmarked bytes) (sym is.events)
    (unmarked-append bytes
    (pair_unless_empty n.SpaceOrTab p is.marker ++ enter n.BlockQuotePrefix is.marker
    ∷ enter n.BlockQuoteMarker is.marker ∷ exit n.BlockQuoteMarker is.following
    ∷ pair_unless_empty n.SpaceOrTab is.following q) (exit n.BlockQuotePrefix q ∷ []) (front-unmarked bytes p q es is)
    (tt, tt))

-- a prefix has events
pub prefix-some : (bytes : List ℕ) (p q : Point) (es : List Event) → IsPrefix bytes p q es → es ≢ []
prefix-some bytes p q es is none = go (same_place p is.marker) (sym is.events ∙ none)
  where
    go : (x : Bool) →
        (cond x [] (pair n.SpaceOrTab p is.marker) ++ enter n.BlockQuotePrefix is.marker
        ∷ enter n.BlockQuoteMarker is.marker ∷ exit n.BlockQuoteMarker is.following
        ∷ pair_unless_empty n.SpaceOrTab is.following q ++ exit n.BlockQuotePrefix q ∷ []) ≢ []
    go true h = cc
    go false h = cc

-- the prefix of a quote
pub prefix-inside : (bytes : List ℕ) (kind : PartKind) (p q : Point) (es : List Event) → IsPrefix bytes p q es →
    Inside bytes kind [] es
prefix-inside bytes kind p q es is =
    subst (Inside bytes kind []) (sym is.events) (go (same_place p is.marker) (same_place is.following q))
  where
    go : (x y : Bool) → Inside bytes kind [] (prefix_by x y p is.marker is.following q)
    go true true = record {
      outside = (refl, (refl, (refl, (refl, tt))));
      ends = refl;
      white = refl;
      has = refl;
      kinds = refl;
      are_valid = λ ys. refl;
    }
    go true false = record {
      outside = (refl, (refl, (refl, (refl, (refl, (refl, tt))))));
      ends = refl;
      white = rw is.white_after refl;
      has = refl;
      kinds = refl;
      are_valid = λ ys. refl;
    }
    go false true = record {
      outside = (refl, (refl, (refl, (refl, (refl, (refl, tt))))));
      ends = refl;
      white = rw is.white_before refl;
      has = refl;
      kinds = refl;
      are_valid = λ ys. refl;
    }
    go false false = record {
      outside = (refl, (refl, (refl, (refl, (refl, (refl, (refl, (refl, tt))))))));
      ends = refl;
      white = rw (is.white_before, is.white_after) refl;
      has = refl;
      kinds = refl;
      are_valid = λ ys. refl;
    }

-- All of it.

-- its marker
pub mark-part : (bytes : List ℕ) (p q : Point) (es : List Event) → (is : IsPrefix bytes p q es) →
    FrontPart bytes is.marker is.following (pair n.BlockQuoteMarker is.marker is.following)
mark-part bytes p q es is =
    let quote : slice_index bytes is.marker.index ≡ 62 = get_or_from_slice_get bytes is.marker.index 62 0 is.byte in
    let low : is_low (slice_index bytes is.marker.index) ≡ true = subst (λ (b : ℕ). is_low b ≡ true) (sym quote) refl in
    part-pair n.BlockQuoteMarker is.marker is.following (refl, refl, refl, refl) (λ ys h. h) refl refl
    (further is.marker is.following is.past) (marker-valid bytes p q es is)
    (λ from. low-past bytes is.marker is.following low (omega (arith, is.past)))

-- with the whitespace around it
prefix-part : (bytes : List ℕ) (p q : Point) (es : List Event) → IsPrefix bytes p q es → FrontPart bytes p q es
prefix-part bytes p q es is =
    let indent : List Event = pair_unless_empty n.SpaceOrTab p is.marker in
    let inside : List Event =
    pair n.BlockQuoteMarker is.marker is.following ++ pair_unless_empty n.SpaceOrTab is.following q in
    subst (FrontPart bytes p q)
    (sym
    (is.events ∙ append_assoc indent (enter n.BlockQuotePrefix is.marker ∷ inside) (exit n.BlockQuotePrefix q ∷ [])))
    (part-append (part-white p is.marker is.indent is.white_before)
    (part-around n.BlockQuotePrefix is.marker q inside (refl, refl, refl, refl) tt refl refl
    (part-append (mark-part bytes p q es is) (part-white is.following q is.column is.white_after))))

pub prefix-facts : (bytes : List ℕ) (p q : Point) (es : List Event) → IsPrefix bytes p q es → PrefixFacts bytes p q es
prefix-facts bytes p q es is =
    part-facts (prefix-part bytes p q es is) is.line (λ following. prefix-clear bytes p q es is)
