-- What is known of a block quote, where it continues and where it opens.
use Rattle.std.proofs.Common.{◌≡◌, ◌≢◌, ℕ, ◌<◌, false, List, [], ◌∷◌, Option, Some, None, refl, sym, arith}
use Rattle.std.specs.Prelude.{◌==◌}
use Rattle.std.proofs.lemmas.Bool.{ne_eqb}
use Rattle.md_engine.specs.declared.event.Event.{Event}
use Rattle.md_engine.specs.declared.event.Name.TheVariants as n
use Rattle.md_engine.specs.declared.event.Point.{Point}
use Rattle.md_containers.proofs.OpeningLines.{IsOpening}
use Rattle.md_containers.proofs.QuoteLines.{IsPrefix}
use Rattle.md_containers.proofs.UnlistedLemmas.{NoListing, among, valid-append, unlists-same}
use Rattle.md_meaning.specs.declared.alert.AlertKind.{AlertKind}
use Rattle.md_meaning.specs.State.{InQuote}
use Rattle.md_events.specs.Events.Grammar.{after_block, blocks}
use Rattle.md_events.specs.Events.Nested.{enter}
use Rattle.md_events.proofs.SpelledLemmas.{Between, QuietOrPrefix, read-prefixes}
use Rattle.proof_frame.proofs.LeafAllowed.{between-are_valid, between-unlisted}
use Rattle.proof_frame.proofs.PartedFacts.{Still, sits-still}
use Rattle.proof_frame.proofs.PlainFacts.{Untold, plain-untold}
use Rattle.proof_frame.proofs.PrefixFacts.{Continues, Opens, OpensRead, begins, is_bare, opens-same}
use Rattle.proof_frame.proofs.PrefixNames.{ArePrefixes, names-no_parts, names-unlinked, prefixes-front, prefixes-roles}
use Rattle.proof_container_laws.proofs.BlockQuote.Alert.Events.{no_alert-prefix}
use Rattle.proof_container_laws.proofs.BlockQuote.Alert.Facts.{alert-are, alert-opens}
use Rattle.proof_container_laws.proofs.BlockQuote.Collected.{collects-quote}
use Rattle.proof_container_laws.proofs.BlockQuote.Grammar.{prefix-begins, prefix-stays}
use Rattle.proof_container_laws.proofs.BlockQuote.Parted.{prefix-parted}
use Rattle.proof_container_laws.proofs.BlockQuote.Prefix.{prefix-are, prefix-facts, prefix-inside, prefix-some}
use Rattle.proof_container_laws.proofs.BlockQuote.Prefix.{prefix-unmarked}

-- there are some, and they take columns
some-bare : (es : List Event) (a b : ℕ) → es ≢ [] → a < b → is_bare es ≡ (b == a)
some-bare [] a b some less = absurd (some refl)
some-bare (e ∷ es) a b some less = sym (ne_eqb b a (λ same. omega (arith, same)))

-- where a quote continues
pub quote-continues : (bytes : List ℕ) (p q : Point) (es : List Event) → IsPrefix bytes p q es → p.column < q.column →
    Continues bytes p q es
quote-continues bytes p q es is less = record {
  common = prefix-facts bytes p q es is;
  onward = omega (arith, less);
  bare = some-bare es p.column q.column (prefix-some bytes p q es is) less;
  names = prefix-are bytes p q es is;
  unmarked = prefix-unmarked bytes p q es is;
  stays = prefix-stays bytes p q es is;
  parted = prefix-parted bytes p q es is;
  inside = λ kind. prefix-inside bytes kind p q es is;
  collects = λ ys end all. collects-quote bytes p q es ys end all is;
}

-- where one opens that is no alert
plain-opens : (bytes : List ℕ) (p q : Point) (es : List Event) → IsPrefix bytes p q es →
    Opens bytes (InQuote None) p q es
plain-opens bytes p q es is = record {
  common = prefix-facts bytes p q es is;
  names = prefixes-front es (prefix-are bytes p q es is);
  plain =
      plain-untold bytes es
      (prefixes-roles Untold es (refl, refl) (refl, refl) (refl, refl) (prefix-are bytes p q es is));
  sits = sits-still bytes es (prefixes-roles Still es tt tt tt (prefix-are bytes p q es is));
  leads =
      λ text takes. unlists-same text (blocks ∷ []) (blocks ∷ after_block ∷ []) (enter n.BlockQuote p ∷ es)
      (refl, none)
      (prefix-begins bytes p q es is text);
  valid =
      λ held. valid-append bytes (among held) (among (false ∷ held)) (among (false ∷ held)) (enter n.BlockQuote p ∷ [])
      es (record { are_valid = (tt, tt); following = refl })
      (between-are_valid bytes (false ∷ held) es (prefixes-roles Between es tt tt tt (prefix-are bytes p q es is)));
  unlisted = none;
  read =
      λ r none shut. read-prefixes bytes (begins (InQuote None) r) es none
      (prefixes-roles QuietOrPrefix es tt tt tt (prefix-are bytes p q es is)) (prefix-unmarked bytes p q es is);
  shown = refl;
  some = prefix-some bytes p q es is;
}
  where
    -- no item and no list is in it
    none : NoListing es
    none = between-unlisted es (prefixes-roles Between es tt tt tt (prefix-are bytes p q es is))

-- of any kind
quote-opens : (bytes : List ℕ) (kind : Option AlertKind) (p q : Point) (es : List Event) →
    IsOpening bytes kind p q es → Opens bytes (InQuote kind) p q es
quote-opens bytes None p q es o = plain-opens bytes p q es (no_alert-prefix bytes p q es o)
quote-opens bytes (Some kind) p q es o = alert-opens bytes kind p q es o

opening-are : (bytes : List ℕ) (kind : Option AlertKind) (p q : Point) (es : List Event) →
    IsOpening bytes kind p q es → ArePrefixes es
opening-are bytes None p q es o = prefix-are bytes p q es (no_alert-prefix bytes p q es o)
opening-are bytes (Some kind) p q es o = alert-are bytes kind p q es o

-- nothing of it is read later
pub quote-opens_read : (bytes : List ℕ) (kind : Option AlertKind) (p q : Point) (es : List Event) →
    IsOpening bytes kind p q es → OpensRead bytes (InQuote kind) p q es
quote-opens_read bytes kind p q es o =
    let names : ArePrefixes es = opening-are bytes kind p q es o in
    opens-same bytes (InQuote kind) p q es (quote-opens bytes kind p q es o) (names-unlinked es names)
    (names-no_parts es names)
