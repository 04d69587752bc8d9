-- What is known of what is before the content of a list item, where it continues and where it opens.
use Rattle.std.proofs.Common.{◌≡◌, ℕ, Bool, true, false, cond, List, refl, ap, sym, ◌∙◌, subst, [], ◌∷◌}
use Rattle.md_engine.specs.declared.event.Event.{Event}
use Rattle.md_engine.specs.declared.event.Name.TheVariants as n
use Rattle.md_engine.specs.declared.event.Point.{Point}
use Rattle.md_meaning.specs.State.{InItem}
use Rattle.md_events.specs.Events.Inline.{pair_unless_empty}
use Rattle.md_events.specs.Events.Nested.{pair}
use Rattle.md_events.specs.Events.Places.{same_place}
use Rattle.md_events.proofs.GrammarLemmas.{Leads}
use Rattle.md_events.proofs.SpelledLemmas.{Unmarked}
use Rattle.proof_container_laws.proofs.BlockQuote.Prefix.{pair-prefixes, white-unmarked}
use Rattle.proof_container_laws.proofs.ListItem.Collected.{indent-collects, white-inside}
use Rattle.proof_container_laws.proofs.ListItem.Grammar.{front-leads, front-valid, white-stays}
use Rattle.proof_container_laws.proofs.FrontParts.{FrontPart, part-facts, part-white}
use Rattle.proof_container_laws.proofs.ListItem.Names.{front-part, front-some, front-whole}
use Rattle.proof_container_laws.proofs.ListItem.Parted.{white-clear, white-parted}
use Rattle.proof_container_laws.proofs.ListItem.Prefix.{IsFront, IsIndent, front-line}
use Rattle.proof_container_laws.proofs.ListItem.Read.{front-read}
use Rattle.proof_frame.proofs.PartsValid.{Inside}
use Rattle.proof_frame.proofs.PrefixFacts.{Continues, Opens, OpensRead, PrefixFacts, is_bare, opens-same}
use Rattle.proof_frame.proofs.PrefixNames.{ArePrefixes}

indent-facts : (bytes : List ℕ) (p q : Point) (es : List Event) → IsIndent bytes p q es → PrefixFacts bytes p q es
indent-facts bytes p q es is =
    subst (PrefixFacts bytes p q) (sym is.events)
    (part-facts (part-white p q is.white.onward is.white.blank) is.white.line (white-clear bytes p q is.white))

-- there are some if it is another place
indent-bare : (p q : Point) → is_bare (pair_unless_empty n.SpaceOrTab p q) ≡ same_place p q
indent-bare p q = go (same_place p q)
  where
    go : (x : Bool) → is_bare (cond x [] (pair n.SpaceOrTab p q)) ≡ x
    go true = refl
    go false = refl

-- where an item continues
pub item-continues : (bytes : List ℕ) (p q : Point) (es : List Event) → IsIndent bytes p q es → Continues bytes p q es
item-continues bytes p q es is = record {
  common = indent-facts bytes p q es is;
  onward = is.columns.onward;
  bare = ap is_bare is.events ∙ indent-bare p q ∙ is.columns.same;
  names = subst ArePrefixes (sym is.events) (pair-prefixes p q);
  unmarked = subst (Unmarked bytes) (sym is.events) (white-unmarked bytes p q);
  stays = λ text x takes. subst (Leads text (x ∷ []) (x ∷ [])) (sym is.events) (white-stays p q text x takes);
  parted = white-parted bytes p q es is.events is.white;
  inside = λ kind. subst (Inside bytes kind []) (sym is.events) (white-inside bytes kind p q is.white);
  collects = λ ys end all c. indent-collects bytes p q es ys end all is c;
}

front-facts : (bytes digits : List ℕ) (byte : ℕ) (p q : Point) (es : List Event) → IsFront bytes digits byte p q es →
    PrefixFacts bytes p q es
front-facts bytes digits byte p q es is =
    part-facts (front-part bytes digits byte p q es is) (front-line bytes digits byte p q es is)
    (λ following. white-clear bytes p is.start is.white_before (rw is.whole refl))

-- and where it opens
pub item-opens : (bytes digits : List ℕ) (byte width : ℕ) (blank : Bool) (p q : Point) (es : List Event) →
    IsFront bytes digits byte p q es → Opens bytes (InItem digits byte width blank) p q es
item-opens bytes digits byte width blank p q es is =
    let part : FrontPart bytes p q es = front-part bytes digits byte p q es is in
    record {
      common = front-facts bytes digits byte p q es is;
      names = part.names;
      plain = part.plain;
      sits = part.sits;
      leads = λ text takes. front-leads bytes digits byte p q es is text;
      valid = λ held. front-valid bytes digits byte p q es held is;
      unlisted = part.unlisted;
      read = λ r none shut. front-read bytes digits byte width blank p q es r is none;
      shown = refl;
      some = front-some bytes digits byte p q es is;
    }

-- nothing of it is read later
pub item-opens_read : (bytes digits : List ℕ) (byte width : ℕ) (blank : Bool) (p q : Point) (es : List Event) →
    IsFront bytes digits byte p q es → OpensRead bytes (InItem digits byte width blank) p q es
item-opens_read bytes digits byte width blank p q es is =
    let whole = front-whole bytes digits byte p q es is in
    opens-same bytes (InItem digits byte width blank) p q es (item-opens bytes digits byte width blank p q es is)
    whole.0 whole.1
