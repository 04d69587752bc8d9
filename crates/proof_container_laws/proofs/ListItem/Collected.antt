-- The whitespace of a list item on a further line, in a text that continues after it.
use Rattle.std.proofs.Common.{◌≡◌, ℕ, ◌+◌, Bool, true, false, cond, List, [], ◌++◌, slice_range, refl, ap, ◌∙◌, sym}
use Rattle.std.proofs.Common.{subst, arith}
use Rattle.std.specs.Prelude.{◌==◌}
use Rattle.md_engine.specs.declared.event.Event.{Event}
use Rattle.md_engine.specs.declared.event.Name.TheVariants as n
use Rattle.md_engine.specs.declared.event.Point.{Point}
use Rattle.md_events.proofs.LostColumns.{White}
use Rattle.md_meaning.specs.Rest.{is_blank}
use Rattle.md_events.specs.Events.Inline.{pair_unless_empty}
use Rattle.md_events.specs.Events.Nested.{pair}
use Rattle.md_events.specs.Events.Places.{same_place}
use Rattle.md_events.specs.Events.Spelled.{byte_at}
use Rattle.md_events.proofs.FeedLines.{slice-split}
use Rattle.md_events.proofs.SpelledLemmas.{QuietOrEnding}
use Rattle.proof_container_laws.proofs.BlockQuote.Collected.{blank-before}
use Rattle.proof_frame.proofs.CollectFacts.{Collects, blank-append, collects-back, collects-following}
use Rattle.proof_container_laws.proofs.ListItem.Parted.{byte-grows}
use Rattle.proof_container_laws.proofs.ListItem.Prefix.{IsIndent}
use Rattle.md_events.specs.declared.inline.PartKind.{PartKind}
use Rattle.proof_frame.proofs.PartsValid.{Inside}
use Rattle.proof_frame.proofs.PlainRoles.{pair-roles}

-- it may be in a text part
pub white-inside : (bytes : List ℕ) (kind : PartKind) (p q : Point) → White bytes p q →
    Inside bytes kind [] (pair_unless_empty n.SpaceOrTab p q)
white-inside bytes kind p q is = go (same_place p q)
  where
    go : (same : Bool) → Inside bytes kind [] (cond same [] (pair n.SpaceOrTab p q))
    go true = record { outside = tt; ends = refl; white = refl; has = refl; kinds = refl; are_valid = λ ys. refl }
    go false = record {
      outside = (refl, (refl, tt));
      ends = refl;
      white = rw is.blank refl;
      has = refl;
      kinds = refl;
      are_valid = λ ys. refl;
    }

-- what is up to the next byte after it is whitespace
indent-blank : (bytes : List ℕ) (p q : Point) (es : List Event) → IsIndent bytes p q es →
    is_blank (slice_range bytes (byte_at p) (byte_at q)) ≡ true
indent-blank bytes p q es is =
    blank-before bytes p (byte_at q) (byte-grows p q is.white.onward) (go (q.vs == 0) refl)
  where
    go : (x : Bool) → (q.vs == 0) ≡ x → is_blank (slice_range bytes p.index (cond x q.index (q.index + 1))) ≡ true
    go true e = is.white.blank
    go false e =
        ap is_blank (slice-split bytes p.index q.index (q.index + 1) is.white.index (omega arith))
        ∙ blank-append (slice_range bytes p.index q.index) (slice_range bytes q.index (q.index + 1)) is.white.blank
        (is.cut e)

-- a text leaves it
pub indent-collects : (bytes : List ℕ) (p q : Point) (es ys : List Event) (end : ℕ) (all : List ℕ) →
    IsIndent bytes p q es → Collects bytes ys (byte_at q) end all →
    (white : List ℕ) × (is_blank white ≡ true) × Collects bytes (es ++ ys) (byte_at p) end (white ++ all)
indent-collects bytes p q es ys end all is c = (
  slice_range bytes (byte_at p) (byte_at q),
  indent-blank bytes p q es is,
  subst
      (λ (l : List Event). Collects bytes (l ++ ys) (byte_at p) end (slice_range bytes (byte_at p) (byte_at q) ++ all))
      (sym is.events)
      (collects-back bytes (pair_unless_empty n.SpaceOrTab p q ++ ys) (byte_at p) (byte_at q) end all
      (byte-grows p q is.white.onward)
      (collects-following bytes (pair_unless_empty n.SpaceOrTab p q) ys (byte_at q) end all
      (pair-roles QuietOrEnding n.SpaceOrTab p q tt) c)),
)
