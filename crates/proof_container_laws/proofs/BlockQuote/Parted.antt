-- The prefix of a block quote in a text that continues after it.
use Rattle.std.proofs.Common.{◌≡◌, ℕ, ◌<◌, Bool, true, false, cond, ◌&&◌, List, [], ◌∷◌, ◌++◌, slice_range, sym, subst}
use Rattle.std.proofs.Common.{arith}
use Rattle.std.specs.Prelude.{◌==◌, IsTrue, Some}
use Rattle.std.proofs.lemmas.Bool.{and_from}
use Rattle.std.proofs.lemmas.Bool.Decides.{nat_tests}
use Rattle.md_engine.specs.declared.event.Event.{Event}
use Rattle.md_engine.specs.declared.event.Name.TheVariants as n
use Rattle.md_engine.specs.declared.event.Point.{Point}
use Rattle.md_events.specs.Events.Nested.{enter, exit, pair}
use Rattle.md_events.specs.Events.Places.{at_or_before, last_line, same_place}
use Rattle.md_meaning.specs.Rest.{is_blank}
use Rattle.md_events.specs.Events.Spelled.{byte_at}
use Rattle.md_meaning.specs.Texts.{split_lines}
use Rattle.md_outline.specs.Between.{is_between}
use Rattle.md_outline.specs.Outlined.{are_parted, begins_line}
use Rattle.md_containers.proofs.QuoteLines.{IsPrefix}
use Rattle.proof_frame.proofs.SpanLemmas.{byte-order}
use Rattle.proof_frame.proofs.PartedFacts.{clear, low-clear}
use Rattle.proof_frame.proofs.Reached.{PartsText, following_prefix, reaches-following}
use Rattle.proof_frame.proofs.BetweenFacts.{white-at}

-- it begins where no tab of a character is cut
pub prefix-clear : (bytes : List ℕ) (p q : Point) (es : List Event) → IsPrefix bytes p q es → clear bytes p ≡ true
prefix-clear bytes p q es is =
    low-clear bytes p
    (λ e.
    white-at bytes p.index is.marker.index p.index is.white_before (omega arith)
    (before is.marker is.indent is.marker_whole e))
  where
    before : (m : Point) → IsTrue (at_or_before p m) → m.vs ≡ 0 → (p.vs == 0) ≡ false → p.index < m.index
    before m h w e = grind (arith, nat_tests)

-- a text continues after it
pub prefix-parted : (bytes : List ℕ) (p q : Point) (es : List Event) → IsPrefix bytes p q es → PartsText bytes p q es
prefix-parted bytes p q es is span rest reaches between more =
    subst (λ (l : List Event). are_parted bytes (Some span) (l ++ rest) ≡ true) (sym is.events)
    (go (same_place p is.marker) (same_place is.following q))
  where
    marker : Point
    marker = is.marker

    following : Point
    following = is.following

    piece : List ℕ
    piece = slice_range bytes span.from marker.index

    step : ((begins_line span piece && is_blank (last_line (split_lines piece)))
        && (is_between bytes (byte_at q) && are_parted bytes (Some (following_prefix q)) rest)) ≡
        true
    step =
        let onward = more (following_prefix q) (reaches-following bytes q) in
        let at = reaches.marks marker.index (byte-order p marker is.indent is.marker_whole) is.white_before in
        and_from (begins_line span piece && is_blank (last_line (split_lines piece)))
        (is_between bytes (byte_at q) && are_parted bytes (Some (following_prefix q)) rest)
        (and_from (begins_line span piece) (is_blank (last_line (split_lines piece))) at.0 at.1)
        (and_from (is_between bytes (byte_at q)) (are_parted bytes (Some (following_prefix q)) rest) between onward)

    go : (x y : Bool) →
        are_parted bytes (Some span)
        ((cond x [] (pair n.SpaceOrTab p marker) ++ enter n.BlockQuotePrefix marker
        ∷ enter n.BlockQuoteMarker marker ∷ exit n.BlockQuoteMarker following ∷ cond y []
        (pair n.SpaceOrTab following q)
        ++ exit n.BlockQuotePrefix q ∷ [])
        ++ rest) ≡
        true
    go true true = step
    go true false = step
    go false true = step
    go false false = step
