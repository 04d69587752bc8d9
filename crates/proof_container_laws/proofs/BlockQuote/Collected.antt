-- The prefix of a block quote in a text that continues after it: it leaves the whitespace before its marker.
use Rattle.std.proofs.Common.{◌≡◌, ℕ, ◌+◌, ◌≤◌, Bool, true, false, cond, List, [], ◌∷◌, ◌++◌, slice_range, ap, sym, ◌∙◌}
use Rattle.std.proofs.Common.{append_assoc, arith}
use Rattle.std.specs.Prelude.{◌==◌}
use Rattle.md_engine.specs.declared.event.Event.{Event}
use Rattle.md_engine.specs.declared.event.Point.{Point}
use Rattle.md_events.specs.Events.Inline.{pair_unless_empty}
use Rattle.md_events.specs.Events.Nested.{enter, exit}
use Rattle.md_meaning.specs.Rest.{is_blank}
use Rattle.md_events.specs.Events.Spelled.{Text, after_prefix, before_prefix, byte_at, text_to}
use Rattle.md_events.proofs.FeedLines.{slice-split}
use Rattle.md_events.proofs.SpelledLemmas.{QuietOrEnding, text-inline, text_after, text_after-append}
use Rattle.proof_frame.proofs.PlainRoles.{pair-roles}
use Rattle.proof_frame.proofs.SpanLemmas.{byte-order}
use Rattle.proof_frame.proofs.CollectFacts.{Collects, slice-none, blank-following}
use Rattle.md_engine.specs.declared.event.Name.TheVariants as n
use Rattle.md_containers.proofs.QuoteLines.{IsPrefix}

-- what a prefix makes of a text: it stops before the marker, and continues after the prefix
prefix-text : (bytes : List ℕ) (p q : Point) (es : List Event) (t : Text) → (is : IsPrefix bytes p q es) →
    text_after bytes t es ≡ after_prefix q (before_prefix bytes is.marker t)
prefix-text bytes p q es t is =
    let white : List Event = pair_unless_empty n.SpaceOrTab p is.marker in
    let more : List Event = pair_unless_empty n.SpaceOrTab is.following q in
    let inside : List Event = enter n.BlockQuotePrefix is.marker ∷ enter n.BlockQuoteMarker is.marker
    ∷ exit n.BlockQuoteMarker is.following ∷ more in
    ap (text_after bytes t) is.events
    ∙ text_after-append bytes t (white ++ inside) (exit n.BlockQuotePrefix q ∷ [])
    ∙ ap (λ (x : Text). text_after bytes x (exit n.BlockQuotePrefix q ∷ []))
    (text_after-append bytes t white inside
    ∙ ap (λ (x : Text). text_after bytes x inside)
    (text-inline bytes t white (pair-roles QuietOrEnding n.SpaceOrTab p is.marker tt))
    ∙ text-inline bytes (before_prefix bytes is.marker t) more
    (pair-roles QuietOrEnding n.SpaceOrTab is.following q tt))

-- from a byte on, up to the marker
collects-prefix : (bytes : List ℕ) (p q : Point) (es ys : List Event) (from end : ℕ) (all : List ℕ) →
    (is : IsPrefix bytes p q es) → from ≤ is.marker.index → Collects bytes ys (byte_at q) end all →
    Collects bytes (es ++ ys) from end (slice_range bytes from is.marker.index ++ all)
collects-prefix bytes p q es ys from end all is le c = λ t h.
    let cut : Text = after_prefix q (before_prefix bytes is.marker t) in
    let upto : List ℕ = slice_range bytes t.from is.marker.index in
    ap (text_to bytes end)
    (text_after-append bytes t es ys ∙ ap (λ (x : Text). text_after bytes x ys) (prefix-text bytes p q es t is))
    ∙ c cut (omega arith)
    ∙ ap (λ (l : List ℕ). (t.front ++ upto) ++ (l ++ all)) (slice-none bytes (byte_at q))
    ∙ append_assoc t.front upto all
    ∙ ap (λ (l : List ℕ). t.front ++ (l ++ all)) (slice-split bytes t.from from is.marker.index h le)
    ∙ ap (λ (l : List ℕ). t.front ++ l)
    (append_assoc (slice_range bytes t.from from) (slice_range bytes from is.marker.index) all)

-- what is whitespace from a point on is so from its byte on, which may lie after a tab that is cut
pub blank-before : (bytes : List ℕ) (p : Point) (end : ℕ) → byte_at p ≤ end →
    is_blank (slice_range bytes p.index end) ≡ true → is_blank (slice_range bytes (byte_at p) end) ≡ true
blank-before bytes p end le blank = go (p.vs == 0) le
  where
    go : (x : Bool) → cond x p.index (p.index + 1) ≤ end →
        is_blank (slice_range bytes (cond x p.index (p.index + 1)) end) ≡ true
    go true h = blank
    go false h =
        blank-following (slice_range bytes p.index (p.index + 1)) (slice_range bytes (p.index + 1) end)
        (sym (ap is_blank (slice-split bytes p.index (p.index + 1) end (omega arith) h)) ∙ blank)

-- a prefix leaves the whitespace before its marker
pub collects-quote : (bytes : List ℕ) (p q : Point) (es ys : List Event) (end : ℕ) (all : List ℕ) →
    IsPrefix bytes p q es → Collects bytes ys (byte_at q) end all →
    (white : List ℕ) × (is_blank white ≡ true) × Collects bytes (es ++ ys) (byte_at p) end (white ++ all)
collects-quote bytes p q es ys end all is c =
    let le = byte-order p is.marker is.indent is.marker_whole in (
      slice_range bytes (byte_at p) is.marker.index,
      blank-before bytes p is.marker.index le is.white_before,
      collects-prefix bytes p q es ys (byte_at p) end all is le c,
    )
