-- The marker of a block quote is over its byte.
use Rattle.std.proofs.Common.{◌≡◌, ℕ, zero, suc, ◌-◌, true, List, [], ◌∷◌, take, drop, slice_range, refl, ap, ◌∙◌}
use Rattle.std.proofs.Common.{arith}
use Rattle.std.specs.Prelude.{Some, slice_get}
use Rattle.md_engine.specs.declared.event.Event.{Event}
use Rattle.md_engine.specs.declared.event.Name.TheVariants as n
use Rattle.md_engine.specs.declared.event.Point.{Point}
use Rattle.md_events.specs.Events.Pieces.{is_valid_piece}
use Rattle.md_containers.proofs.QuoteLines.{IsPrefix}
use Rattle.proof_frame.proofs.PieceFacts.{begins-whole, over-valid, span}

-- one byte of a text
slice-one : (bytes : List ℕ) (i b : ℕ) → slice_get bytes i ≡ Some b → slice_range bytes i (suc i) ≡ b ∷ []
slice-one bytes i b e = ap (λ (k : ℕ). take k (drop i bytes)) one ∙ go bytes i e
  where
    one : suc i - i ≡ 1
    one = omega arith

    go : (bytes : List ℕ) (i : ℕ) → slice_get bytes i ≡ Some b → take 1 (drop i bytes) ≡ b ∷ []
    go [] i e = cc
    go (c ∷ bytes) zero e = let same : c ≡ b = cc in ap (λ (x : ℕ). x ∷ []) same
    go (c ∷ bytes) (suc i) e = go bytes i e

-- the marker of a quote
pub marker-valid : (bytes : List ℕ) (p q : Point) (es : List Event) → (is : IsPrefix bytes p q es) →
    is_valid_piece bytes (span n.BlockQuoteMarker is.marker is.following) ≡ true
marker-valid bytes p q es is =
    let past : is.following.index ≡ suc is.marker.index = is.past in
    over-valid bytes n.BlockQuoteMarker is.marker is.following (62 ∷ [])
    (record {
      some = omega arith;
      whole = is.following_whole;
      slice = ap (slice_range bytes is.marker.index) past ∙ slice-one bytes is.marker.index 62 is.byte;
    })
    (begins-whole n.BlockQuoteMarker is.marker is.marker_whole) refl
