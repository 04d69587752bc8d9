-- Where the text of a heading began, and what was taken of its line from there.
use Rattle.std.proofs.Common.{◌≡◌, ℕ, suc, ◌-◌, List, [], ◌∷◌, ◌++◌, length, take, drop, refl, sym, ◌∙◌, ap}
use Rattle.std.proofs.Common.{arith, append_assoc, Option, Some, None}
use Rattle.std.specs.Prelude.{not, slice_get}
use Rattle.std.specs.List.{All, prefix_len}
use Rattle.std.proofs.Math.Logic.{∥∥₁_map}
use Rattle.std.proofs.lemmas.List.{take-append-drop}
use Rattle.std.proofs.lemmas.List.Elements.{All-head, All-tail}
use Rattle.md_engine.specs.declared.event.Event.{Event}
use Rattle.md_engine.specs.declared.event.Point.{Point}
use Rattle.md_engine.specs.declared.tokenizer.Scratch.{Scratch}
use Rattle.md_engine.specs.Place.{IsPlaced, first_point, walked}
use Rattle.md_leaves.specs.OnLine.{IsOnLine}
use Rattle.md_meaning.specs.Lines.{is_ending, without_ending}
use Rattle.md_events.specs.Events.Nested.{last_point}
use Rattle.md_events.specs.Lent.{whole_from}
use Rattle.md_events.specs.WholeLine.{line_taken}
use Rattle.md_events.proofs.InlineLemmas.{line-no_ending}
use Rattle.md_events.proofs.LineTaken.{taken-slice}

-- The last event.

pub last-got : (es : List Event) (p : Point) (e : Event) → slice_get es (length es - 1) ≡ Some e →
    last_point p es ≡ e.point
last-got [] p e h = cc
last-got (x ∷ []) p e h = ap point_of h
  where
    point_of : Option Event → Point
    point_of None = x.point
    point_of (Some y) = y.point
last-got (x ∷ y ∷ es) p e h =
    let less : suc (suc (length es)) - 1 ≡ suc (suc (length es) - 1) = omega arith in
    last-got (y ∷ es) x.point e (ap (slice_get (x ∷ y ∷ es)) (sym less) ∙ h)

-- it is a point of the text
pub last-placed : (bytes : List ℕ) (es : List Event) (p : Point) → All (λ (e : Event). IsPlaced bytes e.point) es →
    IsPlaced bytes p → IsPlaced bytes (last_point p es)
last-placed bytes [] p all h = h
last-placed bytes (e ∷ es) p all h =
    last-placed bytes es e.point (All-tail (λ (x : Event). IsPlaced bytes x.point) e es all)
    (All-head (λ (x : Event). IsPlaced bytes x.point) e es all)

pub first-placed : (bytes : List ℕ) (p : Point) → IsPlaced bytes p → IsPlaced bytes first_point
unfolding walked
first-placed bytes p h = record {
  sized = h.sized;
  index = omega arith;
  line = omega arith;
  column = omega arith;
  vs = omega arith;
  reached = ∥∥₁_map h.reached (λ r. (0, refl));
}

-- What was taken of the line from there on, up to its ending, is a piece of a line.
pub text-on : (bytes : List ℕ) (s : Scratch) (p q : Point) → IsPlaced bytes p → IsPlaced bytes q →
    p.index ≡ s.start → IsOnLine bytes (without_ending (line_taken bytes s q)) p
text-on bytes s p q h k at =
    let size : ℕ = whole_from q - s.start in
    let following : List ℕ = drop s.start bytes in
    let long : ℕ = prefix_len (λ (b : ℕ). not (is_ending b)) (take size following) in
    let rest : List ℕ = drop long (take size following) ++ drop size following in
    let taken : take size following ≡ line_taken bytes s q = taken-slice bytes s q k in
    let here : drop s.start bytes ≡ without_ending (take size following) ++ rest =
    sym (sym (append_assoc (take long (take size following)) (drop long (take size following)) (drop size following))
    ∙ ap (λ (l : List ℕ). l ++ drop size following) (take-append-drop long (take size following))
    ∙ take-append-drop size following) in
    record {
      placed = h;
      rest = rest;
      here =
          ap (λ (i : ℕ). drop i bytes) at ∙ here ∙ ap (λ (l : List ℕ). without_ending l ++ rest) taken;
      line = line-no_ending (line_taken bytes s q);
    }
