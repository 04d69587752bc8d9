-- The cells of a line that begins with a bullet: a break by its bytes is one by its cells.
use Rattle.std.proofs.Common.{◌≡◌, ℕ, Bool, true, false, ◌&&◌, ◌||◌, List, ◌∷◌, ◌++◌, refl, ap, ◌∙◌, arith}
use Rattle.std.specs.Prelude.{◌==◌, nat_le, count_by}
use Rattle.std.specs.List.{list_all}
use Rattle.std.proofs.lemmas.Bool.Decides.{nat_tests}
use Rattle.md_engine.specs.declared.event.Point.{Point}
use Rattle.md_engine.specs.declared.tokenizer.Line.{Line}
use Rattle.md_engine.specs.Meaning.{Cell}
use Rattle.md_containers.proofs.ItemBeginMeaning.{bullet-dark}
use Rattle.md_meaning.specs.Containers.{is_bullet}
use Rattle.md_meaning.specs.Leaves.{is_rule, is_rule_marker}
use Rattle.md_meaning.specs.Rest.{is_white}
use Rattle.md_meaning.proofs.TextsLemmas.{NoEnding}
use Rattle.md_events.specs.Ahead.{line_bytes}
use Rattle.md_events.specs.Events.Places.{past_byte}
use Rattle.md_events.proofs.FeedLines.{Stops, all-spread, byte-one, bytes_of, count-spread, spread}
use Rattle.md_events.proofs.RestLines.{spread-line}

either-white : (x y : Bool) → (x || true) ≡ (y || true)
either-white true true = refl
either-white false true = refl
either-white _ _ = refl

bullet-space : (b : ℕ) → is_bullet b ≡ true → (32 == b) ≡ false
bullet-space b e = grind (arith, nat_tests)

-- a bullet begins a break in the cells where it does in the bytes
pub rule-spread : (line : Line) (b : ℕ) (bs : List ℕ) (p : Point) (stop : List Cell) → NoEnding (b ∷ bs) →
    Stops stop → is_bullet b ≡ true →
    is_rule (line_bytes (spread line (b ∷ bs) p ++ stop)) ≡ is_rule (b ∷ bs)
rule-spread line b bs p stop h k e =
    ap is_rule
    (ap bytes_of (spread-line line (b ∷ bs) p stop h k)
    ∙ ap (λ (l : List Cell). bytes_of (l ++ spread line bs (past_byte b p))) (byte-one line b p (bullet-dark b e)))
    ∙ ap (λ (t : Bool). is_rule_marker b && t && nat_le 2 (count_by (λ (c : ℕ). c == b) more))
    (all-spread (λ (c : ℕ). (c == b) || is_white c) (either-white (32 == b) (9 == b)) line bs (past_byte b p))
    ∙ ap (λ (n : ℕ). is_rule_marker b && list_all (λ (c : ℕ). (c == b) || is_white c) bs && nat_le 2 n)
    (count-spread (λ (c : ℕ). c == b) (bullet-space b e) line bs (past_byte b p))
  where
    more : List ℕ
    more = bytes_of (spread line bs (past_byte b p))
