-- What the plain layer reads in a text of a cell is `Data` over it.
use Rattle.std.proofs.Common.{◌≡◌, ℕ, Bool, false, List, [], ◌∷◌, ◌++◌, sym, ◌∙◌, ap}
use Rattle.std.proofs.Common.{append-nil, subst, ap₂, arith, cond, length, suc, slice_range, ◌+◌, ◌&&◌}
use Rattle.std.proofs.lemmas.Bool.Decides.{nat_tests}
use Rattle.std.specs.Prelude.{◌==◌}
use Rattle.md_engine.specs.declared.event.Event.{Event}
use Rattle.md_engine.specs.declared.event.Name.TheVariants as n
use Rattle.md_engine.specs.declared.event.Point.{Point}
use Rattle.md_meaning.specs.Lines.{without_ending}
use Rattle.md_meaning.proofs.TextsLemmas.{NoEnding}
use Rattle.md_events.specs.Events.Inline.{pair_unless_empty}
use Rattle.md_events.specs.Events.Nested.{pair}
use Rattle.md_events.specs.Events.Places.{past_text, same_place}
use Rattle.md_events.proofs.InlineLemmas.{past-index, same-refl}
use Rattle.md_tables.specs.RowCells.{read_text}
use Rattle.md_tables.proofs.RowBytes.{Valid, valid-first}
use Rattle.md_leaves.proofs.OneLine.{line-whole}

-- a text that is not empty ends elsewhere than it begins
apart : (b : ℕ) (bs : List ℕ) (p : Point) → same_place p (past_text (b ∷ bs) p) ≡ false
apart b bs p =
    let q = past_text (b ∷ bs) p in
    let far : q.index ≡ p.index + suc (length bs) = past-index (b ∷ bs) p in
    let other : (p.index == q.index) ≡ false = grind (arith, nat_tests) in
    ap (λ (x : Bool). x && (p.vs == q.vs)) other

pub data-read : (bytes : List ℕ) (b : ℕ) (bs : List ℕ) (p : Point) → Valid bytes p (b ∷ bs) → NoEnding (b ∷ bs) →
    read_text bytes p (past_text (b ∷ bs) p) ≡ pair n.Data p (past_text (b ∷ bs) p)
data-read bytes b bs p is none =
    ap (λ (t : List ℕ). said (past_text (without_ending t) p)) text
    ∙ ap (λ (t : List ℕ). said (past_text t p)) (line-whole (b ∷ bs) none)
    ∙ ap₂ (λ (x y : Bool). (cond x [] (pair n.Data p q) ++ cond y [] (pair n.LineEnding q q)) ++ []) (apart b bs p)
    (same-refl q)
  where
    q : Point
    q = past_text (b ∷ bs) p

    said : Point → List Event
    said end = (pair_unless_empty n.Data p end ++ pair_unless_empty n.LineEnding end q) ++ []

    text : slice_range bytes p.index q.index ≡ b ∷ bs
    text =
        valid-first bytes p (b ∷ bs) []
        (subst (λ (xs : List ℕ). Valid bytes p xs) (sym (append-nil (b ∷ bs))) is)
