-- What is before a line goes forward, stays on its line, and takes columns, if there is anything.
use Rattle.std.proofs.Common.{◌≡◌, ℕ, ◌≤◌, Bool, List, [], ◌∷◌, ◌++◌, ◌∙◌, refl, sym, ap₂, arith}
use Rattle.std.specs.Prelude.{◌&&◌, ◌==◌}
use Rattle.std.proofs.lemmas.Bool.{eq-eqb}
use Rattle.std.proofs.lemmas.Bool.Decides.{nat_tests}
use Rattle.md_engine.specs.declared.event.Event.{Event}
use Rattle.md_engine.specs.declared.event.Point.{Point}
use Rattle.md_meaning.specs.State.{Container}
use Rattle.proof_frame.proofs.FrontFacts.{Following, Begins, LinePrefix, Proceeds}
use Rattle.proof_frame.proofs.PrefixFacts.{is_bare}
use Rattle.proof_frame.proofs.SpanLemmas.{Spans, order-grows}
use Rattle.md_events.proofs.NestedLemmas.{at_or_before-trans, forward-last}
use Rattle.md_events.specs.Events.Nested.{last_point}

spans-grow : (p q : Point) (es : List Event) → Spans p q es → p.index ≤ q.index
spans-grow p q es h = order-grows p q (at_or_before-trans p (last_point p es) q (forward-last p es h.0) h.1)

-- a point does not come after where the front ends
pub fronts-grow : (bytes : List ℕ) (opens : List Container) (p q : Point) (es : List Event) →
    LinePrefix bytes opens p q es → p.index ≤ q.index
fronts-grow bytes opens p q es (Following at) = omega arith
fronts-grow bytes opens p q es (Proceeds same first mid last xs ys is more) =
    let one = spans-grow first mid xs is.common.nested.1 in let further = fronts-grow bytes same mid last ys more in
    omega arith
fronts-grow bytes opens p q es (Begins c below first mid last xs ys is more) =
    let one = spans-grow first mid xs is.common.nested.1 in let further = fronts-grow bytes below mid last ys more in
    omega arith

pub fronts-line : (bytes : List ℕ) (opens : List Container) (p q : Point) (es : List Event) →
    LinePrefix bytes opens p q es → q.line ≡ p.line
fronts-line bytes opens p q es (Following at) = refl
fronts-line bytes opens p q es (Proceeds same first mid last xs ys is more) =
    fronts-line bytes same mid last ys more ∙ is.common.line
fronts-line bytes opens p q es (Begins c below first mid last xs ys is more) =
    fronts-line bytes below mid last ys more ∙ is.common.line

-- Columns.

columns-append : (a b c : ℕ) → a ≤ b → b ≤ c → ((b == a) && (c == b)) ≡ (c == a)
columns-append a b c h k = grind (arith, nat_tests)

bare-append : (xs ys : List Event) → is_bare (xs ++ ys) ≡ (is_bare xs && is_bare ys)
bare-append [] ys = refl
bare-append (x ∷ xs) ys = refl

-- where no container opens, it takes columns, if there is anything
pub fronts-columns : (bytes : List ℕ) (opens : List Container) (p q : Point) (es : List Event) →
    LinePrefix bytes opens p q es → opens ≡ [] → (p.column ≤ q.column) × (is_bare es ≡ (q.column == p.column))
fronts-columns bytes opens p q es (Following at) none = (omega arith, sym (eq-eqb at.column at.column refl))
fronts-columns bytes opens p q es (Proceeds same first mid last xs ys is more) none =
    let further = fronts-columns bytes same mid last ys more none in (
      omega (arith, is.onward, further.0),
      bare-append xs ys ∙ ap₂ (λ (a b : Bool). a && b) is.bare further.1
          ∙ columns-append first.column mid.column last.column is.onward further.0,
    )
fronts-columns bytes opens p q es (Begins c below first mid last xs ys is more) none = cc
