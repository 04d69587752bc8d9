-- The begin and the end of the events of a line.
use Rattle.std.specs.Prelude.{Option, Some, None}
use Rattle.std.proofs.Common.{◌≡◌, List, [], ◌∷◌, ◌++◌, drop, refl, ap, ◌∙◌, append_assoc}
use Rattle.md_engine.specs.declared.event.Event.{Event}
use Rattle.md_engine.specs.declared.event.Name.{Name}
use Rattle.md_engine.specs.declared.event.Point.{Point}
use Rattle.md_events.specs.Events.Nested.{around, enter, exit, pair}
use Rattle.proof_frame.specs.Row.{Row, ending_events, last_row, but_end, but_ends, end_of}
use Rattle.proof_frame.proofs.LeafLines.Framed.{framed_by, framed_rest}

-- events before an end
pub but_end-is : (es : List Event) (e : Event) → but_end (es ++ e ∷ []) ≡ es
but_end-is [] e = refl
but_end-is (f ∷ []) e = refl
but_end-is (f ∷ g ∷ es) e = ap (λ (l : List Event). f ∷ l) (but_end-is (g ∷ es) e)

-- between a begin and an end
pub but_ends-is : (f : Event) (es : List Event) (e : Event) → but_ends (f ∷ es ++ e ∷ []) ≡ es
but_ends-is f es e = ap (λ (l : List Event). drop 1 l) (but_end-is (f ∷ es) e)

-- and the end
pub end-is : (es : List Event) (e : Event) → end_of (es ++ e ∷ []) ≡ e ∷ []
end-is [] e = refl
end-is (f ∷ []) e = refl
end-is (f ∷ g ∷ es) e = end-is (g ∷ es) e

-- the lines of a leaf are one part, from the begin of the first to the end of the last
pub span-is : (f : Row → List Event) (name : Name) (at : Point) (lead inside : List Event) (row : Row)
    (rows : List Row) →
    but_end (f row) ≡ lead ++ enter name at ∷ inside →
    end_of (f (last_row row rows)) ≡ exit name (last_row row rows).end ∷ [] →
    framed_by f row rows ≡ lead ++ around name at (last_row row rows).end (inside ++ framed_rest f row rows)
span-is f name at lead inside row rows first last =
    ap (λ (l : List Event). l ++ rest ++ end_of (f (last_row row rows))) first
    ∙ ap (λ (l : List Event). (lead ++ enter name at ∷ inside) ++ rest ++ l) last
    ∙ ap (λ (l : List Event). l ++ end) (append_assoc lead (enter name at ∷ inside) rest)
    ∙ append_assoc lead (enter name at ∷ inside ++ rest) end
  where
    rest : List Event
    rest = framed_rest f row rows

    end : List Event
    end = exit name (last_row row rows).end ∷ []

-- the ending of a line
pub ending-is : (name : Name) (row : Row) (q : Point) → row.after ≡ Some q →
    ending_events name row ≡ pair name row.end q
ending-is name row q after = ap (λ (x : Option Point). elim x [ None ↦ [] | Some q ↦ pair name row.end q ]) after
