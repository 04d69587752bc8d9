-- The lines of a leaf, joined, where each further one has a begin and an end, and none is bare.
use Rattle.std.proofs.Common.{◌≡◌, Bool, true, false, cond, ◌||◌, List, [], ◌∷◌, ◌++◌, refl, ap, ap₂, sym, ◌∙◌}
use Rattle.std.proofs.Common.{append_assoc, append-nil}
use Rattle.std.proofs.lemmas.Bool.{or_from, or_right}
use Rattle.md_engine.specs.declared.event.Event.{Event}
use Rattle.md_engine.specs.declared.event.Name.{Name}
use Rattle.md_engine.specs.declared.event.Name.TheVariants as n
use Rattle.md_engine.specs.declared.event.Point.{Point}
use Rattle.md_leaves.specs.Spanned.{has_lines}
use Rattle.md_leaves.proofs.SpannedLines.{NoLines}
use Rattle.md_events.specs.Events.Nested.{exit}
use Rattle.md_events.specs.Events.Spelled.{role}
use Rattle.proof_frame.specs.Row.{Row, any_framed, but_end, but_ends, end_of, ending_events, is_framed, last_row}
use Rattle.proof_frame.specs.Row.{end_by, inside_leaf, span_after, span_by, span_rest}
use Rattle.proof_frame.proofs.SpanLaws.{IsSpanned}

-- after the first of them, before the end of the last
abbrev pub framed_rest : (Row → List Event) → Row → List Row → List Event
framed_rest f row [] = []
framed_rest f row (next ∷ rows) =
    ending_events n.LineEnding row ++ next.front ++ but_ends (f next) ++ framed_rest f next rows

abbrev pub framed_by : (Row → List Event) → Row → List Row → List Event
framed_by f row rows = but_end (f row) ++ framed_rest f row rows ++ end_of (f (last_row row rows))

-- each of these lines has a begin and an end
abbrev pub AreFramed : (Row → List Event) → List Row → Type 0
AreFramed f [] = Unit {0}
AreFramed f (row ∷ rows) = (is_framed (f row) ≡ true) × AreFramed f rows

-- the end shows it,
framed-end : (es : List Event) (e : Event) → has_lines (role e.name) ≡ true → is_framed (es ++ e ∷ []) ≡ true
framed-end [] e h = ap (λ (x : Bool). x || is_framed []) h
framed-end (f ∷ es) e h = or_right (has_lines (role f.name)) (is_framed (es ++ e ∷ [])) (framed-end es e h)

-- so it is where a line is as a block by itself
pub spanned-framed : (Lead : List Event → Type 0) (Begins : Event → Type 0) (es : List Event) →
    IsSpanned Lead Begins es → is_framed es ≡ true
spanned-framed Lead Begins es s = ap is_framed s.is ∙ framed-end (s.lead ++ s.begin ∷ s.inside) s.end s.ends.lines

-- such a line, of which no other line begins or ends inside
pub line-spanned : (Lead : List Event → Type 0) (Begins : Event → Type 0) (name : Name) (begin : Event) (q : Point)
    (inside es : List Event) →
    Lead [] → Begins begin → has_lines (role name) ≡ true → NoLines inside →
    es ≡ begin ∷ inside ++ exit name q ∷ [] → IsSpanned Lead Begins es
line-spanned Lead Begins name begin q inside es none is lines plain same = record {
  lead = [];
  begin = begin;
  inside = inside;
  end = exit name q;
  is = same;
  lead_plain = none;
  begins = is;
  inside_plain = plain;
  ends = record { kind = refl; lines = lines };
}

-- and where no block of several lines begins or ends there is none
pub plain-unframed : (es : List Event) → NoLines es → is_framed es ≡ false
plain-unframed [] h = refl
plain-unframed (e ∷ es) h = or_from (has_lines (role e.name)) (is_framed es) h.0 (plain-unframed es h.1)

-- What follows a line: first one that has them,
pub rest-framed : (f : Row → List Event) (end : List Event) (row next : Row) (rows : List Row) →
    is_framed (f next) ≡ true →
    span_rest f end row (next ∷ rows) ≡
    ending_events n.LineEnding row ++ next.front ++ but_ends (f next) ++ span_rest f (end_of (f next)) next rows
rest-framed f end row next rows is =
    ap
    (λ (x : Bool).
    cond (x || any_framed f rows)
    (ending_events n.LineEnding row ++ next.front ++ cond x (but_ends (f next)) (f next)
    ++ span_rest f (cond x (end_of (f next)) end) next rows)
    (end ++ span_after f row (next ∷ rows))) is

-- a bare one, before one that has them,
pub rest-bare : (f : Row → List Event) (end : List Event) (row next : Row) (rows : List Row) →
    is_framed (f next) ≡ false → any_framed f rows ≡ true →
    span_rest f end row (next ∷ rows) ≡
    ending_events n.LineEnding row ++ next.front ++ f next ++ span_rest f end next rows
rest-bare f end row next rows bare more =
    ap₂
    (λ (x y : Bool).
    cond (x || y)
    (ending_events n.LineEnding row ++ next.front ++ cond x (but_ends (f next)) (f next)
    ++ span_rest f (cond x (end_of (f next)) end) next rows)
    (end ++ span_after f row (next ∷ rows))) bare more

-- or bare ones alone
pub rest-following : (f : Row → List Event) (end : List Event) (row : Row) (rows : List Row) →
    any_framed f rows ≡ false → span_rest f end row rows ≡ end ++ span_after f row rows
rest-following f end row [] none = sym (append-nil end)
rest-following f end row (next ∷ rows) none =
    ap
    (λ (x : Bool).
    cond x
    (ending_events n.LineEnding row ++ next.front ++ inside_leaf (f next)
    ++ span_rest f (end_by end (f next)) next rows)
    (end ++ span_after f row (next ∷ rows))) none

-- Where all have them, the lines are joined by these alone.
all-framed : (f : Row → List Event) (row : Row) (rows : List Row) → AreFramed f rows →
    span_rest f (end_of (f row)) row rows ≡ framed_rest f row rows ++ end_of (f (last_row row rows))
all-framed f row [] are = refl
all-framed f row (next ∷ rows) are =
    let front : List Event = ending_events n.LineEnding row ++ next.front ++ but_ends (f next) in
    rest-framed f (end_of (f row)) row next rows are.0
    ∙ ap (λ (l : List Event). front ++ l) (all-framed f next rows are.1)
    ∙ sym (append_assoc front (framed_rest f next rows) (end_of (f (last_row next rows))))

pub span-framed : (f : Row → List Event) (row : Row) (rows : List Row) → AreFramed f rows →
    span_by f row rows ≡ framed_by f row rows
span-framed f row rows are =
    ap (λ (l : List Event). but_end (f row) ++ l) (all-framed f row rows are)
    ∙ sym (append_assoc (but_end (f row)) (framed_rest f row rows) (end_of (f (last_row row rows))))
