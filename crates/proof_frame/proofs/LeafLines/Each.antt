-- What holds of the events of the lines of a leaf, of endings, and of events one after the other holds of the lines
-- once they are joined: no event is added, and what is bare after the leaf may be whitespace there.
use Rattle.std.proofs.Common.{Bool, true, false, List, [], ◌∷◌, ◌++◌, map}
use Rattle.std.specs.Prelude.{Option, Some, None}
use Rattle.md_engine.specs.declared.event.Event.{Event}
use Rattle.md_engine.specs.declared.event.Name.{Name}
use Rattle.md_engine.specs.declared.event.Name.TheVariants as n
use Rattle.md_engine.specs.declared.event.Point.{Point}
use Rattle.md_leaves.specs.Spanned.{renamed}
use Rattle.md_leaves.specs.declared.spans.Place.TheVariants.{Outside}
use Rattle.md_events.specs.Events.Nested.{pair}
use Rattle.md_events.specs.Events.Spelled.{without_last}
use Rattle.proof_frame.specs.EndingName.{ending_name}
use Rattle.proof_frame.specs.Row.{Row, any_framed, but_end, but_ends, end_by, end_of, ending_events, ending_of}
use Rattle.proof_frame.specs.Row.{inside_leaf, is_blank_by, is_framed, span_after, span_by, span_rest}
use Rattle.proof_frame.proofs.EachEvent.{Each, each-drop}
use Rattle.proof_frame.proofs.SpanLemmas.{either}

-- what is before further lines, and on them
abbrev pub AreEach : (Event → Type 0) → List Row → Type 0
AreEach P [] = Unit {0}
AreEach P (row ∷ rows) = Each P row.front × Each P row.inside × AreEach P rows

-- What holds of lists of such events, of the endings of lines, of blank ones and of others, and of such lists one after
-- the other; what is whitespace outside of a leaf is such an event.
pub record OfGaps (P : Event → Type 0) (L : List Event → Type 0) : Type 0 where
  pub all : (es : List Event) → Each P es → L es
  pub append : (xs ys : List Event) → L xs → L ys → L (xs ++ ys)
  pub ending : (p q : Point) → L (pair n.LineEnding p q)
  pub blank : (p q : Point) → L (pair n.BlankLineEnding p q)
  pub white : (e : Event) → P e → P (renamed Outside e)

-- Of the events of one line.

but_end-each : (P : Event → Type 0) (es : List Event) → Each P es → Each P (without_last es)
but_end-each P [] h = tt
but_end-each P (e ∷ []) h = tt
but_end-each P (e ∷ f ∷ es) h = (h.0, but_end-each P (f ∷ es) h.1)

end-each : (P : Event → Type 0) (es : List Event) → Each P es → Each P (end_of es)
end-each P [] h = tt
end-each P (e ∷ []) h = h
end-each P (e ∷ f ∷ es) h = end-each P (f ∷ es) h.1

inside-each : (P : Event → Type 0) (es : List Event) → Each P es → Each P (inside_leaf es)
inside-each P es h =
    either (Each P) (is_framed es) (but_ends es) es (each-drop P 1 (without_last es) (but_end-each P es h)) h

white-each : (P : Event → Type 0) (L : List Event → Type 0) → OfGaps P L → (es : List Event) → Each P es →
    Each P (map (renamed Outside) es)
white-each P L of [] h = tt
white-each P L of (e ∷ es) h = (of.white e h.0, white-each P L of es h.1)

-- Of what is between two lines.

pair-each : (P : Event → Type 0) (L : List Event → Type 0) → OfGaps P L → (name : Name) (row : Row) →
    ((p q : Point) → L (pair name p q)) → L (ending_events name row)
pair-each P L of name row h = go row.after
  where
    go : (after : Option Point) → L (elim after [ None ↦ [] | Some q ↦ pair name row.end q ])
    go None = of.all [] tt
    go (Some q) = h row.end q

ending-each : (P : Event → Type 0) (L : List Event → Type 0) → OfGaps P L → (row : Row) →
    L (ending_events (ending_of row.kind row) row)
ending-each P L of row = go (is_blank_by row.kind row)
  where
    go : (blank : Bool) → L (ending_events (ending_name blank) row)
    go true = pair-each P L of n.BlankLineEnding row of.blank
    go false = pair-each P L of n.LineEnding row of.ending

-- Of all.

abbrev its_events : Row → List Event
its_events row = row.inside

following-each : (P : Event → Type 0) (L : List Event → Type 0) → OfGaps P L → (row : Row) (rows : List Row) →
    AreEach P rows → L (span_after its_events row rows)
following-each P L of row [] h = of.all [] tt
following-each P L of row (next ∷ rows) h =
    let ending : List Event = ending_events (ending_of row.kind row) row in
    let white : List Event = map (renamed Outside) next.inside in
    of.append (ending ++ next.front ++ white) (span_after its_events next rows)
    (of.append (ending ++ next.front) white
    (of.append ending next.front (ending-each P L of row) (of.all next.front h.0))
    (of.all white (white-each P L of next.inside h.1)))
    (following-each P L of next rows h.2)

rest-each : (P : Event → Type 0) (L : List Event → Type 0) → OfGaps P L → (end : List Event) (row : Row)
    (rows : List Row) → Each P end → AreEach P rows → L (span_rest its_events end row rows)
rest-each P L of end row [] k h = of.all end k
rest-each P L of end row (next ∷ rows) k h =
    let ending : List Event = ending_events n.LineEnding row in
    let inside : List Event = inside_leaf next.inside in
    let last : List Event = end_by end next.inside in
    let more : List Event = span_rest its_events last next rows in
    either L (any_framed its_events (next ∷ rows)) (ending ++ next.front ++ inside ++ more)
    (end ++ span_after its_events row (next ∷ rows))
    (of.append (ending ++ next.front ++ inside) more
    (of.append (ending ++ next.front) inside
    (of.append ending next.front (pair-each P L of n.LineEnding row of.ending) (of.all next.front h.0))
    (of.all inside (inside-each P next.inside h.1)))
    (rest-each P L of last next rows
    (either (Each P) (is_framed next.inside) (end_of next.inside) end (end-each P next.inside h.1) k) h.2))
    (of.append end (span_after its_events row (next ∷ rows)) (of.all end k)
    (following-each P L of row (next ∷ rows) h))

pub span-each : (P : Event → Type 0) (L : List Event → Type 0) → OfGaps P L → (row : Row) (rows : List Row) →
    Each P row.inside → AreEach P rows → L (span_by its_events row rows)
span-each P L of row rows own h =
    of.append (but_end row.inside) (span_rest its_events (end_of row.inside) row rows)
    (of.all (but_end row.inside) (but_end-each P row.inside own))
    (rest-each P L of (end_of row.inside) row rows (end-each P row.inside own) h)
