-- Spans: what a reader finds in a text, in preorder (the order of the text, the outer before the inner), and the spans
-- of a forest.
--
-- A span over no byte is nothing: it is a place that was kept for a span that may be found later, or an empty part.
use Rattle.std.specs.Prelude.{ℕ, zero, suc, ◌+◌, Bool, true, false, nat_lt, if◌then◌else◌, List, [], ◌∷◌, ◌++◌, set}
use Rattle.md_engine.specs.declared.event.Name.{Name}
use Rattle.md_engine.specs.declared.event.Name.TheVariants as n
use Rattle.md_inline_events.specs.Forest.{Forest, nothing, part, piece, size}
use Rattle.md_inlines.specs.Atoms.{is_data}
use Rattle.markdown_inlines.specs.declared.span.Span.{Span}

abbrev pub span_of : Name → ℕ → ℕ → Span
span_of name start end = record { name = name; start = start; end = end }

-- a place that is kept
abbrev pub hole : Span
hole = span_of n.Data 0 0

abbrev pub holes : ℕ → List Span
holes zero = []
holes (suc count) = hole ∷ holes count

abbrev pub shown : Span → List Span
shown span = if nat_lt span.start span.end then span ∷ [] else []

-- the spans that are over a byte
abbrev pub live : List Span → List Span
live [] = []
live (span ∷ spans) = shown span ++ live spans

-- text is what is where no span is
abbrev pub unless_data : Bool → List Span → List Span
unless_data true spans = []
unless_data false spans = spans

-- The spans of a forest that begins at a byte.
abbrev pub spans_forest : ℕ → Forest → List Span
spans_forest at nothing = []
spans_forest at (piece name more following) =
    unless_data (is_data name) (shown (span_of name at (at + suc more))) ++ spans_forest (at + suc more) following
spans_forest at (part name inside following) =
    shown (span_of name at (at + size inside)) ++ (spans_forest at inside ++ spans_forest (at + size inside) following)

-- spans written one after the other, from a place on
abbrev pub write : ℕ → List Span → List Span → List Span
write place [] spans = spans
write place (span ∷ more) spans = write (suc place) more (set spans place span)
