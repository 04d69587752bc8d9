-- The list of a reader's spans, with the places that it keeps, against the items of a level.
use Rattle.std.specs.Prelude.{◌≡◌, ℕ, ◌+◌, ◌-◌, ◌*◌, ◌^◌, ◌<◌, ◌≤◌, Bool, true, false, nat_lt, if◌then◌else◌, List, []}
use Rattle.std.specs.Prelude.{◌∷◌, ◌++◌, length}
use Rattle.md_inline_events.specs.Forest.{Forest, size}
use Rattle.md_inlines.specs.declared.Run.{Run}
use Rattle.md_inlines.specs.Emphasis.{Item, read, run}
use Rattle.markdown_inlines.specs.declared.attention.Names.{Names}
use Rattle.markdown_inlines.specs.declared.attention.PlacedRun.{PlacedRun}
use Rattle.markdown_inlines.specs.declared.span.Span.{Span}
use Rattle.markdown_inlines.specs.Spans.{holes, live, span_of, spans_forest, write}

-- how many places are kept for each byte of a run, by whether it may open
abbrev pub width : Bool → ℕ
width true = 3
width false = 1

-- how many are kept for what is left of a run
abbrev pub room : Run → ℕ
room r = r.left * width r.opens

abbrev pub placed : Run → ℕ → ℕ → PlacedRun
placed r first place = record { run = r; first = first; place = place }

-- The spans of the items of a level, one item after the other, and its runs: what is read has the spans of its forest,
-- and a run has the places of the bytes that are left of it. The level begins at a byte, and its spans at a place.
abbrev pub Filled : ℕ → ℕ → List Item → List Span → List PlacedRun → Type 0
Filled at place [] spans runs = (spans ≡ []) × (runs ≡ [])
Filled at place (read forest ∷ items) spans runs =
    (own : List Span) × (rest : List Span) × (spans ≡ own ++ rest) × (live own ≡ spans_forest at forest)
    × Filled (at + size forest) (place + length own) items rest runs
Filled at place (run r ∷ items) spans runs =
    (rest : List Span) × (more : List PlacedRun) × (0 < r.left) × (spans ≡ holes (room r) ++ rest)
    × (runs ≡ placed r at place ∷ more) × Filled (at + r.left) (place + room r) items rest more

-- a run without so many of its bytes, unless none is left
abbrev pub shorter_run : Run → ℕ → ℕ → ℕ → List PlacedRun
shorter_run r count first place =
    if nat_lt count r.left
    then placed
    (record { mark = r.mark; size = r.size; left = r.left - count; opens = r.opens; closes = r.closes }) first place
    ∷ []
    else []

-- What a reader writes where two runs pair by so many bytes of each: those that open begin at `start`, with their first
-- place at `place`, and those that close at `close`, with theirs at `last`.
abbrev pub pair_spans : Names → ℕ → ℕ → ℕ → List Span
pair_spans names count start close =
    span_of names.whole start (close + count)
    ∷ span_of names.sequence start (start + count)
    ∷ span_of names.text (start + count) close ∷ []

abbrev pub end_spans : Names → ℕ → ℕ → List Span
end_spans names count close = span_of names.sequence close (close + count) ∷ []

abbrev pub fill_pair : Names → ℕ → ℕ → ℕ → ℕ → ℕ → List Span → List Span
fill_pair names count start close place last spans =
    write last (end_spans names count close) (write place (pair_spans names count start close) spans)

-- The places of listed runs are among so many spans, and what is left of each has an end.
abbrev pub Placed : ℕ → List PlacedRun → Type 0
Placed count [] = Unit {0}
Placed count (entry ∷ runs) =
    (0 < entry.run.left) × (entry.place + room entry.run ≤ count) × (entry.first + entry.run.left < 2 ^ 64)
    × Placed count runs

-- After other spans, those that are over a byte are the spans of a forest that begins at a byte.
pub record Shows (at : ℕ) (others : List Span) (forest : Forest) (spans : List Span) : Type 0 where
  pub own : List Span
  pub same : spans ≡ others ++ own
  pub shown : live own ≡ spans_forest at forest
