-- The lines of a body, leaf by leaf.
use Rattle.std.proofs.Common.{◌≡◌, ℕ, Bool, true, false, cond, List, [], ◌∷◌, length, refl, sym, ◌∙◌, subst}
use Rattle.std.proofs.Common.{append-nil, flat_map}
use Rattle.std.specs.Prelude.{◌==◌}
use Rattle.md_engine.specs.declared.configuration.ParseOptions.{ParseOptions}
use Rattle.md_meaning.specs.Containers.{Taken}
use Rattle.md_meaning.specs.Rest.{Rest}
use Rattle.md_meaning.specs.State.{Path, spot}
use Rattle.md_meaning.proofs.TextsLemmas.{NoEnding}
use Rattle.md_events.specs.Exact.Blocks.{group_events, grouped, is_continued}
use Rattle.md_events.specs.Exact.Places.{TextLine, line_end, place, whole}
use Rattle.md_events.specs.Exact.Prefixes.{begins, containers, following_all, further_prefixes, new_containers}
use Rattle.md_events.specs.Exact.Prefixes.{taken_prefixes}
use Rattle.md_events.specs.Exact.Rows.{Row, next_role, next_stays, row_of, rows_of}
use Rattle.proof_exact_lines.specs.Last.{HasLine}
use Rattle.proof_exact_lines.proofs.ExactListed.{begun, body_rows, by-new, line-text, open-follows}
use Rattle.proof_exact_lines.proofs.GroupEvents.{first_group, grouped-first, rest_groups}
use Rattle.proof_exact_lines.proofs.LineWalk.{after}
use Rattle.proof_exact_lines.proofs.Markers.{IsIn}
use Rattle.proof_exact_lines.proofs.RowLast.{begins-facts, on_of, remains-facts}
use Rattle.std.specs.Prelude.{drop}
use Rattle.proof_exact.proofs.Filled.Fronts.{bare-filled, begins-filled, ends-filled, further-bare}
use Rattle.proof_exact.proofs.Filled.Groups.{AllGo, AreRows, group-filled}
use Rattle.proof_exact.proofs.Filled.Leaves.{IsLine}
use Rattle.proof_exact.proofs.Filled.Parts.{Filled, filled-append, filled-none}
use Rattle.proof_exact.proofs.Filled.Rests.{containers-end}
use Rattle.proof_exact.proofs.Filled.RowTexts.{AfterText, row-dark, text-next}
use Rattle.proof_exact.proofs.Filled.OpenText.{IsPlainText}
use Rattle.proof_exact.proofs.Filled.TextSpans.{Bare}

-- A line is in a text, and holds no line ending.
pub record IsTextLine (bytes : List ℕ) (line : TextLine) : Type 0 where
  pub within : IsIn bytes line
  pub plain : NoEnding line.bytes

abbrev pub AreTextLines : List ℕ → List TextLine → Type 0
AreTextLines bytes [] = Unit {0}
AreTextLines bytes (line ∷ lines) = IsTextLine bytes line × AreTextLines bytes lines

-- So a row is what a line of the exact list is.
row-line : (options : ParseOptions) (bytes : List ℕ) (p : Path) (line : TextLine) (below : List Row) →
    IsTextLine bytes line → IsLine bytes (row_of options p line below)
row-line options bytes p line below is = record {
  rest = record { within = is.within; plain = is.plain; end = containers-end options p all (whole line) };
  front =
      filled-append (further_prefixes line (whole line) on) (begins line (after options p line) (length on) inner new)
      (bare-filled (further_prefixes line (whole line) on) (further-bare line (whole line) on))
      (begins-filled line (after options p line) (length on) inner new);
  ends =
      ends-filled (next_stays below) (drop (next_stays below) (containers (after options p line)))
      (place line (line_end line)) below;
}
  where
    on : List Taken
    on = taken_prefixes options p (whole line)

    all : Bool
    all = length on == length (containers p)

    inner : Rest
    inner = following_all (whole line) on

    new : List Taken
    new = new_containers options p all inner

-- what is before a line that continues a leaf
row-bare : (options : ParseOptions) (p : Path) (line : TextLine) (below : List Row) → HasLine (spot p).leaf →
    is_continued (row_of options p line below).role ≡ true → Bare (row_of options p line below).front
row-bare options p line below h proceeds =
    by-new options p line
    (λ t ts e. let first = (begins-facts options p line below h t ts e).first in absurd (cc))
    (λ e.
    subst Bare
    (sym
    ((remains-facts options p line below h e).front
    ∙ append-nil (further_prefixes line (whole line) (on_of options p line))))
    (further-bare line (whole line) (on_of options p line)))

rows-are : (options : ParseOptions) (bytes : List ℕ) (p : Path) (lines : List TextLine) → HasLine (spot p).leaf →
    AreTextLines bytes lines → AreRows bytes (rows_of options p lines)
rows-are options bytes p [] h are = tt
rows-are options bytes p (line ∷ lines) h are =
    let below : List Row = rows_of options (after options p line) lines in (
      record {
        line = row-line options bytes p line below are.0;
        further = row-bare options p line below h;
        dark = row-dark options p line below;
      },
      text-next options p line lines,
      rows-are options bytes (after options p line) lines (line-text options p line h) are.1,
    )

-- The lines of the first leaf.

first-next : (rows : List Row) → next_role (first_group rows) ≡ next_role rows
first-next [] = refl
first-next (row ∷ rows) = refl

first-are : (bytes : List ℕ) (rows : List Row) → AreRows bytes rows → AreRows bytes (first_group rows)
first-are bytes [] are = tt
first-are bytes (row ∷ below) are =
    (are.0, next (is_continued (next_role below)), more (is_continued (next_role below)) (first-are bytes below are.2))
  where
    next : (x : Bool) → IsPlainText row.role → AfterText (next_role (cond x (first_group below) []))
    next true plain = subst AfterText (sym (first-next below)) (are.1 plain)
    next false plain = tt

    more : (x : Bool) → AreRows bytes (first_group below) → AreRows bytes (cond x (first_group below) [])
    more true first = first
    more false first = tt

all-go : (rows : List Row) → is_continued (next_role rows) ≡ true → AllGo (first_group rows)
all-go [] e = tt
all-go (row ∷ below) e = (e, go (is_continued (next_role below)) refl (all-go below))
  where
    go : (x : Bool) → is_continued (next_role below) ≡ x →
        (is_continued (next_role below) ≡ true → AllGo (first_group below)) → AllGo (cond x (first_group below) [])
    go true e more = more e
    go false e more = tt

further-go : (below : List Row) → AllGo (cond (is_continued (next_role below)) (first_group below) [])
further-go below = go (is_continued (next_role below)) refl
  where
    go : (x : Bool) → is_continued (next_role below) ≡ x → AllGo (cond x (first_group below) [])
    go true e = all-go below e
    go false e = tt

-- All leaves.

record AllFilled (options : ParseOptions) (bytes : List ℕ) (rows : List Row) : Type 0 where
  all : is_continued (next_role rows) ≡ false → Filled bytes (flat_map (group_events options) (grouped rows))
  rest : Filled bytes (flat_map (group_events options) (rest_groups rows))

groups-filled : (options : ParseOptions) (bytes : List ℕ) (rows : List Row) → AreRows bytes rows →
    AllFilled options bytes rows
groups-filled options bytes [] are = record { all = λ first. filled-none; rest = filled-none }
groups-filled options bytes (row ∷ below) are = onto (groups-filled options bytes below are.2)
  where
    further : List Row
    further = cond (is_continued (next_role below)) (first_group below) []

    onto : AllFilled options bytes below → AllFilled options bytes (row ∷ below)
    onto more = record {
      all =
          λ first.
          subst (λ (gs : List (List Row)). Filled bytes (flat_map (group_events options) gs))
          (sym (grouped-first row below))
          (filled-append (group_events options (row ∷ further))
          (flat_map (group_events options) (rest_groups (row ∷ below)))
          (group-filled bytes options row further (first-are bytes (row ∷ below) are) (further-go below) first)
          (go (is_continued (next_role below)) refl));
      rest = go (is_continued (next_role below)) refl;
    }
      where
        go : (x : Bool) → is_continued (next_role below) ≡ x →
            Filled bytes (flat_map (group_events options) (cond x (rest_groups below) (grouped below)))
        go true e = more.rest
        go false e = more.all e

-- So are those of a body.
pub body-filled : (options : ParseOptions) (bytes : List ℕ) (lines : List TextLine) → AreTextLines bytes lines →
    Filled bytes (flat_map (group_events options) (grouped (body_rows options lines)))
body-filled options bytes lines are =
    (groups-filled options bytes rows (rows-are options bytes begun lines tt are)).all
    (first (is_continued (next_role rows)) refl)
  where
    rows : List Row
    rows = body_rows options lines

    first : (x : Bool) → is_continued (next_role rows) ≡ x → x ≡ false
    first true proceeds = absurd (open-follows options begun lines tt proceeds)
    first false proceeds = refl
