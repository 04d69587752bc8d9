-- How the lines of the exact list are put together: all lines of a group but the first continue the one before them,
-- and a line is a head just if a delimiter row is after it.
use Rattle.std.proofs.Common.{◌≡◌, Bool, true, false, cond, List, [], ◌∷◌, refl, ap, sym, ◌∙◌, subst}
use Rattle.std.specs.Option.{is_some}
use Rattle.md_engine.specs.declared.configuration.ParseOptions.{ParseOptions}
use Rattle.md_meaning.specs.Leaves.{is_continued as continues_leaf}
use Rattle.md_meaning.specs.Rest.{Rest, is_blank}
use Rattle.md_meaning.specs.State.{Leaf, OpenCode, Path}
use Rattle.md_meaning.specs.Step.{step}
use Rattle.md_meaning.specs.Tree.{Line}
use Rattle.md_events.specs.Exact.Blocks.{is_continued, grouped}
use Rattle.md_events.specs.Exact.Places.{TextLine, whole}
use Rattle.md_events.specs.Exact.Rows.{AfterCode, Blank, Delimiter, First, FirstText, Further, FurtherText, Head, Role, Row}
use Rattle.md_events.specs.Exact.Rows.{Underline, fresh_role, next_role, role_before, role_on, row_of, rows_of}
use Rattle.proof_exact_lines.proofs.LeafLast.{fresh-cases}
use Rattle.proof_exact.proofs.GroupRuns.{after_run, grouped-run, run}

-- A line before one with this role.
pub record HeadBy (role next : Role) : Type 0 where
  pub head : role ≡ Head → next ≡ Delimiter
  pub delimiter : next ≡ Delimiter → role ≡ Head

-- all of some lines, one before the other
abbrev pub AreHeads : List Row → Type 0
AreHeads [] = Unit {0}
AreHeads (row ∷ rows) = HeadBy row.role (next_role rows) × AreHeads rows

-- Groups.

-- all of these continue the line before them
abbrev pub AllGo : List Row → Type 0
AllGo [] = Unit {0}
AllGo (row ∷ rows) = (is_continued row.role ≡ true) × AllGo rows

abbrev pub IsPut : List Row → Type 0
IsPut [] = Unit {0}
IsPut (row ∷ rows) = HeadBy row.role (next_role rows) × AllGo rows

-- the first line of a group continues none
abbrev pub Starts : List Row → Type 0
Starts [] = Unit {0}
Starts (row ∷ rows) = is_continued row.role ≡ false

abbrev pub AllPut : List (List Row) → Type 0
AllPut [] = Unit {0}
AllPut (rows ∷ groups) = Starts rows × IsPut rows × AllPut groups

-- of the lines of a text, whatever the first of them continues
abbrev pub ArePut : List (List Row) → Type 0
ArePut [] = Unit {0}
ArePut (rows ∷ groups) = IsPut rows × AllPut groups

-- So they are put together.

all-go : (rows : List Row) → AllGo (run rows)
all-go [] = tt
all-go (row ∷ rows) = go (is_continued row.role) refl (all-go rows)
  where
    go : (x : Bool) → is_continued row.role ≡ x → AllGo (run rows) → AllGo (cond x (row ∷ run rows) [])
    go true e more = (e, more)
    go false e more = tt

-- the next line after a line is the next one of its group, if it continues
run-head : (role : Role) (rows : List Row) → HeadBy role (next_role rows) → HeadBy role (next_role (run rows))
run-head role [] by = by
run-head role (row ∷ rows) by = go (is_continued row.role) refl
  where
    go : (x : Bool) → is_continued row.role ≡ x → HeadBy role (next_role (cond x (row ∷ run rows) []))
    go true e = by
    go false e = record {
      head = λ h. let proceeds : true ≡ false = sym (ap is_continued (by.head h)) ∙ e in cc;
      delimiter = λ h. cc;
    }

-- the groups from the first line on that continues none
abbrev FirstStarts : List Row → Type 0
FirstStarts [] = Unit {0}
FirstStarts (row ∷ rows) = is_continued row.role ≡ false

abbrev Both : List Row → Type 0
Both rows = ArePut (grouped rows) × AllPut (grouped (after_run rows))

put-starts : (rows : List Row) → FirstStarts rows → ArePut (grouped rows) → AllPut (grouped rows)
put-starts [] first are = tt
put-starts (row ∷ rows) first are =
    subst AllPut (sym (grouped-run row rows))
    (let put = subst ArePut (grouped-run row rows) are in (first, put.0, put.1))

both-put : (rows : List Row) → AreHeads rows → Both rows
both-put [] are = (tt, tt)
both-put (row ∷ rows) are = onto (both-put rows are.1)
  where
    onto : Both rows → Both (row ∷ rows)
    onto below = (first, go (is_continued row.role) refl)
      where
        first : ArePut (grouped (row ∷ rows))
        first = subst ArePut (sym (grouped-run row rows)) ((run-head row.role rows are.0, all-go rows), below.1)

        go : (x : Bool) → is_continued row.role ≡ x → AllPut (grouped (cond x (after_run rows) (row ∷ rows)))
        go true e = below.1
        go false e = put-starts (row ∷ rows) e first

pub are-put : (rows : List Row) → AreHeads rows → ArePut (grouped rows)
are-put rows are = (both-put rows are).0

-- The lines of the exact list are such.

abbrev NoHead : Role → Type 0
NoHead Head = ⊥
NoHead role = Unit {0}

other-by : (role next : Role) → NoHead role → (next ≡ Delimiter → ⊥) → HeadBy role next
other-by role next plain other = record {
  head = λ e. absurd (subst NoHead e plain);
  delimiter = λ e. absurd (other e);
}

code-by : (next : Role) (lines : List Line) → (next ≡ Delimiter → ⊥) → (x : Bool) →
    HeadBy (cond x AfterCode (Further (OpenCode lines))) next
code-by next lines other true = other-by AfterCode next tt other
code-by next lines other false = other-by (Further (OpenCode lines)) next tt other

-- what a line is before one that is this
by-before : (next : Role) (r : Rest) (role : Role) → NoHead role → HeadBy (role_before next r role) next
by-before Delimiter r role h = record { head = λ e. refl; delimiter = λ e. refl }
by-before (Further leaf) r role h = other-by role (Further leaf) h (λ e. cc)
by-before Blank r (Further (OpenCode lines)) h = code-by Blank lines (λ e. cc) (is_blank r.bytes)
by-before Blank r _ h = other-by _ Blank h (λ e. cc)
by-before (First c) r (Further (OpenCode lines)) h = code-by (First c) lines (λ e. cc) (is_blank r.bytes)
by-before (First c) r _ h = other-by _ (First c) h (λ e. cc)
by-before FirstText r (Further (OpenCode lines)) h = code-by FirstText lines (λ e. cc) (is_blank r.bytes)
by-before FirstText r _ h = other-by _ FirstText h (λ e. cc)
by-before FurtherText r (Further (OpenCode lines)) h = code-by FurtherText lines (λ e. cc) (is_blank r.bytes)
by-before FurtherText r _ h = other-by _ FurtherText h (λ e. cc)
by-before Underline r (Further (OpenCode lines)) h = code-by Underline lines (λ e. cc) (is_blank r.bytes)
by-before Underline r _ h = other-by _ Underline h (λ e. cc)
by-before Head r (Further (OpenCode lines)) h = code-by Head lines (λ e. cc) (is_blank r.bytes)
by-before Head r _ h = other-by _ Head h (λ e. cc)
by-before AfterCode r (Further (OpenCode lines)) h = code-by AfterCode lines (λ e. cc) (is_blank r.bytes)
by-before AfterCode r _ h = other-by _ AfterCode h (λ e. cc)

plain-role : (options : ParseOptions) (leaf : Leaf) (r : Rest) → NoHead (role_on options leaf r)
plain-role options leaf r = go (is_some (continues_leaf options leaf r)) (is_blank r.bytes)
  where
    go : (x y : Bool) → NoHead (cond x (Further leaf) (cond y Blank (fresh_role options leaf r)))
    go true y = tt
    go false true = tt
    go false false = fresh-cases NoHead options leaf r (λ against c e. tt) tt tt tt tt

line-by : (options : ParseOptions) (p : Path) (line : TextLine) (below : List Row) →
    HeadBy (row_of options p line below).role (next_role below)
line-by options p line below = by-before (next_role below) _ _ (by _ _)
  where
    by : (x : Bool) (leaf : Leaf) →
        NoHead (cond x FurtherText (role_on options leaf (row_of options p line below).rest))
    by true leaf = tt
    by false leaf = plain-role options leaf (row_of options p line below).rest

rows-heads : (options : ParseOptions) (p : Path) (lines : List TextLine) → AreHeads (rows_of options p lines)
rows-heads options p [] = tt
rows-heads options p (line ∷ lines) =
    let after : Path = step options p (whole line) in
    (line-by options p line (rows_of options after lines), rows-heads options after lines)

pub rows-put : (options : ParseOptions) (p : Path) (lines : List TextLine) → ArePut (grouped (rows_of options p lines))
rows-put options p lines = are-put (rows_of options p lines) (rows-heads options p lines)
