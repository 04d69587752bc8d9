-- How runs are matched, from left to right: the runs that may still be closed, the nearest first, and what a run that
-- closes finds among them.
use Rattle.std.specs.Prelude.{◌≡◌, ℕ, zero, suc, ◌+◌, ◌-◌, ◌*◌, ◌%◌, ◌<◌, Bool, true, false, ◌&&◌, ◌==◌, not, nat_le}
use Rattle.std.specs.Prelude.{nat_lt, if◌then◌else◌, List, [], ◌∷◌, get_or, set, Option, Some, None, MatchOption}
use Rattle.md_engine.specs.declared.event.Name.TheVariants as n
use Rattle.md_meaning.specs.Ascii.{asterisk, tilde, underscore}
use Rattle.md_inlines.specs.declared.Run.{Run}
use Rattle.md_inlines.specs.Emphasis.{may_pair}
use Rattle.markdown_inlines.specs.declared.attention.Names.{Names}
use Rattle.markdown_inlines.specs.declared.attention.PlacedRun.{PlacedRun}
use Rattle.markdown_inlines.specs.declared.span.Span.{Span}
use Rattle.markdown_inlines.specs.Filled.{fill_pair, placed, width}

-- the names of what two runs of a mark make by so many bytes of each
abbrev pub names_of : ℕ → ℕ → Names
names_of mark count =
    if mark == tilde
    then record {
      whole = n.GfmStrikethrough;
      sequence = n.GfmStrikethroughSequence;
      text = n.GfmStrikethroughText;
    }
    else if count == 2 then record { whole = n.Strong; sequence = n.StrongSequence; text = n.StrongText }
    else record { whole = n.Emphasis; sequence = n.EmphasisSequence; text = n.EmphasisText }

-- how many bytes of each two runs use
abbrev pub taken : Run → Run → ℕ
taken opener closer =
    if closer.mark == tilde then closer.left
    else if nat_le 2 opener.left && nat_le 2 closer.left then 2
    else 1

-- Kinds of runs: two runs of one kind may close the same runs. Those of kind 0 close none, and kind 15 says nothing.

abbrev pub size_kind : Run → ℕ
size_kind r = r.size % 3 + (if r.opens then 3 else 0)

abbrev pub kind_of : Run → ℕ
kind_of r =
    if not r.closes then 0
    else if r.mark == asterisk then 1 + size_kind r
    else if r.mark == underscore then 7 + size_kind r
    else if not (r.mark == tilde) then 15
    else if r.left == 1 then 13
    else if r.left == 2 then 14
    else 0

-- where the runs of a kind looked last in vain
abbrev pub raised : List ℕ → ℕ → ℕ → List ℕ
raised bounds kind first = if kind == 15 then bounds else set bounds kind first

-- Listed runs that may still be closed: the first so many of a list, the last first.
abbrev pub no_run : PlacedRun
no_run = placed (record { mark = 0; size = 0; left = 0; opens = false; closes = false }) 0 0

abbrev pub stack : List PlacedRun → ℕ → List PlacedRun
stack runs zero = []
stack runs (suc count) = get_or runs count no_run ∷ stack runs count

-- an opener, and those before it
pub record Near : Type 0 where
  pub opener : PlacedRun
  pub others : List PlacedRun

-- the nearest that a run may close, of those that are not before a byte
abbrev pub opener_from : Bool → ℕ → Run → List PlacedRun → Option Near
opener_from single bound closer [] = None
opener_from single bound closer (entry ∷ openers) =
    if nat_lt entry.first bound then None
    else if may_pair single entry.run closer then Some (record { opener = entry; others = openers })
    else opener_from single bound closer openers

-- what a search finds among the first so many runs of a list
abbrev pub IsOpener : Bool → ℕ → Run → List PlacedRun → ℕ → Option ℕ → Type 0
IsOpener single bound closer runs height found =
    MatchOption found (opener_from single bound closer (stack runs height) ≡ None)
    (λ at. (at < height)
    × (opener_from single bound closer (stack runs height) ≡
    Some (record { opener = get_or runs at no_run; others = stack runs at })))

-- a run that is passed is kept if it may open
abbrev pub kept : Bool → PlacedRun → List PlacedRun → List PlacedRun
kept true entry openers = entry ∷ openers
kept false entry openers = openers

abbrev pub filled_by : ℕ → PlacedRun → PlacedRun → List Span → List Span
filled_by count opener closer spans =
    fill_pair (names_of closer.run.mark count) count (opener.first + (opener.run.left - count)) closer.first
    (opener.place + (opener.run.left - count) * width opener.run.opens) closer.place spans
