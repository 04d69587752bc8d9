-- Emphasis, strong emphasis and strikethrough (CommonMark 6.2, GFM 6.5): what delimiter runs among the items of one
-- level are.
--
-- Of all runs that may close one before them, the first closes the nearest. This is done until no run may close
-- another; what is left of the runs is text.
use Rattle.std.specs.Prelude.{ℕ, zero, suc, ◌+◌, ◌-◌, ◌%◌, Bool, ◌&&◌, ◌||◌, ◌==◌, not, nat_le, nat_lt}
use Rattle.std.specs.Prelude.{if◌then◌else◌, List, [], ◌∷◌, ◌++◌, Option, Some, None}
use Rattle.md_engine.specs.declared.event.Name.{Name}
use Rattle.md_engine.specs.declared.event.Name.TheVariants as n
use Rattle.md_meaning.specs.Ascii.{tilde}
use Rattle.md_inline_events.specs.Forest.{Forest, nothing, over, part}
use Rattle.md_inlines.specs.declared.Run.{Run}
use Rattle.md_inlines.specs.Atoms.{beside}

-- An item of a level: what is read already, or a run.
pub data Item : Type 0 where
  read : Forest → Item
  run : Run → Item

-- rules 9 and 10: where one of the two both opens and closes, the sum of their sizes is no multiple of 3, unless both
-- are
abbrev pub fit : Run → Run → Bool
fit opener closer =
    not (opener.closes || closer.opens) || not ((opener.size + closer.size) % 3 == 0)
    || ((opener.size % 3 == 0) && (closer.size % 3 == 0))

-- runs of tildes have one size, 1 or 2, and are whole; 1 where `single` says so
abbrev pub strike : Bool → Run → Run → Bool
strike single opener closer =
    (opener.left == closer.left) && ((closer.left == 2) || ((closer.left == 1) && single))

-- whether a run may close another
abbrev pub may_pair : Bool → Run → Run → Bool
may_pair single opener closer =
    (opener.mark == closer.mark) && opener.opens && closer.closes
    && (if closer.mark == tilde then strike single opener closer else fit opener closer)

-- Two runs that pair: what is before them, the last item first, between them, and after them.
pub record Pair : Type 0 where
  pub before : List Item
  pub opener : Run
  pub between : List Item
  pub closer : Run
  pub after : List Item

-- the nearest run that this one may close, among items of which the last is first; some are between
abbrev pub nearest : Bool → Run → List Item → List Item → List Item → Option Pair
nearest single closer [] between after = None
nearest single closer (read forest ∷ before) between after =
    nearest single closer before (read forest ∷ between) after
nearest single closer (run opener ∷ before) between after =
    if may_pair single opener closer
    then Some (record { before = before; opener = opener; between = between; closer = closer; after = after })
    else nearest single closer before (run opener ∷ between) after

abbrev pub or_pair : Option Pair → Option Pair → Option Pair
or_pair (Some pair) other = Some pair
or_pair None other = other

-- the first run that may close one before it, and the nearest such
abbrev pub first_pair : Bool → List Item → List Item → Option Pair
first_pair single before [] = None
first_pair single before (read forest ∷ items) = first_pair single (read forest ∷ before) items
first_pair single before (run closer ∷ items) =
    or_pair (nearest single closer before [] items) (first_pair single (run closer ∷ before) items)

-- what is left of runs is text
abbrev pub level : List Item → Forest
level [] = nothing
level (read forest ∷ items) = beside forest (level items)
level (run r ∷ items) = over n.Data r.left (level items)

-- a run without so many of its bytes
abbrev pub shorter : ℕ → Run → List Item
shorter count r =
    if nat_lt count r.left
    then run
    (record { mark = r.mark; size = r.size; left = r.left - count; opens = r.opens; closes = r.closes }) ∷ []
    else []

-- how many bytes of each run the two use: all tildes; two where both have two (rule 13), else one
abbrev pub used : Pair → ℕ
used pair =
    if pair.closer.mark == tilde then pair.closer.left
    else if nat_le 2 pair.opener.left && nat_le 2 pair.closer.left then 2
    else 1

abbrev pub enclosed : Name → Name → Name → ℕ → Forest → Forest
enclosed whole sequence text count inside =
    part whole (over sequence count (part text inside (over sequence count nothing))) nothing

-- what a pair of this mark is, around a forest
abbrev pub marked : ℕ → ℕ → Forest → Forest
marked mark count inside =
    if mark == tilde then enclosed n.GfmStrikethrough n.GfmStrikethroughSequence n.GfmStrikethroughText count inside
    else if count == 2 then enclosed n.Strong n.StrongSequence n.StrongText count inside
    else enclosed n.Emphasis n.EmphasisSequence n.EmphasisText count inside

abbrev pub onto : List Item → List Item → List Item
onto [] items = items
onto (item ∷ before) items = onto before (item ∷ items)

-- the items of a level once two of its runs are paired: what is between them is read by itself
abbrev pub paired : Pair → List Item
paired pair =
    let count : ℕ = used pair in
    onto pair.before
    (shorter count pair.opener
    ++ (read (marked pair.closer.mark count (level pair.between)) ∷ shorter count pair.closer ++ pair.after))

-- with at most so many pairs
abbrev pub emphasis_at_most : Bool → ℕ → List Item → Forest
emphasis_at_most single zero items = level items
emphasis_at_most single (suc more) items = elim (first_pair single [] items) [
  | None ↦ level items
  | Some pair ↦ emphasis_at_most single more (paired pair)
]

-- how many bytes runs have
abbrev pub delimiters : List Item → ℕ
delimiters [] = 0
delimiters (read forest ∷ items) = delimiters items
delimiters (run r ∷ items) = r.left + delimiters items

-- the forest of the items of a level; `single` says whether one tilde is a mark
abbrev pub emphasis : Bool → List Item → Forest
emphasis single items = emphasis_at_most single (delimiters items) items
