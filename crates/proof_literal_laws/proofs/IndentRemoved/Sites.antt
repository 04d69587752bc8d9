-- From where in a block of several lines to where what is left of a further line goes.
use Rattle.std.proofs.Common.{◌≡◌, ℕ, Bool, true, false, cond, List, [], ◌∷◌, length, refl, sym, ap, subst}
use Rattle.std.specs.Prelude.{nat_lt}
use Rattle.md_engine.specs.declared.event.Kind.TheVariants.{Enter, Exit}
use Rattle.md_engine.specs.declared.event.Name.{Name}
use Rattle.md_engine.specs.declared.event.Point.{Point}
use Rattle.md_meaning.specs.Rest.{Rest, lose}
use Rattle.md_outline.specs.LinesAllowed.{AtEnding, AtLine, InText, LinesAllowed, MayBeHere, Site, site_by}
use Rattle.md_outline.proofs.LinesPass.{IsOnLine, MayLeave, Passes, ended_site, passes-append, passes-none}
use Rattle.md_outline.proofs.LinesPass.{passes-quiet}
use Rattle.md_events.specs.Events.Nested.{exit}
use Rattle.md_events.specs.Events.Spelled.{AsLine, LeafKind, Role, TextRole, role}
use Rattle.proof_frame.specs.RestLine.{rest_line}
use Rattle.proof_frame.specs.LineColumns.{columns_part, part_over, past_columns, lost_line}
use Rattle.proof_frame.proofs.IndentRemoved.Reads.{columns-quiet}

-- On a line of the block, by whether anything is said of it.
abbrev pub line_site : LeafKind → Bool → Site
line_site kind recorded = cond recorded (AtEnding kind) (AtLine kind)

pub line-on : (kind : LeafKind) (recorded : Bool) → IsOnLine (line_site kind recorded)
line-on kind true = tt
line-on kind false = tt

pub line-leaves : (kind : LeafKind) (recorded : Bool) → MayLeave (line_site kind recorded)
line-leaves kind true = tt
line-leaves kind false = tt

-- its ending opens a line, if the text continues
pub ended-proceeds : (bytes : List ℕ) (q : Point) (kind : LeafKind) (recorded : Bool) →
    nat_lt q.index (length bytes) ≡ true → ended_site bytes q (line_site kind recorded) ≡ AtLine kind
ended-proceeds bytes q kind true proceeds = ap (λ (x : Bool). cond x (AtLine kind) (AtEnding kind)) proceeds
ended-proceeds bytes q kind false proceeds = refl

pub ended-over : (bytes : List ℕ) (q : Point) (kind : LeafKind) (recorded : Bool) →
    nat_lt q.index (length bytes) ≡ false → ended_site bytes q (line_site kind recorded) ≡ line_site kind recorded
ended-over bytes q kind true over = ap (λ (x : Bool). cond x (AtLine kind) (AtEnding kind)) over
ended-over bytes q kind false over = refl

-- A further line: what is left of it is said, if it is anything, or its fence closes the block.
abbrev pub records_rest : List ℕ → Bool
records_rest [] = false
records_rest (b ∷ bs) = true

-- what is left of a line, under such a name
over-passes : (bytes : List ℕ) (kind : LeafKind) (name : Name) (line : List ℕ) (p q : Point) →
    role name ≡ TextRole AsLine →
    Passes bytes (AtLine kind) (line_site kind (records_rest line)) (part_over name line p q)
over-passes bytes kind name [] p q is = passes-none bytes (AtLine kind)
over-passes bytes kind name (b ∷ bs) p q is = λ ys h.
    subst
    (λ (x : Role).
    MayBeHere bytes (AtLine kind) Enter x p
    × LinesAllowed bytes (site_by bytes (AtLine kind) Enter x p) (exit name q ∷ ys))
    (sym is) (
      tt,
      subst
          (λ (x : Role).
          MayBeHere bytes (InText kind AsLine) Exit x q
          × LinesAllowed bytes (site_by bytes (InText kind AsLine) Exit x q) ys)
          (sym is) (tt, h),
    )

-- a line that loses columns of whitespace
pub lost-passes : (bytes : List ℕ) (kind : LeafKind) (name : Name) (lost : ℕ) (r : Rest) (p q : Point) →
    role name ≡ TextRole AsLine →
    Passes bytes (AtLine kind) (line_site kind (records_rest (rest_line (lose lost r)))) (lost_line name lost r p q)
lost-passes bytes kind name lost r p q is =
    let line = rest_line (lose lost r) in
    passes-append bytes (AtLine kind) (AtLine kind) (line_site kind (records_rest line)) (columns_part lost r p)
    (part_over name line (past_columns lost r p) q)
    (passes-quiet bytes (AtLine kind) (columns_part lost r p) (columns-quiet lost r p))
    (over-passes bytes kind name line (past_columns lost r p) q is)
