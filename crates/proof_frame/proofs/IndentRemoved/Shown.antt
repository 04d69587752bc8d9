-- Where what is on a line that loses columns of whitespace begins and ends.
use Rattle.std.proofs.Common.{◌≡◌, ℕ, zero, suc, Bool, true, false, cond, ◌&&◌, List, [], ◌∷◌, ◌++◌, drop, sym, arith}
use Rattle.std.proofs.Common.{refl, subst}
use Rattle.std.specs.Prelude.{◌==◌, nat_lt, not}
use Rattle.std.specs.List.{list_all}
use Rattle.std.proofs.lemmas.Bool.{and_from, or_right}
use Rattle.std.proofs.lemmas.Bool.Decides.{nat_tests}
use Rattle.md_engine.specs.declared.event.Event.{Event}
use Rattle.md_engine.specs.declared.event.Name.{Name}
use Rattle.md_engine.specs.declared.event.Name.TheVariants as n
use Rattle.md_engine.specs.declared.event.Point.{Point}
use Rattle.md_meaning.specs.Rest.{Rest, cut_tab, indent, lose}
use Rattle.md_outline.specs.Roles.{is_recorded}
use Rattle.md_events.specs.Events.Nested.{pair}
use Rattle.md_events.specs.Events.Spelled.{role}
use Rattle.md_events.proofs.PlacesLemmas.{at-next}
use Rattle.md_events.proofs.RestCells.{Cut, RestAt}
use Rattle.proof_frame.specs.RestLine.{rest_line}
use Rattle.proof_frame.specs.LineColumns.{columns_part, lost_line, part_over, past_columns}
use Rattle.proof_frame.proofs.BetweenFacts.{is_low}
use Rattle.proof_frame.proofs.EachEvent.{Each, each-append}
use Rattle.proof_frame.proofs.PartedFacts.{clear, low-clear}
use Rattle.proof_frame.proofs.PlainFacts.{is_clear}

-- Points.

-- what holds of each of its points holds of the point of each of its events
abbrev pub OfPoints : (Point → Type 0) → List Event → Type 0
OfPoints P es = Each (λ e. P e.point) es

pub columns-points : (P : Point → Type 0) (room : ℕ) (r : Rest) (p : Point) → P p → P (past_columns room r p) →
    OfPoints P (columns_part room r p)
columns-points P room r p first last = go (nat_lt 0 room && nat_lt 0 (indent r))
  where
    go : (x : Bool) → OfPoints P (cond x (pair n.SpaceOrTab p (past_columns room r p)) [])
    go true = (first, (last, tt))
    go false = tt

pub over-points : (P : Point → Type 0) (name : Name) (text : List ℕ) (p q : Point) → P p → P q →
    OfPoints P (part_over name text p q)
over-points P name [] p q first last = tt
over-points P name (b ∷ bs) p q first last = (first, (last, tt))

pub lost-points : (P : Point → Type 0) (name : Name) (lost : ℕ) (r : Rest) (p q : Point) → P p → P q →
    P (past_columns lost r p) → OfPoints P (lost_line name lost r p q)
lost-points P name lost r p q first last inner =
    let line = rest_line (lose lost r) in
    let at = past_columns lost r p in
    let Of : Event → Type 0 = λ e. P e.point in
    each-append Of (columns_part lost r p) (part_over name line at q) (columns-points P lost r p first inner)
    (over-points P name line at q inner last)

pub each-all : (f : Event → Bool) (es : List Event) → Each (λ e. f e ≡ true) es → list_all f es ≡ true
each-all f [] h = refl
each-all f (e ∷ es) h = and_from (f e) (list_all f es) h.0 (each-all f es h.1)

-- Each begins and ends clear.

pub whole-clear : (bytes : List ℕ) (p : Point) → p.vs ≡ 0 → clear bytes p ≡ true
whole-clear bytes p e = low-clear bytes p (λ some. absurd (none some))
  where
    none : (p.vs == 0) ≡ false → ⊥
    none some = grind (arith, nat_tests, e)

-- after whitespace: a tab is cut, if any byte is
pub left-clear : (bytes following : List ℕ) (r : Rest) (p : Point) → RestAt bytes following r p → clear bytes p ≡ true
left-clear bytes following r p is = go r.spaces is.cut is.text_is
  where
    go : (spaces : ℕ) → Cut spaces p → drop p.index bytes ≡ (cut_tab spaces ++ r.bytes ++ following) →
        clear bytes p ≡ true
    go zero cut text = whole-clear bytes p cut
    go (suc k) cut text =
        low-clear bytes p
        (λ some. subst (λ (b : ℕ). is_low b ≡ true) (sym (at-next p.index bytes 9 (r.bytes ++ following) text)) refl)

pub points-clear : (bytes : List ℕ) (es : List Event) → OfPoints (λ x. clear bytes x ≡ true) es →
    list_all (is_clear bytes) es ≡ true
points-clear bytes es h = each-all (is_clear bytes) es (points es h)
  where
    points : (es : List Event) → OfPoints (λ x. clear bytes x ≡ true) es → Each (λ e. is_clear bytes e ≡ true) es
    points [] h = tt
    points (e ∷ es) h = (or_right (not (is_recorded (role e.name))) (clear bytes e.point) h.0, points es h.1)
