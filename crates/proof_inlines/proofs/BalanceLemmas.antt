-- The parts of a text open and close like brackets.
use Rattle.std.proofs.Common.{◌≡◌, ℕ, zero, suc, List, [], ◌∷◌, ◌++◌}
use Rattle.std.proofs.Common.{length, take, drop, refl, ap, sym, ◌∙◌, subst}
use Rattle.md_engine.specs.declared.event.Event.{Event}
use Rattle.md_engine.specs.declared.event.Name.{Name}
use Rattle.md_engine.specs.declared.event.Name.TheVariants as n
use Rattle.md_engine.specs.declared.event.Point.{Point}
use Rattle.md_events.specs.declared.inline.Chunk.{Chunk}
use Rattle.md_events.specs.Events.Inline.{pair_unless_empty}
use Rattle.md_events.specs.Events.Nested.{Matches, open_after}
use Rattle.md_events.specs.Events.Places.{past_byte, past_text}
use Rattle.md_events.proofs.InlineLemmas.{balanced-pair}
use Rattle.md_events.proofs.NestedLemmas.{balanced-matches, balanced-open, matches-append, open_after-append}
use Rattle.md_inline_events.specs.Marks.{Back, Front, Mark, back_events, back_from, begins, closes_in, ends, entered}
use Rattle.md_inline_events.specs.Marks.{exited, front_events, front_from, front_name, line_events, opens_in, passes}
use Rattle.md_inline_events.specs.Marks.{stays}
use Rattle.md_inline_events.specs.Woven.{Sides, as_feed, ending_events, side_events}
use Rattle.proof_inlines.proofs.Named.{Runs, opened}

-- Events go from some open parts to others.
pub record Turns (names next : List Name) (es : List Event) : Type 0 where
  pub matches : Matches names es
  pub still : open_after names es ≡ next

pub turns-append : (names mid next : List Name) (xs ys : List Event) → Turns names mid xs → Turns mid next ys →
    Turns names next (xs ++ ys)
turns-append names mid next xs ys t u = record {
  matches = matches-append names xs ys t.matches (subst (λ (l : List Name). Matches l ys) (sym t.still) u.matches);
  still = open_after-append names xs ys ∙ ap (λ (l : List Name). open_after l ys) t.still ∙ u.still;
}

turns-pair : (names : List Name) (name : Name) (p q : Point) → Turns names names (pair_unless_empty name p q)
turns-pair names name p q = record {
  matches = balanced-matches names (pair_unless_empty name p q) (balanced-pair name p q);
  still = balanced-open names (pair_unless_empty name p q) (balanced-pair name p q);
}

turns-entered : (opens names : List Name) (p : Point) → Turns names (opened opens names) (entered opens p)
turns-entered [] names p = record { matches = tt; still = refl }
turns-entered (name ∷ opens) names p =
    let more : Turns (name ∷ names) (opened opens (name ∷ names)) (entered opens p) = turns-entered opens (name ∷ names)
    p in
    record { matches = (tt, more.matches); still = more.still }

turns-exited : (closes next : List Name) (p : Point) → Turns (closes ++ next) next (exited closes p)
turns-exited [] next p = record { matches = tt; still = refl }
turns-exited (name ∷ closes) next p =
    let more : Turns (closes ++ next) next (exited closes p) = turns-exited closes next p in
    record { matches = (refl, more.matches); still = more.still }

turns-front : (front : Front) (names : List Name) (piece : Name) (from at : Point) →
    Turns names (opened (opens_in front) names) (front_events front piece from at)
turns-front passes names piece from at = record { matches = tt; still = refl }
turns-front (begins opens name) names piece from at =
    turns-append names names (opened opens names) (pair_unless_empty piece from at) (entered opens at)
    (turns-pair names piece from at) (turns-entered opens names at)

turns-back : (back : Back) (next : List Name) (piece : Name) (from following : Point) →
    Turns (closes_in back ++ next) next (back_events back piece from following)
turns-back stays next piece from following = record { matches = tt; still = refl }
turns-back (ends closes) next piece from following =
    turns-append (closes ++ next) (closes ++ next) next (pair_unless_empty piece from following) (exited closes
    following)
    (turns-pair (closes ++ next) piece from following) (turns-exited closes next following)

turns-from : (names mid next : List Name) (es : List Event) → names ≡ mid → Turns mid next es → Turns names next es
turns-from names mid next es h t = subst (λ (l : List Name). Turns l next es) (sym h) t

-- no marks are few marks
runs-none : (names end : List Name) (count : ℕ) → Runs names [] end → Runs names (take count []) end
runs-none names end zero runs = runs
runs-none names end (suc count) runs = runs

pub turns-line : (names end : List Name) (line : List ℕ) (marks : List Mark) (piece : Name) (from at : Point) →
    Runs names (take (length line) marks) end → Turns names end (line_events line marks piece from at)
turns-line names end [] marks piece from at runs =
    turns-from names end end (pair_unless_empty piece from at) runs (turns-pair end piece from at)
turns-line names end (b ∷ line) [] piece from at runs =
    turns-line names end line [] piece from (past_byte b at) (runs-none names end (length line) runs)
turns-line names end (b ∷ line) (mark ∷ marks) piece from at runs =
    let following : Point = past_byte b at in
    let here : Name = front_name mark.front piece in
    let begun : Point = front_from mark.front from at in
    let more : Point = back_from mark.back begun following in
    let next : List Name = runs.0 in
    let open_here : List Name = opened (opens_in mark.front) names in
    turns-append names open_here end (front_events mark.front piece from at)
    (back_events mark.back here begun following ++ line_events line marks here more following)
    (turns-front mark.front names piece from at)
    (turns-append open_here next end (back_events mark.back here begun following)
    (line_events line marks here more following)
    (turns-from open_here (closes_in mark.back ++ next) next (back_events mark.back here begun following) runs.1
    (turns-back mark.back next here begun following))
    (turns-line next end line marks here more following runs.2))

-- A run is cut.
pub runs-split : (names end : List Name) (count : ℕ) (marks : List Mark) → Runs names marks end →
    (mid : List Name) × Runs names (take count marks) mid × Runs mid (drop count marks) end
runs-split names end zero marks runs = (names, refl, runs)
runs-split names end (suc count) [] runs = (names, refl, runs)
runs-split names end (suc count) (mark ∷ marks) runs =
    let cut = runs-split runs.0 end count marks runs.2 in
    (cut.0, (runs.0, runs.1, cut.1), cut.2)

-- An ending is one byte of what is read, or none.

around-ending : (names end opens closes : List Name) (p q : Point) → opened opens names ≡ closes ++ end →
    Turns names end (entered opens p ++ (pair_unless_empty n.LineEnding p q ++ exited closes q))
around-ending names end opens closes p q fits =
    turns-append names (opened opens names) end (entered opens p) (pair_unless_empty n.LineEnding p q ++ exited closes
    q)
    (turns-entered opens names p)
    (turns-from (opened opens names) (closes ++ end) end (pair_unless_empty n.LineEnding p q ++ exited closes q) fits
    (turns-append (closes ++ end) (closes ++ end) end (pair_unless_empty n.LineEnding p q) (exited closes q)
    (turns-pair (closes ++ end) n.LineEnding p q) (turns-exited closes end q)))

pub turns-ending : (names end : List Name) (ending : List ℕ) (marks : List Mark) (p q : Point) →
    Runs names (take (length (as_feed ending)) marks) end → Turns names end (ending_events p q ending marks)
turns-ending names end [] marks p q runs =
    turns-from names end end (pair_unless_empty n.LineEnding p q) runs (turns-pair end n.LineEnding p q)
turns-ending names end (b ∷ ending) [] p q runs =
    turns-from names end end (pair_unless_empty n.LineEnding p q) runs (turns-pair end n.LineEnding p q)
turns-ending names end (b ∷ ending) (mark ∷ marks) p q runs =
    around-ending names end (opens_in mark.front) (closes_in mark.back) p q
    (runs.1 ∙ ap (λ (l : List Name). closes_in mark.back ++ l) runs.2)

pub turns-side : (names mid end : List Name) (chunk : Chunk) (side : Sides) (marks : List Mark) (piece : Name) →
    Runs names (take (length side.text) marks) mid →
    Runs mid (take (length (as_feed side.ending)) (drop (length side.text) marks)) end →
    Turns names end (side_events chunk side marks piece)
turns-side names mid end chunk side marks piece runs more =
    let first : Point = past_text side.indent chunk.first in
    let after : Point = past_text side.text first in
    let to : Point = past_text side.trail after in
    let left : List Mark = drop (length side.text) marks in
    let ending : List Event = ending_events to chunk.after side.ending left in
    turns-append names names end (pair_unless_empty n.SpaceOrTab chunk.first first)
    (line_events side.text marks piece first first ++ (pair_unless_empty n.SpaceOrTab after to ++ ending))
    (turns-pair names n.SpaceOrTab chunk.first first)
    (turns-append names mid end (line_events side.text marks piece first first)
    (pair_unless_empty n.SpaceOrTab after to ++ ending)
    (turns-line names mid side.text marks piece first first runs)
    (turns-append mid mid end (pair_unless_empty n.SpaceOrTab after to) ending
    (turns-pair mid n.SpaceOrTab after to) (turns-ending mid end side.ending left to chunk.after more)))
