-- What comes first of the events of a line, and which pieces they have.
use Rattle.std.proofs.Common.{◌≡◌, ℕ, ◌<◌, ◌≤◌, Bool, true, false, cond, List, [], ◌∷◌, ◌++◌, refl, ap, sym, ◌∙◌}
use Rattle.std.proofs.Common.{subst, append_assoc, length, drop, arith}
use Rattle.std.proofs.lemmas.List.{append-nil}
use Rattle.md_engine.specs.declared.event.Event.{Event}
use Rattle.md_engine.specs.declared.event.Kind.{Kind}
use Rattle.md_engine.specs.declared.event.Kind.TheVariants.{Enter}
use Rattle.md_engine.specs.declared.event.Name.{Name}
use Rattle.md_engine.specs.declared.event.Name.TheVariants as n
use Rattle.md_engine.specs.declared.event.Point.{Point}
use Rattle.md_events.specs.declared.inline.Chunk.{Chunk}
use Rattle.md_events.specs.Events.Inline.{Covers, Piece, pair_unless_empty, piece_of, pieces, pieces_from}
use Rattle.md_events.specs.Events.Nested.{enter, exit, pair}
use Rattle.md_events.specs.Events.Places.{past_byte, past_text, same_place}
use Rattle.md_events.proofs.InlineLemmas.{same-refl, same-trans}
use Rattle.md_events.proofs.PlacesLemmas.{apart-later}
use Rattle.md_inline_events.specs.Marks.{Back, Front, Mark, back_events, back_from, begins, closes_in, ends, entered}
use Rattle.md_inline_events.specs.Marks.{exited, front_events, front_from, front_name, line_events, opens_in, passes}
use Rattle.md_inline_events.specs.Marks.{stays}
use Rattle.md_inline_events.specs.Woven.{Sides, ending_events, side_events}

-- a piece did not begin after the byte that it goes up to

front-index : (front : Front) (from at : Point) → from.index ≤ at.index → (front_from front from at).index ≤ at.index
front-index passes from at h = h
front-index (begins opens name) from at h = omega arith

back-index : (back : Back) (from following : Point) → from.index ≤ following.index →
    (back_from back from following).index ≤ following.index
back-index stays from following h = h
back-index (ends closes) from following h = omega arith

front-later : (front : Front) (index : ℕ) (from at : Point) → index ≤ from.index → from.index ≤ at.index →
    index ≤ (front_from front from at).index
front-later passes index from at h k = h
front-later (begins opens name) index from at h k = omega (arith, h, k)

back-later : (back : Back) (index : ℕ) (from following : Point) → index ≤ from.index → from.index ≤ following.index →
    index ≤ (back_from back from following).index
back-later stays index from following h k = h
back-later (ends closes) index from following h k = omega (arith, h, k)

pub regroup : (a b c d : List Event) → (a ++ (b ++ c)) ++ d ≡ a ++ (b ++ (c ++ d))
regroup a b c d = append_assoc a (b ++ c) d ∙ ap (λ (l : List Event). a ++ l) (append_assoc b c d)

-- What holds of events that begin with an enter from some byte on, holds where events of a line are in front of
-- others of which it holds.
module _ (P : List Event → Type 0) (index : ℕ)
    (start : (name : Name) (p : Point) (es : List Event) → index ≤ p.index → P (enter name p ∷ es)) where
  pub front-pair : (name : Name) (p q : Point) (es : List Event) → index ≤ p.index → P es →
      P (pair_unless_empty name p q ++ es)
  front-pair name p q es h rest = go (same_place p q)
    where
      go : (x : Bool) → P (cond x [] (pair name p q) ++ es)
      go true = rest
      go false = start name p (exit name q ∷ es) h

  pub front-entered : (names : List Name) (p : Point) (es : List Event) → index ≤ p.index → P es →
      P (entered names p ++ es)
  front-entered [] p es h rest = rest
  front-entered (name ∷ names) p es h rest = start name p (entered names p ++ es) h

  front-front : (front : Front) (piece : Name) (from at : Point) (es : List Event) → index ≤ from.index →
      from.index ≤ at.index → P es → P (front_events front piece from at ++ es)
  front-front passes piece from at es h k rest = rest
  front-front (begins opens name) piece from at es h k rest =
      subst P (sym (append_assoc (pair_unless_empty piece from at) (entered opens at) es))
      (front-pair piece from at (entered opens at ++ es) h
      (front-entered opens at es (omega (arith, h, k)) rest))

  front-back : (back : Back) (piece : Name) (from following : Point) (es : List Event) → index ≤ from.index →
      from.index < following.index → P es → P (back_events back piece from following ++ es)
  front-back stays piece from following es h k rest = rest
  front-back (ends closes) piece from following es h k rest =
      go (same_place from following) (apart-later from following k)
    where
      go : (x : Bool) → x ≡ false → P ((cond x [] (pair piece from following) ++ exited closes following) ++ es)
      go true e = cc
      go false e = start piece from ((exit piece following ∷ exited closes following) ++ es) h

  pub front-line : (line : List ℕ) (marks : List Mark) (piece : Name) (from at : Point) (es : List Event) →
      index ≤ from.index → from.index ≤ at.index → P es → P (line_events line marks piece from at ++ es)
  front-line [] marks piece from at es h k rest = front-pair piece from at es h rest
  front-line (b ∷ line) [] piece from at es h k rest =
      front-line line [] piece from (past_byte b at) es h (omega arith) rest
  front-line (b ∷ line) (mark ∷ marks) piece from at es h k rest =
      let following : Point = past_byte b at in
      let here : Name = front_name mark.front piece in
      let begun : Point = front_from mark.front from at in
      let more : Point = back_from mark.back begun following in
      let low : index ≤ begun.index = front-later mark.front index from at h k in
      let high : begun.index ≤ at.index = front-index mark.front from at k in
      let below : begun.index ≤ following.index = omega (arith, high) in
      subst P
      (sym
      (regroup (front_events mark.front piece from at) (back_events mark.back here begun following)
      (line_events line marks here more following) es))
      (front-front mark.front piece from at
      (back_events mark.back here begun following ++ (line_events line marks here more following ++ es)) h k
      (front-back mark.back here begun following (line_events line marks here more following ++ es) low
      (omega (arith, high))
      (front-line line marks here more following es (back-later mark.back index begun following low below)
      (back-index mark.back begun following below) rest)))

-- Pieces.

-- whether nothing ends first
abbrev pub Opening : List Event → Type 0
Opening [] = Unit {0}
Opening (e ∷ es) = e.kind ≡ Enter

opening-line : (line : List ℕ) (marks : List Mark) (piece : Name) (from at : Point) (es : List Event) →
    from.index ≤ at.index → Opening es → Opening (line_events line marks piece from at ++ es)
opening-line line marks piece from at es h opening =
    front-line Opening 0 (λ name p es h. refl) line marks piece from at es (omega arith) h opening

opening-back : (back : Back) (piece : Name) (from following : Point) (es : List Event) → from.index < following.index →
    Opening es → Opening (back_events back piece from following ++ es)
opening-back back piece from following es h opening =
    front-back Opening 0 (λ name p es h. refl) back piece from following es (omega arith) h opening

pieces-exit : (name : Name) (q : Point) (es : List Event) → pieces (exit name q ∷ es) ≡ pieces es
pieces-exit name q [] = refl
pieces-exit name q (e ∷ es) = refl

pieces-enter : (name : Name) (p : Point) (es : List Event) → Opening es → pieces (enter name p ∷ es) ≡ pieces es
pieces-enter name p [] h = refl
pieces-enter name p (e ∷ es) h = ap (λ (k : Kind). piece_of (enter name p) e Enter k ++ pieces_from e es) h

opening-entered : (names : List Name) (p : Point) (es : List Event) → Opening es → Opening (entered names p ++ es)
opening-entered [] p es h = h
opening-entered (name ∷ names) p es h = refl

pieces-entered : (names : List Name) (p : Point) (es : List Event) → Opening es →
    pieces (entered names p ++ es) ≡ pieces es
pieces-entered [] p es h = refl
pieces-entered (name ∷ names) p es h =
    pieces-enter name p (entered names p ++ es) (opening-entered names p es h) ∙ pieces-entered names p es h

pieces-exited : (names : List Name) (p : Point) (es : List Event) → pieces (exited names p ++ es) ≡ pieces es
pieces-exited [] p es = refl
pieces-exited (name ∷ names) p es = pieces-exit name p (exited names p ++ es) ∙ pieces-exited names p es

covers-exited : (names : List Name) (p : Point) → Covers p (pieces (exited names p)) p
covers-exited [] p = same-refl p
covers-exited (name ∷ names) p =
    subst (λ (ps : List Piece). Covers p ps p) (sym (pieces-exit name p (exited names p))) (covers-exited names p)

covers-same : (p q r : Point) (ps : List Piece) → same_place p q ≡ true → Covers q ps r → Covers p ps r
covers-same p q r [] h k = same-trans p q r h k
covers-same p q r (piece ∷ ps) h k = (same-trans p q piece.first h k.0, k.1)

pub covers-pair : (name : Name) (p q r : Point) (es : List Event) → Covers q (pieces es) r →
    Covers p (pieces (pair_unless_empty name p q ++ es)) r
covers-pair name p q r es h = go (same_place p q) refl
  where
    go : (x : Bool) → same_place p q ≡ x → Covers p (pieces (cond x [] (pair name p q) ++ es)) r
    go true same = covers-same p q r (pieces es) same h
    go false same = (same-refl p, subst (λ (ps : List Piece). Covers q ps r) (sym (pieces-exit name q es)) h)

covers-front : (front : Front) (piece : Name) (from at r : Point) (es : List Event) → Opening es →
    Covers (front_from front from at) (pieces es) r → Covers from (pieces (front_events front piece from at ++ es)) r
covers-front passes piece from at r es opening rest = rest
covers-front (begins opens name) piece from at r es opening rest =
    subst (λ (l : List Event). Covers from (pieces l) r)
    (sym (append_assoc (pair_unless_empty piece from at) (entered opens at) es))
    (covers-pair piece from at r (entered opens at ++ es)
    (subst (λ (ps : List Piece). Covers at ps r) (sym (pieces-entered opens at es opening)) rest))

covers-back : (back : Back) (piece : Name) (from following r : Point) (es : List Event) →
    Covers (back_from back from following) (pieces es) r → Covers from (pieces (back_events back piece from following
    ++ es)) r
covers-back stays piece from following r es rest = rest
covers-back (ends closes) piece from following r es rest =
    subst (λ (l : List Event). Covers from (pieces l) r)
    (sym (append_assoc (pair_unless_empty piece from following) (exited closes following) es))
    (covers-pair piece from following r (exited closes following ++ es)
    (subst (λ (ps : List Piece). Covers following ps r) (sym (pieces-exited closes following es)) rest))

-- The pieces of a line lie side by side.
pub covers-line : (line : List ℕ) (marks : List Mark) (piece : Name) (from at r : Point) (es : List Event) →
    from.index ≤ at.index → Opening es → Covers (past_text line at) (pieces es) r →
    Covers from (pieces (line_events line marks piece from at ++ es)) r
covers-line [] marks piece from at r es h opening rest = covers-pair piece from at r es rest
covers-line (b ∷ line) [] piece from at r es h opening rest =
    covers-line line [] piece from (past_byte b at) r es (omega arith) opening rest
covers-line (b ∷ line) (mark ∷ marks) piece from at r es h opening rest =
    let following : Point = past_byte b at in
    let here : Name = front_name mark.front piece in
    let begun : Point = front_from mark.front from at in
    let more : Point = back_from mark.back begun following in
    let high : begun.index ≤ at.index = front-index mark.front from at h in
    let below : begun.index ≤ following.index = omega (arith, high) in
    let last : more.index ≤ following.index = back-index mark.back begun following below in
    subst (λ (l : List Event). Covers from (pieces l) r)
    (sym
    (regroup (front_events mark.front piece from at) (back_events mark.back here begun following)
    (line_events line marks here more following) es))
    (covers-front mark.front piece from at r
    (back_events mark.back here begun following ++ (line_events line marks here more following ++ es))
    (opening-back mark.back here begun following (line_events line marks here more following ++ es)
    (omega (arith, high)) (opening-line line marks here more following es last opening))
    (covers-back mark.back here begun following r (line_events line marks here more following ++ es)
    (covers-line line marks here more following r es last opening rest)))

-- nothing of an ending ends first
opening-pair : (name : Name) (p q : Point) (es : List Event) → Opening es → Opening (pair_unless_empty name p q ++ es)
opening-pair name p q es h = front-pair Opening 0 (λ name p es h. refl) name p q es (omega arith) h

-- an ending that is a byte has a begin and an end
opening-closed : (end after : Point) (closes : List Name) → (same_place end after ≡ true → ⊥) →
    Opening (pair_unless_empty n.LineEnding end after ++ exited closes after)
opening-closed end after closes apart = go (same_place end after) apart
  where
    go : (x : Bool) → (x ≡ true → ⊥) → Opening (cond x [] (pair n.LineEnding end after) ++ exited closes after)
    go true apart = absurd (apart refl)
    go false apart = refl

opening-only : (end after : Point) → Opening (pair_unless_empty n.LineEnding end after)
opening-only end after = go (same_place end after)
  where
    go : (x : Bool) → Opening (cond x [] (pair n.LineEnding end after))
    go true = tt
    go false = refl

pub opening-ending : (end after : Point) (ending : List ℕ) (marks : List Mark) →
    (same_place end after ≡ true → ending ≡ []) → Opening (ending_events end after ending marks)
opening-ending end after [] marks none = opening-only end after
opening-ending end after (b ∷ ending) [] none = opening-only end after
opening-ending end after (b ∷ ending) (mark ∷ marks) none =
    opening-entered (opens_in mark.front) end (pair_unless_empty n.LineEnding end after ++ exited (closes_in
    mark.back) after)
    (opening-closed end after (closes_in mark.back) (λ h. let e = none h in cc))

covers-only : (end after : Point) → Covers end (pieces (pair_unless_empty n.LineEnding end after)) after
covers-only end after =
    subst (λ (l : List Event). Covers end (pieces l) after) (append-nil (pair_unless_empty n.LineEnding end after))
    (covers-pair n.LineEnding end after after [] (same-refl after))

pub covers-ending : (end after : Point) (ending : List ℕ) (marks : List Mark) →
    (same_place end after ≡ true → ending ≡ []) → Covers end (pieces (ending_events end after ending marks)) after
covers-ending end after [] marks none = covers-only end after
covers-ending end after (b ∷ ending) [] none = covers-only end after
covers-ending end after (b ∷ ending) (mark ∷ marks) none =
    let closing : List Event = exited (closes_in mark.back) after in
    let following : List Event = pair_unless_empty n.LineEnding end after ++ closing in
    subst (λ (ps : List Piece). Covers end ps after)
    (sym (pieces-entered (opens_in mark.front) end following
    (opening-closed end after (closes_in mark.back) (λ h. let e = none h in cc))))
    (covers-pair n.LineEnding end after after closing (covers-exited (closes_in mark.back) after))

-- A chunk is covered from its begin to its end.
pub covers-side : (chunk : Chunk) (side : Sides) (marks : List Mark) (piece : Name) →
    (same_place (past_text side.trail (past_text side.text (past_text side.indent chunk.first))) chunk.after ≡ true →
    side.ending ≡ []) →
    Covers chunk.first (pieces (side_events chunk side marks piece)) chunk.after
covers-side chunk side marks piece none =
    let first : Point = past_text side.indent chunk.first in
    let after : Point = past_text side.text first in
    let end : Point = past_text side.trail after in
    let left : List Mark = drop (length side.text) marks in
    let ending : List Event = ending_events end chunk.after side.ending left in
    let opening : Opening ending = opening-ending end chunk.after side.ending left none in
    let trail : List Event = pair_unless_empty n.SpaceOrTab after end ++ ending in
    covers-pair n.SpaceOrTab chunk.first first chunk.after (line_events side.text marks piece first first ++ trail)
    (covers-line side.text marks piece first first chunk.after trail (omega arith)
    (opening-pair n.SpaceOrTab after end ending opening)
    (covers-pair n.SpaceOrTab after end chunk.after ending
    (covers-ending end chunk.after side.ending left none)))
