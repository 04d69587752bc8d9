-- What holds of the events of a line, whatever the marks of its bytes are.
use Rattle.std.proofs.Common.{◌≡◌, ℕ, Bool, true, false, cond, ◌&&◌, List, [], ◌∷◌, ◌++◌, refl, sym, subst}
use Rattle.std.specs.Prelude.{IsTrue, not, None}
use Rattle.std.specs.List.{list_all}
use Rattle.std.proofs.lemmas.Bool.{and_parts, and_from}
use Rattle.md_engine.specs.declared.event.Event.{Event}
use Rattle.md_engine.specs.declared.event.Kind.{Kind}
use Rattle.md_engine.specs.declared.event.Kind.TheVariants.{Enter, Exit}
use Rattle.md_engine.specs.declared.event.Name.{Name}
use Rattle.md_engine.specs.declared.event.Point.{Point}
use Rattle.md_events.specs.Events.Inline.{is_inline, is_line_ending, line_endings, pair_unless_empty}
use Rattle.md_events.specs.Events.Nested.{Forward, enter, exit, last_point, pair}
use Rattle.md_events.specs.Events.Places.{at_or_before, past_byte, past_text, same_place}
use Rattle.md_events.proofs.InlineLemmas.{before-text}
use Rattle.md_events.proofs.NestedLemmas.{at_or_before-refl, at_or_before-trans, forward-append, forward-from}
use Rattle.md_events.proofs.NestedLemmas.{last_point-append}
use Rattle.md_events.proofs.PlacesLemmas.{all-append}
use Rattle.md_inline_events.specs.Marks.{Back, Front, Mark, back_events, back_from, begins, ends, entered, exited}
use Rattle.md_inline_events.specs.Marks.{front_events, front_from, front_name, is_part_name, last_name, line_events}
use Rattle.md_inline_events.specs.Marks.{closes_in, opens_in, passes, stays}
use Rattle.proof_inlines.proofs.Named.{are_back_names, are_front_names, is_named}

-- Names.

pub named-front : (mark : Mark) → is_named mark ≡ true → are_front_names mark.front ≡ true
named-front mark h =
    let parts : (are_front_names mark.front ≡ true) ×
    (are_back_names mark.back ≡ true) = and_parts (are_front_names mark.front) (are_back_names mark.back) h in
    parts.0

pub named-back : (mark : Mark) → is_named mark ≡ true → are_back_names mark.back ≡ true
named-back mark h =
    let parts : (are_front_names mark.front ≡ true) ×
    (are_back_names mark.back ≡ true) = and_parts (are_front_names mark.front) (are_back_names mark.back) h in
    parts.1

pub named-opens : (opens : List Name) (name : Name) → are_front_names (begins opens name) ≡ true →
    (is_part_name name ≡ true) × (list_all is_part_name opens ≡ true)
named-opens opens name h = and_parts (is_part_name name) (list_all is_part_name opens) h

pub named-piece : (front : Front) (piece : Name) → are_front_names front ≡ true → is_part_name piece ≡ true →
    is_part_name (front_name front piece) ≡ true
named-piece passes piece h k = k
named-piece (begins opens name) piece h k =
    let parts = named-opens opens name h in
    parts.0

pub named-last : (marks : List Mark) (piece : Name) → list_all is_named marks ≡ true → is_part_name piece ≡ true →
    is_part_name (last_name piece marks) ≡ true
named-last [] piece h k = k
named-last (mark ∷ marks) piece h k =
    let parts : (is_named mark ≡ true) × (list_all is_named marks ≡ true) = and_parts (is_named mark)
    (list_all is_named marks) h in
    named-last marks (front_name mark.front piece) parts.1
    (named-piece mark.front piece (named-front mark parts.0) k)

-- the names of the parts that begin before a byte, and of those that end after it
pub named-opened : (mark : Mark) → is_named mark ≡ true → list_all is_part_name (opens_in mark.front) ≡ true
named-opened mark h = go mark.front (named-front mark h)
  where
    go : (front : Front) → are_front_names front ≡ true → list_all is_part_name (opens_in front) ≡ true
    go passes k = refl
    go (begins opens name) k = let both = named-opens opens name k in both.1

pub named-closes : (mark : Mark) → is_named mark ≡ true → list_all is_part_name (closes_in mark.back) ≡ true
named-closes mark h = go mark.back (named-back mark h)
  where
    go : (back : Back) → are_back_names back ≡ true → list_all is_part_name (closes_in back) ≡ true
    go stays k = refl
    go (ends closes) k = k

-- Events in turn.

-- what holds of each point of a line
abbrev pub Along : (Point → Type 0) → List ℕ → Point → Type 0
Along P [] at = P at
Along P (b ∷ line) at = P at × Along P line (past_byte b at)

pub along-first : (P : Point → Type 0) (line : List ℕ) (at : Point) → Along P line at → P at
along-first P [] at h = h
along-first P (b ∷ line) at h = h.0

-- A test that passes at each event with such a name passes at all events of a line.
module _ (test : Event → Bool) (P : Point → Type 0)
    (holds : (kind : Kind) (name : Name) (p : Point) → is_part_name name ≡ true → P p →
    test (record { kind = kind; name = name; point = p; link = None }) ≡ true) where
  pub all-pair : (name : Name) (p q : Point) → is_part_name name ≡ true → P p → P q →
      list_all test (pair_unless_empty name p q) ≡ true
  all-pair name p q m h k = go (same_place p q)
    where
      go : (x : Bool) → list_all test (cond x [] (pair name p q)) ≡ true
      go true = refl
      go false =
          and_from (test (enter name p)) (test (exit name q) && true) (holds Enter name p m h)
          (and_from (test (exit name q)) true (holds Exit name q m k) refl)

  pub all-entered : (names : List Name) (p : Point) → list_all is_part_name names ≡ true → P p →
      list_all test (entered names p) ≡ true
  all-entered [] p m h = refl
  all-entered (name ∷ names) p m h =
      let parts : (is_part_name name ≡ true) ×
      (list_all is_part_name names ≡ true) = and_parts (is_part_name name) (list_all is_part_name names) m in
      and_from (test (enter name p)) (list_all test (entered names p)) (holds Enter name p parts.0 h)
      (all-entered names p parts.1 h)

  pub all-exited : (names : List Name) (p : Point) → list_all is_part_name names ≡ true → P p →
      list_all test (exited names p) ≡ true
  all-exited [] p m h = refl
  all-exited (name ∷ names) p m h =
      let parts : (is_part_name name ≡ true) ×
      (list_all is_part_name names ≡ true) = and_parts (is_part_name name) (list_all is_part_name names) m in
      and_from (test (exit name p)) (list_all test (exited names p)) (holds Exit name p parts.0 h)
      (all-exited names p parts.1 h)

  all-front : (front : Front) (piece : Name) (from at : Point) → are_front_names front ≡ true →
      is_part_name piece ≡ true → P from → P at → list_all test (front_events front piece from at) ≡ true
  all-front passes piece from at m k f a = refl
  all-front (begins opens name) piece from at m k f a =
      let parts = named-opens opens name m in
      all-append test (pair_unless_empty piece from at) (entered opens at) (all-pair piece from at k f a)
      (all-entered opens at parts.1 a)

  from-front : (front : Front) (from at : Point) → P from → P at → P (front_from front from at)
  from-front passes from at f a = f
  from-front (begins opens name) from at f a = a

  all-back : (back : Back) (piece : Name) (from following : Point) → are_back_names back ≡ true →
      is_part_name piece ≡ true → P from → P following → list_all test (back_events back piece from following) ≡ true
  all-back stays piece from following m k f b = refl
  all-back (ends closes) piece from following m k f b =
      all-append test (pair_unless_empty piece from following) (exited closes following) (all-pair piece from
      following k f b)
      (all-exited closes following m b)

  from-back : (back : Back) (from following : Point) → P from → P following → P (back_from back from following)
  from-back stays from following f b = f
  from-back (ends closes) from following f b = b

  pub all-line : (line : List ℕ) (marks : List Mark) (piece : Name) (from at : Point) →
      list_all is_named marks ≡ true → is_part_name piece ≡ true → P from → Along P line at →
      list_all test (line_events line marks piece from at) ≡ true
  all-line [] marks piece from at m k f along = all-pair piece from at k f along
  all-line (b ∷ line) [] piece from at m k f along = all-line line [] piece from (past_byte b at) m k f along.1
  all-line (b ∷ line) (mark ∷ marks) piece from at m k f along =
      let following : Point = past_byte b at in
      let next : P following = along-first P line following along.1 in
      let parts : (is_named mark ≡ true) × (list_all is_named marks ≡ true) = and_parts (is_named mark)
      (list_all is_named marks) m in
      let here : Name = front_name mark.front piece in
      let named : is_part_name here ≡ true = named-piece mark.front piece (named-front mark parts.0) k in
      let begun : Point = front_from mark.front from at in
      let here_holds : P begun = from-front mark.front from at f along.0 in
      let more : Point = back_from mark.back begun following in
      all-append test (front_events mark.front piece from at)
      (back_events mark.back here begun following ++ line_events line marks here more following)
      (all-front mark.front piece from at (named-front mark parts.0) k f along.0)
      (all-append test (back_events mark.back here begun following) (line_events line marks here more following)
      (all-back mark.back here begun following (named-back mark parts.0) named here_holds next)
      (all-line line marks here more following parts.1 named (from-back mark.back begun following here_holds next)
      along.1))

-- No `LineEnding` is in a line.

pub no-endings : (es : List Event) → list_all (λ (e : Event). not (is_line_ending e.name)) es ≡ true →
    line_endings es ≡ []
no-endings [] h = refl
no-endings (e ∷ es) h =
    let parts : (not (is_line_ending e.name) ≡ true) ×
    (list_all (λ (e : Event). not (is_line_ending e.name)) es ≡ true) = and_parts (not (is_line_ending e.name))
    (list_all (λ (e : Event). not (is_line_ending e.name)) es) h in
    go (is_line_ending e.name) parts.0 (no-endings es parts.1)
  where
    go : (x : Bool) → not x ≡ true → line_endings es ≡ [] → cond x (e ∷ line_endings es) (line_endings es) ≡ []
    go true h rest = cc
    go false h rest = rest

pub along-unit : (line : List ℕ) (at : Point) → Along (λ p. Unit {0}) line at
along-unit [] at = tt
along-unit (b ∷ line) at = (tt, along-unit line (past_byte b at))

pub part-inline : (name : Name) → is_part_name name ≡ true → is_inline name ≡ true
part-inline name h =
    let parts : (is_inline name ≡ true) × (not (is_line_ending name) ≡ true) = and_parts (is_inline name)
    (not (is_line_ending name)) h in
    parts.0

pub part-no_ending : (name : Name) → is_part_name name ≡ true → not (is_line_ending name) ≡ true
part-no_ending name h =
    let parts : (is_inline name ≡ true) × (not (is_line_ending name) ≡ true) = and_parts (is_inline name)
    (not (is_line_ending name)) h in
    parts.1

no-ending-test : (kind : Kind) (name : Name) (p : Point) → is_part_name name ≡ true → Unit {0} →
    not (is_line_ending name) ≡ true
no-ending-test kind name p m u = part-no_ending name m

pub line-endings : (line : List ℕ) (marks : List Mark) (piece : Name) (from at : Point) →
    list_all is_named marks ≡ true → is_part_name piece ≡ true →
    line_endings (line_events line marks piece from at) ≡ []
line-endings line marks piece from at m k =
    no-endings (line_events line marks piece from at)
    (all-line (λ (e : Event). not (is_line_ending e.name)) (λ p. Unit {0}) no-ending-test line marks piece from at m k
    tt (along-unit line at))

pub entered-no-endings : (names : List Name) (p : Point) → list_all is_part_name names ≡ true →
    line_endings (entered names p) ≡ []
entered-no-endings names p m =
    no-endings (entered names p)
    (all-entered (λ (e : Event). not (is_line_ending e.name)) (λ p. Unit {0}) no-ending-test names p m tt)

pub exited-no-endings : (names : List Name) (p : Point) → list_all is_part_name names ≡ true →
    line_endings (exited names p) ≡ []
exited-no-endings names p m =
    no-endings (exited names p)
    (all-exited (λ (e : Event). not (is_line_ending e.name)) (λ p. Unit {0}) no-ending-test names p m tt)

-- Events that go from one point to another.
pub record Proceeds (p q : Point) (es : List Event) : Type 0 where
  pub forward : Forward p es
  pub last : IsTrue (at_or_before (last_point p es) q)

last-later : (o q r : Point) (es : List Event) → IsTrue (at_or_before o q) → IsTrue (at_or_before q r) →
    IsTrue (at_or_before (last_point q es) r) → IsTrue (at_or_before (last_point o es) r)
last-later o q r [] h k last = at_or_before-trans o q r h k
last-later o q r (e ∷ es) h k last = last

pub proceeds-append : (p q r : Point) (xs ys : List Event) → IsTrue (at_or_before q r) → Proceeds p q xs → Proceeds q
    r ys →
    Proceeds p r (xs ++ ys)
proceeds-append p q r xs ys h g k = record {
  forward = forward-append p xs ys g.forward (forward-from (last_point p xs) q ys g.last k.forward);
  last =
      subst (λ (l : Point). IsTrue (at_or_before l r)) (sym (last_point-append p xs ys))
      (last-later (last_point p xs) q r ys g.last h k.last);
}

pub proceeds-pair : (name : Name) (p q : Point) → IsTrue (at_or_before p q) → Proceeds p q (pair_unless_empty name p q)
proceeds-pair name p q h = go (same_place p q)
  where
    go : (x : Bool) → Proceeds p q (cond x [] (pair name p q))
    go true = record { forward = tt; last = h }
    go false = record { forward = (at_or_before-refl p, (h, tt)); last = at_or_before-refl q }

pub proceeds-none : (p q : Point) → IsTrue (at_or_before p q) → Proceeds p q []
proceeds-none p q h = record { forward = tt; last = h }

pub proceeds-entered : (names : List Name) (p : Point) → Proceeds p p (entered names p)
proceeds-entered [] p = proceeds-none p p (at_or_before-refl p)
proceeds-entered (name ∷ names) p =
    let more : Proceeds p p (entered names p) = proceeds-entered names p in
    record { forward = (at_or_before-refl p, more.forward); last = more.last }

pub proceeds-exited : (names : List Name) (p : Point) → Proceeds p p (exited names p)
proceeds-exited [] p = proceeds-none p p (at_or_before-refl p)
proceeds-exited (name ∷ names) p =
    let more : Proceeds p p (exited names p) = proceeds-exited names p in
    record { forward = (at_or_before-refl p, more.forward); last = more.last }

proceeds-front : (front : Front) (piece : Name) (from at : Point) → IsTrue (at_or_before from at) →
    Proceeds from (front_from front from at) (front_events front piece from at)
proceeds-front passes piece from at h = proceeds-none from from (at_or_before-refl from)
proceeds-front (begins opens name) piece from at h =
    proceeds-append from at at (pair_unless_empty piece from at) (entered opens at) (at_or_before-refl at)
    (proceeds-pair piece from at h) (proceeds-entered opens at)

front-before : (front : Front) (from at : Point) → IsTrue (at_or_before from at) →
    IsTrue (at_or_before (front_from front from at) at)
front-before passes from at h = h
front-before (begins opens name) from at h = at_or_before-refl at

proceeds-back : (back : Back) (piece : Name) (from following : Point) → IsTrue (at_or_before from following) →
    Proceeds from (back_from back from following) (back_events back piece from following)
proceeds-back stays piece from following h = proceeds-none from from (at_or_before-refl from)
proceeds-back (ends closes) piece from following h =
    proceeds-append from following following (pair_unless_empty piece from following) (exited closes following)
    (at_or_before-refl following) (proceeds-pair piece from following h) (proceeds-exited closes following)

back-before : (back : Back) (from following : Point) → IsTrue (at_or_before from following) →
    IsTrue (at_or_before (back_from back from following) following)
back-before stays from following h = h
back-before (ends closes) from following h = at_or_before-refl following

pub proceeds-line : (line : List ℕ) (marks : List Mark) (piece : Name) (from at : Point) → IsTrue (at_or_before from
    at) →
    Proceeds from (past_text line at) (line_events line marks piece from at)
proceeds-line [] marks piece from at h = proceeds-pair piece from at h
proceeds-line (b ∷ line) [] piece from at h =
    proceeds-line line [] piece from (past_byte b at)
    (at_or_before-trans from at (past_byte b at) h (before-text (b ∷ []) at))
proceeds-line (b ∷ line) (mark ∷ marks) piece from at h =
    let following : Point = past_byte b at in
    let step : IsTrue (at_or_before at following) = before-text (b ∷ []) at in
    let here : Name = front_name mark.front piece in
    let begun : Point = front_from mark.front from at in
    let first : IsTrue (at_or_before begun following) = at_or_before-trans begun at following
    (front-before mark.front from at h) step in
    let more : Point = back_from mark.back begun following in
    let second : IsTrue (at_or_before more following) = back-before mark.back begun following first in
    let last : IsTrue (at_or_before following (past_text line following)) = before-text line following in
    proceeds-append from begun (past_text line following) (front_events mark.front piece from at)
    (back_events mark.back here begun following ++ line_events line marks here more following)
    (at_or_before-trans begun following (past_text line following) first last) (proceeds-front mark.front piece from
    at h)
    (proceeds-append begun more (past_text line following) (back_events mark.back here begun following)
    (line_events line marks here more following)
    (at_or_before-trans more following (past_text line following) second last)
    (proceeds-back mark.back here begun following first) (proceeds-line line marks here more following second))
