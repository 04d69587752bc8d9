-- What a paragraph reads of a line, by the points where it begins and ends.
use Rattle.std.proofs.Common.{◌≡◌, ℕ, zero, suc, ◌+◌, ◌-◌, ◌%◌, ◌^◌, ◌<◌, ◌≤◌, ◌⊎◌, inl, inr, Bool, true, false, cond}
use Rattle.std.proofs.Common.{◌&&◌, List, [], ◌∷◌, refl, ap, sym, ◌∙◌, subst, arith}
use Rattle.std.specs.Prelude.{◌==◌, not, nat_lt, slice_index}
use Rattle.std.proofs.Math.Logic.{∥∥₁_elim}
use Rattle.std.proofs.Props.{props}
use Rattle.std.proofs.lemmas.Bool.{cases_lt, or_parts}
use Rattle.md_engine.specs.declared.event.Event.{Event}
use Rattle.md_engine.specs.declared.event.Name.TheVariants as parts
use Rattle.md_engine.specs.declared.event.Point.{Point}
use Rattle.md_engine.specs.Place.{IsPlaced, IsReached, is_ending, is_pair, next_point, seen_at, walked}
use Rattle.md_engine.specs.Scheme.{cells_left}
use Rattle.md_engine.specs.TextFeed.{text_feed}
use Rattle.md_engine.specs.World.{Setting, after, line_begun}
use Rattle.md_engine.proofs.Points.{cells-fall}
use Rattle.md_engine.proofs.Sound.{placed-next}
use Rattle.md_content.specs.Paragraph.{text_link}
use Rattle.md_content.specs.ParagraphRule.{line_events}
use Rattle.md_events.specs.Ahead.{point_after}
use Rattle.md_events.specs.Events.Nested.{enter_link, exit}
use Rattle.md_events.proofs.FeedLines.{feed-next, feed-none}
use Rattle.md_events.proofs.PointOrder.{Before, next-within, placed-same, reached-column, walk-before}

-- The order of points, and their lines.

-- a point that is not after another one
in-order : (bytes : List ℕ) (n m : ℕ) → (Before (walked bytes m) (walked bytes n) → ⊥) → n ≤ m
in-order bytes n m not_after = elim (cases_lt m n) [
  | inl lt ↦ absurd (not_after (walk-before bytes m n lt))
  | inr le ↦ le
]

-- what the step over an ending does
ended : (bytes : List ℕ) (p : Point) → is_ending (slice_index bytes p.index) ≡ true →
    (next_point bytes p).line ≡ p.line + 1
ended bytes p e = rw e refl

-- and the step over another byte, or over a column of a tab
kept : (bytes : List ℕ) (p : Point) → is_ending (slice_index bytes p.index) ≡ false →
    ((next_point bytes p).line ≡ p.line) × ((next_point bytes p).column ≡ p.column + 1)
kept bytes p e = rw e (go ((slice_index bytes p.index == 9) && not (p.column % 4 == 0)))
  where
    go : (t : Bool) →
        let q = cond t (record p { column = p.column + 1; vs = p.vs + 1 })
        (record p { column = p.column + 1; index = p.index + 1; vs = 0 }) in
        (q.line ≡ p.line) × (q.column ≡ p.column + 1)
    go true = (refl, refl)
    go false = (refl, refl)

line-next : (bytes : List ℕ) (p : Point) → p.line ≤ (next_point bytes p).line
line-next bytes p = go (is_ending (slice_index bytes p.index)) refl
  where
    go : (t : Bool) → is_ending (slice_index bytes p.index) ≡ t → p.line ≤ (next_point bytes p).line
    go true e = omega (arith, ended bytes p e)
    go false e = omega (arith, (kept bytes p e).0)

lines-grow : (bytes : List ℕ) (d n m : ℕ) → n + d ≡ m → (walked bytes n).line ≤ (walked bytes m).line
unfolding walked
lines-grow bytes zero n m e = let same : n ≡ m = omega (arith, e) in rw same (omega arith)
lines-grow bytes (suc d) n m e =
    let more : (next_point bytes (walked bytes n)).line ≤ (walked bytes m).line = lines-grow bytes d (suc n) m
    (omega (arith, e)) in
    omega (arith, line-next bytes (walked bytes n), more)

lines-order : (bytes : List ℕ) (n m : ℕ) → n ≤ m → (walked bytes n).line ≤ (walked bytes m).line
lines-order bytes n m le = lines-grow bytes (m - n) n m (omega (arith, le))

-- a later point is on no line before
pub line-order : (bytes : List ℕ) (p q : Point) → IsPlaced bytes p → IsPlaced bytes q → (Before q p → ⊥) →
    p.line ≤ q.line
line-order bytes p q h k not_after =
    ∥∥₁_elim h.reached (hlevel props) (λ r. ∥∥₁_elim k.reached (hlevel props) (λ s. go r s))
  where
    go : IsReached bytes p → IsReached bytes q → p.line ≤ q.line
    go (n, e) (m, f) =
        rw (e, f)
        (lines-order bytes n m
        (in-order bytes n m
        (λ b. not_after (subst (λ (r : Point). Before r p) (sym f) (subst (Before (walked bytes m)) (sym e) b)))))

-- with its first column a line begins
ends-before : (bytes : List ℕ) (p : Point) → 1 ≤ p.column → (next_point bytes p).column ≡ 1 →
    is_ending (slice_index bytes p.index) ≡ true
ends-before bytes p some first = go (is_ending (slice_index bytes p.index)) refl
  where
    go : (t : Bool) → is_ending (slice_index bytes p.index) ≡ t → is_ending (slice_index bytes p.index) ≡ true
    go true e = e
    go false e = absurd (omega (arith, some, first, (kept bytes p e).1))

walked-first : (bytes : List ℕ) (n m : ℕ) → n < m → (walked bytes m).column ≡ 1 →
    (walked bytes n).line < (walked bytes m).line
unfolding walked
walked-first bytes n zero lt first = absurd (omega (arith, lt))
walked-first bytes n (suc m) lt first =
    let p = walked bytes m in
    let ends = ends-before bytes p (reached-column bytes p (m, refl)) first in
    omega (arith, lines-order bytes n m (omega (arith, lt)), ended bytes p ends)

-- a point before it is on a line before
line-first : (bytes : List ℕ) (p q : Point) → IsPlaced bytes p → IsPlaced bytes q → p.index < q.index →
    q.column ≡ 1 → p.line < q.line
line-first bytes p q h k lt first =
    ∥∥₁_elim h.reached (hlevel props) (λ r. ∥∥₁_elim k.reached (hlevel props) (λ s. go r s))
  where
    go : IsReached bytes p → IsReached bytes q → p.line < q.line
    go (n, e) (m, f) = elim (cases_lt n m) [
      | inl less ↦ rw (e, f) (walked-first bytes n m less (sym (ap (λ (r : Point). r.column) f) ∙ first))
      | inr le ↦ absurd (back (cases_lt m n) le)
    ]
      where
        index : Before q p → ⊥
        index (inl b) = omega (arith, b, lt)
        index (inr b) = omega (arith, b.0, lt)

        back : (m < n) ⊎ (n ≤ m) → m ≤ n → ⊥
        back (inl less) le =
            index
            (subst (λ (r : Point). Before r p) (sym f)
            (subst (Before (walked bytes m)) (sym e) (walk-before bytes m n less)))
        back (inr more) le =
            let same : n ≡ m = omega (arith, more, le) in
            let k : p ≡ q = e ∙ ap (walked bytes) same ∙ sym f in
            omega (arith, lt, ap (λ (r : Point). r.index) k)

-- a step to another byte ends at its first column
moved : (bytes : List ℕ) (p : Point) → p.index < (next_point bytes p).index → (next_point bytes p).vs ≡ 0
moved bytes p = go (is_ending (slice_index bytes p.index)) ((slice_index bytes p.index == 9) && not (p.column % 4 == 0))
  where
    go : (x z : Bool) →
        let q = cond x
        (record {
          line = p.line + 1;
          column = 1;
          index = cond (is_pair bytes p.index) (p.index + 2) (p.index + 1);
          vs = 0;
        })
        (cond z (record p { column = p.column + 1; vs = p.vs + 1 })
        (record p { column = p.column + 1; index = p.index + 1; vs = 0 })) in
        p.index < q.index → q.vs ≡ 0
    go true z lt = refl
    go false true lt = absurd (omega (arith, lt))
    go false false lt = refl

-- the point after is a point before it, or it
step-upto : (bytes : List ℕ) (p q : Point) → IsPlaced bytes p → IsPlaced bytes q → p.index < q.index → q.vs ≡ 0 →
    ((next_point bytes p).index < q.index) ⊎ (next_point bytes p ≡ q)
step-upto bytes p q h k lt whole = go (cases_lt (next_point bytes p).index q.index)
  where
    within : (next_point bytes p).index ≤ q.index
    within = next-within bytes p q h k lt

    vs : (next_point bytes p).index ≡ q.index → (next_point bytes p).vs ≡ 0
    vs same = moved bytes p (omega (arith, same, lt))

    go : ((next_point bytes p).index < q.index) ⊎ (q.index ≤ (next_point bytes p).index) →
        ((next_point bytes p).index < q.index) ⊎ (next_point bytes p ≡ q)
    go (inl less) = inl less
    go (inr le) =
        let same : (next_point bytes p).index ≡ q.index = omega (arith, le, within) in
        inr
        (placed-same bytes (next_point bytes p) q (placed-next bytes p h (omega (arith, lt, k.index))) k same
        (vs same ∙ sym whole))

not-following : (p q : Point) → (p.index < q.index) ⊎ (p ≡ q) → q.vs ≡ 0 → Before q p → ⊥
not-following p q (inl lt) whole (inl b) = omega (arith, lt, b)
not-following p q (inl lt) whole (inr b) = omega (arith, lt, b.0)
not-following p q (inr same) whole (inl b) = omega (arith, ap (λ (r : Point). r.index) same, b)
not-following p q (inr same) whole (inr b) = omega (arith, ap (λ (r : Point). r.vs) same, b.1)

-- The events of a line.

-- what is left of a paragraph from a point within a line on
abbrev pub Reads : Setting → Point → List Event → Point → Type 0
Reads x p events to = (line_events (text_feed x p) p ≡ events) × (point_after (text_feed x p) p ≡ to)

seen-plain : (bytes : List ℕ) (p : Point) → is_ending (slice_index bytes p.index) ≡ false →
    (seen_at bytes p == 10) ≡ false
seen-plain bytes p e =
    rw e (go ((slice_index bytes p.index == 9) && nat_lt 0 p.vs) (or_parts _ _ e).0)
  where
    go : (t : Bool) → (slice_index bytes p.index == 10) ≡ false → (cond t 32 (slice_index bytes p.index) == 10) ≡ false
    go true _ = refl
    go false other = other

pub after-plain : (x : Setting) (p : Point) → is_ending (slice_index x.bytes p.index) ≡ false →
    after x p ≡ next_point x.bytes p
after-plain x p e = ap (λ (t : Bool). cond t (line_begun x (next_point x.bytes p)) (next_point x.bytes p)) e

-- over a byte of the line
read-byte : (x : Setting) (p : Point) (events : List Event) (to : Point) → x.limit < 2 ^ 61 → p.index < x.limit →
    is_ending (slice_index x.bytes p.index) ≡ false → Reads x (next_point x.bytes p) events to → Reads x p events to
read-byte x p events to small lt plain h =
    rw (feed-next x p small lt, seen-plain x.bytes p plain, after-plain x p plain) h

-- over its ending
read-ending : (x : Setting) (p q : Point) (events : List Event) (to : Point) → x.limit < 2 ^ 61 → p.index < x.limit →
    is_ending (slice_index x.bytes p.index) ≡ true → line_begun x (next_point x.bytes p) ≡ q → Reads x q events to →
    Reads x p (exit parts.Data q ∷ enter_link parts.Data q text_link ∷ events) to
read-ending x p q events to small lt ends begun h =
    let next : after x p ≡ q = ap
    (λ (t : Bool). cond t (line_begun x (next_point x.bytes p)) (next_point x.bytes p)) ends
    ∙ begun in
    let seen : (seen_at x.bytes p == 10) ≡ true = rw ends refl in
    rw (feed-next x p small lt, seen, next)
    (ap (λ (es : List Event). exit parts.Data q ∷ enter_link parts.Data q text_link ∷ es) h.0, h.1)

-- at the end of the text
read-none : (x : Setting) (p q : Point) → x.limit < 2 ^ 61 → p ≡ q → x.limit ≤ q.index →
    Reads x p (exit parts.Data q ∷ []) q
read-none x p q small same le = rw (same, feed-none x q small le) (refl, refl)

pub plain-falls : (x : Setting) (p : Point) → p.index < x.limit → is_ending (slice_index x.bytes p.index) ≡ false →
    cells_left x.limit (next_point x.bytes p) + 1 ≤ cells_left x.limit p
plain-falls x p lt plain =
    subst (λ (r : Point). cells_left x.limit r + 1 ≤ cells_left x.limit p) (after-plain x p plain) (cells-fall x p lt)

-- to the end of the text, where the line has no ending
pub last-line : (x : Setting) (q : Point) (fuel : ℕ) (p : Point) → x.limit < 2 ^ 61 → x.limit ≡ q.index →
    IsPlaced x.bytes q → q.vs ≡ 0 → cells_left x.limit p ≤ fuel → IsPlaced x.bytes p → p.line ≡ q.line →
    (p.index < q.index) ⊎ (p ≡ q) → Reads x p (exit parts.Data q ∷ []) q
last-line x q fuel p small limit k whole enough h line (inr same) = read-none x p q small same (omega (arith, limit))
last-line x q zero p small limit k whole enough h line (inl lt) = absurd (omega (arith, limit, enough, lt))
last-line x q (suc fuel) p small limit k whole enough h line (inl lt) =
    let next = next_point x.bytes p in
    let inside : p.index < x.limit = omega (arith, limit, lt) in
    let valid : IsPlaced x.bytes next = placed-next x.bytes p h (omega (arith, lt, k.index)) in
    let upto = step-upto x.bytes p q h k lt whole in
    let later : next.line ≤ q.line = line-order x.bytes next q valid k (not-following next q upto whole) in
    let plain = not-ending later in
    read-byte x p (exit parts.Data q ∷ []) q small inside plain
    (last-line x q fuel next small limit k whole (omega (arith, enough, plain-falls x p inside plain)) valid
    ((kept x.bytes p plain).0 ∙ line) upto)
  where
    not-ending : (next_point x.bytes p).line ≤ q.line → is_ending (slice_index x.bytes p.index) ≡ false
    not-ending later = go (is_ending (slice_index x.bytes p.index)) refl
      where
        go : (t : Bool) → is_ending (slice_index x.bytes p.index) ≡ t → is_ending (slice_index x.bytes p.index) ≡ false
        go true e = absurd (omega (arith, later, line, ended x.bytes p e))
        go false e = e

-- over a line with its ending
pub ended-line : (x : Setting) (q r : Point) (events : List Event) (to : Point) (fuel : ℕ) (p : Point) →
    x.limit < 2 ^ 61 → q.index ≤ x.limit → IsPlaced x.bytes q → q.column ≡ 1 → q.vs ≡ 0 → line_begun x q ≡ r →
    Reads x r events to → cells_left x.limit p ≤ fuel → IsPlaced x.bytes p → p.line + 1 ≡ q.line → p.index < q.index →
    Reads x p (exit parts.Data r ∷ enter_link parts.Data r text_link ∷ events) to
ended-line x q r events to zero p small limit k first whole begun h enough at line lt =
    absurd (omega (arith, limit, enough, lt))
ended-line x q r events to (suc fuel) p small limit k first whole begun h enough at line lt =
    go (is_ending (slice_index x.bytes p.index)) refl (step-upto x.bytes p q at k lt whole)
    (λ e less. ended-line x q r events to fuel (next_point x.bytes p) small limit k first whole begun h
    (omega (arith, enough, plain-falls x p inside e)) valid (omega (arith, line, (kept x.bytes p e).0)) less)
  where
    inside : p.index < x.limit
    inside = omega (arith, limit, lt)

    valid : IsPlaced x.bytes (next_point x.bytes p)
    valid = placed-next x.bytes p at (omega (arith, lt, k.index))

    go : (t : Bool) → is_ending (slice_index x.bytes p.index) ≡ t →
        ((next_point x.bytes p).index < q.index) ⊎ (next_point x.bytes p ≡ q) →
        (is_ending (slice_index x.bytes p.index) ≡ false → (next_point x.bytes p).index < q.index →
        Reads x (next_point x.bytes p) (exit parts.Data r ∷ enter_link parts.Data r text_link ∷ events) to) →
        Reads x p (exit parts.Data r ∷ enter_link parts.Data r text_link ∷ events) to
    go true e (inl less) _ =
        absurd
        (omega (arith, line, ended x.bytes p e, line-first x.bytes (next_point x.bytes p) q valid k less first))
    go true e (inr same) _ = read-ending x p r events to small inside e (ap (line_begun x) same ∙ begun) h
    go false e (inl less) rest =
        read-byte x p (exit parts.Data r ∷ enter_link parts.Data r text_link ∷ events) to small inside e (rest e less)
    go false e (inr same) _ =
        absurd (omega (arith, line, (kept x.bytes p e).0, ap (λ (o : Point). o.line) same))
