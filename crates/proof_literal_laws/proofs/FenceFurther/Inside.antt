-- What is known of what is in a further line of fenced code or math, from the point where it begins to its end.
use Rattle.std.proofs.Common.{◌≡◌, ℕ, ◌<◌, Bool, true, false, cond, ◌&&◌, ◌||◌, List, ◌++◌, length, drop, take, refl}
use Rattle.std.proofs.Common.{◌∙◌, ap, arith, subst, append_assoc, ◌-◌}
use Rattle.std.specs.Prelude.{◌==◌, nat_le, IsTrue}
use Rattle.std.specs.List.{list_all}
use Rattle.std.proofs.lemmas.Bool.{and_from, eqb-true, or_left, or_right}
use Rattle.std.proofs.lemmas.Bool.Decides.{nat_tests}
use Rattle.md_engine.specs.declared.configuration.ParseOptions.{ParseOptions}
use Rattle.md_engine.specs.declared.event.Name.TheVariants as n
use Rattle.md_engine.specs.declared.event.Point.{Point}
use Rattle.md_engine.specs.declared.tokenizer.held_leaf.HeldLeaf.{HeldLeaf}
use Rattle.md_meaning.specs.Leaves.{closes, least_size}
use Rattle.md_meaning.specs.Rest.{Rest, indent, lose, run_len, trim_start}
use Rattle.md_meaning.proofs.TextsLemmas.{NoEnding}
use Rattle.md_literal.specs.Fence.{chunk_name, fence_name, held_indent, held_marker, may_begin, sequence_name}
use Rattle.md_events.specs.Events.Pieces.{begins_in_tab, may_cover}
use Rattle.md_events.specs.Events.Places.{at_or_before, past_text}
use Rattle.md_events.proofs.FeedLines.{drop-past}
use Rattle.md_events.proofs.InlineLemmas.{past-index, past_text-append}
use Rattle.proof_frame.specs.RestLine.{rest_line}
use Rattle.proof_literal_laws.specs.Leaf.FenceFurther.{chunk_line, closing_line, closing_part, further_parts}
use Rattle.proof_literal_laws.specs.Leaf.FenceFurther.{opening_of}
use Rattle.md_literal.specs.Fence.{is_open as is_fence}
use Rattle.proof_frame.specs.LineColumns.{past_columns}
use Rattle.proof_frame.proofs.IndentRemoved.Placed.{columns-stretch, lost-stretch, over-onward, over-stretch}
use Rattle.proof_frame.proofs.IndentRemoved.Places.{FurtherAt, has-left}
use Rattle.proof_literal_laws.proofs.FenceFurther.Places.{HasClosing, has-closing}
use Rattle.proof_literal_laws.proofs.FenceFurther.Trial.{fence-marker, fence-size}
use Rattle.proof_literal_laws.proofs.Fence.Each.{by-math}
use Rattle.proof_frame.proofs.PieceFacts.{Over, begins-cut, begins-whole, over-front, over-valid}
use Rattle.md_engine.specs.declared.event.Event.{Event}
use Rattle.md_outline.specs.Between.{is_between}
use Rattle.proof_frame.proofs.BetweenFacts.{all-more, between-following, is_low, low-at, white-between}
use Rattle.md_containers.specs.ItemsAllowed.{IsPart}
use Rattle.proof_frame.proofs.Stretch.{IsGroup, IsPiece, Stretch, stretch-append, stretch-around, stretch-pair}
use Rattle.proof_frame.proofs.Stretch.{white-piece}
use Rattle.proof_frame.proofs.ChunkFacts.{in-line}

-- What is left of a line.

chunk-over : (m : ℕ) (line : List ℕ) → NoEnding line → may_cover (chunk_name m) line ≡ true
chunk-over m line h =
    by-math (λ name. may_cover name line ≡ true) (m == 36) _ _ (in-line line h) (in-line line h)

chunk-begins : (m : ℕ) → begins_in_tab (chunk_name m) ≡ true
chunk-begins m = by-math (λ name. begins_in_tab name ≡ true) (m == 36) _ _ refl refl

chunk-stretch : (bytes : List ℕ) (m lost : ℕ) (r : Rest) (p q : Point) → FurtherAt bytes r p q →
    Stretch IsPart bytes p q (chunk_line m lost r p q) (chunk_line m lost r p q)
chunk-stretch bytes m lost r p q is =
    lost-stretch IsPart bytes (chunk_name m) lost r p q tt
    (by-math (IsPiece IsPart bytes) (m == 36) _ _
    (record { role_is = tt; no_part = refl; parted = λ x y ys h. h })
    (record { role_is = tt; no_part = refl; parted = λ x y ys h. h }))
    (chunk-begins m) (chunk-over m (rest_line (lose lost r))) is

-- A closing fence.

-- enough of its marker is a sequence
sequence-over : (m : ℕ) (ys : List ℕ) → may_begin m ≡ true → nat_le (least_size m) (length ys) ≡ true →
    list_all (λ b. b == m) ys ≡ true → may_cover (sequence_name m) ys ≡ true
sequence-over m ys may some all = go (m == 36) refl (m == 96) refl (m == 126) refl may some
  where
    same : (c : ℕ) → (m == c) ≡ true → list_all (λ b. b == c) ys ≡ true
    same c e = subst (λ (x : ℕ). list_all (λ b. b == x) ys ≡ true) (eqb-true m c e) all

    go : (x : Bool) → (m == 36) ≡ x → (y : Bool) → (m == 96) ≡ y → (z : Bool) → (m == 126) ≡ z →
        ((m == 96) || (m == 126) || (m == 36)) ≡ true → nat_le (cond x 2 3) (length ys) ≡ true →
        may_cover (cond x n.MathFlowFenceSequence n.CodeFencedFenceSequence) ys ≡ true
    go true e y f z g may some = and_from (nat_le 2 (length ys)) (list_all (λ b. b == 36) ys) some (same 36 e)
    go false e true f z g may some =
        or_left (nat_le 3 (length ys) && list_all (λ b. b == 96) ys) _
        (and_from (nat_le 3 (length ys)) (list_all (λ b. b == 96) ys) some (same 96 f))
    go false e false f true g may some =
        or_right _ (nat_le 3 (length ys) && list_all (λ b. b == 126) ys)
        (and_from (nat_le 3 (length ys)) (list_all (λ b. b == 126) ys) some (same 126 g))
    go false e false f false g may some =
        let bad : false ≡ true = rw (f, g, e) at may in absurd (cc)

least-some : (m : ℕ) (ys : List ℕ) → nat_le (least_size m) (length ys) ≡ true → 0 < length ys
least-some m ys e = by (m == 36) e
  where
    by : (x : Bool) → nat_le (cond x 2 3) (length ys) ≡ true → 0 < length ys
    by true f = grind (arith, nat_tests)
    by false f = grind (arith, nat_tests)

-- the sequence, and where it ends
abbrev pub sequence_of : HeldLeaf → List ℕ → List ℕ
sequence_of on text = take (run_len (held_marker on) text) text

abbrev pub sequence_to : HeldLeaf → List ℕ → Point → Point
sequence_to on text at = past_text (sequence_of on text) at

pub record HasSequence (bytes : List ℕ) (on : HeldLeaf) (text : List ℕ) (at q : Point) : Type 0 where
  pub over : Over bytes at (sequence_to on text at) (sequence_of on text)
  pub onward : IsTrue (at_or_before at (sequence_to on text at))
  pub is : may_cover (sequence_name (held_marker on)) (sequence_of on text) ≡ true
  pub left : drop (sequence_to on text at).index bytes ≡ drop (run_len (held_marker on) text) text ++ drop q.index bytes
  pub ends : q ≡ past_text (drop (run_len (held_marker on) text) text) (sequence_to on text at)

pub has-sequence : (bytes : List ℕ) (on : HeldLeaf) (r : Rest) (p q : Point) → is_fence on ≡ true →
    HasClosing bytes on r p q → HasSequence bytes on (trim_start r.bytes) (past_columns (indent r) r p) q
has-sequence bytes on r p q e closing =
    let m = held_marker on in
    let text = trim_start r.bytes in
    let at = past_columns (indent r) r p in
    let seq = take (run_len m text) text in
    let left = drop (run_len m text) text in
    let following = drop q.index bytes in
    let end = past_text seq at in
    let least = fence-size on e in
    let more = closing.least in
    let size = closing.size in
    let enough : nat_le (least_size m) (length seq) ≡ true = grind (arith, nat_tests) in
    let some = least-some m seq enough in
    let valid : drop at.index bytes ≡ seq ++ (left ++ following) =
    closing.text ∙ ap (λ (l : List ℕ). l ++ following) closing.cut ∙ append_assoc seq left following in
    record {
      over = over-front bytes at end seq (left ++ following) valid some refl;
      onward = over-onward seq at end some refl;
      is = sequence-over m seq (fence-marker on e) enough closing.all;
      left = ap (λ (i : ℕ). drop i bytes) (past-index seq at) ∙ drop-past bytes at.index seq (left ++ following) valid;
      ends = closing.ends ∙ ap (λ (l : List ℕ). past_text l at) closing.cut ∙ past_text-append seq left at;
    }

-- where the sequence of a closing fence ends
abbrev pub sequence_end : HeldLeaf → Rest → Point → Point
sequence_end on r p =
    let text = trim_start r.bytes in past_text (take (run_len (held_marker on) text) text) (past_columns (indent r) r p)

-- after which is a place between characters
marker-low : (m b : ℕ) → may_begin m ≡ true → (b == m) ≡ true → is_low b ≡ true
marker-low m b may e = grind (arith, nat_tests)

sequence-between : (bytes : List ℕ) (on : HeldLeaf) (r : Rest) (p q : Point) → is_fence on ≡ true →
    HasClosing bytes on r p q → is_between bytes (sequence_end on r p).index ≡ true
sequence-between bytes on r p q e closing =
    let m = held_marker on in
    let text = trim_start r.bytes in
    let at = past_columns (indent r) r p in
    let seq = take (run_len m text) text in
    let end = past_text seq at in
    let over = (has-sequence bytes on r p q e closing).over in
    let size = past-index seq at in
    let some = over.some in
    let low : list_all is_low seq ≡ true =
    all-more (λ (b : ℕ). b == m) is_low seq (λ b k. marker-low m b (fence-marker on e) k) closing.all in
    between-following bytes end.index
    (low-at bytes seq at.index end.index (end.index - 1) over.slice size low (omega (arith, some))
    (omega (arith, some)))

closing-stretch : (bytes : List ℕ) (on : HeldLeaf) (r : Rest) (p q : Point) → is_fence on ≡ true →
    HasClosing bytes on r p q →
    let at = past_columns (indent r) r p in
    Stretch IsPart bytes at q (closing_part (held_marker on) (trim_start r.bytes) at q)
    (closing_part (held_marker on) (trim_start r.bytes) at q)
closing-stretch bytes on r p q e closing =
    let m = held_marker on in
    let text = trim_start r.bytes in
    let at = past_columns (indent r) r p in
    let seq = take (run_len m text) text in
    let left = drop (run_len m text) text in
    let end = past_text seq at in
    let sequence = has-sequence bytes on r p q e closing in
    stretch-around (fence_name m)
    (by-math (IsGroup IsPart) (m == 36) _ _ (record { role_is = tt; no_part = refl; still = tt })
    (record { role_is = tt; no_part = refl; still = tt })) refl refl
    (stretch-append
    (stretch-pair IsPart bytes (sequence_name m) at end
    (by-math (IsPiece IsPart bytes) (m == 36) _ _
    (record { role_is = tt; no_part = refl; parted = λ x y ys h. h })
    (record { role_is = tt; no_part = refl; parted = λ x y ys h. h })) sequence.onward
    (over-valid bytes (sequence_name m) at end seq sequence.over (begins-whole (sequence_name m) at closing.whole)
    sequence.is))
    (over-stretch IsPart bytes n.SpaceOrTab left (drop q.index bytes) end q (white-piece IsPart bytes tt) sequence.left
    sequence.ends (begins-cut n.SpaceOrTab end refl) closing.blank)
    (λ first last. sequence-between bytes on r p q e closing))

-- The whole line.
pub further-stretch : (options : ParseOptions) (bytes : List ℕ) (on : HeldLeaf) (r : Rest) (p q : Point) →
    is_fence on ≡ true → FurtherAt bytes r p q →
    Stretch IsPart bytes p q (further_parts options on r p q) (further_parts options on r p q)
further-stretch options bytes on r p q e is = go (closes options (opening_of on) r) refl
  where
    parts : Bool → List Event
    parts x = cond x (closing_line (held_marker on) r p q) (chunk_line (held_marker on) (held_indent on) r p q)

    go : (x : Bool) → closes options (opening_of on) r ≡ x → Stretch IsPart bytes p q (parts x) (parts x)
    go true f =
        let left = has-left bytes (indent r) r p q is in
        stretch-append (columns-stretch IsPart bytes (indent r) r p q tt left)
        (closing-stretch bytes on r p q e (has-closing options bytes on r p q is f))
        (λ first last.
        white-between bytes p.index (past_columns (indent r) r p).index left.white.blank left.white.index first)
    go false f = chunk-stretch bytes (held_marker on) (held_indent on) r p q is
