-- The trial of a fence takes a line to its end, or refuses it.
use Rattle.std.proofs.Common.{◌≡◌, ℕ, ◌+◌, ◌-◌, ◌≤◌, nat_lt, Bool, true, false, cond, ◌&&◌, List, [], ◌∷◌, ◌++◌, Option}
use Rattle.std.proofs.Common.{Some, None, length, ◌⊎◌, inl, inr, refl, sym, ◌∙◌, ap, arith}
use Rattle.std.specs.Prelude.{◌==◌}
use Rattle.std.specs.Option.{is_some}
use Rattle.std.proofs.lemmas.Bool.Decides.{nat_tests}
use Rattle.md_engine.specs.declared.configuration.ParseOptions.{ParseOptions}
use Rattle.md_engine.specs.declared.event.Name.TheVariants as part
use Rattle.md_engine.specs.declared.event.Point.{Point}
use Rattle.md_engine.specs.declared.tokenizer.held_leaf.HeldLeaf.{HeldLeaf}
use Rattle.md_engine.specs.declared.tokenizer.held_leaf.HeldLeaf.TheVariants as held_leaf
use Rattle.md_engine.specs.Meaning.{Cell, Here, Outcome, Refuses}
use Rattle.md_meaning.specs.Leaves.{is_fence_marker, least_size}
use Rattle.md_meaning.specs.Rest.{is_white}
use Rattle.md_literal.specs.Fence.{is_on, is_refused, may_begin, meta_name, sequence_name}
use Rattle.md_literal.specs.FenceLine.{fence_begins, fence_by, fence_opened, is_opening, marker_at}
use Rattle.md_leaves.specs.CellRuns.{after_white_of, is_end, is_line, is_word, run_end, run_has, run_rest, run_size}
use Rattle.md_literal.specs.FenceRule.{after_sequence, before_info, before_meta, before_sequence, fence_at, in_info}
use Rattle.md_literal.specs.FenceRule.{in_meta, in_sequence, opens, part_begun, part_ended, refuses}
use Rattle.md_literal.proofs.FenceCells.{line-all, line-done, run-length}
use Rattle.md_literal.proofs.FenceOpened.{fence-whole}
use Rattle.md_literal.proofs.FenceOpens.{marker-no}
use Rattle.md_literal.proofs.FenceRefused.{fence-refused}
use Rattle.md_events.specs.Ahead.{begins_white, from_ending, white_end, white_rest}
use Rattle.md_events.specs.Events.Nested.{exit}
use Rattle.md_events.specs.Look.{first_seen, seen_after}
use Rattle.md_events.specs.Spaces.{IsRest, any_size, small_indent}
use Rattle.md_events.proofs.LookLemmas.{rest-begins}
use Rattle.md_events.proofs.RestCells.{white-length}
use Rattle.proof_literal_laws.specs.Leaf.Fence.{fence_keeps, fence_leaf, is_fence, is_fence_of, or_none}
use Rattle.proof_frame.proofs.FromEnding.{from_ending-again}
use Rattle.proof_frame.proofs.LeafLaws.{Shrinks, cond-shrinks, whole_line}

-- A line where what begins no fence is first after whitespace holds none.

white-begins : (c : ℕ) → is_white c ≡ true → may_begin c ≡ false
white-begins c e = grind (arith, nat_tests)

pub fence-looked : (options : ParseOptions) (cells : List Cell) (b : ℕ) → seen_after cells ≡ Some b →
    may_begin b ≡ false → is_fence options cells ≡ false
fence-looked options cells b seen e =
    ap (λ (x : Bool). is_on options && x) (ends rest first.0 first.1 (no first.0 first.2)) ∙ over (is_on options)
  where
    rest : List Cell
    rest = white_rest (small_indent options) cells

    first : (c : ℕ) × (first_seen (white_rest (small_indent options) cells) ≡ Some c) × ((is_white c ≡ true) ⊎ (c ≡ b))
    first = rest-begins (small_indent options) cells b seen

    no : (c : ℕ) → (is_white c ≡ true) ⊎ (c ≡ b) → may_begin c ≡ false
    no c (inl white) = white-begins c white
    no c (inr same) = rw same e

    ends : (cells : List Cell) (c : ℕ) → first_seen cells ≡ Some c → may_begin c ≡ false →
        is_fence_of (marker_at options cells) cells ≡ false
    ends [] c f k = refl
    ends (d ∷ ds) c f k =
        let same : d.byte ≡ c = cc in
        ap (λ (x : Bool). is_fence_of (cond x (Some d.byte) None) (d ∷ ds)) (marker-no options d.byte (rw same k))

    over : (x : Bool) → x && false ≡ false
    over true = refl
    over false = refl

-- A line takes a fence where it says what is held of it.

opened-some : (options : ParseOptions) (cells : List Cell) (p : Point) (o : Option ℕ) →
    is_some (fence_opened options cells p o) ≡ is_fence_of o (white_rest (small_indent options) cells)
opened-some options cells p None = refl
opened-some options cells p (Some m) = go (is_opening m (white_rest (small_indent options) cells))
  where
    leaf : HeldLeaf
    leaf =
        let rest = white_rest (small_indent options) cells in
        held_leaf.Fence m (run_size (λ b. b == m) rest) ((white_end (small_indent options) cells p).column - p.column)

    go : (x : Bool) → is_some (cond x (Some leaf) None) ≡ x
    go true = refl
    go false = refl

pub begins-some : (options : ParseOptions) (cells : List Cell) (p : Point) →
    is_some (fence_begins options cells p) ≡ is_fence options cells
begins-some options cells p = go (is_on options)
  where
    rest : List Cell
    rest = white_rest (small_indent options) cells

    go : (x : Bool) →
        is_some (cond x (fence_opened options cells p (marker_at options rest)) None) ≡
        (x && is_fence_of (marker_at options rest) rest)
    go true = opened-some options cells p (marker_at options rest)
    go false = refl

some-is : (o : Option HeldLeaf) → is_some o ≡ true → o ≡ Some (or_none o)
some-is None e = absurd (cc)
some-is (Some leaf) e = refl

none-is : (o : Option HeldLeaf) → is_some o ≡ false → o ≡ None
none-is None e = refl
none-is (Some leaf) e = absurd (cc)

pub begins-keeps : (options : ParseOptions) (cells : List Cell) (p : Point) → is_fence options cells ≡ true →
    fence_begins options cells p ≡ Some (fence_keeps options cells p)
begins-keeps options cells p e = some-is (fence_begins options cells p) (begins-some options cells p ∙ e)

-- it takes the line to its end, where the line is no longer than whitespace may be
pub fence-took : (options : ParseOptions) (cells : List Cell) (h : Here) → IsRest h.scratch →
    length cells ≤ any_size → is_fence options cells ≡ true →
    fence_at options cells h ≡
    whole_line (fence_leaf.adds options h.flags.leaf cells h.point) (fence_keeps options cells h.point) false cells h
fence-took options cells h is short e =
    fence-whole options cells h is short
    ∙ ap (λ (o : Option HeldLeaf). fence_by options o cells h) (begins-keeps options cells h.point e)

-- any other line is refused
pub trial-refused : (options : ParseOptions) (cells : List Cell) (h : Here) → IsRest h.scratch →
    is_fence options cells ≡ false → fence_at options cells h ≡ Refuses h.scratch h.flags
trial-refused options cells h is e =
    fence-refused options cells h is
    (none-is (fence_begins options cells h.point) (begins-some options cells h.point ∙ e))

-- What is left of a line is no longer than it was, and begins with its ending.

opens-shrinks : (n : ℕ) (cells : List Cell) (h : Here) → length cells ≤ n → is_end cells ≡ true →
    Shrinks n (opens cells h)
opens-shrinks n cells h le e = (le, (line-done cells h.point e).1)

white-shrinks : (n room : ℕ) (following : List Cell → Here → Outcome) (cells : List Cell) (h : Here) →
    length cells ≤ n →
    ((cs : List Cell) (k : Here) → length cs ≤ n → Shrinks n (following cs k)) →
    Shrinks n (after_white_of room following cells h)
white-shrinks n room following cells h le more =
    let less = white-length room cells in
    cond-shrinks n (begins_white cells) _ _ (more (white_rest room cells) _ (omega (arith, le, less))) (more cells h le)

rest-shrinks : (n : ℕ) (cells : List Cell) (h : Here) → length cells ≤ n → Shrinks n (opens (run_rest is_line cells) h)
rest-shrinks n cells h le =
    let less = run-length is_line cells in
    let left = (line-all cells h.point).1 in
    (omega (arith, le, less), ap from_ending left ∙ from_ending-again cells ∙ sym left)

end-shrinks : (n : ℕ) (x : Bool) (a b : Outcome) → (x ≡ true → Shrinks n a) → Shrinks n b → Shrinks n (cond x a b)
end-shrinks n true a b p q = p refl
end-shrinks n false a b p q = q

-- in meta, and before it
in_meta-shrinks : (n : ℕ) (cells : List Cell) (h : Here) → length cells ≤ n → Shrinks n (in_meta cells h)
unfolding in_meta
in_meta-shrinks n cells h le =
    let m = h.scratch.marker in
    cond-shrinks n (run_has (is_refused m) is_line cells) (refuses h)
    (opens (run_rest is_line cells) (part_ended (meta_name m) (run_end is_line cells h.point) h)) tt
    (rest-shrinks n cells (part_ended (meta_name m) (run_end is_line cells h.point) h) le)

meta-shrinks : (n : ℕ) (cells : List Cell) (h : Here) → length cells ≤ n → Shrinks n (before_meta cells h)
unfolding before_meta
meta-shrinks n cells h le =
    let k = part_begun (meta_name h.scratch.marker) h in
    end-shrinks n (is_end cells) (opens cells h) (cond (begins_white cells) (refuses h) (in_meta cells k))
    (opens-shrinks n cells h le)
    (cond-shrinks n (begins_white cells) (refuses h) (in_meta cells k) tt (in_meta-shrinks n cells k le))

-- in info, and before it
in_info-shrinks : (n : ℕ) (cells : List Cell) (h : Here) → length cells ≤ n → Shrinks n (in_info cells h)
unfolding in_info
in_info-shrinks n cells h le =
    let left = run_rest is_word cells in
    let k = part_ended part.CodeFencedFenceInfo (run_end is_word cells h.point) h in
    cond-shrinks n (run_has (is_refused h.scratch.marker) is_word cells) (refuses h)
    (after_white_of any_size before_meta left k) tt
    (white-shrinks n any_size before_meta left k (let less = run-length is_word cells in omega (arith, le, less))
    (meta-shrinks n))

info-shrinks : (n : ℕ) (cells : List Cell) (h : Here) → length cells ≤ n → Shrinks n (before_info cells h)
unfolding before_info
info-shrinks n cells h le =
    let k = part_begun part.CodeFencedFenceInfo h in
    end-shrinks n (is_end cells) (opens cells h) (cond (begins_white cells) (refuses h) (in_info cells k))
    (opens-shrinks n cells h le)
    (cond-shrinks n (begins_white cells) (refuses h) (in_info cells k) tt (in_info-shrinks n cells k le))

sequence-shrinks : (n : ℕ) (cells : List Cell) (h : Here) → length cells ≤ n → Shrinks n (in_sequence cells h)
unfolding in_sequence
sequence-shrinks n cells h le =
    let m = h.scratch.marker in
    let size = h.scratch.size + run_size (λ b. b == m) cells in
    let p = run_end (λ b. b == m) cells h.point in
    let left = run_rest (λ b. b == m) cells in
    let k : Here = record h {
      events = h.events ++ exit (sequence_name m) p ∷ [];
      point = p;
      scratch = record h.scratch { size = size };
    } in
    cond-shrinks n (nat_lt size (least_size m)) (refuses h) (after_white_of any_size (after_sequence m) left k) tt
    (white-shrinks n any_size (after_sequence m) left k
    (let less = run-length (λ b. b == m) cells in omega (arith, le, less))
    (λ cs k few.
    cond-shrinks n (m == 36) (before_meta cs k) (before_info cs k) (meta-shrinks n cs k few) (info-shrinks n cs k few)))

before-shrinks : (options : ParseOptions) (n : ℕ) (cells : List Cell) (h : Here) → length cells ≤ n →
    Shrinks n (before_sequence options cells h)
unfolding before_sequence
before-shrinks options n [] h le = tt
before-shrinks options n (c ∷ cs) h le =
    cond-shrinks n (is_fence_marker options c.byte) _ _ (sequence-shrinks n (c ∷ cs) _ le) tt

pub trial-shrinks : (options : ParseOptions) (cells : List Cell) (h : Here) →
    Shrinks (length cells) (fence_at options cells h)
unfolding fence_at
trial-shrinks options cells h =
    cond-shrinks (length cells) (is_on options) _ _
    (white-shrinks (length cells) (small_indent options) (before_sequence options) cells _ (omega arith)
    (before-shrinks options (length cells)))
    tt
