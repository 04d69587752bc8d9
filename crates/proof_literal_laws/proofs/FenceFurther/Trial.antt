-- What a further line of fenced code or math becomes: it is always taken, where such a block is open.
use Rattle.std.proofs.Common.{◌≡◌, ◌≤◌, ◌+◌, ℕ, Bool, true, false, cond, List, [], ◌∷◌, ◌++◌, length, arith, refl, ◌∙◌}
use Rattle.std.proofs.Common.{ap, ap₂, sym, Some}
use Rattle.std.specs.Prelude.{◌==◌, ◌&&◌, nat_le, nat_lt}
use Rattle.std.proofs.lemmas.Bool.{and_parts}
use Rattle.md_engine.specs.declared.configuration.ParseOptions.{ParseOptions}
use Rattle.md_engine.specs.declared.event.Point.{Point}
use Rattle.md_engine.specs.declared.tokenizer.held_leaf.HeldLeaf.{HeldLeaf}
use Rattle.md_engine.specs.declared.tokenizer.held_leaf.HeldLeaf.TheVariants as held_leaf
use Rattle.md_engine.specs.Meaning.{Accepts, Cell, Fails, Here, Outcome, Refuses}
use Rattle.md_meaning.specs.Leaves.{closes, least_size}
use Rattle.md_meaning.specs.Rest.{Rest}
use Rattle.md_literal.specs.Fence.{held_indent, held_marker, held_size, may_begin, is_open as is_fence}
use Rattle.md_literal.specs.FenceLine.{closes_here, further_events}
use Rattle.md_leaves.specs.CellRuns.{after_white_of, is_end, is_line, run_rest, run_size}
use Rattle.md_literal.specs.FenceRule.{before_chunk, before_close, close_at, close_end, closed_or_content, content_at}
use Rattle.md_literal.specs.FenceRule.{further_at, in_chunk, in_close}
use Rattle.md_literal.proofs.FenceCells.{line-all, line-done, run-length}
use Rattle.md_literal.proofs.FenceFurther.{further-end}
use Rattle.md_literal.proofs.FenceWhole.{further-whole}
use Rattle.md_events.specs.Ahead.{begins_white, from_ending, line_end, white_rest}
use Rattle.md_events.specs.Look.{seen_after}
use Rattle.md_events.specs.Spaces.{IsRest, small_indent}
use Rattle.md_events.proofs.RestCells.{white-length}
use Rattle.proof_frame.specs.HeldLeaf.{takes_lazy}
use Rattle.proof_literal_laws.specs.Leaf.FenceFurther.{fence_further, opening_of}
use Rattle.proof_frame.proofs.FromEnding.{from_ending-again}
use Rattle.proof_frame.proofs.LeafLaws.{Shrinks, cond-shrinks, left_open, whole_line}

-- What is held of the block: a marker of such a block, and some of it.
pub fence-marker : (on : HeldLeaf) → is_fence on ≡ true → may_begin (held_marker on) ≡ true
fence-marker on e = (and_parts (may_begin (held_marker on)) (nat_le (least_size (held_marker on)) (held_size on)) e).0

pub fence-size : (on : HeldLeaf) → is_fence on ≡ true → nat_le (least_size (held_marker on)) (held_size on) ≡ true
fence-size on e = (and_parts (may_begin (held_marker on)) (nat_le (least_size (held_marker on)) (held_size on)) e).1

-- Any byte may be first.
pub further-looked : (options : ParseOptions) (on : HeldLeaf) (cells : List Cell) (b : ℕ) → seen_after cells ≡ Some b →
    fence_further.may_begin on (begins_white cells) b ≡ false → fence_further.takes options on cells ≡ false
further-looked options on cells b seen e = cc

-- The line is taken to its end.
pub further-took : (options : ParseOptions) (cells : List Cell) (h : Here) → IsRest h.scratch →
    fence_further.takes options h.flags.leaf cells ≡ true →
    fence_further.trial options cells h ≡
    whole_line (fence_further.adds options h.flags.leaf cells h.point)
    (left_open fence_further.ends (fence_further.keeps options h.flags.leaf cells h.point) h.flags.leaf) false cells h
further-took options cells h is e =
    let leaf = h.flags.leaf in
    let end = further-end options leaf cells h.point (fence-marker leaf e) in
    further-whole options cells h is
    ∙ ap₂
    (λ (x : Point) (rest : List Cell).
    Accepts
    (record h {
      events = h.events ++ further_events options leaf cells h.point;
      point = x;
      flags = record h.flags { leaf = cond (closes_here options leaf cells) held_leaf.None leaf };
    })
    rest) end.0 end.1
    ∙ ap
    (λ (x : Bool).
    Accepts
    (record h {
      events = h.events ++ further_events options leaf cells h.point;
      point = line_end cells h.point;
      flags = record h.flags {
        leaf = cond x (cond (closes_here options leaf cells) held_leaf.None leaf) held_leaf.None;
      };
    })
    (from_ending cells)) (sym e)

-- Where such a block is open no line is refused; where none is, this is not asked.
pub further-refused : (options : ParseOptions) (cells : List Cell) (h : Here) → is_fence h.flags.leaf ≡ true →
    IsRest h.scratch → fence_further.takes options h.flags.leaf cells ≡ false →
    fence_further.trial options cells h ≡ Refuses h.scratch h.flags
further-refused options cells h on is e = let bad : true ≡ false = sym on ∙ e in absurd (cc)

-- What is left of a line.

white-shrinks : (n room : ℕ) (following : List Cell → Here → Outcome) (cells : List Cell) (h : Here) →
    length cells ≤ n →
    ((cells : List Cell) (h : Here) → length cells ≤ n → Shrinks n (following cells h)) →
    Shrinks n (after_white_of room following cells h)
white-shrinks n room following cells h le shrinks =
    cond-shrinks n (begins_white cells) _ _
    (let less = white-length room cells in shrinks (white_rest room cells) _ (omega (arith, le, less)))
    (shrinks cells h le)

end-shrinks : (n : ℕ) (cells : List Cell) (h : Here) → length cells ≤ n → Shrinks n (close_end cells h)
unfolding close_end
end-shrinks n cells h le = go (is_end cells) refl
  where
    go : (x : Bool) → is_end cells ≡ x → Shrinks n (close_end cells h)
    go true e = rw e (le, (line-done cells h.point e).1)
    go false e = rw e tt

in-shrinks : (n : ℕ) (cells : List Cell) (h : Here) → length cells ≤ n → Shrinks n (in_close cells h)
unfolding in_close
in-shrinks n cells h le =
    let m = h.scratch.marker in
    let less = run-length (λ b. b == m) cells in
    cond-shrinks n (nat_lt (h.scratch.size + run_size (λ b. b == m) cells) (held_size h.flags.leaf)) _ _ tt
    (white-shrinks n _ close_end (run_rest (λ b. b == m) cells) _ (omega (arith, le, less)) (end-shrinks n))

before-shrinks : (n : ℕ) (cells : List Cell) (h : Here) → length cells ≤ n → Shrinks n (before_close cells h)
unfolding before_close
before-shrinks n [] h le = tt
before-shrinks n (c ∷ cs) h le =
    cond-shrinks n (c.byte == h.scratch.marker) _ _ (in-shrinks n (c ∷ cs) _ le) tt

close-shrinks : (n : ℕ) (options : ParseOptions) (cells : List Cell) (h : Here) → length cells ≤ n →
    Shrinks n (close_at options cells h)
unfolding close_at
close-shrinks n options cells h le =
    white-shrinks n (small_indent options) before_close cells h le (before-shrinks n)

chunk-shrinks : (n : ℕ) (cells : List Cell) (h : Here) → length cells ≤ n → Shrinks n (in_chunk cells h)
unfolding in_chunk
chunk-shrinks n cells h le =
    let less = run-length is_line cells in
    let all = (line-all cells h.point).1 in
    (omega (arith, le, less), ap from_ending all ∙ from_ending-again cells ∙ sym all)

line-shrinks : (n : ℕ) (cells : List Cell) (h : Here) → length cells ≤ n → Shrinks n (before_chunk cells h)
unfolding before_chunk
line-shrinks n cells h le = go (is_end cells) refl
  where
    go : (x : Bool) → is_end cells ≡ x → Shrinks n (before_chunk cells h)
    go true e = rw e (le, (line-done cells h.point e).1)
    go false e = rw e (chunk-shrinks n cells _ le)

content-shrinks : (n : ℕ) (cells : List Cell) (h : Here) → length cells ≤ n → Shrinks n (content_at cells h)
unfolding content_at
content-shrinks n cells h le =
    cond-shrinks n (nat_lt 0 (held_indent h.flags.leaf) && begins_white cells) _ _
    (let less = white-length (held_indent h.flags.leaf) cells in
    line-shrinks n (white_rest (held_indent h.flags.leaf) cells) _ (omega (arith, le, less)))
    (line-shrinks n cells h le)

or-shrinks : (n : ℕ) (o : Outcome) (cells : List Cell) (h : Here) → length cells ≤ n → Shrinks n o →
    Shrinks n (closed_or_content o cells h)
or-shrinks n (Accepts k rest) cells h le shrinks = shrinks
or-shrinks n (Refuses s g) cells h le shrinks = content-shrinks n cells _ le
or-shrinks n Fails cells h le shrinks = absurd shrinks

pub further-shrinks : (options : ParseOptions) (cells : List Cell) (h : Here) →
    Shrinks (length cells) (fence_further.trial options cells h)
unfolding further_at
further-shrinks options cells h =
    or-shrinks (length cells) (close_at options cells _) cells _ (omega arith)
    (close-shrinks (length cells) options cells _ (omega arith))

-- What is held after it takes no lazy line.

lazy-none : (on : HeldLeaf) → is_fence on ≡ true → takes_lazy on ≡ false
lazy-none held_leaf.None e = refl
lazy-none (held_leaf.Text at) e = absurd (cc)
lazy-none (held_leaf.LazyText at) e = absurd (cc)
lazy-none held_leaf.Code e = refl
lazy-none (held_leaf.Fence m size indent) e = refl
lazy-none (held_leaf.Html kind) e = refl
lazy-none held_leaf.Table e = refl

not-lazy : (on : HeldLeaf) (x y : Bool) → is_fence on ≡ x →
    takes_lazy (cond x (cond y held_leaf.None on) held_leaf.None) ≡ false
not-lazy on true true e = refl
not-lazy on true false e = lazy-none on e
not-lazy on false y e = refl

pub further-not_lazy : (options : ParseOptions) (on : HeldLeaf) →
    ((cells : List Cell) (p : Point) → takes_lazy (fence_further.keeps options on cells p) ≡ false)
    × ((r : Rest) → takes_lazy (fence_further.holds options on r) ≡ false)
further-not_lazy options on = (
  λ cells p. not-lazy on (is_fence on) (closes_here options on cells) refl,
  λ r. not-lazy on (is_fence on) (closes options (opening_of on) r) refl,
)

-- It does not always end the block.
pub further-shut : fence_further.ends ≡ true → (options : ParseOptions) (on : HeldLeaf) →
    ((cells : List Cell) (p : Point) → fence_further.keeps options on cells p ≡ held_leaf.None)
    × ((r : Rest) → fence_further.holds options on r ≡ held_leaf.None)
further-shut e options on = absurd (cc)
