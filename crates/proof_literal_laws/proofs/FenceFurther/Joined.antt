-- A further line of fenced code or math as a line that is joined to the one in front: its begin, its end, and what is
-- between them.
use Rattle.std.proofs.Common.{◌≡◌, ℕ, zero, suc, Bool, true, false, cond, ◌&&◌, List, [], ◌∷◌, ◌++◌, drop, refl, sym}
use Rattle.std.proofs.Common.{◌∙◌, ap, ap₂, arith}
use Rattle.std.specs.Prelude.{◌==◌, nat_le, nat_lt}
use Rattle.std.proofs.lemmas.Bool.Decides.{nat_tests}
use Rattle.md_engine.specs.declared.configuration.ParseOptions.{ParseOptions}
use Rattle.md_engine.specs.declared.event.Name.TheVariants as n
use Rattle.md_engine.specs.declared.event.Point.{Point}
use Rattle.md_engine.specs.declared.tokenizer.held_leaf.HeldLeaf.{HeldLeaf}
use Rattle.md_meaning.specs.Leaves.{closes}
use Rattle.md_meaning.specs.Rest.{Rest, has_small_indent, lose}
use Rattle.md_leaves.specs.Spanned.{has_lines}
use Rattle.md_leaves.proofs.SpannedLines.{IsEnd, IsFurther}
use Rattle.md_literal.specs.Fence.{block_name, chunk_name, held_indent, held_marker, held_size, is_open as is_fence}
use Rattle.md_leaves.specs.Further.{further_link}
use Rattle.md_events.specs.Events.Nested.{enter_link, exit, pair}
use Rattle.md_events.specs.Events.Spelled.{role}
use Rattle.proof_frame.specs.RestLine.{rest_line}
use Rattle.proof_literal_laws.specs.Leaf.FenceFurther.{chunk_line, closing_line, fence_further, further_parts}
use Rattle.proof_literal_laws.specs.Leaf.FenceFurther.{opening_of}
use Rattle.proof_frame.specs.LineColumns.{part_over, past_columns}
use Rattle.proof_literal_laws.proofs.FenceFurther.Cells.{fence-some}
use Rattle.proof_literal_laws.proofs.Fence.Each.{by-math}
use Rattle.proof_frame.proofs.IndentRemoved.Columns.{rest-again}
use Rattle.proof_frame.proofs.IndentRemoved.Places.{FurtherAt, further-rest}

-- The line, where it is.
pub further-is : (options : ParseOptions) (bytes : List ℕ) (on : HeldLeaf) (r : Rest) (p q : Point) →
    FurtherAt bytes r p q →
    fence_further.added options on (rest_line r) p ≡
    (enter_link (block_name (held_marker on)) p further_link
    ∷ further_parts options on r p q ++ exit (block_name (held_marker on)) q ∷ [])
further-is options bytes on r p q is =
    let name = block_name (held_marker on) in
    ap₂
    (λ (s : Rest) (x : Point).
    enter_link name p further_link ∷ further_parts options on s p x ++ exit name x ∷ [])
    (rest-again bytes (drop q.index bytes) r p (further-rest bytes r p q is)) (sym is.at.end)

-- its begin is that of a further line, and its end the end of one
pub block-lines : (m : ℕ) → has_lines (role (block_name m)) ≡ true
block-lines m = by-math (λ name. has_lines (role name) ≡ true) (m == 36) _ _ refl refl

pub further-begins : (m : ℕ) (p : Point) → IsFurther (enter_link (block_name m) p further_link)
further-begins m p = record { kind = refl; lines = block-lines m; link = refl }

pub further-ends : (m : ℕ) (q : Point) → IsEnd (exit (block_name m) q)
further-ends m q = record { kind = refl; lines = block-lines m }

-- Nothing is in an empty line, as after the last ending of a text.

abbrev pub nothing_from : ℕ → Rest
nothing_from column = record { column = column; spaces = 0; bytes = [] }

lose-nothing : (n column : ℕ) → lose n (nothing_from column) ≡ nothing_from column
lose-nothing zero column = refl
lose-nothing (suc n) column = lose-nothing n column

-- no closing fence does
pub nothing-open : (options : ParseOptions) (on : HeldLeaf) (column : ℕ) → is_fence on ≡ true →
    closes options (opening_of on) (nothing_from column) ≡ false
nothing-open options on column e = other (has_small_indent options (nothing_from column))
  where
    few : nat_le (held_size on) 0 ≡ false
    few = let some = fence-some on e in grind (arith, nat_tests)

    other : (small : Bool) → (small && nat_le (held_size on) 0 && true) ≡ false
    other true = ap (λ (x : Bool). x && true) few
    other false = refl

pub further-empty : (options : ParseOptions) (on : HeldLeaf) (column : ℕ) (p q : Point) → is_fence on ≡ true →
    further_parts options on (nothing_from column) p q ≡ []
further-empty options on column p q e =
    ap (λ (x : Bool). cond x (closing_line m r p q) (chunk_line m lost r p q)) (nothing-open options on column e)
    ∙ ap (λ (x : Bool). cond x (pair n.SpaceOrTab p at) [] ++ part_over (chunk_name m) (rest_line (lose lost r)) at q)
    (bare (nat_lt 0 lost))
    ∙ ap (λ (s : Rest). part_over (chunk_name m) (rest_line s) at q) (lose-nothing lost column)
  where
    m : ℕ
    m = held_marker on

    lost : ℕ
    lost = held_indent on

    r : Rest
    r = nothing_from column

    at : Point
    at = past_columns (held_indent on) (nothing_from column) p

    bare : (x : Bool) → (x && false) ≡ false
    bare true = refl
    bare false = refl
