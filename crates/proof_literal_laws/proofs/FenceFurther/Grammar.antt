-- A further line of fenced code or math in the grammar of its block, and among the endings of lines.
use Rattle.std.proofs.Common.{◌≡◌, ℕ, Bool, true, false, cond, List, [], ◌∷◌, ◌++◌, drop, take, refl, subst}
use Rattle.std.specs.Prelude.{◌==◌}
use Rattle.md_engine.specs.declared.configuration.ParseOptions.{ParseOptions}
use Rattle.md_engine.specs.declared.event.Name.TheVariants as n
use Rattle.md_engine.specs.declared.event.Point.{Point}
use Rattle.md_engine.specs.declared.tokenizer.held_leaf.HeldLeaf.{HeldLeaf}
use Rattle.md_meaning.specs.Leaves.{closes}
use Rattle.md_meaning.specs.Rest.{Rest, indent, lose, run_len, trim_start}
use Rattle.md_literal.specs.Fence.{block_name, chunk_name, fence_name, held_indent, held_marker, sequence_name}
use Rattle.md_events.specs.Events.Grammar.{Expression, Nothing, following, inside, may_end}
use Rattle.md_events.specs.Events.Nested.{pair}
use Rattle.md_events.specs.Events.Places.{past_text}
use Rattle.md_events.proofs.EndingsLemmas.{Stays, stays-others}
use Rattle.md_events.proofs.GrammarLemmas.{IsWord, Leads, leads-append, leads-around}
use Rattle.proof_frame.specs.RestLine.{rest_line}
use Rattle.proof_literal_laws.specs.Leaf.FenceFurther.{chunk_line, closing_line, closing_part, further_parts}
use Rattle.proof_literal_laws.specs.Leaf.FenceFurther.{opening_of}
use Rattle.proof_frame.specs.LineColumns.{columns_part, part_over, past_columns}
use Rattle.proof_frame.proofs.ContainerNames.{TakesPrefixes}
use Rattle.proof_literal_laws.proofs.FenceFurther.Parts.{further-others}
use Rattle.proof_literal_laws.proofs.IndentRemoved.Grammar.{columns-lead, left_over, lost-leads}

-- What is left of a block.

-- after its opening fence, and after a line with something in it
abbrev pub following_line : Expression → ℕ → Expression
following_line text m = following (fence_name m) (inside text (block_name m))

-- where a further line begins
abbrev pub in_line : Expression → ℕ → Expression
in_line text m = following n.LineEnding (following_line text m)

-- what holds of math and of code holds of each marker
pub by-marker : (P : Bool → Type 0) (m : ℕ) → P true → P false → P (m == 36)
by-marker P m math code = go (m == 36)
  where
    go : (x : Bool) → P x
    go true = math
    go false = code

-- the same by whether it is math
abbrev begun_by : Expression → Bool → Expression
begun_by text x =
    following n.LineEnding
    (following (cond x n.MathFlowFence n.CodeFencedFence) (inside text (cond x n.MathFlow n.CodeFenced)))

-- An ending begins a further line, also after an empty one; prefixes of containers and whitespace leave it,
pub ending-line : (text : Expression) (m : ℕ) → following n.LineEnding (in_line text m) ≡ in_line text m
ending-line text m =
    by-marker (λ x. following n.LineEnding (begun_by text x) ≡ begun_by text x) m refl refl

pub white-line : (text : Expression) (m : ℕ) → following n.SpaceOrTab (in_line text m) ≡ in_line text m
white-line text m =
    by-marker (λ x. following n.SpaceOrTab (begun_by text x) ≡ begun_by text x) m refl refl

pub takes-line : (text : Expression) (m : ℕ) → TakesPrefixes (in_line text m)
takes-line text m = by-marker (λ x. TakesPrefixes (begun_by text x)) m (refl, refl) (refl, refl)

-- and the block may end in it, and after it.
pub in-line-ends : (text : Expression) (m : ℕ) → may_end (in_line text m) ≡ true
in-line-ends text m = by-marker (λ x. may_end (begun_by text x) ≡ true) m refl refl

pub following-line-ends : (text : Expression) (m : ℕ) → may_end (following_line text m) ≡ true
following-line-ends text m =
    by-marker
    (λ x.
    may_end (following (cond x n.MathFlowFence n.CodeFencedFence) (inside text (cond x n.MathFlow n.CodeFenced))) ≡
    true)
    m refl refl

chunk-following : (text : Expression) (m : ℕ) → following (chunk_name m) (in_line text m) ≡ following_line text m
chunk-following text m =
    by-marker
    (λ x.
    following (cond x n.MathFlowChunk n.CodeFlowChunk) (begun_by text x) ≡
    following (cond x n.MathFlowFence n.CodeFencedFence) (inside text (cond x n.MathFlow n.CodeFenced))) m refl refl

fence-following : (text : Expression) (m : ℕ) → following (fence_name m) (in_line text m) ≡ Nothing
fence-following text m =
    by-marker (λ x. following (cond x n.MathFlowFence n.CodeFencedFence) (begun_by text x) ≡ Nothing) m refl refl

chunk-empty : (text : Expression) (m : ℕ) → may_end (inside text (chunk_name m)) ≡ true
chunk-empty text m = by-marker (λ x. may_end (inside text (cond x n.MathFlowChunk n.CodeFlowChunk)) ≡ true) m refl refl

-- What a further line leaves.

-- after what it has: a line with something in it, or an empty one; nothing after a closing fence
abbrev pub left_by : Expression → ℕ → List ℕ → Expression
left_by text m line = left_over (in_line text m) (following_line text m) line

abbrev pub further_left : Expression → ParseOptions → HeldLeaf → Rest → Expression
further_left text options on r =
    cond (closes options (opening_of on) r) Nothing
    (left_by text (held_marker on) (rest_line (lose (held_indent on) r)))

sequence-word : (text : Expression) (m : ℕ) (left : List ℕ) (p end q : Point) →
    IsWord text (inside text (fence_name m) ∷ []) (pair (sequence_name m) p end ++ part_over n.SpaceOrTab left end q)
sequence-word text m left p end q =
    by-marker
    (λ x.
    IsWord text (inside text (cond x n.MathFlowFence n.CodeFencedFence) ∷ [])
    (pair (cond x n.MathFlowFenceSequence n.CodeFencedFenceSequence) p end ++ part_over n.SpaceOrTab left end q)) m
    (math left) (code left)
  where
    math : (left : List ℕ) →
        IsWord text (inside text n.MathFlowFence ∷ [])
        (pair n.MathFlowFenceSequence p end ++ part_over n.SpaceOrTab left end q)
    math [] = record {
      left = following n.MathFlowFenceSequence (inside text n.MathFlowFence);
      leads = λ outer. refl;
      ends = refl;
    }
    math (b ∷ bs) = record {
      left = following n.SpaceOrTab (following n.MathFlowFenceSequence (inside text n.MathFlowFence));
      leads = λ outer. refl;
      ends = refl;
    }

    code : (left : List ℕ) →
        IsWord text (inside text n.CodeFencedFence ∷ [])
        (pair n.CodeFencedFenceSequence p end ++ part_over n.SpaceOrTab left end q)
    code [] = record {
      left = following n.CodeFencedFenceSequence (inside text n.CodeFencedFence);
      leads = λ outer. refl;
      ends = refl;
    }
    code (b ∷ bs) = record {
      left = following n.SpaceOrTab (following n.CodeFencedFenceSequence (inside text n.CodeFencedFence));
      leads = λ outer. refl;
      ends = refl;
    }

closing-leads : (text : Expression) (m : ℕ) (bytes : List ℕ) (p q : Point) →
    Leads text (in_line text m ∷ []) (Nothing ∷ []) (closing_part m bytes p q)
closing-leads text m bytes p q =
    let end = past_text (take (run_len m bytes) bytes) p in
    subst (λ (e : Expression). Leads text (in_line text m ∷ []) (e ∷ []) (closing_part m bytes p q))
    (fence-following text m)
    (leads-around text (in_line text m) (fence_name m) p q _
    (sequence-word text m (drop (run_len m bytes) bytes) p end q))

-- A further line keeps the grammar of its block.
pub further-leads : (text : Expression) (options : ParseOptions) (on : HeldLeaf) (r : Rest) (p q : Point) →
    Leads text (in_line text (held_marker on) ∷ []) (further_left text options on r ∷ [])
    (further_parts options on r p q)
further-leads text options on r p q = go (closes options (opening_of on) r)
  where
    go : (x : Bool) →
        Leads text (in_line text (held_marker on) ∷ [])
        (cond x Nothing (left_by text (held_marker on) (rest_line (lose (held_indent on) r))) ∷ [])
        (cond x (closing_line (held_marker on) r p q) (chunk_line (held_marker on) (held_indent on) r p q))
    go true =
        let m = held_marker on in
        let all = indent r in
        leads-append text (in_line text m ∷ []) (in_line text m ∷ []) (Nothing ∷ []) (columns_part all r p)
        (closing_part m (trim_start r.bytes) (past_columns all r p) q)
        (columns-lead text (in_line text m) all r p (white-line text m))
        (closing-leads text m (trim_start r.bytes) (past_columns all r p) q)
    go false =
        let m = held_marker on in
        lost-leads text (in_line text m) (following_line text m) (chunk_name m) (held_indent on) r p q
        (white-line text m)
        (chunk-following text m) (chunk-empty text m)

-- It leads out of no leaf.
pub further-stays : (options : ParseOptions) (on : HeldLeaf) (r : Rest) (p q : Point) →
    Stays (further_parts options on r p q)
further-stays options on r p q = stays-others (further_parts options on r p q) (further-others options on r p q)
