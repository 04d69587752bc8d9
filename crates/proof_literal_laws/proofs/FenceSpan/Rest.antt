-- A further line of fenced code or math as one of its block, with what is known of what is in it.
use Rattle.std.proofs.Common.{◌≡◌, ℕ, Bool, true, false, List, [], ◌∷◌, drop, refl, sym, ap, ◌∙◌}
use Rattle.std.proofs.lemmas.Bool.{true≢false}
use Rattle.md_engine.specs.declared.configuration.ParseOptions.{ParseOptions}
use Rattle.md_engine.specs.declared.event.Event.{Event}
use Rattle.md_engine.specs.declared.tokenizer.held_leaf.HeldLeaf.{HeldLeaf}
use Rattle.md_meaning.specs.State.{Opening}
use Rattle.md_literal.specs.Fence.{block_name, is_open as is_fence}
use Rattle.md_outline.specs.LinesAllowed.{Site}
use Rattle.md_events.specs.Events.Grammar.{Expression}
use Rattle.md_events.specs.Events.Spelled.{OpenLeaf}
use Rattle.proof_frame.specs.RestLine.{rest_line}
use Rattle.proof_literal_laws.specs.Leaf.FenceFurther.{fence_further, further_parts}
use Rattle.proof_frame.specs.Row.{Row, is_empty_row}
use Rattle.proof_literal_laws.proofs.FenceFurther.Definition.{held_of}
use Rattle.proof_literal_laws.proofs.FenceFurther.Inside.{further-stretch}
use Rattle.proof_literal_laws.proofs.FenceFurther.Joined.{further-is}
use Rattle.proof_literal_laws.proofs.FenceFurther.Parts.{further-others}
use Rattle.proof_frame.proofs.IndentRemoved.Places.{FurtherAt, further-at, further-rest}
use Rattle.proof_frame.proofs.IndentRemoved.Shown.{left-clear}
use Rattle.proof_literal_laws.proofs.FenceSpan.Further.{bare-same, same-bare}
use Rattle.proof_frame.proofs.PrefixFacts.{is_bare}
use Rattle.proof_frame.proofs.LeafLines.Inside.{InsideFacts}
use Rattle.proof_frame.proofs.SpanLaws.{IsLineOf}
use Rattle.proof_frame.proofs.LeafLines.Rest.{FurtherLine}

-- A line, where the block is open, with what is known of what is in it.
pub further-line : (options : ParseOptions) (bytes : List ℕ) (o : Opening) (x left : Expression) (from leaf : OpenLeaf)
    (start site : Site) (row : Row) → (is : IsLineOf options bytes fence_further row) → row.on ≡ held_of o →
    is_fence (held_of o) ≡ true →
    InsideFacts bytes row.first row.end x left from leaf start site
    (further_parts options (held_of o) is.rest row.first row.end)
    (further_parts options (held_of o) is.rest row.first row.end) →
    FurtherLine bytes (block_name o.marker) x left from leaf start site row
further-line options bytes o x left from leaf start site row is on e facts = record {
  parts = parts;
  is =
      is.inside ∙ ap (λ (h : HeldLeaf). fence_further.added options h (rest_line is.rest) row.first) on
      ∙ further-is options bytes (held_of o) is.rest row.first row.end at;
  whole = is.at.end_whole;
  clear =
      left-clear bytes (drop row.end.index bytes) is.rest row.first (further-rest bytes is.rest row.first row.end at);
  others = further-others options (held_of o) is.rest row.first row.end;
  balanced = (further-stretch options bytes (held_of o) is.rest row.first row.end e at).nested.0;
  bare = bare;
  empty = is.empty;
  facts = facts;
}
  where
    parts : List Event
    parts = further_parts options (held_of o) is.rest row.first row.end

    at : FurtherAt bytes is.rest row.first row.end
    at = further-at options bytes fence_further row is

    bare : is_bare parts ≡ is_empty_row row
    bare = go (is_empty_row row) refl parts refl
      where
        go : (same : Bool) → is_empty_row row ≡ same → (es : List Event) → parts ≡ es →
            is_bare parts ≡ is_empty_row row
        go true k es h =
            ap is_bare (same-bare options bytes (held_of o) is.rest row.first row.end e at k).none ∙ sym k
        go false k [] h =
            absurd (true≢false (sym (bare-same options bytes (held_of o) is.rest row.first row.end e at h) ∙ k))
        go false k (f ∷ es) h = ap is_bare h ∙ sym k
