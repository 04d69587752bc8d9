-- The laws of fenced code and math with all their lines, joined.
use Rattle.std.proofs.Common.{◌≡◌, ℕ, Bool, true, false, cond, not, List, [], ◌∷◌, drop, refl, sym, ◌∙◌, inl, subst}
use Rattle.std.proofs.Common.{append_assoc}
use Rattle.std.specs.Prelude.{Some}
use Rattle.md_engine.specs.declared.configuration.ParseOptions.{ParseOptions}
use Rattle.md_engine.specs.declared.event.Event.{Event}
use Rattle.md_engine.specs.declared.event.Name.{Name}
use Rattle.md_engine.specs.declared.event.Name.TheVariants as n
use Rattle.md_engine.specs.declared.event.Point.{Point}
use Rattle.md_containers.specs.ItemsAllowed.{IsPart}
use Rattle.md_meaning.specs.Leaves.{Opened}
use Rattle.md_meaning.specs.Rest.{Rest, is_white}
use Rattle.md_meaning.specs.State.{OpenFence, Opening}
use Rattle.md_meaning.specs.Texts.{first_byte}
use Rattle.md_leaves.specs.Spanned.{has_lines}
use Rattle.md_leaves.proofs.SpannedLines.{IsBegin, IsFurther, NoLines}
use Rattle.md_literal.specs.Fence.{block_name, held_marker}
use Rattle.md_leaves.specs.Further.{further_link}
use Rattle.md_outline.specs.LinesAllowed.{AtEnding, begun_site}
use Rattle.md_events.specs.Events.Grammar.{Expression, plain_text}
use Rattle.md_events.specs.Events.Nested.{enter, enter_link, exit, pair}
use Rattle.md_events.specs.Events.Spelled.{OpenLeaf, LeafRole, Role, block_of, fresh, role}
use Rattle.md_events.proofs.EndingsLemmas.{AreOthers}
use Rattle.md_events.proofs.SpelledLemmas.{Roles}
use Rattle.proof_frame.specs.RestLine.{rest_line}
use Rattle.proof_literal_laws.specs.Leaf.Fence.{fence_leaf, linked, opening_at, past_white, read_inner, white_part}
use Rattle.proof_literal_laws.specs.Leaf.FenceFurther.{fence_further, further_parts}
use Rattle.proof_frame.specs.Row.{Row, last_row, span_by}
use Rattle.proof_literal_laws.proofs.Fence.Kept as kept
use Rattle.proof_literal_laws.proofs.FenceFurther.Grammar.{following-line-ends, following_line}
use Rattle.proof_literal_laws.proofs.FenceFurther.Joined.{block-lines, further-begins, further-ends, further-is}
use Rattle.proof_literal_laws.proofs.FenceFurther.Parts.{further-lines}
use Rattle.proof_frame.proofs.IndentRemoved.Places.{further-at}
use Rattle.proof_literal_laws.proofs.FenceSpan.First.{first-others, first_inside, marks_of}
use Rattle.proof_literal_laws.proofs.FenceSpan.Open.{fence-begin, fence-lined, fence-name, kind_of, leaf_of}
use Rattle.proof_literal_laws.proofs.FenceSpan.Opening.{begin-is, done-is, line-ends, line-fence, line-full, line-held}
use Rattle.proof_literal_laws.proofs.FenceSpan.Opening.{line-inside, line-laid, line-lead, line-marks, name_of}
use Rattle.proof_literal_laws.proofs.FenceSpan.Opening.{opening-same, opening_of, text_of, unread-is}
use Rattle.proof_frame.proofs.LeafLines.Rest.{HasRest, row_done, row_unread}
use Rattle.proof_frame.proofs.LeafLines.Whole.{rest-facts}
use Rattle.proof_literal_laws.proofs.FenceSpan.Walk.{rest-open}
use Rattle.proof_literal_laws.proofs.LeafRead.{facts-read}
use Rattle.proof_frame.proofs.LeafFacts.{LeafFacts}
use Rattle.proof_frame.proofs.LeafLines.Framed.{framed_by}
use Rattle.proof_frame.proofs.LeafLines.Inside.{InsideFacts}
use Rattle.proof_frame.proofs.LeafLines.Leaf.{IsLeafName}
use Rattle.proof_frame.proofs.LeafLines.Lines.{SpanFirst}
use Rattle.proof_frame.proofs.SpanLaws.{AreAfter, IsLineOf, IsNone, IsSpanned, SpanLaws, becomes_after}
use Rattle.proof_frame.proofs.SpannedFacts.{AreUnspanned}

-- Each line by itself.

-- parts of a leaf are of no line
part-lines : (x : Role) → IsPart x → has_lines x ≡ false
part-lines (LeafRole kind) h = absurd h
part-lines _ h = refl

parts-lines : (es : List Event) → Roles IsPart es → NoLines es
parts-lines [] h = tt
parts-lines (e ∷ es) h = (part-lines (role e.name) h.0, parts-lines es h.1)

-- the whitespace before it
white-unspanned : (line : List ℕ) (p : Point) → AreUnspanned (white_part line p)
white-unspanned [] p = tt
white-unspanned (b ∷ line) p = go (is_white b)
  where
    go : (x : Bool) → AreUnspanned (cond x (pair n.SpaceOrTab p (past_white (b ∷ line) p)) [])
    go true = (refl, (refl, tt))
    go false = tt

first-spanned : (options : ParseOptions) (bytes : List ℕ) (row : Row) → IsLineOf options bytes fence_leaf row →
    IsSpanned AreUnspanned IsBegin row.inside
first-spanned options bytes row is =
    let line = rest_line is.rest in
    let m = first_byte (text_of is.rest) in
    let at = past_white line row.first in
    record {
      lead = white_part line row.first;
      begin = enter (block_name m) at;
      inside = first_inside linked line row.first row.end;
      end = exit (block_name m) row.end;
      is =
          unread-is options bytes row is
          ∙ sym
          (append_assoc (white_part line row.first)
          (enter (block_name m) at ∷ first_inside linked line row.first row.end)
          (exit (block_name m) row.end ∷ []));
      lead_plain = white-unspanned line row.first;
      begins = record { kind = refl; lines = block-lines m; link = refl };
      inside_plain =
          parts-lines (first_inside linked line row.first row.end)
          (kept.inside-parts linked kept.linked-parts m (text_of is.rest) at row.end);
      ends = further-ends m row.end;
    }

further-spanned : (options : ParseOptions) (bytes : List ℕ) (row : Row) → IsLineOf options bytes fence_further row →
    IsSpanned IsNone IsFurther row.inside
further-spanned options bytes row is =
    let m = held_marker row.on in record {
      lead = [];
      begin = enter_link (block_name m) row.first further_link;
      inside = further_parts options row.on is.rest row.first row.end;
      end = exit (block_name m) row.end;
      is =
          is.inside
          ∙ further-is options bytes row.on is.rest row.first row.end (further-at options bytes fence_further row is);
      lead_plain = refl;
      begins = further-begins m row.first;
      inside_plain = further-lines options row.on is.rest row.first row.end;
      ends = further-ends m row.end;
    }

-- All lines.

-- what follows the first
rest-of : (options : ParseOptions) (bytes : List ℕ) (row : Row) (rows : List Row) →
    (is : IsLineOf options bytes fence_leaf row) → (are : AreAfter options bytes fence_further row rows) →
    HasRest bytes (name_of is.rest) (following_line plain_text (first_byte (text_of is.rest)))
    (leaf_of (opening_of is.rest) (marks_of (text_of is.rest)) [] false)
    (AtEnding (kind_of (first_byte (text_of is.rest)))) row rows
    (becomes_after options bytes fence_further row rows are (Opened (OpenFence (opening_at is.rest) [])))
rest-of options bytes row rows is are =
    subst
    (λ (o : Opening).
    HasRest bytes (name_of is.rest) (following_line plain_text m) leaf (AtEnding (kind_of m)) row rows
    (becomes_after options bytes fence_further row rows are (Opened (OpenFence o [])))) (sym (opening-same is.rest))
    (rest-open options bytes (opening_of is.rest) (marks_of (text_of is.rest)) row rows
    (line-marks options bytes row is) (line-fence options bytes row is) [] (following_line plain_text m) true
    (following-line-ends plain_text m) refl (line-held options bytes row is) are)
  where
    m : ℕ
    m = first_byte (text_of is.rest)

    leaf : OpenLeaf
    leaf = leaf_of (opening_of is.rest) (marks_of (text_of is.rest)) [] false

-- The facts.

span-of : (options : ParseOptions) (bytes : List ℕ) (row : Row) (rows : List Row) →
    (is : IsLineOf options bytes fence_leaf row) → (are : AreAfter options bytes fence_further row rows) →
    LeafFacts bytes (Some (block_of (rest-of options bytes row rows is are).to)) (not (last_row row rows).empty)
    row.first (last_row row rows).end (span_by row_unread row rows) (framed_by (row_done bytes) row rows)
span-of options bytes row rows is are =
    rest-facts bytes (name_of is.rest) (kind_of m) row rows
    (becomes_after options bytes fence_further row rows are (Opened (OpenFence (opening_at is.rest) []))) named
    (fence-lined m) first
    (rest-of options bytes row rows is are) others.0 others.1 (line-full options bytes row is)
  where
    r : Rest
    r = is.rest

    m : ℕ
    m = first_byte (text_of is.rest)

    name : Name
    name = name_of is.rest

    at : Point
    at = past_white (rest_line is.rest) row.first

    us : List Event
    us = first_inside linked (rest_line is.rest) row.first row.end

    es : List Event
    es = first_inside (read_inner bytes) (rest_line is.rest) row.first row.end

    leaf : OpenLeaf
    leaf = leaf_of (opening_of is.rest) (marks_of (text_of is.rest)) [] false

    named : IsLeafName name (kind_of m)
    named = fence-name m

    first :
        SpanFirst bytes row_unread (row_done bytes) name named.begin (fresh (kind_of m)) (begun_site (kind_of m)) row
    first = record {
      ends = line-ends options bytes row is;
      lead = white_part (rest_line is.rest) row.first;
      at = at;
      lead_is = line-lead options bytes row is;
      unread_inside = us;
      inside = es;
      unread_is =
          begin-is name at row.end (white_part (rest_line is.rest) row.first) row.inside us
          (unread-is options bytes row is);
      is =
          begin-is name at row.end (white_part (rest_line is.rest) row.first) (row_done bytes row) es
          (done-is options bytes row is);
      unread_starts = refl;
      starts = refl;
      left = following_line plain_text m;
      leaf = leaf;
      site = AtEnding (kind_of m);
      facts =
          subst
          (λ (x : Expression).
          InsideFacts bytes at row.end x (following_line plain_text m) (fresh (kind_of m)) leaf (begun_site (kind_of m))
          (AtEnding (kind_of m)) us es) (sym (fence-begin m)) (line-inside options bytes row is);
    }

    others : AreOthers us × AreOthers es
    others =
        first-others options bytes (rest_line is.rest) (drop row.end.index bytes) row.first row.end
        (line-laid options bytes row is)

-- The laws.
pub fence-span : SpanLaws fence_leaf fence_further
fence-span = record {
  first_spanned = λ options bytes row is first. first-spanned options bytes row is;
  further_spanned = λ options bytes row is further. inl (further-spanned options bytes row is);
  block = λ options bytes row rows is are. block_of (rest-of options bytes row rows is are).to;
  facts = λ options bytes row rows is first are. facts-read (span-of options bytes row rows is are);
  shuts = λ options bytes row rows is first are bs.
      (rest-of options bytes row rows is are).shuts options bs;
}
