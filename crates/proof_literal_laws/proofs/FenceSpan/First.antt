-- The opening line of fenced code or math as the first line of its block: what is known of what is in it after its
-- begin.
use Rattle.std.proofs.Common.{◌≡◌, ℕ, Bool, true, false, cond, List, [], ◌∷◌, length, take, drop, refl, ap, ◌∙◌}
use Rattle.std.proofs.Common.{◌||◌, not, suc, arith}
use Rattle.std.specs.Prelude.{◌==◌, Option, Some, None}
use Rattle.std.proofs.lemmas.Bool.Decides.{nat_tests}
use Rattle.md_engine.specs.declared.configuration.ParseOptions.{ParseOptions}
use Rattle.md_engine.specs.declared.event.Event.{Event}
use Rattle.md_engine.specs.declared.event.Name.{Name}
use Rattle.md_engine.specs.declared.event.Name.TheVariants as n
use Rattle.md_engine.specs.declared.event.Point.{Point}
use Rattle.md_meaning.specs.Leaves.{after_word, first_word, nonempty, opening}
use Rattle.md_meaning.specs.Rest.{run_len, trim_start}
use Rattle.md_meaning.specs.State.{Opening}
use Rattle.md_meaning.specs.Texts.{first_byte}
use Rattle.md_literal.specs.Fence.{fence_name, sequence_name, block_name}
use Rattle.md_events.specs.Events.Grammar.{Expression, plain_text, unread_text}
use Rattle.md_events.specs.Events.Nested.{around}
use Rattle.md_events.specs.Events.Pieces.{may_cover}
use Rattle.md_events.specs.Events.Places.{past_text}
use Rattle.md_events.specs.Events.Spelled.{OpenLeaf, Reading, fresh, read, role}
use Rattle.md_events.proofs.EndingsLemmas.{AreOthers, stays-others}
use Rattle.md_events.proofs.GrammarLemmas.{Leads, leads-around}
use Rattle.md_outline.specs.LinesAllowed.{AtEnding, begun_site}
use Rattle.md_outline.specs.Roles.{is_recorded, is_unlisted}
use Rattle.proof_literal_laws.specs.Leaf.Fence.{Inner, fence_parts, linked, past_white, read_inner}
use Rattle.proof_literal_laws.proofs.Fence.Each.{by-math}
use Rattle.proof_frame.proofs.OtherNames as other_names
use Rattle.proof_literal_laws.proofs.Fence.Laid.{Laid}
use Rattle.proof_literal_laws.proofs.Fence.Reads as reading
use Rattle.proof_literal_laws.proofs.Fence.Walk.{sequence-over}
use Rattle.proof_literal_laws.proofs.Fence.Words.{Word, fence-word, linked-word, read-word}
use Rattle.proof_literal_laws.proofs.FenceFurther.Grammar.{following_line}
use Rattle.proof_literal_laws.proofs.FenceSpan.Open.{AreMarks, begin_of, kind_of, leaf_by, leaf_of}
use Rattle.proof_literal_laws.proofs.FenceSpan.OutlineSites.{first-passes}
use Rattle.proof_frame.proofs.FillFacts.{PartsRead, fill-append, fill-around}
use Rattle.proof_frame.proofs.PartedFacts.{Still, clear}
use Rattle.proof_frame.proofs.PlainFacts.{known-around}
use Rattle.proof_frame.proofs.LeafLines.Inside.{InsideFacts}
use Rattle.md_containers.specs.ItemsAllowed.{IsPart}
use Rattle.proof_frame.proofs.Stretch.{stretch-around}
use Rattle.proof_literal_laws.specs.Leaf.Fence.{fence_line, white_part}
use Rattle.proof_literal_laws.proofs.Fence.Facts.{FenceInside, fence-inside}
use Rattle.proof_literal_laws.proofs.FenceSpan.White.{white-lead}
use Rattle.md_events.specs.Events.Tiles.{part_kind}

-- What a fence opens, by what follows its whitespace.
abbrev pub opened_by : ℕ → List ℕ → Opening
opened_by columns text =
    let m = first_byte text in
    let size = run_len m text in
    opening m size columns (trim_start (drop size text))

-- its markers
abbrev pub marks_of : List ℕ → List ℕ
marks_of text = take (run_len (first_byte text) text) text

pub marks-are : (options : ParseOptions) (bytes line rest : List ℕ) (p : Point) (columns : ℕ) →
    Laid options bytes line p rest → AreMarks (opened_by columns (trim_start line)) (marks_of (trim_start line))
marks-are options bytes line rest p columns is =
    go (marks_of text) (sequence-over options text is.fence) (reading.take-first (run_len (first_byte text) text) text)
  where
    text : List ℕ
    text = trim_start line

    positive : (k : ℕ) → (suc k == 0) ≡ false
    positive k = grind (arith, nat_tests)

    go : (ys : List ℕ) → may_cover (sequence_name (first_byte text)) ys ≡ true →
        reading.FirstIs ys (first_byte text) → AreMarks (opened_by columns text) ys
    go [] over first = absurd (reading.sequence-some (first_byte text) over)
    go (c ∷ cs) over first = record { some = positive (length cs); first = first }

-- as it is read
leaf-same : (columns : ℕ) (text : List ℕ) →
    reading.leaf_by (first_byte text == 36) (marks_of text) (trim_start (drop (run_len (first_byte text) text) text)) ≡
    leaf_of (opened_by columns text) (marks_of text) [] false
leaf-same columns text = go (first_byte text == 36)
  where
    xs : List ℕ
    xs = trim_start (drop (run_len (first_byte text) text) text)

    go : (x : Bool) →
        reading.leaf_by x (marks_of text) xs ≡
        leaf_by x (record { markers = marks_of text; lines = []; closed = false })
        (cond x None (nonempty (first_word xs))) (nonempty (cond x xs (after_word xs)))
    go true = refl
    go false = refl

-- What follows its begin.
abbrev pub first_inside : Inner → List ℕ → Point → Point → List Event
first_inside inner line p e =
    let text = trim_start line in
    let m = first_byte text in
    let q = past_white line p in
    around (fence_name m) q e (fence_parts inner m text q)

first-leads : (text : Expression) (inner : Inner) → Word text inner → (line : List ℕ) (p e : Point) →
    let m = first_byte (trim_start line) in
    Leads text (begin_of m ∷ []) (following_line plain_text m ∷ []) (first_inside inner line p e)
first-leads text inner word line p e =
    let xs = trim_start line in
    let m = first_byte xs in
    let q = past_white line p in
    let size = run_len m xs in
    leads-around text (begin_of m) (fence_name m) q e (fence_parts inner m xs q)
    (fence-word text inner word (m == 36) (drop size xs) q (past_text (take size xs) q))

fence-kind : (m : ℕ) → part_kind (fence_name m) ≡ None
fence-kind m = by-math (λ x. part_kind x ≡ None) (m == 36) n.MathFlowFence n.CodeFencedFence refl refl

fence-known : (m : ℕ) → is_unlisted (role (fence_name m)) ≡ true
fence-known m =
    by-math (λ x. is_unlisted (role x) ≡ true) (m == 36) n.MathFlowFence n.CodeFencedFence refl refl

fence-untold : (m : ℕ) → is_recorded (role (fence_name m)) ≡ false
fence-untold m = by-math (λ x. is_recorded (role x) ≡ false) (m == 36) n.MathFlowFence n.CodeFencedFence refl refl

pub first-facts : (options : ParseOptions) (bytes line rest : List ℕ) (p : Point) (columns : ℕ) →
    Laid options bytes line p rest →
    let text = trim_start line in
    let m = first_byte text in
    let e = past_text line p in
    InsideFacts bytes (past_white line p) e (begin_of m) (following_line plain_text m) (fresh (kind_of m))
    (leaf_of (opened_by columns text) (marks_of text) [] false) (begun_site (kind_of m)) (AtEnding (kind_of m))
    (first_inside linked line p e) (first_inside (read_inner bytes) line p e)
first-facts options bytes line rest p columns is = record {
  parts = record {
    stretch =
        stretch-around name
        (record {
          role_is = by-math (λ x. IsPart (role x)) (m == 36) n.MathFlowFence n.CodeFencedFence tt tt;
          no_part = fence-kind m;
          still = by-math (λ x. Still (role x)) (m == 36) n.MathFlowFence n.CodeFencedFence tt tt;
        }) refl refl
        h.stretch;
    unread_word = first-leads unread_text linked linked-word line p e;
    word = first-leads plain_text (read_inner bytes) (read-word bytes) line p e;
    unread_stays =
        stays-others (around name q e unread) (other_names.others-around name q e unread other h.unread_others);
    stays = stays-others (around name q e done) (other_names.others-around name q e done other h.others);
    reads = λ s none at.
        ap (λ (o : Option OpenLeaf). read bytes (record s { leaf = o }) (around name q e done)) at
        ∙ reading.fence-opened options bytes line rest p e s is none
        ∙ ap (λ (l : OpenLeaf). let x : Reading = record s { leaf = Some l } in x) (leaf-same columns text);
  };
  plain = λ first. record {
    known = known-around bytes name q e done (fence-known m) (untold q) (untold e) (h.known first);
    lines = first-passes options bytes line rest p e is;
  };
}
  where
    text : List ℕ
    text = trim_start line

    m : ℕ
    m = first_byte (trim_start line)

    q : Point
    q = past_white line p

    e : Point
    e = past_text line p

    name : Name
    name = fence_name (first_byte (trim_start line))

    unread : List Event
    unread = fence_parts linked (first_byte (trim_start line)) (trim_start line) (past_white line p)

    done : List Event
    done = fence_parts (read_inner bytes) (first_byte (trim_start line)) (trim_start line) (past_white line p)

    other : other_names.Other (fence_name (first_byte (trim_start line)))
    other =
        by-math other_names.Other (first_byte (trim_start line) == 36) n.MathFlowFence n.CodeFencedFence refl refl

    h : FenceInside bytes q e unread done
    h = fence-inside options bytes line rest p is

    untold : (x : Point) → (not (is_recorded (role (fence_name (first_byte (trim_start line)))))
        || clear bytes x) ≡ true
    untold x = ap (λ (b : Bool). not b || clear bytes x) (fence-untold (first_byte (trim_start line)))

-- No ending is there, and no begin or end of a leaf.
pub first-others : (options : ParseOptions) (bytes line rest : List ℕ) (p e : Point) → Laid options bytes line p rest →
    AreOthers (first_inside linked line p e) × AreOthers (first_inside (read_inner bytes) line p e)
first-others options bytes line rest p e is =
    let m = first_byte (trim_start line) in
    let q = past_white line p in
    let h = fence-inside options bytes line rest p is in
    let other : other_names.Other (fence_name m) =
    by-math other_names.Other (m == 36) n.MathFlowFence n.CodeFencedFence refl refl in (
      other_names.others-around (fence_name m) q e (fence_parts linked m (trim_start line) q) other h.unread_others,
      other_names.others-around (fence_name m) q e (fence_parts (read_inner bytes) m (trim_start line) q)
          other h.others,
    )

-- What is read of all of the line fills its texts.
pub fence-filled : (options : ParseOptions) (bytes line rest : List ℕ) (p : Point) → Laid options bytes line p rest →
    PartsRead bytes (fence_line linked line p) (fence_line (read_inner bytes) line p)
fence-filled options bytes line rest p is =
    let m = first_byte (trim_start line) in
    let q = past_white line p in
    let e = past_text line p in
    let us = fence_parts linked m (trim_start line) q in
    let es = fence_parts (read_inner bytes) m (trim_start line) q in
    let block : part_kind (block_name m) ≡ None =
    by-math (λ x. part_kind x ≡ None) (m == 36) n.MathFlow n.CodeFenced refl refl in
    fill-append bytes (white_part line p) (white_part line p)
    (around (block_name m) q e (around (fence_name m) q e us))
    (around (block_name m) q e (around (fence_name m) q e es))
    (white-lead bytes line rest p is.valid is.cut).stretch.filled
    (fill-around bytes (block_name m) q e (around (fence_name m) q e us) (around (fence_name m) q e es) block
    (fill-around bytes (fence_name m) q e us es (fence-kind m)
    (fence-inside options bytes line rest p is).stretch.filled))
