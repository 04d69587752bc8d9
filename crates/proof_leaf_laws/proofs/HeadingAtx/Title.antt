-- What is known of the events that are in a heading: its runs and its text, before it is read and once it is.
use Rattle.std.proofs.Common.{◌≡◌, ℕ, zero, suc, ◌+◌, ◌-◌, ◌<◌, ◌≤◌, true, false, List, [], ◌∷◌, ◌++◌, length, take}
use Rattle.std.proofs.Common.{drop, refl, ap, sym, ◌∙◌, subst, append_assoc, drop-drop, arith}
use Rattle.std.specs.Prelude.{◌==◌, nat_le, slice_index}
use Rattle.std.specs.List.{AllPass}
use Rattle.std.proofs.lemmas.Bool.{and_parts}
use Rattle.std.proofs.lemmas.Bool.Decides.{nat_tests}
use Rattle.std.proofs.lemmas.List.{length-take-le, take-append-drop}
use Rattle.md_engine.specs.declared.event.Event.{Event}
use Rattle.md_engine.specs.declared.event.Name.TheVariants as n
use Rattle.md_engine.specs.declared.event.Point.{Point}
use Rattle.md_containers.specs.ItemsAllowed.{IsPart}
use Rattle.md_leaves.specs.HeadingRule.{is_heading, is_opening}
use Rattle.md_leaves.specs.HeadingRuns.{chunk_unless_empty, heading_link}
use Rattle.md_leaves.specs.HeadingText.{linked_text}
use Rattle.md_leaves.specs.HeadingTitle.{Title, front_len, text_of, title_of, unread_title}
use Rattle.md_leaves.proofs.TitleLemmas.{following-marks, front-marks, is_mark, title-fits, title-text}
use Rattle.md_leaves.proofs.TitleRuns.{pass-first, pass-rest}
use Rattle.md_meaning.specs.Rest.{Rest, run_len, trim_start}
use Rattle.md_meaning.proofs.TextsLemmas.{NoEnding, no_ending-drop}
use Rattle.md_outline.specs.Between.{is_between}
use Rattle.md_events.specs.declared.inline.PartKind.TheVariants.{Text}
use Rattle.md_events.specs.Events.Nested.{around}
use Rattle.md_events.specs.Events.Places.{past_byte, past_text}
use Rattle.md_events.proofs.EndingsLemmas.{AreOthers}
use Rattle.md_events.proofs.FeedLines.{past-next}
use Rattle.md_events.proofs.InlineLemmas.{past-index}
use Rattle.md_events.proofs.PlacesLemmas.{at-next}
use Rattle.proof_frame.proofs.BetweenFacts.{between-before, between-following, is_low}
use Rattle.proof_frame.proofs.ChunkFacts.{starts-tiled}
use Rattle.proof_frame.proofs.LeafFacts.{LineAt}
use Rattle.proof_frame.proofs.LineTexts.{line-valid, no_ending-parts, past-whole}
use Rattle.proof_frame.proofs.LineWalk.{At, past-valid}
use Rattle.proof_frame.proofs.OneText.{chunk-is, stretch-text}
use Rattle.proof_frame.proofs.PieceFacts.{CutsFirst, Starts, starts-append, whole-first}
use Rattle.proof_frame.proofs.Stretch.{Stretch, stretch-append, stretch-none}
use Rattle.proof_leaf_laws.specs.Leaf.HeadingAtx.{read_text, read_title}
use Rattle.proof_leaf_laws.proofs.HeadingAtx.Hashes.{hashes-stretch}
use Rattle.proof_leaf_laws.proofs.HeadingAtx.Places.{back_bytes, line-end-is, text-end-is, text_begin, text_end}

-- The text, if there is one.

empty-not : (b : ℕ) (bs : List ℕ) → (length (b ∷ bs) == 0) ≡ false
empty-not b bs = grind (arith, nat_tests)

text-stretch : (bytes text rest : List ℕ) (p : Point) → At bytes text p rest →
    let chunk = chunk_unless_empty (length text) p (past_text text p) in
    Stretch IsPart bytes p (past_text text p) (linked_text chunk) (read_text bytes chunk)
text-stretch bytes [] rest p at = stretch-none IsPart bytes p
text-stretch bytes (b ∷ bs) rest p at =
    rw (empty-not b bs)
    (stretch-text IsPart bytes n.HeadingAtxText Text heading_link b bs rest p
    (record { role_is = tt; piece = tt; kind_is = refl; parted = λ a e ys h. h }) refl at)

-- once it is read it has no ending
text-others : (bytes text rest : List ℕ) (p : Point) → At bytes text p rest →
    AreOthers (read_text bytes (chunk_unless_empty (length text) p (past_text text p)))
text-others bytes [] rest p at = refl
text-others bytes (b ∷ bs) rest p at =
    rw (empty-not b bs)
    (subst (λ (es : List Event). AreOthers (around n.HeadingAtxText p (past_text (b ∷ bs) p) (es ++ [])))
    (sym (chunk-is bytes b bs rest p at)) refl)

-- Places between characters, beside spaces, tabs and `#`.

mark-low : (b : ℕ) → is_mark b ≡ true → is_low b ≡ true
mark-low b h = grind (arith, nat_tests)

-- after such bytes
between-past_marks : (bytes xs rest : List ℕ) (p : Point) → drop p.index bytes ≡ xs ++ rest → AllPass is_mark xs →
    is_between bytes p.index ≡ true → is_between bytes (past_text xs p).index ≡ true
between-past_marks bytes [] rest p text marks h = h
between-past_marks bytes (b ∷ xs) rest p text marks h =
    let same : p.index + 1 - 1 ≡ p.index = omega arith in
    between-past_marks bytes xs rest (past_byte b p) (past-next p.index bytes b (xs ++ rest) text)
    (pass-rest is_mark b xs marks)
    (between-following bytes (p.index + 1)
    (subst (λ (c : ℕ). is_low c ≡ true)
    (sym (ap (slice_index bytes) same ∙ at-next p.index bytes b (xs ++ rest) text))
    (mark-low b (pass-first is_mark b xs marks))))

-- and before them
between-at_marks : (bytes xs rest : List ℕ) (p : Point) → drop p.index bytes ≡ xs ++ rest → AllPass is_mark xs →
    is_between bytes (past_text xs p).index ≡ true → is_between bytes p.index ≡ true
between-at_marks bytes [] rest p text marks h = h
between-at_marks bytes (b ∷ xs) rest p text marks h =
    between-before bytes p.index
    (subst (λ (c : ℕ). is_low c ≡ true) (sym (at-next p.index bytes b (xs ++ rest) text))
    (mark-low b (pass-first is_mark b xs marks)))

-- What is in a heading.
pub record TitleFacts (bytes line : List ℕ) (p : Point) : Type 0 where
  pub unread_starts : Starts (unread_title (title_of line p))
  pub starts : Starts (read_title bytes (title_of line p))
  pub stretch :
      Stretch IsPart bytes p (past_text line p) (unread_title (title_of line p)) (read_title bytes (title_of line p))
  -- no ending is in its text
  pub others : AreOthers (read_text bytes (title_of line p).text)

-- a tab that is cut before a line is cut before its first bytes
cuts-take : (p : Point) (k : ℕ) (line : List ℕ) → CutsFirst p line → CutsFirst p (take k line)
cuts-take p zero line h = tt
cuts-take p (suc k) [] h = tt
cuts-take p (suc k) (b ∷ line) h = h

-- a heading has an opening sequence
front-some : (line : List ℕ) → is_heading (trim_start line) ≡ true → 0 < front_len line
front-some line h =
    let least : nat_le 1 (run_len 35 (trim_start line)) ≡
    true = (and_parts (nat_le 1 (run_len 35 (trim_start line))) (is_opening 0 (trim_start line)) h).0 in
    let some : 1 ≤ run_len 35 (trim_start line) = grind (arith, nat_tests, least) in
    omega (arith, some)

pub title-facts : (bytes : List ℕ) (r : Rest) (line : List ℕ) (p q : Point) → LineAt bytes r line p q →
    is_heading (trim_start line) ≡ true → TitleFacts bytes line p
title-facts bytes r line p q is heading = record {
  unread_starts =
      starts-append (title.front ++ linked_text title.text) title.back
      (starts-append title.front (linked_text title.text) starts);
  starts =
      starts-append (title.front ++ read_text bytes title.text) title.back
      (starts-append title.front (read_text bytes title.text) starts);
  stretch =
      stretch-append
      (stretch-append front_runs
      (subst
      (λ (e : Point).
      Stretch IsPart bytes begin e (linked_text (chunk_unless_empty size begin e))
      (read_text bytes (chunk_unless_empty size begin e))) (sym end-is)
      (text-stretch bytes text (back ++ left) begin at))
      (λ first last. between-past_marks bytes front (drop (front_len line) line ++ left) p front-parts
      (front-marks line) first))
      (subst (λ (e : Point). Stretch IsPart bytes end e title.back title.back) (sym (line-end-is line p))
      (hashes-stretch bytes back left end (following-marks line) back-parts (whole-first end back end-whole)))
      (λ first last. between-at_marks bytes back left end back-parts (following-marks line)
      (subst (λ (e : Point). is_between bytes e.index ≡ true) (line-end-is line p) last));
  others =
      subst (λ (e : Point). AreOthers (read_text bytes (chunk_unless_empty size begin e))) (sym end-is)
      (text-others bytes text (back ++ left) begin at);
}
  where
    title : Title
    title = title_of line p

    text : List ℕ
    text = text_of line

    size : ℕ
    size = length (text_of line)

    front : List ℕ
    front = take (front_len line) line

    back : List ℕ
    back = back_bytes line

    begin : Point
    begin = text_begin line p

    end : Point
    end = text_end line p

    left : List ℕ
    left = drop q.index bytes

    some : 0 < length front
    some =
        let fits = title-fits line in
        let long = length-take-le (front_len line) line (omega (arith, fits)) in
        let begins = front-some line heading in
        omega (arith, long, begins)

    -- the text and what follows it
    following : drop (front_len line) line ≡ text ++ back
    following =
        sym (take-append-drop size (drop (front_len line) line))
        ∙ ap (λ (l : List ℕ). take size (drop (front_len line) line) ++ l) (drop-drop size (front_len line) line)
        ∙ ap (λ (l : List ℕ). l ++ back) (title-text line)

    front-parts : drop p.index bytes ≡ front ++ (drop (front_len line) line ++ left)
    front-parts =
        line-valid bytes r line p q is
        ∙ ap (λ (l : List ℕ). l ++ left) (sym (take-append-drop (front_len line) line))
        ∙ append_assoc front (drop (front_len line) line) left

    end-is : end ≡ past_text text begin
    end-is = text-end-is line p ∙ ap (λ (l : List ℕ). past_text l begin) (title-text line)

    at : At bytes text begin (back ++ left)
    at = record {
      valid =
          past-valid bytes front (drop (front_len line) line ++ left) p front-parts
          ∙ ap (λ (l : List ℕ). l ++ left) following ∙ append_assoc text back left;
      none =
          (no_ending-parts text back (subst NoEnding following (no_ending-drop (front_len line) line is.no_ending))).0;
      whole = past-whole front p some;
    }

    back-parts : drop end.index bytes ≡ back ++ left
    back-parts =
        ap (λ (e : Point). drop e.index bytes) end-is ∙ past-valid bytes text (back ++ left) begin at.valid

    end-whole : end.vs ≡ 0
    end-whole =
        let fits = title-fits line in
        let long = length-take-le (front_len line + size) line fits in
        let begins = front-some line heading in
        past-whole (take (front_len line + size) line) p (omega (arith, long, begins))

    front_runs : Stretch IsPart bytes p begin title.front title.front
    front_runs =
        hashes-stretch bytes front (drop (front_len line) line ++ left) p (front-marks line) front-parts
        (cuts-take p (front_len line) line is.cut_first)

    starts : Starts title.front
    starts =
        let index : begin.index ≡ p.index + length front = past-index front p in
        starts-tiled p begin title.front front_runs.tiled (omega (arith, index, some))
