-- What the lines of a text of a definition are read as: these lines, but for whitespace before further ones.
use Rattle.std.proofs.Common.{◌≡◌, ℕ, ◌+◌, ◌≤◌, Bool, true, false, cond, ◌||◌, List, [], ◌∷◌, ◌++◌, length, slice_range}
use Rattle.std.proofs.Common.{refl, ap, sym, ◌∙◌, subst, append_assoc, arith}
use Rattle.std.specs.Prelude.{◌==◌}
use Rattle.std.proofs.lemmas.Bool.{eqb-true, true≢false}
use Rattle.std.proofs.lemmas.Bool.Decides.{nat_tests}
use Rattle.std.proofs.lemmas.List.{take_all}
use Rattle.md_engine.specs.declared.event.Event.{Event}
use Rattle.md_engine.specs.declared.event.Point.{Point}
use Rattle.md_meaning.specs.Lines.{begins_with}
use Rattle.md_meaning.specs.Rest.{is_blank, trim_start}
use Rattle.md_meaning.specs.Texts.{split_lines, trim_each, trim_further}
use Rattle.md_meaning.proofs.TextsLemmas.{IsOfLines, NoEnding, ending_bytes, split-lines}
use Rattle.md_outline.proofs.TextCuts.{trim-blank}
use Rattle.md_events.specs.declared.inline.Chunk.{Chunk}
use Rattle.md_events.specs.Events.Inline.{plain_chunk}
use Rattle.md_events.specs.Events.Spelled.{begun, byte_at, text_to}
use Rattle.md_events.proofs.FeedLines.{slice-inside, slice-split}
use Rattle.md_events.proofs.SpelledLemmas.{QuietOrEnding, text_after}
use Rattle.proof_frame.proofs.CollectFacts.{Collects, collects-back, collects-following, collects-inline, slice-none}
use Rattle.proof_content_laws.proofs.Defined.Form.{IsBreak, IsRun, LastLine, NoLine, OneLine, Strand, strand_done}
use Rattle.proof_content_laws.proofs.Defined.Form.{strand_lines}
use Rattle.proof_content_laws.proofs.Defined.Strings.Facts.{AreFilled, FurtherFilled}
use Rattle.proof_content_laws.proofs.Defined.Strings.Lines.{AreLines, Last, More, NoneLeft}
use Rattle.proof_frame.proofs.PlainRoles.{chunk-roles}
use Rattle.proof_frame.proofs.ParagraphLines.{begins-white, collects-fronts, ends-before, lines-more, of-white}
use Rattle.proof_frame.proofs.ParagraphLines.{onto_line, trim-onto}

-- The bytes of a run, from the end a tab that is cut.
pub record RunBytes (bytes text : List ℕ) (p q : Point) : Type 0 where
  pub here : List ℕ
  pub slice : slice_range bytes (byte_at p) q.index ≡ here
  pub within : byte_at p ≤ q.index
  pub size : q.index ≡ byte_at p + length here
  pub no_ending : NoEnding here
  -- but for whitespace it is the text, and all of it where no tab is cut
  pub trimmed : trim_start here ≡ trim_start text
  pub whole : p.vs ≡ 0 → here ≡ text
  pub filled : is_blank text ≡ false → is_blank here ≡ false

-- where no tab is cut
whole-bytes : (bytes text : List ℕ) (p q : Point) → IsRun bytes text p q → p.vs ≡ 0 → RunBytes bytes text p q
whole-bytes bytes text p q run whole =
    let here : byte_at p ≡ p.index = ap (λ (v : ℕ). cond (v == 0) p.index (p.index + 1)) whole in
    let size = run.size in
    record {
      here = text;
      slice = ap (λ (i : ℕ). slice_range bytes i q.index) here ∙ run.slice;
      within = omega (arith, here, size);
      size = omega (arith, here, size);
      no_ending = run.no_ending;
      trimmed = refl;
      whole = λ e. refl;
      filled = λ e. e;
    }

-- and where one is
cut-bytes : (bytes text : List ℕ) (p q : Point) → NoEnding text →
    slice_range bytes p.index q.index ≡ 9 ∷ text → q.index ≡ p.index + length (9 ∷ text) → (p.vs == 0) ≡ false →
    RunBytes bytes (9 ∷ text) p q
cut-bytes bytes text p q none slice size e =
    let here : byte_at p ≡ p.index + 1 = ap (λ (x : Bool). cond x p.index (p.index + 1)) e in
    let end : p.index + 1 + length text ≡ q.index = omega (arith, size) in
    record {
      here = text;
      slice =
          ap (λ (i : ℕ). slice_range bytes i q.index) here
          ∙ ap (slice_range bytes (p.index + 1)) (sym end)
          ∙ slice-inside bytes (9 ∷ text) p.index q.index 1 (length text) slice size (omega arith)
          ∙ take_all (length text) text (omega arith);
      within = omega (arith, here, end);
      size = omega (arith, here, end);
      no_ending = none;
      trimmed = sym (trim-blank (9 ∷ []) text refl);
      whole = λ whole. absurd (true≢false (sym (ap (λ (v : ℕ). v == 0) whole) ∙ e));
      filled = λ h. h;
    }

pub run-bytes : (bytes text : List ℕ) (p q : Point) → IsRun bytes text p q → RunBytes bytes text p q
run-bytes bytes [] p q run =
    whole-bytes bytes [] p q run (subst (λ (x : Point). x.vs ≡ 0) run.end run.whole)
run-bytes bytes (b ∷ text) p q run = go (p.vs == 0) refl
  where
    go : (x : Bool) → (p.vs == 0) ≡ x → RunBytes bytes (b ∷ text) p q
    go true e = whole-bytes bytes (b ∷ text) p q run (eqb-true p.vs 0 e)
    go false e =
        let tab : b ≡ 9 = eqb-true b 9 (sym (ap (λ (x : Bool). x || (b == 9)) e) ∙ run.cut_first) in
        let none = run.no_ending in
        subst (λ (c : ℕ). RunBytes bytes (c ∷ text) p q) (sym tab)
        (cut-bytes bytes text p q none.1
        (run.slice ∙ ap (λ (c : ℕ). c ∷ text) tab) run.size e)

-- No line feed begins it.

pub plain-begins : (line : List ℕ) → NoEnding line → begins_with 10 line ≡ false
plain-begins [] none = refl
plain-begins (b ∷ line) none = let here = none.0 in grind (arith, nat_tests)

begins-filled : (line more : List ℕ) → NoEnding line → is_blank line ≡ false → begins_with 10 (line ++ more) ≡ false
begins-filled [] more none filled = absurd (true≢false filled)
begins-filled (b ∷ line) more none filled = let here = none.0 in grind (arith, nat_tests)

-- Lines of a text, as they are read.
pub record IsRecorded (bytes : List ℕ) (p q : Point) (s : Strand) : Type 0 where
  pub own : List (List ℕ)
  pub all : List ℕ
  pub collects : Collects bytes (strand_done bytes s) (byte_at p) q.index all
  pub are : IsOfLines own all
  pub begins : AreFilled s → begins_with 10 all ≡ false
  -- as lines after others, and where they are the first
  pub trimmed : trim_each own ≡ trim_each (strand_lines s)
  pub first : p.vs ≡ 0 → trim_further own ≡ trim_further (strand_lines s)

further-filled : (s : Strand) → AreFilled s → FurtherFilled s
further-filled NoLine h = tt
further-filled (LastLine p q text) h = tt
further-filled (OneLine p e q r text front s) h = h.1

-- none
none-recorded : (bytes : List ℕ) (q : Point) → q.vs ≡ 0 → IsRecorded bytes q q NoLine
none-recorded bytes q whole =
    let here : byte_at q ≡ q.index = ap (λ (v : ℕ). cond (v == 0) q.index (q.index + 1)) whole in
    record {
      own = [] ∷ [];
      all = [];
      collects =
          subst (λ (i : ℕ). Collects bytes [] i q.index []) (sym here)
          (subst (Collects bytes [] q.index q.index) (slice-none bytes q.index)
          (collects-inline bytes [] q.index q.index tt (omega arith)));
      are = (tt, refl);
      begins = λ filled. refl;
      trimmed = refl;
      first = λ at. refl;
    }

-- one line
last-recorded : (bytes text : List ℕ) (p q : Point) → IsRun bytes text p q → IsRecorded bytes p q (LastLine p q text)
last-recorded bytes text p q run =
    let own : RunBytes bytes text p q = run-bytes bytes text p q run in
    let chunk : Chunk = record { first = p; after = q } in
    record {
      own = own.here ∷ [];
      all = own.here;
      collects =
          subst (Collects bytes (plain_chunk bytes chunk) (byte_at p) q.index) own.slice
          (collects-inline bytes (plain_chunk bytes chunk) (byte_at p) q.index
          (chunk-roles QuietOrEnding bytes chunk tt tt) own.within);
      are = (own.no_ending, refl);
      begins = λ filled. plain-begins own.here own.no_ending;
      trimmed = ap (λ (l : List ℕ). l ∷ []) own.trimmed;
      first = λ at. ap (λ (l : List ℕ). l ∷ []) (own.whole at);
    }

-- one more in front
more-recorded : (bytes text : List ℕ) (p e b r q : Point) (front : List Event) (s : Strand) → IsRun bytes text p e →
    IsBreak bytes e b r front → AreFilled s → IsRecorded bytes r q s →
    IsRecorded bytes p q (OneLine p e b r text front s)
more-recorded bytes text p e b r q front s run break filled below =
    let mine : RunBytes bytes text p e = run-bytes bytes text p e run in
    let here : List ℕ = mine.here in
    let ending = break.ending in
    let chunk : Chunk = record { first = p; after = b } in
    let end : ℕ = q.index in
    let further : List Event = strand_done bytes s in
    let fronted = collects-fronts bytes [] b r front further end below.all break.front_is refl below.collects in
    let white : List ℕ = fronted.0 in
    let whole : byte_at b ≡ b.index = ap (λ (vs : ℕ). cond (vs == 0) b.index (b.index + 1)) ending.whole in
    let from : Collects bytes (front ++ further) b.index end (white ++ below.all) = subst
    (λ (i : ℕ). Collects bytes (front ++ further) i end (white ++ below.all)) whole fronted.2 in
    let size = ending.size in
    let within = mine.within in
    let le : byte_at p ≤ b.index = omega (arith, size, within) in
    let with_ending : slice_range bytes (byte_at p) b.index ≡ here ++ ending_bytes ending.ending =
    slice-split bytes (byte_at p) e.index b.index mine.within (omega (arith, size))
    ∙ ap (λ (l : List ℕ). l ++ slice_range bytes e.index b.index) mine.slice
    ∙ ap (λ (l : List ℕ). here ++ l) ending.text in
    let all : List ℕ = (here ++ ending_bytes ending.ending) ++ (white ++ below.all) in
    let found : Collects bytes (plain_chunk bytes chunk ++ (front ++ further)) (byte_at p) end all =
    subst
    (λ (l : List ℕ).
    Collects bytes (plain_chunk bytes chunk ++ (front ++ further)) (byte_at p) end
    (l ++ (white ++ below.all))) with_ending
    (collects-back bytes (plain_chunk bytes chunk ++ (front ++ further)) (byte_at p) b.index end
    (white ++ below.all) le
    (collects-following bytes (plain_chunk bytes chunk) (front ++ further) b.index end (white ++ below.all)
    (chunk-roles QuietOrEnding bytes chunk tt tt) from)) in
    let rest : trim_each (onto_line white below.own) ≡ trim_each (strand_lines s) =
    trim-onto white below.own fronted.1 ∙ below.trimmed in
    record {
      own = here ∷ onto_line white below.own;
      all = all;
      collects =
          subst (λ (l : List Event). Collects bytes l (byte_at p) end all)
          (sym (append_assoc (plain_chunk bytes chunk) front further)) found;
      are =
          lines-more here (onto_line white below.own) all ending.ending (white ++ below.all) mine.no_ending
          (ends-before ending.ending (white ++ below.all)
          (begins-white white below.all fronted.1 (below.begins filled))) refl
          (of-white white below.own below.all fronted.1 below.are);
      begins = λ h.
          ap (begins_with 10) (append_assoc here (ending_bytes ending.ending) (white ++ below.all))
          ∙ begins-filled here (ending_bytes ending.ending ++ (white ++ below.all)) mine.no_ending (mine.filled h.0);
      trimmed =
          ap (λ (l : List ℕ). l ∷ trim_each (onto_line white below.own)) mine.trimmed
          ∙ ap (λ (l : List (List ℕ)). trim_start text ∷ l) rest;
      first = λ at.
          ap (λ (l : List ℕ). l ∷ trim_each (onto_line white below.own)) (mine.whole at)
          ∙ ap (λ (l : List (List ℕ)). text ∷ l) rest;
    }

pub lines-recorded : (bytes : List ℕ) (p q : Point) (s : Strand) → FurtherFilled s → AreLines bytes p q s →
    IsRecorded bytes p q s
lines-recorded bytes q _ _ filled (NoneLeft _ whole) = none-recorded bytes q whole
lines-recorded bytes p q _ filled (Last _ _ text some run) = last-recorded bytes text p q run
lines-recorded bytes p q _ filled (More _ e b r _ text front s run break more) =
    more-recorded bytes text p e b r q front s run break filled
    (lines-recorded bytes r q s (further-filled s filled) more)

-- what is said of a text from a point on is all of it
recorded-all : (bytes : List ℕ) (p q : Point) (s : Strand) → (is : IsRecorded bytes p q s) →
    text_to bytes q.index (text_after bytes (begun p) (strand_done bytes s)) ≡ is.all
recorded-all bytes p q s is =
    is.collects (begun p) (omega arith) ∙ ap (λ (l : List ℕ). l ++ is.all) (slice-none bytes (byte_at p))

-- so it has these lines
pub recorded-lines : (bytes : List ℕ) (p q : Point) (s : Strand) → p.vs ≡ 0 → FurtherFilled s → AreLines bytes p q s →
    trim_further (split_lines (text_to bytes q.index (text_after bytes (begun p) (strand_done bytes s)))) ≡
    trim_further (strand_lines s)
recorded-lines bytes p q s whole filled lines =
    let is : IsRecorded bytes p q s = lines-recorded bytes p q s filled lines in
    ap (λ (l : List ℕ). trim_further (split_lines l)) (recorded-all bytes p q s is)
    ∙ ap trim_further (split-lines is.own is.all is.are)
    ∙ is.first whole

-- and one line is that
pub recorded-line : (bytes text : List ℕ) (p q : Point) → p.vs ≡ 0 → IsRun bytes text p q →
    text_to bytes q.index (text_after bytes (begun p) (plain_chunk bytes (record { first = p; after = q }))) ≡ text
unfolding last-recorded run-bytes
recorded-line bytes text p q whole run =
    recorded-all bytes p q (LastLine p q text) (last-recorded bytes text p q run)
    ∙ (run-bytes bytes text p q run).whole whole
