-- What is known of the parts of frontmatter: its fences, and the lines between them.
use Rattle.std.proofs.Common.{◌≡◌, ℕ, zero, suc, ◌+◌, ◌-◌, ◌<◌, ◌≤◌, Bool, true, false, cond, ◌&&◌, ◌||◌, List, []}
use Rattle.std.proofs.Common.{◌∷◌, ◌++◌, length, take, drop, slice_range, Option, Some, None, refl, sym, ◌∙◌, ap, ap₂}
use Rattle.std.proofs.Common.{nat_eq, subst, arith, append_assoc}
use Rattle.std.specs.Prelude.{replicate, ◌==◌, option_map}
use Rattle.std.specs.List.{list_all}
use Rattle.std.proofs.lemmas.Bool.{and_from, and_parts, eqb-true}
use Rattle.std.proofs.lemmas.Bool.Decides.{nat_tests}
use Rattle.std.proofs.lemmas.List.{take-append-drop}
use Rattle.md_engine.specs.declared.event.Event.{Event}
use Rattle.md_engine.specs.declared.event.Name.TheVariants as n
use Rattle.md_engine.specs.declared.event.Point.{Point}
use Rattle.md_containers.specs.Frontmatter.{is_marker}
use Rattle.md_meaning.specs.Preamble.{is_front_fence}
use Rattle.md_meaning.specs.Rest.{is_blank, run_len}
use Rattle.md_meaning.specs.Texts.{first_byte}
use Rattle.md_meaning.specs.Tree.{Line}
use Rattle.md_meaning.proofs.TextsLemmas.{NoEnding}
use Rattle.md_literal.specs.CodeLine as code
use Rattle.md_outline.specs.Between.{is_between}
use Rattle.md_containers.specs.ItemsAllowed.{IsPart}
use Rattle.md_outline.specs.LinesAllowed.{AtEnd, AtEnding, AtLine, AtMarkers}
use Rattle.md_outline.proofs.FrontPass.{passes-front_chunk, passes-front_fence, passes-last_fence}
use Rattle.md_outline.proofs.LinesPass.{Passes}
use Rattle.md_events.specs.Events.Grammar.{Expression, Nothing, following, inside, may_end, plain_text, unread_text}
use Rattle.md_events.specs.Events.Nested.{around, exit, pair}
use Rattle.md_events.specs.Events.Pieces.{may_cover}
use Rattle.md_events.specs.Events.Places.{past_text}
use Rattle.md_events.specs.Events.Spelled.{AsLine, AsMarkers, Fenced, FrontmatterLeaf, OfFrontmatter, OpenLeaf, Reading}
use Rattle.md_events.specs.Events.Spelled.{at_fence, byte_at, empty_line, first_recorded, fresh, joined, noted}
use Rattle.md_events.specs.Events.Spelled.{on_leaf, read, without_last}
use Rattle.md_events.proofs.EndingsLemmas.{AreOthers, Filling, stays-others}
use Rattle.md_events.proofs.FeedLines.{drop-past, past_text-whole, slice-front}
use Rattle.md_events.proofs.GrammarLemmas.{Leads, leads-around, leads-append, leads-pair}
use Rattle.md_events.proofs.InlineLemmas.{past-index, past_text-append}
use Rattle.md_events.proofs.RestLines.{count-none, count-one}
use Rattle.md_events.proofs.SpelledLemmas.{read-from, read-quiet}
use Rattle.proof_frame.specs.LineColumns.{part_over}
use Rattle.proof_frame.proofs.BetweenFacts.{between-following, is_low, low-at}
use Rattle.proof_frame.proofs.WhiteQuiet.{white-quiet}
use Rattle.proof_frame.proofs.IndentRemoved.Placed.{over-onward, over-stretch}
use Rattle.proof_frame.proofs.IndentRemoved.Reads.{empty-joined, leaf-recorded, on-last}
use Rattle.proof_frame.proofs.IndentRemoved.Shown.{whole-clear}
use Rattle.proof_frame.proofs.PieceFacts.{begins-cut, begins-whole, over-front, over-valid}
use Rattle.proof_frame.proofs.PlainFacts.{AreKnown, known-append, known-around, known-none, plain-quiet}
use Rattle.proof_frame.proofs.LeafLines.Inside.{InsideFacts}
use Rattle.proof_frame.proofs.PartsFacts.{ReadsLeaf, PartsFacts}
use Rattle.proof_frame.proofs.Stretch.{Stretch, stretch-append, stretch-around, stretch-pair, white-piece}
use Rattle.proof_frame.proofs.ChunkFacts.{in-line}

-- A line, where it is: it begins at a byte, and ends after its bytes.
pub record HasText (bytes line : List ℕ) (p q : Point) : Type 0 where
  pub no_ending : NoEnding line
  pub valid : drop p.index bytes ≡ line ++ drop q.index bytes
  pub end : q ≡ past_text line p
  pub whole : p.vs ≡ 0
  pub column : 1 ≤ p.column

pub end-whole : (bytes line : List ℕ) (p q : Point) → HasText bytes line p q → q.vs ≡ 0
end-whole bytes line p q is = ap (λ (x : Point). x.vs) is.end ∙ past_text-whole line p is.whole

-- What is left of the grammar of frontmatter: after its opening fence, where a further line begins, and after a line
-- that is not empty.
abbrev pub after_open : Expression
after_open = following n.FrontmatterFence (inside plain_text n.Frontmatter)

abbrev pub in_line : Expression
in_line = following n.LineEnding after_open

abbrev pub after_chunk : Expression
after_chunk = following n.FrontmatterChunk in_line

-- As it is read: with these markers, and these lines.
abbrev pub front_leaf : List ℕ → List Line → Bool → OpenLeaf
front_leaf markers lines closed = FrontmatterLeaf (record { markers = markers; lines = lines; closed = closed })

abbrev pub text_line : List ℕ → Line
text_line text = record { spaces = 0; text = text }

-- what a part that begins at a byte shows
recorded-text : (bytes line rest : List ℕ) (p q : Point) → p.vs ≡ 0 → drop p.index bytes ≡ line ++ rest →
    q ≡ past_text line p → code.chunk_line bytes p q ≡ text_line line
recorded-text bytes line rest p q whole valid end =
    let size : q.index ≡ p.index + length line = ap (λ (x : Point). x.index) end ∙ past-index line p in
    rw whole
    (ap text_line (slice-front bytes p.index q.index line rest valid size))

-- A line that is not empty.

chunk-stretch : (bytes : List ℕ) (b : ℕ) (line : List ℕ) (p q : Point) → HasText bytes (b ∷ line) p q →
    Stretch IsPart bytes p q (pair n.FrontmatterChunk p q) (pair n.FrontmatterChunk p q)
chunk-stretch bytes b line p q is =
    over-stretch IsPart bytes n.FrontmatterChunk (b ∷ line) (drop q.index bytes) p q
    (record { role_is = tt; no_part = refl; parted = λ x y ys h. h }) is.valid is.end
    (begins-whole n.FrontmatterChunk p is.whole) (in-line (b ∷ line) is.no_ending)

chunk-reads : (bytes : List ℕ) (b : ℕ) (line markers : List ℕ) (lines : List Line) (p q : Point) →
    HasText bytes (b ∷ line) p q →
    ReadsLeaf bytes (front_leaf markers (lines ++ empty_line ∷ []) false)
    (front_leaf markers (lines ++ text_line (b ∷ line) ∷ []) false) (pair n.FrontmatterChunk p q)
chunk-reads bytes b line markers lines p q is r none opened =
    leaf-recorded r (noted AsLine (code.chunk_line bytes p q))
    (front_leaf markers (lines ++ empty_line ∷ []) false) none
    opened
    ∙ ap
    (λ (ls : List Line).
    let x : Reading = record r { leaf = Some (front_leaf markers ls false) } in x)
    (on-last (λ (l : Line). joined l (code.chunk_line bytes p q)) lines empty_line
    ∙ ap (λ (l : Line). lines ++ l ∷ [])
    (empty-joined (code.chunk_line bytes p q)
    ∙ recorded-text bytes (b ∷ line) (drop q.index bytes) p q is.whole is.valid is.end))

pub chunk-inside : (bytes : List ℕ) (b : ℕ) (line markers : List ℕ) (lines : List Line) (p q : Point) →
    HasText bytes (b ∷ line) p q →
    InsideFacts bytes p q in_line after_chunk (front_leaf markers (lines ++ empty_line ∷ []) false)
    (front_leaf markers (lines ++ text_line (b ∷ line) ∷ []) false) (AtLine OfFrontmatter) (AtEnding OfFrontmatter)
    (pair n.FrontmatterChunk p q) (pair n.FrontmatterChunk p q)
chunk-inside bytes b line markers lines p q is =
    let es = pair n.FrontmatterChunk p q in
    let begin = whole-clear bytes p is.whole in
    let end = whole-clear bytes q (end-whole bytes (b ∷ line) p q is) in
    record {
      parts = record {
        stretch = chunk-stretch bytes b line p q is;
        unread_word = leads-pair unread_text in_line n.FrontmatterChunk p q refl;
        word = leads-pair plain_text in_line n.FrontmatterChunk p q refl;
        unread_stays = stays-others es refl;
        stays = stays-others es refl;
        reads = chunk-reads bytes b line markers lines p q is;
      };
      plain = λ first. record {
        known = known-around bytes n.FrontmatterChunk p q [] refl begin end (known-none bytes);
        lines = passes-front_chunk bytes p q;
      };
    }

-- A fence.

abbrev pub marks_end : List ℕ → Point → Point
marks_end line p = past_text (take 3 line) p

pub record HasFence (bytes line : List ℕ) (m : ℕ) (p q : Point) : Type 0 where
  pub is : HasText bytes line p q
  pub marks : is_marker m ≡ true
  pub markers : take 3 line ≡ m ∷ m ∷ m ∷ []
  pub blank : is_blank (drop 3 line) ≡ true

-- so many of the marker come first
run-take : (m n : ℕ) (line : List ℕ) → run_len m line ≡ n → take n line ≡ replicate n m
run-take m zero line e = refl
run-take m (suc n) [] e = absurd (omega (arith, e))
run-take m (suc n) (b ∷ bs) e = go (b == m) refl (run-take m n bs)
  where
    go : (x : Bool) → (b == m) ≡ x → (run_len m bs ≡ n → take n bs ≡ replicate n m) →
        take (suc n) (b ∷ bs) ≡ replicate (suc n) m
    go true k rest =
        let more = count-one (λ c. c == m) b bs k in
        ap₂ (λ (c : ℕ) (l : List ℕ). c ∷ l) (eqb-true b m k) (rest (omega (arith, more, e)))
    go false k rest =
        let none = count-none (λ c. c == m) b bs k in absurd (omega (arith, none, e))

pub has-fence : (bytes line : List ℕ) (m : ℕ) (p q : Point) → HasText bytes line p q → is_marker m ≡ true →
    is_front_fence m line ≡ true → HasFence bytes line m p q
has-fence bytes line m p q is marks fence =
    let both = and_parts (nat_eq (run_len m line) 3) (is_blank (drop 3 line)) fence in
    record {
      is = is;
      marks = marks;
      markers = run-take m 3 line (eqb-true (run_len m line) 3 both.0);
      blank = both.1;
    }

-- Where its markers are.
record HasMarks (bytes line : List ℕ) (m : ℕ) (p q : Point) : Type 0 where
  pub valid : drop p.index bytes ≡ take 3 line ++ (drop 3 line ++ drop q.index bytes)
  pub left : drop (marks_end line p).index bytes ≡ drop 3 line ++ drop q.index bytes
  pub ends : q ≡ past_text (drop 3 line) (marks_end line p)
  pub size : (marks_end line p).index ≡ p.index + 3
  pub over : may_cover n.FrontmatterSequence (take 3 line) ≡ true
  pub low : is_between bytes (marks_end line p).index ≡ true

marker-over : (m : ℕ) → is_marker m ≡ true → may_cover n.FrontmatterSequence (m ∷ m ∷ m ∷ []) ≡ true
marker-over m e = go (m == 45) (m == 43) refl refl e
  where
    go : (x y : Bool) → (m == 45) ≡ x → (m == 43) ≡ y → (x || y) ≡ true →
        may_cover n.FrontmatterSequence (m ∷ m ∷ m ∷ []) ≡ true
    go true y f g t =
        subst (λ (c : ℕ). may_cover n.FrontmatterSequence (c ∷ c ∷ c ∷ []) ≡ true) (sym (eqb-true m 45 f)) refl
    go false true f g t =
        subst (λ (c : ℕ). may_cover n.FrontmatterSequence (c ∷ c ∷ c ∷ []) ≡ true) (sym (eqb-true m 43 g)) refl
    go false false f g t = cc

marker-some : (m : ℕ) → is_marker m ≡ true → (m == 0) ≡ false
marker-some m e = grind (arith, nat_tests)

marker-low : (m : ℕ) → is_marker m ≡ true → is_low m ≡ true
marker-low m e = grind (arith, nat_tests)

has-marks : (bytes line : List ℕ) (m : ℕ) (p q : Point) → HasFence bytes line m p q → HasMarks bytes line m p q
has-marks bytes line m p q h =
    let end = marks_end line p in
    let three : length (take 3 line) ≡ 3 = ap length h.markers in
    let index : end.index ≡ p.index + length (take 3 line) = past-index (take 3 line) p in
    let size : end.index ≡ p.index + 3 = omega (arith, index, three) in
    let cut = take-append-drop 3 line in
    let valid : drop p.index bytes ≡ take 3 line ++ (drop 3 line ++ drop q.index bytes) =
    h.is.valid ∙ ap (λ (l : List ℕ). l ++ drop q.index bytes) (sym cut)
    ∙ append_assoc (take 3 line) (drop 3 line) (drop q.index bytes) in
    let slice : slice_range bytes p.index end.index ≡ take 3 line =
    slice-front bytes p.index end.index (take 3 line) (drop 3 line ++ drop q.index bytes) valid index in
    let low : list_all is_low (take 3 line) ≡ true =
    ap (list_all is_low) h.markers
    ∙ and_from (is_low m) (is_low m && (is_low m && true)) (marker-low m h.marks)
    (and_from (is_low m) (is_low m && true) (marker-low m h.marks)
    (and_from (is_low m) true (marker-low m h.marks) refl)) in
    record {
      valid = valid;
      left =
          ap (λ (i : ℕ). drop i bytes) index
          ∙ drop-past bytes p.index (take 3 line) (drop 3 line ++ drop q.index bytes) valid;
      ends = h.is.end ∙ ap (λ (l : List ℕ). past_text l p) (sym cut) ∙ past_text-append (take 3 line) (drop 3 line) p;
      size = size;
      over = ap (may_cover n.FrontmatterSequence) h.markers ∙ marker-over m h.marks;
      low =
          between-following bytes end.index
          (low-at bytes (take 3 line) p.index end.index (end.index - 1) slice index low (omega (arith, size))
          (omega (arith, size)));
    }

-- what is in it
abbrev pub fence_inside : List ℕ → Point → Point → List Event
fence_inside line p q =
    pair n.FrontmatterSequence p (marks_end line p) ++ part_over n.SpaceOrTab (drop 3 line) (marks_end line p) q

abbrev pub fence_over : List ℕ → Point → Point → List Event
fence_over line p q = around n.FrontmatterFence p q (fence_inside line p q)

fence-stretch : (bytes line : List ℕ) (m : ℕ) (p q : Point) → HasFence bytes line m p q →
    Stretch IsPart bytes p q (fence_over line p q) (fence_over line p q)
fence-stretch bytes line m p q h =
    let marks = has-marks bytes line m p q h in
    let end = marks_end line p in
    let some : 0 < length (take 3 line) = let e = ap length h.markers in omega (arith, e) in
    stretch-around n.FrontmatterFence (record { role_is = tt; no_part = refl; still = tt }) refl refl
    (stretch-append
    (stretch-pair IsPart bytes n.FrontmatterSequence p end
    (record { role_is = tt; no_part = refl; parted = λ x y ys k. k }) (over-onward (take 3 line) p end some refl)
    (over-valid bytes n.FrontmatterSequence p end (take 3 line)
    (over-front bytes p end (take 3 line) (drop 3 line ++ drop q.index bytes) marks.valid some refl)
    (begins-whole n.FrontmatterSequence p h.is.whole) marks.over))
    (over-stretch IsPart bytes n.SpaceOrTab (drop 3 line) (drop q.index bytes) end q (white-piece IsPart bytes tt)
    marks.left marks.ends (begins-cut n.SpaceOrTab end refl) h.blank) (λ first last. marks.low))

-- whitespace after the markers, or none
white-leads : (text : Expression) (line : List ℕ) (p q : Point) →
    (left : Expression) × Leads text (following n.FrontmatterSequence (inside text n.FrontmatterFence) ∷ []) (left ∷ [])
    (part_over n.SpaceOrTab line p q) × (may_end left ≡ true)
white-leads text [] p q = (following n.FrontmatterSequence (inside text n.FrontmatterFence), λ outer. refl, refl)
white-leads text (b ∷ bs) p q = (
  Nothing,
  leads-pair text (following n.FrontmatterSequence (inside text n.FrontmatterFence)) n.SpaceOrTab p q refl,
  refl,
)

fence-word : (text x : Expression) (line : List ℕ) (p q : Point) →
    Leads text (x ∷ []) (following n.FrontmatterFence x ∷ []) (fence_over line p q)
fence-word text x line p q =
    let end = marks_end line p in
    let white = white-leads text (drop 3 line) end q in
    leads-around text x n.FrontmatterFence p q (fence_inside line p q)
    (record {
      left = white.0;
      leads =
          leads-append text (inside text n.FrontmatterFence ∷ [])
          (following n.FrontmatterSequence (inside text n.FrontmatterFence) ∷ []) (white.0 ∷ [])
          (pair n.FrontmatterSequence p end) (part_over n.SpaceOrTab (drop 3 line) end q)
          (leads-pair text (inside text n.FrontmatterFence) n.FrontmatterSequence p end refl) white.1;
      ends = white.2;
    })

-- what holds with whitespace after the markers and without
fence-by : (P : List Event → Type 0) (line : List ℕ) (p q : Point) →
    P (around n.FrontmatterFence p q (pair n.FrontmatterSequence p (marks_end line p) ++ [])) →
    P
    (around n.FrontmatterFence p q
    (pair n.FrontmatterSequence p (marks_end line p) ++ pair n.SpaceOrTab (marks_end line p) q)) →
    P (fence_over line p q)
fence-by P line p q none some = go (drop 3 line)
  where
    go : (l : List ℕ) →
        P
        (around n.FrontmatterFence p q
        (pair n.FrontmatterSequence p (marks_end line p) ++ part_over n.SpaceOrTab l (marks_end line p) q))
    go [] = none
    go (b ∷ bs) = some

fence-others : (line : List ℕ) (p q : Point) → AreOthers (fence_over line p q)
fence-others line p q =
    fence-by AreOthers line p q refl refl

pub fence-fills : (line : List ℕ) (p q : Point) → Filling (fence_over line p q)
fence-fills line p q = fence-by Filling line p q (λ from ys. refl) (λ from ys. refl)

fence-known : (bytes line : List ℕ) (m : ℕ) (p q : Point) → HasFence bytes line m p q →
    AreKnown bytes (fence_over line p q)
fence-known bytes line m p q h =
    let end = marks_end line p in
    known-around bytes n.FrontmatterFence p q (fence_inside line p q) refl refl refl
    (known-append bytes (pair n.FrontmatterSequence p end) (part_over n.SpaceOrTab (drop 3 line) end q)
    (known-around bytes n.FrontmatterSequence p end [] refl (whole-clear bytes p h.is.whole)
    (whole-clear bytes end (past_text-whole (take 3 line) p h.is.whole)) (known-none bytes))
    (plain-quiet bytes (part_over n.SpaceOrTab (drop 3 line) end q) (white-quiet (drop 3 line) end q)).known)

-- How it is read.

fence-recorded : (bytes line : List ℕ) (m : ℕ) (p q : Point) (leaf : OpenLeaf) → HasFence bytes line m p q →
    ReadsLeaf bytes leaf (noted AsMarkers (text_line (take 3 line)) (at_fence leaf)) (fence_over line p q)
fence-recorded bytes line m p q leaf h r none opened =
    let marks = has-marks bytes line m p q h in
    let end = marks_end line p in
    let white = part_over n.SpaceOrTab (drop 3 line) end q in
    let recorded = code.chunk_line bytes p end in
    let begun : Reading = record r { leaf = Some (at_fence leaf) } in
    let done : Reading = record r { leaf = Some (noted AsMarkers recorded (at_fence leaf)) } in
    ap
    (λ (x : Reading). read bytes x (white ++ exit n.FrontmatterFence q ∷ []))
    (ap
    (λ (l : Option OpenLeaf).
    on_leaf (noted AsMarkers recorded) (record r { leaf = option_map at_fence l; text = None })) opened
    ∙ leaf-recorded begun (noted AsMarkers recorded) (at_fence leaf) none refl)
    ∙ read-from bytes done done white (exit n.FrontmatterFence q ∷ [])
    (read-quiet bytes done white (white-quiet (drop 3 line) end q))
    ∙ ap
    (λ (l : Line).
    let x : Reading = record r { leaf = Some (noted AsMarkers l (at_fence leaf)) } in x)
    (recorded-text bytes (take 3 line) (drop 3 line ++ drop q.index bytes) p end h.is.whole marks.valid refl)

-- what is known of either fence, which is read so
fence-facts : (bytes line : List ℕ) (m : ℕ) (p q : Point) (x : Expression) (from to : OpenLeaf) →
    HasFence bytes line m p q → ReadsLeaf bytes from to (fence_over line p q) →
    PartsFacts bytes p q x (following n.FrontmatterFence x) from to (fence_over line p q) (fence_over line p q)
fence-facts bytes line m p q x from to h reads =
    let es = fence_over line p q in
    record {
      stretch = fence-stretch bytes line m p q h;
      unread_word = fence-word unread_text x line p q;
      word = fence-word plain_text x line p q;
      unread_stays = stays-others es (fence-others line p q);
      stays = stays-others es (fence-others line p q);
      reads = reads;
    }

-- The opening fence.

marks-some : (bytes line : List ℕ) (m : ℕ) (p q : Point) → HasFence bytes line m p q →
    (first_byte (slice_range bytes (byte_at p) (marks_end line p).index) == 0) ≡ false
marks-some bytes line m p q h =
    let marks = has-marks bytes line m p q h in
    let end = marks_end line p in
    let three : length (take 3 line) ≡ 3 = ap length h.markers in
    let size : end.index ≡ p.index + length (take 3 line) = let e = marks.size in omega (arith, e, three) in
    let at : byte_at p ≡ p.index = rw h.is.whole refl in
    let slice : slice_range bytes (byte_at p) end.index ≡ m ∷ m ∷ m ∷ [] =
    ap (λ (i : ℕ). slice_range bytes i end.index) at
    ∙ slice-front bytes p.index end.index (take 3 line) (drop 3 line ++ drop q.index bytes) marks.valid size
    ∙ h.markers in
    ap (λ (l : List ℕ). first_byte l == 0) slice ∙ marker-some m h.marks

open-passes : (bytes line : List ℕ) (m : ℕ) (p q : Point) → HasFence bytes line m p q →
    Passes bytes (AtMarkers OfFrontmatter) (AtEnding OfFrontmatter) (fence_over line p q)
open-passes bytes line m p q h =
    let end = marks_end line p in
    passes-front_fence bytes p q end (part_over n.SpaceOrTab (drop 3 line) end q) (white-quiet (drop 3 line) end q)
    (marks-some bytes line m p q h)

pub open-inside : (bytes line : List ℕ) (m : ℕ) (p q : Point) → HasFence bytes line m p q →
    InsideFacts bytes p q (inside plain_text n.Frontmatter) after_open (fresh OfFrontmatter)
    (front_leaf (take 3 line) [] false) (AtMarkers OfFrontmatter) (AtEnding OfFrontmatter) (fence_over line p q)
    (fence_over line p q)
open-inside bytes line m p q h = record {
  parts =
      fence-facts bytes line m p q (inside plain_text n.Frontmatter) (fresh OfFrontmatter)
      (front_leaf (take 3 line) [] false) h
      (fence-recorded bytes line m p q (fresh OfFrontmatter) h);
  plain = λ first. record {
    known = fence-known bytes line m p q h;
    lines = open-passes bytes line m p q h;
  };
}

-- The closing fence.

without-last : (before : List Line) (x : Line) → without_last (before ++ x ∷ []) ≡ before
without-last [] x = refl
without-last (y ∷ []) x = refl
without-last (y ∷ z ∷ ys) x = ap (λ (l : List Line). y ∷ l) (without-last (z ∷ ys) x)

markers-are_valid : (markers now : List ℕ) → (length markers == 0) ≡ false → first_recorded markers now ≡ markers
markers-are_valid [] now e = cc
markers-are_valid (b ∷ bs) now e = refl

closing-noted : (markers : List ℕ) (lines : List Line) (line : Line) → (length markers == 0) ≡ false →
    noted AsMarkers line (at_fence (front_leaf markers (lines ++ empty_line ∷ []) false)) ≡
    front_leaf markers lines true
closing-noted markers lines line some =
    let fences : Fenced = record { markers = markers; lines = lines ++ empty_line ∷ []; closed = false } in
    ap
    (λ (x : Bool).
    noted AsMarkers line
    (FrontmatterLeaf
    (cond (x || false) fences (record fences { lines = without_last fences.lines; closed = true })))) some
    ∙ ap (λ (ls : List Line). noted AsMarkers line (front_leaf markers ls true)) (without-last lines empty_line)
    ∙ ap (λ (ms : List ℕ). front_leaf ms lines true) (markers-are_valid markers line.text some)

close-passes : (bytes line : List ℕ) (p q : Point) →
    Passes bytes (AtLine OfFrontmatter) (AtEnd OfFrontmatter) (fence_over line p q)
close-passes bytes line p q =
    let end = marks_end line p in
    passes-last_fence bytes p q end (part_over n.SpaceOrTab (drop 3 line) end q) (white-quiet (drop 3 line) end q)

pub close-inside : (bytes line : List ℕ) (m : ℕ) (markers : List ℕ) (lines : List Line) (p q : Point) →
    HasFence bytes line m p q → (length markers == 0) ≡ false →
    InsideFacts bytes p q in_line Nothing (front_leaf markers (lines ++ empty_line ∷ []) false)
    (front_leaf markers lines true) (AtLine OfFrontmatter) (AtEnd OfFrontmatter) (fence_over line p q)
    (fence_over line p q)
close-inside bytes line m markers lines p q h some = record {
  parts =
      fence-facts bytes line m p q in_line (front_leaf markers (lines ++ empty_line ∷ []) false)
      (front_leaf markers lines true) h
      (λ r none opened.
      fence-recorded bytes line m p q (front_leaf markers (lines ++ empty_line ∷ []) false) h r none opened
      ∙ ap (λ (l : OpenLeaf). let x : Reading = record r { leaf = Some l } in x)
      (closing-noted markers lines (text_line (take 3 line)) some));
  plain = λ first. record {
    known = fence-known bytes line m p q h;
    lines = close-passes bytes line p q;
  };
}
