-- What is known of the parts of an opening fence, one by one and after one another, before its texts are read and once
-- they are.
use Rattle.std.proofs.Common.{◌≡◌, ℕ, Bool, true, false, cond, ◌||◌, not, List, [], ◌∷◌, ◌++◌, length, refl, sym, subst}
use Rattle.std.proofs.Common.{arith}
use Rattle.std.specs.Prelude.{◌==◌, nat_le, Some, None}
use Rattle.std.specs.List.{list_all}
use Rattle.std.proofs.lemmas.Bool.{and_parts, or_right}
use Rattle.std.proofs.lemmas.Bool.Decides.{nat_tests}
use Rattle.md_engine.specs.declared.configuration.ParseOptions.{ParseOptions}
use Rattle.md_engine.specs.declared.event.Event.{Event}
use Rattle.md_engine.specs.declared.event.Name.{Name}
use Rattle.md_engine.specs.declared.event.Name.TheVariants as n
use Rattle.md_engine.specs.declared.event.Point.{Point}
use Rattle.md_containers.specs.ItemsAllowed.{IsPart}
use Rattle.md_meaning.specs.Rest.{trim_start}
use Rattle.md_meaning.specs.Texts.{first_byte}
use Rattle.md_literal.specs.Fence.{sequence_name, string_link}
use Rattle.md_outline.specs.Roles.{is_recorded, is_unlisted}
use Rattle.md_events.specs.declared.inline.PartKind.TheVariants.{String}
use Rattle.md_events.specs.Events.Inline.{plain_chunk}
use Rattle.md_events.specs.Events.Nested.{around, pair}
use Rattle.md_events.specs.Events.Pieces.{is_run, may_cover}
use Rattle.md_events.specs.Events.Places.{past_text}
use Rattle.md_events.specs.Events.Spelled.{role}
use Rattle.md_events.specs.Events.Tiles.{part_kind}
use Rattle.md_events.proofs.EndingsLemmas.{AreOthers, others-append}
use Rattle.md_events.proofs.FeedLines.{past_text-whole}
use Rattle.md_events.proofs.InlineLemmas.{before-text}
use Rattle.md_events.proofs.PlacesLemmas.{at-next}
use Rattle.md_events.proofs.SpelledLemmas.{Roles, roles-append}
use Rattle.proof_literal_laws.specs.Leaf.Fence.{fence_parts, linked, past_white, read_inner}
use Rattle.proof_literal_laws.proofs.Fence.Each.{by-math}
use Rattle.proof_literal_laws.proofs.Fence.Laid.{Laid}
use Rattle.proof_literal_laws.proofs.Fence.Walk.{Walks, is_text_name, parts-walk}
use Rattle.proof_frame.proofs.BetweenFacts.{AreBetween, all-more, between-append, between-before, blank-low, is_low}
use Rattle.proof_frame.proofs.BetweenFacts.{white-low}
use Rattle.proof_frame.proofs.FillFacts.{PartsRead, fill-append}
use Rattle.proof_frame.proofs.IndentRemoved.Shown.{whole-clear}
use Rattle.proof_frame.proofs.LineTexts.{past-whole}
use Rattle.proof_frame.proofs.OneText.{chunk-is, stretch-text}
use Rattle.proof_frame.proofs.OtherNames.{Other, others-around}
use Rattle.proof_frame.proofs.PartedFacts.{PrefixesAtLineStart, clear, low-clear, sits-append}
use Rattle.proof_frame.proofs.PartsValid.{PartsWhole, valid-append}
use Rattle.proof_frame.proofs.PieceFacts.{PiecesValid, begins-cut, begins-whole, over-front, over-valid}
use Rattle.proof_frame.proofs.PieceFacts.{is_valid-append}
use Rattle.proof_frame.proofs.PiecesLemmas.{Covered, tiled-append}
use Rattle.proof_frame.proofs.PlaceBetween.{IsPlace, low-following}
use Rattle.proof_frame.proofs.PlainFacts.{AreKnown, chunk-plain, known-append, known-around, known-none}
use Rattle.proof_frame.proofs.SpanLemmas.{Nested_in, nested_in-append}
use Rattle.proof_frame.proofs.Stretch.{Stretch, stretch-none, stretch-pair, white-piece}

-- A place in a fence that is from a point to a point is between characters, and cuts no tab of one, if its ends are so.
abbrev IsInFence : List ℕ → Point → Point → Point → Type 0
IsInFence bytes a e x =
    (IsPlace bytes a → IsPlace bytes e → IsPlace bytes x) × (clear bytes a ≡ true → clear bytes x ≡ true)

-- Events that are in it from a point to a point: a stretch, with what else is asked of them.
record FencePart (bytes : List ℕ) (a e p q : Point) (unread done : List Event) : Type 0 where
  unread_roles : Roles IsPart unread
  roles : Roles IsPart done
  unread_nested : Nested_in p q unread
  nested : Nested_in p q done
  tiled : Covered p q unread
  unread_valid : PiecesValid bytes unread
  is_valid : PiecesValid bytes done
  parts : PartsWhole bytes unread
  filled : PartsRead bytes unread done
  between : IsPlace bytes a → IsPlace bytes e → AreBetween bytes done
  parted : PrefixesAtLineStart bytes done
  -- none ends a line, or begins or ends a leaf, and an outline knows their names
  unread_others : AreOthers unread
  others : AreOthers done
  known : clear bytes a ≡ true → AreKnown bytes done

part-of : (bytes : List ℕ) (a e p q : Point) (us es : List Event) → Stretch IsPart bytes p q us es →
    (IsPlace bytes a → IsPlace bytes e → AreBetween bytes es) → AreOthers us → AreOthers es →
    (clear bytes a ≡ true → AreKnown bytes es) → FencePart bytes a e p q us es
part-of bytes a e p q us es h between us_others others known = record {
  unread_roles = h.unread_roles;
  roles = h.roles;
  unread_nested = h.unread_nested;
  nested = h.nested;
  tiled = h.tiled;
  unread_valid = h.unread_valid;
  is_valid = h.is_valid;
  parts = h.parts;
  filled = h.filled;
  between = between;
  parted = h.parted;
  unread_others = us_others;
  others = others;
  known = known;
}

-- one after the other
part-append : (bytes : List ℕ) (a e p q r : Point) (us vs es fs : List Event) → FencePart bytes a e p q us es →
    FencePart bytes a e q r vs fs → FencePart bytes a e p r (us ++ vs) (es ++ fs)
part-append bytes a e p q r us vs es fs h k = record {
  unread_roles = roles-append IsPart us vs h.unread_roles k.unread_roles;
  roles = roles-append IsPart es fs h.roles k.roles;
  unread_nested = nested_in-append p q r us vs h.unread_nested k.unread_nested;
  nested = nested_in-append p q r es fs h.nested k.nested;
  tiled = tiled-append p q r us vs h.tiled k.tiled;
  unread_valid = is_valid-append bytes us vs h.unread_valid k.unread_valid;
  is_valid = is_valid-append bytes es fs h.is_valid k.is_valid;
  parts = valid-append bytes us vs h.parts k.parts;
  filled = fill-append bytes us es vs fs h.filled k.filled;
  between = λ first last. between-append bytes es fs (h.between first last) (k.between first last);
  parted = sits-append bytes es fs h.parted k.parted;
  unread_others = others-append us vs h.unread_others k.unread_others;
  others = others-append es fs h.others k.others;
  known = λ first. known-append bytes es fs (h.known first) (k.known first);
}

-- Markers.

-- they are of ASCII
run-low : (least c : ℕ) (ys : List ℕ) → is_low c ≡ true → is_run least c ys ≡ true → list_all is_low ys ≡ true
run-low least c ys low h =
    all-more (λ b. b == c) is_low ys (λ b e. same b c low e)
    (and_parts (nat_le least (length ys)) (list_all (λ b. b == c) ys) h).1
  where
    same : (b c : ℕ) → is_low c ≡ true → (b == c) ≡ true → is_low b ≡ true
    same b c low e = grind (arith, nat_tests)

marks-low : (m : ℕ) (ys : List ℕ) → may_cover (sequence_name m) ys ≡ true → list_all is_low ys ≡ true
marks-low m ys h = go (m == 36) h
  where
    by : (x : Bool) → is_run 3 96 ys ≡ x → x || is_run 3 126 ys ≡ true → list_all is_low ys ≡ true
    by true e k = run-low 3 96 ys refl e
    by false e k = run-low 3 126 ys refl k

    go : (x : Bool) → may_cover (cond x n.MathFlowFenceSequence n.CodeFencedFenceSequence) ys ≡ true →
        list_all is_low ys ≡ true
    go true h = run-low 2 36 ys refl h
    go false h = by (is_run 3 96 ys) refl h

-- what holds of their names
marks-by : (P : Name → Type 0) → P n.MathFlowFenceSequence → P n.CodeFencedFenceSequence → (m : ℕ) →
    P (sequence_name m)
marks-by P math code m = by-math P (m == 36) n.MathFlowFenceSequence n.CodeFencedFenceSequence math code

-- What holds of the names of texts.
text-by : (P : Name → Type 0) → P n.CodeFencedFenceInfo → P n.CodeFencedFenceMeta → P n.MathFlowFenceMeta →
    (name : Name) → is_text_name name ≡ true → P name
text-by P info meta math n.CodeFencedFenceInfo e = info
text-by P info meta math n.CodeFencedFenceMeta e = meta
text-by P info meta math n.MathFlowFenceMeta e = math
text-by P info meta math _ e = cc

-- Each part.

past-clear : (bytes : List ℕ) (b : ℕ) (bs : List ℕ) (p : Point) → clear bytes (past_text (b ∷ bs) p) ≡ true
past-clear bytes b bs p = whole-clear bytes (past_text (b ∷ bs) p) (past-whole (b ∷ bs) p (omega arith))

recorded : (bytes : List ℕ) (name : Name) (p : Point) → clear bytes p ≡ true →
    (not (is_recorded (role name)) || clear bytes p) ≡ true
recorded bytes name p h = or_right (not (is_recorded (role name))) (clear bytes p) h

fence-walks : (bytes : List ℕ) (a e : Point) →
    Walks bytes linked (read_inner bytes) (IsInFence bytes a e) (FencePart bytes a e)
fence-walks bytes a e = record {
  following_white = λ b bs rest p is blank.
      (λ first last. low-following bytes b bs rest p is (blank-low (b ∷ bs) blank), λ first. past-clear bytes b bs p);
  before_white = λ b rest p is white.
      let low = subst (λ (c : ℕ). is_low c ≡ true) (sym (at-next p.index bytes b rest is)) (white-low b white) in
      (λ first last. between-before bytes p.index low, λ first. low-clear bytes p (λ some. low));
  after_marks = λ m b bs rest p is over.
      (λ first last. low-following bytes b bs rest p is (marks-low m (b ∷ bs) over), λ first. past-clear bytes b bs p);
  none = λ p.
      part-of bytes a e p p [] [] (stretch-none IsPart bytes p) (λ first last. refl) refl refl
      (λ first. known-none bytes);
  append = λ p q r xs ys zs ws mid h k. part-append bytes a e p q r xs ys zs ws h k;
  white = λ b bs rest p mid end is cut blank.
      let q = past_text (b ∷ bs) p in
      let es = pair n.SpaceOrTab p q in
      let h = stretch-pair IsPart bytes n.SpaceOrTab p q
      (white-piece IsPart bytes tt) (before-text (b ∷ bs) p)
      (over-valid bytes n.SpaceOrTab p q (b ∷ bs) (over-front bytes p q (b ∷ bs) rest is (omega arith) refl)
      (begins-cut n.SpaceOrTab p refl) blank) in
      part-of bytes a e p q es es h (λ first last. h.between (mid.0 first last) (end.0 first last)) refl refl
      (λ first. known-around bytes n.SpaceOrTab p q [] refl refl refl (known-none bytes));
  marks = λ m b bs rest p mid end at over.
      let q = past_text (b ∷ bs) p in
      let name = sequence_name m in
      let es = pair name p q in
      let other = others-around name p q [] (marks-by Other refl refl m) refl in
      let h = stretch-pair IsPart bytes name p q
      (record {
        role_is = marks-by (λ x. IsPart (role x)) tt tt m;
        no_part = marks-by (λ x. part_kind x ≡ None) refl refl m;
        parted = λ x y. marks-by (λ z. PrefixesAtLineStart bytes (pair z x y)) (λ ys k. k) (λ ys k. k) m;
      }) (before-text (b ∷ bs) p)
      (over-valid bytes name p q (b ∷ bs) (over-front bytes p q (b ∷ bs) rest at.valid (omega arith) refl)
      (begins-whole name p at.whole) over) in
      part-of bytes a e p q es es h (λ first last. h.between (mid.0 first last) (end.0 first last)) other other
      (λ first. known-around bytes name p q [] (marks-by (λ x. is_unlisted (role x) ≡ true) refl refl m)
      (recorded bytes name p (mid.1 first)) (recorded bytes name q (end.1 first)) (known-none bytes));
  text = λ name b bs rest p is mid end at.
      let q = past_text (b ∷ bs) p in
      let es = plain_chunk bytes (record { first = p; after = q }) ++ [] in
      let other = text-by Other refl refl refl name is in
      let h = stretch-text IsPart bytes name String string_link b bs rest p
      (record {
        role_is = text-by (λ x. IsPart (role x)) tt tt tt name is;
        piece = tt;
        kind_is = text-by (λ x. part_kind x ≡ Some String) refl refl refl name is;
        parted = λ x y.
            text-by (λ z. PrefixesAtLineStart bytes (around z x y (pair n.Data x y))) (λ ys k. k) (λ ys k. k)
            (λ ys k. k) name is;
      }) refl at in
      part-of bytes a e p q (around name p q (linked p q)) (around name p q es) h
      (λ first last. h.between (mid.0 first last) (end.0 first last)) (others-around name p q (linked p q) other refl)
      (others-around name p q es other
      (subst (λ (l : List Event). AreOthers (l ++ [])) (sym (chunk-is bytes b bs rest p at)) refl))
      (λ first. known-around bytes name p q es (text-by (λ x. is_unlisted (role x) ≡ true) refl refl refl name is)
      (recorded bytes name p (mid.1 first)) (recorded bytes name q (end.1 first))
      (known-append bytes (plain_chunk bytes (record { first = p; after = q })) []
      (chunk-plain bytes (record { first = p; after = q })).known (known-none bytes)));
}

-- What is in a fence.
pub record FenceInside (bytes : List ℕ) (p q : Point) (unread done : List Event) : Type 0 where
  pub stretch : Stretch IsPart bytes p q unread done
  pub unread_others : AreOthers unread
  pub others : AreOthers done
  pub known : clear bytes p ≡ true → AreKnown bytes done

pub fence-inside : (options : ParseOptions) (bytes line rest : List ℕ) (p : Point) → Laid options bytes line p rest →
    let text = trim_start line in
    let m = first_byte text in
    let q = past_white line p in
    FenceInside bytes q (past_text line p) (fence_parts linked m text q) (fence_parts (read_inner bytes) m text q)
fence-inside options bytes line rest p is =
    subst
    (λ (x : Point).
    FenceInside bytes q x (fence_parts linked (first_byte text) text q)
    (fence_parts (read_inner bytes) (first_byte text) text q)) is.ends
    (record {
      stretch = record {
        unread_roles = all.unread_roles;
        roles = all.roles;
        unread_nested = all.unread_nested;
        nested = all.nested;
        tiled = all.tiled;
        unread_valid = all.unread_valid;
        is_valid = all.is_valid;
        parts = all.parts;
        filled = all.filled;
        between = all.between;
        parted = all.parted;
      };
      unread_others = all.unread_others;
      others = all.others;
      known = all.known;
    })
  where
    text : List ℕ
    text = trim_start line

    q : Point
    q = past_white line p

    end : Point
    end = past_text (trim_start line) (past_white line p)

    all :
        FencePart bytes q end q end (fence_parts linked (first_byte text) text q)
        (fence_parts (read_inner bytes) (first_byte text) text q)
    all =
        parts-walk options bytes linked (read_inner bytes) (IsInFence bytes q end) (FencePart bytes q end)
        (fence-walks bytes q end) text rest q is.fence (λ first last. first, λ first. first)
        (λ first last. last, λ first. whole-clear bytes end (past_text-whole text q is.at.whole)) is.at
