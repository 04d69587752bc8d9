-- What holds of the parts of a fence one by one holds of all of it.
use Rattle.std.proofs.Common.{◌≡◌, ℕ, Bool, true, false, cond, ◌&&◌, ◌||◌, List, [], ◌∷◌, ◌++◌, length, take, drop}
use Rattle.std.proofs.Common.{refl, sym, ap, ◌∙◌, subst, append_assoc}
use Rattle.std.specs.Prelude.{◌==◌, nat_le, not}
use Rattle.std.specs.List.{list_all, prefix_len}
use Rattle.std.proofs.lemmas.Bool.{and_from, eqb-true, or_left, or_right}
use Rattle.std.proofs.lemmas.List.{take-append-drop}
use Rattle.md_engine.specs.declared.configuration.ParseOptions.{ParseOptions}
use Rattle.md_engine.specs.declared.event.Event.{Event}
use Rattle.md_engine.specs.declared.event.Name.{Name}
use Rattle.md_engine.specs.declared.event.Name.TheVariants as n
use Rattle.md_engine.specs.declared.event.Point.{Point}
use Rattle.md_meaning.specs.Leaves.{first_word}
use Rattle.md_meaning.specs.Rest.{is_blank, is_white, run_len, trim_start}
use Rattle.md_meaning.specs.Texts.{first_byte}
use Rattle.md_meaning.proofs.TextsLemmas.{NoEnding, no_ending-drop}
use Rattle.md_literal.specs.Fence.{meta_name, sequence_name}
use Rattle.md_events.proofs.RestLines.{count-none, count-one}
use Rattle.md_literal.proofs.FenceParts.{prefix-take}
use Rattle.md_events.specs.Events.Nested.{around, pair}
use Rattle.md_events.specs.Events.Pieces.{is_run, may_cover}
use Rattle.md_events.specs.Events.Places.{past_text}
use Rattle.md_events.proofs.FeedLines.{past_text-whole}
use Rattle.md_events.proofs.InlineLemmas.{past_text-append}
use Rattle.proof_literal_laws.specs.Leaf.Fence.{Inner, after_parts, fence_parts, past_white, text_part, text_parts}
use Rattle.proof_literal_laws.specs.Leaf.Fence.{white_part, word_parts}
use Rattle.proof_literal_laws.proofs.Fence.Opened.{IsFence}
use Rattle.proof_frame.proofs.LineTexts.{no_ending-parts}
use Rattle.proof_frame.proofs.PieceFacts.{CutsFirst, whole-first}
use Rattle.proof_frame.proofs.LineWalk.{At, past-valid}

-- so many of them, and those after
pub at-take : (bytes xs rest : List ℕ) (p : Point) (k : ℕ) → At bytes xs p rest →
    At bytes (take k xs) p (drop k xs ++ rest)
at-take bytes xs rest p k is =
    let cut = take-append-drop k xs in
    record {
      valid = is.valid ∙ ap (λ (l : List ℕ). l ++ rest) (sym cut) ∙ append_assoc (take k xs) (drop k xs) rest;
      none = (no_ending-parts (take k xs) (drop k xs) (subst NoEnding (sym cut) is.none)).0;
      whole = is.whole;
    }

pub at-drop : (bytes xs rest : List ℕ) (p : Point) (k : ℕ) → At bytes xs p rest →
    At bytes (drop k xs) (past_text (take k xs) p) rest
at-drop bytes xs rest p k is =
    let front = at-take bytes xs rest p k is in
    record {
      valid = past-valid bytes (take k xs) (drop k xs ++ rest) p front.valid;
      none = no_ending-drop k xs is.none;
      whole = past_text-whole (take k xs) p is.whole;
    }

-- nothing, or whitespace first
abbrev pub CutsWord : List ℕ → Type 0
CutsWord [] = Unit {0}
CutsWord (b ∷ bs) = is_white b ≡ true

-- a name of info or of meta
abbrev pub is_text_name : Name → Bool
is_text_name n.CodeFencedFenceInfo = true
is_text_name n.CodeFencedFenceMeta = true
is_text_name n.MathFlowFenceMeta = true
is_text_name _ = false

meta-text : (m : ℕ) → is_text_name (meta_name m) ≡ true
meta-text m = go (m == 36)
  where
    go : (x : Bool) → is_text_name (cond x n.MathFlowFenceMeta n.CodeFencedFenceMeta) ≡ true
    go true = refl
    go false = refl

-- What holds of nothing and of each part holds of parts one after the other, if what is asked of the places between
-- them does: after whitespace and before it, and after markers.
pub record Walks (bytes : List ℕ) (inner read : Inner) (M : Point → Type 0) (Q : Point → Point → List Event →
    List Event → Type 0) : Type 0
  where
    pub following_white : (b : ℕ) (bs rest : List ℕ) (p : Point) → drop p.index bytes ≡ (b ∷ bs) ++ rest →
        is_blank (b ∷ bs) ≡ true → M (past_text (b ∷ bs) p)
    pub before_white : (b : ℕ) (rest : List ℕ) (p : Point) → drop p.index bytes ≡ b ∷ rest → is_white b ≡ true → M p
    pub after_marks : (m b : ℕ) (bs rest : List ℕ) (p : Point) → drop p.index bytes ≡ (b ∷ bs) ++ rest →
        may_cover (sequence_name m) (b ∷ bs) ≡ true → M (past_text (b ∷ bs) p)
    pub none : (p : Point) → Q p p [] []
    pub append : (p q r : Point) (xs ys zs ws : List Event) → M q → Q p q xs zs → Q q r ys ws →
        Q p r (xs ++ ys) (zs ++ ws)
    pub white : (b : ℕ) (bs rest : List ℕ) (p : Point) → M p → M (past_text (b ∷ bs) p) →
        drop p.index bytes ≡ (b ∷ bs) ++ rest → CutsFirst p (b ∷ bs) → is_blank (b ∷ bs) ≡ true →
        Q p (past_text (b ∷ bs) p) (pair n.SpaceOrTab p (past_text (b ∷ bs) p))
        (pair n.SpaceOrTab p (past_text (b ∷ bs) p))
    pub marks : (m b : ℕ) (bs rest : List ℕ) (p : Point) → M p → M (past_text (b ∷ bs) p) → At bytes (b ∷ bs) p rest →
        may_cover (sequence_name m) (b ∷ bs) ≡ true →
        Q p (past_text (b ∷ bs) p) (pair (sequence_name m) p (past_text (b ∷ bs) p))
        (pair (sequence_name m) p (past_text (b ∷ bs) p))
    pub text : (name : Name) (b : ℕ) (bs rest : List ℕ) (p : Point) → is_text_name name ≡ true → M p →
        M (past_text (b ∷ bs) p) → At bytes (b ∷ bs) p rest →
        Q p (past_text (b ∷ bs) p)
        (around name p (past_text (b ∷ bs) p) (inner p (past_text (b ∷ bs) p)))
        (around name p (past_text (b ∷ bs) p) (read p (past_text (b ∷ bs) p)))

-- whitespace in front is blank
pub front-blank : (xs : List ℕ) → is_blank (take (prefix_len is_white xs) xs) ≡ true
front-blank [] = refl
front-blank (b ∷ bs) = go (is_white b) refl (front-blank bs)
  where
    go : (x : Bool) → is_white b ≡ x → is_blank (take (prefix_len is_white bs) bs) ≡ true →
        is_blank (take (prefix_len is_white (b ∷ bs)) (b ∷ bs)) ≡ true
    go true e more =
        ap (λ (k : ℕ). is_blank (take k (b ∷ bs))) (count-one is_white b bs e)
        ∙ and_from (is_white b) (is_blank (take (prefix_len is_white bs) bs)) e more
    go false e more = ap (λ (k : ℕ). is_blank (take k (b ∷ bs))) (count-none is_white b bs e)

-- The whitespace before some bytes: where it ends, and its events.
pub white-mid : (bytes : List ℕ) (inner read : Inner) (M : Point → Type 0) (Q : Point → Point → List Event →
    List Event → Type 0) →
    Walks bytes inner read M Q → (xs rest : List ℕ) (p : Point) → drop p.index bytes ≡ xs ++ rest → M p →
    M (past_white xs p)
white-mid bytes inner read M Q walks xs rest p is mid =
    go (take k xs) (front-blank xs)
    (is ∙ ap (λ (l : List ℕ). l ++ rest) (sym (take-append-drop k xs)) ∙ append_assoc (take k xs) (drop k xs) rest)
  where
    k : ℕ
    k = prefix_len is_white xs

    go : (front : List ℕ) → is_blank front ≡ true → drop p.index bytes ≡ front ++ (drop k xs ++ rest) →
        M (past_text front p)
    go [] blank is = mid
    go (b ∷ bs) blank is = walks.following_white b bs (drop k xs ++ rest) p is blank

pub white-walks : (bytes : List ℕ) (inner read : Inner) (M : Point → Type 0) (Q : Point → Point → List Event →
    List Event → Type 0) →
    Walks bytes inner read M Q → (xs rest : List ℕ) (p : Point) → drop p.index bytes ≡ xs ++ rest → CutsFirst p xs →
    M p →
    Q p (past_white xs p) (white_part xs p) (white_part xs p)
white-walks bytes inner read M Q walks [] rest p is cut mid = walks.none p
white-walks bytes inner read M Q walks (b ∷ bs) rest p is cut mid = go (is_white b) refl
  where
    left : List ℕ
    left = take (prefix_len is_white bs) bs

    following : List ℕ
    following = drop (prefix_len is_white bs) bs ++ rest

    valid : drop p.index bytes ≡ (b ∷ left) ++ following
    valid =
        is
        ∙ ap (λ (l : List ℕ). b ∷ (l ++ rest)) (sym (take-append-drop (prefix_len is_white bs) bs))
        ∙ ap (λ (l : List ℕ). b ∷ l) (append_assoc left (drop (prefix_len is_white bs) bs) rest)

    go : (x : Bool) → is_white b ≡ x →
        Q p (past_white (b ∷ bs) p) (cond x (pair n.SpaceOrTab p (past_white (b ∷ bs) p)) [])
        (cond x (pair n.SpaceOrTab p (past_white (b ∷ bs) p)) [])
    go true e =
        let blank : is_blank (b ∷ left) ≡ true = and_from (is_white b) (is_blank left) e (front-blank bs) in
        subst
        (λ (k : ℕ).
        let q = past_text (take k (b ∷ bs)) p in Q p q (pair n.SpaceOrTab p q) (pair n.SpaceOrTab p q))
        (sym (count-one is_white b bs e))
        (walks.white b left following p mid (walks.following_white b left following p valid blank) valid cut blank)
    go false e =
        subst (λ (k : ℕ). Q p (past_text (take k (b ∷ bs)) p) [] []) (sym (count-none is_white b bs e)) (walks.none p)

-- A part of text.
part-walks : (bytes : List ℕ) (inner read : Inner) (M : Point → Type 0) (Q : Point → Point → List Event →
    List Event → Type 0) →
    Walks bytes inner read M Q → (name : Name) (xs rest : List ℕ) (p : Point) → is_text_name name ≡ true → M p →
    M (past_text xs p) → At bytes xs p rest → Q p (past_text xs p) (text_part inner name xs p)
    (text_part read name xs p)
part-walks bytes inner read M Q walks name [] rest p is mid end at = walks.none p
part-walks bytes inner read M Q walks name (b ∷ bs) rest p is mid end at = walks.text name b bs rest p is mid end at

-- where bytes end, after so many of them
ends-following : (xs : List ℕ) (p : Point) (k : ℕ) → past_text (drop k xs) (past_text (take k xs) p) ≡ past_text xs p
ends-following xs p k =
    sym (past_text-append (take k xs) (drop k xs) p) ∙ ap (λ (l : List ℕ). past_text l p) (take-append-drop k xs)

-- what is left after a word begins with whitespace, or is nothing
pub following-first : (xs : List ℕ) → CutsWord (drop (prefix_len (λ b. not (is_white b)) xs) xs)
following-first [] = tt
following-first (b ∷ bs) = go (is_white b) refl (following-first bs)
  where
    t : ℕ → Bool
    t c = not (is_white c)

    go : (x : Bool) → is_white b ≡ x → CutsWord (drop (prefix_len t bs) bs) →
        CutsWord (drop (prefix_len t (b ∷ bs)) (b ∷ bs))
    go true e more = subst (λ (k : ℕ). CutsWord (drop k (b ∷ bs))) (sym (count-none t b bs (ap not e))) e
    go false e more = subst (λ (k : ℕ). CutsWord (drop k (b ∷ bs))) (sym (count-one t b bs (ap not e))) more

-- Info, whitespace and meta.
texts-walk : (bytes : List ℕ) (inner read : Inner) (M : Point → Type 0) (Q : Point → Point → List Event →
    List Event → Type 0) →
    Walks bytes inner read M Q → (m : ℕ) (xs rest : List ℕ) (p : Point) → M p → M (past_text xs p) →
    At bytes xs p rest →
    Q p (past_text xs p) (text_parts inner m xs p) (text_parts read m xs p)
texts-walk bytes inner read M Q walks m xs rest p mid end at = go (m == 36)
  where
    size : ℕ
    size = prefix_len (λ b. not (is_white b)) xs

    word : List ℕ
    word = first_word xs

    left : List ℕ
    left = drop (length word) xs

    long : length word ≡ size
    long = prefix-take (λ b. not (is_white b)) xs

    q : Point
    q = past_text word p

    at_left : At bytes left q rest
    at_left = subst (λ (k : ℕ). At bytes (drop k xs) (past_text word p) rest) (sym long)
        (at-drop bytes xs rest p size at)

    -- the word ends with the line, or before whitespace
    left_first : CutsWord left
    left_first = subst (λ (k : ℕ). CutsWord (drop k xs)) (sym long) (following-first xs)

    left_end : past_text left q ≡ past_text xs p
    left_end =
        ap (λ (k : ℕ). past_text (drop k xs) (past_text word p)) long ∙ ends-following xs p size

    mid_left : M q
    mid_left = by left left_first at_left.valid left_end
      where
        by : (l : List ℕ) → CutsWord l → drop q.index bytes ≡ l ++ rest → past_text l q ≡ past_text xs p → M q
        by [] first valid e = subst M (sym e) end
        by (b ∷ bs) first valid e = walks.before_white b (bs ++ rest) q valid first

    v : Point
    v = past_white left q

    mid_meta : M v
    mid_meta = white-mid bytes inner read M Q walks left rest q at_left.valid mid_left

    meta_end : past_text (trim_start left) v ≡ past_text xs p
    meta_end = ends-following left q (prefix_len is_white left) ∙ left_end

    white : Q q v (white_part left q) (white_part left q)
    white =
        white-walks bytes inner read M Q walks left rest q at_left.valid (whole-first q left at_left.whole) mid_left

    info : Q p q (text_part inner n.CodeFencedFenceInfo word p) (text_part read n.CodeFencedFenceInfo word p)
    info =
        part-walks bytes inner read M Q walks n.CodeFencedFenceInfo word (drop size xs ++ rest) p refl mid mid_left
        (at-take bytes xs rest p size at)

    meta :
        Q v (past_text xs p) (text_part inner (meta_name m) (trim_start left) v)
        (text_part read (meta_name m) (trim_start left) v)
    meta =
        subst
        (λ (e : Point).
        Q v e (text_part inner (meta_name m) (trim_start left) v) (text_part read (meta_name m) (trim_start left) v))
        meta_end
        (part-walks bytes inner read M Q walks (meta_name m) (trim_start left) rest v (meta-text m) mid_meta
        (subst M (sym meta_end) end)
        (at-drop bytes left rest q (prefix_len is_white left) at_left))

    go : (math : Bool) →
        Q p (past_text xs p) (cond math (text_part inner (meta_name m) xs p) (word_parts inner m xs p))
        (cond math (text_part read (meta_name m) xs p) (word_parts read m xs p))
    go true = part-walks bytes inner read M Q walks (meta_name m) xs rest p (meta-text m) mid end at
    go false =
        walks.append p v (past_text xs p) (text_part inner n.CodeFencedFenceInfo word p ++ white_part left q)
        (text_part inner (meta_name m) (trim_start left) v)
        (text_part read n.CodeFencedFenceInfo word p ++ white_part left q)
        (text_part read (meta_name m) (trim_start left) v) mid_meta
        (walks.append p q v (text_part inner n.CodeFencedFenceInfo word p) (white_part left q)
        (text_part read n.CodeFencedFenceInfo word p) (white_part left q) mid_left info white)
        meta

-- What follows the sequence.
following-walks : (bytes : List ℕ) (inner read : Inner) (M : Point → Type 0) (Q : Point → Point → List Event →
    List Event → Type 0) →
    Walks bytes inner read M Q → (m : ℕ) (xs rest : List ℕ) (p : Point) → M p → M (past_text xs p) →
    At bytes xs p rest →
    Q p (past_text xs p) (after_parts inner m xs p) (after_parts read m xs p)
following-walks bytes inner read M Q walks m xs rest p mid end at =
    let k = prefix_len is_white xs in
    let q = past_white xs p in
    let mid_text = white-mid bytes inner read M Q walks xs rest p at.valid mid in
    let e = ends-following xs p k in
    walks.append p q (past_text xs p) (white_part xs p) (text_parts inner m (trim_start xs) q) (white_part xs p)
    (text_parts read m (trim_start xs) q) mid_text
    (white-walks bytes inner read M Q walks xs rest p at.valid (whole-first p xs at.whole) mid)
    (subst (λ (x : Point). Q q x (text_parts inner m (trim_start xs) q) (text_parts read m (trim_start xs) q)) e
    (texts-walk bytes inner read M Q walks m (trim_start xs) rest q mid_text (subst M (sym e) end)
    (at-drop bytes xs rest p k at)))

-- Markers.

run-all : (m : ℕ) (xs : List ℕ) → list_all (λ b. b == m) (take (run_len m xs) xs) ≡ true
run-all m [] = refl
run-all m (b ∷ bs) = go (b == m) refl (run-all m bs)
  where
    go : (x : Bool) → (b == m) ≡ x → list_all (λ b. b == m) (take (run_len m bs) bs) ≡ true →
        list_all (λ b. b == m) (take (run_len m (b ∷ bs)) (b ∷ bs)) ≡ true
    go true e more =
        ap (λ (k : ℕ). list_all (λ b. b == m) (take k (b ∷ bs))) (count-one (λ c. c == m) b bs e)
        ∙ and_from (b == m) (list_all (λ b. b == m) (take (run_len m bs) bs)) e more
    go false e more =
        ap (λ (k : ℕ). list_all (λ b. b == m) (take k (b ∷ bs))) (count-none (λ c. c == m) b bs e)

-- the sequence of a fence is over its markers
pub sequence-over : (options : ParseOptions) (xs : List ℕ) → IsFence options xs →
    may_cover (sequence_name (first_byte xs)) (take (run_len (first_byte xs) xs) xs) ≡ true
sequence-over options xs is =
    go (m == 36) refl (m == 96) refl (m == 126) refl is.marker is.size (run-all m xs) (prefix-take (λ b. b == m) xs)
  where
    m : ℕ
    m = first_byte xs

    ys : List ℕ
    ys = take (run_len (first_byte xs) xs) xs

    run : (c least : ℕ) → (m == c) ≡ true → nat_le least (run_len m xs) ≡ true → list_all (λ b. b == m) ys ≡ true →
        length ys ≡ run_len m xs → is_run least c ys ≡ true
    run c least e size all long =
        and_from (nat_le least (length ys)) (list_all (λ b. b == c) ys) (ap (nat_le least) long ∙ size)
        (subst (λ (d : ℕ). list_all (λ b. b == d) ys ≡ true) (eqb-true m c e) all)

    go : (x : Bool) → (m == 36) ≡ x → (y : Bool) → (m == 96) ≡ y → (z : Bool) → (m == 126) ≡ z →
        cond x options.constructs.math_flow (options.constructs.code_fenced && (y || z)) ≡ true →
        nat_le (cond x 2 3) (run_len m xs) ≡ true → list_all (λ b. b == m) ys ≡ true → length ys ≡ run_len m xs →
        may_cover (cond x n.MathFlowFenceSequence n.CodeFencedFenceSequence) ys ≡ true
    go true f y g z h on size all long = run 36 2 f size all long
    go false f true g z h on size all long = or_left (is_run 3 96 ys) (is_run 3 126 ys) (run 96 3 g size all long)
    go false f false g true h on size all long = or_right (is_run 3 96 ys) (is_run 3 126 ys) (run 126 3 h size all long)
    go false f false g false h on size all long =
        absurd (none options.constructs.code_fenced on)
      where
        none : (x : Bool) → x && false ≡ true → ⊥
        none true k = cc
        none false k = cc

-- What is in the fence.
pub parts-walk : (options : ParseOptions) (bytes : List ℕ) (inner read : Inner) (M : Point → Type 0)
    (Q : Point → Point → List Event → List Event → Type 0) →
    Walks bytes inner read M Q → (xs rest : List ℕ) (p : Point) → IsFence options xs → M p → M (past_text xs p) →
    At bytes xs p rest →
    Q p (past_text xs p) (fence_parts inner (first_byte xs) xs p) (fence_parts read (first_byte xs) xs p)
parts-walk options bytes inner read M Q walks xs rest p is mid end at =
    let e = ends-following xs p size in
    by (take size xs) (at-take bytes xs rest p size at) (sequence-over options xs is)
    (at-drop bytes xs rest p size at) e
  where
    m : ℕ
    m = first_byte xs

    size : ℕ
    size = run_len (first_byte xs) xs

    by : (ys : List ℕ) → At bytes ys p (drop size xs ++ rest) → may_cover (sequence_name m) ys ≡ true →
        At bytes (drop size xs) (past_text ys p) rest →
        past_text (drop size xs) (past_text ys p) ≡ past_text xs p →
        Q p (past_text xs p)
        (pair (sequence_name m) p (past_text ys p) ++ after_parts inner m (drop size xs) (past_text ys p))
        (pair (sequence_name m) p (past_text ys p) ++ after_parts read m (drop size xs) (past_text ys p))
    by [] here over following e = absurd (none (m == 36) over)
      where
        none : (x : Bool) → may_cover (cond x n.MathFlowFenceSequence n.CodeFencedFenceSequence) [] ≡ true → ⊥
        none true k = cc
        none false k = cc
    by (b ∷ bs) here over following e =
        let q = past_text (b ∷ bs) p in
        let next = walks.after_marks m b bs (drop size xs ++ rest) p here.valid over in
        walks.append p q (past_text xs p) (pair (sequence_name m) p q) (after_parts inner m (drop size xs) q)
        (pair (sequence_name m) p q) (after_parts read m (drop size xs) q) next
        (walks.marks m b bs (drop size xs ++ rest) p mid next here over)
        (subst (λ (x : Point). Q q x (after_parts inner m (drop size xs) q) (after_parts read m (drop size xs) q)) e
        (following-walks bytes inner read M Q walks m (drop size xs) rest q next (subst M (sym e) end) following))
