-- The walk over a heading's line gives its parts, with its text as one part.
use Rattle.std.proofs.Common.{◌≡◌, ℕ, suc, ◌+◌, ◌≤◌, Bool, true, false, ◌||◌, List, [], ◌∷◌, ◌++◌, length, get_or, take}
use Rattle.std.proofs.Common.{drop, Option, Some, None, refl, sym, ◌∙◌, ap, arith, append_assoc, length-append}
use Rattle.std.specs.Prelude.{◌==◌, nat_le}
use Rattle.std.specs.List.{AllPass, prefix_len}
use Rattle.std.proofs.lemmas.Bool.{and_parts, eqb-true, false≢true}
use Rattle.std.proofs.lemmas.Bool.Decides.{nat_tests}
use Rattle.std.proofs.lemmas.List.{drop_at, take_at}
use Rattle.std.proofs.lemmas.List.Elements.{All-append, All-nil}
use Rattle.md_engine.specs.declared.event.Event.{Event}
use Rattle.md_engine.specs.declared.event.Name.TheVariants as n
use Rattle.md_engine.specs.declared.event.Point.{Point}
use Rattle.md_leaves.specs.HeadingRule.{is_heading, is_opening}
use Rattle.md_leaves.specs.HeadingRuns.{Apart, chunk_unless_empty, line_runs, linked_data, text_events}
use Rattle.md_leaves.specs.HeadingText.{Before, Opened, Outside, Within, linked_text, resolved, text_between}
use Rattle.md_leaves.specs.HeadingTitle.{flow_title, front_len, text_of, title_of, unread_title}
use Rattle.md_leaves.proofs.TitleRuns.{before-hashes, before-white, hash-runs, is_hash, opened-white, pass-first}
use Rattle.md_leaves.proofs.TitleRuns.{pass-rest, three-runs, three_runs, within-hashes, within-white}
use Rattle.md_leaves.proofs.TitleTexts.{Parted, Shape, parted, text_in}
use Rattle.md_meaning.specs.Bytes.{begins}
use Rattle.md_meaning.specs.Leaves.{heading_text}
use Rattle.md_meaning.specs.Rest.{is_white, run_len, trim_start}
use Rattle.md_events.specs.declared.inline.Chunk.{Chunk}
use Rattle.md_events.specs.Events.Nested.{exit}
use Rattle.md_events.specs.Events.Places.{past_text}
use Rattle.md_events.proofs.InlineLemmas.{past_text-append}

-- the end of a heading, and what follows
abbrev ended : Point → List Event → List Event
ended q es = exit n.HeadingAtx q ∷ es

-- at the end of the heading its text is set
ends-white : (white : List ℕ) (p q first : Point) (after last : Option Point) (closing since es : List Event) →
    AllPass is_white white →
    resolved (Within first after last closing since) (line_runs Apart white p ++ ended q es) ≡
    text_between first after ++ (closing ++ (since ++ (line_runs Apart white p ++ ended q (resolved Outside es))))
ends-white white p q first after last closing since es w =
    within-white white p first after last closing since (ended q es) w ∙ (simp append_assoc)

-- after a text, if there is one: a closing sequence and whitespace, each of which may be there or not
ends-hashes : (hashes more : List ℕ) (p q first : Point) (after : Option Point) (since es : List Event) →
    AllPass is_hash hashes → AllPass is_white more →
    let left = line_runs Apart more (past_text hashes p) in
    resolved (Within first after after [] since) (line_runs Apart hashes p ++ (left ++ ended q es)) ≡
    text_between first after ++ (since ++ (line_runs Apart hashes p ++ (left ++ ended q (resolved Outside es))))
ends-hashes [] more p q first after since es h m = ends-white more p q first after after [] since es m
ends-hashes (b ∷ bs) more p q first after since es h m =
    let r = past_text (b ∷ bs) p in
    within-hashes b bs p first after after [] since (line_runs Apart more r ++ ended q es) h
    ∙ ends-white more r q first after (Some r) (since ++ line_runs Apart (b ∷ bs) p) [] es m
    ∙ (simp append_assoc)

-- After the whitespace that follows the opening sequence: the text, and what follows it.
ends-text : (text white hashes more : List ℕ) (p q : Point) (es : List Event) → AllPass is_white white →
    AllPass is_hash hashes → AllPass is_white more → begins is_white (hashes ++ more) ≡ false →
    begins is_white (text ++ (white ++ (hashes ++ more))) ≡ false →
    let end = past_text text p in
    let r = past_text white end in
    let left = line_runs Apart more (past_text hashes r) in
    let chunk = chunk_unless_empty (length text) p end in
    resolved Opened
    (linked_data chunk ++ (line_runs Apart white end ++ (line_runs Apart hashes r ++ (left ++ ended q es)))) ≡
    linked_text chunk
    ++ (line_runs Apart white end ++ (line_runs Apart hashes r ++ (left ++ ended q (resolved Outside es))))
ends-text [] [] [] [] p q es w h m apart start = refl
ends-text [] [] [] (b ∷ bs) p q es w h m apart start = absurd (false≢true (sym apart ∙ pass-first is_white b bs m))
ends-text [] [] (b ∷ bs) more p q es w h m apart start =
    rw (hash-runs b bs p h) (ends-white more (past_text (b ∷ bs) p) q p None (Some (past_text (b ∷ bs) p)) _ [] es m)
ends-text [] (b ∷ bs) hashes more p q es w h m apart start =
    absurd (false≢true (sym start ∙ pass-first is_white b bs w))
ends-text (b ∷ bs) white hashes more p q es w h m apart start =
    let end = past_text (b ∷ bs) p in
    let some : (suc (length bs) == 0) ≡ false = grind (arith, nat_tests) in
    rw some
    (within-white white end p (Some end) (Some end) [] [] _ w
    ∙ ends-hashes hashes more (past_text white end) q p (Some end) (line_runs Apart white end) es h m)

-- The whole line.

-- a heading has an opening sequence
pub hashes-some : (line hashes : List ℕ) → length hashes ≡ run_len 35 (trim_start line) →
    is_heading (trim_start line) ≡ true → hashes ≡ [] → ⊥
hashes-some line hashes depth h none =
    let some : nat_le 1 (run_len 35 (trim_start line)) ≡
    true = (and_parts (nat_le 1 (run_len 35 (trim_start line))) (is_opening 0 (trim_start line)) h).0 in
    let zero : run_len 35 (trim_start line) ≡ 0 = sym depth ∙ ap length none in
    let bad : false ≡ true = rw zero at some in
    cc

before-opening : (hashes : List ℕ) (p : Point) (es : List Event) → (hashes ≡ [] → ⊥) → AllPass is_hash hashes →
    resolved Before (line_runs Apart hashes p ++ es) ≡ line_runs Apart hashes p ++ resolved Opened es
before-opening [] p es some h = absurd (some refl)
before-opening (b ∷ bs) p es some h = before-hashes b bs p es h

-- a line in its parts
parts-front : (line : List ℕ) (x : Parted line) → line ≡ (x.indent ++ (x.hashes ++ x.gap)) ++ (text_of line ++ x.back)
parts-front line x = x.whole ∙ (simp append_assoc)

-- where its parts are, by their lengths
pub parts-take : (line : List ℕ) (x : Parted line) → take (front_len line) line ≡ x.indent ++ (x.hashes ++ x.gap)
parts-take line x =
    let front = x.indent ++ (x.hashes ++ x.gap) in
    ap (take (front_len line)) (parts-front line x)
    ∙ take_at front (text_of line ++ x.back) (front_len line) (sym x.front)

parts-text : (line : List ℕ) (x : Parted line) → line ≡ ((x.indent ++ (x.hashes ++ x.gap)) ++ text_of line) ++ x.back
parts-text line x = x.whole ∙ (simp append_assoc)

parts-size : (line : List ℕ) (x : Parted line) →
    length ((x.indent ++ (x.hashes ++ x.gap)) ++ text_of line) ≡ front_len line + length (text_of line)
parts-size line x =
    length-append (x.indent ++ (x.hashes ++ x.gap)) (text_of line)
    ∙ ap (λ (k : ℕ). k + length (text_of line)) (sym x.front)

parts-until : (line : List ℕ) (x : Parted line) →
    take (front_len line + length (text_of line)) line ≡ (x.indent ++ (x.hashes ++ x.gap)) ++ text_of line
parts-until line x =
    let size = front_len line + length (text_of line) in
    ap (take size) (parts-text line x)
    ∙ take_at ((x.indent ++ (x.hashes ++ x.gap)) ++ text_of line) x.back size (parts-size line x)

pub parts-drop : (line : List ℕ) (x : Parted line) → drop (front_len line + length (text_of line)) line ≡ x.back
parts-drop line x =
    let size = front_len line + length (text_of line) in
    ap (drop size) (parts-text line x)
    ∙ drop_at ((x.indent ++ (x.hashes ++ x.gap)) ++ text_of line) x.back size (parts-size line x)

-- the text is after the front, on the line
pub title-text : (line : List ℕ) → take (length (text_of line)) (drop (front_len line) line) ≡ text_of line
title-text line =
    let x = parted line in
    let front = x.indent ++ (x.hashes ++ x.gap) in
    let following : drop (front_len line) line ≡ text_of line ++ x.back =
    ap (drop (front_len line)) (parts-front line x)
    ∙ drop_at front (text_of line ++ x.back) (front_len line) (sym x.front) in
    ap (take (length (text_of line))) following ∙ take_at (text_of line) x.back (length (text_of line)) refl

pub title-fits : (line : List ℕ) → front_len line + length (text_of line) ≤ length line
title-fits line =
    let x = parted line in
    let whole : length line ≡
    length ((x.indent ++ (x.hashes ++ x.gap)) ++ text_of line) + length x.back = ap length (parts-text line x)
    ∙ length-append ((x.indent ++ (x.hashes ++ x.gap)) ++ text_of line) x.back in
    let size : length ((x.indent ++ (x.hashes ++ x.gap)) ++ text_of line) ≡
    front_len line + length (text_of line) = parts-size line x in
    omega arith

-- the runs before the text
pub front-runs : (line : List ℕ) (x : Parted line) (p : Point) →
    line_runs Apart (x.indent ++ (x.hashes ++ x.gap)) p ≡ three_runs x.indent x.hashes x.gap p
front-runs line x p = three-runs x.indent x.hashes x.gap p x.indent_is x.hashes_are x.gap_is x.apart

-- the events of a heading, with those of its text as they are given by its chunk
title-parts : (line : List ℕ) (x : Parted line) (p : Point) (as_events : Option Chunk → List Event) →
    let p1 = past_text x.indent p in
    let p2 = past_text x.hashes p1 in
    let p3 = past_text x.gap p2 in
    let end = past_text (text_of line) p3 in
    let title = title_of line p in
    title.front ++ as_events title.text ++ title.back ≡
    line_runs Apart x.indent p
    ++ (line_runs Apart x.hashes p1
    ++ (line_runs Apart x.gap p2
    ++ (as_events (chunk_unless_empty (length (text_of line)) p3 end) ++ line_runs Apart x.back end)))
title-parts line x p as_events =
    rw (parts-take line x, parts-until line x, parts-drop line x, front-runs line x p, end, begin) (simp append_assoc)
  where
    front : List ℕ
    front = x.indent ++ (x.hashes ++ x.gap)

    p3 : Point
    p3 = past_text x.gap (past_text x.hashes (past_text x.indent p))

    begin : past_text front p ≡ p3
    begin = past_text-append x.indent (x.hashes ++ x.gap) p ∙ past_text-append x.hashes x.gap (past_text x.indent p)

    end : past_text (front ++ text_of line) p ≡ past_text (text_of line) p3
    end = past_text-append front (text_of line) p ∙ ap (past_text (text_of line)) begin

-- without the whitespace before it
trim-white : (white rest : List ℕ) → AllPass is_white white → begins is_white rest ≡ false →
    trim_start (white ++ rest) ≡ rest
trim-white [] [] w e = refl
trim-white [] (b ∷ bs) w e = rw e refl
trim-white (b ∷ bs) rest w e =
    let here : is_white b ≡ true = pass-first is_white b bs w in
    let one : 1 + prefix_len is_white (bs ++ rest) ≡ suc (prefix_len is_white (bs ++ rest)) = omega arith in
    rw (here, one) (trim-white bs rest (pass-rest is_white b bs w) e)

-- the text, and what follows it, have the same text
pub text-again : (line : List ℕ) (x : Parted line) → heading_text (text_of line ++ x.back) ≡ text_of line
text-again line x =
    let rest = text_of line ++ x.back in
    ap text_in (trim-white [] rest (All-nil (λ (b : ℕ). is_white b ≡ true)) x.following_gap)
    ∙ ap text_in (sym (trim-white x.gap rest x.gap_is x.following_gap))
    ∙ sym x.text_is

-- the events that a heading adds: the runs before its text, and what is added from the text on
pub title-whole : (line : List ℕ) (x : Parted line) (p : Point) →
    let p1 = past_text x.indent p in
    let p2 = past_text x.hashes p1 in
    flow_title (title_of line p) ≡
    line_runs Apart x.indent p
    ++ (line_runs Apart x.hashes p1
    ++ (line_runs Apart x.gap p2 ++ text_events (text_of line ++ x.back) (past_text x.gap p2)))
title-whole line x p =
    let text = text_of line in
    rw (text-again line x, take_at text x.back (length text) refl, drop_at text x.back (length text) refl)
    (title-parts line x p linked_data)

-- in a heading the walk sets the text, and continues after it
pub title-resolved : (line : List ℕ) (p q : Point) (es : List Event) → is_heading (trim_start line) ≡ true →
    resolved Before (flow_title (title_of line p) ++ exit n.HeadingAtx q ∷ es) ≡
    unread_title (title_of line p) ++ exit n.HeadingAtx q ∷ resolved Outside es
title-resolved line p q es heads =
    rw (title-parts line x p linked_data, title-parts line x p linked_text)
    (simp append_assoc
    (before-white x.indent p _ x.indent_is
    ∙ ap (λ (s : List Event). line_runs Apart x.indent p ++ s) (
    before-opening x.hashes p1 _ (hashes-some line x.hashes x.depth heads) x.hashes_are
    ∙ ap (λ (s : List Event). line_runs Apart x.hashes p1 ++ s)
    (opened-white x.gap p2 _ x.gap_is ∙ ap (λ (s : List Event). line_runs Apart x.gap p2 ++ s) following)
    )))
  where
    x : Parted line
    x = parted line

    s : Shape x.back
    s = x.shape

    p1 : Point
    p1 = past_text x.indent p

    p2 : Point
    p2 = past_text x.hashes p1

    p3 : Point
    p3 = past_text x.gap p2

    end : Point
    end = past_text (text_of line) p3

    chunk : Option Chunk
    chunk = chunk_unless_empty (length (text_of line)) p3 end

    following : resolved Opened (linked_data chunk ++ (line_runs Apart x.back end ++ ended q es)) ≡
        linked_text chunk ++ (line_runs Apart x.back end ++ ended q (resolved Outside es))
    following =
        rw (ap (λ (l : List ℕ). line_runs Apart l end) s.is
        ∙ three-runs s.white s.hashes s.more end s.white_is s.hashes_are s.more_is s.apart)
        (simp append_assoc
        (ends-text (text_of line) s.white s.hashes s.more p3 q es s.white_is s.hashes_are s.more_is s.apart
        (rw s.is at x.following_gap)))

-- Around the text are whitespace and `#` alone.

abbrev pub is_mark : ℕ → Bool
is_mark b = is_white b || (b == 35)

marks-white : (bytes : List ℕ) → AllPass is_white bytes → AllPass is_mark bytes
marks-white bytes h k d lt = ap (λ (x : Bool). x || (get_or bytes k d == 35)) (h k d lt)

marks-hashes : (bytes : List ℕ) → AllPass is_hash bytes → AllPass is_mark bytes
marks-hashes bytes h k d lt = ap is_mark (eqb-true (get_or bytes k d) 35 (h k d lt))

marks-three : (white hashes more : List ℕ) → AllPass is_white white → AllPass is_hash hashes → AllPass is_white more →
    AllPass is_mark (white ++ (hashes ++ more))
marks-three white hashes more w h m =
    All-append (λ (b : ℕ). is_mark b ≡ true) white (hashes ++ more) (marks-white white w)
    (All-append (λ (b : ℕ). is_mark b ≡ true) hashes more (marks-hashes hashes h) (marks-white more m))

pub front-marks : (line : List ℕ) → AllPass is_mark (take (front_len line) line)
front-marks line =
    let x = parted line in
    rw (parts-take line x) (marks-three x.indent x.hashes x.gap x.indent_is x.hashes_are x.gap_is)

pub following-marks : (line : List ℕ) → AllPass is_mark (drop (front_len line + length (text_of line)) line)
following-marks line =
    let x = parted line in
    let s = x.shape in
    rw (parts-drop line x, s.is) (marks-three s.white s.hashes s.more s.white_is s.hashes_are s.more_is)
