-- The rule of frontmatter takes of the cells of a text what its lines say.
use Rattle.std.proofs.Common.{◌≡◌, ℕ, ◌^◌, ◌<◌, ◌≤◌, Bool, true, false, cond, ◌||◌, List, [], ◌∷◌, ◌++◌, length}
use Rattle.std.proofs.Common.{drop, Option, Some, None, refl, sym, ◌∙◌, ap, ap₂, subst, arith, append-nil, append_assoc}
use Rattle.std.specs.Prelude.{◌==◌}
use Rattle.std.specs.Option.{option_map}
use Rattle.std.proofs.lemmas.Bool.{eqb-true, or_parts}
use Rattle.std.proofs.lemmas.List.{length-append, length-drop}
use Rattle.md_engine.specs.declared.configuration.ParseOptions.{ParseOptions}
use Rattle.md_engine.specs.declared.event.Event.{Event}
use Rattle.md_engine.specs.declared.event.Name.TheVariants as n
use Rattle.md_engine.specs.declared.event.Point.{Point}
use Rattle.md_engine.specs.declared.tokenizer.Line.{Line}
use Rattle.md_engine.specs.declared.tokenizer.Scratch.{Scratch}
use Rattle.md_engine.specs.Meaning.{Accepts, Cell, Here, Outcome, Refuses}
use Rattle.md_engine.specs.TextFeed.{text_feed}
use Rattle.md_engine.specs.World.{Flags, Setting}
use Rattle.md_engine.proofs.TextFeed.{text-follows}
use Rattle.md_containers.specs.Frontmatter.{cleared, is_marker}
use Rattle.md_containers.specs.FrontmatterRule.{at_line, following_ending, following_line, front_at, front_begun}
use Rattle.md_containers.specs.FrontmatterRule.{front_here, in_open, open_end, refuses, shuts}
use Rattle.md_containers.proofs.FrontmatterMeaning.{front-begins, front-none, front-other, lines-end, open-ends}
use Rattle.md_containers.proofs.FrontmatterMeaning.{open-none}
use Rattle.md_meaning.specs.Lines.{full_lines_of, without_ending}
use Rattle.md_meaning.specs.Preamble.{front_marker, is_front_fence}
use Rattle.md_meaning.proofs.TextsLemmas.{Both, Ending, EndsBefore, LineFeed, NoEnding, Return, ending_bytes}
use Rattle.md_leaves.specs.Heading.{without_size}
use Rattle.md_leaves.specs.CellRuns.{is_end}
use Rattle.md_literal.proofs.FenceCells.{first-spread}
use Rattle.md_events.specs.Events.Nested.{enter, exit, pair}
use Rattle.md_events.specs.Events.Places.{past_text}
use Rattle.md_events.specs.Look.{first_seen}
use Rattle.md_events.specs.Spaces.{IsRest, calmed, is_current}
use Rattle.md_events.proofs.FeedLines.{Stops, spread, begun-none, cell, drop-past, ending-feed, ending-some, feed-none}
use Rattle.md_events.proofs.FeedLines.{front-within, line-feed, past_ending}
use Rattle.md_events.proofs.InlineLemmas.{past-index}
use Rattle.md_events.proofs.SpacesTermination.{rest-calm}
use Rattle.md_events.proofs.RestLines.{count-none}
use Rattle.proof_leaf_laws.specs.Front as front
use Rattle.proof_leaf_laws.specs.Front.{FrontRead, after_these, ending_of, ending_part, fence_part, front_from}
use Rattle.proof_leaf_laws.specs.Front.{front_read, line_part, lines_read}
use Rattle.proof_leaf_laws.proofs.FullLines.{IsLines, LastLine, NextLine, NoLines, ending-is, full-lines, last-ending}
use Rattle.proof_leaf_laws.proofs.Frontmatter.Taken.{around_fence, fence-is, fence_done, not-fence, one-line}
use Rattle.proof_frame.proofs.LineTexts.{without-one}
use Rattle.md_leaves.proofs.OneLine.{line-whole}

-- All lines.

-- a text whose cells are read to its end
pub record IsWhole (x : Setting) : Type 0 where
  pub small : x.limit < 2 ^ 61
  pub all : x.limit ≡ length x.bytes
  pub skips : x.skips ≡ []

-- what frontmatter becomes, from this point on
abbrev pub outcome : Setting → Here → Option FrontRead → Outcome
outcome x h None = Refuses (cleared h.scratch) h.flags
outcome x h (Some f) =
    Accepts
    (record h { events = h.events ++ f.events; point = f.point; scratch = cleared h.scratch })
    (text_feed x f.point)

-- where a line begins
pub record Begins (x : Setting) (text : List ℕ) (p : Point) : Type 0 where
  pub valid : drop p.index x.bytes ≡ text
  pub index : p.index ≤ length x.bytes
  pub whole : p.vs ≡ 0
  pub column : 1 ≤ p.column

-- in frontmatter the scratch has its marker alone
record IsInside (h : Here) : Type 0 where
  pub marks : is_marker h.scratch.marker ≡ true
  pub size : h.scratch.size ≡ 0
  pub calm : calmed h.scratch ≡ h.scratch

feed-short : (x : Setting) → IsWhole x → (p : Point) → length (text_feed x p) < 2 ^ 63
feed-short x is p = (text-follows x x.limit true is.small (omega arith) (λ e. refl)).short p

-- the cells of the last line, which has no ending
last-cells : (x : Setting) (line : List ℕ) (p : Point) → IsWhole x → Begins x line p → NoEnding line →
    text_feed x p ≡ spread x.line line p ++ []
last-cells x line p is at bare =
    let size = ap length at.valid in
    let left = length-drop p.index x.bytes in
    let end = past-index line p in
    line-feed x line [] p
    (record {
      small = is.small;
      text = at.valid ∙ sym (append-nil line);
      no_ending = bare;
      within = let all = is.all in let low = at.index in omega (arith, size, left, all, low);
      whole = at.whole;
      column = at.column;
    })
    ∙ ap (λ (l : List Cell). spread x.line line p ++ l)
    (feed-none x (past_text line p) is.small
    (let all = is.all in let low = at.index in omega (arith, size, left, all, low, end)))

-- those of a line with its ending, and where the next one begins
record Proceeds (x : Setting) (line : List ℕ) (ending : Ending) (rest : List ℕ) (p : Point) : Type 0 where
  pub cells : text_feed x p ≡
      spread x.line line p
      ++ cell 10 (past_ending ending (past_text line p)) x.line
      ∷ text_feed x (past_ending ending (past_text line p))
  pub next : Begins x rest (past_ending ending (past_text line p))

next-cells : (x : Setting) (line : List ℕ) (ending : Ending) (rest : List ℕ) (p : Point) → IsWhole x →
    Begins x (line ++ (ending_bytes ending ++ rest)) p → NoEnding line → EndsBefore ending rest →
    Proceeds x line ending rest p
next-cells x line ending rest p is at bare before =
    let q = past_text line p in
    let end = past-index line p in
    let all = is.all in
    let within = front-within x.bytes p.index line (ending_bytes ending ++ rest) at.valid at.index in
    let sizes = length-append (ending_bytes ending) rest in
    let some = ending-some ending in
    let following : drop q.index x.bytes ≡ ending_bytes ending ++ rest =
    ap (λ (i : ℕ). drop i x.bytes) end ∙ drop-past x.bytes p.index line (ending_bytes ending ++ rest) at.valid in
    record {
      cells =
          line-feed x line (ending_bytes ending ++ rest) p
          (record {
            small = is.small;
            text = at.valid;
            no_ending = bare;
            within = omega (arith, within, all);
            whole = at.whole;
            column = at.column;
          })
          ∙ ap (λ (l : List Cell). spread x.line line p ++ l)
          (ending-feed x ending rest q
          (record {
            small = is.small;
            text = following;
            before = before;
            within = omega (arith, within, all, end, sizes, some);
            begun = begun-none x (past_ending ending q) is.skips;
          }));
      next = record {
        valid = drop-past x.bytes q.index (ending_bytes ending) rest following;
        index = omega (arith, within, end, sizes);
        whole = refl;
        column = omega arith;
      };
    }

-- after an ending, and the part over it
pub past-same : (ending : Ending) (p : Point) → front.past_ending (ending_bytes ending) p ≡ past_ending ending p
past-same LineFeed p = refl
past-same Return p = refl
past-same Both p = refl

pub part-same : (ending : Ending) (p : Point) →
    ending_part (ending_bytes ending) p ≡ pair n.LineEnding p (past_ending ending p)
part-same LineFeed p = refl
part-same Return p = refl
part-same Both p = refl

-- what is left before a line, by the line and its ending
abbrev pub lines_from : ℕ → List ℕ → List ℕ → List (List ℕ) → Point → Option FrontRead
lines_from m line ending more p =
    let q = past_text line p in
    cond (is_front_fence m line)
    (Some
    (record {
      events = fence_part line p ++ exit n.Frontmatter q ∷ ending_part ending q;
      point = front.past_ending ending q;
    }))
    (option_map (after_these (line_part line p ++ ending_part ending q))
    (lines_read m more (front.past_ending ending q)))

-- what follows a line
following-outcome : (x : Setting) (h : Here) (front back : List Event) (p : Point) (o : Option FrontRead) →
    outcome x (record h { events = (h.events ++ front) ++ back; point = p }) o ≡
    outcome x h (option_map (after_these (front ++ back)) o)
following-outcome x h front back p None = refl
following-outcome x h front back p (Some f) =
    ap
    (λ (es : List Event).
    Accepts (record h { events = es; point = f.point; scratch = cleared h.scratch }) (text_feed x f.point))
    (simp append_assoc)

-- after a line that is no fence, and its ending
abbrev after_part : Setting → List ℕ → Ending → Here → Here
after_part x line ending h =
    let q = past_text line h.point in
    let r = past_ending ending q in
    record h { events = (h.events ++ line_part line h.point) ++ pair n.LineEnding q r; point = r }

lines-agree : (x : Setting) (text : List ℕ) (lines : List (List ℕ)) → IsLines text lines → (h : Here) → IsWhole x →
    Begins x text h.point → IsInside h →
    at_line (text_feed x h.point) h ≡ outcome x h (lines_read h.scratch.marker lines h.point)
lines-agree x _ _ NoLines h is at inside =
    let none : length (drop h.point.index x.bytes) ≡ 0 = ap length at.valid in
    let left = length-drop h.point.index x.bytes in
    let all = is.all in
    ap (λ (l : List Cell). at_line l h) (feed-none x h.point is.small (omega (arith, none, left, all)))
    ∙ lines-end false [] h refl
lines-agree x _ _ (LastLine b rest bare) h is at inside =
    ap (λ (l : List Cell). at_line l h) cells
    ∙ one-line x.line line [] h inside.marks inside.size inside.calm bare tt at.column short
    ∙ go (is_front_fence m line)
    ∙ ap₂ (λ (l e : List ℕ). outcome x h (lines_from m l e [] h.point)) (sym (line-whole line bare))
    (sym (last-ending line bare))
  where
    line : List ℕ
    line = b ∷ rest

    m : ℕ
    m = h.scratch.marker

    q : Point
    q = past_text line h.point

    cells : text_feed x h.point ≡ spread x.line line h.point ++ []
    cells = last-cells x line h.point is at bare

    short : length (spread x.line line h.point ++ []) < 2 ^ 63
    short = let s = feed-short x is h.point in let e = ap length cells in omega (arith, s, e)

    none : text_feed x q ≡ []
    none =
        let size = ap length at.valid in
        let left = length-drop h.point.index x.bytes in
        let all = is.all in
        let low = at.index in
        feed-none x q is.small (omega (arith, size, left, all, low, past-index line h.point))

    go : (y : Bool) →
        cond y (shuts [] (around_fence line h))
        (following_line []
        (record h { events = h.events ++ line_part line h.point; point = q })) ≡
        outcome x h
        (cond y
        (Some (record { events = fence_part line h.point ++ exit n.Frontmatter q ∷ []; point = q })) None)
    go true =
        ap₂
        (λ (es : List Event) (l : List Cell).
        Accepts (record h { events = es; point = q; scratch = cleared h.scratch }) l)
        (append_assoc h.events (fence_part line h.point) (exit n.Frontmatter q ∷ [])) (sym none)
    go false = refl
lines-agree x _ _ (NextLine line ending rest more bare before lines same') h is at inside =
    ap (λ (l : List Cell). at_line l h) proceeds.cells
    ∙ one-line x.line line stop h inside.marks inside.size inside.calm bare refl at.column short
    ∙ go (is_front_fence m line)
    (lines-agree x rest more lines (after_part x line ending h) is
    (next-cells x line ending rest h.point is at bare before).next
    (record { marks = inside.marks; size = inside.size; calm = inside.calm }))
    ∙ sym
    (ap₂
    (λ (r : Point) (es : List Event).
    outcome x h
    (cond (is_front_fence m line)
    (Some (record { events = fence_part line h.point ++ exit n.Frontmatter q ∷ es; point = r }))
    (option_map (after_these (line_part line h.point ++ es)) (lines_read m more r))))
    (past-same ending q) (part-same ending q))
    ∙ ap₂ (λ (l e : List ℕ). outcome x h (lines_from m l e more h.point)) (sym (without-one line ending bare))
    (sym (ending-is line ending bare))
  where
    m : ℕ
    m = h.scratch.marker

    q : Point
    q = past_text line h.point

    r : Point
    r = past_ending ending q

    proceeds : Proceeds x line ending rest h.point
    proceeds = next-cells x line ending rest h.point is at bare before

    stop : List Cell
    stop = cell 10 r x.line ∷ text_feed x r

    short : length (spread x.line line h.point ++ stop) < 2 ^ 63
    short = let s = feed-short x is h.point in let e = ap length proceeds.cells in omega (arith, s, e)

    Same : Type 0
    Same =
        at_line (text_feed x r) (after_part x line ending h) ≡
        outcome x (after_part x line ending h) (lines_read m more r)

    go : (y : Bool) → Same →
        cond y (shuts stop (around_fence line h))
        (following_line stop
        (record h { events = h.events ++ line_part line h.point; point = q })) ≡
        outcome x h
        (cond y
        (Some
        (record { events = fence_part line h.point ++ exit n.Frontmatter q ∷ pair n.LineEnding q r; point = r }))
        (option_map (after_these (line_part line h.point ++ pair n.LineEnding q r)) (lines_read m more r)))
    go true same =
        ap
        (λ (es : List Event).
        Accepts (record h { events = es; point = r; scratch = cleared h.scratch }) (text_feed x r))
        (simp append_assoc)
    go false same =
        same
        ∙ following-outcome x h (line_part line h.point) (pair n.LineEnding q r) r (lines_read m more r)

-- The opening fence.

no-ending : (cells : List Cell) → is_end cells ≡ false → is_current 10 (first_seen cells) ≡ false
no-ending [] e = cc
no-ending (c ∷ cs) e = e

open-refuses : (h : Here) (cells : List Cell) (k : Here) → is_end cells ≡ false → k.scratch ≡ without_size h.scratch →
    k.flags ≡ h.flags → open_end cells k ≡ Refuses (cleared h.scratch) h.flags
open-refuses h cells k e s g =
    open-none cells k (no-ending cells e) ∙ ap₂ (λ (t : Scratch) (f : Flags). Refuses (cleared t) f) s g

-- the fence of this marker, with the begin of frontmatter in front
abbrev opened : ℕ → List ℕ → Here → Here
opened m line h = record h {
  events = h.events ++ enter n.Frontmatter h.point ∷ fence_part line h.point;
  point = past_text line h.point;
  scratch = record h.scratch { marker = m; size = 0 };
}

-- after the opening fence of this line
abbrev after_open : List Cell → Here → Outcome
after_open [] h = refuses h
after_open (c ∷ cs) h = at_line cs (following_ending c h)

opened-proceeds : (m : ℕ) (line : List ℕ) (stop : List Cell) (h : Here) → Stops stop →
    open_end stop (fence_done line (front_begun m h)) ≡ after_open stop (opened m line h)
opened-proceeds m line [] h k = open-none [] (fence_done line (front_begun m h)) refl
opened-proceeds m line (c ∷ cs) h k =
    open-ends c cs (fence_done line (front_begun m h)) k
    ∙ ap
    (λ (es : List Event).
    at_line cs (record (opened m line h) { events = es; point = c.after }))
    (simp append_assoc)

pub some-same : (a b : ℕ) → Some a ≡ Some b → a ≡ b
some-same a b e = ap (λ (o : Option ℕ). get o) e
  where
    get : Option ℕ → ℕ
    get None = 0
    get (Some x) = x

-- by which fence it is
abbrev pub marker_by : Bool → Bool → Option ℕ
marker_by true other = Some 45
marker_by false true = Some 43
marker_by false false = None

pub marked : (line : List ℕ) → front_marker line ≡ marker_by (is_front_fence 45 line) (is_front_fence 43 line)
marked line = go (is_front_fence 45 line) (is_front_fence 43 line)
  where
    go : (x y : Bool) → cond x (Some 45) (cond y (Some 43) None) ≡ marker_by x y
    go true y = refl
    go false true = refl
    go false false = refl

-- a line that begins with another byte is no fence of this marker
begins-other : (m b : ℕ) (line : List ℕ) → (b == m) ≡ false → is_front_fence m (b ∷ line) ≡ false
begins-other m b line e = not-fence m (b ∷ line) (ap (λ (i : ℕ). i == 0) (count-none (λ c. c == m) b line e))

-- whether the line is a fence, by the byte that it begins with
abbrev some_if : ℕ → Bool → Option ℕ
some_if b true = Some b
some_if b false = None

marker-fence : (b : ℕ) (line : List ℕ) → is_marker b ≡ true →
    front_marker (b ∷ line) ≡ some_if b (is_front_fence b (b ∷ line))
marker-fence b line e = marked (b ∷ line) ∙ go (b == 45) (b == 43) refl refl e
  where
    first : (z : Bool) → marker_by z false ≡ some_if 45 z
    first true = refl
    first false = refl

    second : (z : Bool) → marker_by false z ≡ some_if 43 z
    second true = refl
    second false = refl

    go : (x y : Bool) → (b == 45) ≡ x → (b == 43) ≡ y → (x || y) ≡ true →
        marker_by (is_front_fence 45 (b ∷ line)) (is_front_fence 43 (b ∷ line)) ≡
        some_if b (is_front_fence b (b ∷ line))
    go true y f g t =
        subst
        (λ (c : ℕ).
        marker_by (is_front_fence 45 (c ∷ line)) (is_front_fence 43 (c ∷ line)) ≡
        some_if c (is_front_fence c (c ∷ line))) (sym (eqb-true b 45 f))
        (ap (marker_by (is_front_fence 45 (45 ∷ line))) (begins-other 43 45 line refl)
        ∙ first (is_front_fence 45 (45 ∷ line)))
    go false true f g t =
        subst
        (λ (c : ℕ).
        marker_by (is_front_fence 45 (c ∷ line)) (is_front_fence 43 (c ∷ line)) ≡
        some_if c (is_front_fence c (c ∷ line))) (sym (eqb-true b 43 g))
        (ap (λ (z : Bool). marker_by z (is_front_fence 43 (43 ∷ line))) (begins-other 45 43 line refl)
        ∙ second (is_front_fence 43 (43 ∷ line)))
    go false false f g t = cc

other-marker : (b : ℕ) (line : List ℕ) → is_marker b ≡ false → front_marker (b ∷ line) ≡ None
other-marker b line e =
    let both = or_parts (b == 45) (b == 43) e in
    marked (b ∷ line) ∙ ap₂ marker_by (begins-other 45 b line both.0) (begins-other 43 b line both.1)

front-here : (cells : List Cell) (b : ℕ) (h : Here) → first_seen cells ≡ Some b → is_marker b ≡ true →
    front_here cells h ≡ in_open cells (front_begun b h)
front-here [] b h e marks = cc
front-here (c ∷ cs) b h e marks =
    let same : c.byte ≡ b = some-same c.byte b e in
    front-begins c cs h (ap is_marker same ∙ marks)
    ∙ ap (λ (a : ℕ). in_open (c ∷ cs) (front_begun a h)) same

front-not : (cells : List Cell) (b : ℕ) (h : Here) → first_seen cells ≡ Some b → is_marker b ≡ false →
    front_here cells h ≡ Refuses h.scratch h.flags
front-not [] b h e marks = cc
front-not (c ∷ cs) b h e marks = front-other c cs h (ap is_marker (some-same c.byte b e) ∙ marks)

-- What frontmatter reaches where it may begin, by the line that is there.

-- where it is none
abbrev pub becomes : Setting → Here → Option FrontRead → Outcome
becomes x h None = Refuses h.scratch h.flags
becomes x h (Some f) =
    Accepts
    (record h { events = h.events ++ f.events; point = f.point; scratch = cleared h.scratch })
    (text_feed x f.point)

rest-cleared : (s : Scratch) → IsRest s → cleared s ≡ s
rest-cleared s e = ap cleared e ∙ sym e

becomes-outcome : (x : Setting) (h : Here) (m : ℕ) (o : Option FrontRead) → IsRest h.scratch →
    outcome x (record h { scratch = record h.scratch { marker = m; size = 0 } }) o ≡ becomes x h o
becomes-outcome x h m None e = ap (λ (s : Scratch). Refuses s h.flags) (rest-cleared h.scratch e)
becomes-outcome x h m (Some f) e = refl

-- the opening fence, by the cells of its line
open-line : (said : Line) (b : ℕ) (line : List ℕ) (stop : List Cell) (h : Here) → IsRest h.scratch →
    is_marker b ≡ true → NoEnding (b ∷ line) → Stops stop → 1 ≤ h.point.column →
    length (spread said (b ∷ line) h.point ++ stop) < 2 ^ 63 →
    front_here (spread said (b ∷ line) h.point ++ stop) h ≡
    cond (is_front_fence b (b ∷ line)) (after_open stop (opened b (b ∷ line) h)) (Refuses h.scratch h.flags)
open-line said b line stop h rest marks bare k one short =
    front-here (spread said (b ∷ line) h.point ++ stop) b h (first-spread said b line h.point stop) marks
    ∙ fence-is said open_end (cleared h.scratch) (b ∷ line) stop (front_begun b h) marks refl
    (ap (λ (s : Scratch). record s { marker = b; size = 0 }) (rest-calm h.scratch rest ∙ sym rest)) bare k one short
    (open-refuses (front_begun b h))
    ∙ go (is_front_fence b (b ∷ line))
  where
    go : (x : Bool) →
        cond x (open_end stop (fence_done (b ∷ line) (front_begun b h))) (Refuses (cleared h.scratch) h.flags) ≡
        cond x (after_open stop (opened b (b ∷ line) h)) (Refuses h.scratch h.flags)
    go true = opened-proceeds b (b ∷ line) stop h k
    go false = ap (λ (s : Scratch). Refuses s h.flags) (rest-cleared h.scratch rest)

-- All of it.

-- frontmatter whose first line is this, with this ending
abbrev pub front_by : Option ℕ → List ℕ → List ℕ → List (List ℕ) → Point → Option FrontRead
front_by None line ending more p = None
front_by (Some m) line ending more p =
    let q = past_text line p in
    option_map (after_these (enter n.Frontmatter p ∷ fence_part line p ++ ending_part ending q))
    (lines_read m more (front.past_ending ending q))

pub from-by : (o : Option ℕ) (full : List ℕ) (more : List (List ℕ)) (p : Point) →
    front_from o full more p ≡ front_by o (without_ending full) (ending_of full) more p
from-by None full more p = refl
from-by (Some m) full more p = refl

-- where no line follows, no fence closes
pub last-none : (o : Option ℕ) (line ending : List ℕ) (p : Point) → front_by o line ending [] p ≡ None
last-none None line ending p = refl
last-none (Some m) line ending p = refl

-- the last line
last-becomes : (x : Setting) (b : ℕ) (line : List ℕ) (h : Here) → IsWhole x → Begins x (b ∷ line) h.point →
    IsRest h.scratch → NoEnding (b ∷ line) → front_here (text_feed x h.point) h ≡ Refuses h.scratch h.flags
last-becomes x b line h is at rest bare =
    ap (λ (l : List Cell). front_here l h) cells ∙ go (is_marker b) refl
  where
    cells : text_feed x h.point ≡ spread x.line (b ∷ line) h.point ++ []
    cells = last-cells x (b ∷ line) h.point is at bare

    short : length (spread x.line (b ∷ line) h.point ++ []) < 2 ^ 63
    short = let s = feed-short x is h.point in let e = ap length cells in omega (arith, s, e)

    by : (y : Bool) →
        cond y (refuses (opened b (b ∷ line) h)) (Refuses h.scratch h.flags) ≡ Refuses h.scratch h.flags
    by true = ap (λ (s : Scratch). Refuses s h.flags) (rest-cleared h.scratch rest)
    by false = refl

    go : (y : Bool) → is_marker b ≡ y →
        front_here (spread x.line (b ∷ line) h.point ++ []) h ≡ Refuses h.scratch h.flags
    go true e = open-line x.line b line [] h rest e bare tt at.column short ∙ by (is_front_fence b (b ∷ line))
    go false e =
        front-not (spread x.line (b ∷ line) h.point ++ []) b h (first-spread x.line b line h.point []) e

-- a line after which another one may follow
next-becomes : (x : Setting) (line : List ℕ) (ending : Ending) (text : List ℕ) (more : List (List ℕ)) (h : Here) →
    IsWhole x → Begins x (line ++ (ending_bytes ending ++ text)) h.point → IsRest h.scratch → NoEnding line →
    EndsBefore ending text → IsLines text more →
    front_here (text_feed x h.point) h ≡
    becomes x h (front_by (front_marker line) line (ending_bytes ending) more h.point)
next-becomes x [] ending text more h is at rest bare before lines =
    let proceeds = next-cells x [] ending text h.point is at bare before in
    ap (λ (l : List Cell). front_here l h) proceeds.cells
    ∙ front-other (cell 10 (past_ending ending h.point) x.line) (text_feed x (past_ending ending h.point)) h refl
next-becomes x (b ∷ line) ending text more h is at rest bare before lines =
    ap (λ (l : List Cell). front_here l h) proceeds.cells ∙ go (is_marker b) refl
  where
    q : Point
    q = past_text (b ∷ line) h.point

    r : Point
    r = past_ending ending q

    proceeds : Proceeds x (b ∷ line) ending text h.point
    proceeds = next-cells x (b ∷ line) ending text h.point is at bare before

    stop : List Cell
    stop = cell 10 r x.line ∷ text_feed x r

    short : length (spread x.line (b ∷ line) h.point ++ stop) < 2 ^ 63
    short = let s = feed-short x is h.point in let e = ap length proceeds.cells in omega (arith, s, e)

    begun : Here
    begun = record h { scratch = record h.scratch { marker = b; size = 0 } }

    parts : List Event
    parts = enter n.Frontmatter h.point ∷ fence_part (b ∷ line) h.point

    calm : calmed begun.scratch ≡ begun.scratch
    calm = ap (λ (s : Scratch). record s { marker = b; size = 0 }) (rest-calm h.scratch rest ∙ sym rest)

    opens : is_marker b ≡ true →
        after_open stop (opened b (b ∷ line) h) ≡
        becomes x h (front_by (Some b) (b ∷ line) (ending_bytes ending) more h.point)
    opens marks =
        lines-agree x text more lines (following_ending (cell 10 r x.line) (opened b (b ∷ line) h)) is proceeds.next
        (record { marks = marks; size = refl; calm = calm })
        ∙ following-outcome x begun parts (pair n.LineEnding q r) r (lines_read b more r)
        ∙ becomes-outcome x h b (option_map (after_these (parts ++ pair n.LineEnding q r)) (lines_read b more r)) rest
        ∙ sym
        (ap₂
        (λ (s : Point) (es : List Event).
        becomes x h (option_map (after_these (parts ++ es)) (lines_read b more s)))
        (past-same ending q) (part-same ending q))

    by : (y : Bool) → is_marker b ≡ true →
        cond y (after_open stop (opened b (b ∷ line) h)) (Refuses h.scratch h.flags) ≡
        becomes x h (front_by (some_if b y) (b ∷ line) (ending_bytes ending) more h.point)
    by true marks = opens marks
    by false marks = refl

    go : (y : Bool) → is_marker b ≡ y →
        front_here (spread x.line (b ∷ line) h.point ++ stop) h ≡
        becomes x h (front_by (front_marker (b ∷ line)) (b ∷ line) (ending_bytes ending) more h.point)
    go true e =
        open-line x.line b line stop h rest e bare refl at.column short
        ∙ by (is_front_fence b (b ∷ line)) e
        ∙ ap (λ (o : Option ℕ). becomes x h (front_by o (b ∷ line) (ending_bytes ending) more h.point))
        (sym (marker-fence b line e))
    go false e =
        front-not (spread x.line (b ∷ line) h.point ++ stop) b h (first-spread x.line b line h.point stop) e
        ∙ ap (λ (o : Option ℕ). becomes x h (front_by o (b ∷ line) (ending_bytes ending) more h.point))
        (sym (other-marker b line e))

on-agrees : (x : Setting) (text : List ℕ) (lines : List (List ℕ)) → IsLines text lines → (h : Here) → IsWhole x →
    Begins x text h.point → IsRest h.scratch → x.options.constructs.frontmatter ≡ true →
    front_here (text_feed x h.point) h ≡ becomes x h (front_read x.options lines h.point)
on-agrees x _ _ NoLines h is at rest on =
    let none : length (drop h.point.index x.bytes) ≡ 0 = ap length at.valid in
    let left = length-drop h.point.index x.bytes in
    let all = is.all in
    ap (λ (l : List Cell). front_here l h) (feed-none x h.point is.small (omega (arith, none, left, all)))
    ∙ front-none h
on-agrees x _ _ (LastLine b line bare) h is at rest on =
    last-becomes x b line h is at rest bare
    ∙ ap (becomes x h)
    (sym
    (ap
    (λ (t : Bool). cond t (front_from (front_marker (without_ending (b ∷ line))) (b ∷ line) [] h.point) None) on
    ∙ from-by (front_marker (without_ending (b ∷ line))) (b ∷ line) [] h.point
    ∙ last-none (front_marker (without_ending (b ∷ line))) (without_ending (b ∷ line)) (ending_of (b ∷ line)) h.point))
on-agrees x _ _ (NextLine line ending text more bare before lines same') h is at rest on =
    let full = line ++ ending_bytes ending in
    next-becomes x line ending text more h is at rest bare before lines
    ∙ ap (becomes x h)
    (sym
    (ap (λ (t : Bool). cond t (front_from (front_marker (without_ending full)) full more h.point) None) on
    ∙ from-by (front_marker (without_ending full)) full more h.point
    ∙ ap₂ (λ (l e : List ℕ). front_by (front_marker l) l e more h.point) (without-one line ending bare)
    (ending-is line ending bare)))

pub off-none : (options : ParseOptions) (lines : List (List ℕ)) (p : Point) → options.constructs.frontmatter ≡ false →
    front_read options lines p ≡ None
off-none options [] p off = refl
off-none options (full ∷ more) p off =
    ap (λ (t : Bool). cond t (front_from (front_marker (without_ending full)) full more p) None) off

-- what frontmatter takes of a text from a point on
pub front-agrees : (x : Setting) (text : List ℕ) (h : Here) → IsWhole x → Begins x text h.point → IsRest h.scratch →
    front_at x.options (text_feed x h.point) h ≡ becomes x h (front_read x.options (full_lines_of text) h.point)
front-agrees x text h is at rest = go x.options.constructs.frontmatter refl
  where
    go : (t : Bool) → x.options.constructs.frontmatter ≡ t →
        cond t (front_here (text_feed x h.point) h) (Refuses h.scratch h.flags) ≡
        becomes x h (front_read x.options (full_lines_of text) h.point)
    go true e = on-agrees x text (full_lines_of text) (full-lines text) h is at rest e
    go false e = ap (becomes x h) (sym (off-none x.options (full_lines_of text) h.point e))
