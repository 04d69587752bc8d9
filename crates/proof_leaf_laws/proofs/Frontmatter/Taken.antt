-- What the rule of frontmatter takes of the cells of one line: a fence, or a line between fences.
use Rattle.std.proofs.Common.{◌≡◌, ℕ, zero, suc, ◌+◌, ◌^◌, ◌<◌, ◌≤◌, Bool, true, false, cond, ◌&&◌, nat_eq, List, []}
use Rattle.std.proofs.Common.{◌∷◌, ◌++◌, length, take, drop, Option, Some, None, refl, sym, ◌∙◌, ap, ap₂, arith}
use Rattle.std.proofs.Common.{append-nil, append_assoc}
use Rattle.std.specs.Prelude.{◌==◌, nat_lt}
use Rattle.std.specs.List.{list_all}
use Rattle.std.proofs.lemmas.Bool.{and_parts, eqb-true}
use Rattle.std.proofs.lemmas.Bool.Decides.{nat_tests}
use Rattle.std.proofs.lemmas.List.{length-append, take-append-drop}
use Rattle.md_engine.specs.declared.event.Event.{Event}
use Rattle.md_engine.specs.declared.event.Name.TheVariants as n
use Rattle.md_engine.specs.declared.event.Point.{Point}
use Rattle.md_engine.specs.declared.tokenizer.Line.{Line}
use Rattle.md_engine.specs.declared.tokenizer.Scratch.{Scratch}
use Rattle.md_engine.specs.Meaning.{Accepts, Cell, Here, Outcome, Refuses}
use Rattle.md_engine.specs.World.{Flags}
use Rattle.md_containers.specs.Frontmatter.{is_marker}
use Rattle.md_containers.specs.FrontmatterRule.{at_line, following_line, close_at, close_end, closed_or, fence_begun}
use Rattle.md_containers.specs.FrontmatterRule.{in_close, in_lines, in_sequence, shuts}
use Rattle.md_containers.proofs.FrontmatterMeaning.{close-done, close-proceeds, lines-end, lines-more}
use Rattle.md_meaning.specs.Preamble.{is_front_fence}
use Rattle.md_meaning.specs.Rest.{is_blank, is_white, run_len}
use Rattle.md_meaning.proofs.TextsLemmas.{NoEnding, no_ending-drop}
use Rattle.md_leaves.specs.Heading.{without_size}
use Rattle.md_leaves.specs.CellRuns.{after_white_of, is_end, run_end, run_rest, run_size, with_event}
use Rattle.md_literal.proofs.FenceCells.{RunOf, end-blank, first-spread, run-length, run-walk}
use Rattle.md_literal.proofs.FenceWhole.{white-joined}
use Rattle.md_events.specs.Ahead.{begins_white, point_after, white_end, white_rest}
use Rattle.md_events.specs.Events.Nested.{enter, exit, pair}
use Rattle.md_events.specs.Events.Places.{past_text}
use Rattle.md_events.specs.Look.{first_seen}
use Rattle.md_events.specs.Spaces.{any_size, calmed, is_current}
use Rattle.md_events.proofs.FeedLines.{NoFeed, Stops, all-spread, bytes_of, no_feed-spread, spread, past_text-column}
use Rattle.md_events.proofs.FeedLines.{spread-end, stops-white}
use Rattle.md_events.proofs.InlineLemmas.{past_text-append}
use Rattle.md_events.proofs.RestLines.{blank-spread, count-none}
use Rattle.proof_leaf_laws.specs.Front.{fence_part, line_part}
use Rattle.proof_frame.specs.LineColumns.{part_over}

-- What marks a fence is a byte of its own.

marker-dark : (m b : ℕ) → is_marker m ≡ true → nat_eq b m ≡ true → is_white b ≡ false
marker-dark m b e f = grind (arith, nat_tests)

marker-ten : (m : ℕ) → is_marker m ≡ true → nat_eq 10 m ≡ false
marker-ten m e = grind (arith, nat_tests)

begins-first : (cells : List Cell) (b : ℕ) → first_seen cells ≡ Some b → begins_white cells ≡ is_white b
begins-first [] b e = cc
begins-first (c ∷ cs) b e = ap (λ (o : Option ℕ). seen o) e
  where
    seen : Option ℕ → Bool
    seen None = false
    seen (Some x) = is_white x

-- Whitespace to the end of the line.

record AllWhite (room : ℕ) (cells stop : List Cell) (p : Point) : Type 0 where
  pub rest : white_rest room (cells ++ stop) ≡ stop
  pub end : white_end room (cells ++ stop) p ≡ point_after cells p

white-none : (room : ℕ) (stop : List Cell) (p : Point) → begins_white stop ≡ false → AllWhite room [] stop p
white-none room [] p e = record { rest = refl; end = refl }
white-none zero (c ∷ cs) p e = record { rest = refl; end = refl }
white-none (suc room) (c ∷ cs) p e = record { rest = rw e refl; end = rw e refl }

white-all : (room : ℕ) (cells stop : List Cell) (p : Point) → list_all is_white (bytes_of cells) ≡ true →
    length cells ≤ room → begins_white stop ≡ false → AllWhite room cells stop p
white-all room [] stop p all le e = white-none room stop p e
white-all zero (c ∷ cs) stop p all le e = absurd (omega (arith, le))
white-all (suc room) (c ∷ cs) stop p all le e =
    let parts : (is_white c.byte ≡ true) × (list_all is_white (bytes_of cs) ≡ true) =
    and_parts (is_white c.byte) (list_all is_white (bytes_of cs)) all in
    let more = white-all room cs stop c.after parts.1 (omega (arith, le)) e in
    record { rest = rw parts.0 more.rest; end = rw parts.0 more.end }

stops-end : (stop : List Cell) → Stops stop → is_end stop ≡ true
stops-end [] h = refl
stops-end (c ∷ cs) h = h

-- a chunk over these cells, if there are any
abbrev over : List Cell → Point → Point → List Event
over [] p q = []
over (c ∷ cs) p q = pair n.FrontmatterChunk p q

-- A fence.

-- after its markers and its whitespace
abbrev pub fence_done : List ℕ → Here → Here
fence_done line h =
    let q = past_text (take 3 line) h.point in
    let r = past_text line h.point in
    record h {
      events = (h.events ++ exit n.FrontmatterSequence q ∷ []) ++ part_over n.SpaceOrTab (drop 3 line) q r;
      point = r;
      scratch = without_size h.scratch;
    }

-- where the line ends, whitespace may be in front
white-over : (said : Line) (following : List Cell → Here → Outcome) (line : List ℕ) (stop : List Cell) (h : Here) →
    is_blank line ≡ true → NoEnding line → Stops stop → 1 ≤ h.point.column → calmed h.scratch ≡ h.scratch →
    length (spread said line h.point ++ stop) < 2 ^ 63 →
    after_white_of any_size following (spread said line h.point ++ stop) h ≡
    following stop
    (record h {
      events = h.events ++ part_over n.SpaceOrTab line h.point (past_text line h.point);
      point = past_text line h.point;
    })
white-over said following line stop h blank bare k one calm short =
    let cells = spread said line h.point in
    let sum = length-append cells stop in
    let all = white-all any_size cells stop h.point (all-spread is_white refl said line h.point ∙ blank)
    (omega (arith, short, sum)) (stops-white stop k) in
    white-joined any_size following (cells ++ stop) h calm (omega arith)
    ∙ ap₂
    (λ (l : List Cell) (q : Point).
    following l
    (record h {
      events = h.events ++ cond (nat_lt 0 any_size && begins_white (cells ++ stop)) (pair n.SpaceOrTab h.point q) [];
      point = q;
    }))
    all.rest (all.end ∙ spread-end said line h.point one)
    ∙ ap
    (λ (es : List Event). following stop (record h { events = h.events ++ es; point = past_text line h.point }))
    (go line blank)
  where
    go : (line : List ℕ) → is_blank line ≡ true →
        cond (nat_lt 0 any_size && begins_white (spread said line h.point ++ stop))
        (pair n.SpaceOrTab h.point (past_text line h.point)) [] ≡
        part_over n.SpaceOrTab line h.point (past_text line h.point)
    go [] e = rw (stops-white stop k) refl
    go (b ∷ bs) e =
        let white : begins_white (spread said (b ∷ bs) h.point ++ stop) ≡ true =
        begins-first (spread said (b ∷ bs) h.point ++ stop) b (first-spread said b bs h.point stop)
        ∙ (and_parts (is_white b) (is_blank bs) e).0 in
        rw white refl

-- where it does not, something else than an ending follows it
white-stops : (said : Line) (following : List Cell → Here → Outcome) (o : Outcome) (line : List ℕ) (stop : List Cell)
    (h : Here) →
    is_blank line ≡ false → NoEnding line → Stops stop → calmed h.scratch ≡ h.scratch →
    length (spread said line h.point ++ stop) < 2 ^ 63 →
    ((cells : List Cell) (k : Here) → is_end cells ≡ false → k.scratch ≡ h.scratch → k.flags ≡ h.flags →
    following cells k ≡ o) →
    after_white_of any_size following (spread said line h.point ++ stop) h ≡ o
white-stops said following o line stop h black bare k calm short refused =
    let cells = spread said line h.point in
    white-joined any_size following (cells ++ stop) h calm (omega arith)
    ∙ refused _ _
    (end-blank any_size (cells ++ stop) (omega (arith, short))
    ∙ blank-spread said line h.point stop bare k ∙ black) refl
    refl

pub fence-is : (said : Line) (following : List Cell → Here → Outcome) (left : Scratch) (line : List ℕ)
    (stop : List Cell)
    (h : Here) →
    is_marker h.scratch.marker ≡ true → h.scratch.size ≡ 0 → calmed h.scratch ≡ h.scratch → NoEnding line → Stops stop →
    1 ≤ h.point.column → length (spread said line h.point ++ stop) < 2 ^ 63 →
    ((cells : List Cell) (k : Here) → is_end cells ≡ false → k.scratch ≡ without_size h.scratch → k.flags ≡ h.flags →
    following cells k ≡ Refuses left h.flags) →
    in_sequence following left (spread said line h.point ++ stop) h ≡
    cond (is_front_fence h.scratch.marker line) (following stop (fence_done line h)) (Refuses left h.flags)
unfolding in_sequence
fence-is said following left line stop h marks none calm bare k one short refused = go (nat_eq (run_len m line) 3) refl
  where
    m : ℕ
    m = h.scratch.marker

    cells : List Cell
    cells = spread said line h.point ++ stop

    run : RunOf (λ b. b == m) said line h.point stop
    run = run-walk (λ b. b == m) (λ b e. marker-dark m b marks e) (marker-ten m marks) said line h.point stop k

    sum : h.scratch.size + run_size (λ b. b == m) cells ≡ run_len m line
    sum = omega (arith, none, run.size)

    go : (x : Bool) → nat_eq (run_len m line) 3 ≡ x →
        in_sequence following left cells h ≡
        cond (is_front_fence m line) (following stop (fence_done line h)) (Refuses left h.flags)
    go false e = rw (sum, e) refl
    go true e = rw (sum, e) (by (is_blank (drop 3 line)) refl)
      where
        three : run_len m line ≡ 3
        three = eqb-true (run_len m line) 3 e

        q : Point
        q = past_text (take 3 line) h.point

        at : Here
        at = record h {
          events = h.events ++ exit n.FrontmatterSequence q ∷ [];
          point = q;
          scratch = without_size h.scratch;
        }

        valid : after_white_of any_size following (run_rest (λ b. b == m) cells)
            (record h {
              events = h.events ++ exit n.FrontmatterSequence (run_end (λ b. b == m) cells h.point) ∷ [];
              point = run_end (λ b. b == m) cells h.point;
              scratch = without_size h.scratch;
            }) ≡
            after_white_of any_size following (spread said (drop 3 line) q ++ stop) at
        valid =
            let end = run.end ∙ ap (λ (i : ℕ). past_text (take i line) h.point) three in
            let rest = run.rest
            ∙ ap (λ (i : ℕ). spread said (drop i line) (past_text (take i line) h.point) ++ stop) three in
            ap₂
            (λ (l : List Cell) (r : Point).
            after_white_of any_size following l
            (record h {
              events = h.events ++ exit n.FrontmatterSequence r ∷ [];
              point = r;
              scratch = without_size h.scratch;
            }))
            rest end

        within : length (spread said (drop 3 line) q ++ stop) < 2 ^ 63
        within =
            let shorter = run-length (λ b. b == m) cells in
            let rest : length (run_rest (λ b. b == m) cells) ≡
            length (spread said (drop 3 line) q ++ stop) =
            ap length
            (run.rest ∙ ap (λ (i : ℕ). spread said (drop i line) (past_text (take i line) h.point) ++ stop) three) in
            omega (arith, short, shorter, rest)

        whole : past_text (drop 3 line) q ≡ past_text line h.point
        whole =
            sym (past_text-append (take 3 line) (drop 3 line) h.point)
            ∙ ap (λ (l : List ℕ). past_text l h.point) (take-append-drop 3 line)

        by : (y : Bool) → is_blank (drop 3 line) ≡ y →
            after_white_of any_size following (run_rest (λ b. b == m) cells)
            (record h {
              events = h.events ++ exit n.FrontmatterSequence (run_end (λ b. b == m) cells h.point) ∷ [];
              point = run_end (λ b. b == m) cells h.point;
              scratch = without_size h.scratch;
            }) ≡
            cond (is_blank (drop 3 line)) (following stop (fence_done line h)) (Refuses left h.flags)
        by true f =
            valid
            ∙ white-over said following (drop 3 line) stop at f (no_ending-drop 3 line bare) k
            (past_text-column (take 3 line) h.point one) (ap without_size calm) within
            ∙ ap
            (λ (r : Point).
            following stop
            (record at { events = at.events ++ part_over n.SpaceOrTab (drop 3 line) q r; point = r })) whole
            ∙ rw f refl
        by false f =
            valid
            ∙ white-stops said following (Refuses left h.flags) (drop 3 line) stop at f (no_ending-drop 3 line bare) k
            (ap without_size calm) within refused
            ∙ rw f refl

-- A closing fence.

close-refuses : (h : Here) (cells : List Cell) (k : Here) → is_end cells ≡ false → k.scratch ≡ without_size h.scratch →
    k.flags ≡ h.flags → close_end cells k ≡ Refuses (without_size h.scratch) h.flags
close-refuses h cells k e s g = close-proceeds cells k e ∙ ap₂ (λ (t : Scratch) (f : Flags). Refuses t f) s g

pub not-fence : (m : ℕ) (line : List ℕ) → nat_eq (run_len m line) 0 ≡ true → is_front_fence m line ≡ false
not-fence m line e =
    let none : run_len m line ≡ 0 = eqb-true (run_len m line) 0 e in
    ap (λ (i : ℕ). (i == 3) && is_blank (drop 3 line)) none

-- where the line begins with another byte, or with none
other-fence : (m : ℕ) (said : Line) (line : List ℕ) (p : Point) (stop : List Cell) →
    is_current m (first_seen (spread said line p ++ stop)) ≡ false → is_front_fence m line ≡ false
other-fence m said [] p stop e = refl
other-fence m said (b ∷ bs) p stop e =
    let other : (b == m) ≡ false = ap (is_current m) (sym (first-spread said b bs p stop)) ∙ e in
    not-fence m (b ∷ bs) (ap (λ (i : ℕ). i == 0) (count-none (λ c. c == m) b bs other))

-- what is left of a fence at its begin, written in another way
abbrev pub around_fence : List ℕ → Here → Here
around_fence line h = record h {
  events = h.events ++ fence_part line h.point;
  point = past_text line h.point;
  scratch = without_size h.scratch;
}

fence-around : (line : List ℕ) (h : Here) →
    with_event (fence_done line (fence_begun h)) (exit n.FrontmatterFence (past_text line h.point)) ≡
    around_fence line h
fence-around line h =
    ap
    (λ (es : List Event).
    let k : Here = record h { events = es; point = past_text line h.point; scratch = without_size h.scratch } in k)
    (simp append_assoc)

close-line : (said : Line) (line : List ℕ) (stop : List Cell) (h : Here) →
    is_marker h.scratch.marker ≡ true → h.scratch.size ≡ 0 → calmed h.scratch ≡ h.scratch → NoEnding line → Stops stop →
    1 ≤ h.point.column → length (spread said line h.point ++ stop) < 2 ^ 63 →
    close_at (spread said line h.point ++ stop) h ≡
    cond (is_front_fence h.scratch.marker line) (Accepts (around_fence line h) stop)
    (Refuses (without_size h.scratch) h.flags)
close-line said line stop h marks none calm bare k one short =
    go (is_current h.scratch.marker (first_seen (spread said line h.point ++ stop))) refl
  where
    m : ℕ
    m = h.scratch.marker

    cells : List Cell
    cells = spread said line h.point ++ stop

    same : without_size h.scratch ≡ h.scratch
    same = ap (λ (i : ℕ). record h.scratch { size = i }) (sym none)

    done : (x : Bool) →
        cond x (close_end stop (fence_done line (fence_begun h))) (Refuses (without_size h.scratch) h.flags) ≡
        cond x (Accepts (around_fence line h) stop) (Refuses (without_size h.scratch) h.flags)
    done true =
        close-done stop (fence_done line (fence_begun h)) (stops-end stop k)
        ∙ ap (λ (r : Here). Accepts r stop) (fence-around line h)
    done false = refl

    go : (x : Bool) → is_current m (first_seen cells) ≡ x →
        cond x (in_close cells (fence_begun h)) (Refuses h.scratch h.flags) ≡
        cond (is_front_fence m line) (Accepts (around_fence line h) stop) (Refuses (without_size h.scratch) h.flags)
    go true e =
        fence-is said close_end (without_size h.scratch) line stop (fence_begun h) marks none calm bare k one short
        (close-refuses (fence_begun h))
        ∙ done (is_front_fence m line)
    go false e =
        ap (λ (s : Scratch). Refuses s h.flags) (sym same)
        ∙ ap
        (λ (x : Bool).
        cond x (Accepts (around_fence line h) stop) (Refuses (without_size h.scratch) h.flags))
        (sym (other-fence m said line h.point stop e))

-- A line between the fences.

chunk-on : (cells stop : List Cell) (h : Here) → NoFeed cells → Stops stop →
    in_lines true (cells ++ stop) h ≡
    following_line stop
    (with_event (record h { point = point_after cells h.point })
    (exit n.FrontmatterChunk (point_after cells h.point)))
chunk-on [] stop h bare k = lines-end true stop h (stops-end stop k)
chunk-on (c ∷ cs) stop h bare k =
    lines-more true c (cs ++ stop) h bare.0 ∙ chunk-on cs stop (record h { point = c.after }) bare.1 k

content-cells : (cells stop : List Cell) (h : Here) → NoFeed cells → Stops stop →
    in_lines false (cells ++ stop) h ≡
    following_line stop
    (record h {
      events = h.events ++ over cells h.point (point_after cells h.point);
      point = point_after cells h.point;
    })
content-cells [] stop h bare k =
    lines-end false stop h (stops-end stop k)
    ∙ ap (λ (es : List Event). following_line stop (record h { events = es })) (sym (append-nil h.events))
content-cells (c ∷ cs) stop h bare k =
    let p = h.point in
    let q = point_after (c ∷ cs) p in
    let k' : Here = record h { events = h.events ++ enter n.FrontmatterChunk p ∷ []; point = c.after } in
    lines-more false c (cs ++ stop) h bare.0
    ∙ chunk-on cs stop k' bare.1 k
    ∙ ap (λ (es : List Event). following_line stop (record h { events = es; point = q })) (simp append_assoc)

over-line : (said : Line) (line : List ℕ) (p q : Point) →
    over (spread said line p) p q ≡ part_over n.FrontmatterChunk line p q
over-line said [] p q = refl
over-line said (b ∷ bs) p q = go (spread said (b ∷ bs) p) refl
  where
    go : (cells : List Cell) → spread said (b ∷ bs) p ≡ cells →
        over (spread said (b ∷ bs) p) p q ≡ pair n.FrontmatterChunk p q
    go [] e =
        let first : first_seen (spread said (b ∷ bs) p ++ []) ≡ Some b = first-spread said b bs p [] in
        let none : first_seen (spread said (b ∷ bs) p ++ []) ≡ None = ap (λ (l : List Cell). first_seen (l ++ [])) e in
        let wrong : None ≡ Some b = sym none ∙ first in cc
    go (c ∷ cs) e = ap (λ (l : List Cell). over l p q) e

content-line : (said : Line) (line : List ℕ) (stop : List Cell) (h : Here) → NoEnding line → Stops stop →
    1 ≤ h.point.column →
    in_lines false (spread said line h.point ++ stop) h ≡
    following_line stop
    (record h { events = h.events ++ line_part line h.point; point = past_text line h.point })
content-line said line stop h bare k one =
    let cells = spread said line h.point in
    let q = past_text line h.point in
    content-cells cells stop h (no_feed-spread said line h.point bare) k
    ∙ ap
    (λ (r : Point).
    following_line stop (record h { events = h.events ++ over cells h.point r; point = r }))
    (spread-end said line h.point one)
    ∙ ap (λ (es : List Event). following_line stop (record h { events = h.events ++ es; point = q }))
    (over-line said line h.point q)

-- A line before which one is: the closing fence, or one between.
pub one-line : (said : Line) (line : List ℕ) (stop : List Cell) (h : Here) →
    is_marker h.scratch.marker ≡ true → h.scratch.size ≡ 0 → calmed h.scratch ≡ h.scratch → NoEnding line → Stops stop →
    1 ≤ h.point.column → length (spread said line h.point ++ stop) < 2 ^ 63 →
    at_line (spread said line h.point ++ stop) h ≡
    cond (is_front_fence h.scratch.marker line) (shuts stop (around_fence line h))
    (following_line stop
    (record h { events = h.events ++ line_part line h.point; point = past_text line h.point }))
one-line said line stop h marks none calm bare k one short =
    ap (closed_or content) (close-line said line stop h marks none calm bare k one short)
    ∙ go (is_front_fence h.scratch.marker line)
  where
    cells : List Cell
    cells = spread said line h.point ++ stop

    content : Scratch → Flags → Outcome
    content s g = in_lines false cells (record h { scratch = s; flags = g })

    go : (x : Bool) →
        closed_or content (cond x (Accepts (around_fence line h) stop) (Refuses (without_size h.scratch) h.flags)) ≡
        cond x (shuts stop (around_fence line h))
        (following_line stop
        (record h { events = h.events ++ line_part line h.point; point = past_text line h.point }))
    go true = refl
    go false =
        ap (λ (i : ℕ). in_lines false cells (record h { scratch = record h.scratch { size = i } })) (sym none)
        ∙ content-line said line stop h bare k one
