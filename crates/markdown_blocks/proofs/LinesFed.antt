-- Whenever a run of flow has fed a line, the tokenizer holds what the rows of the text say.
--
-- What is left of one line is a behaviour too, whose rule stops where the next line begins. So each call becomes what
-- the line becomes, up to the call that takes the ending of the line; there the next line begins.
use Rattle.md_engine.specs.declared.tokenizer.held_leaf.HeldLeaf.TheVariants as held_leaf
use Rattle.md_engine.specs.declared.tokenizer.held_leaf.HeldLeaf.{HeldLeaf}
use Rattle.std.proofs.Common.{◌≡◌, ◌^◌, ◌<◌, ◌⊎◌, inl, inr, ℕ, zero, suc, ◌+◌, Bool, true, false, cond, nat_eq, List}
use Rattle.std.proofs.Common.{◌≤◌, [], ◌∷◌, ◌++◌, length, take, drop, Option, Some, None, refl, sym, ◌∙◌, ap, subst}
use Rattle.std.proofs.Common.{arith, append_assoc, append-nil, length-drop}
use Rattle.std.proofs.lemmas.Bool.{eqb-true}
use Rattle.md_engine.specs.declared.configuration.ParseOptions.{ParseOptions}
use Rattle.md_engine.specs.declared.event.Event.{Event}
use Rattle.md_engine.specs.declared.event.Point.{Point}
use Rattle.md_engine.specs.declared.state.Name.{Name as StateName}
use Rattle.md_engine.specs.declared.state.Name.TheVariants as s
use Rattle.md_engine.specs.declared.state.document.State.TheVariants as document
use Rattle.md_engine.specs.declared.state.State.{State}
use Rattle.md_engine.specs.declared.state.State.TheVariants.{Next, Ok}
use Rattle.md_engine.specs.declared.tokenizer.Frame.{Frame}
use Rattle.md_engine.specs.Meaning.{Accepts, Behaviour, Cell, Feed, Follows, Here, Outcome, Refuses, Steps}
use Rattle.md_engine.specs.Meaning.{whole_outcome, proceeds, here, resume_all}
use Rattle.md_engine.specs.Run.{Calls, Leaves, Runs, plain, reading}
use Rattle.md_engine.specs.Run.Runs.{Stays, ThenCalls, ThenLeaves}
use Rattle.md_engine.specs.Scheme.{valid}
use Rattle.md_engine.specs.TextFeed.{text_feed}
use Rattle.md_engine.specs.World.{Setting, World, looks}
use Rattle.md_engine.proofs.Falls.{leaves_valid}
use Rattle.md_engine.proofs.Keeps.{leaves-keep, plain-same, runs-setting, steps-keep}
use Rattle.md_engine.proofs.StepOf.{sees, steps-as}
use Rattle.md_engine.proofs.TextFeed.{text-follows}
use Rattle.md_events.specs.Spaces.{any_size}
use Rattle.md_events.specs.Ahead.{from_ending, line_end}
use Rattle.md_events.specs.Events.Nested.{pair}
use Rattle.md_meaning.specs.State.{Container}
use Rattle.md_events.proofs.FeedLines.{Stops}
use Rattle.proof_frame.specs.Change.{ends_of, open_following}
use Rattle.md_registry.specs.FlowRule.{feeds, ended, line_then}
use Rattle.markdown_blocks.specs.Fed.{fed, flow_begins, line_begins, not_left, place_following}
use Rattle.proof_frame.specs.Rule.{Rule}
use Rattle.proof_frame.specs.EndingName.{ending_name}
use Rattle.proof_frame.specs.Row.{Row, after_row}
use Rattle.proof_rows.specs.Rows.{after_held, Held, after_ending, closes_before, held_at}
use Rattle.proof_rows.specs.Rows.{onto_rows, row_events, row_of, rows_at, rows_events}
use Rattle.proof_rows.specs.Valid.{AreOpen}
use Rattle.md_registry.specs.States.{FlowStep, flow_behaves_by, flow_table_scheme, flow_transition}
use Rattle.proof_rows.specs.TextRows.{text_cells, text_rows, text_setting}
use Rattle.markdown_blocks.proofs.FlowMeans.{Takes, ending-taken, flow-steps-by, flow_keeps_valid}
use Rattle.proof_rows.proofs.FlowLine.{Begins, Done, line-done}
use Rattle.proof_rows.proofs.FlowRows.{held-shorter, leaving, next-begins, next_here}
use Rattle.proof_rows.proofs.FlowRows.{no-closes, row-adds, rows_below, text-begins}
use Rattle.md_containers.proofs.QuoteCells.{ending-shorter}
use Rattle.md_link_definitions.proofs.LineCells.{line-stops}

-- After some lines.

-- which containers are open,
abbrev pub open_after : List Container → List Row → List Container
open_after cs [] = cs
open_after cs (row ∷ rows) = open_after (open_following row.change) rows

-- and the leaf that is open after them
abbrev pub leaf_after : HeldLeaf → List Row → HeldLeaf
leaf_after still [] = still
leaf_after still (row ∷ rows) = leaf_after row.following rows

-- the last of them says these, and where the next begins
open-last : (cs : List Container) (rows : List Row) (row : Row) →
    open_after cs (rows ++ row ∷ []) ≡ open_following row.change
open-last cs [] row = refl
open-last cs (first ∷ rows) row = open-last (open_following first.change) rows row

leaf-last : (still : HeldLeaf) (rows : List Row) (row : Row) →
    leaf_after still (rows ++ row ∷ []) ≡ row.following
leaf-last still [] row = refl
leaf-last still (first ∷ rows) row = leaf-last first.following rows row

place-last : (p : Point) (rows : List Row) (row : Row) → place_following p (rows ++ row ∷ []) ≡ after_row row
place-last p [] row = refl
place-last p (first ∷ rows) row = place-last (after_row first) rows row

-- no container has ended after it yet
not_left-last : (rows : List Row) (row : Row) → not_left (rows ++ row ∷ []) ≡ rows ++ leaving [] row ∷ []
not_left-last [] row = refl
not_left-last (first ∷ []) row = refl
not_left-last (first ∷ next ∷ rows) row = ap (λ (l : List Row). first ∷ l) (not_left-last (next ∷ rows) row)

-- the events of lines are those of each
events-append : (xs ys : List Row) → rows_events (xs ++ ys) ≡ rows_events xs ++ rows_events ys
events-append [] ys = refl
events-append (x ∷ xs) ys =
    ap (λ (es : List Event). row_events x ++ es) (events-append xs ys)
    ∙ sym (append_assoc (row_events x) (rows_events xs) (rows_events ys))

-- with one line more
take-next : (n : ℕ) (all : List Row) (row : Row) (below : List Row) → drop n all ≡ row ∷ below →
    take (suc n) all ≡ take n all ++ row ∷ []
take-next zero [] row below e = cc
take-next zero (first ∷ all) row below e = let same : first ≡ row = cc in ap (λ (r : Row). r ∷ []) same
take-next (suc n) [] row below e = cc
take-next (suc n) (first ∷ all) row below e = ap (λ (l : List Row). first ∷ l) (take-next n all row below e)

drop-next : (n : ℕ) (all : List Row) (row : Row) (below : List Row) → drop n all ≡ row ∷ below →
    drop (suc n) all ≡ below
drop-next zero [] row below e = cc
drop-next zero (first ∷ all) row below e = cc
drop-next (suc n) [] row below e = cc
drop-next (suc n) (first ∷ all) row below e = drop-next n all row below e

-- One line.

-- the rule that stops before a line, and shows what is left there: it adds a cell, so it is distinguished from the end
-- of the text
abbrev pub line_stop : Rule
line_stop cells h =
    Accepts h (record { byte = 0; after = h.point; line = record { start = 0; lazy = false } } ∷ cells)

-- what is known where it has stopped
abbrev AtStop : (List Cell → Here → Type 0) → Outcome → Type 0
AtStop P (Accepts h (c ∷ cells)) = P cells h
AtStop P _ = ⊥

-- A line begins at this place, where these cells are left and so many of all lines are before it.
pub record LineAt (options : ParseOptions) (from : Point) (all : List Row) (n : ℕ) (left : List Cell)
    (h : Here) : Type 0 where
  -- what was added before the ending before it, and from there on, and what is open
  pub front : List Event
  pub tail : List Event
  pub point : Point
  pub containers : List Container
  pub still : HeldLeaf
  pub begins : Begins front tail point containers still h
  -- the further lines are read from here on
  pub size : ℕ
  pub fits : length left < size
  pub few : length left ≤ any_size
  pub rows : drop n all ≡ rows_at options size containers still left h.point
  -- the events of the lines before it, with the ends of the containers that the line closes, and without them
  pub read : front ++ (ends_of (closes_before containers (drop n all)) point ++ tail) ≡ rows_events (take n all)
  pub events : h.events ≡ rows_events (not_left (take n all))
  -- where the last of them has ended, and what they leave open
  pub place : h.point ≡ place_following from (take n all)
  pub containers_are : containers ≡ open_after [] (take n all)
  pub still_is : still ≡ leaf_after held_leaf.None (take n all)

regroup : (front ends tail more : List Event) → front ++ (ends ++ (tail ++ more)) ≡ (front ++ (ends ++ tail)) ++ more
regroup front ends tail more = simp append_assoc

-- where the line has reached the begin of another, that is the next
line-next : (options : ParseOptions) (from : Point) (all : List Row) (n : ℕ) (left : List Cell) (h : Here) →
    LineAt options from all n left h → (rest : List Cell) (new : Here) →
    line_then options line_stop left h ≡ line_stop rest new → LineAt options from all (suc n) rest new
line-next options from all n left h l rest new is = by l.size l.fits l.rows
  where
    x : Held
    x = held_at options l.containers l.still left h.point

    d : Done line_stop options l.front l.tail l.point (held_at options l.containers l.still left h.point)
        (line_then options line_stop left h)
    d = line-done options line_stop l.front l.tail l.point l.containers l.still left h l.few l.begins

    following : List Container
    following = open_following (held_at options l.containers l.still left h.point).change

    text : HeldLeaf
    text = after_held options (held_at options l.containers l.still left h.point)

    -- after the line, with the ends of these containers
    added : (c : Cell) (xs : List Cell) (below : List Row) (ls : List Container) → from_ending x.cells ≡ c ∷ xs →
        drop n all ≡ row_of options x below ∷ below →
        d.new.events ++ (ends_of ls d.new.point ++ pair (ending_name d.new.flags.blank) d.new.point c.after) ≡
        rows_events (take n all ++ leaving ls (row_of options x below) ∷ [])
    added c xs below ls e rows =
        let tail : List Event = pair (ending_name d.new.flags.blank) d.new.point c.after in
        let row : List Event = row_events (leaving ls (row_of options x below)) in
        ap (λ (es : List Event). d.new.events ++ (ends_of ls d.new.point ++ es)) (sym (append-nil tail))
        ∙ row-adds line_stop options l.front l.tail l.point x (line_then options line_stop left h) d ls
        (c ∷ xs) below [] e
        ∙ regroup l.front (ends_of x.change.closes l.point) l.tail (row ++ [])
        ∙ ap
        (λ (rs : List Row). (l.front ++ (ends_of (closes_before l.containers rs) l.point ++ l.tail)) ++ (row ++ []))
        (sym rows)
        ∙ ap (λ (es : List Event). es ++ (row ++ [])) l.read
        ∙ sym (events-append (take n all) (leaving ls (row_of options x below) ∷ []))

    by : (size : ℕ) → length left < size → drop n all ≡ rows_at options size l.containers l.still left h.point →
        LineAt options from all (suc n) rest new
    by zero fits rows = absurd (omega arith)
    by (suc m) fits rows =
        go (from_ending x.cells) refl (line-stops x.cells)
        (omega (arith, ending-shorter x.cells, held-shorter options l.containers l.still left h.point)) rows
      where
        go : (ls : List Cell) → from_ending x.cells ≡ ls → Stops ls → length ls < suc m →
            drop n all ≡ onto_rows options x (rows_below options m following text ls) →
            LineAt options from all (suc n) rest new
        go [] e stops short rows =
            let none : line_stop rest new ≡ ended line_stop [] d.new = sym is ∙ d.is
            ∙ ap (λ (cells : List Cell). ended line_stop cells d.new) e in
            absurd (subst (AtStop (λ cells k. Unit {0})) none tt)
        go (c ∷ xs) e stops short rows =
            let fewer : length (c ∷ xs) ≤ any_size =
            let same = ap length e in
            omega
            (arith, same, l.few, ending-shorter x.cells, held-shorter options l.containers l.still left h.point)
            in
            let below : List Row = rows_at options m following text xs c.after in
            let row : Row = row_of options x below in
            let taken : take (suc n) all ≡ take n all ++ row ∷ [] = take-next n all row below rows in
            let dropped : drop (suc n) all ≡ below = drop-next n all row below rows in
            let tail : List Event = pair (ending_name d.new.flags.blank) d.new.point c.after in
            let stopped : line_stop xs (next_here c d.new) ≡ line_stop rest new =
            sym
            (d.is ∙ ap (λ (cells : List Cell). ended line_stop cells d.new) e
            ∙ ap (λ (y : Bool). cond y (line_stop xs (next_here c d.new)) (Refuses d.new.scratch d.new.flags)) stops)
            ∙ is in
            subst (AtStop (LineAt options from all (suc n))) stopped (record {
              front = d.new.events;
              tail = tail;
              point = d.new.point;
              containers = following;
              still = text;
              begins = next-begins following text c d.new d.rest d.leaf d.containers;
              size = m;
              fits = omega arith;
              few = omega (arith, fewer);
              rows = dropped;
              read =
                  ap
                  (λ (rs : List Row). d.new.events ++ (ends_of (closes_before following rs) d.new.point ++ tail))
                  dropped
                  ∙ added c xs below (closes_before following below) e rows ∙ ap rows_events (sym taken);
              events =
                  added c xs below [] e rows ∙ ap rows_events (sym (not_left-last (take n all) row))
                  ∙ ap (λ (rs : List Row). rows_events (not_left rs)) (sym taken);
              place =
                  ap (λ (ls : List Cell). elim (after_ending ls) [ None ↦ line_end x.cells x.point | Some q ↦ q ])
                  (sym e)
                  ∙ sym (ap (place_following from) taken ∙ place-last from (take n all) row);
              containers_are = sym (ap (open_after []) taken ∙ open-last [] (take n all) row);
              still_is = sym (ap (leaf_after held_leaf.None) taken ∙ leaf-last held_leaf.None (take n all) row);
            })

-- where a line begins there are more lines than before it
is-further : (options : ParseOptions) (all : List Row) (n size : ℕ) (cs : List Container) (still : HeldLeaf)
    (left : List Cell) (p : Point) →
    length left < size → drop n all ≡ rows_at options size cs still left p → n < length all
is-further options all n zero cs still left p fits rows = absurd (omega arith)
is-further options all n (suc m) cs still left p fits rows =
    let many = ap length rows in
    omega (arith, many, length-drop n all)

-- Calls.

-- a call feeds a line or none
pub none-or-ending : (name : StateName) (o : Option ℕ) →
    (feeds name o ≡ 0) ⊎ ((name ≡ s.Document document.FlowEnd) × (o ≡ Some 10))
none-or-ending (s.Document document.FlowEnd) None = inl refl
none-or-ending (s.Document document.FlowEnd) (Some b) = go (nat_eq b 10) refl
  where
    go : (x : Bool) → nat_eq b 10 ≡ x →
        (let lines : ℕ = cond x 1 0 in lines ≡ 0) ⊎
        ((s.Document document.FlowEnd ≡ s.Document document.FlowEnd) × (Some b ≡ Some 10))
    go true e = inr (refl, ap (λ (c : ℕ). Some c) (eqb-true b 10 e))
    go false e = inl refl
none-or-ending name o = inl refl

-- what is left of one line at each state
abbrev pub line_behaves : Setting → Behaviour
line_behaves x = flow_behaves_by x.bytes x.options line_stop

-- So many of all lines were fed; the tokenizer becomes what is left of the line that it reads.
pub record Within (under : Setting) (feed : Feed) (from : Point) (all : List Row) (n : ℕ) (t : State)
    (v : World) : Type 0 where
  pub at : valid flow_table_scheme v (plain t)
  pub left : List Cell
  pub begin : Here
  pub line : LineAt under.options from all n left begin
  pub becomes : whole_outcome (line_behaves under) feed t v ≡ line_then under.options line_stop left begin

-- a line was fed: no attempt is around, and the next begins
record Following (under : Setting) (feed : Feed) (from : Point) (all : List Row) (n : ℕ) (t : State)
    (v : World) : Type 0 where
  to : t ≡ Next (s.Document document.ContainerExistingBefore)
  frames : v.frames ≡ []
  line : LineAt under.options from all n (feed v.point) (here v)

-- an attempt is left
within-leaves : (under : Setting) (feed : Feed) (from : Point) (all : List Row) (n : ℕ) (t : State) (v : World)
    (t' : State) (v' : World) →
    Within under feed from all n t v → Leaves t v t' v' → Within under feed from all n t' v'
within-leaves under feed from all n t v t' v' w l = record {
  at = leaves_valid flow_table_scheme v v' t t' l w.at;
  left = w.left;
  begin = w.begin;
  line = w.line;
  becomes = sym (leaves-keep (line_behaves under) feed t t' v v' l) ∙ w.becomes;
}

-- where a state is called
becomes-called : (under : Setting) (feed : Feed) (from : Point) (all : List Row) (n : ℕ) (t : State) (v : World)
    (name : StateName) →
    plain t ≡ Next name → (w : Within under feed from all n t v) →
    whole_outcome (line_behaves under) feed (Next name) v ≡ line_then under.options line_stop w.left w.begin
becomes-called under feed from all n t v name names w =
    let B = line_behaves under in
    ap (λ (x : State). whole_outcome B feed x v) (sym names) ∙ plain-same B feed v t ∙ w.becomes

-- a call that feeds no line
within-calls : (under : Setting) (feed : Feed) (from : Point)
    (all : List Row) (n : ℕ) (t : State) (v : World) (t' : State) (v' : World) →
    Follows feed v.setting true → v.setting ≡ under → Within under feed from all n t v →
    (c : Calls FlowStep true t v t' v') → feeds c.name (looks v) ≡ 0 → Within under feed from all n t' v'
within-calls under feed from all n t v t' v' f o w c none = record {
  at = flow_keeps_valid c.name v t' v' is_valid c.step;
  left = w.left;
  begin = w.begin;
  line = w.line;
  becomes =
      sym
      (steps-keep (line_behaves under) feed (Next c.name) t' (reading v) v' c.within (subst P o steps))
      ∙ becomes-called under feed from all n t v c.name c.names w;
}
  where
    Q : State → Type 0
    Q x = valid flow_table_scheme v x

    is_valid : valid flow_table_scheme v (Next c.name)
    is_valid = subst Q c.names w.at

    P : Setting → Type 0
    P x = Steps (line_behaves x) feed (Next c.name) (reading v) t' v'

    steps : Steps (line_behaves v.setting) feed (Next c.name) (reading v) t' v'
    steps =
        steps-as (line_behaves v.setting) feed (Next c.name)
        (flow_transition c.name (reading v)).to t' (reading v)
        (flow_transition c.name (reading v)).world v' c.step.to_is c.step.new_is
        (flow-steps-by feed line_stop c.name (reading v) (sees feed v true f c.may) refl is_valid none)

-- the call that takes an ending
following-calls : (under : Setting) (feed : Feed) (from : Point)
    (all : List Row) (n : ℕ) (t : State) (v : World) (t' : State) (v' : World) →
    Follows feed v.setting true → v.setting ≡ under → Within under feed from all n t v →
    Calls FlowStep true t v t' v' → plain t ≡ Next (s.Document document.FlowEnd) →
    FlowStep (s.Document document.FlowEnd) (reading v) t' v' → looks v ≡ Some 10 →
    Following under feed from all (suc n) t' v'
following-calls under feed from all n t v t' v' f o w c names step ten = record {
  to = step.to_is ∙ taken.to_is;
  frames = ap (λ (x : World). x.frames) step.new_is ∙ taken.still;
  line = line-next under.options from all n w.left w.begin w.line (feed v'.point) (here v') ended;
}
  where
    Q : State → Type 0
    Q x = valid flow_table_scheme v x

    taken : Takes line_stop feed (reading v) (flow_transition (s.Document document.FlowEnd) (reading v)).to
        (flow_transition (s.Document document.FlowEnd) (reading v)).world
    taken = ending-taken feed line_stop (reading v) (sees feed v true f c.may) (subst Q names w.at) ten

    ended : line_then under.options line_stop w.left w.begin ≡ line_stop (feed v'.point) (here v')
    ended =
        sym (becomes-called under feed from all n t v (s.Document document.FlowEnd) names w)
        ∙ ap
        (λ (fs : List Frame).
        resume_all (line_behaves under) feed v.events fs
        (proceeds (line_behaves under) (Next (s.Document document.FlowEnd)) (feed v.point) (here v)))
        taken.frames
        ∙ ap
        (λ (x : Setting).
        proceeds (line_behaves x) (Next (s.Document document.FlowEnd)) (feed v.point) (here v))
        (sym o)
        ∙ taken.is_continued
        ∙ ap (λ (x : World). line_stop (feed x.point) (here x)) (sym step.new_is)

-- by the state that is called
following-feed : (under : Setting) (feed : Feed) (from : Point)
    (all : List Row) (n : ℕ) (t : State) (v : World) (t' : State) (v' : World) →
    Follows feed v.setting true → v.setting ≡ under → Within under feed from all n t v →
    (c : Calls FlowStep true t v t' v') → c.name ≡ s.Document document.FlowEnd → looks v ≡ Some 10 →
    Following under feed from all (suc n) t' v'
following-feed under feed from all n t v t' v' f o w c e ten =
    let P : StateName → Type 0 = λ x. FlowStep x (reading v) t' v' in
    following-calls under feed from all n t v t' v' f o w c (c.names ∙ ap (λ (x : StateName). Next x) e)
    (subst P e c.step) ten

-- there the tokenizer reads the next line
following-within : (under : Setting) (feed : Feed) (from : Point) (all : List Row) (n : ℕ) (t : State) (v : World) →
    valid flow_table_scheme v (plain t) → Following under feed from all n t v → Within under feed from all n t v
following-within under feed from all n t v at b = record {
  at = at;
  left = feed v.point;
  begin = here v;
  line = b.line;
  becomes = ap (λ (x : State). whole_outcome (line_behaves under) feed x v) b.to
      ∙ ap
      (λ (fs : List Frame).
      resume_all (line_behaves under) feed v.events fs
      (line_then under.options line_stop (feed v.point) (here v))) b.frames;
}

-- so any call leads on
within-next : (under : Setting) (feed : Feed) (from : Point)
    (all : List Row) (n : ℕ) (t : State) (v : World) (t' : State) (v' : World) →
    Follows feed v.setting true → v.setting ≡ under → Within under feed from all n t v →
    (c : Calls FlowStep true t v t' v') → Within under feed from all (feeds c.name (looks v) + n) t' v'
within-next under feed from all n t v t' v' f o w c = go (none-or-ending c.name (looks v))
  where
    P : ℕ → Type 0
    P k = Within under feed from all k t' v'

    Q : State → Type 0
    Q x = valid flow_table_scheme v x

    at : valid flow_table_scheme v' (plain t')
    at = flow_keeps_valid c.name v t' v' (subst Q c.names w.at) c.step

    go : (feeds c.name (looks v) ≡ 0) ⊎ ((c.name ≡ s.Document document.FlowEnd) × (looks v ≡ Some 10)) →
        Within under feed from all (feeds c.name (looks v) + n) t' v'
    go (inl none) =
        let same : n ≡ feeds c.name (looks v) + n = omega (arith, none) in
        subst P same (within-calls under feed from all n t v t' v' f o w c none)
    go (inr one) =
        let lines : feeds c.name (looks v) ≡ 1 = ap (λ (x : StateName). feeds x (looks v)) one.0
        ∙ ap (λ (x : Option ℕ). feeds (s.Document document.FlowEnd) x) one.1 in
        let same : suc n ≡ feeds c.name (looks v) + n = omega (arith, lines) in
        subst P same
        (following-within under feed from all (suc n) t' v' at
        (following-feed under feed from all n t v t' v' f o w c one.0 one.1))

-- and all of a run does
within-run : (under : Setting) (feed : Feed) (from : Point)
    (all : List Row) (begin : State) (w : World) →
    Follows feed w.setting true → w.setting ≡ under → Within under feed from all 0 begin w →
    (t : State) (v : World) (run : Runs FlowStep true begin w t v) →
    Within under feed from all (fed FlowStep true begin w t v run) t v
within-run under feed from all begin w f o begun t v Stays = begun
within-run under feed from all begin w f o begun to new (ThenLeaves t v t' v' run l) =
    within-leaves under feed from all (fed FlowStep true begin w t v run) t v t' v'
    (within-run under feed from all begin w f o begun t v run) l
within-run under feed from all begin w f o begun to new (ThenCalls t v t' v' run c) =
    let P : Setting → Type 0 = λ x. Follows feed x true in
    let kept : v.setting ≡ w.setting = runs-setting FlowStep true begin w t v run in
    within-next under feed from all (fed FlowStep true begin w t v run) t v t' v'
    (subst P (sym kept) f) (kept ∙ o)
    (within-run under feed from all begin w f o begun t v run) c

-- A text.

-- So many lines were fed, and the tokenizer is at the begin of the next.
pub record LineFed (bytes : List ℕ) (options : ParseOptions) (p : Point) (n : ℕ) (w : World) : Type 0 where
  pub frames : w.frames ≡ []
  pub further : n < length (text_rows options bytes p)
  pub point : w.point ≡ place_following p (take n (text_rows options bytes p))
  pub containers : AreOpen w.flags.containers (open_after [] (take n (text_rows options bytes p)))
  pub leaf : w.flags.leaf ≡ leaf_after held_leaf.None (take n (text_rows options bytes p))
  pub events : w.events ≡ rows_events (not_left (take n (text_rows options bytes p)))

-- a call that feeds a line
ending-fed : (name : StateName) (o : Option ℕ) → feeds name o ≡ 1 →
    (name ≡ s.Document document.FlowEnd) × (o ≡ Some 10)
ending-fed name o one = go (none-or-ending name o)
  where
    go : (feeds name o ≡ 0) ⊎ ((name ≡ s.Document document.FlowEnd) × (o ≡ Some 10)) →
        (name ≡ s.Document document.FlowEnd) × (o ≡ Some 10)
    go (inl none) = absurd (omega (arith, none, one))
    go (inr is) = is

-- its cells
abbrev feed_of : List ℕ → ParseOptions → Point → Feed
feed_of bytes options p = text_feed (text_setting bytes options p)

pub text-follows_it : (bytes : List ℕ) (options : ParseOptions) (p : Point) → length bytes < 2 ^ 61 →
    Follows (feed_of bytes options p) (text_setting bytes options p) true
text-follows_it bytes options p small =
    text-follows (text_setting bytes options p) (length bytes) true small (omega arith) (λ e. refl)

-- a run over it reads one line after another
pub text-within : (bytes : List ℕ) (options : ParseOptions) (p : Point) →
    length bytes < 2 ^ 61 →
    (t : State) (v : World) (run : Runs FlowStep true line_begins (flow_begins bytes options p) t v) →
    Within (text_setting bytes options p) (feed_of bytes options p) p (text_rows options bytes p)
    (fed FlowStep true line_begins (flow_begins bytes options p) t v run) t v
text-within bytes options p small t v run =
    within-run (text_setting bytes options p) (feed_of bytes options p) p (text_rows options bytes p)
    line_begins (flow_begins bytes options p) (text-follows_it bytes options p small) refl begun t v run
  where
    closed : (held_at options [] held_leaf.None (text_cells bytes options p) p).change.closes ≡ []
    closed = no-closes options (text_cells bytes options p) p

    begun : Within (text_setting bytes options p) (feed_of bytes options p) p (text_rows options bytes p) 0 line_begins
        (flow_begins bytes options p)
    begun = record {
      at = ((refl, record { ok = λ s q t is up way. tt; nok = λ s q t is up. tt }), tt);
      left = text_cells bytes options p;
      begin = here (flow_begins bytes options p);
      line = record {
        front = [];
        tail = [];
        point = p;
        containers = [];
        still = held_leaf.None;
        begins = text-begins (here (flow_begins bytes options p)) refl refl refl refl refl refl refl;
        size = suc (length (text_cells bytes options p));
        fits = omega arith;
        few = let short = (text-follows_it bytes options p small).short p in omega (arith, short);
        rows = refl;
        read = ap (λ (cs : List Container). ends_of cs p ++ []) closed;
        events = refl;
        place = refl;
        containers_are = refl;
        still_is = refl;
      };
      becomes = refl;
    }

-- whenever it has fed a line, it is at the begin of the next
pub line-fed : (bytes : List ℕ) (options : ParseOptions) (p : Point) →
    length bytes < 2 ^ 61 →
    (t : State) (v : World) (t' : State) (v' : World)
    (run : Runs FlowStep true line_begins (flow_begins bytes options p) t v)
    (calls : Calls FlowStep true t v t' v') →
    feeds calls.name (looks v) ≡ 1 →
    LineFed bytes options p (suc (fed FlowStep true line_begins (flow_begins bytes options p) t v run)) v'
line-fed bytes options p small t v t' v' run c one = record {
  frames = b.frames;
  further =
      is-further options (text_rows options bytes p) (suc n) b.line.size b.line.containers b.line.still
      (feed_of bytes options p v'.point) v'.point b.line.fits b.line.rows;
  point = b.line.place;
  containers =
      let P : List Container → Type 0 = λ cs. AreOpen v'.flags.containers cs in
      subst P b.line.containers_are b.line.begins.containers;
  leaf = b.line.begins.leaf ∙ b.line.still_is;
  events = b.line.events;
}
  where
    n : ℕ
    n = fed FlowStep true line_begins (flow_begins bytes options p) t v run

    kept : v.setting ≡ text_setting bytes options p
    kept = runs-setting FlowStep true line_begins (flow_begins bytes options p) t v run

    ending : (c.name ≡ s.Document document.FlowEnd) × (looks v ≡ Some 10)
    ending = ending-fed c.name (looks v) one

    b : Following (text_setting bytes options p) (feed_of bytes options p) p (text_rows options bytes p) (suc n) t' v'
    b =
        let P : Setting → Type 0 = λ x. Follows (feed_of bytes options p) x true in
        following-feed (text_setting bytes options p) (feed_of bytes options p) p (text_rows options bytes p) n t v
        t' v'
        (subst P (sym kept) (text-follows_it bytes options p small)) kept
        (text-within bytes options p small t v run) c ending.0 ending.1

-- The last line.

-- where a line becomes the end of the text, it is the last
pub line-last : (options : ParseOptions) (from : Point) (all : List Row) (n : ℕ) (left : List Cell) (h : Here) →
    LineAt options from all n left h → (new : Here) → line_then options line_stop left h ≡ Accepts new [] →
    suc n ≡ length all
line-last options from all n left h l new is = by l.size l.fits l.rows
  where
    x : Held
    x = held_at options l.containers l.still left h.point

    d : Done line_stop options l.front l.tail l.point (held_at options l.containers l.still left h.point)
        (line_then options line_stop left h)
    d = line-done options line_stop l.front l.tail l.point l.containers l.still left h l.few l.begins

    following : List Container
    following = open_following (held_at options l.containers l.still left h.point).change

    text : HeldLeaf
    text = after_held options (held_at options l.containers l.still left h.point)

    by : (size : ℕ) → length left < size → drop n all ≡ rows_at options size l.containers l.still left h.point →
        suc n ≡ length all
    by zero fits rows = absurd (omega arith)
    by (suc m) fits rows = go (from_ending x.cells) refl (line-stops x.cells) rows
      where
        go : (ls : List Cell) → from_ending x.cells ≡ ls → Stops ls →
            drop n all ≡ onto_rows options x (rows_below options m following text ls) → suc n ≡ length all
        go [] e stops rows = let one = ap length rows in omega (arith, one, length-drop n all)
        go (c ∷ xs) e stops rows =
            let stopped : Accepts new [] ≡ line_stop xs (next_here c d.new) =
            sym is ∙ d.is ∙ ap (λ (cells : List Cell). ended line_stop cells d.new) e
            ∙ ap
            (λ (y : Bool). cond y (line_stop xs (next_here c d.new)) (Refuses d.new.scratch d.new.flags)) stops in
            absurd (subst (AtStop (λ cells k. Unit {0})) (sym stopped) tt)

-- a run that ends with the text has fed all lines but the last
pub lines-fed : (bytes : List ℕ) (options : ParseOptions) (p : Point) →
    length bytes < 2 ^ 61 →
    (end : State) (at : World) (run : Runs FlowStep true line_begins (flow_begins bytes options p) end at) →
    end ≡ Ok → at.frames ≡ [] → text_feed (text_setting bytes options p) at.point ≡ [] →
    suc (fed FlowStep true line_begins (flow_begins bytes options p) end at run) ≡
    length (text_rows options bytes p)
lines-fed bytes options p small end at run ok none done =
    line-last options p (text_rows options bytes p)
    (fed FlowStep true line_begins (flow_begins bytes options p) end at run) w.left w.begin w.line
    (here at)
    (sym w.becomes
    ∙ ap (λ (x : State). whole_outcome B feed x at) ok
    ∙ ap (λ (fs : List Frame). resume_all B feed at.events fs (Accepts (here at) (feed at.point))) none
    ∙ ap (Accepts (here at)) done)
  where
    B : Behaviour
    B = line_behaves (text_setting bytes options p)

    feed : Feed
    feed = feed_of bytes options p

    w : Within (text_setting bytes options p) (feed_of bytes options p) p (text_rows options bytes p)
        (fed FlowStep true line_begins (flow_begins bytes options p) end at run) end at
    w = text-within bytes options p small end at run
