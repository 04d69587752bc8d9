-- What flow adds to the events, line after line: the events of the rows of the text.
use Rattle.md_engine.specs.declared.tokenizer.held_leaf.HeldLeaf.TheVariants as held_leaf
use Rattle.md_engine.specs.declared.tokenizer.held_leaf.HeldLeaf.{HeldLeaf}
use Rattle.std.proofs.Common.{◌≡◌, ℕ, zero, suc, ◌<◌, ◌≤◌, Bool, true, false, cond, nat_eq, List, [], ◌∷◌, ◌++◌}
use Rattle.std.proofs.Common.{length, Some, None, refl, sym, ◌∙◌, ap, ap₂, subst, arith, append_assoc}
use Rattle.proof_rows.specs.Rows.{is_inside, after_held, Held, after_ending, closes_before, ends_blank, held_at}
use Rattle.proof_rows.specs.Rows.{leaf_events, opened_prefixes, no_front, row_events, inside_of, row_kind, row_of}
use Rattle.proof_rows.specs.Rows.{rows_at, rows_events, continued_prefixes}
use Rattle.std.proofs.Math.Seq.{drop-length, take-length}
use Rattle.md_engine.specs.declared.configuration.ParseOptions.{ParseOptions}
use Rattle.md_engine.specs.declared.event.Event.{Event}
use Rattle.md_engine.specs.declared.event.Name.{Name}
use Rattle.md_engine.specs.declared.event.Point.{Point}
use Rattle.md_engine.specs.declared.tokenizer.container.Container.{Container as Known}
use Rattle.md_engine.specs.Ends.{ends_at, point_of}
use Rattle.md_engine.specs.Meaning.{Accepts, Cell, Here, Outcome, Refuses}
use Rattle.md_events.specs.Ahead.{from_ending, line_end}
use Rattle.md_events.specs.Events.Nested.{enter, exit, pair}
use Rattle.md_events.specs.Spaces.{IsRest, any_size}
use Rattle.md_meaning.specs.State.{Container}
use Rattle.proof_frame.specs.Change.{ends_of, interrupts, open_following, others_of}
use Rattle.proof_frame.specs.Rule.{Rule}
use Rattle.md_registry.specs.FlowRule.{ended, ended_to, flow_at, flow_lines, line_then}
use Rattle.proof_frame.specs.EndingName.{ending_name}
use Rattle.md_registry.specs.LineFlags.{next_line}
use Rattle.md_registry.specs.Registry.{leaf}
use Rattle.proof_frame.specs.Row.{BlankRow, LeafRow, Row, RowKind, TextRow, ending_of, is_blank_by}
use Rattle.proof_rows.specs.Valid.{AreOpen}
use Rattle.proof_rows.proofs.FlowLeaf.{added_by, blank_by}
use Rattle.proof_rows.proofs.FlowHeld.{ends-are, ends-following, ends-none}
use Rattle.proof_rows.proofs.FlowContinues.{proceeded-shorter}
use Rattle.proof_rows.proofs.FlowOpens.{new-shorter}
use Rattle.proof_rows.proofs.FlowLine.{Begins, Done, line-done}
use Rattle.md_containers.proofs.QuoteCells.{ending-shorter}

-- Rows.

-- a row after which these containers end
abbrev pub leaving : List Container → Row → Row
leaving ls row = record row { closed_after = ls }

-- the events of the leaf of a row are those that flow adds
leaf-added : (options : ParseOptions) (x : Held) (ls : List Container) (below : List Row) (k : RowKind) →
    leaf_events k
    (record (row_of options x below) { closed_after = ls; inside = inside_of options x.on x.cells x.point k }) ≡
    added_by options x.on x.cells x.point k
leaf-added options x ls below BlankRow = refl
leaf-added options x ls below (LeafRow l) = refl
leaf-added options x ls below TextRow = refl

ending-named : (options : ParseOptions) (x : Held) (ls : List Container) (below : List Row) (k : RowKind) →
    blank_by k x.cells x.point ≡
    is_blank_by k (record (row_of options x below) { closed_after = ls; empty = ends_blank k x.cells x.point })
ending-named options x ls below BlankRow = refl
ending-named options x ls below (LeafRow l) = refl
ending-named options x ls below TextRow = refl

regroup-row : (front ends tail w added more ending rows : List Event) →
    (front ++ (ends ++ (tail ++ (w ++ added)))) ++ (more ++ (ending ++ rows)) ≡
    front ++ (ends ++ (tail ++ (((w ++ added) ++ (more ++ ending)) ++ rows)))
regroup-row front ends tail w added more ending rows = simp append_assoc

-- What is after a line.

-- the rows of these cells, from the ending of a line on
abbrev pub rows_below : ParseOptions → ℕ → List Container → HeldLeaf → List Cell → List Row
rows_below options m cs still left = elim left [ [] ↦ [] | x ∷ xs ↦ rows_at options m cs still xs x.after ]

-- its ending
abbrev pub ending_here : Name → Point → List Cell → List Event
ending_here name p [] = []
ending_here name p (c ∷ cs) = pair name p c.after

-- what flow adds from the begin of a line on, with so many lines at most
abbrev Adds : ParseOptions → ℕ → Rule → Type 0
Adds options m next =
    (front tail : List Event) (p : Point) (cs : List Container) (still : HeldLeaf) (cells : List Cell) (h new : Here)
    (rest : List Cell) →
    length cells < m → Begins front tail p cs still h → next cells h ≡ Accepts new rest →
    new.events ≡
    front
    ++ (ends_of (closes_before cs (rows_at options m cs still cells h.point)) p
    ++ (tail ++ rows_events (rows_at options m cs still cells h.point)))

-- after the ending of a line, at the begin of the next
abbrev pub next_here : Cell → Here → Here
next_here c h = record h {
  events = h.events ++ pair (ending_name h.flags.blank) h.point c.after;
  point = c.after;
  flags = next_line (length h.events) h.flags;
}

pub next-begins : (cs : List Container) (still : HeldLeaf) (c : Cell) (h : Here) → IsRest h.scratch →
    h.flags.leaf ≡ still → AreOpen h.flags.containers cs →
    Begins h.events (pair (ending_name h.flags.blank) h.point c.after) h.point cs still (next_here c h)
next-begins cs still c h is held are = record {
  rest = is;
  events = refl;
  containers = are;
  continued = refl;
  leaf = held;
  blank = refl;
  line_end = refl;
  ends =
      ends-following (length h.flags.containers) (enter (ending_name h.flags.blank) h.point)
      (exit (ending_name h.flags.blank) c.after ∷ []);
}

ended-adds : (options : ParseOptions) (m : ℕ) (next : Rule) → Adds options m next →
    (cs : List Container) (still : HeldLeaf) (left : List Cell) (h new : Here) (rest : List Cell) → length left ≤ m →
    IsRest h.scratch → h.flags.leaf ≡ still → AreOpen h.flags.containers cs → ended next left h ≡ Accepts new rest →
    new.events ≡
    h.events
    ++ (ends_of (closes_before cs (rows_below options m cs still left)) h.point
    ++ (ending_here (ending_name h.flags.blank) h.point left ++ rows_events (rows_below options m cs still left)))
ended-adds options m next adds cs still [] h new rest fits is held are e =
    ap (λ (x : Here). x.events) same
    ∙ ap₂ (λ (a b : List Event). (a ++ ends_at h.flags.containers (point_of b h.point)) ++ b) (take-length h.events)
    (drop-length h.events)
    ∙ append_assoc h.events (ends_at h.flags.containers h.point) []
    ∙ ap (λ (es : List Event). h.events ++ (es ++ [])) (ends-are h.flags.containers cs h.point are)
  where
    same : new ≡ ended_to 0 (length h.events) h
    same = cc
ended-adds options m next adds cs still (x ∷ xs) h new rest fits is held are e = go (nat_eq x.byte 10) e
  where
    name : Name
    name = ending_name h.flags.blank

    go : (b : Bool) → cond b (next xs (next_here x h)) (Refuses h.scratch h.flags) ≡ Accepts new rest →
        new.events ≡
        h.events
        ++ (ends_of (closes_before cs (rows_at options m cs still xs x.after)) h.point
        ++ (pair (ending_name h.flags.blank) h.point x.after ++ rows_events (rows_at options m cs still xs x.after)))
    go true k =
        adds h.events (pair name h.point x.after) h.point cs still xs (next_here x h) new rest (omega arith)
        (next-begins cs still x h is held are) k
    go false k = cc

pub held-shorter : (options : ParseOptions) (cs : List Container) (still : HeldLeaf) (cells : List Cell) (p : Point) →
    length (held_at options cs still cells p).cells ≤ length cells
unfolding held_at
held-shorter options cs still cells p =
    let w = continued_prefixes options cs cells p in
    let most = proceeded-shorter options cs cells p in
    go (is_inside still (others_of cs w.containers)) most
    (new-shorter options (interrupts still (others_of cs w.containers)) (length w.cells) w.cells w.point)
  where
    go : (x : Bool) → length (continued_prefixes options cs cells p).cells ≤ length cells →
        let w = continued_prefixes options cs cells p in
        let f =
        opened_prefixes options (interrupts still (others_of cs w.containers)) (length w.cells) w.cells w.point in
        length f.cells ≤ length w.cells → length (cond x (no_front w.cells w.point) f).cells ≤ length cells
    go true le more = le
    go false le more = omega (arith, le, more)

ending-same : (name : Name) (p : Point) (left : List Cell) →
    ending_here name p left ≡ elim (after_ending left) [ None ↦ [] | Some q ↦ pair name p q ]
ending-same name p [] = refl
ending-same name p (c ∷ cs) = refl

-- what a line adds, the ends of containers and its ending are the events of its row
pub row-adds : (next : Rule) (options : ParseOptions) (front tail : List Event) (p : Point) (x : Held) (o : Outcome)
    (d : Done next options front tail p x o) (ls : List Container) (left : List Cell) (below : List Row)
    (more : List Event) →
    from_ending x.cells ≡ left →
    d.new.events ++ (ends_of ls d.new.point ++ (ending_here (ending_name d.new.flags.blank) d.new.point left ++ more)) ≡
    front ++ (ends_of x.change.closes p ++ (tail ++ (row_events (leaving ls (row_of options x below)) ++ more)))
row-adds next options front tail p x o d ls left below more e =
    ap (λ (cells : List Cell). d.new.events ++ following cells d.new.point (ending_name d.new.flags.blank)) (sym e)
    ∙ ap (λ (q : Point). d.new.events ++ following (from_ending x.cells) q (ending_name d.new.flags.blank)) d.point
    ∙ ap₂
    (λ (es : List Event) (name : Name). es ++ following (from_ending x.cells) (line_end x.cells x.point) name) d.events
    (ap ending_name (d.blank ∙ ending-named options x ls below k))
    ∙ regroup-row front (ends_of x.change.closes p) tail x.front (added_by options x.on x.cells x.point k)
    (ends_of ls (line_end x.cells x.point))
    (ending_here (ending_of k row) (line_end x.cells x.point) (from_ending x.cells)) more
    ∙ ap₂
    (λ (a c : List Event).
    front
    ++ (ends_of x.change.closes p
    ++ (tail ++ (((x.front ++ a) ++ (ends_of ls (line_end x.cells x.point) ++ c)) ++ more))))
    (sym (leaf-added options x ls below k))
    (ending-same (ending_of k row) (line_end x.cells x.point) (from_ending x.cells))
  where
    k : RowKind
    k = row_kind options x.on x.cells

    row : Row
    row = leaving ls (row_of options x below)

    following : List Cell → Point → Name → List Event
    following cells q name = ends_of ls q ++ (ending_here name q cells ++ more)

-- flow adds the events of the rows, and before the ending of the line before them the ends of the containers that the
-- first row closes
flow-adds : (options : ParseOptions) (m : ℕ) → m ≤ suc any_size → Adds options m (flow_lines options m)
unfolding flow_lines
flow-adds options zero most front tail p cs still cells h new rest fits b e = absurd (omega arith)
flow-adds options (suc m) most front tail p cs still cells h new rest fits b e =
    ended-adds options m (flow_lines options m) (flow-adds options m (omega (arith, most))) (open_following x.change)
    (after_held options x) left d.new new rest
    (omega (arith, ending-shorter x.cells, held-shorter options cs still cells h.point)) d.rest d.leaf d.containers
    (sym d.is ∙ e)
    ∙ row-adds (flow_lines options m) options front tail p x (line_then options (flow_lines options m) cells h) d
    (closes_before (open_following x.change) below) left below (rows_events below) refl
  where
    d : Done (flow_lines options m) options front tail p (held_at options cs still cells h.point)
        (line_then options (flow_lines options m) cells h)
    d = line-done options (flow_lines options m) front tail p cs still cells h (omega (arith, most, fits)) b

    x : Held
    x = held_at options cs still cells h.point

    left : List Cell
    left = from_ending (held_at options cs still cells h.point).cells

    below : List Row
    below = rows_below options m (open_following x.change) (after_held options x) left

-- before the first line no container ends
pub no-closes : (options : ParseOptions) (cells : List Cell) (p : Point) →
    (held_at options [] held_leaf.None cells p).change.closes ≡ []
unfolding held_at
no-closes options cells p = refl

-- at the begin of a text
pub text-begins : (h : Here) → IsRest h.scratch → h.events ≡ [] → h.flags.containers ≡ [] → h.flags.continued ≡ 0 →
    h.flags.leaf ≡ held_leaf.None → h.flags.blank ≡ false → h.flags.line_end ≡ 0 →
    Begins [] [] h.point [] held_leaf.None h
text-begins h is none shut continued leaf blank line_end = record {
  rest = is;
  events = none;
  containers = let P : List Known → Type 0 = λ l. AreOpen l [] in subst P (sym shut) tt;
  continued = continued;
  leaf = leaf;
  blank = blank;
  line_end = line_end;
  ends = ends-none (length h.flags.containers) h.point (ap length shut);
}

-- so the rule of all lines adds the events of all rows
pub flow_at-rows : (options : ParseOptions) (cells : List Cell) (h new : Here) (rest : List Cell) →
    length cells ≤ any_size → IsRest h.scratch →
    h.events ≡ [] → h.flags.containers ≡ [] → h.flags.continued ≡ 0 → h.flags.leaf ≡ held_leaf.None →
    h.flags.blank ≡ false → h.flags.line_end ≡ 0 →
    flow_at options cells h ≡ Accepts new rest →
    new.events ≡ rows_events (rows_at options (suc (length cells)) [] held_leaf.None cells h.point)
unfolding flow_at
flow_at-rows options cells h new rest few is none shut continued leaf blank line_end e =
    flow-adds options (suc (length cells)) (omega (arith, few)) [] [] h.point [] held_leaf.None cells h new rest
    (omega arith)
    (text-begins h is none shut continued leaf blank line_end) e
    ∙ ap
    (λ (cs : List Container).
    ends_of cs h.point ++ rows_events (rows_at options (suc (length cells)) [] held_leaf.None cells h.point))
    (no-closes options cells h.point)
