-- The first state of a leaf: what is left there of the rest of a line.
use Rattle.std.proofs.Common.{◌≡◌, ℕ, ◌^◌, ◌<◌, ◌≤◌, Bool, true, false, cond, ◌&&◌, ◌||◌, List, ◌++◌, length, refl}
use Rattle.std.proofs.Common.{sym, ap, ◌∙◌, subst, arith}
use Rattle.std.specs.Prelude.{Some, None}
use Rattle.md_engine.specs.declared.configuration.ParseOptions.{ParseOptions}
use Rattle.md_engine.specs.declared.event.Event.{Event}
use Rattle.md_engine.specs.declared.event.Point.{Point}
use Rattle.md_engine.specs.declared.state.Name.{Name as StateName}
use Rattle.md_engine.specs.declared.state.Name.TheVariants as n
use Rattle.md_engine.specs.declared.state.State.{State}
use Rattle.md_engine.specs.declared.state.State.TheVariants.{Next}
use Rattle.md_engine.specs.declared.tokenizer.held_leaf.HeldLeaf.{HeldLeaf}
use Rattle.md_engine.specs.Meaning.{Accepts, Behaviour, Cell, Feed, Here, Outcome, Steps, here}
use Rattle.md_engine.specs.Scheme.{valid}
use Rattle.md_engine.specs.Sees.{Sees}
use Rattle.md_engine.specs.World.{World, looks}
use Rattle.md_events.proofs.RestCells.{rest_cells}
use Rattle.md_events.specs.Ahead.{from_ending, line_bytes, line_end as cells_end}
use Rattle.md_events.specs.Spaces.{IsRest, any_size}
use Rattle.md_events.specs.Exact.Places.{TextLine, line_end, place}
use Rattle.md_events.specs.Exact.Rows.{Role}
use Rattle.md_meaning.specs.Rest.{Rest, is_blank}
use Rattle.md_meaning.specs.State.{Leaf}
use Rattle.md_registry.proofs.Registry.{construct-steps, leaf-states}
use Rattle.md_registry.proofs.Registry.{laws}
use Rattle.md_registry.specs.OpenSpan.{IsBuiltLeaf}
use Rattle.md_registry.specs.Registry.{construct_transition, leaf}
use Rattle.md_registry.specs.States.{flow_behaves_by, flow_table_scheme}
use Rattle.md_engine.proofs.StepOf.{steps-as}
use Rattle.proof_rows.proofs.KindRoles.{leaf_role}
use Rattle.proof_exact_lines.proofs.BeginsAt.{BeginsAt}
use Rattle.proof_exact_lines.proofs.LeafLines.{ends-at}
use Rattle.proof_exact_lines.proofs.OnLine.{on-begins}
use Rattle.proof_frame.proofs.LeafLaws.{left_open, whole_line}
use Rattle.proof_frame.proofs.LineEnds.{line-ends}
use Rattle.proof_frame.proofs.RestRows.{rest-blank, rest-ending}
use Rattle.proof_frame.specs.LeafName.{CodeIndented, LeafName}
use Rattle.proof_frame.specs.RestLine.{rest_line}
use Rattle.proof_frame.specs.Rule.{Rule}
use Rattle.md_flow.proofs.LineRule.Events.{leaf-added}
use Rattle.md_flow.proofs.LineRule.Role.{asked-is, met, role-is}
use Rattle.md_flow.specs.LineRule.{AreOf, IsAsked, IsLeafCall, IsLineTaken, IsNext, IsTaken}
use Rattle.md_flow.specs.LineRule.{Leaves, first_state, is_shared, role_at}

-- The rest of a line that is next, by its cells.

-- it begins there by the bytes of its line
pub next-begins : (text : List ℕ) (line : TextLine) (r : Rest) (p : Point) (cells stop : List Cell) →
    IsNext text line r p cells stop → BeginsAt line r p
next-begins text line r p cells stop is = on-begins text is.following line r p is.within is.on

pub next-end : (text : List ℕ) (line : TextLine) (r : Rest) (p : Point) (cells stop : List Cell) →
    IsNext text line r p cells stop → cells_end cells p ≡ place line (line_end line)
next-end text line r p cells stop is =
    ap (λ (l : List Cell). cells_end l p) is.are
    ∙ line-ends is.said text is.following r p stop is.on.valid is.plain is.stops
    ∙ sym (ends-at line r p (next-begins text line r p cells stop is))

pub next-stop : (text : List ℕ) (line : TextLine) (r : Rest) (p : Point) (cells stop : List Cell) →
    IsNext text line r p cells stop → from_ending cells ≡ stop
next-stop text line r p cells stop is =
    ap from_ending is.are
    ∙ rest-ending is.said r p stop is.plain is.stops (let at = is.on.valid.column in omega arith) is.on.valid.cut

pub next-short : (text : List ℕ) (line : TextLine) (r : Rest) (p : Point) (cells stop : List Cell) →
    IsNext text line r p cells stop → length cells ≤ any_size
next-short text line r p cells stop is = let short = is.short in omega arith

-- it is blank by its cells if its bytes are
pub next-blank : (text : List ℕ) (line : TextLine) (r : Rest) (p : Point) (cells stop : List Cell) →
    IsNext text line r p cells stop → is_blank (line_bytes cells) ≡ is_blank r.bytes
next-blank text line r p cells stop is =
    ap (λ (l : List Cell). is_blank (line_bytes l)) is.are
    ∙ rest-blank is.said r p stop is.plain is.stops (let at = is.on.valid.column in omega arith) is.on.valid.cut

-- the cells of the rest, and what is after them, are few
pub rest-short : (text : List ℕ) (line : TextLine) (r : Rest) (p : Point) (cells stop : List Cell) →
    (is : IsNext text line r p cells stop) → length (rest_cells is.said r p ++ stop) < 2 ^ 63
rest-short text line r p cells stop is = subst (λ (l : List Cell). length l < 2 ^ 63) is.are is.short

-- A line that is taken.
taken-by : (Are : List Event → Type 0) (added events : List Event) (held : HeldLeaf) (blank : Bool)
    (cells stop : List Cell) (end : Point) (h : Here) (o : Outcome) →
    o ≡ whole_line added held blank cells h → from_ending cells ≡ stop → cells_end cells h.point ≡ end →
    added ≡ events → Are events → IsLineTaken Are end stop h o
taken-by Are added events held blank cells stop end h o e at ends same are = record {
  events = events;
  are = are;
  to = to;
  accepts = e ∙ ap (Accepts to) at;
  added = ap (λ (es : List Event). h.events ++ es) same;
  point = ends;
}
  where
    to : Here
    to = record h {
      events = h.events ++ added;
      point = cells_end cells h.point;
      flags = record h.flags { leaf = held; blank = blank || h.flags.blank };
    }

-- What is left at the first state of a leaf.
leaf-left : (options : ParseOptions) (l : LeafName) (text : List ℕ) (line : TextLine) (r : Rest)
    (cells stop : List Cell) (h : Here) (all : Bool) (open_leaf : Leaf) →
    IsRest h.scratch → IsNext text line r h.point cells stop → IsBuiltLeaf open_leaf →
    h.flags.leaf ≡ met all open_leaf → IsAsked l all open_leaf →
    IsTaken options line r stop h ((leaf l).trial options cells h) (role_at options l all open_leaf r)
leaf-left options l text line r cells stop h all open_leaf rest is built on asked =
    subst (IsTaken options line r stop h ((leaf l).trial options cells h))
    (sym (role-is options l all open_leaf r built asked)) (go ((leaf l).starts options (met all open_leaf) r) refl)
  where
    p : Point
    p = h.point

    role : Role
    role = leaf_role options open_leaf (met all open_leaf) r l

    -- it is taken where the leaf starts
    takes : (x : Bool) → (leaf l).starts options (met all open_leaf) r ≡ x →
        (leaf l).takes options h.flags.leaf cells ≡ x
    takes x e =
        ap (λ (cs : List Cell). (leaf l).takes options h.flags.leaf cs) is.are
        ∙ (laws l).fits options h.flags.leaf is.said text is.following r p stop is.on.valid is.plain is.stops
        (rest-short text line r p cells stop is)
        ∙ ap (λ (held : HeldLeaf). (leaf l).starts options held r) on ∙ e

    adds : (leaf l).starts options (met all open_leaf) r ≡ true →
        (leaf l).adds options h.flags.leaf cells p ≡ (leaf l).added options (met all open_leaf) (rest_line r) p
    adds e =
        ap (λ (cs : List Cell). (leaf l).adds options h.flags.leaf cs p) is.are
        ∙ (laws l).adds_is options h.flags.leaf is.said text is.following r p stop is.on.valid is.plain is.stops
        (rest-short text line r p cells stop is) (ap (λ (held : HeldLeaf). (leaf l).starts options held r) on ∙ e)
        ∙ ap (λ (held : HeldLeaf). (leaf l).added options held (rest_line r) p) on

    go : (x : Bool) → (leaf l).starts options (met all open_leaf) r ≡ x →
        IsTaken options line r stop h ((leaf l).trial options cells h) (cond x (Some role) None)
    go true e =
        taken-by (AreOf options role line r) ((leaf l).adds options h.flags.leaf cells p)
        ((leaf l).added options (met all open_leaf) (rest_line r) p)
        (left_open (leaf l).ends ((leaf l).keeps options h.flags.leaf cells p) h.flags.leaf)
        ((leaf l).stays_blank && is_blank (line_bytes cells)) cells stop (place line (line_end line)) h _
        ((laws l).took options cells h rest (next-short text line r p cells stop is) (takes true e))
        (next-stop text line r p cells stop is) (next-end text line r p cells stop is) (adds e)
        (leaf-added options l all open_leaf line r p built (next-begins text line r p cells stop is) e)
    go false e =
        (laws l).refused options cells h
        (ap (leaf l).asked on ∙ asked-is options l all open_leaf built asked) rest (takes false e)

-- The first states are those of the values,
state-is : (l : LeafName) → first_state l ≡ (leaf l).start
state-is CodeIndented = refl
state-is _ = refl

-- each takes one step of what is left,
leaf-steps : (l : LeafName) (feed : Feed) (next : Rule) (w : World) → Sees feed w → w.current ≡ looks w →
    valid flow_table_scheme w (Next (first_state l)) →
    Steps (flow_behaves_by w.setting.bytes w.setting.options next) feed (Next (first_state l)) w
    (construct_transition (first_state l) w).to (construct_transition (first_state l) w).world
leaf-steps CodeIndented feed next w s c at = construct-steps feed next (first_state CodeIndented) w s c at
leaf-steps l feed next w s c at = construct-steps feed next (first_state l) w s c at

-- as does each state of a construct alone,
pub keeps-call : (name : StateName) (w new : World) (to : State) (next : Rule) → w.current ≡ looks w →
    valid flow_table_scheme w (Next name) → to ≡ (construct_transition name w).to →
    new ≡ (construct_transition name w).world → is_shared name ≡ false → (feed : Feed) → Sees feed w →
    Steps (flow_behaves_by w.setting.bytes w.setting.options next) feed (Next name) w to new
keeps-call name w new to next c at e k own feed s =
    steps-as (flow_behaves_by w.setting.bytes w.setting.options next) feed (Next name) _ to w _ new e k
    (go name at own)
  where
    go : (m : StateName) → valid flow_table_scheme w (Next m) → is_shared m ≡ false →
        Steps (flow_behaves_by w.setting.bytes w.setting.options next) feed (Next m) w
        (construct_transition m w).to (construct_transition m w).world
    go (n.BlankLine state) at own = cc
    go (n.Content state) at own = cc
    go (n.Document state) at own = cc
    go (n.Flow state) at own = cc
    go (n.SpaceOrTab state) at own = cc
    go m at own = construct-steps feed next m w s c at

-- and what is left after a step is what was left before.
pub steps-leave : (B : Behaviour) (feed : Feed) (name : StateName) (w new : World) (to : State)
    (Is : Outcome → Type 0) → Steps B feed (Next name) w to new → Is (B name (feed w.point) (here w)) →
    Leaves B feed w to new Is
steps-leave B feed name w new to Is steps is =
    record { begun = steps.begun; frames = steps.frames; is = subst Is steps.same is }

pub leaf-call : (name : StateName) (w new : World) (to : State) (next : Rule) → w.current ≡ looks w →
    valid flow_table_scheme w (Next name) → to ≡ (construct_transition name w).to →
    new ≡ (construct_transition name w).world →
    IsLeafCall (flow_behaves_by w.setting.bytes w.setting.options next) name w to new
leaf-call name w new to next c at e k l feed line r stop all open_leaf is s rest at_rest built on asked =
    steps-leave B feed name w new to Is
    (subst (λ (m : StateName). Steps B feed (Next m) w to new) (sym is)
    (steps-as B feed (Next (first_state l)) _ to w _ new
    (e ∙ ap (λ (m : StateName). (construct_transition m w).to) is)
    (k ∙ ap (λ (m : StateName). (construct_transition m w).world) is)
    (leaf-steps l feed next w s c (subst (λ (m : StateName). valid flow_table_scheme w (Next m)) is at))))
    (subst Is
    (sym
    (ap (λ (m : StateName). B m (feed w.point) (here w)) (is ∙ state-is l)
    ∙ (leaf-states l).starts w.setting.bytes w.setting.options next (feed w.point) (here w)))
    (leaf-left w.setting.options l w.setting.bytes line r (feed w.point) stop (here w) all open_leaf rest at_rest built
    on asked))
  where
    B : Behaviour
    B = flow_behaves_by w.setting.bytes w.setting.options next

    Is : Outcome → Type 0
    Is o = IsTaken w.setting.options line r stop (here w) o (role_at w.setting.options l all open_leaf r)
