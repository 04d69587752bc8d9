-- The leaf of a line: what is left where the leaves are tried, and after the containers of the line.
use Rattle.std.proofs.Common.{◌≡◌, ℕ, Bool, true, false, cond, List, [], ◌∷◌, ◌++◌, inl}
use Rattle.std.proofs.Common.{refl, sym, ap, ap₂, ◌∙◌, subst}
use Rattle.std.specs.Prelude.{Some}
use Rattle.md_engine.specs.declared.configuration.ParseOptions.{ParseOptions}
use Rattle.md_engine.specs.declared.event.Event.{Event}
use Rattle.md_engine.specs.declared.event.Name.TheVariants as n
use Rattle.md_engine.specs.declared.event.Point.{Point}
use Rattle.md_engine.specs.declared.state.Name.TheVariants as s
use Rattle.md_engine.specs.declared.state.State.{State}
use Rattle.md_engine.specs.declared.state.State.TheVariants.{Next}
use Rattle.md_engine.specs.declared.state.document.State.TheVariants as document
use Rattle.md_engine.specs.declared.state.flow.State.TheVariants as flow
use Rattle.md_engine.specs.declared.tokenizer.held_leaf.HeldLeaf.{HeldLeaf}
use Rattle.md_engine.specs.Meaning.{Behaviour, Cell, Here, Outcome, here}
use Rattle.md_engine.specs.World.{World}
use Rattle.md_engine.proofs.StepOf.{steps-as}
use Rattle.md_content.specs.Chunks.{content_link}
use Rattle.md_events.proofs.RestCells.{rest_cells}
use Rattle.md_events.specs.Ahead.{from_ending, line_end as cells_end}
use Rattle.md_events.specs.Events.Nested.{enter_link, exit}
use Rattle.md_events.specs.Exact.Places.{TextLine, line_end, place}
use Rattle.md_events.specs.Exact.Rows.{FirstText, FurtherText, Role, Row}
use Rattle.md_meaning.specs.Rest.{Rest}
use Rattle.md_meaning.specs.State.{Leaf}
use Rattle.md_registry.proofs.Registry.{container-states, leaf-states, white_has}
use Rattle.md_registry.proofs.FlowSteps.{containers_means, leaves_means}
use Rattle.md_registry.specs.Document.{document_own_transition}
use Rattle.md_registry.specs.Flow.{flow_own_transition}
use Rattle.md_registry.specs.FlowRule.{HasFlow, line_ended}
use Rattle.md_registry.specs.LineFlags.{begun_line}
use Rattle.md_registry.specs.OpenSpan.{IsBuiltLeaf}
use Rattle.md_registry.specs.Registry.{asked_first, leaf}
use Rattle.md_registry.specs.States.{flow_behaves_by}
use Rattle.proof_rows.proofs.KindRoles.{kind_role, line-role}
use Rattle.proof_exact_lines.proofs.BeginsAt.{begins-place}
use Rattle.proof_exact_lines.proofs.LeafLines.{blank-one}
use Rattle.proof_frame.specs.HeldLeaf.{met_by, takes_lazy}
use Rattle.proof_frame.specs.LeafName.{LeafName}
use Rattle.proof_frame.specs.Row.{BlankRow, LeafRow, RowKind, TextRow}
use Rattle.proof_frame.specs.Rule.{Rule}
use Rattle.proof_rows.proofs.FlowLeaf.{added_by, inside-is, leaf_here}
use Rattle.proof_rows.proofs.KindLemmas.{kind-starts}
use Rattle.proof_rows.proofs.RowKinds.{blank-inside, kind-rest, leaf-inside}
use Rattle.proof_rows.specs.Rows.{line_kind, row_kind}
use Rattle.md_flow.proofs.LineRule.Events.{leaf-added}
use Rattle.md_flow.proofs.LineRule.Leaf.{next-begins, next-blank, next-end, next-short, next-stop, rest-short}
use Rattle.md_flow.proofs.LineRule.Leaf.{steps-leave}
use Rattle.md_flow.proofs.LineRule.Refused.{not-taken, tried-is}
use Rattle.md_flow.proofs.LineRule.Role.{met}
use Rattle.md_flow.specs.LineRule.{AreOf, IsLineCall, IsLineEnded, IsMet, IsMetFirst, IsNext, IsOpen, role_met}

-- The behaviour of the table has the rule of flow.
pub flow_has : (bytes : List ℕ) (options : ParseOptions) (next : Rule) →
    HasFlow (flow_behaves_by bytes options next) options next
flow_has bytes options next = record {
  blank = record { white = white_has bytes options next; each = λ _ _ _. refl };
  chunk = λ _ _. refl;
  starts = λ l. (leaf-states l).starts bytes options next;
  opens = λ k. (container-states k).begins_is bytes options next;
  is_continued = λ k. (container-states k).continued_is bytes options next;
  containers = λ _ _ _. refl;
  leaves = λ _ _ _. refl;
}

abbrev row : TextLine → Rest → Row
row line r = record { line = line; stays = 0; held = []; front = []; rest = r; role = FirstText; ends = [] }

-- What flow adds for a line of a kind.
kind-added : (options : ParseOptions) (text : List ℕ) (line : TextLine) (r : Rest) (p : Point)
    (cells stop : List Cell) (all : Bool) (open_leaf : Leaf) → IsBuiltLeaf open_leaf →
    (is : IsNext text line r p cells stop) → (kind : RowKind) →
    line_kind options (met all open_leaf) r ≡ kind →
    AreOf options (kind_role options open_leaf (met all open_leaf) r kind) line r
    (added_by options (met all open_leaf) (rest_cells is.said r p ++ stop) p kind)
kind-added options text line r p cells stop all open_leaf built is BlankRow e =
    blank-inside options (met all open_leaf) is.said text is.following r p stop BlankRow is.on.valid is.plain is.stops
    (sym e) refl
    ∙ sym (blank-one (row line r) p (next-begins text line r p cells stop is))
kind-added options text line r p cells stop all open_leaf built is (LeafRow l) e =
    subst (AreOf options (kind_role options open_leaf (met all open_leaf) r (LeafRow l)) line r)
    (sym
    (leaf-inside options (met all open_leaf) is.said text is.following r p stop (LeafRow l) is.on.valid is.plain
    is.stops (rest-short text line r p cells stop is) (sym e) l refl))
    (leaf-added options l all open_leaf line r p built (next-begins text line r p cells stop is)
    (kind-starts options (met all open_leaf) r l e))
kind-added options text line r p cells stop all open_leaf built is TextRow e = go (takes_lazy (met all open_leaf))
  where
    es : List Event
    es = enter_link n.Content p content_link ∷ exit n.Content (cells_end (rest_cells is.said r p ++ stop) p) ∷ []

    same : es ≡ enter_link n.Content (place line r) content_link ∷ exit n.Content (place line (line_end line)) ∷ []
    same =
        ap₂ (λ (a b : Point). enter_link n.Content a content_link ∷ exit n.Content b ∷ [])
        (sym (begins-place line r p (next-begins text line r p cells stop is)))
        (ap (λ (l : List Cell). cells_end l p) (sym is.are) ∙ next-end text line r p cells stop is)

    go : (x : Bool) → AreOf options (cond x FurtherText FirstText) line r es
    go true = same
    go false = same

line-added : (options : ParseOptions) (text : List ℕ) (line : TextLine) (r : Rest) (p : Point)
    (cells stop : List Cell) (all : Bool) (open_leaf : Leaf) → IsBuiltLeaf open_leaf →
    IsNext text line r p cells stop →
    AreOf options (role_met options all open_leaf r) line r
    (added_by options (met all open_leaf) cells p (row_kind options (met all open_leaf) cells))
line-added options text line r p cells stop all open_leaf built is =
    subst (λ (cs : List Cell). AreOf options role line r (added_by options on cs p (row_kind options on cs)))
    (sym is.are)
    (subst (λ (kind : RowKind). AreOf options role line r (added_by options on own p kind))
    (sym
    (kind-rest options on is.said text is.following r p stop is.on.valid is.plain is.stops
    (rest-short text line r p cells stop is)))
    (subst (λ (x : Role). AreOf options x line r (added_by options on own p (line_kind options on r))) (sym (same all))
    (kind-added options text line r p cells stop all open_leaf built is (line_kind options on r) refl)))
  where
    on : HeldLeaf
    on = met all open_leaf

    own : List Cell
    own = rest_cells is.said r p ++ stop

    role : Role
    role = role_met options all open_leaf r

    same : (x : Bool) →
        role_met options x open_leaf r ≡
        kind_role options open_leaf (met x open_leaf) r (line_kind options (met x open_leaf) r)
    same true = line-role options r open_leaf true true built
    same false = line-role options r open_leaf false true built

-- What is left of the rest of a line, where what follows is its ending by its kind.
line-left : (options : ParseOptions) (text : List ℕ) (next : Rule) (line : TextLine) (r : Rest) (cells stop : List Cell)
    (h : Here) (all : Bool) (open_leaf : Leaf) (o : Outcome) →
    o ≡ line_ended next (from_ending cells) (leaf_here options cells h (row_kind options h.flags.leaf cells)) →
    IsNext text line r h.point cells stop → IsBuiltLeaf open_leaf → h.flags.leaf ≡ met all open_leaf →
    IsLineEnded (flow_behaves_by text options next) (AreOf options (role_met options all open_leaf r) line r)
    (place line (line_end line)) stop h o
line-left options text next line r cells stop h all open_leaf o same is built on = record {
  events = added_by options h.flags.leaf cells h.point (row_kind options h.flags.leaf cells);
  are =
      subst
      (λ (held : HeldLeaf).
      AreOf options (role_met options all open_leaf r) line r
      (added_by options held cells h.point (row_kind options held cells))) (sym on)
      (line-added options text line r h.point cells stop all open_leaf built is);
  to = to;
  ends = same ∙ ap (λ (l : List Cell). line_ended next l to) (next-stop text line r h.point cells stop is);
  added = refl;
  point = next-end text line r h.point cells stop is;
}
  where
    to : Here
    to = leaf_here options cells h (row_kind options h.flags.leaf cells)

pub tried-call : (w new : World) (to : State) (next : Rule) → to ≡ (flow_own_transition flow.Start w).to →
    new ≡ (flow_own_transition flow.Start w).world →
    IsLineCall (flow_behaves_by w.setting.bytes w.setting.options next) w to new (IsMet w)
tried-call w new to next e k feed line r stop all open_leaf sees rest is built on =
    steps-leave B feed (s.Flow flow.Start) w new to
    (IsLineEnded B (AreOf options (role_met options all open_leaf r) line r) (place line (line_end line)) stop (here w))
    (steps-as B feed (Next (s.Flow flow.Start)) _ to w _ new e k
    (leaves_means B feed next flow.Start w (flow_has w.setting.bytes options next) sees rest))
    (line-left options w.setting.bytes next line r cells stop (here w) all open_leaf _
    (tried-is options next cells (here w) (next-short w.setting.bytes line r w.point cells stop is) rest
    (λ some. on.blank (sym (next-blank w.setting.bytes line r w.point cells stop is) ∙ some)) refused) is built on.holds)
  where
    options : ParseOptions
    options = w.setting.options

    B : Behaviour
    B = flow_behaves_by w.setting.bytes options next

    cells : List Cell
    cells = feed w.point

    refused : (l : LeafName) → asked_first w.flags.leaf ≡ Some l →
        (leaf l).takes options w.flags.leaf cells ≡ false
    refused l asked =
        ap (λ (held : HeldLeaf). (leaf l).takes options held cells) on.holds
        ∙ not-taken options w.setting.bytes line r w.point cells stop open_leaf built is all on.refused l
        (ap asked_first (sym on.holds) ∙ asked)

pub asked-call : (w new : World) (to : State) (next : Rule) →
    to ≡ (document_own_transition document.FlowInside w).to →
    new ≡ (document_own_transition document.FlowInside w).world →
    IsLineCall (flow_behaves_by w.setting.bytes w.setting.options next) w to new (IsMetFirst w)
asked-call w new to next e k feed line r stop all open_leaf sees rest is built on =
    steps-leave B feed (s.Document document.FlowInside) w new to
    (IsLineEnded B (AreOf w.setting.options (role_met w.setting.options all open_leaf r) line r)
    (place line (line_end line)) stop (here w))
    (steps-as B feed (Next (s.Document document.FlowInside)) _ to w _ new e k
    (containers_means B feed next document.FlowInside w (flow_has w.setting.bytes w.setting.options next) sees tt
    (inl refl) (λ x. cc) (λ x. cc)))
    (line-left w.setting.options w.setting.bytes next line r (feed w.point) stop (here w) all open_leaf _
    (inside-is w.setting.options next (feed w.point) (here w)
    (next-short w.setting.bytes line r w.point (feed w.point) stop is) rest on.1) is built on.0)
  where
    B : Behaviour
    B = flow_behaves_by w.setting.bytes w.setting.options next

-- it ends as from where as many events are
ended-from : (B : Behaviour) (Are : List Event → Type 0) (end : Point) (stop : List Cell) (h k : Here) (o : Outcome) →
    k.events ≡ h.events → IsLineEnded B Are end stop k o → IsLineEnded B Are end stop h o
ended-from B Are end stop h k o same is = record {
  events = is.events;
  are = is.are;
  to = is.to;
  ends = is.ends;
  added = is.added ∙ ap (λ (es : List Event). es ++ is.events) same;
  point = is.point;
}

pub open-call : (w new : World) (to : State) (next : Rule) →
    to ≡ (document_own_transition document.ContainersAfter w).to →
    new ≡ (document_own_transition document.ContainersAfter w).world →
    IsLineCall (flow_behaves_by w.setting.bytes w.setting.options next) w to new (IsOpen w)
open-call w new to next e k feed line r stop all open_leaf sees rest is built on =
    steps-leave B feed (s.Document document.ContainersAfter) w new to Is
    (steps-as B feed (Next (s.Document document.ContainersAfter)) _ to w _ new e k
    (containers_means B feed next document.ContainersAfter w (flow_has w.setting.bytes w.setting.options next) sees tt
    (inl refl) (λ x. cc) (λ x. cc)))
    (ended-from B (AreOf w.setting.options (role_met w.setting.options all open_leaf r) line r)
    (place line (line_end line)) stop (here w) begun _ refl
    (line-left w.setting.options w.setting.bytes next line r (feed w.point) stop begun all open_leaf _
    (inside-is w.setting.options next (feed w.point) begun
    (next-short w.setting.bytes line r w.point (feed w.point) stop is) rest on.2) is built
    (ap₂ (λ (x : Bool) (held : HeldLeaf). met_by x held) (sym on.1) on.0)))
  where
    -- the containers of the line are known
    begun : Here
    begun = record (here w) { flags = begun_line w.flags }

    B : Behaviour
    B = flow_behaves_by w.setting.bytes w.setting.options next

    Is : Outcome → Type 0
    Is =
        IsLineEnded B (AreOf w.setting.options (role_met w.setting.options all open_leaf r) line r)
        (place line (line_end line)) stop (here w)
