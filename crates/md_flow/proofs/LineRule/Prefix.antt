-- The first states of a container, and the states before its further prefix: what is left there of the rest of a line.
use Rattle.std.proofs.Common.{◌≡◌, ℕ, zero, suc, Bool, true, false, cond, ◌&&◌, List, ◌++◌, refl}
use Rattle.std.proofs.Common.{sym, ap, ◌∙◌, subst, arith}
use Rattle.std.specs.Prelude.{Option, Some, None}
use Rattle.md_engine.specs.declared.configuration.ParseOptions.{ParseOptions}
use Rattle.md_engine.specs.declared.event.Event.{Event}
use Rattle.md_engine.specs.declared.event.Point.{Point}
use Rattle.md_engine.specs.declared.state.Name.{Name as StateName}
use Rattle.md_engine.specs.declared.state.State.{State}
use Rattle.md_engine.specs.declared.state.State.TheVariants.{Next}
use Rattle.md_engine.specs.declared.tokenizer.container.Container.{Container as Held}
use Rattle.md_engine.specs.declared.tokenizer.container.name.ContainerKind.{ContainerKind}
use Rattle.md_engine.specs.declared.tokenizer.container.name.ContainerKind.TheVariants as kind
use Rattle.md_engine.specs.Meaning.{Behaviour, Cell, Feed, Here, Outcome, Steps, here}
use Rattle.md_engine.specs.Scheme.{valid}
use Rattle.md_engine.specs.Sees.{Sees}
use Rattle.md_engine.specs.World.{World, container_of, looks}
use Rattle.md_engine.proofs.StepOf.{steps-as}
use Rattle.md_containers.proofs.FootnoteOpens.{OpensFootnote, footnote-opens_agrees}
use Rattle.md_containers.proofs.ItemLines.{ItemAgrees}
use Rattle.md_containers.proofs.ItemOpens.{OpensItem, opens-agrees}
use Rattle.md_containers.specs.FootnotePrefix.{footnote_new}
use Rattle.md_containers.specs.Interrupts.{interrupts}
use Rattle.md_containers.specs.ItemPrefix.{ItemPassed, item_new}
use Rattle.md_containers.specs.QuoteRule.{takes_prefix}
use Rattle.md_events.proofs.RestCells.{past_rest, rest_cells}
use Rattle.md_events.specs.Spaces.{IsRest}
use Rattle.md_events.specs.Exact.Places.{TextLine}
use Rattle.md_events.specs.Exact.Prefixes.{further_prefix}
use Rattle.md_meaning.specs.Containers.{Taken, continues, opens_footnote, opens_item}
use Rattle.md_meaning.specs.Rest.{Rest}
use Rattle.md_meaning.specs.State.{Container, InFootnote, InItem, InQuote}
use Rattle.md_registry.proofs.Registry.{construct-steps, container-states}
use Rattle.md_registry.proofs.Registry.{container-laws}
use Rattle.md_registry.specs.Registry.{construct_transition, container_rules, continues_by}
use Rattle.md_registry.specs.States.{flow_behaves_by, flow_table_scheme}
use Rattle.proof_container_laws.specs.Containers.BlockQuote.{quote_new}
use Rattle.proof_container_laws.specs.Containers.GfmFootnoteDefinition.{footnote_passed, footnote_passes}
use Rattle.proof_container_laws.specs.Containers.ListItem.{item_passed, item_passes}
use Rattle.proof_rows.proofs.ContainersSame.{HasEvents, Opens, footnote-begins, item-begins, proceeds-same}
use Rattle.proof_rows.proofs.ContainersSame.{quote-opens}
use Rattle.proof_exact_lines.specs.Unlisted.{plain_begin}
use Rattle.proof_frame.proofs.PassedFacts.{Agree, HasFurther, HasOpening, HasPassed}
use Rattle.proof_frame.proofs.RegistryRead.{of-read}
use Rattle.proof_frame.specs.ContainerNames.{IsOf}
use Rattle.proof_frame.specs.Passed.{Passed, passed_by, passed_here}
use Rattle.proof_frame.specs.Rule.{Rule}
use Rattle.md_flow.proofs.LineRule.Leaf.{rest-short, steps-leave}
use Rattle.md_flow.specs.LineRule.{IsFurtherCall, IsHeldAs, IsNext, IsOpenerCall, IsPassed, IsPrefixTaken}
use Rattle.md_flow.specs.LineRule.{further_state, opener_state, opens_of}

-- What is held of a container is what is said of it.
held-as : (k : ContainerKind) (c : Container) (held : Held) → IsOf k c → (container_rules k).holds held c →
    IsHeldAs c held
held-as kind.BlockQuote (InQuote alert) held is h = h
held-as kind.BlockQuote (InItem digits marker zero blank) held is h = absurd (cc)
held-as kind.BlockQuote (InItem digits marker (suc w) blank) held is h = absurd (cc)
held-as kind.BlockQuote (InFootnote label) held is h = absurd (cc)
held-as kind.ListItem (InQuote alert) held is h = absurd (cc)
held-as kind.ListItem (InItem digits marker width blank) held is h = h
held-as kind.ListItem (InFootnote label) held is h = absurd (cc)
held-as kind.GfmFootnoteDefinition (InQuote alert) held is h = absurd (cc)
held-as kind.GfmFootnoteDefinition (InItem digits marker zero blank) held is h = absurd (cc)
held-as kind.GfmFootnoteDefinition (InItem digits marker (suc w) blank) held is h = absurd (cc)
held-as kind.GfmFootnoteDefinition (InFootnote label) held is h = h

-- A prefix that is taken.
prefix-taken : (text : List ℕ) (line : TextLine) (r : Rest) (cells stop : List Cell) (h : Here) (o : Outcome)
    (events : List Event) (passed : Passed) (t : Taken) (k : ContainerKind) →
    (is : IsNext text line r h.point cells stop) → o ≡ passed_by (Some passed) h →
    HasEvents text is.following line events t.rest passed →
    HasPassed is.said text is.following (past_rest r h.point) stop (rest_cells is.said r h.point ++ stop) passed t →
    IsOf k passed.container → (container_rules k).holds passed.held passed.container →
    IsPrefixTaken text line events t stop h o
prefix-taken text line r cells stop h o events passed t k is e has passes of holds = record {
  to = passed_here passed h;
  cells = passed.cells;
  accepts = e;
  added = ap (λ (es : List Event). h.events ++ es) (sym has.events);
  next = record {
    said = is.said;
    following = is.following;
    within = is.within;
    on = has.on;
    plain = passes.no_ending;
    are = passes.fed;
    stops = is.stops;
    short =
        let short = rest-short text line r h.point cells stop is in let shorter = passes.shorter in omega arith;
  };
  held =
      subst (λ (c : Container). IsHeldAs c passed.held) passes.container
      (held-as k passed.container passed.held of holds);
}

abbrev passed_or : Passed → Option Passed → Passed
passed_or other None = other
passed_or other (Some u) = u

abbrev taken_or : Taken → Option Taken → Taken
taken_or other None = other
taken_or other (Some u) = u

-- One that opens has the events of its cells.
opening-events : (k : ContainerKind) (options : ParseOptions) (interrupting : Bool) (text : List ℕ) (line : TextLine)
    (r : Rest) (cells stop : List Cell) (h : Here) (passed : Passed) (t : Taken) →
    (is : IsNext text line r h.point cells stop) →
    (container_rules k).opens options interrupting (rest_cells is.said r h.point ++ stop) h.point ≡ Some passed →
    opens_of k options interrupting r ≡ Some t → Opens text is.following line r t passed
opening-events kind.BlockQuote options interrupting text line r cells stop h passed t is e f =
    go (options.constructs.block_quote && takes_prefix options (rest_cells is.said r h.point ++ stop)) e
  where
    new : Passed
    new = quote_new options (rest_cells is.said r h.point ++ stop) h.point

    go : (x : Bool) → cond x (Some new) None ≡ Some passed → Opens text is.following line r t passed
    go false g = absurd (cc)
    go true g =
        subst (Opens text is.following line r t) (ap (passed_or passed) g)
        (quote-opens options is.said text is.following line r h.point stop t is.within is.on is.plain is.stops
        (rest-short text line r h.point cells stop is) f)
opening-events kind.ListItem options interrupting text line r cells stop h passed t is e f =
    go (item_new options interrupting all h.point) (opens_item options interrupting r)
    (opens-agrees options interrupting is.said text is.following r stop h.point is.on.valid is.plain is.stops
    (rest-short text line r h.point cells stop is)) e f
  where
    all : List Cell
    all = rest_cells is.said r h.point ++ stop

    go : (a : Option ItemPassed) (b : Option Taken) →
        ItemAgrees (OpensItem is.said text is.following h.point (past_rest r h.point) stop all) a b →
        item_passes a ≡ Some passed → b ≡ Some t → Opens text is.following line r t passed
    go None b agree g i = absurd (cc)
    go (Some own) None agree g i = absurd agree
    go (Some own) (Some v) agree g i =
        subst (λ (x : Passed). Opens text is.following line r t x) (ap (passed_or passed) g)
        (subst (λ (x : Taken). Opens text is.following line r x (item_passed own)) (ap (taken_or t) i)
        (item-begins is.said text is.following line r h.point stop own v is.within is.on is.plain is.stops agree))
opening-events kind.GfmFootnoteDefinition options interrupting text line r cells stop h passed t is e f =
    go (footnote_new options all h.point) (opens_footnote options r)
    (footnote-opens_agrees options is.said text is.following r stop h.point is.on.valid is.plain is.stops
    (rest-short text line r h.point cells stop is)) e f
  where
    all : List Cell
    all = rest_cells is.said r h.point ++ stop

    go : (a : Option ItemPassed) (b : Option Taken) →
        ItemAgrees (OpensFootnote is.said text is.following h.point (past_rest r h.point) stop all) a b →
        footnote_passes a ≡ Some passed → b ≡ Some t → Opens text is.following line r t passed
    go None b agree g i = absurd (cc)
    go (Some own) None agree g i = absurd agree
    go (Some own) (Some v) agree g i =
        subst (λ (x : Passed). Opens text is.following line r t x) (ap (passed_or passed) g)
        (subst (λ (x : Taken). Opens text is.following line r x (footnote_passed own)) (ap (taken_or t) i)
        (footnote-begins is.said text is.following line r h.point stop own v is.within is.on is.plain is.stops
        agree))

found-is : (k : ContainerKind) (options : ParseOptions) (interrupting : Bool) (r : Rest) →
    opens_of k options interrupting r ≡ (container_rules k).found options interrupting r
found-is kind.BlockQuote options interrupting r = refl
found-is kind.ListItem options interrupting r = refl
found-is kind.GfmFootnoteDefinition options interrupting r = refl

-- What is left at the first state of one.
pub opener-left : (k : ContainerKind) (options : ParseOptions) (text : List ℕ) (line : TextLine) (r : Rest)
    (cells stop : List Cell) (h : Here) →
    IsRest h.scratch → h.flags.asked ≡ container_of k → h.flags.asked_column ≡ h.point.column →
    IsNext text line r h.point cells stop →
    IsPassed text line (λ t. plain_begin line t.container r t.rest) stop h ((container_rules k).begins options cells h)
    (opens_of k options (interrupts h.flags) r)
opener-left k options text line r cells stop h rest asked column is =
    go ((container_rules k).opens options i all p) (opens_of k options i r) refl refl
    (subst (Agree (HasOpening is.said text is.following p (past_rest r p) stop all)
    ((container_rules k).opens options i all p)) (sym (found-is k options i r))
    ((container-laws k).opens_agrees options i is.said text is.following r stop p is.on.valid is.plain is.stops
    (rest-short text line r p cells stop is)))
    (ap (λ (cs : List Cell). (container_rules k).begins options cs h) is.are
    ∙ (container-laws k).begins_is options i all h rest asked column refl)
  where
    p : Point
    p = h.point

    i : Bool
    i = interrupts h.flags

    all : List Cell
    all = rest_cells is.said r p ++ stop

    go : (a : Option Passed) (b : Option Taken) → (container_rules k).opens options i all p ≡ a →
        opens_of k options i r ≡ b → Agree (HasOpening is.said text is.following p (past_rest r p) stop all) a b →
        (container_rules k).begins options cells h ≡ passed_by ((container_rules k).opens options i all p) h →
        IsPassed text line (λ t. plain_begin line t.container r t.rest) stop h
        ((container_rules k).begins options cells h) b
    go None None e f agree same = same ∙ ap (λ (x : Option Passed). passed_by x h) e
    go None (Some t) e f agree same = absurd agree
    go (Some passed) None e f agree same = absurd agree
    go (Some passed) (Some t) e f agree same =
        prefix-taken text line r cells stop h _ (plain_begin line t.container r t.rest) passed t k is
        (same ∙ ap (λ (x : Option Passed). passed_by x h) e)
        (opening-events k options i text line r cells stop h passed t is e f) agree.passes
        ((container-laws k).opened options i all p passed e).one
        ((container-laws k).held_new options i all p passed e)

-- What is left before the prefix on a further line.
pub further-left : (k : ContainerKind) (c : Container) (options : ParseOptions) (text : List ℕ) (line : TextLine) (r : Rest)
    (cells stop : List Cell) (h : Here) →
    IsOf k c → (container_rules k).holds h.flags.asked c →
    IsRest h.scratch → h.flags.asked_column ≡ h.point.column → IsNext text line r h.point cells stop →
    IsPassed text line (λ t. further_prefix line t.container r t.rest) stop h
    ((container_rules k).continues options cells h) (continues options c r)
further-left k c options text line r cells stop h of holds rest column is =
    go ((container_rules k).proceeds options c all p) (continues options c r) refl refl
    ((container-laws k).proceeds_agrees options c of is.said text is.following r stop p is.on.valid is.plain is.stops
    (rest-short text line r p cells stop is))
    (ap (λ (cs : List Cell). (container_rules k).continues options cs h) is.are
    ∙ (container-laws k).continues_is options h.flags.asked c all h rest refl column of holds)
  where
    p : Point
    p = h.point

    all : List Cell
    all = rest_cells is.said r p ++ stop

    go : (a : Option Passed) (b : Option Taken) → (container_rules k).proceeds options c all p ≡ a →
        continues options c r ≡ b → Agree (HasFurther is.said text is.following p (past_rest r p) stop all) a b →
        (container_rules k).continues options cells h ≡ passed_by ((container_rules k).proceeds options c all p) h →
        IsPassed text line (λ t. further_prefix line t.container r t.rest) stop h
        ((container_rules k).continues options cells h) b
    go None None e f agree same = same ∙ ap (λ (x : Option Passed). passed_by x h) e
    go None (Some t) e f agree same = absurd agree
    go (Some passed) None e f agree same = absurd agree
    go (Some passed) (Some t) e f agree same =
        prefix-taken text line r cells stop h _ (further_prefix line t.container r t.rest) passed t k is
        (same ∙ ap (λ (x : Option Passed). passed_by x h) e)
        (proceeds-same options c is.said text is.following line r p stop passed t (of-read k c of) is.within is.on
        is.plain is.stops (rest-short text line r p cells stop is) (ap (continues_by options c all p) of ∙ e) f)
        agree.passes ((container-laws k).proceeded options c all p passed of e).one
        ((container-laws k).held_on options h.flags.asked c all p passed holds e)

-- The calls.

opener-is : (k : ContainerKind) → opener_state k ≡ (container_rules k).start
opener-is kind.BlockQuote = refl
opener-is kind.ListItem = refl
opener-is kind.GfmFootnoteDefinition = refl

opener-steps : (k : ContainerKind) (feed : Feed) (next : Rule) (w : World) → Sees feed w → w.current ≡ looks w →
    valid flow_table_scheme w (Next (opener_state k)) →
    Steps (flow_behaves_by w.setting.bytes w.setting.options next) feed (Next (opener_state k)) w
    (construct_transition (opener_state k) w).to (construct_transition (opener_state k) w).world
opener-steps kind.BlockQuote feed next w s c at = construct-steps feed next (opener_state kind.BlockQuote) w s c at
opener-steps kind.ListItem feed next w s c at = construct-steps feed next (opener_state kind.ListItem) w s c at
opener-steps kind.GfmFootnoteDefinition feed next w s c at =
    construct-steps feed next (opener_state kind.GfmFootnoteDefinition) w s c at

pub opener-call : (name : StateName) (w new : World) (to : State) (next : Rule) → w.current ≡ looks w →
    valid flow_table_scheme w (Next name) → to ≡ (construct_transition name w).to →
    new ≡ (construct_transition name w).world →
    IsOpenerCall (flow_behaves_by w.setting.bytes w.setting.options next) name w to new
opener-call name w new to next c at e same k feed line r stop is s rest asked column at_rest =
    steps-leave B feed name w new to Is
    (subst (λ (m : StateName). Steps B feed (Next m) w to new) (sym is)
    (steps-as B feed (Next (opener_state k)) _ to w _ new
    (e ∙ ap (λ (m : StateName). (construct_transition m w).to) is)
    (same ∙ ap (λ (m : StateName). (construct_transition m w).world) is)
    (opener-steps k feed next w s c (subst (λ (m : StateName). valid flow_table_scheme w (Next m)) is at))))
    (subst Is
    (sym
    (ap (λ (m : StateName). B m (feed w.point) (here w)) (is ∙ opener-is k)
    ∙ (container-states k).begins_is w.setting.bytes w.setting.options next (feed w.point) (here w)))
    (opener-left k w.setting.options w.setting.bytes line r (feed w.point) stop (here w) rest asked column at_rest))
  where
    B : Behaviour
    B = flow_behaves_by w.setting.bytes w.setting.options next

    Is : Outcome → Type 0
    Is o =
        IsPassed w.setting.bytes line (λ t. plain_begin line t.container r t.rest) stop (here w) o
        (opens_of k w.setting.options (interrupts w.flags) r)

-- the kind of a container that is held
record HasKind (c : Container) (held : Held) : Type 0 where
  k : ContainerKind
  of : IsOf k c
  holds : (container_rules k).holds held c
  state : further_state c ≡ (container_rules k).further

has-kind : (c : Container) (held : Held) → IsHeldAs c held → HasKind c held
has-kind (InQuote alert) held h = record { k = kind.BlockQuote; of = refl; holds = h; state = refl }
has-kind (InItem digits marker zero blank) held h = let wide = h.1.2 in absurd (omega arith)
has-kind (InItem digits marker (suc w) blank) held h =
    record { k = kind.ListItem; of = refl; holds = h; state = refl }
has-kind (InFootnote label) held h =
    record { k = kind.GfmFootnoteDefinition; of = refl; holds = h; state = refl }

further-steps : (c : Container) (feed : Feed) (next : Rule) (w : World) → Sees feed w → w.current ≡ looks w →
    valid flow_table_scheme w (Next (further_state c)) →
    Steps (flow_behaves_by w.setting.bytes w.setting.options next) feed (Next (further_state c)) w
    (construct_transition (further_state c) w).to (construct_transition (further_state c) w).world
further-steps (InQuote alert) feed next w s c at = construct-steps feed next (further_state (InQuote alert)) w s c at
further-steps (InItem digits marker width blank) feed next w s c at =
    construct-steps feed next (further_state (InItem digits marker width blank)) w s c at
further-steps (InFootnote label) feed next w s c at =
    construct-steps feed next (further_state (InFootnote label)) w s c at

pub further-call : (name : StateName) (w new : World) (to : State) (next : Rule) → w.current ≡ looks w →
    valid flow_table_scheme w (Next name) → to ≡ (construct_transition name w).to →
    new ≡ (construct_transition name w).world →
    IsFurtherCall (flow_behaves_by w.setting.bytes w.setting.options next) name w to new
further-call name w new to next current at e same c feed line r stop is s rest held column at_rest =
    steps-leave B feed name w new to Is
    (subst (λ (m : StateName). Steps B feed (Next m) w to new) (sym is)
    (steps-as B feed (Next (further_state c)) _ to w _ new
    (e ∙ ap (λ (m : StateName). (construct_transition m w).to) is)
    (same ∙ ap (λ (m : StateName). (construct_transition m w).world) is)
    (further-steps c feed next w s current
    (subst (λ (m : StateName). valid flow_table_scheme w (Next m)) is at))))
    (subst Is
    (sym
    (ap (λ (m : StateName). B m (feed w.point) (here w)) (is ∙ has.state)
    ∙ (container-states has.k).continued_is w.setting.bytes w.setting.options next (feed w.point) (here w)))
    (further-left has.k c w.setting.options w.setting.bytes line r (feed w.point) stop (here w) has.of has.holds rest
    column at_rest))
  where
    B : Behaviour
    B = flow_behaves_by w.setting.bytes w.setting.options next

    has : HasKind c w.flags.asked
    has = has-kind c w.flags.asked held

    Is : Outcome → Type 0
    Is o =
        IsPassed w.setting.bytes line (λ t. further_prefix line t.container r t.rest) stop (here w) o
        (continues w.setting.options c r)
