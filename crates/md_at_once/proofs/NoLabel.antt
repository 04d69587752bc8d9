-- Lines that begin with a bracket after which no caret is: each container refuses them.
use Rattle.std.proofs.Common.{◌≡◌, ◌∙◌, ◌+◌, ◌<◌, ◌≤◌, inl, inr, Bool, true, false, cond, ℕ, List, ◌∷◌, ◌++◌, []}
use Rattle.std.proofs.Common.{Option, Some, None, ap, append_assoc, arith, length, nat_eq, nat_lt, refl, subst, sym}
use Rattle.std.specs.List.{All}
use Rattle.std.specs.Option.{is_some}
use Rattle.std.specs.Prelude.{slice_index}
use Rattle.std.proofs.lemmas.List.{append-nil}
use Rattle.std.proofs.lemmas.Bool.Decides.{nat_tests}
use Rattle.md_engine.specs.declared.event.Event.{Event}
use Rattle.md_engine.specs.declared.event.Name.TheVariants.{GfmFootnoteDefinition, GfmFootnoteDefinitionLabel}
use Rattle.md_engine.specs.declared.event.Name.TheVariants.{GfmFootnoteDefinitionLabelMarker}
use Rattle.md_engine.specs.declared.event.Name.TheVariants.{GfmFootnoteDefinitionPrefix}
use Rattle.md_engine.specs.declared.event.Point.{Point}
use Rattle.md_engine.specs.declared.state.Name.TheVariants as n
use Rattle.md_engine.specs.declared.state.document.State.{State as DocumentState}
use Rattle.md_engine.specs.declared.state.document.State.TheVariants as document
use Rattle.md_engine.specs.declared.state.gfm_footnote_definition.State.TheVariants as its
use Rattle.md_engine.specs.declared.state.State.{State}
use Rattle.md_engine.specs.declared.state.State.TheVariants.{Next, Nok, Retry}
use Rattle.md_engine.specs.declared.tokenizer.Frame.{Frame}
use Rattle.md_engine.specs.declared.tokenizer.container.name.ContainerKind.{ContainerKind}
use Rattle.md_engine.specs.declared.tokenizer.container.name.ContainerKind.TheVariants as kind
use Rattle.md_engine.specs.Place.{is_ending, seen_at}
use Rattle.md_engine.specs.Run.{reading}
use Rattle.md_engine.specs.World.{Setting, World, after, container_of, looks, looks_at}
use Rattle.md_engine.proofs.Loops.{ArrivedAt}
use Rattle.md_engine.proofs.Walks.{Within, then-stays, then-takes, within-more, within-one}
use Rattle.md_containers.specs.Footnote.{label_at_marker_code, label_before_code}
use Rattle.md_meaning.specs.Ascii.{caret, left_bracket}
use Rattle.md_meaning.specs.Rest.{is_white}
use Rattle.md_leaves.specs.LeafStart.{start_code}
use Rattle.md_events.specs.Events.Nested.{enter, exit}
use Rattle.md_events.specs.Look.{may_with}
use Rattle.md_events.specs.Spaces.{is_current, sees_white}
use Rattle.md_events.specs.Transition.{entered, tried}
use Rattle.md_events.proofs.LookLemmas.{dark-at, white-at}
use Rattle.md_registry.specs.AtOnce.{all_asked, openers_passed}
use Rattle.md_registry.specs.Document.{document_own_transition}
use Rattle.md_registry.specs.Flow.{leaf_front, new_before_transition, trial_code}
use Rattle.md_registry.specs.LineFlags.{asking}
use Rattle.md_registry.specs.Registry.{asked_first, may_open, next_opener, opener_front, openers, opens_with}
use Rattle.md_registry.specs.States.{FlowStep}
use Rattle.md_registry.proofs.LinesAtOnce.{line-front, looks-dark, passes-front}
use Rattle.md_at_once.specs.AtOnce.{IsNoLabel, OpensNone}
use Rattle.md_at_once.proofs.TakenBack.{seen-other, stepped-as, taken-back}

-- a container that may not open with a bracket refuses, and the next is tried
refuses : (is_end : Bool) (s : State) (v : World) (x : DocumentState) (k : ContainerKind) (w : World) →
    document_own_transition x w ≡ new_before_transition k w → may_open k left_bracket ≡ false →
    w.current ≡ Some left_bracket → w.current ≡ looks w → Within w →
    ArrivedAt FlowStep is_end s v (n.Document x) w →
    ArrivedAt FlowStep is_end s v (n.Document (next_opener k)) (asking (container_of k) w)
refuses is_end s v x k w tries none here seen within arrived =
    let a : World = asking (container_of k) w in
    let is : document_own_transition x w ≡ record { to = Retry (n.Document (next_opener k)); world = a } =
    tries
    ∙ ap (trial_code (opens_with k) (n.Document document.ContainerNewAfter) (n.Document (next_opener k)) a)
    (ap (may_with (may_open k)) (looks-dark w left_bracket here refl) ∙ none) in
    then-stays FlowStep is_end s v (n.Document x) (n.Document (next_opener k)) w a arrived
    (stepped-as (n.Document x) w _ is) refl within refl seen

-- the byte that is here is the bracket itself
bracket-byte : (w : World) → w.current ≡ Some left_bracket → w.current ≡ looks w →
    slice_index w.setting.bytes w.point.index ≡ left_bracket
bracket-byte w here seen = at (nat_lt w.point.index w.setting.limit) (sym here ∙ seen)
  where
    byte : ℕ
    byte = slice_index w.setting.bytes w.point.index

    by-end : (y : Bool) → cond y 10 byte ≡ left_bracket → byte ≡ left_bracket
    by-end true e = cc
    by-end false e = e

    by : (y : Bool) → is_white byte ≡ y → seen_at w.setting.bytes w.point ≡ left_bracket → byte ≡ left_bracket
    by true k e =
        let no : true ≡ false = sym (white-at w.setting w.point k).white ∙ ap is_white e in cc
    by false k e = by-end (is_ending byte) (sym (dark-at w.setting w.point k) ∙ e)

    at : (y : Bool) → Some left_bracket ≡ cond y (Some (seen_at w.setting.bytes w.point)) None → byte ≡ left_bracket
    at true e = by (is_white byte) refl (let same : left_bracket ≡ seen_at w.setting.bytes w.point = cc in sym same)
    at false e = cc

-- after it the next byte is
following-bracket : (x : Setting) (p : Point) → slice_index x.bytes p.index ≡ left_bracket →
    (after x p).index ≡ p.index + 1
following-bracket x p e = rw e refl

-- which is no caret
no-caret : (w : World) (p : Point) → IsNoLabel w → p.index ≡ w.point.index + 1 →
    is_current caret (looks_at w.setting p) ≡ false
no-caret w p h at =
    let lt : p.index < w.setting.limit = omega (arith, at, h.inside) in
    let inner : nat_lt p.index w.setting.limit ≡ true = grind (arith, nat_tests) in
    ap (λ (y : Bool). is_current caret (cond y (Some (seen_at w.setting.bytes p)) None)) inner
    ∙ seen-other w.setting p caret refl refl
    (ap (λ (i : ℕ). nat_eq (slice_index w.setting.bytes i) caret) at ∙ h.other)

-- so a footnote definition refuses it,
footnote-refuses : (is_end : Bool) (s : State) (v w : World) → IsNoLabel w → w.current ≡ looks w → Within w →
    ArrivedAt FlowStep is_end s v (n.Document document.ContainerNewBeforeNotList) w →
    ArrivedAt FlowStep is_end s v (n.Document document.ContainersAfter)
    (asking (container_of kind.GfmFootnoteDefinition) w)
footnote-refuses is_end s v w h seen within arrived = go a.setting.options.constructs.gfm_footnote_definition refl
  where
    T : Type 0
    T = ArrivedAt FlowStep is_end s v (n.Document document.ContainersAfter)
        (asking (container_of kind.GfmFootnoteDefinition) w)

    a : World
    a = asking (container_of kind.GfmFootnoteDefinition) w

    f : Frame
    f = record {
      ok = Next (n.Document document.ContainerNewAfter);
      nok = Next (n.Document document.ContainersAfter);
      is_check = false;
      events_len = length w.events;
      point = w.point;
    }

    begun : World
    begun = tried a f.ok f.nok

    inner : Within begun
    inner = within-one f w.frames (length w.events) (omega arith) within

    byte : slice_index w.setting.bytes w.point.index ≡ left_bracket
    byte = bracket-byte w h.bracket seen

    next : (after w.setting w.point).index ≡ w.point.index + 1
    next = following-bracket w.setting w.point byte

    lt : w.point.index < w.setting.limit
    lt = omega (arith, h.inside)

    tries : new_before_transition kind.GfmFootnoteDefinition w ≡
        record { to = Retry (n.GfmFootnoteDefinition its.Start); world = begun }
    tries =
        ap
        (trial_code (n.GfmFootnoteDefinition its.Start) (n.Document document.ContainerNewAfter)
        (n.Document document.ContainersAfter) a)
        (ap (may_with (may_open kind.GfmFootnoteDefinition)) (looks-dark w left_bracket h.bracket refl))

    at_start : ArrivedAt FlowStep is_end s v (n.GfmFootnoteDefinition its.Start) begun
    at_start =
        then-stays FlowStep is_end s v (n.Document document.ContainerNewBeforeNotList)
        (n.GfmFootnoteDefinition its.Start) w begun arrived
        (stepped-as (n.Document document.ContainerNewBeforeNotList) w _ tries) refl within refl seen

    opened : World
    opened = entered begun GfmFootnoteDefinition

    in-opened : Within opened
    in-opened = within-more (f ∷ w.frames) w.events (enter GfmFootnoteDefinition w.point ∷ []) inner

    following : World
    following = (label_before_code opened true).world

    more : List Event
    more =
        enter GfmFootnoteDefinition w.point ∷ enter GfmFootnoteDefinitionPrefix w.point
        ∷ enter GfmFootnoteDefinitionLabel w.point ∷ enter GfmFootnoteDefinitionLabelMarker w.point
        ∷ exit GfmFootnoteDefinitionLabelMarker (after w.setting w.point) ∷ []

    all : following.events ≡ w.events ++ more
    all = simp append_assoc

    in-following : Within following
    in-following =
        subst (λ (es : List Event). All (λ (g : Frame). g.events_len ≤ length es) (f ∷ w.frames)) (sym all)
        (within-more (f ∷ w.frames) w.events more inner)

    white : sees_white w.current ≡ false
    white = ap sees_white h.bracket

    go : (on : Bool) → a.setting.options.constructs.gfm_footnote_definition ≡ on → T
    go false e =
        taken-back is_end s v (n.GfmFootnoteDefinition its.Start) (n.Document document.ContainersAfter) a
        begun begun f []
        at_start
        (stepped-as (n.GfmFootnoteDefinition its.Start) begun (record { to = Nok; world = begun })
        (ap
        (λ (on : Bool).
        start_code GfmFootnoteDefinition (n.GfmFootnoteDefinition its.LabelBefore) begun on (sees_white w.current)) e))
        refl inner refl (sym (append-nil w.events)) refl refl refl refl within seen lt
    go true e =
        let named = stepped-as (n.GfmFootnoteDefinition its.Start) begun
        (record { to = Retry (n.GfmFootnoteDefinition its.LabelBefore); world = opened })
        (ap
        (λ (on : Bool).
        start_code GfmFootnoteDefinition (n.GfmFootnoteDefinition its.LabelBefore) begun on (sees_white w.current)) e
        ∙ ap (start_code GfmFootnoteDefinition (n.GfmFootnoteDefinition its.LabelBefore) begun true) white) in
        let at_label = then-stays FlowStep is_end s v (n.GfmFootnoteDefinition its.Start)
        (n.GfmFootnoteDefinition its.LabelBefore) begun opened at_start named refl inner refl seen in
        let at_marker = then-takes FlowStep is_end s v (n.GfmFootnoteDefinition its.LabelBefore)
        (n.GfmFootnoteDefinition its.LabelAtMarker) opened following at_label
        (stepped-as (n.GfmFootnoteDefinition its.LabelBefore) opened
        (record { to = Next (n.GfmFootnoteDefinition its.LabelAtMarker); world = following })
        (ap (λ (o : Option ℕ). label_before_code opened (is_current left_bracket o)) h.bracket)) refl in-opened
        (omega (arith, next, h.inside)) in
        let u = reading following in
        let no = no-caret w following.point h next in
        taken-back is_end s v (n.GfmFootnoteDefinition its.LabelAtMarker)
        (n.Document document.ContainersAfter) a u u f more
        at_marker
        (stepped-as (n.GfmFootnoteDefinition its.LabelAtMarker) u (record { to = Nok; world = u })
        (ap (label_at_marker_code u) no)) refl in-following refl all refl refl refl refl within seen lt

-- and no container opens with it.
pub passes-label : (is_end : Bool) (s : State) (v w : World) → IsNoLabel w → w.current ≡ looks w → Within w →
    ArrivedAt FlowStep is_end s v (n.Document (opener_front openers)) w →
    ArrivedAt FlowStep is_end s v (n.Document document.ContainersAfter) (all_asked openers w)
passes-label is_end s v w h seen within arrived =
    let a : World = asking (container_of kind.BlockQuote) w in
    let b : World = asking (container_of kind.ListItem) a in
    let following-quote = refuses is_end s v document.ContainerNewBefore kind.BlockQuote w refl refl
    h.bracket seen within
    arrived in
    let following-item = refuses is_end s v document.ContainerNewBeforeNotBlockQuote kind.ListItem a refl refl
    h.bracket seen
    within following-quote in
    footnote-refuses is_end s v b (record { bracket = h.bracket; inside = h.inside; other = h.other }) seen within
    following-item

-- So where none opens one reaches the leaf that is asked first, or to the rest of the line.
pub passes-to-front : (is_end : Bool) (s : State) (v w : World) → OpensNone w → w.current ≡ looks w → Within w →
    ArrivedAt FlowStep is_end s v (n.Document (opener_front openers)) w →
    ArrivedAt FlowStep is_end s v (leaf_front (is_some (asked_first (openers_passed w).flags.leaf))) (openers_passed w)
passes-to-front is_end s v w (inl none) seen within arrived = passes-front is_end s v w none seen within arrived
passes-to-front is_end s v w (inr h) seen within arrived =
    line-front is_end s v (all_asked openers w) seen within (passes-label is_end s v w h seen within arrived)
