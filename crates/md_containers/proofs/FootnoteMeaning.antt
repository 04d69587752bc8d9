-- Each state of a footnote definition takes one step of its rule.
use Rattle.std.proofs.Common.{◌≡◌, ℕ, suc, ◌+◌, ◌≤◌, Bool, true, false, nat_eq, List, [], ◌∷◌, ◌++◌, length, Option}
use Rattle.std.proofs.Common.{Some, None, refl, sym, ◌∙◌, ap, arith, append_assoc}
use Rattle.std.specs.Prelude.{nat_le}
use Rattle.std.proofs.lemmas.Bool.Decides.{nat_tests}
use Rattle.md_engine.specs.declared.configuration.ParseOptions.{ParseOptions}
use Rattle.md_engine.specs.declared.event.Event.{Event}
use Rattle.md_engine.specs.declared.event.Name.TheVariants as parts
use Rattle.md_engine.specs.declared.event.Point.{Point}
use Rattle.md_engine.specs.declared.state.Name.TheVariants as n
use Rattle.md_engine.specs.declared.state.State.{State}
use Rattle.md_engine.specs.declared.state.State.TheVariants.{Nok, Next}
use Rattle.md_engine.specs.declared.state.gfm_footnote_definition.State.{State as FootnoteState}
use Rattle.md_engine.specs.declared.state.gfm_footnote_definition.State.TheVariants as its
use Rattle.md_engine.specs.declared.tokenizer.Frame.{Frame}
use Rattle.md_engine.specs.Meaning.{Behaviour, Cell, Feed, Here, Refuses, Steps, here}
use Rattle.md_engine.specs.Scheme.{After, Position, position}
use Rattle.md_engine.specs.World.{World, after}
use Rattle.md_engine.specs.Sees.{Sees, ahead, cell_here}
use Rattle.md_engine.proofs.StepOf.{begins_only, moves, passes, steps-as}
use Rattle.md_containers.specs.Footnote.{FootnoteInvariant, breaks_label, closed_code, footnote_ready}
use Rattle.md_containers.specs.Footnote.{footnote_transition, label_after_code, label_at_marker_code, label_before_code}
use Rattle.md_containers.specs.Footnote.{label_escape_code, label_inside_code, label_link}
use Rattle.md_containers.specs.Footnote.{marker_after_code, most, refused, sees_mark, taken_as}
use Rattle.md_containers.specs.FootnoteRule.{FootnoteMeans, HasFootnote, LabelCells, at_bracket, at_caret, at_colon}
use Rattle.md_containers.specs.FootnoteRule.{following_colon, following_prefix, bracket_events, caret_events, in_label}
use Rattle.md_containers.specs.FootnoteRule.{label_by, label_cells, label_ended, with_cell}
use Rattle.md_containers.specs.Item.{without_size}
use Rattle.md_containers.specs.ItemRule.{after_columns}
use Rattle.md_meaning.specs.Ascii.{caret, colon, left_bracket}
use Rattle.md_meaning.specs.Containers.{is_label_mark}
use Rattle.md_leaves.proofs.LeafStart.{HasStart, start-steps}
use Rattle.md_events.specs.Ahead.{begins_white, white_rest}
use Rattle.md_events.specs.Events.Nested.{enter, enter_link, exit, pair}
use Rattle.md_events.specs.Spaces.{any_size, is_current, sees_white}
use Rattle.md_events.proofs.WhiteMeaning.{begins-seen, white-tried}
use Rattle.md_containers.proofs.ByteMeaning.{AsksFor, asked-some, asked-none}

-- Events that are added one after another.

four : (events : List Event) (a b c d : Event) →
    (((events ++ a ∷ []) ++ b ∷ []) ++ c ∷ []) ++ d ∷ [] ≡ events ++ a ∷ b ∷ c ∷ d ∷ []
four events a b c d = simp append_assoc

five : (events : List Event) (a b c d e : Event) →
    ((((events ++ a ∷ []) ++ b ∷ []) ++ c ∷ []) ++ d ∷ []) ++ e ∷ [] ≡ events ++ a ∷ b ∷ c ∷ d ∷ e ∷ []
five events a b c d e = simp append_assoc

-- The begin of the label.

asks-bracket : AsksFor left_bracket bracket_events at_bracket at_caret
unfolding at_bracket
asks-bracket = record { none = λ h. refl; some = λ c cs h. refl }

label_before_means : (B : Behaviour) (options : ParseOptions) (feed : Feed) (w : World) (x : Bool) →
    HasFootnote B options → Sees feed w → is_current left_bracket w.current ≡ x →
    Steps B feed (Next (n.GfmFootnoteDefinition its.LabelBefore)) w (label_before_code w x).to
    (label_before_code w x).world
label_before_means B options feed w true has s e =
    let q = after w.setting w.point in
    asked-some B feed _ _ w (label_before_code w true).world asks-bracket (has.each its.LabelBefore)
    (has.each its.LabelAtMarker) s e refl
    (four w.events (enter parts.GfmFootnoteDefinitionPrefix w.point) (enter parts.GfmFootnoteDefinitionLabel w.point)
    (enter parts.GfmFootnoteDefinitionLabelMarker w.point) (exit parts.GfmFootnoteDefinitionLabelMarker q)) refl refl
label_before_means B options feed w false has s e =
    asked-none B feed _ w asks-bracket (has.each its.LabelBefore) s e

asks-caret : AsksFor caret caret_events at_caret (in_label false)
unfolding at_caret
asks-caret = record { none = λ h. refl; some = λ c cs h. refl }

label_at_marker_means : (B : Behaviour) (options : ParseOptions) (feed : Feed) (w : World) (x : Bool) →
    HasFootnote B options → Sees feed w → is_current caret w.current ≡ x →
    Steps B feed (Next (n.GfmFootnoteDefinition its.LabelAtMarker)) w (label_at_marker_code w x).to
    (label_at_marker_code w x).world
label_at_marker_means B options feed w true has s e =
    let q = after w.setting w.point in
    asked-some B feed _ _ w (label_at_marker_code w true).world asks-caret (has.each its.LabelAtMarker)
    (has.each its.LabelInside) s e refl
    (four w.events (enter parts.GfmFootnoteDefinitionMarker w.point) (exit parts.GfmFootnoteDefinitionMarker q)
    (enter parts.GfmFootnoteDefinitionLabelString q) (enter_link parts.Data q label_link)) refl refl
label_at_marker_means B options feed w false has s e =
    asked-none B feed _ w asks-caret (has.each its.LabelAtMarker) s e

-- What is left in the label: at the end of the text,

label-none : (escaped : Bool) (h : Here) → in_label escaped [] h ≡ Refuses (without_size h.scratch) h.flags
unfolding in_label
label-none escaped h = refl

-- at a `]`,
label-ends : (c : Cell) (cs : List Cell) (h : Here) → nat_eq c.byte 93 ≡ true →
    in_label false (c ∷ cs) h ≡
    label_by (Some (record { label = []; end = h.point; closer = c; rest = cs })) h
unfolding in_label
label-ends c cs h e = rw e refl

-- at what ends a label that is none,
label-breaks : (c : Cell) (cs : List Cell) (h : Here) → nat_eq c.byte 93 ≡ false → breaks_label c.byte ≡ true →
    in_label false (c ∷ cs) h ≡ Refuses (without_size h.scratch) h.flags
unfolding in_label
label-breaks c cs h e f = rw (e, f) refl

-- at another byte,
label-proceeds : (c : Cell) (cs : List Cell) (h : Here) → nat_eq c.byte 93 ≡ false → breaks_label c.byte ≡ false →
    in_label false (c ∷ cs) h ≡ label_by (with_cell c.byte (label_cells (nat_eq c.byte 92) cs c.after)) h
unfolding in_label
label-proceeds c cs h e f = rw (e, f) refl

-- and after a backslash, by whether it takes what follows
label-escaped : (c : Cell) (cs : List Cell) (h : Here) → is_label_mark c.byte ≡ true →
    in_label true (c ∷ cs) h ≡ label_by (with_cell c.byte (label_cells false cs c.after)) h
unfolding in_label
label-escaped c cs h e = rw e refl

label-unescaped : (c : Cell) (cs : List Cell) (h : Here) → is_label_mark c.byte ≡ false →
    in_label true (c ∷ cs) h ≡ in_label false (c ∷ cs) h
unfolding in_label
label-unescaped c cs h e = rw e refl

-- A byte of it that is taken is counted,
label-counted : (b : ℕ) (o : Option LabelCells) (q : Point) (h : Here) →
    label_by (with_cell b o) h ≡
    label_by o (record h { point = q; scratch = record h.scratch { size = h.scratch.size + 1 } })
label-counted b None q h = refl
label-counted b (Some l) q h =
    let sum : h.scratch.size + suc (length l.label) ≡ h.scratch.size + 1 + length l.label = omega arith in
    rw sum refl

-- and where there is no room for one, there is no label.
label-full : (b : ℕ) (o : Option LabelCells) (h : Here) → nat_le most h.scratch.size ≡ true →
    label_by (with_cell b o) h ≡ Refuses (without_size h.scratch) h.flags
label-full b None h e = refl
label-full b (Some l) h e =
    let size : ℕ = h.scratch.size + suc (length l.label) in
    let full : most ≤ h.scratch.size = grind (arith, nat_tests) in
    let some : nat_le 1 size ≡ true = grind (arith, nat_tests) in
    let many : nat_le size most ≡ false = grind (arith, nat_tests, full) in
    rw (some, many) refl

-- what comes next where a byte is here
seen-cells : (feed : Feed) (w : World) (b : ℕ) → Sees feed w → w.current ≡ Some b →
    feed w.point ≡ cell_here feed w b ∷ feed (after w.setting w.point)
seen-cells feed w b s is = s.next ∙ ap (ahead feed w) is

-- a byte of the label, by whether there is room for it
taken_means : (B : Behaviour) (options : ParseOptions) (feed : Feed) (state next : FootnoteState) (w : World)
    (escaped : Bool) (b : ℕ) (x : Bool) →
    HasFootnote B options →
    B (n.GfmFootnoteDefinition state) (feed w.point) (here w) ≡
    label_by (with_cell b (label_cells escaped (feed (after w.setting w.point)) (after w.setting w.point))) (here w) →
    ((cells : List Cell) (h : Here) → B (n.GfmFootnoteDefinition next) cells h ≡ in_label escaped cells h) →
    nat_le most w.scratch.size ≡ x →
    Steps B feed (Next (n.GfmFootnoteDefinition state)) w (taken_as w next).to (taken_as w next).world
unfolding in_label
taken_means B options feed state next w escaped b true has rule proceeds e =
    rw e
    (passes B feed _ _ w (refused w).world refl refl
    (rule ∙ label-full b (label_cells escaped (feed (after w.setting w.point)) (after w.setting w.point)) (here w) e))
taken_means B options feed state next w escaped b false has rule proceeds e =
    let q = after w.setting w.point in
    rw e
    (passes B feed _ _ w
    (record w { point = q; scratch = record w.scratch { size = w.scratch.size + 1 } }) refl refl
    (rule ∙ label-counted b (label_cells escaped (feed q) q) q (here w) ∙ sym (proceeds _ _)))

-- at the `]` after it, by whether it is empty
closed_means : (B : Behaviour) (options : ParseOptions) (feed : Feed) (w : World) (b : ℕ) (x : Bool) →
    HasFootnote B options → Sees feed w → w.current ≡ Some b → nat_eq b 93 ≡ true → w.scratch.size ≤ most →
    nat_eq w.scratch.size 0 ≡ x →
    Steps B feed (Next (n.GfmFootnoteDefinition its.LabelInside)) w (closed_code w x).to (closed_code w x).world
closed_means B options feed w b x has s is bracket few e = go x e
  where
    q : Point
    q = after w.setting w.point

    ended : B (n.GfmFootnoteDefinition its.LabelInside) (feed w.point) (here w) ≡
        label_by (Some (record { label = []; end = w.point; closer = cell_here feed w b; rest = feed q })) (here w)
    ended =
        has.each its.LabelInside _ _
        ∙ ap (λ (x : List Cell). in_label false x (here w)) (seen-cells feed w b s is)
        ∙ label-ends (cell_here feed w b) (feed q) (here w) bracket

    go : (x : Bool) → nat_eq w.scratch.size 0 ≡ x →
        Steps B feed (Next (n.GfmFootnoteDefinition its.LabelInside)) w (closed_code w x).to (closed_code w x).world
    go true k =
        let none : nat_le 1 (w.scratch.size + 0) ≡ false = grind (arith, nat_tests) in
        passes B feed _ _ w (refused w).world refl refl (ended ∙ rw none refl)
    go false k =
        let some : nat_le 1 (w.scratch.size + 0) ≡ true = grind (arith, nat_tests) in
        let room : nat_le (w.scratch.size + 0) most ≡ true = grind (arith, nat_tests, few) in
        let same = five w.events (exit parts.Data w.point) (exit parts.GfmFootnoteDefinitionLabelString w.point)
        (enter parts.GfmFootnoteDefinitionLabelMarker w.point) (exit parts.GfmFootnoteDefinitionLabelMarker q)
        (exit parts.GfmFootnoteDefinitionLabel q) in
        moves B feed _ _ w (closed_code w false).world (label_ended w.point q) refl same
        (ended ∙ rw (some, room) refl
        ∙ ap
        (λ (es : List Event).
        at_colon (feed q) (record (here w) { events = es; point = q; scratch = without_size w.scratch }))
        (sym same)
        ∙ sym (has.each its.LabelAfter _ _))

label_inside_means : (B : Behaviour) (options : ParseOptions) (feed : Feed) (w : World) (o : Option ℕ) →
    HasFootnote B options → Sees feed w → w.scratch.size ≤ most → w.current ≡ o →
    Steps B feed (Next (n.GfmFootnoteDefinition its.LabelInside)) w (label_inside_code w o).to
    (label_inside_code w o).world
label_inside_means B options feed w None has s few is =
    passes B feed _ Nok w (refused w).world refl refl
    (has.each its.LabelInside _ _
    ∙ ap (λ (x : List Cell). in_label false x (here w)) (s.next ∙ ap (ahead feed w) is) ∙ label-none false (here w))
label_inside_means B options feed w (Some b) has s few is =
    go (nat_eq b 93) (breaks_label b) (nat_eq b 92) refl refl refl
  where
    q : Point
    q = after w.setting w.point

    seen : B (n.GfmFootnoteDefinition its.LabelInside) (feed w.point) (here w) ≡
        in_label false (cell_here feed w b ∷ feed q) (here w)
    seen =
        has.each its.LabelInside _ _
        ∙ ap (λ (x : List Cell). in_label false x (here w)) (seen-cells feed w b s is)

    proceeds : (z : Bool) → nat_eq b 93 ≡ false → breaks_label b ≡ false → nat_eq b 92 ≡ z →
        B (n.GfmFootnoteDefinition its.LabelInside) (feed w.point) (here w) ≡
        label_by (with_cell b (label_cells z (feed q) q)) (here w)
    proceeds z k l m =
        seen ∙ label-proceeds (cell_here feed w b) (feed q) (here w) k l
        ∙ ap (λ (x : Bool). label_by (with_cell b (label_cells x (feed q) q)) (here w)) m

    go : (x y z : Bool) → nat_eq b 93 ≡ x → breaks_label b ≡ y → nat_eq b 92 ≡ z →
        Steps B feed (Next (n.GfmFootnoteDefinition its.LabelInside)) w (label_inside_code w (Some b)).to
        (label_inside_code w (Some b)).world
    go true y z k l m = rw k (closed_means B options feed w b _ has s is k few refl)
    go false true z k l m =
        rw (k, l)
        (passes B feed _ Nok w (refused w).world refl refl
        (seen ∙ label-breaks (cell_here feed w b) (feed q) (here w) k l))
    go false false true k l m =
        rw (k, l, m)
        (taken_means B options feed its.LabelInside its.LabelEscape w true b _ has (proceeds true k l m)
        (has.each its.LabelEscape) refl)
    go false false false k l m =
        rw (k, l, m)
        (taken_means B options feed its.LabelInside its.LabelInside w false b _ has (proceeds false k l m)
        (has.each its.LabelInside) refl)

label_escape_means : (B : Behaviour) (options : ParseOptions) (feed : Feed) (w : World) (o : Option ℕ) (x : Bool) →
    HasFootnote B options → Sees feed w → w.current ≡ o → sees_mark o ≡ x →
    Steps B feed (Next (n.GfmFootnoteDefinition its.LabelEscape)) w (label_escape_code w x).to
    (label_escape_code w x).world
label_escape_means B options feed w None true has s is e = cc
label_escape_means B options feed w None false has s is e =
    let cells : feed w.point ≡ [] = s.next ∙ ap (ahead feed w) is in
    passes B feed _ _ w w refl refl
    (has.each its.LabelEscape _ _ ∙ ap (λ (x : List Cell). in_label true x (here w)) cells ∙ label-none true (here w)
    ∙ sym (label-none false (here w)) ∙ ap (λ (x : List Cell). in_label false x (here w)) (sym cells)
    ∙ sym (has.each its.LabelInside _ _))
label_escape_means B options feed w (Some b) true has s is e =
    taken_means B options feed its.LabelEscape its.LabelInside w false b _ has
    (has.each its.LabelEscape _ _ ∙ ap (λ (x : List Cell). in_label true x (here w)) (seen-cells feed w b s is)
    ∙ label-escaped (cell_here feed w b) (feed (after w.setting w.point)) (here w) e)
    (has.each its.LabelInside) refl
label_escape_means B options feed w (Some b) false has s is e =
    let cells = seen-cells feed w b s is in
    passes B feed _ _ w w refl refl
    (has.each its.LabelEscape _ _ ∙ ap (λ (x : List Cell). in_label true x (here w)) cells
    ∙ label-unescaped (cell_here feed w b) (feed (after w.setting w.point)) (here w) e
    ∙ ap (λ (x : List Cell). in_label false x (here w)) (sym cells) ∙ sym (has.each its.LabelInside _ _))

-- After the label.

asks-colon : AsksFor colon (pair parts.DefinitionMarker) at_colon following_colon
unfolding at_colon
asks-colon = record { none = λ h. refl; some = λ c cs h. refl }

label_after_means : (B : Behaviour) (options : ParseOptions) (feed : Feed) (w : World) (x : Bool) →
    HasFootnote B options → Sees feed w → is_current colon w.current ≡ x →
    Steps B feed (Next (n.GfmFootnoteDefinition its.LabelAfter)) w (label_after_code w x).to
    (label_after_code w x).world
label_after_means B options feed w true has s e =
    asked-some B feed _ _ w (label_after_code w true).world asks-colon (has.each its.LabelAfter)
    (has.each its.MarkerAfter) s e refl
    (append_assoc w.events (enter parts.DefinitionMarker w.point ∷ [])
    (exit parts.DefinitionMarker (after w.setting w.point) ∷ [])) refl refl
label_after_means B options feed w false has s e = asked-none B feed _ w asks-colon (has.each its.LabelAfter) s e

-- After `:`.

pub following-white : (cells : List Cell) (h : Here) → begins_white cells ≡ true →
    following_colon cells h ≡ following_prefix (white_rest any_size cells) (after_columns any_size cells h)
unfolding following_colon
following-white cells h e = rw e refl

pub following-dark : (cells : List Cell) (h : Here) → begins_white cells ≡ false →
    following_colon cells h ≡ following_prefix cells h
unfolding following_colon
following-dark cells h e = rw e refl

marker_after_means : (B : Behaviour) (options : ParseOptions) (feed : Feed) (w : World) (x : Bool) →
    HasFootnote B options → Sees feed w → sees_white w.current ≡ x →
    Steps B feed (Next (n.GfmFootnoteDefinition its.MarkerAfter)) w (marker_after_code w x).to
    (marker_after_code w x).world
marker_after_means B options feed w true has s e =
    let f : Frame = record {
      ok = Next (n.GfmFootnoteDefinition its.WhitespaceAfter);
      nok = Nok;
      is_check = false;
      events_len = length w.events;
      point = w.point;
    } in
    let white : begins_white (feed w.point) ≡ true = begins-seen feed w s ∙ e in
    begins_only B feed _ _ w (marker_after_code w true).world f refl refl
    (has.each its.MarkerAfter _ _ ∙ following-white (feed w.point) (here w) white
    ∙ sym (has.each its.WhitespaceAfter _ _)
    ∙ white-tried B feed f w.events (feed w.point) (here w) 1 any_size has.white white (omega arith) (omega arith)
    refl)
marker_after_means B options feed w false has s e =
    passes B feed _ _ w w refl refl
    (has.each its.MarkerAfter _ _ ∙ following-dark (feed w.point) (here w) (begins-seen feed w s ∙ e)
    ∙ sym (has.each its.WhitespaceAfter _ _))

whitespace_after_means : (B : Behaviour) (options : ParseOptions) (feed : Feed) (w : World) →
    HasFootnote B options →
    Steps B feed (Next (n.GfmFootnoteDefinition its.WhitespaceAfter)) w
    (footnote_transition its.WhitespaceAfter w).to (footnote_transition its.WhitespaceAfter w).world
unfolding following_prefix
whitespace_after_means B options feed w has =
    moves B feed _ _ w (footnote_transition its.WhitespaceAfter w).world
    (exit parts.GfmFootnoteDefinitionPrefix w.point ∷ []) refl refl (has.each its.WhitespaceAfter _ _)

has_start : (B : Behaviour) (options : ParseOptions) → HasFootnote B options →
    HasStart B options parts.GfmFootnoteDefinition options.constructs.gfm_footnote_definition at_bracket
    (n.GfmFootnoteDefinition its.Start) (n.GfmFootnoteDefinition its.LabelBefore)
has_start B options has =
    record { white = has.white; start_is = has.each its.Start; next_is = has.each its.LabelBefore }

-- each state of a footnote definition takes one step of what it means
footnote_steps : (B : Behaviour) (feed : Feed) (state : FootnoteState) (w : World) →
    HasFootnote B w.setting.options → Sees feed w →
    FootnoteInvariant (n.GfmFootnoteDefinition state) (position w) →
    Steps B feed (Next (n.GfmFootnoteDefinition state)) w (footnote_transition state w).to
    (footnote_transition state w).world
footnote_steps B feed its.Start w has s at =
    start-steps B feed parts.GfmFootnoteDefinition _ at_bracket _ _ w _ _ (has_start B _ has) s refl refl
footnote_steps B feed its.LabelBefore w has s at = label_before_means B _ feed w _ has s refl
footnote_steps B feed its.LabelAtMarker w has s at = label_at_marker_means B _ feed w _ has s refl
footnote_steps B feed its.LabelInside w has s at = label_inside_means B _ feed w w.current has s at refl
footnote_steps B feed its.LabelEscape w has s at = label_escape_means B _ feed w w.current _ has s refl refl
footnote_steps B feed its.LabelAfter w has s at = label_after_means B _ feed w _ has s refl
footnote_steps B feed its.MarkerAfter w has s at = marker_after_means B _ feed w _ has s refl
footnote_steps B feed its.WhitespaceAfter w has s at = whitespace_after_means B _ feed w has

-- what a state that is ready has, its rule needs
ready-holds : (state : FootnoteState) (x : Position) (K : After) →
    footnote_ready (n.GfmFootnoteDefinition state) x K → FootnoteInvariant (n.GfmFootnoteDefinition state) x
ready-holds its.LabelInside x K at = at.0.size
ready-holds _ x K at = tt

-- and so where its attempts end as they have to
pub footnote_means : (B : Behaviour) (feed : Feed) (state : FootnoteState) (w : World) (K : After) →
    HasFootnote B w.setting.options → Sees feed w → footnote_ready (n.GfmFootnoteDefinition state) (position w) K →
    Steps B feed (Next (n.GfmFootnoteDefinition state)) w (footnote_transition state w).to
    (footnote_transition state w).world
footnote_means B feed state w K has s at = footnote_steps B feed state w has s (ready-holds state (position w) K at)

-- what answers as the transition of a state does means what the state means
pub footnote_rule : (state : FootnoteState) (w new : World) (to : State) → to ≡ (footnote_transition state w).to →
    new ≡ (footnote_transition state w).world → FootnoteMeans state w to new
unfolding FootnoteMeans
footnote_rule state w new to e k at B feed has s =
    steps-as B feed _ _ to w _ new e k (footnote_steps B feed state w has s at)
