-- Each state of a definition takes one step of its rule.
use Rattle.std.proofs.Common.{◌≡◌, ℕ, Bool, true, false, List, [], ◌∷◌, ◌++◌, length, take, Option, Some, None, refl}
use Rattle.std.proofs.Common.{sym, ◌∙◌, ap, ap₂, arith, append_assoc, nat_eq}
use Rattle.std.proofs.lemmas.List.{take_all}
use Rattle.md_meaning.specs.Ascii.{colon, left_bracket}
use Rattle.md_engine.specs.declared.configuration.ParseOptions.{ParseOptions}
use Rattle.md_engine.specs.declared.event.Event.{Event}
use Rattle.md_engine.specs.declared.event.Name.TheVariants.{Definition, DefinitionMarker}
use Rattle.md_engine.specs.declared.state.Name.{Name as StateName}
use Rattle.md_engine.specs.declared.state.Name.TheVariants as n
use Rattle.md_engine.specs.declared.state.definition.State.{State as DefinitionState}
use Rattle.md_engine.specs.declared.state.definition.State.TheVariants as its
use Rattle.md_engine.specs.declared.state.destination.State.TheVariants as destination
use Rattle.md_engine.specs.declared.state.label.State.TheVariants as label
use Rattle.md_engine.specs.declared.state.space_or_tab_eol.State.TheVariants as gap
use Rattle.md_engine.specs.declared.state.title.State.TheVariants as title
use Rattle.md_engine.specs.declared.state.State.{State}
use Rattle.md_engine.specs.declared.state.State.TheVariants.{Nok, Next}
use Rattle.md_engine.specs.declared.tokenizer.Frame.{Frame}
use Rattle.md_engine.specs.declared.tokenizer.Scratch.{Scratch}
use Rattle.md_engine.specs.Meaning.{Accepts, Behaviour, Cell, Fails, Feed, Here, Outcome, Refuses, Steps, proceeds}
use Rattle.md_engine.specs.Meaning.{here, resume}
use Rattle.md_engine.specs.Scheme.{After, position}
use Rattle.md_engine.specs.World.{Flags, World, after}
use Rattle.md_engine.specs.Sees.{Sees, ahead, cell_here}
use Rattle.md_engine.proofs.StepOf.{begins, begins_only, moves, passes, steps-as}
use Rattle.md_link_definitions.specs.Definition.{before_code, following_white, definition_ready, definition_transition}
use Rattle.md_link_definitions.specs.Definition.{end_code, label_after_code, refused, sees_gap, start_code}
use Rattle.md_link_definitions.specs.Definition.{title_before_code, title_end_code, tries_part}
use Rattle.md_link_definitions.specs.DefinitionRule.{DefinitionMeans, HasDefinition, at_end, at_title, at_title_end}
use Rattle.md_link_definitions.specs.DefinitionRule.{before_destination, before_label, before_title, after_destination}
use Rattle.md_link_definitions.specs.DefinitionRule.{after_label, after_marker, after_parts, after_title, definition_at}
use Rattle.md_link_definitions.specs.DefinitionRule.{definition_behaves, tried}
use Rattle.md_link_definitions.specs.DestinationRule.{destination_at}
use Rattle.md_link_definitions.specs.GapRule.{begins_gap, gap_at, past_white}
use Rattle.md_link_definitions.specs.LabelRule.{label_at}
use Rattle.md_link_definitions.specs.TitleRule.{title_at}
use Rattle.md_link_definitions.proofs.GapMeaning.{past-none, past-some}
use Rattle.md_link_definitions.proofs.GapWhole.{gap-refused}
use Rattle.md_events.specs.Ahead.{begins_white, white_rest}
use Rattle.md_events.specs.Events.Nested.{enter, exit, pair}
use Rattle.md_events.specs.Look.{first_seen}
use Rattle.md_events.specs.Spaces.{IsRest, any_size, ends_line, is_current, sees_white}
use Rattle.md_events.specs.Transition.{entered}
use Rattle.md_events.proofs.AheadLemmas.{none-rest}
use Rattle.md_events.proofs.LookLemmas.{first-seen}
use Rattle.md_events.proofs.WhiteMeaning.{begins-seen, white-tried}

-- Attempts.

-- one that begins here, where a world is
abbrev frame_here : State → State → World → Frame
frame_here ok nok w = record { ok = ok; nok = nok; is_check = false; events_len = length w.events; point = w.point }

-- what it becomes
tried-resumed : (B : Behaviour) (feed : Feed) (w : World) (ok nok : State) (o : Outcome)
    (onward : List Cell → Here → Outcome) (otherwise : Scratch → Flags → Outcome) →
    ((cells : List Cell) (h : Here) → proceeds B ok cells h ≡ onward cells h) →
    ((s : Scratch) (g : Flags) →
    proceeds B nok (feed w.point) (record (here w) { scratch = s; flags = g }) ≡ otherwise s g) →
    tried o onward otherwise ≡ resume B feed w.events (frame_here ok nok w) o
tried-resumed B feed w ok nok (Accepts h rest) onward otherwise a b = sym (a rest h)
tried-resumed B feed w ok nok (Refuses s g) onward otherwise a b =
    let back : take (length w.events) w.events ≡ w.events = take_all (length w.events) w.events (omega arith) in
    sym
    (ap
    (λ (x : List Event). proceeds B nok (feed w.point) (record (here w) { events = x; scratch = s; flags = g })) back
    ∙ b s g)
tried-resumed B feed w ok nok Fails onward otherwise a b = refl

-- a state that tries a part here
part_means : (B : Behaviour) (feed : Feed) (options : ParseOptions) (state : DefinitionState) (first : StateName)
    (ok nok : State) (w : World) (onward : List Cell → Here → Outcome) (otherwise : Scratch → Flags → Outcome) →
    HasDefinition B options →
    definition_behaves options state (feed w.point) (here w) ≡
    tried (B first (feed w.point) (here w)) onward otherwise →
    ((cells : List Cell) (h : Here) → proceeds B ok cells h ≡ onward cells h) →
    ((s : Scratch) (g : Flags) →
    proceeds B nok (feed w.point) (record (here w) { scratch = s; flags = g }) ≡ otherwise s g) →
    Steps B feed (Next (n.Definition state)) w (tries_part w first ok nok).to (tries_part w first ok nok).world
part_means B feed options state first ok nok w onward otherwise has same a b =
    begins_only B feed _ _ w (tries_part w first ok nok).world (frame_here ok nok w) refl refl
    (has.each state _ _ ∙ same
    ∙ tried-resumed B feed w ok nok (B first (feed w.point) (here w)) onward otherwise a b)

-- a state that takes whitespace, if some is here
white_means : (B : Behaviour) (feed : Feed) (options : ParseOptions) (state next : DefinitionState) (w : World)
    (x : Bool) →
    HasDefinition B options → Sees feed w → IsRest w.scratch → sees_white w.current ≡ x →
    ((cells : List Cell) (h : Here) →
    definition_behaves options state cells h ≡
    definition_behaves options next (white_rest any_size cells) (past_white cells h)) →
    Steps B feed (Next (n.Definition state)) w (following_white w next x).to (following_white w next x).world
white_means B feed options state next w true has s r e same =
    let white : begins_white (feed w.point) ≡ true = begins-seen feed w s ∙ e in
    let frame : Frame = frame_here (Next (n.Definition next)) Nok w in
    begins_only B feed _ _ w (following_white w next true).world frame refl refl
    (has.each state _ _ ∙ same (feed w.point) (here w)
    ∙ ap (definition_behaves options next (white_rest any_size (feed w.point)))
    (past-some (feed w.point) (here w) r white)
    ∙ sym (has.each next _ _)
    ∙ white-tried B feed frame w.events (feed w.point) (here w) 1 any_size has.gap.white white (omega arith)
    (omega arith) refl)
white_means B feed options state next w false has s r e same =
    let none : begins_white (feed w.point) ≡ false = begins-seen feed w s ∙ e in
    passes B feed _ _ w w refl refl
    (has.each state _ _ ∙ same (feed w.point) (here w)
    ∙ ap₂ (definition_behaves options next) (none-rest any_size (feed w.point) none)
    (past-none (feed w.point) (here w) none)
    ∙ sym (has.each next _ _))

-- a state that refuses here
refused_means : (B : Behaviour) (feed : Feed) (options : ParseOptions) (state : DefinitionState) (w : World) →
    HasDefinition B options → definition_behaves options state (feed w.point) (here w) ≡ Refuses w.scratch w.flags →
    Steps B feed (Next (n.Definition state)) w (refused w).to (refused w).world
refused_means B feed options state w has same = passes B feed _ Nok w w refl refl (has.each state _ _ ∙ same)

-- Before a definition.

start-on : (options : ParseOptions) (cells : List Cell) (h : Here) → options.constructs.definition ≡ true →
    definition_at options cells h ≡ before_label (white_rest any_size cells) (past_white cells h)
unfolding definition_at
start-on options cells h e = rw e refl

start-off : (options : ParseOptions) (cells : List Cell) (h : Here) → options.constructs.definition ≡ false →
    definition_at options cells h ≡ Refuses h.scratch h.flags
unfolding definition_at
start-off options cells h e = rw e refl

-- the state there
start_means : (B : Behaviour) (feed : Feed) (options : ParseOptions) (w : World) (on white : Bool) →
    HasDefinition B options → Sees feed w → IsRest w.scratch → options.constructs.definition ≡ on →
    sees_white w.current ≡ white →
    Steps B feed (Next (n.Definition its.Start)) w (start_code w on white).to (start_code w on white).world
start_means B feed options w true white has s r e k =
    white_means B feed options its.Start its.Before w white has s r k (λ cells h. start-on options cells h e)
start_means B feed options w false white has s r e k =
    refused_means B feed options its.Start w has (start-off options (feed w.point) (here w) e)

-- At the `[`.

label-tried : (cells : List Cell) (h : Here) →
    before_label cells h ≡
    tried (label_at cells (record h { events = h.events ++ enter Definition h.point ∷ [] })) after_label Refuses
unfolding before_label
label-tried cells h = refl

-- no label is elsewhere
label-none : (feed : Feed) (w : World) (h : Here) (o : Option ℕ) → is_current left_bracket o ≡ false →
    label_at (ahead feed w o) h ≡ Refuses h.scratch h.flags
unfolding label_at
label-none feed w h None e = refl
label-none feed w h (Some b) e = rw e refl

-- the state there
before_means : (B : Behaviour) (feed : Feed) (options : ParseOptions) (w : World) (x : Bool) →
    HasDefinition B options → Sees feed w → is_current left_bracket w.current ≡ x →
    Steps B feed (Next (n.Definition its.Before)) w (before_code w x).to (before_code w x).world
before_means B feed options w true has s e =
    let v : World = entered w Definition in
    let ok : State = Next (n.Definition its.LabelAfter) in
    let nok : State = Next (n.Definition its.LabelNok) in
    begins B feed _ _ w (before_code w true).world (enter Definition w.point ∷ []) (frame_here ok nok v) refl refl
    (has.each its.Before _ _ ∙ label-tried (feed w.point) (here w)
    ∙ ap (λ (o : Outcome). tried o after_label Refuses) (sym (has.label.each label.Start _ _))
    ∙ tried-resumed B feed v ok nok (B (n.Label label.Start) (feed w.point) (here v)) after_label Refuses
    (λ cells h. has.each its.LabelAfter cells h) (λ t g. has.each its.LabelNok _ _))
before_means B feed options w false has s e =
    refused_means B feed options its.Before w has
    (label-tried (feed w.point) (here w)
    ∙ ap (λ (o : Outcome). tried o after_label Refuses)
    (ap (λ (x : List Cell). label_at x (here (entered w Definition))) s.next
    ∙ label-none feed w (here (entered w Definition)) w.current e))

-- After the label.

colon-taken : (c : Cell) (cs : List Cell) (h : Here) → nat_eq c.byte colon ≡ true →
    after_label (c ∷ cs) h ≡
    after_marker cs (record h { events = h.events ++ pair DefinitionMarker h.point c.after; point = c.after })
unfolding after_label
colon-taken c cs h e = rw e refl

colon-none : (feed : Feed) (w : World) (h : Here) (o : Option ℕ) → is_current colon o ≡ false →
    after_label (ahead feed w o) h ≡ Refuses h.scratch h.flags
unfolding after_label
colon-none feed w h None e = refl
colon-none feed w h (Some b) e = rw e refl

-- the state there
label_after_means : (B : Behaviour) (feed : Feed) (options : ParseOptions) (w : World) (o : Option ℕ) (x : Bool) →
    HasDefinition B options → feed w.point ≡ ahead feed w o → is_current colon o ≡ x →
    Steps B feed (Next (n.Definition its.LabelAfter)) w (label_after_code w x).to (label_after_code w x).world
label_after_means B feed options w o false has next e =
    refused_means B feed options its.LabelAfter w has
    (ap (λ (x : List Cell). after_label x (here w)) next ∙ colon-none feed w (here w) o e)
label_after_means B feed options w None true has next e = cc
label_after_means B feed options w (Some b) true has next e =
    let new : World = (label_after_code w true).world in
    let left : List Cell = feed (after w.setting w.point) in
    let added : List Event = pair DefinitionMarker w.point (after w.setting w.point) in
    let same : new.events ≡ w.events ++ added = simp append_assoc in
    moves B feed _ _ w new added refl same
    (has.each its.LabelAfter _ _ ∙ ap (λ (x : List Cell). after_label x (here w)) next
    ∙ colon-taken (cell_here feed w b) left (here w) e
    ∙ ap (λ (es : List Event). after_marker left (record (here new) { events = es })) (sym same)
    ∙ sym (has.each its.MarkerAfter _ _))

-- The other parts.

-- a gap, and the destination
marker-tried : (cells : List Cell) (h : Here) →
    after_marker cells h ≡
    tried (gap_at cells h) before_destination
    (λ s g. before_destination cells (record h { scratch = s; flags = g }))
unfolding after_marker
marker-tried cells h = refl

destination-tried : (cells : List Cell) (h : Here) →
    before_destination cells h ≡ tried (destination_at cells h) after_destination Refuses
unfolding before_destination
destination-tried cells h = refl

-- a title with the gap before it
following-tried : (cells : List Cell) (h : Here) →
    after_destination cells h ≡
    tried (before_title cells h) after_parts (λ s g. after_parts cells (record h { scratch = s; flags = g }))
unfolding after_destination
following-tried cells h = refl

gap-tried : (cells : List Cell) (h : Here) → before_title cells h ≡ tried (gap_at cells h) at_title Refuses
unfolding before_title
gap-tried cells h = refl

title-tried : (cells : List Cell) (h : Here) → at_title cells h ≡ tried (title_at cells h) after_title Refuses
unfolding at_title
title-tried cells h = refl

-- what is seen of a gap
gap-seen : (feed : Feed) (w : World) → Sees feed w → begins_gap (feed w.point) ≡ sees_gap w.current
gap-seen feed w s = rw s.next (go w.current)
  where
    go : (o : Option ℕ) → begins_gap (ahead feed w o) ≡ sees_gap o
    go None = refl
    go (Some b) = refl

-- the state before it
title_before_means : (B : Behaviour) (feed : Feed) (options : ParseOptions) (w : World) (x : Bool) →
    HasDefinition B options → Sees feed w → IsRest w.scratch → sees_gap w.current ≡ x →
    Steps B feed (Next (n.Definition its.TitleBefore)) w (title_before_code w x).to (title_before_code w x).world
title_before_means B feed options w true has s r e =
    part_means B feed options its.TitleBefore (n.SpaceOrTabEol gap.Start) (Next (n.Definition its.TitleBeforeMarker))
    Nok w at_title Refuses has
    (gap-tried (feed w.point) (here w)
    ∙ ap (λ (o : Outcome). tried o at_title Refuses) (sym (has.gap.each gap.Start _ _)))
    (λ cells h. has.each its.TitleBeforeMarker cells h) (λ t g. refl)
title_before_means B feed options w false has s r e =
    refused_means B feed options its.TitleBefore w has
    (gap-tried (feed w.point) (here w)
    ∙ ap (λ (o : Outcome). tried o at_title Refuses)
    (gap-refused (feed w.point) (here w) r (gap-seen feed w s ∙ e)))

-- Whitespace, and the end of the line.

parts-white : (cells : List Cell) (h : Here) →
    after_parts cells h ≡ at_end (white_rest any_size cells) (past_white cells h)
unfolding after_parts
parts-white cells h = refl

title-white : (cells : List Cell) (h : Here) →
    after_title cells h ≡ at_title_end (white_rest any_size cells) (past_white cells h)
unfolding after_title
title-white cells h = refl

title-ends : (cells : List Cell) (h : Here) → ends_line (first_seen cells) ≡ true →
    at_title_end cells h ≡ Accepts h cells
unfolding at_title_end
title-ends cells h e = rw e refl

title-proceeds : (cells : List Cell) (h : Here) → ends_line (first_seen cells) ≡ false →
    at_title_end cells h ≡ Refuses h.scratch h.flags
unfolding at_title_end
title-proceeds cells h e = rw e refl

-- the state after a title
title_end_means : (B : Behaviour) (feed : Feed) (options : ParseOptions) (w : World) (x : Bool) →
    HasDefinition B options → Sees feed w → ends_line w.current ≡ x →
    Steps B feed (Next (n.Definition its.TitleAfterOptionalWhitespace)) w (title_end_code w x).to
    (title_end_code w x).world
title_end_means B feed options w true has s e =
    passes B feed _ _ w w refl refl
    (has.each its.TitleAfterOptionalWhitespace _ _
    ∙ title-ends (feed w.point) (here w) (ap ends_line (first-seen feed w s) ∙ e))
title_end_means B feed options w false has s e =
    refused_means B feed options its.TitleAfterOptionalWhitespace w has
    (title-proceeds (feed w.point) (here w) (ap ends_line (first-seen feed w s) ∙ e))

all-ends : (cells : List Cell) (h : Here) → ends_line (first_seen cells) ≡ true →
    at_end cells h ≡ Accepts (record h { events = h.events ++ exit Definition h.point ∷ [] }) cells
unfolding at_end
all-ends cells h e = rw e refl

all-proceeds : (cells : List Cell) (h : Here) → ends_line (first_seen cells) ≡ false →
    at_end cells h ≡ Refuses h.scratch h.flags
unfolding at_end
all-proceeds cells h e = rw e refl

-- and the last one
end_means : (B : Behaviour) (feed : Feed) (options : ParseOptions) (w : World) (x : Bool) →
    HasDefinition B options → Sees feed w → ends_line w.current ≡ x →
    Steps B feed (Next (n.Definition its.AfterWhitespace)) w (end_code w x).to (end_code w x).world
end_means B feed options w true has s e =
    moves B feed _ _ w (end_code w true).world (exit Definition w.point ∷ []) refl refl
    (has.each its.AfterWhitespace _ _
    ∙ all-ends (feed w.point) (here w) (ap ends_line (first-seen feed w s) ∙ e))
end_means B feed options w false has s e =
    refused_means B feed options its.AfterWhitespace w has
    (all-proceeds (feed w.point) (here w) (ap ends_line (first-seen feed w s) ∙ e))

-- All of them: each state takes one step of what it means.
definition_steps : (B : Behaviour) (feed : Feed) (state : DefinitionState) (w : World) →
    HasDefinition B w.setting.options →
    Sees feed w → IsRest w.scratch →
    Steps B feed (Next (n.Definition state)) w (definition_transition state w).to (definition_transition state w).world
definition_steps B feed its.Start w has s at = start_means B feed w.setting.options w _ _ has s at refl refl
definition_steps B feed its.Before w has s at = before_means B feed w.setting.options w _ has s refl
definition_steps B feed its.LabelAfter w has s at =
    label_after_means B feed w.setting.options w w.current _ has s.next refl
definition_steps B feed its.LabelNok w has s at = refused_means B feed w.setting.options its.LabelNok w has refl
definition_steps B feed its.MarkerAfter w has s at =
    part_means B feed w.setting.options its.MarkerAfter (n.SpaceOrTabEol gap.Start)
    (Next (n.Definition its.DestinationBefore)) (Next (n.Definition its.DestinationBefore)) w before_destination
    (λ t g. before_destination (feed w.point) (record (here w) { scratch = t; flags = g })) has
    (marker-tried (feed w.point) (here w)
    ∙ ap
    (λ (o : Outcome).
    tried o before_destination
    (λ t g. before_destination (feed w.point) (record (here w) { scratch = t; flags = g })))
    (sym (has.gap.each gap.Start _ _)))
    (λ cells h. has.each its.DestinationBefore cells h) (λ t g. has.each its.DestinationBefore _ _)
definition_steps B feed its.DestinationBefore w has s at =
    part_means B feed w.setting.options its.DestinationBefore (n.Destination destination.Start)
    (Next (n.Definition its.DestinationAfter)) (Next (n.Definition its.DestinationMissing)) w after_destination Refuses
    has
    (destination-tried (feed w.point) (here w)
    ∙ ap (λ (o : Outcome). tried o after_destination Refuses) (sym (has.destination.each destination.Start _ _)))
    (λ cells h. has.each its.DestinationAfter cells h) (λ t g. has.each its.DestinationMissing _ _)
definition_steps B feed its.DestinationAfter w has s at =
    part_means B feed w.setting.options its.DestinationAfter (n.Definition its.TitleBefore)
    (Next (n.Definition its.After)) (Next (n.Definition its.After)) w after_parts
    (λ t g. after_parts (feed w.point) (record (here w) { scratch = t; flags = g })) has
    (following-tried (feed w.point) (here w)
    ∙ ap
    (λ (o : Outcome).
    tried o after_parts (λ t g. after_parts (feed w.point) (record (here w) { scratch = t; flags = g })))
    (sym (has.each its.TitleBefore _ _)))
    (λ cells h. has.each its.After cells h) (λ t g. has.each its.After _ _)
definition_steps B feed its.DestinationMissing w has s at =
    refused_means B feed w.setting.options its.DestinationMissing w has refl
definition_steps B feed its.After w has s at =
    white_means B feed w.setting.options its.After its.AfterWhitespace w _ has s at refl parts-white
definition_steps B feed its.AfterWhitespace w has s at = end_means B feed w.setting.options w _ has s refl
definition_steps B feed its.TitleBefore w has s at =
    title_before_means B feed w.setting.options w _ has s at refl
definition_steps B feed its.TitleBeforeMarker w has s at =
    part_means B feed w.setting.options its.TitleBeforeMarker (n.Title title.Start) (Next (n.Definition its.TitleAfter))
    Nok w after_title Refuses has
    (title-tried (feed w.point) (here w)
    ∙ ap (λ (o : Outcome). tried o after_title Refuses) (sym (has.title.each title.Start _ _)))
    (λ cells h. has.each its.TitleAfter cells h) (λ t g. refl)
definition_steps B feed its.TitleAfter w has s at =
    white_means B feed w.setting.options its.TitleAfter its.TitleAfterOptionalWhitespace w _ has s at refl title-white
definition_steps B feed its.TitleAfterOptionalWhitespace w has s at =
    title_end_means B feed w.setting.options w _ has s refl

-- and so where its attempts end as they have to
pub definition_means : (B : Behaviour) (feed : Feed) (state : DefinitionState) (w : World) (K : After) →
    HasDefinition B w.setting.options → Sees feed w → definition_ready (n.Definition state) (position w) K →
    Steps B feed (Next (n.Definition state)) w (definition_transition state w).to (definition_transition state w).world
definition_means B feed state w K has s at = definition_steps B feed state w has s at.0

-- what answers as the transition of a state does means what the state means
pub definition_rule : (state : DefinitionState) (w new : World) (to : State) → to ≡ (definition_transition state w).to →
    new ≡ (definition_transition state w).world → DefinitionMeans state w to new
unfolding DefinitionMeans
definition_rule state w new to e k at B feed has s =
    steps-as B feed _ _ to w _ new e k (definition_steps B feed state w has s at)
