-- Each state before a paragraph takes one step of its rule.
use Rattle.std.proofs.Common.{◌≡◌, ℕ, Bool, true, false, cond, nat_eq, List, [], ◌∷◌, ◌++◌, length, take, Option, Some}
use Rattle.std.proofs.Common.{None, refl, sym, ◌∙◌, ap, ap₂, append_assoc, append-nil, arith}
use Rattle.std.proofs.lemmas.List.{take_all}
use Rattle.md_meaning.specs.Ascii.{line_feed}
use Rattle.md_engine.specs.declared.configuration.ParseOptions.{ParseOptions}
use Rattle.md_engine.specs.declared.event.Event.{Event}
use Rattle.md_engine.specs.declared.event.Name.TheVariants.{LineEnding}
use Rattle.md_engine.specs.declared.event.Point.{Point}
use Rattle.md_engine.specs.declared.state.Name.TheVariants as n
use Rattle.md_engine.specs.declared.state.content.State.{State as ContentState}
use Rattle.md_engine.specs.declared.state.content.State.TheVariants as its
use Rattle.md_engine.specs.declared.state.definition.State.TheVariants as definition
use Rattle.md_engine.specs.declared.state.paragraph.State.TheVariants as paragraph
use Rattle.md_engine.specs.declared.state.State.{State}
use Rattle.md_engine.specs.declared.state.State.TheVariants.{Nok, Next}
use Rattle.md_engine.specs.declared.tokenizer.Frame.{Frame}
use Rattle.md_engine.specs.Meaning.{Accepts, Behaviour, Cell, Feed, Here, Refuses, Steps, here, resume}
use Rattle.md_engine.specs.Scheme.{After, position}
use Rattle.md_engine.specs.World.{World, after}
use Rattle.md_engine.specs.Sees.{Sees, ahead, cell_here}
use Rattle.md_engine.proofs.StepOf.{begins_only, moves, passes, steps-as}
use Rattle.md_content.specs.ContentRule.{following_definition, content_by, content_over, definition_in}
use Rattle.md_content.specs.Definitions.{definition_after_code, definition_before_code, definitions_ready}
use Rattle.md_content.specs.Definitions.{definitions_transition, may_define}
use Rattle.md_content.specs.DefinitionsRule.{DefinitionsMeans, HasDefinitions, after_definition, content_at}
use Rattle.md_content.specs.ParagraphRule.{inside_paragraph, paragraph_at, paragraph_line, paragraph_over}
use Rattle.md_content.proofs.ContentRuleLemmas.{content-unfolds, in-none, in-takes}
use Rattle.md_content.proofs.DefinitionTakes.{takes-end}
use Rattle.md_link_definitions.specs.DefinitionRule.{DefinitionParts, definition_end, definition_events}
use Rattle.md_link_definitions.specs.DefinitionRule.{definition_rest}
use Rattle.md_link_definitions.proofs.DefinitionWhole.{definition-whole, taken_definition}
use Rattle.md_events.specs.Ahead.{point_after}
use Rattle.md_events.specs.Events.Nested.{pair}
use Rattle.md_events.specs.Spaces.{IsRest}
use Rattle.md_events.proofs.LookLemmas.{first-seen}

-- a paragraph takes all
pub paragraph-whole : (cells : List Cell) (h : Here) →
    paragraph_at cells h ≡
    Accepts (record h { events = h.events ++ paragraph_over cells h.point; point = point_after cells h.point }) []
unfolding paragraph_at paragraph_line inside_paragraph
paragraph-whole cells h = ap (λ (es : List Event). Accepts (record h { events = es; point = point_after cells h.point })
    []) (simp append_assoc)

-- so content is a paragraph where no definition is
content-none : (options : ParseOptions) (cells : List Cell) (h : Here) → definition_in options cells ≡ None →
    content_at options cells h ≡ paragraph_at cells h
unfolding content_at
content-none options cells h e =
    let is : content_over options cells h.point ≡ paragraph_over cells h.point = content-unfolds options cells h.point
    ∙ ap (λ (o : Option DefinitionParts). content_by o (content_over options) cells h.point) e in
    ap
    (λ (es : List Event). Accepts (record h { events = h.events ++ es; point = point_after cells h.point }) []) is
    ∙ sym (paragraph-whole cells h)

-- and else what follows the definition
content-some : (options : ParseOptions) (cells : List Cell) (h : Here) (d : DefinitionParts) →
    definition_in options cells ≡ Some d →
    content_at options cells h ≡
    after_definition options (definition_rest d)
    (record h { events = h.events ++ definition_events d h.point; point = definition_end d })
unfolding content_at after_definition
content-some options cells h d e =
    let takes = in-takes options cells h.point d e in
    let following : List Event = following_definition (content_over options) (definition_rest d) (definition_end d) in
    let is : content_over options cells h.point ≡ definition_events d h.point ++ following =
    content-unfolds options cells h.point
    ∙ ap (λ (o : Option DefinitionParts). content_by o (content_over options) cells h.point) e in
    ap₂ (λ (es : List Event) (p : Point). Accepts (record h { events = es; point = p }) [])
    (ap (λ (es : List Event). h.events ++ es) is ∙ sym (append_assoc h.events (definition_events d h.point) following))
    (takes-end cells h.point (definition_rest d) (definition_end d) takes.takes)
    ∙ ap
    (λ (x : Bool).
    cond x
    (Accepts
    (record h {
      events = (h.events ++ definition_events d h.point) ++ following;
      point = point_after (definition_rest d) (definition_end d);
    })
    [])
    (Refuses h.scratch h.flags))
    (sym takes.ends)

-- Where a definition is tried.

-- the attempt
abbrev frame_here : World → Frame
frame_here w = record {
  ok = Next (n.Content its.DefinitionAfter);
  nok = Next (n.Paragraph paragraph.Start);
  is_check = false;
  events_len = length w.events;
  point = w.point;
}

before-resumed : (B : Behaviour) (feed : Feed) (options : ParseOptions) (w : World) (o : Option DefinitionParts) →
    HasDefinitions B options → definition_in options (feed w.point) ≡ o →
    content_at options (feed w.point) (here w) ≡
    resume B feed w.events (frame_here w) (taken_definition o (here w))
before-resumed B feed options w None has e =
    let back : take (length w.events) w.events ≡ w.events = take_all (length w.events) w.events (omega arith) in
    content-none options (feed w.point) (here w) e ∙ sym (has.paragraph.each paragraph.Start _ _)
    ∙ ap
    (λ (es : List Event). B (n.Paragraph paragraph.Start) (feed w.point) (record (here w) { events = es })) (sym back)
before-resumed B feed options w (Some d) has e =
    content-some options (feed w.point) (here w) d e ∙ sym (has.each its.DefinitionAfter _ _)

before_means : (B : Behaviour) (feed : Feed) (options : ParseOptions) (w : World) (x : Bool) →
    HasDefinitions B options → Sees feed w → IsRest w.scratch → may_define w.current ≡ x →
    Steps B feed (Next (n.Content its.DefinitionBefore)) w (definition_before_code w x).to
    (definition_before_code w x).world
before_means B feed options w true has s r e =
    begins_only B feed _ _ w (definition_before_code w true).world (frame_here w) refl refl
    (has.each its.DefinitionBefore _ _
    ∙ before-resumed B feed options w (definition_in options (feed w.point)) has refl
    ∙ ap (resume B feed w.events (frame_here w))
    (sym (definition-whole options (feed w.point) (here w) r) ∙ sym (has.definition.each definition.Start _ _)))
before_means B feed options w false has s r e =
    passes B feed _ _ w w refl refl
    (has.each its.DefinitionBefore _ _
    ∙ content-none options (feed w.point) (here w)
    (in-none options (feed w.point) (ap may_define (first-seen feed w s) ∙ e))
    ∙ sym (has.paragraph.each paragraph.Start _ _))

-- After a definition.

after-none : (options : ParseOptions) (h : Here) → after_definition options [] h ≡ Accepts h []
unfolding after_definition
after-none options h = ap (λ (es : List Event). Accepts (record h { events = es }) []) (append-nil h.events)

after-ending : (options : ParseOptions) (c : Cell) (cs : List Cell) (h : Here) → nat_eq c.byte line_feed ≡ true →
    after_definition options (c ∷ cs) h ≡
    content_at options cs (record h { events = h.events ++ pair LineEnding h.point c.after; point = c.after })
unfolding after_definition content_at
after-ending options c cs h e =
    rw e
    (ap (λ (es : List Event). Accepts (record h { events = es; point = point_after cs c.after }) [])
    (sym (append_assoc h.events (pair LineEnding h.point c.after) (content_over options cs c.after))))

after-other : (options : ParseOptions) (c : Cell) (cs : List Cell) (h : Here) → nat_eq c.byte line_feed ≡ false →
    after_definition options (c ∷ cs) h ≡ Refuses h.scratch h.flags
unfolding after_definition
after-other options c cs h e = rw e refl

after_means : (B : Behaviour) (feed : Feed) (options : ParseOptions) (w : World) (o : Option ℕ) →
    HasDefinitions B options → feed w.point ≡ ahead feed w o →
    Steps B feed (Next (n.Content its.DefinitionAfter)) w (definition_after_code w o).to
    (definition_after_code w o).world
after_means B feed options w None has e =
    passes B feed _ _ w w refl refl
    (has.each its.DefinitionAfter _ _ ∙ ap (λ (x : List Cell). after_definition options x (here w)) e
    ∙ after-none options (here w) ∙ ap (Accepts (here w)) (sym e))
after_means B feed options w (Some b) has e = go (nat_eq b line_feed) refl
  where
    c : Cell
    c = cell_here feed w b

    cs : List Cell
    cs = feed (after w.setting w.point)

    go : (x : Bool) → nat_eq b line_feed ≡ x →
        Steps B feed (Next (n.Content its.DefinitionAfter)) w (definition_after_code w (Some b)).to
        (definition_after_code w (Some b)).world
    go true k =
        rw k (moves B feed _ (Next (n.Content its.DefinitionBefore)) w _
        (pair LineEnding w.point (after w.setting w.point)) refl
        (append_assoc w.events _ _)
        (has.each its.DefinitionAfter _ _ ∙ ap (λ (x : List Cell). after_definition options x (here w)) e
        ∙ after-ending options c cs (here w) k
        ∙ ap (λ (es : List Event). content_at options cs (record (here w) { events = es; point = c.after }))
        (sym (append_assoc w.events _ _))
        ∙ sym (has.each its.DefinitionBefore _ _)))
    go false k =
        rw k (passes B feed _ Nok w w refl refl
        (has.each its.DefinitionAfter _ _ ∙ ap (λ (x : List Cell). after_definition options x (here w)) e
        ∙ after-other options c cs (here w) k))

-- each state before a paragraph takes one step of what it means
definitions_steps : (B : Behaviour) (feed : Feed) (state : ContentState) (w : World) →
    HasDefinitions B w.setting.options → Sees feed w → IsRest w.scratch →
    Steps B feed (Next (n.Content state)) w (definitions_transition state w).to (definitions_transition state w).world
definitions_steps B feed its.DefinitionBefore w has s at =
    before_means B feed w.setting.options w _ has s at refl
definitions_steps B feed its.DefinitionAfter w has s at = after_means B feed w.setting.options w w.current has s.next
definitions_steps B feed its.ChunkStart w has s at = passes B feed _ Nok w w refl refl (has.each its.ChunkStart _ _)
definitions_steps B feed its.ChunkInside w has s at = passes B feed _ Nok w w refl refl (has.each its.ChunkInside _ _)

-- and so where its attempts end as they have to
pub definitions_means : (B : Behaviour) (feed : Feed) (state : ContentState) (w : World) (K : After) →
    HasDefinitions B w.setting.options → Sees feed w → definitions_ready (n.Content state) (position w) K →
    Steps B feed (Next (n.Content state)) w (definitions_transition state w).to (definitions_transition state w).world
definitions_means B feed its.DefinitionBefore w K has s at =
    definitions_steps B feed its.DefinitionBefore w has s at.0
definitions_means B feed its.DefinitionAfter w K has s at =
    definitions_steps B feed its.DefinitionAfter w has s at.0
definitions_means B feed its.ChunkStart w K has s at = absurd at
definitions_means B feed its.ChunkInside w K has s at = absurd at

-- what answers as the transition of a state does means what the state means
pub definitions_rule : (state : ContentState) (w new : World) (to : State) → to ≡ (definitions_transition state w).to →
    new ≡ (definitions_transition state w).world → DefinitionsMeans state w to new
unfolding DefinitionsMeans
definitions_rule state w new to e k at B feed has s =
    steps-as B feed _ _ to w _ new e k (definitions_steps B feed state w has s at)
