-- Each state of a paragraph takes one step of its rule.
use Rattle.std.proofs.Common.{◌≡◌, ℕ, Bool, true, false, nat_eq, List, [], ◌∷◌, ◌++◌, Option, Some, None, refl, sym}
use Rattle.std.proofs.Common.{◌∙◌, ap, append_assoc}
use Rattle.md_engine.specs.declared.event.Name.TheVariants as parts
use Rattle.md_engine.specs.declared.state.Name.TheVariants as n
use Rattle.md_engine.specs.declared.state.paragraph.State.{State as ParagraphState}
use Rattle.md_engine.specs.declared.state.paragraph.State.TheVariants as paragraph
use Rattle.md_engine.specs.declared.state.State.{State}
use Rattle.md_engine.specs.declared.state.State.TheVariants.{Next}
use Rattle.md_engine.specs.Meaning.{Accepts, Behaviour, Cell, Feed, Here, Steps, here}
use Rattle.md_engine.specs.World.{World, after}
use Rattle.md_engine.specs.Sees.{Sees, ahead, cell_here}
use Rattle.md_engine.proofs.StepOf.{moves, passes, steps-as}
use Rattle.md_content.specs.Paragraph.{inside_code, line_start_transition, paragraph_transition, start_transition}
use Rattle.md_content.specs.Paragraph.{text_link}
use Rattle.md_content.specs.ParagraphRule.{HasParagraph, ParagraphMeans, inside_paragraph, paragraph_at, paragraph_line}
use Rattle.md_events.specs.Events.Nested.{enter, enter_link, exit}

paragraph_start_means : (B : Behaviour) (feed : Feed) (w : World) → HasParagraph B →
    Steps B feed (Next (n.Paragraph paragraph.Start)) w (start_transition w).to (start_transition w).world
unfolding paragraph_at
paragraph_start_means B feed w has =
    moves B feed _ _ w (start_transition w).world (enter parts.Paragraph w.point ∷ []) refl refl
    (has.each paragraph.Start _ _ ∙ sym (has.each paragraph.LineStart _ _))

paragraph_line_means : (B : Behaviour) (feed : Feed) (w : World) → HasParagraph B →
    Steps B feed (Next (n.Paragraph paragraph.LineStart)) w (line_start_transition w).to (line_start_transition w).world
unfolding paragraph_line
paragraph_line_means B feed w has =
    moves B feed _ _ w (line_start_transition w).world (enter_link parts.Data w.point text_link ∷ []) refl refl
    (has.each paragraph.LineStart _ _ ∙ sym (has.each paragraph.Inside _ _))

text-none : (h : Here) →
    inside_paragraph [] h ≡
    Accepts (record h { events = h.events ++ exit parts.Data h.point ∷ [] ++ exit parts.Paragraph h.point ∷ [] }) []
unfolding inside_paragraph
text-none h = refl

text-ending : (c : Cell) (cs : List Cell) (h : Here) → nat_eq c.byte 10 ≡ true →
    inside_paragraph (c ∷ cs) h ≡
    paragraph_line cs (record h { events = h.events ++ exit parts.Data c.after ∷ []; point = c.after })
unfolding inside_paragraph paragraph_line
text-ending c cs h e = rw e (simp append_assoc)

text-more : (c : Cell) (cs : List Cell) (h : Here) → nat_eq c.byte 10 ≡ false →
    inside_paragraph (c ∷ cs) h ≡ inside_paragraph cs (record h { point = c.after })
unfolding inside_paragraph
text-more c cs h e = rw e refl

paragraph_inside_means : (B : Behaviour) (feed : Feed) (w : World) → HasParagraph B → Sees feed w →
    Steps B feed (Next (n.Paragraph paragraph.Inside)) w (inside_code w w.current).to (inside_code w w.current).world
paragraph_inside_means B feed w has s = go w.current s.next
  where
    go : (o : Option ℕ) → feed w.point ≡ ahead feed w o →
        Steps B feed (Next (n.Paragraph paragraph.Inside)) w (inside_code w o).to (inside_code w o).world
    go None e =
        moves B feed _ _ w (inside_code w None).world (exit parts.Data w.point ∷ exit parts.Paragraph w.point ∷ []) refl
        (append_assoc w.events (exit parts.Data w.point ∷ []) _)
        (has.each paragraph.Inside _ _ ∙ ap (λ (x : List Cell). inside_paragraph x (here w)) e ∙ text-none (here w)
        ∙ ap (Accepts (here (inside_code w None).world)) (sym e))
    go (Some b) e = by (nat_eq b 10) refl
      where
        c : Cell
        c = cell_here feed w b

        cs : List Cell
        cs = feed (after w.setting w.point)

        by : (x : Bool) → nat_eq b 10 ≡ x →
            Steps B feed (Next (n.Paragraph paragraph.Inside)) w (inside_code w (Some b)).to
            (inside_code w (Some b)).world
        by true k = rw k (moves B feed _ (Next (n.Paragraph paragraph.LineStart)) w _
            (exit parts.Data (after w.setting w.point) ∷ []) refl refl
            (has.each paragraph.Inside _ _ ∙ ap (λ (x : List Cell). inside_paragraph x (here w)) e
            ∙ text-ending c cs (here w) k ∙ sym (has.each paragraph.LineStart _ _)))
        by false k = rw k (passes B feed _ (Next (n.Paragraph paragraph.Inside)) w _ refl refl
            (has.each paragraph.Inside _ _ ∙ ap (λ (x : List Cell). inside_paragraph x (here w)) e
            ∙ text-more c cs (here w) k ∙ sym (has.each paragraph.Inside _ _)))

-- each state of a paragraph takes one step of what it means
pub paragraph_means : (B : Behaviour) (feed : Feed) (state : ParagraphState) (w : World) →
    HasParagraph B → Sees feed w →
    Steps B feed (Next (n.Paragraph state)) w (paragraph_transition state w).to (paragraph_transition state w).world
paragraph_means B feed paragraph.Start w has s = paragraph_start_means B feed w has
paragraph_means B feed paragraph.LineStart w has s = paragraph_line_means B feed w has
paragraph_means B feed paragraph.Inside w has s = paragraph_inside_means B feed w has s

-- what answers as the transition of a state does means what the state means
pub paragraph_rule : (state : ParagraphState) (w new : World) (to : State) → to ≡ (paragraph_transition state w).to →
    new ≡ (paragraph_transition state w).world → ParagraphMeans state w to new
unfolding ParagraphMeans
paragraph_rule state w new to e k B feed has s =
    steps-as B feed _ _ to w _ new e k (paragraph_means B feed state w has s)
