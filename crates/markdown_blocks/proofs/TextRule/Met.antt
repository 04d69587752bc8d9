-- Where the lines of a text are read, the first states of definitions and paragraphs are called before lines that are
-- left of it.
--
-- Each run of the table of content over these lines is followed. It tries a definition where one of the lines begins.
-- What is left of the attempt says where it ends: after a definition, and then the next line begins, or where it began.
use Rattle.std.proofs.Common.{◌≡◌, ◌⊎◌, inl, inr, ℕ, ◌^◌, ◌<◌, ◌≤◌, Bool, true, false, cond, List, [], ◌∷◌, ◌++◌, length}
use Rattle.std.proofs.Common.{Option, Some, None, refl, sym, ap, ◌∙◌, subst, subst₂, append_assoc, arith, drop}
use Rattle.std.specs.Prelude.{◌==◌}
use Rattle.std.specs.List.{All, list_all}
use Rattle.md_engine.specs.declared.configuration.ParseOptions.{ParseOptions}
use Rattle.md_engine.specs.declared.event.Name.TheVariants.{Data, LineEnding}
use Rattle.md_engine.specs.declared.event.Point.{Point}
use Rattle.md_engine.specs.declared.state.Name.{Name as StateName}
use Rattle.md_engine.specs.declared.state.Name.TheVariants as n
use Rattle.md_engine.specs.declared.state.State.{State}
use Rattle.md_engine.specs.declared.state.State.TheVariants.{Error, Ok, Nok, Next, Retry}
use Rattle.md_engine.specs.declared.state.content.State.TheVariants as content
use Rattle.md_engine.specs.declared.state.definition.State.{State as DefinitionState}
use Rattle.md_engine.specs.declared.state.definition.State.TheVariants as definition
use Rattle.md_engine.specs.declared.state.paragraph.State.TheVariants as paragraph
use Rattle.md_engine.specs.declared.tokenizer.Frame.{Frame}
use Rattle.md_engine.specs.Meaning.{Accepts, Behaviour, Cell, Feed, Follows, Here, Outcome, Steps, here}
use Rattle.md_engine.specs.Meaning.{whole_outcome}
use Rattle.md_engine.specs.Run.{Calls, IsEnd, Leaves, Runs, leads_back, left, next_of, plain, reading}
use Rattle.md_engine.specs.Run.Runs.{Stays, ThenCalls, ThenLeaves}
use Rattle.md_engine.specs.Scheme.{Ends, after_all, position, valid}
use Rattle.md_engine.specs.Sees.{Sees, ahead, cell_here}
use Rattle.md_engine.specs.TextFeed.{text_feed}
use Rattle.md_engine.specs.World.{Setting, World, after, fresh, looks}
use Rattle.md_engine.proofs.Falls.{leaves_valid}
use Rattle.md_engine.proofs.Keeps.{leaves-keep, plain-same, runs-setting, steps-keep}
use Rattle.md_engine.proofs.StepOf.{sees}
use Rattle.md_engine.proofs.TextFeed.{text-follows}
use Rattle.md_content.specs.ContentReads.{first_of, skipping_all}
use Rattle.md_content.specs.Definitions.{definition_after_code, definition_before_code, may_define}
use Rattle.md_content.specs.Paragraph.{inside_code}
use Rattle.md_content.specs.States.{ContentStep, content_behaves, content_scheme, content_start, content_transition}
use Rattle.md_content.proofs.ContentReadsLemmas.{skipping-same}
use Rattle.md_content.proofs.States.{content_keeps_valid, content_table_means}
use Rattle.md_events.specs.Spaces.{IsRest}
use Rattle.md_events.specs.Transition.{Transition, entered, exited, taken}
use Rattle.md_events.specs.Exact.Places.{place}
use Rattle.md_events.specs.Exact.Rows.{Row}
use Rattle.md_link_definitions.specs.DefinitionRule.{definition_at}
use Rattle.markdown_blocks.specs.TextMet.{AreMet, TextsMet, begins_block, chunks_of, lines_begin}
use Rattle.markdown_blocks.specs.TextRule.{AreLeft, IsDefined, cells_of, ending_before, is_defined, is_text}
use Rattle.markdown_blocks.proofs.Attempts.{all-front, inner, left-inner, left-outer, not-empty, not-ended}
use Rattle.markdown_blocks.proofs.TextRule.Definition.{definition-left}
use Rattle.markdown_blocks.proofs.TextRule.Inside.{Begins, IsInner, LeadsWithin, StaysWithin, definition-leads}
use Rattle.markdown_blocks.proofs.TextRule.Inside.{is_within, within-leads}
use Rattle.markdown_blocks.proofs.TextRule.Lines.{AreNext}
use Rattle.markdown_blocks.proofs.TextRule.Texts.{IsBegun, left-begin, left-next}
use Rattle.proof_rows.specs.WithoutMdx.{IsWithoutMdx}

-- Lines that are left.

-- a text that is read, and its cells
record Reads (all : List Row) (under : Setting) (feed : Feed) : Type 0 where
  built : IsWithoutMdx under.options
  small : length under.bytes < 2 ^ 61
  are : AreLeft under.options under.bytes all
  follows : Follows feed under true

-- the last of these lines begin at a point
record LinesAt (all : List Row) (feed : Feed) (p : Point) : Type 0 where
  row : Row
  rows : List Row
  passed : List Row
  are : all ≡ passed ++ row ∷ rows
  at : p ≡ place row.line row.rest
  cells : feed p ≡ cells_of (row ∷ rows)

-- a line ends at a point, and these are after it
record EndsAt (all : List Row) (feed : Feed) (p : Point) : Type 0 where
  passed : List Row
  further : List Row
  are : all ≡ passed ++ further
  cells : feed p ≡ ending_before further (cells_of further)

-- the last of lines that are left of a text are left of it
last-left : (options : ParseOptions) (source : List ℕ) (all passed : List Row) (row : Row) (rows : List Row) →
    AreLeft options source all → all ≡ passed ++ row ∷ rows → AreLeft options source (row ∷ rows)
last-left options source all passed row rows is e = record {
  from = is.from;
  placed = is.placed;
  whole = is.whole;
  column = is.column;
  front = is.front;
  back = is.back;
  passed = is.passed ++ passed;
  under = is.under;
  groups =
      is.groups
      ∙ ap (λ (l : List Row). is.front ++ l ∷ is.back)
      (ap (λ (l : List Row). is.passed ++ (l ++ is.under)) e
      ∙ ap (λ (l : List Row). is.passed ++ l) (append_assoc passed (row ∷ rows) is.under)
      ∙ sym (append_assoc is.passed passed ((row ∷ rows) ++ is.under)));
  lines =
      ap (λ (l : List Row). list_all (λ (r : Row). is_text r.role) l)
      (append_assoc is.passed passed (row ∷ rows) ∙ ap (λ (l : List Row). is.passed ++ l) (sym e))
      ∙ is.lines;
  underlines = is.underlines;
}

abbrev first_or : Cell → List Cell → Cell
first_or c [] = c
first_or c (d ∷ ds) = d

-- after the ending of a line the next begins
next-begins : (all : List Row) (feed : Feed) (v : World) (b : ℕ) → EndsAt all feed v.point →
    feed v.point ≡ cell_here feed (reading v) b ∷ feed (after v.setting v.point) →
    LinesAt all feed (after v.setting v.point)
next-begins all feed v b is s = go is.further is.are is.cells
  where
    go : (further : List Row) → all ≡ is.passed ++ further →
        feed v.point ≡ ending_before further (cells_of further) → LinesAt all feed (after v.setting v.point)
    go [] are cells = let bad : cell_here feed (reading v) b ∷ feed (after v.setting v.point) ≡ [] = sym s ∙ cells in cc
    go (next ∷ more) are cells =
        let both = sym s ∙ cells in
        record {
          row = next;
          rows = more;
          passed = is.passed;
          are = are;
          at = ap (λ (l : List Cell). (first_or (cell_here feed (reading v) b) l).after) both;
          cells = ap (λ (l : List Cell). drop 1 l) both;
        }

-- where an attempt at a definition has accepted, its last line ends
taken-ends : (all : List Row) (under : Setting) (feed : Feed) → Reads all under feed → (v : World) (p : Point) →
    LinesAt all feed p → (h : Here) → IsRest h.scratch → h.point ≡ p →
    Accepts (here v) (feed v.point) ≡ definition_at under.options (feed h.point) h → EndsAt all feed v.point
taken-ends all under feed x v p lines h rest at is =
    go (is_defined under.options rows)
    (subst (λ (o : Outcome). IsDefined rows h o (is_defined under.options rows)) (sym is)
    (definition-left under.options under.bytes rows (feed h.point) h rest next))
  where
    rows : List Row
    rows = lines.row ∷ lines.rows

    next : AreNext under.bytes rows h.point (feed h.point)
    next =
        subst₂ (AreNext under.bytes rows) (sym (at ∙ lines.at)) (sym (ap feed at ∙ lines.cells))
        (left-next under.options under.bytes x.built x.small lines.row lines.rows
        (last-left under.options under.bytes all lines.passed lines.row lines.rows x.are lines.are))

    go : (b : Bool) → IsDefined rows h (Accepts (here v) (feed v.point)) b → EndsAt all feed v.point
    go false k = cc
    go true k =
        let same : feed v.point ≡ k.cells = let e = k.accepts in cc in
        record {
          passed = lines.passed ++ k.own;
          further = k.further;
          are =
              lines.are ∙ ap (λ (l : List Row). lines.passed ++ l) k.parts
              ∙ sym (append_assoc lines.passed k.own k.further);
          cells = same ∙ k.left;
        }

-- Attempts.

-- one at a definition from a point on
record IsTrial (f : Frame) (p : Point) : Type 0 where
  ok : f.ok ≡ Next (n.Content content.DefinitionAfter)
  nok : f.nok ≡ Next (n.Paragraph paragraph.Start)
  moves_on : f.is_check ≡ false
  point : f.point ≡ p

-- those within it, before the outermost
abbrev AreInner : List Frame → Type 0
AreInner [] = Unit {0}
AreInner (f ∷ []) = Unit {0}
AreInner (f ∷ g ∷ fs) = IsInner f × AreInner (g ∷ fs)

inner-more : (f : Frame) (fs : List Frame) → IsInner f → AreInner fs → AreInner (f ∷ fs)
inner-more f [] is are = tt
inner-more f (g ∷ fs) is are = (is, are)

inner-parts : (g : Frame) (gs : List Frame) (f : Frame) → AreInner (g ∷ (gs ++ f ∷ [])) →
    IsInner g × AreInner (gs ++ f ∷ [])
inner-parts g [] f are = are
inner-parts g (h ∷ gs) f are = are

-- States.

called-within : (t : State) (name : StateName) → plain t ≡ Next name → StaysWithin t → is_within name ≡ true
called-within Ok name e is = cc
called-within Nok name e is = cc
called-within Error name e is = cc
called-within (Next m) name e is = let same : m ≡ name = cc in ap is_within (sym same) ∙ is
called-within (Retry m) name e is = let same : m ≡ name = cc in ap is_within (sym same) ∙ is

next-within : (f : Frame) (t : State) → IsInner f → StaysWithin (next_of f t)
next-within f Ok is = is.ok
next-within f Nok is = is.nok
next-within f Error is = is.nok
next-within f (Next m) is = is.nok
next-within f (Retry m) is = is.nok

definition-other : (state : DefinitionState) → is_within (n.Definition state) ≡ true →
    begins_block (n.Definition state) ≡ true → ⊥
definition-other definition.Start is first = cc
definition-other state is first = cc

within-other : (name : StateName) → is_within name ≡ true → begins_block name ≡ true → ⊥
within-other (n.Definition state) is first = definition-other state is first
within-other (n.Paragraph state) is first = cc
within-other name is first = cc

-- after the first state of a paragraph
abbrev is_past : StateName → Bool
is_past (n.Paragraph paragraph.LineStart) = true
is_past (n.Paragraph paragraph.Inside) = true
is_past name = false

abbrev IsPast : State → Type 0
IsPast (Next name) = is_past name ≡ true
IsPast (Retry name) = is_past name ≡ true
IsPast t = Unit {0}

called-past : (t : State) (name : StateName) → plain t ≡ Next name → IsPast t → is_past name ≡ true
called-past Ok name e is = cc
called-past Nok name e is = cc
called-past Error name e is = cc
called-past (Next m) name e is = let same : m ≡ name = cc in ap is_past (sym same) ∙ is
called-past (Retry m) name e is = let same : m ≡ name = cc in ap is_past (sym same) ∙ is

past-other : (name : StateName) → is_past name ≡ true → begins_block name ≡ true → ⊥
past-other (n.Paragraph paragraph.Start) is first = cc
past-other (n.Paragraph paragraph.LineStart) is first = cc
past-other (n.Paragraph paragraph.Inside) is first = cc
past-other (n.Definition state) is first = cc
past-other name is first = cc

-- Where a run is.

-- within an attempt at a definition, of which this is left
record Inside (all : List Row) (under : Setting) (feed : Feed) (t : State) (v : World) : Type 0 where
  p : Point
  lines : LinesAt all feed p
  trial : Frame
  is : IsTrial trial p
  fs : List Frame
  frames : v.frames ≡ fs ++ trial ∷ []
  are : AreInner v.frames
  within : StaysWithin t
  begin : Here
  rest : IsRest begin.scratch
  at : begin.point ≡ p
  becomes : whole_outcome (content_behaves under.options) feed t (inner v fs) ≡
      definition_at under.options (feed begin.point) begin

data IsAt (all : List Row) (under : Setting) (feed : Feed) (t : State) (v : World) : Type 0 where
  BeforeDefinition : plain t ≡ Next (n.Content content.DefinitionBefore) → v.frames ≡ [] → LinesAt all feed v.point →
      IsAt all under feed t v
  AtDefinition : plain t ≡ Next (n.Definition definition.Start) → (f : Frame) → v.frames ≡ f ∷ [] → IsTrial f v.point →
      LinesAt all feed v.point → IsAt all under feed t v
  InDefinition : Inside all under feed t v → IsAt all under feed t v
  AfterDefinition : plain t ≡ Next (n.Content content.DefinitionAfter) → v.frames ≡ [] → EndsAt all feed v.point →
      IsAt all under feed t v
  AtParagraph : plain t ≡ Next (n.Paragraph paragraph.Start) → v.frames ≡ [] → LinesAt all feed v.point →
      IsAt all under feed t v
  IsOver : IsPast t → v.frames ≡ [] → IsAt all under feed t v

-- Calls.

-- before a definition: one is tried, or a paragraph begins
before-calls : (all : List Row) (under : Setting) (feed : Feed) (t' : State) (v v' : World) → v.frames ≡ [] →
    LinesAt all feed v.point → ContentStep (n.Content content.DefinitionBefore) (reading v) t' v' →
    IsAt all under feed t' v'
before-calls all under feed t' v v' frames lines step = go (may_define (looks v)) step.to_is step.new_is
  where
    f : Frame
    f = record {
      ok = Next (n.Content content.DefinitionAfter);
      nok = Next (n.Paragraph paragraph.Start);
      is_check = false;
      events_len = length v.events;
      point = v.point;
    }

    go : (b : Bool) → t' ≡ (definition_before_code (reading v) b).to →
        v' ≡ (definition_before_code (reading v) b).world → IsAt all under feed t' v'
    go true to new =
        let here : v'.point ≡ v.point = ap (λ (w : World). w.point) new in
        AtDefinition (ap plain to) f (ap (λ (w : World). w.frames) new ∙ ap (λ (fs : List Frame). f ∷ fs) frames)
        (record { ok = refl; nok = refl; moves_on = refl; point = sym here }) (subst (LinesAt all feed) (sym here) lines)
    go false to new =
        let here : v'.point ≡ v.point = ap (λ (w : World). w.point) new in
        AtParagraph (ap plain to) (ap (λ (w : World). w.frames) new ∙ frames) (subst (LinesAt all feed) (sym here) lines)

-- after one: the next line begins, or nothing is left
after-calls : (all : List Row) (under : Setting) (feed : Feed) (t' : State) (v v' : World) → v.frames ≡ [] →
    EndsAt all feed v.point → feed v.point ≡ ahead feed (reading v) (looks v) →
    ContentStep (n.Content content.DefinitionAfter) (reading v) t' v' → IsAt all under feed t' v'
after-calls all under feed t' v v' frames ends s step = go (looks v) s step.to_is step.new_is
  where
    go : (o : Option ℕ) → feed v.point ≡ ahead feed (reading v) o → t' ≡ (definition_after_code (reading v) o).to →
        v' ≡ (definition_after_code (reading v) o).world → IsAt all under feed t' v'
    go None s to new = IsOver (subst IsPast (sym to) tt) (ap (λ (w : World). w.frames) new ∙ frames)
    go (Some b) s to new = by (b == 10) to new
      where
        over : Transition
        over = record {
          to = Next (n.Content content.DefinitionBefore);
          world = exited (taken (entered (reading v) LineEnding)) LineEnding;
        }

        none : Transition
        none = record { to = Nok; world = reading v }

        by : (x : Bool) → t' ≡ (cond x over none).to → v' ≡ (cond x over none).world → IsAt all under feed t' v'
        by true to new =
            BeforeDefinition (ap plain to) (ap (λ (w : World). w.frames) new ∙ frames)
            (subst (LinesAt all feed) (sym (ap (λ (w : World). w.point) new)) (next-begins all feed v b ends s))
        by false to new = IsOver (subst IsPast (sym to) tt) (ap (λ (w : World). w.frames) new ∙ frames)

-- within an attempt
inside-calls : (all : List Row) (under : Setting) (feed : Feed) → Reads all under feed → (t : State) (v : World)
    (t' : State) (v' : World) → v.setting ≡ under → valid content_scheme v (plain t) →
    (c : Calls ContentStep true t v t' v') → LeadsWithin (reading v) (content_transition c.name (reading v)) →
    (p : Point) → LinesAt all feed p → (f : Frame) → IsTrial f p → (fs : List Frame) → v.frames ≡ fs ++ f ∷ [] →
    AreInner v.frames → (begin : Here) → IsRest begin.scratch → begin.point ≡ p →
    whole_outcome (content_behaves under.options) feed (Next c.name) (inner v fs) ≡
    definition_at under.options (feed begin.point) begin → IsAt all under feed t' v'
inside-calls all under feed x t v t' v' kept at c leads p lines f trial fs frames are begin rest begins becomes =
    InDefinition (record {
      p = p;
      lines = lines;
      trial = f;
      is = trial;
      fs = steps.begun ++ fs;
      frames =
          steps.frames ∙ ap (λ (l : List Frame). steps.begun ++ l) frames ∙ sym (append_assoc steps.begun fs (f ∷ []));
      are = still leads.frames;
      within = subst StaysWithin (sym c.step.to_is) leads.to;
      begin = begin;
      rest = rest;
      at = begins;
      becomes =
          sym
          (steps-keep B feed (Next c.name) t' (reading (inner v fs)) (inner v' (steps.begun ++ fs))
          (all-front (λ (g : Frame). g.events_len ≤ length v.events) fs (f ∷ [])
          (subst (All (λ (g : Frame). g.events_len ≤ length v.events)) frames c.within))
          inside)
          ∙ becomes;
    })
  where
    B : Behaviour
    B = content_behaves under.options

    P : Setting → Type 0
    P y = Follows feed y true

    Q : State → Type 0
    Q y = valid content_scheme v y

    steps : Steps B feed (Next c.name) (reading v) t' v'
    steps =
        content_table_means under true feed c.name v t' v' (subst P (sym kept) x.follows)
        (record { may = c.may; setting = kept; valid = subst Q c.names at }) c.step

    inside : Steps B feed (Next c.name) (reading (inner v fs)) t' (inner v' (steps.begun ++ fs))
    inside = record {
      begun = steps.begun;
      added = steps.added;
      frames = refl;
      events = inr (grown steps.events);
      same = steps.same;
    }
      where
        grown : (v.frames ≡ []) ⊎ (v'.events ≡ v.events ++ steps.added) → v'.events ≡ v.events ++ steps.added
        grown (inl none) = absurd (not-empty fs f (sym none ∙ frames))
        grown (inr is) = is

    still : ((content_transition c.name (reading v)).world.frames ≡ v.frames)
        ⊎ Begins (reading v) (content_transition c.name (reading v)).world →
        AreInner v'.frames
    still (inl same) = subst AreInner (sym (ap (λ (w : World). w.frames) c.step.new_is ∙ same)) are
    still (inr new) =
        subst AreInner (sym (ap (λ (w : World). w.frames) c.step.new_is ∙ new.frames))
        (inner-more new.frame v.frames new.inner are)

-- in a paragraph
past-calls : (name : StateName) (w : World) (t' : State) (w' : World) → is_past name ≡ true → ContentStep name w t' w' →
    IsPast t' × (w'.frames ≡ w.frames)
past-calls (n.Paragraph paragraph.LineStart) w t' w' is step =
    (subst IsPast (sym step.to_is) refl, ap (λ (v : World). v.frames) step.new_is)
past-calls (n.Paragraph paragraph.Inside) w t' w' is step = go w.current step.to_is step.new_is
  where
    go : (o : Option ℕ) → t' ≡ (inside_code w o).to → w' ≡ (inside_code w o).world →
        IsPast t' × (w'.frames ≡ w.frames)
    go None to new = (subst IsPast (sym to) tt, ap (λ (v : World). v.frames) new)
    go (Some b) to new = by (b == 10) to new
      where
        over : Transition
        over = record {
          to = Next (n.Paragraph paragraph.LineStart);
          world = exited (taken w) Data;
        }

        further : Transition
        further = record { to = Next (n.Paragraph paragraph.Inside); world = taken w }

        by : (x : Bool) → t' ≡ (cond x over further).to → w' ≡ (cond x over further).world →
            IsPast t' × (w'.frames ≡ w.frames)
        by true to new = (subst IsPast (sym to) refl, ap (λ (v : World). v.frames) new)
        by false to new = (subst IsPast (sym to) refl, ap (λ (v : World). v.frames) new)
past-calls (n.Paragraph paragraph.Start) w t' w' is step = cc
past-calls name w t' w' is step = cc

-- any call
at-calls : (all : List Row) (under : Setting) (feed : Feed) → Reads all under feed → (t : State) (v : World)
    (t' : State) (v' : World) → v.setting ≡ under → valid content_scheme v (plain t) → IsAt all under feed t v →
    Calls ContentStep true t v t' v' → IsAt all under feed t' v'
at-calls all under feed x t v t' v' kept at (BeforeDefinition to frames lines) c =
    let P : StateName → Type 0 = λ m. ContentStep m (reading v) t' v' in
    let name : c.name ≡ n.Content content.DefinitionBefore = let e = c.names in cc in
    before-calls all under feed t' v v' frames lines (subst P name c.step)
at-calls all under feed x t v t' v' kept at (AtDefinition to f frames trial lines) c =
    let B : Behaviour = content_behaves under.options in
    let P : StateName → Type 0 = λ m. LeadsWithin (reading v) (content_transition m (reading v)) in
    let Q : State → Type 0 = λ m. valid content_scheme v m in
    let name : c.name ≡ n.Definition definition.Start = let e = c.names in cc in
    inside-calls all under feed x t v t' v' kept at c
    (subst P (sym name) (definition-leads definition.Start (reading v))) v.point lines f trial [] frames
    (subst AreInner (sym frames) tt) (here v) (subst Q to at).0 refl
    (ap (λ (m : StateName). whole_outcome B feed (Next m) (inner v [])) name)
at-calls all under feed x t v t' v' kept at (InDefinition i) c =
    let B : Behaviour = content_behaves under.options in
    inside-calls all under feed x t v t' v' kept at c
    (within-leads c.name (reading v) (called-within t c.name c.names i.within)) i.p i.lines i.trial i.is i.fs i.frames
    i.are i.begin i.rest i.at
    (ap (λ (m : State). whole_outcome B feed m (inner v i.fs)) (sym c.names) ∙ plain-same B feed (inner v i.fs) t
    ∙ i.becomes)
at-calls all under feed x t v t' v' kept at (AfterDefinition to frames ends) c =
    let P : StateName → Type 0 = λ m. ContentStep m (reading v) t' v' in
    let F : Setting → Type 0 = λ y. Follows feed y true in
    let name : c.name ≡ n.Content content.DefinitionAfter = let e = c.names in cc in
    after-calls all under feed t' v v' frames ends (sees feed v true (subst F (sym kept) x.follows) c.may).next
    (subst P name c.step)
at-calls all under feed x t v t' v' kept at (AtParagraph to frames lines) c =
    let P : StateName → Type 0 = λ m. ContentStep m (reading v) t' v' in
    let name : c.name ≡ n.Paragraph paragraph.Start = let e = c.names in cc in
    let step : ContentStep (n.Paragraph paragraph.Start) (reading v) t' v' = subst P name c.step in
    IsOver (subst IsPast (sym step.to_is) refl) (ap (λ (w : World). w.frames) step.new_is ∙ frames)
at-calls all under feed x t v t' v' kept at (IsOver past frames) c =
    let on = past-calls c.name (reading v) t' v' (called-past t c.name c.names past) c.step in
    IsOver on.0 (on.1 ∙ frames)

-- Ends of attempts.

-- within one
inner-leaves : (all : List Row) (under : Setting) (feed : Feed) (t : State) (v : World) (t' : State) (v' : World) →
    (i : Inside all under feed t v) → (l : Leaves t v t' v') → (g : Frame) (gs : List Frame) →
    v.frames ≡ g ∷ (gs ++ i.trial ∷ []) →
    whole_outcome (content_behaves under.options) feed t (inner v (g ∷ gs)) ≡
    definition_at under.options (feed i.begin.point) i.begin → IsAt all under feed t' v'
inner-leaves all under feed t v t' v' i l g gs frames becomes =
    InDefinition (record {
      p = i.p;
      lines = i.lines;
      trial = i.trial;
      is = i.is;
      fs = gs;
      frames = left_frames;
      are = subst AreInner (sym left_frames) parts.1;
      within = subst StaysWithin (sym next) (next-within g t parts.0);
      begin = i.begin;
      rest = i.rest;
      at = i.at;
      becomes = sym (leaves-keep B feed t t' (inner v (g ∷ gs)) (inner v' gs) leaves) ∙ becomes;
    })
  where
    B : Behaviour
    B = content_behaves under.options

    frame : l.frame ≡ g
    frame = let e = sym l.frames ∙ frames in cc

    outer : l.outer ≡ gs ++ i.trial ∷ []
    outer = let e = sym l.frames ∙ frames in cc

    left_frames : v'.frames ≡ gs ++ i.trial ∷ []
    left_frames =
        ap (λ (w : World). w.frames) l.new ∙ left-outer v l.outer l.frame (leads_back l.frame t) ∙ outer

    parts : IsInner g × AreInner (gs ++ i.trial ∷ [])
    parts = inner-parts g gs i.trial (subst AreInner frames i.are)

    next : t' ≡ next_of g t
    next = l.next ∙ ap (λ (f : Frame). next_of f t) frame

    Below : Frame → List Frame → Type 0
    Below f fs = All (λ (h : Frame). h.events_len ≤ f.events_len) fs

    leaves : Leaves t (inner v (g ∷ gs)) t' (inner v' gs)
    leaves = record {
      outer = gs;
      frame = g;
      end = l.end;
      frames = refl;
      next = next;
      new =
          ap (λ (w : World). inner w gs)
          (l.new ∙ ap (λ (f : Frame). left v l.outer f (leads_back f t)) frame)
          ∙ left-inner v (g ∷ gs) l.outer gs g (leads_back g t);
      below =
          all-front (λ (h : Frame). h.events_len ≤ g.events_len) gs (i.trial ∷ [])
          (subst₂ Below frame outer l.below);
    }

-- that at the definition: after it, or where it began
trial-leaves : (all : List Row) (under : Setting) (feed : Feed) → Reads all under feed → (v : World) (t' : State)
    (v' : World) (p : Point) → LinesAt all feed p → (f : Frame) → IsTrial f p → (begin : Here) → IsRest begin.scratch →
    begin.point ≡ p → (t : State) → IsEnd t → t' ≡ next_of f t → v' ≡ left v [] f (leads_back f t) →
    whole_outcome (content_behaves under.options) feed t (inner v []) ≡
    definition_at under.options (feed begin.point) begin → IsAt all under feed t' v'
trial-leaves all under feed x v t' v' p lines f trial begin rest at Ok end next new becomes =
    let on : v' ≡ left v [] f false = new ∙ ap (left v [] f) trial.moves_on in
    AfterDefinition (ap plain (next ∙ trial.ok)) (ap (λ (w : World). w.frames) on)
    (subst (EndsAt all feed) (sym (ap (λ (w : World). w.point) on))
    (taken-ends all under feed x v p lines begin rest at becomes))
trial-leaves all under feed x v t' v' p lines f trial begin rest at Nok end next new becomes =
    AtParagraph (ap plain (next ∙ trial.nok)) (ap (λ (w : World). w.frames) new)
    (subst (LinesAt all feed) (sym (ap (λ (w : World). w.point) new ∙ trial.point)) lines)
trial-leaves all under feed x v t' v' p lines f trial begin rest at Error end next new becomes = absurd end
trial-leaves all under feed x v t' v' p lines f trial begin rest at (Next m) end next new becomes = absurd end
trial-leaves all under feed x v t' v' p lines f trial begin rest at (Retry m) end next new becomes = absurd end

inside-leaves : (all : List Row) (under : Setting) (feed : Feed) → Reads all under feed → (t : State) (v : World)
    (t' : State) (v' : World) → (i : Inside all under feed t v) → Leaves t v t' v' → IsAt all under feed t' v'
inside-leaves all under feed x t v t' v' i l = go i.fs i.frames i.becomes
  where
    B : Behaviour
    B = content_behaves under.options

    go : (fs : List Frame) → v.frames ≡ fs ++ i.trial ∷ [] →
        whole_outcome B feed t (inner v fs) ≡ definition_at under.options (feed i.begin.point) i.begin →
        IsAt all under feed t' v'
    go [] frames becomes =
        let both : l.frame ∷ l.outer ≡ i.trial ∷ [] = sym l.frames ∙ frames in
        let frame : l.frame ≡ i.trial = cc in
        let outer : l.outer ≡ [] = cc in
        trial-leaves all under feed x v t' v' i.p i.lines i.trial i.is i.begin i.rest i.at t l.end
        (l.next ∙ ap (λ (f : Frame). next_of f t) frame)
        (l.new ∙ ap (λ (f : Frame). left v l.outer f (leads_back f t)) frame
        ∙ ap (λ (fs : List Frame). left v fs i.trial (leads_back i.trial t)) outer)
        becomes
    go (g ∷ gs) frames becomes = inner-leaves all under feed t v t' v' i l g gs frames becomes

-- any end
at-leaves : (all : List Row) (under : Setting) (feed : Feed) → Reads all under feed → (t : State) (v : World)
    (t' : State) (v' : World) → IsAt all under feed t v → Leaves t v t' v' → IsAt all under feed t' v'
at-leaves all under feed x t v t' v' (BeforeDefinition to frames lines) l = absurd (not-ended t _ to l.end)
at-leaves all under feed x t v t' v' (AtDefinition to f frames trial lines) l = absurd (not-ended t _ to l.end)
at-leaves all under feed x t v t' v' (InDefinition i) l = inside-leaves all under feed x t v t' v' i l
at-leaves all under feed x t v t' v' (AfterDefinition to frames ends) l = absurd (not-ended t _ to l.end)
at-leaves all under feed x t v t' v' (AtParagraph to frames lines) l = absurd (not-ended t _ to l.end)
at-leaves all under feed x t v t' v' (IsOver past frames) l = let bad = sym frames ∙ l.frames in cc

-- Runs.

record Follow (all : List Row) (under : Setting) (feed : Feed) (t : State) (v : World) : Type 0 where
  valid_at : valid content_scheme v (plain t)
  at : IsAt all under feed t v

at-run : (all : List Row) (under : Setting) (feed : Feed) → Reads all under feed → (s : State) (w : World) →
    w.setting ≡ under → Follow all under feed s w → (t : State) (v : World) → Runs ContentStep true s w t v →
    Follow all under feed t v
at-run all under feed x s w kept begun t v Stays = begun
at-run all under feed x s w kept begun to new (ThenLeaves t v t' v' r l) =
    let before = at-run all under feed x s w kept begun t v r in
    record {
      valid_at = leaves_valid content_scheme v v' t t' l before.valid_at;
      at = at-leaves all under feed x t v t' v' before.at l;
    }
at-run all under feed x s w kept begun to new (ThenCalls t v t' v' r c) =
    let before = at-run all under feed x s w kept begun t v r in
    let Q : State → Type 0 = λ m. valid content_scheme v m in
    record {
      valid_at = content_keeps_valid c.name v t' v' (subst Q c.names before.valid_at) c.step;
      at =
          at-calls all under feed x t v t' v' (runs-setting ContentStep true s w t v r ∙ kept) before.valid_at before.at
          c;
    }

-- Lines are ahead where a call is at them,
lines-met : (all : List Row) (under : Setting) (feed : Feed) → Reads all under feed → (v : World) →
    v.setting ≡ under → Sees feed (reading v) → IsRest v.scratch → LinesAt all feed v.point →
    AreMet all feed (reading v)
lines-met all under feed x v kept seen rest lines = record {
  row = lines.row;
  rows = lines.rows;
  passed = lines.passed;
  are = lines.are;
  ahead = record {
    built = subst (λ (y : Setting). IsWithoutMdx y.options) (sym kept) x.built;
    small = subst (λ (y : Setting). length y.bytes < 2 ^ 61) (sym kept) x.small;
    left =
        subst (λ (y : Setting). AreLeft y.options y.bytes (lines.row ∷ lines.rows)) (sym kept)
        (last-left under.options under.bytes all lines.passed lines.row lines.rows x.are lines.are);
    sees = seen;
    rest = rest;
    at = lines.at;
    cells = lines.cells;
  };
}

-- and no other call is of a first state.
at-met : (all : List Row) (under : Setting) (feed : Feed) → Reads all under feed → (t : State) (v : World)
    (t' : State) (v' : World) → v.setting ≡ under → Follow all under feed t v → (c : Calls ContentStep true t v t' v') →
    begins_block c.name ≡ true → AreMet all feed (reading v)
at-met all under feed x t v t' v' kept follow c first = go follow.at
  where
    F : Setting → Type 0
    F y = Follows feed y true

    Q : State → Type 0
    Q m = valid content_scheme v m

    seen : Sees feed (reading v)
    seen = sees feed v true (subst F (sym kept) x.follows) c.may

    go : IsAt all under feed t v → AreMet all feed (reading v)
    go (BeforeDefinition to frames lines) =
        let name : c.name ≡ n.Content content.DefinitionBefore = let e = c.names in cc in
        let bad : false ≡ true = ap begins_block (sym name) ∙ first in cc
    go (AtDefinition to f frames trial lines) =
        lines-met all under feed x v kept seen (subst Q to follow.valid_at).0 lines
    go (InDefinition i) = absurd (within-other c.name (called-within t c.name c.names i.within) first)
    go (AfterDefinition to frames ends) =
        let name : c.name ≡ n.Content content.DefinitionAfter = let e = c.names in cc in
        let bad : false ≡ true = ap begins_block (sym name) ∙ first in cc
    go (AtParagraph to frames lines) =
        lines-met all under feed x v kept seen (subst Q to follow.valid_at).0 lines
    go (IsOver past frames) = absurd (past-other c.name (called-past t c.name c.names past) first)

-- The lines of each text are read so.
pub texts-met : (options : ParseOptions) (source : List ℕ) → IsWithoutMdx options → length source < 2 ^ 61 →
    TextsMet options source
unfolding TextsMet
texts-met options source built small row rows are t v t' v' run c first =
    at-met all under feed x t v t' v' (runs-setting ContentStep true (Next content_start) w t v run)
    (at-run all under feed x (Next content_start) w refl begun t v run) c first
  where
    all : List Row
    all = row ∷ rows

    w : World
    w = lines_begin options source all

    under : Setting
    under = w.setting

    feed : Feed
    feed = text_feed under

    begins : IsBegun row rows w
    begins = left-begin options source built small row rows are

    start : World
    start = fresh source options (first_of (chunks_of all))

    shape : skipping_all start (chunks_of all) ≡
        record start {
          setting = record start.setting { skips = (skipping_all start (chunks_of all)).setting.skips };
          point = (skipping_all start (chunks_of all)).point;
        }
    shape = skipping-same start (chunks_of all)

    bytes_are : under.bytes ≡ source
    bytes_are = ap (λ (y : World). y.setting.bytes) shape

    options_are : under.options ≡ options
    options_are = ap (λ (y : World). y.setting.options) shape

    none : w.frames ≡ []
    none = ap (λ (y : World). y.frames) shape

    rest : IsRest w.scratch
    rest = ap (λ (y : World). y.scratch) shape

    x : Reads all under feed
    x = record {
      built = subst IsWithoutMdx (sym options_are) built;
      small = subst (λ (l : List ℕ). length l < 2 ^ 61) (sym bytes_are) small;
      are = subst₂ (λ (o : ParseOptions) (l : List ℕ). AreLeft o l all) (sym options_are) (sym bytes_are) are;
      follows = text-follows under under.limit true begins.small (omega arith) (λ e. refl);
    }

    begun : Follow all under feed (Next content_start) w
    begun = record {
      valid_at = (
        rest,
        subst (λ (fs : List Frame). Ends IsRest IsRest (position w) (after_all content_scheme fs)) (sym none)
            (record { ok = λ s q t is g r. tt; nok = λ s q t is g. tt }),
      );
      at =
          BeforeDefinition refl none
          (record { row = row; rows = rows; passed = []; are = refl; at = begins.point; cells = begins.cells });
    }
