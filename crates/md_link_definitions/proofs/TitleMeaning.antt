-- Each state of the title of a definition takes one step of its rule.
use Rattle.std.proofs.Common.{◌≡◌, ℕ, Bool, true, false, nat_eq, List, [], ◌∷◌, ◌++◌, Option, Some, None, refl}
use Rattle.std.proofs.Common.{sym, ◌∙◌, ap, append_assoc, append-nil}
use Rattle.md_meaning.specs.Ascii.{backslash}
use Rattle.md_meaning.specs.Definition.{title_closer}
use Rattle.md_engine.specs.declared.event.Event.{Event}
use Rattle.md_engine.specs.declared.event.Name.TheVariants.{Data, DefinitionTitle, DefinitionTitleMarker}
use Rattle.md_engine.specs.declared.event.Name.TheVariants.{DefinitionTitleString}
use Rattle.md_engine.specs.declared.state.Name.TheVariants as n
use Rattle.md_engine.specs.declared.state.title.State.{State as TitleState}
use Rattle.md_engine.specs.declared.state.title.State.TheVariants as its
use Rattle.md_engine.specs.declared.state.State.{State}
use Rattle.md_engine.specs.declared.state.State.TheVariants.{Nok, Next, Retry}
use Rattle.md_engine.specs.Meaning.{Behaviour, Cell, Feed, Here, Refuses, Steps, here}
use Rattle.md_engine.specs.Scheme.{After, position}
use Rattle.md_engine.specs.World.{World, after}
use Rattle.md_engine.specs.Sees.{Sees, ahead, cell_here}
use Rattle.md_engine.proofs.StepOf.{moves, passes, steps-as}
use Rattle.md_link_definitions.specs.Chunks.{string_link}
use Rattle.md_link_definitions.specs.Title.{TitleInvariant, IsMarked, after_eol_transition, at_break_code, begin_code}
use Rattle.md_link_definitions.specs.Title.{closed, escape_code, inside_code, is_escaped, is_mark, opened, refused}
use Rattle.md_link_definitions.specs.Title.{start_code, title_ready, title_transition, unmarked}
use Rattle.md_link_definitions.specs.TitleRule.{TitleMeans, HasTitle, following_ending, after_opener, in_text}
use Rattle.md_link_definitions.specs.TitleRule.{text_left, title_at, title_behaves, title_end, title_from}
use Rattle.md_link_definitions.proofs.TitleLemmas.{begins-none, closed_here, escaped-no_ending, line-begins}
use Rattle.md_link_definitions.proofs.TitleLemmas.{opener-closes, pair-ends, pair-none, text-begins, text-closes}
use Rattle.md_link_definitions.proofs.TitleLemmas.{text-ending, text-more, text-none, text-opens}
use Rattle.md_events.specs.Events.Nested.{enter, enter_link, exit, pair}
use Rattle.md_events.specs.Spaces.{is_current}
use Rattle.md_events.specs.Transition.{entered, entered_link, exited, taken}

-- Steps by what they become.

-- the closing mark is taken, after these events
closes : (B : Behaviour) (feed : Feed) (state : TitleState) (w : World) (b : ℕ) (new events : List Event) → HasTitle B →
    new ≡ w.events ++ events → feed w.point ≡ ahead feed w (Some b) →
    title_behaves state (ahead feed w (Some b)) (here w) ≡
    closed_here events (cell_here feed w b) (feed (after w.setting w.point)) (here w) →
    Steps B feed (Next (n.Title state)) w (closed w).to (closed (record w { events = new })).world
closes B feed state w b new events has is e same =
    moves B feed _ _ w (closed (record w { events = new })).world
    (events ++ title_end w.point (after w.setting w.point)) refl (rw is (simp append_assoc))
    (has.each state _ _ ∙ ap (λ (x : List Cell). title_behaves state x (here w)) e ∙ same ∙ rw is (simp append_assoc))

-- no title is here
refuses : (B : Behaviour) (feed : Feed) (state : TitleState) (w : World) (o : Option ℕ) → HasTitle B →
    feed w.point ≡ ahead feed w o →
    title_behaves state (ahead feed w o) (here w) ≡ Refuses (unmarked w.scratch) w.flags →
    Steps B feed (Next (n.Title state)) w (refused w).to (refused w).world
refuses B feed state w o has e same =
    passes B feed _ _ w (refused w).world refl refl
    (has.each state _ _ ∙ ap (λ (x : List Cell). title_behaves state x (here w)) e ∙ same)

-- it continues with another state here
turns-to : (B : Behaviour) (feed : Feed) (state next : TitleState) (w : World) (o : Option ℕ) (added : List Event) →
    HasTitle B → feed w.point ≡ ahead feed w o →
    title_behaves state (ahead feed w o) (here w) ≡
    title_behaves next (ahead feed w o) (here (record w { events = w.events ++ added })) →
    Steps B feed (Next (n.Title state)) w (Retry (n.Title next)) (record w { events = w.events ++ added })
turns-to B feed state next w o added has e same =
    moves B feed _ _ w (record w { events = w.events ++ added }) added refl refl
    (has.each state _ _ ∙ ap (λ (x : List Cell). title_behaves state x (here w)) e ∙ same
    ∙ ap (λ (x : List Cell). title_behaves next x (here (record w { events = w.events ++ added }))) (sym e)
    ∙ sym (has.each next _ _))

-- with no event,
turns-only : (B : Behaviour) (feed : Feed) (state next : TitleState) (w : World) (o : Option ℕ) → HasTitle B →
    feed w.point ≡ ahead feed w o →
    title_behaves state (ahead feed w o) (here w) ≡ title_behaves next (ahead feed w o) (here w) →
    Steps B feed (Next (n.Title state)) w (Retry (n.Title next)) w
turns-only B feed state next w o has e same =
    passes B feed _ _ w w refl refl
    (has.each state _ _ ∙ ap (λ (x : List Cell). title_behaves state x (here w)) e ∙ same
    ∙ ap (λ (x : List Cell). title_behaves next x (here w)) (sym e) ∙ sym (has.each next _ _))

-- and after what is here
takes-to : (B : Behaviour) (feed : Feed) (state next : TitleState) (w : World) (b : ℕ) → HasTitle B →
    feed w.point ≡ ahead feed w (Some b) →
    title_behaves state (ahead feed w (Some b)) (here w) ≡
    title_behaves next (feed (after w.setting w.point)) (here (taken w)) →
    Steps B feed (Next (n.Title state)) w (Next (n.Title next)) (taken w)
takes-to B feed state next w b has e same =
    passes B feed _ _ w (taken w) refl refl
    (has.each state _ _ ∙ ap (λ (x : List Cell). title_behaves state x (here w)) e ∙ same ∙ sym (has.each next _ _))

-- Each state.

-- what is before a title may open none
start-none : (h : Here) → title_at [] h ≡ Refuses h.scratch h.flags
unfolding title_at
start-none h = refl

start-some : (c : Cell) (cs : List Cell) (h : Here) → title_at (c ∷ cs) h ≡ title_from (title_closer c.byte) c cs h
unfolding title_at
start-some c cs h = refl

-- before a title
start_means : (B : Behaviour) (feed : Feed) (w : World) (o : Option ℕ) → HasTitle B → feed w.point ≡ ahead feed w o →
    Steps B feed (Next (n.Title its.Start)) w (start_code w o).to (start_code w o).world
start_means B feed w None has e =
    passes B feed _ _ w w refl refl
    (has.each its.Start _ _ ∙ ap (λ (x : List Cell). title_at x (here w)) e ∙ start-none (here w))
start_means B feed w (Some b) has e = go (title_closer b) refl
  where
    c : Cell
    c = cell_here feed w b

    cs : List Cell
    cs = feed (after w.setting w.point)

    same : title_at (feed w.point) (here w) ≡ title_from (title_closer b) c cs (here w)
    same = ap (λ (x : List Cell). title_at x (here w)) e ∙ start-some c cs (here w)

    go : (x : Option ℕ) → title_closer b ≡ x →
        Steps B feed (Next (n.Title its.Start)) w (opened w b x).to (opened w b x).world
    go None k =
        passes B feed _ _ w w refl refl
        (has.each its.Start _ _ ∙ same ∙ ap (λ (x : Option ℕ). title_from x c cs (here w)) k)
    go (Some closer) k =
        let new : World = (opened w b (Some closer)).world in
        let joined : title_from (Some closer) c cs (here w) ≡ after_opener cs (here new) = simp append_assoc in
        moves B feed _ _ w new
        (enter DefinitionTitle w.point ∷ pair DefinitionTitleMarker w.point (after w.setting w.point)) refl
        (simp append_assoc)
        (has.each its.Start _ _ ∙ same ∙ ap (λ (x : Option ℕ). title_from x c cs (here w)) k ∙ joined
        ∙ sym (has.each its.Begin _ _))

-- after the opening mark
begin_means : (B : Behaviour) (feed : Feed) (w : World) (o : Option ℕ) → HasTitle B → feed w.point ≡ ahead feed w o →
    Steps B feed (Next (n.Title its.Begin)) w (begin_code w (is_current w.scratch.marker o)).to
    (begin_code w (is_current w.scratch.marker o)).world
begin_means B feed w None has e =
    turns-to B feed its.Begin its.AtBreak w None (enter DefinitionTitleString w.point ∷ []) has e
    (begins-none (here w) ∙ sym (text-none false false (here (entered w DefinitionTitleString))))
begin_means B feed w (Some b) has e = go (nat_eq b w.scratch.marker) refl
  where
    c : Cell
    c = cell_here feed w b

    cs : List Cell
    cs = feed (after w.setting w.point)

    go : (x : Bool) → nat_eq b w.scratch.marker ≡ x →
        Steps B feed (Next (n.Title its.Begin)) w (begin_code w x).to (begin_code w x).world
    go true k =
        closes B feed its.Begin w b w.events [] has (sym (append-nil w.events)) e (opener-closes c cs (here w) k)
    go false k =
        turns-to B feed its.Begin its.AtBreak w (Some b) (enter DefinitionTitleString w.point ∷ []) has e
        (text-begins c cs (here w) k)

-- after the ending of a line
following-line : (cells : List Cell) (h : Here) →
    following_ending cells h ≡ in_text false false cells (record h { events = h.events ++ exit Data h.point ∷ [] })
unfolding following_ending
following-line cells h = refl

after_eol_means : (B : Behaviour) (feed : Feed) (w : World) → HasTitle B → Sees feed w →
    Steps B feed (Next (n.Title its.AfterEol)) w (after_eol_transition w).to (after_eol_transition w).world
after_eol_means B feed w has s =
    turns-to B feed its.AfterEol its.AtBreak w w.current (exit Data w.point ∷ []) has s.next
    (following-line (ahead feed w w.current) (here w))

-- before a line
at_break_means : (B : Behaviour) (feed : Feed) (w : World) (o : Option ℕ) → HasTitle B → feed w.point ≡ ahead feed w o →
    Steps B feed (Next (n.Title its.AtBreak)) w (at_break_code w (is_current w.scratch.marker o)).to
    (at_break_code w (is_current w.scratch.marker o)).world
at_break_means B feed w None has e =
    turns-to B feed its.AtBreak its.Inside w None (enter_link Data w.point string_link ∷ []) has e
    (text-none false false (here w) ∙ sym (text-none true false (here (entered_link w Data string_link))))
at_break_means B feed w (Some b) has e = go (nat_eq b w.scratch.marker) refl
  where
    c : Cell
    c = cell_here feed w b

    cs : List Cell
    cs = feed (after w.setting w.point)

    go : (x : Bool) → nat_eq b w.scratch.marker ≡ x →
        Steps B feed (Next (n.Title its.AtBreak)) w (at_break_code w x).to (at_break_code w x).world
    go true k =
        closes B feed its.AtBreak w b (exited w DefinitionTitleString).events (text_left false [] w.point) has refl e
        (text-closes false c cs (here w) k)
    go false k =
        turns-to B feed its.AtBreak its.Inside w (Some b) (enter_link Data w.point string_link ∷ []) has e
        (line-begins c cs (here w) k)

-- in a line
inside_means : (B : Behaviour) (feed : Feed) (w : World) (o : Option ℕ) → HasTitle B → feed w.point ≡ ahead feed w o →
    Steps B feed (Next (n.Title its.Inside)) w (inside_code w o).to (inside_code w o).world
inside_means B feed w None has e = refuses B feed its.Inside w None has e (text-none true false (here w))
inside_means B feed w (Some b) has e =
    go (nat_eq b w.scratch.marker) (nat_eq b w.scratch.marker_b) (nat_eq b 10) (nat_eq b backslash) refl refl refl refl
  where
    c : Cell
    c = cell_here feed w b

    cs : List Cell
    cs = feed (after w.setting w.point)

    go : (closer opener ending escape : Bool) → nat_eq b w.scratch.marker ≡ closer →
        nat_eq b w.scratch.marker_b ≡ opener → nat_eq b 10 ≡ ending → nat_eq b backslash ≡ escape →
        Steps B feed (Next (n.Title its.Inside)) w (inside_code w (Some b)).to (inside_code w (Some b)).world
    go true opener ending escape k l m i =
        rw k
        (closes B feed its.Inside w b (exited (exited w Data) DefinitionTitleString).events (text_left true [] w.point)
        has (append_assoc w.events (exit Data w.point ∷ []) _) e (text-closes true c cs (here w) k))
    go false true ending escape k l m i =
        rw (k, l) (refuses B feed its.Inside w (Some b) has e (text-opens true c cs (here w) k l))
    go false false true escape k l m i =
        let mark : is_mark w.scratch.marker_b w.scratch.marker b ≡ false = rw (l, k) refl in
        rw (k, l, m) (takes-to B feed its.Inside its.AfterEol w b has e (text-ending c cs (here w) mark m))
    go false false false true k l m i =
        let mark : is_mark w.scratch.marker_b w.scratch.marker b ≡ false = rw (l, k) refl in
        rw (k, l, m, i)
        (takes-to B feed its.Inside its.Escape w b has e
        (text-more c cs (here w) mark m ∙ ap (λ (x : Bool). in_text true x cs (here (taken w))) i))
    go false false false false k l m i =
        let mark : is_mark w.scratch.marker_b w.scratch.marker b ≡ false = rw (l, k) refl in
        rw (k, l, m, i)
        (takes-to B feed its.Inside its.Inside w b has e
        (text-more c cs (here w) mark m ∙ ap (λ (x : Bool). in_text true x cs (here (taken w))) i))

-- after a backslash
escape_means : (B : Behaviour) (feed : Feed) (w : World) (o : Option ℕ) → HasTitle B → IsMarked w.scratch →
    feed w.point ≡ ahead feed w o →
    Steps B feed (Next (n.Title its.Escape)) w (escape_code w (is_escaped w.scratch o)).to
    (escape_code w (is_escaped w.scratch o)).world
escape_means B feed w None has m e =
    turns-only B feed its.Escape its.Inside w None has e
    (text-none true true (here w) ∙ sym (text-none true false (here w)))
escape_means B feed w (Some b) has m e = go (is_escaped w.scratch (Some b)) refl
  where
    c : Cell
    c = cell_here feed w b

    cs : List Cell
    cs = feed (after w.setting w.point)

    go : (x : Bool) → is_escaped w.scratch (Some b) ≡ x →
        Steps B feed (Next (n.Title its.Escape)) w (escape_code w x).to (escape_code w x).world
    go true k =
        takes-to B feed its.Escape its.Inside w b has e
        (pair-ends c cs (here w) (escaped-no_ending w.scratch b m k))
    go false k = turns-only B feed its.Escape its.Inside w (Some b) has e (pair-none c cs (here w) k)

-- all of them
title_steps : (B : Behaviour) (feed : Feed) (state : TitleState) (w : World) → HasTitle B →
    Sees feed w → TitleInvariant (n.Title state) (position w) →
    Steps B feed (Next (n.Title state)) w (title_transition state w).to (title_transition state w).world
title_steps B feed its.Start w has s at = start_means B feed w w.current has s.next
title_steps B feed its.Begin w has s at = begin_means B feed w w.current has s.next
title_steps B feed its.AfterEol w has s at = after_eol_means B feed w has s
title_steps B feed its.AtBreak w has s at = at_break_means B feed w w.current has s.next
title_steps B feed its.Inside w has s at = inside_means B feed w w.current has s.next
title_steps B feed its.Escape w has s at = escape_means B feed w w.current has at s.next
title_steps B feed its.Nok w has s at = passes B feed _ Nok w w refl refl (has.each its.Nok _ _)

-- and so where its attempts end as they have to
pub title_means : (B : Behaviour) (feed : Feed) (state : TitleState) (w : World) (K : After) → HasTitle B →
    Sees feed w → title_ready (n.Title state) (position w) K →
    Steps B feed (Next (n.Title state)) w (title_transition state w).to (title_transition state w).world
title_means B feed state w K has s at = title_steps B feed state w has s at.0

-- what answers as the transition of a state does means what the state means
pub title_rule : (state : TitleState) (w new : World) (to : State) → to ≡ (title_transition state w).to →
    new ≡ (title_transition state w).world → TitleMeans state w to new
unfolding TitleMeans
title_rule state w new to e k at B feed has s =
    steps-as B feed _ _ to w _ new e k (title_steps B feed state w has s at)
