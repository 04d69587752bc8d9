-- Each state of a label takes one step of its rule.
use Rattle.std.proofs.Common.{◌≡◌, ℕ, ◌≤◌, Bool, true, false, nat_eq, List, [], ◌∷◌, ◌++◌, Option, Some, None, refl}
use Rattle.std.proofs.Common.{sym, ◌∙◌, ap, append_assoc, cond, append-nil, arith}
use Rattle.std.proofs.lemmas.Bool.{eqb-true}
use Rattle.std.proofs.lemmas.Bool.Decides.{nat_tests}
use Rattle.md_engine.specs.declared.event.Event.{Event}
use Rattle.md_engine.specs.declared.event.Name.TheVariants.{Data, DefinitionLabel, DefinitionLabelMarker}
use Rattle.md_engine.specs.declared.event.Name.TheVariants.{DefinitionLabelString}
use Rattle.md_engine.specs.declared.state.Name.TheVariants as n
use Rattle.md_engine.specs.declared.state.label.State.{State as LabelState}
use Rattle.md_engine.specs.declared.state.label.State.TheVariants as its
use Rattle.md_engine.specs.declared.state.State.{State}
use Rattle.md_engine.specs.declared.state.State.TheVariants.{Nok, Next, Retry}
use Rattle.md_engine.specs.declared.tokenizer.Scratch.{Scratch}
use Rattle.md_engine.specs.Meaning.{Accepts, Behaviour, Cell, Feed, Here, Refuses, Steps, here}
use Rattle.md_engine.specs.Scheme.{After, position}
use Rattle.md_engine.specs.World.{World, after}
use Rattle.md_engine.specs.Sees.{Sees, ahead, cell_here}
use Rattle.md_engine.proofs.StepOf.{moves, passes, steps-as}
use Rattle.md_link_definitions.specs.Chunks.{chunks, string_link}
use Rattle.md_link_definitions.specs.Label.{LabelInvariant, at_break_code, close_code, counted, eol_after_code}
use Rattle.md_link_definitions.specs.Label.{escape_code, inside_code, is_bracket, is_escaped, is_full, label_ready}
use Rattle.md_link_definitions.specs.Label.{label_transition, most, refused, start_code, taken_as, unlabelled}
use Rattle.md_link_definitions.specs.LabelRule.{LabelMeans, HasLabel, in_label, label_at, label_behaves, label_ended}
use Rattle.md_link_definitions.specs.LabelRule.{label_opened}
use Rattle.md_link_definitions.proofs.LabelLemmas.{TakesNext, label-broken, label-empty, label-ending, label-ends}
use Rattle.md_link_definitions.proofs.LabelLemmas.{label-full, label-unescaped, label-led, label-line, label-none}
use Rattle.md_link_definitions.proofs.LabelLemmas.{label-takes, label-unled}
use Rattle.md_events.specs.Events.Nested.{enter, enter_link, exit, pair}
use Rattle.md_events.specs.Spaces.{IsRest, is_current, sees_white}
use Rattle.md_events.specs.Transition.{entered_link, exited, taken}

-- The start.

-- at `[`,
start-taken : (feed : Feed) (w : World) (h : Here) (o : Option ℕ) → is_current 91 o ≡ true →
    label_at (ahead feed w o) h ≡
    in_label false false false (feed (after w.setting w.point))
    (record h {
      events = h.events ++ label_opened (cell_here feed w 91) h.point;
      point = after w.setting w.point;
    })
unfolding label_at
start-taken feed w h None e = cc
start-taken feed w h (Some b) e = rw e refl

-- and elsewhere
start-none : (feed : Feed) (w : World) (h : Here) (o : Option ℕ) → is_current 91 o ≡ false →
    label_at (ahead feed w o) h ≡ Refuses h.scratch h.flags
unfolding label_at
start-none feed w h None e = refl
start-none feed w h (Some b) e = rw e refl

-- four events, one after another
four : (events : List Event) (a b c d : Event) →
    (((events ++ a ∷ []) ++ b ∷ []) ++ c ∷ []) ++ d ∷ [] ≡ events ++ a ∷ b ∷ c ∷ d ∷ []
four events a b c d = simp append_assoc

-- the first state
start_means : (B : Behaviour) (feed : Feed) (w : World) (x : Bool) → HasLabel B → Sees feed w → IsRest w.scratch →
    is_current 91 w.current ≡ x →
    Steps B feed (Next (n.Label its.Start)) w (start_code w x).to (start_code w x).world
start_means B feed w true has s r e =
    let q = after w.setting w.point in
    let same = four w.events (enter DefinitionLabel w.point) (enter DefinitionLabelMarker w.point)
    (exit DefinitionLabelMarker q) (enter DefinitionLabelString q) in
    moves B feed _ _ w (start_code w true).world (label_opened (cell_here feed w 91) w.point) refl same
    (has.each its.Start _ _ ∙ ap (λ (x : List Cell). label_at x (here w)) s.next
    ∙ start-taken feed w (here w) w.current e
    ∙ ap
    (λ (es : List Event). in_label false false false (feed q) (record (here w) { events = es; point = q }))
    (sym same)
    ∙ ap
    (λ (c : Bool). in_label c false false (feed q) (here (start_code w true).world))
    (ap (λ (t : Scratch). t.connect) (sym r))
    ∙ sym (has.each its.AtBreak _ _))
start_means B feed w false has s r e =
    passes B feed _ _ w w refl refl
    (has.each its.Start _ _ ∙ ap (λ (x : List Cell). label_at x (here w)) s.next
    ∙ start-none feed w (here w) w.current e)

-- what comes next where a byte is here
seen-cells : (feed : Feed) (w : World) (b : ℕ) → Sees feed w → w.current ≡ Some b →
    feed w.point ≡ cell_here feed w b ∷ feed (after w.setting w.point)
seen-cells feed w b s is = s.next ∙ ap (ahead feed w) is

-- The end.

-- `]` is not `[`
bracket-apart : (b : ℕ) → nat_eq b 93 ≡ true → nat_eq b 91 ≡ false
bracket-apart b e = let is : b ≡ 93 = eqb-true b 93 e in rw is refl

-- `]` after the text, which the end of its chunk follows if one has begun
closes : (B : Behaviour) (feed : Feed) (state : LabelState) (w : World) (led begun x : Bool) (b : ℕ)
    (events : List Event) →
    HasLabel B → Sees feed w → w.current ≡ Some b → nat_eq b 93 ≡ true → w.scratch.size ≤ most → w.scratch.seen ≡ x →
    ((cells : List Cell) → label_behaves state cells (here w) ≡ in_label led begun false cells (here w)) →
    events ≡ w.events ++ chunks begun [] w.point →
    Steps B feed (Next (n.Label state)) w (close_code (record w { events = events }) x).to
    (close_code (record w { events = events }) x).world
closes B feed state w led begun true b events has s is bracket le seen rule e =
    let q = after w.setting w.point in
    let ended = chunks begun [] w.point in
    let following : List Event = label_ended (cell_here feed w b) w.point in
    let same = four events (exit DefinitionLabelString w.point) (enter DefinitionLabelMarker w.point)
    (exit DefinitionLabelMarker q) (exit DefinitionLabel q)
    ∙ ap (λ (es : List Event). es ++ following) e in
    moves B feed _ _ w (close_code (record w { events = events }) true).world (ended ++ following) refl
    (same ∙ append_assoc w.events ended following)
    (has.each state _ _ ∙ rule _
    ∙ ap (λ (x : List Cell). in_label led begun false x (here w)) (seen-cells feed w b s is)
    ∙ label-ends led begun (cell_here feed w b) (feed q) (here w) bracket (bracket-apart b bracket) seen le
    ∙ rw bracket refl
    ∙ ap
    (λ (es : List Event).
    Accepts (record (here w) { events = es; point = q; scratch = unlabelled w.scratch }) (feed q))
    (sym same))
closes B feed state w led begun false b events has s is bracket le seen rule e =
    moves B feed _ _ w (close_code (record w { events = events }) false).world (chunks begun [] w.point) refl e
    (has.each state _ _ ∙ rule _
    ∙ ap (λ (x : List Cell). in_label led begun false x (here w)) (seen-cells feed w b s is)
    ∙ label-empty led begun (cell_here feed w b) (feed (after w.setting w.point)) (here w) bracket
    (bracket-apart b bracket) seen)

-- what refuses in one step: at the end of the text,
refuses_none : (B : Behaviour) (feed : Feed) (state : LabelState) (w : World) (led begun : Bool) → HasLabel B →
    Sees feed w → w.current ≡ None →
    ((cells : List Cell) → label_behaves state cells (here w) ≡ in_label led begun false cells (here w)) →
    Steps B feed (Next (n.Label state)) w Nok (refused w).world
refuses_none B feed state w led begun has s is rule =
    passes B feed _ _ w (refused w).world refl refl
    (has.each state _ _ ∙ rule _
    ∙ ap (λ (x : List Cell). in_label led begun false x (here w)) (s.next ∙ ap (ahead feed w) is)
    ∙ label-none led begun false (here w))

-- and at `[`
refuses_broken : (B : Behaviour) (feed : Feed) (state : LabelState) (w : World) (led begun : Bool) (b : ℕ) →
    HasLabel B → Sees feed w → w.current ≡ Some b → nat_eq b 91 ≡ true → nat_eq b 93 ≡ false →
    ((cells : List Cell) → label_behaves state cells (here w) ≡ in_label led begun false cells (here w)) →
    Steps B feed (Next (n.Label state)) w Nok (refused w).world
refuses_broken B feed state w led begun b has s is opens other rule =
    passes B feed _ _ w (refused w).world refl refl
    (has.each state _ _ ∙ rule _
    ∙ ap (λ (x : List Cell). in_label led begun false x (here w)) (seen-cells feed w b s is)
    ∙ label-broken led begun (cell_here feed w b) (feed (after w.setting w.point)) (here w) opens other)

-- The begin of a line.

-- by what is here
at_break_means : (B : Behaviour) (feed : Feed) (w : World) (o : Option ℕ) → HasLabel B → Sees feed w →
    w.scratch.size ≤ most → w.current ≡ o →
    Steps B feed (Next (n.Label its.AtBreak)) w (at_break_code w o).to (at_break_code w o).world
at_break_means B feed w None has s le is =
    refuses_none B feed its.AtBreak w w.scratch.connect false has s is (λ cells. refl)
at_break_means B feed w (Some b) has s le is = go (nat_eq b 93) (nat_eq b 91) refl refl
  where
    begun : World
    begun = entered_link w Data string_link

    by : (led : Bool) → is_bracket b ≡ false →
        in_label led false false (feed w.point) (here w) ≡ in_label led true false (feed w.point) (here begun)
    by led plain =
        let cells = seen-cells feed w b s is in
        ap (λ (x : List Cell). in_label led false false x (here w)) cells
        ∙ label-line led (cell_here feed w b) (feed (after w.setting w.point)) (here w) plain
        ∙ ap (λ (x : List Cell). in_label led true false x (here begun)) (sym cells)

    line : (x : Bool) → w.scratch.connect ≡ x → is_bracket b ≡ false →
        Steps B feed (Next (n.Label its.AtBreak)) w (Retry (n.Label (cond x its.EolAfter its.Inside))) begun
    line true k plain =
        moves B feed _ _ w begun (enter_link Data w.point string_link ∷ []) refl refl
        (has.each its.AtBreak _ _ ∙ ap (λ (x : Bool). in_label x false false (feed w.point) (here w)) k ∙ by true plain
        ∙ sym (has.each its.EolAfter _ _))
    line false k plain =
        moves B feed _ _ w begun (enter_link Data w.point string_link ∷ []) refl refl
        (has.each its.AtBreak _ _ ∙ ap (λ (x : Bool). in_label x false false (feed w.point) (here w)) k ∙ by false plain
        ∙ sym (has.each its.Inside _ _))

    go : (x y : Bool) → nat_eq b 93 ≡ x → nat_eq b 91 ≡ y →
        Steps B feed (Next (n.Label its.AtBreak)) w (at_break_code w (Some b)).to (at_break_code w (Some b)).world
    go true y k l =
        rw k
        (closes B feed its.AtBreak w w.scratch.connect false w.scratch.seen b w.events has s is k le refl
        (λ cells. refl) (sym (append-nil w.events)))
    go false true k l =
        rw (k, l) (refuses_broken B feed its.AtBreak w w.scratch.connect false b has s is l k (λ cells. refl))
    go false false k l =
        let plain : is_bracket b ≡ false = rw (k, l) refl in rw (k, l) (line w.scratch.connect refl plain)

-- Whitespace before a further line.

-- by whether whitespace is here
eol_after_means : (B : Behaviour) (feed : Feed) (w : World) (x : Bool) → HasLabel B → Sees feed w →
    sees_white w.current ≡ x →
    Steps B feed (Next (n.Label its.EolAfter)) w (eol_after_code w x).to (eol_after_code w x).world
eol_after_means B feed w x has s e = go w.current x refl e
  where
    go : (o : Option ℕ) (x : Bool) → w.current ≡ o → sees_white o ≡ x →
        Steps B feed (Next (n.Label its.EolAfter)) w (eol_after_code w x).to (eol_after_code w x).world
    go None true is e = cc
    go None false is e =
        let cells : feed w.point ≡ [] = s.next ∙ ap (ahead feed w) is in
        passes B feed _ _ w w refl refl
        (has.each its.EolAfter _ _ ∙ ap (λ (x : List Cell). in_label true true false x (here w)) cells
        ∙ label-none true true false (here w) ∙ sym (label-none false true false (here w))
        ∙ ap (λ (x : List Cell). in_label false true false x (here w)) (sym cells) ∙ sym (has.each its.Inside _ _))
    go (Some b) true is e =
        passes B feed _ _ w (taken w) refl refl
        (has.each its.EolAfter _ _
        ∙ ap (λ (x : List Cell). in_label true true false x (here w)) (seen-cells feed w b s is)
        ∙ label-led (cell_here feed w b) (feed (after w.setting w.point)) (here w) e ∙ sym (has.each its.EolAfter _ _))
    go (Some b) false is e =
        let cells = seen-cells feed w b s is in
        passes B feed _ _ w w refl refl
        (has.each its.EolAfter _ _ ∙ ap (λ (x : List Cell). in_label true true false x (here w)) cells
        ∙ label-unled (cell_here feed w b) (feed (after w.setting w.point)) (here w) e
        ∙ ap (λ (x : List Cell). in_label false true false x (here w)) (sym cells) ∙ sym (has.each its.Inside _ _))

-- The text.

-- a byte of it
takes_means : (B : Behaviour) (feed : Feed) (state next : LabelState) (w : World) (escaped pair : Bool) (b : ℕ) →
    HasLabel B → Sees feed w → w.current ≡ Some b →
    TakesNext escaped pair (cell_here feed w b) (feed (after w.setting w.point)) →
    ((cells : List Cell) → label_behaves state cells (here w) ≡ in_label false true escaped cells (here w)) →
    ((cells : List Cell) (h : Here) → label_behaves next cells h ≡ in_label false true pair cells h) →
    Steps B feed (Next (n.Label state)) w (taken_as w b next).to (taken_as w b next).world
takes_means B feed state next w escaped pair b has s is t rule then = go (is_full w) refl
  where
    here_is : label_behaves state (feed w.point) (here w) ≡
        in_label false true escaped (cell_here feed w b ∷ feed (after w.setting w.point)) (here w)
    here_is = rule _ ∙ ap (λ (x : List Cell). in_label false true escaped x (here w)) (seen-cells feed w b s is)

    go : (x : Bool) → is_full w ≡ x →
        Steps B feed (Next (n.Label state)) w (taken_as w b next).to (taken_as w b next).world
    go true e =
        rw e
        (passes B feed _ Nok w (refused w).world refl refl
        (has.each state _ _ ∙ here_is
        ∙ label-full escaped pair (cell_here feed w b) (feed (after w.setting w.point)) w t e))
    go false e =
        rw e
        (passes B feed _ (Next (n.Label next)) w (record (taken w) { scratch = counted w b }) refl refl
        (has.each state _ _ ∙ here_is
        ∙ label-takes escaped pair (cell_here feed w b) (feed (after w.setting w.point)) w t ∙ sym (then _ _)
        ∙ sym (has.each next _ _)))

-- by what is here
inside_means : (B : Behaviour) (feed : Feed) (w : World) (o : Option ℕ) → HasLabel B → Sees feed w →
    w.scratch.size ≤ most → w.current ≡ o →
    Steps B feed (Next (n.Label its.Inside)) w (inside_code w o).to (inside_code w o).world
inside_means B feed w None has s le is = refuses_none B feed its.Inside w false true has s is (λ cells. refl)
inside_means B feed w (Some b) has s le is = go (nat_eq b 93) (nat_eq b 91) (nat_eq b 10) refl refl refl
  where
    cs : List Cell
    cs = feed (after w.setting w.point)

    -- a backslash takes what comes next
    next : (x : Bool) → nat_eq b 92 ≡ x → is_bracket b ≡ false → nat_eq b 10 ≡ false →
        TakesNext false x (cell_here feed w b) cs
    next x e plain ending = record { before = rw (plain, e) refl; from = rw (plain, e) refl; ending = ending }

    by : (x : Bool) → nat_eq b 92 ≡ x → is_bracket b ≡ false → nat_eq b 10 ≡ false →
        Steps B feed (Next (n.Label its.Inside)) w (taken_as w b (cond x its.Escape its.Inside)).to
        (taken_as w b (cond x its.Escape its.Inside)).world
    by true e plain ending =
        takes_means B feed its.Inside its.Escape w false true b has s is (next true e plain ending) (λ cells. refl)
        (λ cells h. refl)
    by false e plain ending =
        takes_means B feed its.Inside its.Inside w false false b has s is (next false e plain ending) (λ cells. refl)
        (λ cells h. refl)

    go : (x y z : Bool) → nat_eq b 93 ≡ x → nat_eq b 91 ≡ y → nat_eq b 10 ≡ z →
        Steps B feed (Next (n.Label its.Inside)) w (inside_code w (Some b)).to (inside_code w (Some b)).world
    go true y z k l m =
        rw k
        (closes B feed its.Inside w false true w.scratch.seen b (exited w Data).events has s is k le refl
        (λ cells. refl) refl)
    go false true z k l m = rw (k, l) (refuses_broken B feed its.Inside w false true b has s is l k (λ cells. refl))
    go false false true k l m =
        let new : World = record (exited (taken w) Data) { scratch = record w.scratch { connect = true } } in
        rw (k, l, m)
        (moves B feed _ (Next (n.Label its.AtBreak)) w new (exit Data (after w.setting w.point) ∷ []) refl refl
        (has.each its.Inside _ _
        ∙ ap (λ (x : List Cell). in_label false true false x (here w)) (seen-cells feed w b s is)
        ∙ label-ending (cell_here feed w b) cs (here w) m ∙ sym (has.each its.AtBreak _ _)))
    go false false false k l m =
        let plain : is_bracket b ≡ false = rw (k, l) refl in rw (k, l, m) (by (nat_eq b 92) refl plain m)

-- After a backslash.

-- by whether the backslash takes what is here
escape_means : (B : Behaviour) (feed : Feed) (w : World) (o : Option ℕ) → HasLabel B → Sees feed w → w.current ≡ o →
    Steps B feed (Next (n.Label its.Escape)) w (escape_code w o).to (escape_code w o).world
escape_means B feed w None has s is =
    let cells : feed w.point ≡ [] = s.next ∙ ap (ahead feed w) is in
    passes B feed _ _ w w refl refl
    (has.each its.Escape _ _ ∙ ap (λ (x : List Cell). in_label false true true x (here w)) cells
    ∙ label-none false true true (here w) ∙ sym (label-none false true false (here w))
    ∙ ap (λ (x : List Cell). in_label false true false x (here w)) (sym cells) ∙ sym (has.each its.Inside _ _))
escape_means B feed w (Some b) has s is = go (is_escaped b) refl
  where
    cs : List Cell
    cs = feed (after w.setting w.point)

    go : (x : Bool) → is_escaped b ≡ x →
        Steps B feed (Next (n.Label its.Escape)) w (escape_code w (Some b)).to (escape_code w (Some b)).world
    go true e =
        let ending : nat_eq b 10 ≡ false = grind (arith, nat_tests) in
        rw e
        (takes_means B feed its.Escape its.Inside w true false b has s is
        (record { before = refl; from = refl; ending = ending }) (λ cells. refl) (λ cells h. refl))
    go false e =
        let cells = seen-cells feed w b s is in
        rw e
        (passes B feed _ (Retry (n.Label its.Inside)) w w refl refl
        (has.each its.Escape _ _ ∙ ap (λ (x : List Cell). in_label false true true x (here w)) cells
        ∙ label-unescaped (cell_here feed w b) cs (here w) e
        ∙ ap (λ (x : List Cell). in_label false true false x (here w)) (sym cells) ∙ sym (has.each its.Inside _ _)))

-- each state of a label takes one step of what it means
label_steps : (B : Behaviour) (feed : Feed) (state : LabelState) (w : World) → HasLabel B →
    Sees feed w → LabelInvariant (n.Label state) (position w) →
    Steps B feed (Next (n.Label state)) w (label_transition state w).to (label_transition state w).world
label_steps B feed its.Start w has s at = start_means B feed w _ has s at refl
label_steps B feed its.AtBreak w has s at = at_break_means B feed w w.current has s at.size refl
label_steps B feed its.EolAfter w has s at = eol_after_means B feed w _ has s refl
label_steps B feed its.Inside w has s at = inside_means B feed w w.current has s at.size refl
label_steps B feed its.Escape w has s at = escape_means B feed w w.current has s refl
label_steps B feed its.Nok w has s at = passes B feed _ Nok w w refl refl (has.each its.Nok _ _)

-- and so where its attempts end as they have to
pub label_means : (B : Behaviour) (feed : Feed) (state : LabelState) (w : World) (K : After) → HasLabel B →
    Sees feed w → label_ready (n.Label state) (position w) K →
    Steps B feed (Next (n.Label state)) w (label_transition state w).to (label_transition state w).world
label_means B feed state w K has s at = label_steps B feed state w has s at.0

-- what answers as the transition of a state does means what the state means
pub label_rule : (state : LabelState) (w new : World) (to : State) → to ≡ (label_transition state w).to →
    new ≡ (label_transition state w).world → LabelMeans state w to new
unfolding LabelMeans
label_rule state w new to e k at B feed has s =
    steps-as B feed _ _ to w _ new e k (label_steps B feed state w has s at)
