-- Each state of a destination takes one step of its rule.
use Rattle.std.proofs.Common.{◌≡◌, ℕ, Bool, true, false, nat_lt, List, ◌++◌, Option, Some, None, refl, sym}
use Rattle.std.proofs.Common.{◌∙◌, ◌+◌, ◌-◌, ap, ap₂, arith, append_assoc}
use Rattle.std.proofs.lemmas.Bool.Decides.{nat_tests}
use Rattle.md_meaning.specs.Ascii.{greater_than}
use Rattle.md_engine.specs.declared.event.Event.{Event}
use Rattle.md_engine.specs.declared.state.Name.TheVariants as n
use Rattle.md_engine.specs.declared.state.destination.State.{State as DestinationState}
use Rattle.md_engine.specs.declared.state.destination.State.TheVariants as its
use Rattle.md_engine.specs.declared.state.State.{State}
use Rattle.md_engine.specs.declared.state.State.TheVariants.{Nok, Next, Retry}
use Rattle.md_engine.specs.declared.tokenizer.Scratch.{Scratch}
use Rattle.md_engine.specs.Meaning.{Accepts, Behaviour, Cell, Feed, Here, Refuses, Steps, here}
use Rattle.md_engine.specs.Scheme.{After, position}
use Rattle.md_engine.specs.World.{World, after}
use Rattle.md_engine.specs.Sees.{Sees, ahead, cell_here}
use Rattle.md_engine.proofs.StepOf.{moves, passes, steps-as}
use Rattle.md_link_definitions.specs.Destination.{DestinationInvariant, Begin, Closes, Escapes, Literal, Neither, Opens}
use Rattle.md_link_definitions.specs.Destination.{Other, Piece, Raw, Stops, begins, destination_ready}
use Rattle.md_link_definitions.specs.Destination.{destination_transition, enclosed_before_code, enclosed_code}
use Rattle.md_link_definitions.specs.Destination.{enclosed_piece, escape_code, is_escaped, raw_code, raw_piece}
use Rattle.md_link_definitions.specs.Destination.{start_code, text_entered, text_exited, with_size, without_size}
use Rattle.md_link_definitions.specs.DestinationRule.{DestinationMeans, HasDestination, before_literal, destination_at}
use Rattle.md_link_definitions.specs.DestinationRule.{destination_behaves, in_literal, in_raw, literal_begin}
use Rattle.md_link_definitions.specs.DestinationRule.{literal_end, raw_begin, raw_end, text_begin, text_end}
use Rattle.md_link_definitions.proofs.DestinationLemmas.{before-closes, before-text, begin-is, begins-literal}
use Rattle.md_link_definitions.proofs.DestinationLemmas.{begins-neither, escaped-enclosed, escaped-raw, begins-none}
use Rattle.md_link_definitions.proofs.DestinationLemmas.{begins-raw, enclosed-is, literal-backslash, literal-bare}
use Rattle.md_link_definitions.proofs.DestinationLemmas.{literal-closes, literal-ends, literal-escaped, literal-none}
use Rattle.md_link_definitions.proofs.DestinationLemmas.{literal-opens, literal-other, raw-backslash, raw-bare}
use Rattle.md_link_definitions.proofs.DestinationLemmas.{raw-closes, raw-done, raw-escaped, raw-is, raw-left, raw-opens}
use Rattle.md_link_definitions.proofs.DestinationLemmas.{raw-other, raw-refuses, raw-stops}
use Rattle.md_events.specs.Spaces.{IsRest, is_current}
use Rattle.md_events.specs.Transition.{taken}

-- The cell that is here is taken, and the rule continues after it as the next state has it.
takes-steps : (B : Behaviour) (feed : Feed) (w : World) (from to : DestinationState) (s : Scratch) (b : ℕ) →
    HasDestination B → feed w.point ≡ ahead feed w (Some b) →
    destination_behaves from (ahead feed w (Some b)) (here w) ≡
    destination_behaves to (feed (after w.setting w.point))
    (record (here w) { point = after w.setting w.point; scratch = s }) →
    Steps B feed (Next (n.Destination from)) w (Next (n.Destination to)) (record (taken w) { scratch = s })
takes-steps B feed w from to s b has next same =
    passes B feed _ _ w (record (taken w) { scratch = s }) refl refl
    (has.each from _ _ ∙ ap (λ (x : List Cell). destination_behaves from x (here w)) next ∙ same
    ∙ sym (has.each to _ _))

-- The next state's rule says of what is here what this one's says.
turns-steps : (B : Behaviour) (feed : Feed) (w : World) (from to : DestinationState) (o : Option ℕ) →
    HasDestination B → feed w.point ≡ ahead feed w o →
    destination_behaves from (ahead feed w o) (here w) ≡ destination_behaves to (ahead feed w o) (here w) →
    Steps B feed (Next (n.Destination from)) w (Retry (n.Destination to)) w
turns-steps B feed w from to o has next same =
    passes B feed _ _ w w refl refl
    (has.each from _ _ ∙ ap (λ (x : List Cell). destination_behaves from x (here w)) next ∙ same
    ∙ ap (λ (x : List Cell). destination_behaves to x (here w)) (sym next) ∙ sym (has.each to _ _))

-- There is no destination, by what is here.
refuses-steps : (B : Behaviour) (feed : Feed) (w : World) (from : DestinationState) (s : Scratch) (o : Option ℕ) →
    HasDestination B → feed w.point ≡ ahead feed w o →
    destination_behaves from (ahead feed w o) (here w) ≡ Refuses s w.flags →
    Steps B feed (Next (n.Destination from)) w Nok (record w { scratch = s })
refuses-steps B feed w from s o has next refused =
    passes B feed _ _ w (record w { scratch = s }) refl refl
    (has.each from _ _ ∙ ap (λ (x : List Cell). destination_behaves from x (here w)) next ∙ refused)

-- Before a destination.
start_means : (B : Behaviour) (feed : Feed) (w : World) (g : Begin) → HasDestination B → Sees feed w →
    begins w.current ≡ g →
    Steps B feed (Next (n.Destination its.Start)) w (start_code w g).to (start_code w g).world
start_means B feed w Literal has s e = go w.current e s.next
  where
    joined : (start_code w Literal).world.events ≡ w.events ++ literal_begin w.point (after w.setting w.point)
    joined = simp append_assoc

    go : (o : Option ℕ) → begins o ≡ Literal → feed w.point ≡ ahead feed w o →
        Steps B feed (Next (n.Destination its.Start)) w (start_code w Literal).to (start_code w Literal).world
    go None f next = cc
    go (Some b) f next =
        let c = cell_here feed w b in
        let cs = feed (after w.setting w.point) in
        moves B feed _ _ w (start_code w Literal).world (literal_begin w.point (after w.setting w.point)) refl joined
        (has.each its.Start _ _ ∙ ap (λ (x : List Cell). destination_at x (here w)) next
        ∙ begins-literal c cs (here w) (begin-is b Literal f)
        ∙ ap
        (λ (es : List Event). let h : Here = record (here w) { events = es; point = c.after } in before_literal cs h)
        (sym joined) ∙ sym (has.each its.EnclosedBefore _ _))
start_means B feed w Raw has s e = go w.current e s.next
  where
    joined : (start_code w Raw).world.events ≡ w.events ++ raw_begin w.point
    joined = simp append_assoc

    go : (o : Option ℕ) → begins o ≡ Raw → feed w.point ≡ ahead feed w o →
        Steps B feed (Next (n.Destination its.Start)) w (start_code w Raw).to (start_code w Raw).world
    go None f next = cc
    go (Some b) f next =
        moves B feed _ _ w (start_code w Raw).world (raw_begin w.point) refl joined
        (has.each its.Start _ _ ∙ ap (λ (x : List Cell). destination_at x (here w)) next
        ∙ begins-raw (cell_here feed w b) (feed (after w.setting w.point)) (here w) (begin-is b Raw f)
        ∙ ap (λ (x : List Cell). in_raw false x (record (here w) { events = w.events ++ raw_begin w.point })) (sym next)
        ∙ ap (λ (es : List Event). let h : Here = record (here w) { events = es } in in_raw false (feed w.point) h)
        (sym joined) ∙ sym (has.each its.Raw _ _))
start_means B feed w Neither has s e = go w.current e s.next
  where
    go : (o : Option ℕ) → begins o ≡ Neither → feed w.point ≡ ahead feed w o →
        Steps B feed (Next (n.Destination its.Start)) w (start_code w Neither).to (start_code w Neither).world
    go None f next = refuses-steps B feed w its.Start w.scratch None has next (begins-none (here w))
    go (Some b) f next =
        refuses-steps B feed w its.Start w.scratch (Some b) has next
        (begins-neither (cell_here feed w b) (feed (after w.setting w.point)) (here w) (begin-is b Neither f))

-- After `<`, or at `>`.
enclosed_before_means : (B : Behaviour) (feed : Feed) (w : World) (x : Bool) → HasDestination B → Sees feed w →
    is_current greater_than w.current ≡ x →
    Steps B feed (Next (n.Destination its.EnclosedBefore)) w (enclosed_before_code w x).to
    (enclosed_before_code w x).world
enclosed_before_means B feed w true has s e = go w.current e s.next
  where
    joined : (enclosed_before_code w true).world.events ≡ w.events ++ literal_end w.point (after w.setting w.point)
    joined = simp append_assoc

    go : (o : Option ℕ) → is_current greater_than o ≡ true → feed w.point ≡ ahead feed w o →
        Steps B feed (Next (n.Destination its.EnclosedBefore)) w (enclosed_before_code w true).to
        (enclosed_before_code w true).world
    go None f next = cc
    go (Some b) f next =
        let c = cell_here feed w b in
        let cs = feed (after w.setting w.point) in
        moves B feed _ _ w (enclosed_before_code w true).world (literal_end w.point (after w.setting w.point)) refl
        joined
        (has.each its.EnclosedBefore _ _ ∙ ap (λ (x : List Cell). before_literal x (here w)) next
        ∙ before-closes c cs (here w) f
        ∙ ap (λ (es : List Event). let h : Here = record (here w) { events = es; point = c.after } in Accepts h cs)
        (sym joined))
enclosed_before_means B feed w false has s e =
    moves B feed _ _ w (enclosed_before_code w false).world (text_begin w.point) refl joined
    (has.each its.EnclosedBefore _ _
    ∙ ap (λ (x : List Cell). before_literal x (here w)) s.next ∙ before-text feed w (here w) w.current e
    ∙ ap (λ (x : List Cell). in_literal false x (record (here w) { events = w.events ++ text_begin w.point }))
    (sym s.next)
    ∙ ap (λ (es : List Event). let h : Here = record (here w) { events = es } in in_literal false (feed w.point) h)
    (sym joined) ∙ sym (has.each its.Enclosed _ _))
  where
    joined : (text_entered w).events ≡ w.events ++ text_begin w.point
    joined = simp append_assoc

-- Between angle brackets.
enclosed_means : (B : Behaviour) (feed : Feed) (w : World) (p : Piece) → HasDestination B → Sees feed w →
    enclosed_piece w.current ≡ p →
    Steps B feed (Next (n.Destination its.Enclosed)) w (enclosed_code w p).to (enclosed_code w p).world
enclosed_means B feed w p has s e = go w.current p e s.next
  where
    c : ℕ → Cell
    c b = cell_here feed w b

    cs : List Cell
    cs = feed (after w.setting w.point)

    joined : (text_exited w).events ≡ w.events ++ text_end w.point
    joined = simp append_assoc

    go : (o : Option ℕ) (p : Piece) → enclosed_piece o ≡ p → feed w.point ≡ ahead feed w o →
        Steps B feed (Next (n.Destination its.Enclosed)) w (enclosed_code w p).to (enclosed_code w p).world
    go None Stops f next = refuses-steps B feed w its.Enclosed w.scratch None has next (literal-none false (here w))
    go None Opens f next = cc
    go None Closes f next = cc
    go None Escapes f next = cc
    go None Other f next = cc
    go (Some b) Opens f next =
        refuses-steps B feed w its.Enclosed w.scratch (Some b) has next
        (literal-opens (c b) cs (here w) (enclosed-is b Opens f))
    go (Some b) Closes f next =
        moves B feed _ _ w (text_exited w) (text_end w.point) refl joined
        (has.each its.Enclosed _ _ ∙ ap (λ (x : List Cell). in_literal false x (here w)) next
        ∙ literal-closes (c b) cs (here w) (enclosed-is b Closes f)
        ∙ ap (λ (x : List Cell). before_literal x (record (here w) { events = w.events ++ text_end w.point }))
        (sym next)
        ∙ ap (λ (es : List Event). let h : Here = record (here w) { events = es } in before_literal (feed w.point) h)
        (sym joined) ∙ sym (has.each its.EnclosedBefore _ _))
    go (Some b) Escapes f next =
        takes-steps B feed w its.Enclosed its.EnclosedEscape w.scratch b has next
        (literal-backslash (c b) cs (here w) (enclosed-is b Escapes f))
    go (Some b) Other f next =
        takes-steps B feed w its.Enclosed its.Enclosed w.scratch b has next
        (literal-other (c b) cs (here w) (enclosed-is b Other f))
    go (Some b) Stops f next =
        refuses-steps B feed w its.Enclosed w.scratch (Some b) has next
        (literal-ends false (c b) cs (here w) (enclosed-is b Stops f))

-- After a backslash there.
enclosed_escape_means : (B : Behaviour) (feed : Feed) (w : World) (x : Bool) → HasDestination B → Sees feed w →
    is_escaped (enclosed_piece w.current) ≡ x →
    Steps B feed (Next (n.Destination its.EnclosedEscape)) w (escape_code its.Enclosed w x).to
    (escape_code its.Enclosed w x).world
enclosed_escape_means B feed w true has s e = go w.current e s.next
  where
    go : (o : Option ℕ) → is_escaped (enclosed_piece o) ≡ true → feed w.point ≡ ahead feed w o →
        Steps B feed (Next (n.Destination its.EnclosedEscape)) w (Next (n.Destination its.Enclosed)) (taken w)
    go None f next = cc
    go (Some b) f next =
        takes-steps B feed w its.EnclosedEscape its.Enclosed w.scratch b has next
        (literal-escaped (cell_here feed w b) (feed (after w.setting w.point)) (here w) (escaped-enclosed b f))
enclosed_escape_means B feed w false has s e =
    turns-steps B feed w its.EnclosedEscape its.Enclosed w.current has s.next
    (literal-bare feed w (here w) w.current e)

-- Without angle brackets.
raw_means : (B : Behaviour) (feed : Feed) (w : World) (p : Piece) (x : Bool) → HasDestination B → Sees feed w →
    IsRest (without_size w.scratch) → raw_piece w.current ≡ p → nat_lt 0 w.scratch.size ≡ x →
    Steps B feed (Next (n.Destination its.Raw)) w (raw_code w p x).to (raw_code w p x).world
raw_means B feed w p x has s rest e k = go w.current p x e k s.next
  where
    c : ℕ → Cell
    c b = cell_here feed w b

    cs : List Cell
    cs = feed (after w.setting w.point)

    joined : (raw_code w Stops false).world.events ≡ w.events ++ raw_end w.point
    joined = simp append_assoc

    -- with no parenthesis open, its scratch is as it is with that forgotten
    none : nat_lt 0 w.scratch.size ≡ false → w.scratch.size ≡ 0
    none k = grind (arith, nat_tests)

    same : nat_lt 0 w.scratch.size ≡ false → without_size w.scratch ≡ w.scratch
    same k = ap (λ (size : ℕ). with_size size w.scratch) (sym (none k))

    go : (o : Option ℕ) (p : Piece) (x : Bool) → raw_piece o ≡ p → nat_lt 0 w.scratch.size ≡ x →
        feed w.point ≡ ahead feed w o →
        Steps B feed (Next (n.Destination its.Raw)) w (raw_code w p x).to (raw_code w p x).world
    go o Stops true f k next =
        refuses-steps B feed w its.Raw (without_size w.scratch) o has next
        (raw-left (ahead feed w o) (here w) (raw-stops feed w o f) k)
    go o Stops false f k next =
        moves B feed _ _ w (raw_code w Stops false).world (raw_end w.point) refl joined
        (has.each its.Raw _ _ ∙ ap (λ (x : List Cell). in_raw false x (here w)) next
        ∙ raw-done (ahead feed w o) (here w) (raw-stops feed w o f) (none k)
        ∙ ap₂
        (λ (es : List Event) (t : Scratch).
        let h : Here = record (here w) { events = es; scratch = t } in Accepts h (ahead feed w o))
        (sym joined) (same k)
        ∙ ap (Accepts (here (raw_code w Stops false).world)) (sym next))
    go None Opens x f k next = cc
    go None Closes x f k next = cc
    go None Escapes x f k next = cc
    go None Other x f k next = cc
    go (Some b) Opens x f k next =
        takes-steps B feed w its.Raw its.Raw (with_size (w.scratch.size + 1) w.scratch) b has next
        (raw-opens (c b) cs (here w) (raw-is b Opens f))
    go (Some b) Closes true f k next =
        takes-steps B feed w its.Raw its.Raw (with_size (w.scratch.size - 1) w.scratch) b has next
        (raw-closes (c b) cs (here w) (raw-is b Closes f) k)
    go (Some b) Closes false f k next =
        refuses-steps B feed w its.Raw w.scratch (Some b) has next
        (raw-refuses (c b) cs (here w) (raw-is b Closes f) (none k)
        ∙ ap (λ (t : Scratch). Refuses t w.flags) (same k))
    go (Some b) Escapes x f k next =
        takes-steps B feed w its.Raw its.RawEscape w.scratch b has next
        (raw-backslash (c b) cs (here w) (raw-is b Escapes f))
    go (Some b) Other x f k next =
        takes-steps B feed w its.Raw its.Raw w.scratch b has next (raw-other (c b) cs (here w) (raw-is b Other f))

-- After a backslash there.
raw_escape_means : (B : Behaviour) (feed : Feed) (w : World) (x : Bool) → HasDestination B → Sees feed w →
    is_escaped (raw_piece w.current) ≡ x →
    Steps B feed (Next (n.Destination its.RawEscape)) w (escape_code its.Raw w x).to (escape_code its.Raw w x).world
raw_escape_means B feed w true has s e = go w.current e s.next
  where
    go : (o : Option ℕ) → is_escaped (raw_piece o) ≡ true → feed w.point ≡ ahead feed w o →
        Steps B feed (Next (n.Destination its.RawEscape)) w (Next (n.Destination its.Raw)) (taken w)
    go None f next = cc
    go (Some b) f next =
        takes-steps B feed w its.RawEscape its.Raw w.scratch b has next
        (raw-escaped (cell_here feed w b) (feed (after w.setting w.point)) (here w) (escaped-raw b f))
raw_escape_means B feed w false has s e =
    turns-steps B feed w its.RawEscape its.Raw w.current has s.next (raw-bare feed w (here w) w.current e)

-- All of them: each state of a destination takes one step of what it means.
destination_steps : (B : Behaviour) (feed : Feed) (state : DestinationState) (w : World) → HasDestination B →
    Sees feed w → DestinationInvariant (n.Destination state) (position w) →
    Steps B feed (Next (n.Destination state)) w (destination_transition state w).to
    (destination_transition state w).world
destination_steps B feed its.Start w has s at = start_means B feed w _ has s refl
destination_steps B feed its.EnclosedBefore w has s at = enclosed_before_means B feed w _ has s refl
destination_steps B feed its.Enclosed w has s at = enclosed_means B feed w _ has s refl
destination_steps B feed its.EnclosedEscape w has s at = enclosed_escape_means B feed w _ has s refl
destination_steps B feed its.Raw w has s at = raw_means B feed w _ _ has s at.rest refl refl
destination_steps B feed its.RawEscape w has s at = raw_escape_means B feed w _ has s refl

-- and so where its attempts end as they have to
pub destination_means : (B : Behaviour) (feed : Feed) (state : DestinationState) (w : World) (K : After) →
    HasDestination B → Sees feed w → destination_ready (n.Destination state) (position w) K →
    Steps B feed (Next (n.Destination state)) w (destination_transition state w).to
    (destination_transition state w).world
destination_means B feed state w K has s at = destination_steps B feed state w has s at.0

-- what answers as the transition of a state does means what the state means
pub destination_rule : (state : DestinationState) (w new : World) (to : State) → to ≡
    (destination_transition state w).to →
    new ≡ (destination_transition state w).world → DestinationMeans state w to new
unfolding DestinationMeans
destination_rule state w new to e k at B feed has s =
    steps-as B feed _ _ to w _ new e k (destination_steps B feed state w has s at)
