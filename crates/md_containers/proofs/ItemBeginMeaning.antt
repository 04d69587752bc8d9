-- The states of a list item before its marker take one step of their rules: a bullet that begins no break, or a
-- number.
use Rattle.std.proofs.Common.{◌≡◌, ℕ, Bool, true, false, cond, not, ◌&&◌, ◌||◌, nat_eq, List, [], ◌∷◌, length}
use Rattle.std.proofs.Common.{take, Option, Some, None, refl, sym, ◌∙◌, ap, ap₂, arith}
use Rattle.std.specs.List.{list_all}
use Rattle.std.specs.Prelude.{count_by, nat_le}
use Rattle.std.proofs.lemmas.Bool.{and_parts, eq-eqb, eqb-true}
use Rattle.std.proofs.lemmas.Bool.Decides.{nat_tests}
use Rattle.std.proofs.lemmas.List.{take_all}
use Rattle.md_engine.specs.declared.configuration.ParseOptions.{ParseOptions}
use Rattle.md_engine.specs.declared.event.Event.{Event}
use Rattle.md_engine.specs.declared.event.Name.TheVariants as parts
use Rattle.md_engine.specs.declared.state.Name.TheVariants as n
use Rattle.md_engine.specs.declared.state.State.{State}
use Rattle.md_engine.specs.declared.state.State.TheVariants.{Nok, Next}
use Rattle.md_engine.specs.declared.state.list_item.State.TheVariants as its
use Rattle.md_engine.specs.declared.state.thematic_break.State.TheVariants as thematic_break
use Rattle.md_engine.specs.declared.tokenizer.Frame.{Frame}
use Rattle.md_engine.specs.declared.tokenizer.Scratch.{Scratch}
use Rattle.md_engine.specs.Meaning.{Behaviour, Cell, Feed, Here, Refuses, Steps, proceeds, here, resume}
use Rattle.md_engine.specs.Place.{is_ending}
use Rattle.md_engine.specs.World.{Flags, World, after}
use Rattle.md_engine.specs.Sees.{Sees, ahead, cell_here}
use Rattle.md_engine.proofs.StepOf.{begins_only, moves, passes}
use Rattle.md_containers.specs.Interrupts.{interrupts}
use Rattle.md_containers.specs.Item.{before_code, bullet_code, is_item_marker, item_transition, may_break, unseen}
use Rattle.md_containers.specs.ItemRule.{HasItem, at_bullet, at_marker, at_value, after_indent, after_marker}
use Rattle.md_containers.specs.ItemRule.{filled_at, one_column}
use Rattle.md_meaning.specs.Ascii.{plus}
use Rattle.md_meaning.specs.Containers.{is_bullet, is_digit}
use Rattle.md_meaning.specs.Leaves.{is_rule, is_rule_marker}
use Rattle.md_meaning.specs.Rest.{is_blank, is_white}
use Rattle.md_leaves.proofs.SetextLemmas.{is_run-one, is_run-other}
use Rattle.md_leaves.specs.Break.{without_marker}
use Rattle.md_leaves.specs.BreakRule.{Apart, before_marker, broken}
use Rattle.md_leaves.specs.HeadingSetext.{is_marker, turns_nothing}
use Rattle.md_leaves.specs.HeadingSetextRule.{is_run, is_underline}
use Rattle.md_leaves.specs.LeafStart.{entered_here}
use Rattle.md_leaves.proofs.LeafStart.{at-none}
use Rattle.md_events.specs.Ahead.{line_bytes}
use Rattle.md_events.specs.Events.Nested.{enter}
use Rattle.md_events.specs.Look.{sees_other}
use Rattle.md_events.specs.Spaces.{IsRest}
use Rattle.md_events.proofs.SpreadLemmas.{are_spread, other-first}

-- an attempt that is begun here
abbrev pub frame_here : State → State → Bool → World → Frame
frame_here ok nok check w =
    record { ok = ok; nok = nok; is_check = check; events_len = length w.events; point = w.point }

-- what an attempt goes back to: the events and the point where it was begun
pub proceeded-back : (B : Behaviour) (to : State) (feed : Feed) (w : World) (s : Scratch) (g : Flags) →
    proceeds B to (feed w.point)
    (record { events = take (length w.events) w.events; point = w.point; scratch = s; flags = g }) ≡
    proceeds B to (feed w.point) (record (here w) { scratch = s; flags = g })
proceeded-back B to feed w s g =
    ap
    (λ (es : List Event).
    proceeds B to (feed w.point) (record { events = es; point = w.point; scratch = s; flags = g }))
    (take_all (length w.events) w.events (omega arith))

pub bullet-dark : (b : ℕ) → is_bullet b ≡ true → is_white b ≡ false
bullet-dark b e = grind (arith, nat_tests)

bullet-on : (b : ℕ) → is_bullet b ≡ true → nat_eq b 10 ≡ false
bullet-on b e = grind (arith, nat_tests)

indent-none : (options : ParseOptions) (h : Here) → after_indent options [] h ≡ Refuses h.scratch h.flags
unfolding after_indent
indent-none options h = refl

indent-bullet : (options : ParseOptions) (c : Cell) (cs : List Cell) (h : Here) → is_bullet c.byte ≡ true →
    after_indent options (c ∷ cs) h ≡
    cond (options.constructs.thematic_break && is_rule (line_bytes (c ∷ cs))) (Refuses h.scratch h.flags)
    (at_bullet (c ∷ cs) h)
unfolding after_indent
indent-bullet options c cs h e = rw e refl

indent-other : (options : ParseOptions) (c : Cell) (cs : List Cell) (h : Here) → is_bullet c.byte ≡ false →
    after_indent options (c ∷ cs) h ≡
    cond (is_digit c.byte && (not (interrupts h.flags) || nat_eq c.byte 49)) (at_value (c ∷ cs) h)
    (Refuses h.scratch h.flags)
unfolding after_indent
indent-other options c cs h e = rw e refl

-- a plus begins no break
plus-no_rule : (c : Cell) (cs : List Cell) → nat_eq c.byte plus ≡ true → is_rule (line_bytes (c ∷ cs)) ≡ false
plus-no_rule c cs same = let byte : c.byte ≡ 43 = eqb-true c.byte 43 same in rw byte refl

bullet-no_ending : (b : ℕ) → is_bullet b ≡ true → is_ending b ≡ false
bullet-no_ending b e = grind (arith, nat_tests)

-- no break begins at a bullet where another byte is on the line
other-no_rule : (c : Cell) (cs : List Cell) → is_bullet c.byte ≡ true →
    are_spread c.byte (line_bytes (c ∷ cs)) ≡ false → is_rule (line_bytes (c ∷ cs)) ≡ false
other-no_rule c cs e other =
    let on : nat_eq c.byte 10 ≡ false = bullet-on c.byte e in
    let same : nat_eq c.byte c.byte ≡ true = eq-eqb c.byte c.byte refl in
    let tail : are_spread c.byte (line_bytes cs) ≡ false = rw (on, same) at other in
    rw on
    (ap
    (λ (x : Bool). is_rule_marker c.byte && x && nat_le 2 (count_by (λ (b : ℕ). nat_eq b c.byte) (line_bytes cs))) tail
    ∙ none (is_rule_marker c.byte))
  where
    none : (x : Bool) → x && false && nat_le 2 (count_by (λ (b : ℕ). nat_eq b c.byte) (line_bytes cs)) ≡ false
    none true = refl
    none false = refl

-- no break begins where the tokenizer sees that none may begin
no-rule : (feed : Feed) (w : World) (c : Cell) (cs : List Cell) → Sees feed w → feed w.point ≡ c ∷ cs →
    is_bullet c.byte ≡ true → may_break w c.byte ≡ false →
    w.setting.options.constructs.thematic_break && is_rule (line_bytes (c ∷ cs)) ≡ false
no-rule feed w c cs s next e f =
    go w.setting.options.constructs.thematic_break (nat_eq c.byte plus) (sees_other w c.byte) refl refl f
  where
    go : (x y z : Bool) → nat_eq c.byte plus ≡ y → sees_other w c.byte ≡ z → x && not (y || z) ≡ false →
        x && is_rule (line_bytes (c ∷ cs)) ≡ false
    go false y z j k f = refl
    go true true z j k f = plus-no_rule c cs j
    go true false true j k f =
        other-no_rule c cs e
        (ap (λ (cells : List Cell). are_spread c.byte (line_bytes cells)) (sym next)
        ∙ other-first feed w c.byte s (bullet-no_ending c.byte e) k)
    go true false false j k f = cc

-- a blank line has no marker
blank-counts : (m : ℕ) (bs : List ℕ) → is_white m ≡ false → is_blank bs ≡ true →
    count_by (λ (b : ℕ). nat_eq b m) bs ≡ 0
blank-counts m [] dark blank = refl
blank-counts m (b ∷ bs) dark blank =
    let both = and_parts (is_white b) (is_blank bs) blank in
    go (nat_eq b m) refl both.0 (blank-counts m bs dark both.1)
  where
    go : (x : Bool) → nat_eq b m ≡ x → is_white b ≡ true → count_by (λ (b : ℕ). nat_eq b m) bs ≡ 0 →
        count_by (λ (b : ℕ). nat_eq b m) (b ∷ bs) ≡ 0
    go true e white more = let same : true ≡ false = sym white ∙ ap is_white (eqb-true b m e) ∙ dark in cc
    go false e white more = rw e more

-- after the first marker of an underline that is a rule too is another marker
second-marker : (m d : ℕ) (bs : List ℕ) → is_white m ≡ false → is_run m (d ∷ bs) ≡ true →
    nat_le 2 (count_by (λ (b : ℕ). nat_eq b m) (d ∷ bs)) ≡ true → nat_eq d m ≡ true
second-marker m d bs dark run many = go (nat_eq d m) refl
  where
    go : (x : Bool) → nat_eq d m ≡ x → x ≡ true
    go true e = refl
    go false e =
        let none = blank-counts m (d ∷ bs) dark (sym (is_run-other m d bs e) ∙ run) in
        let few : nat_le 2 0 ≡ true = ap (nat_le 2) (sym none) ∙ many in
        cc

bullet-marks : (b : ℕ) → is_bullet b ≡ true → is_item_marker b ≡ true
bullet-marks b e = grind (arith, nat_tests)

-- a bullet with neither whitespace nor an ending after it is refused
unparted-refused : (c d : Cell) (ds : List Cell) (h : Here) → IsRest h.scratch → is_bullet c.byte ≡ true →
    is_white d.byte ≡ false → nat_eq d.byte 10 ≡ false → at_bullet (c ∷ d ∷ ds) h ≡ Refuses h.scratch h.flags
unfolding at_bullet at_marker after_marker filled_at one_column
unparted-refused c d ds h is e dark on =
    let mark : is_item_marker c.byte ≡ true = bullet-marks c.byte e in
    rw (mark, on, dark)
    (ap (λ (s : Scratch). Refuses s h.flags)
    (ap (λ (s : Scratch). unseen (record s { seen = true })) is ∙ sym is))

-- so an underline that is a rule too begins no item
bullet-run : (c : Cell) (cs : List Cell) (h : Here) → IsRest h.scratch → is_bullet c.byte ≡ true →
    is_rule (line_bytes (c ∷ cs)) ≡ true → is_underline (line_bytes (c ∷ cs)) ≡ true →
    at_bullet (c ∷ cs) h ≡ Refuses h.scratch h.flags
bullet-run c cs h is e rule under =
    go cs (rw (bullet-on c.byte e) at rule) (rw (bullet-on c.byte e) at under)
  where
    m : ℕ
    m = c.byte

    many : (bs : List ℕ) → is_rule (m ∷ bs) ≡ true → nat_le 2 (count_by (λ (b : ℕ). nat_eq b m) bs) ≡ true
    many bs r =
        (and_parts (is_rule_marker m && list_all (λ (b : ℕ). nat_eq b m || is_white b) bs)
        (nat_le 2 (count_by (λ (b : ℕ). nat_eq b m) bs)) r).1

    run : (bs : List ℕ) → is_underline (m ∷ bs) ≡ true → is_run m bs ≡ true
    run bs u =
        sym (is_run-one m m bs (eq-eqb m m refl))
        ∙ (and_parts (is_marker m) (is_run m (m ∷ bs)) u).1

    go : (cs : List Cell) → is_rule (m ∷ line_bytes cs) ≡ true → is_underline (m ∷ line_bytes cs) ≡ true →
        at_bullet (c ∷ cs) h ≡ Refuses h.scratch h.flags
    go [] r u = let few = many [] r in cc
    go (d ∷ ds) r u = at_second (nat_eq d.byte 10) refl
      where
        at_second : (x : Bool) → nat_eq d.byte 10 ≡ x → at_bullet (c ∷ d ∷ ds) h ≡ Refuses h.scratch h.flags
        at_second true k = let few = many [] (rw k at r) in cc
        at_second false k =
            let bs : List ℕ = d.byte ∷ line_bytes ds in
            let same : nat_eq d.byte m ≡ true =
            second-marker m d.byte (line_bytes ds) (bullet-dark m e) (run bs (rw k at u)) (many bs (rw k at r)) in
            unparted-refused c d ds h is e (ap is_white (eqb-true d.byte m same) ∙ bullet-dark m e) k

-- whether a break begins here
abbrev breaks_here : ParseOptions → List Cell → Here → Bool
breaks_here options cells h =
    is_rule (line_bytes cells) && not (turns_nothing options h.flags.leaf && is_underline (line_bytes cells))

break-outcome : (B : Behaviour) (options : ParseOptions) (c : Cell) (cs : List Cell) (h : Here) → HasItem B options →
    options.constructs.thematic_break ≡ true → is_bullet c.byte ≡ true →
    B (n.ThematicBreak thematic_break.Start) (c ∷ cs) h ≡
    cond (breaks_here options (c ∷ cs) h) (broken Apart c.byte (c ∷ cs) (entered_here parts.ThematicBreak h))
    (Refuses (without_marker h.scratch) h.flags)
unfolding before_marker
break-outcome B options c cs h has on e =
    has.breaks.each thematic_break.Start _ _
    ∙ at-none parts.ThematicBreak options.constructs.thematic_break (before_marker options) options (c ∷ cs) h on
    (bullet-dark c.byte e)

break-checked : (B : Behaviour) (feed : Feed) (w : World) (c : Cell) (cs : List Cell) (x y : Bool) →
    HasItem B w.setting.options → IsRest w.scratch → feed w.point ≡ c ∷ cs → is_bullet c.byte ≡ true →
    is_rule (line_bytes (c ∷ cs)) ≡ x →
    (turns_nothing w.setting.options w.flags.leaf && is_underline (line_bytes (c ∷ cs))) ≡ y →
    cond x (Refuses w.scratch w.flags) (at_bullet (c ∷ cs) (here w)) ≡
    resume B feed w.events (frame_here Nok (Next (n.ListItem its.BeforeUnordered)) true w)
    (cond (x && not y) (broken Apart c.byte (c ∷ cs) (entered_here parts.ThematicBreak (here w)))
    (Refuses (without_marker w.scratch) w.flags))
break-checked B feed w c cs x y has is next e f g = go x y f g
  where
    rest : without_marker w.scratch ≡ w.scratch
    rest = ap without_marker is ∙ sym is

    onward : at_bullet (c ∷ cs) (here w) ≡
        resume B feed w.events (frame_here Nok (Next (n.ListItem its.BeforeUnordered)) true w)
        (Refuses (without_marker w.scratch) w.flags)
    onward =
        sym
        (proceeded-back B (Next (n.ListItem its.BeforeUnordered)) feed w (without_marker w.scratch) w.flags
        ∙ ap₂
        (λ (cells : List Cell) (s : Scratch).
        B (n.ListItem its.BeforeUnordered) cells (record (here w) { scratch = s })) next rest
        ∙ has.each its.BeforeUnordered _ _)

    go : (x y : Bool) → is_rule (line_bytes (c ∷ cs)) ≡ x →
        (turns_nothing w.setting.options w.flags.leaf && is_underline (line_bytes (c ∷ cs))) ≡ y →
        cond x (Refuses w.scratch w.flags) (at_bullet (c ∷ cs) (here w)) ≡
        resume B feed w.events (frame_here Nok (Next (n.ListItem its.BeforeUnordered)) true w)
        (cond (x && not y) (broken Apart c.byte (c ∷ cs) (entered_here parts.ThematicBreak (here w)))
        (Refuses (without_marker w.scratch) w.flags))
    go true false f g =
        sym
        (proceeded-back B Nok feed w (without_marker w.scratch) w.flags
        ∙ ap (λ (s : Scratch). Refuses s w.flags) rest)
    go true true f g =
        let under =
        (and_parts (turns_nothing w.setting.options w.flags.leaf) (is_underline (line_bytes (c ∷ cs))) g).1 in
        sym (bullet-run c cs (here w) is e f under) ∙ onward
    go false y f g = onward

-- at a bullet: a check for a break begins, or the item continues where none may begin
bullet_means : (B : Behaviour) (feed : Feed) (w : World) (c : Cell) (cs : List Cell) (x : Bool) →
    HasItem B w.setting.options → Sees feed w → IsRest w.scratch → feed w.point ≡ c ∷ cs → is_bullet c.byte ≡ true →
    may_break w c.byte ≡ x →
    Steps B feed (Next (n.ListItem its.Before)) w (bullet_code w x).to (bullet_code w x).world
bullet_means B feed w c cs true has s is next e f =
    let on =
    (and_parts w.setting.options.constructs.thematic_break (not (nat_eq c.byte plus || sees_other w c.byte)) f).0 in
    let rule : Bool = is_rule (line_bytes (c ∷ cs)) in
    begins_only B feed _ _ w (bullet_code w true).world
    (frame_here Nok (Next (n.ListItem its.BeforeUnordered)) true w) refl refl
    (has.each its.Before _ _ ∙ ap (λ (x : List Cell). after_indent w.setting.options x (here w)) next
    ∙ indent-bullet w.setting.options c cs (here w) e
    ∙ ap (λ (x : Bool). cond (x && rule) (Refuses w.scratch w.flags) (at_bullet (c ∷ cs) (here w))) on
    ∙ break-checked B feed w c cs rule _ has is next e refl refl
    ∙ ap
    (resume B feed w.events (frame_here Nok (Next (n.ListItem its.BeforeUnordered)) true w))
    (sym
    (ap (λ (x : List Cell). B (n.ThematicBreak thematic_break.Start) x (here w)) next
    ∙ break-outcome B w.setting.options c cs (here w) has on e)))
bullet_means B feed w c cs false has s is next e f =
    passes B feed _ _ w w refl refl
    (has.each its.Before _ _ ∙ ap (λ (x : List Cell). after_indent w.setting.options x (here w)) next
    ∙ indent-bullet w.setting.options c cs (here w) e
    ∙ ap (λ (x : Bool). cond x (Refuses w.scratch w.flags) (at_bullet (c ∷ cs) (here w)))
    (no-rule feed w c cs s next e f)
    ∙ ap (λ (x : List Cell). at_bullet x (here w)) (sym next)
    ∙ sym (has.each its.BeforeUnordered _ _))

pub before_means : (B : Behaviour) (feed : Feed) (w : World) (o : Option ℕ) → HasItem B w.setting.options →
    Sees feed w → IsRest w.scratch → feed w.point ≡ ahead feed w o →
    Steps B feed (Next (n.ListItem its.Before)) w (before_code w o).to (before_code w o).world
before_means B feed w None has s is next =
    passes B feed _ Nok w w refl refl
    (has.each its.Before _ _ ∙ ap (λ (x : List Cell). after_indent w.setting.options x (here w)) next
    ∙ indent-none w.setting.options (here w))
before_means B feed w (Some b) has s is next =
    go (is_bullet b) (is_digit b && (not (interrupts w.flags) || nat_eq b 49)) refl refl
  where
    c : Cell
    c = cell_here feed w b

    cs : List Cell
    cs = feed (after w.setting w.point)

    other : (y : Bool) → is_bullet b ≡ false → is_digit b && (not (interrupts w.flags) || nat_eq b 49) ≡ y →
        B (n.ListItem its.Before) (feed w.point) (here w) ≡
        cond y (at_value (feed w.point) (here w)) (Refuses w.scratch w.flags)
    other y e f =
        has.each its.Before _ _ ∙ ap (λ (x : List Cell). after_indent w.setting.options x (here w)) next
        ∙ indent-other w.setting.options c cs (here w) e
        ∙ ap (λ (x : Bool). cond x (at_value (c ∷ cs) (here w)) (Refuses w.scratch w.flags)) f
        ∙ ap (λ (x : List Cell). cond y (at_value x (here w)) (Refuses w.scratch w.flags)) (sym next)

    go : (x y : Bool) → is_bullet b ≡ x → is_digit b && (not (interrupts w.flags) || nat_eq b 49) ≡ y →
        Steps B feed (Next (n.ListItem its.Before)) w (before_code w (Some b)).to (before_code w (Some b)).world
    go true y e f =
        rw e (bullet_means B feed w c cs (may_break w b) has s is next e refl)
    go false true e f =
        rw (e, f) (passes B feed _ _ w w refl refl (other true e f ∙ sym (has.each its.BeforeOrdered _ _)))
    go false false e f = rw (e, f) (passes B feed _ Nok w w refl refl (other false e f))

pub unordered_means : (B : Behaviour) (options : ParseOptions) (feed : Feed) (w : World) → HasItem B options →
    Steps B feed (Next (n.ListItem its.BeforeUnordered)) w
    (item_transition its.BeforeUnordered w).to (item_transition its.BeforeUnordered w).world
unfolding at_bullet
unordered_means B options feed w has =
    moves B feed _ _ w (item_transition its.BeforeUnordered w).world
    (enter parts.ListItemPrefix w.point ∷ []) refl refl
    (has.each its.BeforeUnordered _ _ ∙ sym (has.each its.Marker _ _))
