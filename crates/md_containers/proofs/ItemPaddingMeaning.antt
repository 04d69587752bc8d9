-- The states of a list item after its marker take one step of their rules: whether the rest of the line is blank, and
-- the whitespace before the content.
use Rattle.std.proofs.Common.{◌≡◌, ℕ, Bool, true, false, cond, not, ◌&&◌, nat_eq, List, [], ◌∷◌, ◌++◌, Option}
use Rattle.std.proofs.Common.{Some, None, refl, sym, ◌∙◌, ap, ap₂, arith, append_assoc}
use Rattle.md_engine.specs.declared.configuration.ParseOptions.{ParseOptions}
use Rattle.md_engine.specs.declared.event.Event.{Event}
use Rattle.md_engine.specs.declared.event.Name.TheVariants as parts
use Rattle.md_engine.specs.declared.state.Name.TheVariants as n
use Rattle.md_engine.specs.declared.state.State.TheVariants.{Nok, Next}
use Rattle.md_engine.specs.declared.state.blank_line.State.TheVariants as blank_line
use Rattle.md_engine.specs.declared.state.list_item.State.{State as ItemState}
use Rattle.md_engine.specs.declared.state.list_item.State.TheVariants as its
use Rattle.md_engine.specs.declared.state.space_or_tab.State.TheVariants as space_or_tab
use Rattle.md_engine.specs.declared.tokenizer.Frame.{Frame}
use Rattle.md_engine.specs.declared.tokenizer.Scratch.{Scratch}
use Rattle.md_engine.specs.Meaning.{Accepts, Behaviour, Cell, Feed, Here, Outcome, Refuses, Steps, here, resume}
use Rattle.md_engine.specs.World.{World, after}
use Rattle.md_engine.specs.Sees.{Sees, ahead}
use Rattle.md_engine.proofs.StepOf.{begins_only, moves, passes}
use Rattle.md_containers.specs.Interrupts.{interrupts}
use Rattle.md_containers.specs.Item.{after_code, blank_code, filled_transition, item_transition, prefix_other_code}
use Rattle.md_containers.specs.Item.{unseen, whitespace_after_code}
use Rattle.md_containers.specs.ItemRule.{HasItem, after_columns, after_marker, following_padding, following_prefix}
use Rattle.md_containers.specs.ItemRule.{filled_at, one_column, padding_at}
use Rattle.md_meaning.specs.Rest.{is_blank, is_white}
use Rattle.md_leaves.specs.BlankRule.{blank_at, blank_events}
use Rattle.md_events.specs.Ahead.{after_white, begins_white, from_ending, line_bytes, line_end, white_at, white_rest}
use Rattle.md_events.specs.Events.Nested.{enter, exit}
use Rattle.md_events.specs.Look.{looks_after, seen_after}
use Rattle.md_events.specs.Spaces.{IsRest, asking, calmed, sees_white}
use Rattle.md_events.proofs.AheadLemmas.{white-no_ending}
use Rattle.md_events.proofs.LookLemmas.{seen-first}
use Rattle.md_events.proofs.WhiteMeaning.{begins-seen, following_white, white-tried}
use Rattle.md_containers.proofs.ItemBeginMeaning.{frame_here, proceeded-back}

-- the first byte after whitespace says whether the rest of a line is blank
blank-following : (cells : List Cell) (b : ℕ) → seen_after cells ≡ Some b → is_blank (line_bytes cells) ≡ nat_eq b 10
blank-following [] b seen = cc
blank-following (c ∷ cs) b seen = go (is_white c.byte) refl seen (blank-following cs b)
  where
    last : (y : Bool) → is_white c.byte ≡ false → nat_eq c.byte 10 ≡ y → is_blank (line_bytes (c ∷ cs)) ≡ y
    last true k e = rw e refl
    last false k e = rw (e, k) refl

    go : (x : Bool) → is_white c.byte ≡ x → cond x (seen_after cs) (Some c.byte) ≡ Some b →
        (seen_after cs ≡ Some b → is_blank (line_bytes cs) ≡ nat_eq b 10) →
        is_blank (line_bytes (c ∷ cs)) ≡ nat_eq b 10
    go true k is next = rw (white-no_ending c.byte k, k) (next is)
    go false k is next =
        let same : c.byte ≡ b = cc in last (nat_eq c.byte 10) k refl ∙ ap (λ (x : ℕ). nat_eq x 10) same

blank-outcome : (cells : List Cell) (h : Here) (x : Bool) → is_blank (line_bytes cells) ≡ x →
    blank_at cells h ≡
    cond x
    (Accepts (record h { events = h.events ++ blank_events cells h.point; point = line_end cells h.point })
    (from_ending cells))
    (Refuses h.scratch h.flags)
unfolding blank_at
blank-outcome cells h x e = rw e refl

-- the choice between the state of a blank rest and that of any other
pub choice_means : (B : Behaviour) (options : ParseOptions) (feed : Feed) (w : World) (name blank filled : ItemState)
    (o : Option ℕ) →
    HasItem B options → Sees feed w → looks_after w ≡ o →
    B (n.ListItem name) (feed w.point) (here w) ≡
    cond (is_blank (line_bytes (feed w.point))) (B (n.ListItem blank) (feed w.point) (here w))
    (B (n.ListItem filled) (feed w.point) (here w)) →
    Steps B feed (Next (n.ListItem name)) w (blank_code blank filled w o).to (blank_code blank filled w o).world
choice_means B options feed w name blank filled None has s e is =
    begins_only B feed _ _ w (blank_code blank filled w None).world
    (frame_here (Next (n.ListItem blank)) (Next (n.ListItem filled)) true w) refl refl
    (is ∙ go (is_blank (line_bytes (feed w.point))) refl
    ∙ ap (resume B feed w.events (frame_here (Next (n.ListItem blank)) (Next (n.ListItem filled)) true w))
    (sym (has.blank.each blank_line.Start _ _)))
  where
    go : (x : Bool) → is_blank (line_bytes (feed w.point)) ≡ x →
        cond x (B (n.ListItem blank) (feed w.point) (here w)) (B (n.ListItem filled) (feed w.point) (here w)) ≡
        resume B feed w.events (frame_here (Next (n.ListItem blank)) (Next (n.ListItem filled)) true w)
        (blank_at (feed w.point) (here w))
    go true k =
        sym
        (ap (resume B feed w.events (frame_here (Next (n.ListItem blank)) (Next (n.ListItem filled)) true w))
        (blank-outcome (feed w.point) (here w) true k)
        ∙ proceeded-back B (Next (n.ListItem blank)) feed w w.scratch w.flags)
    go false k =
        sym
        (ap (resume B feed w.events (frame_here (Next (n.ListItem blank)) (Next (n.ListItem filled)) true w))
        (blank-outcome (feed w.point) (here w) false k)
        ∙ proceeded-back B (Next (n.ListItem filled)) feed w w.scratch w.flags)
choice_means B options feed w name blank filled (Some b) has s e is =
    go (nat_eq b 10) refl
    (is
    ∙ ap
    (λ (x : Bool).
    cond x (B (n.ListItem blank) (feed w.point) (here w)) (B (n.ListItem filled) (feed w.point) (here w)))
    (blank-following (feed w.point) b (seen-first feed w b s e)))
  where
    go : (x : Bool) → nat_eq b 10 ≡ x →
        B (n.ListItem name) (feed w.point) (here w) ≡
        cond (nat_eq b 10) (B (n.ListItem blank) (feed w.point) (here w))
        (B (n.ListItem filled) (feed w.point) (here w)) →
        Steps B feed (Next (n.ListItem name)) w (blank_code blank filled w (Some b)).to
        (blank_code blank filled w (Some b)).world
    go true k same = rw k (passes B feed _ _ w w refl refl (rw k at same))
    go false k same = rw k (passes B feed _ _ w w refl refl (rw k at same))

pub marker_after_means : (B : Behaviour) (options : ParseOptions) (feed : Feed) (w : World) → HasItem B options →
    Sees feed w →
    Steps B feed (Next (n.ListItem its.MarkerAfter)) w
    (blank_code its.After its.MarkerAfterFilled w (looks_after w)).to
    (blank_code its.After its.MarkerAfterFilled w (looks_after w)).world
unfolding after_marker
marker_after_means B options feed w has s =
    choice_means B options feed w its.MarkerAfter its.After its.MarkerAfterFilled (looks_after w) has s refl
    (has.each its.MarkerAfter _ _
    ∙ ap₂ (λ (a b : Outcome). cond (is_blank (line_bytes (feed w.point))) a b) (sym (has.each its.After _ _))
    (sym (has.each its.MarkerAfterFilled _ _)))

filled-at : (cells : List Cell) (h : Here) (x y : Bool) → begins_white cells ≡ x →
    begins_white (white_rest 4 cells) ≡ y →
    filled_at cells h ≡
    cond (x && not y)
    (following_prefix (white_rest 4 cells)
    (after_columns 4 cells (record h { scratch = record h.scratch { seen = true } })))
    (one_column cells (record h { scratch = record h.scratch { seen = true } }))
unfolding filled_at
filled-at cells h x y e f = rw (e, f) refl

padding-at : (cells : List Cell) (h : Here) (x y : Bool) → begins_white cells ≡ x →
    begins_white (white_rest 4 cells) ≡ y →
    padding_at cells h ≡
    cond (x && not y) (Accepts (after_columns 4 cells h) (white_rest 4 cells)) (Refuses (calmed h.scratch) h.flags)
unfolding padding_at following_padding
padding-at cells h true true e f = rw (e, f) refl
padding-at cells h true false e f = rw (e, f) refl
padding-at cells h false y e f = rw e refl

pub filled_means : (B : Behaviour) (options : ParseOptions) (feed : Feed) (w : World) → HasItem B options →
    IsRest w.scratch →
    Steps B feed (Next (n.ListItem its.MarkerAfterFilled)) w (filled_transition w).to (filled_transition w).world
filled_means B options feed w has is =
    begins_only B feed _ _ w (filled_transition w).world f refl refl
    (has.each its.MarkerAfterFilled _ _ ∙ filled-at cells (here w) white more refl refl
    ∙ go (white && not more)
    ∙ ap (resume B feed w.events f) (sym (has.each its.Whitespace _ _ ∙ padding-at cells k white more refl refl)))
  where
    f : Frame
    f = frame_here (Next (n.ListItem its.After)) (Next (n.ListItem its.PrefixOther)) false w

    cells : List Cell
    cells = feed w.point

    white : Bool
    white = begins_white cells

    more : Bool
    more = begins_white (white_rest 4 cells)

    k : Here
    k = record (here w) { scratch = record w.scratch { seen = true } }

    calm : calmed k.scratch ≡ k.scratch
    calm = let e : calmed w.scratch ≡ w.scratch =
        ap calmed is ∙ sym is in ap (λ (s : Scratch). record s { seen = true }) e

    go : (x : Bool) →
        cond x (following_prefix (white_rest 4 cells) (after_columns 4 cells k)) (one_column cells k) ≡
        resume B feed w.events f
        (cond x (Accepts (after_columns 4 cells k) (white_rest 4 cells)) (Refuses (calmed k.scratch) k.flags))
    go true = sym (has.each its.After _ _)
    go false =
        sym
        (proceeded-back B (Next (n.ListItem its.PrefixOther)) feed w (calmed k.scratch) w.flags
        ∙ ap (λ (s : Scratch). B (n.ListItem its.PrefixOther) cells (record (here w) { scratch = s })) calm
        ∙ has.each its.PrefixOther _ _)

-- where no whitespace is, none is taken
white-refused : (cells : List Cell) (h : Here) → begins_white cells ≡ false →
    white_at cells (record h { scratch = asking 1 4 0 h.scratch }) ≡ Refuses (calmed h.scratch) h.flags
unfolding white_at after_white
white-refused cells h e = rw e refl

padding-some : (cells : List Cell) (h : Here) → begins_white cells ≡ true →
    padding_at cells h ≡ following_padding (white_rest 4 cells) (following_white 4 cells h)
unfolding padding_at
padding-some cells h e = rw e refl

padding-none : (cells : List Cell) (h : Here) → begins_white cells ≡ false →
    padding_at cells h ≡ Refuses (calmed h.scratch) h.flags
unfolding padding_at
padding-none cells h e = rw e refl

pub whitespace_means : (B : Behaviour) (options : ParseOptions) (feed : Feed) (w : World) (x : Bool) →
    HasItem B options → begins_white (feed w.point) ≡ x →
    Steps B feed (Next (n.ListItem its.Whitespace)) w (item_transition its.Whitespace w).to
    (item_transition its.Whitespace w).world
whitespace_means B options feed w true has e =
    let f : Frame = frame_here (Next (n.ListItem its.WhitespaceAfter)) Nok false w in
    begins_only B feed _ _ w (item_transition its.Whitespace w).world f refl refl
    (has.each its.Whitespace _ _ ∙ padding-some (feed w.point) (here w) e ∙ sym (has.each its.WhitespaceAfter _ _)
    ∙ white-tried B feed f w.events (feed w.point) (here w) 1 4 has.white e (omega arith) (omega arith) refl)
whitespace_means B options feed w false has e =
    let f : Frame = frame_here (Next (n.ListItem its.WhitespaceAfter)) Nok false w in
    begins_only B feed _ _ w (item_transition its.Whitespace w).world f refl refl
    (has.each its.Whitespace _ _ ∙ padding-none (feed w.point) (here w) e
    ∙ ap (resume B feed w.events f)
    (sym (has.white.each space_or_tab.Start _ _ ∙ white-refused (feed w.point) (here w) e)))

padding-ended : (cells : List Cell) (h : Here) (x : Bool) → begins_white cells ≡ x →
    following_padding cells h ≡ cond x (Refuses h.scratch h.flags) (Accepts h cells)
unfolding following_padding
padding-ended cells h x e = rw e refl

pub whitespace_after_means : (B : Behaviour) (options : ParseOptions) (feed : Feed) (w : World) (x : Bool) →
    HasItem B options → Sees feed w → sees_white w.current ≡ x →
    Steps B feed (Next (n.ListItem its.WhitespaceAfter)) w (whitespace_after_code w x).to
    (whitespace_after_code w x).world
whitespace_after_means B options feed w true has s e =
    passes B feed _ Nok w w refl refl
    (has.each its.WhitespaceAfter _ _ ∙ padding-ended (feed w.point) (here w) true (begins-seen feed w s ∙ e))
whitespace_after_means B options feed w false has s e =
    passes B feed _ _ w w refl refl
    (has.each its.WhitespaceAfter _ _ ∙ padding-ended (feed w.point) (here w) false (begins-seen feed w s ∙ e))

column-taken : (feed : Feed) (w : World) (h : Here) (o : Option ℕ) → sees_white o ≡ true →
    one_column (ahead feed w o) h ≡
    following_prefix (feed (after w.setting w.point))
    (record h {
      events = h.events ++ enter parts.SpaceOrTab h.point ∷ exit parts.SpaceOrTab (after w.setting w.point) ∷ [];
      point = after w.setting w.point;
    })
unfolding one_column
column-taken feed w h None e = cc
column-taken feed w h (Some b) e = rw e refl

column-none : (feed : Feed) (w : World) (h : Here) (o : Option ℕ) → sees_white o ≡ false →
    one_column (ahead feed w o) h ≡ Refuses (unseen h.scratch) h.flags
unfolding one_column
column-none feed w h None e = refl
column-none feed w h (Some b) e = rw e refl

pub prefix_other_means : (B : Behaviour) (options : ParseOptions) (feed : Feed) (w : World) (x : Bool) →
    HasItem B options → Sees feed w → sees_white w.current ≡ x →
    Steps B feed (Next (n.ListItem its.PrefixOther)) w (prefix_other_code w x).to (prefix_other_code w x).world
prefix_other_means B options feed w true has s e =
    let q = after w.setting w.point in
    let a = enter parts.SpaceOrTab w.point in
    let b = exit parts.SpaceOrTab q in
    moves B feed _ _ w (prefix_other_code w true).world (a ∷ b ∷ []) refl (append_assoc w.events (a ∷ []) (b ∷ []))
    (has.each its.PrefixOther _ _ ∙ ap (λ (x : List Cell). one_column x (here w)) s.next
    ∙ column-taken feed w (here w) w.current e
    ∙ ap (λ (es : List Event). following_prefix (feed q) (record (here w) { events = es; point = q }))
    (sym (append_assoc w.events (a ∷ []) (b ∷ [])))
    ∙ sym (has.each its.After _ _))
prefix_other_means B options feed w false has s e =
    passes B feed _ Nok w (prefix_other_code w false).world refl refl
    (has.each its.PrefixOther _ _ ∙ ap (λ (x : List Cell). one_column x (here w)) s.next
    ∙ column-none feed w (here w) w.current e)

pub after_means : (B : Behaviour) (options : ParseOptions) (feed : Feed) (w : World) (x : Bool) →
    HasItem B options → not w.scratch.seen && interrupts w.flags ≡ x →
    Steps B feed (Next (n.ListItem its.After)) w (after_code w x (not w.scratch.seen)).to
    (after_code w x (not w.scratch.seen)).world
unfolding following_prefix
after_means B options feed w true has e =
    passes B feed _ Nok w (after_code w true (not w.scratch.seen)).world refl refl
    (has.each its.After _ _ ∙ rw e refl)
after_means B options feed w false has e =
    moves B feed _ _ w (after_code w false (not w.scratch.seen)).world (exit parts.ListItemPrefix w.point ∷ [])
    refl refl (has.each its.After _ _ ∙ rw e refl)
