-- Each state of a delimiter row takes one step of its rule.
use Rattle.std.proofs.Common.{◌≡◌, ℕ, Bool, true, false, nat_eq, List, [], ◌∷◌, ◌++◌, Option, Some, None}
use Rattle.std.proofs.Common.{refl, sym, ◌∙◌, ap, arith, append-nil, append_assoc}
use Rattle.md_engine.specs.declared.configuration.ParseOptions.{ParseOptions}
use Rattle.md_engine.specs.declared.event.Event.{Event}
use Rattle.md_engine.specs.declared.event.Name.{Name}
use Rattle.md_engine.specs.declared.event.Name.TheVariants.{SpaceOrTab}
use Rattle.md_engine.specs.declared.event.Name.TheVariants as parts
use Rattle.md_engine.specs.declared.event.Point.{Point}
use Rattle.md_engine.specs.declared.state.Name.TheVariants as n
use Rattle.md_engine.specs.declared.state.gfm_table.State.{State as TableState}
use Rattle.md_engine.specs.declared.state.gfm_table.State.TheVariants as its
use Rattle.md_engine.specs.declared.state.State.{State}
use Rattle.md_engine.specs.declared.state.State.TheVariants.{Next}
use Rattle.md_engine.specs.declared.tokenizer.Frame.{Frame}
use Rattle.md_engine.specs.declared.tokenizer.Scratch.{Scratch}
use Rattle.md_engine.specs.declared.tokenizer.held_leaf.HeldLeaf.TheVariants as held_leaf
use Rattle.md_engine.specs.Meaning.{Accepts, Behaviour, Cell, Feed, Here, Refuses, Steps, proceeds, here}
use Rattle.md_engine.specs.Scheme.{position}
use Rattle.md_engine.specs.World.{World, after}
use Rattle.md_engine.specs.Sees.{Sees, ahead, cell_here}
use Rattle.md_engine.proofs.StepOf.{begins, begins_only, moves, passes}
use Rattle.md_leaves.proofs.LeafSteps.{following-joined, sees-one, white-run, white_frame}
use Rattle.md_events.specs.Ahead.{begins_white, white_rest}
use Rattle.md_events.specs.Events.Nested.{enter, exit}
use Rattle.md_events.specs.Spaces.{IsRest, any_size, calmed, sees_white, small_indent}
use Rattle.md_events.specs.Transition.{Transition}
use Rattle.md_events.proofs.AheadLemmas.{small-some}
use Rattle.md_events.proofs.WhiteMeaning.{begins-seen, white-tried}
use Rattle.md_tables.specs.Delimiter.{Aligns, Dash, Divides, IsCounting, IsOfDelimiter, Mark, Other, Stops, White}
use Rattle.md_tables.specs.Delimiter.{before_code, cell_after_code, delimiter_transition, ends_code, filled}
use Rattle.md_tables.specs.Delimiter.{filler_code, is_counted, left_after_code, mark, mark_of, marked, refused}
use Rattle.md_tables.specs.Delimiter.{row_entered, uncounted, unfilled, value_before_code, white_on}
use Rattle.md_tables.specs.Delimiter.IsOfDelimiter.{Before, CellAfter, CellBefore, Filler as InFiller, LeftAfter}
use Rattle.md_tables.specs.Delimiter.IsOfDelimiter.{RightAfter, Refused, Start, ValueBefore}
use Rattle.md_tables.specs.DelimiterRule.{Apart, Following, Colon, Counts, Dashes, Fails, Filler, Front, Proceeds}
use Rattle.md_tables.specs.DelimiterRule.{HasDelimiter, Left, Marks, Open, Pipe, Place, Run, Space, begun}
use Rattle.md_tables.specs.DelimiterRule.{following_white, closes, counted, delimiter_at, is_continued, in_row, may_end}
use Rattle.md_tables.specs.DelimiterRule.{met, move, opens, row_closes, row_opens}
use Rattle.md_tables.proofs.DelimiterLemmas.{InFollowing, InOpen, MaySpace, Recorded, apart-none, apart-white}
use Rattle.md_tables.proofs.DelimiterLemmas.{one-ends, row-begins, row-ends, row-ends_line, row-ends_none, row-proceeds}
use Rattle.md_tables.proofs.DelimiterLemmas.{takes-white, is_dash, is_stop, recorded, recorded-as, white-refused}

-- What is seen of a mark.
record SeesMark (feed : Feed) (w : World) (x : Mark) : Type 0 where
  pub byte : ℕ
  pub next : feed w.point ≡ cell_here feed w byte ∷ feed (after w.setting w.point)
  pub is : mark_of byte ≡ x

abbrev is_here : Mark → Bool
is_here Stops = false
is_here _ = true

sees-mark : (feed : Feed) (w : World) (x : Mark) → Sees feed w → mark w.current ≡ x → is_here x ≡ true →
    SeesMark feed w x
sees-mark feed w x s e some = go w.current e s.next
  where
    go : (o : Option ℕ) → mark o ≡ x → feed w.point ≡ ahead feed w o → SeesMark feed w x
    go None k at = let no : false ≡ true = ap is_here k ∙ some in cc
    go (Some b) k at = record { byte = b; next = at; is = k }

-- whitespace is seen just if the mark is whitespace
mark-white : (o : Option ℕ) (x : Mark) → mark o ≡ x → (x ≡ White → ⊥) → sees_white o ≡ false
mark-white None x e dark = refl
mark-white (Some b) x e dark = go x (recorded-as b x e) dark
  where
    go : (y : Mark) → Recorded b y → (y ≡ White → ⊥) → sees_white (Some b) ≡ false
    go Stops t dark = t.white
    go White t dark = absurd (dark refl)
    go Divides t dark = t.white
    go Aligns t dark = t.white
    go Dash t dark = t.white
    go Other t dark = t.white

white-mark : (o : Option ℕ) → mark o ≡ White → sees_white o ≡ true
white-mark None e = cc
white-mark (Some b) e = (recorded-as b White e).white

-- it refuses
refused_means : (B : Behaviour) (feed : Feed) (from : State) (w : World) →
    proceeds B from (feed w.point) (here w) ≡ Refuses (uncounted w.scratch) w.flags →
    Steps B feed from w (refused w).to (refused w).world
refused_means B feed from w e = passes B feed from _ w (refused w).world refl refl e

-- what is there does not end the line
not-stop : (y : Mark) → is_here y ≡ true → is_stop y ≡ false
not-stop Stops k = cc
not-stop White k = refl
not-stop Divides k = refl
not-stop Aligns k = refl
not-stop Dash k = refl
not-stop Other k = refl

-- a byte that may not be there
fails-here : (feed : Feed) (w : World) (place : Place) (x : Mark) (h : Here) → Sees feed w → mark w.current ≡ x →
    is_here x ≡ true → move place x ≡ Fails →
    in_row Apart place (feed w.point) h ≡ Refuses (uncounted h.scratch) h.flags
fails-here feed w place x h s e some none =
    let saw = sees-mark feed w x s e some in
    let t = recorded-as saw.byte x saw.is in
    ap (λ (y : List Cell). in_row Apart place y h) saw.next
    ∙ row-begins place (cell_here feed w saw.byte) (feed (after w.setting w.point)) h Fails
    (ap (move place) saw.is ∙ none)
    (t.stop ∙ not-stop x some)

-- the end of the line where the row may not end, and where it may
stops-here : (feed : Feed) (w : World) (place : Place) (h : Here) → Sees feed w → mark w.current ≡ Stops →
    may_end place ≡ false → in_row Apart place (feed w.point) h ≡ Refuses (uncounted h.scratch) h.flags
unfolding in_row
stops-here feed w place h s e none = go w.current e s.next
  where
    go : (o : Option ℕ) → mark o ≡ Stops → feed w.point ≡ ahead feed w o →
        in_row Apart place (feed w.point) h ≡ Refuses (uncounted h.scratch) h.flags
    go None k at = rw (at, none) refl
    go (Some b) k at = let t = recorded-as b Stops k in rw (at, t.stop, none) refl

-- where the row may end in both places
ends-meet : (feed : Feed) (w : World) (p q : Place) (h : Here) → Sees feed w → mark w.current ≡ Stops →
    may_end p ≡ may_end q → in_row Apart p (feed w.point) h ≡ in_row Apart q (feed w.point) h
unfolding in_row
ends-meet feed w p q h s e same = go w.current e s.next
  where
    go : (o : Option ℕ) → mark o ≡ Stops → feed w.point ≡ ahead feed w o →
        in_row Apart p (feed w.point) h ≡ in_row Apart q (feed w.point) h
    go None k at = rw (at, same) refl
    go (Some b) k at = let t = recorded-as b Stops k in rw (at, t.stop, same) refl

-- a byte that leads to the same from both places
places-meet : (feed : Feed) (w : World) (p q : Place) (x : Mark) (h : Here) → Sees feed w → mark w.current ≡ x →
    is_here x ≡ true → move p x ≡ move q x →
    in_row Apart p (feed w.point) h ≡ in_row Apart q (feed w.point) h
unfolding in_row
places-meet feed w p q x h s e some same =
    let saw = sees-mark feed w x s e some in
    let t = recorded-as saw.byte x saw.is in
    let dark : nat_eq saw.byte 10 ≡ false = t.stop ∙ not-stop x some in
    let both : move p (mark_of saw.byte) ≡ move q (mark_of saw.byte) = rw saw.is same in
    rw (saw.next, dark, both) refl

-- Whitespace that may be left out.

white-here : (feed : Feed) (w : World) (place : Place) (h : Here) → MaySpace place → Sees feed w →
    sees_white w.current ≡ true →
    in_row Apart place (feed w.point) h ≡
    in_row Space place (feed w.point) (record h { events = h.events ++ enter SpaceOrTab h.point ∷ [] })
white-here feed w place h may s e =
    let saw = sees-one feed w sees_white refl s e in
    ap (λ (x : List Cell). in_row Apart place x h) saw.1
    ∙ apart-white place (cell_here feed w saw.0) (feed (after w.setting w.point)) h may saw.2
    ∙ ap
    (λ (x : List Cell). in_row Space place x (record h { events = h.events ++ enter SpaceOrTab h.point ∷ [] }))
    (sym saw.1)

-- what it keeps does not touch whitespace
calm : (s : Scratch) → IsRest (uncounted s) → calmed s ≡ s
calm s r = ap (λ (t : Scratch). record s { whitespace = t.whitespace }) (sym r)

white_means : (B : Behaviour) (options : ParseOptions) (feed : Feed) (from : State) (w : World) (place : Place)
    (next : TableState) (x : Bool) →
    HasDelimiter B options → MaySpace place → Sees feed w → IsRest (uncounted w.scratch) → sees_white w.current ≡ x →
    proceeds B from (feed w.point) (here w) ≡ in_row Apart place (feed w.point) (here w) →
    ((cells : List Cell) (h : Here) → B (n.GfmTable next) cells h ≡ following_white place cells h) →
    Steps B feed from w (white_on w any_size next x).to (white_on w any_size next x).world
white_means B options feed from w place next true has may s r e same next_is =
    let h : Here = here w in
    let frame : Frame = white_frame (Next (n.GfmTable next)) w w.events in
    begins_only B feed from _ w (white_on w any_size next true).world frame refl refl
    (same ∙ white-here feed w place h may s e
    ∙ white-run _ (in_row Space place) (following_white place) any_size (feed w.point)
    (record h { events = h.events ++ enter SpaceOrTab h.point ∷ [] }) (takes-white place may) tt
    (omega (arith, s.short))
    ∙ ap (following_white place (white_rest any_size (feed w.point)))
    (following-joined any_size (feed w.point) h (calm w.scratch r))
    ∙ sym (next_is _ _)
    ∙ white-tried B feed frame w.events (feed w.point) h 0 any_size has.white (begins-seen feed w s ∙ e) (omega arith)
    (omega arith) refl)
white_means B options feed from w place next false has may s r e same next_is =
    passes B feed from _ w w refl refl
    (same ∙ sym (apart-none place (feed w.point) (here w) (begins-seen feed w s ∙ e)) ∙ sym (next_is _ _))

-- A pipe or a colon.

data IsMark : Mark → Run → Name → Type 0 where
  OfPipe : IsMark Divides Pipe parts.GfmTableCellDivider
  OfColon : IsMark Aligns Colon parts.GfmTableDelimiterMarker

mark-run : (b : ℕ) (x : Mark) (run : Run) (name : Name) → IsMark x run name → Recorded b x → begun b ≡ run
mark-run b _ _ _ OfPipe t = rw (t.white, t.pipe) refl
mark-run b _ _ _ OfColon t = rw (t.white, t.pipe, t.colon) refl

mark-one : (x : Mark) (run : Run) (name : Name) → IsMark x run name → (b : ℕ) → is_continued run b ≡ false
mark-one _ _ _ OfPipe b = refl
mark-one _ _ _ OfColon b = refl

mark-opens : (x : Mark) (run : Run) (name : Name) → IsMark x run name → (p : Point) → opens run p ≡ enter name p ∷ []
mark-opens _ _ _ OfPipe p = refl
mark-opens _ _ _ OfColon p = refl

mark-closes : (x : Mark) (run : Run) (name : Name) → IsMark x run name → (p : Point) → closes run p ≡ exit name p ∷ []
mark-closes _ _ _ OfPipe p = refl
mark-closes _ _ _ OfColon p = refl

mark-here : (x : Mark) (run : Run) (name : Name) → IsMark x run name → is_here x ≡ true
mark-here _ _ _ OfPipe = refl
mark-here _ _ _ OfColon = refl

mark_means : (B : Behaviour) (feed : Feed) (from : State) (w : World) (events added : List Event) (place q : Place)
    (x : Mark) (run : Run) (name : Name) (next : TableState) →
    IsMark x run name → Sees feed w → mark w.current ≡ x → move place x ≡ Marks q → events ≡ w.events ++ added →
    proceeds B from (feed w.point) (here w) ≡ in_row Apart place (feed w.point) (record (here w) { events = events }) →
    ((cells : List Cell) (h : Here) → B (n.GfmTable next) cells h ≡ in_row Apart q cells h) →
    (let left : Transition = marked (record w { events = events }) name next in Steps B feed from w left.to left.world)
mark_means B feed from w events added place q x run name next of s e to is same next_is =
    let saw = sees-mark feed w x s e (mark-here x run name of) in
    let t = recorded-as saw.byte x saw.is in
    let c : Cell = cell_here feed w saw.byte in
    let cs : List Cell = feed (after w.setting w.point) in
    let p : Point = after w.setting w.point in
    let h : Here = record (here w) { events = events } in
    let dark : nat_eq saw.byte 10 ≡ false = t.stop ∙ not-stop x (mark-here x run name of) in
    moves B feed from _ w (marked (record w { events = events }) name next).world
    (added ++ enter name w.point ∷ exit name p ∷ []) refl (rw is (simp append_assoc))
    (same ∙ ap (λ (y : List Cell). in_row Apart place y h) saw.next
    ∙ row-begins place c cs h (Marks q) (ap (move place) saw.is ∙ to) dark
    ∙ ap
    (λ (y : Run).
    in_row y q cs (record h { events = h.events ++ opens y h.point; point = p; scratch = met h.scratch }))
    (mark-run saw.byte x run name of t)
    ∙ ap
    (λ (es : List Event). in_row run q cs (record h { events = h.events ++ es; point = p; scratch = met h.scratch }))
    (mark-opens x run name of h.point)
    ∙ one-ends run q cs (record h { events = h.events ++ enter name h.point ∷ []; point = p; scratch = met h.scratch })
    (mark-one x run name of)
    ∙ ap
    (λ (es : List Event).
    in_row Apart q cs
    (record h { events = (h.events ++ enter name h.point ∷ []) ++ es; point = p; scratch = met h.scratch }))
    (mark-closes x run name of p)
    ∙ sym (next_is _ _))

-- Each state.

no-events : (w : World) → w.events ≡ w.events ++ []
no-events w = sym (append-nil w.events)

turned_means : (B : Behaviour) (feed : Feed) (from to : State) (w : World) →
    proceeds B from (feed w.point) (here w) ≡ proceeds B to (feed w.point) (here w) → Steps B feed from w to w
turned_means B feed from to w same = passes B feed from to w w refl refl same

start_means : (B : Behaviour) (feed : Feed) (w : World) (x : Bool) → HasDelimiter B w.setting.options → Sees feed w →
    IsRest (uncounted w.scratch) → sees_white w.current ≡ x →
    (let left : Transition = white_on (row_entered w) (small_indent w.setting.options) its.HeadDelimiterBefore x in
    Steps B feed (Next (n.GfmTable its.HeadDelimiterStart)) w left.to left.world)
unfolding delimiter_at
start_means B feed w x has s r e = rw two (go x e)
  where
    two : row_entered w ≡ record w { events = w.events ++ row_opens w.point }
    two = ap (λ (es : List Event). record w { events = es }) (append_assoc w.events _ _)

    h : Here
    h = record (here w) { events = w.events ++ row_opens w.point }

    go : (y : Bool) → sees_white w.current ≡ y →
        (let left : Transition =
        white_on (record w { events = w.events ++ row_opens w.point }) (small_indent w.setting.options)
        its.HeadDelimiterBefore y in
        Steps B feed (Next (n.GfmTable its.HeadDelimiterStart)) w left.to left.world)
    go true k =
        let white : begins_white (feed w.point) ≡ true = begins-seen feed w s ∙ k in
        let frame : Frame = white_frame (Next (n.GfmTable its.HeadDelimiterBefore)) w h.events in
        begins B feed _ _ w
        (white_on (record w { events = h.events }) (small_indent w.setting.options) its.HeadDelimiterBefore true).world
        (row_opens w.point) frame refl refl
        (has.each its.HeadDelimiterStart Start _ _ ∙ rw white refl ∙ sym (has.each its.HeadDelimiterBefore Before _ _)
        ∙ white-tried B feed frame h.events (feed w.point) h 0 (small_indent w.setting.options) has.white white
        (small-some w.setting.options) (omega arith) refl)
    go false k =
        let none : begins_white (feed w.point) ≡ false = begins-seen feed w s ∙ k in
        moves B feed _ _ w
        (white_on (record w { events = h.events }) (small_indent w.setting.options) its.HeadDelimiterBefore false).world
        (row_opens w.point) refl refl
        (has.each its.HeadDelimiterStart Start _ _ ∙ rw none refl ∙ sym (has.each its.HeadDelimiterBefore Before _ _))

-- where no whitespace is, what is left after some
dark-here : (feed : Feed) (w : World) (place : Place) (x : Mark) → Sees feed w → mark w.current ≡ x → (x ≡ White → ⊥) →
    following_white place (feed w.point) (here w) ≡ in_row Apart place (feed w.point) (here w)
dark-here feed w place x s e dark =
    apart-none place (feed w.point) (here w) (begins-seen feed w s ∙ mark-white w.current x e dark)

white-valid : (feed : Feed) (w : World) (place : Place) → Sees feed w → mark w.current ≡ White →
    following_white place (feed w.point) (here w) ≡ Refuses (uncounted w.scratch) w.flags
white-valid feed w place s e =
    white-refused place (feed w.point) (here w) (begins-seen feed w s ∙ white-mark w.current e)

before_means : (B : Behaviour) (options : ParseOptions) (feed : Feed) (w : World) (x : Mark) → HasDelimiter B options →
    Sees feed w → mark w.current ≡ x →
    Steps B feed (Next (n.GfmTable its.HeadDelimiterBefore)) w (before_code w x).to (before_code w x).world
before_means B options feed w Dash has s e =
    turned_means B feed _ _ w
    (has.each its.HeadDelimiterBefore Before _ _ ∙ places-meet feed w Front Open Dash (here w) s e refl refl
    ∙ sym (dark-here feed w Open Dash s e (λ k. cc)) ∙ sym (has.each its.HeadDelimiterValueBefore ValueBefore _ _))
before_means B options feed w Aligns has s e =
    turned_means B feed _ _ w
    (has.each its.HeadDelimiterBefore Before _ _ ∙ places-meet feed w Front Open Aligns (here w) s e refl refl
    ∙ sym (dark-here feed w Open Aligns s e (λ k. cc)) ∙ sym (has.each its.HeadDelimiterValueBefore ValueBefore _ _))
before_means B options feed w Divides has s e =
    mark_means B feed _ w w.events [] Front Open Divides Pipe parts.GfmTableCellDivider its.HeadDelimiterCellBefore
    OfPipe s e refl (no-events w) (has.each its.HeadDelimiterBefore Before _ _)
    (has.each its.HeadDelimiterCellBefore CellBefore)
before_means B options feed w Stops has s e =
    refused_means B feed _ w (has.each its.HeadDelimiterBefore Before _ _ ∙ stops-here feed w Front (here w) s e refl)
before_means B options feed w White has s e =
    refused_means B feed _ w
    (has.each its.HeadDelimiterBefore Before _ _ ∙ fails-here feed w Front White (here w) s e refl refl)
before_means B options feed w Other has s e =
    refused_means B feed _ w
    (has.each its.HeadDelimiterBefore Before _ _ ∙ fails-here feed w Front Other (here w) s e refl refl)

value_before_means : (B : Behaviour) (options : ParseOptions) (feed : Feed) (w : World) (x : Mark) →
    HasDelimiter B options → Sees feed w → mark w.current ≡ x →
    Steps B feed (Next (n.GfmTable its.HeadDelimiterValueBefore)) w (value_before_code w x).to
    (value_before_code w x).world
value_before_means B options feed w Stops has s e =
    turned_means B feed _ _ w
    (has.each its.HeadDelimiterValueBefore ValueBefore _ _ ∙ dark-here feed w Open Stops s e (λ k. cc)
    ∙ ends-meet feed w Open Following (here w) s e refl ∙ sym (dark-here feed w Following Stops s e (λ k. cc))
    ∙ sym (has.each its.HeadDelimiterCellAfter CellAfter _ _))
value_before_means B options feed w Aligns has s e =
    mark_means B feed _ w w.events [] Open Left Aligns Colon parts.GfmTableDelimiterMarker
    its.HeadDelimiterLeftAlignmentAfter OfColon s e refl (no-events w)
    (has.each its.HeadDelimiterValueBefore ValueBefore _ _ ∙ dark-here feed w Open Aligns s e (λ k. cc))
    (has.each its.HeadDelimiterLeftAlignmentAfter LeftAfter)
value_before_means B options feed w Dash has s e =
    turned_means B feed _ _ w
    (has.each its.HeadDelimiterValueBefore ValueBefore _ _ ∙ dark-here feed w Open Dash s e (λ k. cc)
    ∙ places-meet feed w Open Left Dash (here w) s e refl refl
    ∙ sym (has.each its.HeadDelimiterLeftAlignmentAfter LeftAfter _ _))
value_before_means B options feed w White has s e =
    refused_means B feed _ w (has.each its.HeadDelimiterValueBefore ValueBefore _ _ ∙ white-valid feed w Open s e)
value_before_means B options feed w Divides has s e =
    refused_means B feed _ w
    (has.each its.HeadDelimiterValueBefore ValueBefore _ _ ∙ dark-here feed w Open Divides s e (λ k. cc)
    ∙ fails-here feed w Open Divides (here w) s e refl refl)
value_before_means B options feed w Other has s e =
    refused_means B feed _ w
    (has.each its.HeadDelimiterValueBefore ValueBefore _ _ ∙ dark-here feed w Open Other s e (λ k. cc)
    ∙ fails-here feed w Open Other (here w) s e refl refl)

left_after_means : (B : Behaviour) (options : ParseOptions) (feed : Feed) (w : World) (x : Mark) →
    HasDelimiter B options → Sees feed w → mark w.current ≡ x →
    Steps B feed (Next (n.GfmTable its.HeadDelimiterLeftAlignmentAfter)) w (left_after_code w x).to
    (left_after_code w x).world
left_after_means B options feed w Dash has s e =
    let saw = sees-mark feed w Dash s e refl in
    let t = recorded-as saw.byte Dash saw.is in
    let c : Cell = cell_here feed w saw.byte in
    let cs : List Cell = feed (after w.setting w.point) in
    let is : begun saw.byte ≡ Filler = rw (t.white, t.pipe, t.colon) refl in
    moves B feed _ _ w (filled w).world (enter parts.GfmTableDelimiterFiller w.point ∷ []) refl refl
    (has.each its.HeadDelimiterLeftAlignmentAfter LeftAfter _ _
    ∙ ap (λ (y : List Cell). in_row Apart Left y (here w)) saw.next
    ∙ row-begins Left c cs (here w) Counts (ap (move Left) saw.is) t.stop
    ∙ ap
    (λ (y : Run).
    in_row y Dashes cs
    (record (here w) {
      events = w.events ++ opens y w.point;
      point = after w.setting w.point;
      scratch = counted w.scratch;
    })) is
    ∙ sym (has.each its.HeadDelimiterFiller InFiller _ _))
left_after_means B options feed w Stops has s e =
    refused_means B feed _ w
    (has.each its.HeadDelimiterLeftAlignmentAfter LeftAfter _ _ ∙ stops-here feed w Left (here w) s e refl)
left_after_means B options feed w White has s e =
    refused_means B feed _ w
    (has.each its.HeadDelimiterLeftAlignmentAfter LeftAfter _ _ ∙ fails-here feed w Left White (here w) s e refl refl)
left_after_means B options feed w Divides has s e =
    refused_means B feed _ w
    (has.each its.HeadDelimiterLeftAlignmentAfter LeftAfter _ _ ∙ fails-here feed w Left Divides (here w) s e refl refl)
left_after_means B options feed w Aligns has s e =
    refused_means B feed _ w
    (has.each its.HeadDelimiterLeftAlignmentAfter LeftAfter _ _ ∙ fails-here feed w Left Aligns (here w) s e refl refl)
left_after_means B options feed w Other has s e =
    refused_means B feed _ w
    (has.each its.HeadDelimiterLeftAlignmentAfter LeftAfter _ _ ∙ fails-here feed w Left Other (here w) s e refl refl)

-- the dashes of a cell end with what is no dash
filler-ends : (feed : Feed) (w : World) (h : Here) (o : Option ℕ) → is_dash (mark o) ≡ false →
    in_row Filler Dashes (ahead feed w o) h ≡
    in_row Apart Dashes (ahead feed w o)
    (record h { events = h.events ++ exit parts.GfmTableDelimiterFiller h.point ∷ [] })
filler-ends feed w h None e = row-ends_none Filler Dashes h
filler-ends feed w h (Some b) e = go (nat_eq b 10) refl
  where
    go : (x : Bool) → nat_eq b 10 ≡ x →
        in_row Filler Dashes (ahead feed w (Some b)) h ≡
        in_row Apart Dashes (ahead feed w (Some b))
        (record h { events = h.events ++ exit parts.GfmTableDelimiterFiller h.point ∷ [] })
    go true k = row-ends_line Filler Dashes (cell_here feed w b) (feed (after w.setting w.point)) h k
    go false k =
        row-ends Filler Dashes (cell_here feed w b) (feed (after w.setting w.point)) h ((recorded b).dash ∙ e) k

filler-here : (B : Behaviour) (options : ParseOptions) (feed : Feed) (w : World) (x : Mark) → HasDelimiter B options →
    Sees feed w → mark w.current ≡ x → is_dash x ≡ false →
    proceeds B (Next (n.GfmTable its.HeadDelimiterFiller)) (feed w.point) (here w) ≡
    in_row Apart Dashes (feed w.point)
    (record (here w) { events = w.events ++ exit parts.GfmTableDelimiterFiller w.point ∷ [] })
filler-here B options feed w x has s e dash =
    has.each its.HeadDelimiterFiller InFiller _ _
    ∙ rw s.next (filler-ends feed w (here w) w.current (ap is_dash e ∙ dash))

unfilled_means : (B : Behaviour) (options : ParseOptions) (feed : Feed) (w : World) (x : Mark) →
    HasDelimiter B options → Sees feed w → mark w.current ≡ x → is_dash x ≡ false →
    (let h : Here = record (here w) { events = w.events ++ exit parts.GfmTableDelimiterFiller w.point ∷ [] } in
    in_row Apart Dashes (feed w.point) h ≡ in_row Apart Following (feed w.point) h) →
    Steps B feed (Next (n.GfmTable its.HeadDelimiterFiller)) w (unfilled w).to (unfilled w).world
unfilled_means B options feed w x has s e dash same =
    moves B feed _ _ w (unfilled w).world (exit parts.GfmTableDelimiterFiller w.point ∷ []) refl refl
    (filler-here B options feed w x has s e dash ∙ same
    ∙ sym (has.each its.HeadDelimiterRightAlignmentAfter RightAfter _ _))

filler_means : (B : Behaviour) (options : ParseOptions) (feed : Feed) (w : World) (x : Mark) → HasDelimiter B options →
    Sees feed w → mark w.current ≡ x →
    Steps B feed (Next (n.GfmTable its.HeadDelimiterFiller)) w (filler_code w x).to (filler_code w x).world
filler_means B options feed w Dash has s e =
    let saw = sees-mark feed w Dash s e refl in
    let t = recorded-as saw.byte Dash saw.is in
    passes B feed _ _ w (filler_code w Dash).world refl refl
    (has.each its.HeadDelimiterFiller InFiller _ _ ∙ ap (λ (y : List Cell). in_row Filler Dashes y (here w)) saw.next
    ∙ row-proceeds Filler Dashes (cell_here feed w saw.byte) (feed (after w.setting w.point)) (here w) (Proceeds Dashes)
    (ap (move Dashes) saw.is) t.stop t.dash
    ∙ sym (has.each its.HeadDelimiterFiller InFiller _ _))
filler_means B options feed w Aligns has s e =
    let events : List Event = w.events ++ exit parts.GfmTableDelimiterFiller w.point ∷ [] in
    mark_means B feed _ w events (exit parts.GfmTableDelimiterFiller w.point ∷ []) Dashes Following Aligns Colon
    parts.GfmTableDelimiterMarker its.HeadDelimiterRightAlignmentAfter OfColon s e refl refl
    (filler-here B options feed w Aligns has s e refl) (has.each its.HeadDelimiterRightAlignmentAfter RightAfter)
filler_means B options feed w Stops has s e =
    unfilled_means B options feed w Stops has s e refl (ends-meet feed w Dashes Following _ s e refl)
filler_means B options feed w White has s e =
    unfilled_means B options feed w White has s e refl (places-meet feed w Dashes Following White _ s e refl refl)
filler_means B options feed w Divides has s e =
    unfilled_means B options feed w Divides has s e refl (places-meet feed w Dashes Following Divides _ s e refl refl)
filler_means B options feed w Other has s e =
    unfilled_means B options feed w Other has s e refl (places-meet feed w Dashes Following Other _ s e refl refl)

-- at the end of the line a row that fits ends
row-fits : (feed : Feed) (w : World) (h : Here) → Sees feed w → mark w.current ≡ Stops → is_counted h.scratch ≡ true →
    in_row Apart Following (feed w.point) h ≡
    Accepts
    (record h {
      events = h.events ++ row_closes h.point;
      scratch = uncounted h.scratch;
      flags = record h.flags { leaf = held_leaf.Table };
    })
    (feed w.point)
unfolding in_row
row-fits feed w h s e counts = go w.current e s.next
  where
    go : (o : Option ℕ) → mark o ≡ Stops → feed w.point ≡ ahead feed w o →
        in_row Apart Following (feed w.point) h ≡
        Accepts
        (record h {
          events = h.events ++ row_closes h.point;
          scratch = uncounted h.scratch;
          flags = record h.flags { leaf = held_leaf.Table };
        })
        (feed w.point)
    go None k at = rw (at, counts, append-nil) refl
    go (Some b) k at = let t = recorded-as b Stops k in rw (at, t.stop, counts, append-nil) refl

row-short : (feed : Feed) (w : World) (h : Here) → Sees feed w → mark w.current ≡ Stops → is_counted h.scratch ≡ false →
    in_row Apart Following (feed w.point) h ≡ Refuses (uncounted h.scratch) h.flags
unfolding in_row
row-short feed w h s e counts = go w.current e s.next
  where
    go : (o : Option ℕ) → mark o ≡ Stops → feed w.point ≡ ahead feed w o →
        in_row Apart Following (feed w.point) h ≡ Refuses (uncounted h.scratch) h.flags
    go None k at = rw (at, counts) refl
    go (Some b) k at = let t = recorded-as b Stops k in rw (at, t.stop, counts) refl

ends_means : (B : Behaviour) (options : ParseOptions) (feed : Feed) (w : World) (x : Bool) → HasDelimiter B options →
    Sees feed w → mark w.current ≡ Stops → is_counted w.scratch ≡ x →
    Steps B feed (Next (n.GfmTable its.HeadDelimiterCellAfter)) w (ends_code w x).to (ends_code w x).world
ends_means B options feed w true has s e counts =
    let two : (ends_code w true).world ≡
    closed (w.events ++ row_closes w.point) = ap closed (append_assoc w.events _ _) in
    rw two
    (moves B feed _ _ w (closed (w.events ++ row_closes w.point)) (row_closes w.point) refl refl
    (has.each its.HeadDelimiterCellAfter CellAfter _ _ ∙ dark-here feed w Following Stops s e (λ k. cc)
    ∙ row-fits feed w (here w) s e counts))
  where
    closed : List Event → World
    closed es =
        record w { events = es; scratch = uncounted w.scratch; flags = record w.flags { leaf = held_leaf.Table } }
ends_means B options feed w false has s e counts =
    refused_means B feed _ w
    (has.each its.HeadDelimiterCellAfter CellAfter _ _ ∙ dark-here feed w Following Stops s e (λ k. cc)
    ∙ row-short feed w (here w) s e counts)

cell_after_means : (B : Behaviour) (options : ParseOptions) (feed : Feed) (w : World) (x : Mark) →
    HasDelimiter B options → Sees feed w → mark w.current ≡ x →
    Steps B feed (Next (n.GfmTable its.HeadDelimiterCellAfter)) w (cell_after_code w x).to (cell_after_code w x).world
cell_after_means B options feed w Stops has s e = ends_means B options feed w _ has s e refl
cell_after_means B options feed w Divides has s e =
    mark_means B feed _ w w.events [] Following Open Divides Pipe parts.GfmTableCellDivider its.HeadDelimiterCellBefore
    OfPipe s e refl (no-events w)
    (has.each its.HeadDelimiterCellAfter CellAfter _ _ ∙ dark-here feed w Following Divides s e (λ k. cc))
    (has.each its.HeadDelimiterCellBefore CellBefore)
cell_after_means B options feed w White has s e =
    refused_means B feed _ w (has.each its.HeadDelimiterCellAfter CellAfter _ _ ∙ white-valid feed w Following s e)
cell_after_means B options feed w Aligns has s e =
    refused_means B feed _ w
    (has.each its.HeadDelimiterCellAfter CellAfter _ _ ∙ dark-here feed w Following Aligns s e (λ k. cc)
    ∙ fails-here feed w Following Aligns (here w) s e refl refl)
cell_after_means B options feed w Dash has s e =
    refused_means B feed _ w
    (has.each its.HeadDelimiterCellAfter CellAfter _ _ ∙ dark-here feed w Following Dash s e (λ k. cc)
    ∙ fails-here feed w Following Dash (here w) s e refl refl)
cell_after_means B options feed w Other has s e =
    refused_means B feed _ w
    (has.each its.HeadDelimiterCellAfter CellAfter _ _ ∙ dark-here feed w Following Other s e (λ k. cc)
    ∙ fails-here feed w Following Other (here w) s e refl refl)

-- each state of a delimiter row takes one step of what it means
pub delimiter_steps : (B : Behaviour) (feed : Feed) (state : TableState) (w : World) → IsOfDelimiter state →
    HasDelimiter B w.setting.options → Sees feed w → IsCounting (position w) →
    Steps B feed (Next (n.GfmTable state)) w (delimiter_transition state w).to (delimiter_transition state w).world
delimiter_steps B feed _ w Start has s at = start_means B feed w _ has s at.rest refl
delimiter_steps B feed _ w Before has s at = before_means B _ feed w _ has s refl
delimiter_steps B feed _ w CellBefore has s at =
    white_means B _ feed _ w Open its.HeadDelimiterValueBefore _ has InOpen s at.rest refl
    (has.each its.HeadDelimiterCellBefore CellBefore _ _) (has.each its.HeadDelimiterValueBefore ValueBefore)
delimiter_steps B feed _ w ValueBefore has s at = value_before_means B _ feed w _ has s refl
delimiter_steps B feed _ w LeftAfter has s at = left_after_means B _ feed w _ has s refl
delimiter_steps B feed _ w InFiller has s at = filler_means B _ feed w _ has s refl
delimiter_steps B feed _ w RightAfter has s at =
    white_means B _ feed _ w Following its.HeadDelimiterCellAfter _ has InFollowing s at.rest refl
    (has.each its.HeadDelimiterRightAlignmentAfter RightAfter _ _) (has.each its.HeadDelimiterCellAfter CellAfter)
delimiter_steps B feed _ w CellAfter has s at = cell_after_means B _ feed w _ has s refl
delimiter_steps B feed _ w Refused has s at = refused_means B feed _ w (has.each its.HeadDelimiterNok Refused _ _)
