-- Each state of indented code takes one step of its rule.
use Rattle.std.proofs.Common.{◌≡◌, ℕ, ◌+◌, ◌-◌, ◌≤◌, Bool, true, false, cond, ◌&&◌, nat_lt, List, [], ◌∷◌, ◌++◌}
use Rattle.std.proofs.Common.{length, Option, Some, None, refl, sym, ◌∙◌, ap, ap₂, arith, append_assoc}
use Rattle.std.proofs.Math.Seq.{take-length}
use Rattle.std.specs.Prelude.{nat_le}
use Rattle.std.proofs.lemmas.Bool.{and_parts}
use Rattle.std.proofs.lemmas.Bool.Decides.{nat_tests}
use Rattle.md_engine.specs.declared.configuration.ParseOptions.{ParseOptions}
use Rattle.md_engine.specs.declared.event.Event.{Event}
use Rattle.md_engine.specs.declared.event.Name.TheVariants.{CodeFlowChunk, CodeIndented, SpaceOrTab}
use Rattle.md_engine.specs.declared.state.Name.TheVariants as n
use Rattle.md_engine.specs.declared.state.State.{State}
use Rattle.md_engine.specs.declared.state.State.TheVariants.{Next, Ok}
use Rattle.md_engine.specs.declared.state.code_indented.State.{State as CodeState}
use Rattle.md_engine.specs.declared.state.code_indented.State.TheVariants as its
use Rattle.md_engine.specs.declared.state.space_or_tab.State.TheVariants as space_or_tab
use Rattle.md_engine.specs.declared.tokenizer.Frame.{Frame}
use Rattle.md_engine.specs.declared.tokenizer.Scratch.{Scratch}
use Rattle.md_engine.specs.Meaning.{Accepts, Behaviour, Cell, Fails, Feed, Here, Outcome, Refuses, Steps, proceeds}
use Rattle.md_engine.specs.Meaning.{here, restored, resume}
use Rattle.md_engine.specs.Scheme.{position}
use Rattle.md_engine.specs.World.{World, after}
use Rattle.md_engine.specs.Sees.{Sees, ahead, cell_here}
use Rattle.md_engine.proofs.StepOf.{begins, begins_only, moves, passes, steps-as}
use Rattle.md_literal.specs.Code.{CodeInvariant, at_break_code, begun_code, blank_noted, chunk_begun, chunk_noted}
use Rattle.md_literal.specs.Code.{code_transition, further_after_code, further_begin_code, further_inside_code}
use Rattle.md_literal.specs.Code.{inside_blank_code, inside_code}
use Rattle.md_literal.specs.CodeRule.{CodeMeans, HasCode, at_break, after_columns, blank_ends, chunk_at, code_ends}
use Rattle.md_literal.specs.CodeRule.{further_after, further_begin, further_inside, further_line, in_blank, in_text}
use Rattle.md_literal.specs.CodeRule.{is_indented, line_at, or_blank, then_here}
use Rattle.md_leaves.specs.Further.{further_link}
use Rattle.md_leaves.proofs.LeafSteps.{Ended, end-seen, ends-seen, sees-one, white_frame}
use Rattle.md_events.specs.Ahead.{HasWhite, after_white, begins_white, inside_white, line_bytes, white_at}
use Rattle.md_events.specs.Ahead.{white_end, white_rest, white_size}
use Rattle.md_events.specs.Events.Nested.{enter, enter_link, exit}
use Rattle.md_meaning.specs.Bytes.{is_end}
use Rattle.md_meaning.specs.Rest.{is_white}
use Rattle.md_events.specs.Spaces.{IsRest, asking, calmed, ends_line, sees_white}
use Rattle.md_events.proofs.AheadLemmas.{none-size, white-no_ending}
use Rattle.md_events.proofs.WhiteMeaning.{begins-seen, white-tried}

-- So many columns of whitespace.

-- an attempt at so many columns takes them, if there are as many
white-exact : (cells : List Cell) (h : Here) (size : ℕ) → 1 ≤ size →
    white_at cells (record h { scratch = asking size size 0 h.scratch }) ≡
    cond (nat_le size (white_size size cells)) (Accepts (after_columns size cells h) (white_rest size cells))
    (Refuses (calmed h.scratch) h.flags)
unfolding white_at inside_white after_white
white-exact cells h size some = go (begins_white cells) (nat_le size (white_size size cells)) refl refl
  where
    go : (x y : Bool) → begins_white cells ≡ x → nat_le size (white_size size cells) ≡ y →
        white_at cells (record h { scratch = asking size size 0 h.scratch }) ≡
        cond (nat_le size (white_size size cells)) (Accepts (after_columns size cells h) (white_rest size cells))
        (Refuses (calmed h.scratch) h.flags)
    go true y s e =
        let room : size - 0 ≡ size = omega arith in
        let fits : nat_lt 0 size ≡ true = grind (arith, nat_tests) in
        let sum : 0 + white_size size cells ≡ white_size size cells = omega arith in
        rw (s, fits, room, sum) (by y e)
      where
        by : (y : Bool) → nat_le size (white_size size cells) ≡ y →
            cond (nat_le size (white_size size cells))
            (Accepts
            (record h {
              events = (h.events ++ enter SpaceOrTab h.point ∷ [])
                  ++ exit SpaceOrTab (white_end size cells h.point) ∷ [];
              point = white_end size cells h.point;
              scratch = calmed h.scratch;
            })
            (white_rest size cells))
            (Refuses (calmed h.scratch) h.flags) ≡
            cond (nat_le size (white_size size cells)) (Accepts (after_columns size cells h) (white_rest size cells))
            (Refuses (calmed h.scratch) h.flags)
        by true e = rw e (simp append_assoc)
        by false e = rw e refl
    go false y s e =
        let none : white_size size cells ≡ 0 = none-size size cells s in
        let few : nat_le size 0 ≡ false = grind (arith, nat_tests) in
        rw (s, none, few) refl

white-asked : (B : Behaviour) (feed : Feed) (f : Frame) (events : List Event) (cells : List Cell) (h : Here)
    (size : ℕ) →
    HasWhite B → 1 ≤ size → f.is_check ≡ false →
    cond (nat_le size (white_size size cells)) (proceeds B f.ok (white_rest size cells) (after_columns size cells h))
    (proceeds B f.nok (feed f.point) (restored events f (calmed h.scratch) h.flags)) ≡
    resume B feed events f
    (B (n.SpaceOrTab space_or_tab.Start) cells (record h { scratch = asking size size 0 h.scratch }))
white-asked B feed f events cells h size has some k =
    by (nat_le size (white_size size cells))
    ∙ ap (resume B feed events f) (sym (has.each space_or_tab.Start _ _ ∙ white-exact cells h size some))
  where
    by : (x : Bool) →
        cond x (proceeds B f.ok (white_rest size cells) (after_columns size cells h))
        (proceeds B f.nok (feed f.point) (restored events f (calmed h.scratch) h.flags)) ≡
        resume B feed events f
        (cond x (Accepts (after_columns size cells h) (white_rest size cells)) (Refuses (calmed h.scratch) h.flags))
    by true = rw k refl
    by false = refl

calm : (s : Scratch) → IsRest s → calmed s ≡ s
calm s r = ap calmed r ∙ sym r

-- Before a line of code.

and-second : (a b c : Bool) → (b ≡ false → c ≡ false) → (a && b) ≡ false → (a && c) ≡ false
and-second false b c f e = refl
and-second true b c f e = f e

-- where no whitespace is, or none may, a line of code is refused
line-none : (may : Bool) (begin : Event) (cells : List Cell) (h : Here) → may && begins_white cells ≡ false →
    line_at may begin cells h ≡ Refuses h.scratch h.flags
unfolding line_at
line-none may begin cells h e =
    let none : may && is_indented cells ≡ false = and-second may (begins_white cells) (is_indented cells)
    (λ s. ap (nat_le 4) (none-size 4 cells s)) e in
    rw none refl

line-some : (may : Bool) (begin : Event) (cells : List Cell) (h : Here) → may ≡ true →
    line_at may begin cells h ≡
    cond (is_indented cells) (at_break (white_rest 4 cells) (after_columns 4 cells (then_here begin h)))
    (Refuses h.scratch h.flags)
unfolding line_at
line-some may begin cells h e = rw e refl

-- where nothing is noted, the chunk of a line of code begins
chunk-bare : (cells : List Cell) (h : Here) → h.scratch.seen ≡ false → chunk_at cells h ≡ at_break cells h
chunk-bare cells h e = rw e refl

-- at a state before a line of code, which begins with this event
begun_means : (B : Behaviour) (options : ParseOptions) (feed : Feed) (state : CodeState) (begin : Event) (w : World)
    (may x : Bool) →
    HasCode B options → Sees feed w → IsRest w.scratch →
    B (n.CodeIndented state) (feed w.point) (here w) ≡ line_at may begin (feed w.point) (here w) →
    may && sees_white w.current ≡ x →
    Steps B feed (Next (n.CodeIndented state)) w (begun_code w begin x).to (begun_code w begin x).world
begun_means B options feed state begin w may true has s r own e =
    let h : Here = then_here begin (here w) in
    let frame : Frame = white_frame (Next (n.CodeIndented its.AtBreak)) w h.events in
    begins B feed _ _ w (begun_code w begin true).world (begin ∷ []) frame refl refl
    (own ∙ line-some may begin (feed w.point) (here w) (and_parts may (sees_white w.current) e).0
    ∙ ap₂ (λ (a b : Outcome). cond (is_indented (feed w.point)) a b)
    (sym
    (has.each its.AtBreak _ _
    ∙ chunk-bare (white_rest 4 (feed w.point)) (after_columns 4 (feed w.point) h)
    (ap (λ (t : Scratch). t.seen) r)))
    (ap (λ (t : Scratch). Refuses t w.flags) (sym (calm w.scratch r)))
    ∙ white-asked B feed frame h.events (feed w.point) h 4 has.white (omega arith) refl)
begun_means B options feed state begin w may false has s r own e =
    passes B feed _ _ w w refl refl
    (own
    ∙ line-none may begin (feed w.point) (here w)
    (ap (λ (x : Bool). may && x) (begins-seen feed w s) ∙ e))

-- In a chunk.

-- a chunk that ends here
abbrev chunk_ends : Here → Here
chunk_ends h = then_here (exit CodeFlowChunk h.point) h

blank-ends : (cells : List Cell) (h : Here) → Ended cells → in_blank cells h ≡ Refuses h.scratch h.flags
unfolding in_blank
blank-ends cells h e = rw e.line refl

blank-more : (c : Cell) (cs : List Cell) (h : Here) → is_white c.byte ≡ true →
    in_blank (c ∷ cs) h ≡ in_blank cs (record h { point = c.after })
unfolding in_blank in_text
blank-more c cs h e = rw (white-no_ending c.byte e, e) refl

blank-text : (feed : Feed) (w : World) (h : Here) (o : Option ℕ) → ends_line o ≡ false → sees_white o ≡ false →
    in_blank (ahead feed w o) h ≡ in_text (ahead feed w o) h
unfolding in_blank
blank-text feed w h None e f = cc
blank-text feed w h (Some b) e f = rw (e, f) refl

inside_blank_means : (B : Behaviour) (options : ParseOptions) (feed : Feed) (w : World) (x y : Bool) →
    HasCode B options → Sees feed w → ends_line w.current ≡ x → sees_white w.current ≡ y →
    Steps B feed (Next (n.CodeIndented its.InsideBlank)) w (inside_blank_code w x y).to (inside_blank_code w x y).world
inside_blank_means B options feed w true y has s e f =
    passes B feed _ _ w w refl refl
    (has.each its.InsideBlank _ _ ∙ blank-ends (feed w.point) (here w) (ends-seen feed w s e))
inside_blank_means B options feed w false true has s e f =
    let saw = sees-one feed w sees_white refl s f in
    passes B feed _ _ w (inside_blank_code w false true).world refl refl
    (has.each its.InsideBlank _ _ ∙ ap (λ (x : List Cell). in_blank x (here w)) saw.1
    ∙ blank-more (cell_here feed w saw.0) (feed (after w.setting w.point)) (here w) saw.2
    ∙ sym (has.each its.InsideBlank _ _))
inside_blank_means B options feed w false false has s e f =
    passes B feed _ _ w w refl refl
    (has.each its.InsideBlank _ _ ∙ rw s.next (blank-text feed w (here w) w.current e f)
    ∙ sym (has.each its.Inside _ _))

text-ends : (cells : List Cell) (h : Here) → Ended cells → in_text cells h ≡ code_ends cells (chunk_ends h)
unfolding in_text
text-ends cells h e = rw (e.line, e.ending) refl

text-more : (feed : Feed) (w : World) (h : Here) (o : Option ℕ) → ends_line o ≡ false →
    in_text (ahead feed w o) h ≡
    in_text (feed (after w.setting w.point)) (record h { point = after w.setting w.point })
unfolding in_text
text-more feed w h None e = cc
text-more feed w h (Some b) e = rw e refl

inside_means : (B : Behaviour) (options : ParseOptions) (feed : Feed) (w : World) (x : Bool) → HasCode B options →
    Sees feed w → ends_line w.current ≡ x →
    Steps B feed (Next (n.CodeIndented its.Inside)) w (inside_code w x).to (inside_code w x).world
inside_means B options feed w true has s e =
    moves B feed _ _ w (inside_code w true).world (exit CodeFlowChunk w.point ∷ []) refl refl
    (has.each its.Inside _ _ ∙ text-ends (feed w.point) (here w) (ends-seen feed w s e) ∙ sym (has.each its.After _ _))
inside_means B options feed w false has s e =
    passes B feed _ _ w (inside_code w false).world refl refl
    (has.each its.Inside _ _ ∙ ap (λ (x : List Cell). in_text x (here w)) s.next
    ∙ text-more feed w (here w) w.current e ∙ sym (has.each its.Inside _ _))

-- A further line.

further_start_means : (B : Behaviour) (feed : Feed) (w : World) → HasCode B w.setting.options → Sees feed w →
    Steps B feed (Next (n.CodeIndented its.FurtherStart)) w (code_transition its.FurtherStart w).to
    (code_transition its.FurtherStart w).world
further_start_means B feed w has s =
    begins_only B feed _ _ w (code_transition its.FurtherStart w).world frame refl refl
    (has.each its.FurtherStart _ _
    ∙ by (further_line (feed w.point) (here w))
    ∙ ap (resume B feed w.events frame) (sym (has.each its.FurtherLine _ _)))
  where
    frame : Frame
    frame = record {
      ok = Ok;
      nok = Next (n.CodeIndented its.FurtherBegin);
      is_check = false;
      events_len = length w.events;
      point = w.point;
    }

    by : (o : Outcome) → or_blank (feed w.point) (here w) o ≡ resume B feed w.events frame o
    by (Accepts h rest) = refl
    by Fails = refl
    by (Refuses t g) =
        ap
        (λ (es : List Event).
        further_begin (feed w.point) (record (here w) { events = es; scratch = t; flags = g }))
        (sym (take-length w.events))
        ∙ sym (has.each its.FurtherBegin _ _)

begin-white : (cells : List Cell) (h : Here) → begins_white cells ≡ true →
    further_begin cells h ≡ further_after (white_rest 4 cells) (after_columns 4 cells h)
unfolding further_begin
begin-white cells h e = rw e refl

begin-none : (cells : List Cell) (h : Here) → begins_white cells ≡ false →
    further_begin cells h ≡ further_after cells h
unfolding further_begin
begin-none cells h e = rw e refl

further_begin_means : (B : Behaviour) (options : ParseOptions) (feed : Feed) (w : World) (x : Bool) →
    HasCode B options → Sees feed w → sees_white w.current ≡ x →
    Steps B feed (Next (n.CodeIndented its.FurtherBegin)) w (further_begin_code w x).to (further_begin_code w x).world
further_begin_means B options feed w true has s e =
    let frame : Frame = white_frame (Next (n.CodeIndented its.FurtherAfter)) w w.events in
    let white : begins_white (feed w.point) ≡ true = begins-seen feed w s ∙ e in
    begins_only B feed _ _ w (further_begin_code w true).world frame refl refl
    (has.each its.FurtherBegin _ _ ∙ begin-white (feed w.point) (here w) white ∙ sym (has.each its.FurtherAfter _ _)
    ∙ white-tried B feed frame w.events (feed w.point) (here w) 0 4 has.white white (omega arith) (omega arith) refl)
further_begin_means B options feed w false has s e =
    passes B feed _ _ w w refl refl
    (has.each its.FurtherBegin _ _ ∙ begin-none (feed w.point) (here w) (begins-seen feed w s ∙ e)
    ∙ sym (has.each its.FurtherAfter _ _))

after-is : (cells : List Cell) (h : Here) (x : Bool) → is_end (line_bytes cells) ≡ x →
    further_after cells h ≡
    cond x (blank_ends cells h) (further_inside cells (then_here (enter CodeFlowChunk h.point) h))
unfolding further_after
after-is cells h x e = rw e refl

further-ends : (cells : List Cell) (h : Here) → Ended cells → further_inside cells h ≡ blank_ends cells (chunk_ends h)
unfolding further_inside
further-ends cells h e = rw (e.line, e.ending) refl

further-more : (c : Cell) (cs : List Cell) (h : Here) → is_white c.byte ≡ true →
    further_inside (c ∷ cs) h ≡ further_inside cs (record h { point = c.after })
unfolding further_inside
further-more c cs h e = rw (white-no_ending c.byte e, e) refl

further-text : (feed : Feed) (w : World) (h : Here) (o : Option ℕ) → ends_line o ≡ false → sees_white o ≡ false →
    further_inside (ahead feed w o) h ≡ Refuses h.scratch h.flags
unfolding further_inside
further-text feed w h None e f = cc
further-text feed w h (Some b) e f = rw (e, f) refl

-- the note of a blank line's chunk is taken back where that begins
further_after_means : (B : Behaviour) (options : ParseOptions) (feed : Feed) (w : World) (x y : Bool) →
    HasCode B options → Sees feed w → IsRest w.scratch → ends_line w.current ≡ x → sees_white w.current ≡ y →
    Steps B feed (Next (n.CodeIndented its.FurtherAfter)) w (further_after_code w x y).to
    (further_after_code w x y).world
further_after_means B options feed w true y has s r e f =
    passes B feed _ _ w (blank_noted w) refl refl
    (has.each its.FurtherAfter _ _ ∙ after-is (feed w.point) (here w) true (end-seen feed w s ∙ e))
further_after_means B options feed w false true has s r e f =
    let same : w.scratch ≡ chunk_begun (chunk_noted w.scratch) =
    r ∙ sym (ap (λ (t : Scratch). chunk_begun (chunk_noted t)) r) in
    passes B feed _ _ w (further_after_code w false true).world refl refl
    (has.each its.FurtherAfter _ _ ∙ after-is (feed w.point) (here w) false (end-seen feed w s ∙ e)
    ∙ ap
    (λ (t : Scratch).
    further_inside (feed w.point) (then_here (enter CodeFlowChunk w.point) (record (here w) { scratch = t }))) same
    ∙ sym (has.each its.AtBreak _ _))
further_after_means B options feed w false false has s r e f =
    let chunk : Here = then_here (enter CodeFlowChunk w.point) (here w) in
    passes B feed _ _ w w refl refl
    (has.each its.FurtherAfter _ _ ∙ after-is (feed w.point) (here w) false (end-seen feed w s ∙ e)
    ∙ rw s.next (further-text feed w chunk w.current e f))

-- where a chunk begins, by whether that of a blank line is noted
at_break_means : (B : Behaviour) (options : ParseOptions) (feed : Feed) (w : World) (x : Bool) → HasCode B options →
    w.scratch.seen ≡ x →
    Steps B feed (Next (n.CodeIndented its.AtBreak)) w (at_break_code w x).to (at_break_code w x).world
at_break_means B options feed w true has e =
    moves B feed _ _ w (at_break_code w true).world (enter CodeFlowChunk w.point ∷ []) refl refl
    (has.each its.AtBreak _ _ ∙ rw e refl ∙ sym (has.each its.FurtherInside _ _))
at_break_means B options feed w false has e =
    moves B feed _ _ w (at_break_code w false).world (enter CodeFlowChunk w.point ∷ []) refl refl
    (has.each its.AtBreak _ _ ∙ chunk-bare (feed w.point) (here w) e ∙ sym (has.each its.InsideBlank _ _))

further_inside_means : (B : Behaviour) (options : ParseOptions) (feed : Feed) (w : World) (x y : Bool) →
    HasCode B options → Sees feed w → ends_line w.current ≡ x → sees_white w.current ≡ y →
    Steps B feed (Next (n.CodeIndented its.FurtherInside)) w (further_inside_code w x y).to
    (further_inside_code w x y).world
further_inside_means B options feed w true y has s e f =
    moves B feed _ _ w (further_inside_code w true y).world (exit CodeFlowChunk w.point ∷ []) refl refl
    (has.each its.FurtherInside _ _ ∙ further-ends (feed w.point) (here w) (ends-seen feed w s e))
further_inside_means B options feed w false true has s e f =
    let saw = sees-one feed w sees_white refl s f in
    passes B feed _ _ w (further_inside_code w false true).world refl refl
    (has.each its.FurtherInside _ _ ∙ ap (λ (x : List Cell). further_inside x (here w)) saw.1
    ∙ further-more (cell_here feed w saw.0) (feed (after w.setting w.point)) (here w) saw.2
    ∙ sym (has.each its.FurtherInside _ _))
further_inside_means B options feed w false false has s e f =
    passes B feed _ _ w w refl refl
    (has.each its.FurtherInside _ _ ∙ rw s.next (further-text feed w (here w) w.current e f))

-- each state of code takes one step of what it means
pub code_means : (B : Behaviour) (feed : Feed) (state : CodeState) (w : World) → HasCode B w.setting.options →
    Sees feed w → CodeInvariant (n.CodeIndented state) (position w) →
    Steps B feed (Next (n.CodeIndented state)) w (code_transition state w).to (code_transition state w).world
code_means B feed its.Start w has s r =
    begun_means B _ feed its.Start (enter CodeIndented w.point) w _ _ has s r (has.each its.Start _ _) refl
code_means B feed its.AtBreak w has s r = at_break_means B _ feed w _ has refl
code_means B feed its.InsideBlank w has s r = inside_blank_means B _ feed w _ _ has s refl refl
code_means B feed its.Inside w has s r = inside_means B _ feed w _ has s refl
code_means B feed its.After w has s r =
    moves B feed _ _ w (code_transition its.After w).world (exit CodeIndented w.point ∷ []) refl refl
    (has.each its.After _ _)
code_means B feed its.FurtherStart w has s r = further_start_means B feed w has s
code_means B feed its.FurtherLine w has s r =
    begun_means B _ feed its.FurtherLine (enter_link CodeIndented w.point further_link) w true _ has s r
    (has.each its.FurtherLine _ _) refl
code_means B feed its.FurtherBegin w has s r = further_begin_means B _ feed w _ has s refl
code_means B feed its.FurtherAfter w has s r = further_after_means B _ feed w _ _ has s r refl refl
code_means B feed its.FurtherInside w has s r = further_inside_means B _ feed w _ _ has s refl refl

-- what answers as the transition of a state does means what the state means
pub code_rule : (state : CodeState) (w new : World) (to : State) → to ≡ (code_transition state w).to →
    new ≡ (code_transition state w).world → CodeMeans state w to new
unfolding CodeMeans
code_rule state w new to e k at B feed has s =
    steps-as B feed _ _ to w _ new e k (code_means B feed state w has s at)
