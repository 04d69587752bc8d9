-- Each state of fenced code and math takes one step of its rule.
use Rattle.std.proofs.Common.{◌≡◌, ℕ, suc, ◌+◌, ◌-◌, ◌≤◌, Bool, true, false, cond, ◌&&◌, ◌||◌, nat_eq, nat_lt, List, []}
use Rattle.std.proofs.Common.{◌∷◌, ◌++◌, length, Option, Some, None, refl, sym, ◌∙◌}
use Rattle.std.proofs.Common.{ap, arith, append-nil, append_assoc}
use Rattle.std.specs.Prelude.{not, ◌==◌}
use Rattle.std.proofs.lemmas.Bool.{and_parts}
use Rattle.std.proofs.lemmas.Bool.Decides.{nat_tests}
use Rattle.std.proofs.lemmas.List.{take_all}
use Rattle.md_engine.specs.declared.configuration.ParseOptions.{ParseOptions}
use Rattle.md_engine.specs.declared.event.Event.{Event}
use Rattle.md_engine.specs.declared.event.Name.TheVariants as part
use Rattle.md_engine.specs.declared.event.Point.{Point}
use Rattle.md_engine.specs.declared.state.Name.{Name as StateName}
use Rattle.md_engine.specs.declared.state.Name.TheVariants as n
use Rattle.md_engine.specs.declared.state.raw_flow.State.{State as RawState}
use Rattle.md_engine.specs.declared.state.raw_flow.State.TheVariants as its
use Rattle.md_engine.specs.declared.state.State.{State}
use Rattle.md_engine.specs.declared.state.State.TheVariants.{Nok, Next, Retry}
use Rattle.md_engine.specs.declared.tokenizer.Frame.{Frame}
use Rattle.md_engine.specs.declared.tokenizer.Scratch.{Scratch}
use Rattle.md_engine.specs.Meaning.{Accepts, Behaviour, Cell, Fails, Feed, Here, Outcome, Refuses, Steps, here, resume}
use Rattle.md_engine.specs.Scheme.{After, position}
use Rattle.md_engine.specs.World.{World, after}
use Rattle.md_engine.specs.Sees.{Sees, ahead, cell_here}
use Rattle.md_engine.proofs.StepOf.{begins, moves, passes, steps-as}
use Rattle.md_meaning.specs.Leaves.{is_fence_marker, least_size}
use Rattle.md_meaning.specs.Rest.{is_white}
use Rattle.md_literal.specs.Fence.{FenceInvariant, after_transition, at_non_lazy_break_code, before_chunk_code}
use Rattle.md_literal.specs.Fence.{before_close_code, before_open, before_open_code, after_part, block_name, chunk_code}
use Rattle.md_literal.specs.Fence.{chunk_name, cleared, close_after_code, close_start_code, content_start_code}
use Rattle.md_literal.specs.Fence.{ends_word}
use Rattle.md_literal.specs.Fence.{fence_name, fence_ready, fence_transition, held_indent, held_marker, held_size}
use Rattle.md_literal.specs.Fence.{info_before_code, info_code, is_on, is_refused, line_entered, may_close}
use Rattle.md_literal.specs.Fence.{meta_before_code, meta_code, meta_name, sees_refused, sequence_close_code}
use Rattle.md_literal.specs.Fence.{sequence_name, sequence_open_code, start_code, string_link}
use Rattle.md_leaves.specs.CellRuns.{after_white_of, is_end, is_line, is_word, run_end, run_has, run_rest, run_size}
use Rattle.md_leaves.specs.CellRuns.{with_event}
use Rattle.md_literal.specs.FenceRule.{FenceMeans, HasFence, after_sequence, before_chunk, before_close, before_info}
use Rattle.md_literal.specs.FenceRule.{before_meta, before_sequence, block_begun, close_at, close_end}
use Rattle.md_literal.specs.FenceRule.{closed_or_content}
use Rattle.md_literal.specs.FenceRule.{content_at, fence_at, further_at, in_chunk, in_close, in_info, in_meta}
use Rattle.md_literal.specs.FenceRule.{in_sequence}
use Rattle.md_literal.specs.FenceRule.{line_begun, line_done, opens, part_begun, part_ended, refuses}
use Rattle.md_leaves.specs.Further.{further_link}
use Rattle.md_literal.proofs.FenceTermination.{rest-clear}
use Rattle.md_leaves.proofs.LeafSteps.{sees-one, white_frame}
use Rattle.md_events.specs.Ahead.{begins_white}
use Rattle.md_events.specs.Events.Nested.{enter, enter_link, exit}
use Rattle.md_events.specs.Look.{first_seen}
use Rattle.md_events.specs.Spaces.{IsRest, any_size, ends_line, is_current, sees_white, small_indent, white_then}
use Rattle.md_events.specs.Transition.{Transition}
use Rattle.md_events.proofs.AheadLemmas.{small-some}
use Rattle.md_events.proofs.LookLemmas.{first-seen}
use Rattle.md_events.proofs.WhiteMeaning.{begins-seen, white-tried}

-- What comes first.

-- whether what comes first passes a test
abbrev pub first_is : (ℕ → Bool) → Option ℕ → Bool
first_is t None = false
first_is t (Some b) = t b

-- where it does not, no run is here
pub record NoRun (t : ℕ → Bool) (cells : List Cell) (p : Point) : Type 0 where
  pub size : run_size t cells ≡ 0
  pub end : run_end t cells p ≡ p
  pub rest : run_rest t cells ≡ cells

pub run-none : (t : ℕ → Bool) (cells : List Cell) (p : Point) → first_is t (first_seen cells) ≡ false → NoRun t cells p
run-none t [] p e = record { size = refl; end = refl; rest = refl }
run-none t (c ∷ cs) p e = record { size = rw e refl; end = rw e refl; rest = rw e refl }

pub run-has-none : (bad t : ℕ → Bool) (cells : List Cell) → first_is t (first_seen cells) ≡ false →
    run_has bad t cells ≡ false
run-has-none bad t [] e = refl
run-has-none bad t (c ∷ cs) e = rw e refl

marker-first : (m : ℕ) (o : Option ℕ) → is_current m o ≡ false → first_is (λ b. b == m) o ≡ false
marker-first m None e = refl
marker-first m (Some b) e = e

pub line-first : (o : Option ℕ) → ends_line o ≡ true → first_is is_line o ≡ false
line-first None e = refl
line-first (Some b) e = rw e refl

word-first : (o : Option ℕ) → ends_word o ≡ true → first_is is_word o ≡ false
word-first None e = refl
word-first (Some b) e = go (nat_eq b 10) (is_white b) e
  where
    go : (x y : Bool) → x || y ≡ true → not y && not x ≡ false
    go true true e = refl
    go true false e = refl
    go false true e = refl
    go false false e = cc

-- a byte of a word, and one of a line, that may be there
sees-word : (feed : Feed) (w : World) (m : ℕ) (bad : Bool) → Sees feed w → ends_word w.current ≡ false →
    sees_refused m w.current ≡ bad →
    (b : ℕ) × (feed w.point ≡ cell_here feed w b ∷ feed (after w.setting w.point)) × (is_word b ≡ true) ×
    (is_refused m b ≡ bad)
sees-word feed w m bad s e f = go w.current e f s.next
  where
    parts : (x y : Bool) → x || y ≡ false → not y && not x ≡ true
    parts false false e = refl
    parts false true e = cc
    parts true y e = cc

    go : (o : Option ℕ) → ends_word o ≡ false → sees_refused m o ≡ bad → feed w.point ≡ ahead feed w o →
        (b : ℕ) × (feed w.point ≡ cell_here feed w b ∷ feed (after w.setting w.point)) × (is_word b ≡ true) ×
        (is_refused m b ≡ bad)
    go None e f k = cc
    go (Some b) e f k = (b, k, parts (nat_eq b 10) (is_white b) e, f)

sees-line : (feed : Feed) (w : World) (m : ℕ) (bad : Bool) → Sees feed w → ends_line w.current ≡ false →
    sees_refused m w.current ≡ bad →
    (b : ℕ) × (feed w.point ≡ cell_here feed w b ∷ feed (after w.setting w.point)) × (is_line b ≡ true) ×
    (is_refused m b ≡ bad)
sees-line feed w m bad s e f = go w.current e f s.next
  where
    go : (o : Option ℕ) → ends_line o ≡ false → sees_refused m o ≡ bad → feed w.point ≡ ahead feed w o →
        (b : ℕ) × (feed w.point ≡ cell_here feed w b ∷ feed (after w.setting w.point)) × (is_line b ≡ true) ×
        (is_refused m b ≡ bad)
    go None e f k = cc
    go (Some b) e f k = (b, k, ap not e, f)

two-more : (es : List Event) (a b : Event) → (es ++ a ∷ []) ++ b ∷ [] ≡ es ++ a ∷ b ∷ []
two-more es a b = append_assoc es (a ∷ []) (b ∷ [])

-- After whitespace.

white-steps : (B : Behaviour) (feed : Feed) (from next : StateName) (w : World) (events added : List Event)
    (s : Scratch) (room : ℕ) (following : List Cell → Here → Outcome) → Sees feed w →
    HasFence B w.setting.options → events ≡ w.events ++ added → 1 ≤ room → sees_white w.current ≡ true →
    ((cells : List Cell) (h : Here) → B next cells h ≡ following cells h) →
    B from (feed w.point) (here w) ≡
    after_white_of room following (feed w.point) (here (record w { events = events; scratch = s })) →
    Steps B feed (Next from) w (white_then (record w { events = events; scratch = s }) 0 room (Next next) Nok).to
    (white_then (record w { events = events; scratch = s }) 0 room (Next next) Nok).world
white-steps B feed from next w events added s room following saw has e some f next_is from_is =
    let h : Here = here (record w { events = events; scratch = s }) in
    let frame : Frame = white_frame (Next next) w events in
    let white : begins_white (feed w.point) ≡ true = begins-seen feed w saw ∙ f in
    begins B feed _ _ w (white_then (record w { events = events; scratch = s }) 0 room (Next next) Nok).world added
    frame refl e
    (from_is ∙ rw white (sym (next_is _ _))
    ∙ white-tried B feed frame events (feed w.point) h 0 room has.white white some (omega arith) refl)

-- and where none is
none-steps : (B : Behaviour) (feed : Feed) (from next : StateName) (w : World) (events added : List Event)
    (s : Scratch) (room : ℕ) (following : List Cell → Here → Outcome) → Sees feed w →
    events ≡ w.events ++ added → sees_white w.current ≡ false →
    ((cells : List Cell) (h : Here) → B next cells h ≡ following cells h) →
    B from (feed w.point) (here w) ≡
    after_white_of room following (feed w.point) (here (record w { events = events; scratch = s })) →
    Steps B feed (Next from) w (Retry next) (record w { events = events; scratch = s })
none-steps B feed from next w events added s room following saw e f next_is from_is =
    let none : begins_white (feed w.point) ≡ false = begins-seen feed w saw ∙ f in
    moves B feed _ _ w (record w { events = events; scratch = s }) added refl e
    (from_is ∙ rw none (sym (next_is _ _)))

part-steps : (B : Behaviour) (feed : Feed) (from : StateName) (state : RawState) (w : World)
    (events added : List Event) (s : Scratch) (following : List Cell → Here → Outcome) (x : Bool) → Sees feed w →
    HasFence B w.setting.options → events ≡ w.events ++ added → sees_white w.current ≡ x →
    ((cells : List Cell) (h : Here) → B (n.RawFlow state) cells h ≡ following cells h) →
    B from (feed w.point) (here w) ≡
    after_white_of any_size following (feed w.point) (here (record w { events = events; scratch = s })) →
    Steps B feed (Next from) w (after_part (record w { events = events; scratch = s }) state x).to
    (after_part (record w { events = events; scratch = s }) state x).world
part-steps B feed from state w events added s following true saw has e f next_is from_is =
    white-steps B feed from (n.RawFlow state) w events added s any_size following saw has e (omega arith) f next_is
    from_is
part-steps B feed from state w events added s following false saw has e f next_is from_is =
    none-steps B feed from (n.RawFlow state) w events added s any_size following saw e f next_is from_is

-- The opening line.

start-off : (options : ParseOptions) (cells : List Cell) (h : Here) → is_on options ≡ false →
    fence_at options cells h ≡ Refuses h.scratch h.flags
unfolding fence_at
start-off options cells h e = rw e refl

start-on : (options : ParseOptions) (cells : List Cell) (h : Here) → is_on options ≡ true →
    fence_at options cells h ≡
    after_white_of (small_indent options) (before_sequence options) cells
    (record h { scratch = record h.scratch { size_c = h.point.column } })
unfolding fence_at
start-on options cells h e = rw e refl

fence_start_means : (B : Behaviour) (feed : Feed) (w : World) (x y : Bool) → HasFence B w.setting.options →
    Sees feed w → is_on w.setting.options ≡ x → sees_white w.current ≡ y →
    Steps B feed (Next (n.RawFlow its.Start)) w (start_code w x y).to (start_code w x y).world
fence_start_means B feed w false y has s e f =
    passes B feed _ _ w w refl refl (has.each its.Start _ _ ∙ start-off w.setting.options (feed w.point) (here w) e)
fence_start_means B feed w true true has s e f =
    white-steps B feed _ (n.RawFlow its.BeforeSequenceOpen) w w.events [] (record w.scratch { size_c = w.point.column })
    (small_indent w.setting.options) (before_sequence w.setting.options) s has (sym (append-nil w.events))
    (small-some w.setting.options) f (has.each its.BeforeSequenceOpen)
    (has.each its.Start _ _ ∙ start-on w.setting.options (feed w.point) (here w) e)
fence_start_means B feed w true false has s e f =
    none-steps B feed _ (n.RawFlow its.BeforeSequenceOpen) w w.events [] (record w.scratch { size_c = w.point.column })
    (small_indent w.setting.options) (before_sequence w.setting.options) s (sym (append-nil w.events)) f
    (has.each its.BeforeSequenceOpen)
    (has.each its.Start _ _ ∙ start-on w.setting.options (feed w.point) (here w) e)

abbrev in_block : ℕ → Here → Here
in_block m h = record (block_begun m h) {
  scratch = record h.scratch { marker = m; size_c = h.point.column - h.scratch.size_c };
}

before-none : (options : ParseOptions) (h : Here) → before_sequence options [] h ≡ refuses h
unfolding before_sequence
before-none options h = refl

before-yes : (options : ParseOptions) (c : Cell) (cs : List Cell) (h : Here) → is_fence_marker options c.byte ≡ true →
    before_sequence options (c ∷ cs) h ≡ in_sequence (c ∷ cs) (in_block c.byte h)
unfolding before_sequence
before-yes options c cs h e = rw e refl

before-no : (options : ParseOptions) (c : Cell) (cs : List Cell) (h : Here) → is_fence_marker options c.byte ≡ false →
    before_sequence options (c ∷ cs) h ≡ refuses h
unfolding before_sequence
before-no options c cs h e = rw e refl

before_open_means : (B : Behaviour) (feed : Feed) (w : World) → HasFence B w.setting.options → Sees feed w →
    Steps B feed (Next (n.RawFlow its.BeforeSequenceOpen)) w (before_open w w.current).to
    (before_open w w.current).world
before_open_means B feed w has s = go w.current s.next
  where
    go : (o : Option ℕ) → feed w.point ≡ ahead feed w o →
        Steps B feed (Next (n.RawFlow its.BeforeSequenceOpen)) w (before_open w o).to (before_open w o).world
    go None e =
        passes B feed _ _ w (before_open w None).world refl refl
        (has.each its.BeforeSequenceOpen _ _
        ∙ ap (λ (x : List Cell). before_sequence w.setting.options x (here w)) e
        ∙ before-none w.setting.options (here w))
    go (Some b) e = by (is_fence_marker w.setting.options b) refl
      where
        by : (x : Bool) → is_fence_marker w.setting.options b ≡ x →
            Steps B feed (Next (n.RawFlow its.BeforeSequenceOpen)) w (before_open_code w b x).to
            (before_open_code w b x).world
        by true k =
            moves B feed _ _ w (before_open_code w b true).world
            (enter (block_name b) w.point ∷ enter (fence_name b) w.point ∷ enter (sequence_name b) w.point ∷ []) refl
            (simp append_assoc)
            (has.each its.BeforeSequenceOpen _ _
            ∙ ap (λ (x : List Cell). before_sequence w.setting.options x (here w)) e
            ∙ before-yes w.setting.options (cell_here feed w b) (feed (after w.setting w.point)) (here w) k
            ∙ ap (λ (x : List Cell). in_sequence x (in_block b (here w))) (sym e)
            ∙ sym (has.each its.SequenceOpen _ _))
        by false k =
            passes B feed _ _ w (before_open_code w b false).world refl refl
            (has.each its.BeforeSequenceOpen _ _
            ∙ ap (λ (x : List Cell). before_sequence w.setting.options x (here w)) e
            ∙ before-no w.setting.options (cell_here feed w b) (feed (after w.setting w.point)) (here w) k)

sequence-more : (c : Cell) (cs : List Cell) (h : Here) → nat_eq c.byte h.scratch.marker ≡ true →
    in_sequence (c ∷ cs) h ≡
    in_sequence cs (record h { point = c.after; scratch = record h.scratch { size = h.scratch.size + 1 } })
unfolding in_sequence
sequence-more c cs h e =
    let count = run_size (λ b. b == h.scratch.marker) cs in
    let sum : h.scratch.size + suc count ≡ h.scratch.size + 1 + count = omega arith in
    rw (e, sum) refl

sequence-few : (cells : List Cell) (h : Here) → is_current h.scratch.marker (first_seen cells) ≡ false →
    nat_lt h.scratch.size (least_size h.scratch.marker) ≡ true → in_sequence cells h ≡ refuses h
unfolding in_sequence
sequence-few cells h e few =
    let none =
    run-none (λ b. b == h.scratch.marker) cells h.point (marker-first h.scratch.marker (first_seen cells) e) in
    let sum : h.scratch.size + run_size (λ b. b == h.scratch.marker) cells ≡ h.scratch.size =
    omega (arith, none.size) in
    rw (sum, few) refl

sequence-done : (cells : List Cell) (h : Here) → is_current h.scratch.marker (first_seen cells) ≡ false →
    nat_lt h.scratch.size (least_size h.scratch.marker) ≡ false →
    in_sequence cells h ≡
    after_white_of any_size (after_sequence h.scratch.marker) cells
    (with_event h (exit (sequence_name h.scratch.marker) h.point))
unfolding in_sequence
sequence-done cells h e few =
    let none =
    run-none (λ b. b == h.scratch.marker) cells h.point (marker-first h.scratch.marker (first_seen cells) e) in
    let sum : h.scratch.size + run_size (λ b. b == h.scratch.marker) cells ≡ h.scratch.size =
    omega (arith, none.size) in
    rw (sum, few, none.end, none.rest) refl

sequence_means : (B : Behaviour) (feed : Feed) (w : World) (x y z : Bool) → HasFence B w.setting.options →
    Sees feed w → is_current w.scratch.marker w.current ≡ x →
    nat_lt w.scratch.size (least_size w.scratch.marker) ≡ y → sees_white w.current ≡ z →
    Steps B feed (Next (n.RawFlow its.SequenceOpen)) w (sequence_open_code w x y z).to
    (sequence_open_code w x y z).world
sequence_means B feed w true y z has s e f g =
    let saw = sees-one feed w (is_current w.scratch.marker) refl s e in
    passes B feed _ _ w (sequence_open_code w true y z).world refl refl
    (has.each its.SequenceOpen _ _ ∙ ap (λ (x : List Cell). in_sequence x (here w)) saw.1
    ∙ sequence-more (cell_here feed w saw.0) (feed (after w.setting w.point)) (here w) saw.2
    ∙ sym (has.each its.SequenceOpen _ _))
sequence_means B feed w false true z has s e f g =
    passes B feed _ _ w (sequence_open_code w false true z).world refl refl
    (has.each its.SequenceOpen _ _
    ∙ sequence-few (feed w.point) (here w) (ap (is_current w.scratch.marker) (first-seen feed w s) ∙ e) f)
sequence_means B feed w false false z has s e f g =
    go (nat_eq w.scratch.marker 36) refl
  where
    events : List Event
    events = w.events ++ exit (sequence_name w.scratch.marker) w.point ∷ []

    done : B (n.RawFlow its.SequenceOpen) (feed w.point) (here w) ≡
        after_white_of any_size (after_sequence w.scratch.marker) (feed w.point)
        (here (record w { events = events; scratch = w.scratch }))
    done =
        has.each its.SequenceOpen _ _
        ∙ sequence-done (feed w.point) (here w) (ap (is_current w.scratch.marker) (first-seen feed w s) ∙ e) f

    taken_prefixes : RawState → Transition
    taken_prefixes state = after_part (record w { events = events; scratch = w.scratch }) state z

    go : (math : Bool) → nat_eq w.scratch.marker 36 ≡ math →
        Steps B feed (Next (n.RawFlow its.SequenceOpen)) w (taken_prefixes (cond math its.MetaBefore its.InfoBefore)).to
        (taken_prefixes (cond math its.MetaBefore its.InfoBefore)).world
    go true k =
        part-steps B feed _ its.MetaBefore w events (exit (sequence_name w.scratch.marker) w.point ∷ []) w.scratch
        (after_sequence w.scratch.marker) z s has refl g (λ cells h. has.each its.MetaBefore cells h ∙ rw k refl) done
    go false k =
        part-steps B feed _ its.InfoBefore w events (exit (sequence_name w.scratch.marker) w.point ∷ []) w.scratch
        (after_sequence w.scratch.marker) z s has refl g (λ cells h. has.each its.InfoBefore cells h ∙ rw k refl) done

info-end : (cells : List Cell) (h : Here) → is_end cells ≡ true → before_info cells h ≡ opens cells h
unfolding before_info
info-end cells h e = rw e refl

info-white : (cells : List Cell) (h : Here) → is_end cells ≡ false → begins_white cells ≡ true →
    before_info cells h ≡ refuses h
unfolding before_info
info-white cells h e f = rw (e, f) refl

info-begins : (cells : List Cell) (h : Here) → is_end cells ≡ false → begins_white cells ≡ false →
    before_info cells h ≡ in_info cells (part_begun part.CodeFencedFenceInfo h)
unfolding before_info
info-begins cells h e f = rw (e, f) refl

info_before_means : (B : Behaviour) (feed : Feed) (w : World) (x y : Bool) → HasFence B w.setting.options →
    Sees feed w → ends_line w.current ≡ x → sees_white w.current ≡ y →
    Steps B feed (Next (n.RawFlow its.InfoBefore)) w (info_before_code w x y).to (info_before_code w x y).world
info_before_means B feed w true y has s e f =
    moves B feed _ _ w (info_before_code w true y).world
    (exit (fence_name w.scratch.marker) w.point ∷ exit (block_name w.scratch.marker) w.point ∷ []) refl
    (two-more w.events _ _)
    (has.each its.InfoBefore _ _ ∙ info-end (feed w.point) (here w) (ap ends_line (first-seen feed w s) ∙ e))
info_before_means B feed w false true has s e f =
    passes B feed _ _ w (info_before_code w false true).world refl refl
    (has.each its.InfoBefore _ _
    ∙ info-white (feed w.point) (here w) (ap ends_line (first-seen feed w s) ∙ e) (begins-seen feed w s ∙ f))
info_before_means B feed w false false has s e f =
    moves B feed _ _ w (info_before_code w false false).world
    (enter part.CodeFencedFenceInfo w.point ∷ enter_link part.Data w.point string_link ∷ []) refl
    (two-more w.events _ _)
    (has.each its.InfoBefore _ _
    ∙ info-begins (feed w.point) (here w) (ap ends_line (first-seen feed w s) ∙ e) (begins-seen feed w s ∙ f)
    ∙ sym (has.each its.Info _ _))

meta-end : (cells : List Cell) (h : Here) → is_end cells ≡ true → before_meta cells h ≡ opens cells h
unfolding before_meta
meta-end cells h e = rw e refl

meta-white : (cells : List Cell) (h : Here) → is_end cells ≡ false → begins_white cells ≡ true →
    before_meta cells h ≡ refuses h
unfolding before_meta
meta-white cells h e f = rw (e, f) refl

meta-begins : (cells : List Cell) (h : Here) → is_end cells ≡ false → begins_white cells ≡ false →
    before_meta cells h ≡ in_meta cells (part_begun (meta_name h.scratch.marker) h)
unfolding before_meta
meta-begins cells h e f = rw (e, f) refl

meta_before_means : (B : Behaviour) (feed : Feed) (w : World) (x y : Bool) → HasFence B w.setting.options →
    Sees feed w → ends_line w.current ≡ x → sees_white w.current ≡ y →
    Steps B feed (Next (n.RawFlow its.MetaBefore)) w (meta_before_code w x y).to (meta_before_code w x y).world
meta_before_means B feed w true y has s e f =
    let ends : is_end (feed w.point) ≡ true = ap ends_line (first-seen feed w s) ∙ e in
    passes B feed _ _ w w refl refl
    (has.each its.MetaBefore _ _ ∙ meta-end (feed w.point) (here w) ends ∙ sym (info-end (feed w.point) (here w) ends)
    ∙ sym (has.each its.InfoBefore _ _))
meta_before_means B feed w false true has s e f =
    passes B feed _ _ w (meta_before_code w false true).world refl refl
    (has.each its.MetaBefore _ _
    ∙ meta-white (feed w.point) (here w) (ap ends_line (first-seen feed w s) ∙ e) (begins-seen feed w s ∙ f))
meta_before_means B feed w false false has s e f =
    moves B feed _ _ w (meta_before_code w false false).world
    (enter (meta_name w.scratch.marker) w.point ∷ enter_link part.Data w.point string_link ∷ []) refl
    (two-more w.events _ _)
    (has.each its.MetaBefore _ _
    ∙ meta-begins (feed w.point) (here w) (ap ends_line (first-seen feed w s) ∙ e) (begins-seen feed w s ∙ f)
    ∙ sym (has.each its.Meta _ _))

info-more : (c : Cell) (cs : List Cell) (h : Here) → is_word c.byte ≡ true →
    is_refused h.scratch.marker c.byte ≡ false → in_info (c ∷ cs) h ≡ in_info cs (record h { point = c.after })
unfolding in_info
info-more c cs h e f = rw (e, f) refl

info-bad : (c : Cell) (cs : List Cell) (h : Here) → is_word c.byte ≡ true → is_refused h.scratch.marker c.byte ≡ true →
    in_info (c ∷ cs) h ≡ refuses h
unfolding in_info
info-bad c cs h e f = rw (e, f) refl

info-done : (cells : List Cell) (h : Here) → ends_word (first_seen cells) ≡ true →
    in_info cells h ≡ after_white_of any_size before_meta cells (part_ended part.CodeFencedFenceInfo h.point h)
unfolding in_info
info-done cells h e =
    let none = run-none is_word cells h.point (word-first (first_seen cells) e) in
    rw (run-has-none (is_refused h.scratch.marker) is_word cells (word-first (first_seen cells) e), none.end, none.rest)
    refl

info_means : (B : Behaviour) (feed : Feed) (w : World) (x y z : Bool) → HasFence B w.setting.options → Sees feed w →
    ends_word w.current ≡ x → sees_white w.current ≡ y → sees_refused w.scratch.marker w.current ≡ z →
    Steps B feed (Next (n.RawFlow its.Info)) w (info_code w x y z).to (info_code w x y z).world
info_means B feed w true y z has s e f g =
    part-steps B feed _ its.MetaBefore w ((w.events ++ exit part.Data w.point ∷ [])
    ++ exit part.CodeFencedFenceInfo w.point ∷ [])
    (exit part.Data w.point ∷ exit part.CodeFencedFenceInfo w.point ∷ []) w.scratch before_meta y s has
    (two-more w.events _ _) f (has.each its.MetaBefore)
    (has.each its.Info _ _ ∙ info-done (feed w.point) (here w) (ap ends_word (first-seen feed w s) ∙ e))
info_means B feed w false y true has s e f g =
    let saw = sees-word feed w w.scratch.marker true s e g in
    passes B feed _ _ w (info_code w false y true).world refl refl
    (has.each its.Info _ _ ∙ ap (λ (x : List Cell). in_info x (here w)) saw.1
    ∙ info-bad (cell_here feed w saw.0) (feed (after w.setting w.point)) (here w) saw.2 saw.3)
info_means B feed w false y false has s e f g =
    let saw = sees-word feed w w.scratch.marker false s e g in
    passes B feed _ _ w (info_code w false y false).world refl refl
    (has.each its.Info _ _ ∙ ap (λ (x : List Cell). in_info x (here w)) saw.1
    ∙ info-more (cell_here feed w saw.0) (feed (after w.setting w.point)) (here w) saw.2 saw.3
    ∙ sym (has.each its.Info _ _))

meta-more : (c : Cell) (cs : List Cell) (h : Here) → is_line c.byte ≡ true →
    is_refused h.scratch.marker c.byte ≡ false → in_meta (c ∷ cs) h ≡ in_meta cs (record h { point = c.after })
unfolding in_meta
meta-more c cs h e f = rw (e, f) refl

meta-bad : (c : Cell) (cs : List Cell) (h : Here) → is_line c.byte ≡ true → is_refused h.scratch.marker c.byte ≡ true →
    in_meta (c ∷ cs) h ≡ refuses h
unfolding in_meta
meta-bad c cs h e f = rw (e, f) refl

meta-done : (cells : List Cell) (h : Here) → is_end cells ≡ true →
    in_meta cells h ≡ opens cells (part_ended (meta_name h.scratch.marker) h.point h)
unfolding in_meta
meta-done cells h e =
    let none = run-none is_line cells h.point (line-first (first_seen cells) e) in
    rw (run-has-none (is_refused h.scratch.marker) is_line cells (line-first (first_seen cells) e), none.end, none.rest)
    refl

meta_means : (B : Behaviour) (feed : Feed) (w : World) (x y : Bool) → HasFence B w.setting.options → Sees feed w →
    ends_line w.current ≡ x → sees_refused w.scratch.marker w.current ≡ y →
    Steps B feed (Next (n.RawFlow its.Meta)) w (meta_code w x y).to (meta_code w x y).world
meta_means B feed w true y has s e f =
    let ends : is_end (feed w.point) ≡ true = ap ends_line (first-seen feed w s) ∙ e in
    moves B feed _ _ w (meta_code w true y).world
    (exit part.Data w.point ∷ exit (meta_name w.scratch.marker) w.point ∷ []) refl (two-more w.events _ _)
    (has.each its.Meta _ _ ∙ meta-done (feed w.point) (here w) ends
    ∙ sym (info-end (feed w.point) (part_ended (meta_name w.scratch.marker) w.point (here w)) ends)
    ∙ sym (has.each its.InfoBefore _ _))
meta_means B feed w false true has s e f =
    let saw = sees-line feed w w.scratch.marker true s e f in
    passes B feed _ _ w (meta_code w false true).world refl refl
    (has.each its.Meta _ _ ∙ ap (λ (x : List Cell). in_meta x (here w)) saw.1
    ∙ meta-bad (cell_here feed w saw.0) (feed (after w.setting w.point)) (here w) saw.2 saw.3)
meta_means B feed w false false has s e f =
    let saw = sees-line feed w w.scratch.marker false s e f in
    passes B feed _ _ w (meta_code w false false).world refl refl
    (has.each its.Meta _ _ ∙ ap (λ (x : List Cell). in_meta x (here w)) saw.1
    ∙ meta-more (cell_here feed w saw.0) (feed (after w.setting w.point)) (here w) saw.2 saw.3
    ∙ sym (has.each its.Meta _ _))

-- A further line.

abbrev closing : Here → Here
closing h = record h { scratch = record h.scratch { marker = held_marker h.flags.leaf } }

further-is : (options : ParseOptions) (cells : List Cell) (h : Here) →
    further_at options cells h ≡
    closed_or_content (close_at options cells (closing (line_begun h))) cells (line_begun h)
unfolding further_at
further-is options cells h = refl

-- an attempt at a closing fence becomes that, or a line of the block
closed-resumes : (B : Behaviour) (feed : Feed) (w : World) (f : Frame) (o : Outcome) → HasFence B w.setting.options →
    f ≡
    (record {
      ok = Next (n.RawFlow its.After);
      nok = Next (n.RawFlow its.ContentStart);
      is_check = false;
      events_len = length w.events;
      point = w.point;
    }) →
    closed_or_content o (feed w.point) (here w) ≡ resume B feed w.events f o
closed-resumes B feed w f (Accepts k rest) has e = rw e (sym (has.each its.After rest k))
closed-resumes B feed w f (Refuses s g) has e =
    rw e
    (ap
    (λ (es : List Event).
    content_at (feed w.point) (record { events = es; point = w.point; scratch = s; flags = g }))
    (sym (take_all (length w.events) w.events (omega arith)))
    ∙ sym (has.each its.ContentStart _ _))
closed-resumes B feed w f Fails has e = refl

close-none : (options : ParseOptions) (cells : List Cell) (h : Here) → begins_white cells ≡ false →
    is_current h.scratch.marker (first_seen cells) ≡ false → close_at options cells h ≡ refuses h
unfolding close_at before_close
close-none options [] h e f = refl
close-none options (c ∷ cs) h e f = rw (e, f) refl

further-content : (options : ParseOptions) (cells : List Cell) (h : Here) → IsRest h.scratch →
    may_close h.flags.leaf (first_seen cells) ≡ false → begins_white cells ≡ sees_white (first_seen cells) →
    further_at options cells h ≡ content_at cells (line_begun h)
further-content options cells h is e white = go (sees_white (first_seen cells)) refl e
  where
    none : is_current (held_marker h.flags.leaf) (first_seen cells) ≡ false → sees_white (first_seen cells) ≡ false →
        further_at options cells h ≡ content_at cells (line_begun h)
    none f g =
        further-is options cells h
        ∙ ap (λ (o : Outcome). closed_or_content o cells (line_begun h))
        (close-none options cells (closing (line_begun h)) (white ∙ g) f)
        ∙ ap (λ (s : Scratch). content_at cells (record (line_begun h) { scratch = s })) (rest-clear h.scratch is)

    go : (x : Bool) → sees_white (first_seen cells) ≡ x →
        x || is_current (held_marker h.flags.leaf) (first_seen cells) ≡ false →
        further_at options cells h ≡ content_at cells (line_begun h)
    go true g f = cc
    go false g f = none f g

further_means : (B : Behaviour) (feed : Feed) (w : World) (x : Bool) → HasFence B w.setting.options → Sees feed w →
    IsRest w.scratch → may_close w.flags.leaf w.current ≡ x →
    Steps B feed (Next (n.RawFlow its.AtNonLazyBreak)) w (at_non_lazy_break_code w x).to
    (at_non_lazy_break_code w x).world
further_means B feed w true has s is e =
    let begun : World = line_entered w in
    let f : Frame = record {
      ok = Next (n.RawFlow its.After);
      nok = Next (n.RawFlow its.ContentStart);
      is_check = false;
      events_len = length begun.events;
      point = w.point;
    } in
    begins B feed _ _ w (at_non_lazy_break_code w true).world
    (enter_link (block_name (held_marker w.flags.leaf)) w.point further_link ∷ []) f refl refl
    (has.each its.AtNonLazyBreak _ _ ∙ further-is w.setting.options (feed w.point) (here w)
    ∙ closed-resumes B feed begun f (close_at w.setting.options (feed w.point) (closing (here begun))) has refl
    ∙ ap (resume B feed begun.events f) (sym (has.each its.CloseStart _ _)))
further_means B feed w false has s is e =
    moves B feed _ _ w (line_entered w)
    (enter_link (block_name (held_marker w.flags.leaf)) w.point further_link ∷ []) refl refl
    (has.each its.AtNonLazyBreak _ _
    ∙ further-content w.setting.options (feed w.point) (here w) is
    (ap (may_close w.flags.leaf) (first-seen feed w s) ∙ e)
    (begins-seen feed w s ∙ ap sees_white (sym (first-seen feed w s)))
    ∙ sym (has.each its.ContentStart _ _))

close-is : (options : ParseOptions) (cells : List Cell) (h : Here) →
    close_at options cells h ≡ after_white_of (small_indent options) before_close cells h
unfolding close_at
close-is options cells h = refl

close_start_means : (B : Behaviour) (feed : Feed) (w : World) (x : Bool) → HasFence B w.setting.options →
    Sees feed w → sees_white w.current ≡ x →
    Steps B feed (Next (n.RawFlow its.CloseStart)) w (close_start_code w x).to (close_start_code w x).world
close_start_means B feed w true has s e =
    white-steps B feed _ (n.RawFlow its.BeforeSequenceClose) w w.events [] w.scratch (small_indent w.setting.options)
    before_close s has (sym (append-nil w.events)) (small-some w.setting.options) e
    (has.each its.BeforeSequenceClose)
    (has.each its.CloseStart _ _ ∙ close-is w.setting.options (feed w.point) (here w))
close_start_means B feed w false has s e =
    none-steps B feed _ (n.RawFlow its.BeforeSequenceClose) w w.events [] w.scratch (small_indent w.setting.options)
    before_close s (sym (append-nil w.events)) e (has.each its.BeforeSequenceClose)
    (has.each its.CloseStart _ _ ∙ close-is w.setting.options (feed w.point) (here w))

close-begins : (c : Cell) (cs : List Cell) (h : Here) → nat_eq c.byte h.scratch.marker ≡ true →
    before_close (c ∷ cs) h ≡
    in_close (c ∷ cs)
    (with_event (with_event h (enter (fence_name h.scratch.marker) h.point))
    (enter (sequence_name h.scratch.marker) h.point))
unfolding before_close
close-begins c cs h e = rw e refl

close-other : (cells : List Cell) (h : Here) → is_current h.scratch.marker (first_seen cells) ≡ false →
    before_close cells h ≡ refuses h
unfolding before_close
close-other [] h e = refl
close-other (c ∷ cs) h e = rw e refl

before_close_means : (B : Behaviour) (feed : Feed) (w : World) (x : Bool) → HasFence B w.setting.options →
    Sees feed w → is_current w.scratch.marker w.current ≡ x →
    Steps B feed (Next (n.RawFlow its.BeforeSequenceClose)) w (before_close_code w x).to (before_close_code w x).world
before_close_means B feed w true has s e =
    let saw = sees-one feed w (is_current w.scratch.marker) refl s e in
    let h : Here = here (before_close_code w true).world in
    moves B feed _ _ w (before_close_code w true).world
    (enter (fence_name w.scratch.marker) w.point ∷ enter (sequence_name w.scratch.marker) w.point ∷ []) refl
    (two-more w.events _ _)
    (has.each its.BeforeSequenceClose _ _ ∙ ap (λ (x : List Cell). before_close x (here w)) saw.1
    ∙ close-begins (cell_here feed w saw.0) (feed (after w.setting w.point)) (here w) saw.2
    ∙ ap (λ (x : List Cell). in_close x h) (sym saw.1) ∙ sym (has.each its.SequenceClose _ _))
before_close_means B feed w false has s e =
    passes B feed _ _ w (before_close_code w false).world refl refl
    (has.each its.BeforeSequenceClose _ _
    ∙ close-other (feed w.point) (here w) (ap (is_current w.scratch.marker) (first-seen feed w s) ∙ e))

close-more : (c : Cell) (cs : List Cell) (h : Here) → nat_eq c.byte h.scratch.marker ≡ true →
    in_close (c ∷ cs) h ≡
    in_close cs (record h { point = c.after; scratch = record h.scratch { size = h.scratch.size + 1 } })
unfolding in_close
close-more c cs h e =
    let count = run_size (λ b. b == h.scratch.marker) cs in
    let sum : h.scratch.size + suc count ≡ h.scratch.size + 1 + count = omega arith in
    rw (e, sum) refl

close-few : (cells : List Cell) (h : Here) → is_current h.scratch.marker (first_seen cells) ≡ false →
    nat_lt h.scratch.size (held_size h.flags.leaf) ≡ true → in_close cells h ≡ refuses h
unfolding in_close
close-few cells h e few =
    let none =
    run-none (λ b. b == h.scratch.marker) cells h.point (marker-first h.scratch.marker (first_seen cells) e) in
    let sum : h.scratch.size + run_size (λ b. b == h.scratch.marker) cells ≡ h.scratch.size =
    omega (arith, none.size) in
    rw (sum, few) refl

close-done : (cells : List Cell) (h : Here) → is_current h.scratch.marker (first_seen cells) ≡ false →
    nat_lt h.scratch.size (held_size h.flags.leaf) ≡ false →
    in_close cells h ≡
    after_white_of any_size close_end cells
    (record (with_event h (exit (sequence_name h.scratch.marker) h.point)) { scratch = cleared h.scratch })
unfolding in_close
close-done cells h e few =
    let none =
    run-none (λ b. b == h.scratch.marker) cells h.point (marker-first h.scratch.marker (first_seen cells) e) in
    let sum : h.scratch.size + run_size (λ b. b == h.scratch.marker) cells ≡ h.scratch.size =
    omega (arith, none.size) in
    rw (sum, few, none.end, none.rest) refl

close_means : (B : Behaviour) (feed : Feed) (w : World) (x y z : Bool) → HasFence B w.setting.options →
    Sees feed w → is_current w.scratch.marker w.current ≡ x →
    nat_lt w.scratch.size (held_size w.flags.leaf) ≡ y → sees_white w.current ≡ z →
    Steps B feed (Next (n.RawFlow its.SequenceClose)) w (sequence_close_code w x y z).to
    (sequence_close_code w x y z).world
close_means B feed w true y z has s e f g =
    let saw = sees-one feed w (is_current w.scratch.marker) refl s e in
    passes B feed _ _ w (sequence_close_code w true y z).world refl refl
    (has.each its.SequenceClose _ _ ∙ ap (λ (x : List Cell). in_close x (here w)) saw.1
    ∙ close-more (cell_here feed w saw.0) (feed (after w.setting w.point)) (here w) saw.2
    ∙ sym (has.each its.SequenceClose _ _))
close_means B feed w false true z has s e f g =
    passes B feed _ _ w (sequence_close_code w false true z).world refl refl
    (has.each its.SequenceClose _ _
    ∙ close-few (feed w.point) (here w) (ap (is_current w.scratch.marker) (first-seen feed w s) ∙ e) f)
close_means B feed w false false z has s e f g =
    part-steps B feed _ its.SequenceCloseAfter w (w.events ++ exit (sequence_name w.scratch.marker) w.point ∷ [])
    (exit (sequence_name w.scratch.marker) w.point ∷ []) (cleared w.scratch) close_end z s has refl g
    (has.each its.SequenceCloseAfter)
    (has.each its.SequenceClose _ _
    ∙ close-done (feed w.point) (here w) (ap (is_current w.scratch.marker) (first-seen feed w s) ∙ e) f)

close-end : (cells : List Cell) (h : Here) (x : Bool) → is_end cells ≡ x →
    close_end cells h ≡
    cond x (Accepts (with_event h (exit (fence_name (held_marker h.flags.leaf)) h.point)) cells)
    (Refuses h.scratch h.flags)
unfolding close_end
close-end cells h x e = rw e refl

close_after_means : (B : Behaviour) (feed : Feed) (w : World) (x : Bool) → HasFence B w.setting.options →
    Sees feed w → ends_line w.current ≡ x →
    Steps B feed (Next (n.RawFlow its.SequenceCloseAfter)) w (close_after_code w x).to (close_after_code w x).world
close_after_means B feed w true has s e =
    moves B feed _ _ w (close_after_code w true).world (exit (fence_name (held_marker w.flags.leaf)) w.point ∷ []) refl
    refl
    (has.each its.SequenceCloseAfter _ _
    ∙ close-end (feed w.point) (here w) true (ap ends_line (first-seen feed w s) ∙ e))
close_after_means B feed w false has s e =
    passes B feed _ _ w w refl refl
    (has.each its.SequenceCloseAfter _ _
    ∙ close-end (feed w.point) (here w) false (ap ends_line (first-seen feed w s) ∙ e))

content-white : (cells : List Cell) (h : Here) → nat_lt 0 (held_indent h.flags.leaf) ≡ true →
    begins_white cells ≡ true → content_at cells h ≡ after_white_of (held_indent h.flags.leaf) before_chunk cells h
unfolding content_at
content-white cells h e f = rw (e, f) refl

content-none : (cells : List Cell) (h : Here) → nat_lt 0 (held_indent h.flags.leaf) && begins_white cells ≡ false →
    content_at cells h ≡ before_chunk cells h
unfolding content_at
content-none cells h e = rw e refl

content_start_means : (B : Behaviour) (feed : Feed) (w : World) (x : Bool) → HasFence B w.setting.options →
    Sees feed w → nat_lt 0 (held_indent w.flags.leaf) && sees_white w.current ≡ x →
    Steps B feed (Next (n.RawFlow its.ContentStart)) w (content_start_code w x).to (content_start_code w x).world
content_start_means B feed w true has s e =
    let both = and_parts (nat_lt 0 (held_indent w.flags.leaf)) (sees_white w.current) e in
    let some : 1 ≤ held_indent w.flags.leaf = let lt = both.0 in grind (arith, nat_tests) in
    white-steps B feed _ (n.RawFlow its.BeforeContentChunk) w w.events [] w.scratch (held_indent w.flags.leaf)
    before_chunk s has (sym (append-nil w.events)) some both.1 (has.each its.BeforeContentChunk)
    (has.each its.ContentStart _ _
    ∙ content-white (feed w.point) (here w) both.0 (begins-seen feed w s ∙ both.1))
content_start_means B feed w false has s e =
    passes B feed _ _ w w refl refl
    (has.each its.ContentStart _ _
    ∙ content-none (feed w.point) (here w)
    (ap (λ (x : Bool). nat_lt 0 (held_indent w.flags.leaf) && x) (begins-seen feed w s) ∙ e)
    ∙ sym (has.each its.BeforeContentChunk _ _))

chunk-end : (cells : List Cell) (h : Here) → is_end cells ≡ true →
    before_chunk cells h ≡ Accepts (line_done h h.point) cells
unfolding before_chunk
chunk-end cells h e = rw e refl

chunk-begins : (cells : List Cell) (h : Here) → is_end cells ≡ false →
    before_chunk cells h ≡ in_chunk cells (with_event h (enter (chunk_name (held_marker h.flags.leaf)) h.point))
unfolding before_chunk
chunk-begins cells h e = rw e refl

before_chunk_means : (B : Behaviour) (feed : Feed) (w : World) (x : Bool) → HasFence B w.setting.options →
    Sees feed w → ends_line w.current ≡ x →
    Steps B feed (Next (n.RawFlow its.BeforeContentChunk)) w (before_chunk_code w x).to (before_chunk_code w x).world
before_chunk_means B feed w true has s e =
    moves B feed _ _ w (before_chunk_code w true).world (exit (block_name (held_marker w.flags.leaf)) w.point ∷ []) refl
    refl
    (has.each its.BeforeContentChunk _ _
    ∙ chunk-end (feed w.point) (here w) (ap ends_line (first-seen feed w s) ∙ e))
before_chunk_means B feed w false has s e =
    moves B feed _ _ w (before_chunk_code w false).world (enter (chunk_name (held_marker w.flags.leaf)) w.point ∷ [])
    refl refl
    (has.each its.BeforeContentChunk _ _
    ∙ chunk-begins (feed w.point) (here w) (ap ends_line (first-seen feed w s) ∙ e)
    ∙ sym (has.each its.ContentChunk _ _))

chunk-more : (c : Cell) (cs : List Cell) (h : Here) → is_line c.byte ≡ true →
    in_chunk (c ∷ cs) h ≡ in_chunk cs (record h { point = c.after })
unfolding in_chunk
chunk-more c cs h e = rw e refl

chunk-done : (cells : List Cell) (h : Here) → is_end cells ≡ true →
    in_chunk cells h ≡
    Accepts (line_done (with_event h (exit (chunk_name (held_marker h.flags.leaf)) h.point)) h.point) cells
unfolding in_chunk
chunk-done cells h e =
    let none = run-none is_line cells h.point (line-first (first_seen cells) e) in rw (none.end, none.rest) refl

chunk_means : (B : Behaviour) (feed : Feed) (w : World) (x : Bool) → HasFence B w.setting.options → Sees feed w →
    ends_line w.current ≡ x →
    Steps B feed (Next (n.RawFlow its.ContentChunk)) w (chunk_code w x).to (chunk_code w x).world
chunk_means B feed w true has s e =
    let ends : is_end (feed w.point) ≡ true = ap ends_line (first-seen feed w s) ∙ e in
    moves B feed _ _ w (chunk_code w true).world (exit (chunk_name (held_marker w.flags.leaf)) w.point ∷ []) refl refl
    (has.each its.ContentChunk _ _ ∙ chunk-done (feed w.point) (here w) ends
    ∙ sym (chunk-end (feed w.point) (here (chunk_code w true).world) ends)
    ∙ sym (has.each its.BeforeContentChunk _ _))
chunk_means B feed w false has s e =
    let saw = sees-one feed w (λ (o : Option ℕ). not (ends_line o)) refl s (ap not e) in
    passes B feed _ _ w (chunk_code w false).world refl refl
    (has.each its.ContentChunk _ _ ∙ ap (λ (x : List Cell). in_chunk x (here w)) saw.1
    ∙ chunk-more (cell_here feed w saw.0) (feed (after w.setting w.point)) (here w) saw.2
    ∙ sym (has.each its.ContentChunk _ _))

-- each state of fenced code and math takes one step of its rule
fence_steps : (B : Behaviour) (feed : Feed) (state : RawState) (w : World) → HasFence B w.setting.options →
    Sees feed w → FenceInvariant (n.RawFlow state) (position w) →
    Steps B feed (Next (n.RawFlow state)) w (fence_transition state w).to (fence_transition state w).world
fence_steps B feed its.Start w has s at = fence_start_means B feed w _ _ has s refl refl
fence_steps B feed its.BeforeSequenceOpen w has s at = before_open_means B feed w has s
fence_steps B feed its.SequenceOpen w has s at = sequence_means B feed w _ _ _ has s refl refl refl
fence_steps B feed its.InfoBefore w has s at = info_before_means B feed w _ _ has s refl refl
fence_steps B feed its.Info w has s at = info_means B feed w _ _ _ has s refl refl refl
fence_steps B feed its.MetaBefore w has s at = meta_before_means B feed w _ _ has s refl refl
fence_steps B feed its.Meta w has s at = meta_means B feed w _ _ has s refl refl
fence_steps B feed its.AtNonLazyBreak w has s at = further_means B feed w _ has s at refl
fence_steps B feed its.CloseStart w has s at = close_start_means B feed w _ has s refl
fence_steps B feed its.BeforeSequenceClose w has s at = before_close_means B feed w _ has s refl
fence_steps B feed its.SequenceClose w has s at = close_means B feed w _ _ _ has s refl refl refl
fence_steps B feed its.SequenceCloseAfter w has s at = close_after_means B feed w _ has s refl
fence_steps B feed its.ContentBefore w has s at =
    passes B feed _ _ w w refl refl (has.each its.ContentBefore _ _ ∙ sym (has.each its.ContentStart _ _))
fence_steps B feed its.ContentStart w has s at = content_start_means B feed w _ has s refl
fence_steps B feed its.BeforeContentChunk w has s at = before_chunk_means B feed w _ has s refl
fence_steps B feed its.ContentChunk w has s at = chunk_means B feed w _ has s refl
fence_steps B feed its.After w has s at =
    moves B feed _ _ w (after_transition w).world (exit (block_name (held_marker w.flags.leaf)) w.point ∷ []) refl refl
    (has.each its.After _ _)

-- and so where its attempts end as they have to
pub fence_means : (B : Behaviour) (feed : Feed) (state : RawState) (w : World) (K : After) →
    HasFence B w.setting.options → Sees feed w → fence_ready (n.RawFlow state) (position w) K →
    Steps B feed (Next (n.RawFlow state)) w (fence_transition state w).to (fence_transition state w).world
fence_means B feed state w K has s at = fence_steps B feed state w has s at.0

-- what answers as the transition of a state does means what the state means
pub fence_rule : (state : RawState) (w new : World) (to : State) → to ≡ (fence_transition state w).to →
    new ≡ (fence_transition state w).world → FenceMeans state w to new
unfolding FenceMeans
fence_rule state w new to e k at B feed has s =
    steps-as B feed _ _ to w _ new e k (fence_steps B feed state w has s at)
