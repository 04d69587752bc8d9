-- Each state of frontmatter takes one step of its rule.
use Rattle.std.proofs.Common.{◌≡◌, ℕ, suc, ◌+◌, ◌≤◌, Bool, true, false, ◌&&◌, nat_eq, nat_lt, List, [], ◌∷◌, ◌++◌}
use Rattle.std.proofs.Common.{length, take, Option, Some, None, refl, sym, ◌∙◌, ap, arith, append_assoc}
use Rattle.std.specs.Prelude.{not, ◌==◌}
use Rattle.std.proofs.lemmas.Bool.Decides.{nat_tests}
use Rattle.std.proofs.Math.Seq.{take-append_seam}
use Rattle.md_engine.specs.declared.event.Event.{Event}
use Rattle.md_engine.specs.declared.event.Name.TheVariants as part
use Rattle.md_engine.specs.declared.state.Name.{Name as StateName}
use Rattle.md_engine.specs.declared.state.Name.TheVariants as n
use Rattle.md_engine.specs.declared.state.frontmatter.State.{State as FrontState}
use Rattle.md_engine.specs.declared.state.frontmatter.State.TheVariants as its
use Rattle.md_engine.specs.declared.state.State.{State}
use Rattle.md_engine.specs.declared.state.State.TheVariants.{Next}
use Rattle.md_engine.specs.declared.tokenizer.Frame.{Frame}
use Rattle.md_engine.specs.declared.tokenizer.Scratch.{Scratch}
use Rattle.md_engine.specs.Meaning.{Accepts, Behaviour, Cell, Fails, Feed, Here, Outcome, Refuses, Steps, here, resume}
use Rattle.md_engine.specs.World.{Flags, World, after}
use Rattle.md_engine.specs.Sees.{Sees, ahead, cell_here}
use Rattle.md_engine.proofs.StepOf.{begins, moves, passes, steps-as}
use Rattle.md_leaves.specs.Heading.{without_size}
use Rattle.md_leaves.proofs.LeafSteps.{sees-one, white_frame}
use Rattle.md_leaves.specs.CellRuns.{after_white_of, is_end, run_end, run_rest, run_size, with_event}
use Rattle.md_events.specs.Ahead.{HasWhite, begins_white}
use Rattle.md_events.specs.Events.Nested.{enter, exit, pair}
use Rattle.md_events.specs.Look.{first_seen}
use Rattle.md_events.specs.Spaces.{any_size, ends_line, is_current, sees_white}
use Rattle.md_events.proofs.LookLemmas.{first-seen}
use Rattle.md_events.proofs.WhiteMeaning.{begins-seen, white-tried}
use Rattle.md_containers.specs.Frontmatter.{after_code, begun, after_part, cleared, close_after_code, close_start_code}
use Rattle.md_containers.specs.Frontmatter.{content_end_code, content_inside_code, content_start_code, front_transition}
use Rattle.md_containers.specs.Frontmatter.{is_marker, open_after_code, sequence_code, start_at, start_by, start_code}
use Rattle.md_containers.specs.FrontmatterRule.{FrontMeans, HasFront, at_line, following_ending, after_front}
use Rattle.md_containers.specs.FrontmatterRule.{following_line, chunk_begun, chunk_ended, close_end, closed_or}
use Rattle.md_containers.specs.FrontmatterRule.{fence_begun, front_begun, front_here, in_close, in_lines, in_open}
use Rattle.md_containers.specs.FrontmatterRule.{in_sequence, open_end, refuses}

-- After a part, and whitespace if some is there.

part-steps : (B : Behaviour) (feed : Feed) (from : StateName) (state : FrontState) (w : World)
    (events added : List Event) (s : Scratch) (following : List Cell → Here → Outcome) (x : Bool) → Sees feed w →
    HasWhite B → events ≡ w.events ++ added → sees_white w.current ≡ x →
    ((cells : List Cell) (h : Here) → B (n.Frontmatter state) cells h ≡ following cells h) →
    B from (feed w.point) (here w) ≡
    after_white_of any_size following (feed w.point) (here (record w { events = events; scratch = s })) →
    Steps B feed (Next from) w (after_part (record w { events = events; scratch = s }) state x).to
    (after_part (record w { events = events; scratch = s }) state x).world
part-steps B feed from state w events added s following true saw has e f next_is from_is =
    let h : Here = here (record w { events = events; scratch = s }) in
    let frame : Frame = white_frame (Next (n.Frontmatter state)) w events in
    let white : begins_white (feed w.point) ≡ true = begins-seen feed w saw ∙ f in
    begins B feed _ _ w (after_part (record w { events = events; scratch = s }) state true).world added
    frame refl e
    (from_is ∙ rw white (sym (next_is _ _))
    ∙ white-tried B feed frame events (feed w.point) h 0 any_size has white (omega arith) (omega arith) refl)
part-steps B feed from state w events added s following false saw has e f next_is from_is =
    let none : begins_white (feed w.point) ≡ false = begins-seen feed w saw ∙ f in
    moves B feed _ _ w (record w { events = events; scratch = s }) added refl e
    (from_is ∙ rw none (sym (next_is _ _)))

-- A sequence.

marker-none : (cells : List Cell) (m : ℕ) (h : Here) → is_current m (first_seen cells) ≡ false →
    (run_size (λ b. b == m) cells ≡ 0) × (run_end (λ b. b == m) cells h.point ≡ h.point) ×
    (run_rest (λ b. b == m) cells ≡ cells)
marker-none [] m h e = (refl, refl, refl)
marker-none (c ∷ cs) m h e = (rw e refl, rw e refl, rw e refl)

sequence-more : (following : List Cell → Here → Outcome) (left : Scratch) (c : Cell) (cs : List Cell) (h : Here) →
    nat_eq c.byte h.scratch.marker ≡ true →
    in_sequence following left (c ∷ cs) h ≡
    in_sequence following left cs
    (record h { point = c.after; scratch = record h.scratch { size = h.scratch.size + 1 } })
unfolding in_sequence
sequence-more following left c cs h e =
    let count = run_size (λ b. b == h.scratch.marker) cs in
    let sum : h.scratch.size + suc count ≡ h.scratch.size + 1 + count = omega arith in
    rw (e, sum) refl

-- one marker too many
sequence-many : (following : List Cell → Here → Outcome) (left : Scratch) (c : Cell) (cs : List Cell) (h : Here) →
    nat_eq c.byte h.scratch.marker ≡ true → nat_lt h.scratch.size 3 ≡ false →
    in_sequence following left (c ∷ cs) h ≡ Refuses left h.flags
unfolding in_sequence
sequence-many following left c cs h e much =
    let count = run_size (λ b. b == h.scratch.marker) cs in
    let le : 3 ≤ h.scratch.size = grind (arith, nat_tests) in
    let no : nat_eq (h.scratch.size + suc count) 3 ≡ false = grind (arith, nat_tests) in
    rw (e, no) refl

sequence-ends : (following : List Cell → Here → Outcome) (left : Scratch) (cells : List Cell) (h : Here) →
    is_current h.scratch.marker (first_seen cells) ≡ false → nat_eq h.scratch.size 3 ≡ true →
    in_sequence following left cells h ≡
    after_white_of any_size following cells
    (record (with_event h (exit part.FrontmatterSequence h.point)) { scratch = without_size h.scratch })
unfolding in_sequence
sequence-ends following left cells h e three =
    let none = marker-none cells h.scratch.marker h e in
    let sum : h.scratch.size + run_size (λ b. b == h.scratch.marker) cells ≡ h.scratch.size = omega (arith, none.0) in
    rw (sum, three, none.1, none.2) refl

sequence-few : (following : List Cell → Here → Outcome) (left : Scratch) (cells : List Cell) (h : Here) →
    is_current h.scratch.marker (first_seen cells) ≡ false → nat_eq h.scratch.size 3 ≡ false →
    in_sequence following left cells h ≡ Refuses left h.flags
unfolding in_sequence
sequence-few following left cells h e few =
    let none = marker-none cells h.scratch.marker h e in
    let sum : h.scratch.size + run_size (λ b. b == h.scratch.marker) cells ≡ h.scratch.size = omega (arith, none.0) in
    rw (sum, few) refl

-- its states, and what is left at them
record IsSequence (B : Behaviour) (w : World) (now next : FrontState) (left : Scratch)
    (following : List Cell → Here → Outcome) : Type 0 where
  pub white : HasWhite B
  pub from : (cells : List Cell) (h : Here) → h.scratch.marker ≡ w.scratch.marker →
      cleared h.scratch ≡ cleared w.scratch → without_size h.scratch ≡ without_size w.scratch →
      B (n.Frontmatter now) cells h ≡ in_sequence following left cells h
  pub to : (cells : List Cell) (h : Here) → B (n.Frontmatter next) cells h ≡ following cells h

sequence_means : (B : Behaviour) (feed : Feed) (w : World) (now next : FrontState) (left : Scratch)
    (following : List Cell → Here → Outcome) (m few z : Bool) → IsSequence B w now next left following → Sees feed w →
    is_current w.scratch.marker w.current ≡ m → nat_lt w.scratch.size 3 ≡ few → sees_white w.current ≡ z →
    Steps B feed (Next (n.Frontmatter now)) w
    (sequence_code now next left w (m && few) (not m && (w.scratch.size == 3)) z).to
    (sequence_code now next left w (m && few) (not m && (w.scratch.size == 3)) z).world
sequence_means B feed w now next left following true true z is s e f g =
    let saw = sees-one feed w (is_current w.scratch.marker) refl s e in
    passes B feed _ _ w (sequence_code now next left w true false z).world refl refl
    (is.from _ _ refl refl refl ∙ ap (λ (x : List Cell). in_sequence following left x (here w)) saw.1
    ∙ sequence-more following left (cell_here feed w saw.0) (feed (after w.setting w.point)) (here w) saw.2
    ∙ sym (is.from _ _ refl refl refl))
sequence_means B feed w now next left following true false z is s e f g =
    let saw = sees-one feed w (is_current w.scratch.marker) refl s e in
    passes B feed _ _ w (sequence_code now next left w false false z).world refl refl
    (is.from _ _ refl refl refl ∙ ap (λ (x : List Cell). in_sequence following left x (here w)) saw.1
    ∙ sequence-many following left (cell_here feed w saw.0) (feed (after w.setting w.point)) (here w) saw.2 f)
sequence_means B feed w now next left following false few z is s e f g = go (nat_eq w.scratch.size 3) refl
  where
    none : is_current w.scratch.marker (first_seen (feed w.point)) ≡ false
    none = ap (is_current w.scratch.marker) (first-seen feed w s) ∙ e

    go : (x : Bool) → nat_eq w.scratch.size 3 ≡ x →
        Steps B feed (Next (n.Frontmatter now)) w (sequence_code now next left w false x z).to
        (sequence_code now next left w false x z).world
    go true k =
        part-steps B feed _ next w (w.events ++ exit part.FrontmatterSequence w.point ∷ [])
        (exit part.FrontmatterSequence w.point ∷ []) (without_size w.scratch) following z s is.white refl g is.to
        (is.from _ _ refl refl refl ∙ sequence-ends following left (feed w.point) (here w) none k)
    go false k =
        passes B feed _ _ w (sequence_code now next left w false false z).world refl refl
        (is.from _ _ refl refl refl ∙ sequence-few following left (feed w.point) (here w) none k)

opening : (B : Behaviour) (w : World) → HasFront B w.setting.options →
    IsSequence B w its.OpenSequence its.OpenAfter (cleared w.scratch) open_end
opening B w has = record {
  white = has.white;
  from = λ cells h m c s. has.each its.OpenSequence cells h ∙ ap (λ (t : Scratch). in_sequence open_end t cells h) c;
  to = has.each its.OpenAfter;
}

closing : (B : Behaviour) (w : World) → HasFront B w.setting.options →
    IsSequence B w its.CloseSequence its.CloseAfter (without_size w.scratch) close_end
closing B w has = record {
  white = has.white;
  from = λ cells h m c s. has.each its.CloseSequence cells h ∙ ap (λ (t : Scratch). in_sequence close_end t cells h) s;
  to = has.each its.CloseAfter;
}

-- The opening fence.

pub front-none : (h : Here) → front_here [] h ≡ Refuses h.scratch h.flags
unfolding front_here
front-none h = refl

pub front-begins : (c : Cell) (cs : List Cell) (h : Here) → is_marker c.byte ≡ true →
    front_here (c ∷ cs) h ≡ in_open (c ∷ cs) (front_begun c.byte h)
unfolding front_here
front-begins c cs h e = rw e refl

pub front-other : (c : Cell) (cs : List Cell) (h : Here) → is_marker c.byte ≡ false →
    front_here (c ∷ cs) h ≡ Refuses h.scratch h.flags
unfolding front_here
front-other c cs h e = rw e refl

not-true : (x : Bool) → not x ≡ true → x ≡ false
not-true true e = cc
not-true false e = refl

start_means : (B : Behaviour) (feed : Feed) (w : World) (x : Bool) → HasFront B w.setting.options → Sees feed w →
    w.setting.options.constructs.frontmatter ≡ x →
    Steps B feed (Next (n.Frontmatter its.Start)) w (start_by w x).to (start_by w x).world
start_means B feed w false has s e = passes B feed _ _ w w refl refl (has.each its.Start _ _ ∙ rw e refl)
start_means B feed w true has s e = go w.current s.next
  where
    on : B (n.Frontmatter its.Start) (feed w.point) (here w) ≡ front_here (feed w.point) (here w)
    on = has.each its.Start _ _ ∙ rw e refl

    go : (o : Option ℕ) → feed w.point ≡ ahead feed w o →
        Steps B feed (Next (n.Frontmatter its.Start)) w (start_at w o).to (start_at w o).world
    go None k =
        passes B feed _ _ w w refl refl
        (on ∙ ap (λ (cells : List Cell). front_here cells (here w)) k ∙ front-none (here w))
    go (Some b) k = by (is_marker b) refl
      where
        by : (y : Bool) → is_marker b ≡ y →
            Steps B feed (Next (n.Frontmatter its.Start)) w (start_code w b y).to (start_code w b y).world
        by true l =
            moves B feed _ _ w (begun w b)
            (enter part.Frontmatter w.point ∷ enter part.FrontmatterFence w.point
            ∷ enter part.FrontmatterSequence w.point ∷ []) refl (simp append_assoc)
            (on ∙ ap (λ (cells : List Cell). front_here cells (here w)) k
            ∙ front-begins (cell_here feed w b) (feed (after w.setting w.point)) (here w) l
            ∙ ap (λ (cells : List Cell). in_open cells (front_begun b (here w))) (sym k)
            ∙ sym (has.each its.OpenSequence _ _))
        by false l =
            passes B feed _ _ w w refl refl
            (on ∙ ap (λ (cells : List Cell). front_here cells (here w)) k
            ∙ front-other (cell_here feed w b) (feed (after w.setting w.point)) (here w) l)

pub open-ends : (c : Cell) (cs : List Cell) (h : Here) → nat_eq c.byte 10 ≡ true →
    open_end (c ∷ cs) h ≡ at_line cs (following_ending c (with_event h (exit part.FrontmatterFence h.point)))
unfolding open_end
open-ends c cs h e = rw e refl

pub open-none : (cells : List Cell) (h : Here) → is_current 10 (first_seen cells) ≡ false → open_end cells h ≡ refuses h
unfolding open_end
open-none [] h e = refl
open-none (c ∷ cs) h e = rw e refl

open_after_means : (B : Behaviour) (feed : Feed) (w : World) (x : Bool) → HasFront B w.setting.options → Sees feed w →
    is_current 10 w.current ≡ x →
    Steps B feed (Next (n.Frontmatter its.OpenAfter)) w (open_after_code w x).to (open_after_code w x).world
open_after_means B feed w true has s e =
    let saw = sees-one feed w (is_current 10) refl s e in
    let q = after w.setting w.point in
    moves B feed _ _ w (open_after_code w true).world
    (exit part.FrontmatterFence w.point ∷ pair part.LineEnding w.point q) refl (simp append_assoc)
    (has.each its.OpenAfter _ _ ∙ ap (λ (cells : List Cell). open_end cells (here w)) saw.1
    ∙ open-ends (cell_here feed w saw.0) (feed q) (here w) saw.2
    ∙ ap (λ (es : List Event). at_line (feed q) (record (here w) { events = es; point = q })) (simp append_assoc)
    ∙ sym (has.each its.CloseStart _ _))
open_after_means B feed w false has s e =
    passes B feed _ _ w (open_after_code w false).world refl refl
    (has.each its.OpenAfter _ _ ∙ open-none (feed w.point) (here w) (ap (is_current 10) (first-seen feed w s) ∙ e))

-- A further line.

-- an attempt at a closing fence becomes that, or to a line
closed-resumes : (B : Behaviour) (feed : Feed) (w : World) (events : List Event) (f : Frame) (o : Outcome) →
    HasFront B w.setting.options →
    f ≡
    (record {
      ok = Next (n.Frontmatter its.After);
      nok = Next (n.Frontmatter its.ContentStart);
      is_check = false;
      events_len = length w.events;
      point = w.point;
    }) →
    events ≡ w.events ++ enter part.FrontmatterFence w.point ∷ enter part.FrontmatterSequence w.point ∷ [] →
    closed_or (λ s g. in_lines false (feed w.point) (record (here w) { scratch = s; flags = g })) o ≡
    resume B feed events f o
closed-resumes B feed w events f (Accepts k rest) has e l = rw e (sym (has.each its.After rest k))
closed-resumes B feed w events f (Refuses s g) has e l =
    rw e
    (ap
    (λ (es : List Event).
    in_lines false (feed w.point) (record { events = es; point = w.point; scratch = s; flags = g }))
    (sym (ap (take (length w.events)) l ∙ take-append_seam w.events _))
    ∙ sym (has.each its.ContentStart _ _))
closed-resumes B feed w events f Fails has e l = refl

close_start_means : (B : Behaviour) (feed : Feed) (w : World) (x : Bool) → HasFront B w.setting.options → Sees feed w →
    is_current w.scratch.marker w.current ≡ x →
    Steps B feed (Next (n.Frontmatter its.CloseStart)) w (close_start_code w x).to (close_start_code w x).world
close_start_means B feed w true has s e =
    let f : Frame = record {
      ok = Next (n.Frontmatter its.After);
      nok = Next (n.Frontmatter its.ContentStart);
      is_check = false;
      events_len = length w.events;
      point = w.point;
    } in
    let marker : is_current w.scratch.marker (first_seen (feed w.point)) ≡
    true = ap (is_current w.scratch.marker) (first-seen feed w s) ∙ e in
    let content : Scratch → Flags → Outcome =
    λ t g. in_lines false (feed w.point) (record (here w) { scratch = t; flags = g }) in
    begins B feed _ _ w (close_start_code w true).world
    (enter part.FrontmatterFence w.point ∷ enter part.FrontmatterSequence w.point ∷ []) f refl (simp append_assoc)
    (has.each its.CloseStart _ _ ∙ rw marker refl
    ∙ closed-resumes B feed w (close_start_code w true).world.events f
    (in_close (feed w.point) (fence_begun (here w))) has
    refl (simp append_assoc)
    ∙ ap (resume B feed (close_start_code w true).world.events f) (sym (has.each its.CloseSequence _ _)))
close_start_means B feed w false has s e =
    let marker : is_current w.scratch.marker (first_seen (feed w.point)) ≡
    false = ap (is_current w.scratch.marker) (first-seen feed w s) ∙ e in
    passes B feed _ _ w w refl refl
    (has.each its.CloseStart _ _ ∙ rw marker refl ∙ sym (has.each its.ContentStart _ _))

pub close-done : (cells : List Cell) (h : Here) → is_end cells ≡ true →
    close_end cells h ≡ Accepts (with_event h (exit part.FrontmatterFence h.point)) cells
unfolding close_end
close-done cells h e = rw e refl

pub close-proceeds : (cells : List Cell) (h : Here) → is_end cells ≡ false → close_end cells h ≡
    Refuses h.scratch h.flags
unfolding close_end
close-proceeds cells h e = rw e refl

close_after_means : (B : Behaviour) (feed : Feed) (w : World) (x : Bool) → HasFront B w.setting.options → Sees feed w →
    ends_line w.current ≡ x →
    Steps B feed (Next (n.Frontmatter its.CloseAfter)) w (close_after_code w x).to (close_after_code w x).world
close_after_means B feed w true has s e =
    moves B feed _ _ w (close_after_code w true).world (exit part.FrontmatterFence w.point ∷ []) refl refl
    (has.each its.CloseAfter _ _ ∙ close-done (feed w.point) (here w) (ap ends_line (first-seen feed w s) ∙ e))
close_after_means B feed w false has s e =
    passes B feed _ _ w w refl refl
    (has.each its.CloseAfter _ _ ∙ close-proceeds (feed w.point) (here w) (ap ends_line (first-seen feed w s) ∙ e))

-- at the end of a line
pub lines-end : (begun' : Bool) (cells : List Cell) (h : Here) → is_end cells ≡ true →
    in_lines begun' cells h ≡ following_line cells (chunk_ended begun' h)
unfolding in_lines
lines-end true [] h e = refl
lines-end false [] h e = refl
lines-end begun' (c ∷ cs) h e = rw e refl

pub lines-more : (begun' : Bool) (c : Cell) (cs : List Cell) (h : Here) → nat_eq c.byte 10 ≡ false →
    in_lines begun' (c ∷ cs) h ≡ in_lines true cs (record (chunk_begun begun' h) { point = c.after })
unfolding in_lines
lines-more begun' c cs h e = rw e refl

content_start_means : (B : Behaviour) (feed : Feed) (w : World) (x : Bool) → HasFront B w.setting.options →
    Sees feed w → ends_line w.current ≡ x →
    Steps B feed (Next (n.Frontmatter its.ContentStart)) w (content_start_code w x).to (content_start_code w x).world
content_start_means B feed w true has s e =
    passes B feed _ _ w w refl refl
    (has.each its.ContentStart _ _
    ∙ lines-end false (feed w.point) (here w) (ap ends_line (first-seen feed w s) ∙ e)
    ∙ sym (has.each its.ContentEnd _ _))
content_start_means B feed w false has s e =
    let saw = sees-one feed w (λ (o : Option ℕ). not (ends_line o)) refl s (ap not e) in
    let other : nat_eq saw.0 10 ≡ false = not-true (nat_eq saw.0 10) saw.2 in
    moves B feed _ _ w (content_start_code w false).world (enter part.FrontmatterChunk w.point ∷ []) refl refl
    (has.each its.ContentStart _ _ ∙ ap (λ (cells : List Cell). in_lines false cells (here w)) saw.1
    ∙ lines-more false (cell_here feed w saw.0) (feed (after w.setting w.point)) (here w) other
    ∙ sym
    (ap
    (λ (cells : List Cell).
    in_lines true cells (with_event (here w) (enter part.FrontmatterChunk w.point))) saw.1
    ∙ lines-more true (cell_here feed w saw.0) (feed (after w.setting w.point))
    (with_event (here w) (enter part.FrontmatterChunk w.point)) other)
    ∙ sym (has.each its.ContentInside _ _))

content_inside_means : (B : Behaviour) (feed : Feed) (w : World) (x : Bool) → HasFront B w.setting.options →
    Sees feed w → ends_line w.current ≡ x →
    Steps B feed (Next (n.Frontmatter its.ContentInside)) w (content_inside_code w x).to (content_inside_code w x).world
content_inside_means B feed w true has s e =
    moves B feed _ _ w (content_inside_code w true).world (exit part.FrontmatterChunk w.point ∷ []) refl refl
    (has.each its.ContentInside _ _
    ∙ lines-end true (feed w.point) (here w) (ap ends_line (first-seen feed w s) ∙ e)
    ∙ sym (has.each its.ContentEnd _ _))
content_inside_means B feed w false has s e =
    let saw = sees-one feed w (λ (o : Option ℕ). not (ends_line o)) refl s (ap not e) in
    passes B feed _ _ w (content_inside_code w false).world refl refl
    (has.each its.ContentInside _ _ ∙ ap (λ (cells : List Cell). in_lines true cells (here w)) saw.1
    ∙ lines-more true (cell_here feed w saw.0) (feed (after w.setting w.point)) (here w)
    (not-true (nat_eq saw.0 10) saw.2)
    ∙ sym (has.each its.ContentInside _ _))

line-ends : (c : Cell) (cs : List Cell) (h : Here) → nat_eq c.byte 10 ≡ true →
    following_line (c ∷ cs) h ≡ at_line cs (following_ending c h)
line-ends c cs h e = rw e refl

line-none : (cells : List Cell) (h : Here) → is_current 10 (first_seen cells) ≡ false →
    following_line cells h ≡ refuses h
line-none [] h e = refl
line-none (c ∷ cs) h e = rw e refl

content_end_means : (B : Behaviour) (feed : Feed) (w : World) (x : Bool) → HasFront B w.setting.options → Sees feed w →
    is_current 10 w.current ≡ x →
    Steps B feed (Next (n.Frontmatter its.ContentEnd)) w (content_end_code w x).to (content_end_code w x).world
content_end_means B feed w true has s e =
    let saw = sees-one feed w (is_current 10) refl s e in
    let q = after w.setting w.point in
    moves B feed _ _ w (content_end_code w true).world (pair part.LineEnding w.point q) refl (simp append_assoc)
    (has.each its.ContentEnd _ _ ∙ ap (λ (cells : List Cell). following_line cells (here w)) saw.1
    ∙ line-ends (cell_here feed w saw.0) (feed q) (here w) saw.2
    ∙ ap (λ (es : List Event). at_line (feed q) (record (here w) { events = es; point = q })) (simp append_assoc)
    ∙ sym (has.each its.CloseStart _ _))
content_end_means B feed w false has s e =
    passes B feed _ _ w (content_end_code w false).world refl refl
    (has.each its.ContentEnd _ _ ∙ line-none (feed w.point) (here w) (ap (is_current 10) (first-seen feed w s) ∙ e))

front-ends : (c : Cell) (cs : List Cell) (h : Here) → nat_eq c.byte 10 ≡ true →
    after_front (c ∷ cs) h ≡ Accepts (following_ending c h) cs
front-ends c cs h e = rw e refl

front-stays : (cells : List Cell) (h : Here) → is_current 10 (first_seen cells) ≡ false →
    after_front cells h ≡ Accepts h cells
front-stays [] h e = refl
front-stays (c ∷ cs) h e = rw e refl

after_means : (B : Behaviour) (feed : Feed) (w : World) (x : Bool) → HasFront B w.setting.options → Sees feed w →
    is_current 10 w.current ≡ x →
    Steps B feed (Next (n.Frontmatter its.After)) w (after_code w x).to (after_code w x).world
after_means B feed w true has s e =
    let saw = sees-one feed w (is_current 10) refl s e in
    let q = after w.setting w.point in
    let ended : Here = with_event (record (here w) { scratch = cleared w.scratch }) (exit part.Frontmatter w.point) in
    moves B feed _ _ w (after_code w true).world (exit part.Frontmatter w.point ∷ pair part.LineEnding w.point q) refl
    (simp append_assoc)
    (has.each its.After _ _ ∙ ap (λ (cells : List Cell). after_front cells ended) saw.1
    ∙ front-ends (cell_here feed w saw.0) (feed q) ended saw.2
    ∙ ap (λ (es : List Event). Accepts (record ended { events = es; point = q }) (feed q)) (simp append_assoc))
after_means B feed w false has s e =
    let ended : Here = with_event (record (here w) { scratch = cleared w.scratch }) (exit part.Frontmatter w.point) in
    moves B feed _ _ w (after_code w false).world (exit part.Frontmatter w.point ∷ []) refl refl
    (has.each its.After _ _
    ∙ front-stays (feed w.point) ended (ap (is_current 10) (first-seen feed w s) ∙ e))

-- each state of frontmatter takes one step of what it means
pub front_means : (B : Behaviour) (feed : Feed) (state : FrontState) (w : World) → HasFront B w.setting.options →
    Sees feed w →
    Steps B feed (Next (n.Frontmatter state)) w (front_transition state w).to (front_transition state w).world
front_means B feed its.Start w has s = start_means B feed w _ has s refl
front_means B feed its.OpenSequence w has s =
    sequence_means B feed w its.OpenSequence its.OpenAfter (cleared w.scratch) open_end _ _ _ (opening B w has) s refl
    refl refl
front_means B feed its.OpenAfter w has s = open_after_means B feed w _ has s refl
front_means B feed its.CloseStart w has s = close_start_means B feed w _ has s refl
front_means B feed its.CloseSequence w has s =
    sequence_means B feed w its.CloseSequence its.CloseAfter (without_size w.scratch) close_end _ _ _
    (closing B w has) s
    refl refl refl
front_means B feed its.CloseAfter w has s = close_after_means B feed w _ has s refl
front_means B feed its.ContentStart w has s = content_start_means B feed w _ has s refl
front_means B feed its.ContentInside w has s = content_inside_means B feed w _ has s refl
front_means B feed its.ContentEnd w has s = content_end_means B feed w _ has s refl
front_means B feed its.After w has s = after_means B feed w _ has s refl

-- what answers as the transition of a state does means what the state means
pub front_rule : (state : FrontState) (w new : World) (to : State) → to ≡ (front_transition state w).to →
    new ≡ (front_transition state w).world → FrontMeans state w to new
unfolding FrontMeans
front_rule state w new to e k B feed has s = steps-as B feed _ _ to w _ new e k (front_means B feed state w has s)
