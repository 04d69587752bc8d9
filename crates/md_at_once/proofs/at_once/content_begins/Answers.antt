use Rattle.std.proofs.Common.{◌≡◌, ◌≢◌, ◌≤◌, ◌<◌, ◌∙◌, ◌++◌, ℕ, List, [], ◌∷◌, ap, arith, is_ok, length, length-append}
use Rattle.std.proofs.Common.{refl, subst, sym, true}
use Rattle.std.specs.List.{All}
use Rattle.std.specs.Vec.{vec_len}
use Rattle.md_content.specs.Chunks.{chunk_inside_code, chunk_start_transition, chunk_transition}
use Rattle.md_engine.specs.Full.{IsFullOf}
use Rattle.md_engine.specs.Full.Grown.{Events, Frames, Resolvers}
use Rattle.md_engine.specs.Place.{IsPlaced}
use Rattle.md_engine.specs.Run.{reading}
use Rattle.md_engine.specs.Staying.{SeesAll}
use Rattle.md_engine.specs.World.{Setting, World, looks, world}
use Rattle.md_engine.specs.declared.event.Event.{Event}
use Rattle.md_engine.specs.declared.state.content.State.TheVariants as content
use Rattle.md_engine.specs.declared.state.Name.TheVariants as n
use Rattle.md_engine.specs.declared.state.flow.State.TheVariants as flow
use Rattle.md_engine.specs.declared.state.State.TheVariants.{Error}
use Rattle.md_engine.specs.declared.stay.Stay.TheVariants.{Line}
use Rattle.md_engine.specs.declared.tokenizer.Frame.{Frame}
use Rattle.md_engine.specs.declared.tokenizer.Tokenizer.{Tokenizer}
use Rattle.md_engine.proofs.Loops.{ArrivedHere, arrived-runs}
use Rattle.md_engine.proofs.StayLemmas.{some-setting, within-world}
use Rattle.md_events.proofs.SpacesTermination.{inside-line}
use Rattle.md_events.specs.Transition.{Transition}
use Rattle.md_leaves.proofs.HeadingCalls.{ahead}
use Rattle.md_registry.specs.States.{FlowStep}
use Rattle.md_registry.proofs.LinesAtOnce.{leaves-once}
use Rattle.md_tables.proofs.RowWords.{on-ok}
use Rattle.md_at_once.specs.AtOnce.{line_tried}
use Rattle.md_at_once.proofs.ContentLines.{content-ends, content-waits, ends-there, some-keeps}
use Rattle.md_at_once.proofs.FlowRuns.{run-short}
use Rattle.md_at_once.proofs.WantOfMemory.{chunk-short, state-wants, wanted, wants-following}
use Rattle.md_at_once.proofs.at_once.content_begins.Goals as goal

pub returns-then-ends_line : goal.returns-then-ends_line
returns-then-ends_line c =
    let w = world c.args.tokenizer.now in
    let all = λ (fine : c.before_content.result ≢ Error).
    leaves-once (n.Flow flow.BeforeContent) w c.before_content.result (world c.before_content.new.tokenizer)
    ((refl, refl), refl) (c.before_content.ensures.to fine) (c.before_content.ensures.world fine) fine
    c.requires.current (within-world c.args.tokenizer.now) in
    record {
      runs = λ fine. (all fine).0;
      sees = λ fine. (all fine).1;
      full =
          state-wants (n.Flow flow.BeforeContent) w c.before_content.result c.before_content.new.tokenizer
          c.before_content.ensures.full;
    }

pub returns-in-Error : goal.returns-in-Error
returns-in-Error c =
    let t = c.chunk_start.new.tokenizer in
    run-short (n.Flow flow.BeforeContent) (world c.args.tokenizer.now) t
    (chunk-short t
    (wanted c.chunk_start.result (IsFullOf (Resolvers ∷ Events ∷ Frames ∷ []) t) c.in-Error.is
    c.chunk_start.ensures.full))

-- the point before the line lies in a text that is the same
placed-on : (t : Tokenizer) (v : World) → v.setting ≡ (world t).setting → IsPlaced v.setting.bytes t.point
placed-on t v same = subst (λ (x : Setting). IsPlaced x.bytes t.point) (sym same) t.sound.placed

-- there are as many events as the list has
counted : (t : Tokenizer) (k : ℕ) → k ≡ vec_len t.events → k ≡ length (world t).events
counted t k is = is ∙ t.events.ok.0

-- and after one more no fewer
still-within : (events : List Event) (event : Event) (k : ℕ) → k ≡ length events → k ≤ length (events ++ event ∷ [])
still-within events event k is = let more = length-append events (event ∷ []) in omega (arith, is, more)

-- the line is seen from where it has begun
seen-from : (w a u : World) → a ≡ (chunk_start_transition w).world → SeesAll Line a u →
    SeesAll Line (chunk_start_transition w).world u
seen-from w a u started all = subst (λ (x : World). SeesAll Line x u) started all

pub content_tried-requires : goal.content_tried-requires
content_tried-requires c =
    let t = c.args.tokenizer.now in
    let w = world t in
    let a : World = (chunk_start_transition w).world in
    let u = world c.see_line.new.self in
    let v = world c.see_or_wait.new.self in
    let many = c.len-many.result in
    let len : many ≡ length w.events = counted c.args.tokenizer.now many c.len-many.ensures in
    let all = seen-from w (world c.chunk_start.new.tokenizer) u
    (c.chunk_start.ensures.world c.in_default.not-Error) c.see_line.ensures in
    let keeps = some-keeps a u all.some in
    let same : v ≡ u = c.if-see_or_wait.ensures.same refl in
    let es : v.events ≡ a.events = ap (λ (x : World). x.events) same ∙ keeps.events in
    let fs : v.frames ≡ w.frames = ap (λ (x : World). x.frames) same ∙ keeps.frames in
    record {
      placed = placed-on t v (ap (λ (x : World). x.setting) same ∙ some-setting Line a u all.some);
      many = subst (λ (l : List Event). many ≤ length l) (sym es) (still-within w.events _ many len);
      outer =
          subst (All (λ (f : Frame). f.events_len ≤ many)) (sym fs)
          (subst (λ (k : ℕ). All (λ (f : Frame). f.events_len ≤ k) w.frames) (sym len) (within-world t));
    }

pub returns-then-see_or_wait-2 : goal.returns-then-see_or_wait-2
returns-then-see_or_wait-2 c =
    let w = world c.args.tokenizer.now in
    let u = world c.see_line.new.self in
    let x = world c.content_tried.new.tokenizer in
    let many = c.len-many.result in
    let len : many ≡ length w.events = counted c.args.tokenizer.now many c.len-many.ensures in
    let same : world c.see_or_wait.new.self ≡ u = c.if-see_or_wait.ensures.same refl in
    let has_tried : is_ok c.content_tried.result ≡ true = c.if-or_error.ensures.negation in
    let new : x ≡ line_tried (length w.events) w.point u =
    on-ok c.content_tried.result (x ≡ line_tried many w.point (world c.see_or_wait.new.self)) has_tried
    c.content_tried.ensures.world
    ∙ ap (line_tried many w.point) same
    ∙ ap (λ (k : ℕ). line_tried k w.point u) len in
    record {
      runs = λ fine.
          content-waits w u x c.requires.current (within-world c.args.tokenizer.now)
          (inside-line w c.requires.current (sym c.ends_line.ensures ∙ c.if-ends_line.false))
          (seen-from w (world c.chunk_start.new.tokenizer) u
          (c.chunk_start.ensures.world c.in_default.not-Error) c.see_line.ensures)
          (c.if-see_or_wait.ensures.waits refl).1 new;
      sees = λ fine. tt;
      full = tt;
    }

pub returns-in-Error-chunk_inside : goal.returns-in-Error-chunk_inside
returns-in-Error-chunk_inside c =
    let t = c.chunk_inside.new.tokenizer in
    run-short (n.Flow flow.BeforeContent) (world c.args.tokenizer.now) t
    (chunk-short t
    (wanted c.chunk_inside.result (IsFullOf (Resolvers ∷ Events ∷ Frames ∷ []) t) c.in-Error-chunk_inside.is
    c.chunk_inside.ensures.full))

-- the line ends after what was seen of it
ended-there : (a u v x : World) → SeesAll Line a u → u.point.index < u.setting.limit → v ≡ reading u →
    x ≡ (chunk_transition content.ChunkInside v).world → x ≡ (chunk_inside_code (reading u) true).world
ended-there a u v x all lt sees new =
    new ∙ ap (λ (y : World). (chunk_transition content.ChunkInside y).world) sees
    ∙ ap (λ (y : Transition). y.world) (ends-there a u all lt)

pub line_end-requires : goal.line_end-requires
line_end-requires c =
    let u = world c.see_line.new.self in
    let x = world c.chunk_inside.new.tokenizer in
    let new = ended-there (world c.chunk_start.new.tokenizer) u (world c.see_or_wait.new.self) x c.see_line.ensures
    (ahead (c.if-see_or_wait.ensures.is_continued refl)) (c.if-see_or_wait.ensures.sees refl)
    (c.chunk_inside.ensures.world c.in_default-chunk_inside.not-Error) in
    record { current = subst (λ (y : World). y.current ≡ looks y) (sym new) refl; has = tt }

pub returns : goal.returns
returns c =
    let w = world c.args.tokenizer.now in
    let u = world c.see_line.new.self in
    let x = world c.chunk_inside.new.tokenizer in
    let lt = ahead (c.if-see_or_wait.ensures.is_continued refl) in
    let new = ended-there (world c.chunk_start.new.tokenizer) u (world c.see_or_wait.new.self) x c.see_line.ensures lt
    (c.if-see_or_wait.ensures.sees refl) (c.chunk_inside.ensures.world c.in_default-chunk_inside.not-Error) in
    let arrived : ArrivedHere FlowStep (n.Flow flow.BeforeContent) w (n.Flow flow.After) x =
    content-ends w u x c.requires.current (within-world c.args.tokenizer.now)
    (seen-from w (world c.chunk_start.new.tokenizer) u (c.chunk_start.ensures.world c.in_default.not-Error)
    c.see_line.ensures) lt new in
    record {
      runs = λ fine is_end.
          arrived-runs FlowStep is_end (n.Flow flow.BeforeContent) (n.Flow flow.After) w x c.line_end.result
          (world c.line_end.new.tokenizer) (arrived is_end) (c.line_end.ensures.runs fine is_end);
      sees = λ fine. c.line_end.ensures.sees fine w;
      full =
          wants-following (n.Flow flow.BeforeContent) (n.Flow flow.After) w x c.line_end.result
          c.line_end.new.tokenizer arrived c.line_end.ensures.full;
    }
