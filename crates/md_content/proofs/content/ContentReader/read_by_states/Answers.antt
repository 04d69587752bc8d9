use Rattle.std.proofs.Common.{ap, refl, sym, subst, arith, ◌≡◌, ◌∙◌, ◌-◌, ℕ, suc, List, [], ◌++◌, length, take, drop}
use Rattle.std.proofs.Math.Seq.{take-append_seam}
use Rattle.md_engine.specs.declared.event.Event.{Event}
use Rattle.md_engine.specs.World.{Setting, World, fresh, world}
use Rattle.md_content.specs.ContentReads.{first_of, settled, skipping_all}
use Rattle.md_content.proofs.ContentReadsLemmas.{end-at, first-at, part-read, small-at, skipping-more}
use Rattle.md_events.specs.Parts.{ArePlaced}
use Rattle.md_events.proofs.Settings.{flushes-setting}
use Rattle.md_content.proofs.content.ContentReader.read_by_states.Goals as goal

pub new-tokenizer-requires : goal.new-tokenizer-requires
new-tokenizer-requires c = (c.requires.each 0 _ c.requires.some).first

pub loop-chunk-init : goal.loop-chunk-init
loop-chunk-init c =
    let v : world c.new-tokenizer.result ≡
    fresh c.args.self.now.bytes.now c.args.self.now.options.now (first_of c.args.chunks.now) =
    c.new-tokenizer.ensures
    ∙ ap (fresh c.args.self.now.bytes.now c.args.self.now.options.now)
    (first-at c.args.chunks.now _ c.requires.some) in
    let empty : c.replace-list.result.items ≡ [] = rw c.replace-list.ensures.value c.clear.ensures.items in
    let w = c.set_events.ensures ∙ without-events _ _ _ v refl empty in
    record {
      bytes = ap (λ (x : World). x.setting.bytes) w;
      scratch = ap (λ (x : World). x.scratch) w;
      frames = ap (λ (x : World). x.frames) w;
      skips = ap (λ (x : World). skipping_all x c.args.chunks.now) w;
    }
  where
    without-events : (x y : World) (events : List Event) → x ≡ y → y.events ≡ [] → events ≡ [] →
        record x { events = events } ≡ y
    without-events x y events same none empty =
        ap (λ (z : World). record z { events = events }) same
        ∙ ap (λ (l : List Event). record y { events = l }) (empty ∙ sym none)

pub define_skip-requires : goal.define_skip-requires
define_skip-requires c =
    rw c.loop-chunk.invariant.bytes (c.requires.each c.loop-chunk.chunk-index _ (omega arith)).first

pub loop-chunk-preserved : goal.loop-chunk-preserved
loop-chunk-preserved c =
    let w = c.in_ok-define_skip.ensures.world in
    record {
      bytes = ap (λ (x : World). x.setting.bytes) w ∙ c.loop-chunk.invariant.bytes;
      scratch = ap (λ (x : World). x.scratch) w ∙ c.loop-chunk.invariant.scratch;
      frames = ap (λ (x : World). x.frames) w ∙ c.loop-chunk.invariant.frames;
      skips = skipping-more _ _ _ _ _ _ c.loop-chunk-test.true w c.loop-chunk.invariant.skips;
    }

pub returns : goal.returns
returns c =
    let kept = flushes-setting _ _ _ _ _ _ _
    (record { setting = λ n w f v r. ap (λ (x : World). x.setting) r.1 }) c.in_ok-flush.ensures in
    let pushed = c.push.ensures.setting c.in_default.not-Error in
    let same : c.flush.new.tokenizer.bytes.now ≡ c.args.self.now.bytes.now = ap (λ (x : Setting). x.bytes) kept
    ∙ ap (λ (x : Setting). x.bytes) pushed ∙ c.loop-chunk.invariant.bytes in
    let count : length c.args.chunks.now ≡ suc (length c.args.chunks.now - 1) = omega (arith, c.requires.some) in
    let read = part-read _ _ _ _ _ _ _ _ _ _ _ c.loop-chunk-test.false c.loop-chunk.invariant.skips (end-at _ _ _ count)
    (small-at _ _ _ _ c.requires (omega arith)) (c.push.ensures.runs c.in_default.not-Error) pushed
    (λ n old m v r. r.1) c.in_ok-flush.ensures in
    let sound = rw same at c.flush.new.tokenizer.sound.right in
    let back = written c.settle.new.events c.flush.new.tokenizer.events.items c.flush.new.tokenizer.events.len
    (c.settle.auto.events ∙ c.deref_mut.ensures.len) in
    record {
      placed =
          subst (ArePlaced c.args.self.now.bytes.now) (sym back)
          (c.settle.ensures.placed c.args.self.now.bytes.now c.requires
          (subst (ArePlaced c.args.self.now.bytes.now) (sym c.deref_mut.ensures.value) sound));
      events = back ∙ c.settle.ensures.settled ∙ ap (settled c.args.chunks.now) c.deref_mut.ensures.value ∙ read;
    }
  where
    written : (new items : List Event) (n : ℕ) → length new ≡ n → take n (new ++ drop (length new) items) ≡ new
    written new items n is = rw (← is) (take-append_seam new (drop (length new) items))
