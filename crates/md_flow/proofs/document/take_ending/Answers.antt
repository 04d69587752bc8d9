use Rattle.std.proofs.Common.{◌≡◌, arith, subst}
use Rattle.std.specs.Prelude.{slice_index}
use Rattle.md_engine.specs.declared.event.Point.{Point}
use Rattle.md_engine.specs.Place.{IsPlaced}
use Rattle.md_engine.proofs.Sound.{placed-next, sound-moved}
use Rattle.md_flow.proofs.SoundParts.{after_feed, feed-next}
use Rattle.md_flow.proofs.document.take_ending.Goals as goal

pub invariant_of-tokenizer : goal.invariant_of-tokenizer
invariant_of-tokenizer c =
    let t = c.args.tokenizer.now in
    let feed : slice_index t.bytes.now t.point.index ≡ 10 = omega (arith, c.if-tokenizer-index-ne10.false) in
    record {
      sound = sound-moved _ _ (after_feed t.point) _ _ _ _ t.sound
          (subst (λ (p : Point). IsPlaced t.bytes.now p) (feed-next t.bytes.now t.point feed)
          (placed-next t.bytes.now t.point t.sound.placed c.requires));
      spread = t.spread;
      passed = t.passed;
    }
