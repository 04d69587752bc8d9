use Rattle.std.proofs.Common.{subst, sym}
use Rattle.md_engine.specs.declared.event.Event.{Event}
use Rattle.md_engine.specs.declared.event.Point.{Point}
use Rattle.md_engine.specs.Place.{IsPlaced}
use Rattle.md_engine.specs.World.{setting_of, world}
use Rattle.md_engine.proofs.Sound.{sound-moved}
use Rattle.md_engine.proofs.Sound.{sound-put}
use Rattle.md_containers.proofs.Ahead.{TwoAhead}
use Rattle.md_containers.proofs.QuotePrefix.{prefix-ahead}
use Rattle.md_containers.proofs.block_quote.take_plain_prefix.Goals as goal

pub invariant_of-tokenizer : goal.invariant_of-tokenizer
invariant_of-tokenizer c =
    let t = c.args.tokenizer.now in
    let P : Event → Type 0 = λ e. IsPlaced t.bytes.now e.point in
    let Q : Point → Type 0 = λ p. IsPlaced t.bytes.now p in
    let at : TwoAhead (setting_of t) t.point =
    prefix-ahead (world t) c.requires t.sound.placed t.sound.readable in
    let marked : IsPlaced t.bytes.now c.ahead-marked.result = subst Q (sym c.ahead-marked.ensures) at.placed_one in
    let to : IsPlaced t.bytes.now c.ahead-to.result = subst Q (sym c.ahead-to.ensures) at.placed_two in
    record {
      sound =
          rw (
            c.push_reserved-6.ensures.items,
            c.push_reserved-5.ensures.items,
            c.push_reserved-4.ensures.items,
            c.push_reserved-3.ensures.items,
            c.push_reserved-2.ensures.items,
            c.push_reserved.ensures.items,
          )
          (sound-moved _ _ _ _ _ _ _
          (sound-put _ _ _ _ _ _ _
          (sound-put _ _ _ _ _ _ _
          (sound-put _ _ _ _ _ _ _
          (sound-put _ _ _ _ _ _ _
          (sound-put _ _ _ _ _ _ _
          (sound-put _ _ _ _ _ _ _ t.sound
          (subst P (sym c.enter.ensures) t.sound.placed)) (subst P (sym c.enter-2.ensures) t.sound.placed))
          (subst P (sym c.exit.ensures) marked)) (subst P (sym c.enter-3.ensures) marked))
          (subst P (sym c.exit-2.ensures) to)) (subst P (sym c.exit-3.ensures) to)) to);
      spread = t.spread;
      passed = t.passed;
    }
