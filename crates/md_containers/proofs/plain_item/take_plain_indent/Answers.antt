use Rattle.std.proofs.Common.{◌≡◌, ◌∙◌, ℕ, ap, refl, subst, sym}
use Rattle.md_engine.specs.declared.event.Event.{Event}
use Rattle.md_engine.specs.declared.event.Point.{Point}
use Rattle.md_engine.specs.Place.{IsPlaced}
use Rattle.md_engine.specs.Staying.{along}
use Rattle.md_engine.specs.World.{setting_of, world}
use Rattle.md_engine.proofs.Sound.{sound-moved}
use Rattle.md_containers.specs.Ahead.{ahead}
use Rattle.md_containers.specs.Item.{least_width}
use Rattle.md_engine.proofs.Sound.{sound-put}
use Rattle.md_containers.proofs.PlainItem.{indent-ahead}
use Rattle.md_containers.proofs.plain_item.take_plain_indent.Goals as goal

pub invariant_of-tokenizer : goal.invariant_of-tokenizer
invariant_of-tokenizer c =
    let t = c.args.tokenizer.now in
    let P : Event → Type 0 = λ e. IsPlaced t.bytes.now e.point in
    let Q : Point → Type 0 = λ p. IsPlaced t.bytes.now p in
    let at = indent-ahead (world t) c.requires t.sound.readable t.sound.placed in
    let is : c.ahead-to.result ≡ ahead (least_width t.flags.asked) t.point =
    c.ahead-to.ensures ∙ ap (λ (n : ℕ). ahead n t.point) c.at_least_one.ensures in
    let to : IsPlaced t.bytes.now c.ahead-to.result = subst Q (sym is) at.1 in
    record {
      sound =
          rw (c.push_reserved-2.ensures.items, c.push_reserved.ensures.items)
          (sound-moved _ _ _ _ _ _ _
          (sound-put _ _ _ _ _ _ _
          (sound-put _ _ _ _ _ _ _ t.sound (subst P (sym c.enter.ensures) t.sound.placed))
          (subst P (sym c.exit.ensures) to)) to);
      spread = t.spread;
      passed = t.passed;
    }

pub returns-clause-world : goal.returns-clause-world
returns-clause-world c =
    let t = c.args.tokenizer.now in
    let at = indent-ahead (world t) c.requires t.sound.readable t.sound.placed in
    let is : c.ahead-to.result ≡ along (setting_of t) (least_width t.flags.asked) t.point =
    c.ahead-to.ensures ∙ ap (λ (n : ℕ). ahead n t.point) c.at_least_one.ensures ∙ sym at.0 in
    rw (
      c.look-tokenizer.ensures,
      c.push_reserved-2.ensures.items,
      c.push_reserved.ensures.items,
      c.exit.ensures,
      c.enter.ensures,
      is,
    ) refl
