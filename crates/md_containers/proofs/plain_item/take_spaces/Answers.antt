use Rattle.std.proofs.Common.{◌≡◌, ◌+◌, ℕ, suc, ap, arith, length, refl, ◌∙◌}
use Rattle.md_engine.specs.Staying.{along}
use Rattle.md_engine.specs.World.{World, world}
use Rattle.md_containers.specs.PlainItem.{moved}
use Rattle.md_events.specs.Transition.{taken}
use Rattle.md_containers.proofs.PlainItem.{moved-more, spaces-index}
use Rattle.md_containers.proofs.plain_item.take_spaces.Goals as goal

pub loop-taken-init : goal.loop-taken-init
unfolding along
loop-taken-init c = record { within = omega arith; moved = refl }

pub consume-requires : goal.consume-requires
consume-requires c =
    let w = world c.args.tokenizer.now in
    let count = c.loop-taken.taken in
    let moved_so = c.loop-taken.invariant.moved in
    let lt = c.loop-taken-test.true in
    let at = spaces-index w count (λ k from to. c.requires.spaces k from (omega (arith, to, lt))) in
    let here : (world c.loop-taken.tokenizer).point.index ≡ (moved count w).point.index =
    ap (λ (x : World). x.point.index) moved_so in
    let size : length (world c.loop-taken.tokenizer).setting.bytes ≡ length w.setting.bytes =
    ap (λ (x : World). length x.setting.bytes) moved_so in
    let room = c.requires.inside in
    omega (arith, at, here, size, lt, room)

pub loop-taken-preserved : goal.loop-taken-preserved
loop-taken-preserved c =
    let w = world c.args.tokenizer.now in
    let count = c.loop-taken.taken in
    let lt = c.loop-taken-test.true in
    let one : suc count ≡ count + 1 = omega arith in
    record {
      within = omega (arith, lt);
      moved = c.consume.ensures ∙ ap taken c.loop-taken.invariant.moved ∙ moved-more w count
          ∙ ap (λ (n : ℕ). moved n w) one;
    }
