use Rattle.std.proofs.Common.{List, ℕ, ap, subst, sym}
use Rattle.md_engine.specs.Place.{IsPlaced}
use Rattle.md_engine.specs.World.{World}
use Rattle.md_events.proofs.space_or_tab.take_one_space.Goals as goal

pub add_part-requires-clause-from : goal.add_part-requires-clause-from
add_part-requires-clause-from c =
    subst (λ (l : List ℕ). IsPlaced l c.args.tokenizer.now.point)
    (sym (ap (λ (w : World). w.setting.bytes) c.consume.ensures)) c.args.tokenizer.now.sound.placed
