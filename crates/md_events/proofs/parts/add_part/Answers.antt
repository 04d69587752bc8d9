use Rattle.std.proofs.Common.{subst, sym}
use Rattle.md_engine.specs.declared.event.Event.{Event}
use Rattle.md_engine.specs.Place.{IsPlaced}
use Rattle.md_engine.proofs.Sound.{sound-put}
use Rattle.md_events.proofs.parts.add_part.Goals as goal

pub add_growing-requires-clause-first : goal.add_growing-requires-clause-first
add_growing-requires-clause-first c =
    subst (λ (e : Event). IsPlaced c.args.tokenizer.now.bytes.now e.point) (sym c.begin.ensures) c.requires.from

pub add_growing-requires-clause-last : goal.add_growing-requires-clause-last
add_growing-requires-clause-last c =
    subst (λ (e : Event). IsPlaced c.args.tokenizer.now.bytes.now e.point) (sym c.end.ensures) c.requires.to

pub invariant_of-tokenizer : goal.invariant_of-tokenizer
invariant_of-tokenizer c = record {
  sound =
      rw (c.push_reserved-2.ensures.items, c.push_reserved.ensures.items, c.end-2.ensures, c.begin-2.ensures)
      (sound-put _ _ _ _ _ _ _ (sound-put _ _ _ _ _ _ _ c.args.tokenizer.now.sound c.requires.from) c.requires.to);
  spread = c.args.tokenizer.now.spread;
  passed = c.args.tokenizer.now.passed;
}
