use Rattle.std.proofs.Common.{◌<◌, ◌∙◌, length, ap, arith}
use Rattle.std.proofs.lemmas.List.{take_more}
use Rattle.md_engine.specs.declared.resolve.name.Name.TheVariants.{Label}
use Rattle.md_engine.specs.Run.Resolved.{More, NoneYet}
use Rattle.md_engine.specs.World.{World}
use Rattle.md_engine.proofs.table.resolve_all.Goals as goal

pub loop-name-init : goal.loop-name-init
loop-name-init g c = record {
  resolved = rw (c.new.ensures.items, c.new-2.ensures.items) NoneYet;
  frames = ap (λ (w : World). w.frames) c.take_resolvers-names.ensures.rest ∙ c.requires;
}

pub loop-name-preserved : goal.loop-name-preserved
loop-name-preserved g c =
    let lt : c.loop-name.name-index < length c.deref-name-items.result.now = omega arith in
    let more = take_more c.deref-name-items.result.now c.loop-name.name-index Label lt in
    let step = More _ _ _ _ _ _ c.loop-name.invariant.resolved c.in_ok-more.ensures.resolves in
    record { resolved = rw (more, c.in_ok-append.ensures) step; frames = c.in_ok-more.ensures.frames }
