use Rattle.std.proofs.Common.{refl, arith}
use Rattle.reference_tree.proofs.MapLemmas.{map-next}
use Rattle.reference_tree.proofs.preamble.lines_in.Goals as goal

pub loop-rest-preserved : goal.loop-rest-preserved
loop-rest-preserved c =
    map-next (λ v. v.now) (λ x. x.bytes.now) c.loop-rest.lines.items c.push.new.items.items c.rest-item.result.bytes
    c.args.rests.now c.rest-item.result c.loop-rest.rest-index
    (omega arith) c.rest-item.is c.in_ok-push.ensures refl c.loop-rest.invariant
