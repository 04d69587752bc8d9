use Rattle.std.proofs.Common.{refl, sym, ap}
use Rattle.reference_tree.specs.Trees.{meanings}
use Rattle.reference_tree.proofs.PlacedLemmas.{visited, visited-none}
use Rattle.reference_tree.proofs.order.visit.Goals as goal

pub returns-in_default : goal.returns-in_default
returns-in_default c =
    visited-none c.args.found.now.items c.args.levels.now.items c.args.level (sym c.in_default.ensures.cases)

pub returns : goal.returns
returns c =
    visited c.args.found.now.items c.push.new.items.items
    (record { depth = c.args.level.depth; block = c.in-Some.block })
    c.args.levels.now.items c.push-2.new.items.items c.push-3.new.items.items c.args.level
    (record { depth = c.args.level.depth; blocks = c.in-Some.after })
    (record { depth = c.in_ok-inner.inner; blocks = c.inside.result })
    c.in_ok-push.ensures c.in_ok-push-2.ensures c.in_ok-push-3.ensures
    (ap (λ xs. meanings xs) c.in-Some.ensures.cases.0) refl refl c.in_ok-inner.ensures c.inside.ensures
