use Rattle.std.proofs.Common.{◌-◌, length, sym, ◌∙◌, ap, arith}
use Rattle.reference_tree.specs.Rests.{rest_meaning}
use Rattle.reference_tree.specs.Trees.{meanings}
use Rattle.reference_tree.specs.States.{taken_option, within}
use Rattle.reference_tree.proofs.PathLemmas.{opened-none, opened-next, opened-end}
use Rattle.reference_tree.proofs.step.open_all.Goals as goal

pub returns-in_default : goal.returns-in_default
returns-in_default c =
    ap (within c.loop-count.frames.items)
    (sym
    (opened-none c.args.options.now (length c.args.rest.bytes.now - c.loop-count.count)
    (rest_meaning c.loop-count.left) (sym c.opens.ensures ∙ ap taken_option c.in_default.is)))
    ∙ c.loop-count.invariant

pub loop-count-preserved : goal.loop-count-preserved
loop-count-preserved c =
    opened-next c.args.options.now c.loop-count.frames.items c.push.new.items.items
    (record { before = c.new.result; container = c.in-Some.next.container })
    (length c.args.rest.bytes.now) c.loop-count.count
    (rest_meaning c.loop-count.left) (rest_meaning c.in-Some.next.rest) c.loop-count-test.true
    c.in_ok-push.ensures
    (ap (λ xs. meanings xs) c.new.ensures) (sym c.opens.ensures ∙ ap taken_option c.in-Some.is)
    ∙ c.loop-count.invariant

pub returns : goal.returns
returns c =
    ap (within c.loop-count.frames.items)
    (sym
    (opened-end c.args.options.now (length c.args.rest.bytes.now) c.loop-count.count (rest_meaning c.loop-count.left)
    (omega arith)))
    ∙ c.loop-count.invariant
