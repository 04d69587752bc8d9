use Rattle.std.proofs.Common.{◌≡◌, ◌∙◌, IfOk, ap, arith, subst, sym, take}
use Rattle.std.proofs.lemmas.List.{length-set}
use Rattle.md_meaning.specs.State.{Path, At}
use Rattle.reference_tree.specs.Rests.{rest_meaning}
use Rattle.reference_tree.specs.States.{path_meaning, spot_meaning, taken_option, within}
use Rattle.reference_tree.proofs.StepLemmas.{continued-next, continued-not, continued-all}
use Rattle.reference_tree.proofs.step.step.Goals as goal

pub loop-index-preserved : goal.loop-index-preserved
loop-index-preserved c = record {
  count =
      length-set c.loop-index.path.frames.items c.loop-index.index
      (record { before = c.index_mut-frame.result.now.before; container = c.in-Some.taken.container })
      ∙ c.loop-index.invariant.count;
  path = c.loop-index.invariant.path
      ∙ continued-next c.args.options.now c.loop-index.path.frames.items c.index.result.now c.index_mut-frame.result.now
      c.in-Some.taken.container
      (At (spot_meaning c.loop-index.path.spot))
      (rest_meaning c.loop-index.rest) (rest_meaning c.in-Some.taken.rest) c.loop-index.index
      (omega arith) c.index.ensures c.index_mut-frame.ensures.value
      (sym c.continues.ensures ∙ ap taken_option c.in-Some.is);
}

pub returns-in_default : goal.returns-in_default
returns-in_default c =
    let path = c.loop-index.path in
    subst (λ (x : Path). IfOk c.stopped.result (λ p. path_meaning p ≡ x))
    (sym
    (c.loop-index.invariant.path
    ∙ ap (within (take c.loop-index.index path.frames.items))
    (continued-not c.args.options.now path.frames.items c.index.result.now (At (spot_meaning path.spot))
    (rest_meaning c.loop-index.rest) c.loop-index.index
    (omega arith) c.index.ensures
    (sym c.continues.ensures ∙ ap taken_option c.in_default.is)))) c.stopped.ensures

pub returns : goal.returns
returns c =
    let path = c.loop-index.path in
    subst (λ (x : Path). IfOk c.all_continued.result (λ p. path_meaning p ≡ x))
    (sym
    (c.loop-index.invariant.path
    ∙ continued-all c.args.options.now path.frames.items (spot_meaning path.spot) (rest_meaning c.loop-index.rest)
    c.loop-index.index
    (omega arith))) c.all_continued.ensures
