use Rattle.std.proofs.Common.{◌∙◌, map, drop, sym, ap, append-nil, arith}
use Rattle.md_scan.specs.Definitions.{texts}
use Rattle.reference_tree.specs.Definitions.{defined_meaning}
use Rattle.reference_tree.proofs.DefinitionLemmas.{with_definitions, with_definitions-push, definition-smaller}
use Rattle.reference_tree.proofs.DefinitionLemmas.{definition-more, definition-none, texts-moved}
use Rattle.reference_tree.proofs.definition.cut_definitions.Goals as goal

pub loop-definitions-smaller : goal.loop-definitions-smaller
loop-definitions-smaller c =
    definition-smaller c.args.lines.now c.loop-definitions.next _ c.in-Some.found c.in_ok-found.ensures c.in-Some.is

pub loop-definitions-preserved : goal.loop-definitions-preserved
loop-definitions-preserved c =
    with_definitions-push _ _ _ _ c.in_ok-push.ensures
    ∙ ap (with_definitions (map defined_meaning c.loop-definitions.definitions.items))
    (sym
    (definition-more c.args.lines.now c.loop-definitions.next _ c.in-Some.found c.in_ok-found.ensures c.in-Some.is))
    ∙ c.loop-definitions.invariant

pub loop-next-init : goal.loop-next-init
loop-next-init c =
    rw (c.new-remaining.ensures.items)
    (ap (λ ds. (ds, texts (drop c.loop-definitions.next c.args.lines.now)))
    (sym (append-nil (map defined_meaning c.loop-definitions.definitions.items)))
    ∙ ap (with_definitions (map defined_meaning c.loop-definitions.definitions.items))
    (sym (definition-none c.args.lines.now c.loop-definitions.next _ c.in_ok-found.ensures c.in_default.is))
    ∙ c.loop-definitions.invariant)

pub loop-next-preserved : goal.loop-next-preserved
loop-next-preserved c =
    ap (λ ls. (map defined_meaning c.loop-definitions.definitions.items, ls))
    (texts-moved _ _ c.args.lines.now c.loop-next.next _ c.in_ok-push-2.ensures (omega arith))
    ∙ c.loop-next.invariant
