use Rattle.std.proofs.Common.{◌≡◌, ◌∙◌, ◌+◌, [], ◌∷◌, drop, get_or, sym, arith}
use Rattle.md_scan.specs.Definitions.{texts}
use Rattle.reference_tree.proofs.DefinitionLemmas.{with_lines-closed, with_lines-broken, with_lines-open}
use Rattle.md_scan.proofs.DefinitionLemmas.{texts-drop, texts-drop_all}
use Rattle.reference_tree.proofs.DefinitionLemmas.{with_lines-end, texts-push}
use Rattle.reference_tree.proofs.definition.enclosed_lines.Goals as goal

pub returns-in-Broken : goal.returns-in-Broken
returns-in-Broken c = sym (with_lines-broken _ _ _ _ _ c.in-Broken.ensures) ∙ c.lines.invariant

pub returns-in-Closed : goal.returns-in-Closed
returns-in-Closed c =
    rw (texts-push _ _ _ c.in_ok-push-in-Closed.ensures)
    (sym (with_lines-closed _ _ _ _ _ _ _ c.in-Closed.ensures) ∙ c.lines.invariant)

pub returns-then-next-lines : goal.returns-then-next-lines
returns-then-next-lines c =
    sym (with_lines-end _ _ _ _ _ (texts-drop_all c.args.lines.now c.lines.next (omega arith)) c.in-Open.ensures)
    ∙ c.lines.invariant

pub lines-preserved : goal.lines-preserved
lines-preserved c =
    let next : texts (drop c.lines.next c.args.lines.now) ≡
    (get_or c.args.lines.now c.lines.next record { ref_ptr = (0, 0); now = [] }).now
    ∷ texts (drop (c.lines.next + 1) c.args.lines.now) = texts-drop c.args.lines.now c.lines.next _ (omega arith) in
    rw (texts-push _ _ _ c.in_ok-push-in-Open.ensures, ← next)
    (sym (with_lines-open _ _ _ _ _ c.in-Open.ensures) ∙ c.lines.invariant)
