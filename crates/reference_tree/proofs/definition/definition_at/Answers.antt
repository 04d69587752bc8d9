use Rattle.std.proofs.Common.{refl, arith}
use Rattle.md_meaning.specs.Definition.{label_at, definition_at}
use Rattle.md_scan.proofs.DefinitionLemmas.{texts-drop_all}
use Rattle.reference_tree.proofs.definition.definition_at.Goals as goal

pub returns-then-next-lines : goal.returns-then-next-lines
unfolding definition_at label_at
returns-then-next-lines c = rw (texts-drop_all c.args.lines.now c.args.next (omega arith)) refl
