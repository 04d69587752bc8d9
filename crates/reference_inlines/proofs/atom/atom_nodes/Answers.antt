use Rattle.std.proofs.Common.{◌++◌, ap, ◌∙◌}
use Rattle.reference_inlines.specs.Found.{shape}
use Rattle.reference_inlines.specs.Nodes.{kept}
use Rattle.reference_inlines.proofs.FoundLemmas.{shape-is}
use Rattle.reference_inlines.proofs.atom.atom_nodes.Goals as goal

pub returns : goal.returns
returns c =
    c.in_ok-push_atom.ensures ∙ ap (λ l. l ++ kept (shape c.args.atom)) c.new-made.ensures.items
    ∙ shape-is c.args.atom
