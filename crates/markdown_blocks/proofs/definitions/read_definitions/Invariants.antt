use Rattle.std.proofs.Common.{length}
use Rattle.md_events.specs.TextPart.{document_of}
use Rattle.markdown_blocks.proofs.DefinitionLemmas.{ReadsFrom}
use Rattle.markdown_blocks.proofs.definitions.read_definitions.Given as goal

abbrev pub invariant-loop-left : goal.invariant-loop-left
invariant-loop-left g l =
    ReadsFrom (g.I.Inline.reads l.fn.inline (document_of l.fn.state)) l.fn.blocks l.left l.all.items

abbrev pub decreases-loop-left : goal.decreases-loop-left
decreases-loop-left g l = length l.left
