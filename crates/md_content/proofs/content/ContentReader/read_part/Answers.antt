use Rattle.std.proofs.Common.{sym, subst}
use Rattle.std.proofs.lemmas.Result.{on_ok_weaker}
use Rattle.md_content.proofs.WholeLines.{paragraph-placed}
use Rattle.md_events.specs.Parts.{ArePlaced}
use Rattle.md_content.proofs.content.ContentReader.read_part.Goals as goal

pub returns-then-is_paragraph-clause-placed : goal.returns-then-is_paragraph-clause-placed
returns-then-is_paragraph-clause-placed c =
    on_ok_weaker c.write_paragraph.result
    (λ e. subst (ArePlaced c.args.self.now.bytes.now) (sym e)
    (paragraph-placed c.args.self.now.bytes.now c.args.chunks.now c.requires)) c.write_paragraph.ensures

pub returns-then-branch-clause-placed : goal.returns-then-branch-clause-placed
returns-then-branch-clause-placed c = c.in_ok-write_definitions.ensures.placed c.if-branch.true
