use Rattle.std.proofs.Common.{subst, sym}
use Rattle.std.proofs.lemmas.Result.{on_ok_weaker}
use Rattle.md_events.specs.Parts.{ArePlaced}
use Rattle.markdown_blocks.proofs.PartBlocks.{all-lines, all-placed, all-whole}
use Rattle.markdown_blocks.proofs.parts.LineReaderReader.read.Goals as goal

pub read_into-requires-clause-lines : goal.read_into-requires-clause-lines
read_into-requires-clause-lines c =
    all-lines c.args.self.now.state.now.bytes.now c.args.chunks.now c.requires.asked.each

pub read_into-requires-clause-whole : goal.read_into-requires-clause-whole
read_into-requires-clause-whole c =
    all-whole c.args.self.now.state.now.bytes.now c.args.chunks.now c.requires.asked.each

pub returns-clause-placed : goal.returns-clause-placed
returns-clause-placed c =
    on_ok_weaker c.read_into.result
    (λ same.
    subst (ArePlaced c.args.self.now.state.now.bytes.now) (sym same)
    (all-placed c.args.self.now.state.now.bytes.now c.args.chunks.now c.requires.asked.each))
    c.read_into.ensures
