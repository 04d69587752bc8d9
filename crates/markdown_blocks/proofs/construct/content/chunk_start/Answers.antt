use Rattle.md_engine.specs.World.{world}
use Rattle.markdown_blocks.proofs.TextRule.Calls.{chunk_line}
use Rattle.markdown_blocks.proofs.TextRule.OnText.{line-met}
use Rattle.markdown_blocks.proofs.construct.content.chunk_start.Goals as goal

pub returns-clause-line : goal.returns-clause-line
returns-clause-line c =
    λ ok.
    chunk_line (world c.args.tokenizer.now) (world c.chunk_start.new.tokenizer) c.chunk_start.result (c.chunk_start.ensures.rule ok)

pub returns-clause-met : goal.returns-clause-met
returns-clause-met c = line-met (world c.args.tokenizer.now) c.args.tokenizer.now.sound.placed
