use Rattle.md_engine.specs.World.{world}
use Rattle.markdown_blocks.proofs.TextRule.Calls.{paragraph_lines}
use Rattle.markdown_blocks.proofs.construct.paragraph.start.Goals as goal

pub returns-clause-line : goal.returns-clause-line
returns-clause-line c =
    λ ok.
    paragraph_lines (world c.args.tokenizer.now) (world c.start.new.tokenizer) c.start.result (c.start.ensures.rule ok)
