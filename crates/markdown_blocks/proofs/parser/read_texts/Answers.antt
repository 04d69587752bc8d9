use Rattle.std.proofs.Common.{arith}
use Rattle.md_engine.specs.World.{world}
use Rattle.markdown_blocks.proofs.TextsRead.{texts_of}
use Rattle.markdown_blocks.proofs.parser.read_texts.Goals as goal

pub returns-clause-texts : goal.returns-clause-texts
returns-clause-texts c =
    texts_of c.args._start (world c.args.tokenizer.now) _ (world c.read_content.new.tokenizer)
    c.requires.built (omega (arith, c.requires.small)) c.requires.begins c.requires.lines c.in_ok-read.ensures.content
