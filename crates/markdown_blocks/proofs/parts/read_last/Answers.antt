use Rattle.std.proofs.lemmas.Result.{IfOk-weaker}
use Rattle.markdown_blocks.proofs.PartWhole.{last-read}
use Rattle.markdown_blocks.proofs.parts.read_last.Goals as goal

pub push_lines-requires : goal.push_lines-requires
push_lines-requires c = c.requires.may.begins.placed

pub set_lines-requires-clause-begins : goal.set_lines-requires-clause-begins
set_lines-requires-clause-begins c = c.requires.may.begins

pub part_of-requires-clause-begins : goal.part_of-requires-clause-begins
part_of-requires-clause-begins c = c.requires.may.begins

pub returns : goal.returns
returns c =
    IfOk-weaker c.part_of.result _ _
    (λ part read. last-read c.args.options.now c.args.text.now c.args.start part c.requires.may read)
    c.part_of.ensures
