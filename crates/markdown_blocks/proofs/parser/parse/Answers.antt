use Rattle.std.proofs.lemmas.Result.{IfOk-weaker}
use Rattle.markdown_blocks.specs.Parsed.{IsParsed}
use Rattle.markdown_blocks.proofs.Parses.{plain-parsed}
use Rattle.markdown_blocks.proofs.parser.parse.Goals as goal

pub returns : goal.returns
returns c =
    IfOk-weaker c.parse_with.result _
    (λ parsed. IsParsed c.args.value.now c.args.options.now parsed.0.items parsed.1)
    (λ parsed read.
    plain-parsed c.args.value.now c.args.options.now parsed.0.items parsed.1 c.requires.built c.requires.size read)
    c.parse_with.ensures
