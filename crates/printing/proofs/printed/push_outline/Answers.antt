use Rattle.std.proofs.Common.{◌∙◌, sym}
use Rattle.md_program.specs.Page.{written_on}
use Rattle.printing.proofs.PartsPrinted.{all-printed, none-left}
use Rattle.printing.proofs.printed.push_outline.Goals as goal

pub returns : goal.returns
returns c =
    all-printed (written_on c.loop-rest.output) _ c.args.state.now.bytes.now c.loop-rest.rest.now
    (none-left c.loop-rest.rest.now (sym c.is_empty.ensures ∙ c.loop-rest-test.false)) c.loop-rest.invariant.lines
