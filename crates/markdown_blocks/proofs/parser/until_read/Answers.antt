use Rattle.std.proofs.Common.{◌+◌, List, ap, ◌∙◌}
use Rattle.md_engine.specs.declared.event.Event.{Event}
use Rattle.markdown_blocks.proofs.StaysAlone.{alone-from}
use Rattle.md_events.proofs.SubstitutedLemmas.{to-end}
use Rattle.markdown_blocks.proofs.parser.until_read.Goals as goal

pub returns : goal.returns
returns c =
    let es : List Event = c.args.events.now in
    let known = c.args.known in
    ap (λ n. known + n) (rw (to-end es known) at c.passing.ensures.value) ∙ alone-from es known c.requires.known
