use Rattle.std.proofs.Common.{ap, ◌∙◌}
use Rattle.std.specs.List.{prefix_len}
use Rattle.md_resolve.proofs.TextLaws.{front-set, no_run, slice-from}
use Rattle.md_resolve.proofs.heading_text.until_text.Goals as goal

pub returns-clause-set : goal.returns-clause-set
returns-clause-set c =
    front-set c.args.events.now c.passing-opening.result c.passing.result c.requires.inside
    c.passing-opening.ensures.value
    (c.passing.ensures.value ∙ ap (prefix_len no_run) (slice-from c.passing-opening.result c.args.events.now))
