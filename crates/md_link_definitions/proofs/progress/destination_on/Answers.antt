use Rattle.std.proofs.Common.{ap, sym, ◌∙◌}
use Rattle.md_link_definitions.specs.Progress.{destination_by}
use Rattle.md_link_definitions.proofs.PlainDestination.{plain-found}
use Rattle.md_link_definitions.proofs.progress.destination_on.Goals as goal

pub returns-then-is_plain_destination : goal.returns-then-is_plain_destination
returns-then-is_plain_destination c =
    sym
    (ap destination_by
    (plain-found c.args.line.now (sym c.is_plain_destination.ensures ∙ c.if-is_plain_destination.true)))
