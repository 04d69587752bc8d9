use Rattle.std.proofs.Common.{sym, ◌∙◌}
use Rattle.md_resolve.proofs.Unset.{unset-passed}
use Rattle.md_resolve.proofs.pass.is_passed.Goals as goal

pub returns-then-not-is_set : goal.returns-then-not-is_set
returns-then-not-is_set c =
    sym (unset-passed c.args.wanted c.args.event.now (sym c.is_set.ensures ∙ c.if-not-is_set.true))
