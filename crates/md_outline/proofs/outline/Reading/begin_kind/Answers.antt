use Rattle.std.proofs.Common.{◌∙◌, sym}
use Rattle.md_outline.proofs.KindLemmas.{marker-none}
use Rattle.md_outline.proofs.outline.Reading.begin_kind.Goals as goal

pub returns-in_default-kind_at-clause-read : goal.returns-in_default-kind_at-clause-read
returns-in_default-kind_at-clause-read c =
    sym (marker-none _ _ _ _ _ _ (sym c.kind_at.ensures ∙ c.in_default-kind_at.is))
