use Rattle.std.proofs.Common.{sym}
use Rattle.md_outline.proofs.KindLemmas.{marker-none}
use Rattle.md_outline.proofs.outline.Reading.begin_marker.Goals as goal

pub returns-else-may_begin-clause-read : goal.returns-else-may_begin-clause-read
returns-else-may_begin-clause-read c = sym (marker-none _ _ _ _ _ _ (c.may_begin.ensures c.if-may_begin.false))
