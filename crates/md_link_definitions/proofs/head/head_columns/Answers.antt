use Rattle.std.proofs.Common.{◌∙◌, sym}
use Rattle.md_link_definitions.proofs.HeadLemmas.{head-alone}
use Rattle.md_link_definitions.proofs.head.head_columns.Goals as goal

pub returns-then-is_pipeless : goal.returns-then-is_pipeless
returns-then-is_pipeless c = head-alone c.args.line.now (sym c.is_pipeless.ensures ∙ c.if-is_pipeless.true)
