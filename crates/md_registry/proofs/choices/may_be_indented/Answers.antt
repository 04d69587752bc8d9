use Rattle.std.proofs.Common.{sym, ◌∙◌}
use Rattle.md_engine.specs.World.{world}
use Rattle.proof_literal_laws.proofs.CodeIndented.Look.{code-may}
use Rattle.md_registry.proofs.choices.may_be_indented.Goals as goal

pub returns : goal.returns
returns c = c.may_be_white.ensures ∙ sym (code-may (world c.args.tokenizer.now))
