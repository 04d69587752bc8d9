use Rattle.std.proofs.Common.{◌-◌, ◌∙◌, arith, length, sym}
use Rattle.md_link_definitions.proofs.PipelessLemmas.{pipe-in-front, pipeless-following}
use Rattle.md_link_definitions.proofs.head.are_ends_pipeless.Goals as goal

pub returns-then-are_pipeless : goal.returns-then-are_pipeless
returns-then-are_pipeless c =
    pipeless-following c.args.bytes.now (length c.args.bytes.now - c.args.many) c.args.many
    c.are_pipeless-then-are_pipeless.result (omega (arith, c.requires.0, c.requires.1))
    (sym c.are_pipeless.ensures ∙ c.if-are_pipeless.true) c.are_pipeless-then-are_pipeless.ensures

pub returns-else-are_pipeless : goal.returns-else-are_pipeless
returns-else-are_pipeless c =
    c.if-are_pipeless.false
    ∙ sym (pipe-in-front c.args.bytes.now c.args.many (sym c.are_pipeless.ensures ∙ c.if-are_pipeless.false))
