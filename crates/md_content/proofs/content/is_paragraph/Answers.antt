use Rattle.std.proofs.Common.{◌∙◌, sym}
use Rattle.md_content.proofs.WholeLines.{whole-lines}
use Rattle.md_content.proofs.content.is_paragraph.Goals as goal

pub returns-then-not-may_define_at : goal.returns-then-not-may_define_at
returns-then-not-may_define_at c = λ lines options.
    whole-lines c.args.bytes.now options c.args.chunks.now _ c.requires
    (c.may_define_at.ensures c.if-not-may_define_at.true) (sym c.are_lines.ensures ∙ lines)
