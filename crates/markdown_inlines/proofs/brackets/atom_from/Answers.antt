use Rattle.std.proofs.Common.{sym, ◌∙◌}
use Rattle.markdown_inlines.proofs.PlainLemmas.{bare-atom}
use Rattle.markdown_inlines.proofs.brackets.atom_from.Goals as goal

pub returns-then-is_bare : goal.returns-then-is_bare
returns-then-is_bare c =
    sym
    (bare-atom c.args.options.now c.args.outside c.args.before.now c.args.byte c.requires.is.0 c.args.text.now
    c.requires.is.1 (sym c.is_bare.ensures ∙ c.if-is_bare.true))
