use Rattle.std.proofs.Common.{sym, ◌∙◌}
use Rattle.markdown_inlines.proofs.PlainLemmas.{no-string_atom}
use Rattle.markdown_inlines.proofs.atom.string_atom.Goals as goal

pub returns-then-not-may_begin_string_atom : goal.returns-then-not-may_begin_string_atom
returns-then-not-may_begin_string_atom c =
    sym
    (no-string_atom c.args.options.now c.args.text.now
    (sym c.may_begin_string_atom.ensures ∙ c.if-not-may_begin_string_atom.true))
