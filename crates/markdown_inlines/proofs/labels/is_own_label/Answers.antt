use Rattle.std.proofs.Common.{ap, sym, ◌∙◌}
use Rattle.std.specs.Prelude.{not}
use Rattle.markdown_inlines.proofs.OwnLemmas.{own-broken, own-is, own-long}
use Rattle.markdown_inlines.proofs.labels.is_own_label.Goals as goal

pub returns-then-not-is_short : goal.returns-then-not-is_short
returns-then-not-is_short c = sym (own-long c.args.text.now (sym c.is_short.ensures ∙ c.if-not-is_short.true))

pub returns-then-not-is_whole : goal.returns-then-not-is_whole
returns-then-not-is_whole c = sym (own-broken c.args.text.now (sym c.is_whole.ensures ∙ c.if-not-is_whole.true))

pub returns : goal.returns
returns c =
    ap not c.is_blank.ensures
    ∙ sym
    (own-is c.args.text.now (sym c.is_short.ensures ∙ c.if-not-is_short.false)
    (sym c.is_whole.ensures ∙ c.if-not-is_whole.false))
