use Rattle.std.proofs.Common.{ap, sym, ◌∙◌}
use Rattle.std.specs.Prelude.{codes}
use Rattle.md_inlines.specs.RawHtml.{after_comment, after_word}
use Rattle.markdown_inlines.proofs.EndLemmas.{marked-comment, marked-declaration, marked-section}
use Rattle.markdown_inlines.proofs.ends.is_marked_endless.Goals as goal

pub is_comment_endless-requires : goal.is_comment_endless-requires
is_comment_endless-requires c = λ g. ap (after_word (codes "-->")) c.after.ensures ∙ c.requires.comment g 2

pub returns-then-starts_with : goal.returns-then-starts_with
returns-then-starts_with c = λ g.
    marked-comment c.args.text.now (sym c.starts_with.ensures.value ∙ c.if-starts_with.true)
    (ap after_comment (sym c.after.ensures) ∙ c.is_comment_endless.ensures g)

pub returns-then-starts_with-2 : goal.returns-then-starts_with-2
returns-then-starts_with-2 c = λ g.
    marked-section c.args.text.now (sym c.starts_with.ensures.value ∙ c.if-starts_with.false)
    (sym c.starts_with-2.ensures.value ∙ c.if-starts_with-2.true) (c.requires.section g 7)

pub returns : goal.returns
returns c = λ g.
    marked-declaration c.args.text.now (sym c.starts_with.ensures.value ∙ c.if-starts_with.false)
    (sym c.starts_with-2.ensures.value ∙ c.if-starts_with-2.false) (c.requires.declaration g 0)
