use Rattle.std.proofs.lemmas.Result.{IfOk-weaker}
use Rattle.markdown_inlines.specs.Given.{labels_of}
use Rattle.markdown_inlines.proofs.LayerLemmas.{string-of-kind, text-of-kind}
use Rattle.markdown_inlines.proofs.layer.part_tokens.Goals as goal

pub returns-in-Text : goal.returns-in-Text
returns-in-Text c =
    IfOk-weaker c.content_tokens.result _ _
    (λ made is.
    text-of-kind c.args.options.now (labels_of c.args.labels.now) c.args.place c.args.kind c.args.text.now
    c.may_have_check.result made.items c.in-Text.is c.may_have_check.ensures is)
    c.content_tokens.ensures

pub returns-in-String : goal.returns-in-String
returns-in-String c =
    IfOk-weaker c.string_tokens.result _ _
    (λ made is.
    string-of-kind c.args.options.now (labels_of c.args.labels.now) c.args.place c.args.kind c.args.text.now
    made.items c.in-String.is is)
    c.string_tokens.ensures
