use Rattle.std.proofs.Common.{◌≡◌, string_bytes}
use Rattle.std.proofs.lemmas.Result.{IfOk-weaker}
use Rattle.md_wrap.specs.Footnoted.{IsFootnoteOf, footnoted}
use Rattle.md_wrap.proofs.FootnoteLaw.{footnote-is}
use Rattle.md_wrap.proofs.wrap.footnote.Goals as goal

pub returns : goal.returns
returns c =
    IfOk-weaker c.prefixed.result (λ footnote. string_bytes footnote ≡ footnoted c.args.value.now)
    (λ footnote. IsFootnoteOf c.args.options.now c.args.value.now (string_bytes footnote))
    (λ footnote is. footnote-is c.args.options.now c.args.value.now (string_bytes footnote) is) c.prefixed.ensures
