use Rattle.std.proofs.Common.{◌≡◌, string_bytes}
use Rattle.std.proofs.lemmas.Result.{IfOk-weaker}
use Rattle.md_meaning.specs.Wrapped.{IsQuoteOf, quoted}
use Rattle.md_meaning.proofs.QuoteLaw.{quote-is}
use Rattle.md_wrap.proofs.wrap.quote.Goals as goal

pub returns : goal.returns
returns c =
    IfOk-weaker c.prefixed.result (λ quote. string_bytes quote ≡ quoted c.args.value.now)
    (λ quote. IsQuoteOf c.args.options.now c.args.value.now (string_bytes quote))
    (λ quote is. quote-is c.args.options.now c.args.value.now (string_bytes quote) is) c.prefixed.ensures
